-- A component that isn't too heavy holds no core module that is: so it stays where those become empty.
use Rattle.std.proofs.Common.{◌≡◌, ◌∙◌, refl, sym, ap, ℕ, ◌+◌, ◌≤◌, ◌<◌, Bool, true, false, cond, nat_lt, List, [], ◌∷◌, map, length, option_map, arith}
use Rattle.std.proofs.lemmas.Bool.Decides.{nat_tests}
use Rattle.comp_model.specs.CoreModules.{CoreModule, Field}
use Rattle.comp_model.specs.Model as m
use Rattle.comp_model.specs.declared.row.ScopeKind.{ScopeKind}
use Rattle.comp_model.specs.Model.{◌▸◌}
use Rattle.comp_model.specs.Weight.{weight_of_leaf, weight_of_leaves, weight_of_nodes, weight_of_defs}
use Rattle.comp_scopes.proofs.RowsRowed.{scope-rowed}
use Rattle.comp_tree.specs.Model.{leaf_of, leaves_of, nodes_of, scope_of, defs_of, core_at, id_of, lent_text, names_at}
use Rattle.comp_tree.specs.declared.tree.Leaf.{Leaf}
use Rattle.comp_tree.specs.declared.tree.Leaf as l
use Rattle.comp_tree.specs.declared.tree.Scope as s
use Rattle.comp_weight.specs.FromText.{FromText}
use Rattle.comp_weight.proofs.Fair.{held_names, held_names_of, held_names_in, FairLeaf, FairLeaves, FairNodes, FairDefs}
use Rattle.comp_weight.proofs.FairRows.{fair-defs}
use Rattle.core_model.specs.Module.{module_with}
use Rattle.core_model.specs.Weight.{core_weight, module_weight, weight_alone}
use Rattle.core_syntax.specs.Measures.{capped}
use Rattle.tree_build.specs.Cores.{fields_at, no_naming, module_of}
use Rattle.tree_build.specs.declared.cores.NamedModule.{NamedModule}
use Rattle.wast_component.specs.Encodable.{weight_of}
use Rattle.wast_component.specs.Modules.{light_fields, all_light, light_module, AreLight}

-- ---- one module

kept : {A : Type 0} (n : ℕ) (x y : A) → n ≤ 67_108_864 → cond (nat_lt 67_108_864 n) x y ≡ y
kept n x y h = let less : nat_lt 67_108_864 n ≡ false = grind (arith, nat_tests, h) in rw less refl

light_kept : (c : CoreModule) → weight_alone c ≤ 67_108_864 → light_module c ≡ c
light_kept c h = kept (weight_alone c) (module_with no_naming []) c h

fields_kept : (fs : List Field) → core_weight fs ≤ 67_108_864 → light_fields fs ≡ fs
fields_kept fs h = kept (core_weight fs) [] fs h

-- by a weight that is no greater number than the program's
pub fields_light : (fs : List Field) (n : ℕ) → n ≡ capped (core_weight fs) → n ≤ 67_108_864 → core_weight fs ≤ 67_108_864
fields_light fs n is h = grind (arith, is, h)

pub same_fields : (fs : List Field) (n : ℕ) → n ≡ capped (core_weight fs) → n ≤ 67_108_864 → fs ≡ light_fields fs
same_fields fs n is h = sym (fields_kept fs (fields_light fs n is h))

pub no_fields : (fs : List Field) (n : ℕ) → n ≡ capped (core_weight fs) → 67_108_864 < n → [] ≡ light_fields fs
no_fields fs n is h = let more : nat_lt 67_108_864 (core_weight fs) ≡ true = grind (arith, nat_tests, is, h) in rw more refl

light_alone : (b : Bool) (c : CoreModule) → nat_lt 67_108_864 (weight_alone c) ≡ b → weight_alone (cond b (module_with no_naming []) c) ≤ 67_108_864
light_alone true c h = omega arith
light_alone false c h = grind (arith, nat_tests, h)

pub all_are_light : (cs : List CoreModule) → AreLight (map light_module cs)
all_are_light [] = tt
all_are_light (c ∷ cs) = (light_alone (nat_lt 67_108_864 (weight_alone c)) c refl, all_are_light cs)

-- the fields of a number
light_at : (fs : List (List Field)) (n : ℕ) → fields_at (all_light fs) n ≡ light_fields (fields_at fs n)
light_at [] n = refl
light_at (f ∷ fs) ℕ.zero = refl
light_at (f ∷ fs) (ℕ.suc n) = light_at fs n

none_behind : {A : Type 0} (f : A → List Field) (xs : List A) (n : ℕ) → length xs ≤ n → fields_at (all_light (map f xs)) n ≡ []
none_behind f [] n h = refl
none_behind f (x ∷ xs) ℕ.zero h = absurd (omega (arith, h))
none_behind f (x ∷ xs) (ℕ.suc n) h = none_behind f xs n (omega (arith, h))

-- the module of an entry that stays, and of one that is without names and fields
pub light_entry : (fs : List (List Field)) (x : NamedModule) → nat_lt 67_108_864 (weight_alone (module_of fs x)) ≡ false → module_of (all_light fs) x ≡ light_module (module_of fs x)
light_entry fs x e =
    let h : weight_alone (module_of fs x) ≤ 67_108_864 = grind (arith, nat_tests, e) in
    ap (λ gs. module_with (record { id = option_map id_of x.id; label = option_map lent_text x.label }) gs) (light_at fs x.fields ∙ fields_kept (fields_at fs x.fields) (omega (arith, h)))
    ∙ sym (light_kept (module_of fs x) h)

pub empty_entry : {A : Type 0} (f : A → List Field) (xs : List A) (n : ℕ) (c : CoreModule) → n ≡ length xs → nat_lt 67_108_864 (weight_alone c) ≡ true → module_with no_naming (fields_at (all_light (map f xs)) n) ≡ light_module c
empty_entry f xs n c i e =
    let heavy : light_module c ≡ module_with no_naming [] = rw e refl in
    ap (module_with no_naming) (none_behind f xs n (omega (arith, i))) ∙ sym heavy

-- ---- a tree, the core modules of which stay

present_weight : (x : m.Leaf) → weight_of_leaf module_weight x ≤ weight_of_leaf module_weight (m.present x)
present_weight (m.node (m.row t ls)) = omega arith
present_weight x = omega arith

core_stays : (cs : List CoreModule) (n : ℕ) → weight_of_leaf module_weight (core_at cs n) + held_names_of (core_at cs n) ≤ 67_108_864 → core_at (map light_module cs) n ≡ core_at cs n
core_stays [] n h = refl
core_stays (c ∷ cs) ℕ.zero h = ap m.core_source (light_kept c (omega (arith, h)))
core_stays (c ∷ cs) (ℕ.suc n) h = core_stays cs n h

module _ (C : List CoreModule) where
  abbrev L : List CoreModule
  L = map light_module C

  mutual
    leaf_stays : (x : Leaf) → FairLeaf (leaf_of C x) → weight_of_leaf module_weight (leaf_of C x) + held_names_of (leaf_of C x) ≤ 67_108_864 → leaf_of L x ≡ leaf_of C x
    leaf_stays (l.Present' p x) f h = let less = present_weight (leaf_of C x) in ap m.present (leaf_stays x f (omega (arith, less, h)))
    leaf_stays (l.Node' p r v q k xs) f h = ap (λ ls. m.node (m.row r ls)) (leaves_stay xs f (omega (arith, h)))
    leaf_stays (l.Nodes' p k xs) f h = ap m.nodes (nodes_stay xs f (omega (arith, h)))
    leaf_stays (l.Inline' u p r v q k xs) f h = ap (λ ls. m.ref u (m.inline (m.row r ls))) (leaves_stay xs f (omega (arith, h)))
    leaf_stays (l.Bundle' u p r v q k xs) f h = ap (λ ls. m.ref u (m.bundle (m.row r ls))) (leaves_stay xs f (omega (arith, h)))
    leaf_stays (l.Core n) f h = core_stays C n h
    leaf_stays (l.Scope' p (s.Scope' k id label q g xs)) f h = ap (λ ds. m.scope (m.scope_of k (option_map id_of id) (option_map lent_text label) ds)) (defs_stay xs f (omega (arith, h)))
    leaf_stays _ f h = refl

    leaves_stay : {k : _} (xs : l.Row_of-Leaf k) → FairLeaves (leaves_of C xs) → weight_of_leaves module_weight (leaves_of C xs) + held_names (leaves_of C xs) ≤ 67_108_864 → leaves_of L xs ≡ leaves_of C xs
    leaves_stay l.end_of-Leaf f h = refl
    leaves_stay (l.more_of-Leaf x xs) f h = ap (λ y. y ▸ leaves_of L xs) (leaf_stays x f.0 (omega (arith, h))) ∙ ap (λ ys. leaf_of C x ▸ ys) (leaves_stay xs f.1 (omega (arith, h)))

    nodes_stay : {k : _} (xs : l.Row_of-Node k) → FairNodes (nodes_of C xs) → weight_of_nodes module_weight (nodes_of C xs) + held_names_in (nodes_of C xs) ≤ 67_108_864 → nodes_of L xs ≡ nodes_of C xs
    nodes_stay l.end_of-Node f h = refl
    nodes_stay (l.more_of-Node r v q k xs rest) f h =
        ap (λ ls. m.one_node (m.row r ls) (nodes_of L rest)) (leaves_stay xs f.0 (omega (arith, h))) ∙ ap (λ ns. m.one_node (m.row r (leaves_of C xs)) ns) (nodes_stay rest f.1 (omega (arith, h)))

    defs_stay : {k : _} (xs : s.Row_of-Def k) → FairDefs (defs_of C xs) → weight_of_defs module_weight (defs_of C xs) ≤ 67_108_864 → defs_of L xs ≡ defs_of C xs
    defs_stay s.end_of-Def f h = refl
    defs_stay (s.more_of-Def origin places span names r v q k xs rest) f h =
        let held = f.0 in
        ap (λ ls. m.one_def (m.define (names_at span.offset names.now) (m.row r ls)) (defs_of L rest)) (leaves_stay xs f.2 (omega (arith, held, h)))
        ∙ ap (λ ds. m.one_def (m.define (names_at span.offset names.now) (m.row r (leaves_of C xs))) ds) (defs_stay rest f.3 (omega (arith, h)))

  pub light_stays : (x : s.Scope) → FromText (scope_of C x) → weight_of (scope_of C x) ≤ 67_108_864 → scope_of L x ≡ scope_of C x
  light_stays (s.Scope' k id label q g xs) t h =
      let kd : ScopeKind = k in
      ap (λ ds. m.scope_of kd (option_map id_of id) (option_map lent_text label) ds)
      (defs_stay xs (fair-defs (defs_of C xs) kd t.rows (scope-rowed (m.scope_of kd (option_map id_of id) (option_map lent_text label) (defs_of C xs)) t.rows t.written) t.numerals t.names) (omega (arith, h)))
