-- Wrong binaries with the right marks in the right order, which render nothing.
use Rattle.std.proofs.Common.{◌⊎◌, inl, inr, ◌≡◌, ℕ, zero, suc, List, [], ◌∷◌, slice_get, Option, Some, refl, sym, ◌∙◌, ap, subst, arith}
use Rattle.comp_model.specs.declared.Space.{Space}
use Rattle.comp_model.specs.declared.Space.TheVariants.{Func, Ty, Instance}
use Rattle.comp_model.specs.declared.row.Row.TheVariants as rows
use Rattle.comp_model.specs.Makers as makers
use Rattle.comp_model.specs.Spaces.{Declaration}
use Rattle.comp_model.specs.Core.{outward}
use Rattle.comp_model.specs.Model.{Leaf, Target, text, number, absent, path, root_number, export_of, bundle, ref, no_node, one_node, index, numeral, inline, Leaves, no_leaf, Node, row, no_def, Scope, defs_of, Path, no_names, define, one_def}
use Rattle.comp_model.specs.Origins.{Origin, written, inline_type, inline_export, export_step, Held, no_origins}
use Rattle.comp_scopes.specs.Form.{Made, make, binary_defs, step_node, export_node}
use Rattle.comp_scopes.specs.Renders.{Renders, item, binary_at, leads, LeadsTo, IsLeafOf, IsBundle, IsStep, StepThere, LastStep, NextStep, ExportStands, Use, uses_from, AskedFor, Gives, LeavesAre, leaves_of_node, index_in, first_leaf, later_leaves}
use Rattle.comp_scopes.specs.Names.{Denoted, denotes}
use Rattle.comp_scopes.proofs.Lookup.{some-same}
use Rattle.comp_scopes.proofs.Shorthands.{plain_encoding, id_at, def, exported, bare, component, u8, named, list_of, list_at, mark}
use Rattle.comp_scopes.proofs.Letters.{t}

abbrev s8 : Node
s8 = makers.primitive 0x7e

abbrev pair : Leaf → Leaf → Node
pair l r = makers.tuple_type (one_node (makers.lone_type l) (one_node (makers.lone_type r) no_node))

-- the one definition of a list
only : (m : Made) (p : ℕ) (n : Made) → slice_get (m ∷ []) p ≡ Some n → m ≡ n
only m zero n e = some-same m n e
only m (suc p) n e = absurd (cc)

abbrev number_in : Leaf → ℕ
number_in (number n) = n
number_in _ = 0

-- another type
other_type : Renders plain_encoding [] [] (component (bare u8 no_def)) (component (bare s8 no_def)) (mark (written 0) no_origins) → ⊥
other_type h =
    let w : _ = h.defs.0 in
    let a : 0x7e ≡ number_in (first_leaf w.leaves) = ap (λ m. number_in (first_leaf (leaves_of_node m.made))) (only _ w.position _ w.stands) in
    let b : number_in (first_leaf w.leaves) ≡ 0x7d = ap (λ l. number_in (first_leaf l)) w.fact.are ∙ ap number_in w.fact.first_fact in
    let c : ◌≡◌ {A = ℕ} 0x7e 0x7d = a ∙ b in omega arith

-- an inline type whose use has the index of another
abbrev two_lists : Scope
two_lists = component (bare (pair (ref Ty (inline (list_of (number 0x7d)))) (ref Ty (inline (list_of (number 0x7d))))) no_def)

abbrev one_list : List Made
one_list = make (inline_type 0 0) (list_of (number 0x7d)) ∷ make (inline_type 0 1) (list_of (number 0x7d)) ∷ make (written 0) (pair (ref Ty (index 0)) (ref Ty (index 0))) ∷ []

unused_list : Renders plain_encoding [] [] two_lists (component (binary_defs one_list)) (mark (inline_type 0 0) (mark (inline_type 0 1) (mark (written 0) no_origins))) → ⊥
unused_list h = go (h.marks.used 1 (make (inline_type 0 1) (list_of (number 0x7d))) refl)
  where
    go : AskedFor (Gives one_list 1) (uses_from one_list 0 (defs_of two_lists)) 0 1 inline → ⊥
    go x = at x.stands.position x.asker x.stands.stands x.stands.of_reference x.is_this.declaration x.is_this.declared x.is_this.is_there
      where
        at : (p : ℕ) (y : Use) → slice_get (uses_from one_list 0 (defs_of two_lists)) p ≡ Some y → y.reference ≡ 1 → (d : Declaration) → item one_list y.space y.index ≡ Some d → d.definition ≡ 1 → ⊥
        at zero y e r d f g = let a : ◌≡◌ {A = ℕ} 0 1 = ap (λ u. u.reference) (some-same _ y e) ∙ r in omega arith
        at (suc zero) y e r d f g =
            let a : ◌≡◌ {A = Option Declaration} (item one_list Ty 0) (Some d) = ap (λ u. item one_list u.space u.index) (some-same _ y e) ∙ f in
            let b : ◌≡◌ {A = ℕ} 0 1 = ap (λ o. o.definition) (some-same _ d a) ∙ g in omega arith
        at (suc (suc p)) y e r d f g = absurd (cc)

-- an inline export on another definition
abbrev on_another : List Made
on_another = make (written 0) u8 ∷ make (written 1) s8 ∷ make (inline_export 0 0) (export_node t Ty 1) ∷ []

abbrev space_in : Leaf → Space
space_in (ref s x) = s
space_in _ = Ty

abbrev third_leaf : Made → Leaf
third_leaf m = first_leaf (later_leaves (later_leaves (leaves_of_node m.made)))

export_elsewhere : Renders plain_encoding [] [] (component (exported (t ∷ []) u8 (bare s8 no_def))) (component (binary_defs on_another)) (mark (written 0) (mark (written 1) (mark (inline_export 0 0) no_origins))) → ⊥
export_elsewhere h = go h.marks.exported.0.0
  where
    at : (p : ℕ) (s : Space) (i : ℕ) → slice_get on_another p ≡ Some (make (inline_export 0 0) (export_node t s i)) → (s ≡ Ty) × (i ≡ 1)
    at zero s i e = let a : ◌≡◌ {A = Origin} (written 0) (inline_export 0 0) = ap (λ m. m.origin) (some-same _ _ e) in cc
    at (suc zero) s i e = let a : ◌≡◌ {A = Origin} (written 1) (inline_export 0 0) = ap (λ m. m.origin) (some-same _ _ e) in cc
    at (suc (suc zero)) s i e = (sym (ap (λ m. space_in (third_leaf m)) (some-same _ _ e)), sym (ap (λ m. index_in (third_leaf m)) (some-same _ _ e)))
    at (suc (suc (suc p))) s i e = absurd (cc)

    go : ExportStands on_another 0 0 t → ⊥
    go x =
        let a : (x.space ≡ Ty) × (x.index ≡ 1) = at x.position x.space x.index x.stands in
        let b : ◌≡◌ {A = Option Declaration} (item on_another Ty 1) (Some x.declaration) = subst (λ s. item on_another s 1 ≡ Some x.declaration) a.0 (subst (λ i. item on_another x.space i ≡ Some x.declaration) a.1 x.declared) in
        let c : slice_get on_another 1 ≡ Some x.found = subst (λ d. slice_get on_another d.definition ≡ Some x.found) (sym (some-same _ x.declaration b)) x.found_there in
        let d : ◌≡◌ {A = Origin} (written 1) (written 0) = ap (λ m. m.origin) (some-same _ x.found c) ∙ x.is_written in
        let e : ◌≡◌ {A = ℕ} 1 0 = cc in omega arith

-- a name with the index of another definition
abbrev beside_t : Scope
beside_t = component (def t u8 (bare s8 (bare (list_of (named 0 Ty t)) no_def)))

abbrev led_elsewhere : List Made
led_elsewhere = make (written 0) u8 ∷ make (written 1) s8 ∷ make (written 2) (list_at 1) ∷ []

name_elsewhere : Renders plain_encoding [] [] beside_t (component (binary_defs led_elsewhere)) (mark (written 0) (mark (written 1) (mark (written 2) no_origins))) → ⊥
name_elsewhere h = go h.defs.1.1.0.position h.defs.1.1.0.held h.defs.1.1.0.leaves h.defs.1.1.0.stands h.defs.1.1.0.fact
  where
    to_first : (i : ℕ) → i ≡ 1 → LeadsTo (beside_t ∷ []) (led_elsewhere ∷ []) Ty outward (id_at 0 t) i → ⊥
    to_first i a l =
        let b : ◌≡◌ {A = Option Denoted} (denotes (beside_t ∷ []) Ty outward (id_at 0 t)) (Some l.denoted) = l.denotes_it in
        let c : ◌≡◌ {A = ℕ} 0 l.denoted.item.definition = ap (λ d. d.item.definition) (some-same _ l.denoted b) in
        let d : 0 ≡ l.depth = some-same 0 l.depth l.counts_there in
        let e : ◌≡◌ {A = Option Denoted} (leads (led_elsewhere ∷ []) 0 Ty 1) (Some l.reached) =
        subst (λ n. leads (led_elsewhere ∷ []) n Ty 1 ≡ Some l.reached) (sym d) (subst (λ n. leads (led_elsewhere ∷ []) l.depth Ty n ≡ Some l.reached) a l.leads_there) in
        let f : ◌≡◌ {A = Option Made} (Some (make (written 1) s8)) (Some l.found) = subst (λ r. slice_get (binary_at (led_elsewhere ∷ []) r.depth) r.item.definition ≡ Some l.found) (sym (some-same _ l.reached e)) l.stands in
        let g : ◌≡◌ {A = Origin} (written 1) (written 0) = ap (λ m. m.origin) (some-same _ l.found f) ∙ l.is_written ∙ ap written (sym c) in
        let j : ◌≡◌ {A = ℕ} 1 0 = cc in omega arith

    go : (p : ℕ) (g : Held) (bs : Leaves) → slice_get led_elsewhere p ≡ Some (record { origin = written 2; held = g; made = row rows.ListType bs })
        → LeavesAre bs (λ b. IsLeafOf b (λ i. ref Ty (index i)) (λ i. LeadsTo (beside_t ∷ []) (led_elsewhere ∷ []) Ty outward (id_at 0 t) i)) (λ cs. cs ≡ no_leaf) → ⊥
    go zero g bs e f = let a : ◌≡◌ {A = Origin} (written 0) (written 2) = ap (λ m. m.origin) (some-same _ _ e) in let b : ◌≡◌ {A = ℕ} 0 2 = cc in omega arith
    go (suc zero) g bs e f = let a : ◌≡◌ {A = Origin} (written 1) (written 2) = ap (λ m. m.origin) (some-same _ _ e) in let b : ◌≡◌ {A = ℕ} 1 2 = cc in omega arith
    go (suc (suc zero)) g bs e f =
        let a : 1 ≡ index_in (first_leaf bs) = ap (λ m. index_in (first_leaf (leaves_of_node m.made))) (some-same _ _ e) in
        let b : index_in (first_leaf bs) ≡ f.first_fact.part = ap (λ l. index_in (first_leaf l)) f.are ∙ ap index_in f.first_fact.is_leaf in
        to_first f.first_fact.part (sym (a ∙ b)) f.first_fact.fact
    go (suc (suc (suc p))) g bs e f = absurd (cc)

-- of two definitions neither has such a mark
neither : (P : Origin → Type 0) (x y : Made) (p : ℕ) (m : Made) → slice_get (x ∷ y ∷ []) p ≡ Some m → (P x.origin → ⊥) → (P y.origin → ⊥) → P m.origin → ⊥
neither P x y zero m e f g k = f (subst (λ n. P n.origin) (sym (some-same x m e)) k)
neither P x y (suc zero) m e f g k = g (subst (λ n. P n.origin) (sym (some-same y m e)) k)
neither P x y (suc (suc p)) m e f g k = absurd (cc)

-- an argument written as a list of exports that has the index of a written definition with the same exports
abbrev instantiating : Target → Target → Node
instantiating source argument = makers.instantiate source (one_node (makers.argument t Instance argument) no_node)

abbrev no_bundle : List Made
no_bundle = make (written 0) (makers.bundle no_node) ∷ make (written 1) (instantiating (index 0) (index 0)) ∷ []

bundle_left_out : Renders plain_encoding [] [] (component (bare (makers.bundle no_node) (bare (instantiating (numeral 0 0) (bundle (makers.bundle no_node))) no_def))) (component (binary_defs no_bundle)) (mark (written 0) (mark (written 1) no_origins)) → ⊥
bundle_left_out h = let r : _ = h.defs.1.0.fact.later_fact.first_fact.fact.first_fact.later_fact.first_fact.fact in
    neither IsBundle _ _ r.declaration.definition r.found r.stands (λ k. k) (λ k. k) r.is_marked

-- a path that has the index of a written alias of the same export
abbrev no_step : List Made
no_step = make (written 0) (step_node 0 t Func) ∷ make (written 1) (export_node t Func 0) ∷ []

step_left_out : Renders plain_encoding [] [] (component (bare (makers.alias_export (numeral 0 0) t Func) (bare (makers.export_row (text t) absent Func (path (export_of (root_number 0 0) t))) no_def))) (component (binary_defs no_step)) (mark (written 0) (mark (written 1) no_origins)) → ⊥
step_left_out h = let r : _ = h.defs.1.0.fact.later_fact.later_fact.first_fact.fact in
    neither IsStep _ _ r.declaration.definition r.found r.stands (λ k. k) (λ k. k) r.is_step

-- a path's alias of another instance
abbrev other_root : List Made
other_root = make (export_step 0 0 0) (step_node 1 t Func) ∷ make (written 0) (export_node t Func 0) ∷ []

step_elsewhere : Renders plain_encoding [] [] (component (bare (makers.export_row (text t) absent Func (path (export_of (root_number 0 0) t))) no_def)) (component (binary_defs other_root)) (mark (export_step 0 0 0) (mark (written 0) no_origins)) → ⊥
step_elsewhere h = let r : _ = h.defs.0.fact.later_fact.later_fact.first_fact.fact in go r.declaration.definition r.found r.index r.stands r.is_step r.is_alias r.fact
  where
    go : (p : ℕ) (m : Made) (i : ℕ) → slice_get other_root p ≡ Some m → IsStep m.origin → m.made ≡ step_node i t Func → i ≡ 0 → ⊥
    go zero m i e k a z =
        let b : 1 ≡ i = ap (λ n. index_in (first_leaf (leaves_of_node n))) (ap (λ n. n.made) (some-same _ m e) ∙ a) in
        let c : ◌≡◌ {A = ℕ} 1 0 = b ∙ z in omega arith
    go (suc zero) m i e k a z = subst (λ n. IsStep n.origin) (sym (some-same _ m e)) k
    go (suc (suc p)) m i e k a z = absurd (cc)

-- an inline type that is said to be another definition's
abbrev anothers_list : List Made
anothers_list = make (inline_type 1 0) (list_of (number 0x7d)) ∷ make (written 0) (list_at 0) ∷ make (written 1) u8 ∷ []

abbrev nested_lists : Scope
nested_lists = component (bare (list_of (ref Ty (inline (list_of (number 0x7d))))) (bare u8 no_def))

inline_of_another : Renders plain_encoding [] [] nested_lists (component (binary_defs anothers_list)) (mark (inline_type 1 0) (mark (written 0) (mark (written 1) no_origins))) → ⊥
inline_of_another h = let x : _ = h.marks.used 0 (make (inline_type 1 0) (list_of (number 0x7d))) refl in go x.stands.position x.asker x.stands.stands x.stands.of_definition
  where
    go : (p : ℕ) (y : Use) → slice_get (uses_from anothers_list 0 (defs_of nested_lists)) p ≡ Some y → y.definition ≡ 1 → ⊥
    go zero y e d = let a : ◌≡◌ {A = ℕ} 0 1 = ap (λ u. u.definition) (some-same _ y e) ∙ d in omega arith
    go (suc p) y e d = absurd (cc)

-- a path with the index of something else, where its alias is another path's
abbrev named_t : Target → Node
named_t target = makers.import_row (text t) (makers.described_by rows.FuncDescription target)

abbrev exports_path : Node
exports_path = makers.export_row (text t) absent Func (path (export_of (root_number 0 0) t))

abbrev led_to_import : List Made
led_to_import = make (written 0) (named_t (index 0)) ∷ make (export_step 1 0 0) (step_node 0 t Func) ∷ make (written 1) (export_node t Func 1) ∷ make (written 2) (export_node t Func 0) ∷ []

path_elsewhere : Renders plain_encoding [] [] (component (bare (named_t (numeral 0 0)) (bare exports_path (bare exports_path no_def)))) (component (binary_defs led_to_import))
    (mark (written 0) (mark (export_step 1 0 0) (mark (written 1) (mark (written 2) no_origins)))) → ⊥
path_elsewhere h = go h.defs.1.1.0.position h.defs.1.1.0.held h.defs.1.1.0.leaves h.defs.1.1.0.stands h.defs.1.1.0.fact
  where
    at_import : (i : ℕ) → i ≡ 0 → StepThere led_to_import Func t (λ j. j ≡ 0) i → ⊥
    at_import i z r =
        let a : ◌≡◌ {A = Option Declaration} (item led_to_import Func 0) (Some r.declaration) = subst (λ n. item led_to_import Func n ≡ Some r.declaration) z r.declared in
        let b : ◌≡◌ {A = Option Made} (Some (make (written 0) (named_t (index 0)))) (Some r.found) = subst (λ d. slice_get led_to_import d.definition ≡ Some r.found) (sym (some-same _ r.declaration a)) r.stands in
        subst (λ n. IsStep n.origin) (sym (some-same _ r.found b)) r.is_step

    go : (p : ℕ) (g : Held) (bs : Leaves) → slice_get led_to_import p ≡ Some (record { origin = written 2; held = g; made = row rows.Export bs })
        → LeavesAre bs (λ b. b ≡ text t) (λ cs. LeavesAre cs (λ b. b ≡ absent) (λ ds. LeavesAre ds (λ b. IsLeafOf b (λ i. ref Func (index i)) (λ i. StepThere led_to_import Func t (λ j. j ≡ 0) i)) (λ es. es ≡ no_leaf))) → ⊥
    go zero g bs e f = let a : ◌≡◌ {A = Origin} (written 0) (written 2) = ap (λ m. m.origin) (some-same _ _ e) in let b : ◌≡◌ {A = ℕ} 0 2 = cc in omega arith
    go (suc zero) g bs e f = let a : ◌≡◌ {A = Origin} (export_step 1 0 0) (written 2) = ap (λ m. m.origin) (some-same _ _ e) in cc
    go (suc (suc zero)) g bs e f = let a : ◌≡◌ {A = Origin} (written 1) (written 2) = ap (λ m. m.origin) (some-same _ _ e) in let b : ◌≡◌ {A = ℕ} 1 2 = cc in omega arith
    go (suc (suc (suc zero))) g bs e f =
        let second : _ = f.later_fact in
        let third : _ = second.later_fact in
        let a : 0 ≡ index_in (first_leaf (later_leaves (later_leaves bs))) = ap (λ m. index_in (third_leaf m)) (some-same _ _ e) in
        let b : later_leaves (later_leaves bs) ≡ second.later = ap later_leaves (ap later_leaves f.are ∙ second.are) in
        let c : index_in (first_leaf (later_leaves (later_leaves bs))) ≡ third.first_fact.part = ap index_in (ap first_leaf (b ∙ third.are) ∙ third.first_fact.is_leaf) in
        at_import third.first_fact.part (sym (a ∙ c)) third.first_fact.fact
    go (suc (suc (suc (suc p)))) g bs e f = absurd (cc)

-- a numeral in the place of an inline type
abbrev by_numeral : List Made
by_numeral = make (inline_type 0 0) u8 ∷ make (written 0) (list_at 0) ∷ []

inline_by_numeral : Renders plain_encoding [] [] (component (bare (list_of (ref Ty (numeral 0 0))) no_def)) (component (binary_defs by_numeral)) (mark (inline_type 0 0) (mark (written 0) no_origins)) → ⊥
inline_by_numeral h = let x : _ = h.marks.used 0 (make (inline_type 0 0) u8) refl in go x.stands.position x.asker x.part x.stands.stands x.asks
  where
    is_inline : Target → ℕ
    is_inline (inline n) = 1
    is_inline x = 0

    go : (p : ℕ) (y : Use) (n : Node) → slice_get (uses_from by_numeral 0 (one_def (define no_names (list_of (ref Ty (numeral 0 0)))) no_def)) p ≡ Some y → y.target ≡ inline n → ⊥
    go zero y n e f = let a : is_inline (numeral 0 0) ≡ is_inline (inline n) = ap (λ u. is_inline u.target) (some-same _ y e) ∙ ap is_inline f in omega (arith, a)
    go (suc p) y n e f = absurd (cc)

-- an alias of a path that has the index of an equal one
abbrev two_paths : Scope
two_paths = component (bare exports_path (bare exports_path no_def))

abbrev one_alias : List Made
one_alias = make (export_step 0 0 0) (step_node 0 t Func) ∷ make (export_step 1 0 0) (step_node 0 t Func) ∷ make (written 0) (export_node t Func 0) ∷ make (written 1) (export_node t Func 0) ∷ []

unused_step : Renders plain_encoding [] [] two_paths (component (binary_defs one_alias)) (mark (export_step 0 0 0) (mark (export_step 1 0 0) (mark (written 0) (mark (written 1) no_origins)))) → ⊥
unused_step h = let x : _ = h.marks.used 1 (make (export_step 1 0 0) (step_node 0 t Func)) refl in go x.asker x.whole (at x.stands.position x.asker x.stands.stands x.stands.of_definition) x.leads_on
  where
    second : Use
    second = record { definition = 1; reference = 0; space = Func; target = path (export_of (root_number 0 0) t); index = 0 }

    at : (p : ℕ) (y : Use) → slice_get (uses_from one_alias 0 (defs_of two_paths)) p ≡ Some y → y.definition ≡ 1 → y ≡ second
    at zero y e d = let a : ◌≡◌ {A = ℕ} 0 1 = ap (λ u. u.definition) (some-same _ y e) ∙ d in absurd (omega arith)
    at (suc zero) y e d = sym (some-same _ y e)
    at (suc (suc p)) y e d = absurd (cc)

    marked : (q : ℕ) (n : Node) → slice_get one_alias q ≡ Some (make (export_step 1 0 1) n) → ⊥
    marked zero n e = let a : ◌≡◌ {A = Origin} (export_step 0 0 0) (export_step 1 0 1) = ap (λ m. m.origin) (some-same _ _ e) in cc
    marked (suc zero) n e = let a : ◌≡◌ {A = Origin} (export_step 1 0 0) (export_step 1 0 1) = ap (λ m. m.origin) (some-same _ _ e) in cc
    marked (suc (suc zero)) n e = let a : ◌≡◌ {A = Origin} (written 0) (export_step 1 0 1) = ap (λ m. m.origin) (some-same _ _ e) in cc
    marked (suc (suc (suc zero))) n e = let a : ◌≡◌ {A = Origin} (written 1) (export_step 1 0 1) = ap (λ m. m.origin) (some-same _ _ e) in cc
    marked (suc (suc (suc (suc q)))) n e = absurd (cc)

    go : (y : Use) (whole : Path) → y ≡ second → LastStep (Gives one_alias 1) 0 whole y ⊎ NextStep (Gives one_alias 1) one_alias 1 0 0 → ⊥
    go y whole z (inl l) =
        let a : Gives one_alias 1 Func 0 = subst (λ u. Gives one_alias 1 u.space u.index) z l.is_this in
        let b : ◌≡◌ {A = ℕ} 0 1 = ap (λ d. d.definition) (some-same _ a.declaration a.declared) ∙ a.is_there in omega arith
    go y whole z (inr n) = marked n.position (step_node n.index n.name n.space) n.stands
