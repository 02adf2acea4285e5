-- What the parts weigh one by one is the weight of the whole.
use Rattle.std.proofs.Common.{◌≡◌, ℕ, Option, ◌+◌, List, [], ◌∷◌, refl, ap, ◌∙◌, arith}
use Rattle.comp_model.specs.declared.Space.{Space}
use Rattle.comp_model.specs.Core as core
use Rattle.comp_model.specs.Core.{Text}
use Rattle.comp_model.specs.CoreModules.{CoreModule}
use Rattle.comp_model.specs.Model as m
use Rattle.comp_model.specs.Model.{Path, Leaf, Leaves, no_leaf, ◌▸◌, row, Nodes, no_node, one_node, define, Defs, no_def, one_def, Scope, scope_of}
use Rattle.comp_model.specs.declared.row.ScopeKind.{ScopeKind}
use Rattle.comp_model.specs.Weight.{weight_of_leaf, weight_of_leaves, weight_of_nodes, weight_of_defs, weight_of_scope, weight_of_names, weight_of_path, weight, weight_of_id, weight_of_label}
use Rattle.comp_walks.specs.Lent.{path_from, root_of, target_of}
use Rattle.core_model.specs.Weight.{module_weight}
use Rattle.wast_parser.specs.declared.index.Index.{Index}
use Rattle.wast_parser.specs.declared.index.Index.TheVariants.{Num, Id}
use Rattle.comp_model.specs.Events.{told_leaf, told_leaves, told_nodes, told_defs, told_scope, enters_all}
use Rattle.comp_walks.specs.Weigh.{capped, weigh_step, weight_of_exports}

-- what is added to a number that was capped, once, twice and three times
once : (n a : ℕ) → capped (capped n + a) ≡ capped (n + a)
once n a = omega arith

twice : (n a b : ℕ) → capped (capped (capped n + a) + b) ≡ capped (n + (a + b))
twice n a b = omega arith

module _ (c : CoreModule → ℕ) where
  mutual
    pub leaf_weighed : (l : Leaf) (n : ℕ) → told_leaf (weigh_step c) enters_all l (capped n) ≡ capped (n + weight_of_leaf c l)
    leaf_weighed (m.ref s (m.inline (row t ls))) n = ap (told_leaves (weigh_step c) enters_all ls) (twice n 32 32) ∙ leaves_weighed ls (n + (32 + 32)) ∙ ap capped (omega arith)
    leaf_weighed (m.ref s (m.bundle (row t ls))) n = ap (told_leaves (weigh_step c) enters_all ls) (twice n 32 32) ∙ leaves_weighed ls (n + (32 + 32)) ∙ ap capped (omega arith)
    leaf_weighed (m.present (m.node (row t ls))) n = ap (told_leaves (weigh_step c) enters_all ls) (twice n 32 32) ∙ leaves_weighed ls (n + (32 + 32)) ∙ ap capped (omega arith)
    leaf_weighed (m.present l) n = ap (told_leaf (weigh_step c) enters_all l) (once n 32) ∙ leaf_weighed l (n + 32) ∙ ap capped (omega arith)
    leaf_weighed (m.node (row t ls)) n = ap (told_leaves (weigh_step c) enters_all ls) (twice n 32 32) ∙ leaves_weighed ls (n + (32 + 32)) ∙ ap capped (omega arith)
    leaf_weighed (m.nodes ns) n = ap (told_nodes (weigh_step c) enters_all ns) (once n 32) ∙ nodes_weighed ns (n + 32) ∙ ap capped (omega arith)
    leaf_weighed (m.scope s) n = ap (told_scope (weigh_step c) enters_all s) (once n 32) ∙ scope_weighed s (n + 32) ∙ ap capped (omega arith)
    leaf_weighed l n = once n (weight_of_leaf c l)

    pub leaves_weighed : (ls : Leaves) (n : ℕ) → told_leaves (weigh_step c) enters_all ls (capped n) ≡ capped (n + weight_of_leaves c ls)
    leaves_weighed no_leaf n = omega arith
    leaves_weighed (l ▸ ls) n = ap (told_leaves (weigh_step c) enters_all ls) (leaf_weighed l n) ∙ leaves_weighed ls (n + weight_of_leaf c l) ∙ ap capped (omega arith)

    pub nodes_weighed : (ns : Nodes) (n : ℕ) → told_nodes (weigh_step c) enters_all ns (capped n) ≡ capped (n + weight_of_nodes c ns)
    nodes_weighed no_node n = omega arith
    nodes_weighed (one_node (row t ls) ns) n =
        ap (told_nodes (weigh_step c) enters_all ns) (ap (told_leaves (weigh_step c) enters_all ls) (once n 32) ∙ leaves_weighed ls (n + 32)) ∙ nodes_weighed ns (n + 32 + weight_of_leaves c ls) ∙ ap capped (omega arith)

    pub defs_weighed : (ds : Defs) (n : ℕ) → told_defs (weigh_step c) enters_all ds (capped n) ≡ capped (n + weight_of_defs c ds)
    defs_weighed no_def n = omega arith
    defs_weighed (one_def (define names (row t ls)) ds) n =
        let k : ℕ = 32 + weight_of_names names + 32 in
        ap (told_defs (weigh_step c) enters_all ds) (ap (told_leaves (weigh_step c) enters_all ls) (twice n (32 + weight_of_names names) 32) ∙ leaves_weighed ls (n + k)) ∙ defs_weighed ds (n + k + weight_of_leaves c ls) ∙ ap capped (omega arith)

    pub scope_weighed : (s : Scope) (n : ℕ) → told_scope (weigh_step c) enters_all s (capped n) ≡ capped (n + weight_of_scope c s)
    scope_weighed (scope_of k id label ds) n = ap (told_defs (weigh_step c) enters_all ds) (once n 32) ∙ defs_weighed ds (n + 32) ∙ ap capped (omega arith)

path_weighed : (p : Path) (ts : List Text) → weight_of_path (path_from p ts) ≡ weight_of_path p + weight_of_exports ts
path_weighed p [] = omega arith
path_weighed p (t ∷ ts) = path_weighed (m.export_of p t) ts ∙ omega arith

root_weighed : (i : Index) → weight_of_path (root_of i) ≡ 0
root_weighed (Num n span) = refl
root_weighed (Id x) = refl

-- a reference weighs as its export names
pub target_weighed : (s : Space) (i : Index) (ts : List Text) → weight_of_leaf module_weight (m.ref s (target_of i ts)) ≡ 32 + weight_of_exports ts
target_weighed s (Num n span) [] = refl
target_weighed s (Id x) [] = refl
target_weighed s i (t ∷ ts) =
    let e = path_weighed (root_of i) (t ∷ ts) in
    let z = root_weighed i in
    omega (arith, e, z)

-- a whole component, whose id and label count too
pub component_weighed : (c : CoreModule → ℕ) (k : ScopeKind) (id : Option core.Id) (label : Option Text) (ds : Defs) (start one two three four : ℕ) → start ≡ 0 → one ≡ capped (start + weight_of_id id) → two ≡ capped (one + weight_of_label label)
    → three ≡ capped (two + 32) → four ≡ told_defs (weigh_step c) enters_all ds three → four ≡ capped (weight c (scope_of k id label ds))
component_weighed c k id label ds start one two three four z a b d e =
    let t : three ≡ capped (weight_of_id id + weight_of_label label + 32) = omega (arith, z, a, b, d) in
    e ∙ ap (told_defs (weigh_step c) enters_all ds) t ∙ defs_weighed c ds (weight_of_id id + weight_of_label label + 32) ∙ ap capped (omega arith)
