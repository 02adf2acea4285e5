-- A scope in binary hangs on the bytes of core modules, not on their rule.
use Rattle.std.proofs.Common.{◌≡◌, Bool, true, false, refl, ◌∙◌, ap, None}
use Rattle.core_model.specs.Module.{core_bytes}
use Rattle.comp_model.specs.Core as core
use Rattle.comp_model.specs.CoreModules.{CoreModule}
use Rattle.comp_model.specs.ItemNames.{has_names}
use Rattle.comp_model.specs.Model as m
use Rattle.comp_model.specs.Model.{Leaf, Leaves, no_leaf, ◌▸◌, row, Nodes, no_node, one_node, define, Defs, no_def, one_def, Scope, scope_of, no_names}
use Rattle.comp_scopes.specs.Encoding.{Encoding}
use Rattle.comp_scopes.specs.Form.{coded_node}
use Rattle.comp_scopes.specs.Resolved.{binary_of, binary_of_defs, binary_of_leaf, binary_of_leaves, binary_of_nodes, section_of}
use Rattle.tree_write.specs.Wire.{the_encoding}

module _ (e : Encoding) (same : (c : CoreModule) → e.core_bytes c ≡ core_bytes c) where
  same_section : (s : Scope) (b : Bool) → section_of e s b ≡ section_of the_encoding s b
  same_section s true = refl
  same_section s false = refl

  mutual
    same_defs : (ds more : Defs) → binary_of_defs e ds more ≡ binary_of_defs the_encoding ds more
    same_defs no_def more = refl
    same_defs (one_def (define names (row t ls)) ds) more =
        ap (λ bs. one_def (define no_names (coded_node e t ls bs)) (binary_of_defs e ds more)) (same_leaves ls) ∙ ap (one_def (define no_names (coded_node the_encoding t ls (binary_of_leaves the_encoding ls)))) (same_defs ds more)

    same_leaves : (ls : Leaves) → binary_of_leaves e ls ≡ binary_of_leaves the_encoding ls
    same_leaves no_leaf = refl
    same_leaves (l ▸ ls) = ap (λ x. x ▸ binary_of_leaves e ls) (same_leaf l) ∙ ap (λ xs. binary_of_leaf the_encoding l ▸ xs) (same_leaves ls)

    same_leaf : (l : Leaf) → binary_of_leaf e l ≡ binary_of_leaf the_encoding l
    same_leaf (m.core_value v) = value v
      where
        value : (v : core.CoreValue) → binary_of_leaf e (m.core_value v) ≡ binary_of_leaf the_encoding (m.core_value v)
        value (core.ref_numeral b o n) = refl
        value _ = refl
    same_leaf (m.ref s u) = target u
      where
        target : (u : m.Target) → binary_of_leaf e (m.ref s u) ≡ binary_of_leaf the_encoding (m.ref s u)
        target (m.numeral o n) = refl
        target _ = refl
    same_leaf (m.place p) = place p
      where
        place : (p : core.Place) → binary_of_leaf e (m.place p) ≡ binary_of_leaf the_encoding (m.place p)
        place (core.counted o d) = refl
        place (core.named o x) = refl
    same_leaf (m.present l) = ap m.present (same_leaf l)
    same_leaf (m.node (row t ls)) = ap (λ xs. m.node (row t xs)) (same_leaves ls)
    same_leaf (m.nodes ns) = ap m.nodes (same_nodes ns)
    same_leaf (m.core_source c) = ap m.module_bytes (same c)
    same_leaf (m.scope (scope_of kd id label ds)) =
        let own = scope_of kd id label ds in
        ap (λ more. m.scope (scope_of kd None None (binary_of_defs e ds more))) (same_section own (has_names own)) ∙ ap (λ xs. m.scope (scope_of kd None None xs)) (same_defs ds (section_of the_encoding own (has_names own)))
    same_leaf _ = refl

    same_nodes : (ns : Nodes) → binary_of_nodes e ns ≡ binary_of_nodes the_encoding ns
    same_nodes no_node = refl
    same_nodes (one_node (row t ls) ns) = ap (λ xs. one_node (row t xs) (binary_of_nodes e ns)) (same_leaves ls) ∙ ap (one_node (row t (binary_of_leaves the_encoding ls))) (same_nodes ns)

  pub same_binary : (s : Scope) → binary_of e s ≡ binary_of the_encoding s
  same_binary (scope_of kd id label ds) =
      let own = scope_of kd id label ds in
      ap (λ more. scope_of kd None None (binary_of_defs e ds more)) (same_section own (has_names own)) ∙ ap (scope_of kd None None) (same_defs ds (section_of the_encoding own (has_names own)))
