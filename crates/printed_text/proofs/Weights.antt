-- A source weighs what its binary weighs, and holds no form that is never written where that holds none.
use Rattle.std.proofs.Common.{◌≡◌, ℕ, ◌+◌, false, cond, List, [], ◌∷◌, length, Option, None, Some, refl, sym, ◌∙◌, ap, arith, codes}
use Rattle.comp_model.specs.Core as core
use Rattle.comp_model.specs.Core.{CoreValue, ref_numeral, ref_name, counted, named}
use Rattle.comp_model.specs.CoreModules.{CoreModule}
use Rattle.comp_model.specs.Model as m
use Rattle.comp_model.specs.Model.{Leaf, Leaves, no_leaf, ◌▸◌, Node, row, Nodes, no_node, one_node, Names, no_names, define, Defs, no_def, one_def, Scope, scope_of}
use Rattle.comp_model.specs.declared.row.Row.TheVariants as rows
use Rattle.comp_model.specs.declared.row.Row.{Row}
use Rattle.comp_model.specs.RowNumbers.{same_row}
use Rattle.comp_model.specs.ItemNames.{has_names}
use Rattle.comp_model.specs.Payloads.{producers_payload}
use Rattle.comp_model.specs.Weight.{weight_of_all, weight_of_id, weight_of_label, weight_of_names, weight_of_leaf, weight_of_leaves, weight_of_nodes, weight_of_defs, weight}
use Rattle.comp_model.specs.Covered.{Uncovered, form_of_row, lower_of, form_in_leaves, form_in_leaf, form_in_nodes, held_at, first_held, uncovered_in_defs, uncovered_in_leaves, uncovered_in_leaf, uncovered_in_nodes, first_uncovered}
use Rattle.comp_scopes.specs.Encoding.{Encoding}
use Rattle.comp_scopes.specs.Form.{coded_node, custom_node}
use Rattle.comp_scopes.specs.Resolved.{section_of, binary_of_defs, binary_of_leaves, binary_of_leaf, binary_of_nodes, binary_of}
use Rattle.comp_expanded.specs.IsResolved.{LeavesResolved, LeafResolved, NodesResolved, DefsResolved}
use Rattle.printed_text.specs.Source.{EachNone, Unnamed, LeafUnnamed, LeavesUnnamed, NodesUnnamed, DefsUnnamed, ScopeUnnamed, IsSource}
use Rattle.printed_text.proofs.Standing.{unnamed_has_none}

no_ids : (xs : List (Option core.Id)) → EachNone xs → weight_of_all weight_of_id xs ≡ 0
no_ids [] h = refl
no_ids (x ∷ xs) h = let a : weight_of_id x ≡ 0 = ap weight_of_id h.0 in let b = no_ids xs h.1 in omega (arith, a, b)

no_labels : (xs : List (Option core.Text)) → EachNone xs → weight_of_all weight_of_label xs ≡ 0
no_labels [] h = refl
no_labels (x ∷ xs) h = let a : weight_of_label x ≡ 0 = ap weight_of_label h.0 in let b = no_labels xs h.1 in omega (arith, a, b)

names_weigh_nothing : (ns : Names) → Unnamed ns → weight_of_names ns ≡ 0
names_weigh_nothing ns h =
    let a = no_ids ns.ids h.ids in
    let b = no_labels ns.labels h.labels in
    let c : weight_of_all (λ t. 32 + length t) ns.exports ≡ 0 = ap (weight_of_all (λ t. 32 + length t)) h.exports in
    omega (arith, a, b, c)

-- the node of a definition is of its own row
coded_is : (e : Encoding) (t : Row) (ls bs : Leaves) → same_row t rows.Producers ≡ false → coded_node e t ls bs ≡ row t bs
coded_is e t ls bs h = ap (λ c. cond c (custom_node (codes "producers") (producers_payload ls)) (row t bs)) h

module _ (e : Encoding) (f g : CoreModule → ℕ) where
  mutual
    leaf_weighs : (l : Leaf) → LeafResolved l → LeafUnnamed l → weight_of_leaf f l ≡ weight_of_leaf g (binary_of_leaf e l)
    leaf_weighs (m.core_value (ref_numeral b o n)) r h = refl
    leaf_weighs (m.core_value v) r h = refl
    leaf_weighs (m.ref s (m.numeral o n)) r h = refl
    leaf_weighs (m.ref s (m.index n)) r h = refl
    leaf_weighs (m.ref s (m.name y x)) r h = absurd r
    leaf_weighs (m.ref s (m.path p)) r h = absurd r
    leaf_weighs (m.ref s (m.inline n)) r h = absurd r
    leaf_weighs (m.ref s (m.bundle n)) r h = absurd r
    leaf_weighs (m.place (counted o d)) r h = refl
    leaf_weighs (m.place (named o d)) r h = absurd r
    leaf_weighs (m.present (m.node (row t ls))) r h = ap (λ n. 32 + (32 + n)) (leaves_weigh ls r h)
    leaf_weighs (m.present (m.core_value (ref_numeral b o n))) r h = refl
    leaf_weighs (m.present (m.core_value v)) r h = refl
    leaf_weighs (m.present (m.ref s (m.numeral o n))) r h = refl
    leaf_weighs (m.present (m.ref s (m.index n))) r h = refl
    leaf_weighs (m.present (m.ref s (m.name y x))) r h = absurd r
    leaf_weighs (m.present (m.ref s (m.path p))) r h = absurd r
    leaf_weighs (m.present (m.ref s (m.inline n))) r h = absurd r
    leaf_weighs (m.present (m.ref s (m.bundle n))) r h = absurd r
    leaf_weighs (m.present (m.place (counted o d))) r h = refl
    leaf_weighs (m.present (m.place (named o d))) r h = absurd r
    leaf_weighs (m.present (m.present l)) r h = ap (λ n. 32 + n) (leaf_weighs (m.present l) r h)
    leaf_weighs (m.present (m.nodes ns)) r h = ap (λ n. 32 + (32 + n)) (nodes_weigh ns r h)
    leaf_weighs (m.present (m.scope (scope_of k id label ds))) r h = ap (λ n. 32 + n) (leaf_weighs (m.scope (scope_of k id label ds)) r h)
    leaf_weighs (m.present (m.core_source c)) r h = absurd h
    leaf_weighs (m.present l) r h = refl
    leaf_weighs (m.node (row t ls)) r h = ap (λ n. 32 + (32 + n)) (leaves_weigh ls r h)
    leaf_weighs (m.nodes ns) r h = ap (λ n. 32 + n) (nodes_weigh ns r h)
    leaf_weighs (m.core_source c) r h = absurd h
    leaf_weighs (m.scope (scope_of k id label ds)) r h =
        let none : has_names (scope_of k id label ds) ≡ false = ap (λ i. has_names (scope_of k i label ds)) h.0 ∙ ap (λ l. has_names (scope_of k None l ds)) h.1 ∙ unnamed_has_none k ds h.2 in
        ap (λ n. 32 + (32 + n)) (defs_weigh ds r h.2)
        ∙ sym (ap (λ b. weight_of_leaf g (m.scope (scope_of k None None (binary_of_defs e ds (section_of e (scope_of k id label ds) b))))) none)
    leaf_weighs l r h = refl

    leaves_weigh : (ls : Leaves) → LeavesResolved ls → LeavesUnnamed ls → weight_of_leaves f ls ≡ weight_of_leaves g (binary_of_leaves e ls)
    leaves_weigh no_leaf r h = refl
    leaves_weigh (l ▸ ls) r h = let a = leaf_weighs l r.0 h.0 in let b = leaves_weigh ls r.1 h.1 in omega (arith, a, b)

    nodes_weigh : (ns : Nodes) → NodesResolved ns → NodesUnnamed ns → weight_of_nodes f ns ≡ weight_of_nodes g (binary_of_nodes e ns)
    nodes_weigh no_node r h = refl
    nodes_weigh (one_node (row t ls) ns) r h = let a = leaves_weigh ls r.0 h.0 in let b = nodes_weigh ns r.1 h.1 in omega (arith, a, b)

    defs_weigh : (ds : Defs) → DefsResolved ds → DefsUnnamed ds → weight_of_defs f ds ≡ weight_of_defs g (binary_of_defs e ds no_def)
    defs_weigh no_def r h = refl
    defs_weigh (one_def (define ns (row t ls)) ds) r h =
        let a = leaves_weigh ls r.1 h.1 in
        let b = defs_weigh ds r.2 h.2 in
        let c = names_weigh_nothing ns h.0.0 in
        let w : 32 + weight_of_names ns + (32 + weight_of_leaves f ls) + weight_of_defs f ds ≡ 32 + 0 + (32 + weight_of_leaves g (binary_of_leaves e ls)) + weight_of_defs g (binary_of_defs e ds no_def) = omega (arith, a, b, c) in
        w ∙ sym (ap (λ n. weight_of_defs g (one_def (define no_names n) (binary_of_defs e ds no_def))) (coded_is e t ls (binary_of_leaves e ls) h.0.1))

  scope_weighs : (s : Scope) → LeafResolved (m.scope s) → ScopeUnnamed s → weight f s ≡ weight g (binary_of e s)
  scope_weighs (scope_of k id label ds) r h =
      let a : weight_of_leaf f (m.scope (scope_of k id label ds)) ≡ weight_of_leaf g (m.scope (binary_of e (scope_of k id label ds))) = leaf_weighs (m.scope (scope_of k id label ds)) r h in
      let b : weight_of_id id ≡ 0 = ap weight_of_id h.0 in
      let c : weight_of_label label ≡ 0 = ap weight_of_label h.1 in
      omega (arith, a, b, c)

-- ---- forms

first_none : (x y : Option Uncovered) → first_held x y ≡ None → (x ≡ None) × (y ≡ None)
first_none None y h = (refl, h)
first_none (Some x) y h = absurd (cc)

both_none : (x y : Option Uncovered) → x ≡ None → y ≡ None → first_held x y ≡ None
both_none x y h k = ap (λ z. first_held z y) h ∙ k

held_none : (o : ℕ) (x : Option ℕ) → held_at o x ≡ None → x ≡ None
held_none o None h = refl
held_none o (Some n) h = absurd (cc)

module _ (e : Encoding) (f g : CoreModule → Option Uncovered) where
  mutual
    leaf_form : (l : Leaf) → LeafResolved l → LeafUnnamed l → form_in_leaf l ≡ form_in_leaf (binary_of_leaf e l)
    leaf_form (m.core_value (ref_numeral b o n)) r h = refl
    leaf_form (m.core_value (ref_name b y x)) r h = absurd r
    leaf_form (m.core_value v) r h = refl
    leaf_form (m.ref s (m.numeral o n)) r h = refl
    leaf_form (m.ref s (m.index n)) r h = refl
    leaf_form (m.ref s (m.name y x)) r h = absurd r
    leaf_form (m.ref s (m.path p)) r h = absurd r
    leaf_form (m.ref s (m.inline n)) r h = absurd r
    leaf_form (m.ref s (m.bundle n)) r h = absurd r
    leaf_form (m.place (counted o d)) r h = refl
    leaf_form (m.place (named o d)) r h = absurd r
    leaf_form (m.present l) r h = leaf_form l r h
    leaf_form (m.node (row t ls)) r h = ap (lower_of (form_of_row t)) (leaves_form ls r h)
    leaf_form (m.nodes ns) r h = nodes_form ns r h
    leaf_form (m.core_source c) r h = absurd h
    leaf_form (m.scope (scope_of k id label ds)) r h = refl
    leaf_form l r h = refl

    leaves_form : (ls : Leaves) → LeavesResolved ls → LeavesUnnamed ls → form_in_leaves ls ≡ form_in_leaves (binary_of_leaves e ls)
    leaves_form no_leaf r h = refl
    leaves_form (l ▸ ls) r h = ap (λ x. lower_of x (form_in_leaves ls)) (leaf_form l r.0 h.0) ∙ ap (lower_of (form_in_leaf (binary_of_leaf e l))) (leaves_form ls r.1 h.1)

    nodes_form : (ns : Nodes) → NodesResolved ns → NodesUnnamed ns → form_in_nodes ns ≡ form_in_nodes (binary_of_nodes e ns)
    nodes_form no_node r h = refl
    nodes_form (one_node (row t ls) ns) r h =
        ap (λ x. lower_of (lower_of (form_of_row t) x) (form_in_nodes ns)) (leaves_form ls r.0 h.0) ∙ ap (lower_of (lower_of (form_of_row t) (form_in_leaves (binary_of_leaves e ls)))) (nodes_form ns r.1 h.1)

  mutual
    leaf_covered : (l : Leaf) → LeafResolved l → LeafUnnamed l → uncovered_in_leaf g (binary_of_leaf e l) ≡ None → uncovered_in_leaf f l ≡ None
    leaf_covered (m.core_value v) r h c = refl
    leaf_covered (m.ref s (m.numeral o n)) r h c = refl
    leaf_covered (m.ref s (m.index n)) r h c = refl
    leaf_covered (m.ref s (m.name y x)) r h c = absurd r
    leaf_covered (m.ref s (m.path p)) r h c = absurd r
    leaf_covered (m.ref s (m.inline n)) r h c = absurd r
    leaf_covered (m.ref s (m.bundle n)) r h c = absurd r
    leaf_covered (m.present l) r h c = leaf_covered l r h c
    leaf_covered (m.node (row t ls)) r h c = leaves_covered ls r h c
    leaf_covered (m.nodes ns) r h c = nodes_covered ns r h c
    leaf_covered (m.core_source k) r h c = absurd h
    leaf_covered (m.scope (scope_of k id label ds)) r h c =
        let none : has_names (scope_of k id label ds) ≡ false = ap (λ i. has_names (scope_of k i label ds)) h.0 ∙ ap (λ l. has_names (scope_of k None l ds)) h.1 ∙ unnamed_has_none k ds h.2 in
        defs_covered ds r h.2 (sym (ap (λ b. uncovered_in_defs g (binary_of_defs e ds (section_of e (scope_of k id label ds) b))) none) ∙ c)
    leaf_covered l r h c = refl

    leaves_covered : (ls : Leaves) → LeavesResolved ls → LeavesUnnamed ls → uncovered_in_leaves g (binary_of_leaves e ls) ≡ None → uncovered_in_leaves f ls ≡ None
    leaves_covered no_leaf r h c = refl
    leaves_covered (l ▸ ls) r h c =
        let w = first_none (uncovered_in_leaf g (binary_of_leaf e l)) (uncovered_in_leaves g (binary_of_leaves e ls)) c in
        both_none (uncovered_in_leaf f l) (uncovered_in_leaves f ls) (leaf_covered l r.0 h.0 w.0) (leaves_covered ls r.1 h.1 w.1)

    nodes_covered : (ns : Nodes) → NodesResolved ns → NodesUnnamed ns → uncovered_in_nodes g (binary_of_nodes e ns) ≡ None → uncovered_in_nodes f ns ≡ None
    nodes_covered no_node r h c = refl
    nodes_covered (one_node (row t ls) ns) r h c =
        let w = first_none (uncovered_in_leaves g (binary_of_leaves e ls)) (uncovered_in_nodes g (binary_of_nodes e ns)) c in
        both_none (uncovered_in_leaves f ls) (uncovered_in_nodes f ns) (leaves_covered ls r.0 h.0 w.0) (nodes_covered ns r.1 h.1 w.1)

    defs_covered : (ds : Defs) → DefsResolved ds → DefsUnnamed ds → uncovered_in_defs g (binary_of_defs e ds no_def) ≡ None → uncovered_in_defs f ds ≡ None
    defs_covered no_def r h c = refl
    defs_covered (one_def (define ns (row t ls)) ds) r h c =
        let bs : Leaves = binary_of_leaves e ls in
        let rest : Option Uncovered = uncovered_in_defs g (binary_of_defs e ds no_def) in
        let own : first_held (held_at 0 (lower_of (form_of_row t) (form_in_leaves bs))) (first_held (uncovered_in_leaves g bs) rest) ≡ None =
        sym (ap (λ n. uncovered_in_defs g (one_def (define no_names n) (binary_of_defs e ds no_def))) (coded_is e t ls bs h.0.1)) ∙ c in
        let w = first_none (held_at 0 (lower_of (form_of_row t) (form_in_leaves bs))) (first_held (uncovered_in_leaves g bs) rest) own in
        let v = first_none (uncovered_in_leaves g bs) rest w.1 in
        let form : lower_of (form_of_row t) (form_in_leaves ls) ≡ None = ap (lower_of (form_of_row t)) (leaves_form ls r.1 h.1) ∙ held_none 0 _ w.0 in
        both_none (held_at ns.offset (lower_of (form_of_row t) (form_in_leaves ls))) (first_held (uncovered_in_leaves f ls) (uncovered_in_defs f ds))
        (ap (held_at ns.offset) form) (both_none (uncovered_in_leaves f ls) (uncovered_in_defs f ds) (leaves_covered ls r.1 h.1 v.0) (defs_covered ds r.2 h.2 v.1))

  scope_covered : (s : Scope) → LeafResolved (m.scope s) → ScopeUnnamed s → first_uncovered g (binary_of e s) ≡ None → first_uncovered f s ≡ None
  scope_covered (scope_of k id label ds) r h c = leaf_covered (m.scope (scope_of k id label ds)) r h c

an_encoding : Encoding
an_encoding = record { core_bytes = λ c. []; core_refusal = λ c. None }

leaf_of_scope : (s : Scope) → Rattle.comp_expanded.specs.IsResolved.IsResolved s → LeafResolved (m.scope s)
leaf_of_scope (scope_of k id label ds) r = r

pub source_weight : (f g : CoreModule → ℕ) (w b : Scope) → IsSource w b → weight f w ≡ weight g b
source_weight f g w b h = scope_weighs an_encoding f g w (leaf_of_scope w h.numerals) h.nameless ∙ ap (weight g) (h.same an_encoding)

pub source_covered : (f g : CoreModule → Option Uncovered) (w b : Scope) → IsSource w b → first_uncovered g b ≡ None → first_uncovered f w ≡ None
source_covered f g w b h c = scope_covered an_encoding f g w (leaf_of_scope w h.numerals) h.nameless (ap (first_uncovered g) (h.same an_encoding) ∙ c)
