-- A resolved tree in binary hangs on the bytes of its core modules alone.
use Rattle.std.proofs.Common.{◌≡◌, ◌∙◌, refl, sym, ap, ℕ, Bool, true, false, List, [], ◌∷◌, ◌++◌, Option, None, option_map, replicate, cond, is_some, ◌&&◌, ◌||◌, ◌+◌}
use Rattle.std.specs.Bool.{⊤}
use Rattle.std.specs.Prelude.{codes}
use Rattle.comp_model.specs.declared.Space.{Space}
use Rattle.comp_model.specs.declared.Space.TheVariants.{CoreType}
use Rattle.comp_model.specs.Core as core
use Rattle.comp_model.specs.CoreModules.{CoreModule}
use Rattle.comp_model.specs.ItemNames.{PartName, part_names, names_from, any_named, has_names, is_component, own_name, map_in_front, name_in_front}
use Rattle.comp_model.specs.Model as m
use Rattle.comp_model.specs.declared.row.ScopeKind.{ScopeKind}
use Rattle.comp_model.specs.Model.{Leaves, no_leaf, ◌▸◌, Nodes, one_node, Defs, no_def, one_def, count_nodes, define, row}
use Rattle.comp_model.specs.Payloads.{producer_bytes, producers_bytes, producers_field, producers_fields, field_names, counted, producers_payload, framed, name_payload}
use Rattle.comp_model.specs.Leb.{uleb}
use Rattle.comp_model.specs.declared.declares.Declares.{Declares}
use Rattle.comp_model.specs.declared.declares.Declares.TheVariants.{Always, ByKind, ByDescription, ByReference, ByList, ByResults, Nothing}
use Rattle.comp_model.specs.Spaces.{declares_by, leaf_spaces, leaves_spaces, spaces_by, declares_row, count_in, same_space, all_spaces}
use Rattle.comp_model.specs.declared.row.Row.{Row}
use Rattle.comp_model.specs.RowNumbers.{same_row}
use Rattle.comp_model.specs.declared.row.Row.TheVariants as rows
use Rattle.comp_expanded.specs.IsResolved.{IsResolved, LeavesResolved, LeafResolved, NodesResolved, DefsResolved}
use Rattle.comp_scopes.specs.Form.{coded_node, custom_node}
use Rattle.comp_scopes.specs.Resolved.{binary_of, binary_of_defs, binary_of_leaf, binary_of_leaves, binary_of_nodes, section_of, declared_before, names_along, maps_along, list_names}
use Rattle.comp_tree.specs.Model.{leaf_of, leaves_of, nodes_of, scope_of, defs_of, core_at, core_value_of, reach_of, path_of, place_of, id_of, lent_text, names_at, joined}
use Rattle.comp_tree.specs.declared.tree.Leaf.{Leaf}
use Rattle.comp_tree.specs.declared.tree.Leaf as l
use Rattle.comp_tree.specs.declared.tree.Scope as s
use Rattle.tree_write.specs.Wire.{the_encoding}
use Rattle.wast_component.specs.Modules.{numbered_encoding}

-- the bytes of two lists of modules are the same, one by one, those of the first with numbers for names
abbrev pub SameBytes : List CoreModule → List CoreModule → Type 0
SameBytes [] [] = ⊤
SameBytes (c ∷ cs) (d ∷ ds) = (numbered_encoding.core_bytes c ≡ the_encoding.core_bytes d) × SameBytes cs ds
SameBytes _ _ = ⊥

-- ---- what a definition declares

node_declares : (t : Row) (ls ms : Leaves) (d : Declares) → leaf_spaces (m.node (row t ls)) d ≡ leaf_spaces (m.node (row t ms)) d
node_declares t ls ms (Always u) = refl
node_declares t ls ms _ = refl

nodes_declare : (ns ks : Nodes) (d : Declares) → count_nodes ns ≡ count_nodes ks → leaf_spaces (m.nodes ns) d ≡ leaf_spaces (m.nodes ks) d
nodes_declare ns ks (Always u) h = refl
nodes_declare ns ks ByKind h = refl
nodes_declare ns ks ByDescription h = refl
nodes_declare ns ks ByReference h = refl
nodes_declare ns ks ByList h = ap (λ n. replicate n CoreType) h
nodes_declare ns ks ByResults h = refl
nodes_declare ns ks Nothing h = refl

reference_declares : (u : Space) (x y : m.Target) (d : Declares) → leaf_spaces (m.ref u x) d ≡ leaf_spaces (m.ref u y) d
reference_declares u x y (Always v) = refl
reference_declares u x y _ = refl

core_declares : (cs : List CoreModule) (n : ℕ) (d : Declares) → leaf_spaces (core_at cs n) d ≡ []
core_declares [] n d = refl
core_declares (c ∷ cs) ℕ.zero d = refl
core_declares (c ∷ cs) (ℕ.suc n) d = core_declares cs n d

module _ (cs ds : List CoreModule) where
  same_count : {k : _} (ns : l.Row_of-Node k) → count_nodes (nodes_of cs ns) ≡ count_nodes (nodes_of ds ns)
  same_count l.end_of-Node = refl
  same_count (l.more_of-Node r v q h xs rest) = ap (λ n. n + 1) (same_count rest)

  leaf_declares : (x : Leaf) (d : Declares) → leaf_spaces (leaf_of cs x) d ≡ leaf_spaces (leaf_of ds x) d
  leaf_declares (l.Node' p r v q h xs) d = node_declares r (leaves_of cs xs) (leaves_of ds xs) d
  leaf_declares (l.Nodes' p h xs) d = nodes_declare (nodes_of cs xs) (nodes_of ds xs) d (same_count xs)
  leaf_declares (l.Inline' u p r v q h xs) d = reference_declares u (m.inline (row r (leaves_of cs xs))) (m.inline (row r (leaves_of ds xs))) d
  leaf_declares (l.Bundle' u p r v q h xs) d = reference_declares u (m.bundle (row r (leaves_of cs xs))) (m.bundle (row r (leaves_of ds xs))) d
  leaf_declares (l.Core n) d = core_declares cs n d ∙ sym (core_declares ds n d)
  leaf_declares _ d = refl

  leaves_declare : {k : _} (xs : l.Row_of-Leaf k) (d : Declares) → leaves_spaces (leaves_of cs xs) d ≡ leaves_spaces (leaves_of ds xs) d
  leaves_declare l.end_of-Leaf d = refl
  leaves_declare (l.more_of-Leaf x xs) d = ap (λ u. u ++ leaves_spaces (leaves_of cs xs) d) (leaf_declares x d) ∙ ap (λ u. leaf_spaces (leaf_of ds x) d ++ u) (leaves_declare xs d)

  by_declares : {k : _} (xs : l.Row_of-Leaf k) (d : Declares) → spaces_by d (leaves_of cs xs) ≡ spaces_by d (leaves_of ds xs)
  by_declares xs (Always u) = refl
  by_declares xs ByKind = leaves_declare xs ByKind
  by_declares xs ByDescription = leaves_declare xs ByDescription
  by_declares xs ByReference = leaves_declare xs ByReference
  by_declares xs ByList = leaves_declare xs ByList
  by_declares xs ByResults = leaves_declare xs ByResults
  by_declares xs Nothing = refl

  row_declares : {k : _} (t : Row) (xs : l.Row_of-Leaf k) → declares_row t (leaves_of cs xs) ≡ declares_row t (leaves_of ds xs)
  row_declares t xs = by_declares xs (declares_by t)

  -- ---- names

  same_names : {k : _} (n : ℕ) (xs : s.Row_of-Def k) → names_from n (defs_of cs xs) ≡ names_from n (defs_of ds xs)
  same_names n s.end_of-Def = refl
  same_names n (s.more_of-Def origin places span names r v q h xs rest) =
      let own = names_at span.offset names.now in
      ap (λ us. part_names n 0 own.ids own.labels us ++ names_from (n + 1) (defs_of cs rest)) (row_declares r xs)
      ∙ ap (λ ns. part_names n 0 own.ids own.labels (declares_row r (leaves_of ds xs)) ++ ns) (same_names (n + 1) rest)

  same_before : {k : _} (u : Space) (xs : s.Row_of-Def k) (n : ℕ) → declared_before u (defs_of cs xs) n ≡ declared_before u (defs_of ds xs) n
  same_before u s.end_of-Def n = refl
  same_before u (s.more_of-Def origin places span names r v q h xs rest) ℕ.zero = refl
  same_before u (s.more_of-Def origin places span names r v q h xs rest) (ℕ.suc n) =
      ap (λ us. count_in u us + declared_before u (defs_of cs rest) n) (row_declares r xs) ∙ ap (λ k. count_in u (declares_row r (leaves_of ds xs)) + k) (same_before u rest n)

  same_along : {k : _} (xs : s.Row_of-Def k) (u : Space) (ns : List PartName) → names_along (defs_of cs xs) u ns ≡ names_along (defs_of ds xs) u ns
  same_along xs u [] = refl
  same_along xs u (n ∷ ns) =
      ap (λ k. name_in_front (same_space u n.space) n.name (k + n.part) (names_along (defs_of cs xs) u ns)) (same_before u xs n.definition)
      ∙ ap (λ is. name_in_front (same_space u n.space) n.name (declared_before u (defs_of ds xs) n.definition + n.part) is) (same_along xs u ns)

  same_maps : {k : _} (xs : s.Row_of-Def k) (ns : List PartName) (us : List Space) → maps_along (defs_of cs xs) ns us ≡ maps_along (defs_of ds xs) ns us
  same_maps xs ns [] = refl
  same_maps xs ns (u ∷ us) =
      ap (λ is. map_in_front u is (maps_along (defs_of cs xs) ns us)) (same_along xs u ns) ∙ ap (λ ms. map_in_front u (names_along (defs_of ds xs) u ns) ms) (same_maps xs ns us)

  -- ---- producers

  not_text : (xs : List CoreModule) (n : ℕ) (ls : Leaves) → producer_bytes (core_at xs n ▸ ls) ≡ []
  not_text [] n ls = refl
  not_text (c ∷ xs) ℕ.zero ls = refl
  not_text (c ∷ xs) (ℕ.suc n) ls = not_text xs n ls

  first_text : (x : Leaf) (ls ms : Leaves) → ((t : core.Text) → producer_bytes (m.text t ▸ ls) ≡ producer_bytes (m.text t ▸ ms)) → producer_bytes (leaf_of cs x ▸ ls) ≡ producer_bytes (leaf_of ds x ▸ ms)
  first_text (l.Text t) ls ms h = h t.now
  first_text (l.Pieces ts) ls ms h = h (joined ts.now)
  first_text (l.Core n) ls ms h = not_text cs n ls ∙ sym (not_text ds n ms)
  first_text _ ls ms h = refl

  not_second : (t : core.Text) (xs : List CoreModule) (n : ℕ) (ls : Leaves) → producer_bytes (m.text t ▸ core_at xs n ▸ ls) ≡ []
  not_second t [] n ls = refl
  not_second t (c ∷ xs) ℕ.zero ls = refl
  not_second t (c ∷ xs) (ℕ.suc n) ls = not_second t xs n ls

  second_text : (t : core.Text) (x : Leaf) (ls ms : Leaves) → ((u : core.Text) → producer_bytes (m.text t ▸ m.text u ▸ ls) ≡ producer_bytes (m.text t ▸ m.text u ▸ ms)) → producer_bytes (m.text t ▸ leaf_of cs x ▸ ls) ≡ producer_bytes (m.text t ▸ leaf_of ds x ▸ ms)
  second_text t (l.Text u) ls ms h = h u.now
  second_text t (l.Pieces ts) ls ms h = h (joined ts.now)
  second_text t (l.Core n) ls ms h = not_second t cs n ls ∙ sym (not_second t ds n ms)
  second_text t _ ls ms h = refl

  same_producer : {k : _} (xs : l.Row_of-Leaf k) → producer_bytes (leaves_of cs xs) ≡ producer_bytes (leaves_of ds xs)
  same_producer l.end_of-Leaf = refl
  same_producer (l.more_of-Leaf x l.end_of-Leaf) = first_text x no_leaf no_leaf (λ t. refl)
  same_producer (l.more_of-Leaf x (l.more_of-Leaf y l.end_of-Leaf)) = first_text x (leaf_of cs y ▸ no_leaf) (leaf_of ds y ▸ no_leaf) (λ t. second_text t y no_leaf no_leaf (λ u. refl))
  same_producer (l.more_of-Leaf x (l.more_of-Leaf y (l.more_of-Leaf z zs))) =
      first_text x (leaf_of cs y ▸ leaf_of cs z ▸ leaves_of cs zs) (leaf_of ds y ▸ leaf_of ds z ▸ leaves_of ds zs) (λ t. second_text t y (leaf_of cs z ▸ leaves_of cs zs) (leaf_of ds z ▸ leaves_of ds zs) (λ u. refl))

  same_producers_bytes : {k : _} (ns : l.Row_of-Node k) → producers_bytes (nodes_of cs ns) ≡ producers_bytes (nodes_of ds ns)
  same_producers_bytes l.end_of-Node = refl
  same_producers_bytes (l.more_of-Node r v q h xs rest) =
      ap (λ b. b ++ producers_bytes (nodes_of cs rest)) (same_producer xs) ∙ ap (λ b. producer_bytes (leaves_of ds xs) ++ b) (same_producers_bytes rest)

  same_field : {k : _} (x : core.Text) (ns : l.Row_of-Node k) → producers_field x (nodes_of cs ns) ≡ producers_field x (nodes_of ds ns)
  same_field x l.end_of-Node = refl
  same_field x (l.more_of-Node r v q h xs rest) =
      let all = l.more_of-Node r v q h xs rest in
      ap (λ n. (framed x ++ (uleb n ++ producers_bytes (nodes_of cs all))) ∷ []) (same_count all) ∙ ap (λ b. (framed x ++ (uleb (count_nodes (nodes_of ds all)) ++ b)) ∷ []) (same_producers_bytes all)

  not_nodes : (x : core.Text) (ts : List core.Text) (xs : List CoreModule) (n : ℕ) (ls : Leaves) → producers_fields (x ∷ ts) (core_at xs n ▸ ls) ≡ []
  not_nodes x ts [] n ls = refl
  not_nodes x ts (c ∷ xs) ℕ.zero ls = refl
  not_nodes x ts (c ∷ xs) (ℕ.suc n) ls = not_nodes x ts xs n ls

  mutual
    same_fields : {k : _} (ts : List core.Text) (xs : l.Row_of-Leaf k) → producers_fields ts (leaves_of cs xs) ≡ producers_fields ts (leaves_of ds xs)
    same_fields [] xs = refl
    same_fields (t ∷ ts) l.end_of-Leaf = refl
    same_fields (t ∷ ts) (l.more_of-Leaf x xs) = fields_from t ts x (leaves_of cs xs) (leaves_of ds xs) (same_fields ts xs)

    fields_from : (t : core.Text) (ts : List core.Text) (x : Leaf) (ls ms : Leaves) → producers_fields ts ls ≡ producers_fields ts ms → producers_fields (t ∷ ts) (leaf_of cs x ▸ ls) ≡ producers_fields (t ∷ ts) (leaf_of ds x ▸ ms)
    fields_from t ts (l.Nodes' p k ns) ls ms h = ap (λ f. f ++ producers_fields ts ls) (same_field t ns) ∙ ap (λ f. producers_field t (nodes_of ds ns) ++ f) h
    fields_from t ts (l.Core n) ls ms h = not_nodes t ts cs n ls ∙ sym (not_nodes t ts ds n ms)
    fields_from t ts _ ls ms h = refl

  same_payload : {k : _} (xs : l.Row_of-Leaf k) → producers_payload (leaves_of cs xs) ≡ producers_payload (leaves_of ds xs)
  same_payload xs = ap counted (same_fields field_names xs)

  -- ---- in binary

  value_alike : (v : core.CoreValue) → binary_of_leaf numbered_encoding (m.core_value v) ≡ binary_of_leaf the_encoding (m.core_value v)
  value_alike (core.ref_numeral b o n) = refl
  value_alike v = refl

  target_alike : (u : Space) (t : m.Target) → binary_of_leaf numbered_encoding (m.ref u t) ≡ binary_of_leaf the_encoding (m.ref u t)
  target_alike u (m.numeral o n) = refl
  target_alike u t = refl

  place_alike : (p : core.Place) → binary_of_leaf numbered_encoding (m.place p) ≡ binary_of_leaf the_encoding (m.place p)
  place_alike (core.counted o d) = refl
  place_alike p = refl

  same_core : SameBytes cs ds → (n : ℕ) → binary_of_leaf numbered_encoding (core_at cs n) ≡ binary_of_leaf the_encoding (core_at ds n)
  same_core h n = each cs ds h n
    where
      each : (xs ys : List CoreModule) → SameBytes xs ys → (n : ℕ) → binary_of_leaf numbered_encoding (core_at xs n) ≡ binary_of_leaf the_encoding (core_at ys n)
      each [] [] h n = refl
      each (x ∷ xs) (y ∷ ys) h ℕ.zero = ap m.module_bytes h.0
      each (x ∷ xs) (y ∷ ys) h (ℕ.suc n) = each xs ys h.1 n
      each [] (y ∷ ys) h n = absurd h
      each (x ∷ xs) [] h n = absurd h

  same_section : {k : _} (kd : ScopeKind) (id : Option core.Id) (label : Option core.Text) (xs : s.Row_of-Def k) →
      let a = m.scope_of kd id label (defs_of cs xs) in
      let b = m.scope_of kd id label (defs_of ds xs) in
      section_of numbered_encoding a (has_names a) ≡ section_of the_encoding b (has_names b)
  same_section kd id label xs =
      let a = m.scope_of kd id label (defs_of cs xs) in
      let b = m.scope_of kd id label (defs_of ds xs) in
      let named : has_names a ≡ has_names b = ap (λ ns. is_component kd && (is_some (own_name a) || any_named ns)) (same_names 0 xs) in
      ap (section_of numbered_encoding a) named ∙ at (has_names b)
    where
      names : list_names (m.scope_of kd id label (defs_of cs xs)) ≡ list_names (m.scope_of kd id label (defs_of ds xs))
      names =
          ap (λ ms. record { component = own_name (m.scope_of kd id label (defs_of cs xs)); maps = ms }) (same_maps xs (names_from 0 (defs_of cs xs)) all_spaces ∙ ap (λ ns. maps_along (defs_of ds xs) ns all_spaces) (same_names 0 xs))

      at : (b : Bool) → section_of numbered_encoding (m.scope_of kd id label (defs_of cs xs)) b ≡ section_of the_encoding (m.scope_of kd id label (defs_of ds xs)) b
      at true = ap (λ n. one_def (define m.no_names (custom_node (codes "component-name") (name_payload n))) no_def) names
      at false = refl

  -- by its definitions, in front of its name section
  whole_by : {k : _} (kd : ScopeKind) (id : Option core.Id) (label : Option core.Text) (xs : s.Row_of-Def k)
      → (let b = m.scope_of kd id label (defs_of ds xs) in binary_of_defs numbered_encoding (defs_of cs xs) (section_of the_encoding b (has_names b)) ≡ binary_of_defs the_encoding (defs_of ds xs) (section_of the_encoding b (has_names b)))
      → binary_of numbered_encoding (m.scope_of kd id label (defs_of cs xs)) ≡ binary_of the_encoding (m.scope_of kd id label (defs_of ds xs))
  whole_by kd id label xs h =
      ap (λ more. m.scope_of kd None None (binary_of_defs numbered_encoding (defs_of cs xs) more)) (same_section kd id label xs) ∙ ap (λ ys. m.scope_of kd None None ys) h

  module _ (same : SameBytes cs ds) where
    mutual
      same_leaf : (x : Leaf) → LeafResolved (leaf_of cs x) → binary_of_leaf numbered_encoding (leaf_of cs x) ≡ binary_of_leaf the_encoding (leaf_of ds x)
      same_leaf (l.Text t) h = refl
      same_leaf (l.Pieces ts) h = refl
      same_leaf (l.Number n) h = refl
      same_leaf (l.Kind u) h = refl
      same_leaf (l.CoreValue v) h = value_alike (core_value_of v)
      same_leaf (l.Numeral u n span) h = target_alike u (m.numeral span.offset n)
      same_leaf (l.Name u r x) h = target_alike u (m.name (reach_of r.now) (id_of x.now))
      same_leaf (l.Path u p) h = target_alike u (path_of p.now.root p.now.exports.now)
      same_leaf (l.Place p) h = place_alike (place_of p.now)
      same_leaf l.Absent h = refl
      same_leaf (l.Present' p x) h = ap m.present (same_leaf x h)
      same_leaf (l.Node' p r v q k xs) h = ap (λ ls. m.node (row r ls)) (same_leaves xs h)
      same_leaf (l.Nodes' p k xs) h = ap m.nodes (same_nodes xs h)
      same_leaf (l.Inline' u p r v q k xs) h = absurd h
      same_leaf (l.Bundle' u p r v q k xs) h = absurd h
      same_leaf (l.CaseId x) h = refl
      same_leaf (l.Results xs) h = refl
      same_leaf (l.Core n) h = same_core same n
      same_leaf (l.Scope' p (s.Scope' k id label q g xs)) h =
          let kd = k in
          let i = option_map id_of id in
          let t = option_map lent_text label in
          let b = m.scope_of kd i t (defs_of ds xs) in
          ap m.scope (whole_by kd i t xs (same_defs xs (section_of the_encoding b (has_names b)) h))

      same_leaves : {k : _} (xs : l.Row_of-Leaf k) → LeavesResolved (leaves_of cs xs) → binary_of_leaves numbered_encoding (leaves_of cs xs) ≡ binary_of_leaves the_encoding (leaves_of ds xs)
      same_leaves l.end_of-Leaf h = refl
      same_leaves (l.more_of-Leaf x xs) h = ap (λ y. y ▸ binary_of_leaves numbered_encoding (leaves_of cs xs)) (same_leaf x h.0) ∙ ap (λ ys. binary_of_leaf the_encoding (leaf_of ds x) ▸ ys) (same_leaves xs h.1)

      same_nodes : {k : _} (xs : l.Row_of-Node k) → NodesResolved (nodes_of cs xs) → binary_of_nodes numbered_encoding (nodes_of cs xs) ≡ binary_of_nodes the_encoding (nodes_of ds xs)
      same_nodes l.end_of-Node h = refl
      same_nodes (l.more_of-Node r v q k xs rest) h =
          ap (λ ls. one_node (row r ls) (binary_of_nodes numbered_encoding (nodes_of cs rest))) (same_leaves xs h.0) ∙ ap (λ ns. one_node (row r (binary_of_leaves the_encoding (leaves_of ds xs))) ns) (same_nodes rest h.1)

      same_defs : {k : _} (xs : s.Row_of-Def k) (more : Defs) → DefsResolved (defs_of cs xs) → binary_of_defs numbered_encoding (defs_of cs xs) more ≡ binary_of_defs the_encoding (defs_of ds xs) more
      same_defs s.end_of-Def more h = refl
      same_defs (s.more_of-Def origin places span names r v q k xs rest) more h =
          let t = r in
          ap (λ ls. one_def (define m.no_names (coded_node the_encoding t (leaves_of cs xs) ls)) (binary_of_defs numbered_encoding (defs_of cs rest) more)) (same_leaves xs h.1)
          ∙ (ap (λ p. one_def (define m.no_names (cond (same_row t rows.Producers) (custom_node (codes "producers") p) (row t (binary_of_leaves the_encoding (leaves_of ds xs))))) (binary_of_defs numbered_encoding (defs_of cs rest) more)) (same_payload xs)
          ∙ ap (λ ys. one_def (define m.no_names (coded_node the_encoding t (leaves_of ds xs) (binary_of_leaves the_encoding (leaves_of ds xs)))) ys) (same_defs rest more h.2))

    pub same_scope : (x : s.Scope) → IsResolved (scope_of cs x) → binary_of numbered_encoding (scope_of cs x) ≡ binary_of the_encoding (scope_of ds x)
    same_scope (s.Scope' k id label q h xs) r =
        let kd = k in
        let i = option_map id_of id in
        let t = option_map lent_text label in
        let b = m.scope_of kd i t (defs_of ds xs) in
        whole_by kd i t xs (same_defs xs (section_of the_encoding b (has_names b)) r)
