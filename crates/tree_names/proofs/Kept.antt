-- What a definition declares, and what a list of producers holds, stays when its references are resolved.
use Rattle.std.proofs.Common.{◌≡◌, ℕ, ◌+◌, refl, sym, ap, ◌∙◌, ◌||◌, List, [], ◌∷◌, ◌++◌, Option, Some, None, replicate, arith}
use Rattle.comp_model.specs.declared.Space.{Space}
use Rattle.comp_model.specs.declared.Space.TheVariants.{CoreType}
use Rattle.comp_model.specs.declared.row.Row.{Row}
use Rattle.comp_model.specs.Core.{Text, counted, ref_numeral, ref_name}
use Rattle.comp_model.specs.Model.{Leaf, text, core_value, ref, place, present, node, nodes, result_ids, scope, scope_of, Target, index, numeral, name, path, Leaves, no_leaf, ◌▸◌, row, Nodes, no_node, one_node, count_nodes}
use Rattle.comp_model.specs.declared.declares.Declares.{Declares}
use Rattle.comp_model.specs.declared.declares.Declares.TheVariants.{Always, ByKind, ByDescription, ByReference, ByList, ByResults, Nothing}
use Rattle.comp_model.specs.Spaces.{leaf_spaces, leaves_spaces, spaces_by, declares_by, declares_row}
use Rattle.comp_model.specs.Payloads.{framed, producer_bytes, producers_bytes, producers_field, producers_fields, field_names, counted as counted_fields, producers_payload}
use Rattle.comp_model.specs.Leb.{uleb}
use Rattle.comp_scopes.specs.Encoding.{Encoding}
use Rattle.comp_scopes.specs.Outward.{leads_out}
use Rattle.comp_scopes.specs.Rowed.{holds_scope, leaf_holds_scope, nodes_hold_scope}
use Rattle.comp_scopes.specs.Resolved.{binary_of_leaf, binary_of_leaves, binary_of_nodes}
use Rattle.comp_tables.specs.Tables.{Counters, Opened, found, past, past_leaf, found_name_index, found_path_index}
use Rattle.tree_names.specs.Settled.{settled, settled_leaf, settled_nodes}

-- ---- leaves that show the same of what is asked here

-- the text that a leaf is
abbrev text_in : Leaf → Option Text
text_in (text t) = Some t
text_in _ = None

-- the entries of a list
abbrev entries_in : Leaf → Option Nodes
entries_in (nodes ns) = Some ns
entries_in _ = None

abbrev two_texts : Option Text → Option Text → List ℕ
two_texts (Some x) (Some y) = framed x ++ framed y
two_texts _ _ = []

abbrev fields_in : Option Nodes → Text → List (List ℕ) → List (List ℕ)
fields_in (Some ns) x more = producers_field x ns ++ more
fields_in None x more = []

producer-by : (l m : Leaf) → producer_bytes (l ▸ m ▸ no_leaf) ≡ two_texts (text_in l) (text_in m)
producer-by (text x) (text y) = refl
producer-by (text x) m = refl
producer-by l m = refl

producer-one : (l : Leaf) → producer_bytes (l ▸ no_leaf) ≡ []
producer-one (text x) = refl
producer-one l = refl

producer-more : (l m k : Leaf) (ls : Leaves) → producer_bytes (l ▸ m ▸ k ▸ ls) ≡ []
producer-more (text x) (text y) k ls = refl
producer-more (text x) m k ls = refl
producer-more l m k ls = refl

fields-by : (x : Text) (xs : List Text) (l : Leaf) (ls : Leaves) → producers_fields (x ∷ xs) (l ▸ ls) ≡ fields_in (entries_in l) x (producers_fields xs ls)
fields-by x xs (nodes ns) ls = refl
fields-by x xs l ls = refl

-- spaces of a leaf by what it is, whatever stands in it
nodes-spaces : (ns ks : Nodes) (d : Declares) → count_nodes ns ≡ count_nodes ks → leaf_spaces (nodes ns) d ≡ leaf_spaces (nodes ks) d
nodes-spaces ns ks ByList e = ap (λ (n : ℕ). replicate n CoreType) e
nodes-spaces ns ks d e = refl

node-spaces : (t : Row) (ls ms : Leaves) (d : Declares) → leaf_spaces (node (row t ls)) d ≡ leaf_spaces (node (row t ms)) d
node-spaces t ls ms ByDescription = refl
node-spaces t ls ms d = refl

ref-spaces : (s : Space) (x y : Target) (d : Declares) → leaf_spaces (ref s x) d ≡ leaf_spaces (ref s y) d
ref-spaces s x y ByReference = refl
ref-spaces s x y d = refl

-- a field by how many entries it has, and what they hold
field-same : (x : Text) (ns ks : Nodes) → count_nodes ns ≡ count_nodes ks → producers_bytes ns ≡ producers_bytes ks → producers_field x ns ≡ producers_field x ks
field-same x no_node no_node a b = refl
field-same x no_node (one_node k ks) a b = absurd (omega (arith, a))
field-same x (one_node n ns) no_node a b = absurd (omega (arith, a))
field-same x (one_node n ns) (one_node k ks) a b = ap (λ (z : ℕ). (framed x ++ (uleb z ++ producers_bytes (one_node n ns))) ∷ []) a ∙ ap (λ z. (framed x ++ (uleb (count_nodes (one_node k ks)) ++ z)) ∷ []) b

-- ---- settled leaves

module _ (e : Encoding) (ms : List Opened) where
  count-settled : (ns : Nodes) (c : Counters) → count_nodes (settled_nodes e ms ns c) ≡ count_nodes ns
  count-settled no_node c = refl
  count-settled (one_node (row t ls) ns) c = ap (λ (n : ℕ). n + 1) (count-settled ns (past ms ls c))

  spaces-settled_leaf : (l : Leaf) (c : Counters) (d : Declares) → leaf_spaces (settled_leaf e ms l c) d ≡ leaf_spaces l d
  spaces-settled_leaf (core_value (ref_numeral b o n)) c d = refl
  spaces-settled_leaf (core_value (ref_name b r x)) c d = refl
  spaces-settled_leaf (ref s (numeral o n)) c d = ref-spaces s (index n) (numeral o n) d
  spaces-settled_leaf (ref s (name r x)) c d = ref-spaces s (index (found_name_index ms s (leads_out r (found ms s r x)) (found ms s r x) c)) (name r x) d
  spaces-settled_leaf (ref s (path p)) c d = ref-spaces s (index (found_path_index ms s p c)) (path p) d
  spaces-settled_leaf (node (row t ls)) c d = node-spaces t (settled e ms ls c) ls d
  spaces-settled_leaf (nodes ns) c d = nodes-spaces (settled_nodes e ms ns c) ns d (count-settled ns c)
  spaces-settled_leaf (result_ids ids) c ByResults = refl
  spaces-settled_leaf (result_ids ids) c d = refl
  spaces-settled_leaf (scope (scope_of kd id label ds)) c d = refl
  spaces-settled_leaf l c d = refl

  spaces-settled : (ls : Leaves) (c : Counters) (d : Declares) → leaves_spaces (settled e ms ls c) d ≡ leaves_spaces ls d
  spaces-settled no_leaf c d = refl
  spaces-settled (l ▸ ls) c d = ap (λ xs. xs ++ leaves_spaces (settled e ms ls (past_leaf ms l c)) d) (spaces-settled_leaf l c d) ∙ ap (λ xs. leaf_spaces l d ++ xs) (spaces-settled ls (past_leaf ms l c) d)

  text-settled : (l : Leaf) (c : Counters) → text_in (settled_leaf e ms l c) ≡ text_in l
  text-settled (core_value (ref_numeral b o n)) c = refl
  text-settled (core_value (ref_name b r x)) c = refl
  text-settled (ref s (numeral o n)) c = refl
  text-settled (ref s (name r x)) c = refl
  text-settled (ref s (path p)) c = refl
  text-settled (node (row t ls)) c = refl
  text-settled (scope (scope_of kd id label ds)) c = refl
  text-settled l c = refl

  producer-settled : (ls : Leaves) (c : Counters) → producer_bytes (settled e ms ls c) ≡ producer_bytes ls
  producer-settled no_leaf c = refl
  producer-settled (l ▸ no_leaf) c = producer-one (settled_leaf e ms l c) ∙ sym (producer-one l)
  producer-settled (l ▸ m ▸ no_leaf) c =
      producer-by (settled_leaf e ms l c) (settled_leaf e ms m (past_leaf ms l c))
      ∙ ap (λ x. two_texts x (text_in (settled_leaf e ms m (past_leaf ms l c)))) (text-settled l c) ∙ ap (two_texts (text_in l)) (text-settled m (past_leaf ms l c))
      ∙ sym (producer-by l m)
  producer-settled (l ▸ m ▸ k ▸ ls) c = producer-more _ _ _ _ ∙ sym (producer-more l m k ls)

  producers-settled : (ns : Nodes) (c : Counters) → producers_bytes (settled_nodes e ms ns c) ≡ producers_bytes ns
  producers-settled no_node c = refl
  producers-settled (one_node (row t ls) ns) c = ap (λ x. x ++ producers_bytes (settled_nodes e ms ns (past ms ls c))) (producer-settled ls c) ∙ ap (λ x. producer_bytes ls ++ x) (producers-settled ns (past ms ls c))

  entries-settled : (l : Leaf) (c : Counters) (x : Text) (more : List (List ℕ)) → fields_in (entries_in (settled_leaf e ms l c)) x more ≡ fields_in (entries_in l) x more
  entries-settled (core_value (ref_numeral b o n)) c x more = refl
  entries-settled (core_value (ref_name b r y)) c x more = refl
  entries-settled (ref s (numeral o n)) c x more = refl
  entries-settled (ref s (name r y)) c x more = refl
  entries-settled (ref s (path p)) c x more = refl
  entries-settled (node (row t ls)) c x more = refl
  entries-settled (nodes ns) c x more = ap (λ f. f ++ more) (field-same x (settled_nodes e ms ns c) ns (count-settled ns c) (producers-settled ns c))
  entries-settled (scope (scope_of kd id label ds)) c x more = refl
  entries-settled l c x more = refl

  fields-settled : (xs : List Text) (ls : Leaves) (c : Counters) → producers_fields xs (settled e ms ls c) ≡ producers_fields xs ls
  fields-settled [] ls c = refl
  fields-settled (x ∷ xs) no_leaf c = refl
  fields-settled (x ∷ xs) (l ▸ ls) c =
      fields-by x xs (settled_leaf e ms l c) (settled e ms ls (past_leaf ms l c)) ∙ entries-settled l c x (producers_fields xs (settled e ms ls (past_leaf ms l c)))
      ∙ ap (fields_in (entries_in l) x) (fields-settled xs ls (past_leaf ms l c)) ∙ sym (fields-by x xs l ls)

  payload-settled : (ls : Leaves) (c : Counters) → producers_payload (settled e ms ls c) ≡ producers_payload ls
  payload-settled ls c = ap counted_fields (fields-settled field_names ls c)

  mutual
    holds-settled : (ls : Leaves) (c : Counters) → holds_scope (settled e ms ls c) ≡ holds_scope ls
    holds-settled no_leaf c = refl
    holds-settled (l ▸ ls) c = ap (λ b. b || holds_scope (settled e ms ls (past_leaf ms l c))) (leaf-holds-settled l c) ∙ ap (λ b. leaf_holds_scope l || b) (holds-settled ls (past_leaf ms l c))

    leaf-holds-settled : (l : Leaf) (c : Counters) → leaf_holds_scope (settled_leaf e ms l c) ≡ leaf_holds_scope l
    leaf-holds-settled (core_value (ref_numeral b o n)) c = refl
    leaf-holds-settled (core_value (ref_name b r x)) c = refl
    leaf-holds-settled (ref s (numeral o n)) c = refl
    leaf-holds-settled (ref s (name r x)) c = refl
    leaf-holds-settled (ref s (path p)) c = refl
    leaf-holds-settled (present l) c = leaf-holds-settled l c
    leaf-holds-settled (node (row t ls)) c = holds-settled ls c
    leaf-holds-settled (nodes ns) c = nodes-hold-settled ns c
    leaf-holds-settled (scope (scope_of kd id label ds)) c = refl
    leaf-holds-settled l c = refl

    nodes-hold-settled : (ns : Nodes) (c : Counters) → nodes_hold_scope (settled_nodes e ms ns c) ≡ nodes_hold_scope ns
    nodes-hold-settled no_node c = refl
    nodes-hold-settled (one_node (row t ls) ns) c = ap (λ b. b || nodes_hold_scope (settled_nodes e ms ns (past ms ls c))) (holds-settled ls c) ∙ ap (λ b. holds_scope ls || b) (nodes-hold-settled ns (past ms ls c))

module _ (e : Encoding) where
  count-binary : (ns : Nodes) → count_nodes (binary_of_nodes e ns) ≡ count_nodes ns
  count-binary no_node = refl
  count-binary (one_node (row t ls) ns) = ap (λ (n : ℕ). n + 1) (count-binary ns)

  spaces-binary_leaf : (l : Leaf) (d : Declares) → leaf_spaces (binary_of_leaf e l) d ≡ leaf_spaces l d
  spaces-binary_leaf (core_value (ref_numeral b o n)) d = refl
  spaces-binary_leaf (ref s (numeral o n)) d = ref-spaces s (index n) (numeral o n) d
  spaces-binary_leaf (place (counted o n)) d = refl
  spaces-binary_leaf (node (row t ls)) d = node-spaces t (binary_of_leaves e ls) ls d
  spaces-binary_leaf (nodes ns) d = nodes-spaces (binary_of_nodes e ns) ns d (count-binary ns)
  spaces-binary_leaf (result_ids ids) ByResults = refl
  spaces-binary_leaf (result_ids ids) d = refl
  spaces-binary_leaf (scope (scope_of kd id label ds)) d = refl
  spaces-binary_leaf l d = refl

  spaces-binary : (ls : Leaves) (d : Declares) → leaves_spaces (binary_of_leaves e ls) d ≡ leaves_spaces ls d
  spaces-binary no_leaf d = refl
  spaces-binary (l ▸ ls) d = ap (λ xs. xs ++ leaves_spaces (binary_of_leaves e ls) d) (spaces-binary_leaf l d) ∙ ap (λ xs. leaf_spaces l d ++ xs) (spaces-binary ls d)

  text-binary : (l : Leaf) → text_in (binary_of_leaf e l) ≡ text_in l
  text-binary (core_value (ref_numeral b o n)) = refl
  text-binary (ref s (numeral o n)) = refl
  text-binary (place (counted o n)) = refl
  text-binary (node (row t ls)) = refl
  text-binary (scope (scope_of kd id label ds)) = refl
  text-binary l = refl

  producer-binary : (ls : Leaves) → producer_bytes (binary_of_leaves e ls) ≡ producer_bytes ls
  producer-binary no_leaf = refl
  producer-binary (l ▸ no_leaf) = producer-one (binary_of_leaf e l) ∙ sym (producer-one l)
  producer-binary (l ▸ m ▸ no_leaf) =
      producer-by (binary_of_leaf e l) (binary_of_leaf e m) ∙ ap (λ x. two_texts x (text_in (binary_of_leaf e m))) (text-binary l) ∙ ap (two_texts (text_in l)) (text-binary m) ∙ sym (producer-by l m)
  producer-binary (l ▸ m ▸ k ▸ ls) = producer-more _ _ _ _ ∙ sym (producer-more l m k ls)

  producers-binary : (ns : Nodes) → producers_bytes (binary_of_nodes e ns) ≡ producers_bytes ns
  producers-binary no_node = refl
  producers-binary (one_node (row t ls) ns) = ap (λ x. x ++ producers_bytes (binary_of_nodes e ns)) (producer-binary ls) ∙ ap (λ x. producer_bytes ls ++ x) (producers-binary ns)

  entries-binary : (l : Leaf) (x : Text) (more : List (List ℕ)) → fields_in (entries_in (binary_of_leaf e l)) x more ≡ fields_in (entries_in l) x more
  entries-binary (core_value (ref_numeral b o n)) x more = refl
  entries-binary (ref s (numeral o n)) x more = refl
  entries-binary (place (counted o n)) x more = refl
  entries-binary (node (row t ls)) x more = refl
  entries-binary (nodes ns) x more = ap (λ f. f ++ more) (field-same x (binary_of_nodes e ns) ns (count-binary ns) (producers-binary ns))
  entries-binary (scope (scope_of kd id label ds)) x more = refl
  entries-binary l x more = refl

  fields-binary : (xs : List Text) (ls : Leaves) → producers_fields xs (binary_of_leaves e ls) ≡ producers_fields xs ls
  fields-binary [] ls = refl
  fields-binary (x ∷ xs) no_leaf = refl
  fields-binary (x ∷ xs) (l ▸ ls) =
      fields-by x xs (binary_of_leaf e l) (binary_of_leaves e ls) ∙ entries-binary l x (producers_fields xs (binary_of_leaves e ls)) ∙ ap (fields_in (entries_in l) x) (fields-binary xs ls) ∙ sym (fields-by x xs l ls)

  payload-binary : (ls : Leaves) → producers_payload ls ≡ producers_payload (binary_of_leaves e ls)
  payload-binary ls = ap counted_fields (sym (fields-binary field_names ls))

  mutual
    holds-binary : (ls : Leaves) → holds_scope (binary_of_leaves e ls) ≡ holds_scope ls
    holds-binary no_leaf = refl
    holds-binary (l ▸ ls) = ap (λ b. b || holds_scope (binary_of_leaves e ls)) (leaf-holds-binary l) ∙ ap (λ b. leaf_holds_scope l || b) (holds-binary ls)

    leaf-holds-binary : (l : Leaf) → leaf_holds_scope (binary_of_leaf e l) ≡ leaf_holds_scope l
    leaf-holds-binary (core_value (ref_numeral b o n)) = refl
    leaf-holds-binary (ref s (numeral o n)) = refl
    leaf-holds-binary (place (counted o n)) = refl
    leaf-holds-binary (present l) = leaf-holds-binary l
    leaf-holds-binary (node (row t ls)) = holds-binary ls
    leaf-holds-binary (nodes ns) = nodes-hold-binary ns
    leaf-holds-binary (scope (scope_of kd id label ds)) = refl
    leaf-holds-binary l = refl

    nodes-hold-binary : (ns : Nodes) → nodes_hold_scope (binary_of_nodes e ns) ≡ nodes_hold_scope ns
    nodes-hold-binary no_node = refl
    nodes-hold-binary (one_node (row t ls) ns) = ap (λ b. b || nodes_hold_scope (binary_of_nodes e ns)) (holds-binary ls) ∙ ap (λ b. holds_scope ls || b) (nodes-hold-binary ns)

-- ---- both together: `new` is what `old` has settled to

module _ (e : Encoding) (ms : List Opened) (c : Counters) (old new : Leaves) (h : binary_of_leaves e new ≡ settled e ms old c) where
  spaces-kept : (d : Declares) → leaves_spaces new d ≡ leaves_spaces old d
  spaces-kept d = sym (spaces-binary e new d) ∙ ap (λ ls. leaves_spaces ls d) h ∙ spaces-settled e ms old c d

  by-kept : (d : Declares) → spaces_by d new ≡ spaces_by d old
  by-kept (Always s) = refl
  by-kept Nothing = refl
  by-kept ByKind = spaces-kept ByKind
  by-kept ByDescription = spaces-kept ByDescription
  by-kept ByReference = spaces-kept ByReference
  by-kept ByList = spaces-kept ByList
  by-kept ByResults = spaces-kept ByResults

  pub declares-kept : (t : Row) → declares_row t new ≡ declares_row t old
  declares-kept t = by-kept (declares_by t)

  pub payload-kept : producers_payload new ≡ producers_payload old
  payload-kept = payload-binary e new ∙ ap producers_payload h ∙ payload-settled e ms old c

  pub holds-kept : holds_scope new ≡ holds_scope old
  holds-kept = sym (holds-binary e new) ∙ ap holds_scope h ∙ holds-settled e ms old c

-- of a node of the binary
pub declares-binary : (e : Encoding) (t : Row) (ls : Leaves) → declares_row t (binary_of_leaves e ls) ≡ declares_row t ls
declares-binary e t ls = go (declares_by t)
  where
    go : (d : Declares) → spaces_by d (binary_of_leaves e ls) ≡ spaces_by d ls
    go (Always s) = refl
    go Nothing = refl
    go ByKind = spaces-binary e ls ByKind
    go ByDescription = spaces-binary e ls ByDescription
    go ByReference = spaces-binary e ls ByReference
    go ByList = spaces-binary e ls ByList
    go ByResults = spaces-binary e ls ByResults
