-- The payload of a list of producers is at most eight times the weight of its leaves.
use Rattle.std.proofs.Common.{◌≡◌, ℕ, ◌+◌, ◌*◌, ◌<◌, ◌≤◌, ◌^◌, List, [], ◌∷◌, ◌++◌, length, length-append, arith, lit≤}
use Rattle.std.specs.Prelude.{⊤, codes}
use Rattle.comp_model.specs.Core.{Text}
use Rattle.comp_model.specs.CoreModules.{CoreModule}
use Rattle.comp_model.specs.Model.{text, nodes, Leaves, no_leaf, ◌▸◌, row, Nodes, no_node, one_node, count_nodes}
use Rattle.comp_model.specs.Leb.{uleb}
use Rattle.comp_model.specs.Payloads.{framed, joined, producer_bytes, producers_bytes, producers_field, producers_fields, field_names, producers_payload}
use Rattle.comp_model.specs.Weight.{weight_of_leaves, weight_of_nodes}
use Rattle.comp_scopes.specs.Rowed.{Textual, TextualNodes}
use Rattle.comp_wire.proofs.Numbers.{uleb_short}
use Rattle.comp_weight.proofs.Fair.{HasLeaf}
use Rattle.comp_weight.proofs.Sections.{framed-length}

module _ (cw : CoreModule → ℕ) (limit : ℕ) (small : 8 * limit < 2 ^ 32) where
  text-bytes : (x : Text) → 32 + length x ≤ limit → length (framed x) ≤ 5 + length x
  text-bytes x h = framed-length x (omega (arith, h, small))

  entry-bytes : (ls : Leaves) → Textual ls → weight_of_leaves cw ls ≤ limit → length (producer_bytes ls) ≤ 8 * weight_of_leaves cw ls
  entry-bytes (text x ▸ text y ▸ no_leaf) t h = omega (arith, length-append (framed x) (framed y), text-bytes x (omega (arith, h)), text-bytes y (omega (arith, h)))
  entry-bytes _ t h = omega arith

  entries-bytes : (ns : Nodes) → TextualNodes ns → weight_of_nodes cw ns ≤ limit → length (producers_bytes ns) ≤ 8 * weight_of_nodes cw ns
  entries-bytes no_node t h = omega arith
  entries-bytes (one_node (row v ls) ns) t h =
      omega (arith, length-append (producer_bytes ls) (producers_bytes ns), entry-bytes ls t.0 (omega (arith, h)), entries-bytes ns t.1 (omega (arith, h)))

  entries-count : (ns : Nodes) → count_nodes ns ≤ weight_of_nodes cw ns
  entries-count no_node = omega arith
  entries-count (one_node (row v ls) ns) = omega (arith, entries-count ns)

  -- the name of a field has at most twelve bytes
  field-bytes : (x : Text) (ns : Nodes) → length x ≤ 12 → TextualNodes ns → 32 + weight_of_nodes cw ns ≤ limit → length (joined (producers_field x ns)) ≤ 100 + 8 * weight_of_nodes cw ns
  field-bytes x no_node l t h = omega arith
  field-bytes x (one_node n ns) l t h =
      let body : List ℕ = uleb (count_nodes (one_node n ns)) ++ producers_bytes (one_node n ns) in
      omega (
        arith,
        l,
        length-append (framed x ++ body) [],
        length-append (framed x) body,
        length-append (uleb (count_nodes (one_node n ns))) (producers_bytes (one_node n ns)),
        framed-length x (omega (arith, l)),
        uleb_short (count_nodes (one_node n ns)) (omega (arith, entries-count (one_node n ns), h, small)),
        entries-bytes (one_node n ns) t (omega (arith, h)),
      )

  abbrev Brief : List Text → Type 0
  Brief [] = ⊤
  Brief (x ∷ xs) = (length x ≤ 12) × Brief xs

  joined-both : (xs ys : List (List ℕ)) → length (joined (xs ++ ys)) ≡ length (joined xs) + length (joined ys)
  joined-both [] ys = omega arith
  joined-both (x ∷ xs) ys = omega (arith, length-append x (joined (xs ++ ys)), length-append x (joined xs), joined-both xs ys)

  fields-bytes : (xs : List Text) (ls : Leaves) → Brief xs → Textual ls → weight_of_leaves cw ls ≤ limit → length (joined (producers_fields xs ls)) ≤ 8 * weight_of_leaves cw ls
  fields-bytes [] ls b t h = omega arith
  fields-bytes (x ∷ xs) (nodes ns ▸ ls) b t h =
      omega (arith, joined-both (producers_field x ns) (producers_fields xs ls), field-bytes x ns b.0 t.0 (omega (arith, h)), fields-bytes xs ls b.1 t.1 (omega (arith, h)))
  fields-bytes (x ∷ xs) _ b t h = omega arith

  field-count : (x : Text) (ns : Nodes) → length (producers_field x ns) ≤ 1
  field-count x no_node = omega arith
  field-count x (one_node n ns) = omega arith

  fields-count : (xs : List Text) (ls : Leaves) → length (producers_fields xs ls) ≤ length xs
  fields-count [] ls = omega arith
  fields-count (x ∷ xs) (nodes ns ▸ ls) = omega (arith, length-append (producers_field x ns) (producers_fields xs ls), field-count x ns, fields-count xs ls)
  fields-count (x ∷ xs) _ = omega arith

  -- the count of the fields stands beside the first
  behind-first : (ls : Leaves) → HasLeaf ls → Textual ls → weight_of_leaves cw ls ≤ limit → 5 + length (joined (producers_fields field_names ls)) ≤ 8 * weight_of_leaves cw ls
  behind-first no_leaf l t h = absurd l
  behind-first (text x ▸ ls) l t h = omega arith
  behind-first (nodes ns ▸ ls) l t h =
      omega (
        arith,
        joined-both (producers_field (codes "language") ns) (producers_fields (codes "sdk" ∷ codes "processed-by" ∷ []) ls),
        field-bytes (codes "language") ns (lit≤ tt) t.0 (omega (arith, h)),
        fields-bytes (codes "sdk" ∷ codes "processed-by" ∷ []) ls (lit≤ tt, (lit≤ tt, tt)) t.1 (omega (arith, h)),
      )
  behind-first (l ▸ ls) q t h = absurd t.0

  pub payload-bytes : (ls : Leaves) → HasLeaf ls → Textual ls → weight_of_leaves cw ls ≤ limit → length (producers_payload ls) ≤ 8 * weight_of_leaves cw ls
  payload-bytes ls l t h =
      let fields : List (List ℕ) = producers_fields field_names ls in
      omega (arith, length-append (uleb (length fields)) (joined fields), uleb_short (length fields) (omega (arith, fields-count field_names ls)), behind-first ls l t h)
