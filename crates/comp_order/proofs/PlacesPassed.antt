-- The references of a definition of a tree, place by place.
use Rattle.std.proofs.Common.{◌≡◌, ℕ, ◌+◌, ◌<◌, sym, ap, ◌∙◌, List, [], ◌++◌, map, length, drop, get_or, Ok, Err}
use Rattle.std.proofs.lemmas.List.{drop_more}
use Rattle.comp_wire.specs.Values.{rows_of_list, function_row}
use Rattle.comp_wire.specs.declared.values.WireFunc.{WireFunc}
use Rattle.comp_list.specs.declared.reference.Reference.{Reference}
use Rattle.comp_list.specs.References.{node_references}
use Rattle.comp_list.specs.Places.{joined, row_references}
use Rattle.comp_list.proofs.DefSpots.{drop_item}
use Rattle.comp_order.specs.declared.verdict.Verdict.{Verdict}
use Rattle.comp_order.specs.declared.verdict.Order.{Order}
use Rattle.comp_order.specs.Pass.{pass}
use Rattle.comp_order.proofs.Passing.{passed_more, stopped_more}

module _ (v : Reference → Verdict) (es : List (List Reference)) (i : ℕ) (h : i < length es) (n : ℕ) where
  from_place : (rs : List Reference) → rs ≡ get_or es i [] → rs ++ joined (drop (i + 1) es) ≡ joined (drop i es)
  from_place rs e = ap (λ q. q ++ joined (drop (i + 1) es)) e ∙ sym (ap joined (drop_more es i [] h))

  pub place_passed : (m : ℕ) (rs : List Reference) → rs ≡ get_or es i [] → Ok m ≡ pass n (map v rs) → pass m (map v (joined (drop (i + 1) es))) ≡ pass n (map v (joined (drop i es)))
  place_passed m rs e f = passed_more v n m rs (joined (drop (i + 1) es)) f ∙ ap (λ q. pass n (map v q)) (from_place rs e)

  pub place_stopped : (o : Order) (rs : List Reference) → rs ≡ get_or es i [] → Err o ≡ pass n (map v rs) → Err o ≡ pass n (map v (joined (drop i es)))
  place_stopped o rs e f = stopped_more v n o rs (joined (drop (i + 1) es)) f ∙ ap (λ q. pass n (map v q)) (from_place rs e)

module _ (v : Reference → Verdict) (fs : List WireFunc) (i : ℕ) (f : WireFunc) (h : i < length fs) (is : f ≡ get_or fs i f) (n : ℕ) where
  pub function_passed : (m : ℕ) → Ok m ≡ pass n (map v (row_references (function_row f)))
      → pass m (map v (node_references (rows_of_list function_row (drop (i + 1) fs)))) ≡ pass n (map v (node_references (rows_of_list function_row (drop i fs))))
  function_passed m e =
      passed_more v n m (row_references (function_row f)) (node_references (rows_of_list function_row (drop (i + 1) fs))) e
      ∙ ap (λ q. pass n (map v (node_references (rows_of_list function_row q)))) (sym (drop_item fs i f h is))

  pub function_stopped : (o : Order) → Err o ≡ pass n (map v (row_references (function_row f))) → Err o ≡ pass n (map v (node_references (rows_of_list function_row (drop i fs))))
  function_stopped o e =
      stopped_more v n o (row_references (function_row f)) (node_references (rows_of_list function_row (drop (i + 1) fs))) e
      ∙ ap (λ q. pass n (map v (node_references (rows_of_list function_row q)))) (sym (drop_item fs i f h is))
