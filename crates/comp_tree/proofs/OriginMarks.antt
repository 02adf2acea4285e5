-- Origins that are given one after the other, and the marks that they show.
use Rattle.std.proofs.Common.{◌≡◌, List, [], ◌∷◌, ◌++◌, refl, ◌∙◌, ap, ℕ}
use Rattle.comp_model.specs.Origins.{Origin, Origins, no_origins, origin_then, Held, holds_none, holds}
use Rattle.comp_expanded.specs.ListMarks.{ListMarks, no_marks, mark_then, Inside, origins_in, held_in}
use Rattle.comp_wire.specs.declared.origin.ItemOrigin.{ItemOrigin, ItemOrigin', None', Some'}
use Rattle.comp_wire.specs.declared.origin.ItemOrigin.TheBlock.{hidden-the_row-ItemOrigin-0}
use Rattle.comp_wire.specs.declared.origin.ScopeOrigins.{ScopeOrigins, ScopeOrigins', roll-ScopeOrigins, Row_of-ItemOrigin, end_of-ItemOrigin, more_of-ItemOrigin, items-the_row-ItemOrigin, items_hidden-the_row-ItemOrigin-0}
use Rattle.comp_wire.specs.Origins.{origin_of, origins_of, origins_of_row}
use Rattle.comp_tree.specs.OriginMarks.{shown_inside, marks_shown, marks_of_row, marks_of_items, item_mark, marks_after, without_places, held_without_places}

-- ---- a scope of items

as_list : {n : _} (ds : Row_of-ItemOrigin n) → marks_of_row ds ≡ marks_of_items (items-the_row-ItemOrigin n ds)
as_list end_of-ItemOrigin = refl
as_list (more_of-ItemOrigin (ItemOrigin' o h ps) ds) = ap (mark_then (origin_of o) ps (shown_inside h)) (as_list ds)

pub marks_rolled : (items : List ItemOrigin) → marks_shown (roll-ScopeOrigins (record { items = items })) ≡ marks_of_items items
unfolding roll-ScopeOrigins hidden-the_row-ItemOrigin-0 denote.Hole.Carrier.roll denote.Hole.Carrier.hidden
marks_rolled items = as_list (hidden-the_row-ItemOrigin-0 items) ∙ ap marks_of_items (items_hidden-the_row-ItemOrigin-0 items)

-- ---- one more item

one-mark : (x : ItemOrigin) (o : Origin) (ps : List ℕ) (h : Inside) (rest : ListMarks) → item_mark x ≡ (o, (ps, h)) → marks_after (marks_of_items (x ∷ [])) rest ≡ mark_then o ps h rest
one-mark (ItemOrigin' a b qs) o ps h rest e = ap (λ (p : Origin × (List ℕ × Inside)). mark_then p.0 p.1.0 p.1.1 rest) e

pub mark_pushed : (xs : List ItemOrigin) (x : ItemOrigin) (o : Origin) (ps : List ℕ) (h : Inside) (rest : ListMarks) → item_mark x ≡ (o, (ps, h)) → marks_after (marks_of_items (xs ++ x ∷ [])) rest ≡ marks_after (marks_of_items xs) (mark_then o ps h rest)
mark_pushed [] x o ps h rest e = one-mark x o ps h rest e
mark_pushed (ItemOrigin' a b qs ∷ xs) x o ps h rest e = ap (mark_then (origin_of a) qs (shown_inside b)) (mark_pushed xs x o ps h rest e)

pub nothing_after : (ms : ListMarks) → marks_after ms no_marks ≡ ms
nothing_after no_marks = refl
nothing_after (mark_then o ps h ms) = ap (mark_then o ps h) (nothing_after ms)

-- ---- without their places

mutual
  pub shown_origins : (s : ScopeOrigins) → origins_in (marks_shown s) ≡ origins_of s
  shown_origins (ScopeOrigins' shape items) = row-origins items

  row-origins : {n : _} (items : Row_of-ItemOrigin n) → origins_in (marks_of_row items) ≡ origins_of_row items
  row-origins end_of-ItemOrigin = refl
  row-origins (more_of-ItemOrigin (ItemOrigin' o None' ps) items) = ap (origin_then (origin_of o) holds_none) (row-origins items)
  row-origins (more_of-ItemOrigin (ItemOrigin' o (Some' s) ps) items) = ap (λ q. origin_then (origin_of o) (holds q) (origins_in (marks_of_row items))) (shown_origins s) ∙ ap (origin_then (origin_of o) (holds (origins_of s))) (row-origins items)

mutual
  pub placeless_origins : (os : Origins) → origins_in (without_places os) ≡ os
  placeless_origins no_origins = refl
  placeless_origins (origin_then o h os) = ap (λ q. origin_then o q (origins_in (without_places os))) (placeless-held h) ∙ ap (origin_then o h) (placeless_origins os)

  placeless-held : (h : Held) → held_in (held_without_places h) ≡ h
  placeless-held holds_none = refl
  placeless-held (holds os) = ap holds (placeless_origins os)
