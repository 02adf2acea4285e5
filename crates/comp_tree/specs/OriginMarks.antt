-- The marks that a value of origins shows, with the places that are recorded beside each, and what is recorded of marks.
use Rattle.std.specs.Prelude.{ℕ, List, [], ◌∷◌, ◌<◌, ◌^◌, length, Option, Some, None, ⊤}
use Rattle.comp_model.specs.Origins as mark
use Rattle.comp_model.specs.Origins.{Origins, no_origins, origin_then, Held, holds_none, holds}
use Rattle.comp_expanded.specs.ListMarks.{ListMarks, no_marks, mark_then, Inside, nothing_inside, inside_are}
use Rattle.comp_wire.specs.Origins.{origin_of}
use Rattle.comp_wire.specs.declared.origin.ItemOrigin.{ItemOrigin, ItemOrigin', Held-ItemOrigin-inner, None', Some'}
use Rattle.comp_wire.specs.declared.origin.ScopeOrigins.{ScopeOrigins, ScopeOrigins', Row_of-ItemOrigin, end_of-ItemOrigin, more_of-ItemOrigin}

abbrev mutual
  pub shown_inside : Held-ItemOrigin-inner → Inside
  shown_inside None' = nothing_inside
  shown_inside (Some' scope) = inside_are (marks_shown scope)

  pub marks_shown : ScopeOrigins → ListMarks
  marks_shown (ScopeOrigins' shape items) = marks_of_row items

  pub marks_of_row : {n : _} → Row_of-ItemOrigin n → ListMarks
  marks_of_row end_of-ItemOrigin = no_marks
  marks_of_row (more_of-ItemOrigin (ItemOrigin' o h ps) items) = mark_then (origin_of o) ps (shown_inside h) (marks_of_row items)

-- the same of a list
abbrev pub marks_of_items : List ItemOrigin → ListMarks
marks_of_items [] = no_marks
marks_of_items (ItemOrigin' o h ps ∷ is) = mark_then (origin_of o) ps (shown_inside h) (marks_of_items is)

abbrev pub item_mark : ItemOrigin → mark.Origin × (List ℕ × Inside)
item_mark (ItemOrigin' o h ps) = (origin_of o, (ps, shown_inside h))

abbrev pub inside_by : Option ScopeOrigins → Inside
inside_by None = nothing_inside
inside_by (Some scope) = inside_are (marks_shown scope)

-- marks, one list after the other
abbrev pub marks_after : ListMarks → ListMarks → ListMarks
marks_after no_marks rest = rest
marks_after (mark_then o ps h ms) rest = mark_then o ps h (marks_after ms rest)

-- the places that are recorded beside a mark: those of what is written, of an inline type and of a bundle
abbrev pub recorded_places : mark.Origin → List ℕ → List ℕ
recorded_places (mark.written k) ps = ps
recorded_places (mark.inline_type k u) ps = ps
recorded_places (mark.bundle_of k u) ps = ps
recorded_places (mark.inline_export k j) ps = []
recorded_places (mark.export_step k u s) ps = []
recorded_places (mark.outer_alias_of k u) ps = []
recorded_places mark.name_section ps = []

abbrev mutual
  pub recorded : ListMarks → ListMarks
  recorded no_marks = no_marks
  recorded (mark_then o ps h ms) = mark_then o (recorded_places o ps) (recorded_inside h) (recorded ms)

  pub recorded_inside : Inside → Inside
  recorded_inside nothing_inside = nothing_inside
  recorded_inside (inside_are ms) = inside_are (recorded ms)

-- the marks of a binary, beside which no places are recorded
abbrev mutual
  pub without_places : Origins → ListMarks
  without_places no_origins = no_marks
  without_places (origin_then o h os) = mark_then o [] (held_without_places h) (without_places os)

  pub held_without_places : Held → Inside
  held_without_places holds_none = nothing_inside
  held_without_places (holds os) = inside_are (without_places os)

-- each list of places has fewer than 2^32
abbrev mutual
  pub FewPlaces : ListMarks → Type 0
  FewPlaces no_marks = ⊤
  FewPlaces (mark_then o ps h ms) = (length ps < 2 ^ 32) × FewInside h × FewPlaces ms

  pub FewInside : Inside → Type 0
  FewInside nothing_inside = ⊤
  FewInside (inside_are ms) = FewPlaces ms
