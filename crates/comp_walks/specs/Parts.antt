-- What a visitor is told by each part.
use Rattle.std.specs.Prelude.{option_map}
use Rattle.comp_model.specs.Model as m
use Rattle.comp_model.specs.Events as e
use Rattle.comp_model.specs.Events.{Event}
use Rattle.comp_walks.specs.Lent.{id_of, reach_of, place_of, target_of, index_of, core_value_of, texts_of, joined, ids_of, names_of, label_of}
use Rattle.comp_walks.specs.declared.part.Part.{Part}
use Rattle.comp_walks.specs.declared.part.Part.TheVariants as p

abbrev pub event_of : Part → Event
event_of (p.Text t) = e.leaf (m.text t.now)
event_of (p.Pieces ts) = e.leaf (m.text (joined ts.now))
event_of (p.Number n) = e.leaf (m.number n)
event_of (p.Kind s) = e.leaf (m.kind s)
event_of (p.CoreValue v) = e.leaf (m.core_value (core_value_of v))
event_of (p.Index s r i) = e.leaf (m.ref s (index_of (reach_of r) i))
event_of (p.Reference s i xs) = e.leaf (m.ref s (target_of i (texts_of xs.now)))
event_of (p.Place span i) = e.leaf (m.place (place_of span.offset i))
event_of p.Absent = e.leaf m.absent
event_of (p.CaseId x) = e.leaf (m.case_id (option_map id_of x))
event_of (p.Results xs) = e.leaf (m.result_ids (ids_of xs.now))
event_of p.Present = e.present
event_of p.Node = e.node
event_of p.List = e.list
event_of (p.Inline s) = e.inline s
event_of (p.Bundle s) = e.bundle s
event_of (p.Row r) = e.row_of r
event_of (p.Definition names) = e.definition (names_of names)
event_of (p.Ended span) = e.ended span.offset
event_of p.Held = e.held
event_of (p.Scope kind id label) = e.scope kind (option_map id_of id) (label_of label)
event_of p.Closed = e.closed
