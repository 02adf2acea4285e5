-- What a sink holds: the items put so far, in closed sections and an open one.
use Rattle.std.specs.Prelude.{◌≡◌, ℕ, ◌+◌, ◌<◌, ◌^◌, Bool, true, false, List, [], ◌∷◌, ◌++◌, length, Option, Some, None, if◌then◌else◌}
use Rattle.comp_model.specs.Leb.{uleb}
use Rattle.comp_model.specs.Payloads.{joined}
use Rattle.comp_wire.specs.Sections.{is_counted, Item, Group, group, groups, sections, preamble, shares, Word}
use Rattle.comp_wire.specs.declared.sink.ComponentSink.{ComponentSink}
use Rattle.comp_wire.specs.declared.sections.SectionKind.{SectionKind}

-- the open section holds the last of these items, and the sections before it are closed
abbrev pub IsOpen : Option SectionKind → ℕ → List ℕ → List Group → List Item → Type 0
IsOpen None count bytes closed items = (items ≡ []) × (closed ≡ [])
IsOpen (Some k) count bytes closed items =
    (bs : List (List ℕ)) × (groups items ≡ closed ++ group k bs ∷ []) × (count ≡ length bs) × (bytes ≡ joined bs)

-- The sink holds these items, in this order.
pub record Holds (sink : ComponentSink) (items : List Item) : Type 0 where
  pub closed : List Group
  pub done : sink.done.items ≡ preamble ++ sections closed
  pub last : IsOpen sink.running sink.count sink.body.items closed items

-- the body of a section: its count, where it has one, and its items
abbrev pub body_of : SectionKind → ℕ → List ℕ → List ℕ
body_of t count bytes = if is_counted t then uleb count ++ bytes else bytes

-- The open section is short enough to be written.
abbrev pub IsShort : ComponentSink → Type 0
IsShort sink = (k : SectionKind) → sink.running ≡ Some k → Word (length (body_of k sink.count sink.body.items))

-- An item of the section can be put: where it closes the open section, that is short enough to be written; where it joins it, its
-- count stays below 2 ^ 32.
pub record CanPut (sink : ComponentSink) (t : SectionKind) : Type 0 where
  pub short : (k : SectionKind) → sink.running ≡ Some k → shares k t ≡ false → Word (length (body_of k sink.count sink.body.items))
  pub room : (k : SectionKind) → sink.running ≡ Some k → shares k t ≡ true → sink.count + 1 < 2 ^ 32

-- an item of the section joins the open one
abbrev pub joins : Option SectionKind → SectionKind → Bool
joins None k = false
joins (Some running) k = shares running k

-- the open section is of this kind, and one more item behind those that the sink holds joins it
pub record Takes (sink : ComponentSink) (k : SectionKind) (items : List Item) : Type 0 where
  pub closed : List Group
  pub running : SectionKind
  pub bodies : List (List ℕ)
  pub done : sink.done.items ≡ preamble ++ sections closed
  pub open_one : sink.running ≡ Some running
  pub same : running ≡ k
  pub count : sink.count ≡ length bodies
  pub bytes : sink.body.items ≡ joined bodies
  pub next : (i : Item) → i.section ≡ k → groups (items ++ i ∷ []) ≡ closed ++ group k (bodies ++ i.content ∷ []) ∷ []

-- an upper bound of what items weigh in their sections: their bytes, one more for each, and five for a count
abbrev pub bulk : List Item → ℕ
bulk [] = 5
bulk (i ∷ is) = length i.content + 1 + bulk is
