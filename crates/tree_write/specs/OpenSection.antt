-- The sections of a component while they are written, from the last one to the first: those that are closed, and an open one in front.
use Rattle.std.specs.Prelude.{◌≡◌, ℕ, Bool, false, List, [], ◌∷◌, length, Option, Some, None, if◌then◌else◌}
use Rattle.comp_model.specs.Leb.{uleb}
use Rattle.comp_model.specs.Payloads.{joined}
use Rattle.comp_wire.specs.Sections.{is_counted, Item, Group, group, groups, in_front, sections, shares}
use Rattle.comp_wire.specs.declared.sections.SectionKind.{SectionKind}
use Rattle.tree_write.specs.Kept.{Kept, put, Taken}
use Rattle.tree_write.specs.declared.sections.Open.{Open}

-- the next item in front has a section of its own
abbrev pub BeginsAlone : List Group → Type 0
BeginsAlone gs = (i : Item) → in_front i gs ≡ group i.section (i.content ∷ []) ∷ gs

-- the items of the open section are in front of the closed ones, which are in front of what was there before
abbrev pub IsOpen : Kept → Kept → Option SectionKind → ℕ → ℕ → List Item → Type 0
IsOpen before now None count end items = (now ≡ put (sections (groups items)) before) × BeginsAlone (groups items)
IsOpen before now (Some k) count end items =
    (bodies : List (List ℕ)) × (closed : List Group) × (groups items ≡ group k bodies ∷ closed) × (count ≡ length bodies) × (now ≡ put (joined bodies) (put (sections closed) before)) × Taken (put (sections closed) before) end

abbrev pub Holds : Kept → Kept → Open → List Item → Type 0
Holds before now open_one items = IsOpen before now open_one.running open_one.count open_one.end items

-- the count in front of the items of a section
abbrev pub count_bytes : SectionKind → ℕ → List ℕ
count_bytes s n = if is_counted s then uleb n else []

-- an item of the section joins the open one
abbrev pub joins : Option SectionKind → SectionKind → Bool
joins None k = false
joins (Some running) k = shares k running

-- the open section is of this kind, and one more item in front of those held joins it
pub record Takes (before now : Kept) (open_one : Open) (k : SectionKind) (items : List Item) : Type 0 where
  pub running : SectionKind
  pub bodies : List (List ℕ)
  pub closed : List Group
  pub is_running : open_one.running ≡ Some running
  pub same : running ≡ k
  pub count : open_one.count ≡ length bodies
  pub bytes : now ≡ put (joined bodies) (put (sections closed) before)
  pub taken : Taken (put (sections closed) before) open_one.end
  pub next : (i : Item) → i.section ≡ k → groups (i ∷ items) ≡ group k (i.content ∷ bodies) ∷ closed
