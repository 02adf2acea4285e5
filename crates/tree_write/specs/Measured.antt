-- Whether parts of a component can be written, and how long they are.
use Rattle.std.specs.Prelude.{◌≡◌, ℕ, zero, suc, ◌+◌, ◌-◌, ◌^◌, min, max, Bool, true, false, ◌&&◌, List, [], ◌∷◌, length, Option, Some, None, MatchOption}
use Rattle.comp_model.specs.declared.Space.{Space}
use Rattle.comp_model.specs.CoreModules.{CoreModule}
use Rattle.comp_model.specs.Payloads.{joined}
use Rattle.comp_tree.specs.declared.tree.Def.{Def}
use Rattle.comp_tree.specs.declared.tree.Leaf.{Leaf}
use Rattle.comp_tree.specs.declared.tree.Leaf as l
use Rattle.comp_wire.specs.Fits.{test_at, outer_fits, item_fits, each_short}
use Rattle.comp_wire.specs.Sections.{Item, Group, group, groups, sections}
use Rattle.comp_wire.specs.Table as t
use Rattle.comp_wire.specs.declared.sections.SectionKind.{SectionKind}
use Rattle.tree_write.specs.Wire.{wire_node_of_def}
use Rattle.tree_write.specs.declared.short.Measured.{Measured}
use Rattle.tree_write.specs.declared.short.Sections.{Sections}

-- ---- pieces

abbrev pub piece_fits : t.Piece → List (t.Field → Bool) → Bool
piece_fits (t.byte b) gs = true
piece_fits (t.leaf i f) gs = test_at i f gs
piece_fits (t.limits i) gs = test_at i t.unsigned gs && test_at (suc i) t.maximum gs
piece_fits (t.outer i) gs = outer_fits i gs

-- how many leaves a line has whose last piece is this one; how many one of these pieces has
abbrev pub places_of_piece : t.Piece → ℕ
places_of_piece (t.byte b) = 0
places_of_piece (t.leaf i f) = i + 1
places_of_piece (t.limits i) = i + 2
places_of_piece (t.outer i) = i + 3

abbrev pub places_of : List t.Piece → ℕ
places_of [] = 0
places_of (p ∷ ps) = max (places_of_piece p) (places_of ps)

-- the space of a leaf that is a kind
abbrev pub space_of_kind : Leaf → Option Space
space_of_kind (l.Kind s) = Some s
space_of_kind _ = None

abbrev pub kind_in : List Leaf → ℕ → Option Space
kind_in [] i = None
kind_in (x ∷ xs) zero = space_of_kind x
kind_in (x ∷ xs) (suc i) = kind_in xs i

-- ---- sections

-- a count of bytes, whose greatest value stands for every greater number
abbrev pub Counts : ℕ → List ℕ → Type 0
Counts n bytes = n ≡ min (length bytes) (2 ^ 64 - 1)

-- how long a part is, where it can be written
abbrev pub IsSize : Option ℕ → List ℕ → Bool → Type 0
IsSize size bytes fit = MatchOption size (fit ≡ false) (λ n. (fit ≡ true) × Counts n bytes)

module _ (cores : List CoreModule) where
  abbrev pub items_fit : List Def → Bool
  items_fit [] = true
  items_fit (d ∷ ds) = item_fits (wire_node_of_def cores d.node) && items_fit ds

-- the sections of items, of which all can be written or not; the one in front is open
abbrev pub IsOpenSection : Option SectionKind → ℕ → ℕ → ℕ → Bool → List Item → Bool → Type 0
IsOpenSection None count bytes behind fits items fit = (groups items ≡ []) × (fits ≡ fit)
IsOpenSection (Some k) count bytes behind fits items fit =
    (bodies : List (List ℕ)) × (closed : List Group) × (groups items ≡ group k bodies ∷ closed) × (fits ≡ (fit && each_short closed)) × (count ≡ min (length bodies) (2 ^ 64 - 1)) × (fits ≡ true → Counts bytes (joined bodies) × Counts behind (sections closed))

abbrev pub IsMeasured : Measured → List Item → Bool → Type 0
IsMeasured m items fit = IsOpenSection m.running m.count m.bytes m.behind m.fits items fit

-- all are closed
abbrev pub AreMeasured : Sections → List Item → Bool → Type 0
AreMeasured s items fit = (s.fits ≡ (fit && each_short (groups items))) × (s.fits ≡ true → Counts s.bytes (sections (groups items)))

-- the section in front is of this kind, and one more item in front joins it
pub record TakesMore (m : Measured) (k : SectionKind) (items : List Item) (fit : Bool) : Type 0 where
  pub running : SectionKind
  pub bodies : List (List ℕ)
  pub closed : List Group
  pub is_running : m.running ≡ Some running
  pub next : (i : Item) → i.section ≡ k → groups (i ∷ items) ≡ group running (i.content ∷ bodies) ∷ closed
  pub fits : m.fits ≡ (fit && each_short closed)
  pub count : m.count ≡ min (length bodies) (2 ^ 64 - 1)
  pub sizes : m.fits ≡ true → Counts m.bytes (joined bodies) × Counts m.behind (sections closed)
