-- What a space of names answers: an id is new or taken, a reference has a meaning or none.
use Rattle.std.specs.Prelude.{◌≡◌, ℕ, Bool, false, List, cond, map, Option, Some, None, is_some}
use Rattle.std.specs.declared.cmp.Ordering.{Ordering}
use Rattle.std.specs.Ordering.{nat_cmp, ordering_then}
use Rattle.std.specs.Cmp.Lexicographic.{slice_cmp}
use denote.Bor.{Bor}
use Rattle.comp_model.specs.Core as core
use Rattle.comp_model.specs.CoreModules as c
use Rattle.comp_model.specs.declared.Space.{Space}
use Rattle.comp_model.specs.Model.{Scope, defs_of}
use Rattle.comp_model.specs.Spaces.{items_from}
use Rattle.wast_tokens.specs.declared.error.Error.{Error}
use Rattle.wast_tokens.specs.declared.error.ErrorKind.{ErrorKind}
use Rattle.wast_tokens.specs.declared.error.ErrorKind.TheVariants.{Duplicate, Unknown, NoMemory}
use Rattle.core_model.specs.Items.{place_of}
use Rattle.name_ends.specs.Endings.{ending}

-- a refusal of this kind and offset
abbrev pub refusal : ErrorKind → ℕ → Error
refusal kind offset = record { kind = kind; offset = offset }

-- whether an id is that of an earlier item
abbrev pub is_taken : List (Option core.Id) → Option core.Id → Bool
is_taken ids None = false
is_taken ids (Some x) = is_some (place_of x ids)

-- how an id is refused: one that is taken, at its place, and another for want of memory
abbrev pub register_refusal : List (Option core.Id) → Option core.Id → Error
register_refusal ids None = refusal NoMemory 0
register_refusal ids (Some x) = cond (is_some (place_of x ids)) (refusal Duplicate x.offset) (refusal NoMemory 0)

-- how a reference is refused: at its place
abbrev pub unknown_at : c.Index → Error
unknown_at (c.number offset n) = refusal Unknown offset
unknown_at (c.named x) = refusal Unknown x.offset

-- the ids of the items of a space that a scope declares, in order
abbrev pub ids_declared : Space → Scope → List (Option core.Id)
ids_declared s c = map (λ d. d.id) (items_from s 0 (defs_of c))

-- ---- by what places are looked up

-- the end of a name, a number, and the name
abbrev pub Key : Type 0
Key = ℕ × (ℕ × Bor (List ℕ))

abbrev pub key_cmp : Key → Key → Ordering
key_cmp a b = ordering_then (nat_cmp a.0 b.0) (ordering_then (nat_cmp a.1.0 b.1.0) (slice_cmp nat_cmp a.1.1.now b.1.1.now))

-- whether this is the key of an id
pub record IsKey (k : Key) (x : core.Id) : Type 0 where
  pub end : k.0 ≡ ending x.name
  pub number : k.1.0 ≡ x.number
  pub name : k.1.1.now ≡ x.name

-- whether the place of each id stands under its key
abbrev pub Places : (Key → Option ℕ) → List (Option core.Id) → Type 0
Places find ids = (k : Key) (x : core.Id) → IsKey k x → find k ≡ place_of x ids
