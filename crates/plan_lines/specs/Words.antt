-- Pieces of a plan between bytes that part them, and the offset at which each begins.
use Rattle.std.specs.Prelude.{ℕ, ◌+◌, ◌==◌, List, [], ◌∷◌, length, if◌then◌else◌}

pub record Word : Type 0 where
  pub at : ℕ
  pub bytes : List ℕ

abbrev pub word : ℕ → List ℕ → Word
word at bytes = record { at = at; bytes = bytes }

-- one byte in front of the first piece
abbrev pub longer : ℕ → ℕ → List Word → List Word
longer at b [] = word at (b ∷ []) ∷ []
longer at b (w ∷ ws) = word at (b ∷ w.bytes) ∷ ws

-- What stands between bytes of this value, from an offset on: one piece more than there are such bytes, and some may be empty.
abbrev pub split : ℕ → ℕ → List ℕ → List Word
split c at [] = word at [] ∷ []
split c at (b ∷ bs) = if b == c then word at [] ∷ split c (at + 1) bs else longer at b (split c (at + 1) bs)

-- the pieces of a word
abbrev pub pieces : ℕ → Word → List Word
pieces c w = split c w.at w.bytes

-- pieces without an empty one at the end
abbrev pub unless_empty : ℕ → List ℕ → List Word
unless_empty at [] = []
unless_empty at (b ∷ bs) = word at (b ∷ bs) ∷ []

abbrev pub without_empty_end : List Word → List Word
without_empty_end [] = []
without_empty_end (w ∷ []) = unless_empty w.at w.bytes
without_empty_end (w ∷ v ∷ ws) = w ∷ without_empty_end (v ∷ ws)
