-- The shortest LEB128 of a number, unsigned and signed (WebAssembly, binary format, Integers).
use Rattle.std.specs.Prelude.{ℕ, zero, suc, ◌+◌, ◌-◌, ◌/◌, ◌%◌, ℤ, pos, negsuc, List, [], ◌∷◌, if◌then◌else◌, nat_lt}

-- Seven bits a byte, the lowest first, and the top bit where more follow: a number below the limit is the last byte.
-- `digit` says how seven bits are written; `turns` bounds the recursion.
abbrev pub leb_within : (ℕ → ℕ) → ℕ → ℕ → ℕ → List ℕ
leb_within digit limit zero n = digit n ∷ []
leb_within digit limit (suc turns) n =
    if nat_lt n limit then digit n ∷ [] else (128 + digit (n % 128)) ∷ leb_within digit limit turns (n / 128)

-- The bytes of a number, where one below the limit is the last byte.
unfoldable pub leb : (ℕ → ℕ) → ℕ → ℕ → List ℕ
leb digit limit n = leb_within digit limit n n

-- seven bits as they are
abbrev pub plain : ℕ → ℕ
plain b = b

-- seven bits, each turned
abbrev pub turned : ℕ → ℕ
turned b = 127 - b

-- The unsigned LEB128 of a number.
abbrev pub uleb : ℕ → List ℕ
uleb n = leb plain 128 n

-- The signed LEB128 of a number that isn't negative: bit 6 of the last byte is the sign.
abbrev pub sleb : ℕ → List ℕ
sleb n = leb plain 64 n

-- The signed LEB128 of any integer. The bits of -(n + 1) are those of n, each turned.
abbrev pub signed_leb : ℤ → List ℕ
signed_leb (pos n) = sleb n
signed_leb (negsuc n) = leb turned 64 n

-- n for n, and n for -(n + 1): the bits without their sign, turned where it is negative
abbrev pub magnitude : ℤ → ℕ
magnitude (pos n) = n
magnitude (negsuc n) = n
