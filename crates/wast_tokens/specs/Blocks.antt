-- Block comments, which nest (WebAssembly text format, Comments).
use Rattle.std.specs.Prelude.{◌≡◌, ℕ, ◌+◌, ◌<◌, Bool, true, false, ◌&&◌, ◌==◌, List, length, slice_index}

-- `(;` stands at the place
unfoldable pub opens : List ℕ → ℕ → Bool
opens text a = (slice_index text a == 40) && (slice_index text (a + 1) == 59)

-- `;)` stands at the place
unfoldable pub closes : List ℕ → ℕ → Bool
closes text a = (slice_index text a == 59) && (slice_index text (a + 1) == 41)

-- from place a to place b stand whole block comments, and bytes at which none opens or closes
pub data IsBody (text : List ℕ) : ℕ → ℕ → Type 0 where
  none : (a : ℕ) → IsBody text a a
  other : (a b : ℕ) → a < length text → opens text a ≡ false → closes text a ≡ false → IsBody text (a + 1) b → IsBody text a b
  block : (a m b : ℕ) → opens text a ≡ true → IsBody text (a + 2) m → closes text m ≡ true → IsBody text (m + 2) b → IsBody text a b

-- a block comment stands from place a to place b
pub record IsBlock (text : List ℕ) (a b : ℕ) : Type 0 where
  pub opened : opens text a ≡ true
  pub close : ℕ
  pub body : IsBody text (a + 2) close
  pub closed : closes text close ≡ true
  pub end : b ≡ close + 2
