-- What the size of items says of them.
use Rattle.std.specs.Prelude.{◌≡◌, ℕ, Bool, List, length}
use Rattle.comp_model.specs.Payloads.{joined}
use Rattle.core_syntax.specs.Measures.{capped}
use Rattle.core_fits.specs.declared.size.Size.{Size}

-- how many items there are, how many bytes they have, and whether what is tested holds of them
pub record IsSize (size : Size) (items : List (List ℕ)) (holds : Bool) : Type 0 where
  pub count : size.count ≡ capped (length items)
  pub bytes : size.bytes ≡ capped (length (joined items))
  pub fits : size.fits ≡ holds

-- how many bytes there are, and whether what is tested holds of them
pub record IsLong (size : Size) (bytes : List ℕ) (holds : Bool) : Type 0 where
  pub bytes_long : size.bytes ≡ capped (length bytes)
  pub fits : size.fits ≡ holds
