-- What holds of each row that has a name, computed row by row.
use Rattle.std.proofs.Common.{◌≡◌, true, refl, []}
use Rattle.wast_grammar.specs.Grammar.{Row, Test, Val}
use Rattle.wast_grammar.specs.Rows.{text_row}
use Rattle.wast_grammar.specs.Shape.{consumes, guarded, sound}
use Rattle.wast_grammar.specs.OfText.{is_fresh}
use Rattle.wast_grammar.specs.Clear.{clear, tests_of, heads, row_heads, always, always_row, never, never_row}
use Rattle.wast_grammar.specs.Unfolded.{named_rows}

-- it is sound, takes a token and begins with no row; no list in it is begun; it is clear, without a test behind it; and what it begins with is known
abbrev pub IsNamedRow : Row → Type 0
IsNamedRow r =
    (sound (text_row r) ≡ true) × (consumes (text_row r) ≡ true) × (guarded (text_row r) ≡ true) × (is_fresh (text_row r) ≡ true) × (clear (text_row r) ≡ true) × (tests_of (text_row r) ≡ [])
    × (heads (text_row r) ≡ row_heads r) × ((q : Test) → always (text_row r) q ≡ always_row r q) × ((q : Test) → never (text_row r) q ≡ never_row r q)

pub named_row : (r : Row) → IsNamedRow r
unfolding named_rows
named_row Val = (refl, refl, refl, refl, refl, refl, refl, (λ q. refl), (λ q. refl))
named_row _ = (refl, refl, refl, refl, refl, refl, refl, (λ q. refl), (λ q. refl))
