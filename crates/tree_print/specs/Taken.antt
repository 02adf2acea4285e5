-- What a printer took: tokens, one behind the other, as their bytes or as how many these are.
use Rattle.std.specs.Prelude.{ℕ, ◌+◌, ◌-◌, ◌^◌, min, Bool, true, false, cond, List, [], ◌∷◌, ◌++◌, length, string_bytes}
use Rattle.print_table.specs.Tokens as printed
use Rattle.print_table.specs.Tokens.{PrintedToken, spelled}
use Rattle.tree_print.specs.declared.token.Token.{Token}
use Rattle.tree_print.specs.declared.token.Token.TheVariants as tokens
use Rattle.tree_print.specs.declared.printer.Output.{Output}
use Rattle.tree_print.specs.declared.printer.Output.TheVariants as outputs
use Rattle.tree_print.specs.declared.printer.Printer.{Printer}

-- what a token of the code stands for
abbrev pub token_of : Token → PrintedToken
token_of tokens.Opening = printed.opening
token_of tokens.Closing = printed.closing
token_of tokens.Custom = printed.note (40 ∷ 64 ∷ 99 ∷ 117 ∷ 115 ∷ 116 ∷ 111 ∷ 109 ∷ [])
token_of (tokens.Word x) = printed.word x.now
token_of (tokens.Numeral n) = printed.numeral n
token_of (tokens.Text bs) = printed.string bs.now

abbrev pub is_opening : PrintedToken → Bool
is_opening printed.opening = true
is_opening _ = false

-- no space stands in front of it, where the token in front is `(` or there is none, or it is `)` itself
abbrev pub follows : Bool → PrintedToken → Bool
follows tight printed.closing = true
follows tight _ = tight

abbrev pub gap_at : Bool → PrintedToken → List ℕ
gap_at tight x = cond (follows tight x) [] (32 ∷ [])

-- the bytes of one more token
abbrev pub spaced : Bool → PrintedToken → List ℕ
spaced tight x = gap_at tight x ++ spelled x

-- those of some tokens, and whether the next one follows at once
abbrev pub all_spaced : Bool → List PrintedToken → List ℕ
all_spaced tight [] = []
all_spaced tight (x ∷ xs) = spaced tight x ++ all_spaced (is_opening x) xs

abbrev pub tight_behind : Bool → List PrintedToken → Bool
tight_behind tight [] = tight
tight_behind tight (x ∷ xs) = tight_behind (is_opening x) xs

-- the greatest number of 64 bits stands for every greater one
abbrev pub capped : ℕ → ℕ
capped n = min n (2 ^ 64 - 1)

pub data Written : Type 0 where
  counted : ℕ → Written
  kept : List ℕ → Written

abbrev pub append : List ℕ → Written → Written
append xs (counted n) = counted (capped (n + length xs))
append xs (kept bs) = kept (bs ++ xs)

abbrev pub written_length : Written → ℕ
written_length (counted n) = n
written_length (kept bs) = length bs

abbrev pub written_bytes : Written → List ℕ
written_bytes (counted n) = []
written_bytes (kept bs) = bs

-- what was written, and whether the next token follows at once
pub record Taken : Type 0 where
  pub written : Written
  pub tight : Bool

-- one more token, and some
unfoldable pub step : PrintedToken → Taken → Taken
step x k = record { written = append (spaced k.tight x) k.written; tight = is_opening x }

abbrev pub put : List PrintedToken → Taken → Taken
put [] k = k
put (x ∷ xs) k = put xs (step x k)

abbrev pub written_of : Output → Written
written_of (outputs.Count n) = counted n
written_of (outputs.Text t) = kept (string_bytes t)

abbrev pub taken : Printer → Taken
taken p = record { written = written_of p.output; tight = p.tight }
