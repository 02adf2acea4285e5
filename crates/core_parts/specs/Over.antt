-- Going over one token unread, where some groups are open.
use Rattle.std.specs.Prelude.{◌≡◌, ℕ, zero, suc, ◌+◌, Bool, true, false}
use Rattle.wast_grammar.specs.Skips.{Bracket, inner, begins, closes, absent, barred, bracket}
use Rattle.wast_grammar.specs.Stand.{Stand, class_at}

-- the next token leaves so many groups open, of so many that were open before it
pub data OneOver : ℕ → ℕ → Stand → Type 0 where
  over_inner : {n : ℕ} {s : Stand} → bracket (class_at s) ≡ inner → OneOver n n s
  over_begin : {n : ℕ} {s : Stand} → bracket (class_at s) ≡ begins → OneOver n (n + 1) s
  over_end : {n : ℕ} {s : Stand} → bracket (class_at s) ≡ closes → OneOver (n + 1) n s

-- no group is open
abbrev pub none_open : ℕ → Bool
none_open zero = true
none_open (suc n) = false

-- what is gone over ends before a token that is this to groups
abbrev pub stops : ℕ → Bracket → Bool
stops n inner = false
stops n begins = false
stops n closes = none_open n
stops n absent = true
stops n barred = true
