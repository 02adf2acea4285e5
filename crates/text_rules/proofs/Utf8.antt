-- Texts that a grammar spells by strings in UTF-8 are UTF-8.
use Rattle.std.proofs.Common.{◌≡◌, ℕ, Bool, true, false, ◌&&◌, cond, nat_eq, List, Option, Some, None, refl, slice_get}
use Rattle.std.specs.Str.{is_utf8}
use Rattle.std.specs.Prelude.{⊤}
use Rattle.std.specs.Option.{option_or}
use Rattle.wast_tokens.specs.declared.token.TokenKind.{TokenKind}
use Rattle.wast_tokens.specs.declared.token.TokenKind.TheVariants as kinds
use Rattle.wast_grammar.specs.Tokens.{Tok, string_of}
use Rattle.wast_grammar.specs.Classes.{class_by, class_of, same, utf8}
use Rattle.wast_grammar.specs.Stand.{Stand, class_at, bytes_at, bytes_of}
use Rattle.wast_grammar.specs.Grammar as g
use Rattle.wast_grammar.specs.Grammar.{Grammar, Value, none, num, numeral_at, name_at, text, both, left, right, part_at, numbered, numbered_in, chosen_of}
use Rattle.wast_grammar.specs.Spells as sp
use Rattle.wast_grammar.specs.Spells.{Spells}
use Rattle.wast_grammar.proofs.Moves.{and_true}
use Rattle.wast_grammar.proofs.Same.{same_is}

-- ---- one token

utf8_by : (kind : TokenKind) (bytes : List ℕ) → class_by kind bytes ≡ utf8 → is_utf8 (string_of bytes) ≡ true
utf8_by kinds.Text bytes e = cc
utf8_by _ bytes e = absurd (cc)

utf8_of : (o : Option Tok) → class_of o ≡ utf8 → is_utf8 (string_of (bytes_of o)) ≡ true
utf8_of None e = absurd (cc)
utf8_of (Some t) e = utf8_by t.kind t.spelled e

pub utf8_there : (s : Stand) → same (class_at s) utf8 ≡ true → is_utf8 (string_of (bytes_at s)) ≡ true
utf8_there s h = utf8_of (slice_get s.text.tokens s.at) (same_is _ _ h)

-- ---- values

-- each text in a value is UTF-8
abbrev pub Utf8Value : Value → Type 0
Utf8Value none = ⊤
Utf8Value (num n) = ⊤
Utf8Value (numeral_at n o) = ⊤
Utf8Value (name_at x n o) = ⊤
Utf8Value (text t) = is_utf8 t ≡ true
Utf8Value (both u v) = Utf8Value u × Utf8Value v
Utf8Value (left v) = Utf8Value v
Utf8Value (right v) = Utf8Value v
Utf8Value (part_at o v) = Utf8Value v
Utf8Value (numbered n v) = Utf8Value v

-- of these formers, whether all texts are strings in UTF-8
abbrev are_utf8 : Grammar → Bool
are_utf8 g.nothing = true
are_utf8 (g.before c x) = are_utf8 x
are_utf8 (g.after x c) = are_utf8 x
are_utf8 (g.leaf g.a_text) = true
are_utf8 (g.pair a b) = are_utf8 a && are_utf8 b
are_utf8 (g.either q a b) = are_utf8 a && are_utf8 b
are_utf8 (g.case n q a b) = are_utf8 a && are_utf8 b
are_utf8 g.no_case = true
are_utf8 _ = false

pub spelled_utf8 : (x : Grammar) {s t : Stand} {v : Value} → Spells x s t v → are_utf8 x ≡ true → Utf8Value v
spelled_utf8 g.nothing sp.blank h = tt
spelled_utf8 (g.before c x) (sp.token i d) h = spelled_utf8 x d h
spelled_utf8 (g.after x c) (sp.behind d i) h = spelled_utf8 x d h
spelled_utf8 (g.leaf g.a_text) (sp.kept {s = s} i) h = utf8_there s i
spelled_utf8 (g.pair a b) (sp.paired d e) h = let c = and_true (are_utf8 a) _ h in (spelled_utf8 a d c.0, spelled_utf8 b e c.1)
spelled_utf8 (g.either q a b) (sp.one d) h = spelled_utf8 a d (and_true (are_utf8 a) _ h).0
spelled_utf8 (g.either q a b) (sp.other d) h = spelled_utf8 b d (and_true (are_utf8 a) _ h).1
spelled_utf8 (g.case n q a b) (sp.this_case d) h = spelled_utf8 a d (and_true (are_utf8 a) _ h).0
spelled_utf8 (g.case n q a b) (sp.next_case d) h = spelled_utf8 b d (and_true (are_utf8 a) _ h).1
spelled_utf8 g.no_case d h = elim d [ ]
spelled_utf8 _ d h = absurd (cc)

-- the value with a number in it
or_utf8 : (a b : Option Value) → Utf8Value (chosen_of a) → Utf8Value (chosen_of b) → Utf8Value (chosen_of (option_or a b))
or_utf8 None b h f = f
or_utf8 (Some u) b h f = h

pub chosen_utf8 : (n : ℕ) (v : Value) → Utf8Value v → Utf8Value (chosen_of (numbered_in n v))
chosen_utf8 n (numbered m v) h = go (nat_eq m n)
  where
    go : (b : Bool) → Utf8Value (chosen_of (cond b (Some v) None))
    go true = h
    go false = tt
chosen_utf8 n (both u v) h = or_utf8 (numbered_in n u) (numbered_in n v) (chosen_utf8 n u h.0) (chosen_utf8 n v h.1)
chosen_utf8 n (left v) h = chosen_utf8 n v h
chosen_utf8 n (right v) h = chosen_utf8 n v h
chosen_utf8 n (part_at o v) h = chosen_utf8 n v h
chosen_utf8 n none h = tt
chosen_utf8 n (num m) h = tt
chosen_utf8 n (numeral_at m o) h = tt
chosen_utf8 n (name_at x k o) h = tt
chosen_utf8 n (text x) h = tt
