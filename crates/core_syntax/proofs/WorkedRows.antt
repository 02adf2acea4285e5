-- Small texts, each read by a row of core modules: what is read, and where a token doesn't fit.
use Rattle.std.proofs.Common.{◌≡◌, ℕ, ◌+◌, List, [], ◌∷◌, length, false, refl, codes}
use Prim.Native.String.{String}
use Rattle.wast_tokens.specs.declared.token.TokenKind.{TokenKind}
use Rattle.wast_tokens.specs.declared.token.TokenKind.TheVariants.{Id, LParen, RParen, Keyword, Integer}
use Rattle.wast_grammar.specs.Tokens.{Tok, Text}
use Rattle.wast_grammar.specs.Stand.{Stand}
use Rattle.wast_grammar.specs.Grammar.{Grammar, Value, none, num, both, left, right, part_at}
use Rattle.wast_grammar.specs.Read.{reads, fault, skip, skip_rest, fueled, again, read}
use Rattle.wast_grammar.specs.Rows.{reference, name, optional_number}
use Rattle.wast_grammar.specs.CoreRows.{Field, value_type, reference_type, other_reference, reference_parts, optional_null, heap_type, params, parameter_item, with_id, with_name, instructions, operation, other_operation, other_start, integer_32, integer_64, memory_type, limits, limits_start, limits_end, segment}

-- tokens with a space behind each
abbrev laid : ℕ → List (TokenKind × String) → List Tok
laid n [] = []
laid n (t ∷ ts) = record { kind = t.0; start = n; spelled = codes t.1 } ∷ laid (n + (length (codes t.1) + 1)) ts

abbrev text : List (TokenKind × String) → Text
text ts = record { tokens = laid 0 ts; size = 100; legacy = false }

abbrev at_place : List (TokenKind × String) → ℕ → Stand
at_place ts n = record { text = text ts; at = n }

-- the row reads the first n tokens as the value
abbrev Reads : Grammar → List (TokenKind × String) → Value → ℕ → Type 0
Reads g ts v n = read g (at_place ts 0) ≡ reads v (at_place ts n)

-- a token doesn't fit the row
abbrev Refuses : Grammar → List (TokenKind × String) → ℕ → Type 0
Refuses g ts n = read g (at_place ts 0) ≡ fault (at_place ts n)

abbrev open_group : TokenKind × String
open_group = (LParen, "(")

abbrev close_group : TokenKind × String
close_group = (RParen, ")")

-- `funcref` is `(ref null func)`
abbrev null_func : Value
null_func = both (left (both (left none) (right (left none)))) none

short : Reads reference_type ((Keyword, "funcref") ∷ []) null_func 1
unfolding reference_type reference_parts optional_null heap_type reference fueled again
short = refl

long : Reads reference_type (open_group ∷ (Keyword, "ref") ∷ (Keyword, "null") ∷ (Keyword, "func") ∷ close_group ∷ []) null_func 5
unfolding reference_type reference_parts optional_null heap_type reference fueled again
long = refl

-- `(param i32 i64) (param f32)` is read as `(param i32) (param i64) (param) (param f32)` is
abbrev three : Value
three = both none (left (both (right (right (left (num 0)))) (both none (both (both none (both (right (right (left (num 1)))) none)) (both (both none (both (right (right (left (num 2)))) none)) none)))))

together : Reads params (open_group ∷ (Keyword, "param") ∷ (Keyword, "i32") ∷ (Keyword, "i64") ∷ close_group ∷ open_group ∷ (Keyword, "param") ∷ (Keyword, "f32") ∷ close_group ∷ []) three 9
unfolding params parameter_item with_id with_name value_type reference_type other_reference reference_parts optional_null heap_type reference name fueled again
together = refl

apart : Reads params (open_group ∷ (Keyword, "param") ∷ (Keyword, "i32") ∷ close_group ∷ open_group ∷ (Keyword, "param") ∷ (Keyword, "i64") ∷ close_group ∷ open_group ∷ (Keyword, "param") ∷ close_group ∷ open_group ∷ (Keyword, "param") ∷ (Keyword, "f32") ∷ close_group ∷ []) three 15
unfolding params parameter_item with_id with_name value_type reference_type other_reference reference_parts optional_null heap_type reference name fueled again
apart = refl

-- no parameter, in a group or in none
no_group : Reads params [] (both none (right none)) 0
unfolding params parameter_item with_id with_name value_type reference_type other_reference reference_parts optional_null heap_type reference name fueled again
no_group = refl

empty_groups : Reads params (open_group ∷ (Keyword, "param") ∷ close_group ∷ open_group ∷ (Keyword, "param") ∷ close_group ∷ []) (both none (right none)) 6
unfolding params parameter_item with_id with_name value_type reference_type other_reference reference_parts optional_null heap_type reference name fueled again
empty_groups = refl

-- one with an id is alone in its group
with_another : Refuses params (open_group ∷ (Keyword, "param") ∷ (Id, "$x") ∷ (Keyword, "i32") ∷ (Keyword, "i64") ∷ close_group ∷ []) 4
unfolding params parameter_item with_id with_name value_type reference_type other_reference reference_parts optional_null heap_type reference name fueled again
with_another = refl

behind_another : Refuses params (open_group ∷ (Keyword, "param") ∷ (Keyword, "i32") ∷ (Id, "$x") ∷ (Keyword, "i64") ∷ close_group ∷ []) 3
unfolding params parameter_item with_id with_name value_type reference_type other_reference reference_parts optional_null heap_type reference name fueled again
behind_another = refl

-- a folded instruction stands behind its operands
folded_add : Reads instructions (open_group ∷ (Keyword, "i32.add") ∷ (Keyword, "nop") ∷ open_group ∷ (Keyword, "drop") ∷ close_group ∷ close_group ∷ []) (both (left (num 1)) (both (left (num 3)) (both (left (num 4)) none))) 7
unfolding instructions operation other_operation other_start integer_32 integer_64 reference fueled again
folded_add = refl

-- what begins with another keyword is left unread as far as its group goes
unread_rest : Reads instructions (open_group ∷ (Keyword, "nop") ∷ (Keyword, "block") ∷ (Keyword, "end") ∷ close_group ∷ (Keyword, "drop") ∷ []) (both (part_at 6 none) (both (left (num 1)) (both (left (num 3)) none))) 6
unfolding instructions operation other_operation other_start integer_32 integer_64 reference skip skip_rest fueled again
unread_rest = refl

-- limits alone, and beside a word that is never written, which takes their place
plain_limits : Reads (memory_type Field) ((Integer, "1") ∷ (Integer, "2") ∷ []) (left (both (both (num 1) (left (num 2))) none)) 2
unfolding memory_type limits limits_start limits_end segment optional_number skip skip_rest fueled again
plain_limits = refl

shared_limits : Reads (memory_type Field) ((Integer, "1") ∷ (Keyword, "shared") ∷ []) (right none) 2
unfolding memory_type limits limits_start limits_end segment optional_number skip skip_rest fueled again
shared_limits = refl
