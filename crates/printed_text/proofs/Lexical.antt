-- A printed text is cut into the tokens that were printed.
use Rattle.std.proofs.Common.{◌≡◌, ℕ, ◌+◌, ◌<◌, ⊎_elim, List, [], ◌∷◌, ◌++◌, length, map, slice_index, slice_range, sym, refl, ap, ◌∙◌, subst, arith, Bool, true, false, cond, not, ◌||◌, ◌==◌, nat_lt, codes, Ok, length-append}
use Rattle.std.proofs.lemmas.Bool.{eqb-true, cases_Bool}
use Rattle.std.specs.List.{list_all}
use Rattle.std.specs.Str.{is_utf8}
use Rattle.std.specs.Char.{is_ascii_lowercase}
use Rattle.std.specs.Fmt.{decimal}
use Rattle.wast_tokens.specs.declared.token.Token.{Token}
use Rattle.wast_tokens.specs.declared.token.TokenKind.{TokenKind}
use Rattle.wast_tokens.specs.declared.token.TokenKind.TheVariants as kinds
use Rattle.wast_tokens.specs.declared.chars.Beginning.TheVariants as first
use Rattle.wast_tokens.specs.Along.{Along}
use Rattle.wast_tokens.specs.Along.Along.{done, more}
use Rattle.wast_tokens.specs.Chars.{is_id_char, is_space, is_reserved_mark, begun_by, beginning_at, word_end}
use Rattle.wast_tokens.specs.Runs.{IsPart, IsRun, word_kind}
use Rattle.wast_tokens.specs.Runs.IsPart.{string as string_part}
use Rattle.wast_tokens.specs.Runs.IsOfKind.{word as word_of_kind, string as string_of_kind}
use Rattle.wast_tokens.specs.Tiling.{IsToken, Lexeme, Chain, kept}
use Rattle.wast_tokens.specs.Tiling.IsGap.{space}
use Rattle.wast_tokens.specs.Tiling.IsToken.{opening as opening_token, closing as closing_token, annotation as annotation_token, run as run_token}
use Rattle.wast_tokens.specs.Tiling.Lexeme.{gap as gap_to, token as token_of}
use Rattle.wast_tokens.proofs.Classes.{id_begins, quote_begins}
use Rattle.wast_tokens.proofs.Parts.{word_all_parts, run_from}
use Rattle.wast_tokens.proofs.Keywords.{keyword_kind}
use Rattle.wast_grammar.specs.Tokens.{Tok, tok}
use Rattle.wast_parser.specs.Groups.{is_registered, is_passed_over, AreRead}
use Rattle.wast_parser.specs.Groups.AreRead.{none, kept as read_one}
use Rattle.wast_parser.specs.View.{IsTextOf}
use Rattle.print_table.specs.Tokens as printed
use Rattle.print_table.specs.Tokens.{PrintedToken, spelled, quoted, gap, behind, text_of_tokens}
use Rattle.printed_text.specs.ReadTokens.{kind_of, tok_at, toks_behind, toks, cut_text, IsGood, AreGood}
use Rattle.printed_text.proofs.Places.{At, at_start, byte_at, first_at, past_at, range_at, prefix_all, both_of}
use Rattle.printed_text.proofs.Digits.{decimal_numeral}
use Rattle.printed_text.proofs.Bytes.{string_at}

-- ---- what may stand behind a token that is a run: the end, a space or `)`

abbrev stops : ℕ → Bool
stops b = (b == 0) || ((b == 32) || (b == 41))

pub data Stops : List ℕ → Type 0 where
  at_end : Stops []
  at_space : {xs : List ℕ} → Stops (32 ∷ xs)
  at_closing : {xs : List ℕ} → Stops (41 ∷ xs)

end_begins : (n : ℕ) → begun_by 0 n ≡ first.Nothing
unfolding begun_by is_id_char is_space is_reserved_mark
end_begins n = refl

space_begins : (n : ℕ) → begun_by 32 n ≡ first.Space
unfolding begun_by is_id_char is_space
space_begins n = refl

closing_begins : (n : ℕ) → begun_by 41 n ≡ first.Closing
unfolding begun_by is_id_char is_space
closing_begins n = refl

-- what begins at a place, by what stands there
begins_at : (text : List ℕ) (a : ℕ) (b : ℕ) → slice_index text a ≡ b → beginning_at text a ≡ begun_by b (slice_index text (a + 1))
begins_at text a b e = ap (λ x. begun_by x (slice_index text (a + 1))) e

no_run : (text : List ℕ) (a : ℕ) (rest : List ℕ) → At text a rest → Stops rest → beginning_at text a ≡ first.Run → ⊥
no_run text a rest at at_end r = let e = begins_at text a 0 (first_at text a [] at) ∙ end_begins (slice_index text (a + 1)) in let k : first.Nothing ≡ first.Run = sym e ∙ r in absurd (cc)
no_run text a rest at (at_space {xs}) r = let e = begins_at text a 32 (first_at text a (32 ∷ xs) at) ∙ space_begins (slice_index text (a + 1)) in let k : first.Space ≡ first.Run = sym e ∙ r in absurd (cc)
no_run text a rest at (at_closing {xs}) r = let e = begins_at text a 41 (first_at text a (41 ∷ xs) at) ∙ closing_begins (slice_index text (a + 1)) in let k : first.Closing ≡ first.Run = sym e ∙ r in absurd (cc)

no_id_0 : is_id_char 0 ≡ false
unfolding is_id_char
no_id_0 = refl

no_id_32 : is_id_char 32 ≡ false
unfolding is_id_char
no_id_32 = refl

no_id_41 : is_id_char 41 ≡ false
unfolding is_id_char
no_id_41 = refl

no_id : (rest : List ℕ) → Stops rest → is_id_char (slice_index rest 0) ≡ false
no_id rest at_end = no_id_0
no_id rest at_space = no_id_32
no_id rest at_closing = no_id_41

-- ---- words and numerals

word_ends : (text : List ℕ) (a : ℕ) (w rest : List ℕ) → list_all is_id_char w ≡ true → At text a (w ++ rest) → Stops rest → word_end text a ≡ a + length w
word_ends text a w rest ids at s = ap (λ l. a + Rattle.std.specs.List.prefix_len is_id_char l) at ∙ ap (λ n. a + n) (prefix_all is_id_char w rest ids (no_id rest s))

first_id : (w rest : List ℕ) → 0 < length w → list_all is_id_char w ≡ true → is_id_char (slice_index (w ++ rest) 0) ≡ true
first_id [] rest some ids = absurd (omega (arith, some))
first_id (x ∷ w) rest some ids = (both_of (is_id_char x) (list_all is_id_char w) ids).0

word_run : (text : List ℕ) (a : ℕ) (w rest : List ℕ) (k : TokenKind) → 0 < length w → list_all is_id_char w ≡ true → word_kind w ≡ Ok k → At text a (w ++ rest) → Stops rest → IsToken text k a (a + length w)
word_run text a w rest k some ids kind at s =
    let b : ℕ = a + length w in
    let end : word_end text a ≡ b = word_ends text a w rest ids at s in
    let begins : beginning_at text a ≡ first.Run = id_begins text a (ap is_id_char (first_at text a (w ++ rest) at) ∙ first_id w rest some ids) in
    let parts : Along (IsPart text) a b = subst (Along (IsPart text) a) end (word_all_parts text a) in
    let run : IsRun text a b = run_from text a b begins parts (no_run text b rest (past_at text a w rest at) s) in
    run_token begins run (word_of_kind end (sym kind ∙ ap word_kind (sym (range_at text a w rest at))))

-- ---- each token

lower_some : (w : List ℕ) → is_ascii_lowercase (slice_index w 0) ≡ true → 0 < length w
lower_some [] h = absurd (cc)
lower_some (x ∷ w) h = omega arith

opening_begins : (n : ℕ) → (n == 59) ≡ false → (n == 64) ≡ false → begun_by 40 n ≡ first.Opening
unfolding begun_by is_id_char is_space
opening_begins n e f = ap (λ x. cond x first.BlockComment (cond (n == 64) first.Annotation first.Opening)) e ∙ ap (λ x. cond x first.Annotation first.Opening) f

note_begins : begun_by 40 64 ≡ first.Annotation
unfolding begun_by is_id_char is_space
note_begins = refl

custom_ids : list_all is_id_char (codes "custom") ≡ true
unfolding is_id_char
custom_ids = refl

string_token : (text : List ℕ) (a : ℕ) (bs rest : List ℕ) → list_all (λ b. nat_lt b 256) bs ≡ true → At text a (quoted bs ++ rest) → Stops rest → IsToken text kinds.Text a (a + length (quoted bs))
string_token text a bs rest h at s =
    let b : ℕ = a + length (quoted bs) in
    let str = string_at text a bs rest h at in
    let begins : beginning_at text a ≡ first.Run = quote_begins text a str.opened in
    let run : IsRun text a b = run_from text a b begins (more a b b (string_part str) (done b b refl)) (no_run text b rest (past_at text a (quoted bs) rest at) s) in
    run_token begins run (string_of_kind str refl)

note_token : (text : List ℕ) (a : ℕ) (rest : List ℕ) → At text a (codes "(@custom" ++ rest) → Stops rest → IsToken text kinds.Annotation a (a + 8)
note_token text a rest at s =
    let xs : List ℕ = codes "(@custom" ++ rest in
    let begins : beginning_at text a ≡ first.Annotation = begins_at text a 40 (first_at text a xs at) ∙ ap (begun_by 40) (byte_at text a 1 xs at) ∙ note_begins in
    let name : At text (a + 2) (codes "custom" ++ rest) = past_at text a (codes "(@") (codes "custom" ++ rest) at in
    let end : word_end text (a + 2) ≡ a + 2 + 6 = word_ends text (a + 2) (codes "custom") rest custom_ids name s in
    let same : a + 2 + 6 ≡ a + 8 = omega arith in
    annotation_token begins refl (sym same ∙ sym end) (omega arith) (no_run text (a + 8) rest (past_at text a (codes "(@custom") rest at) s)

-- a token that isn't `(`
run_here : (text : List ℕ) (a : ℕ) (x : PrintedToken) (rest : List ℕ) → (x ≡ printed.opening → ⊥) → IsGood x → At text a (spelled x ++ rest) → Stops rest → IsToken text (kind_of x) a (a + length (spelled x))
run_here text a printed.opening rest other g at s = absurd (other refl)
run_here text a printed.closing rest other g at s = closing_token (begins_at text a 41 (first_at text a (41 ∷ rest) at) ∙ closing_begins (slice_index text (a + 1))) refl refl
run_here text a (printed.note x) rest other g at s =
    let at' : At text a (codes "(@custom" ++ rest) = at ∙ ap (λ y. y ++ rest) g in
    subst (λ y. IsToken text kinds.Annotation a (a + length y)) (sym g) (note_token text a rest at' s)
run_here text a (printed.word x) rest other g at s =
    let w = both_of (is_ascii_lowercase (slice_index x 0)) (list_all is_id_char x) g in
    word_run text a x rest kinds.Keyword (lower_some x w.0) w.1 (keyword_kind x w.0) at s
run_here text a (printed.numeral n) rest other g at s = let d = decimal_numeral n g in word_run text a (decimal n) rest kinds.Integer d.some d.ids d.kind at s
run_here text a (printed.string bs) rest other g at s = string_token text a bs rest g at s

-- what stands behind `(`

not_eqb : (b n : ℕ) → (b ≡ n → ⊥) → (b == n) ≡ false
not_eqb b n differ = ⊎_elim (λ t. absurd (differ (eqb-true b n t))) (λ f. f) (cases_Bool (b == n))

lower_other : (b n : ℕ) → is_ascii_lowercase n ≡ false → is_ascii_lowercase b ≡ true → (b == n) ≡ false
lower_other b n f h = not_eqb b n (λ e. absurd (let k : is_ascii_lowercase n ≡ true = ap is_ascii_lowercase (sym e) ∙ h in let j : false ≡ true = sym f ∙ k in cc))

abbrev Begins : List ℕ → Type 0
Begins xs = ((slice_index xs 0 == 59) ≡ false) × ((slice_index xs 0 == 64) ≡ false)

front_byte : (xs ys : List ℕ) → 0 < length xs → Begins xs → Begins (xs ++ ys)
front_byte [] ys some h = absurd (omega (arith, some))
front_byte (x ∷ xs) ys some h = h

begins_well : (x : PrintedToken) (rest : List ℕ) → IsGood x → Begins (spelled x ++ rest)
begins_well printed.opening rest g = (refl, refl)
begins_well printed.closing rest g = (refl, refl)
begins_well (printed.note x) rest g = subst (λ y. Begins (y ++ rest)) (sym g) (refl, refl)
begins_well (printed.word x) rest g =
    let w = both_of (is_ascii_lowercase (slice_index x 0)) (list_all is_id_char x) g in
    front_byte x rest (lower_some x w.0) (lower_other (slice_index x 0) 59 refl w.0, lower_other (slice_index x 0) 64 refl w.0)
begins_well (printed.numeral n) rest g = let d = decimal_numeral n g in front_byte (decimal n) rest d.some d.begins
begins_well (printed.string bs) rest g = (refl, refl)

behind_opening : (ys : List PrintedToken) → AreGood ys → Begins (behind printed.opening ys)
behind_opening [] g = (refl, refl)
behind_opening (y ∷ ys) g = begins_well y (behind y ys) g.0

opening_here : (text : List ℕ) (a : ℕ) (ys : List PrintedToken) → AreGood ys → At text a (40 ∷ behind printed.opening ys) → IsToken text kinds.LParen a (a + 1)
opening_here text a ys g at =
    let xs : List ℕ = 40 ∷ behind printed.opening ys in
    let next : slice_index text (a + 1) ≡ slice_index (behind printed.opening ys) 0 = byte_at text a 1 xs at in
    let b = behind_opening ys g in
    opening_token (begins_at text a 40 (first_at text a xs at) ∙ opening_begins (slice_index text (a + 1)) (ap (λ n. n == 59) next ∙ b.0) (ap (λ n. n == 64) next ∙ b.1)) refl refl

-- ---- what stands between tokens

pub data IsGapOf : List ℕ → Type 0 where
  nothing : IsGapOf []
  a_space : IsGapOf (32 ∷ [])

gap_is : (x y : PrintedToken) → IsGapOf (gap x y)
gap_is printed.opening y = nothing
gap_is printed.closing printed.opening = a_space
gap_is printed.closing printed.closing = nothing
gap_is printed.closing (printed.note y) = a_space
gap_is printed.closing (printed.word y) = a_space
gap_is printed.closing (printed.numeral y) = a_space
gap_is printed.closing (printed.string y) = a_space
gap_is (printed.note x) printed.opening = a_space
gap_is (printed.note x) printed.closing = nothing
gap_is (printed.note x) (printed.note y) = a_space
gap_is (printed.note x) (printed.word y) = a_space
gap_is (printed.note x) (printed.numeral y) = a_space
gap_is (printed.note x) (printed.string y) = a_space
gap_is (printed.word x) printed.opening = a_space
gap_is (printed.word x) printed.closing = nothing
gap_is (printed.word x) (printed.note y) = a_space
gap_is (printed.word x) (printed.word y) = a_space
gap_is (printed.word x) (printed.numeral y) = a_space
gap_is (printed.word x) (printed.string y) = a_space
gap_is (printed.numeral x) printed.opening = a_space
gap_is (printed.numeral x) printed.closing = nothing
gap_is (printed.numeral x) (printed.note y) = a_space
gap_is (printed.numeral x) (printed.word y) = a_space
gap_is (printed.numeral x) (printed.numeral y) = a_space
gap_is (printed.numeral x) (printed.string y) = a_space
gap_is (printed.string x) printed.opening = a_space
gap_is (printed.string x) printed.closing = nothing
gap_is (printed.string x) (printed.note y) = a_space
gap_is (printed.string x) (printed.word y) = a_space
gap_is (printed.string x) (printed.numeral y) = a_space
gap_is (printed.string x) (printed.string y) = a_space

stops_behind : (x : PrintedToken) (ys : List PrintedToken) → (x ≡ printed.opening → ⊥) → Stops (behind x ys)
stops_behind printed.opening ys other = absurd (other refl)
stops_behind printed.closing [] other = at_end
stops_behind printed.closing (printed.opening ∷ ys) other = at_space
stops_behind printed.closing (printed.closing ∷ ys) other = at_closing
stops_behind printed.closing ((printed.note y) ∷ ys) other = at_space
stops_behind printed.closing ((printed.word y) ∷ ys) other = at_space
stops_behind printed.closing ((printed.numeral y) ∷ ys) other = at_space
stops_behind printed.closing ((printed.string y) ∷ ys) other = at_space
stops_behind (printed.note x) [] other = at_end
stops_behind (printed.note x) (printed.opening ∷ ys) other = at_space
stops_behind (printed.note x) (printed.closing ∷ ys) other = at_closing
stops_behind (printed.note x) ((printed.note y) ∷ ys) other = at_space
stops_behind (printed.note x) ((printed.word y) ∷ ys) other = at_space
stops_behind (printed.note x) ((printed.numeral y) ∷ ys) other = at_space
stops_behind (printed.note x) ((printed.string y) ∷ ys) other = at_space
stops_behind (printed.word x) [] other = at_end
stops_behind (printed.word x) (printed.opening ∷ ys) other = at_space
stops_behind (printed.word x) (printed.closing ∷ ys) other = at_closing
stops_behind (printed.word x) ((printed.note y) ∷ ys) other = at_space
stops_behind (printed.word x) ((printed.word y) ∷ ys) other = at_space
stops_behind (printed.word x) ((printed.numeral y) ∷ ys) other = at_space
stops_behind (printed.word x) ((printed.string y) ∷ ys) other = at_space
stops_behind (printed.numeral x) [] other = at_end
stops_behind (printed.numeral x) (printed.opening ∷ ys) other = at_space
stops_behind (printed.numeral x) (printed.closing ∷ ys) other = at_closing
stops_behind (printed.numeral x) ((printed.note y) ∷ ys) other = at_space
stops_behind (printed.numeral x) ((printed.word y) ∷ ys) other = at_space
stops_behind (printed.numeral x) ((printed.numeral y) ∷ ys) other = at_space
stops_behind (printed.numeral x) ((printed.string y) ∷ ys) other = at_space
stops_behind (printed.string x) [] other = at_end
stops_behind (printed.string x) (printed.opening ∷ ys) other = at_space
stops_behind (printed.string x) (printed.closing ∷ ys) other = at_closing
stops_behind (printed.string x) ((printed.note y) ∷ ys) other = at_space
stops_behind (printed.string x) ((printed.word y) ∷ ys) other = at_space
stops_behind (printed.string x) ((printed.numeral y) ∷ ys) other = at_space
stops_behind (printed.string x) ((printed.string y) ∷ ys) other = at_space

here : (text : List ℕ) (a : ℕ) (x : PrintedToken) (ys : List PrintedToken) → IsGood x → AreGood ys → At text a (spelled x ++ behind x ys) → IsToken text (kind_of x) a (a + length (spelled x))
here text a printed.opening ys g gs at = opening_here text a ys gs at
here text a printed.closing ys g gs at = run_here text a printed.closing (behind printed.closing ys) (λ e. absurd (cc)) g at (stops_behind printed.closing ys (λ e. absurd (cc)))
here text a (printed.note x) ys g gs at = run_here text a (printed.note x) (behind (printed.note x) ys) (λ e. absurd (cc)) g at (stops_behind (printed.note x) ys (λ e. absurd (cc)))
here text a (printed.word x) ys g gs at = run_here text a (printed.word x) (behind (printed.word x) ys) (λ e. absurd (cc)) g at (stops_behind (printed.word x) ys (λ e. absurd (cc)))
here text a (printed.numeral x) ys g gs at = run_here text a (printed.numeral x) (behind (printed.numeral x) ys) (λ e. absurd (cc)) g at (stops_behind (printed.numeral x) ys (λ e. absurd (cc)))
here text a (printed.string x) ys g gs at = run_here text a (printed.string x) (behind (printed.string x) ys) (λ e. absurd (cc)) g at (stops_behind (printed.string x) ys (λ e. absurd (cc)))

-- ---- the whole

-- From a place on a text is cut into tokens, all of which are read, and readers have them so.
pub record Cut (text : List ℕ) (a : ℕ) (ts : List Tok) : Type 0 where
  pub lexemes : List Lexeme
  pub chain : Chain text a lexemes (length text)
  pub are : map (tok text) (kept lexemes) ≡ ts
  pub read : AreRead text (kept lexemes) (kept lexemes)

pub cut_end : (text : List ℕ) (a : ℕ) → a ≡ length text → Cut text a []
cut_end text a e = record { lexemes = []; chain = e; are = refl; read = none }

pub cut_space : (text : List ℕ) (a : ℕ) (rest : List ℕ) (ts : List Tok) → At text a (32 ∷ rest) → Cut text (a + 1) ts → Cut text a ts
cut_space text a rest ts at c = record {
  lexemes = gap_to (a + 1) ∷ c.lexemes;
  chain = (space (begins_at text a 32 (first_at text a (32 ∷ rest) at) ∙ space_begins (slice_index text (a + 1))) refl, c.chain);
  are = c.are;
  read = c.read;
}

is_read : (text : List ℕ) (a : ℕ) (x : PrintedToken) → IsGood x → slice_range text a (a + length (spelled x)) ≡ spelled x → is_passed_over (slice_range text a (a + length (spelled x))) (kind_of x) ≡ false
is_read text a printed.opening g e = refl
is_read text a printed.closing g e = refl
is_read text a (printed.note x) g e = ap (λ y. not (is_registered y)) (e ∙ g)
is_read text a (printed.word x) g e = refl
is_read text a (printed.numeral x) g e = refl
is_read text a (printed.string x) g e = refl

pub cut_token : (text : List ℕ) (a : ℕ) (x : PrintedToken) (ys : List PrintedToken) (ts : List Tok) → IsGood x → AreGood ys → At text a (spelled x ++ behind x ys) → Cut text (a + length (spelled x)) ts → Cut text a (tok_at a x ∷ ts)
cut_token text a x ys ts g gs at c =
    let t : Token = record { kind = kind_of x; start = a; end = a + length (spelled x) } in
    let r : slice_range text a (a + length (spelled x)) ≡ spelled x = range_at text a (spelled x) (behind x ys) at in
    record {
      lexemes = token_of t ∷ c.lexemes;
      chain = (refl, here text a x ys g gs at, c.chain);
      are =
          let whole : tok text t ≡ tok_at a x = ap (λ (b : List ℕ). record { kind = kind_of x; start = a; spelled = b }) r in
          ap (λ u. u ∷ map (tok text) (kept c.lexemes)) whole ∙ ap (λ us. tok_at a x ∷ us) c.are;
      read = read_one (is_read text a x g r) c.read;
    }

-- one token and what stands behind it, wherever it begins
abbrev CutFrom : List ℕ → PrintedToken → List PrintedToken → ℕ → Type 0
CutFrom text y ys a = At text a (spelled y ++ behind y ys) → a + length (spelled y ++ behind y ys) ≡ length text → Cut text a (tok_at a y ∷ toks_behind (a + length (spelled y)) y ys)

cut_gap : (text : List ℕ) (o : ℕ) (y : PrintedToken) (ys : List PrintedToken) (between : List ℕ) → IsGapOf between → ((a : ℕ) → CutFrom text y ys a) → At text o (between ++ (spelled y ++ behind y ys)) → o + length (between ++ (spelled y ++ behind y ys)) ≡ length text
    → Cut text o (tok_at (o + length between) y ∷ toks_behind (o + length between + length (spelled y)) y ys)
cut_gap text o y ys between nothing f at e =
    let z : o ≡ o + 0 = omega arith in
    subst (λ n. Cut text o (tok_at n y ∷ toks_behind (n + length (spelled y)) y ys)) z (f o at e)
cut_gap text o y ys between a_space f at e =
    cut_space text o (spelled y ++ behind y ys) _ at (f (o + 1) (past_at text o (32 ∷ []) (spelled y ++ behind y ys) at) (omega (arith, e)))

cut_from : (text : List ℕ) (y : PrintedToken) (ys : List PrintedToken) → AreGood (y ∷ ys) → (a : ℕ) → CutFrom text y ys a
cut_from text y [] g a at e = cut_token text a y [] [] g.0 tt at (cut_end text (a + length (spelled y)) (let l = length-append (spelled y) [] in omega (arith, e, l)))
cut_from text y (z ∷ zs) g a at e =
    let l = length-append (spelled y) (behind y (z ∷ zs)) in
    cut_token text a y (z ∷ zs) _ g.0 g.1 at
    (cut_gap text (a + length (spelled y)) z zs (gap y z) (gap_is y z) (cut_from text z zs g.1) (past_at text a (spelled y) (behind y (z ∷ zs)) at) (omega (arith, e, l)))

pub cut_tokens : (xs : List PrintedToken) → AreGood xs → Cut (text_of_tokens xs) 0 (toks xs)
cut_tokens [] g = cut_end [] 0 refl
cut_tokens (x ∷ xs) g = cut_from (text_of_tokens (x ∷ xs)) x xs g 0 (at_start (text_of_tokens (x ∷ xs))) (omega arith)

-- the text of tokens is cut into just these
pub tokens_are_text : (xs : List PrintedToken) → AreGood xs → IsTextOf (text_of_tokens xs) false (cut_text xs)
tokens_are_text xs g =
    let c = cut_tokens xs g in
    record {
      cut = kept c.lexemes;
      tiling = (c.lexemes, c.chain, refl);
      left = kept c.lexemes;
      read = c.read;
      is = ap (λ (ts : List Tok). record { tokens = ts; size = length (text_of_tokens xs); legacy = false }) (sym c.are);
    }
