-- How the tokens of a text are spelled.
use Rattle.std.proofs.Common.{◌≡◌, ℕ, ◌+◌, ◌-◌, ◌<◌, ◌≤◌, Bool, true, false, ◌==◌, cond, List, length, drop, take, slice_index, slice_range, Result, Ok, Err, sym, refl, ap, ◌∙◌, subst, ⊎_elim, arith}
use Rattle.std.proofs.lemmas.Bool.{both_ways, eqb-true, eq-eqb, cases_eq}
use Rattle.std.proofs.lemmas.List.{length-take-le, length-drop, get_or-take, get_or-drop, drop-take, drop-drop}
use Rattle.std.proofs.lemmas.List.Elements.{All-weaker}
use Rattle.std.specs.List.{All}
use Rattle.std.specs.Str.{is_utf8}
use Rattle.std.specs.Char.{is_ascii_lowercase}
use Rattle.wast_tokens.specs.declared.token.Token.{Token}
use Rattle.wast_tokens.specs.declared.token.TokenKind.{TokenKind}
use Rattle.wast_tokens.specs.declared.token.TokenKind.TheVariants.{Text, Id, Integer, Keyword, Reserved, Annotation}
use Rattle.wast_tokens.specs.declared.error.LexFault.{LexFault}
use Rattle.wast_tokens.specs.declared.error.LexFault.TheVariants.{EmptyId, BadIdText}
use Rattle.wast_tokens.specs.declared.chars.Beginning.TheVariants as first
use Rattle.wast_tokens.specs.Chars.{is_id_char, beginning_at, word_end}
use Rattle.wast_tokens.specs.Numbers.{is_integer}
use Rattle.wast_tokens.specs.Strings.{IsString}
use Rattle.wast_tokens.specs.Runs.{IsOfKind, word_kind, named_kind, string_of}
use Rattle.wast_tokens.specs.Runs.IsOfKind.{word, string, quoted, other}
use Rattle.wast_tokens.specs.Tiling.{IsToken, IsTiling}
use Rattle.wast_tokens.specs.Tiling.IsToken.{opening, closing, annotation, run}
use Rattle.wast_tokens.specs.Spelled.{IsStringSpelling, IsIdSpelling, IsAnnotationSpelling, IsSpelledAs, IsSpelled}
use Rattle.wast_tokens.proofs.Classes.{word_id, quote_not_id, annotation_begins}
use Rattle.wast_tokens.proofs.Quotes.{string_within}
use Rattle.wast_tokens.proofs.Placed.{StandsIn, tiling_spells}
use Rattle.wast_tokens.proofs.Tilings.{spells_more}

-- a part of a text, byte by byte

part_length : (text : List ℕ) (a b : ℕ) → a ≤ b → b ≤ length text → length (slice_range text a b) ≡ b - a
part_length text a b le within = length-take-le (b - a) (drop a text) (omega (arith, length-drop a text))

part_byte : (text : List ℕ) (a b k : ℕ) → a + k < b → slice_index (slice_range text a b) k ≡ slice_index text (a + k)
part_byte text a b k lt = get_or-take (b - a) (drop a text) k 0 (omega arith) ∙ get_or-drop a text k 0

part_behind : (text : List ℕ) (a b : ℕ) → a < b → drop 1 (slice_range text a b) ≡ slice_range text (a + 1) b
part_behind text a b lt =
    let n : b - a ≡ 1 + (b - (a + 1)) = omega arith in
    ap (λ k. drop 1 (take k (drop a text))) n ∙ drop-take 1 (b - (a + 1)) (drop a text) ∙ ap (take (b - (a + 1))) (drop-drop 1 a text)

-- a string has quotes at both ends
string_spelling : (text : List ℕ) (a b : ℕ) → IsString text a b → IsStringSpelling (slice_range text a b)
string_spelling text a b s =
    let w = string_within text a b s in
    let n : length (slice_range text a b) ≡ b - a = part_length text a b (omega (arith, w.0)) w.1 in
    let e : b ≡ s.close + 1 = s.end in
    let last : a + (length (slice_range text a b) - 1) ≡ s.close = omega (arith, n, e, w.0) in
    let z : a + 0 ≡ a = omega arith in
    record {
      some = omega (arith, n, w.0);
      opened = part_byte text a b 0 (omega (arith, w.0)) ∙ ap (slice_index text) z ∙ s.opened;
      closed = part_byte text a b (length (slice_range text a b) - 1) (omega (arith, n, w.0)) ∙ ap (slice_index text) last ∙ s.closed;
    }

-- the kinds of runs, by the tests that decide them

abbrev word_by : Bool → Bool → Bool → Bool → Result TokenKind LexFault
word_by dollar alone digits letter = cond dollar (cond alone (Err EmptyId) (Ok Id)) (cond digits (Ok Integer) (cond letter (Ok Keyword) (Ok Reserved)))

word_no_text : (d a i l : Bool) → Ok Text ≡ word_by d a i l → ⊥
word_no_text true true i l e = absurd (cc)
word_no_text true false i l e = absurd (cc)
word_no_text false a true l e = absurd (cc)
word_no_text false a false true e = absurd (cc)
word_no_text false a false false e = absurd (cc)

word_no_annotation : (d a i l : Bool) → Ok Annotation ≡ word_by d a i l → ⊥
word_no_annotation true true i l e = absurd (cc)
word_no_annotation true false i l e = absurd (cc)
word_no_annotation false a true l e = absurd (cc)
word_no_annotation false a false true e = absurd (cc)
word_no_annotation false a false false e = absurd (cc)

word_id_by : (d a i l : Bool) → Ok Id ≡ word_by d a i l → (d ≡ true) × (a ≡ false)
word_id_by true true i l e = absurd (cc)
word_id_by true false i l e = (refl, refl)
word_id_by false a true l e = absurd (cc)
word_id_by false a false true e = absurd (cc)
word_id_by false a false false e = absurd (cc)

abbrev named_by : Bool → Bool → Result TokenKind LexFault
named_by none utf8 = cond none (Err EmptyId) (cond utf8 (Ok Id) (Err BadIdText))

named_is_id : (k : TokenKind) (n u : Bool) → Ok k ≡ named_by n u → (k ≡ Id) × (u ≡ true)
named_is_id k true u e = absurd (cc)
named_is_id k false true e = (cc, refl)
named_is_id k false false e = absurd (cc)

-- a run that is a string
text_string : (text : List ℕ) (a b : ℕ) → IsOfKind text a b (Ok Text) → IsString text a b
unfolding word_kind named_kind
text_string text a b (word _ e) =
    let run = slice_range text a b in
    absurd (word_no_text (slice_index run 0 == 36) (length run == 1) (is_integer run) (is_ascii_lowercase (slice_index run 0)) e)
text_string text a b (string s _) = s
text_string text a b (quoted _ _ e) =
    let name = string_of (slice_range text (a + 1) b) in
    let is = named_is_id Text (length name == 0) (is_utf8 name) e in absurd (cc)
text_string text a b (other _ _ _ e) = absurd (cc)

no_annotation_run : (text : List ℕ) (a b : ℕ) → IsOfKind text a b (Ok Annotation) → ⊥
unfolding word_kind named_kind
no_annotation_run text a b (word _ e) =
    let run = slice_range text a b in
    word_no_annotation (slice_index run 0 == 36) (length run == 1) (is_integer run) (is_ascii_lowercase (slice_index run 0)) e
no_annotation_run text a b (string _ e) = absurd (cc)
no_annotation_run text a b (quoted _ _ e) =
    let name = string_of (slice_range text (a + 1) b) in
    let is = named_is_id Annotation (length name == 0) (is_utf8 name) e in absurd (cc)
no_annotation_run text a b (other _ _ _ e) = absurd (cc)

-- the bytes of a run that is an id

two_or_more : (n : ℕ) → 0 < n → (n == 1) ≡ false → 2 ≤ n
two_or_more n some ne = ⊎_elim (λ e. absurd (both_ways _ ne (eq-eqb n 1 e))) (λ not_one. omega (arith, some, not_one)) (cases_eq n 1)

bare_id : (text : List ℕ) (a b : ℕ) → a < b → b ≤ length text → word_end text a ≡ b → Ok Id ≡ word_kind (slice_range text a b) → IsIdSpelling (slice_range text a b)
unfolding word_kind
bare_id text a b lt within end e =
    let run = slice_range text a b in
    let is = word_id_by (slice_index run 0 == 36) (length run == 1) (is_integer run) (is_ascii_lowercase (slice_index run 0)) e in
    let n : length run ≡ b - a = part_length text a b (omega (arith, lt)) within in
    let more : 2 ≤ length run = two_or_more (length run) (omega (arith, n, lt)) is.1 in
    let id : is_id_char (slice_index run 1) ≡ true = ap is_id_char (part_byte text a b 1 (omega (arith, n, more))) ∙ word_id text a (a + 1) (omega arith) (omega (arith, n, more, end)) in
    let no_quote : slice_index run 1 ≡ 34 → ⊥ = λ q. both_ways _ (ap is_id_char q ∙ quote_not_id) id in
    record { some = more; dollar = eqb-true _ 36 is.0; string = λ q. absurd (no_quote q); utf8 = λ q. absurd (no_quote q) }

quoted_id : (text : List ℕ) (a b : ℕ) → slice_index text a ≡ 36 → IsString text (a + 1) b → Ok Id ≡ named_kind (string_of (slice_range text (a + 1) b)) → IsIdSpelling (slice_range text a b)
unfolding named_kind
quoted_id text a b dollar s e =
    let run = slice_range text a b in
    let name = string_of (slice_range text (a + 1) b) in
    let w = string_within text (a + 1) b s in
    let is = named_is_id Id (length name == 0) (is_utf8 name) e in
    let n : length run ≡ b - a = part_length text a b (omega (arith, w.0)) w.1 in
    let z : a + 0 ≡ a = omega arith in
    let behind : drop 1 run ≡ slice_range text (a + 1) b = part_behind text a b (omega (arith, w.0)) in
    record {
      some = omega (arith, n, w.0);
      dollar = part_byte text a b 0 (omega (arith, w.0)) ∙ ap (slice_index text) z ∙ dollar;
      string = λ _. subst IsStringSpelling (sym behind) (string_spelling text (a + 1) b s);
      utf8 = λ _. ap (λ t. is_utf8 (string_of t)) behind ∙ is.1;
    }

id_spelling : (text : List ℕ) (a b : ℕ) → a < b → b ≤ length text → IsOfKind text a b (Ok Id) → IsIdSpelling (slice_range text a b)
id_spelling text a b lt within (word end e) = bare_id text a b lt within end e
id_spelling text a b lt within (string _ e) = absurd (cc)
id_spelling text a b lt within (quoted dollar s e) = quoted_id text a b dollar s e
id_spelling text a b lt within (other _ _ _ e) = absurd (cc)

annotation_spelling : (text : List ℕ) (a b : ℕ) → beginning_at text a ≡ first.Annotation → a + 2 < b → b ≤ length text → IsAnnotationSpelling (slice_range text a b)
annotation_spelling text a b e lt within =
    let is = annotation_begins text a e in
    let z : a + 0 ≡ a = omega arith in
    record {
      some = omega (arith, part_length text a b (omega arith) within);
      opened = part_byte text a b 0 (omega arith) ∙ ap (slice_index text) z ∙ is.0;
      marked = part_byte text a b 1 (omega arith) ∙ is.1;
    }

-- each token is spelled as those of its kind are

annotation_token : (text : List ℕ) (a b : ℕ) → IsToken text Annotation a b → IsAnnotationSpelling (slice_range text a b)
annotation_token text a b (opening _ e _) = absurd (cc)
annotation_token text a b (closing _ e _) = absurd (cc)
annotation_token text a b (annotation begins e f lt no_run) = annotation_spelling text a b begins lt (spells_more text Annotation a b (annotation begins e f lt no_run)).1
annotation_token text a b (run _ _ k) = absurd (no_annotation_run text a b k)

string_token : (text : List ℕ) (a b : ℕ) → IsToken text Text a b → IsStringSpelling (slice_range text a b)
string_token text a b (opening _ e _) = absurd (cc)
string_token text a b (closing _ e _) = absurd (cc)
string_token text a b (annotation _ e _ _ _) = absurd (cc)
string_token text a b (run _ _ k) = string_spelling text a b (text_string text a b k)

id_token : (text : List ℕ) (a b : ℕ) → IsToken text Id a b → IsIdSpelling (slice_range text a b)
id_token text a b (opening _ e _) = absurd (cc)
id_token text a b (closing _ e _) = absurd (cc)
id_token text a b (annotation _ e _ _ _) = absurd (cc)
id_token text a b (run begins r k) = let m = spells_more text Id a b (run begins r k) in id_spelling text a b m.0 m.1 k

spelled : (text : List ℕ) (k : TokenKind) (a b : ℕ) → IsToken text k a b → IsSpelledAs k (slice_range text a b)
spelled text k a b h = record {
  annotation = λ e. annotation_token text a b (subst (λ x. IsToken text x a b) e h);
  string = λ e. string_token text a b (subst (λ x. IsToken text x a b) e h);
  id = λ e. id_token text a b (subst (λ x. IsToken text x a b) e h);
}

each_spelled : (text : List ℕ) (ts : List Token) → All (StandsIn text) ts → All (IsSpelled text) ts
each_spelled text ts h = All-weaker (StandsIn text) (IsSpelled text) (λ t s. spelled text t.kind t.start t.end s) ts h

pub tiling_spelled : (text : List ℕ) (ts : List Token) → IsTiling text ts → All (IsSpelled text) ts
tiling_spelled text ts h = each_spelled text ts (tiling_spells text ts h)
