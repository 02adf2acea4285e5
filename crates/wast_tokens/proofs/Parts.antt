-- What holds of the parts of runs, and of runs.
use Rattle.std.proofs.Common.{◌≡◌, ℕ, zero, suc, ◌+◌, ◌-◌, ◌<◌, ◌≤◌, false, List, length, slice_index, slice_range, ◌⊎◌, Result, Ok, sym, refl, ap, ◌∙◌, subst, ⊎_elim, inl, inr, arith}
use Rattle.std.proofs.lemmas.Bool.{cases_lt, cases_eq, both_ways}
use Rattle.std.proofs.lemmas.Grind.{common_steps}
use Rattle.wast_tokens.specs.declared.token.TokenKind.{TokenKind}
use Rattle.wast_tokens.specs.declared.token.TokenKind.TheVariants.{Text, Reserved}
use Rattle.wast_tokens.specs.declared.error.LexFault.{LexFault}
use Rattle.wast_tokens.specs.declared.chars.Beginning.TheVariants.{Run, Nothing}
use Rattle.wast_tokens.specs.Along.{Along}
use Rattle.wast_tokens.specs.Along.Along.{done, more}
use Rattle.wast_tokens.specs.Chars.{is_id_char, beginning_at, word_end}
use Rattle.wast_tokens.specs.Strings.{IsString, IsBroken, IsBrokenString}
use Rattle.wast_tokens.specs.Strings.IsBroken.{unclosed, bad_escape, bad_char}
use Rattle.wast_tokens.specs.Runs.{IsPart, IsRun, IsBrokenRun, IsOfKind, word_kind, named_kind, string_of}
use Rattle.wast_tokens.specs.Runs.IsPart.{character, string}
use Rattle.wast_tokens.specs.Runs.IsOfKind.{word, string as alone, quoted, other}
use Rattle.wast_tokens.specs.declared.runs.Classified.{Classified}
use Rattle.wast_tokens.specs.Steps.{IsRunOfKind}
use Rattle.wast_tokens.proofs.Classes.{beginning_within, id_begins, quote_begins, quote_not_id, dollar_is_id, run_or_not, word_id, word_upto, word_stops, some_within}
use Rattle.wast_tokens.proofs.Steps.{IsLast, GoesOn, IsOnly, along_same, along_more, along_append, along_le, along_within, along_end}
use Rattle.wast_tokens.proofs.Quotes.{string_same, string_not_broken, SameFault, broken_string_same, string_within, string_or_broken}

run_not_nothing : Run ≡ Nothing → ⊥
run_not_nothing e = absurd (cc)

pub run_within : (text : List ℕ) (a : ℕ) → beginning_at text a ≡ Run → a < length text
run_within text a is = beginning_within text a (λ e. run_not_nothing (sym is ∙ e))

pub parts_on : (text : List ℕ) → GoesOn (IsPart text) (length text)
parts_on text a b (character is _ e) = let lt = run_within text a is in (omega arith, omega arith)
parts_on text a b (string s) = let w = string_within text a b s in (omega (arith, w.0), w.1)

parts_only : (text : List ℕ) → IsOnly (IsPart text)
parts_only text a b c (character _ _ e) (character _ _ f) = e ∙ sym f
parts_only text a b c (character _ ne _) (string s) = absurd (ne s.opened)
parts_only text a b c (string s) (character _ ne _) = absurd (ne s.opened)
parts_only text a b c (string s) (string t) = string_same text a b c s t

run_last : (text : List ℕ) (b : ℕ) → (beginning_at text b ≡ Run → ⊥) → IsLast (IsPart text) b
run_last text b longest c (character is _ _) = longest is
run_last text b longest c (string s) = longest (quote_begins text b s.opened)

broken_last : (text : List ℕ) (b : ℕ) (f : LexFault) (p : ℕ) → IsBrokenString text b f p → IsLast (IsPart text) b
broken_last text b f p s c (character _ ne _) = ne s.opened
broken_last text b f p s c (string t) = string_not_broken text b c f p t s

pub run_same : (text : List ℕ) (a b c : ℕ) → IsRun text a b → IsRun text a c → b ≡ c
run_same text a b c r s = along_same (IsPart text) (parts_only text) a b c r.parts s.parts (run_last text b r.longest) (run_last text c s.longest)

pub run_not_broken : (text : List ℕ) (a b : ℕ) (f : LexFault) (p : ℕ) → IsRun text a b → IsBrokenRun text a f p → ⊥
run_not_broken text a b f p r s =
    let e = along_same (IsPart text) (parts_only text) a b s.behind r.parts s.parts (run_last text b r.longest) (broken_last text s.behind f p s.string) in
    r.longest (quote_begins text b (subst (λ n. slice_index text n ≡ 34) (sym e) s.string.opened))

pub broken_run_same : (text : List ℕ) (a : ℕ) (f g : LexFault) (p q : ℕ) → IsBrokenRun text a f p → IsBrokenRun text a g q → SameFault f g p q
broken_run_same text a f g p q r s =
    let e = along_same (IsPart text) (parts_only text) a r.behind s.behind r.parts s.parts (broken_last text r.behind f p r.string) (broken_last text s.behind g q s.string) in
    broken_string_same text s.behind f g p q (subst (λ n. IsBrokenString text n f p) e r.string) s.string

past_no_parts : (text : List ℕ) (a b : ℕ) → length text < a → a < b → Along (IsPart text) a b → ⊥
past_no_parts text a b past lt (done _ _ e) = absurd (omega (arith, e))
past_no_parts text a b past lt (more _ m _ s _) = let w = parts_on text a m s in absurd (omega (arith, w.0, w.1))

pub run_more : (text : List ℕ) (a b : ℕ) → IsRun text a b → b ≤ length text
run_more text a b r =
    ⊎_elim
    (λ lt. along_within (IsPart text) (length text) (parts_on text) a b (omega arith) r.parts)
    (λ past. absurd (past_no_parts text a b (omega arith) r.some r.parts))
    (cases_lt a (length text + 1))

-- the id characters from a place on are parts of a run
pub word_parts : (text : List ℕ) (a n : ℕ) → a + n ≤ word_end text a → Along (IsPart text) a (a + n)
word_parts text a zero le = done a (a + zero) (omega arith)
word_parts text a (suc n) le =
    let lt : a + n < word_end text a = omega arith in
    let id = word_id text a (a + n) (omega arith) lt in
    let part : IsPart text (a + n) (a + suc n) = character (id_begins text (a + n) id) (λ q. both_ways _ (ap is_id_char q ∙ quote_not_id) id) (omega arith) in
    along_more (IsPart text) a (a + n) (a + suc n) (word_parts text a n (omega arith)) part

pub word_all_parts : (text : List ℕ) (a : ℕ) → Along (IsPart text) a (word_end text a)
word_all_parts text a =
    let e : a + (word_end text a - a) ≡ word_end text a = omega arith in
    subst (Along (IsPart text) a) e (word_parts text a (word_end text a - a) (omega (arith, e)))

-- a run has one kind

word_not_string : (text : List ℕ) (a b : ℕ) → a < b → word_end text a ≡ b → IsString text a b → ⊥
word_not_string text a b lt e s =
    let le = word_upto text a a (omega arith) (ap is_id_char s.opened ∙ quote_not_id) in absurd (omega (arith, e, le))

word_not_quoted : (text : List ℕ) (a b : ℕ) → word_end text a ≡ b → IsString text (a + 1) b → ⊥
word_not_quoted text a b e s =
    let le = word_upto text a (a + 1) (omega arith) (ap is_id_char s.opened ∙ quote_not_id) in
    let w = string_within text (a + 1) b s in absurd (omega (arith, e, le, w.0))

string_not_quoted : (text : List ℕ) (a b : ℕ) → IsString text a b → slice_index text a ≡ 36 → ⊥
string_not_quoted text a b s d = absurd (omega (arith, s.opened, d))

pub kind_same : (text : List ℕ) (a b : ℕ) (k l : Result TokenKind LexFault) → a < b → IsOfKind text a b k → IsOfKind text a b l → k ≡ l
kind_same text a b k l lt (word _ e) (word _ f) = e ∙ sym f
kind_same text a b k l lt (word w e) (alone s f) = absurd (word_not_string text a b lt w s)
kind_same text a b k l lt (word w e) (quoted d s f) = absurd (word_not_quoted text a b w s)
kind_same text a b k l lt (word w e) (other ne _ _ f) = absurd (ne w)
kind_same text a b k l lt (alone s e) (word w f) = absurd (word_not_string text a b lt w s)
kind_same text a b k l lt (alone s e) (alone t f) = e ∙ sym f
kind_same text a b k l lt (alone s e) (quoted d t f) = absurd (string_not_quoted text a b s d)
kind_same text a b k l lt (alone s e) (other _ ne _ f) = absurd (ne s)
kind_same text a b k l lt (quoted d s e) (word w f) = absurd (word_not_quoted text a b w s)
kind_same text a b k l lt (quoted d s e) (alone t f) = absurd (string_not_quoted text a b t d)
kind_same text a b k l lt (quoted d s e) (quoted _ t f) = e ∙ sym f
kind_same text a b k l lt (quoted d s e) (other _ _ ne f) = absurd (ne d s)
kind_same text a b k l lt (other ne _ _ e) (word w f) = absurd (ne w)
kind_same text a b k l lt (other _ ne _ e) (alone s f) = absurd (ne s)
kind_same text a b k l lt (other _ _ ne e) (quoted d s f) = absurd (ne d s)
kind_same text a b k l lt (other _ _ _ e) (other _ _ _ f) = e ∙ sym f

-- each run has a kind, and what begins a run is a run or has a fault in a string

string_or_not : (text : List ℕ) (a b : ℕ) → IsString text a b ⊎ (IsString text a b → ⊥)
string_or_not text a b =
    ⊎_elim
    (λ q. ⊎_elim
    (λ s. ⊎_elim (λ e. inl (subst (IsString text a) e s.1)) (λ ne. inr (λ t. ne (string_same text a s.0 b s.1 t))) (cases_eq s.0 b))
    (λ s. inr (λ t. string_not_broken text a b s.0 s.1 t s.2))
    (string_or_broken text a q))
    (λ nq. inr (λ t. nq t.opened))
    (cases_eq (slice_index text a) 34)

pub some_kind : (text : List ℕ) (a b : ℕ) → (k : Result TokenKind LexFault) × IsOfKind text a b k
some_kind text a b =
    ⊎_elim
    (λ w. (word_kind (slice_range text a b), word w refl))
    (λ no_word. ⊎_elim
    (λ s. (Ok Text, alone s refl))
    (λ no_string. ⊎_elim
    (λ d. ⊎_elim
    (λ s. (named_kind (string_of (slice_range text (a + 1) b)), quoted d s refl))
    (λ no_quoted. (Ok Reserved, other no_word no_string (λ _. no_quoted) refl))
    (string_or_not text (a + 1) b))
    (λ nd. (Ok Reserved, other no_word no_string (λ d _. nd d) refl))
    (cases_eq (slice_index text a) 36))
    (string_or_not text a b))
    (cases_eq (word_end text a) b)

next_part : (text : List ℕ) (a : ℕ) → ((b : ℕ) × IsPart text a b) ⊎ IsLast (IsPart text) a
next_part text a =
    ⊎_elim
    (λ is. ⊎_elim
    (λ q. ⊎_elim
    (λ s. inl (s.0, string s.1))
    (λ s. inr (broken_last text a s.0 s.1 s.2))
    (string_or_broken text a q))
    (λ nq. inl (a + 1, character is nq refl))
    (cases_eq (slice_index text a) 34))
    (λ isnt. inr (run_last text a isnt))
    (run_or_not (beginning_at text a))

pub run_or_broken : (text : List ℕ) (a : ℕ) → beginning_at text a ≡ Run → ((b : ℕ) × IsRun text a b) ⊎ ((f : LexFault) × (p : ℕ) × IsBrokenRun text a f p)
run_or_broken text a is =
    let r = along_end (IsPart text) (length text) (parts_on text) (next_part text) (length text) a (omega arith) in
    let le = along_le (IsPart text) (length text) (parts_on text) a r.0 r.1 in
    ⊎_elim
    (λ goes. ⊎_elim
    (λ q. ⊎_elim
    (λ s. absurd (r.2 s.0 (string s.1)))
    (λ s. inr (s.0, s.1, record { behind = r.0; parts = r.1; string = s.2 }))
    (string_or_broken text r.0 q))
    (λ nq. absurd (r.2 (r.0 + 1) (character goes nq refl)))
    (cases_eq (slice_index text r.0) 34))
    (λ stops. inl (
      r.0,
      record {
        some = ⊎_elim (λ lt. lt) (λ ge. let e : a ≡ r.0 = omega arith in absurd (stops (subst (λ n. beginning_at text n ≡ Run) e is))) (cases_lt a r.0);
        parts = r.1;
        longest = stops;
      },
    ))
    (run_or_not (beginning_at text r.0))

-- what stands first in a run begins it

part_begins : (text : List ℕ) (a b : ℕ) → IsPart text a b → beginning_at text a ≡ Run
part_begins text a b (character is _ _) = is
part_begins text a b (string s) = quote_begins text a s.opened

parts_begin : (text : List ℕ) (a b : ℕ) → a < b → Along (IsPart text) a b → beginning_at text a ≡ Run
parts_begin text a b lt (done _ _ e) = absurd (omega (arith, e))
parts_begin text a b lt (more _ m _ s _) = part_begins text a m s

parts_or_quote : (text : List ℕ) (a b : ℕ) → Along (IsPart text) a b → slice_index text b ≡ 34 → beginning_at text a ≡ Run
parts_or_quote text a b (done _ _ e) q = quote_begins text a (subst (λ n. slice_index text n ≡ 34) (sym e) q)
parts_or_quote text a b (more _ m _ s _) q = part_begins text a m s

pub run_begins : (text : List ℕ) (a b : ℕ) → IsRun text a b → beginning_at text a ≡ Run
run_begins text a b r = parts_begin text a b r.some r.parts

pub broken_begins : (text : List ℕ) (a : ℕ) (f : LexFault) (p : ℕ) → IsBrokenRun text a f p → beginning_at text a ≡ Run
broken_begins text a f p r = parts_or_quote text a r.behind r.parts r.string.opened

-- runs, from their parts

pub run_from : (text : List ℕ) (a b : ℕ) → beginning_at text a ≡ Run → Along (IsPart text) a b → (beginning_at text b ≡ Run → ⊥) → IsRun text a b
run_from text a b is along stops = record {
  some =
      let le = along_le (IsPart text) (length text) (parts_on text) a b along in
      ⊎_elim (λ lt. lt) (λ ge. let e : a ≡ b = omega arith in absurd (stops (subst (λ n. beginning_at text n ≡ Run) e is))) (cases_lt a b);
  parts = along;
  longest = stops;
}

-- the id characters at its front, and the rest
pub run_behind_word : (text : List ℕ) (a w b : ℕ) → w ≡ word_end text a → beginning_at text a ≡ Run → Along (IsPart text) w b → (beginning_at text b ≡ Run → ⊥) → IsRun text a b
run_behind_word text a w b e is along stops =
    run_from text a b is (along_append (IsPart text) a w b (subst (Along (IsPart text) a) (sym e) (word_all_parts text a)) along) stops

pub broken_behind_word : (text : List ℕ) (a w : ℕ) (f : LexFault) (p : ℕ) → w ≡ word_end text a → IsBrokenRun text w f p → IsBrokenRun text a f p
broken_behind_word text a w f p e r = record {
  behind = r.behind;
  parts = along_append (IsPart text) a w r.behind (subst (Along (IsPart text) a) (sym e) (word_all_parts text a)) r.parts;
  string = r.string;
}

pub broken_behind_string : (text : List ℕ) (a b : ℕ) (f : LexFault) (p : ℕ) → IsString text a b → IsBrokenRun text b f p → IsBrokenRun text a f p
broken_behind_string text a b f p s r = record { behind = r.behind; parts = more a b r.behind (string s) r.parts; string = r.string }

pub broken_first : (text : List ℕ) (a : ℕ) (f : LexFault) (p : ℕ) → IsBrokenString text a f p → IsBrokenRun text a f p
broken_first text a f p s = record { behind = a; parts = done a a refl; string = s }

pub parts_behind_string : (text : List ℕ) (a b c : ℕ) → IsString text a b → Along (IsPart text) b c → Along (IsPart text) a c
parts_behind_string text a b c s along = more a b c (string s) along

-- a run that is no string, no word and no quoted id is reserved

word_end_at : (text : List ℕ) (a : ℕ) → is_id_char (slice_index text a) ≡ false → word_end text a ≡ a
word_end_at text a none = let le = word_upto text a a (omega arith) none in omega (arith, le)

quote_ends : (text : List ℕ) (a : ℕ) → slice_index text a ≡ 34 → word_end text a ≡ a
quote_ends text a q = word_end_at text a (ap is_id_char q ∙ quote_not_id)

one_of : (text : List ℕ) (a : ℕ) → word_end text a ≤ a + 1 → (word_end text a ≡ a + 1) ⊎ (word_end text a ≡ a)
one_of text a le = ⊎_elim (λ lt. inl (omega arith)) (λ ge. inr (omega arith)) (cases_lt a (word_end text a))

dollar_quote_ends : (text : List ℕ) (a : ℕ) → slice_index text a ≡ 36 → slice_index text (a + 1) ≡ 34 → word_end text a ≡ a + 1
dollar_quote_ends text a d q =
    let le = word_upto text a (a + 1) (omega arith) (ap is_id_char q ∙ quote_not_id) in
    ⊎_elim
    (λ lt. lt)
    (λ here. absurd (both_ways _ (ap (λ n. is_id_char (slice_index text n)) (sym here) ∙ word_stops text a) (ap is_id_char d ∙ dollar_is_id)))
    (one_of text a le)

-- no quote where the id characters end
pub other_kind : (text : List ℕ) (a w b : ℕ) → w ≡ word_end text a → beginning_at text w ≡ Run → (beginning_at text b ≡ Run → ⊥) → (slice_index text w ≡ 34 → ⊥) → IsOfKind text a b (Ok Reserved)
other_kind text a w b e goes stops nq =
    other
    (λ same. stops (subst (λ n. beginning_at text n ≡ Run) (e ∙ same) goes))
    (λ s. nq (subst (λ n. slice_index text n ≡ 34) (sym (e ∙ quote_ends text a s.opened)) s.opened))
    (λ d s. nq (subst (λ n. slice_index text n ≡ 34) (sym (e ∙ dollar_quote_ends text a d s.opened)) s.opened))
    refl

-- more than the string that begins there
pub longer_kind : (text : List ℕ) (a w c b : ℕ) → w ≡ word_end text a → IsString text w c → (b ≡ c → ⊥) → (beginning_at text b ≡ Run → ⊥) → IsOfKind text a b (Ok Reserved)
longer_kind text a w c b e t ne stops =
    other
    (λ same. stops (quote_begins text b (subst (λ n. slice_index text n ≡ 34) (e ∙ same) t.opened)))
    (λ s. ne (string_same text a b c s (subst (λ n. IsString text n c) (e ∙ quote_ends text a s.opened) t)))
    (λ d s. ne (string_same text (a + 1) b c s (subst (λ n. IsString text n c) (e ∙ dollar_quote_ends text a d s.opened) t)))
    refl

-- a string behind more than a `$`
pub apart_kind : (text : List ℕ) (a w b : ℕ) → w ≡ word_end text a → IsString text w b → (w ≡ a → ⊥) → (slice_index text a ≡ 36 → w ≡ a + 1 → ⊥) → (beginning_at text b ≡ Run → ⊥) → IsOfKind text a b (Ok Reserved)
apart_kind text a w b e t far no_dollar stops =
    other
    (λ same. stops (quote_begins text b (subst (λ n. slice_index text n ≡ 34) (e ∙ same) t.opened)))
    (λ s. far (e ∙ quote_ends text a s.opened))
    (λ d s. no_dollar d (e ∙ dollar_quote_ends text a d s.opened))
    refl

-- a reserved run, as it is handed on
pub reserved_is : (text : List ℕ) (a b : ℕ) (r : Classified) → r.end ≡ b → r.kind ≡ Ok Reserved → IsRun text a b → IsOfKind text a b (Ok Reserved) → IsRunOfKind text a r
reserved_is text a b r e k run kind =
    (subst (IsRun text a) (sym e) run, subst (λ n. IsOfKind text a n r.kind) (sym e) (subst (IsOfKind text a b) (sym k) kind))

pub long_range : (text : List ℕ) (a b : ℕ) → a + 2 ≤ b → b ≤ length text → 2 ≤ length (slice_range text a b)
long_range text a b some le = grind (arith, common_steps)

-- a fault in a string of a run shows in the text

string_place : (text : List ℕ) (a m : ℕ) (f : LexFault) (p : ℕ) → a < length text → IsBroken text a m f p → p < length text
string_place text a m f p lt (unclosed _ _ e) = omega (arith, e)
string_place text a m f p lt (bad_escape _ is _ e) = let here = some_within text m 92 is (omega arith) in omega (arith, here, e)
string_place text a m f p lt (bad_char _ here _ _ _ e) = omega (arith, e)

pub broken_place : (text : List ℕ) (a : ℕ) (f : LexFault) (p : ℕ) → IsBrokenRun text a f p → p < length text
broken_place text a f p r = string_place text r.behind r.string.behind f p (some_within text r.behind 34 r.string.opened (omega arith)) r.string.broken
