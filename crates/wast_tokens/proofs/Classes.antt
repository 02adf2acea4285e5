-- What holds of the classes of characters.
use Rattle.std.proofs.Common.{◌≡◌, ◌∙◌, ℕ, ◌+◌, ◌<◌, ◌≤◌, length, slice_index, cond, Bool, true, false, not, ◌&&◌, ◌||◌, ◌==◌, ◌⊎◌, sym, refl, ap, subst, ⊎_elim, inl, inr, arith}
use Rattle.std.proofs.lemmas.Bool.Decides.{nat_tests}
use Rattle.std.proofs.lemmas.Bool.{or_cases, eqb-true, cases_lt, both_ways}
use Rattle.std.proofs.lemmas.List.{get_or_past}
use Rattle.std.proofs.lemmas.List.FromFn.{get_or-map-range_with_len}
use Rattle.std.specs.Prelude.{List, [], ◌∷◌, nat_lt, slice_index_or, map}
use Rattle.std.specs.List.{list_any, list_all, range_with_len}
use Rattle.std.specs.Char.{is_ascii_alphanumeric}
use Rattle.wast_tokens.specs.declared.chars.TheConstants.{CLASSES, ID_MARKS}
use Rattle.wast_tokens.specs.declared.chars.Beginning.{Beginning}
use Rattle.wast_tokens.specs.declared.chars.Beginning.TheVariants.{Space, LineComment, BlockComment, Annotation, Opening, Closing, Run, Nothing}
use Rattle.wast_tokens.specs.declared.chars.Class.{Class}
use Rattle.wast_tokens.specs.declared.chars.Class.TheVariants as class
use Rattle.wast_tokens.specs.Classes.{class_of, begun_in}
use Rattle.wast_tokens.specs.Blocks.{opens}
use Rattle.wast_tokens.specs.Chars.{is_space, is_id_char, is_reserved_mark, begun_by, beginning_at, word_end, line_end, is_newline}
use Rattle.wast_tokens.proofs.Prefixes.{front_within, front_passes, front_stops}

pub and_first : (x y : Bool) → (x && y) ≡ true → x ≡ true
and_first true y h = refl
and_first false y h = h

pub and_second : (x y : Bool) → (x && y) ≡ true → y ≡ true
and_second true y h = h
and_second false y h = absurd (cc)

classes_are : CLASSES ≡ map class_of (range_with_len 0 256)
unfolding class_of is_id_char is_space is_reserved_mark
classes_are = refl

-- the table of classes has the class of each byte
pub class_at : (b : ℕ) → b < 256 → slice_index_or CLASSES b class.Id ≡ class_of b
class_at b lt = ap (λ cs. slice_index_or cs b class.Id) classes_are ∙ get_or-map-range_with_len class_of 0 256 b b class.Id lt (omega arith)

-- white space is one of four bytes
space_cases : (b : ℕ) → is_space b ≡ true → ((b ≡ 32) ⊎ (b ≡ 9)) ⊎ ((b ≡ 10) ⊎ (b ≡ 13))
unfolding is_space
space_cases b h =
    ⊎_elim
    (λ first. ⊎_elim
    (λ second. ⊎_elim (λ x. inl (inl (eqb-true b 32 x))) (λ x. inl (inr (eqb-true b 9 x))) (or_cases (b == 32) (b == 9) second))
    (λ x. inr (inl (eqb-true b 10 x)))
    (or_cases ((b == 32) || (b == 9)) (b == 10) first))
    (λ x. inr (inr (eqb-true b 13 x)))
    (or_cases (((b == 32) || (b == 9)) || (b == 10)) (b == 13) h)

-- what holds of the four holds of white space
of_space : (P : ℕ → Type 0) (b : ℕ) → is_space b ≡ true → P 32 → P 9 → P 10 → P 13 → P b
of_space P b h p q r s =
    ⊎_elim
    (⊎_elim (λ e. subst P (sym e) p) (λ e. subst P (sym e) q))
    (⊎_elim (λ e. subst P (sym e) r) (λ e. subst P (sym e) s))
    (space_cases b h)

pub space_ascii : (b : ℕ) → is_space b ≡ true → b < 128
space_ascii b h = of_space (λ n. n < 128) b h (omega arith) (omega arith) (omega arith) (omega arith)

marks_ascii : (b : ℕ) (ms : List ℕ) → list_all (λ m. nat_lt m 128) ms ≡ true → list_any (λ m. m == b) ms ≡ true → b < 128
marks_ascii b [] all any = absurd (cc)
marks_ascii b (m ∷ ms) all any =
    ⊎_elim
    (λ here. grind (arith, nat_tests, eqb-true m b here, and_first (nat_lt m 128) (list_all (λ m. nat_lt m 128) ms) all))
    (λ there. marks_ascii b ms (and_second _ _ all) there)
    (or_cases (m == b) (list_any (λ m. m == b) ms) any)

alphanumeric_ascii : (b : ℕ) → is_ascii_alphanumeric b ≡ true → b < 128
alphanumeric_ascii b h = grind (arith, nat_tests)

pub id_ascii : (b : ℕ) → is_id_char b ≡ true → b < 128
unfolding is_id_char
id_ascii b h =
    ⊎_elim
    (alphanumeric_ascii b)
    (marks_ascii b ID_MARKS refl)
    (or_cases (is_ascii_alphanumeric b) (list_any (λ m. m == b) ID_MARKS) h)

-- what stands past the end of a text is 0
pub some_within : (text : List ℕ) (a x : ℕ) → slice_index text a ≡ x → 0 < x → a < length text
some_within text a x is some =
    ⊎_elim (λ lt. lt) (λ past. absurd (let z : slice_index text a ≡ 0 = get_or_past text a 0 past in omega (arith, z, is))) (cases_lt a (length text))

-- what begins with a byte, by its classes
abbrev begun_of : Bool → Bool → Bool → Bool → Bool → Bool → Bool → Bool → Beginning
begun_of run space opening closing line mark semicolon at =
    cond run Run
    (cond space Space
    (cond opening (cond semicolon BlockComment (cond at Annotation Opening))
    (cond closing Closing
    (cond line LineComment
    (cond mark Run Nothing)))))

block_by : (r s o c l m n t : Bool) → begun_of r s o c l m n t ≡ BlockComment → (o ≡ true) × (n ≡ true)
block_by true s o c l m n t e = absurd (cc)
block_by false true o c l m n t e = absurd (cc)
block_by false false true c l m true t e = (refl, refl)
block_by false false true c l m false true e = absurd (cc)
block_by false false true c l m false false e = absurd (cc)
block_by false false false true l m n t e = absurd (cc)
block_by false false false false true m n t e = absurd (cc)
block_by false false false false false true n t e = absurd (cc)
block_by false false false false false false n t e = absurd (cc)

annotation_by : (r s o c l m n t : Bool) → begun_of r s o c l m n t ≡ Annotation → (o ≡ true) × (t ≡ true)
annotation_by true s o c l m n t e = absurd (cc)
annotation_by false true o c l m n t e = absurd (cc)
annotation_by false false true c l m true t e = absurd (cc)
annotation_by false false true c l m false true e = (refl, refl)
annotation_by false false true c l m false false e = absurd (cc)
annotation_by false false false true l m n t e = absurd (cc)
annotation_by false false false false true m n t e = absurd (cc)
annotation_by false false false false false true n t e = absurd (cc)
annotation_by false false false false false false n t e = absurd (cc)

line_by : (r s o c l m n t : Bool) → begun_of r s o c l m n t ≡ LineComment → l ≡ true
line_by true s o c l m n t e = absurd (cc)
line_by false true o c l m n t e = absurd (cc)
line_by false false true c l m true t e = absurd (cc)
line_by false false true c l m false true e = absurd (cc)
line_by false false true c l m false false e = absurd (cc)
line_by false false false true l m n t e = absurd (cc)
line_by false false false false true m n t e = refl
line_by false false false false false true n t e = absurd (cc)
line_by false false false false false false n t e = absurd (cc)

some_by : (P : Type 0) (r s o c l m n t : Bool) → (begun_of r s o c l m n t ≡ Nothing → ⊥) → (r ≡ true → P) → (s ≡ true → P) → (o ≡ true → P) → (c ≡ true → P) → (l ≡ true → P) → (m ≡ true → P) → P
some_by P true s o c l m n t none f1 f2 f3 f4 f5 f6 = f1 refl
some_by P false true o c l m n t none f1 f2 f3 f4 f5 f6 = f2 refl
some_by P false false true c l m n t none f1 f2 f3 f4 f5 f6 = f3 refl
some_by P false false false true l m n t none f1 f2 f3 f4 f5 f6 = f4 refl
some_by P false false false false true m n t none f1 f2 f3 f4 f5 f6 = f5 refl
some_by P false false false false false true n t none f1 f2 f3 f4 f5 f6 = f6 refl
some_by P false false false false false false n t none f1 f2 f3 f4 f5 f6 = absurd (none refl)

mark_ascii : (b : ℕ) → is_reserved_mark b ≡ true → b < 128
unfolding is_reserved_mark
mark_ascii b h = grind (arith, nat_tests)

-- what begins a lexeme is ASCII
begun_ascii : (b n : ℕ) → ¬ (begun_by b n ≡ Nothing) → b < 128
unfolding begun_by
begun_ascii b n some =
    some_by (b < 128) (is_id_char b || (b == 34)) (is_space b) (b == 40) (b == 41) ((b == 59) && (n == 59)) (is_reserved_mark b) (n == 59) (n == 64) some
    (λ r. ⊎_elim (id_ascii b) (λ q. omega (arith, eqb-true b 34 q)) (or_cases (is_id_char b) (b == 34) r))
    (space_ascii b)
    (λ e. omega (arith, eqb-true b 40 e))
    (λ e. omega (arith, eqb-true b 41 e))
    (λ e. omega (arith, eqb-true b 59 (and_first _ _ e)))
    (mark_ascii b)

semicolon_is_mark : (b : ℕ) → (b == 59) ≡ true → is_reserved_mark b ≡ true
unfolding is_reserved_mark
semicolon_is_mark b e = ap is_reserved_mark (eqb-true b 59 e)

-- a byte's class, by the tests of it
abbrev class_by : Bool → Bool → Bool → Bool → Bool → Bool → Bool → Class
class_by id quote space opening closing semicolon mark =
    cond id class.Id
    (cond quote class.Quote
    (cond space class.Space
    (cond opening class.Opening
    (cond closing class.Closing
    (cond semicolon class.Semicolon
    (cond mark class.Mark class.Other))))))

begun_by_class : (b n : ℕ) (i q s o c m k : Bool) → (m ≡ true → k ≡ true) → begun_of (i || q) s o c (m && (n == 59)) k (n == 59) (n == 64) ≡ begun_in (class_by i q s o c m k) n
unfolding begun_in
begun_by_class b n true q s o c m k is = refl
begun_by_class b n false true s o c m k is = refl
begun_by_class b n false false true o c m k is = refl
begun_by_class b n false false false true c m k is = refl
begun_by_class b n false false false false true m k is = refl
begun_by_class b n false false false false false true true is = refl
begun_by_class b n false false false false false true false is = absurd (let e = is refl in cc)
begun_by_class b n false false false false false false true is = refl
begun_by_class b n false false false false false false false is = refl

-- what begins with a byte, by its class
pub begun_class : (b n : ℕ) → begun_by b n ≡ begun_in (class_of b) n
unfolding begun_by class_of
begun_class b n =
    begun_by_class b n (is_id_char b) (b == 34) (is_space b) (b == 40) (b == 41) (b == 59) (is_reserved_mark b) (semicolon_is_mark b)

id_by : (i q s o c m k : Bool) → class_by i q s o c m k ≡ class.Id → i ≡ true
id_by true q s o c m k e = refl
id_by false true s o c m k e = absurd (cc)
id_by false false true o c m k e = absurd (cc)
id_by false false false true c m k e = absurd (cc)
id_by false false false false true m k e = absurd (cc)
id_by false false false false false true k e = absurd (cc)
id_by false false false false false false true e = absurd (cc)
id_by false false false false false false false e = absurd (cc)

-- the id characters are a class
pub class_id : (b : ℕ) → class_of b ≡ class.Id → is_id_char b ≡ true
unfolding class_of
class_id b e = id_by (is_id_char b) (b == 34) (is_space b) (b == 40) (b == 41) (b == 59) (is_reserved_mark b) e

no_id_by : (i q s o c m k : Bool) → (class_by i q s o c m k ≡ class.Id → ⊥) → i ≡ false
no_id_by true q s o c m k ne = absurd (ne refl)
no_id_by false q s o c m k ne = refl

pub class_no_id : (b : ℕ) → (class_of b ≡ class.Id → ⊥) → is_id_char b ≡ false
unfolding class_of
class_no_id b ne = no_id_by (is_id_char b) (b == 34) (is_space b) (b == 40) (b == 41) (b == 59) (is_reserved_mark b) ne

nothing_past : begun_by 0 0 ≡ Nothing
unfolding begun_by is_id_char is_space is_reserved_mark
nothing_past = refl

pub beginning_past : (text : List ℕ) (a : ℕ) → length text ≤ a → beginning_at text a ≡ Nothing
beginning_past text a past =
    ap (λ b. begun_by b (slice_index text (a + 1))) (get_or_past text a 0 past) ∙ ap (begun_by 0) (get_or_past text (a + 1) 0 (omega arith)) ∙ nothing_past

pub beginning_within : (text : List ℕ) (a : ℕ) → ¬ (beginning_at text a ≡ Nothing) → a < length text
beginning_within text a some = ⊎_elim (λ lt. lt) (λ past. absurd (some (beginning_past text a past))) (cases_lt a (length text))

pub beginning_ascii : (text : List ℕ) (a : ℕ) → ¬ (beginning_at text a ≡ Nothing) → slice_index text a < 128
beginning_ascii text a some = begun_ascii (slice_index text a) (slice_index text (a + 1)) some

begun_block : (b n : ℕ) → begun_by b n ≡ BlockComment → ((b == 40) ≡ true) × ((n == 59) ≡ true)
unfolding begun_by
begun_block b n e = block_by (is_id_char b || (b == 34)) (is_space b) (b == 40) (b == 41) ((b == 59) && (n == 59)) (is_reserved_mark b) (n == 59) (n == 64) e

both_true : (x y : Bool) → x ≡ true → y ≡ true → (x && y) ≡ true
both_true x y e f = ap (λ z. z && y) e ∙ f

pub block_opens : (text : List ℕ) (a : ℕ) → beginning_at text a ≡ BlockComment → opens text a ≡ true
unfolding opens
block_opens text a e = let h = begun_block _ _ e in both_true _ _ h.0 h.1

begun_annotation : (b n : ℕ) → begun_by b n ≡ Annotation → ((b == 40) ≡ true) × ((n == 64) ≡ true)
unfolding begun_by
begun_annotation b n e = annotation_by (is_id_char b || (b == 34)) (is_space b) (b == 40) (b == 41) ((b == 59) && (n == 59)) (is_reserved_mark b) (n == 59) (n == 64) e

pub annotation_begins : (text : List ℕ) (a : ℕ) → beginning_at text a ≡ Annotation → (slice_index text a ≡ 40) × (slice_index text (a + 1) ≡ 64)
annotation_begins text a e =
    let is = begun_annotation (slice_index text a) (slice_index text (a + 1)) e in (eqb-true (slice_index text a) 40 is.0, eqb-true (slice_index text (a + 1)) 64 is.1)

pub annotation_within : (text : List ℕ) (a : ℕ) → beginning_at text a ≡ Annotation → a + 2 ≤ length text
annotation_within text a e = let lt = some_within text (a + 1) 64 (annotation_begins text a e).1 (omega arith) in omega (arith, lt)

begun_line : (b n : ℕ) → begun_by b n ≡ LineComment → ((b == 59) && (n == 59)) ≡ true
unfolding begun_by
begun_line b n e = line_by (is_id_char b || (b == 34)) (is_space b) (b == 40) (b == 41) ((b == 59) && (n == 59)) (is_reserved_mark b) (n == 59) (n == 64) e

pub line_within : (text : List ℕ) (a : ℕ) → beginning_at text a ≡ LineComment → a + 2 ≤ length text
line_within text a e =
    let lt = some_within text (a + 1) 59 (eqb-true (slice_index text (a + 1)) 59 (and_second _ _ (begun_line _ _ e))) (omega arith) in omega (arith, lt)

-- an id character and a quote begin a run

begun_id : (b n : ℕ) → is_id_char b ≡ true → begun_by b n ≡ Run
unfolding begun_by
begun_id b n e = ap (λ r. begun_of (r || (b == 34)) (is_space b) (b == 40) (b == 41) ((b == 59) && (n == 59)) (is_reserved_mark b) (n == 59) (n == 64)) e

begun_quote : (n : ℕ) → begun_by 34 n ≡ Run
unfolding begun_by is_id_char
begun_quote n = refl

pub id_begins : (text : List ℕ) (a : ℕ) → is_id_char (slice_index text a) ≡ true → beginning_at text a ≡ Run
id_begins text a e = begun_id (slice_index text a) (slice_index text (a + 1)) e

pub quote_begins : (text : List ℕ) (a : ℕ) → slice_index text a ≡ 34 → beginning_at text a ≡ Run
quote_begins text a e = ap (λ b. begun_by b (slice_index text (a + 1))) e ∙ begun_quote (slice_index text (a + 1))

pub quote_not_id : is_id_char 34 ≡ false
unfolding is_id_char
quote_not_id = refl

pub dollar_is_id : is_id_char 36 ≡ true
unfolding is_id_char
dollar_is_id = refl

pub run_or_not : (b : Beginning) → (b ≡ Run) ⊎ (b ≡ Run → ⊥)
run_or_not Space = inr (λ e. absurd (cc))
run_or_not LineComment = inr (λ e. absurd (cc))
run_or_not BlockComment = inr (λ e. absurd (cc))
run_or_not Annotation = inr (λ e. absurd (cc))
run_or_not Opening = inr (λ e. absurd (cc))
run_or_not Closing = inr (λ e. absurd (cc))
run_or_not Run = inl refl
run_or_not Nothing = inr (λ e. absurd (cc))

-- where id characters end

pub word_from : (text : List ℕ) (a : ℕ) → a ≤ word_end text a
word_from text a = omega arith

no_id_past : is_id_char 0 ≡ false
unfolding is_id_char
no_id_past = refl

pub word_within : (text : List ℕ) (a : ℕ) → a ≤ length text → word_end text a ≤ length text
word_within text a le = front_within is_id_char text a le

pub word_id : (text : List ℕ) (a k : ℕ) → a ≤ k → k < word_end text a → is_id_char (slice_index text k) ≡ true
word_id text a k from below = front_passes is_id_char text a k from below

pub word_stops : (text : List ℕ) (a : ℕ) → is_id_char (slice_index text (word_end text a)) ≡ false
word_stops text a = front_stops is_id_char text a no_id_past

pub word_upto : (text : List ℕ) (a k : ℕ) → a ≤ k → is_id_char (slice_index text k) ≡ false → word_end text a ≤ k
word_upto text a k from is_none = ⊎_elim (λ lt. absurd (both_ways _ is_none (word_id text a k from lt))) (λ le. le) (cases_lt k (word_end text a))

pub line_end_within : (text : List ℕ) (a : ℕ) → a ≤ length text → line_end text a ≤ length text
line_end_within text a le = front_within (λ b. not (is_newline b)) text a le
