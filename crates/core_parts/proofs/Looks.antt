-- What the looks of a cursor tell of classes.
use Rattle.std.proofs.Common.{◌≡◌, ℕ, List, [], ◌∷◌, ◌++◌, ◌||◌, Bool, true, false, cond, Option, Some, None, refl}
use Rattle.std.specs.Option.{is_some}
use Rattle.wast_grammar.specs.Classes.{Class, finish, opening, closing, string, id, integer, keyword, annotation, reserved, integers, same, among, each_class, is_inner, Keywords, is_keyword}
use Rattle.wast_grammar.specs.Grammar.{number_in, one_of}
use Rattle.wast_grammar.specs.CoreRows.{operation_words, other_field_notes}
use Rattle.wast_grammar.proofs.Moves.{and_true}
use Rattle.wast_parser.specs.Next.{keyword_in, note_in, string_in, integer_in}

-- what is no keyword is none of any
pub no_keyword : (ws : Keywords) (c : Class) → keyword_in c ≡ None → is_keyword ws c ≡ false
no_keyword ws finish h = refl
no_keyword ws opening h = refl
no_keyword ws closing h = refl
no_keyword ws (string b) h = refl
no_keyword ws id h = refl
no_keyword ws (integer b) h = refl
no_keyword ws (keyword bytes) h = absurd (cc)
no_keyword ws (annotation bytes) h = refl
no_keyword ws reserved h = refl

-- what is no word, id, string or integer begins or ends a group, or stands in none
pub not_inner : (c : Class) → keyword_in c ≡ None → same c id ≡ false → string_in c ≡ false → integer_in c ≡ false → is_inner c ≡ false
not_inner finish h i j k = refl
not_inner opening h i j k = refl
not_inner closing h i j k = refl
not_inner (string b) h i j k = absurd (cc)
not_inner id h i j k = absurd (cc)
not_inner (integer b) h i j k = absurd (cc)
not_inner (keyword bytes) h i j k = absurd (cc)
not_inner (annotation bytes) h i j k = refl
not_inner reserved h i j k = refl

-- what is no keyword has no number in a table of words
pub no_number : (ws : List (List ℕ × ℕ)) (c : Class) → keyword_in c ≡ None → number_in ws c ≡ None
no_number [] c h = refl
no_number (w ∷ ws) finish h = no_number ws finish h
no_number (w ∷ ws) opening h = no_number ws opening h
no_number (w ∷ ws) closing h = no_number ws closing h
no_number (w ∷ ws) (string b) h = no_number ws (string b) h
no_number (w ∷ ws) id h = no_number ws id h
no_number (w ∷ ws) (integer b) h = no_number ws (integer b) h
no_number (w ∷ ws) (keyword bytes) h = absurd (cc)
no_number (w ∷ ws) (annotation bytes) h = no_number ws (annotation bytes) h
no_number (w ∷ ws) reserved h = no_number ws reserved h

-- a word of a table is next exactly where it has a number there
pub word_next : (ws : List (List ℕ × ℕ)) (c : Class) → among (one_of ws) c ≡ is_some (number_in ws c)
word_next [] c = refl
word_next (w ∷ ws) c =
    elim (same c (keyword w.0)) as (λ b. cond b true (among (one_of ws) c) ≡ is_some (cond b (Some w.1) (number_in ws c))) [ true ↦ refl | false ↦ word_next ws c ]

-- what is no integer is no numeral, nor is an integer that isn't one
pub no_numeral : (c : Class) → integer_in c ≡ false → same c (integer true) ≡ false
no_numeral finish h = refl
no_numeral opening h = refl
no_numeral closing h = refl
no_numeral (string b) h = refl
no_numeral id h = refl
no_numeral (integer b) h = absurd (cc)
no_numeral (keyword bytes) h = refl
no_numeral (annotation bytes) h = refl
no_numeral reserved h = refl

-- an integer is of one of the classes of integers, and nothing else is
pub is_integer : (c : Class) (b : Bool) → c ≡ integer b → among integers c ≡ true
is_integer c true h = rw h refl
is_integer c false h = rw h refl

pub no_integer : (c : Class) → integer_in c ≡ false → among integers c ≡ false
no_integer finish h = refl
no_integer opening h = refl
no_integer closing h = refl
no_integer (string b) h = refl
no_integer id h = refl
no_integer (integer b) h = absurd (cc)
no_integer (keyword bytes) h = refl
no_integer (annotation bytes) h = refl
no_integer reserved h = refl

-- a class of either list
pub among_both : (xs ys : List Class) (c : Class) → among (xs ++ ys) c ≡ (among xs c || among ys c)
among_both [] ys c = refl
among_both (x ∷ xs) ys c = elim (same c x) as (λ b. cond b true (among (xs ++ ys) c) ≡ (cond b true (among xs c) || among ys c)) [ true ↦ refl | false ↦ among_both xs ys c ]

-- what is no annotation is none of those that are fields
pub no_other_field_note : (c : Class) → note_in c ≡ None → among other_field_notes c ≡ false
no_other_field_note finish h = refl
no_other_field_note opening h = refl
no_other_field_note closing h = refl
no_other_field_note (string b) h = refl
no_other_field_note id h = refl
no_other_field_note (integer b) h = refl
no_other_field_note (keyword bytes) h = refl
no_other_field_note (annotation bytes) h = absurd (cc)
no_other_field_note reserved h = refl

-- there is none where there isn't some
pub none_is : (o : Option ℕ) → is_some o ≡ false → o ≡ None
none_is None h = refl
none_is (Some n) h = absurd (cc)

-- a class of keywords
abbrev is_word : Class → Bool
is_word c = is_some (keyword_in c)

another : (c x : Class) → keyword_in c ≡ None → is_word x ≡ true → same c x ≡ false
another finish (keyword w) h k = refl
another opening (keyword w) h k = refl
another closing (keyword w) h k = refl
another (string b) (keyword w) h k = refl
another id (keyword w) h k = refl
another (integer b) (keyword w) h k = refl
another (keyword bytes) x h k = absurd (cc)
another (annotation bytes) (keyword w) h k = refl
another reserved (keyword w) h k = refl
another c finish h k = absurd (cc)
another c opening h k = absurd (cc)
another c closing h k = absurd (cc)
another c (string b) h k = absurd (cc)
another c id h k = absurd (cc)
another c (integer b) h k = absurd (cc)
another c (annotation bytes) h k = absurd (cc)
another c reserved h k = absurd (cc)

-- what is no keyword is none of a list of them
pub no_word : (cs : List Class) (c : Class) → each_class is_word cs ≡ true → keyword_in c ≡ None → among cs c ≡ false
no_word [] c z h = refl
no_word (x ∷ cs) c z h = let k = and_true (is_word x) (each_class is_word cs) z in let d = another c x h k.0 in let r = no_word cs c k.1 h in rw (d, r) refl

pub no_operation_word : (c : Class) → keyword_in c ≡ None → among operation_words c ≡ false
no_operation_word c h = no_word operation_words c refl h
