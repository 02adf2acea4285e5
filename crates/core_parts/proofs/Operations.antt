-- What the word of an instruction tells of reading it.
use Rattle.std.proofs.Common.{◌≡◌, ◌++◌, ◌||◌, ◌∙◌, ℕ, List, [], ◌∷◌, Bool, true, false, cond, refl, sym, ap, subst, codes}
use Rattle.wast_tokens.specs.declared.error.ErrorKind.{ErrorKind}
use Rattle.wast_tokens.specs.declared.error.ErrorKind.TheVariants.{Parse}
use Rattle.wast_grammar.specs.Classes.{Class, among, keyword, same}
use Rattle.wast_grammar.specs.Stand.{Stand, class_at, moved, offset_of}
use Rattle.wast_grammar.specs.Grammar.{one_of, number_in, Value, num, both, left, right}
use Rattle.wast_grammar.specs.Rows.{reference}
use Rattle.wast_grammar.specs.Read.{Outcome, reads, fault, deep, andthen, told, read, FailsAs}
use Rattle.wast_grammar.specs.CoreRows.{operation, operation_words, plain_words, indexed_words, integer_32, integer_64}
use Rattle.core_parts.specs.declared.operation_words.Plain.TheVariants as plain
use Rattle.core_parts.specs.declared.operation_words.Indexed.TheVariants as indexed
use Rattle.core_parts.specs.declared.operation_words.Kind.{Kind}
use Rattle.core_parts.specs.declared.operation_words.Kind.TheVariants as kind
use Rattle.core_parts.specs.Operations.{word_of, operands_of}
use Rattle.core_parts.proofs.Looks.{among_both}

-- it is one of the words
pub is_among : (k : Kind) → among operation_words (keyword (word_of k)) ≡ true
is_among (kind.Plain plain.Unreachable) = refl
is_among (kind.Plain plain.Nop) = refl
is_among (kind.Plain plain.Return) = refl
is_among (kind.Plain plain.Drop) = refl
is_among (kind.Plain plain.I32Add) = refl
is_among (kind.Plain plain.I32Sub) = refl
is_among (kind.Plain plain.I32Mul) = refl
is_among (kind.Indexed indexed.Call) = refl
is_among (kind.Indexed indexed.LocalGet) = refl
is_among (kind.Indexed indexed.LocalSet) = refl
is_among (kind.Indexed indexed.LocalTee) = refl
is_among (kind.Indexed indexed.GlobalGet) = refl
is_among (kind.Indexed indexed.GlobalSet) = refl
is_among kind.I32Const = refl
is_among kind.I64Const = refl

-- reading, by the class of the next token
abbrev reading : Class → Stand → Outcome
reading c s =
    cond (among (one_of plain_words) c) (andthen (told (number_in plain_words c) s) (λ u r. reads (left u) r)) (andthen
    (cond (among (one_of indexed_words) c) (andthen (andthen (told (number_in indexed_words c) s) (λ u t. andthen (read reference t) (λ v r. reads (both u v) r))) (λ u r. reads (left u) r)) (andthen
    (cond (among (keyword (codes "i32.const") ∷ []) c) (andthen (cond (same c (keyword (codes "i32.const"))) (read integer_32 (moved s 1)) (fault s)) (λ u r. reads (left u) r)) (andthen
    (cond (same c (keyword (codes "i64.const"))) (read integer_64 (moved s 1)) (fault s))
    (λ u r. reads (right u) r)))
    (λ u r. reads (right u) r)))
    (λ u r. reads (right u) r))

is_reading : (s : Stand) → read operation s ≡ reading (class_at s) s
unfolding operation
is_reading s = refl

-- what was read with two and three marks around it
in_two : (n : ℕ) (o : Outcome) → andthen (andthen (andthen o (λ v r. reads (both (num n) v) r)) (λ u r. reads (left u) r)) (λ u r. reads (right u) r) ≡ andthen o (λ v r. reads (right (left (both (num n) v))) r)
in_two n (reads v s) = refl
in_two n (fault s) = refl
in_two n (deep s) = refl

in_three : (f : Value → Value) (o : Outcome) → andthen (andthen (andthen o (λ u r. reads (f u) r)) (λ u r. reads (right u) r)) (λ u r. reads (right u) r) ≡ andthen o (λ v r. reads (right (right (f v))) r)
in_three f (reads v s) = refl
in_three f (fault s) = refl
in_three f (deep s) = refl

by_word : (k : Kind) (s : Stand) → reading (keyword (word_of k)) s ≡ operands_of k (moved s 1)
by_word (kind.Plain plain.Unreachable) s = refl
by_word (kind.Plain plain.Nop) s = refl
by_word (kind.Plain plain.Return) s = refl
by_word (kind.Plain plain.Drop) s = refl
by_word (kind.Plain plain.I32Add) s = refl
by_word (kind.Plain plain.I32Sub) s = refl
by_word (kind.Plain plain.I32Mul) s = refl
by_word (kind.Indexed indexed.Call) s = in_two 0 _
by_word (kind.Indexed indexed.LocalGet) s = in_two 1 _
by_word (kind.Indexed indexed.LocalSet) s = in_two 2 _
by_word (kind.Indexed indexed.LocalTee) s = in_two 3 _
by_word (kind.Indexed indexed.GlobalGet) s = in_two 4 _
by_word (kind.Indexed indexed.GlobalSet) s = in_two 5 _
by_word kind.I32Const s = in_three left _
by_word kind.I64Const s = in_three right _

-- it is read as what stands behind it
is_read : (k : Kind) (s : Stand) → class_at s ≡ keyword (word_of k) → read operation s ≡ operands_of k (moved s 1)
is_read k s h = is_reading s ∙ ap (λ c. reading c s) h ∙ by_word k s

-- where none of the words is next, reading ends there
either_false : (a b : Bool) → (a || b) ≡ false → (a ≡ false) × (b ≡ false)
either_false true b h = absurd (cc)
either_false false b h = (refl, h)

cond_false : (a b : Bool) → cond a true b ≡ false → (a ≡ false) × (b ≡ false)
cond_false true b h = absurd (cc)
cond_false false b h = (refl, h)

-- the words of constants
abbrev consts : List Class
consts = keyword (codes "i32.const") ∷ keyword (codes "i64.const") ∷ []

is_fault : (s : Stand) → among operation_words (class_at s) ≡ false → read operation s ≡ fault s
is_fault s h =
    let a : (among (one_of plain_words) (class_at s) || among (one_of indexed_words ++ consts) (class_at s)) ≡ false = sym (among_both (one_of plain_words) (one_of indexed_words ++ consts) (class_at s)) ∙ h in
    let p = either_false (among (one_of plain_words) (class_at s)) (among (one_of indexed_words ++ consts) (class_at s)) a in
    let b : (among (one_of indexed_words) (class_at s) || among consts (class_at s)) ≡ false = sym (among_both (one_of indexed_words) consts (class_at s)) ∙ p.1 in
    let i = either_false (among (one_of indexed_words) (class_at s)) (among consts (class_at s)) b in
    let c = cond_false (same (class_at s) (keyword (codes "i32.const"))) (among (keyword (codes "i64.const") ∷ []) (class_at s)) i.1 in
    let d = cond_false (same (class_at s) (keyword (codes "i64.const"))) false c.1 in
    is_reading s ∙ rw (p.0, i.0, c.0, d.0) refl

-- the same of a reader that went over the word
pub reads_on : (k : Kind) (p at behind new : Stand) → at ≡ p → class_at p ≡ keyword (word_of k) → behind ≡ moved at 1 → new ≡ behind → operands_of k new ≡ read operation p
reads_on k p at behind new a w n b = ap (operands_of k) (b ∙ n ∙ ap (λ s. moved s 1) a) ∙ sym (is_read k p w)

pub ends_there : (p at : Stand) (e : ErrorKind) (n : ℕ) → at ≡ p → among operation_words (class_at at) ≡ false → e ≡ Parse → n ≡ offset_of p → FailsAs e n p (read operation p)
ends_there p at e n a h k o = subst (λ x. FailsAs x n p (read operation p)) (sym k) (is_fault p (ap (λ s. among operation_words (class_at s)) (sym a) ∙ h), o)
