-- The numbers of words.
use Rattle.std.proofs.Common.{◌≡◌, ℕ, zero, suc, ◌+◌, ◌-◌, ◌≤◌, ◌<◌, refl, ap, sym, subst, ◌∙◌, List, [], ◌∷◌, map, length, Bool, true, false, cond, ◌&&◌, ◌||◌, nat_eq, nat_le, arith, codes, slice_get}
use Rattle.std.specs.Prelude.{slice_index, bytes_eq, unwrap_or}
use Rattle.std.proofs.lemmas.Bool.Decides.{nat_tests}
use Rattle.std.proofs.lemmas.Slice.Eq.{bytes_eq-Decides}
use Rattle.wast_grammar.specs.Classes.{Class, utf8, binary, numeral, wide, finish, opening, closing, id, keyword, annotation, same}
use Rattle.wast_grammar.proofs.Same.{same_is}
use Rattle.token_codes.specs.Numbers.{words, keywords, place_in, number, word_at, hash}
use Rattle.token_codes.specs.declared.numbers.TheConstants.{WORDS, SLOTS}

pub words_are : map (λ w. w.now) WORDS ≡ words
words_are = refl

and_parts : (a b : Bool) → (a && b) ≡ true → (a ≡ true) × (b ≡ true)
and_parts true b h = (refl, h)
and_parts false b h = absurd (cc)

nat_eq_is : (m n : ℕ) → nat_eq m n ≡ true → m ≡ n
nat_eq_is m n h = grind (arith, nat_tests)

-- ---- each slot has the number of a word, or the last

each_slot : List ℕ → Bool
each_slot [] = true
each_slot (s ∷ ss) = (nat_le 11 s && nat_le s 149) && each_slot ss

slots_are : each_slot SLOTS ≡ true
unfolding each_slot
slots_are = refl

slot_in : (ss : List ℕ) (i : ℕ) → each_slot ss ≡ true → i < length ss → (11 ≤ slice_index ss i) × (slice_index ss i ≤ 149)
unfolding each_slot
slot_in [] i h l = absurd (omega arith)
slot_in (s ∷ ss) zero h l =
    let p = and_parts (nat_le 11 s && nat_le s 149) (each_slot ss) h in
    let q = and_parts (nat_le 11 s) (nat_le s 149) p.0 in
    (grind (arith, nat_tests), grind (arith, nat_tests))
slot_in (s ∷ ss) (suc i) h l = slot_in ss i (and_parts (nat_le 11 s && nat_le s 149) (each_slot ss) h).1 (omega arith)

pub slots_are_words : (i : ℕ) → i < 1024 → (11 ≤ slice_index SLOTS i) × (slice_index SLOTS i ≤ 149)
slots_are_words i h = slot_in SLOTS i slots_are h

-- ---- each word has the number of its place

each_number : ℕ → List (List ℕ) → Bool
each_number k [] = nat_eq (number (keyword [])) k
each_number k (w ∷ ws) = nat_eq (number (keyword w)) k && each_number (suc k) ws

numbers_are : each_number 11 words ≡ true
unfolding each_number number
numbers_are = refl

number_in_list : (ws : List (List ℕ)) (k i : ℕ) → each_number k ws ≡ true → i ≤ length ws → number (keyword (unwrap_or (slice_get ws i) [])) ≡ k + i
unfolding each_number
number_in_list [] k zero h l = let e = nat_eq_is (number (keyword [])) k h in omega (arith, e)
number_in_list [] k (suc i) h l = absurd (omega arith)
number_in_list (w ∷ ws) k zero h l = let e = nat_eq_is (number (keyword w)) k (and_parts (nat_eq (number (keyword w)) k) (each_number (suc k) ws) h).0 in omega (arith, e)
number_in_list (w ∷ ws) k (suc i) h l = let e = number_in_list ws (suc k) i (and_parts (nat_eq (number (keyword w)) k) (each_number (suc k) ws) h).1 (omega arith) in omega (arith, e)

-- the word of a number has that number
pub word_number : (n : ℕ) → 11 ≤ n → n ≤ 149 → number (keyword (word_at n)) ≡ n
word_number n h l = let e = number_in_list words 11 (n - 11) numbers_are (omega arith) in omega (arith, e, h)

-- ---- each word is found by its hash

slot_of : List ℕ → ℕ
slot_of w = slice_index SLOTS (hash w)

found : List ℕ → Bool
found w = bytes_eq (word_at (slot_of w)) w || bytes_eq (word_at (slot_of w + 1)) w

each_found : List (List ℕ) → Bool
each_found [] = true
each_found (w ∷ ws) = found w && each_found ws

words_are_found : each_found words ≡ true
unfolding each_found found slot_of hash
words_are_found = refl

same_word : (w s : List ℕ) → same (keyword w) (keyword s) ≡ true → w ≡ s
same_word w s h = let e = same_is (keyword w) (keyword s) h in cc

not_found : (s : List ℕ) → bytes_eq (word_at (slot_of s)) s ≡ false → bytes_eq (word_at (slot_of s + 1)) s ≡ false → found s ≡ false
unfolding found
not_found s h k = ap (λ x. x || bytes_eq (word_at (slot_of s + 1)) s) h ∙ k

missed_so : (b : Bool) (w s : List ℕ) (n m : ℕ) → same (keyword w) (keyword s) ≡ b → found w ≡ true → found s ≡ false → n ≡ m → cond b 0 (n + 1) ≡ suc m
missed_so true w s n m e h k r = let q : found w ≡ found s = ap found (same_word w s e) in absurd (cc)
missed_so false w s n m e h k r = omega (arith, r)

missed_in : (ws : List (List ℕ)) (s : List ℕ) → each_found ws ≡ true → found s ≡ false → place_in (keywords ws) (keyword s) ≡ length ws
unfolding each_found
missed_in [] s h k = refl
missed_in (w ∷ ws) s h k =
    let p = and_parts (found w) (each_found ws) h in
    missed_so (same (keyword w) (keyword s)) w s (place_in (keywords ws) (keyword s)) (length ws) refl p.0 k (missed_in ws s p.1 k)

number_behind : (ks : List Class) (s : List ℕ) → place_in (finish ∷ closing ∷ opening ∷ utf8 ∷ binary ∷ id ∷ numeral ∷ wide ∷ annotation (codes "(@name") ∷ annotation (codes "(@custom") ∷ annotation (codes "(@producers") ∷ ks) (keyword s) ≡ place_in ks (keyword s) + 11
number_behind ks s = omega arith

pub number_keyword : (s : List ℕ) → number (keyword s) ≡ place_in (keywords words) (keyword s) + 11
unfolding number
number_keyword s = number_behind (keywords words) s

-- what is none of the words has the last number
pub keyword_missed : (s : List ℕ) → bytes_eq (word_at (slice_index SLOTS (hash s))) s ≡ false → bytes_eq (word_at (slice_index SLOTS (hash s) + 1)) s ≡ false → ◌≡◌ {A = ℕ} 149 (number (keyword s))
unfolding slot_of
keyword_missed s h k = let r = missed_in words s words_are_found (not_found s h k) in sym (number_keyword s ∙ ap (λ x. x + 11) r)

pub keyword_is : (n : ℕ) (s : List ℕ) → 11 ≤ n → n ≤ 149 → word_at n ≡ s → n ≡ number (keyword s)
keyword_is n s h l e = sym (word_number n h l) ∙ ap (λ w. number (keyword w)) e

-- the word behind a slot
pub keyword_is_next : (n : ℕ) (s : List ℕ) → 11 ≤ n → n ≤ 149 → bytes_eq (word_at n) s ≡ false → word_at (n + 1) ≡ s → n + 1 ≡ number (keyword s)
keyword_is_next n s h l k e = next_so (nat_eq n 149) n s refl h l k e
  where
    next_so : (b : Bool) (n : ℕ) (s : List ℕ) → nat_eq n 149 ≡ b → 11 ≤ n → n ≤ 149 → bytes_eq (word_at n) s ≡ false → word_at (n + 1) ≡ s → n + 1 ≡ number (keyword s)
    next_so true n s t h l k e = let q = nat_eq_is n 149 t in absurd (subst (λ m. bytes_eq (word_at m) s ≡ false → word_at (m + 1) ≡ s → ⊥) (sym q) (λ x y. let z : bytes_eq [] [] ≡ false = ap (bytes_eq []) y ∙ x in cc) k e)
    next_so false n s t h l k e = keyword_is (n + 1) s (omega (arith, h)) (grind (arith, nat_tests)) e

-- ---- annotations

abbrev noted : List ℕ → List ℕ
noted s = 40 ∷ 64 ∷ s

pub note_is_name : (s : List ℕ) → s ≡ codes "name" → ◌≡◌ {A = ℕ} 8 (number (annotation (noted s)))
unfolding number
note_is_name s e = rw e refl

pub note_is_custom : (s : List ℕ) → s ≡ codes "custom" → ◌≡◌ {A = ℕ} 9 (number (annotation (noted s)))
unfolding number
note_is_custom s e = rw e refl

pub note_is_producers : (s : List ℕ) → s ≡ codes "producers" → ◌≡◌ {A = ℕ} 10 (number (annotation (noted s)))
unfolding number
note_is_producers s e = rw e refl

turned : (b : Bool) (x s : List ℕ) → bytes_eq x s ≡ b → bytes_eq s x ≡ false → b ≡ false
turned false x s e h = refl
turned true x s e h =
    let q : bytes_eq s x ≡ true = (bytes_eq-Decides s x).1 (sym ((bytes_eq-Decides x s).0 e)) in
    absurd (cc)

note_so : (s : List ℕ) → bytes_eq (codes "name") s ≡ false → bytes_eq (codes "custom") s ≡ false → bytes_eq (codes "producers") s ≡ false → ◌≡◌ {A = ℕ} 149 (number (annotation (noted s)))
unfolding number
note_so s h k l = rw (h, k, l) refl

pub note_is_not : (s : List ℕ) → bytes_eq s (codes "name") ≡ false → bytes_eq s (codes "custom") ≡ false → bytes_eq s (codes "producers") ≡ false → ◌≡◌ {A = ℕ} 149 (number (annotation (noted s)))
note_is_not s h k l =
    note_so s (turned (bytes_eq (codes "name") s) (codes "name") s refl h) (turned (bytes_eq (codes "custom") s) (codes "custom") s refl k) (turned (bytes_eq (codes "producers") s) (codes "producers") s refl l)

-- ---- the hash

pub hash_none : (bs : List ℕ) → ◌≡◌ {A = ℕ} (length bs) 0 → ◌≡◌ {A = ℕ} 0 (hash bs)
unfolding hash
hash_none [] h = refl
hash_none (x ∷ xs) h = absurd (omega arith)
