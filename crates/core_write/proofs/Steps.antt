-- Steps of writing, one behind the other.
use Rattle.std.proofs.Common.{◌≡◌, ℕ, suc, ◌+◌, ◌<◌, drop, get_or, add-one, List, [], ◌∷◌, ◌++◌, append_assoc, length, Result, Ok, Err, refl, sym, ◌∙◌, ap, arith}
use Rattle.std.proofs.lemmas.List.{length-append}
use Rattle.std.proofs.Math.Seq.{drop-cons}
use Rattle.std.specs.Prelude.{OnOk, IfErr}
use Rattle.comp_model.specs.Payloads.{joined}
use Rattle.core_model.specs.Bytes.{section}
use Rattle.core_write.specs.Written.{section_of}

-- a byte and two parts
pub three-parts : (b : ℕ) (s t start one two three : List ℕ) → one ≡ start ++ b ∷ [] → two ≡ one ++ s → three ≡ two ++ t → three ≡ start ++ (b ∷ (s ++ t))
three-parts b s t start one two three e f g = g ∙ ap (λ o. o ++ t) (f ∙ ap (λ o. o ++ s) e) ∙ append_assoc (start ++ b ∷ []) s t ∙ append_assoc start (b ∷ []) (s ++ t)

pub joined_append : (xs bs : List (List ℕ)) → joined (xs ++ bs) ≡ joined xs ++ joined bs
joined_append [] bs = refl
joined_append (a ∷ xs) bs = ap (λ r. a ++ r) (joined_append xs bs) ∙ sym (append_assoc a (joined xs) (joined bs))

-- a section by how many items it has and their bytes
pub section_by_count : (number : ℕ) (items : List (List ℕ)) → section number items ≡ section_of number (length items) (joined items)
section_by_count number [] = refl
section_by_count number (i ∷ is) = refl

-- what is left at a turn of a loop
pub dropped : {A : Type 0} (xs : List A) (i : ℕ) (x : A) → i < length xs → x ≡ get_or xs i x → drop i xs ≡ x ∷ drop (i + 1) xs
dropped xs i x below e = drop-cons xs i x below ∙ ap (λ y. y ∷ drop (suc i) xs) (sym e) ∙ ap (λ n. x ∷ drop n xs) (sym (add-one i))

-- one turn of a loop that appends items: those of this turn, and those of the turns after it
pub turn-appended : (here after now : List (List ℕ)) (out next whole : List ℕ) → now ≡ here ++ after → next ≡ out ++ joined here → out ++ joined now ≡ whole → next ++ joined after ≡ whole
turn-appended here after now out next whole s e h =
    ap (λ o. o ++ joined after) e ∙ append_assoc out (joined here) (joined after) ∙ ap (λ x. out ++ x) (sym (joined_append here after) ∙ ap joined (sym s)) ∙ h

pub turn-counted : (here after now : List (List ℕ)) (count more whole : ℕ) → now ≡ here ++ after → more ≡ length here → count + length now ≡ whole → count + more + length after ≡ whole
turn-counted here after now count more whole s e h =
    let a : length now ≡ length here + length after = ap length s ∙ length-append here after in
    omega (arith, a, e, h)

-- two lists of items, one behind the other
pub two-lists : (xs ys : List (List ℕ)) (start one two : List ℕ) → one ≡ start ++ joined xs → two ≡ one ++ joined ys → two ≡ start ++ joined (xs ++ ys)
two-lists xs ys start one two e f = f ∙ ap (λ o. o ++ joined ys) e ∙ append_assoc start (joined xs) (joined ys) ∙ ap (λ r. start ++ r) (sym (joined_append xs ys))
