-- The words of a command.
use Rattle.std.proofs.Common.{◌≡◌, ◌⊎◌, inl, inr, map, ℕ, ◌<◌, ◌≤◌, List, [], ◌∷◌, length, drop, get_or, Option, Some, None, refl, sym, ap, ◌∙◌, arith}
use Rattle.wast_prog.specs.declared.command.Command.{Command}
use Rattle.wast_prog.specs.Command.{encode_words, origins_words, raw_words, asked_by, command, IsCommand}

-- lists of no, one and two items, and of one or more
pub no_item : {X : Type 0} (xs : List X) → length xs < 1 → xs ≡ []
no_item [] few = refl
no_item (x ∷ xs) few = absurd (omega arith)

pub one_item : {X : Type 0} (xs : List X) (x : X) → 1 ≤ length xs → length xs < 2 → x ≡ get_or xs 0 x → xs ≡ x ∷ []
one_item [] x some few e = absurd (omega arith)
one_item (y ∷ []) x some few e = ap (λ z. z ∷ []) (sym e)
one_item (y ∷ z ∷ xs) x some few e = absurd (omega arith)

pub two_items : {X : Type 0} (xs : List X) (x y : X) → 2 ≤ length xs → length xs < 3 → x ≡ get_or xs 0 x → y ≡ get_or xs 1 y → xs ≡ x ∷ y ∷ []
two_items [] x y some few e f = absurd (omega arith)
two_items (v ∷ []) x y some few e f = absurd (omega arith)
two_items (v ∷ w ∷ []) x y some few e f = ap (λ z. z ∷ w ∷ []) (sym e) ∙ ap (λ z. x ∷ z ∷ []) (sym f)
two_items (v ∷ w ∷ z ∷ xs) x y some few e f = absurd (omega arith)

pub first_item : {X : Type 0} (xs : List X) (x : X) → 1 ≤ length xs → x ≡ get_or xs 0 x → xs ≡ x ∷ drop 1 xs
first_item [] x some e = absurd (omega arith)
first_item (y ∷ xs) x some e = ap (λ z. z ∷ xs) (sym e)

-- three words behind it, or more, ask for nothing
pub many_words : (words : List (List ℕ)) → 3 ≤ length words → asked_by encode_words words ≡ None
many_words [] h = absurd (omega (arith, h))
many_words (x ∷ []) h = absurd (omega (arith, h))
many_words (x ∷ y ∷ []) h = absurd (omega (arith, h))
many_words (x ∷ y ∷ z ∷ words) h = refl

-- nor do two words behind `origins`, or more
pub two_words : (words : List (List ℕ)) → 2 ≤ length words → asked_by origins_words words ≡ None
two_words [] h = absurd (omega (arith, h))
two_words (x ∷ []) h = absurd (omega (arith, h))
two_words (x ∷ y ∷ words) h = refl

-- nor do two words after a command that takes `--raw` alone, or more
pub two_raw_words : (bare raw : Command) (words : List (List ℕ)) → 2 ≤ length words → asked_by (raw_words bare raw) words ≡ None
two_raw_words bare raw [] h = absurd (omega (arith, h))
two_raw_words bare raw (x ∷ []) h = absurd (omega (arith, h))
two_raw_words bare raw (x ∷ y ∷ words) h = refl

-- the words are a command, or they aren't
pub command_or_not : (words : List (List ℕ)) → IsCommand words ⊎ (command words ≡ None)
command_or_not words = go (command words) refl
  where
    go : (o : Option Command) → command words ≡ o → IsCommand words ⊎ (command words ≡ None)
    go None e = inr e
    go (Some asked) e = inl (asked, e)

-- the first is left out before or after a change of each
pub map-drop : {X Y : Type 0} (f : X → Y) (xs : List X) → map f (drop 1 xs) ≡ drop 1 (map f xs)
map-drop f [] = refl
map-drop f (x ∷ xs) = refl
