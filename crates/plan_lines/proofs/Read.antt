-- What words say, by the words in front.
use Rattle.std.proofs.Common.{◌≡◌, ℕ, zero, suc, ◌+◌, ◌==◌, ◌&&◌, Bool, true, false, List, [], ◌∷◌, refl, ap, sym, ◌∙◌, Option, Some, None, if◌then◌else◌, is_some}
use Rattle.plan_lines.specs.Words.{Word, word, split, pieces, longer}
use Rattle.plan_lines.specs.Lines.{Argument, Line, an_instance, two_of, made_of, is_name_byte, argument, arguments, more, instance_with, instance_line}

-- there is always a piece
pub record First (ws : List Word) : Type 0 where
  pub head : Word
  pub tail : List Word
  pub same : ws ≡ head ∷ tail

first_longer : (at b : ℕ) (ws : List Word) → First (longer at b ws)
first_longer at b [] = record { head = word at (b ∷ []); tail = []; same = refl }
first_longer at b (w ∷ ws) = record { head = word at (b ∷ w.bytes); tail = ws; same = refl }

pub first_piece : (c at : ℕ) (bs : List ℕ) → First (split c at bs)
first_piece c at [] = record { head = word at []; tail = []; same = refl }
first_piece c at (b ∷ bs) = go (b == c)
  where
    go : (t : Bool) → First (if t then word at [] ∷ split c (at + 1) bs else longer at b (split c (at + 1) bs))
    go true = record { head = word at []; tail = split c (at + 1) bs; same = refl }
    go false = first_longer at b (split c (at + 1) bs)

-- three pieces are not two
pub no_third : (f g : ℕ → Bool) (c : ℕ) (v w x : Word) (ws : List Word) → ws ≡ v ∷ w ∷ pieces c x → None ≡ two_of f g ws
no_third f g c v w x ws e = let t : First (pieces c x) = first_piece c x.at x.bytes in sym (ap (two_of f g) (e ∙ ap (λ xs. v ∷ w ∷ xs) t.same))

pub some_more : (a : Argument) (o : Option Argument) (as' : Option (List Argument)) → o ≡ Some a → is_some (more o as') ≡ is_some as'
some_more a o None e = ap (λ x. is_some (more x None)) e
some_more a o (Some as') e = ap (λ x. is_some (more x (Some as'))) e

-- a line of an instance, by its words
pub said_instance : (n p : Word) (ws : List Word) → made_of is_name_byte n ≡ true → made_of is_name_byte p ≡ true → is_some (arguments ws) ≡ true
    → (z : Line) × (instance_with n p (arguments ws) ≡ Some z) × (instance_line (n ∷ p ∷ ws) ≡ Some z)
said_instance n p ws a b h = go (arguments ws) refl h
  where
    go : (o : Option (List Argument)) → arguments ws ≡ o → is_some o ≡ true → (z : Line) × (instance_with n p (arguments ws) ≡ Some z) × (instance_line (n ∷ p ∷ ws) ≡ Some z)
    go None e s = absurd (cc)
    go (Some as') e s = (an_instance n p as', ap (instance_with n p) e, ap (λ t. if t && made_of is_name_byte p then instance_with n p (arguments ws) else None) a ∙ ap (λ t. if t then instance_with n p (arguments ws) else None) b ∙ ap (instance_with n p) e)
