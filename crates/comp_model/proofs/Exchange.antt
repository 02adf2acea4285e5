-- The exchange of two names keeps which ids are equal.
use Rattle.std.proofs.Common.{◌≡◌, Bool, true, false, cond, bytes_eq, refl, sym, ◌∙◌, ap}
use Rattle.std.proofs.lemmas.Slice.Eq.{bytes_eq-Decides}
use Rattle.comp_model.specs.Core.{Text, Id, same_id}
use Rattle.comp_model.specs.Renaming.{exchanged_name, exchanged_id}

eq-refl : (n : Text) → bytes_eq n n ≡ true
eq-refl n = (bytes_eq-Decides n n).1 refl

eq-true : (n m : Text) → bytes_eq n m ≡ true → n ≡ m
eq-true n m = (bytes_eq-Decides n m).0

-- the exchange of a itself, and of b
exchange-first : (a b : Text) → exchanged_name a b a ≡ b
exchange-first a b = rw (eq-refl a) refl

exchange-second : (a b : Text) → exchanged_name a b b ≡ a
exchange-second a b = go (bytes_eq b a) refl
  where
    go : (t : Bool) → bytes_eq b a ≡ t → cond t b (cond (bytes_eq b b) a b) ≡ a
    go true p = eq-true b a p
    go false p = rw (eq-refl b) refl

exchange-twice : (a b n : Text) → exchanged_name a b (exchanged_name a b n) ≡ n
exchange-twice a b n = go (bytes_eq n a) (bytes_eq n b) refl refl
  where
    go : (t u : Bool) → bytes_eq n a ≡ t → bytes_eq n b ≡ u → exchanged_name a b (cond t b (cond u a n)) ≡ n
    go true u p q = exchange-second a b ∙ sym (eq-true n a p)
    go false true p q = exchange-first a b ∙ sym (eq-true n b q)
    go false false p q = rw (p, q) refl

same_test : (x y : Bool) → (x ≡ true → y ≡ true) → (y ≡ true → x ≡ true) → x ≡ y
same_test true y f g = sym (f refl)
same_test false true f g = g refl
same_test false false f g = refl

name-same : (a b n m : Text) → bytes_eq (exchanged_name a b n) (exchanged_name a b m) ≡ bytes_eq n m
name-same a b n m = same_test _ _
    (λ h. (bytes_eq-Decides n m).1 (sym (exchange-twice a b n) ∙ ap (exchanged_name a b) (eq-true _ _ h) ∙ exchange-twice a b m))
    (λ h. (bytes_eq-Decides (exchanged_name a b n) (exchanged_name a b m)).1 (ap (exchanged_name a b) (eq-true _ _ h)))

pub exchange-same : (a b : Text) (x y : Id) → same_id (exchanged_id a b x) (exchanged_id a b y) ≡ same_id x y
exchange-same a b x y = rw (name-same a b x.name y.name) refl
