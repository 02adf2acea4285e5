-- Reading items as a loop does, as long as the format's test holds: items that are kept, and items that aren't.
use Rattle.std.proofs.Common.{◌≡◌, List, [], ◌∷◌, ◌++◌, true, false, refl, sym, ap, ◌∙◌}
use Rattle.wast_grammar.specs.Grammar.{Grammar, many_by, made, made_of, dropped, Test, holds, Value, none, both}
use Rattle.wast_grammar.specs.Stand.{Stand}
use Rattle.wast_grammar.specs.Read.{Outcome, reads, fault, deep, andthen, read}
use Rattle.wast_grammar.specs.Shape.{sound}
use Rattle.wast_parser.specs.View.{many_view}
use Rattle.wast_grammar.proofs.Fuel.{again_is}
use Rattle.wast_parser.proofs.Many.{onto, with_front}

-- one item, and what follows it
first_of_more : (q : Test) (a : Grammar) (x : Value) (s r : Stand) → sound (many_by q a) ≡ true → holds q s ≡ true → read a s ≡ reads x r
    → read (many_by q a) s ≡ andthen (read (many_by q a) r) (λ v p. reads (both x v) p)
first_of_more q a x s r z t h = rw (t, h) (ap (λ (o : Outcome). andthen o (λ v p. reads (both x v) p)) (again_is (many_by q a) r z))

module _ {A : Type 0} (f : A → Value) where
  onto_push : (xs : List A) (x : A) (v : Value) → onto f (xs ++ x ∷ []) v ≡ onto f xs (both (f x) v)
  onto_push [] x v = refl
  onto_push (y ∷ xs) x v = ap (both (f y)) (onto_push xs x v)

  onto_none : (xs : List A) → onto f xs none ≡ many_view f xs
  onto_none [] = refl
  onto_none (y ∷ xs) = ap (both (f y)) (onto_none xs)

  pushed : (xs : List A) (x : A) (o : Outcome) → with_front f xs (andthen o (λ v q. reads (both (f x) v) q)) ≡ with_front f (xs ++ x ∷ []) o
  pushed xs x (reads v s) = ap (λ (w : Value). reads w s) (sym (onto_push xs x v))
  pushed xs x (fault s) = refl
  pushed xs x (deep s) = refl

  pub goes_on : (q : Test) (a : Grammar) (xs : List A) (x : A) (s r : Stand) (total : Outcome) → sound (many_by q a) ≡ true → holds q s ≡ true → read a s ≡ reads (f x) r
      → with_front f xs (read (many_by q a) s) ≡ total → with_front f (xs ++ x ∷ []) (read (many_by q a) r) ≡ total
  goes_on q a xs x s r total z t h so_far = sym (pushed xs x (read (many_by q a) r)) ∙ (ap (with_front f xs) (sym (first_of_more q a (f x) s r z t h)) ∙ so_far)

  pub is_done : (q : Test) (a : Grammar) (xs : List A) (s : Stand) (total : Outcome) → holds q s ≡ false → with_front f xs (read (many_by q a) s) ≡ total → total ≡ reads (many_view f xs) s
  is_done q a xs s total t so_far = let one : with_front f xs (read (many_by q a) s) ≡ reads (many_view f xs) s = rw t (ap (λ (w : Value). reads w s) (onto_none xs)) in sym so_far ∙ one

-- items that aren't kept
unkept : (x : Value) (o : Outcome) → andthen (andthen o (λ v p. reads (both x v) p)) (λ u t. reads (made_of dropped u) t) ≡ andthen o (λ u t. reads (made_of dropped u) t)
unkept x (reads v s) = refl
unkept x (fault s) = refl
unkept x (deep s) = refl

pub goes_past : (q : Test) (a : Grammar) (x : Value) (s r : Stand) (total : Outcome) → sound (many_by q a) ≡ true → holds q s ≡ true → read a s ≡ reads x r
    → read (made dropped (many_by q a)) s ≡ total → read (made dropped (many_by q a)) r ≡ total
goes_past q a x s r total z t h so_far =
    sym (unkept x (read (many_by q a) r)) ∙ (ap (λ (o : Outcome). andthen o (λ u t. reads (made_of dropped u) t)) (sym (first_of_more q a x s r z t h)) ∙ so_far)

pub is_past : (q : Test) (a : Grammar) (s : Stand) → holds q s ≡ false → read (made dropped (many_by q a)) s ≡ reads none s
is_past q a s t = rw t refl
