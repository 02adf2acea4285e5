-- Small laws of Booleans and lists.
use Rattle.std.proofs.Common.{◌≡◌, Bool, true, false, ◌&&◌, ◌||◌, not, List, [], ◌∷◌, refl, sym, ◌∙◌, subst, inl, inr}
use Rattle.comp_model.specs.declared.row.Row.{Row}
use Rattle.comp_model.specs.RowNumbers.{is_row, same_row}
use Rattle.comp_model.proofs.Tests.{same_row-true}
use Rattle.text_rules.specs.LeafTests.{are_rows}
use Rattle.wast_grammar.proofs.Moves.{and_true, or_true}

pub first_true : (a b : Bool) → a ≡ true → (a || b) ≡ true
first_true true b h = refl
first_true false b h = absurd (cc)

pub second_true : (a b : Bool) → b ≡ true → (a || b) ≡ true
second_true true b h = refl
second_true false b h = h

pub make_true : (a b : Bool) → a ≡ true → b ≡ true → (a && b) ≡ true
make_true true b g h = h
make_true false b g h = absurd (cc)

pub is_implied : (a b : Bool) → (not a || b) ≡ true → a ≡ true → b ≡ true
is_implied true b h g = h
is_implied false b h g = absurd (cc)

pub not_implied : (a b : Bool) → (not a || b) ≡ true → b ≡ false → a ≡ false
not_implied true true h g = g
not_implied true false h g = sym h
not_implied false b h g = refl

pub not_true : (a : Bool) → not a ≡ true → a ≡ false
not_true true h = sym h
not_true false h = refl

pub no_both : {A : Type 0} (a : Bool) → a ≡ true → a ≡ false → A
no_both a h g = let q : true ≡ false = sym h ∙ g in absurd (cc)

pub row_among : (t : Row) (ts us : List Row) → are_rows ts us ≡ true → is_row t ts ≡ true → is_row t us ≡ true
row_among t [] us h i = absurd (cc)
row_among t (u ∷ ts) us h i =
    let a = and_true (is_row u us) _ h in
    elim (or_true (same_row t u) _ i) [
      | inl e ↦ subst (λ x. is_row x us ≡ true) (sym (same_row-true t u e)) a.0
      | inr e ↦ row_among t ts us a.1 e
    ]
