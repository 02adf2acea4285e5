-- One more alias in a map is one more in the list.
use Rattle.std.proofs.Common.{◌≡◌, ℕ, Bool, true, false, ◌&&◌, cond, nat_eq, List, [], ◌∷◌, ◌++◌, Some, None, refl, sym, ◌∙◌, ap}
use Rattle.std.proofs.lemmas.Bool.{eqb-true}
use Rattle.std.proofs.lemmas.Cmp.{nat_eq_equiv}
use Rattle.std.specs.Ordering.{is_eq, nat_cmp, ordering_then}
use Rattle.comp_model.specs.declared.Space.{Space}
use Rattle.comp_model.specs.Spaces.{code_of_space, same_space}
use Rattle.comp_scopes.specs.Names.{Denoted}
use Rattle.comp_scopes.specs.Outward.{same_item}
use Rattle.comp_scopes.proofs.Among.{and-both}
use Rattle.comp_tables.specs.Tables.{Aliased, alias_of}
use Rattle.name_ends.proofs.Keys.{then-equal, numbers-equal}
use Rattle.open_scopes.specs.Aliases.{AliasKey, alias_cmp, item_key, index_under}

-- keys compare as equal where their items are one
same-order : (a b c d : Bool) → ((a && b) && (c && d)) ≡ (d && (a && (b && c)))
same-order true true true true = refl
same-order true true true false = refl
same-order true true false true = refl
same-order true true false false = refl
same-order true false c true = refl
same-order true false c false = refl
same-order false b c true = refl
same-order false b c false = refl

pub one-item : (r s : Space) (e d : Denoted) → is_eq (alias_cmp (item_key r e) (item_key s d)) ≡ (same_space s r && same_item d e)
one-item r s e d =
    then-equal (ordering_then (nat_cmp e.depth d.depth) (nat_cmp e.item.definition d.item.definition)) (ordering_then (nat_cmp e.item.part d.item.part) (nat_cmp (code_of_space r) (code_of_space s)))
    (nat_eq e.depth d.depth && nat_eq e.item.definition d.item.definition) (nat_eq e.item.part d.item.part && nat_eq (code_of_space r) (code_of_space s))
    (then-equal (nat_cmp e.depth d.depth) (nat_cmp e.item.definition d.item.definition) _ _ (numbers-equal e.depth d.depth) (numbers-equal e.item.definition d.item.definition))
    (then-equal (nat_cmp e.item.part d.item.part) (nat_cmp (code_of_space r) (code_of_space s)) _ _ (numbers-equal e.item.part d.item.part) (numbers-equal (code_of_space r) (code_of_space s)))
    ∙ same-order (nat_eq e.depth d.depth) (nat_eq e.item.definition d.item.definition) (nat_eq e.item.part d.item.part) (nat_eq (code_of_space r) (code_of_space s))
    ∙ rw (nat_eq_equiv.symm e.depth d.depth, nat_eq_equiv.symm e.item.definition d.item.definition, nat_eq_equiv.symm e.item.part d.item.part, nat_eq_equiv.symm (code_of_space r) (code_of_space s)) refl

-- the alias behind the others is found where none of them is of the item
alias-behind : (s r : Space) (d e : Denoted) (i : ℕ) (xs : List Aliased) → (alias_of r e xs ≡ None) → alias_of s d (xs ++ record { space = r; denoted = e; index = i } ∷ []) ≡ cond (same_space s r && same_item d e) (Some i) (alias_of s d xs)
alias-behind s r d e i [] h = refl
alias-behind s r d e i (x ∷ xs) h = go (same_space s x.space && same_item d x.denoted) (same_space s r && same_item d e) refl refl (alias-behind s r d e i xs (later h))
  where
    later : alias_of r e (x ∷ xs) ≡ None → alias_of r e xs ≡ None
    later h = tail (same_space r x.space && same_item e x.denoted) h
      where
        tail : (b : Bool) → cond b (Some x.index) (alias_of r e xs) ≡ None → alias_of r e xs ≡ None
        tail true q = absurd (cc)
        tail false q = q

    -- what is of both items is found for the second too
    both : (same_space s x.space && same_item d x.denoted) ≡ true → (same_space s r && same_item d e) ≡ true → (same_space r x.space && same_item e x.denoted) ≡ true
    both a b =
        let p = and-both (same_space s x.space) (same_item d x.denoted) a in
        let q = and-both (same_space s r) (same_item d e) b in
        let p1 = and-both (nat_eq d.depth x.denoted.depth) (nat_eq d.item.definition x.denoted.item.definition && nat_eq d.item.part x.denoted.item.part) p.1 in
        let p2 = and-both (nat_eq d.item.definition x.denoted.item.definition) (nat_eq d.item.part x.denoted.item.part) p1.1 in
        let q1 = and-both (nat_eq d.depth e.depth) (nat_eq d.item.definition e.item.definition && nat_eq d.item.part e.item.part) q.1 in
        let q2 = and-both (nat_eq d.item.definition e.item.definition) (nat_eq d.item.part e.item.part) q1.1 in
        rw (
          sym (eqb-true (code_of_space s) (code_of_space r) q.0),
          sym (eqb-true d.depth e.depth q1.0),
          sym (eqb-true d.item.definition e.item.definition q2.0),
          sym (eqb-true d.item.part e.item.part q2.1),
          p.0,
          p1.0,
          p2.0,
          p2.1,
        ) refl

    go : (a b : Bool) → (same_space s x.space && same_item d x.denoted) ≡ a → (same_space s r && same_item d e) ≡ b
        → alias_of s d (xs ++ record { space = r; denoted = e; index = i } ∷ []) ≡ cond b (Some i) (alias_of s d xs)
        → cond a (Some x.index) (alias_of s d (xs ++ record { space = r; denoted = e; index = i } ∷ [])) ≡ cond b (Some i) (cond a (Some x.index) (alias_of s d xs))
    go true true p q rest = absurd (none (same_space r x.space && same_item e x.denoted) (both p q) h)
      where
        none : (b : Bool) → b ≡ true → cond b (Some x.index) (alias_of r e xs) ≡ None → ⊥
        none true p q = cc
        none false p q = cc
    go true false p q rest = refl
    go false b p q rest = rest

-- what is looked up behind an insertion
pub noted : (old new : List (AliasKey × ℕ)) (xs : List Aliased) (k : AliasKey) (r : Space) (e : Denoted) (i : ℕ) → k ≡ item_key r e → ((q : AliasKey) → index_under new q ≡ cond (is_eq (alias_cmp k q)) (Some i) (index_under old q))
    → ((s : Space) (d : Denoted) → index_under old (item_key s d) ≡ alias_of s d xs) → alias_of r e xs ≡ None → (s : Space) (d : Denoted) → index_under new (item_key s d) ≡ alias_of s d (xs ++ record { space = r; denoted = e; index = i } ∷ [])
noted old new xs k r e i z put shown free s d =
    put (item_key s d) ∙ ap (λ q. cond (is_eq (alias_cmp q (item_key s d))) (Some i) (index_under old (item_key s d))) z
    ∙ ap (λ b. cond b (Some i) (index_under old (item_key s d))) (one-item r s e d) ∙ ap (λ o. cond (same_space s r && same_item d e) (Some i) o) (shown s d) ∙ sym (alias-behind s r d e i xs free)
