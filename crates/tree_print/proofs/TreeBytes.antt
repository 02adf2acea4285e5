-- The texts of a tree are of bytes: turns of the walk that reads them.
use Rattle.std.proofs.Common.{◌≡◌, ℕ, suc, ◌+◌, ◌<◌, ◌≤◌, ◌^◌, Bool, true, ◌&&◌, nat_lt, List, [], ◌∷◌, length, drop, get_or, refl, sym, ap, ◌∙◌, arith, Bor}
use Rattle.std.specs.List.{list_all}
use Rattle.std.proofs.lemmas.Bool.{lt-ltb}
use Rattle.std.proofs.lemmas.List.{drop_more, drop_all}
use Rattle.comp_wire.proofs.FitsTest.{both}
use Rattle.comp_model.specs.Model as m
use Rattle.wire_tree.specs.declared.tree.Leaf.{Leaf}
use Rattle.wire_tree.specs.declared.tree.Leaf as l
use Rattle.wire_tree.specs.declared.tree.Scope.{Scope, out-Scope}
use Rattle.wire_tree.specs.Lists.{defs_listed}
use Rattle.wire_tree.specs.Model.{leaf_of, scope_of}
use Rattle.wire_tree.proofs.Leaves.{scope_fields}
use Rattle.print_table.specs.HasText.{leaf_has_bytes, definitions_have_bytes, has_bytes}

pub are_bytes : (xs : List ℕ) → ((i : ℕ) → get_or xs i 0 < 2 ^ 8) → list_all (λ b. nat_lt b 256) xs ≡ true
are_bytes [] h = refl
are_bytes (x ∷ xs) h = both (nat_lt x 256) (list_all (λ b. nat_lt b 256) xs) (lt-ltb x 256 (omega (arith, h 0))) (are_bytes xs (λ i. h (suc i)))

module _ {X : Type 0} (all : List X → Bool) (one : X → Bool) (none : all [] ≡ true) (more : (x : X) (xs : List X) → all (x ∷ xs) ≡ (one x && all xs)) where
  -- where those that are left are, all are
  pub turn : (xs : List X) (i : ℕ) (d : X) (whole : Bool) → i < length xs → one (get_or xs i d) ≡ true → (all (drop i xs) ≡ true → whole ≡ true) → all (drop (i + 1) xs) ≡ true → whole ≡ true
  turn xs i d whole h e s r =
      let x = get_or xs i d in
      let rest = drop (i + 1) xs in
      s (ap all (drop_more xs i d h) ∙ more x rest ∙ both (one x) (all rest) e r)

  pub turn_item : (xs : List X) (i : ℕ) (x : X) (whole : Bool) → i < length xs → x ≡ get_or xs i x → one x ≡ true → (all (drop i xs) ≡ true → whole ≡ true) → all (drop (i + 1) xs) ≡ true → whole ≡ true
  turn_item xs i x whole h is e = turn xs i x whole h (sym (ap one is) ∙ e)

  pub ends : (xs : List X) (i : ℕ) (whole : Bool) → length xs ≤ i → (all (drop i xs) ≡ true → whole ≡ true) → whole ≡ true
  ends xs i whole h s = s (ap all (drop_all i xs h) ∙ none)

pub scope_bytes : (x : Leaf) (s : Bor Scope) → x ≡ l.Scope s → leaf_has_bytes (leaf_of x) ≡ definitions_have_bytes (defs_listed (out-Scope s.now).defs.now)
scope_bytes x s e = ap (λ y. leaf_has_bytes (leaf_of y)) e ∙ ap (λ y. leaf_has_bytes (m.scope y)) (scope_fields s.now)

pub whole_bytes : (x : Scope) → has_bytes (scope_of x) ≡ definitions_have_bytes (defs_listed (out-Scope x).defs.now)
whole_bytes x = ap has_bytes (scope_fields x)
