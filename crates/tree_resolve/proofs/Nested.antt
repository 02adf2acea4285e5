-- How much stands in a scope: the measure of what goes into the scopes in it.
use Rattle.std.proofs.Common.{◌≡◌, ◌<◌, ◌≤◌, ℕ, zero, suc, ◌+◌, ap, sym, List, [], ◌∷◌, length, get_or, Bor, arith}
use Rattle.comp_model.specs.Model as m
use Rattle.comp_model.specs.Model.{Leaf, scope, Leaves, no_leaf, ◌▸◌, row, define, Defs, no_def, one_def}
use Rattle.comp_tree.specs.declared.tree.Def.{Def}
use Rattle.comp_tree.specs.declared.tree.Leaf as l
use Rattle.comp_tree.specs.declared.tree.Scope.{Scope, out-Scope}
use Rattle.comp_tree.specs.Lists.{listed, defs_listed}
use Rattle.comp_tree.specs.Model.{scope_of}
use Rattle.comp_tree.proofs.Leaves.{scope_fields}

-- three for each definition, also those in the scopes in it
abbrev mutual
  pub nested : Defs → ℕ
  nested no_def = 0
  nested (one_def (define names (row t ls)) ds) = 3 + nested_leaves ls + nested ds

  pub nested_leaves : Leaves → ℕ
  nested_leaves no_leaf = 0
  nested_leaves (x ▸ ls) = nested_leaf x + nested_leaves ls

  pub nested_leaf : Leaf → ℕ
  nested_leaf (scope (m.scope_of k i label ds)) = nested ds
  nested_leaf _ = 0

abbrev pub scope_size : Scope → ℕ
scope_size x = nested (m.defs_of (scope_of [] x))

abbrev pub defs_size : List Def → ℕ
defs_size ds = nested (defs_listed [] ds)

abbrev pub def_size : Def → ℕ
def_size d = 3 + nested_leaves (listed [] d.node.leaves.now)

pub scope-by-fields : (x : Scope) → defs_size (out-Scope x).defs.now ≡ scope_size x
scope-by-fields x = ap (λ z. nested (m.defs_of z)) (sym (scope_fields [] x))

pub def-below : (ds : List Def) (n : ℕ) (d : Def) → n < length ds → d ≡ get_or ds n d → def_size d ≤ defs_size ds
def-below [] n d h a = absurd (omega (arith, h))
def-below (x ∷ ds) zero d h a = let e : def_size d ≡ def_size x = ap def_size a in omega (arith, e)
def-below (x ∷ ds) (suc n) d h a = let e : def_size d ≤ defs_size ds = def-below ds n d (omega (arith, h)) a in omega (arith, e)

held-size : (x : m.Scope) → nested_leaves (scope x ▸ no_leaf) ≡ nested (m.defs_of x) + 0
held-size (m.scope_of k i label ds) = omega arith

pub scope-below : (d : Def) (inner : Bor Scope) → d.node.leaves.now ≡ l.Scope inner ∷ [] → scope_size inner.now + 2 < def_size d
scope-below d inner h =
    let a : nested_leaves (listed [] d.node.leaves.now) ≡ nested_leaves (scope (scope_of [] inner.now) ▸ no_leaf) = ap (λ z. nested_leaves (listed [] z)) h in
    let b : nested_leaves (scope (scope_of [] inner.now) ▸ no_leaf) ≡ scope_size inner.now + 0 = held-size (scope_of [] inner.now) in
    omega (arith, a, b)
