-- Turns of the walk that looks at depths.
use Rattle.std.proofs.Common.{◌≡◌, ℕ, zero, suc, ◌+◌, ◌<◌, ◌≤◌, Bool, true, false, ◌||◌, cond, nat_lt, List, [], ◌∷◌, ◌++◌, length, drop, get_or, refl, sym, ◌∙◌, ap, arith}
use Rattle.std.proofs.lemmas.List.{drop_more}
use Rattle.std.proofs.lemmas.Bool.{lt-ltb, le-ltb}
use Rattle.comp_model.specs.declared.row.Row.{Row}
use Rattle.comp_model.specs.Model as m
use Rattle.comp_model.specs.Model.{row, Names, define, Leaves, Defs}
use Rattle.wire_tree.specs.declared.tree.Leaf.{Leaf}
use Rattle.wire_tree.specs.declared.tree.Node.{Node}
use Rattle.wire_tree.specs.declared.tree.Scope.{Scope, out-Scope}
use Rattle.wire_tree.specs.Lists.{listed, defs_listed}
use Rattle.wire_tree.specs.Model.{leaf_of, scope_of}
use Rattle.wire_tree.proofs.Leaves.{scope_fields}
use Rattle.print_table.specs.TextOf.{unnamed_leaf, unnamed_leaves, unnamed_defs, unless_names, is_name_section}
use Rattle.print_table.specs.Depths.{deeper, own_depth, leaf_depths, leaves_depths, depths, some_deep, is_deep, definition_deep}

or_assoc : (a b c : Bool) → ((a || b) || c) ≡ (a || (b || c))
or_assoc true b c = refl
or_assoc false b c = refl

deep_both : (xs ys : List ℕ) → some_deep (xs ++ ys) ≡ (some_deep xs || some_deep ys)
deep_both [] ys = refl
deep_both (x ∷ xs) ys = ap (λ b. nat_lt 100 x || b) (deep_both xs ys) ∙ sym (or_assoc (nat_lt 100 x) (some_deep xs) (some_deep ys))

module _ {X : Type 0} (all : List X → Bool) (one : X → Bool) (more : (x : X) (xs : List X) → all (x ∷ xs) ≡ (one x || all xs)) where
  pub goes_on : (xs : List X) (i : ℕ) (d : X) (v : Bool) → i < length xs → false ≡ one (get_or xs i d) → all (drop i xs) ≡ v → all (drop (i + 1) xs) ≡ v
  goes_on xs i d v h e s = ap (λ b. b || all (drop (i + 1) xs)) e ∙ sym (more (get_or xs i d) (drop (i + 1) xs)) ∙ ap all (sym (drop_more xs i d h)) ∙ s

  pub stops : (xs : List X) (i : ℕ) (d : X) (v : Bool) → i < length xs → true ≡ one (get_or xs i d) → all (drop i xs) ≡ v → true ≡ v
  stops xs i d v h e s = ap (λ b. b || all (drop (i + 1) xs)) e ∙ sym (more (get_or xs i d) (drop (i + 1) xs)) ∙ ap all (sym (drop_more xs i d h)) ∙ s

  pub item_goes_on : (xs : List X) (i : ℕ) (x : X) (v : Bool) → i < length xs → x ≡ get_or xs i x → false ≡ one x → all (drop i xs) ≡ v → all (drop (i + 1) xs) ≡ v
  item_goes_on xs i x v h is e s = goes_on xs i x v h (e ∙ ap one is) s

  pub item_stops : (xs : List X) (i : ℕ) (x : X) (v : Bool) → i < length xs → x ≡ get_or xs i x → true ≡ one x → all (drop i xs) ≡ v → true ≡ v
  item_stops xs i x v h is e s = stops xs i x v h (e ∙ ap one is) s

pub leaves_or : (d : ℕ) (x : Leaf) (xs : List Leaf)
    → some_deep (leaves_depths d (unnamed_leaves (listed (x ∷ xs)))) ≡ (some_deep (leaf_depths d (unnamed_leaf (leaf_of x))) || some_deep (leaves_depths d (unnamed_leaves (listed xs))))
leaves_or d x xs = deep_both (leaf_depths d (unnamed_leaf (leaf_of x))) (leaves_depths d (unnamed_leaves (listed xs)))

def_or : (d : ℕ) (b : Bool) (u : Row) (ls : Leaves) (ds : Defs)
    → some_deep (depths d (unless_names b (define m.no_names (row u ls)) ds)) ≡ (cond b false (some_deep (own_depth d (deeper u) ++ leaves_depths (d + deeper u) ls)) || some_deep (depths d ds))
def_or d true u ls ds = refl
def_or d false u ls ds =
    let own = own_depth d (deeper u) in
    let inner = leaves_depths (d + deeper u) ls in
    deep_both own (inner ++ depths d ds) ∙ ap (λ b. some_deep own || b) (deep_both inner (depths d ds))
    ∙ sym (or_assoc (some_deep own) (some_deep inner) (some_deep (depths d ds))) ∙ ap (λ b. b || some_deep (depths d ds)) (sym (deep_both own inner))

pub defs_or : (d : ℕ) (n : Node) (ns : List Node)
    → some_deep (depths d (unnamed_defs (defs_listed (n ∷ ns)))) ≡ (definition_deep d n.row (listed n.leaves.now) || some_deep (depths d (unnamed_defs (defs_listed ns))))
defs_or d n ns = def_or d (is_name_section n.row (listed n.leaves.now)) n.row (unnamed_leaves (listed n.leaves.now)) (unnamed_defs (defs_listed ns))

-- a definition, by the test of its own part
pub own_too_deep : (d k : ℕ) (ns : List ℕ) → d < 101 → 100 < d + k → true ≡ some_deep (own_depth d k ++ ns)
own_too_deep d zero ns h e = absurd (omega (arith, h, e))
own_too_deep d (suc k) ns h e = sym (ap (λ b. b || some_deep ns) (lt-ltb 100 (d + suc k) e))

pub own_shallow : (d k : ℕ) (ns : List ℕ) → d + k ≤ 100 → some_deep ns ≡ some_deep (own_depth d k ++ ns)
own_shallow d zero ns e = refl
own_shallow d (suc k) ns e = sym (ap (λ b. b || some_deep ns) (le-ltb 100 (d + suc k) e))

pub printed_def : (d : ℕ) (u : Row) (ls : Leaves) → false ≡ is_name_section u ls → some_deep (own_depth d (deeper u) ++ leaves_depths (d + deeper u) (unnamed_leaves ls)) ≡ definition_deep d u ls
printed_def d u ls e = ap (λ (b : Bool). cond b false (some_deep (own_depth d (deeper u) ++ leaves_depths (d + deeper u) (unnamed_leaves ls)))) e

pub scope_deep : (d : ℕ) (x : Scope) → some_deep (leaf_depths d (unnamed_leaf (m.scope (scope_of x)))) ≡ some_deep (depths d (unnamed_defs (defs_listed (out-Scope x).defs.now)))
scope_deep d x = ap (λ s. some_deep (leaf_depths d (unnamed_leaf (m.scope s)))) (scope_fields x)

pub whole_deep : (x : Scope) → is_deep (scope_of x) ≡ some_deep (depths 1 (unnamed_defs (defs_listed (out-Scope x).defs.now)))
whole_deep x = ap is_deep (scope_fields x)
