-- Behind a walk over leaves the types that stand inline in them have been passed, and so have those in the types that were noted.
use Rattle.std.proofs.Common.{◌≡◌, ℕ, ◌+◌, Bool, true, false, ◌&&◌, cond, List, [], ◌∷◌, ◌++◌, Option, Some, None, IsSome, refl, sym, ◌∙◌, ap, subst, append_assoc, append-nil}
use Rattle.comp_model.specs.declared.Space.{Space}
use Rattle.comp_model.specs.declared.row.Row.TheVariants as rows
use Rattle.comp_model.specs.declared.row.Row.{Row}
use Rattle.comp_model.specs.RowNumbers.{same_row}
use Rattle.comp_model.specs.Core.{Id}
use Rattle.comp_model.specs.Model.{Leaf, ref, present, node, nodes, scope, index, numeral, name, path, inline, bundle, Leaves, no_leaf, ◌▸◌, row, Nodes, no_node, one_node, Scope, scope_of, kind_of, defs_of}
use Rattle.comp_model.specs.Origins.{inline_type}
use Rattle.comp_model.proofs.Tests.{same_row-true}
use Rattle.comp_scopes.specs.References.{references, references_leaf}
use Rattle.comp_scopes.specs.Signatures.{is_module_type, latest_equal, reused_signature}
use Rattle.comp_scopes.specs.Reused.{is_shared, same_leaves, Typed}
use Rattle.type_keys.specs.Keys.{first_equal, stands_for, LeavesPassed, LeafPassed, NodesPassed, AllPassed}
use Rattle.type_keys.proofs.Search.{passed-stays, leaf-passed, nodes-passed, last-found}
use Rattle.tree_expand.specs.Passed.{Noted, types_in, ids_in}
use Rattle.tree_expand.specs.Numbering.{Numbered, id_numbered, number_found, number_inline, number_leaf, number_leaves, number_nodes}
use Rattle.tree_expand.proofs.KeyLists.{not_true, types_app, passed_app, all_stay}

pub some_none : {A : Type 0} {B : Type 0} (x : A) → Some x ≡ None → B
some_none x e = absurd (cc)

-- a signature is no type that is shared
pub shared_apart : (c : Scope) (k : ℕ) (t : Row) (ls : Leaves) → is_shared t ≡ true → reused_signature (c ∷ []) k t ls ≡ None
shared_apart c k t ls h = go (is_module_type (kind_of c)) (same_row t rows.CoreFunctionType) refl
  where
    go : (a b : Bool) → same_row t rows.CoreFunctionType ≡ b → cond (a && b) (latest_equal k 0 (defs_of c) ls None) None ≡ None
    go true true e = not_true (subst (λ v. is_shared v ≡ true) (same_row-true t rows.CoreFunctionType e) h)
    go true false e = refl
    go false b e = refl

pub shared_stands : (xs : List Typed) (t : Row) (ls : Leaves) → is_shared t ≡ true → stands_for xs t ls ≡ first_equal t ls xs
shared_stands xs t ls h = ap (λ b. cond b (first_equal t ls xs) None) h

pub apart_stands : (xs : List Typed) (t : Row) (ls : Leaves) → is_shared t ≡ false → stands_for xs t ls ≡ None
apart_stands xs t ls h = ap (λ b. cond b (first_equal t ls xs) None) h

-- ---- of leaves, where more is noted behind them

pub types_more : (E x y : List Noted) → types_in (E ++ x) ++ types_in y ≡ types_in (E ++ (x ++ y))
types_more E x y = sym (types_app (E ++ x) y) ∙ ap types_in (append_assoc E x y)

pub leaf_later : (l : Leaf) (E x y : List Noted) → LeafPassed (types_in (E ++ x)) l → LeafPassed (types_in (E ++ (x ++ y))) l
leaf_later l E x y h = subst (λ v. LeafPassed v l) (types_more E x y) (leaf-passed (types_in (E ++ x)) (types_in y) l h)

pub leaves_later : (ls : Leaves) (E x y : List Noted) → LeavesPassed (types_in (E ++ x)) ls → LeavesPassed (types_in (E ++ (x ++ y))) ls
leaves_later ls E x y h = subst (λ v. LeavesPassed v ls) (types_more E x y) (passed-stays (types_in (E ++ x)) (types_in y) ls h)

nodes_later : (ns : Nodes) (E x y : List Noted) → NodesPassed (types_in (E ++ x)) ns → NodesPassed (types_in (E ++ (x ++ y))) ns
nodes_later ns E x y h = subst (λ v. NodesPassed v ns) (types_more E x y) (nodes-passed (types_in (E ++ x)) (types_in y) ns h)

-- what stands inline in the types that were passed
abbrev pub AllIn : List Noted → Type 0
AllIn E = AllPassed (types_in E) (types_in E)

-- one more behind those that were passed
pub one_in : (E : List Noted) (y : Noted) → AllIn E → LeavesPassed (types_in E) y.typed.leaves → AllIn (E ++ y ∷ [])
one_in E y h p = subst (λ v. AllPassed v v) (sym (types_app E (y ∷ []))) (passed_app (types_in E ++ y.typed ∷ []) (types_in E) (y.typed ∷ []) (all_stay (types_in E) (y.typed ∷ []) (types_in E) h) (passed-stays (types_in E) (y.typed ∷ []) y.typed.leaves p, tt))

module _ (ids : List (Option Id)) (c : Scope) (k : ℕ) where
  inline-passed : (E : List Noted) (u m : ℕ) (s : Space) (t : Row) (ls : Leaves) (a : Numbered Leaves) (q : Option ℕ) → (is_shared t ≡ true → q ≡ None) → is_shared t ≡ true → (same_row t t && same_leaves ls ls) ≡ true
      → IsSome (first_equal t ls (types_in (E ++ (number_inline ids c k E u m s t ls a q).noted)))
  inline-passed E u m s t ls a (Some j) n f e = some_none j (n f)
  inline-passed E u m s t ls a None n f e = go (stands_for (types_in (E ++ a.noted)) t ls) refl
    where
      X : List Typed
      X = types_in (E ++ a.noted)

      own : (b : Bool) → b ≡ true → IsSome (first_equal t ls (types_in (E ++ (a.noted ++ cond b (record { typed = record { origin = inline_type k u; tag = t; leaves = ls }; id = Some (id_numbered (m + a.made + 1)) } ∷ []) []))))
      own true g = subst (λ v. IsSome (first_equal t ls v)) (types_more E a.noted (record { typed = record { origin = inline_type k u; tag = t; leaves = ls }; id = Some (id_numbered (m + a.made + 1)) } ∷ [])) (last-found t ls (inline_type k u) X e)
      own false g = not_true g

      go : (o : Option ℕ) → stands_for (types_in (E ++ a.noted)) t ls ≡ o → IsSome (first_equal t ls (types_in (E ++ (number_found c k u m s t ls (ids_in (E ++ a.noted)) a o).noted)))
      go (Some n) g = subst IsSome (sym (sym (shared_stands X t ls f) ∙ g)) refl
      go None g = own (is_shared t) f

  mutual
    pub leaves_passed : (E : List Noted) (u m : ℕ) (ls : Leaves) → LeavesPassed (types_in (E ++ (number_leaves ids c k E u m ls).noted)) ls
    leaves_passed E u m no_leaf = tt
    leaves_passed E u m (l ▸ ls) =
        let a = number_leaf ids c k E u m l in
        let b = number_leaves ids c k (E ++ a.noted) (u + references_leaf l) (m + a.made) ls in
        (leaf_later l E a.noted b.noted (leaf_passed E u m l), subst (λ v. LeavesPassed (types_in v) ls) (append_assoc E a.noted b.noted) (leaves_passed (E ++ a.noted) (u + references_leaf l) (m + a.made) ls))

    pub leaf_passed : (E : List Noted) (u m : ℕ) (l : Leaf) → LeafPassed (types_in (E ++ (number_leaf ids c k E u m l).noted)) l
    leaf_passed E u m (ref s (inline (row t ls))) = inline-passed E u m s t ls (number_leaves ids c k E (u + 1) m ls) (reused_signature (c ∷ []) k t ls) (shared_apart c k t ls)
    leaf_passed E u m (ref s (bundle (row t ls))) = tt
    leaf_passed E u m (ref s (index n)) = tt
    leaf_passed E u m (ref s (numeral o n)) = tt
    leaf_passed E u m (ref s (name q x)) = tt
    leaf_passed E u m (ref s (path p)) = tt
    leaf_passed E u m (present l) = leaf_passed E u m l
    leaf_passed E u m (nodes ns) = nodes_passed E u m ns
    leaf_passed E u m (scope (scope_of kd id label ds)) = tt
    leaf_passed E u m (node (row t ls)) = tt
    leaf_passed E u m _ = tt

    pub nodes_passed : (E : List Noted) (u m : ℕ) (ns : Nodes) → NodesPassed (types_in (E ++ (number_nodes ids c k E u m ns).noted)) ns
    nodes_passed E u m no_node = tt
    nodes_passed E u m (one_node (row t ls) ns) =
        let a = number_leaves ids c k E u m ls in
        let b = number_nodes ids c k (E ++ a.noted) (u + references ls) (m + a.made) ns in
        (leaves_later ls E a.noted b.noted (leaves_passed E u m ls), subst (λ v. NodesPassed (types_in v) ns) (append_assoc E a.noted b.noted) (nodes_passed (E ++ a.noted) (u + references ls) (m + a.made) ns))

  -- ---- the noted types themselves

  inline-in : (E : List Noted) (u m : ℕ) (s : Space) (t : Row) (ls : Leaves) (a : Numbered Leaves) (q : Option ℕ) → AllIn E → AllIn (E ++ a.noted) → LeavesPassed (types_in (E ++ a.noted)) ls → AllIn (E ++ (number_inline ids c k E u m s t ls a q).noted)
  inline-in E u m s t ls a (Some j) g h p = subst (λ v. AllIn v) (sym (append-nil E)) g
  inline-in E u m s t ls a None g h p = go (stands_for (types_in (E ++ a.noted)) t ls)
    where
      own : (b : Bool) → AllIn (E ++ (a.noted ++ cond b (record { typed = record { origin = inline_type k u; tag = t; leaves = ls }; id = Some (id_numbered (m + a.made + 1)) } ∷ []) []))
      own true = subst (λ v. AllIn v) (append_assoc E a.noted (record { typed = record { origin = inline_type k u; tag = t; leaves = ls }; id = Some (id_numbered (m + a.made + 1)) } ∷ [])) (one_in (E ++ a.noted) (record { typed = record { origin = inline_type k u; tag = t; leaves = ls }; id = Some (id_numbered (m + a.made + 1)) }) h p)
      own false = subst (λ v. AllIn (E ++ v)) (sym (append-nil a.noted)) h

      go : (o : Option ℕ) → AllIn (E ++ (number_found c k u m s t ls (ids_in (E ++ a.noted)) a o).noted)
      go (Some n) = h
      go None = own (is_shared t)

  nothing-in : (E : List Noted) → AllIn E → AllIn (E ++ [])
  nothing-in E h = subst (λ v. AllIn v) (sym (append-nil E)) h

  mutual
    pub leaves_in : (E : List Noted) (u m : ℕ) (ls : Leaves) → AllIn E → AllIn (E ++ (number_leaves ids c k E u m ls).noted)
    leaves_in E u m no_leaf h = nothing-in E h
    leaves_in E u m (l ▸ ls) h =
        let a = number_leaf ids c k E u m l in
        let b = number_leaves ids c k (E ++ a.noted) (u + references_leaf l) (m + a.made) ls in subst (λ v. AllIn v) (append_assoc E a.noted b.noted) (leaves_in (E ++ a.noted) (u + references_leaf l) (m + a.made) ls (leaf_in E u m l h))

    pub leaf_in : (E : List Noted) (u m : ℕ) (l : Leaf) → AllIn E → AllIn (E ++ (number_leaf ids c k E u m l).noted)
    leaf_in E u m (ref s (inline (row t ls))) h = inline-in E u m s t ls (number_leaves ids c k E (u + 1) m ls) (reused_signature (c ∷ []) k t ls) h (leaves_in E (u + 1) m ls h) (leaves_passed E (u + 1) m ls)
    leaf_in E u m (ref s (bundle (row t ls))) h = leaves_in E (u + 1) m ls h
    leaf_in E u m (present l) h = leaf_in E u m l h
    leaf_in E u m (node (row t ls)) h = leaves_in E u m ls h
    leaf_in E u m (nodes ns) h = nodes_in E u m ns h
    leaf_in E u m (scope (scope_of kd id label ds)) h = nothing-in E h
    leaf_in E u m l h = nothing-in E h

    pub nodes_in : (E : List Noted) (u m : ℕ) (ns : Nodes) → AllIn E → AllIn (E ++ (number_nodes ids c k E u m ns).noted)
    nodes_in E u m no_node h = nothing-in E h
    nodes_in E u m (one_node (row t ls) ns) h =
        let a = number_leaves ids c k E u m ls in
        let b = number_nodes ids c k (E ++ a.noted) (u + references ls) (m + a.made) ns in subst (λ v. AllIn v) (append_assoc E a.noted b.noted) (nodes_in (E ++ a.noted) (u + references ls) (m + a.made) ns (leaves_in E u m ls h))
