-- The types that a walk notes are those of the scope that have marks.
use Rattle.std.proofs.Common.{◌≡◌, ℕ, ◌+◌, Bool, true, false, cond, List, [], ◌∷◌, ◌++◌, Option, Some, None, IsSome, option_map, refl, sym, ◌∙◌, ap, subst, arith, append-nil}
use Rattle.comp_model.specs.declared.Space.{Space}
use Rattle.comp_model.specs.declared.row.Row.{Row}
use Rattle.comp_model.specs.Core.{Id}
use Rattle.comp_model.specs.Model.{Leaf, ref, present, node, nodes, scope, inline, bundle, Leaves, no_leaf, ◌▸◌, row, Nodes, no_node, one_node, Scope, scope_of}
use Rattle.comp_model.specs.Origins.{inline_type}
use Rattle.comp_scopes.specs.References.{references, references_leaf, references_nodes}
use Rattle.comp_scopes.specs.Signatures.{reused_signature}
use Rattle.comp_scopes.specs.Reused.{is_shared, Typed, earlier_type, typed_once, typed_inline, typed_within, types_of_leaves, types_of_leaf, types_of_nodes}
use Rattle.comp_scopes.proofs.Types.{found-before}
use Rattle.type_keys.specs.Keys.{first_equal}
use Rattle.type_keys.specs.Named.{NoneMarked, origin_of}
use Rattle.type_keys.proofs.Noted.{first-reused}
use Rattle.tree_expand.specs.Passed.{Noted, types_in, ids_in}
use Rattle.tree_expand.specs.Numbering.{Numbered, id_numbered, number_found, number_inline, number_leaf, number_leaves, number_nodes}
use Rattle.tree_expand.proofs.KeyLists.{types_app}
use Rattle.tree_expand.proofs.Passing.{AllIn, some_none, shared_apart, shared_stands, apart_stands, leaf_in, leaves_in}
use Rattle.tree_expand.proofs.Quiet.{Quiet, equal_there, leaves_quiet}
use Rattle.tree_expand.proofs.NotedMarks.{Clear, clear_next, clear_part, clear_own, leaf_marks, leaves_marks}

module _ (ids : List (Option Id)) (c : Scope) (k : ℕ) where
  -- where an earlier type is equal, it stands in front, and what stands inline adds nothing
  pub found_quiet : (E : List Noted) (u m : ℕ) (t : Row) (ls : Leaves) → AllIn E → NoneMarked (inline_type k u) (types_in E) → NoneMarked (inline_type k u) (types_in (E ++ (number_leaves ids c k E (u + 1) m ls).noted))
      → types_in (number_leaves ids c k E (u + 1) m ls).noted ≡ types_of_leaves c k (u + 1) ls (types_in E)
      → IsSome (first_equal t ls (types_in (E ++ (number_leaves ids c k E (u + 1) m ls).noted))) → Quiet (number_leaves ids c k E (u + 1) m ls)
  found_quiet E u m t ls h n n' e f = go (first_equal t ls X') refl f
    where
      X' : List Typed
      X' = types_in (E ++ (number_leaves ids c k E (u + 1) m ls).noted)

      some : {A B : Type 0} (g : A → B) (o : Option A) (y : B) → option_map g o ≡ Some y → IsSome o
      some g None y e = absurd (cc)
      some g (Some x) y e = refl

      go : (o : Option ℕ) → first_equal t ls X' ≡ o → IsSome o → Quiet (number_leaves ids c k E (u + 1) m ls)
      go None i j = absurd (cc)
      go (Some x) i j =
          let later : earlier_type (inline_type k u) t ls X' ≡ Some (origin_of X' x) = first-reused (inline_type k u) t ls X' n' ∙ ap (option_map (origin_of X')) i in
          let both : earlier_type (inline_type k u) t ls (types_in E ++ types_of_leaves c k (u + 1) ls (types_in E)) ≡ Some (origin_of X' x) =
          ap (earlier_type (inline_type k u) t ls) (sym (types_app E (number_leaves ids c k E (u + 1) m ls).noted ∙ ap (λ v. types_in E ++ v) e)) ∙ later in
          let front : earlier_type (inline_type k u) t ls (types_in E) ≡ Some (origin_of X' x) = found-before c k (u + 1) u t ls (types_in E) (origin_of X' x) both in
          let there : IsSome (first_equal t ls (types_in E)) = some (origin_of (types_in E)) (first_equal t ls (types_in E)) (origin_of X' x) (sym (first-reused (inline_type k u) t ls (types_in E) n) ∙ front) in
          let r = equal_there (types_in E) t ls h there in leaves_quiet ids c k E (u + 1) m ls r.0 h r.1 r.2

  inline-types : (E : List Noted) (u m : ℕ) (s : Space) (t : Row) (ls : Leaves) (a : Numbered Leaves) (q : Option ℕ) (b : Bool) → is_shared t ≡ b → (b ≡ true → q ≡ None) → NoneMarked (inline_type k u) (types_in (E ++ a.noted)) → types_in a.noted ≡ types_of_leaves c k (u + 1) ls (types_in E)
      → (IsSome (first_equal t ls (types_in (E ++ a.noted))) → Quiet a)
      → types_in (number_inline ids c k E u m s t ls a q).noted ≡ cond b (typed_inline (record { origin = inline_type k u; tag = t; leaves = ls }) (types_in E) (types_of_leaves c k (u + 1) ls (types_in E))) (typed_within q (types_of_leaves c k (u + 1) ls (types_in E)))
  inline-types E u m s t ls a (Some j) true g n h e f = some_none j (n refl)
  inline-types E u m s t ls a (Some j) false g n h e f = refl
  inline-types E u m s t ls a None false g n h e f =
      ap (λ o. types_in (number_found c k u m s t ls (ids_in (E ++ a.noted)) a o).noted) (apart_stands (types_in (E ++ a.noted)) t ls g)
      ∙ ap (λ b. types_in (a.noted ++ cond b (record { typed = record { origin = inline_type k u; tag = t; leaves = ls }; id = Some (id_numbered (m + a.made + 1)) } ∷ []) [])) g
      ∙ ap types_in (append-nil a.noted) ∙ e
  inline-types E u m s t ls a None true g n h e f =
      ap (λ o. types_in (number_found c k u m s t ls (ids_in (E ++ a.noted)) a o).noted) (shared_stands (types_in (E ++ a.noted)) t ls g)
      ∙ go (first_equal t ls (types_in (E ++ a.noted))) refl
      ∙ ap (typed_once x new) (sym (first-reused (inline_type k u) t ls (types_in (E ++ a.noted)) h) ∙ ap (earlier_type (inline_type k u) t ls) (types_app E a.noted ∙ ap (λ v. types_in E ++ v) e))
    where
      x : Typed
      x = record { origin = inline_type k u; tag = t; leaves = ls }

      new : List Typed
      new = types_of_leaves c k (u + 1) ls (types_in E)

      go : (o : Option ℕ) → first_equal t ls (types_in (E ++ a.noted)) ≡ o → types_in (number_found c k u m s t ls (ids_in (E ++ a.noted)) a o).noted ≡ typed_once x new (option_map (origin_of (types_in (E ++ a.noted))) o)
      go (Some j) i = ap types_in (f (subst IsSome (sym i) refl)).noted
      go None i =
          ap (λ b. types_in (a.noted ++ cond b (record { typed = x; id = Some (id_numbered (m + a.made + 1)) } ∷ []) [])) g
          ∙ types_app a.noted (record { typed = x; id = Some (id_numbered (m + a.made + 1)) } ∷ []) ∙ ap (λ v. v ++ x ∷ []) e

  mutual
    pub leaves_types : (E : List Noted) (u m : ℕ) (ls : Leaves) → AllIn E → Clear k u (u + references ls) E → types_in (number_leaves ids c k E u m ls).noted ≡ types_of_leaves c k u ls (types_in E)
    leaves_types E u m no_leaf h g = refl
    leaves_types E u m (l ▸ ls) h g =
        let a = number_leaf ids c k E u m l in
        let b = number_leaves ids c k (E ++ a.noted) (u + references_leaf l) (m + a.made) ls in
        let x : types_in a.noted ≡ types_of_leaf c k u l (types_in E) = leaf_types E u m l h (clear_part k u (u + (references_leaf l + references ls)) u (u + references_leaf l) E (omega arith) (omega arith) g) in
        let y : types_in b.noted ≡ types_of_leaves c k (u + references_leaf l) ls (types_in (E ++ a.noted)) =
        leaves_types (E ++ a.noted) (u + references_leaf l) (m + a.made) ls (leaf_in ids c k E u m l h)
        (clear_next k u (u + references_leaf l) (u + references_leaf l + references ls) E a.noted a.parts.inlined (omega arith) (clear_part k u (u + (references_leaf l + references ls)) u (u + references_leaf l + references ls) E (omega arith) (omega arith) g) (leaf_marks ids c k E u m l)) in
        types_app a.noted b.noted ∙ ap (λ v. v ++ types_in b.noted) x ∙ ap (λ v. types_of_leaf c k u l (types_in E) ++ v) (y ∙ ap (types_of_leaves c k (u + references_leaf l) ls) (types_app E a.noted ∙ ap (λ v. types_in E ++ v) x))

    pub leaf_types : (E : List Noted) (u m : ℕ) (l : Leaf) → AllIn E → Clear k u (u + references_leaf l) E → types_in (number_leaf ids c k E u m l).noted ≡ types_of_leaf c k u l (types_in E)
    leaf_types E u m (ref s (inline (row t ls))) h g =
        let a = number_leaves ids c k E (u + 1) m ls in
        let n : NoneMarked (inline_type k u) (types_in (E ++ a.noted)) = clear_own k u (u + (1 + references ls)) (u + 1 + references ls) E a.noted a.parts.inlined (omega arith) g (leaves_marks ids c k E (u + 1) m ls) in
        let e : types_in a.noted ≡ types_of_leaves c k (u + 1) ls (types_in E) = leaves_types E (u + 1) m ls h (clear_part k u (u + (1 + references ls)) (u + 1) (u + 1 + references ls) E (omega arith) (omega arith) g) in
        inline-types E u m s t ls a (reused_signature (c ∷ []) k t ls) (is_shared t) refl (shared_apart c k t ls) n e (found_quiet E u m t ls h (g u (omega arith) (omega arith)) n e)
    leaf_types E u m (ref s (bundle (row t ls))) h g = leaves_types E (u + 1) m ls h (clear_part k u (u + (1 + references ls)) (u + 1) (u + 1 + references ls) E (omega arith) (omega arith) g)
    leaf_types E u m (present l) h g = leaf_types E u m l h g
    leaf_types E u m (node (row t ls)) h g = leaves_types E u m ls h g
    leaf_types E u m (nodes ns) h g = nodes_types E u m ns h g
    leaf_types E u m (scope (scope_of kd id label ds)) h g = refl
    leaf_types E u m l h g = refl

    pub nodes_types : (E : List Noted) (u m : ℕ) (ns : Nodes) → AllIn E → Clear k u (u + references_nodes ns) E → types_in (number_nodes ids c k E u m ns).noted ≡ types_of_nodes c k u ns (types_in E)
    nodes_types E u m no_node h g = refl
    nodes_types E u m (one_node (row t ls) ns) h g =
        let a = number_leaves ids c k E u m ls in
        let b = number_nodes ids c k (E ++ a.noted) (u + references ls) (m + a.made) ns in
        let x : types_in a.noted ≡ types_of_leaves c k u ls (types_in E) = leaves_types E u m ls h (clear_part k u (u + (references ls + references_nodes ns)) u (u + references ls) E (omega arith) (omega arith) g) in
        let y : types_in b.noted ≡ types_of_nodes c k (u + references ls) ns (types_in (E ++ a.noted)) =
        nodes_types (E ++ a.noted) (u + references ls) (m + a.made) ns (leaves_in ids c k E u m ls h)
        (clear_next k u (u + references ls) (u + references ls + references_nodes ns) E a.noted a.parts.inlined (omega arith) (clear_part k u (u + (references ls + references_nodes ns)) u (u + references ls + references_nodes ns) E (omega arith) (omega arith) g) (leaves_marks ids c k E u m ls)) in
        types_app a.noted b.noted ∙ ap (λ v. v ++ types_in b.noted) x ∙ ap (λ v. types_of_leaves c k u ls (types_in E) ++ v) (y ∙ ap (types_of_nodes c k (u + references ls) ns) (types_app E a.noted ∙ ap (λ v. types_in E ++ v) x))
