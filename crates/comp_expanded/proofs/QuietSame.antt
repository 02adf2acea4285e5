-- Where a search finds nothing in leaves, it finds nothing in leaves that are equal as written.
use Rattle.std.proofs.Common.{◌≡◌, Bool, true, false, cond, nat_lt, find, is_some, length, List, [], ◌∷◌, ◌++◌, Option, Some, None, refl, ◌∙◌, ap}
use Rattle.comp_model.specs.declared.Space.{Space}
use Rattle.comp_model.specs.Core.{Id, same_id, counted, named, Reach, outward, own, at_place}
use Rattle.comp_model.specs.Model.{Leaf, Leaves, ◌▸◌, Nodes, Path, Scope}
use Rattle.comp_scopes.specs.Encoding.{Encoding}
use Rattle.comp_scopes.specs.Names.{Denoted, denotes}
use Rattle.comp_scopes.specs.References.{instance_space}
use Rattle.comp_scopes.specs.Signatures.{same_reach}
use Rattle.comp_scopes.specs.Rule.{may_reach, path_allowed, case_ids, is_among}
use Rattle.comp_scopes.specs.Unmet.{unmet, outer_kind, unknown, outer_count, duplicate, core_export_kind, sought, sought_both, sought_one, unmet_kind, unmet_path, root_offset, kinds_of_leaves, kinds_of_leaf, kinds_of_nodes, unmet_name, unmet_root, unmet_cases, unmet_of_leaves, unmet_of_leaf, unmet_of_nodes}
use Rattle.comp_scopes.proofs.Quiet.{Quiet, quiet-one, one-quiet, quiet-both, both-quiet}
use Rattle.comp_scopes.proofs.Same.{SameId, id-name, denotes-same}
use Rattle.comp_scopes.proofs.SameNodes.{SameLeaves, same_none, same_more, SameLeaf, same_text, same_number, same_absent, same_present, same_list, same_id_of_case, same_numeral, same_named, same_steps, same_inline, SameNodes, same_no_node, same_one_node, SamePath, same_root_number, same_root_name, same_export}

-- ---- the second search

same-kind : (r q : Reach) (s : Space) (x y : Id) (o : Option Denoted) → same_reach r q ≡ true → unmet_kind q s y o ≡ None → unmet_kind r s x o ≡ None
same-kind r q s x y None e h = refl
same-kind outward outward s x y (Some d) e h = go (may_reach outward s d) h
  where
    go : (b : Bool) → cond b None (unmet outer_kind y.offset) ≡ None → cond b None (unmet outer_kind x.offset) ≡ None
    go true p = refl
    go false p = absurd (cc)
same-kind own q s x y (Some d) e h = refl
same-kind (at_place p) q s x y (Some d) e h = refl
same-kind outward own s x y (Some d) e h = absurd (cc)
same-kind outward (at_place p) s x y (Some d) e h = absurd (cc)

same-path : (s : Space) (p q : Path) → unmet_path s q ≡ None → unmet_path s p ≡ None
same-path s p q h = go (path_allowed s) h
  where
    go : (b : Bool) → cond b None (unmet core_export_kind (root_offset q)) ≡ None → cond b None (unmet core_export_kind (root_offset p)) ≡ None
    go true e = refl
    go false e = absurd (cc)

module _ (st : List Scope) where
  mutual
    kinds-leaves : (ls ms : Leaves) → SameLeaves ls ms → Quiet (kinds_of_leaves st ms) → Quiet (kinds_of_leaves st ls)
    kinds-leaves _ _ same_none q = q
    kinds-leaves _ _ (same_more l m ls ms a b) q =
        let c : Quiet (kinds_of_leaf st m) × Quiet (kinds_of_leaves st ms) = both-quiet (kinds_of_leaf st m) (kinds_of_leaves st ms) q in
        quiet-both (kinds_of_leaf st l) (kinds_of_leaves st ls) (kinds-leaf l m a c.0) (kinds-leaves ls ms b c.1)

    kinds-leaf : (l m : Leaf) → SameLeaf l m → Quiet (kinds_of_leaf st m) → Quiet (kinds_of_leaf st l)
    kinds-leaf _ _ (same_text t) q = q
    kinds-leaf _ _ (same_number n) q = q
    kinds-leaf _ _ same_absent q = q
    kinds-leaf _ _ (same_present l m a) q = kinds-leaf l m a q
    kinds-leaf _ _ (same_list ns ks a) q = kinds-nodes ns ks a q
    kinds-leaf _ _ (same_id_of_case x y a) q = q
    kinds-leaf _ _ (same_numeral s o p n) q = q
    kinds-leaf _ _ (same_named s r v x y a b) q = (refl, refl, refl, ap (unmet_kind r s x) (denotes-same st s r v x y a b) ∙ same-kind r v s x y (denotes st s v y) a q.3)
    kinds-leaf _ _ (same_steps s p v a) q = (refl, refl, refl, same-path s p v q.3)
    kinds-leaf _ _ (same_inline s t ls ms h a) q = (quiet-one (kinds_of_leaves st ls) (kinds-leaves ls ms a (one-quiet (kinds_of_leaves st ms) q.0)), refl, refl, refl)

    kinds-nodes : (ns ks : Nodes) → SameNodes ns ks → Quiet (kinds_of_nodes st ks) → Quiet (kinds_of_nodes st ns)
    kinds-nodes _ _ same_no_node q = q
    kinds-nodes _ _ (same_one_node t ls ms ns ks a b) q =
        let c : Quiet (kinds_of_leaves st ms) × Quiet (kinds_of_nodes st ks) = both-quiet (kinds_of_leaves st ms) (kinds_of_nodes st ks) q in
        quiet-both (kinds_of_leaves st ls) (kinds_of_nodes st ns) (kinds-leaves ls ms a c.0) (kinds-nodes ns ks b c.1)

  pub kinds-equal : (ls ms : Leaves) → SameLeaves ls ms → sought_one (kinds_of_leaves st ms) ≡ None → sought_one (kinds_of_leaves st ls) ≡ None
  kinds-equal ls ms a h = quiet-one (kinds_of_leaves st ls) (kinds-leaves ls ms a (one-quiet (kinds_of_leaves st ms) h))

-- ---- the third search

some-name : (st : List Scope) (r : Reach) (x : Id) (d : Denoted) → unmet_name st r x (Some d) ≡ None
some-name st outward x d = refl
some-name st own x d = refl
some-name st (at_place (counted o n)) x d = refl
some-name st (at_place (named o y)) x d = refl

none-name : (st : List Scope) (r : Reach) (x : Id) → unmet_name st r x None ≡ None → ⊥
none-name st outward x h = cc
none-name st own x h = cc
none-name st (at_place (counted o d)) x h = go (nat_lt d (length st)) h
  where
    go : (b : Bool) → cond b (unmet unknown x.offset) (unmet outer_count o) ≡ None → ⊥
    go true q = cc
    go false q = cc
none-name st (at_place (named o y)) x h = cc

same-name : (st : List Scope) (r q : Reach) (x y : Id) (o : Option Denoted) → unmet_name st q y o ≡ None → unmet_name st r x o ≡ None
same-name st r q x y None h = absurd (none-name st q y h)
same-name st r q x y (Some d) h = some-name st r x d

same-root : (st : List Scope) (s : Space) (p q : Path) → SamePath p q → unmet_root st s q ≡ None → unmet_root st s p ≡ None
same-root st s _ _ (same_root_number o v n) h = refl
same-root st s _ _ (same_root_name x y a) h = ap (unmet_name st own x) (denotes-same st s own own x y refl a) ∙ same-name st own own x y (denotes st s own y) h
same-root st s _ _ (same_export p q t a) h = same-root st (instance_space s) p q a h

-- ids by their names and numbers
abbrev SameIds : List Id → List Id → Type 0
SameIds [] [] = Unit {0}
SameIds [] (y ∷ ys) = ⊥
SameIds (x ∷ xs) [] = ⊥
SameIds (x ∷ xs) (y ∷ ys) = SameId x y × SameIds xs ys

ids-app : (xs ys vs ws : List Id) → SameIds xs ys → SameIds vs ws → SameIds (xs ++ vs) (ys ++ ws)
ids-app [] [] vs ws a b = b
ids-app [] (y ∷ ys) vs ws a b = absurd a
ids-app (x ∷ xs) [] vs ws a b = absurd a
ids-app (x ∷ xs) (y ∷ ys) vs ws a b = (a.0, ids-app xs ys vs ws a.1 b)

case-ids : (ls ms : Leaves) → SameLeaves ls ms → SameIds (case_ids ls) (case_ids ms)
case-ids _ _ same_none = tt
case-ids _ _ (same_more l m ls ms a b) = go l m a (case-ids ls ms b)
  where
    go : (l m : Leaf) → SameLeaf l m → SameIds (case_ids ls) (case_ids ms) → SameIds (case_ids (l ▸ ls)) (case_ids (m ▸ ms))
    go _ _ (same_text t) h = h
    go _ _ (same_number n) h = h
    go _ _ same_absent h = h
    go _ _ (same_present p v a) h = h
    go _ _ (same_list ns ks a) h = h
    go _ _ (same_id_of_case None None a) h = h
    go _ _ (same_id_of_case None (Some y) a) h = absurd (cc)
    go _ _ (same_id_of_case (Some x) None a) h = absurd (cc)
    go _ _ (same_id_of_case (Some x) (Some y) a) h = (id-name x y a, h)
    go _ _ (same_numeral s o p n) h = h
    go _ _ (same_named s r q x y a b) h = h
    go _ _ (same_steps s p q a) h = h
    go _ _ (same_inline s t ks ns e a) h = h

ids-equal : (x y e f : Id) → SameId x y → SameId e f → same_id x e ≡ same_id y f
ids-equal x y e f a b = rw (a.0, a.1, b.0, b.1) refl

among-same : (es fs : List Id) (x y : Id) → SameIds es fs → SameId x y → is_among es x ≡ is_among fs y
among-same [] [] x y h a = refl
among-same [] (f ∷ fs) x y h a = absurd h
among-same (e ∷ es) [] x y h a = absurd h
among-same (e ∷ es) (f ∷ fs) x y h a = ap (λ b. is_some (cond b (Some e) (find (λ v. same_id x v) es))) (ids-equal x y e f a h.0) ∙ go (same_id y f) (among-same es fs x y h.1 a)
  where
    go : (b : Bool) → is_among es x ≡ is_among fs y → is_some (cond b (Some e) (find (λ v. same_id x v) es)) ≡ is_some (cond b (Some f) (find (λ v. same_id y v) fs))
    go true h = refl
    go false h = h

cases-same : (es fs xs ys : List Id) → SameIds es fs → SameIds xs ys → unmet_cases fs ys ≡ None → unmet_cases es xs ≡ None
cases-same es fs [] [] h a q = refl
cases-same es fs [] (y ∷ ys) h a q = absurd a
cases-same es fs (x ∷ xs) [] h a q = absurd a
cases-same es fs (x ∷ xs) (y ∷ ys) h a q = rw (among-same es fs x y h a.0) (go (is_among fs y) q (cases-same es fs xs ys h a.1))
  where
    go : (b : Bool) → cond b (unmet duplicate y.offset) (unmet_cases fs ys) ≡ None → (unmet_cases fs ys ≡ None → unmet_cases es xs ≡ None) → cond b (unmet duplicate x.offset) (unmet_cases es xs) ≡ None
    go true z f = absurd (cc)
    go false z f = f z

module _ (e : Encoding) (st : List Scope) where
  mutual
    names-leaves : (ls ms : Leaves) → SameLeaves ls ms → Quiet (unmet_of_leaves e st ms) → Quiet (unmet_of_leaves e st ls)
    names-leaves _ _ same_none q = q
    names-leaves _ _ (same_more l m ls ms a b) q =
        let c : Quiet (unmet_of_leaf e st m) × Quiet (unmet_of_leaves e st ms) = both-quiet (unmet_of_leaf e st m) (unmet_of_leaves e st ms) q in
        quiet-both (unmet_of_leaf e st l) (unmet_of_leaves e st ls) (names-leaf l m a c.0) (names-leaves ls ms b c.1)

    names-leaf : (l m : Leaf) → SameLeaf l m → Quiet (unmet_of_leaf e st m) → Quiet (unmet_of_leaf e st l)
    names-leaf _ _ (same_text t) q = q
    names-leaf _ _ (same_number n) q = q
    names-leaf _ _ same_absent q = q
    names-leaf _ _ (same_present l m a) q = names-leaf l m a q
    names-leaf _ _ (same_list ns ks a) q = names-nodes [] [] ns ks tt a q
    names-leaf _ _ (same_id_of_case x y a) q = q
    names-leaf _ _ (same_numeral s o p n) q = q
    names-leaf _ _ (same_named s r v x y a b) q = (refl, refl, refl, ap (unmet_name st r x) (denotes-same st s r v x y a b) ∙ same-name st r v x y (denotes st s v y) q.3)
    names-leaf _ _ (same_steps s p v a) q = (refl, refl, same-root st s p v a q.2, refl)
    names-leaf _ _ (same_inline s t ls ms h a) q = (quiet-one (unmet_of_leaves e st ls) (names-leaves ls ms a (one-quiet (unmet_of_leaves e st ms) q.0)), refl, refl, refl)

    names-nodes : (es fs : List Id) (ns ks : Nodes) → SameIds es fs → SameNodes ns ks → Quiet (unmet_of_nodes e st fs ks) → Quiet (unmet_of_nodes e st es ns)
    names-nodes es fs _ _ h same_no_node q = q
    names-nodes es fs _ _ h (same_one_node t ls ms ns ks a b) q =
        let i : SameIds (case_ids ls) (case_ids ms) = case-ids ls ms a in
        let c : Quiet (sought (unmet_cases fs (case_ids ms))) × Quiet (sought_both (unmet_of_leaves e st ms) (unmet_of_nodes e st (case_ids ms ++ fs) ks)) = both-quiet (sought (unmet_cases fs (case_ids ms))) (sought_both (unmet_of_leaves e st ms) (unmet_of_nodes e st (case_ids ms ++ fs) ks)) q in
        let d : Quiet (unmet_of_leaves e st ms) × Quiet (unmet_of_nodes e st (case_ids ms ++ fs) ks) = both-quiet (unmet_of_leaves e st ms) (unmet_of_nodes e st (case_ids ms ++ fs) ks) c.1 in
        quiet-both (sought (unmet_cases es (case_ids ls))) (sought_both (unmet_of_leaves e st ls) (unmet_of_nodes e st (case_ids ls ++ es) ns)) (refl, refl, refl, cases-same es fs (case_ids ls) (case_ids ms) h i c.0.3)
        (quiet-both (unmet_of_leaves e st ls) (unmet_of_nodes e st (case_ids ls ++ es) ns) (names-leaves ls ms a d.0) (names-nodes (case_ids ls ++ es) (case_ids ms ++ fs) ns ks (ids-app (case_ids ls) (case_ids ms) es fs i h) b d.1))

  pub names-equal : (ls ms : Leaves) → SameLeaves ls ms → sought_one (unmet_of_leaves e st ms) ≡ None → sought_one (unmet_of_leaves e st ls) ≡ None
  names-equal ls ms a h = quiet-one (unmet_of_leaves e st ls) (names-leaves ls ms a (one-quiet (unmet_of_leaves e st ms) h))
