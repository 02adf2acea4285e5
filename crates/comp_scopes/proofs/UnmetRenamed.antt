-- The first unmet demand of a renamed scope, where the map keeps the offsets of ids.
use Rattle.std.proofs.Common.{◌≡◌, ◌↔◌, Bool, true, false, ◌&&◌, cond, List, [], ◌∷◌, ◌++◌, map, find, is_some, Option, Some, None, option_map, refl, sym, ◌∙◌, ap}
use Rattle.comp_model.specs.declared.Space.{Space}
use Rattle.comp_model.specs.declared.Space.TheVariants.{CoreType}
use Rattle.comp_model.specs.Core.{Id, same_id, Place, counted, named, Reach, outward, own, at_place, CoreValue, ref_name}
use Rattle.comp_model.specs.CoreModules.{CoreModule}
use Rattle.comp_model.specs.Renaming.{renamed_core}
use Rattle.comp_model.specs.Model.{Leaf, core_value, ref, place, present, node, nodes, case_id, core_source, scope, name, Path, root_number, root_name, export_of, path, inline, bundle, Leaves, no_leaf, ◌▸◌, row, Nodes, no_node, one_node, define, Defs, no_def, one_def, Scope, scope_of}
use Rattle.comp_model.specs.Spaces.{same_space, Declaration, declarations_from}
use Rattle.comp_scopes.specs.Encoding.{Encoding}
use Rattle.comp_scopes.specs.Names.{Denoted, denotes}
use Rattle.comp_scopes.specs.References.{instance_space}
use Rattle.comp_scopes.specs.Rule.{clash, same_name, case_ids, is_among, ScopeRule}
use Rattle.comp_scopes.specs.Unmet.{unmet_at_id, Cause, duplicate, first_duplicate, unmet_kind, root_offset, kinds_of_leaves, kinds_of_leaf, kinds_of_nodes, kinds_of_defs, unmet_name, unmet_place, unmet_root, unmet_cases, unmet_of_defs, unmet_of_leaves, unmet_of_leaf, unmet_of_nodes, first_unmet}
use Rattle.comp_scopes.specs.Renaming.{renamed_place, renamed_reach, renamed_value, renamed_path, renamed_scope, renamed_defs, renamed_leaves, renamed_leaf, renamed_nodes}
use Rattle.comp_scopes.proofs.Quiet.{rule-none}
use Rattle.comp_scopes.proofs.Renaming.{decl, den, declarations-renamed, bears-renamed, length-renamed, scope_named-renamed, denotes-renamed}

module _ (f : Id → Id) (same : (x y : Id) → same_id (f x) (f y) ≡ same_id x y) (numbered : (x : Id) → (f x).number ≡ x.number) (keeps : (x : Id) → (f x).offset ≡ x.offset) where
  clash-renamed : (d e : Declaration) → clash (decl f d) (decl f e) ≡ clash d e
  clash-renamed d e = go d.id
    where
      go : (x : Option Id) → (same_space d.space e.space && same_name (option_map f x) (option_map f e.id)) ≡ (same_space d.space e.space && same_name x e.id)
      go None = refl
      go (Some x) = rw (bears-renamed f same numbered x e.id) refl

  clash-found : (d : Declaration) (es : List Declaration) → is_some (find (λ e. clash e (decl f d)) (map (decl f) es)) ≡ is_some (find (λ e. clash e d) es)
  clash-found d [] = refl
  clash-found d (e ∷ es) = rw (clash-renamed e d) (go (clash e d) (clash-found d es))
    where
      go : (b : Bool) → is_some (find (λ e. clash e (decl f d)) (map (decl f) es)) ≡ is_some (find (λ e. clash e d) es)
          → is_some (cond b (Some (decl f e)) (find (λ e. clash e (decl f d)) (map (decl f) es))) ≡ is_some (cond b (Some e) (find (λ e. clash e d) es))
      go true h = refl
      go false h = h

  at_id-renamed : (c : Cause) (x : Option Id) → unmet_at_id c (option_map f x) ≡ unmet_at_id c x
  at_id-renamed c None = refl
  at_id-renamed c (Some x) = rw (keeps x) refl

  duplicate-renamed : (es ds : List Declaration) → first_duplicate (map (decl f) es) (map (decl f) ds) ≡ first_duplicate es ds
  duplicate-renamed es [] = refl
  duplicate-renamed es (d ∷ ds) = rw (clash-found d es, at_id-renamed duplicate d.id, duplicate-renamed (d ∷ es) ds) refl

  duplicates-renamed : (ds : Defs) → first_duplicate [] (declarations_from 0 (renamed_defs f ds)) ≡ first_duplicate [] (declarations_from 0 ds)
  duplicates-renamed ds = rw (declarations-renamed f 0 ds) (duplicate-renamed [] (declarations_from 0 ds))

  kind-renamed : (r : Reach) (s : Space) (x : Id) (o : Option Denoted) → unmet_kind (renamed_reach f r) s (f x) (option_map (den f) o) ≡ unmet_kind r s x o
  kind-renamed r s x None = refl
  kind-renamed outward s x (Some d) = rw (keeps x) refl
  kind-renamed own s x (Some d) = refl
  kind-renamed (at_place p) s x (Some d) = refl

  name-renamed : (st : List Scope) (r : Reach) (x : Id) (o : Option Denoted) → unmet_name (map (renamed_scope f) st) (renamed_reach f r) (f x) (option_map (den f) o) ≡ unmet_name st r x o
  name-renamed st outward x None = rw (keeps x) refl
  name-renamed st own x None = rw (keeps x) refl
  name-renamed st (at_place (counted o d)) x None = rw (keeps x, length-renamed f st) refl
  name-renamed st (at_place (named o y)) x None = rw (keeps x) refl
  name-renamed st outward x (Some d) = refl
  name-renamed st own x (Some d) = refl
  name-renamed st (at_place (counted o n)) x (Some d) = refl
  name-renamed st (at_place (named o y)) x (Some d) = refl

  place-renamed : (st : List Scope) (p : Place) → unmet_place (map (renamed_scope f) st) (renamed_place f p) ≡ unmet_place st p
  place-renamed st (counted o d) = refl
  place-renamed st (named o x) = rw (scope_named-renamed f same numbered 0 st x) refl

  offset-renamed : (p : Path) → root_offset (renamed_path f p) ≡ root_offset p
  offset-renamed (root_number o n) = refl
  offset-renamed (root_name x) = keeps x
  offset-renamed (export_of p t) = offset-renamed p

  root-renamed : (st : List Scope) (s : Space) (p : Path) → unmet_root (map (renamed_scope f) st) s (renamed_path f p) ≡ unmet_root st s p
  root-renamed st s (root_number o n) = refl
  root-renamed st s (root_name x) = rw (denotes-renamed f same numbered st s own x) (name-renamed st own x (denotes st s own x))
  root-renamed st s (export_of p t) = root-renamed st (instance_space s) p

  -- cases

  case_ids-renamed : (ls : Leaves) → case_ids (renamed_leaves f ls) ≡ map f (case_ids ls)
  case_ids-renamed no_leaf = refl
  case_ids-renamed (case_id (Some x) ▸ ls) = ap (λ r. f x ∷ r) (case_ids-renamed ls)
  case_ids-renamed (case_id None ▸ ls) = case_ids-renamed ls
  case_ids-renamed (l ▸ ls) = case_ids-renamed ls

  among-renamed : (ys : List Id) (x : Id) → is_among (map f ys) (f x) ≡ is_among ys x
  among-renamed [] x = refl
  among-renamed (y ∷ ys) x = rw (same x y) (go (same_id x y) (among-renamed ys x))
    where
      go : (b : Bool) → is_some (find (λ y. same_id (f x) y) (map f ys)) ≡ is_some (find (λ y. same_id x y) ys) → is_some (cond b (Some (f y)) (find (λ y. same_id (f x) y) (map f ys))) ≡ is_some (cond b (Some y) (find (λ y. same_id x y) ys))
      go true h = refl
      go false h = h

  cases-renamed : (earlier xs : List Id) → unmet_cases (map f earlier) (map f xs) ≡ unmet_cases earlier xs
  cases-renamed earlier [] = refl
  cases-renamed earlier (x ∷ xs) = rw (among-renamed earlier x, keeps x, cases-renamed earlier xs) refl

  map-app : (xs ys : List Id) → map f xs ++ map f ys ≡ map f (xs ++ ys)
  map-app [] ys = refl
  map-app (x ∷ xs) ys = ap (λ r. f x ∷ r) (map-app xs ys)

  -- the searches

  value-kinds : (st : List Scope) (v : CoreValue) → kinds_of_leaf (map (renamed_scope f) st) (core_value (renamed_value f v)) ≡ kinds_of_leaf st (core_value v)
  value-kinds st (ref_name b r x) = rw (denotes-renamed f same numbered st CoreType r x, kind-renamed r CoreType x (denotes st CoreType r x)) refl
  value-kinds st v = refl

  mutual
    kinds_of_leaves-renamed : (st : List Scope) (ls : Leaves) → kinds_of_leaves (map (renamed_scope f) st) (renamed_leaves f ls) ≡ kinds_of_leaves st ls
    kinds_of_leaves-renamed st no_leaf = refl
    kinds_of_leaves-renamed st (l ▸ ls) = rw (kinds_of_leaf-renamed st l, kinds_of_leaves-renamed st ls) refl

    kinds_of_leaf-renamed : (st : List Scope) (l : Leaf) → kinds_of_leaf (map (renamed_scope f) st) (renamed_leaf f l) ≡ kinds_of_leaf st l
    kinds_of_leaf-renamed st (core_value v) = value-kinds st v
    kinds_of_leaf-renamed st (ref s (name r x)) = rw (denotes-renamed f same numbered st s r x, kind-renamed r s x (denotes st s r x)) refl
    kinds_of_leaf-renamed st (ref s (path p)) = rw (offset-renamed p) refl
    kinds_of_leaf-renamed st (ref s (inline (row t ls))) = rw (kinds_of_leaves-renamed st ls) refl
    kinds_of_leaf-renamed st (ref s (bundle (row t ls))) = rw (kinds_of_leaves-renamed st ls) refl
    kinds_of_leaf-renamed st (present l) = kinds_of_leaf-renamed st l
    kinds_of_leaf-renamed st (node (row t ls)) = kinds_of_leaves-renamed st ls
    kinds_of_leaf-renamed st (nodes ns) = kinds_of_nodes-renamed st ns
    kinds_of_leaf-renamed st l = refl

    kinds_of_nodes-renamed : (st : List Scope) (ns : Nodes) → kinds_of_nodes (map (renamed_scope f) st) (renamed_nodes f ns) ≡ kinds_of_nodes st ns
    kinds_of_nodes-renamed st no_node = refl
    kinds_of_nodes-renamed st (one_node (row t ls) ns) = rw (kinds_of_leaves-renamed st ls, kinds_of_nodes-renamed st ns) refl

  kinds_of_defs-renamed : (st : List Scope) (ds : Defs) → kinds_of_defs (map (renamed_scope f) st) (renamed_defs f ds) ≡ kinds_of_defs st ds
  kinds_of_defs-renamed st no_def = refl
  kinds_of_defs-renamed st (one_def (define names (row t ls)) ds) = rw (kinds_of_leaves-renamed st ls, kinds_of_defs-renamed st ds) refl

  module _ (e : Encoding) (blind : (c : CoreModule) → e.core_refusal (renamed_core f c) ≡ e.core_refusal c) where
    value-unmet : (st : List Scope) (v : CoreValue) → unmet_of_leaf e (map (renamed_scope f) st) (core_value (renamed_value f v)) ≡ unmet_of_leaf e st (core_value v)
    value-unmet st (ref_name b r x) = rw (denotes-renamed f same numbered st CoreType r x, name-renamed st r x (denotes st CoreType r x)) refl
    value-unmet st v = refl

    mutual
      unmet_of_defs-renamed : (st : List Scope) (ds : Defs) → unmet_of_defs e (map (renamed_scope f) st) (renamed_defs f ds) ≡ unmet_of_defs e st ds
      unmet_of_defs-renamed st no_def = refl
      unmet_of_defs-renamed st (one_def (define names (row t ls)) ds) = rw (unmet_of_leaves-renamed st ls, unmet_of_defs-renamed st ds) refl

      unmet_of_leaves-renamed : (st : List Scope) (ls : Leaves) → unmet_of_leaves e (map (renamed_scope f) st) (renamed_leaves f ls) ≡ unmet_of_leaves e st ls
      unmet_of_leaves-renamed st no_leaf = refl
      unmet_of_leaves-renamed st (l ▸ ls) = rw (unmet_of_leaf-renamed st l, unmet_of_leaves-renamed st ls) refl

      unmet_of_leaf-renamed : (st : List Scope) (l : Leaf) → unmet_of_leaf e (map (renamed_scope f) st) (renamed_leaf f l) ≡ unmet_of_leaf e st l
      unmet_of_leaf-renamed st (core_value v) = value-unmet st v
      unmet_of_leaf-renamed st (ref s (name r x)) = rw (denotes-renamed f same numbered st s r x, name-renamed st r x (denotes st s r x)) refl
      unmet_of_leaf-renamed st (ref s (path p)) = rw (root-renamed st s p) refl
      unmet_of_leaf-renamed st (ref s (inline (row t ls))) = rw (unmet_of_leaves-renamed st ls) refl
      unmet_of_leaf-renamed st (ref s (bundle (row t ls))) = rw (unmet_of_leaves-renamed st ls) refl
      unmet_of_leaf-renamed st (place p) = rw (place-renamed st p) refl
      unmet_of_leaf-renamed st (present l) = unmet_of_leaf-renamed st l
      unmet_of_leaf-renamed st (node (row t ls)) = unmet_of_leaves-renamed st ls
      unmet_of_leaf-renamed st (nodes ns) = unmet_of_nodes-renamed st [] ns
      unmet_of_leaf-renamed st (core_source c) = rw (blind c) refl
      unmet_of_leaf-renamed st (scope (scope_of k id label ds)) = rw (duplicates-renamed ds, kinds_of_defs-renamed (scope_of k id label ds ∷ st) ds, unmet_of_defs-renamed (scope_of k id label ds ∷ st) ds) refl
      unmet_of_leaf-renamed st l = refl

      unmet_of_nodes-renamed : (st : List Scope) (earlier : List Id) (ns : Nodes) → unmet_of_nodes e (map (renamed_scope f) st) (map f earlier) (renamed_nodes f ns) ≡ unmet_of_nodes e st earlier ns
      unmet_of_nodes-renamed st earlier no_node = refl
      unmet_of_nodes-renamed st earlier (one_node (row t ls) ns) =
          rw (case_ids-renamed ls, cases-renamed earlier (case_ids ls), unmet_of_leaves-renamed st ls, map-app (case_ids ls) earlier, unmet_of_nodes-renamed st (case_ids ls ++ earlier) ns) refl

    pub first_unmet-renamed : (st : List Scope) (c : Scope) → first_unmet e (map (renamed_scope f) st) (renamed_scope f c) ≡ first_unmet e st c
    first_unmet-renamed st (scope_of k id label ds) = rw (duplicates-renamed ds, kinds_of_defs-renamed (scope_of k id label ds ∷ st) ds, unmet_of_defs-renamed (scope_of k id label ds ∷ st) ds) refl

    pub rule-renamed : (st : List Scope) (c : Scope) → ScopeRule e (map (renamed_scope f) st) (renamed_scope f c) ↔ ScopeRule e st c
    rule-renamed st c = (
      λ h. (rule-none e st c).1 (sym (first_unmet-renamed st c) ∙ (rule-none e (map (renamed_scope f) st) (renamed_scope f c)).0 h),
      λ h. (rule-none e (map (renamed_scope f) st) (renamed_scope f c)).1 (first_unmet-renamed st c ∙ (rule-none e st c).0 h),
    )
