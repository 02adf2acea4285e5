-- What was found for the names of a list of definitions, by those that are left.
use Rattle.std.proofs.Common.{◌≡◌, ◌<◌, ◌≤◌, ◌+◌, ℕ, refl, sym, ap, ◌∙◌, subst, List, [], ◌∷◌, ◌++◌, append-nil, length, drop, get_or, reverse, Option, option_map, Bor}
use Rattle.std.proofs.lemmas.List.{drop_more, reverse-append}
use Rattle.std.proofs.Math.ListN.{drop_of_length-le}
use Rattle.comp_model.specs.CoreModules.{CoreModule}
use Rattle.comp_model.specs.Model.{no_leaf, ◌▸◌, Defs}
use Rattle.comp_tables.specs.Tables.{Opened, opened, no_counts}
use Rattle.comp_tree.specs.declared.tree.Def.{Def}
use Rattle.comp_tree.specs.declared.tree.Leaf as l
use Rattle.comp_tree.specs.declared.tree.Scope.{Scope}
use Rattle.comp_tree.specs.Lists.{listed, defs_listed}
use Rattle.comp_tree.specs.Model.{id_of}
use Rattle.comp_tree.proofs.Leaves.{leaf_scope}
use Rattle.open_scopes.specs.declared.lookup.Found.{Found}
use Rattle.open_scopes.specs.declared.scopes.Open.{Open}
use Rattle.open_scopes.specs.Registered.{Registers}
use Rattle.open_scopes.specs.Shown.{Shows, ScopesShow, OpenScopesShow}
use Rattle.open_scopes.proofs.Stacks.{pushed-shows}
use Rattle.tree_names.specs.AllFound.{all_found, defs_found, FoundAll, FoundBehind, FoundSoFar, FoundFirst, FoundTaken}
use Rattle.tree_names.proofs.Fronts.{so_far_more}
use Rattle.tree_names.proofs.Taking.{same_rest}
use Rattle.tree_names.specs.Served.{defs_served}
use Rattle.tree_resolve.specs.Tabled.{ServedAll}
use Rattle.tree_resolve.proofs.TableUnread.{defs-found-tabled, defs-served-tabled}

-- ---- definition by definition

module _ (C : List CoreModule) (os : List Open) (all : List Def) where
  left-of : (n : ℕ) (d : Def) → n < length all → d ≡ get_or all n d → drop n all ≡ d ∷ drop (n + 1) all
  left-of n d h a = drop_more all n d h ∙ ap (λ z. z ∷ drop (n + 1) all) (sym a)

  module _ (n : ℕ) (d : Def) (h : n < length all) (a : d ≡ get_or all n d) (now new : List (Option Found)) where
    pub def-kept : FoundSoFar os (λ ms. defs_found ms (defs_listed C all)) (λ ms. defs_found ms (defs_listed C (drop n all))) [] now → FoundBehind os (λ ms. all_found ms (listed C d.node.leaves.now)) now new
        → FoundSoFar os (λ ms. defs_found ms (defs_listed C all)) (λ ms. defs_found ms (defs_listed C (drop (n + 1) all))) [] new
    def-kept k = so_far_more os (λ ms. defs_found ms (defs_listed C all)) [] now (λ ms. all_found ms (listed C d.node.leaves.now)) (λ ms. defs_found ms (defs_listed C (drop (n + 1) all))) new
        (subst (λ z. FoundSoFar os (λ ms. defs_found ms (defs_listed C all)) (λ ms. defs_found ms (defs_listed C z)) [] now) (left-of n d h a) k)

    module _ (k : FoundAll os (λ ms. defs_found ms (defs_listed C (drop n all))) now) where
      this-first : FoundAll os (λ ms. all_found ms (listed C d.node.leaves.now) ++ defs_found ms (defs_listed C (drop (n + 1) all))) now
      this-first = subst (λ z. FoundAll os (λ ms. defs_found ms (defs_listed C z)) now) (left-of n d h a) k

      pub def-front : FoundFirst os (λ ms. all_found ms (listed C d.node.leaves.now)) now
      def-front ms w = (defs_found ms (defs_listed C (drop (n + 1) all)), this-first ms w)

      pub def-passed : FoundTaken os (λ ms. all_found ms (listed C d.node.leaves.now)) now new → FoundAll os (λ ms. defs_found ms (defs_listed C (drop (n + 1) all))) new
      def-passed t ms w = same_rest (all_found ms (listed C d.node.leaves.now)) new (defs_found ms (defs_listed C (drop (n + 1) all))) (sym (t ms w) ∙ this-first ms w)

  pub none-kept : (found : List (Option Found)) → found ≡ [] → FoundSoFar os (λ ms. defs_found ms (defs_listed C all)) (λ ms. defs_found ms (defs_listed C all)) [] found
  none-kept found e ms w behind = ap (λ z. z ++ (defs_found ms (defs_listed C all) ++ behind)) e

  pub all-kept : (n : ℕ) (found : List (Option Found)) → length all ≤ n → FoundSoFar os (λ ms. defs_found ms (defs_listed C all)) (λ ms. defs_found ms (defs_listed C (drop n all))) [] found → FoundAll os (λ ms. defs_found ms (defs_listed C all)) found
  all-kept n found h k ms w =
      let end : found ++ [] ≡ defs_found ms (defs_listed C all) ++ [] = ap (λ z. found ++ (defs_found ms (defs_listed C z) ++ [])) (sym (drop_of_length-le all h)) ∙ k ms w [] in
      sym (append-nil found) ∙ end ∙ append-nil (defs_found ms (defs_listed C all))

-- ---- a scope that gets its table

-- what hangs on no table stays what it is
module _ {A : Type 0} (f : List Opened → A) (x : A) (outer : List Open) (half new : Open) (same : new.id ≡ half.id) (names : new.names ≡ half.names) (unread : (id : _) (r : _) (a b : List ℕ) (ms : List Opened) → f (opened id r a ∷ ms) ≡ f (opened id r b ∷ ms))
    (k : (ms : List Opened) → OpenScopesShow (outer ++ half ∷ []) ms → x ≡ f ms) where
  behind-shown : (ms : List Opened) → ScopesShow (new ∷ reverse outer) ms → x ≡ f ms
  behind-shown [] h = absurd h
  behind-shown (m ∷ ms) h =
      let shows : Shows half (opened m.id m.names half.table.items) = record { id = ap (option_map id_of) (sym same) ∙ h.0.id; names = subst (λ r. Registers r m.names) names h.0.names; table = refl } in
      k (opened m.id m.names half.table.items ∷ ms) (pushed-shows outer half ms (opened m.id m.names half.table.items) h.1 shows) ∙ unread m.id m.names half.table.items m.table ms

  kept-behind : (inner : List Open) → inner ≡ outer ++ new ∷ [] → (ms : List Opened) → OpenScopesShow inner ms → x ≡ f ms
  kept-behind inner e ms h = behind-shown ms (subst (λ z. ScopesShow z ms) (ap reverse e ∙ reverse-append outer (new ∷ [])) h)

module _ (outer : List Open) (half new : Open) (same : new.id ≡ half.id) (names : new.names ≡ half.names) (ds : Defs) (inner : List Open) (e : inner ≡ outer ++ new ∷ []) where
  pub found-behind : (found : List (Option Found)) → FoundAll (outer ++ half ∷ []) (λ ms. defs_found ms ds) found → FoundAll inner (λ ms. defs_found ms ds) found
  found-behind found k = kept-behind (λ ms. defs_found ms ds) found outer half new same names (λ id r a b ms. defs-found-tabled id r a b ms ds) k inner e

  pub served-behind : (served : List (Option ℕ)) → ServedAll (outer ++ half ∷ []) (λ ms. defs_served ms ds no_counts) served → ServedAll inner (λ ms. defs_served ms ds no_counts) served
  served-behind served k = kept-behind (λ ms. defs_served ms ds no_counts) served outer half new same names (λ id r a b ms. defs-served-tabled id r a b ms ds no_counts) k inner e

-- ---- a definition that holds a scope

pub holding-taken : (C : List CoreModule) (os : List Open) (xs : List l.Leaf) (inner : Bor Scope) (left : List (Option Found)) → xs ≡ l.Scope inner ∷ [] → FoundTaken os (λ ms. all_found ms (listed C xs)) left left
holding-taken C os xs inner left e ms w = ap (λ z. z ++ left) (sym (ap (λ z. all_found ms (listed C z)) e ∙ ap (λ z. all_found ms (z ▸ no_leaf)) (leaf_scope C inner)))
