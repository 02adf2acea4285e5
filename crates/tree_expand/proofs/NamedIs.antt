-- By what an inline node is named.
use Rattle.std.proofs.Common.{◌≡◌, ℕ, ◌+◌, List, [], ◌∷◌, ◌++◌, Option, Some, None, ap, ◌∙◌, subst}
use Rattle.comp_model.specs.declared.row.Row.{Row}
use Rattle.comp_model.specs.Core.{Id}
use Rattle.comp_model.specs.CoreModules.{CoreModule}
use Rattle.comp_model.specs.Model.{Leaves}
use Rattle.comp_expanded.specs.Expansion.{Entry, the_id}
use Rattle.comp_tree.specs.declared.tree.Def.{Def}
use Rattle.comp_tree.specs.Entries.{entries_of}
use Rattle.comp_tree.proofs.Entries.{entries_app}
use Rattle.type_keys.specs.Keys.{Part, part_type, stands_for}
use Rattle.type_keys.specs.declared.key.TypeKey.{TypeKey}
use Rattle.tree_expand.specs.KeyParts.{KeyShows}
use Rattle.tree_expand.specs.Known.{Shows}
use Rattle.tree_expand.specs.Passed.{Noted, types_in, ids_in}
use Rattle.tree_expand.specs.Numbering.{id_at, id_numbered, noted_inline}
use Rattle.tree_expand.specs.Walked.{NamedBy}
use Rattle.tree_expand.specs.declared.known.Known.{Known}

module _ (xs : List Noted) (k u : ℕ) (t : Row) (ls : Leaves) (own : Id → Entry) (front : List Entry) (outer : Option TypeKey) (m : ℕ) where
  pub named_equal : (n : ℕ) (x : Id) (new : List Entry) (key : Option TypeKey) (known : Known) (made : ℕ) → Some n ≡ stands_for (types_in xs) t ls → x ≡ the_id (id_at (ids_in xs) n) → new ≡ front → Shows known xs → made ≡ m
      → ((ps : List Part) → KeyShows outer ps → KeyShows key (ps ++ part_type (Some n) ∷ [])) → NamedBy xs k u t ls own front outer m (stands_for (types_in xs) t ls) x new key known made
  named_equal n x new key known made e a b c d f = subst (λ q. NamedBy xs k u t ls own front outer m q x new key known made) e (a, b, c, d, f)

  pub named_own : (n : Option ℕ) (x : Id) (mid new : List Entry) (key : Option TypeKey) (known : Known) (made : ℕ) → None ≡ stands_for (types_in xs) t ls → x ≡ id_numbered (m + 1) → new ≡ mid ++ own x ∷ [] → mid ≡ front → made ≡ m + 1
      → Shows known (xs ++ noted_inline k u t ls x) × (n ≡ stands_for (types_in (xs ++ noted_inline k u t ls x)) t ls)
      → ((ps : List Part) → KeyShows outer ps → KeyShows key (ps ++ part_type n ∷ [])) → NamedBy xs k u t ls own front outer m (stands_for (types_in xs) t ls) x new key known made
  named_own n x mid new key known made e a b z d c f = subst (λ q. NamedBy xs k u t ls own front outer m q x new key known made) e (a, b ∙ ap (λ q. q ++ own x ∷ []) z, c.0, d, λ ps h. subst (λ y. KeyShows key (ps ++ part_type y ∷ [])) c.1 (f ps h))

-- definitions behind others
pub entries_behind : (cores : List CoreModule) (new xs ys zs : List Def) → new ≡ xs ++ ys → ys ≡ zs → entries_of cores new ≡ entries_of cores xs ++ entries_of cores zs
entries_behind cores new xs ys zs e f = ap (entries_of cores) (e ∙ ap (λ q. xs ++ q) f) ∙ entries_app cores xs zs
