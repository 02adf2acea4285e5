-- Definitions that all stay as they are.
use Rattle.std.proofs.Common.{◌≡◌, ℕ, ◌+◌, ◌<◌, ◌≤◌, refl, sym, ap, ◌∙◌, subst, List, [], ◌∷◌, ◌++◌, append-nil, append_assoc, length, drop, get_or, Option, arith}
use Rattle.comp_model.specs.CoreModules.{CoreModule}
use Rattle.comp_model.specs.Spaces.{declares_row}
use Rattle.comp_scopes.specs.Encoding.{Encoding}
use Rattle.comp_expanded.specs.IsExpanded.{DefsExpanded}
use Rattle.comp_tables.specs.Walks.{all_more}
use Rattle.comp_tree.specs.declared.tree.Def.{Def}
use Rattle.comp_tree.specs.Lists.{listed, defs_listed}
use Rattle.open_scopes.specs.declared.scopes.Open.{Open}
use Rattle.tree_resolve.specs.Plain.{Plain, DefsPlain}
use Rattle.tree_resolve.specs.ScopeResolved.{DefsLeft, DefsResolvedTo}
use Rattle.tree_resolve.proofs.DefsLeft.{defs-step, defs-end}
use Rattle.tree_resolve.proofs.StaysPlain.{plain-built}

-- the item behind a list, and the lengths
behind-front : (xs ys : List Def) (y z : Def) → get_or (xs ++ y ∷ ys) (length xs) z ≡ y
behind-front [] ys y z = refl
behind-front (x ∷ xs) ys y z = behind-front xs ys y z

below-whole : (xs ys : List Def) (y : Def) → length xs < length (xs ++ y ∷ ys)
below-whole [] ys y = omega arith
below-whole (x ∷ xs) ys y = omega (arith, below-whole xs ys y)

longer-by-one : (xs : List Def) (y : Def) → length (xs ++ y ∷ []) ≡ length xs + 1
longer-by-one [] y = refl
longer-by-one (x ∷ xs) y = omega (arith, longer-by-one xs y)

-- one definition more is looked at
pub defs-more : (all : List Def) (n : ℕ) (d : Def) → drop n all ≡ d ∷ drop (n + 1) all → ((C : List CoreModule) → Plain (listed C d.node.leaves.now)) → DefsPlain (drop (n + 1) all) → DefsPlain (drop n all)
defs-more all n d e p h = subst DefsPlain (sym e) (p, h)

module _ (e : Encoding) (C : List CoreModule) (os : List Open) (all : List Def) where
  left-plain : (done rest : List Def) (c : List ℕ) (v : List (Option ℕ)) → done ++ rest ≡ all → DefsPlain rest → DefsExpanded (defs_listed C rest) → DefsLeft e C os c v all (drop (length done) all) done → DefsResolvedTo e C os all all
  left-plain done [] c v q p x k =
      let whole : done ≡ all = sym (append-nil done) ∙ q in
      let ends : length all ≤ length done = omega (arith, ap length whole) in
      defs-end e C os all c v (length done) all ends (subst (DefsLeft e C os c v all (drop (length done) all)) whole k)
  left-plain done (d ∷ ds) c v q p x k =
      let behind : List ℕ = all_more c (declares_row d.node.row (listed C d.node.leaves.now)) in
      let here : d ≡ get_or all (length done) d = sym (behind-front done ds d d) ∙ ap (λ z. get_or z (length done) d) q in
      let less : length done < length all = subst (λ z. length done < length z) q (below-whole done ds d) in
      let next = defs-step e C os all c v (length done) d done less here k (done ++ d ∷ []) behind v (plain-built e C os c v d done (p.0 C) (done ++ d ∷ []) behind k.sized x.0 refl refl) in
      left-plain (done ++ d ∷ []) ds behind v (append_assoc done (d ∷ []) ds ∙ q) p.1 x.2 (subst (λ n. DefsLeft e C os behind v all (drop n all) (done ++ d ∷ [])) (sym (longer-by-one done d)) next)

  pub plain-defs : (c : List ℕ) (v : List (Option ℕ)) → DefsPlain all → DefsExpanded (defs_listed C all) → DefsLeft e C os c v all all [] → DefsResolvedTo e C os all all
  plain-defs c v p x k = left-plain [] all c v refl p x k
