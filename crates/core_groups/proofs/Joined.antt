-- What is read as one list of items stands in groups.
use Rattle.std.proofs.Common.{◌≡◌, ℕ, List, [], ◌∷◌, ◌++◌, Bool, true, false, cond, ◌&&◌, ◌||◌, not, refl, ap, ◌∙◌}
use Rattle.wast_grammar.specs.Classes.{opening, closing, keyword, same}
use Rattle.wast_grammar.specs.Stand.{Stand, class_at, class_after, moved}
use Rattle.wast_grammar.specs.Grammar.{Grammar, Test, Value, none, both, left, holds, many_by}
use Rattle.wast_grammar.specs.Spells.{Spells, blank, token, behind, paired, one, other, one_by, other_by, none_by, more_by, makes}
use Rattle.wast_parser.specs.View.{many_view}
use Rattle.wast_grammar.specs.CoreForms.{joint, empty_group, next_item, goes_on, next_items, some_groups, begins_group, groups_of}
use Rattle.core_syntax.specs.CoreView.{next_item_view, items_on_view, groups_view}
use Rattle.core_groups.specs.Groups.{Further, no_further, one_further, no_item, first_item, Groups, no_group, one_group}

-- the values of further items
abbrev pub further_values : List Value → Value
further_values us = many_view (next_item_view (λ u. u)) us

-- a test of three classes, or another: where the first is right, and neither holds, the other two are wrong
two_wrong : (a b c d : Bool) → a ≡ true → ((cond a true false && (cond b true false && (cond c true false && true))) || d) ≡ false → (b && cond c true false) ≡ false
two_wrong true true true d e h = absurd (cc)
two_wrong true true false d e h = refl
two_wrong true false c d e h = refl
two_wrong false b c d e h = absurd (cc)

-- such a test, whose first class is wrong
other_holds : (a b d : Bool) → (true && not (cond a true false)) ≡ true → ((cond a true false && b) || d) ≡ true → d ≡ true
other_holds true b d e h = absurd (cc)
other_holds false b d e h = h

module _ (w : List ℕ) (q : Test) (g : Grammar) where
  -- what is left behind an item: further items of its group, its end, and groups
  pub data Rest : Stand → Stand → List Value → Type 0 where
    rest : {s t r : Stand} {us vs : List Value} → Further q g s t us → same (class_at t) closing ≡ true → Groups w q g (moved t 1) r vs → Rest s r (us ++ vs)

  -- a group begins, whose first item stands before what is left
  pub with_first : {s t r : Stand} {u : Value} {us : List Value} → same (class_at s) opening ≡ true → same (class_at (moved s 1)) (keyword w) ≡ true → Spells g (moved (moved s 1) 1) t u → Rest t r us → Groups w q g s r (u ∷ us)
  with_first o k d (rest f c gs) = one_group o k (first_item d f) c gs

  with_further : {s t r : Stand} {u : Value} {us : List Value} → holds q s ≡ true → Spells g s t u → Rest t r us → Rest s r (u ∷ us)
  with_further i d (rest f c gs) = rest (one_further i d f) c gs

  -- a group ends, and another begins
  with_joint : {s t r : Stand} {v : Value} {us : List Value} → Spells (joint w) s t v → Rest t r us → Rest s r us
  with_joint (token c (token o (token k blank))) (rest no_further e gs) = rest no_further c (one_group o k no_item e gs)
  with_joint (token c (token o (token k blank))) (rest (one_further i d f) e gs) = rest no_further c (one_group o k (first_item d f) e gs)

  with_joints : {p : Test} {s t r : Stand} {v : Value} {us : List Value} → Spells (many_by p (joint w)) s t v → Rest t r us → Rest s r us
  with_joints (none_by h) l = l
  with_joints (more_by h d e) l = with_joint d (with_joints e l)

  -- a further item, in its group or in the next
  with_next : {s t r : Stand} {v : Value} {us : List Value} → holds (goes_on w q) s ≡ true → Spells (next_item w g) s t v → Rest t r us → (u : Value) × (v ≡ next_item_view (λ x. x) u) × Rest s r (u ∷ us)
  with_next h (paired (makes (one (token c (token o (token k blank)))) i) (paired {u = u} d (makes e j))) l = (u, refl, rest no_further c (with_first o k d (with_joints e l)))
  with_next {s = s} h (paired (makes (other blank) i) (paired {u = u} d (makes e j))) l = (u, refl, with_further (other_holds (same (class_at s) closing) _ (holds q s) i h) d (with_joints e l))

  -- no group follows
  quiet : (s : Stand) → same (class_at s) closing ≡ true → holds (goes_on w q) s ≡ false → holds (begins_group w) (moved s 1) ≡ false
  quiet s c h = two_wrong (same (class_at s) closing) (same (class_at (moved s 1)) opening) (same (class_after (moved s 1)) (keyword w)) (holds q s) c h

  all_next : {s t : Stand} {v : Value} → Spells (next_items w q g) s t v → same (class_at t) closing ≡ true → (us : List Value) × (v ≡ further_values us) × Rest s (moved t 1) us × (holds (begins_group w) (moved t 1) ≡ false)
  all_next {s = s} (none_by h) c = ([], refl, rest no_further c no_group, quiet s c h)
  all_next (more_by {v = v} h d e) c =
      let x = all_next e c in
      let y = with_next h d x.2 in
      (y.0 ∷ x.0, ap (λ a. both a v) y.1 ∙ ap (both (next_item_view (λ z. z) y.0)) x.1, y.2, x.3)

  -- groups that begin with an item
  some_joined : {s r : Stand} {v : Value} → Spells (some_groups w q g) s r v → (u : Value) × (us : List Value) × (v ≡ items_on_view (λ x. x) (u ∷ us)) × Groups w q g s r (u ∷ us) × (holds (begins_group w) r ≡ false)
  some_joined (token o (token k (paired {u = u} d (paired (makes e j) (behind f c))))) =
      let x = all_next f c in
      (u, x.0, ap (λ a. both u (both none a)) x.1, with_first o k d (with_joints e x.2), x.3)

  -- groups without an item before them
  with_empty : {p : Test} {s t r : Stand} {v : Value} {us : List Value} → Spells (many_by p (empty_group w)) s t v → Groups w q g t r us → Groups w q g s r us
  with_empty (none_by h) gs = gs
  with_empty (more_by h (token o (behind (token k blank) c)) e) gs = one_group o k no_item c (with_empty e gs)

  pub joined : {s r : Stand} {v : Value} → Spells (groups_of w q g) s r v → (us : List Value) × (v ≡ groups_view (λ x. x) us) × Groups w q g s r us × (holds (begins_group w) r ≡ false)
  joined (paired (makes e j) (one_by h d)) = let x = some_joined d in (x.0 ∷ x.1, ap (λ a. both none (left a)) x.2, with_empty e x.3, x.4)
  joined (paired (makes e j) (other_by h blank)) = ([], refl, with_empty e no_group, h)
