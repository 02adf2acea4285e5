-- What stands in groups is read as one list of items.
use Rattle.std.proofs.Common.{◌≡◌, ℕ, List, [], ◌∷◌, ◌++◌, Bool, true, false, cond, ◌&&◌, ◌||◌, not, None, refl, sym, subst}
use Rattle.wast_grammar.specs.Classes.{opening, closing, keyword, same}
use Rattle.wast_grammar.specs.Clear.{never, no}
use Rattle.wast_grammar.specs.Stand.{Stand, class_at, class_after, moved}
use Rattle.wast_grammar.specs.Shape.{sound, consumes}
use Rattle.wast_grammar.specs.Grammar.{Grammar, Test, Value, holds, next, many_by, by_test, after, nothing}
use Rattle.wast_grammar.specs.Spells.{Spells, blank, token, behind, paired, one, other, one_by, other_by, none_by, more_by, makes}
use Rattle.wast_grammar.proofs.First.{filled, never_sound, no_sound}
use Rattle.wast_grammar.proofs.Same.{same_is}
use Rattle.wast_grammar.specs.CoreForms.{joint, is_empty_group, empty_group, is_empty_behind, next_items, some_groups, begins_group, groups_of}
use Rattle.core_syntax.specs.CoreView.{some_groups_view, groups_view}
use Rattle.core_groups.specs.Groups.{Further, no_further, one_further, no_item, first_item, Groups, no_group, one_group}
use Rattle.core_groups.proofs.Joined.{further_values}

-- tests of single classes, one behind the other
single : (a : Bool) → cond a true false ≡ false → a ≡ false
single true h = absurd (cc)
single false h = refl

three_right : (a b c d : Bool) → a ≡ true → b ≡ true → c ≡ true → ((cond a true false && (cond b true false && (cond c true false && true))) || d) ≡ true
three_right a b c d e f h = rw (e, f, h) refl

four_right : (a b c d : Bool) → a ≡ true → b ≡ true → c ≡ true → d ≡ true → (cond a true false && (cond b true false && (cond c true false && (cond d true false && true)))) ≡ true
four_right a b c d e f h i = rw (e, f, h, i) refl

empty_right : (a b c : Bool) → a ≡ true → b ≡ true → c ≡ true → (cond a true false && (cond b true false && (cond c true false && true))) ≡ true
empty_right a b c e f h = rw (e, f, h) refl

fourth_wrong : (a b c d : Bool) → d ≡ false → (cond a true false && (cond b true false && (cond c true false && (cond d true false && true)))) ≡ false
fourth_wrong true true true d h = rw h refl
fourth_wrong true true false d h = refl
fourth_wrong true false c d h = refl
fourth_wrong false b c d h = refl

third_wrong : (a b c : Bool) → c ≡ false → (cond a true false && (cond b true false && (cond c true false && true))) ≡ false
third_wrong true true c h = rw h refl
third_wrong true false c h = refl
third_wrong false b c h = refl

first_wrong : (a b : Bool) → a ≡ false → (cond a true false && b) ≡ false
first_wrong a b h = rw h refl

two_wrong : (a b c d : Bool) → (b && cond c true false) ≡ false → (cond a true false && (cond b true false && (cond c true false && (cond d true false && true)))) ≡ false
two_wrong true true true d h = absurd (cc)
two_wrong true true false d h = refl
two_wrong true false c d h = refl
two_wrong false b c d h = refl

none_right : (a b c d : Bool) → (b && cond c true false) ≡ false → d ≡ false → ((cond a true false && (cond b true false && (cond c true false && true))) || d) ≡ false
none_right true true true d h k = absurd (cc)
none_right true true false d h k = k
none_right true false c d h k = k
none_right false b c d h k = k

no_empty : (a b c : Bool) → (a && cond b true false) ≡ false → (cond a true false && (cond b true false && (cond c true false && true))) ≡ false
no_empty true true c h = absurd (cc)
no_empty true false c h = refl
no_empty false b c h = refl

begins : (a b : Bool) → a ≡ true → b ≡ true → (a && cond b true false) ≡ true
begins a b e f = rw (e, f) refl

or_right : (a b : Bool) → b ≡ true → (a || b) ≡ true
or_right true b h = refl
or_right false b h = h

not_single : (a : Bool) → a ≡ false → (true && not (cond a true false)) ≡ true
not_single a h = rw h refl

module _ (w : List ℕ) (q : Test) (g : Grammar) (z : sound g ≡ true) (filling : consumes g ≡ true) (apart : never g (next (closing ∷ [])) ≡ true) (ends : no q closing None ≡ true) where
  -- an item doesn't begin with `)`
  not_closing : {s t : Stand} {u : Value} → Spells g s t u → same (class_at s) closing ≡ false
  not_closing {s = s} d = single (same (class_at s) closing) (never_sound (next (closing ∷ [])) d z (filled d filling) apart)

  -- no further item begins with `)`
  no_more : (s : Stand) → same (class_at s) closing ≡ true → holds q s ≡ false
  no_more s c = no_sound q s closing None (same_is _ _ c) tt ends

  -- what is left behind an item, as it is read: groups without an item, then further items up to the last end
  data Behind : Stand → Stand → List Value → Type 0 where
    behind_item : {s t r : Stand} {v : Value} {us : List Value} → Spells (many_by (is_empty_behind w) (joint w)) s t v → Spells (after (next_items w q g) closing) t r (further_values us) → Behind s r us

  put_further : {s t r : Stand} {u : Value} {us : List Value} → holds q s ≡ true → Spells g s t u → Behind t r us → Behind s r (u ∷ us)
  put_further {s = s} i d (behind_item js (behind ns c)) =
      let n : same (class_at s) closing ≡ false = not_closing d in
      behind_item (none_by (first_wrong (same (class_at s) closing) _ n)) (behind (more_by (or_right _ (holds q s) i) (paired (makes (other blank) (not_single (same (class_at s) closing) n)) (paired d (makes js refl))) ns) c)

  all_further : {s t r : Stand} {us vs : List Value} → Further q g s t us → Behind t r vs → Behind s r (us ++ vs)
  all_further no_further b = b
  all_further (one_further i d f) b = put_further i d (all_further f b)

  -- an item in the next group
  put_group : {s t r : Stand} {u : Value} {us : List Value} → same (class_at s) closing ≡ true → same (class_at (moved s 1)) opening ≡ true → same (class_at (moved (moved s 1) 1)) (keyword w) ≡ true → Spells g (moved (moved (moved s 1) 1) 1) t u → Behind t r us
      → Behind s r (u ∷ us)
  put_group {s = s} c o k d (behind_item js (behind ns e)) =
      behind_item (none_by (fourth_wrong (same (class_at s) closing) (same (class_at (moved s 1)) opening) (same (class_at (moved (moved s 1) 1)) (keyword w)) (same (class_at (moved (moved (moved s 1) 1) 1)) closing) (not_closing d)))
      (behind (more_by (three_right (same (class_at s) closing) (same (class_at (moved s 1)) opening) (same (class_at (moved (moved s 1) 1)) (keyword w)) (holds q s) c o k) (paired (makes (one (token c (token o (token k blank)))) refl) (paired d (makes js refl))) ns) e)

  -- a group without an item
  put_empty : {s r : Stand} {us : List Value} → same (class_at s) closing ≡ true → same (class_at (moved s 1)) opening ≡ true → same (class_at (moved (moved s 1) 1)) (keyword w) ≡ true → same (class_at (moved (moved (moved s 1) 1) 1)) closing ≡ true
      → Behind (moved (moved (moved s 1) 1) 1) r us → Behind s r us
  put_empty {s = s} c o k e (behind_item js b) =
      behind_item (more_by (four_right (same (class_at s) closing) (same (class_at (moved s 1)) opening) (same (class_at (moved (moved s 1) 1)) (keyword w)) (same (class_at (moved (moved (moved s 1) 1) 1)) closing) c o k e) (token c (token o (token k blank))) js) b

  -- the end of a group, and groups
  no_group_behind : (s : Stand) → same (class_at s) closing ≡ true → holds (begins_group w) (moved s 1) ≡ false → Behind s (moved s 1) []
  no_group_behind s c h =
      behind_item (none_by (two_wrong (same (class_at s) closing) (same (class_at (moved s 1)) opening) (same (class_after (moved s 1)) (keyword w)) _ h))
      (behind (none_by (none_right (same (class_at s) closing) (same (class_at (moved s 1)) opening) (same (class_after (moved s 1)) (keyword w)) (holds q s) h (no_more s c))) c)

  -- the same where a group begins at a place that is behind its `)`
  put_group_at : {s p t r : Stand} {u : Value} {us : List Value} → p ≡ moved s 1 → same (class_at s) closing ≡ true → same (class_at p) opening ≡ true → same (class_at (moved p 1)) (keyword w) ≡ true → Spells g (moved (moved p 1) 1) t u → Behind t r us
      → Behind s r (u ∷ us)
  put_group_at {s = s} {t = t} {r = r} {u = u} {us = us} e =
      subst (λ x. same (class_at s) closing ≡ true → same (class_at x) opening ≡ true → same (class_at (moved x 1)) (keyword w) ≡ true → Spells g (moved (moved x 1) 1) t u → Behind t r us → Behind s r (u ∷ us)) (sym e) put_group

  put_empty_at : {s p r : Stand} {us : List Value} → p ≡ moved s 1 → same (class_at s) closing ≡ true → same (class_at p) opening ≡ true → same (class_at (moved p 1)) (keyword w) ≡ true → same (class_at (moved (moved p 1) 1)) closing ≡ true
      → Behind (moved (moved p 1) 1) r us → Behind s r us
  put_empty_at {s = s} {r = r} {us = us} e =
      subst (λ x. same (class_at s) closing ≡ true → same (class_at x) opening ≡ true → same (class_at (moved x 1)) (keyword w) ≡ true → same (class_at (moved (moved x 1) 1)) closing ≡ true → Behind (moved (moved x 1) 1) r us → Behind s r us) (sym e) put_empty

  all_groups : {p r : Stand} {us : List Value} → Groups w q g p r us → (s : Stand) → same (class_at s) closing ≡ true → p ≡ moved s 1 → holds (begins_group w) r ≡ false → Behind s r us
  all_groups no_group s c e h = subst (λ x. Behind s x []) (sym e) (no_group_behind s c (subst (λ x. holds (begins_group w) x ≡ false) e h))
  all_groups (one_group {t = t} o k no_item b gs) s c e h = put_empty_at e c o k b (all_groups gs t b refl h)
  all_groups (one_group {t = t} o k (first_item d f) b gs) s c e h = put_group_at e c o k d (all_further f (all_groups gs t b refl h))

  -- the same from the first group on
  data Front : Stand → Stand → List Value → Type 0 where
    front : {s t r : Stand} {v : Value} {us : List Value} → Spells (many_by (is_empty_group w) (empty_group w)) s t v → Spells (by_test (begins_group w) (some_groups w q g) nothing) t r (some_groups_view (λ x. x) us) → Front s r us

  put_first : {s t r : Stand} {u : Value} {us : List Value} → same (class_at s) opening ≡ true → same (class_at (moved s 1)) (keyword w) ≡ true → Spells g (moved (moved s 1) 1) t u → Behind t r us → Front s r (u ∷ us)
  put_first {s = s} o k d (behind_item js b) =
      front (none_by (third_wrong (same (class_at s) opening) (same (class_at (moved s 1)) (keyword w)) (same (class_at (moved (moved s 1) 1)) closing) (not_closing d)))
      (one_by (begins (same (class_at s) opening) (same (class_after s) (keyword w)) o k) (token o (token k (paired d (paired (makes js refl) b)))))

  put_empty_first : {s r : Stand} {us : List Value} → same (class_at s) opening ≡ true → same (class_at (moved s 1)) (keyword w) ≡ true → same (class_at (moved (moved s 1) 1)) closing ≡ true → Front (moved (moved (moved s 1) 1) 1) r us → Front s r us
  put_empty_first {s = s} o k c (front js b) =
      front (more_by (empty_right (same (class_at s) opening) (same (class_at (moved s 1)) (keyword w)) (same (class_at (moved (moved s 1) 1)) closing) o k c) (token o (behind (token k blank) c)) js) b

  from_front : {s r : Stand} {us : List Value} → Groups w q g s r us → holds (begins_group w) r ≡ false → Front s r us
  from_front {s = s} no_group h = front (none_by (no_empty (same (class_at s) opening) (same (class_after s) (keyword w)) _ h)) (other_by h blank)
  from_front (one_group o k no_item c gs) h = put_empty_first o k c (from_front gs h)
  from_front (one_group {t = t} o k (first_item d f) c gs) h = put_first o k d (all_further f (all_groups gs t c refl h))

  read_from : {s r : Stand} {us : List Value} → Front s r us → Spells (groups_of w q g) s r (groups_view (λ x. x) us)
  read_from (front js b) = paired (makes js refl) b

  pub split : {s r : Stand} {us : List Value} → Groups w q g s r us → holds (begins_group w) r ≡ false → Spells (groups_of w q g) s r (groups_view (λ x. x) us)
  split gs h = read_from (from_front gs h)
