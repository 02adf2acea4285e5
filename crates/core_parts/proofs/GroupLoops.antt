-- Reading the items of groups as loops do: groups without an item are gone behind, and a further item joins those so far.
use Rattle.std.proofs.Common.{◌≡◌, ℕ, ◌<◌, List, [], ◌∷◌, ◌++◌, Bool, true, false, cond, ◌&&◌, refl, sym, ap, subst, ◌∙◌, Result}
use Rattle.wast_tokens.specs.declared.error.Error.{Error}
use Rattle.wast_grammar.specs.Classes.{Class, opening, closing, keyword, same}
use Rattle.wast_grammar.specs.Grammar.{Grammar, Value, before, nothing, holds, none}
use Rattle.wast_grammar.specs.Stand.{Stand, class_at, moved}
use Rattle.wast_grammar.specs.Read.{Outcome, reads, fault, deep, Gives, read, left_of}
use Rattle.wast_grammar.specs.Shape.{sound, consumes}
use Rattle.wast_grammar.proofs.Fuel.{read_moves}
use Rattle.wast_parser.proofs.Many.{with_front}
use Rattle.wast_grammar.specs.CoreForms.{empty_group, empty_groups, is_empty_group, joint, is_empty_behind, empty_behind, next_item, next_items}
use Rattle.wast_grammar.specs.CoreRows.{is_value_type}
use Rattle.core_parts.specs.PartViews.{items_behind}
use Rattle.core_parts.proofs.ManyBy.{goes_past}

-- three tokens further on
abbrev pub past_three : Stand → Stand
past_three s = moved (moved (moved s 1) 1) 1

three : (a b c : Bool) → (cond a true false && (cond b true false && (cond c true false && true))) ≡ true → (a ≡ true) × (b ≡ true) × (c ≡ true)
three true true true h = (refl, refl, refl)
three true true false h = absurd (cc)
three true false c h = absurd (cc)
three false b c h = absurd (cc)

three_of_four : (a b c d : Bool) → (cond a true false && (cond b true false && (cond c true false && d))) ≡ true → (a ≡ true) × (b ≡ true) × (c ≡ true)
three_of_four true true true d h = (refl, refl, refl)
three_of_four true true false d h = absurd (cc)
three_of_four true false c d h = absurd (cc)
three_of_four false b c d h = absurd (cc)

group_read : (w : List ℕ) (s : Stand) → holds (is_empty_group w) s ≡ true → read (empty_group w) s ≡ reads none (past_three s)
group_read w s h =
    let e = three (same (class_at s) opening) (same (class_at (moved s 1)) (keyword w)) (same (class_at (moved (moved s 1) 1)) closing) h in
    rw (e.0, e.1, e.2) refl

joint_read : (w : List ℕ) (s : Stand) → holds (is_empty_behind w) s ≡ true → read (joint w) s ≡ reads none (past_three s)
joint_read w s h =
    let e = three_of_four (same (class_at s) closing) (same (class_at (moved s 1)) opening) (same (class_at (moved (moved s 1) 1)) (keyword w)) _ h in
    rw (e.0, e.1, e.2) refl

pub past_group : (w : List ℕ) (s : Stand) (total : Outcome) → holds (is_empty_group w) s ≡ true → read (empty_groups w) s ≡ total → read (empty_groups w) (past_three s) ≡ total
past_group w s total h so_far = goes_past (is_empty_group w) (empty_group w) none s (past_three s) total refl h (group_read w s h) so_far

pub group_falls : (w : List ℕ) (s : Stand) → holds (is_empty_group w) s ≡ true → left_of (past_three s) < left_of s
group_falls w s h = (read_moves (empty_group w) s none (past_three s) refl (group_read w s h)).falls refl

pub past_joint : (w : List ℕ) (s : Stand) (total : Outcome) → holds (is_empty_behind w) s ≡ true → read (empty_behind w) s ≡ total → read (empty_behind w) (past_three s) ≡ total
past_joint w s total h so_far = goes_past (is_empty_behind w) (joint w) none s (past_three s) total refl h (joint_read w s h) so_far

pub joint_falls : (w : List ℕ) (s : Stand) → holds (is_empty_behind w) s ≡ true → left_of (past_three s) < left_of s
joint_falls w s h = (read_moves (joint w) s none (past_three s) refl (joint_read w s h)).falls refl

-- further items can be read from left to right
pub sound_next_item : (w : List ℕ) (g : Grammar) → sound g ≡ true → consumes g ≡ true → sound (next_item w g) ≡ true
sound_next_item w g z k = rw z refl

pub has_token : (w : List ℕ) (g : Grammar) → consumes g ≡ true → consumes (next_item w g) ≡ true
has_token w g k = rw k refl

pub sound_next_items : (w : List ℕ) (g : Grammar) → sound g ≡ true → consumes g ≡ true → sound (next_items w is_value_type g) ≡ true
sound_next_items w g z k = rw (z, k) refl

-- a list with another item behind the first
pub behind_pushed : {A : Type 0} (x y : A) (xs : List A) → xs ≡ x ∷ items_behind xs → items_behind (xs ++ y ∷ []) ≡ items_behind xs ++ y ∷ []
behind_pushed x y [] h = absurd (cc)
behind_pushed x y (z ∷ xs) h = refl

pub begins_pushed : {A : Type 0} (x y : A) (xs : List A) → xs ≡ x ∷ items_behind xs → xs ++ y ∷ [] ≡ x ∷ items_behind (xs ++ y ∷ [])
begins_pushed x y xs h = ap (λ ys. ys ++ y ∷ []) h ∙ ap (λ ys. x ∷ ys) (sym (behind_pushed x y xs h))

-- a list with nothing before it
pub nothing_before : {A : Type 0} (f : A → Value) (o : Outcome) → with_front f [] o ≡ o
nothing_before f (reads v s) = refl
nothing_before f (fault s) = refl
nothing_before f (deep s) = refl

-- behind a token the rest is read
then_is : (c : Class) (g : Grammar) (s t : Stand) → read (before c nothing) s ≡ reads none t → read (before c g) s ≡ read g t
then_is c g s t h = go (same (class_at s) c) h
  where
    go : (b : Bool) → cond b (reads none (moved s 1)) (fault s) ≡ reads none t → cond b (read g (moved s 1)) (fault s) ≡ read g t
    go true i = let x : moved s 1 ≡ t = cc in ap (read g) x
    go false i = absurd (cc)

pub then_gives : {X : Type 0} (view : X → Value) (result : Result X Error) (c : Class) (g : Grammar) (s t r : Stand) → read (before c nothing) s ≡ reads none t → Gives view result r (read g t)
    → Gives view result r (read (before c g) s)
then_gives view result c g s t r h gives = subst (λ o. Gives view result r o) (sym (then_is c g s t h)) gives

-- behind what a look at three tokens found, where the loop stands
pub goes_over : (s p q r : Stand) → p ≡ s → q ≡ past_three p → r ≡ q → r ≡ past_three s
goes_over s p q r e h i = i ∙ (h ∙ ap past_three e)
