-- Marks that are recorded one after the other, with their places.
use Rattle.std.proofs.Common.{◌≡◌, ℕ, ◌+◌, ◌<◌, ◌≤◌, ◌^◌, List, [], ◌∷◌, ◌++◌, length, drop, get_or, refl, sym, ◌∙◌, ap, subst, arith}
use Rattle.std.specs.List.{range_with_len}
use Rattle.std.proofs.Math.Nat.{min-eq_left}
use Rattle.std.proofs.lemmas.List.FromFn.{length-range_with_len}
use Rattle.std.proofs.lemmas.List.{drop_all, drop_more}
use Rattle.comp_model.specs.CoreModules.{CoreModule}
use Rattle.comp_expanded.specs.ListMarks.{ListMarks, mark_then, Inside, nothing_inside, inside_are, inside_first}
use Rattle.comp_wire.specs.declared.origin.ItemOrigin.{ItemOrigin}
use Rattle.comp_wire.specs.declared.origin.ScopeOrigins.{ScopeOrigins}
use Rattle.comp_wire.specs.Origins.{origin_of}
use Rattle.comp_tree.specs.declared.tree.Def.{Def}
use Rattle.comp_tree.specs.declared.tree.Scope.{Scope, out-Scope}
use Rattle.comp_walks.specs.Weigh.{capped}
use Rattle.comp_tree.specs.Marks.{inside_listed, marks_of, marks_listed, places_in, places_of}
use Rattle.comp_tree.specs.OriginMarks.{FewInside, FewPlaces, item_mark, marks_after, marks_of_items, marks_shown, recorded, recorded_inside, recorded_places}
use Rattle.comp_tree.proofs.Marks.{marks_fields}
use Rattle.comp_tree.proofs.OriginMarks.{mark_pushed, nothing_after}

module _ (C : List CoreModule) (defs : List Def) (i : ℕ) (d : Def) (within : i < length defs) (is : d ≡ get_or defs i d) where
  next : recorded (marks_listed C (drop i defs)) ≡ recorded (marks_listed C (d ∷ drop (i + 1) defs))
  next = ap (λ q. recorded (marks_listed C q)) (drop_more defs i d within) ∙ ap (λ q. recorded (marks_listed C (q ∷ drop (i + 1) defs))) (sym is)

  -- one more definition is told
  pub marks_turn : (xs ys : List ItemOrigin) (x : ItemOrigin) (ps : List ℕ) (h : Inside) (all : ListMarks) → ys ≡ xs ++ x ∷ [] → item_mark x ≡ (origin_of d.origin, (ps, h)) → ps ≡ recorded_places (origin_of d.origin) (places_in C d)
      → h ≡ recorded_inside (inside_listed C d.node.leaves.now) → marks_after (marks_of_items xs) (recorded (marks_listed C (drop i defs))) ≡ all → marks_after (marks_of_items ys) (recorded (marks_listed C (drop (i + 1) defs))) ≡ all
  marks_turn xs ys x ps h all e f p g k =
      ap (λ q. marks_after (marks_of_items q) (recorded (marks_listed C (drop (i + 1) defs)))) e
      ∙ mark_pushed xs x (origin_of d.origin) ps h (recorded (marks_listed C (drop (i + 1) defs))) f
      ∙ ap (λ q. marks_after (marks_of_items xs) (mark_then (origin_of d.origin) q h (recorded (marks_listed C (drop (i + 1) defs))))) p
      ∙ ap (λ q. marks_after (marks_of_items xs) (mark_then (origin_of d.origin) (recorded_places (origin_of d.origin) (places_in C d)) q (recorded (marks_listed C (drop (i + 1) defs))))) g
      ∙ ap (marks_after (marks_of_items xs)) (sym next)
      ∙ k

  -- its places and those in it are few, and those of the definitions after it
  pub few_turn : FewPlaces (recorded (marks_listed C (drop i defs))) → (length (recorded_places (origin_of d.origin) (places_in C d)) < 2 ^ 32) × FewInside (recorded_inside (inside_listed C d.node.leaves.now)) × FewPlaces (recorded (marks_listed C (drop (i + 1) defs)))
  few_turn h = subst FewPlaces next h

-- all definitions of a scope are told
pub all_told : (C : List CoreModule) (s : Scope) (items : List ItemOrigin) (os : ScopeOrigins) (i : ℕ) → marks_shown os ≡ marks_of_items items → length (out-Scope s).defs.now ≤ i
    → marks_after (marks_of_items items) (recorded (marks_listed C (drop i (out-Scope s).defs.now))) ≡ recorded (marks_listed C (out-Scope s).defs.now) → marks_shown os ≡ recorded (marks_of C s)
all_told C s items os i e l h =
    e
    ∙ sym (nothing_after (marks_of_items items))
    ∙ ap (λ q. marks_after (marks_of_items items) (recorded (marks_listed C q))) (sym (drop_all i (out-Scope s).defs.now l))
    ∙ h
    ∙ sym (ap recorded (marks_fields C s))

-- the first part that holds a scope
first-held : (a b : Inside) (ms : ListMarks) → inside_are ms ≡ recorded_inside a → inside_are ms ≡ recorded_inside (inside_first a b)
first-held nothing_inside b ms e = absurd (cc)
first-held (inside_are q) b ms e = e

none-held : (a b : Inside) → nothing_inside ≡ recorded_inside a → recorded_inside (inside_first a b) ≡ recorded_inside b
none-held nothing_inside b e = refl
none-held (inside_are q) b e = absurd (cc)

first-few : (a b : Inside) → FewInside (recorded_inside (inside_first a b)) → FewInside (recorded_inside a)
first-few nothing_inside b h = tt
first-few (inside_are q) b h = h

module _ {A : Type 0} (f : List A → Inside) (g : A → Inside) (each : (x : A) (xs : List A) → f (x ∷ xs) ≡ inside_first (g x) (f xs)) (all : List A) (i : ℕ) (d : A) (within : i < length all) (so_far : recorded_inside (f (drop i all)) ≡ recorded_inside (f all)) where
  whole : recorded_inside (inside_first (g (get_or all i d)) (f (drop (i + 1) all))) ≡ recorded_inside (f all)
  whole = ap recorded_inside (sym (each (get_or all i d) (drop (i + 1) all))) ∙ ap (λ q. recorded_inside (f q)) (sym (drop_more all i d within)) ∙ so_far

  pub held_there : (ms : ListMarks) → inside_are ms ≡ recorded_inside (g (get_or all i d)) → inside_are ms ≡ recorded_inside (f all)
  held_there ms e = first-held (g (get_or all i d)) (f (drop (i + 1) all)) ms e ∙ whole

  pub held_later : nothing_inside ≡ recorded_inside (g (get_or all i d)) → recorded_inside (f (drop (i + 1) all)) ≡ recorded_inside (f all)
  held_later e = sym (none-held (g (get_or all i d)) (f (drop (i + 1) all)) e) ∙ whole

  pub few_there : FewInside (recorded_inside (f all)) → FewInside (recorded_inside (g (get_or all i d)))
  few_there h = first-few (g (get_or all i d)) (f (drop (i + 1) all)) (subst FewInside (sym whole) h)

-- ---- places that are counted

counted : (n k : ℕ) → length (range_with_len 0 n) < 2 ^ 32 → k ≡ capped n → k ≡ n
counted n k h e = let l = length-range_with_len 0 n in e ∙ min-eq_left (omega (arith, h, l))

pub counted_few : (ps : List ℕ) (n k : ℕ) → length ps ≤ 0 → length (places_of ps n) < 2 ^ 32 → k ≡ capped n → k < 2 ^ 32
counted_few [] n k z h e = let l = length-range_with_len 0 n in let q = counted n k h e in omega (arith, q, h, l)
counted_few (p ∷ ps) n k z h e = absurd (omega (arith, z))

pub counted_places : (ps : List ℕ) (n k : ℕ) → length ps ≤ 0 → length (places_of ps n) < 2 ^ 32 → k ≡ capped n → range_with_len 0 k ≡ places_of ps n
counted_places [] n k z h e = ap (range_with_len 0) (counted n k h e)
counted_places (p ∷ ps) n k z h e = absurd (omega (arith, z))
