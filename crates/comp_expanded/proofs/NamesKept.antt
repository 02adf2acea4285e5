-- An expanded scope has the item names of the scope, by the same indices.
use Rattle.std.proofs.Common.{◌≡◌, ℕ, ◌+◌, Bool, true, false, List, [], ◌∷◌, ◌++◌, length, Option, Some, None, refl, sym, ◌∙◌, ap, subst, arith}
use Rattle.comp_model.specs.declared.Space.{Space}
use Rattle.comp_model.specs.declared.row.Row.{Row}
use Rattle.comp_model.specs.Core.{Text, Id, is_of_text, label_or_id}
use Rattle.comp_model.specs.Model.{Leaves, row, no_names, define, Defs, no_def, one_def, Scope}
use Rattle.comp_model.specs.Spaces.{same_space, declares_row}
use Rattle.comp_model.specs.NameMaps.{ItemName}
use Rattle.comp_model.specs.Origins.{Origin, written}
use Rattle.comp_model.specs.ItemNames.{PartName, first_or_none, rest_of, part_names, names_from, name_in_front}
use Rattle.comp_scopes.specs.Plan.{Mark, before}
use Rattle.comp_scopes.specs.Form.{names_in, maps_in}
use Rattle.comp_expanded.specs.Expansion.{Naming, Entry, entry_defs, given, with_given, given_names, Expanded, entry, expand_leaves, expand_defs}
use Rattle.comp_expanded.specs.Named.{MayBeGiven, DefsNamed}
use Rattle.comp_expanded.proofs.Ids.{EachListed, Nameless, nameless-leaves}
use Rattle.comp_expanded.proofs.Parts.{defs-split}

front-app : (b : Bool) (o : Option Text) (i : ℕ) (xs ys : List ItemName) → name_in_front b o i (xs ++ ys) ≡ name_in_front b o i xs ++ ys
front-app true (Some x) i xs ys = refl
front-app true None i xs ys = refl
front-app false o i xs ys = refl

front-none : (b : Bool) (i : ℕ) (xs : List ItemName) → name_in_front b None i xs ≡ xs
front-none true i xs = refl
front-none false i xs = refl

module _ (ms : List Mark) (s : Space) where
  names-app : (xs ys : List PartName) → names_in ms s (xs ++ ys) ≡ names_in ms s xs ++ names_in ms s ys
  names-app [] ys = refl
  names-app (x ∷ xs) ys = rw (names-app xs ys) (front-app (same_space s x.space) x.name (before s (written x.definition) ms + x.part) (names_in ms s xs) (names_in ms s ys))

  no-names : (k p : ℕ) (ss : List Space) → names_in ms s (part_names k p [] [] ss) ≡ []
  no-names k p [] = refl
  no-names k p (t ∷ ts) = front-none (same_space s t) (before s (written k) ms + p) (names_in ms s (part_names k (p + 1) [] [] ts)) ∙ no-names k (p + 1) ts

  generated-names : (k p : ℕ) (y : Id) (ss : List Space) → is_of_text y ≡ false → names_in ms s (part_names k p (Some y ∷ []) [] ss) ≡ []
  generated-names k p y [] h = refl
  generated-names k p y (t ∷ ts) h = rw h (front-none (same_space s t) (before s (written k) ms + p) (names_in ms s (part_names k (p + 1) [] [] ts)) ∙ no-names k (p + 1) ts)

  nameless-names : (j : ℕ) (xs ys : List Entry) → EachListed Nameless xs → names_in ms s (names_from j (entry_defs (xs ++ ys))) ≡ names_in ms s (names_from (j + length xs) (entry_defs ys))
  nameless-names j [] ys h = let z : j + 0 ≡ j = omega arith in rw z refl
  nameless-names j (x ∷ xs) ys h =
      let z : j + 1 + length xs ≡ j + length (x ∷ xs) = omega arith in
      names-app (part_names j 0 x.names.ids x.names.labels (declares_row x.head x.leaves)) (names_from (j + 1) (entry_defs (xs ++ ys)))
      ∙ rw (h.0.1, generated-names j 0 h.0.0 (declares_row x.head x.leaves) h.0.2) (nameless-names (j + 1) xs ys h.1 ∙ ap (λ n. names_in ms s (names_from n (entry_defs ys))) z)

  bare-names : (j : ℕ) (xs : List Entry) → EachListed (λ y. y.names ≡ no_names) xs → names_in ms s (names_from j (entry_defs xs)) ≡ []
  bare-names j [] h = refl
  bare-names j (x ∷ xs) h =
      names-app (part_names j 0 x.names.ids x.names.labels (declares_row x.head x.leaves)) (names_from (j + 1) (entry_defs xs))
      ∙ rw (h.0, no-names j 0 (declares_row x.head x.leaves)) (bare-names (j + 1) xs h.1)

module _ (ms ns : List Mark) where
  -- written definitions have the same indices
  abbrev pub Kept : ℕ → ℕ → Type 0
  Kept j k = (r : Space) → before r (written k) ms ≡ before r (written j) ns

  abbrev pub EachKept : ℕ → List Entry → Type 0
  EachKept j [] = Unit {0}
  EachKept j (x ∷ xs) = ((k : ℕ) → x.origin ≡ written k → Kept j k) × EachKept (j + 1) xs

  kept-right : (j : ℕ) (xs ys : List Entry) → EachKept j (xs ++ ys) → EachKept (j + length xs) ys
  kept-right j [] ys h = let z : j + 0 ≡ j = omega arith in rw z h
  kept-right j (x ∷ xs) ys h = let z : j + length (x ∷ xs) ≡ j + 1 + length xs = omega arith in rw z (kept-right (j + 1) xs ys h.1)

  module _ (s : Space) where
    same-parts : (k j p : ℕ) (ids : List (Option Id)) (labels : List (Option Text)) (ss : List Space) → Kept j k → names_in ms s (part_names k p ids labels ss) ≡ names_in ns s (part_names j p ids labels ss)
    same-parts k j p ids labels [] h = refl
    same-parts k j p ids labels (t ∷ ts) h = rw (h s, same-parts k j (p + 1) (rest_of ids) (rest_of labels) ts h) refl

    same-label : (l : Option Text) (y : Id) → is_of_text y ≡ false → label_or_id l (Some y) ≡ label_or_id l None
    same-label (Some t) y h = refl
    same-label None y h = rw h refl

    given-parts : (k j : ℕ) (ids : List (Option Id)) (labels : List (Option Text)) (y : Option Id) (ss : List Space) → MayBeGiven y → Kept j k → names_in ms s (part_names k 0 ids labels ss) ≡ names_in ns s (part_names j 0 (with_given ids y) labels ss)
    given-parts k j ids labels y [] m h = refl
    given-parts k j ids labels None (t ∷ ts) m h = same-parts k j 0 ids labels (t ∷ ts) h
    given-parts k j [] labels (Some y) (t ∷ ts) m h = rw (h s, same-label (first_or_none labels) y m, same-parts k j (0 + 1) [] (rest_of labels) ts h) refl
    given-parts k j (None ∷ ids) labels (Some y) (t ∷ ts) m h = rw (h s, same-label (first_or_none labels) y m, same-parts k j (0 + 1) ids (rest_of labels) ts h) refl
    given-parts k j (Some x ∷ ids) labels (Some y) (t ∷ ts) m h = same-parts k j 0 (Some x ∷ ids) labels (t ∷ ts) h

    pub same-names : (g : Naming) (c : Scope) (declares : (o : Origin) (k u : ℕ) (t : Row) (ls : Leaves) → declares_row t (expand_leaves g c o k u ls).here ≡ declares_row t ls) (k j : ℕ) (ds : Defs) (ys : List Entry) → DefsNamed g c k ds
        → EachListed (λ y. y.names ≡ no_names) ys → EachKept j (expand_defs g c k ds ++ ys) → names_in ms s (names_from k ds) ≡ names_in ns s (names_from j (entry_defs (expand_defs g c k ds ++ ys)))
    same-names g c declares k j no_def ys h q r = sym (bare-names ns s j ys q)
    same-names g c declares k j (one_def (define vs (row t ls)) ds) ys h q r =
        let a : Expanded Leaves = expand_leaves g c (written k) k 0 ls in
        let b : EachListed Nameless a.inlined × EachListed Nameless a.bundles = nameless-leaves g c (written k) k 0 ls h.2 in
        let own : Entry = entry (written k) (given_names vs (given g (written k))) t a in
        let more : List Entry = expand_defs g c (k + 1) ds in
        let e : expand_defs g c k (one_def (define vs (row t ls)) ds) ++ ys ≡ a.inlined ++ (a.bundles ++ own ∷ (more ++ ys)) = defs-split g c k vs t ls ds ys in
        let n : ℕ = j + length a.inlined + length a.bundles in
        let r' : EachKept n (own ∷ (more ++ ys)) = kept-right (j + length a.inlined) a.bundles (own ∷ (more ++ ys)) (kept-right j a.inlined (a.bundles ++ own ∷ (more ++ ys)) (subst (EachKept j) e r)) in
        names-app ms s (part_names k 0 vs.ids vs.labels (declares_row t ls)) (names_from (k + 1) ds)
        ∙ rw (
          given-parts k n vs.ids vs.labels (given g (written k)) (declares_row t ls) h.0 (r'.0 k refl),
          same-names g c declares (k + 1) (n + 1) ds ys h.3 q r'.1,
          e,
          nameless-names ns s j a.inlined (a.bundles ++ own ∷ (more ++ ys)) b.0,
          nameless-names ns s (j + length a.inlined) a.bundles (own ∷ (more ++ ys)) b.1,
          declares (written k) k 0 t ls,
        )
        (sym (names-app ns s (part_names n 0 (with_given vs.ids (given g (written k))) vs.labels (declares_row t ls)) (names_from (n + 1) (entry_defs (more ++ ys)))))

  pub same-maps : (xs ys : List PartName) → ((s : Space) → names_in ms s xs ≡ names_in ns s ys) → (ss : List Space) → maps_in ms xs ss ≡ maps_in ns ys ss
  same-maps xs ys h [] = refl
  same-maps xs ys h (s ∷ ss) = rw (h s, same-maps xs ys h ss) refl
