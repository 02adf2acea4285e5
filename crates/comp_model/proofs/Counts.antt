-- Items are counted along a scope.
use Rattle.std.proofs.Common.{◌≡◌, ℕ, suc, ◌+◌, Bool, true, false, cond, List, [], ◌∷◌, ◌++◌, length, filter, slice_get, Option, None, refl, sym, ◌∙◌, ap, arith, zero-add}
use Rattle.std.proofs.lemmas.List.Elements.{filter-append}
use Rattle.std.proofs.lemmas.List.{length-append}
use Rattle.comp_model.specs.declared.Space.{Space}
use Rattle.comp_model.specs.Core.{Id}
use Rattle.comp_model.specs.Model.{row, define, Defs, no_def, one_def, count_defs}
use Rattle.comp_model.specs.Spaces.{same_space, declares_row, Declaration, parts, declarations_from, items_from, count_in, count_items, append_defs}

slice_get-app : {A : Type 0} (xs ys : List A) (i : ℕ) → slice_get (xs ++ ys) (length xs + i) ≡ slice_get ys i
slice_get-app [] ys i = rw zero-add refl
slice_get-app (x ∷ xs) ys i = let e : suc (length xs) + i ≡ suc (length xs + i) = omega arith in rw e (slice_get-app xs ys i)

count-parts : (s : Space) (k p : ℕ) (ids : List (Option Id)) (ss : List Space) → length (filter (λ d. same_space s d.space) (parts k p ids ss)) ≡ count_in s ss
count-parts s k p ids [] = refl
count-parts s k p [] (t ∷ ts) = go (same_space s t) (count-parts s k (p + 1) [] ts)
  where
    go : (b : Bool) → length (filter (λ d. same_space s d.space) (parts k (p + 1) [] ts)) ≡ count_in s ts
        → length (cond b (record { space = t; id = None; definition = k; part = p } ∷ filter (λ d. same_space s d.space) (parts k (p + 1) [] ts)) (filter (λ d. same_space s d.space) (parts k (p + 1) [] ts))) ≡ length (cond b (t ∷ filter (same_space s) ts) (filter (same_space s) ts))
    go true h = ap suc h
    go false h = h
count-parts s k p (x ∷ xs) (t ∷ ts) = go (same_space s t) (count-parts s k (p + 1) xs ts)
  where
    go : (b : Bool) → length (filter (λ d. same_space s d.space) (parts k (p + 1) xs ts)) ≡ count_in s ts
        → length (cond b (record { space = t; id = x; definition = k; part = p } ∷ filter (λ d. same_space s d.space) (parts k (p + 1) xs ts)) (filter (λ d. same_space s d.space) (parts k (p + 1) xs ts))) ≡ length (cond b (t ∷ filter (same_space s) ts) (filter (same_space s) ts))
    go true h = ap suc h
    go false h = h

-- as many items as are counted
pub items-counted : (s : Space) (k : ℕ) (ds : Defs) → length (items_from s k ds) ≡ count_items s ds
items-counted s k no_def = refl
items-counted s k (one_def (define names (row t ls)) ds) =
    ap length (filter-append (λ d. same_space s d.space) (parts k 0 names.ids (declares_row t ls)) (declarations_from (k + 1) ds))
    ∙ length-append (filter (λ d. same_space s d.space) (parts k 0 names.ids (declares_row t ls))) (items_from s (k + 1) ds)
    ∙ rw (count-parts s k 0 names.ids (declares_row t ls), items-counted s (k + 1) ds) refl

declarations-app : (k : ℕ) (ds es : Defs) → declarations_from k (append_defs ds es) ≡ declarations_from k ds ++ declarations_from (k + count_defs ds) es
declarations-app k no_def es = let z : k + 0 ≡ k = omega arith in rw z refl
declarations-app k (one_def (define names (row t ls)) ds) es =
    let z : k + 1 + count_defs ds ≡ k + (count_defs ds + 1) = omega arith in
    ap (λ r. parts k 0 names.ids (declares_row t ls) ++ r) (declarations-app (k + 1) ds es ∙ ap (λ n. declarations_from (k + 1) ds ++ declarations_from n es) z)
    ∙ sym (app-assoc (parts k 0 names.ids (declares_row t ls)) (declarations_from (k + 1) ds) (declarations_from (k + (count_defs ds + 1)) es))
  where
    app-assoc : (xs ys zs : List Declaration) → (xs ++ ys) ++ zs ≡ xs ++ (ys ++ zs)
    app-assoc [] ys zs = refl
    app-assoc (x ∷ xs) ys zs = ap (λ r. x ∷ r) (app-assoc xs ys zs)

-- an item behind some definitions
pub item-behind : (s : Space) (k : ℕ) (ds es : Defs) (i : ℕ) → slice_get (items_from s k (append_defs ds es)) (count_items s ds + i) ≡ slice_get (items_from s (k + count_defs ds) es) i
item-behind s k ds es i =
    ap (λ xs. slice_get xs (count_items s ds + i)) (ap (filter (λ d. same_space s d.space)) (declarations-app k ds es) ∙ filter-append (λ d. same_space s d.space) (declarations_from k ds) (declarations_from (k + count_defs ds) es))
    ∙ ap (λ n. slice_get (items_from s k ds ++ items_from s (k + count_defs ds) es) (n + i)) (sym (items-counted s k ds))
    ∙ slice_get-app (items_from s k ds) (items_from s (k + count_defs ds) es) i
