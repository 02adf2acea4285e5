-- The ids of an expanded list: those of the text as before, and generated ones, which no name of the text means.
use Rattle.std.proofs.Common.{◌≡◌, ℕ, ◌+◌, Bool, true, false, ◌&&◌, ◌||◌, cond, List, [], ◌∷◌, ◌++◌, length, find, is_some, Option, Some, None, refl, sym, ◌∙◌, ap, subst, arith, nat_eq, bytes_eq}
use Rattle.std.proofs.lemmas.Bool.{eqb-true}
use Rattle.std.proofs.Math.Bool.{or_assoc}
use Rattle.comp_model.specs.declared.Space.{Space}
use Rattle.comp_model.specs.declared.row.Row.TheVariants as rows
use Rattle.comp_model.specs.declared.row.Row.{Row}
use Rattle.comp_model.specs.Core.{Text, Id, outward, is_of_text, same_id, label_or_id}
use Rattle.comp_model.specs.Model.{Leaf, text, absent, name, ref, present, node, nodes, scope, inline, bundle, Leaves, no_leaf, ◌▸◌, row, Nodes, no_node, one_node, Names, no_names, define, Defs, no_def, one_def, Scope, scope_of}
use Rattle.comp_model.specs.Spaces.{same_space, declares_row, Declaration, parts, declarations_from, bears}
use Rattle.comp_model.specs.Origins.{Origin, written, inline_type, bundle_of, inline_export}
use Rattle.comp_expanded.specs.ListMarks.{nothing_inside}
use Rattle.comp_scopes.specs.References.{references, references_leaf}
use Rattle.comp_scopes.specs.Reused.{reused}
use Rattle.comp_model.specs.ItemNames.{part_names, names_from, any_named, first_or_none, rest_of}
use Rattle.comp_scopes.specs.Plan.{export_marks}
use Rattle.comp_expanded.specs.Expansion.{Naming, Entry, entry_defs, given, the_id, first_id, with_given, given_names, generated_names, Expanded, entry, expand_one, expand_inline, expand_exports_of, expand_exports, expand_leaves, expand_leaf, expand_nodes, expand_defs}
use Rattle.comp_expanded.specs.OfText.{TextId}
use Rattle.comp_expanded.specs.Named.{IsGenerated, MayBeGiven, InlineNamed, LeavesNamed, LeafNamed, NodesNamed, DefsNamed}
use Rattle.comp_expanded.proofs.Parts.{defs-split}
use Rattle.comp_scopes.proofs.Renaming.{named-app}
use Rattle.comp_scopes.proofs.EachOf.{EachOf, each_of-app, each_of-left, each_of-right}

-- ---- each definition of a list

abbrev pub EachListed : (Entry → Type 0) → List Entry → Type 0
EachListed P xs = EachOf P xs

pub each-app : (P : Entry → Type 0) (xs ys : List Entry) → EachListed P xs → EachListed P ys → EachListed P (xs ++ ys)
each-app = each_of-app

pub each-left : (P : Entry → Type 0) (xs ys : List Entry) → EachListed P (xs ++ ys) → EachListed P xs
each-left = each_of-left

pub each-right : (P : Entry → Type 0) (xs ys : List Entry) → EachListed P (xs ++ ys) → EachListed P ys
each-right = each_of-right

-- ---- what is generated for inline nodes and bundles has a generated id and nothing else

abbrev pub Nameless : Entry → Type 0
Nameless x = (y : Id) × (x.names ≡ generated_names (Some y)) × (is_of_text y ≡ false)

generated-nameless : (o : Origin) (t : Row) (a : Expanded Leaves) (y : Option Id) → IsGenerated y → Nameless (entry o (generated_names y) t a)
generated-nameless o t a None h = absurd h
generated-nameless o t a (Some y) h = (y, refl, h)

module _ (g : Naming) (c : Scope) where
  abbrev NamelessBoth : {H : Type 0} → Expanded H → Type 0
  NamelessBoth a = EachListed Nameless a.inlined × EachListed Nameless a.bundles

  nameless-inline : (k u : ℕ) (s : Space) (t : Row) (r : Option Origin) (P : Type 0) (a : Expanded Leaves) → InlineNamed g c k u r P → (P → NamelessBoth a) → NamelessBoth (expand_inline g c k u s t r a)
  nameless-inline k u s t (Some j) P a h f = (tt, tt)
  nameless-inline k u s t None P a h f =
      let b : NamelessBoth a = f h.1 in (
        each-app Nameless a.inlined (a.bundles ++ entry (inline_type k u) (generated_names (given g (inline_type k u))) t a ∷ []) b.0
            (each-app Nameless a.bundles (entry (inline_type k u) (generated_names (given g (inline_type k u))) t a ∷ []) b.1 (generated-nameless (inline_type k u) t a (given g (inline_type k u)) h.0, tt)),
        tt,
      )

  mutual
    pub nameless-leaves : (o : Origin) (k u : ℕ) (ls : Leaves) → LeavesNamed g c o k u ls → NamelessBoth (expand_leaves g c o k u ls)
    nameless-leaves o k u no_leaf h = (tt, tt)
    nameless-leaves o k u (l ▸ ls) h =
        let a : NamelessBoth (expand_leaf g c o k u l) = nameless-leaf o k u l h.0 in
        let b : NamelessBoth (expand_leaves g c o k (u + references_leaf l) ls) = nameless-leaves o k (u + references_leaf l) ls h.1 in
        (each-app Nameless _ _ a.0 b.0, each-app Nameless _ _ a.1 b.1)

    nameless-leaf : (o : Origin) (k u : ℕ) (l : Leaf) → LeafNamed g c o k u l → NamelessBoth (expand_leaf g c o k u l)
    nameless-leaf o k u (ref s (inline (row t ls))) h =
        nameless-inline k u s t (reused (c ∷ []) k u t ls) (LeavesNamed g c (inline_type k u) k (u + 1) ls) (expand_leaves g c (inline_type k u) k (u + 1) ls) h (nameless-leaves (inline_type k u) k (u + 1) ls)
    nameless-leaf o k u (ref s (bundle (row t ls))) h =
        let b : NamelessBoth (expand_leaves g c (bundle_of k u) k (u + 1) ls) = nameless-leaves (bundle_of k u) k (u + 1) ls h.1 in
        (b.0, each-app Nameless _ _ b.1 (generated-nameless (bundle_of k u) t (expand_leaves g c (bundle_of k u) k (u + 1) ls) (given g (bundle_of k u)) h.0, tt))
    nameless-leaf o k u (present l) h = nameless-leaf o k u l h
    nameless-leaf o k u (node (row t ls)) h = nameless-leaves o k u ls h
    nameless-leaf o k u (nodes ns) h = nameless-nodes o k u ns h
    nameless-leaf o k u (scope (scope_of kd id label ds)) h = (tt, tt)
    nameless-leaf o k u l h = (tt, tt)

    nameless-nodes : (o : Origin) (k u : ℕ) (ns : Nodes) → NodesNamed g c o k u ns → NamelessBoth (expand_nodes g c o k u ns)
    nameless-nodes o k u no_node h = (tt, tt)
    nameless-nodes o k u (one_node (row t ls) ns) h =
        let a : NamelessBoth (expand_leaves g c o k u ls) = nameless-leaves o k u ls h.0 in
        let b : NamelessBoth (expand_nodes g c o k (u + references ls) ns) = nameless-nodes o k (u + references ls) ns h.1 in
        (each-app Nameless _ _ a.0 b.0, each-app Nameless _ _ a.1 b.1)

-- ---- inline exports

pub no_exports : (P : Entry → Type 0) → ((x : Entry) → P x → x.names.exports ≡ []) → (j : ℕ) (xs : List Entry) → EachListed P xs → export_marks j (entry_defs xs) ≡ []
no_exports P f j [] h = refl
no_exports P f j (x ∷ xs) h = rw (f x h.0, no_exports P f (j + 1) xs h.1) refl

abbrev pub Unexported : Entry → Type 0
Unexported x = x.names.exports ≡ []

pub each-weaken : (P Q : Entry → Type 0) → ((x : Entry) → P x → Q x) → (xs : List Entry) → EachListed P xs → EachListed Q xs
each-weaken P Q f [] h = tt
each-weaken P Q f (x ∷ xs) h = (f x h.0, each-weaken P Q f xs h.1)

nameless-unexported : (x : Entry) → Nameless x → Unexported x
nameless-unexported x h = ap (λ (ns : Names). ns.exports) h.1

-- what holds of each export for an inline export name
abbrev an_export : Id → ℕ → ℕ → Text → Space → Entry
an_export x k j n s = record { origin = inline_export k j; places = 0 ∷ []; held = nothing_inside; names = no_names; head = rows.Export; leaves = text n ▸ absent ▸ ref s (name outward x) ▸ no_leaf }

module _ (P : Entry → Type 0) (one : (x : Id) (k j : ℕ) (n : Text) (s : Space) → P (an_export x k j n s)) where
  exports_of-each : (x : Id) (k j : ℕ) (ns : List Text) (ss : List Space) → EachListed P (expand_exports_of x k j ns ss)
  exports_of-each x k j [] ss = tt
  exports_of-each x k j (n ∷ ns) [] = tt
  exports_of-each x k j (n ∷ ns) (s ∷ ss) = (one x k j n s, exports_of-each x k (j + 1) ns (s ∷ ss))

  pub exports-each : (g : Naming) (k : ℕ) (ds : Defs) → EachListed P (expand_exports g k ds)
  exports-each g k no_def = tt
  exports-each g k (one_def (define ns (row t ls)) ds) = each-app P _ _ (exports_of-each (the_id (first_id ns.ids (given g (written k)))) k 0 ns.exports (declares_row t ls)) (exports-each g (k + 1) ds)

pub exports-bare : (g : Naming) (k : ℕ) (ds : Defs) → EachListed (λ y. y.names ≡ no_names) (expand_exports g k ds)
exports-bare = exports-each (λ y. y.names ≡ no_names) (λ x k j n s. refl)

pub defs-unexported : (g : Naming) (c : Scope) (k : ℕ) (ds : Defs) → DefsNamed g c k ds → EachListed Unexported (expand_defs g c k ds)
defs-unexported g c k no_def h = tt
defs-unexported g c k (one_def (define ns (row t ls)) ds) h =
    let a : Expanded Leaves = expand_leaves g c (written k) k 0 ls in
    let b : EachListed Nameless a.inlined × EachListed Nameless a.bundles = nameless-leaves g c (written k) k 0 ls h.2 in
    each-app Unexported _ _ (each-app Unexported _ _ (each-weaken Nameless Unexported nameless-unexported a.inlined b.0) (each-app Unexported _ _ (each-weaken Nameless Unexported nameless-unexported a.bundles b.1) (refl, tt)))
    (defs-unexported g c (k + 1) ds h.3)

pub list-unexported : (g : Naming) (c : Scope) (ds es : Defs) → DefsNamed g c 0 ds → EachListed Unexported (expand_defs g c 0 ds ++ expand_exports g 0 es)
list-unexported g c ds es h = each-app Unexported _ _ (defs-unexported g c 0 ds h) (each-weaken (λ y. y.names ≡ no_names) Unexported (λ x e. ap (λ (ns : Names). ns.exports) e) (expand_exports g 0 es) (exports-bare g 0 es))

-- ---- item names

no_parts-named : (k p : ℕ) (ss : List Space) → any_named (part_names k p [] [] ss) ≡ false
no_parts-named k p [] = refl
no_parts-named k p (s ∷ ss) = no_parts-named k (p + 1) ss

generated-named : (k p : ℕ) (y : Id) (ss : List Space) → is_of_text y ≡ false → any_named (part_names k p (Some y ∷ []) [] ss) ≡ false
generated-named k p y [] h = refl
generated-named k p y (s ∷ ss) h = rw (h, no_parts-named k (p + 1) ss) refl

part-number : (k j p : ℕ) (ids : List (Option Id)) (labels : List (Option Text)) (ss : List Space) → any_named (part_names k p ids labels ss) ≡ any_named (part_names j p ids labels ss)
part-number k j p ids labels [] = refl
part-number k j p ids labels (s ∷ ss) = rw (part-number k j (p + 1) (rest_of ids) (rest_of labels) ss) refl

given-label : (l : Option Text) (y : Id) → is_of_text y ≡ false → label_or_id l (Some y) ≡ label_or_id l None
given-label (Some t) y h = refl
given-label None y h = rw h refl

parts-given : (k j : ℕ) (ids : List (Option Id)) (labels : List (Option Text)) (y : Option Id) (ss : List Space) → MayBeGiven y → any_named (part_names j 0 (with_given ids y) labels ss) ≡ any_named (part_names k 0 ids labels ss)
parts-given k j ids labels y [] h = refl
parts-given k j ids labels None (s ∷ ss) h = part-number j k 0 ids labels (s ∷ ss)
parts-given k j [] labels (Some y) (s ∷ ss) h = rw (given-label (first_or_none labels) y h, part-number j k (0 + 1) [] (rest_of labels) ss) refl
parts-given k j (None ∷ ids) labels (Some y) (s ∷ ss) h = rw (given-label (first_or_none labels) y h, part-number j k (0 + 1) ids (rest_of labels) ss) refl
parts-given k j (Some x ∷ ids) labels (Some y) (s ∷ ss) h = part-number j k 0 (Some x ∷ ids) labels (s ∷ ss)

named_list : List Entry → Bool
named_list [] = false
named_list (x ∷ xs) = any_named (part_names 0 0 x.names.ids x.names.labels (declares_row x.head x.leaves)) || named_list xs

list-named : (j : ℕ) (xs : List Entry) → any_named (names_from j (entry_defs xs)) ≡ named_list xs
unfolding named_list
list-named j [] = refl
list-named j (x ∷ xs) =
    named-app (part_names j 0 x.names.ids x.names.labels (declares_row x.head x.leaves)) (names_from (j + 1) (entry_defs xs))
    ∙ rw (part-number j 0 0 x.names.ids x.names.labels (declares_row x.head x.leaves), list-named (j + 1) xs) refl

named_list-app : (xs ys : List Entry) → named_list (xs ++ ys) ≡ (named_list xs || named_list ys)
unfolding named_list
named_list-app [] ys = refl
named_list-app (x ∷ xs) ys = rw (named_list-app xs ys) (sym (or_assoc (any_named (part_names 0 0 x.names.ids x.names.labels (declares_row x.head x.leaves))) (named_list xs) (named_list ys)))

nameless-named : (xs : List Entry) → EachListed Nameless xs → named_list xs ≡ false
unfolding named_list
nameless-named [] h = refl
nameless-named (x ∷ xs) h = rw (h.0.1, generated-named 0 0 h.0.0 (declares_row x.head x.leaves) h.0.2, nameless-named xs h.1) refl

bare-named : (xs : List Entry) → EachListed (λ y. y.names ≡ no_names) xs → named_list xs ≡ false
unfolding named_list
bare-named [] h = refl
bare-named (x ∷ xs) h = rw (h.0, no_parts-named 0 0 (declares_row x.head x.leaves), bare-named xs h.1) refl

or-false : (b : Bool) → (b || false) ≡ b
or-false true = refl
or-false false = refl

module _ (g : Naming) (c : Scope) (declares : (o : Origin) (k u : ℕ) (t : Row) (ls : Leaves) → declares_row t (expand_leaves g c o k u ls).here ≡ declares_row t ls) where
  defs-named : (k : ℕ) (ds : Defs) → DefsNamed g c k ds → named_list (expand_defs g c k ds) ≡ any_named (names_from k ds)
  unfolding named_list
  defs-named k no_def h = refl
  defs-named k (one_def (define ns (row t ls)) ds) h =
      let a : Expanded Leaves = expand_leaves g c (written k) k 0 ls in
      let b : EachListed Nameless a.inlined × EachListed Nameless a.bundles = nameless-leaves g c (written k) k 0 ls h.2 in
      let own : List Entry = entry (written k) (given_names ns (given g (written k))) t a ∷ [] in
      let e : named_list own ≡ any_named (part_names k 0 ns.ids ns.labels (declares_row t ls)) =
      or-false (any_named (part_names 0 0 (with_given ns.ids (given g (written k))) ns.labels (declares_row t a.here)))
      ∙ ap (λ ss. any_named (part_names 0 0 (with_given ns.ids (given g (written k))) ns.labels ss)) (declares (written k) k 0 t ls)
      ∙ parts-given k 0 ns.ids ns.labels (given g (written k)) (declares_row t ls) h.0 in
      named_list-app (expand_one (written k) (given_names ns (given g (written k))) t a) (expand_defs g c (k + 1) ds)
      ∙ ap (λ v. v || named_list (expand_defs g c (k + 1) ds)) (
      named_list-app a.inlined (a.bundles ++ own) ∙ ap (λ v. v || named_list (a.bundles ++ own)) (nameless-named a.inlined b.0) ∙ named_list-app a.bundles own ∙ ap (λ v. v || named_list own) (nameless-named a.bundles b.1) ∙ e
      )
      ∙ ap (λ v. any_named (part_names k 0 ns.ids ns.labels (declares_row t ls)) || v) (defs-named (k + 1) ds h.3)
      ∙ sym (named-app (part_names k 0 ns.ids ns.labels (declares_row t ls)) (names_from (k + 1) ds))

  -- as many names stand in the expanded scope
  pub list-has_names : (ds : Defs) → DefsNamed g c 0 ds → any_named (names_from 0 (entry_defs (expand_defs g c 0 ds ++ expand_exports g 0 ds))) ≡ any_named (names_from 0 ds)
  list-has_names ds h =
      list-named 0 (expand_defs g c 0 ds ++ expand_exports g 0 ds) ∙ named_list-app (expand_defs g c 0 ds) (expand_exports g 0 ds)
      ∙ ap (λ v. named_list (expand_defs g c 0 ds) || v) (bare-named (expand_exports g 0 ds) (exports-bare g 0 ds)) ∙ or-false (named_list (expand_defs g c 0 ds)) ∙ defs-named 0 ds h

-- ---- what a name of the text means

abbrev pub wanted : Space → Id → Declaration → Bool
wanted s x d = same_space s d.space && bears x d.id

pub and-false : (b : Bool) → (b && false) ≡ false
and-false true = refl
and-false false = refl

-- a generated id is none of the text
pub text-generated : (x y : Id) → TextId x → is_of_text y ≡ false → same_id x y ≡ false
text-generated x y h i = go (nat_eq x.number y.number) refl
  where
    go : (b : Bool) → nat_eq x.number y.number ≡ b → (bytes_eq x.name y.name && b) ≡ false
    go false e = and-false (bytes_eq x.name y.name)
    go true e =
        let a : x.number ≡ 0 = eqb-true x.number 0 h in
        let b : x.number ≡ y.number = eqb-true x.number y.number e in
        let q : is_of_text y ≡ true = subst (λ n. nat_eq n 0 ≡ true) b h in
        absurd (cc)

-- the same part of the definitions of which P holds, or nothing in both
abbrev pub Found : (ℕ → ℕ → Type 0) → Option Declaration → Option Declaration → Type 0
Found P None None = Unit {0}
Found P None (Some e) = ⊥
Found P (Some d) None = ⊥
Found P (Some d) (Some e) = (e.part ≡ d.part) × P e.definition d.definition

pub found-some : (P : ℕ → ℕ → Type 0) (a b : Option Declaration) → Found P a b → is_some b ≡ is_some a
found-some P None None h = refl
found-some P None (Some e) h = absurd h
found-some P (Some d) None h = absurd h
found-some P (Some d) (Some e) h = refl

module _ (s : Space) (x : Id) (text : TextId x) where
  -- parts without ids
  find-none : (k p : ℕ) (ss : List Space) (rest : List Declaration) → find (wanted s x) (parts k p [] ss ++ rest) ≡ find (wanted s x) rest
  find-none k p [] rest = refl
  find-none k p (t ∷ ts) rest = rw (and-false (same_space s t)) (find-none k (p + 1) ts rest)

  find-generated : (k p : ℕ) (y : Id) (ss : List Space) (rest : List Declaration) → is_of_text y ≡ false → find (wanted s x) (parts k p (Some y ∷ []) ss ++ rest) ≡ find (wanted s x) rest
  find-generated k p y [] rest h = refl
  find-generated k p y (t ∷ ts) rest h = rw (text-generated x y text h, and-false (same_space s t)) (find-none k (p + 1) ts rest)

  -- parts with the same ids
  find-parts : (P : ℕ → ℕ → Type 0) (k j p : ℕ) (ids : List (Option Id)) (ss : List Space) (rest later : List Declaration) → P j k → Found P (find (wanted s x) rest) (find (wanted s x) later)
      → Found P (find (wanted s x) (parts k p ids ss ++ rest)) (find (wanted s x) (parts j p ids ss ++ later))
  find-parts P k j p ids [] rest later h f = f
  find-parts P k j p [] (t ∷ ts) rest later h f = rw (and-false (same_space s t)) (find-parts P k j (p + 1) [] ts rest later h f)
  find-parts P k j p (y ∷ ys) (t ∷ ts) rest later h f = go (same_space s t && bears x y) (find-parts P k j (p + 1) ys ts rest later h f)
    where
      go : (b : Bool) → Found P (find (wanted s x) (parts k (p + 1) ys ts ++ rest)) (find (wanted s x) (parts j (p + 1) ys ts ++ later))
          → Found P (cond b (Some (record { space = t; id = y; definition = k; part = p })) (find (wanted s x) (parts k (p + 1) ys ts ++ rest))) (cond b (Some (record { space = t; id = y; definition = j; part = p })) (find (wanted s x) (parts j (p + 1) ys ts ++ later)))
      go true r = (refl, h)
      go false r = r

  find-given : (P : ℕ → ℕ → Type 0) (k j : ℕ) (ids : List (Option Id)) (y : Option Id) (ss : List Space) (rest later : List Declaration) → MayBeGiven y → P j k → Found P (find (wanted s x) rest) (find (wanted s x) later)
      → Found P (find (wanted s x) (parts k 0 ids ss ++ rest)) (find (wanted s x) (parts j 0 (with_given ids y) ss ++ later))
  find-given P k j ids y [] rest later m h f = f
  find-given P k j ids None (t ∷ ts) rest later m h f = find-parts P k j 0 ids (t ∷ ts) rest later h f
  find-given P k j [] (Some y) (t ∷ ts) rest later m h f = rw (text-generated x y text m, and-false (same_space s t)) (find-parts P k j (0 + 1) [] ts rest later h f)
  find-given P k j (None ∷ ids) (Some y) (t ∷ ts) rest later m h f = rw (text-generated x y text m, and-false (same_space s t)) (find-parts P k j (0 + 1) ids ts rest later h f)
  find-given P k j (Some z ∷ ids) (Some y) (t ∷ ts) rest later m h f = find-parts P k j 0 (Some z ∷ ids) (t ∷ ts) rest later h f

  -- what is generated is passed over
  find-nameless : (j : ℕ) (xs ys : List Entry) → EachListed Nameless xs → find (wanted s x) (declarations_from j (entry_defs (xs ++ ys))) ≡ find (wanted s x) (declarations_from (j + length xs) (entry_defs ys))
  find-nameless j [] ys h = let z : j + 0 ≡ j = omega arith in rw z refl
  find-nameless j (y ∷ xs) ys h =
      let z : j + 1 + length xs ≡ j + length (y ∷ xs) = omega arith in
      rw (h.0.1, find-generated j 0 h.0.0 (declares_row y.head y.leaves) (declarations_from (j + 1) (entry_defs (xs ++ ys))) h.0.2) (find-nameless (j + 1) xs ys h.1 ∙ ap (λ n. find (wanted s x) (declarations_from n (entry_defs ys))) z)

  find-bare : (j : ℕ) (xs : List Entry) → EachListed (λ y. y.names ≡ no_names) xs → find (wanted s x) (declarations_from j (entry_defs xs)) ≡ None
  find-bare j [] h = refl
  find-bare j (y ∷ xs) h = rw (h.0, find-none j 0 (declares_row y.head y.leaves) (declarations_from (j + 1) (entry_defs xs))) (find-bare (j + 1) xs h.1)

  module _ (P : ℕ → ℕ → Type 0) (g : Naming) (c : Scope) (declares : (o : Origin) (k u : ℕ) (t : Row) (ls : Leaves) → declares_row t (expand_leaves g c o k u ls).here ≡ declares_row t ls) where
    -- P holds of each written definition of a list
    abbrev pub Holds : ℕ → List Entry → Type 0
    Holds j [] = Unit {0}
    Holds j (y ∷ ys) = ((k : ℕ) → y.origin ≡ written k → P j k) × Holds (j + 1) ys

    pub holds-right : (j : ℕ) (xs ys : List Entry) → Holds j (xs ++ ys) → Holds (j + length xs) ys
    holds-right j [] ys h = let z : j + 0 ≡ j = omega arith in rw z h
    holds-right j (y ∷ xs) ys h = let z : j + length (y ∷ xs) ≡ j + 1 + length xs = omega arith in rw z (holds-right (j + 1) xs ys h.1)

    pub find-defs : (k j : ℕ) (ds : Defs) (ys : List Entry) → DefsNamed g c k ds → EachListed (λ y. y.names ≡ no_names) ys → Holds j (expand_defs g c k ds ++ ys)
        → Found P (find (wanted s x) (declarations_from k ds)) (find (wanted s x) (declarations_from j (entry_defs (expand_defs g c k ds ++ ys))))
    find-defs k j no_def ys h q r = rw (find-bare j ys q) tt
    find-defs k j (one_def (define ns (row t ls)) ds) ys h q r =
        let a : Expanded Leaves = expand_leaves g c (written k) k 0 ls in
        let b : EachListed Nameless a.inlined × EachListed Nameless a.bundles = nameless-leaves g c (written k) k 0 ls h.2 in
        let own : Entry = entry (written k) (given_names ns (given g (written k))) t a in
        let more : List Entry = expand_defs g c (k + 1) ds in
        let e : expand_defs g c k (one_def (define ns (row t ls)) ds) ++ ys ≡ a.inlined ++ (a.bundles ++ own ∷ (more ++ ys)) = defs-split g c k ns t ls ds ys in
        let n : ℕ = j + length a.inlined + length a.bundles in
        let r' : Holds n (own ∷ (more ++ ys)) = holds-right (j + length a.inlined) a.bundles (own ∷ (more ++ ys)) (holds-right j a.inlined (a.bundles ++ own ∷ (more ++ ys)) (subst (Holds j) e r)) in
        rw (e, find-nameless j a.inlined (a.bundles ++ own ∷ (more ++ ys)) b.0, find-nameless (j + length a.inlined) a.bundles (own ∷ (more ++ ys)) b.1, declares (written k) k 0 t ls)
        (find-given P k n ns.ids (given g (written k)) (declares_row t ls) (declarations_from (k + 1) ds) (declarations_from (n + 1) (entry_defs (more ++ ys))) h.0 (r'.0 k refl) (find-defs (k + 1) (n + 1) ds ys h.3 q r'.1))
