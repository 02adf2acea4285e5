-- Each scope of the text has an expansion: ids that tell the marks of their definitions serve it.
use Rattle.std.proofs.Common.{◌≡◌, ℕ, ◌+◌, ◌≤◌, Bool, true, false, ◌&&◌, bytes_eq, nat_eq, List, [], ◌∷◌, ◌++◌, Option, Some, None, IsSome, refl, sym, ◌∙◌, ap, subst, arith}
use Rattle.std.proofs.lemmas.List.{append_assoc, append-nil}
use Rattle.std.proofs.lemmas.Bool.{eqb-true}
use Rattle.std.proofs.lemmas.Slice.Eq.{bytes_eq-Decides}
use Rattle.comp_model.specs.declared.Space.{Space}
use Rattle.comp_model.specs.declared.row.Row.{Row}
use Rattle.comp_model.specs.Core.{Text, Id, is_of_text, same_id}
use Rattle.comp_model.specs.Model.{Leaf, ref, present, node, nodes, scope, inline, bundle, Leaves, no_leaf, ◌▸◌, row, Nodes, no_node, one_node, define, Defs, no_def, one_def, Scope, scope_of, defs_of}
use Rattle.comp_model.specs.declared.row.ScopeKind.{ScopeKind}
use Rattle.comp_model.specs.Spaces.{bears}
use Rattle.comp_model.specs.Origins.{Origin, numbers_of, written, inline_type, bundle_of, inline_export, export_step, outer_alias_of, name_section}
use Rattle.comp_expanded.specs.ListMarks.{ListMarks}
use Rattle.comp_model.proofs.Tests.{same_origin-true, same_origin-refl}
use Rattle.comp_scopes.specs.References.{references, references_leaf}
use Rattle.comp_scopes.specs.Reused.{reused}
use Rattle.comp_expanded.specs.Expansion.{Naming, inside, given, given_to_scope, first_id, ids_at, with_given, given_names, generated_names, Entry, Expanded, entry, expand_inline, expand_exports, expand_leaves, expand_leaf, expand_nodes, expand_defs, expand, expand_marks}
use Rattle.comp_expanded.specs.OfText.{TextIds, LeavesOfText, LeafOfText, NodesOfText, DefsOfText, OfText}
use Rattle.comp_expanded.specs.Named.{NewIds, IsGenerated, MayBeGiven, ExportsNamed, InlineNamed, NoneBears, GeneratedOnce, entry_ids, LeavesNamed, LeafNamed, NodesNamed, DefsNamed, Named}
use Rattle.comp_expanded.specs.Expands.{Expands}
use Rattle.comp_scopes.proofs.Lookup.{some-same}
use Rattle.comp_scopes.proofs.Counting.{hit}
use Rattle.comp_expanded.proofs.Ids.{EachListed, each-app, exports-bare, each-weaken}
use Rattle.comp_expanded.proofs.ScopeOf.{def_at}
use Rattle.comp_expanded.proofs.NamingExpands.{self_named, self-gives, defs-expand, exports-expand, expand-expands}
use Rattle.comp_expanded.proofs.Once.{tally, list-once}

-- ---- ids that tell the marks on the way to their definition

abbrev numbers_in : List Origin → Text
numbers_in [] = []
numbers_in (o ∷ os) = numbers_of o ++ numbers_in os

abbrev id_by : List Origin → Id
id_by p = record { name = numbers_in p; number = 1; offset = 0 }

abbrev pub by_marks : Naming
by_marks p = Some (id_by p)

numbers-app : (p q : List Origin) → numbers_in (p ++ q) ≡ numbers_in p ++ numbers_in q
numbers-app [] q = refl
numbers-app (o ∷ p) q = rw (numbers-app p q) (sym (append_assoc (numbers_of o) (numbers_in p) (numbers_in q)))

cancel : (xs ys zs : List ℕ) → xs ++ ys ≡ xs ++ zs → ys ≡ zs
cancel [] ys zs h = h
cancel (x ∷ xs) ys zs h = cancel xs ys zs (cc)

number-name : (x y : Id) → same_id x y ≡ true → x.name ≡ y.name
number-name x y h = go (bytes_eq x.name y.name) refl h
  where
    go : (b : Bool) → bytes_eq x.name y.name ≡ b → (b && nat_eq x.number y.number) ≡ true → x.name ≡ y.name
    go true e q = (bytes_eq-Decides x.name y.name).0 e
    go false e q = absurd (cc)

marks-told : (q : List Origin) (o p : Origin) → same_id (id_by (q ++ o ∷ [])) (id_by (q ++ p ∷ [])) ≡ true → o ≡ p
marks-told q o p h =
    let a : numbers_in (q ++ o ∷ []) ≡ numbers_in (q ++ p ∷ []) = number-name (id_by (q ++ o ∷ [])) (id_by (q ++ p ∷ [])) h in
    let b : numbers_in q ++ (numbers_of o ++ []) ≡ numbers_in q ++ (numbers_of p ++ []) = sym (numbers-app q (o ∷ [])) ∙ a ∙ numbers-app q (p ∷ []) in
    let c : numbers_of o ++ [] ≡ numbers_of p ++ [] = cancel (numbers_in q) (numbers_of o ++ []) (numbers_of p ++ []) b in
    same_origin-true o p ((bytes_eq-Decides (numbers_of o) (numbers_of p)).1 (sym (append-nil (numbers_of o)) ∙ c ∙ append-nil (numbers_of p)))

-- what a generated id is the same as is generated
same-generated : (x y : Id) → same_id x y ≡ true → is_of_text x ≡ false → is_of_text y ≡ false
same-generated x y h t = go (bytes_eq x.name y.name) h
  where
    go : (b : Bool) → (b && nat_eq x.number y.number) ≡ true → is_of_text y ≡ false
    go true q = subst (λ n. nat_eq n 0 ≡ false) (eqb-true x.number y.number q) t
    go false q = absurd (cc)

-- ---- the ids of one definition

abbrev EachId : (Id → Type 0) → List (Option Id) → Type 0
EachId P [] = Unit {0}
EachId P (None ∷ ids) = EachId P ids
EachId P (Some x ∷ ids) = P x × EachId P ids

-- a generated id of the definition is the one that is given to it, once
abbrev Own : Naming → Entry → Type 0
Own g x = GeneratedOnce x.names.ids × EachId (λ y. is_of_text y ≡ false → given g x.origin ≡ Some y) x.names.ids

pub text-once : (ids : List (Option Id)) → TextIds ids → GeneratedOnce ids
text-once [] t = tt
text-once (None ∷ ids) t = (tt, text-once ids t)
text-once (Some x ∷ ids) t = (λ q. absurd (cc), text-once ids t.1)

text-each : (P : Id → Type 0) (ids : List (Option Id)) → TextIds ids → EachId (λ y. is_of_text y ≡ false → P y) ids
text-each P [] t = tt
text-each P (None ∷ ids) t = text-each P ids t
text-each P (Some x ∷ ids) t = (λ q. absurd (cc), text-each P ids t.1)

none-text : (x : Id) (ids : List (Option Id)) → is_of_text x ≡ false → TextIds ids → NoneBears x ids
none-text x [] h t = tt
none-text x (None ∷ ids) h t = (refl, none-text x ids h t)
none-text x (Some y ∷ ids) h t = (go (same_id x y) refl, none-text x ids h t.1)
  where
    go : (b : Bool) → same_id x y ≡ b → b ≡ false
    go false e = refl
    go true e = let q : is_of_text y ≡ false = same-generated x y e h in absurd (cc)

own-written : (g : Naming) (o : Origin) (ids : List (Option Id)) (y : Option Id) → given g o ≡ y → TextIds ids → GeneratedOnce (with_given ids y) × EachId (λ z. is_of_text z ≡ false → given g o ≡ Some z) (with_given ids y)
own-written g o ids None e t = (text-once ids t, text-each (λ z. given g o ≡ Some z) ids t)
own-written g o [] (Some y) e t = ((λ q. tt, tt), (λ q. e, tt))
own-written g o (None ∷ ids) (Some y) e t = ((λ q. none-text y ids q t, text-once ids t), (λ q. e, text-each (λ z. given g o ≡ Some z) ids t))
own-written g o (Some x ∷ ids) (Some y) e t = (text-once (Some x ∷ ids) t, text-each (λ z. given g o ≡ Some z) (Some x ∷ ids) t)

own-generated : (g : Naming) (o : Origin) (y : Option Id) → given g o ≡ y → GeneratedOnce (y ∷ []) × EachId (λ z. is_of_text z ≡ false → given g o ≡ Some z) (y ∷ [])
own-generated g o None e = ((tt, tt), tt)
own-generated g o (Some y) e = ((λ q. tt, tt), (λ q. e, tt))

-- ---- each definition of an expanded list

module _ (g : Naming) (c : Scope) where
  abbrev OwnBoth : {H : Type 0} → Expanded H → Type 0
  OwnBoth a = EachListed (Own g) a.inlined × EachListed (Own g) a.bundles

  own-inline : (k u : ℕ) (s : Space) (t : Row) (r : Option Origin) (a : Expanded Leaves) → OwnBoth a → OwnBoth (expand_inline g c k u s t r a)
  own-inline k u s t (Some j) a h = (tt, tt)
  own-inline k u s t None a h = (
    each-app (Own g) a.inlined (a.bundles ++ entry (inline_type k u) (generated_names (given g (inline_type k u))) t a ∷ []) h.0
        (each-app (Own g) a.bundles (entry (inline_type k u) (generated_names (given g (inline_type k u))) t a ∷ []) h.1 (own-generated g (inline_type k u) (given g (inline_type k u)) refl, tt)),
    tt,
  )

  mutual
    own-leaves : (o : Origin) (k u : ℕ) (ls : Leaves) → OwnBoth (expand_leaves g c o k u ls)
    own-leaves o k u no_leaf = (tt, tt)
    own-leaves o k u (l ▸ ls) =
        let a : OwnBoth (expand_leaf g c o k u l) = own-leaf o k u l in
        let b : OwnBoth (expand_leaves g c o k (u + references_leaf l) ls) = own-leaves o k (u + references_leaf l) ls in
        (each-app (Own g) _ _ a.0 b.0, each-app (Own g) _ _ a.1 b.1)

    own-leaf : (o : Origin) (k u : ℕ) (l : Leaf) → OwnBoth (expand_leaf g c o k u l)
    own-leaf o k u (ref s (inline (row t ls))) = own-inline k u s t (reused (c ∷ []) k u t ls) (expand_leaves g c (inline_type k u) k (u + 1) ls) (own-leaves (inline_type k u) k (u + 1) ls)
    own-leaf o k u (ref s (bundle (row t ls))) =
        let b : OwnBoth (expand_leaves g c (bundle_of k u) k (u + 1) ls) = own-leaves (bundle_of k u) k (u + 1) ls in
        (b.0, each-app (Own g) _ _ b.1 (own-generated g (bundle_of k u) (given g (bundle_of k u)) refl, tt))
    own-leaf o k u (present l) = own-leaf o k u l
    own-leaf o k u (node (row t ls)) = own-leaves o k u ls
    own-leaf o k u (nodes ns) = own-nodes o k u ns
    own-leaf o k u (scope (scope_of kd id label ds)) = (tt, tt)
    own-leaf o k u l = (tt, tt)

    own-nodes : (o : Origin) (k u : ℕ) (ns : Nodes) → OwnBoth (expand_nodes g c o k u ns)
    own-nodes o k u no_node = (tt, tt)
    own-nodes o k u (one_node (row t ls) ns) =
        let a : OwnBoth (expand_leaves g c o k u ls) = own-leaves o k u ls in
        let b : OwnBoth (expand_nodes g c o k (u + references ls) ns) = own-nodes o k (u + references ls) ns in
        (each-app (Own g) _ _ a.0 b.0, each-app (Own g) _ _ a.1 b.1)

  own-defs : (k : ℕ) (ds : Defs) → DefsOfText ds → EachListed (Own g) (expand_defs g c k ds)
  own-defs k no_def t = tt
  own-defs k (one_def (define ns (row v ls)) ds) t =
      let a : Expanded Leaves = expand_leaves g c (written k) k 0 ls in
      let b : OwnBoth a = own-leaves (written k) k 0 ls in
      each-app (Own g) _ _ (each-app (Own g) a.inlined _ b.0 (each-app (Own g) a.bundles (entry (written k) (given_names ns (given g (written k))) v a ∷ []) b.1 (own-written g (written k) ns.ids (given g (written k)) refl t.0, tt))) (own-defs (k + 1) ds t.2)

  own-list : (ds : Defs) → DefsOfText ds → EachListed (Own g) (expand_defs g c 0 ds ++ expand_exports g 0 ds)
  own-list ds t = each-app (Own g) _ _ (own-defs 0 ds t) (each-weaken (λ y. y.names ≡ Rattle.comp_model.specs.Model.no_names) (Own g) (λ x e. subst (λ ns. GeneratedOnce ns.ids × EachId (λ y. is_of_text y ≡ false → given g x.origin ≡ Some y) ns.ids) (sym e) (tt, tt)) (expand_exports g 0 ds) (exports-bare g 0 ds))

-- ---- so generated ids are pairwise different

module _ (g : Naming) (new : NewIds g) where
  bears-apart : (o p : Origin) (x : Id) (y : Option Id) → given g o ≡ Some x → is_of_text x ≡ false → EachId (λ z. is_of_text z ≡ false → given g p ≡ Some z) (y ∷ []) → hit o p ≡ 0 → bears x y ≡ false
  bears-apart o p x None e t h z = refl
  bears-apart o p x (Some y) e t h z = go (same_id x y) refl
    where
      go : (b : Bool) → same_id x y ≡ b → b ≡ false
      go false f = refl
      go true f =
          let a : given g p ≡ Some y = h.0 (same-generated x y f t) in
          let k : o ≡ p = new.1 [] o p x y e a f in
          let l : hit o p ≡ 1 = subst (λ v. hit o v ≡ 1) k (rw (same_origin-refl o) refl) in
          let m : ◌≡◌ {A = ℕ} 0 1 = sym z ∙ l in absurd (omega (arith, m))

  ids-apart : (o p : Origin) (x : Id) (ids more : List (Option Id)) → given g o ≡ Some x → is_of_text x ≡ false → EachId (λ z. is_of_text z ≡ false → given g p ≡ Some z) ids → hit o p ≡ 0 → NoneBears x more → NoneBears x (ids ++ more)
  ids-apart o p x [] more e t h z n = n
  ids-apart o p x (None ∷ ids) more e t h z n = (refl, ids-apart o p x ids more e t h z n)
  ids-apart o p x (Some y ∷ ids) more e t h z n = (bears-apart o p x (Some y) e t (h.0, tt) z, ids-apart o p x ids more e t h.1 z n)

  list-apart : (o : Origin) (x : Id) (xs : List Entry) → given g o ≡ Some x → is_of_text x ≡ false → EachListed (Own g) xs → tally o xs ≡ 0 → NoneBears x (entry_ids xs)
  list-apart o x [] e t h z = tt
  list-apart o x (y ∷ xs) e t h z = let w : hit o y.origin + tally o xs ≡ 0 = z in ids-apart o y.origin x y.names.ids (entry_ids xs) e t h.0.1 (omega (arith, w)) (list-apart o x xs e t h.1 (omega (arith, w)))

  none-app : (x : Id) (xs ys : List (Option Id)) → NoneBears x xs → NoneBears x ys → NoneBears x (xs ++ ys)
  none-app x [] ys a b = b
  none-app x (y ∷ xs) ys a b = (a.0, none-app x xs ys a.1 b)

  once-ids : (o : Origin) (ids : List (Option Id)) (xs : List Entry) → GeneratedOnce ids → EachId (λ z. is_of_text z ≡ false → given g o ≡ Some z) ids → EachListed (Own g) xs → tally o xs ≡ 0 → GeneratedOnce (entry_ids xs) → GeneratedOnce (ids ++ entry_ids xs)
  once-ids o [] xs a h w z n = n
  once-ids o (None ∷ ids) xs a h w z n = (tt, once-ids o ids xs a.1 h w z n)
  once-ids o (Some y ∷ ids) xs a h w z n = (λ t. none-app y ids (entry_ids xs) (a.0 t) (list-apart o y xs (h.0 t) t w z), once-ids o ids xs a.1 h.1 w z n)

  list-once-ids : (xs : List Entry) → EachListed (Own g) xs → ((o : Origin) → tally o xs ≤ 1) → GeneratedOnce (entry_ids xs)
  list-once-ids [] h l = tt
  list-once-ids (x ∷ xs) h l =
      let a : hit x.origin x.origin ≡ 1 = rw (same_origin-refl x.origin) refl in
      let b : hit x.origin x.origin + tally x.origin xs ≤ 1 = l x.origin in
      once-ids x.origin x.names.ids xs h.0.0 h.0.1 h.1 (omega (arith, a, b)) (list-once-ids xs h.1 (λ o. less o (l o)))
    where
      less : (o : Origin) → hit o x.origin + tally o xs ≤ 1 → tally o xs ≤ 1
      less o w = omega (arith, w)

  whole-once : (kd : ScopeKind) (id : Option Id) (label : Option Text) (ds : Defs) → DefsOfText ds → DefsNamed g (scope_of kd id label ds) 0 ds → GeneratedOnce (entry_ids (expand_defs g (scope_of kd id label ds) 0 ds ++ expand_exports g 0 ds))
  whole-once kd id label ds t n =
      let c : Scope = scope_of kd id label ds in
      list-once-ids (expand_defs g c 0 ds ++ expand_exports g 0 ds) (own-list g c ds t)
      (list-once c (self_named g c) (expand_defs g c 0 ds) (expand_exports g 0 ds) (defs-expand (self_named g c) g c 0 ds (self-gives g c) n) (exports-expand (self_named g c) g c ds (self-gives g c).0 0 ds (λ i. ap (def_at ds) (omega arith)) n))

-- ---- and they serve each scope

first-there : (ids : List (Option Id)) (y : Option Id) → IsGenerated y → IsSome (first_id ids y)
first-there ids None h = absurd h
first-there [] (Some x) h = refl
first-there (None ∷ ids) (Some x) h = refl
first-there (Some z ∷ ids) (Some x) h = refl

exports-there : (ns : List Text) (y : Option Id) → IsSome y → ExportsNamed ns y
exports-there [] y h = tt
exports-there (n ∷ ns) y h = h

-- ids are new inside a definition too
new-inside : (g : Naming) (o : Origin) → NewIds g → NewIds (inside g o)
new-inside g o h = (λ p. h.0 (o ∷ p), λ q. h.1 (o ∷ q))

may-given : (y : Option Id) → IsGenerated y → MayBeGiven y
may-given None h = tt
may-given (Some x) h = h

inline-served : (g : Naming) (c : Scope) (k u : ℕ) (r : Option Origin) (P : Type 0) → NewIds g → P → InlineNamed g c k u r P
inline-served g c k u (Some (written j)) P h p = first-there (ids_at (defs_of c) j) (given g (written j)) (h.0 (written j ∷ []))
inline-served g c k u (Some (inline_type j v)) P h p = tt
inline-served g c k u (Some (bundle_of j v)) P h p = tt
inline-served g c k u (Some (inline_export j v)) P h p = tt
inline-served g c k u (Some (export_step j v i)) P h p = tt
inline-served g c k u (Some (outer_alias_of j v)) P h p = tt
inline-served g c k u (Some name_section) P h p = tt
inline-served g c k u None P h p = (h.0 (inline_type k u ∷ []), p)

mutual
  leaves-served : (g : Naming) (c : Scope) (o : Origin) (k u : ℕ) (ls : Leaves) → NewIds g → LeavesOfText ls → LeavesNamed g c o k u ls
  leaves-served g c o k u no_leaf h t = tt
  leaves-served g c o k u (l ▸ ls) h t = (leaf-served g c o k u l h t.0, leaves-served g c o k (u + references_leaf l) ls h t.1)

  leaf-served : (g : Naming) (c : Scope) (o : Origin) (k u : ℕ) (l : Leaf) → NewIds g → LeafOfText l → LeafNamed g c o k u l
  leaf-served g c o k u (ref s (inline (row y ls))) h t = inline-served g c k u (reused (c ∷ []) k u y ls) (LeavesNamed g c (inline_type k u) k (u + 1) ls) h (leaves-served g c (inline_type k u) k (u + 1) ls h t)
  leaf-served g c o k u (ref s (bundle (row y ls))) h t = (h.0 (bundle_of k u ∷ []), leaves-served g c (bundle_of k u) k (u + 1) ls h t)
  leaf-served g c o k u (present l) h t = leaf-served g c o k u l h t
  leaf-served g c o k u (node (row y ls)) h t = leaves-served g c o k u ls h t
  leaf-served g c o k u (nodes ns) h t = nodes-served g c o k u ns h t
  leaf-served g c o k u (scope (scope_of kd id label ds)) h t =
      let w : NewIds (inside g o) = new-inside g o h in
      let n : DefsNamed (inside g o) (scope_of kd id label ds) 0 ds = defs-served (inside g o) (scope_of kd id label ds) 0 ds w t.1 in
      (n, whole-once (inside g o) w kd id label ds t.1 n, may-given (given_to_scope (inside g o)) (w.0 (name_section ∷ [])))
  leaf-served g c o k u l h t = tt

  nodes-served : (g : Naming) (c : Scope) (o : Origin) (k u : ℕ) (ns : Nodes) → NewIds g → NodesOfText ns → NodesNamed g c o k u ns
  nodes-served g c o k u no_node h t = tt
  nodes-served g c o k u (one_node (row y ls) ns) h t = (leaves-served g c o k u ls h t.0, nodes-served g c o k (u + references ls) ns h t.1)

  defs-served : (g : Naming) (c : Scope) (k : ℕ) (ds : Defs) → NewIds g → DefsOfText ds → DefsNamed g c k ds
  defs-served g c k no_def h t = tt
  defs-served g c k (one_def (define ns (row y ls)) ds) h t = (
    may-given (given g (written k)) (h.0 (written k ∷ [])),
    exports-there ns.exports (first_id ns.ids (given g (written k))) (first-there ns.ids (given g (written k)) (h.0 (written k ∷ []))),
    leaves-served g c (written k) k 0 ls h t.1,
    defs-served g c (k + 1) ds h t.2,
  )

pub new-serve : (g : Naming) (s : Scope) → OfText s → NewIds g → Named g s
new-serve g (scope_of kd id label ds) t h =
    let n : DefsNamed g (scope_of kd id label ds) 0 ds = defs-served g (scope_of kd id label ds) 0 ds h t.1 in
    (n, whole-once g h kd id label ds t.1 n, may-given (given_to_scope g) (h.0 (name_section ∷ [])))

marks-new : NewIds by_marks
marks-new = (
  λ p. refl,
  λ q o p x y e f h. let i : id_by (q ++ o ∷ []) ≡ x = some-same (id_by (q ++ o ∷ [])) x e in let j : id_by (q ++ p ∷ []) ≡ y = some-same (id_by (q ++ p ∷ [])) y f in
      marks-told q o p (subst (λ v. same_id (id_by (q ++ o ∷ [])) v ≡ true) (sym j) (subst (λ v. same_id v y ≡ true) (sym i) h)),
)

pub text-expands : (s : Scope) → OfText s → (x : Scope) × (os : ListMarks) × Expands s x os
text-expands s t = (expand by_marks s, expand_marks by_marks s, expand-expands by_marks s (new-serve by_marks s t marks-new))

pub new-expands : (g : Naming) (s : Scope) → OfText s → NewIds g → Expands s (expand g s) (expand_marks g s)
new-expands g s t h = expand-expands g s (new-serve g s t h)
