-- The types of a scope that stand for equal ones have their marks in its form, each with its node.
use Rattle.std.proofs.Common.{◌≡◌, ℕ, ◌+◌, ◌<◌, ◌≤◌, ◌⊎◌, inl, inr, Bool, true, false, ◌&&◌, ◌||◌, cond, List, [], ◌∷◌, ◌++◌, length, slice_get, Option, Some, None, refl, sym, ◌∙◌, ap, subst, arith}
use Rattle.comp_model.specs.declared.Space.{Space}
use Rattle.comp_model.specs.declared.Space.TheVariants.{Ty}
use Rattle.comp_model.specs.declared.row.Row.TheVariants as rows
use Rattle.comp_model.specs.declared.row.Row.{Row}
use Rattle.comp_model.specs.RowNumbers.{same_row, is_row}
use Rattle.comp_model.specs.Rows.{value_rows}
use Rattle.comp_model.specs.Model.{Leaf, ref, present, node, nodes, scope, inline, bundle, Leaves, no_leaf, ◌▸◌, row, Nodes, no_node, one_node, define, Defs, no_def, one_def, Scope, scope_of, defs_of}
use Rattle.comp_model.specs.Spaces.{declares_row}
use Rattle.comp_model.specs.Origins.{Origin, written, inline_type, bundle_of, same_origin}
use Rattle.comp_model.proofs.Tests.{same_row-true, same_origin-refl}
use Rattle.comp_scopes.specs.Encoding.{Encoding}
use Rattle.comp_scopes.specs.References.{references, references_leaf, references_nodes}
use Rattle.comp_scopes.specs.Signatures.{reused_signature}
use Rattle.comp_scopes.specs.Reused.{same_leaves, is_shared, Typed, earlier_type, typed_once, typed_inline, typed_within, types_of_leaves, types_of_leaf, types_of_nodes, written_type, types_of_defs, types, as_written, reused}
use Rattle.comp_scopes.specs.Form.{Made, Formed, own_made, form_one, form_inline, coded_node, form_defs, form_leaves, form_leaf, form_nodes, built}
use Rattle.comp_scopes.proofs.Lookup.{Sits, some-same}
use Rattle.comp_scopes.proofs.Each.{Each}
use Rattle.comp_scopes.proofs.Places.{At, at-left, at-right, at-sits, Stand, end-both, LastAt, last-at, OneAt, one-at}
use Rattle.comp_scopes.proofs.Aliases.{stand-left, stand-right, defs-stand}
use Rattle.comp_scopes.proofs.SameNodes.{SameLeaves, same_none, same_more, SameLeaf, same_text, same_number, same_absent, same_present, same_list, same_id_of_case, same_numeral, same_named, same_steps, same_inline, SameNodes, same_no_node, same_one_node, leaves-same}
use Rattle.comp_scopes.proofs.Among.{and-both}

-- ---- shared rows

or-cases : {A : Type 0} (a b : Bool) → (a || b) ≡ true → (a ≡ true → A) → (b ≡ true → A) → A
or-cases true b h f g = f refl
or-cases false b h f g = g h

abbrev AllRows : (Row → Type 0) → List Row → Type 0
AllRows P [] = Unit {0}
AllRows P (t ∷ ts) = P t × AllRows P ts

row-among : (P : Row → Type 0) (t : Row) (ts : List Row) → AllRows P ts → is_row t ts ≡ true → P t
row-among P t [] a h = absurd (cc)
row-among P t (u ∷ us) a h = or-cases (same_row t u) (is_row t us) h (λ e. subst P (sym (same_row-true t u e)) a.0) (row-among P t us a.1)

-- a shared row declares a type
pub shared-declares : (t : Row) (ls : Leaves) → is_shared t ≡ true → declares_row t ls ≡ Ty ∷ []
shared-declares t ls h = row-among (λ v. declares_row v ls ≡ Ty ∷ []) t (rows.FunctionType ∷ value_rows) (refl, (refl, (refl, (refl, (refl, (refl, (refl, (refl, (refl, (refl, (refl, (refl, (refl, (refl, (refl, tt))))))))))))))) h

-- and is no list of producers
shared-coded : (e : Encoding) (t : Row) (ls bs : Leaves) → is_shared t ≡ true → coded_node e t ls bs ≡ row t bs
shared-coded e t ls bs h = row-among (λ v. coded_node e v ls bs ≡ row v bs) t (rows.FunctionType ∷ value_rows) (refl, (refl, (refl, (refl, (refl, (refl, (refl, (refl, (refl, (refl, (refl, (refl, (refl, (refl, (refl, tt))))))))))))))) h

-- ---- a condition on each of some types

abbrev pub AllTyped : (Typed → Type 0) → List Typed → Type 0
AllTyped P [] = Unit {0}
AllTyped P (x ∷ xs) = P x × AllTyped P xs

pub typed-app : (P : Typed → Type 0) (xs ys : List Typed) → AllTyped P xs → AllTyped P ys → AllTyped P (xs ++ ys)
typed-app P [] ys a b = b
typed-app P (x ∷ xs) ys a b = (a.0, typed-app P xs ys a.1 b)

pub typed-weaken : (P Q : Typed → Type 0) → ((x : Typed) → P x → Q x) → (xs : List Typed) → AllTyped P xs → AllTyped Q xs
typed-weaken P Q f [] h = tt
typed-weaken P Q f (x ∷ xs) h = (f x h.0, typed-weaken P Q f xs h.1)

pub app-assoc : (xs ys zs : List Typed) → (xs ++ ys) ++ zs ≡ xs ++ (ys ++ zs)
app-assoc [] ys zs = refl
app-assoc (x ∷ xs) ys zs = ap (λ r. x ∷ r) (app-assoc xs ys zs)

-- the first that is equal
abbrev pub Equal : (Typed → Type 0) → Row → Leaves → Origin → Type 0
Equal P t ls q = (x : Typed) × P x × (x.origin ≡ q) × (t ≡ x.tag) × (same_leaves ls x.leaves ≡ true)

pub equal-of : (P : Typed → Type 0) (o : Origin) (t : Row) (ls : Leaves) (q : Origin) (xs : List Typed) → AllTyped P xs → earlier_type o t ls xs ≡ Some q → Equal P t ls q
equal-of P o t ls q [] h e = absurd (cc)
equal-of P o t ls q (y ∷ ys) h e = go (same_origin o y.origin) (same_row t y.tag && same_leaves ls y.leaves) refl e (equal-of P o t ls q ys h.1)
  where
    go : (b c : Bool) → (same_row t y.tag && same_leaves ls y.leaves) ≡ c → cond b None (cond c (Some y.origin) (earlier_type o t ls ys)) ≡ Some q → (earlier_type o t ls ys ≡ Some q → Equal P t ls q) → Equal P t ls q
    go true c f g rest = absurd (cc)
    go false true f g rest =
        let a : (same_row t y.tag ≡ true) × (same_leaves ls y.leaves ≡ true) = and-both _ _ f in
        (y, h.0, some-same y.origin q g, same_row-true t y.tag a.0, a.1)
    go false false f g rest = rest g

-- one that none in front of it is equal to has none earlier in the whole either
own-first : (x : Typed) (ys zs : List Typed) → earlier_type x.origin x.tag x.leaves ys ≡ None → earlier_type x.origin x.tag x.leaves (ys ++ x ∷ zs) ≡ None
own-first x [] zs h = rw (same_origin-refl x.origin) refl
own-first x (y ∷ ys) zs h = go (same_origin x.origin y.origin) (same_row x.tag y.tag && same_leaves x.leaves y.leaves) h (own-first x ys zs)
  where
    go : (b c : Bool) → cond b None (cond c (Some y.origin) (earlier_type x.origin x.tag x.leaves ys)) ≡ None
        → (earlier_type x.origin x.tag x.leaves ys ≡ None → earlier_type x.origin x.tag x.leaves (ys ++ x ∷ zs) ≡ None)
        → cond b None (cond c (Some y.origin) (earlier_type x.origin x.tag x.leaves (ys ++ x ∷ zs))) ≡ None
    go true c g rest = refl
    go false true g rest = absurd (cc)
    go false false g rest = rest g

-- ---- how many references stand in types

-- of equal leaves as many
mutual
  same-references : (ls ms : Leaves) → SameLeaves ls ms → references ls ≡ references ms
  same-references _ _ same_none = refl
  same-references _ _ (same_more l m ls ms a b) = rw (same_leaf-references l m a, same-references ls ms b) refl

  same_leaf-references : (l m : Leaf) → SameLeaf l m → references_leaf l ≡ references_leaf m
  same_leaf-references _ _ (same_text t) = refl
  same_leaf-references _ _ (same_number n) = refl
  same_leaf-references _ _ same_absent = refl
  same_leaf-references _ _ (same_present l m a) = same_leaf-references l m a
  same_leaf-references _ _ (same_list ns ks a) = same_nodes-references ns ks a
  same_leaf-references _ _ (same_id_of_case x y a) = refl
  same_leaf-references _ _ (same_numeral s o p n) = refl
  same_leaf-references _ _ (same_named s r q x y a b) = refl
  same_leaf-references _ _ (same_steps s p q a) = refl
  same_leaf-references _ _ (same_inline s t ls ms h a) = ap (λ n. 1 + n) (same-references ls ms a)

  same_nodes-references : (ns ks : Nodes) → SameNodes ns ks → references_nodes ns ≡ references_nodes ks
  same_nodes-references _ _ same_no_node = refl
  same_nodes-references _ _ (same_one_node t ls ms ns ks a b) = rw (same-references ls ms a, same_nodes-references ns ks b) refl

-- fewer than n
abbrev FewerThan : ℕ → Typed → Type 0
FewerThan n x = references x.leaves < n

fewer-more : (n m : ℕ) (xs : List Typed) → n ≤ m → AllTyped (FewerThan n) xs → AllTyped (FewerThan m) xs
fewer-more n m xs l h = typed-weaken (FewerThan n) (FewerThan m) (λ x g. omega (arith, g, l)) xs h

two-fewer : (n m : ℕ) (xs ys : List Typed) → AllTyped (FewerThan n) xs → AllTyped (FewerThan m) ys → AllTyped (FewerThan (n + m)) (xs ++ ys)
two-fewer n m xs ys a b = typed-app (FewerThan (n + m)) xs ys (fewer-more n (n + m) xs (omega arith) a) (fewer-more m (n + m) ys (omega arith) b)

once-fewer : (n : ℕ) (x : Typed) (new : List Typed) (o : Option Origin) → references x.leaves ≡ n → AllTyped (FewerThan n) new → AllTyped (FewerThan (1 + n)) (typed_once x new o)
once-fewer n x new (Some o) z h = tt
once-fewer n x new None z h = typed-app (FewerThan (1 + n)) new (x ∷ []) (fewer-more n (1 + n) new (omega arith) h) (omega (arith, z), tt)

within-fewer : (n : ℕ) (new : List Typed) (j : Option ℕ) → AllTyped (FewerThan n) new → AllTyped (FewerThan (1 + n)) (typed_within j new)
within-fewer n new (Some j) h = tt
within-fewer n new None h = fewer-more n (1 + n) new (omega arith) h

inline-fewer : (c : Scope) (k u : ℕ) (t : Row) (ls : Leaves) (earlier : List Typed) (b : Bool) → AllTyped (FewerThan (references ls)) (types_of_leaves c k (u + 1) ls earlier) → AllTyped (FewerThan (1 + references ls))
    (cond b (typed_inline (record { origin = inline_type k u; tag = t; leaves = ls }) earlier (types_of_leaves c k (u + 1) ls earlier)) (typed_within (reused_signature (c ∷ []) k t ls) (types_of_leaves c k (u + 1) ls earlier)))
inline-fewer c k u t ls earlier true h =
    once-fewer (references ls) (record { origin = inline_type k u; tag = t; leaves = ls }) (types_of_leaves c k (u + 1) ls earlier) (earlier_type (inline_type k u) t ls (earlier ++ types_of_leaves c k (u + 1) ls earlier)) refl h
inline-fewer c k u t ls earlier false h = within-fewer (references ls) (types_of_leaves c k (u + 1) ls earlier) (reused_signature (c ∷ []) k t ls) h

mutual
  inner-fewer : (c : Scope) (k u : ℕ) (ls : Leaves) (earlier : List Typed) → AllTyped (FewerThan (references ls)) (types_of_leaves c k u ls earlier)
  inner-fewer c k u no_leaf earlier = tt
  inner-fewer c k u (l ▸ ls) earlier =
      two-fewer (references_leaf l) (references ls) (types_of_leaf c k u l earlier) (types_of_leaves c k (u + references_leaf l) ls (earlier ++ types_of_leaf c k u l earlier)) (leaf-fewer c k u l earlier)
      (inner-fewer c k (u + references_leaf l) ls (earlier ++ types_of_leaf c k u l earlier))

  leaf-fewer : (c : Scope) (k u : ℕ) (l : Leaf) (earlier : List Typed) → AllTyped (FewerThan (references_leaf l)) (types_of_leaf c k u l earlier)
  leaf-fewer c k u (ref s (inline (row t ls))) earlier = inline-fewer c k u t ls earlier (is_shared t) (inner-fewer c k (u + 1) ls earlier)
  leaf-fewer c k u (ref s (bundle (row t ls))) earlier = fewer-more (references ls) (1 + references ls) (types_of_leaves c k (u + 1) ls earlier) (omega arith) (inner-fewer c k (u + 1) ls earlier)
  leaf-fewer c k u (present l) earlier = leaf-fewer c k u l earlier
  leaf-fewer c k u (node (row t ls)) earlier = inner-fewer c k u ls earlier
  leaf-fewer c k u (nodes ns) earlier = nodes-fewer c k u ns earlier
  leaf-fewer c k u l earlier = tt

  nodes-fewer : (c : Scope) (k u : ℕ) (ns : Nodes) (earlier : List Typed) → AllTyped (FewerThan (references_nodes ns)) (types_of_nodes c k u ns earlier)
  nodes-fewer c k u no_node earlier = tt
  nodes-fewer c k u (one_node (row t ls) ns) earlier =
      two-fewer (references ls) (references_nodes ns) (types_of_leaves c k u ls earlier) (types_of_nodes c k (u + references ls) ns (earlier ++ types_of_leaves c k u ls earlier)) (inner-fewer c k u ls earlier)
      (nodes-fewer c k (u + references ls) ns (earlier ++ types_of_leaves c k u ls earlier))

-- none with fewer references is equal
fewer-differ : (o : Origin) (t : Row) (ls : Leaves) (xs : List Typed) (q : Origin) → AllTyped (FewerThan (references ls)) xs → earlier_type o t ls xs ≡ Some q → ⊥
fewer-differ o t ls xs q h e =
    let y : Equal (FewerThan (references ls)) t ls q = equal-of (FewerThan (references ls)) o t ls q xs h e in
    let z : references ls ≡ references y.0.leaves = same-references ls y.0.leaves (leaves-same ls y.0.leaves y.4) in
    let l : references y.0.leaves < references ls = y.1 in omega (arith, z, l)

-- where the front has one, that is the first; else it is behind
front-first : (o : Origin) (t : Row) (ls : Leaves) (xs ys : List Typed) (q : Origin) → earlier_type o t ls xs ≡ Some q → earlier_type o t ls (xs ++ ys) ≡ Some q
front-first o t ls [] ys q h = absurd (cc)
front-first o t ls (x ∷ xs) ys q h = go (same_origin o x.origin) (same_row t x.tag && same_leaves ls x.leaves) h (front-first o t ls xs ys q)
  where
    go : (b c : Bool) → cond b None (cond c (Some x.origin) (earlier_type o t ls xs)) ≡ Some q → (earlier_type o t ls xs ≡ Some q → earlier_type o t ls (xs ++ ys) ≡ Some q) → cond b None (cond c (Some x.origin) (earlier_type o t ls (xs ++ ys))) ≡ Some q
    go true c g rest = absurd (cc)
    go false true g rest = g
    go false false g rest = rest g

in-front : (o : Origin) (t : Row) (ls : Leaves) (xs ys : List Typed) (q : Origin) → (earlier_type o t ls ys ≡ Some q → ⊥) → earlier_type o t ls (xs ++ ys) ≡ Some q → earlier_type o t ls xs ≡ Some q
in-front o t ls [] ys q n h = absurd (n h)
in-front o t ls (x ∷ xs) ys q n h = go (same_origin o x.origin) (same_row t x.tag && same_leaves ls x.leaves) h (in-front o t ls xs ys q n)
  where
    go : (b c : Bool) → cond b None (cond c (Some x.origin) (earlier_type o t ls (xs ++ ys))) ≡ Some q → (earlier_type o t ls (xs ++ ys) ≡ Some q → earlier_type o t ls xs ≡ Some q) → cond b None (cond c (Some x.origin) (earlier_type o t ls xs)) ≡ Some q
    go true c g rest = absurd (cc)
    go false true g rest = g
    go false false g rest = rest g

-- so a type that is equal to none in front of those within it is equal to none of these
pub found-before : (c : Scope) (k u v : ℕ) (t : Row) (ls : Leaves) (earlier : List Typed) (q : Origin) → earlier_type (inline_type k v) t ls (earlier ++ types_of_leaves c k u ls earlier) ≡ Some q → earlier_type (inline_type k v) t ls earlier ≡ Some q
found-before c k u v t ls earlier q h = in-front (inline_type k v) t ls earlier (types_of_leaves c k u ls earlier) q (fewer-differ (inline_type k v) t ls (types_of_leaves c k u ls earlier) q (inner-fewer c k u ls earlier)) h

-- ---- where a part stands among the types of its scope

-- of a part that stands behind these types
pub behind-these : (c : Scope) (earlier a b rest : List Typed) → types c ≡ earlier ++ ((a ++ b) ++ rest) → (types c ≡ earlier ++ (a ++ (b ++ rest))) × (types c ≡ (earlier ++ a) ++ (b ++ rest))
behind-these c earlier a b rest p =
    let z : types c ≡ earlier ++ (a ++ (b ++ rest)) = p ∙ ap (λ r. earlier ++ r) (app-assoc a b rest) in (z, z ∙ sym (app-assoc earlier a (b ++ rest)))

-- whether a shared type has a mark, where it stands as reference u of definition k
abbrev pub Decided : List Scope → Scope → ℕ → ℕ → Row → Leaves → List Typed → List Typed → Type 0
Decided st c k u t ls earlier rest =
    ((reused (c ∷ st) k u t ls ≡ None) × (earlier_type (inline_type k u) t ls (earlier ++ types_of_leaves c k (u + 1) ls earlier) ≡ None) × (types c ≡ earlier ++ (types_of_leaves c k (u + 1) ls earlier ++ record { origin = inline_type k u; tag = t; leaves = ls } ∷ rest)))
    ⊎ ((q : Origin) × (reused (c ∷ st) k u t ls ≡ Some q) × (earlier_type (inline_type k u) t ls earlier ≡ Some q) × (earlier_type (inline_type k u) t ls (earlier ++ types_of_leaves c k (u + 1) ls earlier) ≡ Some q))

pub decided : (st : List Scope) (c : Scope) (k u : ℕ) (t : Row) (ls : Leaves) (earlier rest : List Typed) → is_shared t ≡ true
    → types c ≡ earlier ++ (typed_inline (record { origin = inline_type k u; tag = t; leaves = ls }) earlier (types_of_leaves c k (u + 1) ls earlier) ++ rest) → Decided st c k u t ls earlier rest
decided st c k u t ls earlier rest g p = go (earlier_type (inline_type k u) t ls (earlier ++ types_of_leaves c k (u + 1) ls earlier)) refl p
  where
    x : Typed
    x = record { origin = inline_type k u; tag = t; leaves = ls }

    inner : List Typed
    inner = types_of_leaves c k (u + 1) ls earlier

    go : (o : Option Origin) → earlier_type (inline_type k u) t ls (earlier ++ types_of_leaves c k (u + 1) ls earlier) ≡ o → types c ≡ earlier ++ (typed_once x inner o ++ rest) → Decided st c k u t ls earlier rest
    go None f q =
        let z : types c ≡ earlier ++ (inner ++ x ∷ rest) = q ∙ ap (λ r. earlier ++ r) (app-assoc inner (x ∷ []) rest) in
        let y : types c ≡ (earlier ++ inner) ++ x ∷ rest = z ∙ sym (app-assoc earlier inner (x ∷ rest)) in
        let n : earlier_type (inline_type k u) t ls (types c) ≡ None = ap (earlier_type (inline_type k u) t ls) y ∙ own-first x (earlier ++ inner) rest f in
        inl (rw g n, f, z)
    go (Some o) f q =
        let i : earlier_type (inline_type k u) t ls earlier ≡ Some o = found-before c k (u + 1) u t ls earlier o f in
        let n : earlier_type (inline_type k u) t ls (types c) ≡ Some o = ap (earlier_type (inline_type k u) t ls) q ∙ front-first (inline_type k u) t ls earlier rest o i in
        inr (o, rw g n, i, f)

-- ---- in a form

module _ (e : Encoding) where
  -- a type stands before position n, and all that its leaves plan stands too
  abbrev pub TypeAt : List Scope → Scope → ℕ → Typed → Type 0
  TypeAt st c n x = (k : ℕ) × (u : ℕ) × (p : ℕ) × (p < n) × (slice_get (built e st c) p ≡ Some (own_made x.origin (row x.tag) (form_leaves e (c ∷ st) k u x.leaves))) × Each (Sits (built e st c)) (form_leaves e (c ∷ st) k u x.leaves)

  pub types-later : (st : List Scope) (c : Scope) (n m : ℕ) (xs : List Typed) → n ≤ m → AllTyped (TypeAt st c n) xs → AllTyped (TypeAt st c m) xs
  types-later st c n m xs l h = typed-weaken (TypeAt st c n) (TypeAt st c m) (λ x g. (let a : g.2 < n = g.3 in (g.0, g.1, g.2, omega (arith, a, l), g.4, g.5))) xs h

  -- where the marks of types stand: those in front, those that a part adds, those behind
  abbrev pub TypesFront : List Scope → Scope → ℕ → (List Typed → List Typed) → Type 0
  TypesFront st c n new = (earlier : List Typed) × (rest : List Typed) × (types c ≡ earlier ++ (new earlier ++ rest)) × AllTyped (TypeAt st c n) earlier

  -- a part adds types that stand before the end of its inline nodes
  two-typed : (st : List Scope) (c : Scope) (n : ℕ) (xs ys : List Made) (a b : List Typed) → AllTyped (TypeAt st c (n + length xs)) a → AllTyped (TypeAt st c (n + length xs + length ys)) b → AllTyped (TypeAt st c (n + length (xs ++ ys))) (a ++ b)
  two-typed st c n xs ys a b f g =
      let z : n + length (xs ++ ys) ≡ n + length xs + length ys = end-both n xs ys in
      typed-app (TypeAt st c (n + length (xs ++ ys))) a b (types-later st c (n + length xs) (n + length (xs ++ ys)) a (omega (arith, z)) f) (types-later st c (n + length xs + length ys) (n + length (xs ++ ys)) b (omega (arith, z)) g)

  inline-typed : (st : List Scope) (c : Scope) (k u : ℕ) (s : Space) (t : Row) (ls : Leaves) (earlier rest : List Typed) (i j n : ℕ) (b : Bool) → is_shared t ≡ b
      → types c ≡ earlier ++ (cond b (typed_inline (record { origin = inline_type k u; tag = t; leaves = ls }) earlier (types_of_leaves c k (u + 1) ls earlier)) (typed_within (reused_signature (c ∷ []) k t ls) (types_of_leaves c k (u + 1) ls earlier)) ++ rest)
      → Stand (built e st c) i j n (form_inline (c ∷ st) k u s t (reused (c ∷ st) k u t ls) (form_leaves e (c ∷ st) k (u + 1) ls))
      → ((more : List Typed) (x y z : ℕ) → types c ≡ earlier ++ (types_of_leaves c k (u + 1) ls earlier ++ more) → Stand (built e st c) x y z (form_leaves e (c ∷ st) k (u + 1) ls)
      → AllTyped (TypeAt st c (x + length (form_leaves e (c ∷ st) k (u + 1) ls).inlined)) (types_of_leaves c k (u + 1) ls earlier))
      → AllTyped (TypeAt st c (i + length (form_inline (c ∷ st) k u s t (reused (c ∷ st) k u t ls) (form_leaves e (c ∷ st) k (u + 1) ls)).inlined))
      (cond b (typed_inline (record { origin = inline_type k u; tag = t; leaves = ls }) earlier (types_of_leaves c k (u + 1) ls earlier)) (typed_within (reused_signature (c ∷ []) k t ls) (types_of_leaves c k (u + 1) ls earlier)))
  inline-typed st c k u s t ls earlier rest i j n true g p h rec = pick (decided st c k u t ls earlier rest g p)
    where
      a : Formed Leaves
      a = form_leaves e (c ∷ st) k (u + 1) ls

      x : Typed
      x = record { origin = inline_type k u; tag = t; leaves = ls }

      inner : List Typed
      inner = types_of_leaves c k (u + 1) ls earlier

      here : (o : Option Origin) → o ≡ None → Stand (built e st c) i j n (form_inline (c ∷ st) k u s t o (form_leaves e (c ∷ st) k (u + 1) ls)) → types c ≡ earlier ++ (inner ++ x ∷ rest)
          → AllTyped (TypeAt st c (i + length (form_inline (c ∷ st) k u s t o (form_leaves e (c ∷ st) k (u + 1) ls)).inlined)) (inner ++ x ∷ [])
      here (Some q) z f y = absurd (cc)
      here None z f y =
          let m : Made = own_made (inline_type k u) (row t) a in
          let o : OneAt (built e st c) i a m = one-at (built e st c) i a m f.0 in
          let l : i + length a.inlined + length a.bundles + length a.needed + 1 ≡ i + length a.inlined + length (a.bundles ++ (a.needed ++ m ∷ [])) = o.1.3 in
          let r : i + length a.inlined + length (a.bundles ++ (a.needed ++ m ∷ [])) ≡ i + length (a.inlined ++ (a.bundles ++ (a.needed ++ m ∷ []))) = o.2 in
          let end : ℕ = i + length (a.inlined ++ (a.bundles ++ (a.needed ++ m ∷ []))) in
          let each : Each (Sits (built e st c)) a = (at-sits (built e st c) i a.inlined o.0, at-sits (built e st c) (i + length a.inlined) a.bundles o.1.0, at-sits (built e st c) (i + length a.inlined + length a.bundles) a.needed o.1.1) in
          typed-app (TypeAt st c end) inner (x ∷ [])
          (types-later st c (i + length a.inlined) end inner (omega (arith, l, r)) (rec (x ∷ rest) i (i + length a.inlined) (i + length a.inlined + length a.bundles) y (o.0, o.1.0, o.1.1)))
          ((k, u + 1, i + length a.inlined + length a.bundles + length a.needed, omega (arith, l, r), o.1.2, each), tt)

      pick : Decided st c k u t ls earlier rest
          → AllTyped (TypeAt st c (i + length (form_inline (c ∷ st) k u s t (reused (c ∷ st) k u t ls) (form_leaves e (c ∷ st) k (u + 1) ls)).inlined)) (typed_inline x earlier inner)
      pick (inl d) = rw d.1 (here (reused (c ∷ st) k u t ls) d.0 h d.2)
      pick (inr d) = rw d.3 tt
  inline-typed st c k u s t ls earlier rest i j n false g p h rec = go (reused_signature (c ∷ []) k t ls) refl p
    where
      a : Formed Leaves
      a = form_leaves e (c ∷ st) k (u + 1) ls

      here : (o : Option Origin) → o ≡ None → Stand (built e st c) i j n (form_inline (c ∷ st) k u s t o (form_leaves e (c ∷ st) k (u + 1) ls)) → types c ≡ earlier ++ (types_of_leaves c k (u + 1) ls earlier ++ rest)
          → AllTyped (TypeAt st c (i + length (form_inline (c ∷ st) k u s t o (form_leaves e (c ∷ st) k (u + 1) ls)).inlined)) (types_of_leaves c k (u + 1) ls earlier)
      here (Some q) z f y = absurd (cc)
      here None z f y =
          let m : Made = own_made (inline_type k u) (row t) a in
          let o : OneAt (built e st c) i a m = one-at (built e st c) i a m f.0 in
          let l : i + length a.inlined + length a.bundles + length a.needed + 1 ≡ i + length a.inlined + length (a.bundles ++ (a.needed ++ m ∷ [])) = o.1.3 in
          let r : i + length a.inlined + length (a.bundles ++ (a.needed ++ m ∷ [])) ≡ i + length (a.inlined ++ (a.bundles ++ (a.needed ++ m ∷ []))) = o.2 in
          types-later st c (i + length a.inlined) (i + length (a.inlined ++ (a.bundles ++ (a.needed ++ m ∷ [])))) (types_of_leaves c k (u + 1) ls earlier) (omega (arith, l, r))
          (rec rest i (i + length a.inlined) (i + length a.inlined + length a.bundles) y (o.0, o.1.0, o.1.1))

      go : (o : Option ℕ) → reused_signature (c ∷ []) k t ls ≡ o → types c ≡ earlier ++ (typed_within o (types_of_leaves c k (u + 1) ls earlier) ++ rest)
          → AllTyped (TypeAt st c (i + length (form_inline (c ∷ st) k u s t (reused (c ∷ st) k u t ls) (form_leaves e (c ∷ st) k (u + 1) ls)).inlined)) (typed_within o (types_of_leaves c k (u + 1) ls earlier))
      go (Some q) f y = tt
      go None f y = here (reused (c ∷ st) k u t ls) (rw (g, f) refl) h y

  mutual
    pub leaves-typed : (st : List Scope) (c : Scope) (k u : ℕ) (ls : Leaves) (earlier rest : List Typed) (i j n : ℕ) → types c ≡ earlier ++ (types_of_leaves c k u ls earlier ++ rest)
        → Stand (built e st c) i j n (form_leaves e (c ∷ st) k u ls) → AllTyped (TypeAt st c (i + length (form_leaves e (c ∷ st) k u ls).inlined)) (types_of_leaves c k u ls earlier)
    leaves-typed st c k u no_leaf earlier rest i j n p h = tt
    leaves-typed st c k u (l ▸ ls) earlier rest i j n p h =
        let a : Formed Leaf = form_leaf e (c ∷ st) k u l in
        let b : Formed Leaves = form_leaves e (c ∷ st) k (u + references_leaf l) ls in
        let x : List Typed = types_of_leaf c k u l earlier in
        let y : List Typed = types_of_leaves c k (u + references_leaf l) ls (earlier ++ types_of_leaf c k u l earlier) in
        let z : (types c ≡ earlier ++ (x ++ (y ++ rest))) × (types c ≡ (earlier ++ x) ++ (y ++ rest)) = behind-these c earlier x y rest p in
        two-typed st c i a.inlined b.inlined x y
        (leaf-typed st c k u l earlier (y ++ rest) i j n z.0 (stand-left e (built e st c) i j n (λ b bs. b ▸ bs) a b h))
        (leaves-typed st c k (u + references_leaf l) ls (earlier ++ x) rest (i + length a.inlined) (j + length a.bundles) (n + length a.needed) z.1 (stand-right e (built e st c) i j n (λ b bs. b ▸ bs) a b h))

    pub leaf-typed : (st : List Scope) (c : Scope) (k u : ℕ) (l : Leaf) (earlier rest : List Typed) (i j n : ℕ) → types c ≡ earlier ++ (types_of_leaf c k u l earlier ++ rest)
        → Stand (built e st c) i j n (form_leaf e (c ∷ st) k u l) → AllTyped (TypeAt st c (i + length (form_leaf e (c ∷ st) k u l).inlined)) (types_of_leaf c k u l earlier)
    leaf-typed st c k u (ref s (inline (row t ls))) earlier rest i j n p h =
        inline-typed st c k u s t ls earlier rest i j n (is_shared t) refl p h (λ more x y z q g. leaves-typed st c k (u + 1) ls earlier more x y z q g)
    leaf-typed st c k u (ref s (bundle (row t ls))) earlier rest i j n p h =
        let a : Formed Leaves = form_leaves e (c ∷ st) k (u + 1) ls in
        let o : LastAt (built e st c) j a (own_made (bundle_of k u) (row t) a) = last-at (built e st c) j a (own_made (bundle_of k u) (row t) a) h.1 in
        leaves-typed st c k (u + 1) ls earlier rest i j (j + length a.bundles) p (h.0, o.0, o.1)
    leaf-typed st c k u (present l) earlier rest i j n p h = leaf-typed st c k u l earlier rest i j n p h
    leaf-typed st c k u (node (row t ls)) earlier rest i j n p h = leaves-typed st c k u ls earlier rest i j n p h
    leaf-typed st c k u (nodes ns) earlier rest i j n p h = nodes-typed st c k u ns earlier rest i j n p h
    leaf-typed st c k u (scope (scope_of q id label ds)) earlier rest i j n p h = tt
    leaf-typed st c k u l earlier rest i j n p h = tt

    pub nodes-typed : (st : List Scope) (c : Scope) (k u : ℕ) (ns : Nodes) (earlier rest : List Typed) (i j n : ℕ) → types c ≡ earlier ++ (types_of_nodes c k u ns earlier ++ rest)
        → Stand (built e st c) i j n (form_nodes e (c ∷ st) k u ns) → AllTyped (TypeAt st c (i + length (form_nodes e (c ∷ st) k u ns).inlined)) (types_of_nodes c k u ns earlier)
    nodes-typed st c k u no_node earlier rest i j n p h = tt
    nodes-typed st c k u (one_node (row t ls) ns) earlier rest i j n p h =
        let a : Formed Leaves = form_leaves e (c ∷ st) k u ls in
        let b : Formed Nodes = form_nodes e (c ∷ st) k (u + references ls) ns in
        let x : List Typed = types_of_leaves c k u ls earlier in
        let y : List Typed = types_of_nodes c k (u + references ls) ns (earlier ++ types_of_leaves c k u ls earlier) in
        let z : (types c ≡ earlier ++ (x ++ (y ++ rest))) × (types c ≡ (earlier ++ x) ++ (y ++ rest)) = behind-these c earlier x y rest p in
        two-typed st c i a.inlined b.inlined x y
        (leaves-typed st c k u ls earlier (y ++ rest) i j n z.0 (stand-left e (built e st c) i j n (λ bs cs. one_node (row t bs) cs) a b h))
        (nodes-typed st c k (u + references ls) ns (earlier ++ x) rest (i + length a.inlined) (j + length a.bundles) (n + length a.needed) z.1 (stand-right e (built e st c) i j n (λ bs cs. one_node (row t bs) cs) a b h))

  -- a definition of a type itself, which stands at p
  written-typed : (st : List Scope) (c : Scope) (k p n : ℕ) (t : Row) (ls : Leaves) → p < n → Each (Sits (built e st c)) (form_leaves e (c ∷ st) k 0 ls) → slice_get (built e st c) p ≡ Some (own_made (written k) (coded_node e t ls) (form_leaves e (c ∷ st) k 0 ls))
      → AllTyped (TypeAt st c n) (written_type k t ls)
  written-typed st c k p n t ls l h m = go (is_shared t) refl
    where
      go : (b : Bool) → is_shared t ≡ b → AllTyped (TypeAt st c n) (cond b (record { origin = written k; tag = t; leaves = ls } ∷ []) [])
      go false g = tt
      go true g =
          let o : slice_get (built e st c) p ≡ Some (own_made (written k) (row t) (form_leaves e (c ∷ st) k 0 ls)) =
          subst (λ n. slice_get (built e st c) p ≡ Some (record { origin = written k; held = (form_leaves e (c ∷ st) k 0 ls).held; made = n })) (shared-coded e t ls (form_leaves e (c ∷ st) k 0 ls).here g) m in
          ((k, 0, p, l, o, h), tt)

  -- all types of a definition, which stands from b on
  pub def-typed : (st : List Scope) (c : Scope) (k b : ℕ) (t : Row) (ls : Leaves) (earlier rest : List Typed) → types c ≡ earlier ++ ((types_of_leaves c k 0 ls earlier ++ written_type k t ls) ++ rest)
      → At (built e st c) b (form_one (written k) (coded_node e t ls) (form_leaves e (c ∷ st) k 0 ls))
      → AllTyped (TypeAt st c (b + length (form_one (written k) (coded_node e t ls) (form_leaves e (c ∷ st) k 0 ls)))) (types_of_leaves c k 0 ls earlier ++ written_type k t ls)
  def-typed st c k b t ls earlier rest p h =
      let a : Formed Leaves = form_leaves e (c ∷ st) k 0 ls in
      let m : Made = own_made (written k) (coded_node e t ls) a in
      let o : OneAt (built e st c) b a m = one-at (built e st c) b a m h in
      let l : b + length a.inlined + length a.bundles + length a.needed + 1 ≡ b + length a.inlined + length (a.bundles ++ (a.needed ++ m ∷ [])) = o.1.3 in
      let r : b + length a.inlined + length (a.bundles ++ (a.needed ++ m ∷ [])) ≡ b + length (a.inlined ++ (a.bundles ++ (a.needed ++ m ∷ []))) = o.2 in
      let end : ℕ = b + length (a.inlined ++ (a.bundles ++ (a.needed ++ m ∷ []))) in
      let each : Each (Sits (built e st c)) a = (at-sits (built e st c) b a.inlined o.0, at-sits (built e st c) (b + length a.inlined) a.bundles o.1.0, at-sits (built e st c) (b + length a.inlined + length a.bundles) a.needed o.1.1) in
      let z : (types c ≡ earlier ++ (types_of_leaves c k 0 ls earlier ++ (written_type k t ls ++ rest))) × (types c ≡ (earlier ++ types_of_leaves c k 0 ls earlier) ++ (written_type k t ls ++ rest)) = behind-these c earlier (types_of_leaves c k 0 ls earlier) (written_type k t ls) rest p in
      typed-app (TypeAt st c end) (types_of_leaves c k 0 ls earlier) (written_type k t ls)
      (types-later st c (b + length a.inlined) end (types_of_leaves c k 0 ls earlier) (omega (arith, l, r)) (leaves-typed st c k 0 ls earlier (written_type k t ls ++ rest) b (b + length a.inlined) (b + length a.inlined + length a.bundles) z.0 (o.0, o.1.0, o.1.1)))
      (written-typed st c k (b + length a.inlined + length a.bundles + length a.needed) end t ls (omega (arith, l, r)) each o.1.2)

  defs-typed : (st : List Scope) (c : Scope) (k b : ℕ) (ds : Defs) (earlier : List Typed) → types c ≡ earlier ++ types_of_defs c k ds earlier → At (built e st c) b (form_defs e (c ∷ st) k ds)
      → AllTyped (TypeAt st c (b + length (form_defs e (c ∷ st) k ds))) (types_of_defs c k ds earlier)
  defs-typed st c k b no_def earlier p h = tt
  defs-typed st c k b (one_def (define names (row t ls)) ds) earlier p h =
      let one : List Made = form_one (written k) (coded_node e t ls) (form_leaves e (c ∷ st) k 0 ls) in
      let more : List Made = form_defs e (c ∷ st) (k + 1) ds in
      let new : List Typed = types_of_leaves c k 0 ls earlier ++ written_type k t ls in
      let later : List Typed = types_of_defs c (k + 1) ds (earlier ++ new) in
      two-typed st c b one more new later
      (def-typed st c k b t ls earlier later p (at-left (built e st c) b one more h))
      (defs-typed st c (k + 1) (b + length one) ds (earlier ++ new) (p ∙ sym (app-assoc earlier new later)) (at-right (built e st c) b one more h))

  -- what a shared type reuses: an equal type that stands in the form
  pub reused-type : (st : List Scope) (c : Scope) (k u : ℕ) (t : Row) (ls : Leaves) (q : Origin) → is_shared t ≡ true → reused (c ∷ st) k u t ls ≡ Some q → Equal (TypeAt st c (0 + length (form_defs e (c ∷ st) 0 (defs_of c)))) t ls q
  reused-type st c k u t ls q g h =
      equal-of (TypeAt st c (0 + length (form_defs e (c ∷ st) 0 (defs_of c)))) (inline_type k u) t ls q (types c) (defs-typed st c 0 0 (defs_of c) [] refl (defs-stand e st c)) (go (is_shared t) g h)
    where
      go : (b : Bool) → b ≡ true → cond b (earlier_type (inline_type k u) t ls (types c)) (as_written (reused_signature (c ∷ st) k t ls)) ≡ Some q → earlier_type (inline_type k u) t ls (types c) ≡ Some q
      go true e r = r
      go false e r = absurd (cc)
