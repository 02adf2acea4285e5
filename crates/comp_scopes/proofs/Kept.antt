-- Two scopes that one binary scope renders under the same marks are the same but for ids, references and core modules.
use Rattle.std.proofs.Common.{◌≡◌, ◌≢◌, ◌⊎◌, inl, inr, ℕ, zero, suc, ◌+◌, Bool, true, false, ◌||◌, List, [], ◌∷◌, length, slice_get, Option, Some, None, refl, sym, ◌∙◌, ap, subst, arith}
use Rattle.comp_model.specs.declared.Space.{Space}
use Rattle.comp_model.specs.declared.Space.TheVariants.{CoreType}
use Rattle.comp_model.specs.declared.row.Row.TheVariants as rows
use Rattle.comp_model.specs.declared.row.Row.{Row}
use Rattle.comp_model.specs.RowNumbers.{same_row}
use Rattle.comp_model.specs.Core.{Text, Id, Place, counted, Reach, CoreValue, ref_index, ref_numeral, ref_name}
use Rattle.comp_model.specs.CoreModules.{CoreModule}
use Rattle.comp_model.specs.Model.{Leaf, text, number, kind, core_value, ref, place, absent, present, node, nodes, case_id, result_ids, result_count, core_source, module_bytes, scope, Target, index, numeral, name, path, inline, bundle, Leaves, no_leaf, ◌▸◌, row, Nodes, no_node, one_node, define, Defs, no_def, one_def, Scope, scope_of}
use Rattle.comp_model.specs.declared.row.ScopeKind.{ScopeKind}
use Rattle.comp_model.specs.Origins.{Origin, written, Held, holds, Origins}
use Rattle.comp_scopes.specs.Encoding.{Encoding}
use Rattle.comp_scopes.specs.Form.{Made, coded_node}
use Rattle.comp_scopes.specs.Renders.{placed, item, binary_at, leads, LeadsTo, PlaceIs, ValueAgrees, numbered, MarksDistinct, MarksRender, RowThere, WrittenThere, DefsRender, LeavesAgree, LeafAgrees, NodesAgree, Renders}
use Rattle.comp_scopes.specs.Kept.{SameNames, BesideNumeral, BesideName, SameValue, SameRow, SameLeaves, SameLeaf, SameNodes, SameDefs, SameScope}
use Rattle.comp_scopes.proofs.Lookup.{some-same, made-get}

-- ---- what kind of leaf it is, of the binary and of the text

abbrev binary_shape : Leaf → ℕ
binary_shape (text t) = 0
binary_shape (number n) = 1
binary_shape (kind s) = 2
binary_shape (core_value v) = 3
binary_shape (ref s t) = 4
binary_shape (place p) = 5
binary_shape absent = 6
binary_shape (present l) = 7
binary_shape (node n) = 8
binary_shape (nodes ns) = 9
binary_shape (case_id x) = 10
binary_shape (result_ids ids) = 11
binary_shape (result_count n) = 11
binary_shape (core_source c) = 12
binary_shape (module_bytes bs) = 12
binary_shape (scope s) = 13

value-shape : (st : List Scope) (bst : List (List Made)) (v : CoreValue) (b : Leaf) → ValueAgrees st bst v b → binary_shape b ≡ 3
value-shape st bst (ref_numeral n o i) b h = ap binary_shape h
value-shape st bst (ref_name n r x) b h = ap binary_shape h.is_leaf
value-shape st bst (ref_index n i) b h = absurd h
value-shape st bst v b h = ap binary_shape h

module _ (e : Encoding) where
  leaf-shape : (st : List Scope) (bst : List (List Made)) (h : Held) (l b : Leaf) → LeafAgrees e st bst h l b → binary_shape b ≡ binary_shape l
  leaf-shape st bst h (text t) b a = ap binary_shape a
  leaf-shape st bst h (number n) b a = ap binary_shape a
  leaf-shape st bst h (kind s) b a = ap binary_shape a
  leaf-shape st bst h (core_value v) b a = value-shape st bst v b a
  leaf-shape st bst h (ref s (numeral o n)) b a = ap binary_shape a
  leaf-shape st bst h (ref s (name r x)) b a = ap binary_shape a.is_leaf
  leaf-shape st bst h (ref s (path p)) b a = ap binary_shape a.is_leaf
  leaf-shape st bst h (ref s (inline (row t ls))) b a = ap binary_shape a.is_leaf
  leaf-shape st bst h (ref s (bundle (row t ls))) b a = ap binary_shape a.is_leaf
  leaf-shape st bst h (ref s (index i)) b a = absurd a
  leaf-shape st bst h (place p) b a = ap binary_shape a.is_leaf
  leaf-shape st bst h absent b a = ap binary_shape a
  leaf-shape st bst h (present l) b a = ap binary_shape a.is_leaf
  leaf-shape st bst h (node (row t ls)) b a = ap binary_shape a.is_leaf
  leaf-shape st bst h (nodes ns) b a = ap binary_shape a.is_leaf
  leaf-shape st bst h (case_id x) b a = ap binary_shape a
  leaf-shape st bst h (result_ids ids) b a = ap binary_shape a
  leaf-shape st bst h (result_count n) b a = absurd a
  leaf-shape st bst h (core_source c) b a = ap binary_shape a
  leaf-shape st bst h (module_bytes bs) b a = absurd a
  leaf-shape st bst h (scope (scope_of k id label ds)) b a = ap binary_shape a.is_scope

  -- two leaves that agree with one are of one kind
  one-shape : (st su : List Scope) (bst : List (List Made)) (h : Held) (l m b : Leaf) → LeafAgrees e st bst h l b → LeafAgrees e su bst h m b → binary_shape m ≡ binary_shape l
  one-shape st su bst h l m b x y = sym (leaf-shape su bst h m b y) ∙ leaf-shape st bst h l b x

is-text : (m : Leaf) → binary_shape m ≡ 0 → (t : Text) × (m ≡ text t)
is-text (text t) h = (t, refl)
is-text m h = absurd (omega (arith, h))

is-number : (m : Leaf) → binary_shape m ≡ 1 → (n : ℕ) × (m ≡ number n)
is-number (number n) h = (n, refl)
is-number m h = absurd (omega (arith, h))

is-kind : (m : Leaf) → binary_shape m ≡ 2 → (s : Space) × (m ≡ kind s)
is-kind (kind s) h = (s, refl)
is-kind m h = absurd (omega (arith, h))

is-value : (m : Leaf) → binary_shape m ≡ 3 → (v : CoreValue) × (m ≡ core_value v)
is-value (core_value v) h = (v, refl)
is-value m h = absurd (omega (arith, h))

is-ref : (m : Leaf) → binary_shape m ≡ 4 → (s : Space) × (t : Target) × (m ≡ ref s t)
is-ref (ref s t) h = (s, t, refl)
is-ref m h = absurd (omega (arith, h))

is-place : (m : Leaf) → binary_shape m ≡ 5 → (p : Place) × (m ≡ place p)
is-place (place p) h = (p, refl)
is-place m h = absurd (omega (arith, h))

is-absent : (m : Leaf) → binary_shape m ≡ 6 → m ≡ absent
is-absent absent h = refl
is-absent m h = absurd (omega (arith, h))

is-present : (m : Leaf) → binary_shape m ≡ 7 → (l : Leaf) × (m ≡ present l)
is-present (present l) h = (l, refl)
is-present m h = absurd (omega (arith, h))

is-node : (m : Leaf) → binary_shape m ≡ 8 → (t : Row) × (ls : Leaves) × (m ≡ node (row t ls))
is-node (node (row t ls)) h = (t, ls, refl)
is-node m h = absurd (omega (arith, h))

is-nodes : (m : Leaf) → binary_shape m ≡ 9 → (ns : Nodes) × (m ≡ nodes ns)
is-nodes (nodes ns) h = (ns, refl)
is-nodes m h = absurd (omega (arith, h))

is-case_id : (m : Leaf) → binary_shape m ≡ 10 → (x : Option Id) × (m ≡ case_id x)
is-case_id (case_id x) h = (x, refl)
is-case_id m h = absurd (omega (arith, h))

is-scope : (m : Leaf) → binary_shape m ≡ 13 → (k : ScopeKind) × (id : Option Id) × (label : Option Text) × (ds : Defs) × (m ≡ scope (scope_of k id label ds))
is-scope (scope (scope_of k id label ds)) h = (k, id, label, ds, refl)
is-scope m h = absurd (omega (arith, h))

-- ---- names, numerals and core value types

written-same : (j k : ℕ) → written j ≡ written k → j ≡ k
written-same j k h = cc

leads-same : (st su : List Scope) (bst : List (List Made)) (s : Space) (r q : Reach) (x y : Id) (i : ℕ) → LeadsTo st bst s r x i → LeadsTo su bst s q y i → SameNames st su s r x q y
leads-same st su bst s r q x y i h g = λ d u v. (
    let a : h.depth ≡ d = some-same h.depth d (sym h.counts_there ∙ u) in
    let b : g.depth ≡ d = some-same g.depth d (sym g.counts_there ∙ v) in
    let l : h.reached ≡ g.reached = some-same h.reached g.reached (sym (subst (λ n. leads bst n s i ≡ Some h.reached) a h.leads_there) ∙ subst (λ n. leads bst n s i ≡ Some g.reached) b g.leads_there) in
    let m : h.found ≡ g.found = some-same h.found g.found (sym (subst (λ n. slice_get (binary_at bst n.depth) n.item.definition ≡ Some h.found) l h.stands) ∙ g.stands) in
    record {
      first = h.denoted;
      second = g.denoted;
      first_denoted = h.denotes_it;
      second_denoted = g.denotes_it;
      same_depth = sym h.same_depth ∙ ap (λ n. n.depth) l ∙ g.same_depth;
      same_definition = written-same h.denoted.item.definition g.denoted.item.definition (sym h.is_written ∙ ap (λ n. n.origin) m ∙ g.is_written);
      same_part = sym h.same_part ∙ ap (λ n. n.item.part) l ∙ g.same_part;
    })

value-same : (st su : List Scope) (bst : List (List Made)) (v w : CoreValue) (b : Leaf) → ValueAgrees st bst v b → ValueAgrees su bst w b → SameValue st su v w
value-same st su bst (ref_index n i) w b x y = absurd x
value-same st su bst v (ref_index n i) b x y = absurd y
value-same st su bst (ref_numeral n o i) (ref_numeral m p j) b x y = inl (record { offset = p; number = j; is_value = cc; fact = cc })
value-same st su bst (ref_numeral n o i) (ref_name m q z) b x y = let f : b ≡ core_value (ref_index m y.part) = y.is_leaf in inr (record { reach = q; id = z; is_value = cc; fact = tt })
value-same st su bst (ref_name n r z) (ref_numeral m p j) b x y = let f : b ≡ core_value (ref_index n x.part) = x.is_leaf in inl (record { offset = p; number = j; is_value = cc; fact = tt })
value-same st su bst (ref_name n r z) (ref_name m q a) b x y =
    let f : b ≡ core_value (ref_index n x.part) = x.is_leaf in
    let g : b ≡ core_value (ref_index m y.part) = y.is_leaf in
    let i : y.part ≡ x.part = cc in
    inr (record { reach = q; id = a; is_value = cc; fact = leads-same st su bst CoreType r q z a x.part x.fact (subst (LeadsTo su bst CoreType q a) i y.fact) })
value-same st su bst (ref_numeral n o i) w b x y = absurd (cc)
value-same st su bst (ref_name n r z) w b x y = let f : b ≡ core_value (ref_index n x.part) = x.is_leaf in absurd (cc)
value-same st su bst v (ref_numeral m p j) b x y = absurd (cc)
value-same st su bst v (ref_name m q a) b x y = let f : b ≡ core_value (ref_index m y.part) = y.is_leaf in absurd (cc)
value-same st su bst v w b x y = cc

-- ---- definitions with one mark are one

distinct-same : (ms : List Made) (p q : ℕ) (m n : Made) → MarksDistinct ms → slice_get ms p ≡ Some m → slice_get ms q ≡ Some n → m.origin ≡ n.origin → m ≡ n
distinct-same [] p q m n d h g o = absurd (cc)
distinct-same (x ∷ ms) zero zero m n d h g o = sym (some-same x m h) ∙ some-same x n g
distinct-same (x ∷ ms) zero (suc q) m n d h g o = absurd (made-get (λ y. x.origin ≢ y.origin) ms q n d.0 g (ap (λ y. y.origin) (some-same x m h) ∙ o))
distinct-same (x ∷ ms) (suc p) zero m n d h g o = absurd (made-get (λ y. x.origin ≢ y.origin) ms p m d.0 h (ap (λ y. y.origin) (some-same x n g) ∙ sym o))
distinct-same (x ∷ ms) (suc p) (suc q) m n d h g o = distinct-same ms p q m n d.1 h g o

row-tag : (t v : Row) (bs cs : Leaves) → row t bs ≡ row v cs → v ≡ t
row-tag t v bs cs h = cc

row-leaves : (t v : Row) (bs cs : Leaves) → row t bs ≡ row v cs → cs ≡ bs
row-leaves t v bs cs h = cc

module _ (e : Encoding) where
  ref-index : (st : List Scope) (bst : List (List Made)) (h : Held) (s : Space) (t : Target) (b : Leaf) → LeafAgrees e st bst h (ref s t) b → (i : ℕ) × (b ≡ ref s (index i))
  ref-index st bst h s (numeral o n) b a = (n, a)
  ref-index st bst h s (name r x) b a = (a.part, a.is_leaf)
  ref-index st bst h s (path p) b a = (a.part, a.is_leaf)
  ref-index st bst h s (inline (row t ls)) b a = (a.part, a.is_leaf)
  ref-index st bst h s (bundle (row t ls)) b a = (a.part, a.is_leaf)
  ref-index st bst h s (index i) b a = absurd a

  ref-space : (s r : Space) (i j : ℕ) (b : Leaf) → b ≡ ref s (index i) → b ≡ ref r (index j) → (r ≡ s) × (j ≡ i)
  ref-space s r i j b x y = (cc, cc)

  -- a leaf that agrees with what a reference agrees with is a reference into the same space
  beside-ref : (su : List Scope) (bst : List (List Made)) (h : Held) (s : Space) (i : ℕ) (m b : Leaf) → b ≡ ref s (index i) → LeafAgrees e su bst h m b → binary_shape m ≡ 4 → (u : Target) × (m ≡ ref s u) × LeafAgrees e su bst h (ref s u) b
  beside-ref su bst h s i m b x y k =
      let f : (r : Space) × (u : Target) × (m ≡ ref r u) = is-ref m k in
      let g : LeafAgrees e su bst h (ref f.0 f.1) b = subst (λ n. LeafAgrees e su bst h n b) f.2 y in
      let j : (i : ℕ) × (b ≡ ref f.0 (index i)) = ref-index su bst h f.0 f.1 b g in
      let o : f.0 ≡ s = (ref-space s f.0 i j.0 b x j.1).0 in
      (f.1, f.2 ∙ ap (λ r. ref r f.1) o, subst (λ r. LeafAgrees e su bst h (ref r f.1) b) o g)

  beside-numeral : (su : List Scope) (bst : List (List Made)) (h : Held) (s : Space) (n : ℕ) (u : Target) (b : Leaf) → b ≡ ref s (index n) → LeafAgrees e su bst h (ref s u) b → BesideNumeral n u
  beside-numeral su bst h s n (numeral o i) b x y = (ref-space s s n i b x y).1
  beside-numeral su bst h s n u b x y = tt

  beside-name : (st su : List Scope) (bst : List (List Made)) (h : Held) (s : Space) (r : Reach) (z : Id) (u : Target) (b : Leaf) (i : ℕ) → b ≡ ref s (index i) → LeadsTo st bst s r z i → LeafAgrees e su bst h (ref s u) b → BesideName st su s r z u
  beside-name st su bst h s r z (name q a) b i x l y = leads-same st su bst s r q z a i l (subst (LeadsTo su bst s q a) (ref-space s s i y.part b x y.is_leaf).1 y.fact)
  beside-name st su bst h s r z u b i x l y = tt

  results-of : (su : List Scope) (bst : List (List Made)) (h : Held) (m b : Leaf) → binary_shape m ≡ 11 → LeafAgrees e su bst h m b → (js : List (Option Id)) × (m ≡ result_ids js) × (b ≡ result_count (length js))
  results-of su bst h (result_ids js) b k y = (js, refl, y)
  results-of su bst h (result_count n) b k y = absurd y
  results-of su bst h m b k y = absurd (omega (arith, k))

  module-of : (su : List Scope) (bst : List (List Made)) (h : Held) (m b : Leaf) → binary_shape m ≡ 12 → LeafAgrees e su bst h m b → (d : CoreModule) × (m ≡ core_source d) × (b ≡ module_bytes (e.core_bytes d))
  module-of su bst h (core_source d) b k y = (d, refl, y)
  module-of su bst h (module_bytes bs) b k y = absurd y
  module-of su bst h m b k y = absurd (omega (arith, k))

  count-same : (n m : ℕ) (b : Leaf) → b ≡ result_count n → b ≡ result_count m → m ≡ n
  count-same n m b x y = cc

  bytes-same : (n m : List ℕ) (b : Leaf) → b ≡ module_bytes n → b ≡ module_bytes m → m ≡ n
  bytes-same n m b x y = cc

  -- an inline node or bundle beside another of the same index
  same-there : (su : List Scope) (bst : List (List Made)) (s : Space) (i j : ℕ) (t v : Row) (P Q : Origin → Type 0) (F : Held → Leaves → Type 0) (ns : Leaves) (x : RowThere (binary_at bst 0) s t P F i)
      → RowThere (binary_at bst 0) s v Q (λ g bs. LeavesAgree e su bst g ns bs) j → j ≡ i → (v ≡ t) × LeavesAgree e su bst x.found.held ns x.leaves
  same-there su bst s i j t v P Q F ns x y o =
      let p : y.declaration ≡ x.declaration = some-same y.declaration x.declaration (sym y.declared ∙ ap (λ k. item (binary_at bst 0) s k) o ∙ x.declared) in
      let q : y.found ≡ x.found = some-same y.found x.found (sym y.stands ∙ ap (λ k. slice_get (binary_at bst 0) k.definition) p ∙ x.stands) in
      let r : row t x.leaves ≡ row v y.leaves = sym x.has_row ∙ ap (λ k. k.made) (sym q) ∙ y.has_row in
      (row-tag t v x.leaves y.leaves r, subst (λ k. LeavesAgree e su bst k.held ns x.leaves) q (subst (LeavesAgree e su bst y.found.held ns) (row-leaves t v x.leaves y.leaves r) y.fact))

  or-false : (a b : Bool) → (a || b) ≡ false → (a ≡ false) × (b ≡ false)
  or-false true b h = absurd (cc)
  or-false false b h = (refl, h)

  coded-row : (t : Row) (ls bs : Leaves) → same_row t rows.Producers ≡ false → coded_node e t ls bs ≡ row t bs
  coded-row t ls bs h = rw h refl

  number-more : (k j : ℕ) (ks js : List ℕ) → k ∷ ks ≡ j ∷ js → ks ≡ js
  number-more k j ks js h = cc

  mutual
    same-leaves : (st su : List Scope) (bst : List (List Made)) (h : Held) (ls ms bs : Leaves) → LeavesAgree e st bst h ls bs → LeavesAgree e su bst h ms bs → SameLeaves e st su ls ms
    same-leaves st su bst h no_leaf no_leaf bs x y = refl
    same-leaves st su bst h no_leaf (m ▸ ms) bs x y = let f : bs ≡ y.first ▸ y.later = y.are in absurd (cc)
    same-leaves st su bst h (l ▸ ls) no_leaf bs x y = let f : bs ≡ x.first ▸ x.later = x.are in absurd (cc)
    same-leaves st su bst h (l ▸ ls) (m ▸ ms) bs x y =
        let f : bs ≡ x.first ▸ x.later = x.are in
        let g : bs ≡ y.first ▸ y.later = y.are in
        let a : y.first ≡ x.first = cc in
        let b : y.later ≡ x.later = cc in
        record {
          first = m;
          later = ms;
          are = refl;
          first_fact = same-leaf st su bst h l m x.first x.first_fact (subst (LeafAgrees e su bst h m) a y.first_fact);
          later_fact = same-leaves st su bst h ls ms x.later x.later_fact (subst (LeavesAgree e su bst h ms) b y.later_fact);
        }

    same-leaf : (st su : List Scope) (bst : List (List Made)) (h : Held) (l m b : Leaf) → LeafAgrees e st bst h l b → LeafAgrees e su bst h m b → SameLeaf e st su l m
    same-leaf st su bst h (text t) m b x y =
        let f : (u : Text) × (m ≡ text u) = is-text m (one-shape e st su bst h (text t) m b x y) in
        let g : b ≡ text f.0 = subst (λ n. LeafAgrees e su bst h n b) f.1 y in f.1 ∙ sym g ∙ x
    same-leaf st su bst h (number n) m b x y =
        let f : (u : ℕ) × (m ≡ number u) = is-number m (one-shape e st su bst h (number n) m b x y) in
        let g : b ≡ number f.0 = subst (λ n. LeafAgrees e su bst h n b) f.1 y in f.1 ∙ sym g ∙ x
    same-leaf st su bst h (kind s) m b x y =
        let f : (u : Space) × (m ≡ kind u) = is-kind m (one-shape e st su bst h (kind s) m b x y) in
        let g : b ≡ kind f.0 = subst (λ n. LeafAgrees e su bst h n b) f.1 y in f.1 ∙ sym g ∙ x
    same-leaf st su bst h (core_value v) m b x y =
        let f : (w : CoreValue) × (m ≡ core_value w) = is-value m (one-shape e st su bst h (core_value v) m b x y) in
        record { part = f.0; is_leaf = f.1; fact = value-same st su bst v f.0 b x (subst (λ n. LeafAgrees e su bst h n b) f.1 y) }
    same-leaf st su bst h (ref s (numeral o n)) m b x y =
        let f : (u : Target) × (m ≡ ref s u) × LeafAgrees e su bst h (ref s u) b = beside-ref su bst h s n m b x y (one-shape e st su bst h (ref s (numeral o n)) m b x y) in
        record { part = f.0; is_leaf = f.1; fact = beside-numeral su bst h s n f.0 b x f.2 }
    same-leaf st su bst h (ref s (name r z)) m b x y =
        let f : (u : Target) × (m ≡ ref s u) × LeafAgrees e su bst h (ref s u) b = beside-ref su bst h s x.part m b x.is_leaf y (one-shape e st su bst h (ref s (name r z)) m b x y) in
        record { part = f.0; is_leaf = f.1; fact = beside-name st su bst h s r z f.0 b x.part x.is_leaf x.fact f.2 }
    same-leaf st su bst h (ref s (path p)) m b x y =
        let f : (u : Target) × (m ≡ ref s u) × LeafAgrees e su bst h (ref s u) b = beside-ref su bst h s x.part m b x.is_leaf y (one-shape e st su bst h (ref s (path p)) m b x y) in
        record { part = f.0; is_leaf = f.1; fact = tt }
    same-leaf st su bst h (ref s (inline (row t ls))) m b x y =
        let f : (u : Target) × (m ≡ ref s u) × LeafAgrees e su bst h (ref s u) b = beside-ref su bst h s x.part m b x.is_leaf y (one-shape e st su bst h (ref s (inline (row t ls))) m b x y) in
        record {
          part = f.0;
          is_leaf = f.1;
          fact = λ v ns q. (
              let g : LeafAgrees e su bst h (ref s (inline (row v ns))) b = subst (λ u. LeafAgrees e su bst h (ref s u) b) q f.2 in
              let w : (v ≡ t) × LeavesAgree e su bst x.fact.found.held ns x.fact.leaves = same-there su bst s x.part g.part t v _ _ _ ns x.fact g.fact (ref-space s s x.part g.part b x.is_leaf g.is_leaf).1 in
              record { one_row = w.0; leaves = same-leaves st su bst x.fact.found.held ls ns x.fact.leaves x.fact.fact w.1 });
        }
    same-leaf st su bst h (ref s (bundle (row t ls))) m b x y =
        let f : (u : Target) × (m ≡ ref s u) × LeafAgrees e su bst h (ref s u) b = beside-ref su bst h s x.part m b x.is_leaf y (one-shape e st su bst h (ref s (bundle (row t ls))) m b x y) in
        record {
          part = f.0;
          is_leaf = f.1;
          fact = λ v ns q. (
              let g : LeafAgrees e su bst h (ref s (bundle (row v ns))) b = subst (λ u. LeafAgrees e su bst h (ref s u) b) q f.2 in
              let w : (v ≡ t) × LeavesAgree e su bst x.fact.found.held ns x.fact.leaves = same-there su bst s x.part g.part t v _ _ _ ns x.fact g.fact (ref-space s s x.part g.part b x.is_leaf g.is_leaf).1 in
              record { one_row = w.0; leaves = same-leaves st su bst x.fact.found.held ls ns x.fact.leaves x.fact.fact w.1 });
        }
    same-leaf st su bst h (ref s (index i)) m b x y = absurd x
    same-leaf st su bst h (place p) m b x y =
        let f : (q : Place) × (m ≡ place q) = is-place m (one-shape e st su bst h (place p) m b x y) in
        let g : LeafAgrees e su bst h (place f.0) b = subst (λ n. LeafAgrees e su bst h n b) f.1 y in
        let i : b ≡ place (counted 0 x.part) = x.is_leaf in
        let j : b ≡ place (counted 0 g.part) = g.is_leaf in
        let k : g.part ≡ x.part = cc in
        record { part = f.0; is_leaf = f.1; fact = record { depth = x.part; first = x.fact; second = subst (PlaceIs su f.0) k g.fact } }
    same-leaf st su bst h absent m b x y = is-absent m (one-shape e st su bst h absent m b x y)
    same-leaf st su bst h (present l) m b x y =
        let f : (n : Leaf) × (m ≡ present n) = is-present m (one-shape e st su bst h (present l) m b x y) in
        let g : LeafAgrees e su bst h (present f.0) b = subst (λ n. LeafAgrees e su bst h n b) f.1 y in
        let i : b ≡ present x.part = x.is_leaf in
        let j : b ≡ present g.part = g.is_leaf in
        let k : g.part ≡ x.part = cc in
        record { part = f.0; is_leaf = f.1; fact = same-leaf st su bst h l f.0 x.part x.fact (subst (LeafAgrees e su bst h f.0) k g.fact) }
    same-leaf st su bst h (node (row t ls)) m b x y =
        let f : (v : Row) × (ns : Leaves) × (m ≡ node (row v ns)) = is-node m (one-shape e st su bst h (node (row t ls)) m b x y) in
        let g : LeafAgrees e su bst h (node (row f.0 f.1)) b = subst (λ n. LeafAgrees e su bst h n b) f.2 y in
        let i : b ≡ node (row t x.part) = x.is_leaf in
        let j : b ≡ node (row f.0 g.part) = g.is_leaf in
        let k : g.part ≡ x.part = cc in
        let o : f.0 ≡ t = cc in
        record { part = f.1; is_leaf = f.2 ∙ ap (λ v. node (row v f.1)) o; fact = same-leaves st su bst h ls f.1 x.part x.fact (subst (LeavesAgree e su bst h f.1) k g.fact) }
    same-leaf st su bst h (nodes ns) m b x y =
        let f : (ks : Nodes) × (m ≡ nodes ks) = is-nodes m (one-shape e st su bst h (nodes ns) m b x y) in
        let g : LeafAgrees e su bst h (nodes f.0) b = subst (λ n. LeafAgrees e su bst h n b) f.1 y in
        let i : b ≡ nodes x.part = x.is_leaf in
        let j : b ≡ nodes g.part = g.is_leaf in
        let k : g.part ≡ x.part = cc in
        record { part = f.0; is_leaf = f.1; fact = same-nodes st su bst h ns f.0 x.part x.fact (subst (NodesAgree e su bst h f.0) k g.fact) }
    same-leaf st su bst h (case_id z) m b x y = let f : (i : Option Id) × (m ≡ case_id i) = is-case_id m (one-shape e st su bst h (case_id z) m b x y) in record { part = f.0; is_leaf = f.1; fact = tt }
    same-leaf st su bst h (result_ids ids) m b x y =
        let f : (js : List (Option Id)) × (m ≡ result_ids js) × (b ≡ result_count (length js)) = results-of su bst h m b (one-shape e st su bst h (result_ids ids) m b x y) y in
        record { part = f.0; is_leaf = f.1; fact = count-same (length ids) (length f.0) b x f.2 }
    same-leaf st su bst h (result_count n) m b x y = absurd x
    same-leaf st su bst h (core_source c) m b x y =
        let f : (d : CoreModule) × (m ≡ core_source d) × (b ≡ module_bytes (e.core_bytes d)) = module-of su bst h m b (one-shape e st su bst h (core_source c) m b x y) y in
        record { part = f.0; is_leaf = f.1; fact = bytes-same (e.core_bytes c) (e.core_bytes f.0) b x f.2 }
    same-leaf st su bst h (module_bytes bs) m b x y = absurd x
    same-leaf st su bst h (scope (scope_of k id label ds)) m b x y =
        let f : (j : ScopeKind) × (jd : Option Id) × (mabel : Option Text) × (fs : Defs) × (m ≡ scope (scope_of j jd mabel fs)) = is-scope m (one-shape e st su bst h (scope (scope_of k id label ds)) m b x y) in
        let g : LeafAgrees e su bst h (scope (scope_of f.0 f.1 f.2 f.3)) b = subst (λ n. LeafAgrees e su bst h n b) f.4 y in
        let i : b ≡ scope (scope_of k None None x.defs) = x.is_scope in
        let j : b ≡ scope (scope_of f.0 None None g.defs) = g.is_scope in
        let hx : h ≡ holds x.origins = x.is_held in
        let hg : h ≡ holds g.origins = g.is_held in
        let o : f.0 ≡ k = cc in
        let p : g.defs ≡ x.defs = cc in
        let q : g.origins ≡ x.origins = cc in
        let z : placed g.defs g.origins ≡ placed x.defs x.origins = ap (λ d. placed d g.origins) p ∙ ap (placed x.defs) q in
        let mg : MarksRender (scope_of f.0 f.1 f.2 f.3) f.3 (placed x.defs x.origins) = subst (MarksRender (scope_of f.0 f.1 f.2 f.3) f.3) z g.marks in
        let dg : DefsRender e (scope_of f.0 f.1 f.2 f.3 ∷ su) (placed x.defs x.origins ∷ bst) 0 f.3 = subst (λ v. DefsRender e (scope_of f.0 f.1 f.2 f.3 ∷ su) (v ∷ bst) 0 f.3) z g.fact in
        let dk : DefsRender e (scope_of k f.1 f.2 f.3 ∷ su) (placed x.defs x.origins ∷ bst) 0 f.3 = subst (λ v. DefsRender e (scope_of v f.1 f.2 f.3 ∷ su) (placed x.defs x.origins ∷ bst) 0 f.3) o dg in
        record {
          id = f.1;
          label = f.2;
          defs = f.3;
          is_scope = f.4 ∙ ap (λ v. scope (scope_of v f.1 f.2 f.3)) o;
          fact = same-defs (scope_of k id label ds ∷ st) (scope_of k f.1 f.2 f.3 ∷ su) (placed x.defs x.origins) bst 0 ds f.3 (sym x.marks.written ∙ mg.written) x.marks.distinct x.fact dk;
        }

    same-nodes : (st su : List Scope) (bst : List (List Made)) (h : Held) (ns ms bs : Nodes) → NodesAgree e st bst h ns bs → NodesAgree e su bst h ms bs → SameNodes e st su ns ms
    same-nodes st su bst h no_node no_node bs x y = refl
    same-nodes st su bst h no_node (one_node (row v ms) ks) bs x y = let f : bs ≡ one_node (row v y.first) y.later = y.are in absurd (cc)
    same-nodes st su bst h (one_node (row t ls) ns) no_node bs x y = let f : bs ≡ one_node (row t x.first) x.later = x.are in absurd (cc)
    same-nodes st su bst h (one_node (row t ls) ns) (one_node (row v ms) ks) bs x y =
        let f : bs ≡ one_node (row t x.first) x.later = x.are in
        let g : bs ≡ one_node (row v y.first) y.later = y.are in
        let o : v ≡ t = cc in
        let a : y.first ≡ x.first = cc in
        let b : y.later ≡ x.later = cc in
        record {
          first = ms;
          later = ks;
          are = ap (λ u. one_node (row u ms) ks) o;
          first_fact = same-leaves st su bst h ls ms x.first x.first_fact (subst (LeavesAgree e su bst h ms) a y.first_fact);
          later_fact = same-nodes st su bst h ns ks x.later x.later_fact (subst (NodesAgree e su bst h ks) b y.later_fact);
        }

    same-defs : (st su : List Scope) (w : List Made) (bst : List (List Made)) (k : ℕ) (ds fs : Defs) → numbered k ds ≡ numbered k fs → MarksDistinct w → DefsRender e st (w ∷ bst) k ds → DefsRender e su (w ∷ bst) k fs → SameDefs e st su ds fs
    same-defs st su w bst k no_def no_def n d x y = refl
    same-defs st su w bst k no_def (one_def f fs) n d x y = absurd (cc)
    same-defs st su w bst k (one_def f ds) no_def n d x y = absurd (cc)
    same-defs st su w bst k (one_def (define names (row t ls)) ds) (one_def (define ns (row v ms)) fs) n d x y =
        let a : WrittenThere w k (coded_node e t ls) (λ p h bs. LeavesAgree e st (w ∷ bst) h ls bs) = x.0 in
        let b : WrittenThere w k (coded_node e v ms) (λ p h bs. LeavesAgree e su (w ∷ bst) h ms bs) = y.0 in
        let mx : Made = record { origin = written k; held = a.held; made = coded_node e t ls a.leaves } in
        let my : Made = record { origin = written k; held = b.held; made = coded_node e v ms b.leaves } in
        let q : my ≡ mx = distinct-same w b.position a.position my mx d b.stands a.stands refl in
        let hq : b.held ≡ a.held = ap (λ z. z.held) q in
        let nq : coded_node e v ms b.leaves ≡ coded_node e t ls a.leaves = ap (λ z. z.made) q in
        record {
          names = ns;
          of_row = v;
          leaves = ms;
          later = fs;
          are = refl;
          first_fact = pick (same_row t rows.Producers || same_row v rows.Producers) refl nq
              (λ o. same-leaves st su (w ∷ bst) a.held ls ms a.leaves a.fact (subst (LeavesAgree e su (w ∷ bst) a.held ms) o (subst (λ z. LeavesAgree e su (w ∷ bst) z ms b.leaves) hq b.fact)));
          later_fact = same-defs st su w bst (k + 1) ds fs (number-more k k (numbered (k + 1) ds) (numbered (k + 1) fs) n) d x.1 y.1;
        }
      where
        pick : (b : Bool) → (same_row t rows.Producers || same_row v rows.Producers) ≡ b → coded_node e v ms y.0.leaves ≡ coded_node e t ls x.0.leaves → (y.0.leaves ≡ x.0.leaves → SameLeaves e st su ls ms)
            → ((same_row t rows.Producers || same_row v rows.Producers) ≡ true) ⊎ SameRow t v (SameLeaves e st su ls ms)
        pick true z c rec = inl z
        pick false z c rec =
            let a : (same_row t rows.Producers ≡ false) × (same_row v rows.Producers ≡ false) = or-false (same_row t rows.Producers) (same_row v rows.Producers) z in
            let r : row v y.0.leaves ≡ row t x.0.leaves = sym (coded-row v ms y.0.leaves a.1) ∙ c ∙ coded-row t ls x.0.leaves a.0 in
            inr (record { one_row = sym (row-tag v t y.0.leaves x.0.leaves r); leaves = rec (sym (row-leaves v t y.0.leaves x.0.leaves r)) })

  -- two scopes that one binary scope renders under the same marks
  pub kept-same : (st su : List Scope) (bst : List (List Made)) (s r b : Scope) (os : Origins) → Renders e st bst s b os → Renders e su bst r b os → SameScope e st su s r
  kept-same st su bst (scope_of k id label ds) (scope_of j jd mabel fs) (scope_of c i l bds) os x y =
      record {
        kind = sym y.kind ∙ x.kind;
        defs = same-defs (scope_of k id label ds ∷ st) (scope_of j jd mabel fs ∷ su) (placed bds os) bst 0 ds fs (sym x.marks.written ∙ y.marks.written) x.marks.distinct x.defs y.defs;
      }
