-- The definition of loose parts whose sort fits its scope.
use Rattle.std.proofs.Common.{◌≡◌, ◌≤◌, ◌+◌, ℕ, suc, replicate, append-nil, nat_eq, Bool, true, false, ◌&&◌, cond, not, nat_le, List, [], ◌∷◌, ◌++◌, map, length, refl, sym, ◌∙◌, ap, subst, inl, inr, Option, leb-true, arith, eq-eqb, zero}
use lib.ListN.{length-replicate}
use Rattle.comp_model.specs.declared.Space.{Space}
use Rattle.comp_model.specs.declared.Space.TheVariants as space
use Rattle.comp_model.specs.Core as core
use Rattle.comp_model.specs.Core.{Id, Text, Place}
use Rattle.comp_model.specs.Model as m
use Rattle.comp_model.specs.declared.row.ScopeKind.TheVariants as kinds
use Rattle.comp_model.specs.Model.{Leaf, Leaves, no_leaf, ◌▸◌, Def, no_def, one_def, Names, Node, Nodes, one_node}
use Rattle.comp_model.specs.declared.row.ScopeKind.{ScopeKind}
use Rattle.comp_model.specs.ItemNames.{first_or_none}
use Rattle.comp_model.specs.declared.row.Row.TheVariants as rows
use Rattle.comp_model.specs.declared.row.Row.{Row}
use Rattle.comp_model.specs.RowNumbers.{same_row, is_row}
use Rattle.comp_model.specs.declared.declares.Declares.{Declares}
use Rattle.comp_model.specs.declared.declares.Declares.TheVariants.{Always, ByKind, ByDescription, ByReference, ByList, ByResults, Nothing}
use Rattle.comp_model.specs.Spaces.{declares_by, declares_row, spaces_by, same_space}
use Rattle.comp_model.specs.Rows as w
use Rattle.comp_model.specs.Rows.{may_define, fits_together, is_outer_alias, is_outer_kind, same_place_token, leaves_of}
use Rattle.comp_model.specs.Written.{ExportsWritten}
use Rattle.comp_model.specs.NamesFit.{may_export, aliases_func, imports_item, ExportsFit}
use Rattle.comp_model.proofs.Tests.{same_row-true, same_space-refl}
use Rattle.comp_model.specs.Utf8Names.{Utf8Texts}
use Rattle.comp_expanded.specs.OfText.{TextIds}
use Rattle.comp_expanded.proofs.Ready.{same_id-refl}
use Rattle.text_rules.specs.Made.{Made, leaves_from, nodes_from, defs_from, owned, first_row, first_place, def_made, add_numbered, numbered_nodes, numbered_lists}
use Rattle.text_rules.specs.Sorts.{Segment, Parts}
use Rattle.text_rules.specs.Good.{GoodLeaf, GoodLeaves, GoodNodes, GoodDefs}
use Rattle.text_rules.specs.HasSorts as is
use Rattle.text_rules.specs.HasSorts.{HasLeaves, HasNode, HasNodes, HasParts, Results, entries, listed}
use Rattle.text_rules.specs.LeafTests.{fits_row, are_rows, fits_sort}
use Rattle.text_rules.specs.DefinitionTests.{one_item, alias_fits, outer_fits, names_counted, exports_fit, is_func_alias, is_item_import, exporting, is_component, fits_definition, no_rows, item_for_each, goes_by_list, lone_list, fits_start, start_leaves}
use Rattle.text_rules.specs.Tests.{lists_of}
use Rattle.text_rules.proofs.Booleans.{make_true, not_true, second_true, first_true, no_both, row_among}
use Rattle.text_rules.proofs.Leaves.{good_leaf}
use Rattle.text_rules.proofs.Rows.{owned_row}
use Rattle.text_rules.proofs.Spaces.{one_declared}
use Rattle.wast_grammar.proofs.Moves.{and_true, or_true}

-- ---- outer aliases

same_place-refl : (p : Place) → same_place_token p p ≡ true
same_place-refl (core.counted o d) = rw (eq-eqb o o refl, eq-eqb d d refl) refl
same_place-refl (core.named o x) = rw (eq-eqb o o refl, same_id-refl x, eq-eqb x.offset x.offset refl) refl

not_outer : (k : ScopeKind) (t : Row) (ls : Leaves) → same_row t rows.AliasOuter ≡ false → fits_together k t ls ≡ true
not_outer k rows.AliasOuter ls h = absurd (cc)
not_outer k _ ls h = refl

module _ (i : Option Id) (t : Option Text) where
  outer_holds : (k : ScopeKind) {xs : List Segment} {ls : List Leaf} → HasLeaves xs ls → outer_fits k xs ≡ true → is_outer_alias k (leaves_from (map (owned i t) ls)) ≡ true
  outer_holds k (is.outer_name {k = u} {p = p} a b c is.no_leaves) h = make_true (same_space u u) _ (same_space-refl u) (make_true (is_outer_kind k u) _ h (same_place-refl p))
  outer_holds k (is.outer_numeral {k = u} {p = p} a b c is.no_leaves) h = make_true (same_space u u) _ (same_space-refl u) (make_true (is_outer_kind k u) _ h refl)
  outer_holds k _ h = absurd (cc)

  func_alias : {xs : List Segment} {ls : List Leaf} → HasLeaves xs ls → is_func_alias xs ≡ true → aliases_func (leaves_from (map (owned i t) ls)) ≡ true
  func_alias (is.one_leaf (is.name_leaf a) (is.one_leaf (is.text_leaf y) (is.one_leaf is.kind_leaf is.no_leaves))) h = h
  func_alias (is.one_leaf (is.numeral_leaf a) (is.one_leaf (is.text_leaf y) (is.one_leaf is.kind_leaf is.no_leaves))) h = h
  func_alias _ h = absurd (cc)

  item_import : {xs : List Segment} {ls : List Leaf} → HasLeaves xs ls → is_item_import xs ≡ true → imports_item (leaves_from (map (owned i t) ls)) ≡ true
  item_import (is.one_leaf a (is.one_leaf (is.node_leaf g) is.no_leaves)) h = h
  item_import _ h = absurd (cc)

  exporting_row : (u : Row) (ls : Leaves) → is_row u exporting ≡ true → may_export u ls ≡ true
  exporting_row rows.AliasExport ls h = absurd (cc)
  exporting_row rows.Import ls h = absurd (cc)
  exporting_row _ ls h = h

  -- by the row
  exports_by : (u : Row) {xs : List Segment} {ls : List Leaf} (b c : Bool) → same_row u rows.AliasExport ≡ b → same_row u rows.Import ≡ c → HasLeaves xs ls
      → cond b (is_func_alias xs) (cond c (is_item_import xs) (is_row u exporting)) ≡ true → may_export u (leaves_from (map (owned i t) ls)) ≡ true
  exports_by u {ls = ls} true c e g j h = subst (λ v. may_export v (leaves_from (map (owned i t) ls)) ≡ true) (sym (same_row-true u rows.AliasExport e)) (func_alias j h)
  exports_by u {ls = ls} false true e g j h = subst (λ v. may_export v (leaves_from (map (owned i t) ls)) ≡ true) (sym (same_row-true u rows.Import g)) (item_import j h)
  exports_by u {ls = ls} false false e g j h = exporting_row u (leaves_from (map (owned i t) ls)) h

  together_by : (k : ScopeKind) (u : Row) {xs : List Segment} {ls : List Leaf} (b : Bool) → same_row u rows.AliasOuter ≡ b → HasLeaves xs ls → cond b (outer_fits k xs) true ≡ true → fits_together k u (leaves_from (map (owned i t) ls)) ≡ true
  together_by k u {ls = ls} true e j h = subst (λ v. fits_together k v (leaves_from (map (owned i t) ls)) ≡ true) (sym (same_row-true u rows.AliasOuter e)) (outer_holds k j h)
  together_by k u {ls = ls} false e j h = not_outer k u (leaves_from (map (owned i t) ls)) e

-- ---- names

no_exports_fit : (k : ScopeKind) (u : Row) (ls : Leaves) (es : List Text) → es ≡ [] → ExportsFit k u ls es
no_exports_fit k u ls es e = subst (λ x. ExportsFit k u ls x) (sym e) tt

some_exports_fit : (k : ScopeKind) (u : Row) (ls : Leaves) (es : List Text) → is_component k ≡ true → may_export u ls ≡ true → ExportsFit k u ls es
some_exports_fit k u ls [] c h = tt
some_exports_fit kinds.Component u ls (x ∷ es) c h = h
some_exports_fit kinds.ComponentType u ls (x ∷ es) c h = absurd (cc)
some_exports_fit kinds.InstanceType u ls (x ∷ es) c h = absurd (cc)
some_exports_fit kinds.ModuleType u ls (x ∷ es) c h = absurd (cc)

one_exported : (es : List Text) (ss : List Space) → length ss ≡ 1 → ExportsWritten es ss
one_exported [] ss h = tt
one_exported (x ∷ es) ss h = h

none_exported : (es : List Text) (ss : List Space) → es ≡ [] → ExportsWritten es ss
none_exported es ss e = subst (λ x. ExportsWritten x ss) (sym e) tt

abbrev Bounded : List (Option Id) → List (Option Text) → List Text → List Space → Type 0
Bounded ids labels es ss = (length ids ≤ length ss) × (length labels ≤ length ss) × ExportsWritten es ss

counted : (x : Parts) (ids : List (Option Id)) (labels : List (Option Text)) (es : List Text) (ss : List Space) (b : Bool)
    → length ids ≤ x.ids → length labels ≤ x.labels → (x.exports ≡ false → es ≡ []) → (b ≡ true → length ss ≡ 1)
    → cond b (nat_le x.ids 1 && nat_le x.labels 1) (nat_le x.ids 0 && (nat_le x.labels 0 && not x.exports)) ≡ true → Bounded ids labels es ss
counted x ids labels es ss true i l e s h =
    let a = and_true (nat_le x.ids 1) _ h in
    (omega (arith, i, s refl, leb-true x.ids 1 a.0), omega (arith, l, s refl, leb-true x.labels 1 a.1), one_exported es ss (s refl))
counted x ids labels es ss false i l e s h =
    let a = and_true (nat_le x.ids 0) _ h in
    let b = and_true (nat_le x.labels 0) _ a.1 in
    (omega (arith, i, leb-true x.ids 0 a.0), omega (arith, l, leb-true x.labels 0 b.0), none_exported es ss (e (not_true x.exports b.1)))

pub bound_none : (b : Bool) (n i e : ℕ) → b ≡ false → n ≤ i + cond b e 0 → n ≤ i
bound_none true n i e h g = absurd (cc)
bound_none false n i e h g = omega (arith, g)

bound_some : (b : Bool) (n i e : ℕ) → n ≤ i + cond b e 0 → n ≤ i + e
bound_some true n i e g = g
bound_some false n i e g = omega (arith, g)

-- ---- an item for each entry

length-replicated : (n : ℕ) (s : Space) → length (replicate n s ++ []) ≡ n
length-replicated n s = ap length (append-nil (replicate n s)) ∙ length-replicate n s

listed_items : (i : Option Id) (t : Option Text) (d : Declares) {xs : List Segment} {ls : List Leaf} → goes_by_list d ≡ true → HasLeaves xs ls → lone_list xs ≡ true
    → length (spaces_by d (leaves_from (map (owned i t) ls))) ≡ listed ls
listed_items i t ByList h (is.one_leaf (is.list_leaf {ns = ns} g) is.no_leaves) e = omega (arith, length-replicated (m.count_nodes ns) space.CoreType)
listed_items i t ByList h _ e = absurd (cc)
listed_items i t ByKind h j e = absurd (cc)
listed_items i t ByDescription h j e = absurd (cc)
listed_items i t ByReference h j e = absurd (cc)
listed_items i t ByResults h j e = absurd (cc)
listed_items i t (Always s) h j e = absurd (cc)
listed_items i t Nothing h j e = absurd (cc)

pub no_nodes : (ts us : List Row) → no_rows ts ≡ true → no_rows us ≡ true → (ns : List Node) → HasNodes ts us ns → length ns ≡ 0
no_nodes ts us e f [] h = refl
no_nodes ts us e f (n ∷ ns) h = none ts us e f n h.0
  where
    none : (ts us : List Row) → no_rows ts ≡ true → no_rows us ≡ true → (n : Node) → HasNode ts us n → length (n ∷ ns) ≡ 0
    none [] us e f n (is.whole i g) = absurd (cc)
    none (t ∷ ts) us e f n (is.whole i g) = absurd (cc)
    none ts [] e f n (is.with_number i g) = absurd (cc)
    none ts (u ∷ us) e f n (is.with_number i g) = absurd (cc)

-- ---- a start

start_of : (ids : List (Option Id)) (labels : List (Option Text)) (es : List Text) (o : ℕ) → TextIds ids → Utf8Texts es → length labels ≤ 0 → es ≡ []
    → (u : Space) (g : m.Target) (ns : Nodes) (xs : List (Option Id)) → GoodLeaf (w.an_index space.Func) (m.ref u g) → GoodLeaf (w.a_list (rows.StartArgument ∷ [])) (m.nodes ns) → ids ≡ xs
    → GoodDefs kinds.Component (one_def (m.define (record { ids = ids; labels = labels; exports = es; offset = o }) (m.row rows.Start (m.ref u g ▸ m.nodes ns ▸ m.result_ids xs ▸ no_leaf))) no_def)
start_of ids labels es o t a l e u g ns xs b d r =
    let n : length (declares_row rows.Start (m.ref u g ▸ m.nodes ns ▸ m.result_ids xs ▸ no_leaf)) ≡ length xs = length-replicated (length xs) space.Value in
    let r' : length ids ≡ length xs = ap length r in
    record {
      shaped = (refl, (b.shaped, (d.shaped, (refl, tt))), tt);
      written = (none_exported es (declares_row rows.Start (m.ref u g ▸ m.nodes ns ▸ m.result_ids xs ▸ no_leaf)) e, (b.written, (d.written, (tt, tt))), tt);
      short = ((b.short, (d.short, (tt, tt))), tt);
      named = ((omega (arith, n, r'), omega (arith, l)), no_exports_fit kinds.Component rows.Start (m.ref u g ▸ m.nodes ns ▸ m.result_ids xs ▸ no_leaf) es e, (tt, (tt, (r, tt))), (b.named, (d.named, (tt, tt))), tt);
      utf8 = (a, (b.utf8, (d.utf8, (tt, tt))), tt);
      of_text = (t, (b.of_text, (d.of_text, (tt, tt))), tt);
    }

start_definition : (k : ScopeKind) (ids : List (Option Id)) (labels : List (Option Text)) (es : List Text) (o : ℕ) → is_component k ≡ true → TextIds ids → Utf8Texts es → length labels ≤ 0 → es ≡ []
    → {xs : List Segment} {ls : List Leaf} → HasLeaves xs ls → start_leaves xs ≡ true → Results ids ls
    → GoodDefs k (one_def (m.define (record { ids = ids; labels = labels; exports = es; offset = o }) (m.row rows.Start (leaves_from (map (owned (first_or_none ids) (first_or_none labels)) ls)))) no_def)
start_definition kinds.ComponentType ids labels es o c t f l e j h r = absurd (cc)
start_definition kinds.InstanceType ids labels es o c t f l e j h r = absurd (cc)
start_definition kinds.ModuleType ids labels es o c t f l e j h r = absurd (cc)
start_definition kinds.Component ids labels es o c t f l e (is.one_leaf {x = x} (is.name_leaf {u = u} {r = q} {x = y} i) (is.one_leaf (is.list_leaf {ns = ns} g) (is.one_leaf (is.results_leaf {xs = xs}) is.no_leaves))) h r =
    let a = and_true (fits_sort x (w.an_index space.Func)) _ h in
    start_of ids labels es o t f l e u (m.name q y) ns xs (good_leaf (is.name_leaf {r = q} {x = y} i) (w.an_index space.Func) a.0) (good_leaf (is.list_leaf g) (w.a_list (rows.StartArgument ∷ [])) a.1) (r.1).1.0
start_definition kinds.Component ids labels es o c t f l e (is.one_leaf {x = x} (is.numeral_leaf {u = u} {r = q} {o = z} {n = n} i) (is.one_leaf (is.list_leaf {ns = ns} g) (is.one_leaf (is.results_leaf {xs = xs}) is.no_leaves))) h r =
    let a = and_true (fits_sort x (w.an_index space.Func)) _ h in
    start_of ids labels es o t f l e u (m.numeral z n) ns xs (good_leaf (is.numeral_leaf {r = q} {o = z} i) (w.an_index space.Func) a.0) (good_leaf (is.list_leaf g) (w.a_list (rows.StartArgument ∷ [])) a.1) (r.1).1.0
start_definition kinds.Component ids labels es o c t f l e _ h r = absurd (cc)

-- ---- the definition

module _ (k : ScopeKind) (x : Parts) (a : Made) (p : HasParts x a) where
  abbrev its : Names
  its = record { ids = a.ids; labels = a.labels; exports = a.exports; offset = first_place a.places }

  abbrev its_leaves : Leaves
  its_leaves = leaves_from (map (owned (first_or_none a.ids) (first_or_none a.labels)) a.leaves)

  exports_hold : (t : Row) → exports_fit k t x ≡ true → ExportsFit k t its_leaves a.exports
  exports_hold t h = elim (or_true (not x.exports) _ h) [
    | inl e ↦ no_exports_fit k t its_leaves a.exports (p.exports (not_true x.exports e))
    | inr e ↦
        let c = and_true (is_component k) _ e in
        some_exports_fit k t its_leaves a.exports c.0 (exports_by (first_or_none a.ids) (first_or_none a.labels) t (same_row t rows.AliasExport) (same_row t rows.Import) refl refl p.leaves c.1)
  ]

  names_hold : (t : Row) → names_counted t x ≡ true → Bounded a.ids a.labels a.exports (declares_row t its_leaves)
  names_hold t h =
      let f = and_true (not x.free) _ h in
      let n = p.ids (not_true x.free f.0) in
      elim (or_true (item_for_each t x) _ f.1) [
        | inl e ↦
            let c1 = and_true (goes_by_list (declares_by t)) _ e in
            let c2 = and_true (lone_list x.leaves) _ c1.1 in
            let c3 = and_true (no_rows x.nodes) _ c2.1 in
            let c4 = and_true (no_rows x.numbered) _ c3.1 in
            let c5 = and_true (nat_le x.ids 0) _ c4.1 in
            let c6 = and_true (nat_le x.labels 0) _ c5.1 in
            let z = no_nodes x.nodes x.numbered c3.0 c4.0 a.nodes p.nodes in
            let y = listed_items (first_or_none a.ids) (first_or_none a.labels) (declares_by t) c1.0 p.leaves c2.0 in
            let u = bound_some x.each (length a.ids) x.ids (entries a) n in
            let v = bound_some x.each (length a.labels) x.labels (entries a) p.labels in
            (omega (arith, u, y, z, leb-true x.ids 0 c5.0), omega (arith, v, y, z, leb-true x.labels 0 c6.0), none_exported a.exports (declares_row t its_leaves) (p.exports (not_true x.exports c6.1)))
        | inr e ↦
            let c = and_true (not x.each) _ e in
            let b = not_true x.each c.0 in
            counted x a.ids a.labels a.exports (declares_row t its_leaves) (one_item (declares_by t) x.leaves) (bound_none x.each (length a.ids) x.ids (entries a) b n) (bound_none x.each (length a.labels) x.labels (entries a) b p.labels) p.exports
            (λ e. one_declared (first_or_none a.ids) (first_or_none a.labels) (declares_by t) p.leaves e) c.1
      ]

  good_definition : (t : Row) → (may_define k t && (fits_row t x.leaves && (alias_fits k t x.leaves && (names_counted t x && exports_fit k t x)))) ≡ true → GoodDefs k (one_def (m.define its (m.row t its_leaves)) no_def)
  good_definition t h =
      let a1 = and_true (may_define k t) _ h in
      let a2 = and_true (fits_row t x.leaves) _ a1.1 in
      let a3 = and_true (alias_fits k t x.leaves) _ a2.1 in
      let a4 = and_true (names_counted t x) _ a3.1 in
      let g = owned_row a.ids a.labels a.exports (first_place a.places) p.texts t p.leaves a2.0 in
      let o = together_by (first_or_none a.ids) (first_or_none a.labels) k t (same_row t rows.AliasOuter) refl p.leaves a3.0 in
      let c = names_hold t a4.0 in
      record {
        shaped = (make_true (may_define k t) _ a1.0 o, (g.0).shaped, tt);
        written = (c.2, (g.0).written, tt);
        short = ((g.0).short, tt);
        named = ((c.0, c.1), exports_hold t a4.1, g.1, (g.0).named, tt);
        utf8 = (p.names, (g.0).utf8, tt);
        of_text = (p.texts, (g.0).of_text, tt);
      }

  good_start : fits_start k x ≡ true → GoodDefs k (one_def (m.define its (m.row rows.Start its_leaves)) no_def)
  good_start h =
      let a1 = and_true (is_component k) _ h in
      let a2 = and_true (start_leaves x.leaves) _ a1.1 in
      let a3 = and_true x.results _ a2.1 in
      let a4 = and_true (not x.each) _ a3.1 in
      let a5 = and_true (nat_le x.labels 0) _ a4.1 in
      let l = bound_none x.each (length a.labels) x.labels (entries a) (not_true x.each a4.0) p.labels in
      start_definition k a.ids a.labels a.exports (first_place a.places) a1.0 p.texts p.names (omega (arith, l, leb-true x.labels 0 a5.0)) (p.exports (not_true x.exports a5.1)) p.leaves a2.0 (p.results a3.0)

  by_start : (t : Row) (b : Bool) → same_row t rows.Start ≡ b → cond b (fits_start k x) (may_define k t && (fits_row t x.leaves && (alias_fits k t x.leaves && (names_counted t x && exports_fit k t x)))) ≡ true
      → GoodDefs k (one_def (m.define its (m.row t its_leaves)) no_def)
  by_start t true e h = subst (λ u. GoodDefs k (one_def (m.define its (m.row u its_leaves)) no_def)) (sym (same_row-true t rows.Start e)) (good_start h)
  by_start t false e h = good_definition t h

  definition_by : (ts : List Row) → a.rows ≡ ts → fits_definition k x ts ≡ true → GoodDefs k (one_def (def_made a) no_def)
  definition_by [] e h = absurd (cc)
  definition_by (t ∷ []) e h = subst (λ rs. GoodDefs k (one_def (m.define its (m.row (first_row rs) its_leaves)) no_def)) (sym e) (by_start t (same_row t rows.Start) refl h)
  definition_by (t ∷ u ∷ ts) e h = absurd (cc)

  pub good_def : fits_definition k x x.rows ≡ true → GoodDefs k (one_def (def_made a) no_def)
  good_def h = definition_by x.rows p.rows h

-- ---- one behind the other

pub defs-append : (k : ScopeKind) (ds es : List Def) → GoodDefs k (defs_from ds) → GoodDefs k (defs_from es) → GoodDefs k (defs_from (ds ++ es))
defs-append k [] es g h = h
defs-append k (m.define ns (m.row t ls) ∷ ds) es g h =
    let q = defs-append k ds es (record { shaped = g.shaped.2; written = g.written.2; short = g.short.1; named = g.named.4; utf8 = g.utf8.2; of_text = g.of_text.2 }) h in
    record {
      shaped = (g.shaped.0, g.shaped.1, q.shaped);
      written = (g.written.0, g.written.1, q.written);
      short = (g.short.0, q.short);
      named = (g.named.0, g.named.1, g.named.2, g.named.3, q.named);
      utf8 = (g.utf8.0, g.utf8.1, q.utf8);
      of_text = (g.of_text.0, g.of_text.1, q.of_text);
    }

is_row-append : (t : Row) (ts us : List Row) → is_row t ts ≡ true → is_row t (ts ++ us) ≡ true
is_row-append t [] us h = absurd (cc)
is_row-append t (u ∷ ts) us h = elim (or_true (same_row t u) _ h) [
  | inl e ↦ first_true (same_row t u) _ e
  | inr e ↦ second_true (same_row t u) _ (is_row-append t ts us e)
]

is_row-behind : (t : Row) (ts us : List Row) → is_row t us ≡ true → is_row t (ts ++ us) ≡ true
is_row-behind t [] us h = h
is_row-behind t (u ∷ ts) us h = second_true (same_row t u) _ (is_row-behind t ts us h)

node-front : (ts us vs ws : List Row) {n : Node} → HasNode ts us n → HasNode (ts ++ vs) (us ++ ws) n
node-front ts us vs ws (is.whole {t = t} e g) = is.whole (is_row-append t ts vs e) g
node-front ts us vs ws (is.with_number {t = t} e g) = is.with_number (is_row-append t us ws e) g

node-back : (ts us vs ws : List Row) {n : Node} → HasNode vs ws n → HasNode (ts ++ vs) (us ++ ws) n
node-back ts us vs ws (is.whole {t = t} e g) = is.whole (is_row-behind t ts vs e) g
node-back ts us vs ws (is.with_number {t = t} e g) = is.with_number (is_row-behind t us ws e) g

nodes-back : (ts us vs ws : List Row) (ms : List Node) → HasNodes vs ws ms → HasNodes (ts ++ vs) (us ++ ws) ms
nodes-back ts us vs ws [] h = tt
nodes-back ts us vs ws (m ∷ ms) h = (node-back ts us vs ws h.0, nodes-back ts us vs ws ms h.1)

pub nodes-append : (ts us vs ws : List Row) (ns ms : List Node) → HasNodes ts us ns → HasNodes vs ws ms → HasNodes (ts ++ vs) (us ++ ws) (ns ++ ms)
nodes-append ts us vs ws [] ms g h = nodes-back ts us vs ws ms h
nodes-append ts us vs ws (n ∷ ns) ms g h = (node-front ts us vs ws g.0, nodes-append ts us vs ws ns ms g.1 h)

pub nodes-both : (ts us : List Row) (ns ms : List Node) → HasNodes ts us ns → HasNodes ts us ms → HasNodes ts us (ns ++ ms)
nodes-both ts us [] ms g h = h
nodes-both ts us (n ∷ ns) ms g h = (g.0, nodes-both ts us ns ms g.1 h)

node-among : (ts us vs ws : List Row) → are_rows ts vs ≡ true → are_rows us ws ≡ true → {n : Node} → HasNode ts us n → HasNode vs ws n
node-among ts us vs ws a b (is.whole {t = t} e g) = is.whole (row_among t ts vs a e) g
node-among ts us vs ws a b (is.with_number {t = t} e g) = is.with_number (row_among t us ws b e) g

pub nodes-among : (ts us vs ws : List Row) → are_rows ts vs ≡ true → are_rows us ws ≡ true → (ns : List Node) → HasNodes ts us ns → HasNodes vs ws ns
nodes-among ts us vs ws a b [] h = tt
nodes-among ts us vs ws a b (n ∷ ns) h = (node-among ts us vs ws a b h.0, nodes-among ts us vs ws a b ns h.1)

pub add_node : {ts : List Row} {t : Row} {ls : Leaves} {ns : Nodes} → is_row t ts ≡ true → GoodLeaves (leaves_of t) ls → GoodNodes ts ns → GoodNodes ts (one_node (m.row t ls) ns)
add_node e g h = record { shaped = (e, g.shaped, h.shaped); written = (g.written, h.written); short = (g.short, h.short); named = (g.named, h.named); utf8 = (g.utf8, h.utf8); of_text = (g.of_text, h.of_text) }

pub good_nodes : (ts us : List Row) → no_rows us ≡ true → (ns : List Node) → HasNodes ts us ns → GoodNodes ts (nodes_from ns)
good_nodes ts us e [] h = record { shaped = tt; written = tt; short = tt; named = tt; utf8 = tt; of_text = tt }
good_nodes ts us e (n ∷ ns) h = add ts us e n (nodes_from ns) h.0 (good_nodes ts us e ns h.1)
  where
    add : (ts us : List Row) → no_rows us ≡ true → (n : Node) (ns : Nodes) → HasNode ts us n → GoodNodes ts ns → GoodNodes ts (one_node n ns)
    add ts us e n ns (is.whole i g) h = add_node i g h
    add ts [] e n ns (is.with_number i g) h = absurd (cc)
    add ts (u ∷ us) e n ns (is.with_number i g) h = absurd (cc)

-- those with a number, without it
numbered_has : (ts us : List Row) → no_rows ts ≡ true → (k : ℕ) (ns : List Node) → HasNodes ts us ns → GoodNodes us (nodes_from (numbered_nodes k ns))
numbered_has ts us e k [] h = record { shaped = tt; written = tt; short = tt; named = tt; utf8 = tt; of_text = tt }
numbered_has ts us e k (n ∷ ns) h = add ts us e n (numbered_nodes k ns) h.0 (numbered_has ts us e k ns h.1)
  where
    chosen_by : (b : Bool) (us : List Row) (t : Row) (ls : Leaves) (ns : List Node) → is_row t us ≡ true → GoodLeaves (leaves_of t) ls → GoodNodes us (nodes_from ns) → GoodNodes us (nodes_from (cond b (m.row t ls ∷ ns) ns))
    chosen_by true us t ls ns i g h = add_node i g h
    chosen_by false us t ls ns i g h = h

    add : (ts us : List Row) → no_rows ts ≡ true → (n : Node) (ns : List Node) → HasNode ts us n → GoodNodes us (nodes_from ns) → GoodNodes us (nodes_from (add_numbered k n ns))
    add [] us e n ns (is.whole i g) h = absurd (cc)
    add (t ∷ ts) us e n ns (is.whole i g) h = absurd (cc)
    add ts us e n ns (is.with_number {t = t} {n = j} {ls = ls} i g) h = chosen_by (nat_eq j k) us t ls ns i g h

pub lists_has : (ts us : List Row) → no_rows ts ≡ true → (k n : ℕ) (ns : List Node) → HasNodes ts us ns → HasLeaves (lists_of n us) (numbered_lists k n ns)
lists_has ts us e k zero ns h = is.no_leaves
lists_has ts us e k (suc n) ns h = is.one_leaf (is.list_leaf (numbered_has ts us e k ns h)) (lists_has ts us e (k + 1) n ns h)
