-- What a part leaves, in the place of which one thing is put, has the sort that the tests say.
use Rattle.std.specs.Str.{is_utf8}
use Rattle.std.proofs.Common.{◌≡◌, ◌≤◌, ◌+◌, ℕ, Bool, true, false, ◌&&◌, ◌||◌, cond, not, List, [], ◌∷◌, ◌++◌, length, refl, sym, ap, subst, arith, append-nil, length-append}
use Rattle.comp_model.specs.declared.Space.{Space}
use Rattle.comp_model.specs.Core as core
use Rattle.comp_model.specs.Core.{Text}
use Rattle.comp_model.specs.Model as m
use Rattle.comp_model.specs.Model.{Leaf, Leaves, Node, Path}
use Rattle.comp_model.specs.declared.row.ScopeKind.{ScopeKind}
use Rattle.comp_model.specs.declared.row.Row.{Row}
use Rattle.comp_model.specs.RowNumbers.{same_row}
use Rattle.comp_model.specs.Rows.{leaves_of, path_into, is_core_path, has_steps, has_one_step}
use Rattle.comp_model.proofs.Tests.{same_row-refl}
use Rattle.comp_weight.specs.Numerals.{NumeralPath}
use Rattle.comp_model.specs.Utf8Names.{Utf8Path}
use Rattle.comp_expanded.specs.OfText.{TextPath}
use Rattle.text_rules.specs.Made.{Made, empty, leaves_from, nodes_from, node_made, def_made, first_row, first_leaf, first_place, path_of, heap_of, turned, in_front, steps}
use Rattle.text_rules.specs.Makes.{wrapped, alias_leaves, swap}
use Rattle.text_rules.specs.Rule as r
use Rattle.text_rules.specs.Sorts.{Sort, a_text, a_payload, a_kind, a_ref, an_item, an_inline, a_bundle, a_part, a_node, a_list, a_scope, a_core_heap, the_results, Segment, one, texts, outer, Parts}
use Rattle.text_rules.specs.HasSorts as is
use Rattle.text_rules.specs.HasSorts.{HasLeaf, HasLeaves, HasNode, HasNodes, HasParts, Has, entries}
use Rattle.text_rules.specs.Tests as t
use Rattle.text_rules.specs.LeafTests.{fits_row}
use Rattle.text_rules.specs.DefinitionTests.{no_rows, fits_definition}
use Rattle.text_rules.specs.Tests.{bare, by_node, by_part, by_swap, by_outer, by_path, by_heap, by_alone, by_wraps, by_entry, entry_sort, alone_sort, fits_numbered, lists_of, no_results, counts_entries, keeps_count, unmarked, unless_marked, are_single}
use Rattle.text_rules.proofs.Booleans.{not_true, first_true, no_both}
use Rattle.text_rules.proofs.Rows.{good_node, good_shapes, nameless}
use Rattle.text_rules.proofs.Defs.{defs-append, nodes-append, good_nodes, lists_has, good_def}
use Rattle.text_rules.proofs.Parts.{bare_has, only_has, leaves-append, listed-append, quiet_leaves, results-append}
use Rattle.wast_grammar.proofs.Moves.{and_true}

-- other leaves in their place
abbrev Changed : Parts → (Parts → Bool) → List Leaf → Type 0
Changed x p ls = (z : List Segment) × (p (record x { leaves = z }) ≡ true) × HasLeaves z ls

abbrev with_leaves : Made → List Leaf → Made
with_leaves a ls = record a { leaves = ls }

rebound : (b : Bool) (m i e n : ℕ) → b ≡ false → m ≤ i + cond b e 0 → m ≤ i + cond b n 0
rebound true m i e n h g = absurd (cc)
rebound false m i e n h g = g

same_ids : (x : Parts) (a : Made) → HasParts x a → x.each ≡ false → (n : ℕ) → x.free ≡ false → length a.ids ≤ x.ids + cond x.each n 0
same_ids x a q e n f = rebound x.each (length a.ids) x.ids (entries a) n e (q.ids f)

same_labels : (x : Parts) (a : Made) → HasParts x a → x.each ≡ false → (n : ℕ) → length a.labels ≤ x.labels + cond x.each n 0
same_labels x a q e n = rebound x.each (length a.labels) x.labels (entries a) n e q.labels

changed : (x : Parts) (a : Made) (p : Parts → Bool) (ls : List Leaf) → x.each ≡ false → x.results ≡ false → HasParts x a → Changed x p ls → Has p (with_leaves a ls)
changed x a p ls e z h c = (
  record x { leaves = c.0 },
  c.1,
  record {
    rows = h.rows;
    leaves = c.2;
    nodes = h.nodes;
    least = h.least;
    ids = same_ids x a h e (entries (with_leaves a ls));
    texts = h.texts;
    labels = same_labels x a h e (entries (with_leaves a ls));
    results = λ y. no_both x.results y z;
    none = h.none;
    exports = h.exports;
    names = h.names;
    defs = h.defs;
  },
)

part_by : (x : Parts) (p : Parts → Bool) {xs : List Segment} {ls : List Leaf} → HasLeaves xs ls → by_part x p xs ≡ true → Changed x p (m.present (first_leaf ls) ∷ [])
part_by x p (is.one_leaf {x = y} i is.no_leaves) h = (one (a_part y) ∷ [], h, is.one_leaf (is.present_leaf i) is.no_leaves)
part_by x p _ h = absurd (cc)

swap_by : (x : Parts) (p : Parts → Bool) {xs : List Segment} {ls : List Leaf} → HasLeaves xs ls → by_swap x p xs ≡ true → Changed x p (swap ls)
swap_by x p (is.one_leaf {x = a} i (is.one_leaf {x = b} j (is.one_leaf {x = c} k is.no_leaves))) h = (one a ∷ one c ∷ one b ∷ [], h, is.one_leaf i (is.one_leaf k (is.one_leaf j is.no_leaves)))
swap_by x p _ h = absurd (cc)

outer_by : (o : ℕ) (x : Parts) (p : Parts → Bool) {xs : List Segment} {ls : List Leaf} → HasLeaves xs ls → by_outer x p xs ≡ true → Changed x p (alias_leaves o ls)
outer_by o x p (is.one_leaf (is.name_leaf i) (is.one_leaf (is.name_leaf j) (is.one_leaf (is.kind_leaf {k = k}) is.no_leaves))) h = (outer k ∷ [], h, is.outer_name tt i j is.no_leaves)
outer_by o x p (is.one_leaf (is.name_leaf i) (is.one_leaf (is.numeral_leaf j) (is.one_leaf (is.kind_leaf {k = k}) is.no_leaves))) h = (outer k ∷ [], h, is.outer_numeral tt i j is.no_leaves)
outer_by o x p (is.one_leaf (is.numeral_leaf i) (is.one_leaf (is.name_leaf j) (is.one_leaf (is.kind_leaf {k = k}) is.no_leaves))) h = (outer k ∷ [], h, is.outer_name i tt j is.no_leaves)
outer_by o x p (is.one_leaf (is.numeral_leaf i) (is.one_leaf (is.numeral_leaf j) (is.one_leaf (is.kind_leaf {k = k}) is.no_leaves))) h = (outer k ∷ [], h, is.outer_numeral i tt j is.no_leaves)
outer_by o x p (is.one_leaf (is.name_leaf {u = u} {r = q} i) (is.one_leaf (is.text_leaf y) (is.one_leaf (is.kind_leaf {k = k}) is.no_leaves))) h =
    (one (a_ref u q) ∷ one a_text ∷ one (a_kind k) ∷ [], h, is.one_leaf (is.name_leaf i) (is.one_leaf (is.text_leaf y) (is.one_leaf is.kind_leaf is.no_leaves)))
outer_by o x p (is.one_leaf (is.numeral_leaf {u = u} {r = q} i) (is.one_leaf (is.text_leaf y) (is.one_leaf (is.kind_leaf {k = k}) is.no_leaves))) h =
    (one (a_ref u q) ∷ one a_text ∷ one (a_kind k) ∷ [], h, is.one_leaf (is.numeral_leaf i) (is.one_leaf (is.text_leaf y) (is.one_leaf is.kind_leaf is.no_leaves)))
outer_by o x p _ h = absurd (cc)

heap_by : (b : Bool) (x : Parts) (p : Parts → Bool) {xs : List Segment} {ls : List Leaf} → HasLeaves xs ls → by_heap x p xs ≡ true → Changed x p (heap_of b ls)
heap_by b x p (is.one_leaf (is.name_leaf {r = q} i) is.no_leaves) h = (one (a_core_heap q) ∷ [], h, is.one_leaf (is.heap_name i) is.no_leaves)
heap_by b x p (is.one_leaf (is.numeral_leaf {r = q} i) is.no_leaves) h = (one (a_core_heap q) ∷ [], h, is.one_leaf (is.heap_numeral i) is.no_leaves)
heap_by b x p _ h = absurd (cc)

-- ---- paths

one_step : (b : Bool) → cond b true true ≡ true
one_step true = refl
one_step false = refl

abbrev IsPath : Path → Type 0
IsPath p = (has_steps p ≡ true) × NumeralPath p × TextPath p × Utf8Path p

abbrev are_texts : List Segment → Bool
are_texts (texts ∷ []) = true
are_texts _ = false

many_steps : {xs : List Segment} {ls : List Leaf} → HasLeaves xs ls → are_texts xs ≡ true → (p : Path) → IsPath p → IsPath (steps p ls)
many_steps (is.no_texts is.no_leaves) h p g = g
many_steps (is.more_texts {t = t} y j) h p g = many_steps j h (m.export_of p t) (refl, g.1, g.2, (y, g.3))
many_steps _ h p g = absurd (cc)

fits_many : (u : Space) (p : Path) → is_core_path u ≡ false → has_steps p ≡ true → path_into u p ≡ true
fits_many u p e h = subst (λ b. cond b (has_one_step p) (has_steps p) ≡ true) (sym e) h

-- behind a root
path_leaf : (u : Space) (p : Path) → NumeralPath p → TextPath p → Utf8Path p → is_core_path u ≡ false → {xs : List Segment} {ls : List Leaf} → HasLeaves xs ls → are_texts xs ≡ true → (s : Text) → is_utf8 s ≡ true → HasLeaf (an_item u) (m.ref u (m.path (steps (m.export_of p s) ls)))
path_leaf u p i j k e {ls = ls} l h s y = let g = many_steps l h (m.export_of p s) (refl, i, j, (y, k)) in is.item_path (fits_many u (steps (m.export_of p s) ls) e g.0) g.1 g.2 g.3

path_by : (x : Parts) (p : Parts → Bool) {xs : List Segment} {ls : List Leaf} → HasLeaves xs ls → by_path x p xs ≡ true → Changed x p (path_of ls)
path_by x p (is.one_leaf (is.name_leaf {u = u} {r = core.outward} i) is.no_leaves) h = (one (an_item u) ∷ [], h, is.one_leaf (is.item_name i) is.no_leaves)
path_by x p (is.one_leaf (is.numeral_leaf {u = u} {r = core.outward} i) is.no_leaves) h = (one (an_item u) ∷ [], h, is.one_leaf (is.item_numeral i) is.no_leaves)
path_by x p (is.one_leaf (is.name_leaf {u = u} {r = core.outward} i) (is.one_leaf (is.text_leaf y) is.no_leaves)) h = (one (an_item u) ∷ [], h, is.one_leaf (is.item_path (one_step (is_core_path u)) tt i (y, tt)) is.no_leaves)
path_by x p (is.one_leaf (is.numeral_leaf {u = u} {r = core.outward} i) (is.one_leaf (is.text_leaf y) is.no_leaves)) h = (one (an_item u) ∷ [], h, is.one_leaf (is.item_path (one_step (is_core_path u)) i tt (y, tt)) is.no_leaves)
path_by x p (is.one_leaf (is.name_leaf {u = u} {r = core.outward} i) (is.no_texts is.no_leaves)) h = (one (an_item u) ∷ [], (and_true (not (is_core_path u)) _ h).1, is.one_leaf (is.item_name i) is.no_leaves)
path_by x p (is.one_leaf (is.numeral_leaf {u = u} {r = core.outward} i) (is.no_texts is.no_leaves)) h = (one (an_item u) ∷ [], (and_true (not (is_core_path u)) _ h).1, is.one_leaf (is.item_numeral i) is.no_leaves)
path_by x p (is.one_leaf (is.name_leaf {u = u} {r = core.outward} {x = y} i) (is.more_texts {ss = []} {t = s} k j)) h =
    let a = and_true (not (is_core_path u)) _ h in
    (one (an_item u) ∷ [], a.1, is.one_leaf (path_leaf u (m.root_name y) tt i tt (not_true (is_core_path u) a.0) j refl s k) is.no_leaves)
path_by x p (is.one_leaf (is.numeral_leaf {u = u} {r = core.outward} {o = o} {n = n} i) (is.more_texts {ss = []} {t = s} k j)) h =
    let a = and_true (not (is_core_path u)) _ h in
    (one (an_item u) ∷ [], a.1, is.one_leaf (path_leaf u (m.root_number o n) i tt tt (not_true (is_core_path u) a.0) j refl s k) is.no_leaves)
path_by x p _ h = absurd (cc)

-- ---- the last in front

in_front_has : {z : Sort} {l : Leaf} {xs ys : List Segment} {ls ms : List Leaf} → HasLeaf z l → HasLeaves xs ls → HasLeaves ys ms → are_single xs ≡ true → HasLeaves (t.segment_in_front (one z) xs ys) (in_front l ls ms)
in_front_has i is.no_leaves k h = is.one_leaf i k
in_front_has i (is.one_leaf j g) k h = in_front_has j g (leaves-append k (is.one_leaf i is.no_leaves)) h
in_front_has i _ k h = absurd (cc)

turned_has : {xs : List Segment} {ls : List Leaf} → HasLeaves xs ls → are_single xs ≡ true → HasLeaves (t.segments_turned xs) (turned ls)
turned_has is.no_leaves h = is.no_leaves
turned_has (is.one_leaf i g) h = in_front_has i g is.no_leaves h
turned_has _ h = absurd (cc)

-- ---- nodes

node_by : (x : Parts) (a : Made) (f : Row → Parts) (p : Parts → Bool) (b : Made) → ((u : Row) → first_row a.rows ≡ u → fits_row u x.leaves ≡ true → HasParts (f u) b)
    → (us : List Row) → a.rows ≡ us → by_node x f p us ≡ true → Has p b
node_by x a f p b g [] e h = absurd (cc)
node_by x a f p b g (u ∷ []) e h = let c = and_true (fits_row u x.leaves) _ h in (f u, c.1, g u (ap first_row e) c.0)
node_by x a f p b g (u ∷ v ∷ us) e h = absurd (cc)

counted-nodes : (ns : List Node) → m.count_nodes (nodes_from ns) ≡ length ns
counted-nodes [] = refl
counted-nodes (n ∷ ns) = omega (arith, counted-nodes ns)

module _ (x : Parts) (a : Made) (q : HasParts x a) where
  abbrev its : Leaves
  its = leaves_from a.leaves

  inlined : (s : Space) (u : Row) → first_row a.rows ≡ u → fits_row u x.leaves ≡ true → HasLeaf (an_inline s u) (m.ref s (m.inline (node_made a)))
  inlined s u e h = subst (λ v. HasLeaf (an_inline s u) (m.ref s (m.inline (m.row v its)))) (sym e) (is.inline_leaf (good_node u q.leaves h) (nameless q.leaves))

  bundled : (s : Space) (u : Row) → first_row a.rows ≡ u → fits_row u x.leaves ≡ true → HasLeaf (a_bundle s u) (m.ref s (m.bundle (node_made a)))
  bundled s u e h = subst (λ v. HasLeaf (a_bundle s u) (m.ref s (m.bundle (m.row v its)))) (sym e) (is.bundle_leaf (good_node u q.leaves h))

  noded : (u : Row) → first_row a.rows ≡ u → fits_row u x.leaves ≡ true → HasLeaf (a_node u) (m.node (node_made a))
  noded u e h = subst (λ v. HasLeaf (a_node u) (m.node (m.row v its))) (sym e) (is.node_leaf (good_node u q.leaves h))

  entered : (u : Row) → first_row a.rows ≡ u → fits_row u x.leaves ≡ true → HasNode (u ∷ []) [] (node_made a)
  entered u e h = subst (λ v. HasNode (u ∷ []) [] (m.row v its)) (sym e) (is.whole (first_true (same_row u u) _ (same_row-refl u)) (good_node u q.leaves h))

  with_its_number : (u : Row) {xs : List Segment} {ls : List Leaf} → HasLeaves xs ls → fits_numbered u xs ≡ true → HasNode [] (u ∷ []) (m.row u (leaves_from ls))
  with_its_number u (is.one_leaf (is.number_leaf f) j) h = is.with_number (first_true (same_row u u) _ (same_row-refl u)) (good_shapes j (leaves_of u) h)
  with_its_number u _ h = absurd (cc)

  numbered_entry : (u : Row) → first_row a.rows ≡ u → fits_numbered u x.leaves ≡ true → HasNode [] (u ∷ []) (node_made a)
  numbered_entry u e h = subst (λ v. HasNode [] (u ∷ []) (m.row v its)) (sym e) (with_its_number u q.leaves h)

  defined : HasParts (record bare { nodes = x.nodes; numbered = x.numbered; least = x.least; some = true; defs = λ k. x.defs k && fits_definition k x x.rows }) (wrapped r.a_def a)
  defined = record {
    rows = refl;
    leaves = is.no_leaves;
    nodes = q.nodes;
    least = q.least;
    ids = bare_has.ids;
    texts = tt;
    labels = bare_has.labels;
    results = bare_has.results;
    exports = λ e. refl;
    names = tt;
    none = λ e. absurd (cc);
    defs = λ k h. let c = and_true (x.defs k) _ h in defs-append k a.defs (def_made a ∷ []) (q.defs k c.0) (good_def k x a q c.1);
  }

  -- a list has the entries
  module _ (z : x.results ≡ false) where
    list_ids : (l m i : ℕ) → l ≡ m → length a.ids ≤ i + cond x.each m 0 → length a.ids ≤ i + cond x.each l 0
    list_ids l m i e h = subst (λ n. length a.ids ≤ i + cond x.each n 0) (sym e) h

    list_labels : (l m i : ℕ) → l ≡ m → length a.labels ≤ i + cond x.each m 0 → length a.labels ≤ i + cond x.each l 0
    list_labels l m i e h = subst (λ n. length a.labels ≤ i + cond x.each n 0) (sym e) h

    in_list : entries (wrapped r.a_list a) ≡ entries a
    in_list = omega (arith, listed-append a.leaves (m.nodes (nodes_from a.nodes) ∷ []), counted-nodes a.nodes)

    list_has : no_rows x.numbered ≡ true → HasParts (record x { nodes = []; numbered = []; least = 0; leaves = x.leaves ++ (one (a_list x.nodes) ∷ []) }) (wrapped r.a_list a)
    list_has e = record {
      rows = q.rows;
      leaves = leaves-append q.leaves (is.one_leaf (is.list_leaf (good_nodes x.nodes x.numbered e a.nodes q.nodes)) is.no_leaves);
      nodes = tt;
      least = omega arith;
      ids = λ f. list_ids (entries (wrapped r.a_list a)) (entries a) x.ids in_list (q.ids f);
      texts = q.texts;
      labels = list_labels (entries (wrapped r.a_list a)) (entries a) x.labels in_list q.labels;
      results = λ y. no_both x.results y z;
      none = q.none;
      exports = q.exports;
      names = q.names;
      defs = q.defs;
    }

    module _ (e : x.each ≡ false) where
      in_place : (y : Sort) (l : Leaf) → HasLeaf y l → HasParts (record x { rows = []; leaves = one y ∷ [] }) (record a { rows = []; leaves = l ∷ [] })
      in_place y l i = record {
        rows = refl;
        leaves = is.one_leaf i is.no_leaves;
        nodes = q.nodes;
        least = q.least;
        ids = same_ids x a q e (entries (record a { rows = []; leaves = l ∷ [] }));
        texts = q.texts;
        labels = same_labels x a q e (entries (record a { rows = []; leaves = l ∷ [] }));
        results = λ y. no_both x.results y z;
        none = q.none;
        exports = q.exports;
        names = q.names;
        defs = q.defs;
      }

      alone_by : (v : Row) (p : Parts → Bool) (us : List Row) → a.rows ≡ us → by_alone v x p us ≡ true → Has p (cond (same_row (first_row a.rows) v) (record empty { rows = a.rows }) a)
      alone_by v p [] f h = absurd (cc)
      alone_by v p (u ∷ w ∷ us) f h = absurd (cc)
      alone_by v p (u ∷ []) f h = subst (λ s. Has p (cond (same_row (first_row s) v) (record empty { rows = s }) a)) (sym f) (go (same_row u v) h)
        where
          go : (b : Bool) → p (alone_sort b u x) ≡ true → Has p (cond b (record empty { rows = u ∷ [] }) a)
          go true i = (
            record bare { rows = u ∷ [] },
            i,
            only_has is.no_leaves,
          )
          go false i = (x, i, q)

      entered_in : (ts us : List Row) → HasNodes ts us (a.nodes ++ (node_made a ∷ [])) → HasParts (record x { rows = []; leaves = []; nodes = ts; numbered = us; least = x.least + 1 }) (wrapped r.an_entry a)
      entered_in ts us n = record {
        rows = refl;
        leaves = is.no_leaves;
        nodes = n;
        least = omega (arith, length-append a.nodes (node_made a ∷ []), q.least);
        ids = same_ids x a q e (entries (wrapped r.an_entry a));
        texts = q.texts;
        labels = same_labels x a q e (entries (wrapped r.an_entry a));
        results = λ y. no_both x.results y z;
        none = q.none;
        exports = q.exports;
        names = q.names;
        defs = q.defs;
      }

      entry_has : (b : Bool) (u : Row) → first_row a.rows ≡ u → fits_row u x.leaves ≡ b → (b || fits_numbered u x.leaves) ≡ true → HasParts (entry_sort b u x) (wrapped r.an_entry a)
      entry_has true u f g h =
          entered_in (x.nodes ++ (u ∷ [])) x.numbered
          (subst (λ us. HasNodes (x.nodes ++ (u ∷ [])) us (a.nodes ++ (node_made a ∷ []))) (append-nil x.numbered) (nodes-append x.nodes x.numbered (u ∷ []) [] a.nodes (node_made a ∷ []) q.nodes (entered u f g, tt)))
      entry_has false u f g h =
          entered_in x.nodes (x.numbered ++ (u ∷ []))
          (subst (λ us. HasNodes us (x.numbered ++ (u ∷ [])) (a.nodes ++ (node_made a ∷ []))) (append-nil x.nodes) (nodes-append x.nodes x.numbered [] (u ∷ []) a.nodes (node_made a ∷ []) q.nodes (numbered_entry u f h, tt)))

      entry_by : (p : Parts → Bool) (us : List Row) → a.rows ≡ us → by_entry x p us ≡ true → Has p (wrapped r.an_entry a)
      entry_by p [] f h = absurd (cc)
      entry_by p (u ∷ []) f h =
          let c = and_true (fits_row u x.leaves || fits_numbered u x.leaves) _ h in
          (entry_sort (fits_row u x.leaves) u x, c.1, entry_has (fits_row u x.leaves) u (ap first_row f) refl c.0)
      entry_by p (u ∷ v ∷ us) f h = absurd (cc)

      scoped : (k : ScopeKind) → x.defs k ≡ true → HasParts (record x { some = false; defs = λ j. true; leaves = x.leaves ++ (one (a_scope k) ∷ []) }) (wrapped (r.a_scope k) a)
      scoped k c = record {
        rows = q.rows;
        leaves = leaves-append q.leaves (is.one_leaf (is.scope_leaf (q.defs k c)) is.no_leaves);
        nodes = q.nodes;
        least = q.least;
        ids = same_ids x a q e (entries (wrapped (r.a_scope k) a));
        texts = q.texts;
        labels = same_labels x a q e (entries (wrapped (r.a_scope k) a));
        results = λ y. no_both x.results y z;
        none = λ e. refl;
        exports = q.exports;
        names = q.names;
        defs = bare_has.defs;
      }

      resulted : HasParts (record x { leaves = x.leaves ++ (one the_results ∷ []); results = no_results x.leaves }) (wrapped r.results a)
      resulted = record {
        rows = q.rows;
        leaves = leaves-append q.leaves (is.one_leaf is.results_leaf is.no_leaves);
        nodes = q.nodes;
        least = q.least;
        ids = same_ids x a q e (entries (wrapped r.results a));
        texts = q.texts;
        labels = same_labels x a q e (entries (wrapped r.results a));
        results = λ h. results-append a.ids a.leaves (m.result_ids a.ids ∷ []) (quiet_leaves a.ids q.leaves h) (refl, tt);
        none = q.none;
        exports = q.exports;
        names = q.names;
        defs = q.defs;
      }

      in_lists : (n : ℕ) → no_rows x.nodes ≡ true → HasParts (record x { nodes = []; numbered = []; least = 0; leaves = x.leaves ++ lists_of n x.numbered }) (wrapped (r.by_number n) a)
      in_lists n c = record {
        rows = q.rows;
        leaves = leaves-append q.leaves (lists_has x.nodes x.numbered c 0 n a.nodes q.nodes);
        nodes = tt;
        least = omega arith;
        ids = same_ids x a q e (entries (wrapped (r.by_number n) a));
        texts = q.texts;
        labels = same_labels x a q e (entries (wrapped (r.by_number n) a));
        results = λ y. no_both x.results y z;
        none = q.none;
        exports = q.exports;
        names = q.names;
        defs = q.defs;
      }

    -- all but definitions
    pub wraps_has : (w : r.Wraps) (p : Parts → Bool) → (counts_entries w || not x.each) ≡ true → by_wraps w x p ≡ true → Has p (wrapped w a)
    wraps_has (r.inline s) p e h = let n = not_true x.each e in node_by x a (λ u. record x { rows = []; leaves = one (an_inline s u) ∷ [] }) p (wrapped (r.inline s) a) (λ u f i. in_place n (an_inline s u) _ (inlined s u f i)) x.rows q.rows h
    wraps_has (r.bundle s) p e h = let n = not_true x.each e in node_by x a (λ u. record x { rows = []; leaves = one (a_bundle s u) ∷ [] }) p (wrapped (r.bundle s) a) (λ u f i. in_place n (a_bundle s u) _ (bundled s u f i)) x.rows q.rows h
    wraps_has r.a_node p e h = let n = not_true x.each e in node_by x a (λ u. record x { rows = []; leaves = one (a_node u) ∷ [] }) p (wrapped r.a_node a) (λ u f i. in_place n (a_node u) _ (noded u f i)) x.rows q.rows h
    wraps_has r.an_entry p e h = entry_by (not_true x.each e) p x.rows q.rows h
    wraps_has r.a_list p e h = let c = and_true (no_rows x.numbered) _ h in (record x { nodes = []; numbered = []; least = 0; leaves = x.leaves ++ (one (a_list x.nodes) ∷ []) }, c.1, list_has c.0)
    wraps_has r.a_part p e h = changed x a p _ (not_true x.each e) z q (part_by x p q.leaves h)
    wraps_has r.a_def p e h = (record bare { nodes = x.nodes; numbered = x.numbered; least = x.least; some = true; defs = λ k. x.defs k && fits_definition k x x.rows }, h, defined)
    wraps_has (r.a_scope k) p e h = let c = and_true (x.defs k) _ h in (record x { some = false; defs = λ j. true; leaves = x.leaves ++ (one (a_scope k) ∷ []) }, c.1, scoped (not_true x.each e) k c.0)
    wraps_has r.swapped p e h = changed x a p _ (not_true x.each e) z q (swap_by x p q.leaves h)
    wraps_has r.outer p e h = changed x a p _ (not_true x.each e) z q (outer_by (first_place a.places) x p q.leaves h)
    wraps_has r.dropped p e h = (bare, h, bare_has)
    wraps_has r.path p e h = changed x a p _ (not_true x.each e) z q (path_by x p q.leaves h)
    wraps_has (r.heap b) p e h = changed x a p _ (not_true x.each e) z q (heap_by b x p q.leaves h)
    wraps_has r.results p e h = (record x { leaves = x.leaves ++ (one the_results ∷ []); results = no_results x.leaves }, h, resulted (not_true x.each e))
    wraps_has r.last_first p e h = let c = and_true (are_single x.leaves) _ h in changed x a p _ (not_true x.each e) z q (t.segments_turned x.leaves, c.1, turned_has q.leaves c.0)
    wraps_has r.joined p e h = changed x a p _ (not_true x.each e) z q (one a_payload ∷ [], h, is.one_leaf is.payload_leaf is.no_leaves)
    wraps_has (r.by_number n) p e h = let c = and_true (no_rows x.nodes) _ h in (record x { nodes = []; numbered = []; least = 0; leaves = x.leaves ++ lists_of n x.numbered }, c.1, in_lists (not_true x.each e) n c.0)
    wraps_has (r.alone v) p e h = alone_by (not_true x.each e) v p x.rows q.rows h

-- by the whole test
unmarked_has : (x : Parts) (a : Made) → HasParts x a → HasParts (unmarked x) a
unmarked_has x a q = record {
  rows = q.rows;
  leaves = q.leaves;
  nodes = q.nodes;
  least = q.least;
  ids = q.ids;
  texts = q.texts;
  labels = q.labels;
  results = λ e. absurd (cc);
  none = q.none;
  exports = q.exports;
  names = q.names;
  defs = q.defs;
}

pub passes_wraps : (w : r.Wraps) (x : Parts) (a : Made) → HasParts x a → (p : Parts → Bool) → (keeps_count w x && by_wraps w (unless_marked w x) p) ≡ true → Has p (wrapped w a)
passes_wraps r.a_def x a q p h = (record bare { nodes = x.nodes; numbered = x.numbered; least = x.least; some = true; defs = λ k. x.defs k && fits_definition k x x.rows }, h, defined x a q)
passes_wraps w x a q p h = let c = and_true (keeps_count w x) _ h in wraps_has (unmarked x) a (unmarked_has x a q) refl w p c.0 c.1
