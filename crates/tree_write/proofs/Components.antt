-- Definitions of a component, with the name sections that are planned for it and for the components in it.
use Rattle.std.proofs.Common.{◌≡◌, ◌≢◌, ℕ, zero, suc, ◌+◌, ◌-◌, ◌<◌, ◌≤◌, List, [], ◌∷◌, ◌++◌, length, map, take, drop, get_or, drop_of_length-le, le_refl, refl, sym, ◌∙◌, ap, subst, arith, Bool, true, false, cond, codes, append_assoc, append-nil, Option, Some, None, option_map, Bor}
use Rattle.comp_model.specs.CoreModules.{CoreModule}
use Rattle.comp_model.specs.Core as core
use Rattle.comp_model.specs.Model as m
use Rattle.comp_model.specs.Model.{Leaves, no_leaf, ◌▸◌, defs_of}
use Rattle.comp_model.specs.Payloads.{producers_payload}
use Rattle.comp_model.specs.declared.row.Row.TheVariants as rows
use Rattle.comp_model.specs.declared.row.Row.{Row}
use Rattle.comp_model.specs.RowNumbers.{same_row}
use Rattle.comp_model.proofs.Tests.{same_row-true}
use Rattle.comp_scopes.specs.Form.{coded_node, custom_node}
use Rattle.comp_scopes.specs.Resolved.{binary_of_leaf, binary_of_leaves}
use Rattle.comp_wire.specs.NameSection.{section_of_payload}
use Rattle.comp_wire.specs.declared.sections.SectionKind.TheVariants as section_kinds
use Rattle.comp_wire.specs.Sections as s
use Rattle.comp_wire.specs.Sections.{Item, rows_of, groups, sections, preamble}
use Rattle.comp_wire.specs.Spelled.{item_of_node, items_of, spell_node, spell_leaf, spell_component, FitsItem, FitsSections, FitsDefinitions, FitsNode, FitsLeaf}
use Rattle.comp_wire.specs.Table as t
use Rattle.comp_wire.proofs.Lists.{dropped}
use Rattle.comp_wire.proofs.Numbers.{cons_is}
use Rattle.std.proofs.lemmas.Grind.{take_at_read}
use Rattle.std.proofs.lemmas.List.{map-append}
use Rattle.comp_tree.specs.Model.{leaf_of, scope_of}
use Rattle.comp_tree.specs.Lists.{listed, node_of, defs_listed}
use Rattle.comp_tree.specs.declared.tree.Def.{Def}
use Rattle.comp_tree.specs.declared.tree.Leaf.{Leaf}
use Rattle.comp_tree.specs.declared.tree.Leaf as tree
use Rattle.comp_tree.specs.declared.tree.Scope.{Scope}
use Rattle.comp_tree.specs.declared.tree.Scope as sc
use Rattle.comp_tree.proofs.Leaves.{scope_fields}
use Rattle.byte_table.specs.Lines.{family_of}
use Rattle.byte_table.specs.SectionKinds.{coded_section, line_rows}
use Rattle.comp_wire.specs.declared.sections.SectionKind.{SectionKind}
use Rattle.byte_table.specs.declared.line.Family.{Family}
use Rattle.tree_write.specs.Along.{payload_by}
use Rattle.tree_write.specs.Kept.{Kept, put}
use Rattle.tree_write.specs.OpenSection.{BeginsAlone, IsOpen, Holds, Takes}
use Rattle.tree_write.specs.Plans.{payloads, payloads_of_defs, payloads_of_first, payloads_in, scope_leaf, first_scope, component_in}
use Rattle.tree_write.specs.Wire.{the_encoding, wire_leaf, wire_leaves, wire_node_of_def, wire_items, wire_scope, payload_of, ItemsFit}
use Rattle.tree_write.specs.declared.item_names.ComponentNames.{ComponentNames}
use Rattle.tree_write.specs.declared.sections.Open.{Open}
use Rattle.tree_write.proofs.Puts.{put_put}
use Rattle.tree_write.proofs.Closing.{added}
use Rattle.tree_write.proofs.CoreLeaves.{no_scope}
use Rattle.tree_write.proofs.Fitted.{items_fit}
use Rattle.tree_write.proofs.Scopes.{scope_defs, items_behind, spelled_whole}

-- ---- the section and the bytes of a definition

pub item_section : (u : Row) (ls bs : Leaves) → (item_of_node (coded_node the_encoding u ls bs)).section ≡ coded_section u
item_section u ls bs = go (same_row u rows.Producers)
  where
    go : (b : Bool) → (item_of_node (cond b (custom_node (codes "producers") (producers_payload ls)) (m.row u bs))).section ≡ cond b section_kinds.Custom (s.section_of u)
    go true = refl
    go false = refl

-- of producers
pub producers_item : (u : Row) (ls bs : Leaves) → same_row u rows.Producers ≡ true → (item_of_node (coded_node the_encoding u ls bs)).content ≡ (item_of_node (custom_node (codes "producers") (producers_payload ls))).content
producers_item u ls bs e = ap (λ b. (item_of_node (cond b (custom_node (codes "producers") (producers_payload ls)) (m.row u bs))).content) e

pub plain_item : (u : Row) (ls bs : Leaves) → same_row u rows.Producers ≡ false → coded_node the_encoding u ls bs ≡ m.row u bs
plain_item u ls bs e = ap (λ b. cond b (custom_node (codes "producers") (producers_payload ls)) (m.row u bs)) e

plain_section : (u : Row) → same_row u rows.Producers ≡ false → coded_section u ≡ s.section_of u
plain_section u e = ap (λ b. cond b section_kinds.Custom (s.section_of u)) e

-- of a row with a line
lined : (x : SectionKind) (f : t.Family) → line_rows x ≡ Some f → rows_of x ≡ f
lined section_kinds.Component f e = cc
lined _ f e = cc

pub rows_here : (u : Row) (k : SectionKind) (found : Option Family) (f : Family) → same_row u rows.Producers ≡ false → k ≡ coded_section u → option_map family_of found ≡ line_rows k → found ≡ Some f → rows_of (s.section_of u) ≡ family_of f
rows_here u k found f p e r g = lined (s.section_of u) (family_of f) (ap line_rows (sym (e ∙ plain_section u p)) ∙ sym r ∙ ap (option_map family_of) g)

pub lined_item : (u : Row) (ls bs : Leaves) (k : SectionKind) (found : Option Family) (f : Family) → same_row u rows.Producers ≡ false → k ≡ coded_section u → option_map family_of found ≡ line_rows k → found ≡ Some f
    → (item_of_node (coded_node the_encoding u ls bs)).content ≡ spell_node (m.row u bs) (family_of f)
lined_item u ls bs k found f p e r g = ap (λ n. (item_of_node n).content) (plain_item u ls bs p) ∙ ap (λ x. spell_node (m.row u bs) x) (rows_here u k found f p e r g)

pub lined_fits : (u : Row) (ls bs : Leaves) (k : SectionKind) (found : Option Family) (f : Family) → same_row u rows.Producers ≡ false → k ≡ coded_section u → option_map family_of found ≡ line_rows k → found ≡ Some f
    → FitsItem (coded_node the_encoding u ls bs) → FitsNode (m.row u bs) (family_of f)
lined_fits u ls bs k found f p e r g h = subst (λ x. FitsNode (m.row u bs) x) (rows_here u k found f p e r g) (subst FitsItem (plain_item u ls bs p) h)

-- of a component
unlined : (x : SectionKind) → line_rows x ≡ None → x ≡ section_kinds.Component
unlined section_kinds.Component e = refl
unlined _ e = cc

component_tag : (u : Row) → s.section_of u ≡ section_kinds.Component → u ≡ rows.Component
component_tag rows.Component e = refl
component_tag rows.CoreModule e = cc
component_tag _ e = cc

pub is_component : (u : Row) (k : SectionKind) (found : Option Family) → same_row u rows.Producers ≡ false → k ≡ coded_section u → option_map family_of found ≡ line_rows k → found ≡ None → u ≡ rows.Component
is_component u k found p e r g = component_tag u (sym (e ∙ plain_section u p) ∙ unlined k (sym r ∙ ap (option_map family_of) g))

-- a leaf that is no scope can't stand for a component
not_whole : (l : m.Leaf) → scope_leaf l ≡ None → FitsLeaf (binary_of_leaf the_encoding l) t.whole_component → ⊥
not_whole (m.scope c) e h = cc
not_whole (m.core_value v) e h = value v h
  where
    value : (v : core.CoreValue) → FitsLeaf (binary_of_leaf the_encoding (m.core_value v)) t.whole_component → ⊥
    value (core.ref_numeral b o n) h = h
    value _ h = h
not_whole (m.ref u x) e h = target x h
  where
    target : (x : m.Target) → FitsLeaf (binary_of_leaf the_encoding (m.ref u x)) t.whole_component → ⊥
    target (m.numeral o n) h = h
    target _ h = h
not_whole (m.place p) e h = place p h
  where
    place : (p : core.Place) → FitsLeaf (binary_of_leaf the_encoding (m.place p)) t.whole_component → ⊥
    place (core.counted o n) h = h
    place (core.named o x) h = h
not_whole (m.node (m.row u ls)) e h = h
not_whole _ e h = h

no_component : (ls : Leaves) → first_scope ls ≡ None → FitsItem (m.row rows.Component (binary_of_leaves the_encoding ls)) → ⊥
no_component no_leaf e h = h.1.0
no_component (l ▸ ls) e h = not_whole l e h.1.0

-- nothing is planned but for a component
producers_apart : (u : Row) → same_row u rows.Producers ≡ true → same_row u rows.Component ≡ false
producers_apart u e = ap (λ v. same_row v rows.Component) (same_row-true u rows.Producers e)

lined_apart : (u : Row) (k : SectionKind) (found : Option Family) (f : Family) → same_row u rows.Producers ≡ false → k ≡ coded_section u → option_map family_of found ≡ line_rows k → found ≡ Some f → same_row u rows.Component ≡ false
lined_apart u k found f p e r g = go (same_row u rows.Component) refl
  where
    go : (b : Bool) → same_row u rows.Component ≡ b → same_row u rows.Component ≡ false
    go false q = q
    go true q =
        let none : Some (family_of f) ≡ None = sym (ap (option_map family_of) g) ∙ r ∙ ap line_rows (e ∙ plain_section u p ∙ ap s.section_of (same_row-true u rows.Component q)) in
        cc

pub nothing_planned : (u : Row) (ls : Leaves) → same_row u rows.Component ≡ false → payloads_in (component_in (m.row u ls)) ≡ []
nothing_planned u ls e = ap (λ b. payloads_in (cond b (first_scope ls) None)) e

pub producers_plan : (u : Row) (ls : Leaves) → same_row u rows.Producers ≡ true → payloads_in (component_in (m.row u ls)) ≡ []
producers_plan u ls e = nothing_planned u ls (producers_apart u e)

pub lined_plan : (u : Row) (ls : Leaves) (k : SectionKind) (found : Option Family) (f : Family) → same_row u rows.Producers ≡ false → k ≡ coded_section u → option_map family_of found ≡ line_rows k → found ≡ Some f → payloads_in (component_in (m.row u ls)) ≡ []
lined_plan u ls k found f p e r g = nothing_planned u ls (lined_apart u k found f p e r g)

-- the component in a definition is written whole, and its name sections are planned
abbrev Whole : Row → m.Leaf → Leaves → Type 0
Whole u l ls =
    FitsLeaf (binary_of_leaf the_encoding l) t.whole_component
    × ((item_of_node (coded_node the_encoding u (l ▸ ls) (binary_of_leaves the_encoding (l ▸ ls)))).content ≡ spell_leaf (binary_of_leaf the_encoding l) t.whole_component)
    × (payloads_in (component_in (m.row u (l ▸ ls))) ≡ payloads_in (scope_leaf l))

whole_item : (u : Row) (l : m.Leaf) (ls : Leaves) → u ≡ rows.Component → FitsItem (coded_node the_encoding u (l ▸ ls) (binary_of_leaves the_encoding (l ▸ ls))) → Whole u l ls
whole_item u l ls e = subst (λ v. FitsItem (coded_node the_encoding v (l ▸ ls) (binary_of_leaves the_encoding (l ▸ ls))) → Whole v l ls) (sym e) (λ h. (h.1.0, append-nil (spell_leaf (binary_of_leaf the_encoding l) t.whole_component), refl))

-- ---- the name sections that are planned

pub next_payload : (plans : List ComponentNames) (i : ℕ) (x : ComponentNames) (payload : List ℕ) (rest : List (List ℕ)) → i < length plans → x ≡ get_or plans i x → map payload_by (drop i plans) ≡ payload ∷ rest
    → (payload_by x ≡ payload) × (map payload_by (drop (i + 1) plans) ≡ rest)
next_payload plans i x payload rest h e p = cons_is (payload_by x) payload (map payload_by (drop (i + 1) plans)) rest (sym (ap (map payload_by) (dropped plans i x h e)) ∙ p)

pub none_planned : (plans : List ComponentNames) (i : ℕ) (payload : List ℕ) (rest : List (List ℕ)) → length plans ≤ i → map payload_by (drop i plans) ≡ payload ∷ rest → ⊥
none_planned plans i payload rest h p = let e = sym (ap (map payload_by) (drop_of_length-le plans h)) ∙ p in cc

planned_here : (u : Row) (ls : Leaves) → cond (same_row u rows.Component) (payloads_of_first ls) [] ≡ payloads_in (component_in (m.row u ls))
planned_here u ls = go (same_row u rows.Component)
  where
    first : (ls : Leaves) → payloads_of_first ls ≡ payloads_in (first_scope ls)
    first no_leaf = refl
    first (m.scope c ▸ ls) = refl
    first (_ ▸ ls) = refl

    go : (b : Bool) → cond b (payloads_of_first ls) [] ≡ payloads_in (cond b (first_scope ls) None)
    go true = first ls
    go false = refl

module _ (cores : List CoreModule) where
  -- the first leaf of the row of a component
  pub whole_here : (u : Row) (xs : List Leaf) (d : Leaf) → u ≡ rows.Component → length xs ≢ 0 → FitsItem (coded_node the_encoding u (listed cores xs) (wire_leaves cores xs))
      → FitsLeaf (wire_leaf cores (get_or xs 0 d)) t.whole_component
      × ((item_of_node (coded_node the_encoding u (listed cores xs) (wire_leaves cores xs))).content ≡ spell_leaf (wire_leaf cores (get_or xs 0 d)) t.whole_component)
      × (payloads_in (component_in (m.row u (listed cores xs))) ≡ payloads_in (scope_leaf (leaf_of cores (get_or xs 0 d))))
  whole_here u [] d e n h = absurd (n refl)
  whole_here u (y ∷ xs) d e n h = whole_item u (leaf_of cores y) (listed cores xs) e h

  pub no_leaves : (u : Row) (xs : List Leaf) → u ≡ rows.Component → length xs ≡ 0 → FitsItem (coded_node the_encoding u (listed cores xs) (wire_leaves cores xs)) → ⊥
  no_leaves u [] e n h = no_component no_leaf refl (subst (λ v. FitsItem (coded_node the_encoding v no_leaf no_leaf)) e h)
  no_leaves u (x ∷ xs) e n h = absurd (omega (arith, n))

  -- a leaf that is no scope
  pub no_scope_held : (x : Leaf) → ((p : _) (y : Scope) → x ≡ tree.Scope' p y → ⊥) → scope_leaf (leaf_of cores x) ≡ None
  no_scope_held (tree.Scope' p y) n = absurd (n p y refl)
  no_scope_held (tree.Core k) n = no_scope cores k
  no_scope_held x n = refl

  pub not_here : (x : Leaf) → ((p : _) (y : Scope) → x ≡ tree.Scope' p y → ⊥) → FitsLeaf (wire_leaf cores x) t.whole_component → ⊥
  not_here x n h = not_whole (leaf_of cores x) (no_scope_held x n) h

  pub none_gathered : (x : Leaf) → ((p : _) (y : Scope) → x ≡ tree.Scope' p y → ⊥) → payloads_in (scope_leaf (leaf_of cores x)) ≡ []
  none_gathered x n = ap payloads_in (no_scope_held x n)

  pub scope_gathered : (x : Leaf) (b : Bor Scope) → x ≡ tree.Scope b → payloads_in (scope_leaf (leaf_of cores x)) ≡ payloads (scope_of cores b.now)
  scope_gathered x b e = ap (λ y. payloads_in (scope_leaf (leaf_of cores y))) e

  planned_last : (ds : List Def) (d : Def) → payloads_of_defs (defs_listed cores (ds ++ d ∷ [])) ≡ payloads_in (component_in (node_of cores d.node)) ++ payloads_of_defs (defs_listed cores ds)
  planned_last [] d = planned_here d.node.row (listed cores d.node.leaves.now) ∙ sym (append-nil (payloads_in (component_in (node_of cores d.node))))
  planned_last (x ∷ ds) d =
      let own = cond (same_row x.node.row rows.Component) (payloads_of_first (listed cores x.node.leaves.now)) [] in
      ap (λ ps. ps ++ own) (planned_last ds d) ∙ append_assoc (payloads_in (component_in (node_of cores d.node))) (payloads_of_defs (defs_listed cores ds)) own

  pub planned_turn : (ds : List Def) (i : ℕ) (d : Def) → 0 < i → i ≤ length ds → d ≡ get_or ds (i - 1) d
      → payloads_of_defs (defs_listed cores (take i ds)) ≡ payloads_in (component_in (node_of cores d.node)) ++ payloads_of_defs (defs_listed cores (take (i - 1) ds))
  planned_turn ds i d a b e =
      let last : i - 1 + 1 ≡ i = omega (arith, a) in
      ap (λ j. payloads_of_defs (defs_listed cores (take j ds))) (sym last)
      ∙ ap (λ xs. payloads_of_defs (defs_listed cores xs)) ((take_at_read ds (i - 1) d (omega (arith, a, b))).1 ∙ ap (λ x. take (i - 1) ds ++ x ∷ []) (sym e))
      ∙ planned_last (take (i - 1) ds) d

  -- a turn of the loop that gathers names
  pub gathered : (ds : List Def) (i : ℕ) (d : Def) (start now new : List (List ℕ)) → 0 < i → i ≤ length ds → d ≡ get_or ds (i - 1) d → now ++ payloads_of_defs (defs_listed cores (take i ds)) ≡ start ++ payloads_of_defs (defs_listed cores ds)
      → new ≡ now ++ payloads_in (component_in (node_of cores d.node)) → new ++ payloads_of_defs (defs_listed cores (take (i - 1) ds)) ≡ start ++ payloads_of_defs (defs_listed cores ds)
  gathered ds i d start now new a b e h n =
      let front = payloads_of_defs (defs_listed cores (take (i - 1) ds)) in
      let here = payloads_in (component_in (node_of cores d.node)) in
      ap (λ x. x ++ front) n ∙ append_assoc now here front ∙ ap (λ x. now ++ x) (sym (planned_turn ds i d a b e)) ∙ h

  -- one item in front of those behind it
  pub item_turn : (ds : List Def) (i : ℕ) (d : Def) (named : List Item) → 0 < i → i ≤ length ds → d ≡ get_or ds (i - 1) d
      → item_of_node (wire_node_of_def cores d.node) ∷ (wire_items cores (drop i ds) ++ named) ≡ wire_items cores (drop (i - 1) ds) ++ named
  item_turn ds i d named a b e =
      let next : i - 1 + 1 ≡ i = omega (arith, a) in
      sym (ap (λ xs. wire_items cores xs ++ named) (dropped ds (i - 1) d (omega (arith, a, b)) e) ∙ ap (λ j. item_of_node (wire_node_of_def cores d.node) ∷ (wire_items cores (drop j ds) ++ named)) next)

  -- a turn of the loop over the definitions
  pub turned : (ds : List Def) (i : ℕ) (d : Def) (named : List Item) (before now begun new : Kept) (open_one opened next : Open) (k : SectionKind) → 0 < i → i ≤ length ds → d ≡ get_or ds (i - 1) d
      → Holds before now open_one (wire_items cores (drop i ds) ++ named) → ((items : List Item) → Holds before now open_one items → Takes before begun opened k items) → k ≡ coded_section d.node.row
      → next.running ≡ opened.running → next.count ≡ opened.count + 1 → next.end ≡ opened.end → new ≡ put (item_of_node (wire_node_of_def cores d.node)).content begun
      → Holds before new next (wire_items cores (drop (i - 1) ds) ++ named)
  turned ds i d named before now begun new o opened next k a b e h takes same r c f m =
      let items = wire_items cores (drop i ds) ++ named in
      let one = item_of_node (wire_node_of_def cores d.node) in
      subst (Holds before new next) (item_turn ds i d named a b e) (added before begun new opened next k items one (takes items h) (item_section d.node.row _ _ ∙ sym same) r c f m)

  pub nothing_open : (before now : Kept) (o : Open) (ds : List Def) (named : List Item) → o.running ≡ None → BeginsAlone (groups named) → now ≡ put (sections (groups named)) before → Holds before now o (wire_items cores (drop (length ds) ds) ++ named)
  nothing_open before now o ds named r a e =
      subst (λ xs. Holds before now o (wire_items cores xs ++ named)) (sym (drop_of_length-le ds (le_refl (length ds)))) (subst (λ x. IsOpen before now x o.count o.end named) (sym r) (e, a))

  -- ---- a component

  pub component_spelled : (x : Scope) → spell_component (wire_scope cores x) ≡ preamble ++ sections (groups (wire_items cores (sc.out-Scope x).defs.now ++ items_of (section_of_payload (payload_of (scope_of cores x)))))
  component_spelled x =
      spelled_whole (wire_scope cores x)
      ∙ ap (λ y. preamble ++ sections (groups (items_of y))) (scope_defs cores x)
      ∙ ap (λ is. preamble ++ sections (groups is)) (items_behind cores (sc.out-Scope x).defs.now (section_of_payload (payload_of (scope_of cores x))))

  pub planned_scope : (x : Scope) → payloads (scope_of cores x) ≡ payload_of (scope_of cores x) ∷ payloads_of_defs (defs_listed cores (sc.out-Scope x).defs.now)
  planned_scope x = go (scope_of cores x) ∙ ap (λ ds. payload_of (scope_of cores x) ∷ payloads_of_defs ds) (ap defs_of (scope_fields cores x))
    where
      go : (s : m.Scope) → payloads s ≡ payload_of s ∷ payloads_of_defs (defs_of s)
      go (m.scope_of k id label ds) = refl

  -- the names of a component, and behind them those of the components in it
  pub whole_gathered : (x : Scope) (n : ComponentNames) (old pushed : List ComponentNames) (new : List (List ℕ)) → payload_by n ≡ payload_of (scope_of cores x) → pushed ≡ old ++ n ∷ []
      → new ≡ map payload_by pushed ++ payloads_of_defs (defs_listed cores (sc.out-Scope x).defs.now) → new ≡ map payload_by old ++ payloads (scope_of cores x)
  whole_gathered x n old pushed new e p h =
      let inner = payloads_of_defs (defs_listed cores (sc.out-Scope x).defs.now) in
      h ∙ ap (λ ps. map payload_by ps ++ inner) p ∙ ap (λ ps. ps ++ inner) (map-append payload_by old (n ∷ [])) ∙ append_assoc (map payload_by old) (payload_by n ∷ []) inner
      ∙ ap (λ q. map payload_by old ++ q ∷ inner) e ∙ ap (λ ps. map payload_by old ++ ps) (sym (planned_scope x))

  sections_parts : (s : m.Scope) → FitsSections s → FitsDefinitions (defs_of s)
  sections_parts (m.scope_of k id label ds) h = h.3

  pub sections_fit : (x : Scope) → FitsSections (wire_scope cores x) → ItemsFit cores (sc.out-Scope x).defs.now
  sections_fit x h = items_fit cores _ _ (subst FitsDefinitions (scope_defs cores x) (sections_parts (wire_scope cores x) h))

  pub component_written : (x : Scope) (k named new : Kept) → named ≡ put (sections (groups (wire_items cores (sc.out-Scope x).defs.now ++ items_of (section_of_payload (payload_of (scope_of cores x)))))) k → new ≡ put preamble named
      → new ≡ put (spell_component (wire_scope cores x)) k
  component_written x k named new e f = f ∙ ap (put preamble) e ∙ put_put preamble _ k ∙ ap (λ xs. put xs k) (sym (component_spelled x))

pub taken_none : {X : Type 0} (xs : List X) (i : ℕ) → i ≤ 0 → take i xs ≡ []
taken_none xs zero h = refl
taken_none xs (suc i) h = absurd (omega arith)
