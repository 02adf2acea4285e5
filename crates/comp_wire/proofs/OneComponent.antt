-- Bytes are read as at most one component, and at the front of the same bytes stands one leaf of a field and one row of a family: by induction on
-- the model, one line for each kind of leaf, and none for any row.
use Rattle.std.proofs.Common.{◌≡◌, ℕ, List, [], ◌++◌, refl, sym, ◌∙◌, ap, subst, arith, true, inl, inr, Option, append_assoc}
use Rattle.std.proofs.lemmas.List.{append_cancel_left}
use Rattle.comp_model.specs.Core.{Id, Text}
use Rattle.comp_model.specs.Model as m
use Rattle.comp_model.specs.declared.row.ScopeKind.TheVariants as kinds
use Rattle.comp_model.specs.Model.{Leaf, Leaves, no_leaf, ◌▸◌, Node, row, Nodes, no_node, one_node, Names, Def, define, Defs, no_def, one_def, Scope, scope_of, Target, count_nodes, count_defs}
use Rattle.comp_model.specs.declared.row.ScopeKind.{ScopeKind}
use Rattle.comp_wire.specs.Table as t
use Rattle.comp_wire.specs.Table.{Family, Field}
use Rattle.comp_wire.specs.declared.sections.SectionKind.TheVariants as section_kinds
use Rattle.comp_wire.specs.declared.sections.SectionKind.{SectionKind}
use Rattle.comp_wire.specs.Sections.{is_counted, Item, section_of, rows_of, groups, sections, preamble}
use Rattle.comp_wire.specs.Spelled.{FitsNode, FitsNodes, FitsItem, FitsDefinitions, FitsDeclarations, FitsSections, declarations_of, spell_node, spell_nodes, spell_declarations, spell_component, items_of, item_of_node}
use Rattle.comp_wire.specs.Read.{Reads}
use Rattle.comp_wire.proofs.Numbers.{uleb_ends}
use Rattle.comp_wire.proofs.Fields.{closed_family, LeafLaw, text_law, module_law, number_law, place_law, count_law, kind_law, reference_law, absent_law, present_law, case_law, core_law, no_law, nothing_follows}
use Rattle.comp_wire.proofs.Rows.{LeavesLaw, NodeLaw, row_law}
use Rattle.comp_wire.proofs.OneList.{Each, ItemLaw, items_law}
use Rattle.comp_wire.proofs.Fit.{fits_sections}

-- a node, and a list of nodes
node_leaf : (n : Node) → NodeLaw n → LeafLaw (m.node n)
node_leaf n law (t.one f) (m.node k) a b ok p q o e = let r = law f k a b p q (inl ok) e in (ap m.node r.0, r.1)
node_leaf n law (t.one f) y a b ok p q o e = absurd q
node_leaf n law f y a b ok p q o e = absurd p

abbrev pub NodesLaw : Nodes → Type 0
NodesLaw ns = (f : Family) (ks : Nodes) (a b : List ℕ) → closed_family f ≡ true → count_nodes ns ≡ count_nodes ks → FitsNodes ns f → FitsNodes ks f
    → spell_nodes ns f ++ a ≡ spell_nodes ks f ++ b → (ns ≡ ks) × (a ≡ b)

no_nodes_law : NodesLaw no_node
no_nodes_law f no_node a b ok l p q e = (refl, e)
no_nodes_law f (one_node k ks) a b ok l p q e = absurd (omega arith)

nodes_law_step : (n : Node) (ns : Nodes) → NodeLaw n → NodesLaw ns → NodesLaw (one_node n ns)
nodes_law_step n ns first others f no_node a b ok l p q e = absurd (omega arith)
nodes_law_step n ns first others f (one_node k ks) a b ok l p q e =
    let r = first f k (spell_nodes ns f ++ a) (spell_nodes ks f ++ b) p.0 q.0 (inl ok) (simp append_assoc at e) in
    let s = others f ks a b ok (omega arith) p.1 q.1 r.1 in
    let same : one_node n ns ≡ one_node k ks = let x = r.0 in let y = s.0 in cc in
    (same, s.1)

nodes_leaf : (ns : Nodes) → NodesLaw ns → LeafLaw (m.nodes ns)
nodes_leaf ns law (t.each f) (m.nodes ks) a b ok p q o e =
    let r = uleb_ends (count_nodes ns) (count_nodes ks) (spell_nodes ns f ++ a) (spell_nodes ks f ++ b) (simp append_assoc at e) in
    let s = law f ks a b ok r.0 p.1 q.1 r.1 in
    (ap m.nodes s.0, s.1)
nodes_leaf ns law (t.each f) y a b ok p q o e = absurd q
nodes_leaf ns law f y a b ok p q o e = absurd p

-- the definitions of a type's scope
abbrev DefLaw : Def → Type 0
DefLaw (define names n) = NodeLaw n

abbrev DefsLaw : Defs → Type 0
DefsLaw no_def = Unit {0}
DefsLaw (one_def d ds) = DefLaw d × DefsLaw ds

same_define : (w v : Names) (n k : Node) → w ≡ v → n ≡ k → define w n ≡ define v k
same_define w v n k e f = cc

declarations_closed : (kind : ScopeKind) → closed_family (declarations_of kind) ≡ true
declarations_closed kinds.ComponentType = refl
declarations_closed kinds.InstanceType = refl
declarations_closed kinds.ModuleType = refl
declarations_closed kinds.Component = refl

declarations_law : (f : Family) (ds es : Defs) (a b : List ℕ) → closed_family f ≡ true → DefsLaw ds → count_defs ds ≡ count_defs es → FitsDeclarations ds f → FitsDeclarations es f
    → spell_declarations ds f ++ a ≡ spell_declarations es f ++ b → (ds ≡ es) × (a ≡ b)
declarations_law f no_def no_def a b ok laws l p q e = (refl, e)
declarations_law f no_def (one_def d es) a b ok laws l p q e = absurd (omega arith)
declarations_law f (one_def d ds) no_def a b ok laws l p q e = absurd (omega arith)
declarations_law f (one_def (define w n) ds) (one_def (define v k) es) a b ok laws l p q e =
    let r = laws.0 f k (spell_declarations ds f ++ a) (spell_declarations es f ++ b) p.0.1 q.0.1 (inl ok) (simp append_assoc at e) in
    let s = declarations_law f ds es a b ok laws.1 (omega arith) p.1 q.1 r.1 in
    let x : define w n ≡ define v k = same_define w v n k (p.0.0 ∙ sym q.0.0) r.0 in
    let same : one_def (define w n) ds ≡ one_def (define v k) es = let y = s.0 in cc in
    (same, s.1)

-- the definitions of a component
abbrev GoodItem : Item → Type 0
GoodItem i = (n : Node) × FitsItem n × (item_of_node n ≡ i)

good_items : (ds : Defs) → FitsDefinitions ds → Each GoodItem (items_of ds)
good_items no_def p = tt
good_items (one_def (define w n) ds) p = ((n, p.0.1, refl), good_items ds p.1)

counted_closed : (s : SectionKind) → is_counted s ≡ true → closed_family (rows_of s) ≡ true
counted_closed section_kinds.Custom e = cc
counted_closed section_kinds.CoreModule e = cc
counted_closed section_kinds.Component e = cc
counted_closed section_kinds.Start e = cc
counted_closed _ e = refl

item_law : (n : Node) → NodeLaw n → FitsItem n → ItemLaw GoodItem (item_of_node n)
item_law (row v ls) law p counted c (row u ks, q, same) a b e =
    let sections : section_of u ≡ section_of v = ap (λ i. i.section) same in
    let bytes = ap (λ i. i.content) same in
    let f = rows_of (section_of v) in
    let q2 : FitsNode (row u ks) f = subst (λ s. FitsNode (row u ks) (rows_of s)) sections q in
    let b2 : spell_node (row u ks) f ≡ c = ap (λ s. spell_node (row u ks) (rows_of s)) (sym sections) ∙ bytes in
    let r = law f (row u ks) a b p q2 (inl (counted_closed (section_of v) counted)) (e ∙ ap (λ x. x ++ b) (sym b2)) in
    (ap (λ n. spell_node n f) r.0 ∙ b2, r.1)

item_laws : (ds : Defs) → DefsLaw ds → FitsDefinitions ds → Each (ItemLaw GoodItem) (items_of ds)
item_laws no_def laws p = tt
item_laws (one_def (define w n) ds) laws p = (item_law n laws.0 p.0.1, item_laws ds laws.1 p.1)

node_of_item : (n k : Node) → NodeLaw n → FitsItem n → FitsItem k → item_of_node n ≡ item_of_node k → n ≡ k
node_of_item (row v ls) (row u ks) law p q same =
    let sections : section_of u ≡ section_of v = sym (ap (λ i. i.section) same) in
    let f = rows_of (section_of v) in
    let q2 : FitsNode (row u ks) f = subst (λ s. FitsNode (row u ks) (rows_of s)) sections q in
    let bytes : spell_node (row v ls) f ≡ spell_node (row u ks) f = ap (λ i. i.content) same ∙ ap (λ s. spell_node (row u ks) (rows_of s)) sections in
    (law f (row u ks) [] [] p q2 (inr (refl, refl)) (ap (λ x. x ++ []) bytes)).0

definitions_law : (ds es : Defs) → DefsLaw ds → FitsDefinitions ds → FitsDefinitions es → items_of ds ≡ items_of es → ds ≡ es
definitions_law no_def no_def laws p q e = refl
definitions_law no_def (one_def d es) laws p q e = cc
definitions_law (one_def d ds) no_def laws p q e = cc
definitions_law (one_def (define w n) ds) (one_def (define v k) es) laws p q e =
    let first : item_of_node n ≡ item_of_node k = cc in
    let others : items_of ds ≡ items_of es = cc in
    let x : define w n ≡ define v k = same_define w v n k (p.0.0 ∙ sym q.0.0) (node_of_item n k laws.0 p.0.1 q.0.1 first) in
    let y : ds ≡ es = definitions_law ds es laws.1 p.1 q.1 others in
    cc

abbrev ScopeLaw : Scope → Type 0
ScopeLaw (scope_of k id label ds) = DefsLaw ds

same_scope : (k l : ScopeKind) (i j : Option Id) (x y : Option Text) (ds es : Defs) → k ≡ l → i ≡ j → x ≡ y → ds ≡ es → scope_of k i x ds ≡ scope_of l j y es
same_scope k l i j x y ds es e f g h = cc

component_law : (s u : Scope) → ScopeLaw s → FitsSections s → FitsSections u → spell_component s ≡ spell_component u → s ≡ u
component_law (scope_of k i x ds) (scope_of l j y es) laws p q e =
    let bytes = append_cancel_left preamble (sections (groups (items_of ds))) (sections (groups (items_of es))) e in
    let items = items_law GoodItem (items_of ds) (items_of es) (item_laws ds laws p.3) (good_items es q.3) bytes in
    same_scope k l i j x y ds es (p.0 ∙ sym q.0) (p.1 ∙ sym q.1) (p.2 ∙ sym q.2) (definitions_law ds es laws p.3 q.3 items)

scope_leaf : (s : Scope) → ScopeLaw s → LeafLaw (m.scope s)
scope_leaf (scope_of k i x ds) laws (t.type_scope kind) (m.scope (scope_of l j y es)) a b ok p q o e =
    let f = declarations_of kind in
    let r = uleb_ends (count_defs ds) (count_defs es) (spell_declarations ds f ++ a) (spell_declarations es f ++ b) (simp append_assoc at e) in
    let s = declarations_law f ds es a b (declarations_closed kind) laws r.0 p.4 q.4 r.1 in
    (ap m.scope (same_scope k l i j x y ds es (p.0 ∙ sym q.0) (p.1 ∙ sym q.1) (p.2 ∙ sym q.2) s.0), s.1)
scope_leaf s laws (t.type_scope kind) y a b ok p q o e = absurd q
scope_leaf s laws t.whole_component (m.scope u) a b ok p q o e =
    let r = nothing_follows (spell_component s) (spell_component u) a b o e in
    (ap m.scope (component_law s u laws p q r.0), r.1)
scope_leaf s laws t.whole_component y a b ok p q o e = absurd q
scope_leaf s laws f y a b ok p q o e = absurd p

-- the induction: one line for each kind of leaf
mutual
  pub leaf_law : (x : Leaf) → LeafLaw x
  leaf_law (m.text x) = text_law x
  leaf_law (m.number n) = number_law n
  leaf_law (m.kind s) = kind_law s
  leaf_law (m.core_value v) = core_law v
  leaf_law (m.ref s x) = reference_law s x
  leaf_law (m.place p) = place_law p
  leaf_law m.absent = absent_law
  leaf_law (m.present l) = present_law l (leaf_law l)
  leaf_law (m.node n) = node_leaf n (node_law n)
  leaf_law (m.nodes ns) = nodes_leaf ns (nodes_law ns)
  leaf_law (m.case_id i) = case_law i
  leaf_law (m.result_ids is) = no_law (m.result_ids is) (λ f p. p)
  leaf_law (m.result_count n) = count_law n
  leaf_law (m.core_source x) = no_law (m.core_source x) (λ f p. p)
  leaf_law (m.module_bytes bs) = module_law bs
  leaf_law (m.scope s) = scope_leaf s (scope_law s)

  pub leaves_law : (xs : Leaves) → LeavesLaw xs
  leaves_law no_leaf = tt
  leaves_law (l ▸ ls) = (leaf_law l, leaves_law ls)

  pub node_law : (n : Node) → NodeLaw n
  node_law (row x ls) = row_law x ls (leaves_law ls)

  pub nodes_law : (ns : Nodes) → NodesLaw ns
  nodes_law no_node = no_nodes_law
  nodes_law (one_node n ns) = nodes_law_step n ns (node_law n) (nodes_law ns)

  def_law : (d : Def) → DefLaw d
  def_law (define names n) = node_law n

  defs_law : (ds : Defs) → DefsLaw ds
  defs_law no_def = tt
  defs_law (one_def d ds) = (def_law d, defs_law ds)

  scope_law : (s : Scope) → ScopeLaw s
  scope_law (scope_of k id label ds) = defs_law ds

pub one_component : (bytes : List ℕ) (s u : Scope) → Reads bytes s → Reads bytes u → s ≡ u
one_component bytes s u p q = component_law s u (scope_law s) (fits_sections s p.fits) (fits_sections u q.fits) (sym p.spelled ∙ q.spelled)

pub one_spelling : (b c : List ℕ) (s : Scope) → Reads b s → Reads c s → b ≡ c
one_spelling b c s p q = p.spelled ∙ sym q.spelled
