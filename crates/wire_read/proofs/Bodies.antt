-- What fills a section, section by section.
use Rattle.std.proofs.Common.{◌≡◌, ℕ, suc, ◌-◌, List, [], ◌∷◌, refl, sym, ◌∙◌, ap, subst, arith, Bool, true, false, Some, None, append-nil, Bor, if◌then◌else◌, lit<}
use Rattle.std.specs.Prelude.{Result, Ok, Err}
use Rattle.comp_model.specs.declared.row.Row.TheVariants as rows
use Rattle.comp_model.specs.RowNumbers.{same_row}
use Rattle.comp_model.specs.Model as m
use Rattle.comp_model.specs.Model.{Leaf, Leaves, ◌▸◌, no_leaf, Node, row, Nodes, no_node, one_node, count_nodes}
use Rattle.comp_wire.specs.declared.sections.SectionKind.TheVariants as section_kinds
use Rattle.comp_wire.specs.declared.sections.SectionKind.{SectionKind}
use Rattle.comp_wire.specs.Sections.{is_counted, rows_of, Word}
use Rattle.comp_wire.specs.Table as t
use Rattle.comp_wire.specs.Table.{Family, Line, lines}
use Rattle.comp_wire.specs.Spelled.{spell_leaf, FitsLeaf, fits_leaves, spell_leaves, spell_line, spell_node, FitsLine, FitsNode, FitsSections, spell_component}
use Rattle.wire_tree.specs.Lists.{nodes_listed}
use Rattle.wire_tree.specs.declared.tree.Node as tree
use Rattle.wire_read.specs.Place.{Place, rest}
use Rattle.wire_read.specs.Within.{WithinLeaf, WithinLeaves, WithinNode, WithinNodes, WithinScope}
use Rattle.wire_read.specs.Stops.{Allows}
use Rattle.wire_read.specs.Nodes.{is_closed}
use Rattle.wire_read.specs.Runs.{body_bytes, BodyFits, WholeBody}
use Rattle.wire_read.specs.Bodies.{WholeRows, WholeCounted}
use Rattle.wire_read.specs.declared.stop.Stop.{Stop}
use Rattle.comp_wire.proofs.Rows.{leaf_at}
use Rattle.wire_read.proofs.PieceLaws.{at_place}
use Rattle.wire_read.proofs.NodeParts.{allowed}
use Rattle.wire_read.proofs.RunLaws.{counted_body, lone_body}
use Rattle.wire_read.proofs.Reached.{at_other, body_reached, start_reached}

not_both : {A : Type 0} (b : Bool) → b ≡ true → b ≡ false → A
not_both b e f = let g : true ≡ false = sym e ∙ f in cc

-- rows behind a count
pub counted_section : (t : SectionKind) (f : Family) (left : ℕ) (old : Place) (r : Result (Bor (List tree.Node)) Stop) → is_counted t ≡ true → f ≡ rows_of t → WholeCounted f left old r → WholeBody t left old r
counted_section t f left old (Ok p) c e w =
    let v = subst (λ g. WholeCounted g left old (Ok p)) e w in
    (record { rows = v.0.2; some = v.0.0; lone = λ d. not_both (is_counted t) c d; count = v.0.1 }, v.1, counted_body t (nodes_listed p.now) c ∙ v.2)
counted_section t f left old (Err st) c e w =
    let v = subst (λ g. WholeCounted g left old (Err st)) e w in
    ((λ ks h a q. v.0 ks (h.some, h.count, h.rows) a (sym (counted_body t ks c) ∙ q)), at_other st _ _ (body_reached t f left old e) w.1)

-- a start function, which has a section of its own
pub start_section : (left : ℕ) (old : Place) (r : Result (Bor (List tree.Node)) Stop) → WholeRows 1 t.starts left old r → WholeBody section_kinds.Start left old r
start_section left old (Ok p) w =
    let ks = nodes_listed p.now in
    (record { rows = w.0.1; some = λ e. omega (arith, e, w.0.0); lone = λ d. w.0.0; count = subst Word (sym w.0.0) (lit< tt) }, w.1, lone_body section_kinds.Start ks refl ∙ w.2)
start_section left old (Err st) w =
    ((λ ks h a q. w.0 ks (h.lone refl, h.rows) a (sym (lone_body section_kinds.Start ks refl) ∙ q)), at_other st _ _ (start_reached left old) w.1)

-- a section of one row
abbrev LoneRow : SectionKind → Nodes → Type 0
LoneRow t ks = (n : Node) × (ks ≡ one_node n no_node) × FitsNode n (rows_of t) × (body_bytes t ks ≡ spell_node n (rows_of t))

lone_row : (t : SectionKind) (ks : Nodes) → is_counted t ≡ false → BodyFits t ks → LoneRow t ks
lone_row t no_node c h = absurd (h.some refl)
lone_row t (one_node n no_node) c h = (n, refl, h.rows.0, lone_body t (one_node n no_node) c ∙ append-nil _)
lone_row t (one_node n (one_node k ks)) c h = let e = h.lone c in absurd (omega (arith, e))

-- the component that fills a section
component_there : (x : Leaf) → FitsLeaf x t.whole_component → (b : m.Scope) × (x ≡ m.scope b) × FitsSections b
component_there (m.scope b) p = (b, refl, p)
component_there x p = absurd p

abbrev ComponentSeen : Node → Type 0
ComponentSeen n = (b : m.Scope) × FitsSections b × (spell_node n t.components ≡ spell_component b) × ((k : ℕ) → WithinNode n k → WithinLeaf (m.scope b) k)

within_first : (ls : Leaves) (x : Leaf) (k : ℕ) → leaf_at 0 ls ≡ Some x → WithinLeaves ls k → WithinLeaf x k
within_first no_leaf x k e h = cc
within_first (y ▸ ys) x k e h = let same : y ≡ x = cc in subst (λ z. WithinLeaf z k) same h.0

component_seen : (n : Node) → FitsNode n t.components → ComponentSeen n
component_seen (row u ls) h = go (same_row u rows.Component) h
  where
    the_line : Line
    the_line = t.line rows.Component 1 (t.leaf 0 t.whole_component ∷ [])

    go : (b : Bool) → FitsLine (if b then Some the_line else None) (fits_leaves ls) → (c : m.Scope) × FitsSections c × (spell_line (if b then Some the_line else None) (spell_leaves ls) ≡ spell_component c) × ((k : ℕ) → WithinLeaves ls k → WithinLeaf (m.scope c) k)
    go false h = absurd h
    go true h =
        let x = at_place ls 0 t.whole_component h.1.0 in
        let b = component_there x.0 x.2 in
        (b.0, b.2, append-nil _ ∙ x.3 t.whole_component ∙ ap (λ z. spell_leaf z t.whole_component) b.1, (λ k w. within_first ls (m.scope b.0) k (x.1 ∙ ap Some b.1) w))

pub nested_refused : (left : ℕ) (old : Place) (e : Stop) → (left ≡ 0 → ⊥) → ((b : m.Scope) → FitsSections b → Allows e (WithinScope b (left - 1)) → spell_component b ≡ rest old → ⊥) → (ks : Nodes) → BodyFits section_kinds.Component ks → Allows e (WithinNodes ks left) → body_bytes section_kinds.Component ks ≡ rest old → ⊥
nested_refused left old e z u ks h a q =
    let n = lone_row section_kinds.Component ks refl h in
    let c = component_seen n.0 n.2 in
    let more : left ≡ suc (left - 1) = omega (arith, z) in
    let near : Allows e (WithinScope c.0 (left - 1)) = allowed e _ _ (λ w. subst (λ k. WithinLeaf (m.scope c.0) k) more (c.3 left (subst (λ js. WithinNodes js left) n.1 w).0)) a in
    u c.0 c.1 near (sym c.2 ∙ sym n.3 ∙ q)

pub nested_deep : (left : ℕ) (old : Place) → left ≡ 0 → (ks : Nodes) → BodyFits section_kinds.Component ks → WithinNodes ks left → body_bytes section_kinds.Component ks ≡ rest old → ⊥
nested_deep left old z ks h a q =
    let n = lone_row section_kinds.Component ks refl h in
    let c = component_seen n.0 n.2 in
    subst (λ k. WithinLeaf (m.scope c.0) k) z (c.3 left (subst (λ js. WithinNodes js left) n.1 a).0)

pub counted_closed : (t : SectionKind) (f : Family) → is_counted t ≡ true → f ≡ rows_of t → is_closed f ≡ true
counted_closed t f c e = ap is_closed e ∙ go t c
  where
    go : (t : SectionKind) → is_counted t ≡ true → is_closed (rows_of t) ≡ true
    go section_kinds.Custom c = cc
    go section_kinds.CoreModule c = cc
    go section_kinds.Component c = cc
    go section_kinds.Start c = cc
    go _ c = refl
