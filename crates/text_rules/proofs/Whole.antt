-- What the rules make of a whole text is a component of a text, a core module, or bytes.
use Rattle.std.proofs.Common.{◌≡◌, Bool, true, false, ◌&&◌, not, List, [], ◌∷◌, ◌++◌, map, refl, sym, ◌∙◌, ap, subst, inl, inr, ◌⊎◌, None, arith}
use Rattle.comp_model.specs.Core.{Text}
use Rattle.comp_model.specs.CoreModules.{CoreModule}
use Rattle.comp_model.specs.Model as m
use Rattle.comp_model.specs.declared.row.ScopeKind.TheVariants as kinds
use Rattle.comp_model.specs.Model.{Leaf, Node, Def, Defs}
use Rattle.comp_model.specs.declared.row.Row.TheVariants as rows
use Rattle.comp_model.specs.declared.row.Row.{Row}
use Rattle.comp_model.specs.ItemNames.{first_or_none}
use Rattle.wast_grammar.specs.Stand.{Stand}
use Rattle.wast_grammar.specs.Grammar as g
use Rattle.wast_grammar.specs.Grammar.{Value, none, text, numbered}
use Rattle.wast_grammar.specs.Spells as sp
use Rattle.wast_grammar.specs.Spells.{Spells}
use Rattle.wast_grammar.specs.OfText.{IsOfText}
use Rattle.wast_grammar.specs.Classes.{Class}
use Rattle.wast_grammar.specs.Grammar.{whole}
use Rattle.wast_grammar.specs.FieldRows as d
use Rattle.wast_grammar.specs.FormatLaws.{field_rows, fields_are_lawful}
use Rattle.wast_grammar.specs.Lawful.{lawful_at}
use Rattle.wast_grammar.specs.Shape.{sound}
use Rattle.wast_grammar.specs.Clear.{clear}
use Rattle.wast_grammar.specs.Read.{read, reads as is_read}
use Rattle.wast_grammar.proofs.Sound.{read_is}
use Rattle.wast_grammar.proofs.OfText.{names_of_text}
use Rattle.core_model.specs.Words.{FieldsWord}
use Rattle.text_rules.specs.Made.{Made, empty, leaves_from, owned, first_row, def_made}
use Rattle.text_rules.specs.Makes.{makes, wrapped}
use Rattle.text_rules.specs.Rule as r
use Rattle.text_rules.specs.Rule.{Rule, reads}
use Rattle.text_rules.specs.Forms.{group, of_row}
use Rattle.text_rules.specs.FieldRules.{whole_component, whole_module, wat_item}
use Rattle.text_rules.specs.Sorts.{a_payload, a_scope, a_module, Segment, one, Parts}
use Rattle.text_rules.specs.Good.{GoodDefs}
use Rattle.text_rules.specs.HasSorts as is
use Rattle.text_rules.specs.HasSorts.{HasLeaves, HasParts}
use Rattle.text_rules.specs.DefinitionTests.{no_rows}
use Rattle.text_rules.specs.Tests.{all, below_rows}
use Rattle.text_rules.specs.Whole.{IsComponent, IsModule, IsBytes, one_definition, IsOfComponent, IsOfModule}
use Rattle.text_rules.proofs.Booleans.{not_true}
use Rattle.text_rules.proofs.Rows.{first_of_text}
use Rattle.text_rules.proofs.Defs.{no_nodes}
use Rattle.text_rules.proofs.Parts.{rows_below, no_length}
use Rattle.text_rules.proofs.TableReads.{reads_wat_item}
use Rattle.text_rules.proofs.Passes.{passes}
use Rattle.text_rules.proofs.Sound.{good}
use Rattle.text_rules.proofs.MadeParts.{makes_is, same_made}
use Rattle.wast_grammar.proofs.Moves.{and_true}

-- ---- leaves

abbrev component_leaves : List Segment → Bool
component_leaves (one a_payload ∷ []) = true
component_leaves (one (a_scope kinds.Component) ∷ []) = true
component_leaves _ = false

abbrev module_leaves : List Segment → Bool
module_leaves (one a_payload ∷ []) = true
module_leaves (one a_module ∷ []) = true
module_leaves _ = false

abbrev AText : List Leaf → Type 0
AText ls = (b : Text) × (ls ≡ m.text b ∷ [])

abbrev AScope : List Leaf → Type 0
AScope ls = (ds : Defs) × (ls ≡ m.scope (m.scope_of kinds.Component None None ds) ∷ []) × GoodDefs kinds.Component ds

abbrev AModule : List Leaf → Type 0
AModule ls = (c : CoreModule) × (ls ≡ m.core_source c ∷ []) × FieldsWord c.fields

text_or_scope : {xs : List Segment} {ls : List Leaf} → HasLeaves xs ls → component_leaves xs ≡ true → AScope ls ⊎ AText ls
text_or_scope (is.one_leaf (is.payload_leaf {t = b}) is.no_leaves) h = inr (b, refl)
text_or_scope (is.one_leaf (is.scope_leaf {k = kinds.Component} {ds = ds} g) is.no_leaves) h = inl (ds, refl, g)
text_or_scope _ h = absurd (cc)

text_or_module : {xs : List Segment} {ls : List Leaf} → HasLeaves xs ls → module_leaves xs ≡ true → AModule ls ⊎ AText ls
text_or_module (is.one_leaf (is.payload_leaf {t = b}) is.no_leaves) h = inr (b, refl)
text_or_module (is.one_leaf (is.module_leaf {c = c} i) is.no_leaves) h = inl (c, refl, i)
text_or_module _ h = absurd (cc)

-- ---- one definition

abbrev whole_test : Row → (List Segment → Bool) → Parts → Bool
whole_test t f x = below_rows x.rows (t ∷ []) && (f x.leaves && (no_rows x.nodes && (no_rows x.numbered && not x.some)))

only : (a : Made) → a.nodes ≡ [] → a.defs ≡ [] → wrapped r.a_def a ≡ one_definition (def_made a)
only a e h = alone a.nodes a.defs (def_made a) e h
  where
    alone : (ns : List Node) (ds : List Def) (d : Def) → ns ≡ [] → ds ≡ [] → record empty { nodes = ns; defs = ds ++ (d ∷ []) } ≡ one_definition d
    alone ns ds d e h = rw (e, h) refl

node_is : (a : Made) (t : Row) (ls : List Leaf) → a.rows ≡ t ∷ [] → a.leaves ≡ ls
    → m.row (first_row a.rows) (leaves_from (map (owned (first_or_none a.ids) (first_or_none a.labels)) a.leaves)) ≡ m.row t (leaves_from (map (owned (first_or_none a.ids) (first_or_none a.labels)) ls))
node_is a t ls e h = ap (λ rs. m.row (first_row rs) (leaves_from (map (owned (first_or_none a.ids) (first_or_none a.labels)) a.leaves))) e ∙ ap (λ xs. m.row t (leaves_from (map (owned (first_or_none a.ids) (first_or_none a.labels)) xs))) h

module _ (x : Parts) (a : Made) (p : HasParts x a) where
  bytes_of : (t : Row) → a.rows ≡ t ∷ [] → AText a.leaves → IsBytes t (def_made a)
  bytes_of t e b = (b.0, node_is a t (m.text b.0 ∷ []) e b.1)

  component_of : a.rows ≡ rows.Component ∷ [] → AScope a.leaves → IsComponent (def_made a)
  component_of e b =
      let q = b.2 in (
        m.scope_of kinds.Component (first_or_none a.ids) (first_or_none a.labels) b.0,
        node_is a rows.Component (m.scope (m.scope_of kinds.Component None None b.0) ∷ []) e b.1,
        refl,
        refl,
        refl,
        record { rows = q.shaped; written = q.written; names = q.named; utf8 = q.utf8; numerals = q.short },
        (first_of_text a.ids p.texts, q.of_text),
      )

  module_of : a.rows ≡ rows.CoreModule ∷ [] → AModule a.leaves → IsModule (def_made a)
  module_of e b = (record b.0 { naming = record { id = first_or_none a.ids; label = first_or_none a.labels } }, node_is a rows.CoreModule (m.core_source b.0 ∷ []) e b.1, refl, refl, b.2)

  nothing_else : (t : Row) (f : List Segment → Bool) → whole_test t f x ≡ true → (a.rows ≡ t ∷ []) × (f x.leaves ≡ true) × (wrapped r.a_def a ≡ one_definition (def_made a))
  nothing_else t f h =
      let b1 = and_true (below_rows x.rows (t ∷ [])) _ h in
      let b2 = and_true (f x.leaves) _ b1.1 in
      let b3 = and_true (no_rows x.nodes) _ b2.1 in
      let b4 = and_true (no_rows x.numbered) _ b3.1 in
      let z = no_nodes x.nodes x.numbered b3.0 b4.0 a.nodes p.nodes in
      (p.rows ∙ rows_below x.rows (t ∷ []) b1.0, b2.0, only a (no_length a.nodes (omega (arith, z))) (p.none (not_true x.some b4.1)))

-- ---- values

wraps_made : (v : Value) (w : r.Wraps) (q : Rule) → makes v (r.wraps w q) ≡ wrapped w (makes v q)
wraps_made v w q = makes_is v (r.wraps w q) ∙ ap (wrapped w) (sym (makes_is v q))

group_made : (v : Value) (q : Rule) → makes v (group q) ≡ makes v q
group_made v q = same_made v (group q) q refl

-- a text of one row: its leaves are what they may be, or bytes
whole_by : (u : Row) (f : List Segment → Bool) (IsIt : Def → Type 0) (ItsLeaf : List Leaf → Type 0) → ((xs : List Segment) (ls : List Leaf) → HasLeaves xs ls → f xs ≡ true → ItsLeaf ls ⊎ AText ls)
    → ((x : Parts) (a : Made) → HasParts x a → a.rows ≡ u ∷ [] → ItsLeaf a.leaves → IsIt (def_made a))
    → (q : Rule) → all q (whole_test u f) ≡ true → (s t : Stand) (v : Value) → Spells (reads q) s t v → IsOfText v → (d : Def) × (makes v (r.wraps r.a_def q) ≡ one_definition d) × (IsIt d ⊎ IsBytes u d)
whole_by u f IsIt ItsLeaf leaf it q h s t v d i =
    let x = good passes v q (s, t, d) i (whole_test u f) h in
    let n = nothing_else x.0 (makes v q) x.2 u f x.1 in
    let p = x.2 in
    let c : IsIt (def_made (makes v q)) ⊎ IsBytes u (def_made (makes v q)) =
    elim (leaf _ _ p.leaves n.1) [
      | inl b ↦ inl (it x.0 (makes v q) x.2 n.0 b)
      | inr b ↦ inr (bytes_of x.0 (makes v q) x.2 u n.0 b)
    ] in
    (def_made (makes v q), wraps_made v r.a_def q ∙ n.2, c)

component_by : (q : Rule) → all q (whole_test rows.Component component_leaves) ≡ true → (s t : Stand) (v : Value) → Spells (reads q) s t v → IsOfText v → IsOfComponent (makes v (r.wraps r.a_def q))
component_by = whole_by rows.Component component_leaves IsComponent AScope (λ xs ls h k. text_or_scope h k) component_of

module_by : (q : Rule) → all q (whole_test rows.CoreModule module_leaves) ≡ true → (s t : Stand) (v : Value) → Spells (reads q) s t v → IsOfText v → IsOfModule (makes v (r.wraps r.a_def q))
module_by = whole_by rows.CoreModule module_leaves IsModule AModule (λ xs ls h k. text_or_module h k) module_of

abbrev inner : Rule → Rule
inner (r.wraps w q) = q
inner q = q

pub component_is_of_text : (s t : Stand) (v : Value) → Spells (reads whole_component) s t v → IsOfComponent (makes v whole_component)
component_is_of_text s t v d = component_by (inner whole_component) refl s t v d (names_of_text (reads whole_component) s t v refl d)

pub module_is_of_text : (s t : Stand) (v : Value) → Spells (reads whole_module) s t v → IsOfModule (makes v whole_module)
module_is_of_text s t v d = module_by (inner whole_module) refl s t v d (names_of_text (reads whole_module) s t v refl d)

in_group : {x : g.Grammar} {s t : Stand} {v : Value} → Spells (g.group x) s t v → (s' : Stand) × (t' : Stand) × Spells x s' t' v
in_group (sp.token h (sp.behind d k)) = (_, _, d)

-- a text is a component, a core module, or the fields of one
by_part : {v : Value} → (s t : Stand) → Spells (reads wat_item) s t v → IsOfComponent (makes v wat_item) ⊎ IsOfModule (makes v wat_item)
unfolding makes
by_part s t (sp.one {u = u} d) =
    let e = in_group d in
    inl (subst IsOfComponent (sym (group_made u whole_component)) (component_is_of_text e.0 e.1 u e.2))
by_part s t (sp.other (sp.one {u = u} d)) =
    let e = in_group d in
    inr (subst IsOfModule (sym (group_made u whole_module)) (module_is_of_text e.0 e.1 u e.2))
by_part s t (sp.other (sp.other {s = s'} {t = t'} {u = u} d)) = inr (module_by (of_row rows.CoreModule (r.outside r.some_core_fields)) refl s' t' u d (names_of_text (reads (r.outside r.some_core_fields)) s' t' u refl d))

pub text_is_whole : (s t : Stand) (v : Value) → Spells (reads wat_item) s t v → IsOfComponent (makes v wat_item) ⊎ IsOfModule (makes v wat_item)
text_is_whole s t v d = by_part s t d

lawful_text : (sound (reads wat_item) ≡ true) × (clear (whole (reads wat_item)) ≡ true)
lawful_text = subst (λ x. (sound x ≡ true) × (clear (whole x) ≡ true)) (sym reads_wat_item) (lawful_at 9 d.wat_item field_rows fields_are_lawful refl)

not_ended : {cs : List Class} {x : g.Grammar} {s t : Stand} {v : Value} → Spells (g.ends cs x) s t v → Spells x s t v
not_ended (sp.ended d) = d

pub read_text_is_whole : (s t : Stand) (v : Value) → read (whole (reads wat_item)) s ≡ is_read v t → IsOfComponent (makes v wat_item) ⊎ IsOfModule (makes v wat_item)
read_text_is_whole s t v e =
    let r = read_is (whole (reads wat_item)) s t v lawful_text.0 lawful_text.1 e in
    text_is_whole s t v (not_ended (r.front).0)
