-- Components with their weight and the length of their form, by computation: what each kind of part weighs, and the bytes that it brings.
use Rattle.std.proofs.Common.{true, ◌≡◌, ℕ, ◌*◌, ◌<◌, ◌^◌, [], ◌∷◌, length, replicate, refl, lit<, lit≤, Some, None}
use Rattle.std.specs.Prelude.{codes}
use Rattle.std.specs.Str.{is_utf8, chars}
use Rattle.std.specs.Char.{encode_utf8}
use Rattle.comp_model.specs.declared.Space.{Space}
use Rattle.comp_model.specs.declared.Space.TheVariants.{CoreFunc, CoreTable, CoreMemory, CoreGlobal, CoreTag, CoreModule, CoreInstance, Func, Value, Ty, Component, Instance}
use Rattle.comp_model.specs.declared.row.Row.TheVariants as rows
use Rattle.comp_model.specs.Core.{Text}
use Rattle.comp_model.specs.Model.{text, number, kind, ref, absent, nodes, core_source, numeral, root_number, export_of, path, inline, no_leaf, ◌▸◌, Node, row, Nodes, no_node, one_node, define, no_def, one_def, Scope, scope_of}
use Rattle.comp_model.specs.declared.row.ScopeKind.TheVariants as kinds
use Rattle.comp_model.specs.Leb as leb
use Rattle.comp_model.specs.Weight.{weight}
use Rattle.comp_wire.specs.Spelled.{spell_component}
use Rattle.comp_wire.specs.Read.{FitsComponent}
use Rattle.comp_scopes.specs.Encoding.{Encoding}
use Rattle.comp_scopes.specs.Form.{form}
use Rattle.comp_scopes.proofs.Shorthands.{id_at, def, exported, bare, component, nested, nested_as, u8, named, list_of, lists, one_entry}
use Rattle.comp_scopes.proofs.Quiet.{rule-none}
use Rattle.core_model.specs.Module.{core_bytes}
use Rattle.core_model.specs.Rule.{core_rule}
use Rattle.core_model.specs.Weight.{module_weight}
use Rattle.comp_weight.specs.Formats.{ByFormats}
use Rattle.comp_weight.specs.FromText.{FromText}
use Rattle.comp_weight.specs.Numerals.{NumeralsShort}
use Rattle.comp_model.specs.Rows.{FitsRows}
use Rattle.comp_model.specs.Written.{IsWritten}
use Rattle.comp_weight.proofs.Law.{form-written}

-- the encoding by the formats
abbrev encoding : Encoding
encoding = record { core_refusal = λ c. core_rule c.fields; core_bytes = core_bytes }

by-formats : ByFormats encoding
by-formats = record { cores = λ c. refl }

-- the weight of a component, and the length of its form
abbrev measures : Scope → ℕ × ℕ
measures s = (weight module_weight s, length (spell_component (form encoding [] s)))

abbrev entry : Text → Nodes → Nodes
entry x ns = one_node (row rows.LoneName (text x ▸ no_leaf)) ns

-- (component)
an-empty-scope : measures (component no_def) ≡ (32, 8)
unfolding leb.leb
an-empty-scope = refl

-- (component $c): its own name opens a name section of 21 bytes
a-named-scope : measures (scope_of kinds.Component (Some (id_at 0 (codes "c"))) None no_def) ≡ (33, 29)
unfolding leb.leb
a-named-scope = refl

-- (component (component))
a-scope-in-a-scope : measures (component (bare (nested no_def) no_def)) ≡ (160, 18)
unfolding leb.leb
a-scope-in-a-scope = refl

-- (component (component $abcdefghij)): each byte of the id stands in two name sections
a-nested-id : measures (component (def (codes "abcdefghij") (nested_as (codes "abcdefghij") no_def) no_def)) ≡ (170, 81)
unfolding leb.leb
a-nested-id = refl

a-longer-nested-id : measures (component (def (codes "abcdefghijk") (nested_as (codes "abcdefghijk") no_def) no_def)) ≡ (171, 83)
unfolding leb.leb
a-longer-nested-id = refl

-- (component (type u8)): a definition with its node, and a leaf
a-definition : measures (component (bare u8 no_def)) ≡ (128, 12)
unfolding leb.leb
a-definition = refl

-- (component (type u8) (type (list 0)))
a-numeral : measures (component (bare u8 (bare (list_of (ref Ty (numeral 0 0))) no_def))) ≡ (224, 14)
unfolding leb.leb
a-numeral = refl

-- (component (type (list (list .. u8 ..)))), with 98 lists: a definition each, of two bytes up to the index 63 and of three behind it,
-- in one section of 230
ninety-eight-lists : measures (component (bare (lists 97) no_def)) ≡ (6336, 241)
unfolding leb.leb
ninety-eight-lists = refl

-- (component (type $t u8) (component (type (list $t)))): a reference leaf brings an alias of seven bytes with its section
a-reference-outward : measures (component (def (codes "t") u8 (bare (nested (bare (list_of (named 0 Ty (codes "t"))) no_def)) no_def))) ≡ (353, 58)
unfolding leb.leb
a-reference-outward = refl

-- (component (type (list (list u8)))): an inline node is a definition of its own
an-inline-node : measures (component (bare (list_of (ref Ty (inline (list_of (number 0x7d))))) no_def)) ≡ (192, 15)
unfolding leb.leb
an-inline-node = refl

-- (component (export "f" (func 0 "g"))): a step of a path brings an alias of eight bytes with its section
a-path-step : measures (component (bare (row rows.Export (text (codes "f") ▸ absent ▸ ref Func (path (export_of (root_number 0 0) (codes "g"))) ▸ no_leaf)) no_def)) ≡ (226, 25)
unfolding leb.leb
a-path-step = refl

-- (component (type (export "e") u8))
an-inline-export : measures (component (exported (codes "e" ∷ []) u8 no_def)) ≡ (161, 21)
unfolding leb.leb
an-inline-export = refl

-- (component (type (flags "a"))), and one entry more
a-list-entry : measures (component (bare (row rows.FlagsType (nodes (entry (codes "a") no_node) ▸ no_leaf)) no_def)) ≡ (193, 15)
unfolding leb.leb
a-list-entry = refl

two-list-entries : measures (component (bare (row rows.FlagsType (nodes (entry (codes "a") (entry (codes "b") no_node)) ▸ no_leaf)) no_def)) ≡ (258, 17)
unfolding leb.leb
two-list-entries = refl

-- (alias core export 0 "x" (core func)), and the other core kinds
abbrev core_alias : Space → Node
core_alias s = row rows.AliasCoreExport (ref CoreInstance (numeral 0 0) ▸ text (codes "x") ▸ kind s ▸ no_leaf)

-- (alias export 0 "x" (func)), and the other kinds
abbrev an_alias : Space → Node
an_alias s = row rows.AliasExport (ref Instance (numeral 0 0) ▸ text (codes "x") ▸ kind s ▸ no_leaf)

-- a named item in each of the thirteen spaces: the scope pays for the headers of all maps of names, 99 bytes with the names
a-map-for-each-space : measures (component
    (def (codes "a") (core_alias CoreFunc) (def (codes "b") (core_alias CoreTable) (def (codes "c") (core_alias CoreMemory) (def (codes "d") (core_alias CoreGlobal)
    (def (codes "e") (core_alias CoreTag) (def (codes "f") (an_alias CoreModule) (def (codes "g") (an_alias Func) (def (codes "h") (an_alias Value) (def (codes "i") (an_alias Ty)
    (def (codes "j") (an_alias Component) (def (codes "k") (an_alias Instance) (def (codes "l") (row rows.CoreFunctionType (nodes no_node ▸ nodes no_node ▸ no_leaf))
    (def (codes "m") (row rows.CoreInstantiate (ref CoreModule (numeral 0 0) ▸ nodes no_node ▸ no_leaf)) no_def)))))))))))))) ≡ (2072, 200)
unfolding leb.leb
a-map-for-each-space = refl

-- (component (core module $m)): its id stands in its own name section and in the component's
a-core-module : measures (component (def (codes "m") (row rows.CoreModule (core_source (record { naming = record { id = Some (id_at 0 (codes "m")); label = None }; fields = [] }) ▸ no_leaf)) no_def)) ≡ (129, 54)
unfolding leb.leb
a-core-module = refl

-- (component (@producers (processed-by "a" "b")))
a-producer : measures (component (bare (row rows.Producers (nodes no_node ▸ nodes no_node ▸ one_entry (row rows.Producer (text (codes "a") ▸ text (codes "b") ▸ no_leaf)) ▸ no_leaf)) no_def)) ≡ (290, 39)
unfolding leb.leb
a-producer = refl

-- ---- the law at work, and why a component has the id of its definition

-- (component $outer (component $inner (export "e")))
abbrev outer : Scope
outer = scope_of kinds.Component (Some (id_at 0 (codes "outer"))) None (one_def
    (define (record { ids = Some (id_at 0 (codes "inner")) ∷ []; labels = []; exports = codes "e" ∷ []; offset = 0 }) (nested_as (codes "inner") no_def))
    no_def)

outer-measures : measures outer ≡ (203, 88)
unfolding leb.leb
outer-measures = refl

outer-small : 8 * weight module_weight outer < 2 ^ 32
outer-small = lit< tt

a_letter : is_utf8 (codes "e") ≡ true
unfolding is_utf8 chars encode_utf8
a_letter = refl

outer-from-text : FromText outer
outer-from-text = record {
  rows = (refl, ((refl, tt), tt), tt);
  written = (refl, (tt, tt), tt);
  names = ((lit≤ tt, lit≤ tt), refl, ((refl, refl), tt), (tt, tt), tt);
  utf8 = ((a_letter, tt), (tt, tt), tt);
  numerals = ((tt, tt), tt);
}

outer-fits : FitsComponent (form encoding [] outer)
outer-fits = form-written encoding by-formats (λ c. None) outer outer-from-text outer-small refl ((rule-none encoding [] outer).1 refl) refl

-- an inner component with an id that its definition has not: all else holds, and the bound doesn't
abbrev unowned : Scope
unowned = component (bare (nested_as (replicate 1300 0x61) no_def) no_def)

unowned-rows : FitsRows unowned × IsWritten unowned × NumeralsShort unowned
unowned-rows = ((refl, ((refl, tt), tt), tt), (tt, (tt, tt), tt), ((tt, tt), tt))

unowned-heavy : 8 * weight module_weight unowned < length (spell_component (form encoding [] unowned))
unfolding leb.leb
unowned-heavy = lit< tt
