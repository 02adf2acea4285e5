-- Names, plans and forms of small components, by computation.
use Rattle.std.proofs.Common.{◌≡◌, ℕ, ◌+◌, true, List, [], ◌∷◌, ◌++◌, Some, None, refl, rules}
use Rattle.std.specs.Prelude.{codes, pos}
use Rattle.comp_model.specs.Rows.{FitsRows}
use Rattle.comp_model.specs.Written.{IsWritten}
use Rattle.comp_model.specs.NamesFit.{NamesFit}
use Rattle.comp_model.specs.Weight.{weight}
use Rattle.comp_model.specs.Covered.{is_covered}
use Rattle.comp_model.specs.declared.Space.TheVariants.{CoreFunc, CoreType, CoreModule, CoreInstance, CoreMemory, Func, Ty, Component, Instance, Value}
use Rattle.comp_model.specs.declared.row.Row.TheVariants as rows
use Rattle.comp_model.specs.Core.{Text, outward, own, at_place, i32, ref_index, ref_name}
use Rattle.comp_model.specs.Core as core
use Rattle.comp_model.specs.Makers as make
use Rattle.comp_model.specs.CoreModules as code
use Rattle.comp_model.specs.CoreModules.{CoreModule as Written, Naming, Local, TypeUse, Inline, memory_field, func_field, i32_const, local_get}
use Rattle.comp_model.specs.Model.{Leaf, text, number, kind, core_value, ref, place, absent, present, node, nodes, core_source, module_bytes, Target, index, numeral, name, path, inline, bundle, root_name, export_of, no_leaf, ◌▸◌, Node, row, no_node, one_node, define, Defs, no_def, one_def, Scope, scope_of, result_ids, result_count}
use Rattle.comp_model.specs.declared.row.ScopeKind.TheVariants as kinds
use Rattle.comp_model.specs.Origins.{written, inline_type, bundle_of, inline_export, export_step, outer_alias_of, name_section, no_origins}
use Rattle.comp_model.specs.Leb.{leb}
use Rattle.comp_scopes.specs.Form.{plan, form, names_of, alias_node, step_node, export_node, custom_node}
use Rattle.comp_scopes.proofs.EachOf.{EachOf}
use Rattle.comp_scopes.proofs.Shorthands.{plain_encoding, names, id_at, def, at, with_id, exported, bare, component, nested, nested_as, u8, named, list_of, list_at, mark, mark_with, one_entry}
use Rattle.comp_scopes.proofs.Letters.{c, i, t, u, v}

-- (component (type u8) (type $t u8) (component (component (type (list $t))))): an outer alias over two scopes
abbrev two_out : Scope
two_out = component (bare u8 (def t u8 (bare (nested (bare (nested (bare (list_of (named 0 Ty t)) no_def)) no_def)) no_def)))

outer_form : form plain_encoding [] two_out ≡ component (bare u8 (bare u8 (bare (nested (bare (nested (bare (alias_node 2 Ty 1) (bare (list_at 0) no_def))) no_def)) (names (0x01 ∷ 0x05 ∷ 0x03 ∷ 0x01 ∷ 0x01 ∷ 0x01 ∷ 0x74 ∷ []) no_def))))
unfolding leb
outer_form = refl

outer_plan : plan plain_encoding [] two_out ≡ mark (written 0) (mark (written 1) (mark_with (written 2) (mark_with (written 0) (mark (outer_alias_of 0 0) (mark (written 0) no_origins)) no_origins) (mark name_section no_origins)))
outer_plan = refl

-- (component $c (type $t u8) (component (alias outer $c $t (type)))): a written outer alias by names
by_names : form plain_encoding [] (scope_of kinds.Component (Some (id_at 0 c)) None (def t u8 (bare (nested (bare (row rows.AliasOuter
    (place (core.named 0 (id_at 0 c)) ▸ ref Ty (name (at_place (core.named 0 (id_at 0 c))) (id_at 0 t)) ▸ kind Ty ▸ no_leaf)) no_def)) no_def)))
    ≡ component (bare u8 (bare (nested (bare (alias_node 1 Ty 0) no_def)) (names (0x00 ∷ 0x02 ∷ 0x01 ∷ 0x63 ∷ 0x01 ∷ 0x05 ∷ 0x03 ∷ 0x01 ∷ 0x00 ∷ 0x01 ∷ 0x74 ∷ []) no_def)))
unfolding leb
by_names = refl

-- (component (func (export "t") (export "u") (import "c") (type 0))): an inline import is the import, inline exports stand at the end
in_line : form plain_encoding [] (component (exported (t ∷ u ∷ []) (row rows.Import (text c ▸ node (row rows.FuncDescription (ref Ty (numeral 0 0) ▸ no_leaf)) ▸ no_leaf)) no_def))
    ≡ component (bare (row rows.Import (text c ▸ node (row rows.FuncDescription (ref Ty (index 0) ▸ no_leaf)) ▸ no_leaf))
    (bare (export_node t Func 0) (bare (export_node u Func 0) no_def)))
in_line = refl

in_line_plan : plan plain_encoding [] (component (exported (t ∷ u ∷ []) (row rows.Import (text c ▸ node (row rows.FuncDescription (ref Ty (numeral 0 0) ▸ no_leaf)) ▸ no_leaf)) no_def))
    ≡ mark (written 0) (mark (inline_export 0 0) (mark (inline_export 0 1) no_origins))
in_line_plan = refl

-- (component (component $c) (instance $i (instantiate $c)) (instance (instantiate $c (with "t" (instance (export "u" (func $i "t")))))))
abbrev bundled : Scope
bundled = component (def c (nested_as c no_def) (def i (row rows.Instantiate (named 0 Component c ▸ nodes no_node ▸ no_leaf))
    (bare (row rows.Instantiate (named 0 Component c
    ▸ one_entry (row rows.Argument (text t ▸ ref Instance (bundle (row rows.Bundle (one_entry (row rows.BundleExport (text u ▸ ref Func (path (export_of (root_name (id_at 0 i)) t)) ▸ no_leaf)) ▸ no_leaf))) ▸ no_leaf))
    ▸ no_leaf)) no_def)))

bundle_plan : plan plain_encoding [] bundled
    ≡ mark_with (written 0) (mark name_section no_origins) (mark (written 1) (mark (export_step 2 2 0) (mark (bundle_of 2 1) (mark (written 2) (mark name_section no_origins)))))
bundle_plan = refl

bundle_form : form plain_encoding [] bundled
    ≡ component (bare (nested (names (0x00 ∷ 0x02 ∷ 0x01 ∷ 0x63 ∷ []) no_def)) (bare (row rows.Instantiate (ref Component (index 0) ▸ nodes no_node ▸ no_leaf))
    (bare (step_node 0 t Func) (bare (row rows.Bundle (one_entry (row rows.BundleExport (text u ▸ ref Func (index 0) ▸ no_leaf)) ▸ no_leaf))
    (bare (row rows.Instantiate (ref Component (index 0) ▸ one_entry (row rows.Argument (text t ▸ ref Instance (index 1) ▸ no_leaf)) ▸ no_leaf)) (names (0x01 ∷ 0x05 ∷ 0x04 ∷ 0x01 ∷ 0x00 ∷ 0x01 ∷ 0x63 ∷ 0x01 ∷ 0x05 ∷ 0x05 ∷ 0x01 ∷ 0x00 ∷ 0x01 ∷ 0x69 ∷ []) no_def))))))
unfolding leb
bundle_form = refl

-- module types: (type (func (param i32))) (import "t" "u" (func ..))
abbrev value_list : Node
value_list = row rows.CoreValueType (core_value i32 ▸ no_leaf)

abbrev signature : Node
signature = row rows.CoreFunctionType (one_entry value_list ▸ nodes no_node ▸ no_leaf)

abbrev import_func : Leaf → Node
import_func l = row rows.ModuleImport (text t ▸ text u ▸ node (row rows.FuncEntity (l ▸ no_leaf)) ▸ no_leaf)

abbrev module_type : Defs → Scope
module_type ds = scope_of kinds.ModuleType None None ds

-- a generated type is not reused
generated : form plain_encoding [] (module_type (bare (import_func (ref CoreType (inline signature))) (bare (import_func (ref CoreType (inline signature))) no_def)))
    ≡ module_type (bare signature (bare (import_func (ref CoreType (index 0))) (bare signature (bare (import_func (ref CoreType (index 1))) no_def))))
generated = refl

-- a written one is, the latest first
reuse : form plain_encoding [] (module_type (bare signature (bare signature (bare (import_func (ref CoreType (inline signature))) no_def))))
    ≡ module_type (bare signature (bare signature (bare (import_func (ref CoreType (index 1))) no_def)))
reuse = refl

-- (component (core rec (type (func)) (type $t (func))) (core type (func (param (ref $t))))): the second part of a definition
abbrev no_values : Node
no_values = row rows.CoreFunctionType (nodes no_node ▸ nodes no_node ▸ no_leaf)

abbrev takes : core.CoreValue → Node
takes v = row rows.CoreFunctionType (one_entry (row rows.CoreValueType (core_value v ▸ no_leaf)) ▸ nodes no_node ▸ no_leaf)

second_part : form plain_encoding [] (component (one_def (define (record { ids = None ∷ Some (id_at 0 t) ∷ []; labels = []; exports = []; offset = 0 }) (row rows.CoreRec (nodes (one_node no_values (one_node no_values no_node)) ▸ no_leaf)))
    (bare (takes (ref_name true own (id_at 0 t))) no_def)))
    ≡ component (bare (row rows.CoreRec (nodes (one_node no_values (one_node no_values no_node)) ▸ no_leaf)) (bare (takes (ref_index true 1)) (names (0x01 ∷ 0x06 ∷ 0x00 ∷ 0x10 ∷ 0x01 ∷ 0x01 ∷ 0x01 ∷ 0x74 ∷ []) no_def)))
unfolding leb
second_part = refl

-- (component (type $t u8) (component (type (list $t)) (import "c" (func (param "u" (list $t))))))
abbrev takes_list : Leaf → Node
takes_list l = row rows.FunctionType (number 0 ▸ one_entry (row rows.NamedType (text u ▸ l ▸ no_leaf)) ▸ absent ▸ no_leaf)

abbrev import_as : Leaf → Node
import_as l = row rows.Import (text c ▸ node (row rows.FuncDescription (l ▸ no_leaf)) ▸ no_leaf)

abbrev inner_uses : Scope
inner_uses = component (def t u8 (bare (nested (bare (list_of (named 0 Ty t)) (bare (import_as (ref Ty (inline (takes_list (ref Ty (inline (list_of (named 0 Ty t)))))))) no_def))) no_def))

inner_plan : plan plain_encoding [] inner_uses
    ≡ mark (written 0) (mark_with (written 1)
    (mark (outer_alias_of 0 0) (mark (written 0) (mark (inline_type 1 0) (mark (written 1) no_origins))))
    (mark name_section no_origins))
inner_plan = refl

inner_form : form plain_encoding [] inner_uses
    ≡ component (bare u8 (bare (nested (bare (alias_node 1 Ty 0) (bare (list_at 0) (bare (takes_list (ref Ty (index 1))) (bare (import_as (ref Ty (index 2))) no_def)))))
    (names (0x01 ∷ 0x05 ∷ 0x03 ∷ 0x01 ∷ 0x00 ∷ 0x01 ∷ 0x74 ∷ []) no_def)))
unfolding leb
inner_form = refl

-- a numeral and a name of the same definition have one form and one plan
numeral_or_name : form plain_encoding [] (component (def t u8 (bare (list_of (named 0 Ty t)) no_def))) ≡ form plain_encoding [] (component (def t u8 (bare (list_of (ref Ty (numeral 0 0))) no_def)))
numeral_or_name = refl

numeral_or_name_plan : plan plain_encoding [] (component (def t u8 (bare (list_of (named 0 Ty t)) no_def))) ≡ plan plain_encoding [] (component (def t u8 (bare (list_of (ref Ty (numeral 0 0))) no_def)))
numeral_or_name_plan = refl

-- ---- the realistic component with fifteen marks; the bytes of its core module are left aside

-- (component $app
--   (import "host" (instance $host
--     (export "log" (func (param "msg" string)))))
--   (core module $m
--     (memory (export "mem") 1)
--     (func (export "realloc") (param i32 i32 i32 i32) (result i32)
--       i32.const 0)
--     (func (export "greet") (param $p i32) (param i32) (result i32)
--       local.get $p))
--   (core instance $i (instantiate $m))
--   (type $greet (func (param "name" string) (result string)))
--   (func $g (type $greet)
--     (canon lift (core func $i "greet")
--       string-encoding=utf8
--       (memory (core memory $i "mem"))
--       (realloc (core func $i "realloc"))))
--   (export "greet" (func $g))
--   (export "log" (func $host "log")))
abbrev greet_type : Node
greet_type = make.function_type 0 (one_node (make.named_type (codes "name") (number 0x73)) no_node) (present (number 0x73))

abbrev log_type : Node
log_type = make.function_type 0 (one_node (make.named_type (codes "msg") (number 0x73)) no_node) absent

abbrev host_type : Defs → Node
host_type ds = make.instance_type (scope_of kinds.InstanceType None None ds)

abbrev exports_log : Target → Node
exports_log target = make.export_type (text (codes "log")) (make.described_by rows.FuncDescription target)

abbrev imports_host : Target → Node
imports_host target = make.import_row (text (codes "host")) (make.described_by rows.InstanceDescription target)

abbrev unnamed : Naming
unnamed = record { id = None; label = None }

abbrev unnamed_i32 : Local
unnamed_i32 = record { naming = unnamed; value = i32 }

-- an inline export, and a signature that gives an i32
abbrev exporting : Text → Inline
exporting x = record { exports = x ∷ []; imported = None }

abbrev giving_i32 : List Local → TypeUse
giving_i32 ps = record { index = None; signature = Some (record { params = ps; results = i32 ∷ [] }) }

abbrev the_module : Written
the_module = record {
  naming = record { id = Some (id_at 113 (codes "m")); label = None };
  fields =
      memory_field 121 unnamed (exporting (codes "mem")) (record { least = 1; most = None })
      ∷ func_field 151 unnamed (exporting (codes "realloc")) (giving_i32 (unnamed_i32 ∷ unnamed_i32 ∷ unnamed_i32 ∷ unnamed_i32 ∷ [])) [] (i32_const (pos 0) ∷ [])
      ∷ func_field 236 unnamed (exporting (codes "greet")) (giving_i32 (record { naming = record { id = Some (id_at 265 (codes "p")); label = None }; value = i32 } ∷ unnamed_i32 ∷ [])) [] (local_get (code.named (id_at 314 (codes "p"))) ∷ [])
      ∷ [];
}

-- an export of the instance of that id, whose name stands at o
abbrev export_from : ℕ → Text → Text → Target
export_from o y x = path (export_of (root_name (id_at o y)) x)

abbrev lifted : Target → Target → Target → Target → Node
lifted type func memory realloc = make.lift type func (one_node (row rows.OptionUtf8 no_leaf) (one_node (row rows.OptionMemory (ref CoreMemory memory ▸ no_leaf)) (one_node (row rows.OptionRealloc (ref CoreFunc realloc ▸ no_leaf)) no_node)))

abbrev pub app : Scope
app = scope_of kinds.Component (Some (id_at 11 (codes "app"))) None
    (with_id 19 43 (codes "host") (imports_host (inline (host_type (at 54 (exports_log (inline log_type)) no_def))))
    (with_id 101 113 (codes "m") (make.core_module (core_source the_module))
    (with_id 322 336 i (make.core_instantiate (name outward (id_at 352 (codes "m"))) no_node)
    (with_id 360 365 (codes "greet") greet_type
    (with_id 421 426 (codes "g") (lifted (name outward (id_at 435 (codes "greet"))) (export_from 470 i (codes "greet")) (export_from 536 i (codes "mem")) (export_from 573 i (codes "realloc")))
    (at 593 (row rows.Export (text (codes "greet") ▸ absent ▸ named 614 Func (codes "g") ▸ no_leaf))
    (at 622 (row rows.Export (text (codes "log") ▸ absent ▸ ref Func (export_from 641 (codes "host") (codes "log")) ▸ no_leaf))
    no_def)))))))

fifteen_marks : plan plain_encoding [] app
    ≡ mark_with (inline_type 0 0) (mark (inline_type 0 0) (mark (written 0) no_origins))
    (mark (written 0) (mark (written 1) (mark (written 2) (mark (written 3)
    (mark (export_step 4 1 0) (mark (export_step 4 2 0) (mark (export_step 4 3 0) (mark (written 4) (mark (written 5)
    (mark (export_step 6 0 0) (mark (written 6) (mark name_section no_origins))))))))))))
fifteen_marks = refl

app_form : form plain_encoding [] app
    ≡ component
    (bare (host_type (bare log_type (bare (exports_log (index 0)) no_def)))
    (bare (imports_host (index 0))
    (bare (make.core_module (module_bytes (1 ∷ [])))
    (bare (make.core_instantiate (index 0) no_node)
    (bare greet_type
    (bare (step_node 0 (codes "greet") CoreFunc)
    (bare (step_node 0 (codes "mem") CoreMemory)
    (bare (step_node 0 (codes "realloc") CoreFunc)
    (bare (lifted (index 1) (index 0) (index 0) (index 1))
    (bare (export_node (codes "greet") Func 0)
    (bare (step_node 0 (codes "log") Func)
    (bare (export_node (codes "log") Func 2)
    (names (0x00 ∷ 0x04 ∷ 0x03 ∷ 0x61 ∷ 0x70 ∷ 0x70 ∷ 0x01 ∷ 0x06 ∷ 0x00 ∷ 0x11 ∷ 0x01 ∷ 0x00 ∷ 0x01 ∷ 0x6d ∷ 0x01 ∷ 0x06 ∷ 0x00 ∷ 0x12 ∷ 0x01 ∷ 0x00 ∷ 0x01 ∷ 0x69 ∷ 0x01 ∷ 0x05 ∷ 0x01 ∷ 0x01 ∷ 0x00 ∷ 0x01 ∷ 0x67 ∷ 0x01 ∷ 0x09 ∷ 0x03 ∷ 0x01 ∷ 0x01 ∷ 0x05 ∷ 0x67 ∷ 0x72 ∷ 0x65 ∷ 0x65 ∷ 0x74 ∷ 0x01 ∷ 0x08 ∷ 0x05 ∷ 0x01 ∷ 0x00 ∷ 0x04 ∷ 0x68 ∷ 0x6f ∷ 0x73 ∷ 0x74 ∷ []) no_def)))))))))))))
unfolding leb
app_form = refl

-- what its name section holds
app_names : names_of [] app
    ≡ record {
      component = Some (codes "app");
      maps =
          record { space = CoreModule; names = record { index = 0; name = codes "m" } ∷ [] }
          ∷ record { space = CoreInstance; names = record { index = 0; name = i } ∷ [] }
          ∷ record { space = Func; names = record { index = 0; name = codes "g" } ∷ [] }
          ∷ record { space = Ty; names = record { index = 1; name = codes "greet" } ∷ [] }
          ∷ record { space = Instance; names = record { index = 0; name = codes "host" } ∷ [] } ∷ [];
    }
app_names = refl

-- it is written by the table of rows
fit_rows : EachOf FitsRows (app ∷ two_out ∷ bundled ∷ inner_uses ∷ [])
fit_rows = (search rules, (search rules, (search rules, (search rules, tt))))

app_written : IsWritten app
app_written = search rules

names_fit : EachOf NamesFit (app ∷ bundled ∷ [])
names_fit = (search rules, (search rules, tt))

-- (component (type $t (list u8))): scope, definition, node, leaf, and the id
small_weight : weight (λ m. 0) (component (def t (list_of (number 0x7d)) no_def)) ≡ 32 + (32 + 1 + (32 + 32))
small_weight = refl

app_covered : is_covered (λ m. None) app ≡ true
app_covered = refl

-- (component (start 0 (result (value $v))) (export "t" (value $v))): the results of a start function are values
abbrev start_row : Leaf → Node
start_row l = row rows.Start (ref Func (numeral 0 0) ▸ nodes no_node ▸ l ▸ no_leaf)

abbrev start_form : Leaf → Node
start_form l = row rows.Start (ref Func (index 0) ▸ nodes no_node ▸ l ▸ no_leaf)

started : form plain_encoding [] (component (def v (start_row (result_ids (Some (id_at 0 v) ∷ []))) (bare (row rows.Export (text t ▸ absent ▸ named 0 Value v ▸ no_leaf)) no_def)))
    ≡ component (bare (start_form (result_count 1)) (bare (export_node t Value 0) (names (0x01 ∷ 0x05 ∷ 0x02 ∷ 0x01 ∷ 0x00 ∷ 0x01 ∷ 0x76 ∷ []) no_def)))
unfolding leb
started = refl

-- (component (type $t (@name "u") u8)): a label comes before an id
labelled : names_of [] (component (one_def (define (record { ids = Some (id_at 0 t) ∷ []; labels = Some u ∷ []; exports = []; offset = 0 }) u8) no_def))
    ≡ record { component = None; maps = record { space = Ty; names = record { index = 0; name = u } ∷ [] } ∷ [] }
labelled = refl

-- (component (@custom "t" "uuu"))
custom_weight : weight (λ m. 0) (component (bare (custom_node t (u ++ (u ++ u))) no_def)) ≡ 161 + 3
custom_weight = refl
