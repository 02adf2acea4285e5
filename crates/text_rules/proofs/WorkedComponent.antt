-- A whole component: what it leaves.
use Rattle.std.specs.Prelude.{List, [], ◌∷◌, false, refl, codes, None, pos}
use Prim.Native.String.{String}
use Rattle.comp_model.specs.declared.Space.TheVariants as space
use Rattle.comp_model.specs.Core as core
use Rattle.comp_model.specs.Model as m
use Rattle.comp_model.specs.declared.row.ScopeKind.TheVariants as kinds
use Rattle.comp_model.specs.Model.{number, absent, present, inline, no_node}
use Rattle.comp_model.specs.CoreModules as c
use Rattle.comp_model.specs.declared.row.Row.TheVariants as rows
use Rattle.comp_model.specs.Makers as make
use Rattle.text_rules.specs.Made.{nodes_from}
use Rattle.text_rules.specs.FieldRules.{wat_item}
use Rattle.text_rules.proofs.Texts.{LongCome, answer, one, an_id, at, at_id, of_kind, by_name, path_by, nameless, with_id, a_local, core_function, by_signature, exporting, limits, core_module, import_of, of_named}

-- a component that imports an instance, lifts a function of a core module and exports both
abbrev greeting_text : List String
greeting_text =
    "(component $app"
    ∷ "  (import \"host\" (instance $host"
    ∷ "    (export \"log\" (func (param \"msg\" string)))))"
    ∷ "  (core module $m"
    ∷ "    (memory (export \"mem\") 1)"
    ∷ "    (func (export \"realloc\") (param i32 i32 i32 i32) (result i32)"
    ∷ "      i32.const 0)"
    ∷ "    (func (export \"greet\") (param $p i32) (param i32) (result i32)"
    ∷ "      local.get $p))"
    ∷ "  (core instance $i (instantiate $m))"
    ∷ "  (type $greet (func (param \"name\" string) (result string)))"
    ∷ "  (func $g (type $greet)"
    ∷ "    (canon lift (core func $i \"greet\")"
    ∷ "      string-encoding=utf8"
    ∷ "      (memory (core memory $i \"mem\"))"
    ∷ "      (realloc (core func $i \"realloc\"))))"
    ∷ "  (export \"greet\" (func $g))"
    ∷ "  (export \"log\" (func $host \"log\")))"
    ∷ []

abbrev greeting_left : m.Def
greeting_left = at_id 1 (an_id 11 "app") (make.component
    (of_named kinds.Component (an_id 11 "app")
    (at_id 19 (an_id 43 "host")
    (import_of "host"
    (make.described_by rows.InstanceDescription (inline (make.instance_type
    (of_kind kinds.InstanceType
    (at 54
    (make.export_type (m.text (codes "log"))
    (make.described_by rows.FuncDescription (inline
    (make.function_type 0
    (nodes_from (make.named_type (codes "msg") (number 0x73) ∷ [])) absent)))) ∷ []))))))
    ∷ at_id 101 (an_id 113 "m")
    (core_module (with_id (an_id 113 "m"))
    (c.memory_field 121 nameless (exporting (codes "mem" ∷ [])) (limits 1 None)
    ∷ c.func_field 151 nameless (exporting (codes "realloc" ∷ []))
    (by_signature
    (core_function
    (a_local nameless core.i32
    ∷ a_local nameless core.i32
    ∷ a_local nameless core.i32
    ∷ a_local nameless core.i32 ∷ []) (core.i32 ∷ []))) [] (c.i32_const (pos 0) ∷ [])
    ∷ c.func_field 236 nameless (exporting (codes "greet" ∷ []))
    (by_signature
    (core_function
    (a_local (with_id (an_id 265 "p")) core.i32 ∷ a_local nameless core.i32 ∷ []) (core.i32 ∷ []))) [] (c.local_get (c.named (an_id 314 "p")) ∷ []) ∷ []))
    ∷ at_id 322 (an_id 336 "i") (make.core_instantiate (by_name 352 "m") no_node)
    ∷ at_id 360 (an_id 365 "greet")
    (make.function_type 0 (nodes_from (make.named_type (codes "name") (number 0x73) ∷ [])) (present (number 0x73)))
    ∷ at_id 421 (an_id 426 "g")
    (make.lift (by_name 435 "greet") (path_by 470 "i" ("greet" ∷ [])) (nodes_from
    (make.plain_option rows.OptionUtf8
    ∷ make.option_memory (path_by 536 "i" ("mem" ∷ []))
    ∷ make.option_of_function rows.OptionRealloc (path_by 573 "i" ("realloc" ∷ [])) ∷ [])))
    ∷ at 593 (make.export_row (m.text (codes "greet")) absent space.Func (by_name 614 "g"))
    ∷ at 622 (make.export_row (m.text (codes "log")) absent space.Func (path_by 641 "host" ("log" ∷ []))) ∷ [])))

-- each text comes to what stands beside it
all_come : LongCome wat_item false ((greeting_text, one greeting_left) ∷ [])
unfolding answer
all_come = (refl, tt)
