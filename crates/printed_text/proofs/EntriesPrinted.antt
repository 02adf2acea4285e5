-- Each row that has a text is spelled as it is printed, by the rule of its place, which makes it of that.
use Rattle.printed_text.proofs.GoodWords.{w_async, w_bool, w_callback, w_case, w_char, w_component, w_core, w_eq, w_error_context, w_export, w_extern, w_externref, w_f32, w_f64, w_field, w_func, w_funcref, w_global, w_i32, w_i64, w_instance, w_memory, w_module, w_null, w_param, w_post_return, w_realloc, w_ref, w_resource, w_result, w_s16, w_s32, w_s64, w_s8, w_string, w_string_encoding_latin1_utf16, w_string_encoding_utf16, w_string_encoding_utf8, w_sub, w_table, w_tag, w_type, w_u16, w_u32, w_u64, w_u8, w_v128, w_value, w_with}
use Rattle.std.proofs.Common.{◌≡◌, ℕ, true, false, List, [], ◌∷◌, ◌++◌, refl, sym, ap, ◌∙◌, append_assoc, codes}
use Prim.Native.String.{String}
use Rattle.comp_model.specs.declared.Space.TheVariants as space
use Rattle.comp_model.specs.Core as core
use Rattle.comp_model.specs.Core.{CoreValue}
use Rattle.comp_model.specs.Model as m
use Rattle.comp_model.specs.Model.{Leaf, Node, row, Nodes, no_node, one_node, no_leaf, ◌▸◌, no_names, define, Defs, no_def, one_def, scope_of}
use Rattle.comp_model.specs.Rows.{is_primitive_code}
use Rattle.comp_model.specs.declared.row.Row.TheVariants as rows
use Rattle.comp_model.specs.Makers as make
use Rattle.wast_grammar.specs.Grammar as g
use Rattle.wast_grammar.specs.Grammar.{Test}
use Rattle.wast_grammar.specs.Classes as class
use Rattle.wast_grammar.specs.ValueRows.{is_group}
use Rattle.text_rules.specs.Made.{nodes_from}
use Rattle.text_rules.specs.Rule as r
use Rattle.text_rules.specs.Rule.{Rule}
use Rattle.text_rules.specs.Forms as form
use Rattle.text_rules.specs.ValueRules.{val, case_id, optional_val}
use Rattle.text_rules.specs.ReferenceRules.{item_path}
use Rattle.text_rules.specs.CoreTypeRules.{core_param, core_result}
use Rattle.text_rules.specs.InstanceRules as inst
use Rattle.print_table.specs.Tokens as printed
use Rattle.print_table.specs.Tokens.{PrintedToken}
use Rattle.print_table.specs.Lines as line
use Rattle.print_table.specs.Lines.{definition_in}
use Rattle.print_table.specs.TextOf as p
use Rattle.print_table.specs.TextOf.{assemble, leaf_tokens, leaves_tokens, node_tokens, nodes_tokens, groups_tokens, results_tokens, definitions_tokens, value_tokens}
use Rattle.print_table.specs.Printable as sh
use Rattle.print_table.specs.Printable.{IsText, Each, HoldsTypes, DefPrintable, DefsPrintable}
use Rattle.printed_text.proofs.Standing.{a_leaf}
use Rattle.printed_text.proofs.Prints.{Prints, Any, as_bin, as_tokens}
use Rattle.printed_text.proofs.Items.{Item, of_row, of_rows, of_rule, a_word, a_number, a_string, in_group}
use Rattle.printed_text.proofs.Follow.{goes}
use Rattle.printed_text.proofs.Lists.{nodes_list, nodes_back, an_entry, entries, a_part, groups_print, nodes_print, by_primitive}

-- ---- rules of entries

abbrev pub named_rule : String → Rule
named_rule x = form.group (form.entry rows.NamedType (form.word x (r.pair (r.keeps r.a_text) val)))

abbrev pub case_rule : Rule
case_rule = form.group (form.entry rows.CaseType (r.pair (r.placed false (class.keyword (codes "case"))) (r.pair case_id (r.pair (r.keeps r.a_text) optional_val))))

abbrev pub lone_rule : Rule
lone_rule = form.entry rows.LoneType val

abbrev pub name_rule : Rule
name_rule = form.entry rows.LoneName (r.keeps r.a_text)

abbrev pub param_rule : Rule
param_rule = form.group (form.word "param" core_param)

abbrev pub core_result_rule : Rule
core_result_rule = form.group (form.word "result" core_result)

abbrev pub core_types_rule : Rule
core_types_rule = form.group (form.word "type" (form.part_named (r.wraps r.an_entry (r.row g.CoreTypeDefinition))))

abbrev pub core_argument_rule : Rule
core_argument_rule = form.group (form.entry rows.CoreArgument inst.core_argument)

abbrev pub argument_rule : Rule
argument_rule = form.group (form.entry rows.Argument inst.argument)

abbrev pub core_export_rule : Rule
core_export_rule = form.group (form.entry rows.CoreBundleExport (form.word "export" (r.pair (r.keeps r.a_text) (form.group Rattle.text_rules.specs.ReferenceRules.core_item))))

abbrev pub start_rule : Rule
start_rule = form.group (form.entry rows.StartArgument (form.word "value" (item_path space.Value)))

-- ---- value types

value_word : (n : ℕ) → is_primitive_code n ≡ true → Prints (r.row g.Val) (leaf_tokens (m.number n) line.value) (a_leaf (m.number n)) Any
value_word = by_primitive (λ n. Prints (r.row g.Val) (leaf_tokens (m.number n) line.value) (a_leaf (m.number n)) Any)
    (goes 9 (r.row g.Val) (a_word "error-context" w_error_context ∷ []) refl)
    (goes 9 (r.row g.Val) (a_word "string" w_string ∷ []) refl)
    (goes 9 (r.row g.Val) (a_word "char" w_char ∷ []) refl)
    (goes 9 (r.row g.Val) (a_word "f64" w_f64 ∷ []) refl)
    (goes 9 (r.row g.Val) (a_word "f32" w_f32 ∷ []) refl)
    (goes 9 (r.row g.Val) (a_word "u64" w_u64 ∷ []) refl)
    (goes 9 (r.row g.Val) (a_word "s64" w_s64 ∷ []) refl)
    (goes 9 (r.row g.Val) (a_word "u32" w_u32 ∷ []) refl)
    (goes 9 (r.row g.Val) (a_word "s32" w_s32 ∷ []) refl)
    (goes 9 (r.row g.Val) (a_word "u16" w_u16 ∷ []) refl)
    (goes 9 (r.row g.Val) (a_word "s16" w_s16 ∷ []) refl)
    (goes 9 (r.row g.Val) (a_word "u8" w_u8 ∷ []) refl)
    (goes 9 (r.row g.Val) (a_word "s8" w_s8 ∷ []) refl)
    (goes 9 (r.row g.Val) (a_word "bool" w_bool ∷ []) refl)

pub value_print : (l : Leaf) → sh.ValuePrintable l → Prints (r.row g.Val) (leaf_tokens l line.value) (a_leaf l) Any
value_print l (sh.a_primitive {n} h) = value_word n h
value_print l (sh.an_index {i} h) = goes 9 (r.row g.Val) (a_number i h ∷ []) refl

-- the item of a value type
abbrev pub a_value : (l : Leaf) → sh.ValuePrintable l → Item
a_value l h = of_row g.Val (leaf_tokens l line.value) (a_leaf l) (value_print l h)

-- ---- core value types

pub core_print : (v : CoreValue) → sh.CorePrintable v → Prints (r.row g.CoreValue) (value_tokens v) (a_leaf (m.core_value v)) Any
core_print v sh.CorePrintable.i32 = goes 9 (r.row g.CoreValue) (a_word "i32" w_i32 ∷ []) refl
core_print v sh.CorePrintable.i64 = goes 9 (r.row g.CoreValue) (a_word "i64" w_i64 ∷ []) refl
core_print v sh.CorePrintable.f32 = goes 9 (r.row g.CoreValue) (a_word "f32" w_f32 ∷ []) refl
core_print v sh.CorePrintable.f64 = goes 9 (r.row g.CoreValue) (a_word "f64" w_f64 ∷ []) refl
core_print v sh.CorePrintable.v128 = goes 9 (r.row g.CoreValue) (a_word "v128" w_v128 ∷ []) refl
core_print v (sh.CorePrintable.func {b = true}) = goes 9 (r.row g.CoreValue) (a_word "funcref" w_funcref ∷ []) refl
core_print v (sh.CorePrintable.func {b = false}) = goes 9 (r.row g.CoreValue) (in_group (a_word "ref" w_ref ∷ a_word "func" w_func ∷ [])) refl
core_print v (sh.CorePrintable.extern {b = true}) = goes 9 (r.row g.CoreValue) (a_word "externref" w_externref ∷ []) refl
core_print v (sh.CorePrintable.extern {b = false}) = goes 9 (r.row g.CoreValue) (in_group (a_word "ref" w_ref ∷ a_word "extern" w_extern ∷ [])) refl
core_print v (sh.CorePrintable.index {b = true} {i} h) = goes 9 (r.row g.CoreValue) (in_group (a_word "ref" w_ref ∷ a_word "null" w_null ∷ a_number i h ∷ [])) refl
core_print v (sh.CorePrintable.index {b = false} {i} h) = goes 9 (r.row g.CoreValue) (in_group (a_word "ref" w_ref ∷ a_number i h ∷ [])) refl

abbrev pub a_core : (v : CoreValue) → sh.CorePrintable v → Item
a_core v h = of_row g.CoreValue (value_tokens v) (a_leaf (m.core_value v)) (core_print v h)

-- ---- entries

named_print : (x : String) → ((l : Leaf) (h : sh.ValuePrintable l) (t : core.Text) (k : IsText t) → Prints (named_rule x) (p.in_group x (node_tokens (make.named_type t l))) (an_entry (make.named_type t l)) Any) → (n : Node) → sh.NamedPrintable n → Prints (named_rule x) (p.in_group x (node_tokens n)) (an_entry n) Any
named_print x f n (sh.named {t} {l} k h) = f l h t k

pub field_print : (n : Node) → sh.NamedPrintable n → Prints (named_rule "field") (p.in_group "field" (node_tokens n)) (an_entry n) Any
field_print = named_print "field" (λ l h t k. goes 9 (named_rule "field") (in_group (a_word "field" w_field ∷ a_string t k ∷ a_value l h ∷ [])) refl)

pub param_print : (n : Node) → sh.NamedPrintable n → Prints (named_rule "param") (p.in_group "param" (node_tokens n)) (an_entry n) Any
param_print = named_print "param" (λ l h t k. goes 9 (named_rule "param") (in_group (a_word "param" w_param ∷ a_string t k ∷ a_value l h ∷ [])) refl)

pub case_print : (n : Node) → sh.CasePrintable n → Prints case_rule (p.in_group "case" (node_tokens n)) (an_entry n) Any
case_print n (sh.case {t} k sh.MaybePrintable.none) = goes 9 case_rule (in_group (a_word "case" w_case ∷ a_string t k ∷ [])) refl
case_print n (sh.case {t} k (sh.MaybePrintable.some {l} h)) = goes 9 case_rule (in_group (a_word "case" w_case ∷ a_string t k ∷ a_value l h ∷ [])) refl

pub lone_print : (n : Node) → sh.LonePrintable n → Prints lone_rule (node_tokens n) (an_entry n) Any
lone_print n (sh.lone {l} h) = entry_of l h
  where
    entry_of : (l : Leaf) → sh.ValuePrintable l → Prints lone_rule (leaf_tokens l line.value) (an_entry (make.lone_type l)) Any
    entry_of l (sh.a_primitive {n} h) = by_primitive (λ n. Prints lone_rule (leaf_tokens (m.number n) line.value) (an_entry (make.lone_type (m.number n))) Any)
        (goes 9 lone_rule (a_word "error-context" w_error_context ∷ []) refl)
        (goes 9 lone_rule (a_word "string" w_string ∷ []) refl)
        (goes 9 lone_rule (a_word "char" w_char ∷ []) refl)
        (goes 9 lone_rule (a_word "f64" w_f64 ∷ []) refl)
        (goes 9 lone_rule (a_word "f32" w_f32 ∷ []) refl)
        (goes 9 lone_rule (a_word "u64" w_u64 ∷ []) refl)
        (goes 9 lone_rule (a_word "s64" w_s64 ∷ []) refl)
        (goes 9 lone_rule (a_word "u32" w_u32 ∷ []) refl)
        (goes 9 lone_rule (a_word "s32" w_s32 ∷ []) refl)
        (goes 9 lone_rule (a_word "u16" w_u16 ∷ []) refl)
        (goes 9 lone_rule (a_word "s16" w_s16 ∷ []) refl)
        (goes 9 lone_rule (a_word "u8" w_u8 ∷ []) refl)
        (goes 9 lone_rule (a_word "s8" w_s8 ∷ []) refl)
        (goes 9 lone_rule (a_word "bool" w_bool ∷ []) refl)
        n h
    entry_of l (sh.an_index {i} h) = goes 9 lone_rule (a_number i h ∷ []) refl

pub name_print : (n : Node) → sh.NamePrintable n → Prints name_rule (node_tokens n) (an_entry n) Any
name_print n (sh.name {t} k) = goes 9 name_rule (a_string t k ∷ []) refl

pub core_param_print : (n : Node) → sh.CoreValuePrintable n → Prints param_rule (p.in_group "param" (node_tokens n)) (an_entry n) Any
core_param_print n (sh.a_value {v} h) = goes 9 param_rule (in_group (a_word "param" w_param ∷ a_core v h ∷ [])) refl

pub core_result_print : (n : Node) → sh.CoreValuePrintable n → Prints core_result_rule (p.in_group "result" (node_tokens n)) (an_entry n) Any
core_result_print n (sh.a_value {v} h) = goes 9 core_result_rule (in_group (a_word "result" w_result ∷ a_core v h ∷ [])) refl

-- the lists of a core function type
abbrev pub core_params : (ps : Nodes) → Each sh.CoreValuePrintable ps → Item
core_params ps h = of_rule (r.many (is_group "param") param_rule) (groups_tokens "param" ps) (entries ps) (groups_print sh.CoreValuePrintable (is_group "param") param_rule "param" core_param_print ps h)

abbrev pub core_results : (rs : Nodes) → Each sh.CoreValuePrintable rs → Item
core_results rs h = of_rule (r.many (is_group "result") core_result_rule) (groups_tokens "result" rs) (entries rs) (groups_print sh.CoreValuePrintable (is_group "result") core_result_rule "result" core_result_print rs h)

abbrev pub core_func : (ps rs : Nodes) → Each sh.CoreValuePrintable ps → Each sh.CoreValuePrintable rs → List Item
core_func ps rs h k = in_group (a_word "func" w_func ∷ core_params ps h ∷ core_results rs k ∷ [])

pub core_type_print : (n : Node) → sh.CoreFunctionPrintable n → Prints core_types_rule (p.in_group "type" (node_tokens n)) (a_part n) Any
core_type_print n (sh.function {ps} {rs} h k) =
    as_tokens (sym (ap (λ l. printed.opening ∷ printed.word (codes "type") ∷ printed.opening ∷ printed.word (codes "func") ∷ l) (append_assoc (groups_tokens "param" ps) (groups_tokens "result" rs ++ printed.closing ∷ []) (printed.closing ∷ []) ∙ ap (λ l. groups_tokens "param" ps ++ l) (append_assoc (groups_tokens "result" rs) (printed.closing ∷ []) (printed.closing ∷ [])))))
    (as_bin (ap (λ q. a_part (make.core_function_type q (nodes_from (nodes_list rs)))) (nodes_back ps) ∙ ap (λ q. a_part (make.core_function_type ps q)) (nodes_back rs))
    (goes 9 core_types_rule (in_group (a_word "type" w_type ∷ core_func ps rs h k)) refl))

pub core_argument_print : (n : Node) → sh.CoreArgumentPrintable n → Prints core_argument_rule (p.in_group "with" (node_tokens n)) (an_entry n) Any
core_argument_print n (sh.CoreArgumentPrintable.with {t} {i} k h) = goes 9 core_argument_rule (in_group (a_word "with" w_with ∷ a_string t k ∷ in_group (a_word "instance" w_instance ∷ a_number i h ∷ []))) refl

pub core_export_print : (n : Node) → sh.CoreExportPrintable n → Prints core_export_rule (p.in_group "export" (node_tokens n)) (an_entry n) Any
core_export_print n (sh.CoreExportPrintable.export {t} {s} {i} k sh.CoreKind.func h) = goes 9 core_export_rule (in_group (a_word "export" w_export ∷ a_string t k ∷ in_group (a_word "func" w_func ∷ a_number i h ∷ []))) refl
core_export_print n (sh.CoreExportPrintable.export {t} {s} {i} k sh.CoreKind.table h) = goes 9 core_export_rule (in_group (a_word "export" w_export ∷ a_string t k ∷ in_group (a_word "table" w_table ∷ a_number i h ∷ []))) refl
core_export_print n (sh.CoreExportPrintable.export {t} {s} {i} k sh.CoreKind.memory h) = goes 9 core_export_rule (in_group (a_word "export" w_export ∷ a_string t k ∷ in_group (a_word "memory" w_memory ∷ a_number i h ∷ []))) refl
core_export_print n (sh.CoreExportPrintable.export {t} {s} {i} k sh.CoreKind.global h) = goes 9 core_export_rule (in_group (a_word "export" w_export ∷ a_string t k ∷ in_group (a_word "global" w_global ∷ a_number i h ∷ []))) refl
core_export_print n (sh.CoreExportPrintable.export {t} {s} {i} k sh.CoreKind.a_tag h) = goes 9 core_export_rule (in_group (a_word "export" w_export ∷ a_string t k ∷ in_group (a_word "tag" w_tag ∷ a_number i h ∷ []))) refl

pub argument_print : (n : Node) → sh.ArgumentPrintable n → Prints argument_rule (p.in_group "with" (node_tokens n)) (an_entry n) Any
argument_print n (sh.ArgumentPrintable.with {t} {s} {i} k sh.Kind.core_module h) = goes 9 argument_rule (in_group (a_word "with" w_with ∷ a_string t k ∷ in_group (a_word "core" w_core ∷ a_word "module" w_module ∷ a_number i h ∷ []))) refl
argument_print n (sh.ArgumentPrintable.with {t} {s} {i} k sh.Kind.func h) = goes 9 argument_rule (in_group (a_word "with" w_with ∷ a_string t k ∷ in_group (a_word "func" w_func ∷ a_number i h ∷ []))) refl
argument_print n (sh.ArgumentPrintable.with {t} {s} {i} k sh.Kind.value h) = goes 9 argument_rule (in_group (a_word "with" w_with ∷ a_string t k ∷ in_group (a_word "value" w_value ∷ a_number i h ∷ []))) refl
argument_print n (sh.ArgumentPrintable.with {t} {s} {i} k sh.Kind.type h) = goes 9 argument_rule (in_group (a_word "with" w_with ∷ a_string t k ∷ in_group (a_word "type" w_type ∷ a_number i h ∷ []))) refl
argument_print n (sh.ArgumentPrintable.with {t} {s} {i} k sh.Kind.component h) = goes 9 argument_rule (in_group (a_word "with" w_with ∷ a_string t k ∷ in_group (a_word "component" w_component ∷ a_number i h ∷ []))) refl
argument_print n (sh.ArgumentPrintable.with {t} {s} {i} k sh.Kind.instance h) = goes 9 argument_rule (in_group (a_word "with" w_with ∷ a_string t k ∷ in_group (a_word "instance" w_instance ∷ a_number i h ∷ []))) refl

pub export_print : (n : Node) → sh.ExportPrintable n → Prints (form.group inst.bundle_export) (p.in_group "export" (node_tokens n)) (an_entry n) Any
export_print n (sh.ExportPrintable.export {t} {s} {i} k sh.Kind.core_module h) = goes 9 (form.group inst.bundle_export) (in_group (a_word "export" w_export ∷ a_string t k ∷ in_group (a_word "core" w_core ∷ a_word "module" w_module ∷ a_number i h ∷ []))) refl
export_print n (sh.ExportPrintable.export {t} {s} {i} k sh.Kind.func h) = goes 9 (form.group inst.bundle_export) (in_group (a_word "export" w_export ∷ a_string t k ∷ in_group (a_word "func" w_func ∷ a_number i h ∷ []))) refl
export_print n (sh.ExportPrintable.export {t} {s} {i} k sh.Kind.value h) = goes 9 (form.group inst.bundle_export) (in_group (a_word "export" w_export ∷ a_string t k ∷ in_group (a_word "value" w_value ∷ a_number i h ∷ []))) refl
export_print n (sh.ExportPrintable.export {t} {s} {i} k sh.Kind.type h) = goes 9 (form.group inst.bundle_export) (in_group (a_word "export" w_export ∷ a_string t k ∷ in_group (a_word "type" w_type ∷ a_number i h ∷ []))) refl
export_print n (sh.ExportPrintable.export {t} {s} {i} k sh.Kind.component h) = goes 9 (form.group inst.bundle_export) (in_group (a_word "export" w_export ∷ a_string t k ∷ in_group (a_word "component" w_component ∷ a_number i h ∷ []))) refl
export_print n (sh.ExportPrintable.export {t} {s} {i} k sh.Kind.instance h) = goes 9 (form.group inst.bundle_export) (in_group (a_word "export" w_export ∷ a_string t k ∷ in_group (a_word "instance" w_instance ∷ a_number i h ∷ []))) refl

pub start_argument_print : (n : Node) → sh.StartArgumentPrintable n → Prints start_rule (p.in_group "value" (node_tokens n)) (an_entry n) Any
start_argument_print n (sh.argument {i} h) = goes 9 start_rule (in_group (a_word "value" w_value ∷ a_number i h ∷ [])) refl

pub option_print : (n : Node) → sh.OptionPrintable n → Prints (r.row g.CanonicalOption) (node_tokens n) (an_entry n) Any
option_print n sh.OptionPrintable.utf8 = goes 9 (r.row g.CanonicalOption) (a_word "string-encoding=utf8" w_string_encoding_utf8 ∷ []) refl
option_print n sh.OptionPrintable.utf16 = goes 9 (r.row g.CanonicalOption) (a_word "string-encoding=utf16" w_string_encoding_utf16 ∷ []) refl
option_print n sh.OptionPrintable.latin1_utf16 = goes 9 (r.row g.CanonicalOption) (a_word "string-encoding=latin1+utf16" w_string_encoding_latin1_utf16 ∷ []) refl
option_print n sh.OptionPrintable.async = goes 9 (r.row g.CanonicalOption) (a_word "async" w_async ∷ []) refl
option_print n (sh.OptionPrintable.memory {i} h) = goes 9 (r.row g.CanonicalOption) (in_group (a_word "memory" w_memory ∷ a_number i h ∷ [])) refl
option_print n (sh.OptionPrintable.realloc {i} h) = goes 9 (r.row g.CanonicalOption) (in_group (a_word "realloc" w_realloc ∷ a_number i h ∷ [])) refl
option_print n (sh.OptionPrintable.post_return {i} h) = goes 9 (r.row g.CanonicalOption) (in_group (a_word "post-return" w_post_return ∷ a_number i h ∷ [])) refl
option_print n (sh.OptionPrintable.callback {i} h) = goes 9 (r.row g.CanonicalOption) (in_group (a_word "callback" w_callback ∷ a_number i h ∷ [])) refl

abbrev pub the_options : (ns : Nodes) → Each sh.OptionPrintable ns → Item
the_options ns h = of_rows g.CanonicalOption (nodes_tokens ns) (entries ns) (λ t. nodes_print sh.OptionPrintable t (r.row g.CanonicalOption) option_print ns h)

pub description_print : (n : Node) → sh.DescriptionPrintable n → Prints (r.row g.NamelessSignature) (node_tokens n) (a_leaf (m.node n)) Any
description_print n (sh.module_of {i} h) = goes 9 (r.row g.NamelessSignature) (in_group (a_word "core" w_core ∷ a_word "module" w_module ∷ in_group (a_word "type" w_type ∷ a_number i h ∷ []))) refl
description_print n (sh.func_of {i} h) = goes 9 (r.row g.NamelessSignature) (in_group (a_word "func" w_func ∷ in_group (a_word "type" w_type ∷ a_number i h ∷ []))) refl
description_print n (sh.component_of {i} h) = goes 9 (r.row g.NamelessSignature) (in_group (a_word "component" w_component ∷ in_group (a_word "type" w_type ∷ a_number i h ∷ []))) refl
description_print n (sh.instance_of {i} h) = goes 9 (r.row g.NamelessSignature) (in_group (a_word "instance" w_instance ∷ in_group (a_word "type" w_type ∷ a_number i h ∷ []))) refl
description_print n (sh.equal_to {i} h) = goes 9 (r.row g.NamelessSignature) (in_group (a_word "type" w_type ∷ in_group (a_word "eq" w_eq ∷ a_number i h ∷ []))) refl
description_print n sh.resource = goes 9 (r.row g.NamelessSignature) (in_group (a_word "type" w_type ∷ in_group (a_word "sub" w_sub ∷ a_word "resource" w_resource ∷ []))) refl
