-- Each definition that has a text is spelled as it is printed, by the rule of its scope, which makes it of that.
use Rattle.printed_text.proofs.GoodWords.{w_alias, w_async, w_backpressure_dec, w_backpressure_inc, w_bool, w_borrow, w_canon, w_char, w_component, w_context_get, w_context_set, w_core, w_dtor, w_enum, w_eq, w_error, w_error_context, w_error_context_debug_message, w_error_context_drop, w_error_context_new, w_export, w_extern, w_externref, w_f32, w_f64, w_flags, w_func, w_funcref, w_future, w_future_cancel_read, w_future_cancel_write, w_future_drop_readable, w_future_drop_writable, w_future_new, w_future_read, w_future_write, w_global, w_i32, w_i64, w_import, w_instance, w_instantiate, w_lift, w_list, w_lower, w_memory, w_module, w_mut, w_null, w_option, w_outer, w_own, w_rec, w_record, w_ref, w_rep, w_resource, w_resource_drop, w_resource_new, w_resource_rep, w_result, w_s16, w_s32, w_s64, w_s8, w_start, w_stream, w_stream_cancel_read, w_stream_cancel_write, w_stream_drop_readable, w_stream_drop_writable, w_stream_new, w_stream_read, w_stream_write, w_string, w_sub, w_subtask_cancel, w_subtask_drop, w_table, w_tag, w_task_cancel, w_task_return, w_thread_available_parallelism, w_thread_spawn_indirect, w_thread_spawn_ref, w_tuple, w_type, w_u16, w_u32, w_u64, w_u8, w_v128, w_value, w_variant, w_waitable_join, w_waitable_set_drop, w_waitable_set_new}
use Rattle.std.proofs.Common.{◌≡◌, ℕ, suc, Bool, true, false, List, [], ◌∷◌, ◌++◌, None, Some, refl, sym, ap, ◌∙◌, append_assoc, codes}
use Prim.Native.String.{String}
use Rattle.comp_model.specs.Core as core
use Rattle.comp_model.specs.Core.{CoreValue}
use Rattle.comp_model.specs.Model as m
use Rattle.comp_model.specs.declared.row.ScopeKind.TheVariants as kinds
use Rattle.comp_model.specs.Model.{Leaf, Node, row, Nodes, no_node, one_node, no_leaf, ◌▸◌, no_names, define, Defs, no_def, one_def, scope_of}
use Rattle.comp_model.specs.declared.row.ScopeKind.{ScopeKind}
use Rattle.comp_model.specs.Rows.{is_primitive_code}
use Rattle.comp_model.specs.declared.row.Row.TheVariants as rows
use Rattle.comp_model.specs.Makers as make
use Rattle.wast_grammar.specs.Grammar as g
use Rattle.wast_grammar.specs.Grammar.{Test}
use Rattle.wast_grammar.specs.Classes as class
use Rattle.wast_grammar.specs.ValueRows.{is_group}
use Rattle.text_rules.specs.Made.{nodes_from, defs_from}
use Rattle.text_rules.specs.Rule as r
use Rattle.text_rules.specs.Rule.{Rule}
use Rattle.text_rules.specs.Forms as form
use Rattle.text_rules.specs.Table.{table}
use Rattle.text_rules.specs.FieldRules.{component_item}
use Rattle.text_rules.specs.CoreTypeRules.{module_type_item}
use Rattle.text_rules.specs.TypeRules.{component_type_item, instance_type_item}
use Rattle.text_rules.specs.InstanceRules as inst
use Rattle.print_table.specs.Tokens as printed
use Rattle.print_table.specs.Tokens.{PrintedToken}
use Rattle.print_table.specs.Lines as line
use Rattle.print_table.specs.Lines.{definition_in}
use Rattle.print_table.specs.TextOf as p
use Rattle.print_table.specs.TextOf.{assemble, leaf_tokens, leaves_tokens, node_tokens, nodes_tokens, groups_tokens, results_tokens, definitions_tokens, value_tokens}
use Rattle.print_table.specs.Printable as sh
use Rattle.print_table.specs.Printable.{IsText, Each, HoldsTypes, DefPrintable, DefsPrintable}
use Rattle.printed_text.proofs.Opened.{leaf_deep}
use Rattle.printed_text.proofs.Standing.{Bin, a_leaf}
use Rattle.printed_text.proofs.Prints.{Prints, Any, as_bin, as_tokens, p_none, p_more}
use Rattle.printed_text.proofs.Items.{Item, token, open_token, close_token, of_row, of_rows, of_defs, of_rule, test_on, test_is, flat, a_word, a_number, a_string, in_group}
use Rattle.printed_text.proofs.Follow.{goes}
use Rattle.printed_text.proofs.Lists.{nodes_list, defs_list, nodes_back, defs_back, an_entry, entries, some_parts, groups_print, parts_print, nodes_print, result_rule, ids, results_print, a_def, a_def_as, some_defs, by_primitive}
use Rattle.printed_text.specs.ReadTokens.{IsGood}
use Rattle.printed_text.proofs.Prints.{p_row, Tells, Stands}
use Rattle.std.proofs.Common.{subst}
use Rattle.wast_grammar.specs.TypeRows.{is_inline_export}
use Rattle.wast_grammar.specs.NameRows.{is_inline_import}
use Rattle.std.specs.Str.{is_utf8}
use Rattle.printed_text.proofs.EntriesPrinted.{named_rule, case_rule, lone_rule, name_rule, core_types_rule, core_argument_rule, argument_rule, core_export_rule, start_rule, a_value, a_core, field_print, param_print, case_print, lone_print, name_print, core_func, core_type_print, core_argument_print, core_export_print, argument_print, export_print, start_argument_print, the_options, description_print}

-- the row of a definition, by the kind of the scope
abbrev pub item_row : ScopeKind → g.Row
item_row kinds.Component = g.ComponentItem
item_row kinds.ComponentType = g.ComponentTypeItem
item_row kinds.InstanceType = g.InstanceTypeItem
item_row kinds.ModuleType = g.ModuleTypeItem

abbrev pub item_rule : ScopeKind → Rule
item_rule k = table (item_row k)

-- what is printed of a definition
abbrev pub definition_tokens : ScopeKind → Node → List PrintedToken
definition_tokens k (row t ls) = assemble (definition_in k t) (leaves_tokens ls)

abbrev built_in : (x : String) → IsGood (printed.word (codes x)) → List Item → List Item
built_in x u ps = in_group (a_word "canon" w_canon ∷ a_word x u ∷ (ps ++ in_group (a_word "core" w_core ∷ a_word "func" w_func ∷ [])))

abbrev a_type : List Item → List Item
a_type ps = in_group (a_word "type" w_type ∷ ps)

abbrev a_list : (P : Node → Type 0) (t : Test) (q : Rule) (x : String) → ((n : Node) → P n → Prints q (p.in_group x (node_tokens n)) (an_entry n) Any) → (ns : Nodes) → Each P ns → Item
a_list P t q x f ns h = of_rule (r.many t q) (groups_tokens x ns) (entries ns) (groups_print P t q x f ns h)

abbrev bare_list : (P : Node → Type 0) (q : Rule) → ((n : Node) → P n → Prints q (node_tokens n) (an_entry n) Any) → (ns : Nodes) → Each P ns → Item
bare_list P q f ns h = of_rule (r.many g.going q) (nodes_tokens ns) (entries ns) (nodes_print P g.going q f ns h)

-- the annotation of a custom section
abbrev note : Item
note = token (printed.note (codes "(@custom")) (class.annotation (codes "(@custom")) refl refl

-- what stands in parentheses, and the tokens behind it
tail_back : (f : List PrintedToken → List PrintedToken) (v rest : List PrintedToken) → f (v ++ printed.closing ∷ rest) ≡ f ((v ++ printed.closing ∷ []) ++ rest)
tail_back f v rest = ap f (sym (append_assoc v (printed.closing ∷ []) rest))

tail_back2 : (f : List PrintedToken → List PrintedToken) (v rest : List PrintedToken) → f (v ++ printed.closing ∷ printed.closing ∷ rest) ≡ f ((v ++ printed.closing ∷ printed.closing ∷ []) ++ rest)
tail_back2 f v rest = ap f (sym (append_assoc v (printed.closing ∷ printed.closing ∷ []) rest))

-- a definition with a list of nodes
with_nodes : {q : Rule} {xs : List PrintedToken} (f : Nodes → Node) (ns : Nodes) → Prints q xs (a_def (f (nodes_from (nodes_list ns)))) Any → Prints q xs (a_def (f ns)) Any
with_nodes {q} {xs} f ns p = as_bin (ap (λ k. a_def (f k)) (nodes_back ns)) p

with_defs : {q : Rule} {xs : List PrintedToken} (f : Defs → Node) (ds : Defs) → Prints q xs (a_def_as (f ds) (f (defs_from (defs_list ds)))) Any → Prints q xs (a_def (f ds)) Any
with_defs {q} {xs} f ds p = as_bin (ap (λ k. a_def_as (f ds) (f k)) (defs_back ds)) p

-- a definition that has one value type as its part, which holds nothing that is checked
abbrev a_listed : (ℕ → List ℕ → List ℕ) → Node → Bin
a_listed f n = record { rows = []; leaves = []; nodes = []; defs = define no_names n ∷ []; count = 0; walk = record { level = λ d. d; deep = λ d ks. suc (suc d) ∷ f (suc (suc d)) ks } }

value_still : (l : Leaf) → sh.ValuePrintable l → (λ (d : ℕ) (ks : List ℕ). ks) ≡ leaf_deep l
value_still l (sh.a_primitive h) = refl
value_still l (sh.an_index h) = refl

with_value : {q : Rule} {xs : List PrintedToken} (l : Leaf) → sh.ValuePrintable l → (n : Node) → Prints q xs (a_listed (λ d ks. ks) n) Any → Prints q xs (a_listed (leaf_deep l) n) Any
with_value {q} {xs} l h n p = as_bin (ap (λ f. a_listed f n) (value_still l h)) p

primitive_in_a_component : (n : ℕ) → is_primitive_code n ≡ true → Prints component_item (definition_tokens kinds.Component (make.primitive n)) (a_def (make.primitive n)) Any
primitive_in_a_component = by_primitive (λ n. Prints component_item (definition_tokens kinds.Component (make.primitive n)) (a_def (make.primitive n)) Any)
    (goes 12 component_item (a_type (a_word "error-context" w_error_context ∷ [])) refl)
    (goes 12 component_item (a_type (a_word "string" w_string ∷ [])) refl)
    (goes 12 component_item (a_type (a_word "char" w_char ∷ [])) refl)
    (goes 12 component_item (a_type (a_word "f64" w_f64 ∷ [])) refl)
    (goes 12 component_item (a_type (a_word "f32" w_f32 ∷ [])) refl)
    (goes 12 component_item (a_type (a_word "u64" w_u64 ∷ [])) refl)
    (goes 12 component_item (a_type (a_word "s64" w_s64 ∷ [])) refl)
    (goes 12 component_item (a_type (a_word "u32" w_u32 ∷ [])) refl)
    (goes 12 component_item (a_type (a_word "s32" w_s32 ∷ [])) refl)
    (goes 12 component_item (a_type (a_word "u16" w_u16 ∷ [])) refl)
    (goes 12 component_item (a_type (a_word "s16" w_s16 ∷ [])) refl)
    (goes 12 component_item (a_type (a_word "u8" w_u8 ∷ [])) refl)
    (goes 12 component_item (a_type (a_word "s8" w_s8 ∷ [])) refl)
    (goes 12 component_item (a_type (a_word "bool" w_bool ∷ [])) refl)

primitive_in_a_component_type : (n : ℕ) → is_primitive_code n ≡ true → Prints component_type_item (definition_tokens kinds.ComponentType (make.primitive n)) (a_def (make.primitive n)) Any
primitive_in_a_component_type = by_primitive (λ n. Prints component_type_item (definition_tokens kinds.ComponentType (make.primitive n)) (a_def (make.primitive n)) Any)
    (goes 12 component_type_item (a_type (a_word "error-context" w_error_context ∷ [])) refl)
    (goes 12 component_type_item (a_type (a_word "string" w_string ∷ [])) refl)
    (goes 12 component_type_item (a_type (a_word "char" w_char ∷ [])) refl)
    (goes 12 component_type_item (a_type (a_word "f64" w_f64 ∷ [])) refl)
    (goes 12 component_type_item (a_type (a_word "f32" w_f32 ∷ [])) refl)
    (goes 12 component_type_item (a_type (a_word "u64" w_u64 ∷ [])) refl)
    (goes 12 component_type_item (a_type (a_word "s64" w_s64 ∷ [])) refl)
    (goes 12 component_type_item (a_type (a_word "u32" w_u32 ∷ [])) refl)
    (goes 12 component_type_item (a_type (a_word "s32" w_s32 ∷ [])) refl)
    (goes 12 component_type_item (a_type (a_word "u16" w_u16 ∷ [])) refl)
    (goes 12 component_type_item (a_type (a_word "s16" w_s16 ∷ [])) refl)
    (goes 12 component_type_item (a_type (a_word "u8" w_u8 ∷ [])) refl)
    (goes 12 component_type_item (a_type (a_word "s8" w_s8 ∷ [])) refl)
    (goes 12 component_type_item (a_type (a_word "bool" w_bool ∷ [])) refl)

primitive_in_an_instance_type : (n : ℕ) → is_primitive_code n ≡ true → Prints instance_type_item (definition_tokens kinds.InstanceType (make.primitive n)) (a_def (make.primitive n)) Any
primitive_in_an_instance_type = by_primitive (λ n. Prints instance_type_item (definition_tokens kinds.InstanceType (make.primitive n)) (a_def (make.primitive n)) Any)
    (goes 12 instance_type_item (a_type (a_word "error-context" w_error_context ∷ [])) refl)
    (goes 12 instance_type_item (a_type (a_word "string" w_string ∷ [])) refl)
    (goes 12 instance_type_item (a_type (a_word "char" w_char ∷ [])) refl)
    (goes 12 instance_type_item (a_type (a_word "f64" w_f64 ∷ [])) refl)
    (goes 12 instance_type_item (a_type (a_word "f32" w_f32 ∷ [])) refl)
    (goes 12 instance_type_item (a_type (a_word "u64" w_u64 ∷ [])) refl)
    (goes 12 instance_type_item (a_type (a_word "s64" w_s64 ∷ [])) refl)
    (goes 12 instance_type_item (a_type (a_word "u32" w_u32 ∷ [])) refl)
    (goes 12 instance_type_item (a_type (a_word "s32" w_s32 ∷ [])) refl)
    (goes 12 instance_type_item (a_type (a_word "u16" w_u16 ∷ [])) refl)
    (goes 12 instance_type_item (a_type (a_word "s16" w_s16 ∷ [])) refl)
    (goes 12 instance_type_item (a_type (a_word "u8" w_u8 ∷ [])) refl)
    (goes 12 instance_type_item (a_type (a_word "s8" w_s8 ∷ [])) refl)
    (goes 12 instance_type_item (a_type (a_word "bool" w_bool ∷ [])) refl)

bundle_print : (n : Node) (ns : Nodes) → sh.ExportPrintable n → Each sh.ExportPrintable ns → Prints component_item (definition_tokens kinds.Component (make.bundle (one_node n ns))) (a_def (make.bundle (one_node n ns))) Any
bundle_print n ns (sh.ExportPrintable.export {t} {s} {i} e sh.Kind.core_module h) u = with_nodes (λ q. make.bundle (one_node n q)) ns (goes 12 component_item (in_group (a_word "instance" w_instance ∷ (in_group (a_word "export" w_export ∷ a_string t e ∷ in_group (a_word "core" w_core ∷ a_word "module" w_module ∷ a_number i h ∷ [])) ++ a_list sh.ExportPrintable g.going (form.group inst.bundle_export) "export" export_print ns u ∷ []))) refl)
bundle_print n ns (sh.ExportPrintable.export {t} {s} {i} e sh.Kind.func h) u = with_nodes (λ q. make.bundle (one_node n q)) ns (goes 12 component_item (in_group (a_word "instance" w_instance ∷ (in_group (a_word "export" w_export ∷ a_string t e ∷ in_group (a_word "func" w_func ∷ a_number i h ∷ [])) ++ a_list sh.ExportPrintable g.going (form.group inst.bundle_export) "export" export_print ns u ∷ []))) refl)
bundle_print n ns (sh.ExportPrintable.export {t} {s} {i} e sh.Kind.value h) u = with_nodes (λ q. make.bundle (one_node n q)) ns (goes 12 component_item (in_group (a_word "instance" w_instance ∷ (in_group (a_word "export" w_export ∷ a_string t e ∷ in_group (a_word "value" w_value ∷ a_number i h ∷ [])) ++ a_list sh.ExportPrintable g.going (form.group inst.bundle_export) "export" export_print ns u ∷ []))) refl)
bundle_print n ns (sh.ExportPrintable.export {t} {s} {i} e sh.Kind.type h) u = with_nodes (λ q. make.bundle (one_node n q)) ns (goes 12 component_item (in_group (a_word "instance" w_instance ∷ (in_group (a_word "export" w_export ∷ a_string t e ∷ in_group (a_word "type" w_type ∷ a_number i h ∷ [])) ++ a_list sh.ExportPrintable g.going (form.group inst.bundle_export) "export" export_print ns u ∷ []))) refl)
bundle_print n ns (sh.ExportPrintable.export {t} {s} {i} e sh.Kind.component h) u = with_nodes (λ q. make.bundle (one_node n q)) ns (goes 12 component_item (in_group (a_word "instance" w_instance ∷ (in_group (a_word "export" w_export ∷ a_string t e ∷ in_group (a_word "component" w_component ∷ a_number i h ∷ [])) ++ a_list sh.ExportPrintable g.going (form.group inst.bundle_export) "export" export_print ns u ∷ []))) refl)
bundle_print n ns (sh.ExportPrintable.export {t} {s} {i} e sh.Kind.instance h) u = with_nodes (λ q. make.bundle (one_node n q)) ns (goes 12 component_item (in_group (a_word "instance" w_instance ∷ (in_group (a_word "export" w_export ∷ a_string t e ∷ in_group (a_word "instance" w_instance ∷ a_number i h ∷ [])) ++ a_list sh.ExportPrintable g.going (form.group inst.bundle_export) "export" export_print ns u ∷ []))) refl)

front_tokens : (k : ScopeKind) (ns : m.Names) (n : Node) (ds : Defs) → definition_tokens k n ++ definitions_tokens k ds ≡ definitions_tokens k (one_def (define ns n) ds)
front_tokens k ns (row t ls) ds = refl

-- how a definition begins: with no inline export and no inline import
record Head (xs : List PrintedToken) : Type 0 where
  known : List Item
  rest : List PrintedToken
  split : xs ≡ flat known ++ rest
  exports : test_on is_inline_export known ≡ Some false
  imports : test_on is_inline_import known ≡ Some false

import_head : (n : Node) (t : core.Text) (e : IsText t) → sh.DescriptionPrintable n → Head (definition_tokens kinds.Component (make.import_row (m.text t) n))
import_head n t e (sh.module_of h) = record { known = open_token ∷ a_word "import" w_import ∷ a_string t e ∷ open_token ∷ []; rest = _; split = refl; exports = refl; imports = refl }
import_head n t e (sh.func_of h) = record { known = open_token ∷ a_word "import" w_import ∷ a_string t e ∷ open_token ∷ []; rest = _; split = refl; exports = refl; imports = refl }
import_head n t e (sh.component_of h) = record { known = open_token ∷ a_word "import" w_import ∷ a_string t e ∷ open_token ∷ []; rest = _; split = refl; exports = refl; imports = refl }
import_head n t e (sh.instance_of h) = record { known = open_token ∷ a_word "import" w_import ∷ a_string t e ∷ open_token ∷ []; rest = _; split = refl; exports = refl; imports = refl }
import_head n t e (sh.equal_to h) = record { known = open_token ∷ a_word "import" w_import ∷ a_string t e ∷ open_token ∷ []; rest = _; split = refl; exports = refl; imports = refl }
import_head n t e sh.resource = record { known = open_token ∷ a_word "import" w_import ∷ a_string t e ∷ open_token ∷ []; rest = _; split = refl; exports = refl; imports = refl }

def_head : (n : Node) → DefPrintable kinds.Component n → Head (definition_tokens kinds.Component n)
def_head n (sh.primitive hk h) = record { known = open_token ∷ a_word "type" w_type ∷ []; rest = _; split = refl; exports = refl; imports = refl }
def_head n (sh.record_type hk h) = record { known = open_token ∷ a_word "type" w_type ∷ []; rest = _; split = refl; exports = refl; imports = refl }
def_head n (sh.variant_type hk h) = record { known = open_token ∷ a_word "type" w_type ∷ []; rest = _; split = refl; exports = refl; imports = refl }
def_head n (sh.list_type hk h) = record { known = open_token ∷ a_word "type" w_type ∷ []; rest = _; split = refl; exports = refl; imports = refl }
def_head n (sh.tuple_type hk h) = record { known = open_token ∷ a_word "type" w_type ∷ []; rest = _; split = refl; exports = refl; imports = refl }
def_head n (sh.flags_type hk h) = record { known = open_token ∷ a_word "type" w_type ∷ []; rest = _; split = refl; exports = refl; imports = refl }
def_head n (sh.enum_type hk h) = record { known = open_token ∷ a_word "type" w_type ∷ []; rest = _; split = refl; exports = refl; imports = refl }
def_head n (sh.option_type hk h) = record { known = open_token ∷ a_word "type" w_type ∷ []; rest = _; split = refl; exports = refl; imports = refl }
def_head n (sh.own_type hk h) = record { known = open_token ∷ a_word "type" w_type ∷ []; rest = _; split = refl; exports = refl; imports = refl }
def_head n (sh.borrow_type hk h) = record { known = open_token ∷ a_word "type" w_type ∷ []; rest = _; split = refl; exports = refl; imports = refl }
def_head n (sh.stream_type hk h) = record { known = open_token ∷ a_word "type" w_type ∷ []; rest = _; split = refl; exports = refl; imports = refl }
def_head n (sh.future_type hk h) = record { known = open_token ∷ a_word "type" w_type ∷ []; rest = _; split = refl; exports = refl; imports = refl }
def_head n (sh.component_type hk h) = record { known = open_token ∷ a_word "type" w_type ∷ []; rest = _; split = refl; exports = refl; imports = refl }
def_head n (sh.instance_type hk h) = record { known = open_token ∷ a_word "type" w_type ∷ []; rest = _; split = refl; exports = refl; imports = refl }
def_head n (sh.fixed_length_list_type hk h u) = record { known = open_token ∷ a_word "type" w_type ∷ []; rest = _; split = refl; exports = refl; imports = refl }
def_head n (sh.result_type hk h u) = record { known = open_token ∷ a_word "type" w_type ∷ []; rest = _; split = refl; exports = refl; imports = refl }
def_head n (sh.plain_function hk h u) = record { known = open_token ∷ a_word "type" w_type ∷ []; rest = _; split = refl; exports = refl; imports = refl }
def_head n (sh.async_function hk h u) = record { known = open_token ∷ a_word "type" w_type ∷ []; rest = _; split = refl; exports = refl; imports = refl }
def_head n (sh.resource_type hk h u) = record { known = open_token ∷ a_word "type" w_type ∷ []; rest = _; split = refl; exports = refl; imports = refl }
def_head n (sh.core_function_type hk h u) = record { known = open_token ∷ a_word "core" w_core ∷ []; rest = _; split = refl; exports = refl; imports = refl }
def_head n (sh.core_rec hk h) = record { known = open_token ∷ a_word "core" w_core ∷ []; rest = _; split = refl; exports = refl; imports = refl }
def_head n (sh.module_type hk h) = record { known = open_token ∷ a_word "core" w_core ∷ []; rest = _; split = refl; exports = refl; imports = refl }
def_head n (sh.core_instantiate h u) = record { known = open_token ∷ a_word "core" w_core ∷ []; rest = _; split = refl; exports = refl; imports = refl }
def_head n (sh.core_bundle h) = record { known = open_token ∷ a_word "core" w_core ∷ []; rest = _; split = refl; exports = refl; imports = refl }
def_head n (sh.alias_export hk h u v) = record { known = open_token ∷ a_word "alias" w_alias ∷ []; rest = _; split = refl; exports = refl; imports = refl }
def_head n (sh.alias_core_export hk h u v) = record { known = open_token ∷ a_word "alias" w_alias ∷ []; rest = _; split = refl; exports = refl; imports = refl }
def_head n (sh.alias_outer hk h u v) = record { known = open_token ∷ a_word "alias" w_alias ∷ []; rest = _; split = refl; exports = refl; imports = refl }
def_head n (sh.DefPrintable.component h) = record { known = open_token ∷ a_word "component" w_component ∷ []; rest = _; split = refl; exports = refl; imports = refl }
def_head n (sh.instantiate h u) = record { known = open_token ∷ a_word "instance" w_instance ∷ []; rest = _; split = refl; exports = refl; imports = refl }
def_head n (sh.bundle h) = record { known = open_token ∷ a_word "instance" w_instance ∷ []; rest = _; split = refl; exports = refl; imports = refl }
def_head n (sh.lift h u o) = record { known = open_token ∷ a_word "canon" w_canon ∷ []; rest = _; split = refl; exports = refl; imports = refl }
def_head n (sh.lower h o) = record { known = open_token ∷ a_word "canon" w_canon ∷ []; rest = _; split = refl; exports = refl; imports = refl }
def_head n sh.task_cancel = record { known = open_token ∷ a_word "canon" w_canon ∷ []; rest = _; split = refl; exports = refl; imports = refl }
def_head n sh.subtask_drop = record { known = open_token ∷ a_word "canon" w_canon ∷ []; rest = _; split = refl; exports = refl; imports = refl }
def_head n sh.error_context_drop = record { known = open_token ∷ a_word "canon" w_canon ∷ []; rest = _; split = refl; exports = refl; imports = refl }
def_head n sh.waitable_set_new = record { known = open_token ∷ a_word "canon" w_canon ∷ []; rest = _; split = refl; exports = refl; imports = refl }
def_head n sh.waitable_set_drop = record { known = open_token ∷ a_word "canon" w_canon ∷ []; rest = _; split = refl; exports = refl; imports = refl }
def_head n sh.waitable_join = record { known = open_token ∷ a_word "canon" w_canon ∷ []; rest = _; split = refl; exports = refl; imports = refl }
def_head n sh.backpressure_inc = record { known = open_token ∷ a_word "canon" w_canon ∷ []; rest = _; split = refl; exports = refl; imports = refl }
def_head n sh.backpressure_dec = record { known = open_token ∷ a_word "canon" w_canon ∷ []; rest = _; split = refl; exports = refl; imports = refl }
def_head n sh.thread_available_parallelism = record { known = open_token ∷ a_word "canon" w_canon ∷ []; rest = _; split = refl; exports = refl; imports = refl }
def_head n (sh.resource_new h) = record { known = open_token ∷ a_word "canon" w_canon ∷ []; rest = _; split = refl; exports = refl; imports = refl }
def_head n (sh.resource_drop h) = record { known = open_token ∷ a_word "canon" w_canon ∷ []; rest = _; split = refl; exports = refl; imports = refl }
def_head n (sh.resource_rep h) = record { known = open_token ∷ a_word "canon" w_canon ∷ []; rest = _; split = refl; exports = refl; imports = refl }
def_head n (sh.stream_new h) = record { known = open_token ∷ a_word "canon" w_canon ∷ []; rest = _; split = refl; exports = refl; imports = refl }
def_head n (sh.stream_drop_readable h) = record { known = open_token ∷ a_word "canon" w_canon ∷ []; rest = _; split = refl; exports = refl; imports = refl }
def_head n (sh.stream_drop_writable h) = record { known = open_token ∷ a_word "canon" w_canon ∷ []; rest = _; split = refl; exports = refl; imports = refl }
def_head n (sh.future_new h) = record { known = open_token ∷ a_word "canon" w_canon ∷ []; rest = _; split = refl; exports = refl; imports = refl }
def_head n (sh.future_drop_readable h) = record { known = open_token ∷ a_word "canon" w_canon ∷ []; rest = _; split = refl; exports = refl; imports = refl }
def_head n (sh.future_drop_writable h) = record { known = open_token ∷ a_word "canon" w_canon ∷ []; rest = _; split = refl; exports = refl; imports = refl }
def_head n (sh.thread_spawn_ref h) = record { known = open_token ∷ a_word "canon" w_canon ∷ []; rest = _; split = refl; exports = refl; imports = refl }
def_head n (sh.stream_read h o) = record { known = open_token ∷ a_word "canon" w_canon ∷ []; rest = _; split = refl; exports = refl; imports = refl }
def_head n (sh.stream_write h o) = record { known = open_token ∷ a_word "canon" w_canon ∷ []; rest = _; split = refl; exports = refl; imports = refl }
def_head n (sh.future_read h o) = record { known = open_token ∷ a_word "canon" w_canon ∷ []; rest = _; split = refl; exports = refl; imports = refl }
def_head n (sh.future_write h o) = record { known = open_token ∷ a_word "canon" w_canon ∷ []; rest = _; split = refl; exports = refl; imports = refl }
def_head n (sh.stream_cancel_read_0 h) = record { known = open_token ∷ a_word "canon" w_canon ∷ []; rest = _; split = refl; exports = refl; imports = refl }
def_head n (sh.stream_cancel_read_1 h) = record { known = open_token ∷ a_word "canon" w_canon ∷ []; rest = _; split = refl; exports = refl; imports = refl }
def_head n (sh.stream_cancel_write_0 h) = record { known = open_token ∷ a_word "canon" w_canon ∷ []; rest = _; split = refl; exports = refl; imports = refl }
def_head n (sh.stream_cancel_write_1 h) = record { known = open_token ∷ a_word "canon" w_canon ∷ []; rest = _; split = refl; exports = refl; imports = refl }
def_head n (sh.future_cancel_read_0 h) = record { known = open_token ∷ a_word "canon" w_canon ∷ []; rest = _; split = refl; exports = refl; imports = refl }
def_head n (sh.future_cancel_read_1 h) = record { known = open_token ∷ a_word "canon" w_canon ∷ []; rest = _; split = refl; exports = refl; imports = refl }
def_head n (sh.future_cancel_write_0 h) = record { known = open_token ∷ a_word "canon" w_canon ∷ []; rest = _; split = refl; exports = refl; imports = refl }
def_head n (sh.future_cancel_write_1 h) = record { known = open_token ∷ a_word "canon" w_canon ∷ []; rest = _; split = refl; exports = refl; imports = refl }
def_head n sh.subtask_cancel_0 = record { known = open_token ∷ a_word "canon" w_canon ∷ []; rest = _; split = refl; exports = refl; imports = refl }
def_head n sh.subtask_cancel_1 = record { known = open_token ∷ a_word "canon" w_canon ∷ []; rest = _; split = refl; exports = refl; imports = refl }
def_head n (sh.error_context_new o) = record { known = open_token ∷ a_word "canon" w_canon ∷ []; rest = _; split = refl; exports = refl; imports = refl }
def_head n (sh.error_context_debug_message o) = record { known = open_token ∷ a_word "canon" w_canon ∷ []; rest = _; split = refl; exports = refl; imports = refl }
def_head n (sh.context_get h u) = record { known = open_token ∷ a_word "canon" w_canon ∷ []; rest = _; split = refl; exports = refl; imports = refl }
def_head n (sh.context_set h u) = record { known = open_token ∷ a_word "canon" w_canon ∷ []; rest = _; split = refl; exports = refl; imports = refl }
def_head n (sh.task_return h o) = record { known = open_token ∷ a_word "canon" w_canon ∷ []; rest = _; split = refl; exports = refl; imports = refl }
def_head n (sh.thread_spawn_indirect h u) = record { known = open_token ∷ a_word "canon" w_canon ∷ []; rest = _; split = refl; exports = refl; imports = refl }
def_head n (sh.start h u) = record { known = open_token ∷ a_word "start" w_start ∷ []; rest = _; split = refl; exports = refl; imports = refl }
def_head n (sh.«import» {t = t} {n = d} e h) = import_head d t e h
def_head n (sh.DefPrintable.export {t = t} e d k h) = record { known = open_token ∷ a_word "export" w_export ∷ a_string t e ∷ open_token ∷ []; rest = _; split = refl; exports = refl; imports = refl }
def_head n (sh.custom {t = t} e h) = record { known = note ∷ []; rest = _; split = refl; exports = refl; imports = refl }

head_behind : (xs more : List PrintedToken) → Head xs → Head (xs ++ more)
head_behind xs more h = record { known = h.known; rest = h.rest ++ more; split = ap (λ l. l ++ more) h.split ∙ append_assoc (flat h.known) h.rest more; exports = h.exports; imports = h.imports }

head_tells : (t : Test) (xs : List PrintedToken) (h : Head xs) → test_on t h.known ≡ Some false → Tells t xs false Any
head_tells t xs h e = λ s ys st z. test_is t s h.known (h.rest ++ ys) false (subst (Stands s) (ap (λ l. l ++ ys) h.split ∙ append_assoc (flat h.known) h.rest ys) st) e

defs_head : (ds : Defs) → DefsPrintable kinds.Component ds → Head (definitions_tokens kinds.Component ds ++ printed.closing ∷ [])
defs_head ds sh.no_more = record { known = close_token ∷ []; rest = []; split = refl; exports = refl; imports = refl }
defs_head ds (sh.one_more {n = n} {ds = es} h hs) = subst (λ l. Head (l ++ printed.closing ∷ [])) (front_tokens kinds.Component no_names n es) (head_behind (definition_tokens kinds.Component n ++ definitions_tokens kinds.Component es) (printed.closing ∷ []) (head_behind (definition_tokens kinds.Component n) (definitions_tokens kinds.Component es) (def_head n h)))

no_exports : (ds : Defs) (h : DefsPrintable kinds.Component ds) → Tells is_inline_export (definitions_tokens kinds.Component ds ++ printed.closing ∷ []) false Any
no_exports ds h = let d = defs_head ds h in head_tells is_inline_export (definitions_tokens kinds.Component ds ++ printed.closing ∷ []) d d.exports

no_imports : (ds : Defs) (h : DefsPrintable kinds.Component ds) → Tells is_inline_import (definitions_tokens kinds.Component ds ++ printed.closing ∷ []) false Any
no_imports ds h = let d = defs_head ds h in head_tells is_inline_import (definitions_tokens kinds.Component ds ++ printed.closing ∷ []) d d.imports

custom_print : (t b : core.Text) → IsText t → sh.Bytes b → (v : Bool) → is_utf8 b ≡ v → Prints component_item (definition_tokens kinds.Component (make.custom t b)) (a_def (make.custom t b)) Any
custom_print t b e u true h = goes 12 component_item (note ∷ a_string t e ∷ token (printed.string b) class.utf8 (ap class.string h) u ∷ close_token ∷ []) refl
custom_print t b e u false h = goes 12 component_item (note ∷ a_string t e ∷ token (printed.string b) class.binary (ap class.string h) u ∷ close_token ∷ []) refl

row_in_table : (k : ScopeKind) → Rattle.text_rules.specs.Table.in_table (item_row k) ≡ true
row_in_table kinds.Component = refl
row_in_table kinds.ComponentType = refl
row_in_table kinds.InstanceType = refl
row_in_table kinds.ModuleType = refl

mutual
  pub def_print : (k : ScopeKind) (n : Node) → DefPrintable k n → Prints (item_rule k) (definition_tokens k n) (a_def n) Any
  def_print k n (sh.primitive {n = c} sh.HoldsTypes.a_component h) = primitive_in_a_component c h
  def_print k n (sh.record_type {ns = ns} sh.HoldsTypes.a_component h) = with_nodes make.record_type ns (goes 12 component_item (a_type (in_group (a_word "record" w_record ∷ a_list sh.NamedPrintable g.going (named_rule "field") "field" field_print ns h ∷ []))) refl)
  def_print k n (sh.variant_type {ns = ns} sh.HoldsTypes.a_component h) = with_nodes make.variant_type ns (goes 12 component_item (a_type (in_group (a_word "variant" w_variant ∷ a_list sh.CasePrintable g.going case_rule "case" case_print ns h ∷ []))) refl)
  def_print k n (sh.list_type {l = l} sh.HoldsTypes.a_component h) = with_value l h (make.list_type l) (goes 12 component_item (a_type (in_group (a_word "list" w_list ∷ a_value l h ∷ []))) refl)
  def_print k n (sh.fixed_length_list_type {l = l} {n = c} sh.HoldsTypes.a_component h u) = with_value l h (make.fixed_length_list_type l c) (goes 12 component_item (a_type (in_group (a_word "list" w_list ∷ a_value l h ∷ a_number c u ∷ []))) refl)
  def_print k n (sh.tuple_type {ns = ns} sh.HoldsTypes.a_component h) = with_nodes make.tuple_type ns (goes 12 component_item (a_type (in_group (a_word "tuple" w_tuple ∷ bare_list sh.LonePrintable lone_rule lone_print ns h ∷ []))) refl)
  def_print k n (sh.flags_type {ns = ns} sh.HoldsTypes.a_component h) = with_nodes make.flags_type ns (goes 12 component_item (a_type (in_group (a_word "flags" w_flags ∷ bare_list sh.NamePrintable name_rule name_print ns h ∷ []))) refl)
  def_print k n (sh.enum_type {ns = ns} sh.HoldsTypes.a_component h) = with_nodes make.enum_type ns (goes 12 component_item (a_type (in_group (a_word "enum" w_enum ∷ bare_list sh.NamePrintable name_rule name_print ns h ∷ []))) refl)
  def_print k n (sh.option_type {l = l} sh.HoldsTypes.a_component h) = with_value l h (make.option_type l) (goes 12 component_item (a_type (in_group (a_word "option" w_option ∷ a_value l h ∷ []))) refl)
  def_print k n (sh.result_type sh.HoldsTypes.a_component sh.MaybePrintable.none sh.MaybePrintable.none) = goes 12 component_item (a_type (in_group (a_word "result" w_result ∷ []))) refl
  def_print k n (sh.result_type sh.HoldsTypes.a_component (sh.MaybePrintable.some {l = a} h) sh.MaybePrintable.none) = goes 12 component_item (a_type (in_group (a_word "result" w_result ∷ a_value a h ∷ []))) refl
  def_print k n (sh.result_type sh.HoldsTypes.a_component sh.MaybePrintable.none (sh.MaybePrintable.some {l = b} u)) = as_tokens (tail_back (λ l. printed.opening ∷ printed.word (codes "type") ∷ printed.opening ∷ printed.word (codes "result") ∷ printed.opening ∷ printed.word (codes "error") ∷ l) (leaf_tokens b line.value) (printed.closing ∷ printed.closing ∷ [])) (goes 12 component_item (a_type (in_group (a_word "result" w_result ∷ in_group (a_word "error" w_error ∷ a_value b u ∷ [])))) refl)
  def_print k n (sh.result_type sh.HoldsTypes.a_component (sh.MaybePrintable.some {l = a} h) (sh.MaybePrintable.some {l = b} u)) = as_tokens (tail_back (λ l. printed.opening ∷ printed.word (codes "type") ∷ printed.opening ∷ printed.word (codes "result") ∷ (leaf_tokens a line.value ++ printed.opening ∷ printed.word (codes "error") ∷ l)) (leaf_tokens b line.value) (printed.closing ∷ printed.closing ∷ [])) (goes 12 component_item (a_type (in_group (a_word "result" w_result ∷ a_value a h ∷ in_group (a_word "error" w_error ∷ a_value b u ∷ [])))) refl)
  def_print k n (sh.own_type {i = i} sh.HoldsTypes.a_component h) = goes 12 component_item (a_type (in_group (a_word "own" w_own ∷ a_number i h ∷ []))) refl
  def_print k n (sh.borrow_type {i = i} sh.HoldsTypes.a_component h) = goes 12 component_item (a_type (in_group (a_word "borrow" w_borrow ∷ a_number i h ∷ []))) refl
  def_print k n (sh.stream_type sh.HoldsTypes.a_component sh.MaybePrintable.none) = goes 12 component_item (a_type (in_group (a_word "stream" w_stream ∷ []))) refl
  def_print k n (sh.stream_type sh.HoldsTypes.a_component (sh.MaybePrintable.some {l = l} h)) = goes 12 component_item (a_type (in_group (a_word "stream" w_stream ∷ a_value l h ∷ []))) refl
  def_print k n (sh.future_type sh.HoldsTypes.a_component sh.MaybePrintable.none) = goes 12 component_item (a_type (in_group (a_word "future" w_future ∷ []))) refl
  def_print k n (sh.future_type sh.HoldsTypes.a_component (sh.MaybePrintable.some {l = l} h)) = goes 12 component_item (a_type (in_group (a_word "future" w_future ∷ a_value l h ∷ []))) refl
  def_print k n (sh.plain_function {ns = ns} sh.HoldsTypes.a_component h sh.MaybePrintable.none) = with_nodes (λ q. make.function_type 0 q m.absent) ns (goes 12 component_item (a_type (in_group (a_word "func" w_func ∷ a_list sh.NamedPrintable (is_group "param") (named_rule "param") "param" param_print ns h ∷ []))) refl)
  def_print k n (sh.plain_function {ns = ns} sh.HoldsTypes.a_component h (sh.MaybePrintable.some {l = l} u)) = with_nodes (λ q. make.function_type 0 q (m.present l)) ns (as_tokens (tail_back (λ z. printed.opening ∷ printed.word (codes "type") ∷ printed.opening ∷ printed.word (codes "func") ∷ (groups_tokens "param" ns ++ printed.opening ∷ printed.word (codes "result") ∷ z)) (leaf_tokens l line.value) (printed.closing ∷ printed.closing ∷ [])) (goes 12 component_item (a_type (in_group (a_word "func" w_func ∷ a_list sh.NamedPrintable (is_group "param") (named_rule "param") "param" param_print ns h ∷ in_group (a_word "result" w_result ∷ a_value l u ∷ [])))) refl))
  def_print k n (sh.async_function {ns = ns} sh.HoldsTypes.a_component h sh.MaybePrintable.none) = with_nodes (λ q. make.function_type 1 q m.absent) ns (goes 12 component_item (a_type (in_group (a_word "func" w_func ∷ a_word "async" w_async ∷ a_list sh.NamedPrintable (is_group "param") (named_rule "param") "param" param_print ns h ∷ []))) refl)
  def_print k n (sh.async_function {ns = ns} sh.HoldsTypes.a_component h (sh.MaybePrintable.some {l = l} u)) = with_nodes (λ q. make.function_type 1 q (m.present l)) ns (as_tokens (tail_back (λ z. printed.opening ∷ printed.word (codes "type") ∷ printed.opening ∷ printed.word (codes "func") ∷ printed.word (codes "async") ∷ (groups_tokens "param" ns ++ printed.opening ∷ printed.word (codes "result") ∷ z)) (leaf_tokens l line.value) (printed.closing ∷ printed.closing ∷ [])) (goes 12 component_item (a_type (in_group (a_word "func" w_func ∷ a_word "async" w_async ∷ a_list sh.NamedPrintable (is_group "param") (named_rule "param") "param" param_print ns h ∷ in_group (a_word "result" w_result ∷ a_value l u ∷ [])))) refl))
  def_print k n (sh.component_type {ds = ds} sh.HoldsTypes.a_component h) = with_defs (λ q. make.component_type (scope_of kinds.ComponentType None None q)) ds (goes 12 component_item (a_type (in_group (a_word "component" w_component ∷ of_rows g.ComponentTypeItem (definitions_tokens kinds.ComponentType ds) (some_defs ds) (defs_print kinds.ComponentType ds h) ∷ []))) refl)
  def_print k n (sh.instance_type {ds = ds} sh.HoldsTypes.a_component h) = with_defs (λ q. make.instance_type (scope_of kinds.InstanceType None None q)) ds (goes 12 component_item (a_type (in_group (a_word "instance" w_instance ∷ of_rows g.InstanceTypeItem (definitions_tokens kinds.InstanceType ds) (some_defs ds) (defs_print kinds.InstanceType ds h) ∷ []))) refl)
  def_print k n (sh.resource_type sh.HoldsTypes.a_component sh.CorePrintable.i32 sh.MaybeFunction.none) = goes 12 component_item (a_type (in_group (a_word "resource" w_resource ∷ in_group (a_word "rep" w_rep ∷ (a_word "i32" w_i32 ∷ []))))) refl
  def_print k n (sh.resource_type sh.HoldsTypes.a_component sh.CorePrintable.i32 (sh.MaybeFunction.some {i} u)) = goes 12 component_item (a_type (in_group (a_word "resource" w_resource ∷ (in_group (a_word "rep" w_rep ∷ (a_word "i32" w_i32 ∷ [])) ++ in_group (a_word "dtor" w_dtor ∷ a_number i u ∷ []))))) refl
  def_print k n (sh.resource_type sh.HoldsTypes.a_component sh.CorePrintable.i64 sh.MaybeFunction.none) = goes 12 component_item (a_type (in_group (a_word "resource" w_resource ∷ in_group (a_word "rep" w_rep ∷ (a_word "i64" w_i64 ∷ []))))) refl
  def_print k n (sh.resource_type sh.HoldsTypes.a_component sh.CorePrintable.i64 (sh.MaybeFunction.some {i} u)) = goes 12 component_item (a_type (in_group (a_word "resource" w_resource ∷ (in_group (a_word "rep" w_rep ∷ (a_word "i64" w_i64 ∷ [])) ++ in_group (a_word "dtor" w_dtor ∷ a_number i u ∷ []))))) refl
  def_print k n (sh.resource_type sh.HoldsTypes.a_component sh.CorePrintable.f32 sh.MaybeFunction.none) = goes 12 component_item (a_type (in_group (a_word "resource" w_resource ∷ in_group (a_word "rep" w_rep ∷ (a_word "f32" w_f32 ∷ []))))) refl
  def_print k n (sh.resource_type sh.HoldsTypes.a_component sh.CorePrintable.f32 (sh.MaybeFunction.some {i} u)) = goes 12 component_item (a_type (in_group (a_word "resource" w_resource ∷ (in_group (a_word "rep" w_rep ∷ (a_word "f32" w_f32 ∷ [])) ++ in_group (a_word "dtor" w_dtor ∷ a_number i u ∷ []))))) refl
  def_print k n (sh.resource_type sh.HoldsTypes.a_component sh.CorePrintable.f64 sh.MaybeFunction.none) = goes 12 component_item (a_type (in_group (a_word "resource" w_resource ∷ in_group (a_word "rep" w_rep ∷ (a_word "f64" w_f64 ∷ []))))) refl
  def_print k n (sh.resource_type sh.HoldsTypes.a_component sh.CorePrintable.f64 (sh.MaybeFunction.some {i} u)) = goes 12 component_item (a_type (in_group (a_word "resource" w_resource ∷ (in_group (a_word "rep" w_rep ∷ (a_word "f64" w_f64 ∷ [])) ++ in_group (a_word "dtor" w_dtor ∷ a_number i u ∷ []))))) refl
  def_print k n (sh.resource_type sh.HoldsTypes.a_component sh.CorePrintable.v128 sh.MaybeFunction.none) = goes 12 component_item (a_type (in_group (a_word "resource" w_resource ∷ in_group (a_word "rep" w_rep ∷ (a_word "v128" w_v128 ∷ []))))) refl
  def_print k n (sh.resource_type sh.HoldsTypes.a_component sh.CorePrintable.v128 (sh.MaybeFunction.some {i} u)) = goes 12 component_item (a_type (in_group (a_word "resource" w_resource ∷ (in_group (a_word "rep" w_rep ∷ (a_word "v128" w_v128 ∷ [])) ++ in_group (a_word "dtor" w_dtor ∷ a_number i u ∷ []))))) refl
  def_print k n (sh.resource_type sh.HoldsTypes.a_component (sh.CorePrintable.func {b = true}) sh.MaybeFunction.none) = goes 12 component_item (a_type (in_group (a_word "resource" w_resource ∷ in_group (a_word "rep" w_rep ∷ (a_word "funcref" w_funcref ∷ []))))) refl
  def_print k n (sh.resource_type sh.HoldsTypes.a_component (sh.CorePrintable.func {b = true}) (sh.MaybeFunction.some {i} u)) = goes 12 component_item (a_type (in_group (a_word "resource" w_resource ∷ (in_group (a_word "rep" w_rep ∷ (a_word "funcref" w_funcref ∷ [])) ++ in_group (a_word "dtor" w_dtor ∷ a_number i u ∷ []))))) refl
  def_print k n (sh.resource_type sh.HoldsTypes.a_component (sh.CorePrintable.func {b = false}) sh.MaybeFunction.none) = goes 12 component_item (a_type (in_group (a_word "resource" w_resource ∷ in_group (a_word "rep" w_rep ∷ (in_group (a_word "ref" w_ref ∷ a_word "func" w_func ∷ [])))))) refl
  def_print k n (sh.resource_type sh.HoldsTypes.a_component (sh.CorePrintable.func {b = false}) (sh.MaybeFunction.some {i} u)) = goes 12 component_item (a_type (in_group (a_word "resource" w_resource ∷ (in_group (a_word "rep" w_rep ∷ (in_group (a_word "ref" w_ref ∷ a_word "func" w_func ∷ []))) ++ in_group (a_word "dtor" w_dtor ∷ a_number i u ∷ []))))) refl
  def_print k n (sh.resource_type sh.HoldsTypes.a_component (sh.CorePrintable.extern {b = true}) sh.MaybeFunction.none) = goes 12 component_item (a_type (in_group (a_word "resource" w_resource ∷ in_group (a_word "rep" w_rep ∷ (a_word "externref" w_externref ∷ []))))) refl
  def_print k n (sh.resource_type sh.HoldsTypes.a_component (sh.CorePrintable.extern {b = true}) (sh.MaybeFunction.some {i} u)) = goes 12 component_item (a_type (in_group (a_word "resource" w_resource ∷ (in_group (a_word "rep" w_rep ∷ (a_word "externref" w_externref ∷ [])) ++ in_group (a_word "dtor" w_dtor ∷ a_number i u ∷ []))))) refl
  def_print k n (sh.resource_type sh.HoldsTypes.a_component (sh.CorePrintable.extern {b = false}) sh.MaybeFunction.none) = goes 12 component_item (a_type (in_group (a_word "resource" w_resource ∷ in_group (a_word "rep" w_rep ∷ (in_group (a_word "ref" w_ref ∷ a_word "extern" w_extern ∷ [])))))) refl
  def_print k n (sh.resource_type sh.HoldsTypes.a_component (sh.CorePrintable.extern {b = false}) (sh.MaybeFunction.some {i} u)) = goes 12 component_item (a_type (in_group (a_word "resource" w_resource ∷ (in_group (a_word "rep" w_rep ∷ (in_group (a_word "ref" w_ref ∷ a_word "extern" w_extern ∷ []))) ++ in_group (a_word "dtor" w_dtor ∷ a_number i u ∷ []))))) refl
  def_print k n (sh.resource_type sh.HoldsTypes.a_component (sh.CorePrintable.index {b = true} {i = j} h) sh.MaybeFunction.none) = goes 12 component_item (a_type (in_group (a_word "resource" w_resource ∷ in_group (a_word "rep" w_rep ∷ (in_group (a_word "ref" w_ref ∷ a_word "null" w_null ∷ a_number j h ∷ [])))))) refl
  def_print k n (sh.resource_type sh.HoldsTypes.a_component (sh.CorePrintable.index {b = true} {i = j} h) (sh.MaybeFunction.some {i} u)) = goes 12 component_item (a_type (in_group (a_word "resource" w_resource ∷ (in_group (a_word "rep" w_rep ∷ (in_group (a_word "ref" w_ref ∷ a_word "null" w_null ∷ a_number j h ∷ []))) ++ in_group (a_word "dtor" w_dtor ∷ a_number i u ∷ []))))) refl
  def_print k n (sh.resource_type sh.HoldsTypes.a_component (sh.CorePrintable.index {b = false} {i = j} h) sh.MaybeFunction.none) = goes 12 component_item (a_type (in_group (a_word "resource" w_resource ∷ in_group (a_word "rep" w_rep ∷ (in_group (a_word "ref" w_ref ∷ a_number j h ∷ [])))))) refl
  def_print k n (sh.resource_type sh.HoldsTypes.a_component (sh.CorePrintable.index {b = false} {i = j} h) (sh.MaybeFunction.some {i} u)) = goes 12 component_item (a_type (in_group (a_word "resource" w_resource ∷ (in_group (a_word "rep" w_rep ∷ (in_group (a_word "ref" w_ref ∷ a_number j h ∷ []))) ++ in_group (a_word "dtor" w_dtor ∷ a_number i u ∷ []))))) refl
  def_print k n (sh.core_function_type {ps = ps} {rs = rs} sh.HoldsTypes.a_component h u) = as_bin (ap (λ q. a_def (make.core_function_type q (nodes_from (nodes_list rs)))) (nodes_back ps) ∙ ap (λ q. a_def (make.core_function_type ps q)) (nodes_back rs)) (goes 12 component_item (in_group (a_word "core" w_core ∷ a_word "type" w_type ∷ core_func ps rs h u)) refl)
  def_print k n (sh.core_rec {ns = ns} sh.HoldsTypes.a_component h) = with_nodes make.core_rec ns (goes 12 component_item (in_group (a_word "core" w_core ∷ a_word "rec" w_rec ∷ of_rule (r.many g.going core_types_rule) (groups_tokens "type" ns) (some_parts ns) (parts_print sh.CoreFunctionPrintable g.going core_types_rule "type" core_type_print ns h) ∷ [])) refl)
  def_print k n (sh.module_type {ds = ds} sh.HoldsTypes.a_component h) = with_defs (λ q. make.module_type (scope_of kinds.ModuleType None None q)) ds (goes 12 component_item (in_group (a_word "core" w_core ∷ a_word "type" w_type ∷ in_group (a_word "module" w_module ∷ of_rows g.ModuleTypeItem (definitions_tokens kinds.ModuleType ds) (some_defs ds) (defs_print kinds.ModuleType ds h) ∷ []))) refl)
  def_print k n (sh.alias_export {i = i} {t = t} sh.HoldsTypes.a_component h u sh.Kind.core_module) = goes 12 component_item (in_group (a_word "alias" w_alias ∷ a_word "export" w_export ∷ a_number i h ∷ a_string t u ∷ in_group (a_word "core" w_core ∷ a_word "module" w_module ∷ []))) refl
  def_print k n (sh.alias_export {i = i} {t = t} sh.HoldsTypes.a_component h u sh.Kind.func) = goes 12 component_item (in_group (a_word "alias" w_alias ∷ a_word "export" w_export ∷ a_number i h ∷ a_string t u ∷ in_group (a_word "func" w_func ∷ []))) refl
  def_print k n (sh.alias_export {i = i} {t = t} sh.HoldsTypes.a_component h u sh.Kind.value) = goes 12 component_item (in_group (a_word "alias" w_alias ∷ a_word "export" w_export ∷ a_number i h ∷ a_string t u ∷ in_group (a_word "value" w_value ∷ []))) refl
  def_print k n (sh.alias_export {i = i} {t = t} sh.HoldsTypes.a_component h u sh.Kind.type) = goes 12 component_item (in_group (a_word "alias" w_alias ∷ a_word "export" w_export ∷ a_number i h ∷ a_string t u ∷ in_group (a_word "type" w_type ∷ []))) refl
  def_print k n (sh.alias_export {i = i} {t = t} sh.HoldsTypes.a_component h u sh.Kind.component) = goes 12 component_item (in_group (a_word "alias" w_alias ∷ a_word "export" w_export ∷ a_number i h ∷ a_string t u ∷ in_group (a_word "component" w_component ∷ []))) refl
  def_print k n (sh.alias_export {i = i} {t = t} sh.HoldsTypes.a_component h u sh.Kind.instance) = goes 12 component_item (in_group (a_word "alias" w_alias ∷ a_word "export" w_export ∷ a_number i h ∷ a_string t u ∷ in_group (a_word "instance" w_instance ∷ []))) refl
  def_print k n (sh.alias_core_export {i = i} {t = t} sh.HoldsTypes.a_component h u sh.CoreKind.func) = goes 12 component_item (in_group (a_word "alias" w_alias ∷ a_word "core" w_core ∷ a_word "export" w_export ∷ a_number i h ∷ a_string t u ∷ in_group (a_word "core" w_core ∷ a_word "func" w_func ∷ []))) refl
  def_print k n (sh.alias_core_export {i = i} {t = t} sh.HoldsTypes.a_component h u sh.CoreKind.table) = goes 12 component_item (in_group (a_word "alias" w_alias ∷ a_word "core" w_core ∷ a_word "export" w_export ∷ a_number i h ∷ a_string t u ∷ in_group (a_word "core" w_core ∷ a_word "table" w_table ∷ []))) refl
  def_print k n (sh.alias_core_export {i = i} {t = t} sh.HoldsTypes.a_component h u sh.CoreKind.memory) = goes 12 component_item (in_group (a_word "alias" w_alias ∷ a_word "core" w_core ∷ a_word "export" w_export ∷ a_number i h ∷ a_string t u ∷ in_group (a_word "core" w_core ∷ a_word "memory" w_memory ∷ []))) refl
  def_print k n (sh.alias_core_export {i = i} {t = t} sh.HoldsTypes.a_component h u sh.CoreKind.global) = goes 12 component_item (in_group (a_word "alias" w_alias ∷ a_word "core" w_core ∷ a_word "export" w_export ∷ a_number i h ∷ a_string t u ∷ in_group (a_word "core" w_core ∷ a_word "global" w_global ∷ []))) refl
  def_print k n (sh.alias_core_export {i = i} {t = t} sh.HoldsTypes.a_component h u sh.CoreKind.a_tag) = goes 12 component_item (in_group (a_word "alias" w_alias ∷ a_word "core" w_core ∷ a_word "export" w_export ∷ a_number i h ∷ a_string t u ∷ in_group (a_word "core" w_core ∷ a_word "tag" w_tag ∷ []))) refl
  def_print k n (sh.alias_outer {d = d} {i = i} sh.HoldsTypes.a_component h u sh.OuterKind.core_module) = goes 12 component_item (in_group (a_word "alias" w_alias ∷ a_word "outer" w_outer ∷ a_number d h ∷ a_number i u ∷ in_group (a_word "core" w_core ∷ a_word "module" w_module ∷ []))) refl
  def_print k n (sh.alias_outer {d = d} {i = i} sh.HoldsTypes.a_component h u sh.OuterKind.core_type) = goes 12 component_item (in_group (a_word "alias" w_alias ∷ a_word "outer" w_outer ∷ a_number d h ∷ a_number i u ∷ in_group (a_word "core" w_core ∷ a_word "type" w_type ∷ []))) refl
  def_print k n (sh.alias_outer {d = d} {i = i} sh.HoldsTypes.a_component h u sh.OuterKind.type) = goes 12 component_item (in_group (a_word "alias" w_alias ∷ a_word "outer" w_outer ∷ a_number d h ∷ a_number i u ∷ in_group (a_word "type" w_type ∷ []))) refl
  def_print k n (sh.alias_outer {d = d} {i = i} sh.HoldsTypes.a_component h u sh.OuterKind.component) = goes 12 component_item (in_group (a_word "alias" w_alias ∷ a_word "outer" w_outer ∷ a_number d h ∷ a_number i u ∷ in_group (a_word "component" w_component ∷ []))) refl
  def_print k n (sh.primitive {n = c} sh.HoldsTypes.a_component_type h) = primitive_in_a_component_type c h
  def_print k n (sh.record_type {ns = ns} sh.HoldsTypes.a_component_type h) = with_nodes make.record_type ns (goes 12 component_type_item (a_type (in_group (a_word "record" w_record ∷ a_list sh.NamedPrintable g.going (named_rule "field") "field" field_print ns h ∷ []))) refl)
  def_print k n (sh.variant_type {ns = ns} sh.HoldsTypes.a_component_type h) = with_nodes make.variant_type ns (goes 12 component_type_item (a_type (in_group (a_word "variant" w_variant ∷ a_list sh.CasePrintable g.going case_rule "case" case_print ns h ∷ []))) refl)
  def_print k n (sh.list_type {l = l} sh.HoldsTypes.a_component_type h) = with_value l h (make.list_type l) (goes 12 component_type_item (a_type (in_group (a_word "list" w_list ∷ a_value l h ∷ []))) refl)
  def_print k n (sh.fixed_length_list_type {l = l} {n = c} sh.HoldsTypes.a_component_type h u) = with_value l h (make.fixed_length_list_type l c) (goes 12 component_type_item (a_type (in_group (a_word "list" w_list ∷ a_value l h ∷ a_number c u ∷ []))) refl)
  def_print k n (sh.tuple_type {ns = ns} sh.HoldsTypes.a_component_type h) = with_nodes make.tuple_type ns (goes 12 component_type_item (a_type (in_group (a_word "tuple" w_tuple ∷ bare_list sh.LonePrintable lone_rule lone_print ns h ∷ []))) refl)
  def_print k n (sh.flags_type {ns = ns} sh.HoldsTypes.a_component_type h) = with_nodes make.flags_type ns (goes 12 component_type_item (a_type (in_group (a_word "flags" w_flags ∷ bare_list sh.NamePrintable name_rule name_print ns h ∷ []))) refl)
  def_print k n (sh.enum_type {ns = ns} sh.HoldsTypes.a_component_type h) = with_nodes make.enum_type ns (goes 12 component_type_item (a_type (in_group (a_word "enum" w_enum ∷ bare_list sh.NamePrintable name_rule name_print ns h ∷ []))) refl)
  def_print k n (sh.option_type {l = l} sh.HoldsTypes.a_component_type h) = with_value l h (make.option_type l) (goes 12 component_type_item (a_type (in_group (a_word "option" w_option ∷ a_value l h ∷ []))) refl)
  def_print k n (sh.result_type sh.HoldsTypes.a_component_type sh.MaybePrintable.none sh.MaybePrintable.none) = goes 12 component_type_item (a_type (in_group (a_word "result" w_result ∷ []))) refl
  def_print k n (sh.result_type sh.HoldsTypes.a_component_type (sh.MaybePrintable.some {l = a} h) sh.MaybePrintable.none) = goes 12 component_type_item (a_type (in_group (a_word "result" w_result ∷ a_value a h ∷ []))) refl
  def_print k n (sh.result_type sh.HoldsTypes.a_component_type sh.MaybePrintable.none (sh.MaybePrintable.some {l = b} u)) = as_tokens (tail_back (λ l. printed.opening ∷ printed.word (codes "type") ∷ printed.opening ∷ printed.word (codes "result") ∷ printed.opening ∷ printed.word (codes "error") ∷ l) (leaf_tokens b line.value) (printed.closing ∷ printed.closing ∷ [])) (goes 12 component_type_item (a_type (in_group (a_word "result" w_result ∷ in_group (a_word "error" w_error ∷ a_value b u ∷ [])))) refl)
  def_print k n (sh.result_type sh.HoldsTypes.a_component_type (sh.MaybePrintable.some {l = a} h) (sh.MaybePrintable.some {l = b} u)) = as_tokens (tail_back (λ l. printed.opening ∷ printed.word (codes "type") ∷ printed.opening ∷ printed.word (codes "result") ∷ (leaf_tokens a line.value ++ printed.opening ∷ printed.word (codes "error") ∷ l)) (leaf_tokens b line.value) (printed.closing ∷ printed.closing ∷ [])) (goes 12 component_type_item (a_type (in_group (a_word "result" w_result ∷ a_value a h ∷ in_group (a_word "error" w_error ∷ a_value b u ∷ [])))) refl)
  def_print k n (sh.own_type {i = i} sh.HoldsTypes.a_component_type h) = goes 12 component_type_item (a_type (in_group (a_word "own" w_own ∷ a_number i h ∷ []))) refl
  def_print k n (sh.borrow_type {i = i} sh.HoldsTypes.a_component_type h) = goes 12 component_type_item (a_type (in_group (a_word "borrow" w_borrow ∷ a_number i h ∷ []))) refl
  def_print k n (sh.stream_type sh.HoldsTypes.a_component_type sh.MaybePrintable.none) = goes 12 component_type_item (a_type (in_group (a_word "stream" w_stream ∷ []))) refl
  def_print k n (sh.stream_type sh.HoldsTypes.a_component_type (sh.MaybePrintable.some {l = l} h)) = goes 12 component_type_item (a_type (in_group (a_word "stream" w_stream ∷ a_value l h ∷ []))) refl
  def_print k n (sh.future_type sh.HoldsTypes.a_component_type sh.MaybePrintable.none) = goes 12 component_type_item (a_type (in_group (a_word "future" w_future ∷ []))) refl
  def_print k n (sh.future_type sh.HoldsTypes.a_component_type (sh.MaybePrintable.some {l = l} h)) = goes 12 component_type_item (a_type (in_group (a_word "future" w_future ∷ a_value l h ∷ []))) refl
  def_print k n (sh.plain_function {ns = ns} sh.HoldsTypes.a_component_type h sh.MaybePrintable.none) = with_nodes (λ q. make.function_type 0 q m.absent) ns (goes 12 component_type_item (a_type (in_group (a_word "func" w_func ∷ a_list sh.NamedPrintable (is_group "param") (named_rule "param") "param" param_print ns h ∷ []))) refl)
  def_print k n (sh.plain_function {ns = ns} sh.HoldsTypes.a_component_type h (sh.MaybePrintable.some {l = l} u)) = with_nodes (λ q. make.function_type 0 q (m.present l)) ns (as_tokens (tail_back (λ z. printed.opening ∷ printed.word (codes "type") ∷ printed.opening ∷ printed.word (codes "func") ∷ (groups_tokens "param" ns ++ printed.opening ∷ printed.word (codes "result") ∷ z)) (leaf_tokens l line.value) (printed.closing ∷ printed.closing ∷ [])) (goes 12 component_type_item (a_type (in_group (a_word "func" w_func ∷ a_list sh.NamedPrintable (is_group "param") (named_rule "param") "param" param_print ns h ∷ in_group (a_word "result" w_result ∷ a_value l u ∷ [])))) refl))
  def_print k n (sh.async_function {ns = ns} sh.HoldsTypes.a_component_type h sh.MaybePrintable.none) = with_nodes (λ q. make.function_type 1 q m.absent) ns (goes 12 component_type_item (a_type (in_group (a_word "func" w_func ∷ a_word "async" w_async ∷ a_list sh.NamedPrintable (is_group "param") (named_rule "param") "param" param_print ns h ∷ []))) refl)
  def_print k n (sh.async_function {ns = ns} sh.HoldsTypes.a_component_type h (sh.MaybePrintable.some {l = l} u)) = with_nodes (λ q. make.function_type 1 q (m.present l)) ns (as_tokens (tail_back (λ z. printed.opening ∷ printed.word (codes "type") ∷ printed.opening ∷ printed.word (codes "func") ∷ printed.word (codes "async") ∷ (groups_tokens "param" ns ++ printed.opening ∷ printed.word (codes "result") ∷ z)) (leaf_tokens l line.value) (printed.closing ∷ printed.closing ∷ [])) (goes 12 component_type_item (a_type (in_group (a_word "func" w_func ∷ a_word "async" w_async ∷ a_list sh.NamedPrintable (is_group "param") (named_rule "param") "param" param_print ns h ∷ in_group (a_word "result" w_result ∷ a_value l u ∷ [])))) refl))
  def_print k n (sh.component_type {ds = ds} sh.HoldsTypes.a_component_type h) = with_defs (λ q. make.component_type (scope_of kinds.ComponentType None None q)) ds (goes 12 component_type_item (a_type (in_group (a_word "component" w_component ∷ of_rows g.ComponentTypeItem (definitions_tokens kinds.ComponentType ds) (some_defs ds) (defs_print kinds.ComponentType ds h) ∷ []))) refl)
  def_print k n (sh.instance_type {ds = ds} sh.HoldsTypes.a_component_type h) = with_defs (λ q. make.instance_type (scope_of kinds.InstanceType None None q)) ds (goes 12 component_type_item (a_type (in_group (a_word "instance" w_instance ∷ of_rows g.InstanceTypeItem (definitions_tokens kinds.InstanceType ds) (some_defs ds) (defs_print kinds.InstanceType ds h) ∷ []))) refl)
  def_print k n (sh.resource_type sh.HoldsTypes.a_component_type sh.CorePrintable.i32 sh.MaybeFunction.none) = goes 12 component_type_item (a_type (in_group (a_word "resource" w_resource ∷ in_group (a_word "rep" w_rep ∷ (a_word "i32" w_i32 ∷ []))))) refl
  def_print k n (sh.resource_type sh.HoldsTypes.a_component_type sh.CorePrintable.i32 (sh.MaybeFunction.some {i} u)) = goes 12 component_type_item (a_type (in_group (a_word "resource" w_resource ∷ (in_group (a_word "rep" w_rep ∷ (a_word "i32" w_i32 ∷ [])) ++ in_group (a_word "dtor" w_dtor ∷ a_number i u ∷ []))))) refl
  def_print k n (sh.resource_type sh.HoldsTypes.a_component_type sh.CorePrintable.i64 sh.MaybeFunction.none) = goes 12 component_type_item (a_type (in_group (a_word "resource" w_resource ∷ in_group (a_word "rep" w_rep ∷ (a_word "i64" w_i64 ∷ []))))) refl
  def_print k n (sh.resource_type sh.HoldsTypes.a_component_type sh.CorePrintable.i64 (sh.MaybeFunction.some {i} u)) = goes 12 component_type_item (a_type (in_group (a_word "resource" w_resource ∷ (in_group (a_word "rep" w_rep ∷ (a_word "i64" w_i64 ∷ [])) ++ in_group (a_word "dtor" w_dtor ∷ a_number i u ∷ []))))) refl
  def_print k n (sh.resource_type sh.HoldsTypes.a_component_type sh.CorePrintable.f32 sh.MaybeFunction.none) = goes 12 component_type_item (a_type (in_group (a_word "resource" w_resource ∷ in_group (a_word "rep" w_rep ∷ (a_word "f32" w_f32 ∷ []))))) refl
  def_print k n (sh.resource_type sh.HoldsTypes.a_component_type sh.CorePrintable.f32 (sh.MaybeFunction.some {i} u)) = goes 12 component_type_item (a_type (in_group (a_word "resource" w_resource ∷ (in_group (a_word "rep" w_rep ∷ (a_word "f32" w_f32 ∷ [])) ++ in_group (a_word "dtor" w_dtor ∷ a_number i u ∷ []))))) refl
  def_print k n (sh.resource_type sh.HoldsTypes.a_component_type sh.CorePrintable.f64 sh.MaybeFunction.none) = goes 12 component_type_item (a_type (in_group (a_word "resource" w_resource ∷ in_group (a_word "rep" w_rep ∷ (a_word "f64" w_f64 ∷ []))))) refl
  def_print k n (sh.resource_type sh.HoldsTypes.a_component_type sh.CorePrintable.f64 (sh.MaybeFunction.some {i} u)) = goes 12 component_type_item (a_type (in_group (a_word "resource" w_resource ∷ (in_group (a_word "rep" w_rep ∷ (a_word "f64" w_f64 ∷ [])) ++ in_group (a_word "dtor" w_dtor ∷ a_number i u ∷ []))))) refl
  def_print k n (sh.resource_type sh.HoldsTypes.a_component_type sh.CorePrintable.v128 sh.MaybeFunction.none) = goes 12 component_type_item (a_type (in_group (a_word "resource" w_resource ∷ in_group (a_word "rep" w_rep ∷ (a_word "v128" w_v128 ∷ []))))) refl
  def_print k n (sh.resource_type sh.HoldsTypes.a_component_type sh.CorePrintable.v128 (sh.MaybeFunction.some {i} u)) = goes 12 component_type_item (a_type (in_group (a_word "resource" w_resource ∷ (in_group (a_word "rep" w_rep ∷ (a_word "v128" w_v128 ∷ [])) ++ in_group (a_word "dtor" w_dtor ∷ a_number i u ∷ []))))) refl
  def_print k n (sh.resource_type sh.HoldsTypes.a_component_type (sh.CorePrintable.func {b = true}) sh.MaybeFunction.none) = goes 12 component_type_item (a_type (in_group (a_word "resource" w_resource ∷ in_group (a_word "rep" w_rep ∷ (a_word "funcref" w_funcref ∷ []))))) refl
  def_print k n (sh.resource_type sh.HoldsTypes.a_component_type (sh.CorePrintable.func {b = true}) (sh.MaybeFunction.some {i} u)) = goes 12 component_type_item (a_type (in_group (a_word "resource" w_resource ∷ (in_group (a_word "rep" w_rep ∷ (a_word "funcref" w_funcref ∷ [])) ++ in_group (a_word "dtor" w_dtor ∷ a_number i u ∷ []))))) refl
  def_print k n (sh.resource_type sh.HoldsTypes.a_component_type (sh.CorePrintable.func {b = false}) sh.MaybeFunction.none) = goes 12 component_type_item (a_type (in_group (a_word "resource" w_resource ∷ in_group (a_word "rep" w_rep ∷ (in_group (a_word "ref" w_ref ∷ a_word "func" w_func ∷ [])))))) refl
  def_print k n (sh.resource_type sh.HoldsTypes.a_component_type (sh.CorePrintable.func {b = false}) (sh.MaybeFunction.some {i} u)) = goes 12 component_type_item (a_type (in_group (a_word "resource" w_resource ∷ (in_group (a_word "rep" w_rep ∷ (in_group (a_word "ref" w_ref ∷ a_word "func" w_func ∷ []))) ++ in_group (a_word "dtor" w_dtor ∷ a_number i u ∷ []))))) refl
  def_print k n (sh.resource_type sh.HoldsTypes.a_component_type (sh.CorePrintable.extern {b = true}) sh.MaybeFunction.none) = goes 12 component_type_item (a_type (in_group (a_word "resource" w_resource ∷ in_group (a_word "rep" w_rep ∷ (a_word "externref" w_externref ∷ []))))) refl
  def_print k n (sh.resource_type sh.HoldsTypes.a_component_type (sh.CorePrintable.extern {b = true}) (sh.MaybeFunction.some {i} u)) = goes 12 component_type_item (a_type (in_group (a_word "resource" w_resource ∷ (in_group (a_word "rep" w_rep ∷ (a_word "externref" w_externref ∷ [])) ++ in_group (a_word "dtor" w_dtor ∷ a_number i u ∷ []))))) refl
  def_print k n (sh.resource_type sh.HoldsTypes.a_component_type (sh.CorePrintable.extern {b = false}) sh.MaybeFunction.none) = goes 12 component_type_item (a_type (in_group (a_word "resource" w_resource ∷ in_group (a_word "rep" w_rep ∷ (in_group (a_word "ref" w_ref ∷ a_word "extern" w_extern ∷ [])))))) refl
  def_print k n (sh.resource_type sh.HoldsTypes.a_component_type (sh.CorePrintable.extern {b = false}) (sh.MaybeFunction.some {i} u)) = goes 12 component_type_item (a_type (in_group (a_word "resource" w_resource ∷ (in_group (a_word "rep" w_rep ∷ (in_group (a_word "ref" w_ref ∷ a_word "extern" w_extern ∷ []))) ++ in_group (a_word "dtor" w_dtor ∷ a_number i u ∷ []))))) refl
  def_print k n (sh.resource_type sh.HoldsTypes.a_component_type (sh.CorePrintable.index {b = true} {i = j} h) sh.MaybeFunction.none) = goes 12 component_type_item (a_type (in_group (a_word "resource" w_resource ∷ in_group (a_word "rep" w_rep ∷ (in_group (a_word "ref" w_ref ∷ a_word "null" w_null ∷ a_number j h ∷ [])))))) refl
  def_print k n (sh.resource_type sh.HoldsTypes.a_component_type (sh.CorePrintable.index {b = true} {i = j} h) (sh.MaybeFunction.some {i} u)) = goes 12 component_type_item (a_type (in_group (a_word "resource" w_resource ∷ (in_group (a_word "rep" w_rep ∷ (in_group (a_word "ref" w_ref ∷ a_word "null" w_null ∷ a_number j h ∷ []))) ++ in_group (a_word "dtor" w_dtor ∷ a_number i u ∷ []))))) refl
  def_print k n (sh.resource_type sh.HoldsTypes.a_component_type (sh.CorePrintable.index {b = false} {i = j} h) sh.MaybeFunction.none) = goes 12 component_type_item (a_type (in_group (a_word "resource" w_resource ∷ in_group (a_word "rep" w_rep ∷ (in_group (a_word "ref" w_ref ∷ a_number j h ∷ [])))))) refl
  def_print k n (sh.resource_type sh.HoldsTypes.a_component_type (sh.CorePrintable.index {b = false} {i = j} h) (sh.MaybeFunction.some {i} u)) = goes 12 component_type_item (a_type (in_group (a_word "resource" w_resource ∷ (in_group (a_word "rep" w_rep ∷ (in_group (a_word "ref" w_ref ∷ a_number j h ∷ []))) ++ in_group (a_word "dtor" w_dtor ∷ a_number i u ∷ []))))) refl
  def_print k n (sh.core_function_type {ps = ps} {rs = rs} sh.HoldsTypes.a_component_type h u) = as_bin (ap (λ q. a_def (make.core_function_type q (nodes_from (nodes_list rs)))) (nodes_back ps) ∙ ap (λ q. a_def (make.core_function_type ps q)) (nodes_back rs)) (goes 12 component_type_item (in_group (a_word "core" w_core ∷ a_word "type" w_type ∷ core_func ps rs h u)) refl)
  def_print k n (sh.core_rec {ns = ns} sh.HoldsTypes.a_component_type h) = with_nodes make.core_rec ns (goes 12 component_type_item (in_group (a_word "core" w_core ∷ a_word "rec" w_rec ∷ of_rule (r.many g.going core_types_rule) (groups_tokens "type" ns) (some_parts ns) (parts_print sh.CoreFunctionPrintable g.going core_types_rule "type" core_type_print ns h) ∷ [])) refl)
  def_print k n (sh.module_type {ds = ds} sh.HoldsTypes.a_component_type h) = with_defs (λ q. make.module_type (scope_of kinds.ModuleType None None q)) ds (goes 12 component_type_item (in_group (a_word "core" w_core ∷ a_word "type" w_type ∷ in_group (a_word "module" w_module ∷ of_rows g.ModuleTypeItem (definitions_tokens kinds.ModuleType ds) (some_defs ds) (defs_print kinds.ModuleType ds h) ∷ []))) refl)
  def_print k n (sh.alias_export {i = i} {t = t} sh.HoldsTypes.a_component_type h u sh.Kind.core_module) = goes 12 component_type_item (in_group (a_word "alias" w_alias ∷ a_word "export" w_export ∷ a_number i h ∷ a_string t u ∷ in_group (a_word "core" w_core ∷ a_word "module" w_module ∷ []))) refl
  def_print k n (sh.alias_export {i = i} {t = t} sh.HoldsTypes.a_component_type h u sh.Kind.func) = goes 12 component_type_item (in_group (a_word "alias" w_alias ∷ a_word "export" w_export ∷ a_number i h ∷ a_string t u ∷ in_group (a_word "func" w_func ∷ []))) refl
  def_print k n (sh.alias_export {i = i} {t = t} sh.HoldsTypes.a_component_type h u sh.Kind.value) = goes 12 component_type_item (in_group (a_word "alias" w_alias ∷ a_word "export" w_export ∷ a_number i h ∷ a_string t u ∷ in_group (a_word "value" w_value ∷ []))) refl
  def_print k n (sh.alias_export {i = i} {t = t} sh.HoldsTypes.a_component_type h u sh.Kind.type) = goes 12 component_type_item (in_group (a_word "alias" w_alias ∷ a_word "export" w_export ∷ a_number i h ∷ a_string t u ∷ in_group (a_word "type" w_type ∷ []))) refl
  def_print k n (sh.alias_export {i = i} {t = t} sh.HoldsTypes.a_component_type h u sh.Kind.component) = goes 12 component_type_item (in_group (a_word "alias" w_alias ∷ a_word "export" w_export ∷ a_number i h ∷ a_string t u ∷ in_group (a_word "component" w_component ∷ []))) refl
  def_print k n (sh.alias_export {i = i} {t = t} sh.HoldsTypes.a_component_type h u sh.Kind.instance) = goes 12 component_type_item (in_group (a_word "alias" w_alias ∷ a_word "export" w_export ∷ a_number i h ∷ a_string t u ∷ in_group (a_word "instance" w_instance ∷ []))) refl
  def_print k n (sh.alias_core_export {i = i} {t = t} sh.HoldsTypes.a_component_type h u sh.CoreKind.func) = goes 12 component_type_item (in_group (a_word "alias" w_alias ∷ a_word "core" w_core ∷ a_word "export" w_export ∷ a_number i h ∷ a_string t u ∷ in_group (a_word "core" w_core ∷ a_word "func" w_func ∷ []))) refl
  def_print k n (sh.alias_core_export {i = i} {t = t} sh.HoldsTypes.a_component_type h u sh.CoreKind.table) = goes 12 component_type_item (in_group (a_word "alias" w_alias ∷ a_word "core" w_core ∷ a_word "export" w_export ∷ a_number i h ∷ a_string t u ∷ in_group (a_word "core" w_core ∷ a_word "table" w_table ∷ []))) refl
  def_print k n (sh.alias_core_export {i = i} {t = t} sh.HoldsTypes.a_component_type h u sh.CoreKind.memory) = goes 12 component_type_item (in_group (a_word "alias" w_alias ∷ a_word "core" w_core ∷ a_word "export" w_export ∷ a_number i h ∷ a_string t u ∷ in_group (a_word "core" w_core ∷ a_word "memory" w_memory ∷ []))) refl
  def_print k n (sh.alias_core_export {i = i} {t = t} sh.HoldsTypes.a_component_type h u sh.CoreKind.global) = goes 12 component_type_item (in_group (a_word "alias" w_alias ∷ a_word "core" w_core ∷ a_word "export" w_export ∷ a_number i h ∷ a_string t u ∷ in_group (a_word "core" w_core ∷ a_word "global" w_global ∷ []))) refl
  def_print k n (sh.alias_core_export {i = i} {t = t} sh.HoldsTypes.a_component_type h u sh.CoreKind.a_tag) = goes 12 component_type_item (in_group (a_word "alias" w_alias ∷ a_word "core" w_core ∷ a_word "export" w_export ∷ a_number i h ∷ a_string t u ∷ in_group (a_word "core" w_core ∷ a_word "tag" w_tag ∷ []))) refl
  def_print k n (sh.alias_outer {d = d} {i = i} sh.HoldsTypes.a_component_type h u sh.OuterKind.core_module) = goes 12 component_type_item (in_group (a_word "alias" w_alias ∷ a_word "outer" w_outer ∷ a_number d h ∷ a_number i u ∷ in_group (a_word "core" w_core ∷ a_word "module" w_module ∷ []))) refl
  def_print k n (sh.alias_outer {d = d} {i = i} sh.HoldsTypes.a_component_type h u sh.OuterKind.core_type) = goes 12 component_type_item (in_group (a_word "alias" w_alias ∷ a_word "outer" w_outer ∷ a_number d h ∷ a_number i u ∷ in_group (a_word "core" w_core ∷ a_word "type" w_type ∷ []))) refl
  def_print k n (sh.alias_outer {d = d} {i = i} sh.HoldsTypes.a_component_type h u sh.OuterKind.type) = goes 12 component_type_item (in_group (a_word "alias" w_alias ∷ a_word "outer" w_outer ∷ a_number d h ∷ a_number i u ∷ in_group (a_word "type" w_type ∷ []))) refl
  def_print k n (sh.alias_outer {d = d} {i = i} sh.HoldsTypes.a_component_type h u sh.OuterKind.component) = goes 12 component_type_item (in_group (a_word "alias" w_alias ∷ a_word "outer" w_outer ∷ a_number d h ∷ a_number i u ∷ in_group (a_word "component" w_component ∷ []))) refl
  def_print k n (sh.primitive {n = c} sh.HoldsTypes.an_instance_type h) = primitive_in_an_instance_type c h
  def_print k n (sh.record_type {ns = ns} sh.HoldsTypes.an_instance_type h) = with_nodes make.record_type ns (goes 12 instance_type_item (a_type (in_group (a_word "record" w_record ∷ a_list sh.NamedPrintable g.going (named_rule "field") "field" field_print ns h ∷ []))) refl)
  def_print k n (sh.variant_type {ns = ns} sh.HoldsTypes.an_instance_type h) = with_nodes make.variant_type ns (goes 12 instance_type_item (a_type (in_group (a_word "variant" w_variant ∷ a_list sh.CasePrintable g.going case_rule "case" case_print ns h ∷ []))) refl)
  def_print k n (sh.list_type {l = l} sh.HoldsTypes.an_instance_type h) = with_value l h (make.list_type l) (goes 12 instance_type_item (a_type (in_group (a_word "list" w_list ∷ a_value l h ∷ []))) refl)
  def_print k n (sh.fixed_length_list_type {l = l} {n = c} sh.HoldsTypes.an_instance_type h u) = with_value l h (make.fixed_length_list_type l c) (goes 12 instance_type_item (a_type (in_group (a_word "list" w_list ∷ a_value l h ∷ a_number c u ∷ []))) refl)
  def_print k n (sh.tuple_type {ns = ns} sh.HoldsTypes.an_instance_type h) = with_nodes make.tuple_type ns (goes 12 instance_type_item (a_type (in_group (a_word "tuple" w_tuple ∷ bare_list sh.LonePrintable lone_rule lone_print ns h ∷ []))) refl)
  def_print k n (sh.flags_type {ns = ns} sh.HoldsTypes.an_instance_type h) = with_nodes make.flags_type ns (goes 12 instance_type_item (a_type (in_group (a_word "flags" w_flags ∷ bare_list sh.NamePrintable name_rule name_print ns h ∷ []))) refl)
  def_print k n (sh.enum_type {ns = ns} sh.HoldsTypes.an_instance_type h) = with_nodes make.enum_type ns (goes 12 instance_type_item (a_type (in_group (a_word "enum" w_enum ∷ bare_list sh.NamePrintable name_rule name_print ns h ∷ []))) refl)
  def_print k n (sh.option_type {l = l} sh.HoldsTypes.an_instance_type h) = with_value l h (make.option_type l) (goes 12 instance_type_item (a_type (in_group (a_word "option" w_option ∷ a_value l h ∷ []))) refl)
  def_print k n (sh.result_type sh.HoldsTypes.an_instance_type sh.MaybePrintable.none sh.MaybePrintable.none) = goes 12 instance_type_item (a_type (in_group (a_word "result" w_result ∷ []))) refl
  def_print k n (sh.result_type sh.HoldsTypes.an_instance_type (sh.MaybePrintable.some {l = a} h) sh.MaybePrintable.none) = goes 12 instance_type_item (a_type (in_group (a_word "result" w_result ∷ a_value a h ∷ []))) refl
  def_print k n (sh.result_type sh.HoldsTypes.an_instance_type sh.MaybePrintable.none (sh.MaybePrintable.some {l = b} u)) = as_tokens (tail_back (λ l. printed.opening ∷ printed.word (codes "type") ∷ printed.opening ∷ printed.word (codes "result") ∷ printed.opening ∷ printed.word (codes "error") ∷ l) (leaf_tokens b line.value) (printed.closing ∷ printed.closing ∷ [])) (goes 12 instance_type_item (a_type (in_group (a_word "result" w_result ∷ in_group (a_word "error" w_error ∷ a_value b u ∷ [])))) refl)
  def_print k n (sh.result_type sh.HoldsTypes.an_instance_type (sh.MaybePrintable.some {l = a} h) (sh.MaybePrintable.some {l = b} u)) = as_tokens (tail_back (λ l. printed.opening ∷ printed.word (codes "type") ∷ printed.opening ∷ printed.word (codes "result") ∷ (leaf_tokens a line.value ++ printed.opening ∷ printed.word (codes "error") ∷ l)) (leaf_tokens b line.value) (printed.closing ∷ printed.closing ∷ [])) (goes 12 instance_type_item (a_type (in_group (a_word "result" w_result ∷ a_value a h ∷ in_group (a_word "error" w_error ∷ a_value b u ∷ [])))) refl)
  def_print k n (sh.own_type {i = i} sh.HoldsTypes.an_instance_type h) = goes 12 instance_type_item (a_type (in_group (a_word "own" w_own ∷ a_number i h ∷ []))) refl
  def_print k n (sh.borrow_type {i = i} sh.HoldsTypes.an_instance_type h) = goes 12 instance_type_item (a_type (in_group (a_word "borrow" w_borrow ∷ a_number i h ∷ []))) refl
  def_print k n (sh.stream_type sh.HoldsTypes.an_instance_type sh.MaybePrintable.none) = goes 12 instance_type_item (a_type (in_group (a_word "stream" w_stream ∷ []))) refl
  def_print k n (sh.stream_type sh.HoldsTypes.an_instance_type (sh.MaybePrintable.some {l = l} h)) = goes 12 instance_type_item (a_type (in_group (a_word "stream" w_stream ∷ a_value l h ∷ []))) refl
  def_print k n (sh.future_type sh.HoldsTypes.an_instance_type sh.MaybePrintable.none) = goes 12 instance_type_item (a_type (in_group (a_word "future" w_future ∷ []))) refl
  def_print k n (sh.future_type sh.HoldsTypes.an_instance_type (sh.MaybePrintable.some {l = l} h)) = goes 12 instance_type_item (a_type (in_group (a_word "future" w_future ∷ a_value l h ∷ []))) refl
  def_print k n (sh.plain_function {ns = ns} sh.HoldsTypes.an_instance_type h sh.MaybePrintable.none) = with_nodes (λ q. make.function_type 0 q m.absent) ns (goes 12 instance_type_item (a_type (in_group (a_word "func" w_func ∷ a_list sh.NamedPrintable (is_group "param") (named_rule "param") "param" param_print ns h ∷ []))) refl)
  def_print k n (sh.plain_function {ns = ns} sh.HoldsTypes.an_instance_type h (sh.MaybePrintable.some {l = l} u)) = with_nodes (λ q. make.function_type 0 q (m.present l)) ns (as_tokens (tail_back (λ z. printed.opening ∷ printed.word (codes "type") ∷ printed.opening ∷ printed.word (codes "func") ∷ (groups_tokens "param" ns ++ printed.opening ∷ printed.word (codes "result") ∷ z)) (leaf_tokens l line.value) (printed.closing ∷ printed.closing ∷ [])) (goes 12 instance_type_item (a_type (in_group (a_word "func" w_func ∷ a_list sh.NamedPrintable (is_group "param") (named_rule "param") "param" param_print ns h ∷ in_group (a_word "result" w_result ∷ a_value l u ∷ [])))) refl))
  def_print k n (sh.async_function {ns = ns} sh.HoldsTypes.an_instance_type h sh.MaybePrintable.none) = with_nodes (λ q. make.function_type 1 q m.absent) ns (goes 12 instance_type_item (a_type (in_group (a_word "func" w_func ∷ a_word "async" w_async ∷ a_list sh.NamedPrintable (is_group "param") (named_rule "param") "param" param_print ns h ∷ []))) refl)
  def_print k n (sh.async_function {ns = ns} sh.HoldsTypes.an_instance_type h (sh.MaybePrintable.some {l = l} u)) = with_nodes (λ q. make.function_type 1 q (m.present l)) ns (as_tokens (tail_back (λ z. printed.opening ∷ printed.word (codes "type") ∷ printed.opening ∷ printed.word (codes "func") ∷ printed.word (codes "async") ∷ (groups_tokens "param" ns ++ printed.opening ∷ printed.word (codes "result") ∷ z)) (leaf_tokens l line.value) (printed.closing ∷ printed.closing ∷ [])) (goes 12 instance_type_item (a_type (in_group (a_word "func" w_func ∷ a_word "async" w_async ∷ a_list sh.NamedPrintable (is_group "param") (named_rule "param") "param" param_print ns h ∷ in_group (a_word "result" w_result ∷ a_value l u ∷ [])))) refl))
  def_print k n (sh.component_type {ds = ds} sh.HoldsTypes.an_instance_type h) = with_defs (λ q. make.component_type (scope_of kinds.ComponentType None None q)) ds (goes 12 instance_type_item (a_type (in_group (a_word "component" w_component ∷ of_rows g.ComponentTypeItem (definitions_tokens kinds.ComponentType ds) (some_defs ds) (defs_print kinds.ComponentType ds h) ∷ []))) refl)
  def_print k n (sh.instance_type {ds = ds} sh.HoldsTypes.an_instance_type h) = with_defs (λ q. make.instance_type (scope_of kinds.InstanceType None None q)) ds (goes 12 instance_type_item (a_type (in_group (a_word "instance" w_instance ∷ of_rows g.InstanceTypeItem (definitions_tokens kinds.InstanceType ds) (some_defs ds) (defs_print kinds.InstanceType ds h) ∷ []))) refl)
  def_print k n (sh.resource_type sh.HoldsTypes.an_instance_type sh.CorePrintable.i32 sh.MaybeFunction.none) = goes 12 instance_type_item (a_type (in_group (a_word "resource" w_resource ∷ in_group (a_word "rep" w_rep ∷ (a_word "i32" w_i32 ∷ []))))) refl
  def_print k n (sh.resource_type sh.HoldsTypes.an_instance_type sh.CorePrintable.i32 (sh.MaybeFunction.some {i} u)) = goes 12 instance_type_item (a_type (in_group (a_word "resource" w_resource ∷ (in_group (a_word "rep" w_rep ∷ (a_word "i32" w_i32 ∷ [])) ++ in_group (a_word "dtor" w_dtor ∷ a_number i u ∷ []))))) refl
  def_print k n (sh.resource_type sh.HoldsTypes.an_instance_type sh.CorePrintable.i64 sh.MaybeFunction.none) = goes 12 instance_type_item (a_type (in_group (a_word "resource" w_resource ∷ in_group (a_word "rep" w_rep ∷ (a_word "i64" w_i64 ∷ []))))) refl
  def_print k n (sh.resource_type sh.HoldsTypes.an_instance_type sh.CorePrintable.i64 (sh.MaybeFunction.some {i} u)) = goes 12 instance_type_item (a_type (in_group (a_word "resource" w_resource ∷ (in_group (a_word "rep" w_rep ∷ (a_word "i64" w_i64 ∷ [])) ++ in_group (a_word "dtor" w_dtor ∷ a_number i u ∷ []))))) refl
  def_print k n (sh.resource_type sh.HoldsTypes.an_instance_type sh.CorePrintable.f32 sh.MaybeFunction.none) = goes 12 instance_type_item (a_type (in_group (a_word "resource" w_resource ∷ in_group (a_word "rep" w_rep ∷ (a_word "f32" w_f32 ∷ []))))) refl
  def_print k n (sh.resource_type sh.HoldsTypes.an_instance_type sh.CorePrintable.f32 (sh.MaybeFunction.some {i} u)) = goes 12 instance_type_item (a_type (in_group (a_word "resource" w_resource ∷ (in_group (a_word "rep" w_rep ∷ (a_word "f32" w_f32 ∷ [])) ++ in_group (a_word "dtor" w_dtor ∷ a_number i u ∷ []))))) refl
  def_print k n (sh.resource_type sh.HoldsTypes.an_instance_type sh.CorePrintable.f64 sh.MaybeFunction.none) = goes 12 instance_type_item (a_type (in_group (a_word "resource" w_resource ∷ in_group (a_word "rep" w_rep ∷ (a_word "f64" w_f64 ∷ []))))) refl
  def_print k n (sh.resource_type sh.HoldsTypes.an_instance_type sh.CorePrintable.f64 (sh.MaybeFunction.some {i} u)) = goes 12 instance_type_item (a_type (in_group (a_word "resource" w_resource ∷ (in_group (a_word "rep" w_rep ∷ (a_word "f64" w_f64 ∷ [])) ++ in_group (a_word "dtor" w_dtor ∷ a_number i u ∷ []))))) refl
  def_print k n (sh.resource_type sh.HoldsTypes.an_instance_type sh.CorePrintable.v128 sh.MaybeFunction.none) = goes 12 instance_type_item (a_type (in_group (a_word "resource" w_resource ∷ in_group (a_word "rep" w_rep ∷ (a_word "v128" w_v128 ∷ []))))) refl
  def_print k n (sh.resource_type sh.HoldsTypes.an_instance_type sh.CorePrintable.v128 (sh.MaybeFunction.some {i} u)) = goes 12 instance_type_item (a_type (in_group (a_word "resource" w_resource ∷ (in_group (a_word "rep" w_rep ∷ (a_word "v128" w_v128 ∷ [])) ++ in_group (a_word "dtor" w_dtor ∷ a_number i u ∷ []))))) refl
  def_print k n (sh.resource_type sh.HoldsTypes.an_instance_type (sh.CorePrintable.func {b = true}) sh.MaybeFunction.none) = goes 12 instance_type_item (a_type (in_group (a_word "resource" w_resource ∷ in_group (a_word "rep" w_rep ∷ (a_word "funcref" w_funcref ∷ []))))) refl
  def_print k n (sh.resource_type sh.HoldsTypes.an_instance_type (sh.CorePrintable.func {b = true}) (sh.MaybeFunction.some {i} u)) = goes 12 instance_type_item (a_type (in_group (a_word "resource" w_resource ∷ (in_group (a_word "rep" w_rep ∷ (a_word "funcref" w_funcref ∷ [])) ++ in_group (a_word "dtor" w_dtor ∷ a_number i u ∷ []))))) refl
  def_print k n (sh.resource_type sh.HoldsTypes.an_instance_type (sh.CorePrintable.func {b = false}) sh.MaybeFunction.none) = goes 12 instance_type_item (a_type (in_group (a_word "resource" w_resource ∷ in_group (a_word "rep" w_rep ∷ (in_group (a_word "ref" w_ref ∷ a_word "func" w_func ∷ [])))))) refl
  def_print k n (sh.resource_type sh.HoldsTypes.an_instance_type (sh.CorePrintable.func {b = false}) (sh.MaybeFunction.some {i} u)) = goes 12 instance_type_item (a_type (in_group (a_word "resource" w_resource ∷ (in_group (a_word "rep" w_rep ∷ (in_group (a_word "ref" w_ref ∷ a_word "func" w_func ∷ []))) ++ in_group (a_word "dtor" w_dtor ∷ a_number i u ∷ []))))) refl
  def_print k n (sh.resource_type sh.HoldsTypes.an_instance_type (sh.CorePrintable.extern {b = true}) sh.MaybeFunction.none) = goes 12 instance_type_item (a_type (in_group (a_word "resource" w_resource ∷ in_group (a_word "rep" w_rep ∷ (a_word "externref" w_externref ∷ []))))) refl
  def_print k n (sh.resource_type sh.HoldsTypes.an_instance_type (sh.CorePrintable.extern {b = true}) (sh.MaybeFunction.some {i} u)) = goes 12 instance_type_item (a_type (in_group (a_word "resource" w_resource ∷ (in_group (a_word "rep" w_rep ∷ (a_word "externref" w_externref ∷ [])) ++ in_group (a_word "dtor" w_dtor ∷ a_number i u ∷ []))))) refl
  def_print k n (sh.resource_type sh.HoldsTypes.an_instance_type (sh.CorePrintable.extern {b = false}) sh.MaybeFunction.none) = goes 12 instance_type_item (a_type (in_group (a_word "resource" w_resource ∷ in_group (a_word "rep" w_rep ∷ (in_group (a_word "ref" w_ref ∷ a_word "extern" w_extern ∷ [])))))) refl
  def_print k n (sh.resource_type sh.HoldsTypes.an_instance_type (sh.CorePrintable.extern {b = false}) (sh.MaybeFunction.some {i} u)) = goes 12 instance_type_item (a_type (in_group (a_word "resource" w_resource ∷ (in_group (a_word "rep" w_rep ∷ (in_group (a_word "ref" w_ref ∷ a_word "extern" w_extern ∷ []))) ++ in_group (a_word "dtor" w_dtor ∷ a_number i u ∷ []))))) refl
  def_print k n (sh.resource_type sh.HoldsTypes.an_instance_type (sh.CorePrintable.index {b = true} {i = j} h) sh.MaybeFunction.none) = goes 12 instance_type_item (a_type (in_group (a_word "resource" w_resource ∷ in_group (a_word "rep" w_rep ∷ (in_group (a_word "ref" w_ref ∷ a_word "null" w_null ∷ a_number j h ∷ [])))))) refl
  def_print k n (sh.resource_type sh.HoldsTypes.an_instance_type (sh.CorePrintable.index {b = true} {i = j} h) (sh.MaybeFunction.some {i} u)) = goes 12 instance_type_item (a_type (in_group (a_word "resource" w_resource ∷ (in_group (a_word "rep" w_rep ∷ (in_group (a_word "ref" w_ref ∷ a_word "null" w_null ∷ a_number j h ∷ []))) ++ in_group (a_word "dtor" w_dtor ∷ a_number i u ∷ []))))) refl
  def_print k n (sh.resource_type sh.HoldsTypes.an_instance_type (sh.CorePrintable.index {b = false} {i = j} h) sh.MaybeFunction.none) = goes 12 instance_type_item (a_type (in_group (a_word "resource" w_resource ∷ in_group (a_word "rep" w_rep ∷ (in_group (a_word "ref" w_ref ∷ a_number j h ∷ [])))))) refl
  def_print k n (sh.resource_type sh.HoldsTypes.an_instance_type (sh.CorePrintable.index {b = false} {i = j} h) (sh.MaybeFunction.some {i} u)) = goes 12 instance_type_item (a_type (in_group (a_word "resource" w_resource ∷ (in_group (a_word "rep" w_rep ∷ (in_group (a_word "ref" w_ref ∷ a_number j h ∷ []))) ++ in_group (a_word "dtor" w_dtor ∷ a_number i u ∷ []))))) refl
  def_print k n (sh.core_function_type {ps = ps} {rs = rs} sh.HoldsTypes.an_instance_type h u) = as_bin (ap (λ q. a_def (make.core_function_type q (nodes_from (nodes_list rs)))) (nodes_back ps) ∙ ap (λ q. a_def (make.core_function_type ps q)) (nodes_back rs)) (goes 12 instance_type_item (in_group (a_word "core" w_core ∷ a_word "type" w_type ∷ core_func ps rs h u)) refl)
  def_print k n (sh.core_rec {ns = ns} sh.HoldsTypes.an_instance_type h) = with_nodes make.core_rec ns (goes 12 instance_type_item (in_group (a_word "core" w_core ∷ a_word "rec" w_rec ∷ of_rule (r.many g.going core_types_rule) (groups_tokens "type" ns) (some_parts ns) (parts_print sh.CoreFunctionPrintable g.going core_types_rule "type" core_type_print ns h) ∷ [])) refl)
  def_print k n (sh.module_type {ds = ds} sh.HoldsTypes.an_instance_type h) = with_defs (λ q. make.module_type (scope_of kinds.ModuleType None None q)) ds (goes 12 instance_type_item (in_group (a_word "core" w_core ∷ a_word "type" w_type ∷ in_group (a_word "module" w_module ∷ of_rows g.ModuleTypeItem (definitions_tokens kinds.ModuleType ds) (some_defs ds) (defs_print kinds.ModuleType ds h) ∷ []))) refl)
  def_print k n (sh.alias_export {i = i} {t = t} sh.HoldsTypes.an_instance_type h u sh.Kind.core_module) = goes 12 instance_type_item (in_group (a_word "alias" w_alias ∷ a_word "export" w_export ∷ a_number i h ∷ a_string t u ∷ in_group (a_word "core" w_core ∷ a_word "module" w_module ∷ []))) refl
  def_print k n (sh.alias_export {i = i} {t = t} sh.HoldsTypes.an_instance_type h u sh.Kind.func) = goes 12 instance_type_item (in_group (a_word "alias" w_alias ∷ a_word "export" w_export ∷ a_number i h ∷ a_string t u ∷ in_group (a_word "func" w_func ∷ []))) refl
  def_print k n (sh.alias_export {i = i} {t = t} sh.HoldsTypes.an_instance_type h u sh.Kind.value) = goes 12 instance_type_item (in_group (a_word "alias" w_alias ∷ a_word "export" w_export ∷ a_number i h ∷ a_string t u ∷ in_group (a_word "value" w_value ∷ []))) refl
  def_print k n (sh.alias_export {i = i} {t = t} sh.HoldsTypes.an_instance_type h u sh.Kind.type) = goes 12 instance_type_item (in_group (a_word "alias" w_alias ∷ a_word "export" w_export ∷ a_number i h ∷ a_string t u ∷ in_group (a_word "type" w_type ∷ []))) refl
  def_print k n (sh.alias_export {i = i} {t = t} sh.HoldsTypes.an_instance_type h u sh.Kind.component) = goes 12 instance_type_item (in_group (a_word "alias" w_alias ∷ a_word "export" w_export ∷ a_number i h ∷ a_string t u ∷ in_group (a_word "component" w_component ∷ []))) refl
  def_print k n (sh.alias_export {i = i} {t = t} sh.HoldsTypes.an_instance_type h u sh.Kind.instance) = goes 12 instance_type_item (in_group (a_word "alias" w_alias ∷ a_word "export" w_export ∷ a_number i h ∷ a_string t u ∷ in_group (a_word "instance" w_instance ∷ []))) refl
  def_print k n (sh.alias_core_export {i = i} {t = t} sh.HoldsTypes.an_instance_type h u sh.CoreKind.func) = goes 12 instance_type_item (in_group (a_word "alias" w_alias ∷ a_word "core" w_core ∷ a_word "export" w_export ∷ a_number i h ∷ a_string t u ∷ in_group (a_word "core" w_core ∷ a_word "func" w_func ∷ []))) refl
  def_print k n (sh.alias_core_export {i = i} {t = t} sh.HoldsTypes.an_instance_type h u sh.CoreKind.table) = goes 12 instance_type_item (in_group (a_word "alias" w_alias ∷ a_word "core" w_core ∷ a_word "export" w_export ∷ a_number i h ∷ a_string t u ∷ in_group (a_word "core" w_core ∷ a_word "table" w_table ∷ []))) refl
  def_print k n (sh.alias_core_export {i = i} {t = t} sh.HoldsTypes.an_instance_type h u sh.CoreKind.memory) = goes 12 instance_type_item (in_group (a_word "alias" w_alias ∷ a_word "core" w_core ∷ a_word "export" w_export ∷ a_number i h ∷ a_string t u ∷ in_group (a_word "core" w_core ∷ a_word "memory" w_memory ∷ []))) refl
  def_print k n (sh.alias_core_export {i = i} {t = t} sh.HoldsTypes.an_instance_type h u sh.CoreKind.global) = goes 12 instance_type_item (in_group (a_word "alias" w_alias ∷ a_word "core" w_core ∷ a_word "export" w_export ∷ a_number i h ∷ a_string t u ∷ in_group (a_word "core" w_core ∷ a_word "global" w_global ∷ []))) refl
  def_print k n (sh.alias_core_export {i = i} {t = t} sh.HoldsTypes.an_instance_type h u sh.CoreKind.a_tag) = goes 12 instance_type_item (in_group (a_word "alias" w_alias ∷ a_word "core" w_core ∷ a_word "export" w_export ∷ a_number i h ∷ a_string t u ∷ in_group (a_word "core" w_core ∷ a_word "tag" w_tag ∷ []))) refl
  def_print k n (sh.alias_outer {d = d} {i = i} sh.HoldsTypes.an_instance_type h u sh.OuterKind.core_module) = goes 12 instance_type_item (in_group (a_word "alias" w_alias ∷ a_word "outer" w_outer ∷ a_number d h ∷ a_number i u ∷ in_group (a_word "core" w_core ∷ a_word "module" w_module ∷ []))) refl
  def_print k n (sh.alias_outer {d = d} {i = i} sh.HoldsTypes.an_instance_type h u sh.OuterKind.core_type) = goes 12 instance_type_item (in_group (a_word "alias" w_alias ∷ a_word "outer" w_outer ∷ a_number d h ∷ a_number i u ∷ in_group (a_word "core" w_core ∷ a_word "type" w_type ∷ []))) refl
  def_print k n (sh.alias_outer {d = d} {i = i} sh.HoldsTypes.an_instance_type h u sh.OuterKind.type) = goes 12 instance_type_item (in_group (a_word "alias" w_alias ∷ a_word "outer" w_outer ∷ a_number d h ∷ a_number i u ∷ in_group (a_word "type" w_type ∷ []))) refl
  def_print k n (sh.alias_outer {d = d} {i = i} sh.HoldsTypes.an_instance_type h u sh.OuterKind.component) = goes 12 instance_type_item (in_group (a_word "alias" w_alias ∷ a_word "outer" w_outer ∷ a_number d h ∷ a_number i u ∷ in_group (a_word "component" w_component ∷ []))) refl
  def_print k n (sh.core_instantiate {i = i} {ns = ns} h u) = with_nodes (make.core_instantiate (m.index i)) ns (goes 12 component_item (in_group (a_word "core" w_core ∷ a_word "instance" w_instance ∷ in_group (a_word "instantiate" w_instantiate ∷ a_number i h ∷ a_list sh.CoreArgumentPrintable g.going core_argument_rule "with" core_argument_print ns u ∷ []))) refl)
  def_print k n (sh.core_bundle {ns = ns} u) = with_nodes make.core_bundle ns (goes 12 component_item (in_group (a_word "core" w_core ∷ a_word "instance" w_instance ∷ a_list sh.CoreExportPrintable g.going core_export_rule "export" core_export_print ns u ∷ [])) refl)
  def_print k n (sh.DefPrintable.component {ds = ds} h) = with_defs (λ q. make.component (scope_of kinds.Component None None q)) ds (goes 12 component_item (in_group (a_word "component" w_component ∷ of_defs (definitions_tokens kinds.Component ds) (some_defs ds) (defs_print kinds.Component ds h) (no_exports ds h) (no_imports ds h) ∷ [])) refl)
  def_print k n (sh.instantiate {i = i} {ns = ns} h u) = with_nodes (make.instantiate (m.index i)) ns (goes 12 component_item (in_group (a_word "instance" w_instance ∷ in_group (a_word "instantiate" w_instantiate ∷ a_number i h ∷ a_list sh.ArgumentPrintable g.going argument_rule "with" argument_print ns u ∷ []))) refl)
  def_print k n (sh.bundle {ns = no_node} u) = goes 12 component_item (in_group (a_word "instance" w_instance ∷ [])) refl
  def_print k n (sh.bundle {ns = one_node x ns} u) = bundle_print x ns u.0 u.1
  def_print k n (sh.lift {t = t} {f = f} {ns = ns} h u o) = with_nodes (make.lift (m.index t) (m.index f)) ns (goes 12 component_item (in_group (a_word "canon" w_canon ∷ a_word "lift" w_lift ∷ (in_group (a_word "core" w_core ∷ a_word "func" w_func ∷ a_number f u ∷ []) ++ the_options ns o ∷ in_group (a_word "func" w_func ∷ in_group (a_word "type" w_type ∷ a_number t h ∷ []))))) refl)
  def_print k n (sh.lower {f = f} {ns = ns} h o) = with_nodes (make.lower (m.index f)) ns (goes 12 component_item (built_in "lower" w_lower (in_group (a_word "func" w_func ∷ a_number f h ∷ []) ++ the_options ns o ∷ [])) refl)
  def_print k n sh.task_cancel = goes 12 component_item (built_in "task.cancel" w_task_cancel []) refl
  def_print k n sh.subtask_drop = goes 12 component_item (built_in "subtask.drop" w_subtask_drop []) refl
  def_print k n sh.error_context_drop = goes 12 component_item (built_in "error-context.drop" w_error_context_drop []) refl
  def_print k n sh.waitable_set_new = goes 12 component_item (built_in "waitable-set.new" w_waitable_set_new []) refl
  def_print k n sh.waitable_set_drop = goes 12 component_item (built_in "waitable-set.drop" w_waitable_set_drop []) refl
  def_print k n sh.waitable_join = goes 12 component_item (built_in "waitable.join" w_waitable_join []) refl
  def_print k n sh.backpressure_inc = goes 12 component_item (built_in "backpressure.inc" w_backpressure_inc []) refl
  def_print k n sh.backpressure_dec = goes 12 component_item (built_in "backpressure.dec" w_backpressure_dec []) refl
  def_print k n sh.thread_available_parallelism = goes 12 component_item (built_in "thread.available-parallelism" w_thread_available_parallelism []) refl
  def_print k n (sh.resource_new {i = i} h) = goes 12 component_item (built_in "resource.new" w_resource_new (a_number i h ∷ [])) refl
  def_print k n (sh.resource_drop {i = i} h) = goes 12 component_item (built_in "resource.drop" w_resource_drop (a_number i h ∷ [])) refl
  def_print k n (sh.resource_rep {i = i} h) = goes 12 component_item (built_in "resource.rep" w_resource_rep (a_number i h ∷ [])) refl
  def_print k n (sh.stream_new {i = i} h) = goes 12 component_item (built_in "stream.new" w_stream_new (a_number i h ∷ [])) refl
  def_print k n (sh.stream_drop_readable {i = i} h) = goes 12 component_item (built_in "stream.drop-readable" w_stream_drop_readable (a_number i h ∷ [])) refl
  def_print k n (sh.stream_drop_writable {i = i} h) = goes 12 component_item (built_in "stream.drop-writable" w_stream_drop_writable (a_number i h ∷ [])) refl
  def_print k n (sh.future_new {i = i} h) = goes 12 component_item (built_in "future.new" w_future_new (a_number i h ∷ [])) refl
  def_print k n (sh.future_drop_readable {i = i} h) = goes 12 component_item (built_in "future.drop-readable" w_future_drop_readable (a_number i h ∷ [])) refl
  def_print k n (sh.future_drop_writable {i = i} h) = goes 12 component_item (built_in "future.drop-writable" w_future_drop_writable (a_number i h ∷ [])) refl
  def_print k n (sh.thread_spawn_ref {i = i} h) = goes 12 component_item (built_in "thread.spawn-ref" w_thread_spawn_ref (a_number i h ∷ [])) refl
  def_print k n (sh.stream_read {i = i} {ns = ns} h o) = with_nodes (make.of_type_with rows.StreamRead (m.index i)) ns (goes 12 component_item (built_in "stream.read" w_stream_read (a_number i h ∷ the_options ns o ∷ [])) refl)
  def_print k n (sh.stream_write {i = i} {ns = ns} h o) = with_nodes (make.of_type_with rows.StreamWrite (m.index i)) ns (goes 12 component_item (built_in "stream.write" w_stream_write (a_number i h ∷ the_options ns o ∷ [])) refl)
  def_print k n (sh.future_read {i = i} {ns = ns} h o) = with_nodes (make.of_type_with rows.FutureRead (m.index i)) ns (goes 12 component_item (built_in "future.read" w_future_read (a_number i h ∷ the_options ns o ∷ [])) refl)
  def_print k n (sh.future_write {i = i} {ns = ns} h o) = with_nodes (make.of_type_with rows.FutureWrite (m.index i)) ns (goes 12 component_item (built_in "future.write" w_future_write (a_number i h ∷ the_options ns o ∷ [])) refl)
  def_print k n (sh.stream_cancel_read_0 {i = i} h) = goes 12 component_item (built_in "stream.cancel-read" w_stream_cancel_read (a_number i h ∷ [])) refl
  def_print k n (sh.stream_cancel_read_1 {i = i} h) = goes 12 component_item (built_in "stream.cancel-read" w_stream_cancel_read (a_number i h ∷ a_word "async" w_async ∷ [])) refl
  def_print k n (sh.stream_cancel_write_0 {i = i} h) = goes 12 component_item (built_in "stream.cancel-write" w_stream_cancel_write (a_number i h ∷ [])) refl
  def_print k n (sh.stream_cancel_write_1 {i = i} h) = goes 12 component_item (built_in "stream.cancel-write" w_stream_cancel_write (a_number i h ∷ a_word "async" w_async ∷ [])) refl
  def_print k n (sh.future_cancel_read_0 {i = i} h) = goes 12 component_item (built_in "future.cancel-read" w_future_cancel_read (a_number i h ∷ [])) refl
  def_print k n (sh.future_cancel_read_1 {i = i} h) = goes 12 component_item (built_in "future.cancel-read" w_future_cancel_read (a_number i h ∷ a_word "async" w_async ∷ [])) refl
  def_print k n (sh.future_cancel_write_0 {i = i} h) = goes 12 component_item (built_in "future.cancel-write" w_future_cancel_write (a_number i h ∷ [])) refl
  def_print k n (sh.future_cancel_write_1 {i = i} h) = goes 12 component_item (built_in "future.cancel-write" w_future_cancel_write (a_number i h ∷ a_word "async" w_async ∷ [])) refl
  def_print k n sh.subtask_cancel_0 = goes 12 component_item (built_in "subtask.cancel" w_subtask_cancel []) refl
  def_print k n sh.subtask_cancel_1 = goes 12 component_item (built_in "subtask.cancel" w_subtask_cancel (a_word "async" w_async ∷ [])) refl
  def_print k n (sh.error_context_new {ns = ns} o) = with_nodes (make.of_options rows.ErrorContextNew) ns (goes 12 component_item (built_in "error-context.new" w_error_context_new (the_options ns o ∷ [])) refl)
  def_print k n (sh.error_context_debug_message {ns = ns} o) = with_nodes (make.of_options rows.ErrorContextDebugMessage) ns (goes 12 component_item (built_in "error-context.debug-message" w_error_context_debug_message (the_options ns o ∷ [])) refl)
  def_print k n (sh.context_get {n = c} sh.CorePrintable.i32 u) = goes 12 component_item (built_in "context.get" w_context_get ((a_word "i32" w_i32 ∷ []) ++ a_number c u ∷ [])) refl
  def_print k n (sh.context_get {n = c} sh.CorePrintable.i64 u) = goes 12 component_item (built_in "context.get" w_context_get ((a_word "i64" w_i64 ∷ []) ++ a_number c u ∷ [])) refl
  def_print k n (sh.context_get {n = c} sh.CorePrintable.f32 u) = goes 12 component_item (built_in "context.get" w_context_get ((a_word "f32" w_f32 ∷ []) ++ a_number c u ∷ [])) refl
  def_print k n (sh.context_get {n = c} sh.CorePrintable.f64 u) = goes 12 component_item (built_in "context.get" w_context_get ((a_word "f64" w_f64 ∷ []) ++ a_number c u ∷ [])) refl
  def_print k n (sh.context_get {n = c} sh.CorePrintable.v128 u) = goes 12 component_item (built_in "context.get" w_context_get ((a_word "v128" w_v128 ∷ []) ++ a_number c u ∷ [])) refl
  def_print k n (sh.context_get {n = c} (sh.CorePrintable.func {b = true}) u) = goes 12 component_item (built_in "context.get" w_context_get ((a_word "funcref" w_funcref ∷ []) ++ a_number c u ∷ [])) refl
  def_print k n (sh.context_get {n = c} (sh.CorePrintable.func {b = false}) u) = goes 12 component_item (built_in "context.get" w_context_get ((in_group (a_word "ref" w_ref ∷ a_word "func" w_func ∷ [])) ++ a_number c u ∷ [])) refl
  def_print k n (sh.context_get {n = c} (sh.CorePrintable.extern {b = true}) u) = goes 12 component_item (built_in "context.get" w_context_get ((a_word "externref" w_externref ∷ []) ++ a_number c u ∷ [])) refl
  def_print k n (sh.context_get {n = c} (sh.CorePrintable.extern {b = false}) u) = goes 12 component_item (built_in "context.get" w_context_get ((in_group (a_word "ref" w_ref ∷ a_word "extern" w_extern ∷ [])) ++ a_number c u ∷ [])) refl
  def_print k n (sh.context_get {n = c} (sh.CorePrintable.index {b = true} {i = j} h) u) = goes 12 component_item (built_in "context.get" w_context_get ((in_group (a_word "ref" w_ref ∷ a_word "null" w_null ∷ a_number j h ∷ [])) ++ a_number c u ∷ [])) refl
  def_print k n (sh.context_get {n = c} (sh.CorePrintable.index {b = false} {i = j} h) u) = goes 12 component_item (built_in "context.get" w_context_get ((in_group (a_word "ref" w_ref ∷ a_number j h ∷ [])) ++ a_number c u ∷ [])) refl
  def_print k n (sh.context_set {n = c} sh.CorePrintable.i32 u) = goes 12 component_item (built_in "context.set" w_context_set ((a_word "i32" w_i32 ∷ []) ++ a_number c u ∷ [])) refl
  def_print k n (sh.context_set {n = c} sh.CorePrintable.i64 u) = goes 12 component_item (built_in "context.set" w_context_set ((a_word "i64" w_i64 ∷ []) ++ a_number c u ∷ [])) refl
  def_print k n (sh.context_set {n = c} sh.CorePrintable.f32 u) = goes 12 component_item (built_in "context.set" w_context_set ((a_word "f32" w_f32 ∷ []) ++ a_number c u ∷ [])) refl
  def_print k n (sh.context_set {n = c} sh.CorePrintable.f64 u) = goes 12 component_item (built_in "context.set" w_context_set ((a_word "f64" w_f64 ∷ []) ++ a_number c u ∷ [])) refl
  def_print k n (sh.context_set {n = c} sh.CorePrintable.v128 u) = goes 12 component_item (built_in "context.set" w_context_set ((a_word "v128" w_v128 ∷ []) ++ a_number c u ∷ [])) refl
  def_print k n (sh.context_set {n = c} (sh.CorePrintable.func {b = true}) u) = goes 12 component_item (built_in "context.set" w_context_set ((a_word "funcref" w_funcref ∷ []) ++ a_number c u ∷ [])) refl
  def_print k n (sh.context_set {n = c} (sh.CorePrintable.func {b = false}) u) = goes 12 component_item (built_in "context.set" w_context_set ((in_group (a_word "ref" w_ref ∷ a_word "func" w_func ∷ [])) ++ a_number c u ∷ [])) refl
  def_print k n (sh.context_set {n = c} (sh.CorePrintable.extern {b = true}) u) = goes 12 component_item (built_in "context.set" w_context_set ((a_word "externref" w_externref ∷ []) ++ a_number c u ∷ [])) refl
  def_print k n (sh.context_set {n = c} (sh.CorePrintable.extern {b = false}) u) = goes 12 component_item (built_in "context.set" w_context_set ((in_group (a_word "ref" w_ref ∷ a_word "extern" w_extern ∷ [])) ++ a_number c u ∷ [])) refl
  def_print k n (sh.context_set {n = c} (sh.CorePrintable.index {b = true} {i = j} h) u) = goes 12 component_item (built_in "context.set" w_context_set ((in_group (a_word "ref" w_ref ∷ a_word "null" w_null ∷ a_number j h ∷ [])) ++ a_number c u ∷ [])) refl
  def_print k n (sh.context_set {n = c} (sh.CorePrintable.index {b = false} {i = j} h) u) = goes 12 component_item (built_in "context.set" w_context_set ((in_group (a_word "ref" w_ref ∷ a_number j h ∷ [])) ++ a_number c u ∷ [])) refl
  def_print k n (sh.task_return {ns = ns} sh.MaybePrintable.none o) = with_nodes (make.task_return m.absent) ns (goes 12 component_item (built_in "task.return" w_task_return (the_options ns o ∷ [])) refl)
  def_print k n (sh.task_return {ns = ns} (sh.MaybePrintable.some {l} u) o) = with_nodes (make.task_return (m.present l)) ns (as_tokens (tail_back (λ z. printed.opening ∷ printed.word (codes "canon") ∷ printed.word (codes "task.return") ∷ printed.opening ∷ printed.word (codes "result") ∷ z) (leaf_tokens l line.value) (nodes_tokens ns ++ printed.opening ∷ printed.word (codes "core") ∷ printed.word (codes "func") ∷ printed.closing ∷ printed.closing ∷ [])) (goes 12 component_item (built_in "task.return" w_task_return (in_group (a_word "result" w_result ∷ a_value l u ∷ []) ++ the_options ns o ∷ [])) refl))
  def_print k n (sh.thread_spawn_indirect {i = i} {j = j} h u) = goes 12 component_item (built_in "thread.spawn-indirect" w_thread_spawn_indirect (a_number i h ∷ a_number j u ∷ [])) refl
  def_print k n (sh.start {f = f} {n = c} {ns = ns} h u) = with_nodes (λ q. make.start (m.index f) q (m.result_count c)) ns (goes 12 component_item (in_group (a_word "start" w_start ∷ a_number f h ∷ a_list sh.StartArgumentPrintable (is_group "value") start_rule "value" start_argument_print ns u ∷ of_rule (r.many g.going result_rule) (results_tokens c) (ids c) (results_print c) ∷ [])) refl)
  def_print k n (sh.«import» {t = t} e (sh.module_of {i} h)) = goes 12 component_item (in_group (a_word "import" w_import ∷ a_string t e ∷ in_group (a_word "core" w_core ∷ a_word "module" w_module ∷ in_group (a_word "type" w_type ∷ a_number i h ∷ [])))) refl
  def_print k n (sh.«import» {t = t} e (sh.func_of {i} h)) = goes 12 component_item (in_group (a_word "import" w_import ∷ a_string t e ∷ in_group (a_word "func" w_func ∷ in_group (a_word "type" w_type ∷ a_number i h ∷ [])))) refl
  def_print k n (sh.«import» {t = t} e (sh.component_of {i} h)) = goes 12 component_item (in_group (a_word "import" w_import ∷ a_string t e ∷ in_group (a_word "component" w_component ∷ in_group (a_word "type" w_type ∷ a_number i h ∷ [])))) refl
  def_print k n (sh.«import» {t = t} e (sh.instance_of {i} h)) = goes 12 component_item (in_group (a_word "import" w_import ∷ a_string t e ∷ in_group (a_word "instance" w_instance ∷ in_group (a_word "type" w_type ∷ a_number i h ∷ [])))) refl
  def_print k n (sh.«import» {t = t} e (sh.equal_to {i} h)) = goes 12 component_item (in_group (a_word "import" w_import ∷ a_string t e ∷ in_group (a_word "type" w_type ∷ in_group (a_word "eq" w_eq ∷ a_number i h ∷ [])))) refl
  def_print k n (sh.«import» {t = t} e sh.resource) = goes 12 component_item (in_group (a_word "import" w_import ∷ a_string t e ∷ in_group (a_word "type" w_type ∷ in_group (a_word "sub" w_sub ∷ a_word "resource" w_resource ∷ [])))) refl
  def_print k n (sh.import_in_type {t = t} e (sh.module_of {i} h)) = goes 12 component_type_item (in_group (a_word "import" w_import ∷ a_string t e ∷ in_group (a_word "core" w_core ∷ a_word "module" w_module ∷ in_group (a_word "type" w_type ∷ a_number i h ∷ [])))) refl
  def_print k n (sh.import_in_type {t = t} e (sh.func_of {i} h)) = goes 12 component_type_item (in_group (a_word "import" w_import ∷ a_string t e ∷ in_group (a_word "func" w_func ∷ in_group (a_word "type" w_type ∷ a_number i h ∷ [])))) refl
  def_print k n (sh.import_in_type {t = t} e (sh.component_of {i} h)) = goes 12 component_type_item (in_group (a_word "import" w_import ∷ a_string t e ∷ in_group (a_word "component" w_component ∷ in_group (a_word "type" w_type ∷ a_number i h ∷ [])))) refl
  def_print k n (sh.import_in_type {t = t} e (sh.instance_of {i} h)) = goes 12 component_type_item (in_group (a_word "import" w_import ∷ a_string t e ∷ in_group (a_word "instance" w_instance ∷ in_group (a_word "type" w_type ∷ a_number i h ∷ [])))) refl
  def_print k n (sh.import_in_type {t = t} e (sh.equal_to {i} h)) = goes 12 component_type_item (in_group (a_word "import" w_import ∷ a_string t e ∷ in_group (a_word "type" w_type ∷ in_group (a_word "eq" w_eq ∷ a_number i h ∷ [])))) refl
  def_print k n (sh.import_in_type {t = t} e sh.resource) = goes 12 component_type_item (in_group (a_word "import" w_import ∷ a_string t e ∷ in_group (a_word "type" w_type ∷ in_group (a_word "sub" w_sub ∷ a_word "resource" w_resource ∷ [])))) refl
  def_print k n (sh.export_in_component_type {t = t} e (sh.module_of {i} h)) = goes 12 component_type_item (in_group (a_word "export" w_export ∷ a_string t e ∷ in_group (a_word "core" w_core ∷ a_word "module" w_module ∷ in_group (a_word "type" w_type ∷ a_number i h ∷ [])))) refl
  def_print k n (sh.export_in_component_type {t = t} e (sh.func_of {i} h)) = goes 12 component_type_item (in_group (a_word "export" w_export ∷ a_string t e ∷ in_group (a_word "func" w_func ∷ in_group (a_word "type" w_type ∷ a_number i h ∷ [])))) refl
  def_print k n (sh.export_in_component_type {t = t} e (sh.component_of {i} h)) = goes 12 component_type_item (in_group (a_word "export" w_export ∷ a_string t e ∷ in_group (a_word "component" w_component ∷ in_group (a_word "type" w_type ∷ a_number i h ∷ [])))) refl
  def_print k n (sh.export_in_component_type {t = t} e (sh.instance_of {i} h)) = goes 12 component_type_item (in_group (a_word "export" w_export ∷ a_string t e ∷ in_group (a_word "instance" w_instance ∷ in_group (a_word "type" w_type ∷ a_number i h ∷ [])))) refl
  def_print k n (sh.export_in_component_type {t = t} e (sh.equal_to {i} h)) = goes 12 component_type_item (in_group (a_word "export" w_export ∷ a_string t e ∷ in_group (a_word "type" w_type ∷ in_group (a_word "eq" w_eq ∷ a_number i h ∷ [])))) refl
  def_print k n (sh.export_in_component_type {t = t} e sh.resource) = goes 12 component_type_item (in_group (a_word "export" w_export ∷ a_string t e ∷ in_group (a_word "type" w_type ∷ in_group (a_word "sub" w_sub ∷ a_word "resource" w_resource ∷ [])))) refl
  def_print k n (sh.export_in_instance_type {t = t} e (sh.module_of {i} h)) = goes 12 instance_type_item (in_group (a_word "export" w_export ∷ a_string t e ∷ in_group (a_word "core" w_core ∷ a_word "module" w_module ∷ in_group (a_word "type" w_type ∷ a_number i h ∷ [])))) refl
  def_print k n (sh.export_in_instance_type {t = t} e (sh.func_of {i} h)) = goes 12 instance_type_item (in_group (a_word "export" w_export ∷ a_string t e ∷ in_group (a_word "func" w_func ∷ in_group (a_word "type" w_type ∷ a_number i h ∷ [])))) refl
  def_print k n (sh.export_in_instance_type {t = t} e (sh.component_of {i} h)) = goes 12 instance_type_item (in_group (a_word "export" w_export ∷ a_string t e ∷ in_group (a_word "component" w_component ∷ in_group (a_word "type" w_type ∷ a_number i h ∷ [])))) refl
  def_print k n (sh.export_in_instance_type {t = t} e (sh.instance_of {i} h)) = goes 12 instance_type_item (in_group (a_word "export" w_export ∷ a_string t e ∷ in_group (a_word "instance" w_instance ∷ in_group (a_word "type" w_type ∷ a_number i h ∷ [])))) refl
  def_print k n (sh.export_in_instance_type {t = t} e (sh.equal_to {i} h)) = goes 12 instance_type_item (in_group (a_word "export" w_export ∷ a_string t e ∷ in_group (a_word "type" w_type ∷ in_group (a_word "eq" w_eq ∷ a_number i h ∷ [])))) refl
  def_print k n (sh.export_in_instance_type {t = t} e sh.resource) = goes 12 instance_type_item (in_group (a_word "export" w_export ∷ a_string t e ∷ in_group (a_word "type" w_type ∷ in_group (a_word "sub" w_sub ∷ a_word "resource" w_resource ∷ [])))) refl
  def_print k n (sh.DefPrintable.export {t = t} {i = i} e sh.MaybeDescription.none sh.Kind.core_module h) = goes 12 component_item (in_group (a_word "export" w_export ∷ a_string t e ∷ in_group (a_word "core" w_core ∷ a_word "module" w_module ∷ a_number i h ∷ []))) refl
  def_print k n (sh.DefPrintable.export {t = t} {i = i} e (sh.MaybeDescription.some {n = d} u) sh.Kind.core_module h) = goes 12 component_item (in_group (a_word "export" w_export ∷ a_string t e ∷ (in_group (a_word "core" w_core ∷ a_word "module" w_module ∷ a_number i h ∷ []) ++ of_row g.NamelessSignature (node_tokens d) (a_leaf (m.node d)) (description_print d u) ∷ []))) refl
  def_print k n (sh.DefPrintable.export {t = t} {i = i} e sh.MaybeDescription.none sh.Kind.func h) = goes 12 component_item (in_group (a_word "export" w_export ∷ a_string t e ∷ in_group (a_word "func" w_func ∷ a_number i h ∷ []))) refl
  def_print k n (sh.DefPrintable.export {t = t} {i = i} e (sh.MaybeDescription.some {n = d} u) sh.Kind.func h) = goes 12 component_item (in_group (a_word "export" w_export ∷ a_string t e ∷ (in_group (a_word "func" w_func ∷ a_number i h ∷ []) ++ of_row g.NamelessSignature (node_tokens d) (a_leaf (m.node d)) (description_print d u) ∷ []))) refl
  def_print k n (sh.DefPrintable.export {t = t} {i = i} e sh.MaybeDescription.none sh.Kind.value h) = goes 12 component_item (in_group (a_word "export" w_export ∷ a_string t e ∷ in_group (a_word "value" w_value ∷ a_number i h ∷ []))) refl
  def_print k n (sh.DefPrintable.export {t = t} {i = i} e (sh.MaybeDescription.some {n = d} u) sh.Kind.value h) = goes 12 component_item (in_group (a_word "export" w_export ∷ a_string t e ∷ (in_group (a_word "value" w_value ∷ a_number i h ∷ []) ++ of_row g.NamelessSignature (node_tokens d) (a_leaf (m.node d)) (description_print d u) ∷ []))) refl
  def_print k n (sh.DefPrintable.export {t = t} {i = i} e sh.MaybeDescription.none sh.Kind.type h) = goes 12 component_item (in_group (a_word "export" w_export ∷ a_string t e ∷ in_group (a_word "type" w_type ∷ a_number i h ∷ []))) refl
  def_print k n (sh.DefPrintable.export {t = t} {i = i} e (sh.MaybeDescription.some {n = d} u) sh.Kind.type h) = goes 12 component_item (in_group (a_word "export" w_export ∷ a_string t e ∷ (in_group (a_word "type" w_type ∷ a_number i h ∷ []) ++ of_row g.NamelessSignature (node_tokens d) (a_leaf (m.node d)) (description_print d u) ∷ []))) refl
  def_print k n (sh.DefPrintable.export {t = t} {i = i} e sh.MaybeDescription.none sh.Kind.component h) = goes 12 component_item (in_group (a_word "export" w_export ∷ a_string t e ∷ in_group (a_word "component" w_component ∷ a_number i h ∷ []))) refl
  def_print k n (sh.DefPrintable.export {t = t} {i = i} e (sh.MaybeDescription.some {n = d} u) sh.Kind.component h) = goes 12 component_item (in_group (a_word "export" w_export ∷ a_string t e ∷ (in_group (a_word "component" w_component ∷ a_number i h ∷ []) ++ of_row g.NamelessSignature (node_tokens d) (a_leaf (m.node d)) (description_print d u) ∷ []))) refl
  def_print k n (sh.DefPrintable.export {t = t} {i = i} e sh.MaybeDescription.none sh.Kind.instance h) = goes 12 component_item (in_group (a_word "export" w_export ∷ a_string t e ∷ in_group (a_word "instance" w_instance ∷ a_number i h ∷ []))) refl
  def_print k n (sh.DefPrintable.export {t = t} {i = i} e (sh.MaybeDescription.some {n = d} u) sh.Kind.instance h) = goes 12 component_item (in_group (a_word "export" w_export ∷ a_string t e ∷ (in_group (a_word "instance" w_instance ∷ a_number i h ∷ []) ++ of_row g.NamelessSignature (node_tokens d) (a_leaf (m.node d)) (description_print d u) ∷ []))) refl
  def_print k n (sh.custom {t = t} {p = b} e h) = custom_print t b e h (is_utf8 b) refl
  def_print k n (sh.module_function_type {ps = ps} {rs = rs} h u) = as_bin (ap (λ q. a_def (make.core_function_type q (nodes_from (nodes_list rs)))) (nodes_back ps) ∙ ap (λ q. a_def (make.core_function_type ps q)) (nodes_back rs)) (goes 12 module_type_item (in_group (a_word "type" w_type ∷ core_func ps rs h u)) refl)
  def_print k n (sh.module_rec {ns = ns} h) = with_nodes make.core_rec ns (goes 12 module_type_item (in_group (a_word "rec" w_rec ∷ of_rule (r.many g.going core_types_rule) (groups_tokens "type" ns) (some_parts ns) (parts_print sh.CoreFunctionPrintable g.going core_types_rule "type" core_type_print ns h) ∷ [])) refl)
  def_print k n (sh.module_alias {d = d} {i = i} h u) = goes 12 module_type_item (in_group (a_word "alias" w_alias ∷ a_word "outer" w_outer ∷ a_number d h ∷ a_number i u ∷ in_group (a_word "type" w_type ∷ []))) refl
  def_print k n (sh.module_import {t = t} {u = s} e o (sh.EntityPrintable.func {i} h)) = goes 12 module_type_item (in_group (a_word "import" w_import ∷ a_string t e ∷ a_string s o ∷ in_group (a_word "func" w_func ∷ in_group (a_word "type" w_type ∷ a_number i h ∷ [])))) refl
  def_print k n (sh.module_export {t = t} e (sh.EntityPrintable.func {i} h)) = goes 12 module_type_item (in_group (a_word "export" w_export ∷ a_string t e ∷ in_group (a_word "func" w_func ∷ in_group (a_word "type" w_type ∷ a_number i h ∷ [])))) refl
  def_print k n (sh.module_import {t = t} {u = s} e o (sh.EntityPrintable.table {n = c} (sh.ReferencePrintable.func {b = true}) u sh.MaybeNumber.none)) = goes 12 module_type_item (in_group (a_word "import" w_import ∷ a_string t e ∷ a_string s o ∷ in_group (a_word "table" w_table ∷ a_number c u ∷ (a_word "funcref" w_funcref ∷ [])))) refl
  def_print k n (sh.module_export {t = t} e (sh.EntityPrintable.table {n = c} (sh.ReferencePrintable.func {b = true}) u sh.MaybeNumber.none)) = goes 12 module_type_item (in_group (a_word "export" w_export ∷ a_string t e ∷ in_group (a_word "table" w_table ∷ a_number c u ∷ (a_word "funcref" w_funcref ∷ [])))) refl
  def_print k n (sh.module_import {t = t} {u = s} e o (sh.EntityPrintable.table {n = c} (sh.ReferencePrintable.func {b = true}) u (sh.MaybeNumber.some {n = b} v))) = goes 12 module_type_item (in_group (a_word "import" w_import ∷ a_string t e ∷ a_string s o ∷ in_group (a_word "table" w_table ∷ a_number c u ∷ a_number b v ∷ (a_word "funcref" w_funcref ∷ [])))) refl
  def_print k n (sh.module_export {t = t} e (sh.EntityPrintable.table {n = c} (sh.ReferencePrintable.func {b = true}) u (sh.MaybeNumber.some {n = b} v))) = goes 12 module_type_item (in_group (a_word "export" w_export ∷ a_string t e ∷ in_group (a_word "table" w_table ∷ a_number c u ∷ a_number b v ∷ (a_word "funcref" w_funcref ∷ [])))) refl
  def_print k n (sh.module_import {t = t} {u = s} e o (sh.EntityPrintable.table {n = c} (sh.ReferencePrintable.func {b = false}) u sh.MaybeNumber.none)) = goes 12 module_type_item (in_group (a_word "import" w_import ∷ a_string t e ∷ a_string s o ∷ in_group (a_word "table" w_table ∷ a_number c u ∷ (in_group (a_word "ref" w_ref ∷ a_word "func" w_func ∷ []))))) refl
  def_print k n (sh.module_export {t = t} e (sh.EntityPrintable.table {n = c} (sh.ReferencePrintable.func {b = false}) u sh.MaybeNumber.none)) = goes 12 module_type_item (in_group (a_word "export" w_export ∷ a_string t e ∷ in_group (a_word "table" w_table ∷ a_number c u ∷ (in_group (a_word "ref" w_ref ∷ a_word "func" w_func ∷ []))))) refl
  def_print k n (sh.module_import {t = t} {u = s} e o (sh.EntityPrintable.table {n = c} (sh.ReferencePrintable.func {b = false}) u (sh.MaybeNumber.some {n = b} v))) = goes 12 module_type_item (in_group (a_word "import" w_import ∷ a_string t e ∷ a_string s o ∷ in_group (a_word "table" w_table ∷ a_number c u ∷ a_number b v ∷ (in_group (a_word "ref" w_ref ∷ a_word "func" w_func ∷ []))))) refl
  def_print k n (sh.module_export {t = t} e (sh.EntityPrintable.table {n = c} (sh.ReferencePrintable.func {b = false}) u (sh.MaybeNumber.some {n = b} v))) = goes 12 module_type_item (in_group (a_word "export" w_export ∷ a_string t e ∷ in_group (a_word "table" w_table ∷ a_number c u ∷ a_number b v ∷ (in_group (a_word "ref" w_ref ∷ a_word "func" w_func ∷ []))))) refl
  def_print k n (sh.module_import {t = t} {u = s} e o (sh.EntityPrintable.table {n = c} (sh.ReferencePrintable.extern {b = true}) u sh.MaybeNumber.none)) = goes 12 module_type_item (in_group (a_word "import" w_import ∷ a_string t e ∷ a_string s o ∷ in_group (a_word "table" w_table ∷ a_number c u ∷ (a_word "externref" w_externref ∷ [])))) refl
  def_print k n (sh.module_export {t = t} e (sh.EntityPrintable.table {n = c} (sh.ReferencePrintable.extern {b = true}) u sh.MaybeNumber.none)) = goes 12 module_type_item (in_group (a_word "export" w_export ∷ a_string t e ∷ in_group (a_word "table" w_table ∷ a_number c u ∷ (a_word "externref" w_externref ∷ [])))) refl
  def_print k n (sh.module_import {t = t} {u = s} e o (sh.EntityPrintable.table {n = c} (sh.ReferencePrintable.extern {b = true}) u (sh.MaybeNumber.some {n = b} v))) = goes 12 module_type_item (in_group (a_word "import" w_import ∷ a_string t e ∷ a_string s o ∷ in_group (a_word "table" w_table ∷ a_number c u ∷ a_number b v ∷ (a_word "externref" w_externref ∷ [])))) refl
  def_print k n (sh.module_export {t = t} e (sh.EntityPrintable.table {n = c} (sh.ReferencePrintable.extern {b = true}) u (sh.MaybeNumber.some {n = b} v))) = goes 12 module_type_item (in_group (a_word "export" w_export ∷ a_string t e ∷ in_group (a_word "table" w_table ∷ a_number c u ∷ a_number b v ∷ (a_word "externref" w_externref ∷ [])))) refl
  def_print k n (sh.module_import {t = t} {u = s} e o (sh.EntityPrintable.table {n = c} (sh.ReferencePrintable.extern {b = false}) u sh.MaybeNumber.none)) = goes 12 module_type_item (in_group (a_word "import" w_import ∷ a_string t e ∷ a_string s o ∷ in_group (a_word "table" w_table ∷ a_number c u ∷ (in_group (a_word "ref" w_ref ∷ a_word "extern" w_extern ∷ []))))) refl
  def_print k n (sh.module_export {t = t} e (sh.EntityPrintable.table {n = c} (sh.ReferencePrintable.extern {b = false}) u sh.MaybeNumber.none)) = goes 12 module_type_item (in_group (a_word "export" w_export ∷ a_string t e ∷ in_group (a_word "table" w_table ∷ a_number c u ∷ (in_group (a_word "ref" w_ref ∷ a_word "extern" w_extern ∷ []))))) refl
  def_print k n (sh.module_import {t = t} {u = s} e o (sh.EntityPrintable.table {n = c} (sh.ReferencePrintable.extern {b = false}) u (sh.MaybeNumber.some {n = b} v))) = goes 12 module_type_item (in_group (a_word "import" w_import ∷ a_string t e ∷ a_string s o ∷ in_group (a_word "table" w_table ∷ a_number c u ∷ a_number b v ∷ (in_group (a_word "ref" w_ref ∷ a_word "extern" w_extern ∷ []))))) refl
  def_print k n (sh.module_export {t = t} e (sh.EntityPrintable.table {n = c} (sh.ReferencePrintable.extern {b = false}) u (sh.MaybeNumber.some {n = b} v))) = goes 12 module_type_item (in_group (a_word "export" w_export ∷ a_string t e ∷ in_group (a_word "table" w_table ∷ a_number c u ∷ a_number b v ∷ (in_group (a_word "ref" w_ref ∷ a_word "extern" w_extern ∷ []))))) refl
  def_print k n (sh.module_import {t = t} {u = s} e o (sh.EntityPrintable.table {n = c} (sh.ReferencePrintable.index {b = true} {i = j} h) u sh.MaybeNumber.none)) = goes 12 module_type_item (in_group (a_word "import" w_import ∷ a_string t e ∷ a_string s o ∷ in_group (a_word "table" w_table ∷ a_number c u ∷ (in_group (a_word "ref" w_ref ∷ a_word "null" w_null ∷ a_number j h ∷ []))))) refl
  def_print k n (sh.module_export {t = t} e (sh.EntityPrintable.table {n = c} (sh.ReferencePrintable.index {b = true} {i = j} h) u sh.MaybeNumber.none)) = goes 12 module_type_item (in_group (a_word "export" w_export ∷ a_string t e ∷ in_group (a_word "table" w_table ∷ a_number c u ∷ (in_group (a_word "ref" w_ref ∷ a_word "null" w_null ∷ a_number j h ∷ []))))) refl
  def_print k n (sh.module_import {t = t} {u = s} e o (sh.EntityPrintable.table {n = c} (sh.ReferencePrintable.index {b = true} {i = j} h) u (sh.MaybeNumber.some {n = b} v))) = goes 12 module_type_item (in_group (a_word "import" w_import ∷ a_string t e ∷ a_string s o ∷ in_group (a_word "table" w_table ∷ a_number c u ∷ a_number b v ∷ (in_group (a_word "ref" w_ref ∷ a_word "null" w_null ∷ a_number j h ∷ []))))) refl
  def_print k n (sh.module_export {t = t} e (sh.EntityPrintable.table {n = c} (sh.ReferencePrintable.index {b = true} {i = j} h) u (sh.MaybeNumber.some {n = b} v))) = goes 12 module_type_item (in_group (a_word "export" w_export ∷ a_string t e ∷ in_group (a_word "table" w_table ∷ a_number c u ∷ a_number b v ∷ (in_group (a_word "ref" w_ref ∷ a_word "null" w_null ∷ a_number j h ∷ []))))) refl
  def_print k n (sh.module_import {t = t} {u = s} e o (sh.EntityPrintable.table {n = c} (sh.ReferencePrintable.index {b = false} {i = j} h) u sh.MaybeNumber.none)) = goes 12 module_type_item (in_group (a_word "import" w_import ∷ a_string t e ∷ a_string s o ∷ in_group (a_word "table" w_table ∷ a_number c u ∷ (in_group (a_word "ref" w_ref ∷ a_number j h ∷ []))))) refl
  def_print k n (sh.module_export {t = t} e (sh.EntityPrintable.table {n = c} (sh.ReferencePrintable.index {b = false} {i = j} h) u sh.MaybeNumber.none)) = goes 12 module_type_item (in_group (a_word "export" w_export ∷ a_string t e ∷ in_group (a_word "table" w_table ∷ a_number c u ∷ (in_group (a_word "ref" w_ref ∷ a_number j h ∷ []))))) refl
  def_print k n (sh.module_import {t = t} {u = s} e o (sh.EntityPrintable.table {n = c} (sh.ReferencePrintable.index {b = false} {i = j} h) u (sh.MaybeNumber.some {n = b} v))) = goes 12 module_type_item (in_group (a_word "import" w_import ∷ a_string t e ∷ a_string s o ∷ in_group (a_word "table" w_table ∷ a_number c u ∷ a_number b v ∷ (in_group (a_word "ref" w_ref ∷ a_number j h ∷ []))))) refl
  def_print k n (sh.module_export {t = t} e (sh.EntityPrintable.table {n = c} (sh.ReferencePrintable.index {b = false} {i = j} h) u (sh.MaybeNumber.some {n = b} v))) = goes 12 module_type_item (in_group (a_word "export" w_export ∷ a_string t e ∷ in_group (a_word "table" w_table ∷ a_number c u ∷ a_number b v ∷ (in_group (a_word "ref" w_ref ∷ a_number j h ∷ []))))) refl
  def_print k n (sh.module_import {t = t} {u = s} e o (sh.EntityPrintable.memory {n = c} u sh.MaybeNumber.none)) = goes 12 module_type_item (in_group (a_word "import" w_import ∷ a_string t e ∷ a_string s o ∷ in_group (a_word "memory" w_memory ∷ a_number c u ∷ []))) refl
  def_print k n (sh.module_export {t = t} e (sh.EntityPrintable.memory {n = c} u sh.MaybeNumber.none)) = goes 12 module_type_item (in_group (a_word "export" w_export ∷ a_string t e ∷ in_group (a_word "memory" w_memory ∷ a_number c u ∷ []))) refl
  def_print k n (sh.module_import {t = t} {u = s} e o (sh.EntityPrintable.memory {n = c} u (sh.MaybeNumber.some {n = b} v))) = goes 12 module_type_item (in_group (a_word "import" w_import ∷ a_string t e ∷ a_string s o ∷ in_group (a_word "memory" w_memory ∷ a_number c u ∷ a_number b v ∷ []))) refl
  def_print k n (sh.module_export {t = t} e (sh.EntityPrintable.memory {n = c} u (sh.MaybeNumber.some {n = b} v))) = goes 12 module_type_item (in_group (a_word "export" w_export ∷ a_string t e ∷ in_group (a_word "memory" w_memory ∷ a_number c u ∷ a_number b v ∷ []))) refl
  def_print k n (sh.module_import {t = t} {u = s} e o (sh.EntityPrintable.constant {v} h)) = as_tokens (tail_back (λ l. printed.opening ∷ printed.word (codes "import") ∷ printed.string t ∷ printed.string s ∷ printed.opening ∷ printed.word (codes "global") ∷ l) (value_tokens v) (printed.closing ∷ [])) (goes 12 module_type_item (in_group (a_word "import" w_import ∷ a_string t e ∷ a_string s o ∷ in_group (a_word "global" w_global ∷ a_core v h ∷ []))) refl)
  def_print k n (sh.module_export {t = t} e (sh.EntityPrintable.constant {v} h)) = as_tokens (tail_back (λ l. printed.opening ∷ printed.word (codes "export") ∷ printed.string t ∷ printed.opening ∷ printed.word (codes "global") ∷ l) (value_tokens v) (printed.closing ∷ [])) (goes 12 module_type_item (in_group (a_word "export" w_export ∷ a_string t e ∷ in_group (a_word "global" w_global ∷ a_core v h ∷ []))) refl)
  def_print k n (sh.module_import {t = t} {u = s} e o (sh.EntityPrintable.mutable {v} h)) = as_tokens (tail_back2 (λ l. printed.opening ∷ printed.word (codes "import") ∷ printed.string t ∷ printed.string s ∷ printed.opening ∷ printed.word (codes "global") ∷ printed.opening ∷ printed.word (codes "mut") ∷ l) (value_tokens v) (printed.closing ∷ [])) (goes 12 module_type_item (in_group (a_word "import" w_import ∷ a_string t e ∷ a_string s o ∷ in_group (a_word "global" w_global ∷ in_group (a_word "mut" w_mut ∷ a_core v h ∷ [])))) refl)
  def_print k n (sh.module_export {t = t} e (sh.EntityPrintable.mutable {v} h)) = as_tokens (tail_back2 (λ l. printed.opening ∷ printed.word (codes "export") ∷ printed.string t ∷ printed.opening ∷ printed.word (codes "global") ∷ printed.opening ∷ printed.word (codes "mut") ∷ l) (value_tokens v) (printed.closing ∷ [])) (goes 12 module_type_item (in_group (a_word "export" w_export ∷ a_string t e ∷ in_group (a_word "global" w_global ∷ in_group (a_word "mut" w_mut ∷ a_core v h ∷ [])))) refl)

  pub defs_print : (k : ScopeKind) (ds : Defs) → DefsPrintable k ds → (t : Test) → Prints (r.many t (r.row (item_row k))) (definitions_tokens k ds) (some_defs ds) Any
  defs_print k ds sh.no_more t = p_none t
  defs_print k ds (sh.one_more {n = n} {ds = es} h hs) t = as_tokens (front_tokens k no_names n es) (p_more t (λ ys z. tt) (p_row (item_row k) (row_in_table k) (def_print k n h)) (defs_print k es hs t))
