-- Canonical functions, and functions that are made of one, in the words of the Component Model's Explainer.md.
use Rattle.std.specs.Prelude.{ℕ, ◌+◌, List, [], ◌∷◌}
use Prim.Native.String.{String}
use Rattle.comp_model.specs.declared.Space.TheVariants as space
use Rattle.comp_model.specs.Core.{outward}
use Rattle.comp_model.specs.declared.row.Row.TheVariants as rows
use Rattle.comp_model.specs.declared.row.Row.{Row}
use Rattle.wast_grammar.specs.Grammar as g
use Rattle.wast_grammar.specs.ValueRows.{is_word, is_group}
use Rattle.wast_grammar.specs.NameRows.{is_inline_import}
use Rattle.wast_grammar.specs.CanonRows.{is_option, Parts, no_parts, a_func_and_options, a_type, a_type_and_options, a_type_and_async, options_alone, async_alone, a_result_and_options, a_context, a_core_type, a_core_type_and_table, a_memory}
use Rattle.text_rules.specs.Rule.{Rule, nothing, keeps, reference, pair, either, by_test, many, case, no_case, row, also, wraps, a_kind, a_text, a_count, a_node, a_list, a_def, last_first}
use Rattle.text_rules.specs.Forms.{word, lone_word, group, first_word, first_words, cases, of_row, entry, optional_id, optional_name, named}
use Rattle.text_rules.specs.ValueRules.{optional_async, optional_result}
use Rattle.text_rules.specs.ReferenceRules.{item_path, core_words, index_or_item, index_or_core, core_reference, memory_reference}
use Rattle.text_rules.specs.CoreTypeRules.{core_value}
use Rattle.text_rules.specs.TypeRules.{inline_exports, func_use}
use Rattle.text_rules.specs.InstanceRules.{inline_import}

-- ---- options

-- "(" w cref("func") ")" (Canonical Definitions)
abbrev pub func_option : String → Row → Rule
func_option w t = entry t (group (word w (core_reference "func" space.CoreFunc)))

-- opt = "string-encoding=utf8" | .. | "gc" | "(" "memory" memory ")" | "(" "realloc" cref("func") ")" | .. | "(" "core-type" cref("type") ")"
-- (Canonical Definitions)
abbrev pub canonical_option : Rule
canonical_option = cases (
    (is_word "string-encoding=utf8", entry rows.OptionUtf8 (lone_word "string-encoding=utf8"))
    ∷ (is_word "string-encoding=utf16", entry rows.OptionUtf16 (lone_word "string-encoding=utf16"))
    ∷ (is_word "string-encoding=latin1+utf16", entry rows.OptionLatin1Utf16 (lone_word "string-encoding=latin1+utf16"))
    ∷ (is_word "async", entry rows.OptionAsync (lone_word "async"))
    ∷ (is_word "gc", entry rows.OptionGc (lone_word "gc"))
    ∷ (is_group "memory", entry rows.OptionMemory (group (word "memory" memory_reference)))
    ∷ (is_group "realloc", func_option "realloc" rows.OptionRealloc)
    ∷ (is_group "post-return", func_option "post-return" rows.OptionPostReturn)
    ∷ (is_group "callback", func_option "callback" rows.OptionCallback)
    ∷ (is_group "core-type", entry rows.OptionCoreType (group (word "core-type" (core_reference "type" space.CoreType))))
    ∷ [])

-- opt* (Canonical Definitions)
abbrev pub options : Rule
options = wraps a_list (many is_option (row g.CanonicalOption))

-- ---- built-ins

-- ior("type") (Canonical Definitions)
abbrev pub type_of : Rule
type_of = index_or_item "type" space.Ty

-- what stands behind a word
abbrev pub parts : Parts → Rule
parts no_parts = nothing
parts a_func_and_options = pair (group (word "func" (item_path space.Func))) options
parts a_type = type_of
parts a_type_and_options = pair type_of options
parts a_type_and_async = pair type_of optional_async
parts options_alone = options
parts async_alone = optional_async
parts a_result_and_options = pair optional_result options
parts a_context = pair (core_value outward) (keeps a_count)
parts a_core_type = index_or_core "type" space.CoreType
parts a_core_type_and_table = pair (index_or_core "type" space.CoreType) (core_reference "table" space.CoreTable)
parts a_memory = group (word "memory" memory_reference)

-- each built-in: its word, its row and its parts
pub record BuiltIn : Type 0 where
  pub word : String
  pub row : Row
  pub parts : Parts

abbrev pub is : String → Row → Parts → BuiltIn
is w t p = record { word = w; row = t; parts = p }

-- the table of the built-ins (Canonical Definitions, Canonical Built-ins)
abbrev pub built_ins : List BuiltIn
built_ins =
    is "lower" rows.Lower a_func_and_options
    ∷ is "resource.new" rows.ResourceNew a_type
    ∷ is "resource.drop" rows.ResourceDrop a_type
    ∷ is "resource.rep" rows.ResourceRep a_type
    ∷ is "thread.spawn-ref" rows.ThreadSpawnRef a_core_type
    ∷ is "thread.spawn-indirect" rows.ThreadSpawnIndirect a_core_type_and_table
    ∷ is "thread.new-indirect" rows.ThreadNewIndirect a_core_type_and_table
    ∷ is "thread.available-parallelism" rows.ThreadAvailableParallelism no_parts
    ∷ is "thread.available_parallelism" rows.ThreadAvailableParallelism no_parts
    ∷ is "task.return" rows.TaskReturn a_result_and_options
    ∷ is "task.cancel" rows.TaskCancel no_parts
    ∷ is "context.get" rows.ContextGet a_context
    ∷ is "context.set" rows.ContextSet a_context
    ∷ is "subtask.drop" rows.SubtaskDrop no_parts
    ∷ is "subtask.cancel" rows.SubtaskCancel async_alone
    ∷ is "stream.new" rows.StreamNew a_type
    ∷ is "stream.read" rows.StreamRead a_type_and_options
    ∷ is "stream.write" rows.StreamWrite a_type_and_options
    ∷ is "stream.forward" rows.StreamForward a_type
    ∷ is "stream.cancel-read" rows.StreamCancelRead a_type_and_async
    ∷ is "stream.cancel-write" rows.StreamCancelWrite a_type_and_async
    ∷ is "stream.drop-readable" rows.StreamDropReadable a_type
    ∷ is "stream.drop-writable" rows.StreamDropWritable a_type
    ∷ is "future.new" rows.FutureNew a_type
    ∷ is "future.read" rows.FutureRead a_type_and_options
    ∷ is "future.write" rows.FutureWrite a_type_and_options
    ∷ is "future.forward" rows.FutureForward a_type
    ∷ is "future.cancel-read" rows.FutureCancelRead a_type_and_async
    ∷ is "future.cancel-write" rows.FutureCancelWrite a_type_and_async
    ∷ is "future.drop-readable" rows.FutureDropReadable a_type
    ∷ is "future.drop-writable" rows.FutureDropWritable a_type
    ∷ is "error-context.new" rows.ErrorContextNew options_alone
    ∷ is "error-context.debug-message" rows.ErrorContextDebugMessage options_alone
    ∷ is "error-context.drop" rows.ErrorContextDrop no_parts
    ∷ is "backpressure.inc" rows.BackpressureInc no_parts
    ∷ is "backpressure.dec" rows.BackpressureDec no_parts
    ∷ is "waitable-set.new" rows.WaitableSetNew no_parts
    ∷ is "waitable-set.drop" rows.WaitableSetDrop no_parts
    ∷ is "waitable.join" rows.WaitableJoin no_parts
    ∷ is "waitable-set.wait" rows.WaitableSetWait a_memory
    ∷ is "waitable-set.poll" rows.WaitableSetPoll a_memory
    ∷ is "thread.index" rows.ThreadIndex no_parts
    ∷ is "thread.resume-later" rows.ThreadResumeLater no_parts
    ∷ is "thread.suspend" rows.ThreadSuspend no_parts
    ∷ is "thread.yield" rows.ThreadYield no_parts
    ∷ is "thread.suspend-then-resume" rows.ThreadSuspendThenResume no_parts
    ∷ is "thread.yield-then-resume" rows.ThreadYieldThenResume no_parts
    ∷ is "thread.suspend-then-promote" rows.ThreadSuspendThenPromote no_parts
    ∷ is "thread.yield-then-promote" rows.ThreadYieldThenPromote no_parts
    ∷ []

-- a word with what stands behind it
abbrev pub built_in_line : BuiltIn → Rule
built_in_line b = of_row b.row (word b.word (parts b.parts))

-- each line, by its number
abbrev pub built_in_cases : ℕ → List BuiltIn → Rule
built_in_cases n [] = no_case
built_in_cases n (b ∷ bs) = case n (is_word b.word) (built_in_line b) (built_in_cases (n + 1) bs)

-- builtin, a line of the table (Canonical Definitions)
abbrev pub built_in : Rule
built_in = built_in_cases 0 built_ins

-- lift = "lift" "(" "core" "func" idx text? ")" opt*, without its type (Canonical Definitions)
abbrev pub lift : Rule
lift = word "lift" (pair (group (core_words "func" space.CoreFunc)) options)

-- ---- definitions

-- "alias" "core" "export" idx text (Alias Definitions)
abbrev pub core_alias : Rule
core_alias = of_row rows.AliasCoreExport (also (word "alias" (word "core" (word "export" (pair (reference space.CoreInstance outward) (keeps a_text))))) (a_kind space.CoreFunc))

-- "alias" "core" "export" idx text | "canon" builtin (Alias Definitions; Canonical Definitions)
abbrev pub core_func_kind : Rule
core_func_kind = either (is_word "alias") core_alias (word "canon" built_in)

-- "core" "func" id? name? "(" ( "alias" "core" "export" idx text | "canon" builtin ) ")" (Alias Definitions; Canonical Definitions)
abbrev pub core_func : Rule
core_func = wraps a_def (pair (first_words "core" "func") (named (group core_func_kind)))

-- "alias" "export" idx text (Alias Definitions)
abbrev pub inline_alias : Rule
inline_alias = of_row rows.AliasExport (also (word "alias" (word "export" (pair (reference space.Instance outward) (keeps a_text)))) (a_kind space.Func))

-- iimp use(fty) | "(" "alias" "export" idx text ")" | use(fty) "(" "canon" lift ")" (Import and Export Definitions; Alias Definitions; Canonical
-- Definitions)
abbrev pub func_kind : Rule
func_kind = by_test is_inline_import
    (of_row rows.Import (pair inline_import (wraps a_node (of_row rows.FuncDescription func_use))))
    (either (is_group "alias") (group inline_alias) (of_row rows.Lift (pair func_use (group (word "canon" lift)))))

-- "func" id? name? iexp* ( iimp use(fty) | "(" "alias" "export" idx text ")" | use(fty) "(" "canon" lift ")" ) (Import and Export Definitions; Alias
-- Definitions; Canonical Definitions)
abbrev pub func : Rule
func = wraps a_def (pair (first_word "func") (named (pair inline_exports func_kind)))

-- "canon" lift "(" "func" id? name? use(fty) ")" | "canon" builtin "(" "core" "func" id? name? ")" (Canonical Definitions)
-- The type of a lift stands in front of its function and its options.
abbrev pub canon : Rule
canon = wraps a_def (pair (first_word "canon") (either (is_word "lift")
    (of_row rows.Lift (wraps last_first (pair lift (group (word "func" (named func_use))))))
    (pair built_in (group (word "core" (word "func" (pair optional_id optional_name)))))))
