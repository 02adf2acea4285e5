-- Canonical functions, and functions that are made of one, in the words of the Component Model's Explainer.md.
use Rattle.std.specs.Prelude.{List, [], ◌∷◌, ◌+◌, ℕ, codes}
use Prim.Native.String.{String}
use Rattle.wast_grammar.specs.Classes.{keyword, opening}
use Rattle.wast_grammar.specs.Grammar.{Grammar, Test, CanonicalOption, Val, nothing, leaf, a_number, a_text, pair, either, many, case, no_case, cases, row, word, word_at, option, group, placed, next, next2, or_else, by_test}
use Rattle.wast_grammar.specs.ValueRows.{is_word, is_group, reference}
use Rattle.wast_grammar.specs.NameRows.{is_inline_import, inline_import, inline_alias}
use Rattle.wast_grammar.specs.ReferenceRows.{named, item_path, core_words, index_or_item, index_or_core, core_reference, memory_reference}
use Rattle.wast_grammar.specs.CoreTypeRows.{core_value, names}
use Rattle.wast_grammar.specs.TypeRows.{inline_exports, func_use}

-- ---- options

-- an option is next
abbrev pub is_option : Test
is_option = or_else (next (keyword (codes "string-encoding=utf8") ∷ keyword (codes "string-encoding=utf16") ∷ keyword (codes "string-encoding=latin1+utf16") ∷ keyword (codes "async") ∷ keyword (codes "gc") ∷ []))
    (next2 opening (keyword (codes "memory") ∷ keyword (codes "realloc") ∷ keyword (codes "post-return") ∷ keyword (codes "callback") ∷ keyword (codes "core-type") ∷ []))

-- opt = "string-encoding=utf8" | .. | "gc" | "(" "memory" memory ")" | "(" "realloc" cref("func") ")" | .. | "(" "core-type" cref("type") ")"
-- (Canonical Definitions)
abbrev pub canonical_option : Grammar
canonical_option = cases (
    (is_word "string-encoding=utf8", word "string-encoding=utf8" nothing)
    ∷ (is_word "string-encoding=utf16", word "string-encoding=utf16" nothing)
    ∷ (is_word "string-encoding=latin1+utf16", word "string-encoding=latin1+utf16" nothing)
    ∷ (is_word "async", word "async" nothing)
    ∷ (is_word "gc", word "gc" nothing)
    ∷ (is_group "memory", group (word "memory" memory_reference))
    ∷ (is_group "realloc", group (word "realloc" (core_reference "func")))
    ∷ (is_group "post-return", group (word "post-return" (core_reference "func")))
    ∷ (is_group "callback", group (word "callback" (core_reference "func")))
    ∷ (is_group "core-type", group (word "core-type" (core_reference "type")))
    ∷ [])

-- opt* (Canonical Definitions)
abbrev pub options : Grammar
options = many is_option (row CanonicalOption)

-- ---- built-ins

-- what stands behind the word of a built-in
pub data Parts : Type 0 where
  no_parts : Parts
  -- "(" "func" idx text* ")" opt*
  a_func_and_options : Parts
  -- ty, ty opt*, ty "async"?
  a_type : Parts
  a_type_and_options : Parts
  a_type_and_async : Parts
  -- opt*, "async"?
  options_alone : Parts
  async_alone : Parts
  -- ( "(" "result" val ")" )? opt*
  a_result_and_options : Parts
  -- cval num
  a_context : Parts
  -- nref("type"), nref("type") cref("table")
  a_core_type : Parts
  a_core_type_and_table : Parts
  -- "(" "memory" memory ")"
  a_memory : Parts

-- "async"? (Canonical Definitions)
abbrev pub optional_async : Grammar
optional_async = option (is_word "async") (word "async" nothing)

-- ( "(" "result" val ")" )? (Canonical Definitions)
abbrev pub optional_result : Grammar
optional_result = option (is_group "result") (group (word "result" (row Val)))

-- what they are read by
abbrev pub parts : Parts → Grammar
parts no_parts = nothing
parts a_func_and_options = pair (group (word "func" item_path)) options
parts a_type = index_or_item "type"
parts a_type_and_options = pair (index_or_item "type") options
parts a_type_and_async = pair (index_or_item "type") optional_async
parts options_alone = options
parts async_alone = optional_async
parts a_result_and_options = pair optional_result options
parts a_context = pair core_value (leaf a_number)
parts a_core_type = index_or_core "type"
parts a_core_type_and_table = pair (index_or_core "type") (core_reference "table")
parts a_memory = group (word "memory" memory_reference)

-- the words of the built-ins, and what stands behind each (Canonical Definitions, Canonical Built-ins)
abbrev pub built_in_words : List (String × Parts)
built_in_words =
    ("lower", a_func_and_options)
    ∷ ("resource.new", a_type)
    ∷ ("resource.drop", a_type)
    ∷ ("resource.rep", a_type)
    ∷ ("thread.spawn-ref", a_core_type)
    ∷ ("thread.spawn-indirect", a_core_type_and_table)
    ∷ ("thread.new-indirect", a_core_type_and_table)
    ∷ ("thread.available-parallelism", no_parts)
    ∷ ("thread.available_parallelism", no_parts)
    ∷ ("task.return", a_result_and_options)
    ∷ ("task.cancel", no_parts)
    ∷ ("context.get", a_context)
    ∷ ("context.set", a_context)
    ∷ ("subtask.drop", no_parts)
    ∷ ("subtask.cancel", async_alone)
    ∷ ("stream.new", a_type)
    ∷ ("stream.read", a_type_and_options)
    ∷ ("stream.write", a_type_and_options)
    ∷ ("stream.forward", a_type)
    ∷ ("stream.cancel-read", a_type_and_async)
    ∷ ("stream.cancel-write", a_type_and_async)
    ∷ ("stream.drop-readable", a_type)
    ∷ ("stream.drop-writable", a_type)
    ∷ ("future.new", a_type)
    ∷ ("future.read", a_type_and_options)
    ∷ ("future.write", a_type_and_options)
    ∷ ("future.forward", a_type)
    ∷ ("future.cancel-read", a_type_and_async)
    ∷ ("future.cancel-write", a_type_and_async)
    ∷ ("future.drop-readable", a_type)
    ∷ ("future.drop-writable", a_type)
    ∷ ("error-context.new", options_alone)
    ∷ ("error-context.debug-message", options_alone)
    ∷ ("error-context.drop", no_parts)
    ∷ ("backpressure.inc", no_parts)
    ∷ ("backpressure.dec", no_parts)
    ∷ ("waitable-set.new", no_parts)
    ∷ ("waitable-set.drop", no_parts)
    ∷ ("waitable.join", no_parts)
    ∷ ("waitable-set.wait", a_memory)
    ∷ ("waitable-set.poll", a_memory)
    ∷ ("thread.index", no_parts)
    ∷ ("thread.resume-later", no_parts)
    ∷ ("thread.suspend", no_parts)
    ∷ ("thread.yield", no_parts)
    ∷ ("thread.suspend-then-resume", no_parts)
    ∷ ("thread.yield-then-resume", no_parts)
    ∷ ("thread.suspend-then-promote", no_parts)
    ∷ ("thread.yield-then-promote", no_parts)
    ∷ []

-- each word with what stands behind it, by the number of the line
abbrev pub built_in_cases : ℕ → List (String × Parts) → Grammar
built_in_cases n [] = no_case
built_in_cases n (b ∷ bs) = case n (is_word b.0) (word b.0 (parts b.1)) (built_in_cases (n + 1) bs)

-- builtin, a line of the table (Canonical Definitions)
abbrev pub built_in : Grammar
built_in = built_in_cases 0 built_in_words

-- lift = "lift" "(" "core" "func" idx text? ")" opt* (Canonical Definitions)
abbrev pub lift : Grammar
lift = word "lift" (pair (group (core_words "func")) options)

-- ---- definitions

-- "core" "func" id? name? "(" ( "alias" "core" "export" idx text | "canon" builtin ) ")" (Alias Definitions; Canonical Definitions)
abbrev pub core_func : Grammar
core_func = pair (placed (word "core" (word "func" nothing))) (named (group (
    either (is_word "alias") (word "alias" (word "core" (word "export" (pair reference (leaf a_text))))) (word "canon" built_in))))

-- "func" id? name? iexp* ( iimp use(fty) | "(" "alias" "export" idx text ")" | use(fty) "(" "canon" lift ")" ) (Import and Export Definitions; Alias
-- Definitions; Canonical Definitions)
abbrev pub func : Grammar
func = pair (word_at "func") (named (pair inline_exports (by_test is_inline_import (pair inline_import func_use)
    (either (is_group "alias") (group inline_alias) (pair func_use (group (word "canon" lift)))))))

-- "canon" lift "(" "func" id? name? use(fty) ")" | "canon" builtin "(" "core" "func" id? name? ")" (Canonical Definitions)
abbrev pub canon : Grammar
canon = pair (word_at "canon") (either (is_word "lift") (pair lift (group (word "func" (named func_use)))) (pair built_in (group (word "core" (word "func" names)))))
