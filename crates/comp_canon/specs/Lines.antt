-- The lines of the table of the text format by which canonical functions and built-ins are read (Component Model, Explainer.md, Canonical
-- Definitions and Canonical Built-ins).
use Rattle.std.specs.Prelude.{[], ◌∷◌}
use Rattle.comp_model.specs.declared.row.Row.TheVariants as rows
use Rattle.text_rules.specs.CanonRules.{built_in_line, is}
use Rattle.text_rules.specs.Forms.{cases}
use Rattle.text_rules.specs.Rule.{Rule}
use Rattle.wast_grammar.specs.CanonRows.{no_parts, a_core_type, a_core_type_and_table, a_func_and_options, a_memory, a_type, a_type_and_async, a_type_and_options, async_alone, options_alone}
use Rattle.wast_grammar.specs.ValueRows.{is_word}

abbrev pub lower : Rule
lower = built_in_line (is "lower" rows.Lower a_func_and_options)

abbrev pub resource_new : Rule
resource_new = built_in_line (is "resource.new" rows.ResourceNew a_type)

abbrev pub resource_drop : Rule
resource_drop = built_in_line (is "resource.drop" rows.ResourceDrop a_type)

abbrev pub resource_rep : Rule
resource_rep = built_in_line (is "resource.rep" rows.ResourceRep a_type)

abbrev pub subtask_cancel : Rule
subtask_cancel = built_in_line (is "subtask.cancel" rows.SubtaskCancel async_alone)

abbrev pub stream_new : Rule
stream_new = built_in_line (is "stream.new" rows.StreamNew a_type)

abbrev pub stream_read : Rule
stream_read = built_in_line (is "stream.read" rows.StreamRead a_type_and_options)

abbrev pub stream_write : Rule
stream_write = built_in_line (is "stream.write" rows.StreamWrite a_type_and_options)

abbrev pub stream_forward : Rule
stream_forward = built_in_line (is "stream.forward" rows.StreamForward a_type)

abbrev pub stream_cancel_read : Rule
stream_cancel_read = built_in_line (is "stream.cancel-read" rows.StreamCancelRead a_type_and_async)

abbrev pub stream_cancel_write : Rule
stream_cancel_write = built_in_line (is "stream.cancel-write" rows.StreamCancelWrite a_type_and_async)

abbrev pub stream_drop_readable : Rule
stream_drop_readable = built_in_line (is "stream.drop-readable" rows.StreamDropReadable a_type)

abbrev pub stream_drop_writable : Rule
stream_drop_writable = built_in_line (is "stream.drop-writable" rows.StreamDropWritable a_type)

abbrev pub future_new : Rule
future_new = built_in_line (is "future.new" rows.FutureNew a_type)

abbrev pub future_read : Rule
future_read = built_in_line (is "future.read" rows.FutureRead a_type_and_options)

abbrev pub future_write : Rule
future_write = built_in_line (is "future.write" rows.FutureWrite a_type_and_options)

abbrev pub future_forward : Rule
future_forward = built_in_line (is "future.forward" rows.FutureForward a_type)

abbrev pub future_cancel_read : Rule
future_cancel_read = built_in_line (is "future.cancel-read" rows.FutureCancelRead a_type_and_async)

abbrev pub future_cancel_write : Rule
future_cancel_write = built_in_line (is "future.cancel-write" rows.FutureCancelWrite a_type_and_async)

abbrev pub future_drop_readable : Rule
future_drop_readable = built_in_line (is "future.drop-readable" rows.FutureDropReadable a_type)

abbrev pub future_drop_writable : Rule
future_drop_writable = built_in_line (is "future.drop-writable" rows.FutureDropWritable a_type)

abbrev pub error_context_new : Rule
error_context_new = built_in_line (is "error-context.new" rows.ErrorContextNew options_alone)

abbrev pub error_context_debug_message : Rule
error_context_debug_message = built_in_line (is "error-context.debug-message" rows.ErrorContextDebugMessage options_alone)

abbrev pub waitable_set_wait : Rule
waitable_set_wait = built_in_line (is "waitable-set.wait" rows.WaitableSetWait a_memory)

abbrev pub waitable_set_poll : Rule
waitable_set_poll = built_in_line (is "waitable-set.poll" rows.WaitableSetPoll a_memory)

abbrev pub thread_spawn_ref : Rule
thread_spawn_ref = built_in_line (is "thread.spawn-ref" rows.ThreadSpawnRef a_core_type)

abbrev pub thread_spawn_indirect : Rule
thread_spawn_indirect = built_in_line (is "thread.spawn-indirect" rows.ThreadSpawnIndirect a_core_type_and_table)

abbrev pub thread_new_indirect : Rule
thread_new_indirect = built_in_line (is "thread.new-indirect" rows.ThreadNewIndirect a_core_type_and_table)

-- both spellings of one word
abbrev pub thread_available_parallelism : Rule
thread_available_parallelism = cases (
    (is_word "thread.available-parallelism", built_in_line (is "thread.available-parallelism" rows.ThreadAvailableParallelism no_parts))
    ∷ (is_word "thread.available_parallelism", built_in_line (is "thread.available_parallelism" rows.ThreadAvailableParallelism no_parts))
    ∷ [])
