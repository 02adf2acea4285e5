-- What the checker computes of each line: it leaves the leaves of its row.
use Rattle.std.specs.Prelude.{List, [], ◌∷◌, refl}
use Rattle.comp_model.specs.Rows.{Shape, leaves_of, a_list, a_ref, options}
use Rattle.comp_model.specs.declared.Space.TheVariants as space
use Rattle.comp_model.specs.declared.row.Row.TheVariants as rows
use Rattle.text_rules.specs.CanonRules.{lift}
use Rattle.typed_parts.specs.OfShapes.{ReadsAs}
use Rattle.wast_grammar.specs.Rows.{text_row}
use Rattle.wast_grammar.specs.ValueRows.{reference}
use Rattle.comp_canon.specs.Lines as lines

-- the leaves of a lift but for its type, which is the first of its row
abbrev pub lift_shapes : List Shape
lift_shapes = a_ref space.CoreFunc ∷ a_list options ∷ []

pub lift_reads : ReadsAs lift lift_shapes
unfolding reference text_row
lift_reads = record { taken = refl; read_on = refl; decided = refl; shaped = refl }

pub lower_reads : ReadsAs lines.lower (leaves_of rows.Lower)
unfolding reference text_row
lower_reads = record { taken = refl; read_on = refl; decided = refl; shaped = refl }

pub resource_new_reads : ReadsAs lines.resource_new (leaves_of rows.ResourceNew)
unfolding reference
resource_new_reads = record { taken = refl; read_on = refl; decided = refl; shaped = refl }

pub resource_drop_reads : ReadsAs lines.resource_drop (leaves_of rows.ResourceDrop)
unfolding reference
resource_drop_reads = record { taken = refl; read_on = refl; decided = refl; shaped = refl }

pub resource_rep_reads : ReadsAs lines.resource_rep (leaves_of rows.ResourceRep)
unfolding reference
resource_rep_reads = record { taken = refl; read_on = refl; decided = refl; shaped = refl }

pub subtask_cancel_reads : ReadsAs lines.subtask_cancel (leaves_of rows.SubtaskCancel)
unfolding reference
subtask_cancel_reads = record { taken = refl; read_on = refl; decided = refl; shaped = refl }

pub stream_new_reads : ReadsAs lines.stream_new (leaves_of rows.StreamNew)
unfolding reference
stream_new_reads = record { taken = refl; read_on = refl; decided = refl; shaped = refl }

pub stream_read_reads : ReadsAs lines.stream_read (leaves_of rows.StreamRead)
unfolding reference text_row
stream_read_reads = record { taken = refl; read_on = refl; decided = refl; shaped = refl }

pub stream_write_reads : ReadsAs lines.stream_write (leaves_of rows.StreamWrite)
unfolding reference text_row
stream_write_reads = record { taken = refl; read_on = refl; decided = refl; shaped = refl }

pub stream_forward_reads : ReadsAs lines.stream_forward (leaves_of rows.StreamForward)
unfolding reference
stream_forward_reads = record { taken = refl; read_on = refl; decided = refl; shaped = refl }

pub stream_cancel_read_reads : ReadsAs lines.stream_cancel_read (leaves_of rows.StreamCancelRead)
unfolding reference
stream_cancel_read_reads = record { taken = refl; read_on = refl; decided = refl; shaped = refl }

pub stream_cancel_write_reads : ReadsAs lines.stream_cancel_write (leaves_of rows.StreamCancelWrite)
unfolding reference
stream_cancel_write_reads = record { taken = refl; read_on = refl; decided = refl; shaped = refl }

pub stream_drop_readable_reads : ReadsAs lines.stream_drop_readable (leaves_of rows.StreamDropReadable)
unfolding reference
stream_drop_readable_reads = record { taken = refl; read_on = refl; decided = refl; shaped = refl }

pub stream_drop_writable_reads : ReadsAs lines.stream_drop_writable (leaves_of rows.StreamDropWritable)
unfolding reference
stream_drop_writable_reads = record { taken = refl; read_on = refl; decided = refl; shaped = refl }

pub future_new_reads : ReadsAs lines.future_new (leaves_of rows.FutureNew)
unfolding reference
future_new_reads = record { taken = refl; read_on = refl; decided = refl; shaped = refl }

pub future_read_reads : ReadsAs lines.future_read (leaves_of rows.FutureRead)
unfolding reference text_row
future_read_reads = record { taken = refl; read_on = refl; decided = refl; shaped = refl }

pub future_write_reads : ReadsAs lines.future_write (leaves_of rows.FutureWrite)
unfolding reference text_row
future_write_reads = record { taken = refl; read_on = refl; decided = refl; shaped = refl }

pub future_forward_reads : ReadsAs lines.future_forward (leaves_of rows.FutureForward)
unfolding reference
future_forward_reads = record { taken = refl; read_on = refl; decided = refl; shaped = refl }

pub future_cancel_read_reads : ReadsAs lines.future_cancel_read (leaves_of rows.FutureCancelRead)
unfolding reference
future_cancel_read_reads = record { taken = refl; read_on = refl; decided = refl; shaped = refl }

pub future_cancel_write_reads : ReadsAs lines.future_cancel_write (leaves_of rows.FutureCancelWrite)
unfolding reference
future_cancel_write_reads = record { taken = refl; read_on = refl; decided = refl; shaped = refl }

pub future_drop_readable_reads : ReadsAs lines.future_drop_readable (leaves_of rows.FutureDropReadable)
unfolding reference
future_drop_readable_reads = record { taken = refl; read_on = refl; decided = refl; shaped = refl }

pub future_drop_writable_reads : ReadsAs lines.future_drop_writable (leaves_of rows.FutureDropWritable)
unfolding reference
future_drop_writable_reads = record { taken = refl; read_on = refl; decided = refl; shaped = refl }

pub error_context_new_reads : ReadsAs lines.error_context_new (leaves_of rows.ErrorContextNew)
unfolding reference text_row
error_context_new_reads = record { taken = refl; read_on = refl; decided = refl; shaped = refl }

pub error_context_debug_message_reads : ReadsAs lines.error_context_debug_message (leaves_of rows.ErrorContextDebugMessage)
unfolding reference text_row
error_context_debug_message_reads = record { taken = refl; read_on = refl; decided = refl; shaped = refl }

pub waitable_set_wait_reads : ReadsAs lines.waitable_set_wait (leaves_of rows.WaitableSetWait)
unfolding reference
waitable_set_wait_reads = record { taken = refl; read_on = refl; decided = refl; shaped = refl }

pub waitable_set_poll_reads : ReadsAs lines.waitable_set_poll (leaves_of rows.WaitableSetPoll)
unfolding reference
waitable_set_poll_reads = record { taken = refl; read_on = refl; decided = refl; shaped = refl }

pub thread_spawn_ref_reads : ReadsAs lines.thread_spawn_ref (leaves_of rows.ThreadSpawnRef)
unfolding reference
thread_spawn_ref_reads = record { taken = refl; read_on = refl; decided = refl; shaped = refl }

pub thread_spawn_indirect_reads : ReadsAs lines.thread_spawn_indirect (leaves_of rows.ThreadSpawnIndirect)
unfolding reference
thread_spawn_indirect_reads = record { taken = refl; read_on = refl; decided = refl; shaped = refl }

pub thread_new_indirect_reads : ReadsAs lines.thread_new_indirect (leaves_of rows.ThreadNewIndirect)
unfolding reference
thread_new_indirect_reads = record { taken = refl; read_on = refl; decided = refl; shaped = refl }

pub thread_available_parallelism_reads : ReadsAs lines.thread_available_parallelism (leaves_of rows.ThreadAvailableParallelism)
thread_available_parallelism_reads = record { taken = refl; read_on = refl; decided = refl; shaped = refl }
