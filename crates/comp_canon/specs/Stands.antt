-- What canonical functions and built-ins stand for: the leaves of their rows, a part each (Component Model, Explainer.md, Canonical Definitions and
-- Canonical Built-ins).
use Rattle.comp_model.specs.Model.{Leaves, no_leaf, ◌▸◌}
use Rattle.comp_model.specs.declared.Space.TheVariants as space
use Rattle.comp_items.specs.Items.{core_item_leaf, item_leaf}
use Rattle.comp_items.specs.Options.{options_leaf}
use Rattle.typed_nodes.specs.Lists.{flag_leaf}
use Rattle.comp_canon.specs.declared.lift.CanonLift.{CanonLift}
use Rattle.comp_canon.specs.declared.lift.CanonLower.{CanonLower}
use Rattle.comp_canon.specs.declared.resources.CanonResourceNew.{CanonResourceNew}
use Rattle.comp_canon.specs.declared.resources.CanonResourceDrop.{CanonResourceDrop}
use Rattle.comp_canon.specs.declared.resources.CanonResourceRep.{CanonResourceRep}
use Rattle.comp_canon.specs.declared.tasks.CanonSubtaskCancel.{CanonSubtaskCancel}
use Rattle.comp_canon.specs.declared.streams.CanonStreamNew.{CanonStreamNew}
use Rattle.comp_canon.specs.declared.streams.CanonStreamRead.{CanonStreamRead}
use Rattle.comp_canon.specs.declared.streams.CanonStreamWrite.{CanonStreamWrite}
use Rattle.comp_canon.specs.declared.streams.CanonStreamForward.{CanonStreamForward}
use Rattle.comp_canon.specs.declared.streams.CanonStreamCancelRead.{CanonStreamCancelRead}
use Rattle.comp_canon.specs.declared.streams.CanonStreamCancelWrite.{CanonStreamCancelWrite}
use Rattle.comp_canon.specs.declared.streams.CanonStreamDropReadable.{CanonStreamDropReadable}
use Rattle.comp_canon.specs.declared.streams.CanonStreamDropWritable.{CanonStreamDropWritable}
use Rattle.comp_canon.specs.declared.futures.CanonFutureNew.{CanonFutureNew}
use Rattle.comp_canon.specs.declared.futures.CanonFutureRead.{CanonFutureRead}
use Rattle.comp_canon.specs.declared.futures.CanonFutureWrite.{CanonFutureWrite}
use Rattle.comp_canon.specs.declared.futures.CanonFutureForward.{CanonFutureForward}
use Rattle.comp_canon.specs.declared.futures.CanonFutureCancelRead.{CanonFutureCancelRead}
use Rattle.comp_canon.specs.declared.futures.CanonFutureCancelWrite.{CanonFutureCancelWrite}
use Rattle.comp_canon.specs.declared.futures.CanonFutureDropReadable.{CanonFutureDropReadable}
use Rattle.comp_canon.specs.declared.futures.CanonFutureDropWritable.{CanonFutureDropWritable}
use Rattle.comp_canon.specs.declared.errors.CanonErrorContextNew.{CanonErrorContextNew}
use Rattle.comp_canon.specs.declared.errors.CanonErrorContextDebugMessage.{CanonErrorContextDebugMessage}
use Rattle.comp_canon.specs.declared.waitables.CanonWaitableSetWait.{CanonWaitableSetWait}
use Rattle.comp_canon.specs.declared.waitables.CanonWaitableSetPoll.{CanonWaitableSetPoll}
use Rattle.comp_canon.specs.declared.threads.CanonThreadSpawnRef.{CanonThreadSpawnRef}
use Rattle.comp_canon.specs.declared.threads.CanonThreadSpawnIndirect.{CanonThreadSpawnIndirect}
use Rattle.comp_canon.specs.declared.threads.CanonThreadNewIndirect.{CanonThreadNewIndirect}

abbrev pub lift_leaves : CanonLift → Leaves
lift_leaves x = core_item_leaf space.CoreFunc x.func.idx x.func.export_name ▸ options_leaf x.opts.items ▸ no_leaf

abbrev pub lower_leaves : CanonLower → Leaves
lower_leaves x = item_leaf space.Func x.func.idx x.func.export_names.items ▸ options_leaf x.opts.items ▸ no_leaf

abbrev pub resource_new_leaves : CanonResourceNew → Leaves
resource_new_leaves x = item_leaf space.Ty x.ty.idx x.ty.export_names.items ▸ no_leaf

abbrev pub resource_drop_leaves : CanonResourceDrop → Leaves
resource_drop_leaves x = item_leaf space.Ty x.ty.idx x.ty.export_names.items ▸ no_leaf

abbrev pub resource_rep_leaves : CanonResourceRep → Leaves
resource_rep_leaves x = item_leaf space.Ty x.ty.idx x.ty.export_names.items ▸ no_leaf

abbrev pub subtask_cancel_leaves : CanonSubtaskCancel → Leaves
subtask_cancel_leaves x = flag_leaf x.async_ ▸ no_leaf

abbrev pub stream_new_leaves : CanonStreamNew → Leaves
stream_new_leaves x = item_leaf space.Ty x.ty.idx x.ty.export_names.items ▸ no_leaf

abbrev pub stream_read_leaves : CanonStreamRead → Leaves
stream_read_leaves x = item_leaf space.Ty x.ty.idx x.ty.export_names.items ▸ options_leaf x.opts.items ▸ no_leaf

abbrev pub stream_write_leaves : CanonStreamWrite → Leaves
stream_write_leaves x = item_leaf space.Ty x.ty.idx x.ty.export_names.items ▸ options_leaf x.opts.items ▸ no_leaf

abbrev pub stream_forward_leaves : CanonStreamForward → Leaves
stream_forward_leaves x = item_leaf space.Ty x.ty.idx x.ty.export_names.items ▸ no_leaf

abbrev pub stream_cancel_read_leaves : CanonStreamCancelRead → Leaves
stream_cancel_read_leaves x = item_leaf space.Ty x.ty.idx x.ty.export_names.items ▸ flag_leaf x.async_ ▸ no_leaf

abbrev pub stream_cancel_write_leaves : CanonStreamCancelWrite → Leaves
stream_cancel_write_leaves x = item_leaf space.Ty x.ty.idx x.ty.export_names.items ▸ flag_leaf x.async_ ▸ no_leaf

abbrev pub stream_drop_readable_leaves : CanonStreamDropReadable → Leaves
stream_drop_readable_leaves x = item_leaf space.Ty x.ty.idx x.ty.export_names.items ▸ no_leaf

abbrev pub stream_drop_writable_leaves : CanonStreamDropWritable → Leaves
stream_drop_writable_leaves x = item_leaf space.Ty x.ty.idx x.ty.export_names.items ▸ no_leaf

abbrev pub future_new_leaves : CanonFutureNew → Leaves
future_new_leaves x = item_leaf space.Ty x.ty.idx x.ty.export_names.items ▸ no_leaf

abbrev pub future_read_leaves : CanonFutureRead → Leaves
future_read_leaves x = item_leaf space.Ty x.ty.idx x.ty.export_names.items ▸ options_leaf x.opts.items ▸ no_leaf

abbrev pub future_write_leaves : CanonFutureWrite → Leaves
future_write_leaves x = item_leaf space.Ty x.ty.idx x.ty.export_names.items ▸ options_leaf x.opts.items ▸ no_leaf

abbrev pub future_forward_leaves : CanonFutureForward → Leaves
future_forward_leaves x = item_leaf space.Ty x.ty.idx x.ty.export_names.items ▸ no_leaf

abbrev pub future_cancel_read_leaves : CanonFutureCancelRead → Leaves
future_cancel_read_leaves x = item_leaf space.Ty x.ty.idx x.ty.export_names.items ▸ flag_leaf x.async_ ▸ no_leaf

abbrev pub future_cancel_write_leaves : CanonFutureCancelWrite → Leaves
future_cancel_write_leaves x = item_leaf space.Ty x.ty.idx x.ty.export_names.items ▸ flag_leaf x.async_ ▸ no_leaf

abbrev pub future_drop_readable_leaves : CanonFutureDropReadable → Leaves
future_drop_readable_leaves x = item_leaf space.Ty x.ty.idx x.ty.export_names.items ▸ no_leaf

abbrev pub future_drop_writable_leaves : CanonFutureDropWritable → Leaves
future_drop_writable_leaves x = item_leaf space.Ty x.ty.idx x.ty.export_names.items ▸ no_leaf

abbrev pub error_context_new_leaves : CanonErrorContextNew → Leaves
error_context_new_leaves x = options_leaf x.opts.items ▸ no_leaf

abbrev pub error_context_debug_message_leaves : CanonErrorContextDebugMessage → Leaves
error_context_debug_message_leaves x = options_leaf x.opts.items ▸ no_leaf

abbrev pub waitable_set_wait_leaves : CanonWaitableSetWait → Leaves
waitable_set_wait_leaves x = core_item_leaf space.CoreMemory x.memory.idx x.memory.export_name ▸ no_leaf

abbrev pub waitable_set_poll_leaves : CanonWaitableSetPoll → Leaves
waitable_set_poll_leaves x = core_item_leaf space.CoreMemory x.memory.idx x.memory.export_name ▸ no_leaf

abbrev pub thread_spawn_ref_leaves : CanonThreadSpawnRef → Leaves
thread_spawn_ref_leaves x = core_item_leaf space.CoreType x.ty.idx x.ty.export_name ▸ no_leaf

abbrev pub thread_spawn_indirect_leaves : CanonThreadSpawnIndirect → Leaves
thread_spawn_indirect_leaves x = core_item_leaf space.CoreType x.ty.idx x.ty.export_name ▸ core_item_leaf space.CoreTable x.table.idx x.table.export_name ▸ no_leaf

abbrev pub thread_new_indirect_leaves : CanonThreadNewIndirect → Leaves
thread_new_indirect_leaves x = core_item_leaf space.CoreType x.ty.idx x.ty.export_name ▸ core_item_leaf space.CoreTable x.table.idx x.table.export_name ▸ no_leaf
