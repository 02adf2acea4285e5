-- Each canonical function and each option by itself, and reference types, against bytes that were worked out by hand from the Component Model's
-- binary format (Canonical Definitions) and the WebAssembly binary format (Reference Types). Leaves of a row have different numbers here.
use Rattle.std.proofs.Common.{◌≡◌, ℕ, List, [], ◌∷◌, map, refl, true, false}
use Rattle.comp_model.specs.declared.Space.TheVariants as space
use Rattle.comp_model.specs.declared.row.Row.TheVariants as rows
use Rattle.comp_model.specs.Core.{CoreValue, i32, i64, f32, f64, v128, ref_func, ref_extern, ref_index}
use Rattle.comp_model.specs.Makers as make
use Rattle.comp_model.specs.Model.{number, ref, index, absent, present, Node, row, no_leaf, ◌▸◌, Nodes, no_node, one_node}
use Rattle.comp_model.specs.Leb.{leb}
use Rattle.comp_wire.specs.Table as t
use Rattle.comp_wire.specs.Table.{Family}
use Rattle.comp_wire.specs.Spelled.{spell_node, core_bytes}

abbrev Row : Type 0
Row = Node × List ℕ

abbrev is : Node → List ℕ → Row
is n bytes = (n, bytes)

-- each row of a table has its bytes
abbrev AreSpelled : Family → List Row → Type 0
AreSpelled f rows = map (λ r. spell_node r.0 f) rows ≡ map (λ r. r.1) rows

-- one option, async
abbrev async : Nodes
async = one_node (make.plain_option rows.OptionAsync) no_node

-- ---- canonical functions

abbrev plain_rows : List Row
plain_rows =
    is (make.lift (index 3) (index 4) async) (0x00 ∷ 0x00 ∷ 0x04 ∷ 0x01 ∷ 0x06 ∷ 0x03 ∷ [])
    ∷ is (make.lower (index 5) async) (0x01 ∷ 0x00 ∷ 0x05 ∷ 0x01 ∷ 0x06 ∷ [])
    ∷ is (make.of_type rows.ResourceNew (index 6)) (0x02 ∷ 0x06 ∷ [])
    ∷ is (make.of_type rows.ResourceDrop (index 6)) (0x03 ∷ 0x06 ∷ [])
    ∷ is (make.of_type rows.ResourceRep (index 6)) (0x04 ∷ 0x06 ∷ [])
    ∷ is (make.built_in rows.TaskCancel) (0x05 ∷ [])
    ∷ is (make.subtask_cancel 0) (0x06 ∷ 0x00 ∷ [])
    ∷ is (make.subtask_cancel 1) (0x06 ∷ 0x01 ∷ [])
    ∷ is (make.task_return absent async) (0x09 ∷ 0x01 ∷ 0x00 ∷ 0x01 ∷ 0x06 ∷ [])
    ∷ is (make.task_return (present (number 0x7d)) no_node) (0x09 ∷ 0x00 ∷ 0x7d ∷ 0x00 ∷ [])
    ∷ is (make.of_context rows.ContextGet i32 7) (0x0a ∷ 0x7f ∷ 0x07 ∷ [])
    ∷ is (make.of_context rows.ContextSet i64 8) (0x0b ∷ 0x7e ∷ 0x08 ∷ [])
    ∷ is (make.built_in rows.SubtaskDrop) (0x0d ∷ [])
    ∷ []

canonical_functions : AreSpelled t.canons plain_rows
unfolding leb
canonical_functions = refl

abbrev stream_rows : List Row
stream_rows =
    is (make.of_type rows.StreamNew (index 2)) (0x0e ∷ 0x02 ∷ [])
    ∷ is (make.of_type_with rows.StreamRead (index 2) async) (0x0f ∷ 0x02 ∷ 0x01 ∷ 0x06 ∷ [])
    ∷ is (make.of_type_with rows.StreamWrite (index 2) async) (0x10 ∷ 0x02 ∷ 0x01 ∷ 0x06 ∷ [])
    ∷ is (make.of_type_async rows.StreamCancelRead (index 2) 1) (0x11 ∷ 0x02 ∷ 0x01 ∷ [])
    ∷ is (make.of_type_async rows.StreamCancelWrite (index 2) 0) (0x12 ∷ 0x02 ∷ 0x00 ∷ [])
    ∷ is (make.of_type rows.StreamDropReadable (index 2)) (0x13 ∷ 0x02 ∷ [])
    ∷ is (make.of_type rows.StreamDropWritable (index 2)) (0x14 ∷ 0x02 ∷ [])
    ∷ is (make.of_type rows.FutureNew (index 2)) (0x15 ∷ 0x02 ∷ [])
    ∷ is (make.of_type_with rows.FutureRead (index 2) async) (0x16 ∷ 0x02 ∷ 0x01 ∷ 0x06 ∷ [])
    ∷ is (make.of_type_with rows.FutureWrite (index 2) async) (0x17 ∷ 0x02 ∷ 0x01 ∷ 0x06 ∷ [])
    ∷ is (make.of_type_async rows.FutureCancelRead (index 2) 0) (0x18 ∷ 0x02 ∷ 0x00 ∷ [])
    ∷ is (make.of_type_async rows.FutureCancelWrite (index 2) 1) (0x19 ∷ 0x02 ∷ 0x01 ∷ [])
    ∷ is (make.of_type rows.FutureDropReadable (index 2)) (0x1a ∷ 0x02 ∷ [])
    ∷ is (make.of_type rows.FutureDropWritable (index 2)) (0x1b ∷ 0x02 ∷ [])
    ∷ []

streams_and_futures : AreSpelled t.canons stream_rows
unfolding leb
streams_and_futures = refl

abbrev other_rows : List Row
other_rows =
    is (make.of_options rows.ErrorContextNew async) (0x1c ∷ 0x01 ∷ 0x06 ∷ [])
    ∷ is (make.of_options rows.ErrorContextDebugMessage async) (0x1d ∷ 0x01 ∷ 0x06 ∷ [])
    ∷ is (make.built_in rows.ErrorContextDrop) (0x1e ∷ [])
    ∷ is (make.built_in rows.WaitableSetNew) (0x1f ∷ [])
    ∷ is (make.built_in rows.WaitableSetDrop) (0x22 ∷ [])
    ∷ is (make.built_in rows.WaitableJoin) (0x23 ∷ [])
    ∷ is (make.built_in rows.BackpressureInc) (0x24 ∷ [])
    ∷ is (make.built_in rows.BackpressureDec) (0x25 ∷ [])
    ∷ is (make.thread_spawn_ref (index 3)) (0x40 ∷ 0x03 ∷ [])
    ∷ is (make.thread_spawn_indirect (index 3) (index 4)) (0x41 ∷ 0x03 ∷ 0x04 ∷ [])
    ∷ is (make.built_in rows.ThreadAvailableParallelism) (0x42 ∷ [])
    ∷ []

other_built_ins : AreSpelled t.canons other_rows
unfolding leb
other_built_ins = refl

-- ---- their options

abbrev option_rows : List Row
option_rows =
    is (make.plain_option rows.OptionUtf8) (0x00 ∷ [])
    ∷ is (make.plain_option rows.OptionUtf16) (0x01 ∷ [])
    ∷ is (make.plain_option rows.OptionLatin1Utf16) (0x02 ∷ [])
    ∷ is (make.option_memory (index 5)) (0x03 ∷ 0x05 ∷ [])
    ∷ is (make.option_of_function rows.OptionRealloc (index 5)) (0x04 ∷ 0x05 ∷ [])
    ∷ is (make.option_of_function rows.OptionPostReturn (index 5)) (0x05 ∷ 0x05 ∷ [])
    ∷ is (make.plain_option rows.OptionAsync) (0x06 ∷ [])
    ∷ is (make.option_of_function rows.OptionCallback (index 5)) (0x07 ∷ 0x05 ∷ [])
    ∷ []

options : AreSpelled t.options option_rows
unfolding leb
options = refl

-- ---- core value types: references that may be null, and those that are not; an index of a type is a signed number

abbrev values : List (CoreValue × List ℕ)
values =
    (i32, 0x7f ∷ [])
    ∷ (i64, 0x7e ∷ [])
    ∷ (f32, 0x7d ∷ [])
    ∷ (f64, 0x7c ∷ [])
    ∷ (v128, 0x7b ∷ [])
    ∷ (ref_func true, 0x70 ∷ [])
    ∷ (ref_func false, 0x64 ∷ 0x70 ∷ [])
    ∷ (ref_extern true, 0x6f ∷ [])
    ∷ (ref_extern false, 0x64 ∷ 0x6f ∷ [])
    ∷ (ref_index true 3, 0x63 ∷ 0x03 ∷ [])
    ∷ (ref_index false 3, 0x64 ∷ 0x03 ∷ [])
    ∷ (ref_index false 64, 0x64 ∷ 0xc0 ∷ 0x00 ∷ [])
    ∷ []

core_values : map (λ v. core_bytes v.0) values ≡ map (λ v. v.1) values
unfolding leb
core_values = refl

-- ---- descriptions of imports and exports, by the kind of what they describe

abbrev description_rows : List Row
description_rows =
    is (make.module_description (index 9)) (0x00 ∷ 0x11 ∷ 0x09 ∷ [])
    ∷ is (make.described_by rows.FuncDescription (index 9)) (0x01 ∷ 0x09 ∷ [])
    ∷ is (make.described_by rows.TypeEq (index 9)) (0x03 ∷ 0x00 ∷ 0x09 ∷ [])
    ∷ is make.sub_resource (0x03 ∷ 0x01 ∷ [])
    ∷ is (make.described_by rows.ComponentDescription (index 9)) (0x04 ∷ 0x09 ∷ [])
    ∷ is (make.described_by rows.InstanceDescription (index 9)) (0x05 ∷ 0x09 ∷ [])
    ∷ []

descriptions : AreSpelled t.descriptions description_rows
unfolding leb
descriptions = refl
