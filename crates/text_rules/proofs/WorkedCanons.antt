-- Canonical functions: each built-in, options, lifts.
use Rattle.std.specs.Prelude.{List, [], ◌∷◌, true, false, refl, codes, Some}
use Prim.Native.String.{String}
use Rattle.comp_model.specs.declared.Space.TheVariants as space
use Rattle.comp_model.specs.Core as core
use Rattle.comp_model.specs.Core.{outward}
use Rattle.comp_model.specs.Model as m
use Rattle.comp_model.specs.Model.{number, ref, absent, present, numeral, inline, no_leaf, ◌▸◌, row, no_node}
use Rattle.comp_model.specs.declared.row.Row.TheVariants as rows
use Rattle.comp_model.specs.Makers as make
use Rattle.text_rules.specs.Made.{nodes_from}
use Rattle.text_rules.specs.FieldRules.{component_item}
use Rattle.text_rules.proofs.Texts.{ComeToThese, LongCome, Texts, AllCome, answer, unfit, one, an_id, named_at, at, at_id, by_name, path_by}

-- each built-in
abbrev built_ins : Texts
built_ins =
    ("(core func (canon task.cancel))", one (at 1 (make.built_in rows.TaskCancel)))
    ∷ ("(core func (canon subtask.drop))", one (at 1 (make.built_in rows.SubtaskDrop)))
    ∷ ("(core func (canon error-context.drop))", one (at 1 (make.built_in rows.ErrorContextDrop)))
    ∷ ("(core func (canon backpressure.inc))", one (at 1 (make.built_in rows.BackpressureInc)))
    ∷ ("(core func (canon backpressure.dec))", one (at 1 (make.built_in rows.BackpressureDec)))
    ∷ ("(core func (canon waitable-set.new))", one (at 1 (make.built_in rows.WaitableSetNew)))
    ∷ ("(core func (canon waitable-set.drop))", one (at 1 (make.built_in rows.WaitableSetDrop)))
    ∷ ("(core func (canon waitable.join))", one (at 1 (make.built_in rows.WaitableJoin)))
    ∷ ("(core func (canon thread.available-parallelism))", one (at 1 (make.built_in rows.ThreadAvailableParallelism)))
    ∷ ("(core func (canon thread.index))", one (at 1 (make.built_in rows.ThreadIndex)))
    ∷ ("(core func (canon thread.resume-later))", one (at 1 (make.built_in rows.ThreadResumeLater)))
    ∷ ("(core func (canon thread.suspend))", one (at 1 (make.built_in rows.ThreadSuspend)))
    ∷ ("(core func (canon thread.yield))", one (at 1 (make.built_in rows.ThreadYield)))
    ∷ ("(core func (canon thread.suspend-then-resume))", one (at 1 (make.built_in rows.ThreadSuspendThenResume)))
    ∷ ("(core func (canon thread.yield-then-resume))", one (at 1 (make.built_in rows.ThreadYieldThenResume)))
    ∷ ("(core func (canon thread.suspend-then-promote))", one (at 1 (make.built_in rows.ThreadSuspendThenPromote)))
    ∷ ("(core func (canon thread.yield-then-promote))", one (at 1 (make.built_in rows.ThreadYieldThenPromote)))
    ∷ ("(core func (canon thread.available_parallelism))", one (at 1 (make.built_in rows.ThreadAvailableParallelism)))
    ∷ ("(core func (canon resource.new $t))", one (at 1 (make.of_type rows.ResourceNew (by_name 31 "t"))))
    ∷ ("(core func (canon resource.drop $t))", one (at 1 (make.of_type rows.ResourceDrop (by_name 32 "t"))))
    ∷ ("(core func (canon resource.rep $t))", one (at 1 (make.of_type rows.ResourceRep (by_name 31 "t"))))
    ∷ ("(core func (canon stream.new $t))", one (at 1 (make.of_type rows.StreamNew (by_name 29 "t"))))
    ∷ ("(core func (canon stream.forward $t))", one (at 1 (make.of_type rows.StreamForward (by_name 33 "t"))))
    ∷ ("(core func (canon stream.drop-readable $t))", one (at 1 (make.of_type rows.StreamDropReadable (by_name 39 "t"))))
    ∷ ("(core func (canon stream.drop-writable $t))", one (at 1 (make.of_type rows.StreamDropWritable (by_name 39 "t"))))
    ∷ ("(core func (canon future.new $t))", one (at 1 (make.of_type rows.FutureNew (by_name 29 "t"))))
    ∷ ("(core func (canon future.forward $t))", one (at 1 (make.of_type rows.FutureForward (by_name 33 "t"))))
    ∷ ("(core func (canon future.drop-readable $t))", one (at 1 (make.of_type rows.FutureDropReadable (by_name 39 "t"))))
    ∷ ("(core func (canon future.drop-writable $t))", one (at 1 (make.of_type rows.FutureDropWritable (by_name 39 "t"))))
    ∷ (
      "(core func (canon resource.rep (type $i \"a\" \"t\")))",
      one (at 1 (make.of_type rows.ResourceRep (path_by 37 "i" ("a" ∷ "t" ∷ [])))),
    )
    ∷ (
      "(core func (canon stream.read $t async (memory $m)))",
      one (at 1
          (make.of_type_with rows.StreamRead (by_name 30 "t")
          (nodes_from (make.plain_option rows.OptionAsync ∷ make.option_memory (by_name 47 "m") ∷ [])))),
    )
    ∷ (
      "(core func (canon stream.write $t async (memory $m)))",
      one (at 1
          (make.of_type_with rows.StreamWrite (by_name 31 "t")
          (nodes_from (make.plain_option rows.OptionAsync ∷ make.option_memory (by_name 48 "m") ∷ [])))),
    )
    ∷ (
      "(core func (canon future.read $t async (memory $m)))",
      one (at 1
          (make.of_type_with rows.FutureRead (by_name 30 "t")
          (nodes_from (make.plain_option rows.OptionAsync ∷ make.option_memory (by_name 47 "m") ∷ [])))),
    )
    ∷ (
      "(core func (canon future.write $t async (memory $m)))",
      one (at 1
          (make.of_type_with rows.FutureWrite (by_name 31 "t")
          (nodes_from (make.plain_option rows.OptionAsync ∷ make.option_memory (by_name 48 "m") ∷ [])))),
    )
    ∷ ("(core func (canon stream.cancel-read $t async))", one (at 1 (make.of_type_async rows.StreamCancelRead (by_name 37 "t") 1)))
    ∷ ("(core func (canon stream.cancel-read 7))", one (at 1 (make.of_type_async rows.StreamCancelRead (numeral 37 7) 0)))
    ∷ ("(core func (canon stream.cancel-write $t async))", one (at 1 (make.of_type_async rows.StreamCancelWrite (by_name 38 "t") 1)))
    ∷ ("(core func (canon stream.cancel-write 7))", one (at 1 (make.of_type_async rows.StreamCancelWrite (numeral 38 7) 0)))
    ∷ ("(core func (canon future.cancel-read $t async))", one (at 1 (make.of_type_async rows.FutureCancelRead (by_name 37 "t") 1)))
    ∷ ("(core func (canon future.cancel-read 7))", one (at 1 (make.of_type_async rows.FutureCancelRead (numeral 37 7) 0)))
    ∷ ("(core func (canon future.cancel-write $t async))", one (at 1 (make.of_type_async rows.FutureCancelWrite (by_name 38 "t") 1)))
    ∷ ("(core func (canon future.cancel-write 7))", one (at 1 (make.of_type_async rows.FutureCancelWrite (numeral 38 7) 0)))
    ∷ (
      "(core func (canon error-context.new string-encoding=utf16))",
      one (at 1 (make.of_options rows.ErrorContextNew (nodes_from (make.plain_option rows.OptionUtf16 ∷ [])))),
    )
    ∷ (
      "(core func (canon error-context.debug-message string-encoding=utf16))",
      one (at 1 (make.of_options rows.ErrorContextDebugMessage (nodes_from (make.plain_option rows.OptionUtf16 ∷ [])))),
    )
    ∷ ("(core func (canon subtask.cancel async))", one (at 1 (make.subtask_cancel 1)))
    ∷ (
      "(core func (canon task.return (result (list u8)) string-encoding=utf8))",
      one (at 1
          (make.task_return
          (present (ref space.Ty (inline (make.list_type (number 0x7d))))) (nodes_from (make.plain_option rows.OptionUtf8 ∷ [])))),
    )
    ∷ ("(core func (canon task.return))", one (at 1 (make.task_return absent no_node)))
    ∷ ("(core func (canon context.get i32 0))", one (at 1 (make.of_context rows.ContextGet core.i32 0)))
    ∷ (
      "(core func (canon context.set (ref null $t) 1))",
      one (at 1 (make.of_context rows.ContextSet (core.ref_name true outward (an_id 40 "t")) 1)),
    )
    ∷ ("(core func (canon thread.spawn-ref (core type $t)))", one (at 1 (make.thread_spawn_ref (by_name 46 "t"))))
    ∷ (
      "(core func (canon thread.spawn-indirect 3 (core table $i \"t\")))",
      one (at 1 (make.thread_spawn_indirect (numeral 40 3) (path_by 54 "i" ("t" ∷ [])))),
    )
    ∷ (
      "(core func (canon thread.new-indirect $t $u))",
      one (at 1 (row rows.ThreadNewIndirect (ref space.CoreType (by_name 38 "t") ▸ ref space.CoreTable (by_name 41 "u") ▸ no_leaf))),
    )
    ∷ (
      "(core func (canon waitable-set.wait (memory (core memory $i \"m\"))))",
      one (at 1 (row rows.WaitableSetWait (ref space.CoreMemory (path_by 57 "i" ("m" ∷ [])) ▸ no_leaf))),
    )
    ∷ (
      "(core func (canon waitable-set.poll (memory (core memory $i \"m\"))))",
      one (at 1 (row rows.WaitableSetPoll (ref space.CoreMemory (path_by 57 "i" ("m" ∷ [])) ▸ no_leaf))),
    )
    ∷ []

-- options, references in older forms, and words of no built-in
abbrev options : Texts
options =
    ("(core func (canon lower (func 0) (memory $i \"m\")))", unfit 44)
    ∷ ("(core func (canon waitable-set.wait))", unfit 35)
    ∷ ("(core func (canon resource.new $t async))", unfit 34)
    ∷ ("(core func (canon stream.clone $t))", unfit 18)
    ∷ []

abbrev is_lower_text : List String
is_lower_text =
    "(core func (canon lower (func $i \"a\" \"f\") async (memory 0) (realloc (core func $c \"r\"))"
    ∷ "(post-return $p) (callback (core func 2)) gc (core-type (core type $t))"
    ∷ "string-encoding=latin1+utf16))"
    ∷ []

abbrev is_lower_left : m.Def
is_lower_left = at 1
    (make.lower (path_by 30 "i" ("a" ∷ "f" ∷ [])) (nodes_from
    (make.plain_option rows.OptionAsync
    ∷ make.option_memory (numeral 56 0)
    ∷ make.option_of_function rows.OptionRealloc (path_by 79 "c" ("r" ∷ []))
    ∷ make.option_of_function rows.OptionPostReturn (by_name 101 "p")
    ∷ make.option_of_function rows.OptionCallback (numeral 126 2)
    ∷ make.plain_option rows.OptionGc
    ∷ row rows.OptionCoreType (ref space.CoreType (by_name 155 "t") ▸ no_leaf)
    ∷ make.plain_option rows.OptionLatin1Utf16 ∷ [])))

-- options, references in older forms, and words of no built-in, read with older forms
abbrev options_in_older_forms : Texts
options_in_older_forms = (
  "(core func (canon lower (func 0) (memory $i \"m\") (callback (func $i \"c\")) (realloc (core func $f))))",
  one (at 1
      (make.lower (numeral 30 0) (nodes_from
      (make.option_memory (path_by 41 "i" ("m" ∷ []))
      ∷ make.option_of_function rows.OptionCallback (path_by 65 "i" ("c" ∷ []))
      ∷ make.option_of_function rows.OptionRealloc (by_name 94 "f") ∷ [])))),
)
    ∷ []

-- canonical functions in their other forms, lifts and aliases of functions
abbrev canonical_functions : Texts
canonical_functions = (
  "(canon resource.drop $t (core func $f (@name \"drop\")))",
  one (named_at 1 (Some (an_id 35 "f") ∷ []) (Some (codes "drop") ∷ []) [] (make.of_type rows.ResourceDrop (by_name 21 "t"))),
)
    ∷ (
      "(canon stream.read $t async (core func $f))",
      one (at_id 1 (an_id 39 "f") (make.of_type_with rows.StreamRead (by_name 19 "t") (nodes_from (make.plain_option rows.OptionAsync ∷ [])))),
    )
    ∷ (
      "(canon lift (core func $c \"x\") async (func $f (param \"a\" u8)))",
      one (at_id 1 (an_id 43 "f")
          (make.lift
          (inline (make.function_type 0 (nodes_from (make.named_type (codes "a") (number 0x7d) ∷ [])) absent)) (path_by 23 "c" ("x" ∷ [])) (nodes_from (make.plain_option rows.OptionAsync ∷ [])))),
    )
    ∷ (
      "(func $f (export \"a\") (export (interface \"b:c/d\")) (type $i \"t\") (canon lift (core func 0)))",
      one (named_at 1 (Some (an_id 6 "f") ∷ []) [] (codes "a" ∷ codes "b:c/d" ∷ [])
          (make.lift (path_by 57 "i" ("t" ∷ [])) (numeral 88 0) no_node)),
    )
    ∷ (
      "(func async (param \"a\" $t) (result string) (canon lift (core func $f)))",
      one (at 1
          (make.lift
          (inline
          (make.function_type 1
          (nodes_from (make.named_type (codes "a") (ref space.Ty (by_name 23 "t")) ∷ [])) (present (number 0x73)))) (by_name 66 "f") no_node)),
    )
    ∷ (
      "(func $f (export \"x\") (alias export $i \"a\"))",
      one (named_at 1 (Some (an_id 6 "f") ∷ []) [] (codes "x" ∷ []) (make.alias_export (by_name 36 "i") (codes "a") space.Func)),
    )
    ∷ (
      "(core func $f (alias core export $i \"a\"))",
      one (at_id 1 (an_id 11 "f") (make.alias_core_export (by_name 33 "i") (codes "a") space.CoreFunc)),
    )
    ∷ []

-- each text comes to what stands beside it
all_come :
    (AllCome component_item false (built_ins ∷ options ∷ canonical_functions ∷ []))
    × (ComeToThese component_item true options_in_older_forms)
    × (LongCome component_item false ((is_lower_text, one is_lower_left) ∷ []))
unfolding answer
all_come = ((refl, (refl, (refl, tt))), refl, (refl, tt))
