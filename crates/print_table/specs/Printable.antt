-- The binary components that have a text: each row with its leaves.
use Rattle.std.specs.Prelude.{◌≡◌, ℕ, nat_lt, Bool, true, None, ⊤}
use Rattle.std.specs.List.{list_all}
use Rattle.std.specs.Str.{is_utf8}
use Rattle.comp_model.specs.declared.Space.{Space}
use Rattle.comp_model.specs.declared.Space.TheVariants as space
use Rattle.comp_model.specs.Core as core
use Rattle.comp_model.specs.Core.{CoreValue, Text}
use Rattle.comp_model.specs.Model as m
use Rattle.comp_model.specs.declared.row.ScopeKind.TheVariants as kinds
use Rattle.comp_model.specs.Model.{Leaf, Node, Nodes, no_node, one_node, Defs, no_def, one_def, define, no_names, Scope, scope_of}
use Rattle.comp_model.specs.declared.row.ScopeKind.{ScopeKind}
use Rattle.comp_model.specs.Rows.{is_primitive_code}
use Rattle.comp_model.specs.declared.row.Row.TheVariants as rows
use Rattle.comp_model.specs.Makers as make
use Rattle.comp_wire.specs.Sections.{Word}

-- bytes, and text in UTF-8
abbrev pub Bytes : Text → Type 0
Bytes t = list_all (λ b. nat_lt b 256) t ≡ true

pub record IsText (t : Text) : Type 0 where
  pub utf8 : is_utf8 t ≡ true
  pub bytes : Bytes t

-- ---- leaves

pub data ValuePrintable : Leaf → Type 0 where
  a_primitive : {n : ℕ} → is_primitive_code n ≡ true → ValuePrintable (m.number n)
  an_index : {i : ℕ} → Word i → ValuePrintable (m.ref space.Ty (m.index i))

pub data MaybePrintable : Leaf → Type 0 where
  none : MaybePrintable m.absent
  some : {l : Leaf} → ValuePrintable l → MaybePrintable (m.present l)

pub data CorePrintable : CoreValue → Type 0 where
  i32 : CorePrintable core.i32
  i64 : CorePrintable core.i64
  f32 : CorePrintable core.f32
  f64 : CorePrintable core.f64
  v128 : CorePrintable core.v128
  func : {b : Bool} → CorePrintable (core.ref_func b)
  extern : {b : Bool} → CorePrintable (core.ref_extern b)
  index : {b : Bool} {i : ℕ} → Word i → CorePrintable (core.ref_index b i)

-- the kinds of items that a component exports, that a core module exports, and that are aliased from an enclosing scope
pub data Kind : Space → Type 0 where
  core_module : Kind space.CoreModule
  func : Kind space.Func
  value : Kind space.Value
  type : Kind space.Ty
  component : Kind space.Component
  instance : Kind space.Instance

pub data CoreKind : Space → Type 0 where
  func : CoreKind space.CoreFunc
  table : CoreKind space.CoreTable
  memory : CoreKind space.CoreMemory
  global : CoreKind space.CoreGlobal
  a_tag : CoreKind space.CoreTag

pub data OuterKind : Space → Type 0 where
  core_module : OuterKind space.CoreModule
  core_type : OuterKind space.CoreType
  type : OuterKind space.Ty
  component : OuterKind space.Component

-- ---- entries of lists

pub data NamedPrintable : Node → Type 0 where
  named : {t : Text} {l : Leaf} → IsText t → ValuePrintable l → NamedPrintable (make.named_type t l)

pub data CasePrintable : Node → Type 0 where
  case : {t : Text} {l : Leaf} → IsText t → MaybePrintable l → CasePrintable (make.case_type None t l)

pub data LonePrintable : Node → Type 0 where
  lone : {l : Leaf} → ValuePrintable l → LonePrintable (make.lone_type l)

pub data NamePrintable : Node → Type 0 where
  name : {t : Text} → IsText t → NamePrintable (make.lone_name t)

pub data CoreValuePrintable : Node → Type 0 where
  a_value : {v : CoreValue} → CorePrintable v → CoreValuePrintable (make.core_value_type v)

abbrev pub Each : (Node → Type 0) → Nodes → Type 0
Each P no_node = ⊤
Each P (one_node n ns) = P n × Each P ns

pub data CoreFunctionPrintable : Node → Type 0 where
  function : {ps rs : Nodes} → Each CoreValuePrintable ps → Each CoreValuePrintable rs → CoreFunctionPrintable (make.core_function_type ps rs)

pub data CoreArgumentPrintable : Node → Type 0 where
  with : {t : Text} {i : ℕ} → IsText t → Word i → CoreArgumentPrintable (make.core_argument t (m.index i))

pub data CoreExportPrintable : Node → Type 0 where
  export : {t : Text} {s : Space} {i : ℕ} → IsText t → CoreKind s → Word i → CoreExportPrintable (make.core_bundle_export t s (m.index i))

pub data ArgumentPrintable : Node → Type 0 where
  with : {t : Text} {s : Space} {i : ℕ} → IsText t → Kind s → Word i → ArgumentPrintable (make.argument t s (m.index i))

pub data ExportPrintable : Node → Type 0 where
  export : {t : Text} {s : Space} {i : ℕ} → IsText t → Kind s → Word i → ExportPrintable (make.bundle_export (m.text t) s (m.index i))

pub data StartArgumentPrintable : Node → Type 0 where
  argument : {i : ℕ} → Word i → StartArgumentPrintable (make.start_argument (m.index i))

pub data OptionPrintable : Node → Type 0 where
  utf8 : OptionPrintable (make.plain_option rows.OptionUtf8)
  utf16 : OptionPrintable (make.plain_option rows.OptionUtf16)
  latin1_utf16 : OptionPrintable (make.plain_option rows.OptionLatin1Utf16)
  async : OptionPrintable (make.plain_option rows.OptionAsync)
  memory : {i : ℕ} → Word i → OptionPrintable (make.option_memory (m.index i))
  realloc : {i : ℕ} → Word i → OptionPrintable (make.option_of_function rows.OptionRealloc (m.index i))
  post_return : {i : ℕ} → Word i → OptionPrintable (make.option_of_function rows.OptionPostReturn (m.index i))
  callback : {i : ℕ} → Word i → OptionPrintable (make.option_of_function rows.OptionCallback (m.index i))

-- ---- descriptions and entities

pub data DescriptionPrintable : Node → Type 0 where
  module_of : {i : ℕ} → Word i → DescriptionPrintable (make.module_description (m.index i))
  func_of : {i : ℕ} → Word i → DescriptionPrintable (make.described_by rows.FuncDescription (m.index i))
  component_of : {i : ℕ} → Word i → DescriptionPrintable (make.described_by rows.ComponentDescription (m.index i))
  instance_of : {i : ℕ} → Word i → DescriptionPrintable (make.described_by rows.InstanceDescription (m.index i))
  equal_to : {i : ℕ} → Word i → DescriptionPrintable (make.described_by rows.TypeEq (m.index i))
  resource : DescriptionPrintable make.sub_resource

pub data MaybeNumber : Leaf → Type 0 where
  none : MaybeNumber m.absent
  some : {n : ℕ} → Word n → MaybeNumber (m.present (m.number n))

-- the element of a table is a reference
pub data ReferencePrintable : CoreValue → Type 0 where
  func : {b : Bool} → ReferencePrintable (core.ref_func b)
  extern : {b : Bool} → ReferencePrintable (core.ref_extern b)
  index : {b : Bool} {i : ℕ} → Word i → ReferencePrintable (core.ref_index b i)

pub data EntityPrintable : Node → Type 0 where
  func : {i : ℕ} → Word i → EntityPrintable (make.func_entity (m.index i))
  table : {v : CoreValue} {n : ℕ} {l : Leaf} → ReferencePrintable v → Word n → MaybeNumber l → EntityPrintable (make.table_entity v n l)
  memory : {n : ℕ} {l : Leaf} → Word n → MaybeNumber l → EntityPrintable (make.memory_entity n l)
  constant : {v : CoreValue} → CorePrintable v → EntityPrintable (make.global_entity v 0)
  mutable : {v : CoreValue} → CorePrintable v → EntityPrintable (make.global_entity v 1)

-- ---- definitions

-- the scopes that hold types, core types and aliases alike
pub data HoldsTypes : ScopeKind → Type 0 where
  a_component : HoldsTypes kinds.Component
  a_component_type : HoldsTypes kinds.ComponentType
  an_instance_type : HoldsTypes kinds.InstanceType

pub data MaybeDescription : Leaf → Type 0 where
  none : MaybeDescription m.absent
  some : {n : Node} → DescriptionPrintable n → MaybeDescription (m.present (m.node n))

pub data MaybeFunction : Leaf → Type 0 where
  none : MaybeFunction m.absent
  some : {i : ℕ} → Word i → MaybeFunction (m.present (m.ref space.CoreFunc (m.index i)))

mutual
  pub data DefPrintable : ScopeKind → Node → Type 0 where
    -- types
    primitive : {k : ScopeKind} {n : ℕ} → HoldsTypes k → is_primitive_code n ≡ true → DefPrintable k (make.primitive n)
    record_type : {k : ScopeKind} {ns : Nodes} → HoldsTypes k → Each NamedPrintable ns → DefPrintable k (make.record_type ns)
    variant_type : {k : ScopeKind} {ns : Nodes} → HoldsTypes k → Each CasePrintable ns → DefPrintable k (make.variant_type ns)
    list_type : {k : ScopeKind} {l : Leaf} → HoldsTypes k → ValuePrintable l → DefPrintable k (make.list_type l)
    fixed_length_list_type : {k : ScopeKind} {l : Leaf} {n : ℕ} → HoldsTypes k → ValuePrintable l → Word n → DefPrintable k (make.fixed_length_list_type l n)
    tuple_type : {k : ScopeKind} {ns : Nodes} → HoldsTypes k → Each LonePrintable ns → DefPrintable k (make.tuple_type ns)
    flags_type : {k : ScopeKind} {ns : Nodes} → HoldsTypes k → Each NamePrintable ns → DefPrintable k (make.flags_type ns)
    enum_type : {k : ScopeKind} {ns : Nodes} → HoldsTypes k → Each NamePrintable ns → DefPrintable k (make.enum_type ns)
    option_type : {k : ScopeKind} {l : Leaf} → HoldsTypes k → ValuePrintable l → DefPrintable k (make.option_type l)
    result_type : {k : ScopeKind} {a b : Leaf} → HoldsTypes k → MaybePrintable a → MaybePrintable b → DefPrintable k (make.result_type a b)
    own_type : {k : ScopeKind} {i : ℕ} → HoldsTypes k → Word i → DefPrintable k (make.own_type (m.index i))
    borrow_type : {k : ScopeKind} {i : ℕ} → HoldsTypes k → Word i → DefPrintable k (make.borrow_type (m.index i))
    stream_type : {k : ScopeKind} {l : Leaf} → HoldsTypes k → MaybePrintable l → DefPrintable k (make.stream_type l)
    future_type : {k : ScopeKind} {l : Leaf} → HoldsTypes k → MaybePrintable l → DefPrintable k (make.future_type l)
    plain_function : {k : ScopeKind} {ns : Nodes} {l : Leaf} → HoldsTypes k → Each NamedPrintable ns → MaybePrintable l → DefPrintable k (make.function_type 0 ns l)
    async_function : {k : ScopeKind} {ns : Nodes} {l : Leaf} → HoldsTypes k → Each NamedPrintable ns → MaybePrintable l → DefPrintable k (make.function_type 1 ns l)
    component_type : {k : ScopeKind} {ds : Defs} → HoldsTypes k → DefsPrintable kinds.ComponentType ds → DefPrintable k (make.component_type (scope_of kinds.ComponentType None None ds))
    instance_type : {k : ScopeKind} {ds : Defs} → HoldsTypes k → DefsPrintable kinds.InstanceType ds → DefPrintable k (make.instance_type (scope_of kinds.InstanceType None None ds))
    resource_type : {k : ScopeKind} {v : CoreValue} {l : Leaf} → HoldsTypes k → CorePrintable v → MaybeFunction l → DefPrintable k (make.resource_type v l)
    -- core types
    core_function_type : {k : ScopeKind} {ps rs : Nodes} → HoldsTypes k → Each CoreValuePrintable ps → Each CoreValuePrintable rs → DefPrintable k (make.core_function_type ps rs)
    core_rec : {k : ScopeKind} {ns : Nodes} → HoldsTypes k → Each CoreFunctionPrintable ns → DefPrintable k (make.core_rec ns)
    module_type : {k : ScopeKind} {ds : Defs} → HoldsTypes k → DefsPrintable kinds.ModuleType ds → DefPrintable k (make.module_type (scope_of kinds.ModuleType None None ds))
    -- aliases
    alias_export : {k : ScopeKind} {i : ℕ} {t : Text} {s : Space} → HoldsTypes k → Word i → IsText t → Kind s → DefPrintable k (make.alias_export (m.index i) t s)
    alias_core_export : {k : ScopeKind} {i : ℕ} {t : Text} {s : Space} → HoldsTypes k → Word i → IsText t → CoreKind s → DefPrintable k (make.alias_core_export (m.index i) t s)
    alias_outer : {k : ScopeKind} {d i : ℕ} {s : Space} → HoldsTypes k → Word d → Word i → OuterKind s → DefPrintable k (make.alias_outer (core.counted 0 d) (m.index i) s)
    -- core instances, components, instances
    core_instantiate : {i : ℕ} {ns : Nodes} → Word i → Each CoreArgumentPrintable ns → DefPrintable kinds.Component (make.core_instantiate (m.index i) ns)
    core_bundle : {ns : Nodes} → Each CoreExportPrintable ns → DefPrintable kinds.Component (make.core_bundle ns)
    component : {ds : Defs} → DefsPrintable kinds.Component ds → DefPrintable kinds.Component (make.component (scope_of kinds.Component None None ds))
    instantiate : {i : ℕ} {ns : Nodes} → Word i → Each ArgumentPrintable ns → DefPrintable kinds.Component (make.instantiate (m.index i) ns)
    bundle : {ns : Nodes} → Each ExportPrintable ns → DefPrintable kinds.Component (make.bundle ns)
    -- canonical functions
    lift : {t f : ℕ} {ns : Nodes} → Word t → Word f → Each OptionPrintable ns → DefPrintable kinds.Component (make.lift (m.index t) (m.index f) ns)
    lower : {f : ℕ} {ns : Nodes} → Word f → Each OptionPrintable ns → DefPrintable kinds.Component (make.lower (m.index f) ns)
    task_cancel : DefPrintable kinds.Component (make.built_in rows.TaskCancel)
    subtask_drop : DefPrintable kinds.Component (make.built_in rows.SubtaskDrop)
    error_context_drop : DefPrintable kinds.Component (make.built_in rows.ErrorContextDrop)
    waitable_set_new : DefPrintable kinds.Component (make.built_in rows.WaitableSetNew)
    waitable_set_drop : DefPrintable kinds.Component (make.built_in rows.WaitableSetDrop)
    waitable_join : DefPrintable kinds.Component (make.built_in rows.WaitableJoin)
    backpressure_inc : DefPrintable kinds.Component (make.built_in rows.BackpressureInc)
    backpressure_dec : DefPrintable kinds.Component (make.built_in rows.BackpressureDec)
    thread_available_parallelism : DefPrintable kinds.Component (make.built_in rows.ThreadAvailableParallelism)
    resource_new : {i : ℕ} → Word i → DefPrintable kinds.Component (make.of_type rows.ResourceNew (m.index i))
    resource_drop : {i : ℕ} → Word i → DefPrintable kinds.Component (make.of_type rows.ResourceDrop (m.index i))
    resource_rep : {i : ℕ} → Word i → DefPrintable kinds.Component (make.of_type rows.ResourceRep (m.index i))
    stream_new : {i : ℕ} → Word i → DefPrintable kinds.Component (make.of_type rows.StreamNew (m.index i))
    stream_drop_readable : {i : ℕ} → Word i → DefPrintable kinds.Component (make.of_type rows.StreamDropReadable (m.index i))
    stream_drop_writable : {i : ℕ} → Word i → DefPrintable kinds.Component (make.of_type rows.StreamDropWritable (m.index i))
    future_new : {i : ℕ} → Word i → DefPrintable kinds.Component (make.of_type rows.FutureNew (m.index i))
    future_drop_readable : {i : ℕ} → Word i → DefPrintable kinds.Component (make.of_type rows.FutureDropReadable (m.index i))
    future_drop_writable : {i : ℕ} → Word i → DefPrintable kinds.Component (make.of_type rows.FutureDropWritable (m.index i))
    stream_read : {i : ℕ} {ns : Nodes} → Word i → Each OptionPrintable ns → DefPrintable kinds.Component (make.of_type_with rows.StreamRead (m.index i) ns)
    stream_write : {i : ℕ} {ns : Nodes} → Word i → Each OptionPrintable ns → DefPrintable kinds.Component (make.of_type_with rows.StreamWrite (m.index i) ns)
    future_read : {i : ℕ} {ns : Nodes} → Word i → Each OptionPrintable ns → DefPrintable kinds.Component (make.of_type_with rows.FutureRead (m.index i) ns)
    future_write : {i : ℕ} {ns : Nodes} → Word i → Each OptionPrintable ns → DefPrintable kinds.Component (make.of_type_with rows.FutureWrite (m.index i) ns)
    stream_cancel_read_0 : {i : ℕ} → Word i → DefPrintable kinds.Component (make.of_type_async rows.StreamCancelRead (m.index i) 0)
    stream_cancel_read_1 : {i : ℕ} → Word i → DefPrintable kinds.Component (make.of_type_async rows.StreamCancelRead (m.index i) 1)
    stream_cancel_write_0 : {i : ℕ} → Word i → DefPrintable kinds.Component (make.of_type_async rows.StreamCancelWrite (m.index i) 0)
    stream_cancel_write_1 : {i : ℕ} → Word i → DefPrintable kinds.Component (make.of_type_async rows.StreamCancelWrite (m.index i) 1)
    future_cancel_read_0 : {i : ℕ} → Word i → DefPrintable kinds.Component (make.of_type_async rows.FutureCancelRead (m.index i) 0)
    future_cancel_read_1 : {i : ℕ} → Word i → DefPrintable kinds.Component (make.of_type_async rows.FutureCancelRead (m.index i) 1)
    future_cancel_write_0 : {i : ℕ} → Word i → DefPrintable kinds.Component (make.of_type_async rows.FutureCancelWrite (m.index i) 0)
    future_cancel_write_1 : {i : ℕ} → Word i → DefPrintable kinds.Component (make.of_type_async rows.FutureCancelWrite (m.index i) 1)
    subtask_cancel_0 : DefPrintable kinds.Component (make.subtask_cancel 0)
    subtask_cancel_1 : DefPrintable kinds.Component (make.subtask_cancel 1)
    error_context_new : {ns : Nodes} → Each OptionPrintable ns → DefPrintable kinds.Component (make.of_options rows.ErrorContextNew ns)
    error_context_debug_message : {ns : Nodes} → Each OptionPrintable ns → DefPrintable kinds.Component (make.of_options rows.ErrorContextDebugMessage ns)
    context_get : {v : CoreValue} {n : ℕ} → CorePrintable v → Word n → DefPrintable kinds.Component (make.of_context rows.ContextGet v n)
    context_set : {v : CoreValue} {n : ℕ} → CorePrintable v → Word n → DefPrintable kinds.Component (make.of_context rows.ContextSet v n)
    task_return : {l : Leaf} {ns : Nodes} → MaybePrintable l → Each OptionPrintable ns → DefPrintable kinds.Component (make.task_return l ns)
    thread_spawn_ref : {i : ℕ} → Word i → DefPrintable kinds.Component (make.thread_spawn_ref (m.index i))
    thread_spawn_indirect : {i j : ℕ} → Word i → Word j → DefPrintable kinds.Component (make.thread_spawn_indirect (m.index i) (m.index j))
    -- start, imports and exports, custom sections
    start : {f n : ℕ} {ns : Nodes} → Word f → Each StartArgumentPrintable ns → DefPrintable kinds.Component (make.start (m.index f) ns (m.result_count n))
    import : {t : Text} {n : Node} → IsText t → DescriptionPrintable n → DefPrintable kinds.Component (make.import_row (m.text t) n)
    import_in_type : {t : Text} {n : Node} → IsText t → DescriptionPrintable n → DefPrintable kinds.ComponentType (make.import_row (m.text t) n)
    export : {t : Text} {l : Leaf} {s : Space} {i : ℕ} → IsText t → MaybeDescription l → Kind s → Word i → DefPrintable kinds.Component (make.export_row (m.text t) l s (m.index i))
    export_in_component_type : {t : Text} {n : Node} → IsText t → DescriptionPrintable n → DefPrintable kinds.ComponentType (make.export_type (m.text t) n)
    export_in_instance_type : {t : Text} {n : Node} → IsText t → DescriptionPrintable n → DefPrintable kinds.InstanceType (make.export_type (m.text t) n)
    custom : {t p : Text} → IsText t → Bytes p → DefPrintable kinds.Component (make.custom t p)
    -- module types
    module_function_type : {ps rs : Nodes} → Each CoreValuePrintable ps → Each CoreValuePrintable rs → DefPrintable kinds.ModuleType (make.core_function_type ps rs)
    module_rec : {ns : Nodes} → Each CoreFunctionPrintable ns → DefPrintable kinds.ModuleType (make.core_rec ns)
    module_alias : {d i : ℕ} → Word d → Word i → DefPrintable kinds.ModuleType (make.alias_outer (core.counted 0 d) (m.index i) space.CoreType)
    module_import : {t u : Text} {n : Node} → IsText t → IsText u → EntityPrintable n → DefPrintable kinds.ModuleType (make.module_import t u n)
    module_export : {t : Text} {n : Node} → IsText t → EntityPrintable n → DefPrintable kinds.ModuleType (make.module_export t n)

  pub data DefsPrintable : ScopeKind → Defs → Type 0 where
    no_more : {k : ScopeKind} → DefsPrintable k no_def
    one_more : {k : ScopeKind} {n : Node} {ds : Defs} → DefPrintable k n → DefsPrintable k ds → DefsPrintable k (one_def (define no_names n) ds)

-- a component that has a text
pub data IsPrintable : Scope → Type 0 where
  of_definitions : {ds : Defs} → DefsPrintable kinds.Component ds → IsPrintable (scope_of kinds.Component None None ds)
