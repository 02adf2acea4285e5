-- Which rule of the text format each rule in code stands for.
use Rattle.std.specs.Prelude.{ℕ, Bool, List, [], ◌∷◌, ◌++◌, map}
use Rattle.std.proofs.Common.{Bor}
use Rattle.comp_model.specs.declared.Space.{Space}
use Rattle.comp_model.specs.Core as core
use Rattle.comp_model.specs.declared.row.Row.TheVariants as rows
use Rattle.wast_grammar.specs.Classes.{Class, opening, closing}
use Rattle.wast_grammar.specs.Grammar as g
use Rattle.wast_grammar.specs.Grammar.{next, next2}
use Rattle.wast_grammar.specs.ValueRows.{prim_words, strings}
use Rattle.wast_grammar.specs.CoreTypeRows.{other_references, reference_words, other_type_words, limit_words}
use Rattle.wast_grammar.specs.FieldRows.{producer_words}
use Rattle.token_codes.specs.Numbers.{range}
use Rattle.text_rules.specs.Rule as r
use Rattle.text_rules.specs.Forms.{group, of_row, entry, named}
use Rattle.text_rules.specs.ReferenceRules.{item, item_path, core_path}
use Rattle.text_rules.specs.ValueRules.{nonprim}
use Rattle.text_rules.specs.CanonRules.{built_in, func, type_of}
use Rattle.text_rules.specs.CanonRules.{parts as built_in_parts}
use Rattle.wast_grammar.specs.CanonRows.{a_func_and_options, a_type_and_options, a_type_and_async, a_result_and_options, a_context, a_core_type_and_table, a_memory}
use Rattle.text_table.specs.declared.rule.RowName.{RowName}
use Rattle.text_table.specs.declared.rule.RowName.TheVariants as names
use Rattle.text_rules.specs.CoreTypeRules.{core_type, core_rec, core_function, core_signature}
use Rattle.text_rules.specs.TypeRules.{type_declaration, alias, import_item, exported_type, export_item, resource_type, component_declaration, instance_declaration}
use Rattle.text_rules.specs.InstanceRules.{core_instance, instance}
use Rattle.text_rules.specs.FieldRules.{core_module, inner_component, type_item, start, custom, producers, field_in_group}
use Rattle.text_table.specs.declared.rule.Part.{Part}
use Rattle.text_table.specs.declared.rule.Part.TheVariants as parts
use Rattle.text_table.specs.declared.rule.Choice.{Choice}
use Rattle.text_table.specs.declared.rule.Choice.TheVariants as choices
use Rattle.text_table.specs.declared.rule.Ending.{Ending}
use Rattle.text_table.specs.declared.rule.Ending.TheVariants as endings
use Rattle.text_table.specs.declared.rule.Test.{Test}
use Rattle.text_table.specs.declared.rule.Test as tests
use Rattle.text_table.specs.declared.rule.CoreType.{CoreType}
use Rattle.text_table.specs.declared.rule.CoreType.TheVariants as types
use Rattle.text_table.specs.declared.rule.Add.{Add}
use Rattle.text_table.specs.declared.rule.Add.TheVariants as adding
use Rattle.text_table.specs.declared.rule.Keep.{Keep}
use Rattle.text_table.specs.declared.rule.Keep.TheVariants as keeping
use Rattle.text_table.specs.declared.rule.Reach.{Reach}
use Rattle.text_table.specs.declared.rule.Reach.TheVariants as reaches
use Rattle.text_table.specs.declared.rule.Told.{Told}
use Rattle.text_table.specs.declared.rule.Told.TheVariants as telling
use Rattle.text_table.specs.declared.rule.Silent.{Silent}
use Rattle.text_table.specs.declared.rule.Silent.TheVariants as silence
use Rattle.text_table.specs.declared.rule.Outside.{Outside}
use Rattle.text_table.specs.declared.rule.Outside.TheVariants as others
use Rattle.text_table.specs.declared.rule.Step.{Step}
use Rattle.text_table.specs.declared.rule.Step.TheVariants as step
use Rattle.text_table.specs.declared.rule.Steps.{Steps}
use Rattle.text_table.specs.declared.rule.Steps.TheVariants as steps
use Rattle.text_table.specs.declared.rule.Wrap.{Wrap}
use Rattle.text_table.specs.declared.rule.Wrap.TheVariants as wrapping
use Rattle.text_table.specs.declared.rule.Rule.{Rule}
use Rattle.text_table.specs.declared.rule.Rule as c

abbrev pub row_of : RowName → g.Row
row_of names.Val = g.Val
row_of names.ComponentItem = g.ComponentItem
row_of names.ComponentTypeItem = g.ComponentTypeItem
row_of names.InstanceTypeItem = g.InstanceTypeItem
row_of names.ModuleTypeItem = g.ModuleTypeItem
row_of names.CoreFunc = g.CoreFunc
row_of names.Canon = g.Canon
row_of names.CanonicalOption = g.CanonicalOption
row_of names.TypeDefinition = g.TypeDefinition
row_of names.Signature = g.Signature
row_of names.NamelessSignature = g.NamelessSignature
row_of names.CoreValue = g.CoreValue
row_of names.CoreTypeDefinition = g.CoreTypeDefinition

abbrev pub choice_of : Choice → r.Rule
choice_of choices.NonPrim = nonprim
choice_of choices.BuiltIn = built_in
choice_of choices.Field = field_in_group
choice_of choices.ComponentDeclaration = component_declaration
choice_of choices.InstanceDeclaration = instance_declaration

-- the rule of a name
abbrev pub part_of : Part → r.Rule
part_of parts.CoreType = core_type
part_of parts.CoreRec = core_rec
part_of parts.CoreFunction = core_function
part_of parts.CoreSignature = core_signature
part_of parts.TypeDeclaration = type_declaration
part_of parts.Alias = alias
part_of parts.Import = import_item
part_of parts.ExportedType = exported_type
part_of parts.Export = export_item
part_of parts.Resource = resource_type
part_of parts.Item = item
part_of parts.CoreInstance = core_instance
part_of parts.Instance = instance
part_of parts.Func = func
part_of parts.CoreModule = core_module
part_of parts.InnerComponent = inner_component
part_of parts.Type = type_item
part_of parts.Start = start
part_of parts.Custom = custom
part_of parts.Producers = producers
part_of parts.TypeOf = type_of
part_of parts.TypeAndOptions = built_in_parts a_type_and_options
part_of parts.TypeAndAsync = built_in_parts a_type_and_async
part_of parts.FuncAndOptions = built_in_parts a_func_and_options
part_of parts.ResultAndOptions = built_in_parts a_result_and_options
part_of parts.Context = built_in_parts a_context
part_of parts.CoreTypeAndTable = built_in_parts a_core_type_and_table
part_of parts.Memory = built_in_parts a_memory

-- ---- tests

-- the class of a number, or none where the number tells none
abbrev pub one_class : ℕ → List Class
one_class n = range n n

abbrev pub classes_of : List ℕ → List Class
classes_of [] = []
classes_of (n ∷ ns) = one_class n ++ classes_of ns

abbrev pub lent_classes : Bor (List ℕ) → List Class
lent_classes ns = classes_of ns.now

-- a token of the first class is next, and behind it one of these
abbrev pub both_of : List Class → List Class → g.Test
both_of [] cs = next []
both_of (c ∷ bs) cs = next2 c cs

abbrev pub ending_of : Ending → g.Test
ending_of endings.Reference = g.word_in reference_words
ending_of endings.OtherReference = g.word_in other_references

abbrev pub test_of : Test → g.Test
test_of (tests.Next n) = next (one_class n)
test_of (tests.Range a b) = next (range a b)
test_of (tests.Among ns) = next (classes_of ns.now)
test_of (tests.Both a b) = both_of (one_class a) (one_class b)
test_of (tests.Group n) = next2 opening (one_class n)
test_of (tests.GroupRange a b) = next2 opening (range a b)
test_of tests.Going = g.going
test_of (tests.Or' p x q y) = g.or_else (test_of x) (test_of y)
test_of (tests.Ending e) = ending_of e
test_of tests.Legacy = g.legacy
test_of (tests.Form cs ds ps) = g.form (classes_of cs.now ∷ classes_of ds.now ∷ map lent_classes ps.now)

-- ---- what is kept, and what is made of it

abbrev pub core_type_of : CoreType → core.CoreValue
core_type_of types.I32 = core.i32
core_type_of types.I64 = core.i64
core_type_of types.F32 = core.f32
core_type_of types.F64 = core.f64
core_type_of types.V128 = core.v128
core_type_of (types.RefFunc b) = core.ref_func b
core_type_of (types.RefExtern b) = core.ref_extern b
core_type_of types.Other = core.other_value

abbrev pub add_of : Add → r.Adds
add_of (adding.Number n) = r.a_number n
add_of (adding.CoreValue v) = r.a_core_value (core_type_of v)
add_of (adding.Kind s) = r.a_kind s
add_of adding.NoPart = r.no_part
add_of adding.NoCaseId = r.no_case_id
add_of adding.NoId = r.no_id
add_of adding.NoLabel = r.no_label

abbrev pub keep_of : Keep → r.Keeps
keep_of keeping.Text = r.a_text
keep_of keeping.Bytes = r.a_string
keep_of keeping.Count = r.a_count
keep_of keeping.Id = r.an_id
keep_of keeping.CaseId = r.a_case
keep_of keeping.Label = r.a_label
keep_of keeping.Export = r.an_export

abbrev pub reach_of : Reach → core.Reach
reach_of reaches.Outward = core.outward
reach_of reaches.Own = core.own

-- the words of a table, each with the place of its number
abbrev pub words_told : Told → List (List ℕ × ℕ)
words_told telling.Primitive = prim_words
words_told telling.Producer = producer_words

abbrev pub numbers_told : Told → List ℕ
numbers_told telling.Primitive = 0x7f ∷ 0x7e ∷ 0x7d ∷ 0x7c ∷ 0x7b ∷ 0x7a ∷ 0x79 ∷ 0x78 ∷ 0x77 ∷ 0x76 ∷ 0x75 ∷ 0x74 ∷ 0x73 ∷ 0x64 ∷ []
numbers_told telling.Producer = 0 ∷ 1 ∷ 2 ∷ []

abbrev pub silent_of : Silent → g.Special
silent_of silence.OtherReference = g.a_word other_references
silent_of silence.OtherType = g.any_of other_type_words
silent_of silence.OtherLimits = g.any_of limit_words

abbrev pub outside_of : Outside → r.Outside
outside_of others.ExternName = r.an_extern_name
outside_of others.PlainName = r.a_plain_name
outside_of others.CoreFields = r.core_fields
outside_of others.SomeCoreFields = r.some_core_fields

abbrev pub step_of : Step → r.Rule
step_of (step.Keep k) = r.keeps (keep_of k)
step_of (step.Reference u w) = r.reference u (reach_of w)
step_of (step.Told t) = r.told (words_told t) (numbers_told t)
step_of (step.Silent s) = r.silent (silent_of s)
step_of (step.Outside o) = r.outside (outside_of o)

abbrev pub path_rule : Space → Steps → r.Rule
path_rule u steps.Many = item_path u
path_rule u steps.One = core_path u
path_rule u steps.Legacy = r.wraps r.path (r.pair (r.reference u core.outward) (r.by_test g.legacy (r.either (next strings) (r.keeps r.a_text) r.nothing) r.nothing))

abbrev pub wrap_of : Wrap → r.Wraps
wrap_of wrapping.Entry = r.an_entry
wrap_of wrapping.Swapped = r.swapped
wrap_of wrapping.LastFirst = r.last_first
wrap_of wrapping.Outer = r.outer
wrap_of wrapping.Dropped = r.dropped
wrap_of (wrapping.Heap b) = r.heap b
wrap_of wrapping.Results = r.results
wrap_of wrapping.Joined = r.joined
wrap_of (wrapping.ByNumber n) = r.by_number n
wrap_of wrapping.OtherAlone = r.alone rows.OtherEntity

-- ---- rules

-- a rule for the class of a number; where the number tells none, nothing is read
abbrev pub with_class : (Class → r.Rule) → List Class → r.Rule
with_class f [] = r.no_case
with_class f (c ∷ cs) = f c

abbrev pub a_word : ℕ → r.Rule → r.Rule
a_word n x = with_class (λ c. r.before c x) (one_class n)

abbrev pub a_placed : Bool → ℕ → r.Rule → r.Rule
a_placed b n x = with_class (λ c. r.pair (r.placed b c) x) (one_class n)

abbrev pub a_note : ℕ → r.Rule → r.Rule
a_note n x = with_class (λ c. r.before c (r.after x closing)) (one_class n)

abbrev pub rule_of : Rule → r.Rule
rule_of c.End = r.nothing
rule_of (c.Adds x) = r.also r.nothing (add_of x)
rule_of (c.Also' p x a) = r.also (rule_of x) (add_of a)
rule_of (c.Of' t p x) = of_row t (rule_of x)
rule_of (c.Word' n p x) = a_word n (rule_of x)
rule_of (c.Placed' b n p x) = a_placed b n (rule_of x)
rule_of (c.Keep' k p x) = r.pair (step_of (step.Keep k)) (rule_of x)
rule_of (c.Reference' u w p x) = r.pair (step_of (step.Reference u w)) (rule_of x)
rule_of (c.Told' t p x) = r.pair (step_of (step.Told t)) (rule_of x)
rule_of (c.Outside' o p x) = r.pair (step_of (step.Outside o)) (rule_of x)
rule_of (c.Alone s) = step_of s
rule_of (c.Path u s) = path_rule u s
rule_of (c.Named' p x) = named (rule_of x)
rule_of (c.Then' p x q y) = r.pair (rule_of x) (rule_of y)
rule_of (c.Either' t p x q y) = r.either (test_of t.now) (rule_of x) (rule_of y)
rule_of (c.ByTest' t p x q y) = r.by_test (test_of t.now) (rule_of x) (rule_of y)
rule_of (c.Case' n t p x q y) = r.case n (test_of t.now) (rule_of x) (rule_of y)
rule_of c.NoCase = r.no_case
rule_of (c.Choice n) = choice_of n
rule_of (c.Many' t p x) = r.many (test_of t.now) (rule_of x)
rule_of (c.ManyBy' t p x q y) = r.pair (r.many_by (test_of t.now) (rule_of x)) (rule_of y)
rule_of (c.Group' p x) = group (rule_of x)
rule_of (c.Noted' n p x) = a_note n (rule_of x)
rule_of (c.Closes' p x) = r.after (rule_of x) closing
rule_of (c.Marks' p x) = r.marks (rule_of x)
rule_of (c.Checked' p x) = r.checked (rule_of x)
rule_of (c.Row n) = r.row (row_of n)
rule_of (c.Use n) = part_of n
rule_of (c.Skipping' p x) = r.skipping (rule_of x)
rule_of (c.List' t p x) = r.wraps r.a_list (r.many (test_of t.now) (rule_of x))
rule_of (c.Entry' t p x) = entry t (rule_of x)
rule_of (c.Inline' u p x) = r.wraps (r.inline u) (rule_of x)
rule_of (c.InlineOf' u t p x) = r.wraps (r.inline u) (of_row t (rule_of x))
rule_of (c.Bundle' u t p x) = r.wraps (r.bundle u) (of_row t (rule_of x))
rule_of (c.Node' p x) = r.wraps r.a_node (rule_of x)
rule_of (c.NodeOf' t p x) = r.wraps r.a_node (of_row t (rule_of x))
rule_of (c.Part' p x) = r.wraps r.a_part (rule_of x)
rule_of (c.Def' p x) = r.wraps r.a_def (rule_of x)
rule_of (c.DefOf' t p x) = r.wraps r.a_def (of_row t (rule_of x))
rule_of (c.Scope' k p x) = r.wraps (r.a_scope k) (rule_of x)
rule_of (c.Wraps' w p x) = r.wraps (wrap_of w) (rule_of x)

-- whether a rule is the name of another
abbrev pub uses : Rule → ℕ
uses (c.Use n) = 1
uses _ = 0
