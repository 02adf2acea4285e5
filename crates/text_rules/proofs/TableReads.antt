-- The rules read the rows of the text format.
use Rattle.std.proofs.Common.{◌≡◌, ◌≤◌, true, refl, lit≤}
use Rattle.wast_grammar.specs.ValueRows.{val, fty, reference, bytes}
use Rattle.wast_grammar.specs.NameRows.{extern_name, plain_name, interface_name, attributes}
use Rattle.wast_grammar.specs.ReferenceRows as gr
use Rattle.wast_grammar.specs.CoreTypeRows as gc
use Rattle.wast_grammar.specs.TypeRows as gt
use Rattle.wast_grammar.specs.InstanceRows as gi
use Rattle.wast_grammar.specs.CanonRows as gf
use Rattle.wast_grammar.specs.FieldRows as gd
use Rattle.wast_grammar.specs.Grammar.{Row, Val, CoreField}
use Rattle.wast_grammar.specs.Rows.{text_row}
use Rattle.wast_grammar.specs.Unfolded.{value_rows, name_rows}
use Rattle.wast_grammar.specs.Shape.{guarded, sound}
use Rattle.comp_model.specs.declared.Space.TheVariants as space
use Rattle.comp_model.specs.Core.{own}
use Rattle.text_rules.specs.Rule.{reads}
use Rattle.text_rules.specs.Measure.{size, most, Fit}
use Rattle.text_rules.specs.ValueRules as v
use Rattle.text_rules.specs.ReferenceRules as r
use Rattle.text_rules.specs.CoreTypeRules as c
use Rattle.text_rules.specs.TypeRules as t
use Rattle.text_rules.specs.InstanceRules as i
use Rattle.text_rules.specs.CanonRules as f
use Rattle.text_rules.specs.FieldRules as d
use Rattle.text_rules.specs.Table.{table, in_table}

reads_val : reads v.val_rule ≡ val
unfolding value_rows name_rows
reads_val = refl

reads_fty : reads v.fty ≡ fty
unfolding value_rows name_rows
reads_fty = refl

reads_item : reads r.item ≡ gr.item
unfolding value_rows name_rows
reads_item = refl

reads_core_reference : reads (r.core_reference "func" space.CoreFunc) ≡ gr.core_reference "func"
unfolding value_rows name_rows
reads_core_reference = refl

reads_memory_reference : reads r.memory_reference ≡ gr.memory_reference
unfolding value_rows name_rows
reads_memory_reference = refl

reads_core_value : reads (c.core_value own) ≡ gc.core_value
unfolding value_rows name_rows
reads_core_value = refl

reads_core_function : reads c.core_function ≡ gc.core_function
unfolding value_rows name_rows
reads_core_function = refl

reads_core_signature : reads c.core_signature ≡ gc.core_signature
unfolding value_rows name_rows
reads_core_signature = refl

reads_module_type_item : reads c.module_type_item ≡ gc.module_type_item
unfolding value_rows name_rows
reads_module_type_item = refl

reads_component_type_item : reads t.component_type_item ≡ gt.component_type_item
unfolding value_rows name_rows
reads_component_type_item = refl

reads_instance_type_item : reads t.instance_type_item ≡ gt.instance_type_item
unfolding value_rows name_rows
reads_instance_type_item = refl

reads_core_instance : reads i.core_instance ≡ gi.core_instance
unfolding value_rows name_rows
reads_core_instance = refl

reads_instance : reads i.instance ≡ gi.instance
unfolding value_rows name_rows
reads_instance = refl

reads_canonical_option : reads f.canonical_option ≡ gf.canonical_option
unfolding value_rows name_rows
reads_canonical_option = refl

reads_built_in : reads f.built_in ≡ gf.built_in
unfolding value_rows name_rows
reads_built_in = refl

reads_func : reads f.func ≡ gf.func
unfolding value_rows name_rows
reads_func = refl

reads_canon : reads f.canon ≡ gf.canon
unfolding value_rows name_rows
reads_canon = refl

reads_component_item : reads d.component_item ≡ gd.component_item
unfolding value_rows name_rows
reads_component_item = refl

pub reads_wat_item : reads d.wat_item ≡ gd.wat_item
unfolding value_rows name_rows
reads_wat_item = refl

-- what the names of rows stand for
pub reads_rows : (n : Row) → in_table n ≡ true → reads (table n) ≡ text_row n
unfolding value_rows name_rows text_row
reads_rows CoreField h = absurd (cc)
reads_rows _ h = refl

-- each begins with a token
pub begin_with_tokens : (n : Row) → in_table n ≡ true → guarded (reads (table n)) ≡ true
unfolding reference extern_name plain_name interface_name attributes
begin_with_tokens Val h = refl
begin_with_tokens _ h = refl

-- is sound, and small
sound_rows : (n : Row) → sound (reads (table n)) ≡ true
unfolding reference extern_name plain_name interface_name attributes
sound_rows Val = refl
sound_rows _ = refl

small_rows : (n : Row) → size (table n) ≤ most
small_rows Val = lit≤ tt
small_rows _ = lit≤ tt

pub rows_fit : (n : Row) → in_table n ≡ true → Fit (table n)
rows_fit n h = record { sound = sound_rows n; small = small_rows n }

sound_text : sound (reads d.wat_item) ≡ true
unfolding bytes
sound_text = refl

pub text_fits : Fit d.wat_item
text_fits = record { sound = sound_text; small = lit≤ tt }
