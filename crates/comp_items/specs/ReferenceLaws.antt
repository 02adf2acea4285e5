-- What the checker computes of the rules of references, for every kind: each leaves one reference.
use Rattle.std.specs.Prelude.{[], ◌∷◌, Bool, true, false, refl}
use Rattle.comp_model.specs.Rows.{a_ref}
use Rattle.text_rules.specs.ReferenceRules.{item_of, core_item_of}
use Rattle.text_table.specs.ItemKinds.{item_space, core_item_space}
use Rattle.text_table.specs.declared.kinds.ItemKind.{ItemKind}
use Rattle.text_table.specs.declared.kinds.ItemKind.TheVariants as kinds
use Rattle.text_table.specs.declared.kinds.CoreItemKind.{CoreItemKind}
use Rattle.text_table.specs.declared.kinds.CoreItemKind.TheVariants as core_kinds
use Rattle.typed_parts.specs.OfShapes.{ReadsAs}
use Rattle.wast_grammar.specs.ValueRows.{reference}
use Rattle.comp_items.specs.Items.{item_or_index, prefixed_core_item, core_contents}

pub reads_item : (k : ItemKind) → ReadsAs (item_of (item_space k)) (a_ref (item_space k) ∷ [])
unfolding reference
reads_item kinds.CoreModule = record { taken = refl; read_on = refl; decided = refl; shaped = refl }
reads_item _ = record { taken = refl; read_on = refl; decided = refl; shaped = refl }

pub reads_item_or_index : (k : ItemKind) → ReadsAs (item_or_index (item_space k)) (a_ref (item_space k) ∷ [])
unfolding reference
reads_item_or_index kinds.CoreModule = record { taken = refl; read_on = refl; decided = refl; shaped = refl }
reads_item_or_index _ = record { taken = refl; read_on = refl; decided = refl; shaped = refl }

pub reads_core_item : (k : CoreItemKind) → ReadsAs (core_item_of (core_item_space k)) (a_ref (core_item_space k) ∷ [])
unfolding reference
reads_core_item core_kinds.Func = record { taken = refl; read_on = refl; decided = refl; shaped = refl }
reads_core_item _ = record { taken = refl; read_on = refl; decided = refl; shaped = refl }

pub reads_contents : (k : CoreItemKind) → ReadsAs (core_contents (core_item_space k)) (a_ref (core_item_space k) ∷ [])
unfolding reference
reads_contents core_kinds.Func = record { taken = refl; read_on = refl; decided = refl; shaped = refl }
reads_contents _ = record { taken = refl; read_on = refl; decided = refl; shaped = refl }

pub reads_prefixed : (legacy : Bool) (k : CoreItemKind) → ReadsAs (prefixed_core_item legacy (core_item_space k)) (a_ref (core_item_space k) ∷ [])
unfolding reference
reads_prefixed true core_kinds.Func = record { taken = refl; read_on = refl; decided = refl; shaped = refl }
reads_prefixed true _ = record { taken = refl; read_on = refl; decided = refl; shaped = refl }
reads_prefixed false core_kinds.Func = record { taken = refl; read_on = refl; decided = refl; shaped = refl }
reads_prefixed false _ = record { taken = refl; read_on = refl; decided = refl; shaped = refl }
