-- Behind a core item that is referred to by its word stands one name at most.
use Rattle.std.specs.Prelude.{◌≡◌, refl, true}
use Rattle.comp_model.specs.Rows.{is_core_path}
use Rattle.text_table.specs.ItemKinds.{core_item_space}
use Rattle.text_table.specs.declared.kinds.CoreItemKind.{CoreItemKind}
use Rattle.text_table.specs.declared.kinds.CoreItemKind.TheVariants as core_kinds

pub one_name : (k : CoreItemKind) → is_core_path (core_item_space k) ≡ true
one_name core_kinds.Func = refl
one_name _ = refl
