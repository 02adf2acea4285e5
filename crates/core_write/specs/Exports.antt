-- The exports of fields, with a count of the items before each.
use Rattle.std.specs.Prelude.{ℕ, ◌+◌, List, [], ◌∷◌, ◌++◌, map, length, Option, Some, ⊤}
use Rattle.comp_model.specs.declared.Space.{Space}
use Rattle.comp_model.specs.declared.Space.TheVariants.{CoreFunc, CoreTable, CoreMemory, CoreGlobal, CoreTag}
use Rattle.comp_model.specs.Core.{Text}
use Rattle.comp_model.specs.CoreModules as c
use Rattle.comp_model.specs.CoreModules.{Field}
use Rattle.core_model.specs.Items.{declares, index_of}
use Rattle.core_model.specs.Words.{Word}
use Rattle.core_model.specs.Bytes.{export_item}
use Rattle.core_write.specs.declared.counts.Counts.{Counts}

-- an item of a space more
abbrev pub counted_in : Option Space → Counts → Counts
counted_in (Some CoreFunc) n = record n { funcs = n.funcs + 1 }
counted_in (Some CoreTable) n = record n { tables = n.tables + 1 }
counted_in (Some CoreMemory) n = record n { memories = n.memories + 1 }
counted_in (Some CoreGlobal) n = record n { globals = n.globals + 1 }
counted_in _ n = n

-- what a field exports, where so many items stand before it
abbrev pub exports_at : Counts → Field → List (List ℕ)
exports_at n (c.export_field o x CoreTag i) = []
exports_at n (c.export_field o x s i) = export_item [] s (index_of [] i) x ∷ []
exports_at n (c.func_field o m i u ls is) = map (export_item [] CoreFunc n.funcs) i.exports
exports_at n (c.table_field o m i l v) = map (export_item [] CoreTable n.tables) i.exports
exports_at n (c.memory_field o m i l) = map (export_item [] CoreMemory n.memories) i.exports
exports_at n (c.global_field o m i v b is) = map (export_item [] CoreGlobal n.globals) i.exports
exports_at n _ = []

abbrev pub exports_from : Counts → List Field → List (List ℕ)
exports_from n [] = []
exports_from n (f ∷ fs) = exports_at n f ++ exports_from (counted_in (declares f) n) fs

-- ---- what fits

-- the index of an item, and the length of each of its names
abbrev pub FitsInline : ℕ → List Text → Type 0
FitsInline index [] = ⊤
FitsInline index (x ∷ xs) = Word index × Word (length x) × FitsInline index xs

abbrev pub FitsExportsAt : Counts → Field → Type 0
FitsExportsAt n (c.export_field o x CoreTag i) = ⊤
FitsExportsAt n (c.export_field o x s i) = Word (length x)
FitsExportsAt n (c.func_field o m i u ls is) = FitsInline n.funcs i.exports
FitsExportsAt n (c.table_field o m i l v) = FitsInline n.tables i.exports
FitsExportsAt n (c.memory_field o m i l) = FitsInline n.memories i.exports
FitsExportsAt n (c.global_field o m i v b is) = FitsInline n.globals i.exports
FitsExportsAt n _ = ⊤

abbrev pub FitsExports : Counts → List Field → Type 0
FitsExports n [] = ⊤
FitsExports n (f ∷ fs) = FitsExportsAt n f × FitsExports (counted_in (declares f) n) fs

-- at the head of a module
abbrev pub no_counts : Counts
no_counts = record { funcs = 0; tables = 0; memories = 0; globals = 0 }
