use Rattle.std.proofs.Common.{drop, map}
use Rattle.core_syntax.specs.Fields.{field_of}
use Rattle.core_write.specs.Module.{items_in_part}
use Rattle.core_fits.specs.Tests.{fits_items}
use Rattle.core_fits.proofs.Sizes.{SoFar}
use Rattle.core_fits.proofs.sections.items_size.Given as goal

-- with what is left it is the whole
abbrev pub invariant-loop-field : goal.invariant-loop-field
invariant-loop-field l = SoFar l.size (items_in_part l.part (map field_of (drop l.field-index l.fields))) (fits_items l.part (map field_of (drop l.field-index l.fields)))
    (items_in_part l.part (map field_of l.fields)) (fits_items l.part (map field_of l.fields))
