use Rattle.std.proofs.Common.{[], drop, map}
use Rattle.comp_model.specs.declared.Space.{Space}
use Rattle.core_model.specs.Bytes.{export_item}
use Rattle.core_fits.specs.Tests.{fits_inline}
use Rattle.core_fits.proofs.Sizes.{SoFar}
use Rattle.core_fits.proofs.exports.inline_size.Given as goal

-- with what is left it is the whole
abbrev pub invariant-loop-name : goal.invariant-loop-name
invariant-loop-name l = (s : Space) → SoFar l.size (map (export_item [] s l.index) (map (λ x. x.now) (drop l.name-index l.names))) (fits_inline l.index (map (λ x. x.now) (drop l.name-index l.names)))
    (map (export_item [] s l.index) (map (λ x. x.now) l.names)) (fits_inline l.index (map (λ x. x.now) l.names))
