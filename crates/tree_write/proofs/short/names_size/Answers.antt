use Rattle.std.proofs.Common.{refl}
use Rattle.comp_wire.specs.declared.sections.SectionKind.TheVariants as kind
use Rattle.comp_tree.specs.Model.{scope_of}
use Rattle.tree_write.specs.Wire.{payload_of}
use Rattle.tree_write.proofs.Sizes.{unnamed, named, unfilled, filled}
use Rattle.tree_write.proofs.short.names_size.Goals as goal

pub returns-then-held-eq0 : goal.returns-then-held-eq0
returns-then-held-eq0 c = λ cores. let payload = payload_of (scope_of cores c.args.scope.now) in unnamed payload (unfilled payload _ (c.names_length-held.ensures cores) c.if-held-eq0.true)

pub returns : goal.returns
returns c = λ cores.
    let payload = payload_of (scope_of cores c.args.scope.now) in
    named _ kind.Custom payload c.names_length-held.result (filled payload _ (c.names_length-held.ensures cores) c.if-held-eq0.false) refl (c.names_length-held.ensures cores) refl refl c.saturating_add-bytes.ensures refl refl
