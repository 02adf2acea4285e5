use Rattle.std.proofs.Common.{map, ◌∙◌}
use Rattle.core_syntax.specs.Fields.{local_of, body_of}
use Rattle.core_fits.proofs.CodeSized.{code_sized}
use Rattle.core_fits.proofs.code.code_size.Goals as goal

pub returns : goal.returns
returns c =
    code_sized c.runs_size-runs.result c.one.result (map local_of c.args.locals.now) (body_of c.args.body.now) c.add-entry.result c.counted_length.result c.expression_length.result
    c.runs_size-runs.ensures c.counted_length.ensures c.expression_length.ensures c.add-entry.ensures c.one.ensures.count (c.one.ensures.bytes ∙ c.framed_length.ensures) c.one.ensures.fits
