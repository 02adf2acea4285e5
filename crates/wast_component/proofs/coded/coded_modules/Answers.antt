use Rattle.wast_component.specs.Modules.{all_fields}
use Rattle.wast_component.proofs.Modules.{writable_at}
use Rattle.wast_component.proofs.coded.coded_modules.Goals as goal

pub coded_at-requires-clause-fits : goal.coded_at-requires-clause-fits
coded_at-requires-clause-fits c = writable_at (all_fields c.args.all.now) c.args.named.now c.loop-one.one-index _ c.loop-one-test.true c.requires.fits
