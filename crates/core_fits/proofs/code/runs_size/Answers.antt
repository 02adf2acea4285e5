use Rattle.std.proofs.Common.{map, refl, sym, subst, arith}
use Rattle.comp_model.specs.Core.{i32}
use Rattle.core_model.specs.Bytes.{runs}
use Rattle.core_syntax.specs.Fields.{local_of}
use Rattle.core_write.specs.Written.{values_of}
use Rattle.core_write.proofs.Runs.{runs-from-front}
use Rattle.core_fits.proofs.Sizes.{so_far_none}
use Rattle.core_fits.proofs.CodeSized.{RunsSoFar}
use Rattle.core_fits.proofs.code.runs_size.Goals as goal

pub loop-local-init : goal.loop-local-init
loop-local-init c = record {
  size = subst (λ rs. RunsSoFar c.none-size.result rs (runs (values_of (map local_of c.args.locals.now)))) (sym (runs-from-front i32 (values_of (map local_of c.args.locals.now))))
      (so_far_none c.none-size.result _ _ c.none-size.ensures.count c.none-size.ensures.bytes c.none-size.ensures.fits);
  typed = refl;
  below = omega arith;
}
