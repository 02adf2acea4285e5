use Rattle.std.proofs.Common.{◌+◌, ◌++◌, [], map, length, refl, sym, ◌∙◌, ap, subst, zero-add, None, ◌<◌, ◌^◌, arith}
use Rattle.core_syntax.specs.declared.types.ValType.TheVariants.{I32}
use Rattle.comp_model.specs.Payloads.{joined}
use Rattle.comp_model.specs.Core.{i32}
use Rattle.core_model.specs.Bytes.{value, run_bytes}
use Rattle.core_syntax.specs.Fields.{value_of, local_of}
use Rattle.core_write.specs.Written.{values_of}
use Rattle.core_write.specs.Fits.{FitsRuns}
use Rattle.core_write.proofs.Runs.{runs-from-front, count-fits}
use Rattle.core_write.proofs.code.push_runs.Goals as goal

pub loop-local-init : goal.loop-local-init
loop-local-init c =
    let e = runs-from-front i32 (values_of (map local_of c.args.locals.now)) in
    record {
      appended = ap (λ rs. c.args.out.now.items ++ joined (map run_bytes rs)) e;
      number = zero-add _ ∙ ap length e;
      fits = subst FitsRuns (sym e) c.requires.fits;
      typed = refl;
    }

pub overflow_add-count : goal.overflow_add-count
overflow_add-count c =
    let h : c.loop-local.count + 1 < 2 ^ 32 =
    count-fits c.loop-local.count (value [] (value_of c.loop-local.ty)) c.args.locals.now c.loop-local.local-index (record { id = None; name = None; ty = I32 }) c.loop-local-test.true
    (sym c.has_bytes.ensures ∙ c.if-not-has_bytes.false) (sym c.extends_run.ensures ∙ c.if-extends_run.true) c.loop-local.invariant.fits in
    omega (arith, h)
