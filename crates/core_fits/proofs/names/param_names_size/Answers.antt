use Rattle.std.proofs.Common.{◌≡◌, ◌+◌, ◌∷◌, List, None, map, drop, get_or, ap, ◌∙◌, arith}
use Rattle.comp_model.specs.CoreModules.{Naming}
use Rattle.core_syntax.specs.declared.types.ValType.TheVariants.{I32}
use Rattle.core_model.specs.NameSection.{names_from}
use Rattle.core_syntax.specs.Fields.{param_of, naming_of}
use Rattle.core_write.specs.NamesWritten.{namings_of}
use Rattle.core_fits.specs.Tests.{fits_names}
use Rattle.core_fits.proofs.Sizes.{so_far_more}
use Rattle.core_bounds.proofs.Turns.{left-at}
use Rattle.core_fits.proofs.NamesSized.{names_first, fits_first}
use Rattle.core_fits.proofs.names.param_names_size.Goals as goal

pub loop-param-preserved : goal.loop-param-preserved
loop-param-preserved c =
    let d = get_or c.args.params.now c.loop-param.param-index (record { id = None; name = None; ty = I32 }) in
    let k = c.loop-param.place in
    let n : Naming = naming_of d.id d.name in
    let rest : List Naming = namings_of (map param_of (drop (c.loop-param.param-index + 1) c.args.params.now)) in
    let split : namings_of (map param_of (drop c.loop-param.param-index c.args.params.now)) ≡ n ∷ rest = ap (λ ys. namings_of (map param_of ys)) (left-at c.args.params.now c.loop-param.param-index _ c.loop-param-test.true) in
    record {
      size = so_far_more c.loop-param.size c.name_size.result c.and-size.result _ _ _ _ _ _ _ _
          (ap (names_from (0 + k)) split ∙ names_first 0 k n rest _ c.name_of.ensures) (ap (fits_names (0 + k)) split ∙ fits_first 0 k n rest _ c.name_of.ensures)
          c.name_size.ensures c.and-size.ensures.count c.and-size.ensures.bytes c.and-size.ensures.fits c.loop-param.invariant.size;
      within = omega (arith, c.loop-param.invariant.within);
    }
