use Rattle.std.proofs.Common.{◌≡◌, ◌+◌, ◌∷◌, List, None, map, drop, get_or, ap, ◌∙◌, arith}
use Rattle.comp_model.specs.CoreModules.{Naming}
use Rattle.core_syntax.specs.declared.types.ValType.TheVariants.{I32}
use Rattle.core_model.specs.NameSection.{names_from}
use Rattle.core_syntax.specs.Fields.{local_of, naming_of}
use Rattle.core_write.specs.NamesWritten.{namings_of}
use Rattle.core_fits.specs.Tests.{fits_names}
use Rattle.core_fits.proofs.Sizes.{so_far_more}
use Rattle.core_bounds.proofs.Turns.{left-at}
use Rattle.core_fits.proofs.NamesSized.{names_first, fits_first}
use Rattle.core_fits.proofs.names.local_names_size.Goals as goal

pub loop-local-preserved : goal.loop-local-preserved
loop-local-preserved c =
    let d = get_or c.args.locals.now c.loop-local.local-index (record { id = None; name = None; ty = I32 }) in
    let k = c.loop-local.place in
    let n : Naming = naming_of d.id d.name in
    let rest : List Naming = namings_of (map local_of (drop (c.loop-local.local-index + 1) c.args.locals.now)) in
    let split : namings_of (map local_of (drop c.loop-local.local-index c.args.locals.now)) ≡ n ∷ rest = ap (λ ys. namings_of (map local_of ys)) (left-at c.args.locals.now c.loop-local.local-index _ c.loop-local-test.true) in
    record {
      size = so_far_more c.loop-local.size c.name_size.result c.and-size.result _ _ _ _ _ _ _ _
          (ap (names_from (c.args.first + k)) split ∙ names_first c.args.first k n rest _ c.name_of.ensures) (ap (fits_names (c.args.first + k)) split ∙ fits_first c.args.first k n rest _ c.name_of.ensures)
          c.name_size.ensures c.and-size.ensures.count c.and-size.ensures.bytes c.and-size.ensures.fits c.loop-local.invariant.size;
      within = omega (arith, c.loop-local.invariant.within);
    }
