use Rattle.std.proofs.Common.{refl}
use Rattle.comp_compose.specs.declared.composer.Composer.{Composer}
use Rattle.comp_compose.proofs.Adding.{begun}
use Rattle.comp_compose.proofs.composer.Composer.new.Goals as goal

pub returns : goal.returns
returns c =
    let composer : Composer = record { alloc = c.args.alloc; names = c.new-2.result; components = 0; instances = 0; writer = c.in_ok-writer.writer } in
    begun composer c.new-2.ensures refl refl c.in_ok-writer.ensures
