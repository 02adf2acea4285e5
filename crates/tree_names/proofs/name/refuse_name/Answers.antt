use Rattle.std.proofs.Common.{refl, sym, ◌∙◌, None}
use Rattle.comp_walks.specs.Lent.{id_of, reach_of}
use Rattle.open_scopes.proofs.Stacks.{some-shown}
use Rattle.tree_names.proofs.Names.{always_refused}
use Rattle.tree_names.proofs.name.refuse_name.Goals as goal

pub unreachable-requires : goal.unreachable-requires
unreachable-requires c =
    let shown = some-shown c.args.scopes.now in
    always_refused shown.0 (reach_of c.args.reach) (id_of c.args.id) (sym c.in-None.is ∙ c.missing_name.ensures shown.0 None shown.1 refl)

pub returns : goal.returns
returns c = λ ms w. sym (c.in-Some.ensures ms None w refl)
