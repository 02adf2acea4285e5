use Rattle.std.proofs.Common.{map, drop, option_map, sym, ◌∙◌, ap}
use Rattle.std.proofs.lemmas.List.{take_rest, drop-map}
use Rattle.core_resolve.specs.Signatures.{signature}
use Rattle.core_resolve.proofs.type_table.TypeTable.types_from.Goals as goal

pub returns : goal.returns
returns c =
    ap (map (option_map signature)) (take_rest c.as_slice.result.now c.args.from ∙ ap (drop c.args.from) c.as_slice.ensures.value)
    ∙ sym (drop-map (option_map signature) c.args.from c.self.inside.types.items) ∙ ap (drop c.args.from) c.self.view_is
