use Rattle.std.proofs.Common.{rules, ◌+◌}
use Rattle.comp_list.specs.declared.spots.Parts.{Parts}
use Rattle.comp_list.proofs.Chains.{pushed_items}
use Rattle.comp_list.proofs.spots.push_parts.Goals as goal

pub returns-clause-items : goal.returns-clause-items
returns-clause-items c =
    let r : Parts = record { first = c.items_in-first.result; end = c.items_in-first.result + c.args.count; def = c.args.def; part = c.args.part } in
    pushed_items c.args.chain.now.items c.push.new.self.items r c.args.count (search rules) (search rules)
