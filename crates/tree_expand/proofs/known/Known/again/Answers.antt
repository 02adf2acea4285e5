use Rattle.std.proofs.Common.{refl}
use Rattle.tree_expand.proofs.KeyLists.{again_shows}
use Rattle.tree_expand.specs.declared.known.Known.{Known}
use Rattle.tree_expand.proofs.known.Known.again.Goals as goal

pub returns : goal.returns
returns c = λ xs o t ls h p i.
    let new : Known = record { types = c.args.self.now.types; ids = c.push.new.self } in
    again_shows c.args.self.now new xs o t ls c.args.id h p i refl c.in_ok-push.ensures.items
