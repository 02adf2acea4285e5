use Rattle.std.proofs.Common.{◌∙◌, sym, None}
use Rattle.comp_expanded.specs.Expansion.{first_id}
use Rattle.tree_expand.specs.Standing.{ids_of}
use Rattle.tree_expand.proofs.Flags.{had-none}
use Rattle.tree_expand.proofs.names.given_ids.Goals as goal

pub with_first-requires : goal.with_first-requires
with_first-requires c = had-none _ (first_id (ids_of c.args.def.now.names.now.ids.now) None) (sym c.needs_id.ensures ∙ c.if-not-needs_id.false)
