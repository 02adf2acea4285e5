use Rattle.comp_tree.specs.Model.{id_of, lent_text}
use Rattle.std.specs.Prelude.{option_map}
use Rattle.tree_build.proofs.LeafKinds.{not_owned}
use Rattle.tree_build.proofs.definitions.own_leaf.Goals as goal

pub returns-in_default-clause-leaf : goal.returns-in_default-clause-leaf
returns-in_default-clause-leaf c = λ fs cs h. not_owned fs cs (option_map id_of c.args.id) (option_map lent_text c.args.label) c.args.leaf c.in_default.not-Core (λ p y q. c.in_default.not-Scope (record { ref_ptr = p.ref_ptr; now = y }) q)
