use Rattle.std.proofs.Common.{None}
use Rattle.comp_model.specs.declared.row.ScopeKind.TheVariants.{Component}
use Rattle.comp_tree.proofs.Marks.{marks_made}
use Rattle.comp_tree_tests.proofs.tests.component.Goals as goal

pub returns : goal.returns
returns c = λ C. marks_made C Component None None c.args.defs
