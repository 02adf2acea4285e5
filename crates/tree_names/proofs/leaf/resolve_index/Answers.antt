use Rattle.std.proofs.Common.{sym, subst, MatchResult}
use Rattle.comp_model.specs.Model as m
use Rattle.comp_tables.specs.Built.{missing_leaf}
use Rattle.comp_tree.specs.Model.{reach_of, index_of}
use Rattle.tree_names.specs.Counted.{Refused}
use Rattle.tree_names.specs.Read.{LeafRead}
use Rattle.tree_names.proofs.leaf.resolve_index.Goals as goal

pub returns-in-Id : goal.returns-in-Id
returns-in-Id c = λ e o.
    subst (λ i. MatchResult c.resolve_named.result (λ n. LeafRead e c.args.scopes.now c.args.reading.now c.resolve_named.new.reading (m.ref c.args.space (index_of (reach_of c.args.reach) i)) (m.ref c.args.space (m.numeral o n))) (Refused c.args.scopes.now (λ ms. missing_leaf e ms (m.ref c.args.space (index_of (reach_of c.args.reach) i)))))
    (sym c.in-Id.is) (c.resolve_named.ensures e o)
