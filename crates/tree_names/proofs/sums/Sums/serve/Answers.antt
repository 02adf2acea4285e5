use Rattle.tree_names.proofs.Counting.{alias_new}
use Rattle.tree_names.proofs.sums.Sums.serve.Goals as goal

pub returns-in_ok-note-in-None-clause-summed : goal.returns-in_ok-note-in-None-clause-summed
returns-in_ok-note-in-None-clause-summed c = λ d x e h.
    alias_new c.args.space d c.args.self.now x c.find-alias.result c.of-index.result _ (c.find-alias.ensures x.aliases d h.aliases e) c.in-None.is c.of-index.ensures.count (c.declare.ensures.counters x h.counts)
    (λ shown free. c.in_ok-note-in-None.ensures x.aliases d shown e free) c.in_ok-push.ensures.items h
