use Rattle.tree_resolve.proofs.Outcomes.{match-of}
use Rattle.tree_resolve.proofs.StaysPlain.{plain-built}
use Rattle.tree_resolve.proofs.build.push_plain.Goals as goal

pub returns-in-Ok : goal.returns-in-Ok
returns-in-Ok c = λ e C os served.
    match-of c.counters_behind.result c.counters_behind.ensures.behind c.counters_behind.ensures.refused
    (λ behind h. plain-built e C os c.args.counters.now served c.args.def.now c.args.list.now.items (c.requires.plain C) c.push.new.self.items behind c.requires.sized c.requires.written_out c.in-Ok.ensures.items (h C))
    (λ x h. h)

pub returns-in-Err : goal.returns-in-Err
returns-in-Err c = λ e C os served. c.no_memory.ensures
