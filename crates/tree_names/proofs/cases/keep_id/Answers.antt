use Rattle.std.proofs.Common.{subst, sym}
use Rattle.comp_walks.specs.Lent.{id_of}
use Rattle.tree_names.specs.Cases.{CasesHold, id_before}
use Rattle.tree_names.proofs.CasesSeen.{id_kept}
use Rattle.tree_names.proofs.cases.keep_id.Goals as goal

pub returns-in-Ok-clause-kept : goal.returns-in-Ok-clause-kept
returns-in-Ok-clause-kept c = λ xs h. subst (λ i. CasesHold c.replace.new.self (id_before i xs)) (sym c.in-Some.is) (id_kept c.args.cases.now c.replace.new.self (id_of c.in-Some.id) _ xs h c.in-Ok.ensures)
