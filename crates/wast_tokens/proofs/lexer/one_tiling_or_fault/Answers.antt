use Rattle.wast_tokens.proofs.Tilings.{cut_once, never_both, one_fault}
use Rattle.wast_tokens.proofs.Existence.{one_of_both}
use Rattle.wast_tokens.proofs.lexer.one_tiling_or_fault.Goals as goal

pub returns-clause-once : goal.returns-clause-once
returns-clause-once c = cut_once

pub returns-clause-never_both : goal.returns-clause-never_both
returns-clause-never_both c = never_both

pub returns-clause-one_fault : goal.returns-clause-one_fault
returns-clause-one_fault c = one_fault

pub returns-clause-one_of_both : goal.returns-clause-one_of_both
returns-clause-one_of_both c = one_of_both
