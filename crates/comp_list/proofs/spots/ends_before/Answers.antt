use Rattle.std.proofs.Common.{arith}
use Rattle.comp_list.proofs.Chains.{before_all, behind_all}
use Rattle.comp_list.proofs.spots.ends_before.Goals as goal

pub returns-then-chain-at-clause-before : goal.returns-then-chain-at-clause-before
returns-then-chain-at-clause-before c = λ e. before_all c.args.chain.now c.args.index c.args.at c.requires.chain c.requires.there c.if-chain-at.true

pub returns-clause-behind : goal.returns-clause-behind
returns-clause-behind c = λ e. behind_all c.args.chain.now c.args.index c.args.at c.requires.chain c.requires.there (omega (arith, c.if-chain-at.false))
