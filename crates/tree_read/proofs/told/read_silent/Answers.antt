use Rattle.std.specs.Prelude.{⊤}
use Rattle.tree_read.proofs.ToldTokens.{is_token, token_read, no_token_read, asked}
use Rattle.tree_read.proofs.told.read_silent.Goals as goal

pub pass-requires : goal.pass-requires
pass-requires c = is_token c.args.kind c.args.reader.now (asked c.args.kind c.args.reader.now _ _ _ c.parser.ensures c.is_silent.ensures c.if-is_silent.true)

pub returns-then-is_silent : goal.returns-then-is_silent
returns-then-is_silent c = λ p. token_read {X = ⊤} c.args.kind tt c.args.reader.now c.pass.new.self p (asked c.args.kind c.args.reader.now _ _ _ c.parser.ensures c.is_silent.ensures c.if-is_silent.true) c.pass.ensures

pub returns-else-is_silent : goal.returns-else-is_silent
returns-else-is_silent c = λ p a. no_token_read c.args.kind c.args.reader.now a (asked c.args.kind c.args.reader.now _ _ _ c.parser.ensures c.is_silent.ensures c.if-is_silent.false)
