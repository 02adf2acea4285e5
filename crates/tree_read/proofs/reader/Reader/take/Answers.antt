use Rattle.std.proofs.Common.{◌∙◌, sym}
use Rattle.wast_grammar.specs.Stand.{class_at}
use Rattle.tree_read.proofs.Tokens.{is_token}
use Rattle.tree_read.proofs.reader.Reader.take.Goals as goal

pub pass-requires : goal.pass-requires
pass-requires c = is_token c.args.code (class_at c.args.self.now) c.requires (sym c.is_next.ensures ∙ c.if-is_next.true)
