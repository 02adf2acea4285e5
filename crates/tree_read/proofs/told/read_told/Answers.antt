use Rattle.std.proofs.Common.{subst, sym}
use Rattle.wast_grammar.specs.Stand.{class_at}
use Rattle.text_rules.specs.Rule.{told}
use Rattle.text_table.specs.Code.{words_told, numbers_told}
use Rattle.tree_read.specs.Comes.{Reads}
use Rattle.tree_read.proofs.ToldTokens.{is_word, word_read, no_word_read}
use Rattle.tree_read.proofs.told.read_told.Goals as goal

pub pass-requires : goal.pass-requires
pass-requires c = is_word c.args.table (class_at c.args.reader.now) c.in-Some.number (c.in-Some.ensures (class_at c.args.reader.now) c.code.ensures)

pub returns-in-Some : goal.returns-in-Some
returns-in-Some c =
    subst (λ r. Reads (told (words_told c.args.table) (numbers_told c.args.table)) r c.args.reader.now c.pass.new.self c.args.scratch.now c.leaf.new.self) (sym c.stored.ensures)
    (word_read c.args.table c.in-Some.number c.args.reader.now c.pass.new.self c.args.scratch.now c.leaf.new.self c.leaf.result (c.in-Some.ensures (class_at c.args.reader.now) c.code.ensures) c.pass.ensures c.leaf.ensures)

pub returns-in-None : goal.returns-in-None
returns-in-None c = λ a. no_word_read c.args.table c.args.reader.now a (c.in-None.ensures (class_at c.args.reader.now) c.code.ensures)
