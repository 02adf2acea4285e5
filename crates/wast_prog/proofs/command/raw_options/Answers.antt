use Rattle.std.proofs.Common.{map, string_bytes, sym, arith}
use Rattle.std.proofs.lemmas.List.{length-map}
use Rattle.wast_prog.proofs.Words.{two_raw_words}
use Rattle.wast_prog.proofs.command.raw_options.Goals as goal

pub returns-in_default : goal.returns-in_default
returns-in_default c = sym (two_raw_words c.args.bare c.args.raw (map string_bytes c.args.words.now) (omega (arith, c.in_default.len_at_least, length-map c.args.words.now string_bytes)))
