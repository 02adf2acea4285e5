use Rattle.std.proofs.Common.{◌≡◌, drop}
use Rattle.wast_grammar.specs.Classes.{Class, among}
use Rattle.token_codes.specs.Numbers.{number}
use Rattle.text_table.specs.Code.{classes_of}
use Rattle.text_table.proofs.tests.is_among.Given as goal

abbrev pub invariant-loop-class : goal.invariant-loop-class
invariant-loop-class l = (c : Class) → l.code ≡ number c → among (classes_of (drop l.class-index l.classes)) c ≡ among (classes_of l.classes) c
