use Rattle.std.proofs.Common.{◌≡◌, ◌++◌, string_bytes, codes}
use Rattle.sample_text.specs.Sample.{declared, used, each_below}
use Rattle.sample_text.proofs.text.text_of.Given as goal

abbrev pub invariant-loop-number : goal.invariant-loop-number
invariant-loop-number l = string_bytes l.text ≡ codes "(component" ++ each_below l.number declared

abbrev pub invariant-loop-number-2 : goal.invariant-loop-number-2
invariant-loop-number-2 l = string_bytes l.text ≡ codes "(component" ++ each_below l.fn.count declared ++ codes " (component" ++ each_below l.number used
