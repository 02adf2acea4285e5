use Rattle.std.proofs.Common.{◌≡◌, ◌+◌, ◌<◌, ◌^◌, drop, map, length}
use Rattle.comp_model.specs.Weight.{weight_of_all}
use Rattle.core_syntax.specs.Measures.{capped}
use Rattle.core_syntax.proofs.weight.add_texts.Given as goal

-- with what is left it is the whole
abbrev pub invariant-loop-text : goal.invariant-loop-text
invariant-loop-text l = record {
  sum : capped (l.total + weight_of_all (λ x. 32 + length x) (map (λ x. x.now) (drop l.text-index l.texts))) ≡ capped (l.start + weight_of_all (λ x. 32 + length x) (map (λ x. x.now) l.texts));
  within : l.total < 2 ^ 64;
}
