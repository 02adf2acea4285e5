use Rattle.std.proofs.Common.{◌≡◌, ◌∷◌, ◌++◌, drop, map}
use Rattle.comp_model.specs.Leb.{uleb}
use Rattle.comp_model.specs.Payloads.{joined, framed}
use Rattle.core_write.specs.Exports.{FitsInline}
use Rattle.core_write.proofs.exports.push_inline.Given as goal

-- what is left completes the list
abbrev pub invariant-loop-name : goal.invariant-loop-name
invariant-loop-name l = record {
  appended : l.out.items ++ joined (map (λ x. framed x ++ (l.byte ∷ uleb l.index)) (map (λ x. x.now) (drop l.name-index l.names))) ≡ l.initial.out.items ++ joined (map (λ x. framed x ++ (l.byte ∷ uleb l.index)) (map (λ x. x.now) l.names));
  fits : FitsInline l.index (map (λ x. x.now) (drop l.name-index l.names));
}
