use Rattle.std.proofs.Common.{◌≡◌, ℕ, refl}
use Rattle.wast_grammar.specs.Read.{Outcome, FailsAs}
use Rattle.wast_grammar.specs.Stand.{Stand}
use Rattle.wast_tokens.specs.declared.error.ErrorKind.{ErrorKind}
use Rattle.wast_tokens.specs.declared.error.ErrorKind.TheVariants.{Parse, TooDeep, NoMemory}
use Rattle.tree_read.proofs.fault.fault_of.Goals as goal

-- a reader of the parser has no other refusals
three_kinds : (k : ErrorKind) (n : ℕ) (s : Stand) (o : Outcome) → FailsAs k n s o → (k ≡ Parse → ⊥) → (k ≡ TooDeep → ⊥) → (k ≡ NoMemory → ⊥) → ⊥
three_kinds Parse n s o f p d m = p refl
three_kinds TooDeep n s o f p d m = d refl
three_kinds NoMemory n s o f p d m = m refl
three_kinds k n s o f p d m = f

pub unreachable-requires : goal.unreachable-requires
unreachable-requires c = three_kinds c.args.refusal.kind c.args.refusal.offset c.requires.0 c.requires.1 c.requires.2 c.in_default.not-Parse c.in_default.not-TooDeep c.in_default.not-NoMemory
