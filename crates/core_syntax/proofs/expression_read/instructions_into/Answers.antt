use Rattle.std.proofs.Common.{◌≡◌, ◌+◌, ◌<◌, [], ◌∷◌, ◌++◌, inl, inr, true, arith, refl, sym, ap, subst, ◌∙◌}
use Rattle.wast_grammar.specs.Classes.{opening}
use Rattle.wast_grammar.specs.Grammar.{before}
use Rattle.wast_grammar.specs.Read.{left_of, read}
use Rattle.wast_grammar.specs.Shape.{consumes}
use Rattle.wast_grammar.specs.Stand.{Stand}
use Rattle.wast_grammar.proofs.Fuel.{read_moves}
use Rattle.wast_grammar.proofs.Moves.{Ahead}
use Rattle.core_syntax.specs.declared.instructions.Instruction.TheVariants.{Other}
use Rattle.wast_grammar.specs.CoreRows.{operation, other_operation, instructions}
use Rattle.core_syntax.specs.CoreLaws.{sound_operation, sound_in_group, sound_other_operation, has_token_operation, has_token_other_operation}
use Rattle.core_syntax.proofs.Folding.{SoFar, starts, joins, begins, group_done, end_falls, other_joins, all_done}
use Rattle.core_syntax.proofs.expression_read.instructions_into.Goals as goal

pub turns-init : goal.turns-init
turns-init c =
    record {
      gives = subst (λ xs. SoFar xs c.args.begun.now.items c.args.parser.now (read instructions c.args.parser.now)) (sym c.requires.none)
          (subst (λ xs. SoFar [] xs c.args.parser.now (read instructions c.args.parser.now)) (sym c.requires.closed) (starts c.args.parser.now));
      text = refl;
      forward = omega arith;
    }

pub turns-smaller-in-Continue-branch-2 : goal.turns-smaller-in-Continue-branch-2
turns-smaller-in-Continue-branch-2 c =
    let a : Ahead (consumes operation) c.turns.parser c.operation_of.new.parser = read_moves operation c.turns.parser _ c.operation_of.new.parser sound_operation c.in_ok-instruction-in-Operation.ensures.gives in
    let l : left_of c.operation_of.new.parser < left_of c.turns.parser = a.falls has_token_operation in l

pub turns-preserved-in-Continue-branch-2 : goal.turns-preserved-in-Continue-branch-2
turns-preserved-in-Continue-branch-2 c =
    let p = c.turns.invariant in
    let q = c.in_ok-instruction-in-Operation.ensures in
    record {
      gives = rw c.in_ok-push-in-Operation.ensures.items (joins c.turns.instrs.items c.turns.begun.items c.in_ok-instruction-in-Operation.instruction c.turns.parser c.operation_of.new.parser _ p.gives (sym c.in-Operation.ensures.turn) q.gives);
      text = q.text ∙ p.text;
      forward = omega (arith, q.forward, p.forward);
    }

pub turns-smaller-in-Continue-branch-4 : goal.turns-smaller-in-Continue-branch-4
turns-smaller-in-Continue-branch-4 c =
    let a : Ahead true c.turns.parser c.in_group.new.parser = read_moves (before opening operation) c.turns.parser _ c.in_group.new.parser sound_in_group c.in_ok-instruction-in-Group.ensures.gives in
    let l : left_of c.in_group.new.parser < left_of c.turns.parser = a.falls refl in l

pub turns-preserved-in-Continue-branch-4 : goal.turns-preserved-in-Continue-branch-4
turns-preserved-in-Continue-branch-4 c =
    let p = c.turns.invariant in
    let q = c.in_ok-instruction-in-Group.ensures in
    record {
      gives = rw c.in_ok-push-in-Group.ensures.items (begins c.turns.instrs.items c.turns.begun.items c.in_ok-instruction-in-Group.instruction c.turns.parser c.in_group.new.parser _ p.gives (sym c.in-Group.ensures.turn) q.gives);
      text = q.text ∙ p.text;
      forward = omega (arith, q.forward, p.forward);
    }

pub turns-smaller-in-Continue-branch-5 : goal.turns-smaller-in-Continue-branch-5
turns-smaller-in-Continue-branch-5 c =
    let l : left_of c.take_end.new.parser < left_of c.turns.parser = subst (λ (r : Stand). left_of r < left_of c.turns.parser) (sym c.take_end.ensures.behind) (end_falls c.turns.parser (sym c.in-GroupEnd.ensures.turn)) in l

pub turns-preserved-in-Continue-branch-5 : goal.turns-preserved-in-Continue-branch-5
turns-preserved-in-Continue-branch-5 c =
    let p = c.turns.invariant in
    let behind = c.take_end.ensures.behind in
    let before = subst (λ b. SoFar c.turns.instrs.items b c.turns.parser (read instructions c.args.parser.now)) c.in-Some.ensures.taken p.gives in
    let after = group_done c.turns.instrs.items c.take_innermost.new.begun.items c.in-Some.instruction c.turns.parser (read instructions c.args.parser.now) before (sym c.in-GroupEnd.ensures.turn) in
    let at : c.take_end.new.parser.at ≡ c.turns.parser.at + 1 = ap (λ (r : Stand). r.at) behind in
    record {
      gives = rw c.in_ok-push-in-Some.ensures.items (subst (λ (r : Stand). SoFar (c.turns.instrs.items ++ c.in-Some.instruction ∷ []) c.take_innermost.new.begun.items r (read instructions c.args.parser.now)) (sym behind) after);
      text = ap (λ (r : Stand). r.text) behind ∙ p.text;
      forward = omega (arith, at, p.forward);
    }

pub turns-smaller : goal.turns-smaller
turns-smaller c =
    let a : Ahead (consumes other_operation) c.turns.parser c.other_operation.new.parser = read_moves other_operation c.turns.parser _ c.other_operation.new.parser sound_other_operation c.in_ok-span-in-Other.ensures.gives in
    let l : left_of c.other_operation.new.parser < left_of c.turns.parser = a.falls has_token_other_operation in l

pub turns-preserved : goal.turns-preserved
turns-preserved c =
    let p = c.turns.invariant in
    let q = c.in_ok-span-in-Other.ensures in
    record {
      gives = rw c.in_ok-push-in-Other.ensures.items (other_joins c.turns.instrs.items c.turns.begun.items (Other c.in_ok-span-in-Other.span) c.in_ok-span-in-Other.span.offset c.turns.parser c.other_operation.new.parser _ p.gives (sym c.in-Other.ensures.turn) refl q.gives);
      text = q.text ∙ p.text;
      forward = omega (arith, q.forward, p.forward);
    }

pub returns-in-None-clause-gives : goal.returns-in-None-clause-gives
returns-in-None-clause-gives c =
    all_done c.turns.instrs.items c.turns.parser (read instructions c.args.parser.now)
    (subst (λ b. SoFar c.turns.instrs.items b c.turns.parser (read instructions c.args.parser.now)) c.in-None.ensures.taken c.turns.invariant.gives) (inl (sym c.in-GroupEnd.ensures.turn))

pub returns-in-None-take_innermost-clause-gives : goal.returns-in-None-take_innermost-clause-gives
returns-in-None-take_innermost-clause-gives c =
    all_done c.turns.instrs.items c.turns.parser (read instructions c.args.parser.now)
    (subst (λ b. SoFar c.turns.instrs.items b c.turns.parser (read instructions c.args.parser.now)) c.in-None-take_innermost.ensures.taken c.turns.invariant.gives) (inr (sym c.in-TextEnd.ensures.turn))
