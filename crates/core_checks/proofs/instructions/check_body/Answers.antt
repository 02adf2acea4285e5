use Rattle.std.proofs.Common.{◌≡◌, ◌<◌, ◌≤◌, ◌+◌, ◌∷◌, ℕ, List, Some, length, map, flat_map, drop, get_or, sym, ap, ◌∙◌, arith}
use Rattle.std.proofs.lemmas.Result.{err_from_is_err_and}
use Rattle.core_model.specs.Rule.{first_broken, unknown_in_instruction}
use Rattle.core_syntax.specs.declared.instructions.Instruction.{Instruction}
use Rattle.core_syntax.specs.declared.instructions.Instruction.TheVariants.{Unreachable}
use Rattle.core_syntax.specs.Fields.{instruction_of}
use Rattle.core_names.specs.ModuleIds.{place_in_instruction}
use Rattle.core_checks.proofs.Found.{places-turn, places-end}
use Rattle.core_checks.proofs.Turns.{one-dropped, left-of-part, refused-part}
use Rattle.core_checks.proofs.instructions.check_body.Goals as goal

pub loop-instruction-preserved : goal.loop-instruction-preserved
loop-instruction-preserved c =
    let xs : List Instruction = c.deref-instruction-items.result.now in
    let all : List Instruction = c.args.body.now.instrs.items in
    let same : xs ≡ all = c.deref-instruction-items.ensures.value in
    let i : ℕ = c.loop-instruction.instruction-index in
    let below : i < length xs = c.loop-instruction-test.true in
    let u = unknown_in_instruction c.args.scope.now c.args.locals.now in
    let f = place_in_instruction c.args.scope.now c.args.locals.now in
    let whole = first_broken (map u (map instruction_of all)) in
    let left : first_broken (map u (map instruction_of (drop i xs))) ≡ whole = ap (λ ys. first_broken (map u (map instruction_of (drop i ys)))) same ∙ c.loop-instruction.invariant.left in
    let dropped : map instruction_of (drop i all) ≡ instruction_of (get_or xs i Unreachable) ∷ map instruction_of (drop (i + 1) all) =
    ap (λ ys. map instruction_of (drop i ys)) (sym same) ∙ one-dropped instruction_of u xs i Unreachable below
    ∙ ap (λ ys. instruction_of (get_or xs i Unreachable) ∷ map instruction_of (drop (i + 1) ys)) same in
    record {
      left = ap (λ ys. first_broken (map u (map instruction_of (drop (i + 1) ys)))) (sym same) ∙ left-of-part instruction_of u xs i Unreachable below whole left c.in_ok-check_instruction.ensures.told;
      found = places-turn f (instruction_of (get_or xs i Unreachable)) (map instruction_of (drop (i + 1) all)) (map instruction_of (drop i all)) (map Some c.check_instruction.new.places.items) (map Some c.loop-instruction.places.items) (map Some c.args.places.now.items)
          (flat_map f (map instruction_of all)) dropped c.in_ok-check_instruction.ensures.found c.loop-instruction.invariant.found;
    }

pub returns-in_err-check_instruction-clause-told : goal.returns-in_err-check_instruction-clause-told
returns-in_err-check_instruction-clause-told c =
    let p = err_from_is_err_and c.from_residual.result c.from_residual.ensures.1 in
    let xs : List Instruction = c.deref-instruction-items.result.now in
    let all : List Instruction = c.args.body.now.instrs.items in
    let same : xs ≡ all = c.deref-instruction-items.ensures.value in
    let i : ℕ = c.loop-instruction.instruction-index in
    let below : i < length xs = c.loop-instruction-test.true in
    let u = unknown_in_instruction c.args.scope.now c.args.locals.now in
    let whole = first_broken (map u (map instruction_of all)) in
    let left : first_broken (map u (map instruction_of (drop i xs))) ≡ whole = ap (λ ys. first_broken (map u (map instruction_of (drop i ys)))) same ∙ c.loop-instruction.invariant.left in
    rw (p.1, p.2) (refused-part instruction_of u xs i Unreachable below whole left c.in_err-check_instruction.field-0.0 c.in_err-check_instruction.ensures.told)

pub returns-clause-found : goal.returns-clause-found
returns-clause-found c =
    let end : length c.args.body.now.instrs.items ≤ c.loop-instruction.instruction-index = omega arith in
    places-end (place_in_instruction c.args.scope.now c.args.locals.now) instruction_of c.args.body.now.instrs.items c.loop-instruction.instruction-index (map Some c.loop-instruction.places.items)
    (map Some c.args.places.now.items) _ end c.loop-instruction.invariant.found
