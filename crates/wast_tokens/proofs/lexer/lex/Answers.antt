use Rattle.std.proofs.Common.{◌≡◌, ◌≤◌, ℕ, List, length, arith, sym, subst, ap, ◌∙◌, ◌++◌, ◌∷◌, [], rules}
use Rattle.wast_tokens.specs.declared.token.Token.{Token}
use Rattle.wast_tokens.specs.declared.error.Error.{Error}
use Rattle.wast_tokens.specs.declared.runs.Stop.{Stop}
use Rattle.wast_tokens.specs.declared.runs.Stop.TheVariants.{NoMemory}
use Rattle.wast_tokens.specs.Lexing.{LexRefuses}
use Rattle.wast_tokens.specs.Steps.{IsStop, refusal_of}
use Rattle.std.proofs.ResultArms.{chosen}
use Rattle.wast_tokens.specs.Tiling.{Lexeme, Chain, kept, IsTiling}
use Rattle.wast_tokens.specs.Tiling.Lexeme.{gap, token}
use Rattle.wast_tokens.specs.Tiling.TakesMemory.{token as memory}
use Rattle.wast_tokens.proofs.Tilings.{gap_more, spells_more, chain_gap, chain_token, kept_gap, kept_token, tiling_of, stop_below, stop_refusal}
use Rattle.wast_tokens.proofs.Placed.{tiling_placed, each_placed, tiling_few}
use Rattle.wast_tokens.proofs.Spellings.{tiling_spelled}
use Rattle.wast_tokens.proofs.lexer.lex.Goals as goal

pub loop-at-smaller-in-Ok-Gap : goal.loop-at-smaller-in-Ok-Gap
loop-at-smaller-in-Ok-Gap c =
    let g = rw c.in-Ok-Gap.field-0-is at c.in-Ok-Gap.ensures.step in
    let m = gap_more _ _ _ g in
    omega (arith, m.0, m.1)

pub loop-at-preserved-in-Ok-Gap : goal.loop-at-preserved-in-Ok-Gap
loop-at-preserved-in-Ok-Gap c =
    let g = rw c.in-Ok-Gap.field-0-is at c.in-Ok-Gap.ensures.step in
    let inv = c.loop-at.invariant in
    (inv.0 ++ gap c.in-Ok-Gap.end ∷ [], chain_gap _ _ _ _ _ inv.1 g, inv.2 ∙ sym (kept_gap inv.0 c.in-Ok-Gap.end))

pub loop-at-preserved : goal.loop-at-preserved
loop-at-preserved c =
    let g = rw c.in-Ok-Whole.field-0-is at c.in-Ok-Whole.ensures.step in
    let pushed = chosen _ _ _ _ c.push.ensures.items c.if-is_err.ensures.negation in
    let inv = c.loop-at.invariant in
    let t = c.in-Ok-Whole.token in
    (inv.0 ++ token t ∷ [], chain_token _ _ _ _ t inv.1 g.0 g.1, pushed ∙ ap (λ z. z ++ t ∷ []) inv.2 ∙ sym (kept_token inv.0 t))

pub loop-at-smaller : goal.loop-at-smaller
loop-at-smaller c =
    let g = rw c.in-Ok-Whole.field-0-is at c.in-Ok-Whole.ensures.step in
    let m = spells_more _ _ _ _ g.1 in
    omega (arith, m.0, m.1)

pub refusal-requires-in-Err : goal.refusal-requires-in-Err
refusal-requires-in-Err c =
    let small : length c.as_bytes-bytes.result.now ≤ 67_108_864 = omega arith in
    record { fits = stop_below _ _ _ small c.in-Err.ensures.step }

-- what stops the cut of the bytes refuses the text
the_refusal : (bytes text : List ℕ) (at : ℕ) (s : Stop) (e : Error) (ls : List Lexeme) → length bytes ≤ 67_108_864 → Chain bytes 0 ls at → IsStop bytes at s → bytes ≡ text → e ≡ refusal_of s → LexRefuses text e.kind e.offset
the_refusal bytes text at s e ls small chain stop same is =
    subst (λ (x : Error). LexRefuses text x.kind x.offset) (sym is) (subst (λ t. LexRefuses t (refusal_of s).kind (refusal_of s).offset) same (stop_refusal bytes at s ls small chain stop))

pub returns-in-Err-clause-refused : goal.returns-in-Err-clause-refused
returns-in-Err-clause-refused c =
    let small : length c.as_bytes-bytes.result.now ≤ 67_108_864 = omega arith in
    the_refusal _ _ c.loop-at.at c.in-Err.stop _ c.loop-at.invariant.0 small c.loop-at.invariant.1 c.in-Err.ensures.step c.as_bytes-bytes.ensures.value c.refusal-in-Err.ensures.refusal

pub returns-then-is_err-clause-refused : goal.returns-then-is_err-clause-refused
returns-then-is_err-clause-refused c =
    let small : length c.as_bytes-bytes.result.now ≤ 67_108_864 = omega arith in
    let g = rw c.in-Ok-Whole.field-0-is at c.in-Ok-Whole.ensures.step in
    the_refusal _ _ c.loop-at.at NoMemory _ c.loop-at.invariant.0 small c.loop-at.invariant.1 (memory _ _ g.1) c.as_bytes-bytes.ensures.value c.refusal.ensures.refusal

-- the loop's end
the_tiling : (bytes text : List ℕ) (tokens : List Token) (at : ℕ) → bytes ≡ text → (ls : List Lexeme) × Chain bytes 0 ls at × (tokens ≡ kept ls) → length bytes ≤ at → IsTiling text tokens
the_tiling bytes text tokens at e h reached = subst (λ s. IsTiling s tokens) e (tiling_of bytes tokens at h reached)

pub returns-clause-tiling : goal.returns-clause-tiling
returns-clause-tiling c = the_tiling _ _ _ _ c.as_bytes-bytes.ensures.value c.loop-at.invariant c.loop-at-test.false

pub returns-clause-placed : goal.returns-clause-placed
returns-clause-placed c = each_placed _ _ _ (tiling_placed _ _ (the_tiling _ _ _ _ c.as_bytes-bytes.ensures.value c.loop-at.invariant c.loop-at-test.false))

pub returns-clause-in_order : goal.returns-clause-in_order
returns-clause-in_order c = tiling_placed _ _ (the_tiling _ _ _ _ c.as_bytes-bytes.ensures.value c.loop-at.invariant c.loop-at-test.false)

pub returns-clause-spelled : goal.returns-clause-spelled
returns-clause-spelled c = tiling_spelled _ _ (the_tiling _ _ _ _ c.as_bytes-bytes.ensures.value c.loop-at.invariant c.loop-at-test.false)

pub returns-clause-few : goal.returns-clause-few
returns-clause-few c = let few = tiling_few _ _ (the_tiling _ _ _ _ c.as_bytes-bytes.ensures.value c.loop-at.invariant c.loop-at-test.false) in search (rules, few)
