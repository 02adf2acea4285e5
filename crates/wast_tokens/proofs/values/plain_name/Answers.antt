use Rattle.std.proofs.Common.{◌≡◌, ◌∙◌, slice_index, ap, sym, arith}
use Rattle.std.proofs.lemmas.Str.{IsCharBoundary-after_ascii}
use Rattle.wast_tokens.proofs.Plain.{plain_in_quotes}
use Rattle.wast_tokens.proofs.values.plain_name.Goals as goal

pub range-requires-clause-start_boundary : goal.range-requires-clause-start_boundary
range-requires-clause-start_boundary c _ =
    let id = c.args.id.now in
    let quote : slice_index id 1 ≡ 34 = ap (λ s. slice_index s 1) (sym c.as_bytes.ensures.value) ∙ c.if-as_bytes-eq34.true in
    IsCharBoundary-after_ascii id 1 c.utf8.id (omega (arith, c.requires.spelled.some)) (omega (arith, quote))

pub range_from-requires : goal.range_from-requires
range_from-requires c _ = let s = c.requires.spelled in IsCharBoundary-after_ascii c.args.id.now 0 c.utf8.id (omega (arith, s.some)) (omega (arith, s.dollar))

pub returns-then-as_bytes-eq34 : goal.returns-then-as_bytes-eq34
returns-then-as_bytes-eq34 c =
    let id = c.args.id.now in
    let quote : slice_index id 1 ≡ 34 = ap (λ s. slice_index s 1) (sym c.as_bytes.ensures.value) ∙ c.if-as_bytes-eq34.true in
    record { value = λ e. c.range.ensures.value ∙ plain_in_quotes id c.requires.spelled.some quote e }
