use Rattle.std.proofs.Common.{◌≡◌, ℕ, List, Option, None, map, option_map, add-one, ap, sym, ◌∙◌, arith}
use Rattle.comp_model.specs.Core.{Id, CoreValue}
use Rattle.core_model.specs.Resolved.{numbered_value}
use Rattle.core_model.specs.Rule.{unknown_in_value}
use Rattle.core_syntax.specs.Fields.{value_of}
use Rattle.core_names.specs.Resolving.{unknown_error}
use Rattle.core_names.proofs.Mixed.{mixed, mixed-turn, still-there, left-here, all-changed, known-turn, refused-here}
use Rattle.core_names.proofs.resolving.resolve_results.Goals as goal

pub index_mut-ty-requires : goal.index_mut-ty-requires
index_mut-ty-requires g c =
    let ids : List (Option Id) = g.R.ResolveCoreType.type_ids c.args.resolver.now in
    let below = still-there value_of (numbered_value ids) c.loop-index.index c.loop-index.results.items _ c.args.results.now.items c.loop-index.invariant.changed c.as_slice-index-end.ensures.value c.loop-index-test.true in
    omega (arith, below)

pub loop-index-preserved : goal.loop-index-preserved
loop-index-preserved g c =
    let ids : List (Option Id) = g.R.ResolveCoreType.type_ids c.args.resolver.now in
    let i : ℕ = c.loop-index.index in
    let items = c.loop-index.results.items in
    let P : List CoreValue = map value_of c.args.results.now.items in
    let k = c.index_mut-ty.result.now in
    let changed = c.loop-index.invariant.changed in
    let whole = c.as_slice-index-end.ensures.value in
    let here = c.index_mut-ty.ensures.value in
    let below = still-there value_of (numbered_value ids) i items _ c.args.results.now.items changed whole c.loop-index-test.true in
    let next = left-here value_of (numbered_value ids) i items _ c.args.results.now.items changed whole k c.loop-index-test.true here in
    let new : value_of c.in-Ok.resolved ≡ numbered_value ids (value_of k) = c.in-Ok.ensures.numbered ∙ ap (λ j. numbered_value j (value_of k)) c.loop-index.invariant.ids in
    let known : unknown_in_value ids (value_of k) ≡ None = ap (λ j. unknown_in_value j (value_of k)) (sym c.loop-index.invariant.ids) ∙ c.in-Ok.ensures.known in
    let y = mixed-turn value_of (numbered_value ids) i items P k c.in-Ok.resolved below changed (new ∙ ap (λ p. numbered_value ids (value_of p)) here) in
    record {
      ids = c.in-Ok.ensures.ids ∙ c.loop-index.invariant.ids;
      changed = y ∙ ap (λ n. mixed (numbered_value ids) n P) (sym (add-one i));
      known = known-turn (unknown_in_value ids) i P (value_of k) next _ c.loop-index.invariant.known known;
    }

pub returns-in-Err-clause-refused : goal.returns-in-Err-clause-refused
returns-in-Err-clause-refused g c =
    let ids : List (Option Id) = g.R.ResolveCoreType.type_ids c.args.resolver.now in
    let i : ℕ = c.loop-index.index in
    let k = c.index_mut-ty.result.now in
    let next = left-here value_of (numbered_value ids) i c.loop-index.results.items _ c.args.results.now.items c.loop-index.invariant.changed c.as_slice-index-end.ensures.value k c.loop-index-test.true c.index_mut-ty.ensures.value in
    refused-here (unknown_in_value ids) i (map value_of c.args.results.now.items) (value_of k) next _ c.loop-index.invariant.known unknown_error c.in-Err.refusal
    (c.in-Err.ensures.refused ∙ ap (λ j. option_map unknown_error (unknown_in_value j (value_of k))) c.loop-index.invariant.ids)

pub returns-clause-numbered : goal.returns-clause-numbered
returns-clause-numbered g c =
    let ids : List (Option Id) = g.R.ResolveCoreType.type_ids c.args.resolver.now in
    all-changed value_of (numbered_value ids) c.loop-index.index c.loop-index.results.items _ c.args.results.now.items c.loop-index.invariant.changed c.as_slice-index-end.ensures.value (omega (arith, c.loop-index-test.false))
