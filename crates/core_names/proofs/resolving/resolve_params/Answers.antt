use Rattle.std.proofs.Common.{◌≡◌, ℕ, List, Option, None, map, option_map, add-one, ap, sym, ◌∙◌, arith}
use Rattle.comp_model.specs.Core.{Id}
use Rattle.comp_model.specs.CoreModules.{Local}
use Rattle.core_model.specs.Resolved.{numbered_value, numbered_local}
use Rattle.core_model.specs.Rule.{unknown_in_value}
use Rattle.core_syntax.specs.Fields.{naming_of, value_of, param_of}
use Rattle.core_names.specs.Resolving.{unknown_error}
use Rattle.core_names.proofs.Mixed.{mixed, mixed-turn, still-there, left-here, all-changed, known-turn, refused-here}
use Rattle.core_names.proofs.resolving.resolve_params.Goals as goal

pub index_mut-param-requires : goal.index_mut-param-requires
index_mut-param-requires g c =
    let ids : List (Option Id) = g.R.ResolveCoreType.type_ids c.args.resolver.now in
    let below = still-there param_of (numbered_local ids) c.loop-index.index c.loop-index.params.items _ c.args.params.now.items c.loop-index.invariant.changed c.as_slice-index-end.ensures.value c.loop-index-test.true in
    omega (arith, below)

pub loop-index-preserved : goal.loop-index-preserved
loop-index-preserved g c =
    let ids : List (Option Id) = g.R.ResolveCoreType.type_ids c.args.resolver.now in
    let i : ℕ = c.loop-index.index in
    let items = c.loop-index.params.items in
    let P : List Local = map param_of c.args.params.now.items in
    let k = c.index_mut-param.result.now in
    let changed = c.loop-index.invariant.changed in
    let whole = c.as_slice-index-end.ensures.value in
    let here = c.index_mut-param.ensures.value in
    let below = still-there param_of (numbered_local ids) i items _ c.args.params.now.items changed whole c.loop-index-test.true in
    let next = left-here param_of (numbered_local ids) i items _ c.args.params.now.items changed whole k c.loop-index-test.true here in
    let new : value_of c.in-Ok.ty ≡ numbered_value ids (value_of k.ty) = c.in-Ok.ensures.numbered ∙ ap (λ j. numbered_value j (value_of k.ty)) c.loop-index.invariant.ids in
    let known : unknown_in_value ids (param_of k).value ≡ None = ap (λ j. unknown_in_value j (value_of k.ty)) (sym c.loop-index.invariant.ids) ∙ c.in-Ok.ensures.known in
    let y = mixed-turn param_of (numbered_local ids) i items P k (record { id = k.id; name = k.name; ty = c.in-Ok.ty }) below changed
    (ap (λ v. record { naming = naming_of k.id k.name; value = v }) new ∙ ap (λ p. numbered_local ids (param_of p)) here) in
    record {
      ids = c.in-Ok.ensures.ids ∙ c.loop-index.invariant.ids;
      changed = y ∙ ap (λ n. mixed (numbered_local ids) n P) (sym (add-one i));
      known = known-turn (λ p. unknown_in_value ids p.value) i P (param_of k) next _ c.loop-index.invariant.known known;
    }

pub returns-in-Err-clause-refused : goal.returns-in-Err-clause-refused
returns-in-Err-clause-refused g c =
    let ids : List (Option Id) = g.R.ResolveCoreType.type_ids c.args.resolver.now in
    let i : ℕ = c.loop-index.index in
    let k = c.index_mut-param.result.now in
    let next = left-here param_of (numbered_local ids) i c.loop-index.params.items _ c.args.params.now.items c.loop-index.invariant.changed c.as_slice-index-end.ensures.value k c.loop-index-test.true c.index_mut-param.ensures.value in
    refused-here (λ p. unknown_in_value ids p.value) i (map param_of c.args.params.now.items) (param_of k) next _ c.loop-index.invariant.known unknown_error c.in-Err.refusal
    (c.in-Err.ensures.refused ∙ ap (λ j. option_map unknown_error (unknown_in_value j (value_of k.ty))) c.loop-index.invariant.ids)

pub returns-clause-numbered : goal.returns-clause-numbered
returns-clause-numbered g c =
    let ids : List (Option Id) = g.R.ResolveCoreType.type_ids c.args.resolver.now in
    all-changed param_of (numbered_local ids) c.loop-index.index c.loop-index.params.items _ c.args.params.now.items c.loop-index.invariant.changed c.as_slice-index-end.ensures.value (omega (arith, c.loop-index-test.false))
