use Rattle.std.proofs.Common.{◌≡◌, drop, map}
use Rattle.core_model.specs.Resolved.{numbered_value}
use Rattle.core_model.specs.Rule.{unknown_in_value, first_broken}
use Rattle.core_syntax.specs.Fields.{value_of}
use Rattle.core_names.proofs.Mixed.{mixed}
use Rattle.core_names.proofs.resolving.resolve_results.Given as goal

-- the results in front are resolved, and what is left decides
abbrev pub invariant-loop-index : goal.invariant-loop-index
invariant-loop-index g l = record {
  ids : g.R.ResolveCoreType.type_ids l.resolver ≡ g.R.ResolveCoreType.type_ids l.initial.resolver;
  changed : map value_of l.results.items ≡ mixed (numbered_value (g.R.ResolveCoreType.type_ids l.initial.resolver)) l.index (map value_of l.initial.results.items);
  known : first_broken (map (unknown_in_value (g.R.ResolveCoreType.type_ids l.initial.resolver)) (drop l.index (map value_of l.initial.results.items)))
      ≡ first_broken (map (unknown_in_value (g.R.ResolveCoreType.type_ids l.initial.resolver)) (map value_of l.initial.results.items));
}
