use Rattle.std.proofs.Common.{◌≡◌, drop, map}
use Rattle.core_model.specs.Resolved.{numbered_local}
use Rattle.core_model.specs.Rule.{unknown_in_value, first_broken}
use Rattle.core_syntax.specs.Fields.{param_of}
use Rattle.core_names.proofs.Mixed.{mixed}
use Rattle.core_names.proofs.resolving.resolve_params.Given as goal

-- the parameters in front are resolved, and what is left decides
abbrev pub invariant-loop-index : goal.invariant-loop-index
invariant-loop-index g l = record {
  ids : g.R.ResolveCoreType.type_ids l.resolver ≡ g.R.ResolveCoreType.type_ids l.initial.resolver;
  changed : map param_of l.params.items ≡ mixed (numbered_local (g.R.ResolveCoreType.type_ids l.initial.resolver)) l.index (map param_of l.initial.params.items);
  known : first_broken (map (λ p. unknown_in_value (g.R.ResolveCoreType.type_ids l.initial.resolver) p.value) (drop l.index (map param_of l.initial.params.items)))
      ≡ first_broken (map (λ p. unknown_in_value (g.R.ResolveCoreType.type_ids l.initial.resolver) p.value) (map param_of l.initial.params.items));
}
