use Rattle.std.proofs.Common.{◌++◌, [], map, ap, ◌∙◌}
use Rattle.comp_wire.specs.Spelled.{core_bytes}
use Rattle.core_model.specs.Bytes.{value, values, counted}
use Rattle.core_syntax.specs.Fields.{param_of, value_of}
use Rattle.core_write.specs.Written.{values_of}
use Rattle.core_names.proofs.Outcomes.{on-ok}
use Rattle.core_write.proofs.Steps.{three-parts}
use Rattle.core_write.proofs.types.push_function_type.Goals as goal

pub returns : goal.returns
returns c =
    on-ok c.push_results.result c.push_results.ensures (λ e. three-parts 0x60 _ _ c.args.out.now.items c.push_byte.new.out.items c.push_params.new.out.items c.push_results.new.out.items c.in_ok-push_byte.ensures
    (c.in_ok-push_params.ensures ∙ ap (λ s. c.push_byte.new.out.items ++ counted (map core_bytes (values_of (map param_of s)))) c.as_slice.ensures.value)
    (e ∙ ap (λ s. c.push_params.new.out.items ++ counted (map core_bytes (values (map (value []) (map value_of s))))) c.as_slice-2.ensures.value))
