use Rattle.std.proofs.Common.{◌≡◌, ◌++◌, map, drop}
use Rattle.wast_component.specs.Modules.{all_fields, all_light, light_module, modules_of}
use Rattle.wast_component.proofs.light.light_modules.Given as goal

-- what is left completes the list
abbrev pub invariant-loop-one : goal.invariant-loop-one
invariant-loop-one l = modules_of (all_light (all_fields l.all)) l.modules.items ++ map light_module (modules_of (all_fields l.all) (drop l.one-index l.named)) ≡ map light_module (modules_of (all_fields l.all) l.named)
