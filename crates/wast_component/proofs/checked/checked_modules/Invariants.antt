use Rattle.std.proofs.Common.{◌≡◌, ◌++◌, map, drop}
use Rattle.wast_component.specs.Entry.{entry_of}
use Rattle.wast_component.specs.Modules.{ruled_fields, modules_of}
use Rattle.wast_component.specs.declared.checked.Checked.{Checked}
use Rattle.wast_component.proofs.checked.checked_modules.Given as goal

-- what is left completes the list
abbrev pub invariant-loop-one : goal.invariant-loop-one
invariant-loop-one l = map (λ (c : Checked). entry_of c.parsed) l.modules.items ++ modules_of (ruled_fields l.all) (drop l.one-index l.named) ≡ modules_of (ruled_fields l.all) l.named
