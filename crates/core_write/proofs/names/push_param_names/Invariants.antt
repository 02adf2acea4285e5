use Rattle.std.proofs.Common.{◌≡◌, ◌+◌, ◌≤◌, ◌++◌, drop, map, length}
use Rattle.comp_model.specs.Payloads.{joined}
use Rattle.core_model.specs.NameSection.{names_from}
use Rattle.core_syntax.specs.Fields.{param_of}
use Rattle.core_write.specs.NamesWritten.{namings_of, FitsNamesFrom}
use Rattle.core_write.proofs.names.push_param_names.Given as goal

-- what is left completes the names
abbrev pub invariant-loop-param : goal.invariant-loop-param
invariant-loop-param l = record {
  appended : l.out.items ++ joined (names_from (0 + l.place) (namings_of (map param_of (drop l.param-index l.params)))) ≡ l.initial.out.items ++ joined (names_from 0 (namings_of (map param_of l.params)));
  number : l.count + length (names_from (0 + l.place) (namings_of (map param_of (drop l.param-index l.params)))) ≡ length (names_from 0 (namings_of (map param_of l.params)));
  fits : FitsNamesFrom (0 + l.place) (namings_of (map param_of (drop l.param-index l.params)));
  within : l.place ≤ l.param-index;
}
