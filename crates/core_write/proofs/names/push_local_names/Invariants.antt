use Rattle.std.proofs.Common.{◌≡◌, ◌+◌, ◌≤◌, ◌++◌, drop, map, length}
use Rattle.comp_model.specs.Payloads.{joined}
use Rattle.core_model.specs.NameSection.{names_from}
use Rattle.core_syntax.specs.Fields.{local_of}
use Rattle.core_write.specs.NamesWritten.{namings_of, FitsNamesFrom}
use Rattle.core_write.proofs.names.push_local_names.Given as goal

-- what is left completes the names
abbrev pub invariant-loop-local : goal.invariant-loop-local
invariant-loop-local l = record {
  appended : l.out.items ++ joined (names_from (l.first + l.place) (namings_of (map local_of (drop l.local-index l.locals)))) ≡ l.initial.out.items ++ joined (names_from l.first (namings_of (map local_of l.locals)));
  number : l.count + length (names_from (l.first + l.place) (namings_of (map local_of (drop l.local-index l.locals)))) ≡ length (names_from l.first (namings_of (map local_of l.locals)));
  fits : FitsNamesFrom (l.first + l.place) (namings_of (map local_of (drop l.local-index l.locals)));
  within : l.place ≤ l.local-index;
}
