-- The verdicts on the lines of a row, by its leaves.
use Rattle.std.specs.Prelude.{List, ◌∷◌, ◌++◌, map}
use Rattle.comp_model.specs.Model.{Node, Defs}
use Rattle.comp_list.specs.declared.reference.Reference.{Reference}
use Rattle.comp_list.specs.Alias.{row_outer}
use Rattle.comp_list.specs.Places.{row_of, row_leaves, row_references}
use Rattle.comp_order.specs.declared.verdict.Verdict.{Verdict}
use Rattle.comp_order.specs.Order.{verdict_of, leaves_verdicts}

-- on one of its own references
abbrev pub row_verdict : List Defs → Defs → Node → Reference → Verdict
row_verdict befores before n r = verdict_of befores before (row_of n) (row_leaves n) (row_outer n) r

-- on those of its own, then those of the scopes in it
abbrev pub row_verdicts : List Defs → Defs → Node → List Verdict
row_verdicts befores before n = map (row_verdict befores before n) (row_references n) ++ leaves_verdicts (row_leaves n) (before ∷ befores)
