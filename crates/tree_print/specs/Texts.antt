-- Which parts of a tree have a text, its custom sections of names left out.
use Rattle.std.specs.Prelude.{Bool, true, cond, List}
use Rattle.comp_model.specs.declared.row.Row.{Row}
use Rattle.comp_model.specs.declared.row.ScopeKind.{ScopeKind}
use Rattle.comp_model.specs.Model.{Leaves}
use Rattle.print_table.specs.Lines as t
use Rattle.print_table.specs.TextOf.{unnamed_leaves, is_name_section}
use Rattle.print_table.specs.HasText.{has_at, leaves_have, line_has}

-- what each leaf of a row has, field by field
abbrev pub asked : Leaves → List (t.Field → Bool)
asked ls = leaves_have (unnamed_leaves ls)

abbrev pub piece_has : t.Piece → List (t.Field → Bool) → Bool
piece_has (t.token x) gs = true
piece_has (t.leaf i f) gs = has_at i f gs

-- a definition in a scope of this kind
abbrev pub definition_has : ScopeKind → Row → Leaves → Bool
definition_has k u ls = cond (is_name_section u ls) true (line_has (t.definition_in k u) (asked ls))
