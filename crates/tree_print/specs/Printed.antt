-- The tokens of parts of a tree, its custom sections of names left out.
use Rattle.std.specs.Prelude.{cond, List, [], ◌∷◌}
use Rattle.comp_model.specs.declared.row.Row.{Row}
use Rattle.comp_model.specs.declared.row.ScopeKind.{ScopeKind}
use Rattle.comp_model.specs.Model.{Leaves}
use Rattle.print_table.specs.Tokens.{PrintedToken}
use Rattle.print_table.specs.Lines as t
use Rattle.print_table.specs.TextOf.{printed_at, assemble, leaves_tokens, unnamed_leaves, is_name_section}

-- those of one piece
abbrev pub piece_tokens : t.Piece → List (t.Field → List PrintedToken) → List PrintedToken
piece_tokens (t.token x) gs = x ∷ []
piece_tokens (t.leaf i f) gs = printed_at i f gs

-- what the leaves of a row are printed as, field by field
abbrev pub shown : Leaves → List (t.Field → List PrintedToken)
shown ls = leaves_tokens (unnamed_leaves ls)

-- those of one definition in a scope of this kind
abbrev pub definition_tokens : ScopeKind → Row → Leaves → List PrintedToken
definition_tokens k u ls = cond (is_name_section u ls) [] (assemble (t.definition_in k u) (shown ls))
