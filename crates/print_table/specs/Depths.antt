-- How many parentheses are open in front of the parts of a printed text that are checked for their depth (docs/GRAMMAR.md, `!`): a value
-- type in parentheses at its word, an inner component at its word, the declarations of a type behind the word of the type.
use Rattle.std.specs.Prelude.{ℕ, zero, suc, ◌+◌, nat_lt, Bool, false, ◌||◌, List, [], ◌∷◌, ◌++◌, cond}
use Rattle.comp_model.specs.declared.row.Row.{Row}
use Rattle.comp_model.specs.declared.row.Row.TheVariants as rows
use Rattle.comp_model.specs.Model as m
use Rattle.comp_model.specs.Model.{Leaf, Leaves, no_leaf, ◌▸◌, row, Defs, define, no_def, one_def, Scope, scope_of}
use Rattle.print_table.specs.TextOf.{unnamed, unnamed_leaves, is_name_section}

-- how many parentheses of a definition are open in front of the part of it that is checked; 0 where none is
abbrev pub deeper : Row → ℕ
deeper rows.Component = 1
deeper rows.ModuleType = 2
deeper rows.ComponentType = 2
deeper rows.InstanceType = 2
deeper rows.RecordType = 2
deeper rows.VariantType = 2
deeper rows.ListType = 2
deeper rows.FixedLengthListType = 2
deeper rows.TupleType = 2
deeper rows.FlagsType = 2
deeper rows.EnumType = 2
deeper rows.OptionType = 2
deeper rows.ResultType = 2
deeper rows.OwnType = 2
deeper rows.BorrowType = 2
deeper rows.StreamType = 2
deeper rows.FutureType = 2
deeper _ = 0

-- the part that is checked, where one is, of a definition below so many parentheses
abbrev pub own_depth : ℕ → ℕ → List ℕ
own_depth d zero = []
own_depth d (suc n) = (d + suc n) ∷ []

-- of definitions below so many parentheses, in the order of the text
abbrev mutual
  pub leaf_depths : ℕ → Leaf → List ℕ
  leaf_depths d (m.scope (scope_of k id label ds)) = depths d ds
  leaf_depths d _ = []

  pub leaves_depths : ℕ → Leaves → List ℕ
  leaves_depths d no_leaf = []
  leaves_depths d (l ▸ ls) = leaf_depths d l ++ leaves_depths d ls

  pub depths : ℕ → Defs → List ℕ
  depths d no_def = []
  depths d (one_def (define names (row t ls)) ds) = own_depth d (deeper t) ++ (leaves_depths (d + deeper t) ls ++ depths d ds)

-- of the text of a component, its custom sections of names left out
abbrev pub checked_depths : Scope → List ℕ
checked_depths (scope_of k id label ds) = depths 1 ds

-- whether one is more than 100
abbrev pub some_deep : List ℕ → Bool
some_deep [] = false
some_deep (n ∷ ns) = nat_lt 100 n || some_deep ns

abbrev pub is_deep : Scope → Bool
is_deep b = some_deep (checked_depths (unnamed b))

-- a definition below so many parentheses; a custom section of names isn't printed
abbrev pub definition_deep : ℕ → Row → Leaves → Bool
definition_deep d t ls = cond (is_name_section t ls) false (some_deep (own_depth d (deeper t) ++ leaves_depths (d + deeper t) (unnamed_leaves ls)))
