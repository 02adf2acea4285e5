-- What a list of resolved definitions has grown by.
use Rattle.std.specs.Prelude.{◌≡◌, ℕ, ◌||◌, List, [], ◌∷◌, ◌++◌, length, map, Option}
use Rattle.comp_model.specs.CoreModules.{CoreModule}
use Rattle.comp_model.specs.declared.Space.{Space}
use Rattle.comp_model.specs.ItemNames.{part_names, any_named}
use Rattle.comp_model.specs.Model as m
use Rattle.comp_model.specs.Origins.{Origin}
use Rattle.comp_expanded.specs.ListMarks.{Inside}
use Rattle.comp_model.specs.Spaces.{declares_row, count_items}
use Rattle.comp_model.specs.declared.row.Row.{Row}
use Rattle.comp_scopes.specs.Encoding.{Encoding}
use Rattle.comp_scopes.specs.Form.{Made, coded_node}
use Rattle.comp_scopes.specs.Names.{first_of_two}
use Rattle.comp_scopes.specs.Resolved.{binary_of_node}
use Rattle.comp_expanded.specs.IsResolved.{DefsResolved}
use Rattle.comp_expanded.specs.TextNumbers.{definition_of}
use Rattle.comp_tables.specs.Tables.{Counters, Opened, advanced, past, found_indices, next_place, needs}
use Rattle.comp_tables.specs.Built.{missing_roots, missing, renumbered}
use Rattle.comp_tables.specs.InText.{text_held}
use Rattle.comp_tables.specs.Walks.{counters_in}
use Rattle.comp_wire.specs.Origins.{origin_of}
use Rattle.comp_tree.specs.declared.tree.Def.{Def}
use Rattle.comp_tree.specs.Lists.{listed, node_of, defs_listed}
use Rattle.comp_tree.specs.Marks.{places_in, inside_listed}
use Rattle.comp_tree.specs.Model.{names_at}
use Rattle.open_scopes.specs.declared.scopes.Open.{Open}
use Rattle.open_scopes.specs.Shown.{OpenScopesShow}
use Rattle.tree_names.specs.declared.generated.Generated.{Generated}
use Rattle.tree_names.specs.Generated.{number_at, generated_made}
use Rattle.tree_names.specs.Rooted.{Rooted}
use Rattle.tree_names.specs.Served.{all_served}
use Rattle.tree_resolve.specs.ListNames.{item_names, names_counted, any_in}
use Rattle.tree_resolve.specs.Planned.{planned_listed}

module _ (e : Encoding) (C : List CoreModule) where
  -- a resolved definition as a planned one
  abbrev pub made_of : Def → Made
  made_of d = record { origin = origin_of d.origin; held = planned_listed C d.node.leaves.now; made = binary_of_node e (node_of C d.node) }

  abbrev pub mades : List Def → List Made
  mades ds = map made_of ds

-- the number in the text of reference u of a definition: that which stands there, or its own
abbrev pub number_in : List ℕ → ℕ → ℕ
number_in [] u = u
number_in (p ∷ ps) u = number_at (p ∷ ps) u

-- what the tables make of a definition of that mark, whose references have these numbers in the text, the counters in front of which are c:
-- what it needs, and itself
abbrev pub text_one : Encoding → List Opened → Counters → Origin → List ℕ → Inside → Row → m.Leaves → List Made
text_one e ms c o ps h t ls =
    needs ms (definition_of o) ps ls c ++ record { origin = o; held = text_held e ms ls h; made = coded_node e t ls (renumbered e ms (found_indices ms ls c) 0 ls) } ∷ []

-- the names of a definition
abbrev pub own_names : Def → m.Names
own_names d = names_at d.span.offset d.names.now

-- from `old` to `now` a list has grown by those of `all`, which are for definition j of the text, but for the rest; `number` has the
-- numbers of its references there
pub record AliasesBehind (C : List CoreModule) (number : ℕ → ℕ) (j : ℕ) (all rest : List Generated) (old now : List Def) : Type 0 where
  pub grown : (e : Encoding) → mades e C now ++ map (generated_made number j) rest ≡ mades e C old ++ map (generated_made number j) all
  pub named : (s : Space) (b : ℕ) → names_counted s b (defs_listed C now) ≡ names_counted s b (defs_listed C old)
  pub any : any_in (defs_listed C now) ≡ any_in (defs_listed C old)
  pub resolved : DefsResolved (defs_listed C old) → DefsResolved (defs_listed C now)

-- whatever the open scopes stand for, and whatever counters and aliases c are in front of a definition, where these are their counts and
-- what serves its names that lead out comes first
abbrev pub WhereServed : List CoreModule → List Open → List ℕ → List (Option ℕ) → Def → (List Opened → Counters → List (Option ℕ) → Type 0) → Type 0
WhereServed C os counts served d P = (ms : List Opened) (c : Counters) (more : List (Option ℕ)) → OpenScopesShow os ms → counters_in counts ≡ c.counts → served ≡ all_served ms (listed C d.node.leaves.now) c ++ more → P ms c more

-- by the counters and the aliases c in front of it; `behind` are the counts behind it
pub record BuiltBy (e : Encoding) (C : List CoreModule) (ms : List Opened) (c : Counters) (d : Def) (old new : List Def) (behind : List ℕ) : Type 0 where
  pub counts : counters_in behind ≡ (advanced (declares_row d.node.row (listed C d.node.leaves.now)) (past ms (listed C d.node.leaves.now) c)).counts
  pub grown : mades e C new ≡ mades e C old ++ text_one e ms c (origin_of d.origin) (places_in C d) (inside_listed C d.node.leaves.now) d.node.row (listed C d.node.leaves.now)
  -- where the list has as many items of each space as the counters say, it has them behind the definition, and the names of its items
  pub items : (s : Space) → count_items s (defs_listed C old) ≡ c.counts s → count_items s (defs_listed C new) ≡ counters_in behind s
  pub named : (s : Space) → count_items s (defs_listed C old) ≡ c.counts s
      → names_counted s 0 (defs_listed C new)
      ≡ names_counted s 0 (defs_listed C old) ++ item_names s ((past ms (listed C d.node.leaves.now) c).counts s) 0 (own_names d).ids (own_names d).labels (declares_row d.node.row (listed C d.node.leaves.now))

-- from `old` to `new` by a definition with what it needs, where these are the counts in front of it and what serves its names that lead out
-- and those behind it; `behind` and `left` are those behind it
pub record DefBuilt (e : Encoding) (C : List CoreModule) (os : List Open) (counts : List ℕ) (served : List (Option ℕ)) (d : Def) (old new : List Def) (behind : List ℕ) (left : List (Option ℕ)) : Type 0 where
  pub sized : length behind ≡ 13
  pub known : Rooted os (λ ms. first_of_two (missing_roots ms (listed C d.node.leaves.now)) (missing e ms (listed C d.node.leaves.now)))
  pub taken : WhereServed C os counts served d (λ ms c more. left ≡ more)
  pub by : WhereServed C os counts served d (λ ms c more. BuiltBy e C ms c d old new behind)
  pub any : any_in (defs_listed C new) ≡ (any_in (defs_listed C old) || any_named (part_names 0 0 (own_names d).ids (own_names d).labels (declares_row d.node.row (listed C d.node.leaves.now))))
  pub resolved : DefsResolved (defs_listed C old) → DefsResolved (defs_listed C new)
