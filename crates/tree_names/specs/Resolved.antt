-- What a definition has become among open scopes.
use Rattle.std.specs.Prelude.{◌≡◌, ℕ, List, ◌++◌, length, Option, None}
use Rattle.comp_model.specs.Model.{Leaves}
use Rattle.comp_model.specs.Payloads.{producers_payload}
use Rattle.comp_model.specs.Spaces.{declares_row}
use Rattle.comp_model.specs.declared.row.Row.{Row}
use Rattle.comp_scopes.specs.Encoding.{Encoding}
use Rattle.comp_scopes.specs.Names.{first_of_two}
use Rattle.comp_scopes.specs.Rowed.{holds_scope}
use Rattle.comp_scopes.specs.Resolved.{binary_of_leaves}
use Rattle.comp_expanded.specs.IsExpanded.{LeavesExpanded}
use Rattle.comp_expanded.specs.IsResolved.{LeavesResolved}
use Rattle.comp_tables.specs.Tables.{Counters, Opened, past, found_indices, needs}
use Rattle.comp_tables.specs.Built.{missing_roots, missing, renumbered}
use Rattle.comp_tables.specs.Walks.{counters_in}
use Rattle.open_scopes.specs.declared.scopes.Open.{Open}
use Rattle.open_scopes.specs.Shown.{OpenScopesShow}
use Rattle.tree_names.specs.declared.reading.Reading.{Reading}
use Rattle.tree_names.specs.Read.{generated_in}
use Rattle.tree_names.specs.Served.{all_served}

-- by the counters and the aliases c in front of it: its leaves are the new ones, by the indices that the tables find; the counters behind
-- it, and what stands before it, are those of the tables
pub record ResolvedBy (e : Encoding) (ms : List Opened) (c : Counters) (more : List (Option ℕ)) (old new : Leaves) (end : Reading) : Type 0 where
  pub counts : counters_in end.counters ≡ (past ms old c).counts
  pub served : end.denotations.served.now ≡ more
  pub needed : (j : ℕ) (vs : List ℕ) → generated_in j vs end ≡ needs ms j vs old c
  pub made : LeavesExpanded old → binary_of_leaves e new ≡ renumbered e ms (found_indices ms old c) 0 old

-- where the counts in front of it are these, and this is what serves its names that lead out, and those behind it
pub record NodeResolved (e : Encoding) (os : List Open) (counts : List ℕ) (served : List (Option ℕ)) (old new : Leaves) (end : Reading) : Type 0 where
  pub sized : length end.counters ≡ 13
  pub resolved : LeavesResolved new
  pub known : (ms : List Opened) → OpenScopesShow os ms → first_of_two (missing_roots ms old) (missing e ms old) ≡ None
  pub by : (ms : List Opened) (c : Counters) (more : List (Option ℕ)) → OpenScopesShow os ms → counters_in counts ≡ c.counts → served ≡ all_served ms old c ++ more → ResolvedBy e ms c more old new end
  -- what it declares, what it holds as a list of producers, and whether it holds a scope, stays
  pub declares : (t : Row) → declares_row t new ≡ declares_row t old
  pub payload : producers_payload new ≡ producers_payload old
  pub holds : holds_scope new ≡ holds_scope old
