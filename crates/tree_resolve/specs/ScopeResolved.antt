-- What a scope has become among open ones, and a list of definitions on the way.
use Rattle.std.specs.Prelude.{◌≡◌, ℕ, ◌||◌, List, ◌++◌, length, Option, None}
use Rattle.comp_model.specs.declared.Space.{Space}
use Rattle.comp_model.specs.CoreModules.{CoreModule}
use Rattle.comp_model.specs.Model as m
use Rattle.comp_model.specs.Spaces.{count_items}
use Rattle.comp_scopes.specs.Encoding.{Encoding}
use Rattle.comp_scopes.specs.Form.{binary_defs, origins_of}
use Rattle.comp_scopes.specs.Resolved.{binary_of}
use Rattle.comp_expanded.specs.IsResolved.{IsResolved, DefsResolved}
use Rattle.comp_tables.specs.Tables.{Counters, no_counts, Opened}
use Rattle.comp_tables.specs.Built.{missing_defs, missing_scope}
use Rattle.comp_tables.specs.InText.{text_defs, text_scope}
use Rattle.comp_tables.specs.Walks.{counters_in}
use Rattle.wast_tokens.specs.declared.error.Error.{Error}
use Rattle.comp_tree.specs.declared.tree.Def.{Def}
use Rattle.comp_tree.specs.declared.tree.Scope.{Scope}
use Rattle.comp_tree.specs.Lists.{defs_listed}
use Rattle.comp_tree.specs.Marks.{marks_of, marks_listed}
use Rattle.comp_tree.specs.Model.{scope_of}
use Rattle.open_scopes.specs.declared.scopes.Open.{Open}
use Rattle.open_scopes.specs.Shown.{OpenScopesShow}
use Rattle.tree_names.specs.Counted.{Refused}
use Rattle.tree_names.specs.Rooted.{Rooted}
use Rattle.tree_names.specs.Served.{defs_served}
use Rattle.tree_resolve.specs.ListNames.{names_counted, names_tabled, any_in}
use Rattle.tree_resolve.specs.Made.{mades}
use Rattle.tree_resolve.specs.Planned.{planned_of}

-- a scope: nothing of it is unmet, and it stands for what the tables make of it, with the marks in the numbers of the text
pub record ScopeResolved (e : Encoding) (C : List CoreModule) (os : List Open) (s new : Scope) : Type 0 where
  pub known : Rooted os (λ ms. missing_scope e ms (scope_of C s))
  pub form : (ms : List Opened) → OpenScopesShow os ms → binary_of e (scope_of C new) ≡ m.scope_of (m.kind_of (scope_of C s)) None None (binary_defs (text_scope e ms (scope_of C s) (marks_of C s)))
  pub plan : (ms : List Opened) → OpenScopesShow os ms → planned_of C new ≡ origins_of (text_scope e ms (scope_of C s) (marks_of C s))
  pub resolved : IsResolved (scope_of C new)

-- a list, by the definitions that are left of it; `front` are the counters and the aliases in front of these, among the open scopes that are
-- shown, and `served` is what serves the names in them that lead out
pub record DefsLeft (e : Encoding) (C : List CoreModule) (os : List Open) (counts : List ℕ) (served : List (Option ℕ)) (all rest now : List Def) : Type 0 where
  pub sized : length counts ≡ 13
  pub front : List Opened → Counters
  pub counted : (ms : List Opened) → OpenScopesShow os ms → counters_in counts ≡ (front ms).counts
  pub left : (ms : List Opened) → OpenScopesShow os ms → served ≡ defs_served ms (defs_listed C rest) (front ms)
  pub made : (ms : List Opened) → OpenScopesShow os ms → mades e C now ++ text_defs e ms (front ms) (defs_listed C rest) (marks_listed C rest) ≡ text_defs e ms no_counts (defs_listed C all) (marks_listed C all)
  pub items : (s : Space) → count_items s (defs_listed C now) ≡ counters_in counts s
  pub named : (ms : List Opened) (s : Space) → OpenScopesShow os ms → names_counted s 0 (defs_listed C now) ++ names_tabled ms s (front ms) (defs_listed C rest) ≡ names_tabled ms s no_counts (defs_listed C all)
  pub any : (any_in (defs_listed C now) || any_in (defs_listed C rest)) ≡ any_in (defs_listed C all)
  pub resolved : DefsResolved (defs_listed C now)
  pub known : Rooted os (λ ms. missing_defs e ms (defs_listed C rest)) → Rooted os (λ ms. missing_defs e ms (defs_listed C all))
  pub refused : (x : Error) → Refused os (λ ms. missing_defs e ms (defs_listed C rest)) x → Refused os (λ ms. missing_defs e ms (defs_listed C all)) x

-- and a whole one
pub record DefsResolvedTo (e : Encoding) (C : List CoreModule) (os : List Open) (all new : List Def) : Type 0 where
  pub made : (ms : List Opened) → OpenScopesShow os ms → mades e C new ≡ text_defs e ms no_counts (defs_listed C all) (marks_listed C all)
  pub named : (ms : List Opened) (s : Space) → OpenScopesShow os ms → names_counted s 0 (defs_listed C new) ≡ names_tabled ms s no_counts (defs_listed C all)
  pub any : any_in (defs_listed C new) ≡ any_in (defs_listed C all)
  pub resolved : DefsResolved (defs_listed C new)
  pub known : Rooted os (λ ms. missing_defs e ms (defs_listed C all))
