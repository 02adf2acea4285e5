-- What is counted of parts of a definition among open scopes.
use Rattle.std.specs.Prelude.{◌≡◌, ℕ, List, ◌++◌, length, Option, Some, None, option_map, ◌⊎◌}
use Rattle.comp_model.specs.Core.{Id, Reach}
use Rattle.comp_model.specs.declared.Space.{Space}
use Rattle.comp_model.specs.Model.{Leaf, Leaves, Nodes}
use Rattle.comp_scopes.specs.Outward.{leads_out}
use Rattle.comp_scopes.specs.Unmet.{Unmet, unmet_kind}
use Rattle.comp_tables.specs.Tables.{Counters, Opened, found, past_name, past, past_leaf, past_nodes, unmet_kinds, unmet_kinds_leaf, unmet_kinds_nodes}
use Rattle.comp_tables.specs.Walks.{counters_in}
use Rattle.wast_tokens.specs.declared.error.Error.{Error}
use Rattle.open_scopes.specs.Aliases.{AliasesShow}
use Rattle.open_scopes.specs.declared.scopes.Open.{Open}
use Rattle.open_scopes.specs.Refusals.{refusal_of, no_memory}
use Rattle.open_scopes.specs.Shown.{OpenScopesShow}
use Rattle.tree_names.specs.declared.sums.Sums.{Sums}
use Rattle.tree_names.specs.Served.{ServedBy, name_served, all_served, leaf_served, nodes_served}

-- an unmet demand of what is shown
abbrev pub RefusedBy : List Open → (List Opened → Option Unmet) → Error → Type 0
RefusedBy os u x = (ms : List Opened) → OpenScopesShow os ms → option_map refusal_of (u ms) ≡ Some x

-- or want of memory
abbrev pub Refused : List Open → (List Opened → Option Unmet) → Error → Type 0
Refused os u x = (x ≡ no_memory) ⊎ RefusedBy os u x

-- what was counted are these counters, with these aliases
pub record SumsShow (a : Sums) (c : Counters) : Type 0 where
  pub counts : counters_in a.counters ≡ c.counts
  pub aliases : AliasesShow a.aliases c.aliases

-- the counters behind a part, and what serves its names that lead out, behind what serves others
pub record Summed (old new : Sums) (behind : Counters) (serving : List (Option ℕ)) : Type 0 where
  pub shown : SumsShow new behind
  pub served : (more : List (Option ℕ)) → new.served.items ++ more ≡ old.served.items ++ (serving ++ more)

-- past a part: that, and nothing of it is unmet
pub record CountedPast (os : List Open) (old new : Sums) (past : List Opened → Counters → Counters) (served : ServedBy) (unmet : List Opened → Option Unmet) : Type 0 where
  pub sized : length new.counters ≡ 13
  pub summed : (ms : List Opened) (c : Counters) → OpenScopesShow os ms → SumsShow old c → Summed old new (past ms c) (served ms c)
  pub known : (ms : List Opened) → OpenScopesShow os ms → unmet ms ≡ None

-- a name
abbrev pub NameCounted : List Open → Space → Reach → Id → Sums → Sums → Type 0
NameCounted os s r x old new = CountedPast os old new (λ ms c. past_name s (leads_out r (found ms s r x)) (found ms s r x) c) (λ ms c. name_served s (leads_out r (found ms s r x)) (found ms s r x) c) (λ ms. unmet_kind r s x (found ms s r x))

abbrev pub LeafCounted : List Open → Sums → Sums → Leaf → Type 0
LeafCounted os old new l = CountedPast os old new (λ ms. past_leaf ms l) (λ ms. leaf_served ms l) (λ ms. unmet_kinds_leaf ms l)

abbrev pub LeavesCounted : List Open → Sums → Sums → Leaves → Type 0
LeavesCounted os old new ls = CountedPast os old new (λ ms. past ms ls) (λ ms. all_served ms ls) (λ ms. unmet_kinds ms ls)

abbrev pub NodesCounted : List Open → Sums → Sums → Nodes → Type 0
NodesCounted os old new ns = CountedPast os old new (λ ms. past_nodes ms ns) (λ ms. nodes_served ms ns) (λ ms. unmet_kinds_nodes ms ns)
