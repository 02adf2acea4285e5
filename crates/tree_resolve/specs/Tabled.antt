-- What is counted of a list before its references are looked up, by what is left of it.
use Rattle.std.specs.Prelude.{◌≡◌, ◌<◌, ◌^◌, ◌+◌, ℕ, List, ◌++◌, ◌∷◌, [], length, Option, ⊤}
use Rattle.comp_model.specs.declared.Space.{Space}
use Rattle.comp_model.specs.CoreModules.{CoreModule}
use Rattle.comp_model.specs.Model as m
use Rattle.comp_model.specs.Spaces.{declares}
use Rattle.comp_tables.specs.Tables.{Counters, Opened, no_counts, advanced, past, first_index, counted_table, unmet_kinds, unmet_kinds_defs}
use Rattle.comp_tables.specs.Walks.{counters_in, all_more}
use Rattle.wast_tokens.specs.declared.error.Error.{Error}
use Rattle.comp_tree.specs.declared.tree.Def.{Def}
use Rattle.comp_tree.specs.Lists.{listed, def_of, defs_listed}
use Rattle.open_scopes.specs.declared.scopes.Open.{Open}
use Rattle.open_scopes.specs.Shown.{OpenScopesShow}
use Rattle.tree_names.specs.Counted.{Refused, SumsShow, Summed}
use Rattle.tree_names.specs.Served.{all_served, defs_served}
use Rattle.tree_names.specs.declared.sums.Sums.{Sums}
use Rattle.tree_names.specs.Rooted.{Rooted}

-- each definition has its number in the table, and behind that there are numbers of 32 bits for all of its items
abbrev pub TableFits : List ℕ → m.Defs → Type 0
TableFits [] m.no_def = ⊤
TableFits [] (m.one_def d ds) = ⊥
TableFits (i ∷ T) m.no_def = ⊥
TableFits (i ∷ T) (m.one_def d ds) = (i + length (declares d) < 2 ^ 32) × TableFits T ds

-- counts, with no aliases
abbrev pub bare : List ℕ → Counters
bare counts = record { counts = counters_in counts; aliases = [] }

-- a list holds what serves the names of a part that lead out, and nothing else
abbrev pub ServedAll : List Open → (List Opened → List (Option ℕ)) → List (Option ℕ) → Type 0
ServedAll os f xs = (ms : List Opened) → OpenScopesShow os ms → xs ≡ f ms

-- `front` are the counters and the aliases in front of the rest, among the open scopes that are shown
pub record TabledUpTo (C : List CoreModule) (os : List Open) (sums : Sums) (table : List ℕ) (all rest : List Def) : Type 0 where
  pub sized : length sums.counters ≡ 13
  pub front : List Opened → Counters
  pub shown : (ms : List Opened) → OpenScopesShow os ms → SumsShow sums (front ms)
  pub served : (ms : List Opened) → OpenScopesShow os ms → sums.served.items ++ defs_served ms (defs_listed C rest) (front ms) ≡ defs_served ms (defs_listed C all) no_counts
  pub indices : (ms : List Opened) → OpenScopesShow os ms → table ++ counted_table ms (front ms) (defs_listed C rest) ≡ counted_table ms no_counts (defs_listed C all)
  pub fits : (T : List ℕ) → TableFits T (defs_listed C rest) → TableFits (table ++ T) (defs_listed C all)
  pub known : Rooted os (λ ms. unmet_kinds_defs ms (defs_listed C rest)) → Rooted os (λ ms. unmet_kinds_defs ms (defs_listed C all))
  pub refused : (x : Error) → Refused os (λ ms. unmet_kinds_defs ms (defs_listed C rest)) x → Refused os (λ ms. unmet_kinds_defs ms (defs_listed C all)) x

-- the table of a whole list, of which nothing is unmet, and what serves its names that lead out
pub record Tabled (C : List CoreModule) (os : List Open) (table : List ℕ) (served : List (Option ℕ)) (all : List Def) : Type 0 where
  pub indices : (ms : List Opened) → OpenScopesShow os ms → table ≡ counted_table ms no_counts (defs_listed C all)
  pub serving : ServedAll os (λ ms. defs_served ms (defs_listed C all) no_counts) served
  pub fits : TableFits table (defs_listed C all)
  pub known : Rooted os (λ ms. unmet_kinds_defs ms (defs_listed C all))

-- past a definition: the counters behind it, its first index behind the table, what serves its names that lead out behind what serves others
pub record DefCounted (C : List CoreModule) (os : List Open) (before after : Sums) (old new : List ℕ) (d : Def) : Type 0 where
  pub sized : length after.counters ≡ 13
  pub index : ℕ
  pub table : new ≡ old ++ index ∷ []
  pub small : index + length (declares (def_of C d)) < 2 ^ 32
  pub summed : (ms : List Opened) (c : Counters) → OpenScopesShow os ms → SumsShow before c → Summed before after (advanced (declares (def_of C d)) (past ms (listed C d.node.leaves.now) c)) (all_served ms (listed C d.node.leaves.now) c)
  pub first : (ms : List Opened) (c : Counters) → OpenScopesShow os ms → SumsShow before c → index ≡ first_index (declares (def_of C d)) (past ms (listed C d.node.leaves.now) c)
  pub known : Rooted os (λ ms. unmet_kinds ms (listed C d.node.leaves.now))

-- past items in these spaces, from the counters c on: the index of the first behind the table, and the counters behind them
pub record ItemsEntered (c : List ℕ) (spaces : List Space) (old new end : List ℕ) : Type 0 where
  pub index : ℕ
  pub table : new ≡ old ++ index ∷ []
  pub first : index ≡ first_index spaces (bare c)
  pub small : index + length spaces < 2 ^ 32
  pub behind : end ≡ all_more c spaces
