-- Which outer alias serves each name of parts of a definition that leads out, in the order in which these names stand there: the index of
-- one that stands already, or none where the name has its own. c are the counters and the aliases in front of the part.
use Rattle.std.specs.Prelude.{◌≡◌, ℕ, Bool, true, List, [], ◌∷◌, ◌++◌, Option, Some}
use Rattle.comp_model.specs.declared.Space.{Space}
use Rattle.comp_model.specs.declared.Space.TheVariants.{CoreType}
use Rattle.comp_model.specs.Core.{ref_name}
use Rattle.comp_model.specs.Model.{Leaf, core_value, ref, present, node, nodes, name, Leaves, no_leaf, ◌▸◌, row, Nodes, no_node, one_node, define, Defs, no_def, one_def}
use Rattle.comp_model.specs.Spaces.{declares_row}
use Rattle.comp_scopes.specs.Names.{Denoted}
use Rattle.comp_scopes.specs.Outward.{leads_out}
use Rattle.comp_tables.specs.Tables.{Counters, Opened, alias_of, advanced, found, past, past_leaf}
use Rattle.comp_tables.specs.Walks.{counters_in}
use Rattle.open_scopes.specs.declared.scopes.Open.{Open}
use Rattle.open_scopes.specs.Shown.{OpenScopesShow}

-- a name with what it denotes
abbrev pub name_served : Space → Bool → Option Denoted → Counters → List (Option ℕ)
name_served s true (Some d) c = alias_of s d c.aliases ∷ []
name_served s out d c = []

module _ (ms : List Opened) where
  abbrev mutual
    pub all_served : Leaves → Counters → List (Option ℕ)
    all_served no_leaf c = []
    all_served (l ▸ ls) c = leaf_served l c ++ all_served ls (past_leaf ms l c)

    pub leaf_served : Leaf → Counters → List (Option ℕ)
    leaf_served (core_value (ref_name b r x)) c = name_served CoreType (leads_out r (found ms CoreType r x)) (found ms CoreType r x) c
    leaf_served (ref s (name r x)) c = name_served s (leads_out r (found ms s r x)) (found ms s r x) c
    leaf_served (present l) c = leaf_served l c
    leaf_served (node (row t ls)) c = all_served ls c
    leaf_served (nodes ns) c = nodes_served ns c
    leaf_served _ c = []

    pub nodes_served : Nodes → Counters → List (Option ℕ)
    nodes_served no_node c = []
    nodes_served (one_node (row t ls) ns) c = all_served ls c ++ nodes_served ns (past ms ls c)

  -- those of a list of definitions
  abbrev pub defs_served : Defs → Counters → List (Option ℕ)
  defs_served no_def c = []
  defs_served (one_def (define names (row t ls)) ds) c = all_served ls c ++ defs_served ds (advanced (declares_row t ls) (past ms ls c))

-- what serves a part, by these counters and the aliases in front of it
abbrev pub ServedBy : Type 0
ServedBy = List Opened → Counters → List (Option ℕ)

-- a list begins with what serves a part, where the counts in front of it are those in a list; of all open scopes that are shown
abbrev pub ServedFirst : List Open → List ℕ → ServedBy → List (Option ℕ) → Type 0
ServedFirst os counts f left = (ms : List Opened) → OpenScopesShow os ms → (c : Counters) × (more : List (Option ℕ)) × (counters_in counts ≡ c.counts) × (left ≡ f ms c ++ more)
