-- The references of a binary component: a line for each, with what it is a reference to.
use Rattle.std.specs.Prelude.{ℕ, ◌+◌, List, [], ◌∷◌, ◌++◌, slice_get, option_map, Option, Some, None}
use Rattle.comp_model.specs.declared.Space.{Space}
use Rattle.comp_model.specs.declared.row.Row.{Row}
use Rattle.comp_model.specs.Model as m
use Rattle.comp_model.specs.Model.{Leaf, Leaves, no_leaf, ◌▸◌, row, Nodes, no_node, one_node, Def, define, Defs, no_def, one_def, Scope, scope_of}
use Rattle.comp_model.specs.Spaces.{Declaration, item_of}
use Rattle.comp_list.specs.declared.line.Line.{Line}
use Rattle.comp_list.specs.declared.line.Spot.{Spot}
use Rattle.comp_list.specs.declared.line.Led.{Led}
use Rattle.comp_list.specs.declared.line.Led.TheVariants.{Not, Nowhere, To}
use Rattle.comp_list.specs.declared.reference.Reference.{Reference}
use Rattle.comp_list.specs.References.{reference, references, outer_count}

abbrev pub spot_of : Declaration → Spot
spot_of d = record { def = d.definition; part = d.part }

abbrev pub or_none : {A B : Type 0} → Option A → (A → Option B) → Option B
or_none None f = None
or_none (Some x) f = f x

-- where item i of a space is declared in the scope so many outward; the definitions of each open scope are given, the innermost first
abbrev pub spot_at : List Defs → ℕ → Space → ℕ → Option Spot
spot_at scopes up s i = or_none (slice_get scopes up) (λ ds. option_map spot_of (item_of ds s i))

abbrev pub def_at : Defs → ℕ → Option Def
def_at no_def n = None
def_at (one_def d ds) ℕ.zero = Some d
def_at (one_def d ds) (ℕ.suc n) = def_at ds n

abbrev pub led_there : ℕ → Option Spot → Led
led_there up None = Nowhere
led_there up (Some x) = To up x

-- the index that a leaf is
abbrev pub index_in : Leaf → Option Reference
index_in (m.ref s (m.index i)) = Some (reference s i)
index_in _ = None

abbrev pub index_of_alias : Leaves → Option Reference
index_of_alias (l ▸ k ▸ ls) = index_in k
index_of_alias _ = None

-- where an outer alias leads of this count and index that stands so many scopes outward, in one step
abbrev pub led_to : List Defs → ℕ → Option ℕ → Option Reference → Led
led_to scopes up (Some c) (Some r) = led_there (c + up) (spot_at scopes (c + up) r.space r.index)
led_to scopes up _ _ = Not

-- where a definition leads that stands so many scopes outward; one that is no outer alias doesn't
abbrev pub led_by : List Defs → ℕ → Row → Leaves → Led
led_by scopes up t ls = led_to scopes up (outer_count t ls) (index_of_alias ls)

abbrev pub led_by_def : List Defs → ℕ → Option Def → Led
led_by_def scopes up None = Not
led_by_def scopes up (Some (define names (row t ls))) = led_by scopes up t ls

-- where a reference leads to this spot of the scope so many outward
abbrev pub led_in : List Defs → ℕ → Option Defs → Option Spot → Led
led_in scopes up (Some ds) (Some x) = led_by_def scopes up (def_at ds x.def)
led_in scopes up _ _ = Not

abbrev pub or_zero : Option ℕ → ℕ
or_zero None = 0
or_zero (Some n) = n

-- the line of a reference, by its level, the numbers of its definition and its place, and the count of an outer alias
abbrev pub line_of : ℕ → List Defs → ℕ → Option ℕ → ℕ → Reference → Line
line_of level scopes k up p r =
    let there = spot_at scopes (or_zero up) r.space r.index in
    record { level = level; def = k; place = p; space = r.space; index = r.index; up = up; at = there; led = led_in scopes (or_zero up) (slice_get scopes (or_zero up)) there }

-- the lines of references, the first of which has number p
abbrev pub lines_of : ℕ → List Defs → ℕ → Option ℕ → ℕ → List Reference → List Line
lines_of level scopes k up p [] = []
lines_of level scopes k up p (r ∷ rs) = line_of level scopes k up p r ∷ lines_of level scopes k up (p + 1) rs

-- the lines of a scope in others, definition by definition: those of its own references, then those of the scope that it holds
abbrev mutual
  pub scope_lines : Scope → ℕ → List Defs → List Line
  scope_lines (scope_of k id label ds) level out = defs_lines ds level (ds ∷ out) 0

  pub defs_lines : Defs → ℕ → List Defs → ℕ → List Line
  defs_lines no_def level scopes n = []
  defs_lines (one_def (define names (row t ls)) ds) level scopes n =
      lines_of level scopes n (outer_count t ls) 0 (references ls) ++ (leaves_lines ls (level + 1) scopes ++ defs_lines ds level scopes (n + 1))

  pub leaf_lines : Leaf → ℕ → List Defs → List Line
  leaf_lines (m.scope s) level out = scope_lines s level out
  leaf_lines (m.present l) level out = leaf_lines l level out
  leaf_lines (m.node (row t ls)) level out = leaves_lines ls level out
  leaf_lines (m.nodes ns) level out = nodes_lines ns level out
  leaf_lines _ level out = []

  pub leaves_lines : Leaves → ℕ → List Defs → List Line
  leaves_lines no_leaf level out = []
  leaves_lines (l ▸ ls) level out = leaf_lines l level out ++ leaves_lines ls level out

  pub nodes_lines : Nodes → ℕ → List Defs → List Line
  nodes_lines no_node level out = []
  nodes_lines (one_node (row t ls) ns) level out = leaves_lines ls level out ++ nodes_lines ns level out

-- the lines of a definition of number n
abbrev pub def_lines : ℕ → List Defs → ℕ → Row → Leaves → List Line
def_lines level scopes n t ls = lines_of level scopes n (outer_count t ls) 0 (references ls) ++ leaves_lines ls (level + 1) scopes

-- The references of a component and of the scopes in it.
abbrev pub listing : Scope → List Line
listing b = scope_lines b 0 []
