-- The numbers of the references in leaves, in their order, and a visitor that gathers them in the room that it has.
use Rattle.std.specs.Prelude.{ℕ, Bool, true, cond, nat_lt, List, [], ◌∷◌, ◌++◌, length}
use Rattle.comp_model.specs.Core.{ref_numeral, ref_name}
use Rattle.comp_model.specs.Model as m
use Rattle.comp_model.specs.Model.{Leaf, Leaves, no_leaf, ◌▸◌, row, Nodes, no_node, one_node}
use Rattle.comp_model.specs.Events.{Event, leaf, inline, bundle}

-- of a leaf with no node in it; 0 stands for what is no numeral
abbrev pub own_numbers : Leaf → List ℕ
own_numbers (m.core_value (ref_numeral b o n)) = n ∷ []
own_numbers (m.core_value (ref_name b r x)) = 0 ∷ []
own_numbers (m.ref s (m.numeral o n)) = n ∷ []
own_numbers (m.ref s (m.name r x)) = 0 ∷ []
own_numbers (m.ref s (m.path p)) = 0 ∷ []
own_numbers _ = []

-- inner scopes are not entered
abbrev mutual
  pub numbers : Leaves → List ℕ
  numbers no_leaf = []
  numbers (l ▸ ls) = numbers_of l ++ numbers ls

  pub numbers_of : Leaf → List ℕ
  numbers_of (m.ref s (m.inline (row t ls))) = 0 ∷ numbers ls
  numbers_of (m.ref s (m.bundle (row t ls))) = 0 ∷ numbers ls
  numbers_of (m.present l) = numbers_of l
  numbers_of (m.node (row t ls)) = numbers ls
  numbers_of (m.nodes ns) = numbers_of_nodes ns
  numbers_of (m.scope s) = []
  numbers_of l = own_numbers l

  pub numbers_of_nodes : Nodes → List ℕ
  numbers_of_nodes no_node = []
  numbers_of_nodes (one_node (row t ls) ns) = numbers ls ++ numbers_of_nodes ns

abbrev pub event_numbers : Event → List ℕ
event_numbers (leaf l) = own_numbers l
event_numbers (inline s) = 0 ∷ []
event_numbers (bundle s) = 0 ∷ []
event_numbers _ = []

-- what is gathered, how much there is room for, and whether more came
pub record Gathered : Type 0 where
  pub numbers : List ℕ
  pub room : ℕ
  pub full : Bool

abbrev pub pushed : ℕ → Gathered → Gathered
pushed n g = cond (nat_lt (length g.numbers) g.room) (record { numbers = g.numbers ++ n ∷ []; room = g.room; full = g.full }) (record { numbers = g.numbers; room = g.room; full = true })

abbrev pub pushes : List ℕ → Gathered → Gathered
pushes [] g = g
pushes (n ∷ ns) g = pushes ns (pushed n g)

abbrev pub gather_step : Gathered → Event → Gathered
gather_step g e = pushes (event_numbers e) g
