-- By what a type is looked up among those of its scope: a list of parts, as long as its own leaves are, in which a number stands for each
-- inline type. Offsets are no part of it.
use Rattle.std.specs.Prelude.{ℕ, ◌+◌, Bool, true, false, ◌&&◌, nat_eq, bytes_eq, cond, List, [], ◌∷◌, Option, Some, None, option_map, IsSome, ⊤, ◌≡◌}
use Rattle.comp_model.specs.declared.row.Row.{Row}
use Rattle.comp_model.specs.RowNumbers.{same_row, row_number}
use Rattle.comp_model.specs.Core.{Text, Id, counted, named, Reach, outward, own, at_place}
use Rattle.comp_model.specs.Model.{Leaf, text, number, ref, absent, present, nodes, case_id, Target, numeral, name, path, inline, Path, root_number, root_name, export_of, Leaves, no_leaf, ◌▸◌, row, Nodes, no_node, one_node}
use Rattle.comp_model.specs.Spaces.{code_of_space}
use Rattle.comp_scopes.specs.Reused.{is_shared, same_leaves, Typed}

-- how far a name is looked for
pub data KeyReach : Type 0 where
  reach_outward : KeyReach
  reach_own : KeyReach
  reach_counted : ℕ → KeyReach
  reach_named : Text → ℕ → KeyReach

-- the id of a case
pub data KeyCase : Type 0 where
  no_case : KeyCase
  case_named : Text → ℕ → KeyCase

-- a part of a key: a row and a space by their numbers, an id by its name and its number, an inline type by the number of the first type
-- that is equal
pub data Part : Type 0 where
  part_other : Part
  part_end : Part
  part_row : ℕ → Part
  part_text : Text → Part
  part_number : ℕ → Part
  part_absent : Part
  part_present : Part
  part_nodes : Part
  part_case : KeyCase → Part
  part_space : ℕ → Part
  part_numeral : ℕ → Part
  part_name : KeyReach → Text → ℕ → Part
  part_root : ℕ → Part
  part_root_name : Text → ℕ → Part
  part_export : Text → Part
  part_type : Option ℕ → Part

abbrev pub same_key_reach : KeyReach → KeyReach → Bool
same_key_reach reach_outward reach_outward = true
same_key_reach reach_own reach_own = true
same_key_reach (reach_counted n) (reach_counted m) = nat_eq n m
same_key_reach (reach_named t n) (reach_named v m) = bytes_eq t v && nat_eq n m
same_key_reach _ _ = false

abbrev pub same_key_case : KeyCase → KeyCase → Bool
same_key_case no_case no_case = true
same_key_case (case_named t n) (case_named v m) = bytes_eq t v && nat_eq n m
same_key_case _ _ = false

-- the same type, if both are there
abbrev pub same_type : Option ℕ → Option ℕ → Bool
same_type (Some n) (Some m) = nat_eq n m
same_type _ _ = false

-- equality of parts; what no shared type has is equal to none
abbrev pub same_part : Part → Part → Bool
same_part part_end part_end = true
same_part (part_row n) (part_row m) = nat_eq n m
same_part (part_text t) (part_text v) = bytes_eq t v
same_part (part_number n) (part_number m) = nat_eq n m
same_part part_absent part_absent = true
same_part part_present part_present = true
same_part part_nodes part_nodes = true
same_part (part_case x) (part_case y) = same_key_case x y
same_part (part_space n) (part_space m) = nat_eq n m
same_part (part_numeral n) (part_numeral m) = nat_eq n m
same_part (part_name r t n) (part_name q v m) = same_key_reach r q && (bytes_eq t v && nat_eq n m)
same_part (part_root n) (part_root m) = nat_eq n m
same_part (part_root_name t n) (part_root_name v m) = bytes_eq t v && nat_eq n m
same_part (part_export t) (part_export v) = bytes_eq t v
same_part (part_type a) (part_type b) = same_type a b
same_part _ _ = false

abbrev pub same_parts : List Part → List Part → Bool
same_parts [] [] = true
same_parts (x ∷ xs) (y ∷ ys) = same_part x y && same_parts xs ys
same_parts _ _ = false

-- the number, among these types, of the first that is equal
abbrev pub first_equal : Row → Leaves → List Typed → Option ℕ
first_equal t ls [] = None
first_equal t ls (x ∷ xs) = cond (same_row t x.tag && same_leaves ls x.leaves) (Some 0) (option_map (λ n. n + 1) (first_equal t ls xs))

-- the number that stands for an inline node in a key
abbrev pub stands_for : List Typed → Row → Leaves → Option ℕ
stands_for xs t ls = cond (is_shared t) (first_equal t ls xs) None

abbrev pub key_reach : Reach → KeyReach
key_reach outward = reach_outward
key_reach own = reach_own
key_reach (at_place (counted o n)) = reach_counted n
key_reach (at_place (named o x)) = reach_named x.name x.number

abbrev pub key_case : Option Id → KeyCase
key_case None = no_case
key_case (Some x) = case_named x.name x.number

-- a path, the outermost step first
abbrev pub path_key : Path → List Part → List Part
path_key (root_number o n) r = part_root n ∷ r
path_key (root_name x) r = part_root_name x.name x.number ∷ r
path_key (export_of p t) r = part_export t ∷ path_key p r

abbrev pub target_key : List Typed → Target → List Part → List Part
target_key xs (numeral o n) r = part_numeral n ∷ r
target_key xs (name q x) r = part_name (key_reach q) x.name x.number ∷ r
target_key xs (path p) r = path_key p r
target_key xs (inline (row t ls)) r = part_type (stands_for xs t ls) ∷ r
target_key xs _ r = part_other ∷ r

-- `xs` are the types that have been passed, `r` is the rest of the key
abbrev mutual
  pub leaves_key : List Typed → Leaves → List Part → List Part
  leaves_key xs no_leaf r = part_end ∷ r
  leaves_key xs (l ▸ ls) r = leaf_key xs l (leaves_key xs ls r)

  pub leaf_key : List Typed → Leaf → List Part → List Part
  leaf_key xs (text t) r = part_text t ∷ r
  leaf_key xs (number n) r = part_number n ∷ r
  leaf_key xs (ref s t) r = part_space (code_of_space s) ∷ target_key xs t r
  leaf_key xs absent r = part_absent ∷ r
  leaf_key xs (present l) r = part_present ∷ leaf_key xs l r
  leaf_key xs (nodes ns) r = part_nodes ∷ nodes_key xs ns r
  leaf_key xs (case_id x) r = part_case (key_case x) ∷ r
  leaf_key xs _ r = part_other ∷ r

  pub nodes_key : List Typed → Nodes → List Part → List Part
  nodes_key xs no_node r = part_end ∷ r
  nodes_key xs (one_node (row t ls) ns) r = part_row (row_number t) ∷ leaves_key xs ls (nodes_key xs ns r)

-- the key of a type
abbrev pub type_key : List Typed → Row → Leaves → List Part
type_key xs t ls = part_row (row_number t) ∷ leaves_key xs ls []

-- the number of the first key that is equal
abbrev pub first_key : List Part → List (List Part) → Option ℕ
first_key k [] = None
first_key k (q ∷ qs) = cond (same_parts k q) (Some 0) (option_map (λ n. n + 1) (first_key k qs))

-- the keys of types
abbrev pub keys : List Typed → List Typed → List (List Part)
keys xs [] = []
keys xs (y ∷ ys) = type_key xs y.tag y.leaves ∷ keys xs ys

-- ---- the types that stand inline in a type have been passed, if they are equal to any

abbrev pub TargetPassed : List Typed → Target → Type 0
TargetPassed xs (inline (row t ls)) = is_shared t ≡ true → (same_row t t && same_leaves ls ls) ≡ true → IsSome (first_equal t ls xs)
TargetPassed xs t = ⊤

abbrev mutual
  pub LeavesPassed : List Typed → Leaves → Type 0
  LeavesPassed xs no_leaf = ⊤
  LeavesPassed xs (l ▸ ls) = LeafPassed xs l × LeavesPassed xs ls

  pub LeafPassed : List Typed → Leaf → Type 0
  LeafPassed xs (ref s t) = TargetPassed xs t
  LeafPassed xs (present l) = LeafPassed xs l
  LeafPassed xs (nodes ns) = NodesPassed xs ns
  LeafPassed xs l = ⊤

  pub NodesPassed : List Typed → Nodes → Type 0
  NodesPassed xs no_node = ⊤
  NodesPassed xs (one_node (row t ls) ns) = LeavesPassed xs ls × NodesPassed xs ns

abbrev pub AllPassed : List Typed → List Typed → Type 0
AllPassed xs [] = ⊤
AllPassed xs (y ∷ ys) = LeavesPassed xs y.leaves × AllPassed xs ys
