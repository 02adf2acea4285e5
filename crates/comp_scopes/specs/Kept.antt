-- What a binary scope with its marks keeps of a text: all but ids and labels, how references are written, and core modules beyond their bytes.
use Rattle.std.specs.Prelude.{◌≡◌, ◌⊎◌, ℕ, Bool, true, ◌||◌, List, ◌∷◌, length, Option, Some, ⊤}
use Rattle.comp_model.specs.declared.Space.{Space}
use Rattle.comp_model.specs.declared.Space.TheVariants.{CoreType}
use Rattle.comp_model.specs.declared.row.Row.TheVariants as rows
use Rattle.comp_model.specs.declared.row.Row.{Row}
use Rattle.comp_model.specs.RowNumbers.{same_row}
use Rattle.comp_model.specs.Core.{Text, Id, Place, Reach, CoreValue, ref_numeral, ref_name}
use Rattle.comp_model.specs.Model.{Leaf, text, number, kind, core_value, ref, place, absent, present, node, nodes, case_id, result_ids, core_source, scope, Target, numeral, name, path, inline, bundle, Leaves, no_leaf, ◌▸◌, row, Nodes, no_node, one_node, Names, define, Defs, no_def, one_def, Scope, scope_of, kind_of, defs_of}
use Rattle.comp_model.specs.declared.row.ScopeKind.{ScopeKind}
use Rattle.comp_scopes.specs.Encoding.{Encoding}
use Rattle.comp_scopes.specs.Names.{Denoted, denotes}
use Rattle.comp_scopes.specs.Renders.{PlaceIs, reach_depth, IsLeafOf, LeavesAre, NodesAre}

-- two names denote the same part of the same definition
pub record SameItem (st su : List Scope) (s : Space) (r : Reach) (x : Id) (q : Reach) (y : Id) : Type 0 where
  pub first : Denoted
  pub second : Denoted
  pub first_denoted : denotes st s r x ≡ Some first
  pub second_denoted : denotes su s q y ≡ Some second
  pub same_depth : first.depth ≡ second.depth
  pub same_definition : first.item.definition ≡ second.item.definition
  pub same_part : first.item.part ≡ second.item.part

-- two names that count at one depth do
abbrev pub SameNames : List Scope → List Scope → Space → Reach → Id → Reach → Id → Type 0
SameNames st su s r x q y = (d : ℕ) → reach_depth st r ≡ Some d → reach_depth su q ≡ Some d → SameItem st su s r x q y

-- a numeral beside a reference that is a numeral too
abbrev pub BesideNumeral : ℕ → Target → Type 0
BesideNumeral n (numeral o i) = i ≡ n
BesideNumeral n _ = ⊤

abbrev pub BesideName : List Scope → List Scope → Space → Reach → Id → Target → Type 0
BesideName st su s r x (name q y) = SameNames st su s r x q y
BesideName st su s r x _ = ⊤

-- the first parts of two outer aliases are one depth
pub record SamePlace (st su : List Scope) (p q : Place) : Type 0 where
  pub depth : ℕ
  pub first : PlaceIs st p depth
  pub second : PlaceIs su q depth

-- a reference to a core type by a numeral, and by a name, of which the fact holds
pub record IsNumeralValue (b : Bool) (w : CoreValue) (Fact : ℕ → Type 0) : Type 0 where
  pub offset : ℕ
  pub number : ℕ
  pub is_value : w ≡ ref_numeral b offset number
  pub fact : Fact number

pub record IsNameValue (b : Bool) (w : CoreValue) (Fact : Reach → Id → Type 0) : Type 0 where
  pub reach : Reach
  pub id : Id
  pub is_value : w ≡ ref_name b reach id
  pub fact : Fact reach id

-- two core value types: equal, or references to core types that are equal in nullability
abbrev pub SameValue : List Scope → List Scope → CoreValue → CoreValue → Type 0
SameValue st su (ref_numeral b o n) w = IsNumeralValue b w (λ m. m ≡ n) ⊎ IsNameValue b w (λ q y. ⊤)
SameValue st su (ref_name b r x) w = IsNumeralValue b w (λ m. ⊤) ⊎ IsNameValue b w (λ q y. SameNames st su CoreType r x q y)
SameValue st su v w = w ≡ v

-- one row, with leaves that are the same
pub record SameRow (t v : Row) (Same : Type 0) : Type 0 where
  pub one_row : v ≡ t
  pub leaves : Same

-- a scope of this kind, of whose id, label and definitions the fact holds
pub record IsScopeOf (k : ScopeKind) (m : Leaf) (Fact : Option Id → Option Text → Defs → Type 0) : Type 0 where
  pub id : Option Id
  pub label : Option Text
  pub defs : Defs
  pub is_scope : m ≡ scope (scope_of k id label defs)
  pub fact : Fact id label defs

-- definitions, the first of which and the later ones meet these
pub record DefsAre (ds : Defs) (First : Row → Leaves → Type 0) (Later : Defs → Type 0) : Type 0 where
  pub names : Names
  pub of_row : Row
  pub leaves : Leaves
  pub later : Defs
  pub are : ds ≡ one_def (define names (row of_row leaves)) later
  pub first_fact : First of_row leaves
  pub later_fact : Later later

module _ (e : Encoding) where
  abbrev mutual
    pub SameLeaves : List Scope → List Scope → Leaves → Leaves → Type 0
    SameLeaves st su no_leaf ms = ms ≡ no_leaf
    SameLeaves st su (l ▸ ls) ms = LeavesAre ms (λ m. SameLeaf st su l m) (λ ns. SameLeaves st su ls ns)

    -- equal but for ids, references and core modules; a reference is one into the same space
    pub SameLeaf : List Scope → List Scope → Leaf → Leaf → Type 0
    SameLeaf st su (text t) m = m ≡ text t
    SameLeaf st su (number n) m = m ≡ number n
    SameLeaf st su (kind s) m = m ≡ kind s
    SameLeaf st su (core_value v) m = IsLeafOf m core_value (λ w. SameValue st su v w)
    SameLeaf st su (ref s (numeral o n)) m = IsLeafOf m (ref s) (λ u. BesideNumeral n u)
    SameLeaf st su (ref s (name r x)) m = IsLeafOf m (ref s) (λ u. BesideName st su s r x u)
    SameLeaf st su (ref s (path p)) m = IsLeafOf m (ref s) (λ u. ⊤)
    SameLeaf st su (ref s (inline (row t ls))) m = IsLeafOf m (ref s) (λ u. (v : Row) (ns : Leaves) → u ≡ inline (row v ns) → SameRow t v (SameLeaves st su ls ns))
    SameLeaf st su (ref s (bundle (row t ls))) m = IsLeafOf m (ref s) (λ u. (v : Row) (ns : Leaves) → u ≡ bundle (row v ns) → SameRow t v (SameLeaves st su ls ns))
    SameLeaf st su (place p) m = IsLeafOf m place (λ q. SamePlace st su p q)
    SameLeaf st su absent m = m ≡ absent
    SameLeaf st su (present l) m = IsLeafOf m present (λ n. SameLeaf st su l n)
    SameLeaf st su (node (row t ls)) m = IsLeafOf m (λ ns. node (row t ns)) (λ ns. SameLeaves st su ls ns)
    SameLeaf st su (nodes ns) m = IsLeafOf m nodes (λ ks. SameNodes st su ns ks)
    SameLeaf st su (case_id x) m = IsLeafOf m case_id (λ y. ⊤)
    SameLeaf st su (result_ids ids) m = IsLeafOf m result_ids (λ js. length js ≡ length ids)
    SameLeaf st su (core_source c) m = IsLeafOf m core_source (λ d. e.core_bytes d ≡ e.core_bytes c)
    SameLeaf st su (scope (scope_of k id label ds)) m = IsScopeOf k m (λ jd mabel fs. SameDefs (scope_of k id label ds ∷ st) (scope_of k jd mabel fs ∷ su) ds fs)
    SameLeaf st su l m = ⊥

    pub SameNodes : List Scope → List Scope → Nodes → Nodes → Type 0
    SameNodes st su no_node ks = ks ≡ no_node
    SameNodes st su (one_node (row t ls) ns) ks = NodesAre ks t (λ ms. SameLeaves st su ls ms) (λ js. SameNodes st su ns js)

    -- definition by definition, lists of producers and custom sections aside
    pub SameDefs : List Scope → List Scope → Defs → Defs → Type 0
    SameDefs st su no_def fs = fs ≡ no_def
    SameDefs st su (one_def (define names (row t ls)) ds) fs =
        DefsAre fs (λ v ms. ((same_row t rows.Producers || same_row v rows.Producers) ≡ true) ⊎ SameRow t v (SameLeaves st su ls ms)) (λ gs. SameDefs st su ds gs)

  -- two scopes of one kind with the same definitions
  pub record SameScope (st su : List Scope) (s r : Scope) : Type 0 where
    pub kind : kind_of r ≡ kind_of s
    pub defs : SameDefs (s ∷ st) (r ∷ su) (defs_of s) (defs_of r)
