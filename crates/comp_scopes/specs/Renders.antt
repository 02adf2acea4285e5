-- When a binary scope with its marks renders a scope of the text.
use Rattle.comp_scopes.specs.Rowed.{holds_scope}
use Rattle.std.specs.Prelude.{◌≡◌, false, ◌≢◌, ◌⊎◌, ℕ, zero, suc, ◌+◌, ◌<◌, cond, nat_eq, codes, IsTrue, List, [], ◌∷◌, ◌++◌, length, get_or, find, slice_get, Option, Some, None, ⊤}
use Rattle.comp_model.specs.declared.Space.{Space}
use Rattle.comp_model.specs.declared.Space.TheVariants.{CoreType}
use Rattle.comp_model.specs.Core.{Text, Id, Place, counted, named, Reach, outward, own, at_place, CoreValue, ref_index, ref_numeral, ref_name}
use Rattle.comp_model.specs.declared.row.Row.{Row}
use Rattle.comp_model.specs.Model.{Leaf, text, number, kind, core_value, ref, place, absent, present, node, nodes, case_id, result_ids, result_count, core_source, module_bytes, scope, Target, index, numeral, name, Path, root_number, root_name, export_of, path, inline, bundle, Leaves, no_leaf, ◌▸◌, Node, row, Nodes, no_node, one_node, define, Defs, no_def, one_def, Scope, scope_of, kind_of, id_of, label_of, defs_of}
use Rattle.comp_model.specs.Spaces.{Declaration, item_of}
use Rattle.comp_model.specs.Origins.{Origin, written, inline_type, bundle_of, inline_export, export_step, outer_alias_of, name_section, same_origin, Origins, no_origins, origin_then, Held, holds_none, holds}
use Rattle.comp_scopes.specs.Encoding.{Encoding}
use Rattle.comp_scopes.specs.Names.{Denoted, at_depth, denotes, depth_of, scope_named}
use Rattle.comp_scopes.specs.References.{references_leaf, references, steps, instance_space}
use Rattle.comp_model.specs.ItemNames.{has_names}
use Rattle.comp_scopes.specs.Form.{Made, make, binary_defs, export_node, step_node, custom_node, coded_node, built}

-- each definition of a binary scope beside its mark
abbrev pub placed : Defs → Origins → List Made
placed no_def os = []
placed (one_def (define names n) ds) no_origins = []
placed (one_def (define names n) ds) (origin_then o h os) = record { origin = o; held = h; made = n } ∷ placed ds os

-- one mark for each definition
abbrev pub OneEach : Defs → Origins → Type 0
OneEach no_def no_origins = ⊤
OneEach no_def (origin_then o h os) = ⊥
OneEach (one_def d ds) no_origins = ⊥
OneEach (one_def d ds) (origin_then o h os) = OneEach ds os

-- a condition on each of these definitions
abbrev pub AllMade : (Made → Type 0) → List Made → Type 0
AllMade P [] = ⊤
AllMade P (m ∷ ms) = P m × AllMade P ms

-- item i of a space
abbrev pub item : List Made → Space → ℕ → Option Declaration
item ms = item_of (binary_defs ms)

-- the binary scope at that depth
abbrev pub binary_at : List (List Made) → ℕ → List Made
binary_at bst d = get_or bst d []

-- the count and the index of an outer alias
abbrev pub alias_leaves : Leaves → Option (ℕ × ℕ)
alias_leaves (place (counted o c) ▸ ref s (index j) ▸ ls) = Some (c, j)
alias_leaves _ = None

-- the count and the index of the alias that a node is
abbrev pub alias_target : Node → Option (ℕ × ℕ)
alias_target (row t ls) = alias_leaves ls

-- the item that an outer alias leads to
abbrev pub leads_on : List (List Made) → ℕ → Space → Option (ℕ × ℕ) → Option Denoted
leads_on bst d s None = None
leads_on bst d s (Some t) = at_depth (d + t.0) (item (binary_at bst (d + t.0)) s t.1)

-- an item leads to itself, but for one of a generated outer alias
abbrev pub leads_by : List (List Made) → ℕ → Space → Declaration → Origin → Node → Option Denoted
leads_by bst d s x (outer_alias_of k u) n = leads_on bst d s (alias_target n)
leads_by bst d s x _ n = Some (record { depth = d; item = x })

-- the same, by the definition of the item
abbrev pub leads_from : List (List Made) → ℕ → Space → Declaration → Option Made → Option Denoted
leads_from bst d s x None = None
leads_from bst d s x (Some m) = leads_by bst d s x m.origin m.made

-- the same, by the item
abbrev pub leads_at : List (List Made) → ℕ → Space → Option Declaration → Option Denoted
leads_at bst d s None = None
leads_at bst d s (Some x) = leads_from bst d s x (slice_get (binary_at bst d) x.definition)

-- where index i leads, one step through a generated outer alias at most
abbrev pub leads : List (List Made) → ℕ → Space → ℕ → Option Denoted
leads bst d s i = leads_at bst d s (item (binary_at bst d) s i)

-- the depth at which the index of a name counts
abbrev pub reach_depth : List Scope → Reach → Option ℕ
reach_depth st outward = Some 0
reach_depth st own = Some 0
reach_depth st (at_place p) = depth_of st p

-- what the name denotes is written where the index leads
pub record LeadsTo (st : List Scope) (bst : List (List Made)) (s : Space) (r : Reach) (x : Id) (i : ℕ) : Type 0 where
  -- what the name denotes, and the item to which the index, counted at that depth, leads
  pub denoted : Denoted
  pub reached : Denoted
  pub depth : ℕ
  pub denotes_it : denotes st s r x ≡ Some denoted
  pub counts_there : reach_depth st r ≡ Some depth
  pub leads_there : leads bst depth s i ≡ Some reached
  -- they are one part of one definition, which is marked as written
  pub same_depth : reached.depth ≡ denoted.depth
  pub same_part : reached.item.part ≡ denoted.item.part
  pub found : Made
  pub stands : slice_get (binary_at bst reached.depth) reached.item.definition ≡ Some found
  pub is_written : found.origin ≡ written denoted.item.definition

-- the first part of an outer alias is this depth
abbrev pub PlaceIs : List Scope → Place → ℕ → Type 0
PlaceIs st (counted o d) n = n ≡ d
PlaceIs st (named o x) n = scope_named 0 st x ≡ Some n

-- the alias of an export name
abbrev pub IsStep : Origin → Type 0
IsStep (export_step k u s) = ⊤
IsStep _ = ⊥

-- index i of the space is the alias of an export name, of whose instance the fact holds
pub record StepThere (ms : List Made) (s : Space) (t : Text) (Fact : ℕ → Type 0) (i : ℕ) : Type 0 where
  pub declaration : Declaration
  pub found : Made
  pub index : ℕ
  pub declared : item ms s i ≡ Some declaration
  pub stands : slice_get ms declaration.definition ≡ Some found
  pub is_step : IsStep found.origin
  pub is_alias : found.made ≡ step_node index t s
  pub fact : Fact index

-- index i of the space is what the path leads to: its root, or the alias of its last export name, whose instance is the path before it
abbrev pub PathIs : List Scope → List (List Made) → Space → Path → ℕ → Type 0
PathIs st bst s (root_number o n) i = i ≡ n
PathIs st bst s (root_name x) i = LeadsTo st bst s own x i
PathIs st bst s (export_of p t) i = StepThere (binary_at bst 0) s t (λ j. PathIs st bst (instance_space s) p j) i

-- the mark of a bundle
abbrev pub IsBundle : Origin → Type 0
IsBundle (bundle_of k u) = ⊤
IsBundle _ = ⊥

-- a leaf of this sort, of whose part the fact holds
pub record IsLeafOf {A : Type 0} (l : Leaf) (sort : A → Leaf) (Fact : A → Type 0) : Type 0 where
  pub part : A
  pub is_leaf : l ≡ sort part
  pub fact : Fact part

-- a core value type: a numeral unchanged, a name by where it leads, all else equal
abbrev pub ValueAgrees : List Scope → List (List Made) → CoreValue → Leaf → Type 0
ValueAgrees st bst (ref_numeral n o i) b = b ≡ core_value (ref_index n i)
ValueAgrees st bst (ref_name n r x) b = IsLeafOf b (λ i. core_value (ref_index n i)) (λ i. LeadsTo st bst CoreType r x i)
ValueAgrees st bst (ref_index n i) b = ⊥
ValueAgrees st bst v b = b ≡ core_value v

-- ---- the marks

-- the marks `written`, in order, are those of the definitions from k on
abbrev pub written_of : Origin → List ℕ
written_of (written k) = k ∷ []
written_of _ = []

-- the numbers of the marks `written`, in order
abbrev pub written_in : List Made → List ℕ
written_in [] = []
written_in (m ∷ ms) = written_of m.origin ++ written_in ms

-- the numbers of these definitions
abbrev pub numbered : ℕ → Defs → List ℕ
numbered k no_def = []
numbered k (one_def d ds) = k ∷ numbered (k + 1) ds

-- no two marks are equal
abbrev pub MarksDistinct : List Made → Type 0
MarksDistinct [] = ⊤
MarksDistinct (m ∷ ms) = AllMade (λ n. m.origin ≢ n.origin) ms × MarksDistinct ms

-- inline export name j of definition k stands on an export of definition k, without description
pub record ExportStands (ms : List Made) (k j : ℕ) (x : Text) : Type 0 where
  pub position : ℕ
  pub space : Space
  pub index : ℕ
  pub stands : slice_get ms position ≡ Some (make (inline_export k j) (export_node x space index))
  -- the index is an item of that definition
  pub declaration : Declaration
  pub found : Made
  pub declared : item ms space index ≡ Some declaration
  pub found_there : slice_get ms declaration.definition ≡ Some found
  pub is_written : found.origin ≡ written k

-- each of the inline export names from j on
abbrev pub ExportsOfStand : List Made → ℕ → ℕ → List Text → Type 0
ExportsOfStand ms k j [] = ⊤
ExportsOfStand ms k j (x ∷ xs) = ExportStands ms k j x × ExportsOfStand ms k (j + 1) xs

-- each inline export name of each definition
abbrev pub ExportsStand : List Made → ℕ → Defs → Type 0
ExportsStand ms k no_def = ⊤
ExportsStand ms k (one_def (define names n) ds) = ExportsOfStand ms k 0 names.exports × ExportsStand ms (k + 1) ds

-- the inline export names of definition k
abbrev pub exports_at : Defs → ℕ → List Text
exports_at no_def k = []
exports_at (one_def (define names n) ds) zero = names.exports
exports_at (one_def (define names n) ds) (suc k) = exports_at ds k

-- there are no other marks of inline exports
abbrev pub ExportNamed : Defs → Origin → Type 0
ExportNamed ds (inline_export k j) = j < length (exports_at ds k)
ExportNamed ds _ = ⊤

-- use(k, u): reference u of definition k, with the index that stands for it in the binary
pub record Use : Type 0 where
  pub definition : ℕ
  pub reference : ℕ
  pub space : Space
  pub target : Target
  pub index : ℕ

-- the leaves of a node
abbrev pub leaves_of_node : Node → Leaves
leaves_of_node (row t bs) = bs

-- the index in a leaf that holds one
abbrev pub index_in : Leaf → ℕ
index_in (ref s (index i)) = i
index_in (core_value (ref_index b i)) = i
index_in _ = 0

-- what an optional leaf holds
abbrev pub present_in : Leaf → Leaf
present_in (present b) = b
present_in _ = absent

-- the leaves of a node that is a leaf
abbrev pub leaves_in : Leaf → Leaves
leaves_in (node (row t bs)) = bs
leaves_in _ = no_leaf

-- the entries of a list that is a leaf
abbrev pub nodes_in : Leaf → Nodes
nodes_in (nodes ns) = ns
nodes_in _ = no_node

-- the first leaf, and the others
abbrev pub first_leaf : Leaves → Leaf
first_leaf no_leaf = absent
first_leaf (b ▸ bs) = b

abbrev pub later_leaves : Leaves → Leaves
later_leaves no_leaf = no_leaf
later_leaves (b ▸ bs) = bs

-- the leaves of the first entry, and the other entries
abbrev pub first_leaves : Nodes → Leaves
first_leaves no_node = no_leaf
first_leaves (one_node (row t bs) ns) = bs

abbrev pub later_nodes : Nodes → Nodes
later_nodes no_node = no_node
later_nodes (one_node n ns) = ns

-- the leaves of a definition
abbrev pub leaves_of_made : Option Made → Leaves
leaves_of_made None = no_leaf
leaves_of_made (Some m) = leaves_of_node m.made

-- the leaves of the definition that declares an item
abbrev pub leaves_of_item : List Made → Option Declaration → Leaves
leaves_of_item ms None = no_leaf
leaves_of_item ms (Some d) = leaves_of_made (slice_get ms d.definition)

-- a use by its parts, with the index in the binary leaf
abbrev pub one_use : ℕ → ℕ → Space → Target → Leaf → Use
one_use k u s t b = record { definition = k; reference = u; space = s; target = t; index = index_in b }

-- the uses in leaves of definition k, from reference u on, beside the binary leaves that stand for them
abbrev mutual
  pub uses_in : List Made → ℕ → ℕ → Leaves → Leaves → List Use
  uses_in ms k u no_leaf bs = []
  uses_in ms k u (l ▸ ls) bs = uses_at ms k u l (first_leaf bs) ++ uses_in ms k (u + references_leaf l) ls (later_leaves bs)

  pub uses_at : List Made → ℕ → ℕ → Leaf → Leaf → List Use
  uses_at ms k u (core_value (ref_numeral n o i)) b = one_use k u CoreType (numeral o i) b ∷ []
  uses_at ms k u (core_value (ref_name n r x)) b = one_use k u CoreType (name r x) b ∷ []
  uses_at ms k u (ref s (numeral o n)) b = one_use k u s (numeral o n) b ∷ []
  uses_at ms k u (ref s (name r x)) b = one_use k u s (name r x) b ∷ []
  uses_at ms k u (ref s (path p)) b = one_use k u s (path p) b ∷ []
  uses_at ms k u (ref s (inline (row t ls))) b = one_use k u s (inline (row t ls)) b ∷ uses_in ms k (u + 1) ls (leaves_of_item ms (item ms s (index_in b)))
  uses_at ms k u (ref s (bundle (row t ls))) b = one_use k u s (bundle (row t ls)) b ∷ uses_in ms k (u + 1) ls (leaves_of_item ms (item ms s (index_in b)))
  uses_at ms k u (present l) b = uses_at ms k u l (present_in b)
  uses_at ms k u (node (row t ls)) b = uses_in ms k u ls (leaves_in b)
  uses_at ms k u (nodes ns) b = uses_of_nodes ms k u ns (nodes_in b)
  uses_at ms k u _ b = []

  pub uses_of_nodes : List Made → ℕ → ℕ → Nodes → Nodes → List Use
  uses_of_nodes ms k u no_node bs = []
  uses_of_nodes ms k u (one_node (row t ls) ns) bs = uses_in ms k u ls (first_leaves bs) ++ uses_of_nodes ms k (u + references ls) ns (later_nodes bs)

-- the uses in all definitions, the first of which has number k
abbrev pub uses_from : List Made → ℕ → Defs → List Use
uses_from ms k no_def = []
uses_from ms k (one_def (define names (row t ls)) ds) = uses_in ms k 0 ls (leaves_of_made (find (λ m. same_origin (written k) m.origin) ms)) ++ uses_from ms (k + 1) ds

-- among the uses stands reference u of definition k
pub record UseOf (us : List Use) (k u : ℕ) (x : Use) : Type 0 where
  pub position : ℕ
  pub stands : slice_get us position ≡ Some x
  pub of_definition : x.definition ≡ k
  pub of_reference : x.reference ≡ u

-- the export name of number i along a path, with the space of what it leads to
abbrev pub step_at : Space → Path → ℕ → Option (Space × Text)
step_at s (root_number o n) i = None
step_at s (root_name x) i = None
step_at s (export_of p t) i = cond (nat_eq i (steps p)) (Some (s, t)) (step_at (instance_space s) p i)

-- In what follows `This s i` says that index i of the space is this definition.

-- reference u of definition k asks for a target of this sort, and its index is this definition
pub record AskedFor {A : Type 0} (This : Space → ℕ → Type 0) (us : List Use) (k u : ℕ) (sort : A → Target) : Type 0 where
  pub asker : Use
  pub part : A
  pub stands : UseOf us k u asker
  pub asks : asker.target ≡ sort part
  pub is_this : This asker.space asker.index

-- step i is the last of the path, and the index of what asks for it is this definition
pub record LastStep (This : Space → ℕ → Type 0) (i : ℕ) (whole : Path) (asker : Use) : Type 0 where
  pub last : i + 1 ≡ steps whole
  pub is_this : This asker.space asker.index

-- the alias of the step behind step i has this definition for its instance
pub record NextStep (This : Space → ℕ → Type 0) (ms : List Made) (k u i : ℕ) : Type 0 where
  pub position : ℕ
  pub space : Space
  pub name : Text
  pub index : ℕ
  pub stands : slice_get ms position ≡ Some (make (export_step k u (i + 1)) (step_node index name space))
  pub is_this : This (instance_space space) index

-- reference u of definition k is a path, of whose export name i this definition is the alias
pub record StepStands (This : Space → ℕ → Type 0) (ms : List Made) (us : List Use) (k u i : ℕ) (n : Node) : Type 0 where
  pub asker : Use
  pub whole : Path
  pub space : Space
  pub name : Text
  pub index : ℕ
  pub stands : UseOf us k u asker
  pub asks : asker.target ≡ path whole
  pub is_step : step_at asker.space whole i ≡ Some (space, name)
  pub is_alias : n ≡ step_node index name space
  pub leads_on : LastStep This i whole asker ⊎ NextStep This ms k u i

-- each mark but those of written definitions, inline exports and the name section has its use, whose index is this definition
abbrev pub OriginStands : (Space → ℕ → Type 0) → List Made → List Use → Origin → Node → Type 0
OriginStands This ms us (written k) n = ⊤
OriginStands This ms us (inline_type k u) n = AskedFor This us k u inline
OriginStands This ms us (bundle_of k u) n = AskedFor This us k u bundle
OriginStands This ms us (inline_export k j) n = ⊤
OriginStands This ms us (export_step k u i) n = StepStands This ms us k u i n
OriginStands This ms us (outer_alias_of k u) n = AskedFor This us k u (λ x. name outward x)
OriginStands This ms us name_section n = ⊤

-- index i of the space is the definition at p
pub record Gives (ms : List Made) (p : ℕ) (s : Space) (i : ℕ) : Type 0 where
  pub declaration : Declaration
  pub declared : item ms s i ≡ Some declaration
  pub is_there : declaration.definition ≡ p

-- each definition of the binary stands as its mark says
abbrev pub EachUsed : Defs → List Made → Type 0
EachUsed ds ms = (p : ℕ) (m : Made) → slice_get ms p ≡ Some m → OriginStands (Gives ms p) ms (uses_from ms 0 ds) m.origin m.made

-- the name section is last, in a component where a name stands
pub record IsNameSection (s : Scope) (rest : List Made) (n : Node) : Type 0 where
  pub is_last : rest ≡ []
  pub named : IsTrue (has_names s)
  pub payload : Text
  pub is_custom : n ≡ custom_node (codes "component-name") payload

abbrev pub NameStands : Scope → List Made → Node → Origin → Type 0
NameStands s rest n name_section = IsNameSection s rest n
NameStands s rest n _ = ⊤

-- nothing stands behind a name section
abbrev pub NamesLast : Scope → List Made → Type 0
NamesLast s [] = ⊤
NamesLast s (m ∷ ms) = NameStands s ms m.made m.origin × NamesLast s ms

-- the marks of a scope stand with a definition that holds one
abbrev pub HeldByScope : Made → Type 0
HeldByScope m = holds_scope (leaves_of_node m.made) ≡ false → m.held ≡ holds_none

-- what the marks alone say of a scope with these definitions
pub record MarksRender (s : Scope) (ds : Defs) (ms : List Made) : Type 0 where
  -- the written definitions are marked once, in order, and no two marks are equal
  pub written : written_in ms ≡ numbered 0 ds
  pub distinct : MarksDistinct ms
  -- each inline export has its definition, and no other is marked as one
  pub exported : ExportsStand ms 0 ds
  pub named : AllMade (λ m. ExportNamed ds m.origin) ms
  -- what is generated is used, the name section is last, and no marks are held beside a definition without a scope
  pub used : EachUsed ds ms
  pub last : NamesLast s ms
  pub held : AllMade HeldByScope ms

-- ---- what the nodes say: each part with the fact that is asked of it

-- leaves, the first of which and the later ones meet these
pub record LeavesAre (ls : Leaves) (First : Leaf → Type 0) (Later : Leaves → Type 0) : Type 0 where
  pub first : Leaf
  pub later : Leaves
  pub are : ls ≡ first ▸ later
  pub first_fact : First first
  pub later_fact : Later later

-- nodes, the first of which has this row
pub record NodesAre (ns : Nodes) (t : Row) (First : Leaves → Type 0) (Later : Nodes → Type 0) : Type 0 where
  pub first : Leaves
  pub later : Nodes
  pub are : ns ≡ one_node (row t first) later
  pub first_fact : First first
  pub later_fact : Later later

-- index i of the space is an item of a definition with this row, whose mark, and whose leaves under the marks that it holds, meet these
pub record RowThere (ms : List Made) (s : Space) (t : Row) (IsMarked : Origin → Type 0) (Fact : Held → Leaves → Type 0) (i : ℕ) : Type 0 where
  pub declaration : Declaration
  pub found : Made
  pub leaves : Leaves
  pub declared : item ms s i ≡ Some declaration
  pub stands : slice_get ms declaration.definition ≡ Some found
  pub is_marked : IsMarked found.origin
  pub has_row : found.made ≡ row t leaves
  pub fact : Fact found.held leaves

-- definition k is written, with such a node; of its position, the marks that it holds and its leaves the fact holds
pub record WrittenThere (ms : List Made) (k : ℕ) (node_of : Leaves → Node) (Fact : ℕ → Held → Leaves → Type 0) : Type 0 where
  pub position : ℕ
  pub held : Held
  pub leaves : Leaves
  pub stands : slice_get ms position ≡ Some (record { origin = written k; held = held; made = node_of leaves })
  pub fact : Fact position held leaves

-- a scope of the same kind, whose marks h holds
pub record ScopeThere (s : Scope) (h : Held) (b : Leaf) (Fact : List Made → Type 0) : Type 0 where
  pub defs : Defs
  pub origins : Origins
  pub is_scope : b ≡ scope (scope_of (kind_of s) None None defs)
  pub is_held : h ≡ holds origins
  pub marked : OneEach defs origins
  pub marks : MarksRender s (defs_of s) (placed defs origins)
  pub fact : Fact (placed defs origins)

module _ (e : Encoding) where
  abbrev mutual
    -- each definition has its mark, and its node agrees
    pub DefsRender : List Scope → List (List Made) → ℕ → Defs → Type 0
    DefsRender st bst k no_def = ⊤
    DefsRender st bst k (one_def (define names (row t ls)) ds) = WrittenThere (binary_at bst 0) k (coded_node e t ls) (λ p h bs. LeavesAgree st bst h ls bs) × DefsRender st bst (k + 1) ds

    -- the binary leaves, in a definition that holds a scope with marks h, agree with the leaves
    pub LeavesAgree : List Scope → List (List Made) → Held → Leaves → Leaves → Type 0
    LeavesAgree st bst h no_leaf bs = bs ≡ no_leaf
    LeavesAgree st bst h (l ▸ ls) bs = LeavesAre bs (λ b. LeafAgrees st bst h l b) (λ cs. LeavesAgree st bst h ls cs)

    pub LeafAgrees : List Scope → List (List Made) → Held → Leaf → Leaf → Type 0
    LeafAgrees st bst h (text t) b = b ≡ text t
    LeafAgrees st bst h (number n) b = b ≡ number n
    LeafAgrees st bst h (kind s) b = b ≡ kind s
    LeafAgrees st bst h (core_value v) b = ValueAgrees st bst v b
    LeafAgrees st bst h (ref s (numeral o n)) b = b ≡ ref s (index n)
    LeafAgrees st bst h (ref s (name r x)) b = IsLeafOf b (λ i. ref s (index i)) (λ i. LeadsTo st bst s r x i)
    LeafAgrees st bst h (ref s (path p)) b = IsLeafOf b (λ i. ref s (index i)) (λ i. PathIs st bst s p i)
    LeafAgrees st bst h (ref s (inline (row t ls))) b = IsLeafOf b (λ i. ref s (index i)) (λ i. RowThere (binary_at bst 0) s t (λ o. ⊤) (λ g bs. LeavesAgree st bst g ls bs) i)
    LeafAgrees st bst h (ref s (bundle (row t ls))) b = IsLeafOf b (λ i. ref s (index i)) (λ i. RowThere (binary_at bst 0) s t IsBundle (λ g bs. LeavesAgree st bst g ls bs) i)
    LeafAgrees st bst h (ref s (index i)) b = ⊥
    LeafAgrees st bst h (place p) b = IsLeafOf b (λ d. place (counted 0 d)) (λ d. PlaceIs st p d)
    LeafAgrees st bst h absent b = b ≡ absent
    LeafAgrees st bst h (present l) b = IsLeafOf b present (λ c. LeafAgrees st bst h l c)
    LeafAgrees st bst h (node (row t ls)) b = IsLeafOf b (λ bs. node (row t bs)) (λ bs. LeavesAgree st bst h ls bs)
    LeafAgrees st bst h (nodes ns) b = IsLeafOf b nodes (λ ks. NodesAgree st bst h ns ks)
    LeafAgrees st bst h (case_id x) b = b ≡ case_id None
    LeafAgrees st bst h (result_ids ids) b = b ≡ result_count (length ids)
    LeafAgrees st bst h (result_count n) b = ⊥
    LeafAgrees st bst h (core_source c) b = b ≡ module_bytes (e.core_bytes c)
    LeafAgrees st bst h (module_bytes bs) b = ⊥
    LeafAgrees st bst h (scope (scope_of k id label ds)) b = ScopeThere (scope_of k id label ds) h b (λ ms. DefsRender (scope_of k id label ds ∷ st) (ms ∷ bst) 0 ds)

    pub NodesAgree : List Scope → List (List Made) → Held → Nodes → Nodes → Type 0
    NodesAgree st bst h no_node bs = bs ≡ no_node
    NodesAgree st bst h (one_node (row t ls) ns) bs = NodesAre bs t (λ cs. LeavesAgree st bst h ls cs) (λ ks. NodesAgree st bst h ns ks)

  -- a binary scope with marks renders a scope that stands in `st`, where the scopes around it stand in `bst`
  pub record Renders (st : List Scope) (bst : List (List Made)) (s b : Scope) (os : Origins) : Type 0 where
    pub kind : kind_of b ≡ kind_of s
    pub id : id_of b ≡ None
    pub label : label_of b ≡ None
    pub marked : OneEach (defs_of b) os
    pub marks : MarksRender s (defs_of s) (placed (defs_of b) os)
    pub defs : DefsRender (s ∷ st) (placed (defs_of b) os ∷ bst) 0 (defs_of s)

  -- the forms of the scopes of a stack, with their marks
  abbrev pub built_stack : List Scope → List (List Made)
  built_stack [] = []
  built_stack (s ∷ st) = built e st s ∷ built_stack st
