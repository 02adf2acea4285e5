-- The test of whether a component can be written is exact, by induction on the model.
use Rattle.std.proofs.Common.{◌≡◌, ℕ, zero, suc, ◌<◌, ◌^◌, List, [], ◌∷◌, length, refl, sym, ◌∙◌, ap, subst, arith, Bool, true, false, ◌&&◌, ◌||◌, ◌⊎◌, inl, inr, Option, Some, None, lit<, IsTrue, ◌↔◌}
use Rattle.std.specs.List.{list_any}
use Rattle.std.specs.Prelude.{◌==◌, nat_lt, nat_le}
use Rattle.std.proofs.lemmas.Bool.{lt-ltb, ltb-true, le-leb, leb-true, eq-eqb, eqb-true}
use Rattle.comp_model.specs.declared.Space.{Space}
use Rattle.comp_model.specs.declared.Space.TheVariants.{CoreFunc, Func, Value, Ty, Component, Instance}
use Rattle.comp_model.specs.Spaces.{same_space, all_spaces, space_in, code_of_space}
use Rattle.comp_model.specs.Rows.{is_primitive_code}
use Rattle.comp_model.proofs.Tests.{same_space-true, same_space-refl}
use Rattle.comp_model.specs.Core as c
use Rattle.comp_model.specs.Core.{Id, CoreValue, Place}
use Rattle.comp_model.specs.Model as m
use Rattle.comp_model.specs.declared.row.ScopeKind.TheVariants as kinds
use Rattle.comp_model.specs.Model.{Leaf, Leaves, no_leaf, ◌▸◌, Node, row, Nodes, no_node, one_node, Names, nameless_at, no_names, Def, define, Defs, no_def, one_def, Scope, scope_of, Target, count_nodes, count_defs}
use Rattle.comp_model.specs.declared.row.ScopeKind.{ScopeKind}
use Rattle.comp_wire.specs.Table as t
use Rattle.comp_wire.specs.Table.{Family, Field, Piece, byte, leaf, limits, outer, Line, lines}
use Rattle.comp_wire.specs.Sections.{Group, body, section_of, rows_of, groups, EachShort, Word}
use Rattle.comp_wire.specs.Spelled.{find, declarations_of, items_of, IsPrimitive, IsCoreSpace, FitsCore, FitsPlace, fits_at, FitsOuter, FitsPieces, FitsLine, FitsLeaf, fits_leaves, FitsNode, FitsNodes, FitsItem, FitsDeclaration, FitsDefinition, FitsDeclarations, FitsDefinitions, FitsTypeScope, FitsSections}
use Rattle.comp_wire.specs.Fits.{is_word, is_core_space, core_fits, place_fits, is_none, is_empty, has_no_names, code_of_kind, test_at, outer_fits_in, outer_fits, pieces_fit, line_fits, each_short, leaf_fits, leaf_tests, node_fits, nodes_fit, item_fits, declaration_fits, definition_fits, declarations_fit, definitions_fit, type_scope_fits, fits}
use Rattle.comp_wire.proofs.Groups.{and_both}

-- a test that is true exactly where a fact holds
pub record Decides (b : Bool) (P : Type 0) : Type 0 where
  pub holds : b ≡ true → P
  pub passes : P → b ≡ true

pub both : (a b : Bool) → a ≡ true → b ≡ true → (a && b) ≡ true
both true b e f = f
both false b e f = cc

pub either : (a b : Bool) → (a || b) ≡ true → (a ≡ true) ⊎ (b ≡ true)
either true b e = inl refl
either false b e = inr e

left : (a b : Bool) → a ≡ true → (a || b) ≡ true
left true b e = refl
left false b e = cc

pub right : (a b : Bool) → b ≡ true → (a || b) ≡ true
right true b e = refl
right false b e = e

always : Decides true (Unit {0})
always = record { holds = λ e. tt; passes = λ p. refl }

never : Decides false ⊥
never = record { holds = λ e. cc; passes = λ p. absurd p }

module _ (a b : Bool) (P Q : Type 0) where
  two : Decides a P → Decides b Q → Decides (a && b) (P × Q)
  two p q = record { holds = λ e. (let s = and_both a b e in (p.holds s.0, q.holds s.1)); passes = λ x. both a b (p.passes x.0) (q.passes x.1) }

module _ (a b d : Bool) (P Q R : Type 0) where
  three : Decides a P → Decides b Q → Decides d R → Decides (a && (b && d)) (P × Q × R)
  three p q r = record {
    holds = λ e. (let s = and_both a (b && d) e in let u = and_both b d s.1 in (p.holds s.0, q.holds u.0, r.holds u.1));
    passes = λ x. both a (b && d) (p.passes x.0) (both b d (q.passes x.1) (r.passes x.2));
  }

module _ (a b d f g : Bool) (P Q R S U : Type 0) where
  five : Decides a P → Decides b Q → Decides d R → Decides f S → Decides g U → Decides (a && (b && (d && (f && g)))) (P × Q × R × S × U)
  five p q r s u = record {
    holds = λ e. (
        let v = and_both a (b && (d && (f && g))) e in let w = and_both b (d && (f && g)) v.1 in let x = and_both d (f && g) w.1 in let y = and_both f g x.1 in
        (p.holds v.0, q.holds w.0, r.holds x.0, s.holds y.0, u.holds y.1)
        );
    passes = λ x. both a (b && (d && (f && g))) (p.passes x.0) (both b (d && (f && g)) (q.passes x.1) (both d (f && g) (r.passes x.2) (both f g (s.passes x.3) (u.passes x.4))));
  }

pub word : (n : ℕ) → Decides (is_word n) (Word n)
word n = record { holds = ltb-true n (2 ^ 32); passes = lt-ltb n (2 ^ 32) }

pub below_two : (n : ℕ) → Decides (nat_lt n 2) (n < 2)
below_two n = record { holds = ltb-true n 2; passes = lt-ltb n 2 }

equal : (n k : ℕ) → Decides (n == k) (n ≡ k)
equal n k = record { holds = eqb-true n k; passes = eq-eqb n k }

pub primitive : (n : ℕ) → Decides (is_primitive_code n) (IsPrimitive n)
primitive n = record { holds = from; passes = to }
  where
    from : is_primitive_code n ≡ true → IsPrimitive n
    from e = elim (either (n == 0x64) _ e) [ inl h ↦ inl (eqb-true n 0x64 h) | inr h ↦ let s = and_both (nat_le 0x73 n) _ h in inr (leb-true 0x73 n s.0, leb-true n 0x7f s.1) ]

    to : IsPrimitive n → is_primitive_code n ≡ true
    to (inl h) = left (n == 0x64) _ (eq-eqb n 0x64 h)
    to (inr h) = right (n == 0x64) _ (both (nat_le 0x73 n) _ (le-leb 0x73 n h.0) (le-leb n 0x7f h.1))

core_space : (s : Space) → Decides (is_core_space s) (IsCoreSpace s)
core_space Func = never
core_space Value = never
core_space Ty = never
core_space Component = never
core_space Instance = never
core_space _ = always

space : (s u : Space) → Decides (same_space s u) (s ≡ u)
space s u = record { holds = same_space-true s u; passes = λ e. subst (λ x. same_space s x ≡ true) e (same_space-refl s) }

core : (v : CoreValue) → Decides (core_fits v) (FitsCore v)
core (c.ref_index b i) = word i
core (c.ref_numeral b o n) = never
core (c.ref_name b r x) = never
core c.other_value = never
core _ = always

place : (p : Place) → Decides (place_fits p) (FitsPlace p)
place (c.counted o n) = two _ _ _ _ (equal o 0) (word n)
place (c.named o x) = never

none : {A : Type 0} (x : Option A) → Decides (is_none x) (x ≡ None)
none None = record { holds = λ e. refl; passes = λ e. refl }
none (Some x) = record { holds = λ e. cc; passes = λ e. cc }

empty : {A : Type 0} (xs : List A) → Decides (is_empty xs) (xs ≡ [])
empty [] = record { holds = λ e. refl; passes = λ e. refl }
empty (x ∷ xs) = record { holds = λ e. cc; passes = λ e. cc }

names : (w : Names) → Decides (has_no_names w) (w ≡ no_names)
names w = record {
  holds = λ e. (
      let s = and_both (is_empty w.ids) _ e in let u = and_both (is_empty w.labels) _ s.1 in let v = and_both (is_empty w.exports) _ u.1 in
      same w ((empty w.ids).holds s.0) ((empty w.labels).holds u.0) ((empty w.exports).holds v.0) (eqb-true w.offset 0 v.1)
      );
  passes = λ e. subst (λ x. has_no_names x ≡ true) (sym e) refl;
}
  where
    same : (w : Names) → w.ids ≡ [] → w.labels ≡ [] → w.exports ≡ [] → w.offset ≡ 0 → w ≡ no_names
    same w e f g o =
        ap (λ x. record { ids = x; labels = w.labels; exports = w.exports; offset = w.offset }) e
        ∙ ap (λ x. record { ids = []; labels = x; exports = w.exports; offset = w.offset }) f
        ∙ ap (λ x. record { ids = []; labels = []; exports = x; offset = w.offset }) g ∙ ap nameless_at o

kind_at : ℕ → ScopeKind
kind_at zero = kinds.Component
kind_at (suc zero) = kinds.ComponentType
kind_at (suc (suc zero)) = kinds.InstanceType
kind_at _ = kinds.ModuleType

kind_at-code : (k : ScopeKind) → kind_at (code_of_kind k) ≡ k
unfolding kind_at
kind_at-code kinds.Component = refl
kind_at-code _ = refl

kind : (k l : ScopeKind) → Decides (code_of_kind k == code_of_kind l) (k ≡ l)
kind k l = record {
  holds = λ e. sym (kind_at-code k) ∙ ap kind_at (eqb-true (code_of_kind k) (code_of_kind l) e) ∙ kind_at-code l;
  passes = λ e. eq-eqb (code_of_kind k) (code_of_kind l) (ap code_of_kind e);
}

pub short : (gs : List Group) → Decides (each_short gs) (EachShort gs)
short [] = always
short (g ∷ gs) = three _ _ _ _ _ _ (word (length g.items)) (word (length (body g))) (short gs)

-- Leaves by place.
abbrev LeafDecides : Leaf → Type 0
LeafDecides l = (f : Field) → Decides (leaf_fits l f) (FitsLeaf l f)

abbrev LeavesDecide : Leaves → Type 0
LeavesDecide no_leaf = Unit {0}
LeavesDecide (l ▸ ls) = LeafDecides l × LeavesDecide ls

at : (xs : Leaves) → LeavesDecide xs → (i : ℕ) (f : Field) → Decides (test_at i f (leaf_tests xs)) (fits_at i f (fits_leaves xs))
at no_leaf d i f = never
at (x ▸ xs) d zero f = d.0 f
at (x ▸ xs) d (suc i) f = at xs d.1 i f

any : (p : Space → Bool) (ss : List Space) → list_any p ss ≡ true → (s : Space) × (p s ≡ true)
any p [] e = cc
any p (s ∷ ss) e = elim (either (p s) (list_any p ss) e) [ inl h ↦ (s, h) | inr h ↦ any p ss h ]

some_in : (p : Space → Bool) (ss : List Space) (n : ℕ) → n < length ss → p (space_in ss n) ≡ true → list_any p ss ≡ true
some_in p [] n l e = absurd (omega arith)
some_in p (s ∷ ss) zero l e = left (p s) (list_any p ss) e
some_in p (s ∷ ss) (suc n) l e = right (p s) (list_any p ss) (some_in p ss n (omega arith) e)

code_below : (s : Space) → code_of_space s < length all_spaces
code_below CoreFunc = lit< tt
code_below _ = lit< tt

space_in-code : (s : Space) → space_in all_spaces (code_of_space s) ≡ s
space_in-code CoreFunc = refl
space_in-code _ = refl

some : (p : Space → Bool) (s : Space) → p s ≡ true → list_any p all_spaces ≡ true
some p s e = some_in p all_spaces (code_of_space s) (code_below s) (subst (λ u. p u ≡ true) (sym (space_in-code s)) e)

outer_at : (xs : Leaves) → LeavesDecide xs → (i : ℕ) → Decides (outer_fits i (leaf_tests xs)) (FitsOuter i (fits_leaves xs))
outer_at xs d i = record {
  holds = λ e. (let found = any (outer_fits_in i (leaf_tests xs)) all_spaces e in let h = (here found.0).holds found.1 in (found.0, h.0, h.1, h.2));
  passes = λ (s, a, b, k). some (outer_fits_in i (leaf_tests xs)) s ((here s).passes (a, b, k));
}
  where
    here : (s : Space) → Decides (outer_fits_in i (leaf_tests xs) s) (fits_at i t.outward (fits_leaves xs) × fits_at (suc i) (t.index_in s) (fits_leaves xs) × fits_at (suc (suc i)) (t.kind_is s) (fits_leaves xs))
    here s = three _ _ _ _ _ _ (at xs d i t.outward) (at xs d (suc i) (t.index_in s)) (at xs d (suc (suc i)) (t.kind_is s))

pieces : (ps : List Piece) (xs : Leaves) → LeavesDecide xs → Decides (pieces_fit ps (leaf_tests xs)) (FitsPieces ps (fits_leaves xs))
pieces [] xs d = always
pieces (byte b ∷ ps) xs d = pieces ps xs d
pieces (leaf i f ∷ ps) xs d = two _ _ _ _ (at xs d i f) (pieces ps xs d)
pieces (limits i ∷ ps) xs d = three _ _ _ _ _ _ (at xs d i t.unsigned) (at xs d (suc i) t.maximum) (pieces ps xs d)
pieces (outer i ∷ ps) xs d = two _ _ _ _ (outer_at xs d i) (pieces ps xs d)

same_length : (xs : Leaves) → length (leaf_tests xs) ≡ length (fits_leaves xs)
same_length no_leaf = refl
same_length (x ▸ xs) = ap suc (same_length xs)

line_decides : (l : Option Line) (xs : Leaves) → LeavesDecide xs → Decides (line_fits l (leaf_tests xs)) (FitsLine l (fits_leaves xs))
line_decides None xs d = never
line_decides (Some l) xs d = two _ _ _ _ (subst (λ n. Decides (length (leaf_tests xs) == l.leaves) (n ≡ l.leaves)) (same_length xs) (equal (length (leaf_tests xs)) l.leaves)) (pieces l.pieces xs d)

-- Each kind of leaf.
text_decides : (x : List ℕ) → LeafDecides (m.text x)
text_decides x t.string = word (length x)
text_decides x t.extern_name = word (length x)
text_decides x t.rest = always
text_decides x f = never

number_decides : (n : ℕ) → LeafDecides (m.number n)
number_decides n t.unsigned = word n
number_decides n t.primitive_byte = primitive n
number_decides n t.value = primitive n
number_decides n t.async_byte = below_two n
number_decides n t.flag = below_two n
number_decides n f = never

kind_decides : (s : Space) → LeafDecides (m.kind s)
kind_decides s t.sort = always
kind_decides s t.core_sort = core_space s
kind_decides s (t.kind_is u) = space s u
kind_decides s f = never

reference_decides : (s : Space) (x : Target) → LeafDecides (m.ref s x)
reference_decides s (m.index i) (t.index_in u) = two _ _ _ _ (space s u) (word i)
reference_decides s (m.index i) t.sorted_index = word i
reference_decides s (m.index i) t.core_sorted_index = two _ _ _ _ (core_space s) (word i)
reference_decides s (m.index i) t.value = two _ _ _ _ (space s Ty) (word i)
reference_decides s x (t.index_in u) = never
reference_decides s x t.sorted_index = never
reference_decides s x t.core_sorted_index = never
reference_decides s x t.value = never
reference_decides s x f = never

place_decides : (p : Place) → LeafDecides (m.place p)
place_decides p t.outward = place p
place_decides p f = never

count_decides : (n : ℕ) → LeafDecides (m.result_count n)
count_decides n t.results = word n
count_decides n f = never

absent_decides : LeafDecides m.absent
absent_decides (t.optional f) = always
absent_decides (t.result f) = always
absent_decides t.maximum = always
absent_decides f = never

present_decides : (l : Leaf) → LeafDecides l → LeafDecides (m.present l)
present_decides l d (t.optional f) = d f
present_decides l d (t.result f) = d f
present_decides l d t.maximum = d t.unsigned
present_decides l d f = never

core_decides : (v : CoreValue) → LeafDecides (m.core_value v)
core_decides v t.core_type = core v
core_decides v f = never

case_decides : (i : Option Id) → LeafDecides (m.case_id i)
case_decides i t.unspelled = none i
case_decides i f = never

module_decides : (bs : List ℕ) → LeafDecides (m.module_bytes bs)
module_decides bs t.whole_module = always
module_decides bs f = never

abbrev NodeDecides : Node → Type 0
NodeDecides n = (f : Family) → Decides (node_fits n f) (FitsNode n f)

abbrev NodesDecide : Nodes → Type 0
NodesDecide ns = (f : Family) → Decides (nodes_fit ns f) (FitsNodes ns f)

node_decides : (n : Node) → NodeDecides n → LeafDecides (m.node n)
node_decides n d (t.one f) = d f
node_decides n d f = never

nodes_decide : (ns : Nodes) → NodesDecide ns → LeafDecides (m.nodes ns)
nodes_decide ns d (t.each f) = two _ _ _ _ (word (count_nodes ns)) (d f)
nodes_decide ns d f = never

-- A definition, as a declaration and in a section of its own.
pub record DefDecides (d : Def) : Type 0 where
  pub declaration : (f : Family) → Decides (declaration_fits d f) (FitsDeclaration d f)
  pub definition : Decides (definition_fits d) (FitsDefinition d)

pub record DefsDecide (ds : Defs) : Type 0 where
  pub declarations : (f : Family) → Decides (declarations_fit ds f) (FitsDeclarations ds f)
  pub definitions : Decides (definitions_fit ds) (FitsDefinitions ds)

def_decides : (w : Names) (n : Node) → NodeDecides n → Decides (item_fits n) (FitsItem n) → DefDecides (define w n)
def_decides w n d i = record { declaration = λ f. two _ _ _ _ (names w) (d f); definition = two _ _ _ _ (names w) i }

defs_decide : (d : Def) (ds : Defs) → DefDecides d → DefsDecide ds → DefsDecide (one_def d ds)
defs_decide d ds first others = record {
  declarations = λ f. two _ _ _ _ (first.declaration f) (others.declarations f);
  definitions = two _ _ _ _ first.definition others.definitions;
}

no_defs_decide : DefsDecide no_def
no_defs_decide = record { declarations = λ f. always; definitions = always }

abbrev ScopeDefs : Scope → Type 0
ScopeDefs (scope_of k id label ds) = DefsDecide ds

type_scope : (s : Scope) → ScopeDefs s → (k : ScopeKind) → Decides (type_scope_fits s k) (FitsTypeScope s k)
type_scope (scope_of k id label ds) d kind_wanted = five _ _ _ _ _ _ _ _ _ _ (kind k kind_wanted) (none id) (none label) (word (count_defs ds)) (d.declarations (declarations_of kind_wanted))

component : (s : Scope) → ScopeDefs s → Decides (fits s) (FitsSections s)
component (scope_of k id label ds) d = five _ _ _ _ _ _ _ _ _ _ (kind k kinds.Component) (none id) (none label) d.definitions (short (groups (items_of ds)))

scope_decides : (s : Scope) → ScopeDefs s → LeafDecides (m.scope s)
scope_decides s d (t.type_scope k) = type_scope s d k
scope_decides s d t.whole_component = component s d
scope_decides s d f = never

-- the induction: one line for each kind of leaf
mutual
  leaf_all : (l : Leaf) → LeafDecides l
  leaf_all (m.text x) = text_decides x
  leaf_all (m.number n) = number_decides n
  leaf_all (m.kind s) = kind_decides s
  leaf_all (m.core_value v) = core_decides v
  leaf_all (m.ref s x) = reference_decides s x
  leaf_all (m.place p) = place_decides p
  leaf_all m.absent = absent_decides
  leaf_all (m.present l) = present_decides l (leaf_all l)
  leaf_all (m.node n) = node_decides n (node_all n)
  leaf_all (m.nodes ns) = nodes_decide ns (nodes_all ns)
  leaf_all (m.case_id i) = case_decides i
  leaf_all (m.result_ids is) = λ f. never
  leaf_all (m.result_count n) = count_decides n
  leaf_all (m.core_source x) = λ f. never
  leaf_all (m.module_bytes bs) = module_decides bs
  leaf_all (m.scope s) = scope_decides s (scope_all s)

  leaves_all : (ls : Leaves) → LeavesDecide ls
  leaves_all no_leaf = tt
  leaves_all (l ▸ ls) = (leaf_all l, leaves_all ls)

  node_all : (n : Node) → NodeDecides n
  node_all (row u ls) = λ f. line_decides (find u (lines f)) ls (leaves_all ls)

  pub item_all : (n : Node) → Decides (item_fits n) (FitsItem n)
  item_all (row u ls) = line_decides (find u (lines (rows_of (section_of u)))) ls (leaves_all ls)

  nodes_all : (ns : Nodes) → NodesDecide ns
  nodes_all no_node = λ f. always
  nodes_all (one_node n ns) = λ f. two _ _ _ _ (node_all n f) (nodes_all ns f)

  def_all : (d : Def) → DefDecides d
  def_all (define w n) = def_decides w n (node_all n) (item_all n)

  defs_all : (ds : Defs) → DefsDecide ds
  defs_all no_def = no_defs_decide
  defs_all (one_def d ds) = defs_decide d ds (def_all d) (defs_all ds)

  scope_all : (s : Scope) → ScopeDefs s
  scope_all (scope_of k id label ds) = defs_all ds

pub exact : (s : Scope) → IsTrue (fits s) ↔ FitsSections s
exact s = let d = component s (scope_all s) in (λ e. d.holds e, λ h. d.passes h)
