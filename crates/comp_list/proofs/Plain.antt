-- Rows that hold no scope.
use Rattle.std.proofs.Common.{◌≡◌, ℕ, refl, sym, ap, ◌∙◌, Bool, true, false, ◌&&◌, List, [], ◌∷◌, ◌++◌, Bor, Option, Some, None, append-nil}
use Rattle.comp_model.specs.Core.{Text}
use Rattle.comp_model.specs.declared.Space.{Space}
use Rattle.comp_model.specs.Model as m
use Rattle.comp_model.specs.Model.{Leaf, Leaves, no_leaf, ◌▸◌, Node, row, Nodes, no_node, one_node, Defs}
use Rattle.comp_wire.specs.Values.{rows_of_list, value_of, optional_of, index_of, core_value_row, function_row, named_type_row, case_row, lone_type_row, lone_name_row, core_argument_row, start_argument_row, option_row, description_row, description_leaf, entity_row, number_leaf}
use Rattle.comp_wire.specs.declared.values.ComponentValType.{ComponentValType}
use Rattle.comp_wire.specs.declared.values.ComponentValType.TheVariants as val
use Rattle.comp_wire.specs.declared.values.WireFunc.{WireFunc}
use Rattle.comp_wire.specs.declared.values.WireVal.{WireVal}
use Rattle.comp_wire.specs.declared.kinds.ModuleArg.{ModuleArg}
use Rattle.comp_wire.specs.declared.canon.CanonicalOption.{CanonicalOption}
use Rattle.comp_wire.specs.declared.canon.CanonicalOption.TheVariants as opt
use Rattle.comp_wire.specs.declared.canon.WireCanon.{WireCanon}
use Rattle.comp_wire.specs.declared.canon.WireCanon.TheVariants as canon
use Rattle.comp_wire.specs.declared.externs.ComponentTypeRef.{ComponentTypeRef}
use Rattle.comp_wire.specs.declared.externs.ComponentTypeRef.TheVariants as desc
use Rattle.comp_wire.specs.declared.externs.TypeBounds.TheVariants as bounds
use Rattle.comp_wire.specs.declared.externs.WireEntity.{WireEntity}
use Rattle.comp_wire.specs.declared.externs.WireEntity.TheVariants as entity
use Rattle.comp_wire.specs.Definitions.{canon_row}
use Rattle.comp_wire.proofs.Groups.{and_both}
use Rattle.item_tree.specs.declared.tree.ItemAlias.{ItemAlias}
use Rattle.item_tree.specs.declared.tree.ItemAlias.TheVariants as alias
use Rattle.item_tree.specs.Model.{core_export_row, argument_row, export_row, alias_row}
use Rattle.comp_list.specs.declared.line.Line.{Line}
use Rattle.comp_list.specs.Listing.{leaf_lines, leaves_lines, nodes_lines}
use Rattle.comp_list.specs.Held.{row_lines}

abbrev mutual
  pub plain_leaf : Leaf → Bool
  plain_leaf (m.scope s) = false
  plain_leaf (m.present l) = plain_leaf l
  plain_leaf (m.node (row t ls)) = plain_leaves ls
  plain_leaf (m.nodes ns) = plain_nodes ns
  plain_leaf _ = true

  pub plain_leaves : Leaves → Bool
  plain_leaves no_leaf = true
  plain_leaves (l ▸ ls) = plain_leaf l && plain_leaves ls

  pub plain_nodes : Nodes → Bool
  plain_nodes no_node = true
  plain_nodes (one_node (row t ls) ns) = plain_leaves ls && plain_nodes ns

abbrev pub plain_row : Node → Bool
plain_row (row t ls) = plain_leaves ls

both : (a b : Bool) → a ≡ true → b ≡ true → (a && b) ≡ true
both a b e f = ap (λ q. q && b) e ∙ f

then_plain : (n : Node) (ns : Nodes) → plain_row n ≡ true → plain_nodes ns ≡ true → plain_nodes (one_node n ns) ≡ true
then_plain (row t ls) ns e f = both (plain_leaves ls) (plain_nodes ns) e f

rows_plain : {A : Type 0} (f : A → Node) → ((x : A) → plain_row (f x) ≡ true) → (xs : List A) → plain_nodes (rows_of_list f xs) ≡ true
rows_plain f e [] = refl
rows_plain f e (x ∷ xs) = then_plain (f x) (rows_of_list f xs) (e x) (rows_plain f e xs)

-- ---- the parts of rows

pub value_plain : (v : ComponentValType) → plain_leaf (value_of v) ≡ true
value_plain (val.Primitive p) = refl
value_plain (val.Ty i) = refl

pub optional_plain : (v : Option ComponentValType) → plain_leaf (optional_of value_of v) ≡ true
optional_plain None = refl
optional_plain (Some v) = value_plain v

pub index_plain : (s : Space) (i : Option ℕ) → plain_leaf (optional_of (index_of s) i) ≡ true
index_plain s None = refl
index_plain s (Some i) = refl

pub number_plain : (n : Option ℕ) → plain_leaf (optional_of number_leaf n) ≡ true
number_plain None = refl
number_plain (Some n) = refl

pub description_plain : (d : ComponentTypeRef) → plain_leaf (m.node (description_row d)) ≡ true
description_plain (desc.Ty (bounds.Eq i)) = refl
description_plain (desc.Ty bounds.SubResource) = refl
description_plain _ = refl

pub described_plain : (d : Option ComponentTypeRef) → plain_leaf (optional_of description_leaf d) ≡ true
described_plain None = refl
described_plain (Some d) = description_plain d

pub entity_plain : (e : WireEntity) → plain_leaf (m.node (entity_row e)) ≡ true
entity_plain (entity.Func i) = refl
entity_plain (entity.Table v least most) = both (plain_leaf (optional_of number_leaf most)) true (number_plain most) refl
entity_plain (entity.Memory least most) = both (plain_leaf (optional_of number_leaf most)) true (number_plain most) refl
entity_plain (entity.Global v mutable) = refl

option_plain : (o : CanonicalOption) → plain_row (option_row o) ≡ true
option_plain opt.UTF8 = refl
option_plain _ = refl

-- ---- lists

pub core_exports_plain : (xs : List (Bor Text × Space × ℕ)) → plain_nodes (rows_of_list core_export_row xs) ≡ true
core_exports_plain xs = rows_plain core_export_row (λ x. refl) xs

pub arguments_plain : (xs : List (Bor Text × Space × ℕ)) → plain_nodes (rows_of_list argument_row xs) ≡ true
arguments_plain xs = rows_plain argument_row (λ x. refl) xs

pub exports_plain : (xs : List (Bor Text × Space × ℕ)) → plain_nodes (rows_of_list export_row xs) ≡ true
exports_plain xs = rows_plain export_row (λ x. refl) xs

pub instances_plain : (xs : List (Bor Text × ModuleArg)) → plain_nodes (rows_of_list core_argument_row xs) ≡ true
instances_plain xs = rows_plain core_argument_row (λ x. refl) xs

pub passed_plain : (xs : List ℕ) → plain_nodes (rows_of_list start_argument_row xs) ≡ true
passed_plain xs = rows_plain start_argument_row (λ x. refl) xs

pub options_plain : (xs : List CanonicalOption) → plain_nodes (rows_of_list option_row xs) ≡ true
options_plain xs = rows_plain option_row option_plain xs

core_values_plain : (xs : List WireVal) → plain_nodes (rows_of_list core_value_row xs) ≡ true
core_values_plain xs = rows_plain core_value_row (λ x. refl) xs

pub function_plain : (f : WireFunc) → plain_row (function_row f) ≡ true
function_plain f = both _ _ (core_values_plain f.params) (both _ true (core_values_plain f.results) refl)

pub functions_plain : (fs : List WireFunc) → plain_nodes (rows_of_list function_row fs) ≡ true
functions_plain fs = rows_plain function_row function_plain fs

pub fields_plain : (xs : List (Bor Text × ComponentValType)) → plain_nodes (rows_of_list named_type_row xs) ≡ true
fields_plain xs = rows_plain named_type_row (λ x. both _ true (value_plain x.1) refl) xs

pub cases_plain : (xs : List (Bor Text × Option ComponentValType)) → plain_nodes (rows_of_list case_row xs) ≡ true
cases_plain xs = rows_plain case_row (λ x. both _ true (optional_plain x.1) refl) xs

pub values_plain : (xs : List ComponentValType) → plain_nodes (rows_of_list lone_type_row xs) ≡ true
values_plain xs = rows_plain lone_type_row (λ x. both _ true (value_plain x) refl) xs

pub lone_names_plain : (xs : List (Bor Text)) → plain_nodes (rows_of_list lone_name_row xs) ≡ true
lone_names_plain xs = rows_plain lone_name_row (λ x. refl) xs

pub alias_plain : (a : ItemAlias) → plain_row (alias_row a) ≡ true
alias_plain (alias.InstanceExport n k x) = refl
alias_plain _ = refl

pub canon_plain : (f : WireCanon) → plain_row (canon_row f) ≡ true
canon_plain (canon.Lift t f opts) = both _ true (options_plain opts) refl
canon_plain (canon.Lower f opts) = both _ true (options_plain opts) refl
canon_plain (canon.TaskReturn r opts) = both _ _ (optional_plain r) (both _ true (options_plain opts) refl)
canon_plain (canon.StreamRead t opts) = both _ true (options_plain opts) refl
canon_plain (canon.StreamWrite t opts) = both _ true (options_plain opts) refl
canon_plain (canon.FutureRead t opts) = both _ true (options_plain opts) refl
canon_plain (canon.FutureWrite t opts) = both _ true (options_plain opts) refl
canon_plain (canon.ErrorContextNew opts) = both _ true (options_plain opts) refl
canon_plain (canon.ErrorContextDebugMessage opts) = both _ true (options_plain opts) refl
canon_plain _ = refl

-- ---- what holds of these

mutual
  leaf_without : (l : Leaf) (level : ℕ) (out : List Defs) → plain_leaf l ≡ true → leaf_lines l level out ≡ []
  leaf_without (m.scope s) level out e = cc
  leaf_without (m.present l) level out e = leaf_without l level out e
  leaf_without (m.node (row t ls)) level out e = leaves_without ls level out e
  leaf_without (m.nodes ns) level out e = nodes_without ns level out e
  leaf_without _ level out e = refl

  leaves_without : (ls : Leaves) (level : ℕ) (out : List Defs) → plain_leaves ls ≡ true → leaves_lines ls level out ≡ []
  leaves_without no_leaf level out e = refl
  leaves_without (l ▸ ls) level out e = let tests = and_both (plain_leaf l) (plain_leaves ls) e in ap (λ q. q ++ leaves_lines ls level out) (leaf_without l level out tests.0) ∙ leaves_without ls level out tests.1

  nodes_without : (ns : Nodes) (level : ℕ) (out : List Defs) → plain_nodes ns ≡ true → nodes_lines ns level out ≡ []
  nodes_without no_node level out e = refl
  nodes_without (one_node (row t ls) ns) level out e = let tests = and_both (plain_leaves ls) (plain_nodes ns) e in ap (λ q. q ++ nodes_lines ns level out) (leaves_without ls level out tests.0) ∙ nodes_without ns level out tests.1

pub no_more_lines : (n : Node) (level : ℕ) (out : List Defs) (lines : List Line) → plain_row n ≡ true → lines ≡ lines ++ row_lines n level out
no_more_lines (row t ls) level out lines e = sym (ap (λ q. lines ++ q) (leaves_without ls level out e) ∙ append-nil lines)
