-- Types and declarations as lists, and the bytes of a type where it is a declaration.
use Rattle.std.proofs.Common.{◌≡◌, ◌≢◌, ℕ, ◌+◌, ◌<◌, ◌≤◌, List, [], ◌∷◌, ◌++◌, length, drop, drop_of_length-le, get_or, refl, sym, ap, subst, ◌∙◌, append_assoc, append-nil, arith}
use Rattle.comp_model.specs.Makers as make
use Rattle.comp_model.specs.Model.{Node, one_def, count_defs}
use Rattle.comp_model.specs.declared.row.ScopeKind.TheVariants as kinds
use Rattle.comp_wire.specs.declared.append_types.Declared.{Declared}
use Rattle.comp_wire.specs.declared.append_types.Declared.TheVariants as declared
use Rattle.comp_wire.specs.declared.types.WireCoreType.{WireCoreType, Func, Module, Row_of-WireDecl, end_of-WireDecl, more_of-WireDecl, items-the_row-WireDecl, items_hidden-the_row-WireDecl-0}
use Rattle.comp_wire.specs.declared.types.WireCoreType.TheBlock.{hidden-the_row-WireDecl-0}
use Rattle.comp_wire.specs.declared.types.WireDecl.{WireDecl}
use Rattle.comp_wire.specs.declared.types.WireDecl.TheVariants as decl
use Rattle.comp_wire.specs.declared.types.WireType.{WireType, Component, Instance}
use Rattle.comp_wire.specs.declared.types.WireType.TheVariants as ty
use Rattle.comp_wire.specs.declared.externs.Alias.{Alias}
use Rattle.comp_wire.specs.declared.externs.Alias.TheVariants as alias
use Rattle.comp_wire.specs.declared.externs.ComponentExternName.{ComponentExternName}
use Rattle.comp_wire.specs.declared.externs.ComponentTypeRef.{ComponentTypeRef}
use Rattle.comp_model.specs.Leb.{uleb}
use Rattle.comp_model.specs.Payloads.{framed}
use Rattle.comp_wire.specs.Sections.{Word}
use Rattle.comp_wire.specs.Table as table
use Rattle.comp_wire.specs.Table.{Family}
use Rattle.comp_wire.specs.Spelled.{spell_node, spell_declarations, spell_type_scope, declarations_of, FitsNode, FitsDeclarations, FitsTypeScope}
use Rattle.comp_wire.specs.Values.{alias_row, description_row}
use Rattle.comp_wire.specs.Definitions.{core_type_row, type_row, declaration_row, declarations_of_row, declarations_of_list, plain_def, type_scope}
use Rattle.comp_wire.specs.Declarations.{kind_of_type, scope_of_list}
use Rattle.comp_wire.proofs.Lists.{dropped}

as_list : {n : _} (ds : Row_of-WireDecl n) → declarations_of_row ds ≡ declarations_of_list (items-the_row-WireDecl n ds)
as_list end_of-WireDecl = refl
as_list (more_of-WireDecl d ds) = ap (one_def (plain_def (declaration_row d))) (as_list ds)

pub core_type_row-Module : (ds : List WireDecl) → core_type_row (Module ds) ≡ make.module_type (type_scope kinds.ModuleType (declarations_of_list ds))
core_type_row-Module ds = ap (λ es. make.module_type (type_scope kinds.ModuleType es)) (as_list (hidden-the_row-WireDecl-0 ds) ∙ ap declarations_of_list (items_hidden-the_row-WireDecl-0 ds))

pub type_row-Component : (ds : List WireDecl) → type_row (Component ds) ≡ make.component_type (type_scope kinds.ComponentType (declarations_of_list ds))
type_row-Component ds = ap (λ es. make.component_type (type_scope kinds.ComponentType es)) (as_list (hidden-the_row-WireDecl-0 ds) ∙ ap declarations_of_list (items_hidden-the_row-WireDecl-0 ds))

pub type_row-Instance : (ds : List WireDecl) → type_row (Instance ds) ≡ make.instance_type (type_scope kinds.InstanceType (declarations_of_list ds))
type_row-Instance ds = ap (λ es. make.instance_type (type_scope kinds.InstanceType es)) (as_list (hidden-the_row-WireDecl-0 ds) ∙ ap declarations_of_list (items_hidden-the_row-WireDecl-0 ds))

pub count_declarations : (ds : List WireDecl) → count_defs (declarations_of_list ds) ≡ length ds
count_declarations [] = refl
count_declarations (d ∷ ds) = omega (arith, count_declarations ds)

abbrev ByteBefore : Node → Family → ℕ → Family → Type 0
ByteBefore n f b g = (spell_node n f ≡ b ∷ spell_node n g) × (FitsNode n f → FitsNode n g)

module _ (k : Declared) (c : kind_of_type k ≢ kinds.ModuleType) where
  core_at : (k : Declared) → kind_of_type k ≢ kinds.ModuleType → (t : WireCoreType) → ByteBefore (core_type_row t) (declarations_of (kind_of_type k)) 0x00 table.core_types
  core_at declared.Module c t = absurd (c refl)
  core_at declared.Component c (Func f) = (refl, λ h. h)
  core_at declared.Component c _ = (refl, λ h. h)
  core_at declared.Instance c (Func f) = (refl, λ h. h)
  core_at declared.Instance c _ = (refl, λ h. h)

  type_at : (k : Declared) → kind_of_type k ≢ kinds.ModuleType → (t : WireType) → ByteBefore (type_row t) (declarations_of (kind_of_type k)) 0x01 table.types
  type_at declared.Module c t = absurd (c refl)
  type_at declared.Component c (ty.Primitive p) = (refl, λ h. h)
  type_at declared.Component c _ = (refl, λ h. h)
  type_at declared.Instance c (ty.Primitive p) = (refl, λ h. h)
  type_at declared.Instance c _ = (refl, λ h. h)

  alias_at : (k : Declared) → kind_of_type k ≢ kinds.ModuleType → (a : Alias) → ByteBefore (alias_row a) (declarations_of (kind_of_type k)) 0x02 table.aliases
  alias_at declared.Module c a = absurd (c refl)
  alias_at declared.Component c (alias.Outer n o i) = (refl, λ h. h)
  alias_at declared.Component c _ = (refl, λ h. h)
  alias_at declared.Instance c (alias.Outer n o i) = (refl, λ h. h)
  alias_at declared.Instance c _ = (refl, λ h. h)

  pub core_declared : (t : WireCoreType) → ByteBefore (core_type_row t) (declarations_of (kind_of_type k)) 0x00 table.core_types
  core_declared = core_at k c

  pub type_declared : (t : WireType) → ByteBefore (type_row t) (declarations_of (kind_of_type k)) 0x01 table.types
  type_declared = type_at k c

  pub alias_declared : (a : Alias) → ByteBefore (alias_row a) (declarations_of (kind_of_type k)) 0x02 table.aliases
  alias_declared = alias_at k c

-- the bytes of an import and of an export that are declarations
abbrev Described : Declared → WireDecl → ℕ → ComponentExternName → ComponentTypeRef → Type 0
Described k w b x d =
    FitsNode (declaration_row w) (declarations_of (kind_of_type k))
    → (spell_node (declaration_row w) (declarations_of (kind_of_type k)) ≡ b ∷ 0x00 ∷ (framed x.name.now ++ spell_node (description_row d) table.descriptions)) × Word (length x.name.now)

pub import_declared : (k : Declared) → kind_of_type k ≢ kinds.ModuleType → (x : ComponentExternName) (d : ComponentTypeRef) → Described k (decl.Import x d) 0x03 x d
import_declared declared.Module c x d h = absurd (c refl)
import_declared declared.Component c x d h = (ap (λ y. 0x03 ∷ 0x00 ∷ (framed x.name.now ++ y)) (append-nil _), h.1.0)
import_declared declared.Instance c x d h = absurd h

pub export_declared : (k : Declared) → kind_of_type k ≢ kinds.ModuleType → (x : ComponentExternName) (d : ComponentTypeRef) → Described k (decl.Export x d) 0x04 x d
export_declared declared.Module c x d h = absurd (c refl)
export_declared declared.Component c x d h = (ap (λ y. 0x04 ∷ 0x00 ∷ (framed x.name.now ++ y)) (append-nil _), h.1.0)
export_declared declared.Instance c x d h = (ap (λ y. 0x04 ∷ 0x00 ∷ (framed x.name.now ++ y)) (append-nil _), h.1.0)

pub core_in_module : (t : WireCoreType) → ByteBefore (core_type_row t) table.module_declarations 0x01 table.core_types
core_in_module (Func f) = (refl, λ h. h)
core_in_module _ = (refl, λ h. h)

pub no_type_in_module : (t : WireType) → FitsNode (type_row t) table.module_declarations → ⊥
no_type_in_module (ty.Primitive p) h = h
no_type_in_module _ h = h

-- one turn of the loop over declarations, and behind the last
module _ (f : Family) (all : List WireDecl) (i : ℕ) where
  pub turn_fits : (d : WireDecl) → i < length all → d ≡ get_or all i d → FitsDeclarations (declarations_of_list (drop i all)) f
      → FitsNode (declaration_row d) f × FitsDeclarations (declarations_of_list (drop (i + 1) all)) f
  turn_fits d h e fits = let here = subst (λ ds. FitsDeclarations (declarations_of_list ds) f) (dropped all i d h e) fits in (here.0.1, here.1)

  pub turn_written : (d : WireDecl) (init out new : List ℕ) → i < length all → d ≡ get_or all i d
      → out ++ spell_declarations (declarations_of_list (drop i all)) f ≡ init ++ spell_declarations (declarations_of_list all) f → new ≡ out ++ spell_node (declaration_row d) f
      → new ++ spell_declarations (declarations_of_list (drop (i + 1) all)) f ≡ init ++ spell_declarations (declarations_of_list all) f
  turn_written d init out new h e w n =
      ap (λ x. x ++ spell_declarations (declarations_of_list (drop (i + 1) all)) f) n
      ∙ append_assoc out (spell_node (declaration_row d) f) (spell_declarations (declarations_of_list (drop (i + 1) all)) f)
      ∙ ap (λ ds. out ++ spell_declarations (declarations_of_list ds) f) (sym (dropped all i d h e)) ∙ w

  pub declarations_written : (old init out : List ℕ) → length all ≤ i → init ≡ old ++ uleb (length all)
      → out ++ spell_declarations (declarations_of_list (drop i all)) f ≡ init ++ spell_declarations (declarations_of_list all) f
      → out ≡ old ++ (uleb (count_defs (declarations_of_list all)) ++ spell_declarations (declarations_of_list all) f)
  declarations_written old init out h e w =
      let end : out ≡ init ++ spell_declarations (declarations_of_list all) f = sym (append-nil out) ∙ ap (λ ds. out ++ spell_declarations (declarations_of_list ds) f) (sym (drop_of_length-le all h)) ∙ w in
      end ∙ ap (λ x. x ++ spell_declarations (declarations_of_list all) f) (e ∙ ap (λ n. old ++ uleb n) (sym (count_declarations all)))
      ∙ append_assoc old (uleb (count_defs (declarations_of_list all))) (spell_declarations (declarations_of_list all) f)

pub appended : (before middle after a b : List ℕ) → middle ≡ before ++ a → after ≡ middle ++ b → after ≡ before ++ (a ++ b)
appended before middle after a b e f = rw (f, e, append_assoc)

-- a type that holds declarations: its bytes, and what it needs to fit
pub module_type_fits : (ds : List WireDecl) → FitsNode (core_type_row (Module ds)) table.core_types → FitsTypeScope (scope_of_list declared.Module ds) kinds.ModuleType
module_type_fits ds h = let P : Node → Type 0 = λ n. FitsNode n table.core_types in (subst P (core_type_row-Module ds) h).1.0

pub component_type_fits : (ds : List WireDecl) → FitsNode (type_row (Component ds)) table.types → FitsTypeScope (scope_of_list declared.Component ds) kinds.ComponentType
component_type_fits ds h = let P : Node → Type 0 = λ n. FitsNode n table.types in (subst P (type_row-Component ds) h).1.0

pub instance_type_fits : (ds : List WireDecl) → FitsNode (type_row (Instance ds)) table.types → FitsTypeScope (scope_of_list declared.Instance ds) kinds.InstanceType
instance_type_fits ds h = let P : Node → Type 0 = λ n. FitsNode n table.types in (subst P (type_row-Instance ds) h).1.0

pub module_type_bytes : (ds : List WireDecl) → spell_node (core_type_row (Module ds)) table.core_types ≡ 0x50 ∷ spell_type_scope (scope_of_list declared.Module ds) kinds.ModuleType
module_type_bytes ds = ap (λ n. spell_node n table.core_types) (core_type_row-Module ds) ∙ ap (λ x. 0x50 ∷ x) (append-nil (spell_type_scope (scope_of_list declared.Module ds) kinds.ModuleType))

pub component_type_bytes : (ds : List WireDecl) → spell_node (type_row (Component ds)) table.types ≡ 0x41 ∷ spell_type_scope (scope_of_list declared.Component ds) kinds.ComponentType
component_type_bytes ds = ap (λ n. spell_node n table.types) (type_row-Component ds) ∙ ap (λ x. 0x41 ∷ x) (append-nil (spell_type_scope (scope_of_list declared.Component ds) kinds.ComponentType))

pub instance_type_bytes : (ds : List WireDecl) → spell_node (type_row (Instance ds)) table.types ≡ 0x42 ∷ spell_type_scope (scope_of_list declared.Instance ds) kinds.InstanceType
instance_type_bytes ds = ap (λ n. spell_node n table.types) (type_row-Instance ds) ∙ ap (λ x. 0x42 ∷ x) (append-nil (spell_type_scope (scope_of_list declared.Instance ds) kinds.InstanceType))
