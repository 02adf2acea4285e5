-- A row that the first bytes decide for has a line in the family.
use Rattle.std.proofs.Common.{◌≡◌, ℕ, List, [], ◌∷◌, refl, subst, Bool, true, false, ◌&&◌, Option, Some, None, is_some, if◌then◌else◌}
use Rattle.std.specs.Prelude.{◌==◌, ◌+◌}
use Rattle.comp_model.specs.declared.row.Row.TheVariants as rows
use Rattle.comp_model.specs.declared.row.Row.{Row}
use Rattle.comp_wire.specs.Table as t
use Rattle.comp_wire.specs.Table.{Family, Line, lines}
use Rattle.comp_wire.specs.Spelled.{find}
use Rattle.comp_wire.proofs.Groups.{and_both}
use Rattle.wire_read.specs.RowAt.{row_at, byte_ahead, coded, or_primitive, core_instance_codes, instance_codes, core_type_codes, entity_codes, type_codes, canon_codes, option_codes, type_row, description_row, alias_by, alias_row, instance_declaration_row}

abbrev pub HasLine : Family → Row → Bool
HasLine f u = is_some (find u (lines f))

abbrev all_codes : (Row → Bool) → List (ℕ × Row) → Bool
all_codes P [] = true
all_codes P (c ∷ cs) = P c.1 && all_codes P cs

coded_here : (P : Row → Bool) (v u : Row) (o : Option Row) → P v ≡ true → (o ≡ Some u → P u ≡ true) → (k : Bool) → (if k then Some v else o) ≡ Some u → P u ≡ true
coded_here P v u o h later true e = let same : v ≡ u = cc in subst (λ x. P x ≡ true) same h
coded_here P v u o h later false e = later e

coded_passes : (P : Row → Bool) (cs : List (ℕ × Row)) (b : ℕ) (u : Row) → all_codes P cs ≡ true → coded cs b ≡ Some u → P u ≡ true
coded_passes P [] b u h e = cc
coded_passes P (c ∷ cs) b u h e = let both = and_both (P c.1) (all_codes P cs) h in coded_here P c.1 u (coded cs b) both.0 (λ e. coded_passes P cs b u both.1 e) (b == c.0) e

alone : (P : Row → Bool) (k u : Row) → P k ≡ true → Some k ≡ Some u → P u ≡ true
alone P k u h e = let same : k ≡ u = cc in subst (λ x. P x ≡ true) same h

either : (P : Row → Bool) (u : Row) (c : Bool) (x y : Option Row) → (x ≡ Some u → P u ≡ true) → (y ≡ Some u → P u ≡ true) → (if c then x else y) ≡ Some u → P u ≡ true
either P u true x y f g e = f e
either P u false x y f g e = g e

none : (P : Row → Bool) (u : Row) → ◌≡◌ {A = Option Row} None (Some u) → P u ≡ true
none P u e = cc

primitive_passes : (P : Row → Bool) (o : Option Row) (u : Row) → P rows.Primitive ≡ true → (o ≡ Some u → P u ≡ true) → or_primitive o ≡ Some u → P u ≡ true
primitive_passes P None u h f e = alone P rows.Primitive u h e
primitive_passes P (Some v) u h f e = f e

types_pass : (P : Row → Bool) (b : ℕ) (u : Row) → all_codes P type_codes ≡ true → P rows.Primitive ≡ true → type_row b ≡ Some u → P u ≡ true
types_pass P b u h k e = primitive_passes P (coded type_codes b) u k (coded_passes P type_codes b u h) e

alias_passes : (P : Row → Bool) (b : ℕ) (u : Row) → P rows.AliasExport ≡ true → P rows.AliasCoreExport ≡ true → P rows.AliasOuter ≡ true → alias_by b ≡ Some u → P u ≡ true
alias_passes P b u h k l e =
    either P u (b == 0x00) _ _ (alone P rows.AliasExport u h) (either P u (b == 0x01) _ _ (alone P rows.AliasCoreExport u k) (either P u (b == 0x02) _ _ (alone P rows.AliasOuter u l) (none P u))) e

aliases_pass : (P : Row → Bool) (bs : List ℕ) (n : ℕ) (u : Row) → P rows.AliasExport ≡ true → P rows.AliasCoreExport ≡ true → P rows.AliasOuter ≡ true → alias_row bs n ≡ Some u → P u ≡ true
aliases_pass P bs n u h k l e =
    either P u (byte_ahead bs n == 0x00) _ _ (alias_passes P (byte_ahead bs (n + 2)) u h k l) (alias_passes P (byte_ahead bs (n + 1)) u h k l) e

description_passes : (P : Row → Bool) (b c : ℕ) (u : Row) → P rows.ModuleDescription ≡ true → P rows.FuncDescription ≡ true → P rows.TypeEq ≡ true → P rows.SubResource ≡ true → P rows.ComponentDescription ≡ true → P rows.InstanceDescription ≡ true → description_row b c ≡ Some u → P u ≡ true
description_passes P b c u h i j k l m e =
    either P u (b == 0x00) _ _ (alone P rows.ModuleDescription u h)
    (either P u (b == 0x01) _ _ (alone P rows.FuncDescription u i)
    (either P u (b == 0x03) _ _ (either P u (c == 0x00) _ _ (alone P rows.TypeEq u j) (alone P rows.SubResource u k))
    (either P u (b == 0x04) _ _ (alone P rows.ComponentDescription u l) (either P u (b == 0x05) _ _ (alone P rows.InstanceDescription u m) (none P u))))) e

instance_declaration_passes : (P : Row → Bool) (bs : List ℕ) (u : Row) → all_codes P core_type_codes ≡ true → all_codes P type_codes ≡ true → P rows.Primitive ≡ true → P rows.AliasExport ≡ true → P rows.AliasCoreExport ≡ true → P rows.AliasOuter ≡ true → P rows.ExportType ≡ true → instance_declaration_row bs ≡ Some u → P u ≡ true
instance_declaration_passes P bs u h i j k l m n e =
    either P u (byte_ahead bs 0 == 0x00) _ _ (coded_passes P core_type_codes (byte_ahead bs 1) u h)
    (either P u (byte_ahead bs 0 == 0x01) _ _ (types_pass P (byte_ahead bs 1) u i j)
    (either P u (byte_ahead bs 0 == 0x02) _ _ (aliases_pass P bs 1 u k l m) (either P u (byte_ahead bs 0 == 0x04) _ _ (alone P rows.ExportType u n) (none P u)))) e

pub known : (f : Family) (bs : List ℕ) (u : Row) → row_at f bs ≡ Some u → HasLine f u ≡ true
known t.customs bs u e = alone (HasLine t.customs) rows.Custom u refl e
known t.core_modules bs u e = alone (HasLine t.core_modules) rows.CoreModule u refl e
known t.core_instances bs u e = coded_passes (HasLine t.core_instances) core_instance_codes (byte_ahead bs 0) u refl e
known t.core_arguments bs u e = alone (HasLine t.core_arguments) rows.CoreArgument u refl e
known t.core_bundle_exports bs u e = alone (HasLine t.core_bundle_exports) rows.CoreBundleExport u refl e
known t.core_types bs u e = coded_passes (HasLine t.core_types) core_type_codes (byte_ahead bs 0) u refl e
known t.core_functions bs u e = alone (HasLine t.core_functions) rows.CoreFunctionType u refl e
known t.core_values bs u e = alone (HasLine t.core_values) rows.CoreValueType u refl e
known t.entities bs u e = coded_passes (HasLine t.entities) entity_codes (byte_ahead bs 0) u refl e
known t.components bs u e = alone (HasLine t.components) rows.Component u refl e
known t.instances bs u e = coded_passes (HasLine t.instances) instance_codes (byte_ahead bs 0) u refl e
known t.arguments bs u e = alone (HasLine t.arguments) rows.Argument u refl e
known t.bundle_exports bs u e = alone (HasLine t.bundle_exports) rows.BundleExport u refl e
known t.aliases bs u e = aliases_pass (HasLine t.aliases) bs 0 u refl refl refl e
known t.types bs u e = types_pass (HasLine t.types) (byte_ahead bs 0) u refl refl e
known t.named_types bs u e = alone (HasLine t.named_types) rows.NamedType u refl e
known t.cases bs u e = alone (HasLine t.cases) rows.CaseType u refl e
known t.lone_types bs u e = alone (HasLine t.lone_types) rows.LoneType u refl e
known t.lone_names bs u e = alone (HasLine t.lone_names) rows.LoneName u refl e
known t.canons bs u e = coded_passes (HasLine t.canons) canon_codes (byte_ahead bs 0) u refl e
known t.options bs u e = coded_passes (HasLine t.options) option_codes (byte_ahead bs 0) u refl e
known t.starts bs u e = alone (HasLine t.starts) rows.Start u refl e
known t.start_arguments bs u e = alone (HasLine t.start_arguments) rows.StartArgument u refl e
known t.imports bs u e = alone (HasLine t.imports) rows.Import u refl e
known t.exports bs u e = alone (HasLine t.exports) rows.Export u refl e
known t.descriptions bs u e = description_passes (HasLine t.descriptions) (byte_ahead bs 0) (byte_ahead bs 1) u refl refl refl refl refl refl e
known t.component_declarations bs u e =
    let P = HasLine t.component_declarations in
    either P u (byte_ahead bs 0 == 0x03) _ _ (alone P rows.Import u refl) (instance_declaration_passes P bs u refl refl refl refl refl refl refl) e
known t.instance_declarations bs u e = instance_declaration_passes (HasLine t.instance_declarations) bs u refl refl refl refl refl refl refl e
known t.module_declarations bs u e =
    let P = HasLine t.module_declarations in
    either P u (byte_ahead bs 0 == 0x00) _ _ (alone P rows.ModuleImport u refl)
    (either P u (byte_ahead bs 0 == 0x01) _ _ (coded_passes P core_type_codes (byte_ahead bs 1) u refl)
    (either P u (byte_ahead bs 0 == 0x02) _ _ (alone P rows.AliasOuter u refl) (either P u (byte_ahead bs 0 == 0x03) _ _ (alone P rows.ModuleExport u refl) (none P u)))) e
