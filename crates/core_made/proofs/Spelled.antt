-- A field whose view a text spells is one that a text can spell.
use Rattle.std.proofs.Common.{◌≡◌, ℕ, Bool, true, false, ◌&&◌, cond, nat_eq, List, [], ◌∷◌, Option, Some, None, refl}
use Rattle.std.specs.List.{list_all}
use denote.Bor.{Bor}
use Rattle.wast_parser.specs.View.{many_view, reference_view}
use Rattle.wast_parser.specs.declared.index.Id.{Id}
use Rattle.wast_parser.specs.declared.texts.NameAnnotation.{NameAnnotation}
use Rattle.wast_grammar.specs.Grammar.{Grammar, Test, Value, none, num, both, left, right, part_at, going, many, row, CoreField, either, by_test}
use Rattle.wast_grammar.specs.Rows.{text_row}
use Rattle.wast_grammar.specs.CoreRows.{module_field, import_or_more, func_or_more, global_or_more, export_or_more, import_field, item_signature, signature_parts, func_field, func_parts, func_rest, global_field, global_parts, global_rest, export_field, exported_item, export_kind, noted_group, field_group, field_groups}
use Rattle.wast_grammar.specs.FieldRows.{core_fields, some_core_fields}
use Rattle.wast_grammar.specs.Stand.{Stand}
use Rattle.wast_grammar.specs.Spells as sp
use Rattle.wast_grammar.specs.Spells.{Spells}
use Rattle.wast_grammar.specs.Read.{read, reads}
use Rattle.wast_grammar.proofs.Sound.{read_sound}
use Rattle.core_syntax.specs.CoreLaws.{sound_field_groups}
use Rattle.core_syntax.specs.CoreView.{kind_view, text_view, import_names_view, type_use_view, global_type_view, func_rest_view, global_rest_view, export_kind_view, field_group_view, is_nil, is_bare}
use Rattle.core_syntax.specs.declared.items.ItemKind.{ItemKind}
use Rattle.core_syntax.specs.declared.items.ItemKind.TheVariants as item
use Rattle.core_syntax.specs.declared.items.ExportKind.{ExportKind}
use Rattle.core_syntax.specs.declared.items.ExportKind.TheVariants as export
use Rattle.core_syntax.specs.declared.types.ValType.{ValType}
use Rattle.core_syntax.specs.declared.types.TypeUse.{TypeUse}
use Rattle.core_syntax.specs.declared.instructions.Expression.{Expression}
use Rattle.core_syntax.specs.declared.fields.Local.{Local}
use Rattle.core_syntax.specs.declared.fields.ModuleField.{ModuleField}
use Rattle.core_syntax.specs.declared.fields.ModuleField.TheVariants as field
use Rattle.core_made.specs.HasText.{kind_has_text, defines_or_imports, export_has_text, has_text}
use Rattle.core_made.proofs.Fields.{both_true}

both_hold : {a b : Bool} → a ≡ true → b ≡ true → (a && b) ≡ true
both_hold {a = true} h g = g
both_hold {a = false} h g = absurd (cc)

-- ---- values that the row of a field spells

-- of one of two
abbrev is_choice : Value → Bool
is_choice (left v) = true
is_choice (right v) = true
is_choice v = false

-- its signature is of a kind, its function or global is defined or imported, and its export is of a kind
abbrev is_field : Value → Bool
is_field (left v) = true
is_field (right (left (both w (both x (part_at o v))))) = is_choice v
is_field (right (right (left (part_at o (both h r))))) = is_choice r
is_field (right (right (right (left (part_at o (both h r)))))) = is_choice r
is_field (right (right (right (right (left (both w (both x (both (num k) i)))))))) = true
is_field (right (right (right (right (right v))))) = true
is_field v = false

abbrev is_grouped : Value → Bool
is_grouped (right v) = is_field v
is_grouped v = false

unfoldable are_grouped : Value → Bool
are_grouped (both u v) = is_grouped u && are_grouped v
are_grouped v = true

-- ---- they are spelled

chosen : {q : Test} {a b : Grammar} {s t : Stand} {v : Value} → Spells (either q a b) s t v → is_choice v ≡ true
chosen (sp.one d) = refl
chosen (sp.other d) = refl

chosen_by : {q : Test} {a b : Grammar} {s t : Stand} {v : Value} → Spells (by_test q a b) s t v → is_choice v ≡ true
chosen_by (sp.one_by h d) = refl
chosen_by (sp.other_by h d) = refl

module_field_is : (noted : Bool) {s t : Stand} {v : Value} → Spells (module_field noted) s t v → is_field v ≡ true
unfolding module_field import_or_more func_or_more global_or_more export_or_more import_field item_signature signature_parts func_field func_parts func_rest global_field global_parts global_rest export_field exported_item export_kind
module_field_is noted (sp.one d) = refl
module_field_is noted (sp.other (sp.one (sp.paired d (sp.paired e (sp.token h (sp.behind (sp.located x) g)))))) = chosen x
module_field_is noted (sp.other (sp.other (sp.one (sp.located (sp.paired d x))))) = chosen_by x
module_field_is noted (sp.other (sp.other (sp.other (sp.one (sp.located (sp.paired d x)))))) = chosen_by x
module_field_is noted (sp.other (sp.other (sp.other (sp.other (sp.one (sp.paired d (sp.paired e (sp.token h (sp.behind (sp.paired (sp.meant k) x) g))))))))) = refl
module_field_is noted (sp.other (sp.other (sp.other (sp.other (sp.other d))))) = refl

-- a field of an annotation stands where other fields do
noted_is : {s t : Stand} {v : Value} → Spells noted_group s t v → is_grouped v ≡ true
unfolding noted_group
noted_is (sp.one_by _ d) = elim d [ ]
noted_is (sp.other_by _ (sp.one_by _ d)) = elim d [ ]
noted_is (sp.other_by _ (sp.other_by _ (sp.one_by _ d))) = elim d [ ]
noted_is (sp.other_by _ (sp.other_by _ (sp.other_by _ (sp.one_by _ d)))) = elim d [ ]
noted_is (sp.other_by _ (sp.other_by _ (sp.other_by _ (sp.other_by _ (sp.one_by _ d))))) = elim d [ ]
noted_is (sp.other_by _ (sp.other_by _ (sp.other_by _ (sp.other_by _ (sp.other_by _ (sp.one_by _ d)))))) = elim d [ ]
noted_is (sp.other_by _ (sp.other_by _ (sp.other_by _ (sp.other_by _ (sp.other_by _ (sp.other_by _ d)))))) = refl

field_group_is : {s t : Stand} {v : Value} → Spells field_group s t v → is_grouped v ≡ true
unfolding field_group
field_group_is (sp.makes (sp.one d) h) = noted_is d
field_group_is (sp.makes (sp.other (sp.token h (sp.behind d g))) i) = module_field_is false d

row_is : {s t : Stand} {v : Value} → Spells (row CoreField) s t v → is_grouped v ≡ true
unfolding text_row
row_is (sp.by_row d) = field_group_is d

fields_are : {s t : Stand} {v : Value} → Spells (many going (row CoreField)) s t v → are_grouped v ≡ true
unfolding are_grouped
fields_are sp.no_more = refl
fields_are (sp.one_more d e) = both_hold (row_is d) (fields_are e)

some_are : {s t : Stand} {v : Value} → Spells some_core_fields s t v → are_grouped v ≡ true
unfolding are_grouped
some_are (sp.paired d e) = both_hold (row_is d) (fields_are e)

groups_are : {s t : Stand} {v : Value} → Spells field_groups s t v → are_grouped v ≡ true
unfolding field_groups are_grouped
groups_are sp.no_more = refl
groups_are (sp.one_more d e) = both_hold (field_group_is d) (groups_are e)

-- ---- and so the trees of these views are those of a text

-- a choice that stands where a test holds, and nothing else
of_chosen : (b : Bool) (v : Value) → is_choice (cond b v none) ≡ true → b ≡ true
of_chosen true v h = refl
of_chosen false v h = absurd (cc)

kind_is : (x : Option Id) (n : Option NameAnnotation) (k : ItemKind) (o : ℕ) → is_choice (kind_view (x, n) k o) ≡ true → kind_has_text x n o k ≡ true
kind_is x n (item.Func u) o h = refl
kind_is x n (item.Global v b) o h = refl
kind_is x n (item.Table l r) o h = refl
kind_is x n (item.Memory l) o h = refl
kind_is x n (item.Other s) o h = of_chosen (is_bare x n && nat_eq s.offset o) (right (right (right (right none)))) h

export_is : (k : ExportKind) (w x i : Value) → is_field (right (right (right (right (left (both w (both x (both (export_kind_view k) i)))))))) ≡ true → export_has_text k ≡ true
export_is export.Func w x i h = refl
export_is export.Table w x i h = refl
export_is export.Memory w x i h = refl
export_is export.Global w x i h = refl
export_is export.Tag w x i h = absurd (cc)

func_is : (j : Option (Bor (List ℕ) × Bor (List ℕ))) (u : TypeUse) (ls : List Local) (e : Expression) → is_choice (func_rest_view j u ls e) ≡ true → defines_or_imports j (is_nil ls && is_nil e.instrs.items) ≡ true
func_is None u ls e h = refl
func_is (Some j) u ls e h = of_chosen (is_nil ls && is_nil e.instrs.items) (left (both (import_names_view j) (type_use_view u))) h

global_is : (j : Option (Bor (List ℕ) × Bor (List ℕ))) (t : ValType × Bool) (e : Expression) → is_choice (global_rest_view j t e) ≡ true → defines_or_imports j (is_nil e.instrs.items) ≡ true
global_is None t e h = refl
global_is (Some j) t e h = of_chosen (is_nil e.instrs.items) (left (both (import_names_view j) (global_type_view t))) h

field_is : (f : ModuleField) → is_grouped (field_group_view f) ≡ true → has_text f ≡ true
field_is (field.Ty t) h = refl
field_is (field.Import m) h = kind_is m.sig.id m.sig.name m.sig.kind m.sig.span.offset h
field_is (field.Func f) h = func_is f.import f.ty f.locals.items f.body h
field_is (field.Memory m) h = refl
field_is (field.Table t) h = refl
field_is (field.Global g) h = global_is g.import (g.ty, g.mutable) g.init h
field_is (field.Export e) h = export_is e.kind (part_at e.span.offset none) (text_view e.name) (reference_view e.item) h
field_is (field.Other s) h = refl

have_text : (fs : List ModuleField) → are_grouped (many_view field_group_view fs) ≡ true → list_all has_text fs ≡ true
unfolding are_grouped
have_text [] h = refl
have_text (f ∷ fs) h =
    let grouped = both_true (is_grouped (field_group_view f)) (are_grouped (many_view field_group_view fs)) h in
    both_hold (field_is f grouped.0) (have_text fs grouped.1)

-- the fields of a module, and those of a text that is its fields alone
pub fields_have_text : (fs : List ModuleField) {s t : Stand} → Spells core_fields s t (many_view field_group_view fs) → list_all has_text fs ≡ true
fields_have_text fs d = have_text fs (fields_are d)

pub some_fields_have_text : (fs : List ModuleField) {s t : Stand} → Spells some_core_fields s t (many_view field_group_view fs) → list_all has_text fs ≡ true
some_fields_have_text fs d = have_text fs (some_are d)

-- so do those that reading by their row gives
pub read_fields_have_text : (fs : List ModuleField) (s t : Stand) → read field_groups s ≡ reads (many_view field_group_view fs) t → list_all has_text fs ≡ true
read_fields_have_text fs s t e = have_text fs (groups_are (read_sound field_groups s t (many_view field_group_view fs) sound_field_groups e).0)
