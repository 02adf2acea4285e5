-- What is made of the views of fields is what the fields stand for, where a text can spell them.
use Rattle.std.proofs.Common.{◌≡◌, ℕ, Bool, true, false, ◌&&◌, cond, eqb-true, List, [], ◌∷◌, map, Option, Some, None, option_map, refl, sym, ap, ◌∙◌, subst}
use Rattle.std.specs.List.{list_all}
use denote.Bor.{Bor}
use Rattle.comp_model.specs.Core.{Text}
use Rattle.comp_model.specs.CoreModules as c
use Rattle.comp_model.specs.Model.{core_source}
use Rattle.core_model.specs.Module.{module_with}
use Rattle.core_model.specs.Words.{BodyWord, FieldWord, FieldsWord}
use Rattle.wast_grammar.specs.Grammar.{none, both, left, right, part_at}
use Rattle.wast_parser.specs.View.{many_view}
use Rattle.wast_parser.specs.declared.index.Id.{Id}
use Rattle.wast_parser.specs.declared.index.Index.{Index}
use Rattle.wast_parser.specs.declared.texts.NameAnnotation.{NameAnnotation}
use Rattle.core_syntax.specs.Ids.{option_id, reference_of}
use Rattle.core_syntax.specs.Fields.{label_of, naming_of, value_of, use_of, limits_of, entity_of, space_of, local_of, pair_of, inline_of, instruction_of, body_of, memory_of, table_of, field_of, fields_of}
use Rattle.core_syntax.specs.CoreView.{reference_type_view, type_use_view, type_definition_view, expression_view, limits_view, groups_view, local_item_view, global_type_view, kind_view, import_names_view, optional_import_view, text_view, head_view, func_rest_view, global_rest_view, exported_item_view, field_view, field_group_view, is_nil}
use Rattle.core_syntax.specs.declared.types.ValType.{ValType}
use Rattle.core_syntax.specs.declared.types.TypeUse.{TypeUse}
use Rattle.core_syntax.specs.declared.items.ItemKind.{ItemKind}
use Rattle.core_syntax.specs.declared.items.ItemKind.TheVariants as item
use Rattle.core_syntax.specs.declared.items.ExportKind.{ExportKind}
use Rattle.core_syntax.specs.declared.items.ExportKind.TheVariants as export
use Rattle.core_syntax.specs.declared.instructions.Expression.{Expression}
use Rattle.core_syntax.specs.declared.fields.ModuleField.{ModuleField}
use Rattle.core_syntax.specs.declared.fields.ModuleField.TheVariants as field
use Rattle.core_syntax.specs.declared.fields.Local.{Local}
use Rattle.core_syntax.specs.declared.fields.Memory.{Memory}
use Rattle.core_syntax.specs.declared.fields.Table.{Table}
use Rattle.text_rules.specs.CoreMade.{optional, list_made, text_made, use_made, grouped, local_made, definition_made, limits_made, reference_type_made, global_made, signature_made, instruction_made, pair_made, head_made, func_rest, global_rest, imported_head, field_made, grouped_field, core_module_of}
use Rattle.text_rules.specs.Made.{owned}
use Rattle.core_made.specs.HasText.{kind_has_text, defines_or_imports, export_has_text, has_text}
use Rattle.core_made.proofs.Parts.{texts_is, imported_is, naming_is, index_is, reference_type_is, locals_is, use_is, definition_is, limits_is, global_is, instructions_is}

pub both_true : (a b : Bool) → (a && b) ≡ true → (a ≡ true) × (b ≡ true)
both_true true b h = (refl, h)
both_true false b h = absurd (cc)

nil_is : {A : Type 0} (xs : List A) → is_nil xs ≡ true → xs ≡ []
nil_is [] h = refl
nil_is (x ∷ xs) h = absurd (cc)

-- ---- imports

module _ {A : Type 0} (f : c.Naming → c.Entity → A) where
  signature_is : (x : Option Id) (n : Option NameAnnotation) (k : ItemKind) (o : ℕ) → kind_has_text x n o k ≡ true → signature_made f o (kind_view (x, n) k o) ≡ f (naming_of x n) (entity_of k)
  signature_is x n (item.Func u) o h = ap (λ m. f m (c.func (use_made (type_use_view u)))) (naming_is x n) ∙ ap (λ t. f (naming_of x n) (c.func t)) (use_is u)
  signature_is x n (item.Global v b) o h = ap (λ m. f m (global_made c.global (global_type_view (v, b)))) (naming_is x n) ∙ ap (f (naming_of x n)) (global_is c.global v b)
  signature_is x n (item.Table l r) o h =
      ap (λ m. f m (c.table (limits_made (limits_view l)) (reference_type_made (reference_type_view r)))) (naming_is x n)
      ∙ ap (λ l. f (naming_of x n) (c.table l (reference_type_made (reference_type_view r)))) (limits_is l)
      ∙ ap (λ v. f (naming_of x n) (c.table (limits_of l) v)) (reference_type_is r)
  signature_is x n (item.Memory l) o h = ap (λ m. f m (c.memory (limits_made (limits_view l)))) (naming_is x n) ∙ ap (λ l. f (naming_of x n) (c.memory l)) (limits_is l)
  signature_is None None (item.Other s) o h = subst (λ b. signature_made f o (cond b (right (right (right (right none)))) none) ≡ f (naming_of None None) (c.other_entity s.offset)) (sym h) (ap (λ o. f (naming_of None None) (c.other_entity o)) (sym (eqb-true s.offset o h)))
  signature_is None (Some n) (item.Other s) o h = absurd (cc)
  signature_is (Some x) n (item.Other s) o h = absurd (cc)

-- ---- what may be exported and imported inline

abbrev an_inline : List Text → Option (Text × Text) → c.Inline
an_inline es i = record { exports = es; imported = i }

module _ {A : Type 0} (f : c.Naming → List Text → A) where
  head_is : (x : Option Id) (n : Option NameAnnotation) (es : List (Bor Text)) → head_made f (head_view (x, n) es) ≡ f (naming_of x n) (map (λ e. e.now) es)
  head_is x n es = ap (λ m. f m (list_made text_made (many_view text_view es))) (naming_is x n) ∙ ap (f (naming_of x n)) (texts_is es)

module _ (f : c.Naming → c.Inline → c.Field) where
  imported_head_is : (x : Option Id) (n : Option NameAnnotation) (es : List (Bor Text)) (j : Option (Bor Text × Bor Text)) → imported_head f (both (head_view (x, n) es) (optional_import_view j)) ≡ f (naming_of x n) (inline_of es j)
  imported_head_is x n es j =
      head_is (λ n e. f n (an_inline e (optional pair_made (optional_import_view j)))) x n es
      ∙ ap (λ i. f (naming_of x n) (an_inline (map (λ e. e.now) es) i)) (imported_is j)

func_rest_is : (o : ℕ) (n : c.Naming) (es : List Text) (j : Option (Bor Text × Bor Text)) (u : TypeUse) (ls : List Local) (b : Expression) → defines_or_imports j (is_nil ls && is_nil b.instrs.items) ≡ true → BodyWord (body_of b)
    → func_rest o (func_rest_view j u ls b) n es ≡ c.func_field o n (an_inline es (option_map pair_of j)) (use_of u) (map local_of ls) (body_of b)
func_rest_is o n es None u ls b h w =
    ap (λ t. c.func_field o n (an_inline es None) t (grouped local_made (groups_view local_item_view ls)) (list_made instruction_made (expression_view b))) (use_is u)
    ∙ ap (λ xs. c.func_field o n (an_inline es None) (use_of u) xs (list_made instruction_made (expression_view b))) (locals_is ls)
    ∙ ap (λ xs. c.func_field o n (an_inline es None) (use_of u) (map local_of ls) xs) (instructions_is b.instrs.items w)
func_rest_is o n es (Some j) u ls b h w =
    let empty = both_true (is_nil ls) (is_nil b.instrs.items) h in
    let value = both (import_names_view j) (type_use_view u) in
    ap (λ t. func_rest o (cond t (left value) none) n es) h
    ∙ ap (λ t. c.func_field o n (an_inline es (Some (pair_of j))) t [] []) (use_is u)
    ∙ ap (λ xs. c.func_field o n (an_inline es (Some (pair_of j))) (use_of u) (map local_of xs) []) (sym (nil_is ls empty.0))
    ∙ ap (λ xs. c.func_field o n (an_inline es (Some (pair_of j))) (use_of u) (map local_of ls) (map instruction_of xs)) (sym (nil_is b.instrs.items empty.1))

global_rest_is : (o : ℕ) (n : c.Naming) (es : List Text) (j : Option (Bor Text × Bor Text)) (v : ValType) (m : Bool) (b : Expression) → defines_or_imports j (is_nil b.instrs.items) ≡ true → BodyWord (body_of b)
    → global_rest o (global_rest_view j (v, m) b) n es ≡ c.global_field o n (an_inline es (option_map pair_of j)) (value_of v) m (body_of b)
global_rest_is o n es None v m b h w =
    global_is (λ v m. c.global_field o n (an_inline es None) v m (list_made instruction_made (expression_view b))) v m
    ∙ ap (c.global_field o n (an_inline es None) (value_of v) m) (instructions_is b.instrs.items w)
global_rest_is o n es (Some j) v m b h w =
    let value = both (import_names_view j) (global_type_view (v, m)) in
    ap (λ t. global_rest o (cond t (left value) none) n es) h
    ∙ global_is (λ v m. c.global_field o n (an_inline es (Some (pair_of j))) v m []) v m
    ∙ ap (λ xs. c.global_field o n (an_inline es (Some (pair_of j))) (value_of v) m (map instruction_of xs)) (sym (nil_is b.instrs.items h))

-- ---- fields

memory_is : (m : Memory) → field_made (field_view (field.Memory m)) ≡ memory_of m
memory_is m =
    imported_head_is (λ n i. c.memory_field m.span.offset n i (limits_made (limits_view m.limits))) m.id m.name m.exports.items m.import
    ∙ ap (c.memory_field m.span.offset (naming_of m.id m.name) (inline_of m.exports.items m.import)) (limits_is m.limits)

table_is : (t : Table) → field_made (field_view (field.Table t)) ≡ table_of t
table_is t =
    imported_head_is (λ n i. c.table_field t.span.offset n i (limits_made (limits_view t.limits)) (reference_type_made (reference_type_view t.ty))) t.id t.name t.exports.items t.import
    ∙ ap (λ l. c.table_field t.span.offset (naming_of t.id t.name) (inline_of t.exports.items t.import) l (reference_type_made (reference_type_view t.ty))) (limits_is t.limits)
    ∙ ap (c.table_field t.span.offset (naming_of t.id t.name) (inline_of t.exports.items t.import) (limits_of t.limits)) (reference_type_is t.ty)

export_is : (o : ℕ) (x : Bor Text) (k : ExportKind) (i : Index) → export_has_text k ≡ true
    → field_made (right (right (right (right (left (both (part_at o none) (both (text_view x) (exported_item_view (k, i))))))))) ≡ c.export_field o x.now (space_of k) (reference_of i)
export_is o x export.Func i h = ap (c.export_field o x.now (space_of export.Func)) (index_is i)
export_is o x export.Table i h = ap (c.export_field o x.now (space_of export.Table)) (index_is i)
export_is o x export.Memory i h = ap (c.export_field o x.now (space_of export.Memory)) (index_is i)
export_is o x export.Global i h = ap (c.export_field o x.now (space_of export.Global)) (index_is i)
export_is o x export.Tag i h = absurd (cc)

field_is : (f : ModuleField) → has_text f ≡ true → FieldWord (field_of f) → field_made (field_view f) ≡ field_of f
field_is (field.Ty t) h w =
    ap (λ n. c.type_field t.span.offset n (definition_made (type_definition_view t.def))) (naming_is t.id t.name)
    ∙ ap (c.type_field t.span.offset (naming_of t.id t.name)) (definition_is t.def)
field_is (field.Import m) h w = signature_is (c.import_field m.span.offset m.module.now m.name.now) m.sig.id m.sig.name m.sig.kind m.sig.span.offset h
field_is (field.Func f) h w =
    head_is (func_rest f.span.offset (func_rest_view f.import f.ty f.locals.items f.body)) f.id f.name f.exports.items
    ∙ func_rest_is f.span.offset (naming_of f.id f.name) (map (λ e. e.now) f.exports.items) f.import f.ty f.locals.items f.body h w.2
field_is (field.Memory m) h w = memory_is m
field_is (field.Table t) h w = table_is t
field_is (field.Global g) h w =
    head_is (global_rest g.span.offset (global_rest_view g.import (g.ty, g.mutable) g.init)) g.id g.name g.exports.items
    ∙ global_rest_is g.span.offset (naming_of g.id g.name) (map (λ e. e.now) g.exports.items) g.import g.ty g.mutable g.init h w.1
field_is (field.Export e) h w = export_is e.span.offset e.name e.kind e.item h
field_is (field.Other s) h w = refl

fields_is : (fs : List ModuleField) → list_all has_text fs ≡ true → FieldsWord (fields_of fs) → list_made grouped_field (many_view field_group_view fs) ≡ fields_of fs
unfolding list_made
fields_is [] h w = refl
fields_is (f ∷ fs) h w =
    let spelled = both_true (has_text f) (list_all has_text fs) h in
    ap (λ y. y ∷ list_made grouped_field (many_view field_group_view fs)) (field_is f spelled.0 w.0) ∙ ap (λ ys. field_of f ∷ ys) (fields_is fs spelled.1 w.1)

-- a core module without names
abbrev pub no_naming : c.Naming
no_naming = record { id = None; label = None }

pub core_module_is : (fs : List ModuleField) → list_all has_text fs ≡ true → FieldsWord (fields_of fs) → core_module_of (many_view field_group_view fs) ≡ module_with no_naming (fields_of fs)
unfolding core_module_of
core_module_is fs h w = ap (module_with no_naming) (fields_is fs h w)

-- the definition of the module gives it its id and its label
pub named_module_is : (x : Option Id) (n : Option NameAnnotation) (fs : List ModuleField) → list_all has_text fs ≡ true → FieldsWord (fields_of fs)
    → owned (option_id x) (label_of n) (core_source (core_module_of (many_view field_group_view fs))) ≡ core_source (module_with (naming_of x n) (fields_of fs))
named_module_is x n fs h w = ap (λ m. owned (option_id x) (label_of n) (core_source m)) (core_module_is fs h w)
