-- Which fields a tree may hold that a text spells. A tree made by hand may hold others, whose view no text spells.
use Rattle.std.specs.Prelude.{ℕ, Bool, true, false, ◌&&◌, nat_eq, Option, Some, None}
use Rattle.wast_parser.specs.declared.index.Id.{Id}
use Rattle.wast_parser.specs.declared.texts.NameAnnotation.{NameAnnotation}
use Rattle.core_syntax.specs.CoreView.{is_bare, is_nil}
use Rattle.core_syntax.specs.declared.items.ItemKind.{ItemKind}
use Rattle.core_syntax.specs.declared.items.ItemKind.TheVariants as item
use Rattle.core_syntax.specs.declared.items.ExportKind.{ExportKind}
use Rattle.core_syntax.specs.declared.items.ExportKind.TheVariants as export
use Rattle.core_syntax.specs.declared.fields.ModuleField.{ModuleField}
use Rattle.core_syntax.specs.declared.fields.ModuleField.TheVariants as field

-- an import that is read and never written has no id and no label, and stands where the word of its signature does
abbrev pub kind_has_text : Option Id → Option NameAnnotation → (offset : ℕ) → ItemKind → Bool
kind_has_text id name offset (item.Other s) = is_bare id name && nat_eq s.offset offset
kind_has_text id name offset (item.Func u) = true
kind_has_text id name offset (item.Table l r) = true
kind_has_text id name offset (item.Memory l) = true
kind_has_text id name offset (item.Global v m) = true

-- with an inline import there is nothing to define
abbrev pub defines_or_imports : {A : Type 0} → Option A → (empty : Bool) → Bool
defines_or_imports None empty = true
defines_or_imports (Some i) empty = empty

-- no text exports a tag
abbrev pub export_has_text : ExportKind → Bool
export_has_text export.Func = true
export_has_text export.Table = true
export_has_text export.Memory = true
export_has_text export.Global = true
export_has_text export.Tag = false

abbrev pub has_text : ModuleField → Bool
has_text (field.Ty t) = true
has_text (field.Import m) = kind_has_text m.sig.id m.sig.name m.sig.span.offset m.sig.kind
has_text (field.Func f) = defines_or_imports f.import (is_nil f.locals.items && is_nil f.body.instrs.items)
has_text (field.Memory m) = true
has_text (field.Table t) = true
has_text (field.Global g) = defines_or_imports g.import (is_nil g.init.instrs.items)
has_text (field.Export e) = export_has_text e.kind
has_text (field.Other s) = true
