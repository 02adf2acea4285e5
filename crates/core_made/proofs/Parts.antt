-- What is made of the views of a field's parts is what the parts stand for.
use Rattle.std.proofs.Common.{◌≡◌, ◌^◌, ℕ, ℤ, pos, negsuc, Bool, true, false, List, [], ◌∷◌, map, Option, Some, None, option_map, refl, ap, ◌∙◌, w32, w64}
use Rattle.std.specs.Int.{cast_signed, cast_unsigned}
use Rattle.std.proofs.lemmas.Int.{to_z-of_z}
use denote.Bor.{Bor}
use Rattle.comp_model.specs.Core.{Text, CoreValue}
use Rattle.comp_model.specs.CoreModules as c
use Rattle.core_model.specs.Words.{IntWord, InstructionWord, BodyWord}
use Rattle.wast_grammar.specs.Grammar.{Value, num}
use Rattle.wast_parser.specs.View.{id_view, reference_view, option_view, many_view}
use Rattle.wast_parser.specs.declared.index.Id.{Id}
use Rattle.wast_parser.specs.declared.index.Index.{Index}
use Rattle.wast_parser.specs.declared.index.Index.TheVariants as reference
use Rattle.wast_parser.specs.declared.texts.NameAnnotation.{NameAnnotation}
use Rattle.core_syntax.specs.Ids.{option_id, reference_of}
use Rattle.core_syntax.specs.Fields.{label_of, naming_of, heap_value, ref_value, value_of, param_of, type_of, def_of, use_of, limits_of, local_of, pair_of, instruction_of}
use Rattle.core_syntax.specs.CoreView.{flag_view, heap_view, reference_type_view, value_type_view, label_view, item_of, param_item_view, local_item_view, next_item_view, groups_view, function_type_view, type_use_view, type_definition_view, instruction_view, limits_view, global_type_view, import_names_view, text_view, optional_import_view}
use Rattle.core_syntax.specs.declared.types.ValType.{ValType}
use Rattle.core_syntax.specs.declared.types.ValType.TheVariants as val
use Rattle.core_syntax.specs.declared.types.RefType.{RefType}
use Rattle.core_syntax.specs.declared.types.HeapType.{HeapType}
use Rattle.core_syntax.specs.declared.types.HeapType.TheVariants as heap
use Rattle.core_syntax.specs.declared.types.Param.{Param}
use Rattle.core_syntax.specs.declared.types.FunctionType.{FunctionType}
use Rattle.core_syntax.specs.declared.types.TypeDef.{TypeDef}
use Rattle.core_syntax.specs.declared.types.TypeDef.TheVariants as def
use Rattle.core_syntax.specs.declared.types.TypeUse.{TypeUse}
use Rattle.core_syntax.specs.declared.items.Limits.{Limits}
use Rattle.core_syntax.specs.declared.instructions.Instruction.{Instruction}
use Rattle.core_syntax.specs.declared.instructions.Instruction.TheVariants as i
use Rattle.core_syntax.specs.declared.fields.Local.{Local}
use Rattle.text_rules.specs.CoreMade as made
use Rattle.text_rules.specs.CoreMade.{optional, list_made, text_made, number_made, id_made, index_made, naming_made, is_there, heap_made, value_made, local_made, item_behind, grouped, function_made, use_made, definition_made, limits_made, global_made, instruction_made, pair_made}

-- ---- optional parts and lists

module _ {A B : Type 0} (f : Value → B) (view : A → Value) (of : A → B) (each : (x : A) → f (view x) ≡ of x) where
  pub optional_is : (x : Option A) → optional f (option_view view x) ≡ option_map of x
  optional_is None = refl
  optional_is (Some x) = ap Some (each x)

  pub list_is : (xs : List A) → list_made f (many_view view xs) ≡ map of xs
  unfolding list_made
  list_is [] = refl
  list_is (x ∷ xs) = ap (λ y. y ∷ list_made f (many_view view xs)) (each x) ∙ ap (λ ys. of x ∷ ys) (list_is xs)

  behind_is : (xs : List A) → list_made (item_behind f) (many_view (next_item_view view) xs) ≡ map of xs
  unfolding list_made
  behind_is [] = refl
  behind_is (x ∷ xs) = ap (λ y. y ∷ list_made (item_behind f) (many_view (next_item_view view) xs)) (each x) ∙ ap (λ ys. of x ∷ ys) (behind_is xs)

  -- the items of groups, which stand as one list
  pub grouped_is : (xs : List A) → grouped f (groups_view view xs) ≡ map of xs
  grouped_is [] = refl
  grouped_is (x ∷ xs) = ap (λ y. y ∷ list_made (item_behind f) (many_view (next_item_view view) xs)) (each x) ∙ ap (λ ys. of x ∷ ys) (behind_is xs)

pub number_is : (m : Option ℕ) → optional number_made (option_view num m) ≡ m
number_is None = refl
number_is (Some n) = refl

pub texts_is : (xs : List (Bor Text)) → list_made text_made (many_view text_view xs) ≡ map (λ x. x.now) xs
texts_is = list_is text_made text_view (λ x. x.now) (λ x. refl)

pub imported_is : (x : Option (Bor Text × Bor Text)) → optional pair_made (optional_import_view x) ≡ option_map pair_of x
imported_is = optional_is pair_made import_names_view pair_of (λ x. refl)

-- ---- ids, labels and references

pub id_is : (x : Option Id) → optional id_made (option_view id_view x) ≡ option_id x
id_is None = refl
id_is (Some x) = refl

pub label_is : (n : Option NameAnnotation) → optional text_made (option_view label_view n) ≡ label_of n
label_is = optional_is text_made label_view (λ a. a.name.now) (λ a. refl)

pub naming_is : (x : Option Id) (n : Option NameAnnotation) → naming_made (option_view id_view x) (option_view label_view n) ≡ naming_of x n
naming_is None None = refl
naming_is None (Some n) = refl
naming_is (Some x) None = refl
naming_is (Some x) (Some n) = refl

pub index_is : (x : Index) → index_made (reference_view x) ≡ reference_of x
index_is (reference.Num n s) = refl
index_is (reference.Id x) = refl

-- ---- value types

heap_is : (b : Bool) (h : HeapType) → heap_made (is_there (flag_view b)) (heap_view h) ≡ heap_value b h
heap_is true heap.Func = refl
heap_is true heap.Extern = refl
heap_is true (heap.Concrete (reference.Num n s)) = refl
heap_is true (heap.Concrete (reference.Id x)) = refl
heap_is false heap.Func = refl
heap_is false heap.Extern = refl
heap_is false (heap.Concrete (reference.Num n s)) = refl
heap_is false (heap.Concrete (reference.Id x)) = refl

pub reference_type_is : (r : RefType) → made.reference_type_made (reference_type_view r) ≡ ref_value r
reference_type_is r = heap_is r.nullable r.heap

pub value_is : (v : ValType) → value_made (value_type_view v) ≡ value_of v
value_is (val.Ref r) = reference_type_is r
value_is _ = refl

-- ---- types and their uses

abbrev a_local : c.Naming → CoreValue → c.Local
a_local n v = record { naming = n; value = v }

item_is : (x : Option Id) (n : Option NameAnnotation) (v : Value) → local_made (item_of x n v) ≡ a_local (naming_of x n) (value_made v)
item_is None None v = refl
item_is None (Some n) v = refl
item_is (Some x) None v = refl
item_is (Some x) (Some n) v = refl

param_is : (p : Param) → local_made (param_item_view p) ≡ param_of p
param_is p = item_is p.id p.name (value_type_view p.ty) ∙ ap (a_local (naming_of p.id p.name)) (value_is p.ty)

local_is : (l : Local) → local_made (local_item_view l) ≡ local_of l
local_is l = item_is l.id l.name (value_type_view l.ty) ∙ ap (a_local (naming_of l.id l.name)) (value_is l.ty)

pub locals_is : (ls : List Local) → grouped local_made (groups_view local_item_view ls) ≡ map local_of ls
locals_is = grouped_is local_made local_item_view local_of local_is

abbrev a_type : List c.Local → List CoreValue → c.FunctionType
a_type ps rs = record { params = ps; results = rs }

function_is : (t : FunctionType) → function_made (function_type_view t) ≡ type_of t
function_is t =
    ap (λ ps. a_type ps (grouped value_made (groups_view value_type_view t.results.items))) (grouped_is local_made param_item_view param_of param_is t.params.items)
    ∙ ap (a_type (map param_of t.params.items)) (grouped_is value_made value_type_view value_of value_is t.results.items)

abbrev a_use : Option c.Index → Option c.FunctionType → c.TypeUse
a_use x s = record { index = x; signature = s }

pub use_is : (u : TypeUse) → use_made (type_use_view u) ≡ use_of u
use_is u =
    ap (λ x. a_use x (optional function_made (option_view function_type_view u.inline))) (optional_is index_made reference_view reference_of index_is u.index)
    ∙ ap (a_use (option_map reference_of u.index)) (optional_is function_made function_type_view type_of function_is u.inline)

pub definition_is : (d : TypeDef) → definition_made (type_definition_view d) ≡ def_of d
definition_is (def.Func t) = ap c.function (function_is t)
definition_is (def.Other s) = refl

-- ---- items

pub limits_is : (l : Limits) → limits_made (limits_view l) ≡ limits_of l
limits_is l = ap (λ (m : Option ℕ). record { least = l.min; most = m }) (number_is l.max)

module _ {A : Type 0} (f : CoreValue → Bool → A) where
  pub global_is : (v : ValType) (m : Bool) → global_made f (global_type_view (v, m)) ≡ f (value_of v) m
  global_is v true = ap (λ x. f x true) (value_is v)
  global_is v false = ap (λ x. f x false) (value_is v)

-- ---- instructions

-- a constant is read with the sign that it was written with
signed_32 : (z : ℤ) → IntWord (2 ^ 31) z → cast_signed w32 (cast_unsigned w32 z) ≡ z
signed_32 (pos n) h = to_z-of_z w32 (pos n) (record { sfits = h })
signed_32 (negsuc n) h = to_z-of_z w32 (negsuc n) (record { sfits = h })

signed_64 : (z : ℤ) → IntWord (2 ^ 63) z → cast_signed w64 (cast_unsigned w64 z) ≡ z
signed_64 (pos n) h = to_z-of_z w64 (pos n) (record { sfits = h })
signed_64 (negsuc n) h = to_z-of_z w64 (negsuc n) (record { sfits = h })

instruction_is : (x : Instruction) → InstructionWord (instruction_of x) → instruction_made (instruction_view x) ≡ instruction_of x
instruction_is i.Unreachable h = refl
instruction_is i.Nop h = refl
instruction_is i.Return h = refl
instruction_is (i.Call x) h = ap c.call (index_is x)
instruction_is i.Drop h = refl
instruction_is (i.LocalGet x) h = ap c.local_get (index_is x)
instruction_is (i.LocalSet x) h = ap c.local_set (index_is x)
instruction_is (i.LocalTee x) h = ap c.local_tee (index_is x)
instruction_is (i.GlobalGet x) h = ap c.global_get (index_is x)
instruction_is (i.GlobalSet x) h = ap c.global_set (index_is x)
instruction_is (i.I32Const n) h = ap c.i32_const (signed_32 n h)
instruction_is (i.I64Const n) h = ap c.i64_const (signed_64 n h)
instruction_is i.I32Add h = refl
instruction_is i.I32Sub h = refl
instruction_is i.I32Mul h = refl
instruction_is (i.Other s) h = refl

pub instructions_is : (is : List Instruction) → BodyWord (map instruction_of is) → list_made instruction_made (many_view instruction_view is) ≡ map instruction_of is
unfolding list_made
instructions_is [] h = refl
instructions_is (x ∷ is) h = ap (λ y. y ∷ list_made instruction_made (many_view instruction_view is)) (instruction_is x h.0) ∙ ap (λ ys. instruction_of x ∷ ys) (instructions_is is h.1)
