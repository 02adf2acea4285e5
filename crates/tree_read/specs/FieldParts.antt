-- The parts of a field of a core module.
use Rattle.std.specs.Prelude.{◌≡◌, ℕ, List, [], ◌∷◌, ◌++◌, Result, Ok, Err, Bool, cond, true, false, length}
use Rattle.std.proofs.Common.{Vec, Global}
use Rattle.wast_grammar.specs.Classes.{same, closing}
use Rattle.wast_grammar.specs.Stand.{Stand, class_at, moved}
use Rattle.wast_grammar.specs.Grammar.{Value, right}
use Rattle.wast_grammar.specs.Read.{Outcome, reads, fault, read, andthen}
use Rattle.wast_grammar.specs.CoreRows.{field_group, module_field}
use Rattle.wast_parser.specs.View.{many_view}
use Rattle.text_rules.specs.Rule.{Outside, core_fields, some_core_fields}
use Rattle.tree_read.specs.Comes.{FailsBy}
use Rattle.tree_read.specs.declared.fault.Fault.{Fault}

-- what is made of a value, and the parenthesis behind it
abbrev pub closed : (Value → Value) → Outcome → Outcome
closed f o = andthen o (λ v t. cond (same (class_at t) closing) (reads (f v) (moved t 1)) (fault t))

-- Where a field begins, with its parenthesis taken unless an annotation opens its group.
abbrev pub EntersField : {X : Type 0} → Result X Fault → Stand → Stand → Type 0
EntersField (Ok x) s t = read field_group s ≡ closed right (read (module_field true) t)
EntersField (Err e) s t = FailsBy e t (read field_group s)

-- what stands in a group, as the rows of fields have it
abbrev pub grouped : {A : Type 0} → (A → Value) → A → Value
grouped view x = right (view x)

-- one item was read, and put behind others
pub record ItemRead {A : Type 0} (view : A → Value) (o : Outcome) (t : Stand) (xs ys : List A) : Type 0 where
  pub item : A
  pub read : o ≡ reads (view item) t
  pub items : ys ≡ xs ++ (item ∷ [])

abbrev pub ReadsItem : {X A : Type 0} → (A → Value) → Result X Fault → Outcome → Stand → List A → List A → Type 0
ReadsItem view (Ok x) o t xs ys = ItemRead view o t xs ys
ReadsItem view (Err e) o t xs ys = FailsBy e t o

-- items were read as one more list, which has this number
pub record ListRead {A : Type 0} (view : A → Value) (o : Outcome) (t : Stand) (n : ℕ) (xs ys : List (Vec A Global)) : Type 0 where
  pub list : Vec A Global
  pub read : o ≡ reads (many_view view list.items) t
  pub number : n ≡ length xs
  pub lists : ys ≡ xs ++ (list ∷ [])

abbrev pub ReadsList : {A : Type 0} → (A → Value) → Result ℕ Fault → Outcome → Stand → List (Vec A Global) → List (Vec A Global) → Type 0
ReadsList view (Ok n) o t xs ys = ListRead view o t n xs ys
ReadsList view (Err e) o t xs ys = FailsBy e t o

-- the row of all fields, or of one and those behind it
abbrev pub fields_row : Bool → Outside
fields_row true = some_core_fields
fields_row false = core_fields
