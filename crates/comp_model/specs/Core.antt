-- Ids, reaches and places, core value types, and the rules of core modules.
use Rattle.std.specs.Prelude.{ℕ, Bool, ◌&&◌, cond, bytes_eq, nat_eq, List, Option, Some, None}

-- a name, a text or any other row of bytes
abbrev pub Text : Type 0
Text = List ℕ

-- an id: its name, without the `$`; the number 0 where it stands in the text, another where it was generated; and the offset of its
-- token, which no comparison reads
pub record Id : Type 0 where
  pub name : Text
  pub number : ℕ
  pub offset : ℕ

-- ids are compared by name and number
abbrev pub same_id : Id → Id → Bool
same_id x y = bytes_eq x.name y.name && nat_eq x.number y.number

-- whether it stands in the text
abbrev pub is_of_text : Id → Bool
is_of_text x = nat_eq x.number 0

-- the name of an item: its label, or else its id; a generated id is no name
abbrev pub label_or_id : Option Text → Option Id → Option Text
label_or_id (Some t) x = Some t
label_or_id None None = None
label_or_id None (Some x) = cond (is_of_text x) (Some x.name) None

-- the first part of an outer alias, a count of scopes outward or the id of a scope; `offset` is that of the word `alias`, and 0 in binary
pub data Place : Type 0 where
  counted : (offset : ℕ) → ℕ → Place
  named : (offset : ℕ) → Id → Place

-- how far a name is looked for: outward from the innermost scope, in that scope alone, or in the scope at a place alone
pub data Reach : Type 0 where
  outward : Reach
  own : Reach
  at_place : Place → Reach

-- a core value type; of a reference the Bool says that it is nullable, and its type is an index of the binary, a numeral with its offset or a name
pub data CoreValue : Type 0 where
  i32 : CoreValue
  i64 : CoreValue
  f32 : CoreValue
  f64 : CoreValue
  v128 : CoreValue
  ref_func : Bool → CoreValue
  ref_extern : Bool → CoreValue
  ref_index : Bool → ℕ → CoreValue
  ref_numeral : Bool → (offset : ℕ) → ℕ → CoreValue
  ref_name : Bool → Reach → Id → CoreValue
  -- a heap type or value type that is read and never written
  other_value : CoreValue

-- the rules that a core module can break
pub data CoreFault : Type 0 where
  import_order : CoreFault
  core_duplicate : CoreFault
  core_unknown : CoreFault
  type_mismatch : CoreFault

-- the first broken rule of a core module, and its offset in the text
pub record CoreRefusal : Type 0 where
  pub fault : CoreFault
  pub offset : ℕ
