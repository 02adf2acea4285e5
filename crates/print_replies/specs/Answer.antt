-- What the word `print` answers, by the whole input.
use Rattle.std.specs.Prelude.{◌≡◌, ℕ, List, [], ◌∷◌, ◌++◌, codes, Bool, Option, Some, None, string_bytes}
use Rattle.comp_model.specs.Model.{Scope}
use Rattle.print_table.specs.Printable.{IsPrintable}
use Rattle.print_table.specs.TextOf.{unnamed, text_of}
use Rattle.tree_print.specs.Cause.{cause}
use Rattle.tree_print.specs.declared.print.PrintKind.{PrintKind}
use Rattle.tree_print.specs.declared.print.PrintKind.TheVariants as kind
use Rattle.wast_refusals.specs.Line.{refusal_line}
use Rattle.binary_inputs.specs.Input.{IsRead, NotRead, InputRefused, Tells as TellsOf, TellsOfBytes as TellsBytesOf}
use Rattle.binary_inputs.specs.declared.told.Told.{Told}
use Rattle.binary_inputs.specs.declared.told.Told.TheVariants.{Output, Refusal}

-- the name of a kind; want of memory has none, since it says nothing of the component
abbrev pub print_kind_name : PrintKind → Option (List ℕ)
print_kind_name kind.CoreModule = Some (codes "Print-CoreModule")
print_kind_name kind.NoText = Some (codes "Print-NoText")
print_kind_name (kind.TooBig found limit) = Some (codes "Print-TooBig")
print_kind_name kind.TooDeep = Some (codes "Print-TooDeep")
print_kind_name kind.NoMemory = None

-- a text and a line feed
abbrev pub line_of_text : List ℕ → List ℕ
line_of_text text = text ++ 10 ∷ []

-- the bytes are read as a component that nothing is against printing, and this is its text
pub record IsTold (bytes out : List ℕ) : Type 0 where
  pub component : Scope
  pub read : IsRead bytes component
  pub admitted : cause component ≡ None
  pub printable : IsPrintable (unnamed component)
  pub printed : out ≡ line_of_text (text_of component)

-- why bytes aren't printed, by the name of the kind and the offset: they aren't read, or something is against printing the component
pub data NotPrinted (bytes : List ℕ) : List ℕ → ℕ → Type 0 where
  unread : (name : List ℕ) (offset : ℕ) → NotRead bytes name offset → NotPrinted bytes name offset
  refused : (component : Scope) (k : PrintKind) (name : List ℕ) → IsRead bytes component → cause component ≡ Some k → print_kind_name k ≡ Some name → NotPrinted bytes name 0

-- why an input is refused: it isn't hexadecimal, or its bytes aren't printed
abbrev pub PrintRefused : List ℕ → Bool → List ℕ → ℕ → Type 0
PrintRefused = InputRefused NotPrinted

-- what is told of a component
abbrev pub TellsOfScope : Scope → Told → Type 0
TellsOfScope b (Output out) = (cause b ≡ None) × IsPrintable (unnamed b) × (string_bytes out ≡ line_of_text (text_of b))
TellsOfScope b (Refusal line) = (k : PrintKind) × (name : List ℕ) × (cause b ≡ Some k) × (print_kind_name k ≡ Some name) × (string_bytes line ≡ refusal_line name 0)

-- the line of a refusal whose kind has a name is told
abbrev pub IsPrintRefusal : PrintKind → Told → Type 0
IsPrintRefusal k (Output out) = ⊥
IsPrintRefusal k (Refusal line) = (name : List ℕ) × (print_kind_name k ≡ Some name) × (string_bytes line ≡ refusal_line name 0)

-- what is told of bytes
abbrev pub TellsOfBytes : List ℕ → Told → Type 0
TellsOfBytes = TellsBytesOf IsTold NotPrinted

-- what is told of an input
abbrev pub Tells : List ℕ → Bool → Told → Type 0
Tells = TellsOf IsTold NotPrinted
