-- What parts that core modules share stand for: values of their rows.
use Rattle.std.specs.Prelude.{ℕ, List, [], ◌∷◌, Option, Some, None}
use Rattle.std.specs.Borrow.{Bor}
use Rattle.wast_grammar.specs.Classes.{keyword}
use Rattle.wast_grammar.specs.Grammar.{Value, number_in, Turn, an_item, into, out, finished, otherwise, none, num, text, both, left, right}
use Rattle.wast_grammar.specs.CoreRows.{producer_words}
use Rattle.wast_parser.specs.View.{id_view, option_view, many_view}
use Rattle.wast_parser.specs.declared.index.Id.{Id}
use Rattle.core_parts.specs.declared.turns.Next.{Next}
use Rattle.core_parts.specs.declared.turns.Next.TheVariants as nexts
use Rattle.wast_parser.specs.declared.texts.NameAnnotation.{NameAnnotation}

-- what may be given up where it is never written, or what stands there instead
abbrev pub perhaps_view : {A : Type 0} → (A → Value) → Value → Option A → Value
perhaps_view kept lost None = right lost
perhaps_view kept lost (Some x) = left (kept x)

-- a label
abbrev pub label_view : NameAnnotation → Value
label_view n = text n.name.now

abbrev pub text_view : Bor (List ℕ) → Value
text_view x = text x.now

abbrev pub names_view : Option Id × Option NameAnnotation → Value
names_view n = both (option_view id_view n.0) (option_view label_view n.1)

-- the id, the label and the inline exports of a field
abbrev pub head_view : Option Id × Option NameAnnotation → List (Bor (List ℕ)) → Value
head_view names exports = both (names_view names) (many_view text_view exports)

abbrev pub import_names_view : Bor (List ℕ) × Bor (List ℕ) → Value
import_names_view n = both (text n.0.now) (text n.1.now)

abbrev pub optional_import_view : Option (Bor (List ℕ) × Bor (List ℕ)) → Value
optional_import_view i = option_view import_names_view i

-- an item behind another
abbrev pub next_item_view : {A : Type 0} → (A → Value) → A → Value
next_item_view f x = both none (both (f x) none)

-- the items behind the first
abbrev pub items_behind : {A : Type 0} → List A → List A
items_behind [] = []
items_behind (x ∷ xs) = xs

-- the items from the first on
abbrev pub items_on_view : {A : Type 0} → (A → Value) → List A → Value
items_on_view f [] = none
items_on_view f (x ∷ xs) = both (f x) (both none (many_view (next_item_view f) xs))

-- the groups, if one has an item
abbrev pub some_groups_view : {A : Type 0} → (A → Value) → List A → Value
some_groups_view f [] = right none
some_groups_view f (x ∷ xs) = left (items_on_view f (x ∷ xs))

-- the items of all groups, which don't tell how they are grouped
abbrev pub groups_view : {A : Type 0} → (A → Value) → List A → Value
groups_view f xs = both none (some_groups_view f xs)

-- the number of a word in the table of producers
abbrev pub number_or_none : Option ℕ → Value
number_or_none None = none
number_or_none (Some n) = num n

abbrev pub producer_word_view : Bor (List ℕ) → Value
producer_word_view w = number_or_none (number_in producer_words (keyword w.now))

abbrev pub producer_view : Bor (List ℕ) × Bor (List ℕ) × Bor (List ℕ) → Value
producer_view p = both (producer_word_view p.0) (both (text_view p.1) (text_view p.2))

-- what stands next among instructions
abbrev pub turn_view : Next → Turn
turn_view (nexts.Operation k) = an_item
turn_view (nexts.Group k) = into
turn_view nexts.GroupEnd = out
turn_view nexts.TextEnd = finished
turn_view nexts.Other = otherwise
