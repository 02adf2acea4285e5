-- Forms that the rules of the text format share.
use Rattle.std.specs.Prelude.{ℕ, ◌+◌, List, [], ◌∷◌, true, codes}
use Prim.Native.String.{String}
use Rattle.comp_model.specs.declared.row.Row.{Row}
use Rattle.wast_grammar.specs.Classes.{opening, closing, id, keyword, annotation}
use Rattle.wast_grammar.specs.Grammar.{Test, next}
use Rattle.text_rules.specs.Rule.{Rule, nothing, before, after, placed, keeps, pair, either, case, no_case, also, wraps, marks, a_row, no_part, no_id, no_label, an_id, a_label, an_entry}

abbrev pub word : String → Rule → Rule
word w r = before (keyword (codes w)) r

-- a word alone
abbrev pub lone_word : String → Rule
lone_word w = word w nothing

abbrev pub group : Rule → Rule
group r = before opening (after r closing)

-- the first word of a definition, and its first two words
abbrev pub first_word : String → Rule
first_word w = placed true (keyword (codes w))

abbrev pub first_words : String → String → Rule
first_words v w = marks (word v (lone_word w))

abbrev pub cases_from : ℕ → List (Test × Rule) → Rule
cases_from n [] = no_case
cases_from n (c ∷ cs) = case n c.0 c.1 (cases_from (n + 1) cs)

-- one of these; a reader takes the first whose test holds
abbrev pub cases : List (Test × Rule) → Rule
cases cs = cases_from 0 cs

-- the row of the node that holds what a rule leaves
abbrev pub of_row : Row → Rule → Rule
of_row t r = also r (a_row t)

-- the node of a row as an entry
abbrev pub entry : Row → Rule → Rule
entry t r = wraps an_entry (of_row t r)

-- id? and name? of a definition
abbrev pub optional_id : Rule
optional_id = either (next (id ∷ [])) (keeps an_id) nothing

abbrev pub label : Rule
label = before (annotation (codes "(@name")) (after (keeps a_label) closing)

abbrev pub optional_name : Rule
optional_name = either (next (annotation (codes "(@name") ∷ [])) label nothing

-- both, and what follows
abbrev pub named : Rule → Rule
named r = pair optional_id (pair optional_name r)

-- the same of one of several parts of a definition, where they are kept if they are missing, too
abbrev pub part_id : Rule
part_id = either (next (id ∷ [])) (keeps an_id) (also nothing no_id)

abbrev pub part_named : Rule → Rule
part_named r = pair part_id (pair (either (next (annotation (codes "(@name") ∷ [])) label (also nothing no_label)) r)

-- an optional part that is missing
abbrev pub absent : Rule
absent = also nothing no_part
