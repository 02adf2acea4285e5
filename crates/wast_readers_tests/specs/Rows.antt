-- Small rows, one for each kind of form.
use Rattle.std.specs.Prelude.{[], ◌∷◌, codes}
use Prim.Native.String.{String}
use Rattle.wast_grammar.specs.Classes.{opening, keyword}
use Rattle.wast_grammar.specs.Grammar.{Grammar, Test, group, word, leaf, a_number, a_text, nothing, either, by_test, cases, each_once, made, one_choice, next, next2, legacy}

-- a part = "(" "param" num ")" | "(" "result" num ")"
abbrev pub part : Grammar
part = either (next2 opening (keyword (codes "param") ∷ [])) (group (word "param" (leaf a_number))) (group (word "result" (leaf a_number)))

-- a setting = "size" num | "name" text | "off"
abbrev pub setting : Grammar
setting = cases (
    (next (keyword (codes "size") ∷ []), word "size" (leaf a_number))
    ∷ (next (keyword (codes "name") ∷ []), word "name" (leaf a_text))
    ∷ (next (keyword (codes "off") ∷ []), word "off" nothing)
    ∷ [])

-- a limit = num | older form: "(" num ")"
abbrev pub limit : Grammar
limit = made one_choice (by_test legacy (either (next (opening ∷ [])) (group (leaf a_number)) (leaf a_number)) (leaf a_number))

-- an attribute = "(" word num ")"
abbrev pub attribute : String → Test × Grammar
attribute w = (next2 opening (keyword (codes w) ∷ []), group (word w (leaf a_number)))

abbrev pub align : Test × Grammar
align = attribute "align"

abbrev pub offset : Test × Grammar
offset = attribute "offset"

abbrev pub page : Test × Grammar
page = attribute "page"

-- what may be said of an access, each at most once, in any order
unfoldable pub attributes : Grammar
attributes = each_once (align ∷ offset ∷ page ∷ [])
