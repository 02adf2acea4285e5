-- The lines of a listing, as they are printed, and that of its order.
use Rattle.std.specs.Prelude.{ℕ, zero, suc, List, [], ◌∷◌, ◌++◌, codes, Option, Some, None}
use Rattle.std.specs.Fmt.{decimal}
use Rattle.comp_model.specs.declared.Space.{Space}
use Rattle.comp_model.specs.declared.Space.TheVariants.{CoreFunc, CoreTable, CoreMemory, CoreGlobal, CoreTag, CoreType, CoreModule, CoreInstance, Func, Value, Ty, Component, Instance}
use Rattle.comp_list.specs.declared.line.Line.{Line}
use Rattle.comp_list.specs.declared.line.Spot.{Spot}
use Rattle.comp_list.specs.declared.line.Led.{Led}
use Rattle.comp_list.specs.declared.line.Led.TheVariants.{Not, Nowhere, To}
use Rattle.comp_order.specs.declared.verdict.Order.{Order}
use Rattle.comp_order.specs.declared.verdict.Order.TheVariants.{Ordered, Index, Outer}

abbrev pub space_name : Space → List ℕ
space_name CoreFunc = codes "core-func"
space_name CoreTable = codes "core-table"
space_name CoreMemory = codes "core-memory"
space_name CoreGlobal = codes "core-global"
space_name CoreTag = codes "core-tag"
space_name CoreType = codes "core-type"
space_name CoreModule = codes "core-module"
space_name CoreInstance = codes "core-instance"
space_name Func = codes "func"
space_name Value = codes "value"
space_name Ty = codes "type"
space_name Component = codes "component"
space_name Instance = codes "instance"

-- two spaces for each level
abbrev pub indent : ℕ → List ℕ
indent zero = []
indent (suc n) = codes "  " ++ indent n

-- two numbers in decimal
abbrev pub two_numbers : ℕ → ℕ → List ℕ
two_numbers n m = decimal n ++ (32 ∷ decimal m)

-- the definition, the place of the reference in it, the space and the index
abbrev pub line_head : Line → List ℕ
line_head l = decimal l.def ++ (32 ∷ (decimal l.place ++ (32 ∷ (space_name l.space ++ (32 ∷ decimal l.index)))))

abbrev pub up_words : Option ℕ → List ℕ
up_words None = []
up_words (Some c) = codes " up " ++ decimal c

abbrev pub spot_words : Spot → List ℕ
spot_words s = two_numbers s.def s.part

abbrev pub at_words : Option Spot → List ℕ
at_words None = codes " -> none"
at_words (Some s) = codes " -> " ++ spot_words s

abbrev pub led_words : Led → List ℕ
led_words Not = []
led_words Nowhere = codes " => none"
led_words (To up s) = codes " => " ++ (decimal up ++ (32 ∷ spot_words s))

abbrev pub list_line : Line → List ℕ
list_line l = indent l.level ++ (line_head l ++ (up_words l.up ++ (at_words l.at ++ (led_words l.led ++ codes "\n"))))

abbrev pub list_lines : List Line → List ℕ
list_lines [] = []
list_lines (l ∷ ls) = list_line l ++ list_lines ls

abbrev pub order_line : Order → List ℕ
order_line Ordered = codes "ordered\n"
order_line (Index n) = codes "index at line " ++ (decimal n ++ codes "\n")
order_line (Outer n) = codes "outer at line " ++ (decimal n ++ codes "\n")
