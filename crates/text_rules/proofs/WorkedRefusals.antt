-- Texts that spell no field: the offset of the token that doesn't fit.
use Rattle.std.specs.Prelude.{[], ◌∷◌, false, refl}
use Rattle.text_rules.specs.FieldRules.{component_item}
use Rattle.text_rules.proofs.Texts.{Texts, AllCome, answer, unfit}

-- aliases: the export of an instance by its index and one name, and its sort in a group with id and name
abbrev aliases : Texts
aliases =
    ("(alias export 0 \"x\" (core type))", unfit 26)
    ∷ ("(alias export 0 \"x\" (core instance))", unfit 26)
    ∷ ("(alias export 0 (func))", unfit 16)
    ∷ ("(alias export 0 (interface \"x\") (func))", unfit 16)
    ∷ ("(alias export \"x\" (func))", unfit 14)
    ∷ ("(alias export 0 \"x\" (func (@name \"X\") $x))", unfit 38)
    ∷ ("(alias export 0 \"x\" $x (func))", unfit 20)
    ∷ ("(alias export 0 \"x\" (func 0))", unfit 26)
    ∷ ("(alias import 0 \"x\" (func))", unfit 7)
    ∷ []

-- imports and exports: ids stand in the group of an import and of a declared export, attributes behind the name
abbrev externs : Texts
externs =
    ("(import $f \"f\" (func))", unfit 8)
    ∷ ("(import (implements \"x\") \"a\" (func))", unfit 9)
    ∷ ("(import \"v\" (value $t))", unfit 21)
    ∷ ("(import \"a\" (func (type)))", unfit 23)
    ∷ ("(export \"a\" (core func 0))", unfit 18)
    ∷ ("(type (component (export $f \"f\" (func))))", unfit 25)
    ∷ []

-- functions that are imports or aliases: an inline import has one name, without attributes
abbrev inline_items : Texts
inline_items =
    ("(func (import \"i\" (implements \"x\")))", unfit 7)
    ∷ ("(func (import \"i\" \"f\"))", unfit 7)
    ∷ ("(func (alias export $i))", unfit 22)
    ∷ ("(func (alias outer 1 0))", unfit 13)
    ∷ []

-- each text comes to what stands beside it
all_come : AllCome component_item false (aliases ∷ externs ∷ inline_items ∷ [])
unfolding answer
all_come = (refl, (refl, (refl, tt)))
