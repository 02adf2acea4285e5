-- The lines of origins, as they are printed.
use Rattle.std.specs.Prelude.{ℕ, List, [], ◌∷◌, ◌++◌, codes}
use Rattle.std.specs.Fmt.{decimal}
use Rattle.comp_model.specs.Origins.{Origin, written, inline_type, bundle_of, inline_export, export_step, outer_alias_of, name_section, Origins, no_origins, origin_then, Held, holds_none, holds}

-- a space, and a number in decimal
abbrev pub number : ℕ → List ℕ
number n = 32 ∷ decimal n

-- what an origin is called, and its numbers
abbrev pub origin_words : Origin → List ℕ
origin_words (written d) = codes "written" ++ number d
origin_words (inline_type d p) = codes "inline-type" ++ number d ++ number p
origin_words (bundle_of d p) = codes "bundle" ++ number d ++ number p
origin_words (inline_export d n) = codes "inline-export" ++ number d ++ number n
origin_words (export_step d p s) = codes "export-step" ++ number d ++ number p ++ number s
origin_words (outer_alias_of d p) = codes "outer-alias" ++ number d ++ number p
origin_words name_section = codes "name-section"

-- the line of an origin behind what indents it
abbrev pub line : List ℕ → Origin → List ℕ
line indent o = indent ++ origin_words o ++ codes "\n"

-- by how much an inner scope is indented
abbrev pub two_spaces : List ℕ
two_spaces = codes "  "

-- the lines of a scope's definitions, in order, and behind each those of the scope that it holds, indented by two more spaces
abbrev mutual
  pub lines_behind : List ℕ → Origins → List ℕ
  lines_behind indent no_origins = []
  lines_behind indent (origin_then o h os) = line indent o ++ held_lines indent h ++ lines_behind indent os

  pub held_lines : List ℕ → Held → List ℕ
  held_lines indent holds_none = []
  held_lines indent (holds os) = lines_behind (indent ++ two_spaces) os
