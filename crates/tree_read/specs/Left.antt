-- What a rule leaves of the tokens that are read by it.
use Rattle.std.specs.Prelude.{◌≡◌, ◌≤◌, map, option_map, Result}
use Rattle.comp_tree.specs.Lists.{node_of, def_of}
use Rattle.comp_tree.specs.Model.{id_of, lent_text}
use Rattle.tree_build.specs.Cores.{fields_read, cores_of}
use Rattle.tree_build.specs.Held.{loose}
use Rattle.text_rules.specs.Made.{Made}
use Rattle.text_rules.specs.Makes.{makes}
use Rattle.text_rules.specs.Rule.{Rule, reads}
use Rattle.tree_read.specs.declared.left.LeftParts.{LeftParts}
use Rattle.wast_grammar.specs.Grammar.{Value}
use Rattle.wast_grammar.specs.Read.{read}
use Rattle.wast_grammar.specs.Stand.{Stand}
use Rattle.wast_parser.specs.Standing.{ComesBy}
use Rattle.wast_tokens.specs.declared.error.Error.{Error}

-- the parts in the model
abbrev pub parts_of : LeftParts → Made
parts_of x = record {
  rows = x.rows.items;
  leaves = map (loose (fields_read x.cores) (cores_of x.cores)) x.leaves.items;
  nodes = map (node_of (cores_of x.cores)) x.nodes.items;
  ids = map (option_map id_of) x.ids.items;
  labels = map (option_map lent_text) x.labels.items;
  exports = map lent_text x.exports.items;
  places = x.places.items;
  defs = map (def_of (cores_of x.cores)) x.defs.items;
}

-- they are all that the rule leaves of this value
abbrev pub AreLeft : Rule → LeftParts → Value → Type 0
AreLeft r x v = makes v r ≡ parts_of x

-- What is given of a part by a parser that goes from s to t: what reading by its rule comes to, further in the same text.
pub record PartGiven (r : Rule) (result : Result LeftParts Error) (s t : Stand) : Type 0 where
  pub gives : ComesBy (AreLeft r) result t (read (reads r) s)
  pub text : t.text ≡ s.text
  pub forward : s.at ≤ t.at
