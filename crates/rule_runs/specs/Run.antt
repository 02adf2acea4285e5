-- What reading by a rule comes to, behind what was read before: what stands loose, and where the reader stands; or a refusal.
use Rattle.std.specs.Prelude.{ℕ, List, cond, codes, Option, Some, None}
use Rattle.comp_model.specs.declared.Space.{Space}
use Rattle.comp_model.specs.Core as core
use Rattle.wast_grammar.specs.Classes.{Class, same, numeral, id, keyword, opening, closing}
use Rattle.wast_grammar.specs.Stand.{Stand, class_at, moved}
use Rattle.wast_grammar.specs.Grammar as g
use Rattle.wast_grammar.specs.Grammar.{Value, left, right, value_at}
use Rattle.wast_grammar.specs.Read as o
use Rattle.wast_grammar.specs.Read.{Outcome, read}
use Rattle.text_rules.specs.Made.{Made, join}
use Rattle.text_rules.specs.Rule.{Rule, reads, before, after, keeps, a_text}
use Rattle.text_rules.specs.Makes.{makes, reference_made, told_made}

-- What was made so far, and where the reader stands; or the place of a token that doesn't fit, or of a checked item below too many parentheses.
pub data Ran : Type 0 where
  done : Made → Stand → Ran
  fault : Stand → Ran
  deep : Stand → Ran

-- the same of a reading: what its value leaves stands behind what was made before
abbrev pub ran : Made → Rule → Outcome → Ran
ran a r (o.reads v t) = done (join a (makes v r)) t
ran a r (o.fault t) = fault t
ran a r (o.deep t) = deep t

-- reading by a rule from s, behind what was made before
unfoldable pub run : Rule → Stand → Made → Ran
run r s a = ran a r (read (reads r) s)

-- what follows, where nothing was refused
abbrev pub andthen : Ran → (Made → Stand → Ran) → Ran
andthen (done a t) f = f a t
andthen (fault t) f = fault t
andthen (deep t) f = deep t

-- a token of a class, which adds something
abbrev pub taken : Class → Made → Stand → Ran
taken c a s = cond (same (class_at s) c) (done a (moved s 1)) (fault s)

-- an id or a number, as a reference
abbrev pub referred : Space → core.Reach → Stand → Made → Ran
referred u r s a = cond (same (class_at s) id) (done (join a (reference_made u r (left (value_at g.an_id s)))) (moved s 1)) (taken numeral (join a (reference_made u r (right (value_at g.a_numeral s)))) s)

-- the word of a table with this number, if it is in it
abbrev pub told_by : List ℕ → Option ℕ → Stand → Made → Ran
told_by ns None s a = fault s
told_by ns (Some n) s a = done (join a (told_made ns (g.num n))) (moved s 1)

-- what is left of a group, over which the reader went
abbrev pub gone_over : Made → Outcome → Ran
gone_over a (o.reads v t) = done a t
gone_over a (o.fault t) = fault t
gone_over a (o.deep t) = deep t

-- the name of an interface (Import and Export Definitions)
abbrev pub named_interface : Rule
named_interface = before opening (after (before (keyword (codes "interface")) (keeps a_text)) closing)
