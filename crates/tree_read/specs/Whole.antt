-- What the reading of a whole text answers.
use Rattle.std.specs.Prelude.{◌≡◌, Result, Ok, Err, true}
use Rattle.wast_tokens.specs.declared.error.Error.{Error}
use Rattle.wast_grammar.specs.Tokens.{Text}
use Rattle.wast_grammar.specs.Classes.{among}
use Rattle.wast_grammar.specs.Stand.{Stand, class_at}
use Rattle.wast_grammar.specs.Grammar.{Value, whole, text_ends}
use Rattle.wast_grammar.specs.Read.{Outcome, FailsAs, start_of, read as comes_to, reads as is_read}
use Rattle.text_rules.specs.Rule.{reads}
use Rattle.text_rules.specs.Makes.{makes}
use Rattle.text_rules.specs.FieldRules.{wat_item}
use Rattle.text_rules.specs.Whole.{one_definition}
use Rattle.comp_tree.specs.Lists.{def_of}
use Rattle.tree_build.specs.Cores.{cores_of}
use Rattle.tree_read.specs.Comes.{Reads, FailsBy}
use Rattle.tree_read.specs.declared.fault.Fault.{Fault}
use Rattle.tree_read.specs.declared.fault.Fault.TheVariants.{Parse, TooDeep, NoMemory}
use Rattle.tree_build.specs.declared.scratch.Scratch.{Scratch}
use Rattle.tree_read.specs.declared.text.TextTree.{TextTree}

-- The definition is what the rule of a text makes of the value that is read; a refusal is what reading comes to.
abbrev pub TextGives : Result TextTree Error → Stand → Outcome → Type 0
TextGives (Ok x) s o = (v : Value) × (o ≡ is_read v s) × (makes v wat_item ≡ one_definition (def_of (cores_of x.cores) x.def))
TextGives (Err e) s o = FailsAs e.kind e.offset s o

-- What was answered is what reading by the row of a text and its end comes to, at a place of the text.
pub record GivesText (result : Result TextTree Error) (t : Text) : Type 0 where
  pub at : Stand
  pub within : at.text ≡ t
  pub gives : TextGives result at (comes_to (whole (reads wat_item)) (start_of t))

-- what reading by the rule of a text and its end comes to, by a reader that goes from s to t
abbrev pub ToTheEnd : {X : Type 0} → Result X Fault → Stand → Stand → Scratch → Scratch → Type 0
ToTheEnd (Ok x) s t p q = Reads wat_item (Ok x) s t p q × (among text_ends (class_at t) ≡ true)
ToTheEnd (Err e) s t p q = FailsBy e t (comes_to (whole (reads wat_item)) s)

-- where reading is refused, by a reader that goes from s to t; want of memory is at no place
abbrev pub refused_at : Fault → Stand → Stand → Stand
refused_at Parse s t = t
refused_at TooDeep s t = t
refused_at NoMemory s t = s
