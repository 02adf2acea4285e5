-- What comes first or last by a rule.
use Rattle.std.specs.Prelude.{ℕ, ◌<◌, ⊤, Result, Ok, Err}
use Rattle.wast_grammar.specs.Classes.{closing}
use Rattle.wast_grammar.specs.Stand.{Stand}
use Rattle.text_rules.specs.Forms.{named}
use Rattle.text_rules.specs.Made.{Made}
use Rattle.text_rules.specs.Measure.{Fit, rank}
use Rattle.text_rules.specs.Rule.{Rule, pair, marks, checked, also, after, skipping}
use Rattle.text_table.specs.Code.{a_placed, add_of, step_of}
use Rattle.text_table.specs.declared.rule.Step.TheVariants as step
use Rattle.rule_runs.specs.Run.{run}
use Rattle.tree_read.specs.Comes.{Reads, Refuses}
use Rattle.tree_read.specs.declared.fault.Fault.{Fault}
use Rattle.tree_read.specs.declared.parts.First.{First}
use Rattle.tree_read.specs.declared.parts.First.TheVariants as first
use Rattle.tree_read.specs.declared.parts.Last.{Last}
use Rattle.tree_read.specs.declared.parts.Last.TheVariants as last
use Rattle.tree_build.specs.declared.scratch.Scratch.{Scratch}

-- a rule behind what comes first
abbrev pub behind_first : First → Rule → Rule
behind_first (first.Keep k) y = pair (step_of (step.Keep k)) y
behind_first (first.Reference u w) y = pair (step_of (step.Reference u w)) y
behind_first (first.Told t) y = pair (step_of (step.Told t)) y
behind_first (first.Outside o) y = pair (step_of (step.Outside o)) y
behind_first (first.Placed b n) y = a_placed b n y
behind_first first.Named y = named y
behind_first first.Offset y = marks y
behind_first first.Depth y = checked y

-- a token's class has a number
abbrev pub HasNumber : First → Type 0
HasNumber (first.Placed b n) = 0 < n
HasNumber x = ⊤

-- what comes first was read, so that what is left is below the rule, and reading goes on by it
pub record FirstRead (x : First) (s t : Stand) (p q : Scratch) : Type 0 where
  pub below : (y : Rule) → Fit (behind_first x y) → Fit y × (rank y t < rank (behind_first x y) s)
  pub reads : (y : Rule) (res : Result ⊤ Fault) (u : Stand) (w : Scratch) → Reads y res t u q w → Reads (behind_first x y) res s u p w

abbrev pub ReadsFirst : {X : Type 0} → First → Result X Fault → Stand → Stand → Scratch → Scratch → Type 0
ReadsFirst x (Ok v) s t p q = FirstRead x s t p q
ReadsFirst x (Err e) s t p q = (y : Rule) (a : Made) → Refuses e t (run (behind_first x y) s a)

-- a rule, and what comes last behind it
abbrev pub before_last : Last → Rule → Rule
before_last (last.Add a) y = also y (add_of a)
before_last last.Closing y = after y closing
before_last last.Skipping y = skipping y

-- by whatever rule was read what stands in front
abbrev pub ReadsLast : Last → Result ⊤ Fault → Stand → Stand → Scratch → Scratch → Type 0
ReadsLast x res t u q w = (y : Rule) (s : Stand) (p : Scratch) → Reads {X = ⊤} y (Ok tt) s t p q → Reads (before_last x y) res s u p w
