-- A part that is read by a row, and what it leaves.
use Rattle.std.proofs.Common.{◌≡◌, List, refl, ap, sym, subst, ◌∙◌, Result, Ok, Err}
use Rattle.std.specs.declared.alloc.AllocError.{AllocError}
use Rattle.comp_model.specs.CoreModules.{CoreModule, Field}
use Rattle.wast_grammar.specs.Stand.{Stand}
use Rattle.wast_grammar.specs.Grammar.{Value}
use Rattle.wast_grammar.specs.Read as o
use Rattle.wast_grammar.specs.Read.{Outcome, read}
use Rattle.text_rules.specs.Made.{Made, join}
use Rattle.text_rules.specs.Makes.{makes}
use Rattle.text_rules.specs.Rule.{Rule, reads}
use Rattle.rule_runs.specs.Run.{run, ran, done, fault, deep}
use Rattle.tree_build.specs.Adds.{Adds}
use Rattle.tree_read.specs.Comes.{Reads, Refuses, FailsBy, as_fault}
use Rattle.tree_build.specs.Held.{held}
use Rattle.tree_read.specs.declared.fault.Fault.{Fault}
use Rattle.tree_read.specs.declared.fault.Fault.TheVariants.{Parse, TooDeep, NoMemory}
use Rattle.tree_build.specs.declared.scratch.Scratch.{Scratch}

-- what was read was added, unless memory ran out
pub added : {X : Type 0} (r : Rule) (v : Value) (s t : Stand) (p q : Scratch) (f : List (List Field) → List CoreModule → Made) (x : Result X AllocError)
    → read (reads r) s ≡ o.reads v t → ((fs : List (List Field)) (cs : List CoreModule) → makes v r ≡ f fs cs) → Adds x p q f → Reads r (as_fault x) s t p q
unfolding run
added r v s t p q f (Ok x) e m h =
    (h.0, λ fs cs z. ap (ran (held fs cs p) r) e ∙ (ap (λ a. done (join (held fs cs p) a) t) (m fs cs) ∙ ap (λ a. done a t) (sym (h.1 fs cs z))))
added r v s t p q f (Err x) e m h = λ a. tt

-- a refusal of the row
refused : (r : Rule) (e : Fault) (t : Stand) (p : Outcome) (a : Made) → FailsBy e t p → Refuses e t (ran a r p)
refused r Parse t p a h = ap (ran a r) h
refused r TooDeep t p a h = ap (ran a r) h
refused r NoMemory t p a h = tt

pub not_added : (r : Rule) (e : Fault) (s t : Stand) → FailsBy e t (read (reads r) s) → (a : Made) → Refuses e t (run r s a)
unfolding run
not_added r e s t h = λ a. refused r e t (read (reads r) s) a h
