-- What a rule leaves stands behind what was there.
use Rattle.std.proofs.Common.{◌≡◌, ℕ, ◌≤◌, sym, subst, arith, Ok, Option, Some, None, Bor}
use Rattle.std.specs.Prelude.{option_map}
use Rattle.wast_grammar.specs.Stand.{Stand, class_at, class_after}
use Rattle.wast_grammar.specs.Read as o
use Rattle.wast_grammar.specs.Read.{Outcome, read}
use Rattle.token_codes.specs.Numbers.{number}
use Rattle.text_rules.specs.Made.{Made, join}
use Rattle.text_rules.specs.Rule as r
use Rattle.text_rules.specs.Rule.{reads}
use Rattle.text_rules.specs.Makes.{makes}
use Rattle.rule_runs.specs.Run.{run, ran, done, fault}
use Rattle.text_table.specs.Code.{rule_of, choice_of, uses}
use Rattle.text_table.specs.Choice.{Takes, ChosenAs, lent_rule}
use Rattle.text_table.specs.declared.rule.Choice.{Choice}
use Rattle.text_table.specs.declared.rule.Rule.{Rule}
use Rattle.text_table.specs.declared.rule.Rule as c
use Rattle.tree_build.specs.declared.scratch.Scratch.{Scratch}
use Rattle.tree_build.proofs.Longer.{Longer, longer_by}
use Rattle.tree_read.specs.Comes.{Reads}
use Rattle.tree_read.proofs.Ranking.{ran_so}

pub uses_bound : (x : Rule) → uses x ≤ 1
uses_bound (c.Use n) = omega arith
uses_bound x = omega arith

-- ---- a choice by a number

chosen_so : (x : r.Rule) (code ahead : ℕ) (o : Option (Bor Rule)) (y : Bor Rule) → o ≡ Some y → ChosenAs (option_map lent_rule o) x code ahead → Takes x code ahead (rule_of y.now)
chosen_so x code ahead o y e h = subst (λ z. ChosenAs (option_map lent_rule z) x code ahead) e h

pub chosen_takes : (k : Choice) (code ahead : ℕ) (o : Option (Bor Rule)) (y : Bor Rule) → o ≡ Some y → ChosenAs (option_map lent_rule o) (choice_of k) code ahead → Takes (choice_of k) code ahead (rule_of y.now)
chosen_takes k code ahead o y e h = chosen_so (choice_of k) code ahead o y e h

pub none_chosen : (k : Choice) (code ahead : ℕ) (o : Option (Bor Rule)) → o ≡ None → ChosenAs (option_map lent_rule o) (choice_of k) code ahead → (s : Stand) (a : Made)
    → code ≡ number (class_at s) → ahead ≡ number (class_after s) → run (choice_of k) s a ≡ fault s
none_chosen k code ahead o e h = subst (λ z. ChosenAs (option_map lent_rule z) (choice_of k) code ahead) e h

-- ---- what is held grows

left_of_it : (x : r.Rule) (a b : Made) (t : Stand) (p : Outcome) → ran a x p ≡ done b t → (m : Made) × (b ≡ join a m)
left_of_it x a b t (o.reads v u) e = (makes v x, let w : join a (makes v x) ≡ b = cc in sym w)
left_of_it x a b t (o.fault u) e = absurd (cc)
left_of_it x a b t (o.deep u) e = absurd (cc)

grown : (x : r.Rule) (s t : Stand) (a b : Made) → run x s a ≡ done b t → (m : Made) × (b ≡ join a m)
unfolding run
grown x s t a b e = left_of_it x a b t (read (reads x) s) e

pub longer_behind : {X : Type 0} (x : r.Rule) (v : X) (s t : Stand) (p q : Scratch) → Reads x (Ok v) s t p q → Longer p q
longer_behind x v s t p q h = let g = grown x s t _ _ (ran_so x v s t p q h) in longer_by _ _ p q g.0 g.1
