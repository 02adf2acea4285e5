-- What is left of what was read by a rule alone, and where the reader stands behind it.
use Rattle.std.proofs.Common.{◌≡◌, refl, ap, sym, subst, ◌∙◌, arith, List, Result, Ok, Err}
use Rattle.comp_model.specs.CoreModules.{CoreModule, Field}
use Rattle.tree_build.specs.Cores.{fields_read, cores_of}
use Rattle.tree_build.specs.Held.{held}
use Rattle.tree_build.specs.declared.scratch.Scratch.{Scratch}
use Rattle.rule_runs.specs.Run.{run, ran, done, fault, deep}
use Rattle.text_rules.specs.Made.{Made, empty, join}
use Rattle.text_rules.specs.Makes.{makes}
use Rattle.text_rules.specs.Rule.{Rule, reads}
use Rattle.tree_read.proofs.Formers.{held_now}
use Rattle.tree_read.proofs.Further.{From, place_in, read_from}
use Rattle.tree_read.proofs.Ranking.{ran_so}
use Rattle.tree_read.specs.Comes.{FailsBy, Refuses, Reads}
use Rattle.tree_read.specs.Left.{PartGiven, parts_of}
use Rattle.tree_read.specs.Whole.{refused_at}
use Rattle.tree_read.specs.declared.fault.Fault.{Fault}
use Rattle.tree_read.specs.declared.fault.Fault.TheVariants.{Parse, TooDeep, NoMemory}
use Rattle.tree_read.specs.declared.left.LeftParts.{LeftParts}
use Rattle.wast_grammar.specs.Grammar.{Grammar, Value}
use Rattle.wast_grammar.specs.Read as o
use Rattle.wast_grammar.specs.Read.{Outcome, FailsAs, read}
use Rattle.wast_grammar.specs.Stand.{Stand}
use Rattle.wast_tokens.specs.declared.error.Error.{Error}
use Rattle.wast_tokens.specs.declared.error.ErrorKind.TheVariants as kinds

-- the value that was read, and what the rule leaves of it
pub record Left (r : Rule) (s t : Stand) (b : Made) : Type 0 where
  pub value : Value
  pub read : read (reads r) s ≡ o.reads value t
  pub made : makes value r ≡ b

left_by : (r : Rule) (s t : Stand) (a b : Made) (p : Outcome) → a ≡ empty → read (reads r) s ≡ p → ran a r p ≡ done b t → Left r s t b
left_by r s t a b (o.reads v u) z e h =
    let q : u ≡ t = cc in
    let w : join a (makes v r) ≡ b = cc in
    record { value = v; read = e ∙ ap (o.reads v) q; made = sym (ap (λ x. join x (makes v r)) z) ∙ w }
left_by r s t a b (o.fault u) z e h = absurd (cc)
left_by r s t a b (o.deep u) z e h = absurd (cc)

left_run : (r : Rule) (s t : Stand) (a b : Made) → a ≡ empty → run r s a ≡ done b t → Left r s t b
unfolding run
left_run r s t a b z h = left_by r s t a b (read (reads r) s) z refl h

-- where nothing was held before
pub all_left : {X : Type 0} (r : Rule) (x : X) (s t : Stand) (p q : Scratch) → ((fs : List (List Field)) (cs : List CoreModule) → held fs cs p ≡ empty) → Reads r (Ok x) s t p q → Left r s t (held_now q q.cores)
all_left r x s t p q z h = left_run r s t (held_now p q.cores) (held_now q q.cores) (z (fields_read q.cores) (cores_of q.cores)) (ran_so r x s t p q h)

-- a refusal at the reader's own place
pub refused_here : (e : Fault) (t : Stand) → refused_at e t t ≡ t
refused_here Parse t = refl
refused_here TooDeep t = refl
refused_here NoMemory t = refl

fails_by : (e : Fault) (r : Rule) (t : Stand) (a : Made) (p : Outcome) → Refuses e t (ran a r p) → FailsBy e t p
fails_by Parse r t a (o.reads v u) h = absurd (cc)
fails_by Parse r t a (o.fault u) h = let q : u ≡ t = cc in ap o.fault q
fails_by Parse r t a (o.deep u) h = absurd (cc)
fails_by TooDeep r t a (o.reads v u) h = absurd (cc)
fails_by TooDeep r t a (o.fault u) h = absurd (cc)
fails_by TooDeep r t a (o.deep u) h = let q : u ≡ t = cc in ap o.deep q
fails_by NoMemory r t a p h = tt

-- a refusal is what reading comes to
pub rule_fails : (e : Fault) (r : Rule) (s t : Stand) (a : Made) → Refuses e t (run r s a) → FailsBy e t (read (reads r) s)
unfolding run
rule_fails e r s t a h = fails_by e r t a (read (reads r) s) h

further : (g : Grammar) (s t : Stand) (p : Outcome) → read g s ≡ p → place_in p ≡ t → From s t
further g s t p e h = subst (From s) (ap place_in e ∙ h) (read_from g s)

-- a part that was read: the reader began at s, and the parser goes where it ends
pub part_read : {X : Type 0} (r : Rule) (x : LeftParts) (v : X) (s t : Stand) (p q : Scratch)
    → ((fs : List (List Field)) (cs : List CoreModule) → held fs cs p ≡ empty) → Reads r (Ok v) s t p q → parts_of x ≡ held_now q q.cores → PartGiven r (Ok x) s t
part_read r x v s t p q z h k =
    let l = all_left r v s t p q z h in
    let f = further (reads r) s t (o.reads l.value t) l.read refl in
    record { gives = (l.value, l.read, l.made ∙ sym k); text = f.text; forward = f.forward }

-- a part that is refused at a token
pub part_refused : (r : Rule) (e : Fault) (x : Error) (s t : Stand) → ((p : Outcome) → FailsBy e t p → place_in p ≡ t) → ((a : Made) → Refuses e t (run r s a)) → ((p : Outcome) → FailsBy e t p → FailsAs x.kind x.offset t p) → PartGiven r (Err x) s t
part_refused r e x s t at h k =
    let l = rule_fails e r s t empty (h empty) in
    let f = further (reads r) s t (read (reads r) s) refl (at (read (reads r) s) l) in
    record { gives = k (read (reads r) s) l; text = f.text; forward = f.forward }

-- from a place and to a place by other names
pub given_at : (r : Rule) (x : Result LeftParts Error) (s s' t t' : Stand) → s' ≡ s → t' ≡ t → PartGiven r x s t → PartGiven r x s' t'
given_at r x s s' t t' e f h = subst (λ u. PartGiven r x u t') (sym e) (subst (PartGiven r x s) (sym f) h)

-- one for which memory ran out
pub part_stopped : (r : Rule) (s : Stand) → PartGiven r (Err (record { kind = kinds.NoMemory; offset = 0 })) s s
part_stopped r s = record { gives = refl; text = refl; forward = omega arith }
