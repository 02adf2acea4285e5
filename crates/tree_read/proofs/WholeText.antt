-- A text that is read by its rule to its end.
use Rattle.std.proofs.Common.{◌≡◌, ℕ, ◌<◌, zero, suc, Bool, true, false, cond, refl, ap, sym, subst, ◌∙◌, List, [], ◌∷◌, length, map, get_or, arith, Result, Ok, Err, inl, inr}
use Rattle.comp_model.specs.Model as m
use Rattle.wast_grammar.specs.Classes.{among}
use Rattle.wast_grammar.specs.Stand.{Stand, class_at}
use Rattle.wast_grammar.specs.Grammar.{Value, whole, text_ends}
use Rattle.wast_grammar.specs.Read as o
use Rattle.wast_grammar.specs.Read.{Outcome, read}
use Rattle.text_rules.specs.Made.{Made, empty, join}
use Rattle.text_rules.specs.Rule.{Rule, reads}
use Rattle.text_rules.specs.Makes.{makes}
use Rattle.text_rules.specs.FieldRules.{wat_item}
use Rattle.text_rules.specs.Whole.{one_definition, IsOfComponent, IsOfModule}
use Rattle.comp_tree.specs.Lists.{def_of}
use Rattle.comp_model.specs.CoreModules.{CoreModule, Field}
use Rattle.wast_grammar.specs.Tokens.{Text}
use Rattle.wast_grammar.specs.Grammar.{Grammar}
use Rattle.wast_grammar.specs.Read.{start_of, FailsAs}
use Rattle.wast_tokens.specs.declared.error.Error.{Error}
use Rattle.std.specs.Prelude.{◌⊎◌}
use Rattle.comp_tree.specs.declared.tree.Def.{Def}
use Rattle.tree_build.specs.Held.{held}
use Rattle.tree_build.specs.Cores.{Final, fields_read, cores_of, module_of}
use Rattle.tree_build.specs.declared.cores.Cores.{Cores}
use Rattle.tree_build.specs.declared.scratch.Scratch.{Scratch}
use Rattle.tree_read.specs.declared.text.TextTree.{TextTree}
use Rattle.tree_read.specs.Whole.{GivesText, refused_at}
use Rattle.tree_build.proofs.Prefixes.{starts_itself}
use Rattle.tree_read.proofs.Further.{place_in, read_from}
use Rattle.rule_runs.specs.Run.{Ran, run, ran, done, fault, deep}
use Rattle.tree_read.specs.Comes.{FailsBy, Refuses, Reads}
use Rattle.tree_read.specs.declared.fault.Fault.{Fault}
use Rattle.tree_read.specs.declared.fault.Fault.TheVariants.{Parse, TooDeep, NoMemory}

abbrev ended : Outcome → Outcome
ended p = o.andthen p (λ u t. cond (among text_ends (class_at t)) (o.reads u t) (o.fault t))

-- a text that was read, and ends
pub record Ended (r : Rule) (s t : Stand) (a b : Made) : Type 0 where
  pub value : Value
  pub read : read (whole (reads r)) s ≡ o.reads value t
  pub made : b ≡ join a (makes value r)

ended_by : (r : Rule) (s t : Stand) (a b : Made) (p : Outcome) → read (reads r) s ≡ p → ran a r p ≡ done b t → among text_ends (class_at t) ≡ true → Ended r s t a b
ended_by r s t a b (o.reads v u) e h k =
    let q : u ≡ t = cc in
    let w : join a (makes v r) ≡ b = cc in
    record { value = v; read = ap ended e ∙ (ap (λ x. cond (among text_ends (class_at x)) (o.reads v x) (o.fault x)) q ∙ ap (λ x. cond x (o.reads v t) (o.fault t)) k); made = sym w }
ended_by r s t a b (o.fault u) e h k = absurd (cc)
ended_by r s t a b (o.deep u) e h k = absurd (cc)

pub text_ended : (r : Rule) (s t : Stand) (a b : Made) → run r s a ≡ done b t → among text_ends (class_at t) ≡ true → Ended r s t a b
unfolding run
text_ended r s t a b h k = ended_by r s t a b (read (reads r) s) refl h k

not_ended_by : (r : Rule) (s t : Stand) (a b : Made) (p : Outcome) → ran a r p ≡ done b t → among text_ends (class_at t) ≡ false → ended p ≡ o.fault t
not_ended_by r s t a b (o.reads v u) h k =
    let q : u ≡ t = cc in
    ap (λ x. cond (among text_ends (class_at x)) (o.reads v x) (o.fault x)) q ∙ ap (λ x. cond x (o.reads v t) (o.fault t)) k
not_ended_by r s t a b (o.fault u) h k = absurd (cc)
not_ended_by r s t a b (o.deep u) h k = absurd (cc)

pub not_ended : (r : Rule) (s t : Stand) (a b : Made) → run r s a ≡ done b t → among text_ends (class_at t) ≡ false → read (whole (reads r)) s ≡ o.fault t
unfolding run
not_ended r s t a b h k = not_ended_by r s t a b (read (reads r) s) h k

refused_by : (e : Fault) (r : Rule) (t : Stand) (a : Made) (p : Outcome) → Refuses e t (ran a r p) → FailsBy e t (ended p)
refused_by Parse r t a (o.reads v u) h = absurd (cc)
refused_by Parse r t a (o.fault u) h = let q : u ≡ t = cc in ap o.fault q
refused_by Parse r t a (o.deep u) h = absurd (cc)
refused_by TooDeep r t a (o.reads v u) h = absurd (cc)
refused_by TooDeep r t a (o.fault u) h = absurd (cc)
refused_by TooDeep r t a (o.deep u) h = let q : u ≡ t = cc in ap o.deep q
refused_by NoMemory r t a p h = tt

pub text_refused : (e : Fault) (r : Rule) (s t : Stand) (a : Made) → Refuses e t (run r s a) → FailsBy e t (read (whole (reads r)) s)
unfolding run
text_refused e r s t a h = refused_by e r t a (read (reads r) s) h

-- it is one definition
pub record OneDefinition (s t : Stand) (b : Made) : Type 0 where
  pub value : Value
  pub read : read (whole (reads wat_item)) s ≡ o.reads value t
  pub def : m.Def
  pub made : makes value wat_item ≡ one_definition def
  pub held : b ≡ one_definition def

-- what a text is, by the law of the table
abbrev pub IsWhole : Type 0
IsWhole = (s t : Stand) (v : Value) → read (whole (reads wat_item)) s ≡ o.reads v t → IsOfComponent (makes v wat_item) ⊎ IsOfModule (makes v wat_item)

pub one_definition_is : IsWhole → (s t : Stand) (a b : Made) → a ≡ empty → run wat_item s a ≡ done b t → among text_ends (class_at t) ≡ true → OneDefinition s t b
one_definition_is law s t a b z h k =
    let e = text_ended wat_item s t a b h k in
    let w = e.made ∙ ap (λ x. join x (makes e.value wat_item)) z in
    elim (law s t e.value e.read) [
      | inl c ↦ record { value = e.value; read = e.read; def = c.0; made = c.1; held = w ∙ c.1 }
      | inr c ↦ record { value = e.value; read = e.read; def = c.0; made = c.1; held = w ∙ c.1 }
    ]

-- the lists so far are all of a text that is read
final_itself : (c : Cores) → Final (fields_read c) (cores_of c) c
final_itself c = record { fields = starts_itself (fields_read c); modules = starts_itself (map (module_of (fields_read c)) c.modules.items) }

-- what is held of a text, once it is read
pub held_whole : {X : Type 0} → IsWhole → (x : X) (s t : Stand) (p q : Scratch) → ((fs : List (List Field)) (cs : List CoreModule) → held fs cs p ≡ empty) → Reads wat_item (Ok x) s t p q → among text_ends (class_at t) ≡ true → OneDefinition s t (held (fields_read q.cores) (cores_of q.cores) q)
held_whole law x s t p q z h k = one_definition_is law s t (held (fields_read q.cores) (cores_of q.cores) p) (held (fields_read q.cores) (cores_of q.cores) q) (z (fields_read q.cores) (cores_of q.cores)) (h.1 (fields_read q.cores) (cores_of q.cores) (final_itself q.cores)) k

pub one_there : {A B : Type 0} (f : A → B) (xs : List A) (y : B) → map f xs ≡ y ∷ [] → 0 < length xs
one_there f [] y e = absurd (cc)
one_there f (x ∷ xs) y e = omega arith

-- the first of a list that stands for one
pub first_is : {A B : Type 0} (f : A → B) (xs : List A) (y : B) (d : A) → map f xs ≡ y ∷ [] → (0 < length xs) × (f (get_or xs 0 d) ≡ y)
first_is f [] y d e = absurd (cc)
first_is f (x ∷ xs) y d e = (omega arith, cc)

pub def_there : (s t : Stand) (q : Scratch) → OneDefinition s t (held (fields_read q.cores) (cores_of q.cores) q) → 0 < length q.defs.items
def_there s t q e = one_there (def_of (cores_of q.cores)) q.defs.items e.def (ap (λ b. b.defs) e.held)

-- a text that was read
pub whole_given : (b : Text) (s t : Stand) (q : Scratch) (x : TextTree) → s ≡ start_of b → OneDefinition s t (held (fields_read q.cores) (cores_of q.cores) q) → ((d : Def) → x.def ≡ get_or q.defs.items 0 d) → x.cores ≡ q.cores → GivesText (Ok x) b
whole_given b s t q x z e h k =
    let first = (first_is (def_of (cores_of q.cores)) q.defs.items e.def x.def (ap (λ a. a.defs) e.held)).1 in
    let meant : e.def ≡ def_of (cores_of x.cores) x.def = sym first ∙ (ap (def_of (cores_of q.cores)) (sym (h x.def)) ∙ ap (λ c. def_of (cores_of c) x.def) (sym k)) in
    record {
      at = t;
      within = sym (ap (λ p. (place_in p).text) e.read) ∙ ((read_from (whole (reads wat_item)) s).text ∙ ap (λ r. r.text) z);
      gives = (e.value, ap (λ r. read (whole (reads wat_item)) r) (sym z) ∙ e.read, e.made ∙ ap one_definition meant);
    }

refused_within : (e : Fault) (g : Grammar) (s t : Stand) → FailsBy e t (read g s) → (refused_at e s t).text ≡ s.text
refused_within Parse g s t h = sym (ap (λ p. (place_in p).text) h) ∙ (read_from g s).text
refused_within TooDeep g s t h = sym (ap (λ p. (place_in p).text) h) ∙ (read_from g s).text
refused_within NoMemory g s t h = refl

-- a text that is refused
pub whole_refused : (b : Text) (e : Fault) (s t : Stand) (x : Error) → s ≡ start_of b → FailsBy e t (read (whole (reads wat_item)) s) → ((u : Stand) (o : Outcome) → FailsBy e t o → FailsAs x.kind x.offset (refused_at e u t) o) → GivesText (Err x) b
whole_refused b e s t x z h k = record {
  at = refused_at e s t;
  within = refused_within e (whole (reads wat_item)) s t h ∙ ap (λ r. r.text) z;
  gives = subst (λ r. FailsAs x.kind x.offset (refused_at e s t) (read (whole (reads wat_item)) r)) z (k s (read (whole (reads wat_item)) s) h);
}
