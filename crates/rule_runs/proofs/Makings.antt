-- What each rule leaves of a value, without the recursion on values.
use Rattle.std.proofs.Common.{◌≡◌, ℕ, List, ap, refl, sym, ◌∙◌, true, Bool, false, nat_eq, cond, ◌<◌, arith}
use Rattle.std.proofs.lemmas.Bool.Decides.{nat_tests}
use Rattle.comp_model.specs.declared.Space.{Space}
use Rattle.comp_model.specs.Core.{Reach}
use Rattle.wast_grammar.specs.Classes.{Class}
use Rattle.wast_grammar.specs.Grammar as g
use Rattle.wast_grammar.specs.Grammar.{Value, none, both, left, right, part_at, numbered, Row, Test}
use Rattle.text_rules.specs.Made.{Made, empty, join}
use Rattle.text_rules.specs.Rule.{Rule, nothing, before, after, placed, keeps, reference, told, pair, either, by_test, many, many_by, case, row, checked, also, wraps, outside, marks, silent, skipping, Outside, Adds, Keeps, Wraps}
use Rattle.text_rules.specs.Makes.{makes, adds, kept_made, a_place_made, place_made, wrapped, reference_made, told_made, outside_made}
use Rattle.text_rules.specs.Table.{table, in_table}
use Rattle.text_rules.proofs.MadeParts.{makes_is, same_made}

pub makes_nothing : (v : Value) → makes v nothing ≡ empty
makes_nothing v = makes_is v nothing

pub makes_before : (c : Class) (r : Rule) (v : Value) → makes v (before c r) ≡ makes v r
makes_before c r v = same_made v (before c r) r refl

pub makes_after : (c : Class) (r : Rule) (v : Value) → makes v (after r c) ≡ makes v r
makes_after c r v = same_made v (after r c) r refl

pub makes_checked : (r : Rule) (v : Value) → makes v (checked r) ≡ makes v r
makes_checked r v = same_made v (checked r) r refl

pub makes_skipping : (r : Rule) (v : Value) → makes v (skipping r) ≡ makes v r
makes_skipping r v = same_made v (skipping r) r refl

pub makes_silent : (k : g.Special) (v : Value) → makes v (silent k) ≡ empty
makes_silent k v = makes_is v (silent k)

pub makes_placed : (b : Bool) (c : Class) (v : Value) → makes v (placed b c) ≡ place_made b v
makes_placed b c v = makes_is v (placed b c)

pub makes_keeps : (k : Keeps) (v : Value) → makes v (keeps k) ≡ kept_made k v
makes_keeps k v = makes_is v (keeps k)

pub makes_reference : (u : Space) (r : Reach) (v : Value) → makes v (reference u r) ≡ reference_made u r v
makes_reference u r v = makes_is v (reference u r)

pub makes_told : (ws : List (List ℕ × ℕ)) (ns : List ℕ) (v : Value) → makes v (told ws ns) ≡ told_made ns v
makes_told ws ns v = makes_is v (told ws ns)

pub makes_outside : (x : Outside) (v : Value) → makes v (outside x) ≡ outside_made x v
makes_outside x v = makes_is v (outside x)

pub makes_also : (r : Rule) (x : Adds) (v : Value) → makes v (also r x) ≡ join (makes v r) (adds x)
makes_also r x v = makes_is v (also r x) ∙ ap (λ m. join m (adds x)) (sym (makes_is v r))

pub makes_wraps : (w : Wraps) (r : Rule) (v : Value) → makes v (wraps w r) ≡ wrapped w (makes v r)
makes_wraps w r v = makes_is v (wraps w r) ∙ ap (wrapped w) (sym (makes_is v r))

pub makes_pair : (a b : Rule) (u v : Value) → makes (both u v) (pair a b) ≡ join (makes u a) (makes v b)
makes_pair a b u v = makes_is (both u v) (pair a b)

pub makes_left : (t : Test) (a b : Rule) (u : Value) → makes (left u) (either t a b) ≡ makes u a
makes_left t a b u = makes_is (left u) (either t a b)

pub makes_right : (t : Test) (a b : Rule) (u : Value) → makes (right u) (either t a b) ≡ makes u b
makes_right t a b u = makes_is (right u) (either t a b)

pub makes_left_by : (t : Test) (a b : Rule) (u : Value) → makes (left u) (by_test t a b) ≡ makes u a
makes_left_by t a b u = makes_is (left u) (by_test t a b)

pub makes_right_by : (t : Test) (a b : Rule) (u : Value) → makes (right u) (by_test t a b) ≡ makes u b
makes_right_by t a b u = makes_is (right u) (by_test t a b)

pub makes_many : (t : Test) (a : Rule) (u v : Value) → makes (both u v) (many t a) ≡ join (makes u a) (makes v (many t a))
makes_many t a u v = makes_is (both u v) (many t a)

pub makes_none : (t : Test) (a : Rule) → makes none (many t a) ≡ empty
makes_none t a = makes_is none (many t a)

pub makes_many_by : (t : Test) (a : Rule) (u v : Value) → makes (both u v) (many_by t a) ≡ join (makes u a) (makes v (many_by t a))
makes_many_by t a u v = makes_is (both u v) (many_by t a)

pub makes_none_by : (t : Test) (a : Rule) → makes none (many_by t a) ≡ empty
makes_none_by t a = makes_is none (many_by t a)

pub makes_marks : (r : Rule) (o : ℕ) (v : Value) → makes (part_at o v) (marks r) ≡ join (a_place_made true o) (makes v r)
makes_marks r o v = makes_is (part_at o v) (marks r)

case_here : (b : Bool) (x y : Made) → b ≡ true → cond b x y ≡ x
case_here true x y e = refl
case_here false x y e = absurd (cc)

case_there : (b : Bool) (x y : Made) → b ≡ false → cond b x y ≡ y
case_there false x y e = refl
case_there true x y e = absurd (cc)

itself : (n : ℕ) → nat_eq n n ≡ true
itself n = grind (arith, nat_tests)

differs : (n k : ℕ) → n < k → nat_eq n k ≡ false
differs n k h = grind (arith, nat_tests)

pub makes_case : (n : ℕ) (t : Test) (a b : Rule) (u : Value) → makes (numbered n u) (case n t a b) ≡ makes u a
makes_case n t a b u = makes_is (numbered n u) (case n t a b) ∙ case_here (nat_eq n n) _ _ (itself n)

pub makes_later : (n k : ℕ) (t : Test) (a b : Rule) (u : Value) → n < k → makes (numbered k u) (case n t a b) ≡ makes (numbered k u) b
makes_later n k t a b u h = makes_is (numbered k u) (case n t a b) ∙ case_there (nat_eq n k) _ _ (differs n k h) ∙ sym (makes_is (numbered k u) b)

-- a row leaves what its rule leaves
pub makes_row : (n : Row) (v : Value) → in_table n ≡ true → makes v (row n) ≡ makes v (table n)
makes_row g.Val v h = same_made v (row g.Val) (table g.Val) refl
makes_row g.ComponentItem v h = same_made v (row g.ComponentItem) (table g.ComponentItem) refl
makes_row g.ComponentTypeItem v h = same_made v (row g.ComponentTypeItem) (table g.ComponentTypeItem) refl
makes_row g.InstanceTypeItem v h = same_made v (row g.InstanceTypeItem) (table g.InstanceTypeItem) refl
makes_row g.ModuleTypeItem v h = same_made v (row g.ModuleTypeItem) (table g.ModuleTypeItem) refl
makes_row g.CoreFunc v h = same_made v (row g.CoreFunc) (table g.CoreFunc) refl
makes_row g.Canon v h = same_made v (row g.Canon) (table g.Canon) refl
makes_row g.CanonicalOption v h = same_made v (row g.CanonicalOption) (table g.CanonicalOption) refl
makes_row g.TypeDefinition v h = same_made v (row g.TypeDefinition) (table g.TypeDefinition) refl
makes_row g.Signature v h = same_made v (row g.Signature) (table g.Signature) refl
makes_row g.NamelessSignature v h = same_made v (row g.NamelessSignature) (table g.NamelessSignature) refl
makes_row g.CoreValue v h = same_made v (row g.CoreValue) (table g.CoreValue) refl
makes_row g.CoreTypeDefinition v h = same_made v (row g.CoreTypeDefinition) (table g.CoreTypeDefinition) refl
makes_row g.CoreField v h = absurd (cc)
