-- What reading by each former comes to.
use Rattle.std.proofs.Common.{◌≡◌, ℕ, ◌<◌, List, [], ◌∷◌, Bool, true, false, cond, refl, ap, sym, subst, inl, inr, ◌∙◌, arith, nat_lt, Option, Some, None, codes}
use Rattle.std.proofs.lemmas.Bool.Decides.{nat_tests}
use Rattle.comp_model.specs.declared.Space.{Space}
use Rattle.comp_model.specs.Core.{Reach}
use Rattle.wast_grammar.specs.Classes.{Class, same, numeral, id, keyword, opening, closing}
use Rattle.wast_grammar.specs.Stand.{Stand, class_at, moved, offset_of}
use Rattle.wast_grammar.specs.Grammar as g
use Rattle.wast_grammar.specs.Grammar.{Grammar, Value, none, num, both, left, right, part_at, numbered, Row, Test, holds, class_of_leaf, value_at, is_special, special_value, number_in, made_of, any_choice}
use Rattle.wast_grammar.specs.Rows as rows
use Rattle.wast_grammar.specs.ValueRows.{strings}
use Rattle.wast_grammar.specs.Read as o
use Rattle.wast_grammar.specs.Read.{Outcome, read, open_at, skip_rest}
use Rattle.wast_grammar.specs.Shape.{sound, above}
use Rattle.wast_grammar.proofs.Fuel.{row_is, again_is}
use Rattle.wast_grammar.proofs.Moves.{chosen, andthen_reads, sound_case}
use Rattle.text_rules.specs.Made.{Made, empty, join, front, behind}
use Rattle.text_rules.specs.Rule.{Rule, nothing, before, after, placed, keeps, reference, told, pair, either, by_test, many, many_by, case, no_case, row, checked, also, wraps, outside, marks, silent, skipping, Adds, Keeps, kept, Wraps, reads, a_text, a_plain_name}
use Rattle.text_rules.specs.Makes.{makes, adds, kept_made, a_place_made, wrapped, reference_made, outside_made}
use Rattle.text_rules.specs.Table.{table, in_table}
use Rattle.text_rules.proofs.TableReads.{reads_rows}
use Rattle.rule_runs.specs.Run.{done, fault, deep, ran, run, andthen, taken, referred, told_by, gone_over, named_interface}
use Rattle.rule_runs.proofs.Joins.{join_empty, join_join, wrapped_behind}
use Rattle.rule_runs.proofs.Makings.{makes_nothing, makes_before, makes_after, makes_checked, makes_skipping, makes_silent, makes_placed, makes_keeps, makes_reference, makes_told, makes_outside, makes_also, makes_wraps, makes_pair, makes_left, makes_right, makes_left_by, makes_right_by, makes_many, makes_none, makes_many_by, makes_none_by, makes_marks, makes_case, makes_later, makes_row}

-- two rules that leave the same of whatever is read
alike : (a b : Made) (r q : Rule) (p : Outcome) → ((v : Value) → join a (makes v r) ≡ join b (makes v q)) → ran a r p ≡ ran b q p
alike a b r q (o.reads v t) h = ap (λ m. done m t) (h v)
alike a b r q (o.fault t) h = refl
alike a b r q (o.deep t) h = refl

-- a choice of outcomes is a choice of what they come to
chosen_ran : (h : Bool) (a : Made) (r : Rule) (p q : Outcome) → ran a r (cond h p q) ≡ cond h (ran a r p) (ran a r q)
chosen_ran true a r p q = refl
chosen_ran false a r p q = refl

cond_alike : {A : Type 0} (h : Bool) (x y u v : A) → x ≡ u → y ≡ v → cond h x y ≡ cond h u v
cond_alike h x y u v e f = ap (λ z. cond h z y) e ∙ ap (λ z. cond h u z) f

-- ---- one token

pub run_nothing : (s : Stand) (a : Made) → run nothing s a ≡ done a s
unfolding run
run_nothing s a = ap (λ m. done m s) (ap (join a) (makes_nothing none) ∙ join_empty a)

token_so : (h : Bool) (a b : Made) (r : Rule) (v : Value) (s : Stand) → join a (makes v r) ≡ b → ran a r (cond h (o.reads v (moved s 1)) (o.fault s)) ≡ cond h (done b (moved s 1)) (fault s)
token_so true a b r v s e = ap (λ m. done m (moved s 1)) e
token_so false a b r v s e = refl

pub run_keeps : (k : Keeps) (s : Stand) (a : Made) → run (keeps k) s a ≡ taken (class_of_leaf (kept k)) (join a (kept_made k (value_at (kept k) s))) s
unfolding run
run_keeps k s a = token_so (same (class_at s) (class_of_leaf (kept k))) a _ (keeps k) (value_at (kept k) s) s (ap (join a) (makes_keeps k (value_at (kept k) s)))

pub run_silent : (k : g.Special) (s : Stand) (a : Made) → run (silent k) s a ≡ cond (is_special k s) (done a (moved s 1)) (fault s)
unfolding run
run_silent k s a = token_so (is_special k s) a a (silent k) (special_value k s) s (ap (join a) (makes_silent k (special_value k s)) ∙ join_empty a)

placed_so : (h : Bool) (b : Bool) (c : Class) (s : Stand) (a : Made) → ran a (placed b c) (o.andthen (cond h (o.reads none (moved s 1)) (o.fault s)) (λ u t. o.reads (part_at (offset_of s) u) t)) ≡ cond h (done (join a (a_place_made b (offset_of s))) (moved s 1)) (fault s)
placed_so true b c s a = ap (λ m. done (join a m) (moved s 1)) (makes_placed b c (part_at (offset_of s) none))
placed_so false b c s a = refl

pub run_placed : (b : Bool) (c : Class) (s : Stand) (a : Made) → run (placed b c) s a ≡ taken c (join a (a_place_made b (offset_of s))) s
unfolding run
run_placed b c s a = placed_so (same (class_at s) c) b c s a

told_so : (n : Option ℕ) (ws : List (List ℕ × ℕ)) (ns : List ℕ) (s : Stand) (a : Made) → ran a (told ws ns) (o.told n s) ≡ told_by ns n s a
told_so None ws ns s a = refl
told_so (Some n) ws ns s a = ap (λ m. done (join a m) (moved s 1)) (makes_told ws ns (num n))

pub run_told : (ws : List (List ℕ × ℕ)) (ns : List ℕ) (s : Stand) (a : Made) → run (told ws ns) s a ≡ told_by ns (number_in ws (class_at s)) s a
unfolding run
run_told ws ns s a = told_so (number_in ws (class_at s)) ws ns s a

referred_so : (h k l : Bool) (u : Space) (r : Reach) (x y : Value) (s : Stand) (a : Made) → h ≡ l
    → ran a (reference u r) (cond l (o.andthen (cond h (o.reads x (moved s 1)) (o.fault s)) (λ v t. o.reads (left v) t)) (o.andthen (cond k (o.reads y (moved s 1)) (o.fault s)) (λ v t. o.reads (right v) t)))
    ≡ cond h (done (join a (reference_made u r (left x))) (moved s 1)) (cond k (done (join a (reference_made u r (right y))) (moved s 1)) (fault s))
referred_so true k true u r x y s a e = ap (λ m. done (join a m) (moved s 1)) (makes_reference u r (left x))
referred_so false k true u r x y s a e = absurd (cc)
referred_so true k false u r x y s a e = absurd (cc)
referred_so false true false u r x y s a e = ap (λ m. done (join a m) (moved s 1)) (makes_reference u r (right y))
referred_so false false false u r x y s a e = refl

one_class : (b : Bool) → b ≡ cond b true false
one_class true = refl
one_class false = refl

-- ---- tokens beside a rule

before_so : (h : Bool) (c : Class) (r : Rule) (s : Stand) (a : Made) (p : Outcome) → ran a (before c r) (cond h p (o.fault s)) ≡ cond h (ran a r p) (fault s)
before_so true c r s a p = alike a a (before c r) r p (λ v. ap (join a) (makes_before c r v))
before_so false c r s a p = refl

pub run_before : (c : Class) (r : Rule) (s : Stand) (a : Made) → run (before c r) s a ≡ cond (same (class_at s) c) (run r (moved s 1) a) (fault s)
unfolding run
run_before c r s a = before_so (same (class_at s) c) c r s a (read (reads r) (moved s 1))

after_so : (p : Outcome) (r : Rule) (c : Class) (a : Made) → ran a (after r c) (o.andthen p (λ u t. cond (same (class_at t) c) (o.reads u (moved t 1)) (o.fault t))) ≡ andthen (ran a r p) (λ b t. taken c b t)
after_so (o.reads v t) r c a = token_so (same (class_at t) c) a (join a (makes v r)) (after r c) v t (ap (join a) (makes_after c r v))
after_so (o.fault t) r c a = refl
after_so (o.deep t) r c a = refl

pub run_after : (r : Rule) (c : Class) (s : Stand) (a : Made) → run (after r c) s a ≡ andthen (run r s a) (λ b t. taken c b t)
unfolding run
run_after r c s a = after_so (read (reads r) s) r c a

marks_so : (p : Outcome) (r : Rule) (n : ℕ) (a : Made) → ran a (marks r) (o.andthen p (λ u t. o.reads (part_at n u) t)) ≡ ran (join a (a_place_made true n)) r p
marks_so (o.reads v t) r n a = ap (λ m. done m t) (ap (join a) (makes_marks r n v) ∙ sym (join_join a (a_place_made true n) (makes v r)))
marks_so (o.fault t) r n a = refl
marks_so (o.deep t) r n a = refl

-- the offset comes first
pub run_marks : (r : Rule) (s : Stand) (a : Made) → run (marks r) s a ≡ run r s (join a (a_place_made true (offset_of s)))
unfolding run
run_marks r s a = marks_so (read (reads r) s) r (offset_of s) a

skipping_end : (p : Outcome) (r : Rule) (v : Value) (a : Made) → ran a (skipping r) (o.andthen p (λ w t. o.reads v t)) ≡ gone_over (join a (makes v r)) p
skipping_end (o.reads w t) r v a = ap (λ m. done (join a m) t) (makes_skipping r v)
skipping_end (o.fault t) r v a = refl
skipping_end (o.deep t) r v a = refl

skipping_so : (p : Outcome) (r : Rule) (a : Made) → ran a (skipping r) (o.andthen p (λ u t. o.andthen (skip_rest t) (λ v q. o.reads u q))) ≡ andthen (ran a r p) (λ b t. gone_over b (skip_rest t))
skipping_so (o.reads v t) r a = skipping_end (skip_rest t) r v a
skipping_so (o.fault t) r a = refl
skipping_so (o.deep t) r a = refl

pub run_skipping : (r : Rule) (s : Stand) (a : Made) → run (skipping r) s a ≡ andthen (run r s a) (λ b t. gone_over b (skip_rest t))
unfolding run
run_skipping r s a = skipping_so (read (reads r) s) r a

-- ---- several rules

pair_second : (p : Outcome) (u : Value) (x y : Rule) (a : Made) → ran a (pair x y) (o.andthen p (λ v r. o.reads (both u v) r)) ≡ ran (join a (makes u x)) y p
pair_second (o.reads v r) u x y a = ap (λ b. done b r) (ap (join a) (makes_pair x y u v) ∙ sym (join_join a (makes u x) (makes v y)))
pair_second (o.fault r) u x y a = refl
pair_second (o.deep r) u x y a = refl

pair_so : (p : Outcome) (x y : Rule) (a : Made) → ran a (pair x y) (o.andthen p (λ u t. o.andthen (read (reads y) t) (λ v r. o.reads (both u v) r))) ≡ andthen (ran a x p) (λ b t. ran b y (read (reads y) t))
pair_so (o.reads u t) x y a = pair_second (read (reads y) t) u x y a
pair_so (o.fault t) x y a = refl
pair_so (o.deep t) x y a = refl

pub run_pair : (x y : Rule) (s : Stand) (a : Made) → run (pair x y) s a ≡ andthen (run x s a) (λ b t. run y t b)
unfolding run
run_pair x y s a = pair_so (read (reads x) s) x y a

-- the value of a choice leaves what that of the chosen rule does
side_so : (w : Value → Value) (r q : Rule) (a : Made) (p : Outcome) → ((v : Value) → makes (w v) r ≡ makes v q) → ran a r (o.andthen p (λ u t. o.reads (w u) t)) ≡ ran a q p
side_so w r q a (o.reads v t) h = ap (λ m. done (join a m) t) (h v)
side_so w r q a (o.fault t) h = refl
side_so w r q a (o.deep t) h = refl

pub run_either : (t : Test) (x y : Rule) (s : Stand) (a : Made) → run (either t x y) s a ≡ cond (holds t s) (run x s a) (run y s a)
unfolding run
run_either t x y s a =
    chosen_ran (holds t s) a (either t x y) _ _
    ∙ cond_alike (holds t s) _ _ _ _ (side_so left (either t x y) x a (read (reads x) s) (makes_left t x y)) (side_so right (either t x y) y a (read (reads y) s) (makes_right t x y))

pub run_by_test : (t : Test) (x y : Rule) (s : Stand) (a : Made) → run (by_test t x y) s a ≡ cond (holds t s) (run x s a) (run y s a)
unfolding run
run_by_test t x y s a =
    chosen_ran (holds t s) a (by_test t x y) _ _
    ∙ cond_alike (holds t s) _ _ _ _ (side_so left (by_test t x y) x a (read (reads x) s) (makes_left_by t x y)) (side_so right (by_test t x y) y a (read (reads y) s) (makes_right_by t x y))

-- an item of a list, and the others
item_rest : (p : Outcome) (u : Value) (m x : Rule) (a : Made) → ((v : Value) → makes (both u v) m ≡ join (makes u x) (makes v m)) → ran a m (o.andthen p (λ v r. o.reads (both u v) r)) ≡ ran (join a (makes u x)) m p
item_rest (o.reads v r) u m x a h = ap (λ b. done b r) (ap (join a) (h v) ∙ sym (join_join a (makes u x) (makes v m)))
item_rest (o.fault r) u m x a h = refl
item_rest (o.deep r) u m x a h = refl

items_so : (p : Outcome) (m x : Rule) (a : Made) → sound (reads m) ≡ true → ((u v : Value) → makes (both u v) m ≡ join (makes u x) (makes v m))
    → ran a m (o.andthen p (λ u r. o.andthen (o.again (reads m) r) (λ v q. o.reads (both u v) q))) ≡ andthen (ran a x p) (λ b r. ran b m (read (reads m) r))
items_so (o.reads u r) m x a z h = ap (λ p. ran a m (o.andthen p (λ v q. o.reads (both u v) q))) (again_is (reads m) r z) ∙ item_rest (read (reads m) r) u m x a (h u)
items_so (o.fault r) m x a z h = refl
items_so (o.deep r) m x a z h = refl

ends_so : (m : Rule) (s : Stand) (a : Made) → makes none m ≡ empty → ran a m (o.reads none s) ≡ done a s
ends_so m s a e = ap (λ b. done b s) (ap (join a) e ∙ join_empty a)

pub run_many : (t : Test) (x : Rule) (s : Stand) (a : Made) → sound (reads (many t x)) ≡ true → run (many t x) s a ≡ cond (holds t s) (andthen (run x s a) (λ b r. run (many t x) r b)) (done a s)
unfolding run
run_many t x s a z =
    chosen_ran (holds t s) a (many t x) _ _
    ∙ cond_alike (holds t s) _ _ _ _ (items_so (read (reads x) s) (many t x) x a z (makes_many t x)) (ends_so (many t x) s a (makes_none t x))

pub run_many_by : (t : Test) (x : Rule) (s : Stand) (a : Made) → sound (reads (many_by t x)) ≡ true → run (many_by t x) s a ≡ cond (holds t s) (andthen (run x s a) (λ b r. run (many_by t x) r b)) (done a s)
unfolding run
run_many_by t x s a z =
    chosen_ran (holds t s) a (many_by t x) _ _
    ∙ cond_alike (holds t s) _ _ _ _ (items_so (read (reads x) s) (many_by t x) x a z (makes_many_by t x)) (ends_so (many_by t x) s a (makes_none_by t x))

-- ---- cases

numbered_by : (m : ℕ) (u : Value) (r : Stand) (v : Value) (t : Stand) → o.reads (numbered m u) r ≡ o.reads v t → v ≡ numbered m u
numbered_by m u r v t e = cc

-- what is read of later cases has a later number
later : (y : Grammar) (n : ℕ) (s : Stand) (v : Value) (t : Stand) → sound y ≡ true → above n y ≡ true → read y s ≡ o.reads v t → (k : ℕ) × (u : Value) × (n < k) × (v ≡ numbered k u)
later (g.case m q x y) n s v t z h e =
    let c = sound_case m q x y z in
    let m_above : n < m = grind (arith, nat_tests) in
    elim (chosen (holds q s) (o.andthen (read x s) (λ u r. o.reads (numbered m u) r)) (read y s) (o.reads v t) e) [
      | inl p ↦ (let f = andthen_reads (read x s) (λ u r. o.reads (numbered m u) r) v t p.1 in (m, f.0, m_above, numbered_by m f.0 f.1 v t f.3))
      | inr p ↦ (let f = later y m s v t c.rest_sound c.rest_above p.1 in (f.0, f.1, omega (arith, f.2), f.3))
    ]
later g.no_case n s v t z h e = absurd (cc)
later y n s v t z h e = absurd (cc)

not_this : (n : ℕ) (t : Test) (x y : Rule) (s : Stand) (a : Made) (p : Outcome) → sound (reads y) ≡ true → above n (reads y) ≡ true → read (reads y) s ≡ p → ran a (case n t x y) p ≡ ran a y p
not_this n t x y s a (o.reads v r) z h e =
    let l = later (reads y) n s v r z h e in
    ap (λ m. done (join a m) r) (subst (λ w. makes w (case n t x y) ≡ makes w y) (sym l.3) (makes_later n l.0 t x y l.1 l.2))
not_this n t x y s a (o.fault r) z h e = refl
not_this n t x y s a (o.deep r) z h e = refl

pub run_case : (n : ℕ) (t : Test) (x y : Rule) (s : Stand) (a : Made) → sound (reads (case n t x y)) ≡ true → run (case n t x y) s a ≡ cond (holds t s) (run x s a) (run y s a)
unfolding run
run_case n t x y s a z =
    let c = sound_case n t (reads x) (reads y) z in
    chosen_ran (holds t s) a (case n t x y) _ _
    ∙ cond_alike (holds t s) _ _ _ _ (side_so (numbered n) (case n t x y) x a (read (reads x) s) (makes_case n t x y)) (not_this n t x y s a (read (reads y) s) c.rest_sound c.rest_above refl)

pub run_no_case : (s : Stand) (a : Made) → run no_case s a ≡ fault s
unfolding run
run_no_case s a = refl

-- ---- rows, checked items, and what stands behind a rule

pub run_row : (n : Row) (s : Stand) (a : Made) → in_table n ≡ true → run (row n) s a ≡ run (table n) s a
unfolding run
run_row n s a h =
    ap (ran a (row n)) (row_is n s ∙ ap (λ x. read x s) (sym (reads_rows n h)))
    ∙ alike a a (row n) (table n) (read (reads (table n)) s) (λ v. ap (join a) (makes_row n v h))

pub run_checked : (r : Rule) (s : Stand) (a : Made) → run (checked r) s a ≡ cond (nat_lt 100 (open_at s)) (deep s) (run r s a)
unfolding run
run_checked r s a =
    chosen_ran (nat_lt 100 (open_at s)) a (checked r) _ _
    ∙ cond_alike (nat_lt 100 (open_at s)) _ _ _ _ refl (alike a a (checked r) r (read (reads r) s) (λ v. ap (join a) (makes_checked r v)))

also_so : (r : Rule) (x : Adds) (a : Made) (p : Outcome) → ran a (also r x) p ≡ andthen (ran a r p) (λ b t. done (join b (adds x)) t)
also_so r x a (o.reads v t) = ap (λ b. done b t) (ap (join a) (makes_also r x v) ∙ sym (join_join a (makes v r) (adds x)))
also_so r x a (o.fault t) = refl
also_so r x a (o.deep t) = refl

pub run_also : (r : Rule) (x : Adds) (s : Stand) (a : Made) → run (also r x) s a ≡ andthen (run r s a) (λ b t. done (join b (adds x)) t)
unfolding run
run_also r x s a = also_so r x a (read (reads r) s)

wraps_so : (w : Wraps) (r : Rule) (a : Made) (p : Outcome) → ran a (wraps w r) p ≡ andthen (ran a r p) (λ b t. done (join (front a b) (wrapped w (behind a b))) t)
wraps_so w r a (o.reads v t) = ap (λ b. done b t) (ap (join a) (makes_wraps w r v) ∙ wrapped_behind w a (makes v r))
wraps_so w r a (o.fault t) = refl
wraps_so w r a (o.deep t) = refl

pub run_wraps : (w : Wraps) (r : Rule) (s : Stand) (a : Made) → run (wraps w r) s a ≡ andthen (run r s a) (λ b t. done (join (front a b) (wrapped w (behind a b))) t)
unfolding run
run_wraps w r s a = wraps_so w r a (read (reads r) s)

-- an id or a number, as a reference
same_one : (s : Stand) → same (class_at s) id ≡ holds (g.next (id ∷ [])) s
same_one s = one_class (same (class_at s) id)

pub run_reference : (u : Space) (r : Reach) (s : Stand) (a : Made) → run (reference u r) s a ≡ referred u r s a
unfolding run rows.reference
run_reference u r s a = referred_so (same (class_at s) id) (same (class_at s) numeral) (holds (g.next (id ∷ [])) s) u r (value_at g.an_id s) (value_at g.a_numeral s) s a (same_one s)

-- ---- names of items

same_text : (v : Value) → outside_made a_plain_name v ≡ kept_made a_text v
same_text none = refl
same_text _ = refl

-- the chosen value alone is left of a choice
name_so : (w : Value → Value) (q : Rule) (a : Made) (p : Outcome) → ((v : Value) → made_of any_choice (w v) ≡ v) → ((v : Value) → makes v q ≡ kept_made a_text v)
    → ran a (outside a_plain_name) (o.andthen (o.andthen p (λ u t. o.reads (w u) t)) (λ u t. o.reads (made_of any_choice u) t)) ≡ ran a q p
name_so w q a (o.reads v t) e h =
    ap (λ m. done (join a m) t) (ap (λ x. makes x (outside a_plain_name)) (e v) ∙ makes_outside a_plain_name v ∙ same_text v ∙ sym (h v))
name_so w q a (o.fault t) e h = refl
name_so w q a (o.deep t) e h = refl

chosen_then : (h : Bool) (x y : Outcome) (k : Value → Stand → Outcome) → o.andthen (cond h x y) k ≡ cond h (o.andthen x k) (o.andthen y k)
chosen_then true x y k = refl
chosen_then false x y k = refl

pub run_plain_name : (s : Stand) (a : Made) → run (outside a_plain_name) s a ≡ cond (holds (g.next strings) s) (run (keeps a_text) s a) (run named_interface s a)
unfolding run rows.plain_name rows.interface_name
run_plain_name s a =
    ap (ran a (outside a_plain_name)) (chosen_then (holds (g.next strings) s) _ _ (λ u t. o.reads (made_of any_choice u) t))
    ∙ chosen_ran (holds (g.next strings) s) a (outside a_plain_name) _ _
    ∙ cond_alike (holds (g.next strings) s) _ _ _ _
    (name_so left (keeps a_text) a (read (reads (keeps a_text)) s) (λ v. refl) (makes_keeps a_text))
    (name_so right named_interface a (read (reads named_interface) s) (λ v. refl) (λ v. makes_before opening _ v ∙ makes_after closing _ v ∙ makes_before (keyword (codes "interface")) _ v ∙ makes_keeps a_text v))
