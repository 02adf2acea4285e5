-- What a rule makes of a value that it spells has a sort of which each test holds that all its choices pass.
use Rattle.std.proofs.Common.{◌≡◌, ℕ, Bool, true, false, ◌&&◌, ◌||◌, not, nat_eq, List, [], ◌∷◌, slice_index, refl, sym, subst, inl, inr, Some, eq-eqb, arith}
use Rattle.std.specs.List.{list_all}
use Rattle.std.specs.Str.{is_utf8}
use Rattle.comp_model.specs.Core as core
use Rattle.comp_model.specs.declared.Space.{Space}
use Rattle.comp_model.specs.Rows as w
use Rattle.wast_grammar.specs.Classes.{Class, same, keyword}
use Rattle.wast_grammar.specs.Stand.{Stand, class_at}
use Rattle.wast_grammar.specs.Grammar as g
use Rattle.wast_grammar.specs.Grammar.{Grammar, Test, Row, Value, none, num, numeral_at, name_at, text, both, left, right, part_at, numbered, number_in}
use Rattle.wast_grammar.specs.Rows.{reference, plain_name, extern_name, interface_name, attributes, text_row}
use Rattle.wast_grammar.specs.Spells as sp
use Rattle.wast_grammar.specs.Spells.{Spells}
use Rattle.wast_grammar.specs.OfText.{IsOfText}
use Rattle.wast_grammar.proofs.Moves.{chosen, and_true}
use Rattle.text_rules.specs.Made.{Made, empty, join}
use Rattle.text_rules.specs.Makes as k
use Rattle.text_rules.specs.Makes.{makes, made_by, made_at, of_both, of_side, of_case, of_part, kept_made, place_made, reference_made, told_made, outside_made, attribute}
use Rattle.text_rules.specs.Rule as r
use Rattle.text_rules.specs.Rule.{Rule, reads}
use Rattle.text_rules.specs.Table.{table, in_table}
use Rattle.text_rules.specs.Sorts.{Parts, a_ref, a_number_of, a_name}
use Rattle.text_rules.specs.Good.{GoodLeaf}
use Rattle.text_rules.specs.HasSorts as is
use Rattle.text_rules.specs.HasSorts.{HasLeaf, HasParts, Has}
use Rattle.text_rules.specs.Tests.{all, bare, lone, both_sorts, sort_added, sort_kept, sort_outside, below, by_wraps, repeated, each_repeats, sorts, others, told_numbers, unheaded, is_one_of, row_passes, lone_sorts, covers, is_nothing, unless, keeps_count, unless_marked}
use Rattle.text_rules.proofs.Booleans.{not_true}
use Rattle.text_rules.proofs.Parts.{bare_has, lone_has, join_has, below_has, one_has, none_repeated, more_repeated, repeated-refl}
use Rattle.text_rules.proofs.Wraps.{passes_wraps}
use Rattle.text_rules.proofs.CoreWords.{core_module_word}
use Rattle.text_rules.proofs.TableReads.{reads_rows}
use Rattle.text_rules.proofs.MadeParts.{first, second}
use Rattle.text_rules.proofs.Utf8.{utf8_there, Utf8Value, spelled_utf8, chosen_utf8}

abbrev pub Spelled : Grammar → Value → Type 0
Spelled x v = (s : Stand) × (t : Stand) × Spells x s t v

abbrev pub Good : Value → Type 0
Good v = (q : Rule) → Spelled (reads q) v → IsOfText v → (p : Parts → Bool) → all q p ≡ true → Has p (makes v q)

-- the same of the parts of a value, and what they leave
abbrev Sub : Value → Type 0
Sub (both u v) = Good u × Good v
Sub (left u) = Good u
Sub (right u) = Good u
Sub (part_at o u) = Good u
Sub (numbered n u) = Good u
Sub v = Unit {0}

-- ---- what spells a part

of_before : {c : Class} {x : Grammar} {s t : Stand} {v : Value} → Spells (g.before c x) s t v → Spelled x v
of_before (sp.token h d) = (_, _, d)

of_after : {c : Class} {x : Grammar} {s t : Stand} {v : Value} → Spells (g.after x c) s t v → Spelled x v
of_after (sp.behind d h) = (_, _, d)

of_checked : {x : Grammar} {s t : Stand} {v : Value} → Spells (g.checked x) s t v → Spelled x v
of_checked (sp.check d) = (_, _, d)

of_skipping : {x : Grammar} {s t : Stand} {v : Value} → Spells (g.skipping x) s t v → Spelled x v
of_skipping (sp.skipped d e) = (_, _, d)

of_row : {n : Row} {s t : Stand} {v : Value} → Spells (g.row n) s t v → Spells (text_row n) s t v
of_row (sp.by_row d) = d

-- ---- one token

place_has : (b : Bool) (v : Value) → HasParts bare (place_made b v)
place_has true (part_at o v) = record { rows = refl; leaves = bare_has.leaves; nodes = bare_has.nodes; least = bare_has.least; ids = bare_has.ids; texts = tt; labels = bare_has.labels; results = bare_has.results; none = bare_has.none; exports = bare_has.exports; names = bare_has.names; defs = bare_has.defs }
place_has false (part_at o v) = bare_has
place_has b none = bare_has
place_has b (num n) = bare_has
place_has b (numeral_at n o) = bare_has
place_has b (name_at x n o) = bare_has
place_has b (text x) = bare_has
place_has b (both u v) = bare_has
place_has b (left v) = bare_has
place_has b (right v) = bare_has
place_has b (numbered n v) = bare_has

an_id_has : (x : core.Id) → core.is_of_text x ≡ true → HasParts (record bare { ids = 1 }) (k.an_id_made x)
an_id_has x h = record { rows = refl; leaves = bare_has.leaves; nodes = bare_has.nodes; least = bare_has.least; ids = λ f. omega arith; texts = (h, tt); labels = bare_has.labels; results = bare_has.results; none = bare_has.none; exports = bare_has.exports; names = bare_has.names; defs = bare_has.defs }

a_label_has : (x : core.Text) → HasParts (record bare { labels = 1 }) (k.a_label_made x)
a_label_has x = record { rows = refl; leaves = bare_has.leaves; nodes = bare_has.nodes; least = bare_has.least; ids = bare_has.ids; texts = tt; labels = omega arith; results = bare_has.results; none = bare_has.none; exports = bare_has.exports; names = bare_has.names; defs = bare_has.defs }

an_export_has : (x : core.Text) → is_utf8 x ≡ true → HasParts (record bare { exports = true }) (k.an_export_made x)
an_export_has x h = record { rows = refl; leaves = bare_has.leaves; nodes = bare_has.nodes; least = bare_has.least; ids = bare_has.ids; texts = tt; labels = bare_has.labels; results = bare_has.results; none = bare_has.none; exports = λ e. absurd (cc); names = (h, tt); defs = bare_has.defs }

kept_has : (q : r.Keeps) {s t : Stand} {v : Value} → Spells (g.leaf (r.kept q)) s t v → IsOfText v → HasParts (sort_kept q) (kept_made q v)
kept_has r.a_text {s = s} (sp.kept h) i = lone_has (is.text_leaf (utf8_there s h))
kept_has r.a_string (sp.kept h) i = lone_has is.payload_leaf
kept_has r.a_count (sp.kept h) i = lone_has (is.any_number_leaf i)
kept_has r.an_id (sp.kept h) i = an_id_has _ refl
kept_has r.a_case (sp.kept h) i = lone_has is.case_leaf
kept_has r.a_label (sp.kept h) i = a_label_has _
kept_has r.an_export {s = s} (sp.kept h) i = an_export_has _ (utf8_there s h)

reference_has : (u : Space) (q : core.Reach) {s t : Stand} {v : Value} → Spells reference s t v → IsOfText v → HasParts (lone (a_ref u q)) (reference_made u q v)
unfolding reference
reference_has u q (sp.one (sp.kept h)) i = lone_has (is.name_leaf refl)
reference_has u q (sp.other (sp.kept h)) i = lone_has (is.numeral_leaf i)

told_among : (ws : List (List ℕ × ℕ)) (ns : List ℕ) (c : Class) (n : ℕ) → number_in ws c ≡ Some n → (f : ℕ → Bool) → list_all f (told_numbers ws ns) ≡ true → f (slice_index ns n) ≡ true
told_among [] ns c n e f h = absurd (cc)
told_among (x ∷ ws) ns c n e f h =
    let a = and_true (f (slice_index ns x.1)) _ h in
    elim (chosen (same c (keyword x.0)) _ _ _ e) [
      | inl p ↦ subst (λ j. f (slice_index ns j) ≡ true) (let q = p.1 in cc) a.0
      | inr p ↦ told_among ws ns c n p.1 f a.1
    ]

told_has : (ws : List (List ℕ × ℕ)) (ns : List ℕ) {s t : Stand} {v : Value} → Spells (g.words ws) s t v → HasParts (lone (a_number_of (told_numbers ws ns))) (told_made ns v)
told_has ws ns {s = s} (sp.meant {n = n} h) = lone_has (is.number_leaf (told_among ws ns (class_at s) n h))

added_has : (x : r.Adds) → HasParts (sort_added x) (k.adds x)
added_has (r.a_row t) = record { rows = refl; leaves = bare_has.leaves; nodes = bare_has.nodes; least = bare_has.least; ids = bare_has.ids; texts = tt; labels = bare_has.labels; results = bare_has.results; none = bare_has.none; exports = bare_has.exports; names = bare_has.names; defs = bare_has.defs }
added_has (r.a_number n) = lone_has (is.number_leaf (λ f h. (and_true (f n) _ h).0))
added_has (r.a_core_value v) = lone_has is.word_leaf
added_has (r.a_kind s) = lone_has is.kind_leaf
added_has r.no_part = lone_has is.absent_leaf
added_has r.no_case_id = lone_has is.case_leaf
added_has r.no_id = record { rows = refl; leaves = bare_has.leaves; nodes = bare_has.nodes; least = bare_has.least; ids = λ f. omega arith; texts = tt; labels = bare_has.labels; results = bare_has.results; none = bare_has.none; exports = bare_has.exports; names = bare_has.names; defs = bare_has.defs }
added_has r.no_label = record { rows = refl; leaves = bare_has.leaves; nodes = bare_has.nodes; least = bare_has.least; ids = bare_has.ids; texts = tt; labels = omega arith; results = bare_has.results; none = bare_has.none; exports = bare_has.exports; names = bare_has.names; defs = bare_has.defs }

-- ---- names of imports and exports

good_attribute : (v : Value) → Utf8Value v → GoodLeaf (w.an_option w.a_text) (attribute v)
good_attribute (left (text t)) h = record { shaped = (refl, refl); written = tt; short = tt; named = tt; utf8 = h; of_text = tt }
good_attribute _ h = record { shaped = refl; written = tt; short = tt; named = tt; utf8 = tt; of_text = tt }

name_of : (x : core.Text) (a b c : Value) → is_utf8 x ≡ true → Utf8Value a → Utf8Value b → Utf8Value c → HasLeaf a_name (k.extern_name x a b c)
name_of x (right a) (right b) (right c) h f g i = is.name_text h
name_of x a b c h f g i =
    let l = good_attribute a f in
    let m = good_attribute b g in
    let n = good_attribute c i in
    is.name_node (record {
      shaped = (refl, (l.shaped, (m.shaped, (n.shaped, tt))));
      written = (tt, (l.written, (m.written, (n.written, tt))));
      short = (tt, (l.short, (m.short, (n.short, tt))));
      named = (tt, (l.named, (m.named, (n.named, tt))));
      utf8 = (h, (l.utf8, (m.utf8, (n.utf8, tt))));
      of_text = (tt, (l.of_text, (m.of_text, (n.of_text, tt))));
    })

choice_text : {q : Test} {s t : Stand} {v : Value} → Spells (g.either q (g.leaf g.a_text) (g.group interface_name)) s t v → (x : core.Text) × (g.made_of g.any_choice v ≡ text x) × (is_utf8 x ≡ true)
unfolding interface_name
choice_text (sp.one {s = s} (sp.kept h)) = (_, refl, utf8_there s h)
choice_text (sp.other (sp.token h (sp.behind (sp.token j (sp.kept {s = s} l)) i))) = (_, refl, utf8_there s l)

name_text : {s t : Stand} {v : Value} → Spells plain_name s t v → (x : core.Text) × (v ≡ text x) × (is_utf8 x ≡ true)
unfolding plain_name
name_text (sp.makes d h) = choice_text d

attributes_of : {s t : Stand} {v : Value} → Spells attributes s t v → (a : Value) × (b : Value) × (c : Value) × (v ≡ both a (both b (both c none))) × Utf8Value a × Utf8Value b × Utf8Value c
unfolding attributes
attributes_of (sp.makes {v = v} d h) = let u = spelled_utf8 _ d refl in (_, _, _, refl, chosen_utf8 0 v u, chosen_utf8 1 v u, chosen_utf8 2 v u)

extern_has : {s t : Stand} {v : Value} → Spells extern_name s t v → HasParts (lone a_name) (outside_made r.an_extern_name v)
unfolding extern_name
extern_has (sp.paired {u = u} {v = v} d e) =
    let x = name_text d in
    let a = attributes_of e in
    subst (λ y. HasParts (lone a_name) (outside_made r.an_extern_name (both y v))) (sym x.1)
    (subst (λ y. HasParts (lone a_name) (outside_made r.an_extern_name (both (text x.0) y))) (sym a.3) (lone_has (name_of x.0 a.0 a.1 a.2 x.2 a.4 a.5 a.6)))

outside_has : (o : r.Outside) {s t : Stand} {v : Value} → Spells (r.outside_row o) s t v → IsOfText v → HasParts (sort_outside o) (outside_made o v)
outside_has r.an_extern_name d i = extern_has d
outside_has r.a_plain_name {v = v} d i = let x = name_text d in subst (λ y. HasParts (sort_outside r.a_plain_name) (outside_made r.a_plain_name y)) (sym x.1) (lone_has (is.text_leaf x.2))
outside_has r.core_fields {v = v} d i = lone_has (is.module_leaf (core_module_word v i))
outside_has r.some_core_fields {v = v} d i = lone_has (is.module_leaf (core_module_word v i))

-- ---- parts of a value

pair_has : (a b : Rule) {s t : Stand} {v : Value} → Spells (g.pair (reads a) (reads b)) s t v → Sub v → IsOfText v → (p : Parts → Bool) → all (r.pair a b) p ≡ true → Has p (of_both v (join (first v a) (second v b)))
pair_has a b (sp.paired d e) sub i p h =
    let x = sub.0 a (_, _, d) i.0 (λ x. all b (λ y. p (both_sorts x y))) h in
    let y = sub.1 b (_, _, e) i.1 (λ y. p (both_sorts x.0 y)) x.1 in
    (both_sorts x.0 y.0, y.1, join_has x.2 y.2)

-- a part that may be missing, where its sort is that of nothing too
single_passes : (a : Rule) (p : Parts → Bool) → all a p ≡ true → covers (lone_sorts a) ≡ true → Has p empty
single_passes (r.keeps q) p h c = (sort_kept q, h, below_has bare (sort_kept q) empty c bare_has)
single_passes (r.before c a) p h d = single_passes a p h d
single_passes (r.after a c) p h d = single_passes a p h d
single_passes _ p h c = absurd (cc)

is_empty : (b : Rule) {s t : Stand} {v : Value} → Spells (reads b) s t v → is_nothing b ≡ true → makes v b ≡ empty
unfolding makes
is_empty r.nothing sp.blank e = refl
is_empty _ d e = absurd (cc)

second_of : (b : Rule) {s t : Stand} {v : Value} → Spells (reads b) s t v → (a : Rule) (c : Bool) → (is_nothing b && covers (lone_sorts a)) ≡ c → (p : Parts → Bool) → all a p ≡ true → unless c (all b) p ≡ true
    → (all b p ≡ true → Has p (makes v b)) → Has p (makes v b)
second_of b d a false e p h u f = f u
second_of b d a true e p h u f = let c = and_true (is_nothing b) _ e in subst (λ y. Has p y) (sym (is_empty b d c.0)) (single_passes a p h c.1)

either_has : (q : Test) (a b : Rule) {s t : Stand} {v : Value} → Spells (g.either q (reads a) (reads b)) s t v → Sub v → IsOfText v → (p : Parts → Bool) → all (r.either q a b) p ≡ true → Has p (of_side v (first v a) (first v b))
either_has q a b (sp.one d) sub i p h = sub a (_, _, d) i p (and_true (all a p) _ h).0
either_has q a b (sp.other d) sub i p h =
    let c = and_true (all a p) _ h in
    second_of b d a (is_nothing b && covers (lone_sorts a)) refl p c.0 c.1 (λ e. sub b (_, _, d) i p e)

by_test_has : (q : Test) (a b : Rule) {s t : Stand} {v : Value} → Spells (g.by_test q (reads a) (reads b)) s t v → Sub v → IsOfText v → (p : Parts → Bool) → all (r.by_test q a b) p ≡ true → Has p (of_side v (first v a) (first v b))
by_test_has q a b (sp.one_by j d) sub i p h = sub a (_, _, d) i p (and_true (all a p) _ h).0
by_test_has q a b (sp.other_by j d) sub i p h = sub b (_, _, d) i p (and_true (all a p) _ h).1

abbrev star : Rule → Parts
star a = repeated (λ k. all a (λ y. y.defs k)) (not (all a (λ y. not y.some))) a

abbrev starred : Rule → Parts → Bool
starred a x = below x (star a)

more_has : (a : Rule) (m n : Made) → Has (starred a) m → Has (starred a) n → (p : Parts → Bool) → p (star a) ≡ true → Has p (join m n)
more_has a m n x y p h = (star a, h, more_repeated (λ k. all a (λ z. z.defs k)) (not (all a (λ z. not z.some))) a m n (below_has x.0 (star a) m x.1 x.2) (below_has y.0 (star a) n y.1 y.2))

star_passes : (a : Rule) → all a (starred a) ≡ true → each_repeats (all a) a (starred a) ≡ true
star_passes a h = rw (h) (repeated-refl (λ k. all a (λ z. z.defs k)) (not (all a (λ z. not z.some))) a)

many_has : (q : Test) (a : Rule) {s t : Stand} {v : Value} → Spells (g.many q (reads a)) s t v → Sub v → IsOfText v → (p : Parts → Bool) → all (r.many q a) p ≡ true → Has p (of_both v (join (first v a) (second v (r.many q a))))
many_has q a sp.no_more sub i p h = (star a, (and_true (all a (starred a)) _ h).1, none_repeated (λ k. all a (λ z. z.defs k)) (not (all a (λ z. not z.some))) a)
many_has q a (sp.one_more {u = u} {v = v} d e) sub i p h =
    let b = and_true (all a (starred a)) _ h in
    more_has a (makes u a) (makes v (r.many q a)) (sub.0 a (_, _, d) i.0 (starred a) b.0) (sub.1 (r.many q a) (_, _, e) i.1 (starred a) (star_passes a b.0)) p b.1

many_by_has : (q : Test) (a : Rule) {s t : Stand} {v : Value} → Spells (g.many_by q (reads a)) s t v → Sub v → IsOfText v → (p : Parts → Bool) → all (r.many_by q a) p ≡ true → Has p (of_both v (join (first v a) (second v (r.many_by q a))))
many_by_has q a (sp.none_by j) sub i p h = (star a, (and_true (all a (starred a)) _ h).1, none_repeated (λ k. all a (λ z. z.defs k)) (not (all a (λ z. not z.some))) a)
many_by_has q a (sp.more_by {u = u} {v = v} j d e) sub i p h =
    let b = and_true (all a (starred a)) _ h in
    more_has a (makes u a) (makes v (r.many_by q a)) (sub.0 a (_, _, d) i.0 (starred a) b.0) (sub.1 (r.many_by q a) (_, _, e) i.1 (starred a) (star_passes a b.0)) p b.1

no_such_case : (n : ℕ) (b : Rule) → others n b ≡ true → {s t : Stand} {v : Value} → Spells (reads b) s t v → (x y : Made) → of_case n v x y ≡ y
no_such_case n (r.case j q a b) h (sp.this_case d) x y = rw (not_true (nat_eq n j) (and_true (not (nat_eq n j)) _ h).0) refl
no_such_case n (r.case j q a b) h (sp.next_case d) x y = no_such_case n b (and_true (not (nat_eq n j)) _ h).1 d x y
no_such_case n r.no_case h d x y = elim d [ ]
no_such_case n _ h d x y = absurd (cc)

case_has : (n : ℕ) (q : Test) (a b : Rule) {s t : Stand} {v : Value} → Spells (g.case n q (reads a) (reads b)) s t v → Sub v → IsOfText v → (p : Parts → Bool) → all (r.case n q a b) p ≡ true
    → (rest : Made) → (Spelled (reads b) v → all b p ≡ true → Has p rest) → Has p (of_case n v (first v a) rest)
case_has n q a b (sp.this_case {u = u} d) sub i p h rest f = rw (eq-eqb n n refl) (sub a (_, _, d) i p (and_true (all a p) _ (and_true (others n b) _ h).1).0)
case_has n q a b {v = v} (sp.next_case d) sub i p h rest f =
    let c = and_true (others n b) _ h in
    subst (λ y. Has p y) (sym (no_such_case n b c.0 d (first v a) rest)) (f (_, _, d) (and_true (all a p) _ c.1).1)

marks_has : (a : Rule) {s t : Stand} {v : Value} → Spells (g.placed (reads a)) s t v → Sub v → IsOfText v → (p : Parts → Bool) → all a p ≡ true → Has p (of_part v (first v a))
marks_has a (sp.located d) sub i p h =
    let x = sub a (_, _, d) i p h in
    let q = x.2 in
    (x.0, x.1, record { rows = q.rows; leaves = q.leaves; nodes = q.nodes; least = q.least; ids = q.ids; texts = q.texts; labels = q.labels; results = q.results; none = q.none; exports = q.exports; names = q.names; defs = q.defs })

nothing_spells : {A : Type 0} {s t : Stand} {v : Value} → Spells g.no_case s t v → A
nothing_spells d = elim d [ ]

-- ---- a rule

abbrev Rowed : (Row → Made) → Value → Type 0
Rowed f v = (n : Row) → Spelled (g.row n) v → (p : Parts → Bool) → all (r.row n) p ≡ true → Has p (f n)

module _ (f : Row → Made) (flag : Bool) (v : Value) (sub : Sub v) (by_row : flag ≡ true → Rowed f v) (i : IsOfText v) where
  headed : (b : Bool) → (b || false) ≡ true → b ≡ true
  headed true h = refl
  headed false h = h

  step : (q : Rule) → Spelled (reads q) v → (flag || unheaded q) ≡ true → (p : Parts → Bool) → all q p ≡ true → Has p (made_by f (first v) (second v) v q)
  step r.nothing d u p h = (bare, h, bare_has)
  step (r.before c a) d u p h = step a (of_before d.2) u p h
  step (r.after a c) d u p h = step a (of_after d.2) u p h
  step (r.placed b c) d u p h = (bare, h, place_has b v)
  step (r.keeps x) d u p h = (sort_kept x, h, kept_has x d.2 i)
  step (r.reference x y) d u p h = (lone (a_ref x y), h, reference_has x y d.2 i)
  step (r.told ws ns) d u p h = (lone (a_number_of (told_numbers ws ns)), h, told_has ws ns d.2)
  step (r.pair a b) d u p h = pair_has a b d.2 sub i p h
  step (r.either t a b) d u p h = either_has t a b d.2 sub i p h
  step (r.by_test t a b) d u p h = by_test_has t a b d.2 sub i p h
  step (r.many t a) d u p h = many_has t a d.2 sub i p h
  step (r.many_by t a) d u p h = many_by_has t a d.2 sub i p h
  step (r.case n t a b) d u p h = case_has n t a b d.2 sub i p h (made_by f (first v) (second v) v b) (λ e j. step b e u p j)
  step r.no_case d u p h = nothing_spells d.2
  step (r.row n) d u p h = by_row (headed flag u) n d p h
  step (r.checked a) d u p h = step a (of_checked d.2) u p h
  step (r.also a x) d u p h =
      let y = step a d u (λ y. p (both_sorts y (sort_added x))) h in
      (both_sorts y.0 (sort_added x), y.1, join_has y.2 (added_has x))
  step (r.wraps w a) d u p h =
      let y = step a d u (λ x. keeps_count w x && by_wraps w (unless_marked w x) p) h in
      passes_wraps w y.0 (made_by f (first v) (second v) v a) y.2 p y.1
  step (r.outside o) d u p h = (sort_outside o, h, outside_has o d.2 i)
  step (r.marks a) d u p h = marks_has a d.2 sub i p h
  step (r.silent x) d u p h = (bare, h, bare_has)
  step (r.skipping a) d u p h = step a (of_skipping d.2) u p h

-- ---- all values

module _ (passes : (n : Row) → in_table n ≡ true → row_passes n (table n) ≡ true) where
  good_at : (v : Value) → Sub v → (q : Rule) → Spelled (reads q) v → IsOfText v → (p : Parts → Bool) → all q p ≡ true → Has p (made_at (first v) (second v) v q)
  good_at v sub q d i p h = step (λ n. made_by (λ c. empty) (first v) (second v) v (table n)) true v sub (λ e n. by_name n) i q d refl p h
    where
      by_name : (n : Row) → Spelled (g.row n) v → (p : Parts → Bool) → all (r.row n) p ≡ true → Has p (made_by (λ c. empty) (first v) (second v) v (table n))
      by_name n d p h =
          let a = and_true (in_table n) _ h in
          let b = and_true (unheaded (table n)) _ (passes n a.0) in
          let e : Spelled (reads (table n)) v = (d.0, d.1, subst (λ x. Spells x d.0 d.1 v) (sym (reads_rows n a.0)) (of_row d.2)) in
          let c = step (λ c. empty) false v sub (λ z. absurd (cc)) i (table n) e b.0 (is_one_of (sorts n)) b.1 in
          one_has (sorts n) c.0 (made_by (λ c. empty) (first v) (second v) v (table n)) c.1 c.2 p a.1

  pub good : (v : Value) → Good v
  unfolding makes
  good none = good_at none tt
  good (num n) = good_at (num n) tt
  good (numeral_at n o) = good_at (numeral_at n o) tt
  good (name_at x n o) = good_at (name_at x n o) tt
  good (text x) = good_at (text x) tt
  good (both u v) = good_at (both u v) (good u, good v)
  good (left u) = good_at (left u) (good u)
  good (right u) = good_at (right u) (good u)
  good (part_at o u) = good_at (part_at o u) (good u)
  good (numbered n u) = good_at (numbered n u) (good u)
