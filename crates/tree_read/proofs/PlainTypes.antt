-- What reading the definition of a type of one word without names comes to.
use Rattle.std.proofs.Common.{◌≡◌, ℕ, zero, suc, ◌-◌, ◌<◌, ◌+◌, List, [], ◌∷◌, Bool, true, false, cond, ◌&&◌, ◌||◌, Some, refl, ap, sym, ◌∙◌, take, drop, slice_index, codes, arith, lit≤, Result, Ok, Err}
use Rattle.std.specs.declared.alloc.AllocError.{AllocError}
use Rattle.comp_model.specs.Model as m
use Rattle.comp_model.specs.declared.row.Row.TheVariants as rows
use Rattle.wast_grammar.specs.Classes.{Class, finish, opening, closing, string, utf8, id, integer, keyword, annotation, reserved, same, among}
use Rattle.wast_grammar.specs.Stand.{Stand, class_at, class_after, moved, offset_of}
use Rattle.wast_grammar.specs.Grammar as g
use Rattle.wast_grammar.specs.Grammar.{Test, holds, number_in, next, or_else, form, fits, one_of, num}
use Rattle.wast_grammar.specs.ValueRows.{prim_words}
use Rattle.wast_grammar.specs.TypeRows.{is_inline_export}
use Rattle.wast_grammar.specs.FieldRows.{is_custom, is_producers}
use Rattle.wast_grammar.specs.Shape.{sound}
use Rattle.token_codes.specs.Numbers.{number}
use Rattle.wast_parser.specs.View.{stand_of}
use Rattle.text_rules.specs.Made.{Made, join, front, behind}
use Rattle.text_rules.specs.Makes.{adds, a_leaf, a_place_made, wrapped}
use Rattle.text_rules.specs.Rule.{Rule, nothing, before, after, placed, keeps, pair, either, many_by, row, wraps, a_def, a_row, an_id, reads}
use Rattle.text_rules.specs.Forms.{first_word, named, optional_id, optional_name, label}
use Rattle.text_rules.specs.ValueRules.{prim}
use Rattle.text_rules.specs.TypeRules.{inline_exports}
use Rattle.text_rules.specs.FieldRules.{field_in_group, custom, producers, type_item}
use Rattle.rule_runs.specs.Run.{run, done, andthen, taken, told_by}
use Rattle.rule_runs.proofs.Runs.{run_row, run_either, run_before, run_after, run_pair, run_placed, run_nothing, run_many_by, run_also, run_told, run_wraps}
use Rattle.rule_runs.proofs.Joins.{join_join, wrapped_behind}
use Rattle.text_table.specs.Code.{numbers_told}
use Rattle.text_table.specs.Choice.{Takes, rules_in, told_in}
use Rattle.text_table.specs.declared.rule.Told.TheVariants as tables
use Rattle.text_table.proofs.Places.{core_chosen}
use Rattle.text_table.proofs.Fits.{field_fits}
use Rattle.tree_build.specs.Adds.{Adds}
use Rattle.tree_read.specs.Comes.{Reads, as_fault}
use Rattle.tree_build.specs.Held.{held}
use Rattle.tree_read.specs.Plain.{numbers_down, plain_made, IsPlain}
use Rattle.tree_read.specs.declared.plain.Plain.{Plain}
use Rattle.tree_build.specs.declared.scratch.Scratch.{Scratch}
use Rattle.tree_read.proofs.ToldTokens.{place_of}
use Rattle.tree_read.proofs.Values.{run_primitive}
use Rattle.tree_build.proofs.Wrapping.{chosen, other}

-- ---- numbers that are shared

pub number_down : (k n i : ℕ) → i < k → take 1 (drop i (numbers_down k n)) ≡ m.number (n - i) ∷ []
number_down zero n i h = absurd (omega (arith, h))
number_down (suc k) n zero h = ap (λ j. m.number j ∷ []) (let e : n ≡ n - 0 = omega arith in e)
number_down (suc k) n (suc i) h = number_down k (n - 1) i (omega (arith, h)) ∙ ap (λ j. m.number j ∷ []) (let e : n - 1 - i ≡ n - suc i = omega arith in e)

-- ---- the word of a primitive type

-- what a table has a number for is one of its keywords
module _ (c : Class) (n : ℕ) where
  word_so : (w : List ℕ × ℕ) (ws : List (List ℕ × ℕ)) (b : Bool) → (number_in ws c ≡ Some n → among (one_of ws) c ≡ true) → cond b (Some w.1) (number_in ws c) ≡ Some n → cond b true (among (one_of ws) c) ≡ true
  word_so w ws true f h = refl
  word_so w ws false f h = f h

  pub word_among : (ws : List (List ℕ × ℕ)) → number_in ws c ≡ Some n → among (one_of ws) c ≡ true
  word_among [] h = absurd (cc)
  word_among (w ∷ ws) h = word_so w ws (same c (keyword w.0)) (word_among ws) h

-- a word of a primitive type is a keyword
is_keyword : (c : Class) (n : ℕ) → number_in prim_words c ≡ Some n → (bytes : List ℕ) × (c ≡ keyword bytes)
is_keyword (keyword bytes) n h = (bytes, refl)
is_keyword finish n h = absurd (cc)
is_keyword opening n h = absurd (cc)
is_keyword closing n h = absurd (cc)
is_keyword (string b) n h = absurd (cc)
is_keyword id n h = absurd (cc)
is_keyword (integer b) n h = absurd (cc)
is_keyword (annotation bytes) n h = absurd (cc)
is_keyword reserved n h = absurd (cc)

pub prim_runs : (t : Stand) (a : Made) (n k : ℕ) → number_in prim_words (class_at t) ≡ Some n → slice_index (numbers_told tables.Primitive) n ≡ k
    → run (row g.TypeDefinition) t a ≡ done (join (join a (a_leaf (m.number k))) (adds (a_row rows.Primitive))) (moved t 1)
prim_runs t a n k h e =
    let ns = numbers_told tables.Primitive in
    run_primitive t a (word_among (class_at t) n prim_words h)
    ∙ (run_also prim (a_row rows.Primitive) t a
    ∙ ap (λ o. andthen o (λ b z. done (join b (adds (a_row rows.Primitive))) z)) (run_told prim_words ns t a
    ∙ (ap (λ x. told_by ns x t a) h ∙ ap (λ j. done (join a (a_leaf (m.number j))) (moved t 1)) e)))

-- ---- no names, and no inline exports

no_id : (t : Stand) (a : Made) (bytes : List ℕ) → class_at t ≡ keyword bytes → run optional_id t a ≡ done a t
no_id t a bytes e =
    run_either (next (id ∷ [])) (keeps an_id) nothing t a
    ∙ (other (holds (next (id ∷ [])) t) _ _ (ap (among (id ∷ [])) e) ∙ run_nothing t a)

no_name : (t : Stand) (a : Made) (bytes : List ℕ) → class_at t ≡ keyword bytes → run optional_name t a ≡ done a t
no_name t a bytes e =
    let named_next = next (annotation (codes "(@name") ∷ []) in
    run_either named_next label nothing t a
    ∙ (other (holds named_next t) _ _ (ap (among (annotation (codes "(@name") ∷ [])) e) ∙ run_nothing t a)

none_of_both : (x y z : Bool) → x ≡ false → ((x && y) || (x && z)) ≡ false
none_of_both false y z h = refl
none_of_both true y z h = absurd (cc)

no_group : (ps qs : List (List Class)) (t : Stand) → among (opening ∷ []) (class_at t) ≡ false → holds (or_else (form ((opening ∷ []) ∷ ps)) (form ((opening ∷ []) ∷ qs))) t ≡ false
no_group ps qs t h = none_of_both (among (opening ∷ []) (class_at t)) (fits ps t.text.tokens (t.at + 1)) (fits qs t.text.tokens (t.at + 1)) h

exports_sound : sound (reads inline_exports) ≡ true
exports_sound = refl

no_export : (t : Stand) (a : Made) (bytes : List ℕ) → class_at t ≡ keyword bytes → run inline_exports t a ≡ done a t
no_export t a bytes e =
    run_many_by is_inline_export _ t a exports_sound
    ∙ other (holds is_inline_export t) _ _ (no_group
    ((keyword (codes "export") ∷ []) ∷ (utf8 ∷ []) ∷ (closing ∷ []) ∷ [])
    ((keyword (codes "export") ∷ []) ∷ (opening ∷ []) ∷ (keyword (codes "interface") ∷ []) ∷ (utf8 ∷ []) ∷ (closing ∷ []) ∷ (closing ∷ []) ∷ [])
    t (ap (among (opening ∷ [])) e))

-- what stands behind a part that is missing
behind_none : (x y : Rule) (t : Stand) (a : Made) → run x t a ≡ done a t → run (pair x y) t a ≡ run y t a
behind_none x y t a e = run_pair x y t a ∙ ap (λ o. andthen o (λ b z. run y z b)) e

nameless_runs : (r : Rule) (t : Stand) (a : Made) (bytes : List ℕ) → class_at t ≡ keyword bytes → run (named (pair inline_exports r)) t a ≡ run r t a
nameless_runs r t a bytes e =
    behind_none optional_id (pair optional_name (pair inline_exports r)) t a (no_id t a bytes e)
    ∙ (behind_none optional_name (pair inline_exports r) t a (no_name t a bytes e)
    ∙ behind_none inline_exports r t a (no_export t a bytes e))

-- ---- the definition

word_taken : (t : Stand) (a : Made) (c : Class) → class_at t ≡ c → same c c ≡ true → taken c a t ≡ done a (moved t 1)
word_taken t a c e h = chosen (same (class_at t) c) _ _ (ap (λ d. same d c) e ∙ h)

parts_made : (a p l r : Made) → join (join (join a p) l) r ≡ join a (join p (join l r))
parts_made a p l r = join_join (join a p) l r ∙ join_join a p (join l r)

-- what is left by its parts is the definition of these
def_of_parts : (a : Made) (o k : ℕ) → let b = join (join (join a (a_place_made true o)) (a_leaf (m.number k))) (adds (a_row rows.Primitive)) in join (front a b) (wrapped a_def (behind a b)) ≡ join a (plain_made o k)
def_of_parts a o k =
    let x = join (a_place_made true o) (join (a_leaf (m.number k)) (adds (a_row rows.Primitive))) in
    ap (λ b. join (front a b) (wrapped a_def (behind a b))) (parts_made a (a_place_made true o) (a_leaf (m.number k)) (adds (a_row rows.Primitive)))
    ∙ sym (wrapped_behind a_def a x)

type_runs : (s : Stand) (a : Made) (n k : ℕ) → class_at s ≡ keyword (codes "type") → number_in prim_words (class_after s) ≡ Some n → slice_index (numbers_told tables.Primitive) n ≡ k
    → run type_item s a ≡ done (join a (plain_made (offset_of s) k)) (moved (moved s 1) 1)
type_runs s a n k e h i =
    let r = named (pair inline_exports (row g.TypeDefinition)) in
    let x = pair (first_word "type") r in
    let b = join a (a_place_made true (offset_of s)) in
    let w = is_keyword (class_after s) n h in
    run_wraps a_def x s a
    ∙ (ap (λ o. andthen o (λ d z. done (join (front a d) (wrapped a_def (behind a d))) z))
    (run_pair (first_word "type") r s a
    ∙ (ap (λ o. andthen o (λ d z. run r z d)) (run_placed true (keyword (codes "type")) s a ∙ word_taken s b (keyword (codes "type")) e refl)
    ∙ (nameless_runs (row g.TypeDefinition) (moved s 1) b w.0 w.1
    ∙ prim_runs (moved s 1) b n k h i)))
    ∙ ap (λ d. done d (moved (moved s 1) 1)) (def_of_parts a (offset_of s) k))

type_number : 145 ≡ number (keyword (codes "type"))
unfolding number
type_number = refl

-- behind a parenthesis the word leads to the definition of a type
type_chosen : (ahead : ℕ) → Takes field_in_group 145 ahead type_item
type_chosen ahead =
    let choices = rules_in field_in_group in
    core_chosen (Some type_item) (130 ∷ 126 ∷ 145 ∷ 135 ∷ 122 ∷ []) (112 ∷ 126 ∷ 107 ∷ 145 ∷ 122 ∷ 125 ∷ 118 ∷ 140 ∷ 110 ∷ []) (take 5 choices) (drop 5 choices) 5 145 ahead refl (lit≤ tt) (lit≤ tt) refl field_fits

item_runs : (s : Stand) (a : Made) → class_at s ≡ opening → run (row g.ComponentItem) s a ≡ andthen (run field_in_group (moved s 1) a) (λ b t. taken closing b t)
item_runs s a e =
    let x = after field_in_group closing in
    run_row g.ComponentItem s a refl
    ∙ (run_either is_custom custom _ s a
    ∙ (other (holds is_custom s) _ _ (ap (among (annotation (codes "(@custom") ∷ [])) e)
    ∙ (run_either is_producers producers _ s a
    ∙ (other (holds is_producers s) _ _ (ap (among (annotation (codes "(@producers") ∷ [])) e)
    ∙ (run_before opening x s a
    ∙ (chosen (same (class_at s) opening) _ _ (ap (λ c. same c opening) e)
    ∙ run_after field_in_group closing (moved s 1) a))))))

pub plain_runs : (s : Stand) (a : Made) (k : ℕ) → class_at s ≡ opening → class_after s ≡ keyword (codes "type") → Some k ≡ told_in tables.Primitive (class_at (moved (moved s 1) 1)) → class_after (moved (moved s 1) 1) ≡ closing
    → run (row g.ComponentItem) s a ≡ done (join a (plain_made (offset_of (moved s 1)) k)) (moved (moved (moved (moved s 1) 1) 1) 1)
plain_runs s a k o w h c =
    let p = place_of (numbers_told tables.Primitive) (number_in prim_words (class_at (moved (moved s 1) 1))) k h in
    item_runs s a o
    ∙ (ap (λ r. andthen r (λ b t. taken closing b t))
    ((type_chosen (number (class_after (moved s 1)))).runs (moved s 1) a (type_number ∙ ap number (sym w)) refl
    ∙ type_runs (moved s 1) a p.0 k w p.1 p.2)
    ∙ word_taken (moved (moved (moved s 1) 1) 1) (join a (plain_made (offset_of (moved s 1)) k)) closing c refl)

-- what a reader that went there and made the definition has read
pub plain_reads : {X : Type 0} (p : Plain) (s t : Stand) (o : ℕ) (q w : Scratch) (x : Result X AllocError) → IsPlain p s → o ≡ offset_of (moved s 1) → t ≡ stand_of p.behind → Adds x q w (λ fs cs. plain_made o p.number)
    → Reads (row g.ComponentItem) (as_fault x) s t q w
plain_reads p s t o q w (Ok x) h e f a = (
  a.0,
  λ fs cs z.
      plain_runs s (held fs cs q) p.number h.opens h.word h.rest.told h.rest.closes
      ∙ (ap (λ n. done (join (held fs cs q) (plain_made n p.number)) (moved (moved (moved (moved s 1) 1) 1) 1)) (sym e)
      ∙ (ap (λ m. done m (moved (moved (moved (moved s 1) 1) 1) 1)) (sym (a.1 fs cs z))
      ∙ ap (done (held fs cs w)) (sym h.rest.behind ∙ sym f))),
)
plain_reads p s t o q w (Err x) h e f a = λ m. tt
