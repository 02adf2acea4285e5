-- Tokens that were printed are spelled by rules, former by former.
use Rattle.std.proofs.Common.{◌≡◌, ℕ, ◌<◌, Bool, true, false, cond, not, ◌&&◌, List, [], ◌∷◌, ◌++◌, Some, refl, sym, ◌∙◌, ap, subst, append_assoc, slice_get, slice_index}
use Rattle.std.specs.Prelude.{⊤}
use Rattle.comp_model.specs.declared.Space.{Space}
use Rattle.comp_model.specs.Core.{Reach}
use Rattle.comp_model.specs.Model as m
use Rattle.comp_model.specs.Model.{Leaf, Node, row, no_leaf, ◌▸◌}
use Rattle.wast_grammar.specs.Classes as class
use Rattle.wast_grammar.specs.Classes.{Class, class_of, same, among}
use Rattle.wast_grammar.specs.Tokens.{number_of, string_of, opened_by}
use Rattle.wast_grammar.specs.Stand.{Stand, class_at, moved, offset_of, bytes_at}
use Rattle.wast_grammar.specs.Grammar as g
use Rattle.wast_grammar.specs.Grammar.{Grammar, Test, holds, fits, Value, number_in, value_at}
use Rattle.wast_grammar.specs.ValueRows.{reference, is_group}
use Rattle.wast_grammar.specs.NameRows.{extern_name, plain_name, interface_name, attributes}
use Rattle.wast_grammar.specs.Read.{opened, open_at}
use Rattle.wast_grammar.specs.Rows.{text_row}
use Rattle.wast_grammar.specs.Spells as sp
use Rattle.text_rules.specs.Made.{Made, join}
use Rattle.text_rules.specs.Rule as r
use Rattle.text_rules.specs.Rule.{Rule, reads, kept}
use Rattle.text_rules.specs.Makes.{makes, adds, kept_made, a_place_made, place_made, wrapped, reference_made, told_made, outside_made}
use Rattle.text_rules.specs.Table.{table, in_table}
use Rattle.text_rules.proofs.TableReads.{reads_rows}
use Rattle.rule_runs.proofs.Makings.{makes_nothing, makes_before, makes_after, makes_checked, makes_placed, makes_keeps, makes_reference, makes_told, makes_also, makes_wraps, makes_pair, makes_left, makes_right, makes_left_by, makes_right_by, makes_many, makes_none, makes_none_by, makes_marks, makes_case, makes_later, makes_row, makes_outside}
use Rattle.print_table.specs.Tokens as printed
use Rattle.print_table.specs.Tokens.{PrintedToken, spelled}
use Rattle.printed_text.specs.ReadTokens.{kind_of, class_of_printed, IsGood, AreGood}
use Rattle.printed_text.proofs.Digits.{decimal_numeral}
use Rattle.printed_text.proofs.Bytes.{quoted_stands}
use Rattle.printed_text.proofs.Opened.{Walk, still, step, after, after_both, led_by, closed_by, looked_at, open_past, onto, onto_both, Spelled}
use Rattle.printed_text.proofs.Standing.{LeafStands, Bin, nil, bin_join, walked, walked_stands, a_leaf, none, one, MadeStands, empty_stands, join_stands}

-- ---- tokens that stand somewhere

-- the next token is this one
pub record IsNext (s : Stand) (x : PrintedToken) : Type 0 where
  pub class : class_at s ≡ class_of_printed x
  pub bytes : bytes_at s ≡ spelled x
  pub good : IsGood x
  pub older : s.text.legacy ≡ false
  -- the parentheses that are open past it
  pub opens : (n : ℕ) → opened (slice_get s.text.tokens s.at) n ≡ opened_by (kind_of x) n

-- the next tokens are these
abbrev pub Stands : Stand → List PrintedToken → Type 0
Stands s [] = ⊤
Stands s (x ∷ xs) = IsNext s x × Stands (moved s 1) xs

-- behind them
abbrev pub past : Stand → List PrintedToken → Stand
past s [] = s
past s (x ∷ xs) = past (moved s 1) xs

pub past_behind : (s : Stand) (xs ys : List PrintedToken) → past s (xs ++ ys) ≡ past (past s xs) ys
past_behind s [] ys = refl
past_behind s (x ∷ xs) ys = past_behind (moved s 1) xs ys

pub stands_behind : (s : Stand) (xs ys : List PrintedToken) → Stands s (xs ++ ys) → Stands (past s xs) ys
stands_behind s [] ys h = h
stands_behind s (x ∷ xs) ys h = stands_behind (moved s 1) xs ys h.1

open_next : (s : Stand) (x : PrintedToken) → IsNext s x → open_at (moved s 1) ≡ step x (open_at s)
open_next s x h = open_past s x h.opens

-- how many are open behind them
open_behind : (s : Stand) (xs ys : List PrintedToken) → Stands s (xs ++ ys) → open_at (past s xs) ≡ after xs (open_at s)
open_behind s [] ys h = refl
open_behind s (x ∷ xs) ys h = open_behind (moved s 1) xs ys h.1 ∙ ap (after xs) (open_next s x h.0)

-- ---- what is spelled

-- from one place to another the rule spells a value, of which it makes what stands for this
pub record Printed (q : Rule) (s t : Stand) (b : Bin) : Type 0 where
  pub value : Value
  pub spelled : Spelled (reads q) s t value (b.walk.deep (open_at s))
  pub made : MadeStands (makes value q) b

-- wherever the tokens stand, with such tokens behind them
pub record Prints (q : Rule) (xs : List PrintedToken) (b : Bin) (A : List PrintedToken → Type 0) : Type 0 where
  pub at : (s : Stand) (ys : List PrintedToken) → Stands s (xs ++ ys) → A ys → Printed q s (past s xs) b
  pub good : AreGood xs
  pub level : (d : ℕ) → after xs d ≡ b.walk.level d

pub good_behind : (xs ys : List PrintedToken) → AreGood xs → AreGood ys → AreGood (xs ++ ys)
good_behind [] ys h k = k
good_behind (x ∷ xs) ys h k = (h.0, good_behind xs ys h.1 k)

-- with any tokens behind them
abbrev pub Any : List PrintedToken → Type 0
Any ys = ⊤

pub weaker : {q : Rule} {xs : List PrintedToken} {b : Bin} (A B : List PrintedToken → Type 0) → ((ys : List PrintedToken) → B ys → A ys) → Prints q xs b A → Prints q xs b B
weaker A B f p = record { at = λ s ys st h. p.at s ys st (f ys h); good = p.good; level = p.level }

pub as_bin : {q : Rule} {xs : List PrintedToken} {b c : Bin} {A : List PrintedToken → Type 0} → b ≡ c → Prints q xs b A → Prints q xs c A
as_bin {q} {xs} {b} {c} {A} e p = subst (λ d. Prints q xs d A) e p

pub as_tokens : {q : Rule} {xs zs : List PrintedToken} {b : Bin} {A : List PrintedToken → Type 0} → xs ≡ zs → Prints q xs b A → Prints q zs b A
as_tokens {q} {xs} {zs} {b} {A} e p = subst (λ d. Prints q d b A) e p

-- ---- formers

pub p_nothing : {A : List PrintedToken → Type 0} → Prints r.nothing [] nil A
p_nothing = record { at = λ s ys st h. record { value = g.none; spelled = record { spells = sp.blank; depths = λ ks. refl }; made = subst (λ a. MadeStands a nil) (sym (makes_nothing g.none)) empty_stands }; good = tt; level = λ d. refl }

same_class : (s : Stand) (x : PrintedToken) (c : Class) → IsNext s x → same (class_of_printed x) c ≡ true → same (class_at s) c ≡ true
same_class s x c n e = ap (λ k. same k c) n.class ∙ e

pub p_before : {q : Rule} {xs : List PrintedToken} {b : Bin} {A : List PrintedToken → Type 0} (x : PrintedToken) (c : Class) → IsGood x → same (class_of_printed x) c ≡ true → Prints q xs b A → Prints (r.before c q) (x ∷ xs) (walked (led_by x b.walk) b) A
p_before {q} {xs} {b} {A} x c u e p = record {
  at = λ s ys st h.
      let d = p.at (moved s 1) ys st.1 h in
      record {
        value = d.value;
        spelled = record { spells = sp.token (same_class s x c st.0 e) d.spelled.spells; depths = λ ks. d.spelled.depths ks ∙ ap (λ n. b.walk.deep n ks) (open_next s x st.0) };
        made = subst (λ a. MadeStands a (walked (led_by x b.walk) b)) (sym (makes_before c q d.value)) (walked_stands (led_by x b.walk) (makes d.value q) b d.made);
      };
  good = (u, p.good);
  level = λ d. p.level (step x d);
}

pub p_after : {q : Rule} {xs : List PrintedToken} {b : Bin} {A : List PrintedToken → Type 0} (B : List PrintedToken → Type 0) (x : PrintedToken) (c : Class) → IsGood x → same (class_of_printed x) c ≡ true → ((ys : List PrintedToken) → A ys → B (x ∷ ys)) → Prints q xs b B → Prints (r.after q c) (xs ++ x ∷ []) (walked (closed_by x b.walk) b) A
p_after {q} {xs} {b} {A} B x c u e f p = record {
  at = λ s ys st h.
      let st2 : Stands s (xs ++ x ∷ ys) = subst (Stands s) (append_assoc xs (x ∷ []) ys) st in
      let d = p.at s (x ∷ ys) st2 (f ys h) in
      let n = stands_behind s xs (x ∷ ys) st2 in
      record {
        value = d.value;
        spelled = subst (λ t. Spelled (g.after (reads q) c) s t d.value (b.walk.deep (open_at s))) (sym (past_behind s xs (x ∷ []))) (record { spells = sp.behind d.spelled.spells (same_class (past s xs) x c n.0 e); depths = d.spelled.depths });
        made = subst (λ a. MadeStands a (walked (closed_by x b.walk) b)) (sym (makes_after c q d.value)) (walked_stands (closed_by x b.walk) (makes d.value q) b d.made);
      };
  good = good_behind xs (x ∷ []) p.good (u, tt);
  level = λ d. after_both xs (x ∷ []) d ∙ ap (step x) (p.level d);
}

-- the checked items of one run of tokens, and of another after it
both_deep : (v w : Walk) (d n : ℕ) → n ≡ v.level d → (a b : List Stand) (ks : List ℕ) → ((js : List ℕ) → onto a js ≡ v.deep d js) → ((js : List ℕ) → onto b js ≡ w.deep n js) → onto (a ++ b) ks ≡ v.deep d (w.deep (v.level d) ks)
both_deep v w d n e a b ks h k = onto_both a b ks ∙ ap (onto a) (k ks ∙ ap (λ i. w.deep i ks) e) ∙ h (w.deep (v.level d) ks)

pub p_pair : {a c : Rule} {xs zs : List PrintedToken} {f k : Bin} {A B : List PrintedToken → Type 0} → ((ys : List PrintedToken) → B ys → A (zs ++ ys)) → Prints a xs f A → Prints c zs k B → Prints (r.pair a c) (xs ++ zs) (bin_join f k) B
p_pair {a} {c} {xs} {zs} {f} {k} {A} {B} w p q = record {
  at = λ s ys st h.
      let st2 : Stands s (xs ++ (zs ++ ys)) = subst (Stands s) (append_assoc xs zs ys) st in
      let d = p.at s (zs ++ ys) st2 (w ys h) in
      let e = q.at (past s xs) ys (stands_behind s xs (zs ++ ys) st2) h in
      record {
        value = g.both d.value e.value;
        spelled = subst (λ t. Spelled (g.pair (reads a) (reads c)) s t (g.both d.value e.value) ((bin_join f k).walk.deep (open_at s))) (sym (past_behind s xs zs)) (record {
          spells = sp.paired d.spelled.spells e.spelled.spells;
          depths = λ ks. both_deep f.walk k.walk (open_at s) (open_at (past s xs)) (open_behind s xs (zs ++ ys) st2 ∙ p.level (open_at s)) _ _ ks d.spelled.depths e.spelled.depths;
        });
        made = subst (λ x. MadeStands x (bin_join f k)) (sym (makes_pair a c d.value e.value)) (join_stands (makes d.value a) (makes e.value c) f k d.made e.made);
      };
  good = good_behind xs zs p.good q.good;
  level = λ d. after_both xs zs d ∙ ap (after zs) (p.level d) ∙ q.level (f.walk.level d);
}

pub p_first : {a c : Rule} {xs : List PrintedToken} {f : Bin} {A : List PrintedToken → Type 0} (t : Test) → Prints a xs f A → Prints (r.either t a c) xs f A
p_first {a} {c} {xs} {f} {A} t p = record {
  at = λ s ys st h.
      let d = p.at s ys st h in
      record { value = g.left d.value; spelled = record { spells = sp.one d.spelled.spells; depths = d.spelled.depths }; made = subst (λ x. MadeStands x f) (sym (makes_left t a c d.value)) d.made };
  good = p.good;
  level = p.level;
}

pub p_second : {a c : Rule} {xs : List PrintedToken} {f : Bin} {A : List PrintedToken → Type 0} (t : Test) → Prints c xs f A → Prints (r.either t a c) xs f A
p_second {a} {c} {xs} {f} {A} t p = record {
  at = λ s ys st h.
      let d = p.at s ys st h in
      record { value = g.right d.value; spelled = record { spells = sp.other d.spelled.spells; depths = d.spelled.depths }; made = subst (λ x. MadeStands x f) (sym (makes_right t a c d.value)) d.made };
  good = p.good;
  level = p.level;
}

-- the test of what stands next comes out so
abbrev pub Tells : Test → List PrintedToken → Bool → (List PrintedToken → Type 0) → Type 0
Tells t xs o A = (s : Stand) (ys : List PrintedToken) → Stands s (xs ++ ys) → A ys → holds t s ≡ o

pub p_first_by : {a c : Rule} {xs : List PrintedToken} {f : Bin} {A : List PrintedToken → Type 0} (t : Test) → Tells t xs true A → Prints a xs f A → Prints (r.by_test t a c) xs f A
p_first_by {a} {c} {xs} {f} {A} t w p = record {
  at = λ s ys st h.
      let d = p.at s ys st h in
      record { value = g.left d.value; spelled = record { spells = sp.one_by (w s ys st h) d.spelled.spells; depths = d.spelled.depths }; made = subst (λ x. MadeStands x f) (sym (makes_left_by t a c d.value)) d.made };
  good = p.good;
  level = p.level;
}

pub p_second_by : {a c : Rule} {xs : List PrintedToken} {f : Bin} {A : List PrintedToken → Type 0} (t : Test) → Tells t xs false A → Prints c xs f A → Prints (r.by_test t a c) xs f A
p_second_by {a} {c} {xs} {f} {A} t w p = record {
  at = λ s ys st h.
      let d = p.at s ys st h in
      record { value = g.right d.value; spelled = record { spells = sp.other_by (w s ys st h) d.spelled.spells; depths = d.spelled.depths }; made = subst (λ x. MadeStands x f) (sym (makes_right_by t a c d.value)) d.made };
  good = p.good;
  level = p.level;
}

pub p_none : {a : Rule} {A : List PrintedToken → Type 0} (t : Test) → Prints (r.many t a) [] nil A
p_none {a} t = record { at = λ s ys st h. record { value = g.none; spelled = record { spells = sp.no_more; depths = λ ks. refl }; made = subst (λ x. MadeStands x nil) (sym (makes_none t a)) empty_stands }; good = tt; level = λ d. refl }

pub p_more : {a : Rule} {xs zs : List PrintedToken} {f k : Bin} {A B : List PrintedToken → Type 0} (t : Test) → ((ys : List PrintedToken) → B ys → A (zs ++ ys)) → Prints a xs f A → Prints (r.many t a) zs k B → Prints (r.many t a) (xs ++ zs) (bin_join f k) B
p_more {a} {xs} {zs} {f} {k} {A} {B} t w p q = record {
  at = λ s ys st h.
      let st2 : Stands s (xs ++ (zs ++ ys)) = subst (Stands s) (append_assoc xs zs ys) st in
      let d = p.at s (zs ++ ys) st2 (w ys h) in
      let e = q.at (past s xs) ys (stands_behind s xs (zs ++ ys) st2) h in
      record {
        value = g.both d.value e.value;
        spelled = subst (λ u. Spelled (g.many t (reads a)) s u (g.both d.value e.value) ((bin_join f k).walk.deep (open_at s))) (sym (past_behind s xs zs)) (record {
          spells = sp.one_more d.spelled.spells e.spelled.spells;
          depths = λ ks. both_deep f.walk k.walk (open_at s) (open_at (past s xs)) (open_behind s xs (zs ++ ys) st2 ∙ p.level (open_at s)) _ _ ks d.spelled.depths e.spelled.depths;
        });
        made = subst (λ x. MadeStands x (bin_join f k)) (sym (makes_many t a d.value e.value)) (join_stands (makes d.value a) (makes e.value (r.many t a)) f k d.made e.made);
      };
  good = good_behind xs zs p.good q.good;
  level = λ d. after_both xs zs d ∙ ap (after zs) (p.level d) ∙ q.level (f.walk.level d);
}

pub p_none_by : {a : Rule} {A : List PrintedToken → Type 0} (t : Test) → Tells t [] false A → Prints (r.many_by t a) [] nil A
p_none_by {a} t w = record { at = λ s ys st h. record { value = g.none; spelled = record { spells = sp.none_by (w s ys st h); depths = λ ks. refl }; made = subst (λ x. MadeStands x nil) (sym (makes_none_by t a)) empty_stands }; good = tt; level = λ d. refl }

-- a case, whose value has the number
pub record PrintedCase (n : ℕ) (q : Rule) (s t : Stand) (b : Bin) : Type 0 where
  pub value : Value
  pub spelled : Spelled (reads q) s t (g.numbered n value) (b.walk.deep (open_at s))
  pub made : MadeStands (makes (g.numbered n value) q) b

pub record PrintsCase (n : ℕ) (q : Rule) (xs : List PrintedToken) (b : Bin) (A : List PrintedToken → Type 0) : Type 0 where
  pub at : (s : Stand) (ys : List PrintedToken) → Stands s (xs ++ ys) → A ys → PrintedCase n q s (past s xs) b
  pub good : AreGood xs
  pub level : (d : ℕ) → after xs d ≡ b.walk.level d

pub p_here : {a c : Rule} {xs : List PrintedToken} {f : Bin} {A : List PrintedToken → Type 0} (n : ℕ) (t : Test) → Prints a xs f A → PrintsCase n (r.case n t a c) xs f A
p_here {a} {c} {xs} {f} {A} n t p = record {
  at = λ s ys st h.
      let d = p.at s ys st h in
      record { value = d.value; spelled = record { spells = sp.this_case d.spelled.spells; depths = d.spelled.depths }; made = subst (λ x. MadeStands x f) (sym (makes_case n t a c d.value)) d.made };
  good = p.good;
  level = p.level;
}

pub p_later : {a c : Rule} {xs : List PrintedToken} {f : Bin} {A : List PrintedToken → Type 0} (n k : ℕ) (t : Test) → n < k → PrintsCase k c xs f A → PrintsCase k (r.case n t a c) xs f A
p_later {a} {c} {xs} {f} {A} n k t lt p = record {
  at = λ s ys st h.
      let d = p.at s ys st h in
      record { value = d.value; spelled = record { spells = sp.next_case d.spelled.spells; depths = d.spelled.depths }; made = subst (λ x. MadeStands x f) (sym (makes_later n k t a c d.value lt)) d.made };
  good = p.good;
  level = p.level;
}

pub p_case : {q : Rule} {xs : List PrintedToken} {f : Bin} {A : List PrintedToken → Type 0} (n : ℕ) → PrintsCase n q xs f A → Prints q xs f A
p_case n p = record { at = λ s ys st h. let d = p.at s ys st h in record { value = g.numbered n d.value; spelled = d.spelled; made = d.made }; good = p.good; level = p.level }

by_row : {n : g.Row} {s t : Stand} {v : Value} {f : List ℕ → List ℕ} → Spelled (text_row n) s t v f → Spelled (g.row n) s t v f
by_row d = record { spells = sp.by_row d.spells; depths = d.depths }

pub p_row : {xs : List PrintedToken} {f : Bin} {A : List PrintedToken → Type 0} (n : g.Row) → in_table n ≡ true → Prints (table n) xs f A → Prints (r.row n) xs f A
p_row {xs} {f} {A} n e p = record {
  at = λ s ys st h.
      let d = p.at s ys st h in
      record {
        value = d.value;
        spelled = by_row (subst (λ k. Spelled k s (past s xs) d.value (f.walk.deep (open_at s))) (reads_rows n e) d.spelled);
        made = subst (λ x. MadeStands x f) (sym (makes_row n d.value e)) d.made;
      };
  good = p.good;
  level = p.level;
}

pub p_checked : {q : Rule} {xs : List PrintedToken} {f : Bin} {A : List PrintedToken → Type 0} → Prints q xs f A → Prints (r.checked q) xs (walked (looked_at f.walk) f) A
p_checked {q} {xs} {f} p = record {
  at = λ s ys st h.
      let d = p.at s ys st h in
      record {
        value = d.value;
        spelled = record { spells = sp.check d.spelled.spells; depths = λ ks. ap (λ l. open_at s ∷ l) (d.spelled.depths ks) };
        made = subst (λ x. MadeStands x (walked (looked_at f.walk) f)) (sym (makes_checked q d.value)) (walked_stands (looked_at f.walk) (makes d.value q) f d.made);
      };
  good = p.good;
  level = p.level;
}

pub p_also : {q : Rule} {xs : List PrintedToken} {f : Bin} {A : List PrintedToken → Type 0} (x : r.Adds) (k : Bin) → MadeStands (adds x) k → Prints q xs f A → Prints (r.also q x) xs (walked f.walk (bin_join f k)) A
p_also {q} {xs} {f} x k w p = record {
  at = λ s ys st h.
      let d = p.at s ys st h in
      record {
        value = d.value;
        spelled = d.spelled;
        made = subst (λ a. MadeStands a (walked f.walk (bin_join f k))) (sym (makes_also q x d.value)) (walked_stands f.walk (join (makes d.value q) (adds x)) (bin_join f k) (join_stands (makes d.value q) (adds x) f k d.made w));
      };
  good = p.good;
  level = p.level;
}

pub p_wraps : {q : Rule} {xs : List PrintedToken} {f : Bin} {A : List PrintedToken → Type 0} (w : r.Wraps) (k : Bin) → ((a : Made) → MadeStands a f → MadeStands (wrapped w a) k) → Prints q xs f A → Prints (r.wraps w q) xs (walked f.walk k) A
p_wraps {q} {xs} {f} w k h p = record {
  at = λ s ys st u.
      let d = p.at s ys st u in
      record {
        value = d.value;
        spelled = d.spelled;
        made = subst (λ a. MadeStands a (walked f.walk k)) (sym (makes_wraps w q d.value)) (walked_stands f.walk (wrapped w (makes d.value q)) k (h (makes d.value q) d.made));
      };
  good = p.good;
  level = p.level;
}

-- one loose leaf
pub leaf_stands : (x y : Leaf) → LeafStands x y → MadeStands (Rattle.text_rules.specs.Makes.a_leaf x) (a_leaf y)
leaf_stands x y h = record { rows = refl; leaves = one h none; nodes = none; defs = none; ids = tt; count = refl; labels = tt; exports = refl }

place_stands : (b : Bool) (o : ℕ) → MadeStands (a_place_made b o) nil
place_stands true o = record { rows = refl; leaves = none; nodes = none; defs = none; ids = tt; count = refl; labels = tt; exports = refl }
place_stands false o = empty_stands

pub p_placed : {A : List PrintedToken → Type 0} (b : Bool) (x : PrintedToken) (c : Class) → IsGood x → same (class_of_printed x) c ≡ true → Prints (r.placed b c) (x ∷ []) (walked (led_by x still) nil) A
p_placed b x c u e = record {
  at = λ s ys st h.
      record {
        value = g.part_at (offset_of s) g.none;
        spelled = record { spells = sp.located (sp.token (same_class s x c st.0 e) sp.blank); depths = λ ks. refl };
        made = subst (λ a. MadeStands a (walked (led_by x still) nil)) (sym (makes_placed b c (g.part_at (offset_of s) g.none))) (walked_stands (led_by x still) (a_place_made b (offset_of s)) nil (place_stands b (offset_of s)));
      };
  good = (u, tt);
  level = λ d. refl;
}

pub p_marks : {q : Rule} {xs : List PrintedToken} {f : Bin} {A : List PrintedToken → Type 0} → Prints q xs f A → Prints (r.marks q) xs (bin_join nil f) A
p_marks {q} {xs} {f} p = record {
  at = λ s ys st h.
      let d = p.at s ys st h in
      record {
        value = g.part_at (offset_of s) d.value;
        spelled = record { spells = sp.located d.spelled.spells; depths = d.spelled.depths };
        made = subst (λ a. MadeStands a (bin_join nil f)) (sym (makes_marks q (offset_of s) d.value)) (join_stands (a_place_made true (offset_of s)) (makes d.value q) nil f (place_stands true (offset_of s)) d.made);
      };
  good = p.good;
  level = p.level;
}

-- ---- one token that is kept

text_leaf : (x y : List ℕ) → x ≡ y → LeafStands (m.text x) (m.text y)
text_leaf x y e = record { written = tt; numerals = tt; nameless = tt; same = λ d. ap m.text e }

string_is : (bs : List ℕ) → IsGood (printed.string bs) → string_of (Rattle.print_table.specs.Tokens.quoted bs) ≡ bs
string_is bs h = quoted_stands bs h

pub p_text : {A : List PrintedToken → Type 0} (bs : List ℕ) → IsGood (printed.string bs) → same (class_of_printed (printed.string bs)) class.utf8 ≡ true → Prints (r.keeps r.a_text) (printed.string bs ∷ []) (a_leaf (m.text bs)) A
p_text bs u e = record {
  at = λ s ys st h.
      let v : string_of (bytes_at s) ≡ bs = ap string_of (st.0).bytes ∙ string_is bs (st.0).good in
      record {
        value = g.text (string_of (bytes_at s));
        spelled = record { spells = sp.kept (same_class s (printed.string bs) class.utf8 st.0 e); depths = λ ks. refl };
        made = subst (λ a. MadeStands a (a_leaf (m.text bs))) (sym (makes_keeps r.a_text (g.text (string_of (bytes_at s))))) (leaf_stands (m.text (string_of (bytes_at s))) (m.text bs) (text_leaf _ _ v));
      };
  good = (u, tt);
  level = λ d. refl;
}

pub p_bytes : {A : List PrintedToken → Type 0} (bs : List ℕ) → IsGood (printed.string bs) → same (class_of_printed (printed.string bs)) class.binary ≡ true → Prints (r.keeps r.a_string) (printed.string bs ∷ []) (a_leaf (m.text bs)) A
p_bytes bs u e = record {
  at = λ s ys st h.
      let v : string_of (bytes_at s) ≡ bs = ap string_of (st.0).bytes ∙ string_is bs (st.0).good in
      record {
        value = g.text (string_of (bytes_at s));
        spelled = record { spells = sp.kept (same_class s (printed.string bs) class.binary st.0 e); depths = λ ks. refl };
        made = subst (λ a. MadeStands a (a_leaf (m.text bs))) (sym (makes_keeps r.a_string (g.text (string_of (bytes_at s))))) (leaf_stands (m.text (string_of (bytes_at s))) (m.text bs) (text_leaf _ _ v));
      };
  good = (u, tt);
  level = λ d. refl;
}

number_is : (s : Stand) (n : ℕ) → IsNext s (printed.numeral n) → number_of (bytes_at s) ≡ n
number_is s n h = ap number_of h.bytes ∙ (decimal_numeral n h.good).number

number_leaf : (x y : ℕ) → x ≡ y → LeafStands (m.number x) (m.number y)
number_leaf x y e = record { written = tt; numerals = tt; nameless = tt; same = λ d. ap m.number e }

pub p_count : {A : List PrintedToken → Type 0} (n : ℕ) → IsGood (printed.numeral n) → Prints (r.keeps r.a_count) (printed.numeral n ∷ []) (a_leaf (m.number n)) A
p_count n u = record {
  at = λ s ys st h.
      record {
        value = g.num (number_of (bytes_at s));
        spelled = record { spells = sp.kept (same_class s (printed.numeral n) class.numeral st.0 refl); depths = λ ks. refl };
        made = subst (λ a. MadeStands a (a_leaf (m.number n))) (sym (makes_keeps r.a_count (g.num (number_of (bytes_at s))))) (leaf_stands (m.number (number_of (bytes_at s))) (m.number n) (number_leaf _ _ (number_is s n st.0)));
      };
  good = (u, tt);
  level = λ d. refl;
}

ref_leaf : (u : Space) (o x y : ℕ) → x ≡ y → LeafStands (m.ref u (m.numeral o x)) (m.ref u (m.index y))
ref_leaf u o x y e = record { written = tt; numerals = tt; nameless = tt; same = λ d. ap (λ i. m.ref u (m.index i)) e }

pub p_reference : {A : List PrintedToken → Type 0} (u : Space) (c : Reach) (n : ℕ) → IsGood (printed.numeral n) → Prints (r.reference u c) (printed.numeral n ∷ []) (a_leaf (m.ref u (m.index n))) A
unfolding reference
p_reference w c n u = record {
  at = λ s ys st h.
      let v : Value = g.right (g.numeral_at (number_of (bytes_at s)) (offset_of s)) in
      record {
        value = v;
        spelled = record { spells = sp.other (sp.kept (same_class s (printed.numeral n) class.numeral st.0 refl)); depths = λ ks. refl };
        made = subst (λ a. MadeStands a (a_leaf (m.ref w (m.index n)))) (sym (makes_reference w c v)) (leaf_stands (m.ref w (m.numeral (offset_of s) (number_of (bytes_at s)))) (m.ref w (m.index n)) (ref_leaf w (offset_of s) _ _ (number_is s n st.0)));
      };
  good = (u, tt);
  level = λ d. refl;
}

-- ---- the name of an import or export

closed_three : (x y z : Bool) → x ≡ false → y ≡ false → z ≡ false → (((true && cond true (not z) true) && cond true (not y) true) && cond true (not x) true) ≡ true
closed_three false false false e f h = refl
closed_three true y z e f h = absurd (cc)
closed_three false true z e f h = absurd (cc)
closed_three false false true e f h = absurd (cc)

-- a text, behind which no attribute follows
pub p_name : {A : List PrintedToken → Type 0} (bs : List ℕ) → IsGood (printed.string bs) → same (class_of_printed (printed.string bs)) class.utf8 ≡ true → Tells (is_group "implements") [] false A → Tells (is_group "version-suffix") [] false A → Tells (is_group "external-id") [] false A
    → Prints (r.outside r.an_extern_name) (printed.string bs ∷ []) (a_leaf (m.text bs)) A
unfolding extern_name plain_name interface_name attributes
p_name bs u e f1 f2 f3 = record {
  at = λ s ys st h.
      let v : string_of (bytes_at s) ≡ bs = ap string_of (st.0).bytes ∙ string_is bs (st.0).good in
      let t : Stand = moved s 1 in
      let x : Value = g.both (g.text (string_of (bytes_at s))) (g.both (g.right g.none) (g.both (g.right g.none) (g.both (g.right g.none) g.none))) in
      record {
        value = x;
        spelled = record { spells = sp.paired (sp.makes (sp.one (sp.kept (same_class s (printed.string bs) class.utf8 st.0 e))) refl) (sp.makes (sp.other (sp.other (sp.other sp.blank))) (closed_three _ _ _ (f1 t ys st.1 h) (f2 t ys st.1 h) (f3 t ys st.1 h))); depths = λ ks. refl };
        made = subst (λ a. MadeStands a (a_leaf (m.text bs))) (sym (makes_outside r.an_extern_name x)) (leaf_stands (m.text (string_of (bytes_at s))) (m.text bs) (text_leaf _ _ v));
      };
  good = (u, tt);
  level = λ d. refl;
}

-- ---- a word of a table

pub p_told : {A : List PrintedToken → Type 0} (ws : List (List ℕ × ℕ)) (ns : List ℕ) (x : PrintedToken) (k : ℕ) → IsGood x → number_in ws (class_of_printed x) ≡ Some k → Prints (r.told ws ns) (x ∷ []) (walked (led_by x still) (a_leaf (m.number (slice_index ns k)))) A
p_told ws ns x k u e = record {
  at = λ s ys st h.
      record {
        value = g.num k;
        spelled = record { spells = sp.meant (ap (number_in ws) (st.0).class ∙ e); depths = λ ks. refl };
        made = subst (λ a. MadeStands a (walked (led_by x still) (a_leaf (m.number (slice_index ns k))))) (sym (makes_told ws ns (g.num k))) (walked_stands (led_by x still) _ (a_leaf (m.number (slice_index ns k))) (leaf_stands (m.number (slice_index ns k)) (m.number (slice_index ns k)) (record { written = tt; numerals = tt; nameless = tt; same = λ d. refl })));
      };
  good = (u, tt);
  level = λ d. refl;
}
