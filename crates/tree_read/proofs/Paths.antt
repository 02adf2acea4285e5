-- Reading a reference, with the names of exports behind it.
use Rattle.std.specs.Prelude.{⊤}
use Rattle.std.proofs.Math.Seq.{take-append_seam, drop-append_seam}
use Rattle.std.specs.declared.alloc.AllocError.{AllocError}
use Rattle.std.proofs.Common.{◌≡◌, ℕ, ◌<◌, arith, List, [], ◌∷◌, ◌++◌, map, length, take, drop, Bool, true, false, cond, refl, ap, sym, subst, ◌∙◌, append_assoc, Bor, Result, Ok, Err}
use Rattle.comp_model.specs.declared.Space.{Space}
use Rattle.comp_model.specs.Core.{Text, outward}
use Rattle.comp_model.specs.Model as m
use Rattle.wast_grammar.specs.Classes.{same, utf8}
use Rattle.wast_grammar.specs.Stand.{Stand, class_at, moved}
use Rattle.wast_grammar.specs.Read.{left_of}
use Rattle.wast_grammar.specs.Grammar as g
use Rattle.wast_grammar.specs.Grammar.{holds, next, legacy, value_at}
use Rattle.wast_grammar.specs.ValueRows.{strings}
use Rattle.wast_parser.specs.declared.index.Index.{Index}
use Rattle.wast_parser.specs.declared.index.Index.TheVariants.{Num, Id}
use Rattle.text_rules.specs.Made as made
use Rattle.text_rules.specs.Made.{Made, empty, join, front, behind, steps}
use Rattle.text_rules.specs.Rule.{Rule, nothing, keeps, pair, reference, wraps, path, a_text}
use Rattle.text_rules.specs.Makes.{a_leaf, kept_made, wrapped}
use Rattle.text_rules.specs.Measure.{Fit}
use Rattle.text_table.specs.declared.rule.Steps.{Steps}
use Rattle.text_table.specs.declared.rule.Steps.TheVariants as telling
use Rattle.text_table.specs.Code.{path_rule}
use Rattle.rule_runs.specs.Run.{Ran, run, done, fault, andthen, referred}
use Rattle.rule_runs.proofs.Runs.{run_keeps, run_pair, run_either, run_by_test, run_many, run_nothing, run_wraps, run_reference}
use Rattle.rule_runs.proofs.Joins.{join_empty, join_join, front_join, behind_join}
use Rattle.rule_runs.proofs.Ranks.{many_falls}
use Rattle.comp_tree.specs.Model.{index_of, root_of, path_of, path_from}
use Rattle.comp_model.specs.CoreModules.{CoreModule, Field}
use Rattle.tree_build.specs.Cores.{Grows}
use Rattle.tree_build.specs.Held.{held}
use Rattle.tree_build.specs.Adds.{Adds}
use Rattle.tree_read.specs.Comes.{Kept, Refuses, TookIndex, Reads, as_fault}
use Rattle.tree_build.specs.declared.scratch.Scratch.{Scratch}
use Rattle.tree_read.specs.Paths.{texts, a_text_if, steps_rule, text_leaf, texts_made, TextsRead, ReadsTexts, TextsSoFar}
use Rattle.tree_read.specs.declared.fault.Fault.{Fault}
use Rattle.tree_read.specs.declared.fault.Fault.TheVariants.{Parse, TooDeep, NoMemory}
use Rattle.tree_build.proofs.Prefixes.{append_nil, map_more}

-- ---- refusals

pub refuses_as : (e : Fault) (t : Stand) (x y : Ran) → x ≡ y → Refuses e t y → Refuses e t x
refuses_as e t x y q h = subst (λ o. Refuses e t o) (sym q) h

-- what follows a refusal
pub refuses_then : (e : Fault) (t : Stand) (x : Ran) (f : Made → Stand → Ran) → Refuses e t x → Refuses e t (andthen x f)
refuses_then Parse t x f h = ap (λ o. andthen o f) h
refuses_then TooDeep t x f h = ap (λ o. andthen o f) h
refuses_then NoMemory t x f h = h

chosen : {A : Type 0} (b : Bool) (x y : A) → b ≡ true → cond b x y ≡ x
chosen true x y h = refl
chosen false x y h = absurd (cc)

other : {A : Type 0} (b : Bool) (x y : A) → b ≡ false → cond b x y ≡ y
other false x y h = refl
other true x y h = absurd (cc)

-- ---- one text

pub text_read : (x : Bor Text) (s t : Stand) → Kept {X = Bor Text} (λ w. g.text w.now) g.a_text (Ok x) s t → (a : Made) → run (keeps a_text) s a ≡ done (join a (texts_made (x ∷ []))) t
text_read x s t h a =
    run_keeps a_text s a
    ∙ (chosen (same (class_at s) utf8) (done (join a (kept_made a_text (value_at g.a_text s))) (moved s 1)) (fault s) h.0
    ∙ (ap (λ v. done (join a (kept_made a_text v)) (moved s 1)) h.2 ∙ ap (λ u. done (join a (texts_made (x ∷ []))) u) (sym h.1)))

pub text_refused : (e : Fault) (s t : Stand) → Kept {X = Bor Text} (λ w. g.text w.now) g.a_text (Err e) s t → (a : Made) → Refuses e t (run (keeps a_text) s a)
text_refused Parse s t h = λ a. run_keeps a_text s a ∙ (other (same (class_at s) utf8) (done (join a (kept_made a_text (value_at g.a_text s))) (moved s 1)) (fault s) h.0 ∙ ap fault (sym h.1))
text_refused TooDeep s t h = absurd h
text_refused NoMemory s t h = absurd h

-- ---- at most one

pub text_if : {X : Type 0} (r : Result X Fault) (s t : Stand) (xs ys : List (Bor Text)) → holds (next strings) s ≡ true → ReadsTexts (keeps a_text) r s t xs ys → ReadsTexts a_text_if r s t xs ys
text_if (Ok x) s t xs ys h p = record { read = p.read; items = p.items; runs = λ a. run_either (next strings) (keeps a_text) nothing s a ∙ (chosen (holds (next strings) s) _ _ h ∙ p.runs a) }
text_if (Err e) s t xs ys h p = λ a. refuses_as e t _ _ (run_either (next strings) (keeps a_text) nothing s a ∙ chosen (holds (next strings) s) _ _ h) (p a)

pub no_texts : (r : Rule) (s : Stand) (xs : List (Bor Text)) → ((a : Made) → run r s a ≡ done a s) → TextsRead r s s xs xs
no_texts r s xs h = record { read = []; items = sym (append_nil xs); runs = λ a. h a ∙ ap (λ b. done b s) (sym (join_empty a)) }

pub no_text_if : (s : Stand) (xs : List (Bor Text)) → holds (next strings) s ≡ false → TextsRead a_text_if s s xs xs
no_text_if s xs h = no_texts a_text_if s xs (λ a. run_either (next strings) (keeps a_text) nothing s a ∙ (other (holds (next strings) s) _ _ h ∙ run_nothing s a))

-- ---- any number

fits : Fit texts
fits = record { sound = refl; small = omega arith }

goes_on : (s : Stand) (a : Made) → holds (next strings) s ≡ true → run texts s a ≡ andthen (run (keeps a_text) s a) (λ b t. run texts t b)
goes_on s a h = run_many (next strings) (keeps a_text) s a refl ∙ chosen (holds (next strings) s) _ _ h

texts_more : (xs ys : List (Bor Text)) → join (texts_made xs) (texts_made ys) ≡ texts_made (xs ++ ys)
texts_more xs ys = ap (λ ls. record empty { leaves = ls }) (sym (map_more text_leaf xs ys))

pub texts_start : (s : Stand) (xs : List (Bor Text)) → TextsSoFar s s xs xs
texts_start s xs = record { read = []; items = sym (append_nil xs); runs = λ a. ap (run texts s) (sym (join_empty a)) }

pub one_more : (s t u : Stand) (xs ys zs : List (Bor Text)) → holds (next strings) t ≡ true → TextsSoFar s t xs ys → TextsRead (keeps a_text) t u ys zs → TextsSoFar s u xs zs
one_more s t u xs ys zs h p q = record {
  read = p.read ++ q.read;
  items = q.items ∙ (ap (λ ws. ws ++ q.read) p.items ∙ append_assoc xs p.read q.read);
  runs = λ a.
      p.runs a
      ∙ (goes_on t (join a (texts_made p.read)) h
      ∙ (ap (λ o. andthen o (λ b w. run texts w b)) (q.runs (join a (texts_made p.read)))
      ∙ ap (run texts u) (join_join a (texts_made p.read) (texts_made q.read) ∙ ap (join a) (texts_more p.read q.read))));
}

pub text_falls : (t u : Stand) (ys zs : List (Bor Text)) → TextsRead (keeps a_text) t u ys zs → left_of u < left_of t
text_falls t u ys zs q = many_falls (next strings) (keeps a_text) t u empty _ fits (q.runs empty)

pub all_texts : (s t : Stand) (xs ys : List (Bor Text)) → holds (next strings) t ≡ false → TextsSoFar s t xs ys → TextsRead texts s t xs ys
all_texts s t xs ys h p = record {
  read = p.read;
  items = p.items;
  runs = λ a. p.runs a ∙ (run_many (next strings) (keeps a_text) t (join a (texts_made p.read)) refl ∙ other (holds (next strings) t) _ _ h);
}

pub texts_refused : (e : Fault) (s t u : Stand) (xs ys : List (Bor Text)) → holds (next strings) t ≡ true → TextsSoFar s t xs ys → ((a : Made) → Refuses e u (run (keeps a_text) t a)) → (a : Made) → Refuses e u (run texts s a)
texts_refused e s t u xs ys h p q a =
    refuses_as e u _ _ (p.runs a ∙ goes_on t (join a (texts_made p.read)) h) (refuses_then e u _ _ (q (join a (texts_made p.read))))

-- ---- the older form

pub legacy_text : {X : Type 0} (r : Result X Fault) (s t : Stand) (xs ys : List (Bor Text)) → holds legacy s ≡ true → ReadsTexts a_text_if r s t xs ys → ReadsTexts (steps_rule telling.Legacy) r s t xs ys
legacy_text (Ok x) s t xs ys h p = record { read = p.read; items = p.items; runs = λ a. run_by_test legacy a_text_if nothing s a ∙ (chosen (holds legacy s) _ _ h ∙ p.runs a) }
legacy_text (Err e) s t xs ys h p = λ a. refuses_as e t _ _ (run_by_test legacy a_text_if nothing s a ∙ chosen (holds legacy s) _ _ h) (p a)

pub no_legacy_text : (s : Stand) (xs : List (Bor Text)) → holds legacy s ≡ false → TextsRead (steps_rule telling.Legacy) s s xs xs
no_legacy_text s xs h = no_texts (steps_rule telling.Legacy) s xs (λ a. run_by_test legacy a_text_if nothing s a ∙ (other (holds legacy s) _ _ h ∙ run_nothing s a))

-- ---- the reference

path_is : (u : Space) (x : Steps) → path_rule u x ≡ wraps path (pair (reference u outward) (steps_rule x))
path_is u telling.Many = refl
path_is u telling.One = refl
path_is u telling.Legacy = refl

root_is : (i : Index) → made.root_of (index_of outward i) ≡ root_of i
root_is (Num n span) = refl
root_is (Id x) = refl

steps_are : (p : m.Path) (ts : List (Bor Text)) → steps p (map text_leaf ts) ≡ path_from p ts
steps_are p [] = refl
steps_are p (t ∷ ts) = steps_are (m.export_of p t.now) ts

-- an index and texts, as one reference
path_made : (u : Space) (i : Index) (ts : List (Bor Text)) → wrapped path (join (a_leaf (m.ref u (index_of outward i))) (texts_made ts)) ≡ a_leaf (m.ref u (path_of i ts))
path_made u i [] = refl
path_made u i (t ∷ ts) = ap (λ p. a_leaf (m.ref u (m.path p))) (ap (λ r. steps r (map text_leaf (t ∷ ts))) (root_is i) ∙ steps_are (root_of i) (t ∷ ts))

run_path : (u : Space) (x : Steps) (s : Stand) (a : Made) → run (path_rule u x) s a ≡ andthen (andthen (referred u outward s a) (λ b t. run (steps_rule x) t b)) (λ b t. done (join (front a b) (wrapped path (behind a b))) t)
run_path u x s a =
    ap (λ r. run r s a) (path_is u x)
    ∙ (run_wraps path (pair (reference u outward) (steps_rule x)) s a
    ∙ ap (λ o. andthen o (λ b t. done (join (front a b) (wrapped path (behind a b))) t)) (run_pair (reference u outward) (steps_rule x) s a ∙ ap (λ o. andthen o (λ b t. run (steps_rule x) t b)) (run_reference u outward s a)))

pub index_refused : (u : Space) (x : Steps) (e : Fault) (s t : Stand) → TookIndex (Err e) s t → (a : Made) → Refuses e t (run (path_rule u x) s a)
index_refused u x e s t h a = refuses_as e t _ _ (run_path u x s a) (refuses_then e t _ _ (refuses_then e t _ _ (h u outward a)))

at_index : (u : Space) (x : Steps) (i : Index) (s t : Stand) → TookIndex (Ok i) s t → (a : Made) → run (path_rule u x) s a ≡ andthen (run (steps_rule x) t (join a (a_leaf (m.ref u (index_of outward i))))) (λ b w. done (join (front a b) (wrapped path (behind a b))) w)
at_index u x i s t h a = run_path u x s a ∙ ap (λ o. andthen (andthen o (λ b w. run (steps_rule x) w b)) (λ b w. done (join (front a b) (wrapped path (behind a b))) w)) (h u outward a)

pub steps_refused : (u : Space) (x : Steps) (i : Index) (e : Fault) (s t w : Stand) (xs ys : List (Bor Text)) → TookIndex (Ok i) s t → ReadsTexts {X = ⊤} (steps_rule x) (Err e) t w xs ys → (a : Made) → Refuses e w (run (path_rule u x) s a)
steps_refused u x i e s t w xs ys h p a = refuses_as e w _ _ (at_index u x i s t h a) (refuses_then e w _ _ (p (join a (a_leaf (m.ref u (index_of outward i))))))

pub path_read : (u : Space) (x : Steps) (i : Index) (s t w : Stand) (xs ys : List (Bor Text)) → TookIndex (Ok i) s t → (p : TextsRead (steps_rule x) t w xs ys) → (a : Made) → run (path_rule u x) s a ≡ done (join a (a_leaf (m.ref u (path_of i p.read)))) w
path_read u x i s t w xs ys h p a =
    let l = a_leaf (m.ref u (index_of outward i)) in
    let f : Made → Stand → Ran = λ b v. done (join (front a b) (wrapped path (behind a b))) v in
    at_index u x i s t h a
    ∙ (ap (λ o. andthen o f) (p.runs (join a l))
    ∙ (ap (λ b. f b w) (join_join a l (texts_made p.read))
    ∙ (ap (λ b. done (join b (wrapped path (behind a (join a (join l (texts_made p.read)))))) w) (front_join a (join l (texts_made p.read)))
    ∙ (ap (λ b. done (join a (wrapped path b)) w) (behind_join a (join l (texts_made p.read)))
    ∙ ap (λ b. done (join a b) w) (path_made u i p.read)))))

-- ---- what is stored

-- what stands behind an end, and what stands in front of it
pub parted : {A : Type 0} (n : ℕ) (xs ys zs : List A) → n ≡ length xs → ys ≡ xs ++ zs → (drop n ys ≡ zs) × (take n ys ≡ xs)
parted n xs ys zs e h =
    (ap (λ k. drop k ys) e ∙ (ap (drop (length xs)) h ∙ drop-append_seam xs zs), ap (λ k. take k ys) e ∙ (ap (take (length xs)) h ∙ take-append_seam xs zs))

-- reading came to what was added
pub reads_added : {X : Type 0} (x : Rule) (r : Result X AllocError) (s t : Stand) (p q : Scratch) (f : List (List Field) → List CoreModule → Made)
    → ((fs : List (List Field)) (cs : List CoreModule) → run x s (held fs cs p) ≡ done (join (held fs cs p) (f fs cs)) t) → Adds r p q f → Reads x (as_fault r) s t p q
reads_added x (Ok y) s t p q f e h = (h.0, λ fs cs z. e fs cs ∙ ap (λ b. done b t) (sym (h.1 fs cs z)))
reads_added x (Err y) s t p q f e h = λ a. tt

-- what is said of parts that are held in one and of those in another that are the same
pub adds_as : {X : Type 0} (r : Result X AllocError) (p p' q : Scratch) (f : List (List Field) → List CoreModule → Made)
    → p'.cores ≡ p.cores → ((fs : List (List Field)) (cs : List CoreModule) → held fs cs p' ≡ held fs cs p) → Adds r p' q f → Adds r p q f
adds_as (Ok x) p p' q f c e h = (subst (λ k. Grows k q.cores) c h.0, λ fs cs z. h.1 fs cs z ∙ ap (λ b. join b (f fs cs)) (e fs cs))
adds_as (Err x) p p' q f c e h = tt
