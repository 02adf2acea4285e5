-- What a reader answers, former by former.
use Rattle.std.proofs.Common.{◌≡◌, ℕ, Bool, true, false, cond, refl, ap, sym, subst, ◌∙◌, List, [], ◌∷◌, take, drop, arith, ◌+◌, ◌-◌, Result, Ok, Err, nat_lt}
use Rattle.std.specs.Prelude.{⊤}
use Rattle.std.specs.declared.alloc.AllocError.{AllocError}
use Rattle.comp_model.specs.CoreModules.{CoreModule, Field}
use Rattle.wast_grammar.specs.Classes.{Class, same, among, opening, closing}
use Rattle.wast_grammar.specs.Stand.{Stand, class_at, moved, offset_of}
use Rattle.wast_grammar.specs.Grammar as g
use Rattle.wast_grammar.specs.Grammar.{Test, holds, Value, class_of_leaf, value_at}
use Rattle.comp_model.specs.declared.Space.{Space}
use Rattle.comp_model.specs.Core as core
use Rattle.comp_model.specs.Model as m
use Rattle.wast_parser.specs.declared.index.Index.{Index}
use Rattle.comp_tree.specs.Model.{index_of}
use Rattle.wast_grammar.specs.Read as o
use Rattle.wast_grammar.specs.Read.{Outcome, read, open_at, skip_rest}
use Rattle.text_rules.specs.Made.{Made, join, front, behind}
use Rattle.text_rules.specs.Rule.{Rule, Wraps, Adds as Added, Keeps, kept, keeps, reference, reads, nothing, before, after, placed, pair, many, many_by, also, wraps, checked, skipping, marks, either, by_test, case}
use Rattle.text_rules.specs.Makes.{wrapped, adds, a_place_made, a_leaf, kept_made}
use Rattle.text_rules.specs.Measure.{Fit}
use Rattle.rule_runs.specs.Run.{Ran, run, ran, done, fault, deep, andthen, taken, gone_over}
use Rattle.rule_runs.proofs.Runs.{run_nothing, run_before, run_after, run_pair, run_many, run_also, run_wraps, run_checked, run_skipping, run_placed, run_marks, run_no_case, run_keeps, run_reference, run_either, run_by_test, run_case, run_many_by}
use Rattle.rule_runs.proofs.Joins.{join_empty}
use Rattle.token_codes.specs.Numbers.{range, classes}
use Rattle.text_table.specs.Code.{one_class, with_class, a_word, a_note, a_placed}
use Rattle.tree_build.specs.Cores.{Final, Grows, fields_read, cores_of, module_of}
use Rattle.tree_build.specs.Held.{held}
use Rattle.tree_build.specs.Adds.{Adds, MakesOf}
use Rattle.tree_read.specs.Comes.{Took, Kept, TookIndex, Refuses, Reads, Gives, Stored, as_fault, as_result, lone_placed}
use Rattle.tree_build.specs.declared.cores.Cores.{Cores}
use Rattle.tree_read.specs.declared.fault.Answer.{Answer}
use Rattle.tree_read.specs.declared.fault.Answer.TheVariants as answers
use Rattle.tree_read.specs.declared.fault.Fault.{Fault}
use Rattle.tree_read.specs.declared.fault.Fault.TheVariants.{Parse, TooDeep, NoMemory}
use Rattle.tree_build.specs.declared.scratch.Scratch.{Scratch}
use Rattle.tree_build.proofs.Prefixes.{starts_itself, grows_itself, grows_then, final_before}

-- ---- refusals don't hang on what was made

pub refuses_as : (e : Fault) (t : Stand) (x y : Ran) → x ≡ y → Refuses e t y → Refuses e t x
refuses_as e t x y q h = subst (λ o. Refuses e t o) (sym q) h

pub refuses_then : (e : Fault) (t : Stand) (x : Ran) (f : Made → Stand → Ran) → Refuses e t x → Refuses e t (andthen x f)
refuses_then Parse t x f h = ap (λ o. andthen o f) h
refuses_then TooDeep t x f h = ap (λ o. andthen o f) h
refuses_then NoMemory t x f h = h

refused_any : (e : Fault) (t : Stand) (r : Rule) (a b : Made) (p : Outcome) → Refuses e t (ran a r p) → Refuses e t (ran b r p)
refused_any Parse t r a b (o.reads v u) h = absurd (cc)
refused_any Parse t r a b (o.fault u) h = h
refused_any Parse t r a b (o.deep u) h = absurd (cc)
refused_any TooDeep t r a b (o.reads v u) h = absurd (cc)
refused_any TooDeep t r a b (o.fault u) h = absurd (cc)
refused_any TooDeep t r a b (o.deep u) h = h
refused_any NoMemory t r a b p h = tt

pub refused_so : (e : Fault) (t : Stand) (r : Rule) (s : Stand) (a b : Made) → Refuses e t (run r s a) → Refuses e t (run r s b)
unfolding run
refused_so e t r s a b h = refused_any e t r a b (read (reads r) s) h

-- ---- lists of core modules

pub final_itself : (c : Cores) → Final (fields_read c) (cores_of c) c
final_itself c = record { fields = starts_itself (fields_read c); modules = starts_itself (cores_of c) }

-- what is held, with the modules that are there
abbrev pub held_now : Scratch → Cores → Made
held_now p c = held (fields_read c) (cores_of c) p

-- ---- one reading behind another

-- a refusal, whatever was made before
abbrev pub Fails : Rule → Fault → Stand → Stand → Type 0
Fails r e s t = (a : Made) → Refuses e t (run r s a)

-- the same by another rule, from where it leads
pub goes : {Y : Type 0} (r y : Rule) (res : Result Y Fault) (s t u : Stand) (p q : Scratch) → ((a : Made) → run r s a ≡ run y t a) → Reads y res t u p q → Reads r res s u p q
goes r y (Ok x) s t u p q e h = (h.0, λ fs cs f. e (held fs cs p) ∙ h.1 fs cs f)
goes r y (Err k) s t u p q e h = λ a. refuses_as k u _ _ (e a) (h a)

-- a rule, then what follows it
pub follows : {X Y : Type 0} (r x y : Rule) (v : X) (res : Result Y Fault) (s t u : Stand) (p q w : Scratch) → ((a : Made) → run r s a ≡ andthen (run x s a) (λ b z. run y z b)) → Reads x (Ok v) s t p q → Reads y res t u q w → Reads r res s u p w
follows r x y v (Ok z) s t u p q w e h k = (
  grows_then p.cores q.cores w.cores h.0 k.0,
  λ fs cs f.
      e (held fs cs p) ∙ (ap (λ o. andthen o (λ b z. run y z b)) (h.1 fs cs (final_before fs cs q.cores w.cores k.0 f)) ∙ k.1 fs cs f),
)
follows r x y v (Err z) s t u p q w e h k = λ a. refused_so z u r s (held_now p q.cores) a
    (refuses_as z u _ _ (e (held_now p q.cores) ∙ ap (λ o. andthen o (λ b z. run y z b)) (h.1 (fields_read q.cores) (cores_of q.cores) (final_itself q.cores))) (k (held_now q q.cores)))

-- a rule whose first part is refused
pub stops : (r x : Rule) (f : Made → Stand → Ran) (e : Fault) (s t : Stand) → ((a : Made) → run r s a ≡ andthen (run x s a) f) → Fails x e s t → Fails r e s t
stops r x f e s t z h = λ a. refuses_as e t _ _ (z a) (refuses_then e t (run x s a) f (h a))

-- what is in the result of an answer that all was read
abbrev pub all_read : ⊤
all_read = tt

-- an answer of a part that is not its end, passed on
pub halts : (r : Answer) (x y : Rule) (s v t : Stand) (p q a b : Scratch) → (r ≡ answers.Done → ⊥) → ((e : Fault) → Fails x e s t → Fails y e v t) → Reads x (as_result r) s t p q → Reads y (as_result r) v t a b
halts answers.Done x y s v t p q a b n f h = absurd (n refl)
halts answers.Parse x y s v t p q a b n f h = f Parse h
halts answers.TooDeep x y s v t p q a b n f h = f TooDeep h
halts answers.NoMemory x y s v t p q a b n f h = f NoMemory h

-- one rule behind another
pub then_reads : {X Y : Type 0} (x y : Rule) (v : X) (res : Result Y Fault) (s t u : Stand) (p q w : Scratch) → Reads x (Ok v) s t p q → Reads y res t u q w → Reads (pair x y) res s u p w
then_reads x y v res s t u p q w h k = follows (pair x y) x y v res s t u p q w (λ a. run_pair x y s a) h k

pub then_stops : (x y : Rule) (e : Fault) (s t : Stand) → Fails x e s t → Fails (pair x y) e s t
then_stops x y e s t h = stops (pair x y) x (λ b z. run y z b) e s t (λ a. run_pair x y s a) h

-- ---- tokens that aren't kept

chosen : {A : Type 0} (b : Bool) (x y : A) → b ≡ true → cond b x y ≡ x
chosen true x y h = refl
chosen false x y h = absurd (cc)

other : {A : Type 0} (b : Bool) (x y : A) → b ≡ false → cond b x y ≡ y
other false x y h = refl
other true x y h = absurd (cc)

-- a number tells one class or none
one_more : (n : ℕ) → n + 1 - n ≡ 1
one_more n = omega arith

abbrev pub AtMostOne : List Class → Type 0
AtMostOne [] = ⊤
AtMostOne (c ∷ []) = ⊤
AtMostOne (c ∷ d ∷ cs) = ⊥

first_of : (cs : List Class) → AtMostOne (take 1 cs)
first_of [] = tt
first_of (c ∷ cs) = tt

pub at_most_one : (n : ℕ) → AtMostOne (one_class n)
at_most_one n = subst (λ k. AtMostOne (take k (drop n classes))) (sym (one_more n)) (first_of (drop n classes))

pub among_one : (c d : Class) → among (c ∷ []) d ≡ same d c
among_one c d = flip (same d c)
  where
    flip : (b : Bool) → cond b true false ≡ b
    flip true = refl
    flip false = refl

word_by : {X : Type 0} (cs : List Class) (y : Rule) (x : X) (s t : Stand) (a : Made) → AtMostOne cs → Took cs (Ok x) s t → run (with_class (λ c. before c y) cs) s a ≡ run y t a
word_by [] y x s t a one h = absurd (let z = h.0 in cc)
word_by (c ∷ d ∷ cs) y x s t a one h = absurd one
word_by (c ∷ []) y x s t a one h = run_before c y s a ∙ (chosen (same (class_at s) c) _ _ (sym (among_one c (class_at s)) ∙ h.0) ∙ ap (λ u. run y u a) (sym h.1))

no_word_by : (cs : List Class) (y : Rule) (s : Stand) (a : Made) → AtMostOne cs → among cs (class_at s) ≡ false → run (with_class (λ c. before c y) cs) s a ≡ fault s
no_word_by [] y s a one h = run_no_case s a
no_word_by (c ∷ d ∷ cs) y s a one h = absurd one
no_word_by (c ∷ []) y s a one h = run_before c y s a ∙ other (same (class_at s) c) _ _ (sym (among_one c (class_at s)) ∙ h)

took_fault : (X : Type 0) (cs : List Class) (e : Fault) (s t : Stand) (r : Ran) → Took {X = X} cs (Err e) s t → (among cs (class_at s) ≡ false → r ≡ fault s) → Refuses e t r
took_fault X cs Parse s t r h k = k h.0 ∙ ap fault (sym h.1)
took_fault X cs TooDeep s t r h k = absurd h
took_fault X cs NoMemory s t r h k = absurd h

-- a word, or an annotation, and what follows it
pub word_reads : {X Y : Type 0} (n : ℕ) (y : Rule) (x : X) (res : Result Y Fault) (s t u : Stand) (p q : Scratch) → Took (one_class n) (Ok x) s t → Reads y res t u p q → Reads (a_word n y) res s u p q
word_reads n y x res s t u p q h k = goes (a_word n y) y res s t u p q (λ a. word_by (one_class n) y x s t a (at_most_one n) h) k

pub word_stops : (X : Type 0) (n : ℕ) (y : Rule) (e : Fault) (s t : Stand) → Took {X = X} (one_class n) (Err e) s t → Fails (a_word n y) e s t
word_stops X n y e s t h = λ a. took_fault X (one_class n) e s t _ h (λ z. no_word_by (one_class n) y s a (at_most_one n) z)

-- a rule, and a `)` behind it
pub closes_reads : {X Y : Type 0} (x : Rule) (v : X) (res : Result Y Fault) (s t u : Stand) (p q : Scratch) → Reads x (Ok v) s t p q → Took (closing ∷ []) res t u → Reads (after x closing) res s u p q
closes_reads x v (Ok z) s t u p q h k = (
  h.0,
  λ fs cs f.
      run_after x closing s (held fs cs p) ∙ (ap (λ o. andthen o (λ b w. taken closing b w)) (h.1 fs cs f) ∙ (chosen (same (class_at t) closing) _ _ (sym (among_one closing (class_at t)) ∙ k.0) ∙ ap (done (held fs cs q)) (sym k.1))),
)
closes_reads {X} {Y} x v (Err z) s t u p q h k = λ a. refused_so z u (after x closing) s (held_now p q.cores) a
    (took_fault Y (closing ∷ []) z t u _ k (λ w. run_after x closing s (held_now p q.cores) ∙ (ap (λ o. andthen o (λ b w. taken closing b w)) (h.1 (fields_read q.cores) (cores_of q.cores) (final_itself q.cores)) ∙ other (same (class_at t) closing) _ _ (sym (among_one closing (class_at t)) ∙ w))))

pub closes_stops : (x : Rule) (e : Fault) (s t : Stand) → Fails x e s t → Fails (after x closing) e s t
closes_stops x e s t h = stops (after x closing) x (λ b z. taken closing b z) e s t (λ a. run_after x closing s a) h

-- ---- what is added, and what is made of parts

pub adds_reads : {X Y : Type 0} (r x : Rule) (v : X) (made : Result Y AllocError) (m : Made) (s t : Stand) (p q w : Scratch) → ((a : Made) → run r s a ≡ andthen (run x s a) (λ b z. done (join b m) z)) → Reads x (Ok v) s t p q → Adds made q w (λ fs cs. m) → Reads r (as_fault made) s t p w
adds_reads r x v (Ok z) m s t p q w e h k = (
  grows_then p.cores q.cores w.cores h.0 k.0,
  λ fs cs f.
      e (held fs cs p) ∙ (ap (λ o. andthen o (λ b y. done (join b m) y)) (h.1 fs cs (final_before fs cs q.cores w.cores k.0 f)) ∙ ap (λ b. done b t) (sym (k.1 fs cs f))),
)
adds_reads r x v (Err z) m s t p q w e h k = λ a. tt

pub also_reads : {X Y : Type 0} (x : Rule) (y : Added) (v : X) (made : Result Y AllocError) (s t : Stand) (p q w : Scratch) → Reads x (Ok v) s t p q → Adds made q w (λ fs cs. adds y) → Reads (also x y) (as_fault made) s t p w
also_reads x y v made s t p q w h k = adds_reads (also x y) x v made (adds y) s t p q w (λ a. run_also x y s a) h k

pub also_stops : (x : Rule) (y : Added) (e : Fault) (s t : Stand) → Fails x e s t → Fails (also x y) e s t
also_stops x y e s t h = stops (also x y) x (λ b z. done (join b (adds y)) z) e s t (λ a. run_also x y s a) h

pub wraps_reads : {X Y : Type 0} (k : Wraps) (At : Made → Type 0) (x : Rule) (v : X) (made : Result Y AllocError) (s t : Stand) (p q w : Scratch) → Reads x (Ok v) s t p q → MakesOf k At made q w → ((fs : List (List Field)) (cs : List CoreModule) → At (held fs cs p)) → Reads (wraps k x) (as_fault made) s t p w
wraps_reads k At x v (Ok z) s t p q w h m at = (
  grows_then p.cores q.cores w.cores h.0 m.0,
  λ fs cs f.
      run_wraps k x s (held fs cs p) ∙ (ap (λ o. andthen o (λ b y. done (join (front (held fs cs p) b) (wrapped k (behind (held fs cs p) b))) y)) (h.1 fs cs (final_before fs cs q.cores w.cores m.0 f))
      ∙ ap (λ b. done b t) (sym (m.1 fs cs f (held fs cs p) (at fs cs)))),
)
wraps_reads k At x v (Err z) s t p q w h m at = λ a. tt

pub wraps_stops : (k : Wraps) (x : Rule) (e : Fault) (s t : Stand) → Fails x e s t → Fails (wraps k x) e s t
wraps_stops k x e s t h = λ a. refuses_as e t _ _ (run_wraps k x s a) (refuses_then e t (run x s a) _ (h a))

-- ---- lists

pub many_reads : {X Y : Type 0} (q : Test) (x : Rule) (v : X) (res : Result Y Fault) (s t u : Stand) (a b c : Scratch) → Fit (many q x) → holds q s ≡ true → Reads x (Ok v) s t a b → Reads (many q x) res t u b c → Reads (many q x) res s u a c
many_reads q x v res s t u a b c f h k l = follows (many q x) x (many q x) v res s t u a b c (λ m. run_many q x s m f.sound ∙ chosen (holds q s) _ _ h) k l

pub many_stops : (q : Test) (x : Rule) (e : Fault) (s t : Stand) → Fit (many q x) → holds q s ≡ true → Fails x e s t → Fails (many q x) e s t
many_stops q x e s t f h k = stops (many q x) x (λ m r. run (many q x) r m) e s t (λ m. run_many q x s m f.sound ∙ chosen (holds q s) _ _ h) k

pub many_by_reads : {X Y : Type 0} (q : Test) (x : Rule) (v : X) (res : Result Y Fault) (s t u : Stand) (a b c : Scratch) → Fit (many_by q x) → holds q s ≡ true → Reads x (Ok v) s t a b → Reads (many_by q x) res t u b c → Reads (many_by q x) res s u a c
many_by_reads q x v res s t u a b c f h k l = follows (many_by q x) x (many_by q x) v res s t u a b c (λ m. run_many_by q x s m f.sound ∙ chosen (holds q s) _ _ h) k l

pub many_by_stops : (q : Test) (x : Rule) (e : Fault) (s t : Stand) → Fit (many_by q x) → holds q s ≡ true → Fails x e s t → Fails (many_by q x) e s t
many_by_stops q x e s t f h k = stops (many_by q x) x (λ m r. run (many_by q x) r m) e s t (λ m. run_many_by q x s m f.sound ∙ chosen (holds q s) _ _ h) k

pub many_by_ends : {X : Type 0} (q : Test) (x : Rule) (v : X) (s : Stand) (a : Scratch) → Fit (many_by q x) → holds q s ≡ false → Reads (many_by q x) (Ok v) s s a a
many_by_ends q x v s a f h = (grows_itself a.cores, λ fs cs z. run_many_by q x s (held fs cs a) f.sound ∙ other (holds q s) _ _ h)

pub many_ends : {X : Type 0} (q : Test) (x : Rule) (v : X) (s : Stand) (a : Scratch) → Fit (many q x) → holds q s ≡ false → Reads (many q x) (Ok v) s s a a
many_ends q x v s a f h = (grows_itself a.cores, λ fs cs z. run_many q x s (held fs cs a) f.sound ∙ other (holds q s) _ _ h)

-- ---- no token, checked items, offsets

pub nothing_reads : {X : Type 0} (v : X) (s : Stand) (p : Scratch) → Reads nothing (Ok v) s s p p
nothing_reads v s p = (grows_itself p.cores, λ fs cs f. run_nothing s (held fs cs p))

not_deep : (b : Bool) (s : Stand) (v : Value) (t : Stand) → cond b (o.deep s) (o.reads g.none s) ≡ o.reads v t → b ≡ false
not_deep true s v t e = absurd (cc)
not_deep false s v t e = refl

pub checked_reads : {X Y : Type 0} (x : Rule) (v : X) (res : Result Y Fault) (s u : Stand) (p q : Scratch) → Gives {X = X} (λ _. g.none) (Ok v) s (read (g.checked g.nothing) s) → Reads x res s u p q → Reads (checked x) res s u p q
checked_reads x v res s u p q h k = goes (checked x) x res s s u p q (λ a. run_checked x s a ∙ other (nat_lt 100 (open_at s)) _ _ (not_deep (nat_lt 100 (open_at s)) s _ _ h)) k

too_deep : (A : Type 0) (e : Fault) (b : Bool) (s : Stand) (x : Ran) → Gives {X = A} (λ _. g.none) (Err e) s (cond b (o.deep s) (o.reads g.none s)) → Refuses e s (cond b (deep s) x)
too_deep A Parse true s x h = absurd (cc)
too_deep A Parse false s x h = absurd (cc)
too_deep A TooDeep true s x h = refl
too_deep A TooDeep false s x h = absurd (cc)
too_deep A NoMemory b s x h = tt

pub checked_stops : (X : Type 0) (x : Rule) (e : Fault) (s : Stand) → Gives {X = X} (λ _. g.none) (Err e) s (read (g.checked g.nothing) s) → Fails (checked x) e s s
checked_stops X x e s h = λ a. refuses_as e s _ _ (run_checked x s a) (too_deep X e (nat_lt 100 (open_at s)) s (run x s a) h)

-- the offset stands in front of what the rule leaves
pub marks_reads : {X Y : Type 0} (x : Rule) (v : X) (res : Result Y Fault) (s u : Stand) (p q w : Scratch) → Adds {E = AllocError} (Ok v) p q (λ fs cs. a_place_made true (offset_of s)) → Reads x res s u q w → Reads (marks x) res s u p w
marks_reads x v (Ok z) s u p q w h k = (
  grows_then p.cores q.cores w.cores h.0 k.0,
  λ fs cs f.
      run_marks x s (held fs cs p) ∙ (ap (run x s) (sym (h.1 fs cs (final_before fs cs q.cores w.cores k.0 f))) ∙ k.1 fs cs f),
)
marks_reads x v (Err z) s u p q w h k = λ a. refuses_as z u _ _ (run_marks x s a) (k (join a (a_place_made true (offset_of s))))

over_fails : (Y : Type 0) (e : Fault) (t : Stand) (a : Made) (p : Outcome) → Gives {X = Y} (λ _. g.none) (Err e) t p → Refuses e t (gone_over a p)
over_fails Y Parse t a p h = ap (gone_over a) h
over_fails Y TooDeep t a p h = ap (gone_over a) h
over_fails Y NoMemory t a p h = tt

pub skipping_reads : {X Y : Type 0} (x : Rule) (v : X) (res : Result Y Fault) (s t u : Stand) (p q : Scratch) → Reads x (Ok v) s t p q → Gives {X = Y} (λ _. g.none) res u (skip_rest t) → Reads (skipping x) res s u p q
skipping_reads x v (Ok z) s t u p q h k = (
  h.0,
  λ fs cs f.
      run_skipping x s (held fs cs p) ∙ (ap (λ m. andthen m (λ b r. gone_over b (skip_rest r))) (h.1 fs cs f) ∙ ap (gone_over (held fs cs q)) k),
)
skipping_reads {X} {Y} x v (Err z) s t u p q h k = λ a. refused_so z u (skipping x) s (held_now p q.cores) a
    (refuses_as z u _ _ (run_skipping x s (held_now p q.cores) ∙ ap (λ m. andthen m (λ b r. gone_over b (skip_rest r))) (h.1 (fields_read q.cores) (cores_of q.cores) (final_itself q.cores))) (over_fails Y z u (held_now q q.cores) (skip_rest t) k))

pub skipping_stops : (x : Rule) (e : Fault) (s t : Stand) → Fails x e s t → Fails (skipping x) e s t
skipping_stops x e s t h = stops (skipping x) x (λ b r. gone_over b (skip_rest r)) e s t (λ a. run_skipping x s a) h

-- ---- tokens that are kept

pub kept_reads : {X Y : Type 0} (k : Keeps) (view : X → Value) (x : X) (made : Result Y AllocError) (s t : Stand) (p q : Scratch) → Kept view (kept k) (Ok x) s t → Adds made p q (λ fs cs. kept_made k (view x)) → Reads (keeps k) (as_fault made) s t p q
kept_reads k view x (Ok z) s t p q h m = (
  m.0,
  λ fs cs f.
      run_keeps k s (held fs cs p) ∙ (chosen (same (class_at s) (class_of_leaf (kept k))) _ _ h.0
      ∙ (ap (λ v. done (join (held fs cs p) (kept_made k v)) (moved s 1)) h.2 ∙ (ap (λ b. done b (moved s 1)) (sym (m.1 fs cs f)) ∙ ap (done (held fs cs q)) (sym h.1)))),
)
kept_reads k view x (Err z) s t p q h m = λ a. tt

pub kept_stops : (X : Type 0) (k : Keeps) (view : X → Value) (e : Fault) (s t : Stand) → Kept view (kept k) (Err e) s t → Fails (keeps k) e s t
kept_stops X k view Parse s t h = λ a. run_keeps k s a ∙ (other (same (class_at s) (class_of_leaf (kept k))) _ _ h.0 ∙ ap fault (sym h.1))
kept_stops X k view TooDeep s t h = absurd h
kept_stops X k view NoMemory s t h = absurd h

pub reference_reads : {Y : Type 0} (u : Space) (w : core.Reach) (i : Index) (made : Result Y AllocError) (s t : Stand) (p q : Scratch) → TookIndex (Ok i) s t → Adds made p q (λ fs cs. a_leaf (m.ref u (index_of w i))) → Reads (reference u w) (as_fault made) s t p q
reference_reads u w i (Ok z) s t p q h m = (m.0, λ fs cs f. run_reference u w s (held fs cs p) ∙ (h u w (held fs cs p) ∙ ap (λ b. done b t) (sym (m.1 fs cs f))))
reference_reads u w i (Err z) s t p q h m = λ a. tt

pub reference_stops : (u : Space) (w : core.Reach) (e : Fault) (s t : Stand) → TookIndex (Err e) s t → Fails (reference u w) e s t
reference_stops u w e s t h = λ a. refuses_as e t _ _ (run_reference u w s a) (h u w a)

-- ---- a token with its offset

placed_by : {X Y : Type 0} (b : Bool) (cs : List Class) (x : X) (made : Result Y Fault) (s t : Stand) (p q : Scratch) → AtMostOne cs → Took cs (Ok x) s t → Stored made p q (λ fs ms. a_place_made b (offset_of s)) → Reads (with_class (λ c. placed b c) cs) made s t p q
placed_by b [] x made s t p q one h m = absurd (let z = h.0 in cc)
placed_by b (c ∷ d ∷ cs) x made s t p q one h m = absurd one
placed_by b (c ∷ []) x (Ok y) s t p q one h m = (
  m.0,
  λ fs ms f.
      run_placed b c s (held fs ms p) ∙ (chosen (same (class_at s) c) _ _ (sym (among_one c (class_at s)) ∙ h.0) ∙ (ap (λ k. done k (moved s 1)) (sym (m.1 fs ms f)) ∙ ap (done (held fs ms q)) (sym h.1))),
)
placed_by b (c ∷ []) x (Err NoMemory) s t p q one h m = λ a. tt
placed_by b (c ∷ []) x (Err Parse) s t p q one h m = absurd (cc)
placed_by b (c ∷ []) x (Err TooDeep) s t p q one h m = absurd (cc)

pub placed_reads : {X Y : Type 0} (b : Bool) (n : ℕ) (x : X) (made : Result Y Fault) (s t : Stand) (p q : Scratch) → Took (one_class n) (Ok x) s t → Stored made p q (λ fs ms. a_place_made b (offset_of s)) → Reads (lone_placed b n) made s t p q
placed_reads b n x made s t p q h m = placed_by b (one_class n) x made s t p q (at_most_one n) h m

pub none_stored : {X : Type 0} (x : X) (n : ℕ) (p : Scratch) → Stored (Ok x) p p (λ fs ms. a_place_made false n)
none_stored x n p = (grows_itself p.cores, λ fs ms f. sym (join_empty (held fs ms p)))

unplaced_by : (b : Bool) (cs : List Class) (s : Stand) (a : Made) → AtMostOne cs → among cs (class_at s) ≡ false → run (with_class (λ c. placed b c) cs) s a ≡ fault s
unplaced_by b [] s a one h = run_no_case s a
unplaced_by b (c ∷ d ∷ cs) s a one h = absurd one
unplaced_by b (c ∷ []) s a one h = run_placed b c s a ∙ other (same (class_at s) c) _ _ (sym (among_one c (class_at s)) ∙ h)

pub placed_stops : (X : Type 0) (b : Bool) (n : ℕ) (e : Fault) (s t : Stand) → Took {X = X} (one_class n) (Err e) s t → Fails (lone_placed b n) e s t
placed_stops X b n e s t h = λ a. took_fault X (one_class n) e s t _ h (λ z. unplaced_by b (one_class n) s a (at_most_one n) z)

-- and what follows it
placed_run : (b : Bool) (cs : List Class) (y : Rule) (s : Stand) (a : Made) → AtMostOne cs → run (with_class (λ c. pair (placed b c) y) cs) s a ≡ andthen (run (with_class (λ c. placed b c) cs) s a) (λ k z. run y z k)
placed_run b [] y s a one = run_no_case s a ∙ sym (ap (λ o. andthen o (λ k z. run y z k)) (run_no_case s a))
placed_run b (c ∷ d ∷ cs) y s a one = absurd one
placed_run b (c ∷ []) y s a one = run_pair (placed b c) y s a

pub placed_then : {X Y : Type 0} (b : Bool) (n : ℕ) (y : Rule) (v : X) (res : Result Y Fault) (s t u : Stand) (p q w : Scratch) → Reads (lone_placed b n) (Ok v) s t p q → Reads y res t u q w → Reads (a_placed b n y) res s u p w
placed_then b n y v res s t u p q w h k = follows (a_placed b n y) (lone_placed b n) y v res s t u p q w (λ a. placed_run b (one_class n) y s a (at_most_one n)) h k

pub placed_refused : (b : Bool) (n : ℕ) (y : Rule) (e : Fault) (s t : Stand) → Fails (lone_placed b n) e s t → Fails (a_placed b n y) e s t
placed_refused b n y e s t h = stops (a_placed b n y) (lone_placed b n) (λ k z. run y z k) e s t (λ a. placed_run b (one_class n) y s a (at_most_one n)) h

-- ---- a choice by a test

pub either_one : {Y : Type 0} (q : Test) (x y : Rule) (res : Result Y Fault) (s u : Stand) (p w : Scratch) → holds q s ≡ true → Reads x res s u p w → Reads (either q x y) res s u p w
either_one q x y res s u p w h k = goes (either q x y) x res s s u p w (λ a. run_either q x y s a ∙ chosen (holds q s) _ _ h) k

pub either_other : {Y : Type 0} (q : Test) (x y : Rule) (res : Result Y Fault) (s u : Stand) (p w : Scratch) → holds q s ≡ false → Reads y res s u p w → Reads (either q x y) res s u p w
either_other q x y res s u p w h k = goes (either q x y) y res s s u p w (λ a. run_either q x y s a ∙ other (holds q s) _ _ h) k

pub by_test_one : {Y : Type 0} (q : Test) (x y : Rule) (res : Result Y Fault) (s u : Stand) (p w : Scratch) → holds q s ≡ true → Reads x res s u p w → Reads (by_test q x y) res s u p w
by_test_one q x y res s u p w h k = goes (by_test q x y) x res s s u p w (λ a. run_by_test q x y s a ∙ chosen (holds q s) _ _ h) k

pub by_test_other : {Y : Type 0} (q : Test) (x y : Rule) (res : Result Y Fault) (s u : Stand) (p w : Scratch) → holds q s ≡ false → Reads y res s u p w → Reads (by_test q x y) res s u p w
by_test_other q x y res s u p w h k = goes (by_test q x y) y res s s u p w (λ a. run_by_test q x y s a ∙ other (holds q s) _ _ h) k

pub case_one : {Y : Type 0} (n : ℕ) (q : Test) (x y : Rule) (res : Result Y Fault) (s u : Stand) (p w : Scratch) → Fit (case n q x y) → holds q s ≡ true → Reads x res s u p w → Reads (case n q x y) res s u p w
case_one n q x y res s u p w f h k = goes (case n q x y) x res s s u p w (λ a. run_case n q x y s a f.sound ∙ chosen (holds q s) _ _ h) k

pub case_other : {Y : Type 0} (n : ℕ) (q : Test) (x y : Rule) (res : Result Y Fault) (s u : Stand) (p w : Scratch) → Fit (case n q x y) → holds q s ≡ false → Reads y res s u p w → Reads (case n q x y) res s u p w
case_other n q x y res s u p w f h k = goes (case n q x y) y res s s u p w (λ a. run_case n q x y s a f.sound ∙ other (holds q s) _ _ h) k

pub marks_stops : (x : Rule) (e : Fault) (s : Stand) → e ≡ NoMemory → Fails (marks x) e s s
marks_stops x e s h = λ a. subst (λ k. Refuses k s (run (marks x) s a)) (sym h) tt
