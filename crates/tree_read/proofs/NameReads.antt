-- Reading texts in their groups, and names.
use Rattle.std.proofs.Common.{◌≡◌, ℕ, List, [], ◌∷◌, Bool, true, false, cond, refl, ap, sym, subst, ◌∙◌, Result, Ok, Err, codes}
use Rattle.wast_grammar.specs.Classes.{Class, finish, opening, closing, string, id, integer, keyword, annotation, reserved, same, among, utf8}
use Rattle.wast_grammar.specs.Stand.{Stand, class_at, moved}
use Rattle.wast_grammar.specs.Grammar.{Value, Leaf, both, left, right, before, after, leaf, a_text, class_of_leaf, value_at, made_of, any_choice}
use Rattle.wast_grammar.specs.NameRows.{plain_name, interface_name, attributes, extern_name}
use Rattle.wast_grammar.specs.ValueRows.{strings}
use Rattle.wast_grammar.specs.Read.{Outcome, reads, fault, deep, read, andthen}
use Rattle.text_table.specs.Code.{one_class}
use Rattle.tree_read.specs.Comes.{Took, Kept, Gives, FailsBy}
use Rattle.tree_read.specs.NameParts.{said, text_group}
use Rattle.tree_read.specs.declared.fault.Fault.{Fault}
use Rattle.tree_read.specs.declared.fault.Fault.TheVariants.{Parse, TooDeep, NoMemory}

-- a class alone in a list
pub alone : (c d : Class) (b : Bool) → among (c ∷ []) d ≡ b → same d c ≡ b
alone c d b h = by_test (same d c) h
  where
    by_test : (x : Bool) → cond x true false ≡ b → x ≡ b
    by_test true e = e
    by_test false e = e

pub gives_by : {X : Type 0} (view : X → Value) (r : Result X Fault) (t : Stand) (o p : Outcome) → o ≡ p → Gives view r t p → Gives view r t o
gives_by view r t o p e g = subst (Gives view r t) (sym e) g

-- a token that is kept
pub kept_gives : {X : Type 0} (view : X → Value) (k : Leaf) (r : Result X Fault) (s t : Stand) → Kept view k r s t → Gives view r t (read (leaf k) s)
kept_gives view k (Ok x) s t h = ap (λ b. cond b (reads (value_at k s) (moved s 1)) (fault s)) h.0 ∙ (ap (λ v. reads v (moved s 1)) h.2 ∙ ap (reads (view x)) (sym h.1))
kept_gives view k (Err Parse) s t h = ap (λ b. cond b (reads (value_at k s) (moved s 1)) (fault s)) h.0 ∙ ap fault (sym h.1)
kept_gives view k (Err TooDeep) s t h = absurd h
kept_gives view k (Err NoMemory) s t h = absurd h

-- ---- a text in the group of a word

group_in : (c : Class) (s t : Stand) → same (class_at s) opening ≡ true → t ≡ moved s 1 → read (text_group c) s ≡ read (after (before c (leaf a_text)) closing) t
group_in c s t h e = ap (λ b. cond b (read (after (before c (leaf a_text)) closing) (moved s 1)) (fault s)) h ∙ ap (read (after (before c (leaf a_text)) closing)) (sym e)

word_in : (c : Class) (s t : Stand) → same (class_at s) c ≡ true → t ≡ moved s 1 → read (after (before c (leaf a_text)) closing) s ≡ read (after (leaf a_text) closing) t
word_in c s t h e =
    ap (λ b. andthen (cond b (read (leaf a_text) (moved s 1)) (fault s)) (λ u r. cond (same (class_at r) closing) (reads u (moved r 1)) (fault r))) h
    ∙ ap (read (after (leaf a_text) closing)) (sym e)

-- what stands at its end
abbrev at_end : Value → Stand → Outcome
at_end v s = cond (same (class_at s) closing) (reads v (moved s 1)) (fault s)

text_in : (v : Value) (s t : Stand) → same (class_at s) utf8 ≡ true → t ≡ moved s 1 → value_at a_text s ≡ v → read (after (leaf a_text) closing) s ≡ at_end v t
text_in v s t h e z =
    ap (λ b. andthen (cond b (reads (value_at a_text s) (moved s 1)) (fault s)) (λ u r. at_end u r)) h
    ∙ (ap (λ u. at_end u (moved s 1)) z ∙ ap (at_end v) (sym e))

pub group_read : (c : Class) (n : ℕ) (s s1 s2 s3 : Stand) (v : Value) → one_class n ≡ c ∷ [] → among (one_class 2) (class_at s) ≡ true → s1 ≡ moved s 1
    → among (one_class n) (class_at s1) ≡ true → s2 ≡ moved s1 1 → same (class_at s2) utf8 ≡ true → s3 ≡ moved s2 1 → value_at a_text s2 ≡ v → read (text_group c) s ≡ at_end v s3
group_read c n s s1 s2 s3 v k h e i f j g z =
    group_in c s s1 (alone opening (class_at s) true h) e
    ∙ (word_in c s1 s2 (alone c (class_at s1) true (subst (λ cs. among cs (class_at s1) ≡ true) k i)) f
    ∙ text_in v s2 s3 j g z)

pub group_ends : (v : Value) (o : Outcome) (s t : Stand) → o ≡ at_end v s → among (one_class 1) (class_at s) ≡ true → t ≡ moved s 1 → o ≡ reads v t
group_ends v o s t e h i = e ∙ (ap (λ b. cond b (reads v (moved s 1)) (fault s)) (alone closing (class_at s) true h) ∙ ap (reads v) (sym i))

pub group_fails : {X : Type 0} (view : X → Value) (v : Value) (o : Outcome) (e : Fault) (Y : Type 0) (s t : Stand) → o ≡ at_end v s → Took {X = Y} (one_class 1) (Err e) s t → Gives view (Err e) t o
group_fails view v o Parse Y s t z h = z ∙ (ap (λ b. cond b (reads v (moved s 1)) (fault s)) (alone closing (class_at s) false h.0) ∙ ap fault (sym h.1))
group_fails view v o TooDeep Y s t z h = absurd h
group_fails view v o NoMemory Y s t z h = absurd h

-- ---- a name without attributes

-- the chosen value alone is left of a choice
abbrev chosen : Outcome → Outcome
chosen o = andthen o (λ u t. reads (made_of any_choice u) t)

of_right : (o : Outcome) → chosen (andthen o (λ u r. reads (right u) r)) ≡ o
of_right (reads v t) = refl
of_right (fault t) = refl
of_right (deep t) = refl

no_string : (c : Class) → among (one_class 2) c ≡ true → among strings c ≡ false
no_string finish h = absurd (cc)
no_string opening h = refl
no_string closing h = absurd (cc)
no_string (string b) h = absurd (cc)
no_string id h = absurd (cc)
no_string (integer b) h = absurd (cc)
no_string (keyword bytes) h = absurd (cc)
no_string (annotation bytes) h = absurd (cc)
no_string reserved h = absurd (cc)

pub name_of_group : (s : Stand) → among (one_class 2) (class_at s) ≡ true → read plain_name s ≡ read (text_group (keyword (codes "interface"))) s
unfolding plain_name interface_name
name_of_group s h =
    ap (λ b. chosen (cond b (andthen (read (leaf a_text) s) (λ u r. reads (left u) r)) (andthen (read (text_group (keyword (codes "interface"))) s) (λ u r. reads (right u) r)))) (no_string (class_at s) h)
    ∙ of_right (read (text_group (keyword (codes "interface"))) s)

by_class : (c : Class) (v : Value) (s t : Stand) (g : Outcome) → among (one_class 2) c ≡ false
    → chosen (cond (among strings c) (andthen (cond (same c utf8) (reads v t) (fault s)) (λ u r. reads (left u) r)) (andthen (cond (same c opening) g (fault s)) (λ u r. reads (right u) r))) ≡ cond (same c utf8) (reads v t) (fault s)
by_class finish v s t g h = refl
by_class opening v s t g h = absurd (cc)
by_class closing v s t g h = refl
by_class (string true) v s t g h = refl
by_class (string false) v s t g h = refl
by_class id v s t g h = refl
by_class (integer b) v s t g h = refl
by_class (keyword bytes) v s t g h = refl
by_class (annotation bytes) v s t g h = refl
by_class reserved v s t g h = refl

pub name_of_text : (s : Stand) → among (one_class 2) (class_at s) ≡ false → read plain_name s ≡ read (leaf a_text) s
unfolding plain_name interface_name
name_of_text s h = by_class (class_at s) (value_at a_text s) s (moved s 1) (read (after (before (keyword (codes "interface")) (leaf a_text)) closing) (moved s 1)) h

-- ---- a name with its attributes

pub extern_fails : (e : Fault) (s t : Stand) → FailsBy e t (read plain_name s) → FailsBy e t (read extern_name s)
unfolding extern_name
extern_fails Parse s t h = ap (λ o. andthen o (λ u r. andthen (read attributes r) (λ v q. reads (both u v) q))) h
extern_fails TooDeep s t h = ap (λ o. andthen o (λ u r. andthen (read attributes r) (λ v q. reads (both u v) q))) h
extern_fails NoMemory s t h = tt

pub extern_reads : (u : Value) (s r : Stand) → read plain_name s ≡ reads u r → read extern_name s ≡ andthen (read attributes r) (λ v q. reads (both u v) q)
unfolding extern_name
extern_reads u s r h = ap (λ o. andthen o (λ w p. andthen (read attributes p) (λ v q. reads (both w v) q))) h

pub attributes_fail : (e : Fault) (u : Value) (s r t : Stand) → read plain_name s ≡ reads u r → FailsBy e t (read attributes r) → FailsBy e t (read extern_name s)
attributes_fail Parse u s r t h k = extern_reads u s r h ∙ ap (λ o. andthen o (λ v q. reads (both u v) q)) k
attributes_fail TooDeep u s r t h k = extern_reads u s r h ∙ ap (λ o. andthen o (λ v q. reads (both u v) q)) k
attributes_fail NoMemory u s r t h k = tt
