-- Tokens that are told by a table or by more than their class.
use Rattle.std.proofs.Common.{◌≡◌, ℕ, List, [], ◌∷◌, Bool, true, false, cond, Option, Some, None, Result, Ok, Err, refl, ap, sym, subst, ◌∙◌, slice_index}
use Rattle.std.specs.Option.{option_map}
use Rattle.std.specs.declared.alloc.AllocError.{AllocError}
use Rattle.comp_model.specs.CoreModules.{CoreModule, Field}
use Rattle.comp_model.specs.Model as m
use Rattle.wast_grammar.specs.Classes.{Class, finish, opening, closing, string, id, integer, keyword, annotation, reserved, same, among, is_keyword}
use Rattle.wast_grammar.specs.Stand.{Stand, class_at, moved}
use Rattle.wast_grammar.specs.Grammar.{number_in, is_special, num}
use Rattle.wast_grammar.specs.Read as o
use Rattle.wast_grammar.specs.CoreTypeRows.{other_references, other_type_words, limit_words}
use Rattle.text_rules.specs.Makes.{a_leaf}
use Rattle.text_rules.specs.Made.{Made}
use Rattle.text_rules.specs.Rule.{told, silent}
use Rattle.rule_runs.specs.Run.{run, done, fault, told_by}
use Rattle.rule_runs.proofs.Runs.{run_told, run_silent}
use Rattle.rule_runs.proofs.Makings.{makes_told}
use Rattle.text_table.specs.Code.{words_told, numbers_told, silent_of}
use Rattle.text_table.specs.Choice.{told_in}
use Rattle.text_table.specs.declared.rule.Told.{Told}
use Rattle.text_table.specs.declared.rule.Silent.{Silent}
use Rattle.text_table.specs.declared.rule.Silent.TheVariants as silence
use Rattle.tree_build.specs.Adds.{Adds}
use Rattle.tree_read.specs.Comes.{Reads, as_fault}
use Rattle.tree_build.specs.Held.{held}
use Rattle.tree_build.specs.declared.scratch.Scratch.{Scratch}
use Rattle.tree_read.proofs.Added.{added}
use Rattle.tree_build.proofs.Prefixes.{grows_itself}

-- ---- the word of a table

there : (ws : List (List ℕ × ℕ)) (c : Class) (n : ℕ) → number_in ws c ≡ Some n → same c finish ≡ false
there ws opening n h = refl
there ws closing n h = refl
there ws (string b) n h = refl
there ws id n h = refl
there ws (integer b) n h = refl
there ws (keyword bytes) n h = refl
there ws (annotation bytes) n h = refl
there ws reserved n h = refl
there ws finish n h = absurd (let z : None ≡ Some n = sym (no_word ws) ∙ h in cc)
  where
    no_word : (vs : List (List ℕ × ℕ)) → number_in vs finish ≡ None
    no_word [] = refl
    no_word (v ∷ vs) = no_word vs

-- the number of a word by its place
pub place_of : (ns : List ℕ) (x : Option ℕ) (k : ℕ) → Some k ≡ option_map (slice_index ns) x → (n : ℕ) × (x ≡ Some n) × (slice_index ns n ≡ k)
place_of ns (Some n) k h = (n, refl, cc)
place_of ns None k h = absurd (cc)

no_place : (ns : List ℕ) (x : Option ℕ) → None ≡ option_map (slice_index ns) x → x ≡ None
no_place ns None h = refl
no_place ns (Some n) h = absurd (cc)

pub is_word : (t : Told) (c : Class) (k : ℕ) → Some k ≡ told_in t c → same c finish ≡ false
is_word t c k h = let p = place_of (numbers_told t) (number_in (words_told t) c) k h in there (words_told t) c p.0 p.1

pub word_read : {X : Type 0} (t : Told) (k : ℕ) (s u : Stand) (p q : Scratch) (x : Result X AllocError) → Some k ≡ told_in t (class_at s) → u ≡ moved s 1 → Adds x p q (λ fs cs. a_leaf (m.number k))
    → Reads (told (words_told t) (numbers_told t)) (as_fault x) s u p q
word_read t k s u p q x h e w =
    let z = place_of (numbers_told t) (number_in (words_told t) (class_at s)) k h in
    added (told (words_told t) (numbers_told t)) (num z.0) s u p q (λ fs cs. a_leaf (m.number k)) x
    (ap (λ y. o.told y s) z.1 ∙ ap (o.reads (num z.0)) (sym e))
    (λ fs cs. makes_told (words_told t) (numbers_told t) (num z.0) ∙ ap (λ n. a_leaf (m.number n)) z.2) w

pub no_word_read : (t : Told) (s : Stand) (a : Made) → None ≡ told_in t (class_at s) → run (told (words_told t) (numbers_told t)) s a ≡ fault s
no_word_read t s a h =
    run_told (words_told t) (numbers_told t) s a
    ∙ ap (λ y. told_by (numbers_told t) y s a) (no_place (numbers_told t) (number_in (words_told t) (class_at s)) h)

-- ---- a token that isn't kept

pub is_token : (k : Silent) (s : Stand) → is_special (silent_of k) s ≡ true → same (class_at s) finish ≡ false
is_token silence.OtherReference s h = by_class (class_at s) h
  where
    by_class : (c : Class) → is_keyword other_references c ≡ true → same c finish ≡ false
    by_class finish z = absurd (cc)
    by_class opening z = refl
    by_class closing z = refl
    by_class (string b) z = refl
    by_class id z = refl
    by_class (integer b) z = refl
    by_class (keyword bytes) z = refl
    by_class (annotation bytes) z = refl
    by_class reserved z = refl
is_token silence.OtherType s h = by_class (class_at s) h
  where
    by_class : (c : Class) → among other_type_words c ≡ true → same c finish ≡ false
    by_class finish z = absurd (cc)
    by_class opening z = refl
    by_class closing z = refl
    by_class (string b) z = refl
    by_class id z = refl
    by_class (integer b) z = refl
    by_class (keyword bytes) z = refl
    by_class (annotation bytes) z = refl
    by_class reserved z = refl
is_token silence.OtherLimits s h = by_class (class_at s) h
  where
    by_class : (c : Class) → among limit_words c ≡ true → same c finish ≡ false
    by_class finish z = absurd (cc)
    by_class opening z = refl
    by_class closing z = refl
    by_class (string b) z = refl
    by_class id z = refl
    by_class (integer b) z = refl
    by_class (keyword bytes) z = refl
    by_class (annotation bytes) z = refl
    by_class reserved z = refl

pub token_read : {X : Type 0} (k : Silent) (y : X) (s t : Stand) (p : Scratch) → is_special (silent_of k) s ≡ true → t ≡ moved s 1 → Reads (silent (silent_of k)) (Ok y) s t p p
token_read k y s t p h e =
    (grows_itself p.cores, λ fs cs z. run_silent (silent_of k) s (held fs cs p) ∙ (ap (λ b. cond b (done (held fs cs p) (moved s 1)) (fault s)) h ∙ ap (done (held fs cs p)) (sym e)))

pub no_token_read : (k : Silent) (s : Stand) (a : Made) → is_special (silent_of k) s ≡ false → run (silent (silent_of k)) s a ≡ fault s
no_token_read k s a h = run_silent (silent_of k) s a ∙ ap (λ b. cond b (done a (moved s 1)) (fault s)) h

-- what a reader asked
pub asked : (k : Silent) (s t : Stand) (x b : Bool) → t ≡ s → x ≡ is_special (silent_of k) t → x ≡ b → is_special (silent_of k) s ≡ b
asked k s t x b e h z = ap (is_special (silent_of k)) (sym e) ∙ (sym h ∙ z)
