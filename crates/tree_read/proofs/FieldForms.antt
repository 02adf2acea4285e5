-- The forms of a field of a core module: in its parentheses, or from an annotation on that opens the group itself.
use Rattle.std.proofs.Common.{◌≡◌, ℕ, List, [], ◌∷◌, ◌++◌, Bool, true, false, ◌||◌, cond, refl, ap, sym, ◌∙◌, codes, Result, Ok, Err}
use Rattle.wast_grammar.specs.Classes.{Class, finish, opening, closing, string, id, integer, keyword, annotation, reserved, same, among}
use Rattle.wast_grammar.specs.Stand.{Stand, class_at, moved, offset_of}
use Rattle.wast_grammar.specs.Grammar.{Grammar, Test, Value, none, left, right, part_at, either, holds, made_of, one_choice, group, led}
use Rattle.wast_grammar.specs.ValueRows.{is_word}
use Rattle.wast_grammar.specs.Read.{Outcome, reads, fault, deep, read, andthen, skip_rest}
use Rattle.wast_grammar.specs.CoreRows.{field_group, noted_group, note_group, module_field, import_or_more, func_or_more, global_or_more, export_or_more, last_field, table_or_memory, memory_or_other, other_field, other_fields, other_field_words, other_field_notes, type_field, import_field, func_field, global_field, export_field, table_head, table_type, memory_head, memory_type, Field}
use Rattle.core_parts.proofs.Looks.{among_both}
use Rattle.text_table.specs.Code.{one_class}
use Rattle.tree_read.specs.Comes.{Took, FailsBy}
use Rattle.tree_read.specs.FieldParts.{closed}
use Rattle.tree_read.specs.declared.fault.Fault.{Fault}
use Rattle.tree_read.specs.declared.fault.Fault.TheVariants.{Parse, TooDeep, NoMemory}
use Rattle.tree_read.proofs.NameReads.{alone}

-- what is made of the value
abbrev then_made : (Value → Value) → Outcome → Outcome
then_made f o = andthen o (λ v t. reads (f v) t)

past : (t : Test) (g h : Grammar) (s : Stand) → holds t s ≡ false → read (either t g h) s ≡ then_made right (read h s)
past t g h s e = ap (λ b. cond b (then_made left (read g s)) (then_made right (read h s))) e

-- where no word begins a field
pub record NoWord (c : Class) : Type 0 where
  pub not_type : among (keyword (codes "type") ∷ []) c ≡ false
  pub not_import : among (keyword (codes "import") ∷ []) c ≡ false
  pub not_func : among (keyword (codes "func") ∷ []) c ≡ false
  pub not_global : among (keyword (codes "global") ∷ []) c ≡ false
  pub not_export : among (keyword (codes "export") ∷ []) c ≡ false
  pub not_table : among (keyword (codes "table") ∷ []) c ≡ false
  pub not_memory : among (keyword (codes "memory") ∷ []) c ≡ false
  pub not_other : among other_field_words c ≡ false

no_word : (c : Class) → among other_field_notes c ≡ true → NoWord c
no_word finish h = absurd (cc)
no_word opening h = absurd (cc)
no_word closing h = absurd (cc)
no_word (string b) h = absurd (cc)
no_word id h = absurd (cc)
no_word (integer b) h = absurd (cc)
no_word (keyword bytes) h = absurd (cc)
no_word (annotation bytes) h = record { not_type = refl; not_import = refl; not_func = refl; not_global = refl; not_export = refl; not_table = refl; not_memory = refl; not_other = refl }
no_word reserved h = absurd (cc)

-- the value of a field that is none of the words
abbrev last : ℕ → Outcome → Outcome
last n o = then_made right (then_made right (then_made right (then_made right (then_made right (then_made (part_at n) (then_made (made_of one_choice) (then_made right (then_made (made_of one_choice) (then_made right o)))))))))

past_words : (noted : Bool) (s : Stand) → NoWord (class_at s) → read (module_field noted) s ≡ last (offset_of s) (read (other_field noted) s)
unfolding module_field import_or_more func_or_more global_or_more export_or_more last_field table_or_memory memory_or_other
past_words noted s w =
    past (is_word "type") type_field (import_or_more noted) s w.not_type
    ∙ ap (then_made right) (past (is_word "import") import_field (func_or_more noted) s w.not_import
    ∙ ap (then_made right) (past (is_word "func") func_field (global_or_more noted) s w.not_func
    ∙ ap (then_made right) (past (is_word "global") global_field (export_or_more noted) s w.not_global
    ∙ ap (then_made right) (past (is_word "export") export_field (last_field noted) s w.not_export
    ∙ ap (λ o. then_made right (then_made (part_at (offset_of s)) (then_made (made_of one_choice) o))) (past (is_word "table") (led table_head (table_type Field)) (memory_or_other noted) s w.not_table
    ∙ ap (λ o. then_made right (then_made (made_of one_choice) o)) (past (is_word "memory") (led memory_head (memory_type Field)) (other_field noted) s w.not_memory))))))

-- behind a parenthesis no annotation stands
pub no_note_behind : (s : Stand) → among other_field_notes (class_at s) ≡ true → read (module_field false) s ≡ fault s
unfolding other_field
no_note_behind s h =
    let w = no_word (class_at s) h in
    past_words false s w ∙ ap (λ b. last (offset_of s) (andthen (cond b (reads none (moved s 1)) (fault s)) (λ u t. andthen (skip_rest t) (λ v r. reads u r)))) w.not_other

either_alike : (t : Test) (g h k : Grammar) (s : Stand) → read h s ≡ read k s → read (either t g h) s ≡ read (either t g k) s
either_alike t g h k s e = ap (λ o. cond (holds t s) (then_made left (read g s)) (then_made right o)) e

no_more : (b : Bool) → (b || false) ≡ b
no_more true = refl
no_more false = refl

-- elsewhere it is the same whether one may stand
pub no_note : (s : Stand) → among other_field_notes (class_at s) ≡ false → read (module_field false) s ≡ read (module_field true) s
unfolding module_field import_or_more func_or_more global_or_more export_or_more last_field table_or_memory memory_or_other other_field
no_note s h =
    let e : among other_field_words (class_at s) ≡ among (other_fields true) (class_at s) = sym (among_both other_field_words other_field_notes (class_at s) ∙ (ap (λ b. among other_field_words (class_at s) || b) h ∙ no_more (among other_field_words (class_at s)))) in
    let o : read (other_field false) s ≡ read (other_field true) s = ap (λ b. andthen (cond b (reads none (moved s 1)) (fault s)) (λ u t. andthen (skip_rest t) (λ v r. reads u r))) e in
    either_alike (is_word "type") type_field (import_or_more false) (import_or_more true) s
    (either_alike (is_word "import") import_field (func_or_more false) (func_or_more true) s
    (either_alike (is_word "func") func_field (global_or_more false) (global_or_more true) s
    (either_alike (is_word "global") global_field (export_or_more false) (export_or_more true) s
    (either_alike (is_word "export") export_field (last_field false) (last_field true) s
    (ap (λ r. then_made (part_at (offset_of s)) (then_made (made_of one_choice) r)) (either_alike (is_word "table") (led table_head (table_type Field)) (memory_or_other false) (memory_or_other true) s
    (ap (then_made (made_of one_choice)) (either_alike (is_word "memory") (led memory_head (memory_type Field)) (other_field false) (other_field true) s o))))))))

-- ---- with the group

of_right : (o : Outcome) → then_made (made_of one_choice) (then_made right o) ≡ then_made right o
of_right (reads v t) = refl
of_right (fault t) = refl
of_right (deep t) = refl

group_right : (o : Outcome) → then_made right (closed (λ v. v) o) ≡ closed right o
group_right (reads v t) = by_test (same (class_at t) closing)
  where
    by_test : (b : Bool) → then_made right (cond b (reads v (moved t 1)) (fault t)) ≡ cond b (reads (right v) (moved t 1)) (fault t)
    by_test true = refl
    by_test false = refl
group_right (fault t) = refl
group_right (deep t) = refl

opened : (b : Bool) (o : Outcome) (s : Stand) → then_made right (cond b (closed (λ v. v) o) (fault s)) ≡ cond b (closed right o) (fault s)
opened true o s = group_right o
opened false o s = refl

-- a field in its parentheses
pub worded_group : (s : Stand) → among other_field_notes (class_at s) ≡ false → read field_group s ≡ cond (same (class_at s) opening) (closed right (read (module_field false) (moved s 1))) (fault s)
unfolding field_group
worded_group s h =
    ap (then_made (made_of one_choice)) (ap (λ b. cond b (then_made left (read noted_group s)) (then_made right (read (group (module_field false)) s))) h)
    ∙ (of_right (read (group (module_field false)) s) ∙ opened (same (class_at s) opening) (read (module_field false) (moved s 1)) s)

note_end : (n : ℕ) (o : Outcome)
    → then_made (made_of one_choice) (then_made left (then_made right (then_made right (then_made right (then_made right (then_made right (then_made right (then_made (part_at n) (then_made right (then_made right (closed (λ v. v) (then_made (λ v. none) o))))))))))))
    ≡ closed right (last n (then_made (λ v. none) o))
note_end n (reads v t) = by_test (same (class_at t) closing)
  where
    by_test : (b : Bool)
        → then_made (made_of one_choice) (then_made left (then_made right (then_made right (then_made right (then_made right (then_made right (then_made right (then_made (part_at n) (then_made right (then_made right (cond b (reads none (moved t 1)) (fault t))))))))))))
        ≡ cond b (reads (right (right (right (right (right (right (part_at n (right (right none))))))))) (moved t 1)) (fault t)
    by_test true = refl
    by_test false = refl
note_end n (fault t) = refl
note_end n (deep t) = refl

-- a field from its annotation on
pub noted_group_is : (s : Stand) → among other_field_notes (class_at s) ≡ true → read field_group s ≡ closed right (read (module_field true) s)
unfolding field_group noted_group note_group other_field
noted_group_is s h =
    let w = no_word (class_at s) h in
    let e : among (other_fields true) (class_at s) ≡ true = among_both other_field_words other_field_notes (class_at s) ∙ (ap (λ b. b || among other_field_notes (class_at s)) w.not_other ∙ h) in
    let other : read (other_field true) s ≡ then_made (λ v. none) (skip_rest (moved s 1)) = ap (λ b. andthen (cond b (reads none (moved s 1)) (fault s)) (λ u t. andthen (skip_rest t) (λ v r. reads u r))) e in
    ap (λ b. then_made (made_of one_choice) (cond b (then_made left (read noted_group s)) (then_made right (read (group (module_field false)) s)))) h
    ∙ (ap (λ b. then_made (made_of one_choice) (then_made left (then_made right (then_made right (then_made right (then_made right (then_made right (then_made right (then_made (part_at (offset_of s)) (then_made right (then_made right (closed (λ v. v) (andthen (cond b (reads none (moved s 1)) (fault s)) (λ u t. andthen (skip_rest t) (λ v r. reads u r))))))))))))))) h
    ∙ (note_end (offset_of s) (skip_rest (moved s 1))
    ∙ ap (closed right) (sym (past_words true s w ∙ ap (last (offset_of s)) other))))

-- ---- how a reader enters

pub no_opening : (X : Type 0) (e : Fault) (s t : Stand) → among other_field_notes (class_at s) ≡ false → Took {X = X} (one_class 2) (Err e) s t → FailsBy e t (read field_group s)
no_opening X Parse s t h k = worded_group s h ∙ (ap (λ b. cond b (closed right (read (module_field false) (moved s 1))) (fault s)) (alone opening (class_at s) false k.0) ∙ ap fault (sym k.1))
no_opening X TooDeep s t h k = absurd k
no_opening X NoMemory s t h k = absurd k

entered : (s t : Stand) → among other_field_notes (class_at s) ≡ false → among (one_class 2) (class_at s) ≡ true → t ≡ moved s 1 → read field_group s ≡ closed right (read (module_field false) t)
entered s t h k e =
    worded_group s h
    ∙ (ap (λ b. cond b (closed right (read (module_field false) (moved s 1))) (fault s)) (alone opening (class_at s) true k) ∙ ap (λ r. closed right (read (module_field false) r)) (sym e))

pub note_behind : (s t : Stand) → among other_field_notes (class_at s) ≡ false → among (one_class 2) (class_at s) ≡ true → t ≡ moved s 1 → among other_field_notes (class_at t) ≡ true → read field_group s ≡ fault t
note_behind s t h k e l = entered s t h k e ∙ ap (closed right) (no_note_behind t l)

pub word_behind : (s t : Stand) → among other_field_notes (class_at s) ≡ false → among (one_class 2) (class_at s) ≡ true → t ≡ moved s 1 → among other_field_notes (class_at t) ≡ false → read field_group s ≡ closed right (read (module_field true) t)
word_behind s t h k e l = entered s t h k e ∙ ap (closed right) (no_note t l)

-- ---- and what comes behind

pub field_fails : (e : Fault) (s t : Stand) (o p : Outcome) → o ≡ closed right p → FailsBy e t p → FailsBy e t o
field_fails Parse s t o p e h = e ∙ ap (closed right) h
field_fails TooDeep s t o p e h = e ∙ ap (closed right) h
field_fails NoMemory s t o p e h = tt
