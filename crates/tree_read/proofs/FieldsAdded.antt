-- A core module that is added, and the fields that it has.
use Rattle.std.proofs.Common.{◌≡◌, ℕ, List, [], ◌∷◌, ◌++◌, Result, Ok, Err, Bool, true, false, not, cond, refl, ap, sym, subst, ◌∙◌, Vec, Global, length, get_or}
use Rattle.std.specs.Prelude.{OnOk, ⊤}
use Rattle.std.specs.declared.alloc.AllocError.{AllocError}
use Rattle.comp_model.specs.CoreModules.{CoreModule, Field}
use Rattle.comp_model.specs.Model.{core_source}
use Rattle.core_model.specs.Module.{module_with}
use Rattle.core_model.specs.Words.{FieldsWord}
use Rattle.core_syntax.specs.Fields.{fields_of}
use Rattle.core_syntax.specs.CoreView.{field_group_view}
use Rattle.core_syntax.specs.declared.fields.ModuleField.{ModuleField}
use Rattle.comp_tree.specs.declared.tree.Leaf as l
use Rattle.wast_grammar.specs.Stand.{Stand, class_at}
use Rattle.wast_grammar.specs.Classes.{among}
use Rattle.wast_grammar.specs.Grammar.{Value, CoreField, row, both, none, holds, going, group_ends}
use Rattle.wast_grammar.specs.Shape.{sound}
use Rattle.wast_grammar.specs.Spells.{Spells}
use Rattle.wast_grammar.specs.CoreRows.{field_group}
use Rattle.wast_grammar.specs.FieldRows.{core_fields}
use Rattle.wast_grammar.specs.Rows.{text_row}
use Rattle.wast_grammar.specs.Read.{Outcome, reads, fault, deep, read, again, andthen}
use Rattle.wast_grammar.proofs.Fuel.{row_is}
use Rattle.wast_grammar.proofs.Sound.{read_sound}
use Rattle.wast_parser.specs.View.{many_view}
use Rattle.wast_parser.proofs.Many.{with_front}
use Rattle.text_rules.specs.Made.{Made, join}
use Rattle.text_rules.specs.Makes.{makes, a_leaf}
use Rattle.text_rules.specs.Rule as r
use Rattle.text_rules.specs.Rule.{outside}
use Rattle.tree_build.specs.Adds.{Adds}
use Rattle.tree_read.specs.Comes.{FailsBy, Gives, Reads, as_fault}
use Rattle.tree_read.specs.FieldParts.{ItemRead, ReadsItem, ListRead, fields_row}
use Rattle.tree_build.specs.Cores.{Final, Grows, fields_at, no_naming}
use Rattle.tree_build.specs.Held.{held, loose}
use Rattle.tree_read.specs.declared.fault.Fault.{Fault}
use Rattle.tree_read.specs.declared.fault.Fault.TheVariants.{Parse, TooDeep, NoMemory}
use Rattle.tree_build.specs.declared.scratch.Scratch.{Scratch}
use Rattle.tree_read.proofs.Added.{added}
use Rattle.tree_build.proofs.Prefixes.{grows_then, final_before, starts_itself, starts_with_more, fields_there}

module_added : {X E : Type 0} (x : Result X E) (p u q : Scratch) (n : ℕ) (ls : List Field) → Grows p.cores u.cores → ((fs : List (List Field)) (cs : List CoreModule) → held fs cs u ≡ held fs cs p)
    → ((fs : List (List Field)) (cs : List CoreModule) → Final fs cs u.cores → fields_at fs n ≡ ls) → Adds x u q (λ fs cs. a_leaf (loose fs cs (l.Core n))) → Adds x p q (λ fs cs. a_leaf (core_source (module_with no_naming ls)))
module_added (Ok x) p u q n ls g same number h = (
  grows_then p.cores u.cores q.cores g h.0,
  λ fs cs z. h.1 fs cs z
      ∙ (ap (λ m. join m (a_leaf (loose fs cs (l.Core n)))) (same fs cs)
      ∙ ap (λ k. join (held fs cs p) (a_leaf (core_source (module_with no_naming k)))) (number fs cs (final_before fs cs u.cores q.cores h.0 z))),
)
module_added (Err e) p u q n ls g same number h = tt

-- the fields of a module were read as one more list, and the module was added by its number
pub module_read : {X : Type 0} (o : r.Outside) (s t : Stand) (p q : Scratch) (vs : Vec (Vec ModuleField Global) Global) (n : ℕ) (x : Result X AllocError)
    → (g : ListRead field_group_view (read (r.reads (outside o)) s) t n p.cores.fields.items vs.items)
    → makes (many_view field_group_view g.list.items) (outside o) ≡ a_leaf (core_source (module_with no_naming (fields_of g.list.items)))
    → Adds x (record p { cores = record p.cores { fields = vs } }) q (λ fs cs. a_leaf (loose fs cs (l.Core n))) → Reads (outside o) (as_fault x) s t p q
module_read o s t p q vs n x g m h =
    added (outside o) (many_view field_group_view g.list.items) s t p q (λ fs cs. a_leaf (core_source (module_with no_naming (fields_of g.list.items)))) x g.read (λ fs cs. m)
    (module_added x p (record p { cores = record p.cores { fields = vs } }) q n (fields_of g.list.items)
    (record { fields = starts_with_more (λ v. fields_of v.items) p.cores.fields.items vs.items g.list g.lists; modules = starts_itself p.cores.modules.items })
    (λ fs cs. refl) (λ fs cs f. fields_there (λ v. fields_of v.items) p.cores.fields.items vs.items g.list fs n g.lists g.number f.fields) h)

last_at : {A : Type 0} (xs : List A) (x d : A) → get_or (xs ++ (x ∷ [])) (length xs) d ≡ x
last_at [] x d = refl
last_at (y ∷ xs) x d = last_at xs x d

-- what holds of the list at a number holds of the last one, whose number it is
pub numerals_there : (all before : List (Vec ModuleField Global)) (last x : Vec ModuleField Global) (n : ℕ) (ys : List ModuleField) → x ≡ get_or all n x → all ≡ before ++ (last ∷ []) → n ≡ length before → ys ≡ x.items
    → FieldsWord (fields_of ys) → FieldsWord (fields_of last.items)
numerals_there all before last x n ys i e h k w =
    let same : x ≡ last = i ∙ (ap (λ zs. get_or zs n x) e ∙ (ap (λ j. get_or (before ++ (last ∷ [])) j x) h ∙ last_at before last x)) in
    subst (λ (v : Vec ModuleField Global). FieldsWord (fields_of v.items)) same (subst (λ zs. FieldsWord (fields_of zs)) k w)

-- ---- what is read

pub field_is : (s : Stand) → read (row CoreField) s ≡ read field_group s
unfolding text_row
field_is s = row_is CoreField s

pub sound_rows : (b : Bool) → sound (r.reads (outside (fields_row b))) ≡ true
sound_rows true = refl
sound_rows false = refl

pub sound_fields : sound core_fields ≡ true
sound_fields = refl

no_front : {A : Type 0} (view : A → Value) (o : Outcome) → with_front view [] o ≡ o
no_front view (reads v t) = refl
no_front view (fault t) = refl
no_front view (deep t) = refl

from_none : {A : Type 0} (view : A → Value) (xs : List A) (o : Outcome) → xs ≡ [] → o ≡ with_front view xs o
from_none view xs o e = sym (ap (λ zs. with_front view zs o) e ∙ no_front view o)

pub front_fails : {A : Type 0} (view : A → Value) (e : Fault) (xs : List A) (t : Stand) (o : Outcome) → FailsBy e t o → FailsBy e t (with_front view xs o)
front_fails view Parse xs t o h = ap (with_front view xs) h
front_fails view TooDeep xs t o h = ap (with_front view xs) h
front_fails view NoMemory xs t o h = tt

pub fails_as : (e : Fault) (t : Stand) (o p : Outcome) → o ≡ p → FailsBy e t p → FailsBy e t o
fails_as Parse t o p e h = e ∙ h
fails_as TooDeep t o p e h = e ∙ h
fails_as NoMemory t o p e h = tt

pub gives_as : {X : Type 0} (view : X → Value) (x : Result X Fault) (t : Stand) (o p : Outcome) → o ≡ p → Gives view x t p → Gives view x t o
gives_as view x t o p e h = subst (Gives view x t) (sym e) h

pub gives_passed : {X : Type 0} (view : X → Value) (x : Result X Fault) (e : Fault) (t : Stand) (o : Outcome) → x ≡ Err e → FailsBy e t o → Gives view x t o
gives_passed view x e t o h k = subst (λ y. Gives view y t o) (sym h) k

-- an item that was read and stored
pub item_stored : {A : Type 0} (view : A → Value) (x : A) (k : Result ⊤ AllocError) (y : Result ⊤ Fault) (o : Outcome) (t : Stand) (xs ys : List A) → y ≡ as_fault k → o ≡ reads (view x) t → OnOk k (ys ≡ xs ++ (x ∷ [])) → ReadsItem view y o t xs ys
item_stored view x (Ok z) y o t xs ys h e i = subst (λ w. ReadsItem view w o t xs ys) (sym h) (record { item = x; read = e; items = i })
item_stored view x (Err z) y o t xs ys h e i = subst (λ w. ReadsItem view w o t xs ys) (sym h) tt

-- a field and those behind it
first_read : {A : Type 0} (view : A → Value) (x : A) (s t : Stand) → read field_group s ≡ reads (view x) t → read (r.reads (outside r.some_core_fields)) s ≡ with_front view (x ∷ []) (read (r.reads (outside r.core_fields)) t)
first_read view x s t e = ap (λ o. andthen o (λ u q. andthen (read core_fields q) (λ v p. reads (both u v) p))) (field_is s ∙ e)

first_fails : (e : Fault) (s t : Stand) → FailsBy e t (read field_group s) → FailsBy e t (read (r.reads (outside r.some_core_fields)) s)
first_fails Parse s t h = ap (λ o. andthen o (λ u q. andthen (read core_fields q) (λ v p. reads (both u v) p))) (field_is s ∙ h)
first_fails TooDeep s t h = ap (λ o. andthen o (λ u q. andthen (read core_fields q) (λ v p. reads (both u v) p))) (field_is s ∙ h)
first_fails NoMemory s t h = tt

first_front : {A : Type 0} (view : A → Value) (s t : Stand) (xs ys : List A) → ItemRead view (read field_group s) t xs ys → xs ≡ [] → read (r.reads (outside r.some_core_fields)) s ≡ with_front view ys (read (r.reads (outside r.core_fields)) t)
first_front view s t xs ys i e = first_read view i.item s t i.read ∙ ap (λ zs. with_front view zs (read (r.reads (outside r.core_fields)) t)) (sym (i.items ∙ ap (λ zs. zs ++ (i.item ∷ [])) e))

-- by whether one field is asked for at least
pub first_refused : (b : Bool) (e : Fault) (s t : Stand) → b ≡ true → FailsBy e t (read field_group s) → FailsBy e t (read (r.reads (outside (fields_row b))) s)
first_refused true e s t h k = first_fails e s t k
first_refused false e s t h k = absurd (cc)

pub first_of_all : {A : Type 0} (b : Bool) (view : A → Value) (s t : Stand) (xs ys : List A) → b ≡ true → ItemRead view (read field_group s) t xs ys → xs ≡ [] → read (r.reads (outside (fields_row b))) s ≡ with_front view ys (read (r.reads (outside r.core_fields)) t)
first_of_all true view s t xs ys h i e = first_front view s t xs ys i e
first_of_all false view s t xs ys h i e = absurd (cc)

pub none_of_all : {A : Type 0} (b : Bool) (view : A → Value) (s : Stand) (xs : List A) → b ≡ false → xs ≡ [] → read (r.reads (outside (fields_row b))) s ≡ with_front view xs (read (r.reads (outside r.core_fields)) s)
none_of_all false view s xs h e = from_none view xs (read (r.reads (outside r.core_fields)) s) e
none_of_all true view s xs h e = absurd (cc)

further : (s : Stand) → holds going s ≡ true → read core_fields s ≡ andthen (read field_group s) (λ u q. andthen (again core_fields q) (λ v p. reads (both u v) p))
further s h =
    ap (λ b. cond b (andthen (read (row CoreField) s) (λ u q. andthen (again core_fields q) (λ v p. reads (both u v) p))) (reads none s)) h
    ∙ ap (λ o. andthen o (λ u q. andthen (again core_fields q) (λ v p. reads (both u v) p))) (field_is s)

-- a further field that is refused
pub item_fails : (e : Fault) (s t : Stand) → holds going s ≡ true → FailsBy e t (read field_group s) → FailsBy e t (read core_fields s)
item_fails Parse s t g h = further s g ∙ ap (λ o. andthen o (λ u q. andthen (again core_fields q) (λ v p. reads (both u v) p))) h
item_fails TooDeep s t g h = further s g ∙ ap (λ o. andthen o (λ u q. andthen (again core_fields q) (λ v p. reads (both u v) p))) h
item_fails NoMemory s t g h = tt

-- ---- what it leaves

-- what the law says of fields that a text spells holds of those that were read
pub spelled : (xs : List ModuleField) (o : r.Outside) (s t : Stand) → sound (r.reads (outside o)) ≡ true → read (r.reads (outside o)) s ≡ reads (many_view field_group_view xs) t → Spells (r.reads (outside o)) s t (many_view field_group_view xs)
spelled xs o s t z e = (read_sound (r.reads (outside o)) s t (many_view field_group_view xs) z e).0

-- where the group goes on, by what a reader asks
pub goes_by : (s t : Stand) (x b : Bool) → t ≡ s → x ≡ among group_ends (class_at t) → x ≡ b → holds going s ≡ not b
goes_by s t x b e h z = ap (λ (p : Stand). not (among group_ends (class_at p))) (sym e) ∙ ap not (sym h ∙ z)

-- what the laws say of all fields, and of one and those behind it
pub of_both : (b : Bool) (s t : Stand) (xs : List ModuleField)
    → ((u v : Stand) (ys : List ModuleField) → Spells (r.reads (outside r.core_fields)) u v (many_view field_group_view ys) → FieldsWord (fields_of ys) → makes (many_view field_group_view ys) (outside r.core_fields) ≡ a_leaf (core_source (module_with no_naming (fields_of ys))))
    → ((u v : Stand) (ys : List ModuleField) → Spells (r.reads (outside r.some_core_fields)) u v (many_view field_group_view ys) → FieldsWord (fields_of ys) → makes (many_view field_group_view ys) (outside r.some_core_fields) ≡ a_leaf (core_source (module_with no_naming (fields_of ys))))
    → Spells (r.reads (outside (fields_row b))) s t (many_view field_group_view xs) → FieldsWord (fields_of xs) → makes (many_view field_group_view xs) (outside (fields_row b)) ≡ a_leaf (core_source (module_with no_naming (fields_of xs)))
of_both true s t xs all some h w = some s t xs h w
of_both false s t xs all some h w = all s t xs h w
