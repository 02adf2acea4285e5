-- Whether two rules are one, as far as those in lists of entries go: where they are, with the proof.
use Rattle.std.proofs.Common.{◌≡◌, ℕ, Bool, true, false, ◌==◌, List, [], ◌∷◌, Option, None, Some, refl, sym, ◌∙◌, ap}
use Rattle.std.proofs.lemmas.Bool.{eqb-true}
use Rattle.comp_model.specs.declared.Space.{Space}
use Rattle.comp_model.specs.declared.Space.TheVariants as space
use Rattle.comp_model.specs.Core as core
use Rattle.comp_model.specs.declared.row.Row.{Row}
use Rattle.comp_model.specs.RowNumbers.{row_number, row_in, all_rows, row_in-number}
use Rattle.wast_grammar.specs.Classes as class
use Rattle.wast_grammar.specs.Classes.{Class}
use Rattle.wast_grammar.specs.Grammar as g
use Rattle.wast_grammar.specs.Grammar.{Test}
use Rattle.text_rules.specs.Rule as r
use Rattle.text_rules.specs.Rule.{Rule}

abbrev pub mapped : {A B : Type 0} {x y : A} (f : A → B) → Option (x ≡ y) → Option (f x ≡ f y)
mapped f (Some e) = Some (ap f e)
mapped f None = None

abbrev pub both_mapped : {A B C : Type 0} {x y : A} {u v : B} (f : A → B → C) → Option (x ≡ y) → Option (u ≡ v) → Option (f x u ≡ f y v)
both_mapped {y = y} {u = u} f (Some e) (Some h) = Some (ap (λ z. f z u) e ∙ ap (f y) h)
both_mapped f _ _ = None

abbrev pub nat_by : (a b : ℕ) (v : Bool) → (a == b) ≡ v → Option (a ≡ b)
nat_by a b true h = Some (eqb-true a b h)
nat_by a b false h = None

abbrev pub same_nat : (a b : ℕ) → Option (a ≡ b)
same_nat a b = nat_by a b (a == b) refl

abbrev pub same_list : (xs ys : List ℕ) → Option (xs ≡ ys)
same_list [] [] = Some refl
same_list (x ∷ xs) (y ∷ ys) = both_mapped (λ z zs. z ∷ zs) (same_nat x y) (same_list xs ys)
same_list _ _ = None

abbrev pub tag_by : (t u : Row) → Option (row_number t ≡ row_number u) → Option (t ≡ u)
tag_by t u (Some e) = Some (sym (row_in-number t) ∙ ap (row_in all_rows) e ∙ row_in-number u)
tag_by t u None = None

abbrev pub same_row : (t u : Row) → Option (t ≡ u)
same_row t u = tag_by t u (same_nat (row_number t) (row_number u))

abbrev pub same_bool : (a b : Bool) → Option (a ≡ b)
same_bool true true = Some refl
same_bool false false = Some refl
same_bool _ _ = None

abbrev pub same_class : (c d : Class) → Option (c ≡ d)
same_class class.finish class.finish = Some refl
same_class class.opening class.opening = Some refl
same_class class.closing class.closing = Some refl
same_class class.id class.id = Some refl
same_class (class.string a) (class.string b) = mapped class.string (same_bool a b)
same_class (class.integer a) (class.integer b) = mapped class.integer (same_bool a b)
same_class (class.keyword a) (class.keyword b) = mapped class.keyword (same_list a b)
same_class (class.annotation a) (class.annotation b) = mapped class.annotation (same_list a b)
same_class _ _ = None

abbrev pub same_classes : (cs ds : List Class) → Option (cs ≡ ds)
same_classes [] [] = Some refl
same_classes (c ∷ cs) (d ∷ ds) = both_mapped (λ x xs. x ∷ xs) (same_class c d) (same_classes cs ds)
same_classes _ _ = None

abbrev pub same_forms : (cs ds : List (List Class)) → Option (cs ≡ ds)
same_forms [] [] = Some refl
same_forms (c ∷ cs) (d ∷ ds) = both_mapped (λ x xs. x ∷ xs) (same_classes c d) (same_forms cs ds)
same_forms _ _ = None

abbrev pub same_test : (t u : Test) → Option (t ≡ u)
same_test (g.next cs) (g.next ds) = mapped g.next (same_classes cs ds)
same_test (g.next2 c cs) (g.next2 d ds) = both_mapped g.next2 (same_class c d) (same_classes cs ds)
same_test (g.other_than cs) (g.other_than ds) = mapped g.other_than (same_classes cs ds)
same_test (g.form cs) (g.form ds) = mapped g.form (same_forms cs ds)
same_test (g.or_else a b) (g.or_else c d) = both_mapped g.or_else (same_test a c) (same_test b d)
same_test (g.word_in ws) (g.word_in vs) = both_mapped (λ e b. g.word_in (record { ending = e; but = b })) (same_list ws.ending vs.ending) (same_classes ws.but vs.but)
same_test g.legacy g.legacy = Some refl
same_test _ _ = None

abbrev pub same_name : (n k : g.Row) → Option (n ≡ k)
same_name g.Val g.Val = Some refl
same_name g.CoreValue g.CoreValue = Some refl
same_name g.CoreTypeDefinition g.CoreTypeDefinition = Some refl
same_name g.NamelessSignature g.NamelessSignature = Some refl
same_name _ _ = None

abbrev pub same_space : (a b : Space) → Option (a ≡ b)
same_space space.CoreFunc space.CoreFunc = Some refl
same_space space.CoreTable space.CoreTable = Some refl
same_space space.CoreMemory space.CoreMemory = Some refl
same_space space.CoreGlobal space.CoreGlobal = Some refl
same_space space.CoreTag space.CoreTag = Some refl
same_space space.CoreType space.CoreType = Some refl
same_space space.CoreModule space.CoreModule = Some refl
same_space space.CoreInstance space.CoreInstance = Some refl
same_space space.Func space.Func = Some refl
same_space space.Value space.Value = Some refl
same_space space.Ty space.Ty = Some refl
same_space space.Component space.Component = Some refl
same_space space.Instance space.Instance = Some refl
same_space _ _ = None

abbrev pub same_reach : (a b : core.Reach) → Option (a ≡ b)
same_reach core.outward core.outward = Some refl
same_reach core.own core.own = Some refl
same_reach _ _ = None

abbrev pub same_keeps : (a b : r.Keeps) → Option (a ≡ b)
same_keeps r.a_text r.a_text = Some refl
same_keeps r.a_string r.a_string = Some refl
same_keeps r.a_count r.a_count = Some refl
same_keeps r.an_id r.an_id = Some refl
same_keeps r.a_case r.a_case = Some refl
same_keeps r.a_label r.a_label = Some refl
same_keeps r.an_export r.an_export = Some refl
same_keeps _ _ = None

abbrev pub same_adds : (a b : r.Adds) → Option (a ≡ b)
same_adds (r.a_row t) (r.a_row u) = mapped r.a_row (same_row t u)
same_adds (r.a_number t) (r.a_number u) = mapped r.a_number (same_nat t u)
same_adds r.no_part r.no_part = Some refl
same_adds r.no_case_id r.no_case_id = Some refl
same_adds r.no_id r.no_id = Some refl
same_adds r.no_label r.no_label = Some refl
same_adds _ _ = None

abbrev pub same_wraps : (a b : r.Wraps) → Option (a ≡ b)
same_wraps (r.inline u) (r.inline v) = mapped r.inline (same_space u v)
same_wraps (r.bundle u) (r.bundle v) = mapped r.bundle (same_space u v)
same_wraps r.a_node r.a_node = Some refl
same_wraps r.an_entry r.an_entry = Some refl
same_wraps r.a_list r.a_list = Some refl
same_wraps r.a_part r.a_part = Some refl
same_wraps r.a_def r.a_def = Some refl
same_wraps r.swapped r.swapped = Some refl
same_wraps r.last_first r.last_first = Some refl
same_wraps r.outer r.outer = Some refl
same_wraps r.dropped r.dropped = Some refl
same_wraps r.path r.path = Some refl
same_wraps r.results r.results = Some refl
same_wraps r.joined r.joined = Some refl
same_wraps _ _ = None

abbrev pub same_outside : (a b : r.Outside) → Option (a ≡ b)
same_outside r.an_extern_name r.an_extern_name = Some refl
same_outside r.a_plain_name r.a_plain_name = Some refl
same_outside _ _ = None

abbrev pub all_mapped : {A B C D : Type 0} {x y : A} {u v : B} {a b : C} (f : A → B → C → D) → Option (x ≡ y) → Option (u ≡ v) → Option (a ≡ b) → Option (f x u a ≡ f y v b)
all_mapped {y = y} {u = u} {v = v} {a = a} f (Some e) (Some h) (Some k) = Some (ap (λ z. f z u a) e ∙ ap (λ z. f y z a) h ∙ ap (f y v) k)
all_mapped f _ _ _ = None

abbrev pub of_four : {A B C D E : Type 0} {x y : A} {u v : B} {a b : C} {c d : D} (f : A → B → C → D → E) → Option (x ≡ y) → Option (u ≡ v) → Option (a ≡ b) → Option (c ≡ d) → Option (f x u a c ≡ f y v b d)
of_four {y = y} {u = u} {v = v} {a = a} {b = b} {c = c} f (Some e) (Some h) (Some k) (Some l) = Some (ap (λ z. f z u a c) e ∙ ap (λ z. f y z a c) h ∙ ap (λ z. f y v z c) k ∙ ap (f y v b) l)
of_four f _ _ _ _ = None

-- what one leaf of a rule is made of, by the first of two rules
abbrev pub same_rule : (a b : Rule) → Option (a ≡ b)
same_rule r.nothing r.nothing = Some refl
same_rule (r.before c a) (r.before d b) = both_mapped r.before (same_class c d) (same_rule a b)
same_rule (r.after a c) (r.after b d) = both_mapped r.after (same_rule a b) (same_class c d)
same_rule (r.placed u c) (r.placed v d) = both_mapped r.placed (same_bool u v) (same_class c d)
same_rule (r.keeps k) (r.keeps l) = mapped r.keeps (same_keeps k l)
same_rule (r.reference u c) (r.reference v d) = both_mapped r.reference (same_space u v) (same_reach c d)
same_rule (r.pair a c) (r.pair b d) = both_mapped r.pair (same_rule a b) (same_rule c d)
same_rule (r.either t a c) (r.either u b d) = all_mapped r.either (same_test t u) (same_rule a b) (same_rule c d)
same_rule (r.by_test t a c) (r.by_test u b d) = all_mapped r.by_test (same_test t u) (same_rule a b) (same_rule c d)
same_rule (r.many t a) (r.many u b) = both_mapped r.many (same_test t u) (same_rule a b)
same_rule (r.case n t a c) (r.case k u b d) = of_four r.case (same_nat n k) (same_test t u) (same_rule a b) (same_rule c d)
same_rule r.no_case r.no_case = Some refl
same_rule (r.row n) (r.row k) = mapped r.row (same_name n k)
same_rule (r.also a x) (r.also b y) = both_mapped r.also (same_rule a b) (same_adds x y)
same_rule (r.wraps w a) (r.wraps v b) = both_mapped r.wraps (same_wraps w v) (same_rule a b)
same_rule (r.outside o) (r.outside k) = mapped r.outside (same_outside o k)
same_rule _ _ = None
