-- A rule goes along items: what it spells of them and makes of that, found by computing, each find with its proof.
use Rattle.std.proofs.Common.{◌≡◌, ℕ, zero, suc, ◌<◌, Bool, true, false, List, [], ◌∷◌, ◌++◌, Option, None, Some, refl, sym, ◌∙◌, ap, subst, append_assoc, append-nil, nat_lt, arith, slice_index}
use Rattle.std.proofs.lemmas.Bool.Decides.{nat_tests}
use Rattle.comp_model.specs.declared.Space.{Space}
use Rattle.comp_model.specs.Core as core
use Rattle.comp_model.specs.Model as m
use Rattle.comp_model.specs.Model.{Leaf, row}
use Rattle.comp_model.specs.declared.row.Row.TheVariants as rows
use Rattle.comp_model.specs.declared.row.Row.{Row}
use Rattle.comp_model.specs.RowNumbers.{same_row}
use Rattle.wast_grammar.specs.Classes as class
use Rattle.wast_grammar.specs.Classes.{Class, same}
use Rattle.wast_grammar.specs.Grammar as g
use Rattle.wast_grammar.specs.Grammar.{Test, holds, number_in}
use Rattle.printed_text.proofs.Same.{same_rule}
use Rattle.wast_grammar.specs.TypeRows.{is_inline_export}
use Rattle.wast_grammar.specs.NameRows.{is_inline_import}
use Rattle.wast_grammar.specs.ValueRows.{is_group}
use Rattle.text_rules.specs.Made.{Made}
use Rattle.text_rules.specs.Rule as r
use Rattle.text_rules.specs.Rule.{Rule}
use Rattle.text_rules.specs.Makes.{adds, wrapped}
use Rattle.text_rules.specs.Table.{table, in_table}
use Rattle.print_table.specs.Tokens as printed
use Rattle.print_table.specs.Tokens.{PrintedToken}
use Rattle.printed_text.specs.ReadTokens.{class_of_printed, IsGood}
use Rattle.printed_text.proofs.Standing.{LeafStands, Bin, nil, bin_join, walked, a_leaf, of_row, none, MadeStands, entry_stands, node_wrapped, list_wrapped, part_wrapped, dropped_wrapped, scope_wrapped, def_wrapped, swapped_wrapped, last_first_wrapped, heap_wrapped, path_wrapped, joined_wrapped, outer_wrapped, outer_kept, results_wrapped, alone_wrapped}
use Rattle.printed_text.proofs.Prints.{Stands, Prints, PrintsCase, Any, Tells, weaker, p_nothing, p_before, p_after, p_pair, p_first, p_second, p_first_by, p_second_by, p_none, p_more, p_none_by, p_here, p_later, p_case, p_row, p_checked, p_also, p_wraps, p_placed, p_marks, p_text, p_bytes, p_count, p_reference, p_name, p_told, leaf_stands}
use Rattle.printed_text.proofs.Items as i
use Rattle.printed_text.proofs.Opened.{still, led_by, closed_by, looked_at}
use Rattle.printed_text.proofs.Items.{Item, token, flat, test_on, test_is}

-- the tokens behind begin as these items do
abbrev pub Follows : List Item → List PrintedToken → Type 0
Follows is ys = (zs : List PrintedToken) × (ys ≡ flat is ++ zs)

-- what a rule spells of the first of these items, and makes of it
pub record Found (q : Rule) (is : List Item) : Type 0 where
  pub front : List PrintedToken
  pub rest : List Item
  pub bin : Bin
  pub split : flat is ≡ front ++ flat rest
  pub prints : Prints q front bin (Follows rest)

pub record FoundCase (q : Rule) (is : List Item) : Type 0 where
  pub number : ℕ
  pub front : List PrintedToken
  pub rest : List Item
  pub bin : Bin
  pub split : flat is ≡ front ++ flat rest
  pub prints : PrintsCase number q front bin (Follows rest)

abbrev pub FindRest : Rule → Type 0
FindRest q = (js : List Item) → Option (Found q js)

-- ---- formers

abbrev pub f_nothing : (is : List Item) → Found r.nothing is
f_nothing is = record { front = []; rest = is; bin = nil; split = refl; prints = p_nothing }

abbrev pub before_by : (q : Rule) (x : PrintedToken) (c d : Class) (e : class_of_printed x ≡ d) (u : IsGood x) (is : List Item) (b : Bool) → same d c ≡ b → Option (Found q is) → Option (Found (r.before c q) (token x d e u ∷ is))
before_by q x c d e u is true h (Some f) = Some (record { front = x ∷ f.front; rest = f.rest; bin = walked (led_by x f.bin.walk) f.bin; split = ap (λ l. x ∷ l) f.split; prints = p_before x c u (ap (λ k. same k c) e ∙ h) f.prints })
before_by q x c d e u is true h None = None
before_by q x c d e u is false h o = None

abbrev pub f_before : (q : Rule) (c : Class) (is : List Item) → FindRest q → Option (Found (r.before c q) is)
f_before q c (token x d e u ∷ is) f = before_by q x c d e u is (same d c) refl (f is)
f_before q c is f = None

abbrev pub after_by : (q : Rule) (c : Class) (is : List Item) (f : Found q is) (x : PrintedToken) (d : Class) (e : class_of_printed x ≡ d) (u : IsGood x) (js : List Item) → f.rest ≡ token x d e u ∷ js → (b : Bool) → same d c ≡ b → Option (Found (r.after q c) is)
after_by q c is f x d e u js h true k = Some (record {
  front = f.front ++ x ∷ [];
  rest = js;
  bin = walked (closed_by x f.bin.walk) f.bin;
  split = f.split ∙ ap (λ l. f.front ++ flat l) h ∙ sym (append_assoc f.front (x ∷ []) (flat js));
  prints = p_after (Follows f.rest) x c u (ap (λ l. same l c) e ∙ k) (λ ys w. (w.0, ap (λ l. x ∷ l) w.1 ∙ ap (λ l. flat l ++ w.0) (sym h))) f.prints;
})
after_by q c is f x d e u js h false k = None

abbrev pub after_rest : (q : Rule) (c : Class) (is : List Item) (f : Found q is) (rest : List Item) → f.rest ≡ rest → Option (Found (r.after q c) is)
after_rest q c is f (token x d e u ∷ js) h = after_by q c is f x d e u js h (same d c) refl
after_rest q c is f js h = None

abbrev pub f_after : (q : Rule) (c : Class) (is : List Item) → Option (Found q is) → Option (Found (r.after q c) is)
f_after q c is (Some f) = after_rest q c is f f.rest refl
f_after q c is None = None

-- two behind each other
pub behind_both : (front : List PrintedToken) (rest js : List Item) → flat rest ≡ front ++ flat js → (ys : List PrintedToken) → Follows js ys → Follows rest (front ++ ys)
behind_both front rest js e ys w = (w.0, ap (λ l. front ++ l) w.1 ∙ sym (append_assoc front (flat js) w.0) ∙ ap (λ l. l ++ w.0) (sym e))

pub split_both : (all front more : List PrintedToken) (rest js : List Item) → all ≡ front ++ flat rest → flat rest ≡ more ++ flat js → all ≡ (front ++ more) ++ flat js
split_both all front more rest js e h = e ∙ ap (λ l. front ++ l) h ∙ sym (append_assoc front more (flat js))

abbrev pub pair_then : (a c : Rule) (is : List Item) (f : Found a is) → Option (Found c f.rest) → Option (Found (r.pair a c) is)
pair_then a c is f (Some e) = Some (record {
  front = f.front ++ e.front;
  rest = e.rest;
  bin = bin_join f.bin e.bin;
  split = split_both (flat is) f.front e.front f.rest e.rest f.split e.split;
  prints = p_pair (behind_both e.front f.rest e.rest e.split) f.prints e.prints;
})
pair_then a c is f None = None

abbrev pub f_pair : (a c : Rule) (is : List Item) → Option (Found a is) → FindRest c → Option (Found (r.pair a c) is)
f_pair a c is (Some f) k = pair_then a c is f (k f.rest)
f_pair a c is None k = None

abbrev pub f_either : (t : Test) (a c : Rule) (is : List Item) → Option (Found a is) → Option (Found c is) → Option (Found (r.either t a c) is)
f_either t a c is (Some f) o = Some (record { front = f.front; rest = f.rest; bin = f.bin; split = f.split; prints = p_first t f.prints })
f_either t a c is None (Some f) = Some (record { front = f.front; rest = f.rest; bin = f.bin; split = f.split; prints = p_second t f.prints })
f_either t a c is None None = None

-- a test of the items holds of the tokens
pub told : (t : Test) (is rest : List Item) (front : List PrintedToken) (v : Bool) → flat is ≡ front ++ flat rest → test_on t is ≡ Some v → Tells t front v (Follows rest)
told t is rest front v e h = λ s ys st w.
    test_is t s is w.0 v (subst (Stands s) (ap (λ l. front ++ l) w.1 ∙ sym (append_assoc front (flat rest) w.0) ∙ ap (λ l. l ++ w.0) (sym e)) st) h

abbrev pub f_by_test : (t : Test) (a c : Rule) (is : List Item) (o : Option Bool) → test_on t is ≡ o → Option (Found a is) → Option (Found c is) → Option (Found (r.by_test t a c) is)
f_by_test t a c is (Some true) h (Some f) k = Some (record { front = f.front; rest = f.rest; bin = f.bin; split = f.split; prints = p_first_by t (told t is f.rest f.front true f.split h) f.prints })
f_by_test t a c is (Some false) h k (Some f) = Some (record { front = f.front; rest = f.rest; bin = f.bin; split = f.split; prints = p_second_by t (told t is f.rest f.front false f.split h) f.prints })
f_by_test t a c is _ h k l = None

abbrev pub f_none_by : (t : Test) (a : Rule) (is : List Item) (o : Option Bool) → test_on t is ≡ o → Option (Found (r.many_by t a) is)
f_none_by t a is (Some false) h = Some (record { front = []; rest = is; bin = nil; split = refl; prints = p_none_by t (told t is is [] false refl h) })
f_none_by t a is _ h = None

abbrev pub f_none : (t : Test) (a : Rule) (is : List Item) → Found (r.many t a) is
f_none t a is = record { front = []; rest = is; bin = nil; split = refl; prints = p_none t }

abbrev pub more_then : (t : Test) (a : Rule) (is : List Item) (f : Found a is) → Option (Found (r.many t a) f.rest) → Option (Found (r.many t a) is)
more_then t a is f (Some e) = Some (record {
  front = f.front ++ e.front;
  rest = e.rest;
  bin = bin_join f.bin e.bin;
  split = split_both (flat is) f.front e.front f.rest e.rest f.split e.split;
  prints = p_more t (behind_both e.front f.rest e.rest e.split) f.prints e.prints;
})
more_then t a is f None = None

abbrev pub f_many : (t : Test) (a : Rule) (is : List Item) → Option (Found a is) → FindRest (r.many t a) → Option (Found (r.many t a) is)
f_many t a is (Some f) k = more_then t a is f (k f.rest)
f_many t a is None k = Some (f_none t a is)

-- ---- rows by their names

abbrev pub row_same : (n k : g.Row) → Option (n ≡ k)
row_same g.Val g.Val = Some refl
row_same g.ComponentItem g.ComponentItem = Some refl
row_same g.ComponentTypeItem g.ComponentTypeItem = Some refl
row_same g.InstanceTypeItem g.InstanceTypeItem = Some refl
row_same g.ModuleTypeItem g.ModuleTypeItem = Some refl
row_same g.CoreFunc g.CoreFunc = Some refl
row_same g.Canon g.Canon = Some refl
row_same g.CanonicalOption g.CanonicalOption = Some refl
row_same g.TypeDefinition g.TypeDefinition = Some refl
row_same g.Signature g.Signature = Some refl
row_same g.NamelessSignature g.NamelessSignature = Some refl
row_same g.CoreValue g.CoreValue = Some refl
row_same g.CoreTypeDefinition g.CoreTypeDefinition = Some refl
row_same _ _ = None

abbrev pub known_row : (n k : g.Row) (xs : List PrintedToken) (b : Bin) (p : Prints (r.row k) xs b Any) (is : List Item) → Option (k ≡ n) → Option (Found (r.row n) (i.of_row k xs b p ∷ is))
known_row n k xs b p is (Some e) = Some (record { front = xs; rest = is; bin = b; split = refl; prints = weaker Any (Follows is) (λ ys w. tt) (subst (λ j. Prints (r.row j) xs b Any) e p) })
known_row n k xs b p is None = None

abbrev pub row_by : (n : g.Row) (is : List Item) (b : Bool) → in_table n ≡ b → Option (Found (table n) is) → Option (Found (r.row n) is)
row_by n is true h (Some f) = Some (record { front = f.front; rest = f.rest; bin = f.bin; split = f.split; prints = p_row n h f.prints })
row_by n is true h None = None
row_by n is false h o = None

abbrev pub f_row : (n : g.Row) (is : List Item) → FindRest (table n) → Option (Found (r.row n) is)
f_row n (i.of_row k xs b p ∷ is) f = known_row n k xs b p is (row_same k n)
f_row n is f = row_by n is (in_table n) refl (f is)

abbrev pub known_rows : (t : Test) (n k : g.Row) (xs : List PrintedToken) (b : Bin) (p : (t : Test) → Prints (r.many t (r.row k)) xs b Any) (is : List Item) → Option (k ≡ n) → Option (Found (r.many t (r.row n)) (i.of_rows k xs b p ∷ is))
known_rows t n k xs b p is (Some e) = Some (record { front = xs; rest = is; bin = b; split = refl; prints = weaker Any (Follows is) (λ ys w. tt) (subst (λ j. Prints (r.many t (r.row j)) xs b Any) e (p t)) })
known_rows t n k xs b p is None = None

-- ---- cases

abbrev pub f_here : (n : ℕ) (t : Test) (a c : Rule) (is : List Item) → Found a is → FoundCase (r.case n t a c) is
f_here n t a c is f = record { number = n; front = f.front; rest = f.rest; bin = f.bin; split = f.split; prints = p_here n t f.prints }

pub lt_of : (a b : ℕ) → nat_lt a b ≡ true → a < b
lt_of a b h = grind (arith, nat_tests)

abbrev pub later_by : (n : ℕ) (t : Test) (a c : Rule) (is : List Item) (f : FoundCase c is) (b : Bool) → nat_lt n f.number ≡ b → Option (FoundCase (r.case n t a c) is)
later_by n t a c is f true h = Some (record { number = f.number; front = f.front; rest = f.rest; bin = f.bin; split = f.split; prints = p_later n f.number t (lt_of n f.number h) f.prints })
later_by n t a c is f false h = None

abbrev pub f_later : (n : ℕ) (t : Test) (a c : Rule) (is : List Item) → Option (FoundCase c is) → Option (FoundCase (r.case n t a c) is)
f_later n t a c is (Some f) = later_by n t a c is f (nat_lt n f.number) refl
f_later n t a c is None = None

abbrev pub f_cases : (n : ℕ) (t : Test) (a c : Rule) (is : List Item) → Option (Found a is) → Option (FoundCase c is) → Option (FoundCase (r.case n t a c) is)
f_cases n t a c is (Some f) o = Some (f_here n t a c is f)
f_cases n t a c is None o = f_later n t a c is o

abbrev pub f_case : (q : Rule) (is : List Item) → Option (FoundCase q is) → Option (Found q is)
f_case q is (Some f) = Some (record { front = f.front; rest = f.rest; bin = f.bin; split = f.split; prints = p_case f.number f.prints })
f_case q is None = None

-- ---- what is added, and what is made of parts

abbrev pub f_checked : (q : Rule) (is : List Item) → Option (Found q is) → Option (Found (r.checked q) is)
f_checked q is (Some f) = Some (record { front = f.front; rest = f.rest; bin = walked (looked_at f.bin.walk) f.bin; split = f.split; prints = p_checked f.prints })
f_checked q is None = None

abbrev pub f_marks : (q : Rule) (is : List Item) → Option (Found q is) → Option (Found (r.marks q) is)
f_marks q is (Some f) = Some (record { front = f.front; rest = f.rest; bin = bin_join nil f.bin; split = f.split; prints = p_marks f.prints })
f_marks q is None = None

pub record Added (x : r.Adds) : Type 0 where
  pub bin : Bin
  pub law : MadeStands (adds x) bin

abbrev pub added : (x : r.Adds) → Option (Added x)
added (r.a_row t) = Some (record { bin = of_row t; law = record { rows = refl; leaves = none; nodes = none; defs = none; ids = tt; count = refl; labels = tt; exports = refl } })
added (r.a_number n) = Some (record { bin = a_leaf (m.number n); law = leaf_stands (m.number n) (m.number n) (record { written = tt; numerals = tt; nameless = tt; same = λ e. refl }) })
added (r.a_kind s) = Some (record { bin = a_leaf (m.kind s); law = leaf_stands (m.kind s) (m.kind s) (record { written = tt; numerals = tt; nameless = tt; same = λ e. refl }) })
added r.no_part = Some (record { bin = a_leaf m.absent; law = leaf_stands m.absent m.absent (record { written = tt; numerals = tt; nameless = tt; same = λ e. refl }) })
added r.no_case_id = Some (record { bin = a_leaf (m.case_id None); law = leaf_stands (m.case_id None) (m.case_id None) (record { written = tt; numerals = tt; nameless = refl; same = λ e. refl }) })
added r.no_id = Some (record { bin = record { rows = []; leaves = []; nodes = []; defs = []; count = 1; walk = still }; law = record { rows = refl; leaves = none; nodes = none; defs = none; ids = (refl, tt); count = refl; labels = tt; exports = refl } })
added r.no_label = Some (record { bin = nil; law = record { rows = refl; leaves = none; nodes = none; defs = none; ids = tt; count = refl; labels = (refl, tt); exports = refl } })
added (r.a_core_value v) = added_value v
  where
    plain_value : (v : core.CoreValue) → LeafStands (m.core_value v) (m.core_value v) → Option (Added (r.a_core_value v))
    plain_value v h = Some (record { bin = a_leaf (m.core_value v); law = leaf_stands (m.core_value v) (m.core_value v) h })

    added_value : (v : core.CoreValue) → Option (Added (r.a_core_value v))
    added_value core.i32 = plain_value core.i32 (record { written = tt; numerals = tt; nameless = tt; same = λ e. refl })
    added_value core.i64 = plain_value core.i64 (record { written = tt; numerals = tt; nameless = tt; same = λ e. refl })
    added_value core.f32 = plain_value core.f32 (record { written = tt; numerals = tt; nameless = tt; same = λ e. refl })
    added_value core.f64 = plain_value core.f64 (record { written = tt; numerals = tt; nameless = tt; same = λ e. refl })
    added_value core.v128 = plain_value core.v128 (record { written = tt; numerals = tt; nameless = tt; same = λ e. refl })
    added_value (core.ref_func b) = plain_value (core.ref_func b) (record { written = tt; numerals = tt; nameless = tt; same = λ e. refl })
    added_value (core.ref_extern b) = plain_value (core.ref_extern b) (record { written = tt; numerals = tt; nameless = tt; same = λ e. refl })
    added_value _ = None

abbrev pub also_by : (q : Rule) (x : r.Adds) (is : List Item) → Found q is → Option (Added x) → Option (Found (r.also q x) is)
also_by q x is f (Some a) = Some (record { front = f.front; rest = f.rest; bin = walked f.bin.walk (bin_join f.bin a.bin); split = f.split; prints = p_also x a.bin a.law f.prints })
also_by q x is f None = None

abbrev pub f_also : (q : Rule) (x : r.Adds) (is : List Item) → Option (Found q is) → Option (Found (r.also q x) is)
f_also q x is (Some f) = also_by q x is f (added x)
f_also q x is None = None

pub record Wrapping (w : r.Wraps) (f : Bin) : Type 0 where
  pub bin : Bin
  pub law : (a : Made) → MadeStands a f → MadeStands (wrapped w a) bin

abbrev pub entry_of : (f : Bin) (ts : List Row) → f.rows ≡ ts → Option (Wrapping r.an_entry f)
entry_of f (t ∷ []) e = Some (record { bin = _; law = λ a h. entry_stands a t f h e })
entry_of f _ e = None

abbrev pub node_of : (f : Bin) (ts : List Row) → f.rows ≡ ts → Option (Wrapping r.a_node f)
node_of f (t ∷ []) e = Some (record { bin = _; law = λ a h. node_wrapped a t f h e })
node_of f _ e = None

abbrev pub def_by : (f : Bin) (t : Row) → f.rows ≡ t ∷ [] → (b : Bool) → same_row t rows.Producers ≡ b → Option (Wrapping r.a_def f)
def_by f t e false c = Some (record { bin = _; law = λ a h. def_wrapped a t f h e c })
def_by f t e true c = None

abbrev pub def_of : (f : Bin) (ts : List Row) → f.rows ≡ ts → Option (Wrapping r.a_def f)
def_of f (t ∷ []) e = def_by f t e (same_row t rows.Producers) refl
def_of f _ e = None

abbrev pub alone_by : (t u : Row) (f : Bin) → f.rows ≡ u ∷ [] → (b : Bool) → same_row u t ≡ b → Option (Wrapping (r.alone t) f)
alone_by t u f e false c = Some (record { bin = f; law = λ a h. alone_wrapped t u a f h e c })
alone_by t u f e true c = None

abbrev pub alone_of : (t : Row) (f : Bin) (ts : List Row) → f.rows ≡ ts → Option (Wrapping (r.alone t) f)
alone_of t f (u ∷ []) e = alone_by t u f e (same_row u t) refl
alone_of t f _ e = None

abbrev pub part_of : (f : Bin) (ls : List Leaf) → f.leaves ≡ ls → Option (Wrapping r.a_part f)
part_of f (y ∷ []) e = Some (record { bin = _; law = λ a h. part_wrapped a f y h e })
part_of f _ e = None

abbrev pub path_by : (f : Bin) (ls : List Leaf) → f.leaves ≡ ls → Option (Wrapping r.path f)
path_by f (y ∷ []) e = Some (record { bin = _; law = λ a h. path_wrapped a f y h e })
path_by f _ e = None

abbrev pub joined_by : (f : Bin) (ls : List Leaf) → f.leaves ≡ ls → Option (Wrapping r.joined f)
joined_by f (m.text t ∷ []) e = Some (record { bin = _; law = λ a h. joined_wrapped a f t h e })
joined_by f _ e = None

abbrev pub swapped_by : (f : Bin) (ls : List Leaf) → f.leaves ≡ ls → Option (Wrapping r.swapped f)
swapped_by f (x ∷ y ∷ z ∷ []) e = Some (record { bin = _; law = λ a h. swapped_wrapped a f x y z h e })
swapped_by f _ e = None

abbrev pub heap_by : (b : Bool) (f : Bin) (ls : List Leaf) → f.leaves ≡ ls → Option (Wrapping (r.heap b) f)
heap_by b f (m.ref u (m.index n) ∷ []) e = Some (record { bin = _; law = λ a h. heap_wrapped b a f u n h e })
heap_by b f _ e = None

abbrev pub outer_by : (f : Bin) (ls : List Leaf) → f.leaves ≡ ls → Option (Wrapping r.outer f)
outer_by f (m.ref u (m.index d) ∷ m.ref v (m.index n) ∷ m.kind k ∷ []) e = Some (record { bin = _; law = λ a h. outer_wrapped a f u v k d n h e })
outer_by f (m.ref u (m.index d) ∷ m.text t ∷ z ∷ []) e = Some (record { bin = _; law = λ a h. outer_kept a f u d t z h e })
outer_by f _ e = None

abbrev pub wrapping : (w : r.Wraps) (f : Bin) → Option (Wrapping w f)
wrapping r.an_entry f = entry_of f f.rows refl
wrapping r.a_node f = node_of f f.rows refl
wrapping r.a_list f = Some (record { bin = _; law = λ a h. list_wrapped a f h })
wrapping r.a_part f = part_of f f.leaves refl
wrapping r.a_def f = def_of f f.rows refl
wrapping (r.a_scope k) f = Some (record { bin = _; law = λ a h. scope_wrapped k a f h })
wrapping r.swapped f = swapped_by f f.leaves refl
wrapping r.last_first f = Some (record { bin = _; law = λ a h. last_first_wrapped a f h })
wrapping r.outer f = outer_by f f.leaves refl
wrapping r.dropped f = Some (record { bin = nil; law = λ a h. dropped_wrapped a })
wrapping r.path f = path_by f f.leaves refl
wrapping (r.heap b) f = heap_by b f f.leaves refl
wrapping r.results f = Some (record { bin = _; law = λ a h. results_wrapped a f h })
wrapping r.joined f = joined_by f f.leaves refl
wrapping (r.alone t) f = alone_of t f f.rows refl
wrapping _ f = None

abbrev pub wraps_by : (w : r.Wraps) (q : Rule) (is : List Item) (f : Found q is) → Option (Wrapping w f.bin) → Option (Found (r.wraps w q) is)
wraps_by w q is f (Some k) = Some (record { front = f.front; rest = f.rest; bin = walked f.bin.walk k.bin; split = f.split; prints = p_wraps w k.bin k.law f.prints })
wraps_by w q is f None = None

abbrev pub f_wraps : (w : r.Wraps) (q : Rule) (is : List Item) → Option (Found q is) → Option (Found (r.wraps w q) is)
f_wraps w q is (Some f) = wraps_by w q is f (wrapping w f.bin)
f_wraps w q is None = None

-- ---- one token

abbrev pub placed_by : (b : Bool) (c : Class) (x : PrintedToken) (d : Class) (e : class_of_printed x ≡ d) (u : IsGood x) (is : List Item) (v : Bool) → same d c ≡ v → Option (Found (r.placed b c) (token x d e u ∷ is))
placed_by b c x d e u is true h = Some (record { front = x ∷ []; rest = is; bin = walked (led_by x still) nil; split = refl; prints = p_placed b x c u (ap (λ k. same k c) e ∙ h) })
placed_by b c x d e u is false h = None

abbrev pub f_placed : (b : Bool) (c : Class) (is : List Item) → Option (Found (r.placed b c) is)
f_placed b c (token x d e u ∷ is) = placed_by b c x d e u is (same d c) refl
f_placed b c is = None

abbrev pub text_by : (bs : List ℕ) (d : Class) (e : class_of_printed (printed.string bs) ≡ d) (u : IsGood (printed.string bs)) (is : List Item) (v : Bool) → same d class.utf8 ≡ v → Option (Found (r.keeps r.a_text) (token (printed.string bs) d e u ∷ is))
text_by bs d e u is true h = Some (record { front = printed.string bs ∷ []; rest = is; bin = a_leaf (m.text bs); split = refl; prints = p_text bs u (ap (λ k. same k class.utf8) e ∙ h) })
text_by bs d e u is false h = None

abbrev pub bytes_by : (bs : List ℕ) (d : Class) (e : class_of_printed (printed.string bs) ≡ d) (u : IsGood (printed.string bs)) (is : List Item) (v : Bool) → same d class.binary ≡ v → Option (Found (r.keeps r.a_string) (token (printed.string bs) d e u ∷ is))
bytes_by bs d e u is true h = Some (record { front = printed.string bs ∷ []; rest = is; bin = a_leaf (m.text bs); split = refl; prints = p_bytes bs u (ap (λ k. same k class.binary) e ∙ h) })
bytes_by bs d e u is false h = None

abbrev pub f_keeps : (k : r.Keeps) (is : List Item) → Option (Found (r.keeps k) is)
f_keeps r.a_text (token (printed.string bs) d e u ∷ is) = text_by bs d e u is (same d class.utf8) refl
f_keeps r.a_string (token (printed.string bs) d e u ∷ is) = bytes_by bs d e u is (same d class.binary) refl
f_keeps r.a_count (token (printed.numeral n) d e u ∷ is) = Some (record { front = printed.numeral n ∷ []; rest = is; bin = a_leaf (m.number n); split = refl; prints = p_count n u })
f_keeps k is = None

abbrev pub f_reference : (u : Space) (c : core.Reach) (is : List Item) → Option (Found (r.reference u c) is)
f_reference w c (token (printed.numeral n) d e u ∷ is) = Some (record { front = printed.numeral n ∷ []; rest = is; bin = a_leaf (m.ref w (m.index n)); split = refl; prints = p_reference w c n u })
f_reference u c is = None

abbrev pub name_by : (bs : List ℕ) (d : Class) (e : class_of_printed (printed.string bs) ≡ d) (u : IsGood (printed.string bs)) (is : List Item) (v : Bool) → same d class.utf8 ≡ v
    → (x y z : Option Bool) → test_on (is_group "implements") is ≡ x → test_on (is_group "version-suffix") is ≡ y → test_on (is_group "external-id") is ≡ z → Option (Found (r.outside r.an_extern_name) (token (printed.string bs) d e u ∷ is))
name_by bs d e u is true h (Some false) (Some false) (Some false) f1 f2 f3 = Some (record {
  front = printed.string bs ∷ [];
  rest = is;
  bin = a_leaf (m.text bs);
  split = refl;
  prints = p_name bs u (ap (λ k. same k class.utf8) e ∙ h) (told (is_group "implements") is is [] false refl f1) (told (is_group "version-suffix") is is [] false refl f2) (told (is_group "external-id") is is [] false refl f3);
})
name_by bs d e u is _ h x y z f1 f2 f3 = None

abbrev pub f_outside : (o : r.Outside) (is : List Item) → Option (Found (r.outside o) is)
f_outside r.an_extern_name (token (printed.string bs) d e u ∷ is) = name_by bs d e u is (same d class.utf8) refl (test_on (is_group "implements") is) (test_on (is_group "version-suffix") is) (test_on (is_group "external-id") is) refl refl refl
f_outside o is = None

abbrev pub told_by : (ws : List (List ℕ × ℕ)) (ns : List ℕ) (x : PrintedToken) (d : Class) (e : class_of_printed x ≡ d) (u : IsGood x) (is : List Item) (o : Option ℕ) → number_in ws d ≡ o → Option (Found (r.told ws ns) (token x d e u ∷ is))
told_by ws ns x d e u is (Some k) h = Some (record { front = x ∷ []; rest = is; bin = walked (led_by x still) (a_leaf (m.number (slice_index ns k))); split = refl; prints = p_told ws ns x k u (ap (number_in ws) e ∙ h) })
told_by ws ns x d e u is None h = None

abbrev pub f_told : (ws : List (List ℕ × ℕ)) (ns : List ℕ) (is : List Item) → Option (Found (r.told ws ns) is)
f_told ws ns (token x d e u ∷ is) = told_by ws ns x d e u is (number_in ws d) refl
f_told ws ns is = None

abbrev pub known_rule : (q a : Rule) (xs : List PrintedToken) (b : Bin) (p : Prints a xs b Any) (is : List Item) → Option (a ≡ q) → Option (Found q (i.of_rule a xs b p ∷ is))
known_rule q a xs b p is (Some e) = Some (record { front = xs; rest = is; bin = b; split = refl; prints = weaker Any (Follows is) (λ ys w. tt) (subst (λ j. Prints j xs b Any) e p) })
known_rule q a xs b p is None = None

abbrev pub known_defs : (t : Test) (n : g.Row) (xs : List PrintedToken) (b : Bin) (p : (t : Test) → Prints (r.many t (r.row g.ComponentItem)) xs b Any) (h1 : Tells is_inline_export (xs ++ printed.closing ∷ []) false Any) (h2 : Tells is_inline_import (xs ++ printed.closing ∷ []) false Any) (is : List Item) → Option (g.ComponentItem ≡ n)
    → Option (Found (r.many t (r.row n)) (i.of_defs xs b p h1 h2 ∷ is))
known_defs t n xs b p h1 h2 is (Some e) = Some (record { front = xs; rest = is; bin = b; split = refl; prints = weaker Any (Follows is) (λ ys w. tt) (subst (λ j. Prints (r.many t (r.row j)) xs b Any) e (p t)) })
known_defs t n xs b p h1 h2 is None = None

abbrev pub f_known : (t : Test) (a : Rule) (is : List Item) → Option (Found (r.many t a) is)
f_known t (r.row n) (i.of_rows k xs b p ∷ is) = known_rows t n k xs b p is (row_same k n)
f_known t (r.row n) (i.of_defs xs b p h1 h2 ∷ is) = known_defs t n xs b p h1 h2 is (row_same g.ComponentItem n)
f_known t a (i.of_rule k xs b p ∷ is) = known_rule (r.many t a) k xs b p is (same_rule k (r.many t a))
f_known t a is = None

abbrev pub first_of : {q : Rule} {is : List Item} → Option (Found q is) → Option (Found q is) → Option (Found q is)
first_of (Some f) o = Some f
first_of None o = o

-- ---- the search

abbrev pub Search : Type 0
Search = (q : Rule) (is : List Item) → Option (Found q is)

abbrev mutual
  pub follow_with : Search → (q : Rule) (is : List Item) → Option (Found q is)
  follow_with again r.nothing is = Some (f_nothing is)
  follow_with again (r.before c q) is = f_before q c is (follow_with again q)
  follow_with again (r.after q c) is = f_after q c is (follow_with again q is)
  follow_with again (r.placed b c) is = f_placed b c is
  follow_with again (r.keeps k) is = f_keeps k is
  follow_with again (r.reference u c) is = f_reference u c is
  follow_with again (r.told ws ns) is = f_told ws ns is
  follow_with again (r.pair a c) is = f_pair a c is (follow_with again a is) (follow_with again c)
  follow_with again (r.either t a c) is = f_either t a c is (follow_with again a is) (follow_with again c is)
  follow_with again (r.by_test t a c) is = f_by_test t a c is (test_on t is) refl (follow_with again a is) (follow_with again c is)
  follow_with again (r.many t a) is = first_of (f_known t a is) (f_many t a is (follow_with again a is) (again (r.many t a)))
  follow_with again (r.many_by t a) is = f_none_by t a is (test_on t is) refl
  follow_with again (r.case n t a c) is = f_case (r.case n t a c) is (f_cases n t a c is (follow_with again a is) (cases_with again c is))
  follow_with again r.no_case is = None
  follow_with again (r.row n) is = f_row n is (again (table n))
  follow_with again (r.checked a) is = f_checked a is (follow_with again a is)
  follow_with again (r.also a x) is = f_also a x is (follow_with again a is)
  follow_with again (r.wraps w a) is = f_wraps w a is (follow_with again a is)
  follow_with again (r.outside o) is = f_outside o is
  follow_with again (r.marks a) is = f_marks a is (follow_with again a is)
  follow_with again (r.silent k) is = None
  follow_with again (r.skipping a) is = None

  pub cases_with : Search → (q : Rule) (is : List Item) → Option (FoundCase q is)
  cases_with again (r.case n t a c) is = f_cases n t a c is (follow_with again a is) (cases_with again c is)
  cases_with again _ is = None

abbrev pub follow : ℕ → Search
follow zero q is = None
follow (suc n) q is = follow_with (follow n) q is

-- ---- what was found, to the end of the items

abbrev pub bin_of : {q : Rule} {is : List Item} → Option (Found q is) → Bin
bin_of None = nil
bin_of (Some f) = f.bin

abbrev pub ends : List Item → Bool
ends [] = true
ends (x ∷ xs) = false

abbrev pub is_whole : {q : Rule} {is : List Item} → Option (Found q is) → Bool
is_whole None = false
is_whole (Some f) = ends f.rest

ended : (is : List Item) → ends is ≡ true → is ≡ []
ended [] h = refl
ended (x ∷ xs) h = absurd (cc)

whole : (q : Rule) (is : List Item) (f : Found q is) → f.rest ≡ [] → Prints q (flat is) f.bin Any
whole q is f e =
    let s : flat is ≡ f.front = f.split ∙ ap (λ r. f.front ++ flat r) e ∙ append-nil f.front in
    subst (λ xs. Prints q xs f.bin Any) (sym s) (weaker (Follows f.rest) Any (λ ys w. (ys, ap (λ r. flat r ++ ys) (sym e))) f.prints)

prints_of : (q : Rule) (is : List Item) (o : Option (Found q is)) → is_whole o ≡ true → Prints q (flat is) (bin_of o) Any
prints_of q is None h = absurd (cc)
prints_of q is (Some f) h = whole q is f (ended f.rest h)

-- a rule goes along all the items, with what it makes of them
abbrev pub Goes : Rule → List Item → Bin → Type 0
Goes q is b = Prints q (flat is) b Any

pub goes : (n : ℕ) (q : Rule) (is : List Item) → is_whole (follow n q is) ≡ true → Goes q is (bin_of (follow n q is))
goes n q is h = prints_of q is (follow n q is) h
