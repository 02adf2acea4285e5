-- The text of a component in binary form spells one component, whose form it is.
use Rattle.printed_text.proofs.GoodWords.{w_component}
use Rattle.std.proofs.Common.{◌≡◌, ℕ, suc, ◌+◌, Bool, true, false, List, [], ◌∷◌, ◌++◌, None, refl, sym, ◌∙◌, ap, subst, arith, slice_get, append-nil, ◌⊎◌, ⊎_elim}
use Rattle.std.specs.Prelude.{⊤}
use Rattle.std.specs.Str.{is_utf8}
use Rattle.comp_model.specs.Model as m
use Rattle.comp_model.specs.declared.row.ScopeKind.TheVariants as kinds
use Rattle.comp_model.specs.Model.{Leaf, Leaves, Node, row, Names, no_names, Def, define, Defs, Scope, scope_of, no_leaf, ◌▸◌}
use Rattle.comp_model.specs.declared.row.Row.TheVariants as rows
use Rattle.comp_model.specs.RowNumbers.{same_row}
use Rattle.comp_model.specs.Makers as make
use Rattle.comp_scopes.specs.Encoding.{Encoding}
use Rattle.comp_scopes.specs.Resolved.{binary_of_leaves}
use Rattle.wast_grammar.specs.Classes as class
use Rattle.wast_grammar.specs.Classes.{Class, class_of, class_by, among}
use Rattle.wast_grammar.specs.Tokens.{Tok, opened_by}
use Rattle.wast_grammar.specs.Stand.{Stand, class_at, moved, bytes_at}
use Rattle.wast_grammar.specs.Grammar as g
use Rattle.wast_grammar.specs.Read.{start_of, opened}
use Rattle.wast_grammar.specs.Spells as sp
use Rattle.text_rules.specs.Made.{Made}
use Rattle.text_rules.specs.Rule as r
use Rattle.text_rules.specs.Makes.{makes}
use Rattle.text_rules.specs.FieldRules.{wat_item}
use Rattle.text_rules.specs.Whole.{one_definition, IsComponent, IsBytes, IsOfComponent, IsOfModule, IsModule}
use Rattle.print_table.specs.Tokens as printed
use Rattle.print_table.specs.Tokens.{PrintedToken, spelled, quoted, text_of_tokens}
use Rattle.print_table.specs.TextOf.{definitions_tokens, component_tokens, unnamed, text_of}
use Rattle.printed_text.specs.ReadTokens.{kind_of, class_of_printed, toks_behind, toks, cut_text, IsGood, AreGood}
use Rattle.print_table.specs.Printable as sh
use Rattle.print_table.specs.Printable.{IsPrintable, DefsPrintable}
use Rattle.printed_text.specs.Source.{IsSource}
use Rattle.printed_text.specs.Spelled as spelling
use Rattle.printed_text.proofs.Digits.{decimal_numeral}
use Rattle.printed_text.proofs.Bytes.{quoted_stands}
use Rattle.printed_text.proofs.Lexical.{tokens_are_text}
use Rattle.printed_text.proofs.Sources.{source_rule, source_form}
use Rattle.printed_text.proofs.Weights.{source_weight, source_covered}
use Rattle.print_table.specs.Depths.{depths}
use Rattle.printed_text.proofs.Opened.{Walk, onto_none, defs_deep, defs_deep_is}
use Rattle.printed_text.proofs.Standing.{walked, walked_stands, Beside, none, one, MadeStands, DefStands, defined, LeavesStand}
use Rattle.printed_text.proofs.Prints.{Stands, past, Prints, Printed, Any, as_bin}
use Rattle.printed_text.proofs.Items.{of_rows, a_word, in_group}
use Rattle.printed_text.proofs.Follow.{goes}
use Rattle.printed_text.proofs.Lists.{defs_back, a_def, some_defs}
use Rattle.printed_text.proofs.DefsPrinted.{defs_print}

-- ---- the tokens of a text stand where it begins

abbrev SignsAre : List Tok → List PrintedToken → Type 0
SignsAre [] [] = ⊤
SignsAre (t ∷ ts) [] = ⊥
SignsAre [] (x ∷ xs) = ⊥
SignsAre (t ∷ ts) (x ∷ xs) = (t.kind ≡ kind_of x) × (t.spelled ≡ spelled x) × SignsAre ts xs

behind_are : (x : PrintedToken) (ys : List PrintedToken) (o : ℕ) → SignsAre (toks_behind o x ys) ys
behind_are x [] o = tt
behind_are x (y ∷ ys) o = (refl, refl, behind_are y ys _)

toks_are : (xs : List PrintedToken) → SignsAre (toks xs) xs
toks_are [] = tt
toks_are (x ∷ xs) = (refl, refl, behind_are x xs _)

class_is : (x : PrintedToken) → IsGood x → class_by (kind_of x) (spelled x) ≡ class_of_printed x
class_is printed.opening h = refl
class_is printed.closing h = refl
class_is (printed.note x) h = refl
class_is (printed.word x) h = refl
class_is (printed.numeral n) h = ap class.integer (decimal_numeral n h).numeral
class_is (printed.string bs) h = ap (λ b. class.string (is_utf8 b)) (quoted_stands bs h)

class_of_tok : (t : Tok) (x : PrintedToken) → t.kind ≡ kind_of x → t.spelled ≡ spelled x → IsGood x → class_by t.kind t.spelled ≡ class_of_printed x
class_of_tok t x e h u = ap (λ k. class_by k t.spelled) e ∙ ap (class_by (kind_of x)) h ∙ class_is x u

-- from where it stands on, the text has these tokens
abbrev From : Stand → List Tok → Type 0
From s ts = (j : ℕ) → slice_get s.text.tokens (s.at + j) ≡ slice_get ts j

here : (s : Stand) (ts : List Tok) → From s ts → slice_get s.text.tokens s.at ≡ slice_get ts 0
here s ts f = let z : s.at ≡ s.at + 0 = omega arith in ap (slice_get s.text.tokens) z ∙ f 0

further : (s : Stand) (t : Tok) (ts : List Tok) → From s (t ∷ ts) → From (moved s 1) ts
further s t ts f = λ j. let z : s.at + 1 + j ≡ s.at + suc j = omega arith in ap (slice_get s.text.tokens) z ∙ f (suc j)

stands_from : (s : Stand) (ts : List Tok) (xs : List PrintedToken) → From s ts → SignsAre ts xs → AreGood xs → s.text.legacy ≡ false → Stands s xs
stands_from s [] [] f a u l = tt
stands_from s (t ∷ ts) [] f a u l = absurd a
stands_from s [] (x ∷ xs) f a u l = absurd a
stands_from s (t ∷ ts) (x ∷ xs) f a u l =
    let h = here s (t ∷ ts) f in (
      record { class = ap class_of h ∙ class_of_tok t x a.0 a.1 u.0; bytes = ap Rattle.wast_grammar.specs.Stand.bytes_of h ∙ a.1; good = u.0; older = l; opens = λ n. ap (λ o. opened o n) h ∙ ap (λ k. opened_by k n) a.0 },
      stands_from (moved s 1) ts xs (further s t ts f) a.2 u.1 l,
    )

ends_from : (s : Stand) (ts : List Tok) (xs : List PrintedToken) → From s ts → SignsAre ts xs → class_at (past s xs) ≡ class.finish
ends_from s [] [] f a = ap class_of (here s [] f)
ends_from s (t ∷ ts) [] f a = absurd a
ends_from s [] (x ∷ xs) f a = absurd a
ends_from s (t ∷ ts) (x ∷ xs) f a = ends_from (moved s 1) ts xs (further s t ts f) a.2

from_start : (xs : List PrintedToken) → From (start_of (cut_text xs)) (toks xs)
from_start xs = λ j. let z : 0 + j ≡ j = omega arith in ap (slice_get (toks xs)) z

-- ---- a whole component

-- the outermost component itself is no checked item
abbrev whole_walk : Defs → Walk
whole_walk ds = record { level = λ d. d; deep = λ d. defs_deep ds (suc d) }

wat_print : (ds : Defs) → DefsPrintable kinds.Component ds → Prints wat_item (component_tokens (scope_of kinds.Component None None ds)) (walked (whole_walk ds) (a_def (make.component (scope_of kinds.Component None None ds)))) Any
wat_print ds h =
    as_bin (ap (λ q. walked (whole_walk ds) (a_def (make.component (scope_of kinds.Component None None q)))) (defs_back ds))
    (goes 12 wat_item (in_group (a_word "component" w_component ∷ of_rows g.ComponentItem (definitions_tokens kinds.Component ds) (some_defs ds) (defs_print kinds.Component ds h) ∷ [])) refl)

-- ---- the one definition that it is

abbrev first_scope : Leaves → Scope
first_scope (m.scope s ▸ ls) = s
first_scope _ = scope_of kinds.Component None None m.no_def

abbrev begins_with_scope : Leaves → Bool
begins_with_scope (m.scope s ▸ ls) = true
begins_with_scope _ = false

abbrev leaves_in : Node → Leaves
leaves_in (row t ls) = ls

abbrev is_component_row : Node → Bool
is_component_row (row t ls) = same_row t rows.Component

source_of : (c b : Scope) → LeavesStand (m.scope c ▸ no_leaf) (m.scope b ▸ no_leaf) → IsSource c b
source_of (scope_of k id label ds) b l = record { numerals = (l.numerals).0; nameless = (l.nameless).0; same = λ e. ap first_scope (l.same e) }

-- a definition of a component of the text
record IsOne (a : Made) (b : Scope) : Type 0 where
  names : Names
  source : Scope
  made : a ≡ one_definition (define names (row rows.Component (m.scope source ▸ no_leaf)))
  component : IsComponent (define names (row rows.Component (m.scope source ▸ no_leaf)))
  numerals : IsSource source b

no_encoding : Encoding
no_encoding = record { core_bytes = λ c. []; core_refusal = λ c. None }

of_component : (a : Made) (b : Scope) (d : Def) → DefStands d (define no_names (row rows.Component (m.scope b ▸ no_leaf))) → IsComponent d → a ≡ one_definition d → IsOne a b
of_component a b (define ns (row t xs)) (defined u z l) k e =
    let h : xs ≡ m.scope k.0 ▸ no_leaf = ap leaves_in k.1 in
    record {
      names = ns;
      source = k.0;
      made = e ∙ ap (λ q. one_definition (define ns (row rows.Component q))) h;
      component = subst (λ q. IsComponent (define ns (row rows.Component q))) h k;
      numerals = source_of k.0 b (subst (λ q. LeavesStand q (m.scope b ▸ no_leaf)) h l);
    }

no_bytes : (b : Scope) (d : Def) → DefStands d (define no_names (row rows.Component (m.scope b ▸ no_leaf))) → IsBytes rows.Component d → ⊥
unfolding no_encoding
no_bytes b (define ns (row t xs)) (defined u z l) k =
    let h : xs ≡ m.text k.0 ▸ no_leaf = ap leaves_in k.1 in
    let e : false ≡ true = ap begins_with_scope (sym (ap (binary_of_leaves no_encoding) h) ∙ l.same no_encoding) in absurd (cc)

no_module : (b : Scope) (d : Def) → DefStands d (define no_names (row rows.Component (m.scope b ▸ no_leaf))) → (IsModule d ⊎ IsBytes rows.CoreModule d) → ⊥
no_module b (define ns (row t xs)) (defined u z l) k = ⊎_elim (λ n. absurd (let e : true ≡ false = ap is_component_row n.1 in cc)) (λ n. absurd (let e : true ≡ false = ap is_component_row n.1 in cc)) k

one_of : (a : Made) (b : Scope) (d : Def) → MadeStands a (a_def (make.component b)) → a ≡ one_definition d → DefStands d (define no_names (row rows.Component (m.scope b ▸ no_leaf)))
one_of a b d h e = alone d (subst (λ x. Beside DefStands x.defs (define no_names (row rows.Component (m.scope b ▸ no_leaf)) ∷ [])) e h.defs)
  where
    alone : (d : Def) → Beside DefStands (d ∷ []) (define no_names (row rows.Component (m.scope b ▸ no_leaf)) ∷ []) → DefStands d (define no_names (row rows.Component (m.scope b ▸ no_leaf)))
    alone d (one k none) = k

is_one : (a : Made) (b : Scope) → MadeStands a (a_def (make.component b)) → (IsOfComponent a ⊎ IsOfModule a) → IsOne a b
is_one a b h w =
    ⊎_elim
    (λ c. let d = one_of a b c.0 h c.1 in ⊎_elim (λ k. of_component a b c.0 d k c.1) (λ k. absurd (no_bytes b c.0 d k)) c.2)
    (λ c. absurd (no_module b c.0 (one_of a b c.0 h c.1) c.2))
    w

-- ---- the theorem

finish_ends : (c : Class) → c ≡ class.finish → among g.text_ends c ≡ true
finish_ends c e = ap (among g.text_ends) e

-- whatever a text spells is of a component or of a core module
abbrev pub TextIsWhole : Type 0
TextIsWhole = (s t : Stand) (v : g.Value) → sp.Spells (r.reads wat_item) s t v → IsOfComponent (makes v wat_item) ⊎ IsOfModule (makes v wat_item)

tokens_print : TextIsWhole → (ds : Defs) (h : DefsPrintable kinds.Component ds) → spelling.Prints (text_of_tokens (component_tokens (scope_of kinds.Component None None ds))) (scope_of kinds.Component None None ds)
tokens_print whole ds h =
    let u : AreGood (component_tokens (scope_of kinds.Component None None ds)) = (wat_print ds h).good in
    let b : Scope = scope_of kinds.Component None None ds in
    let xs : List PrintedToken = component_tokens b in
    let s : Stand = start_of (cut_text xs) in
    let st : Stands s (xs ++ []) = subst (Stands s) (sym (append-nil xs)) (stands_from s (toks xs) xs (from_start xs) (toks_are xs) u refl) in
    let d : Printed wat_item s (past s xs) (walked (whole_walk ds) (a_def (make.component b))) = (wat_print ds h).at s [] st tt in
    let o : IsOne (makes d.value wat_item) b = is_one (makes d.value wat_item) b (walked_stands (a_def (make.component b)).walk (makes d.value wat_item) _ d.made) (whole s (past s xs) d.value d.spelled.spells) in
    record {
      tokens = cut_text xs;
      cut = tokens_are_text xs u;
      end = past s xs;
      value = d.value;
      front = (sp.ended d.spelled.spells, finish_ends (class_at (past s xs)) (ends_from s (toks xs) xs (from_start xs) (toks_are xs)));
      names = o.names;
      source = o.source;
      made = o.made;
      component = o.component;
      numerals = o.numerals;
      depths = sym (onto_none (sp.checks d.spelled.spells)) ∙ d.spelled.depths [] ∙ defs_deep_is ds 1 [] ∙ append-nil (depths 1 ds);
      rule = λ e. source_rule e o.source b o.numerals;
      formed = λ e. source_form e o.source b o.numerals;
      weighs = λ f k. source_weight f k o.source b o.numerals;
      covered = λ f k z. source_covered f k o.source b o.numerals z;
    }

-- the text of a component that has one spells a component whose form it is, but for custom sections of names
pub text_prints : TextIsWhole → (b : Scope) → IsPrintable (unnamed b) → spelling.Prints (text_of b) (unnamed b)
text_prints whole b h = by_shown (unnamed b) h
  where
    by_shown : (c : Scope) → IsPrintable c → spelling.Prints (text_of_tokens (component_tokens c)) c
    by_shown c (sh.of_definitions {ds} h) = tokens_print whole ds h
