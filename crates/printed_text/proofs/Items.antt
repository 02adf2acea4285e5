-- Tokens that are known, and runs of tokens of which it is known what spells them; tests of what stands next.
use Rattle.std.proofs.Common.{◌≡◌, ℕ, ◌+◌, Bool, true, false, cond, ◌&&◌, ◌||◌, List, [], ◌∷◌, ◌++◌, Option, None, Some, refl, sym, ◌∙◌, ap, subst, append_assoc, codes}
use Prim.Native.String.{String}
use Rattle.wast_grammar.specs.Classes as class
use Rattle.wast_grammar.specs.Classes.{Class, class_of, same, among}
use Rattle.wast_grammar.specs.Stand.{Stand, class_at, class_after, moved}
use Rattle.wast_grammar.specs.Grammar as g
use Rattle.wast_grammar.specs.Grammar.{Test, holds, fits}
use Rattle.text_rules.specs.Rule as r
use Rattle.print_table.specs.Tokens as printed
use Rattle.print_table.specs.Tokens.{PrintedToken}
use Rattle.printed_text.specs.ReadTokens.{class_of_printed, IsGood}
use Rattle.print_table.specs.Printable.{IsText}
use Rattle.printed_text.proofs.Standing.{Bin}
use Rattle.printed_text.proofs.Prints.{Stands, Prints, Any, Tells}
use Rattle.printed_text.proofs.Same.{same_test}
use Rattle.wast_grammar.specs.TypeRows.{is_inline_export}
use Rattle.wast_grammar.specs.NameRows.{is_inline_import}

pub data Item : Type 0 where
  token : (x : PrintedToken) (c : Class) → class_of_printed x ≡ c → IsGood x → Item
  -- what a row spells, and what any number of it spells
  of_row : (n : g.Row) (xs : List PrintedToken) (b : Bin) → Prints (r.row n) xs b Any → Item
  of_rows : (n : g.Row) (xs : List PrintedToken) (b : Bin) → ((t : Test) → Prints (r.many t (r.row n)) xs b Any) → Item
  -- the definitions of a component, behind which stands its `)`: no inline export and no inline import begins there
  of_defs : (xs : List PrintedToken) (b : Bin) → ((t : Test) → Prints (r.many t (r.row g.ComponentItem)) xs b Any) → Tells is_inline_export (xs ++ printed.closing ∷ []) false Any → Tells is_inline_import (xs ++ printed.closing ∷ []) false Any → Item
  -- what a rule spells
  of_rule : (q : r.Rule) (xs : List PrintedToken) (b : Bin) → Prints q xs b Any → Item

abbrev pub tokens : Item → List PrintedToken
tokens (token x c e u) = x ∷ []
tokens (of_row n xs b p) = xs
tokens (of_rows n xs b p) = xs
tokens (of_rule q xs b p) = xs
tokens (of_defs xs b p h1 h2) = xs

abbrev pub flat : List Item → List PrintedToken
flat [] = []
flat (i ∷ is) = tokens i ++ flat is

abbrev pub open_token : Item
open_token = token printed.opening class.opening refl tt

abbrev pub close_token : Item
close_token = token printed.closing class.closing refl tt

abbrev pub a_word : (x : String) → IsGood (printed.word (codes x)) → Item
a_word x u = token (printed.word (codes x)) (class.keyword (codes x)) refl u

abbrev pub a_number : (n : ℕ) → IsGood (printed.numeral n) → Item
a_number n u = token (printed.numeral n) class.numeral refl u

abbrev pub a_string : (bs : List ℕ) → IsText bs → Item
a_string bs h = token (printed.string bs) class.utf8 (ap class.string h.utf8) h.bytes

abbrev pub in_group : List Item → List Item
in_group is = open_token ∷ (is ++ close_token ∷ [])

-- ---- what stands next

abbrev pub item_class : Item → Option Class
item_class (token x c e u) = Some c
item_class (of_row n xs b p) = None
item_class (of_rows n xs b p) = None
item_class (of_rule q xs b p) = None
item_class (of_defs xs b p h1 h2) = None

abbrev pub first_class : List Item → Option Class
first_class [] = None
first_class (i ∷ is) = item_class i

abbrev pub second_class : List Item → Option Class
second_class (token x c e u ∷ is) = first_class is
second_class _ = None

some_same : {A : Type 0} (x y : A) → Some x ≡ Some y → x ≡ y
some_same x y e = ap (λ o. elim o [ Some z ↦ z | None ↦ x ]) e

pub first_class_is : (s : Stand) (is : List Item) (zs : List PrintedToken) (c : Class) → Stands s (flat is ++ zs) → first_class is ≡ Some c → class_at s ≡ c
first_class_is s [] zs c st e = absurd (cc)
first_class_is s (token x d h u ∷ is) zs c st e = (st.0).class ∙ h ∙ some_same d c e
first_class_is s (of_row n xs b p ∷ is) zs c st e = absurd (cc)
first_class_is s (of_rows n xs b p ∷ is) zs c st e = absurd (cc)
first_class_is s (of_rule q xs b p ∷ is) zs c st e = absurd (cc)
first_class_is s (of_defs xs b p h1 h2 ∷ is) zs c st e = absurd (cc)

pub second_class_is : (s : Stand) (is : List Item) (zs : List PrintedToken) (c : Class) → Stands s (flat is ++ zs) → second_class is ≡ Some c → class_after s ≡ c
second_class_is s [] zs c st e = absurd (cc)
second_class_is s (token x d h u ∷ is) zs c st e = first_class_is (moved s 1) is zs c st.1 e
second_class_is s (of_row n xs b p ∷ is) zs c st e = absurd (cc)
second_class_is s (of_rows n xs b p ∷ is) zs c st e = absurd (cc)
second_class_is s (of_rule q xs b p ∷ is) zs c st e = absurd (cc)
second_class_is s (of_defs xs b p h1 h2 ∷ is) zs c st e = absurd (cc)

-- the classes of the next tokens, as far as they are known
abbrev pub fits_on : List (List Class) → List Item → Option Bool
fits_on [] is = Some true
fits_on (cs ∷ ps) [] = None
fits_on (cs ∷ ps) (token x c e u ∷ is) = cond (among cs c) (fits_on ps is) (Some false)
fits_on (cs ∷ ps) (of_row n xs b p ∷ is) = None
fits_on (cs ∷ ps) (of_rows n xs b p ∷ is) = None
fits_on (cs ∷ ps) (of_rule q xs b p ∷ is) = None
fits_on (cs ∷ ps) (of_defs xs b p h1 h2 ∷ is) = None

fits_by : (b : Bool) (later : Bool) (o : Option Bool) (v : Bool) → cond b o (Some false) ≡ Some v → (o ≡ Some v → later ≡ v) → (b && later) ≡ v
fits_by true later o v e f = f e
fits_by false later o v e f = some_same false v e

pub fits_is : (ps : List (List Class)) (s : Stand) (is : List Item) (zs : List PrintedToken) (v : Bool) → Stands s (flat is ++ zs) → fits_on ps is ≡ Some v → fits ps s.text.tokens s.at ≡ v
fits_is [] s is zs v st e = some_same true v e
fits_is (cs ∷ ps) s [] zs v st e = absurd (cc)
fits_is (cs ∷ ps) s (token x c h u ∷ is) zs v st e =
    ap (λ k. among cs k && fits ps s.text.tokens (s.at + 1)) ((st.0).class ∙ h)
    ∙ fits_by (among cs c) (fits ps s.text.tokens (s.at + 1)) (fits_on ps is) v e (λ k. fits_is ps (moved s 1) is zs v st.1 k)
fits_is (cs ∷ ps) s (of_row n xs b p ∷ is) zs v st e = absurd (cc)
fits_is (cs ∷ ps) s (of_rows n xs b p ∷ is) zs v st e = absurd (cc)
fits_is (cs ∷ ps) s (of_rule q xs b p ∷ is) zs v st e = absurd (cc)
fits_is (cs ∷ ps) s (of_defs xs b p h1 h2 ∷ is) zs v st e = absurd (cc)

abbrev pub by_class : (Class → Bool) → Option Class → Option Bool
by_class f None = None
by_class f (Some c) = Some (f c)

abbrev pub either_of : Option Bool → Option Bool → Option Bool
either_of (Some a) (Some b) = Some (a || b)
either_of _ _ = None

-- two classes, one behind the other
abbrev pub two_on : Class → List Class → Option Class → Option Class → Option Bool
two_on c cs None p = None
two_on c cs (Some d) p = cond (same d c) (by_class (among cs) p) (Some false)

-- references aren't read in their older forms
abbrev pub older_on : List Item → Option Bool
older_on (token x c e u ∷ is) = Some false
older_on _ = None

-- no inline export and no inline import
abbrev pub none_of : {A B : Type 0} → Option A → Option B → Option Bool
none_of (Some e) o = Some false
none_of None (Some e) = Some false
none_of None None = None

abbrev pub inline_on : Test → List Item → Option Bool
inline_on t (of_defs xs b p h1 h2 ∷ (token printed.closing c e u ∷ is)) = none_of (same_test t is_inline_export) (same_test t is_inline_import)
inline_on t _ = None

abbrev pub else_of : Option Bool → Option Bool → Option Bool
else_of (Some b) o = Some b
else_of None o = o

abbrev pub test_on : Test → List Item → Option Bool
test_on (g.next cs) is = by_class (among cs) (first_class is)
test_on (g.next2 c cs) is = two_on c cs (first_class is) (second_class is)
test_on (g.form ps) is = fits_on ps is
test_on (g.or_else p q) is = else_of (inline_on (g.or_else p q) is) (either_of (test_on p is) (test_on q is))
test_on g.legacy is = older_on is
test_on _ is = None

by_class_is : (f : Class → Bool) (o : Option Class) (c : Class) (v : Bool) → by_class f o ≡ Some v → ((d : Class) → o ≡ Some d → c ≡ d) → f c ≡ v
by_class_is f None c v e h = absurd (cc)
by_class_is f (Some d) c v e h = ap f (h d refl) ∙ some_same (f d) v e

either_is : (o p : Option Bool) (a b v : Bool) → either_of o p ≡ Some v → ((x : Bool) → o ≡ Some x → a ≡ x) → ((x : Bool) → p ≡ Some x → b ≡ x) → (a || b) ≡ v
either_is (Some x) (Some y) a b v e h k = ap (λ z. z || b) (h x refl) ∙ ap (λ z. x || z) (k y refl) ∙ some_same (x || y) v e
either_is (Some x) None a b v e h k = absurd (cc)
either_is None p a b v e h k = absurd (cc)

two_by : (b : Bool) (later : Bool) (o : Option Bool) (v : Bool) → cond b o (Some false) ≡ Some v → (o ≡ Some v → later ≡ v) → (b && later) ≡ v
two_by true later o v e f = f e
two_by false later o v e f = some_same false v e

two_is : (c : Class) (cs : List Class) (o p : Option Class) (x y : Class) (v : Bool) → two_on c cs o p ≡ Some v → ((d : Class) → o ≡ Some d → x ≡ d) → ((d : Class) → p ≡ Some d → y ≡ d) → (same x c && among cs y) ≡ v
two_is c cs None p x y v e h k = absurd (cc)
two_is c cs (Some d) p x y v e h k = ap (λ z. same z c && among cs y) (h d refl) ∙ two_by (same d c) (among cs y) (by_class (among cs) p) v e (λ w. by_class_is (among cs) p y v w k)

older_is : (s : Stand) (is : List Item) (zs : List PrintedToken) (v : Bool) → Stands s (flat is ++ zs) → older_on is ≡ Some v → s.text.legacy ≡ v
older_is s [] zs v st e = absurd (cc)
older_is s (token x c h u ∷ is) zs v st e = (st.0).older ∙ some_same false v e
older_is s (of_row n xs b p ∷ is) zs v st e = absurd (cc)
older_is s (of_rows n xs b p ∷ is) zs v st e = absurd (cc)
older_is s (of_rule q xs b p ∷ is) zs v st e = absurd (cc)
older_is s (of_defs xs b p h1 h2 ∷ is) zs v st e = absurd (cc)

inline_by : (t : Test) (s : Stand) (o : Option (t ≡ is_inline_export)) (u : Option (t ≡ is_inline_import)) (v : Bool) → holds is_inline_export s ≡ false → holds is_inline_import s ≡ false → none_of o u ≡ Some v → holds t s ≡ v
inline_by t s (Some e) u v f1 f2 h = ap (λ k. holds k s) e ∙ f1 ∙ some_same false v h
inline_by t s None (Some e) v f1 f2 h = ap (λ k. holds k s) e ∙ f2 ∙ some_same false v h
inline_by t s None None v f1 f2 h = absurd (cc)

inline_is : (t : Test) (s : Stand) (is : List Item) (zs : List PrintedToken) (v : Bool) → Stands s (flat is ++ zs) → inline_on t is ≡ Some v → holds t s ≡ v
inline_is t s [] zs v st e = absurd (cc)
inline_is t s (token x c h u ∷ is) zs v st e = absurd (cc)
inline_is t s (of_row n xs b p ∷ is) zs v st e = absurd (cc)
inline_is t s (of_rows n xs b p ∷ is) zs v st e = absurd (cc)
inline_is t s (of_rule q xs b p ∷ is) zs v st e = absurd (cc)
inline_is t s (of_defs xs b p h1 h2 ∷ (token printed.closing c k u ∷ is)) zs v st e =
    let w : Stands s ((xs ++ printed.closing ∷ []) ++ (flat is ++ zs)) = subst (Stands s) (append_assoc xs (printed.closing ∷ flat is) zs ∙ sym (append_assoc xs (printed.closing ∷ []) (flat is ++ zs))) st in
    inline_by t s (same_test t is_inline_export) (same_test t is_inline_import) v (h1 s (flat is ++ zs) w tt) (h2 s (flat is ++ zs) w tt) e
inline_is t s (of_defs xs b p h1 h2 ∷ is) zs v st e = absurd (cc)

else_is : (o u : Option Bool) (a : Bool) (v : Bool) → else_of o u ≡ Some v → ((x : Bool) → o ≡ Some x → a ≡ x) → ((x : Bool) → u ≡ Some x → a ≡ x) → a ≡ v
else_is (Some b) u a v e h k = h b refl ∙ some_same b v e
else_is None u a v e h k = k v e

pub test_is : (t : Test) (s : Stand) (is : List Item) (zs : List PrintedToken) (v : Bool) → Stands s (flat is ++ zs) → test_on t is ≡ Some v → holds t s ≡ v
test_is (g.next cs) s is zs v st e = by_class_is (among cs) (first_class is) (class_at s) v e (λ d k. first_class_is s is zs d st k)
test_is (g.form ps) s is zs v st e = fits_is ps s is zs v st e
test_is (g.or_else p q) s is zs v st e = else_is (inline_on (g.or_else p q) is) (either_of (test_on p is) (test_on q is)) (holds (g.or_else p q) s) v e (λ w k. inline_is (g.or_else p q) s is zs w st k) (λ w h. either_is (test_on p is) (test_on q is) (holds p s) (holds q s) w h (λ x k. test_is p s is zs x st k) (λ x k. test_is q s is zs x st k))
test_is (g.next2 c cs) s is zs v st e = two_is c cs (first_class is) (second_class is) (class_at s) (class_after s) v e (λ d k. first_class_is s is zs d st k) (λ d k. second_class_is s is zs d st k)
test_is (g.other_than cs) s is zs v st e = absurd (cc)
test_is (g.word_in ws) s is zs v st e = absurd (cc)
test_is g.legacy s is zs v st e = older_is s is zs v st e
