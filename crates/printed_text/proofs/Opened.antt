-- How many parentheses are open along printed tokens, and in front of the checked items among them.
use Rattle.std.proofs.Common.{◌≡◌, ℕ, zero, suc, ◌+◌, ◌-◌, append_assoc, List, [], ◌∷◌, ◌++◌, map, refl, sym, ◌∙◌, ap, arith, slice_get}
use Rattle.comp_model.specs.Model as m
use Rattle.comp_model.specs.Model.{Leaf, Leaves, no_leaf, ◌▸◌, Node, row, define, Defs, no_def, one_def, scope_of}
use Rattle.wast_grammar.specs.Tokens.{opened_by}
use Rattle.wast_grammar.specs.Stand.{Stand, moved}
use Rattle.wast_grammar.specs.Grammar.{Grammar, Value}
use Rattle.wast_grammar.specs.Read.{opens, opened, open_at}
use Rattle.wast_grammar.specs.Spells.{Spells, checks}
use Rattle.print_table.specs.Tokens as printed
use Rattle.print_table.specs.Tokens.{PrintedToken}
use Rattle.print_table.specs.Depths.{deeper, own_depth, leaf_depths, leaves_depths, depths}
use Rattle.printed_text.specs.ReadTokens.{kind_of}

-- What a run of tokens does to the number of open parentheses, and what it puts in front of numbers that come after: how many are open in
-- front of each checked item in it. Both by the number in front of it.
pub record Walk : Type 0 where
  pub level : ℕ → ℕ
  pub deep : ℕ → List ℕ → List ℕ

-- groups end in it as they begin, and nothing is checked
abbrev pub still : Walk
still = record { level = λ d. d; deep = λ d ks. ks }

abbrev pub lower : ℕ → ℕ
lower zero = zero
lower (suc n) = n

-- past a token
abbrev pub step : PrintedToken → ℕ → ℕ
step printed.opening d = suc d
step printed.closing d = lower d
step (printed.note w) d = suc d
step (printed.word w) d = d
step (printed.numeral n) d = d
step (printed.string bs) d = d

-- past tokens
abbrev pub after : List PrintedToken → ℕ → ℕ
after [] d = d
after (x ∷ xs) d = after xs (step x d)

pub after_both : (xs ys : List PrintedToken) (d : ℕ) → after (xs ++ ys) d ≡ after ys (after xs d)
after_both [] ys d = refl
after_both (x ∷ xs) ys d = after_both xs ys (step x d)

-- a token in front; a token after; the whole is checked; one run after another
abbrev pub led_by : PrintedToken → Walk → Walk
led_by x w = record { level = λ d. w.level (step x d); deep = λ d. w.deep (step x d) }

abbrev pub closed_by : PrintedToken → Walk → Walk
closed_by x w = record { level = λ d. step x (w.level d); deep = w.deep }

abbrev pub looked_at : Walk → Walk
looked_at w = record { level = w.level; deep = λ d ks. d ∷ w.deep d ks }

abbrev pub both_walks : Walk → Walk → Walk
both_walks v w = record { level = λ d. w.level (v.level d); deep = λ d ks. v.deep d (w.deep (v.level d) ks) }

-- ---- where a reader stands

lower_is : (n : ℕ) → lower n ≡ n - 1
lower_is zero = refl
lower_is (suc n) = omega arith

pub step_opens : (x : PrintedToken) (n : ℕ) → opened_by (kind_of x) n ≡ step x n
step_opens printed.opening n = omega arith
step_opens printed.closing n = sym (lower_is n)
step_opens (printed.note w) n = omega arith
step_opens (printed.word w) n = refl
step_opens (printed.numeral k) n = refl
step_opens (printed.string bs) n = refl

opens_more : (s : Stand) (i : ℕ) → i ≡ suc s.at → opens s.text.tokens i ≡ opened (slice_get s.text.tokens s.at) (open_at s)
opens_more s i e = ap (opens s.text.tokens) e

pub open_past : (s : Stand) (x : PrintedToken) → ((n : ℕ) → opened (slice_get s.text.tokens s.at) n ≡ opened_by (kind_of x) n) → open_at (moved s 1) ≡ step x (open_at s)
open_past s x h = opens_more s (s.at + 1) (omega arith) ∙ h (open_at s) ∙ step_opens x (open_at s)

-- ---- checked items

-- how many are open in front of each, in front of other numbers
abbrev pub onto : List Stand → List ℕ → List ℕ
onto [] ks = ks
onto (s ∷ ss) ks = open_at s ∷ onto ss ks

pub onto_both : (a b : List Stand) (ks : List ℕ) → onto (a ++ b) ks ≡ onto a (onto b ks)
onto_both [] b ks = refl
onto_both (s ∷ ss) b ks = ap (λ l. open_at s ∷ l) (onto_both ss b ks)

pub onto_none : (ss : List Stand) → onto ss [] ≡ map open_at ss
onto_none [] = refl
onto_none (s ∷ ss) = ap (λ l. open_at s ∷ l) (onto_none ss)

-- the tokens from one place to another spell the value, and the checked items among them are so deep
pub record Spelled (g : Grammar) (s t : Stand) (v : Value) (f : List ℕ → List ℕ) : Type 0 where
  pub spells : Spells g s t v
  pub depths : (ks : List ℕ) → onto (checks spells) ks ≡ f ks

-- ---- definitions

abbrev pub raised : ℕ → ℕ → ℕ
raised zero d = d
raised (suc n) d = suc (raised n d)

abbrev pub own : ℕ → ℕ → List ℕ → List ℕ
own zero d ks = ks
own (suc n) d ks = suc (raised n d) ∷ ks

abbrev mutual
  pub leaf_deep : Leaf → ℕ → List ℕ → List ℕ
  leaf_deep (m.scope (scope_of k id label ds)) = defs_deep ds
  leaf_deep _ = λ d ks. ks

  pub leaves_deep : Leaves → ℕ → List ℕ → List ℕ
  leaves_deep no_leaf = λ d ks. ks
  leaves_deep (l ▸ ls) = λ d ks. leaf_deep l d (leaves_deep ls d ks)

  pub node_deep : Node → ℕ → List ℕ → List ℕ
  node_deep (row t ls) = λ d ks. own (deeper t) d (leaves_deep ls (raised (deeper t) d) ks)

  pub defs_deep : Defs → ℕ → List ℕ → List ℕ
  defs_deep no_def = λ d ks. ks
  defs_deep (one_def (define names n) ds) = λ d ks. node_deep n d (defs_deep ds d ks)

raised_is : (n d : ℕ) → raised n d ≡ d + n
raised_is zero d = omega arith
raised_is (suc n) d = let e = raised_is n d in omega (arith, e)

own_is : (n d : ℕ) (xs ks : List ℕ) → own n d (xs ++ ks) ≡ (own_depth d n ++ xs) ++ ks
own_is zero d xs ks = refl
own_is (suc n) d xs ks = ap (λ k. k ∷ (xs ++ ks)) (raised_is (suc n) d)

mutual
  leaf_deep_is : (l : Leaf) (d : ℕ) (ks : List ℕ) → leaf_deep l d ks ≡ leaf_depths d l ++ ks
  leaf_deep_is (m.scope (scope_of k id label ds)) d ks = defs_deep_is ds d ks
  leaf_deep_is l d ks = refl

  leaves_deep_is : (ls : Leaves) (d : ℕ) (ks : List ℕ) → leaves_deep ls d ks ≡ leaves_depths d ls ++ ks
  leaves_deep_is no_leaf d ks = refl
  leaves_deep_is (l ▸ ls) d ks = leaf_deep_is l d (leaves_deep ls d ks) ∙ ap (λ q. leaf_depths d l ++ q) (leaves_deep_is ls d ks) ∙ sym (append_assoc (leaf_depths d l) (leaves_depths d ls) ks)

  -- the numbers of the table, in front of others
  pub defs_deep_is : (ds : Defs) (d : ℕ) (ks : List ℕ) → defs_deep ds d ks ≡ depths d ds ++ ks
  defs_deep_is no_def d ks = refl
  defs_deep_is (one_def (define names (row t ls)) ds) d ks =
      ap (λ q. own (deeper t) d (leaves_deep ls (raised (deeper t) d) q)) (defs_deep_is ds d ks)
      ∙ ap (own (deeper t) d) (leaves_deep_is ls (raised (deeper t) d) (depths d ds ++ ks) ∙ ap (λ k. leaves_depths k ls ++ (depths d ds ++ ks)) (raised_is (deeper t) d) ∙ sym (append_assoc (leaves_depths (d + deeper t) ls) (depths d ds) ks))
      ∙ own_is (deeper t) d (leaves_depths (d + deeper t) ls ++ depths d ds) ks
