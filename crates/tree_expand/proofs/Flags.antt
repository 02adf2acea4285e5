-- Which definitions are given an id, and whether types stand inline in leaves.
use Rattle.std.proofs.Common.{◌≡◌, ℕ, zero, suc, ◌+◌, ◌<◌, ◌≤◌, get_or, Bool, true, false, ◌||◌, ◌&&◌, not, is_some, List, [], ◌∷◌, length, drop, Option, Some, None, option_map, Bor, map, refl, sym, ◌∙◌, ap, subst, arith}
use Rattle.std.proofs.lemmas.List.{drop_more}
use Rattle.comp_model.specs.declared.row.ScopeKind.{ScopeKind}
use Rattle.comp_model.specs.declared.row.Row.TheVariants as rows
use Rattle.comp_model.specs.declared.row.Row.{Row}
use Rattle.comp_model.specs.Core.{Text, Id}
use Rattle.comp_model.specs.CoreModules.{CoreModule}
use Rattle.comp_model.specs.RowNumbers.{same_row}
use Rattle.comp_scopes.specs.Reused.{is_shared}
use Rattle.comp_scopes.specs.Signatures.{is_module_type}
use Rattle.comp_tree.specs.Model.{id_of, leaf_of, core_at, lent_text}
use Rattle.wast_parser.specs.declared.index.Id as spelled
use Rattle.comp_tree.specs.declared.tree.Leaf.{Leaf}
use Rattle.comp_tree.specs.declared.tree.Leaf as l
use Rattle.tree_expand.specs.Numbering.{has_any, inlines_leaf}

pub core_inlines : (C : List CoreModule) (n : ℕ) (x : Leaf) → x ≡ l.Core n → false ≡ inlines_leaf (leaf_of C x)
core_inlines C n x e = subst (λ z. false ≡ inlines_leaf (leaf_of C z)) (sym e) (go C n)
  where
    go : (C : List CoreModule) (n : ℕ) → false ≡ inlines_leaf (core_at C n)
    go [] n = refl
    go (c ∷ C) zero = refl
    go (c ∷ C) (suc n) = go C n

or-first : (a b : Bool) → a ≡ false → (a || b) ≡ b
or-first false b e = refl
or-first true b e = absurd (cc)

pub or_later : (a b c : Bool) → a ≡ false → b ≡ c → b ≡ (a || c)
or_later false b c e f = f
or_later true b c e f = absurd (cc)

-- one that is there in a later part is there in the whole
pub or_true : (a b : Bool) → b ≡ true → (a || b) ≡ true
or_true true b e = refl
or_true false b e = e

pub or_front : (a b : Bool) → a ≡ true → (a || b) ≡ true
or_front true b e = refl
or_front false b e = absurd (cc)

none-any : (ts : List (Bor Text)) → length ts ≤ 0 → has_any (map lent_text ts) ≡ false
none-any [] h = refl
none-any (t ∷ ts) h = absurd (omega (arith, h))

pub not_given : (b : Bool) (o : Option Id) → is_some o ≡ true → false ≡ (b && not (is_some o))
not_given true o e = sym (ap not e)
not_given false o e = refl

pub shared_given : (kd : ScopeKind) (b s : Bool) (t : Row) (ts : List (Bor Text)) (o : Option Id) → length ts ≤ 0 → (is_module_type kd && same_row t rows.CoreFunctionType) ≡ false → b ≡ true → s ≡ is_shared t → is_some o ≡ false
    → s ≡ ((has_any (map lent_text ts) || ((is_module_type kd && same_row t rows.CoreFunctionType) || (b && is_shared t))) && not (is_some o))
shared_given kd b s t ts o n f e g h = rw (none-any ts n, f, e, h) (g ∙ sym (and-true (is_shared t)))
  where
    and-true : (b : Bool) → (b && true) ≡ b
    and-true true = refl
    and-true false = refl

-- the loops: by what is left of a list
module _ {A : Type 0} (f : List A → Bool) (g : A → Bool) (each : (x : A) (xs : List A) → f (x ∷ xs) ≡ (g x || f xs)) where
  pub there : (all : List A) (i : ℕ) (d : A) → i < length all → true ≡ g (get_or all i d) → f (drop i all) ≡ f all → true ≡ f all
  there all i d h e k = sym (or_front (g (get_or all i d)) (f (drop (i + 1) all)) (sym e)) ∙ sym (each (get_or all i d) (drop (i + 1) all)) ∙ ap f (sym (drop_more all i d h)) ∙ k

  pub later : (all : List A) (i : ℕ) (d : A) → i < length all → false ≡ g (get_or all i d) → f (drop i all) ≡ f all → f (drop (i + 1) all) ≡ f all
  later all i d h e k = sym (or-first (g (get_or all i d)) (f (drop (i + 1) all)) (sym e)) ∙ sym (each (get_or all i d) (drop (i + 1) all)) ∙ ap f (sym (drop_more all i d h)) ∙ k

pub some-mapped : (o : Option spelled.Id) → is_some (option_map id_of o) ≡ is_some o
some-mapped None = refl
some-mapped (Some x) = refl

pub and-apart : (a b : Bool) → b ≡ false → (a && b) ≡ false
and-apart true b e = e
and-apart false b e = refl

-- a definition that is given an id had none
pub had-none : (b : Bool) (o : Option Id) → (b && not (is_some o)) ≡ true → o ≡ None
had-none true None e = refl
had-none true (Some x) e = absurd (cc)
had-none false o e = absurd (cc)
