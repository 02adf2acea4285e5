-- A node holds one scope at most, and its marks are those that stand with its definition.
use Rattle.std.proofs.Common.{◌≡◌, ℕ, ◌+◌, ◌⊎◌, inl, inr, Bool, true, false, ◌&&◌, ◌||◌, IsFalse, List, Option, Some, None, refl}
use Rattle.comp_model.specs.declared.Space.{Space}
use Rattle.comp_model.specs.declared.Space.TheVariants.{CoreType}
use Rattle.comp_model.specs.declared.row.Row.{Row}
use Rattle.comp_model.specs.Core.{CoreValue, ref_name}
use Rattle.comp_model.specs.Model.{Leaf, core_value, ref, present, node, nodes, scope, name, inline, bundle, Leaves, no_leaf, ◌▸◌, row, Nodes, no_node, one_node, Scope}
use Rattle.comp_model.specs.Origins.{Origin, Held, holds_none, holds}
use Rattle.comp_scopes.specs.Encoding.{Encoding}
use Rattle.comp_scopes.specs.Names.{Denoted, denotes}
use Rattle.comp_scopes.specs.References.{references, references_leaf}
use Rattle.comp_scopes.specs.Reused.{reused}
use Rattle.comp_scopes.specs.Outward.{served, leads_out}
use Rattle.comp_scopes.specs.Form.{Formed, held_first, form_inline, form_alias, form_name, form_value, form_leaves, form_leaf, form_nodes}
use Rattle.comp_scopes.specs.Rowed.{holds_scope, leaf_holds_scope, nodes_hold_scope}

-- where a holds marks, they are those of h
abbrev pub Carries : Held → Held → Type 0
Carries holds_none h = Unit {0}
Carries (holds o) h = h ≡ holds o

pub or-false : (a b : Bool) → (a || b) ≡ false → (a ≡ false) × (b ≡ false)
or-false true b h = absurd (cc)
or-false false b h = (refl, h)

pub none-first : (a b : Held) → a ≡ holds_none → b ≡ holds_none → held_first a b ≡ holds_none
none-first a b x y = rw (x, y) refl

alias-none : (st : List Scope) (k u : ℕ) (s : Space) (d : Denoted) (o : Option Origin) → (form_alias st k u s d o).held ≡ holds_none
alias-none st k u s d (Some o) = refl
alias-none st k u s d None = refl

pub name-none : (st : List Scope) (k u : ℕ) (s : Space) (b : Bool) (o : Option Denoted) → (form_name st k u s b o).held ≡ holds_none
name-none st k u s true None = refl
name-none st k u s false None = refl
name-none st k u s true (Some d) = alias-none st k u s d (served st k u s d)
name-none st k u s false (Some d) = refl

pub value-none : (st : List Scope) (k u : ℕ) (v : CoreValue) → (form_value st k u v).held ≡ holds_none
value-none st k u (ref_name b r x) = name-none st k u CoreType (leads_out r (denotes st CoreType r x)) (denotes st CoreType r x)
value-none st k u v = refl

pub inline-none : (st : List Scope) (k u : ℕ) (s : Space) (t : Row) (j : Option Origin) (a : Formed Leaves) → (form_inline st k u s t j a).held ≡ holds_none
inline-none st k u s t (Some j) a = refl
inline-none st k u s t None a = refl

module _ (e : Encoding) where
  mutual
    pub leaves-none : (st : List Scope) (k u : ℕ) (ls : Leaves) → holds_scope ls ≡ false → (form_leaves e st k u ls).held ≡ holds_none
    leaves-none st k u no_leaf h = refl
    leaves-none st k u (l ▸ ls) h = let q : (leaf_holds_scope l ≡ false) × (holds_scope ls ≡ false) = or-false _ _ h in
        none-first _ _ (leaf-none st k u l q.0) (leaves-none st k (u + references_leaf l) ls q.1)

    leaf-none : (st : List Scope) (k u : ℕ) (l : Leaf) → leaf_holds_scope l ≡ false → (form_leaf e st k u l).held ≡ holds_none
    leaf-none st k u (core_value v) h = value-none st k u v
    leaf-none st k u (ref s (name r x)) h = name-none st k u s (leads_out r (denotes st s r x)) (denotes st s r x)
    leaf-none st k u (ref s (inline (row t ls))) h = inline-none st k u s t (reused st k u t ls) (form_leaves e st k (u + 1) ls)
    leaf-none st k u (ref s (bundle (row t ls))) h = refl
    leaf-none st k u (present l) h = leaf-none st k u l h
    leaf-none st k u (node (row t ls)) h = leaves-none st k u ls h
    leaf-none st k u (nodes ns) h = nodes-none st k u ns h
    leaf-none st k u (scope s) h = absurd (cc)
    leaf-none st k u l h = refl

    nodes-none : (st : List Scope) (k u : ℕ) (ns : Nodes) → nodes_hold_scope ns ≡ false → (form_nodes e st k u ns).held ≡ holds_none
    nodes-none st k u no_node h = refl
    nodes-none st k u (one_node (row t ls) ns) h = let q : (holds_scope ls ≡ false) × (nodes_hold_scope ns ≡ false) = or-false _ _ h in
        none-first _ _ (leaves-none st k u ls q.0) (nodes-none st k (u + references ls) ns q.1)

  either-none : (x y : Bool) (a b : Held) → (x ≡ false → a ≡ holds_none) → (y ≡ false → b ≡ holds_none) → IsFalse (x && y) → (a ≡ holds_none) ⊎ (b ≡ holds_none)
  either-none true y a b f g h = inr (g h)
  either-none false y a b f g h = inl (f refl)

  pub leaf-or_leaves : (st : List Scope) (k u v : ℕ) (l : Leaf) (ls : Leaves) → IsFalse (leaf_holds_scope l && holds_scope ls) → ((form_leaf e st k u l).held ≡ holds_none) ⊎ ((form_leaves e st k v ls).held ≡ holds_none)
  leaf-or_leaves st k u v l ls h = either-none (leaf_holds_scope l) (holds_scope ls) _ _ (leaf-none st k u l) (leaves-none st k v ls) h

  pub leaves-or_nodes : (st : List Scope) (k u v : ℕ) (ls : Leaves) (ns : Nodes) → IsFalse (holds_scope ls && nodes_hold_scope ns) → ((form_leaves e st k u ls).held ≡ holds_none) ⊎ ((form_nodes e st k v ns).held ≡ holds_none)
  leaves-or_nodes st k u v ls ns h = either-none (holds_scope ls) (nodes_hold_scope ns) _ _ (leaves-none st k u ls) (nodes-none st k v ns) h

pub carries-first : (a b h : Held) → Carries (held_first a b) h → Carries a h
carries-first holds_none b h c = tt
carries-first (holds o) b h c = c

pub carries-second : (a b h : Held) → (a ≡ holds_none) ⊎ (b ≡ holds_none) → Carries (held_first a b) h → Carries b h
carries-second a b h (inl x) c = rw x at c
carries-second a b h (inr x) c = rw x tt

pub carries-self : (h : Held) → Carries h h
carries-self holds_none = tt
carries-self (holds o) = refl
