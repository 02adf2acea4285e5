-- What names stand for, behind one line more.
use Rattle.std.proofs.Common.{◌≡◌, ℕ, ◌+◌, ◌<◌, ◌≤◌, Bool, true, false, List, [], ◌∷◌, ◌++◌, length, length-append, bytes_eq, refl, sym, ◌∙◌, ap, subst, arith, Option, Some, None, if◌then◌else◌}
use Rattle.std.proofs.lemmas.Slice.Eq.{bytes_eq-Decides}
use Rattle.plan_lines.specs.Lines.{Line, a_part, an_instance, an_export}
use Rattle.comp_compose.specs.Meanings.{components_of, instances_of, components, instances, declared_by, declared_behind, declared, or_else}
use Rattle.comp_compose.specs.Shown.{found, Shows, Adds}
use Rattle.comp_compose.specs.declared.names.Item.{Item}
use Rattle.comp_compose.specs.declared.names.Item.TheVariants as item
use Rattle.comp_compose.specs.declared.names.Names.{Names}

or_none : (o : Option Item) → or_else o None ≡ o
or_none None = refl
or_none (Some x) = refl

or_assoc : (o p q : Option Item) → or_else o (or_else p q) ≡ or_else (or_else o p) q
or_assoc None p q = refl
or_assoc (Some x) p q = refl

behind : (c i : ℕ) (ls : List Line) (l : Line) (x : List ℕ) → declared_behind c i (ls ++ l ∷ []) x ≡ or_else (declared_behind c i ls x) (declared_by (c + components ls) (i + instances ls) l x)
behind c i [] l x =
    let a : c ≡ c + 0 = omega arith in
    let b : i ≡ i + 0 = omega arith in
    or_none (declared_by c i l x) ∙ ap (λ n. declared_by n i l x) a ∙ ap (λ n. declared_by (c + 0) n l x) b
behind c i (k ∷ ls) l x =
    let d = c + components_of k in
    let j = i + instances_of k in
    let a : d + components ls ≡ c + (components_of k + components ls) = omega arith in
    let b : j + instances ls ≡ i + (instances_of k + instances ls) = omega arith in
    ap (or_else (declared_by c i k x)) (behind d j ls l x ∙ ap (λ n. or_else (declared_behind d j ls x) (declared_by n (j + instances ls) l x)) a ∙ ap (λ n. or_else (declared_behind d j ls x) (declared_by (c + components (k ∷ ls)) n l x)) b)
    ∙ or_assoc (declared_by c i k x) (declared_behind d j ls x) (declared_by (c + components (k ∷ ls)) (i + instances (k ∷ ls)) l x)

-- the names behind one line more
pub declared_more : (ls : List Line) (l : Line) (x : List ℕ) → declared (ls ++ l ∷ []) x ≡ or_else (declared ls x) (declared_by (components ls) (instances ls) l x)
declared_more ls l x =
    let a : 0 + components ls ≡ components ls = omega arith in
    let b : 0 + instances ls ≡ instances ls = omega arith in
    behind 0 0 ls l x ∙ ap (λ n. or_else (declared ls x) (declared_by n (0 + instances ls) l x)) a ∙ ap (λ n. or_else (declared ls x) (declared_by (components ls) n l x)) b

-- how many there are
pub components_more : (ls : List Line) (l : Line) → components (ls ++ l ∷ []) ≡ components ls + components_of l
components_more [] l = omega arith
components_more (k ∷ ls) l = omega (arith, components_more ls l)

pub instances_more : (ls : List Line) (l : Line) → instances (ls ++ l ∷ []) ≡ instances ls + instances_of l
instances_more [] l = omega arith
instances_more (k ∷ ls) l = omega (arith, instances_more ls l)

one_component : (l : Line) → components_of l ≤ 1
one_component (a_part n d) = omega arith
one_component (an_instance n p as') = omega arith
one_component (an_export t n) = omega arith

one_instance : (l : Line) → instances_of l ≤ 1
one_instance (a_part n d) = omega arith
one_instance (an_instance n p as') = omega arith
one_instance (an_export t n) = omega arith

pub few_components : (ls : List Line) → components ls ≤ length ls
few_components [] = omega arith
few_components (l ∷ ls) = omega (arith, few_components ls, one_component l)

pub few_instances : (ls : List Line) → instances ls ≤ length ls
few_instances [] = omega arith
few_instances (l ∷ ls) = omega (arith, few_instances ls, one_instance l)

-- an index is below the number of lines
index_of : Item → ℕ
index_of (item.Component i) = i
index_of (item.Instance i) = i

Below : ℕ → Option Item → Type 0
Below n None = Unit {0}
Below n (Some x) = index_of x < n

by_line : (c i n : ℕ) (l : Line) (x : List ℕ) → c < n → i < n → Below n (declared_by c i l x)
unfolding Below index_of
by_line c i n (a_part name digits) x h k = go (bytes_eq name.bytes x)
  where
    go : (b : Bool) → Below n (if b then Some (item.Component c) else None)
    go true = h
    go false = tt
by_line c i n (an_instance name part as') x h k = go (bytes_eq name.bytes x)
  where
    go : (b : Bool) → Below n (if b then Some (item.Instance i) else None)
    go true = k
    go false = tt
by_line c i n (an_export t m) x h k = tt

either_below : (n : ℕ) (o p : Option Item) → Below n o → Below n p → Below n (or_else o p)
unfolding Below
either_below n None p h k = k
either_below n (Some x) p h k = h

below : (c i n : ℕ) (ls : List Line) (x : List ℕ) → c + length ls ≤ n → i + length ls ≤ n → Below n (declared_behind c i ls x)
unfolding Below
below c i n [] x h k = tt
below c i n (l ∷ ls) x h k =
    either_below n (declared_by c i l x) (declared_behind (c + components_of l) (i + instances_of l) ls x) (by_line c i n l x (omega (arith, h)) (omega (arith, k)))
    (below (c + components_of l) (i + instances_of l) n ls x (omega (arith, h, one_component l)) (omega (arith, k, one_instance l)))

pub component_below : (ls : List Line) (x : List ℕ) (i : ℕ) → declared ls x ≡ Some (item.Component i) → i < length ls
unfolding Below index_of
component_below ls x i e = subst (Below (length ls)) e (below 0 0 (length ls) ls x (omega arith) (omega arith))

pub instance_below : (ls : List Line) (x : List ℕ) (i : ℕ) → declared ls x ≡ Some (item.Instance i) → i < length ls
unfolding Below index_of
instance_below ls x i e = subst (Below (length ls)) e (below 0 0 (length ls) ls x (omega arith) (omega arith))

-- names with one more show one line more
pub shown_more : (old new : Names) (ls : List Line) (l : Line) (name : List ℕ) (x : Item) → Shows old ls → Adds old new name x → declared ls name ≡ None
    → ((y : List ℕ) → declared_by (components ls) (instances ls) l y ≡ (if bytes_eq name y then Some x else None)) → Shows new (ls ++ l ∷ [])
shown_more old new ls l name x shows adds free by y = adds y ∙ go (bytes_eq name y) refl ∙ sym (declared_more ls l y ∙ ap (or_else (declared ls y)) (by y))
  where
    go : (b : Bool) → bytes_eq name y ≡ b → (if bytes_eq name y then Some x else found old y) ≡ or_else (declared ls y) (if bytes_eq name y then Some x else None)
    go true e =
        ap (λ b. if b then Some x else found old y) e
        ∙ ap (λ o. or_else o (Some x)) (sym (ap (declared ls) (sym ((bytes_eq-Decides name y).0 e)) ∙ free))
        ∙ ap (λ b. or_else (declared ls y) (if b then Some x else None)) (sym e)
    go false e = ap (λ b. if b then Some x else found old y) e ∙ shows y ∙ sym (or_none (declared ls y)) ∙ ap (λ b. or_else (declared ls y) (if b then Some x else None)) (sym e)

-- an export declares no name
pub shown_same : (names : Names) (ls : List Line) (l : Line) → Shows names ls → ((y : List ℕ) → declared_by (components ls) (instances ls) l y ≡ None) → Shows names (ls ++ l ∷ [])
shown_same names ls l shows none y = shows y ∙ sym (declared_more ls l y ∙ ap (or_else (declared ls y)) (none y) ∙ or_none (declared ls y))
