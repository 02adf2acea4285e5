-- What is found part by part is the first in the order of the text.
use Rattle.std.proofs.Common.{◌≡◌, ℕ, cond, nat_lt, refl, ap, ◌∙◌, Option, Some, None, arith}
use Rattle.std.proofs.lemmas.Bool.Decides.{nat_tests}
use Rattle.comp_model.specs.CoreModules.{CoreModule}
use Rattle.comp_model.specs.Model as m
use Rattle.comp_model.specs.Model.{Leaf, Leaves, no_leaf, ◌▸◌, row, Nodes, no_node, one_node, define, Defs, no_def, one_def, scope_of}
use Rattle.comp_model.specs.Covered.{Uncovered, form_of_row, lower_of, form_in_leaves, form_in_leaf, form_in_nodes, held_at, first_held, uncovered_in_defs, uncovered_in_leaves, uncovered_in_leaf, uncovered_in_nodes}
use Rattle.comp_model.specs.Events.{told_leaf, told_leaves, told_nodes, told_defs}
use Rattle.comp_walks.specs.Sought.{Sought, nothing, own, inner, sought, and_then, settled, sought_step, is_nothing, answer}

-- the least of three
least-of : (n k j : ℕ) → cond (nat_lt j (cond (nat_lt k n) k n)) j (cond (nat_lt k n) k n) ≡ cond (nat_lt (cond (nat_lt j k) j k) n) (cond (nat_lt j k) j k) n
least-of n k j = grind (arith, nat_tests)

-- nothing more
no-more : (s : Sought) → s ≡ and_then s None None
no-more nothing = refl
no-more (own n) = refl
no-more (inner u) = refl

-- two parts, one behind the other
both : (s : Sought) (f g : Option ℕ) (u v : Option Uncovered) → and_then (and_then s f u) g v ≡ and_then s (lower_of f g) (first_held u v)
both nothing None g None v = refl
both nothing None None (Some x) v = refl
both nothing None (Some n) (Some x) v = refl
both nothing (Some k) None u v = refl
both nothing (Some k) (Some n) u v = refl
both (own n) None g u v = refl
both (own n) (Some k) None u v = refl
both (own n) (Some k) (Some j) u v = ap own (least-of n k j)
both (inner x) None None u v = refl
both (inner x) None (Some n) u v = refl
both (inner x) (Some k) None u v = refl
both (inner x) (Some k) (Some n) u v = refl

first-assoc : (a b c : Option Uncovered) → first_held (first_held a b) c ≡ first_held a (first_held b c)
first-assoc None b c = refl
first-assoc (Some x) b c = refl

-- a definition ends
ends : (o : ℕ) (f : Option ℕ) (u : Option Uncovered) → settled o (sought f u) ≡ sought None (first_held (held_at o f) u)
ends o None None = refl
ends o None (Some x) = refl
ends o (Some n) u = refl

module _ (c : CoreModule → Option Uncovered) where
  mutual
    pub leaves-sought : (ls : Leaves) (s : Sought) → told_leaves (sought_step c) is_nothing ls s ≡ and_then s (form_in_leaves ls) (uncovered_in_leaves c ls)
    leaves-sought no_leaf s = no-more s
    leaves-sought (l ▸ ls) s =
        ap (told_leaves (sought_step c) is_nothing ls) (leaf-sought l s) ∙ leaves-sought ls (and_then s (form_in_leaf l) (uncovered_in_leaf c l))
        ∙ both s (form_in_leaf l) (form_in_leaves ls) (uncovered_in_leaf c l) (uncovered_in_leaves c ls)

    leaf-sought : (l : Leaf) (s : Sought) → told_leaf (sought_step c) is_nothing l s ≡ and_then s (form_in_leaf l) (uncovered_in_leaf c l)
    leaf-sought (m.ref r (m.inline (row t ls))) s = leaves-sought ls (and_then s (form_of_row t) None) ∙ both s (form_of_row t) (form_in_leaves ls) None (uncovered_in_leaves c ls)
    leaf-sought (m.ref r (m.bundle (row t ls))) s = leaves-sought ls (and_then s (form_of_row t) None) ∙ both s (form_of_row t) (form_in_leaves ls) None (uncovered_in_leaves c ls)
    leaf-sought (m.present (m.node (row t ls))) s = leaves-sought ls (and_then s (form_of_row t) None) ∙ both s (form_of_row t) (form_in_leaves ls) None (uncovered_in_leaves c ls)
    leaf-sought (m.present l) s = leaf-sought l s
    leaf-sought (m.node (row t ls)) s = leaves-sought ls (and_then s (form_of_row t) None) ∙ both s (form_of_row t) (form_in_leaves ls) None (uncovered_in_leaves c ls)
    leaf-sought (m.nodes ns) s = nodes-sought ns s
    leaf-sought (m.scope (scope_of k id label ds)) s = defs-sought ds s
    leaf-sought (m.core_value v) s = refl
    leaf-sought (m.core_source d) s = refl
    leaf-sought l s = no-more s

    nodes-sought : (ns : Nodes) (s : Sought) → told_nodes (sought_step c) is_nothing ns s ≡ and_then s (form_in_nodes ns) (uncovered_in_nodes c ns)
    nodes-sought no_node s = no-more s
    nodes-sought (one_node (row t ls) ns) s =
        ap (told_nodes (sought_step c) is_nothing ns) (leaves-sought ls (and_then s (form_of_row t) None) ∙ both s (form_of_row t) (form_in_leaves ls) None (uncovered_in_leaves c ls))
        ∙ nodes-sought ns (and_then s (lower_of (form_of_row t) (form_in_leaves ls)) (uncovered_in_leaves c ls))
        ∙ both s (lower_of (form_of_row t) (form_in_leaves ls)) (form_in_nodes ns) (uncovered_in_leaves c ls) (uncovered_in_nodes c ns)

    -- definitions are passed over once something is found
    pub defs-sought : (ds : Defs) (s : Sought) → told_defs (sought_step c) is_nothing ds s ≡ and_then s None (uncovered_in_defs c ds)
    defs-sought no_def s = no-more s
    defs-sought (one_def (define names (row t ls)) ds) nothing =
        let f : Option ℕ = lower_of (form_of_row t) (form_in_leaves ls) in
        let u : Option Uncovered = uncovered_in_leaves c ls in
        let h : Option Uncovered = held_at names.offset f in
        let one : settled names.offset (told_leaves (sought_step c) is_nothing ls (sought (form_of_row t) None)) ≡ sought None (first_held h u) =
        ap (settled names.offset) (leaves-sought ls (sought (form_of_row t) None) ∙ both nothing (form_of_row t) (form_in_leaves ls) None u) ∙ ends names.offset f u in
        ap (told_defs (sought_step c) is_nothing ds) one ∙ defs-sought ds (sought None (first_held h u)) ∙ both nothing None None (first_held h u) (uncovered_in_defs c ds)
        ∙ ap (sought None) (first-assoc h u (uncovered_in_defs c ds))
    defs-sought (one_def (define names (row t ls)) ds) (own n) = defs-sought ds (own n)
    defs-sought (one_def (define names (row t ls)) ds) (inner u) = defs-sought ds (inner u)

answered : (u : Option Uncovered) → answer (sought None u) ≡ u
answered None = refl
answered (Some x) = refl

pub defs-answered : (c : CoreModule → Option Uncovered) (ds : Defs) → answer (told_defs (sought_step c) is_nothing ds nothing) ≡ uncovered_in_defs c ds
defs-answered c ds = ap answer (defs-sought c ds nothing) ∙ answered (uncovered_in_defs c ds)
