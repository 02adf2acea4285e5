-- What is held when parts were taken.
use Rattle.std.proofs.Common.{◌≡◌, ℕ, refl, ap, sym, subst, ◌∙◌, List, map, take, drop, length, ◌++◌, [], ◌∷◌}
use Rattle.comp_model.specs.CoreModules.{CoreModule, Field}
use Rattle.comp_model.specs.Model as m
use Rattle.comp_model.specs.declared.row.Row.{Row}
use Rattle.text_rules.specs.Made.{Made, leaves_from, node_made, behind}
use Rattle.comp_tree.specs.declared.tree.Node.{Node}
use Rattle.tree_build.specs.Held.{held}
use Rattle.tree_build.specs.Adds.{NodeOf}
use Rattle.tree_build.specs.declared.scratch.Scratch.{Scratch}

pub node_is : (t u : Row) (ls ks : List m.Leaf) → t ≡ u → ls ≡ ks → m.row t (leaves_from ls) ≡ m.row u (leaves_from ks)
node_is t u ls ks e h = ap (λ x. m.row x (leaves_from ls)) e ∙ ap (λ x. m.row u (leaves_from x)) h

pub rows_and_leaves : (h : Made) (rs qs : List Row) (ls ks : List m.Leaf) → rs ≡ qs → ls ≡ ks → record h { rows = rs; leaves = ls } ≡ record h { rows = qs; leaves = ks }
rows_and_leaves h rs qs ls ks e f = ap (λ x. record h { rows = x; leaves = ls }) e ∙ ap (λ x. record h { rows = qs; leaves = x }) f

-- a node that was taken behind the ends of parts
pub node_at : (rows leaves : ℕ) (n : Node) (p q : Scratch) (fs : List (List Field)) (cs : List CoreModule) (a : Made) → length a.rows ≡ rows → length a.leaves ≡ leaves → NodeOf rows leaves n p q fs cs → NodeOf (length a.rows) (length a.leaves) n p q fs cs
node_at rows leaves n p q fs cs a e f x = subst (λ k. NodeOf k (length a.leaves) n p q fs cs) (sym e) (subst (λ k. NodeOf rows k n p q fs cs) (sym f) x)

-- one more entry beside what is held
pub entry_held : (b h : Made) (ns : List m.Node) (y : m.Node) → b ≡ h → ns ≡ b.nodes ++ (y ∷ []) → record b { nodes = ns } ≡ record h { nodes = h.nodes ++ (y ∷ []) }
entry_held b h ns y e f = ap (λ (x : List m.Node). record b { nodes = x }) f ∙ ap (λ (x : Made). record x { nodes = x.nodes ++ (y ∷ []) }) e

-- leaves that were taken behind the end of parts
pub leaves_held : (h : Made) (ls ks : List m.Leaf) → ls ≡ ks → record h { leaves = ls } ≡ record h { leaves = ks }
leaves_held h ls ks e = ap (λ x. record h { leaves = x }) e
