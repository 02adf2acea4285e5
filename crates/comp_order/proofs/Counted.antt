-- There is a verdict for each line of a listing, and so fewer than the binary has bytes.
use Rattle.std.proofs.Common.{◌≡◌, ℕ, ◌+◌, ◌<◌, ◌^◌, refl, sym, ◌∙◌, List, [], ◌∷◌, ◌++◌, map, length, arith}
use Rattle.std.proofs.lemmas.List.{length-append, length-map}
use Rattle.comp_model.specs.Model as m
use Rattle.comp_model.specs.Model.{Leaf, Leaves, no_leaf, ◌▸◌, row, Nodes, no_node, one_node, define, Defs, no_def, one_def, Scope, scope_of}
use Rattle.comp_model.specs.Spaces.{append_defs}
use Rattle.comp_wire.specs.Read.{Reads}
use Rattle.comp_list.specs.References.{references, outer_count}
use Rattle.comp_list.specs.Listing.{lines_of, scope_lines, defs_lines, leaf_lines, leaves_lines, nodes_lines, listing}
use Rattle.comp_list.proofs.Fewer.{lines_counted, fewer_lines}
use Rattle.comp_order.specs.Order.{order, verdict_of, scope_verdicts, defs_verdicts, leaf_verdicts, leaves_verdicts, nodes_verdicts}
use Rattle.comp_order.specs.Pass.{capped_order}
use Rattle.comp_order.proofs.Passing.{fault_kept}

both : {A B : Type 0} (xs ys : List A) (zs ws : List B) → length xs ≡ length zs → length ys ≡ length ws → length (xs ++ ys) ≡ length (zs ++ ws)
both xs ys zs ws e f = let a : length (xs ++ ys) ≡ length xs + length ys = length-append xs ys in let b : length (zs ++ ws) ≡ length zs + length ws = length-append zs ws in omega (arith, a, b, e, f)

mutual
  scope_counted : (s : Scope) (level : ℕ) (out befores : List Defs) → length (scope_verdicts s befores) ≡ length (scope_lines s level out)
  scope_counted (scope_of k id label ds) level out befores = defs_counted ds level (ds ∷ out) 0 befores no_def

  defs_counted : (ds : Defs) (level : ℕ) (scopes : List Defs) (n : ℕ) (befores : List Defs) (before : Defs) → length (defs_verdicts ds befores before) ≡ length (defs_lines ds level scopes n)
  defs_counted no_def level scopes n befores before = refl
  defs_counted (one_def (define names (row t ls)) ds) level scopes n befores before =
      both (map (verdict_of befores before t ls (outer_count t ls)) (references ls)) _ (lines_of level scopes n (outer_count t ls) 0 (references ls)) _
      (length-map (references ls) (verdict_of befores before t ls (outer_count t ls)) ∙ sym (lines_counted level scopes n (outer_count t ls) 0 (references ls)))
      (both (leaves_verdicts ls (before ∷ befores)) _ (leaves_lines ls (level + 1) scopes) _
      (leaves_counted ls (level + 1) scopes (before ∷ befores))
      (defs_counted ds level scopes (n + 1) befores (append_defs before (one_def (define names (row t ls)) no_def))))

  leaf_counted : (l : Leaf) (level : ℕ) (out befores : List Defs) → length (leaf_verdicts l befores) ≡ length (leaf_lines l level out)
  leaf_counted (m.scope s) level out befores = scope_counted s level out befores
  leaf_counted (m.present l) level out befores = leaf_counted l level out befores
  leaf_counted (m.node (row t ls)) level out befores = leaves_counted ls level out befores
  leaf_counted (m.nodes ns) level out befores = nodes_counted ns level out befores
  leaf_counted _ level out befores = refl

  leaves_counted : (ls : Leaves) (level : ℕ) (out befores : List Defs) → length (leaves_verdicts ls befores) ≡ length (leaves_lines ls level out)
  leaves_counted no_leaf level out befores = refl
  leaves_counted (l ▸ ls) level out befores = both (leaf_verdicts l befores) _ (leaf_lines l level out) _ (leaf_counted l level out befores) (leaves_counted ls level out befores)

  nodes_counted : (ns : Nodes) (level : ℕ) (out befores : List Defs) → length (nodes_verdicts ns befores) ≡ length (nodes_lines ns level out)
  nodes_counted no_node level out befores = refl
  nodes_counted (one_node (row t ls) ns) level out befores = both (leaves_verdicts ls befores) _ (leaves_lines ls level out) _ (leaves_counted ls level out befores) (nodes_counted ns level out befores)

pub each_counted : (b : Scope) → length (scope_verdicts b []) ≡ length (listing b)
each_counted b = scope_counted b 0 [] []

pub number_kept : (bytes : List ℕ) (b : Scope) → length bytes < 2 ^ 64 → Reads bytes b → capped_order (order b) ≡ order b
number_kept bytes b h reads = fault_kept 0 (scope_verdicts b []) (omega (arith, h, each_counted b, fewer_lines bytes b reads))
