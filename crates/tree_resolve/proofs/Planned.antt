-- The marks of a resolved tree are those of its lists.
use Rattle.std.proofs.Common.{◌≡◌, refl, sym, ap, ◌∙◌, false, List, [], ◌∷◌, Bor, Option}
use Rattle.std.specs.Prelude.{option_map}
use Rattle.comp_model.specs.declared.row.ScopeKind.{ScopeKind}
use Rattle.comp_model.specs.Core.{Text}
use Rattle.comp_model.specs.CoreModules.{CoreModule}
use Rattle.comp_model.specs.ItemNames.{has_names}
use Rattle.comp_model.specs.Model as m
use Rattle.comp_model.specs.Origins.{Origins, origin_then, holds_none}
use Rattle.comp_scopes.specs.Form.{held_first}
use Rattle.comp_scopes.specs.Rowed.{holds_scope, leaf_holds_scope, nodes_hold_scope}
use Rattle.comp_wire.specs.Origins.{origin_of}
use Rattle.wast_parser.specs.declared.index.Id as spelled
use Rattle.comp_tree.specs.Lists.{listed, defs_listed}
use Rattle.comp_tree.specs.Model.{id_of, lent_text, leaf_of, leaves_of, nodes_of, scope_of}
use Rattle.comp_tree.proofs.Rows.{defs_shown}
use Rattle.comp_tree.specs.declared.tree.Leaf.{Leaf}
use Rattle.comp_tree.specs.declared.tree.Node.{Node}
use Rattle.comp_tree.specs.declared.tree.Def.{Def}
use Rattle.comp_tree.specs.declared.tree.Scope.{Scope}
use Rattle.comp_tree.specs.declared.tree.Leaf as l
use Rattle.comp_tree.specs.declared.tree.Scope as s
use Rattle.tree_resolve.specs.Planned.{section_mark, planned_in, planned_of, planned_in_leaves, planned_in_nodes, planned_of_defs, planned_listed, planned_nodes, planned_defs}
use Rattle.comp_tables.proofs.OfExpansion.{or-left, or-right}
use Rattle.tree_resolve.proofs.Held.{both-none}

module _ (cores : List CoreModule) where
  planned-row : (n : _) (r : l.Row_of-Leaf n) → planned_in_leaves cores r ≡ planned_listed cores (l.items-the_row-Leaf n r)
  planned-row _ l.end_of-Leaf = refl
  planned-row _ (l.more_of-Leaf {n = n} x xs) = ap (held_first (planned_in cores x)) (planned-row n xs)

  planned-shown : (h : _) (xs : _) → planned_in_leaves cores xs ≡ planned_listed cores (l.TheBlock.shown-the_row-Leaf-0 h xs)
  planned-shown h xs = planned-row _ xs ∙ ap (planned_listed cores) (sym (l.items_shown-the_row-Leaf-0 h xs))

  planned-hidden : (xs : List Leaf) → planned_in_leaves cores (l.TheBlock.hidden-the_row-Leaf-0 xs) ≡ planned_listed cores xs
  planned-hidden xs = planned-row _ (l.TheBlock.hidden-the_row-Leaf-0 xs) ∙ ap (planned_listed cores) (l.items_hidden-the_row-Leaf-0 xs)

  nodes-row : (n : _) (r : l.Row_of-Node n) → planned_in_nodes cores r ≡ planned_nodes cores (l.items-the_row-Node n r)
  nodes-row _ l.end_of-Node = refl
  nodes-row _ (l.more_of-Node {n = n} r v q h xs rest) = ap (λ k. held_first k (planned_in_nodes cores rest)) (planned-shown h xs) ∙ ap (held_first (planned_listed cores (l.TheBlock.shown-the_row-Leaf-0 h xs))) (nodes-row n rest)

  nodes-hidden : (xs : List Node) → planned_in_nodes cores (l.TheBlock.hidden-the_row-Node-1 xs) ≡ planned_nodes cores xs
  nodes-hidden xs = nodes-row _ (l.TheBlock.hidden-the_row-Node-1 xs) ∙ ap (planned_nodes cores) (l.items_hidden-the_row-Node-1 xs)

  pub planned-node : (n : Bor Node) → planned_in cores (l.Node n) ≡ planned_listed cores n.now.leaves.now
  planned-node n = planned-hidden n.now.leaves.now

  pub planned-nodes : (ns : Bor (List Node)) → planned_in cores (l.Nodes ns) ≡ planned_nodes cores ns.now
  planned-nodes ns = nodes-hidden ns.now

  defs-row : (more : Origins) (n : _) (r : s.Row_of-Def n) → planned_of_defs cores more r ≡ planned_defs cores more (s.items-the_row-Def n r)
  defs-row more _ s.end_of-Def = refl
  defs-row more _ (s.more_of-Def {n = n} o places w names r v q h xs rest) = ap (λ k. origin_then (origin_of o) k (planned_of_defs cores more rest)) (planned-shown h xs) ∙ ap (origin_then (origin_of o) (planned_listed cores (l.TheBlock.shown-the_row-Leaf-0 h xs))) (defs-row more n rest)

  planned-defs-shown : (more : Origins) (h : _) (xs : _) → planned_of_defs cores more xs ≡ planned_defs cores more (l.TheBlock.shown-the_row-Def-2 h xs)
  planned-defs-shown more h xs = defs-row more _ xs ∙ ap (planned_defs cores more) (sym (s.items_shown-the_row-Def-2 h xs))

  -- a scope by its fields
  pub planned-fields : (x : Scope) → planned_of cores x ≡ planned_defs cores (section_mark (has_names (m.scope_of (s.out-Scope x).kind (option_map id_of (s.out-Scope x).id) (option_map lent_text (s.out-Scope x).label) (defs_listed cores (s.out-Scope x).defs.now)))) (s.out-Scope x).defs.now
  unfolding s.out-Scope l.TheBlock.shown-the_row-Def-2 denote.Hole.Carrier.out
  planned-fields (s.Scope' k id label q h ds) =
      planned-defs-shown (section_mark (has_names (scope_of cores (s.Scope' k id label q h ds)))) h ds
      ∙ ap (λ z. planned_defs cores (section_mark (has_names (m.scope_of k (option_map id_of id) (option_map lent_text label) z))) (l.TheBlock.shown-the_row-Def-2 h ds)) (defs_shown cores h ds)

  -- one that is made of its fields
  pub planned-made : (kind : ScopeKind) (id : Option spelled.Id) (label : Option (Bor Text)) (defs : Bor (List Def))
      → planned_of cores (s.roll-Scope (record { kind = kind; id = id; label = label; defs = defs })) ≡ planned_defs cores (section_mark (has_names (m.scope_of kind (option_map id_of id) (option_map lent_text label) (defs_listed cores defs.now)))) defs.now
  planned-made kind id label defs =
      planned-fields (s.roll-Scope (record { kind = kind; id = id; label = label; defs = defs }))
      ∙ ap (λ e. planned_defs cores (section_mark (has_names (m.scope_of e.kind (option_map id_of e.id) (option_map lent_text e.label) (defs_listed cores e.defs.now)))) e.defs.now)
      (s.out-roll-Scope (record { kind = kind; id = id; label = label; defs = defs }))

  -- ---- leaves that hold no scope

  mutual
    none-planned-leaf : (x : Leaf) → leaf_holds_scope (leaf_of cores x) ≡ false → planned_in cores x ≡ holds_none
    none-planned-leaf (l.Present' p x) n = none-planned-leaf x n
    none-planned-leaf (l.Node' p r v q h xs) n = none-planned-row xs n
    none-planned-leaf (l.Nodes' p h xs) n = none-planned-nodes xs n
    none-planned-leaf (l.Scope' p (s.Scope' k id label q h ds)) n = absurd (cc)
    none-planned-leaf x n = refl

    none-planned-row : {k : _} (xs : l.Row_of-Leaf k) → holds_scope (leaves_of cores xs) ≡ false → planned_in_leaves cores xs ≡ holds_none
    none-planned-row l.end_of-Leaf n = refl
    none-planned-row (l.more_of-Leaf x xs) n =
        both-none (planned_in cores x) (planned_in_leaves cores xs) (none-planned-leaf x (or-left (leaf_holds_scope (leaf_of cores x)) (holds_scope (leaves_of cores xs)) n)) (none-planned-row xs (or-right (leaf_holds_scope (leaf_of cores x)) (holds_scope (leaves_of cores xs)) n))

    none-planned-nodes : {k : _} (xs : l.Row_of-Node k) → nodes_hold_scope (nodes_of cores xs) ≡ false → planned_in_nodes cores xs ≡ holds_none
    none-planned-nodes l.end_of-Node n = refl
    none-planned-nodes (l.more_of-Node r v q h xs rest) n =
        both-none (planned_in_leaves cores xs) (planned_in_nodes cores rest) (none-planned-row xs (or-left (holds_scope (leaves_of cores xs)) (nodes_hold_scope (nodes_of cores rest)) n)) (none-planned-nodes rest (or-right (holds_scope (leaves_of cores xs)) (nodes_hold_scope (nodes_of cores rest)) n))

  pub none-planned : (xs : List Leaf) → holds_scope (listed cores xs) ≡ false → planned_listed cores xs ≡ holds_none
  none-planned [] n = refl
  none-planned (x ∷ xs) n =
      both-none (planned_in cores x) (planned_listed cores xs) (none-planned-leaf x (or-left (leaf_holds_scope (leaf_of cores x)) (holds_scope (listed cores xs)) n)) (none-planned xs (or-right (leaf_holds_scope (leaf_of cores x)) (holds_scope (listed cores xs)) n))
