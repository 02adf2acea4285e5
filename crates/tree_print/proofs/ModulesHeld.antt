-- Turns of the walk that looks for core modules.
use Rattle.std.proofs.Common.{◌≡◌, ℕ, ◌+◌, ◌<◌, Bool, true, false, ◌||◌, List, length, drop, get_or, sym, ◌∙◌, ap}
use Rattle.std.proofs.lemmas.List.{drop_more}
use Rattle.wire_tree.specs.declared.tree.Node.{Node}
use Rattle.wire_tree.specs.Lists.{node_of, defs_listed}
use Rattle.print_table.specs.HasText.{definition_holds_module, definitions_hold_module}

module _ (ns : List Node) (i : ℕ) (d : Node) (v : Bool) (h : i < length ns) where
  -- a definition that is no core module and holds none
  pub goes_on : false ≡ definition_holds_module (node_of (get_or ns i d)) → definitions_hold_module (defs_listed (drop i ns)) ≡ v → definitions_hold_module (defs_listed (drop (i + 1) ns)) ≡ v
  goes_on e s = ap (λ b. b || definitions_hold_module (defs_listed (drop (i + 1) ns))) e ∙ ap (λ xs. definitions_hold_module (defs_listed xs)) (sym (drop_more ns i d h)) ∙ s

  pub stops : true ≡ definition_holds_module (node_of (get_or ns i d)) → definitions_hold_module (defs_listed (drop i ns)) ≡ v → true ≡ v
  stops e s = ap (λ b. b || definitions_hold_module (defs_listed (drop (i + 1) ns))) e ∙ ap (λ xs. definitions_hold_module (defs_listed xs)) (sym (drop_more ns i d h)) ∙ s
