-- A definition without a scope, as it was read among open scopes.
use Rattle.std.proofs.Common.{◌≡◌, ℕ, sym, ap, ◌∙◌, false, cond, List, [], ◌++◌, append-nil, map, subst, Option}
use Rattle.std.specs.Prelude.{codes}
use Rattle.comp_model.specs.CoreModules.{CoreModule}
use Rattle.comp_model.specs.Model as m
use Rattle.comp_model.specs.declared.row.Row.TheVariants as rows
use Rattle.comp_model.specs.declared.row.Row.{Row}
use Rattle.comp_model.specs.RowNumbers.{same_row}
use Rattle.comp_model.specs.Spaces.{declares_row}
use Rattle.comp_model.specs.Payloads.{producers_payload}
use Rattle.comp_scopes.specs.Encoding.{Encoding}
use Rattle.comp_scopes.specs.Form.{coded_node, custom_node}
use Rattle.comp_scopes.specs.Resolved.{binary_of_leaves}
use Rattle.comp_scopes.specs.Rowed.{holds_scope}
use Rattle.comp_expanded.specs.IsExpanded.{LeavesExpanded}
use Rattle.comp_expanded.specs.IsResolved.{LeavesResolved}
use Rattle.comp_expanded.specs.TextNumbers.{definition_of}
use Rattle.comp_tables.specs.Tables.{needs}
use Rattle.comp_wire.specs.Origins.{origin_of}
use Rattle.comp_tree.specs.declared.tree.Def.{Def}
use Rattle.comp_tree.specs.Lists.{listed}
use Rattle.comp_tree.specs.Marks.{places_in, inside_listed}
use Rattle.open_scopes.specs.declared.scopes.Open.{Open}
use Rattle.tree_names.specs.declared.generated.Generated.{Generated}
use Rattle.tree_names.specs.declared.reading.Reading.{Reading}
use Rattle.tree_names.specs.Generated.{generated_made}
use Rattle.tree_names.specs.Resolved.{NodeResolved}
use Rattle.tree_resolve.specs.Made.{number_in, mades, own_names, AliasesBehind}
use Rattle.tree_resolve.proofs.Building.{Needed, BecomesDef}
use Rattle.tree_resolve.proofs.Held.{none-held}
use Rattle.tree_resolve.proofs.NumbersIn.{needed-in}
use Rattle.tree_resolve.proofs.Planned.{none-planned}

-- a node of the binary by what it holds as a list of producers
coded-same : (e : Encoding) (t : Row) (new ls xs : m.Leaves) → producers_payload new ≡ producers_payload ls → coded_node e t new xs ≡ coded_node e t ls xs
coded-same e t new ls xs h = ap (λ p. cond (same_row t rows.Producers) (custom_node (codes "producers") p) (m.row t xs)) h

module _ {e : Encoding} {C : List CoreModule} {os : List Open} {counts : List ℕ} {served : List (Option ℕ)} {d : Def} {new : m.Leaves} {end : Reading} (h : NodeResolved e os counts served (listed C d.node.leaves.now) new end) where
  pub plain-needed : (j : ℕ) (gs : List Generated) (old mid : List Def) → j ≡ definition_of (origin_of d.origin) → gs ≡ end.generated.items → AliasesBehind C (number_in d.places.now) j gs [] old mid → Needed e C os counts served d old mid
  plain-needed j gs old mid a g k = record {
    grown = λ ms c more w x y.
        sym (append-nil (mades e C mid)) ∙ k.grown e ∙ ap (λ q. mades e C old ++ map (generated_made (number_in d.places.now) j) q) g
        ∙ ap (λ q. mades e C old ++ q) (needed-in ms j d.places.now (listed C d.node.leaves.now) c end.generated.items (λ vs. (h.by ms c more w x y).needed j vs))
        ∙ ap (λ (i : ℕ). mades e C old ++ needs ms i (places_in C d) (listed C d.node.leaves.now) c) a;
    named = k.named;
    any = k.any;
    resolved = k.resolved;
  }

  pub plain-becomes : (r : Def) → new ≡ listed C r.node.leaves.now → r.origin ≡ d.origin → own_names r ≡ own_names d → r.node.row ≡ d.node.row → LeavesExpanded (listed C d.node.leaves.now) → holds_scope (listed C d.node.leaves.now) ≡ false → BecomesDef e C os counts served d r
  plain-becomes r q o n t x w = record {
    origin = o;
    names = n;
    head = t;
    declares = ap (declares_row d.node.row) (sym q) ∙ h.declares d.node.row;
    resolved = subst LeavesResolved q h.resolved;
    made = λ ms c more z u v.
        ap (λ y. coded_node e d.node.row y (binary_of_leaves e y)) (sym q)
        ∙ coded-same e d.node.row new (listed C d.node.leaves.now) (binary_of_leaves e new) h.payload
        ∙ ap (coded_node e d.node.row (listed C d.node.leaves.now)) ((h.by ms c more z u v).made x);
    held = λ ms z.
        none-planned C r.node.leaves.now (ap holds_scope (sym q) ∙ h.holds ∙ w)
        ∙ sym (none-held e ms (inside_listed C d.node.leaves.now) (listed C d.node.leaves.now) w);
  }
