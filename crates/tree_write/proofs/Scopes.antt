-- Scopes: their definitions one by one, and what stands behind them.
use Rattle.std.proofs.Common.{◌≡◌, ℕ, ◌+◌, ◌<◌, List, [], ◌∷◌, ◌++◌, length, drop, refl, sym, ◌∙◌, ap, subst, arith, Bool, true, false, cond, codes, append_assoc, append-nil, Bor, get_or}
use Rattle.comp_model.specs.Model as m
use Rattle.comp_model.specs.declared.row.ScopeKind.TheVariants as kinds
use Rattle.comp_model.specs.CoreModules.{CoreModule}
use Rattle.comp_model.specs.Model.{Leaves, count_defs, defs_of}
use Rattle.comp_model.specs.declared.row.ScopeKind.{ScopeKind}
use Rattle.comp_model.specs.Leb.{uleb}
use Rattle.comp_model.specs.Core.{Text}
use Rattle.comp_model.specs.Payloads.{producers_payload}
use Rattle.comp_model.specs.declared.row.Row.TheVariants as rows
use Rattle.comp_model.specs.declared.row.Row.{Row}
use Rattle.comp_model.specs.RowNumbers.{same_row}
use Rattle.comp_model.specs.ItemNames.{has_names}
use Rattle.comp_model.proofs.Tests.{same_row-true}
use Rattle.comp_scopes.specs.Form.{coded_node, custom_node}
use Rattle.comp_scopes.specs.Resolved.{binary_of, binary_of_leaf, binary_of_defs, section_of}
use Rattle.comp_wire.specs.Sections.{groups, sections, preamble}
use Rattle.comp_wire.specs.NameSection.{section_of_payload}
use Rattle.comp_wire.specs.Spelled.{item_of_node, items_of, spell_node, spell_declarations, spell_type_scope, spell_component, declarations_of, FitsTypeScope, FitsDeclarations}
use Rattle.comp_wire.specs.Table as t
use Rattle.comp_wire.proofs.Lists.{dropped}
use Rattle.comp_tree.specs.Model.{scope_of}
use Rattle.comp_tree.specs.Lists.{defs_listed}
use Rattle.comp_tree.specs.declared.tree.Leaf.{Leaf}
use Rattle.comp_tree.specs.declared.tree.Leaf as l
use Rattle.comp_tree.specs.declared.tree.Node.{Node}
use Rattle.comp_tree.specs.declared.tree.Def.{Def}
use Rattle.comp_tree.specs.declared.tree.Scope.{Scope}
use Rattle.comp_tree.specs.declared.tree.Scope as sc
use Rattle.comp_tree.proofs.Leaves.{scope_fields, leaf_node, leaf_nodes}
use Rattle.byte_table.specs.Lines.{type_kind}
use Rattle.byte_table.specs.declared.line.TypeKind.{TypeKind}
use Rattle.byte_table.specs.declared.line.TypeKind.TheVariants as type_kinds
use Rattle.tree_write.specs.Wire.{the_encoding, wire_leaf, wire_node, wire_nodes, wire_node_of_def, wire_items, wire_declarations, wire_scope, payload_of, DeclarationsFit}
use Rattle.tree_write.proofs.Due.{due}
use Rattle.tree_write.proofs.Fitted.{declarations_fit}

scope_binary : (x : m.Scope) → binary_of_leaf the_encoding (m.scope x) ≡ m.scope (binary_of the_encoding x)
scope_binary (m.scope_of k id label ds) = refl

no_custom : (k : TypeKind) (x y : Text) (ls : Leaves) → spell_node (custom_node x y) (declarations_of (type_kind k)) ≡ spell_node (m.row rows.Producers ls) (declarations_of (type_kind k))
no_custom type_kinds.Component x y ls = refl
no_custom type_kinds.Instance x y ls = refl
no_custom type_kinds.Module x y ls = refl

pub coded_declaration : (u : Row) (ls bs : Leaves) (k : TypeKind) → spell_node (coded_node the_encoding u ls bs) (declarations_of (type_kind k)) ≡ spell_node (m.row u bs) (declarations_of (type_kind k))
coded_declaration u ls bs k = go (same_row u rows.Producers) refl
  where
    go : (b : Bool) → same_row u rows.Producers ≡ b → spell_node (cond b (custom_node (codes "producers") (producers_payload ls)) (m.row u bs)) (declarations_of (type_kind k)) ≡ spell_node (m.row u bs) (declarations_of (type_kind k))
    go true e = no_custom k (codes "producers") (producers_payload ls) bs ∙ ap (λ v. spell_node (m.row v bs) (declarations_of (type_kind k))) (sym (same_row-true u rows.Producers e))
    go false e = refl

no_names_declared : (payload : List ℕ) (k : TypeKind) → spell_declarations (section_of_payload payload) (declarations_of (type_kind k)) ≡ []
no_names_declared [] k = refl
no_names_declared (b ∷ bs) type_kinds.Component = refl
no_names_declared (b ∷ bs) type_kinds.Instance = refl
no_names_declared (b ∷ bs) type_kinds.Module = refl

-- the names of a scope
names_behind : (x : m.Scope) → section_of the_encoding x (has_names x) ≡ section_of_payload (payload_of x)
names_behind (m.scope_of kinds.Component id label ds) = due id label ds
names_behind (m.scope_of kinds.ComponentType id label ds) = refl
names_behind (m.scope_of kinds.InstanceType id label ds) = refl
names_behind (m.scope_of kinds.ModuleType id label ds) = refl

whole : (x : m.Scope) → defs_of (binary_of the_encoding x) ≡ binary_of_defs the_encoding (defs_of x) (section_of_payload (payload_of x))
whole (m.scope_of k id label ds) = ap (binary_of_defs the_encoding ds) (names_behind (m.scope_of k id label ds))

spelled_type : (x : m.Scope) (k : ScopeKind) → spell_type_scope x k ≡ uleb (count_defs (defs_of x)) ++ spell_declarations (defs_of x) (declarations_of k)
spelled_type (m.scope_of kd id label ds) k = refl

pub spelled_whole : (x : m.Scope) → spell_component x ≡ preamble ++ sections (groups (items_of (defs_of x)))
spelled_whole (m.scope_of kd id label ds) = refl

-- a type has no name section
no_payload : (x : m.Scope) (k : TypeKind) → FitsTypeScope (binary_of the_encoding x) (type_kind k) → payload_of x ≡ []
no_payload (m.scope_of kinds.Component id label ds) type_kinds.Component h = absurd (go h.0)
  where
    go : kinds.Component ≡ kinds.ComponentType → ⊥
    go e = cc
no_payload (m.scope_of kinds.Component id label ds) type_kinds.Instance h = absurd (go h.0)
  where
    go : kinds.Component ≡ kinds.InstanceType → ⊥
    go e = cc
no_payload (m.scope_of kinds.Component id label ds) type_kinds.Module h = absurd (go h.0)
  where
    go : kinds.Component ≡ kinds.ModuleType → ⊥
    go e = cc
no_payload (m.scope_of kinds.ComponentType id label ds) k h = refl
no_payload (m.scope_of kinds.InstanceType id label ds) k h = refl
no_payload (m.scope_of kinds.ModuleType id label ds) k h = refl

type_parts : (x : m.Scope) (k : ScopeKind) → FitsTypeScope x k → FitsDeclarations (defs_of x) (declarations_of k)
type_parts (m.scope_of kd id label ds) k h = h.4

module _ (cores : List CoreModule) where
  pub wire_whole : (x : Leaf) (b : Bor Scope) → x ≡ l.Scope b → wire_leaf cores x ≡ m.scope (wire_scope cores b.now)
  wire_whole x b e = ap (wire_leaf cores) e ∙ scope_binary (scope_of cores b.now)

  pub wire_one : (x : Leaf) (b : Bor Node) → x ≡ l.Node b → wire_leaf cores x ≡ m.node (wire_node cores b.now)
  wire_one x b e = ap (wire_leaf cores) e ∙ ap (binary_of_leaf the_encoding) (leaf_node cores b)

  pub wire_each : (x : Leaf) (b : Bor (List Node)) → x ≡ l.Nodes b → wire_leaf cores x ≡ m.nodes (wire_nodes cores b.now)
  wire_each x b e = ap (wire_leaf cores) e ∙ ap (binary_of_leaf the_encoding) (leaf_nodes cores b)

  -- ---- the declarations of a type

  -- one declaration in front of those behind it
  pub declared : (ds : List Def) (i : ℕ) (d : Def) (k : TypeKind) → i < length ds → d ≡ get_or ds i d
      → spell_node (wire_node cores d.node) (declarations_of (type_kind k)) ++ wire_declarations cores (drop (i + 1) ds) (declarations_of (type_kind k)) ≡ wire_declarations cores (drop i ds) (declarations_of (type_kind k))
  declared ds i d k h e =
      ap (λ x. x ++ wire_declarations cores (drop (i + 1) ds) (declarations_of (type_kind k))) (sym (coded_declaration d.node.row _ _ k)) ∙ ap (λ xs. wire_declarations cores xs (declarations_of (type_kind k))) (sym (dropped ds i d h e))

  behind : (ds : List Def) (more : m.Defs) (f : t.Family) → spell_declarations (binary_of_defs the_encoding (defs_listed cores ds) more) f ≡ wire_declarations cores ds f ++ spell_declarations more f
  behind [] more f = refl
  behind (d ∷ ds) more f = ap (λ x. spell_node (wire_node_of_def cores d.node) f ++ x) (behind ds more f) ∙ sym (append_assoc (spell_node (wire_node_of_def cores d.node) f) (wire_declarations cores ds f) (spell_declarations more f))

  counted : (ds : List Def) (more : m.Defs) → count_defs (binary_of_defs the_encoding (defs_listed cores ds) more) ≡ length ds + count_defs more
  counted [] more = omega arith
  counted (d ∷ ds) more = let e = counted ds more in omega arith

  pub scope_defs : (x : Scope) → defs_of (wire_scope cores x) ≡ binary_of_defs the_encoding (defs_listed cores (sc.out-Scope x).defs.now) (section_of_payload (payload_of (scope_of cores x)))
  scope_defs x = whole (scope_of cores x) ∙ ap (λ ds. binary_of_defs the_encoding ds (section_of_payload (payload_of (scope_of cores x)))) (ap defs_of (scope_fields cores x))

  pub type_spelled : (x : Scope) (k : TypeKind) → FitsTypeScope (wire_scope cores x) (type_kind k) → spell_type_scope (wire_scope cores x) (type_kind k) ≡ uleb (length (sc.out-Scope x).defs.now) ++ wire_declarations cores (sc.out-Scope x).defs.now (declarations_of (type_kind k))
  type_spelled x k h =
      let ds = (sc.out-Scope x).defs.now in
      let f = declarations_of (type_kind k) in
      let own = scope_defs x ∙ ap (λ p. binary_of_defs the_encoding (defs_listed cores ds) (section_of_payload p)) (no_payload (scope_of cores x) k h) in
      let size : count_defs (binary_of_defs the_encoding (defs_listed cores ds) m.no_def) ≡ length ds = let e = counted ds m.no_def in omega (arith, e) in
      spelled_type (wire_scope cores x) (type_kind k)
      ∙ ap (λ y. uleb (count_defs y) ++ spell_declarations y f) own
      ∙ ap (λ n. uleb n ++ spell_declarations (binary_of_defs the_encoding (defs_listed cores ds) m.no_def) f) size
      ∙ ap (λ y. uleb (length ds) ++ y) (behind ds m.no_def f ∙ append-nil (wire_declarations cores ds f))

  pub type_fits : (x : Scope) (k : TypeKind) → FitsTypeScope (wire_scope cores x) (type_kind k) → DeclarationsFit cores (sc.out-Scope x).defs.now (declarations_of (type_kind k))
  type_fits x k h = declarations_fit cores _ _ _ (subst (λ ds. FitsDeclarations ds (declarations_of (type_kind k))) (scope_defs x) (type_parts (wire_scope cores x) (type_kind k) h))

  pub items_behind : (ds : List Def) (more : m.Defs) → items_of (binary_of_defs the_encoding (defs_listed cores ds) more) ≡ wire_items cores ds ++ items_of more
  items_behind [] more = refl
  items_behind (d ∷ ds) more = ap (λ x. item_of_node (wire_node_of_def cores d.node) ∷ x) (items_behind ds more)
