-- A custom section of names holds no core module.
use Rattle.std.proofs.Common.{◌≡◌, Bool, true, false, ◌||◌, List, [], ◌∷◌, refl, sym, ◌∙◌, ap}
use Rattle.comp_model.specs.Model as m
use Rattle.comp_model.specs.Model.{Leaf, Leaves, no_leaf, ◌▸◌, row, Names, define, Defs, no_def, one_def, Scope, scope_of}
use Rattle.comp_model.specs.Rows.{Shape, a_payload, leaves_of, ShapedLeaf, ShapedLeaves, ShapedDefs, FitsRows}
use Rattle.comp_model.specs.declared.row.Row.{Row}
use Rattle.comp_model.specs.declared.row.Row.TheVariants as rows
use Rattle.comp_model.specs.declared.row.ScopeKind.{ScopeKind}
use Rattle.comp_model.specs.declared.row.ScopeKind.TheVariants as kinds
use Rattle.print_table.specs.HasText.{is_core_module, leaf_holds_module, leaves_hold_module, definitions_hold_module, holds_module}
use Rattle.print_table.specs.TextOf.{is_name_section, unless_names, unnamed_leaf, unnamed_leaves, unnamed_defs, unnamed}
use Rattle.print_table.proofs.PrintableLeaves.{not_true}

no_module : (l : Leaf) → ShapedLeaf l a_payload → leaf_holds_module l ≡ false
no_module (m.scope (scope_of kinds.Component id label ds)) h = absurd (not_true h.0)
no_module (m.scope (scope_of kinds.ComponentType id label ds)) h = absurd (not_true h.0)
no_module (m.scope (scope_of kinds.InstanceType id label ds)) h = absurd (not_true h.0)
no_module (m.scope (scope_of kinds.ModuleType id label ds)) h = absurd (not_true h.0)
no_module l h = refl

payload_holds_none : (ls : Leaves) → ShapedLeaves ls (a_payload ∷ []) → leaves_hold_module ls ≡ false
payload_holds_none no_leaf h = absurd h
payload_holds_none (l ▸ no_leaf) h = ap (λ b. b || false) (no_module l h.0)
payload_holds_none (l ▸ (k ▸ ls)) h = absurd h.1

custom_holds_none : (ls : Leaves) → is_name_section rows.Custom ls ≡ true → ShapedLeaves ls (leaves_of rows.Custom) → leaves_hold_module ls ≡ false
custom_holds_none (m.text x ▸ ls) e h = payload_holds_none ls h.1
custom_holds_none no_leaf e h = absurd h
custom_holds_none _ e h = absurd (not_true e)

section_holds_none : (t : Row) (ls : Leaves) → is_name_section t ls ≡ true → ShapedLeaves ls (leaves_of t) → (is_core_module t || leaves_hold_module ls) ≡ false
section_holds_none rows.Custom ls e h = custom_holds_none ls e h
section_holds_none _ ls e h = absurd (not_true e)

unless : (v : Bool) (names : Names) (t : Row) (ls : Leaves) (ds : Defs) (b c : Bool) → (v ≡ true → (is_core_module t || b) ≡ false) → leaves_hold_module ls ≡ b → definitions_hold_module ds ≡ c → definitions_hold_module (unless_names v (define names (row t ls)) ds) ≡ ((is_core_module t || b) || c)
unless true names t ls ds b c h e k = k ∙ sym (ap (λ x. x || c) (h refl))
unless false names t ls ds b c h e k = ap (λ x. (is_core_module t || x) || definitions_hold_module ds) e ∙ ap (λ x. (is_core_module t || b) || x) k

mutual
  leaf_holds : (l : Leaf) (s : Shape) → ShapedLeaf l s → leaf_holds_module (unnamed_leaf l) ≡ leaf_holds_module l
  leaf_holds (m.scope (scope_of k id label ds)) s h = defs_hold ds k h.1
  leaf_holds l s h = refl

  leaves_hold : (ls : Leaves) (ss : List Shape) → ShapedLeaves ls ss → leaves_hold_module (unnamed_leaves ls) ≡ leaves_hold_module ls
  leaves_hold no_leaf ss h = refl
  leaves_hold (l ▸ ls) [] h = absurd h
  leaves_hold (l ▸ ls) (s ∷ ss) h = ap (λ b. b || leaves_hold_module (unnamed_leaves ls)) (leaf_holds l s h.0) ∙ ap (λ b. leaf_holds_module l || b) (leaves_hold ls ss h.1)

  defs_hold : (ds : Defs) (k : ScopeKind) → ShapedDefs ds k → definitions_hold_module (unnamed_defs ds) ≡ definitions_hold_module ds
  defs_hold no_def k h = refl
  defs_hold (one_def (define names (row t ls)) ds) k h =
      unless (is_name_section t ls) names t (unnamed_leaves ls) (unnamed_defs ds) (leaves_hold_module ls) (definitions_hold_module ds) (λ e. section_holds_none t ls e h.1) (leaves_hold ls (leaves_of t) h.1) (defs_hold ds k h.2)

pub unnamed_holds : (b : Scope) → FitsRows b → holds_module (unnamed b) ≡ holds_module b
unnamed_holds (scope_of k id label ds) h = defs_hold ds k h
