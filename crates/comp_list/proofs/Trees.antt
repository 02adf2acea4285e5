-- The walk over the definitions of a tree.
use Rattle.std.proofs.Common.{◌≡◌, ℕ, ◌+◌, ◌<◌, refl, sym, ap, ◌∙◌, subst, List, ◌∷◌, ◌++◌, length, drop, get_or, append_assoc, append-nil}
use Rattle.comp_model.specs.Model.{Node, row, Defs, one_def, define, no_names}
use Rattle.item_tree.specs.declared.tree.Tree.{Tree}
use Rattle.item_tree.specs.declared.tree.Item.{Item}
use Rattle.item_tree.specs.declared.tree.Item as i
use Rattle.item_tree.specs.declared.tree.ItemCoreType.{ItemCoreType}
use Rattle.item_tree.specs.declared.tree.ItemCoreType as core
use Rattle.item_tree.specs.declared.tree.ItemType.{ItemType}
use Rattle.item_tree.specs.declared.tree.ItemType as ty
use Rattle.item_tree.specs.Model.{item_row, core_type_row, type_row, defs_listed}
use Rattle.item_tree.proofs.Scopes.{component_item, component_type_item, instance_type_item, module_type_item}
use Rattle.comp_list.specs.declared.line.Line.{Line}
use Rattle.comp_list.specs.Listing.{lines_of, defs_lines}
use Rattle.comp_list.specs.Alias.{row_outer}
use Rattle.comp_list.specs.Places.{row_references}
use Rattle.comp_list.specs.Held.{row_lines}
use Rattle.comp_list.specs.Room.{RowFits, DefsFit}
use Rattle.comp_list.proofs.DefSpots.{drop_item}

-- the lines of a tree in others
abbrev pub held_lines : List Item → ℕ → List Defs → List Line
held_lines ds level out = defs_lines (defs_listed ds) level (defs_listed ds ∷ out) 0

module _ (level : ℕ) (out : List Defs) (x : Tree) where
  pub component_lines : (y : Item) → y ≡ i.Component x → held_lines x.defs level out ≡ row_lines (item_row y) level out
  component_lines y e = sym (ap (λ z. row_lines (item_row z) level out) e ∙ ap (λ n. row_lines n level out) (component_item x) ∙ append-nil (held_lines x.defs level out))

  pub module_type_lines : (y : ItemCoreType) → y ≡ core.Module x → held_lines x.defs level out ≡ row_lines (core_type_row y) level out
  module_type_lines y e = sym (ap (λ z. row_lines (core_type_row z) level out) e ∙ ap (λ n. row_lines n level out) (module_type_item x) ∙ append-nil (held_lines x.defs level out))

  pub component_type_lines : (y : ItemType) → y ≡ ty.Component x → held_lines x.defs level out ≡ row_lines (type_row y) level out
  component_type_lines y e = sym (ap (λ z. row_lines (type_row z) level out) e ∙ ap (λ n. row_lines n level out) (component_type_item x) ∙ append-nil (held_lines x.defs level out))

  pub instance_type_lines : (y : ItemType) → y ≡ ty.Instance x → held_lines x.defs level out ≡ row_lines (type_row y) level out
  instance_type_lines y e = sym (ap (λ z. row_lines (type_row z) level out) e ∙ ap (λ n. row_lines n level out) (instance_type_item x) ∙ append-nil (held_lines x.defs level out))

-- the numbers of the tree in a row have room where the row's have
module _ (level : ℕ) (x : Tree) where
  pub component_fits : (y : Item) → y ≡ i.Component x → RowFits (item_row y) level → DefsFit (defs_listed x.defs) level 0
  component_fits y e h = (subst (λ n. RowFits n level) (ap item_row e ∙ component_item x) h).0

  pub module_type_fits : (y : ItemCoreType) → y ≡ core.Module x → RowFits (core_type_row y) level → DefsFit (defs_listed x.defs) level 0
  module_type_fits y e h = (subst (λ n. RowFits n level) (ap core_type_row e ∙ module_type_item x) h).0

  pub component_type_fits : (y : ItemType) → y ≡ ty.Component x → RowFits (type_row y) level → DefsFit (defs_listed x.defs) level 0
  component_type_fits y e h = (subst (λ n. RowFits n level) (ap type_row e ∙ component_type_item x) h).0

  pub instance_type_fits : (y : ItemType) → y ≡ ty.Instance x → RowFits (type_row y) level → DefsFit (defs_listed x.defs) level 0
  instance_type_fits y e h = (subst (λ n. RowFits n level) (ap type_row e ∙ instance_type_item x) h).0

then_defs : (n : Node) (ds : Defs) (level : ℕ) (scopes : List Defs) (k : ℕ)
    → defs_lines (one_def (define no_names n) ds) level scopes k ≡ lines_of level scopes k (row_outer n) 0 (row_references n) ++ (row_lines n (level + 1) scopes ++ defs_lines ds level scopes (k + 1))
then_defs (row t ls) ds level scopes k = refl

-- a definition more, of number k
pub item_listed : (xs : List Item) (j : ℕ) (x : Item) (level deeper : ℕ) (scopes : List Defs) (k next : ℕ) (old mid new whole : List Line) → j < length xs → x ≡ get_or xs j x → deeper ≡ level + 1 → next ≡ k + 1
    → mid ≡ old ++ lines_of level scopes k (row_outer (item_row x)) 0 (row_references (item_row x)) → new ≡ mid ++ row_lines (item_row x) deeper scopes
    → old ++ defs_lines (defs_listed (drop j xs)) level scopes k ≡ whole → new ++ defs_lines (defs_listed (drop (j + 1) xs)) level scopes next ≡ whole
item_listed xs j x level deeper scopes k next old mid new whole h is d e m n w =
    let own = lines_of level scopes k (row_outer (item_row x)) 0 (row_references (item_row x)) in
    let rest = defs_listed (drop (j + 1) xs) in
    ap (λ q. q ++ defs_lines rest level scopes next) (n ∙ ap (λ q. q ++ row_lines (item_row x) deeper scopes) m)
    ∙ append_assoc (old ++ own) (row_lines (item_row x) deeper scopes) (defs_lines rest level scopes next)
    ∙ append_assoc old own (row_lines (item_row x) deeper scopes ++ defs_lines rest level scopes next)
    ∙ ap (λ q. old ++ (own ++ (row_lines (item_row x) q scopes ++ defs_lines rest level scopes next))) d
    ∙ ap (λ q. old ++ (own ++ (row_lines (item_row x) (level + 1) scopes ++ defs_lines rest level scopes q))) e
    ∙ ap (λ q. old ++ q) (sym (then_defs (item_row x) rest level scopes k))
    ∙ ap (λ q. old ++ defs_lines (defs_listed q) level scopes k) (sym (drop_item xs j x h is))
    ∙ w
