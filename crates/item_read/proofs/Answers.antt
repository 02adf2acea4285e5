-- The tree of a component that was read stands for it.
use Rattle.std.proofs.Common.{◌≡◌, ℕ, ◌≤◌, List, length, sym, ap, ◌∙◌, subst}
use Rattle.comp_model.specs.Model.{kind_of}
use Rattle.comp_wire.specs.Read.{Reads}
use Rattle.comp_wire.proofs.Fit.{fits_sections}
use Rattle.wire_tree.specs.Model.{scope_of}
use Rattle.wire_tree.specs.declared.tree.Scope.{Scope}
use Rattle.wire_read.specs.Answer.{bytes_limit, IsShallow}
use Rattle.item_tree.specs.declared.tree.Tree.{Tree}
use Rattle.item_tree.specs.Model.{scope_of_tree, component_of}
use Rattle.item_read.specs.Scopes.{ScopeFits}
use Rattle.item_read.proofs.DefinitionFits.{component_fits}

stands : (bytes : List ℕ) (x : Scope) (t : Tree) → Reads bytes (scope_of x) → scope_of_tree (kind_of (scope_of x)) t ≡ scope_of x → component_of t ≡ scope_of x
stands bytes x t reads e = ap (λ k. scope_of_tree k t) (sym reads.fits.kind) ∙ e

pub tree_read : (bytes : List ℕ) (x : Scope) (t : Tree) → length bytes ≤ bytes_limit → Reads bytes (scope_of x) → IsShallow (scope_of x) → scope_of_tree (kind_of (scope_of x)) t ≡ scope_of x
    → (length bytes ≤ bytes_limit) × Reads bytes (component_of t) × IsShallow (component_of t)
tree_read bytes x t small reads shallow e =
    let same : scope_of x ≡ component_of t = sym (stands bytes x t reads e) in
    (small, subst (Reads bytes) same reads, subst IsShallow same shallow)

-- what is read has the shapes that its conversion asks for
pub read_fits : (bytes : List ℕ) (x : Scope) → Reads bytes (scope_of x) → ScopeFits (scope_of x)
read_fits bytes x reads = component_fits (scope_of x) (fits_sections (scope_of x) reads.fits)
