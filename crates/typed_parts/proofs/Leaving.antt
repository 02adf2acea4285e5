-- What a rule leaves fits the shapes that its sorts fit.
use Rattle.std.proofs.Common.{◌≡◌, Bool, true, false, not, List, [], ◌∷◌, map, refl, sym, ap, ◌∙◌}
use Rattle.std.specs.List.{list_all}
use Rattle.comp_model.specs.CoreModules.{CoreModule, Field}
use Rattle.comp_model.specs.Model.{◌▸◌}
use Rattle.comp_model.specs.Rows.{Shape, is_module, ShapedLeaf, ShapedLeaves}
use Rattle.comp_tree.specs.Lists.{listed}
use Rattle.comp_tree.specs.Model.{leaf_of}
use Rattle.comp_tree.specs.declared.tree.Leaf as l
use Rattle.text_rules.specs.HasSorts.{Has}
use Rattle.text_rules.specs.LeafTests.{fits_leaves}
use Rattle.text_rules.specs.Made.{leaves_from}
use Rattle.text_rules.specs.Makes.{makes}
use Rattle.text_rules.specs.Rule.{Rule, reads}
use Rattle.text_rules.specs.Sorts.{Parts}
use Rattle.text_rules.specs.Tests.{all}
use Rattle.tree_build.specs.Held.{loose}
use Rattle.wast_grammar.proofs.Moves.{and_true}
use Rattle.wast_grammar.specs.Grammar.{Grammar, Value}
use Rattle.wast_grammar.specs.OfText.{IsOfText, is_fresh}
use Rattle.wast_grammar.specs.Spells.{Spells}
use Rattle.wast_grammar.specs.Stand.{Stand}
use Rattle.typed_nodes.specs.Fits.{FitLeaves}
use Rattle.typed_parts.specs.Leaves.{left_by}
use Rattle.typed_parts.specs.OfShapes.{leaves_fit}
use Rattle.typed_parts.proofs.LeafFits.{leaves_fit_shapes}

not_true : false ≡ true → ⊥
not_true e = absurd (cc)

is_false : (b : Bool) → not b ≡ true → b ≡ false
is_false true e = absurd (not_true e)
is_false false e = refl

abbrev pub LeavesSorts : Type 0
LeavesSorts = (r : Rule) (s t : Stand) (v : Value) → Spells (reads r) s t v → IsOfText v → (p : Parts → Bool) → all r p ≡ true → Has p (makes v r)

abbrev pub NamesOfText : Type 0
NamesOfText = (g : Grammar) (s t : Stand) (v : Value) → is_fresh g ≡ true → Spells g s t v → IsOfText v

-- what a rule leaves of a value fits the shapes
pub line_fits : LeavesSorts → NamesOfText → (line : Rule) (ss : List Shape) → leaves_fit line ss ≡ true → (s t : Stand) (v : Value) → Spells (reads line) s t v → FitLeaves ss (left_by line v)
line_fits sorted named line ss ok s t v d =
    let a = and_true (is_fresh (reads line)) _ ok in
    let b = and_true (all line (λ x. fits_leaves x.leaves ss)) _ a.1 in
    let h = sorted line s t v d (named (reads line) s t v a.0 d) (λ x. fits_leaves x.leaves ss) b.0 in
    leaves_fit_shapes h.2.leaves ss h.1

-- leaves that stand loose are as in the tree, where none is a core module
module _ (fs : List (List Field)) (cs : List CoreModule) where
  loose_leaf : (x : l.Leaf) (s : Shape) → is_module s ≡ false → ShapedLeaf (loose fs cs x) s → loose fs cs x ≡ leaf_of cs x
  loose_leaf (l.Core n) s e h = absurd (not_true (sym e ∙ h))
  loose_leaf _ s e h = refl

  pub loose_listed : (xs : List l.Leaf) (ss : List Shape) → list_all (λ s. not (is_module s)) ss ≡ true → ShapedLeaves (leaves_from (map (loose fs cs) xs)) ss → leaves_from (map (loose fs cs) xs) ≡ listed cs xs
  loose_listed [] ss e h = refl
  loose_listed (x ∷ xs) [] e h = absurd h
  loose_listed (x ∷ xs) (s ∷ ss) e h =
      let a = and_true (not (is_module s)) _ e in
      ap (λ q. q ▸ leaves_from (map (loose fs cs) xs)) (loose_leaf x s (is_false (is_module s) a.0) h.0) ∙ ap (◌▸◌ (leaf_of cs x)) (loose_listed xs ss a.1 h.1)
