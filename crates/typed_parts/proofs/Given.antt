-- From leaves that were read to the value that is made of them, for a rule that equals one with known shapes.
use Rattle.std.proofs.Common.{◌≡◌, ℕ, true, List, sym, ◌∙◌, subst}
use Rattle.comp_model.specs.CoreModules.{CoreModule}
use Rattle.comp_model.specs.Model.{Leaves}
use Rattle.comp_model.specs.Rows.{Shape}
use Rattle.comp_tree.specs.Lists.{listed}
use Rattle.comp_tree.specs.declared.tree.Leaf.{Leaf}
use Rattle.std.proofs.lemmas.Bool.{leb-true}
use Rattle.text_rules.specs.Measure.{Fit, size, most}
use Rattle.text_rules.specs.Rule.{Rule, reads}
use Rattle.wast_grammar.proofs.Moves.{and_true}
use Rattle.wast_grammar.specs.Shape.{sound}
use Rattle.typed_nodes.specs.Fits.{FitLeaves}
use Rattle.wast_grammar.specs.Grammar.{Value}
use Rattle.wast_grammar.specs.Read.{read, reads as is_read, FailsAs}
use Rattle.wast_grammar.specs.Stand.{Stand}
use Rattle.wast_tokens.specs.declared.error.ErrorKind.{ErrorKind}
use Rattle.typed_parts.specs.Leaves.{left_by, AreLeavesOf}
use Rattle.typed_parts.specs.OfShapes.{leaves_fit, is_readable}

-- a reader takes a rule that equals one that it takes
pub taken_alike : (r line : Rule) → r ≡ line → is_readable line ≡ true → Fit r
taken_alike r line e h = subst Fit (sym e) (let a = and_true (sound (reads line)) _ h in record { sound = a.0; small = leb-true (size line) most a.1 })

-- leaves that were read by a rule
abbrev pub WereRead : Rule → List Leaf → Stand → Stand → Type 0
WereRead r xs s t = (v : Value) × (read (reads r) s ≡ is_read v t) × AreLeavesOf r v xs

module _ (line : Rule) (ss : List Shape) (ok : leaves_fit line ss ≡ true) where
  pub fit_read : (r : Rule) → r ≡ line → (s t : Stand) (xs ys : List Leaf) → ys ≡ xs → WereRead r xs s t → (C : List CoreModule) × FitLeaves ss (listed C ys)
  fit_read r q s t xs ys e h =
      let k : WereRead line ys s t = subst (λ z. WereRead line z s t) (sym e) (subst (λ z. WereRead z xs s t) q h) in
      let f = k.2 ss ok in
      (f.0, subst (λ z. FitLeaves ss z) (sym f.1) f.2)

  pub stands_read : {X : Type 0} (f : X → Leaves) (a : X) (r : Rule) → r ≡ line → (s t : Stand) (xs ys : List Leaf) → ys ≡ xs → WereRead r xs s t
      → ((C : List CoreModule) → FitLeaves ss (listed C ys) → f a ≡ listed C ys) → (v : Value) × (read (reads line) s ≡ is_read v t) × (f a ≡ left_by line v)
  stands_read f a r q s t xs ys e h made =
      let k : WereRead line ys s t = subst (λ z. WereRead line z s t) (sym e) (subst (λ z. WereRead z xs s t) q h) in
      let g = k.2 ss ok in
      (k.0, k.1, made g.0 (subst (λ z. FitLeaves ss z) (sym g.1) g.2) ∙ g.1)

-- a refusal is that of the equal rule
pub fails_alike : (r line : Rule) → r ≡ line → (k : ErrorKind) (n : ℕ) (s t : Stand) → FailsAs k n t (read (reads r) s) → FailsAs k n t (read (reads line) s)
fails_alike r line q k n s t h = subst (λ z. FailsAs k n t (read (reads z) s)) q h
