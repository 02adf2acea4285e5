-- From what is read by a rule to the value that stands for it.
use Rattle.std.proofs.Common.{◌≡◌, true, not, List, sym, ap, ◌∙◌, subst}
use Rattle.std.specs.List.{list_all}
use Rattle.std.proofs.lemmas.Bool.{leb-true}
use Rattle.comp_model.specs.CoreModules.{CoreModule}
use Rattle.comp_model.specs.Model.{Leaves}
use Rattle.comp_model.specs.Rows.{Shape, is_module}
use Rattle.comp_tree.specs.Lists.{listed}
use Rattle.comp_tree.specs.declared.tree.Leaf.{Leaf}
use Rattle.text_rules.specs.LeafTests.{fits_leaves}
use Rattle.text_rules.specs.Made.{leaves_from}
use Rattle.text_rules.specs.Measure.{Fit, size, most}
use Rattle.text_rules.specs.Rule.{Rule, reads}
use Rattle.text_rules.specs.Tests.{all}
use Rattle.tree_build.specs.Cores.{fields_read, cores_of}
use Rattle.tree_read.specs.Left.{AreLeft}
use Rattle.tree_read.specs.declared.left.LeftParts.{LeftParts}
use Rattle.typed_nodes.specs.Fits.{FitLeaves}
use Rattle.wast_grammar.proofs.Moves.{and_true}
use Rattle.wast_grammar.proofs.Sound.{read_sound}
use Rattle.wast_grammar.specs.Grammar.{Value}
use Rattle.wast_grammar.specs.OfText.{is_fresh}
use Rattle.wast_grammar.specs.Read.{read, reads as is_read}
use Rattle.wast_grammar.specs.Shape.{sound}
use Rattle.wast_grammar.specs.Stand.{Stand}
use Rattle.typed_parts.specs.Leaves.{left_by, AreLeavesOf}
use Rattle.typed_parts.specs.OfShapes.{leaves_fit, is_readable}
use Rattle.typed_parts.proofs.Leaving.{LeavesSorts, NamesOfText, line_fits, loose_listed}

-- what was read by a rule
abbrev pub WasRead : Rule → LeftParts → Stand → Stand → Type 0
WasRead r x s t = (v : Value) × (read (reads r) s ≡ is_read v t) × AreLeft r x v

-- a reader takes the rule
pub readable_fits : (r line : Rule) → r ≡ line → is_readable line ≡ true → Fit r
readable_fits r line e h = subst Fit (sym e) (let a = and_true (sound (reads line)) _ h in record { sound = a.0; small = leb-true (size line) most a.1 })

module _ (sorted : LeavesSorts) (named : NamesOfText) (line : Rule) (ss : List Shape) (ok : leaves_fit line ss ≡ true) (readable : is_readable line ≡ true) where
  -- the leaves that were left fit, as they stand in the tree
  left_fits : (s t : Stand) (x : LeftParts) (ys : List Leaf) → ys ≡ x.leaves.items → (v : Value) → read (reads line) s ≡ is_read v t → AreLeft line x v
      → (left_by line v ≡ listed (cores_of x.cores) ys) × FitLeaves ss (left_by line v)
  left_fits s t x ys e v r k =
      let d = read_sound (reads line) s t v (and_true (sound (reads line)) _ readable).0 r in
      let good = line_fits sorted named line ss ok s t v d.0 in
      let b = and_true (all line (λ x. fits_leaves x.leaves ss)) (list_all (λ s. not (is_module s)) ss) (and_true (is_fresh (reads line)) _ ok).1 in
      let same = ap (λ a. leaves_from a.leaves) k in
      (same ∙ loose_listed (fields_read x.cores) (cores_of x.cores) x.leaves.items ss b.1 (subst (λ q. FitLeaves ss q) same good).0 ∙ ap (listed (cores_of x.cores)) (sym e), good)

  pub fit_given : (r : Rule) → r ≡ line → (s t : Stand) (x : LeftParts) (ys : List Leaf) → ys ≡ x.leaves.items → WasRead r x s t → (C : List CoreModule) × FitLeaves ss (listed C ys)
  fit_given r q s t x ys e h =
      let k : WasRead line x s t = subst (λ z. WasRead z x s t) q h in
      let f = left_fits s t x ys e k.0 k.1 k.2 in
      (cores_of x.cores, subst (λ z. FitLeaves ss z) f.0 f.1)

  pub stands_given : {X : Type 0} (f : X → Leaves) (a : X) (r : Rule) → r ≡ line → (s t : Stand) (x : LeftParts) (ys : List Leaf) → ys ≡ x.leaves.items → WasRead r x s t
      → ((C : List CoreModule) → FitLeaves ss (listed C ys) → f a ≡ listed C ys) → (v : Value) × (read (reads line) s ≡ is_read v t) × (f a ≡ left_by line v)
  stands_given f a r q s t x ys e h made =
      let k : WasRead line x s t = subst (λ z. WasRead z x s t) q h in
      let g = left_fits s t x ys e k.0 k.1 k.2 in
      (k.0, k.1, made (cores_of x.cores) (subst (λ z. FitLeaves ss z) g.0 g.1) ∙ sym g.0)

-- the leaves among what was read by a rule are those that it leaves
pub leaves_read : LeavesSorts → NamesOfText → (r : Rule) → sound (reads r) ≡ true → (s t : Stand) (x : LeftParts) → WasRead r x s t
    → (v : Value) × (read (reads r) s ≡ is_read v t) × AreLeavesOf r v x.leaves.items
leaves_read sorted named r ok s t x h = (
  h.0,
  h.1,
  λ ss good.
      let d = read_sound (reads r) s t h.0 ok h.1 in
      let fit = line_fits sorted named r ss good s t h.0 d.0 in
      let b = and_true (all r (λ p. fits_leaves p.leaves ss)) (list_all (λ q. not (is_module q)) ss) (and_true (is_fresh (reads r)) _ good).1 in
      let same = ap (λ a. leaves_from a.leaves) h.2 in
      (cores_of x.cores, sym (same ∙ loose_listed (fields_read x.cores) (cores_of x.cores) x.leaves.items ss b.1 (subst (λ q. FitLeaves ss q) same fit).0), fit),
)
