-- A leaf that is a reference by an index or a path, as its root and the names of exports behind it.
use Rattle.std.proofs.Common.{◌≡◌, ℕ, suc, ◌≤◌, Bool, true, false, cond, List, [], ◌∷◌, length, refl, sym, ap, ◌∙◌, subst, arith, Bor}
use Rattle.comp_model.specs.declared.Space.{Space}
use Rattle.comp_model.specs.CoreModules.{CoreModule}
use Rattle.comp_model.specs.Core as core
use Rattle.comp_model.specs.Core.{Text, outward}
use Rattle.comp_model.specs.Model as m
use Rattle.comp_model.specs.Model.{Path, export_of}
use Rattle.comp_model.specs.Rows.{a_ref, fits_reach, fits_path, is_core_path, has_one_step, has_steps}
use Rattle.comp_model.proofs.Tests.{same_space-true}
use Rattle.wast_parser.specs.declared.index.Index.{Index}
use Rattle.wast_parser.specs.declared.index.Index.TheVariants.{Num, Id}
use Rattle.comp_tree.specs.Model.{leaf_of, path_of, path_from, root_of}
use Rattle.comp_tree.specs.declared.tree.Leaf as l
use Rattle.typed_nodes.proofs.Fitting.{may_be, no_core, shaped_may}
use Rattle.typed_nodes.specs.Fits.{FitLeaf}
use Rattle.typed_nodes.specs.References.{root_at, steps_at}

not_true : false ≡ true → ⊥
not_true e = absurd (cc)

may_refer : (C : List CoreModule) (x : l.Leaf) (u : Space) → FitLeaf (a_ref u) (leaf_of C x) → may_be (a_ref u) (leaf_of C x) ≡ true → ((w : _) (n : _) (o : _) → x ≡ l.Numeral w n o → ⊥) → ((w : _) (r : _) (i : _) → x ≡ l.Name w r i → ⊥) → ((w : _) (p : _) → x ≡ l.Path w p → ⊥) → ⊥
may_refer C (l.Numeral w n o) u f e g h k = g w n o refl
may_refer C (l.Name w r i) u f e g h k = h w r i refl
may_refer C (l.Path w p) u f e g h k = k w p refl
may_refer C (l.Inline' w p r v q s xs) u f e g h k = not_true f.0.1.0
may_refer C (l.Bundle' w p r v q s xs) u f e g h k = not_true f.0.1.0
may_refer C (l.Core n) u f e g h k = no_core C n (a_ref u) refl refl e
may_refer C _ u f e g h k = not_true e

-- it is of one of three kinds
pub only_reference : (C : List CoreModule) (x : l.Leaf) (u : Space) → FitLeaf (a_ref u) (leaf_of C x) → ((w : _) (n : _) (o : _) → x ≡ l.Numeral w n o → ⊥) → ((w : _) (r : _) (i : _) → x ≡ l.Name w r i → ⊥) → ((w : _) (p : _) → x ≡ l.Path w p → ⊥) → ⊥
only_reference C x u f g h k = may_refer C x u f (shaped_may (leaf_of C x) (a_ref u) f.0) g h k

outward_reach : (u : Space) (r : core.Reach) → fits_reach (a_ref u) r ≡ true → r ≡ outward
outward_reach u core.outward h = refl
outward_reach u core.own h = absurd (not_true h)
outward_reach u (core.at_place p) h = absurd (not_true h)

name_is : (u w : Space) (r : core.Reach) (x : core.Id) → FitLeaf (a_ref u) (m.ref w (m.name r x)) → m.ref u (m.name outward x) ≡ m.ref w (m.name r x)
name_is u w r x f = ap (λ q. m.ref q (m.name outward x)) (same_space-true u w f.0.0) ∙ ap (λ q. m.ref w (m.name q x)) (sym (outward_reach u r f.0.1))

refers : (C : List CoreModule) (x : l.Leaf) (u : Space) → FitLeaf (a_ref u) (leaf_of C x) → may_be (a_ref u) (leaf_of C x) ≡ true → m.ref u (path_of (root_at x) (steps_at x)) ≡ leaf_of C x
refers C (l.Numeral w n o) u f e = ap (λ q. m.ref q (m.numeral o.offset n)) (same_space-true u w f.0.0)
refers C (l.Name w r i) u f e = name_is u w _ _ f
refers C (l.Path w p) u f e = ap (λ q. m.ref q (path_of p.now.root p.now.exports.now)) (same_space-true u w f.0.0)
refers C (l.Inline' w p r v q s xs) u f e = absurd (not_true f.0.1.0)
refers C (l.Bundle' w p r v q s xs) u f e = absurd (not_true f.0.1.0)
refers C (l.Core n) u f e = absurd (no_core C n (a_ref u) refl refl e)
refers C _ u f e = absurd (not_true e)

-- its two parts make it
pub reference_is : (C : List CoreModule) (x : l.Leaf) (u : Space) → FitLeaf (a_ref u) (leaf_of C x) → m.ref u (path_of (root_at x) (steps_at x)) ≡ leaf_of C x
reference_is C x u f = refers C x u f (shaped_may (leaf_of C x) (a_ref u) f.0)

-- ---- behind a core instance stands one name at most

two_steps : (q : Path) (x y : Text) (ts : List (Bor Text)) → has_one_step (path_from (export_of (export_of q x) y) ts) ≡ false
two_steps q x y [] = refl
two_steps q x y (t ∷ ts) = two_steps (export_of q x) y t.now ts

core_step : (u : Space) (p : Path) → is_core_path u ≡ true → fits_path (a_ref u) u p ≡ true → has_one_step p ≡ true
core_step u p c f = ap (λ b. cond b (has_one_step p) (has_steps p)) (sym c) ∙ f

few_steps : (u : Space) (i : Index) (ts : List (Bor Text)) → is_core_path u ≡ true → FitLeaf (a_ref u) (m.ref u (path_of i ts)) → length ts ≤ 1
few_steps u i [] c f = omega arith
few_steps u i (t ∷ []) c f = omega arith
few_steps u i (t ∷ s ∷ ts) c f = absurd (not_true (sym (two_steps (root_of i) t.now s.now ts) ∙ core_step u _ c f.0.1))

pub one_step : (C : List CoreModule) (x : l.Leaf) (u : Space) → is_core_path u ≡ true → FitLeaf (a_ref u) (leaf_of C x) → length (steps_at x) ≤ 1
one_step C x u c f = few_steps u (root_at x) (steps_at x) c (subst (λ y. FitLeaf (a_ref u) y) (sym (reference_is C x u f)) f)
