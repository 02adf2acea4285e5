-- References by an index, as loose leaves.
use Rattle.std.proofs.Common.{◌≡◌, ℕ, Bool, List, [], ◌∷◌, length, refl, ap, sym, ◌∙◌, Bor, None, Result, Ok, Err}
use Rattle.std.specs.Prelude.{IfOk}
use Rattle.std.specs.declared.alloc.AllocError.{AllocError}
use Rattle.comp_model.specs.declared.Space.{Space}
use Rattle.comp_model.specs.Core as core
use Rattle.comp_model.specs.CoreModules.{CoreModule}
use Rattle.comp_model.specs.Model as m
use Rattle.comp_tree.specs.Model.{core_reference, index_of, leaf_of, path_of}
use Rattle.comp_tree.specs.declared.tree.Leaf.{Leaf}
use Rattle.wast_parser.specs.declared.index.Index.{Index}
use Rattle.wast_parser.specs.declared.index.Index.TheVariants.{Num, Id}
use Rattle.text_rules.specs.Made.{heap_of, join}
use Rattle.text_rules.specs.Makes.{a_leaf}
use Rattle.tree_build.specs.Adds.{Adds}
use Rattle.tree_build.specs.Held.{core_number, held, loose, unnamed}
use Rattle.tree_build.specs.declared.scratch.Scratch.{Scratch}
use Rattle.tree_build.proofs.LeafKinds.{no_core}

-- a reference is no core module
pub no_module : (x : Leaf) (u : Space) (t : m.Target) → ((cs : List CoreModule) → leaf_of cs x ≡ m.ref u t) → None ≡ core_number x
no_module x u t h = no_core x (λ n e. absurd (let z : m.absent ≡ m.ref u t = sym (ap (leaf_of []) e) ∙ h [] in cc))

-- a leaf that was added as it stands loose is the reference that it is
pub reference_added : {X : Type 0} (r : Result X AllocError) (p q : Scratch) (x : Leaf) (u : Space) (t : m.Target) → ((cs : List CoreModule) → leaf_of cs x ≡ m.ref u t) → Adds r p q (λ fs cs. a_leaf (loose fs cs x)) → Adds r p q (λ fs cs. a_leaf (m.ref u t))
reference_added (Ok y) p q x u t e h = (h.0, λ fs cs f. h.1 fs cs f ∙ ap (λ z. join (held fs cs p) (a_leaf z)) (ap (λ o. unnamed fs o (leaf_of cs x)) (sym (no_module x u t e)) ∙ e cs))
reference_added (Err y) p q x u t e h = tt

-- a path without names is its root
pub no_steps : (i : Index) (ts : List (Bor core.Text)) → length ts ≡ 0 → index_of core.outward i ≡ path_of i ts
no_steps i [] h = refl
no_steps i (t ∷ ts) h = absurd (cc)

-- ---- core value types

pub heap_index : (b : Bool) (u : Space) (w : core.Reach) (i : Index) → m.core_value (core_reference b w i) ∷ [] ≡ heap_of b (m.ref u (index_of w i) ∷ [])
heap_index b u w (Num n s) = refl
heap_index b u w (Id x) = refl

pub made_heap : {E : Type 0} (f : Leaf → m.Leaf) (r : Result Leaf E) (x : m.Leaf) (ls : List m.Leaf) → x ∷ [] ≡ ls → IfOk r (λ z. f z ≡ x) → IfOk r (λ z. f z ∷ [] ≡ ls)
made_heap f (Ok z) x ls e h = ap (λ y. y ∷ []) h ∙ e
made_heap f (Err z) x ls e h = tt
