-- What becomes of loose parts.
use Rattle.std.specs.Prelude.{◌≡◌, ℕ, List, Result, Ok, Err, ⊤, take, drop}
use Rattle.std.specs.declared.alloc.AllocError.{AllocError}
use Rattle.comp_model.specs.Model as m
use Rattle.comp_tree.specs.Lists.{node_of}
use Rattle.comp_tree.specs.declared.tree.Node.{Node}
use Rattle.comp_model.specs.CoreModules.{CoreModule, Field}
use Rattle.text_rules.specs.Made.{Made, join, front, behind, first_row, leaves_from}
use Rattle.text_rules.specs.Rule.{Wraps}
use Rattle.text_rules.specs.Makes.{wrapped}
use Rattle.tree_build.specs.Cores.{Final, Grows}
use Rattle.tree_build.specs.Held.{held}
use Rattle.tree_build.specs.declared.scratch.Scratch.{Scratch}

-- what is held becomes this, unless memory ran out
abbrev pub Becomes : {X E : Type 0} → Result X E → Scratch → Scratch → (List (List Field) → List CoreModule → Made) → Type 0
Becomes (Ok x) p q f = Grows p.cores q.cores × ((fs : List (List Field)) (cs : List CoreModule) → Final fs cs q.cores → held fs cs q ≡ f fs cs)
Becomes (Err e) p q f = ⊤

-- these come behind what is held
abbrev pub Adds : {X E : Type 0} → Result X E → Scratch → Scratch → (List (List Field) → List CoreModule → Made) → Type 0
Adds r p q f = Becomes r p q (λ fs cs. join (held fs cs p) (f fs cs))

-- of what stands behind these ends, something is made
abbrev pub MakesOf : {X E : Type 0} → Wraps → (Made → Type 0) → Result X E → Scratch → Scratch → Type 0
MakesOf w At (Ok x) p q = Grows p.cores q.cores × ((fs : List (List Field)) (cs : List CoreModule) → Final fs cs q.cores → (a : Made) → At a → held fs cs q ≡ join (front a (held fs cs p)) (wrapped w (behind a (held fs cs p))))
MakesOf w At (Err e) p q = ⊤

-- the node of the first row and the leaves behind two ends, which go
pub record NodeOf (rows leaves : ℕ) (n : Node) (p q : Scratch) (fs : List (List Field)) (cs : List CoreModule) : Type 0 where
  pub node : node_of cs n ≡ m.row (first_row (drop rows (held fs cs p).rows)) (leaves_from (drop leaves (held fs cs p).leaves))
  pub rest : held fs cs q ≡ record (held fs cs p) { rows = take rows (held fs cs p).rows; leaves = take leaves (held fs cs p).leaves }

abbrev pub NodeTaken : ℕ → ℕ → Result Node AllocError → Scratch → Scratch → Type 0
NodeTaken rows leaves (Ok n) p q = Grows p.cores q.cores × ((fs : List (List Field)) (cs : List CoreModule) → Final fs cs q.cores → NodeOf rows leaves n p q fs cs)
NodeTaken rows leaves (Err e) p q = ⊤
