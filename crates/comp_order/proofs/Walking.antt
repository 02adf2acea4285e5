-- The walk over the definitions of a scope.
use Rattle.std.proofs.Common.{◌≡◌, ℕ, ◌+◌, ◌<◌, refl, sym, ap, ◌∙◌, List, [], ◌∷◌, ◌++◌, map, length, drop, get_or, Result, Ok, Err, subst}
use Rattle.std.proofs.lemmas.List.{drop_more}
use Rattle.comp_model.specs.declared.Space.{Space}
use Rattle.wire_tree.specs.Lists.{node_of, defs_listed}
use Rattle.wire_tree.specs.declared.tree.Node.{Node}
use Rattle.comp_model.specs.Model.{Node as Row, Defs, no_def, one_def, row, define, no_names}
use Rattle.item_tree.specs.Model.{item_row, defs_listed as items_listed}
use Rattle.item_tree.specs.declared.tree.Item.{Item}
use Rattle.comp_model.specs.Spaces.{append_defs, count_in, declares}
use Rattle.comp_list.specs.Places.{row_spaces}
use Rattle.comp_list.proofs.DefSpots.{drop_item}
use Rattle.comp_list.specs.References.{references, outer_count}
use Rattle.comp_order.specs.declared.verdict.Verdict.{Verdict}
use Rattle.comp_order.specs.declared.verdict.Order.{Order}
use Rattle.comp_order.specs.Counts.{HasCounts, capped, counted}
use Rattle.comp_order.specs.Order.{defs_verdicts, leaves_verdicts, verdict_of}
use Rattle.comp_order.specs.Rows.{row_verdicts}
use Rattle.comp_order.specs.Pass.{pass}
use Rattle.comp_order.proofs.Counting.{counts_more}
use Rattle.comp_order.proofs.Passing.{passed_on, stopped}

-- some definitions are passed, which are counted, and the others are left
pub record SoFar (befores : List Defs) (line : ℕ) (all : Defs) (counts : List ℕ) (next : ℕ) (left : Defs) : Type 0 where
  pub before : Defs
  pub counted : HasCounts counts before
  pub passed : pass next (defs_verdicts left befores before) ≡ pass line (defs_verdicts all befores no_def)

verdicts_app : (xs ys zs : List Verdict) → (xs ++ ys) ++ zs ≡ xs ++ (ys ++ zs)
verdicts_app [] ys zs = refl
verdicts_app (x ∷ xs) ys zs = ap (λ q. x ∷ q) (verdicts_app xs ys zs)

one_then : (befores : List Defs) (before : Defs) (n : Row) (ds : Defs)
    → row_verdicts befores before n ++ defs_verdicts ds befores (append_defs before (one_def (define no_names n) no_def)) ≡ defs_verdicts (one_def (define no_names n) ds) befores before
one_then befores before (row t ls) ds =
    verdicts_app (map (verdict_of befores before t ls (outer_count t ls)) (references ls)) (leaves_verdicts ls (before ∷ befores)) (defs_verdicts ds befores (append_defs before (one_def (define no_names (row t ls)) no_def)))

pub begun : (befores : List Defs) (line : ℕ) (all : Defs) (counts : List ℕ) → HasCounts counts no_def → SoFar befores line all counts line all
begun befores line all counts h = record { before = no_def; counted = h; passed = refl }

-- one definition more
module _ (befores : List Defs) (line : ℕ) (all : Defs) (counts : List ℕ) (next : ℕ) (n : Row) (rest : Defs) (s : SoFar befores line all counts next (one_def (define no_names n) rest)) where
  from_there : (vs : Result ℕ Order) → vs ≡ pass next (row_verdicts befores s.before n ++ defs_verdicts rest befores (append_defs s.before (one_def (define no_names n) no_def))) → vs ≡ pass line (defs_verdicts all befores no_def)
  from_there vs e = e ∙ ap (pass next) (one_then befores s.before n rest) ∙ s.passed

  pub turn_on : (new : List ℕ) (m : ℕ) → ((u : Space) → capped (counted new u) ≡ capped (counted counts u + count_in u (row_spaces n))) → Ok m ≡ pass next (row_verdicts befores s.before n) → SoFar befores line all new m rest
  turn_on new m h e = record {
    before = append_defs s.before (one_def (define no_names n) no_def);
    counted = counts_more counts new s.before (define no_names n) s.counted (by_row n h);
    passed = from_there _ (passed_on next m (row_verdicts befores s.before n) (defs_verdicts rest befores (append_defs s.before (one_def (define no_names n) no_def))) e);
  }
    where
      by_row : (n : Row) → ((u : Space) → capped (counted new u) ≡ capped (counted counts u + count_in u (row_spaces n))) → (u : Space) → capped (counted new u) ≡ capped (counted counts u + count_in u (declares (define no_names n)))
      by_row (row t ls) h = h

  pub turn_off : (o : Order) → Err o ≡ pass next (row_verdicts befores s.before n) → Err o ≡ pass line (defs_verdicts all befores no_def)
  turn_off o e = from_there _ (stopped next o (row_verdicts befores s.before n) (defs_verdicts rest befores (append_defs s.before (one_def (define no_names n) no_def))) e)

-- what is left begins with the definition at a place
pub node_next : (befores : List Defs) (line : ℕ) (all : Defs) (counts : List ℕ) (next : ℕ) (defs : List Node) (i : ℕ) (d : Node) → i < length defs → SoFar befores line all counts next (defs_listed (drop i defs))
    → SoFar befores line all counts next (one_def (define no_names (node_of (get_or defs i d))) (defs_listed (drop (i + 1) defs)))
node_next befores line all counts next defs i d h s = subst (SoFar befores line all counts next) (ap defs_listed (drop_more defs i d h)) s

pub item_next : (befores : List Defs) (line : ℕ) (all : Defs) (counts : List ℕ) (next : ℕ) (xs : List Item) (i : ℕ) (x : Item) → i < length xs → x ≡ get_or xs i x → SoFar befores line all counts next (items_listed (drop i xs))
    → SoFar befores line all counts next (one_def (define no_names (item_row x)) (items_listed (drop (i + 1) xs)))
item_next befores line all counts next xs i x h is s = subst (SoFar befores line all counts next) (ap items_listed (drop_item xs i x h is)) s

pub walked_all : (befores : List Defs) (line : ℕ) (all left : Defs) (counts : List ℕ) (next : ℕ) → left ≡ no_def → SoFar befores line all counts next left → Ok next ≡ pass line (defs_verdicts all befores no_def)
walked_all befores line all left counts next e s = sym (ap (λ ds. pass next (defs_verdicts ds befores s.before)) e) ∙ s.passed
