use Rattle.std.proofs.Common.{◌≡◌, ◌++◌, ◌<◌, ◌≤◌, ◌-◌, List, length, map, sym, ◌∙◌, ap, arith, append-nil}
use Rattle.std.proofs.lemmas.Result.{on_ok_weaker}
use Rattle.comp_model.specs.CoreModules.{CoreModule}
use Rattle.comp_tree.specs.Model.{scope_of}
use Rattle.tree_write.specs.Along.{payload_by}
use Rattle.tree_write.specs.FewItems.{FewItems}
use Rattle.tree_write.specs.Plans.{payloads}
use Rattle.tree_write.proofs.FewCounted.{few_at, few_inside}
use Rattle.tree_write.proofs.Components.{none_gathered, gathered, whole_gathered}
use Rattle.tree_write.proofs.plans.+gathering.Goals as goal

pub gather_leaf-returns-in_default : goal.gather_leaf-returns-in_default
gather_leaf-returns-in_default t c =
    λ cores few. sym (ap (λ ps. map payload_by c.args.plans.now.items ++ ps) (none_gathered cores c.args.leaf.now (λ p y q. c.in_default.not-Scope (record { ref_ptr = p.ref_ptr; now = y }) q)) ∙ append-nil (map payload_by c.args.plans.now.items))

pub gather_defs-loop-i-preserved : goal.gather_defs-loop-i-preserved
gather_defs-loop-i-preserved t c =
    let ds = c.args.defs.now in
    let i = c.loop-i.i in
    let some : 0 < i = omega (arith, c.loop-i-test.true) in
    let most : i ≤ length ds = omega (arith, c.loop-i.auto.i) in
    λ cores few. gathered cores ds i c.index-defs-i.result _ _ _ some most c.index-defs-i.is (c.loop-i.invariant cores few) (c.in_ok-gather_def.ensures cores (few_at cores ds (i - 1) c.index-defs-i.result (omega (arith, some, most)) c.index-defs-i.is few))

pub gather_names-returns : goal.gather_names-returns
gather_names-returns t c =
    on_ok_weaker {Q = (cores : List CoreModule) → FewItems (scope_of cores c.args.scope.now) → map payload_by c.gather_defs.new.plans.items ≡ map payload_by c.args.plans.now.items ++ payloads (scope_of cores c.args.scope.now)} _
    (λ h cores few. whole_gathered cores c.args.scope.now c.in_ok-names.names c.args.plans.now.items _ _ (c.in_ok-names.ensures cores few) c.in_ok-push_names.ensures (h cores (few_inside cores c.args.scope.now few))) c.gather_defs.ensures
