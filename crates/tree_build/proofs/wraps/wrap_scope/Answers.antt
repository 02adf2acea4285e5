use Rattle.std.proofs.Common.{◌≡◌, ◌∙◌, ap, sym, refl, length, map, take, drop, None}
use Rattle.comp_model.specs.Model as m
use Rattle.text_rules.specs.Rule.{a_scope}
use Rattle.text_rules.specs.Made.{defs_from}
use Rattle.comp_tree.specs.Model.{scope_of}
use Rattle.comp_tree.specs.Lists.{def_of}
use Rattle.comp_tree.specs.declared.tree.Leaf as l
use Rattle.comp_tree.proofs.Leaves.{leaf_scope, scope_made}
use Rattle.tree_build.specs.Held.{held, loose}
use Rattle.tree_build.proofs.Prefixes.{grows_itself}
use Rattle.tree_build.proofs.Slices.{take_map, drop_map}
use Rattle.tree_build.proofs.Views.{defs_are_listed}
use Rattle.tree_build.proofs.Wrapped.{leaf_made, scope_wrapped}
use Rattle.tree_build.proofs.wraps.wrap_scope.Goals as goal

pub returns-in-Ok-place : goal.returns-in-Ok-place
returns-in-Ok-place c = leaf_made (a_scope c.args.kind) _ c.leaf.result c.args.scratch.now (record c.args.scratch.now { defs = c.take_all.new.parts }) c.leaf.new.self (λ fs cs. loose fs cs (l.Scope c.in-Ok-place.scope)) (grows_itself c.args.scratch.now.cores) c.leaf.ensures
    (λ fs cs h a z.
    scope_wrapped a (held fs cs c.args.scratch.now) (λ ds. m.scope (m.scope_of c.args.kind None None (defs_from ds))) _ (loose fs cs (l.Scope c.in-Ok-place.scope))
    (ap (λ x. record (held fs cs c.args.scratch.now) { defs = x })
    (ap (map (def_of cs)) c.in-Ok.ensures.rest ∙ (take_map (def_of cs) c.args.defs c.number_defs.new.defs.items ∙ (ap (take c.args.defs) (c.number_defs.ensures.same cs) ∙ ap (λ k. take k (map (def_of cs) c.args.scratch.now.defs.items)) (sym z)))))
    (ap (λ x. m.scope (scope_of cs x)) c.in-Ok-place.ensures
    ∙ (ap m.scope (scope_made cs c.args.kind None None c.in-Ok.defs)
    ∙ (ap (λ ds. m.scope (m.scope_of c.args.kind None None ds)) (sym (defs_are_listed cs c.in-Ok.defs.now))
    ∙ ap (λ ds. m.scope (m.scope_of c.args.kind None None (defs_from ds))) (ap (map (def_of cs)) c.in-Ok.ensures.taken ∙ (drop_map (def_of cs) c.args.defs c.number_defs.new.defs.items ∙ (ap (drop c.args.defs) (c.number_defs.ensures.same cs) ∙ ap (λ k. drop k (map (def_of cs) c.args.scratch.now.defs.items)) (sym z))))))))
