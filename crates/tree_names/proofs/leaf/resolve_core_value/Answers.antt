use Rattle.std.proofs.Common.{ap}
use Rattle.comp_model.specs.Model as m
use Rattle.comp_tree.specs.declared.tree.Concrete.{Concrete}
use Rattle.comp_tree.specs.Model.{core_value_of, core_reference, reach_of}
use Rattle.tree_names.proofs.ReadParts.{same_read, same_refused}
use Rattle.tree_names.proofs.leaf.resolve_core_value.Goals as goal

pub returns-in-Ok-place : goal.returns-in-Ok-place
returns-in-Ok-place c = λ e.
    same_read e c.args.scopes.now _ _ _ _ _ _ (ap (λ v. m.core_value (core_value_of v)) c.in-RefConcrete.is) (ap (λ (t : Concrete). m.core_value (core_reference c.in-RefConcrete.nullable (reach_of t.reach) t.index)) c.in-Ok-place.ensures)
    (c.in-Ok.ensures e c.in-RefConcrete.nullable)

pub returns-in-Err : goal.returns-in-Err
returns-in-Err c = λ e. same_refused e c.args.scopes.now _ _ _ (ap (λ v. m.core_value (core_value_of v)) c.in-RefConcrete.is) (c.in-Err.ensures e c.in-RefConcrete.nullable)
