use Rattle.std.proofs.Common.{List, [], ◌∷◌, ◌++◌, refl, sym, ap, subst, ◌∙◌}
use Rattle.comp_tree.specs.declared.tree.Scope.{out-Scope}
use Rattle.open_scopes.specs.declared.scopes.Open.{Open}
use Rattle.tree_names.specs.AllFound.{defs_found, FoundAll}
use Rattle.tree_names.specs.Counted.{Refused}
use Rattle.comp_tables.specs.Tables.{unmet_kinds_defs, no_counts}
use Rattle.comp_model.specs.Model.{defs_of}
use Rattle.comp_tree.specs.Lists.{defs_listed}
use Rattle.tree_resolve.specs.Tabled.{Tabled}
use Rattle.tree_names.specs.Served.{defs_served}
use Rattle.tree_resolve.specs.Tabled.{ServedAll}
use Rattle.tree_resolve.proofs.NamesLeft.{found-behind, served-behind}
use Rattle.tree_resolve.proofs.OpenedScope.{last-of, entered, taken-refused, kinds-refused}
use Rattle.comp_expanded.specs.IsExpanded.{IsExpanded}
use Rattle.comp_tree.proofs.Leaves.{scope_fields}
use Rattle.std.proofs.Common.{arith}
use Rattle.tree_resolve.proofs.Room.{scope_has_few, scope_declares_few}
use Rattle.tree_resolve.proofs.opening.open.Goals as goal

pub register_defs-requires : goal.register_defs-requires
register_defs-requires c =
    let few = scope_has_few c.requires.small.0 c.args.scope.now c.requires.small.1 in
    record { few = omega (arith, few); small = (c.requires.small.0, scope_declares_few c.requires.small.0 c.args.scope.now c.requires.small.1) }

pub count_defs-requires-clause-small : goal.count_defs-requires-clause-small
count_defs-requires-clause-small c = (c.requires.small.0, scope_declares_few c.requires.small.0 c.args.scope.now c.requires.small.1)

pub count_defs-requires-clause-expanded : goal.count_defs-requires-clause-expanded
count_defs-requires-clause-expanded c = (c.requires.expanded.0, subst IsExpanded (scope_fields c.requires.expanded.0 c.args.scope.now) c.requires.expanded.1)

pub returns-in-Err-clause-entered : goal.returns-in-Err-clause-entered
returns-in-Err-clause-entered c = λ C. taken-refused C c.args.scope.now c.args.scopes.now.items c.in-Err.refused (c.in-Err.ensures C)

pub returns-in-Err-count_defs-clause-entered : goal.returns-in-Err-count_defs-clause-entered
returns-in-Err-count_defs-clause-entered c = λ C.
    let half : Open = record { id = (out-Scope c.args.scope.now).id; names = c.in-Ok.names; table = c.new.result } in
    kinds-refused C c.args.scope.now c.args.scopes.now.items half c.in-Err-count_defs.refused refl c.new.ensures.items (c.in-Ok.ensures C)
    (subst (λ os. Refused os (λ ms. unmet_kinds_defs ms (defs_listed C (out-Scope c.args.scope.now).defs.now)) c.in-Err-count_defs.refused) (c.deref.ensures.value ∙ c.in-Ok-push.ensures.items) (c.in-Err-count_defs.ensures.counted C))

pub returns-in-Ok-fill-clause-entered : goal.returns-in-Ok-fill-clause-entered
returns-in-Ok-fill-clause-entered c = λ C.
    let half : Open = record { id = (out-Scope c.args.scope.now).id; names = c.in-Ok.names; table = c.new.result } in
    let new : Open = record { id = half.id; names = half.names; table = c.in-Ok-count_defs.counted.table } in
    let was = last-of c.args.scopes.now.items c.pop.new.self.items half c.in-Some.half (sym c.in-Ok-push.ensures.items ∙ c.in-Some.ensures.items) in
    entered C c.args.scope.now c.args.scopes.now.items c.fill.new.scopes.items half new c.in-Ok-count_defs.counted.kept.served.items refl c.new.ensures.items refl refl
    (c.in-Ok-fill.ensures.filled ∙ ap (λ (xs : List Open). xs ++ record { id = c.in-Some.half.id; names = c.in-Some.half.names; table = c.in-Ok-count_defs.counted.table } ∷ []) was.0
    ∙ ap (λ (y : Open). c.args.scopes.now.items ++ record { id = y.id; names = y.names; table = c.in-Ok-count_defs.counted.table } ∷ []) was.1)
    (c.in-Ok.ensures C)
    (subst (λ os. Tabled C os c.in-Ok-count_defs.counted.table.items c.in-Ok-count_defs.counted.kept.served.items (out-Scope c.args.scope.now).defs.now) (c.deref.ensures.value ∙ c.in-Ok-push.ensures.items) (c.in-Ok-count_defs.ensures.counted C))

pub returns-in-Ok-fill-clause-kept : goal.returns-in-Ok-fill-clause-kept
returns-in-Ok-fill-clause-kept c = λ C.
    let half : Open = record { id = (out-Scope c.args.scope.now).id; names = c.in-Ok.names; table = c.new.result } in
    let new : Open = record { id = half.id; names = half.names; table = c.in-Ok-count_defs.counted.table } in
    let was = last-of c.args.scopes.now.items c.pop.new.self.items half c.in-Some.half (sym c.in-Ok-push.ensures.items ∙ c.in-Some.ensures.items) in
    subst (λ x. FoundAll c.fill.new.scopes.items (λ ms. defs_found ms (defs_of x)) c.in-Ok-count_defs.counted.kept.found.items) (sym (scope_fields C c.args.scope.now))
    (found-behind c.args.scopes.now.items half new refl refl (defs_listed C (out-Scope c.args.scope.now).defs.now) c.fill.new.scopes.items
    (c.in-Ok-fill.ensures.filled ∙ ap (λ (xs : List Open). xs ++ record { id = c.in-Some.half.id; names = c.in-Some.half.names; table = c.in-Ok-count_defs.counted.table } ∷ []) was.0
    ∙ ap (λ (y : Open). c.args.scopes.now.items ++ record { id = y.id; names = y.names; table = c.in-Ok-count_defs.counted.table } ∷ []) was.1)
    c.in-Ok-count_defs.counted.kept.found.items
    (subst (λ os. FoundAll os (λ ms. defs_found ms (defs_listed C (out-Scope c.args.scope.now).defs.now)) c.in-Ok-count_defs.counted.kept.found.items) (c.deref.ensures.value ∙ c.in-Ok-push.ensures.items) (c.in-Ok-count_defs.ensures.kept C)))

pub returns-in-Ok-fill-clause-served : goal.returns-in-Ok-fill-clause-served
returns-in-Ok-fill-clause-served c = λ C.
    let half : Open = record { id = (out-Scope c.args.scope.now).id; names = c.in-Ok.names; table = c.new.result } in
    let new : Open = record { id = half.id; names = half.names; table = c.in-Ok-count_defs.counted.table } in
    let was = last-of c.args.scopes.now.items c.pop.new.self.items half c.in-Some.half (sym c.in-Ok-push.ensures.items ∙ c.in-Some.ensures.items) in
    subst (λ x. ServedAll c.fill.new.scopes.items (λ ms. defs_served ms (defs_of x) no_counts) c.in-Ok-count_defs.counted.kept.served.items) (sym (scope_fields C c.args.scope.now))
    (served-behind c.args.scopes.now.items half new refl refl (defs_listed C (out-Scope c.args.scope.now).defs.now) c.fill.new.scopes.items
    (c.in-Ok-fill.ensures.filled ∙ ap (λ (xs : List Open). xs ++ record { id = c.in-Some.half.id; names = c.in-Some.half.names; table = c.in-Ok-count_defs.counted.table } ∷ []) was.0
    ∙ ap (λ (y : Open). c.args.scopes.now.items ++ record { id = y.id; names = y.names; table = c.in-Ok-count_defs.counted.table } ∷ []) was.1)
    c.in-Ok-count_defs.counted.kept.served.items
    (subst (λ os. ServedAll os (λ ms. defs_served ms (defs_listed C (out-Scope c.args.scope.now).defs.now) no_counts) c.in-Ok-count_defs.counted.kept.served.items) (c.deref.ensures.value ∙ c.in-Ok-push.ensures.items) (c.in-Ok-count_defs.ensures.counted C).serving))
