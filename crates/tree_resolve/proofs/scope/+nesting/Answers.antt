use Rattle.std.proofs.Common.{List, Option, ◌≡◌, ◌<◌, ◌^◌, ◌+◌, ◌-◌, ◌*◌, drop, [], ◌∷◌, refl, sym, ap, subst, ◌∙◌, map, length, replicate, arith, rules, inl}
use Rattle.std.proofs.lemmas.List.{length-append, drop_more}
use Rattle.comp_model.specs.Spaces.{declares_row}
use Rattle.comp_tables.specs.Bounds.{most_needs}
use Rattle.tree_names.specs.Size.{size_of_leaves}
use Rattle.tree_resolve.proofs.Room.{room_less, few_references, def_small, def_room, no_counters, declared_few, built_room, scope_larger, scope_in}
use Rattle.comp_scopes.specs.Names.{first_of_two}
use Rattle.comp_model.specs.Model.{no_leaf, defs_of}
use Rattle.comp_scopes.specs.Rowed.{Rowed, holds_scope}
use Rattle.comp_expanded.specs.IsExpanded.{IsExpanded}
use Rattle.comp_tables.specs.Built.{missing, missing_roots}
use Rattle.comp_tables.specs.Tables.{no_counts}
use Rattle.comp_tables.specs.Walks.{counters_in}
use Rattle.comp_tables.proofs.Counters.{list-none}
use Rattle.comp_tree.specs.declared.tree.Def.{Def}
use Rattle.comp_tree.specs.declared.tree.Leaf as l
use Rattle.comp_tree.specs.declared.tree.Scope.{out-Scope}
use Rattle.comp_tree.specs.Lists.{listed, defs_listed}
use Rattle.comp_tree.specs.Model.{scope_of}
use Rattle.comp_tree.proofs.Leaves.{scope_fields}
use Rattle.open_scopes.specs.declared.lookup.Found.{Found}
use Rattle.open_scopes.specs.Indexed.{OpenIndexed}
use Rattle.tree_names.specs.AllFound.{all_found, defs_found, FoundAll, FoundFirst, FoundTaken}
use Rattle.tree_names.specs.Counted.{Refused}
use Rattle.tree_names.specs.Served.{all_served, defs_served, ServedFirst}
use Rattle.tree_resolve.specs.Tabled.{ServedAll}
use Rattle.tree_resolve.specs.Alone.{Sole, LeavesAlone, ScopesAlone}
use Rattle.tree_resolve.specs.Made.{DefBuilt}
use Rattle.tree_resolve.specs.ScopeResolved.{DefsResolvedTo}
use Rattle.tree_resolve.proofs.AllPlain.{plain-defs}
use Rattle.tree_resolve.proofs.BuiltHolding.{one-of, holding-refused, holding-built, scope-alone}
use Rattle.tree_resolve.proofs.DefsLeft.{expanded-at, alone-at, rowed-at, defs-start, def-served, defs-step, def-refused, defs-end}
use Rattle.tree_resolve.proofs.Nested.{scope-by-fields, def-below}
use Rattle.tree_resolve.proofs.OpenedScope.{popped}
use Rattle.tree_resolve.proofs.NamesLeft.{def-front, def-passed, holding-taken}
use Rattle.tree_resolve.proofs.Outcomes.{match-of, on-any}
use Rattle.tree_resolve.proofs.ScopeMade.{opening-refused, list-refused, scope-resolved}
use Rattle.tree_resolve.proofs.TreeAlone.{plain-sole, many-sole}
use Rattle.tree_resolve.proofs.scope.+nesting.Goals as goal

-- ---- a definition

pub resolve_def-build_definition-requires-clause-whole : goal.resolve_def-build_definition-requires-clause-whole
resolve_def-build_definition-requires-clause-whole g t c = many-sole (map g.M.CoreSource.core_module c.args.cores.now) c.args.def.now.node.leaves.now c.if-def-ne1.true c.requires.alone.0

pub resolve_def-build_definition-requires-in_default : goal.resolve_def-build_definition-requires-in_default
resolve_def-build_definition-requires-in_default g t c =
    let C = map g.M.CoreSource.core_module c.args.cores.now in
    let xs = c.args.def.now.node.leaves.now in
    let x = c.index-def-0.result in
    let one : xs ≡ x ∷ [] = one-of xs x x c.if-def-ne1.false c.index-def-0.is in
    record {
      few = subst (λ os. length os < 2 ^ 32) (sym c.deref-in_default.ensures.value) c.requires.few;
      indexed = subst OpenIndexed (sym c.deref-in_default.ensures.value) c.requires.indexed;
      sized = c.requires.sized;
      expanded = c.requires.expanded;
      whole =
          ap (λ ys. holds_scope (listed C ys)) one
          ∙ plain-sole C x no_leaf (λ p y h. c.in_default.not-Scope (record { ref_ptr = p.ref_ptr; now = y }) (sym c.index-def-0.is ∙ h)) (subst (λ ys. Sole (listed C ys)) one c.requires.alone.0);
      written_out = c.requires.written_out;
      kept = subst (λ os. FoundFirst os (λ ms. all_found ms (listed C xs)) c.args.denoted.now.left.now) (sym c.deref-in_default.ensures.value) c.requires.kept;
      served = subst (λ os. ServedFirst os c.args.counters.now (λ ms. all_served ms (listed C xs)) c.args.denoted.now.served.now) (sym c.deref-in_default.ensures.value) c.requires.served;
      room = c.requires.room;
      numbered = few_references (listed C xs) (length c.args.scopes.now.items) c.requires.small;
    }

pub resolve_def-build_definition-requires-clause-numbered : goal.resolve_def-build_definition-requires-clause-numbered
resolve_def-build_definition-requires-clause-numbered g t c = few_references (listed (map g.M.CoreSource.core_module c.args.cores.now) c.args.def.now.node.leaves.now) (length c.args.scopes.now.items) c.requires.small

pub resolve_def-counters_behind-requires : goal.resolve_def-counters_behind-requires
resolve_def-counters_behind-requires g t c =
    let C = map g.M.CoreSource.core_module c.args.cores.now in
    let ls = listed C c.args.def.now.node.leaves.now in
    let n = length (declares_row c.args.def.now.node.row ls) in
    record { room = (C, room_less c.args.counters.now (most_needs ls + n) n (omega arith) c.requires.room) }

pub resolve_def-returns-in-Ok-push_holding-clause-resolves : goal.resolve_def-returns-in-Ok-push_holding-clause-resolves
resolve_def-returns-in-Ok-push_holding-clause-resolves g t c =
    let e = g.M.CoreRule.encoding in
    let C = map g.M.CoreSource.core_module c.args.cores.now in
    let xs = c.args.def.now.node.leaves.now in
    let one : xs ≡ l.Scope c.in-Scope.inner ∷ [] = one-of xs c.index-def-0.result (l.Scope c.in-Scope.inner) c.if-def-ne1.false (sym c.in-Scope.is) in
    match-of c.counters_behind.result c.counters_behind.ensures.behind c.counters_behind.ensures.refused
    (λ behind h.
    holding-built e C c.args.scopes.now.items c.args.def.now c.in-Scope.inner one c.in-Ok.new c.args.list.now.items c.push_holding.new.list.items c.args.counters.now behind c.args.denoted.now.served.now c.in-Ok-push_holding.ensures.pushed c.in-Ok.ensures.resolves
    (scope-alone (scope_of C c.in-Scope.inner.now) (subst (λ ys. LeavesAlone (listed C ys)) one c.requires.alone.1)) c.requires.sized (h C) c.requires.written_out)
    (λ x h. inl h)

pub resolve_def-returns-in-Ok-push_holding-clause-taken : goal.resolve_def-returns-in-Ok-push_holding-clause-taken
resolve_def-returns-in-Ok-push_holding-clause-taken g t c =
    let xs = c.args.def.now.node.leaves.now in
    let one : xs ≡ l.Scope c.in-Scope.inner ∷ [] = one-of xs c.index-def-0.result (l.Scope c.in-Scope.inner) c.if-def-ne1.false (sym c.in-Scope.is) in
    on-any c.counters_behind.result (holding-taken (map g.M.CoreSource.core_module c.args.cores.now) c.args.scopes.now.items xs c.in-Scope.inner c.args.denoted.now.left.now one)

pub resolve_def-returns-in-Err-clause-resolves : goal.resolve_def-returns-in-Err-clause-resolves
resolve_def-returns-in-Err-clause-resolves g t c =
    let xs = c.args.def.now.node.leaves.now in
    let one : xs ≡ l.Scope c.in-Scope.inner ∷ [] = one-of xs c.index-def-0.result (l.Scope c.in-Scope.inner) c.if-def-ne1.false (sym c.in-Scope.is) in
    holding-refused g.M.CoreRule.encoding (map g.M.CoreSource.core_module c.args.cores.now) c.args.scopes.now.items c.args.def.now c.in-Scope.inner one c.in-Err.refused c.in-Err.ensures.resolves

-- ---- a list

pub resolve_defs-resolve_def-requires : goal.resolve_defs-resolve_def-requires
resolve_defs-resolve_def-requires g t c κs within =
    let C = map g.M.CoreSource.core_module c.args.cores.now in
    let n = c.loop-def.def-index in
    let d : Def = c.def-item.result in
    let h = c.loop-def-test.true in
    let a = c.def-item.is in
    let same = c.loop-def.invariant.0 in
    let less = def-below c.args.defs.now n d h a in
    let left = drop_more c.args.defs.now n _ h ∙ ap (λ z. z ∷ drop (n + 1) c.args.defs.now) (sym a) in
    let all = expanded-at C c.args.defs.now n d h a c.requires.expanded in (
      omega (arith, less, c.decreases),
      (
        within,
        (
          subst (λ os. length os < 2 ^ 32) (sym same) c.requires.few,
          (
            subst OpenIndexed (sym same) c.requires.indexed,
            (
              c.loop-def.invariant.1.sized,
              (
                all.1,
                (
                  alone-at C c.args.defs.now n d h a c.requires.alone,
                  (
                    rowed-at C c.args.defs.now n d h a c.requires.rowed,
                    (
                      all.0,
                      (
                        subst (λ os. FoundFirst os (λ ms. all_found ms (listed C d.node.leaves.now)) c.loop-def.denoted.left.now) (sym same) (def-front C c.args.scopes.now.items c.args.defs.now n d h a _ c.loop-def.denoted.left.now c.loop-def.invariant.2),
                        (
                          subst (λ os. ServedFirst os c.loop-def.counters (λ ms. all_served ms (listed C d.node.leaves.now)) c.loop-def.denoted.served.now) (sym same)
                              (def-served g.M.CoreRule.encoding C c.args.scopes.now.items c.args.defs.now c.loop-def.counters c.loop-def.denoted.served.now n d c.loop-def.list.items h a c.loop-def.invariant.1),
                          (
                            subst (λ os. length os + 2 * size_of_leaves (listed C d.node.leaves.now) < 2 ^ 32 - 2) (sym same) (def_small C c.args.defs.now (length c.args.scopes.now.items) n d h a c.requires.small),
                            def_room C _ _ d left c.loop-def.counters c.loop-def.invariant.3,
                          ),
                        ),
                      ),
                    ),
                  ),
                ),
              ),
            ),
          ),
        ),
      ),
    )

pub resolve_defs-loop-def-init : goal.resolve_defs-loop-def-init
resolve_defs-loop-def-init g t c = (
  refl,
  defs-start g.M.CoreRule.encoding (map g.M.CoreSource.core_module c.args.cores.now) c.args.scopes.now.items c.args.defs.now c.new-counters.result _ c.new-list.result.items (ap length c.new-counters.ensures) (ap counters_in c.new-counters.ensures ∙ list-none)
      (λ ms w. c.deref-2.ensures.value ∙ c.requires.served ms w) c.new-list.ensures.items,
  λ ms w. c.deref.ensures.value ∙ c.requires.kept ms w,
  no_counters c.new-counters.result _ c.new-counters.ensures (declared_few (map g.M.CoreSource.core_module c.args.cores.now) c.args.defs.now (length c.args.scopes.now.items) c.requires.small),
)

pub resolve_defs-loop-def-preserved : goal.resolve_defs-loop-def-preserved
resolve_defs-loop-def-preserved g t c =
    let e = g.M.CoreRule.encoding in
    let C = map g.M.CoreSource.core_module c.args.cores.now in
    let same = c.loop-def.invariant.0 in
    let d : Def = c.def-item.result in (
      c.in-Ok.ensures.scopes ∙ same,
      defs-step e C c.args.scopes.now.items c.args.defs.now c.loop-def.counters c.loop-def.denoted.served.now c.loop-def.def-index c.def-item.result c.loop-def.list.items c.loop-def-test.true c.def-item.is c.loop-def.invariant.1 _ c.in-Ok.behind _
          (subst (λ os. DefBuilt e C os c.loop-def.counters c.loop-def.denoted.served.now c.def-item.result c.loop-def.list.items c.resolve_def.new.list.items c.in-Ok.behind c.resolve_def.new.denoted.served.now) same c.in-Ok.ensures.resolves),
      def-passed C c.args.scopes.now.items c.args.defs.now c.loop-def.def-index d c.loop-def-test.true c.def-item.is c.loop-def.denoted.left.now c.resolve_def.new.denoted.left.now c.loop-def.invariant.2
          (subst (λ os. FoundTaken os (λ ms. all_found ms (listed C d.node.leaves.now)) c.loop-def.denoted.left.now c.resolve_def.new.denoted.left.now) same c.in-Ok.ensures.taken),
      built_room C _ _ d (drop_more c.args.defs.now c.loop-def.def-index _ c.loop-def-test.true ∙ ap (λ z. z ∷ drop (c.loop-def.def-index + 1) c.args.defs.now) (sym c.def-item.is)) c.loop-def.counters c.loop-def.invariant.3 e c.args.scopes.now.items c.loop-def.denoted.served.now
          c.resolve_def.new.denoted.served.now c.loop-def.list.items c.resolve_def.new.list.items c.in-Ok.behind
          (subst (λ os. DefBuilt e C os c.loop-def.counters c.loop-def.denoted.served.now c.def-item.result c.loop-def.list.items c.resolve_def.new.list.items c.in-Ok.behind c.resolve_def.new.denoted.served.now) same c.in-Ok.ensures.resolves)
          (def-served e C c.args.scopes.now.items c.args.defs.now c.loop-def.counters c.loop-def.denoted.served.now c.loop-def.def-index d c.loop-def.list.items c.loop-def-test.true c.def-item.is c.loop-def.invariant.1),
    )

pub resolve_defs-returns-in-Err-clause-resolves : goal.resolve_defs-returns-in-Err-clause-resolves
resolve_defs-returns-in-Err-clause-resolves g t c =
    let e = g.M.CoreRule.encoding in
    let C = map g.M.CoreSource.core_module c.args.cores.now in
    let d : Def = c.def-item.result in
    def-refused e C c.args.scopes.now.items c.args.defs.now c.loop-def.counters c.loop-def.denoted.served.now c.loop-def.def-index d c.loop-def.list.items c.loop-def-test.true c.def-item.is c.loop-def.invariant.1 c.in-Err.refused
    (subst (λ os. Refused os (λ ms. first_of_two (missing_roots ms (listed C d.node.leaves.now)) (missing e ms (listed C d.node.leaves.now))) c.in-Err.refused) c.loop-def.invariant.0 c.in-Err.ensures.resolves)

pub resolve_defs-returns-then-all_plain-clause-resolves : goal.resolve_defs-returns-then-all_plain-clause-resolves
resolve_defs-returns-then-all_plain-clause-resolves g t c =
    let e = g.M.CoreRule.encoding in
    let C = map g.M.CoreSource.core_module c.args.cores.now in
    plain-defs e C c.args.scopes.now.items c.args.defs.now (replicate 13 0) c.args.kept.now.served.items (c.all_plain.ensures c.if-all_plain.true) c.requires.expanded
    (defs-start e C c.args.scopes.now.items c.args.defs.now (replicate 13 0) c.args.kept.now.served.items [] refl list-none c.requires.served refl)

pub resolve_defs-returns-in-Ok-place_all-clause-resolves : goal.resolve_defs-returns-in-Ok-place_all-clause-resolves
resolve_defs-returns-in-Ok-place_all-clause-resolves g t c =
    let e = g.M.CoreRule.encoding in
    let C = map g.M.CoreSource.core_module c.args.cores.now in
    subst (DefsResolvedTo e C c.args.scopes.now.items c.args.defs.now) (sym (c.in-Ok-place_all.ensures ∙ c.deref-3.ensures.value))
    (defs-end e C c.args.scopes.now.items c.args.defs.now c.loop-def.counters c.loop-def.denoted.served.now c.loop-def.def-index c.loop-def.list.items c.loop-def-test.false c.loop-def.invariant.1)

-- ---- a scope

pub resolve_scope-open-requires-clause-few : goal.resolve_scope-open-requires-clause-few
resolve_scope-open-requires-clause-few g t c = omega (arith, c.requires.small)

pub resolve_scope-open-requires-clause-small : goal.resolve_scope-open-requires-clause-small
resolve_scope-open-requires-clause-small g t c = (map g.M.CoreSource.core_module c.args.cores.now, omega (arith, c.requires.small))

pub resolve_scope-open-requires-clause-expanded : goal.resolve_scope-open-requires-clause-expanded
resolve_scope-open-requires-clause-expanded g t c = (map g.M.CoreSource.core_module c.args.cores.now, c.requires.expanded)

pub resolve_scope-returns-in-Err-clause-resolves : goal.resolve_scope-returns-in-Err-clause-resolves
resolve_scope-returns-in-Err-clause-resolves g t c =
    let C = map g.M.CoreSource.core_module c.args.cores.now in
    opening-refused g.M.CoreRule.encoding c.args.scopes.now.items (scope_of C c.args.scope.now) c.in-Err.refused (c.in-Err.ensures.entered C)

pub resolve_scope-resolve_defs-requires : goal.resolve_scope-resolve_defs-requires
resolve_scope-resolve_defs-requires g t c κs within =
    let C = map g.M.CoreSource.core_module c.args.cores.now in
    let entered = c.in-Ok.ensures.entered C in
    let same = scope-by-fields c.args.scope.now in
    let long : length c.open.new.scopes.items ≡ length c.args.scopes.now.items + 1 = ap length entered.one_more ∙ length-append c.args.scopes.now.items (entered.innermost ∷ []) in
    let few = c.requires.small in
    let kept = subst (λ x. FoundAll c.open.new.scopes.items (λ ms. defs_found ms (defs_of x)) c.in-Ok.kept.found.items) (scope_fields C c.args.scope.now) (c.in-Ok.ensures.kept C) in
    let served = subst (λ x. ServedAll c.open.new.scopes.items (λ ms. defs_served ms (defs_of x) no_counts) c.in-Ok.kept.served.items) (scope_fields C c.args.scope.now) (c.in-Ok.ensures.served C) in (
      omega (arith, same, c.decreases),
      (
        within,
        (
          omega (arith, long, few),
          (
            entered.indexed c.requires.indexed,
            (
              subst IsExpanded (scope_fields C c.args.scope.now) c.requires.expanded,
              (
                subst ScopesAlone (scope_fields C c.args.scope.now) c.requires.alone,
                (
                  subst Rowed (scope_fields C c.args.scope.now) c.requires.rowed,
                  (kept, (served, scope_larger C c.args.scope.now (length c.args.scopes.now.items) (length c.open.new.scopes.items) c.requires.small long)),
                ),
              ),
            ),
          ),
        ),
      ),
    )

pub resolve_scope-returns-in-Err-resolve_defs-clause-resolves : goal.resolve_scope-returns-in-Err-resolve_defs-clause-resolves
resolve_scope-returns-in-Err-resolve_defs-clause-resolves g t c =
    let C = map g.M.CoreSource.core_module c.args.cores.now in
    list-refused g.M.CoreRule.encoding C c.args.scopes.now.items c.open.new.scopes.items c.args.scope.now (c.in-Ok.ensures.entered C) c.in-Err-resolve_defs.refused c.in-Err-resolve_defs.ensures.resolves

pub resolve_scope-returns-clause-resolves : goal.resolve_scope-returns-clause-resolves
resolve_scope-returns-clause-resolves g t c =
    let C = map g.M.CoreSource.core_module c.args.cores.now in
    scope-resolved g.M.CoreRule.encoding C c.args.scopes.now.items c.open.new.scopes.items c.args.scope.now (c.in-Ok.ensures.entered C) c.in-Ok-resolve_defs.defs.now
    (subst Rowed (scope_fields C c.args.scope.now) c.requires.rowed) c.in-Ok-resolve_defs.ensures.resolves c.in-Ok-resolve_defs.defs refl

pub resolve_scope-returns-clause-scopes : goal.resolve_scope-returns-clause-scopes
resolve_scope-returns-clause-scopes g t c =
    let C = map g.M.CoreSource.core_module c.args.cores.now in
    let entered = c.in-Ok.ensures.entered C in
    popped c.resolve_defs.new.scopes.items c.pop.new.self.items c.args.scopes.now.items entered.innermost _ (search rules) c.pop.ensures.rest (c.in-Ok-resolve_defs.ensures.scopes ∙ entered.one_more)
