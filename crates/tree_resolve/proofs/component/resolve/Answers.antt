use Rattle.std.proofs.Common.{map, ◌∙◌, []}
use Rattle.comp_expanded.proofs.Resolved.{resolved-form, resolved-plan}
use Rattle.tree_resolve.proofs.Whole.{source-expanded, source-rowed, source-alone, whole-rule, whole-form, whole-plan, whole-refused}
use Rattle.std.proofs.Common.{◌≡◌, length, ap, arith}
use Rattle.tree_resolve.proofs.component.resolve.Goals as goal

pub resolve_scope-requires-clause-small : goal.resolve_scope-requires-clause-small
resolve_scope-requires-clause-small g c = let n : length c.new-scopes.result.items ≡ 0 = ap length c.new-scopes.ensures.items in omega (arith, n, c.requires.small)

pub resolve_scope-requires-clause-expanded : goal.resolve_scope-requires-clause-expanded
resolve_scope-requires-clause-expanded g c = source-expanded c.requires.source.1

pub resolve_scope-requires-clause-alone : goal.resolve_scope-requires-clause-alone
resolve_scope-requires-clause-alone g c = source-alone c.requires.source.1

pub resolve_scope-requires-clause-rowed : goal.resolve_scope-requires-clause-rowed
resolve_scope-requires-clause-rowed g c = source-rowed c.requires.source.1

pub returns-in-Ok-clause-rule : goal.returns-in-Ok-clause-rule
returns-in-Ok-clause-rule g c = λ s i. whole-rule c.new-scopes.ensures.items c.in-Ok.ensures.resolves s i

pub returns-in-Ok-clause-form : goal.returns-in-Ok-clause-form
returns-in-Ok-clause-form g c = λ s i. whole-form c.new-scopes.ensures.items c.in-Ok.ensures.resolves s i

pub returns-in-Ok-clause-plan : goal.returns-in-Ok-clause-plan
returns-in-Ok-clause-plan g c = λ s i. whole-plan c.new-scopes.ensures.items c.in-Ok.ensures.resolves s i

pub returns-clause-refused : goal.returns-clause-refused
returns-clause-refused g c = whole-refused g.M.CoreRule.encoding (map g.M.CoreSource.core_module c.args.cores.now) c.new-scopes.result.items c.args.scope.now c.in-Err.refused c.new-scopes.ensures.items c.in-Err.ensures.resolves

pub returns-in-Ok-clause-same : goal.returns-in-Ok-clause-same
returns-in-Ok-clause-same g c = λ s i h. (
  whole-form c.new-scopes.ensures.items c.in-Ok.ensures.resolves s i ∙ resolved-form g.M.CoreRule.encoding [] s h,
  whole-plan c.new-scopes.ensures.items c.in-Ok.ensures.resolves s i ∙ resolved-plan g.M.CoreRule.encoding [] s h,
)
