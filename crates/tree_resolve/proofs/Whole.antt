-- A whole scope, resolved among no open ones: it is what the rule, the form and the plan of its source say.
use Rattle.std.proofs.Common.{◌≡◌, refl, sym, ap, ◌∙◌, subst, List, [], Option, Some, None, option_map, ◌⊎◌, inl, inr}
use Rattle.comp_model.specs.CoreModules.{CoreModule}
use Rattle.comp_model.specs.Model.{Scope, scope_of, kind_of}
use Rattle.comp_expanded.specs.ListMarks.{ListMarks}
use Rattle.comp_scopes.specs.Encoding.{Encoding}
use Rattle.comp_scopes.specs.Rowed.{Rowed}
use Rattle.comp_scopes.specs.Rule.{ScopeRule}
use Rattle.comp_scopes.specs.Unmet.{Unmet, first_unmet}
use Rattle.comp_scopes.specs.Form.{binary_defs, origins_of, plan, form}
use Rattle.comp_scopes.specs.Resolved.{binary_of}
use Rattle.comp_expanded.specs.IsExpanded.{IsExpanded}
use Rattle.comp_expanded.proofs.Alone.{expands-expanded}
use Rattle.comp_tables.specs.Built.{outcome, missing_scope}
use Rattle.comp_tables.specs.InText.{text_scope}
use Rattle.comp_tables.specs.Walks.{run}
use Rattle.comp_tables.proofs.OfExpansion.{expands-sound}
use Rattle.comp_tables.proofs.Resolved.{expansion-refused, expansion-done}
use Rattle.comp_tables.proofs.Walks.{run-outcome}
use Rattle.wast_tokens.specs.declared.error.Error.{Error}
use Rattle.comp_tree.specs.declared.tree.Scope as tree
use Rattle.comp_tree.specs.Marks.{marks_of}
use Rattle.comp_tree.specs.Model as t
use Rattle.open_scopes.specs.declared.scopes.Open.{Open}
use Rattle.open_scopes.specs.Refusals.{refusal_of, no_memory}
use Rattle.open_scopes.specs.Shown.{OpenScopesShow}
use Rattle.tree_names.specs.Counted.{Refused}
use Rattle.tree_resolve.specs.Alone.{ScopesAlone}
use Rattle.tree_resolve.specs.Planned.{planned_of}
use Rattle.tree_resolve.specs.ScopeResolved.{ScopeResolved}
use Rattle.tree_resolve.specs.Source.{IsSource}
use Rattle.tree_resolve.proofs.StaysAlone.{expands-alone}

module _ {s x : Scope} {os : ListMarks} (i : IsSource s x os) where
  pub source-expanded : IsExpanded x
  source-expanded = expands-expanded s x os i.rowed i.of_text i.expands

  pub source-rowed : Rowed x
  source-rowed = (expands-sound s x os i.rowed i.of_text i.expands).0

  pub source-alone : ScopesAlone x
  source-alone = expands-alone s x os i.rowed i.of_text i.alone i.expands

  -- it runs to the first demand that it doesn't meet, or to the end
  runs : (e : Encoding) (o : Option Unmet) → missing_scope e [] x ≡ o → run e [] x os ≡ outcome o (text_scope e [] x os)
  runs e o h = run-outcome e [] x os (expands-sound s x os i.rowed i.of_text i.expands).1 ∙ ap (λ u. outcome u (text_scope e [] x os)) h

  -- the first demand that it doesn't meet is that of its source
  source-refused : (e : Encoding) (r : Error) → option_map refusal_of (missing_scope e [] x) ≡ Some r → option_map refusal_of (first_unmet e [] s) ≡ Some r
  source-refused e r h = go (missing_scope e [] x) (runs e (missing_scope e [] x) refl) h
    where
      go : (o : Option Unmet) → run e [] x os ≡ outcome o (text_scope e [] x os) → option_map refusal_of o ≡ Some r → option_map refusal_of (first_unmet e [] s) ≡ Some r
      go None k q = absurd (cc)
      go (Some u) k q = ap (option_map refusal_of) (expansion-refused e [] [] [] s x os u tt tt tt i.rowed i.of_text i.expands k) ∙ q

  -- where it meets all, what is made of it is the form of its source, and the marks of that are the plan
  source-done : (e : Encoding) → missing_scope e [] x ≡ None → ScopeRule e [] s × (form e [] s ≡ scope_of (kind_of x) None None (binary_defs (text_scope e [] x os))) × (plan e [] s ≡ origins_of (text_scope e [] x os))
  source-done e h = expansion-done e [] [] [] s x os (text_scope e [] x os) tt tt tt i.rowed i.of_text i.expands (runs e None h)

-- a stack that holds no scope stands for none
none-open : (scopes : List Open) → scopes ≡ [] → OpenScopesShow scopes []
none-open scopes h = subst (λ os. OpenScopesShow os []) (sym h) tt

module _ {e : Encoding} {C : List CoreModule} {scopes : List Open} {x new : tree.Scope} (n : scopes ≡ []) (r : ScopeResolved e C scopes x new) (s : Scope) (i : IsSource s (t.scope_of C x) (marks_of C x)) where
  done : ScopeRule e [] s × (form e [] s ≡ scope_of (kind_of (t.scope_of C x)) None None (binary_defs (text_scope e [] (t.scope_of C x) (marks_of C x)))) × (plan e [] s ≡ origins_of (text_scope e [] (t.scope_of C x) (marks_of C x)))
  done = source-done i e (r.known [] (none-open scopes n))

  pub whole-rule : ScopeRule e [] s
  whole-rule = done.0

  pub whole-form : binary_of e (t.scope_of C new) ≡ form e [] s
  whole-form = r.form [] (none-open scopes n) ∙ sym done.1

  pub whole-plan : planned_of C new ≡ plan e [] s
  whole-plan = r.plan [] (none-open scopes n) ∙ sym done.2

pub whole-refused : (e : Encoding) (C : List CoreModule) (scopes : List Open) (x : tree.Scope) (r : Error) → scopes ≡ [] → Refused scopes (λ ms. missing_scope e ms (t.scope_of C x)) r
    → (r ≡ no_memory) ⊎ ((s : Scope) → IsSource s (t.scope_of C x) (marks_of C x) → option_map refusal_of (first_unmet e [] s) ≡ Some r)
whole-refused e C scopes x r n (inl h) = inl h
whole-refused e C scopes x r n (inr h) = inr (λ s i. source-refused i e r (h [] (none-open scopes n)))
