-- A definition that holds a scope: what comes of it is what comes of the scope.
use Rattle.std.proofs.Common.{◌≡◌, ℕ, refl, sym, ap, ◌∙◌, subst, List, [], ◌∷◌, ◌++◌, append-nil, Option, None, Some, option_map, Bor, length, get_or, arith, inl, inr}
use Rattle.comp_model.specs.CoreModules.{CoreModule}
use Rattle.comp_model.specs.Model as m
use Rattle.comp_model.specs.Model.{scope, Leaves, no_leaf, ◌▸◌}
use Rattle.comp_model.specs.Origins.{holds}
use Rattle.comp_expanded.specs.ListMarks.{inside_are}
use Rattle.comp_model.specs.declared.declares.Declares.{Declares}
use Rattle.comp_model.specs.declared.declares.Declares.TheVariants.{Always, ByKind, ByDescription, ByReference, ByList, ByResults, Nothing}
use Rattle.comp_model.specs.Spaces.{spaces_by, declares_by, declares_row}
use Rattle.comp_model.specs.declared.row.Row.{Row}
use Rattle.comp_scopes.specs.Encoding.{Encoding}
use Rattle.comp_scopes.specs.Form.{coded_node, binary_defs, origins_of}
use Rattle.comp_scopes.specs.Names.{first_of_two}
use Rattle.comp_scopes.specs.Resolved.{binary_of, binary_of_leaf, binary_of_leaves}
use Rattle.comp_scopes.specs.Unmet.{Unmet}
use Rattle.comp_expanded.specs.IsExpanded.{IsExpanded, LeavesExpanded}
use Rattle.comp_expanded.specs.IsResolved.{IsResolved, LeavesResolved}
use Rattle.comp_scopes.specs.Rowed.{Rowed, LeavesRowed}
use Rattle.comp_expanded.specs.TextNumbers.{definition_of}
use Rattle.comp_tables.specs.Tables.{Counters, Opened, past, needs, found_indices}
use Rattle.comp_tables.specs.Built.{missing, missing_roots, missing_scope, made_scope, renumbered, renumbered_leaf}
use Rattle.comp_tables.specs.InText.{text_held, text_scope}
use Rattle.comp_tables.specs.Walks.{counters_in, all_more}
use Rattle.comp_tables.proofs.InText.{told-form}
use Rattle.comp_wire.specs.Origins.{origin_of}
use Rattle.wast_tokens.specs.declared.error.Error.{Error}
use Rattle.comp_tree.specs.declared.tree.Def.{Def}
use Rattle.comp_tree.specs.declared.tree.Leaf as l
use Rattle.comp_tree.specs.declared.tree.Scope.{Scope}
use Rattle.comp_tree.specs.Lists.{listed}
use Rattle.comp_tree.specs.Marks.{places_in, inside_listed, marks_of}
use Rattle.comp_tree.specs.Model.{scope_of}
use Rattle.open_scopes.specs.declared.scopes.Open.{Open}
use Rattle.open_scopes.specs.Refusals.{refusal_of}
use Rattle.tree_names.specs.Counted.{Refused}
use Rattle.tree_names.specs.Served.{all_served}
use Rattle.tree_resolve.specs.Alone.{LeavesAlone, ScopesAlone}
use Rattle.tree_resolve.specs.HoldsScope.{IsPushed}
use Rattle.tree_resolve.specs.Made.{mades, own_names, DefBuilt}
use Rattle.tree_resolve.specs.Planned.{planned_of, planned_listed}
use Rattle.tree_resolve.specs.ScopeResolved.{ScopeResolved}
use Rattle.tree_resolve.proofs.Building.{Needed, BecomesDef, definition-built}
use Rattle.tree_resolve.proofs.TreeAlone.{tree-marked}

-- a list of one
pub one-of : {A : Type 0} (xs : List A) (w x : A) → length xs ≡ 1 → x ≡ get_or xs 0 w → xs ≡ x ∷ []
one-of [] w x h e = absurd (omega (arith, h))
one-of (y ∷ []) w x h e = ap (λ z. z ∷ []) (sym e)
one-of (y ∷ z ∷ xs) w x h e = absurd (omega (arith, h))

first-none : (u : Option Unmet) → first_of_two u None ≡ u
first-none None = refl
first-none (Some u) = refl

-- ---- a scope alone in leaves

abbrev pub alone : m.Scope → Leaves
alone x = scope x ▸ no_leaf

scope-missing : (e : Encoding) (ms : List Opened) (x : m.Scope) → first_of_two (missing_roots ms (alone x)) (missing e ms (alone x)) ≡ missing_scope e ms x
scope-missing e ms (m.scope_of kd id label ds) = first-none (missing_scope e ms (m.scope_of kd id label ds))

scope-declares : (x y : m.Scope) (t : Row) → declares_row t (alone x) ≡ declares_row t (alone y)
scope-declares x y t = go (declares_by t)
  where
    go : (d : Declares) → spaces_by d (alone x) ≡ spaces_by d (alone y)
    go (Always s) = refl
    go Nothing = refl
    go ByKind = refl
    go ByDescription = refl
    go ByReference = refl
    go ByList = refl
    go ByResults = refl

scope-becomes : (x : m.Scope) → IsResolved x → LeavesResolved (alone x)
scope-becomes (m.scope_of kd id label ds) h = (h, tt)

scope-binary : (e : Encoding) (x : m.Scope) → binary_of_leaf e (scope x) ≡ scope (binary_of e x)
scope-binary e (m.scope_of kd id label ds) = refl

scope-renumbered : (e : Encoding) (ms : List Opened) (T : List ℕ) (u : ℕ) (x : m.Scope) → renumbered_leaf e ms T u (scope x) ≡ scope (m.scope_of (m.kind_of x) None None (binary_defs (made_scope e ms x)))
scope-renumbered e ms T u (m.scope_of kd id label ds) = refl

scope-held : (e : Encoding) (ms : List Opened) (x : m.Scope) (os : _) → text_held e ms (alone x) (inside_are os) ≡ holds (origins_of (text_scope e ms x os))
scope-held e ms (m.scope_of kd id label ds) os = refl

pub scope-expanded : (x : m.Scope) → LeavesExpanded (alone x) → IsExpanded x
scope-expanded (m.scope_of kd id label ds) h = h.0

pub scope-rowed : (x : m.Scope) → LeavesRowed (alone x) → Rowed x
scope-rowed (m.scope_of kd id label ds) h = h.1

pub scope-alone : (x : m.Scope) → LeavesAlone (alone x) → ScopesAlone x
scope-alone (m.scope_of kd id label ds) h = h.0

-- ---- a definition

module _ (e : Encoding) (C : List CoreModule) (os : List Open) (d : Def) (inner : Bor Scope) (leaf : d.node.leaves.now ≡ l.Scope inner ∷ []) where
  pub its-leaves : listed C d.node.leaves.now ≡ alone (scope_of C inner.now)
  its-leaves = ap (listed C) leaf

  pub holding-refused : (x : Error) → Refused os (λ ms. missing_scope e ms (scope_of C inner.now)) x → Refused os (λ ms. first_of_two (missing_roots ms (listed C d.node.leaves.now)) (missing e ms (listed C d.node.leaves.now))) x
  holding-refused x (inl h) = inl h
  holding-refused x (inr h) = inr (λ ms w. ap (λ ls. option_map refusal_of (first_of_two (missing_roots ms ls) (missing e ms ls))) its-leaves ∙ ap (option_map refusal_of) (scope-missing e ms (scope_of C inner.now)) ∙ h ms w)

  module _ (new : Scope) (old now : List Def) (counts behind : List ℕ) (served : List (Option ℕ)) (p : IsPushed d new old now) (r : ScopeResolved e C os inner.now new) (a : ScopesAlone (scope_of C inner.now)) where
    pushed-leaves : listed C p.pushed.node.leaves.now ≡ alone (scope_of C new)
    pushed-leaves = ap (listed C) p.leaves ∙ ap (λ z. alone (scope_of C z)) p.scope

    pushed-held : planned_listed C p.pushed.node.leaves.now ≡ holds (planned_of C new)
    pushed-held = ap (planned_listed C) p.leaves ∙ ap (λ z. holds (planned_of C z)) p.scope

    -- it needs Nothing
    nothing-needed : Needed e C os counts served d old old
    nothing-needed = record {
      grown = λ ms c more w x y. sym (append-nil (mades e C old)) ∙ ap (λ ls. mades e C old ++ needs ms (definition_of (origin_of d.origin)) (places_in C d) ls c) (sym its-leaves);
      named = λ s b. refl;
      any = refl;
      resolved = λ h. h;
    }

    becomes : BecomesDef e C os counts served d p.pushed
    becomes = record {
      origin = p.origin;
      names = p.names;
      head = p.head;
      declares = ap (declares_row d.node.row) pushed-leaves ∙ scope-declares (scope_of C new) (scope_of C inner.now) d.node.row ∙ ap (declares_row d.node.row) (sym its-leaves);
      resolved = subst LeavesResolved (sym pushed-leaves) (scope-becomes (scope_of C new) r.resolved);
      made = λ ms c more w x y.
          ap (λ ls. coded_node e d.node.row ls (binary_of_leaves e ls)) pushed-leaves
          ∙ ap (λ z. coded_node e d.node.row (alone (scope_of C new)) (z ▸ no_leaf)) (scope-binary e (scope_of C new) ∙ ap scope (r.form ms w)
          ∙ ap (λ z. scope (m.scope_of (m.kind_of (scope_of C inner.now)) None None z)) (told-form e ms (scope_of C inner.now) (marks_of C inner.now) (tree-marked C inner.now a))
          ∙ sym (scope-renumbered e ms (found_indices ms (alone (scope_of C inner.now)) c) 0 (scope_of C inner.now)))
          ∙ ap (λ ls. coded_node e d.node.row ls (renumbered e ms (found_indices ms ls c) 0 ls)) (sym its-leaves);
      held = λ ms w.
          pushed-held ∙ ap holds (r.plan ms w) ∙ sym (scope-held e ms (scope_of C inner.now) (marks_of C inner.now))
          ∙ ap (λ ls. text_held e ms ls (inside_are (marks_of C inner.now))) (sym its-leaves)
          ∙ ap (text_held e ms (listed C d.node.leaves.now)) (sym (ap (inside_listed C) leaf));
    }

    pub holding-built : length counts ≡ 13 → behind ≡ all_more counts (declares_row d.node.row (listed C d.node.leaves.now)) → (own_names d).exports ≡ [] → DefBuilt e C os counts served d old now behind served
    holding-built z b x =
        definition-built nothing-needed becomes now counts behind served (declares_row d.node.row (listed C d.node.leaves.now)) p.behind z (λ ms c more w u v. u ∙ ap (λ ls. (past ms ls c).counts) (sym its-leaves)) (λ ms c more w u v. v ∙ ap (λ ls. all_served ms ls c ++ more) its-leaves) refl b
        (λ ms w. ap (λ ls. first_of_two (missing_roots ms ls) (missing e ms ls)) its-leaves ∙ scope-missing e ms (scope_of C inner.now) ∙ r.known ms w) x
