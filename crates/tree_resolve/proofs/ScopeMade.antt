-- A scope whose definitions are resolved is what the tables make of it.
use Rattle.std.proofs.Common.{◌≡◌, ℕ, refl, sym, ap, ◌∙◌, subst, Bool, true, false, List, ◌∷◌, ◌++◌, Option, Some, None, option_map, Bor, inl, inr}
use Rattle.std.specs.Prelude.{codes}
use Rattle.comp_model.specs.Core.{Id, Text}
use Rattle.comp_model.specs.CoreModules.{CoreModule}
use Rattle.comp_model.specs.ItemNames.{has_names}
use Rattle.comp_model.specs.Model as m
use Rattle.comp_model.specs.declared.row.ScopeKind.{ScopeKind}
use Rattle.comp_model.specs.Model.{no_def, one_def, define, no_names}
use Rattle.comp_model.specs.Payloads.{name_payload}
use Rattle.comp_model.specs.Spaces.{declarations}
use Rattle.comp_scopes.specs.Encoding.{Encoding}
use Rattle.comp_scopes.specs.Form.{custom_node, binary_defs, origins_of}
use Rattle.comp_scopes.specs.Names.{first_of_two}
use Rattle.comp_scopes.specs.Resolved.{binary_of, binary_of_defs, section_of, list_names}
use Rattle.comp_scopes.specs.Rowed.{DefsRowed}
use Rattle.comp_scopes.specs.Unmet.{Unmet}
use Rattle.comp_expanded.specs.IsResolved.{IsResolved}
use Rattle.comp_tables.specs.Tables.{Opened, nothing_registered, first_taken, unmet_kinds_defs}
use Rattle.comp_tables.specs.Built.{half_open, open_scope, table_for, made_names, names_by, missing_defs, missing_scope}
use Rattle.comp_tables.specs.InText.{text_scope}
use Rattle.wast_tokens.specs.declared.error.Error.{Error}
use Rattle.comp_tree.specs.declared.tree.Def.{Def}
use Rattle.comp_tree.specs.declared.tree.Scope.{Scope}
use Rattle.comp_tree.specs.declared.tree.Scope as s
use Rattle.comp_tree.specs.Lists.{defs_listed}
use Rattle.comp_tree.specs.Marks.{marks_of, marks_listed}
use Rattle.comp_tree.specs.Model.{id_of, lent_text, scope_of}
use Rattle.comp_tree.proofs.Leaves.{scope_fields, scope_made}
use Rattle.comp_tree.proofs.Marks.{marks_fields}
use Rattle.open_scopes.specs.declared.scopes.Open.{Open}
use Rattle.open_scopes.specs.Refusals.{refusal_of}
use Rattle.open_scopes.specs.Shown.{OpenScopesShow}
use Rattle.tree_names.specs.Counted.{Refused}
use Rattle.tree_resolve.specs.Entered.{Entered, unmet_opening}
use Rattle.tree_resolve.specs.Made.{mades}
use Rattle.tree_resolve.specs.Planned.{section_mark, planned_defs}
use Rattle.tree_resolve.specs.ScopeResolved.{ScopeResolved, DefsResolvedTo}
use Rattle.tree_resolve.proofs.Building.{mades-binary, mades-marks}
use Rattle.tree_resolve.proofs.ListNames.{SameNames, has-same, list-same}
use Rattle.tree_resolve.proofs.Planned.{planned-made}
use Rattle.tree_resolve.proofs.TableUnread.{table-open}

first-assoc : (a b c : Option Unmet) → first_of_two (first_of_two a b) c ≡ first_of_two a (first_of_two b c)
first-assoc (Some x) b c = refl
first-assoc None b c = refl

section-marks : (e : Encoding) (T : List ℕ) (x : m.Scope) (b : Bool) → section_mark b ≡ origins_of (made_names e T x b)
section-marks e T x true = refl
section-marks e T x false = refl

section-same : (e : Encoding) (new old : m.Scope) (T : List ℕ) (b : Bool) → list_names new ≡ names_by T old → section_of e new b ≡ binary_defs (made_names e T old b)
section-same e new old T true h = ap (λ n. one_def (define no_names (custom_node (codes "component-name") (name_payload n))) no_def) h
section-same e new old T false h = refl

-- the three searches, the first two of which are those of the opening
missing-apart : (e : Encoding) (ms : List Opened) (x : m.Scope) → first_of_two (unmet_opening x ms) (missing_defs e (open_scope ms x ∷ ms) (m.defs_of x)) ≡ missing_scope e ms x
missing-apart e ms x = first-assoc (first_taken nothing_registered (declarations x)) (unmet_kinds_defs (half_open x ∷ ms) (m.defs_of x)) (missing_defs e (open_scope ms x ∷ ms) (m.defs_of x))

pub opening-refused : (e : Encoding) (os : List Open) (x : m.Scope) (r : Error) → Refused os (unmet_opening x) r → Refused os (λ ms. missing_scope e ms x) r
opening-refused e os x r (inl h) = inl h
opening-refused e os x r (inr h) = inr (λ ms w. ap (option_map refusal_of) (sym (missing-apart e ms x)) ∙ front (unmet_opening x ms) (missing_defs e (open_scope ms x ∷ ms) (m.defs_of x)) (h ms w))
  where
    front : (a b : Option Unmet) → option_map refusal_of a ≡ Some r → option_map refusal_of (first_of_two a b) ≡ Some r
    front None b h = absurd (cc)
    front (Some y) b h = h

module _ (e : Encoding) (C : List CoreModule) (outer opened : List Open) (x : Scope) (n : Entered C outer opened x) where
  abbrev ds : List Def
  ds = (s.out-Scope x).defs.now

  abbrev kind : ScopeKind
  kind = (s.out-Scope x).kind

  abbrev id : Option Id
  id = option_map id_of (s.out-Scope x).id

  abbrev label : Option Text
  label = option_map lent_text (s.out-Scope x).label

  -- the scope by its fields
  abbrev old : m.Scope
  old = m.scope_of kind id label (defs_listed C ds)

  old-is : scope_of C x ≡ old
  old-is = scope_fields C x

  shown : (ms : List Opened) → OpenScopesShow outer ms → OpenScopesShow opened (open_scope ms old ∷ ms)
  shown ms w = subst (λ z. OpenScopesShow opened (open_scope ms z ∷ ms)) old-is (n.shown ms w)

  opened-known : (ms : List Opened) → OpenScopesShow outer ms → missing_scope e ms old ≡ missing_defs e (open_scope ms old ∷ ms) (defs_listed C ds)
  opened-known ms w =
      sym (missing-apart e ms old) ∙ ap (λ z. first_of_two z (missing_defs e (open_scope ms old ∷ ms) (defs_listed C ds))) (ap (λ z. unmet_opening z ms) (sym old-is) ∙ n.known ms w)

  -- what its definitions don't meet, it doesn't
  pub list-refused : (r : Error) → Refused opened (λ ms. missing_defs e ms (defs_listed C ds)) r → Refused outer (λ ms. missing_scope e ms (scope_of C x)) r
  list-refused r (inl h) = inl h
  list-refused r (inr h) = inr (λ ms w. ap (λ z. option_map refusal_of (missing_scope e ms z)) old-is ∙ ap (option_map refusal_of) (opened-known ms w) ∙ h (open_scope ms old ∷ ms) (shown ms w))

  module _ (new : List Def) (rowed : DefsRowed (defs_listed C ds)) (r : DefsResolvedTo e C opened ds new) where
    abbrev now : m.Scope
    now = m.scope_of kind id label (defs_listed C new)

    module _ (ms : List Opened) (w : OpenScopesShow outer ms) where
      abbrev os : List Opened
      os = open_scope ms old ∷ ms

      names : SameNames os (defs_listed C ds) (defs_listed C new)
      names = record { counted = λ t. r.named os t (shown ms w); any = r.any }

      its-names : has_names now ≡ has_names old
      its-names = has-same os kind id label (defs_listed C ds) (defs_listed C new) names

      its-maps : list_names now ≡ names_by (table_for ms old) old
      its-maps = list-same os kind id label (defs_listed C ds) (defs_listed C new) names rowed ∙ ap (λ T. names_by T old) (table-open ms old)

      its-text : mades e C new ++ made_names e (table_for ms old) old (has_names old) ≡ text_scope e ms old (marks_listed C ds)
      its-text = ap (λ z. z ++ made_names e (table_for ms old) old (has_names old)) (r.made os (shown ms w))

      now-form : binary_of e now ≡ m.scope_of kind None None (binary_defs (text_scope e ms old (marks_listed C ds)))
      now-form =
          ap (λ b. m.scope_of kind None None (binary_of_defs e (defs_listed C new) (section_of e now b))) its-names
          ∙ ap (λ z. m.scope_of kind None None (binary_of_defs e (defs_listed C new) z)) (section-same e now old (table_for ms old) (has_names old) its-maps)
          ∙ ap (m.scope_of kind None None) (mades-binary e C new (made_names e (table_for ms old) old (has_names old)))
          ∙ ap (λ z. m.scope_of kind None None (binary_defs z)) its-text

      now-plan : planned_defs C (section_mark (has_names now)) new ≡ origins_of (text_scope e ms old (marks_listed C ds))
      now-plan =
          ap (λ b. planned_defs C (section_mark b) new) its-names ∙ ap (λ z. planned_defs C z new) (section-marks e (table_for ms old) old (has_names old))
          ∙ mades-marks e C new (made_names e (table_for ms old) old (has_names old)) ∙ ap origins_of its-text

    pub scope-resolved : (defs : Bor (List Def)) → defs.now ≡ new
        → ScopeResolved e C outer x (s.roll-Scope (record { kind = (s.out-Scope x).kind; id = (s.out-Scope x).id; label = (s.out-Scope x).label; defs = defs }))
    scope-resolved defs q =
        let made : scope_of C (s.roll-Scope (record { kind = (s.out-Scope x).kind; id = (s.out-Scope x).id; label = (s.out-Scope x).label; defs = defs })) ≡ now =
        scope_made C (s.out-Scope x).kind (s.out-Scope x).id (s.out-Scope x).label defs ∙ ap (λ z. m.scope_of kind id label (defs_listed C z)) q in
        record {
          known = λ ms w. ap (missing_scope e ms) old-is ∙ opened-known ms w ∙ r.known (open_scope ms old ∷ ms) (shown ms w);
          form = λ ms w.
              ap (binary_of e) made ∙ now-form ms w ∙ ap (λ z. m.scope_of (m.kind_of z) None None (binary_defs (text_scope e ms z (marks_listed C ds)))) (sym old-is)
              ∙ ap (λ z. m.scope_of (m.kind_of (scope_of C x)) None None (binary_defs (text_scope e ms (scope_of C x) z))) (sym (marks_fields C x));
          plan = λ ms w.
              planned-made C (s.out-Scope x).kind (s.out-Scope x).id (s.out-Scope x).label defs
              ∙ ap (λ z. planned_defs C (section_mark (has_names (m.scope_of kind id label (defs_listed C z)))) z) q
              ∙ now-plan ms w ∙ ap (λ z. origins_of (text_scope e ms z (marks_listed C ds))) (sym old-is) ∙ ap (λ z. origins_of (text_scope e ms (scope_of C x) z)) (sym (marks_fields C x));
          resolved = subst IsResolved (sym made) r.resolved;
        }
