-- An expansion has the first unmet demand of its scope, and where the rule holds its form and its plan.
use Rattle.std.proofs.Common.{◌≡◌, ◌↔◌, List, ◌∷◌, None, sym, ◌∙◌, ap}
use Rattle.comp_model.specs.Model.{Scope, scope_of, defs_of}
use Rattle.comp_model.specs.declared.row.ScopeKind.{ScopeKind}
use Rattle.comp_scopes.specs.Encoding.{Encoding}
use Rattle.comp_scopes.specs.Form.{binary_defs, origins_of, built, plan, form}
use Rattle.comp_scopes.specs.Rule.{ScopeRule}
use Rattle.comp_scopes.specs.Rowed.{Rowed}
use Rattle.comp_scopes.proofs.Quiet.{rule-none}
use Rattle.comp_scopes.specs.Unmet.{first_unmet}
use Rattle.comp_expanded.specs.ListMarks.{ListMarks}
use Rattle.comp_expanded.specs.Expansion.{Naming, expand_list, expand, expand_marks}
use Rattle.comp_expanded.specs.TextNumbers.{entries, marks_in_text}
use Rattle.comp_expanded.specs.OfText.{OfText}
use Rattle.comp_expanded.specs.Expands.{AllExpand, Expands}
use Rattle.comp_expanded.proofs.Stacks.{expand_stack, AllNamed}
use Rattle.comp_expanded.proofs.HasNaming.{expands-expand}
use Rattle.comp_expanded.proofs.Kept.{ByNaming, stack-named, expanded-entries}
use Rattle.comp_expanded.proofs.FormKept.{same-binary, same-origins}
use Rattle.comp_expanded.proofs.BuiltKept.{Level, built-expand}
use Rattle.comp_expanded.proofs.UnmetKept.{unmet-expand}

-- a scope of a stack with its naming
abbrev level : (g : Naming) (kd : ScopeKind) (id : _) (label : _) (ds : _) (gs : List Naming) (st : List Scope) → AllNamed (g ∷ gs) (scope_of kd id label ds ∷ st) → Level
level g kd id label ds gs st h = record { by = g; kd = kd; id = id; label = label; ds = ds; gs = gs; st = st; all = h }

expanded-form : (e : Encoding) (gs : List Naming) (st : List Scope) (g : Naming) (s : Scope) → AllNamed (g ∷ gs) (s ∷ st) → ScopeRule e st s → form e (expand_stack gs st) (expand g s) ≡ form e st s
expanded-form e gs st g (scope_of kd id label ds) h r =
    ap (λ ds. scope_of kd None None ds) (sym (ap binary_defs (built-expand e (level g kd id label ds gs st h) r) ∙ same-binary (expand_list g (scope_of kd id label ds)) (built e (expand_stack gs st) (expand g (scope_of kd id label ds)))))

expanded-plan : (e : Encoding) (gs : List Naming) (st : List Scope) (g : Naming) (s : Scope) → AllNamed (g ∷ gs) (s ∷ st) → ScopeRule e st s → plan e st s ≡ marks_in_text (expand_list g s) (plan e (expand_stack gs st) (expand g s))
expanded-plan e gs st g (scope_of kd id label ds) h r = ap origins_of (built-expand e (level g kd id label ds gs st h) r) ∙ same-origins (expand_list g (scope_of kd id label ds)) (built e (expand_stack gs st) (expand g (scope_of kd id label ds)))

expanded-unmet : (e : Encoding) (gs : List Naming) (st : List Scope) (g : Naming) (s : Scope) → AllNamed (g ∷ gs) (s ∷ st) → first_unmet e (expand_stack gs st) (expand g s) ≡ first_unmet e st s
expanded-unmet e gs st g (scope_of kd id label ds) h = sym (unmet-expand e (level g kd id label ds gs st h))

unmet-by : (e : Encoding) (st xs : List Scope) (s x : Scope) (g : Naming) (gs : List Naming) → AllNamed (g ∷ gs) (s ∷ st) → x ≡ expand g s → xs ≡ expand_stack gs st → first_unmet e xs x ≡ first_unmet e st s
unmet-by e st xs s x g gs a p r = rw (p, r) (expanded-unmet e gs st g s a)

form-by : (e : Encoding) (st xs : List Scope) (s x : Scope) (g : Naming) (gs : List Naming) → AllNamed (g ∷ gs) (s ∷ st) → x ≡ expand g s → xs ≡ expand_stack gs st → ScopeRule e st s → form e xs x ≡ form e st s
form-by e st xs s x g gs a p r h = rw (p, r) (expanded-form e gs st g s a h)

plan-by : (e : Encoding) (st xs : List Scope) (s x : Scope) (os : ListMarks) (g : Naming) (gs : List Naming) → AllNamed (g ∷ gs) (s ∷ st) → x ≡ expand g s → os ≡ expand_marks g s → xs ≡ expand_stack gs st → ScopeRule e st s → plan e st s ≡ marks_in_text (entries (defs_of x) os) (plan e xs x)
plan-by e st xs s x os g gs a p q r h =
    let l : entries (defs_of x) os ≡ expand_list g s = rw (p, q) (expanded-entries g s) in
    rw (l, p, r) (expanded-plan e gs st g s a h)

pub expands-unmet : (e : Encoding) (st xs : List Scope) (s x : Scope) (os : ListMarks) → AllExpand st xs → Rowed s → OfText s → Expands s x os → first_unmet e xs x ≡ first_unmet e st s
expands-unmet e st xs s x os a w t h =
    let k : ByNaming s x os = expands-expand s x os w t h in
    let m : (gs : List Naming) × AllNamed gs st × (xs ≡ expand_stack gs st) = stack-named st xs a in
    unmet-by e st xs s x k.0 m.0 ((w, t, k.1), m.1) k.2 m.2

pub expands-rule : (e : Encoding) (st xs : List Scope) (s x : Scope) (os : ListMarks) → AllExpand st xs → Rowed s → OfText s → Expands s x os → ScopeRule e xs x ↔ ScopeRule e st s
expands-rule e st xs s x os a w t h =
    let q : first_unmet e xs x ≡ first_unmet e st s = expands-unmet e st xs s x os a w t h in
    (λ r. (rule-none e st s).1 (sym q ∙ (rule-none e xs x).0 r), λ r. (rule-none e xs x).1 (q ∙ (rule-none e st s).0 r))

pub expands-form : (e : Encoding) (st xs : List Scope) (s x : Scope) (os : ListMarks) → AllExpand st xs → Rowed s → OfText s → Expands s x os → ScopeRule e st s → form e xs x ≡ form e st s
expands-form e st xs s x os a w t h r =
    let k : ByNaming s x os = expands-expand s x os w t h in
    let m : (gs : List Naming) × AllNamed gs st × (xs ≡ expand_stack gs st) = stack-named st xs a in
    form-by e st xs s x k.0 m.0 ((w, t, k.1), m.1) k.2 m.2 r

pub expands-plan : (e : Encoding) (st xs : List Scope) (s x : Scope) (os : ListMarks) → AllExpand st xs → Rowed s → OfText s → Expands s x os → ScopeRule e st s → plan e st s ≡ marks_in_text (entries (defs_of x) os) (plan e xs x)
expands-plan e st xs s x os a w t h r =
    let k : ByNaming s x os = expands-expand s x os w t h in
    let m : (gs : List Naming) × AllNamed gs st × (xs ≡ expand_stack gs st) = stack-named st xs a in
    plan-by e st xs s x os k.0 m.0 ((w, t, k.1), m.1) k.2 k.3 m.2 r
