-- Resolving with tables and an early exit refuses the first unmet demand, or gives the form with its marks in the numbers of the text.
use Rattle.std.proofs.Common.{◌≡◌, ℕ, List, [], map, Option, Some, None, refl, sym, ◌∙◌, ap}
use Rattle.std.proofs.lemmas.List.{append_assoc}
use Rattle.comp_model.specs.Model.{scope, Scope, scope_of, kind_of, defs_of}
use Rattle.comp_model.specs.Origins.{holds}
use Rattle.comp_expanded.specs.ListMarks.{ListMarks, inside_are}
use Rattle.comp_scopes.specs.Encoding.{Encoding}
use Rattle.comp_scopes.specs.Unmet.{Unmet, first_unmet}
use Rattle.comp_scopes.specs.Form.{Made, binary_defs, origins_of, built, plan, form}
use Rattle.comp_expanded.specs.TextNumbers.{entries, marks_in_text}
use Rattle.comp_scopes.specs.Rule.{ScopeRule}
use Rattle.comp_scopes.specs.Rowed.{Rowed}
use Rattle.comp_expanded.specs.OfText.{OfText}
use Rattle.comp_expanded.specs.Expands.{AllExpand, Expands}
use Rattle.comp_expanded.specs.IsExpanded.{IsExpanded}
use Rattle.comp_tables.specs.Tables.{Opened}
use Rattle.comp_tables.specs.Stand.{RegistriesHold, TablesHold}
use Rattle.comp_tables.specs.Built.{Outcome, refused, done, outcome, and_then, missing_leaf, missing_scope, renumbered_leaf}
use Rattle.comp_tables.specs.InText.{Marked, in_text, text_scope, text_held_leaf}
use Rattle.comp_tables.specs.Walks.{run}
use Rattle.comp_scopes.proofs.Quiet.{rule-none}
use Rattle.comp_expanded.proofs.FormKept.{same-binary, same-origins}
use Rattle.comp_expanded.proofs.Alone.{expands-expanded}
use Rattle.comp_expanded.proofs.FormsKept.{expands-unmet, expands-form, expands-plan}
use Rattle.comp_tables.proofs.Unmet.{missing-first}
use Rattle.comp_tables.proofs.InText.{told-built, told-form}
use Rattle.comp_tables.proofs.OfExpansion.{expands-sound}
use Rattle.comp_tables.proofs.Walks.{run-outcome}

-- steps in turn
pub then-assoc : (x y z : Outcome) → and_then (and_then x y) z ≡ and_then x (and_then y z)
then-assoc (refused u) y z = refl
then-assoc (done a) (refused u) z = refl
then-assoc (done a) (done b) (refused u) = refl
then-assoc (done a) (done b) (done c) = ap done (append_assoc a b c)

pub then-none : (x : Outcome) → and_then (done []) x ≡ x
then-none (refused u) = refl
then-none (done a) = refl

some-outcome : (a : Option Unmet) (xs : List Made) (u : Unmet) → outcome a xs ≡ refused u → a ≡ Some u
some-outcome None xs u h = absurd (cc)
some-outcome (Some v) xs u h = ap Some (cc)

none-outcome : (a : Option Unmet) (xs ms : List Made) → outcome a xs ≡ done ms → (a ≡ None) × (xs ≡ ms)
none-outcome None xs ms h = (refl, cc)
none-outcome (Some v) xs ms h = absurd (cc)

module _ (e : Encoding) where
  -- ---- an inner scope

  inner-missing : (os : List Opened) (s : Scope) → missing_leaf e os (scope s) ≡ missing_scope e os s
  inner-missing os (scope_of kd id label ds) = refl

  inner-made : (os : List Opened) (table : List ℕ) (u : ℕ) (s : Scope) (ms : ListMarks) → Marked (defs_of s) ms → renumbered_leaf e os table u (scope s) ≡ scope (scope_of (kind_of s) None None (binary_defs (text_scope e os s ms)))
  inner-made os table u (scope_of kd id label ds) ms m = ap (λ r. scope (scope_of kd None None r)) (sym (told-form e os (scope_of kd id label ds) ms m))

  inner-held : (os : List Opened) (s : Scope) (ms : ListMarks) → text_held_leaf e os (scope s) (inside_are ms) ≡ holds (origins_of (text_scope e os s ms))
  inner-held os (scope_of kd id label ds) ms = refl

  pub inner-refused : (os : List Opened) (s : Scope) (ms : ListMarks) (u : Unmet) → Marked (defs_of s) ms → run e os s ms ≡ refused u → missing_leaf e os (scope s) ≡ Some u
  inner-refused os s ms u m q = inner-missing os s ∙ some-outcome (missing_scope e os s) (text_scope e os s ms) u (sym (run-outcome e os s ms m) ∙ q)

  pub inner-done : (os : List Opened) (s : Scope) (ms : ListMarks) (made : List Made) → Marked (defs_of s) ms → run e os s ms ≡ done made
      → (missing_leaf e os (scope s) ≡ None) × ((table : List ℕ) (u : ℕ) → renumbered_leaf e os table u (scope s) ≡ scope (scope_of (kind_of s) None None (binary_defs made))) × (text_held_leaf e os (scope s) (inside_are ms) ≡ holds (origins_of made))
  inner-done os s ms made m q =
      let n : (missing_scope e os s ≡ None) × (text_scope e os s ms ≡ made) = none-outcome (missing_scope e os s) (text_scope e os s ms) made (sym (run-outcome e os s ms m) ∙ q) in
      (inner-missing os s ∙ n.0, λ table u. inner-made os table u s ms m ∙ ap (λ r. scope (scope_of (kind_of s) None None (binary_defs r))) n.1, inner-held os s ms ∙ ap (λ r. holds (origins_of r)) n.1)

  -- ---- a scope that stands in others

  pub run-first : (os : List Opened) (st : List Scope) (s : Scope) (ms : ListMarks) → RegistriesHold os st → TablesHold os st → Rowed s → IsExpanded s → Marked (defs_of s) ms → run e os s ms ≡ outcome (first_unmet e st s) (map (in_text (entries (defs_of s) ms)) (built e st s))
  run-first os st s ms h t r x m =
      run-outcome e os s ms m ∙ ap (λ a. outcome a (text_scope e os s ms)) (missing-first e os st s h x) ∙ ap (outcome (first_unmet e st s)) (told-built e os st s ms h t r x m)

  -- where it is done: its form and its plan
  pub run-done : (os : List Opened) (st : List Scope) (s : Scope) (ms : ListMarks) (made : List Made) → RegistriesHold os st → TablesHold os st → Rowed s → IsExpanded s → Marked (defs_of s) ms → run e os s ms ≡ done made
      → (first_unmet e st s ≡ None) × (form e st s ≡ scope_of (kind_of s) None None (binary_defs made)) × (marks_in_text (entries (defs_of s) ms) (plan e st s) ≡ origins_of made)
  run-done os st s ms made h t r x m q =
      let n : (first_unmet e st s ≡ None) × (map (in_text (entries (defs_of s) ms)) (built e st s) ≡ made) = none-outcome (first_unmet e st s) (map (in_text (entries (defs_of s) ms)) (built e st s)) made (sym (run-first os st s ms h t r x m) ∙ q) in
      (n.0, ap (λ ds. scope_of (kind_of s) None None ds) (sym (same-binary (entries (defs_of s) ms) (built e st s)) ∙ ap binary_defs n.1), sym (same-origins (entries (defs_of s) ms) (built e st s)) ∙ ap origins_of n.1)

  pub run-refused : (os : List Opened) (st : List Scope) (s : Scope) (ms : ListMarks) (u : Unmet) → RegistriesHold os st → TablesHold os st → Rowed s → IsExpanded s → Marked (defs_of s) ms → run e os s ms ≡ refused u → first_unmet e st s ≡ Some u
  run-refused os st s ms u h t r x m q = some-outcome (first_unmet e st s) (map (in_text (entries (defs_of s) ms)) (built e st s)) u (sym (run-first os st s ms h t r x m) ∙ q)

  -- ---- the expansion of a component of the text

  pub expansion-refused : (os : List Opened) (st xs : List Scope) (s x : Scope) (ms : ListMarks) (u : Unmet) → RegistriesHold os xs → TablesHold os xs → AllExpand st xs → Rowed s → OfText s → Expands s x ms → run e os x ms ≡ refused u → first_unmet e st s ≡ Some u
  expansion-refused os st xs s x ms u n i a r t h q =
      let p : Rowed x × Marked (defs_of x) ms = expands-sound s x ms r t h in
      sym (expands-unmet e st xs s x ms a r t h) ∙ run-refused os xs x ms u n i p.0 (expands-expanded s x ms r t h) p.1 q

  pub expansion-done : (os : List Opened) (st xs : List Scope) (s x : Scope) (ms : ListMarks) (made : List Made) → RegistriesHold os xs → TablesHold os xs → AllExpand st xs → Rowed s → OfText s → Expands s x ms → run e os x ms ≡ done made
      → ScopeRule e st s × (form e st s ≡ scope_of (kind_of x) None None (binary_defs made)) × (plan e st s ≡ origins_of made)
  expansion-done os st xs s x ms made n i a r t h q =
      let p : Rowed x × Marked (defs_of x) ms = expands-sound s x ms r t h in
      let d : (first_unmet e xs x ≡ None) × (form e xs x ≡ scope_of (kind_of x) None None (binary_defs made)) × (marks_in_text (entries (defs_of x) ms) (plan e xs x) ≡ origins_of made) =
      run-done os xs x ms made n i p.0 (expands-expanded s x ms r t h) p.1 q in
      let u : ScopeRule e st s = (rule-none e st s).1 (sym (expands-unmet e st xs s x ms a r t h) ∙ d.0) in
      (u, sym (expands-form e st xs s x ms a r t h u) ∙ d.1, expands-plan e st xs s x ms a r t h u ∙ d.2)
