-- Groups of one word as the published grammar has them: ( "(" w g* ")" )*, as of parameters, results and locals (WebAssembly, text format,
-- Types and Functions). An item behind the first of its group begins where a test holds.
use Rattle.std.specs.Prelude.{◌≡◌, ◌↔◌, ℕ, true, false, List, [], ◌∷◌, ◌++◌}
use Rattle.wast_grammar.specs.Classes.{opening, closing, keyword, same}
use Rattle.wast_grammar.specs.Stand.{Stand, class_at, moved}
use Rattle.wast_grammar.specs.Grammar.{Grammar, Test, Value, holds}
use Rattle.wast_grammar.specs.Spells.{Spells}
use Rattle.wast_grammar.specs.CoreForms.{begins_group}
use Rattle.core_syntax.specs.CoreView.{groups_view}

-- the tokens from s to t are items behind another in its group
pub data Further (q : Test) (g : Grammar) : Stand → Stand → List Value → Type 0 where
  no_further : {s : Stand} → Further q g s s []
  one_further : {s t r : Stand} {u : Value} {us : List Value} → holds q s ≡ true → Spells g s t u → Further q g t r us → Further q g s r (u ∷ us)

-- they are the items of a group
pub data Items (q : Test) (g : Grammar) : Stand → Stand → List Value → Type 0 where
  no_item : {s : Stand} → Items q g s s []
  first_item : {s t r : Stand} {u : Value} {us : List Value} → Spells g s t u → Further q g t r us → Items q g s r (u ∷ us)

-- they are groups of the word, whose items are these, group by group
pub data Groups (w : List ℕ) (q : Test) (g : Grammar) : Stand → Stand → List Value → Type 0 where
  no_group : {s : Stand} → Groups w q g s s []
  one_group : {s t r : Stand} {us vs : List Value} → same (class_at s) opening ≡ true → same (class_at (moved s 1)) (keyword w) ≡ true → Items q g (moved (moved s 1) 1) t us → same (class_at t) closing ≡ true → Groups w q g (moved t 1) r vs
      → Groups w q g s r (us ++ vs)

-- A row spells groups of the word as far as they go: behind them none begins. Of the items it keeps what `groups_view` says, which doesn't
-- tell how they are grouped.
abbrev pub SpellsGroups : Grammar → List ℕ → Test → Grammar → Type 0
SpellsGroups spelled w q g = (s r : Stand) (v : Value) → Spells spelled s r v ↔ ((items : List Value) × (v ≡ groups_view (λ u. u) items) × Groups w q g s r items × (holds (begins_group w) r ≡ false))
