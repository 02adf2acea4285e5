-- What the names of a plan hold.
use Rattle.std.specs.Prelude.{◌≡◌, ℕ, List, Some, Option, bytes_eq, if◌then◌else◌}
use Rattle.std.specs.BTreeMap.{get_by}
use Rattle.std.specs.Cmp.Lexicographic.{slice_cmp}
use Rattle.std.specs.Ordering.{nat_cmp}
use Rattle.plan_lines.specs.Lines.{Line}
use Rattle.comp_compose.specs.Meanings.{declared}
use Rattle.comp_compose.specs.declared.names.Item.{Item}
use Rattle.comp_compose.specs.declared.names.Names.{Names}

-- what a name is found as
abbrev pub found : Names → List ℕ → Option Item
found names x = get_by (λ k. slice_cmp nat_cmp x k.now) names.items

-- each name is found as these lines declare it
abbrev pub Shows : Names → List Line → Type 0
Shows names ls = (x : List ℕ) → found names x ≡ declared ls x

-- one name more, and the others as before
abbrev pub Adds : Names → Names → List ℕ → Item → Type 0
Adds old new name item = (x : List ℕ) → found new x ≡ (if bytes_eq name x then Some item else found old x)
