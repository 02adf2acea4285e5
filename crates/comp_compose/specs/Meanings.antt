-- What the names of a plan stand for.
use Rattle.std.specs.Prelude.{ℕ, ◌+◌, List, [], ◌∷◌, bytes_eq, Option, Some, None, if◌then◌else◌}
use Rattle.plan_lines.specs.Lines.{Line, a_part, an_instance, an_export}
use Rattle.comp_compose.specs.declared.names.Item.{Item}
use Rattle.comp_compose.specs.declared.names.Item.TheVariants as item

-- how many components and instances a line declares; an export declares an instance too (Component Model, "Index Spaces")
abbrev pub components_of : Line → ℕ
components_of (a_part name digits) = 1
components_of (an_instance name part as') = 0
components_of (an_export text instance) = 0

abbrev pub instances_of : Line → ℕ
instances_of (a_part name digits) = 0
instances_of (an_instance name part as') = 1
instances_of (an_export text instance) = 1

abbrev pub components : List Line → ℕ
components [] = 0
components (l ∷ ls) = components_of l + components ls

abbrev pub instances : List Line → ℕ
instances [] = 0
instances (l ∷ ls) = instances_of l + instances ls

-- what a line declares this name as, behind so many components and instances
abbrev pub declared_by : ℕ → ℕ → Line → List ℕ → Option Item
declared_by c i (a_part name digits) x = if bytes_eq name.bytes x then Some (item.Component c) else None
declared_by c i (an_instance name part as') x = if bytes_eq name.bytes x then Some (item.Instance i) else None
declared_by c i (an_export text instance) x = None

abbrev pub or_else : Option Item → Option Item → Option Item
or_else None y = y
or_else (Some x) y = Some x

abbrev pub declared_behind : ℕ → ℕ → List Line → List ℕ → Option Item
declared_behind c i [] x = None
declared_behind c i (l ∷ ls) x = or_else (declared_by c i l x) (declared_behind (c + components_of l) (i + instances_of l) ls x)

-- What a name stands for: a part or an instance, by the first line that declares it, and the index of its component or instance, which is
-- the number of those that stand in front of that line. In a plan that isn't refused no other line declares it.
abbrev pub declared : List Line → List ℕ → Option Item
declared ls x = declared_behind 0 0 ls x
