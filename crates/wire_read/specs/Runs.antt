-- The sections of a component as runs of rows, and what reading them answers.
use Rattle.std.specs.Prelude.{◌≡◌, ◌≢◌, ℕ, not, ◌&&◌, Bool, true, false, List, [], ◌∷◌, length, Option, Some, None, Result, MatchResult}
use Rattle.std.proofs.Common.{Bor}
use Rattle.comp_model.specs.Payloads.{framed}
use Rattle.comp_model.specs.Model.{Nodes, no_node, one_node, count_nodes, no_names, Defs, no_def, one_def, define}
use Rattle.comp_wire.specs.declared.sections.SectionKind.{SectionKind}
use Rattle.comp_wire.specs.Sections.{is_counted, same_section, section_number, rows_of, Group, group, body, Word}
use Rattle.comp_wire.specs.Table.{Family}
use Rattle.comp_wire.specs.Spelled.{spell_node, FitsNodes, FitsSections, spell_component}
use Rattle.wire_tree.specs.Model.{scope_of}
use Rattle.wire_tree.specs.Lists.{nodes_listed}
use Rattle.wire_tree.specs.declared.tree.Node as tree
use Rattle.wire_tree.specs.declared.tree.Scope as s
use Rattle.wire_read.specs.Place.{Place, rest}
use Rattle.wire_read.specs.Within.{WithinNodes, WithinScope}
use Rattle.wire_read.specs.Stops.{Allows, At}
use Rattle.wire_read.specs.Deep.{BodyDeep, ComponentDeep}
use Rattle.wire_read.specs.declared.stop.Stop.{Stop}

-- neighbours in one section
pub record Run : Type 0 where
  pub section : SectionKind
  pub rows : Nodes

abbrev pub run : SectionKind → Nodes → Run
run t ks = record { section = t; rows = ks }

-- the bytes of each row
abbrev pub contents : Nodes → Family → List (List ℕ)
contents no_node f = []
contents (one_node n ns) f = spell_node n f ∷ contents ns f

abbrev pub run_group : Run → Group
run_group r = group r.section (contents r.rows (rows_of r.section))

-- what stands behind the length of a section
abbrev pub body_bytes : SectionKind → Nodes → List ℕ
body_bytes t ks = body (run_group (run t ks))

abbrev pub run_bytes : Run → List ℕ
run_bytes r = section_number r.section ∷ framed (body_bytes r.section r.rows)

-- the rows are those of the section: one, or some behind a count
pub record BodyFits (t : SectionKind) (ks : Nodes) : Type 0 where
  pub rows : FitsNodes ks (rows_of t)
  pub some : count_nodes ks ≢ 0
  pub lone : is_counted t ≡ false → count_nodes ks ≡ 1
  pub count : Word (count_nodes ks)

-- a section may stand directly behind the last one
abbrev pub may_follow : Option SectionKind → SectionKind → Bool
may_follow None t = true
may_follow (Some u) t = not (is_counted u && same_section u t)

pub record RunFits (last : Option SectionKind) (r : Run) : Type 0 where
  pub rows : BodyFits r.section r.rows
  pub short : Word (length (body_bytes r.section r.rows))
  pub follows : may_follow last r.section ≡ true

-- a part that fills the bytes up to the end was read, or none of which the refusal speaks does
abbrev pub Whole : {X A : Type 0} → (ℕ → Type 0) → (X → A) → (A → Type 0) → (A → Type 0) → (A → List ℕ) → Place → Result X Stop → Type 0
Whole {X} {A} Deep part Fits Near spell old r =
    MatchResult r (λ x. Fits (part x) × Near (part x) × (spell (part x) ≡ rest old)) (λ e. ((x : A) → Fits x → Allows e (Near x) → spell x ≡ rest old → ⊥) × At e Deep)

abbrev pub WholeBody : SectionKind → ℕ → Place → Result (Bor (List tree.Node)) Stop → Type 0
WholeBody t left old r = Whole (BodyDeep t left old) (λ (p : Bor (List tree.Node)). nodes_listed p.now) (BodyFits t) (λ ks. WithinNodes ks left) (body_bytes t) old r

abbrev pub WholeComponent : ℕ → Place → Result s.Scope Stop → Type 0
WholeComponent left old r = Whole (ComponentDeep left old) scope_of FitsSections (λ b. WithinScope b left) spell_component old r

-- the definitions of runs
abbrev pub defs_before : Nodes → Defs → Defs
defs_before no_node ds = ds
defs_before (one_node n ns) ds = one_def (define no_names n) (defs_before ns ds)

abbrev pub run_defs : List Run → Defs
run_defs [] = no_def
run_defs (r ∷ rs) = defs_before r.rows (run_defs rs)

-- each run fits behind the one before it
abbrev pub RunsFit : Option SectionKind → List Run → Type 0
RunsFit last [] = Unit {0}
RunsFit last (r ∷ rs) = RunFits last r × RunsFit (Some r.section) rs

abbrev pub RunsWithin : List Run → ℕ → Type 0
RunsWithin [] n = Unit {0}
RunsWithin (r ∷ rs) n = WithinNodes r.rows n × RunsWithin rs n
