-- The definitions of lines fit their rows, and take little more than the lines.
use Rattle.std.proofs.Common.{◌≡◌, ℕ, ◌+◌, ◌*◌, ◌<◌, ◌≤◌, ◌^◌, List, [], ◌∷◌, ◌++◌, length, length-append, append-nil, refl, sym, ◌∙◌, ap, subst, arith, Some, Ok}
use Rattle.comp_model.specs.declared.Space.TheVariants as space
use Rattle.comp_model.specs.Makers as make
use Rattle.comp_model.specs.Leb.{uleb}
use Rattle.comp_model.specs.Payloads.{framed}
use Rattle.comp_model.specs.Model as m
use Rattle.comp_model.specs.Model.{Scope, Def, Node, Nodes, no_node, one_node, count_nodes}
use Rattle.comp_wire.specs.Table as t
use Rattle.comp_wire.specs.declared.sections.SectionKind.TheVariants as section_kinds
use Rattle.comp_wire.specs.Sections.{item, Word}
use Rattle.comp_wire.specs.Spelled.{spell_node, spell_nodes, spell_component, item_of_def, FitsNodes, FitsDefinition}
use Rattle.comp_wire.specs.Definitions.{plain_def}
use Rattle.comp_wire.specs.Read.{Reads}
use Rattle.comp_wire.proofs.Numbers.{uleb_short}
use Rattle.comp_wire.proofs.Fit.{fits_sections}
use Rattle.hex.specs.Hex.{decode_of}
use Rattle.hex.proofs.HexLemmas.{decode_of-ok}
use Rattle.plan_lines.specs.Lines.{Argument, Line, a_part, an_instance, an_export}
use Rattle.comp_compose.specs.Meanings.{declared}
use Rattle.comp_compose.specs.Parts.{IsPart}
use Rattle.comp_compose.specs.Refused.{plan_limit}
use Rattle.comp_compose.specs.Composed.{AreArguments, IsComponent, IsInstance, IsExport, IsDefinition}
use Rattle.comp_compose.specs.Weights.{weight, AreTexts, Takes}
use Rattle.comp_compose.specs.declared.names.Item.TheVariants as found
use Rattle.comp_compose.proofs.Lookups.{component_below, instance_below}

-- a definition fits its row, and weighs at most four times this
pub record Light (d : Def) (n : ℕ) : Type 0 where
  pub fits : FitsDefinition d
  pub light : length (item_of_def d).content + 1 ≤ 4 * n

-- a number that is small enough in LEB128
short : (n : ℕ) → n < 2 ^ 32 → length (uleb n) ≤ 5
short n h = uleb_short n h

one_argument : (x : List ℕ) (i : ℕ) → length x < 2 ^ 32 → i < 2 ^ 32 → length (spell_node (make.argument x space.Instance (m.index i)) t.arguments) ≤ length x + 11
one_argument x i h k =
    omega (arith, length-append (framed x) ((5 ∷ uleb i) ++ []), length-append (uleb (length x)) x, length-append (5 ∷ uleb i) [], short (length x) h, short i k)

-- the arguments of an instance
pub record Fitting (ns : Nodes) (n : ℕ) : Type 0 where
  pub fits : FitsNodes ns t.arguments
  pub few : count_nodes ns ≤ n
  pub light : length (spell_nodes ns t.arguments) ≤ 4 * n

pub arguments_fit : (before : List Line) (as' : List Argument) (ns : Nodes) → AreArguments before as' ns → weight as' ≤ plan_limit → length before ≤ plan_limit → Fitting ns (weight as')
arguments_fit before [] no_node h w l = record { fits = tt; few = omega arith; light = omega arith }
arguments_fit before [] (one_node n ns) h w l = absurd h
arguments_fit before (a ∷ as') no_node h w l = absurd h
arguments_fit before (a ∷ as') (one_node n ns) h w l =
    let x = a.text.bytes in
    let i = h.0 in
    let small : i < 2 ^ 32 = omega (arith, l, instance_below before a.instance.bytes i h.1) in
    let long : length x < 2 ^ 32 = omega (arith, w) in
    let rest = arguments_fit before as' ns h.3 (omega (arith, w)) l in
    let one : length (spell_node n t.arguments) ≤ length x + 11 = subst (λ k. length (spell_node k t.arguments) ≤ length x + 11) (sym h.2) (one_argument x i long small) in
    record {
      fits = ((subst (λ k. FitsNodes (one_node k no_node) t.arguments) (sym h.2) ((refl, (long, (small, tt))), tt)).0, rest.fits);
      few = omega (arith, rest.few);
      light = omega (arith, rest.light, one, length-append (spell_node n t.arguments) (spell_nodes ns t.arguments));
    }

pub instance_fits : (before : List Line) (part : List ℕ) (as' : List Argument) (i : ℕ) (ns : Nodes) (n : ℕ) → declared before part ≡ Some (found.Component i) → AreArguments before as' ns
    → weight as' + 4 ≤ n → n ≤ plan_limit → length before ≤ plan_limit → Light (plain_def (make.instantiate (m.index i) ns)) n
instance_fits before part as' i ns n e h w k l =
    let small : i < 2 ^ 32 = omega (arith, l, component_below before part i e) in
    let all = arguments_fit before as' ns h (omega (arith, w, k)) l in
    let few : count_nodes ns < 2 ^ 32 = omega (arith, all.few, w, k) in
    let a = length-append (uleb i) ((uleb (count_nodes ns) ++ spell_nodes ns t.arguments) ++ []) in
    let b = length-append (uleb (count_nodes ns) ++ spell_nodes ns t.arguments) [] in
    let c = length-append (uleb (count_nodes ns)) (spell_nodes ns t.arguments) in
    record { fits = (refl, (refl, ((refl, small), ((few, all.fits), tt)))); light = omega (arith, a, b, c, short i small, short (count_nodes ns) few, all.light, w) }

pub export_fits : (before : List Line) (x name : List ℕ) (i n : ℕ) → declared before name ≡ Some (found.Instance i) → 1 ≤ length x → length x + 3 ≤ n → n ≤ plan_limit → length before ≤ plan_limit
    → Light (plain_def (make.export_row (m.text x) m.absent space.Instance (m.index i))) n
export_fits before x name i n e some h k l =
    let small : i < 2 ^ 32 = omega (arith, l, instance_below before name i e) in
    let long : length x < 2 ^ 32 = omega (arith, h, k) in
    let a = length-append (0 ∷ framed x) ((5 ∷ uleb i) ++ (0 ∷ [])) in
    let b = length-append (uleb (length x)) x in
    let c = length-append (5 ∷ uleb i) (0 ∷ []) in
    record { fits = (refl, (refl, (long, (small, (tt, tt))))); light = omega (arith, a, b, c, short (length x) long, short i small, h, some) }

-- a part is as long as its bytes
pub part_item : (s : Scope) (bytes : List ℕ) → Reads bytes s → item_of_def (plain_def (make.component s)) ≡ item section_kinds.Component bytes
part_item s bytes r = ap (item section_kinds.Component) (append-nil (spell_component s) ∙ sym r.spelled)

pub part_fits : (s : Scope) (digits bytes : List ℕ) (n : ℕ) → Reads bytes s → decode_of digits ≡ Ok bytes → length digits + 1 ≤ n → Light (plain_def (make.component s)) n
part_fits s digits bytes n r e h =
    let long : length (item_of_def (plain_def (make.component s))).content ≡ length bytes = ap (λ i. length i.content) (part_item s bytes r) in
    record { fits = (refl, (refl, (fits_sections s r.fits, tt))); light = omega (arith, long, h, (decode_of-ok digits bytes e).2) }
