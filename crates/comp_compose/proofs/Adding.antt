-- One line more in a composer.
use Rattle.std.proofs.Common.{◌≡◌, ℕ, ◌+◌, ◌-◌, ◌*◌, ◌<◌, ◌≤◌, ◌^◌, List, [], ◌∷◌, ◌++◌, length, length-append, append_assoc, append-nil, refl, sym, ◌∙◌, ap, subst, arith, Option, Some, None, Ok, if◌then◌else◌, bytes_eq}
use Rattle.comp_model.specs.Model.{Scope, Def, Defs, no_def, one_def, Nodes, no_node, one_node}
use Rattle.comp_model.specs.Makers as make
use Rattle.comp_model.specs.Model as m
use Rattle.comp_model.specs.declared.Space.TheVariants as space
use Rattle.comp_wire.specs.declared.sections.SectionKind.TheVariants as section_kinds
use Rattle.comp_wire.specs.Sections.{Item, item}
use Rattle.comp_wire.specs.Sink.{bulk}
use Rattle.comp_wire.specs.Spelled.{item_of_def, items_of, FitsDefinition, FitsDefinitions}
use Rattle.comp_wire.specs.Definitions.{plain_def, defs_append}
use Rattle.comp_wire.proofs.Room.{bulk-behind, items-append}
use Rattle.hex.specs.Hex.{decode_of}
use Rattle.plan_lines.specs.Words.{Word}
use Rattle.plan_lines.specs.Lines.{Argument, Line, a_part, an_instance, an_export}
use Rattle.comp_compose.specs.Meanings.{components_of, instances_of, components, instances, declared_by, declared}
use Rattle.comp_compose.specs.Parts.{IsPart, HasPart}
use Rattle.comp_compose.specs.Demands.{argument_demands, demands}
use Rattle.comp_compose.specs.Refused.{plan_limit, AllMet}
use Rattle.comp_compose.specs.Composed.{AreArguments, IsDefinition, AreDefinitions}
use Rattle.comp_compose.specs.Composing.{Composing}
use Rattle.comp_compose.specs.Weights.{weight, IsText, Takes}
use Rattle.comp_compose.specs.Written.{Writes}
use Rattle.comp_compose.specs.Shown.{Shows, Adds}
use Rattle.comp_compose.specs.declared.composer.Composer.{Composer}
use Rattle.comp_compose.specs.declared.names.Item.TheVariants as found
use Rattle.plan_lines.specs.Lines.{is_text_byte}
use Rattle.comp_compose.proofs.Weighing.{some_bytes}
use Rattle.comp_compose.proofs.Fitting.{Light, part_item, part_fits, instance_fits, export_fits}
use Rattle.comp_compose.proofs.Lookups.{components_more, instances_more, few_components, few_instances, shown_more, shown_same}

-- one definition behind others
abbrev last : Defs → Def → Defs
last ds d = defs_append ds (one_def d no_def)

definitions_more : (front ls : List Line) (l : Line) (ds : Defs) (d : Def) → AreDefinitions front ls ds → IsDefinition (front ++ ls) l d → AreDefinitions front (ls ++ l ∷ []) (last ds d)
definitions_more front [] l no_def d h k = (subst (λ x. IsDefinition x l d) (append-nil front) k, tt)
definitions_more front [] l (one_def e ds) d h k = absurd h
definitions_more front (x ∷ ls) l no_def d h k = absurd h
definitions_more front (x ∷ ls) l (one_def e ds) d h k = (h.0, definitions_more (front ++ x ∷ []) ls l ds d h.1 (subst (λ y. IsDefinition y l d) (sym (append_assoc front (x ∷ []) ls)) k))

fit_more : (ds : Defs) (d : Def) → FitsDefinitions ds → FitsDefinition d → FitsDefinitions (last ds d)
fit_more no_def d h k = (k, tt)
fit_more (one_def e ds) d h k = (h.0, fit_more ds d h.1 k)

-- A line behind others: its definition, the names and numbers behind it, and that it is written.
pub added : (old new : Composer) (ls : List Line) (spent n : ℕ) (l : Line) (d : Def) → Composing old ls spent → 1 ≤ n → Light d n → IsDefinition ls l d
    → Shows new.names (ls ++ l ∷ []) → new.components ≡ old.components + components_of l → new.instances ≡ old.instances + instances_of l
    → ((is : List Item) → Writes old.writer is → Writes new.writer (is ++ item_of_def d ∷ [])) → Composing new (ls ++ l ∷ []) (spent + n)
added old new ls spent n l d c some light h names cs is put =
    let all : items_of (last c.definitions d) ≡ items_of c.definitions ++ item_of_def d ∷ [] = items-append c.definitions (one_def d no_def) in
    let heavier : bulk (items_of (last c.definitions d)) ≡ bulk (items_of c.definitions) + (length (item_of_def d).content + 1) = ap bulk all ∙ bulk-behind (items_of c.definitions) (item_of_def d) in
    record {
      definitions = last c.definitions d;
      names = names;
      components = cs ∙ ap (λ k. k + components_of l) c.components ∙ sym (components_more ls l);
      instances = is ∙ ap (λ k. k + instances_of l) c.instances ∙ sym (instances_more ls l);
      of_lines = definitions_more [] ls l c.definitions d c.of_lines h;
      fit = fit_more c.definitions d c.fit light.fits;
      written = subst (Writes new.writer) (sym all) (put (items_of c.definitions) c.written);
      light = omega (arith, heavier, c.light, light.light);
      few = omega (arith, length-append ls (l ∷ []), c.few, some);
    }

-- what a composer has room for
pub record Room (composer : Composer) (ls : List Line) (d : Def) : Type 0 where
  pub items : List Item
  pub written : Writes composer.writer items
  pub light : bulk items + (length (item_of_def d).content + 1) < 2 ^ 32
  pub components : composer.components < 2 ^ 32 - 1
  pub instances : composer.instances < 2 ^ 32 - 1
  pub few : length ls ≤ plan_limit

pub room : (composer : Composer) (ls : List Line) (spent n : ℕ) (d : Def) → Composing composer ls spent → spent + n ≤ plan_limit → Light d n → Room composer ls d
room composer ls spent n d c h light = record {
  items = items_of c.definitions;
  written = c.written;
  light = omega (arith, h, light.light, c.light);
  components = omega (arith, c.components, few_components ls, c.few, h);
  instances = omega (arith, c.instances, few_instances ls, c.few, h);
  few = omega (arith, c.few, h);
}

pub few_lines : (composer : Composer) (ls : List Line) (spent n : ℕ) → Composing composer ls spent → spent + n ≤ plan_limit → length ls ≤ plan_limit
few_lines composer ls spent n c h = omega (arith, c.few, h)

-- the demands of arguments that are passed are met
pub arguments_met : (ls : List Line) (as' : List Argument) (ns : Nodes) → AreArguments ls as' ns → AllMet ls (argument_demands as')
arguments_met ls [] no_node h = tt
arguments_met ls [] (one_node n ns) h = tt
arguments_met ls (a ∷ as') no_node h = absurd h
arguments_met ls (a ∷ as') (one_node n ns) h = ((h.0, h.1), arguments_met ls as' ns h.3)

-- a composer of no line
pub begun : (c : Composer) → Shows c.names [] → c.components ≡ 0 → c.instances ≡ 0 → Writes c.writer [] → Composing c [] 0
begun c shows cs is w = record {
  definitions = no_def;
  names = shows;
  components = cs;
  instances = is;
  of_lines = tt;
  fit = tt;
  written = w;
  light = omega arith;
  few = omega arith;
}

-- the lines of a part
pub part_room : (composer : Composer) (ls : List Line) (spent n : ℕ) (digits bytes : List ℕ) (s : Scope) → Composing composer ls spent → length digits + 1 ≤ n → spent + n ≤ plan_limit → decode_of digits ≡ Ok bytes → IsPart bytes s
    → (composer.components < 2 ^ 32 - 1) × ((items : List Item) × Writes composer.writer items × (bulk items + (length bytes + 1) < 2 ^ 32))
part_room composer ls spent n digits bytes s c h k e p =
    let r = room composer ls spent n (plain_def (make.component s)) c k (part_fits s digits bytes n p.reads e h) in
    (r.components, (r.items, r.written, subst (λ i. bulk r.items + (length i.content + 1) < 2 ^ 32) (part_item s bytes p.reads) r.light))

pub part_added : (old new : Composer) (ls : List Line) (spent n : ℕ) (name digits : Word) (bytes : List ℕ) (s : Scope) → Composing old ls spent → length digits.bytes + 1 ≤ n
    → declared ls name.bytes ≡ None → decode_of digits.bytes ≡ Ok bytes → IsPart bytes s
    → ((is : List Item) → Writes old.writer is → Writes new.writer (is ++ item section_kinds.Component bytes ∷ [])) → Adds old.names new.names name.bytes (found.Component old.components) → new.components ≡ old.components + 1 → new.instances ≡ old.instances
    → Composing new (ls ++ a_part name digits ∷ []) (spent + n) × AllMet ls (demands (a_part name digits))
part_added old new ls spent n name digits bytes s c h free e p put adds cs is =
    let same = part_item s bytes p.reads in
    let shown = shown_more old.names new.names ls (a_part name digits) name.bytes (found.Component old.components) c.names adds free (λ y. ap (λ k. if bytes_eq name.bytes y then Some (found.Component k) else None) (sym c.components)) in
    let zero_more : new.instances ≡ old.instances + 0 = omega (arith, is) in (
      added old new ls spent n (a_part name digits) (plain_def (make.component s)) c (omega (arith, h)) (part_fits s digits.bytes bytes n p.reads e h)
          (record { bytes = bytes; component = s; decoded = e; part = p; same = refl; unchanged = same }) shown cs zero_more
          (λ xs w. subst (λ i. Writes new.writer (xs ++ i ∷ [])) (sym same) (put xs w)),
      (free, (record { bytes = bytes; component = s; decoded = e; part = p }, tt)),
    )

-- the line of an instance
pub instance_room : (composer : Composer) (ls : List Line) (spent n : ℕ) (part : List ℕ) (as' : List Argument) (i : ℕ) (ns : Nodes) → Composing composer ls spent → weight as' + 4 ≤ n → spent + n ≤ plan_limit
    → declared ls part ≡ Some (found.Component i) → AreArguments ls as' ns → Room composer ls (plain_def (make.instantiate (m.index i) ns)) × FitsDefinition (plain_def (make.instantiate (m.index i) ns))
instance_room composer ls spent n part as' i ns c h k e xs =
    let light = instance_fits ls part as' i ns n e xs h (omega (arith, k)) (few_lines composer ls spent n c k) in
    (room composer ls spent n (plain_def (make.instantiate (m.index i) ns)) c k light, light.fits)

pub instance_added : (old new : Composer) (ls : List Line) (spent n : ℕ) (name part : Word) (as' : List Argument) (i : ℕ) (ns : Nodes) → Composing old ls spent → weight as' + 4 ≤ n → spent + n ≤ plan_limit
    → declared ls name.bytes ≡ None → declared ls part.bytes ≡ Some (found.Component i) → AreArguments ls as' ns
    → ((is : List Item) → Writes old.writer is → Writes new.writer (is ++ item_of_def (plain_def (make.instantiate (m.index i) ns)) ∷ [])) → Adds old.names new.names name.bytes (found.Instance old.instances) → new.components ≡ old.components → new.instances ≡ old.instances + 1
    → Composing new (ls ++ an_instance name part as' ∷ []) (spent + n) × AllMet ls (demands (an_instance name part as'))
instance_added old new ls spent n name part as' i ns c h k free e xs put adds cs is =
    let light = instance_fits ls part.bytes as' i ns n e xs h (omega (arith, k)) (few_lines old ls spent n c k) in
    let shown = shown_more old.names new.names ls (an_instance name part as') name.bytes (found.Instance old.instances) c.names adds free (λ y. ap (λ j. if bytes_eq name.bytes y then Some (found.Instance j) else None) (sym c.instances)) in
    let zero_more : new.components ≡ old.components + 0 = omega (arith, cs) in (
      added old new ls spent n (an_instance name part as') (plain_def (make.instantiate (m.index i) ns)) c (omega (arith, h)) light
          (record { index = i; arguments = ns; names = e; passed = xs; same = refl }) shown zero_more is put,
      (free, ((i, e), arguments_met ls as' ns xs)),
    )

-- the line of an export
pub export_room : (composer : Composer) (ls : List Line) (spent n : ℕ) (text : Word) (name : List ℕ) (i : ℕ) → Composing composer ls spent → length text.bytes + 3 ≤ n → IsText text → spent + n ≤ plan_limit
    → declared ls name ≡ Some (found.Instance i) → Room composer ls (plain_def (make.export_row (m.text text.bytes) m.absent space.Instance (m.index i))) × FitsDefinition (plain_def (make.export_row (m.text text.bytes) m.absent space.Instance (m.index i)))
export_room composer ls spent n text name i c h t k e =
    let light = export_fits ls text.bytes name i n e (some_bytes is_text_byte text t) h (omega (arith, k)) (few_lines composer ls spent n c k) in
    (room composer ls spent n (plain_def (make.export_row (m.text text.bytes) m.absent space.Instance (m.index i))) c k light, light.fits)

pub export_added : (old new : Composer) (ls : List Line) (spent n : ℕ) (text instance : Word) (i : ℕ) → Composing old ls spent → length text.bytes + 3 ≤ n → IsText text → spent + n ≤ plan_limit → declared ls instance.bytes ≡ Some (found.Instance i)
    → ((is : List Item) → Writes old.writer is → Writes new.writer (is ++ item_of_def (plain_def (make.export_row (m.text text.bytes) m.absent space.Instance (m.index i))) ∷ [])) → new.names ≡ old.names → new.components ≡ old.components → new.instances ≡ old.instances + 1
    → Composing new (ls ++ an_export text instance ∷ []) (spent + n) × AllMet ls (demands (an_export text instance))
export_added old new ls spent n text instance i c h t k e put names cs is =
    let light = export_fits ls text.bytes instance.bytes i n e (some_bytes is_text_byte text t) h (omega (arith, k)) (few_lines old ls spent n c k) in
    let shown = subst (λ x. Shows x (ls ++ an_export text instance ∷ [])) (sym names) (shown_same old.names ls (an_export text instance) c.names (λ y. refl)) in
    let zero_more : new.components ≡ old.components + 0 = omega (arith, cs) in (
      added old new ls spent n (an_export text instance) (plain_def (make.export_row (m.text text.bytes) m.absent space.Instance (m.index i))) c (omega (arith, h)) light
          (record { index = i; names = e; same = refl }) shown zero_more is put,
      ((i, e), tt),
    )
