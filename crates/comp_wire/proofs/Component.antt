-- One turn of the loop over a component's definitions, and what stands behind the last.
use Rattle.std.proofs.Common.{◌≡◌, ◌≢◌, ℕ, ◌+◌, ◌<◌, List, [], ◌∷◌, ◌++◌, length, length-append, drop, get_or, refl, sym, ◌∙◌, ap, subst, arith, Bool, true, false, append_assoc, append-nil, if◌then◌else◌, lit<}
use Rattle.comp_model.specs.Model.{Defs}
use Rattle.comp_model.specs.Leb.{uleb}
use Rattle.comp_model.specs.Payloads.{joined, framed, name_of_section}
use Rattle.comp_wire.specs.declared.sections.SectionKind.TheVariants as section_kinds
use Rattle.comp_wire.specs.Sections.{Item, item, Group, group, is_counted, shares, in_front, body, groups, EachShort, Word}
use Rattle.comp_wire.specs.Spelled.{items_of, item_of_def, item_of_node, FitsDefinition, FitsDefinitions}
use Rattle.comp_wire.specs.NameSection.{section_of_payload, custom_row}
use Rattle.comp_wire.specs.Definitions.{def_of, wire_defs, defs_append}
use Rattle.comp_wire.specs.declared.defs.WireDef.{WireDef}
use Rattle.comp_wire.specs.declared.sink.ComponentSink.{ComponentSink}
use Rattle.comp_wire.specs.Sink.{Holds, CanPut}
use Rattle.comp_wire.proofs.Lists.{dropped}
use Rattle.comp_wire.proofs.Steps.{can_put}

-- the definitions of a list, and these behind them
abbrev whole : List WireDef → Defs → Defs
whole ds tail = defs_append (wire_defs ds) tail

-- what a turn begins with: the sink holds the items so far, and those of the rest complete the list
pub record Turn (sink : ComponentSink) (all left : List WireDef) (tail : Defs) : Type 0 where
  pub items : List Item
  pub held : Holds sink items
  pub rest : items_of (defs_append (wire_defs all) tail) ≡ items ++ items_of (defs_append (wire_defs left) tail)
  pub fits : FitsDefinitions (defs_append (wire_defs left) tail)

pub first_turn : (sink : ComponentSink) (all : List WireDef) (tail : Defs) → Holds sink [] → FitsDefinitions (defs_append (wire_defs all) tail) → Turn sink all all tail
first_turn sink all tail h f = record { items = []; held = h; rest = refl; fits = f }

pub turn_needs : (sink : ComponentSink) (all : List WireDef) (tail : Defs) (i : ℕ) (d : WireDef) → i < length all → d ≡ get_or all i d → EachShort (groups (items_of (defs_append (wire_defs all) tail))) → Turn sink all (drop i all) tail
    → FitsDefinition (def_of d) × CanPut sink (item_of_def (def_of d)).section
turn_needs sink all tail i d h e short turn =
    let items = turn.items in
    let held = turn.held in
    let rest = turn.rest in
    let fits = turn.fits in
    let left = dropped all i d h e in
    let here = subst (λ ds. FitsDefinitions (whole ds tail)) left fits in
    let all_items = rest ∙ ap (λ ds. items ++ items_of (whole ds tail)) left in
    (here.0, can_put sink items (item_of_def (def_of d)) (items_of (whole (drop (i + 1) all) tail)) (subst (λ is. EachShort (groups is)) all_items short) held)

pub turn_gives : (sink new : ComponentSink) (all : List WireDef) (tail : Defs) (i : ℕ) (d : WireDef) → i < length all → d ≡ get_or all i d → Turn sink all (drop i all) tail
    → ((items : List Item) → Holds sink items → Holds new (items ++ item_of_def (def_of d) ∷ [])) → Turn new all (drop (i + 1) all) tail
turn_gives sink new all tail i d h e turn put =
    let items = turn.items in
    let rest = turn.rest in
    let fits = turn.fits in
    let left = dropped all i d h e in
    let here = subst (λ ds. FitsDefinitions (whole ds tail)) left fits in
    let all_items = rest ∙ ap (λ ds. items ++ items_of (whole ds tail)) left ∙ sym (append_assoc items (item_of_def (def_of d) ∷ []) (items_of (whole (drop (i + 1) all) tail))) in
    record { items = items ++ item_of_def (def_of d) ∷ []; held = put items turn.held; rest = all_items; fits = here.1 }

-- each item is shorter than its section
abbrev EachJoined : List Group → Type 0
EachJoined [] = Unit {0}
EachJoined (g ∷ gs) = Word (length (joined g.items)) × EachJoined gs

joined_short : (g : Group) → Word (length (body g)) → Word (length (joined g.items))
joined_short g h = go (is_counted g.section) h
  where
    go : (b : Bool) → Word (length (if b then uleb (length g.items) ++ joined g.items else joined g.items)) → Word (length (joined g.items))
    go true h = omega (arith, h, length-append (uleb (length g.items)) (joined g.items))
    go false h = h

each_joined : (gs : List Group) → EachShort gs → EachJoined gs
each_joined [] h = tt
each_joined (g ∷ gs) h = (joined_short g h.1, each_joined gs h.2)

front_short : (i : Item) (gs : List Group) → EachJoined (in_front i gs) → Word (length i.content) × EachJoined gs
front_short i [] h = (omega (arith, h.0, length-append i.content []), tt)
front_short i (g ∷ gs) h = go (shares i.section g.section) h
  where
    go : (b : Bool) → EachJoined (if b then group g.section (i.content ∷ g.items) ∷ gs else group i.section (i.content ∷ []) ∷ g ∷ gs) → Word (length i.content) × EachJoined (g ∷ gs)
    go true h = let l = length-append i.content (joined g.items) in (omega (arith, h.0, l), (omega (arith, h.0, l), h.1))
    go false h = (omega (arith, h.0, length-append i.content []), h.1)

last_short : (items : List Item) (i : Item) → EachJoined (groups (items ++ i ∷ [])) → Word (length i.content)
last_short [] i h = (front_short i [] h).0
last_short (j ∷ items) i h = last_short items i (front_short j (groups (items ++ i ∷ [])) h).1

pub custom_item : (x payload : List ℕ) → item_of_node (custom_row x payload) ≡ item section_kinds.Custom (framed x ++ payload)
custom_item x payload = ap (λ p. item section_kinds.Custom (framed x ++ p)) (append-nil payload)

-- behind the last definition
abbrev pub NamesNeed : ComponentSink → List ℕ → Type 0
NamesNeed sink payload = Word (length payload) × (payload ≢ [] → CanPut sink section_kinds.Custom)

names_of_payload : (sink : ComponentSink) (items : List Item) (payload : List ℕ) → Holds sink items → EachShort (groups (items ++ items_of (section_of_payload payload))) → NamesNeed sink payload
names_of_payload sink items [] held short = (lit< tt, λ n. absurd (n refl))
names_of_payload sink items (b ∷ bs) held short =
    let i = item_of_node (custom_row name_of_section (b ∷ bs)) in
    let all = last_short items i (each_joined _ short) in
    let l = ap (λ x. length x.content) (custom_item name_of_section (b ∷ bs)) in
    let k = length-append (framed name_of_section) (b ∷ bs) in
    (omega (arith, all, l, k), λ n. can_put sink items i [] short held)

-- the name section, where it isn't empty
pub payload_items : (payload : List ℕ) → length payload ≢ 0 → items_of (section_of_payload payload) ≡ item section_kinds.Custom (framed name_of_section ++ payload) ∷ []
payload_items [] n = absurd (n refl)
payload_items (b ∷ bs) n = ap (λ i. i ∷ []) (custom_item name_of_section (b ∷ bs))

pub names_need : (sink : ComponentSink) (all left : List WireDef) (payload : List ℕ) → left ≡ [] → EachShort (groups (items_of (defs_append (wire_defs all) (section_of_payload payload)))) → Turn sink all left (section_of_payload payload) → NamesNeed sink payload
names_need sink all left payload e short turn =
    let items = turn.items in
    let all_items = turn.rest ∙ ap (λ ds. items ++ items_of (whole ds (section_of_payload payload))) e in
    names_of_payload sink items payload turn.held (subst (λ is. EachShort (groups is)) all_items short)

-- the sink holds them all
pub all_held : (sink new : ComponentSink) (all left : List WireDef) (tail : Defs) → left ≡ [] → Turn sink all left tail → ((items : List Item) → Holds sink items → Holds new (items ++ items_of tail)) → Holds new (items_of (defs_append (wire_defs all) tail))
all_held sink new all left tail e turn put =
    let items = turn.items in
    let all_items = turn.rest ∙ ap (λ ds. items ++ items_of (whole ds tail)) e in
    subst (Holds new) (sym all_items) (put items turn.held)
