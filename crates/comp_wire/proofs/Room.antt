-- For callers of the sink: when there is room for definitions, from one bound on all of them.
use Rattle.std.proofs.Common.{◌≡◌, ℕ, ◌+◌, ◌<◌, ◌≤◌, ◌^◌, List, [], ◌∷◌, ◌++◌, length, length-append, refl, ap, arith, Bool, true, false, append-nil, if◌then◌else◌, inl, inr, lit≤}
use Rattle.comp_model.specs.Leb.{uleb}
use Rattle.comp_model.specs.Payloads.{joined}
use Rattle.comp_wire.specs.Sections.{Item, Group, group, is_counted, shares, in_front, body, groups, sections, preamble, EachShort, Word}
use Rattle.comp_wire.specs.Table as table
use Rattle.comp_wire.specs.Spelled.{spell_leaf, item_of_def, items_of, FitsLeaf, FitsDefinition, FitsDefinitions}
use Rattle.comp_wire.specs.Read.{FitsComponent, Reads}
use Rattle.comp_wire.specs.Values.{value_of}
use Rattle.comp_model.specs.Model.{Defs, no_def, one_def}
use Rattle.comp_wire.specs.Definitions.{def_of, wire_defs, defs_append, component_of_list, component_of_defs}
use Rattle.comp_wire.specs.declared.sink.ComponentSink.{ComponentSink}
use Rattle.comp_wire.specs.declared.defs.WireDef.{WireDef, Ty}
use Rattle.comp_wire.specs.declared.types.WireType.TheVariants as ty
use Rattle.comp_wire.specs.declared.values.ComponentValType.{ComponentValType}
use Rattle.comp_wire.specs.declared.values.ComponentValType.TheVariants as val
use Rattle.comp_wire.specs.declared.values.PrimitiveValType.{PrimitiveValType}
use Rattle.comp_wire.specs.declared.values.PrimitiveValType.TheVariants as prim
use Rattle.comp_wire.specs.Sink.{Holds, IsShort, CanPut, bulk}
use Rattle.comp_wire.proofs.Numbers.{uleb_short, sleb_short}
use Rattle.comp_wire.proofs.Steps.{can_put, short_at_end}
use Rattle.comp_wire.proofs.Fit.{sections_fit}

-- what a section weighs without its count, and what all do
load : List Group → ℕ
load [] = 0
load (g ∷ gs) = length (joined g.items) + length g.items + load gs

load-front : (i : Item) (gs : List Group) → load (in_front i gs) ≡ length i.content + 1 + load gs
unfolding load
load-front i [] = omega (arith, length-append i.content [])
load-front i (g ∷ gs) = go (shares i.section g.section)
  where
    go : (b : Bool) → load (if b then group g.section (i.content ∷ g.items) ∷ gs else group i.section (i.content ∷ []) ∷ g ∷ gs) ≡ length i.content + 1 + load (g ∷ gs)
    go true = omega (arith, length-append i.content (joined g.items))
    go false = omega (arith, length-append i.content [])

weighed : (items : List Item) → load (groups items) + 5 ≡ bulk items
unfolding load
weighed [] = refl
weighed (i ∷ items) = omega (arith, load-front i (groups items), weighed items)

body_below : (g : Group) → length (joined g.items) + length g.items + 5 < 2 ^ 32 → Word (length g.items) × Word (length (body g))
body_below g h = (omega arith, go (is_counted g.section))
  where
    go : (b : Bool) → Word (length (if b then uleb (length g.items) ++ joined g.items else joined g.items))
    go true = omega (arith, h, length-append (uleb (length g.items)) (joined g.items), uleb_short (length g.items) (omega (arith, h)))
    go false = omega (arith, h)

each_below : (gs : List Group) → load gs + 5 < 2 ^ 32 → EachShort gs
unfolding load
each_below [] h = tt
each_below (g ∷ gs) h =
    let one = body_below g (omega (arith, h)) in
    (one.0, one.1, each_below gs (omega (arith, h)))

-- Items that weigh less than 2 ^ 32 stand in short sections.
pub light_is_short : (items : List Item) → bulk items < 2 ^ 32 → EachShort (groups items)
light_is_short items h = each_below (groups items) (omega (arith, h, weighed items))

pub bulk-behind : (items : List Item) (i : Item) → bulk (items ++ i ∷ []) ≡ bulk items + (length i.content + 1)
bulk-behind [] i = omega arith
bulk-behind (j ∷ items) i = omega (arith, bulk-behind items i)

-- `put` has room for an item, where all with it weigh less than 2 ^ 32; `finish` for those that the sink holds.
pub light_can_put : (sink : ComponentSink) (items : List Item) (i : Item) → Holds sink items → bulk items + (length i.content + 1) < 2 ^ 32 → CanPut sink i.section
light_can_put sink items i held h = can_put sink items i [] (light_is_short (items ++ i ∷ []) (omega (arith, h, bulk-behind items i))) held

pub light_can_finish : (sink : ComponentSink) (items : List Item) → Holds sink items → bulk items < 2 ^ 32 → IsShort sink
light_can_finish sink items held h = short_at_end sink items held (light_is_short items h)

-- What `finish` gives is read as the definitions put.
pub finished_reads : (bytes : List ℕ) (defs : List WireDef) → FitsDefinitions (wire_defs defs) → EachShort (groups (items_of (wire_defs defs))) → bytes ≡ preamble ++ sections (groups (items_of (wire_defs defs))) → Reads bytes (component_of_list defs)
finished_reads bytes defs fits short e = record { fits = sections_fit (component_of_list defs) (refl, refl, refl, fits, short); spelled = e }

-- value types, primitives and lists fit, and are short
pub value_short : (v : ComponentValType) → FitsLeaf (value_of v) table.value → length (spell_leaf (value_of v) table.value) ≤ 5
value_short (val.Primitive p) h = lit≤ tt
value_short (val.Ty i) h = sleb_short i h.1

pub primitive_value_fits : (p : PrimitiveValType) → FitsLeaf (value_of (val.Primitive p)) table.value
primitive_value_fits prim.ErrorContext = inl refl
primitive_value_fits prim.Bool = inr (lit≤ tt, lit≤ tt)
primitive_value_fits _ = inr (lit≤ tt, lit≤ tt)

pub index_value_fits : (i : ℕ) → Word i → FitsLeaf (value_of (val.Ty i)) table.value
index_value_fits i h = (refl, h)

pub primitive_type_fits : (p : PrimitiveValType) → FitsDefinition (def_of (Ty (ty.Primitive p)))
primitive_type_fits p = (refl, (refl, (primitive_value_fits p, tt)))

pub list_type_fits : (v : ComponentValType) → FitsLeaf (value_of v) table.value → FitsDefinition (def_of (Ty (ty.List v)))
list_type_fits v h = (refl, (refl, (h, tt)))

pub primitive_type_short : (p : PrimitiveValType) → length (item_of_def (def_of (Ty (ty.Primitive p)))).content ≡ 1
primitive_type_short p = refl

pub list_type_short : (v : ComponentValType) → FitsLeaf (value_of v) table.value → length (item_of_def (def_of (Ty (ty.List v)))).content ≤ 6
list_type_short v h = omega (arith, value_short v h, ap length (append-nil (spell_leaf (value_of v) table.value)))

-- the items of definitions, one list behind the other
pub items-append : (ds es : Defs) → items_of (defs_append ds es) ≡ items_of ds ++ items_of es
items-append no_def es = refl
items-append (one_def d ds) es = ap (λ is. item_of_def d ∷ is) (items-append ds es)

pub written_is_read : (ds : Defs) → FitsComponent (component_of_defs ds) → Reads (preamble ++ sections (groups (items_of ds))) (component_of_defs ds)
written_is_read ds fits = record { fits = fits; spelled = refl }
