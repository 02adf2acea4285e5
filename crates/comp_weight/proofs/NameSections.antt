-- The bytes of a name section: a bound for its header, and ten bytes and the name for each named item.
use Rattle.std.proofs.Common.{◌≡◌, ℕ, ◌+◌, ◌*◌, ◌<◌, ◌≤◌, ◌^◌, List, [], ◌∷◌, ◌++◌, length, length-append, refl, ap, arith, Bool, true, false, cond, Option, Some, None}
use Rattle.std.specs.Prelude.{⊤}
use Rattle.comp_model.specs.declared.Space.{Space}
use Rattle.comp_model.specs.declared.Space.TheVariants.{CoreFunc}
use Rattle.comp_model.specs.Core.{Text, Id}
use Rattle.comp_model.specs.CoreModules.{CoreModule}
use Rattle.comp_model.specs.Model.{row, define, Defs, no_def, one_def, Scope, scope_of}
use Rattle.comp_model.specs.declared.row.ScopeKind.{ScopeKind}
use Rattle.comp_model.specs.Spaces.{declares_row, same_space, all_spaces}
use Rattle.comp_model.specs.Origins.{written}
use Rattle.comp_model.specs.NameMaps.{ItemName, NameMap}
use Rattle.comp_model.specs.Weight.{weight_of_all, weight_of_id, weight_of_label, weight_of_defs}
use Rattle.comp_model.specs.Core.{is_of_text, label_or_id}
use Rattle.comp_model.specs.ItemNames.{PartName, rest_of, part_names, names_from, name_in_front, map_in_front}
use Rattle.comp_scopes.specs.Plan.{Mark, marks, before}
use Rattle.comp_scopes.specs.Form.{names_in, maps_in, names_of}
use Rattle.comp_model.specs.Leb.{uleb}
use Rattle.comp_model.specs.Payloads.{framed, sort_bytes, item_name_bytes, component_name_bytes, map_bytes, maps_bytes, name_payload}
use Rattle.comp_wire.proofs.Numbers.{uleb_short}
use Rattle.comp_wire.proofs.NameBytes.{payload_parts}
use Rattle.comp_weight.proofs.Sections.{framed-length}
use Rattle.comp_weight.proofs.Spelled.{sort-length}
use Rattle.comp_weight.proofs.Plans.{row-weight}
use Rattle.comp_weight.proofs.Indices.{Light, before-light}

-- what a name costs in a name section, and all of them
abbrev pub name_cost : Option Text → ℕ
name_cost None = 0
name_cost (Some x) = 10 + length x

abbrev pub names_cost : List PartName → ℕ
names_cost [] = 0
names_cost (n ∷ ns) = name_cost n.name + names_cost ns

pub names_cost-append : (ms ns : List PartName) → names_cost (ms ++ ns) ≡ names_cost ms + names_cost ns
names_cost-append [] ns = omega arith
names_cost-append (m ∷ ms) ns = omega (arith, names_cost-append ms ns)

abbrev items_cost : List ItemName → ℕ
items_cost [] = 0
items_cost (i ∷ is) = 10 + length i.name + items_cost is

abbrev maps_cost : List NameMap → ℕ
maps_cost [] = 0
maps_cost (m ∷ ms) = 13 + items_cost m.names + maps_cost ms

-- ---- each name stands in one map

abbrev share : Space → PartName → ℕ
share s n = cond (same_space s n.space) (name_cost n.name) 0

front-cost : (b : Bool) (o : Option Text) (i : ℕ) (is : List ItemName) → items_cost (name_in_front b o i is) ≡ cond b (name_cost o) 0 + items_cost is
front-cost true (Some x) i is = omega arith
front-cost true None i is = omega arith
front-cost false (Some x) i is = omega arith
front-cost false None i is = omega arith

abbrev shares : List Space → PartName → ℕ
shares [] n = 0
shares (s ∷ ss) n = share s n + shares ss n

abbrev spread : List Mark → List PartName → List Space → ℕ
spread ms ns [] = 0
spread ms ns (s ∷ ss) = items_cost (names_in ms s ns) + spread ms ns ss

in_front-cost : (s : Space) (is : List ItemName) (maps : List NameMap) → maps_cost (map_in_front s is maps) ≤ 13 + items_cost is + maps_cost maps
in_front-cost s [] maps = omega arith
in_front-cost s (i ∷ is) maps = omega arith

maps-spread : (ms : List Mark) (ns : List PartName) (ss : List Space) → maps_cost (maps_in ms ns ss) ≤ 13 * length ss + spread ms ns ss
maps-spread ms ns [] = omega arith
maps-spread ms ns (s ∷ ss) = omega (arith, in_front-cost s (names_in ms s ns) (maps_in ms ns ss), maps-spread ms ns ss)

spread-none : (ms : List Mark) (ss : List Space) → spread ms [] ss ≡ 0
spread-none ms [] = refl
spread-none ms (s ∷ ss) = omega (arith, spread-none ms ss)

spread-one : (ms : List Mark) (n : PartName) (ns : List PartName) (ss : List Space) → spread ms (n ∷ ns) ss ≡ shares ss n + spread ms ns ss
spread-one ms n ns [] = omega arith
spread-one ms n ns (s ∷ ss) = omega (arith, front-cost (same_space s n.space) n.name (before s (written n.definition) ms + n.part) (names_in ms s ns), spread-one ms n ns ss)

-- the space of a name is one of all
abbrev ones : List Space → Space → ℕ → ℕ
ones [] u c = 0
ones (s ∷ ss) u c = cond (same_space s u) c 0 + ones ss u c

one-space : (u : Space) (c : ℕ) → ones all_spaces u c ≤ c
one-space CoreFunc c = omega arith
one-space _ c = omega arith

shares-ones : (ss : List Space) (n : PartName) → shares ss n ≡ ones ss n.space (name_cost n.name)
shares-ones [] n = refl
shares-ones (s ∷ ss) n = omega (arith, shares-ones ss n)

spread-all : (ms : List Mark) (ns : List PartName) → spread ms ns all_spaces ≤ names_cost ns
spread-all ms [] = omega (arith, spread-none ms all_spaces)
spread-all ms (n ∷ ns) = omega (arith, spread-one ms n ns all_spaces, shares-ones all_spaces n, one-space n.space (name_cost n.name), spread-all ms ns)

maps-all : (ms : List Mark) (ns : List PartName) → maps_cost (maps_in ms ns all_spaces) ≤ 169 + names_cost ns
maps-all ms ns = omega (arith, maps-spread ms ns all_spaces, spread-all ms ns)

-- ---- bytes

abbrev Indexed : List ItemName → Type 0
Indexed [] = ⊤
Indexed (i ∷ is) = (i.index < 2 ^ 32) × Indexed is

abbrev MapsIndexed : List NameMap → Type 0
MapsIndexed [] = ⊤
MapsIndexed (m ∷ ms) = Indexed m.names × MapsIndexed ms

items-length : (is : List ItemName) → Indexed is → items_cost is < 2 ^ 32 → length (item_name_bytes is) ≤ items_cost is
items-length [] h g = omega arith
items-length (i ∷ is) h g = omega (arith, length-append (uleb i.index) (framed i.name ++ item_name_bytes is), length-append (framed i.name) (item_name_bytes is), uleb_short i.index h.0, framed-length i.name (omega (arith, g)), items-length is h.1 (omega (arith, g)))

count-items : (is : List ItemName) → length is ≤ items_cost is
count-items [] = omega arith
count-items (i ∷ is) = omega (arith, count-items is)

map-length : (s : Space) (is : List ItemName) → Indexed is → 7 + items_cost is < 2 ^ 32 → length (map_bytes s is) ≤ 13 + items_cost is
map-length s [] h g = omega arith
map-length s (i ∷ is) h g =
    let js : List ItemName = i ∷ is in
    let body : List ℕ = sort_bytes s ++ (uleb (length js) ++ item_name_bytes js) in
    let b : length body ≤ 7 + items_cost js =
    omega (arith, length-append (sort_bytes s) (uleb (length js) ++ item_name_bytes js), length-append (uleb (length js)) (item_name_bytes js), sort-length s, uleb_short (length js) (omega (arith, g, count-items js)), items-length js h (omega (arith, g))) in
    omega (arith, b, framed-length body (omega (arith, b, g)))

maps-length : (ms : List NameMap) → MapsIndexed ms → maps_cost ms < 2 ^ 32 → length (maps_bytes ms) ≤ maps_cost ms
maps-length [] h g = omega arith
maps-length (m ∷ ms) h g = omega (arith, length-append (map_bytes m.space m.names) (maps_bytes ms), map-length m.space m.names h.0 (omega (arith, g)), maps-length ms h.1 (omega (arith, g)))

component-length : (o : Option Text) (n : ℕ) → name_cost o ≤ 10 + n → 5 + n < 2 ^ 32 → length (component_name_bytes o) ≤ 11 + n
component-length None n h g = omega arith
component-length (Some x) n h g =
    let a : length (framed x) ≤ 5 + length x = framed-length x (omega (arith, h, g)) in
    omega (arith, a, h, framed-length (framed x) (omega (arith, a, h, g)))

pub chosen-cost : (label : Option Text) (id : Option Id) → name_cost (label_or_id label id) ≤ 10 + (weight_of_id id + weight_of_label label)
chosen-cost (Some t) None = omega arith
chosen-cost (Some t) (Some x) = omega arith
chosen-cost None None = omega arith
chosen-cost None (Some x) = elim (is_of_text x) as (λ b. name_cost (cond b (Some x.name) None) ≤ 10 + (weight_of_id (Some x) + weight_of_label None)) [ true ↦ omega arith | false ↦ omega arith ]

-- ---- indices

module _ (cw : CoreModule → ℕ) (limit : ℕ) (small : 8 * limit < 2 ^ 32) where
  abbrev NamesUnder : List PartName → Type 0
  NamesUnder [] = ⊤
  NamesUnder (n ∷ ns) = (16 * n.part ≤ limit) × NamesUnder ns

  under-append : (xs ys : List PartName) → NamesUnder xs → NamesUnder ys → NamesUnder (xs ++ ys)
  under-append [] ys h g = g
  under-append (x ∷ xs) ys h g = (h.0, under-append xs ys h.1 g)

  parts-under : (k p : ℕ) (ids : List (Option Id)) (labels : List (Option Text)) (ss : List Space) → 16 * (p + length ss) ≤ limit → NamesUnder (part_names k p ids labels ss)
  parts-under k p ids labels [] h = tt
  parts-under k p ids labels (s ∷ ss) h = (omega (arith, h), parts-under k (p + 1) (rest_of ids) (rest_of labels) ss (omega (arith, h)))

  from-under : (k : ℕ) (ds : Defs) → weight_of_defs cw ds ≤ limit → NamesUnder (names_from k ds)
  from-under k no_def h = tt
  from-under k (one_def (define names (row t ls)) ds) h =
      under-append (part_names k 0 names.ids names.labels (declares_row t ls)) (names_from (k + 1) ds)
      (parts-under k 0 names.ids names.labels (declares_row t ls) (omega (arith, h, row-weight cw t ls))) (from-under (k + 1) ds (omega (arith, h)))

  front-indexed : (b : Bool) (o : Option Text) (i : ℕ) (is : List ItemName) → i < 2 ^ 32 → Indexed is → Indexed (name_in_front b o i is)
  front-indexed true (Some x) i is h g = (h, g)
  front-indexed true None i is h g = g
  front-indexed false (Some x) i is h g = g
  front-indexed false None i is h g = g

  in-indexed : (st : List Scope) (s : Space) (ns : List PartName) → Light cw limit st → NamesUnder ns → Indexed (names_in (marks st) s ns)
  in-indexed st s [] l h = tt
  in-indexed st s (n ∷ ns) l h =
      front-indexed (same_space s n.space) n.name (before s (written n.definition) (marks st) + n.part) (names_in (marks st) s ns)
      (omega (arith, before-light cw limit st s (written n.definition) l, h.0, small)) (in-indexed st s ns l h.1)

  map-indexed : (s : Space) (is : List ItemName) (maps : List NameMap) → Indexed is → MapsIndexed maps → MapsIndexed (map_in_front s is maps)
  map-indexed s [] maps h g = g
  map-indexed s (i ∷ is) maps h g = (h, g)

  maps-indexed : (st : List Scope) (ns : List PartName) (ss : List Space) → Light cw limit st → NamesUnder ns → MapsIndexed (maps_in (marks st) ns ss)
  maps-indexed st ns [] l h = tt
  maps-indexed st ns (s ∷ ss) l h = map-indexed s (names_in (marks st) s ns) (maps_in (marks st) ns ss) (in-indexed st s ns l h) (maps-indexed st ns ss l h)

  pub payload-length : (st : List Scope) (k : ScopeKind) (id : Option Id) (label : Option Text) (ds : Defs) → Light cw limit (scope_of k id label ds ∷ st)
      → weight_of_id id + weight_of_label label ≤ limit → 169 + names_cost (names_from 0 ds) ≤ 8 * limit
      → length (name_payload (names_of st (scope_of k id label ds))) ≤ 11 + (weight_of_id id + weight_of_label label) + (169 + names_cost (names_from 0 ds))
  payload-length st k id label ds l o c =
      let su : List Scope = scope_of k id label ds ∷ st in
      let ns : List PartName = names_from 0 ds in
      let u : NamesUnder ns = from-under 0 ds (omega (arith, l.0)) in
      let a = maps-all (marks su) ns in
      omega (
        arith,
        ap length (payload_parts (names_of st (scope_of k id label ds))),
        length-append (component_name_bytes (label_or_id label id)) (maps_bytes (maps_in (marks su) ns all_spaces)),
        a,
        component-length (label_or_id label id) (weight_of_id id + weight_of_label label) (chosen-cost label id) (omega (arith, o, c, small)),
        maps-length (maps_in (marks su) ns all_spaces) (maps-indexed su ns all_spaces l u) (omega (arith, a, c, small)),
      )

-- the names of one definition
pub part-names-cost : (k p : ℕ) (ids : List (Option Id)) (labels : List (Option Text)) (ss : List Space)
    → names_cost (part_names k p ids labels ss) ≤ 10 * length ss + (weight_of_all weight_of_id ids + weight_of_all weight_of_label labels)
part-names-cost k p ids labels [] = omega arith
part-names-cost k p [] [] (s ∷ ss) = omega (arith, part-names-cost k (p + 1) [] [] ss)
part-names-cost k p (x ∷ xs) [] (s ∷ ss) = omega (arith, chosen-cost None x, part-names-cost k (p + 1) xs [] ss)
part-names-cost k p [] (y ∷ ys) (s ∷ ss) = omega (arith, chosen-cost y None, part-names-cost k (p + 1) [] ys ss)
part-names-cost k p (x ∷ xs) (y ∷ ys) (s ∷ ss) = omega (arith, chosen-cost y x, part-names-cost k (p + 1) xs ys ss)
