-- The name section of a component is due exactly where it would hold something.
use Rattle.std.proofs.Common.{◌≡◌, List, [], ◌∷◌, ℕ, ◌+◌, Bool, true, false, ◌||◌, ◌&&◌, codes, Option, Some, None, is_some, refl, sym, ◌∙◌, ap}
use Rattle.comp_model.specs.declared.Space.{Space}
use Rattle.comp_model.specs.declared.Space.TheVariants as space
use Rattle.comp_model.specs.Core.{Text, Id}
use Rattle.comp_model.specs.ItemNames.{PartName, any_named, has_names, own_name, names_from, name_in_front, map_in_front}
use Rattle.comp_model.specs.NameMaps.{ItemName, NameMap}
use Rattle.comp_model.specs.Model.{Defs, no_def, one_def, define, no_names, Scope, scope_of}
use Rattle.comp_model.specs.declared.row.ScopeKind.TheVariants as kinds
use Rattle.comp_model.specs.Payloads.{name_payload}
use Rattle.comp_model.specs.Spaces.{same_space, all_spaces}
use Rattle.comp_scopes.specs.Form.{custom_node}
use Rattle.comp_scopes.specs.Resolved.{section_of, declared_before, names_along, maps_along, list_names}
use Rattle.tree_write.specs.Along.{is_filled}
use Rattle.tree_write.specs.Wire.{the_encoding}
use Rattle.comp_wire.specs.NameSection.{name_definition, section_of_payload}

-- whether a space is among these
abbrev pub among : Space → List Space → Bool
among s [] = false
among s (t ∷ ts) = same_space t s || among s ts

-- each space has a map of its own
pub each_among : (s : Space) → among s all_spaces ≡ true
each_among space.CoreFunc = refl
each_among _ = refl

-- ---- a map is there where a part of its space has a name

name_filled : (b : Bool) (o : Option Text) (i : ℕ) (ns : List ItemName) → is_filled (name_in_front b o i ns) ≡ ((b && is_some o) || is_filled ns)
name_filled true None i ns = refl
name_filled true (Some x) i ns = refl
name_filled false o i ns = refl

map_filled : (s : Space) (ns : List ItemName) (ms : List NameMap) → is_filled (map_in_front s ns ms) ≡ (is_filled ns || is_filled ms)
map_filled s [] ms = refl
map_filled s (n ∷ ns) ms = refl

exchanged : (a b c d e : Bool) → (((a && b) || c) || ((d && b) || e)) ≡ (((a || d) && b) || (c || e))
exchanged true true c d e = refl
exchanged true false true d e = refl
exchanged true false false true e = refl
exchanged true false false false e = refl
exchanged false true true true e = refl
exchanged false true false true e = refl
exchanged false false true true e = refl
exchanged false false false true e = refl
exchanged false b true false e = refl
exchanged false b false false e = refl

no_maps : (ds : Defs) (ss : List Space) → is_filled (maps_along ds [] ss) ≡ false
no_maps ds [] = refl
no_maps ds (s ∷ ss) = no_maps ds ss

-- one part more in front
one_more : (ds : Defs) (n : PartName) (ns : List PartName) (ss : List Space) → is_filled (maps_along ds (n ∷ ns) ss) ≡ ((among n.space ss && is_some n.name) || is_filled (maps_along ds ns ss))
one_more ds n ns [] = refl
one_more ds n ns (s ∷ ss) =
    let here = same_space s n.space in
    let i = declared_before s ds n.definition + n.part in
    let rest = names_along ds s ns in
    map_filled s (names_along ds s (n ∷ ns)) (maps_along ds (n ∷ ns) ss)
    ∙ ap (λ b. b || is_filled (maps_along ds (n ∷ ns) ss)) (name_filled here n.name i rest)
    ∙ ap (λ b. ((here && is_some n.name) || is_filled rest) || b) (one_more ds n ns ss)
    ∙ exchanged here (is_some n.name) (is_filled rest) (among n.space ss) (is_filled (maps_along ds ns ss))
    ∙ ap (λ b. ((here || among n.space ss) && is_some n.name) || b) (sym (map_filled s rest (maps_along ds ns ss)))

some_map : (ds : Defs) (ns : List PartName) → any_named ns ≡ is_filled (maps_along ds ns all_spaces)
some_map ds [] = sym (no_maps ds all_spaces)
some_map ds (n ∷ ns) =
    ap (λ b. is_some n.name || b) (some_map ds ns)
    ∙ ap (λ b. (b && is_some n.name) || is_filled (maps_along ds ns all_spaces)) (sym (each_among n.space))
    ∙ sym (one_more ds n ns all_spaces)

-- ---- what the section holds

mapped : (s : Space) (ns : List ItemName) (ms : List NameMap) → is_filled (name_payload (record { component = None; maps = ms })) ≡ is_filled ms → is_filled (name_payload (record { component = None; maps = map_in_front s ns ms })) ≡ is_filled (map_in_front s ns ms)
mapped s [] ms h = h
mapped s (n ∷ ns) ms h = refl

maps_held : (ds : Defs) (ns : List PartName) (ss : List Space) → is_filled (name_payload (record { component = None; maps = maps_along ds ns ss })) ≡ is_filled (maps_along ds ns ss)
maps_held ds ns [] = refl
maps_held ds ns (s ∷ ss) = mapped s (names_along ds s ns) (maps_along ds ns ss) (maps_held ds ns ss)

payload_held : (o : Option Text) (ds : Defs) (ns : List PartName) → is_filled (name_payload (record { component = o; maps = maps_along ds ns all_spaces })) ≡ (is_some o || is_filled (maps_along ds ns all_spaces))
payload_held None ds ns = maps_held ds ns all_spaces
payload_held (Some x) ds ns = refl

-- ---- the section, where it is due

abbrev section : Bool → List ℕ → Defs
section true payload = one_def (define no_names (custom_node (codes "component-name") payload)) no_def
section false payload = no_def

as_section : (s : Scope) (b : Bool) → section_of the_encoding s b ≡ section b (name_payload (list_names s))
as_section s true = refl
as_section s false = refl

filled : (payload : List ℕ) → section (is_filled payload) payload ≡ section_of_payload payload
filled [] = refl
filled (b ∷ bs) = refl

pub due : (id : Option Id) (label : Option Text) (ds : Defs) → section_of the_encoding (scope_of kinds.Component id label ds) (has_names (scope_of kinds.Component id label ds)) ≡ name_definition (list_names (scope_of kinds.Component id label ds))
due id label ds =
    let s = scope_of kinds.Component id label ds in
    let o : Option Text = own_name s in
    let ns = names_from 0 ds in
    let payload = name_payload (list_names s) in
    as_section s (has_names s)
    ∙ ap (λ b. section (is_some o || b) payload) (some_map ds ns)
    ∙ ap (λ b. section b payload) (sym (payload_held o ds ns))
    ∙ filled payload
