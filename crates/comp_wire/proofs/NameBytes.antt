-- The bytes of names: there are at least as many as names, and each part is shorter than the whole.
use Rattle.std.proofs.Common.{◌≡◌, ◌≢◌, ℕ, suc, ◌+◌, ◌≤◌, List, [], ◌∷◌, ◌++◌, length, length-append, map, refl, sym, ◌∙◌, ap, arith, lit≤, append_assoc, append-nil, Option, Some, None}
use Rattle.std.specs.Borrow.{Bor}
use Rattle.comp_model.specs.declared.Space.{Space}
use Rattle.comp_model.specs.Core.{Text}
use Rattle.comp_model.specs.Leb.{uleb}
use Rattle.comp_model.specs.NameMaps.{ItemName, NameMap, NameMaps}
use Rattle.comp_model.specs.Payloads.{framed, joined, sort_bytes, item_name_bytes, map_bytes, Subsection, subsection_bytes, component_subsection, component_subsections, component_name_bytes, map_subsection, map_subsections, maps_subsections, maps_bytes, name_payload}
use Rattle.comp_wire.specs.Sections.{Word}
use Rattle.comp_wire.specs.NameSection.{item_names_of}
use Rattle.comp_wire.proofs.Numbers.{some_bytes}

pub framed_length : (x : List ℕ) → length (framed x) ≡ length (uleb (length x)) + length x
framed_length x = length-append (uleb (length x)) x

pub counted_names : (xs : List (ℕ × Bor Text)) → length xs ≤ length (item_name_bytes (item_names_of xs))
counted_names [] = lit≤ tt
counted_names (p ∷ ps) =
    let rest = item_name_bytes (item_names_of ps) in
    omega (arith, counted_names ps, some_bytes p.0, length-append (uleb p.0) (framed p.1.now ++ rest), length-append (framed p.1.now) rest)

abbrev pub map_body_of : Space → List (ℕ × Bor Text) → List ℕ
map_body_of s xs = sort_bytes s ++ (uleb (length xs) ++ item_name_bytes (item_names_of xs))

same_length : (xs : List (ℕ × Bor Text)) → length (item_names_of xs) ≡ length xs
same_length [] = refl
same_length (p ∷ ps) = ap suc (same_length ps)

pub map_is : (s : Space) (xs : List (ℕ × Bor Text)) → length xs ≢ 0 → map_bytes s (item_names_of xs) ≡ 0x01 ∷ framed (map_body_of s xs)
map_is s [] n = absurd (n refl)
map_is s (p ∷ ps) n = ap (λ k. 0x01 ∷ framed (sort_bytes s ++ (uleb k ++ item_name_bytes (item_names_of (p ∷ ps))))) (same_length (p ∷ ps))

pub map_short : (s : Space) (xs : List (ℕ × Bor Text)) → length xs ≢ 0 → Word (length (map_bytes s (item_names_of xs))) → Word (length (map_body_of s xs)) × Word (length (item_name_bytes (item_names_of xs)))
map_short s xs n h =
    let names = item_name_bytes (item_names_of xs) in
    let whole = ap length (map_is s xs n) in
    let l = framed_length (map_body_of s xs) in
    let l2 = length-append (sort_bytes s) (uleb (length xs) ++ names) in
    let l3 = length-append (uleb (length xs)) names in
    (omega (arith, h, whole, l), omega (arith, h, whole, l, l2, l3))

-- the payload, part by part
joined-both : (xs ys : List Subsection) → joined (map subsection_bytes (xs ++ ys)) ≡ joined (map subsection_bytes xs) ++ joined (map subsection_bytes ys)
joined-both [] ys = refl
joined-both (x ∷ xs) ys = ap (λ bs. subsection_bytes x ++ bs) (joined-both xs ys) ∙ sym (append_assoc (subsection_bytes x) (joined (map subsection_bytes xs)) (joined (map subsection_bytes ys)))

component-part : (o : Option Text) → joined (map subsection_bytes (component_subsections o)) ≡ component_name_bytes o
component-part None = refl
component-part (Some x) = append-nil (subsection_bytes (component_subsection x))

map-part : (s : Space) (is : List ItemName) → joined (map subsection_bytes (map_subsections s is)) ≡ map_bytes s is
map-part s [] = refl
map-part s (i ∷ is) = append-nil (subsection_bytes (map_subsection s (i ∷ is)))

maps-part : (ns : List NameMap) → joined (map subsection_bytes (maps_subsections ns)) ≡ maps_bytes ns
maps-part [] = refl
maps-part (n ∷ ns) =
    joined-both (map_subsections n.space n.names) (maps_subsections ns) ∙ ap (λ bs. bs ++ joined (map subsection_bytes (maps_subsections ns))) (map-part n.space n.names) ∙ ap (λ bs. map_bytes n.space n.names ++ bs) (maps-part ns)

pub payload_parts : (n : NameMaps) → name_payload n ≡ component_name_bytes n.component ++ maps_bytes n.maps
payload_parts n =
    joined-both (component_subsections n.component) (maps_subsections n.maps) ∙ ap (λ bs. bs ++ joined (map subsection_bytes (maps_subsections n.maps))) (component-part n.component)
    ∙ ap (λ bs. component_name_bytes n.component ++ bs) (maps-part n.maps)
