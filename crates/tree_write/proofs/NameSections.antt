-- The name section of a component, from its last map to its first.
use Rattle.std.proofs.Common.{◌≡◌, ◌≢◌, ℕ, ◌+◌, ◌-◌, ◌<◌, ◌≤◌, List, [], ◌∷◌, ◌++◌, length, drop, get_or, refl, sym, ◌∙◌, ap, arith, Bool, true, false, ◌||◌, Some, option_map}
use Rattle.comp_model.specs.declared.Space.{Space}
use Rattle.comp_model.specs.Core.{Text}
use Rattle.comp_model.specs.ItemNames.{name_in_front}
use Rattle.comp_model.specs.Leb.{uleb}
use Rattle.comp_model.specs.NameMaps.{ItemName}
use Rattle.comp_model.specs.Payloads.{framed, sort_bytes, item_name_bytes, map_bytes, component_name_bytes, name_of_section}
use Rattle.comp_model.specs.Spaces.{same_space, all_spaces}
use Rattle.comp_wire.proofs.Lists.{dropped}
use Rattle.comp_wire.specs.NameSection.{section_of_payload}
use Rattle.comp_wire.specs.Sections.{groups, sections}
use Rattle.comp_wire.specs.Spelled.{items_of}
use Rattle.comp_tree.specs.Model.{lent_text}
use Rattle.tree_write.specs.Along.{of_space, maps_by, payload_by, is_filled}
use Rattle.tree_write.specs.Kept.{Kept, put, Taken}
use Rattle.tree_write.specs.declared.item_names.NamedItem.{NamedItem}
use Rattle.tree_write.specs.declared.item_names.ComponentNames.{ComponentNames}
use Rattle.tree_write.proofs.Closing.{named}
use Rattle.tree_write.proofs.Due.{among, each_among}
use Rattle.tree_write.proofs.Puts.{put_put, put_none}

-- ---- the names of a space

pub item_in_front : (s : Space) (items : List NamedItem) (i : ℕ) (x : NamedItem) → 0 < i → i ≤ length items → x ≡ get_or items (i - 1) x
    → of_space s (drop (i - 1) items) ≡ name_in_front (same_space s x.space) (Some (lent_text x.name)) x.index (of_space s (drop i items))
item_in_front s items i x a b e =
    let next : i - 1 + 1 ≡ i = omega (arith, a) in
    ap (of_space s) (dropped items (i - 1) x (omega (arith, a, b)) e) ∙ ap (λ j. name_in_front (same_space s x.space) (Some (lent_text x.name)) x.index (of_space s (drop j items))) next

pub item_here : (s : Space) (items : List NamedItem) (i : ℕ) (x : NamedItem) → 0 < i → i ≤ length items → x ≡ get_or items (i - 1) x → same_space s x.space ≡ true
    → of_space s (drop (i - 1) items) ≡ record { index = x.index; name = lent_text x.name } ∷ of_space s (drop i items)
item_here s items i x a b e q = item_in_front s items i x a b e ∙ ap (λ c. name_in_front c (Some (lent_text x.name)) x.index (of_space s (drop i items))) q

pub item_elsewhere : (s : Space) (items : List NamedItem) (i : ℕ) (x : NamedItem) → 0 < i → i ≤ length items → x ≡ get_or items (i - 1) x → same_space s x.space ≡ false
    → of_space s (drop (i - 1) items) ≡ of_space s (drop i items)
item_elsewhere s items i x a b e q = item_in_front s items i x a b e ∙ ap (λ c. name_in_front c (Some (lent_text x.name)) x.index (of_space s (drop i items))) q

pub name_put : (index : ℕ) (name : List ℕ) (ns : List ItemName) (k now texted new : Kept) → now ≡ put (item_name_bytes ns) k → texted ≡ put (framed name) now → new ≡ put (uleb index) texted
    → new ≡ put (item_name_bytes (record { index = index; name = name } ∷ ns)) k
name_put index name ns k now texted new a b c =
    c ∙ ap (put (uleb index)) (b ∙ ap (put (framed name)) a ∙ put_put (framed name) (item_name_bytes ns) k) ∙ put_put (uleb index) (framed name ++ item_name_bytes ns) k

-- ---- maps

pub no_map : (s : Space) (ns : List ItemName) (count : ℕ) (k now : Kept) → count ≡ length ns → count ≡ 0 → now ≡ put (item_name_bytes ns) k → now ≡ put (map_bytes s ns) k
no_map s [] count k now l z e = e
no_map s (n ∷ ns) count k now l z e = absurd (omega (arith, l, z))

pub map_put : (s : Space) (ns : List ItemName) (count end : ℕ) (k now with_count sorted closed new : Kept) → count ≡ length ns → count ≢ 0 → now ≡ put (item_name_bytes ns) k → with_count ≡ put (uleb count) now → sorted ≡ put (sort_bytes s) with_count
    → ((before : Kept) (body : List ℕ) → Taken before end → sorted ≡ put body before → closed ≡ put (framed body) before) → Taken k end → new ≡ put (0x01 ∷ []) closed → new ≡ put (map_bytes s ns) k
map_put s [] count end k now with_count sorted closed new l z a b c f t e = absurd (z l)
map_put s (n ∷ ns) count end k now with_count sorted closed new l z a b c f t e =
    let all = n ∷ ns in
    let body = sort_bytes s ++ (uleb (length all) ++ item_name_bytes all) in
    let whole : sorted ≡ put body k =
    c ∙ ap (put (sort_bytes s)) (b ∙ ap (λ j. put (uleb j) now) l ∙ ap (put (uleb (length all))) a ∙ put_put (uleb (length all)) (item_name_bytes all) k) ∙ put_put (sort_bytes s) (uleb (length all) ++ item_name_bytes all) k in
    e ∙ ap (put (0x01 ∷ [])) (f k body t whole) ∙ put_put (0x01 ∷ []) (framed body) k

pub own_put : (x : List ℕ) (end : ℕ) (k texted closed new : Kept) → texted ≡ put (framed x) k → ((before : Kept) (body : List ℕ) → Taken before end → texted ≡ put body before → closed ≡ put (framed body) before) → Taken k end
    → new ≡ put (0x00 ∷ []) closed → new ≡ put (component_name_bytes (Some x)) k
own_put x end k texted closed new a f t e = e ∙ ap (put (0x00 ∷ [])) (f k (framed x) t a) ∙ put_put (0x00 ∷ []) (framed (framed x)) k

-- ---- whether there is a name

map_filled : (s : Space) (ns : List ItemName) (bs : List ℕ) → is_filled (map_bytes s ns ++ bs) ≡ (is_filled ns || is_filled bs)
map_filled s [] bs = refl
map_filled s (n ∷ ns) bs = refl

front_filled : (b : Bool) (x : Text) (i : ℕ) (ns : List ItemName) → is_filled (name_in_front b (Some x) i ns) ≡ (b || is_filled ns)
front_filled true x i ns = refl
front_filled false x i ns = refl

or_true : (a : Bool) → (a || true) ≡ true
or_true true = refl
or_true false = refl

some_map : (x : NamedItem) (xs : List NamedItem) (us : List Space) → among x.space us ≡ true → is_filled (maps_by (x ∷ xs) us) ≡ true
some_map x xs [] e = cc
some_map x xs (u ∷ us) e =
    map_filled u (of_space u (x ∷ xs)) (maps_by (x ∷ xs) us)
    ∙ ap (λ b. b || is_filled (maps_by (x ∷ xs) us)) (front_filled (same_space u x.space) (lent_text x.name) x.index (of_space u xs))
    ∙ go (same_space u x.space) (is_filled (of_space u xs)) (is_filled (maps_by (x ∷ xs) us)) (among x.space us) e (some_map x xs us)
  where
    go : (a b c d : Bool) → (a || d) ≡ true → (d ≡ true → c ≡ true) → ((a || b) || c) ≡ true
    go true b c d e f = refl
    go false true c d e f = refl
    go false false c d e f = f e

no_maps : (us : List Space) → maps_by [] us ≡ []
no_maps [] = refl
no_maps (u ∷ us) = no_maps us

filled_both : (a b : List ℕ) → is_filled (a ++ b) ≡ (is_filled a || is_filled b)
filled_both [] b = refl
filled_both (x ∷ a) b = refl

pub filled_by_own : (n : ComponentNames) → is_filled (component_name_bytes (option_map lent_text n.own)) ≡ true → is_filled (payload_by n) ≡ true
filled_by_own n e = filled_both (component_name_bytes (option_map lent_text n.own)) (maps_by n.items.items all_spaces) ∙ ap (λ b. b || is_filled (maps_by n.items.items all_spaces)) e

pub filled_by_items : (n : ComponentNames) (items : List NamedItem) → n.items.items ≡ items → length items ≢ 0 → is_filled (payload_by n) ≡ true
filled_by_items n [] e z = absurd (z refl)
filled_by_items n (x ∷ xs) e z =
    filled_both (component_name_bytes (option_map lent_text n.own)) (maps_by n.items.items all_spaces)
    ∙ ap (λ b. is_filled (component_name_bytes (option_map lent_text n.own)) || b) (ap (λ is. is_filled (maps_by is all_spaces)) e ∙ some_map x xs all_spaces (each_among x.space)) ∙ or_true _

pub filled_by_none : (n : ComponentNames) (items : List NamedItem) → n.items.items ≡ items → length items ≡ 0 → component_name_bytes (option_map lent_text n.own) ≡ [] → is_filled (payload_by n) ≡ false
filled_by_none n [] e z o = ap is_filled (ap (λ b. b ++ maps_by n.items.items all_spaces) o ∙ ap (λ is. maps_by is all_spaces) e ∙ no_maps all_spaces)
filled_by_none n (x ∷ xs) e z o = absurd (omega (arith, z))

-- ---- the section

pub not_due : (payload : List ℕ) (k : Kept) → is_filled payload ≡ false → k ≡ put (sections (groups (items_of (section_of_payload payload)))) k
not_due [] k e = sym (put_none k)
not_due (b ∷ bs) k e = cc

pub section_put : (payload : List ℕ) (end : ℕ) (k paid texted closed new : Kept) → is_filled payload ≡ true → paid ≡ put payload k → texted ≡ put (framed name_of_section) paid
    → ((before : Kept) (body : List ℕ) → Taken before end → texted ≡ put body before → closed ≡ put (framed body) before) → Taken k end → new ≡ put (0x00 ∷ []) closed → new ≡ put (sections (groups (items_of (section_of_payload payload)))) k
section_put [] end k paid texted closed new d a b f t e = cc
section_put (x ∷ xs) end k paid texted closed new d a b f t e =
    let payload = x ∷ xs in
    let body = framed name_of_section ++ payload in
    let some : length payload ≢ 0 = λ z. absurd (omega (arith, z)) in
    e ∙ ap (put (0x00 ∷ [])) (f k body t (b ∙ ap (put (framed name_of_section)) a ∙ put_put (framed name_of_section) payload k)) ∙ put_put (0x00 ∷ []) (framed body) k ∙ ap (λ q. put q k) (sym (named payload some))
