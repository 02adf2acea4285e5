-- Two keys compare as equal in code where their parts are.
use Rattle.std.proofs.Common.{◌≡◌, ℕ, ◌&&◌, List, [], ◌∷◌, map, bytes_eq, nat_eq, refl}
use Rattle.std.proofs.lemmas.Map.Text.{is_eq-slice_cmp}
use Rattle.std.specs.declared.cmp.Ordering.{Ordering}
use Rattle.std.specs.Ordering.{is_eq, nat_cmp, ordering_then}
use Rattle.std.specs.Cmp.Lexicographic.{slice_cmp}
use Rattle.name_ends.proofs.Keys.{then-equal, numbers-equal}
use Rattle.type_keys.specs.declared.key.KeyReach.{KeyReach}
use Rattle.type_keys.specs.declared.key.KeyReach.TheVariants as reach
use Rattle.type_keys.specs.declared.key.KeyPart.{KeyPart}
use Rattle.type_keys.specs.declared.key.KeyPart.TheVariants as part
use Rattle.type_keys.specs.declared.key.TypeKey.{TypeKey}
use Rattle.type_keys.specs.contracts.key.KeyReachOrd.TheImpl as reach_ord
use Rattle.type_keys.specs.contracts.key.KeyPartOrd.TheImpl as part_ord
use Rattle.type_keys.specs.Keys.{same_key_reach, same_part, same_parts}
use Rattle.type_keys.specs.PartsOf.{reach_of, part_of, parts_of}
use Rattle.type_keys.specs.Order.{order}

abbrev reach_order : KeyReach → KeyReach → Ordering
reach_order = (reach_ord.ghosts).cmp

abbrev part_order : KeyPart → KeyPart → Ordering
part_order = (part_ord.ghosts).cmp

ids : (s t : List ℕ) (m n : ℕ) → is_eq (ordering_then (slice_cmp nat_cmp s t) (nat_cmp m n)) ≡ (bytes_eq s t && nat_eq m n)
ids s t m n = then-equal (slice_cmp nat_cmp s t) (nat_cmp m n) _ _ (is_eq-slice_cmp s t) (numbers-equal m n)

reaches : (r q : KeyReach) → is_eq (reach_order r q) ≡ same_key_reach (reach_of r) (reach_of q)
reaches reach.Outward reach.Outward = refl
reaches reach.Own reach.Own = refl
reaches (reach.Counted m) (reach.Counted n) = numbers-equal m n
reaches (reach.Named s m) (reach.Named t n) = ids s.now t.now m n
reaches _ _ = refl

parts : (a b : KeyPart) → is_eq (part_order a b) ≡ same_part (part_of a) (part_of b)
parts part.End part.End = refl
parts (part.Row m) (part.Row n) = numbers-equal m n
parts (part.Text s) (part.Text t) = is_eq-slice_cmp s.now t.now
parts (part.Number m) (part.Number n) = numbers-equal m n
parts part.Absent part.Absent = refl
parts part.Present part.Present = refl
parts part.Nodes part.Nodes = refl
parts part.NoCase part.NoCase = refl
parts (part.Case s m) (part.Case t n) = ids s.now t.now m n
parts (part.Space m) (part.Space n) = numbers-equal m n
parts (part.Numeral m) (part.Numeral n) = numbers-equal m n
parts (part.Name r s m) (part.Name q t n) =
    then-equal (reach_order r q) (ordering_then (slice_cmp nat_cmp s.now t.now) (nat_cmp m n)) _ _ (reaches r q) (ids s.now t.now m n)
parts (part.Root m) (part.Root n) = numbers-equal m n
parts (part.RootName s m) (part.RootName t n) = ids s.now t.now m n
parts (part.Export s) (part.Export t) = is_eq-slice_cmp s.now t.now
parts (part.Inline m) (part.Inline n) = numbers-equal m n
parts _ _ = refl

lists : (ps qs : List KeyPart) → is_eq (slice_cmp part_order ps qs) ≡ same_parts (map part_of ps) (map part_of qs)
lists [] [] = refl
lists [] (q ∷ qs) = refl
lists (p ∷ ps) [] = refl
lists (p ∷ ps) (q ∷ qs) = then-equal (part_order p q) (slice_cmp part_order ps qs) _ _ (parts p q) (lists ps qs)

pub order_same : (k q : TypeKey) → is_eq (order k q) ≡ same_parts (parts_of k) (parts_of q)
order_same k q = lists k.parts.items q.parts.items
