-- A text in UTF-8 is of bytes.
use Rattle.std.proofs.Common.{◌≡◌, ℕ, ◌<◌, ◌/◌, ◌%◌, ◌+◌, nat_lt, Bool, true, false, cond, ◌&&◌, List, [], ◌∷◌, ◌++◌, refl, sym, subst, arith}
use Rattle.std.proofs.lemmas.Bool.Decides.{nat_tests}
use Rattle.std.specs.List.{list_all}
use Rattle.std.specs.Str.{is_utf8}
use Rattle.std.proofs.lemmas.Str.{IsUtf8-from_is_utf8}
use Rattle.comp_wire.proofs.Groups.{and_both}
use Rattle.print_table.specs.Printable.{Bytes}
use lib.Utf8.{scalar, scalars, encode, encodes}

all_behind : (xs ys : List ℕ) → Bytes xs → Bytes ys → Bytes (xs ++ ys)
all_behind [] ys h k = k
all_behind (x ∷ xs) ys h k =
    let s = and_both (nat_lt x 256) _ h in
    subst (λ b. (b && list_all (λ b. nat_lt b 256) (xs ++ ys)) ≡ true) (sym s.0) (all_behind xs ys s.1 k)

one : (a : ℕ) → a < 256 → Bytes (a ∷ [])
one a h = let e : nat_lt a 256 ≡ true = grind (arith, nat_tests) in subst (λ b. (b && true) ≡ true) (sym e) refl

more : (a : ℕ) (xs : List ℕ) → a < 256 → Bytes xs → Bytes (a ∷ xs)
more a xs h k = let e : nat_lt a 256 ≡ true = grind (arith, nat_tests) in subst (λ b. (b && list_all (λ b. nat_lt b 256) xs) ≡ true) (sym e) k

-- a byte behind the first
behind_first : (c : ℕ) → 128 + c % 64 < 256
behind_first c = omega arith

by_length : (c : ℕ) (x y z : Bool) → nat_lt c 128 ≡ x → nat_lt c 2048 ≡ y → nat_lt c 65536 ≡ z → c < 1114112
    → Bytes (cond x (c ∷ []) (cond y ((192 + c / 64) ∷ (128 + c % 64) ∷ []) (cond z ((224 + c / 4096) ∷ (128 + (c / 64) % 64) ∷ (128 + c % 64) ∷ []) ((240 + c / 262144) ∷ (128 + (c / 4096) % 64) ∷ (128 + (c / 64) % 64) ∷ (128 + c % 64) ∷ []))))
by_length c true y z e f g h = one c (grind (arith, nat_tests))
by_length c false true z e f g h =
    let k : c < 2048 = grind (arith, nat_tests) in
    let d : 192 + c / 64 < 256 = omega arith in
    more (192 + c / 64) ((128 + c % 64) ∷ []) d (one (128 + c % 64) (behind_first c))
by_length c false false true e f g h =
    let k : c < 65536 = grind (arith, nat_tests) in
    let d : 224 + c / 4096 < 256 = omega arith in
    more (224 + c / 4096) ((128 + (c / 64) % 64) ∷ (128 + c % 64) ∷ []) d (more (128 + (c / 64) % 64) ((128 + c % 64) ∷ []) (behind_first (c / 64)) (one (128 + c % 64) (behind_first c)))
by_length c false false false e f g h =
    let d : 240 + c / 262144 < 256 = omega arith in
    more (240 + c / 262144) ((128 + (c / 4096) % 64) ∷ (128 + (c / 64) % 64) ∷ (128 + c % 64) ∷ []) d
    (more (128 + (c / 4096) % 64) ((128 + (c / 64) % 64) ∷ (128 + c % 64) ∷ []) (behind_first (c / 4096)) (more (128 + (c / 64) % 64) ((128 + c % 64) ∷ []) (behind_first (c / 64)) (one (128 + c % 64) (behind_first c))))

small : (c : ℕ) → scalar c ≡ true → c < 1114112
small c e = grind (arith, nat_tests)

encoded : (c : ℕ) → scalar c ≡ true → Bytes (encode c)
unfolding encode
encoded c e = by_length c _ _ _ refl refl refl (small c e)

all_encoded : (cs : List ℕ) → scalars cs ≡ true → Bytes (encodes cs)
all_encoded [] e = refl
all_encoded (c ∷ cs) e = let s = and_both (scalar c) _ e in all_behind (encode c) (encodes cs) (encoded c s.0) (all_encoded cs s.1)

pub utf8_bytes : (bs : List ℕ) → is_utf8 bs ≡ true → Bytes bs
utf8_bytes bs e = let h = IsUtf8-from_is_utf8 bs e in subst Bytes h.1.1 (all_encoded h.0 h.1.0)
