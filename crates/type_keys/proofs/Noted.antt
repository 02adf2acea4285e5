-- One more key in a map is one more in the list, and keys that are equal are one.
use Rattle.std.proofs.Common.{◌≡◌, ℕ, zero, suc, ◌+◌, Bool, true, false, ◌&&◌, cond, bytes_eq, nat_eq, List, [], ◌∷◌, ◌++◌, length, Option, Some, None, option_map, IsSome, refl, sym, ◌∙◌, ap, subst, arith, Result, Ok, Err, OnOk}
use Rattle.std.proofs.lemmas.Bool.{eqb-true, eq-eqb}
use Rattle.std.proofs.lemmas.Slice.Eq.{bytes_eq-Decides}
use Rattle.std.specs.BTreeMap.{get}
use Rattle.std.specs.Ordering.{is_eq}
use Rattle.comp_model.specs.Core.{Text}
use Rattle.comp_model.specs.declared.row.Row.{Row}
use Rattle.comp_model.specs.RowNumbers.{same_row}
use Rattle.comp_model.specs.Model.{Leaves}
use Rattle.comp_model.specs.Origins.{Origin, same_origin}
use Rattle.comp_scopes.specs.Reused.{same_leaves, Typed, earlier_type}
use Rattle.comp_scopes.proofs.Among.{and-both}
use Rattle.type_keys.specs.Keys.{KeyReach, reach_outward, reach_own, reach_counted, reach_named, KeyCase, no_case, case_named, Part, part_end, part_row, part_text, part_number, part_absent, part_present, part_nodes, part_case, part_space, part_numeral, part_name, part_root, part_root_name, part_export, part_type, same_key_reach, same_key_case, same_type, same_part, same_parts, first_key, first_equal}
use Rattle.type_keys.specs.Named.{NoneMarked, origin_of}
use Rattle.type_keys.specs.Shown.{KeysShow}
use Rattle.type_keys.specs.PartsOf.{parts_of}
use Rattle.type_keys.specs.Order.{order}
use Rattle.type_keys.specs.declared.key.TypeKey.{TypeKey}
use Rattle.type_keys.specs.declared.types.Types.{Types}
use Rattle.type_keys.proofs.Ordered.{order_same}

not_true : {A : Type 0} → false ≡ true → A
not_true e = absurd (cc)

same-number : (n m : ℕ) → nat_eq n m ≡ true → n ≡ m
same-number n m h = eqb-true n m h

same-text : (t v : Text) → bytes_eq t v ≡ true → t ≡ v
same-text t v h = (bytes_eq-Decides t v).0 h

same-id : (t v : Text) (n m : ℕ) → (bytes_eq t v && nat_eq n m) ≡ true → (t ≡ v) × (n ≡ m)
same-id t v n m h = let a : (bytes_eq t v ≡ true) × (nat_eq n m ≡ true) = and-both (bytes_eq t v) (nat_eq n m) h in (same-text t v a.0, same-number n m a.1)

reach-one : (r q : KeyReach) → same_key_reach r q ≡ true → r ≡ q
reach-one reach_outward reach_outward h = refl
reach-one reach_own reach_own h = refl
reach-one (reach_counted n) (reach_counted m) h = ap reach_counted (same-number n m h)
reach-one (reach_named t n) (reach_named v m) h = let a : (t ≡ v) × (n ≡ m) = same-id t v n m h in ap (λ i. reach_named i n) a.0 ∙ ap (reach_named v) a.1
reach-one _ _ h = not_true h

case-one : (x y : KeyCase) → same_key_case x y ≡ true → x ≡ y
case-one no_case no_case h = refl
case-one (case_named t n) (case_named v m) h = let a : (t ≡ v) × (n ≡ m) = same-id t v n m h in ap (λ i. case_named i n) a.0 ∙ ap (case_named v) a.1
case-one no_case (case_named v m) h = not_true h
case-one (case_named t n) no_case h = not_true h

type-one : (a b : Option ℕ) → same_type a b ≡ true → a ≡ b
type-one (Some n) (Some m) h = ap Some (same-number n m h)
type-one (Some n) None h = not_true h
type-one None b h = not_true h

part-one : (a b : Part) → same_part a b ≡ true → a ≡ b
part-one part_end part_end h = refl
part-one (part_row n) (part_row m) h = ap part_row (same-number n m h)
part-one (part_text t) (part_text v) h = ap part_text (same-text t v h)
part-one (part_number n) (part_number m) h = ap part_number (same-number n m h)
part-one part_absent part_absent h = refl
part-one part_present part_present h = refl
part-one part_nodes part_nodes h = refl
part-one (part_case x) (part_case y) h = ap part_case (case-one x y h)
part-one (part_space n) (part_space m) h = ap part_space (same-number n m h)
part-one (part_numeral n) (part_numeral m) h = ap part_numeral (same-number n m h)
part-one (part_name r t n) (part_name q v m) h =
    let a : (same_key_reach r q ≡ true) × ((bytes_eq t v && nat_eq n m) ≡ true) = and-both (same_key_reach r q) (bytes_eq t v && nat_eq n m) h in
    let b : (t ≡ v) × (n ≡ m) = same-id t v n m a.1 in
    ap (λ i. part_name i t n) (reach-one r q a.0) ∙ ap (λ i. part_name q i n) b.0 ∙ ap (part_name q v) b.1
part-one (part_root n) (part_root m) h = ap part_root (same-number n m h)
part-one (part_root_name t n) (part_root_name v m) h = let a : (t ≡ v) × (n ≡ m) = same-id t v n m h in ap (λ i. part_root_name i n) a.0 ∙ ap (part_root_name v) a.1
part-one (part_export t) (part_export v) h = ap part_export (same-text t v h)
part-one (part_type a) (part_type b) h = ap part_type (type-one a b h)
part-one _ _ h = not_true h

-- equal keys are one
pub key-one : (k q : List Part) → same_parts k q ≡ true → k ≡ q
key-one [] [] h = refl
key-one [] (b ∷ q) h = not_true h
key-one (a ∷ k) [] h = not_true h
key-one (a ∷ k) (b ∷ q) h =
    let i : (same_part a b ≡ true) × (same_parts k q ≡ true) = and-both (same_part a b) (same_parts k q) h in
    ap (λ r. r ∷ k) (part-one a b i.0) ∙ ap (λ r. b ∷ r) (key-one k q i.1)

-- ---- a key behind others

abbrev up : Option ℕ → Option ℕ
up o = option_map (λ n. n + 1) o

pub key-behind : (k q : List Part) (ks : List (List Part)) → first_key k ks ≡ None → first_key k (ks ++ q ∷ []) ≡ cond (same_parts k q) (Some (length ks)) None
key-behind k q [] h = refl
key-behind k q (x ∷ ks) h = go (same_parts k x) h (λ i. key-behind k q ks i)
  where
    none : (o : Option ℕ) → up o ≡ None → o ≡ None
    none None i = refl
    none (Some n) i = absurd (cc)

    lifted : (b : Bool) → up (cond b (Some (length ks)) None) ≡ cond b (Some (length (x ∷ ks))) None
    lifted true = let z : length ks + 1 ≡ suc (length ks) = omega arith in ap Some z
    lifted false = refl

    go : (b : Bool) → cond b (Some 0) (up (first_key k ks)) ≡ None → (first_key k ks ≡ None → first_key k (ks ++ q ∷ []) ≡ cond (same_parts k q) (Some (length ks)) None)
        → cond b (Some 0) (up (first_key k (ks ++ q ∷ []))) ≡ cond (same_parts k q) (Some (length (x ∷ ks))) None
    go true i rest = absurd (cc)
    go false i rest = ap up (rest (none (first_key k ks) i)) ∙ lifted (same_parts k q)

-- a key that is there already is found where it was
pub key-there : (k q : List Part) (ks : List (List Part)) → IsSome (first_key k ks) → first_key k (ks ++ q ∷ []) ≡ first_key k ks
key-there k q [] h = absurd (cc)
key-there k q (x ∷ ks) h = go (same_parts k x) h (λ i. key-there k q ks i)
  where
    some : (o : Option ℕ) → IsSome (up o) → IsSome o
    some None i = i
    some (Some n) i = refl

    go : (b : Bool) → IsSome (cond b (Some 0) (up (first_key k ks))) → (IsSome (first_key k ks) → first_key k (ks ++ q ∷ []) ≡ first_key k ks) → cond b (Some 0) (up (first_key k (ks ++ q ∷ []))) ≡ cond b (Some 0) (up (first_key k ks))
    go true i rest = refl
    go false i rest = ap up (rest (some (first_key k ks) i))

-- in front or behind
pub key-last : (k q : List Part) (ks : List (List Part)) → (same_parts k q ≡ true → first_key k ks ≡ None) → first_key k (ks ++ q ∷ []) ≡ cond (same_parts k q) (Some (length ks)) (first_key k ks)
key-last k q ks h = go (first_key k ks) refl (same_parts k q) refl
  where
    go : (o : Option ℕ) → first_key k ks ≡ o → (b : Bool) → same_parts k q ≡ b → first_key k (ks ++ q ∷ []) ≡ cond b (Some (length ks)) (first_key k ks)
    go None e b f = key-behind k q ks e ∙ ap (λ c. cond c (Some (length ks)) None) f ∙ ap (λ o. cond b (Some (length ks)) o) (sym e)
    go (Some n) e true f = let z : Some n ≡ None = sym e ∙ h f in absurd (cc)
    go (Some n) e false f = key-there k q ks (subst IsSome (sym e) refl)

-- what is looked up behind an insertion
pub noted : (old new : TypeKey → Option ℕ) (ks : List (List Part)) (key : TypeKey) (n : ℕ) → ((k : TypeKey) → new k ≡ cond (is_eq (order key k)) (Some n) (old k)) → ((k : TypeKey) → old k ≡ first_key (parts_of k) ks)
    → first_key (parts_of key) ks ≡ None → length ks ≡ n → (k : TypeKey) → new k ≡ first_key (parts_of k) (ks ++ parts_of key ∷ [])
noted old new ks key n put shown free l k =
    put k ∙ ap (λ c. cond c (Some n) (old k)) (order_same key k ∙ turned (parts_of key) (parts_of k)) ∙ ap (λ o. cond (same_parts (parts_of k) (parts_of key)) (Some n) o) (shown k)
    ∙ ap (λ i. cond (same_parts (parts_of k) (parts_of key)) (Some i) (first_key (parts_of k) ks)) (sym l)
    ∙ sym (key-last (parts_of k) (parts_of key) ks (λ h. ap (λ q. first_key q ks) (key-one (parts_of k) (parts_of key) h) ∙ free))
  where
    turned : (k q : List Part) → same_parts k q ≡ same_parts q k
    turned k q = go (same_parts k q) (same_parts q k) refl refl
      where
        back : (k q : List Part) → same_parts k q ≡ true → same_parts q k ≡ true
        back k q h = let e : k ≡ q = key-one k q h in subst (λ i. same_parts q i ≡ true) (sym e) (subst (λ i. same_parts i q ≡ true) e h)

        go : (b c : Bool) → same_parts k q ≡ b → same_parts q k ≡ c → b ≡ c
        go true true e f = refl
        go false false e f = refl
        go true false e f = sym (back k q e) ∙ f
        go false true e f = sym (sym (back q k f) ∙ e)

not-there : (o : Option ℕ) → o ≡ None → IsSome o → ⊥
not-there None e h = cc
not-there (Some n) e h = cc

pub equal-shown : (a : Types) (ks : List (List Part)) (q : List Part) → KeysShow a ks → IsSome (first_key q ks) → KeysShow a (ks ++ q ∷ [])
equal-shown a ks q shown there k = shown k ∙ go (first_key (parts_of k) ks) refl (same_parts (parts_of k) q) refl
  where
    go : (o : Option ℕ) → first_key (parts_of k) ks ≡ o → (b : Bool) → same_parts (parts_of k) q ≡ b → first_key (parts_of k) ks ≡ first_key (parts_of k) (ks ++ q ∷ [])
    go (Some n) e b f = sym (key-there (parts_of k) q ks (subst IsSome (sym e) refl))
    go None e false f = e ∙ sym (key-behind (parts_of k) q ks e ∙ ap (λ c. cond c (Some (length ks)) None) f)
    go None e true f = absurd (not-there (first_key (parts_of k) ks) e (subst (λ i. IsSome (first_key i ks)) (sym (key-one (parts_of k) q f)) there))

-- what an answer gives of each key it gives of all
pub ok-each : {T E A : Type 0} (r : Result T E) (P : A → Type 0) (Q : Type 0) → ((k : A) → OnOk r (P k)) → (((k : A) → P k) → Q) → OnOk r Q
ok-each (Ok x) P Q h f = f h
ok-each (Err e) P Q h f = tt

-- ---- the first equal type is the earlier one

pub first-reused : (o : Origin) (t : Row) (ls : Leaves) (xs : List Typed) → NoneMarked o xs → earlier_type o t ls xs ≡ option_map (origin_of xs) (first_equal t ls xs)
first-reused o t ls [] h = refl
first-reused o t ls (x ∷ xs) h = rw h.0 (go (same_row t x.tag && same_leaves ls x.leaves) (first-reused o t ls xs h.1))
  where
    lifted : (v : Option ℕ) → option_map (origin_of xs) v ≡ option_map (origin_of (x ∷ xs)) (up v)
    lifted None = refl
    lifted (Some n) = let z : suc n ≡ n + 1 = omega arith in ap (λ i. Some (origin_of (x ∷ xs) i)) z

    go : (b : Bool) → earlier_type o t ls xs ≡ option_map (origin_of xs) (first_equal t ls xs) → cond b (Some x.origin) (earlier_type o t ls xs) ≡ option_map (origin_of (x ∷ xs)) (cond b (Some 0) (up (first_equal t ls xs)))
    go true rest = refl
    go false rest = rest ∙ lifted (first_equal t ls xs)
