-- Each spelled leaf ends itself: what is read at the front of the same bytes is one leaf, and leaves one rest.
use Rattle.std.proofs.Common.{◌≡◌, ℕ, zero, suc, ◌<◌, ◌≤◌, List, [], ◌∷◌, ◌++◌, length, refl, sym, ◌∙◌, ap, arith, Bool, true, false, ◌⊎◌, inl, inr, Option, Some, None, append_assoc, append-nil, if◌then◌else◌, lit≤}
use Rattle.std.specs.Prelude.{◌==◌}
use Rattle.comp_model.specs.declared.Space.{Space}
use Rattle.comp_model.specs.declared.Space.TheVariants.{CoreFunc, CoreTable, CoreMemory, CoreGlobal, CoreTag, CoreType, CoreModule, CoreInstance, Func, Value, Ty, Component, Instance}
use Rattle.comp_model.specs.Core as c
use Rattle.comp_model.specs.Core.{Id, CoreValue, Place}
use Rattle.comp_model.specs.Model as m
use Rattle.comp_model.specs.Model.{Leaf}
use Rattle.comp_model.specs.Leb.{uleb, sleb}
use Rattle.comp_model.specs.Payloads.{framed, sort_bytes, core_sort_byte}
use Rattle.comp_wire.specs.Table as t
use Rattle.comp_wire.specs.Table.{Family, Field}
use Rattle.comp_wire.specs.Spelled.{IsCoreSpace, spell_leaf, FitsLeaf, IsPrimitive, async_byte_of, core_bytes, FitsCore}
use Rattle.comp_wire.proofs.Numbers.{uleb_ends, sleb_ends, sleb_begins, cons_is}

-- whether the bytes of a row show their end
abbrev pub closed_family : Family → Bool
closed_family t.components = false
closed_family t.core_modules = false
closed_family t.customs = false
closed_family _ = true

abbrev pub closed : Field → Bool
closed t.whole_component = false
closed t.whole_module = false
closed t.rest = false
closed (t.optional f) = closed f
closed (t.result f) = closed f
closed _ = true

-- whether the bytes of a leaf tell it; the others stand in pieces of several leaves
abbrev pub sound : Field → Bool
sound (t.optional f) = sound f
sound (t.result f) = sound f
sound (t.one f) = closed_family f
sound (t.each f) = closed_family f
sound t.any_index = false
sound t.presence = false
sound t.maximum = false
sound _ = true

-- what may follow: anything, or else nothing
abbrev pub Follow : Bool → List ℕ → List ℕ → Type 0
Follow c a b = (c ≡ true) ⊎ ((a ≡ []) × (b ≡ []))

abbrev pub LeafLaw : Leaf → Type 0
LeafLaw x = (f : Field) (y : Leaf) (a b : List ℕ) → sound f ≡ true → FitsLeaf x f → FitsLeaf y f → Follow (closed f) a b
    → spell_leaf x f ++ a ≡ spell_leaf y f ++ b → (x ≡ y) × (a ≡ b)

same_length_cancels : (s u a b : List ℕ) → length s ≡ length u → s ++ a ≡ u ++ b → (s ≡ u) × (a ≡ b)
same_length_cancels [] [] a b l e = (refl, e)
same_length_cancels [] (y ∷ u) a b l e = absurd (omega arith)
same_length_cancels (x ∷ s) [] a b l e = absurd (omega arith)
same_length_cancels (x ∷ s) (y ∷ u) a b l e =
    let heads = cons_is _ _ _ _ e in
    let l' : length s ≡ length u = omega arith in
    let rest = same_length_cancels s u a b l' heads.1 in
    let same : x ∷ s ≡ y ∷ u = let p = heads.0 in let q = rest.0 in cc in
    (same, rest.1)

pub framed_ends : (s u a b : List ℕ) → framed s ++ a ≡ framed u ++ b → (s ≡ u) × (a ≡ b)
framed_ends s u a b e =
    let first = uleb_ends (length s) (length u) (s ++ a) (u ++ b) (simp append_assoc at e) in
    same_length_cancels s u a b first.0 first.1

-- the space that a sort stands for, and the bytes behind it
core_space : ℕ → List ℕ → Option (Space × List ℕ)
core_space n bs =
    if n == 0x00 then Some (CoreFunc, bs) else if n == 0x01 then Some (CoreTable, bs) else if n == 0x02 then Some (CoreMemory, bs)
    else if n == 0x03 then Some (CoreGlobal, bs) else if n == 0x04 then Some (CoreTag, bs) else if n == 0x10 then Some (CoreType, bs)
    else if n == 0x11 then Some (CoreModule, bs) else if n == 0x12 then Some (CoreInstance, bs) else None

core_sort_at : List ℕ → Option (Space × List ℕ)
core_sort_at [] = None
core_sort_at (b ∷ bs) = core_space b bs

sort_at : List ℕ → Option (Space × List ℕ)
sort_at [] = None
sort_at (n ∷ bs) =
    if n == 0x00 then core_sort_at bs else if n == 0x01 then Some (Func, bs) else if n == 0x02 then Some (Value, bs)
    else if n == 0x03 then Some (Ty, bs) else if n == 0x04 then Some (Component, bs) else Some (Instance, bs)

sort_at-sort_bytes : (s : Space) (a : List ℕ) → sort_at (sort_bytes s ++ a) ≡ Some (s, a)
unfolding sort_at core_sort_at core_space
sort_at-sort_bytes CoreFunc a = refl
sort_at-sort_bytes _ _ = refl

core_sort_at-byte : (s : Space) (a : List ℕ) → IsCoreSpace s → core_sort_at (core_sort_byte s ∷ a) ≡ Some (s, a)
unfolding core_sort_at core_space
core_sort_at-byte Func a h = absurd h
core_sort_at-byte Value a h = absurd h
core_sort_at-byte Ty a h = absurd h
core_sort_at-byte Component a h = absurd h
core_sort_at-byte Instance a h = absurd h
core_sort_at-byte _ a h = refl

some_pair : (s u : Space) (a b : List ℕ) → ◌≡◌ {A = Option (Space × List ℕ)} (Some (s, a)) (Some (u, b)) → (s ≡ u) × (a ≡ b)
some_pair s u a b e = let pair : ◌≡◌ {A = Space × List ℕ} (s, a) (u, b) = cc in (ap (λ x. x.0) pair, ap (λ x. x.1) pair)

pub sort_ends : (s u : Space) (a b : List ℕ) → sort_bytes s ++ a ≡ sort_bytes u ++ b → (s ≡ u) × (a ≡ b)
sort_ends s u a b e = some_pair s u a b (sym (sort_at-sort_bytes s a) ∙ ap sort_at e ∙ sort_at-sort_bytes u b)

core_sort_ends : (s u : Space) (a b : List ℕ) → IsCoreSpace s → IsCoreSpace u → core_sort_byte s ∷ a ≡ core_sort_byte u ∷ b → (s ≡ u) × (a ≡ b)
core_sort_ends s u a b h k e = some_pair s u a b (sym (core_sort_at-byte s a h) ∙ ap core_sort_at e ∙ core_sort_at-byte u b k)

-- where nothing follows, bytes to the end are the bytes
pub nothing_follows : (s u a b : List ℕ) → Follow false a b → s ++ a ≡ u ++ b → (s ≡ u) × (a ≡ b)
nothing_follows s u a b (inl e) h = cc
nothing_follows s u a b (inr e) h = (sym (append-nil s) ∙ (rw (e.0, e.1) at h) ∙ append-nil u, e.0 ∙ sym e.1)

pub text_law : (x : List ℕ) → LeafLaw (m.text x)
text_law x t.string (m.text u) a b ok p q o e = let r = framed_ends x u a b e in (ap m.text r.0, r.1)
text_law x t.string y a b ok p q o e = absurd q
text_law x t.extern_name (m.text u) a b ok p q o e = let r = framed_ends x u a b (cons_is _ _ _ _ e).1 in (ap m.text r.0, r.1)
text_law x t.extern_name y a b ok p q o e = absurd q
text_law x t.rest (m.text u) a b ok p q o e = let r = nothing_follows x u a b o e in (ap m.text r.0, r.1)
text_law x t.rest y a b ok p q o e = absurd q
text_law x f y a b ok p q o e = absurd p

pub module_law : (x : List ℕ) → LeafLaw (m.module_bytes x)
module_law x t.whole_module (m.module_bytes u) a b ok p q o e = let r = nothing_follows x u a b o e in (ap m.module_bytes r.0, r.1)
module_law x t.whole_module y a b ok p q o e = absurd q
module_law x f y a b ok p q o e = absurd p

-- the byte of a primitive begins no index of a value type
apart_primitive : (n i : ℕ) (a b : List ℕ) → IsPrimitive n → n ∷ a ≡ sleb i ++ b → ⊥
apart_primitive n i a b (inl p) e = elim (sleb_begins i n b a (sym e)) [ inl q ↦ omega arith | inr q ↦ omega arith ]
apart_primitive n i a b (inr p) e = elim (sleb_begins i n b a (sym e)) [ inl q ↦ omega arith | inr q ↦ omega arith ]

async_same : (n k : ℕ) → n < 2 → k < 2 → async_byte_of n ≡ async_byte_of k → n ≡ k
async_same zero zero p q e = refl
async_same zero (suc zero) p q e = absurd (omega (arith, e))
async_same (suc zero) zero p q e = absurd (omega (arith, e))
async_same (suc zero) (suc zero) p q e = refl
async_same (suc (suc n)) k p q e = absurd (omega arith)
async_same n (suc (suc k)) p q e = absurd (omega arith)

pub number_law : (n : ℕ) → LeafLaw (m.number n)
number_law n t.unsigned (m.number k) a b ok p q o e = let r = uleb_ends n k a b e in (ap m.number r.0, r.1)
number_law n t.unsigned y a b ok p q o e = absurd q
number_law n t.primitive_byte (m.number k) a b ok p q o e = let r = cons_is _ _ _ _ e in (ap m.number r.0, r.1)
number_law n t.primitive_byte y a b ok p q o e = absurd q
number_law n t.value (m.number k) a b ok p q o e = let r = cons_is _ _ _ _ e in (ap m.number r.0, r.1)
number_law n t.value (m.ref s (m.index i)) a b ok p q o e = absurd (apart_primitive n i a b p e)
number_law n t.value y a b ok p q o e = absurd q
number_law n t.async_byte (m.number k) a b ok p q o e = let r = cons_is _ _ _ _ e in (ap m.number (async_same n k p q r.0), r.1)
number_law n t.async_byte y a b ok p q o e = absurd q
number_law n t.flag (m.number k) a b ok p q o e = let r = cons_is _ _ _ _ e in (ap m.number r.0, r.1)
number_law n t.flag y a b ok p q o e = absurd q
number_law n f y a b ok p q o e = absurd p

same_place : (o v : ℕ) (n k : ℕ) → o ≡ v → n ≡ k → ◌≡◌ {A = Leaf} (m.place (c.counted o n)) (m.place (c.counted v k))
same_place o v n k e f = cc

pub place_law : (x : Place) → LeafLaw (m.place x)
place_law (c.counted o n) t.outward (m.place (c.counted v k)) a b ok p q w e = let r = uleb_ends n k a b e in (same_place o v n k (p.0 ∙ sym q.0) r.0, r.1)
place_law (c.named o x) t.outward y a b ok p q w e = absurd p
place_law x t.outward (m.place (c.named o y)) a b ok p q w e = absurd q
place_law x t.outward y a b ok p q o e = absurd q
place_law x f y a b ok p q o e = absurd p

pub count_law : (n : ℕ) → LeafLaw (m.result_count n)
count_law n t.results (m.result_count k) a b ok p q o e = let r = uleb_ends n k a b e in (ap m.result_count r.0, r.1)
count_law n t.results y a b ok p q o e = absurd q
count_law n f y a b ok p q o e = absurd p

pub kind_law : (s : Space) → LeafLaw (m.kind s)
kind_law s t.sort (m.kind u) a b ok p q o e = let r = sort_ends s u a b e in (ap m.kind r.0, r.1)
kind_law s t.sort y a b ok p q o e = absurd q
kind_law s t.core_sort (m.kind u) a b ok p q o e = let r = sort_ends s u a b e in (ap m.kind r.0, r.1)
kind_law s t.core_sort y a b ok p q o e = absurd q
kind_law s (t.kind_is v) (m.kind u) a b ok p q o e = (ap m.kind (p ∙ sym q), e)
kind_law s (t.kind_is v) y a b ok p q o e = absurd q
kind_law s f y a b ok p q o e = absurd p

pub same_reference : (s u : Space) (i j : ℕ) → s ≡ u → i ≡ j → ◌≡◌ {A = Leaf} (m.ref s (m.index i)) (m.ref u (m.index j))
same_reference s u i j e f = cc

index_law : (s : Space) (i : ℕ) → LeafLaw (m.ref s (m.index i))
index_law s i (t.index_in v) (m.ref u (m.index j)) a b ok p q o e = let r = uleb_ends i j a b e in (same_reference s u i j (p.0 ∙ sym q.0) r.0, r.1)
index_law s i (t.index_in v) y a b ok p q o e = absurd q
index_law s i t.sorted_index (m.ref u (m.index j)) a b ok p q o e =
    let first = sort_ends s u (uleb i ++ a) (uleb j ++ b) (simp append_assoc at e) in
    let r = uleb_ends i j a b first.1 in
    (same_reference s u i j first.0 r.0, r.1)
index_law s i t.sorted_index y a b ok p q o e = absurd q
index_law s i t.core_sorted_index (m.ref u (m.index j)) a b ok p q o e =
    let first = core_sort_ends s u (uleb i ++ a) (uleb j ++ b) p.0 q.0 e in
    let r = uleb_ends i j a b first.1 in
    (same_reference s u i j first.0 r.0, r.1)
index_law s i t.core_sorted_index y a b ok p q o e = absurd q
index_law s i t.value (m.number n) a b ok p q o e = absurd (apart_primitive n i b a q (sym e))
index_law s i t.value (m.ref u (m.index j)) a b ok p q o e = let r = sleb_ends i j a b e in (same_reference s u i j (p.0 ∙ sym q.0) r.0, r.1)
index_law s i t.value y a b ok p q o e = absurd q
index_law s i t.any_index y a b ok p q o e = cc
index_law s i f y a b ok p q o e = absurd p

pub reference_law : (s : Space) (x : m.Target) → LeafLaw (m.ref s x)
reference_law s (m.index i) f y a b ok p q o e = index_law s i f y a b ok p q o e
reference_law s x (t.index_in u) y a b ok p q o e = absurd p
reference_law s x t.sorted_index y a b ok p q o e = absurd p
reference_law s x t.core_sorted_index y a b ok p q o e = absurd p
reference_law s x t.value y a b ok p q o e = absurd p
reference_law s x f y a b ok p q o e = absurd p

pub absent_law : LeafLaw m.absent
absent_law (t.optional f) m.absent a b ok p q o e = (refl, (cons_is _ _ _ _ e).1)
absent_law (t.optional f) (m.present l) a b ok p q o e = let r = cons_is _ _ _ _ e in absurd (omega (arith, r.0))
absent_law (t.optional f) y a b ok p q o e = absurd q
absent_law (t.result f) m.absent a b ok p q o e = (refl, (cons_is _ _ _ _ (cons_is _ _ _ _ e).1).1)
absent_law (t.result f) (m.present l) a b ok p q o e = let r = cons_is _ _ _ _ e in absurd (omega (arith, r.0))
absent_law (t.result f) y a b ok p q o e = absurd q
absent_law t.maximum y a b ok p q o e = cc
absent_law f y a b ok p q o e = absurd p

pub present_law : (l : Leaf) → LeafLaw l → LeafLaw (m.present l)
present_law l law (t.optional f) (m.present k) a b ok p q o e = let r = law f k a b ok p q o (cons_is _ _ _ _ e).1 in (ap m.present r.0, r.1)
present_law l law (t.optional f) m.absent a b ok p q o e = let r = cons_is _ _ _ _ e in absurd (omega (arith, r.0))
present_law l law (t.optional f) y a b ok p q o e = absurd q
present_law l law (t.result f) (m.present k) a b ok p q o e = let r = law f k a b ok p q o (cons_is _ _ _ _ e).1 in (ap m.present r.0, r.1)
present_law l law (t.result f) m.absent a b ok p q o e = let r = cons_is _ _ _ _ e in absurd (omega (arith, r.0))
present_law l law (t.result f) y a b ok p q o e = absurd q
present_law l law t.maximum y a b ok p q o e = cc
present_law l law f y a b ok p q o e = absurd p

pub case_law : (i : Option Id) → LeafLaw (m.case_id i)
case_law i t.unspelled (m.case_id j) a b ok p q o e = (ap m.case_id (p ∙ sym q), e)
case_law i t.unspelled y a b ok p q o e = absurd q
case_law i f y a b ok p q o e = absurd p

-- a leaf that no field spells
pub no_law : (x : Leaf) → ((f : Field) → FitsLeaf x f → ⊥) → LeafLaw x
no_law x none f y a b ok p q o e = absurd (none f p)

clash : {A : Type 0} (x y : ℕ) (a b : List ℕ) → x ∷ a ≡ y ∷ b → (x ≡ y → ⊥) → A
clash x y a b e n = absurd (n (cons_is x y a b e).0)

-- a core value type of one byte, and the one that such a byte is
abbrev is_one : CoreValue → Bool
is_one (c.ref_func false) = false
is_one (c.ref_extern false) = false
is_one (c.ref_index b i) = false
is_one _ = true

abbrev one_byte : CoreValue → ℕ
one_byte c.i32 = 0x7f
one_byte c.i64 = 0x7e
one_byte c.f32 = 0x7d
one_byte c.f64 = 0x7c
one_byte c.v128 = 0x7b
one_byte (c.ref_func b) = 0x70
one_byte _ = 0x6f

one_at : ℕ → CoreValue
one_at n =
    if n == 0x7f then c.i32 else if n == 0x7e then c.i64 else if n == 0x7d then c.f32 else if n == 0x7c then c.f64
    else if n == 0x7b then c.v128 else if n == 0x70 then c.ref_func true else c.ref_extern true

-- its byte, which is greater than those that begin the others
abbrev OneByte : CoreValue → Type 0
OneByte v = (core_bytes v ≡ one_byte v ∷ []) × (one_at (one_byte v) ≡ v) × (0x65 ≤ one_byte v)

one_is : (v : CoreValue) → FitsCore v → is_one v ≡ true → OneByte v
unfolding one_at
one_is c.i32 p e = (refl, refl, lit≤ tt)
one_is c.i64 p e = (refl, refl, lit≤ tt)
one_is c.f32 p e = (refl, refl, lit≤ tt)
one_is c.f64 p e = (refl, refl, lit≤ tt)
one_is c.v128 p e = (refl, refl, lit≤ tt)
one_is (c.ref_func true) p e = (refl, refl, lit≤ tt)
one_is (c.ref_extern true) p e = (refl, refl, lit≤ tt)
one_is (c.ref_func false) p e = cc
one_is (c.ref_extern false) p e = cc
one_is (c.ref_index b i) p e = cc
one_is (c.ref_numeral b o n) p e = absurd p
one_is (c.ref_name b r x) p e = absurd p
one_is c.other_value p e = absurd p

-- the others begin with 63 or 64
abbrev Longer : CoreValue → Type 0
Longer v = (x : ℕ) × (rest : List ℕ) × (core_bytes v ≡ x ∷ rest) × (x ≤ 0x64)

longer_is : (v : CoreValue) → is_one v ≡ false → Longer v
longer_is (c.ref_func false) e = (0x64, 0x70 ∷ [], refl, lit≤ tt)
longer_is (c.ref_extern false) e = (0x64, 0x6f ∷ [], refl, lit≤ tt)
longer_is (c.ref_index true i) e = (0x63, sleb i, refl, lit≤ tt)
longer_is (c.ref_index false i) e = (0x64, sleb i, refl, lit≤ tt)
longer_is v e = cc

-- no index begins as a heap type
no_func : (i : ℕ) (a b : List ℕ) → 0x70 ∷ a ≡ sleb i ++ b → ⊥
no_func i a b e = elim (sleb_begins i 0x70 b a (sym e)) [ inl q ↦ omega arith | inr q ↦ omega arith ]

no_extern : (i : ℕ) (a b : List ℕ) → 0x6f ∷ a ≡ sleb i ++ b → ⊥
no_extern i a b e = elim (sleb_begins i 0x6f b a (sym e)) [ inl q ↦ omega arith | inr q ↦ omega arith ]

abbrev SameCore : CoreValue → CoreValue → List ℕ → List ℕ → Type 0
SameCore v w a b = (v ≡ w) × (a ≡ b)

longer_ends : (v w : CoreValue) (a b : List ℕ) → is_one v ≡ false → is_one w ≡ false → core_bytes v ++ a ≡ core_bytes w ++ b → SameCore v w a b
longer_ends (c.ref_func false) (c.ref_func false) a b p q e = (refl, (cons_is _ _ _ _ (cons_is _ _ _ _ e).1).1)
longer_ends (c.ref_extern false) (c.ref_extern false) a b p q e = (refl, (cons_is _ _ _ _ (cons_is _ _ _ _ e).1).1)
longer_ends (c.ref_index true i) (c.ref_index true j) a b p q e = let r = sleb_ends i j a b (cons_is _ _ _ _ e).1 in (ap (c.ref_index true) r.0, r.1)
longer_ends (c.ref_index false i) (c.ref_index false j) a b p q e = let r = sleb_ends i j a b (cons_is _ _ _ _ e).1 in (ap (c.ref_index false) r.0, r.1)
longer_ends (c.ref_func false) (c.ref_extern false) a b p q e = clash _ _ _ _ (cons_is _ _ _ _ e).1 (λ n. omega (arith, n))
longer_ends (c.ref_extern false) (c.ref_func false) a b p q e = clash _ _ _ _ (cons_is _ _ _ _ e).1 (λ n. omega (arith, n))
longer_ends (c.ref_func false) (c.ref_index false j) a b p q e = absurd (no_func j a b (cons_is _ _ _ _ e).1)
longer_ends (c.ref_index false i) (c.ref_func false) a b p q e = absurd (no_func i b a (sym (cons_is _ _ _ _ e).1))
longer_ends (c.ref_extern false) (c.ref_index false j) a b p q e = absurd (no_extern j a b (cons_is _ _ _ _ e).1)
longer_ends (c.ref_index false i) (c.ref_extern false) a b p q e = absurd (no_extern i b a (sym (cons_is _ _ _ _ e).1))
longer_ends (c.ref_func false) (c.ref_index true j) a b p q e = clash _ _ _ _ e (λ n. omega (arith, n))
longer_ends (c.ref_extern false) (c.ref_index true j) a b p q e = clash _ _ _ _ e (λ n. omega (arith, n))
longer_ends (c.ref_index false i) (c.ref_index true j) a b p q e = clash _ _ _ _ e (λ n. omega (arith, n))
longer_ends (c.ref_index true i) (c.ref_func false) a b p q e = clash _ _ _ _ e (λ n. omega (arith, n))
longer_ends (c.ref_index true i) (c.ref_extern false) a b p q e = clash _ _ _ _ e (λ n. omega (arith, n))
longer_ends (c.ref_index true i) (c.ref_index false j) a b p q e = clash _ _ _ _ e (λ n. omega (arith, n))
longer_ends (c.ref_func false) w a b p q e = cc
longer_ends (c.ref_extern false) w a b p q e = cc
longer_ends (c.ref_index true i) w a b p q e = cc
longer_ends (c.ref_index false i) w a b p q e = cc
longer_ends v w a b p q e = cc

one_longer : (v w : CoreValue) (a b : List ℕ) → OneByte v → Longer w → core_bytes v ++ a ≡ core_bytes w ++ b → ⊥
one_longer v w a b p q e =
    let f : one_byte v ∷ a ≡ q.0 ∷ (q.1 ++ b) = sym (ap (λ x. x ++ a) p.0) ∙ e ∙ ap (λ x. x ++ b) q.2 in
    let heads = cons_is _ _ _ _ f in
    omega (arith, heads.0, p.2, q.3)

one_one : (v w : CoreValue) (a b : List ℕ) → OneByte v → OneByte w → core_bytes v ++ a ≡ core_bytes w ++ b → SameCore v w a b
one_one v w a b p q e =
    let f : one_byte v ∷ a ≡ one_byte w ∷ b = sym (ap (λ x. x ++ a) p.0) ∙ e ∙ ap (λ x. x ++ b) q.0 in
    let heads = cons_is _ _ _ _ f in
    (sym p.1 ∙ ap one_at heads.0 ∙ q.1, heads.1)

core_ends : (v w : CoreValue) (a b : List ℕ) → FitsCore v → FitsCore w → core_bytes v ++ a ≡ core_bytes w ++ b → SameCore v w a b
core_ends v w a b p q e = go (is_one v) refl (is_one w) refl
  where
    go : (k : Bool) → is_one v ≡ k → (l : Bool) → is_one w ≡ l → SameCore v w a b
    go true f true g = one_one v w a b (one_is v p f) (one_is w q g) e
    go true f false g = absurd (one_longer v w a b (one_is v p f) (longer_is w g) e)
    go false f true g = absurd (one_longer w v b a (one_is w q g) (longer_is v f) (sym e))
    go false f false g = longer_ends v w a b f g e

pub core_law : (v : CoreValue) → LeafLaw (m.core_value v)
core_law v t.core_type (m.core_value w) a b ok p q o e = let r = core_ends v w a b p q e in (ap m.core_value r.0, r.1)
core_law v t.core_type y a b ok p q o e = absurd q
core_law v f y a b ok p q o e = absurd p

-- limits: the flag tells whether the second number stands
pub limits_end : (x y : Leaf) (n k : ℕ) (a b : List ℕ) → FitsLeaf x t.maximum → FitsLeaf y t.maximum →
    spell_leaf x t.presence ++ (uleb n ++ (spell_leaf x t.maximum ++ a)) ≡ spell_leaf y t.presence ++ (uleb k ++ (spell_leaf y t.maximum ++ b)) → (x ≡ y) × (n ≡ k) × (a ≡ b)
limits_end m.absent m.absent n k a b p q e = let r = uleb_ends n k a b (cons_is _ _ _ _ e).1 in (refl, r.0, r.1)
limits_end m.absent (m.present y) n k a b p q e = absurd (clash _ _ _ _ e (λ h. omega (arith, h)))
limits_end (m.present x) m.absent n k a b p q e = absurd (clash _ _ _ _ e (λ h. omega (arith, h)))
limits_end (m.present (m.number x)) (m.present (m.number y)) n k a b p q e =
    let r = uleb_ends n k (uleb x ++ a) (uleb y ++ b) (cons_is _ _ _ _ e).1 in
    let s = uleb_ends x y a b r.1 in
    (ap (λ z. m.present (m.number z)) s.0, r.0, s.1)
limits_end (m.present x) (m.present (m.number y)) n k a b p q e = absurd p
limits_end (m.present x) (m.present y) n k a b p q e = absurd q
limits_end x m.absent n k a b p q e = absurd p
limits_end m.absent y n k a b p q e = absurd q
limits_end (m.present x) y n k a b p q e = absurd q
limits_end x y n k a b p q e = absurd p

-- an outer alias: the sort gives the space of the index
pub outer_end : (s u : Space) (n k i j : ℕ) (a b : List ℕ) → sort_bytes s ++ 0x02 ∷ (uleb n ++ (uleb i ++ a)) ≡ sort_bytes u ++ 0x02 ∷ (uleb k ++ (uleb j ++ b)) → (s ≡ u) × (n ≡ k) × (i ≡ j) × (a ≡ b)
outer_end s u n k i j a b e =
    let first = sort_ends s u (0x02 ∷ (uleb n ++ (uleb i ++ a))) (0x02 ∷ (uleb k ++ (uleb j ++ b))) e in
    let second = uleb_ends n k (uleb i ++ a) (uleb j ++ b) (cons_is _ _ _ _ first.1).1 in
    let third = uleb_ends i j a b second.1 in
    (first.0, second.0, third.0, third.1)
