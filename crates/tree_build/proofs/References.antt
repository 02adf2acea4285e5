-- Leaves that are references, in the form in which an alias and a core value type hold them.
use Rattle.std.proofs.Common.{◌≡◌, ℕ, zero, suc, ◌+◌, ◌-◌, List, [], ◌∷◌, ◌++◌, length, map, take, drop, Bool, true, false, refl, ap, sym, subst, ◌∙◌, arith, get_or, slice_set, Option, Some, None, inl, inr, ◌⊎◌}
use Rattle.std.specs.Prelude.{option_map, is_some}
use Rattle.std.proofs.lemmas.List.{length-map}
use Rattle.comp_model.specs.declared.Space.{Space}
use Rattle.comp_model.specs.Core.{Place}
use Rattle.comp_model.specs.Model as m
use Rattle.text_rules.specs.Made.{Made, join, front, behind, heap_of, first_place}
use Rattle.text_rules.specs.Makes as makes
use Rattle.text_rules.specs.Makes.{alias_leaves, at_place}
use Rattle.tree_build.specs.References.{target_in, kind_in}
use Rattle.tree_build.proofs.Slices.{drop_map}
use Rattle.tree_build.proofs.Wrapping.{rejoined, leaves_made}

-- ---- what an option is of another

pub some_of : {A B : Type 0} (f : A → B) (r : Option B) (y : Option A) (b : B) → r ≡ option_map f y → r ≡ Some b → (a : A) × ((y ≡ Some a) × (b ≡ f a))
some_of f r None b h e = absurd (let z = sym e ∙ h in cc)
some_of f r (Some a) b h e = (a, (refl, let z = sym e ∙ h in cc))

pub none_of : {A B : Type 0} (f : A → B) (r : Option B) (y : Option A) → r ≡ option_map f y → r ≡ None → y ≡ None
none_of f r None h e = refl
none_of f r (Some a) h e = absurd (let z = sym e ∙ h in cc)

-- ---- references

pub ref_is : (x : m.Leaf) (t : m.Target) → target_in x ≡ Some t → (u : Space) × (x ≡ m.ref u t)
ref_is (m.ref u s) t h = (u, ap (m.ref u) cc)
ref_is (m.text q) t h = absurd (cc)
ref_is (m.number q) t h = absurd (cc)
ref_is (m.kind q) t h = absurd (cc)
ref_is (m.core_value q) t h = absurd (cc)
ref_is (m.place q) t h = absurd (cc)
ref_is m.absent t h = absurd (cc)
ref_is (m.present q) t h = absurd (cc)
ref_is (m.node q) t h = absurd (cc)
ref_is (m.nodes q) t h = absurd (cc)
ref_is (m.case_id q) t h = absurd (cc)
ref_is (m.result_ids q) t h = absurd (cc)
ref_is (m.result_count q) t h = absurd (cc)
ref_is (m.core_source q) t h = absurd (cc)
ref_is (m.module_bytes q) t h = absurd (cc)
ref_is (m.scope q) t h = absurd (cc)

pub kind_is : (x : m.Leaf) (k : Space) → kind_in x ≡ Some k → x ≡ m.kind k
kind_is (m.kind u) k h = ap m.kind cc
kind_is (m.text q) k h = absurd (cc)
kind_is (m.number q) k h = absurd (cc)
kind_is (m.core_value q) k h = absurd (cc)
kind_is (m.place q) k h = absurd (cc)
kind_is m.absent k h = absurd (cc)
kind_is (m.present q) k h = absurd (cc)
kind_is (m.node q) k h = absurd (cc)
kind_is (m.nodes q) k h = absurd (cc)
kind_is (m.case_id q) k h = absurd (cc)
kind_is (m.result_ids q) k h = absurd (cc)
kind_is (m.result_count q) k h = absurd (cc)
kind_is (m.core_source q) k h = absurd (cc)
kind_is (m.module_bytes q) k h = absurd (cc)
kind_is (m.scope q) k h = absurd (cc)
kind_is (m.ref u t) k h = absurd (cc)

-- a leaf is no reference, or one
ref_or : (x : m.Leaf) → (target_in x ≡ None) ⊎ ((u : Space) × ((t : m.Target) × (x ≡ m.ref u t)))
ref_or (m.ref u t) = inr (u, (t, refl))
ref_or (m.text q) = inl refl
ref_or (m.number q) = inl refl
ref_or (m.kind q) = inl refl
ref_or (m.core_value q) = inl refl
ref_or (m.place q) = inl refl
ref_or m.absent = inl refl
ref_or (m.present q) = inl refl
ref_or (m.node q) = inl refl
ref_or (m.nodes q) = inl refl
ref_or (m.case_id q) = inl refl
ref_or (m.result_ids q) = inl refl
ref_or (m.result_count q) = inl refl
ref_or (m.core_source q) = inl refl
ref_or (m.module_bytes q) = inl refl
ref_or (m.scope q) = inl refl

kind_or : (x : m.Leaf) → (kind_in x ≡ None) ⊎ ((k : Space) × (x ≡ m.kind k))
kind_or (m.kind k) = inr (k, refl)
kind_or (m.text q) = inl refl
kind_or (m.number q) = inl refl
kind_or (m.core_value q) = inl refl
kind_or (m.place q) = inl refl
kind_or m.absent = inl refl
kind_or (m.present q) = inl refl
kind_or (m.node q) = inl refl
kind_or (m.nodes q) = inl refl
kind_or (m.case_id q) = inl refl
kind_or (m.result_ids q) = inl refl
kind_or (m.result_count q) = inl refl
kind_or (m.core_source q) = inl refl
kind_or (m.module_bytes q) = inl refl
kind_or (m.scope q) = inl refl
kind_or (m.ref u t) = inl refl

-- ---- aliases

no_first : (o : ℕ) (x : m.Leaf) (ls : List m.Leaf) → target_in x ≡ None → alias_leaves o (x ∷ ls) ≡ x ∷ ls
no_first o (m.ref u t) ls h = absurd (cc)
no_first o (m.text q) ls h = refl
no_first o (m.number q) ls h = refl
no_first o (m.kind q) ls h = refl
no_first o (m.core_value q) ls h = refl
no_first o (m.place q) ls h = refl
no_first o m.absent ls h = refl
no_first o (m.present q) ls h = refl
no_first o (m.node q) ls h = refl
no_first o (m.nodes q) ls h = refl
no_first o (m.case_id q) ls h = refl
no_first o (m.result_ids q) ls h = refl
no_first o (m.result_count q) ls h = refl
no_first o (m.core_source q) ls h = refl
no_first o (m.module_bytes q) ls h = refl
no_first o (m.scope q) ls h = refl

no_second : (o : ℕ) (u : Space) (s : m.Target) (x : m.Leaf) (ls : List m.Leaf) → target_in x ≡ None → alias_leaves o (m.ref u s ∷ x ∷ ls) ≡ m.ref u s ∷ x ∷ ls
no_second o u s (m.ref v t) ls h = absurd (cc)
no_second o u s (m.text q) ls h = refl
no_second o u s (m.number q) ls h = refl
no_second o u s (m.kind q) ls h = refl
no_second o u s (m.core_value q) ls h = refl
no_second o u s (m.place q) ls h = refl
no_second o u s m.absent ls h = refl
no_second o u s (m.present q) ls h = refl
no_second o u s (m.node q) ls h = refl
no_second o u s (m.nodes q) ls h = refl
no_second o u s (m.case_id q) ls h = refl
no_second o u s (m.result_ids q) ls h = refl
no_second o u s (m.result_count q) ls h = refl
no_second o u s (m.core_source q) ls h = refl
no_second o u s (m.module_bytes q) ls h = refl
no_second o u s (m.scope q) ls h = refl

no_third : (o : ℕ) (u v : Space) (s t : m.Target) (x : m.Leaf) (ls : List m.Leaf) → kind_in x ≡ None → alias_leaves o (m.ref u s ∷ m.ref v t ∷ x ∷ ls) ≡ m.ref u s ∷ m.ref v t ∷ x ∷ ls
no_third o u v s t (m.kind k) ls h = absurd (cc)
no_third o u v s t (m.text q) ls h = refl
no_third o u v s t (m.number q) ls h = refl
no_third o u v s t (m.core_value q) ls h = refl
no_third o u v s t (m.place q) ls h = refl
no_third o u v s t m.absent ls h = refl
no_third o u v s t (m.present q) ls h = refl
no_third o u v s t (m.node q) ls h = refl
no_third o u v s t (m.nodes q) ls h = refl
no_third o u v s t (m.case_id q) ls h = refl
no_third o u v s t (m.result_ids q) ls h = refl
no_third o u v s t (m.result_count q) ls h = refl
no_third o u v s t (m.core_source q) ls h = refl
no_third o u v s t (m.module_bytes q) ls h = refl
no_third o u v s t (m.scope q) ls h = refl
no_third o u v s t (m.ref w r) ls h = refl

-- an alias whose first two parts aren't both references stays as it is
pub no_scope : (o : ℕ) (x y z : m.Leaf) → target_in x ≡ None → x ∷ y ∷ z ∷ [] ≡ alias_leaves o (x ∷ y ∷ z ∷ [])
no_scope o x y z h = sym (no_first o x (y ∷ z ∷ []) h)

pub no_item : (o : ℕ) (x y z : m.Leaf) (s : m.Target) → target_in x ≡ Some s → target_in y ≡ None → x ∷ y ∷ z ∷ [] ≡ alias_leaves o (x ∷ y ∷ z ∷ [])
no_item o x y z s h k =
    let r = ref_is x s h in
    subst (λ w. w ∷ y ∷ z ∷ [] ≡ alias_leaves o (w ∷ y ∷ z ∷ [])) (sym r.1) (sym (no_second o r.0 s y (z ∷ []) k))

pub alias_made : (o : ℕ) (p : Place) (x y y' z : m.Leaf) (k : Space) (s t : m.Target) → kind_in z ≡ Some k → target_in x ≡ Some s → target_in y ≡ Some t → p ≡ makes.place_of o s
    → ((u : Space) (q : m.Target) → y ≡ m.ref u q → y' ≡ m.ref k (at_place p q)) → m.place p ∷ y' ∷ z ∷ [] ≡ alias_leaves o (x ∷ y ∷ z ∷ [])
alias_made o p x y y' z k s t hz hx hy e h =
    let rx = ref_is x s hx in
    let ry = ref_is y t hy in
    let rz = kind_is z k hz in
    ap (λ w. m.place p ∷ w ∷ z ∷ []) (h ry.0 t ry.1)
    ∙ (ap (λ w. m.place p ∷ m.ref k (at_place p t) ∷ w ∷ []) rz
    ∙ (ap (λ q. m.place q ∷ m.ref k (at_place q t) ∷ m.kind k ∷ []) e
    ∙ sym (ap (λ w. alias_leaves o (w ∷ y ∷ z ∷ [])) rx.1 ∙ (ap (λ w. alias_leaves o (m.ref rx.0 s ∷ w ∷ z ∷ [])) ry.1 ∙ ap (λ w. alias_leaves o (m.ref rx.0 s ∷ m.ref ry.0 t ∷ w ∷ [])) rz))))

-- and so does one whose third part is no kind
kindless_second : (o : ℕ) (u : Space) (s : m.Target) (y z : m.Leaf) → (target_in y ≡ None) ⊎ ((v : Space) × ((t : m.Target) × (y ≡ m.ref v t))) → kind_in z ≡ None → alias_leaves o (m.ref u s ∷ y ∷ z ∷ []) ≡ m.ref u s ∷ y ∷ z ∷ []
kindless_second o u s y z (inl e) h = no_second o u s y (z ∷ []) e
kindless_second o u s y z (inr r) h = subst (λ q. alias_leaves o (m.ref u s ∷ q ∷ z ∷ []) ≡ m.ref u s ∷ q ∷ z ∷ []) (sym r.1.1) (no_third o u r.0 s r.1.0 z [] h)

kindless : (o : ℕ) (x y z : m.Leaf) → (target_in x ≡ None) ⊎ ((u : Space) × ((s : m.Target) × (x ≡ m.ref u s))) → kind_in z ≡ None → alias_leaves o (x ∷ y ∷ z ∷ []) ≡ x ∷ y ∷ z ∷ []
kindless o x y z (inl e) h = no_first o x (y ∷ z ∷ []) e
kindless o x y z (inr r) h = subst (λ q. alias_leaves o (q ∷ y ∷ z ∷ []) ≡ q ∷ y ∷ z ∷ []) (sym r.1.1) (kindless_second o r.0 r.1.0 y z (ref_or y) h)

pub no_kind : (o : ℕ) (x y z : m.Leaf) → kind_in z ≡ None → x ∷ y ∷ z ∷ [] ≡ alias_leaves o (x ∷ y ∷ z ∷ [])
no_kind o x y z h = sym (kindless o x y z (ref_or x) h)

third : (o : ℕ) (u v : Space) (s t : m.Target) (z : m.Leaf) (ls : List m.Leaf) → (kind_in z ≡ None) ⊎ ((k : Space) × (z ≡ m.kind k)) → (length ls ≡ 0 → ⊥) → alias_leaves o (m.ref u s ∷ m.ref v t ∷ z ∷ ls) ≡ m.ref u s ∷ m.ref v t ∷ z ∷ ls
third o u v s t z ls (inl e) h = no_third o u v s t z ls e
third o u v s t z [] (inr r) h = absurd (h refl)
third o u v s t z (w ∷ ls) (inr r) h = subst (λ q. alias_leaves o (m.ref u s ∷ m.ref v t ∷ q ∷ w ∷ ls) ≡ m.ref u s ∷ m.ref v t ∷ q ∷ w ∷ ls) (sym r.1) refl

second : (o : ℕ) (u : Space) (s : m.Target) (y : m.Leaf) (ls : List m.Leaf) → (target_in y ≡ None) ⊎ ((v : Space) × ((t : m.Target) × (y ≡ m.ref v t))) → (length ls ≡ 1 → ⊥) → alias_leaves o (m.ref u s ∷ y ∷ ls) ≡ m.ref u s ∷ y ∷ ls
second o u s y ls (inl e) h = no_second o u s y ls e
second o u s y [] (inr r) h = subst (λ q. alias_leaves o (m.ref u s ∷ q ∷ []) ≡ m.ref u s ∷ q ∷ []) (sym r.1.1) refl
second o u s y (z ∷ ls) (inr r) h = subst (λ q. alias_leaves o (m.ref u s ∷ q ∷ z ∷ ls) ≡ m.ref u s ∷ q ∷ z ∷ ls) (sym r.1.1) (third o u r.0 s r.1.0 z ls (kind_or z) (λ e. h (ap suc e)))

first : (o : ℕ) (x : m.Leaf) (ls : List m.Leaf) → (target_in x ≡ None) ⊎ ((u : Space) × ((s : m.Target) × (x ≡ m.ref u s))) → (length ls ≡ 2 → ⊥) → alias_leaves o (x ∷ ls) ≡ x ∷ ls
first o x ls (inl e) h = no_first o x ls e
first o x [] (inr r) h = subst (λ q. alias_leaves o (q ∷ []) ≡ q ∷ []) (sym r.1.1) refl
first o x (y ∷ ls) (inr r) h = subst (λ q. alias_leaves o (q ∷ y ∷ ls) ≡ q ∷ y ∷ ls) (sym r.1.1) (second o r.0 r.1.0 y ls (ref_or y) (λ e. h (ap suc e)))

no_alias : (o : ℕ) (ls : List m.Leaf) → (length ls ≡ 3 → ⊥) → alias_leaves o ls ≡ ls
no_alias o [] h = refl
no_alias o (x ∷ ls) h = first o x ls (ref_or x) (λ e. h (ap suc e))

-- ---- core value types

several : (b : Bool) (u : Space) (t : m.Target) (y : m.Leaf) (ls : List m.Leaf) → heap_of b (m.ref u t ∷ y ∷ ls) ≡ m.ref u t ∷ y ∷ ls
several b u (m.index n) y ls = refl
several b u (m.numeral o n) y ls = refl
several b u (m.name r x) y ls = refl
several b u (m.path p) y ls = refl
several b u (m.inline n) y ls = refl
several b u (m.bundle n) y ls = refl

no_heap : (b : Bool) (ls : List m.Leaf) → (length ls ≡ 1 → ⊥) → heap_of b ls ≡ ls
no_heap b [] h = refl
no_heap b (x ∷ []) h = absurd (h refl)
no_heap b (m.ref u t ∷ y ∷ ls) h = several b u t y ls
no_heap b (m.text q ∷ y ∷ ls) h = refl
no_heap b (m.number q ∷ y ∷ ls) h = refl
no_heap b (m.kind q ∷ y ∷ ls) h = refl
no_heap b (m.core_value q ∷ y ∷ ls) h = refl
no_heap b (m.place q ∷ y ∷ ls) h = refl
no_heap b (m.absent ∷ y ∷ ls) h = refl
no_heap b (m.present q ∷ y ∷ ls) h = refl
no_heap b (m.node q ∷ y ∷ ls) h = refl
no_heap b (m.nodes q ∷ y ∷ ls) h = refl
no_heap b (m.case_id q ∷ y ∷ ls) h = refl
no_heap b (m.result_ids q ∷ y ∷ ls) h = refl
no_heap b (m.result_count q ∷ y ∷ ls) h = refl
no_heap b (m.core_source q ∷ y ∷ ls) h = refl
no_heap b (m.module_bytes q ∷ y ∷ ls) h = refl
no_heap b (m.scope q ∷ y ∷ ls) h = refl

-- ---- leaves behind an end

-- what is made of other leaves in their place
pub made_of : {A : Type 0} (f : A → m.Leaf) (g : List m.Leaf → List m.Leaf) (n : ℕ) (xs ys : List A) (h a : Made) → h.leaves ≡ map f xs → length a.leaves ≡ n → map f ys ≡ take n (map f xs) ++ g (drop n (map f xs))
    → record h { leaves = map f ys } ≡ join (front a h) (record (behind a h) { leaves = g (behind a h).leaves })
made_of f g n xs ys h a k l e =
    ap (λ ls. record h { leaves = ls }) (e ∙ (ap (λ ls. take n ls ++ g (drop n ls)) (sym k) ∙ ap (λ j. take j h.leaves ++ g (drop j h.leaves)) (sym l)))
    ∙ sym (leaves_made a h (g (behind a h).leaves))

-- nothing is made of them
pub left_as : {A : Type 0} (f : A → m.Leaf) (g : List m.Leaf → List m.Leaf) (k : ℕ) (n : ℕ) (xs : List A) (h a : Made) → ((ls : List m.Leaf) → (length ls ≡ k → ⊥) → g ls ≡ ls) → h.leaves ≡ map f xs → length a.leaves ≡ n → (length (drop n xs) ≡ k → ⊥)
    → h ≡ join (front a h) (record (behind a h) { leaves = g (behind a h).leaves })
left_as f g k n xs h a w e l t =
    sym (rejoined a h)
    ∙ ap (λ ls. join (front a h) (record (behind a h) { leaves = ls })) (sym (w (behind a h).leaves (λ z. t (sym (length-map (drop n xs) f) ∙ (ap length (drop_map f n xs ∙ (ap (λ j. drop j (map f xs)) (sym l) ∙ ap (drop (length a.leaves)) (sym e))) ∙ z)))))

pub left_alias : {A : Type 0} (f : A → m.Leaf) (n : ℕ) (xs : List A) (h a : Made) → h.leaves ≡ map f xs → length a.leaves ≡ n → (length (drop n xs) ≡ 3 → ⊥)
    → h ≡ join (front a h) (record (behind a h) { leaves = alias_leaves (first_place (behind a h).places) (behind a h).leaves })
left_alias f n xs h a e l t = left_as f (alias_leaves (first_place (behind a h).places)) 3 n xs h a (no_alias (first_place (behind a h).places)) e l t

pub left_heap : {A : Type 0} (f : A → m.Leaf) (b : Bool) (n : ℕ) (xs : List A) (h a : Made) → h.leaves ≡ map f xs → length a.leaves ≡ n → (length (drop n xs) ≡ 1 → ⊥)
    → h ≡ join (front a h) (record (behind a h) { leaves = heap_of b (behind a h).leaves })
left_heap f b n xs h a e l t = left_as f (heap_of b) 1 n xs h a (no_heap b) e l t

-- one leaf in the place of another
pub one_set : {A : Type 0} (f : A → m.Leaf) (g : List m.Leaf → List m.Leaf) (n : ℕ) (xs : List A) (d y : A) → length xs ≡ n + 1 → f y ∷ [] ≡ g (f (get_or xs n d) ∷ []) → map f (slice_set xs n y) ≡ take n (map f xs) ++ g (drop n (map f xs))
one_set f g n [] d y h e = absurd (omega (arith, h))
one_set f g zero (x ∷ []) d y h e = e
one_set f g zero (x ∷ z ∷ xs) d y h e = absurd (omega (arith, h))
one_set f g (suc n) (x ∷ xs) d y h e = ap (λ ls. f x ∷ ls) (one_set f g n xs d y (omega (arith, h)) e)

two_at : {A : Type 0} (f : A → m.Leaf) (g : List m.Leaf → List m.Leaf) (n : ℕ) (xs : List A) (b c d y z : A) → length xs ≡ n + 3
    → f y ∷ f z ∷ f (get_or xs (suc (suc n)) d) ∷ [] ≡ g (f (get_or xs n b) ∷ f (get_or xs (suc n) c) ∷ f (get_or xs (suc (suc n)) d) ∷ [])
    → map f (slice_set (slice_set xs n y) (suc n) z) ≡ take n (map f xs) ++ g (drop n (map f xs))
two_at f g n [] b c d y z h e = absurd (omega (arith, h))
two_at f g zero (u ∷ []) b c d y z h e = absurd (omega (arith, h))
two_at f g zero (u ∷ v ∷ []) b c d y z h e = absurd (omega (arith, h))
two_at f g zero (u ∷ v ∷ w ∷ []) b c d y z h e = e
two_at f g zero (u ∷ v ∷ w ∷ x ∷ xs) b c d y z h e = absurd (omega (arith, h))
two_at f g (suc n) (x ∷ xs) b c d y z h e = ap (λ ls. f x ∷ ls) (two_at f g n xs b c d y z (omega (arith, h)) e)

-- the first two of three in the place of others
pub two_set : {A : Type 0} (f : A → m.Leaf) (g : List m.Leaf → List m.Leaf) (n : ℕ) (xs : List A) (b c d y z : A) → length xs ≡ n + 3 → b ≡ get_or xs n b → c ≡ get_or xs (n + 1) c → d ≡ get_or xs (n + 2) d
    → f y ∷ f z ∷ f d ∷ [] ≡ g (f b ∷ f c ∷ f d ∷ []) → map f (slice_set (slice_set xs n y) (n + 1) z) ≡ take n (map f xs) ++ g (drop n (map f xs))
two_set f g n xs b c d y z h eb ec ed e =
    let p : n + 1 ≡ suc n = omega arith in
    let q : n + 2 ≡ suc (suc n) = omega arith in
    let c' : c ≡ get_or xs (suc n) c = ec ∙ ap (λ k. get_or xs k c) p in
    let d' : d ≡ get_or xs (suc (suc n)) d = ed ∙ ap (λ k. get_or xs k d) q in
    ap (λ k. map f (slice_set (slice_set xs n y) k z)) p
    ∙ two_at f g n xs b c d y z h
    (ap (λ w. f y ∷ f z ∷ f w ∷ []) (sym d') ∙ (e ∙ (ap (λ w. g (f w ∷ f c ∷ f d ∷ [])) eb ∙ (ap (λ w. g (f (get_or xs n b) ∷ f w ∷ f d ∷ [])) c' ∙ ap (λ w. g (f (get_or xs n b) ∷ f (get_or xs (suc n) c) ∷ f w ∷ [])) d'))))

-- ---- whether an option is there

pub isnt_there : {A : Type 0} (r : Option A) → is_some r ≡ false → r ≡ None
isnt_there None h = refl
isnt_there (Some x) h = absurd (cc)

pub is_there : {A : Type 0} (r : Option A) → is_some r ≡ true → (x : A) × (r ≡ Some x)
is_there None h = absurd (cc)
is_there (Some x) h = (x, refl)
