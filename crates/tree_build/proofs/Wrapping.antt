-- What is rarely made of loose parts.
use Rattle.std.proofs.Common.{◌≡◌, ℕ, zero, suc, ◌+◌, ◌-◌, ◌≤◌, List, [], ◌∷◌, ◌++◌, length, map, take, drop, Bool, true, false, cond, refl, ap, sym, subst, ◌∙◌, arith, append_assoc, get_or, slice_set, Result, Ok, Err, Option}
use Rattle.std.specs.List.{swap, insert}
use Rattle.std.proofs.lemmas.List.{take-append-drop, take-append-le, drop-append-le, length-map, take_rest}
use Rattle.comp_model.specs.CoreModules.{CoreModule, Field}
use Rattle.comp_model.specs.Model as m
use Rattle.comp_model.specs.Core as core
use Rattle.text_rules.specs.Made.{Made, empty, join, front, behind, in_front, turned}
use Rattle.text_rules.specs.Makes as makes
use Rattle.text_rules.specs.Makes.{a_leaf, wrapped}
use Rattle.text_rules.specs.Rule.{Wraps, results}
use Rattle.tree_build.specs.Held.{held}
use Rattle.tree_build.specs.Adds.{Adds, MakesOf}
use Rattle.tree_build.specs.AllEnds.{IsAtEnds}
use Rattle.tree_build.specs.Rare.{Cut}
use Rattle.tree_build.specs.declared.rare.Ends.{Ends}
use Rattle.tree_build.specs.declared.scratch.Scratch.{Scratch}
use Rattle.tree_build.proofs.Prefixes.{append_nil, map_more}
use Rattle.tree_build.proofs.Slices.{take_map, drop_map, take_all}

-- ---- all loose parts

pub same_made : (x y : Made) → x.rows ≡ y.rows → x.leaves ≡ y.leaves → x.nodes ≡ y.nodes → x.ids ≡ y.ids → x.labels ≡ y.labels → x.exports ≡ y.exports → x.places ≡ y.places → x.defs ≡ y.defs → x ≡ y
same_made x y a b c d e f g h =
    ap (λ z. record x { rows = z }) a
    ∙ (ap (λ z. record x { rows = y.rows; leaves = z }) b
    ∙ (ap (λ z. record x { rows = y.rows; leaves = y.leaves; nodes = z }) c
    ∙ (ap (λ z. record x { rows = y.rows; leaves = y.leaves; nodes = y.nodes; ids = z }) d
    ∙ (ap (λ z. record y { labels = z; exports = x.exports; places = x.places; defs = x.defs }) e
    ∙ (ap (λ z. record y { exports = z; places = x.places; defs = x.defs }) f
    ∙ (ap (λ z. record y { places = z; defs = x.defs }) g ∙ ap (λ z. record y { defs = z }) h))))))

pub rejoined : (a h : Made) → join (front a h) (behind a h) ≡ h
rejoined a h = simp take-append-drop

-- what is made of leaves alone
pub leaves_made : (a h : Made) (ls : List m.Leaf) → join (front a h) (record (behind a h) { leaves = ls }) ≡ record h { leaves = take (length a.leaves) h.leaves ++ ls }
leaves_made a h ls = simp take-append-drop

-- one leaf behind all parts
pub leaf_behind : (h : Made) (x : m.Leaf) → join h (a_leaf x) ≡ record h { leaves = h.leaves ++ (x ∷ []) }
leaf_behind h x = simp append_nil

pub then_leaf : (a h : Made) (x : m.Leaf) → join h (a_leaf x) ≡ join (front a h) (record (behind a h) { leaves = (behind a h).leaves ++ (x ∷ []) })
then_leaf a h x =
    leaf_behind h x
    ∙ (ap (λ ls. record h { leaves = ls }) (ap (λ ls. ls ++ (x ∷ [])) (sym (take-append-drop (length a.leaves) h.leaves)) ∙ append_assoc (take (length a.leaves) h.leaves) (drop (length a.leaves) h.leaves) (x ∷ []))
    ∙ sym (leaves_made a h ((behind a h).leaves ++ (x ∷ []))))

-- what was added is what is made
pub adds_made : {X E : Type 0} (r : Result X E) (w : Wraps) (At : Made → Type 0) (p q : Scratch) (f : List (List Field) → List CoreModule → Made)
    → ((fs : List (List Field)) (cs : List CoreModule) (a : Made) → At a → join (held fs cs p) (f fs cs) ≡ join (front a (held fs cs p)) (wrapped w (behind a (held fs cs p)))) → Adds r p q f → MakesOf w At r p q
adds_made (Ok x) w At p q f e h = (h.0, λ fs cs z a k. h.1 fs cs z ∙ e fs cs a k)
adds_made (Err x) w At p q f e h = tt

-- ---- what is cut off

cut_off : {A B C : Type 0} (f : A → B) (n : ℕ) (zs : List C) (xs ys : List A) → length zs ≡ n → ys ≡ take n xs → map f ys ≡ take (length zs) (map f xs) ++ []
cut_off f n zs xs ys l e = ap (map f) e ∙ (take_map f n xs ∙ (ap (λ k. take k (map f xs)) (sym l) ∙ sym (append_nil (take (length zs) (map f xs)))))

cut_here : {A C : Type 0} (n : ℕ) (zs : List C) (xs ys : List A) → length zs ≡ n → ys ≡ take n xs → ys ≡ take (length zs) xs ++ []
cut_here n zs xs ys l e = e ∙ (ap (λ k. take k xs) (sym l) ∙ sym (append_nil (take (length zs) xs)))

pub cut_made : (fs : List (List Field)) (cs : List CoreModule) (n : Ends) (p q : Scratch) (a : Made) → IsAtEnds n a → Cut n p q → held fs cs q ≡ join (front a (held fs cs p)) empty
cut_made fs cs n p q a l e = same_made (held fs cs q) (join (front a (held fs cs p)) empty)
    (cut_here n.rows a.rows p.rows.items q.rows.items l.rows e.rows)
    (cut_off _ n.leaves a.leaves p.leaves.items q.leaves.items l.leaves e.leaves)
    (cut_off _ n.nodes a.nodes p.nodes.items q.nodes.items l.nodes e.nodes)
    (cut_off _ n.ids a.ids p.ids.items q.ids.items l.ids e.ids)
    (cut_off _ n.labels a.labels p.labels.items q.labels.items l.labels e.labels)
    (cut_off _ n.exports a.exports p.exports.items q.exports.items l.exports e.exports)
    (cut_here n.places a.places p.places.items q.places.items l.places e.places)
    (cut_off _ n.defs a.defs p.defs.items q.defs.items l.defs e.defs)

-- all but the rows
pub rows_left : (fs : List (List Field)) (cs : List CoreModule) (n : Ends) (k : ℕ) (p q : Scratch) (a : Made) → IsAtEnds n a → length p.rows.items ≤ k → Cut (record n { rows = k }) p q
    → held fs cs q ≡ join (front a (held fs cs p)) (record empty { rows = (behind a (held fs cs p)).rows })
rows_left fs cs n k p q a l g e = same_made (held fs cs q) (join (front a (held fs cs p)) (record empty { rows = (behind a (held fs cs p)).rows }))
    ((e.rows ∙ take_all k p.rows.items g) ∙ sym (take-append-drop (length a.rows) p.rows.items))
    (cut_off _ n.leaves a.leaves p.leaves.items q.leaves.items l.leaves e.leaves)
    (cut_off _ n.nodes a.nodes p.nodes.items q.nodes.items l.nodes e.nodes)
    (cut_off _ n.ids a.ids p.ids.items q.ids.items l.ids e.ids)
    (cut_off _ n.labels a.labels p.labels.items q.labels.items l.labels e.labels)
    (cut_off _ n.exports a.exports p.exports.items q.exports.items l.exports e.exports)
    (cut_here n.places a.places p.places.items q.places.items l.places e.places)
    (cut_off _ n.defs a.defs p.defs.items q.defs.items l.defs e.defs)

pub chosen : {A : Type 0} (b : Bool) (x y : A) → b ≡ true → cond b x y ≡ x
chosen true x y h = refl
chosen false x y h = absurd (cc)

pub other : {A : Type 0} (b : Bool) (x y : A) → b ≡ false → cond b x y ≡ y
other false x y h = refl
other true x y h = absurd (cc)

-- a test of what stands behind an end, by parts that have it
pub test_behind : {A C : Type 0} (g : List A → Bool) (n : ℕ) (zs : List C) (xs ys : List A) (b : Bool) → length zs ≡ n → ys ≡ xs → b ≡ g (drop n ys) → g (drop (length zs) xs) ≡ b
test_behind g n zs xs ys b l e h = sym (h ∙ ap g (ap (drop n) e ∙ ap (λ k. drop k xs) (sym l)))

-- ---- leaves in another order

swapped_at : {A : Type 0} (f : A → m.Leaf) (d : A) (n : ℕ) (xs : List A) → length xs ≡ n + 3
    → map f (slice_set (slice_set xs (suc n) (get_or xs (suc (suc n)) d)) (suc (suc n)) (get_or xs (suc n) d)) ≡ take n (map f xs) ++ makes.swap (drop n (map f xs))
swapped_at f d n [] h = absurd (omega (arith, h))
swapped_at f d zero (x ∷ []) h = absurd (omega (arith, h))
swapped_at f d zero (x ∷ y ∷ []) h = absurd (omega (arith, h))
swapped_at f d zero (x ∷ y ∷ z ∷ []) h = refl
swapped_at f d zero (x ∷ y ∷ z ∷ w ∷ xs) h = absurd (omega (arith, h))
swapped_at f d (suc n) (x ∷ xs) h = ap (λ ls. f x ∷ ls) (swapped_at f d n xs (omega (arith, h)))

swapped_leaves : {A : Type 0} (f : A → m.Leaf) (n i j : ℕ) (xs : List A) → length xs ≡ n + 3 → i ≡ suc n → j ≡ suc (suc n) → map f (swap xs i j) ≡ take n (map f xs) ++ makes.swap (drop n (map f xs))
swapped_leaves f n i j [] h e g = absurd (omega (arith, h))
swapped_leaves f n i j (d ∷ xs) h e g = ap (λ k. map f (swap (d ∷ xs) k j)) e ∙ (ap (λ k. map f (swap (d ∷ xs) (suc n) k)) g ∙ swapped_at f d n (d ∷ xs) h)

pub swapped_held : {A : Type 0} (f : A → m.Leaf) (n : ℕ) (xs ys : List A) (h a : Made) → h.leaves ≡ map f xs → length a.leaves ≡ n → n ≤ length xs → length xs - n ≡ 3 → ys ≡ swap xs (n + 1) (n + 2)
    → record h { leaves = map f ys } ≡ join (front a h) (record (behind a h) { leaves = makes.swap (behind a h).leaves })
swapped_held f n xs ys h a k l b t e =
    ap (λ ls. record h { leaves = ls })
    (ap (map f) e
    ∙ (swapped_leaves f n (n + 1) (n + 2) xs (omega (arith, b, t)) (omega arith) (omega arith)
    ∙ (ap (λ ls. take n ls ++ makes.swap (drop n ls)) (sym k) ∙ ap (λ j. take j h.leaves ++ makes.swap (drop j h.leaves)) (sym l))))
    ∙ sym (leaves_made a h (makes.swap (behind a h).leaves))

not_three : (ls : List m.Leaf) → (length ls ≡ 3 → ⊥) → makes.swap ls ≡ ls
not_three [] h = refl
not_three (x ∷ []) h = refl
not_three (x ∷ y ∷ []) h = refl
not_three (x ∷ y ∷ z ∷ []) h = absurd (h refl)
not_three (x ∷ y ∷ z ∷ w ∷ ls) h = refl

pub not_swapped : {A : Type 0} (f : A → m.Leaf) (n : ℕ) (xs : List A) (h a : Made) → h.leaves ≡ map f xs → length a.leaves ≡ n → (length (drop n xs) ≡ 3 → ⊥) → h ≡ join (front a h) (record (behind a h) { leaves = makes.swap (behind a h).leaves })
not_swapped f n xs h a k l t =
    sym (rejoined a h)
    ∙ ap (λ ls. join (front a h) (record (behind a h) { leaves = ls })) (sym (not_three (behind a h).leaves (λ e. t (sym (length-map (drop n xs) f) ∙ (ap length (drop_map f n xs ∙ (ap (λ j. drop j (map f xs)) (sym l) ∙ ap (drop (length a.leaves)) (sym k))) ∙ e)))))

in_front_last : (y : m.Leaf) (zs : List m.Leaf) (x : m.Leaf) (seen : List m.Leaf) → in_front y (zs ++ (x ∷ [])) seen ≡ x ∷ (seen ++ (y ∷ zs))
in_front_last y [] x seen = refl
in_front_last y (z ∷ zs) x seen = in_front_last z zs x (seen ++ (y ∷ [])) ∙ ap (λ ls. x ∷ ls) (append_assoc seen (y ∷ []) (z ∷ zs))

turned_last : (zs : List m.Leaf) (x : m.Leaf) → turned (zs ++ (x ∷ [])) ≡ x ∷ zs
turned_last [] x = refl
turned_last (z ∷ zs) x = in_front_last z zs x []

pub turned_held : {A : Type 0} (f : A → m.Leaf) (n : ℕ) (xs ys zs : List A) (x : A) (h a : Made) → h.leaves ≡ map f xs → length a.leaves ≡ n → xs ≡ ys ++ (x ∷ []) → n ≤ length ys → zs ≡ insert ys n x
    → record h { leaves = map f zs } ≡ join (front a h) (record (behind a h) { leaves = turned (behind a h).leaves })
turned_held f n xs ys zs x h a k l e b t =
    let le : n ≤ length (map f ys) = subst (λ j. n ≤ j) (sym (length-map ys f)) b in
    let new : h.leaves ≡ map f ys ++ (f x ∷ []) = k ∙ (ap (map f) e ∙ map_more f ys (x ∷ [])) in
    ap (λ ls. record h { leaves = ls })
    (ap (map f) t
    ∙ (map_more f (take n ys) (x ∷ drop n ys)
    ∙ (ap (λ us. us ++ (f x ∷ map f (drop n ys))) (take_map f n ys)
    ∙ (ap (λ us. take n (map f ys) ++ (f x ∷ us)) (drop_map f n ys)
    ∙ sym (ap (λ j. take j h.leaves ++ turned (drop j h.leaves)) l
    ∙ (ap (λ us. take n us ++ turned (drop n us)) new
    ∙ (ap (λ us. us ++ turned (drop n (map f ys ++ (f x ∷ [])))) (take-append-le n (map f ys) (f x ∷ []) le)
    ∙ ap (λ us. take n (map f ys) ++ us) (ap turned (drop-append-le n (map f ys) (f x ∷ []) le) ∙ turned_last (drop n (map f ys)) (f x)))))))))
    ∙ sym (leaves_made a h (turned (behind a h).leaves))

-- ---- results

-- what stands behind an end of a list
pub rest_is : {A B C : Type 0} (f : A → B) (n : ℕ) (zs : List C) (d xs ys : List A) → ys ≡ take (length d - n) (drop n d) → d ≡ xs → length zs ≡ n → map f ys ≡ drop (length zs) (map f xs)
rest_is f n zs d xs ys e h l = ap (map f) (e ∙ (take_rest d n ∙ ap (drop n) h)) ∙ (drop_map f n xs ∙ ap (λ k. drop k (map f xs)) (sym l))

pub results_made : (a h : Made) (xs : List (Option core.Id)) → xs ≡ drop (length a.ids) h.ids → join h (a_leaf (m.result_ids xs)) ≡ join (front a h) (wrapped results (behind a h))
results_made a h xs e = then_leaf a h (m.result_ids xs) ∙ ap (λ is. join (front a h) (record (behind a h) { leaves = (behind a h).leaves ++ (m.result_ids is ∷ []) })) e

-- ---- what is said of some ends is said of all

pub narrower : {X E : Type 0} (w v : Wraps) (At Bt : Made → Type 0) (r : Result X E) (p q : Scratch) → w ≡ v → ((a : Made) → At a → Bt a) → MakesOf v Bt r p q → MakesOf w At r p q
narrower w v At Bt (Ok x) p q e f h = (h.0, λ fs cs z a k. h.1 fs cs z a (f a k) ∙ ap (λ u. join (front a (held fs cs p)) (wrapped u (behind a (held fs cs p)))) (sym e))
narrower w v At Bt (Err x) p q e f h = tt
