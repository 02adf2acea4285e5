-- The names of items, part by part and definition by definition.
use Rattle.std.proofs.Common.{◌≡◌, ℕ, zero, suc, ◌+◌, ◌-◌, ◌<◌, ◌≤◌, List, [], ◌∷◌, ◌++◌, length, length-append, map, drop, drop_of_length-le, get_or, set, replicate, refl, sym, ◌∙◌, ap, subst, arith, append_assoc, append-nil, Bool, true, false, Option, Some, None, option_map, slice_index_or, Bor}
use Rattle.std.proofs.lemmas.Bool.{eqb-true}
use Rattle.comp_model.specs.declared.Space.{Space}
use Rattle.comp_model.specs.declared.row.ScopeKind.TheVariants as kinds
use Rattle.comp_model.specs.Core.{Text, Id, label_or_id}
use Rattle.comp_model.specs.CoreModules.{CoreModule}
use Rattle.comp_model.specs.ItemNames.{PartName, part_names, names_from, own_name, first_or_none, rest_of, name_in_front, map_in_front}
use Rattle.comp_model.specs.Model as m
use Rattle.comp_model.specs.NameMaps.{ItemName, NameMap}
use Rattle.comp_model.specs.declared.row.ScopeKind.{ScopeKind}
use Rattle.comp_model.specs.declared.declares.Declares.{Declares}
use Rattle.comp_model.specs.declared.declares.Declares.TheVariants.{Always}
use Rattle.comp_model.specs.Spaces as sp
use Rattle.comp_model.specs.Payloads.{map_bytes, maps_bytes, component_name_bytes}
use Rattle.comp_model.specs.Spaces.{same_space, code_of_space, count_in, all_spaces, leaf_spaces, leaves_spaces}
use Rattle.comp_scopes.specs.Resolved.{declared_before, names_along, maps_along, list_names}
use Rattle.comp_wire.proofs.NameBytes.{payload_parts}
use Rattle.comp_wire.proofs.Lists.{dropped}
use Rattle.comp_tree.specs.Model.{id_of, lent_text, leaf_of, scope_of}
use Rattle.comp_tree.specs.Lists.{listed, defs_listed}
use Rattle.comp_tree.specs.declared.tree.Def.{Def}
use Rattle.comp_tree.specs.declared.tree.Leaf.{Leaf}
use Rattle.comp_tree.specs.declared.tree.Scope.{Scope}
use Rattle.comp_tree.specs.declared.tree.Scope as sc
use Rattle.comp_tree.proofs.Leaves.{scope_fields}
use Rattle.tree_write.specs.Along.{along, ids_in, labels_in, spaces_of, names_of_def, names_in, of_space, maps_by}
use Rattle.tree_write.specs.CountedItems.{count_of, items_in, no_items}
use Rattle.tree_write.specs.declared.space_counts.Items.{Items}
use Rattle.comp_tree.specs.Spaces.{run_of}
use Rattle.tree_write.specs.SpaceSums.{maps_for}
use Rattle.tree_write.specs.Wire.{payload_of}
use Rattle.tree_write.specs.declared.item_names.NamedItem.{NamedItem}
use Rattle.comp_tree.specs.declared.declares.Run.{Run}

-- ---- lists of ids and labels

pub at_place : {A B : Type 0} (f : A → B) (xs : List (Option A)) (i : ℕ) → i < length xs → option_map f (slice_index_or xs i None) ≡ first_or_none (drop i (map (option_map f) xs))
at_place f [] i h = absurd (omega arith)
at_place f (x ∷ xs) zero h = refl
at_place f (x ∷ xs) (suc i) h = at_place f xs i (omega arith)

pub behind_last : {A B : Type 0} (f : A → B) (xs : List (Option A)) (i : ℕ) → length xs ≤ i → None ≡ first_or_none (drop i (map (option_map f) xs))
behind_last f [] zero h = refl
behind_last f [] (suc i) h = refl
behind_last f (x ∷ xs) zero h = absurd (omega arith)
behind_last f (x ∷ xs) (suc i) h = behind_last f xs i (omega arith)

no_rest : {A : Type 0} (n : ℕ) → drop {A = A} n [] ≡ []
no_rest zero = refl
no_rest (suc n) = refl

rest_dropped : {A : Type 0} (xs : List A) (i : ℕ) → rest_of (drop i xs) ≡ drop (i + 1) xs
rest_dropped [] i = ap rest_of (no_rest i) ∙ sym (no_rest (i + 1))
rest_dropped (x ∷ xs) zero = refl
rest_dropped (x ∷ xs) (suc i) = let e : suc i + 1 ≡ suc (i + 1) = omega arith in rest_dropped xs i ∙ sym (ap (λ n. drop n (x ∷ xs)) e)

drop_rest : {A : Type 0} (xs : List A) (n : ℕ) → drop n (rest_of xs) ≡ drop (suc n) xs
drop_rest [] n = no_rest n
drop_rest (x ∷ xs) n = refl

drop_twice : {A : Type 0} (p n : ℕ) (xs : List A) → drop n (drop p xs) ≡ drop (p + n) xs
drop_twice zero n xs = let e : 0 + n ≡ n = omega arith in sym (ap (λ k. drop k xs) e)
drop_twice (suc p) n [] = no_rest n ∙ sym (no_rest (suc p + n))
drop_twice (suc p) n (x ∷ xs) = let e : suc p + n ≡ suc (p + n) = omega arith in drop_twice p n xs ∙ sym (ap (λ k. drop k (x ∷ xs)) e)

pub length_of : {A : Type 0} (n : ℕ) (x : A) → length (replicate n x) ≡ n
length_of zero x = refl
length_of (suc n) x = ap suc (length_of n x)

-- ---- names one behind the other

front-append : (b : Bool) (x : Option Text) (i : ℕ) (ns ms : List ItemName) → name_in_front b x i ns ++ ms ≡ name_in_front b x i (ns ++ ms)
front-append true (Some x) i ns ms = refl
front-append true None i ns ms = refl
front-append false x i ns ms = refl

of_space-append : (s : Space) (xs ys : List NamedItem) → of_space s (xs ++ ys) ≡ of_space s xs ++ of_space s ys
of_space-append s [] ys = refl
of_space-append s (x ∷ xs) ys = ap (name_in_front (same_space s x.space) (Some (lent_text x.name)) x.index) (of_space-append s xs ys) ∙ sym (front-append (same_space s x.space) (Some (lent_text x.name)) x.index (of_space s xs) (of_space s ys))

pub item_pushed : (s : Space) (old new : List NamedItem) (x : NamedItem) → new ≡ old ++ x ∷ [] → of_space s new ≡ of_space s old ++ name_in_front (same_space s x.space) (Some (lent_text x.name)) x.index []
item_pushed s old new x e = ap (of_space s) e ∙ of_space-append s old (x ∷ [])

pub none_pushed : (s u : Space) (i : ℕ) (old : List NamedItem) → of_space s old ≡ of_space s old ++ name_in_front (same_space s u) None i []
none_pushed s u i old = go (same_space s u)
  where
    go : (b : Bool) → of_space s old ≡ of_space s old ++ name_in_front b None i []
    go true = sym (append-nil (of_space s old))
    go false = sym (append-nil (of_space s old))

-- ---- parts

one_part : (s u : Space) (b at rest index : ℕ) (ids : List (Option Id)) (labels : List (Option Text)) (name : Option Text) → 0 < rest → (same_space s u ≡ true → index ≡ b + at)
    → name ≡ label_or_id (first_or_none (drop at labels)) (first_or_none (drop at ids))
    → along s b at (drop at ids) (drop at labels) (replicate rest u) ≡ name_in_front (same_space s u) name index [] ++ along s b (at + 1) (drop (at + 1) ids) (drop (at + 1) labels) (replicate (rest - 1) u)
one_part s u b at zero index ids labels name h k n = absurd (omega arith)
one_part s u b at (suc r) index ids labels name h k n = go (same_space s u) refl
  where
    x : Option Text
    x = label_or_id (first_or_none (drop at labels)) (first_or_none (drop at ids))

    tail : along s b (at + 1) (rest_of (drop at ids)) (rest_of (drop at labels)) (replicate r u) ≡ along s b (at + 1) (drop (at + 1) ids) (drop (at + 1) labels) (replicate (suc r - 1) u)
    tail =
        let less : suc r - 1 ≡ r = omega arith in
        ap (λ q. along s b (at + 1) q (rest_of (drop at labels)) (replicate r u)) (rest_dropped ids at)
        ∙ ap (λ q. along s b (at + 1) (drop (at + 1) ids) q (replicate r u)) (rest_dropped labels at)
        ∙ ap (λ q. along s b (at + 1) (drop (at + 1) ids) (drop (at + 1) labels) (replicate q u)) (sym less)

    go : (c : Bool) → same_space s u ≡ c → name_in_front c x (b + at) (along s b (at + 1) (rest_of (drop at ids)) (rest_of (drop at labels)) (replicate r u)) ≡ name_in_front c name index [] ++ along s b (at + 1) (drop (at + 1) ids) (drop (at + 1) labels) (replicate (suc r - 1) u)
    go true e =
        let here : b + at ≡ index = sym (k e) in
        ap (name_in_front true x (b + at)) tail ∙ ap (λ j. name_in_front true x j (along s b (at + 1) (drop (at + 1) ids) (drop (at + 1) labels) (replicate (suc r - 1) u))) here
        ∙ ap (λ y. name_in_front true y index (along s b (at + 1) (drop (at + 1) ids) (drop (at + 1) labels) (replicate (suc r - 1) u))) (sym n)
        ∙ sym (front-append true name index [] (along s b (at + 1) (drop (at + 1) ids) (drop (at + 1) labels) (replicate (suc r - 1) u)))
    go false e = tail

pub part_turn : (s u : Space) (b at next rest index : ℕ) (ids : List (Option Id)) (labels : List (Option Text)) (name : Option Text) (now new all : List ItemName) → next ≡ at + 1 → 0 < rest → (same_space s u ≡ true → index ≡ b + at)
    → name ≡ label_or_id (first_or_none (drop at labels)) (first_or_none (drop at ids)) → new ≡ now ++ name_in_front (same_space s u) name index []
    → now ++ along s b at (drop at ids) (drop at labels) (replicate rest u) ≡ all → new ++ along s b next (drop next ids) (drop next labels) (replicate (rest - 1) u) ≡ all
part_turn s u b at next rest index ids labels name now new all x h k n a l =
    let left = along s b (at + 1) (drop (at + 1) ids) (drop (at + 1) labels) (replicate (rest - 1) u) in
    ap (λ q. new ++ along s b q (drop q ids) (drop q labels) (replicate (rest - 1) u)) x
    ∙ ap (λ q. q ++ left) a ∙ append_assoc now (name_in_front (same_space s u) name index []) left
    ∙ ap (λ q. now ++ q) (sym (one_part s u b at rest index ids labels name h k n)) ∙ l

pub parts_done : (s u : Space) (b at rest : ℕ) (ids : List (Option Id)) (labels : List (Option Text)) (now all : List ItemName) → rest ≤ 0 → now ++ along s b at (drop at ids) (drop at labels) (replicate rest u) ≡ all → now ≡ all
parts_done s u b at zero ids labels now all h l = sym (append-nil now) ∙ l
parts_done s u b at (suc r) ids labels now all h l = absurd (omega arith)

-- ---- runs

pub counted_same : (s : Space) (n : ℕ) (u : Space) → same_space s u ≡ true → count_in s (replicate n u) ≡ n
counted_same s zero u e = refl
counted_same s (suc n) u e = rw e (ap suc (counted_same s n u e))

pub counted_other : (s u : Space) (n : ℕ) → same_space s u ≡ false → count_in s (replicate n u) ≡ 0
counted_other s u zero e = refl
counted_other s u (suc n) e = rw e (counted_other s u n e)

counted-append : (s : Space) (xs ys : List Space) → count_in s (xs ++ ys) ≡ count_in s xs + count_in s ys
counted-append s [] ys = omega arith
counted-append s (x ∷ xs) ys = go (same_space s x) refl (counted-append s xs ys)
  where
    go : (b : Bool) → same_space s x ≡ b → count_in s (xs ++ ys) ≡ count_in s xs + count_in s ys → count_in s ((x ∷ xs) ++ ys) ≡ count_in s (x ∷ xs) + count_in s ys
    go true e rest = rw e (omega (arith, rest))
    go false e rest = rw e rest

along-append : (s : Space) (b p : ℕ) (ids : List (Option Id)) (labels : List (Option Text)) (xs ys : List Space)
    → along s b p ids labels (xs ++ ys) ≡ along s b p ids labels xs ++ along s b (p + length xs) (drop (length xs) ids) (drop (length xs) labels) ys
along-append s b p ids labels [] ys = let e : p + 0 ≡ p = omega arith in sym (ap (λ q. along s b q ids labels ys) e)
along-append s b p ids labels (x ∷ xs) ys =
    let n = length xs in
    let name = label_or_id (first_or_none labels) (first_or_none ids) in
    let e : (p + 1) + n ≡ p + suc n = omega arith in
    ap (name_in_front (same_space s x) name (b + p))
    (along-append s b (p + 1) (rest_of ids) (rest_of labels) xs ys
    ∙ ap (λ q. along s b (p + 1) (rest_of ids) (rest_of labels) xs ++ along s b q (drop n (rest_of ids)) (drop n (rest_of labels)) ys) e
    ∙ ap (λ i. along s b (p + 1) (rest_of ids) (rest_of labels) xs ++ along s b (p + suc n) i (drop n (rest_of labels)) ys) (drop_rest ids n)
    ∙ ap (λ l. along s b (p + 1) (rest_of ids) (rest_of labels) xs ++ along s b (p + suc n) (drop (suc n) ids) l ys) (drop_rest labels n))
    ∙ sym (front-append (same_space s x) name (b + p) (along s b (p + 1) (rest_of ids) (rest_of labels) xs) (along s b (p + suc n) (drop (suc n) ids) (drop (suc n) labels) ys))

run-append : (s : Space) (b p : ℕ) (ids : List (Option Id)) (labels : List (Option Text)) (r : Run) (ys : List Space)
    → along s b p (drop p ids) (drop p labels) (run_of r ++ ys) ≡ along s b p (drop p ids) (drop p labels) (run_of r) ++ along s b (p + r.count) (drop (p + r.count) ids) (drop (p + r.count) labels) ys
run-append s b p ids labels r ys =
    let here = along s b p (drop p ids) (drop p labels) (run_of r) in
    along-append s b p (drop p ids) (drop p labels) (run_of r) ys
    ∙ ap (λ n. here ++ along s b (p + n) (drop n (drop p ids)) (drop n (drop p labels)) ys) (length_of r.count r.space)
    ∙ ap (λ i. here ++ along s b (p + r.count) i (drop r.count (drop p labels)) ys) (drop_twice p r.count ids)
    ∙ ap (λ l. here ++ along s b (p + r.count) (drop (p + r.count) ids) l ys) (drop_twice p r.count labels)

-- ---- counts by the numbers of spaces

pub count_found : (s u : Space) (counts : List Items) (n before : ℕ) → n ≡ code_of_space u → before ≡ items_in (get_or counts n no_items) → same_space s u ≡ true → count_of s counts ≡ before
count_found s u counts n before e f g = ap (λ k. items_in (get_or counts k no_items)) (eqb-true (code_of_space s) (code_of_space u) g ∙ sym e) ∙ sym f

pub got_any : {A : Type 0} (xs : List A) (i : ℕ) (x y : A) → i < length xs → get_or xs i x ≡ get_or xs i y
got_any [] i x y h = absurd (omega (arith, h))
got_any (z ∷ xs) zero x y h = refl
got_any (z ∷ xs) (suc i) x y h = got_any xs i x y (omega (arith, h))

pub got_set : {A : Type 0} (xs : List A) (i : ℕ) (x y : A) → i < length xs → get_or (set xs i x) i y ≡ x
got_set [] i x y h = absurd (omega (arith, h))
got_set (z ∷ xs) zero x y h = refl
got_set (z ∷ xs) (suc i) x y h = got_set xs i x y (omega (arith, h))

pub got_other : {A : Type 0} (xs : List A) (i j : ℕ) (x y : A) → (i ≡ j → ⊥) → get_or (set xs i x) j y ≡ get_or xs j y
got_other [] i j x y n = refl
got_other (z ∷ xs) zero zero x y n = absurd (n refl)
got_other (z ∷ xs) zero (suc j) x y n = refl
got_other (z ∷ xs) (suc i) zero x y n = refl
got_other (z ∷ xs) (suc i) (suc j) x y n = got_other xs i j x y (λ e. n (ap suc e))

-- ---- leaves

module _ (cores : List CoreModule) where
  pub leaves_left : (xs : List Leaf) (i : ℕ) (x : Leaf) (d : Declares) (r : Run) → i < length xs → x ≡ get_or xs i x → run_of r ≡ leaf_spaces (leaf_of cores x) d
      → leaves_spaces (listed cores (drop i xs)) d ≡ run_of r ++ leaves_spaces (listed cores (drop (i + 1) xs)) d
  leaves_left xs i x d r h e g = ap (λ ys. leaves_spaces (listed cores ys) d) (dropped xs i x h e) ∙ ap (λ y. y ++ leaves_spaces (listed cores (drop (i + 1) xs)) d) (sym g)

  pub leaf_turn : (s : Space) (b p q i : ℕ) (ids : List (Option Id)) (labels : List (Option Text)) (xs : List Leaf) (x : Leaf) (d : Declares) (r : Run) (now new all : List ItemName) → i < length xs → x ≡ get_or xs i x
      → run_of r ≡ leaf_spaces (leaf_of cores x) d → q ≡ p + r.count → new ≡ now ++ along s b p (drop p ids) (drop p labels) (run_of r)
      → now ++ along s b p (drop p ids) (drop p labels) (leaves_spaces (listed cores (drop i xs)) d) ≡ all
      → new ++ along s b q (drop q ids) (drop q labels) (leaves_spaces (listed cores (drop (i + 1) xs)) d) ≡ all
  leaf_turn s b p q i ids labels xs x d r now new all h e g k a l =
      let ys = leaves_spaces (listed cores (drop (i + 1) xs)) d in
      let here = along s b p (drop p ids) (drop p labels) (run_of r) in
      let behind = λ (n : ℕ). along s b n (drop n ids) (drop n labels) ys in
      ap (λ n. new ++ behind n) k ∙ ap (λ y. y ++ behind (p + r.count)) a ∙ append_assoc now here (behind (p + r.count))
      ∙ ap (λ y. now ++ y) (sym (ap (along s b p (drop p ids) (drop p labels)) (leaves_left xs i x d r h e g) ∙ run-append s b p ids labels r ys)) ∙ l

  pub leaves_done : (s : Space) (b p i : ℕ) (ids : List (Option Id)) (labels : List (Option Text)) (xs : List Leaf) (d : Declares) (now all : List ItemName) → length xs ≤ i
      → now ++ along s b p (drop p ids) (drop p labels) (leaves_spaces (listed cores (drop i xs)) d) ≡ all → now ≡ all
  leaves_done s b p i ids labels xs d now all h l = sym (append-nil now) ∙ ap (λ ys. now ++ along s b p (drop p ids) (drop p labels) (leaves_spaces (listed cores ys) d)) (sym (drop_of_length-le xs h)) ∙ l

  pub leaf_counted : (s : Space) (i : ℕ) (xs : List Leaf) (x : Leaf) (d : Declares) (r : Run) (now new all : ℕ) → i < length xs → x ≡ get_or xs i x → run_of r ≡ leaf_spaces (leaf_of cores x) d
      → new ≡ now + count_in s (run_of r) → now + count_in s (leaves_spaces (listed cores (drop i xs)) d) ≡ all → new + count_in s (leaves_spaces (listed cores (drop (i + 1) xs)) d) ≡ all
  leaf_counted s i xs x d r now new all h e g n l =
      let ys = leaves_spaces (listed cores (drop (i + 1) xs)) d in
      let c = ap (count_in s) (leaves_left xs i x d r h e g) ∙ counted-append s (run_of r) ys in
      omega (arith, n, l, c)

  pub all_counted : (s : Space) (i : ℕ) (xs : List Leaf) (d : Declares) (now all : ℕ) → length xs ≤ i → now + count_in s (leaves_spaces (listed cores (drop i xs)) d) ≡ all → now ≡ all
  all_counted s i xs d now all h l =
      let e = ap (λ ys. count_in s (leaves_spaces (listed cores ys) d)) (drop_of_length-le xs h) in
      omega (arith, e, l)

  -- ---- definitions

  -- one that declares an item of one space, whatever its leaves are
  pub always_declared : (s : Space) (b : ℕ) (d : Def) (u : Space) (now new : List ItemName) → Always u ≡ sp.declares_by d.node.row → new ≡ now ++ along s b 0 (ids_in d.names.now) (labels_in d.names.now) (u ∷ []) → new ≡ now ++ names_of_def cores s b d
  always_declared s b d u now new e h = h ∙ ap (λ q. now ++ along s b 0 (ids_in d.names.now) (labels_in d.names.now) (sp.spaces_by q (listed cores d.node.leaves.now))) e

  pub def_turn : (s : Space) (b q i : ℕ) (ds : List Def) (d : Def) (now new all : List ItemName) → i < length ds → d ≡ get_or ds i d → q ≡ b + count_in s (spaces_of cores d)
      → new ≡ now ++ names_of_def cores s b d → now ++ names_in cores s b (drop i ds) ≡ all → new ++ names_in cores s q (drop (i + 1) ds) ≡ all
  def_turn s b q i ds d now new all h e k n l =
      let rest = names_in cores s (b + count_in s (spaces_of cores d)) (drop (i + 1) ds) in
      ap (λ j. new ++ names_in cores s j (drop (i + 1) ds)) k ∙ ap (λ y. y ++ rest) n ∙ append_assoc now (names_of_def cores s b d) rest
      ∙ ap (λ ys. now ++ names_in cores s b ys) (sym (dropped ds i d h e)) ∙ l

  pub defs_done : (s : Space) (b i : ℕ) (ds : List Def) (now all : List ItemName) → length ds ≤ i → now ++ names_in cores s b (drop i ds) ≡ all → now ≡ all
  defs_done s b i ds now all h l = sym (append-nil now) ∙ ap (λ ys. now ++ names_in cores s b ys) (sym (drop_of_length-le ds h)) ∙ l

  -- ---- the names that the model finds along the list

  abbrev total : Space → List Def → ℕ
  total s [] = 0
  total s (d ∷ ds) = count_in s (spaces_of cores d) + total s ds

  counted_before : (s : Space) (pre ds : List Def) → declared_before s (defs_listed cores (pre ++ ds)) (length pre) ≡ total s pre
  counted_before s [] [] = refl
  counted_before s [] (d ∷ ds) = refl
  counted_before s (d ∷ pre) ds = ap (λ n. count_in s (spaces_of cores d) + n) (counted_before s pre ds)

  total_behind : (s : Space) (pre : List Def) (d : Def) → total s (pre ++ d ∷ []) ≡ total s pre + count_in s (spaces_of cores d)
  total_behind s [] d = omega arith
  total_behind s (e ∷ pre) d = let r = total_behind s pre d in omega (arith, r)

  parts_along : (ds : m.Defs) (s : Space) (k p : ℕ) (ids : List (Option Id)) (labels : List (Option Text)) (ss : List Space) (rest : List PartName)
      → names_along ds s (part_names k p ids labels ss ++ rest) ≡ along s (declared_before s ds k) p ids labels ss ++ names_along ds s rest
  parts_along ds s k p ids labels [] rest = refl
  parts_along ds s k p ids labels (x ∷ ss) rest =
      let b = declared_before s ds k in
      let name = label_or_id (first_or_none labels) (first_or_none ids) in
      ap (name_in_front (same_space s x) name (b + p)) (parts_along ds s k (p + 1) (rest_of ids) (rest_of labels) ss rest)
      ∙ sym (front-append (same_space s x) name (b + p) (along s b (p + 1) (rest_of ids) (rest_of labels) ss) (names_along ds s rest))

  names_here : (s : Space) (pre ds : List Def) → names_along (defs_listed cores (pre ++ ds)) s (names_from (length pre) (defs_listed cores ds)) ≡ names_in cores s (total s pre) ds
  names_here s pre [] = refl
  names_here s pre (d ∷ ds) =
      let all = defs_listed cores (pre ++ d ∷ ds) in
      let rest : names_along all s (names_from (length pre + 1) (defs_listed cores ds)) ≡ names_in cores s (total s (pre ++ d ∷ [])) ds =
      subst (λ n. names_along all s (names_from n (defs_listed cores ds)) ≡ names_in cores s (total s (pre ++ d ∷ [])) ds) (length-append pre (d ∷ []))
      (subst (λ ys. names_along (defs_listed cores ys) s (names_from (length (pre ++ d ∷ [])) (defs_listed cores ds)) ≡ names_in cores s (total s (pre ++ d ∷ [])) ds) (append_assoc pre (d ∷ []) ds) (names_here s (pre ++ d ∷ []) ds)) in
      parts_along all s (length pre) 0 (ids_in d.names.now) (labels_in d.names.now) (spaces_of cores d) (names_from (length pre + 1) (defs_listed cores ds))
      ∙ ap (λ n. along s n 0 (ids_in d.names.now) (labels_in d.names.now) (spaces_of cores d) ++ names_along all s (names_from (length pre + 1) (defs_listed cores ds))) (counted_before s pre (d ∷ ds))
      ∙ ap (λ ns. names_of_def cores s (total s pre) d ++ ns) (rest ∙ ap (λ n. names_in cores s n ds) (total_behind s pre d))

  map_front : (s : Space) (ns : List ItemName) (ms : List NameMap) → maps_bytes (map_in_front s ns ms) ≡ map_bytes s ns ++ maps_bytes ms
  map_front s [] ms = refl
  map_front s (n ∷ ns) ms = refl

  maps_named : (ds : List Def) (ss : List Space) → maps_bytes (maps_along (defs_listed cores ds) (names_from 0 (defs_listed cores ds)) ss) ≡ maps_for (λ s. names_in cores s 0 ds) ss
  maps_named ds [] = refl
  maps_named ds (s ∷ ss) =
      let parts = names_from 0 (defs_listed cores ds) in
      map_front s (names_along (defs_listed cores ds) s parts) (maps_along (defs_listed cores ds) parts ss)
      ∙ ap (λ ns. map_bytes s ns ++ maps_bytes (maps_along (defs_listed cores ds) parts ss)) (names_here s [] ds)
      ∙ ap (λ b. map_bytes s (names_in cores s 0 ds) ++ b) (maps_named ds ss)

  pub component_named : (x : Scope) (own : Option (Bor Text)) → (sc.out-Scope x).kind ≡ kinds.Component → option_map lent_text own ≡ label_or_id (option_map lent_text (sc.out-Scope x).label) (option_map id_of (sc.out-Scope x).id)
      → component_name_bytes (option_map lent_text own) ++ maps_for (λ s. names_in cores s 0 (sc.out-Scope x).defs.now) all_spaces ≡ payload_of (scope_of cores x)
  component_named x own k o =
      let out = sc.out-Scope x in
      let ds = out.defs.now in
      let s = m.scope_of kinds.Component (option_map id_of out.id) (option_map lent_text out.label) (defs_listed cores ds) in
      ap (λ y. component_name_bytes y ++ maps_for (λ s. names_in cores s 0 ds) all_spaces) o ∙ ap (λ b. component_name_bytes (own_name s) ++ b) (sym (maps_named ds all_spaces)) ∙ sym (payload_parts (list_names s))
      ∙ ap (λ y. payload_of (m.scope_of y (option_map id_of out.id) (option_map lent_text out.label) (defs_listed cores ds))) (sym k)
      ∙ ap payload_of (sym (scope_fields cores x))

  maps_by_items : (items : List NamedItem) (ds : List Def) (ss : List Space) → ((s : Space) → of_space s items ≡ names_in cores s 0 ds) → maps_by items ss ≡ maps_for (λ s. names_in cores s 0 ds) ss
  maps_by_items items ds [] f = refl
  maps_by_items items ds (s ∷ ss) f = ap (λ ns. map_bytes s ns ++ maps_by items ss) (f s) ∙ ap (λ b. map_bytes s (names_in cores s 0 ds) ++ b) (maps_by_items items ds ss f)

  pub component_payload : (x : Scope) (own : Option (Bor Text)) (items : List NamedItem) → (sc.out-Scope x).kind ≡ kinds.Component → option_map lent_text own ≡ label_or_id (option_map lent_text (sc.out-Scope x).label) (option_map id_of (sc.out-Scope x).id)
      → ((s : Space) → of_space s items ≡ names_in cores s 0 (sc.out-Scope x).defs.now) → component_name_bytes (option_map lent_text own) ++ maps_by items all_spaces ≡ payload_of (scope_of cores x)
  component_payload x own items k o f =
      ap (λ b. component_name_bytes (option_map lent_text own) ++ b) (maps_by_items items (sc.out-Scope x).defs.now all_spaces f) ∙ component_named x own k o

  pub type_payload : (x : Scope) (kind : ScopeKind) → (sc.out-Scope x).kind ≡ kind → payload_of (m.scope_of kind (option_map id_of (sc.out-Scope x).id) (option_map lent_text (sc.out-Scope x).label) (defs_listed cores (sc.out-Scope x).defs.now)) ≡ [] → [] ≡ payload_of (scope_of cores x)
  type_payload x kind k e =
      let o = sc.out-Scope x in
      sym (ap payload_of (scope_fields cores x) ∙ ap (λ y. payload_of (m.scope_of y (option_map id_of o.id) (option_map lent_text o.label) (defs_listed cores o.defs.now))) k ∙ e)
