-- What the names of items come to, part by part and definition by definition.
use Rattle.std.proofs.Common.{◌≡◌, ℕ, zero, suc, ◌+◌, ◌*◌, ◌-◌, ◌/◌, ◌%◌, ◌^◌, ◌<◌, ◌≤◌, min, List, [], ◌∷◌, ◌++◌, length, length-append, map, drop, drop_of_length-le, get_or, set, replicate, refl, sym, ◌∙◌, ap, subst, arith, append-nil, Bool, true, false, Option, Some, None, option_map, inl, inr, Bor}
use Rattle.std.proofs.lemmas.Bool.{cases_lt, eqb-true, eqb-false}
use Rattle.comp_model.specs.declared.Space.{Space}
use Rattle.comp_model.specs.declared.Space.TheVariants as space
use Rattle.comp_model.specs.declared.row.ScopeKind.TheVariants as kinds
use Rattle.comp_model.specs.Core.{Text, Id, label_or_id}
use Rattle.comp_model.specs.CoreModules.{CoreModule}
use Rattle.comp_model.specs.ItemNames.{first_or_none, rest_of, name_in_front}
use Rattle.comp_model.specs.Leb.{uleb}
use Rattle.comp_model.specs.NameMaps.{ItemName}
use Rattle.comp_model.specs.Payloads.{framed, sort_bytes, item_name_bytes, map_bytes, component_name_bytes}
use Rattle.comp_model.specs.declared.declares.Declares.{Declares}
use Rattle.comp_model.specs.declared.declares.Declares.TheVariants.{Always}
use Rattle.comp_model.specs.Spaces as sp
use Rattle.comp_model.specs.Spaces.{same_space, code_of_space, count_in, all_spaces, leaf_spaces, leaves_spaces}
use Rattle.comp_tree.specs.Model.{id_of, lent_text, leaf_of, scope_of}
use Rattle.comp_tree.specs.Lists.{listed}
use Rattle.comp_tree.specs.Spaces.{run_of}
use Rattle.comp_tree.specs.declared.declares.Run.{Run}
use Rattle.comp_tree.specs.declared.tree.Def.{Def}
use Rattle.comp_tree.specs.declared.tree.Leaf.{Leaf}
use Rattle.comp_tree.specs.declared.tree.Names.{Names}
use Rattle.comp_tree.specs.declared.tree.Scope.{Scope}
use Rattle.comp_tree.specs.declared.tree.Scope as sc
use Rattle.comp_wire.proofs.Lists.{dropped}
use Rattle.comp_wire.proofs.Numbers.{some_bytes}
use Rattle.leb_lengths.proofs.Lengths.{more-bytes, framed-capped}
use Rattle.tree_write.specs.Along.{along, ids_in, labels_in, spaces_of, names_of_def, names_in}
use Rattle.tree_write.specs.Measured.{Counts}
use Rattle.tree_write.specs.CountedItems.{count_of, items_in, most_of_def, most_items, no_items}
use Rattle.tree_write.specs.SpaceSums.{no_sum, sum_at, Tells, maps_for}
use Rattle.tree_write.specs.declared.space_counts.Items.{Items}
use Rattle.tree_write.specs.Wire.{payload_of}
use Rattle.tree_write.specs.declared.name_lengths.SpaceSum.{SpaceSum}
use Rattle.tree_write.proofs.ItemNames.{part_turn, parts_done, leaf_turn, leaves_done, def_turn, defs_done, component_named, count_found, got_any, got_set, got_other}
use Rattle.tree_write.proofs.CountedItems.{none_counted}

-- ---- counts of items

-- seven bits less
pub less_bits : (high low n next whole : ℕ) → 0 < high → next ≡ min (n + 1) (2 ^ 64 - 1)
    → min (n + length (uleb (high * 2 ^ 64 + low))) (2 ^ 64 - 1) ≡ whole
    → min (next + length (uleb ((high / 128) * 2 ^ 64 + ((high % 128) * 2 ^ 57 + low / 128)))) (2 ^ 64 - 1) ≡ whole
less_bits high low n next whole h e w =
    let same : (high * 2 ^ 64 + low) / 128 ≡ (high / 128) * 2 ^ 64 + ((high % 128) * 2 ^ 57 + low / 128) = omega arith in
    let step = more-bytes 128 (omega arith) (omega arith) (high * 2 ^ 64 + low) (omega (arith, h)) in
    let there = ap (λ k. length (uleb k)) same in
    omega (arith, e, w, step, there)

-- ---- one name

name_behind : (ns : List ItemName) (x : ItemName) → length (item_name_bytes (ns ++ x ∷ [])) ≡ length (item_name_bytes ns) + (length (uleb x.index) + length (framed x.name))
name_behind [] x =
    let a = length-append (uleb x.index) (framed x.name ++ []) in
    let b = length-append (framed x.name) [] in
    omega (arith, a, b)
name_behind (n ∷ ns) x =
    let a = length-append (uleb n.index) (framed n.name ++ item_name_bytes (ns ++ x ∷ [])) in
    let b = length-append (framed n.name) (item_name_bytes (ns ++ x ∷ [])) in
    let c = length-append (uleb n.index) (framed n.name ++ item_name_bytes ns) in
    let d = length-append (framed n.name) (item_name_bytes ns) in
    omega (arith, name_behind ns x, a, b, c, d)

pub name_told : (sum new : SpaceSum) (ns : List ItemName) (index : ℕ) (name : List ℕ) (i t e : ℕ) → Tells sum ns → i ≡ min (length (uleb index)) (2 ^ 64 - 1) → t ≡ min (length (uleb (length name)) + length name) (2 ^ 64 - 1)
    → e ≡ min (i + t) (2 ^ 64 - 1) → new.named ≡ min (sum.named + 1) (2 ^ 64 - 1) → new.bytes ≡ min (sum.bytes + e) (2 ^ 64 - 1) → Tells new (ns ++ record { index = index; name = name } ∷ [])
name_told sum new ns index name i t e h a b c n d =
    let x : ItemName = record { index = index; name = name } in
    let many = length-append ns (x ∷ []) in
    let long = name_behind ns x in
    let text = length-append (uleb (length name)) name in
    let h0 = h.0 in
    let h1 = h.1 in
    (omega (arith, n, h0, many), omega (arith, a, b, c, d, h1, long, text))

pub part_some : (new : SpaceSum) (ns : List ItemName) (o : Option (Bor Text)) (y : Bor Text) (x : Option Text) (i : ℕ) → o ≡ Some y → option_map lent_text o ≡ x → Tells new (ns ++ record { index = i; name = y.now } ∷ []) → Tells new (ns ++ name_in_front true x i [])
part_some new ns o y x i e h t = subst (λ q. Tells new (ns ++ name_in_front true q i [])) (sym (ap (option_map lent_text) e) ∙ h) t

pub part_none : (new : SpaceSum) (ns : List ItemName) (o : Option (Bor Text)) (x : Option Text) (i : ℕ) → o ≡ None → option_map lent_text o ≡ x → Tells new ns → Tells new (ns ++ name_in_front true x i [])
part_none new ns o x i e h t = subst (λ q. Tells new (ns ++ name_in_front true q i [])) (sym (ap (option_map lent_text) e) ∙ h) (subst (λ q. Tells new q) (sym (append-nil ns)) t)

-- ---- parts

-- behind the last id and the last label no part has a name
dropped_all : {A B : Type 0} (f : A → B) (xs : List A) (i : ℕ) → length xs ≤ i → drop i (map f xs) ≡ []
dropped_all f [] zero h = refl
dropped_all f [] (suc i) h = refl
dropped_all f (x ∷ xs) zero h = absurd (omega (arith, h))
dropped_all f (x ∷ xs) (suc i) h = dropped_all f xs i (omega (arith, h))

nameless : (s : Space) (b p : ℕ) (ss : List Space) → along s b p [] [] ss ≡ []
nameless s b p [] = refl
nameless s b p (x ∷ ss) = go (same_space s x) ∙ nameless s b (p + 1) ss
  where
    go : (c : Bool) → name_in_front c None (b + p) (along s b (p + 1) [] [] ss) ≡ along s b (p + 1) [] [] ss
    go true = refl
    go false = refl

none_behind : (s : Space) (b p parts : ℕ) (of : Names) (ss : List Space) → length of.ids.now ≤ parts → length of.labels.now ≤ parts → parts ≤ p → along s b p (drop p (ids_in of)) (drop p (labels_in of)) ss ≡ []
none_behind s b p parts of ss i l h =
    ap (λ q. along s b p q (drop p (labels_in of)) ss) (dropped_all (option_map id_of) of.ids.now p (omega (arith, i, h)))
    ∙ ap (λ q. along s b p [] q ss) (dropped_all (option_map lent_text) of.labels.now p (omega (arith, l, h))) ∙ nameless s b p ss

abbrev pub PartsSoFar : Space → Space → ℕ → SpaceSum → ℕ → ℕ → Names → List ItemName → Type 0
PartsSoFar s u b now at rest of all = (ms : List ItemName) × Tells now ms × (ms ++ along s b at (drop at (ids_in of)) (drop at (labels_in of)) (replicate rest u) ≡ all)

pub parts_turn : (s u : Space) (before : Items) (now new : SpaceSum) (at next rest : ℕ) (of : Names) (all : List ItemName) → same_space s u ≡ true → items_in before ≤ most_items → at < 2 ^ 64 → next ≡ at + 1 → 0 < rest
    → ((ns : List ItemName) → items_in before + at < 2 ^ 192 → Tells now ns → Tells new (ns ++ name_in_front true (label_or_id (first_or_none (drop at (labels_in of))) (first_or_none (drop at (ids_in of)))) (items_in before + at) []))
    → PartsSoFar s u (items_in before) now at rest of all → PartsSoFar s u (items_in before) new next (rest - 1) of all
parts_turn s u before now new at next rest of all q h a n r f l =
    let b = items_in before in
    let name = label_or_id (first_or_none (drop at (labels_in of))) (first_or_none (drop at (ids_in of))) in
    let ks = l.0 ++ name_in_front true name (b + at) [] in (
      ks,
      f l.0 (omega (arith, h, a)) l.1,
      part_turn s u b at next rest (b + at) (ids_in of) (labels_in of) name l.0 ks all n r (λ z. refl) refl (ap (λ c. l.0 ++ name_in_front c name (b + at) []) (sym q)) l.2,
    )

pub parts_out : (s u : Space) (b : ℕ) (now : SpaceSum) (at rest parts : ℕ) (of : Names) (all : List ItemName) → length of.ids.now ≤ parts → length of.labels.now ≤ parts → parts ≤ at → PartsSoFar s u b now at rest of all → Tells now all
parts_out s u b now at rest parts of all i l h p = subst (λ q. Tells now q) (sym (append-nil p.0) ∙ ap (λ q. p.0 ++ q) (sym (none_behind s b at parts of (replicate rest u) i l h)) ∙ p.2) p.1

pub parts_end : (s u : Space) (b : ℕ) (now : SpaceSum) (at rest : ℕ) (of : Names) (all : List ItemName) → rest ≤ 0 → PartsSoFar s u b now at rest of all → Tells now all
parts_end s u b now at rest of all h p = subst (λ q. Tells now q) (parts_done s u b at rest (ids_in of) (labels_in of) p.0 all h p.2) p.1

-- ---- sums by the numbers of spaces

unspaced : (s u : Space) (b p n : ℕ) (ids : List (Option Id)) (labels : List (Option Text)) → same_space s u ≡ false → along s b p ids labels (replicate n u) ≡ []
unspaced s u b p zero ids labels e = refl
unspaced s u b p (suc n) ids labels e =
    ap (λ c. name_in_front c (label_or_id (first_or_none labels) (first_or_none ids)) (b + p) (along s b (p + 1) (rest_of ids) (rest_of labels) (replicate n u))) e ∙ unspaced s u b (p + 1) n (rest_of ids) (rest_of labels) e

-- one sum is changed: that of a space
module _ (s u : Space) (sums new : List SpaceSum) (n : ℕ) (x y : SpaceSum) (code : n ≡ code_of_space u) (few : n < length sums) (was : x ≡ get_or sums n no_sum) (is : new ≡ set sums n y) where
  sum_was : same_space s u ≡ true → sum_at s sums ≡ x
  sum_was q = ap (λ k. get_or sums k no_sum) (eqb-true (code_of_space s) (code_of_space u) q ∙ sym code) ∙ sym was

  sum_is : same_space s u ≡ true → sum_at s new ≡ y
  sum_is q = ap (sum_at s) is ∙ ap (λ k. get_or (set sums n y) k no_sum) (eqb-true (code_of_space s) (code_of_space u) q ∙ sym code) ∙ got_set sums n y no_sum few

  sum_stays : same_space s u ≡ false → sum_at s new ≡ sum_at s sums
  sum_stays q = ap (sum_at s) is ∙ got_other sums n (code_of_space s) y no_sum (λ z. eqb-false (code_of_space s) (code_of_space u) q (sym z ∙ code))

  pub names_added : (counts : List Items) (from count : ℕ) (ids : List (Option Id)) (labels : List (Option Text)) (ns : List ItemName)
      → ((a b : Space) (ms : List ItemName) → same_space a b ≡ true → items_in (get_or counts n no_items) ≤ most_items → Tells x ms → Tells y (ms ++ along a (items_in (get_or counts n no_items)) from ids labels (replicate count b)))
      → count_of s counts ≤ most_items → Tells (sum_at s sums) ns → Tells (sum_at s new) (ns ++ along s (count_of s counts) from ids labels (replicate count u))
  names_added counts from count ids labels ns f h t = go (same_space s u) refl
    where
      go : (b : Bool) → same_space s u ≡ b → Tells (sum_at s new) (ns ++ along s (count_of s counts) from ids labels (replicate count u))
      go true q =
          let found = count_found s u counts n (items_in (get_or counts n no_items)) code refl q in
          subst (λ z. Tells z (ns ++ along s (count_of s counts) from ids labels (replicate count u))) (sym (sum_is q))
          (subst (λ z. Tells y (ns ++ along s z from ids labels (replicate count u))) (sym found) (f s u ns q (subst (λ z. z ≤ most_items) found h) (subst (λ z. Tells z ns) (sum_was q) t)))
      go false q =
          subst (λ z. Tells z (ns ++ along s (count_of s counts) from ids labels (replicate count u))) (sym (sum_stays q))
          (subst (λ z. Tells (sum_at s sums) z) (sym (append-nil ns) ∙ ap (λ z. ns ++ z) (sym (unspaced s u (count_of s counts) from count ids labels q))) t)

-- before the first definition
none_there : (s : Space) → sum_at s (replicate 13 no_sum) ≡ no_sum
none_there space.CoreFunc = refl
none_there _ = refl

-- ---- leaves

module _ (cores : List CoreModule) where
  abbrev pub LeavesSoFar : Space → ℕ → SpaceSum → ℕ → Names → Declares → List Leaf → List ItemName → Type 0
  LeavesSoFar s b now part of d rest all =
      (p : ℕ) × (part ≡ min p (2 ^ 64 - 1)) × (ms : List ItemName) × Tells now ms × (ms ++ along s b p (drop p (ids_in of)) (drop p (labels_in of)) (leaves_spaces (listed cores rest) d) ≡ all)

  pub leaves_turn : (s : Space) (b : ℕ) (now new : SpaceSum) (part next i parts : ℕ) (of : Names) (d : Declares) (xs : List Leaf) (x : Leaf) (r : Run) (all : List ItemName) → i < length xs → x ≡ get_or xs i x → run_of r ≡ leaf_spaces (leaf_of cores x) d
      → part < parts → parts < 2 ^ 64 → next ≡ min (part + r.count) (2 ^ 64 - 1)
      → ((ns : List ItemName) → Tells now ns → Tells new (ns ++ along s b part (drop part (ids_in of)) (drop part (labels_in of)) (run_of r)))
      → LeavesSoFar s b now part of d (drop i xs) all → LeavesSoFar s b new next of d (drop (i + 1) xs) all
  leaves_turn s b now new part next i parts of d xs x r all h e g a c n f l =
      let p = l.0 in
      let w = l.1 in
      let ms = l.2 in
      let same : part ≡ p = omega (arith, a, c, w) in
      let ks = ms ++ along s b p (drop p (ids_in of)) (drop p (labels_in of)) (run_of r) in
      let step : Tells new ks = subst (λ z. Tells new (ms ++ along s b z (drop z (ids_in of)) (drop z (labels_in of)) (run_of r))) same (f ms l.3) in (
        p + r.count,
        omega (arith, n, same),
        ks,
        step,
        leaf_turn cores s b p (p + r.count) i (ids_in of) (labels_in of) xs x d r ms ks all h e g refl refl l.4,
      )

  pub leaves_out : (s : Space) (b : ℕ) (now : SpaceSum) (part parts : ℕ) (of : Names) (d : Declares) (rest : List Leaf) (all : List ItemName) → length of.ids.now ≤ parts → length of.labels.now ≤ parts → parts ≤ part
      → LeavesSoFar s b now part of d rest all → Tells now all
  leaves_out s b now part parts of d rest all i l h q =
      let w = q.1 in
      subst (λ z. Tells now z) (sym (append-nil q.2) ∙ ap (λ z. q.2 ++ z) (sym (none_behind s b q.0 parts of (leaves_spaces (listed cores rest) d) i l (omega (arith, h, w)))) ∙ q.4) q.3

  pub leaves_end : (s : Space) (b : ℕ) (now : SpaceSum) (part i : ℕ) (of : Names) (d : Declares) (xs : List Leaf) (all : List ItemName) → length xs ≤ i → LeavesSoFar s b now part of d (drop i xs) all → Tells now all
  leaves_end s b now part i of d xs all h q = subst (λ z. Tells now z) (leaves_done cores s b q.0 i (ids_in of) (labels_in of) xs d q.2 all h q.4) q.3

  -- ---- definitions

  pub always_told : (s : Space) (b : ℕ) (d : Def) (u : Space) (new : SpaceSum) (ns : List ItemName) → Always u ≡ sp.declares_by d.node.row → Tells new (ns ++ along s b 0 (ids_in d.names.now) (labels_in d.names.now) (u ∷ [])) → Tells new (ns ++ names_of_def cores s b d)
  always_told s b d u new ns e t = subst (λ q. Tells new (ns ++ along s b 0 (ids_in d.names.now) (labels_in d.names.now) (sp.spaces_by q (listed cores d.node.leaves.now)))) e t

  abbrev pub DefsSoFar : Space → SpaceSum → ℕ → ℕ → List Def → List ItemName → Type 0
  DefsSoFar s now b i rest all = (ms : List ItemName) × Tells now ms × (ms ++ names_in cores s b rest ≡ all) × (b ≤ i * most_of_def)

  pub defs_begun : (s : Space) (ds : List Def) → DefsSoFar s (sum_at s (replicate 13 no_sum)) (count_of s (replicate 13 no_items)) 0 ds (names_in cores s 0 ds)
  defs_begun s ds =
      subst (λ z. DefsSoFar s z (count_of s (replicate 13 no_items)) 0 ds (names_in cores s 0 ds)) (sym (none_there s)) (subst (λ z. DefsSoFar s no_sum z 0 ds (names_in cores s 0 ds)) (sym (none_counted s)) ([], (refl, refl), refl, omega arith))

  pub defs_turn : (s : Space) (now new : SpaceSum) (b next i : ℕ) (ds : List Def) (d : Def) (all : List ItemName) → i < length ds → length ds < 2 ^ 64 → d ≡ get_or ds i d
      → ((ns : List ItemName) → b ≤ most_items → Tells now ns → Tells new (ns ++ names_of_def cores s b d))
      → (b + most_of_def ≤ most_items → next ≡ b + count_in s (spaces_of cores d)) → count_in s (spaces_of cores d) ≤ most_of_def → DefsSoFar s now b i (drop i ds) all → DefsSoFar s new next (i + 1) (drop (i + 1) ds) all
  defs_turn s now new b next i ds d all h w e f c few l =
      let k = l.3 in
      let ks = l.0 ++ names_of_def cores s b d in
      let counted = c (omega (arith, k, h, w)) in (
        ks,
        f l.0 (omega (arith, k, h, w)) l.1,
        def_turn cores s b next i ds d l.0 ks all h e counted refl l.2,
        omega (arith, counted, few, k),
      )

  pub defs_end : (s : Space) (now : SpaceSum) (b i : ℕ) (ds : List Def) (all : List ItemName) → length ds ≤ i → DefsSoFar s now b i (drop i ds) all → Tells now all
  defs_end s now b i ds all h l = subst (λ z. Tells now z) (defs_done cores s b i ds l.0 all h l.2) l.1

-- ---- maps

many_bytes : (ns : List ItemName) → length ns ≤ length (item_name_bytes ns)
many_bytes [] = omega arith
many_bytes (n ∷ ns) =
    let a = length-append (uleb n.index) (framed n.name ++ item_name_bytes ns) in
    let b = length-append (framed n.name) (item_name_bytes ns) in
    omega (arith, many_bytes ns, some_bytes n.index, a, b)

pub no_map_told : (s : Space) (ns : List ItemName) (sum : SpaceSum) → sum.named ≡ 0 → Tells sum ns → Counts 0 (map_bytes s ns)
no_map_told s [] sum e t = refl
no_map_told s (n ∷ ns) sum e t = let t0 = t.0 in absurd (omega (arith, e, t0))

pub map_told : (s : Space) (ns : List ItemName) (sum : SpaceSum) (n count sort body one all : ℕ) → (sum.named ≡ 0 → ⊥) → n ≡ length (uleb sum.named) → count ≡ min (n + sum.bytes) (2 ^ 64 - 1) → sort ≡ length (sort_bytes s) → body ≡ min (count + sort) (2 ^ 64 - 1)
    → one ≡ min (length (uleb body) + body) (2 ^ 64 - 1) → all ≡ min (one + 1) (2 ^ 64 - 1) → Tells sum ns → Counts all (map_bytes s ns)
map_told s [] sum n count sort body one all z a b c d e f t = let t0 = t.0 in absurd (z (omega (arith, t0)))
map_told s (x ∷ ns) sum n count sort body one all z a b c d e f t =
    let names = x ∷ ns in
    let held = sort_bytes s ++ (uleb (length names) ++ item_name_bytes names) in
    let t0 = t.0 in
    let t1 = t.1 in
    let l1 = length-append (sort_bytes s) (uleb (length names) ++ item_name_bytes names) in
    let l2 = length-append (uleb (length names)) (item_name_bytes names) in
    let l3 = length-append (uleb (length held)) held in
    let same : body ≡ min (length held) (2 ^ 64 - 1) = elim (cases_lt (length names) (2 ^ 64)) [
      | inl h ↦
          let k : sum.named ≡ length names = omega (arith, t0, h) in
          let u = ap (λ q. length (uleb q)) k in
          omega (arith, a, b, c, d, u, t1, l1, l2)
      | inr h ↦ let many = many_bytes names in omega (arith, b, c, d, t1, l1, l2, h, many)
    ] in
    let whole = ap (λ q. min (length (uleb q) + q) (2 ^ 64 - 1)) same ∙ framed-capped (length held) in
    omega (arith, e, f, whole, l3)

pub maps_turn : (f : Space → List ItemName) (ss : List Space) (i : ℕ) (d : Space) (now more new whole : ℕ) → i < length ss → Counts more (map_bytes (get_or ss i d) (f (get_or ss i d))) → new ≡ min (now + more) (2 ^ 64 - 1)
    → min (now + length (maps_for f (drop i ss))) (2 ^ 64 - 1) ≡ whole → min (new + length (maps_for f (drop (i + 1) ss))) (2 ^ 64 - 1) ≡ whole
maps_turn f ss i d now more new whole h c n w =
    let s = get_or ss i d in
    let split = ap (λ q. length (maps_for f q)) (dropped ss i s h (got_any ss i d s h)) ∙ length-append (map_bytes s (f s)) (maps_for f (drop (i + 1) ss)) in
    omega (arith, c, n, w, split)

pub maps_end : (f : Space → List ItemName) (ss : List Space) (i now whole : ℕ) → now < 2 ^ 64 → length ss ≤ i → min (now + length (maps_for f (drop i ss))) (2 ^ 64 - 1) ≡ whole → now ≡ whole
maps_end f ss i now whole b h w = let none = ap (λ q. length (maps_for f q)) (drop_of_length-le ss h) in omega (arith, b, w, none)

-- ---- the component's own name, and all

pub own_told : (x : List ℕ) (one two all : ℕ) → one ≡ min (length (uleb (length x)) + length x) (2 ^ 64 - 1) → two ≡ min (length (uleb one) + one) (2 ^ 64 - 1) → all ≡ min (two + 1) (2 ^ 64 - 1) → Counts all (component_name_bytes (Some x))
own_told x one two all a b c =
    let l1 = length-append (uleb (length x)) x in
    let l2 = length-append (uleb (length (framed x))) (framed x) in
    let same : one ≡ min (length (framed x)) (2 ^ 64 - 1) = omega (arith, a, l1) in
    let whole = ap (λ q. min (length (uleb q) + q) (2 ^ 64 - 1)) same ∙ framed-capped (length (framed x)) in
    omega (arith, b, c, whole, l2)

pub all_told : (cores : List CoreModule) (x : Scope) (own : Option (Bor Text)) (a b all : ℕ) → (sc.out-Scope x).kind ≡ kinds.Component → option_map lent_text own ≡ label_or_id (option_map lent_text (sc.out-Scope x).label) (option_map id_of (sc.out-Scope x).id)
    → Counts a (component_name_bytes (option_map lent_text own)) → Counts b (maps_for (λ s. names_in cores s 0 (sc.out-Scope x).defs.now) all_spaces) → all ≡ min (a + b) (2 ^ 64 - 1) → Counts all (payload_of (scope_of cores x))
all_told cores x own a b all k o c d e =
    let own_bytes = component_name_bytes (option_map lent_text own) in
    let maps = maps_for (λ s. names_in cores s 0 (sc.out-Scope x).defs.now) all_spaces in
    let l = length-append own_bytes maps in
    let is = ap length (component_named cores x own k o) in
    omega (arith, c, d, e, l, is)
