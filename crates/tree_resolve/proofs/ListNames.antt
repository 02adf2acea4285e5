-- The name section of a list by its definitions, and by the table that was counted before what they need stood in it.
use Rattle.std.proofs.Common.{◌≡◌, ℕ, suc, ◌+◌, Bool, true, false, ◌&&◌, ◌||◌, slice_index, List, [], ◌∷◌, ◌++◌, is_some, Option, Some, None, refl, sym, ap, ◌∙◌, arith}
use Rattle.std.proofs.Math.Bool.{or_assoc}
use Rattle.comp_model.specs.declared.Space.{Space}
use Rattle.comp_model.specs.Core.{Text, Id, label_or_id}
use Rattle.comp_model.specs.Model.{row, define, Defs, no_def, one_def, scope_of}
use Rattle.comp_model.specs.declared.row.ScopeKind.{ScopeKind}
use Rattle.comp_model.specs.Spaces.{declares_row, count_in, same_space, all_spaces}
use Rattle.comp_model.specs.NameMaps.{ItemName}
use Rattle.comp_model.specs.ItemNames.{PartName, first_or_none, rest_of, part_names, names_from, any_named, own_name, is_component, has_names, name_in_front, map_in_front}
use Rattle.comp_model.proofs.Tests.{same_space-true}
use Rattle.comp_scopes.specs.Rowed.{EachIs, AllSame, DefsRowed}
use Rattle.comp_scopes.specs.Resolved.{declared_before, names_along, maps_along, list_names}
use Rattle.comp_tables.specs.Tables.{Counters, no_counts, Opened, advanced, past, first_index, counted_table}
use Rattle.comp_tables.specs.Built.{names_at, maps_at, names_by}
use Rattle.tree_resolve.specs.ListNames.{item_names, names_counted, names_tabled, any_in}

-- ---- whether there is a name

any-append : (xs ys : List PartName) → any_named (xs ++ ys) ≡ (any_named xs || any_named ys)
any-append [] ys = refl
any-append (x ∷ xs) ys = ap (λ b. is_some x.name || b) (any-append xs ys) ∙ sym (or_assoc (is_some x.name) (any_named xs) (any_named ys))

any-parts : (k p j q : ℕ) (ids : List (Option Id)) (labels : List (Option Text)) (ss : List Space) → any_named (part_names k p ids labels ss) ≡ any_named (part_names j q ids labels ss)
any-parts k p j q ids labels [] = refl
any-parts k p j q ids labels (s ∷ ss) = ap (λ b. is_some (label_or_id (first_or_none labels) (first_or_none ids)) || b) (any-parts k (p + 1) j (q + 1) (rest_of ids) (rest_of labels) ss)

pub any-from : (k : ℕ) (ds : Defs) → any_named (names_from k ds) ≡ any_in ds
any-from k no_def = refl
any-from k (one_def (define names (row t ls)) ds) =
    any-append (part_names k 0 names.ids names.labels (declares_row t ls)) (names_from (k + 1) ds)
    ∙ ap (λ b. b || any_named (names_from (k + 1) ds)) (any-parts k 0 0 0 names.ids names.labels (declares_row t ls))
    ∙ ap (λ b. any_named (part_names 0 0 names.ids names.labels (declares_row t ls)) || b) (any-from (k + 1) ds)

-- ---- names by an index for each definition

-- by one count or another
abbrev named_by : (ℕ → ℕ) → Space → List PartName → List ItemName
named_by f s [] = []
named_by f s (n ∷ ns) = name_in_front (same_space s n.space) n.name (f n.definition + n.part) (named_by f s ns)

along-by : (ds : Defs) (s : Space) (ns : List PartName) → names_along ds s ns ≡ named_by (declared_before s ds) s ns
along-by ds s [] = refl
along-by ds s (n ∷ ns) = ap (name_in_front (same_space s n.space) n.name (declared_before s ds n.definition + n.part)) (along-by ds s ns)

at-by : (T : List ℕ) (s : Space) (ns : List PartName) → names_at T s ns ≡ named_by (slice_index T) s ns
at-by T s [] = refl
at-by T s (n ∷ ns) = ap (name_in_front (same_space s n.space) n.name (slice_index T n.definition + n.part)) (at-by T s ns)

front-append : (b : Bool) (x : Option Text) (i : ℕ) (xs ys : List ItemName) → name_in_front b x i (xs ++ ys) ≡ name_in_front b x i xs ++ ys
front-append true (Some x) i xs ys = refl
front-append true None i xs ys = refl
front-append false x i xs ys = refl

-- the parts of a definition
parts-by : (f : ℕ → ℕ) (s : Space) (k p : ℕ) (ids : List (Option Id)) (labels : List (Option Text)) (ss : List Space) (more : List PartName) → named_by f s (part_names k p ids labels ss ++ more) ≡ item_names s (f k) p ids labels ss ++ named_by f s more
parts-by f s k p ids labels [] more = refl
parts-by f s k p ids labels (t ∷ ts) more =
    ap (name_in_front (same_space s t) (label_or_id (first_or_none labels) (first_or_none ids)) (f k + p)) (parts-by f s k (p + 1) (rest_of ids) (rest_of labels) ts more)
    ∙ front-append (same_space s t) (label_or_id (first_or_none labels) (first_or_none ids)) (f k + p) (item_names s (f k) (p + 1) (rest_of ids) (rest_of labels) ts) (named_by f s more)

where-same : (b : Bool) (x : Option Text) (i j : ℕ) (ns : List ItemName) → (b ≡ true → i ≡ j) → name_in_front b x i ns ≡ name_in_front b x j ns
where-same true x i j ns h = ap (λ k. name_in_front true x k ns) (h refl)
where-same false x i j ns h = refl

-- where all have one space, any number serves that is right for it
items-same : (s u : Space) (i j p : ℕ) (ids : List (Option Id)) (labels : List (Option Text)) (ss : List Space) → EachIs u ss → (s ≡ u → i ≡ j) → item_names s i p ids labels ss ≡ item_names s j p ids labels ss
items-same s u i j p ids labels [] h e = refl
items-same s u i j p ids labels (t ∷ ts) h e =
    where-same (same_space s t) (label_or_id (first_or_none labels) (first_or_none ids)) (i + p) (j + p) (item_names s i (p + 1) (rest_of ids) (rest_of labels) ts) (λ q. ap (λ (n : ℕ). n + p) (e (same_space-true s t q ∙ h.0)))
    ∙ ap (name_in_front (same_space s t) (label_or_id (first_or_none labels) (first_or_none ids)) (j + p)) (items-same s u i j (p + 1) (rest_of ids) (rest_of labels) ts h.1 e)

first-serves : (s : Space) (c : Counters) (ids : List (Option Id)) (labels : List (Option Text)) (ss : List Space) → AllSame ss → item_names s (first_index ss c) 0 ids labels ss ≡ item_names s (c.counts s) 0 ids labels ss
first-serves s c ids labels [] h = refl
first-serves s c ids labels (u ∷ ss) h = items-same s u (c.counts u) (c.counts s) 0 ids labels (u ∷ ss) (refl, h) (λ e. ap c.counts (sym e))

next : (k n : ℕ) → (k + 1) + n ≡ k + suc n
next k n = omega arith

sum-assoc : (x y z : ℕ) → x + (y + z) ≡ (x + y) + z
sum-assoc x y z = omega arith

none-more : (k : ℕ) → k ≡ k + 0
none-more k = omega arith

from-zero : (k : ℕ) → 0 + k ≡ k
from-zero k = omega arith

tabled-by : (ms : List Opened) (s : Space) (g : ℕ → ℕ) (k : ℕ) (c : Counters) (ds : Defs) → DefsRowed ds → ((n : ℕ) → g (k + n) ≡ slice_index (counted_table ms c ds) n) → named_by g s (names_from k ds) ≡ names_tabled ms s c ds
tabled-by ms s g k c no_def h e = refl
tabled-by ms s g k c (one_def (define names (row t ls)) ds) h e =
    parts-by g s k 0 names.ids names.labels (declares_row t ls) (names_from (k + 1) ds)
    ∙ ap (λ (i : ℕ). item_names s i 0 names.ids names.labels (declares_row t ls) ++ named_by g s (names_from (k + 1) ds)) (ap g (none-more k) ∙ e 0)
    ∙ ap (λ xs. xs ++ named_by g s (names_from (k + 1) ds)) (first-serves s (past ms ls c) names.ids names.labels (declares_row t ls) h.1)
    ∙ ap (λ xs. item_names s ((past ms ls c).counts s) 0 names.ids names.labels (declares_row t ls) ++ xs) (tabled-by ms s g (k + 1) (advanced (declares_row t ls) (past ms ls c)) ds h.4 (λ n. ap g (next k n) ∙ e (suc n)))

counted-by : (s : Space) (f : ℕ → ℕ) (b k : ℕ) (ds : Defs) → ((n : ℕ) → f (k + n) ≡ b + declared_before s ds n) → named_by f s (names_from k ds) ≡ names_counted s b ds
counted-by s f b k no_def e = refl
counted-by s f b k (one_def (define names (row t ls)) ds) e =
    parts-by f s k 0 names.ids names.labels (declares_row t ls) (names_from (k + 1) ds)
    ∙ ap (λ (i : ℕ). item_names s i 0 names.ids names.labels (declares_row t ls) ++ named_by f s (names_from (k + 1) ds)) (ap f (none-more k) ∙ e 0 ∙ sym (none-more b))
    ∙ ap (λ xs. item_names s b 0 names.ids names.labels (declares_row t ls) ++ xs) (counted-by s f (b + count_in s (declares_row t ls)) (k + 1) ds (λ n. ap f (next k n) ∙ e (suc n) ∙ sum-assoc b (count_in s (declares_row t ls)) (declared_before s ds n)))

-- ---- a scope

-- what is to be known of a new list, beside the list as it was
pub record SameNames (ms : List Opened) (old new : Defs) : Type 0 where
  pub counted : (s : Space) → names_counted s 0 new ≡ names_tabled ms s no_counts old
  pub any : any_in new ≡ any_in old

module _ (ms : List Opened) (kind : ScopeKind) (id : Option Id) (label : Option Text) (old new : Defs) (h : SameNames ms old new) where
  pub has-same : has_names (scope_of kind id label new) ≡ has_names (scope_of kind id label old)
  has-same = ap (λ b. is_component kind && (is_some (own_name (scope_of kind id label old)) || b)) (any-from 0 new ∙ h.any ∙ sym (any-from 0 old))

  names-same : DefsRowed old → (s : Space) → names_along new s (names_from 0 new) ≡ names_at (counted_table ms no_counts old) s (names_from 0 old)
  names-same r s =
      along-by new s (names_from 0 new) ∙ counted-by s (declared_before s new) 0 0 new (λ n. ap (declared_before s new) (from-zero n) ∙ sym (from-zero (declared_before s new n)))
      ∙ h.counted s
      ∙ sym (tabled-by ms s (slice_index (counted_table ms no_counts old)) 0 no_counts old r (λ n. ap (slice_index (counted_table ms no_counts old)) (from-zero n)))
      ∙ sym (at-by (counted_table ms no_counts old) s (names_from 0 old))

  maps-same : DefsRowed old → (ss : List Space) → maps_along new (names_from 0 new) ss ≡ maps_at (counted_table ms no_counts old) (names_from 0 old) ss
  maps-same r [] = refl
  maps-same r (s ∷ ss) =
      ap (λ ns. map_in_front s ns (maps_along new (names_from 0 new) ss)) (names-same r s)
      ∙ ap (map_in_front s (names_at (counted_table ms no_counts old) s (names_from 0 old))) (maps-same r ss)

  pub list-same : DefsRowed old → list_names (scope_of kind id label new) ≡ names_by (counted_table ms no_counts old) (scope_of kind id label old)
  list-same r = ap (λ maps. record { component = own_name (scope_of kind id label old); maps = maps }) (maps-same r all_spaces)
