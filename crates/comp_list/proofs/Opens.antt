-- Open scopes, the innermost first.
use Rattle.std.proofs.Common.{◌≡◌, ℕ, zero, suc, ◌-◌, ◌<◌, ◌≤◌, refl, sym, ap, ◌∙◌, subst, List, [], ◌∷◌, map, length, drop, get_or, slice_get, Option, Some, None, Bor, arith}
use Rattle.std.specs.Prelude.{option_map}
use Rattle.comp_model.specs.declared.Space.{Space}
use Rattle.comp_model.specs.Model.{Node as Row, row, Def, Defs, define, no_names}
use Rattle.comp_model.specs.Spaces.{item_of, items_from, Declaration}
use Rattle.wire_tree.specs.Lists.{listed, node_of, defs_listed}
use Rattle.item_tree.specs.Model as items
use Rattle.item_tree.specs.Model.{item_row}
use Rattle.item_tree.specs.declared.tree.Item.{Item}
use Rattle.wire_tree.specs.declared.tree.Leaf.{Leaf}
use Rattle.wire_tree.specs.declared.tree.Node.{Node}
use Rattle.comp_list.specs.declared.line.Led.TheVariants.{Not}
use Rattle.comp_list.specs.declared.line.Spot.{Spot}
use Rattle.comp_list.specs.declared.open.Around.{Around}
use Rattle.comp_list.specs.declared.open.Around as a
use Rattle.comp_list.specs.declared.open.Open.{Open}
use Rattle.comp_list.specs.declared.open.OpenDefs.{OpenDefs}
use Rattle.comp_list.specs.declared.open.OpenDefs.TheVariants as o
use Rattle.comp_list.specs.Alias.{row_led}
use Rattle.comp_list.specs.declared.reference.Reference.{Reference}
use Rattle.comp_list.specs.Listing.{spot_of, or_none, spot_at, def_at, index_of_alias, led_to, led_by, led_by_def, led_in}
use Rattle.comp_list.specs.Open.{defs_in, scopes_of, AllFound}
use Rattle.comp_list.specs.Spots.{HasSpots, spots_of}

dropped : (left : ℕ) (ds : Defs) (rest : List Defs) → 0 < left → drop left (ds ∷ rest) ≡ drop (left - 1) rest
dropped zero ds rest h = absurd (omega (arith, h))
dropped (suc n) ds rest h = let z : suc n - 1 ≡ n = omega arith in ap (λ k. drop k rest) (sym z)

module _ (x : Around) (o : Bor Open) (e : x ≡ a.Scope o) where
  inside : scopes_of x ≡ defs_in o.now.defs ∷ scopes_of o.now.outer
  inside = ap scopes_of e

  pub goes_outward : (left : ℕ) → 0 < left → drop (left - 1) (scopes_of o.now.outer) ≡ drop left (scopes_of x)
  goes_outward left h = sym (dropped left (defs_in o.now.defs) (scopes_of o.now.outer) h) ∙ sym (ap (drop left) inside)

  pub found_outward : AllFound x → AllFound o.now.outer
  found_outward f = (subst AllFound e f).1

  found_here : AllFound x → HasSpots o.now.spots.now (defs_in o.now.defs)
  found_here f = (subst AllFound e f).0

get_first : (xs : List Defs) (n : ℕ) (d : Defs) (rest : List Defs) → d ∷ rest ≡ drop n xs → slice_get xs n ≡ Some d
get_first [] zero d rest e = absurd (not_empty e)
  where
    not_empty : d ∷ rest ≡ [] → ⊥
    not_empty q = let z : length (d ∷ rest) ≡ 0 = ap length q in omega (arith, z)
get_first [] (suc n) d rest e = absurd (not_empty e)
  where
    not_empty : d ∷ rest ≡ [] → ⊥
    not_empty q = let z : length (d ∷ rest) ≡ 0 = ap length q in omega (arith, z)
get_first (x ∷ xs) zero d rest e = sym (ap (λ q. slice_get q 0) e)
get_first (x ∷ xs) (suc n) d rest e = get_first xs n d rest e

past_few : (xs : List Defs) (n : ℕ) (d : Defs) (rest : List Defs) → d ∷ rest ≡ drop n xs → n < length xs
past_few [] zero d rest e = let z : length (d ∷ rest) ≡ 0 = ap length e in absurd (omega (arith, z))
past_few [] (suc n) d rest e = let z : length (d ∷ rest) ≡ 0 = ap length e in absurd (omega (arith, z))
past_few (x ∷ xs) zero d rest e = omega arith
past_few (x ∷ xs) (suc n) d rest e = omega (arith, past_few xs n d rest e)

get_past : (xs : List Defs) (n : ℕ) → [] ≡ drop n xs → slice_get xs n ≡ None
get_past [] n e = refl
get_past (x ∷ xs) zero e = let z : 0 ≡ length (x ∷ xs) = ap length e in absurd (omega (arith, z))
get_past (x ∷ xs) (suc n) e = get_past xs n e

module _ (x : Around) (scopes : List Defs) (n : ℕ) (s : scopes_of x ≡ drop n scopes) where
  pub nothing_there : x ≡ a.Nothing → slice_get scopes n ≡ None
  nothing_there e = get_past scopes n (sym (ap scopes_of e) ∙ s)

  -- a scope so many outward is one of these
  pub scope_among : (o : Bor Open) → x ≡ a.Scope o → n < length scopes
  scope_among o e = past_few scopes n (defs_in o.now.defs) (scopes_of o.now.outer) (sym (inside x o e) ∙ s)

  pub scope_there : (o : Bor Open) → x ≡ a.Scope o → slice_get scopes n ≡ Some (defs_in o.now.defs)
  scope_there o e = get_first scopes n (defs_in o.now.defs) (scopes_of o.now.outer) (sym (inside x o e) ∙ s)

get_map : (xs : List Declaration) (i : ℕ) → slice_get (map spot_of xs) i ≡ option_map spot_of (slice_get xs i)
get_map [] i = refl
get_map (x ∷ xs) zero = refl
get_map (x ∷ xs) (suc i) = get_map xs i

module _ (x : Around) (scopes : List Defs) (n : ℕ) (s : scopes_of x ≡ drop n scopes) (space : Space) (i : ℕ) where
  pub no_spot : x ≡ a.Nothing → None ≡ spot_at scopes n space i
  no_spot e = sym (ap (λ o. or_none o (λ ds. option_map spot_of (item_of ds space i))) (nothing_there x scopes n s e))

  pub some_spot : (o : Bor Open) → x ≡ a.Scope o → AllFound x → slice_get (spots_of o.now.spots.now space) i ≡ spot_at scopes n space i
  some_spot o e f =
      ap (λ q. slice_get q i) (found_here x o e f space)
      ∙ get_map (items_from space 0 (defs_in o.now.defs)) i
      ∙ sym (ap (λ o. or_none o (λ ds. option_map spot_of (item_of ds space i))) (scope_there x scopes n s o e))

-- an alias has two leaves at least
few_leaves : (xs : List Leaf) → length xs < 2 → index_of_alias (listed xs) ≡ None
few_leaves [] h = refl
few_leaves (x ∷ []) h = refl
few_leaves (x ∷ y ∷ xs) h = absurd (omega (arith, h))

led_none : (scopes : List Defs) (up : ℕ) (c : Option ℕ) (r : Option Reference) → r ≡ None → Not ≡ led_to scopes up c r
led_none scopes up None r e = refl
led_none scopes up (Some c) r e = sym (ap (led_to scopes up (Some c)) e)

pub led_by_few : (scopes : List Defs) (up : ℕ) (n : Node) → length n.leaves.now < 2 → Not ≡ led_by scopes up n.row (listed n.leaves.now)
led_by_few scopes up n h = led_none scopes up _ _ (few_leaves n.leaves.now h)

pub def_known : (defs : List Node) (k : ℕ) (d : Node) → k < length defs → def_at (defs_listed defs) k ≡ Some (define no_names (node_of (get_or defs k d)))
def_known [] k d h = absurd (omega (arith, h))
def_known (n ∷ ns) zero d h = refl
def_known (n ∷ ns) (suc k) d h = def_known ns k d (omega (arith, h))

pub def_unknown : (defs : List Node) (k : ℕ) → length defs ≤ k → def_at (defs_listed defs) k ≡ None
def_unknown [] k h = refl
def_unknown (n ∷ ns) zero h = absurd (omega (arith, h))
def_unknown (n ∷ ns) (suc k) h = def_unknown ns k (omega (arith, h))

pub item_known : (xs : List Item) (k : ℕ) (d : Item) → k < length xs → def_at (items.defs_listed xs) k ≡ Some (define no_names (item_row (get_or xs k d)))
item_known [] k d h = absurd (omega (arith, h))
item_known (x ∷ xs) zero d h = refl
item_known (x ∷ xs) (suc k) d h = item_known xs k d (omega (arith, h))

pub item_unknown : (xs : List Item) (k : ℕ) → length xs ≤ k → def_at (items.defs_listed xs) k ≡ None
item_unknown [] k h = refl
item_unknown (x ∷ xs) zero h = absurd (omega (arith, h))
item_unknown (x ∷ xs) (suc k) h = item_unknown xs k (omega (arith, h))

-- where a definition of an open scope leads
module _ (scopes : List Defs) (up : ℕ) (ds : OpenDefs) (k : ℕ) where
  led_at : (o : Option Def) (ks : Defs) → defs_in ds ≡ ks → def_at ks k ≡ o → led_by_def scopes up o ≡ led_by_def scopes up (def_at (defs_in ds) k)
  led_at o ks e f = ap (led_by_def scopes up) (sym f ∙ ap (λ q. def_at q k) (sym e))

  pub row_led_at : (ns : Bor (List Node)) (d : Node) → ds ≡ o.Rows ns → k < length ns.now → led_by scopes up (get_or ns.now k d).row (listed (get_or ns.now k d).leaves.now) ≡ led_by_def scopes up (def_at (defs_in ds) k)
  row_led_at ns d e h = led_at _ (defs_listed ns.now) (ap defs_in e) (def_known ns.now k d h)

  pub no_row_at : (ns : Bor (List Node)) → ds ≡ o.Rows ns → length ns.now ≤ k → Not ≡ led_by_def scopes up (def_at (defs_in ds) k)
  no_row_at ns e h = led_at None (defs_listed ns.now) (ap defs_in e) (def_unknown ns.now k h)

  by_row : (n : Row) → row_led scopes up n ≡ led_by_def scopes up (Some (define no_names n))
  by_row (row t ls) = refl

  pub item_led_at : (xs : Bor (List Item)) (x : Item) → ds ≡ o.Items xs → k < length xs.now → x ≡ get_or xs.now k x → row_led scopes up (item_row x) ≡ led_by_def scopes up (def_at (defs_in ds) k)
  item_led_at xs x e h is =
      ap (λ y. row_led scopes up (item_row y)) is
      ∙ by_row (item_row (get_or xs.now k x))
      ∙ led_at _ (items.defs_listed xs.now) (ap defs_in e) (item_known xs.now k x h)

  pub no_item_at : (xs : Bor (List Item)) → ds ≡ o.Items xs → length xs.now ≤ k → Not ≡ led_by_def scopes up (def_at (defs_in ds) k)
  no_item_at xs e h = led_at None (items.defs_listed xs.now) (ap defs_in e) (item_unknown xs.now k h)

module _ (scopes : List Defs) (up : ℕ) (x : Around) (s : scopes_of x ≡ drop up scopes) where
  pub led_nowhere : x ≡ a.Nothing → (there : Option Spot) → Not ≡ led_in scopes up (slice_get scopes up) there
  led_nowhere e there = sym (ap (λ o. led_in scopes up o there) (nothing_there x scopes up s e))

  module _ (o : Bor Open) (e : x ≡ a.Scope o) (there : Option Spot) (t : Spot) (is : there ≡ Some t) where
    pub led_here : led_in scopes up (slice_get scopes up) there ≡ led_by_def scopes up (def_at (defs_in o.now.defs) t.def)
    led_here = ap (led_in scopes up (slice_get scopes up)) is ∙ ap (λ q. led_in scopes up q (Some t)) (scope_there x scopes up s o e)
