-- Lists that grow.
use Rattle.std.proofs.Common.{◌≡◌, ℕ, ◌+◌, ◌<◌, refl, sym, ap, ◌∙◌, subst, Bool, false, true, ◌||◌, cond, List, [], ◌∷◌, ◌++◌, append_assoc, append-nil, length, map, drop, get_or, arith, None, Option}
use Rattle.std.proofs.lemmas.List.{drop_more, map-append}
use Rattle.comp_model.specs.declared.Space.{Space}
use Rattle.comp_model.specs.CoreModules.{CoreModule}
use Rattle.comp_model.specs.ItemNames.{part_names, any_named, name_in_front}
use Rattle.comp_model.specs.Model as m
use Rattle.comp_model.specs.Model.{one_def, define, no_names, row}
use Rattle.comp_model.specs.NameMaps.{ItemName}
use Rattle.comp_model.specs.Payloads.{producers_payload}
use Rattle.comp_model.specs.declared.row.Row.TheVariants as rows
use Rattle.comp_model.specs.declared.row.Row.{Row}
use Rattle.comp_model.specs.RowNumbers.{same_row}
use Rattle.comp_model.proofs.Tests.{same_row-true}
use Rattle.std.specs.Prelude.{codes}
use Rattle.std.proofs.Math.Bool.{or_assoc}
use Rattle.comp_model.specs.Spaces.{declares_row, declares, count_in, count_items, same_space}
use Rattle.comp_model.specs.Origins.{origin_then}
use Rattle.comp_scopes.specs.Encoding.{Encoding}
use Rattle.comp_scopes.specs.Form.{Made, coded_node, custom_node, spaces_of, binary_defs, origins_of}
use Rattle.comp_scopes.specs.Names.{first_of_two}
use Rattle.comp_scopes.specs.Resolved.{binary_of_defs, binary_of_leaves, binary_of_node}
use Rattle.comp_expanded.specs.IsResolved.{LeavesResolved, DefsResolved}
use Rattle.comp_expanded.specs.TextNumbers.{definition_of}
use Rattle.comp_tables.specs.Built.{missing_roots, missing, renumbered}
use Rattle.comp_tables.specs.InText.{text_held}
use Rattle.comp_tables.specs.Tables.{Counters, Opened, advanced, past, needs, found_indices}
use Rattle.comp_tables.specs.Walks.{counters_in, all_more}
use Rattle.comp_tables.proofs.Counters.{list-advanced}
use Rattle.comp_wire.specs.Origins.{origin_of}
use Rattle.comp_tree.specs.declared.tree.Def.{Def}
use Rattle.comp_tree.specs.Lists.{listed, node_of, def_of, defs_listed}
use Rattle.comp_tree.specs.Marks.{places_in, inside_listed}
use Rattle.open_scopes.specs.declared.scopes.Open.{Open}
use Rattle.open_scopes.specs.Shown.{OpenScopesShow}
use Rattle.tree_names.specs.declared.generated.Generated.{Generated}
use Rattle.tree_names.specs.Generated.{generated_made}
use Rattle.tree_names.specs.Rooted.{Rooted}
use Rattle.tree_names.specs.Served.{all_served}
use Rattle.tree_names.proofs.Kept.{declares-binary}
use Rattle.tree_resolve.specs.ListNames.{item_names, names_counted, any_in}
use Rattle.tree_resolve.specs.Made.{made_of, mades, own_names, AliasesBehind, WhereServed, BuiltBy, DefBuilt}
use Rattle.tree_resolve.specs.Tabled.{bare}
use Rattle.tree_resolve.specs.Planned.{planned_listed, planned_defs}
use Rattle.tree_resolve.proofs.NeedsCount.{declared_in, declared-append, past-needs}

or-none : (b : Bool) → (b || false) ≡ b
or-none true = refl
or-none false = refl

-- ---- what a list is, with one more definition

pub mades-more : (e : Encoding) (C : List CoreModule) (xs : List Def) (d : Def) → mades e C (xs ++ d ∷ []) ≡ mades e C xs ++ made_of e C d ∷ []
mades-more e C xs d = map-append (made_of e C) xs (d ∷ [])

-- definitions of the binary, with others behind them
pub mades-binary : (e : Encoding) (C : List CoreModule) (xs : List Def) (more : List Made) → binary_of_defs e (defs_listed C xs) (binary_defs more) ≡ binary_defs (mades e C xs ++ more)
mades-binary e C [] more = refl
mades-binary e C (x ∷ xs) more = ap (one_def (define no_names (binary_of_node e (node_of C x.node)))) (mades-binary e C xs more)

-- and their marks
pub mades-marks : (e : Encoding) (C : List CoreModule) (xs : List Def) (more : List Made) → planned_defs C (origins_of more) xs ≡ origins_of (mades e C xs ++ more)
mades-marks e C [] more = refl
mades-marks e C (x ∷ xs) more = ap (origin_then (origin_of x.origin) (planned_listed C x.node.leaves.now)) (mades-marks e C xs more)

-- a node of the binary declares what its definition does
coded-spaces : (e : Encoding) (t : Row) (ls : m.Leaves) → spaces_of (coded_node e t ls (binary_of_leaves e ls)) ≡ declares_row t ls
coded-spaces e t ls = go (same_row t rows.Producers) refl
  where
    go : (b : Bool) → same_row t rows.Producers ≡ b → spaces_of (cond b (custom_node (codes "producers") (producers_payload ls)) (row t (binary_of_leaves e ls))) ≡ declares_row t ls
    go false q = declares-binary e t ls
    go true q = sym (ap (λ x. declares_row x ls) (same_row-true t rows.Producers q))

pub items-made : (e : Encoding) (C : List CoreModule) (s : Space) (xs : List Def) → count_items s (defs_listed C xs) ≡ declared_in s (mades e C xs)
items-made e C s [] = refl
items-made e C s (x ∷ xs) =
    ap (λ (n : ℕ). count_in s (declares (def_of C x)) + n) (items-made e C s xs) ∙ ap (λ ss. count_in s ss + declared_in s (mades e C xs)) (sym (coded-spaces e x.node.row (listed C x.node.leaves.now)))

plus-none : (a : ℕ) → a + 0 ≡ a
plus-none a = omega arith

plus-assoc : (a b c : ℕ) → (a + b) + c ≡ a + (b + c)
plus-assoc a b c = omega arith

pub items-more : (C : List CoreModule) (s : Space) (xs : List Def) (d : Def) → count_items s (defs_listed C (xs ++ d ∷ [])) ≡ count_items s (defs_listed C xs) + count_in s (declares (def_of C d))
items-more C s [] d = omega arith
items-more C s (x ∷ xs) d = ap (λ (n : ℕ). count_in s (declares (def_of C x)) + n) (items-more C s xs d) ∙ sym (plus-assoc (count_in s (declares (def_of C x))) (count_items s (defs_listed C xs)) (count_in s (declares (def_of C d))))

pub named-more : (C : List CoreModule) (s : Space) (b : ℕ) (xs : List Def) (d : Def)
    → names_counted s b (defs_listed C (xs ++ d ∷ [])) ≡ names_counted s b (defs_listed C xs) ++ item_names s (b + count_items s (defs_listed C xs)) 0 (own_names d).ids (own_names d).labels (declares (def_of C d))
named-more C s b [] d = append-nil (item_names s b 0 (own_names d).ids (own_names d).labels (declares (def_of C d))) ∙ ap (λ (n : ℕ). item_names s n 0 (own_names d).ids (own_names d).labels (declares (def_of C d))) (sym (plus-none b))
named-more C s b (x ∷ xs) d =
    let n : ℕ = count_in s (declares (def_of C x)) in
    let here : List ItemName = item_names s b 0 (own_names x).ids (own_names x).labels (declares (def_of C x)) in
    ap (λ z. here ++ z) (named-more C s (b + n) xs d)
    ∙ sym (append_assoc here (names_counted s (b + n) (defs_listed C xs)) (item_names s ((b + n) + count_items s (defs_listed C xs)) 0 (own_names d).ids (own_names d).labels (declares (def_of C d))))
    ∙ ap (λ (k : ℕ). (here ++ names_counted s (b + n) (defs_listed C xs)) ++ item_names s k 0 (own_names d).ids (own_names d).labels (declares (def_of C d))) (plus-assoc b n (count_items s (defs_listed C xs)))

pub any-more : (C : List CoreModule) (xs : List Def) (d : Def) → any_in (defs_listed C (xs ++ d ∷ [])) ≡ (any_in (defs_listed C xs) || any_named (part_names 0 0 (own_names d).ids (own_names d).labels (declares (def_of C d))))
any-more C [] d = or-none (any_named (part_names 0 0 (own_names d).ids (own_names d).labels (declares (def_of C d))))
any-more C (x ∷ xs) d =
    ap (λ b. any_named (part_names 0 0 (own_names x).ids (own_names x).labels (declares (def_of C x))) || b) (any-more C xs d)
    ∙ sym (or_assoc (any_named (part_names 0 0 (own_names x).ids (own_names x).labels (declares (def_of C x)))) (any_in (defs_listed C xs)) (any_named (part_names 0 0 (own_names d).ids (own_names d).labels (declares (def_of C d)))))

pub resolved-more : (C : List CoreModule) (xs : List Def) (d : Def) → (own_names d).exports ≡ [] → LeavesResolved (listed C d.node.leaves.now) → DefsResolved (defs_listed C xs) → DefsResolved (defs_listed C (xs ++ d ∷ []))
resolved-more C [] d e r h = (e, r, tt)
resolved-more C (x ∷ xs) d e r h = (h.0, h.1, resolved-more C xs d e r h.2)

-- ---- one more alias, which has no name

nameless-items : (s : Space) (b p : ℕ) (ss : List Space) → item_names s b p [] [] ss ≡ []
nameless-items s b p [] = refl
nameless-items s b p (t ∷ ts) = go s t b p ts (nameless-items s b (p + 1) ts)
  where
    go : (s t : Space) (b p : ℕ) (ts : List Space) → item_names s b (p + 1) [] [] ts ≡ [] → item_names s b p [] [] (t ∷ ts) ≡ []
    go s t b p ts h = none (same_space s t) (b + p) (item_names s b (p + 1) [] [] ts) ∙ h
      where
        none : (q : Bool) (i : ℕ) (ns : List ItemName) → name_in_front q None i ns ≡ ns
        none true i ns = refl
        none false i ns = refl

nameless-any : (p : ℕ) (ss : List Space) → any_named (part_names 0 p [] [] ss) ≡ false
nameless-any p [] = refl
nameless-any p (t ∷ ts) = nameless-any (p + 1) ts

pub aliases-start : (C : List CoreModule) (number : ℕ → ℕ) (j : ℕ) (all : List Generated) (old : List Def) → AliasesBehind C number j all all old old
aliases-start C number j all old = record { grown = λ e. refl; named = λ s b. refl; any = refl; resolved = λ h. h }

pub alias-more : (C : List CoreModule) (number : ℕ → ℕ) (j : ℕ) (all : List Generated) (old now new : List Def) (n : ℕ) (w : Generated) (d : Def) → n < length all → new ≡ now ++ d ∷ [] → ((e : Encoding) → made_of e C d ≡ generated_made number j (get_or all n w)) → LeavesResolved (listed C d.node.leaves.now) → own_names d ≡ no_names
    → AliasesBehind C number j all (drop n all) old now → AliasesBehind C number j all (drop (n + 1) all) old new
alias-more C number j all old now new n w d h p b r q k = subst (AliasesBehind C number j all (drop (n + 1) all) old) (sym p) (record {
  grown = λ e.
      ap (λ z. z ++ map (generated_made number j) (drop (n + 1) all)) (mades-more e C now d)
      ∙ append_assoc (mades e C now) (made_of e C d ∷ []) (map (generated_made number j) (drop (n + 1) all))
      ∙ ap (λ z. mades e C now ++ z ∷ map (generated_made number j) (drop (n + 1) all)) (b e)
      ∙ ap (λ z. mades e C now ++ map (generated_made number j) z) (sym (drop_more all n w h))
      ∙ k.grown e;
  named = λ s i.
      named-more C s i now d
      ∙ ap (λ (z : m.Names). names_counted s i (defs_listed C now) ++ item_names s (i + count_items s (defs_listed C now)) 0 z.ids z.labels (declares (def_of C d))) q
      ∙ ap (λ z. names_counted s i (defs_listed C now) ++ z) (nameless-items s (i + count_items s (defs_listed C now)) 0 (declares (def_of C d)))
      ∙ append-nil (names_counted s i (defs_listed C now))
      ∙ k.named s i;
  any = any-more C now d ∙ ap (λ (z : m.Names). any_in (defs_listed C now) || any_named (part_names 0 0 z.ids z.labels (declares (def_of C d)))) q ∙ ap (λ z. any_in (defs_listed C now) || z) (nameless-any 0 (declares (def_of C d))) ∙ or-none (any_in (defs_listed C now)) ∙ k.any;
  resolved = λ z. resolved-more C now d (ap (λ (y : m.Names). y.exports) q) r (k.resolved z);
})

-- ---- one more definition, behind what it needs

-- what a definition becomes
pub record BecomesDef (e : Encoding) (C : List CoreModule) (os : List Open) (counts : List ℕ) (served : List (Option ℕ)) (d r : Def) : Type 0 where
  pub origin : r.origin ≡ d.origin
  pub names : own_names r ≡ own_names d
  pub head : r.node.row ≡ d.node.row
  pub declares : declares_row d.node.row (listed C r.node.leaves.now) ≡ declares_row d.node.row (listed C d.node.leaves.now)
  pub resolved : LeavesResolved (listed C r.node.leaves.now)
  pub made : WhereServed C os counts served d (λ ms c more.
      coded_node e d.node.row (listed C r.node.leaves.now) (binary_of_leaves e (listed C r.node.leaves.now))
      ≡ coded_node e d.node.row (listed C d.node.leaves.now) (renumbered e ms (found_indices ms (listed C d.node.leaves.now) c) 0 (listed C d.node.leaves.now)))
  pub held : (ms : List Opened) → OpenScopesShow os ms → planned_listed C r.node.leaves.now ≡ text_held e ms (listed C d.node.leaves.now) (inside_listed C d.node.leaves.now)

-- what stands before it
pub record Needed (e : Encoding) (C : List CoreModule) (os : List Open) (counts : List ℕ) (served : List (Option ℕ)) (d : Def) (old mid : List Def) : Type 0 where
  pub grown : WhereServed C os counts served d (λ ms c more. mades e C mid ≡ mades e C old ++ needs ms (definition_of (origin_of d.origin)) (places_in C d) (listed C d.node.leaves.now) c)
  pub named : (s : Space) (b : ℕ) → names_counted s b (defs_listed C mid) ≡ names_counted s b (defs_listed C old)
  pub any : any_in (defs_listed C mid) ≡ any_in (defs_listed C old)
  pub resolved : DefsResolved (defs_listed C old) → DefsResolved (defs_listed C mid)

module _ {e : Encoding} {C : List CoreModule} {os : List Open} {counts : List ℕ} {served : List (Option ℕ)} {d r : Def} {old mid : List Def} (n : Needed e C os counts served d old mid) (b : BecomesDef e C os counts served d r) where
  abbrev leaves : m.Leaves
  leaves = listed C d.node.leaves.now

  abbrev head : Row
  head = d.node.row

  new-declares : declares (def_of C r) ≡ declares_row head leaves
  new-declares = ap (λ t. declares_row t (listed C r.node.leaves.now)) b.head ∙ b.declares

  new-made : WhereServed C os counts served d (λ ms c more.
      made_of e C r ≡ record { origin = origin_of d.origin; held = text_held e ms leaves (inside_listed C d.node.leaves.now); made = coded_node e head leaves (renumbered e ms (found_indices ms leaves c) 0 leaves) })
  new-made ms c more w x y =
      ap (λ o. record { origin = origin_of o; held = planned_listed C r.node.leaves.now; made = binary_of_node e (node_of C r.node) }) b.origin
      ∙ ap (λ h. record { origin = origin_of d.origin; held = h; made = binary_of_node e (node_of C r.node) }) (b.held ms w)
      ∙ ap (λ t. record { origin = origin_of d.origin; held = text_held e ms leaves (inside_listed C d.node.leaves.now); made = coded_node e t (listed C r.node.leaves.now) (binary_of_leaves e (listed C r.node.leaves.now)) }) b.head
      ∙ ap (λ z. record { origin = origin_of d.origin; held = text_held e ms leaves (inside_listed C d.node.leaves.now); made = z }) (b.made ms c more w x y)

  -- the list has the items that the counters behind its needs say
  mid-items : (s : Space) → WhereServed C os counts served d (λ ms c more. count_items s (defs_listed C old) ≡ c.counts s → count_items s (defs_listed C mid) ≡ (past ms leaves c).counts s)
  mid-items s ms c more w x y h =
      let j : ℕ = definition_of (origin_of d.origin) in
      let vs : List ℕ = places_in C d in
      items-made e C s mid ∙ ap (declared_in s) (n.grown ms c more w x y) ∙ declared-append s (mades e C old) (needs ms j vs leaves c)
      ∙ ap (λ (k : ℕ). k + declared_in s (needs ms j vs leaves c)) (sym (items-made e C s old) ∙ h)
      ∙ sym (past-needs ms j vs leaves c s)

  -- by the counters c in front of it
  built-by : (new : List Def) (behind : List ℕ) (ms : List Opened) (c : Counters) (more : List (Option ℕ)) → OpenScopesShow os ms → counters_in counts ≡ c.counts → served ≡ all_served ms leaves c ++ more → new ≡ mid ++ r ∷ []
      → counters_in behind ≡ (advanced (declares_row head leaves) (past ms leaves c)).counts → BuiltBy e C ms c d old new behind
  built-by new behind ms c more w x y p q = record {
    counts = q;
    grown =
        ap (mades e C) p ∙ mades-more e C mid r ∙ ap (λ z. z ++ made_of e C r ∷ []) (n.grown ms c more w x y)
        ∙ append_assoc (mades e C old) (needs ms (definition_of (origin_of d.origin)) (places_in C d) leaves c) (made_of e C r ∷ [])
        ∙ ap (λ z. mades e C old ++ (needs ms (definition_of (origin_of d.origin)) (places_in C d) leaves c ++ z ∷ [])) (new-made ms c more w x y);
    items = λ t h.
        ap (λ z. count_items t (defs_listed C z)) p ∙ items-more C t mid r ∙ ap (λ (i : ℕ). i + count_in t (declares (def_of C r))) (mid-items t ms c more w x y h)
        ∙ ap (λ ss. (past ms leaves c).counts t + count_in t ss) new-declares ∙ sym (ap (λ (f : Space → ℕ). f t) q);
    named = λ t h.
        ap (λ z. names_counted t 0 (defs_listed C z)) p ∙ named-more C t 0 mid r
        ∙ ap (λ z. z ++ item_names t (0 + count_items t (defs_listed C mid)) 0 (own_names r).ids (own_names r).labels (declares (def_of C r))) (n.named t 0)
        ∙ ap (λ (i : ℕ). names_counted t 0 (defs_listed C old) ++ item_names t i 0 (own_names r).ids (own_names r).labels (declares (def_of C r))) (zero-plus (count_items t (defs_listed C mid)) ∙ mid-items t ms c more w x y h)
        ∙ ap (λ (z : m.Names). names_counted t 0 (defs_listed C old) ++ item_names t ((past ms leaves c).counts t) 0 z.ids z.labels (declares (def_of C r))) b.names
        ∙ ap (λ ss. names_counted t 0 (defs_listed C old) ++ item_names t ((past ms leaves c).counts t) 0 (own_names d).ids (own_names d).labels ss) new-declares;
  }
    where
      zero-plus : (i : ℕ) → 0 + i ≡ i
      zero-plus i = omega arith

  -- `front` are the counts behind what it needs
  pub definition-built : (new : List Def) (front behind : List ℕ) (left : List (Option ℕ)) (spaces : List Space) → new ≡ mid ++ r ∷ [] → length front ≡ 13 → WhereServed C os counts served d (λ ms c more. counters_in front ≡ (past ms leaves c).counts)
      → WhereServed C os counts served d (λ ms c more. left ≡ more) → spaces ≡ declares_row head leaves → behind ≡ all_more front spaces → Rooted os (λ ms. first_of_two (missing_roots ms leaves) (missing e ms leaves)) → (own_names d).exports ≡ []
      → DefBuilt e C os counts served d old new behind left
  definition-built new front behind left spaces p z g t s a k x =
      record {
        sized = ap length a ∙ (list-advanced front spaces (bare front) z refl).0;
        known = k;
        taken = t;
        by = λ ms c more w u v. built-by new behind ms c more w u v p (ap counters_in a ∙ (list-advanced front spaces (past ms leaves c) z (g ms c more w u v)).1 ∙ ap (λ ss. (advanced ss (past ms leaves c)).counts) s);
        any =
            ap (λ q. any_in (defs_listed C q)) p ∙ any-more C mid r ∙ ap (λ q. q || any_named (part_names 0 0 (own_names r).ids (own_names r).labels (declares (def_of C r)))) n.any
            ∙ ap (λ (y : m.Names). any_in (defs_listed C old) || any_named (part_names 0 0 y.ids y.labels (declares (def_of C r)))) b.names
            ∙ ap (λ ss. any_in (defs_listed C old) || any_named (part_names 0 0 (own_names d).ids (own_names d).labels ss)) new-declares;
        resolved = λ h. subst (λ q. DefsResolved (defs_listed C q)) (sym p) (resolved-more C mid r (ap (λ (y : m.Names). y.exports) b.names ∙ x) b.resolved (n.resolved h));
      }
