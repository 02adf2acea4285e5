-- The first unmet demand of an expanded scope is that of the scope.
use Rattle.std.proofs.Common.{◌≡◌, ◌≢◌, ◌↔◌, ℕ, suc, ◌+◌, ◌<◌, Bool, true, false, ◌&&◌, cond, nat_lt, nat_eq, List, [], ◌∷◌, ◌++◌, length, find, is_some, slice_get, Option, Some, None, IsSome, refl, sym, ◌∙◌, ap, subst, arith, inl, inr}
use Rattle.std.proofs.lemmas.Bool.{eqb-true, eqb-false}
use Rattle.comp_model.specs.declared.Space.{Space}
use Rattle.comp_model.specs.declared.Space.TheVariants.{CoreType}
use Rattle.comp_model.specs.declared.row.Row.TheVariants as rows
use Rattle.comp_model.specs.declared.row.Row.{Row}
use Rattle.comp_model.specs.RowNumbers.{same_row}
use Rattle.comp_model.specs.Core.{Text, Id, same_id, Place, counted, named, Reach, outward, own, at_place, CoreValue, ref_name}
use Rattle.comp_model.specs.Model.{Leaf, text, number, kind, core_value, ref, place, absent, present, node, nodes, case_id, result_ids, result_count, core_source, module_bytes, scope, index, numeral, name, Path, root_number, root_name, export_of, path, inline, bundle, Leaves, no_leaf, ◌▸◌, row, Nodes, no_node, one_node, Names, Def, define, Defs, no_def, one_def, Scope, scope_of, defs_of}
use Rattle.comp_model.specs.Spaces.{declares_row, Declaration, declarations_from}
use Rattle.comp_model.specs.Origins.{Origin, written, inline_type, bundle_of}
use Rattle.comp_scopes.specs.Encoding.{Encoding}
use Rattle.comp_scopes.specs.Names.{Denoted, denotes, first_of_two}
use Rattle.comp_scopes.specs.References.{references, references_leaf, instance_space}
use Rattle.comp_scopes.specs.Signatures.{same_bool, same_reach, same_written_value, same_entry, same_written_values, same_written_signature, is_module_type, reused_signature}
use Rattle.comp_scopes.specs.Reused.{is_shared, Typed, typed_inline, typed_within, types_of_leaves, types_of_leaf, types_of_nodes, written_type, types_of_defs, types, reused}
use Rattle.comp_scopes.specs.Outward.{leads_out}
use Rattle.comp_scopes.specs.Rule.{may_reach, case_ids}
use Rattle.comp_scopes.specs.Unmet.{Unmet, unmet, Sought, sought, sought_both, sought_one, sought_inline, unmet_kind, unmet_path, kinds_of_leaves, kinds_of_leaf, kinds_of_nodes, kinds_of_defs, unmet_name, unmet_place, unmet_root, unmet_cases, unmet_core, unmet_of_defs, unmet_of_leaves, unmet_of_leaf, unmet_of_nodes, first_duplicate, first_unmet}
use Rattle.comp_scopes.specs.Rowed.{LeavesRowed, LeafRowed, NodesRowed, DefsRowed}
use Rattle.comp_expanded.specs.Expansion.{Naming, inside, given, the_id, generated_reach, id_of_mark, entry, first_id, ids_at, generated_names, given_names, Entry, entry_defs, Expanded, expand_inline, expand_leaves, expand_leaf, expand_nodes, expand_defs, expand_exports_of, expand_exports, expand}
use Rattle.comp_expanded.specs.OfText.{TextPlace, TextPath, LeavesOfText, LeafOfText, NodesOfText, DefsOfText}
use Rattle.comp_expanded.specs.Named.{IsGenerated, ExportsNamed, InlineNamed, LeavesNamed, LeafNamed, NodesNamed, DefsNamed}
use Rattle.comp_expanded.proofs.Stacks.{expand_stack}
use Rattle.comp_scopes.proofs.Lookup.{some-same}
use Rattle.comp_scopes.proofs.Same.{id-name, denotes-same}
use Rattle.comp_scopes.proofs.Quiet.{Quiet, none-both, none-first, quiet-one, one-quiet, quiet-both, both-quiet}
use Rattle.comp_expanded.proofs.Parts.{declares-expand}
use Rattle.comp_expanded.proofs.Index.{SameDenoted, Indexed, length-same, named-same, denoted-same, here-denoted}
use Rattle.comp_expanded.proofs.Duplicates.{same-duplicate}
use Rattle.comp_expanded.proofs.Firsts.{first-none}
use Rattle.comp_scopes.proofs.Among.{and-both}
use Rattle.comp_scopes.proofs.Types.{AllTyped, typed-app, app-assoc, Equal, equal-of, Decided, decided, behind-these}
use Rattle.comp_scopes.proofs.SameNodes.{SameLeaves, leaves-same}
use Rattle.comp_expanded.specs.IsExpanded.{LeavesExpanded, LeafExpanded, NodesExpanded}
use Rattle.comp_expanded.proofs.Alone.{leaves-bare}
use Rattle.comp_expanded.proofs.Ids.{EachListed, each-left, each-right, wanted, exports-bare}
use Rattle.comp_expanded.proofs.Ready.{In, in-self, entry-found}
use Rattle.comp_expanded.proofs.ScopeOf.{def_at, ids-of, SignatureAt, signature-at, first-found, OfFirst, EachExport}
use Rattle.comp_expanded.proofs.Listed.{Stood, reused-stood}
use Rattle.comp_expanded.proofs.NamingExpands.{named-any}
use Rattle.comp_expanded.proofs.Sought.{found, found-app, Finds, Bare, finds-plain, finds-weaken, finds-both, finds-one, one-holds, finds-inline, finds-bundle, reused-less, generated_reach-reached}
use Rattle.comp_expanded.proofs.QuietSame.{kinds-equal, names-equal}
use Rattle.comp_expanded.proofs.BuiltKept.{Level, scope_at, stack_at, expanded_at, list_of, inner}
use Rattle.comp_expanded.proofs.Index.{stack-indexed}
use Rattle.comp_model.specs.Origins.{inline_export, export_step, outer_alias_of, name_section}

indexed : (x : Level) → Indexed (stack_at x) (expanded_at x)
indexed x = stack-indexed (x.by ∷ x.gs) (stack_at x) x.all

-- ---- generated names lead to their own scope

abbrev Here : List Scope → Reach → Space → Id → Type 0
Here su r s y = (d : Denoted) × (denotes su s r y ≡ Some d) × (leads_out r (Some d) ≡ false)

found-here : (d : Scope) (su : List Scope) (b : Bool) (s : Space) (y : Id) (o : Option Declaration) → Rattle.comp_model.specs.Spaces.declared d s y ≡ o → is_some o ≡ true → Here (d ∷ su) (cond b own outward) s y
found-here d su b s y None e h = absurd (cc)
found-here d su b s y (Some a) e h = let q : (denotes (d ∷ su) s (cond b own outward) y ≡ Some (record { depth = 0; item = a })) × (leads_out (cond b own outward) (Some (record { depth = 0; item = a })) ≡ false) = here-denoted d su b s y a e in
    (record { depth = 0; item = a }, q.0, q.1)

entry-here : (x : Level) (b : Bool) (p : ℕ) (v : Entry) (y : Id) (ids : List (Option Id)) (s : Space) (ss : List Space) → slice_get (list_of x) p ≡ Some v → v.names.ids ≡ Some y ∷ ids → declares_row v.head v.leaves ≡ s ∷ ss → Here (expanded_at x) (cond b own outward) s y
entry-here x b p v y ids s ss e i d = found-here (expand x.by (scope_at x)) (expand_stack x.gs x.st) b s y (find (wanted s y) (declarations_from 0 (entry_defs (list_of x)))) refl (entry-found 0 p (list_of x) v y ids s ss e i d)

defs-in : (x : Level) → EachListed (In (list_of x)) (expand_defs x.by (scope_at x) 0 x.ds)
defs-in x = Rattle.comp_expanded.proofs.Ids.each-left (In (list_of x)) (expand_defs x.by (scope_at x) 0 x.ds) (expand_exports x.by 0 x.ds) (Rattle.comp_expanded.proofs.Ready.in-self (list_of x))

abbrev HereAt : Level → Space → Id → Type 0
HereAt x s y = Here (expanded_at x) (generated_reach (scope_at x)) s y

own-here : (x : Level) (o : Origin) (t : Row) (a : Expanded Leaves) (y : Option Id) (s : Space) → In (list_of x) (entry o (generated_names y) t a) → IsGenerated y → declares_row t a.here ≡ s ∷ [] → HereAt x s (the_id y)
own-here x o t a None s m h d = absurd h
own-here x o t a (Some y) s m h d = entry-here x (is_module_type x.kd) m.0 (entry o (generated_names (Some y)) t a) y [] s [] m.1 refl d

stood-here : (x : Level) (k u : ℕ) (s : Space) (o : Origin) → Stood x.by (scope_at x) (list_of x) s o → InlineNamed x.by (scope_at x) k u (Some o) (Unit {0}) → HereAt x s (id_of_mark x.by (scope_at x) o)
stood-here x k u s (written j) h n =
    let f : (p : ℕ) × (v : Entry) × (rest : List (Option Id)) × (slice_get (list_of x) p ≡ Some v) × (v.names.ids ≡ Some (the_id (first_id (ids_at x.ds j) (given x.by (written j)))) ∷ rest) × (declares_row v.head v.leaves ≡ declares_row h.1 h.2) × (v.origin ≡ written j) = first-found x.by (scope_at x) (list_of x) x.ds j h.0 h.1 h.2 (defs-in x) h.3 n in
    entry-here x (is_module_type x.kd) f.0 f.1 (the_id (first_id (ids_at x.ds j) (given x.by (written j)))) f.2 s [] f.3 f.4 (f.5 ∙ h.4)
stood-here x k u s (inline_type j v) h n = go (given x.by (inline_type j v)) h.4 h.5
  where
    go : (y : Option Id) → h.1.names ≡ generated_names y → IsGenerated y → HereAt x s (the_id y)
    go None e i = absurd i
    go (Some y) e i = entry-here x (is_module_type x.kd) h.0 h.1 y [] s [] h.2 (ap (λ (ns : Names). ns.ids) e) h.6
stood-here x k u s (bundle_of j v) h n = absurd h
stood-here x k u s (inline_export j v) h n = absurd h
stood-here x k u s (export_step j v i) h n = absurd h
stood-here x k u s (outer_alias_of j v) h n = absurd h
stood-here x k u s name_section h n = absurd h

again-here : (x : Level) (k u : ℕ) (t : Row) (ls : Leaves) (o : Origin) (s : Space) → reused (scope_at x ∷ []) k u t ls ≡ Some o → InlineNamed x.by (scope_at x) k u (Some o) (Unit {0}) → declares_row t ls ≡ s ∷ [] → HereAt x s (id_of_mark x.by (scope_at x) o)
again-here x k u t ls o s e n d =
    let r : (v : Space) × (declares_row t ls ≡ v ∷ []) × Stood x.by (scope_at x) (list_of x) v o = reused-stood x.by (scope_at x) (list_of x) x.all.0.2.0 (defs-in x) k u t ls o e in
    let q : r.0 ≡ s = head-same r.0 s (sym r.1 ∙ d) in
    subst (λ v. HereAt x v (id_of_mark x.by (scope_at x) o)) q (stood-here x k u r.0 o r.2 n)
  where
    head-same : (v w : Space) → v ∷ [] ≡ w ∷ [] → v ≡ w
    head-same v w h = cc

exports-here : (x : Level) → EachExport (λ k s y. Here (expanded_at x) outward s y) x.by 0 x.ds
exports-here x = go 0 x.ds (λ i. ap (def_at x.ds) (omega arith)) x.all.0.2.0
  where
    first : (k : ℕ) (ns : Names) (t : Row) (ls : Leaves) → ExportsNamed ns.exports (first_id ns.ids (given x.by (written k))) → def_at x.ds k ≡ Some (define ns (row t ls)) → OfFirst (λ s. Here (expanded_at x) outward s (the_id (first_id ns.ids (given x.by (written k))))) ns.exports (declares_row t ls)
    first k ns t ls n d = at ns.exports (declares_row t ls) refl n
      where
        at : (xs : List Text) (ss : List Space) → declares_row t ls ≡ ss → ExportsNamed xs (first_id ns.ids (given x.by (written k))) → OfFirst (λ s. Here (expanded_at x) outward s (the_id (first_id ns.ids (given x.by (written k))))) xs ss
        at [] ss e m = tt
        at (y ∷ xs) [] e m = tt
        at (y ∷ xs) (s ∷ ss) e m =
            let i : ids_at x.ds k ≡ ns.ids = ids-of x.ds k ns t ls d in
            let f : (p : ℕ) × (v : Entry) × (rest : List (Option Id)) × (slice_get (list_of x) p ≡ Some v) × (v.names.ids ≡ Some (the_id (first_id (ids_at x.ds k) (given x.by (written k)))) ∷ rest) × (declares_row v.head v.leaves ≡ declares_row t ls) × (v.origin ≡ written k) = first-found x.by (scope_at x) (list_of x) x.ds k ns t ls (defs-in x) d (subst (λ v. IsSome (first_id v (given x.by (written k)))) (sym i) m) in
            subst (λ v. Here (expanded_at x) outward s (the_id (first_id v (given x.by (written k))))) i (entry-here x false f.0 f.1 (the_id (first_id (ids_at x.ds k) (given x.by (written k)))) f.2 s ss f.3 f.4 (f.5 ∙ e))

    go : (k : ℕ) (bs : Defs) → ((i : ℕ) → def_at x.ds (k + i) ≡ def_at bs i) → DefsNamed x.by (scope_at x) k bs → EachExport (λ k s y. Here (expanded_at x) outward s y) x.by k bs
    go k no_def w n = tt
    go k (one_def (define ns (row t ls)) bs) w n =
        let z : k + 0 ≡ k = omega arith in
        (first k ns t ls n.1 (subst (λ j. def_at x.ds j ≡ Some (define ns (row t ls))) z (w 0)), go (k + 1) bs (λ i. ap (def_at x.ds) (omega arith) ∙ w (suc i)) n.3)

-- ---- what the two searches ask of a name

kind-same : (st su : List Scope) (r : Reach) (s : Space) (x : Id) (a b : Option Denoted) → SameDenoted st su s a b → unmet_kind r s x a ≡ unmet_kind r s x b
kind-same st su r s x None None h = refl
kind-same st su r s x None (Some b) h = absurd h
kind-same st su r s x (Some a) None h = absurd h
kind-same st su outward s x (Some a) (Some b) h = rw h.0 refl
kind-same st su own s x (Some a) (Some b) h = refl
kind-same st su (at_place p) s x (Some a) (Some b) h = refl

name-same : (st su : List Scope) (r : Reach) (s : Space) (x : Id) (a b : Option Denoted) → length st ≡ length su → SameDenoted st su s a b → unmet_name st r x a ≡ unmet_name su r x b
name-same st su r s x None (Some b) n h = absurd h
name-same st su r s x (Some a) None n h = absurd h
name-same st su outward s x None None n h = refl
name-same st su own s x None None n h = refl
name-same st su (at_place (counted o d)) s x None None n h = rw n refl
name-same st su (at_place (named o y)) s x None None n h = refl
name-same st su outward s x (Some a) (Some b) n h = refl
name-same st su own s x (Some a) (Some b) n h = refl
name-same st su (at_place (counted o d)) s x (Some a) (Some b) n h = refl
name-same st su (at_place (named o y)) s x (Some a) (Some b) n h = refl

-- a generated name asks nothing
generated_reach-kind : (su : List Scope) (b : Bool) (s : Space) (y : Id) → Here su (cond b own outward) s y → unmet_kind (cond b own outward) s y (denotes su s (cond b own outward) y) ≡ None
generated_reach-kind su b s y h = rw (h.1, generated_reach-reached b s h.0 h.2) refl

generated_reach-name : (su : List Scope) (b : Bool) (s : Space) (y : Id) → Here su (cond b own outward) s y → unmet_name su (cond b own outward) y (denotes su s (cond b own outward) y) ≡ None
generated_reach-name su true s y h = rw h.1 refl
generated_reach-name su false s y h = rw h.1 refl

-- what an earlier definition does not break, one that is equal as written does not either
module _ (G : CoreValue → Option Unmet) (L : Leaves → Sought) (one : (l : Leaf) (ls : Leaves) (v : CoreValue) → l ≡ core_value v → ls ≡ no_leaf → L (l ▸ ls) ≡ sought_both (sought (G v)) (sought None))
    (M : Nodes → Sought) (none : M no_node ≡ sought None) (next : (t : Row) (ls : Leaves) (ns : Nodes) → (v : CoreValue) → ls ≡ core_value v ▸ no_leaf → Quiet (M (one_node (row t ls) ns)) ↔ (Quiet (L ls) × Quiet (M ns)))
    (same : (v w : CoreValue) → same_written_value v w ≡ true → G v ≡ None → G w ≡ None) where
  entry-quiet : (ls ms : Leaves) → same_entry ls ms ≡ true → (v : CoreValue) × (w : CoreValue) × (ls ≡ core_value v ▸ no_leaf) × (ms ≡ core_value w ▸ no_leaf) × (same_written_value v w ≡ true)
  entry-quiet (core_value v ▸ no_leaf) (core_value w ▸ no_leaf) h = (v, w, refl, refl, h)
  entry-quiet ls ms h = absurd (cc)

  values-quiet : (ns ms : Nodes) → same_written_values ns ms ≡ true → Quiet (M ns) → Quiet (M ms)
  values-quiet no_node no_node h q = q
  values-quiet (one_node (row t ls) ns) (one_node (row y ms) ks) h q =
      let a : (same_row t y ≡ true) × ((same_entry ls ms && same_written_values ns ks) ≡ true) = and-both _ _ h in
      let b : (same_entry ls ms ≡ true) × (same_written_values ns ks ≡ true) = and-both _ _ a.1 in
      let c : (v : CoreValue) × (w : CoreValue) × (ls ≡ core_value v ▸ no_leaf) × (ms ≡ core_value w ▸ no_leaf) × (same_written_value v w ≡ true) = entry-quiet ls ms b.0 in
      let d : Quiet (L ls) × Quiet (M ns) = (next t ls ns c.0 c.2).0 q in
      let e : Quiet (L (core_value c.0 ▸ no_leaf)) = subst (λ v. Quiet (L v)) c.2 d.0 in
      let f : Quiet (sought_both (sought (G c.0)) (sought None)) = subst Quiet (one (core_value c.0) no_leaf c.0 refl refl) e in
      let i : G c.1 ≡ None = same c.0 c.1 c.4 (none-first (G c.0) None f.3) in
      let j : Quiet (L (core_value c.1 ▸ no_leaf)) = subst Quiet (sym (one (core_value c.1) no_leaf c.1 refl refl)) (refl, refl, refl, none-both (G c.1) None i refl) in
      (next y ms ks c.1 c.3).1 (subst (λ v. Quiet (L v)) (sym c.3) j, values-quiet ns ks b.1 d.1)
  values-quiet no_node (one_node m ms) h q = absurd (cc)
  values-quiet (one_node (row t ls) ns) no_node h q = absurd (cc)

  -- `S` is the search in leaves of two lists
  signature-quiet : (S : Leaves → Sought) → ((ps rs : Nodes) → S (nodes ps ▸ nodes rs ▸ no_leaf) ≡ sought_both (M ps) (sought_both (M rs) (sought None))) → (ls ms : Leaves) → same_written_signature ls ms ≡ true → sought_one (S ls) ≡ None → sought_one (S ms) ≡ None
  signature-quiet S two (nodes ps ▸ nodes rs ▸ no_leaf) (nodes qs ▸ nodes ss ▸ no_leaf) h q =
      let a : (same_written_values ps qs ≡ true) × (same_written_values rs ss ≡ true) = and-both _ _ h in
      let b : Quiet (sought_both (M ps) (sought_both (M rs) (sought None))) = subst Quiet (two ps rs) (one-quiet (S (nodes ps ▸ nodes rs ▸ no_leaf)) q) in
      let c : Quiet (M ps) × Quiet (sought_both (M rs) (sought None)) = both-quiet (M ps) (sought_both (M rs) (sought None)) b in
      let d : Quiet (M rs) × Quiet (sought None) = both-quiet (M rs) (sought None) c.1 in
      quiet-one (S (nodes qs ▸ nodes ss ▸ no_leaf)) (subst Quiet (sym (two qs ss)) (quiet-both (M qs) (sought_both (M ss) (sought None)) (values-quiet ps qs a.0 c.0) (quiet-both (M ss) (sought None) (values-quiet rs ss a.1 d.0) d.1)))
  signature-quiet S two ls ms h q = absurd (cc)

-- ---- definitions in turn

-- the search S finds nothing in the definitions before k
abbrev Earlier : (Leaves → Sought) → Defs → ℕ → Type 0
Earlier S whole k = (i : ℕ) (ns : Names) (t : Row) (ls : Leaves) → i < k → def_at whole i ≡ Some (define ns (row t ls)) → sought_one (S ls) ≡ None

earlier-none : (S : Leaves → Sought) (whole : Defs) → Earlier S whole 0
earlier-none S whole i ns t ls l h = absurd (omega (arith, l))

earlier-next : (S : Leaves → Sought) (whole : Defs) (k : ℕ) (ns : Names) (t : Row) (ls : Leaves) → Earlier S whole k → def_at whole k ≡ Some (define ns (row t ls)) → sought_one (S ls) ≡ None → Earlier S whole (k + 1)
earlier-next S whole k ns t ls f h q i ms y vs l e = go (nat_eq i k) refl
  where
    sought_in : Def → Option Unmet
    sought_in (define ws (row z us)) = sought_one (S us)

    go : (b : Bool) → nat_eq i k ≡ b → sought_one (S vs) ≡ None
    go true r =
        let z : i ≡ k = eqb-true i k r in
        let d : define ns (row t ls) ≡ define ms (row y vs) = some-same _ _ (sym h ∙ subst (λ n. def_at whole n ≡ Some (define ms (row y vs))) z e) in
        sym (ap sought_in d) ∙ q
    go false r = let z : i ≢ k = eqb-false i k r in f i ms y vs (omega (arith, l, z)) e

-- so a signature that is reused breaks nothing
abbrev SigQuiet : (Leaves → Sought) → Scope → ℕ → Type 0
SigQuiet S c k = (t : Row) (ms : Leaves) (j : ℕ) → reused_signature (c ∷ []) k t ms ≡ Some j → sought_one (S ms) ≡ None

sig-quiet : (S : Leaves → Sought) (c : Scope) (k : ℕ) → ((ls ms : Leaves) → same_written_signature ls ms ≡ true → sought_one (S ls) ≡ None → sought_one (S ms) ≡ None) → Earlier S (defs_of c) k → SigQuiet S c k
sig-quiet S c k f h t ms j e =
    let q : (t ≡ rows.CoreFunctionType) × SignatureAt (defs_of c) j ms = signature-at c k t ms j e in
    f q.1.1 ms q.1.3 (h j q.1.0 rows.CoreFunctionType q.1.1 (reused-less c k t ms j e) q.1.2)

abbrev InBoth : Level → {H : Type 0} → Expanded H → Type 0
InBoth x a = EachListed (In (list_of x)) a.inlined × EachListed (In (list_of x)) a.bundles

-- ---- an inline node

module _ (x : Level) (S F : Leaves → Sought) (E : Leaf → Sought) (same : (ls ms : Leaves) → SameLeaves ls ms → sought_one (S ms) ≡ None → sought_one (S ls) ≡ None)
    (nothing : (s : Space) (y : Id) → HereAt x s y → E (ref s (name (generated_reach (scope_at x)) y)) ≡ sought None) where
  abbrev c : Scope
  c = scope_at x

  abbrev QuietOf : Typed → Type 0
  QuietOf z = sought_one (S z.leaves) ≡ None

  -- what is found in an inline node
  abbrev Found : ℕ → ℕ → Space → Row → Leaves → Option Origin → Expanded Leaves → Type 0 → Type 0
  Found k u s t ls r a N = Finds F (sought_inline (S ls)) (expand_inline x.by c k u s t r a).inlined (expand_inline x.by c k u s t r a).bundles (E (expand_inline x.by c k u s t r a).here) N

  again-finds : (k u : ℕ) (s : Space) (t : Row) (ls : Leaves) (r : Option Origin) (o : Origin) (P N : Type 0) (a : Expanded Leaves) → reused (c ∷ []) k u t ls ≡ r → r ≡ Some o → InlineNamed x.by c k u r P → declares_row t ls ≡ s ∷ [] → sought_one (S ls) ≡ None → N
      → Found k u s t ls r a N
  again-finds k u s t ls None o P N a e f m d q n = absurd (cc)
  again-finds k u s t ls (Some p) o P N a e f m d q n = rw (nothing s (id_of_mark x.by c p) (again-here x k u t ls p s e (named-any x.by c k u p P m) d)) (q, λ z. (refl, refl, refl, n))

  new-finds : (k u : ℕ) (s : Space) (t : Row) (ls : Leaves) (r : Option Origin) (P N : Type 0) (a : Expanded Leaves) → r ≡ None → InlineNamed x.by c k u r P → declares_row t a.here ≡ s ∷ [] → InBoth x (expand_inline x.by c k u s t r a) → Bare F (F a.here)
      → (P → InBoth x a → Finds F (S ls) a.inlined a.bundles (F a.here) N) → Found k u s t ls r a (N × (sought_one (S ls) ≡ None))
  new-finds k u s t ls (Some p) P N a e m d i w f = absurd (cc)
  new-finds k u s t ls None P N a e m d i w f =
      let z : Entry = entry (inline_type k u) (generated_names (given x.by (inline_type k u))) t a in
      let b : EachListed (In (list_of x)) (a.bundles ++ z ∷ []) = each-right (In (list_of x)) a.inlined (a.bundles ++ z ∷ []) i.0 in
      rw (nothing s (the_id (given x.by (inline_type k u))) (own-here x (inline_type k u) t a (given x.by (inline_type k u)) s (each-right (In (list_of x)) a.bundles (z ∷ []) b).0 m.0 d))
      (finds-inline F (S ls) a.inlined a.bundles z N (f m.1 (each-left (In (list_of x)) a.inlined (a.bundles ++ z ∷ []) i.0, each-left (In (list_of x)) a.bundles (z ∷ []) b)) w)

  inline-finds : (k u : ℕ) (s : Space) (t : Row) (ls : Leaves) (earlier rest : List Typed) (P : Type 0) (a : Expanded Leaves) (b : Bool) → is_shared t ≡ b
      → types c ≡ earlier ++ (cond b (typed_inline (record { origin = inline_type k u; tag = t; leaves = ls }) earlier (types_of_leaves c k (u + 1) ls earlier)) (typed_within (reused_signature (c ∷ []) k t ls) (types_of_leaves c k (u + 1) ls earlier)) ++ rest)
      → AllTyped QuietOf earlier → SigQuiet S c k → declares_row t ls ≡ s ∷ [] → declares_row t a.here ≡ s ∷ [] → InlineNamed x.by c k u (reused (c ∷ []) k u t ls) P → InBoth x (expand_inline x.by c k u s t (reused (c ∷ []) k u t ls) a) → Bare F (F a.here)
      → ((more : List Typed) → types c ≡ earlier ++ (types_of_leaves c k (u + 1) ls earlier ++ more) → P → InBoth x a → Finds F (S ls) a.inlined a.bundles (F a.here) (AllTyped QuietOf (types_of_leaves c k (u + 1) ls earlier)))
      → Found k u s t ls (reused (c ∷ []) k u t ls) a (AllTyped QuietOf (cond b (typed_inline (record { origin = inline_type k u; tag = t; leaves = ls }) earlier (types_of_leaves c k (u + 1) ls earlier)) (typed_within (reused_signature (c ∷ []) k t ls) (types_of_leaves c k (u + 1) ls earlier))))
  inline-finds k u s t ls earlier rest P a true g p q sq d d' m i w rec = pick (decided [] c k u t ls earlier rest g p)
    where
      v : Typed
      v = record { origin = inline_type k u; tag = t; leaves = ls }

      inside_types : List Typed
      inside_types = types_of_leaves c k (u + 1) ls earlier

      pick : Decided [] c k u t ls earlier rest
          → Found k u s t ls (reused (c ∷ []) k u t ls) a (AllTyped QuietOf (typed_inline v earlier inside_types))
      pick (inl h) = rw h.1
          (finds-weaken F (sought_inline (S ls)) (expand_inline x.by c k u s t (reused (c ∷ []) k u t ls) a).inlined (expand_inline x.by c k u s t (reused (c ∷ []) k u t ls) a).bundles (E (expand_inline x.by c k u s t (reused (c ∷ []) k u t ls) a).here) (AllTyped QuietOf inside_types × (sought_one (S ls) ≡ None)) (AllTyped QuietOf (inside_types ++ v ∷ [])) (λ n. typed-app QuietOf inside_types (v ∷ []) n.0 (n.1, tt))
          (new-finds k u s t ls (reused (c ∷ []) k u t ls) P (AllTyped QuietOf inside_types) a h.0 m d' i w (λ n j. rec (v ∷ rest) h.2 n j)))
      pick (inr h) = rw h.3
          (let y : Equal QuietOf t ls h.0 = equal-of QuietOf (inline_type k u) t ls h.0 earlier q h.2 in
          again-finds k u s t ls (reused (c ∷ []) k u t ls) h.0 P (Unit {0}) a refl h.1 m d (same ls y.0.leaves (leaves-same ls y.0.leaves y.4) y.1) tt)
  inline-finds k u s t ls earlier rest P a false g p q sq d d' m i w rec = go (reused_signature (c ∷ []) k t ls) refl p
    where
      inside_types : List Typed
      inside_types = types_of_leaves c k (u + 1) ls earlier

      go : (o : Option ℕ) → reused_signature (c ∷ []) k t ls ≡ o → types c ≡ earlier ++ (typed_within o (types_of_leaves c k (u + 1) ls earlier) ++ rest)
          → Found k u s t ls (reused (c ∷ []) k u t ls) a (AllTyped QuietOf (typed_within o inside_types))
      go (Some j) h y = again-finds k u s t ls (reused (c ∷ []) k u t ls) (written j) P (Unit {0}) a refl (rw (g, h) refl) m d (sq t ls j h) tt
      go None h y =
          finds-weaken F (sought_inline (S ls)) (expand_inline x.by c k u s t (reused (c ∷ []) k u t ls) a).inlined (expand_inline x.by c k u s t (reused (c ∷ []) k u t ls) a).bundles (E (expand_inline x.by c k u s t (reused (c ∷ []) k u t ls) a).here) (AllTyped QuietOf inside_types × (sought_one (S ls) ≡ None)) (AllTyped QuietOf inside_types) (λ n. n.0)
          (new-finds k u s t ls (reused (c ∷ []) k u t ls) P (AllTyped QuietOf inside_types) a (rw (g, h) refl) m d' i w (λ n j. rec rest y n j))

-- a type in which the search finds nothing
abbrev QuietIn : (Leaves → Sought) → Typed → Type 0
QuietIn S v = sought_one (S v.leaves) ≡ None

step : (F : Leaves → Sought) (a b : Option Unmet) (one more : List Entry) → a ≡ found F one → (a ≡ None → b ≡ found F more) → first_of_two a b ≡ found F (one ++ more)
step F None b one more h f = rw (f refl) (ap (λ v. first_of_two v (found F more)) h ∙ sym (found-app F one more))
step F (Some v) b one more h f = ap (λ w. first_of_two w (found F more)) h ∙ sym (found-app F one more)

-- ---- the second search

kind_of_value : List Scope → CoreValue → Option Unmet
kind_of_value st (ref_name b r x) = unmet_kind r CoreType x (denotes st CoreType r x)
kind_of_value st _ = None

kind-value : (st : List Scope) (v : CoreValue) → kinds_of_leaf st (core_value v) ≡ sought (kind_of_value st v)
unfolding kind_of_value
kind-value st (ref_name b r x) = refl
kind-value st v = refl

same-kind : (r q : Reach) (s : Space) (x y : Id) (o : Option Denoted) → same_reach r q ≡ true → unmet_kind r s x o ≡ None → unmet_kind q s y o ≡ None
same-kind r q s x y None e h = refl
same-kind outward outward s x y (Some d) e h = go (may_reach outward s d) h
  where
    go : (b : Bool) → cond b None (unmet Rattle.comp_scopes.specs.Unmet.outer_kind x.offset) ≡ None → cond b None (unmet Rattle.comp_scopes.specs.Unmet.outer_kind y.offset) ≡ None
    go true p = refl
    go false p = absurd (cc)
same-kind r own s x y (Some d) e h = refl
same-kind r (at_place p) s x y (Some d) e h = refl
same-kind own outward s x y (Some d) e h = absurd (cc)
same-kind (at_place p) outward s x y (Some d) e h = absurd (cc)

-- references of core value types that are written the same denote the same
written-denotes : (st : List Scope) (b d : Bool) (r q : Reach) (x y : Id) → (same_bool b d && (same_reach r q && same_id x y)) ≡ true
    → (same_reach r q ≡ true) × (denotes st CoreType r x ≡ denotes st CoreType q y)
written-denotes st b d r q x y h =
    let a : (same_bool b d ≡ true) × ((same_reach r q && same_id x y) ≡ true) = and-both _ _ h in
    let c : (same_reach r q ≡ true) × (same_id x y ≡ true) = and-both _ _ a.1 in
    (c.0, denotes-same st CoreType r q x y c.0 (id-name x y c.1))

value-kind : (st : List Scope) (v w : CoreValue) → same_written_value v w ≡ true → kind_of_value st v ≡ None → kind_of_value st w ≡ None
unfolding kind_of_value
value-kind st (ref_name b r x) (ref_name d q y) h n =
    let e = written-denotes st b d r q x y h in
    same-kind r q CoreType x y (denotes st CoreType q y) e.0 (ap (unmet_kind r CoreType x) (sym e.1) ∙ n)
value-kind st v (ref_name d q y) h n = absurd (cc)
value-kind st v w h n = refl

kinds-signature : (st : List Scope) (ls ms : Leaves) → same_written_signature ls ms ≡ true → sought_one (kinds_of_leaves st ls) ≡ None → sought_one (kinds_of_leaves st ms) ≡ None
kinds-signature st = signature-quiet (kind_of_value st) (kinds_of_leaves st) (λ l ls v e d. rw (e, d, kind-value st v) refl) (kinds_of_nodes st) refl
    (λ t ls ns v e. (both-quiet (kinds_of_leaves st ls) (kinds_of_nodes st ns), λ q. quiet-both (kinds_of_leaves st ls) (kinds_of_nodes st ns) q.0 q.1)) (value-kind st) (kinds_of_leaves st) (λ ps rs. refl)

mutual
  bare-kinds : (su : List Scope) (ls : Leaves) → LeavesExpanded ls → Bare (kinds_of_leaves su) (kinds_of_leaves su ls)
  bare-kinds su no_leaf h = (refl, refl)
  bare-kinds su (l ▸ ls) h = let a : Bare (kinds_of_leaves su) (kinds_of_leaf su l) = bare-kind su l h.0 in let b : Bare (kinds_of_leaves su) (kinds_of_leaves su ls) = bare-kinds su ls h.1 in (rw (a.0, b.0) refl, rw (a.1, b.1) refl)

  bare-kind : (su : List Scope) (l : Leaf) → LeafExpanded l → Bare (kinds_of_leaves su) (kinds_of_leaf su l)
  bare-kind su (core_value (ref_name b r x)) h = (refl, refl)
  bare-kind su (ref s (inline n)) h = absurd h
  bare-kind su (ref s (bundle n)) h = absurd h
  bare-kind su (present l) h = bare-kind su l h
  bare-kind su (node (row t ls)) h = bare-kinds su ls h
  bare-kind su (nodes ns) h = bare-kind-nodes su ns h
  bare-kind su l h = (refl, refl)

  bare-kind-nodes : (su : List Scope) (ns : Nodes) → NodesExpanded ns → Bare (kinds_of_leaves su) (kinds_of_nodes su ns)
  bare-kind-nodes su no_node h = (refl, refl)
  bare-kind-nodes su (one_node (row t ls) ns) h = let a : Bare (kinds_of_leaves su) (kinds_of_leaves su ls) = bare-kinds su ls h.0 in let b : Bare (kinds_of_leaves su) (kinds_of_nodes su ns) = bare-kind-nodes su ns h.1 in (rw (a.0, b.0) refl, rw (a.1, b.1) refl)

-- of a scope and its list
abbrev list_kinds : Level → Leaves → Sought
list_kinds x = kinds_of_leaves (expanded_at x)

abbrev text_kinds : Level → Leaves → Sought
text_kinds x = kinds_of_leaves (stack_at x)

abbrev list_kind : Level → Leaf → Sought
list_kind x = kinds_of_leaf (expanded_at x)

abbrev text_kind : Level → Leaf → Sought
text_kind x = kinds_of_leaf (stack_at x)

abbrev KindsQuiet : Level → List Typed → Type 0
KindsQuiet x ts = AllTyped (QuietIn (kinds_of_leaves (stack_at x))) ts

mutual
  kinds-leaves : (x : Level) (o : Origin) (k u : ℕ) (ls : Leaves) (before rest : List Typed) → types (scope_at x) ≡ before ++ (types_of_leaves (scope_at x) k u ls before ++ rest) → KindsQuiet x before → SigQuiet (text_kinds x) (scope_at x) k → LeavesRowed ls → LeavesOfText ls → LeavesNamed x.by (scope_at x) o k u ls → InBoth x (expand_leaves x.by (scope_at x) o k u ls)
      → Finds (list_kinds x) (text_kinds x ls) (expand_leaves x.by (scope_at x) o k u ls).inlined (expand_leaves x.by (scope_at x) o k u ls).bundles (list_kinds x (expand_leaves x.by (scope_at x) o k u ls).here) (KindsQuiet x (types_of_leaves (scope_at x) k u ls before))
  kinds-leaves x o k u no_leaf before rest p q sq w t n i = finds-plain (list_kinds x) None (Unit {0}) tt
  kinds-leaves x o k u (l ▸ ls) before rest p q sq w t n i =
      let a : Expanded Leaf = expand_leaf x.by (scope_at x) o k u l in
      let b : Expanded Leaves = expand_leaves x.by (scope_at x) o k (u + references_leaf l) ls in
      let v : List Typed = types_of_leaf (scope_at x) k u l before in
      let y : List Typed = types_of_leaves (scope_at x) k (u + references_leaf l) ls (before ++ types_of_leaf (scope_at x) k u l before) in
      let z : (types (scope_at x) ≡ before ++ (v ++ (y ++ rest))) × (types (scope_at x) ≡ (before ++ v) ++ (y ++ rest)) = behind-these (scope_at x) before v y rest p in
      finds-weaken (list_kinds x) (text_kinds x (l ▸ ls)) (a.inlined ++ b.inlined) (a.bundles ++ b.bundles) (list_kinds x (a.here ▸ b.here)) (KindsQuiet x v × KindsQuiet x y) (KindsQuiet x (v ++ y)) (λ h. typed-app (QuietIn (text_kinds x)) v y h.0 h.1)
      (finds-both (list_kinds x) (text_kind x l) (text_kinds x ls) a.inlined a.bundles b.inlined b.bundles (list_kind x a.here) (list_kinds x b.here) (KindsQuiet x v) (KindsQuiet x y)
      (kinds-leaf x o k u l before (y ++ rest) z.0 q sq w.1 t.0 n.0 (each-left (In (list_of x)) a.inlined b.inlined i.0, each-left (In (list_of x)) a.bundles b.bundles i.1))
      (λ h. kinds-leaves x o k (u + references_leaf l) ls (before ++ v) rest z.1 (typed-app (QuietIn (text_kinds x)) before v q h) sq w.2 t.1 n.1 (each-right (In (list_of x)) a.inlined b.inlined i.0, each-right (In (list_of x)) a.bundles b.bundles i.1)))

  kinds-leaf : (x : Level) (o : Origin) (k u : ℕ) (l : Leaf) (before rest : List Typed) → types (scope_at x) ≡ before ++ (types_of_leaf (scope_at x) k u l before ++ rest) → KindsQuiet x before → SigQuiet (text_kinds x) (scope_at x) k → LeafRowed l → LeafOfText l → LeafNamed x.by (scope_at x) o k u l → InBoth x (expand_leaf x.by (scope_at x) o k u l)
      → Finds (list_kinds x) (text_kind x l) (expand_leaf x.by (scope_at x) o k u l).inlined (expand_leaf x.by (scope_at x) o k u l).bundles (list_kind x (expand_leaf x.by (scope_at x) o k u l).here) (KindsQuiet x (types_of_leaf (scope_at x) k u l before))
  kinds-leaf x o k u (core_value (ref_name b r y)) before rest p q sq w t n i =
      rw (kind-same (stack_at x) (expanded_at x) r CoreType y (denotes (stack_at x) CoreType r y) (denotes (expanded_at x) CoreType r y) (denoted-same (stack_at x) (expanded_at x) CoreType r y (indexed x) t.0 t.1)) (finds-plain (list_kinds x) (unmet_kind r CoreType y (denotes (expanded_at x) CoreType r y)) (Unit {0}) tt)
  kinds-leaf x o k u (ref s (name r y)) before rest p q sq w t n i =
      rw (kind-same (stack_at x) (expanded_at x) r s y (denotes (stack_at x) s r y) (denotes (expanded_at x) s r y) (denoted-same (stack_at x) (expanded_at x) s r y (indexed x) t.0 t.1)) (finds-plain (list_kinds x) (unmet_kind r s y (denotes (expanded_at x) s r y)) (Unit {0}) tt)
  kinds-leaf x o k u (ref s (path v)) before rest p q sq w t n i = finds-plain (list_kinds x) (unmet_path s v) (Unit {0}) tt
  kinds-leaf x o k u (ref s (inline (row y ls))) before rest p q sq w t n i =
      inline-finds x (text_kinds x) (list_kinds x) (list_kind x) (λ ls ms a h. kinds-equal (stack_at x) ls ms a h) (λ s v h. ap sought (generated_reach-kind (expanded_at x) (is_module_type x.kd) s v h)) k u s y ls before rest (LeavesNamed x.by (scope_at x) (inline_type k u) k (u + 1) ls) (expand_leaves x.by (scope_at x) (inline_type k u) k (u + 1) ls) (is_shared y) refl p q sq w.0
      (declares-expand x.by (scope_at x) (inline_type k u) k (u + 1) y ls ∙ w.0) n i (bare-kinds (expanded_at x) (expand_leaves x.by (scope_at x) (inline_type k u) k (u + 1) ls).here (leaves-bare x.by (scope_at x) (inline_type k u) k (u + 1) ls).2)
      (λ more r m j. kinds-leaves x (inline_type k u) k (u + 1) ls before more r q sq w.1 t m j)
  kinds-leaf x o k u (ref s (bundle (row y ls))) before rest p q sq w t n i =
      let a : Expanded Leaves = expand_leaves x.by (scope_at x) (bundle_of k u) k (u + 1) ls in
      let z : Entry = entry (bundle_of k u) (generated_names (given x.by (bundle_of k u))) y a in
      rw (generated_reach-kind (expanded_at x) (is_module_type x.kd) s (the_id (given x.by (bundle_of k u))) (own-here x (bundle_of k u) y a (given x.by (bundle_of k u)) s (each-right (In (list_of x)) a.bundles (z ∷ []) i.1).0 n.0 (declares-expand x.by (scope_at x) (bundle_of k u) k (u + 1) y ls ∙ w.0)))
      (finds-bundle (list_kinds x) (text_kinds x ls) a.inlined a.bundles z (KindsQuiet x (types_of_leaves (scope_at x) k (u + 1) ls before))
      (kinds-leaves x (bundle_of k u) k (u + 1) ls before rest p q sq w.1 t n.1 (i.0, each-left (In (list_of x)) a.bundles (z ∷ []) i.1)) (bare-kinds (expanded_at x) a.here (leaves-bare x.by (scope_at x) (bundle_of k u) k (u + 1) ls).2))
  kinds-leaf x o k u (present l) before rest p q sq w t n i = kinds-leaf x o k u l before rest p q sq w t n i
  kinds-leaf x o k u (node (row y ls)) before rest p q sq w t n i = kinds-leaves x o k u ls before rest p q sq w t n i
  kinds-leaf x o k u (nodes ns) before rest p q sq w t n i = kinds-nodes x o k u ns before rest p q sq w t n i
  kinds-leaf x o k u (scope (scope_of kd id label ds)) before rest p q sq w t n i = finds-plain (list_kinds x) None (Unit {0}) tt
  kinds-leaf x o k u l before rest p q sq w t n i = finds-plain (list_kinds x) None (Unit {0}) tt

  kinds-nodes : (x : Level) (o : Origin) (k u : ℕ) (ns : Nodes) (before rest : List Typed) → types (scope_at x) ≡ before ++ (types_of_nodes (scope_at x) k u ns before ++ rest) → KindsQuiet x before → SigQuiet (text_kinds x) (scope_at x) k → NodesRowed ns → NodesOfText ns → NodesNamed x.by (scope_at x) o k u ns → InBoth x (expand_nodes x.by (scope_at x) o k u ns)
      → Finds (list_kinds x) (kinds_of_nodes (stack_at x) ns) (expand_nodes x.by (scope_at x) o k u ns).inlined (expand_nodes x.by (scope_at x) o k u ns).bundles (kinds_of_nodes (expanded_at x) (expand_nodes x.by (scope_at x) o k u ns).here) (KindsQuiet x (types_of_nodes (scope_at x) k u ns before))
  kinds-nodes x o k u no_node before rest p q sq w t n i = finds-plain (list_kinds x) None (Unit {0}) tt
  kinds-nodes x o k u (one_node (row y ls) ns) before rest p q sq w t n i =
      let a : Expanded Leaves = expand_leaves x.by (scope_at x) o k u ls in
      let b : Expanded Nodes = expand_nodes x.by (scope_at x) o k (u + references ls) ns in
      let v : List Typed = types_of_leaves (scope_at x) k u ls before in
      let m : List Typed = types_of_nodes (scope_at x) k (u + references ls) ns (before ++ types_of_leaves (scope_at x) k u ls before) in
      let z : (types (scope_at x) ≡ before ++ (v ++ (m ++ rest))) × (types (scope_at x) ≡ (before ++ v) ++ (m ++ rest)) = behind-these (scope_at x) before v m rest p in
      finds-weaken (list_kinds x) (kinds_of_nodes (stack_at x) (one_node (row y ls) ns)) (a.inlined ++ b.inlined) (a.bundles ++ b.bundles) (sought_both (list_kinds x a.here) (kinds_of_nodes (expanded_at x) b.here)) (KindsQuiet x v × KindsQuiet x m) (KindsQuiet x (v ++ m)) (λ h. typed-app (QuietIn (text_kinds x)) v m h.0 h.1)
      (finds-both (list_kinds x) (text_kinds x ls) (kinds_of_nodes (stack_at x) ns) a.inlined a.bundles b.inlined b.bundles (list_kinds x a.here) (kinds_of_nodes (expanded_at x) b.here) (KindsQuiet x v) (KindsQuiet x m)
      (kinds-leaves x o k u ls before (m ++ rest) z.0 q sq w.1 t.0 n.0 (each-left (In (list_of x)) a.inlined b.inlined i.0, each-left (In (list_of x)) a.bundles b.bundles i.1))
      (λ h. kinds-nodes x o k (u + references ls) ns (before ++ v) rest z.1 (typed-app (QuietIn (text_kinds x)) before v q h) sq w.2 t.1 n.1 (each-right (In (list_of x)) a.inlined b.inlined i.0, each-right (In (list_of x)) a.bundles b.bundles i.1)))

written-quiet : (S : Leaves → Sought) (k : ℕ) (t : Row) (ls : Leaves) → sought_one (S ls) ≡ None → AllTyped (QuietIn S) (written_type k t ls)
written-quiet S k t ls h = go (is_shared t)
  where
    go : (b : Bool) → AllTyped (QuietIn S) (cond b (record { origin = written k; tag = t; leaves = ls } ∷ []) [])
    go true = (h, tt)
    go false = tt

-- the types of a definition, behind those in front
kinds-defs : (x : Level) (k : ℕ) (ds : Defs) (before : List Typed) → types (scope_at x) ≡ before ++ types_of_defs (scope_at x) k ds before → ((i : ℕ) → def_at x.ds (k + i) ≡ def_at ds i) → KindsQuiet x before → Earlier (text_kinds x) x.ds k → DefsRowed ds → DefsOfText ds → DefsNamed x.by (scope_at x) k ds
    → EachListed (In (list_of x)) (expand_defs x.by (scope_at x) k ds) → kinds_of_defs (stack_at x) ds ≡ found (list_kinds x) (expand_defs x.by (scope_at x) k ds)
kinds-defs x k no_def before p v q f w t n i = refl
kinds-defs x k (one_def (define ns (row y ls)) ds) before p v q f w t n i =
    let z : k + 0 ≡ k = omega arith in
    let d : def_at x.ds k ≡ Some (define ns (row y ls)) = subst (λ m. def_at x.ds m ≡ Some (define ns (row y ls))) z (v 0) in
    let a : Expanded Leaves = expand_leaves x.by (scope_at x) (written k) k 0 ls in
    let own : Entry = entry (written k) (given_names ns (given x.by (written k))) y a in
    let one : List Entry = a.inlined ++ (a.bundles ++ own ∷ []) in
    let more : List Entry = expand_defs x.by (scope_at x) (k + 1) ds in
    let j : EachListed (In (list_of x)) one = each-left (In (list_of x)) one more i in
    let m : List Typed = types_of_leaves (scope_at x) k 0 ls before in
    let new : List Typed = m ++ written_type k y ls in
    let later : List Typed = types_of_defs (scope_at x) (k + 1) ds (before ++ new) in
    let g : (types (scope_at x) ≡ before ++ (m ++ (written_type k y ls ++ later))) × (types (scope_at x) ≡ (before ++ m) ++ (written_type k y ls ++ later)) = behind-these (scope_at x) before m (written_type k y ls) later p in
    let h : Finds (list_kinds x) (text_kinds x ls) a.inlined a.bundles (list_kinds x a.here) (KindsQuiet x m) =
    kinds-leaves x (written k) k 0 ls before (written_type k y ls ++ later) g.0 q (sig-quiet (text_kinds x) (scope_at x) k (kinds-signature (stack_at x)) f) w.3 t.1 n.2 (each-left (In (list_of x)) a.inlined (a.bundles ++ own ∷ []) j, each-left (In (list_of x)) a.bundles (own ∷ []) (each-right (In (list_of x)) a.inlined (a.bundles ++ own ∷ []) j)) in
    step (list_kinds x) (sought_one (text_kinds x ls)) (kinds_of_defs (stack_at x) ds) one more
    (finds-one (list_kinds x) (text_kinds x ls) a.inlined a.bundles own (KindsQuiet x m) h (bare-kinds (expanded_at x) a.here (leaves-bare x.by (scope_at x) (written k) k 0 ls).2))
    (λ r. kinds-defs x (k + 1) ds (before ++ new) (p ∙ sym (app-assoc before new later)) (λ e. ap (def_at x.ds) (omega arith) ∙ v (suc e))
    (typed-app (QuietIn (text_kinds x)) before new q (typed-app (QuietIn (text_kinds x)) m (written_type k y ls) (one-holds (list_kinds x) (text_kinds x ls) a.inlined a.bundles (list_kinds x a.here) (KindsQuiet x m) h r) (written-quiet (text_kinds x) k y ls r)))
    (earlier-next (text_kinds x) x.ds k ns y ls f d r) w.4 t.2 n.3 (each-right (In (list_of x)) one more i))

-- inline exports ask nothing
exports_of-none : (F : Leaves → Sought) (R : Space → Id → Type 0) → ((n : Text) (s : Space) (y : Id) → R s y → sought_one (F (text n ▸ absent ▸ ref s (name outward y) ▸ no_leaf)) ≡ None)
    → (y : Id) (k i : ℕ) (ns : List Text) (ss : List Space) → OfFirst (λ s. R s y) ns ss → found F (expand_exports_of y k i ns ss) ≡ None
exports_of-none F R f y k i [] ss h = refl
exports_of-none F R f y k i (n ∷ ns) [] h = refl
exports_of-none F R f y k i (n ∷ ns) (s ∷ ss) h = none-both (sought_one (F (text n ▸ absent ▸ ref s (name outward y) ▸ no_leaf))) (found F (expand_exports_of y k (i + 1) ns (s ∷ ss))) (f n s y h) (exports_of-none F R f y k (i + 1) ns (s ∷ ss) (again ns h))
  where
    again : (ms : List Text) → R s y → OfFirst (λ r. R r y) ms (s ∷ ss)
    again [] q = tt
    again (m ∷ ms) q = q

exports-none : (F : Leaves → Sought) (R : Space → Id → Type 0) → ((n : Text) (s : Space) (y : Id) → R s y → sought_one (F (text n ▸ absent ▸ ref s (name outward y) ▸ no_leaf)) ≡ None)
    → (g : Naming) (k : ℕ) (ds : Defs) → EachExport (λ i s y. R s y) g k ds → found F (expand_exports g k ds) ≡ None
exports-none F R f g k no_def h = refl
exports-none F R f g k (one_def (define ns (row t ls)) ds) h =
    let y : Id = the_id (first_id ns.ids (given g (written k))) in
    found-app F (expand_exports_of y k 0 ns.exports (declares_row t ls)) (expand_exports g (k + 1) ds)
    ∙ none-both (found F (expand_exports_of y k 0 ns.exports (declares_row t ls))) (found F (expand_exports g (k + 1) ds)) (exports_of-none F R f y k 0 ns.exports (declares_row t ls) h.0) (exports-none F R f g (k + 1) ds h.1)

kinds-found : (su : List Scope) (xs : List Entry) → kinds_of_defs su (entry_defs xs) ≡ found (kinds_of_leaves su) xs
kinds-found su [] = refl
kinds-found su (x ∷ xs) = ap (first_of_two (sought_one (kinds_of_leaves su x.leaves))) (kinds-found su xs)

kinds-expand : (x : Level) → kinds_of_defs (stack_at x) x.ds ≡ kinds_of_defs (expanded_at x) (entry_defs (list_of x))
kinds-expand x =
    let F : Leaves → Sought = list_kinds x in
    let D : List Entry = expand_defs x.by (scope_at x) 0 x.ds in
    let X : List Entry = expand_exports x.by 0 x.ds in
    let a : kinds_of_defs (stack_at x) x.ds ≡ found F D = kinds-defs x 0 x.ds [] refl (λ i. ap (def_at x.ds) (omega arith)) tt (earlier-none (text_kinds x) x.ds) x.all.0.0 x.all.0.1.1 x.all.0.2.0 (defs-in x) in
    let b : found F X ≡ None = exports-none F (Here (expanded_at x) outward) (λ n s y h. rw (generated_reach-kind (expanded_at x) false s y h) refl) x.by 0 x.ds (exports-here x) in
    a ∙ sym (first-none (found F D)) ∙ ap (first_of_two (found F D)) (sym b) ∙ sym (found-app F D X) ∙ sym (kinds-found (expanded_at x) (D ++ X))

-- ---- the ids of cases

case-none : (g : Naming) (c : Scope) (k u : ℕ) (s : Space) (t : Row) (r : Option Origin) (a : Expanded Leaves) (ls : Leaves) → case_ids ((expand_inline g c k u s t r a).here ▸ ls) ≡ case_ids ls
case-none g c k u s t (Some j) a ls = refl
case-none g c k u s t None a ls = refl

same-cases : (g : Naming) (c : Scope) (o : Origin) (k u : ℕ) (ls : Leaves) → case_ids (expand_leaves g c o k u ls).here ≡ case_ids ls
same-cases g c o k u no_leaf = refl
same-cases g c o k u (l ▸ ls) = go l (same-cases g c o k (u + references_leaf l) ls)
  where
    go : (m : Leaf) → case_ids (expand_leaves g c o k (u + references_leaf l) ls).here ≡ case_ids ls → case_ids ((expand_leaf g c o k u m).here ▸ (expand_leaves g c o k (u + references_leaf l) ls).here) ≡ case_ids (m ▸ ls)
    go (case_id (Some x)) h = ap (λ r. x ∷ r) h
    go (case_id None) h = h
    go (ref s (inline (row t ms))) h = case-none g c k u s t (reused (c ∷ []) k u t ms) (expand_leaves g c (inline_type k u) k (u + 1) ms) (expand_leaves g c o k (u + references_leaf l) ls).here ∙ h
    go (ref s (bundle (row t ms))) h = h
    go (present m) h = h
    go (node (row t ms)) h = h
    go (nodes ns) h = h
    go (scope (scope_of kd id label ds)) h = h
    go (core_value v) h = h
    go (ref s (numeral a n)) h = h
    go (ref s (name r x)) h = h
    go (ref s (path p)) h = h
    go (ref s (index i)) h = h
    go (text t) h = h
    go (number n) h = h
    go (kind s) h = h
    go (place p) h = h
    go absent h = h
    go (result_ids is) h = h
    go (result_count n) h = h
    go (core_source m) h = h
    go (module_bytes bs) h = h

-- ---- the third search

module _ (e : Encoding) where
  name_of_value : List Scope → CoreValue → Option Unmet
  name_of_value st (ref_name b r x) = unmet_name st r x (denotes st CoreType r x)
  name_of_value st _ = None

  name-value : (st : List Scope) (v : CoreValue) → unmet_of_leaf e st (core_value v) ≡ sought (name_of_value st v)
  unfolding name_of_value
  name-value st (ref_name b r x) = refl
  name-value st v = refl

  some-name : (st : List Scope) (r : Reach) (x : Id) (d : Denoted) → unmet_name st r x (Some d) ≡ None
  some-name st outward x d = refl
  some-name st own x d = refl
  some-name st (at_place (counted o n)) x d = refl
  some-name st (at_place (named o y)) x d = refl

  none-name : (st : List Scope) (r : Reach) (x : Id) → unmet_name st r x None ≡ None → ⊥
  none-name st outward x h = cc
  none-name st own x h = cc
  none-name st (at_place (counted o d)) x h = go (nat_lt d (length st)) h
    where
      go : (b : Bool) → cond b (unmet Rattle.comp_scopes.specs.Unmet.unknown x.offset) (unmet Rattle.comp_scopes.specs.Unmet.outer_count o) ≡ None → ⊥
      go true q = cc
      go false q = cc
  none-name st (at_place (named o y)) x h = cc

  same-named : (st : List Scope) (r q : Reach) (x y : Id) (o : Option Denoted) → unmet_name st r x o ≡ None → unmet_name st q y o ≡ None
  same-named st r q x y None h = absurd (none-name st r x h)
  same-named st r q x y (Some d) h = some-name st q y d

  value-name : (st : List Scope) (v w : CoreValue) → same_written_value v w ≡ true → name_of_value st v ≡ None → name_of_value st w ≡ None
  unfolding name_of_value
  value-name st (ref_name b r x) (ref_name d q y) h n =
      same-named st r q x y (denotes st CoreType q y) (ap (unmet_name st r x) (sym (written-denotes st b d r q x y h).1) ∙ n)
  value-name st v (ref_name d q y) h n = absurd (cc)
  value-name st v w h n = refl

  names-signature : (st : List Scope) (ls ms : Leaves) → same_written_signature ls ms ≡ true → sought_one (unmet_of_leaves e st ls) ≡ None → sought_one (unmet_of_leaves e st ms) ≡ None
  names-signature st = signature-quiet (name_of_value st) (unmet_of_leaves e st) (λ l ls v h d. rw (h, d, name-value st v) refl) (unmet_of_nodes e st []) refl
      (λ t ls ns v h. (
        λ q. both-quiet (unmet_of_leaves e st ls) (unmet_of_nodes e st [] ns) (both-quiet (sought None) (sought_both (unmet_of_leaves e st ls) (unmet_of_nodes e st [] ns))
            (subst (λ w. Quiet (sought_both (sought (unmet_cases [] (case_ids w))) (sought_both (unmet_of_leaves e st ls) (unmet_of_nodes e st (case_ids w ++ []) ns)))) h q)).1,
        λ q. subst (λ w. Quiet (sought_both (sought (unmet_cases [] (case_ids w))) (sought_both (unmet_of_leaves e st ls) (unmet_of_nodes e st (case_ids w ++ []) ns)))) (sym h)
            (quiet-both (sought None) (sought_both (unmet_of_leaves e st ls) (unmet_of_nodes e st [] ns)) (refl, refl, refl, refl) (quiet-both (unmet_of_leaves e st ls) (unmet_of_nodes e st [] ns) q.0 q.1)),
      )) (value-name st) (unmet_of_leaves e st) (λ ps rs. refl)

  place-same : (st su : List Scope) (p : Place) → TextPlace p → Indexed st su → unmet_place st p ≡ unmet_place su p
  place-same st su (counted o d) t h = refl
  place-same st su (named o x) t h = rw (named-same 0 st su x t h) refl

  root-same : (st su : List Scope) (s : Space) (p : Path) → Indexed st su → TextPath p → unmet_root st s p ≡ unmet_root su s p
  root-same st su s (root_number o n) h t = refl
  root-same st su s (root_name x) h t = name-same st su own s x (denotes st s own x) (denotes su s own x) (length-same st su h) (denoted-same st su s own x h tt t)
  root-same st su s (export_of p n) h t = root-same st su (instance_space s) p h t

  unmet-found : (su : List Scope) (xs : List Entry) → unmet_of_defs e su (entry_defs xs) ≡ found (unmet_of_leaves e su) xs
  unmet-found su [] = refl
  unmet-found su (x ∷ xs) = ap (first_of_two (sought_one (unmet_of_leaves e su x.leaves))) (unmet-found su xs)

  mutual
    bare-names : (su : List Scope) (ls : Leaves) → LeavesExpanded ls → Bare (unmet_of_leaves e su) (unmet_of_leaves e su ls)
    bare-names su no_leaf h = (refl, refl)
    bare-names su (l ▸ ls) h = let a : Bare (unmet_of_leaves e su) (unmet_of_leaf e su l) = bare-name su l h.0 in let b : Bare (unmet_of_leaves e su) (unmet_of_leaves e su ls) = bare-names su ls h.1 in (rw (a.0, b.0) refl, rw (a.1, b.1) refl)

    bare-name : (su : List Scope) (l : Leaf) → LeafExpanded l → Bare (unmet_of_leaves e su) (unmet_of_leaf e su l)
    bare-name su (core_value (ref_name b r x)) h = (refl, refl)
    bare-name su (ref s (inline n)) h = absurd h
    bare-name su (ref s (bundle n)) h = absurd h
    bare-name su (present l) h = bare-name su l h
    bare-name su (node (row t ls)) h = bare-names su ls h
    bare-name su (nodes ns) h = bare-names-nodes su [] ns h
    bare-name su (scope (scope_of q id label ds)) h = (refl, refl)
    bare-name su l h = (refl, refl)

    bare-names-nodes : (su : List Scope) (es : List Id) (ns : Nodes) → NodesExpanded ns → Bare (unmet_of_leaves e su) (unmet_of_nodes e su es ns)
    bare-names-nodes su es no_node h = (refl, refl)
    bare-names-nodes su es (one_node (row t ls) ns) h = let a : Bare (unmet_of_leaves e su) (unmet_of_leaves e su ls) = bare-names su ls h.0 in let b : Bare (unmet_of_leaves e su) (unmet_of_nodes e su (case_ids ls ++ es) ns) = bare-names-nodes su (case_ids ls ++ es) ns h.1 in (rw (a.0, b.0) refl, rw (a.1, b.1) refl)

  unmet-same : (x : Level) → unmet_of_defs e (stack_at x) x.ds ≡ found (unmet_of_leaves e (expanded_at x)) (expand_defs x.by (scope_at x) 0 x.ds)
      → first_unmet e x.st (scope_at x) ≡ first_unmet e (expand_stack x.gs x.st) (expand x.by (scope_at x))
  unmet-same x a =
      let F : Leaves → Sought = unmet_of_leaves e (expanded_at x) in
      let D : List Entry = expand_defs x.by (scope_at x) 0 x.ds in
      let X : List Entry = expand_exports x.by 0 x.ds in
      let b : found F X ≡ None = exports-none F (Here (expanded_at x) outward) (λ n s y h. rw (generated_reach-name (expanded_at x) false s y h) refl) x.by 0 x.ds (exports-here x) in
      let c : unmet_of_defs e (stack_at x) x.ds ≡ unmet_of_defs e (expanded_at x) (entry_defs (list_of x)) = a ∙ sym (first-none (found F D)) ∙ ap (first_of_two (found F D)) (sym b) ∙ sym (found-app F D X) ∙ sym (unmet-found (expanded_at x) (D ++ X)) in
      let d : first_duplicate [] (declarations_from 0 x.ds) ≡ first_duplicate [] (declarations_from 0 (entry_defs (list_of x))) =
      same-duplicate x.by (scope_at x) (declares-expand x.by (scope_at x)) x.ds X x.all.0.1.1 x.all.0.2.0 x.all.0.2.1 (exports-bare x.by 0 x.ds) in
      rw (d, kinds-expand x, c) refl

  -- of a scope and its list
  abbrev list_names : Level → Leaves → Sought
  list_names x = unmet_of_leaves e (expanded_at x)

  abbrev text_names : Level → Leaves → Sought
  text_names x = unmet_of_leaves e (stack_at x)

  abbrev list_name : Level → Leaf → Sought
  list_name x = unmet_of_leaf e (expanded_at x)

  abbrev text_name : Level → Leaf → Sought
  text_name x = unmet_of_leaf e (stack_at x)

  abbrev NamesQuiet : Level → List Typed → Type 0
  NamesQuiet x ts = AllTyped (QuietIn (unmet_of_leaves e (stack_at x))) ts

  mutual
    names-leaves : (x : Level) (o : Origin) (k u : ℕ) (ls : Leaves) (before rest : List Typed) → types (scope_at x) ≡ before ++ (types_of_leaves (scope_at x) k u ls before ++ rest) → NamesQuiet x before → SigQuiet (text_names x) (scope_at x) k → LeavesRowed ls → LeavesOfText ls → LeavesNamed x.by (scope_at x) o k u ls → InBoth x (expand_leaves x.by (scope_at x) o k u ls)
        → Finds (list_names x) (text_names x ls) (expand_leaves x.by (scope_at x) o k u ls).inlined (expand_leaves x.by (scope_at x) o k u ls).bundles (list_names x (expand_leaves x.by (scope_at x) o k u ls).here) (NamesQuiet x (types_of_leaves (scope_at x) k u ls before))
    names-leaves x o k u no_leaf before rest p q sq w t n i = finds-plain (list_names x) None (Unit {0}) tt
    names-leaves x o k u (l ▸ ls) before rest p q sq w t n i =
        let a : Expanded Leaf = expand_leaf x.by (scope_at x) o k u l in
        let b : Expanded Leaves = expand_leaves x.by (scope_at x) o k (u + references_leaf l) ls in
        let v : List Typed = types_of_leaf (scope_at x) k u l before in
        let y : List Typed = types_of_leaves (scope_at x) k (u + references_leaf l) ls (before ++ types_of_leaf (scope_at x) k u l before) in
        let z : (types (scope_at x) ≡ before ++ (v ++ (y ++ rest))) × (types (scope_at x) ≡ (before ++ v) ++ (y ++ rest)) = behind-these (scope_at x) before v y rest p in
        finds-weaken (list_names x) (text_names x (l ▸ ls)) (a.inlined ++ b.inlined) (a.bundles ++ b.bundles) (list_names x (a.here ▸ b.here)) (NamesQuiet x v × NamesQuiet x y) (NamesQuiet x (v ++ y)) (λ h. typed-app (QuietIn (text_names x)) v y h.0 h.1)
        (finds-both (list_names x) (text_name x l) (text_names x ls) a.inlined a.bundles b.inlined b.bundles (list_name x a.here) (list_names x b.here) (NamesQuiet x v) (NamesQuiet x y)
        (names-leaf x o k u l before (y ++ rest) z.0 q sq w.1 t.0 n.0 (each-left (In (list_of x)) a.inlined b.inlined i.0, each-left (In (list_of x)) a.bundles b.bundles i.1))
        (λ h. names-leaves x o k (u + references_leaf l) ls (before ++ v) rest z.1 (typed-app (QuietIn (text_names x)) before v q h) sq w.2 t.1 n.1 (each-right (In (list_of x)) a.inlined b.inlined i.0, each-right (In (list_of x)) a.bundles b.bundles i.1)))

    names-leaf : (x : Level) (o : Origin) (k u : ℕ) (l : Leaf) (before rest : List Typed) → types (scope_at x) ≡ before ++ (types_of_leaf (scope_at x) k u l before ++ rest) → NamesQuiet x before → SigQuiet (text_names x) (scope_at x) k → LeafRowed l → LeafOfText l → LeafNamed x.by (scope_at x) o k u l → InBoth x (expand_leaf x.by (scope_at x) o k u l)
        → Finds (list_names x) (text_name x l) (expand_leaf x.by (scope_at x) o k u l).inlined (expand_leaf x.by (scope_at x) o k u l).bundles (list_name x (expand_leaf x.by (scope_at x) o k u l).here) (NamesQuiet x (types_of_leaf (scope_at x) k u l before))
    names-leaf x o k u (core_value (ref_name b r y)) before rest p q sq w t n i =
        rw (name-same (stack_at x) (expanded_at x) r CoreType y (denotes (stack_at x) CoreType r y) (denotes (expanded_at x) CoreType r y) (length-same (stack_at x) (expanded_at x) (indexed x)) (denoted-same (stack_at x) (expanded_at x) CoreType r y (indexed x) t.0 t.1))
        (finds-plain (list_names x) (unmet_name (expanded_at x) r y (denotes (expanded_at x) CoreType r y)) (Unit {0}) tt)
    names-leaf x o k u (ref s (name r y)) before rest p q sq w t n i =
        rw (name-same (stack_at x) (expanded_at x) r s y (denotes (stack_at x) s r y) (denotes (expanded_at x) s r y) (length-same (stack_at x) (expanded_at x) (indexed x)) (denoted-same (stack_at x) (expanded_at x) s r y (indexed x) t.0 t.1))
        (finds-plain (list_names x) (unmet_name (expanded_at x) r y (denotes (expanded_at x) s r y)) (Unit {0}) tt)
    names-leaf x o k u (ref s (path v)) before rest p q sq w t n i = (refl, λ z. (refl, root-same (stack_at x) (expanded_at x) s v (indexed x) t, refl, tt))
    names-leaf x o k u (ref s (inline (row y ls))) before rest p q sq w t n i =
        inline-finds x (text_names x) (list_names x) (list_name x) (λ ls ms a h. names-equal e (stack_at x) ls ms a h) (λ s v h. ap sought (generated_reach-name (expanded_at x) (is_module_type x.kd) s v h)) k u s y ls before rest (LeavesNamed x.by (scope_at x) (inline_type k u) k (u + 1) ls) (expand_leaves x.by (scope_at x) (inline_type k u) k (u + 1) ls) (is_shared y) refl p q sq w.0
        (declares-expand x.by (scope_at x) (inline_type k u) k (u + 1) y ls ∙ w.0) n i (bare-names (expanded_at x) (expand_leaves x.by (scope_at x) (inline_type k u) k (u + 1) ls).here (leaves-bare x.by (scope_at x) (inline_type k u) k (u + 1) ls).2)
        (λ more r m j. names-leaves x (inline_type k u) k (u + 1) ls before more r q sq w.1 t m j)
    names-leaf x o k u (ref s (bundle (row y ls))) before rest p q sq w t n i =
        let a : Expanded Leaves = expand_leaves x.by (scope_at x) (bundle_of k u) k (u + 1) ls in
        let z : Entry = entry (bundle_of k u) (generated_names (given x.by (bundle_of k u))) y a in
        rw (generated_reach-name (expanded_at x) (is_module_type x.kd) s (the_id (given x.by (bundle_of k u))) (own-here x (bundle_of k u) y a (given x.by (bundle_of k u)) s (each-right (In (list_of x)) a.bundles (z ∷ []) i.1).0 n.0 (declares-expand x.by (scope_at x) (bundle_of k u) k (u + 1) y ls ∙ w.0)))
        (finds-bundle (list_names x) (text_names x ls) a.inlined a.bundles z (NamesQuiet x (types_of_leaves (scope_at x) k (u + 1) ls before))
        (names-leaves x (bundle_of k u) k (u + 1) ls before rest p q sq w.1 t n.1 (i.0, each-left (In (list_of x)) a.bundles (z ∷ []) i.1)) (bare-names (expanded_at x) a.here (leaves-bare x.by (scope_at x) (bundle_of k u) k (u + 1) ls).2))
    names-leaf x o k u (present l) before rest p q sq w t n i = names-leaf x o k u l before rest p q sq w t n i
    names-leaf x o k u (node (row y ls)) before rest p q sq w t n i = names-leaves x o k u ls before rest p q sq w t n i
    names-leaf x o k u (nodes ns) before rest p q sq w t n i = names-nodes x o k u [] ns before rest p q sq w t n i
    names-leaf x o k u (place v) before rest p q sq w t n i = rw (place-same (stack_at x) (expanded_at x) v t (indexed x)) (finds-plain (list_names x) (unmet_place (expanded_at x) v) (Unit {0}) tt)
    names-leaf x o k u (core_source v) before rest p q sq w t n i = finds-plain (list_names x) (unmet_core (e.core_refusal v)) (Unit {0}) tt
    names-leaf x o k u (scope (scope_of kd id label ds)) before rest p q sq w t n i =
        let y : Level = inner x o kd id label ds w t n in
        rw (unmet-same y (names-defs y 0 ds [] refl (λ m. ap (def_at ds) (omega arith)) tt (earlier-none (unmet_of_leaves e (stack_at y)) ds) w t.1 n.0 (defs-in y)))
        (finds-plain (list_names x) (first_unmet e (expanded_at x) (expand (inside x.by o) (scope_of kd id label ds))) (Unit {0}) tt)
    names-leaf x o k u l before rest p q sq w t n i = finds-plain (list_names x) None (Unit {0}) tt

    names-nodes : (x : Level) (o : Origin) (k u : ℕ) (es : List Id) (ns : Nodes) (before rest : List Typed) → types (scope_at x) ≡ before ++ (types_of_nodes (scope_at x) k u ns before ++ rest) → NamesQuiet x before → SigQuiet (text_names x) (scope_at x) k → NodesRowed ns → NodesOfText ns → NodesNamed x.by (scope_at x) o k u ns → InBoth x (expand_nodes x.by (scope_at x) o k u ns)
        → Finds (list_names x) (unmet_of_nodes e (stack_at x) es ns) (expand_nodes x.by (scope_at x) o k u ns).inlined (expand_nodes x.by (scope_at x) o k u ns).bundles (unmet_of_nodes e (expanded_at x) es (expand_nodes x.by (scope_at x) o k u ns).here) (NamesQuiet x (types_of_nodes (scope_at x) k u ns before))
    names-nodes x o k u es no_node before rest p q sq w t n i = finds-plain (list_names x) None (Unit {0}) tt
    names-nodes x o k u es (one_node (row y ls) ns) before rest p q sq w t n i =
        let a : Expanded Leaves = expand_leaves x.by (scope_at x) o k u ls in
        let b : Expanded Nodes = expand_nodes x.by (scope_at x) o k (u + references ls) ns in
        let v : List Typed = types_of_leaves (scope_at x) k u ls before in
        let m : List Typed = types_of_nodes (scope_at x) k (u + references ls) ns (before ++ types_of_leaves (scope_at x) k u ls before) in
        let z : (types (scope_at x) ≡ before ++ (v ++ (m ++ rest))) × (types (scope_at x) ≡ (before ++ v) ++ (m ++ rest)) = behind-these (scope_at x) before v m rest p in
        let f : case_ids a.here ≡ case_ids ls = same-cases x.by (scope_at x) o k u ls in
        rw f
        (finds-weaken (list_names x) (unmet_of_nodes e (stack_at x) es (one_node (row y ls) ns)) (a.inlined ++ b.inlined) (a.bundles ++ b.bundles) (sought_both (sought (unmet_cases es (case_ids ls))) (sought_both (list_names x a.here) (unmet_of_nodes e (expanded_at x) (case_ids ls ++ es) b.here))) (Unit {0} × (NamesQuiet x v × NamesQuiet x m)) (NamesQuiet x (v ++ m))
        (λ h. typed-app (QuietIn (text_names x)) v m h.1.0 h.1.1)
        (finds-both (list_names x) (sought (unmet_cases es (case_ids ls))) (sought_both (text_names x ls) (unmet_of_nodes e (stack_at x) (case_ids ls ++ es) ns)) [] [] (a.inlined ++ b.inlined) (a.bundles ++ b.bundles)
        (sought (unmet_cases es (case_ids ls))) (sought_both (list_names x a.here) (unmet_of_nodes e (expanded_at x) (case_ids ls ++ es) b.here)) (Unit {0}) (NamesQuiet x v × NamesQuiet x m)
        (finds-plain (list_names x) (unmet_cases es (case_ids ls)) (Unit {0}) tt)
        (λ c. finds-both (list_names x) (text_names x ls) (unmet_of_nodes e (stack_at x) (case_ids ls ++ es) ns) a.inlined a.bundles b.inlined b.bundles (list_names x a.here) (unmet_of_nodes e (expanded_at x) (case_ids ls ++ es) b.here) (NamesQuiet x v) (NamesQuiet x m)
        (names-leaves x o k u ls before (m ++ rest) z.0 q sq w.1 t.0 n.0 (each-left (In (list_of x)) a.inlined b.inlined i.0, each-left (In (list_of x)) a.bundles b.bundles i.1))
        (λ h. names-nodes x o k (u + references ls) (case_ids ls ++ es) ns (before ++ v) rest z.1 (typed-app (QuietIn (text_names x)) before v q h) sq w.2 t.1 n.1 (each-right (In (list_of x)) a.inlined b.inlined i.0, each-right (In (list_of x)) a.bundles b.bundles i.1)))))

    names-defs : (x : Level) (k : ℕ) (ds : Defs) (before : List Typed) → types (scope_at x) ≡ before ++ types_of_defs (scope_at x) k ds before → ((i : ℕ) → def_at x.ds (k + i) ≡ def_at ds i) → NamesQuiet x before → Earlier (text_names x) x.ds k → DefsRowed ds → DefsOfText ds → DefsNamed x.by (scope_at x) k ds
        → EachListed (In (list_of x)) (expand_defs x.by (scope_at x) k ds) → unmet_of_defs e (stack_at x) ds ≡ found (list_names x) (expand_defs x.by (scope_at x) k ds)
    names-defs x k no_def before p v q f w t n i = refl
    names-defs x k (one_def (define ns (row y ls)) ds) before p v q f w t n i =
        let z : k + 0 ≡ k = omega arith in
        let d : def_at x.ds k ≡ Some (define ns (row y ls)) = subst (λ m. def_at x.ds m ≡ Some (define ns (row y ls))) z (v 0) in
        let a : Expanded Leaves = expand_leaves x.by (scope_at x) (written k) k 0 ls in
        let own : Entry = entry (written k) (given_names ns (given x.by (written k))) y a in
        let one : List Entry = a.inlined ++ (a.bundles ++ own ∷ []) in
        let more : List Entry = expand_defs x.by (scope_at x) (k + 1) ds in
        let j : EachListed (In (list_of x)) one = each-left (In (list_of x)) one more i in
        let m : List Typed = types_of_leaves (scope_at x) k 0 ls before in
        let new : List Typed = m ++ written_type k y ls in
        let later : List Typed = types_of_defs (scope_at x) (k + 1) ds (before ++ new) in
        let g : (types (scope_at x) ≡ before ++ (m ++ (written_type k y ls ++ later))) × (types (scope_at x) ≡ (before ++ m) ++ (written_type k y ls ++ later)) = behind-these (scope_at x) before m (written_type k y ls) later p in
        let h : Finds (list_names x) (text_names x ls) a.inlined a.bundles (list_names x a.here) (NamesQuiet x m) =
        names-leaves x (written k) k 0 ls before (written_type k y ls ++ later) g.0 q (sig-quiet (text_names x) (scope_at x) k (names-signature (stack_at x)) f) w.3 t.1 n.2 (each-left (In (list_of x)) a.inlined (a.bundles ++ own ∷ []) j, each-left (In (list_of x)) a.bundles (own ∷ []) (each-right (In (list_of x)) a.inlined (a.bundles ++ own ∷ []) j)) in
        step (list_names x) (sought_one (text_names x ls)) (unmet_of_defs e (stack_at x) ds) one more
        (finds-one (list_names x) (text_names x ls) a.inlined a.bundles own (NamesQuiet x m) h (bare-names (expanded_at x) a.here (leaves-bare x.by (scope_at x) (written k) k 0 ls).2))
        (λ r. names-defs x (k + 1) ds (before ++ new) (p ∙ sym (app-assoc before new later)) (λ e. ap (def_at x.ds) (omega arith) ∙ v (suc e))
        (typed-app (QuietIn (text_names x)) before new q (typed-app (QuietIn (text_names x)) m (written_type k y ls) (one-holds (list_names x) (text_names x ls) a.inlined a.bundles (list_names x a.here) (NamesQuiet x m) h r) (written-quiet (text_names x) k y ls r)))
        (earlier-next (text_names x) x.ds k ns y ls f d r) w.4 t.2 n.3 (each-right (In (list_of x)) one more i))

  -- the first unmet demand
  pub unmet-expand : (x : Level) → first_unmet e x.st (scope_at x) ≡ first_unmet e (expand_stack x.gs x.st) (expand x.by (scope_at x))
  unmet-expand x = unmet-same x (names-defs x 0 x.ds [] refl (λ i. ap (def_at x.ds) (omega arith)) tt (earlier-none (text_names x) x.ds) x.all.0.0 x.all.0.1.1 x.all.0.2.0 (defs-in x))
