-- Generated names lead to the indices of the marks in whose place they stand.
use Rattle.std.proofs.Common.{◌≡◌, ℕ, zero, suc, ◌+◌, Bool, true, false, cond, List, [], ◌∷◌, ◌++◌, find, slice_get, Option, Some, None, IsSome, refl, sym, ◌∙◌, ap, subst, arith}
use Rattle.std.proofs.lemmas.List.{append_assoc}
use Rattle.comp_model.specs.declared.Space.{Space}
use Rattle.comp_model.specs.declared.row.Row.{Row}
use Rattle.comp_model.specs.Core.{Text, Id, is_of_text, outward, own}
use Rattle.comp_model.specs.Model.{Leaves, row, Names, Def, define, Defs, no_def, one_def, Scope, scope_of}
use Rattle.comp_model.specs.declared.row.ScopeKind.{ScopeKind}
use Rattle.comp_model.specs.Spaces.{declares_row, Declaration, parts, declarations_from, declared}
use Rattle.comp_model.specs.Origins.{Origin, written, inline_type, bundle_of, inline_export, export_step, outer_alias_of, name_section}
use Rattle.comp_model.proofs.Tests.{same_space-refl}
use Rattle.comp_scopes.specs.Names.{denotes}
use Rattle.comp_scopes.specs.Signatures.{is_module_type}
use Rattle.comp_scopes.specs.Reused.{reused}
use Rattle.comp_scopes.specs.Plan.{marks, before}
use Rattle.comp_scopes.specs.Outward.{leads_out}
use Rattle.comp_scopes.specs.Rule.{AllDistinct}
use Rattle.comp_expanded.specs.Expansion.{Naming, Entry, entry_defs, given, the_id, generated_reach, generated_names, id_of_mark, first_id, ids_at, Expanded, entry, expand_defs, expand_exports, expand_list, expand}
use Rattle.comp_expanded.specs.OfText.{TextId, TextIds, DefsOfText}
use Rattle.comp_expanded.specs.Named.{IsGenerated, InlineNamed, MayBeGiven, ExportsNamed, DefsNamed}
use Rattle.comp_expanded.proofs.Stacks.{expand_stack, AllNamed}
use Rattle.comp_expanded.proofs.Ready.{same_id-refl, In, in-self}
use Rattle.comp_expanded.proofs.Ids.{EachListed, each-left, wanted}
use Rattle.comp_expanded.proofs.ScopeOf.{def_at, ids-of, first-found, OfFirst, EachExport}
use Rattle.comp_expanded.proofs.Index.{part_named, entry-alone, SameItem, some-item, find-distinct, here-denoted, LeadsNear, at-told, expand-item}
use Rattle.comp_expanded.proofs.Listed.{Stood, reused-stood}
use Rattle.comp_scopes.proofs.Lookup.{some-same}

-- ---- what is known of definition i

text-at : (k : ℕ) (ds : Defs) (i : ℕ) (ns : Names) (t : Row) (ls : Leaves) → DefsOfText ds → def_at ds i ≡ Some (define ns (row t ls)) → TextIds ns.ids
text-at k no_def i ns t ls h e = absurd (cc)
text-at k (one_def (define ms (row v vs)) ds) zero ns t ls h e = let q : define ms (row v vs) ≡ define ns (row t ls) = some-same _ _ e in subst (λ d. TextIds (ids_in d)) q h.0
  where
    ids_in : Def → List (Option Id)
    ids_in (define ws n) = ws.ids
text-at k (one_def (define ms (row v vs)) ds) (suc i) ns t ls h e = text-at (k + 1) ds i ns t ls h.2 e

given-at : (g : Naming) (c : Scope) (k : ℕ) (ds : Defs) (i : ℕ) (d : Def) → DefsNamed g c k ds → def_at ds i ≡ Some d → MayBeGiven (given g (written (k + i)))
given-at g c k no_def i d h e = absurd (cc)
given-at g c k (one_def (define ms (row v vs)) ds) zero d h e = let z : k + zero ≡ k = omega arith in rw z h.0
given-at g c k (one_def (define ms (row v vs)) ds) (suc i) d h e = let z : k + suc i ≡ k + 1 + i = omega arith in rw z (given-at g c (k + 1) ds i d h.3 e)

declared-at : (k : ℕ) (ds : Defs) (i : ℕ) (ns : Names) (t : Row) (ls : Leaves) (x : Id) (ids : List (Option Id)) (s : Space) (ss : List Space) → def_at ds i ≡ Some (define ns (row t ls)) → ns.ids ≡ Some x ∷ ids → declares_row t ls ≡ s ∷ ss
    → (xs : List Declaration) × (ys : List Declaration) × (declarations_from k ds ≡ xs ++ part_named s x (k + i) ∷ ys)
declared-at k no_def i ns t ls x ids s ss e a b = absurd (cc)
declared-at k (one_def (define ms (row v vs)) ds) zero ns t ls x ids s ss e a b =
    let q : define ms (row v vs) ≡ define ns (row t ls) = some-same _ _ e in
    let z : k + zero ≡ k = omega arith in
    let f : parts k 0 ms.ids (declares_row v vs) ≡ parts k 0 ns.ids (declares_row t ls) = ap parts_of q in
    ([], parts k (0 + 1) ids ss ++ declarations_from (k + 1) ds, rw (f, a, b, z) refl)
  where
    parts_of : Def → List Declaration
    parts_of (define ws (row y ys)) = parts k 0 ws.ids (declares_row y ys)
declared-at k (one_def (define ms (row v vs)) ds) (suc i) ns t ls x ids s ss e a b =
    let r : (xs : List Declaration) × (ys : List Declaration) × (declarations_from (k + 1) ds ≡ xs ++ part_named s x (k + 1 + i) ∷ ys) = declared-at (k + 1) ds i ns t ls x ids s ss e a b in
    let z : k + suc i ≡ k + 1 + i = omega arith in
    (parts k 0 ms.ids (declares_row v vs) ++ r.0, r.1, rw (r.2, z) (sym (append_assoc (parts k 0 ms.ids (declares_row v vs)) r.0 (part_named s x (k + 1 + i) ∷ r.1))))

-- each exported definition by its number in the whole
export-by : (Q : ℕ → Space → Id → Type 0) (g : Naming) (c : Scope) (whole : Defs)
    → ((k : ℕ) (ns : Names) (t : Row) (ls : Leaves) (s : Space) (ss : List Space) → def_at whole k ≡ Some (define ns (row t ls)) → IsSome (first_id ns.ids (given g (written k))) → declares_row t ls ≡ s ∷ ss → Q k s (the_id (first_id ns.ids (given g (written k)))))
    → (k : ℕ) (ds : Defs) → ((i : ℕ) → def_at whole (k + i) ≡ def_at ds i) → DefsNamed g c k ds → EachExport Q g k ds
export-by Q g c whole f k no_def e h = tt
export-by Q g c whole f k (one_def (define ns (row t ls)) ds) e h =
    let z : k + 0 ≡ k = omega arith in
    let q : def_at whole k ≡ Some (define ns (row t ls)) = subst (λ n. def_at whole n ≡ Some (define ns (row t ls))) z (e 0) in
    (go ns.exports (declares_row t ls) refl h.1 q, export-by Q g c whole f (k + 1) ds (λ i. ap (def_at whole) (omega arith) ∙ e (suc i)) h.3)
  where
    go : (xs : List Text) (ss : List Space) → declares_row t ls ≡ ss → ExportsNamed xs (first_id ns.ids (given g (written k))) → def_at whole k ≡ Some (define ns (row t ls)) → OfFirst (λ s. Q k s (the_id (first_id ns.ids (given g (written k))))) xs ss
    go [] ss d n q = tt
    go (x ∷ xs) [] d n q = tt
    go (x ∷ xs) (s ∷ ss) d n q = f k ns t ls s ss q n d

module _ (g : Naming) (kd : ScopeKind) (id : Option Id) (label : Option Text) (ds : Defs) (gs : List Naming) (st : List Scope)
    (all : AllNamed (g ∷ gs) (scope_of kd id label ds ∷ st)) where
  abbrev L : List Entry
  L = expand_list g (scope_of kd id label ds)

  abbrev st' : List Scope
  st' = scope_of kd id label ds ∷ st

  abbrev su : List Scope
  su = expand_stack (g ∷ gs) (scope_of kd id label ds ∷ st)

  generated-leads : (b : Bool) (p : ℕ) (x : Entry) (y : Id) (ids : List (Option Id)) (s : Space) (ss : List Space) → slice_get L p ≡ Some x → x.names.ids ≡ Some y ∷ ids → is_of_text y ≡ false → declares_row x.head x.leaves ≡ s ∷ ss
      → LeadsNear st' su (cond b own outward) s y x.origin
  generated-leads b p x y ids s ss e i t d =
      let z : 0 + p ≡ p = omega arith in
      let f : find (wanted s y) (declarations_from 0 (entry_defs L)) ≡ Some (part_named s y p) = subst (λ n. find (wanted s y) (declarations_from 0 (entry_defs L)) ≡ Some (part_named s y n)) z (entry-alone 0 p L x y ids s ss e i d t all.0.2.1) in
      let h : (denotes su s (cond b own outward) y ≡ Some (record { depth = 0; item = part_named s y p })) × (leads_out (cond b own outward) (Some (record { depth = 0; item = part_named s y p })) ≡ false) =
      here-denoted (expand g (scope_of kd id label ds)) (expand_stack gs st) b s y (part_named s y p) f in
      let v : before s (written p) (marks su) + 0 ≡ before s (written p) (marks su) = omega arith in
      (record { depth = 0; item = part_named s y p }, h.0, h.1, v ∙ sym ((at-told g kd id label ds gs st all p x e).1 s))

  written-leads : (b : Bool) (i : ℕ) (ns : Names) (t : Row) (ls : Leaves) (s : Space) (ss : List Space) → AllDistinct (declarations_from 0 ds) → def_at ds i ≡ Some (define ns (row t ls)) → IsSome (first_id ns.ids (given g (written i))) → declares_row t ls ≡ s ∷ ss
      → LeadsNear st' su (cond b own outward) s (the_id (first_id ns.ids (given g (written i)))) (written i)
  written-leads b i ns t ls s ss a e n d = go ns.ids refl n (text-at 0 ds i ns t ls all.0.1.1 e)
    where
      given-leads : (y : Option Id) → given g (written i) ≡ y → first_id ns.ids (given g (written i)) ≡ y → IsSome y → LeadsNear st' su (cond b own outward) s (the_id y) (written i)
      given-leads None q r w = absurd (cc)
      given-leads (Some y) q r w =
          let j : ids_at ds i ≡ ns.ids = ids-of ds i ns t ls e in
          let r' : first_id (ids_at ds i) (given g (written i)) ≡ Some y = subst (λ ids. first_id ids (given g (written i)) ≡ Some y) (sym j) r in
          let f : (p : ℕ) × (x : Entry) × (rest : List (Option Id)) × (slice_get L p ≡ Some x) × (x.names.ids ≡ Some (the_id (first_id (ids_at ds i) (given g (written i)))) ∷ rest) × (declares_row x.head x.leaves ≡ declares_row t ls) × (x.origin ≡ written i) =
          first-found g (scope_of kd id label ds) L ds i ns t ls (each-left (In L) (expand_defs g (scope_of kd id label ds) 0 ds) (expand_exports g 0 ds) (in-self L)) e (subst IsSome (sym r') w) in
          let z : 0 + i ≡ i = omega arith in
          let m : MayBeGiven (given g (written i)) = subst (λ k. MayBeGiven (given g (written k))) z (given-at g (scope_of kd id label ds) 0 ds i (define ns (row t ls)) all.0.2.0 e) in
          subst (LeadsNear st' su (cond b own outward) s y) f.6
          (generated-leads b f.0 f.1 y f.2 s ss f.3 (f.4 ∙ ap (λ v. Some (the_id v) ∷ f.2) r') (subst MayBeGiven q m) (f.5 ∙ d))

      text-leads : (x : Id) (ids : List (Option Id)) → ns.ids ≡ Some x ∷ ids → TextId x → LeadsNear st' su (cond b own outward) s x (written i)
      text-leads x ids q h =
          let r : (xs : List Declaration) × (ys : List Declaration) × (declarations_from 0 ds ≡ xs ++ part_named s x (0 + i) ∷ ys) = declared-at 0 ds i ns t ls x ids s ss e q d in
          let w : wanted s x (part_named s x (0 + i)) ≡ true = rw (same_space-refl s, same_id-refl x) refl in
          let f : find (wanted s x) (declarations_from 0 ds) ≡ Some (part_named s x (0 + i)) = ap (find (wanted s x)) r.2 ∙ find-distinct s x r.0 (part_named s x (0 + i)) r.1 w refl refl (subst AllDistinct r.2 a) in
          let k : SameItem s (marks st') (marks su) (Some (part_named s x (0 + i))) (declared (expand g (scope_of kd id label ds)) s x) = subst (λ v. SameItem s (marks st') (marks su) v (declared (expand g (scope_of kd id label ds)) s x)) f (expand-item g kd id label ds gs st all s x h) in
          let v : (v : Declaration) × (declared (expand g (scope_of kd id label ds)) s x ≡ Some v) × (before s (written (0 + i)) (marks st') + 0 ≡ before s (written v.definition) (marks su) + v.part) =
          some-item s (marks st') (marks su) (part_named s x (0 + i)) (declared (expand g (scope_of kd id label ds)) s x) k in
          let u : (denotes su s (cond b own outward) x ≡ Some (record { depth = 0; item = v.0 })) × (leads_out (cond b own outward) (Some (record { depth = 0; item = v.0 })) ≡ false) =
          here-denoted (expand g (scope_of kd id label ds)) (expand_stack gs st) b s x v.0 v.1 in
          let z : 0 + i ≡ i = omega arith in
          let y : before s (written i) (marks st') + 0 ≡ before s (written v.0.definition) (marks su) + v.0.part = subst (λ n. before s (written n) (marks st') + 0 ≡ before s (written v.0.definition) (marks su) + v.0.part) z v.2 in
          (record { depth = 0; item = v.0 }, u.0, u.1, sym y ∙ omega arith)

      go : (ids : List (Option Id)) → ns.ids ≡ ids → IsSome (first_id ns.ids (given g (written i))) → TextIds ns.ids → LeadsNear st' su (cond b own outward) s (the_id (first_id ns.ids (given g (written i)))) (written i)
      go [] q w h = let r : first_id ns.ids (given g (written i)) ≡ given g (written i) = ap (λ ids. first_id ids (given g (written i))) q in rw r (given-leads (given g (written i)) refl r (subst IsSome r w))
      go (None ∷ ids) q w h = let r : first_id ns.ids (given g (written i)) ≡ given g (written i) = ap (λ v. first_id v (given g (written i))) q in rw r (given-leads (given g (written i)) refl r (subst IsSome r w))
      go (Some x ∷ ids) q w h = let r : first_id ns.ids (given g (written i)) ≡ Some x = ap (λ v. first_id v (given g (written i))) q in rw r (text-leads x ids q (subst TextIds q h).0)

  defs-in : EachListed (In L) (expand_defs g (scope_of kd id label ds) 0 ds)
  defs-in = each-left (In L) (expand_defs g (scope_of kd id label ds) 0 ds) (expand_exports g 0 ds) (in-self L)

  pub own-leads : (o : Origin) (t : Row) (a : Expanded Leaves) (y : Option Id) (s : Space) → In L (entry o (generated_names y) t a) → IsGenerated y → declares_row t a.here ≡ s ∷ [] → LeadsNear st' su (generated_reach (scope_of kd id label ds)) s (the_id y) o
  own-leads o t a None s m h d = absurd h
  own-leads o t a (Some y) s m h d = generated-leads (is_module_type kd) m.0 (entry o (generated_names (Some y)) t a) y [] s [] m.1 refl h d

  stood-leads : (k u : ℕ) (s : Space) (o : Origin) → AllDistinct (declarations_from 0 ds) → Stood g (scope_of kd id label ds) L s o → InlineNamed g (scope_of kd id label ds) k u (Some o) (Unit {0}) → LeadsNear st' su (generated_reach (scope_of kd id label ds)) s (id_of_mark g (scope_of kd id label ds) o) o
  stood-leads k u s (written j) a h n =
      let r : ids_at ds j ≡ h.0.ids = ids-of ds j h.0 h.1 h.2 h.3 in
      subst (λ ids. LeadsNear st' su (generated_reach (scope_of kd id label ds)) s (the_id (first_id ids (given g (written j)))) (written j)) (sym r)
      (written-leads (is_module_type kd) j h.0 h.1 h.2 s [] a h.3 (subst (λ ids. IsSome (first_id ids (given g (written j)))) r n) h.4)
  stood-leads k u s (inline_type j v) a h n = go (given g (inline_type j v)) h.4 h.5
    where
      go : (y : Option Id) → h.1.names ≡ generated_names y → IsGenerated y → LeadsNear st' su (generated_reach (scope_of kd id label ds)) s (the_id y) (inline_type j v)
      go None e i = absurd i
      go (Some y) e i = subst (LeadsNear st' su (generated_reach (scope_of kd id label ds)) s y) h.3 (generated-leads (is_module_type kd) h.0 h.1 y [] s [] h.2 (ap (λ (ns : Names). ns.ids) e) i h.6)
  stood-leads k u s (bundle_of j v) a h n = absurd h
  stood-leads k u s (inline_export j v) a h n = absurd h
  stood-leads k u s (export_step j v i) a h n = absurd h
  stood-leads k u s (outer_alias_of j v) a h n = absurd h
  stood-leads k u s name_section a h n = absurd h

  -- what is reused
  pub again-leads : (k u : ℕ) (t : Row) (ls : Leaves) (o : Origin) (s : Space) → AllDistinct (declarations_from 0 ds) → reused (scope_of kd id label ds ∷ []) k u t ls ≡ Some o → InlineNamed g (scope_of kd id label ds) k u (Some o) (Unit {0}) → declares_row t ls ≡ s ∷ []
      → LeadsNear st' su (generated_reach (scope_of kd id label ds)) s (id_of_mark g (scope_of kd id label ds) o) o
  again-leads k u t ls o s a e n d =
      let r : (v : Space) × (declares_row t ls ≡ v ∷ []) × Stood g (scope_of kd id label ds) L v o = reused-stood g (scope_of kd id label ds) L all.0.2.0 defs-in k u t ls o e in
      let q : r.0 ≡ s = head-same r.0 s (sym r.1 ∙ d) in
      subst (λ v. LeadsNear st' su (generated_reach (scope_of kd id label ds)) v (id_of_mark g (scope_of kd id label ds) o) o) q (stood-leads k u r.0 o a r.2 n)
    where
      head-same : (v w : Space) → v ∷ [] ≡ w ∷ [] → v ≡ w
      head-same v w h = cc

  pub exports-lead : AllDistinct (declarations_from 0 ds) → EachExport (λ k s x. LeadsNear st' su outward s x (written k)) g 0 ds
  exports-lead a = export-by (λ k s x. LeadsNear st' su outward s x (written k)) g (scope_of kd id label ds) ds (λ k ns t ls s ss e n d. written-leads false k ns t ls s ss a e n d) 0 ds (λ i. ap (def_at ds) (omega arith)) all.0.2.0
