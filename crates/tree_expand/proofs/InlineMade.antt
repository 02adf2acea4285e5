-- What an inline node and a bundle become.
use Rattle.std.specs.List.{range_with_len}
use Rattle.std.proofs.Common.{◌≡◌, ℕ, ◌+◌, true, List, [], ◌∷◌, ◌++◌, length, Option, Some, None, refl, sym, ap, ◌∙◌, subst, arith, append_assoc, append-nil}
use Rattle.comp_model.specs.declared.Space.{Space}
use Rattle.comp_model.specs.declared.row.Row.{Row}
use Rattle.comp_model.specs.Core.{Id, Reach}
use Rattle.comp_model.specs.Model.{Leaf, ref, name, inline, bundle, Leaves, row, Scope}
use Rattle.comp_model.specs.Origins.{inline_type, bundle_of}
use Rattle.comp_scopes.specs.References.{references}
use Rattle.comp_scopes.specs.Signatures.{reused_signature}
use Rattle.comp_scopes.specs.Reused.{is_shared}
use Rattle.comp_expanded.specs.ListMarks.{Inside, nothing_inside}
use Rattle.comp_expanded.specs.Expansion.{Entry, generated_reach, generated_names}
use Rattle.comp_tree.specs.Model.{id_of}
use Rattle.comp_tree.specs.Marks.{places_of}
use Rattle.wast_parser.specs.declared.index.Id as spelled
use Rattle.type_keys.specs.Keys.{Part, part_type, stands_for, LeavesPassed}
use Rattle.tree_expand.specs.KeyParts.{leaves_parts, begun_parts, KeyShows}
use Rattle.tree_expand.specs.Known.{Shows}
use Rattle.tree_expand.specs.Passed.{Noted, types_in, ids_in}
use Rattle.tree_expand.specs.Numbering.{Numbered, id_numbered, noted_inline, number_found, number_inline, number_leaf, number_leaves}
use Rattle.tree_expand.specs.Walked.{State, Walked, NamedBy, Reuses}
use Rattle.tree_expand.proofs.Passing.{some_none, shared_apart, apart_stands, leaves_passed}
use Rattle.tree_expand.proofs.PlacesLong.{leaves_long}
use Rattle.tree_expand.proofs.Ranges.{places_right}
use Rattle.tree_expand.proofs.Walking.{LeavesAre, leaves_at}

module _ (ids : List (Option Id)) (c : Scope) (k : ℕ) where
  abbrev pub InlineIs : Space → Row → Leaves → Leaf → Inside → State → State → Type 0
  InlineIs sp g ls x h s o = (E : List Noted) → Shows s.known E
      → Walked E (number_leaf ids c k E s.reference s.made (ref sp (inline (row g ls)))) (1 + references ls) (λ xs. part_type (stands_for xs g ls) ∷ []) x h s o

  -- a signature that is reused
  pub signature-made : (s o : State) (sp : Space) (g : Row) (ls : Leaves) (id : spelled.Id) (found : Option spelled.Id) (reach : Reach) (v : ℕ) → found ≡ Some id → reach ≡ generated_reach c → v ≡ s.reference + 1
      → Reuses (reused_signature (c ∷ []) k g ls) ids found v o.reference (references ls)
      → o.inlined ≡ s.inlined → o.bundles ≡ s.bundles → o.places ≡ s.places ++ range_with_len s.reference 1 → o.known ≡ s.known → o.made ≡ s.made
      → ((ps : List Part) → KeyShows s.key ps → KeyShows o.key (ps ++ part_type None ∷ []))
      → InlineIs sp g ls (ref sp (name reach (id_of id))) nothing_inside s o
  signature-made s o sp g ls id found reach v fe re ve r oi ob op ok om key = λ E h. go (reused_signature (c ∷ []) k g ls) refl r E h
    where
      go : (q : Option ℕ) → reused_signature (c ∷ []) k g ls ≡ q → Reuses q ids found v o.reference (references ls) → (E : List Noted) → Shows s.known E
          → Walked E (number_inline ids c k E s.reference s.made sp g ls (number_leaves ids c k E (s.reference + 1) s.made ls) q) (1 + references ls) (λ xs. part_type (stands_for xs g ls) ∷ []) (ref sp (name reach (id_of id))) nothing_inside s o
      go None e q E h = some_none id (sym fe ∙ q.0)
      go (Some j) e q E h = record {
        here = ap (λ w. ref sp (name w (id_of id))) re ∙ ap (λ y. ref sp (name (generated_reach c) y)) (ap (λ w. id_or w) (sym fe ∙ q.1) ∙ q.2);
        held = refl;
        inlined = oi ∙ sym (append-nil s.inlined);
        bundles = ob ∙ sym (append-nil s.bundles);
        places = op;
        reference = omega (arith, q.3, ve);
        made = omega (arith, om);
        known = subst (λ w. Shows w (E ++ [])) (sym ok) (subst (Shows s.known) (sym (append-nil E)) h);
        key = λ ps w. subst (λ z. KeyShows o.key (ps ++ part_type z ∷ [])) (sym (apart_stands (types_in (E ++ [])) g ls (unshared (is_shared g) refl e))) (key ps w);
      }
        where
          id_or : Option spelled.Id → Id
          id_or None = id_numbered 0
          id_or (Some x) = id_of x

          unshared : (b : Rattle.std.proofs.Common.Bool) → is_shared g ≡ b → reused_signature (c ∷ []) k g ls ≡ Some j → is_shared g ≡ Rattle.std.proofs.Common.false
          unshared Rattle.std.proofs.Common.true e f = some_none j (sym f ∙ shared_apart c k g ls e)
          unshared Rattle.std.proofs.Common.false e f = e

  -- one that is named behind the walk over its leaves: `t` is behind them, which began at `b`; ps and n are the places and how many
  pub inline-made : (s b t o : State) (sp : Space) (g : Row) (ls x : Leaves) (h : Inside) (id : spelled.Id) (none : Option spelled.Id) (d u v : ℕ) (qs : List ℕ) (n : ℕ) (reach : Reach)
      → d ≡ k → u ≡ s.reference → v ≡ s.reference + 1 → reach ≡ generated_reach c → none ≡ None
      → Reuses (reused_signature (c ∷ []) k g ls) ids none v b.reference (references ls)
      → b.inlined ≡ s.inlined → b.bundles ≡ [] → b.places ≡ [] → b.known ≡ s.known → b.made ≡ s.made → KeyShows b.key (begun_parts true g)
      → LeavesAre ids c k ls x h b t
      → t.places ≡ places_of qs n
      → ((xs : List Noted) → Shows t.known xs → KeyShows t.key (begun_parts true g ++ leaves_parts (types_in xs) ls) → LeavesPassed (types_in xs) ls
      → NamedBy xs d u g ls (λ y. record { origin = inline_type d u; places = places_of qs (references x); held = h; names = generated_names (Some y); head = g; leaves = x }) (t.inlined ++ t.bundles) s.key t.made (stands_for (types_in xs) g ls) (id_of id) o.inlined o.key o.known o.made)
      → o.bundles ≡ s.bundles → o.places ≡ s.places ++ range_with_len s.reference 1 → o.reference ≡ t.reference
      → InlineIs sp g ls (ref sp (name reach (id_of id))) nothing_inside s o
  inline-made s b t o sp g ls x h id none d u v qs n reach de ue ve re ne r bi bb bp bk bm bkey w tp named ob op orf = λ E shown. start (reused_signature (c ∷ []) k g ls) r E shown
    where
      start : (q : Option ℕ) → Reuses q ids none v b.reference (references ls) → (E : List Noted) → Shows s.known E
          → Walked E (number_inline ids c k E s.reference s.made sp g ls (number_leaves ids c k E (s.reference + 1) s.made ls) q) (1 + references ls) (λ xs. part_type (stands_for xs g ls) ∷ []) (ref sp (name reach (id_of id))) nothing_inside s o
      start (Some j) q E shown = some_none q.0 (sym q.1 ∙ ne)
      start None q E shown = go (stands_for (types_in (E ++ a.noted)) g ls) refl (subst (λ z. NamedBy (E ++ a.noted) d u g ls (own z) (t.inlined ++ t.bundles) s.key t.made (stands_for (types_in (E ++ a.noted)) g ls) (id_of id) o.inlined o.key o.known o.made) (places_right qs n (references x) right ∙ sym tp ∙ places-are) given)
        where
          a : Numbered Leaves
          a = number_leaves ids c k E (s.reference + 1) s.made ls

          same : leaves_at ids c k E b ls ≡ number_leaves ids c k E (s.reference + 1) s.made ls
          same = ap (λ u. number_leaves ids c k E u b.made ls) (q.1 ∙ ve) ∙ ap (λ m. number_leaves ids c k E (s.reference + 1) m ls) bm

          at-b : Walked E (leaves_at ids c k E b ls) (references ls) (λ xs. leaves_parts xs ls) x h b t
          at-b = w E (subst (λ z. Shows z E) (sym bk) shown)

          inner : Walked E (number_leaves ids c k E (s.reference + 1) s.made ls) (references ls) (λ xs. leaves_parts xs ls) x h b t
          inner = subst (λ z. Walked E z (references ls) (λ xs. leaves_parts xs ls) x h b t) same at-b

          places-are : t.places ≡ (number_leaves ids c k E (s.reference + 1) s.made ls).parts.places
          places-are = inner.places ∙ ap (λ z. z ++ (number_leaves ids c k E (s.reference + 1) s.made ls).parts.places) bp

          right : length (places_of qs n) ≡ references x
          right = ap length (sym tp ∙ places-are) ∙ leaves_long ids c k E (s.reference + 1) s.made ls ∙ ap references (sym inner.here)

          own : List ℕ → Id → Entry
          own z y = record { origin = inline_type d u; places = z; held = h; names = generated_names (Some y); head = g; leaves = x }

          given : NamedBy (E ++ (number_leaves ids c k E (s.reference + 1) s.made ls).noted) d u g ls (own (places_of qs (references x))) (t.inlined ++ t.bundles) s.key t.made (stands_for (types_in (E ++ (number_leaves ids c k E (s.reference + 1) s.made ls).noted)) g ls) (id_of id) o.inlined o.key o.known o.made
          given = named (E ++ (number_leaves ids c k E (s.reference + 1) s.made ls).noted) inner.known (inner.key (begun_parts true g) bkey) (leaves_passed ids c k E (s.reference + 1) s.made ls)

          front : t.inlined ++ t.bundles ≡ (s.inlined ++ a.parts.inlined) ++ a.parts.bundles
          front = ap (λ z. z ++ t.bundles) (inner.inlined ∙ ap (λ z. z ++ a.parts.inlined) bi) ∙ ap (λ z. (s.inlined ++ a.parts.inlined) ++ z) (inner.bundles ∙ ap (λ z. z ++ a.parts.bundles) bb)

          made-is : t.made ≡ s.made + a.made
          made-is = inner.made ∙ ap (λ m. m + a.made) bm

          passed-is : o.reference ≡ s.reference + (1 + references ls)
          passed-is = let e = inner.reference in let f = q.1 in omega (arith, orf, e, f, ve)

          final : Id → Entry
          final y = record { origin = inline_type k s.reference; places = a.parts.places; held = a.parts.held; names = generated_names (Some y); head = g; leaves = a.parts.here }

          own-is : (y : Id) → own a.parts.places y ≡ final y
          own-is y =
              ap (λ z. record { origin = inline_type z u; places = a.parts.places; held = h; names = generated_names (Some y); head = g; leaves = x }) de
              ∙ ap (λ z. record { origin = inline_type k z; places = a.parts.places; held = h; names = generated_names (Some y); head = g; leaves = x }) ue
              ∙ ap (λ z. record { origin = inline_type k s.reference; places = a.parts.places; held = z; names = generated_names (Some y); head = g; leaves = x }) inner.held
              ∙ ap (λ z. record { origin = inline_type k s.reference; places = a.parts.places; held = a.parts.held; names = generated_names (Some y); head = g; leaves = z }) inner.here

          go : (f : Option ℕ) → stands_for (types_in (E ++ a.noted)) g ls ≡ f → NamedBy (E ++ a.noted) d u g ls (own a.parts.places) (t.inlined ++ t.bundles) s.key t.made f (id_of id) o.inlined o.key o.known o.made
              → Walked E (number_found c k s.reference s.made sp g ls (ids_in (E ++ a.noted)) a f) (1 + references ls) (λ xs. part_type (stands_for xs g ls) ∷ []) (ref sp (name reach (id_of id))) nothing_inside s o
          go (Some j) e m = record {
            here = ap (λ w. ref sp (name w (id_of id))) re ∙ ap (λ y. ref sp (name (generated_reach c) y)) m.0;
            held = refl;
            inlined = m.1 ∙ front ∙ append_assoc s.inlined a.parts.inlined a.parts.bundles;
            bundles = ob ∙ sym (append-nil s.bundles);
            places = op;
            reference = passed-is;
            made = m.3 ∙ made-is;
            known = m.2;
            key = λ ps z. subst (λ y. KeyShows o.key (ps ++ part_type y ∷ [])) (sym e) (m.4 ps z);
          }
          go None e m =
              let fresh : id_of id ≡ id_numbered (s.made + a.made + 1) = m.0 ∙ ap (λ i. id_numbered (i + 1)) made-is in
              record {
                here = ap (λ w. ref sp (name w (id_of id))) re ∙ ap (λ y. ref sp (name (generated_reach c) y)) fresh;
                held = refl;
                inlined = m.1 ∙ ap (λ z. z ++ own a.parts.places (id_of id) ∷ []) front ∙ ap (λ z. ((s.inlined ++ a.parts.inlined) ++ a.parts.bundles) ++ z ∷ []) (own-is (id_of id) ∙ ap final fresh)
                    ∙ append_assoc (s.inlined ++ a.parts.inlined) a.parts.bundles (final (id_numbered (s.made + a.made + 1)) ∷ [])
                    ∙ append_assoc s.inlined a.parts.inlined (a.parts.bundles ++ final (id_numbered (s.made + a.made + 1)) ∷ []);
                bundles = ob ∙ sym (append-nil s.bundles);
                places = op;
                reference = passed-is;
                made = let z = m.3 in omega (arith, z, made-is);
                known = subst (Shows o.known) (append_assoc E a.noted (noted_inline k s.reference g ls (id_numbered (s.made + a.made + 1))) ∙ refl)
                    (subst (λ y. Shows o.known ((E ++ a.noted) ++ noted_inline k s.reference g ls y)) fresh (subst (λ y. Shows o.known ((E ++ a.noted) ++ noted_inline k y g ls (id_of id))) ue (subst (λ y. Shows o.known ((E ++ a.noted) ++ noted_inline y u g ls (id_of id))) de m.2)));
                key = λ ps z.
                    subst (λ y. KeyShows o.key (ps ++ part_type (stands_for (types_in y) g ls) ∷ [])) (append_assoc E a.noted (noted_inline k s.reference g ls (id_numbered (s.made + a.made + 1))))
                    (subst (λ y. KeyShows o.key (ps ++ part_type (stands_for (types_in ((E ++ a.noted) ++ noted_inline k s.reference g ls y)) g ls) ∷ [])) fresh
                    (subst (λ y. KeyShows o.key (ps ++ part_type (stands_for (types_in ((E ++ a.noted) ++ noted_inline k y g ls (id_of id))) g ls) ∷ [])) ue
                    (subst (λ y. KeyShows o.key (ps ++ part_type (stands_for (types_in ((E ++ a.noted) ++ noted_inline y u g ls (id_of id))) g ls) ∷ [])) de (m.4 ps z))));
              }

  -- a bundle
  pub bundle-made : (s b t o : State) (sp : Space) (g : Row) (ls x : Leaves) (h : Inside) (id : spelled.Id) (d u : ℕ) (qs : List ℕ) (n : ℕ) (reach : Reach) → d ≡ k → u ≡ s.reference → reach ≡ generated_reach c
      → b.inlined ≡ s.inlined → b.bundles ≡ [] → b.places ≡ [] → b.reference ≡ s.reference + 1 → b.known ≡ s.known → b.made ≡ s.made
      → LeavesAre ids c k ls x h b t
      → t.places ≡ places_of qs n
      → id_of id ≡ id_numbered (t.made + 1)
      → o.bundles ≡ (s.bundles ++ t.bundles) ++ record { origin = bundle_of d u; places = places_of qs (references x); held = h; names = generated_names (Some (id_of id)); head = g; leaves = x } ∷ []
      → o.inlined ≡ t.inlined → o.places ≡ s.places ++ range_with_len s.reference 1 → o.key ≡ s.key → o.known ≡ t.known → o.reference ≡ t.reference → o.made ≡ t.made + 1
      → (E : List Noted) → Shows s.known E → Walked E (number_leaf ids c k E s.reference s.made (ref sp (bundle (row g ls)))) (1 + references ls) (λ xs. []) (ref sp (name reach (id_of id))) nothing_inside s o
  bundle-made s b t o sp g ls x h id d u qs n reach de ue re bi bb bp br bk bm w tp ni ob oi op okey ok orf om E shown =
      let a : Numbered Leaves = number_leaves ids c k E (s.reference + 1) s.made ls in
      let same : leaves_at ids c k E b ls ≡ a = ap (λ u. number_leaves ids c k E u b.made ls) br ∙ ap (λ m. number_leaves ids c k E (s.reference + 1) m ls) bm in
      let inner : Walked E a (references ls) (λ xs. leaves_parts xs ls) x h b t = subst (λ z. Walked E z (references ls) (λ xs. leaves_parts xs ls) x h b t) same (w E (subst (λ z. Shows z E) (sym bk) shown)) in
      let places-are : t.places ≡ a.parts.places = inner.places ∙ ap (λ z. z ++ a.parts.places) bp in
      let right : length (places_of qs n) ≡ references x = ap length (sym tp ∙ places-are) ∙ leaves_long ids c k E (s.reference + 1) s.made ls ∙ ap references (sym inner.here) in
      let qs-are : places_of qs (references x) ≡ a.parts.places = places_right qs n (references x) right ∙ sym tp ∙ places-are in
      let made-is : t.made ≡ s.made + a.made = inner.made ∙ ap (λ m. m + a.made) bm in
      let fresh : id_of id ≡ id_numbered (s.made + a.made + 1) = ni ∙ ap (λ m. id_numbered (m + 1)) made-is in
      let own : Id → Entry = λ y. record { origin = bundle_of k s.reference; places = a.parts.places; held = a.parts.held; names = generated_names (Some y); head = g; leaves = a.parts.here } in
      let front : List Entry = s.bundles ++ a.parts.bundles in
      record {
        here = ap (λ w. ref sp (name w (id_of id))) re ∙ ap (λ y. ref sp (name (generated_reach c) y)) fresh;
        held = refl;
        inlined = oi ∙ inner.inlined ∙ ap (λ v. v ++ a.parts.inlined) bi;
        bundles = ob
            ∙ ap (λ z. (s.bundles ++ z) ++ record { origin = bundle_of d u; places = places_of qs (references x); held = h; names = generated_names (Some (id_of id)); head = g; leaves = x } ∷ []) (inner.bundles ∙ ap (λ v. v ++ a.parts.bundles) bb)
            ∙ ap (λ z. front ++ record { origin = bundle_of z u; places = places_of qs (references x); held = h; names = generated_names (Some (id_of id)); head = g; leaves = x } ∷ []) de
            ∙ ap (λ z. front ++ record { origin = bundle_of k z; places = places_of qs (references x); held = h; names = generated_names (Some (id_of id)); head = g; leaves = x } ∷ []) ue
            ∙ ap (λ z. front ++ record { origin = bundle_of k s.reference; places = z; held = h; names = generated_names (Some (id_of id)); head = g; leaves = x } ∷ []) qs-are
            ∙ ap (λ z. front ++ record { origin = bundle_of k s.reference; places = a.parts.places; held = z; names = generated_names (Some (id_of id)); head = g; leaves = x } ∷ []) inner.held
            ∙ ap (λ z. front ++ record { origin = bundle_of k s.reference; places = a.parts.places; held = a.parts.held; names = generated_names (Some (id_of id)); head = g; leaves = z } ∷ []) inner.here
            ∙ ap (λ y. front ++ own y ∷ []) fresh
            ∙ append_assoc s.bundles a.parts.bundles (own (id_numbered (s.made + a.made + 1)) ∷ []);
        places = op;
        reference = let e = inner.reference in omega (arith, orf, e, br);
        made = omega (arith, om, made-is);
        known = subst (λ z. Shows z (E ++ a.noted)) (sym ok) inner.known;
        key = λ ps z. subst (λ y. KeyShows y (ps ++ [])) (sym okey) (subst (KeyShows s.key) (sym (append-nil ps)) z);
      }
