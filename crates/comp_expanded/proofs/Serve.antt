-- Names share an alias in a scope where those that stand for them do in its expanded list.
use Rattle.std.proofs.Common.{◌≡◌, ◌+◌, ◌≤◌, ◌⊎◌, inl, inr, Bool, true, false, ◌&&◌, cond, List, [], ◌∷◌, Option, Some, option_map, refl, sym, ◌∙◌, ap, subst, arith}
use Rattle.comp_model.specs.declared.Space.{Space}
use Rattle.comp_model.specs.Model.{Scope, scope_of, Defs}
use Rattle.comp_model.specs.declared.row.ScopeKind.{ScopeKind}
use Rattle.comp_model.specs.Core.{Text, Id}
use Rattle.comp_model.specs.Spaces.{same_space}
use Rattle.comp_model.specs.Origins.{Origin, same_origin}
use Rattle.comp_model.proofs.Tests.{same_origin-true, same_origin-refl}
use Rattle.comp_scopes.specs.Names.{Denoted}
use Rattle.comp_scopes.specs.Outward.{same_item, Outward, earlier_alias}
use Rattle.comp_scopes.proofs.Counting.{hit}
use Rattle.comp_expanded.specs.Expansion.{Naming, expand_list}
use Rattle.comp_expanded.specs.TextNumbers.{mark_in_text}
use Rattle.comp_expanded.proofs.Stacks.{AllNamed}
use Rattle.comp_expanded.proofs.Answers.{Answers, AllOnce, same-answers}
use Rattle.comp_expanded.proofs.Pairs.{Pairs}
use Rattle.comp_expanded.proofs.OutOnce.{seen}
use Rattle.comp_expanded.proofs.OutKept.{OutPair}

-- a name with that mark is among these
abbrev pub Among : List Outward → Origin → Type 0
Among [] o = ⊥
Among (w ∷ ws) o = (w.origin ≡ o) ⊎ Among ws o

module _ (g : Naming) (kd : ScopeKind) (id : Option Id) (label : Option Text) (ds : Defs) (gs : List Naming) (st : List Scope)
    (all : AllNamed (g ∷ gs) (scope_of kd id label ds ∷ st)) (once : AllOnce (g ∷ gs) (scope_of kd id label ds ∷ st)) where
  abbrev to : Origin → Origin
  to = mark_in_text (expand_list g (scope_of kd id label ds))

  abbrev R : Outward → Outward → Type 0
  R = OutPair g kd id label ds gs st all

  seen-partner : (ws vs : List Outward) (p : Origin) → Pairs Outward R ws vs → Among vs p → 1 ≤ seen (to p) ws
  seen-partner [] [] p h a = absurd a
  seen-partner [] (v ∷ vs) p h a = absurd h
  seen-partner (w ∷ ws) [] p h a = absurd h
  seen-partner (w ∷ ws) (v ∷ vs) p h (inl e) =
      let q : w.origin ≡ to p = sym h.0.0 ∙ ap to e in
      let r : hit (to p) w.origin ≡ 1 = subst (λ y. hit (to p) y ≡ 1) (sym q) (rw (same_origin-refl (to p)) refl) in omega (arith, r)
  seen-partner (w ∷ ws) (v ∷ vs) p h (inr a) = let r : 1 ≤ seen (to p) ws = seen-partner ws vs p h.1 a in omega (arith, r)

  pub serves-same : (ws vs : List Outward) (o p : Origin) (s : Space) (d e : Denoted) → Pairs Outward R ws vs → to p ≡ o → seen o ws ≤ 1 → Among vs p → Answers (g ∷ gs) (scope_of kd id label ds ∷ st) (Some d) (Some e)
      → earlier_alias o s d ws ≡ option_map to (earlier_alias p s e vs)
  serves-same [] [] o p s d e h t n a q = absurd a
  serves-same [] (v ∷ vs) o p s d e h t n a q = absurd h
  serves-same (w ∷ ws) [] o p s d e h t n a q = absurd h
  serves-same (w ∷ ws) (v ∷ vs) o p s d e h t n (inl a) q =
      let x : same_origin p v.origin ≡ true = subst (λ y. same_origin p y ≡ true) (sym a) (same_origin-refl p) in
      let y : w.origin ≡ o = sym h.0.0 ∙ ap to a ∙ t in
      let z : same_origin o w.origin ≡ true = subst (λ y. same_origin o y ≡ true) (sym y) (same_origin-refl o) in
      rw (x, z) refl
  serves-same (w ∷ ws) (v ∷ vs) o p s d e h t n (inr a) q =
      let m : 1 ≤ seen (to p) ws = seen-partner ws vs p h.1 a in
      let k : 1 ≤ seen o ws = subst (λ y. 1 ≤ seen y ws) t m in
      let l : hit o w.origin + seen o ws ≤ 1 = n in
      let z : hit o w.origin ≡ 0 = omega (arith, k, l) in
      let f : same_origin o w.origin ≡ false = apart (same_origin o w.origin) refl z in
      let x : same_origin p v.origin ≡ false = other (same_origin p v.origin) refl f in
      let i : same_item e v.denoted ≡ same_item d w.denoted = same-answers (g ∷ gs) (scope_of kd id label ds ∷ st) d w.denoted e v.denoted once q h.0.2 in
      rw (f, x, i, h.0.1) (go (same_space s w.space && same_item d w.denoted) (serves-same ws vs o p s d e h.1 t (omega (arith, l)) a q))
    where
      apart : (b : Bool) → same_origin o w.origin ≡ b → hit o w.origin ≡ 0 → b ≡ false
      apart false y z = refl
      apart true y z = let r : hit o w.origin ≡ 1 = rw y refl in let c : 0 ≡ 1 = sym z ∙ r in absurd (omega (arith, c))

      other : (b : Bool) → same_origin p v.origin ≡ b → same_origin o w.origin ≡ false → b ≡ false
      other false y f = refl
      other true y f =
          let r : p ≡ v.origin = same_origin-true p v.origin y in
          let u : o ≡ w.origin = sym t ∙ ap to r ∙ h.0.0 in
          let c : same_origin o w.origin ≡ true = subst (λ y. same_origin o y ≡ true) u (same_origin-refl o) in sym c ∙ f

      go : (b : Bool) → earlier_alias o s d ws ≡ option_map to (earlier_alias p s e vs) → cond b (Some w.origin) (earlier_alias o s d ws) ≡ option_map to (cond b (Some v.origin) (earlier_alias p s e vs))
      go true y = ap Some (sym h.0.0)
      go false y = y
