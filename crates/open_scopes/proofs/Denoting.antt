-- What is found among open scopes that are indexed has an index.
use Rattle.std.proofs.Common.{◌≡◌, ℕ, zero, suc, ◌+◌, List, [], ◌∷◌, reverse, Option, Some, None, option_map, slice_get, IsSomeAnd, sym, subst, arith}
use Rattle.comp_model.specs.declared.Space.{Space}
use Rattle.comp_model.specs.Core.{Id, Reach, outward, own, at_place}
use Rattle.comp_model.specs.Spaces.{Declaration}
use Rattle.comp_scopes.specs.Names.{at_depth, first_of_two}
use Rattle.comp_tables.specs.Tables.{Opened, opened_depth, found_outward, found_at, found_there, found}
use Rattle.open_scopes.specs.declared.scopes.Open.{Open}
use Rattle.open_scopes.specs.declared.lookup.Found.{Found}
use Rattle.open_scopes.specs.Registered.{found_in, item_of}
use Rattle.open_scopes.specs.Indexed.{IsInTable, AreIndexed, AllIndexed, OpenIndexed, IsIndexed}
use Rattle.open_scopes.specs.Shown.{ScopesShow, OpenScopesShow, found_of}

-- it stands in one of these scopes, the first of which has depth d
abbrev Stands : List Open → ℕ → Found → Type 0
Stands os d f = (k : ℕ) × (f.depth ≡ d + k) × IsSomeAnd (slice_get os k) (λ o. IsInTable o.table.items f.item)

stands-deeper : (o : Open) (os : List Open) (d : ℕ) (f : Found) → Stands os (d + 1) f → Stands (o ∷ os) d f
stands-deeper o os d f h = let e : f.depth ≡ (d + 1) + h.0 = h.1 in (suc h.0, omega (arith, e), h.2)

stands-here : (o : Open) (os : List Open) (d : ℕ) (s : Space) (x : Id) (v : Declaration) (f : Found) → AreIndexed o.names o.table.items → found_in o.names s x ≡ option_map item_of (Some v) → Some f ≡ option_map found_of (at_depth d (Some v)) → Stands (o ∷ os) d f
stands-here o os d s x v f h e g =
    let same : f ≡ record { depth = d; item = item_of v } = cc in
    let n : d ≡ d + 0 = omega arith in
    subst (λ y. Stands (o ∷ os) d y) (sym same) (0, n, h s x (item_of v) e)

outward-stands : (os : List Open) (ms : List Opened) (d : ℕ) (s : Space) (x : Id) (f : Found) → ScopesShow os ms → AllIndexed os → Some f ≡ option_map found_of (found_outward d ms s x) → Stands os d f
outward-stands [] [] d s x f h a e = absurd (cc)
outward-stands [] (m ∷ ms) d s x f h a e = absurd h
outward-stands (o ∷ os) [] d s x f h a e = absurd h
outward-stands (o ∷ os) (m ∷ ms) d s x f h a e = go (m.names s x) (h.0.names s x) (outward-stands os ms (d + 1) s x f h.1 a.1) e
  where
    go : (v : Option Declaration) → found_in o.names s x ≡ option_map item_of v → (Some f ≡ option_map found_of (found_outward (d + 1) ms s x) → Stands os (d + 1) f)
        → Some f ≡ option_map found_of (first_of_two (at_depth d v) (found_outward (d + 1) ms s x)) → Stands (o ∷ os) d f
    go (Some v) i later g = stands-here o os d s x v f a.0 i g
    go None i later g = stands-deeper o os d f (later g)

at-stands : (os : List Open) (ms : List Opened) (d i : ℕ) (s : Space) (x : Id) (f : Found) → ScopesShow os ms → AllIndexed os → Some f ≡ option_map found_of (found_at d ms i s x) → Stands os d f
at-stands [] [] d i s x f h a e = absurd (cc)
at-stands [] (m ∷ ms) d i s x f h a e = absurd h
at-stands (o ∷ os) [] d i s x f h a e = absurd h
at-stands (o ∷ os) (m ∷ ms) d zero s x f h a e = go (m.names s x) (h.0.names s x) e
  where
    go : (v : Option Declaration) → found_in o.names s x ≡ option_map item_of v → Some f ≡ option_map found_of (at_depth d v) → Stands (o ∷ os) d f
    go (Some v) i g = stands-here o os d s x v f a.0 i g
    go None i g = absurd (cc)
at-stands (o ∷ os) (m ∷ ms) d (suc i) s x f h a e = stands-deeper o os d f (at-stands os ms (d + 1) i s x f h.1 a.1 e)

there-stands : (os : List Open) (ms : List Opened) (d : Option ℕ) (s : Space) (x : Id) (f : Found) → ScopesShow os ms → AllIndexed os → Some f ≡ option_map found_of (found_there ms d s x) → Stands os 0 f
there-stands os ms None s x f h a e = absurd (cc)
there-stands os ms (Some d) s x f h a e = at-stands os ms 0 d s x f h a e

pub found-indexed : (scopes : List Open) (ms : List Opened) (s : Space) (r : Reach) (x : Id) (f : Found) → OpenScopesShow scopes ms → OpenIndexed scopes → Some f ≡ option_map found_of (found ms s r x) → IsIndexed scopes f
found-indexed scopes ms s r x f h a e = go (stands r e)
  where
    stands : (r : Reach) → Some f ≡ option_map found_of (found ms s r x) → Stands (reverse scopes) 0 f
    stands outward e = outward-stands (reverse scopes) ms 0 s x f h a e
    stands own e = at-stands (reverse scopes) ms 0 0 s x f h a e
    stands (at_place p) e = there-stands (reverse scopes) ms (opened_depth ms p) s x f h a e

    go : Stands (reverse scopes) 0 f → IsIndexed scopes f
    go q = let n : q.0 ≡ f.depth = (let e : f.depth ≡ 0 + q.0 = q.1 in omega (arith, e)) in subst (λ (k : ℕ). IsSomeAnd (slice_get (reverse scopes) k) (λ o. IsInTable o.table.items f.item)) n q.2
