-- Sorts at a place.
use Rattle.std.proofs.Common.{◌≡◌, ℕ, List, [], ◌∷◌, ◌++◌, refl, sym, ◌∙◌, ap, subst, ◌⊎◌, inl, inr, Option, Some, None}
use Rattle.comp_model.specs.declared.Space.{Space}
use Rattle.comp_model.specs.declared.Space.TheVariants.{CoreFunc, CoreTable, CoreMemory, CoreGlobal, CoreTag, CoreType, CoreModule, CoreInstance, Func, Value, Ty, Component, Instance}
use Rattle.comp_model.specs.Payloads.{sort_bytes, core_sort_byte}
use Rattle.comp_wire.specs.Spelled.{IsCoreSpace}
use Rattle.comp_wire.proofs.Numbers.{cons_is}
use Rattle.wire_read.specs.Place.{Place, rest, Takes}
use Rattle.wire_read.specs.Reading.{Answers}
use Rattle.wire_read.specs.Codes.{plain_space, core_sort_bytes}
use Rattle.wire_read.proofs.Places.{takes_two}

-- a sort by its first byte
abbrev SortHead : Space → ℕ → List ℕ → List ℕ → Type 0
SortHead s b r x = (IsCoreSpace s × (b ≡ 0x00) × (core_sort_byte s ∷ r ≡ x)) ⊎ (plain_space b ≡ Some s)

head_of_core : (s : Space) (b : ℕ) (r x : List ℕ) → IsCoreSpace s → 0x00 ∷ core_sort_byte s ∷ r ≡ b ∷ x → SortHead s b r x
head_of_core s b r x h e = let heads = cons_is _ _ _ _ e in inl (h, sym heads.0, heads.1)

sort_head : (s : Space) (b : ℕ) (r x : List ℕ) → sort_bytes s ++ r ≡ b ∷ x → SortHead s b r x
sort_head Func b r x e = inr (ap plain_space (sym (cons_is _ _ _ _ e).0))
sort_head Value b r x e = inr (ap plain_space (sym (cons_is _ _ _ _ e).0))
sort_head Ty b r x e = inr (ap plain_space (sym (cons_is _ _ _ _ e).0))
sort_head Component b r x e = inr (ap plain_space (sym (cons_is _ _ _ _ e).0))
sort_head Instance b r x e = inr (ap plain_space (sym (cons_is _ _ _ _ e).0))
sort_head CoreFunc b r x e = head_of_core CoreFunc b r x tt e
sort_head CoreTable b r x e = head_of_core CoreTable b r x tt e
sort_head CoreMemory b r x e = head_of_core CoreMemory b r x tt e
sort_head CoreGlobal b r x e = head_of_core CoreGlobal b r x tt e
sort_head CoreTag b r x e = head_of_core CoreTag b r x tt e
sort_head CoreType b r x e = head_of_core CoreType b r x tt e
sort_head CoreModule b r x e = head_of_core CoreModule b r x tt e
sort_head CoreInstance b r x e = head_of_core CoreInstance b r x tt e

core_sort_is : (s : Space) → IsCoreSpace s → sort_bytes s ≡ 0x00 ∷ core_sort_byte s ∷ []
core_sort_is Func h = absurd h
core_sort_is Value h = absurd h
core_sort_is Ty h = absurd h
core_sort_is Component h = absurd h
core_sort_is Instance h = absurd h
core_sort_is _ h = refl

plain_zero : (s : Space) → plain_space 0x00 ≡ Some s → ⊥
plain_zero s e = cc

-- behind 00 stands the byte of a core sort
pub sort_behind : (P : Space → Type 0) → ((s : Space) → IsCoreSpace s → P s) → (old mid new : Place) (b : ℕ) (r : Option Space) → Takes old mid (b ∷ []) → b ≡ 0x00 → Answers IsCoreSpace core_sort_bytes mid new r → Answers P sort_bytes old new r
sort_behind P all old mid new b None t e u = λ s r h f.
    elim (sort_head s b r (rest mid) (f ∙ t.taken)) [
      | inl k ↦ u s r k.0 k.2
      | inr k ↦ plain_zero s (ap plain_space (sym e) ∙ k)
    ]
sort_behind P all old mid new b (Some s) t e q =
    (all s q.0, subst (λ xs. Takes old new xs) (sym (core_sort_is s q.0)) (takes_two old mid new (0x00 ∷ []) (core_sort_byte s ∷ []) (subst (λ x. Takes old mid (x ∷ [])) e t) q.1))
