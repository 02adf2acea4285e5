-- Core value types at a place.
use Rattle.std.proofs.Common.{◌≡◌, ℕ, List, [], ◌∷◌, ◌++◌, refl, sym, ◌∙◌, ap, arith, true, false, ◌⊎◌, inl, inr, Some, le_refl, lit≤}
use Rattle.comp_model.specs.Leb.{sleb}
use Rattle.comp_model.specs.Core as c
use Rattle.comp_model.specs.Core.{CoreValue}
use Rattle.comp_wire.specs.Sections.{Word}
use Rattle.comp_model.specs.Model.{Leaf, number, ref, index}
use Rattle.comp_wire.specs.Table.{value}
use Rattle.comp_wire.specs.Spelled.{FitsCore, core_bytes, FitsLeaf, spell_leaf}
use Rattle.comp_wire.specs.declared.values.WireHeap.{WireHeap}
use Rattle.comp_wire.specs.declared.values.WireHeap.TheVariants as heap
use Rattle.comp_wire.proofs.Numbers.{cons_is}
use Rattle.wire_read.specs.Place.{Place, rest, Takes}
use Rattle.wire_read.specs.Reading.{Unread}
use Rattle.wire_read.specs.Codes.{one_value}
use Rattle.wire_read.specs.Heaps.{HeapFits, heap_bytes}
use Rattle.wire_read.proofs.Lebs.{at_end}

signed_some : (i : ℕ) (r : List ℕ) → sleb i ++ r ≡ [] → ⊥
signed_some i r e = at_end 64 (lit≤ tt) (lit≤ tt) i [] refl i r (le_refl i) e

pub heap_none : (bytes : List ℕ) → bytes ≡ [] → Unread HeapFits heap_bytes bytes
heap_none bytes e heap.Func r h f = let g : 0x70 ∷ r ≡ [] = f ∙ e in cc
heap_none bytes e heap.Extern r h f = let g : 0x6f ∷ r ≡ [] = f ∙ e in cc
heap_none bytes e (heap.Concrete i) r h f = signed_some i r (f ∙ e)

abbrev HeapOf : CoreValue → ℕ → List ℕ → List ℕ → Type 0
HeapOf v b r x = (h : WireHeap) × (b ≡ 0x64) × HeapFits h × (heap_bytes h ++ r ≡ x)

abbrev IndexOf : CoreValue → ℕ → List ℕ → List ℕ → Type 0
IndexOf v b r x = (i : ℕ) × (b ≡ 0x63) × Word i × (sleb i ++ r ≡ x)

-- a core value type by its first byte
abbrev ValueHead : CoreValue → ℕ → List ℕ → List ℕ → Type 0
ValueHead v b r x = (one_value b ≡ Some v) ⊎ (IndexOf v b r x ⊎ HeapOf v b r x)

one_head : (v : CoreValue) (k b : ℕ) (r x : List ℕ) → one_value k ≡ Some v → k ∷ r ≡ b ∷ x → ValueHead v b r x
one_head v k b r x o e = inl (ap one_value (sym (cons_is _ _ _ _ e).0) ∙ o)

value_head : (v : CoreValue) (b : ℕ) (r x : List ℕ) → FitsCore v → core_bytes v ++ r ≡ b ∷ x → ValueHead v b r x
value_head c.i32 b r x h e = one_head c.i32 0x7f b r x refl e
value_head c.i64 b r x h e = one_head c.i64 0x7e b r x refl e
value_head c.f32 b r x h e = one_head c.f32 0x7d b r x refl e
value_head c.f64 b r x h e = one_head c.f64 0x7c b r x refl e
value_head c.v128 b r x h e = one_head c.v128 0x7b b r x refl e
value_head (c.ref_func true) b r x h e = one_head (c.ref_func true) 0x70 b r x refl e
value_head (c.ref_extern true) b r x h e = one_head (c.ref_extern true) 0x6f b r x refl e
value_head (c.ref_func false) b r x h e = let heads = cons_is _ _ _ _ e in inr (inr (heap.Func, sym heads.0, tt, heads.1))
value_head (c.ref_extern false) b r x h e = let heads = cons_is _ _ _ _ e in inr (inr (heap.Extern, sym heads.0, tt, heads.1))
value_head (c.ref_index true i) b r x h e = let heads = cons_is _ _ _ _ e in inr (inl (i, sym heads.0, h, heads.1))
value_head (c.ref_index false i) b r x h e = let heads = cons_is _ _ _ _ e in inr (inr (heap.Concrete i, sym heads.0, h, heads.1))
value_head (c.ref_numeral k o n) b r x h e = absurd h
value_head (c.ref_name k o n) b r x h e = absurd h
value_head c.other_value b r x h e = absurd h

not_one_64 : (v : CoreValue) → one_value 0x64 ≡ Some v → ⊥
not_one_64 v e = cc

pub heap_missing : (old mid : Place) (b : ℕ) → Takes old mid (b ∷ []) → b ≡ 0x64 → Unread HeapFits heap_bytes (rest mid) → Unread FitsCore core_bytes (rest old)
heap_missing old mid b t e u v r h f = elim (value_head v b r (rest mid) h (f ∙ t.taken)) [
  | inl k ↦ not_one_64 v (ap one_value (sym e) ∙ k)
  | inr k ↦ elim k [ inl w ↦ omega (arith, e, w.1) | inr w ↦ u w.0 r w.2 w.3 ]
]

-- a value type has bytes
pub no_value : (bytes : List ℕ) → bytes ≡ [] → Unread (λ (x : Leaf). FitsLeaf x value) (λ x. spell_leaf x value) bytes
no_value bytes e (number n) r h f = let g : n ∷ r ≡ [] = f ∙ e in cc
no_value bytes e (ref s (index i)) r h f = signed_some i r (f ∙ e)
no_value bytes e (ref s x) r h f = absurd h
no_value bytes e x r h f = absurd h
