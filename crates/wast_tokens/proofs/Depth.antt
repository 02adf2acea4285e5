-- A count of open block comments stands for their nesting.
use Rattle.std.proofs.Common.{◌≡◌, ℕ, zero, suc, ◌+◌, ◌-◌, ◌<◌, ◌≤◌, ◌↔◌, ◌==◌, ◌⊎◌, ⊎_elim, inl, inr, true, false, List, length, slice_index, refl, sym, ap, subst, ◌∙◌, le_refl, add-one, arith}
use Rattle.std.proofs.lemmas.Bool.{cases_Bool, cases_lt, both_ways, eqb-true}
use Rattle.wast_tokens.specs.Blocks.{opens, closes, IsBody, IsBlock}
use Rattle.wast_tokens.specs.Blocks.IsBody.{none, other, block}
use Rattle.wast_tokens.proofs.Classes.{and_first, and_second, some_within}

-- from place k on, one comment and d more that hold it close, and the last of them ends at c
abbrev pub Ends : List ℕ → ℕ → ℕ → ℕ → Type 0
Ends text k zero c = (m : ℕ) × IsBody text k m × (closes text m ≡ true) × (c ≡ m + 2)
Ends text k (suc d) c = (m : ℕ) × IsBody text k m × (closes text m ≡ true) × Ends text (m + 2) d c

pub open_first : (text : List ℕ) (a : ℕ) → opens text a ≡ true → slice_index text a ≡ 40
unfolding opens
open_first text a o = eqb-true (slice_index text a) 40 (and_first _ _ o)

open_second : (text : List ℕ) (a : ℕ) → opens text a ≡ true → slice_index text (a + 1) ≡ 59
unfolding opens
open_second text a c = eqb-true (slice_index text (a + 1)) 59 (and_second (slice_index text a == 40) _ c)

-- an opening has both of its bytes in the text
pub open_within : (text : List ℕ) (a : ℕ) → opens text a ≡ true → a + 2 ≤ length text
open_within text a c = let lt = some_within text (a + 1) 59 (open_second text a c) (omega arith) in omega (arith, lt)

close_first : (text : List ℕ) (a : ℕ) → closes text a ≡ true → slice_index text a ≡ 59
unfolding closes
close_first text a c = eqb-true (slice_index text a) 59 (and_first _ _ c)

close_second : (text : List ℕ) (a : ℕ) → closes text a ≡ true → slice_index text (a + 1) ≡ 41
unfolding closes
close_second text a c = eqb-true (slice_index text (a + 1)) 41 (and_second (slice_index text a == 59) _ c)

-- a closing has both of its bytes in the text
pub close_within : (text : List ℕ) (a : ℕ) → closes text a ≡ true → a + 2 ≤ length text
close_within text a c = let lt = some_within text (a + 1) 41 (close_second text a c) (omega arith) in omega (arith, lt)

pub open_not_close : (text : List ℕ) (a : ℕ) → opens text a ≡ true → closes text a ≡ true → ⊥
open_not_close text a o c = absurd (omega (arith, open_first text a o, close_first text a c))

-- at an opening
pub body_open : (text : List ℕ) (k m : ℕ) → opens text k ≡ true → IsBody text k m → closes text m ≡ true → (n : ℕ) × IsBody text (k + 2) n × (closes text n ≡ true) × IsBody text (n + 2) m
body_open text k m o (none _) c = absurd (open_not_close text k o c)
body_open text k m o (other _ _ lt ne _ b) c = absurd (both_ways _ ne o)
body_open text k m o (block _ n _ _ inner close rest) c = (n, inner, close, rest)

-- at a closing
pub body_close : (text : List ℕ) (k m : ℕ) → closes text k ≡ true → IsBody text k m → m ≡ k
body_close text k m c (none _) = refl
body_close text k m c (other _ _ lt _ ne b) = absurd (both_ways _ ne c)
body_close text k m c (block _ n _ o inner close rest) = absurd (open_not_close text k o c)

-- at another byte
pub body_other : (text : List ℕ) (k m : ℕ) → opens text k ≡ false → closes text k ≡ false → IsBody text k m → closes text m ≡ true → IsBody text (k + 1) m
body_other text k m ne nc (none _) c = absurd (both_ways _ nc c)
body_other text k m ne nc (other _ _ lt _ _ b) c = b
body_other text k m ne nc (block _ n _ o inner close rest) c = absurd (both_ways _ ne o)

pub body_le : (text : List ℕ) (k m : ℕ) → IsBody text k m → k ≤ m
body_le text k m (none _) = le_refl k
body_le text k m (other _ _ lt ne nc b) = let h : k + 1 ≤ m = body_le text (k + 1) m b in omega arith
body_le text k m (block _ n _ o inner close rest) =
    let h : k + 2 ≤ n = body_le text (k + 2) n inner in
    let g : n + 2 ≤ m = body_le text (n + 2) m rest in
    omega arith

ends_open_to : (text : List ℕ) (k d c : ℕ) → opens text k ≡ true → Ends text k d c → Ends text (k + 2) (suc d) c
ends_open_to text k zero c o h = let b = body_open text k h.0 o h.1 h.2 in (b.0, b.1, b.2, (h.0, b.3, h.2, h.3))
ends_open_to text k (suc d) c o h = let b = body_open text k h.0 o h.1 h.2 in (b.0, b.1, b.2, (h.0, b.3, h.2, h.3))

ends_open_from : (text : List ℕ) (k d c : ℕ) → opens text k ≡ true → Ends text (k + 2) (suc d) c → Ends text k d c
ends_open_from text k zero c o h = (h.3.0, block k h.0 h.3.0 o h.1 h.2 h.3.1, h.3.2, h.3.3)
ends_open_from text k (suc d) c o h = (h.3.0, block k h.0 h.3.0 o h.1 h.2 h.3.1, h.3.2, h.3.3)

pub ends_open : (text : List ℕ) (k d c : ℕ) → opens text k ≡ true → Ends text k d c ↔ Ends text (k + 2) (d + 1) c
ends_open text k d c o = (
  λ h. subst (λ n. Ends text (k + 2) n c) (sym (add-one d)) (ends_open_to text k d c o h),
  λ h. ends_open_from text k d c o (subst (λ n. Ends text (k + 2) n c) (add-one d) h),
)

pub ends_close : (text : List ℕ) (k d c : ℕ) → (d ≡ 0 → ⊥) → closes text k ≡ true → Ends text k d c ↔ Ends text (k + 2) (d - 1) c
ends_close text k zero c some cl = absurd (some refl)
ends_close text k (suc d) c some cl =
    let less : suc d - 1 ≡ d = omega arith in (
      λ h. subst (λ n. Ends text (k + 2) n c) (sym less) (subst (λ n. Ends text (n + 2) d c) (body_close text k h.0 cl h.1) h.3),
      λ h. (k, none k, cl, subst (λ n. Ends text (k + 2) n c) less h),
    )

pub ends_last : (text : List ℕ) (k d : ℕ) → d ≡ 0 → closes text k ≡ true → Ends text k d (k + 2)
ends_last text k zero e cl = (k, none k, cl, refl)
ends_last text k (suc d) e cl = absurd (omega arith)

ends_other_to : (text : List ℕ) (k d c : ℕ) → opens text k ≡ false → closes text k ≡ false → Ends text k d c → Ends text (k + 1) d c
ends_other_to text k zero c ne nc h = (h.0, body_other text k h.0 ne nc h.1 h.2, h.2, h.3)
ends_other_to text k (suc d) c ne nc h = (h.0, body_other text k h.0 ne nc h.1 h.2, h.2, h.3)

ends_other_from : (text : List ℕ) (k d c : ℕ) → k < length text → opens text k ≡ false → closes text k ≡ false → Ends text (k + 1) d c → Ends text k d c
ends_other_from text k zero c lt ne nc h = (h.0, other k h.0 lt ne nc h.1, h.2, h.3)
ends_other_from text k (suc d) c lt ne nc h = (h.0, other k h.0 lt ne nc h.1, h.2, h.3)

pub ends_other : (text : List ℕ) (k d c : ℕ) → k < length text → opens text k ≡ false → closes text k ≡ false → Ends text k d c ↔ Ends text (k + 1) d c
ends_other text k d c lt ne nc = (ends_other_to text k d c ne nc, ends_other_from text k d c lt ne nc)

pub ends_nowhere : (text : List ℕ) (k d c : ℕ) → length text ≤ k → Ends text k d c → ⊥
ends_nowhere text k zero c le h = let b : k ≤ h.0 = body_le text k h.0 h.1 in let w = close_within text h.0 h.2 in absurd (omega arith)
ends_nowhere text k (suc d) c le h = let b : k ≤ h.0 = body_le text k h.0 h.1 in let w = close_within text h.0 h.2 in absurd (omega arith)

pub ends_begin : (text : List ℕ) (a c : ℕ) → opens text a ≡ true → IsBlock text a c ↔ Ends text (a + 2) 0 c
ends_begin text a c o = (
  λ h. (h.close, h.body, h.closed, h.end),
  λ h. record { opened = o; close = h.0; body = h.1; closed = h.2; end = h.3 },
)

pub both : {P Q R : Type 0} → P ↔ Q → Q ↔ R → P ↔ R
both f g = (λ p. g.0 (f.0 p), λ r. f.1 (g.1 r))

-- a comment that begins at a place ends at one place
ends_same : (text : List ℕ) (k m n : ℕ) → IsBody text k m → closes text m ≡ true → IsBody text k n → closes text n ≡ true → m ≡ n
ends_same text k m n (none _) c h d = sym (body_close text k n c h)
ends_same text k m n (other _ _ lt ne nc b) c h d = ends_same text (k + 1) m n b c (body_other text k n ne nc h d) d
ends_same text k m n (block _ i _ o inner close rest) c h d =
    let g = body_open text k n o h d in
    let e : i ≡ g.0 = ends_same text (k + 2) i g.0 inner close g.1 g.2 in
    ends_same text (i + 2) m n rest c (subst (λ j. IsBody text (j + 2) n) (sym e) g.3) d

pub block_same : (text : List ℕ) (a b c : ℕ) → IsBlock text a b → IsBlock text a c → b ≡ c
block_same text a b c h g = h.end ∙ ap (λ m. m + 2) (ends_same text (a + 2) h.close g.close h.body h.closed g.body g.closed) ∙ sym g.end

pub block_within : (text : List ℕ) (a b : ℕ) → IsBlock text a b → (a < b) × (b ≤ length text)
block_within text a b h =
    let le : a + 2 ≤ h.close = body_le text (a + 2) h.close h.body in
    let w = close_within text h.close h.closed in
    let e : b ≡ h.close + 2 = h.end in
    (omega arith, omega (arith, w))

-- the comments that are open at a place close somewhere, or nowhere
abbrev Ending : List ℕ → ℕ → ℕ → Type 0
Ending text k d = ((c : ℕ) × Ends text k d c) ⊎ ((c : ℕ) → Ends text k d c → ⊥)

moved : (text : List ℕ) (k l d e : ℕ) → ((c : ℕ) → Ends text k d c ↔ Ends text l e c) → Ending text l e → Ending text k d
moved text k l d e same = ⊎_elim (λ s. inl (s.0, (same s.0).1 s.1)) (λ n. inr (λ c h. n c ((same c).0 h)))

ending : (text : List ℕ) (n k d : ℕ) → length text ≤ k + n → Ending text k d
ending text zero k d le = inr (λ c h. ends_nowhere text k d c (omega arith) h)
ending text (suc n) k d le =
    ⊎_elim
    (λ lt. ⊎_elim
    (λ o. moved text k (k + 2) d (d + 1) (λ c. ends_open text k d c o) (ending text n (k + 2) (d + 1) (omega arith)))
    (λ no. ⊎_elim
    (λ cl. ⊎_elim
    (λ some. moved text k (k + 2) d (d - 1) (λ c. ends_close text k d c (λ z. absurd (omega arith)) cl) (ending text n (k + 2) (d - 1) (omega arith)))
    (λ last. inl (k + 2, ends_last text k d (omega arith) cl))
    (cases_lt 0 d))
    (λ nc. moved text k (k + 1) d d (λ c. ends_other text k d c lt no nc) (ending text n (k + 1) d (omega arith)))
    (cases_Bool (closes text k)))
    (cases_Bool (opens text k)))
    (λ past. inr (λ c h. ends_nowhere text k d c past h))
    (cases_lt k (length text))

-- a comment that begins at a place ends somewhere, or nowhere
pub block_or_none : (text : List ℕ) (a : ℕ) → opens text a ≡ true → ((b : ℕ) × IsBlock text a b) ⊎ ((b : ℕ) → IsBlock text a b → ⊥)
block_or_none text a o =
    ⊎_elim (λ s. inl (s.0, (ends_begin text a s.0 o).1 s.1)) (λ n. inr (λ b h. n b ((ends_begin text a b o).0 h))) (ending text (length text) (a + 2) 0 (omega arith))
