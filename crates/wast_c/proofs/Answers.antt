-- What a call for a text answers, from what its parts did.
use Rattle.std.proofs.Common.{inl, inr, ◌≡◌, refl, sym, subst, ◌≤◌, ◌<◌, ◌⊎◌, ℕ, List, Result, Ok, Err, IfOk, IfErr}
use Rattle.std.specs.Str.{IsUtf8, IsValidUpTo}
use Rattle.wast_tokens.specs.declared.error.Error.{Error}
use Rattle.wast_tokens.specs.declared.error.ErrorKind.{ErrorKind}
use Rattle.wast_tokens.specs.declared.error.ErrorKind.TheVariants as kinds
use Rattle.wast_component.specs.Answer.{EncoderRefuses, IsRefusedAs}
use Rattle.wast_c.specs.declared.refusal.WastRefusal.{WastRefusal}
use Rattle.wast_c.specs.Answer.{Tells, IsTold, TextAnswers, written, no_room, not_made, no_text, no_memory, not_asked}
use Rattle.wast_c.specs.Buffer.{IsHandedOut}
use Rattle.wast_c.specs.Status as status

module _ (Makes : List ℕ → Type 0) (text : List ℕ) (flags : ℕ) (out : List ℕ) (needed : ℕ) (why : WastRefusal) where
  abbrev Gives : ℕ → List ℕ → ℕ → WastRefusal → Type 0
  Gives = TextAnswers Makes text flags out needed why

  -- the same answer, by other names
  renamed : (s : ℕ) (o : List ℕ) (n : ℕ) (w : WastRefusal) (s2 : ℕ) (o2 : List ℕ) (n2 : ℕ) (w2 : WastRefusal) → Gives s o n w → s2 ≡ s → o2 ≡ o → n2 ≡ n → w2 ≡ w → Gives s2 o2 n2 w2
  renamed s o n w s2 o2 n2 w2 h a b c d =
      subst (λ x. Gives x o2 n2 w2) (sym a) (subst (λ x. Gives s x n2 w2) (sym b) (subst (λ x. Gives s o x w2) (sym c) (subst (λ x. Gives s o n x) (sym d) h)))

  -- a call for it was made
  pub answered : {X : Type 0} (items : X → List ℕ) (made : Result X Error) (s : ℕ) (o : List ℕ) (n : ℕ) (w : WastRefusal) → flags ≤ 1 → IsUtf8 text
      → IfOk made (λ x. Makes (items x)) → IfErr made (λ e. EncoderRefuses text (status.legacy flags) e.kind e.offset)
      → IfOk made (λ x. IsHandedOut (items x) s out o n × (w ≡ why)) → IfErr made (λ e. IsTold e s why w × (o ≡ out) × (n ≡ needed)) → Gives s o n w
  answered items (Ok x) s o n w small utf8 makes refuses (inl (a, h), same) told =
      renamed _ _ _ _ s o n w (written (items x) small utf8 makes h.0) a h.1 h.2 same
  answered items (Ok x) s o n w small utf8 makes refuses (inr (a, h), same) told =
      renamed _ _ _ _ s o n w (no_room (items x) small utf8 makes h.0) a h.1 h.2 same
  answered items (Err e) s o n w small utf8 makes refuses made (inl h, kept, unsaid) = renamed _ _ _ _ s o n w (no_memory small utf8) h.1 kept unsaid h.2
  answered items (Err e) s o n w small utf8 makes (inl r) made (inr h, kept, unsaid) = absurd (h.0 r.0)
  answered items (Err e) s o n w small utf8 makes (inr r) made (inr h, kept, unsaid) = renamed _ _ _ _ s o n w (not_made e.kind e.offset w small utf8 r h.2) h.1 kept unsaid refl

  -- none was
  pub unasked : (s : ℕ) (w : WastRefusal) → ((s ≡ status.bad_flags) × (1 < flags) × (w ≡ why)) ⊎ ((s ≡ status.not_utf8) × (flags ≤ 1) × ¬ (IsUtf8 text) × IsValidUpTo text w.offset × (w.kind ≡ 0) × (w.found ≡ 0) × (w.limit ≡ 0)) → Gives s out needed w
  unasked s w (inl h) = renamed _ _ _ _ s out needed w (not_asked h.1) h.0 refl refl h.2
  unasked s w (inr h) = renamed _ _ _ _ s out needed w (no_text w h.1 h.2 h.3 h.4 h.5 h.6) h.0 refl refl refl

-- a cause has its refusal, but for want of memory
pub exact : {X : Type 0} (made : Result X Error) (kind : ErrorKind) (offset s : ℕ) (old w : WastRefusal) (A B : Type 0) → IsRefusedAs made kind offset → IfErr made (λ e. IsTold e s old w × A × B)
    → ((s ≡ status.refused) × Tells w kind offset) ⊎ (s ≡ status.out_of_memory)
exact (Ok x) kind offset s old w A B none told = absurd none
exact (Err e) kind offset s old w A B is (inl h, a, b) = inr h.1
exact (Err e) kind offset s old w A B (inl same) (inr h, a, b) = inl (h.1, subst (λ (k : ErrorKind). Tells w k offset) same.0 (subst (λ (n : ℕ). Tells w e.kind n) same.1 h.2))
exact (Err e) kind offset s old w A B (inr short) (inr h, a, b) = absurd (h.0 short)

-- what is valid is made, but for want of memory
pub complete : {X : Type 0} (items : X → List ℕ) (made : Result X Error) (s : ℕ) (out o : List ℕ) (n : ℕ) (old w : WastRefusal) (A B C : Type 0) → IfErr made (λ e. e.kind ≡ kinds.NoMemory)
    → IfOk made (λ x. IsHandedOut (items x) s out o n × C) → IfErr made (λ e. IsTold e s old w × A × B) → (s ≡ status.done) ⊎ (s ≡ status.too_short) ⊎ (s ≡ status.out_of_memory)
complete items (Ok x) s out o n old w A B C short (inl h, c) told = inl h.0
complete items (Ok x) s out o n old w A B C short (inr h, c) told = inr (inl h.0)
complete items (Err e) s out o n old w A B C short given (inl h, a, b) = inr (inr h.1)
complete items (Err e) s out o n old w A B C short given (inr h, a, b) = absurd (h.0 short)
