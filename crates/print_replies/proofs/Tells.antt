-- What is told of a component, and of bytes that are read as it.
use Rattle.std.proofs.Common.{◌≡◌, inl, inr, ℕ, List, Some, None, Result, IfOk, sym, ap, ◌∙◌}
use Rattle.std.proofs.lemmas.Result.{IfOk-weaker}
use Rattle.std.specs.declared.alloc.AllocError.{AllocError}
use Rattle.comp_model.specs.Model.{Scope}
use Rattle.print_table.specs.Printable.{IsPrintable}
use Rattle.print_table.specs.TextOf.{unnamed, text_of}
use Rattle.tree_print.specs.Cause.{cause, Refuses}
use Rattle.tree_print.specs.declared.print.PrintKind.{PrintKind}
use Rattle.tree_print.specs.declared.print.PrintKind.TheVariants as kind
use Rattle.binary_inputs.specs.Input.{IsRead, IsOutput}
use Rattle.binary_inputs.specs.declared.told.Told.{Told}
use Rattle.binary_inputs.specs.declared.told.Told.TheVariants.{Output, Refusal}
use Rattle.print_replies.specs.Answer.{print_kind_name, line_of_text, IsPrintRefusal, TellsOfScope, TellsOfBytes}
use Rattle.print_replies.specs.Answer.NotPrinted.{refused}

module _ (b : Scope) where
  text_told : (text : List ℕ) → text ≡ text_of b → cause b ≡ None → IsPrintable (unnamed b) → (t : Told) → IsOutput (line_of_text text) t → TellsOfScope b t
  text_told text is admitted printable (Output out) e = (admitted, printable, e ∙ ap line_of_text is)
  text_told text is admitted printable (Refusal line) e = absurd e

  pub scope_told : (text : List ℕ) (r : Result Told AllocError) → text ≡ text_of b → cause b ≡ None → IsPrintable (unnamed b) → IfOk r (IsOutput (line_of_text text)) → IfOk r (TellsOfScope b)
  scope_told text r is admitted printable h = IfOk-weaker r (IsOutput (line_of_text text)) (TellsOfScope b) (text_told text is admitted printable) h

  no_name : {A : Type 0} (k : PrintKind) (name : List ℕ) → k ≡ kind.NoMemory → print_kind_name k ≡ Some name → A
  no_name k name m n = let none : None ≡ Some name = sym (ap print_kind_name m) ∙ n in absurd (cc)

  refusal_told : (k : PrintKind) → Refuses b k → (t : Told) → IsPrintRefusal k t → TellsOfScope b t
  refusal_told k h (Output out) l = absurd l
  refusal_told k (inl m) (Refusal line) l = no_name k l.0 m l.1
  refusal_told k (inr c) (Refusal line) l = (k, l.0, c, l.1, l.2)

  pub scope_refused : (k : PrintKind) (r : Result Told AllocError) → Refuses b k → IfOk r (IsPrintRefusal k) → IfOk r (TellsOfScope b)
  scope_refused k r refuses h = IfOk-weaker r (IsPrintRefusal k) (TellsOfScope b) (refusal_told k refuses) h

module _ (bytes : List ℕ) (b : Scope) where
  read_told : IsRead bytes b → (t : Told) → TellsOfScope b t → TellsOfBytes bytes t
  read_told read (Output out) h = record { component = b; read = read; admitted = h.0; printable = h.1; printed = h.2 }
  read_told read (Refusal line) h = (h.1, 0, refused b h.0 h.1 read h.2 h.3, h.4)

  pub bytes_told : (r : Result Told AllocError) → IsRead bytes b → IfOk r (TellsOfScope b) → IfOk r (TellsOfBytes bytes)
  bytes_told r read h = IfOk-weaker r (TellsOfScope b) (TellsOfBytes bytes) (read_told read) h
