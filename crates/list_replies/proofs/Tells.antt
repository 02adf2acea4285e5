-- What is told of bytes that are read.
use Rattle.std.proofs.Common.{ℕ, List, Result, IfOk}
use Rattle.std.proofs.lemmas.Result.{IfOk-weaker}
use Rattle.std.specs.declared.alloc.AllocError.{AllocError}
use Rattle.comp_model.specs.Model.{Scope}
use Rattle.binary_inputs.specs.Input.{IsRead, IsOutput}
use Rattle.binary_inputs.specs.declared.told.Told.{Told}
use Rattle.binary_inputs.specs.declared.told.Told.TheVariants.{Output, Refusal}
use Rattle.list_replies.specs.declared.reply.Ask.{Ask}
use Rattle.list_replies.specs.Answer.{TellsOfBytes, lines_of}

module _ (bytes : List ℕ) (ask : Ask) where
  lines_told : (b : Scope) → IsRead bytes b → (t : Told) → IsOutput (lines_of b ask) t → TellsOfBytes bytes ask t
  lines_told b read (Output out) e = record { component = b; read = read; printed = e }
  lines_told b read (Refusal line) e = absurd e

  pub bytes_told : (b : Scope) (r : Result Told AllocError) → IsRead bytes b → IfOk r (IsOutput (lines_of b ask)) → IfOk r (TellsOfBytes bytes ask)
  bytes_told b r read h = IfOk-weaker r (IsOutput (lines_of b ask)) (TellsOfBytes bytes ask) (lines_told b read) h
