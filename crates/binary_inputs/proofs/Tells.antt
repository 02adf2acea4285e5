-- What is told of an input, by what is told of the bytes of its binary.
use Rattle.std.proofs.Common.{◌≡◌, ℕ, List, Bool, true, false, Result, Ok, IfOk, codes}
use Rattle.std.proofs.lemmas.Result.{IfOk-weaker}
use Rattle.std.specs.declared.alloc.AllocError.{AllocError}
use Rattle.hex.specs.Hex.{decode_of}
use Rattle.wire_read.specs.Answer.{RefusedAs}
use Rattle.wire_read.specs.declared.read.ReadError.{ReadError}
use Rattle.binary_inputs.specs.declared.told.Told.{Told}
use Rattle.binary_inputs.specs.declared.told.Told.TheVariants.{Output, Refusal}
use Rattle.binary_inputs.specs.Input.{HasBinary, HexRefuses, NotRead, Tells, TellsOfBytes, IsRefusal, IsReadRefusal, digits_of}
use Rattle.binary_inputs.specs.Input.HasBinary.{raw, in_digits}
use Rattle.binary_inputs.specs.Input.NotRead.{not_read}
use Rattle.binary_inputs.specs.Input.InputRefused.{not_hex, bytes_refused}

module _ (Answers : List ℕ → List ℕ → Type 0) (Refuses : List ℕ → List ℕ → ℕ → Type 0) where
  tells : (input : List ℕ) (r : Bool) (bytes : List ℕ) → HasBinary input r bytes → (t : Told) → TellsOfBytes Answers Refuses bytes t → Tells Answers Refuses input r t
  tells input r bytes h (Output out) t = (bytes, h, t)
  tells input r bytes h (Refusal line) t = (t.0, t.1, bytes_refused r bytes t.0 t.1 h t.2, t.3)

  -- of an input that is the binary
  pub raw_told : (input : List ℕ) (r : Result Told AllocError) → IfOk r (TellsOfBytes Answers Refuses input) → IfOk r (Tells Answers Refuses input true)
  raw_told input r h = IfOk-weaker r (TellsOfBytes Answers Refuses input) (Tells Answers Refuses input true) (tells input true input raw) h

  -- of one that has it in hexadecimal
  pub digits_told : (input bytes : List ℕ) (r : Result Told AllocError) → decode_of (digits_of input) ≡ Ok bytes → IfOk r (TellsOfBytes Answers Refuses bytes) → IfOk r (Tells Answers Refuses input false)
  digits_told input bytes r e h = IfOk-weaker r (TellsOfBytes Answers Refuses bytes) (Tells Answers Refuses input false) (tells input false bytes (in_digits bytes e)) h

  hex_told : (input : List ℕ) (offset : ℕ) → HexRefuses (digits_of input) offset → (t : Told) → IsRefusal (codes "hex") offset t → Tells Answers Refuses input false t
  hex_told input offset h (Output out) l = absurd l
  hex_told input offset h (Refusal line) l = (codes "hex", offset, not_hex offset h, l)

  -- of one that isn't hexadecimal
  pub digits_refused : (input : List ℕ) (offset : ℕ) (r : Result Told AllocError) → HexRefuses (digits_of input) offset → IfOk r (IsRefusal (codes "hex") offset) → IfOk r (Tells Answers Refuses input false)
  digits_refused input offset r refused h = IfOk-weaker r (IsRefusal (codes "hex") offset) (Tells Answers Refuses input false) (hex_told input offset refused) h

  refusal_told : (bytes : List ℕ) → ((name : List ℕ) (offset : ℕ) → NotRead bytes name offset → Refuses bytes name offset) → (e : ReadError) → RefusedAs bytes e.kind e.offset → (t : Told) → IsReadRefusal e t → TellsOfBytes Answers Refuses bytes t
  refusal_told bytes row e h (Output out) l = absurd l
  refusal_told bytes row e h (Refusal line) l = (l.0, e.offset, row l.0 e.offset (not_read e.kind l.0 e.offset h l.1), l.2)

  -- of bytes that aren't read
  pub error_told : (bytes : List ℕ) → ((name : List ℕ) (offset : ℕ) → NotRead bytes name offset → Refuses bytes name offset) → (e : ReadError) (r : Result Told AllocError) → RefusedAs bytes e.kind e.offset → IfOk r (IsReadRefusal e) → IfOk r (TellsOfBytes Answers Refuses bytes)
  error_told bytes row e r refused h = IfOk-weaker r (IsReadRefusal e) (TellsOfBytes Answers Refuses bytes) (refusal_told bytes row e refused) h
