-- A source and a sink in memory, and what a call does to them.
use Rattle.std.specs.Prelude.{◌≡◌, ◌==◌, ℕ, ◌+◌, ◌-◌, ◌^◌, ◌++◌, min, length, Bool, true, false, List, Result, Ok, Err}
use Rattle.std.specs.List.{list_any}
use Rattle.byte_streams.specs.declared.outside.SinkError.{SinkError}
use Rattle.byte_streams.specs.declared.outside.SinkError.TheVariants.{Failed, NoMemory}

-- what is seen of a source or a sink in memory: the bytes that it has left or has taken, the numbers of the calls that are to fail, the most bytes that pass in one call, the number of the next call, and its count of faults
pub record Memory : Type 0 where
  pub bytes : List ℕ
  pub fails : List ℕ
  pub piece : ℕ
  pub call : ℕ
  pub faults : ℕ

-- the next number, up to the last one of a `u64`
abbrev pub next : ℕ → ℕ
next number = min (number + 1) (2 ^ 64 - 1)

-- whether the call of this number is one of those that are to fail
abbrev pub is_to_fail : List ℕ → ℕ → Bool
is_to_fail fails call = list_any (λ fail. fail == call) fails

-- after a call that leaves these bytes
abbrev pub after_call : Memory → List ℕ → Memory
after_call memory bytes = record memory { bytes = bytes; call = next memory.call }

-- after a call that was to fail, in which no byte passes
abbrev pub after_fault : Memory → Memory
after_fault memory = record memory { call = next memory.call; faults = next memory.faults }

-- what a write does to a count of faults, of a sink that never lacks memory: a fault is counted once, and nothing else is
abbrev pub CountsFault : ℕ → Result ℕ SinkError → ℕ → Type 0
CountsFault old (Ok count) new = new ≡ old
CountsFault old (Err Failed) new = new ≡ next old
CountsFault old (Err NoMemory) new = ⊥

-- what one write to a sink that never fails gave: it took as many bytes as it says, or found no memory for them
abbrev pub TakesSurely : List ℕ → Result ℕ SinkError → List ℕ → Type 0
TakesSurely old (Ok count) new = (taken : List ℕ) × (length taken ≡ count) × (new ≡ old ++ taken)
TakesSurely old (Err Failed) new = ⊥
TakesSurely old (Err NoMemory) new = new ≡ old

-- what one write to a sink in memory gave: it took as many bytes as it says; it failed, as it was to; or it found no memory for them
abbrev pub WriteGives : Memory → Result ℕ SinkError → Memory → Type 0
WriteGives old (Ok count) new = (is_to_fail old.fails old.call ≡ false) × (taken : List ℕ) × (length taken ≡ count) × (new ≡ after_call old (old.bytes ++ taken))
WriteGives old (Err Failed) new = (is_to_fail old.fails old.call ≡ true) × (new ≡ after_fault old)
WriteGives old (Err NoMemory) new = (is_to_fail old.fails old.call ≡ false) × (new ≡ after_call old old.bytes)
