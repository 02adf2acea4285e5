-- What follows of a call where it was done.
use Rattle.std.proofs.Common.{Result, Ok, Err, OnOk}

pub on-from : {X E : Type 0} (r : Result X E) (B C : Type 0) → OnOk r B → (B → C) → OnOk r C
on-from (Ok x) B C b f = f b
on-from (Err e) B C b f = tt
