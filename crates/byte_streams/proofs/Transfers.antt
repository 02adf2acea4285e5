-- Reads and writes in a row.
use Rattle.std.proofs.Common.{◌≡◌, ℕ, ◌+◌, ◌-◌, ◌≤◌, List, [], ◌++◌, length, take, drop, None, Some, Err, sym, ap, subst, ◌∙◌, append_assoc, append-nil, length-drop, length-append, arith}
use Rattle.std.proofs.Math.Seq.{take-add}
use Rattle.std.proofs.lemmas.List.{take_rest, take_at, drop-drop, drop_all, take-append-drop, length-take-le}
use Rattle.byte_streams.specs.declared.transfer.ReadError.{ReadError}
use Rattle.byte_streams.specs.declared.transfer.ReadError.TheVariants.{Failed, NoMemory}
use Rattle.byte_streams.specs.Outside.{TakesFront, ReadsFront, AddsPiece, Reads, ReadsOnce, ReadsUntil}
use Rattle.byte_streams.specs.Outside.Reads.{more}
use Rattle.std.specs.declared.option.Option.{Option}
use Rattle.std.specs.Io.KnownBytes.{Consumes, Appends}

-- two reads in a row
consumes_more : (a b c : Option (List ℕ)) (xs ys : List ℕ) → Consumes a b xs → Consumes b c ys → Consumes a c (xs ++ ys)
consumes_more None b c xs ys h k = tt
consumes_more (Some u) None c xs ys h k = absurd h
consumes_more (Some u) (Some v) None xs ys h k = absurd k
consumes_more (Some u) (Some v) (Some w) xs ys h k = h ∙ ap (λ z. xs ++ z) k ∙ sym (append_assoc xs ys w)

-- a piece read after the bytes
pub reads_piece : (a b c : Option (List ℕ)) (before after : List ℕ) (room count : ℕ) → Consumes a b before → AddsPiece b c room before after count → Consumes a c after
reads_piece a b c before after room count h piece = subst (Consumes a c) (sym piece.adds) (consumes_more a b c before piece.read h piece.consumes)

-- how many bytes there are then
pub length-piece : (b c : Option (List ℕ)) (before after : List ℕ) (room count : ℕ) → AddsPiece b c room before after count → length after ≤ length before + room
length-piece b c before after room count piece =
    let e : length after ≡ length before + length piece.read = ap length piece.adds ∙ length-append before piece.read in
    omega (arith, piece.counted, piece.bound)

-- a sink that is as it was took nothing
pub appends_nothing : (a : Option (List ℕ)) → Appends a a []
appends_nothing None = tt
appends_nothing (Some xs) = sym (append-nil xs)

-- two writes in a row
appends_more : (a b c : Option (List ℕ)) (xs ys : List ℕ) → Appends a b xs → Appends b c ys → Appends a c (xs ++ ys)
appends_more None b c xs ys h k = tt
appends_more (Some u) None c xs ys h k = absurd h
appends_more (Some u) (Some v) None xs ys h k = absurd k
appends_more (Some u) (Some v) (Some w) xs ys h k = k ∙ ap (λ z. z ++ ys) h ∙ append_assoc u xs ys

-- a front that was read after the bytes
pub reads_front : (a b c : Option (List ℕ)) (bytes : List ℕ) (room most : ℕ) → room + length bytes ≤ most → Consumes a b bytes → ReadsFront b c room → ReadsFront a c most
reads_front a b c bytes room most fits h k =
    (bytes ++ k.0, (let e : length (bytes ++ k.0) ≡ length bytes + length k.0 = length-append bytes k.0 in omega (arith, k.1)), consumes_more a b c bytes k.0 h k.2)

-- reads in a row, and one more that answered nothing
pub reads_until : {S : Type 0} {old source : S} (new : S) (gives : S → Option ℕ → S → Type 0) (error : ReadError) → Reads gives old source → ReadsOnce gives source new (Err error) → ReadsUntil gives old new error
reads_until {source = source} new gives Failed before once = (source, before, once)
reads_until new gives NoMemory before once = more once.0 before once.1

-- what `&bytes[at..]` holds
abbrev pub rest_of : List ℕ → ℕ → List ℕ
rest_of bytes at = take (length bytes - at) (drop at bytes)

-- how many bytes those are
pub length-rest_of : (bytes : List ℕ) (at : ℕ) → length (rest_of bytes at) ≡ length bytes - at
length-rest_of bytes at = ap length (take_rest bytes at) ∙ length-drop at bytes

-- a write of the next n bytes after the first `at`
pub writes_more : (a b c : Option (List ℕ)) (bytes : List ℕ) (at n : ℕ) → Appends a b (take at bytes) → Appends b c (take n (rest_of bytes at)) → Appends a c (take (at + n) bytes)
writes_more a b c bytes at n h k =
    let e : take n (rest_of bytes at) ≡ take n (drop at bytes) = ap (take n) (take_rest bytes at) in
    subst (Appends a c) (sym (take-add at n bytes)) (appends_more a b c (take at bytes) (take n (drop at bytes)) h (subst (Appends b c) e k))

-- a front of the rest after the first `at`
pub writes_front : (a b c : Option (List ℕ)) (bytes : List ℕ) (at : ℕ) → at ≤ length bytes → Appends a b (take at bytes) → TakesFront b c (rest_of bytes at) → TakesFront a c bytes
writes_front a b c bytes at le h k =
    let bound : k.0 ≤ length bytes - at = subst (λ n. k.0 ≤ n) (length-rest_of bytes at) k.1 in
    (at + k.0, omega arith, writes_more a b c bytes at k.0 h k.2)

-- n bytes at a place, copied into a buffer
pub copied : (bytes piece buf : List ℕ) (at n : ℕ) → n ≤ length bytes - at → piece ≡ take (at + n - at) (drop at bytes) → drop at bytes ≡ take n (piece ++ drop n buf) ++ drop (at + n) bytes
copied bytes piece buf at n le e =
    let m : at + n - at ≡ n = omega arith in
    let is : piece ≡ take n (drop at bytes) = e ∙ ap (λ k. take k (drop at bytes)) m in
    let len : length piece ≡ n = ap length is ∙ length-take-le n (drop at bytes) (omega (arith, length-drop at bytes)) in
    sym (take-append-drop n (drop at bytes)) ∙ ap (λ z. z ++ drop n (drop at bytes)) (sym (take_at piece (drop n buf) n len ∙ is)) ∙ ap (λ z. take n (piece ++ drop n buf) ++ z) (drop-drop n at bytes)

-- behind the last byte there is none
pub at_end : (bytes : List ℕ) (at n : ℕ) → length bytes ≤ at → drop (at + n) bytes ≡ []
at_end bytes at n le = drop_all (at + n) bytes (omega arith)
