-- Classes of tokens by their numbers.
use Rattle.std.specs.Prelude.{ℕ, zero, suc, ◌+◌, ◌-◌, ◌*◌, ◌/◌, ◌%◌, List, [], ◌∷◌, length, cond, codes, take, drop, slice_get, slice_index, unwrap_or, nat_le, nat_lt, ◌&&◌, Bool}
use Rattle.wast_grammar.specs.Classes.{Class, finish, opening, closing, id, keyword, annotation, numeral, wide, utf8, binary, reserved, same}

-- the words of the text format that have a number of their own
abbrev pub words : List (List ℕ)
words =
    codes "bool"
    ∷ codes "s8"
    ∷ codes "u8"
    ∷ codes "s16"
    ∷ codes "u16"
    ∷ codes "s32"
    ∷ codes "u32"
    ∷ codes "s64"
    ∷ codes "u64"
    ∷ codes "f32"
    ∷ codes "float32"
    ∷ codes "f64"
    ∷ codes "float64"
    ∷ codes "char"
    ∷ codes "string"
    ∷ codes "error-context"
    ∷ codes "record"
    ∷ codes "variant"
    ∷ codes "list"
    ∷ codes "map"
    ∷ codes "tuple"
    ∷ codes "flags"
    ∷ codes "enum"
    ∷ codes "option"
    ∷ codes "result"
    ∷ codes "own"
    ∷ codes "borrow"
    ∷ codes "stream"
    ∷ codes "future"
    ∷ codes "i32"
    ∷ codes "i64"
    ∷ codes "v128"
    ∷ codes "string-encoding=utf8"
    ∷ codes "string-encoding=utf16"
    ∷ codes "string-encoding=latin1+utf16"
    ∷ codes "async"
    ∷ codes "gc"
    ∷ codes "memory"
    ∷ codes "realloc"
    ∷ codes "post-return"
    ∷ codes "callback"
    ∷ codes "core-type"
    ∷ codes "funcref"
    ∷ codes "externref"
    ∷ codes "language"
    ∷ codes "sdk"
    ∷ codes "processed-by"
    ∷ codes "lower"
    ∷ codes "resource.new"
    ∷ codes "resource.drop"
    ∷ codes "resource.rep"
    ∷ codes "thread.spawn-ref"
    ∷ codes "thread.spawn-indirect"
    ∷ codes "thread.new-indirect"
    ∷ codes "thread.available-parallelism"
    ∷ codes "thread.available_parallelism"
    ∷ codes "task.return"
    ∷ codes "task.cancel"
    ∷ codes "context.get"
    ∷ codes "context.set"
    ∷ codes "subtask.drop"
    ∷ codes "subtask.cancel"
    ∷ codes "stream.new"
    ∷ codes "stream.read"
    ∷ codes "stream.write"
    ∷ codes "stream.forward"
    ∷ codes "stream.cancel-read"
    ∷ codes "stream.cancel-write"
    ∷ codes "stream.drop-readable"
    ∷ codes "stream.drop-writable"
    ∷ codes "future.new"
    ∷ codes "future.read"
    ∷ codes "future.write"
    ∷ codes "future.forward"
    ∷ codes "future.cancel-read"
    ∷ codes "future.cancel-write"
    ∷ codes "future.drop-readable"
    ∷ codes "future.drop-writable"
    ∷ codes "error-context.new"
    ∷ codes "error-context.debug-message"
    ∷ codes "error-context.drop"
    ∷ codes "backpressure.inc"
    ∷ codes "backpressure.dec"
    ∷ codes "waitable-set.new"
    ∷ codes "waitable-set.drop"
    ∷ codes "waitable.join"
    ∷ codes "waitable-set.wait"
    ∷ codes "waitable-set.poll"
    ∷ codes "thread.index"
    ∷ codes "thread.resume-later"
    ∷ codes "thread.suspend"
    ∷ codes "thread.yield"
    ∷ codes "thread.suspend-then-resume"
    ∷ codes "thread.yield-then-resume"
    ∷ codes "thread.suspend-then-promote"
    ∷ codes "thread.yield-then-promote"
    ∷ codes "alias"
    ∷ codes "array"
    ∷ codes "binary"
    ∷ codes "canon"
    ∷ codes "case"
    ∷ codes "component"
    ∷ codes "cont"
    ∷ codes "core"
    ∷ codes "dtor"
    ∷ codes "eq"
    ∷ codes "error"
    ∷ codes "export"
    ∷ codes "extern"
    ∷ codes "external-id"
    ∷ codes "field"
    ∷ codes "func"
    ∷ codes "global"
    ∷ codes "implements"
    ∷ codes "import"
    ∷ codes "instance"
    ∷ codes "instantiate"
    ∷ codes "interface"
    ∷ codes "lift"
    ∷ codes "module"
    ∷ codes "mut"
    ∷ codes "null"
    ∷ codes "outer"
    ∷ codes "param"
    ∷ codes "rec"
    ∷ codes "ref"
    ∷ codes "rep"
    ∷ codes "resource"
    ∷ codes "shared"
    ∷ codes "start"
    ∷ codes "struct"
    ∷ codes "sub"
    ∷ codes "table"
    ∷ codes "tag"
    ∷ codes "type"
    ∷ codes "value"
    ∷ codes "version-suffix"
    ∷ codes "with"
    ∷ []

abbrev pub keywords : List (List ℕ) → List Class
keywords [] = []
keywords (w ∷ ws) = keyword w ∷ keywords ws

-- the classes that have a number of their own, in order
abbrev pub classes : List Class
classes =
    finish
    ∷ closing
    ∷ opening
    ∷ utf8
    ∷ binary
    ∷ id
    ∷ numeral
    ∷ wide
    ∷ annotation (codes "(@name")
    ∷ annotation (codes "(@custom")
    ∷ annotation (codes "(@producers")
    ∷ keywords words

-- the place of a class in a list, or its length
abbrev pub place_in : List Class → Class → ℕ
place_in [] c = 0
place_in (d ∷ ds) c = cond (same d c) 0 (place_in ds c + 1)

-- the number of a class
unfoldable pub number : Class → ℕ
number c = place_in classes c

-- the class at a place of a list, or one that no rule asks for
abbrev pub class_in : List Class → ℕ → Class
class_in [] n = reserved
class_in (d ∷ ds) zero = d
class_in (d ∷ ds) (suc n) = class_in ds n

-- the class of a number
abbrev pub class : ℕ → Class
class n = class_in classes n

-- the classes from one number to another
abbrev pub range : ℕ → ℕ → List Class
range a b = take (b + 1 - a) (drop a classes)

-- whether a number is that of a class from one number to another
abbrev pub between : ℕ → ℕ → ℕ → Bool
between a n b = nat_le a n && (nat_le n b && nat_lt n 149)

-- the word of a number
abbrev pub word_at : ℕ → List ℕ
word_at n = unwrap_or (slice_get words (n - 11)) []

-- the place of a word by its length, its first and last byte and that in the middle
unfoldable pub hash : List ℕ → ℕ
hash bs = (97 * (length bs % 1024) + 89 * slice_index bs 0 + 105 * slice_index bs (length bs - 1) + 51 * slice_index bs (length bs / 2)) % 1024
