-- Exports fit, where their bytes are a word together and fields are few.
use Rattle.std.proofs.Common.{ℕ, ◌+◌, ◌<◌, ◌≤◌, ◌^◌, List, [], ◌∷◌, map, length, Option, Some, arith, length-append}
use Rattle.comp_model.specs.declared.Space.{Space}
use Rattle.comp_model.specs.declared.Space.TheVariants.{CoreFunc, CoreTable, CoreMemory, CoreGlobal, CoreTag}
use Rattle.comp_model.specs.Core.{Text}
use Rattle.comp_model.specs.Leb.{uleb}
use Rattle.comp_model.specs.Payloads.{framed, core_sort_byte}
use Rattle.comp_model.specs.CoreModules as c
use Rattle.comp_model.specs.CoreModules.{Index, Field}
use Rattle.core_model.specs.Items.{declares, index_of}
use Rattle.core_model.specs.Words.{Word}
use Rattle.core_model.specs.Bytes.{section, export_item}
use Rattle.core_model.proofs.Lists.{Each, each-append}
use Rattle.core_write.specs.declared.counts.Counts.{Counts}
use Rattle.core_write.specs.Exports.{counted_in, exports_at, exports_from, FitsInline, FitsExportsAt, FitsExports, no_counts}
use Rattle.core_write.specs.Module.{FitsExportSection}
use Rattle.core_fits.proofs.Counted.{WordLong, long-left, long-framed, each-left, each-right, Filled, filled-contents}
use Rattle.core_fits.proofs.Few.{Small}

-- no export is empty

filled-export : (s : Space) (n : ℕ) (x : Text) → Filled (export_item [] s n x)
filled-export s n x = let e = length-append (framed x) (core_sort_byte s ∷ uleb n) in omega (arith, e)

filled-inline : (s : Space) (n : ℕ) (xs : List Text) → Each Filled (map (export_item [] s n) xs)
filled-inline s n [] = tt
filled-inline s n (x ∷ xs) = (filled-export s n x, filled-inline s n xs)

filled-written : (n : Counts) (o : ℕ) (x : Text) (s : Space) (i : Index) → Each Filled (exports_at n (c.export_field o x s i))
filled-written n o x CoreTag i = tt
filled-written n o x CoreFunc i = (filled-export CoreFunc (index_of [] i) x, tt)
filled-written n o x s i = (filled-export s (index_of [] i) x, tt)

filled-at : (n : Counts) (f : Field) → Each Filled (exports_at n f)
filled-at n (c.export_field o x s i) = filled-written n o x s i
filled-at n (c.func_field o m i u ls is) = filled-inline CoreFunc n.funcs i.exports
filled-at n (c.table_field o m i l v) = filled-inline CoreTable n.tables i.exports
filled-at n (c.memory_field o m i l) = filled-inline CoreMemory n.memories i.exports
filled-at n (c.global_field o m i v b is) = filled-inline CoreGlobal n.globals i.exports
filled-at n (c.type_field o m d) = tt
filled-at n (c.import_field o m x k e) = tt
filled-at n (c.other_field o) = tt

filled-exports : (n : Counts) (fs : List Field) → Each Filled (exports_from n fs)
filled-exports n [] = tt
filled-exports n (f ∷ fs) = each-append Filled (exports_at n f) (exports_from (counted_in (declares f) n) fs) (filled-at n f) (filled-exports (counted_in (declares f) n) fs)

-- counts are below a limit

abbrev Below : ℕ → Counts → Type 0
Below limit n = (n.funcs ≤ limit) × (n.tables ≤ limit) × (n.memories ≤ limit) × (n.globals ≤ limit)

below-more : (limit : ℕ) (d : Option Space) (n : Counts) → Below limit n → Below (limit + 1) (counted_in d n)
below-more limit (Some CoreFunc) n p = let a = p.0 in let b = p.1 in let m = p.2 in let g = p.3 in (omega (arith, a), omega (arith, b), omega (arith, m), omega (arith, g))
below-more limit _ n p = let a = p.0 in let b = p.1 in let m = p.2 in let g = p.3 in (omega (arith, a), omega (arith, b), omega (arith, m), omega (arith, g))

-- what a field exports

inline-fits : (s : Space) (limit n : ℕ) (xs : List Text) → Word limit → n ≤ limit → Each WordLong (map (export_item [] s n) xs) → FitsInline n xs
inline-fits s limit n [] w b h = tt
inline-fits s limit n (x ∷ xs) w b h = (omega (arith, w, b), long-framed x (long-left (framed x) (core_sort_byte s ∷ uleb n) h.0), inline-fits s limit n xs w b h.1)

written-fits : (n : Counts) (o : ℕ) (x : Text) (s : Space) (i : Index) → Each WordLong (exports_at n (c.export_field o x s i)) → FitsExportsAt n (c.export_field o x s i)
written-fits n o x CoreTag i h = tt
written-fits n o x CoreFunc i h = long-framed x (long-left (framed x) (core_sort_byte CoreFunc ∷ uleb (index_of [] i)) h.0)
written-fits n o x s i h = long-framed x (long-left (framed x) (core_sort_byte s ∷ uleb (index_of [] i)) h.0)

at-fits : (limit : ℕ) (n : Counts) (f : Field) → Word limit → Below limit n → Each WordLong (exports_at n f) → FitsExportsAt n f
at-fits limit n (c.export_field o x s i) w b h = written-fits n o x s i h
at-fits limit n (c.func_field o m i u ls is) w b h = inline-fits CoreFunc limit n.funcs i.exports w b.0 h
at-fits limit n (c.table_field o m i l v) w b h = inline-fits CoreTable limit n.tables i.exports w b.1 h
at-fits limit n (c.memory_field o m i l) w b h = inline-fits CoreMemory limit n.memories i.exports w b.2 h
at-fits limit n (c.global_field o m i v k is) w b h = inline-fits CoreGlobal limit n.globals i.exports w b.3 h
at-fits limit n (c.type_field o m d) w b h = tt
at-fits limit n (c.import_field o m x k e) w b h = tt
at-fits limit n (c.other_field o) w b h = tt

from-fits : (limit : ℕ) (n : Counts) (fs : List Field) → limit + length fs < 2 ^ 32 → Below limit n → Each WordLong (exports_from n fs) → FitsExports n fs
from-fits limit n [] w b h = tt
from-fits limit n (f ∷ fs) w b h =
    let m : Counts = counted_in (declares f) n in (
      at-fits limit n f (omega (arith, w)) b (each-left WordLong (exports_at n f) (exports_from m fs) h),
      from-fits (limit + 1) m fs (omega (arith, w)) (below-more limit (declares f) n b) (each-right WordLong (exports_at n f) (exports_from m fs) h),
    )

pub exports-fit : (number : ℕ) (fs : List Field) → Small (length fs) → WordLong (section number (exports_from no_counts fs)) → FitsExportSection fs
exports-fit number fs few h =
    let k = filled-contents number (exports_from no_counts fs) (filled-exports no_counts fs) h in
    record { each = from-fits 0 no_counts fs (omega (arith, few)) (omega arith, omega arith, omega arith, omega arith) k.each; whole = k.whole }
