-- The test is exact: it holds exactly where the module can be written.
use Rattle.std.proofs.Common.{◌≡◌, ◌↔◌, ℕ, ◌+◌, ◌≤◌, ◌^◌, true, true≢false, ◌&&◌, List, [], ◌∷◌, ◌++◌, map, length, Option, Some, None, length-append, refl, sym, ◌∙◌, arith, inl, inr}
use Rattle.std.proofs.lemmas.Bool.{cases_lt, lt-ltb, le-ltb}
use Rattle.comp_model.specs.declared.Space.{Space}
use Rattle.comp_model.specs.declared.Space.TheVariants.{CoreFunc, CoreTable, CoreMemory, CoreGlobal, CoreType, CoreTag}
use Rattle.comp_model.specs.Core.{Text, CoreValue}
use Rattle.comp_model.specs.Leb.{uleb}
use Rattle.comp_model.specs.Payloads.{framed, joined, core_sort_byte}
use Rattle.comp_wire.specs.Spelled.{core_bytes}
use Rattle.comp_wire.specs.Fits.{is_word}
use Rattle.comp_model.specs.CoreModules as c
use Rattle.comp_model.specs.CoreModules.{Naming, Local, TypeDef, TypeUse, Instruction, Field}
use Rattle.core_model.specs.Items.{naming_of, declares, items_in, index_of}
use Rattle.core_model.specs.Types.{Signature, signature_of}
use Rattle.core_model.specs.Words.{Word}
use Rattle.core_model.specs.Bytes.{counted, section, values, value, runs, run_bytes, expression, export_item}
use Rattle.core_model.specs.NameSection.{name_of, named_at, names_from, names_in, locals_at, section_name}
use Rattle.core_model.proofs.Lists.{Each}
use Rattle.core_model.proofs.ResolvedFields.{and-both, and-left, and-right}
use Rattle.core_write.specs.declared.part.Part.{Part}
use Rattle.core_write.specs.declared.part.Part.TheVariants as part
use Rattle.core_write.specs.declared.counts.Counts.{Counts}
use Rattle.core_write.specs.Written.{values_of, unless_imported, code_entry, items_of}
use Rattle.core_write.specs.Fits.{FitsDef, FitsRuns, FitsCode, FitsItem, FitsItems, FitsSection}
use Rattle.core_write.specs.Exports.{counted_in, exports_at, exports_from, FitsInline, FitsExportsAt, FitsExports, no_counts}
use Rattle.core_write.specs.NamesWritten.{param_counts, first_local, namings_of, written_namings, function_names, unless_named_import, local_items, local_items_from, subsections_of, FitsNamed, FitsNamesFrom, FitsLocalsAt, FitsFunctionNames, FitsUnlessImported, FitsLocalItems, FitsLocalsFrom, FitsNamesIn, FitsLocalNames, FitsNameSection}
use Rattle.core_write.specs.Module.{items_in_part, FitsPart, FitsExportSection, FitsModule}
use Rattle.core_fits.specs.Tests.{fits_section, fits_runs, fits_unless_imported, fits_item, fits_items, fits_part, fits_inline, fits_exports_at, fits_exports, fits_export_section, fits_named, fits_names, fits_places_in, fits_locals_at, fits_function, fits_local_items, fits_locals, fits_local_places, fits_places, fits_name_section, fits_module}
use Rattle.core_fits.proofs.Counted.{WordLong, long-left, long-right, long-tail, long-framed, each-left, each-right, counted-long, filled-count, filled-contents}
use Rattle.core_fits.proofs.PartsFit.{import-fits}
use Rattle.core_fits.proofs.NamesFit.{name-fits, each-subsection}
use Rattle.core_fits.proofs.ValuesSized.{bytes_of, few_values}
use Rattle.core_fits.proofs.CodeSized.{filled_runs}
use Rattle.core_fits.proofs.NamesSized.{filled_names, few_names}
use Rattle.core_fits.proofs.SectionsSized.{filled_locals}

word : (n : ℕ) → is_word n ≡ true → Word n
word n e = elim (cases_lt n (2 ^ 32)) [ inl p ↦ p | inr p ↦ absurd (true≢false (sym e ∙ le-ltb n (2 ^ 32) p)) ]

is-word : (n : ℕ) → Word n → is_word n ≡ true
is-word n h = lt-ltb n (2 ^ 32) h

section-word : (items : List (List ℕ)) → fits_section items ≡ true → FitsSection items
section-word items e = (word (length items) (and-left _ _ e), word (length (counted items)) (and-right _ _ e))

is-section : (items : List (List ℕ)) → FitsSection items → fits_section items ≡ true
is-section items h = and-both (is-word (length items) h.0) (is-word (length (counted items)) h.1)

-- ---- sections that each field gives by itself

count-bytes : {A : Type 0} (g : A → List ℕ) (xs : List A) → length (map g xs) ≡ length xs
count-bytes g [] = refl
count-bytes g (x ∷ xs) = let e = count-bytes g xs in omega (arith, e)

values-word : {A : Type 0} (g : A → CoreValue) (xs : List A) → WordLong (counted (bytes_of (map (λ x. value [] (g x)) xs))) → Word (length (values (map (λ x. value [] (g x)) xs)))
values-word g xs h =
    let vs : List CoreValue = values (map (λ x. value [] (g x)) xs) in
    let e = count-bytes core_bytes vs in
    let f = few_values g xs in
    let d = length-append (uleb (length (map core_bytes vs))) (joined (map core_bytes vs)) in
    omega (arith, e, f, d, h)

def-word : (d : TypeDef) → Each WordLong (items_of part.Types (c.type_field 0 (record { id = None; label = None }) d)) → FitsDef d
def-word (c.function t) h =
    let s : Signature = signature_of [] t in
    let both : WordLong (counted (bytes_of s.params) ++ counted (bytes_of s.results)) = long-tail 0x60 (counted (bytes_of s.params) ++ counted (bytes_of s.results)) h.0 in (
      values-word (λ l. l.value) t.params (long-left (counted (bytes_of s.params)) (counted (bytes_of s.results)) both),
      values-word (λ v. v) t.results (long-right (counted (bytes_of s.params)) (counted (bytes_of s.results)) both),
    )
def-word (c.other_type o) h = tt

runs-word : (rs : List (ℕ × CoreValue)) → fits_runs rs ≡ true → FitsRuns rs
runs-word [] e = tt
runs-word (r ∷ rs) e = (word r.0 (and-left _ _ e), runs-word rs (and-right _ _ e))

are-runs : (rs : List (ℕ × CoreValue)) → FitsRuns rs → fits_runs rs ≡ true
are-runs [] h = refl
are-runs (r ∷ rs) h = and-both (is-word r.0 h.0) (are-runs rs h.1)

code-word : (o : Option (Text × Text)) (ls : List Local) (is : List Instruction) → fits_unless_imported o (fits_runs (runs (values_of ls))) ≡ true
    → Each WordLong (unless_imported o (framed (code_entry ls is))) → FitsCode o ls is
code-word (Some p) ls is e h = tt
code-word None ls is e h =
    let rs : List (ℕ × CoreValue) = runs (values_of ls) in
    let entry : WordLong (code_entry ls is) = long-framed (code_entry ls is) h.0 in
    let r = long-left (counted (map run_bytes rs)) (expression [] [] is) entry in
    let n = count-bytes run_bytes rs in
    let f = filled-count (map run_bytes rs) (filled_runs rs) in
    let d = length-append (uleb (length (map run_bytes rs))) (joined (map run_bytes rs)) in
    (omega (arith, r, n, f, d), runs-word rs e, entry)

is-code : (o : Option (Text × Text)) (ls : List Local) (is : List Instruction) → FitsCode o ls is → fits_unless_imported o (fits_runs (runs (values_of ls))) ≡ true
is-code (Some p) ls is h = refl
is-code None ls is h = are-runs (runs (values_of ls)) h.1

item-word : (p : Part) (f : Field) → fits_item p f ≡ true → Each WordLong (items_of p f) → FitsItem p f
item-word part.Types (c.type_field o n d) e h = def-word d h
item-word part.Types _ e h = tt
item-word part.Imports f e h = import-fits f h
item-word part.Code (c.func_field o n i u ls is) e h = code-word i.imported ls is e h
item-word part.Code _ e h = tt
item-word _ f e h = tt

is-item : (p : Part) (f : Field) → FitsItem p f → fits_item p f ≡ true
is-item part.Code (c.func_field o n i u ls is) h = is-code i.imported ls is h
is-item part.Code _ h = refl
is-item _ f h = refl

items-word : (p : Part) (fs : List Field) → fits_items p fs ≡ true → Each WordLong (items_in_part p fs) → FitsItems p fs
items-word p [] e h = tt
items-word p (f ∷ fs) e h =
    (item-word p f (and-left _ _ e) (each-left WordLong (items_of p f) (items_in_part p fs) h), items-word p fs (and-right _ _ e) (each-right WordLong (items_of p f) (items_in_part p fs) h))

are-items : (p : Part) (fs : List Field) → FitsItems p fs → fits_items p fs ≡ true
are-items p [] h = refl
are-items p (f ∷ fs) h = and-both (is-item p f h.0) (are-items p fs h.1)

part-word : (p : Part) (fs : List Field) → fits_part p fs ≡ true → FitsPart p fs
part-word p fs e =
    let w = section-word (items_in_part p fs) (and-right _ _ e) in
    record { each = items-word p fs (and-left _ _ e) (counted-long (items_in_part p fs) w.1); whole = w }

is-part : (p : Part) (fs : List Field) → FitsPart p fs → fits_part p fs ≡ true
is-part p fs h = and-both (are-items p fs h.each) (is-section (items_in_part p fs) h.whole)

-- ---- exports

inline-word : (s : Space) (n : ℕ) (xs : List Text) → fits_inline n xs ≡ true → Each WordLong (map (export_item [] s n) xs) → FitsInline n xs
inline-word s n [] e h = tt
inline-word s n (x ∷ xs) e h = (word n (and-left _ _ e), long-framed x (long-left (framed x) (core_sort_byte s ∷ uleb n) h.0), inline-word s n xs (and-right _ _ e) h.1)

is-inline : (n : ℕ) (xs : List Text) → FitsInline n xs → fits_inline n xs ≡ true
is-inline n [] h = refl
is-inline n (x ∷ xs) h = and-both (is-word n h.0) (is-inline n xs h.2)

written-word : (n : Counts) (o : ℕ) (x : Text) (s : Space) (i : c.Index) → Each WordLong (exports_at n (c.export_field o x s i)) → FitsExportsAt n (c.export_field o x s i)
written-word n o x CoreTag i h = tt
written-word n o x CoreFunc i h = long-framed x (long-left (framed x) (core_sort_byte CoreFunc ∷ uleb (index_of [] i)) h.0)
written-word n o x s i h = long-framed x (long-left (framed x) (core_sort_byte s ∷ uleb (index_of [] i)) h.0)

at-word : (n : Counts) (f : Field) → fits_exports_at n f ≡ true → Each WordLong (exports_at n f) → FitsExportsAt n f
at-word n (c.export_field o x s i) e h = written-word n o x s i h
at-word n (c.func_field o m i u ls is) e h = inline-word CoreFunc n.funcs i.exports e h
at-word n (c.table_field o m i l v) e h = inline-word CoreTable n.tables i.exports e h
at-word n (c.memory_field o m i l) e h = inline-word CoreMemory n.memories i.exports e h
at-word n (c.global_field o m i v k is) e h = inline-word CoreGlobal n.globals i.exports e h
at-word n (c.type_field o m d) e h = tt
at-word n (c.import_field o m x k j) e h = tt
at-word n (c.other_field o) e h = tt

is-at : (n : Counts) (f : Field) → FitsExportsAt n f → fits_exports_at n f ≡ true
is-at n (c.func_field o m i u ls is) h = is-inline n.funcs i.exports h
is-at n (c.table_field o m i l v) h = is-inline n.tables i.exports h
is-at n (c.memory_field o m i l) h = is-inline n.memories i.exports h
is-at n (c.global_field o m i v k is) h = is-inline n.globals i.exports h
is-at n (c.export_field o x s i) h = refl
is-at n (c.type_field o m d) h = refl
is-at n (c.import_field o m x k j) h = refl
is-at n (c.other_field o) h = refl

exports-word : (n : Counts) (fs : List Field) → fits_exports n fs ≡ true → Each WordLong (exports_from n fs) → FitsExports n fs
exports-word n [] e h = tt
exports-word n (f ∷ fs) e h =
    let m : Counts = counted_in (declares f) n in
    (at-word n f (and-left _ _ e) (each-left WordLong (exports_at n f) (exports_from m fs) h), exports-word m fs (and-right _ _ e) (each-right WordLong (exports_at n f) (exports_from m fs) h))

are-exports : (n : Counts) (fs : List Field) → FitsExports n fs → fits_exports n fs ≡ true
are-exports n [] h = refl
are-exports n (f ∷ fs) h = and-both (is-at n f h.0) (are-exports (counted_in (declares f) n) fs h.1)

export-section-word : (fs : List Field) → fits_export_section fs ≡ true → FitsExportSection fs
export-section-word fs e =
    let w = section-word (exports_from no_counts fs) (and-right _ _ e) in
    record { each = exports-word no_counts fs (and-left _ _ e) (counted-long (exports_from no_counts fs) w.1); whole = w }

is-export-section : (fs : List Field) → FitsExportSection fs → fits_export_section fs ≡ true
is-export-section fs h = and-both (are-exports no_counts fs h.each) (is-section (exports_from no_counts fs) h.whole)

-- ---- names

named-word : (i : ℕ) (o : Option Text) → fits_named i o ≡ true → Each WordLong (named_at i o) → FitsNamed i o
named-word i None e h = tt
named-word i (Some x) e h = (word i e, long-framed x (long-right (uleb i) (framed x) h.0))

is-named : (i : ℕ) (o : Option Text) → FitsNamed i o → fits_named i o ≡ true
is-named i None h = refl
is-named i (Some x) h = is-word i h.0

names-word : (i : ℕ) (ns : List Naming) → fits_names i ns ≡ true → Each WordLong (names_from i ns) → FitsNamesFrom i ns
names-word i [] e h = tt
names-word i (n ∷ ns) e h = (
  named-word i (name_of n) (and-left _ _ e) (each-left WordLong (named_at i (name_of n)) (names_from (i + 1) ns) h),
  names-word (i + 1) ns (and-right _ _ e) (each-right WordLong (named_at i (name_of n)) (names_from (i + 1) ns) h),
)

are-names : (i : ℕ) (ns : List Naming) → FitsNamesFrom i ns → fits_names i ns ≡ true
are-names i [] h = refl
are-names i (n ∷ ns) h = and-both (is-named i (name_of n) h.0) (are-names (i + 1) ns h.1)

names-in-word : (number : ℕ) (s : Space) (fs : List Field) → fits_places_in s fs ≡ true → WordLong (section number (names_in s fs)) → FitsNamesIn s fs
names-in-word number s fs e h =
    let k = filled-contents number (names_in s fs) (filled_names 0 (map naming_of (items_in s fs))) h in
    record { each = names-word 0 (map naming_of (items_in s fs)) e k.each; whole = k.whole }

-- of the names within a function their count is bounded by their bytes
at-word-within : (i : ℕ) (ns : List (List ℕ)) → fits_locals_at i ns ≡ true → length ns ≤ length (joined ns) → Each WordLong (locals_at i ns) → FitsLocalsAt i ns × Each WordLong ns
at-word-within i [] e few h = (tt, tt)
at-word-within i (n ∷ ns) e few h =
    let w : WordLong (counted (n ∷ ns)) = long-right (uleb i) (counted (n ∷ ns)) h.0 in
    let d = length-append (uleb (length (n ∷ ns))) (joined (n ∷ ns)) in
    ((word i e, omega (arith, w, d, few)), counted-long (n ∷ ns) w)

is-within : (i : ℕ) (ns : List (List ℕ)) → FitsLocalsAt i ns → fits_locals_at i ns ≡ true
is-within i [] h = refl
is-within i (n ∷ ns) h = is-word i h.0

function-word : (counts : List ℕ) (i : ℕ) (u : TypeUse) (ls : List Local) → fits_function counts i u ls ≡ true → Each WordLong (locals_at i (function_names counts u ls)) → FitsFunctionNames counts i u ls
function-word counts i u ls e h =
    let ps : List Naming = written_namings u.signature in
    let ns : List Naming = namings_of ls in
    let first : ℕ = first_local counts u in
    let places : (fits_names 0 ps && fits_names first ns) ≡ true = and-left _ _ e in
    let k = at-word-within i (function_names counts u ls) (and-right _ _ e) (few_names 0 first ps ns) h in
    record {
      params = names-word 0 ps (and-left _ _ places) (each-left WordLong (names_from 0 ps) (names_from first ns) k.1);
      locals = names-word first ns (and-right _ _ places) (each-right WordLong (names_from 0 ps) (names_from first ns) k.1);
      whole = k.0;
    }

is-function : (counts : List ℕ) (i : ℕ) (u : TypeUse) (ls : List Local) → FitsFunctionNames counts i u ls → fits_function counts i u ls ≡ true
is-function counts i u ls h =
    and-both (and-both (are-names 0 (written_namings u.signature) h.params) (are-names (first_local counts u) (namings_of ls) h.locals)) (is-within i (function_names counts u ls) h.whole)

unless-word : (counts : List ℕ) (i : ℕ) (o : Option (Text × Text)) (u : TypeUse) (ls : List Local) → fits_unless_imported o (fits_function counts i u ls) ≡ true
    → Each WordLong (unless_named_import o (locals_at i (function_names counts u ls))) → FitsUnlessImported o (FitsFunctionNames counts i u ls)
unless-word counts i (Some p) u ls e h = tt
unless-word counts i None u ls e h = function-word counts i u ls e h

is-unless : (counts : List ℕ) (i : ℕ) (o : Option (Text × Text)) (u : TypeUse) (ls : List Local) → FitsUnlessImported o (FitsFunctionNames counts i u ls) → fits_unless_imported o (fits_function counts i u ls) ≡ true
is-unless counts i (Some p) u ls h = refl
is-unless counts i None u ls h = is-function counts i u ls h

local-word : (counts : List ℕ) (i : ℕ) (f : Field) → fits_local_items counts i f ≡ true → Each WordLong (local_items counts i f) → FitsLocalItems counts i f
local-word counts i (c.func_field o n l u ls is) e h = unless-word counts i l.imported u ls e h
local-word counts i (c.type_field o n d) e h = tt
local-word counts i _ e h = tt

is-local : (counts : List ℕ) (i : ℕ) (f : Field) → FitsLocalItems counts i f → fits_local_items counts i f ≡ true
is-local counts i (c.func_field o n l u ls is) h = is-unless counts i l.imported u ls h
is-local counts i (c.type_field o n d) h = refl
is-local counts i _ h = refl

locals-word : (counts : List ℕ) (i : ℕ) (fs : List Field) → fits_locals counts i fs ≡ true → Each WordLong (local_items_from counts i fs) → FitsLocalsFrom counts i fs
locals-word counts i [] e h = tt
locals-word counts i (f ∷ fs) e h = (
  local-word counts i f (and-left _ _ e) (each-left WordLong (local_items counts i f) (local_items_from counts (i + 1) fs) h),
  locals-word counts (i + 1) fs (and-right _ _ e) (each-right WordLong (local_items counts i f) (local_items_from counts (i + 1) fs) h),
)

are-locals : (counts : List ℕ) (i : ℕ) (fs : List Field) → FitsLocalsFrom counts i fs → fits_locals counts i fs ≡ true
are-locals counts i [] h = refl
are-locals counts i (f ∷ fs) h = and-both (is-local counts i f h.0) (are-locals counts (i + 1) fs h.1)

local-names-word : (number : ℕ) (fs : List Field) → fits_local_places fs ≡ true → WordLong (section number (local_items_from (param_counts fs) 0 (items_in CoreFunc fs))) → FitsLocalNames fs
local-names-word number fs e h =
    let k = filled-contents number (local_items_from (param_counts fs) 0 (items_in CoreFunc fs)) (filled_locals (param_counts fs) 0 (items_in CoreFunc fs)) h in
    record { each = locals-word (param_counts fs) 0 (items_in CoreFunc fs) e k.each; whole = k.whole }

name-section-word : (n : Naming) (fs : List Field) → fits_name_section n fs ≡ true → FitsNameSection n fs
name-section-word n fs e =
    let w : WordLong (framed section_name ++ subsections_of n fs) = word (length (framed section_name ++ subsections_of n fs)) (and-right _ _ e) in
    let k = each-subsection n fs w in
    let p7 : fits_places fs ≡ true = and-left _ _ e in
    let p6 = and-left _ (fits_places_in CoreGlobal fs) p7 in
    let p5 = and-left _ (fits_places_in CoreMemory fs) p6 in
    let p4 = and-left _ (fits_places_in CoreTable fs) p5 in
    let p2 = and-left _ (fits_places_in CoreType fs) p4 in
    record {
      module_name = name-fits (name_of n) k.module_name;
      funcs = names-in-word 0x01 CoreFunc fs (and-left _ (fits_local_places fs) p2) k.funcs;
      locals = local-names-word 0x02 fs (and-right (fits_places_in CoreFunc fs) _ p2) k.locals;
      types = names-in-word 0x04 CoreType fs (and-right _ (fits_places_in CoreType fs) p4) k.types;
      tables = names-in-word 0x05 CoreTable fs (and-right _ (fits_places_in CoreTable fs) p5) k.tables;
      memories = names-in-word 0x06 CoreMemory fs (and-right _ (fits_places_in CoreMemory fs) p6) k.memories;
      globals = names-in-word 0x07 CoreGlobal fs (and-right _ (fits_places_in CoreGlobal fs) p7) k.globals;
      whole = w;
    }

is-name-section : (n : Naming) (fs : List Field) → FitsNameSection n fs → fits_name_section n fs ≡ true
is-name-section n fs h =
    and-both
    (and-both (and-both (and-both (and-both (and-both
    (are-names 0 (map naming_of (items_in CoreFunc fs)) h.funcs.each)
    (are-locals (param_counts fs) 0 (items_in CoreFunc fs) h.locals.each))
    (are-names 0 (map naming_of (items_in CoreType fs)) h.types.each))
    (are-names 0 (map naming_of (items_in CoreTable fs)) h.tables.each))
    (are-names 0 (map naming_of (items_in CoreMemory fs)) h.memories.each))
    (are-names 0 (map naming_of (items_in CoreGlobal fs)) h.globals.each))
    (is-word (length (framed section_name ++ subsections_of n fs)) h.whole)

-- ---- the module

pub module-word : (n : Naming) (fs : List Field) → fits_module n fs ≡ true → FitsModule n fs
module-word n fs e8 =
    let e7 = and-left _ (fits_name_section n fs) e8 in
    let e6 = and-left _ (fits_part part.Code fs) e7 in
    let e5 = and-left _ (fits_export_section fs) e6 in
    let e4 = and-left _ (fits_part part.Globals fs) e5 in
    let e3 = and-left _ (fits_part part.Memories fs) e4 in
    let e2 = and-left _ (fits_part part.Tables fs) e3 in
    let e1 = and-left _ (fits_part part.Functions fs) e2 in
    record {
      types = part-word part.Types fs (and-left _ (fits_part part.Imports fs) e1);
      imports = part-word part.Imports fs (and-right _ (fits_part part.Imports fs) e1);
      functions = part-word part.Functions fs (and-right _ (fits_part part.Functions fs) e2);
      tables = part-word part.Tables fs (and-right _ (fits_part part.Tables fs) e3);
      memories = part-word part.Memories fs (and-right _ (fits_part part.Memories fs) e4);
      globals = part-word part.Globals fs (and-right _ (fits_part part.Globals fs) e5);
      exports = export-section-word fs (and-right _ (fits_export_section fs) e6);
      code = part-word part.Code fs (and-right _ (fits_part part.Code fs) e7);
      names = name-section-word n fs (and-right _ (fits_name_section n fs) e8);
    }

pub is-module : (n : Naming) (fs : List Field) → FitsModule n fs → fits_module n fs ≡ true
is-module n fs h =
    and-both (and-both (and-both (and-both (and-both (and-both (and-both (and-both
    (is-part part.Types fs h.types)
    (is-part part.Imports fs h.imports))
    (is-part part.Functions fs h.functions))
    (is-part part.Tables fs h.tables))
    (is-part part.Memories fs h.memories))
    (is-part part.Globals fs h.globals))
    (is-export-section fs h.exports))
    (is-part part.Code fs h.code))
    (is-name-section n fs h.names)

pub exact : (n : Naming) (fs : List Field) → (fits_module n fs ≡ true) ↔ FitsModule n fs
exact n fs = (module-word n fs, is-module n fs)
