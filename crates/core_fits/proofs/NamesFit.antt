-- The name section fits, where its bytes are a word and fields hold little.
use Rattle.std.proofs.Common.{ℕ, ◌+◌, ◌<◌, ◌≤◌, ◌^◌, List, [], ◌∷◌, ◌++◌, map, length, Option, Some, None, arith, length-append}
use Rattle.comp_model.specs.declared.Space.{Space}
use Rattle.comp_model.specs.declared.Space.TheVariants.{CoreFunc, CoreTable, CoreMemory, CoreGlobal, CoreType}
use Rattle.comp_model.specs.Core.{Text}
use Rattle.comp_model.specs.Leb.{uleb}
use Rattle.comp_model.specs.Payloads.{framed}
use Rattle.comp_model.specs.CoreModules as c
use Rattle.comp_model.specs.CoreModules.{Naming, Local, FunctionType, TypeUse, Field}
use Rattle.core_model.specs.Items.{naming_of, declares, is_space, items_in}
use Rattle.core_model.specs.Types.{type_of_use}
use Rattle.core_model.specs.Words.{Word}
use Rattle.core_model.specs.Bytes.{counted, section}
use Rattle.core_model.specs.NameSection.{name_of, named_at, names_from, names_in, locals_at, module_name, section_name, custom}
use Rattle.core_model.proofs.Lists.{Each}
use Rattle.core_model.proofs.Sums.{framed-bound}
use Rattle.core_write.specs.NamesWritten.{param_counts, first_behind, first_local, namings_of, written_namings, function_names, unless_named_import, local_items, local_items_from, subsections_of, FitsNamed, FitsNamesFrom, FitsLocalsAt, FitsFunctionNames, FitsUnlessImported, FitsLocalItems, FitsLocalsFrom, FitsModuleName, FitsNamesIn, FitsLocalNames, FitsNameSection}
use Rattle.core_fits.proofs.Counted.{WordLong, long-left, long-right, long-tail, long-framed, each-left, each-right, each-filter, length-map, length-filter, get-within, counted-long, section-contents}
use Rattle.core_fits.proofs.Few.{Small, SmallSignature, Few, counts-small}

-- names by their places

one-name : (i : ℕ) (o : Option Text) → length (named_at i o) ≤ 1
one-name i None = omega arith
one-name i (Some x) = omega arith

count-names : (i : ℕ) (ns : List Naming) → length (names_from i ns) ≤ length ns
count-names i [] = omega arith
count-names i (n ∷ ns) =
    let e = count-names (i + 1) ns in
    let h = one-name i (name_of n) in
    let d = length-append (named_at i (name_of n)) (names_from (i + 1) ns) in
    omega (arith, e, h, d)

named-fits : (i : ℕ) (o : Option Text) → Word i → Each WordLong (named_at i o) → FitsNamed i o
named-fits i None w h = tt
named-fits i (Some x) w h = (w, long-framed x (long-right (uleb i) (framed x) h.0))

from-fits : (i : ℕ) (ns : List Naming) → i + length ns < 2 ^ 32 → Each WordLong (names_from i ns) → FitsNamesFrom i ns
from-fits i [] w h = tt
from-fits i (n ∷ ns) w h = (
  named-fits i (name_of n) (omega (arith, w)) (each-left WordLong (named_at i (name_of n)) (names_from (i + 1) ns) h),
  from-fits (i + 1) ns (omega (arith, w)) (each-right WordLong (named_at i (name_of n)) (names_from (i + 1) ns) h),
)

names-fit : (number : ℕ) (s : Space) (fs : List Field) → Small (length fs) → WordLong (section number (names_in s fs)) → FitsNamesIn s fs
names-fit number s fs few h =
    let a = length-map naming_of (items_in s fs) in
    let d = length-filter (λ f. is_space s (declares f)) fs in
    let e = count-names 0 (map naming_of (items_in s fs)) in
    let k = section-contents number (names_in s fs) (omega (arith, a, d, e, few)) h in
    record { each = from-fits 0 (map naming_of (items_in s fs)) (omega (arith, a, d, few)) k.each; whole = k.whole }

-- names within functions

at-long : (i : ℕ) (ns : List (List ℕ)) → Each WordLong (locals_at i ns) → Each WordLong ns
at-long i [] h = tt
at-long i (n ∷ ns) h = counted-long (n ∷ ns) (long-right (uleb i) (counted (n ∷ ns)) h.0)

at-fits : (i : ℕ) (ns : List (List ℕ)) → Word i → Word (length ns) → FitsLocalsAt i ns
at-fits i [] w l = tt
at-fits i (n ∷ ns) w l = (w, l)

first-small : (counts : List ℕ) (i : ℕ) (t : Option FunctionType) → Each Small counts → SmallSignature t → Small (first_behind counts i t)
first-small counts i None p q = get-within (2 ^ 30) counts i p
first-small counts i (Some t) p q = q

params-small : (t : Option FunctionType) → SmallSignature t → Small (length (written_namings t))
params-small None p = omega arith
params-small (Some t) p = let e = length-map (λ l. l.naming) t.params in omega (arith, e, p)

function-fits : (counts : List ℕ) (i : ℕ) (u : TypeUse) (ls : List Local) → Word i → Each Small counts → SmallSignature u.signature → Small (length ls)
    → Each WordLong (function_names counts u ls) → FitsFunctionNames counts i u ls
function-fits counts i u ls w p q l h =
    let first = first_local counts u in
    let a : Small first = first-small counts (type_of_use [] u) u.signature p q in
    let b = params-small u.signature q in
    let d = length-map (λ l. l.naming) ls in
    let m = count-names 0 (written_namings u.signature) in
    let k = count-names first (namings_of ls) in
    let e = length-append (names_from 0 (written_namings u.signature)) (names_from first (namings_of ls)) in
    record {
      params = from-fits 0 (written_namings u.signature) (omega (arith, b)) (each-left WordLong (names_from 0 (written_namings u.signature)) (names_from first (namings_of ls)) h);
      locals = from-fits first (namings_of ls) (omega (arith, a, d, l)) (each-right WordLong (names_from 0 (written_namings u.signature)) (names_from first (namings_of ls)) h);
      whole = at-fits i (function_names counts u ls) w (omega (arith, b, d, l, m, k, e));
    }

unless-fits : (counts : List ℕ) (i : ℕ) (o : Option (Text × Text)) (u : TypeUse) (ls : List Local) → Word i → Each Small counts → SmallSignature u.signature → Small (length ls)
    → Each WordLong (unless_named_import o (locals_at i (function_names counts u ls))) → FitsUnlessImported o (FitsFunctionNames counts i u ls)
unless-fits counts i (Some p) u ls w q s l h = tt
unless-fits counts i None u ls w q s l h = function-fits counts i u ls w q s l (at-long i (function_names counts u ls) h)

item-fits : (counts : List ℕ) (i : ℕ) (f : Field) → Word i → Each Small counts → Few f → Each WordLong (local_items counts i f) → FitsLocalItems counts i f
item-fits counts i (c.func_field o n l u ls is) w p q h = unless-fits counts i l.imported u ls w p q.0 q.1 h
item-fits counts i (c.type_field o n d) w p q h = tt
item-fits counts i _ w p q h = tt

one-at : (i : ℕ) (ns : List (List ℕ)) → length (locals_at i ns) ≤ 1
one-at i [] = omega arith
one-at i (n ∷ ns) = omega arith

one-unless : (o : Option (Text × Text)) (items : List (List ℕ)) → length items ≤ 1 → length (unless_named_import o items) ≤ 1
one-unless None items h = h
one-unless (Some p) items h = omega arith

one-item : (counts : List ℕ) (i : ℕ) (f : Field) → length (local_items counts i f) ≤ 1
one-item counts i (c.func_field o n l u ls is) = one-unless l.imported (locals_at i (function_names counts u ls)) (one-at i (function_names counts u ls))
one-item counts i (c.type_field o n d) = omega arith
one-item counts i _ = omega arith

count-locals : (counts : List ℕ) (i : ℕ) (fs : List Field) → length (local_items_from counts i fs) ≤ length fs
count-locals counts i [] = omega arith
count-locals counts i (f ∷ fs) =
    let e = count-locals counts (i + 1) fs in
    let h = one-item counts i f in
    let d = length-append (local_items counts i f) (local_items_from counts (i + 1) fs) in
    omega (arith, e, h, d)

locals-from-fit : (counts : List ℕ) (i : ℕ) (fs : List Field) → i + length fs < 2 ^ 32 → Each Small counts → Each Few fs → Each WordLong (local_items_from counts i fs) → FitsLocalsFrom counts i fs
locals-from-fit counts i [] w p q h = tt
locals-from-fit counts i (f ∷ fs) w p q h = (
  item-fits counts i f (omega (arith, w)) p q.0 (each-left WordLong (local_items counts i f) (local_items_from counts (i + 1) fs) h),
  locals-from-fit counts (i + 1) fs (omega (arith, w)) p q.1 (each-right WordLong (local_items counts i f) (local_items_from counts (i + 1) fs) h),
)

locals-fit : (number : ℕ) (fs : List Field) → Small (length fs) → Each Few fs → WordLong (section number (local_items_from (param_counts fs) 0 (items_in CoreFunc fs))) → FitsLocalNames fs
locals-fit number fs few q h =
    let items : List Field = items_in CoreFunc fs in
    let d = length-filter (λ f. is_space CoreFunc (declares f)) fs in
    let e = count-locals (param_counts fs) 0 items in
    let k = section-contents number (local_items_from (param_counts fs) 0 items) (omega (arith, d, e, few)) h in
    record { each = locals-from-fit (param_counts fs) 0 items (omega (arith, d, few)) (counts-small fs q) (each-filter Few (λ f. is_space CoreFunc (declares f)) fs q) k.each; whole = k.whole }

-- the whole

pub name-fits : (o : Option Text) → WordLong (module_name o) → FitsModuleName o
name-fits None h = tt
name-fits (Some x) h =
    let w : WordLong (framed x) = long-framed (framed x) (long-tail 0x00 (framed (framed x)) h) in
    (long-framed x w, w)

custom-fits : (bytes : List ℕ) → WordLong (custom bytes) → WordLong (framed section_name ++ bytes)
custom-fits [] h = let e = framed-bound section_name (omega arith) in let d = length-append (framed section_name) [] in omega (arith, e, d)
custom-fits (b ∷ bytes) h = long-framed (framed section_name ++ b ∷ bytes) (long-tail 0x00 (framed (framed section_name ++ b ∷ bytes)) h)

-- of subsections that are a word together, each is
pub record EachSubsection (n : Naming) (fs : List Field) : Type 0 where
  pub module_name : WordLong (module_name (name_of n))
  pub funcs : WordLong (section 0x01 (names_in CoreFunc fs))
  pub locals : WordLong (section 0x02 (local_items_from (param_counts fs) 0 (items_in CoreFunc fs)))
  pub types : WordLong (section 0x04 (names_in CoreType fs))
  pub tables : WordLong (section 0x05 (names_in CoreTable fs))
  pub memories : WordLong (section 0x06 (names_in CoreMemory fs))
  pub globals : WordLong (section 0x07 (names_in CoreGlobal fs))

pub each-subsection : (n : Naming) (fs : List Field) → WordLong (framed section_name ++ subsections_of n fs) → EachSubsection n fs
each-subsection n fs w =
    let s0 : List ℕ = module_name (name_of n) in
    let s1 : List ℕ = section 0x01 (names_in CoreFunc fs) in
    let s2 : List ℕ = section 0x02 (local_items_from (param_counts fs) 0 (items_in CoreFunc fs)) in
    let s4 : List ℕ = section 0x04 (names_in CoreType fs) in
    let s5 : List ℕ = section 0x05 (names_in CoreTable fs) in
    let s6 : List ℕ = section 0x06 (names_in CoreMemory fs) in
    let s7 : List ℕ = section 0x07 (names_in CoreGlobal fs) in
    let w7 : WordLong (s0 ++ s1 ++ s2 ++ s4 ++ s5 ++ s6 ++ s7) = long-right (framed section_name) (subsections_of n fs) w in
    let w6 : WordLong (s0 ++ s1 ++ s2 ++ s4 ++ s5 ++ s6) = long-left (s0 ++ s1 ++ s2 ++ s4 ++ s5 ++ s6) s7 w7 in
    let w5 : WordLong (s0 ++ s1 ++ s2 ++ s4 ++ s5) = long-left (s0 ++ s1 ++ s2 ++ s4 ++ s5) s6 w6 in
    let w4 : WordLong (s0 ++ s1 ++ s2 ++ s4) = long-left (s0 ++ s1 ++ s2 ++ s4) s5 w5 in
    let w2 : WordLong (s0 ++ s1 ++ s2) = long-left (s0 ++ s1 ++ s2) s4 w4 in
    let w1 : WordLong (s0 ++ s1) = long-left (s0 ++ s1) s2 w2 in
    record {
      module_name = long-left s0 s1 w1;
      funcs = long-right s0 s1 w1;
      locals = long-right (s0 ++ s1) s2 w2;
      types = long-right (s0 ++ s1 ++ s2) s4 w4;
      tables = long-right (s0 ++ s1 ++ s2 ++ s4) s5 w5;
      memories = long-right (s0 ++ s1 ++ s2 ++ s4 ++ s5) s6 w6;
      globals = long-right (s0 ++ s1 ++ s2 ++ s4 ++ s5 ++ s6) s7 w7;
    }

pub name-section-fits : (n : Naming) (fs : List Field) → Small (length fs) → Each Few fs → WordLong (custom (subsections_of n fs)) → FitsNameSection n fs
name-section-fits n fs few q h =
    let w : WordLong (framed section_name ++ subsections_of n fs) = custom-fits (subsections_of n fs) h in
    let k = each-subsection n fs w in
    record {
      module_name = name-fits (name_of n) k.module_name;
      funcs = names-fit 0x01 CoreFunc fs few k.funcs;
      locals = locals-fit 0x02 fs few q k.locals;
      types = names-fit 0x04 CoreType fs few k.types;
      tables = names-fit 0x05 CoreTable fs few k.tables;
      memories = names-fit 0x06 CoreMemory fs few k.memories;
      globals = names-fit 0x07 CoreGlobal fs few k.globals;
      whole = w;
    }
