-- The sizes of subsections, one behind the other, and of the name section.
use Rattle.std.proofs.Common.{◌≡◌, ◌≢◌, ℕ, ◌+◌, ◌≤◌, Bool, true, ◌&&◌, List, [], ◌∷◌, ◌++◌, length, Option, Some, None, length-append, ap, ◌∙◌, arith}
use Rattle.comp_model.specs.Core.{Text}
use Rattle.comp_model.specs.Leb.{uleb}
use Rattle.comp_model.specs.Payloads.{framed, joined}
use Rattle.comp_wire.specs.Fits.{is_word}
use Rattle.comp_wire.proofs.Numbers.{length_one, some_bytes}
use Rattle.comp_model.specs.CoreModules.{Field}
use Rattle.comp_model.specs.CoreModules as c
use Rattle.core_model.specs.Bytes.{counted, section}
use Rattle.core_model.specs.NameSection.{module_name, section_name, locals_at}
use Rattle.core_model.proofs.Lists.{Each, each-append}
use Rattle.core_syntax.specs.Measures.{capped}
use Rattle.core_write.specs.NamesWritten.{function_names, unless_named_import, local_items, local_items_from}
use Rattle.core_fits.specs.declared.size.Size.{Size}
use Rattle.core_fits.specs.Sizes.{IsSize, IsLong}
use Rattle.core_fits.proofs.Counted.{Filled, filled-count}
use Rattle.leb_lengths.proofs.Lengths.{framed-capped, word-capped}
use Rattle.core_fits.proofs.Sizes.{counted_size}

pub long_both : (one two both : Size) (xs ys : List ℕ) (p q : Bool) → IsLong one xs p → IsLong two ys q
    → both.bytes ≡ capped (one.bytes + two.bytes) → both.fits ≡ (one.fits && two.fits) → IsLong both (xs ++ ys) (p && q)
long_both one two both xs ys p q a d b f =
    let c = length-append xs ys in
    record { bytes_long = let k = a.bytes_long in let m = d.bytes_long in omega (arith, b, k, m, c); fits = f ∙ ap (λ x. x && two.fits) a.fits ∙ ap (λ y. p && y) d.fits }

pub subsection_none : (size : Size) (n : ℕ) (all : List (List ℕ)) (holds : Bool) → IsSize size all holds → size.count ≡ 0 → IsLong size (section n all) holds
subsection_none size n [] holds h e = record { bytes_long = h.bytes; fits = h.fits }
subsection_none size n (x ∷ xs) holds h e = let k = h.count in absurd (omega (arith, k, e))

pub subsection_some : (items size : Size) (n k m : ℕ) (all : List (List ℕ)) (holds : Bool) → IsSize items all holds → length all ≤ length (joined all) → items.count ≢ 0
    → k ≡ capped (length (uleb items.count) + items.bytes) → m ≡ capped (length (uleb k) + k) → size.bytes ≡ capped (1 + m) → size.fits ≡ items.fits → IsLong size (section n all) holds
subsection_some items size n k m [] holds h few some a b e f = absurd (some h.count)
subsection_some items size n k m (x ∷ xs) holds h few some a b e f =
    let whole : k ≡ capped (length (counted (x ∷ xs))) = a ∙ counted_size items (x ∷ xs) holds h few in
    let p = ap (λ j. capped (length (uleb j) + j)) whole in
    let q = framed-capped (length (counted (x ∷ xs))) in
    let d = length-append (uleb (length (counted (x ∷ xs)))) (counted (x ∷ xs)) in
    record { bytes_long = omega (arith, b, e, p, q, d); fits = f ∙ h.fits }

pub module_name_sized : (size : Size) (t m : ℕ) (x : Text) → t ≡ capped (length (framed x)) → m ≡ capped (length (uleb t) + t) → size.bytes ≡ capped (1 + m) → size.fits ≡ true → IsLong size (module_name (Some x)) true
module_name_sized size t m x a b e f =
    let p = ap (λ j. capped (length (uleb j) + j)) a in
    let q = framed-capped (length (framed x)) in
    let d = length-append (uleb (length (framed x))) (framed x) in
    record { bytes_long = omega (arith, b, e, p, q, d); fits = f }

-- no entry of a function is empty

filled_at : (i : ℕ) (ns : List (List ℕ)) → Each Filled (locals_at i ns)
filled_at i [] = tt
filled_at i (n ∷ ns) = (let e = some_bytes i in let d = length-append (uleb i) (counted (n ∷ ns)) in omega (arith, e, d), tt)

filled_unless : (o : Option (Text × Text)) (items : List (List ℕ)) → Each Filled items → Each Filled (unless_named_import o items)
filled_unless None items p = p
filled_unless (Some x) items p = tt

filled_local : (counts : List ℕ) (i : ℕ) (f : Field) → Each Filled (local_items counts i f)
filled_local counts i (c.func_field o n l u ls is) = filled_unless l.imported (locals_at i (function_names counts u ls)) (filled_at i (function_names counts u ls))
filled_local counts i (c.type_field o n d) = tt
filled_local counts i _ = tt

pub filled_locals : (counts : List ℕ) (i : ℕ) (fs : List Field) → Each Filled (local_items_from counts i fs)
filled_locals counts i [] = tt
filled_locals counts i (f ∷ fs) = each-append Filled (local_items counts i f) (local_items_from counts (i + 1) fs) (filled_local counts i f) (filled_locals counts (i + 1) fs)

pub few_locals : (counts : List ℕ) (i : ℕ) (fs : List Field) → length (local_items_from counts i fs) ≤ length (joined (local_items_from counts i fs))
few_locals counts i fs = filled-count (local_items_from counts i fs) (filled_locals counts i fs)

-- the name of the section takes five bytes
name_long : length (framed section_name) ≡ 5
name_long = let e = length_one 4 (omega arith) in let d = length-append (uleb 4) section_name in omega (arith, e, d)

pub names_sized : (names : Size) (bytes : List ℕ) (holds answer : Bool) (total : ℕ) → IsLong names bytes holds → total ≡ capped (5 + names.bytes)
    → answer ≡ (names.fits && is_word total) → answer ≡ (holds && is_word (length (framed section_name ++ bytes)))
names_sized names bytes holds answer total h t e =
    let d = length-append (framed section_name) bytes in
    let k = name_long in
    let b = h.bytes_long in
    let same : total ≡ capped (length (framed section_name ++ bytes)) = omega (arith, t, d, k, b) in
    e ∙ ap (λ x. x && is_word total) h.fits ∙ ap (λ w. holds && w) (ap is_word same ∙ word-capped (length (framed section_name ++ bytes)))
