-- The sizes of names of items, parameters and locals.
use Rattle.std.proofs.Common.{◌≡◌, ◌≢◌, ℕ, ◌+◌, ◌/◌, ◌<◌, ◌≤◌, ◌^◌, Bool, true, cond, ◌&&◌, List, [], ◌∷◌, ◌++◌, length, Option, Some, None, length-append, ap, sym, ◌∙◌, arith}
use Rattle.std.proofs.Math.Bool.{and-true}
use Rattle.comp_model.specs.declared.Space.{Space}
use Rattle.comp_model.specs.Core.{Text}
use Rattle.comp_model.specs.Leb.{uleb}
use Rattle.comp_model.specs.Payloads.{framed, joined}
use Rattle.comp_wire.specs.Fits.{is_word}
use Rattle.comp_wire.proofs.Numbers.{length_one, length_more, some_bytes}
use Rattle.comp_model.specs.CoreModules.{Naming, Field}
use Rattle.core_model.specs.Items.{is_space, declares, items_in}
use Rattle.core_model.specs.Bytes.{counted}
use Rattle.core_model.specs.NameSection.{name_of, named_at, names_from, locals_at}
use Rattle.core_model.proofs.Lists.{Each, each-append}
use Rattle.core_syntax.specs.Measures.{capped}
use Rattle.core_fits.specs.declared.size.Size.{Size}
use Rattle.core_fits.specs.Sizes.{IsSize}
use Rattle.core_fits.specs.Tests.{fits_named, fits_names, fits_locals_at}
use Rattle.core_fits.proofs.Counted.{Filled, filled-count}
use Rattle.leb_lengths.proofs.Lengths.{word-capped}
use Rattle.core_fits.proofs.Sizes.{counted_size}

-- a number of 65 bits has ten bytes where it has more than 64
pub ten_bytes : (n : ℕ) → 2 ^ 64 ≤ n → n < 2 ^ 65 → 10 ≡ length (uleb n)
ten_bytes n h k = sym
    (length_more n 9 (omega arith) (length_more (n / 128) 8 (omega arith) (length_more (n / 128 / 128) 7 (omega arith) (length_more (n / 128 / 128 / 128) 6 (omega arith)
    (length_more (n / 128 / 128 / 128 / 128) 5 (omega arith) (length_more (n / 128 / 128 / 128 / 128 / 128) 4 (omega arith) (length_more (n / 128 / 128 / 128 / 128 / 128 / 128) 3 (omega arith)
    (length_more (n / 128 / 128 / 128 / 128 / 128 / 128 / 128) 2 (omega arith) (length_more (n / 128 / 128 / 128 / 128 / 128 / 128 / 128 / 128) 1 (omega arith)
    (length_one (n / 128 / 128 / 128 / 128 / 128 / 128 / 128 / 128 / 128) (omega arith)))))))))))

pub name_sized : (size : Size) (i k t index : ℕ) (x : Text) → k ≡ length (uleb i) → t ≡ capped (length (framed x)) → index ≡ capped i
    → size.count ≡ 1 → size.bytes ≡ capped (k + t) → size.fits ≡ is_word index → IsSize size (named_at i (Some x)) (fits_named i (Some x))
name_sized size i k t index x a b e n m f = record {
  count = n;
  bytes = let d = length-append (uleb i) (framed x) in let g = length-append (uleb i ++ framed x) [] in omega (arith, a, b, m, d, g);
  fits = f ∙ ap is_word e ∙ word-capped i;
}

-- one name more
module _ (first place : ℕ) (n : Naming) (ns : List Naming) (x : Option Text) (is : x ≡ name_of n) where
  next : first + place + 1 ≡ first + (place + 1)
  next = omega arith

  pub names_first : names_from (first + place) (n ∷ ns) ≡ named_at (first + place) x ++ names_from (first + (place + 1)) ns
  names_first = ap (λ y. named_at (first + place) y ++ names_from (first + place + 1) ns) (sym is) ∙ ap (λ j. named_at (first + place) x ++ names_from j ns) next

  pub fits_first : fits_names (first + place) (n ∷ ns) ≡ (fits_named (first + place) x && fits_names (first + (place + 1)) ns)
  fits_first = ap (λ y. fits_named (first + place) y && fits_names (first + place + 1) ns) (sym is) ∙ ap (λ j. fits_named (first + place) x && fits_names j ns) next

-- items of a space
pub item_here : (s : Space) (f : Field) (fs : List Field) → is_space s (declares f) ≡ true → items_in s (f ∷ fs) ≡ f ∷ items_in s fs
item_here s f fs e = ap (λ b. cond b (f ∷ items_in s fs) (items_in s fs)) e

-- names are not empty

filled_named : (i : ℕ) (o : Option Text) → Each Filled (named_at i o)
filled_named i None = tt
filled_named i (Some x) = (let e = some_bytes i in let d = length-append (uleb i) (framed x) in omega (arith, e, d), tt)

pub filled_names : (i : ℕ) (ns : List Naming) → Each Filled (names_from i ns)
filled_names i [] = tt
filled_names i (n ∷ ns) = each-append Filled (named_at i (name_of n)) (names_from (i + 1) ns) (filled_named i (name_of n)) (filled_names (i + 1) ns)

pub few_names : (i j : ℕ) (ms ns : List Naming) → length (names_from i ms ++ names_from j ns) ≤ length (joined (names_from i ms ++ names_from j ns))
few_names i j ms ns = filled-count (names_from i ms ++ names_from j ns) (each-append Filled (names_from i ms) (names_from j ns) (filled_names i ms) (filled_names j ns))

pub few_item_names : (ns : List Naming) → length (names_from 0 ns) ≤ length (joined (names_from 0 ns))
few_item_names ns = filled-count (names_from 0 ns) (filled_names 0 ns)

-- the names within a function

pub within_none : (names : Size) (i : ℕ) (items : List (List ℕ)) (holds : Bool) → IsSize names items holds → names.count ≡ 0 → IsSize names (locals_at i items) (holds && fits_locals_at i items)
within_none names i [] holds h e = record { count = h.count; bytes = h.bytes; fits = h.fits ∙ sym (and-true holds) }
within_none names i (x ∷ xs) holds h e = let c = h.count in absurd (omega (arith, c, e))

pub within_some : (names size : Size) (i k m : ℕ) (w : Bool) (items : List (List ℕ)) (holds : Bool) → IsSize names items holds → length items ≤ length (joined items) → names.count ≢ 0
    → k ≡ length (uleb i) → m ≡ capped (length (uleb names.count) + names.bytes) → w ≡ is_word i
    → size.count ≡ 1 → size.bytes ≡ capped (k + m) → size.fits ≡ (names.fits && w) → IsSize size (locals_at i items) (holds && fits_locals_at i items)
within_some names size i k m w [] holds h few some a b e n g f = absurd (some h.count)
within_some names size i k m w (x ∷ xs) holds h few some a b e n g f =
    let c = counted_size names (x ∷ xs) holds h few in
    let d = length-append (uleb i) (counted (x ∷ xs)) in
    let z = length-append (uleb i ++ counted (x ∷ xs)) [] in
    record { count = n; bytes = omega (arith, a, b, g, c, d, z); fits = f ∙ ap (λ y. y && w) h.fits ∙ ap (λ y. holds && y) e }
