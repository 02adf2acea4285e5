-- The items of the sections that each field gives by itself fit, where their bytes are a word together and fields hold little.
use Rattle.std.proofs.Common.{ℕ, ◌≤◌, List, [], ◌∷◌, ◌++◌, map, length, Option, Some, None, arith}
use Rattle.comp_model.specs.Core.{Text}
use Rattle.comp_model.specs.Payloads.{framed}
use Rattle.comp_model.specs.CoreModules as c
use Rattle.comp_model.specs.CoreModules.{Local, TypeDef, Entity, Instruction, Field}
use Rattle.core_model.specs.Items.{import_names}
use Rattle.core_model.specs.Types.{defined}
use Rattle.core_model.specs.Bytes.{section, has_bytes, value, type_item, entity_bytes, import_by, import_item}
use Rattle.core_model.proofs.Lists.{Each}
use Rattle.core_write.specs.declared.part.Part.{Part}
use Rattle.core_write.specs.declared.part.Part.TheVariants as part
use Rattle.core_write.specs.Written.{values_of, unless_imported, code_entry, items_of}
use Rattle.core_write.specs.Fits.{FitsDef, FitsPair, FitsCode, FitsItem, FitsItems}
use Rattle.core_write.specs.Module.{items_in_part, FitsPart}
use Rattle.core_fits.proofs.Counted.{WordLong, long-left, long-right, long-framed, each-left, each-right, length-map, length-filter, length-flat, section-contents, runs-fit}
use Rattle.core_fits.proofs.Few.{Small, SmallDef, Few}

-- at most one item of a field

one-type : (d : TypeDef) → length (type_item (defined [] d)) ≤ 1
one-type (c.function t) = omega arith
one-type (c.other_type o) = omega arith

one-import : (p : Option (Text × Text)) (e : Entity) → length (import_by [] p (Some e)) ≤ 1
one-import None e = omega arith
one-import (Some p) e = omega arith

one-defined : (p : Option (Text × Text)) (item : List ℕ) → length (unless_imported p item) ≤ 1
one-defined None item = omega arith
one-defined (Some p) item = omega arith

one-item : (p : Part) (f : Field) → length (items_of p f) ≤ 1
one-item part.Types (c.type_field o n d) = one-type d
one-item part.Imports (c.import_field o m x n e) = omega arith
one-item part.Imports (c.func_field o n i u ls is) = one-import i.imported (c.func u)
one-item part.Imports (c.table_field o n i l v) = one-import i.imported (c.table l v)
one-item part.Imports (c.memory_field o n i l) = one-import i.imported (c.memory l)
one-item part.Imports (c.global_field o n i v m is) = one-import i.imported (c.global v m)
one-item part.Functions (c.func_field o n i u ls is) = one-defined i.imported _
one-item part.Tables (c.table_field o n i l v) = one-defined i.imported _
one-item part.Memories (c.memory_field o n i l) = one-defined i.imported _
one-item part.Globals (c.global_field o n i v m is) = one-defined i.imported _
one-item part.Code (c.func_field o n i u ls is) = one-defined i.imported _
one-item _ _ = omega arith

-- what a field gives

def-fits : (d : TypeDef) → SmallDef d → FitsDef d
def-fits (c.function t) p =
    let a = length-filter has_bytes (map (λ l. value [] l.value) t.params) in
    let d = length-filter has_bytes (map (value []) t.results) in
    let e = length-map (λ l. value [] l.value) t.params in
    let g = length-map (value []) t.results in
    let h = p.0 in
    let k = p.1 in
    (omega (arith, a, e, h), omega (arith, d, g, k))
def-fits (c.other_type o) p = tt

pair-fits : (p : Option (Text × Text)) (e : Entity) → Each WordLong (import_by [] p (Some e)) → FitsPair p
pair-fits None e h = tt
pair-fits (Some p) e h = (
  long-framed p.0 (long-left (framed p.0) (framed p.1 ++ entity_bytes [] e) h.0),
  long-framed p.1 (long-left (framed p.1) (entity_bytes [] e) (long-right (framed p.0) (framed p.1 ++ entity_bytes [] e) h.0)),
)

pub import-fits : (f : Field) → Each WordLong (import_item [] f) → FitsPair (import_names f)
import-fits (c.import_field o m x n e) h = pair-fits (Some (m, x)) e h
import-fits (c.func_field o n i u ls is) h = pair-fits i.imported (c.func u) h
import-fits (c.table_field o n i l v) h = pair-fits i.imported (c.table l v) h
import-fits (c.memory_field o n i l) h = pair-fits i.imported (c.memory l) h
import-fits (c.global_field o n i v m is) h = pair-fits i.imported (c.global v m) h
import-fits (c.type_field o n d) h = tt
import-fits (c.export_field o x s i) h = tt
import-fits (c.other_field o) h = tt

code-fits : (p : Option (Text × Text)) (ls : List Local) (is : List Instruction) → Small (length ls) → Each WordLong (unless_imported p (framed (code_entry ls is))) → FitsCode p ls is
code-fits (Some p) ls is w h = tt
code-fits None ls is w h =
    let a = length-filter has_bytes (map (λ l. value [] l.value) ls) in
    let e = length-map (λ l. value [] l.value) ls in
    let r = runs-fit (values_of ls) (omega (arith, a, e, w)) in
    (r.0, r.1, long-framed (code_entry ls is) h.0)

item-fits : (p : Part) (f : Field) → Few f → Each WordLong (items_of p f) → FitsItem p f
item-fits part.Types (c.type_field o n d) w h = def-fits d w
item-fits part.Types _ w h = tt
item-fits part.Imports f w h = import-fits f h
item-fits part.Code (c.func_field o n i u ls is) w h = code-fits i.imported ls is w.1 h
item-fits part.Code _ w h = tt
item-fits _ f w h = tt

items-fit : (p : Part) (fs : List Field) → Each Few fs → Each WordLong (items_in_part p fs) → FitsItems p fs
items-fit p [] w h = tt
items-fit p (f ∷ fs) w h =
    (item-fits p f w.0 (each-left WordLong (items_of p f) (items_in_part p fs) h), items-fit p fs w.1 (each-right WordLong (items_of p f) (items_in_part p fs) h))

pub part-fits : (p : Part) (number : ℕ) (fs : List Field) → Small (length fs) → Each Few fs → WordLong (section number (items_in_part p fs)) → FitsPart p fs
part-fits p number fs few w h =
    let n = length-flat (items_of p) (one-item p) fs in
    let k = section-contents number (items_in_part p fs) (omega (arith, n, few)) h in
    record { each = items-fit p fs w k.each; whole = k.whole }
