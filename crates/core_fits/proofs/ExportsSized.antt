-- The sizes of exports.
use Rattle.std.proofs.Common.{◌≡◌, ◌≢◌, ℕ, ◌+◌, true, [], ◌∷◌, length, length-append, refl, arith}
use Rattle.comp_model.specs.declared.Space.{Space}
use Rattle.comp_model.specs.Core.{Text}
use Rattle.comp_model.specs.Leb.{uleb}
use Rattle.comp_model.specs.Payloads.{framed, core_sort_byte}
use Rattle.core_model.specs.Bytes.{export_item}
use Rattle.core_model.specs.Items.{index_of}
use Rattle.comp_model.specs.CoreModules as c
use Rattle.comp_model.specs.CoreModules.{Index}
use Rattle.core_syntax.specs.declared.items.ExportKind.{ExportKind}
use Rattle.core_syntax.specs.declared.items.ExportKind.TheVariants as kind
use Rattle.core_syntax.specs.Fields.{space_of}
use Rattle.core_syntax.specs.Measures.{capped}
use Rattle.core_write.specs.declared.counts.Counts.{Counts}
use Rattle.core_write.specs.Exports.{exports_at}
use Rattle.core_fits.specs.declared.size.Size.{Size}
use Rattle.core_fits.specs.Sizes.{IsSize}
use Rattle.core_fits.proofs.Sizes.{size_one}

pub export_long : (s : Space) (i k m x total : ℕ) (name : Text) → x ≡ capped (length (framed name)) → k ≡ length (uleb i) → m ≡ capped (1 + k) → total ≡ capped (x + m) → total ≡ capped (length (export_item [] s i name))
export_long s i k m x total name a b g e = let d = length-append (framed name) (core_sort_byte s ∷ uleb i) in omega (arith, a, b, g, e, d)

-- an export that isn't of a tag
pub written_other : (size : Size) (n : Counts) (o : ℕ) (x : Text) (k : ExportKind) (i : Index) → k ≢ kind.Tag → size.count ≡ 1
    → ((s : Space) → size.bytes ≡ capped (length (export_item [] s (index_of [] i) x))) → size.fits ≡ true → IsSize size (exports_at n (c.export_field o x (space_of k) i)) true
written_other size n o x kind.Func i e a b f = size_one size _ true a (b (space_of kind.Func)) f
written_other size n o x kind.Table i e a b f = size_one size _ true a (b (space_of kind.Table)) f
written_other size n o x kind.Memory i e a b f = size_one size _ true a (b (space_of kind.Memory)) f
written_other size n o x kind.Global i e a b f = size_one size _ true a (b (space_of kind.Global)) f
written_other size n o x kind.Tag i e a b f = absurd (e refl)
