-- The row of an option is one of ten.
use Rattle.std.proofs.Common.{◌≡◌, true, List, [], ◌∷◌, inl, inr}
use Rattle.comp_model.specs.declared.row.Row.{Row}
use Rattle.comp_model.specs.declared.row.Row.TheVariants as rows
use Rattle.comp_model.specs.RowNumbers.{is_row, same_row}
use Rattle.comp_model.specs.Rows.{options}
use Rattle.comp_model.proofs.Tests.{same_row-true}
use Rattle.wast_grammar.proofs.Moves.{or_true}

-- where it isn't the first of some, it is one of the rest
rest : (t u : Row) (us : List Row) → is_row t (u ∷ us) ≡ true → (t ≡ u → ⊥) → is_row t us ≡ true
rest t u us h apart = elim (or_true (same_row t u) (is_row t us) h) [ inl e ↦ absurd (apart (same_row-true t u e)) | inr e ↦ e ]

none : (t : Row) → is_row t [] ≡ true → ⊥
none t h = absurd (cc)

pub only_options : (t : Row) → is_row t options ≡ true → (t ≡ rows.OptionUtf8 → ⊥) → (t ≡ rows.OptionUtf16 → ⊥) → (t ≡ rows.OptionLatin1Utf16 → ⊥) → (t ≡ rows.OptionMemory → ⊥) → (t ≡ rows.OptionRealloc → ⊥)
    → (t ≡ rows.OptionPostReturn → ⊥) → (t ≡ rows.OptionAsync → ⊥) → (t ≡ rows.OptionCallback → ⊥) → (t ≡ rows.OptionGc → ⊥) → (t ≡ rows.OptionCoreType → ⊥) → ⊥
only_options t h a b c d e f g i j k =
    let l9 : List Row = rows.OptionCoreType ∷ [] in
    let l8 : List Row = rows.OptionGc ∷ l9 in
    let l7 : List Row = rows.OptionCallback ∷ l8 in
    let l6 : List Row = rows.OptionAsync ∷ l7 in
    let l5 : List Row = rows.OptionPostReturn ∷ l6 in
    let l4 : List Row = rows.OptionRealloc ∷ l5 in
    let l3 : List Row = rows.OptionMemory ∷ l4 in
    let l2 : List Row = rows.OptionLatin1Utf16 ∷ l3 in
    let l1 : List Row = rows.OptionUtf16 ∷ l2 in
    none t (rest t rows.OptionCoreType [] (rest t rows.OptionGc l9 (rest t rows.OptionCallback l8 (rest t rows.OptionAsync l7 (rest t rows.OptionPostReturn l6 (rest t rows.OptionRealloc l5 (rest t rows.OptionMemory l4 (rest t rows.OptionLatin1Utf16 l3 (rest t rows.OptionUtf16 l2 (rest t rows.OptionUtf8 l1 h a) b) c) d) e) f) g) i) j) k)
