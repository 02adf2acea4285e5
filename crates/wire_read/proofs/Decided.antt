-- The first bytes of a row decide which it is: line by line of the table.
use Rattle.std.proofs.Common.{◌≡◌, ℕ, zero, suc, ◌≤◌, List, [], ◌∷◌, ◌++◌, refl, sym, ◌∙◌, ap, subst, arith, ◌-◌, Bool, true, false, ◌⊎◌, inl, inr, Option, Some, None, append_assoc, append-nil, if◌then◌else◌}
use Rattle.comp_model.specs.declared.Space.{Space}
use Rattle.comp_model.specs.declared.Space.TheVariants.{CoreFunc}
use Rattle.comp_model.specs.declared.row.Row.TheVariants as rows
use Rattle.comp_model.specs.declared.row.Row.{Row}
use Rattle.comp_model.specs.RowNumbers.{row_number, all_rows, row_in, row_in-number, same_row}
use Rattle.comp_model.specs.Payloads.{sort_bytes}
use Rattle.comp_model.specs.Model as m
use Rattle.comp_model.specs.Model.{Leaf, Leaves, row}
use Rattle.std.proofs.lemmas.Bool.{eqb-true}
use Rattle.comp_wire.specs.Table as t
use Rattle.comp_wire.specs.Table.{Family, Field, Line, lines}
use Rattle.comp_wire.specs.Spelled.{spell_leaf, spell_leaves, spelled_at, outer_bytes, assemble, spell_line, spell_node, find, fits_leaves, fits_at, FitsLeaf, FitsOuter, FitsPieces, FitsLine, FitsNode, IsPrimitive}
use Rattle.wire_read.specs.RowAt.{row_at}
use Rattle.wire_read.proofs.PieceLaws.{at_place}

-- the bytes of primitive types, one by one
by_primitive : (P : ℕ → Type 0) (b : ℕ) → IsPrimitive b → P 0x64 → P 0x73 → P 0x74 → P 0x75 → P 0x76 → P 0x77 → P 0x78 → P 0x79 → P 0x7a → P 0x7b → P 0x7c → P 0x7d → P 0x7e → P 0x7f → P b
by_primitive P b (inl e) p0 p1 p2 p3 p4 p5 p6 p7 p8 p9 p10 p11 p12 p13 = subst P (sym e) p0
by_primitive P b (inr e) p0 p1 p2 p3 p4 p5 p6 p7 p8 p9 p10 p11 p12 p13 = among b e.0 e.1
  where
    among : (b : ℕ) → 0x73 ≤ b → b ≤ 0x7f → P b
    among b l h = at_distance (b - 0x73) refl
      where
        at_distance : (d : ℕ) → b - 0x73 ≡ d → P b
        at_distance zero e = subst P (omega (arith, e, l)) p1
        at_distance (suc zero) e = subst P (omega (arith, e, l)) p2
        at_distance (suc (suc zero)) e = subst P (omega (arith, e, l)) p3
        at_distance (suc (suc (suc zero))) e = subst P (omega (arith, e, l)) p4
        at_distance (suc (suc (suc (suc zero)))) e = subst P (omega (arith, e, l)) p5
        at_distance (suc (suc (suc (suc (suc zero))))) e = subst P (omega (arith, e, l)) p6
        at_distance (suc (suc (suc (suc (suc (suc zero)))))) e = subst P (omega (arith, e, l)) p7
        at_distance (suc (suc (suc (suc (suc (suc (suc zero))))))) e = subst P (omega (arith, e, l)) p8
        at_distance (suc (suc (suc (suc (suc (suc (suc (suc zero)))))))) e = subst P (omega (arith, e, l)) p9
        at_distance (suc (suc (suc (suc (suc (suc (suc (suc (suc zero))))))))) e = subst P (omega (arith, e, l)) p10
        at_distance (suc (suc (suc (suc (suc (suc (suc (suc (suc (suc zero)))))))))) e = subst P (omega (arith, e, l)) p11
        at_distance (suc (suc (suc (suc (suc (suc (suc (suc (suc (suc (suc zero))))))))))) e = subst P (omega (arith, e, l)) p12
        at_distance (suc (suc (suc (suc (suc (suc (suc (suc (suc (suc (suc (suc zero)))))))))))) e = subst P (omega (arith, e, l)) p13
        at_distance (suc (suc (suc (suc (suc (suc (suc (suc (suc (suc (suc (suc (suc d))))))))))))) e = absurd (omega (arith, e, h))

primitive_there : (x : Leaf) → FitsLeaf x t.primitive_byte → (b : ℕ) × IsPrimitive b × (spell_leaf x t.primitive_byte ≡ b ∷ [])
primitive_there (m.number n) p = (n, p, refl)
primitive_there x p = absurd p

primitive_first : (P : List ℕ → Type 0) (ls : Leaves) (a : List ℕ) → fits_at 0 t.primitive_byte (fits_leaves ls) → ((b : ℕ) (bs : List ℕ) → IsPrimitive b → P (b ∷ bs)) → P ((spelled_at 0 t.primitive_byte (spell_leaves ls) ++ []) ++ a)
primitive_first P ls a h f =
    let x = at_place ls 0 t.primitive_byte h in
    let b = primitive_there x.0 x.2 in
    subst (λ z. P ((z ++ []) ++ a)) (sym (x.3 t.primitive_byte ∙ b.2)) (f b.0 a b.1)

async_there : (x : Leaf) → FitsLeaf x t.async_byte → (spell_leaf x t.async_byte ≡ 0x40 ∷ []) ⊎ (spell_leaf x t.async_byte ≡ 0x43 ∷ [])
async_there (m.number zero) p = inl refl
async_there (m.number (suc zero)) p = inr refl
async_there (m.number (suc (suc n))) p = absurd (omega (arith, p))
async_there x p = absurd p

async_first : (P : List ℕ → Type 0) (ls : Leaves) (y a : List ℕ) → fits_at 0 t.async_byte (fits_leaves ls) → ((bs : List ℕ) → P (0x40 ∷ bs)) → ((bs : List ℕ) → P (0x43 ∷ bs)) → P ((spelled_at 0 t.async_byte (spell_leaves ls) ++ y) ++ a)
async_first P ls y a h f g =
    let x = at_place ls 0 t.async_byte h in
    elim (async_there x.0 x.2) [
      | inl e ↦ subst (λ z. P ((z ++ y) ++ a)) (sym (x.3 t.async_byte ∙ e)) (f (y ++ a))
      | inr e ↦ subst (λ z. P ((z ++ y) ++ a)) (sym (x.3 t.async_byte ∙ e)) (g (y ++ a))
    ]

abbrev is_sort : Field → Bool
is_sort t.sort = true
is_sort t.core_sort = true
is_sort f = false

sort_there : (f : Field) → is_sort f ≡ true → (x : Leaf) → FitsLeaf x f → (s : Space) × (spell_leaf x f ≡ sort_bytes s)
sort_there t.sort k (m.kind s) p = (s, refl)
sort_there t.sort k x p = absurd p
sort_there t.core_sort k (m.kind s) p = (s, refl)
sort_there t.core_sort k x p = absurd p
sort_there f k x p = cc

sort_first : (f : Field) → is_sort f ≡ true → (b : ℕ) (P : List ℕ → Type 0) (ls : Leaves) (y a : List ℕ) → fits_at 2 f (fits_leaves ls) → ((s : Space) (bs : List ℕ) → P (sort_bytes s ++ b ∷ bs)) → P ((spelled_at 2 f (spell_leaves ls) ++ b ∷ y) ++ a)
sort_first f k b P ls y a h g =
    let x = at_place ls 2 f h in
    let s = sort_there f k x.0 x.2 in
    subst (λ z. P ((z ++ b ∷ y) ++ a)) (sym (x.3 f ∙ s.1)) (subst P (sym (append_assoc (sort_bytes s.0) (b ∷ y) a)) (g s.0 (y ++ a)))

kind_there : (s : Space) (x : Leaf) → FitsLeaf x (t.kind_is s) → spell_leaf x t.sort ≡ sort_bytes s
kind_there s (m.kind u) p = ap sort_bytes p
kind_there s x p = absurd p

outer_first : (P : List ℕ → Type 0) (ls : Leaves) (a : List ℕ) → FitsOuter 0 (fits_leaves ls) → ((s : Space) (bs : List ℕ) → P (sort_bytes s ++ 0x02 ∷ bs)) → P ((outer_bytes 0 (spell_leaves ls) ++ []) ++ a)
outer_first P ls a h g =
    let x = at_place ls 2 (t.kind_is h.0) h.3 in
    let e = x.3 t.sort ∙ kind_there h.0 x.0 x.2 in
    let y = spelled_at 0 t.outward (spell_leaves ls) ++ spelled_at 1 t.any_index (spell_leaves ls) in
    subst (λ z. P (z ++ a)) (sym (append-nil (outer_bytes 0 (spell_leaves ls))))
    (subst (λ z. P ((z ++ 0x02 ∷ y) ++ a)) (sym e) (subst P (sym (append_assoc (sort_bytes h.0) (0x02 ∷ y) a)) (g h.0 (y ++ a))))

alias_rows : (s : Space) (bs : List ℕ) → (row_at t.aliases ((sort_bytes s ++ 0x00 ∷ bs)) ≡ Some rows.AliasExport) × (row_at t.aliases ((sort_bytes s ++ 0x01 ∷ bs)) ≡ Some rows.AliasCoreExport) × (row_at t.aliases ((sort_bytes s ++ 0x02 ∷ bs)) ≡ Some rows.AliasOuter) × (row_at t.component_declarations (0x02 ∷ (sort_bytes s ++ 0x00 ∷ bs)) ≡ Some rows.AliasExport) × (row_at t.component_declarations (0x02 ∷ (sort_bytes s ++ 0x01 ∷ bs)) ≡ Some rows.AliasCoreExport) × (row_at t.component_declarations (0x02 ∷ (sort_bytes s ++ 0x02 ∷ bs)) ≡ Some rows.AliasOuter) × (row_at t.instance_declarations (0x02 ∷ (sort_bytes s ++ 0x00 ∷ bs)) ≡ Some rows.AliasExport) × (row_at t.instance_declarations (0x02 ∷ (sort_bytes s ++ 0x01 ∷ bs)) ≡ Some rows.AliasCoreExport) × (row_at t.instance_declarations (0x02 ∷ (sort_bytes s ++ 0x02 ∷ bs)) ≡ Some rows.AliasOuter)
alias_rows CoreFunc bs = (refl, refl, refl, refl, refl, refl, refl, refl, refl)
alias_rows _ bs = (refl, refl, refl, refl, refl, refl, refl, refl, refl)

-- the line is the one that its bytes decide for
abbrev Decides : Family → Line → Type 0
Decides f l = (ls : Leaves) (a : List ℕ) → FitsPieces l.pieces (fits_leaves ls) → row_at f (assemble l.pieces (spell_leaves ls) ++ a) ≡ Some l.tag

abbrev EachDecides : Family → List Line → Type 0
EachDecides f [] = Unit {0}
EachDecides f (l ∷ ls) = Decides f l × EachDecides f ls

decides : (f : Family) → EachDecides f (lines f)
decides t.customs = ((λ ls a h. refl), tt)
decides t.core_modules = ((λ ls a h. refl), tt)
decides t.components = ((λ ls a h. refl), tt)
decides t.core_instances = ((λ ls a h. refl), ((λ ls a h. refl), tt))
decides t.core_types = ((λ ls a h. refl), ((λ ls a h. refl), ((λ ls a h. refl), tt)))
decides t.entities = ((λ ls a h. refl), ((λ ls a h. refl), ((λ ls a h. refl), ((λ ls a h. refl), tt))))
decides t.instances = ((λ ls a h. refl), ((λ ls a h. refl), tt))
decides t.aliases = ((λ ls a h. sort_first t.sort refl 0x00 (λ bs. row_at t.aliases (bs) ≡ Some rows.AliasExport) ls _ a h.0 (λ s bs. (alias_rows s bs).0)), ((λ ls a h. sort_first t.core_sort refl 0x01 (λ bs. row_at t.aliases (bs) ≡ Some rows.AliasCoreExport) ls _ a h.0 (λ s bs. (alias_rows s bs).1)), ((λ ls a h. outer_first (λ bs. row_at t.aliases (bs) ≡ Some rows.AliasOuter) ls a h.0 (λ s bs. (alias_rows s bs).2)), tt)))
decides t.types = ((λ ls a h. primitive_first (λ bs. row_at t.types (bs) ≡ Some rows.Primitive) ls a h.0 (λ b bs k. by_primitive (λ b. row_at t.types (b ∷ bs) ≡ Some rows.Primitive) b k refl refl refl refl refl refl refl refl refl refl refl refl refl refl)), ((λ ls a h. refl), ((λ ls a h. refl), ((λ ls a h. refl), ((λ ls a h. refl), ((λ ls a h. refl), ((λ ls a h. refl), ((λ ls a h. refl), ((λ ls a h. refl), ((λ ls a h. refl), ((λ ls a h. refl), ((λ ls a h. refl), ((λ ls a h. refl), ((λ ls a h. refl), ((λ ls a h. async_first (λ bs. row_at t.types (bs) ≡ Some rows.FunctionType) ls _ a h.0 (λ bs. refl) (λ bs. refl)), ((λ ls a h. refl), ((λ ls a h. refl), ((λ ls a h. refl), tt))))))))))))))))))
decides t.canons = ((λ ls a h. refl), ((λ ls a h. refl), ((λ ls a h. refl), ((λ ls a h. refl), ((λ ls a h. refl), ((λ ls a h. refl), ((λ ls a h. refl), ((λ ls a h. refl), ((λ ls a h. refl), ((λ ls a h. refl), ((λ ls a h. refl), ((λ ls a h. refl), ((λ ls a h. refl), ((λ ls a h. refl), ((λ ls a h. refl), ((λ ls a h. refl), ((λ ls a h. refl), ((λ ls a h. refl), ((λ ls a h. refl), ((λ ls a h. refl), ((λ ls a h. refl), ((λ ls a h. refl), ((λ ls a h. refl), ((λ ls a h. refl), ((λ ls a h. refl), ((λ ls a h. refl), ((λ ls a h. refl), ((λ ls a h. refl), ((λ ls a h. refl), ((λ ls a h. refl), ((λ ls a h. refl), ((λ ls a h. refl), ((λ ls a h. refl), ((λ ls a h. refl), ((λ ls a h. refl), ((λ ls a h. refl), tt))))))))))))))))))))))))))))))))))))
decides t.options = ((λ ls a h. refl), ((λ ls a h. refl), ((λ ls a h. refl), ((λ ls a h. refl), ((λ ls a h. refl), ((λ ls a h. refl), ((λ ls a h. refl), ((λ ls a h. refl), tt))))))))
decides t.descriptions = ((λ ls a h. refl), ((λ ls a h. refl), ((λ ls a h. refl), ((λ ls a h. refl), ((λ ls a h. refl), ((λ ls a h. refl), tt))))))
decides t.component_declarations = ((λ ls a h. refl), ((λ ls a h. refl), ((λ ls a h. refl), ((λ ls a h. refl), ((λ ls a h. primitive_first (λ bs. row_at t.component_declarations (0x01 ∷ bs) ≡ Some rows.Primitive) ls a h.0 (λ b bs k. by_primitive (λ b. row_at t.component_declarations (0x01 ∷ b ∷ bs) ≡ Some rows.Primitive) b k refl refl refl refl refl refl refl refl refl refl refl refl refl refl)), ((λ ls a h. refl), ((λ ls a h. refl), ((λ ls a h. refl), ((λ ls a h. refl), ((λ ls a h. refl), ((λ ls a h. refl), ((λ ls a h. refl), ((λ ls a h. refl), ((λ ls a h. refl), ((λ ls a h. refl), ((λ ls a h. refl), ((λ ls a h. refl), ((λ ls a h. refl), ((λ ls a h. async_first (λ bs. row_at t.component_declarations (0x01 ∷ bs) ≡ Some rows.FunctionType) ls _ a h.0 (λ bs. refl) (λ bs. refl)), ((λ ls a h. refl), ((λ ls a h. refl), ((λ ls a h. refl), ((λ ls a h. sort_first t.sort refl 0x00 (λ bs. row_at t.component_declarations (0x02 ∷ bs) ≡ Some rows.AliasExport) ls _ a h.0 (λ s bs. (alias_rows s bs).3)), ((λ ls a h. sort_first t.core_sort refl 0x01 (λ bs. row_at t.component_declarations (0x02 ∷ bs) ≡ Some rows.AliasCoreExport) ls _ a h.0 (λ s bs. (alias_rows s bs).4)), ((λ ls a h. outer_first (λ bs. row_at t.component_declarations (0x02 ∷ bs) ≡ Some rows.AliasOuter) ls a h.0 (λ s bs. (alias_rows s bs).5)), ((λ ls a h. refl), tt))))))))))))))))))))))))))
decides t.instance_declarations = ((λ ls a h. refl), ((λ ls a h. refl), ((λ ls a h. refl), ((λ ls a h. primitive_first (λ bs. row_at t.instance_declarations (0x01 ∷ bs) ≡ Some rows.Primitive) ls a h.0 (λ b bs k. by_primitive (λ b. row_at t.instance_declarations (0x01 ∷ b ∷ bs) ≡ Some rows.Primitive) b k refl refl refl refl refl refl refl refl refl refl refl refl refl refl)), ((λ ls a h. refl), ((λ ls a h. refl), ((λ ls a h. refl), ((λ ls a h. refl), ((λ ls a h. refl), ((λ ls a h. refl), ((λ ls a h. refl), ((λ ls a h. refl), ((λ ls a h. refl), ((λ ls a h. refl), ((λ ls a h. refl), ((λ ls a h. refl), ((λ ls a h. refl), ((λ ls a h. async_first (λ bs. row_at t.instance_declarations (0x01 ∷ bs) ≡ Some rows.FunctionType) ls _ a h.0 (λ bs. refl) (λ bs. refl)), ((λ ls a h. refl), ((λ ls a h. refl), ((λ ls a h. refl), ((λ ls a h. sort_first t.sort refl 0x00 (λ bs. row_at t.instance_declarations (0x02 ∷ bs) ≡ Some rows.AliasExport) ls _ a h.0 (λ s bs. (alias_rows s bs).6)), ((λ ls a h. sort_first t.core_sort refl 0x01 (λ bs. row_at t.instance_declarations (0x02 ∷ bs) ≡ Some rows.AliasCoreExport) ls _ a h.0 (λ s bs. (alias_rows s bs).7)), ((λ ls a h. outer_first (λ bs. row_at t.instance_declarations (0x02 ∷ bs) ≡ Some rows.AliasOuter) ls a h.0 (λ s bs. (alias_rows s bs).8)), ((λ ls a h. refl), tt)))))))))))))))))))))))))
decides t.module_declarations = ((λ ls a h. refl), ((λ ls a h. refl), ((λ ls a h. refl), ((λ ls a h. refl), ((λ ls a h. refl), ((λ ls a h. refl), tt))))))
decides t.core_arguments = ((λ ls a h. refl), tt)
decides t.core_bundle_exports = ((λ ls a h. refl), tt)
decides t.core_functions = ((λ ls a h. refl), tt)
decides t.core_values = ((λ ls a h. refl), tt)
decides t.arguments = ((λ ls a h. refl), tt)
decides t.bundle_exports = ((λ ls a h. refl), tt)
decides t.named_types = ((λ ls a h. refl), tt)
decides t.cases = ((λ ls a h. refl), tt)
decides t.lone_types = ((λ ls a h. refl), tt)
decides t.lone_names = ((λ ls a h. refl), tt)
decides t.starts = ((λ ls a h. refl), tt)
decides t.start_arguments = ((λ ls a h. refl), tt)
decides t.imports = ((λ ls a h. refl), tt)
decides t.exports = ((λ ls a h. refl), tt)

tag_is : (s u : Row) → same_row s u ≡ true → s ≡ u
tag_is s u e = sym (row_in-number s) ∙ ap (row_in all_rows) (eqb-true (row_number s) (row_number u) e) ∙ row_in-number u

tag_here : (u : Row) (k : Line) (ks : List Line) (l : Line) → (find u ks ≡ Some l → u ≡ l.tag) → (b : Bool) → same_row u k.tag ≡ b → (if b then Some k else find u ks) ≡ Some l → u ≡ l.tag
tag_here u k ks l later true h e = let same : k ≡ l = cc in tag_is u k.tag h ∙ ap (λ x. x.tag) same
tag_here u k ks l later false h e = later e

found_here : (f : Family) (u : Row) (k : Line) (ks : List Line) (l : Line) → Decides f k → (find u ks ≡ Some l → Decides f l × (u ≡ l.tag)) → (b : Bool) → same_row u k.tag ≡ b → (if b then Some k else find u ks) ≡ Some l → Decides f l × (u ≡ l.tag)
found_here f u k ks l d later true h e = let same : k ≡ l = cc in (subst (Decides f) same d, tag_is u k.tag h ∙ ap (λ x. x.tag) same)
found_here f u k ks l d later false h e = later e

found : (f : Family) (u : Row) (ks : List Line) (l : Line) → EachDecides f ks → find u ks ≡ Some l → Decides f l × (u ≡ l.tag)
found f u [] l d e = cc
found f u (k ∷ ks) l d e = found_here f u k ks l d.0 (λ e. found f u ks l d.1 e) (same_row u k.tag) refl e

pub decided : (f : Family) (u : Row) (ls : Leaves) (a : List ℕ) → FitsNode (row u ls) f → row_at f (spell_node (row u ls) f ++ a) ≡ Some u
decided f u ls a p = go (find u (lines f)) refl p
  where
    go : (o : Option Line) → find u (lines f) ≡ o → FitsLine o (fits_leaves ls) → row_at f (spell_line o (spell_leaves ls) ++ a) ≡ Some u
    go None e p = absurd p
    go (Some l) e p = let d = found f u (lines f) l (decides f) e in d.0 ls a p.1 ∙ ap Some (sym d.1)

pub tag_found : (u : Row) (ks : List Line) (l : Line) → find u ks ≡ Some l → u ≡ l.tag
tag_found u [] l e = cc
tag_found u (k ∷ ks) l e = tag_here u k ks l (λ e. tag_found u ks l e) (same_row u k.tag) refl e
