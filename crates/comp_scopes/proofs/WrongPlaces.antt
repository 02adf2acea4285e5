-- Binaries whose outer alias leads to the next scope outward, where the text means its own, by count and by name: they render nothing.
use Rattle.std.proofs.Common.{◌≡◌, ℕ, zero, suc, List, [], ◌∷◌, slice_get, Option, Some, None, sym, ◌∙◌, ap, subst, arith}
use Rattle.comp_model.specs.declared.Space.TheVariants.{Ty}
use Rattle.comp_model.specs.declared.row.Row.TheVariants as rows
use Rattle.comp_model.specs.Makers as makers
use Rattle.comp_model.specs.Core.{Id, Place, counted, named}
use Rattle.comp_model.specs.Model.{Leaf, place, numeral, Leaves, row, no_def, Scope, scope_of}
use Rattle.comp_model.specs.declared.row.ScopeKind.TheVariants as kinds
use Rattle.comp_model.specs.Origins.{Origin, written, Held, Origins, no_origins}
use Rattle.comp_scopes.specs.Form.{Made, make, alias_node, binary_defs}
use Rattle.comp_scopes.specs.Renders.{PlaceIs, Renders, LeavesAre, IsLeafOf, leaves_of_node, first_leaf}
use Rattle.comp_scopes.proofs.Lookup.{some-same}
use Rattle.comp_scopes.proofs.Shorthands.{plain_encoding, id_at, bare, component, u8, mark}
use Rattle.comp_scopes.proofs.Letters.{c}

-- two definitions, the second of which is an outer alias
abbrev next_outward : List Made
next_outward = make (written 0) u8 ∷ make (written 1) (alias_node 1 Ty 0) ∷ []

abbrev depth_in : Leaf → ℕ
depth_in (place (counted o d)) = d
depth_in _ = 0

at_one : (F : ℕ → Type 0) (L : Leaves → Type 0) (p : ℕ) (g : Held) (bs : Leaves) → slice_get next_outward p ≡ Some (record { origin = written 1; held = g; made = row rows.AliasOuter bs })
    → LeavesAre bs (λ b. IsLeafOf b (λ d. place (counted 0 d)) F) L → F 1
at_one F L zero g bs e f = let a : ◌≡◌ {A = Origin} (written 0) (written 1) = ap (λ m. m.origin) (some-same _ _ e) in let b : ◌≡◌ {A = ℕ} 0 1 = cc in absurd (omega arith)
at_one F L (suc zero) g bs e f =
    let a : 1 ≡ depth_in (first_leaf bs) = ap (λ m. depth_in (first_leaf (leaves_of_node m.made))) (some-same _ _ e) in
    let b : depth_in (first_leaf bs) ≡ f.first_fact.part = ap (λ l. depth_in (first_leaf l)) f.are ∙ ap depth_in f.first_fact.is_leaf in
    subst F (sym (a ∙ b)) f.first_fact.fact
at_one F L (suc (suc p)) g bs e f = absurd (cc)

abbrev aliasing : Option Id → Place → Scope
aliasing id p = scope_of kinds.Component id None (bare u8 (bare (makers.alias_outer p (numeral 20 0) Ty) no_def))

abbrev two_written : Origins
two_written = mark (written 0) (mark (written 1) no_origins)

counted_elsewhere : Renders plain_encoding [] [] (aliasing None (counted 10 0)) (component (binary_defs next_outward)) two_written → ⊥
counted_elsewhere h = let w : _ = h.defs.1.0 in let a : 1 ≡ 0 = at_one (PlaceIs (aliasing None (counted 10 0) ∷ []) (counted 10 0)) _ w.position w.held w.leaves w.stands w.fact in omega (arith, a)

abbrev by_name : Place
by_name = named 10 (id_at 12 c)

named_elsewhere : Renders plain_encoding [] [] (aliasing (Some (id_at 0 c)) by_name) (component (binary_defs next_outward)) two_written → ⊥
named_elsewhere h =
    let w : _ = h.defs.1.0 in
    let a : ◌≡◌ {A = Option ℕ} (Some 0) (Some 1) = at_one (PlaceIs (aliasing (Some (id_at 0 c)) by_name ∷ []) by_name) _ w.position w.held w.leaves w.stands w.fact in
    let b : ◌≡◌ {A = ℕ} 0 1 = some-same 0 1 a in omega (arith, b)
