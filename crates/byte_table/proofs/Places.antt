-- The pieces of each row in each family.
use Rattle.std.proofs.Common.{◌≡◌, ℕ, zero, suc, List, [], ◌∷◌, refl, sym, ◌∙◌, ap, subst, Bool, true, false, ◌&&◌, ◌||◌, cond, Option, Some, None, if◌then◌else◌}
use Rattle.std.specs.Prelude.{◌==◌}
use Rattle.std.proofs.lemmas.Bool.{eqb-true}
use Rattle.comp_model.specs.declared.row.Row.TheVariants as rows
use Rattle.comp_model.specs.declared.row.Row.{Row}
use Rattle.comp_model.specs.RowNumbers.{row_number, all_rows, row_in, row_in-number}
use Rattle.comp_wire.specs.Table as t
use Rattle.comp_wire.specs.Table.{Line, lines}
use Rattle.comp_wire.specs.Spelled.{find}
use Rattle.comp_wire.specs.Fits.{is_none}
use Rattle.comp_wire.proofs.Groups.{and_both}
use Rattle.byte_table.specs.Lines.{family_of, family_number, same_family, home, home_pieces, line_pieces}
use Rattle.byte_table.specs.Stands.{stand, stood}
use Rattle.byte_table.specs.declared.place.Stand.{Stand}
use Rattle.byte_table.specs.declared.place.Stand.TheVariants.{Nowhere, Plain}
use Rattle.byte_table.specs.declared.line.Family.{Family}
use Rattle.byte_table.specs.declared.line.Family.TheVariants as family

abbrev each_of : (Row → Bool) → List Row → Bool
each_of p [] = true
each_of p (t ∷ ts) = p t && each_of p ts

at_number : (p : Row → Bool) (ts : List Row) (n : ℕ) → p (row_in [] 0) ≡ true → each_of p ts ≡ true → p (row_in ts n) ≡ true
at_number p [] n d e = d
at_number p (t ∷ ts) zero d e = (and_both (p t) _ e).0
at_number p (t ∷ ts) (suc n) d e = at_number p ts n d (and_both (p t) _ e).1

-- a test of every row
every : (p : Row → Bool) → p (row_in [] 0) ≡ true → each_of p all_rows ≡ true → (u : Row) → p u ≡ true
every p d e u = subst (λ v. p v ≡ true) (row_in-number u) (at_number p all_rows (row_number u) d e)

-- the families in which a row stands as it is, or not
abbrev ordinary : t.Family → Bool
ordinary t.component_declarations = false
ordinary t.instance_declarations = false
ordinary t.module_declarations = false
ordinary t.core_functions = false
ordinary t.components = false
ordinary _ = true

abbrev at_home : t.Family → Row → Bool
at_home f u = is_none (find u (lines f)) || same_family (home u) f

abbrev all_at_home : t.Family → Bool → Bool
all_at_home f true = each_of (at_home f) all_rows && at_home f (row_in [] 0)
all_at_home f false = true

-- by computation
passes : (f : t.Family) → all_at_home f (ordinary f) ≡ true
passes t.types = refl
passes _ = refl

family_at : ℕ → t.Family
family_at n = if n == 0 then t.customs else if n == 1 then t.core_modules else if n == 2 then t.core_instances else if n == 3 then t.core_arguments else if n == 4 then t.core_bundle_exports else if n == 5 then t.core_types else if n == 6 then t.core_functions else if n == 7 then t.core_values else if n == 8 then t.entities else if n == 9 then t.instances else if n == 10 then t.arguments else if n == 11 then t.bundle_exports else if n == 12 then t.aliases else if n == 13 then t.types else if n == 14 then t.named_types else if n == 15 then t.cases else if n == 16 then t.lone_types else if n == 17 then t.lone_names else if n == 18 then t.canons else if n == 19 then t.options else if n == 20 then t.starts else if n == 21 then t.start_arguments else if n == 22 then t.imports else if n == 23 then t.exports else if n == 24 then t.descriptions else if n == 25 then t.component_declarations else if n == 26 then t.instance_declarations else if n == 27 then t.module_declarations else t.components

family_at-number : (f : t.Family) → family_at (family_number f) ≡ f
unfolding family_at
family_at-number t.customs = refl
family_at-number _ = refl

family_is : (f g : t.Family) → same_family f g ≡ true → f ≡ g
family_is f g e = sym (family_at-number f) ∙ ap family_at (eqb-true (family_number f) (family_number g) e) ∙ family_at-number g

none_is : (o : Option Line) → is_none o ≡ true → line_pieces o ≡ []
none_is None e = refl
none_is (Some l) e = cc

or_false : (a b : Bool) → (a || b) ≡ true → b ≡ false → a ≡ true
or_false true b e f = refl
or_false false b e f = cc

by_home : (f : t.Family) (u : Row) → at_home f u ≡ true → line_pieces (find u (lines f)) ≡ stood (cond (same_family (home u) f) Plain Nowhere) (home_pieces u)
by_home f u e = go (same_family (home u) f) refl
  where
    go : (b : Bool) → same_family (home u) f ≡ b → line_pieces (find u (lines f)) ≡ stood (cond b Plain Nowhere) (home_pieces u)
    go true s = ap (λ g. line_pieces (find u (lines g))) (sym (family_is (home u) f s))
    go false s = none_is (find u (lines f)) (or_false _ _ e s)

at_home_in : (f : t.Family) (u : Row) → ordinary f ≡ true → at_home f u ≡ true
at_home_in f u o =
    let p = subst (λ b. all_at_home f b ≡ true) o (passes f) in
    let q = and_both (each_of (at_home f) all_rows) _ p in
    every (at_home f) q.1 q.0 u

-- where rows of other families stand too
abbrev StandsIn : t.Family → Row → Type 0
StandsIn f u = line_pieces (find u (lines f)) ≡ stood (stand u (home u) f) (home_pieces u)

elsewhere : (u : Row) → StandsIn t.component_declarations u × StandsIn t.instance_declarations u × StandsIn t.module_declarations u × StandsIn t.core_functions u
elsewhere rows.CoreModule = (refl, refl, refl, refl)
elsewhere _ = (refl, refl, refl, refl)

pub stands : (u : Row) (f : Family) → line_pieces (find u (lines (family_of f))) ≡ stood (stand u (home u) (family_of f)) (home_pieces u)
stands u family.ComponentDeclarations = (elsewhere u).0
stands u family.InstanceDeclarations = (elsewhere u).1
stands u family.ModuleDeclarations = (elsewhere u).2
stands u family.CoreFunctions = (elsewhere u).3
stands u family.Customs = by_home t.customs u (at_home_in t.customs u refl)
stands u family.CoreModules = by_home t.core_modules u (at_home_in t.core_modules u refl)
stands u family.CoreInstances = by_home t.core_instances u (at_home_in t.core_instances u refl)
stands u family.CoreArguments = by_home t.core_arguments u (at_home_in t.core_arguments u refl)
stands u family.CoreBundleExports = by_home t.core_bundle_exports u (at_home_in t.core_bundle_exports u refl)
stands u family.CoreTypes = by_home t.core_types u (at_home_in t.core_types u refl)
stands u family.CoreValues = by_home t.core_values u (at_home_in t.core_values u refl)
stands u family.Entities = by_home t.entities u (at_home_in t.entities u refl)
stands u family.Instances = by_home t.instances u (at_home_in t.instances u refl)
stands u family.Arguments = by_home t.arguments u (at_home_in t.arguments u refl)
stands u family.BundleExports = by_home t.bundle_exports u (at_home_in t.bundle_exports u refl)
stands u family.Aliases = by_home t.aliases u (at_home_in t.aliases u refl)
stands u family.Types = by_home t.types u (at_home_in t.types u refl)
stands u family.NamedTypes = by_home t.named_types u (at_home_in t.named_types u refl)
stands u family.Cases = by_home t.cases u (at_home_in t.cases u refl)
stands u family.LoneTypes = by_home t.lone_types u (at_home_in t.lone_types u refl)
stands u family.LoneNames = by_home t.lone_names u (at_home_in t.lone_names u refl)
stands u family.Canons = by_home t.canons u (at_home_in t.canons u refl)
stands u family.Options = by_home t.options u (at_home_in t.options u refl)
stands u family.Starts = by_home t.starts u (at_home_in t.starts u refl)
stands u family.StartArguments = by_home t.start_arguments u (at_home_in t.start_arguments u refl)
stands u family.Imports = by_home t.imports u (at_home_in t.imports u refl)
stands u family.Exports = by_home t.exports u (at_home_in t.exports u refl)
stands u family.Descriptions = by_home t.descriptions u (at_home_in t.descriptions u refl)

-- what code makes of it
pub placed : (u : Row) (f : Family) (h : t.Family) (s : Stand) (ps : List t.Piece) → h ≡ home u → s ≡ stand u h (family_of f) → ps ≡ home_pieces u → line_pieces (find u (lines (family_of f))) ≡ stood s ps
placed u f h s ps e k p = stands u f ∙ ap (λ g. stood (stand u g (family_of f)) (home_pieces u)) (sym e) ∙ ap (λ x. stood x (home_pieces u)) (sym k) ∙ ap (stood s) (sym p)
