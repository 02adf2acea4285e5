-- Components in each other have few references.
use Rattle.std.proofs.Common.{◌≡◌, ◌<◌, ◌^◌, List, [], ◌∷◌, length, Bor, refl, sym, ◌∙◌, ap, subst, arith}
use Rattle.std.specs.List.{range_with_len}
use Rattle.comp_model.specs.CoreModules.{CoreModule}
use Rattle.comp_model.specs.Origins.{Origin, written, inline_type, bundle_of, inline_export, export_step, outer_alias_of, name_section}
use Rattle.comp_scopes.specs.References.{references}
use Rattle.comp_wire.specs.Origins.{origin_of}
use Rattle.comp_tree.specs.Lists.{listed}
use Rattle.comp_tree.specs.Marks.{inside_listed, marks_of, marks_listed, places_in, places_of}
use Rattle.comp_tree.specs.OriginMarks.{FewInside, FewPlaces, recorded, recorded_inside, recorded_places}
use Rattle.comp_tree.specs.declared.tree.Def.{Def}
use Rattle.comp_tree.specs.declared.tree.Scope.{Scope}
use Rattle.comp_tree.specs.declared.tree.Leaf as l

none-few : (o : Origin) → length (recorded_places o []) < 2 ^ 32
none-few (written k) = omega arith
none-few (inline_type k u) = omega arith
none-few (bundle_of k u) = omega arith
none-few (inline_export k j) = omega arith
none-few (export_step k u s) = omega arith
none-few (outer_alias_of k u) = omega arith
none-few name_section = omega arith

pub around_few : (C : List CoreModule) (d : Def) (p : Bor Scope) → d.places.now ≡ [] → d.node.leaves.now ≡ l.Scope p ∷ [] → FewPlaces (recorded (marks_of C p.now)) → FewPlaces (recorded (marks_listed C (d ∷ [])))
around_few C d p a b h =
    let e : places_in C d ≡ [] = ap (λ q. places_of q (references (listed C d.node.leaves.now))) a ∙ ap (λ q. range_with_len 0 (references (listed C q))) b in
    (subst (λ q. length (recorded_places (origin_of d.origin) q) < 2 ^ 32) (sym e) (none-few (origin_of d.origin)), subst (λ q. FewInside (recorded_inside (inside_listed C q))) (sym b) h, tt)
