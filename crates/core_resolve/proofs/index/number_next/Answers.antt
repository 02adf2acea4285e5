use Rattle.std.proofs.Common.{◌≡◌, ◌+◌, ◌<◌, ◌%◌, ◌^◌, ◌∷◌, ◌++◌, ℕ, Some, get_or, map, unwrap_or, sym, ◌∙◌, ap, arith}
use Rattle.comp_model.specs.Core.{Id}
use Rattle.comp_model.specs.CoreModules.{number}
use Rattle.core_model.specs.Items.{place_of}
use Rattle.core_model.specs.Resolved.{numbered}
use Rattle.core_syntax.specs.Ids.{id_of, reference_of}
use Rattle.core_names.specs.ModuleIds.{place_named}
use Rattle.core_resolve.specs.LocalIds.{behind_nameless}
use Rattle.core_resolve.proofs.LocalIds.{some-behind}
use Rattle.core_resolve.proofs.PlacesLeft.{first-place}
use Rattle.core_resolve.proofs.index.number_next.Goals as goal

pub returns-else-is_empty-clause-numbered : goal.returns-else-is_empty-clause-numbered
returns-else-is_empty-clause-numbered c = λ ids rest fits e.
    let x : Id = id_of c.in-Id.id in
    let n : ℕ = get_or c.args.places.now 0 0 in
    let some : map Some c.args.places.now ≡ place_of x ids ∷ rest = e ∙ ap (λ i. place_named ids (reference_of i) ++ rest) c.in-Id.is in
    let place : Some n ≡ place_of x ids = first-place (place_of x ids) rest c.args.places.now 0 some in
    let word : n < 2 ^ 32 = omega (arith, c.type_inv.places 0) in
    let below : c.args.before + n < 2 ^ 32 = fits x n word place in
    let same : (c.args.before + n) % 2 ^ 32 ≡ c.args.before + n = omega (arith, below) in
    ap (number c.span.result.offset) (same ∙ some-behind x c.args.before ids n place)
    ∙ ap (λ s. number s.offset (unwrap_or (place_of x (behind_nameless c.args.before ids)) 0)) c.span.ensures.span
    ∙ ap (λ i. numbered (behind_nameless c.args.before ids) (reference_of i)) (sym c.in-Id.is)
