use Rattle.std.proofs.Common.{◌≡◌, sym, subst, ◌∙◌, List, Some, None, ℕ, option_map}
use Rattle.comp_tables.specs.Tables.{Opened, opened_depth}
use Rattle.comp_tables.specs.Built.{missing_place}
use Rattle.comp_walks.specs.Lent.{place_of}
use Rattle.comp_tree.specs.Model.{place_at, id_of}
use Rattle.open_scopes.specs.Shown.{OpenScopesShow}
use Rattle.tree_names.specs.Read.{PlaceRead}
use Rattle.open_scopes.proofs.Stacks.{some-shown}
use Rattle.open_scopes.specs.Refusals.{refusal_of}
use Rattle.tree_names.proofs.ReadParts.{place_read, place_refused}
use Rattle.tree_names.proofs.leaf.resolve_place.Goals as goal

pub returns-in-Some : goal.returns-in-Some
returns-in-Some c =
    subst (λ p. PlaceRead c.args.scopes.now (place_at c.args.alias.offset p) c.in-Some.depth) (sym c.in-Id.is)
    (place_read c.args.scopes.now c.args.alias.offset (id_of c.in-Id.field-0) c.in-Some.depth
    (subst (λ p. (ms : List Opened) (k : ℕ) → OpenScopesShow c.args.scopes.now ms → Some c.in-Some.depth ≡ opened_depth ms (place_of k p)) c.in-Id.is c.in-Some.ensures.depth))

pub unreachable-requires : goal.unreachable-requires
unreachable-requires c =
    let shown = some-shown c.args.scopes.now in
    place_refused shown.0 c.args.alias.offset (id_of c.in-Id.field-0)
    (subst (λ p. None ≡ opened_depth shown.0 (place_of c.args.alias.offset p)) c.in-Id.is (sym c.in-None.is ∙ c.depth_of.ensures.depth shown.0 c.args.alias.offset shown.1))
    (subst (λ p. None ≡ option_map refusal_of (missing_place shown.0 (place_of c.args.alias.offset p))) c.in-Id.is (sym c.in-None-missing_place.is ∙ c.missing_place.ensures shown.0 shown.1))
