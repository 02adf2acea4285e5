-- What is read of a definition from its start is what the tables make of it.
use Rattle.std.proofs.Common.{◌≡◌, ℕ, ◌<◌, ◌^◌, sym, ap, ◌∙◌, subst, arith, List, [], ◌++◌, map, drop, Option}
use Rattle.comp_model.specs.Model.{Leaves}
use Rattle.comp_scopes.specs.Encoding.{Encoding}
use Rattle.comp_scopes.specs.Names.{first_of_two}
use Rattle.comp_scopes.specs.Resolved.{binary_of_leaves}
use Rattle.comp_tables.specs.Tables.{Counters, Opened, needs}
use Rattle.comp_tables.specs.Built.{missing_roots, missing}
use Rattle.comp_tables.specs.Bounds.{most_needs}
use Rattle.comp_scopes.specs.References.{references}
use Rattle.comp_tables.specs.Walks.{counters_in}
use Rattle.open_scopes.specs.declared.scopes.Open.{Open}
use Rattle.tree_names.specs.declared.denotations.Denotations.{Denotations}
use Rattle.tree_names.specs.declared.reading.Reading.{Reading}
use Rattle.tree_names.specs.Generated.{number_at, generated_made}
use Rattle.tree_names.specs.Read.{ReadsFrom, LeavesRead}
use Rattle.tree_names.specs.Resolved.{NodeResolved}
use Rattle.tree_names.specs.Rooted.{Rooted}
use Rattle.tree_names.specs.Room.{CountersHaveRoom, LeavesInRoom}
use Rattle.tree_names.specs.Settled.{settled}
use Rattle.tree_names.specs.Served.{all_served, ServedFirst}
use Rattle.open_scopes.proofs.Stacks.{some-shown}
use Rattle.tree_names.proofs.Kept.{declares-kept, payload-kept, holds-kept}
use Rattle.tree_names.proofs.Placed.{settled_is_renumbered}

-- there is room for all of it at its start
pub definition_room : (os : List Open) (counts : List ℕ) (rest : Denotations) (old : Leaves) (start : Reading) → start.counters ≡ counts → start.place ≡ 0 → start.denotations ≡ rest → ServedFirst os counts (λ ms. all_served ms old) rest.served.now
    → CountersHaveRoom counts (most_needs old) → references old < 2 ^ 32 → LeavesInRoom os start old
definition_room os counts rest old start a b d first room few =
    let w = some-shown os in
    let given = first w.0 w.1 in
    record {
      scopes = w.0;
      shown = w.1;
      counters = given.0;
      more = given.1;
      from = record { counts = ap counters_in a ∙ given.2; served = ap (λ (z : Denotations). z.served.now) d ∙ given.3 };
      room = record { counters = subst (λ z. CountersHaveRoom z (most_needs old)) (sym a) room; place = omega (arith, b, few) };
    }

module _ (e : Encoding) (os : List Open) (counts : List ℕ) (rest : Denotations) (old new : Leaves) (start end : Reading) (a : start.counters ≡ counts) (b : start.place ≡ 0) (g : start.generated.items ≡ []) (d : start.denotations ≡ rest)
    (h : LeavesRead e os start end old new) (r : Rooted os (λ ms. missing_roots ms old)) (first : ServedFirst os counts (λ ms. all_served ms old) rest.served.now) where
  from_start : (ms : List Opened) (c : Counters) (more : List (Option ℕ)) → counters_in counts ≡ c.counts → rest.served.now ≡ all_served ms old c ++ more → ReadsFrom start c (all_served ms old c) more
  from_start ms c more k s = record { counts = ap counters_in a ∙ k; served = ap (λ (z : Denotations). z.served.now) d ∙ s }

  -- by one stack of open scopes
  abbrev ms : List Opened
  ms = (some-shown os).0

  given : (c : Counters) × (more : List (Option ℕ)) × (counters_in counts ≡ c.counts) × (rest.served.now ≡ all_served ms old c ++ more)
  given = first ms (some-shown os).1

  settles : binary_of_leaves e new ≡ settled e ms old given.0
  settles = h.here ms given.0 given.1 (some-shown os).1 (from_start ms given.0 given.1 given.2 given.3)

  pub definition_read : NodeResolved e os counts rest.served.now old new end
  definition_read = record {
    sized = h.past.sized;
    resolved = h.resolved;
    declares = declares-kept e ms given.0 old new settles;
    payload = payload-kept e ms given.0 old new settles;
    holds = holds-kept e ms given.0 old new settles;
    known = λ ks w. ap (λ z. first_of_two z (missing e ks old)) (r ks w) ∙ h.past.known ks w;
    by = λ ks c more w k s.
        let from : ReadsFrom start c (all_served ks old c) more = from_start ks c more k s in
        let to = h.past.reads ks c more w from in
        record {
          counts = to.counts;
          served = to.served;
          needed = λ j vs. to.needed j vs ∙ ap (λ y. map (generated_made (number_at vs) j) y ++ needs ks j (drop start.place vs) old c) g ∙ ap (λ (y : ℕ). needs ks j (drop y vs) old c) b;
          made = λ x. h.here ks c more w from ∙ sym (settled_is_renumbered e ks old c x);
        };
  }
