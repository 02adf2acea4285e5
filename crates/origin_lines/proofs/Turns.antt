-- A turn of the loops over marks, and their ends.
use Rattle.std.proofs.Common.{◌≡◌, ◌++◌, ◌+◌, ◌≤◌, ◌<◌, ℕ, suc, List, [], ◌∷◌, get_or, drop, length, sym, ap, ◌∙◌, arith, None, Some, drop-cons}
use Rattle.std.proofs.lemmas.List.{drop_all, append-nil}
use Rattle.comp_wire.specs.Origins.{origins_of, origins_of_list}
use Rattle.comp_wire.specs.declared.origin.ScopeOrigins.{ScopeOrigins, out-ScopeOrigins}
use Rattle.comp_wire.specs.declared.origin.ItemOrigin.{ItemOrigin, ItemOrigin'}
use Rattle.comp_model.specs.Origins.{Origin, no_origins}
use Rattle.origin_lines.specs.declared.count.Counts.{Counts}
use Rattle.origin_lines.specs.Lines.{lines_behind}
use Rattle.origin_lines.specs.Count.{total, marks_in, outer_aliases_in}
use Rattle.origin_lines.specs.Adding.{AddsUp}
use Rattle.origin_lines.proofs.Fields.{origins_by_items}

-- the lines of all items are those of the scope, at the end of a loop
pub lines_end : (out start indent : List ℕ) (s : ScopeOrigins) (items : List ItemOrigin) (i : ℕ) → items ≡ (out-ScopeOrigins s).items → length items ≤ i
    → out ++ lines_behind indent (origins_of_list (drop i items)) ≡ start ++ lines_behind indent (origins_of_list items) → out ≡ start ++ lines_behind indent (origins_of s)
lines_end out start indent s items i same all e =
    sym (append-nil out)
    ∙ ap (λ xs. out ++ lines_behind indent (origins_of_list xs)) (sym (drop_all i items all))
    ∙ e
    ∙ ap (λ os. start ++ lines_behind indent os) (ap origins_of_list same ∙ sym (origins_by_items s))

-- what the first item counts comes before what the others do
total_first : (each : Origin → ℕ) (x : ItemOrigin) (xs : List ItemOrigin) → total each (origins_of_list (x ∷ xs)) ≡ total each (origins_of_list (x ∷ [])) + total each (origins_of_list xs)
total_first each (ItemOrigin' o h ps) xs = omega arith

-- a loop that ends in the midst of its items, for which the counts with one of them are too many
pub counts_full : (counts all : Counts) (s : ScopeOrigins) (items : List ItemOrigin) (x : ItemOrigin) (i : ℕ) → items ≡ (out-ScopeOrigins s).items → i < length items → x ≡ get_or items i x
    → all.marks + marks_in (origins_of_list (drop i items)) ≡ counts.marks + marks_in (origins_of_list items) → AddsUp all (origins_of_list (x ∷ [])) None → AddsUp counts (origins_of s) None
counts_full counts all s items x i same within is e full =
    let whole : marks_in (origins_of_list items) ≡ marks_in (origins_of s) = ap marks_in (ap origins_of_list same ∙ sym (origins_by_items s)) in
    let rest : drop i items ≡ x ∷ drop (suc i) items = drop-cons items i x within ∙ ap (λ y. y ∷ drop (suc i) items) (sym is) in
    let first : marks_in (origins_of_list (drop i items)) ≡ marks_in (origins_of_list (x ∷ [])) + marks_in (origins_of_list (drop (suc i) items)) = ap (λ ys. marks_in (origins_of_list ys)) rest ∙ total_first (λ o. 1) x (drop (suc i) items) in
    omega (arith, whole, first, e, full)

-- all items are counted, at the end of a loop
pub counts_end : (counts all : Counts) (s : ScopeOrigins) (items : List ItemOrigin) (i : ℕ) → items ≡ (out-ScopeOrigins s).items → length items ≤ i
    → all.marks + marks_in (origins_of_list (drop i items)) ≡ counts.marks + marks_in (origins_of_list items)
    → all.outer_aliases + outer_aliases_in (origins_of_list (drop i items)) ≡ counts.outer_aliases + outer_aliases_in (origins_of_list items)
    → all.outer_aliases ≤ all.marks → AddsUp counts (origins_of s) (Some all)
counts_end counts all s items i same over marks outer fewer =
    let whole : origins_of_list items ≡ origins_of s = ap origins_of_list same ∙ sym (origins_by_items s) in
    let none : origins_of_list (drop i items) ≡ no_origins = ap origins_of_list (drop_all i items over) in
    (omega (arith, marks, ap marks_in whole, ap marks_in none), omega (arith, outer, ap outer_aliases_in whole, ap outer_aliases_in none), fewer)
