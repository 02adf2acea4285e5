-- Rows that fill the bytes up to their end.
use Rattle.std.proofs.Common.{◌≡◌, ℕ, List, [], ◌∷◌, ◌++◌, length, refl, sym, ◌∙◌, ap, subst, arith, true, append-nil, Bor}
use Rattle.std.specs.Prelude.{Result, Ok, Err}
use Rattle.wire_tree.specs.Lists.{nodes_listed}
use Rattle.wire_tree.specs.declared.tree.Node as tree
use Rattle.comp_model.specs.Leb.{uleb}
use Rattle.comp_model.specs.Model.{Nodes, count_nodes}
use Rattle.comp_wire.specs.Sections.{Word}
use Rattle.comp_wire.specs.Table.{Family}
use Rattle.comp_wire.specs.Spelled.{spell_nodes}
use Rattle.comp_wire.proofs.Numbers.{uleb_ends}
use Rattle.wire_read.specs.Place.{Place, rest}
use Rattle.wire_read.specs.Reading.{Unread, Read}
use Rattle.wire_read.specs.Within.{WithinNodes}
use Rattle.wire_read.specs.Stops.{Allows}
use Rattle.wire_read.specs.Nodes.{is_closed, FitsMany}
use Rattle.wire_read.specs.Bodies.{FitsSome, counted_bytes, WholeRows, WholeCounted}
use Rattle.wire_read.specs.declared.stop.Stop.{Stop}
use Rattle.wire_read.specs.declared.stop.Stop.TheVariants as stop
use Rattle.comp_wire.proofs.OneComponent.{nodes_law}
use Rattle.wire_read.proofs.PieceLaws.{same_closed}
use Rattle.wire_read.proofs.NodeParts.{RowsRefused}
use Rattle.wire_read.proofs.NodeReads.{RowsRead}
use Rattle.wire_read.proofs.Reached.{at_other, counted_reached}

pub empty : (xs : List ℕ) → length xs ≡ 0 → xs ≡ []
empty [] e = refl
empty (x ∷ xs) e = absurd (omega (arith, e))

-- none of the rows of which the refusal speaks fill the bytes
abbrev pub ExactlyRefused : ℕ → Family → ℕ → List ℕ → Stop → Type 0
ExactlyRefused n f left bytes e = (ks : Nodes) → FitsMany n f ks → Allows e (WithinNodes ks left) → spell_nodes ks f ≡ bytes → ⊥

pub exactly_refused : (n : ℕ) (f : Family) (left : ℕ) (bytes : List ℕ) (e : Stop) → RowsRefused n f left bytes e → ExactlyRefused n f left bytes e
exactly_refused n f left bytes e u ks h a q = u ks [] h a (append-nil (spell_nodes ks f) ∙ q)

pub bytes_left : (n : ℕ) (f : Family) (left : ℕ) (old mid : Place) (ns : Nodes) → is_closed f ≡ true → RowsRead n f left old mid ns → (length (rest mid) ≡ 0 → ⊥) → ExactlyRefused n f left (rest old) stop.Misread
bytes_left n f left old mid ns c r z ks h a q =
    let same = nodes_law ns f ks (rest mid) [] (same_closed f ∙ c) (r.0.0 ∙ sym h.0) r.0.1 h.1 (sym r.2.taken ∙ sym q ∙ sym (append-nil (spell_nodes ks f))) in
    z (ap length same.1)

pub exactly_read : (n : ℕ) (f : Family) (left : ℕ) (old mid : Place) (ns : Nodes) → RowsRead n f left old mid ns → length (rest mid) ≡ 0 → FitsMany n f ns × WithinNodes ns left × (spell_nodes ns f ≡ rest old)
exactly_read n f left old mid ns r z = (r.0, r.1, sym (append-nil (spell_nodes ns f)) ∙ ap (λ x. spell_nodes ns f ++ x) (sym (empty (rest mid) z)) ∙ sym r.2.taken)

-- behind a count
abbrev pub CountedRefused : Family → ℕ → List ℕ → Stop → Type 0
CountedRefused f left bytes e = (ks : Nodes) → FitsSome f ks → Allows e (WithinNodes ks left) → counted_bytes f ks ≡ bytes → ⊥

pub no_count : (f : Family) (left : ℕ) (bytes : List ℕ) → Unread Word uleb bytes → CountedRefused f left bytes stop.Misread
no_count f left bytes u ks h a q = u (count_nodes ks) (spell_nodes ks f) h.1 q

pub count_is_zero : (f : Family) (left n : ℕ) (old mid : Place) → Read Word uleb old mid n → n ≡ 0 → CountedRefused f left (rest old) stop.Misread
count_is_zero f left n old mid r z ks h a q = h.0 ((uleb_ends (count_nodes ks) n (spell_nodes ks f) (rest mid) (q ∙ r.1.taken)).0 ∙ z)

pub counted_refused : (f : Family) (left n : ℕ) (old mid : Place) (e : Stop) → Read Word uleb old mid n → ExactlyRefused n f left (rest mid) e → CountedRefused f left (rest old) e
counted_refused f left n old mid e r u ks h a q =
    let s = uleb_ends (count_nodes ks) n (spell_nodes ks f) (rest mid) (q ∙ r.1.taken) in
    u ks (s.0, h.2) a s.1

pub counted_read : (f : Family) (left n : ℕ) (old mid : Place) (ns : Nodes) → Read Word uleb old mid n → (n ≡ 0 → ⊥) → FitsMany n f ns × WithinNodes ns left × (spell_nodes ns f ≡ rest mid) → FitsSome f ns × WithinNodes ns left × (counted_bytes f ns ≡ rest old)
counted_read f left n old mid ns r z q =
    (((λ e. z (sym q.0.0 ∙ e)), subst Word (sym q.0.0) r.0, q.0.1), q.1, ap (λ i. uleb i ++ spell_nodes ns f) q.0.0 ∙ ap (λ x. uleb n ++ x) q.2 ∙ sym r.1.taken)

pub counted_outcome : (f : Family) (left n : ℕ) (old mid : Place) (r : Result (Bor (List tree.Node)) Stop) → Read Word uleb old mid n → (n ≡ 0 → ⊥)
    → WholeRows n f left mid r → WholeCounted f left old r
counted_outcome f left n old mid (Ok p) c z w = counted_read f left n old mid (nodes_listed p.now) c z w
counted_outcome f left n old mid (Err e) c z w = (counted_refused f left n old mid e c w.0, at_other e _ _ (counted_reached f left n old mid c) w.1)
