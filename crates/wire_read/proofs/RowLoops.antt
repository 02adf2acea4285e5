-- Rows one behind the other, as far as a loop has come.
use Rattle.std.proofs.Common.{◌≡◌, ℕ, ◌+◌, ◌<◌, List, [], ◌∷◌, ◌++◌, length, refl, sym, ◌∙◌, ap, subst, arith, true, inl, append_assoc, append-nil, length-append}
use Rattle.comp_model.specs.Model.{Nodes, no_node, one_node, count_nodes}
use Rattle.comp_wire.specs.Table.{Family}
use Rattle.comp_wire.specs.Spelled.{spell_node, FitsNode, spell_nodes, FitsNodes}
use Rattle.wire_tree.specs.Lists.{node_of, nodes_listed}
use Rattle.wire_tree.specs.declared.tree.Node as tree
use Rattle.wire_read.specs.Place.{Place, rest, Takes}
use Rattle.wire_read.specs.Within.{WithinNode, WithinNodes}
use Rattle.wire_read.specs.Nodes.{is_closed, FitsMany}
use Rattle.wire_read.specs.declared.stop.Stop.{Stop}
use Rattle.wire_read.proofs.Places.{takes_two, takes_none}
use Rattle.comp_wire.proofs.OneComponent.{node_law}
use Rattle.wire_read.proofs.PieceLaws.{same_closed}
use Rattle.wire_read.proofs.NodeParts.{NodeRefused, RowsRefused, allowed}
use Rattle.wire_read.proofs.NodeReads.{NodeRead, RowsRead}

-- what is left of other rows that stand there
abbrev pub Left : Family → ℕ → ℕ → Nodes → List ℕ → Place → Type 0
Left f i n ks r cur = (js : Nodes) × (count_nodes js + i ≡ n) × FitsNodes js f × ((k : ℕ) → WithinNodes ks k → WithinNodes js k) × (spell_nodes js f ++ r ≡ rest cur)

pub record SoFar (f : Family) (left n i : ℕ) (old cur : Place) (got : List tree.Node) : Type 0 where
  pub counted : length got ≡ i
  pub fits : FitsNodes (nodes_listed got) f
  pub near : WithinNodes (nodes_listed got) left
  pub taken : Takes old cur (spell_nodes (nodes_listed got) f)
  pub others : (ks : Nodes) (r : List ℕ) → FitsMany n f ks → spell_nodes ks f ++ r ≡ rest old → Left f i n ks r cur

pub none_yet : (f : Family) (left n : ℕ) (old : Place) → SoFar f left n 0 old old []
none_yet f left n old = record { counted = refl; fits = tt; near = tt; taken = takes_none old; others = λ ks r h e. (ks, omega (arith, h.0), h.1, (λ k w. w), e) }

module _ (f : Family) where
  one_more_fits : (xs : List tree.Node) (x : tree.Node) → FitsNodes (nodes_listed xs) f → FitsNode (node_of x) f → FitsNodes (nodes_listed (xs ++ x ∷ [])) f
  one_more_fits [] x h k = (k, tt)
  one_more_fits (y ∷ ys) x h k = (h.0, one_more_fits ys x h.1 k)

  one_more_spelled : (xs : List tree.Node) (x : tree.Node) → spell_nodes (nodes_listed (xs ++ x ∷ [])) f ≡ spell_nodes (nodes_listed xs) f ++ spell_node (node_of x) f
  one_more_spelled [] x = append-nil _
  one_more_spelled (y ∷ ys) x = ap (λ z. spell_node (node_of y) f ++ z) (one_more_spelled ys x) ∙ sym (append_assoc (spell_node (node_of y) f) _ _)

one_more_within : (n : ℕ) (xs : List tree.Node) (x : tree.Node) → WithinNodes (nodes_listed xs) n → WithinNode (node_of x) n → WithinNodes (nodes_listed (xs ++ x ∷ [])) n
one_more_within n [] x h k = (k, tt)
one_more_within n (y ∷ ys) x h k = (h.0, one_more_within n ys x h.1 k)

pub one_more : (f : Family) (left n i : ℕ) (old cur new : Place) (got all : List tree.Node) (x : tree.Node) → is_closed f ≡ true → i < n → all ≡ got ++ x ∷ [] → SoFar f left n i old cur got → NodeRead f left cur new (node_of x) → SoFar f left n (i + 1) old new all
one_more f left n i old cur new got all x c h e s r =
    let made : SoFar f left n (i + 1) old new (got ++ x ∷ []) = record {
      counted = length-append got (x ∷ []) ∙ ap (λ k. k + 1) s.counted;
      fits = one_more_fits f got x s.fits r.0;
      near = one_more_within left got x s.near r.1;
      taken = subst (λ z. Takes old new z) (sym (one_more_spelled f got x)) (takes_two old cur new _ _ s.taken r.2);
      others = λ ks v g k. further ks v r (s.others ks v g k);
    } in
    subst (SoFar f left n (i + 1) old new) (sym e) made
  where
    further : (ks : Nodes) (v : List ℕ) → NodeRead f left cur new (node_of x) → Left f i n ks v cur → Left f (i + 1) n ks v new
    further ks v r (no_node, count, fits, near, spelled) = absurd (omega (arith, count, h))
    further ks v r (one_node k js, count, fits, near, spelled) =
        let behind = (node_law k f (node_of x) (spell_nodes js f ++ v) (rest new) fits.0 r.0 (inl (same_closed f ∙ c)) (sym (append_assoc (spell_node k f) (spell_nodes js f) v) ∙ spelled ∙ r.2.taken)).1 in
        (js, omega (arith, count), fits.1, (λ m w. (near m w).1), behind)

pub row_refused : (f : Family) (left n i : ℕ) (old cur : Place) (got : List tree.Node) (e : Stop) → i < n → SoFar f left n i old cur got → NodeRefused f left (rest cur) e → RowsRefused n f left (rest old) e
row_refused f left n i old cur got e h s u ks r g a q = here (s.others ks r g q)
  where
    here : Left f i n ks r cur → ⊥
    here (no_node, count, fits, near, spelled) = omega (arith, count, h)
    here (one_node k js, count, fits, near, spelled) = u k (spell_nodes js f ++ r) fits.0 (allowed e _ _ (λ w. (near left w).0) a) (sym (append_assoc (spell_node k f) (spell_nodes js f) r) ∙ spelled)

nodes_counted : (ns : List tree.Node) → count_nodes (nodes_listed ns) ≡ length ns
nodes_counted [] = refl
nodes_counted (n ∷ ns) = let e : count_nodes (nodes_listed ns) ≡ length ns = nodes_counted ns in omega (arith, e)

pub all_read : (f : Family) (left n i : ℕ) (old cur : Place) (got placed : List tree.Node) → i ≡ n → placed ≡ got → SoFar f left n i old cur got → RowsRead n f left old cur (nodes_listed placed)
all_read f left n i old cur got placed e k s =
    subst (λ ns. RowsRead n f left old cur (nodes_listed ns)) (sym k) ((nodes_counted got ∙ s.counted ∙ e, s.fits), s.near, s.taken)
