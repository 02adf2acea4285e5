-- Loops that read lists of leaves and nodes.
use Rattle.std.proofs.Common.{◌≡◌, refl, sym, ap, ◌∙◌, subst, List, [], ◌∷◌, ◌++◌, length, Some, None, option_map, inr}
use Rattle.comp_model.specs.Core as core
use Rattle.comp_model.specs.CoreModules.{CoreModule}
use Rattle.comp_model.specs.Model as m
use Rattle.comp_model.specs.Model.{◌▸◌, no_leaf, no_node, one_node, row}
use Rattle.comp_scopes.specs.Encoding.{Encoding}
use Rattle.comp_scopes.specs.Names.{first_of_two}
use Rattle.comp_scopes.specs.Rule.{case_ids}
use Rattle.comp_scopes.specs.Unmet.{unmet_cases}
use Rattle.comp_tables.specs.Built.{missing, missing_leaf, missing_nodes}
use Rattle.wast_tokens.specs.declared.error.Error.{Error}
use Rattle.comp_tree.specs.declared.tree.Leaf.{Leaf}
use Rattle.comp_tree.specs.declared.tree.Node.{Node}
use Rattle.comp_tree.specs.Lists.{listed, nodes_listed, node_of}
use Rattle.comp_tree.specs.Model.{leaf_of}
use Rattle.open_scopes.specs.declared.scopes.Open.{Open}
use Rattle.open_scopes.specs.declared.registry.Registry.{Registry}
use Rattle.open_scopes.specs.Refusals.{refusal_of}
use Rattle.tree_names.specs.declared.reading.Reading.{Reading}
use Rattle.tree_names.specs.Counted.{Refused}
use Rattle.tree_names.specs.Read.{LeafRead, LeavesRead, NodesRead}
use Rattle.tree_names.specs.ReadLeft.{listed_before, nodes_before, LeavesToRead, NodesToRead}
use Rattle.tree_names.specs.Cases.{CasesHold}
use Rattle.tree_names.proofs.Counting.{first_refused, then_refused}
use Rattle.tree_names.proofs.ReadParts.{leaves_more, leaves_none, nodes_more, nodes_none}

module _ (C : List CoreModule) where
  before_leaf : (made : List Leaf) (y : Leaf) (rs : m.Leaves) → listed_before C (made ++ y ∷ []) rs ≡ listed_before C made (leaf_of C y ▸ rs)
  before_leaf [] y rs = refl
  before_leaf (x ∷ made) y rs = ap (◌▸◌ (leaf_of C x)) (before_leaf made y rs)

  before_end : (made : List Leaf) → listed_before C made no_leaf ≡ listed C made
  before_end [] = refl
  before_end (x ∷ made) = ap (◌▸◌ (leaf_of C x)) (before_end made)

  before_node : (made : List Node) (y : Node) (rs : m.Nodes) → nodes_before C (made ++ y ∷ []) rs ≡ nodes_before C made (one_node (node_of C y) rs)
  before_node [] y rs = refl
  before_node (x ∷ made) y rs = ap (one_node (node_of C x)) (before_node made y rs)

  nodes_at_end : (made : List Node) → nodes_before C made no_node ≡ nodes_listed C made
  nodes_at_end [] = refl
  nodes_at_end (x ∷ made) = ap (one_node (node_of C x)) (nodes_at_end made)

module _ (e : Encoding) (C : List CoreModule) (os : List Open) where
  pub to_read : (a : Reading) (xs : List Leaf) → LeavesToRead e C os a a xs xs []
  to_read a xs = record { done = λ end rs h. h; refused = λ x h. h }

  pub leaf_was_read : (a b c : Reading) (xs rest more made all : List Leaf) (y r : Leaf) → LeavesToRead e C os a b xs rest made → rest ≡ y ∷ more → all ≡ made ++ r ∷ [] → LeafRead e os b c (leaf_of C y) (leaf_of C r) → LeavesToRead e C os a c xs more all
  leaf_was_read a b c xs rest more made all y r k q p g =
      let l : LeavesToRead e C os a b xs (y ∷ more) made = subst (λ z. LeavesToRead e C os a b xs z made) q k in
      record {
        done = λ end rs h. subst (λ z. LeavesRead e os a end (listed C xs) z) (sym (ap (λ z. listed_before C z rs) p ∙ before_leaf C made r rs)) (l.done end (leaf_of C r ▸ rs) (leaves_more e os b c end (leaf_of C y) (leaf_of C r) (listed C more) rs g h));
        refused = λ x h. l.refused x (then_refused os (λ ms. missing_leaf e ms (leaf_of C y)) (λ ms. missing e ms (listed C more)) x g.past.known h);
      }

  pub leaf_was_refused : (a b : Reading) (xs rest more made : List Leaf) (y : Leaf) (x : Error) → LeavesToRead e C os a b xs rest made → rest ≡ y ∷ more → Refused os (λ ms. missing_leaf e ms (leaf_of C y)) x → Refused os (λ ms. missing e ms (listed C xs)) x
  leaf_was_refused a b xs rest more made y x k q h =
      let l : LeavesToRead e C os a b xs (y ∷ more) made = subst (λ z. LeavesToRead e C os a b xs z made) q k in
      l.refused x (first_refused os (λ ms. missing_leaf e ms (leaf_of C y)) (λ ms. missing e ms (listed C more)) x h)

  pub leaves_were_read : (a b : Reading) (xs rest made new : List Leaf) → LeavesToRead e C os a b xs rest made → length b.counters ≡ 13 → rest ≡ [] → new ≡ made → LeavesRead e os a b (listed C xs) (listed C new)
  leaves_were_read a b xs rest made new k s q p =
      let l : LeavesToRead e C os a b xs [] made = subst (λ z. LeavesToRead e C os a b xs z made) q k in
      subst (λ z. LeavesRead e os a b (listed C xs) z) (before_end C made ∙ ap (listed C) (sym p)) (l.done b no_leaf (leaves_none e os b s))

  pub nodes_to_read : (cases : Registry) (a : Reading) (xs : List Node) → CasesHold cases [] → NodesToRead e C os cases a a xs xs []
  nodes_to_read cases a xs h = record { earlier = []; holds = h; done = λ end rs h. h; refused = λ x h. h }

  pub node_was_read : (cases new : Registry) (a b c : Reading) (xs rest more made all : List Node) (y r : Node) → NodesToRead e C os cases a b xs rest made → rest ≡ y ∷ more → all ≡ made ++ r ∷ [] → r.row ≡ y.row
      → ((earlier : List core.Id) → CasesHold cases earlier → unmet_cases earlier (case_ids (listed C y.leaves.now)) ≡ None) → LeavesRead e os b c (listed C y.leaves.now) (listed C r.leaves.now)
      → ((earlier : List core.Id) → CasesHold cases earlier → CasesHold new (case_ids (listed C y.leaves.now) ++ earlier)) → NodesToRead e C os new a c xs more all
  node_was_read cases new a b c xs rest more made all y r k q p t u g keep =
      let l : NodesToRead e C os cases a b xs (y ∷ more) made = subst (λ z. NodesToRead e C os cases a b xs z made) q k in
      record {
        earlier = case_ids (listed C y.leaves.now) ++ l.earlier;
        holds = keep l.earlier l.holds;
        done = λ end rs h.
            subst (λ z. NodesRead e os [] a end (nodes_listed C xs) z) (sym (ap (λ z. nodes_before C z rs) p ∙ before_node C made r rs))
            (l.done end (one_node (node_of C r) rs)
            (subst (λ z. NodesRead e os l.earlier b end (nodes_listed C (y ∷ more)) (one_node (row z (listed C r.leaves.now)) rs)) (sym t)
            (nodes_more e os l.earlier b c end y.row (listed C y.leaves.now) (listed C r.leaves.now) (nodes_listed C more) rs (u l.earlier l.holds) g h)));
        refused = λ x h.
            l.refused x (then_refused os (λ ms. unmet_cases l.earlier (case_ids (listed C y.leaves.now))) (λ ms. first_of_two (missing e ms (listed C y.leaves.now)) (missing_nodes e ms (case_ids (listed C y.leaves.now) ++ l.earlier) (nodes_listed C more))) x (λ ms w. u l.earlier l.holds)
            (then_refused os (λ ms. missing e ms (listed C y.leaves.now)) (λ ms. missing_nodes e ms (case_ids (listed C y.leaves.now) ++ l.earlier) (nodes_listed C more)) x g.past.known h));
      }

  pub case_was_refused : (cases : Registry) (a b : Reading) (xs rest more made : List Node) (y : Node) (x : Error) → NodesToRead e C os cases a b xs rest made → rest ≡ y ∷ more
      → ((earlier : List core.Id) → CasesHold cases earlier → option_map refusal_of (unmet_cases earlier (case_ids (listed C y.leaves.now))) ≡ Some x) → Refused os (λ ms. missing_nodes e ms [] (nodes_listed C xs)) x
  case_was_refused cases a b xs rest more made y x k q h =
      let l : NodesToRead e C os cases a b xs (y ∷ more) made = subst (λ z. NodesToRead e C os cases a b xs z made) q k in
      l.refused x (first_refused os (λ ms. unmet_cases l.earlier (case_ids (listed C y.leaves.now))) (λ ms. first_of_two (missing e ms (listed C y.leaves.now)) (missing_nodes e ms (case_ids (listed C y.leaves.now) ++ l.earlier) (nodes_listed C more))) x (inr (λ ms w. h l.earlier l.holds)))

  pub node_was_refused : (cases : Registry) (a b : Reading) (xs rest more made : List Node) (y : Node) (x : Error) → NodesToRead e C os cases a b xs rest made → rest ≡ y ∷ more
      → ((earlier : List core.Id) → CasesHold cases earlier → unmet_cases earlier (case_ids (listed C y.leaves.now)) ≡ None) → Refused os (λ ms. missing e ms (listed C y.leaves.now)) x → Refused os (λ ms. missing_nodes e ms [] (nodes_listed C xs)) x
  node_was_refused cases a b xs rest more made y x k q u h =
      let l : NodesToRead e C os cases a b xs (y ∷ more) made = subst (λ z. NodesToRead e C os cases a b xs z made) q k in
      l.refused x (then_refused os (λ ms. unmet_cases l.earlier (case_ids (listed C y.leaves.now))) (λ ms. first_of_two (missing e ms (listed C y.leaves.now)) (missing_nodes e ms (case_ids (listed C y.leaves.now) ++ l.earlier) (nodes_listed C more))) x (λ ms w. u l.earlier l.holds)
      (first_refused os (λ ms. missing e ms (listed C y.leaves.now)) (λ ms. missing_nodes e ms (case_ids (listed C y.leaves.now) ++ l.earlier) (nodes_listed C more)) x h))

  pub nodes_were_read : (cases : Registry) (a b : Reading) (xs rest made new : List Node) → NodesToRead e C os cases a b xs rest made → length b.counters ≡ 13 → rest ≡ [] → new ≡ made → NodesRead e os [] a b (nodes_listed C xs) (nodes_listed C new)
  nodes_were_read cases a b xs rest made new k s q p =
      let l : NodesToRead e C os cases a b xs [] made = subst (λ z. NodesToRead e C os cases a b xs z made) q k in
      subst (λ z. NodesRead e os [] a b (nodes_listed C xs) z) (nodes_at_end C made ∙ ap (nodes_listed C) (sym p)) (l.done b no_node (nodes_none e os l.earlier b s))
