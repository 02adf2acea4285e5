-- A visitor that is told leaves counts and reads them.
use Rattle.std.proofs.Common.{◌≡◌, ℕ, inl, inr, List, [], ◌∷◌, ◌++◌, Option, Some, None, refl, sym, ◌∙◌, ap}
use Rattle.comp_model.specs.Core.{Id}
use Rattle.comp_model.specs.Model.{Leaf, ref, present, node, nodes, case_id, scope, inline, bundle, Leaves, no_leaf, ◌▸◌, row, Nodes, no_node, one_node, scope_of}
use Rattle.comp_scopes.specs.Encoding.{Encoding}
use Rattle.comp_scopes.specs.Rule.{case_ids}
use Rattle.comp_scopes.specs.Unmet.{Unmet, unmet_cases}
use Rattle.comp_expanded.specs.IsExpanded.{LeavesExpanded, LeafExpanded, NodesExpanded}
use Rattle.comp_tables.specs.Tables.{Opened}
use Rattle.comp_scopes.specs.Names.{first_of_two}
use Rattle.comp_tables.specs.Built.{missing_roots, missing_roots_leaf, missing_roots_nodes}
use Rattle.comp_tables.specs.Walks.{CountState, count, count_leaf, count_nodes_of, ReadState, refusing, read_one, read, read_leaf, read_nodes}
use Rattle.comp_model.specs.Events.{told_leaf, told_leaves, told_nodes, enters_none}
use Rattle.comp_model.proofs.Told.{none-told}
use Rattle.comp_tables.specs.Visitor.{count_step, root_step, VisitState, read_step, NoListInLeaves, NoListInLeaf, CaseRow, CaseRows, CasesFirst, CasesFirstInLeaf, CasesFirstInNodes}
use Rattle.comp_tables.proofs.Walks.{counting-none, read_past-none}
use Rattle.comp_expanded.proofs.Firsts.{first-assoc, first-none}

-- ---- counting

module _ (os : List Opened) where
  count-present : (l : Leaf) (q : CountState) → told_leaf (count_step os) enters_none (present l) q ≡ told_leaf (count_step os) enters_none l q
  count-present (node (row t ls)) q = refl
  count-present l q = refl

  mutual
    pub counts-told : (ls : Leaves) (q : CountState) → LeavesExpanded ls → told_leaves (count_step os) enters_none ls q ≡ count os ls q
    counts-told no_leaf q x = refl
    counts-told (l ▸ ls) q x = ap (told_leaves (count_step os) enters_none ls) (counts-leaf l q x.0) ∙ counts-told ls (count_leaf os l q) x.1

    counts-leaf : (l : Leaf) (q : CountState) → LeafExpanded l → told_leaf (count_step os) enters_none l q ≡ count_leaf os l q
    counts-leaf (ref s (inline n)) q x = absurd x
    counts-leaf (ref s (bundle n)) q x = absurd x
    counts-leaf (ref s t) q x = refl
    counts-leaf (present l) q x = count-present l q ∙ counts-leaf l q x
    counts-leaf (node (row t ls)) q x = counts-told ls q x
    counts-leaf (nodes ns) q x = counts-nodes ns q x
    counts-leaf (scope (scope_of kd id label ds)) q x = none-told (count_step os) ds q ∙ counting-none q
    counts-leaf l q x = refl

    counts-nodes : (ns : Nodes) (q : CountState) → NodesExpanded ns → told_nodes (count_step os) enters_none ns q ≡ count_nodes_of os ns q
    counts-nodes no_node q x = refl
    counts-nodes (one_node (row t ls) ns) q x = ap (told_nodes (count_step os) enters_none ns) (counts-told ls q x.0) ∙ counts-nodes ns (count os ls q) x.1

-- ---- roots

module _ (os : List Opened) where
  root-present : (l : Leaf) (a : Option Unmet) → told_leaf (root_step os) enters_none (present l) a ≡ told_leaf (root_step os) enters_none l a
  root-present (node (row t ls)) a = refl
  root-present l a = refl

  mutual
    pub roots-told : (ls : Leaves) (a : Option Unmet) → LeavesExpanded ls → told_leaves (root_step os) enters_none ls a ≡ first_of_two a (missing_roots os ls)
    roots-told no_leaf a x = sym (first-none a)
    roots-told (l ▸ ls) a x =
        ap (told_leaves (root_step os) enters_none ls) (roots-leaf l a x.0) ∙ roots-told ls (first_of_two a (missing_roots_leaf os l)) x.1 ∙ first-assoc a (missing_roots_leaf os l) (missing_roots os ls)

    roots-leaf : (l : Leaf) (a : Option Unmet) → LeafExpanded l → told_leaf (root_step os) enters_none l a ≡ first_of_two a (missing_roots_leaf os l)
    roots-leaf (ref s (inline n)) a x = absurd x
    roots-leaf (ref s (bundle n)) a x = absurd x
    roots-leaf (ref s t) a x = refl
    roots-leaf (present l) a x = root-present l a ∙ roots-leaf l a x
    roots-leaf (node (row t ls)) a x = roots-told ls a x
    roots-leaf (nodes ns) a x = roots-nodes ns a x
    roots-leaf (scope (scope_of kd id label ds)) a x = none-told (root_step os) ds a ∙ sym (first-none a)
    roots-leaf l a x = refl

    roots-nodes : (ns : Nodes) (a : Option Unmet) → NodesExpanded ns → told_nodes (root_step os) enters_none ns a ≡ first_of_two a (missing_roots_nodes os ns)
    roots-nodes no_node a x = sym (first-none a)
    roots-nodes (one_node (row t ls) ns) a x =
        ap (told_nodes (root_step os) enters_none ns) (roots-told ls a x.0) ∙ roots-nodes ns (first_of_two a (missing_roots os ls)) x.1 ∙ first-assoc a (missing_roots os ls) (missing_roots_nodes os ns)

-- ---- reading

refusing-none : (r : ReadState) → refusing None r ≡ r
refusing-none r = rw (first-none r.refused) refl

module _ (e : Encoding) (os : List Opened) (j : ℕ) where
  abbrev at : ReadState → List Id → VisitState
  at r xs = record { reading = r; earlier = xs }

  read_step-present : (l : Leaf) (w : VisitState) → told_leaf (read_step e os j) enters_none (present l) w ≡ told_leaf (read_step e os j) enters_none l w
  read_step-present (node (row t ls)) w = refl
  read_step-present l w = refl

  -- a case id is read by nothing else
  case-read : (x : Option Id) (r : ReadState) → read_one e os j (case_id x) r ≡ r
  case-read x r = sym (read_past-none r)

  mutual
    expand-found : (ls : Leaves) (w : VisitState) → NoListInLeaves ls → told_leaves (read_step e os j) enters_none ls w ≡ at (read e os j ls w.reading) w.earlier
    expand-found no_leaf w f = refl
    expand-found (l ▸ ls) w f = ap (told_leaves (read_step e os j) enters_none ls) (expand_leaf-found l w f.0) ∙ expand-found ls (at (read_leaf e os j l w.reading) w.earlier) f.1

    expand_leaf-found : (l : Leaf) (w : VisitState) → NoListInLeaf l → told_leaf (read_step e os j) enters_none l w ≡ at (read_leaf e os j l w.reading) w.earlier
    expand_leaf-found (ref s (inline n)) w f = absurd f
    expand_leaf-found (ref s (bundle n)) w f = absurd f
    expand_leaf-found (ref s t) w f = refl
    expand_leaf-found (present l) w f = read_step-present l w ∙ expand_leaf-found l w f
    expand_leaf-found (node (row t ls)) w f = expand-found ls w f
    expand_leaf-found (nodes ns) w f = absurd f
    expand_leaf-found (case_id x) w f = absurd f
    expand_leaf-found (scope s) w f = absurd f
    expand_leaf-found l w f = refl

  expand-cases : (ls : Leaves) → NoListInLeaves ls → case_ids ls ≡ []
  expand-cases no_leaf f = refl
  expand-cases (case_id x ▸ ls) f = absurd f.0
  expand-cases (l ▸ ls) f = expand-cases ls f.1

  cased-cases : (ls : Leaves) → CasesFirst ls → case_ids ls ≡ []
  cased-cases no_leaf f = refl
  cased-cases (case_id x ▸ ls) f = absurd f.0
  cased-cases (l ▸ ls) f = cased-cases ls f.1

  -- one case
  case-found : (x : Option Id) (ls : Leaves) (w : VisitState) → NoListInLeaves ls
      → told_leaves (read_step e os j) enters_none (case_id x ▸ ls) w ≡ at (read e os j (case_id x ▸ ls) (refusing (unmet_cases w.earlier (case_ids (case_id x ▸ ls))) w.reading)) (case_ids (case_id x ▸ ls) ++ w.earlier)
  case-found None ls w f =
      let c : case_ids ls ≡ [] = expand-cases ls f in
      ap (λ r. told_leaves (read_step e os j) enters_none ls (at r w.earlier)) (case-read None w.reading) ∙ expand-found ls w f
      ∙ ap (λ r. at (read e os j ls r) w.earlier) (sym (case-read None (refusing None w.reading) ∙ refusing-none w.reading))
      ∙ ap (λ xs. at (read e os j (case_id None ▸ ls) (refusing (unmet_cases w.earlier xs) w.reading)) (xs ++ w.earlier)) (sym c)
  case-found (Some y) ls w f =
      let c : case_ids ls ≡ [] = expand-cases ls f in
      let r : ReadState = refusing (unmet_cases w.earlier (y ∷ [])) w.reading in
      expand-found ls (at (refusing (unmet_cases w.earlier (y ∷ [])) w.reading) (y ∷ w.earlier)) f
      ∙ ap (λ r. at (read e os j ls r) (y ∷ w.earlier)) (sym (case-read (Some y) r))
      ∙ ap (λ xs. at (read e os j (case_id (Some y) ▸ ls) (refusing (unmet_cases w.earlier (y ∷ xs)) w.reading)) (y ∷ xs ++ w.earlier)) (sym c)

  row-found : (ls : Leaves) (w : VisitState) → CaseRow ls → told_leaves (read_step e os j) enters_none ls w ≡ at (read e os j ls (refusing (unmet_cases w.earlier (case_ids ls)) w.reading)) (case_ids ls ++ w.earlier)
  row-found (case_id x ▸ ls) w f = case-found x ls w f
  row-found ls w f = absurd f

  rows-found : (ns : Nodes) (w : VisitState) → CaseRows ns → (told_nodes (read_step e os j) enters_none ns w).reading ≡ read_nodes e os j w.earlier ns w.reading
  rows-found no_node w f = refl
  rows-found (one_node (row t ls) ns) w f =
      ap (λ v. (told_nodes (read_step e os j) enters_none ns v).reading) (row-found ls w f.0)
      ∙ rows-found ns (at (read e os j ls (refusing (unmet_cases w.earlier (case_ids ls)) w.reading)) (case_ids ls ++ w.earlier)) f.1

  mutual
    pub leaves-found : (ls : Leaves) (w : VisitState) → CasesFirst ls → (told_leaves (read_step e os j) enters_none ls w).reading ≡ read e os j ls w.reading
    leaves-found no_leaf w f = refl
    leaves-found (l ▸ ls) w f = leaves-found ls (told_leaf (read_step e os j) enters_none l w) f.1 ∙ ap (read e os j ls) (leaf-found l w f.0)

    leaf-found : (l : Leaf) (w : VisitState) → CasesFirstInLeaf l → (told_leaf (read_step e os j) enters_none l w).reading ≡ read_leaf e os j l w.reading
    leaf-found (ref s (inline n)) w f = absurd f
    leaf-found (ref s (bundle n)) w f = absurd f
    leaf-found (ref s t) w f = refl
    leaf-found (present l) w f = ap (λ v. v.reading) (read_step-present l w) ∙ leaf-found l w f
    leaf-found (node (row t ls)) w f = leaves-found ls w f
    leaf-found (nodes ns) w (inl f) = rows-found ns (at w.reading []) f
    leaf-found (nodes ns) w (inr f) = nodes-found ns [] (at w.reading []) f
    leaf-found (case_id x) w f = absurd f
    leaf-found (scope s) w f = absurd f
    leaf-found l w f = refl

    nodes-found : (ns : Nodes) (xs : List Id) (w : VisitState) → CasesFirstInNodes ns → (told_nodes (read_step e os j) enters_none ns w).reading ≡ read_nodes e os j xs ns w.reading
    nodes-found no_node xs w f = refl
    nodes-found (one_node (row t ls) ns) xs w f =
        let c : case_ids ls ≡ [] = cased-cases ls f.0 in
        nodes-found ns xs (told_leaves (read_step e os j) enters_none ls w) f.1 ∙ ap (read_nodes e os j xs ns) (leaves-found ls w f.0 ∙ ap (read e os j ls) (sym (refusing-none w.reading)))
        ∙ ap (λ ys. read_nodes e os j (ys ++ xs) ns (read e os j ls (refusing (unmet_cases xs ys) w.reading))) (sym c)
