-- How far a list is renumbered.
use Rattle.std.proofs.Common.{◌≡◌, ℕ, ◌+◌, ◌<◌, ◌≤◌, List, [], ◌∷◌, ◌++◌, length, take, drop, get_or, set, refl, sym, ap, ◌∙◌, arith, add-one, drop-cons, length-set}
use Rattle.std.proofs.Math.Seq.{take-suc-set}
use Rattle.std.proofs.lemmas.List.{drop-set-lt, take_all, drop_all}
use Rattle.comp_model.specs.declared.row.Row.{Row}
use Rattle.comp_model.specs.Model.{Leaves, Nodes, no_node, one_node, row}
use Rattle.comp_scopes.specs.References.{references, references_nodes}
use Rattle.comp_walks.specs.Lists.{entries}
use Rattle.comp_walks.specs.Numbered.{numbered, numbered_nodes, Table, past}

-- nodes behind others
abbrev joined : Nodes → Nodes → Nodes
joined no_node ms = ms
joined (one_node n ns) ms = one_node n (joined ns ms)

-- the first i items of a list are renumbered, from this place of the table up to that, and the others are as they were
pub record HasNumbered {A : Type 0} (t : A → Row) (f : A → Leaves) (items : List A) (start : Table) (i : ℕ) (now : List A) (here : Table) : Type 0 where
  pub same : length now ≡ length items
  pub table : here.list ≡ start.list
  pub place : here.at + references_nodes (entries t f (drop i now)) ≡ start.at + references_nodes (entries t f items)
  pub nodes : joined (entries t f (take i now)) (numbered_nodes start.list here.at (entries t f (drop i now))) ≡ numbered_nodes start.list start.at (entries t f items)

joined-push : {A : Type 0} (t : A → Row) (f : A → Leaves) (xs : List A) (y : A) (ms : Nodes) → joined (entries t f (xs ++ y ∷ [])) ms ≡ joined (entries t f xs) (one_node (row (t y) (f y)) ms)
joined-push t f [] y ms = refl
joined-push t f (x ∷ xs) y ms = ap (λ q. one_node (row (t x) (f x)) q) (joined-push t f xs y ms)

joined-none : (ns : Nodes) → joined ns no_node ≡ ns
joined-none no_node = refl
joined-none (one_node n ns) = ap (λ q. one_node n q) (joined-none ns)

-- one item more
pub numbered_next : {A : Type 0} (t : A → Row) (f : A → Leaves) (items : List A) (start : Table) (i : ℕ) (now : List A) (here : Table) (d y : A) (there : Table) → HasNumbered t f items start i now here → i < length now
    → t y ≡ t (get_or now i d) → f y ≡ numbered here.list here.at (f (get_or now i d)) → there ≡ past (references (f (get_or now i d))) here → HasNumbered t f items start (i + 1) (set now i y) there
numbered_next t f items start i now here d y there h j et ef e =
    let x = get_or now i d in
    let rest = drop (i + 1) now in
    let split : drop i now ≡ x ∷ rest = drop-cons now i d j ∙ ap (λ n. x ∷ drop n now) (sym (add-one i)) in
    let behind : drop (i + 1) (set now i y) ≡ rest = drop-set-lt (i + 1) now i y (omega arith) in
    let before : take (i + 1) (set now i y) ≡ take i now ++ y ∷ [] = ap (λ n. take n (set now i y)) (add-one i) ∙ take-suc-set now i y j in
    let at : there.at ≡ here.at + references (f x) = ap (λ q. q.at) e in
    let p : here.at + references_nodes (entries t f (x ∷ rest)) ≡ start.at + references_nodes (entries t f items) = ap (λ q. here.at + references_nodes (entries t f q)) (sym split) ∙ h.place in
    record {
      same = length-set now i y ∙ h.same;
      table = ap (λ q. q.list) e ∙ h.table;
      place = ap (λ q. there.at + references_nodes (entries t f q)) behind ∙ omega (arith, at, p);
      nodes =
          ap (λ q. joined (entries t f q) (numbered_nodes start.list there.at (entries t f (drop (i + 1) (set now i y))))) before
          ∙ ap (λ q. joined (entries t f (take i now ++ y ∷ [])) (numbered_nodes start.list there.at (entries t f q))) behind
          ∙ joined-push t f (take i now) y (numbered_nodes start.list there.at (entries t f rest))
          ∙ ap (λ q. joined (entries t f (take i now)) (one_node (row q (f y)) (numbered_nodes start.list there.at (entries t f rest)))) et
          ∙ ap (λ q. joined (entries t f (take i now)) (one_node (row (t x) q) (numbered_nodes start.list there.at (entries t f rest)))) (ef ∙ ap (λ q. numbered q here.at (f x)) h.table)
          ∙ ap (λ q. joined (entries t f (take i now)) (one_node (row (t x) (numbered start.list here.at (f x))) (numbered_nodes start.list q (entries t f rest)))) at
          ∙ ap (λ q. joined (entries t f (take i now)) (numbered_nodes start.list here.at (entries t f q))) (sym split)
          ∙ h.nodes;
    }

-- all items
pub numbered_all : {A : Type 0} (t : A → Row) (f : A → Leaves) (items : List A) (start : Table) (i : ℕ) (now : List A) (here : Table) → HasNumbered t f items start i now here → length now ≤ i → entries t f now ≡ numbered_nodes start.list start.at (entries t f items)
numbered_all t f items start i now here h j =
    sym (joined-none (entries t f now))
    ∙ ap (λ q. joined (entries t f q) no_node) (sym (take_all i now j))
    ∙ ap (λ q. joined (entries t f (take i now)) (numbered_nodes start.list here.at (entries t f q))) (sym (drop_all i now j))
    ∙ h.nodes
