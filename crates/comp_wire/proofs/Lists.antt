-- Lists of rows: how many there are, and one turn of a loop that writes them.
use Rattle.std.proofs.Common.{◌≡◌, ℕ, suc, ◌+◌, ◌<◌, ◌≤◌, List, [], ◌∷◌, ◌++◌, length, drop, drop_of_length-le, get_or, append_assoc, append-nil, refl, sym, ◌∙◌, ap, subst, arith, add-one}
use Rattle.std.proofs.Math.Seq.{drop-cons}
use Rattle.comp_model.specs.Model.{Node, count_nodes}
use Rattle.comp_model.specs.Leb.{uleb}
use Rattle.comp_wire.specs.Table.{Family}
use Rattle.comp_wire.specs.Spelled.{spell_node, spell_nodes, FitsNode, FitsNodes}
use Rattle.comp_wire.specs.Values.{rows_of_list}

pub counted : {A : Type 0} (f : A → Node) (xs : List A) → count_nodes (rows_of_list f xs) ≡ length xs
counted f [] = refl
counted f (x ∷ xs) = omega (arith, counted f xs)

pub dropped : {A : Type 0} (xs : List A) (i : ℕ) (x : A) → i < length xs → x ≡ get_or xs i x → drop i xs ≡ x ∷ drop (i + 1) xs
dropped xs i x h e = drop-cons xs i x h ∙ ap (λ y. y ∷ drop (suc i) xs) (sym e) ∙ ap (λ n. x ∷ drop n xs) (sym (add-one i))

-- one turn: the next row fits, and is written
module _ {A : Type 0} (f : A → Node) (fam : Family) (all : List A) (i : ℕ) (x : A) (h : i < length all) (e : x ≡ get_or all i x) where
  pub turn_fits : FitsNodes (rows_of_list f (drop i all)) fam → FitsNode (f x) fam × FitsNodes (rows_of_list f (drop (i + 1) all)) fam
  turn_fits fits = subst (λ xs. FitsNodes (rows_of_list f xs) fam) (dropped all i x h e) fits

  pub turn_written : (whole out new : List ℕ) → out ++ spell_nodes (rows_of_list f (drop i all)) fam ≡ whole → new ≡ out ++ spell_node (f x) fam → new ++ spell_nodes (rows_of_list f (drop (i + 1) all)) fam ≡ whole
  turn_written whole out new w n =
      let behind = spell_nodes (rows_of_list f (drop (i + 1) all)) fam in
      ap (λ y. y ++ behind) n ∙ append_assoc out (spell_node (f x) fam) behind ∙ ap (λ xs. out ++ spell_nodes (rows_of_list f xs) fam) (sym (dropped all i x h e)) ∙ w

-- behind the last turn the whole list stands
pub list_written : {A : Type 0} (f : A → Node) (fam : Family) (xs : List A) (i : ℕ) (old init out : List ℕ) → length xs ≤ i → init ≡ old ++ uleb (length xs)
    → out ++ spell_nodes (rows_of_list f (drop i xs)) fam ≡ init ++ spell_nodes (rows_of_list f xs) fam
    → out ≡ old ++ (uleb (count_nodes (rows_of_list f xs)) ++ spell_nodes (rows_of_list f xs) fam)
list_written f fam xs i old init out h e w =
    let end : out ≡ init ++ spell_nodes (rows_of_list f xs) fam = sym (append-nil out) ∙ ap (λ ys. out ++ spell_nodes (rows_of_list f ys) fam) (sym (drop_of_length-le xs h)) ∙ w in
    end ∙ ap (λ x. x ++ spell_nodes (rows_of_list f xs) fam) (e ∙ ap (λ n. old ++ uleb n) (sym (counted f xs))) ∙ append_assoc old (uleb (count_nodes (rows_of_list f xs))) (spell_nodes (rows_of_list f xs) fam)
