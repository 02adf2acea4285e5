-- What stands before a definition has the numbers of its own references, and of none behind them.
use Rattle.std.proofs.Common.{◌≡◌, ℕ, zero, suc, ◌+◌, refl, sym, ap, ◌∙◌, List, [], ◌∷◌, ◌++◌, take, drop, arith}
use Rattle.std.proofs.lemmas.List.{drop-take}
use Rattle.comp_model.specs.declared.Space.TheVariants.{CoreType}
use Rattle.comp_model.specs.Core.{ref_name}
use Rattle.comp_model.specs.Model.{Leaf, core_value, ref, present, node, nodes, name, path, Leaves, no_leaf, ◌▸◌, row, Nodes, no_node, one_node}
use Rattle.comp_scopes.specs.References.{references, references_leaf, references_nodes}
use Rattle.comp_scopes.specs.Outward.{leads_out}
use Rattle.comp_tables.specs.Tables.{Counters, Opened, found, past, past_leaf, name_needs, path_needs, next_place, needs, needs_leaf, needs_nodes}

take-fewer : (m n : ℕ) (xs : List ℕ) → take m (take (m + n) xs) ≡ take m xs
take-fewer zero n xs = refl
take-fewer (suc m) n [] = let on : suc m + n ≡ suc (m + n) = omega arith in ap (λ k. take (suc m) (take k [])) on
take-fewer (suc m) n (x ∷ xs) = let on : suc m + n ≡ suc (m + n) = omega arith in ap (λ k. take (suc m) (take k (x ∷ xs))) on ∙ ap (λ l. x ∷ l) (take-fewer m n xs)

front : (m n : ℕ) (vs ws : List ℕ) → take (m + n) vs ≡ take (m + n) ws → take m vs ≡ take m ws
front m n vs ws e = sym (take-fewer m n vs) ∙ ap (take m) e ∙ take-fewer m n ws

rest : (m n : ℕ) (vs ws : List ℕ) → take (m + n) vs ≡ take (m + n) ws → take n (drop m vs) ≡ take n (drop m ws)
rest m n vs ws e = sym (drop-take m n vs) ∙ ap (drop m) e ∙ drop-take m n ws

next-taken : (vs : List ℕ) → next_place (take 1 vs) ≡ next_place vs
next-taken [] = refl
next-taken (v ∷ vs) = refl

same-next : (vs ws : List ℕ) → take 1 vs ≡ take 1 ws → next_place vs ≡ next_place ws
same-next vs ws e = sym (next-taken vs) ∙ ap next_place e ∙ next-taken ws

mutual
  pub same-needs : (os : List Opened) (j : ℕ) (vs ws : List ℕ) (ls : Leaves) (c : Counters) → take (references ls) vs ≡ take (references ls) ws → needs os j vs ls c ≡ needs os j ws ls c
  same-needs os j vs ws no_leaf c e = refl
  same-needs os j vs ws (l ▸ ls) c e =
      ap (λ ms. ms ++ needs os j (drop (references_leaf l) vs) ls (past_leaf os l c)) (same-leaf os j vs ws l c (front (references_leaf l) (references ls) vs ws e))
      ∙ ap (λ ms. needs_leaf os j ws l c ++ ms) (same-needs os j (drop (references_leaf l) vs) (drop (references_leaf l) ws) ls (past_leaf os l c) (rest (references_leaf l) (references ls) vs ws e))

  same-leaf : (os : List Opened) (j : ℕ) (vs ws : List ℕ) (l : Leaf) (c : Counters) → take (references_leaf l) vs ≡ take (references_leaf l) ws → needs_leaf os j vs l c ≡ needs_leaf os j ws l c
  same-leaf os j vs ws (core_value (ref_name b r x)) c e = ap (λ v. name_needs os j v CoreType (leads_out r (found os CoreType r x)) (found os CoreType r x) c) (same-next vs ws e)
  same-leaf os j vs ws (ref s (name r x)) c e = ap (λ v. name_needs os j v s (leads_out r (found os s r x)) (found os s r x) c) (same-next vs ws e)
  same-leaf os j vs ws (ref s (path p)) c e = ap (λ v. path_needs os j v s p c) (same-next vs ws e)
  same-leaf os j vs ws (present l) c e = same-leaf os j vs ws l c e
  same-leaf os j vs ws (node (row t ls)) c e = same-needs os j vs ws ls c e
  same-leaf os j vs ws (nodes ns) c e = same-nodes os j vs ws ns c e
  same-leaf os j vs ws l c e = refl

  same-nodes : (os : List Opened) (j : ℕ) (vs ws : List ℕ) (ns : Nodes) (c : Counters) → take (references_nodes ns) vs ≡ take (references_nodes ns) ws → needs_nodes os j vs ns c ≡ needs_nodes os j ws ns c
  same-nodes os j vs ws no_node c e = refl
  same-nodes os j vs ws (one_node (row t ls) ns) c e =
      ap (λ ms. ms ++ needs_nodes os j (drop (references ls) vs) ns (past os ls c)) (same-needs os j vs ws ls c (front (references ls) (references_nodes ns) vs ws e))
      ∙ ap (λ ms. needs os j ws ls c ++ ms) (same-nodes os j (drop (references ls) vs) (drop (references ls) ws) ns (past os ls c) (rest (references ls) (references_nodes ns) vs ws e))
