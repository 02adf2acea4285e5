-- The marks that are written along the walk are the marks of what is built, in the numbers of the text.
use Rattle.std.proofs.Common.{◌≡◌, ℕ, zero, suc, ◌+◌, Bool, true, false, ◌⊎◌, inl, inr, List, [], ◌∷◌, ◌++◌, length, map, Option, Some, None, refl, sym, ◌∙◌, ap, subst, arith}
use Rattle.std.specs.List.{range_with_len}
use Rattle.std.specs.Prelude.{slice_index, drop}
use Rattle.std.proofs.lemmas.List.{append_assoc, length_push, map-append, drop-drop}
use Rattle.comp_model.specs.declared.Space.{Space}
use Rattle.comp_model.specs.declared.Space.TheVariants.{CoreType}
use Rattle.comp_model.specs.Core.{ref_name}
use Rattle.comp_model.specs.Model.{Leaf, core_value, ref, present, node, nodes, scope, name, Path, root_number, root_name, export_of, path, Leaves, no_leaf, ◌▸◌, Node, row, Nodes, no_node, one_node, define, Defs, no_def, one_def, Scope, scope_of, defs_of}
use Rattle.comp_model.specs.Spaces.{declares_row}
use Rattle.comp_model.specs.Origins.{Origin, written, export_step, outer_alias_of, Origins, Held, holds_none, holds}
use Rattle.comp_scopes.specs.Encoding.{Encoding}
use Rattle.comp_scopes.specs.Names.{Denoted, first_of_two}
use Rattle.comp_scopes.specs.References.{references, references_leaf, references_nodes, steps, instance_space}
use Rattle.comp_model.specs.ItemNames.{has_names}
use Rattle.comp_scopes.specs.Outward.{leads_out}
use Rattle.comp_scopes.specs.Form.{Made, make, alias_node, coded_node, origins_of, binary_defs, held_first, step_node, built}
use Rattle.comp_expanded.specs.Expansion.{Entry}
use Rattle.comp_expanded.specs.TextNumbers.{entries, origin_at, places_at, definition_of, text_number_at, scope_in, scope_in_leaf, scope_in_nodes, list_inside, list_at, marks_in_text, held_in_text}
use Rattle.comp_expanded.specs.ListMarks.{ListMarks, no_marks, mark_then, Inside, nothing_inside, inside_are}
use Rattle.comp_scopes.specs.Rowed.{Rowed}
use Rattle.comp_expanded.specs.IsExpanded.{IsExpanded}
use Rattle.comp_tables.specs.Tables.{Counters, no_counts, advanced, Opened, found, index_at, past, past_leaf, alias_of, next_place, alias_needs, name_needs, found_path_index, path_needs, found_indices, needs, needs_leaf, needs_nodes}
use Rattle.comp_tables.specs.Built.{table_for, open_scope, made_names, made_defs, renumbered, held_in, held_leaf, held_nodes, made_scope}
use Rattle.comp_tables.specs.InText.{Marked, LeavesMarked, LeafMarked, NodesMarked, in_text, text_defs, text_held, text_held_leaf, text_held_nodes, text_scope}
use Rattle.comp_tables.specs.Stand.{RegistriesHold, TablesHold}
use Rattle.comp_expanded.proofs.FormKept.{same-binary, same-origins}
use Rattle.comp_tables.proofs.Read.{drop-range, next-range, sum-range}
use Rattle.comp_tables.proofs.Made.{made-built}

-- ---- numbers of references

-- definition k of the list is part of definition j of the text, and its references have these numbers there
abbrev Tells : List Entry → ℕ → ℕ → List ℕ → Type 0
Tells L k j ps = (definition_of (origin_at L k) ≡ j) × (places_at L k ≡ ps)

next-dropped : (u : ℕ) (ps : List ℕ) → next_place (drop u ps) ≡ slice_index ps u
next-dropped zero [] = refl
next-dropped (suc u) [] = refl
next-dropped zero (p ∷ ps) = refl
next-dropped (suc u) (p ∷ ps) = next-dropped u ps

-- the number of the next reference, in the list and in the text
next-told : (L : List Entry) (k j u : ℕ) (ps : List ℕ) → Tells L k j ps → text_number_at L k u ≡ next_place (drop u ps)
next-told L k j u ps t = ap (λ r. slice_index r u) t.1 ∙ sym (next-dropped u ps)

-- ---- the needs of a definition

alias-told : (os : List Opened) (L : List Entry) (k j u : ℕ) (ps : List ℕ) (s : Space) (d : Denoted) (a : Option ℕ) → Tells L k j ps → map (in_text L) (alias_needs os k u s d a) ≡ alias_needs os j (next_place (drop u ps)) s d a
alias-told os L k j u ps s d (Some i) t = refl
alias-told os L k j u ps s d None t =
    ap (λ n. make (outer_alias_of n (text_number_at L k u)) (alias_node d.depth s (index_at os d)) ∷ []) t.0
    ∙ ap (λ n. make (outer_alias_of j n) (alias_node d.depth s (index_at os d)) ∷ []) (next-told L k j u ps t)

name-told : (os : List Opened) (L : List Entry) (k j u : ℕ) (ps : List ℕ) (s : Space) (out : Bool) (o : Option Denoted) (c : Counters) → Tells L k j ps → map (in_text L) (name_needs os k u s out o c) ≡ name_needs os j (next_place (drop u ps)) s out o c
name-told os L k j u ps s true None c t = refl
name-told os L k j u ps s false None c t = refl
name-told os L k j u ps s false (Some d) c t = refl
name-told os L k j u ps s true (Some d) c t = alias-told os L k j u ps s d (alias_of s d c.aliases) t

-- at the first of numbers that begin with u
first-told : (os : List Opened) (L : List Entry) (k j u m : ℕ) (ps : List ℕ) (s : Space) (out : Bool) (o : Option Denoted) (c : Counters) → Tells L k j ps
    → map (in_text L) (name_needs os k (next_place (range_with_len u (1 + m))) s out o c) ≡ name_needs os j (next_place (drop u ps)) s out o c
first-told os L k j u m ps s out o c t = ap (λ v. map (in_text L) (name_needs os k v s out o c)) (next-range u m) ∙ name-told os L k j u ps s out o c t

path-told : (os : List Opened) (L : List Entry) (k j u : ℕ) (ps : List ℕ) (s : Space) (p : Path) (c : Counters) → Tells L k j ps → map (in_text L) (path_needs os k u s p c) ≡ path_needs os j (next_place (drop u ps)) s p c
path-told os L k j u ps s (root_number o n) c t = refl
path-told os L k j u ps s (root_name x) c t = refl
path-told os L k j u ps s (export_of p x) c t =
    let n : Node = step_node (found_path_index os (instance_space s) p c) x s in
    let v : ℕ = next_place (drop u ps) in
    map-append (in_text L) (path_needs os k u (instance_space s) p c) (make (export_step k u (steps p)) (step_node (found_path_index os (instance_space s) p c) x s) ∷ [])
    ∙ ap (λ r. r ++ make (export_step (definition_of (origin_at L k)) (text_number_at L k u) (steps p)) n ∷ []) (path-told os L k j u ps (instance_space s) p c t)
    ∙ ap (λ i. path_needs os j v (instance_space s) p c ++ make (export_step i (text_number_at L k u) (steps p)) n ∷ []) t.0
    ∙ ap (λ i. path_needs os j v (instance_space s) p c ++ make (export_step j i (steps p)) n ∷ []) (next-told L k j u ps t)

both-told : (L : List Entry) (xs ys ps qs : List Made) → map (in_text L) xs ≡ ps → map (in_text L) ys ≡ qs → map (in_text L) (xs ++ ys) ≡ ps ++ qs
both-told L xs ys ps qs p q = map-append (in_text L) xs ys ∙ rw (p, q) refl

mutual
  needs-told : (os : List Opened) (L : List Entry) (k j u m : ℕ) (ps : List ℕ) (ls : Leaves) (c : Counters) → Tells L k j ps → map (in_text L) (needs os k (range_with_len u (references ls + m)) ls c) ≡ needs os j (drop u ps) ls c
  needs-told os L k j u m ps no_leaf c t = refl
  needs-told os L k j u m ps (l ▸ ls) c t =
      let vs : List ℕ = range_with_len u (references_leaf l + (references ls + m)) in
      let d : Counters = past_leaf os l c in
      ap (λ i. map (in_text L) (needs os k i (l ▸ ls) c)) (sum-range u (references_leaf l) (references ls) m)
      ∙ ap (λ i. map (in_text L) (needs_leaf os k vs l c ++ needs os k i ls d)) (drop-range u (references_leaf l) (references ls + m))
      ∙ both-told L (needs_leaf os k vs l c) (needs os k (range_with_len (u + references_leaf l) (references ls + m)) ls d) (needs_leaf os j (drop u ps) l c) (needs os j (drop (u + references_leaf l) ps) ls d)
      (needs_leaf-told os L k j u (references ls + m) ps l c t) (needs-told os L k j (u + references_leaf l) m ps ls d t)
      ∙ ap (λ i. needs_leaf os j (drop u ps) l c ++ needs os j i ls d) (sym (drop-drop (references_leaf l) u ps))

  needs_leaf-told : (os : List Opened) (L : List Entry) (k j u m : ℕ) (ps : List ℕ) (l : Leaf) (c : Counters) → Tells L k j ps → map (in_text L) (needs_leaf os k (range_with_len u (references_leaf l + m)) l c) ≡ needs_leaf os j (drop u ps) l c
  needs_leaf-told os L k j u m ps (core_value (ref_name b r x)) c t = first-told os L k j u m ps CoreType (leads_out r (found os CoreType r x)) (found os CoreType r x) c t
  needs_leaf-told os L k j u m ps (ref s (name r x)) c t = first-told os L k j u m ps s (leads_out r (found os s r x)) (found os s r x) c t
  needs_leaf-told os L k j u m ps (ref s (path p)) c t = ap (λ v. map (in_text L) (path_needs os k v s p c)) (next-range u m) ∙ path-told os L k j u ps s p c t
  needs_leaf-told os L k j u m ps (present l) c t = needs_leaf-told os L k j u m ps l c t
  needs_leaf-told os L k j u m ps (node (row y ls)) c t = needs-told os L k j u m ps ls c t
  needs_leaf-told os L k j u m ps (nodes ns) c t = needs_nodes-told os L k j u m ps ns c t
  needs_leaf-told os L k j u m ps l c t = refl

  needs_nodes-told : (os : List Opened) (L : List Entry) (k j u m : ℕ) (ps : List ℕ) (ns : Nodes) (c : Counters) → Tells L k j ps → map (in_text L) (needs_nodes os k (range_with_len u (references_nodes ns + m)) ns c) ≡ needs_nodes os j (drop u ps) ns c
  needs_nodes-told os L k j u m ps no_node c t = refl
  needs_nodes-told os L k j u m ps (one_node (row y ls) ns) c t =
      let vs : List ℕ = range_with_len u (references ls + (references_nodes ns + m)) in
      let d : Counters = past os ls c in
      ap (λ i. map (in_text L) (needs_nodes os k i (one_node (row y ls) ns) c)) (sum-range u (references ls) (references_nodes ns) m)
      ∙ ap (λ i. map (in_text L) (needs os k vs ls c ++ needs_nodes os k i ns d)) (drop-range u (references ls) (references_nodes ns + m))
      ∙ both-told L (needs os k vs ls c) (needs_nodes os k (range_with_len (u + references ls) (references_nodes ns + m)) ns d) (needs os j (drop u ps) ls c) (needs_nodes os j (drop (u + references ls) ps) ns d)
      (needs-told os L k j u (references_nodes ns + m) ps ls c t) (needs_nodes-told os L k j (u + references ls) m ps ns d t)
      ∙ ap (λ i. needs os j (drop u ps) ls c ++ needs_nodes os j i ns d) (sym (drop-drop (references ls) u ps))

-- of a whole definition
whole-told : (os : List Opened) (L : List Entry) (k j : ℕ) (ps : List ℕ) (ls : Leaves) (c : Counters) → Tells L k j ps → map (in_text L) (needs os k (range_with_len 0 (references ls)) ls c) ≡ needs os j ps ls c
whole-told os L k j ps ls c t = let z : references ls ≡ references ls + 0 = omega arith in ap (λ n. map (in_text L) (needs os k (range_with_len 0 n) ls c)) z ∙ needs-told os L k j 0 0 ps ls c t

-- ---- an entry of a list

entry-there : (P : List Entry) (d : Entry) (Q : List Entry) (k : ℕ) → length P ≡ k
    → (origin_at (P ++ d ∷ Q) k ≡ d.origin) × (places_at (P ++ d ∷ Q) k ≡ d.places) × (list_at (P ++ d ∷ Q) k ≡ list_inside (scope_in d.leaves) d.held)
entry-there P d Q k e = subst (λ n. (origin_at (P ++ d ∷ Q) n ≡ d.origin) × (places_at (P ++ d ∷ Q) n ≡ d.places) × (list_at (P ++ d ∷ Q) n ≡ list_inside (scope_in d.leaves) d.held)) e (go P)
  where
    go : (P : List Entry) → (origin_at (P ++ d ∷ Q) (length P) ≡ d.origin) × (places_at (P ++ d ∷ Q) (length P) ≡ d.places) × (list_at (P ++ d ∷ Q) (length P) ≡ list_inside (scope_in d.leaves) d.held)
    go [] = (refl, refl, refl)
    go (x ∷ P) = go P

entry-tells : (L P : List Entry) (d : Entry) (Q : List Entry) (k : ℕ) → L ≡ P ++ d ∷ Q → length P ≡ k → Tells L k (definition_of d.origin) d.places
entry-tells L P d Q k e n =
    let there : (origin_at (P ++ d ∷ Q) k ≡ d.origin) × (places_at (P ++ d ∷ Q) k ≡ d.places) × (list_at (P ++ d ∷ Q) k ≡ list_inside (scope_in d.leaves) d.held) = entry-there P d Q k n in
    (ap (λ r. definition_of (origin_at r k)) e ∙ ap definition_of there.0, ap (λ r. places_at r k) e ∙ there.1)

-- ---- marks inside a definition: none, or those of its scope

abbrev HeldText : Held → Inside → Option Scope → Held → Type 0
HeldText i h d t = ((i ≡ holds_none) × (d ≡ None) × (t ≡ holds_none)) ⊎ ((s : Scope) × (ms : Origins) × (i ≡ holds ms) × (d ≡ Some s) × (t ≡ holds (marks_in_text (list_inside (Some s) h) ms)))

held-text : (i : Held) (h : Inside) (d : Option Scope) (t : Held) → HeldText i h d t → held_in_text (list_inside d h) i ≡ t
held-text i h d t (inl q) = rw q.0 (sym q.2)
held-text i h d t (inr q) = rw (q.2, q.3) (sym q.4)

both-held : (h : Inside) (i j : Held) (d e : Option Scope) (t v : Held) → HeldText i h d t → HeldText j h e v → HeldText (held_first i j) h (first_of_two d e) (held_first t v)
both-held h i j d e t v (inl q) r = rw (q.0, q.1, q.2) r
both-held h i j d e t v (inr q) r = inr (q.0, q.1, rw q.2 refl, rw q.3 refl, rw q.4 refl)

none-held : (h : Inside) → HeldText holds_none h None holds_none
none-held h = inl (refl, refl, refl)

module _ (e : Encoding) where
  end-told : (L : List Entry) (T : List ℕ) (s : Scope) (b : Bool) → map (in_text L) (made_names e T s b) ≡ made_names e T s b
  end-told L T s true = refl
  end-told L T s false = refl

  own-told : (L P : List Entry) (d : Entry) (Q : List Entry) (k : ℕ) (h t : Held) (n : Node) → L ≡ P ++ d ∷ Q → length P ≡ k → HeldText h d.held (scope_in d.leaves) t
      → in_text L (record { origin = written k; held = h; made = n }) ≡ record { origin = d.origin; held = t; made = n }
  own-told L P d Q k h t n e l q =
      ap (λ (o : Origin). record { origin = o; held = held_in_text (list_at L k) h; made = n }) (ap (λ r. origin_at r k) e ∙ (entry-there P d Q k l).0)
      ∙ ap (λ i. record { origin = d.origin; held = held_in_text i h; made = n }) (ap (λ r. list_at r k) e ∙ (entry-there P d Q k l).2)
      ∙ ap (λ (i : Held). record { origin = d.origin; held = i; made = n }) (held-text h d.held (scope_in d.leaves) t q)

  mutual
    defs-told : (os : List Opened) (L P : List Entry) (k : ℕ) (c : Counters) (ds : Defs) (ms : ListMarks) → L ≡ P ++ entries ds ms → length P ≡ k → Marked ds ms → map (in_text L) (made_defs e os k c ds) ≡ text_defs e os c ds ms
    defs-told os L P k c no_def ms q n m = refl
    defs-told os L P k c (one_def (define names (row t ls)) ds) no_marks q n m = absurd m
    defs-told os L P k c (one_def (define names (row t ls)) ds) (mark_then o ps h ms) q n m =
        let d : Entry = record { origin = o; places = ps; held = h; names = names; head = t; leaves = ls } in
        let i : Node = coded_node e t ls (renumbered e os (found_indices os ls c) 0 ls) in
        let q2 : L ≡ (P ++ d ∷ []) ++ entries ds ms = q ∙ sym (append_assoc P (d ∷ []) (entries ds ms)) in
        both-told L (needs os k (range_with_len 0 (references ls)) ls c ++ record { origin = written k; held = held_in e os ls; made = i } ∷ []) (made_defs e os (k + 1) (advanced (declares_row t ls) (past os ls c)) ds)
        (needs os (definition_of o) ps ls c ++ record { origin = o; held = text_held e os ls h; made = i } ∷ []) (text_defs e os (advanced (declares_row t ls) (past os ls c)) ds ms)
        (both-told L (needs os k (range_with_len 0 (references ls)) ls c) (record { origin = written k; held = held_in e os ls; made = i } ∷ []) (needs os (definition_of o) ps ls c) (record { origin = o; held = text_held e os ls h; made = i } ∷ [])
        (whole-told os L k (definition_of o) ps ls c (entry-tells L P d (entries ds ms) k q n))
        (ap (λ x. x ∷ []) (own-told L P d (entries ds ms) k (held_in e os ls) (text_held e os ls h) i q n (held-told os ls h m.0))))
        (defs-told os L (P ++ d ∷ []) (k + 1) (advanced (declares_row t ls) (past os ls c)) ds ms q2 (length_push P d ∙ ap (λ i. i + 1) n) m.1)

    held-told : (os : List Opened) (ls : Leaves) (h : Inside) → LeavesMarked ls h → HeldText (held_in e os ls) h (scope_in ls) (text_held e os ls h)
    held-told os no_leaf h m = none-held h
    held-told os (l ▸ ls) h m = both-held h (held_leaf e os l) (held_in e os ls) (scope_in_leaf l) (scope_in ls) (text_held_leaf e os l h) (text_held e os ls h) (held_leaf-told os l h m.0) (held-told os ls h m.1)

    held_leaf-told : (os : List Opened) (l : Leaf) (h : Inside) → LeafMarked l h → HeldText (held_leaf e os l) h (scope_in_leaf l) (text_held_leaf e os l h)
    held_leaf-told os (scope (scope_of kd id label ds)) nothing_inside m = absurd m
    held_leaf-told os (scope (scope_of kd id label ds)) (inside_are ms) m =
        let xs : List Made = made_defs e (open_scope os (scope_of kd id label ds) ∷ os) 0 no_counts ds in
        let ys : List Made = made_names e (table_for os (scope_of kd id label ds)) (scope_of kd id label ds) (has_names (scope_of kd id label ds)) in
        inr (
          scope_of kd id label ds,
          origins_of (made_defs e (open_scope os (scope_of kd id label ds) ∷ os) 0 no_counts ds ++ made_names e (table_for os (scope_of kd id label ds)) (scope_of kd id label ds) (has_names (scope_of kd id label ds))),
          refl,
          refl,
          ap holds (sym (ap origins_of (both-told (entries ds ms) xs ys (text_defs e (open_scope os (scope_of kd id label ds) ∷ os) no_counts ds ms) ys
              (defs-told (open_scope os (scope_of kd id label ds) ∷ os) (entries ds ms) [] 0 no_counts ds ms refl refl m)
              (end-told (entries ds ms) (table_for os (scope_of kd id label ds)) (scope_of kd id label ds) (has_names (scope_of kd id label ds)))))
              ∙ same-origins (entries ds ms) (xs ++ ys)),
        )
    held_leaf-told os (present l) h m = held_leaf-told os l h m
    held_leaf-told os (node (row t ls)) h m = held-told os ls h m
    held_leaf-told os (nodes ns) h m = held_nodes-told os ns h m
    held_leaf-told os l h m = none-held h

    held_nodes-told : (os : List Opened) (ns : Nodes) (h : Inside) → NodesMarked ns h → HeldText (held_nodes e os ns) h (scope_in_nodes ns) (text_held_nodes e os ns h)
    held_nodes-told os no_node h m = none-held h
    held_nodes-told os (one_node (row t ls) ns) h m = both-held h (held_in e os ls) (held_nodes e os ns) (scope_in ls) (scope_in_nodes ns) (text_held e os ls h) (text_held_nodes e os ns h) (held-told os ls h m.0) (held_nodes-told os ns h m.1)

  scope-told : (os : List Opened) (s : Scope) (ms : ListMarks) → Marked (defs_of s) ms → map (in_text (entries (defs_of s) ms)) (made_scope e os s) ≡ text_scope e os s ms
  scope-told os s ms m =
      both-told (entries (defs_of s) ms) (made_defs e (open_scope os s ∷ os) 0 no_counts (defs_of s)) (made_names e (table_for os s) s (has_names s))
      (text_defs e (open_scope os s ∷ os) no_counts (defs_of s) ms) (made_names e (table_for os s) s (has_names s))
      (defs-told (open_scope os s ∷ os) (entries (defs_of s) ms) [] 0 no_counts (defs_of s) ms refl refl m) (end-told (entries (defs_of s) ms) (table_for os s) s (has_names s))

  pub told-built : (os : List Opened) (st : List Scope) (s : Scope) (ms : ListMarks) → RegistriesHold os st → TablesHold os st → Rowed s → IsExpanded s → Marked (defs_of s) ms → text_scope e os s ms ≡ map (in_text (entries (defs_of s) ms)) (built e st s)
  told-built os st s ms h t r x m = sym (scope-told os s ms m) ∙ ap (map (in_text (entries (defs_of s) ms))) (made-built e os st s h t r x)

  -- the scope itself and its marks
  pub told-form : (os : List Opened) (s : Scope) (ms : ListMarks) → Marked (defs_of s) ms → binary_defs (text_scope e os s ms) ≡ binary_defs (made_scope e os s)
  told-form os s ms m = ap binary_defs (sym (scope-told os s ms m)) ∙ same-binary (entries (defs_of s) ms) (made_scope e os s)
