-- Plan, form, rule and first refusal don't hang on the spelling of ids.
use Rattle.comp_model.specs.Origins.{Origin, inline_type, written, outer_alias_of}
use Rattle.std.proofs.Common.{◌≡◌, ℕ, zero, suc, ◌+◌, Bool, true, false, ◌&&◌, ◌||◌, cond, replicate, List, [], ◌∷◌, ◌++◌, length, drop, map, find, is_some, Option, Some, None, option_map, refl, sym, ◌∙◌, ap}
use Rattle.std.proofs.Math.Bool.{or_assoc}
use Rattle.comp_model.specs.declared.Space.{Space}
use Rattle.comp_model.specs.declared.Space.TheVariants.{CoreType}
use Rattle.comp_model.specs.declared.row.Row.TheVariants as rows
use Rattle.comp_model.specs.declared.row.Row.{Row}
use Rattle.comp_model.specs.RowNumbers.{same_row}
use Rattle.comp_model.specs.Core.{Text, Id, is_of_text, same_id, Place, counted, named, Reach, outward, own, at_place, CoreValue, ref_name, label_or_id}
use Rattle.comp_model.specs.Model.{Leaf, text, number, kind, core_value, ref, place, absent, present, node, nodes, case_id, result_ids, result_count, core_source, module_bytes, scope, Target, index, numeral, name, Path, root_number, root_name, export_of, path, inline, bundle, Leaves, no_leaf, ◌▸◌, row, Nodes, no_node, one_node, count_nodes, define, Defs, no_def, one_def, Scope, scope_of, id_of}
use Rattle.comp_model.specs.declared.declares.Declares.{Declares}
use Rattle.comp_model.specs.declared.declares.Declares.TheVariants.{Always, ByKind, ByDescription, ByReference, ByList, ByResults, Nothing}
use Rattle.comp_model.specs.Spaces.{same_space, declares_by, leaf_spaces, leaves_spaces, spaces_by, declares_row, Declaration, parts, declarations_from, bears, declared}
use Rattle.comp_scopes.specs.Names.{Denoted, at_depth, first_of_two, denotes_outward, declared_at, scope_named, depth_of, at_that_depth, denotes}
use Rattle.comp_scopes.specs.References.{references, references_leaf, references_nodes, steps, instance_space}
use Rattle.comp_scopes.specs.Reused.{same_path, same_case, is_shared, same_leaves, same_leaf, same_target, same_nodes, Typed, earlier_type, typed_once, typed_inline, typed_within, types_of_leaves, types_of_leaf, types_of_nodes, written_type, types_of_defs, reused_type, reused}
use Rattle.comp_scopes.specs.Signatures.{same_place, same_reach, same_written_value, same_entry, same_written_values, same_written_signature, latest_equal, reused_signature}
use Rattle.comp_model.specs.ItemNames.{PartName, first_or_none, rest_of, part_names, names_from, any_named, has_names}
use Rattle.comp_scopes.specs.Outward.{Planned, plan_inline, Outward, outward_name, outward_leaves, outward_leaf, outward_nodes, outward_defs, outward_names, earlier_alias, served, leads_out}
use Rattle.comp_scopes.specs.Plan.{plan_alias, plan_name, plan_path, plan_leaves, plan_leaf, plan_nodes, plan_defs, export_marks, marks, item_index}
use Rattle.comp_scopes.specs.Renaming.{renamed_place, renamed_reach, renamed_value, renamed_path, renamed_scope, renamed_defs, renamed_leaves, renamed_leaf, renamed_target, renamed_nodes}

-- ---- what does not look at ids

module _ (f : Id → Id) where
  pub count-renamed : (ns : Nodes) → count_nodes (renamed_nodes f ns) ≡ count_nodes ns
  count-renamed no_node = refl
  count-renamed (one_node (row t ls) ns) = ap (λ n. n + 1) (count-renamed ns)

  pub length-map : {A : Type 0} (g : A → A) (xs : List A) → length (map g xs) ≡ length xs
  length-map g [] = refl
  length-map g (x ∷ xs) = ap suc (length-map g xs)

  spaces-list : (a b : Nodes) (d : Declares) → count_nodes a ≡ count_nodes b → leaf_spaces (nodes a) d ≡ leaf_spaces (nodes b) d
  spaces-list a b ByList h = ap (λ i. replicate i CoreType) h
  spaces-list a b _ h = refl

  spaces-results : (a b : List (Option Id)) (d : Declares) → length a ≡ length b → leaf_spaces (result_ids a) d ≡ leaf_spaces (result_ids b) d
  spaces-results a b ByResults h = ap (λ i. replicate i Rattle.comp_model.specs.declared.Space.TheVariants.Value) h
  spaces-results a b _ h = refl

  spaces-leaf : (l : Leaf) (d : Declares) → leaf_spaces (renamed_leaf f l) d ≡ leaf_spaces l d
  spaces-leaf (ref s (inline (row t ls))) d = refl
  spaces-leaf (ref s (bundle (row t ls))) d = refl
  spaces-leaf (node (row t ls)) d = refl
  spaces-leaf (nodes ns) d = spaces-list (renamed_nodes f ns) ns d (count-renamed ns)
  spaces-leaf (result_ids ids) d = spaces-results (map (option_map f) ids) ids d (length-map (option_map f) ids)
  spaces-leaf l d = refl

  spaces-leaves : (ls : Leaves) (d : Declares) → leaves_spaces (renamed_leaves f ls) d ≡ leaves_spaces ls d
  spaces-leaves no_leaf d = refl
  spaces-leaves (l ▸ ls) d = rw (spaces-leaf l d, spaces-leaves ls d) refl

  spaces_by-renamed : (ls : Leaves) (d : Declares) → spaces_by d (renamed_leaves f ls) ≡ spaces_by d ls
  spaces_by-renamed ls (Always s) = refl
  spaces_by-renamed ls Nothing = refl
  spaces_by-renamed ls ByKind = spaces-leaves ls ByKind
  spaces_by-renamed ls ByDescription = spaces-leaves ls ByDescription
  spaces_by-renamed ls ByReference = spaces-leaves ls ByReference
  spaces_by-renamed ls ByList = spaces-leaves ls ByList
  spaces_by-renamed ls ByResults = spaces-leaves ls ByResults

  pub declares-renamed : (t : Row) (ls : Leaves) → declares_row t (renamed_leaves f ls) ≡ declares_row t ls
  declares-renamed t ls = spaces_by-renamed ls (declares_by t)

  references-value : (v : CoreValue) → references_leaf (core_value (renamed_value f v)) ≡ references_leaf (core_value v)
  references-value (ref_name b r x) = refl
  references-value v = refl

  mutual
    pub references-renamed : (ls : Leaves) → references (renamed_leaves f ls) ≡ references ls
    references-renamed no_leaf = refl
    references-renamed (l ▸ ls) = rw (references_leaf-renamed l, references-renamed ls) refl

    pub references_leaf-renamed : (l : Leaf) → references_leaf (renamed_leaf f l) ≡ references_leaf l
    references_leaf-renamed (core_value v) = references-value v
    references_leaf-renamed (ref s (inline (row t ls))) = ap (λ n. 1 + n) (references-renamed ls)
    references_leaf-renamed (ref s (bundle (row t ls))) = ap (λ n. 1 + n) (references-renamed ls)
    references_leaf-renamed (present l) = references_leaf-renamed l
    references_leaf-renamed (node (row t ls)) = references-renamed ls
    references_leaf-renamed (nodes ns) = references_nodes-renamed ns
    references_leaf-renamed l = refl

    references_nodes-renamed : (ns : Nodes) → references_nodes (renamed_nodes f ns) ≡ references_nodes ns
    references_nodes-renamed no_node = refl
    references_nodes-renamed (one_node (row t ls) ns) = rw (references-renamed ls, references_nodes-renamed ns) refl

  pub steps-renamed : (p : Path) → steps (renamed_path f p) ≡ steps p
  steps-renamed (root_number o n) = refl
  steps-renamed (root_name x) = refl
  steps-renamed (export_of p t) = ap (λ n. n + 1) (steps-renamed p)

  -- ---- declarations

  abbrev pub decl : Declaration → Declaration
  decl d = record { space = d.space; id = option_map f d.id; definition = d.definition; part = d.part }

  abbrev pub den : Denoted → Denoted
  den d = record { depth = d.depth; item = decl d.item }

  parts-renamed : (k p : ℕ) (ids : List (Option Id)) (ss : List Space) → parts k p (map (option_map f) ids) ss ≡ map decl (parts k p ids ss)
  parts-renamed k p ids [] = refl
  parts-renamed k p [] (s ∷ ss) = ap (λ r. record { space = s; id = None; definition = k; part = p } ∷ r) (parts-renamed k (p + 1) [] ss)
  parts-renamed k p (x ∷ xs) (s ∷ ss) = ap (λ r. record { space = s; id = option_map f x; definition = k; part = p } ∷ r) (parts-renamed k (p + 1) xs ss)

  map-app : {A B : Type 0} (g : A → B) (xs ys : List A) → map g xs ++ map g ys ≡ map g (xs ++ ys)
  map-app g [] ys = refl
  map-app g (x ∷ xs) ys = ap (λ r. g x ∷ r) (map-app g xs ys)

  pub declarations-renamed : (k : ℕ) (ds : Defs) → declarations_from k (renamed_defs f ds) ≡ map decl (declarations_from k ds)
  declarations-renamed k no_def = refl
  declarations-renamed k (one_def (define names (row t ls)) ds) =
      rw (declares-renamed t ls, parts-renamed k 0 names.ids (declares_row t ls), declarations-renamed (k + 1) ds) (map-app decl (parts k 0 names.ids (declares_row t ls)) (declarations_from (k + 1) ds))

  pub length-renamed : (st : List Scope) → length (map (renamed_scope f) st) ≡ length st
  length-renamed [] = refl
  length-renamed (c ∷ st) = ap suc (length-renamed st)

  drop-renamed : (n : ℕ) (st : List Scope) → drop n (map (renamed_scope f) st) ≡ map (renamed_scope f) (drop n st)
  drop-renamed zero st = refl
  drop-renamed (suc n) [] = refl
  drop-renamed (suc n) (c ∷ st) = drop-renamed n st

-- ---- what looks whether an id stands in the text

pub named-app : (xs ys : List PartName) → any_named (xs ++ ys) ≡ (any_named xs || any_named ys)
named-app [] ys = refl
named-app (x ∷ xs) ys = rw (named-app xs ys) (sym (or_assoc (is_some x.name) (any_named xs) (any_named ys)))

module _ (f : Id → Id) (numbered : (x : Id) → (f x).number ≡ x.number) where
  some-label : (l : Option Text) (x : Option Id) → is_some (label_or_id l (option_map f x)) ≡ is_some (label_or_id l x)
  some-label (Some t) x = refl
  some-label None None = refl
  some-label None (Some x) = rw (numbered x) (go (is_of_text x))
    where
      go : (b : Bool) → is_some (cond b (Some (f x).name) None) ≡ is_some (cond b (Some x.name) None)
      go true = refl
      go false = refl

  first-map : (ids : List (Option Id)) → first_or_none (map (option_map f) ids) ≡ option_map f (first_or_none ids)
  first-map [] = refl
  first-map (x ∷ xs) = refl

  rest-map : (ids : List (Option Id)) → rest_of (map (option_map f) ids) ≡ map (option_map f) (rest_of ids)
  rest-map [] = refl
  rest-map (x ∷ xs) = refl

  parts-named : (k p : ℕ) (ids : List (Option Id)) (labels : List (Option Text)) (ss : List Space) → any_named (part_names k p (map (option_map f) ids) labels ss) ≡ any_named (part_names k p ids labels ss)
  parts-named k p ids labels [] = refl
  parts-named k p ids labels (s ∷ ss) = rw (first-map ids, rest-map ids, some-label (first_or_none labels) (first_or_none ids), parts-named k (p + 1) (rest_of ids) (rest_of labels) ss) refl

  defs-named : (k : ℕ) (ds : Defs) → any_named (names_from k (renamed_defs f ds)) ≡ any_named (names_from k ds)
  defs-named k no_def = refl
  defs-named k (one_def (define names (row t ls)) ds) =
      named-app (part_names k 0 (map (option_map f) names.ids) names.labels (declares_row t (renamed_leaves f ls))) (names_from (k + 1) (renamed_defs f ds))
      ∙ rw (declares-renamed f t ls, parts-named k 0 names.ids names.labels (declares_row t ls), defs-named (k + 1) ds) refl
      ∙ sym (named-app (part_names k 0 names.ids names.labels (declares_row t ls)) (names_from (k + 1) ds))

  pub has_names-renamed : (s : Scope) → has_names (renamed_scope f s) ≡ has_names s
  has_names-renamed (scope_of k id label ds) = rw (some-label label id, defs-named 0 ds) refl

-- ---- what looks whether two ids are the same

module _ (f : Id → Id) (same : (x y : Id) → same_id (f x) (f y) ≡ same_id x y) (numbered : (x : Id) → (f x).number ≡ x.number) where
  pub bears-renamed : (x : Id) (y : Option Id) → bears (f x) (option_map f y) ≡ bears x y
  bears-renamed x None = refl
  bears-renamed x (Some y) = same x y

  find-renamed : (s : Space) (x : Id) (ds : List Declaration) → find (λ d. same_space s d.space && bears (f x) d.id) (map (decl f) ds) ≡ option_map (decl f) (find (λ d. same_space s d.space && bears x d.id) ds)
  find-renamed s x [] = refl
  find-renamed s x (d ∷ ds) = rw (bears-renamed x d.id) (go (same_space s d.space && bears x d.id) (find-renamed s x ds))
    where
      go : (b : Bool) → find (λ d. same_space s d.space && bears (f x) d.id) (map (decl f) ds) ≡ option_map (decl f) (find (λ d. same_space s d.space && bears x d.id) ds)
          → cond b (Some (decl f d)) (find (λ d. same_space s d.space && bears (f x) d.id) (map (decl f) ds)) ≡ option_map (decl f) (cond b (Some d) (find (λ d. same_space s d.space && bears x d.id) ds))
      go true e = refl
      go false e = e

  declared-renamed : (c : Scope) (s : Space) (x : Id) → declared (renamed_scope f c) s (f x) ≡ option_map (decl f) (declared c s x)
  declared-renamed (scope_of k id label ds) s x = rw (declarations-renamed f 0 ds) (find-renamed s x (declarations_from 0 ds))

  at_depth-renamed : (d : ℕ) (o : Option Declaration) → at_depth d (option_map (decl f) o) ≡ option_map (den f) (at_depth d o)
  at_depth-renamed d None = refl
  at_depth-renamed d (Some x) = refl

  first-renamed : (a b : Option Denoted) → first_of_two (option_map (den f) a) (option_map (den f) b) ≡ option_map (den f) (first_of_two a b)
  first-renamed None b = refl
  first-renamed (Some x) b = refl

  outward-renamed : (d : ℕ) (st : List Scope) (s : Space) (x : Id) → denotes_outward d (map (renamed_scope f) st) s (f x) ≡ option_map (den f) (denotes_outward d st s x)
  outward-renamed d [] s x = refl
  outward-renamed d (c ∷ st) s x = rw (declared-renamed c s x, at_depth-renamed d (declared c s x), outward-renamed (d + 1) st s x) (first-renamed (at_depth d (declared c s x)) (denotes_outward (d + 1) st s x))

  declared_at-renamed : (d : ℕ) (st : List Scope) (i : ℕ) (s : Space) (x : Id) → declared_at d (map (renamed_scope f) st) i s (f x) ≡ option_map (den f) (declared_at d st i s x)
  declared_at-renamed d [] i s x = refl
  declared_at-renamed d (c ∷ st) zero s x = rw (declared-renamed c s x) (at_depth-renamed d (declared c s x))
  declared_at-renamed d (c ∷ st) (suc i) s x = declared_at-renamed (d + 1) st i s x

  id_of-renamed : (c : Scope) → id_of (renamed_scope f c) ≡ option_map f (id_of c)
  id_of-renamed (scope_of k id label ds) = refl

  pub scope_named-renamed : (d : ℕ) (st : List Scope) (x : Id) → scope_named d (map (renamed_scope f) st) (f x) ≡ scope_named d st x
  scope_named-renamed d [] x = refl
  scope_named-renamed d (c ∷ st) x = rw (id_of-renamed c, bears-renamed x (id_of c), scope_named-renamed (d + 1) st x) refl

  pub depth_of-renamed : (st : List Scope) (p : Place) → depth_of (map (renamed_scope f) st) (renamed_place f p) ≡ depth_of st p
  depth_of-renamed st (counted o d) = rw (length-renamed f st) refl
  depth_of-renamed st (named o x) = scope_named-renamed 0 st x

  that_depth-renamed : (st : List Scope) (o : Option ℕ) (s : Space) (x : Id) → at_that_depth (map (renamed_scope f) st) o s (f x) ≡ option_map (den f) (at_that_depth st o s x)
  that_depth-renamed st None s x = refl
  that_depth-renamed st (Some d) s x = declared_at-renamed 0 st d s x

  pub denotes-renamed : (st : List Scope) (s : Space) (r : Reach) (x : Id) → denotes (map (renamed_scope f) st) s (renamed_reach f r) (f x) ≡ option_map (den f) (denotes st s r x)
  denotes-renamed st s outward x = outward-renamed 0 st s x
  denotes-renamed st s own x = declared_at-renamed 0 st 0 s x
  denotes-renamed st s (at_place p) x = rw (depth_of-renamed st p) (that_depth-renamed st (depth_of st p) s x)

  pub leads_out-renamed : (r : Reach) (o : Option Denoted) → leads_out (renamed_reach f r) (option_map (den f) o) ≡ leads_out r o
  leads_out-renamed outward None = refl
  leads_out-renamed outward (Some d) = refl
  leads_out-renamed own o = refl
  leads_out-renamed (at_place p) o = refl

  out-renamed : (st : List Scope) (s : Space) (r : Reach) (x : Id) → leads_out (renamed_reach f r) (denotes (map (renamed_scope f) st) s (renamed_reach f r) (f x)) ≡ leads_out r (denotes st s r x)
  out-renamed st s r x = rw (denotes-renamed st s r x) (leads_out-renamed r (denotes st s r x))

  -- ---- signatures

  same_place-renamed : (p q : Place) → same_place (renamed_place f p) (renamed_place f q) ≡ same_place p q
  same_place-renamed (counted o d) (counted v i) = refl
  same_place-renamed (named o x) (named v y) = same x y
  same_place-renamed (counted o d) (named v y) = refl
  same_place-renamed (named o x) (counted v i) = refl

  same_reach-renamed : (r q : Reach) → same_reach (renamed_reach f r) (renamed_reach f q) ≡ same_reach r q
  same_reach-renamed (at_place p) (at_place q) = same_place-renamed p q
  same_reach-renamed outward outward = refl
  same_reach-renamed own own = refl
  same_reach-renamed _ _ = refl

  same_value-renamed : (v w : CoreValue) → same_written_value (renamed_value f v) (renamed_value f w) ≡ same_written_value v w
  same_value-renamed (ref_name b r x) (ref_name d q y) = rw (same_reach-renamed r q, same x y) refl
  same_value-renamed v (ref_name d q y) = refl
  same_value-renamed v w = refl

  same_entry-renamed : (ls ms : Leaves) → same_entry (renamed_leaves f ls) (renamed_leaves f ms) ≡ same_entry ls ms
  same_entry-renamed (core_value v ▸ no_leaf) (core_value w ▸ no_leaf) = same_value-renamed v w
  same_entry-renamed _ _ = refl

  same_values-renamed : (ns ms : Nodes) → same_written_values (renamed_nodes f ns) (renamed_nodes f ms) ≡ same_written_values ns ms
  same_values-renamed no_node no_node = refl
  same_values-renamed (one_node (row t ls) ns) (one_node (row u ms) ks) = rw (same_entry-renamed ls ms, same_values-renamed ns ks) refl
  same_values-renamed no_node (one_node (row u ms) ks) = refl
  same_values-renamed (one_node (row t ls) ns) no_node = refl

  same_signature-renamed : (ls ms : Leaves) → same_written_signature (renamed_leaves f ls) (renamed_leaves f ms) ≡ same_written_signature ls ms
  same_signature-renamed (nodes ps ▸ nodes rs ▸ no_leaf) (nodes qs ▸ nodes ss ▸ no_leaf) = rw (same_values-renamed ps qs, same_values-renamed rs ss) refl
  same_signature-renamed _ _ = refl

  latest-renamed : (n k : ℕ) (ds : Defs) (ms : Leaves) (found : Option ℕ) → latest_equal n k (renamed_defs f ds) (renamed_leaves f ms) found ≡ latest_equal n k ds ms found
  latest-renamed zero k ds ms found = refl
  latest-renamed (suc n) k no_def ms found = refl
  latest-renamed (suc n) k (one_def (define names (row t ls)) ds) ms found =
      rw (same_signature-renamed ls ms) (latest-renamed n (k + 1) ds ms (cond (same_row t rows.CoreFunctionType && same_written_signature ls ms) (Some k) found))

  signature-renamed : (st : List Scope) (k : ℕ) (t : Row) (ls : Leaves) → reused_signature (map (renamed_scope f) st) k t (renamed_leaves f ls) ≡ reused_signature st k t ls
  signature-renamed [] k t ls = refl
  signature-renamed (scope_of c id label ds ∷ st) k t ls = rw (latest-renamed k 0 ds ls None) refl

  -- ---- types

  same_path-renamed : (p q : Path) → same_path (renamed_path f p) (renamed_path f q) ≡ same_path p q
  same_path-renamed (root_number o n) (root_number v m) = refl
  same_path-renamed (root_name x) (root_name y) = same x y
  same_path-renamed (export_of p t) (export_of q v) = rw (same_path-renamed p q) refl
  same_path-renamed _ _ = refl

  same_case-renamed : (x y : Option Id) → same_case (option_map f x) (option_map f y) ≡ same_case x y
  same_case-renamed (Some x) (Some y) = same x y
  same_case-renamed None None = refl
  same_case-renamed None (Some y) = refl
  same_case-renamed (Some x) None = refl

  mutual
    same_leaves-renamed : (ls ms : Leaves) → same_leaves (renamed_leaves f ls) (renamed_leaves f ms) ≡ same_leaves ls ms
    same_leaves-renamed (l ▸ ls) (m ▸ ms) = rw (same_leaf-renamed l m, same_leaves-renamed ls ms) refl
    same_leaves-renamed no_leaf no_leaf = refl
    same_leaves-renamed no_leaf (m ▸ ms) = refl
    same_leaves-renamed (l ▸ ls) no_leaf = refl

    same_leaf-renamed : (l m : Leaf) → same_leaf (renamed_leaf f l) (renamed_leaf f m) ≡ same_leaf l m
    same_leaf-renamed (ref s t) (ref r v) = rw (same_target-renamed t v) refl
    same_leaf-renamed (present l) (present m) = same_leaf-renamed l m
    same_leaf-renamed (nodes ns) (nodes ks) = same_nodes-renamed ns ks
    same_leaf-renamed (case_id x) (case_id y) = same_case-renamed x y
    same_leaf-renamed (text t) (text v) = refl
    same_leaf-renamed (number n) (number m) = refl
    same_leaf-renamed (kind s) (kind r) = refl
    same_leaf-renamed (core_value v) (core_value w) = refl
    same_leaf-renamed (place p) (place q) = refl
    same_leaf-renamed absent absent = refl
    same_leaf-renamed (node n) (node m) = refl
    same_leaf-renamed (result_ids n) (result_ids m) = refl
    same_leaf-renamed (result_count n) (result_count m) = refl
    same_leaf-renamed (core_source n) (core_source m) = refl
    same_leaf-renamed (module_bytes n) (module_bytes m) = refl
    same_leaf-renamed (scope n) (scope m) = refl
    same_leaf-renamed _ _ = refl

    same_target-renamed : (t v : Target) → same_target (renamed_target f t) (renamed_target f v) ≡ same_target t v
    same_target-renamed (name r x) (name q y) = rw (same_reach-renamed r q, same x y) refl
    same_target-renamed (path p) (path q) = same_path-renamed p q
    same_target-renamed (inline (row t ls)) (inline (row v ms)) = rw (same_leaves-renamed ls ms) refl
    same_target-renamed (index i) (index j) = refl
    same_target-renamed (numeral o n) (numeral p m) = refl
    same_target-renamed (bundle n) (bundle m) = refl
    same_target-renamed _ _ = refl

    same_nodes-renamed : (ns ks : Nodes) → same_nodes (renamed_nodes f ns) (renamed_nodes f ks) ≡ same_nodes ns ks
    same_nodes-renamed (one_node (row t ls) ns) (one_node (row v ms) ks) = rw (same_leaves-renamed ls ms, same_nodes-renamed ns ks) refl
    same_nodes-renamed no_node no_node = refl
    same_nodes-renamed no_node (one_node (row v ms) ks) = refl
    same_nodes-renamed (one_node (row t ls) ns) no_node = refl

  abbrev typed : Typed → Typed
  typed x = record { origin = x.origin; tag = x.tag; leaves = renamed_leaves f x.leaves }

  earlier_type-renamed : (o : Origin) (t : Row) (ls : Leaves) (xs : List Typed) → earlier_type o t (renamed_leaves f ls) (map typed xs) ≡ earlier_type o t ls xs
  earlier_type-renamed o t ls [] = refl
  earlier_type-renamed o t ls (x ∷ xs) = rw (same_leaves-renamed ls x.leaves, earlier_type-renamed o t ls xs) refl

  once-renamed : (x : Typed) (new : List Typed) (o : Option Origin) → typed_once (typed x) (map typed new) o ≡ map typed (typed_once x new o)
  once-renamed x new (Some o) = refl
  once-renamed x new None = map-app f typed new (x ∷ [])

  within-renamed : (j : Option ℕ) (new : List Typed) → typed_within j (map typed new) ≡ map typed (typed_within j new)
  within-renamed (Some j) new = refl
  within-renamed None new = refl

  -- of an inline node, whose inner ones are `new`
  typed-renamed : (x : Typed) (earlier new : List Typed) (j : Option ℕ) (b : Bool) → cond b (typed_inline (typed x) (map typed earlier) (map typed new)) (typed_within j (map typed new)) ≡ map typed (cond b (typed_inline x earlier new) (typed_within j new))
  typed-renamed x earlier new j false = within-renamed j new
  typed-renamed x earlier new j true =
      rw (map-app f typed earlier new, earlier_type-renamed x.origin x.tag x.leaves (earlier ++ new)) (once-renamed x new (earlier_type x.origin x.tag x.leaves (earlier ++ new)))

  mutual
    types_of_leaves-renamed : (c : Scope) (k u : ℕ) (ls : Leaves) (earlier : List Typed) → types_of_leaves (renamed_scope f c) k u (renamed_leaves f ls) (map typed earlier) ≡ map typed (types_of_leaves c k u ls earlier)
    types_of_leaves-renamed c k u no_leaf earlier = refl
    types_of_leaves-renamed c k u (l ▸ ls) earlier =
        rw (references_leaf-renamed f l, types_of_leaf-renamed c k u l earlier, map-app f typed earlier (types_of_leaf c k u l earlier), types_of_leaves-renamed c k (u + references_leaf l) ls (earlier ++ types_of_leaf c k u l earlier))
        (map-app f typed (types_of_leaf c k u l earlier) (types_of_leaves c k (u + references_leaf l) ls (earlier ++ types_of_leaf c k u l earlier)))

    types_of_leaf-renamed : (c : Scope) (k u : ℕ) (l : Leaf) (earlier : List Typed) → types_of_leaf (renamed_scope f c) k u (renamed_leaf f l) (map typed earlier) ≡ map typed (types_of_leaf c k u l earlier)
    types_of_leaf-renamed c k u (ref s (inline (row t ls))) earlier =
        rw (types_of_leaves-renamed c k (u + 1) ls earlier, signature-renamed (c ∷ []) k t ls)
        (typed-renamed (record { origin = inline_type k u; tag = t; leaves = ls }) earlier (types_of_leaves c k (u + 1) ls earlier) (reused_signature (c ∷ []) k t ls) (is_shared t))
    types_of_leaf-renamed c k u (ref s (bundle (row t ls))) earlier = types_of_leaves-renamed c k (u + 1) ls earlier
    types_of_leaf-renamed c k u (present l) earlier = types_of_leaf-renamed c k u l earlier
    types_of_leaf-renamed c k u (node (row t ls)) earlier = types_of_leaves-renamed c k u ls earlier
    types_of_leaf-renamed c k u (nodes ns) earlier = types_of_nodes-renamed c k u ns earlier
    types_of_leaf-renamed c k u l earlier = refl

    types_of_nodes-renamed : (c : Scope) (k u : ℕ) (ns : Nodes) (earlier : List Typed) → types_of_nodes (renamed_scope f c) k u (renamed_nodes f ns) (map typed earlier) ≡ map typed (types_of_nodes c k u ns earlier)
    types_of_nodes-renamed c k u no_node earlier = refl
    types_of_nodes-renamed c k u (one_node (row t ls) ns) earlier =
        rw (references-renamed f ls, types_of_leaves-renamed c k u ls earlier, map-app f typed earlier (types_of_leaves c k u ls earlier), types_of_nodes-renamed c k (u + references ls) ns (earlier ++ types_of_leaves c k u ls earlier))
        (map-app f typed (types_of_leaves c k u ls earlier) (types_of_nodes c k (u + references ls) ns (earlier ++ types_of_leaves c k u ls earlier)))

  written-renamed : (k : ℕ) (t : Row) (ls : Leaves) → written_type k t (renamed_leaves f ls) ≡ map typed (written_type k t ls)
  written-renamed k t ls = go (is_shared t)
    where
      go : (b : Bool) → cond b (record { origin = written k; tag = t; leaves = renamed_leaves f ls } ∷ []) [] ≡ map typed (cond b (record { origin = written k; tag = t; leaves = ls } ∷ []) [])
      go true = refl
      go false = refl

  types_of_defs-renamed : (c : Scope) (k : ℕ) (ds : Defs) (earlier : List Typed) → types_of_defs (renamed_scope f c) k (renamed_defs f ds) (map typed earlier) ≡ map typed (types_of_defs c k ds earlier)
  types_of_defs-renamed c k no_def earlier = refl
  types_of_defs-renamed c k (one_def (define names (row t ls)) ds) earlier =
      let new : List Typed = types_of_leaves c k 0 ls earlier ++ written_type k t ls in
      rw (
        types_of_leaves-renamed c k 0 ls earlier,
        written-renamed k t ls,
        map-app f typed (types_of_leaves c k 0 ls earlier) (written_type k t ls),
        map-app f typed earlier (types_of_leaves c k 0 ls earlier ++ written_type k t ls),
        types_of_defs-renamed c (k + 1) ds (earlier ++ (types_of_leaves c k 0 ls earlier ++ written_type k t ls)),
      ) (map-app f typed new (types_of_defs c (k + 1) ds (earlier ++ new)))

  reused_type-renamed : (st : List Scope) (k u : ℕ) (t : Row) (ls : Leaves) → reused_type (map (renamed_scope f) st) k u t (renamed_leaves f ls) ≡ reused_type st k u t ls
  reused_type-renamed [] k u t ls = refl
  reused_type-renamed (scope_of c id label ds ∷ st) k u t ls = rw (types_of_defs-renamed (scope_of c id label ds) 0 ds []) (earlier_type-renamed (inline_type k u) t ls (types_of_defs (scope_of c id label ds) 0 ds []))

  pub reused-renamed : (st : List Scope) (k u : ℕ) (t : Row) (ls : Leaves) → reused (map (renamed_scope f) st) k u t (renamed_leaves f ls) ≡ reused st k u t ls
  reused-renamed st k u t ls = rw (reused_type-renamed st k u t ls, signature-renamed st k t ls) refl

  -- ---- names that lead out

  abbrev led : Outward → Outward
  led w = record { origin = w.origin; space = w.space; denoted = den f w.denoted }

  abbrev all_led : Planned Outward → Planned Outward
  all_led p = record { inlined = map led p.inlined; bundles = map led p.bundles; needed = map led p.needed }

  outward_name-renamed : (k u : ℕ) (s : Space) (b : Bool) (o : Option Denoted) → outward_name k u s b (option_map (den f) o) ≡ all_led (outward_name k u s b o)
  outward_name-renamed k u s true None = refl
  outward_name-renamed k u s false None = refl
  outward_name-renamed k u s true (Some d) = refl
  outward_name-renamed k u s false (Some d) = refl

  outward_value-renamed : (st : List Scope) (k u : ℕ) (v : CoreValue) → outward_leaf (map (renamed_scope f) st) k u (core_value (renamed_value f v)) ≡ all_led (outward_leaf st k u (core_value v))
  outward_value-renamed st k u (ref_name b r x) =
      rw (denotes-renamed st CoreType r x, leads_out-renamed r (denotes st CoreType r x)) (outward_name-renamed k u CoreType (leads_out r (denotes st CoreType r x)) (denotes st CoreType r x))
  outward_value-renamed st k u v = refl

  own-renamed : (p : Planned Outward) → map led p.inlined ++ (map led p.bundles ++ (map led p.needed ++ [])) ≡ map led (p.inlined ++ (p.bundles ++ (p.needed ++ [])))
  own-renamed p = rw (map-app f led p.needed [], map-app f led p.bundles (p.needed ++ [])) (map-app f led p.inlined (p.bundles ++ (p.needed ++ [])))

  inline-renamed : (j : Option Origin) (p : Planned Outward) → plan_inline j (all_led p) [] ≡ all_led (plan_inline j p [])
  inline-renamed (Some o) p = refl
  inline-renamed None p = rw (own-renamed p) refl

  mutual
    outward_leaves-renamed : (st : List Scope) (k u : ℕ) (ls : Leaves) → outward_leaves (map (renamed_scope f) st) k u (renamed_leaves f ls) ≡ all_led (outward_leaves st k u ls)
    outward_leaves-renamed st k u no_leaf = refl
    outward_leaves-renamed st k u (l ▸ ls) =
        let a : Planned Outward = outward_leaf st k u l in
        let b : Planned Outward = outward_leaves st k (u + references_leaf l) ls in
        rw (references_leaf-renamed f l, outward_leaf-renamed st k u l, outward_leaves-renamed st k (u + references_leaf l) ls)
        (rw (map-app f led a.inlined b.inlined, map-app f led a.bundles b.bundles, map-app f led a.needed b.needed) refl)

    outward_leaf-renamed : (st : List Scope) (k u : ℕ) (l : Leaf) → outward_leaf (map (renamed_scope f) st) k u (renamed_leaf f l) ≡ all_led (outward_leaf st k u l)
    outward_leaf-renamed st k u (core_value v) = outward_value-renamed st k u v
    outward_leaf-renamed st k u (ref s (name r x)) = rw (denotes-renamed st s r x, leads_out-renamed r (denotes st s r x)) (outward_name-renamed k u s (leads_out r (denotes st s r x)) (denotes st s r x))
    outward_leaf-renamed st k u (ref s (inline (row t ls))) = rw (reused-renamed st k u t ls, outward_leaves-renamed st k (u + 1) ls) (inline-renamed (reused st k u t ls) (outward_leaves st k (u + 1) ls))
    outward_leaf-renamed st k u (ref s (bundle (row t ls))) =
        let p : Planned Outward = outward_leaves st k (u + 1) ls in
        rw (outward_leaves-renamed st k (u + 1) ls) (rw (map-app f led p.needed [], map-app f led p.bundles (p.needed ++ [])) refl)
    outward_leaf-renamed st k u (present l) = outward_leaf-renamed st k u l
    outward_leaf-renamed st k u (node (row t ls)) = outward_leaves-renamed st k u ls
    outward_leaf-renamed st k u (nodes ns) = outward_nodes-renamed st k u ns
    outward_leaf-renamed st k u l = refl

    outward_nodes-renamed : (st : List Scope) (k u : ℕ) (ns : Nodes) → outward_nodes (map (renamed_scope f) st) k u (renamed_nodes f ns) ≡ all_led (outward_nodes st k u ns)
    outward_nodes-renamed st k u no_node = refl
    outward_nodes-renamed st k u (one_node (row t ls) ns) =
        let a : Planned Outward = outward_leaves st k u ls in
        let b : Planned Outward = outward_nodes st k (u + references ls) ns in
        rw (references-renamed f ls, outward_leaves-renamed st k u ls, outward_nodes-renamed st k (u + references ls) ns)
        (rw (map-app f led a.inlined b.inlined, map-app f led a.bundles b.bundles, map-app f led a.needed b.needed) refl)

  outward_defs-renamed : (st : List Scope) (k : ℕ) (ds : Defs) → outward_defs (map (renamed_scope f) st) k (renamed_defs f ds) ≡ map led (outward_defs st k ds)
  outward_defs-renamed st k no_def = refl
  outward_defs-renamed st k (one_def (define names (row t ls)) ds) =
      let p : Planned Outward = outward_leaves st k 0 ls in
      rw (outward_leaves-renamed st k 0 ls, outward_defs-renamed st (k + 1) ds, own-renamed p) (map-app f led (p.inlined ++ (p.bundles ++ (p.needed ++ []))) (outward_defs st (k + 1) ds))

  earlier_alias-renamed : (o : Origin) (s : Space) (d : Denoted) (ws : List Outward) → earlier_alias o s (den f d) (map led ws) ≡ earlier_alias o s d ws
  earlier_alias-renamed o s d [] = refl
  earlier_alias-renamed o s d (w ∷ ws) = rw (earlier_alias-renamed o s d ws) refl

  pub served-renamed : (st : List Scope) (k u : ℕ) (s : Space) (d : Denoted) → served (map (renamed_scope f) st) k u s (den f d) ≡ served st k u s d
  served-renamed [] k u s d = refl
  served-renamed (scope_of c id label ds ∷ st) k u s d =
      rw (outward_defs-renamed (scope_of c id label ds ∷ st) 0 ds) (earlier_alias-renamed (outer_alias_of k u) s d (outward_names (scope_of c id label ds ∷ st)))

  plan_name-renamed : (st : List Scope) (k u : ℕ) (s : Space) (b : Bool) (o : Option Denoted) → plan_name (map (renamed_scope f) st) k u s b (option_map (den f) o) ≡ plan_name st k u s b o
  plan_name-renamed st k u s true None = refl
  plan_name-renamed st k u s false None = refl
  plan_name-renamed st k u s false (Some d) = refl
  plan_name-renamed st k u s true (Some d) = ap (plan_alias k u s) (served-renamed st k u s d)

  -- ---- the marks

  path-marks : (k u : ℕ) (s : Space) (p : Path) → plan_path k u s (renamed_path f p) ≡ plan_path k u s p
  path-marks k u s (root_number o n) = refl
  path-marks k u s (root_name x) = refl
  path-marks k u s (export_of p t) = rw (path-marks k u (instance_space s) p, steps-renamed f p) refl

  value-marks : (st : List Scope) (k u : ℕ) (v : CoreValue) → plan_leaf (map (renamed_scope f) st) k u (core_value (renamed_value f v)) ≡ plan_leaf st k u (core_value v)
  value-marks st k u (ref_name b r x) = rw (denotes-renamed st CoreType r x, leads_out-renamed r (denotes st CoreType r x)) (plan_name-renamed st k u CoreType (leads_out r (denotes st CoreType r x)) (denotes st CoreType r x))
  value-marks st k u v = refl

  mutual
    plan_leaves-renamed : (st : List Scope) (k u : ℕ) (ls : Leaves) → plan_leaves (map (renamed_scope f) st) k u (renamed_leaves f ls) ≡ plan_leaves st k u ls
    plan_leaves-renamed st k u no_leaf = refl
    plan_leaves-renamed st k u (l ▸ ls) = rw (references_leaf-renamed f l, plan_leaf-renamed st k u l, plan_leaves-renamed st k (u + references_leaf l) ls) refl

    plan_leaf-renamed : (st : List Scope) (k u : ℕ) (l : Leaf) → plan_leaf (map (renamed_scope f) st) k u (renamed_leaf f l) ≡ plan_leaf st k u l
    plan_leaf-renamed st k u (core_value v) = value-marks st k u v
    plan_leaf-renamed st k u (ref s (name r x)) = rw (denotes-renamed st s r x, leads_out-renamed r (denotes st s r x)) (plan_name-renamed st k u s (leads_out r (denotes st s r x)) (denotes st s r x))
    plan_leaf-renamed st k u (ref s (path p)) = rw (path-marks k u s p) refl
    plan_leaf-renamed st k u (ref s (inline (row t ls))) = rw (reused-renamed st k u t ls, plan_leaves-renamed st k (u + 1) ls, declares-renamed f t ls) refl
    plan_leaf-renamed st k u (ref s (bundle (row t ls))) = rw (plan_leaves-renamed st k (u + 1) ls, declares-renamed f t ls) refl
    plan_leaf-renamed st k u (present l) = plan_leaf-renamed st k u l
    plan_leaf-renamed st k u (node (row t ls)) = plan_leaves-renamed st k u ls
    plan_leaf-renamed st k u (nodes ns) = plan_nodes-renamed st k u ns
    plan_leaf-renamed st k u l = refl

    plan_nodes-renamed : (st : List Scope) (k u : ℕ) (ns : Nodes) → plan_nodes (map (renamed_scope f) st) k u (renamed_nodes f ns) ≡ plan_nodes st k u ns
    plan_nodes-renamed st k u no_node = refl
    plan_nodes-renamed st k u (one_node (row t ls) ns) = rw (references-renamed f ls, plan_leaves-renamed st k u ls, plan_nodes-renamed st k (u + references ls) ns) refl

  plan_defs-renamed : (st : List Scope) (k : ℕ) (ds : Defs) → plan_defs (map (renamed_scope f) st) k (renamed_defs f ds) ≡ plan_defs st k ds
  plan_defs-renamed st k no_def = refl
  plan_defs-renamed st k (one_def (define names (row t ls)) ds) = rw (plan_leaves-renamed st k 0 ls, declares-renamed f t ls, plan_defs-renamed st (k + 1) ds) refl

  export_marks-renamed : (k : ℕ) (ds : Defs) → export_marks k (renamed_defs f ds) ≡ export_marks k ds
  export_marks-renamed k no_def = refl
  export_marks-renamed k (one_def (define names (row t ls)) ds) = rw (declares-renamed f t ls, export_marks-renamed (k + 1) ds) refl

  pub marks-renamed : (st : List Scope) → marks (map (renamed_scope f) st) ≡ marks st
  marks-renamed [] = refl
  marks-renamed (scope_of c id label ds ∷ st) = rw (plan_defs-renamed (scope_of c id label ds ∷ st) 0 ds, export_marks-renamed 0 ds, has_names-renamed f numbered (scope_of c id label ds)) refl

  pub item_index-renamed : (st : List Scope) (s : Space) (d : Denoted) → item_index (map (renamed_scope f) st) s (den f d) ≡ item_index st s d
  item_index-renamed st s d = rw (drop-renamed f d.depth st, marks-renamed (drop d.depth st)) refl
