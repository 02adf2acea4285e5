-- The form of a renamed scope.
use Rattle.std.proofs.Common.{◌≡◌, ℕ, ◌+◌, Bool, true, false, List, [], ◌∷◌, map, Option, Some, None, option_map, refl}
use Rattle.comp_model.specs.declared.Space.{Space}
use Rattle.comp_model.specs.declared.Space.TheVariants.{CoreType}
use Rattle.comp_model.specs.declared.row.Row.{Row}
use Rattle.comp_model.specs.Core.{Text, Id, same_id, Place, counted, named, own, CoreValue, ref_name}
use Rattle.comp_model.specs.CoreModules.{CoreModule}
use Rattle.comp_model.specs.Renaming.{renamed_core}
use Rattle.comp_model.specs.Model.{Leaf, text, core_value, ref, place, present, node, nodes, result_ids, core_source, scope, name, Path, root_number, root_name, export_of, path, inline, bundle, Leaves, no_leaf, ◌▸◌, row, Nodes, no_node, one_node, define, Defs, no_def, one_def, Scope, scope_of}
use Rattle.comp_model.specs.Spaces.{declares_row}
use Rattle.comp_model.specs.Payloads.{producer_bytes, producers_bytes, producers_field, producers_fields, field_names}
use Rattle.comp_model.specs.Origins.{Origin, written}
use Rattle.comp_scopes.specs.Encoding.{Encoding}
use Rattle.comp_scopes.specs.Names.{Denoted, denotes}
use Rattle.comp_scopes.specs.References.{references, references_leaf, instance_space}
use Rattle.comp_scopes.specs.Reused.{reused}
use Rattle.comp_model.specs.ItemNames.{has_names}
use Rattle.comp_scopes.specs.Outward.{served, leads_out}
use Rattle.comp_scopes.specs.Form.{Formed, form_one, form_inline, form_alias, form_name, root_index, path_index, form_path, form_place, form_value, form_exports_of, form_exports, names_with, coded_node, defs_with, leaves_with, leaf_with, nodes_with, built_with, plan_with, form_with}
use Rattle.comp_scopes.specs.Renaming.{renamed_place, renamed_value, renamed_path, renamed_scope, renamed_defs, renamed_leaves, renamed_leaf, renamed_nodes}
use Rattle.comp_scopes.proofs.Renaming.{count-renamed, length-map, declares-renamed, references-renamed, references_leaf-renamed, steps-renamed, has_names-renamed, den, denotes-renamed, leads_out-renamed, scope_named-renamed, reused-renamed, served-renamed, marks-renamed, item_index-renamed}

module _ (f : Id → Id) (same : (x y : Id) → same_id (f x) (f y) ≡ same_id x y) (numbered : (x : Id) → (f x).number ≡ x.number) where
  form_alias-renamed : (st : List Scope) (k u : ℕ) (s : Space) (d : Denoted) (o : Option Origin) → form_alias (map (renamed_scope f) st) k u s (den f d) o ≡ form_alias st k u s d o
  form_alias-renamed st k u s d (Some o) = rw (marks-renamed f same numbered st) refl
  form_alias-renamed st k u s d None = rw (item_index-renamed f same numbered st s d, marks-renamed f same numbered st) refl

  form_name-renamed : (st : List Scope) (k u : ℕ) (s : Space) (b : Bool) (o : Option Denoted) → form_name (map (renamed_scope f) st) k u s b (option_map (den f) o) ≡ form_name st k u s b o
  form_name-renamed st k u s true None = refl
  form_name-renamed st k u s false None = refl
  form_name-renamed st k u s false (Some d) = rw (item_index-renamed f same numbered st s d) refl
  form_name-renamed st k u s true (Some d) = rw (served-renamed f same numbered st k u s d) (form_alias-renamed st k u s d (served st k u s d))

  root-renamed : (st : List Scope) (s : Space) (o : Option Denoted) → root_index (map (renamed_scope f) st) s (option_map (den f) o) ≡ root_index st s o
  root-renamed st s None = refl
  root-renamed st s (Some d) = item_index-renamed f same numbered st s d

  path_index-renamed : (st : List Scope) (k u : ℕ) (s : Space) (p : Path) → path_index (map (renamed_scope f) st) k u s (renamed_path f p) ≡ path_index st k u s p
  path_index-renamed st k u s (root_number o n) = refl
  path_index-renamed st k u s (root_name x) = rw (denotes-renamed f same numbered st s own x) (root-renamed st s (denotes st s own x))
  path_index-renamed st k u s (export_of p t) = rw (steps-renamed f p, marks-renamed f same numbered st) refl

  form_path-renamed : (st : List Scope) (k u : ℕ) (s : Space) (p : Path) → form_path (map (renamed_scope f) st) k u s (renamed_path f p) ≡ form_path st k u s p
  form_path-renamed st k u s (root_number o n) = refl
  form_path-renamed st k u s (root_name x) = refl
  form_path-renamed st k u s (export_of p t) = rw (form_path-renamed st k u (instance_space s) p, path_index-renamed st k u (instance_space s) p, steps-renamed f p) refl

  form_place-renamed : (st : List Scope) (p : Place) → form_place (map (renamed_scope f) st) (renamed_place f p) ≡ form_place st p
  form_place-renamed st (counted o d) = refl
  form_place-renamed st (named o x) = rw (scope_named-renamed f same numbered 0 st x) refl

  form_value-renamed : (st : List Scope) (k u : ℕ) (v : CoreValue) → form_value (map (renamed_scope f) st) k u (renamed_value f v) ≡ form_value st k u v
  form_value-renamed st k u (ref_name b r x) =
      rw (denotes-renamed f same numbered st CoreType r x, leads_out-renamed f same numbered r (denotes st CoreType r x), form_name-renamed st k u CoreType (leads_out r (denotes st CoreType r x)) (denotes st CoreType r x)) refl
  form_value-renamed st k u v = refl

  form_inline-renamed : (st : List Scope) (k u : ℕ) (s : Space) (t : Row) (j : Option Origin) (a : Formed Leaves) → form_inline (map (renamed_scope f) st) k u s t j a ≡ form_inline st k u s t j a
  form_inline-renamed st k u s t (Some j) a = rw (marks-renamed f same numbered st) refl
  form_inline-renamed st k u s t None a = rw (marks-renamed f same numbered st) refl

  form_exports_of-renamed : (st : List Scope) (k j : ℕ) (xs : List Text) (ss : List Space) → form_exports_of (map (renamed_scope f) st) k j xs ss ≡ form_exports_of st k j xs ss
  form_exports_of-renamed st k j [] ss = refl
  form_exports_of-renamed st k j (x ∷ xs) [] = refl
  form_exports_of-renamed st k j (x ∷ xs) (s ∷ ss) = rw (marks-renamed f same numbered st, form_exports_of-renamed st k (j + 1) xs (s ∷ ss)) refl

  form_exports-renamed : (st : List Scope) (k : ℕ) (ds : Defs) → form_exports (map (renamed_scope f) st) k (renamed_defs f ds) ≡ form_exports st k ds
  form_exports-renamed st k no_def = refl
  form_exports-renamed st k (one_def (define names (row t ls)) ds) = rw (declares-renamed f t ls, form_exports_of-renamed st k 0 names.exports (declares_row t ls), form_exports-renamed st (k + 1) ds) refl

  -- producers are texts alone
  producer-renamed : (ls : Leaves) → producer_bytes (renamed_leaves f ls) ≡ producer_bytes ls
  producer-renamed (text x ▸ text y ▸ no_leaf) = refl
  producer-renamed _ = refl

  producers-renamed : (ns : Nodes) → producers_bytes (renamed_nodes f ns) ≡ producers_bytes ns
  producers-renamed no_node = refl
  producers-renamed (one_node (row t ls) ns) = rw (producer-renamed ls, producers-renamed ns) refl

  field-renamed : (x : Text) (ns : Nodes) → producers_field x (renamed_nodes f ns) ≡ producers_field x ns
  field-renamed x no_node = refl
  field-renamed x (one_node (row t ls) ns) = rw (count-renamed f ns, producer-renamed ls, producers-renamed ns) refl

  fields-renamed : (xs : List Text) (ls : Leaves) → producers_fields xs (renamed_leaves f ls) ≡ producers_fields xs ls
  fields-renamed [] ls = refl
  fields-renamed (x ∷ xs) (nodes ns ▸ ls) = rw (field-renamed x ns, fields-renamed xs ls) refl
  fields-renamed (x ∷ xs) _ = refl

  -- what e and g write of the renamed is what d and h write
  module _ (e d : Encoding) (g h : List Scope → Scope → Text) (bytes : (c : CoreModule) → e.core_bytes (renamed_core f c) ≡ d.core_bytes c)
      (names : (st : List Scope) (s : Scope) → g (map (renamed_scope f) st) (renamed_scope f s) ≡ h st s) where
    form_names-renamed : (st : List Scope) (s : Scope) (b : Bool) → names_with g (map (renamed_scope f) st) (renamed_scope f s) b ≡ names_with h st s b
    form_names-renamed st s true = rw (names st s) refl
    form_names-renamed st s false = refl

    one-renamed : (t : Row) (ls : Leaves) (k : ℕ) (a : Formed Leaves) → form_one (written k) (coded_node e t (renamed_leaves f ls)) a ≡ form_one (written k) (coded_node d t ls) a
    one-renamed t ls k a = rw (fields-renamed field_names ls) refl

    mutual
      form_defs-renamed : (st : List Scope) (k : ℕ) (ds : Defs) → defs_with e g (map (renamed_scope f) st) k (renamed_defs f ds) ≡ defs_with d h st k ds
      form_defs-renamed st k no_def = refl
      form_defs-renamed st k (one_def (define ns (row t ls)) ds) = rw (form_leaves-renamed st k 0 ls, form_defs-renamed st (k + 1) ds, one-renamed t ls k (leaves_with d h st k 0 ls)) refl

      form_leaves-renamed : (st : List Scope) (k u : ℕ) (ls : Leaves) → leaves_with e g (map (renamed_scope f) st) k u (renamed_leaves f ls) ≡ leaves_with d h st k u ls
      form_leaves-renamed st k u no_leaf = refl
      form_leaves-renamed st k u (l ▸ ls) = rw (references_leaf-renamed f l, form_leaf-renamed st k u l, form_leaves-renamed st k (u + references_leaf l) ls) refl

      form_leaf-renamed : (st : List Scope) (k u : ℕ) (l : Leaf) → leaf_with e g (map (renamed_scope f) st) k u (renamed_leaf f l) ≡ leaf_with d h st k u l
      form_leaf-renamed st k u (core_value v) = form_value-renamed st k u v
      form_leaf-renamed st k u (ref s (name r x)) =
          rw (denotes-renamed f same numbered st s r x, leads_out-renamed f same numbered r (denotes st s r x), form_name-renamed st k u s (leads_out r (denotes st s r x)) (denotes st s r x)) refl
      form_leaf-renamed st k u (ref s (path p)) = rw (form_path-renamed st k u s p, path_index-renamed st k u s p) refl
      form_leaf-renamed st k u (ref s (inline (row t ls))) = rw (reused-renamed f same numbered st k u t ls, form_leaves-renamed st k (u + 1) ls) (form_inline-renamed st k u s t (reused st k u t ls) (leaves_with d h st k (u + 1) ls))
      form_leaf-renamed st k u (ref s (bundle (row t ls))) = rw (form_leaves-renamed st k (u + 1) ls, marks-renamed f same numbered st) refl
      form_leaf-renamed st k u (place p) = rw (form_place-renamed st p) refl
      form_leaf-renamed st k u (present l) = rw (form_leaf-renamed st k u l) refl
      form_leaf-renamed st k u (node (row t ls)) = rw (form_leaves-renamed st k u ls) refl
      form_leaf-renamed st k u (nodes ns) = rw (form_nodes-renamed st k u ns) refl
      form_leaf-renamed st k u (result_ids ids) = rw (length-map f (option_map f) ids) refl
      form_leaf-renamed st k u (core_source c) = rw (bytes c) refl
      form_leaf-renamed st k u (scope (scope_of c id label ds)) =
          rw (
            form_defs-renamed (scope_of c id label ds ∷ st) 0 ds,
            form_exports-renamed (scope_of c id label ds ∷ st) 0 ds,
            has_names-renamed f numbered (scope_of c id label ds),
            form_names-renamed st (scope_of c id label ds) (has_names (scope_of c id label ds)),
          ) refl
      form_leaf-renamed st k u l = refl

      form_nodes-renamed : (st : List Scope) (k u : ℕ) (ns : Nodes) → nodes_with e g (map (renamed_scope f) st) k u (renamed_nodes f ns) ≡ nodes_with d h st k u ns
      form_nodes-renamed st k u no_node = refl
      form_nodes-renamed st k u (one_node (row t ls) ns) = rw (references-renamed f ls, form_leaves-renamed st k u ls, form_nodes-renamed st k (u + references ls) ns) refl

    pub built-renamed : (st : List Scope) (c : Scope) → built_with e g (map (renamed_scope f) st) (renamed_scope f c) ≡ built_with d h st c
    built-renamed st (scope_of c id label ds) =
        rw (
          form_defs-renamed (scope_of c id label ds ∷ st) 0 ds,
          form_exports-renamed (scope_of c id label ds ∷ st) 0 ds,
          has_names-renamed f numbered (scope_of c id label ds),
          form_names-renamed st (scope_of c id label ds) (has_names (scope_of c id label ds)),
        ) refl

    pub plan-renamed : (st : List Scope) (c : Scope) → plan_with e g (map (renamed_scope f) st) (renamed_scope f c) ≡ plan_with d h st c
    plan-renamed st c = rw (built-renamed st c) refl

    pub form-renamed : (st : List Scope) (c : Scope) → form_with e g (map (renamed_scope f) st) (renamed_scope f c) ≡ form_with d h st c
    form-renamed st (scope_of k id label ds) = rw (built-renamed st (scope_of k id label ds)) refl
