-- By what numbers leave of core modules a component meets the same rule, and where it does it has the same form.
use Rattle.std.proofs.Common.{◌≡◌, ◌∙◌, refl, sym, ap, ℕ, ◌+◌, List, [], ◌∷◌, ◌++◌, Option, Some, None}
use Rattle.std.specs.Prelude.{IsNone}
use Rattle.comp_model.specs.Core.{Text, Id, CoreRefusal, ref_name}
use Rattle.comp_model.specs.CoreModules.{CoreModule, Naming, Field}
use Rattle.comp_model.specs.Model.{Leaf, core_value, ref, place, present, node, nodes, core_source, module_bytes, scope, inline, bundle, Leaves, no_leaf, ◌▸◌, row, Nodes, no_node, one_node, define, Defs, no_def, one_def, Scope, scope_of}
use Rattle.comp_model.specs.ItemNames.{has_names}
use Rattle.comp_model.specs.Origins.{written}
use Rattle.comp_model.specs.Spaces.{declarations}
use Rattle.comp_scopes.specs.Encoding.{Encoding}
use Rattle.comp_scopes.specs.Form.{plain, formed_as, form_both, form_one, form_inline, form_bundle, form_inner, form_exports, names_with, coded_node, defs_with, leaves_with, leaf_with, nodes_with, form_with, section_payload, binary_defs, form, plan}
use Rattle.comp_scopes.specs.Names.{first_of_two}
use Rattle.comp_scopes.specs.References.{references, references_leaf}
use Rattle.comp_scopes.specs.Reused.{reused}
use Rattle.comp_scopes.specs.Rule.{ScopeRule, RuleOfDefs, RuleOfLeaves, RuleOfLeaf, RuleOfNodes, case_ids}
use Rattle.comp_scopes.specs.Unmet.{first_unmet, unmet_of_defs, unmet_of_leaves, unmet_of_leaf, unmet_of_nodes, sought, sought_both, sought_one, sought_inline, sought_bundle, unmet_core, unmet_cases, first_duplicate, kinds_of_defs}
use Rattle.comp_scopes.proofs.PlanAlone.{plan-alone}
use Rattle.comp_scopes.proofs.Quiet.{rule-none}
use Rattle.core_model.specs.Module.{core_bytes, module_with}
use Rattle.core_model.specs.Rule.{core_rule}
use Rattle.core_model.proofs.ResolvedBytes.{core_bytes-resolved}
use Rattle.tree_write.specs.Wire.{the_encoding}
use Rattle.wast_component.specs.Modules.{numbered_by, numbered_encoding}

-- ---- two encodings with one rule have the same first demand that isn't met

module _ (e d : Encoding) (rules : (c : CoreModule) → e.core_refusal c ≡ d.core_refusal c) where
  mutual
    unmet-defs : (st : List Scope) (ds : Defs) → unmet_of_defs e st ds ≡ unmet_of_defs d st ds
    unmet-defs st no_def = refl
    unmet-defs st (one_def (define names (row t ls)) ds) =
        ap (λ x. first_of_two (sought_one x) (unmet_of_defs e st ds)) (unmet-leaves st ls) ∙ ap (λ x. first_of_two (sought_one (unmet_of_leaves d st ls)) x) (unmet-defs st ds)

    unmet-leaves : (st : List Scope) (ls : Leaves) → unmet_of_leaves e st ls ≡ unmet_of_leaves d st ls
    unmet-leaves st no_leaf = refl
    unmet-leaves st (l ▸ ls) = ap (λ x. sought_both x (unmet_of_leaves e st ls)) (unmet-leaf st l) ∙ ap (λ x. sought_both (unmet_of_leaf d st l) x) (unmet-leaves st ls)

    unmet-leaf : (st : List Scope) (l : Leaf) → unmet_of_leaf e st l ≡ unmet_of_leaf d st l
    unmet-leaf st (core_value (ref_name b r x)) = refl
    unmet-leaf st (core_value v) = refl
    unmet-leaf st (ref s (inline (row t ls))) = ap sought_inline (unmet-leaves st ls)
    unmet-leaf st (ref s (bundle (row t ls))) = ap sought_bundle (unmet-leaves st ls)
    unmet-leaf st (ref s x) = refl
    unmet-leaf st (place p) = refl
    unmet-leaf st (present l) = unmet-leaf st l
    unmet-leaf st (node (row t ls)) = unmet-leaves st ls
    unmet-leaf st (nodes ns) = unmet-nodes st [] ns
    unmet-leaf st (core_source c) = ap (λ r. sought (unmet_core r)) (rules c)
    unmet-leaf st (scope (scope_of k id label ds)) =
        ap (λ x. sought (first_of_two (first_duplicate [] (declarations (scope_of k id label ds))) (first_of_two (kinds_of_defs (scope_of k id label ds ∷ st) ds) x))) (unmet-defs (scope_of k id label ds ∷ st) ds)
    unmet-leaf st l = refl

    unmet-nodes : (st : List Scope) (earlier : List Id) (ns : Nodes) → unmet_of_nodes e st earlier ns ≡ unmet_of_nodes d st earlier ns
    unmet-nodes st earlier no_node = refl
    unmet-nodes st earlier (one_node (row t ls) ns) =
        ap (λ x. sought_both (sought (unmet_cases earlier (case_ids ls))) (sought_both x (unmet_of_nodes e st (case_ids ls ++ earlier) ns))) (unmet-leaves st ls)
        ∙ ap (λ x. sought_both (sought (unmet_cases earlier (case_ids ls))) (sought_both (unmet_of_leaves d st ls) x)) (unmet-nodes st (case_ids ls ++ earlier) ns)

  first-same : (st : List Scope) (s : Scope) → first_unmet e st s ≡ first_unmet d st s
  first-same st (scope_of k id label ds) =
      ap (λ x. first_of_two (first_duplicate [] (declarations (scope_of k id label ds))) (first_of_two (kinds_of_defs (scope_of k id label ds ∷ st) ds) x)) (unmet-defs (scope_of k id label ds ∷ st) ds)

-- ---- and by the same bytes of modules that meet it the same form

module _ (e d : Encoding) (g : List Scope → Scope → Text) (bytes : (c : CoreModule) → IsNone (e.core_refusal c) → e.core_bytes c ≡ d.core_bytes c) where
  mutual
    defs-formed : (st : List Scope) (k : ℕ) (ds : Defs) → RuleOfDefs e st ds → defs_with e g st k ds ≡ defs_with d g st k ds
    defs-formed st k no_def h = refl
    defs-formed st k (one_def (define names (row t ls)) ds) h =
        ap (λ x. form_one (written k) (coded_node e t ls) x ++ defs_with e g st (k + 1) ds) (leaves-formed st k 0 ls h.0)
        ∙ ap (λ x. form_one (written k) (coded_node e t ls) (leaves_with d g st k 0 ls) ++ x) (defs-formed st (k + 1) ds h.1)

    leaves-formed : (st : List Scope) (k u : ℕ) (ls : Leaves) → RuleOfLeaves e st ls → leaves_with e g st k u ls ≡ leaves_with d g st k u ls
    leaves-formed st k u no_leaf h = refl
    leaves-formed st k u (l ▸ ls) h =
        ap (λ x. form_both (λ b bs. b ▸ bs) x (leaves_with e g st k (u + references_leaf l) ls)) (leaf-formed st k u l h.0)
        ∙ ap (λ x. form_both (λ b bs. b ▸ bs) (leaf_with d g st k u l) x) (leaves-formed st k (u + references_leaf l) ls h.1)

    leaf-formed : (st : List Scope) (k u : ℕ) (l : Leaf) → RuleOfLeaf e st l → leaf_with e g st k u l ≡ leaf_with d g st k u l
    leaf-formed st k u (ref s (inline (row t ls))) h = ap (form_inline st k u s t (reused st k u t ls)) (leaves-formed st k (u + 1) ls h)
    leaf-formed st k u (ref s (bundle (row t ls))) h = ap (form_bundle st k u s t) (leaves-formed st k (u + 1) ls h)
    leaf-formed st k u (ref s x) h = refl
    leaf-formed st k u (present l) h = ap (formed_as present) (leaf-formed st k u l h)
    leaf-formed st k u (node (row t ls)) h = ap (formed_as (λ bs. node (row t bs))) (leaves-formed st k u ls h)
    leaf-formed st k u (nodes ns) h = ap (formed_as nodes) (nodes-formed st k u ns h.1)
    leaf-formed st k u (core_source c) h = ap (λ b. plain (module_bytes b)) (bytes c h)
    leaf-formed st k u (scope (scope_of c id label ds)) h =
        ap (λ x. form_inner c (x ++ (form_exports (scope_of c id label ds ∷ st) 0 ds ++ names_with g st (scope_of c id label ds) (has_names (scope_of c id label ds))))) (defs-formed (scope_of c id label ds ∷ st) 0 ds h.1)
    leaf-formed st k u l h = refl

    nodes-formed : (st : List Scope) (k u : ℕ) (ns : Nodes) → RuleOfNodes e st ns → nodes_with e g st k u ns ≡ nodes_with d g st k u ns
    nodes-formed st k u no_node h = refl
    nodes-formed st k u (one_node (row t ls) ns) h =
        ap (λ x. form_both (λ bs cs. one_node (row t bs) cs) x (nodes_with e g st k (u + references ls) ns)) (leaves-formed st k u ls h.0)
        ∙ ap (λ x. form_both (λ bs cs. one_node (row t bs) cs) (leaves_with d g st k u ls) x) (nodes-formed st k (u + references ls) ns h.1)

  form-same : (st : List Scope) (s : Scope) → ScopeRule e st s → form_with e g st s ≡ form_with d g st s
  form-same st (scope_of c id label ds) h =
      ap (λ x. scope_of c None None (binary_defs (x ++ (form_exports (scope_of c id label ds ∷ st) 0 ds ++ names_with g st (scope_of c id label ds) (has_names (scope_of c id label ds))))))
      (defs-formed (scope_of c id label ds ∷ st) 0 ds h.1)

-- ---- the encoding by numbers

numbered-bytes : (r : Option CoreRefusal) (n : Naming) (fs : List Field) → IsNone r → core_bytes (module_with n (numbered_by r fs)) ≡ core_bytes (module_with n fs)
numbered-bytes None n fs h = core_bytes-resolved n fs
numbered-bytes (Some r) n fs h = absurd (cc)

pub first_kept : (s : Scope) → first_unmet numbered_encoding [] s ≡ first_unmet the_encoding [] s
first_kept s = first-same numbered_encoding the_encoding (λ c. refl) [] s

pub rule_kept : (s : Scope) → ScopeRule numbered_encoding [] s → ScopeRule the_encoding [] s
rule_kept s h = (rule-none the_encoding [] s).1 (sym (first_kept s) ∙ (rule-none numbered_encoding [] s).0 h)

pub form_kept : (s : Scope) → ScopeRule numbered_encoding [] s → form numbered_encoding [] s ≡ form the_encoding [] s
form_kept s h = form-same numbered_encoding the_encoding section_payload (λ c r. numbered-bytes (core_rule c.fields) c.naming c.fields r) [] s h

pub plan_kept : (s : Scope) → plan numbered_encoding [] s ≡ plan the_encoding [] s
plan_kept s = plan-alone numbered_encoding the_encoding section_payload section_payload [] s
