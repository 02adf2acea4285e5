-- The plan does not hang on how core modules and custom sections are written.
use Rattle.std.proofs.Common.{◌≡◌, ℕ, ◌+◌, Bool, true, false, List, [], ◌∷◌, ◌++◌, Option, Some, None, refl, sym, ◌∙◌, ap}
use Rattle.comp_model.specs.declared.Space.{Space}
use Rattle.comp_model.specs.declared.row.Row.{Row}
use Rattle.comp_model.specs.Core.{Text}
use Rattle.comp_model.specs.Model.{Leaf, ref, present, node, nodes, scope, inline, bundle, Leaves, no_leaf, ◌▸◌, Node, row, Nodes, no_node, one_node, define, Defs, no_def, one_def, Scope, scope_of}
use Rattle.comp_model.specs.Origins.{Origin, written, inline_type, bundle_of, Origins, no_origins, origin_then, Held, holds}
use Rattle.comp_scopes.specs.Encoding.{Encoding}
use Rattle.comp_scopes.specs.References.{references, references_leaf}
use Rattle.comp_scopes.specs.Reused.{reused}
use Rattle.comp_model.specs.ItemNames.{has_names}
use Rattle.comp_scopes.specs.Form.{Made, Formed, held_first, own_made, form_one, form_inline, form_bundle, form_exports, names_with, coded_node, defs_with, leaves_with, leaf_with, nodes_with, origins_of, plan_with}

-- what a definition shows in a plan
pub record Shown : Type 0 where
  pub origin : Origin
  pub held : Held

abbrev shown : List Made → List Shown
shown [] = []
shown (m ∷ ms) = record { origin = m.origin; held = m.held } ∷ shown ms

abbrev listed : List Shown → Origins
listed [] = no_origins
listed (m ∷ ms) = origin_then m.origin m.held (listed ms)

listed-shown : (ms : List Made) → origins_of ms ≡ listed (shown ms)
listed-shown [] = refl
listed-shown (m ∷ ms) = ap (origin_then m.origin m.held) (listed-shown ms)

shown-app : (xs ys : List Made) → shown (xs ++ ys) ≡ shown xs ++ shown ys
shown-app [] ys = refl
shown-app (x ∷ xs) ys = ap (λ r. record { origin = x.origin; held = x.held } ∷ r) (shown-app xs ys)

shown-both : (xs ys zs ws : List Made) → shown xs ≡ shown zs → shown ys ≡ shown ws → shown (xs ++ ys) ≡ shown (zs ++ ws)
shown-both xs ys zs ws a b = shown-app xs ys ∙ rw (a, b) (sym (shown-app zs ws))

-- two parts that show the same
abbrev Alike : {H : Type 0} → Formed H → Formed H → Type 0
Alike a b = (shown a.inlined ≡ shown b.inlined) × (shown a.bundles ≡ shown b.bundles) × (shown a.needed ≡ shown b.needed) × (a.held ≡ b.held)

alike-both : {F G : Type 0} (a c : Formed F) (b d : Formed G) → Alike a c → Alike b d
    → (shown (a.inlined ++ b.inlined) ≡ shown (c.inlined ++ d.inlined)) × (shown (a.bundles ++ b.bundles) ≡ shown (c.bundles ++ d.bundles)) × (shown (a.needed ++ b.needed) ≡ shown (c.needed ++ d.needed)) × (held_first a.held b.held ≡ held_first c.held d.held)
alike-both a c b d x y = (
  shown-both a.inlined b.inlined c.inlined d.inlined x.0 y.0,
  shown-both a.bundles b.bundles c.bundles d.bundles x.1 y.1,
  shown-both a.needed b.needed c.needed d.needed x.2 y.2,
  rw (x.3, y.3) refl,
)

shown-last : (a b : Formed Leaves) (o : Origin) (n m : Leaves → Node) → Alike a b → shown (a.bundles ++ (a.needed ++ own_made o n a ∷ [])) ≡ shown (b.bundles ++ (b.needed ++ own_made o m b ∷ []))
shown-last a b o n m x =
    let z : shown (own_made o n a ∷ []) ≡ shown (own_made o m b ∷ []) = ap (λ h. record { origin = o; held = h } ∷ []) x.3 in
    shown-both a.bundles (a.needed ++ own_made o n a ∷ []) b.bundles (b.needed ++ own_made o m b ∷ []) x.1 (shown-both a.needed (own_made o n a ∷ []) b.needed (own_made o m b ∷ []) x.2 z)

shown-one : (a b : Formed Leaves) (o : Origin) (n m : Leaves → Node) → Alike a b → shown (form_one o n a) ≡ shown (form_one o m b)
shown-one a b o n m x = shown-both a.inlined (a.bundles ++ (a.needed ++ own_made o n a ∷ [])) b.inlined (b.bundles ++ (b.needed ++ own_made o m b ∷ [])) x.0 (shown-last a b o n m x)

alike-inline : (st : List Scope) (k u : ℕ) (s : Space) (t : Row) (j : Option Origin) (a b : Formed Leaves) → Alike a b → Alike (form_inline st k u s t j a) (form_inline st k u s t j b)
alike-inline st k u s t (Some j) a b x = (refl, refl, refl, refl)
alike-inline st k u s t None a b x = (shown-one a b (inline_type k u) (row t) (row t) x, refl, refl, refl)

alike-bundle : (st : List Scope) (k u : ℕ) (s : Space) (t : Row) (a b : Formed Leaves) → Alike a b → Alike (form_bundle st k u s t a) (form_bundle st k u s t b)
alike-bundle st k u s t a b x = (x.0, shown-last a b (bundle_of k u) (row t) (row t) x, refl, refl)

module _ (e d : Encoding) (g h : List Scope → Scope → Text) where
  names-shown : (st : List Scope) (c : Scope) (b : Bool) → shown (names_with g st c b) ≡ shown (names_with h st c b)
  names-shown st c true = refl
  names-shown st c false = refl

  mutual
    defs-shown : (st : List Scope) (k : ℕ) (ds : Defs) → shown (defs_with e g st k ds) ≡ shown (defs_with d h st k ds)
    defs-shown st k no_def = refl
    defs-shown st k (one_def (define names (row t ls)) ds) =
        shown-both (form_one (written k) (coded_node e t ls) (leaves_with e g st k 0 ls)) (defs_with e g st (k + 1) ds) (form_one (written k) (coded_node d t ls) (leaves_with d h st k 0 ls)) (defs_with d h st (k + 1) ds)
        (shown-one (leaves_with e g st k 0 ls) (leaves_with d h st k 0 ls) (written k) (coded_node e t ls) (coded_node d t ls) (leaves-alike st k 0 ls)) (defs-shown st (k + 1) ds)

    leaves-alike : (st : List Scope) (k u : ℕ) (ls : Leaves) → Alike (leaves_with e g st k u ls) (leaves_with d h st k u ls)
    leaves-alike st k u no_leaf = (refl, refl, refl, refl)
    leaves-alike st k u (l ▸ ls) = alike-both (leaf_with e g st k u l) (leaf_with d h st k u l) (leaves_with e g st k (u + references_leaf l) ls) (leaves_with d h st k (u + references_leaf l) ls)
        (leaf-alike st k u l) (leaves-alike st k (u + references_leaf l) ls)

    leaf-alike : (st : List Scope) (k u : ℕ) (l : Leaf) → Alike (leaf_with e g st k u l) (leaf_with d h st k u l)
    leaf-alike st k u (ref s (inline (row t ls))) = alike-inline st k u s t (reused st k u t ls) (leaves_with e g st k (u + 1) ls) (leaves_with d h st k (u + 1) ls) (leaves-alike st k (u + 1) ls)
    leaf-alike st k u (ref s (bundle (row t ls))) = alike-bundle st k u s t (leaves_with e g st k (u + 1) ls) (leaves_with d h st k (u + 1) ls) (leaves-alike st k (u + 1) ls)
    leaf-alike st k u (present l) = leaf-alike st k u l
    leaf-alike st k u (node (row t ls)) = leaves-alike st k u ls
    leaf-alike st k u (nodes ns) = nodes-alike st k u ns
    leaf-alike st k u (scope (scope_of c id label ds)) = (
      refl,
      refl,
      refl,
      ap holds (listed-shown _ ∙ ap listed (shown-both (defs_with e g (scope_of c id label ds ∷ st) 0 ds) _ (defs_with d h (scope_of c id label ds ∷ st) 0 ds) _ (defs-shown (scope_of c id label ds ∷ st) 0 ds)
          (shown-both (form_exports (scope_of c id label ds ∷ st) 0 ds) (names_with g st (scope_of c id label ds) (has_names (scope_of c id label ds))) (form_exports (scope_of c id label ds ∷ st) 0 ds) (names_with h st (scope_of c id label ds) (has_names (scope_of c id label ds)))
          refl (names-shown st (scope_of c id label ds) (has_names (scope_of c id label ds))))) ∙ sym (listed-shown _)),
    )
    leaf-alike st k u l = (refl, refl, refl, refl)

    nodes-alike : (st : List Scope) (k u : ℕ) (ns : Nodes) → Alike (nodes_with e g st k u ns) (nodes_with d h st k u ns)
    nodes-alike st k u no_node = (refl, refl, refl, refl)
    nodes-alike st k u (one_node (row t ls) ns) = alike-both (leaves_with e g st k u ls) (leaves_with d h st k u ls) (nodes_with e g st k (u + references ls) ns) (nodes_with d h st k (u + references ls) ns)
        (leaves-alike st k u ls) (nodes-alike st k (u + references ls) ns)

  pub plan-alone : (st : List Scope) (s : Scope) → plan_with e g st s ≡ plan_with d h st s
  plan-alone st (scope_of c id label ds) =
      listed-shown _ ∙ ap listed (shown-both (defs_with e g (scope_of c id label ds ∷ st) 0 ds) _ (defs_with d h (scope_of c id label ds ∷ st) 0 ds) _ (defs-shown (scope_of c id label ds ∷ st) 0 ds)
      (shown-both (form_exports (scope_of c id label ds ∷ st) 0 ds) (names_with g st (scope_of c id label ds) (has_names (scope_of c id label ds))) (form_exports (scope_of c id label ds ∷ st) 0 ds) (names_with h st (scope_of c id label ds) (has_names (scope_of c id label ds)))
      refl (names-shown st (scope_of c id label ds) (has_names (scope_of c id label ds))))) ∙ sym (listed-shown _)
