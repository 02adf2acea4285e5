-- An expansion of a scope of the text meets what the tables ask of it: its definitions are rowed, and a mark stands with each.
use Rattle.std.proofs.Common.{◌≡◌, ℕ, ◌+◌, Bool, true, false, ◌&&◌, ◌||◌, List, [], ◌∷◌, ◌++◌, Option, Some, None, refl, sym, ◌∙◌, ap, subst}
use Rattle.comp_model.specs.declared.Space.{Space}
use Rattle.comp_model.specs.declared.row.Row.TheVariants as rows
use Rattle.comp_model.specs.declared.row.Row.{Row}
use Rattle.comp_model.specs.Core.{Id, ref_index}
use Rattle.comp_model.specs.Model.{Leaf, core_value, ref, present, node, nodes, scope, result_count, module_bytes, index, inline, bundle, Leaves, no_leaf, ◌▸◌, row, Nodes, no_node, one_node, define, Defs, no_def, one_def, Scope, scope_of, defs_of}
use Rattle.comp_model.specs.Spaces.{declares_row}
use Rattle.comp_model.specs.Origins.{Origin, written, inline_type, bundle_of}
use Rattle.comp_expanded.specs.ListMarks.{ListMarks, Inside, nothing_inside, inside_are, inside_first}
use Rattle.comp_model.proofs.Tests.{same_row-true}
use Rattle.comp_scopes.specs.References.{references, references_leaf}
use Rattle.comp_scopes.specs.Reused.{reused}
use Rattle.comp_expanded.specs.Expansion.{Naming, inside, given, given_names, generated_names, Entry, entry_defs, entry_marks, Expanded, entry, expand_one, expand_inline, expand_exports, expand_leaves, expand_leaf, expand_nodes, expand_defs, expand, expand_marks}
use Rattle.comp_scopes.specs.Rowed.{holds_scope, leaf_holds_scope, nodes_hold_scope, AllSame, ExportsRowed, Textual, ProducersRowed, DefsRowed, LeavesRowed, LeafRowed, NodesRowed, Rowed}
use Rattle.comp_expanded.specs.OfText.{OfText}
use Rattle.comp_expanded.specs.Named.{Named}
use Rattle.comp_expanded.specs.Expands.{Expands}
use Rattle.comp_tables.specs.InText.{Marked, LeavesMarked, LeafMarked, NodesMarked}
use Rattle.comp_expanded.proofs.Parts.{declares-expand}
use Rattle.comp_expanded.proofs.FormKept.{textual-expand}
use Rattle.comp_expanded.proofs.Ids.{EachListed, each-app, exports-each}
use Rattle.comp_expanded.proofs.HasNaming.{expands-expand}

-- ---- parts without a scope

pub or-left : (a b : Bool) → (a || b) ≡ false → a ≡ false
or-left true b h = absurd (cc)
or-left false b h = refl

pub or-right : (a b : Bool) → (a || b) ≡ false → b ≡ false
or-right true b h = absurd (cc)
or-right false b h = h

mutual
  scopeless-leaves : (ls : Leaves) (h : Inside) → holds_scope ls ≡ false → LeavesMarked ls h
  scopeless-leaves no_leaf h n = tt
  scopeless-leaves (l ▸ ls) h n = (scopeless-leaf l h (or-left (leaf_holds_scope l) (holds_scope ls) n), scopeless-leaves ls h (or-right (leaf_holds_scope l) (holds_scope ls) n))

  scopeless-leaf : (l : Leaf) (h : Inside) → leaf_holds_scope l ≡ false → LeafMarked l h
  scopeless-leaf (scope (scope_of kd id label ds)) h n = absurd (cc)
  scopeless-leaf (present l) h n = scopeless-leaf l h n
  scopeless-leaf (node (row t ls)) h n = scopeless-leaves ls h n
  scopeless-leaf (nodes ns) h n = scopeless-nodes ns h n
  scopeless-leaf l h n = tt

  scopeless-nodes : (ns : Nodes) (h : Inside) → nodes_hold_scope ns ≡ false → NodesMarked ns h
  scopeless-nodes no_node h n = tt
  scopeless-nodes (one_node (row t ls) ns) h n = (scopeless-leaves ls h (or-left (holds_scope ls) (nodes_hold_scope ns) n), scopeless-nodes ns h (or-right (holds_scope ls) (nodes_hold_scope ns) n))

first-none : (i j : Inside) → j ≡ nothing_inside → inside_first i j ≡ i
first-none nothing_inside j e = e
first-none (inside_are ms) j e = refl

both-none : (i j : Inside) → i ≡ nothing_inside → j ≡ nothing_inside → inside_first i j ≡ nothing_inside
both-none nothing_inside j p q = q
both-none (inside_are ms) j p q = p

-- two parts, one of which has no scope
pub both-marked : (P Q : Inside → Type 0) (i j : Inside) (a b : Bool) → (a && b) ≡ false → P i → Q j → (a ≡ false → i ≡ nothing_inside) → (b ≡ false → j ≡ nothing_inside)
    → (a ≡ false → (h : Inside) → P h) → (b ≡ false → (h : Inside) → Q h) → P (inside_first i j) × Q (inside_first i j)
both-marked P Q i j false b n p q f g u v = (u refl (inside_first i j), subst (λ x. Q (inside_first x j)) (sym (f refl)) q)
both-marked P Q i j true false n p q f g u v = (subst P (sym (first-none i j (g refl))) p, v refl (inside_first i j))
both-marked P Q i j true true n p q f g u v = absurd (cc)

-- ---- an entry

abbrev pub Sound : Entry → Type 0
Sound x = (x.names.exports ≡ []) × AllSame (declares_row x.head x.leaves) × ProducersRowed x.head x.leaves × LeavesRowed x.leaves × LeavesMarked x.leaves x.held

sound-rowed : (xs : List Entry) → EachListed Sound xs → DefsRowed (entry_defs xs)
sound-rowed [] h = tt
sound-rowed (x ∷ xs) h = (subst (λ e. ExportsRowed e (declares_row x.head x.leaves)) (sym h.0.0) tt, h.0.1, h.0.2, h.0.3, sound-rowed xs h.1)

sound-marked : (xs : List Entry) → EachListed Sound xs → Marked (entry_defs xs) (entry_marks xs)
sound-marked [] h = tt
sound-marked (x ∷ xs) h = (h.0.4, sound-marked xs h.1)

-- what declares one item is no list of producers
one-rowed : (t : Row) (s : Space) (ls : Leaves) → declares_row t ls ≡ s ∷ [] → ProducersRowed t ls
one-rowed t s ls d q = let p : t ≡ rows.Producers = same_row-true t rows.Producers q in let r : [] ≡ s ∷ [] = sym (ap (λ v. declares_row v ls) p) ∙ d in absurd (cc)

-- ---- what parts become

abbrev pub FineLeaves : Expanded Leaves → Bool → Type 0
FineLeaves a b = EachListed Sound a.inlined × EachListed Sound a.bundles × LeavesRowed a.here × LeavesMarked a.here a.held × (holds_scope a.here ≡ b) × (b ≡ false → a.held ≡ nothing_inside)

abbrev pub FineLeaf : Expanded Leaf → Bool → Type 0
FineLeaf a b = EachListed Sound a.inlined × EachListed Sound a.bundles × LeafRowed a.here × LeafMarked a.here a.held × (leaf_holds_scope a.here ≡ b) × (b ≡ false → a.held ≡ nothing_inside)

abbrev pub FineNodes : Expanded Nodes → Bool → Type 0
FineNodes a b = EachListed Sound a.inlined × EachListed Sound a.bundles × NodesRowed a.here × NodesMarked a.here a.held × (nodes_hold_scope a.here ≡ b) × (b ≡ false → a.held ≡ nothing_inside)

-- a row that declares one item, as an entry
own-sound : (o : Origin) (y : Option Id) (t : Row) (s : Space) (a : Expanded Leaves) (b : Bool) → declares_row t a.here ≡ s ∷ [] → FineLeaves a b → Sound (entry o (generated_names y) t a)
own-sound o y t s a b d f = (refl, subst AllSame (sym d) tt, one-rowed t s a.here d, f.2, f.3)

inline-sound : (g : Naming) (c : Scope) (k u : ℕ) (s : Space) (t : Row) (r : Option Origin) (a : Expanded Leaves) (b : Bool) → declares_row t a.here ≡ s ∷ [] → FineLeaves a b → FineLeaf (expand_inline g c k u s t r a) false
inline-sound g c k u s t (Some j) a b d f = (tt, tt, tt, tt, refl, λ h. refl)
inline-sound g c k u s t None a b d f = (
  each-app Sound a.inlined (a.bundles ++ entry (inline_type k u) (generated_names (given g (inline_type k u))) t a ∷ []) f.0
      (each-app Sound a.bundles (entry (inline_type k u) (generated_names (given g (inline_type k u))) t a ∷ []) f.1 (own-sound (inline_type k u) (given g (inline_type k u)) t s a b d f, tt)),
  tt,
  tt,
  tt,
  refl,
  λ h. refl,
)

exports-sound : (g : Naming) (k : ℕ) (ds : Defs) → EachListed Sound (expand_exports g k ds)
exports-sound = exports-each Sound (λ x k j n s. (refl, tt, (λ q. absurd (cc)), (refl, tt, (refl, tt, (refl, tt, tt))), (tt, (tt, (tt, tt)))))

pub either : (a b c d : Bool) → a ≡ c → b ≡ d → (a || b) ≡ (c || d)
either a b c d p q = rw (p, q) refl

pub apart : (a b c d : Bool) → a ≡ c → b ≡ d → (c && d) ≡ false → (a && b) ≡ false
apart a b c d p q n = rw (p, q) n

mutual
  pub leaves-sound : (g : Naming) (c : Scope) (o : Origin) (k u : ℕ) (ls : Leaves) → LeavesRowed ls → FineLeaves (expand_leaves g c o k u ls) (holds_scope ls)
  leaves-sound g c o k u no_leaf r = (tt, tt, tt, tt, refl, λ h. refl)
  leaves-sound g c o k u (l ▸ ls) r =
      let a : Expanded Leaf = expand_leaf g c o k u l in
      let b : Expanded Leaves = expand_leaves g c o k (u + references_leaf l) ls in
      let f : FineLeaf (expand_leaf g c o k u l) (leaf_holds_scope l) = leaf-sound g c o k u l r.1 in
      let h : FineLeaves (expand_leaves g c o k (u + references_leaf l) ls) (holds_scope ls) = leaves-sound g c o k (u + references_leaf l) ls r.2 in
      let m : LeafMarked a.here (inside_first a.held b.held) × LeavesMarked b.here (inside_first a.held b.held) =
      both-marked (LeafMarked a.here) (LeavesMarked b.here) a.held b.held (leaf_holds_scope l) (holds_scope ls) r.0 f.3 h.3 f.5 h.5 (λ q i. scopeless-leaf a.here i (f.4 ∙ q)) (λ q i. scopeless-leaves b.here i (h.4 ∙ q)) in (
        each-app Sound a.inlined b.inlined f.0 h.0,
        each-app Sound a.bundles b.bundles f.1 h.1,
        (apart (leaf_holds_scope a.here) (holds_scope b.here) (leaf_holds_scope l) (holds_scope ls) f.4 h.4 r.0, f.2, h.2),
        m,
        either (leaf_holds_scope a.here) (holds_scope b.here) (leaf_holds_scope l) (holds_scope ls) f.4 h.4,
        λ q. both-none a.held b.held (f.5 (or-left (leaf_holds_scope l) (holds_scope ls) q)) (h.5 (or-right (leaf_holds_scope l) (holds_scope ls) q)),
      )

  pub leaf-sound : (g : Naming) (c : Scope) (o : Origin) (k u : ℕ) (l : Leaf) → LeafRowed l → FineLeaf (expand_leaf g c o k u l) (leaf_holds_scope l)
  leaf-sound g c o k u (core_value (ref_index b i)) r = absurd r
  leaf-sound g c o k u (ref s (index i)) r = absurd r
  leaf-sound g c o k u (ref s (inline (row t ls))) r =
      inline-sound g c k u s t (reused (c ∷ []) k u t ls) (expand_leaves g c (inline_type k u) k (u + 1) ls) (holds_scope ls) (declares-expand g c (inline_type k u) k (u + 1) t ls ∙ r.0) (leaves-sound g c (inline_type k u) k (u + 1) ls r.1)
  leaf-sound g c o k u (ref s (bundle (row t ls))) r =
      let a : Expanded Leaves = expand_leaves g c (bundle_of k u) k (u + 1) ls in
      let f : FineLeaves (expand_leaves g c (bundle_of k u) k (u + 1) ls) (holds_scope ls) = leaves-sound g c (bundle_of k u) k (u + 1) ls r.1 in (
        f.0,
        each-app Sound a.bundles (entry (bundle_of k u) (generated_names (given g (bundle_of k u))) t a ∷ []) f.1
            (own-sound (bundle_of k u) (given g (bundle_of k u)) t s a (holds_scope ls) (declares-expand g c (bundle_of k u) k (u + 1) t ls ∙ r.0) f, tt),
        tt,
        tt,
        refl,
        λ h. refl,
      )
  leaf-sound g c o k u (present l) r = leaf-sound g c o k u l r
  leaf-sound g c o k u (node (row t ls)) r = leaves-sound g c o k u ls r
  leaf-sound g c o k u (nodes ns) r = nodes-sound g c o k u ns r
  leaf-sound g c o k u (result_count n) r = absurd r
  leaf-sound g c o k u (module_bytes bs) r = absurd r
  leaf-sound g c o k u (scope (scope_of kd id label ds)) r =
      let all : EachListed Sound (expand_defs (inside g o) (scope_of kd id label ds) 0 ds ++ expand_exports (inside g o) 0 ds) =
      each-app Sound (expand_defs (inside g o) (scope_of kd id label ds) 0 ds) (expand_exports (inside g o) 0 ds) (defs-sound (inside g o) (scope_of kd id label ds) 0 ds r) (exports-sound (inside g o) 0 ds) in
      (tt, tt, sound-rowed _ all, sound-marked _ all, refl, λ h. absurd (cc))
  leaf-sound g c o k u l r = (tt, tt, r, tt, refl, λ h. refl)

  pub nodes-sound : (g : Naming) (c : Scope) (o : Origin) (k u : ℕ) (ns : Nodes) → NodesRowed ns → FineNodes (expand_nodes g c o k u ns) (nodes_hold_scope ns)
  nodes-sound g c o k u no_node r = (tt, tt, tt, tt, refl, λ h. refl)
  nodes-sound g c o k u (one_node (row t ls) ns) r =
      let a : Expanded Leaves = expand_leaves g c o k u ls in
      let b : Expanded Nodes = expand_nodes g c o k (u + references ls) ns in
      let f : FineLeaves (expand_leaves g c o k u ls) (holds_scope ls) = leaves-sound g c o k u ls r.1 in
      let h : FineNodes (expand_nodes g c o k (u + references ls) ns) (nodes_hold_scope ns) = nodes-sound g c o k (u + references ls) ns r.2 in
      let m : LeavesMarked a.here (inside_first a.held b.held) × NodesMarked b.here (inside_first a.held b.held) =
      both-marked (LeavesMarked a.here) (NodesMarked b.here) a.held b.held (holds_scope ls) (nodes_hold_scope ns) r.0 f.3 h.3 f.5 h.5 (λ q i. scopeless-leaves a.here i (f.4 ∙ q)) (λ q i. scopeless-nodes b.here i (h.4 ∙ q)) in (
        each-app Sound a.inlined b.inlined f.0 h.0,
        each-app Sound a.bundles b.bundles f.1 h.1,
        (apart (holds_scope a.here) (nodes_hold_scope b.here) (holds_scope ls) (nodes_hold_scope ns) f.4 h.4 r.0, f.2, h.2),
        m,
        either (holds_scope a.here) (nodes_hold_scope b.here) (holds_scope ls) (nodes_hold_scope ns) f.4 h.4,
        λ q. both-none a.held b.held (f.5 (or-left (holds_scope ls) (nodes_hold_scope ns) q)) (h.5 (or-right (holds_scope ls) (nodes_hold_scope ns) q)),
      )

  defs-sound : (g : Naming) (c : Scope) (k : ℕ) (ds : Defs) → DefsRowed ds → EachListed Sound (expand_defs g c k ds)
  defs-sound g c k no_def r = tt
  defs-sound g c k (one_def (define ns (row t ls)) ds) r =
      let a : Expanded Leaves = expand_leaves g c (written k) k 0 ls in
      let f : FineLeaves (expand_leaves g c (written k) k 0 ls) (holds_scope ls) = leaves-sound g c (written k) k 0 ls r.3 in
      let own : Sound (entry (written k) (given_names ns (given g (written k))) t (expand_leaves g c (written k) k 0 ls)) =
      (refl, subst AllSame (sym (declares-expand g c (written k) k 0 t ls)) r.1, λ q. subst Textual (sym (textual-expand g c (written k) k 0 ls (r.2 q))) (r.2 q), f.2, f.3) in
      each-app Sound (expand_one (written k) (given_names ns (given g (written k))) t (expand_leaves g c (written k) k 0 ls)) (expand_defs g c (k + 1) ds)
      (each-app Sound a.inlined (a.bundles ++ entry (written k) (given_names ns (given g (written k))) t a ∷ []) f.0 (each-app Sound a.bundles (entry (written k) (given_names ns (given g (written k))) t a ∷ []) f.1 (own, tt)))
      (defs-sound g c (k + 1) ds r.4)

expand-sound : (g : Naming) (s : Scope) → Rowed s → Rowed (expand g s) × Marked (defs_of (expand g s)) (expand_marks g s)
expand-sound g (scope_of kd id label ds) r =
    let all : EachListed Sound (expand_defs g (scope_of kd id label ds) 0 ds ++ expand_exports g 0 ds) =
    each-app Sound (expand_defs g (scope_of kd id label ds) 0 ds) (expand_exports g 0 ds) (defs-sound g (scope_of kd id label ds) 0 ds r) (exports-sound g 0 ds) in
    (sound-rowed _ all, sound-marked _ all)

pub expands-sound : (s x : Scope) (os : ListMarks) → Rowed s → OfText s → Expands s x os → Rowed x × Marked (defs_of x) os
expands-sound s x os r t h =
    let k : (g : Naming) × Named g s × (x ≡ expand g s) × (os ≡ expand_marks g s) = expands-expand s x os r t h in
    subst (λ ms. Rowed x × Marked (defs_of x) ms) (sym k.3) (subst (λ y. Rowed y × Marked (defs_of y) (expand_marks k.0 s)) (sym k.2) (expand-sound k.0 s r))
