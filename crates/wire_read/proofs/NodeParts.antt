-- Parts in parts: optional leaves, rows in a leaf, lists of rows and the scopes of types.
use Rattle.std.proofs.Common.{◌≡◌, ℕ, suc, ◌+◌, ◌-◌, List, [], ◌∷◌, ◌++◌, refl, sym, ◌∙◌, ap, subst, arith, true, append_assoc}
use Rattle.comp_model.specs.Leb.{uleb}
use Rattle.comp_model.specs.Model as m
use Rattle.comp_model.specs.declared.row.ScopeKind.TheVariants as kinds
use Rattle.comp_model.specs.Model.{Leaf, Node, Nodes, no_node, one_node, no_names, Def, define, Defs, no_def, one_def, Scope, scope_of, count_nodes, count_defs}
use Rattle.comp_model.specs.declared.row.ScopeKind.{ScopeKind}
use Rattle.comp_wire.specs.Table as t
use Rattle.comp_wire.specs.Table.{Family, Field}
use Rattle.comp_wire.specs.Sections.{Word}
use Rattle.comp_wire.specs.Spelled.{spell_leaf, FitsLeaf, spell_node, FitsNode, spell_nodes, FitsNodes, spell_declarations, FitsDeclarations, declarations_of}
use Rattle.comp_wire.proofs.Numbers.{cons_is, uleb_ends}
use Rattle.wire_tree.specs.Lists.{node_of, nodes_listed, defs_listed}
use Rattle.wire_tree.specs.declared.tree.Node as tree
use Rattle.wire_read.specs.Place.{Place, rest, Takes}
use Rattle.wire_read.specs.Reading.{Unread, Read}
use Rattle.wire_read.specs.Plain.{is_plain}
use Rattle.wire_read.specs.Within.{WithinLeaf, WithinNode, WithinNodes, WithinDefs}
use Rattle.wire_read.specs.Stops.{Allows, Refused}
use Rattle.wire_read.specs.Nodes.{is_closed, FitsMany}
use Rattle.wire_read.specs.declared.stop.Stop.{Stop}
use Rattle.wire_read.specs.declared.stop.Stop.TheVariants as stop

-- a refusal of a leaf of a field, of rows, of lists of them
abbrev pub LeafRefused : Field → ℕ → List ℕ → Stop → Type 0
LeafRefused f left bytes e = Refused (λ (x : Leaf). FitsLeaf x f) (λ x. WithinLeaf x left) (λ x. spell_leaf x f) bytes e

abbrev pub NodeRefused : Family → ℕ → List ℕ → Stop → Type 0
NodeRefused f left bytes e = Refused (λ (x : Node). FitsNode x f) (λ x. WithinNode x left) (λ x. spell_node x f) bytes e

abbrev pub RowsRefused : ℕ → Family → ℕ → List ℕ → Stop → Type 0
RowsRefused n f left bytes e = Refused (FitsMany n f) (λ x. WithinNodes x left) (λ x. spell_nodes x f) bytes e

-- no scope stands in a leaf that holds none
pub plain_within : (x : Leaf) (f : Field) (n : ℕ) → is_plain f ≡ true → FitsLeaf x f → WithinLeaf x n
plain_within (m.present l) (t.optional f) n ok h = cc
plain_within (m.present l) (t.result f) n ok h = cc
plain_within (m.present l) t.maximum n ok h = cc
plain_within (m.present l) f n ok h = absurd h
plain_within (m.node k) (t.one g) n ok h = cc
plain_within (m.node k) f n ok h = absurd h
plain_within (m.nodes ks) (t.each g) n ok h = cc
plain_within (m.nodes ks) f n ok h = absurd h
plain_within (m.scope s) (t.type_scope k) n ok h = cc
plain_within (m.scope s) t.whole_component n ok h = cc
plain_within (m.scope s) f n ok h = absurd h
plain_within x f n ok h = tt

pub optional_refused : (f : Field) (left b : ℕ) (old mid : Place) (e : Stop) → Takes old mid (b ∷ []) → b ≡ 0x01 → LeafRefused f left (rest mid) e → LeafRefused (t.optional f) left (rest old) e
optional_refused f left b old mid e k i u m.absent r h a q = let heads = cons_is _ _ _ _ (q ∙ k.taken) in omega (arith, heads.0, i)
optional_refused f left b old mid e k i u (m.present l) r h a q = u l r h a (cons_is _ _ _ _ (q ∙ k.taken)).1
optional_refused f left b old mid e k i u x r h a q = absurd h

pub result_refused : (f : Field) (left b : ℕ) (old mid : Place) (e : Stop) → Takes old mid (b ∷ []) → b ≡ 0x00 → LeafRefused f left (rest mid) e → LeafRefused (t.result f) left (rest old) e
result_refused f left b old mid e k i u m.absent r h a q = let heads = cons_is _ _ _ _ (q ∙ k.taken) in omega (arith, heads.0, i)
result_refused f left b old mid e k i u (m.present l) r h a q = u l r h a (cons_is _ _ _ _ (q ∙ k.taken)).1
result_refused f left b old mid e k i u x r h a q = absurd h

-- neither byte that an optional part may begin with
pub no_optional : (f : Field) (left b : ℕ) (old mid : Place) → Takes old mid (b ∷ []) → (b ≡ 0x00 → ⊥) → (b ≡ 0x01 → ⊥) → LeafRefused (t.optional f) left (rest old) stop.Misread
no_optional f left b old mid k z o m.absent r h a q = z (sym (cons_is _ _ _ _ (q ∙ k.taken)).0)
no_optional f left b old mid k z o (m.present l) r h a q = o (sym (cons_is _ _ _ _ (q ∙ k.taken)).0)
no_optional f left b old mid k z o x r h a q = absurd h

pub no_result : (f : Field) (left b : ℕ) (old mid : Place) → Takes old mid (b ∷ []) → (b ≡ 0x00 → ⊥) → (b ≡ 0x01 → ⊥) → LeafRefused (t.result f) left (rest old) stop.Misread
no_result f left b old mid k z o m.absent r h a q = o (sym (cons_is _ _ _ _ (q ∙ k.taken)).0)
no_result f left b old mid k z o (m.present l) r h a q = z (sym (cons_is _ _ _ _ (q ∙ k.taken)).0)
no_result f left b old mid k z o x r h a q = absurd h

pub no_result_end : (f : Field) (left b : ℕ) (old mid : Place) → Takes old mid (b ∷ []) → b ≡ 0x01 → ((ys : List ℕ) → 0x00 ∷ ys ≡ rest mid → ⊥) → LeafRefused (t.result f) left (rest old) stop.Misread
no_result_end f left b old mid k i u m.absent r h a q = u r (cons_is _ _ _ _ (q ∙ k.taken)).1
no_result_end f left b old mid k i u (m.present l) r h a q = let heads = cons_is _ _ _ _ (q ∙ k.taken) in omega (arith, heads.0, i)
no_result_end f left b old mid k i u x r h a q = absurd h

pub optional_end : (f : Field) (left : ℕ) (bytes : List ℕ) → bytes ≡ [] → LeafRefused (t.optional f) left bytes stop.Misread
optional_end f left bytes e m.absent r h a q = let g : 0x00 ∷ r ≡ [] = q ∙ e in cc
optional_end f left bytes e (m.present l) r h a q = let g : 0x01 ∷ (spell_leaf l f ++ r) ≡ [] = q ∙ e in cc
optional_end f left bytes e x r h a q = absurd h

pub result_end : (f : Field) (left : ℕ) (bytes : List ℕ) → bytes ≡ [] → LeafRefused (t.result f) left bytes stop.Misread
result_end f left bytes e m.absent r h a q = let g : 0x01 ∷ 0x00 ∷ r ≡ [] = q ∙ e in cc
result_end f left bytes e (m.present l) r h a q = let g : 0x00 ∷ (spell_leaf l f ++ r) ≡ [] = q ∙ e in cc
result_end f left bytes e x r h a q = absurd h

pub one_refused : (g : Family) (left : ℕ) (bytes : List ℕ) (e : Stop) → NodeRefused g left bytes e → LeafRefused (t.one g) left bytes e
one_refused g left bytes e u (m.node k) r h a q = u k r h a q
one_refused g left bytes e u x r h a q = absurd h

pub no_count : (g : Family) (left : ℕ) (bytes : List ℕ) → Unread Word uleb bytes → LeafRefused (t.each g) left bytes stop.Misread
no_count g left bytes u (m.nodes ks) r h a q = u (count_nodes ks) (spell_nodes ks g ++ r) h.0 (sym (append_assoc (uleb (count_nodes ks)) (spell_nodes ks g) r) ∙ q)
no_count g left bytes u x r h a q = absurd h

pub each_refused : (g : Family) (left n : ℕ) (old mid : Place) (e : Stop) → Read Word uleb old mid n → RowsRefused n g left (rest mid) e → LeafRefused (t.each g) left (rest old) e
each_refused g left n old mid e k u (m.nodes ks) r h a q =
    let s = uleb_ends (count_nodes ks) n (spell_nodes ks g ++ r) (rest mid) (sym (append_assoc (uleb (count_nodes ks)) (spell_nodes ks g) r) ∙ q ∙ k.1.taken) in
    u ks r (s.0, h.1) a s.1
each_refused g left n old mid e k u x r h a q = absurd h

-- ---- the scope of a type: its declarations as rows

rows_of : Defs → Nodes
rows_of no_def = no_node
rows_of (one_def (define names k) ds) = one_node k (rows_of ds)

rows_counted : (ds : Defs) → count_nodes (rows_of ds) ≡ count_defs ds
unfolding rows_of
rows_counted no_def = refl
rows_counted (one_def (define names k) ds) = ap (λ n. n + 1) (rows_counted ds)

rows_fit : (ds : Defs) (f : Family) → FitsDeclarations ds f → FitsNodes (rows_of ds) f
unfolding rows_of
rows_fit no_def f h = tt
rows_fit (one_def (define names k) ds) f h = (h.0.1, rows_fit ds f h.1)

rows_spelled : (ds : Defs) (f : Family) → spell_nodes (rows_of ds) f ≡ spell_declarations ds f
unfolding rows_of
rows_spelled no_def f = refl
rows_spelled (one_def (define names k) ds) f = ap (λ z. spell_node k f ++ z) (rows_spelled ds f)

rows_within : (ds : Defs) (n : ℕ) → WithinDefs ds n → WithinNodes (rows_of ds) n
unfolding rows_of
rows_within no_def n h = tt
rows_within (one_def (define names k) ds) n h = (h.0, rows_within ds n h.1)

pub allowed : (e : Stop) (P Q : Type 0) → (P → Q) → Allows e P → Allows e Q
allowed stop.Memory P Q f a = a
allowed stop.Misread P Q f a = a
allowed (stop.Deep at) P Q f a = f a

pub too_deep : (k : ScopeKind) (left at : ℕ) (bytes : List ℕ) → left ≡ 0 → LeafRefused (t.type_scope k) left bytes (stop.Deep at)
too_deep k left at bytes e (m.scope s) r h a q = subst (λ n. WithinLeaf (m.scope s) n) e a
too_deep k left at bytes e x r h a q = absurd h

pub no_declarations : (k : ScopeKind) (left : ℕ) (bytes : List ℕ) → Unread Word uleb bytes → LeafRefused (t.type_scope k) left bytes stop.Misread
no_declarations k left bytes u (m.scope (scope_of l i x ds)) r h a q =
    u (count_defs ds) (spell_declarations ds (declarations_of k) ++ r) h.3 (sym (append_assoc (uleb (count_defs ds)) (spell_declarations ds (declarations_of k)) r) ∙ q)
no_declarations k left bytes u x r h a q = absurd h

pub declarations_refused : (k : ScopeKind) (left n : ℕ) (old mid : Place) (e : Stop) → (left ≡ 0 → ⊥) → Read Word uleb old mid n → RowsRefused n (declarations_of k) (left - 1) (rest mid) e → LeafRefused (t.type_scope k) left (rest old) e
declarations_refused k left n old mid e z c u (m.scope (scope_of l i x ds)) r h a q =
    let f = declarations_of k in
    let s = uleb_ends (count_defs ds) n (spell_declarations ds f ++ r) (rest mid) (sym (append_assoc (uleb (count_defs ds)) (spell_declarations ds f) r) ∙ q ∙ c.1.taken) in
    let more : left ≡ suc (left - 1) = omega (arith, z) in
    let near : Allows e (WithinDefs ds (left - 1)) = subst (λ n. Allows e (WithinLeaf (m.scope (scope_of l i x ds)) n)) more a in
    u (rows_of ds) r (rows_counted ds ∙ s.0, rows_fit ds f h.4) (allowed e _ _ (rows_within ds (left - 1)) near) (ap (λ z. z ++ r) (rows_spelled ds f) ∙ s.1)
declarations_refused k left n old mid e z c u x r h a q = absurd h

-- what was read
pub defs_counted : (ns : List tree.Node) → count_defs (defs_listed ns) ≡ count_nodes (nodes_listed ns)
defs_counted [] = refl
defs_counted (n ∷ ns) = ap (λ k. k + 1) (defs_counted ns)

pub defs_fit : (ns : List tree.Node) (f : Family) → FitsNodes (nodes_listed ns) f → FitsDeclarations (defs_listed ns) f
defs_fit [] f h = tt
defs_fit (n ∷ ns) f h = ((refl, h.0), defs_fit ns f h.1)

pub defs_spelled : (ns : List tree.Node) (f : Family) → spell_declarations (defs_listed ns) f ≡ spell_nodes (nodes_listed ns) f
defs_spelled [] f = refl
defs_spelled (n ∷ ns) f = ap (λ z. spell_node (node_of n) f ++ z) (defs_spelled ns f)

pub defs_within : (ns : List tree.Node) (n : ℕ) → WithinNodes (nodes_listed ns) n → WithinDefs (defs_listed ns) n
defs_within [] n h = tt
defs_within (k ∷ ks) n h = (h.0, defs_within ks n h.1)

pub declarations_closed : (k : ScopeKind) → is_closed (declarations_of k) ≡ true
declarations_closed kinds.ComponentType = refl
declarations_closed kinds.InstanceType = refl
declarations_closed kinds.ModuleType = refl
declarations_closed kinds.Component = refl
