-- Wrong binaries that render nothing.
use Rattle.std.proofs.Common.{None, ◌≡◌, ℕ, zero, suc, ◌<◌, Bool, true, false, List, [], ◌∷◌, slice_get, Some, refl, sym, ◌∙◌, ap, subst, arith}
use Rattle.std.specs.Prelude.{codes}
use Rattle.comp_model.specs.declared.Space.TheVariants.{Ty}
use Rattle.comp_model.specs.declared.row.Row.TheVariants as rows
use Rattle.comp_model.specs.Model.{Leaf, number, ref, nodes, no_node, index, numeral, Leaves, no_leaf, ◌▸◌, row, no_def, defs_of, scope, Scope, scope_of, Defs}
use Rattle.comp_model.specs.declared.row.ScopeKind.TheVariants as kinds
use Rattle.comp_model.specs.Origins.{Origins, Origin, written, inline_type, bundle_of, inline_export, export_step, outer_alias_of, name_section, Held, holds_none, holds, no_origins, origin_then}
use Rattle.comp_scopes.specs.Form.{Made, make, alias_node, step_node, export_node, custom_node}
use Rattle.comp_scopes.specs.Renders.{placed, OneEach, MarksRender, ScopeThere, Renders, Use, LeavesAre, leaves_of_node, index_in, first_leaf}
use Rattle.comp_scopes.proofs.Lookup.{some-same}
use Rattle.comp_scopes.proofs.Shorthands.{nested, mark_with, plain_encoding, id_at, def, exported, bare, component, u8, list_of, list_at, mark}
use Rattle.comp_scopes.proofs.Letters.{t}

-- the empty component, for a type
nothing_written : Renders plain_encoding [] [] (component (bare u8 no_def)) (component no_def) no_origins → ⊥
nothing_written h = let e : ◌≡◌ {A = List ℕ} [] (0 ∷ []) = h.marks.written in cc

-- a written definition marked as generated
all_generated : Renders plain_encoding [] [] (component (bare u8 no_def)) (component (bare u8 no_def)) (mark (inline_type 0 0) no_origins) → ⊥
all_generated h = let e : ◌≡◌ {A = List ℕ} [] (0 ∷ []) = h.marks.written in cc

-- a definition that nothing uses, marked as an inline type
no_use : Renders plain_encoding [] [] (component (bare u8 no_def)) (component (bare u8 (bare u8 no_def))) (mark (inline_type 0 0) (mark (written 0) no_origins)) → ⊥
no_use h = let x : _ = h.marks.used 0 (make (inline_type 0 0) u8) refl in let e : slice_get {X = Use} [] x.stands.position ≡ Some x.asker = x.stands.stands in cc

-- two definitions with one mark
twice : Renders plain_encoding [] [] (component (bare u8 no_def)) (component (bare u8 (bare u8 no_def))) (mark (written 0) (mark (written 0) no_origins)) → ⊥
twice h = h.marks.distinct.0.0 refl

-- a numeral shifted
shifted : Renders plain_encoding [] [] (component (bare (list_of (ref Ty (numeral 0 1))) no_def)) (component (bare (list_at 2) no_def)) (mark (written 0) no_origins) → ⊥
shifted h = go h.defs.0.position h.defs.0.held h.defs.0.leaves h.defs.0.stands h.defs.0.fact
  where
    go : (p : ℕ) (g : Held) (bs : Leaves) → slice_get {X = Made} (make (written 0) (list_at 2) ∷ []) p ≡ Some (record { origin = written 0; held = g; made = row rows.ListType bs })
        → LeavesAre bs (λ b. b ≡ ref Ty (index 1)) (λ cs. cs ≡ no_leaf) → ⊥
    go zero g bs e f =
        let a : index_in (first_leaf (ref Ty (index 2) ▸ no_leaf)) ≡ index_in (first_leaf bs) = ap (λ m. index_in (first_leaf (leaves_of_node m.made))) (some-same _ _ e) in
        let c : index_in (first_leaf bs) ≡ 1 = ap (λ l. index_in (first_leaf l)) f.are ∙ ap index_in f.first_fact in
        let d : ◌≡◌ {A = ℕ} 2 1 = a ∙ c in omega arith
    go (suc p) g bs e f = absurd (cc)

-- marks of a scope beside a definition that holds none
stray_marks : Renders plain_encoding [] [] (component (bare u8 no_def)) (component (bare u8 no_def)) (origin_then (written 0) (holds no_origins) no_origins) → ⊥
stray_marks h = let e : holds no_origins ≡ holds_none = h.marks.held.0 refl in cc

-- written definitions out of their order
out_of_order : Renders plain_encoding [] [] (component (bare u8 (bare u8 no_def))) (component (bare u8 (bare u8 no_def))) (mark (written 1) (mark (written 0) no_origins)) → ⊥
out_of_order h = let e : ◌≡◌ {A = List ℕ} (1 ∷ 0 ∷ []) (0 ∷ 1 ∷ []) = h.marks.written in cc

-- an inline export that is left out, and one that no definition asks for
export_left_out : Renders plain_encoding [] [] (component (exported (t ∷ []) u8 no_def)) (component (bare u8 no_def)) (mark (written 0) no_origins) → ⊥
export_left_out h = go h.marks.exported.0.0.position h.marks.exported.0.0.stands refl
  where
    go : (p : ℕ) {n : Made} → slice_get {X = Made} (make (written 0) u8 ∷ []) p ≡ Some n → n.origin ≡ inline_export 0 0 → ⊥
    go zero e f = let g : ◌≡◌ {A = Origin} (written 0) (inline_export 0 0) = ap (λ m. m.origin) (some-same _ _ e) ∙ f in cc
    go (suc p) e f = absurd (cc)

export_idle : Renders plain_encoding [] [] (component (bare u8 no_def)) (component (bare u8 (bare (export_node t Ty 0) no_def))) (mark (written 0) (mark (inline_export 0 0) no_origins)) → ⊥
export_idle h = let e : 0 < 0 = h.marks.named.1.0 in omega (arith, e)

-- a bundle, an alias of an export and an outer alias that nothing uses
bundle_idle : Renders plain_encoding [] [] (component (bare u8 no_def)) (component (bare (row rows.Bundle (nodes no_node ▸ no_leaf)) (bare u8 no_def))) (mark (bundle_of 0 0) (mark (written 0) no_origins)) → ⊥
bundle_idle h = let x : _ = h.marks.used 0 (make (bundle_of 0 0) (row rows.Bundle (nodes no_node ▸ no_leaf))) refl in let e : slice_get {X = Use} [] x.stands.position ≡ Some x.asker = x.stands.stands in cc

step_idle : Renders plain_encoding [] [] (component (bare u8 no_def)) (component (bare (step_node 0 t Ty) (bare u8 no_def))) (mark (export_step 0 0 0) (mark (written 0) no_origins)) → ⊥
step_idle h = let x : _ = h.marks.used 0 (make (export_step 0 0 0) (step_node 0 t Ty)) refl in let e : slice_get {X = Use} [] x.stands.position ≡ Some x.asker = x.stands.stands in cc

alias_idle : Renders plain_encoding [] [] (component (bare u8 no_def)) (component (bare (alias_node 0 Ty 0) (bare u8 no_def))) (mark (outer_alias_of 0 0) (mark (written 0) no_origins)) → ⊥
alias_idle h = let x : _ = h.marks.used 0 (make (outer_alias_of 0 0) (alias_node 0 Ty 0)) refl in let e : slice_get {X = Use} [] x.stands.position ≡ Some x.asker = x.stands.stands in cc

-- a name section in front, and one where nothing has a name
names_first : Renders plain_encoding [] [] (component (def t u8 no_def)) (component (bare (custom_node (codes "component-name") []) (bare u8 no_def))) (mark name_section (mark (written 0) no_origins)) → ⊥
names_first h = let e : ◌≡◌ {A = List Made} (make (written 0) u8 ∷ []) [] = h.marks.last.0.is_last in cc

names_of_none : Renders plain_encoding [] [] (component (bare u8 no_def)) (component (bare u8 (bare (custom_node (codes "component-name") []) no_def))) (mark (written 0) (mark name_section no_origins)) → ⊥
names_of_none h = let e : ◌≡◌ {A = Bool} false true = h.marks.last.1.0.named in cc

-- a mark of a name section on another node
names_elsewhere : Renders plain_encoding [] [] (component (def t u8 no_def)) (component (bare u8 (bare u8 no_def))) (mark (written 0) (mark name_section no_origins)) → ⊥
names_elsewhere h = let e : row rows.Primitive (number 0x7d ▸ no_leaf) ≡ custom_node (codes "component-name") h.marks.last.1.0.payload = h.marks.last.1.0.is_custom in cc

-- more marks than definitions, a scope of another kind, one with an id, one with a label
too_many_marks : Renders plain_encoding [] [] (component (bare u8 no_def)) (component (bare u8 no_def)) (mark (written 0) (mark (inline_type 0 0) no_origins)) → ⊥
too_many_marks h = h.marked

another_kind : Renders plain_encoding [] [] (component no_def) (scope_of kinds.InstanceType None None no_def) no_origins → ⊥
another_kind h = let e : kinds.InstanceType ≡ kinds.Component = h.kind in cc

with_an_id : Renders plain_encoding [] [] (component no_def) (scope_of kinds.Component (Some (id_at 0 t)) None no_def) no_origins → ⊥
with_an_id h = let e : Some (id_at 0 t) ≡ None = h.id in cc

with_a_label : Renders plain_encoding [] [] (component no_def) (scope_of kinds.Component None (Some t) no_def) no_origins → ⊥
with_a_label h = let e : Some t ≡ None = h.label in cc

-- of a component in a component, with these definitions and these marks
module _ (s : Scope) (ds : Defs) (os : Origins) where
  defs_in : Leaf → Defs
  defs_in (scope x) = defs_of x
  defs_in l = no_def

  origins_in : Held → Origins
  origins_in (holds ps) = ps
  origins_in holds_none = no_origins

  pub inner_marks : (p : ℕ) (g : Held) (bs : Leaves) → slice_get {X = Made} (record { origin = written 0; held = holds os; made = nested ds } ∷ []) p ≡ Some (record { origin = written 0; held = g; made = row rows.Component bs })
      → (b : Leaf) (cs : Leaves) → bs ≡ b ▸ cs → {F : List Made → Type 0} → ScopeThere s g b F → OneEach ds os × MarksRender s (defs_of s) (placed ds os)
  unfolding defs_in origins_in
  inner_marks zero g bs e b cs f r =
      let m : _ = some-same _ _ e in
      let xs : os ≡ r.origins = ap (λ n. origins_in n.held) m ∙ ap origins_in r.is_held in
      let ys : ds ≡ r.defs = ap (λ n. defs_in (first_leaf (leaves_of_node n.made))) m ∙ ap (λ l. defs_in (first_leaf l)) f ∙ ap defs_in r.is_scope in
      subst (λ o. OneEach ds o × MarksRender s (defs_of s) (placed ds o)) (sym xs) (subst (λ d. OneEach d r.origins × MarksRender s (defs_of s) (placed d r.origins)) (sym ys) (r.marked, r.marks))
  inner_marks (suc p) g bs e b cs f r = absurd (cc)

-- in an inner scope a definition that nothing uses
abbrev idle_defs : Defs
idle_defs = bare u8 (bare u8 no_def)

abbrev idle_marks : Origins
idle_marks = mark (inline_type 0 0) (mark (written 0) no_origins)

inner_idle : Renders plain_encoding [] [] (component (bare (nested (bare u8 no_def)) no_def)) (component (bare (nested idle_defs) no_def)) (mark_with (written 0) idle_marks no_origins) → ⊥
inner_idle h =
    let w : _ = h.defs.0 in
    let m : _ = (inner_marks (component (bare u8 no_def)) idle_defs idle_marks w.position w.held w.leaves w.stands w.fact.first w.fact.later w.fact.are w.fact.first_fact).1 in
    let x : _ = m.used 0 (make (inline_type 0 0) u8) refl in let e : slice_get {X = Use} [] x.stands.position ≡ Some x.asker = x.stands.stands in cc

-- and a definition more than there are marks
abbrev one_mark : Origins
one_mark = mark (written 0) no_origins

too_few_marks : Renders plain_encoding [] [] (component (bare u8 no_def)) (component idle_defs) one_mark → ⊥
too_few_marks h = h.marked

inner_too_few : Renders plain_encoding [] [] (component (bare (nested (bare u8 no_def)) no_def)) (component (bare (nested idle_defs) no_def)) (mark_with (written 0) one_mark no_origins) → ⊥
inner_too_few h =
    let w : _ = h.defs.0 in
    (inner_marks (component (bare u8 no_def)) idle_defs one_mark w.position w.held w.leaves w.stands w.fact.first w.fact.later w.fact.are w.fact.first_fact).0
