-- What a definition declares, by the sorts of its leaves.
use Rattle.std.proofs.Common.{◌≡◌, true, ◌&&◌, List, [], ◌∷◌, map, length, refl, sym, subst, inl, inr, None, Option, append-nil}
use Rattle.comp_model.specs.Core as core
use Rattle.comp_model.specs.Core.{Id, Text}
use Rattle.comp_model.specs.Model as m
use Rattle.comp_model.specs.declared.row.ScopeKind.TheVariants as kinds
use Rattle.comp_model.specs.Model.{Leaf, Defs}
use Rattle.comp_model.specs.declared.row.ScopeKind.{ScopeKind}
use Rattle.comp_model.specs.declared.row.Row.TheVariants as rows
use Rattle.comp_model.specs.declared.row.Row.{Row}
use Rattle.comp_model.specs.RowNumbers.{is_row}
use Rattle.comp_model.specs.declared.declares.Declares.{Declares}
use Rattle.comp_model.specs.declared.declares.Declares.TheVariants.{Always, ByKind, ByDescription, ByReference, ByList, ByResults, Nothing}
use Rattle.comp_model.specs.Spaces.{described, leaf_spaces, leaves_spaces, spaces_by}
use Rattle.comp_model.specs.Rows.{descriptions}
use Rattle.text_rules.specs.Made.{leaves_from, owned}
use Rattle.text_rules.specs.Sorts.{Sort, Segment}
use Rattle.text_rules.specs.HasSorts as is
use Rattle.text_rules.specs.HasSorts.{HasLeaf, HasLeaves}
use Rattle.text_rules.specs.DefinitionTests.{is_silent, speaks, are_silent, one_speaks, one_item, goes_by_kind}
use Rattle.wast_grammar.proofs.Moves.{and_true, or_true}

described_one : (t : Row) → is_row t descriptions ≡ true → length (described t) ≡ 1
described_one rows.ModuleDescription h = refl
described_one rows.FuncDescription h = refl
described_one rows.ValueDescription h = refl
described_one rows.TypeEq h = refl
described_one rows.SubResource h = refl
described_one rows.ComponentDescription h = refl
described_one rows.InstanceDescription h = refl
described_one _ h = absurd (cc)

module _ (i : Option Id) (t : Option Text) where
  scope_silent : (k : ScopeKind) (ds : Defs) (d : Declares) → leaf_spaces (owned i t (m.scope (m.scope_of k None None ds))) d ≡ []
  scope_silent kinds.Component ds d = refl
  scope_silent kinds.ComponentType ds d = refl
  scope_silent kinds.InstanceType ds d = refl
  scope_silent kinds.ModuleType ds d = refl

  silent_leaf : (d : Declares) {x : Sort} {l : Leaf} → HasLeaf x l → is_silent d x ≡ true → leaf_spaces (owned i t l) d ≡ []
  silent_leaf ByKind is.kind_leaf h = absurd (cc)
  silent_leaf ByKind (is.shape_leaf p g) h = absurd (cc)
  silent_leaf ByKind (is.scope_leaf {k = k} {ds = ds} g) h = scope_silent k ds ByKind
  silent_leaf ByKind _ h = refl
  silent_leaf ByDescription (is.node_leaf g) h = absurd (cc)
  silent_leaf ByDescription (is.shape_leaf p g) h = absurd (cc)
  silent_leaf ByDescription (is.scope_leaf {k = k} {ds = ds} g) h = scope_silent k ds ByDescription
  silent_leaf ByDescription _ h = refl
  silent_leaf ByReference (is.name_leaf g) h = absurd (cc)
  silent_leaf ByReference (is.numeral_leaf g) h = absurd (cc)
  silent_leaf ByReference (is.item_name g) h = absurd (cc)
  silent_leaf ByReference (is.item_numeral g) h = absurd (cc)
  silent_leaf ByReference (is.item_path a b c e) h = absurd (cc)
  silent_leaf ByReference (is.inline_leaf a b) h = absurd (cc)
  silent_leaf ByReference (is.bundle_leaf a) h = absurd (cc)
  silent_leaf ByReference (is.shape_leaf p g) h = absurd (cc)
  silent_leaf ByReference (is.scope_leaf {k = k} {ds = ds} g) h = scope_silent k ds ByReference
  silent_leaf ByReference _ h = refl
  silent_leaf ByList _ h = absurd (cc)
  silent_leaf ByResults _ h = absurd (cc)
  silent_leaf (Always s) _ h = absurd (cc)
  silent_leaf Nothing _ h = absurd (cc)

  speaking_leaf : (d : Declares) {x : Sort} {l : Leaf} → HasLeaf x l → speaks d x ≡ true → length (leaf_spaces (owned i t l) d) ≡ 1
  speaking_leaf ByKind is.kind_leaf h = refl
  speaking_leaf ByKind _ h = absurd (cc)
  speaking_leaf ByDescription (is.node_leaf {t = u} g) h = described_one u h
  speaking_leaf ByDescription _ h = absurd (cc)
  speaking_leaf ByReference (is.name_leaf g) h = refl
  speaking_leaf ByReference (is.numeral_leaf g) h = refl
  speaking_leaf ByReference (is.item_name g) h = refl
  speaking_leaf ByReference (is.item_numeral g) h = refl
  speaking_leaf ByReference (is.item_path a b c e) h = refl
  speaking_leaf ByReference _ h = absurd (cc)
  speaking_leaf ByList _ h = absurd (cc)
  speaking_leaf ByResults _ h = absurd (cc)
  speaking_leaf (Always s) _ h = absurd (cc)
  speaking_leaf Nothing _ h = absurd (cc)

  silent_leaves : (d : Declares) {xs : List Segment} {ls : List Leaf} → HasLeaves xs ls → are_silent d xs ≡ true → leaves_spaces (leaves_from (map (owned i t) ls)) d ≡ []
  silent_leaves d is.no_leaves h = refl
  silent_leaves d (is.one_leaf {x = x} a b) h =
      let c = and_true (is_silent d x) _ h in
      rw (silent_leaf d a c.0, silent_leaves d b c.1) refl
  silent_leaves d _ h = absurd (cc)

  kind_speaks : (d : Declares) (r : List Segment) {ls : List Leaf} → HasLeaves r ls → (goes_by_kind d && are_silent d r) ≡ true → (d ≡ ByKind) × (leaves_spaces (leaves_from (map (owned i t) ls)) ByKind ≡ [])
  kind_speaks ByKind r j h = (refl, silent_leaves ByKind j h)
  kind_speaks _ r j h = absurd (cc)

  one_space : (d : Declares) {xs : List Segment} {ls : List Leaf} → HasLeaves xs ls → one_speaks d xs ≡ true → length (leaves_spaces (leaves_from (map (owned i t) ls)) d) ≡ 1
  one_space d is.no_leaves h = absurd (cc)
  one_space d (is.one_leaf {x = x} {ss = ss} {l = l} a b) h =
      elim (or_true (speaks d x && are_silent d ss) _ h) [
        | inl e ↦
            let c = and_true (speaks d x) _ e in
            rw (silent_leaves d b c.1, append-nil (leaf_spaces (owned i t l) d)) (speaking_leaf d a c.0)
        | inr e ↦
            let c = and_true (is_silent d x) _ e in
            rw (silent_leaf d a c.0) (one_space d b c.1)
      ]
  one_space d (is.no_texts j) h = absurd (cc)
  one_space d (is.more_texts u j) h = absurd (cc)
  one_space d (is.no_strings j) h = absurd (cc)
  one_space d (is.more_strings j) h = absurd (cc)
  one_space d (is.outer_name {k = k} {ss = ss} {p = p} {x = x} {ls = ls} a b c j) h =
      let q = kind_speaks d ss j h in
      subst (λ e. length (leaves_spaces (leaves_from (map (owned i t) (m.place p ∷ m.ref k (m.name (core.at_place p) x) ∷ m.kind k ∷ ls))) e) ≡ 1) (sym q.0) (rw (q.1) refl)
  one_space d (is.outer_numeral {k = k} {ss = ss} {p = p} {o = o} {n = n} {ls = ls} a b c j) h =
      let q = kind_speaks d ss j h in
      subst (λ e. length (leaves_spaces (leaves_from (map (owned i t) (m.place p ∷ m.ref k (m.numeral o n) ∷ m.kind k ∷ ls))) e) ≡ 1) (sym q.0) (rw (q.1) refl)
  one_space d (is.row_leaves ls ms e p g j) h = absurd (cc)

  pub one_declared : (d : Declares) {xs : List Segment} {ls : List Leaf} → HasLeaves xs ls → one_item d xs ≡ true → length (spaces_by d (leaves_from (map (owned i t) ls))) ≡ 1
  one_declared (Always s) j h = refl
  one_declared Nothing j h = absurd (cc)
  one_declared ByKind j h = one_space ByKind j h
  one_declared ByDescription j h = one_space ByDescription j h
  one_declared ByReference j h = one_space ByReference j h
  one_declared ByList j h = absurd (cc)
  one_declared ByResults j h = absurd (cc)
