-- Rows by their lines, and what holds them.
use Rattle.std.proofs.Common.{◌≡◌, ℕ, zero, suc, ◌+◌, ◌-◌, ◌<◌, ◌≤◌, List, [], ◌∷◌, ◌++◌, length, refl, sym, ◌∙◌, ap, subst, arith, Bool, true, false, ◌&&◌, Option, Some, None, is_some, append_assoc, Bor, ◌⊎◌, inl, inr, ◌||◌}
use Rattle.std.specs.Prelude.{option_to_list, nat_lt, nat_le, ◌==◌, if◌then◌else◌}
use Rattle.std.proofs.lemmas.Bool.{leb-true, leb-false, ltb-true, lt-ltb, eqb-true}
use Rattle.comp_wire.proofs.Groups.{and_both}
use Rattle.comp_model.specs.Leb.{uleb}
use Rattle.comp_model.specs.Model as m
use Rattle.comp_model.specs.Model.{Leaf, Leaves, Node, row, Nodes, count_nodes}
use Rattle.comp_model.specs.declared.row.ScopeKind.{ScopeKind}
use Rattle.comp_wire.specs.Table as t
use Rattle.comp_wire.specs.Table.{Family, Field, Piece, byte, Line, lines}
use Rattle.comp_wire.specs.Sections.{Word}
use Rattle.comp_wire.specs.Spelled.{spell_leaf, FitsLeaf, spell_leaves, spell_line, spell_node, find, assemble, fits_leaves, FitsPieces, FitsLine, FitsNode, spell_nodes, declarations_of, spell_declarations}
use Rattle.comp_wire.proofs.Rows.{has, leaf_at}
use Rattle.byte_table.specs.Lines.{line_pieces, field_of}
use Rattle.byte_table.specs.Stands.{lead_of}
use Rattle.byte_table.specs.declared.line.Field as code
use Rattle.byte_table.specs.declared.line.Field.TheVariants as field
use Rattle.wire_tree.specs.Model.{leaf_of, scope_of}
use Rattle.wire_tree.specs.Lists.{listed, node_of, nodes_listed, defs_listed}
use Rattle.wire_tree.proofs.Leaves.{leaf_node, leaf_nodes, scope_made}
use Rattle.wire_tree.specs.declared.tree.Leaf as l
use Rattle.wire_tree.specs.declared.tree.Node as tree
use Rattle.wire_tree.specs.declared.tree.Scope as s
use Rattle.comp_model.specs.declared.row.Row.{Row}
use Rattle.comp_model.specs.declared.row.ScopeKind as kinds
use Rattle.wire_read.specs.Place.{Place, rest, Takes}
use Rattle.wire_read.specs.Reading.{Read}
use Rattle.wire_read.specs.Plain.{is_plain}
use Rattle.wire_read.specs.RowAt.{row_at}
use Rattle.wire_read.specs.Within.{WithinLeaf, WithinLeaves, WithinNode, WithinNodes}
use Rattle.wire_read.specs.Nodes.{is_closed, FitsMany}
use Rattle.wire_read.specs.Flat.{is_flat_field}
use Rattle.wire_read.specs.Slots.{no_slots, all_slots, first_of, kept, slot_leaves, counted}
use Rattle.wire_read.specs.Pieces.{PiecesRead, PiecesRefused, are_readable, counted_by}
use Rattle.wire_read.specs.declared.stop.Stop.{Stop}
use Rattle.wire_read.specs.declared.stop.Stop.TheVariants as stop
use Rattle.wire_read.specs.declared.slots.Slots.{Slots}
use Rattle.wire_read.proofs.Places.{takes_two}
use Rattle.wire_read.proofs.PieceLaws.{carried}
use Rattle.wire_read.proofs.Known.{known}
use Rattle.wire_read.proofs.Decided.{decided}
use Rattle.wire_read.proofs.Ranks.{line_facts}
use Rattle.wire_read.proofs.NodeParts.{NodeRefused, defs_counted, defs_fit, defs_spelled, defs_within}
use Rattle.wire_read.proofs.PieceReads.{readable_later}

-- a leaf that was read
abbrev pub LeafRead : Field → ℕ → Place → Place → Leaf → Type 0
LeafRead f left old new x = FitsLeaf x f × WithinLeaf x left × Takes old new (spell_leaf x f)

abbrev pub NodeRead : Family → ℕ → Place → Place → Node → Type 0
NodeRead f left old new x = FitsNode x f × WithinNode x left × Takes old new (spell_node x f)

abbrev pub RowsRead : ℕ → Family → ℕ → Place → Place → Nodes → Type 0
RowsRead n f left old new x = FitsMany n f x × WithinNodes x left × Takes old new (spell_nodes x f)

-- the fields that hold a row or a part are told apart from those that are left
pub plain_left : (f : code.Field) → is_flat_field (field_of f) ≡ true → ((p : _) → f ≡ field.Optional p → ⊥) → ((p : _) → f ≡ field.Result p → ⊥) → ((g : _) → f ≡ field.One g → ⊥) → ((g : _) → f ≡ field.Each g → ⊥) → is_plain (field_of f) ≡ true
plain_left (field.Optional p) k a b c d = absurd (a p refl)
plain_left (field.Result p) k a b c d = absurd (b p refl)
plain_left (field.One g) k a b c d = absurd (c g refl)
plain_left (field.Each g) k a b c d = absurd (d g refl)
plain_left f k a b c d = k

pub each_read : (g : Family) (left n : ℕ) (old mid new : Place) (rows : Bor (List tree.Node)) → Read Word uleb old mid n → RowsRead n g left mid new (nodes_listed rows.now) → LeafRead (t.each g) left old new (leaf_of (l.Nodes rows))
each_read g left n old mid new rows k r =
    let ks = nodes_listed rows.now in
    let here : LeafRead (t.each g) left old new (m.nodes ks) =
    ((subst Word (sym r.0.0) k.0, r.0.1), r.1, subst (λ i. Takes old new (uleb i ++ spell_nodes ks g)) (sym r.0.0) (takes_two old mid new (uleb n) (spell_nodes ks g) k.1 r.2)) in
    subst (LeafRead (t.each g) left old new) (sym (leaf_nodes rows)) here

-- a part in the arena, behind the byte that says that it is there
pub inner_read : (f g : Field) (left : ℕ) (old new : Place) (x : l.Leaf) (p : Bor l.Leaf) → f ≡ g → p.now ≡ x → LeafRead f left old new (leaf_of x) → LeafRead g left old new (leaf_of p.now)
inner_read f g left old new x p e k r = subst (λ y. LeafRead g left old new (leaf_of y)) (sym k) (subst (λ h. LeafRead h left old new (leaf_of x)) e r)

part_behind : (f : Field) (left b c : ℕ) (old mid new : Place) (p : Bor l.Leaf) → b ≡ c → Takes old mid (b ∷ []) → LeafRead f left mid new (leaf_of p.now) → FitsLeaf (leaf_of p.now) f × WithinLeaf (leaf_of p.now) left × Takes old new (c ∷ spell_leaf (leaf_of p.now) f)
part_behind f left b c old mid new p e k r = (r.0, r.1, subst (λ d. Takes old new (d ∷ spell_leaf (leaf_of p.now) f)) e (takes_two old mid new (b ∷ []) (spell_leaf (leaf_of p.now) f) k r.2))

pub optional_read : (f : Field) (left b : ℕ) (old mid new : Place) (p : Bor l.Leaf) → b ≡ 0x01 → Takes old mid (b ∷ []) → LeafRead f left mid new (leaf_of p.now) → LeafRead (t.optional f) left old new (leaf_of (l.Present p))
optional_read f left b old mid new p e k q = part_behind f left b 0x01 old mid new p e k q

pub result_read : (f : Field) (left b : ℕ) (old mid new : Place) (p : Bor l.Leaf) → b ≡ 0x00 → Takes old mid (b ∷ []) → LeafRead f left mid new (leaf_of p.now) → LeafRead (t.result f) left old new (leaf_of (l.Present p))
result_read f left b old mid new p e k q = part_behind f left b 0x00 old mid new p e k q

pub one_read : (g : Family) (left : ℕ) (old new : Place) (node : tree.Node) (placed : Bor tree.Node) → placed.now ≡ node → NodeRead g left old new (node_of node) → LeafRead (t.one g) left old new (leaf_of (l.Node placed))
one_read g left old new node placed e q =
    subst (LeafRead (t.one g) left old new) (sym (leaf_node placed)) (subst (λ n. LeafRead (t.one g) left old new (m.node (node_of n))) (sym e) q)

pub scope_read : (k : ScopeKind) (code_kind : kinds.ScopeKind) (left n : ℕ) (old mid new : Place) (rows : Bor (List tree.Node)) (placed : Bor s.Scope) → code_kind ≡ k → placed.now ≡ s.roll-Scope (record { kind = code_kind; defs = rows }) → (left ≡ 0 → ⊥) → Read Word uleb old mid n
    → RowsRead n (declarations_of k) (left - 1) mid new (nodes_listed rows.now) → LeafRead (t.type_scope k) left old new (leaf_of (l.Scope placed))
scope_read k code_kind left n old mid new rows placed ke pe z c r =
    let f = declarations_of k in
    let ds = defs_listed rows.now in
    let count = defs_counted rows.now ∙ r.0.0 in
    let more : suc (left - 1) ≡ left = omega (arith, z) in
    let bytes = subst (λ xs. Takes mid new xs) (sym (defs_spelled rows.now f)) r.2 in
    let whole : LeafRead (t.type_scope k) (suc (left - 1)) old new (m.scope (m.scope_of k None None ds)) =
    ((refl, refl, refl, subst Word (sym count) c.0, defs_fit rows.now f r.0.1), defs_within rows.now (left - 1) r.1, subst (λ i. Takes old new (uleb i ++ spell_declarations ds f)) (sym count) (takes_two old mid new (uleb n) (spell_declarations ds f) c.1 bytes)) in
    let made : scope_of placed.now ≡ m.scope_of k None None ds = ap scope_of pe ∙ scope_made code_kind rows ∙ ap (λ j. m.scope_of j None None ds) ke in
    subst (λ x. LeafRead (t.type_scope k) left old new (m.scope x)) (sym made) (subst (λ i. LeafRead (t.type_scope k) i old new (m.scope (m.scope_of k None None ds))) more whole)

-- ---- a row by its line

same_row : (f : Family) (u v : Row) (ls : Leaves) (r bytes : List ℕ) → FitsNode (row u ls) f → spell_node (row u ls) f ++ r ≡ bytes → Some v ≡ row_at f bytes → u ≡ v
same_row f u v ls r bytes h e k =
    let q : Some v ≡ Some u = k ∙ ap (row_at f) (sym e) ∙ decided f u ls r h in
    cc

pub no_row : (f : Family) (left : ℕ) (bytes : List ℕ) → None ≡ row_at f bytes → NodeRefused f left bytes stop.Misread
no_row f left bytes k (row u ls) r h a e = let q : None ≡ Some u = k ∙ ap (row_at f) (sym e) ∙ decided f u ls r h in cc

lead_bytes : (b : Option ℕ) (ps : List Piece) (gs : List (Field → List ℕ)) → assemble (lead_of b ++ ps) gs ≡ option_to_list b ++ assemble ps gs
lead_bytes None ps gs = refl
lead_bytes (Some b) ps gs = refl

lead_fits : (b : Option ℕ) (ps : List Piece) (gs : List (Field → Type 0)) → FitsPieces (lead_of b ++ ps) gs → FitsPieces ps gs
lead_fits None ps gs h = h
lead_fits (Some b) ps gs h = h

fits_lead : (b : Option ℕ) (ps : List Piece) (gs : List (Field → Type 0)) → FitsPieces ps gs → FitsPieces (lead_of b ++ ps) gs
fits_lead None ps gs h = h
fits_lead (Some b) ps gs h = h

lead_readable : (b : Option ℕ) (ps : List Piece) → are_readable (lead_of b ++ ps) ≡ true → are_readable ps ≡ true
lead_readable None ps e = e
lead_readable (Some b) ps e = readable_later (byte b) ps e

lead_count : (b : Option ℕ) (ps : List Piece) (n : ℕ) → counted_by (lead_of b ++ ps) n ≡ counted_by ps n
lead_count None ps n = refl
lead_count (Some b) ps n = refl

-- leaves that fit a line, by its pieces behind the first byte
line_parts : (o : Option Line) (b : Option ℕ) (ps : List Piece) (ls : Leaves) → line_pieces o ≡ lead_of b ++ ps → FitsLine o (fits_leaves ls) → FitsPieces ps (fits_leaves ls) × (spell_line o (spell_leaves ls) ≡ option_to_list b ++ assemble ps (spell_leaves ls))
line_parts None b ps ls e h = absurd h
line_parts (Some l) b ps ls e h =
    (lead_fits b ps (fits_leaves ls) (subst (λ qs. FitsPieces qs (fits_leaves ls)) e h.1), ap (λ qs. assemble qs (spell_leaves ls)) e ∙ lead_bytes b ps (spell_leaves ls))

pub no_lead : (f : Family) (left : ℕ) (v : Row) (b : Option ℕ) (ps : List Piece) (bytes : List ℕ) → Some v ≡ row_at f bytes → line_pieces (find v (lines f)) ≡ lead_of b ++ ps → ((ys : List ℕ) → option_to_list b ++ ys ≡ bytes → ⊥) → NodeRefused f left bytes stop.Misread
no_lead f left v b ps bytes k e n (row u ls) r h a q =
    let same = same_row f u v ls r bytes h q k in
    let p = line_parts (find v (lines f)) b ps ls e (subst (λ w. FitsLine (find w (lines f)) (fits_leaves ls)) same h) in
    let spelled = ap (λ w. spell_line (find w (lines f)) (spell_leaves ls)) same ∙ p.1 in
    n (assemble ps (spell_leaves ls) ++ r) (sym (append_assoc (option_to_list b) (assemble ps (spell_leaves ls)) r) ∙ ap (λ z. z ++ r) (sym spelled) ∙ q)

append_cancel : (xs ys zs : List ℕ) → xs ++ ys ≡ xs ++ zs → ys ≡ zs
append_cancel [] ys zs e = e
append_cancel (x ∷ xs) ys zs e = append_cancel xs ys zs (let g : xs ++ ys ≡ xs ++ zs = cc in g)

pub pieces_refused : (f : Family) (left : ℕ) (v : Row) (b : Option ℕ) (ps : List Piece) (old mid : Place) (e : Stop) → Some v ≡ row_at f (rest old) → line_pieces (find v (lines f)) ≡ lead_of b ++ ps → Takes old mid (option_to_list b) → PiecesRefused ps left (rest mid) e → NodeRefused f left (rest old) e
pieces_refused f left v b ps old mid st k e t u (row w ls) r h a q =
    let same = same_row f w v ls r (rest old) h q k in
    let p = line_parts (find v (lines f)) b ps ls e (subst (λ x. FitsLine (find x (lines f)) (fits_leaves ls)) same h) in
    let spelled = ap (λ x. spell_line (find x (lines f)) (spell_leaves ls)) same ∙ p.1 in
    let behind = append_cancel (option_to_list b) (assemble ps (spell_leaves ls) ++ r) (rest mid) (sym (append_assoc (option_to_list b) (assemble ps (spell_leaves ls)) r) ∙ ap (λ z. z ++ r) (sym spelled) ∙ q ∙ t.taken) in
    u ls r p.0 a behind

has_line : (f : Family) (v : Row) (o : Option Line) → find v (lines f) ≡ o → is_some o ≡ true → (l : Line) × (find v (lines f) ≡ Some l)
has_line f v None e h = cc
has_line f v (Some l) e h = (l, e)

pub line_there : (f : Family) (v : Row) (bytes : List ℕ) → Some v ≡ row_at f bytes → (l : Line) × (find v (lines f) ≡ Some l)
line_there f v bytes k = has_line f v (find v (lines f)) refl (known f bytes v (sym k))

pub line_readable : (f : Family) (v : Row) (b : Option ℕ) (ps : List Piece) (bytes : List ℕ) → is_closed f ≡ true → Some v ≡ row_at f bytes → line_pieces (find v (lines f)) ≡ lead_of b ++ ps → are_readable ps ≡ true
line_readable f v b ps bytes c k e =
    let l = line_there f v bytes k in
    let facts = line_facts f v l.0 c l.1 in
    let same : l.0.pieces ≡ lead_of b ++ ps = ap line_pieces (sym l.1) ∙ e in
    lead_readable b ps (subst (λ qs. are_readable qs ≡ true) same facts.readable)

-- pieces have no leaf at a place that isn't counted
counted_stays : (n at : ℕ) → n ≤ counted n at
counted_stays n at = go (nat_le n at && nat_lt at 3) refl
  where
    go : (b : Bool) → (nat_le n at && nat_lt at 3) ≡ b → n ≤ (if b then at + 1 else n)
    go true e = let r = and_both _ _ e in omega (arith, leb-true n at r.0)
    go false e = omega arith

below : (n at : ℕ) → nat_lt at 3 ≡ true → at < counted n at
below n at h = go (nat_le n at) refl
  where
    go : (b : Bool) → nat_le n at ≡ b → at < (if b && nat_lt at 3 then at + 1 else n)
    go true e = rw h (omega arith)
    go false e = omega (arith, leb-false n at e)

counted_by_stays : (ps : List Piece) (n : ℕ) → n ≤ counted_by ps n
counted_by_stays [] n = omega arith
counted_by_stays (byte b ∷ ps) n = counted_by_stays ps n
counted_by_stays (t.leaf i f ∷ ps) n = omega (arith, counted_stays n i, counted_by_stays ps (counted n i))
counted_by_stays (t.limits i ∷ ps) n = omega (arith, counted_stays n i, counted_stays (counted n i) (suc i), counted_by_stays ps (counted (counted n i) (suc i)))
counted_by_stays (t.outer i ∷ ps) n =
    omega (arith, counted_stays n i, counted_stays (counted n i) (suc i), counted_stays (counted (counted n i) (suc i)) (suc (suc i)), counted_by_stays ps (counted (counted (counted n i) (suc i)) (suc (suc i))))

few_counted : (n at : ℕ) → n ≤ 3 → counted n at ≤ 3
few_counted n at h = go (nat_le n at) (nat_lt at 3) refl
  where
    go : (a b : Bool) → nat_lt at 3 ≡ b → (if a && b then at + 1 else n) ≤ 3
    go true true e = let k = ltb-true at 3 e in omega (arith, k)
    go true false e = h
    go false b e = h

few_counted_by : (ps : List Piece) (n : ℕ) → n ≤ 3 → counted_by ps n ≤ 3
few_counted_by [] n h = h
few_counted_by (byte b ∷ ps) n h = few_counted_by ps n h
few_counted_by (t.leaf i f ∷ ps) n h = few_counted_by ps (counted n i) (few_counted n i h)
few_counted_by (t.limits i ∷ ps) n h = few_counted_by ps (counted (counted n i) (suc i)) (few_counted (counted n i) (suc i) (few_counted n i h))
few_counted_by (t.outer i ∷ ps) n h =
    few_counted_by ps (counted (counted (counted n i) (suc i)) (suc (suc i))) (few_counted (counted (counted n i) (suc i)) (suc (suc i)) (few_counted (counted n i) (suc i) (few_counted n i h)))

or_true : (a b : Bool) → (a || b) ≡ true → (a ≡ true) ⊎ (b ≡ true)
or_true true b e = inl refl
or_true false b e = inr e

at_counted : (j i n : ℕ) (ps : List Piece) (k : ℕ) → (j == i) ≡ true → nat_lt i 3 ≡ true → counted n i ≤ k → j < k
at_counted j i n ps k e h l = let same : j ≡ i = eqb-true j i e in omega (arith, same, below n i h, l)

pub has_below : (ps : List Piece) (n j : ℕ) → are_readable ps ≡ true → has j ps ≡ true → j < counted_by ps n
has_below [] n j ok h = cc
has_below (byte b ∷ ps) n j ok h = has_below ps n j (readable_later (byte b) ps ok) h
has_below (t.leaf i f ∷ ps) n j ok h =
    let p = and_both _ _ ok in
    let low = (and_both _ _ p.0).1 in
    elim (or_true (j == i) (has j ps) h) [
      | inl e ↦ at_counted j i n ps _ e low (counted_by_stays ps (counted n i))
      | inr e ↦ has_below ps (counted n i) j (readable_later (t.leaf i f) ps ok) e
    ]
has_below (t.limits i ∷ ps) n j ok h =
    let low = ltb-true i 2 (and_both _ _ ok).0 in
    let a = counted n i in let b = counted a (suc i) in
    elim (or_true (j == i) _ h) [
      | inl e ↦ at_counted j i n ps _ e (lt-ltb i 3 (omega (arith, low))) (omega (arith, counted_stays a (suc i), counted_by_stays ps b))
      | inr e ↦ elim (or_true (j == suc i) (has j ps) e) [
        | inl w ↦ at_counted j (suc i) a ps _ w (lt-ltb (suc i) 3 (omega (arith, low))) (counted_by_stays ps b)
        | inr w ↦ has_below ps b j (readable_later (t.limits i) ps ok) w
      ]
    ]
has_below (t.outer i ∷ ps) n j ok h =
    let low = ltb-true i 1 (and_both _ _ ok).0 in
    let a = counted n i in let b = counted a (suc i) in let d = counted b (suc (suc i)) in
    elim (or_true (j == i) _ h) [
      | inl e ↦ at_counted j i n ps _ e (lt-ltb i 3 (omega (arith, low))) (omega (arith, counted_stays a (suc i), counted_stays b (suc (suc i)), counted_by_stays ps d))
      | inr e ↦ elim (or_true (j == suc i) _ e) [
        | inl w ↦ at_counted j (suc i) a ps _ w (lt-ltb (suc i) 3 (omega (arith, low))) (omega (arith, counted_stays b (suc (suc i)), counted_by_stays ps d))
        | inr w ↦ elim (or_true (j == suc (suc i)) (has j ps) w) [
          | inl v ↦ at_counted j (suc (suc i)) b ps _ v (lt-ltb (suc (suc i)) 3 (omega (arith, low))) (counted_by_stays ps d)
          | inr v ↦ has_below ps d j (readable_later (t.outer i) ps ok) v
        ]
      ]
    ]

module _ (s : Slots) where
  leaf_first : (n j : ℕ) → n ≤ 3 → j < n → leaf_at j (listed (all_slots s)) ≡ leaf_at j (listed (first_of n s))
  leaf_first zero j h k = absurd (omega (arith, k))
  leaf_first (suc zero) zero h k = refl
  leaf_first (suc zero) (suc j) h k = absurd (omega (arith, k))
  leaf_first (suc (suc zero)) zero h k = refl
  leaf_first (suc (suc zero)) (suc zero) h k = refl
  leaf_first (suc (suc zero)) (suc (suc j)) h k = absurd (omega (arith, k))
  leaf_first (suc (suc (suc n))) j h k = refl

  first_long : (n : ℕ) → n ≤ 3 → length (fits_leaves (listed (first_of n s))) ≡ n
  first_long zero h = refl
  first_long (suc zero) h = refl
  first_long (suc (suc zero)) h = refl
  first_long (suc (suc (suc zero))) h = refl
  first_long (suc (suc (suc (suc n)))) h = absurd (omega (arith, h))

  first_within : (n left : ℕ) → WithinLeaves (listed (all_slots s)) left → WithinLeaves (listed (first_of n s)) left
  first_within zero left h = tt
  first_within (suc zero) left h = (h.0, tt)
  first_within (suc (suc zero)) left h = (h.0, (h.1.0, tt))
  first_within (suc (suc (suc n))) left h = h

pub node_read : (f : Family) (left : ℕ) (v : Row) (b : Option ℕ) (ps : List Piece) (old mid new : Place) (slots : Slots) (leaves : Bor (List l.Leaf)) → is_closed f ≡ true → Some v ≡ row_at f (rest old) → line_pieces (find v (lines f)) ≡ lead_of b ++ ps → Takes old mid (option_to_list b)
    → PiecesRead ps left no_slots mid new slots → leaves.now ≡ kept slots → NodeRead f left old new (row v (listed leaves.now))
node_read f left v b ps old mid new slots leaves c k e q p w =
    let u = v in
    let l = line_there f u (rest old) k in
    let facts = line_facts f u l.0 c l.1 in
    let pieces : l.0.pieces ≡ lead_of b ++ ps = ap line_pieces (sym l.1) ∙ e in
    let ok = line_readable f u b ps (rest old) c k e in
    let n = counted_by ps 0 in
    let few : n ≤ 3 = few_counted_by ps 0 (omega arith) in
    let all = slot_leaves slots in
    let some = listed (first_of n slots) in
    let near : WithinLeaves all left = p.near (tt, (tt, (tt, tt))) in
    let kept_some = carried ps all some (λ j h. leaf_first slots n j few (has_below ps 0 j ok h)) p.fits in
    let count : l.0.leaves ≡ n = sym facts.count ∙ ap (λ qs. counted_by qs 0) pieces ∙ lead_count b ps 0 in
    let line : FitsLine (Some l.0) (fits_leaves some) = (first_long slots n few ∙ sym count, subst (λ qs. FitsPieces qs (fits_leaves some)) (sym pieces) (fits_lead b ps (fits_leaves some) kept_some.0)) in
    let spelled : spell_line (Some l.0) (spell_leaves some) ≡ option_to_list b ++ assemble ps (spell_leaves all) = ap (λ qs. assemble qs (spell_leaves some)) pieces ∙ lead_bytes b ps (spell_leaves some) ∙ ap (λ z. option_to_list b ++ z) (sym kept_some.1) in
    let whole : NodeRead f left old new (row u some) = (
      subst (λ o. FitsLine o (fits_leaves some)) (sym l.1) line,
      first_within slots n left near,
      subst (λ o. Takes old new (spell_line o (spell_leaves some))) (sym l.1) (subst (λ z. Takes old new z) (sym spelled) (takes_two old mid new (option_to_list b) (assemble ps (spell_leaves all)) q p.taken)),
    ) in
    let leaves_are : leaves.now ≡ first_of n slots = w ∙ ap (λ i. first_of i slots) p.count in
    subst (λ ls. NodeRead f left old new (row u (listed ls))) (sym leaves_are) whole
