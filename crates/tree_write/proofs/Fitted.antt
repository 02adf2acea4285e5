-- What a part asks of the parts in it.
use Rattle.std.proofs.Common.{◌≡◌, ℕ, zero, suc, ◌<◌, List, [], ◌∷◌, ◌++◌, length, map, get_or, refl, sym, subst, arith, Bool, true, false, cond, Option, Some, None}
use Rattle.std.specs.Prelude.{codes}
use Rattle.comp_model.specs.CoreModules.{CoreModule}
use Rattle.comp_model.specs.Model as m
use Rattle.comp_model.specs.Model.{Leaves}
use Rattle.comp_model.specs.Payloads.{producers_payload}
use Rattle.comp_model.specs.declared.row.Row.TheVariants as rows
use Rattle.comp_model.specs.declared.row.Row.{Row}
use Rattle.comp_model.specs.RowNumbers.{same_row}
use Rattle.comp_scopes.specs.Form.{coded_node, custom_node}
use Rattle.comp_scopes.specs.Resolved.{binary_of_defs}
use Rattle.comp_wire.specs.Spelled.{find, fits_at, fits_leaves, FitsLeaf, FitsLine, FitsPieces, FitsNode, FitsNodes, FitsItem, FitsDeclarations, FitsDefinitions, declarations_of}
use Rattle.comp_wire.specs.Table as t
use Rattle.comp_wire.specs.Table.{Line, lines}
use Rattle.comp_tree.specs.Lists.{defs_listed}
use Rattle.comp_tree.specs.declared.tree.Def.{Def}
use Rattle.comp_tree.specs.declared.tree.Leaf.{Leaf}
use Rattle.comp_tree.specs.declared.tree.Node.{Node}
use Rattle.byte_table.specs.Lines.{piece_of, line_pieces, type_kind, family_of, home_pieces}
use Rattle.byte_table.specs.Stands.{lead_of}
use Rattle.byte_table.specs.declared.line.Family.{Family}
use Rattle.byte_table.specs.declared.line.Family.TheVariants as family
use Rattle.byte_table.specs.declared.line.Piece.{Piece}
use Rattle.byte_table.specs.declared.line.TypeKind.{TypeKind}
use Rattle.byte_table.specs.declared.line.TypeKind.TheVariants as type_kinds
use Rattle.tree_write.specs.Fitted.{PieceFits, type_lead}
use Rattle.tree_write.proofs.Turns.{same_item}
use Rattle.tree_write.specs.Wire.{the_encoding, wire_leaf, wire_leaves, wire_node, wire_nodes, wire_node_of_def, ItemsFit, DeclarationsFit, Asked}

-- what is fitting can be asked
pub asked : (f : t.Field) (P : Type 0) → P → Asked f P
asked t.unsigned P p = tt
asked t.presence P p = tt
asked t.maximum P p = tt
asked t.outward P p = tt
asked t.any_index P p = tt
asked t.sort P p = tt
asked _ P p = p

pub piece_fits : (ps : List Piece) (gs : List (t.Field → Type 0)) (i : ℕ) (p : Piece) → FitsPieces (map piece_of ps) gs → i < length ps → p ≡ get_or ps i p → PieceFits (piece_of p) gs
piece_fits [] gs i p h l e = absurd (omega arith)
piece_fits (q ∷ ps) gs zero p h l e = subst (λ r. PieceFits (piece_of r) gs) (sym e) (first (piece_of q) (map piece_of ps) h)
  where
    first : (r : t.Piece) (rs : List t.Piece) → FitsPieces (r ∷ rs) gs → PieceFits r gs
    first (t.byte b) rs h = tt
    first (t.leaf j f) rs h = h.0
    first (t.limits j) rs h = tt
    first (t.outer j) rs h = tt
piece_fits (q ∷ ps) gs (suc i) p h l e = piece_fits ps gs i p (others (piece_of q) (map piece_of ps) h) (omega arith) e
  where
    others : (r : t.Piece) (rs : List t.Piece) → FitsPieces (r ∷ rs) gs → FitsPieces rs gs
    others (t.byte b) rs h = h
    others (t.leaf j f) rs h = h.1
    others (t.limits j) rs h = h.2
    others (t.outer j) rs h = h.1

pub piece_fits_at : (ps : List Piece) (gs : List (t.Field → Type 0)) (i : ℕ) (d : Piece) → FitsPieces (map piece_of ps) gs → i < length ps → PieceFits (piece_of (get_or ps i d)) gs
piece_fits_at ps gs i d h l = piece_fits ps gs i (get_or ps i d) h l (same_item ps i d l)

pub line_fits : (o : Option Line) (lead : Option ℕ) (ps : List t.Piece) (gs : List (t.Field → Type 0)) → line_pieces o ≡ lead_of lead ++ ps → FitsLine o gs → FitsPieces ps gs
line_fits None lead ps gs e h = absurd h
line_fits (Some l) None ps gs e h = subst (λ qs. FitsPieces qs gs) e h.1
line_fits (Some l) (Some b) ps gs e h = subst (λ qs. FitsPieces qs gs) e h.1

-- where a function type stands, and behind which byte
pub function_line : (f : Family) (gs : List (t.Field → Type 0)) → FitsLine (find rows.FunctionType (lines (family_of f))) gs → line_pieces (find rows.FunctionType (lines (family_of f))) ≡ lead_of (type_lead (family_of f)) ++ home_pieces rows.FunctionType
function_line family.Types gs h = refl
function_line family.ComponentDeclarations gs h = refl
function_line family.InstanceDeclarations gs h = refl
function_line _ gs h = absurd h

module _ (cores : List CoreModule) where
  pub leaf_fits : (xs : List Leaf) (i : ℕ) (f : t.Field) (x : Leaf) → Asked f (fits_at i f (fits_leaves (wire_leaves cores xs))) → i < length xs → x ≡ get_or xs i x → Asked f (FitsLeaf (wire_leaf cores x) f)
  leaf_fits [] i f x h l e = absurd (omega arith)
  leaf_fits (y ∷ xs) zero f x h l e = subst (λ z. Asked f (FitsLeaf (wire_leaf cores z) f)) (sym e) h
  leaf_fits (y ∷ xs) (suc i) f x h l e = leaf_fits xs i f x h (omega arith) e

  pub node_fits : (ns : List Node) (i : ℕ) (f : t.Family) (n : Node) → FitsNodes (wire_nodes cores ns) f → i < length ns → n ≡ get_or ns i n → FitsNode (wire_node cores n) f
  node_fits [] i f n h l e = absurd (omega arith)
  node_fits (y ∷ ns) zero f n h l e = subst (λ z. FitsNode (wire_node cores z) f) (sym e) h.0
  node_fits (y ∷ ns) (suc i) f n h l e = node_fits ns i f n h.1 (omega arith) e

  pub node_fits_at : (ns : List Node) (i : ℕ) (f : t.Family) (d : Node) → FitsNodes (wire_nodes cores ns) f → i < length ns → FitsNode (wire_node cores (get_or ns i d)) f
  node_fits_at ns i f d h l = node_fits ns i f (get_or ns i d) h l (same_item ns i d l)

  -- a declaration is no row of producers
  no_producers : (u : Row) (ls bs : Leaves) (k : TypeKind) → FitsNode (coded_node the_encoding u ls bs) (declarations_of (type_kind k)) → FitsNode (m.row u bs) (declarations_of (type_kind k))
  no_producers u ls bs k h = go (same_row u rows.Producers) h
    where
      go : (b : Bool) → FitsNode (cond b (custom_node (codes "producers") (producers_payload ls)) (m.row u bs)) (declarations_of (type_kind k)) → FitsNode (m.row u bs) (declarations_of (type_kind k))
      go true h = absurd (custom k h)
        where
          custom : (k : TypeKind) → FitsNode (custom_node (codes "producers") (producers_payload ls)) (declarations_of (type_kind k)) → ⊥
          custom type_kinds.Component h = h
          custom type_kinds.Instance h = h
          custom type_kinds.Module h = h
      go false h = h

  pub declaration_fits : (ds : List Def) (i : ℕ) (k : TypeKind) (d : Def) → DeclarationsFit cores ds (declarations_of (type_kind k)) → i < length ds → d ≡ get_or ds i d → FitsNode (wire_node cores d.node) (declarations_of (type_kind k))
  declaration_fits [] i k d h l e = absurd (omega arith)
  declaration_fits (y ∷ ds) zero k d h l e = subst (λ z. FitsNode (wire_node cores z.node) (declarations_of (type_kind k))) (sym e) (no_producers y.node.row _ _ k h.0)
  declaration_fits (y ∷ ds) (suc i) k d h l e = declaration_fits ds i k d h.1 (omega arith) e

  pub declarations_fit : (ds : List Def) (more : m.Defs) (f : t.Family) → FitsDeclarations (binary_of_defs the_encoding (defs_listed cores ds) more) f → DeclarationsFit cores ds f
  declarations_fit [] more f h = tt
  declarations_fit (d ∷ ds) more f h = (h.0.1, declarations_fit ds more f h.1)

  pub items_fit : (ds : List Def) (more : m.Defs) → FitsDefinitions (binary_of_defs the_encoding (defs_listed cores ds) more) → ItemsFit cores ds
  items_fit [] more h = tt
  items_fit (d ∷ ds) more h = (h.0.1, items_fit ds more h.1)

  pub item_fits : (ds : List Def) (i : ℕ) (d : Def) → ItemsFit cores ds → i < length ds → d ≡ get_or ds i d → FitsItem (wire_node_of_def cores d.node)
  item_fits [] i d h l e = absurd (omega arith)
  item_fits (y ∷ ds) zero d h l e = subst (λ z. FitsItem (wire_node_of_def cores z.node)) (sym e) h.0
  item_fits (y ∷ ds) (suc i) d h l e = item_fits ds i d h.1 (omega arith) e
