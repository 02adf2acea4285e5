-- The turns of the walk that prints, and what its parts print.
use Rattle.std.proofs.Common.{◌≡◌, ℕ, zero, suc, ◌+◌, ◌<◌, ◌≤◌, Bool, true, false, ◌&&◌, cond, List, [], ◌∷◌, ◌++◌, length, drop, get_or, append_assoc, append-nil, refl, sym, ◌∙◌, ap, arith, codes, Bor}
use Rattle.std.proofs.lemmas.List.{drop_more}
use Prim.Native.String.{String}
use Rattle.comp_model.specs.declared.row.Row.{Row}
use Rattle.comp_model.specs.declared.row.Row.TheVariants as rows
use Rattle.comp_model.specs.declared.row.ScopeKind.{ScopeKind}
use Rattle.comp_model.specs.Model as m
use Rattle.comp_model.specs.Model.{no_leaf, ◌▸◌, row, Leaves, define, Names, Defs, scope_of}
use Rattle.comp_wire.proofs.Groups.{and_both}
use Rattle.wire_tree.specs.declared.tree.Leaf.{Leaf}
use Rattle.wire_tree.specs.declared.tree.Leaf as l
use Rattle.wire_tree.specs.declared.tree.Node.{Node}
use Rattle.wire_tree.specs.declared.tree.Scope.{Scope, out-Scope}
use Rattle.wire_tree.specs.Lists.{listed, node_of, nodes_listed, defs_listed}
use Rattle.wire_tree.specs.Model.{leaf_of}
use Rattle.wire_tree.specs.Model as tree
use Rattle.wire_tree.proofs.Leaves.{leaf_node, leaf_nodes, scope_fields}
use Rattle.print_table.specs.Tokens as printed
use Rattle.print_table.specs.Tokens.{PrintedToken}
use Rattle.print_table.specs.Lines as t
use Rattle.print_table.specs.Lines.{inner_line, definition_in}
use Rattle.print_table.specs.TextOf.{printed_at, assemble, leaf_tokens, leaves_tokens, definitions_tokens, in_group, unnamed_leaf, unnamed_leaves, unnamed_defs, unless_names, is_name_section}
use Rattle.tree_print.specs.declared.line.Part.{Part}
use Rattle.tree_print.specs.declared.line.Part.TheVariants as part
use Rattle.tree_print.specs.Lines.{part_of, all_tokens}
use Rattle.tree_print.specs.Printed.{piece_tokens, shown, definition_tokens}
use Rattle.tree_print.specs.Taken.{Taken, step, put}
use Rattle.tree_print.proofs.Puts.{put_more}

-- ---- a turn of a loop

module _ {X : Type 0} (all : List X → List PrintedToken) (one : X → List PrintedToken) (more : (x : X) (xs : List X) → all (x ∷ xs) ≡ one x ++ all xs) where
  pub turn : (xs : List X) (i : ℕ) (d : X) (start old new : Taken) → i < length xs → new ≡ put (one (get_or xs i d)) old → put (all (drop i xs)) old ≡ start → put (all (drop (i + 1) xs)) new ≡ start
  turn xs i d start old new h e s =
      let x = get_or xs i d in
      let rest = drop (i + 1) xs in
      ap (put (all rest)) e ∙ sym (put_more (one x) (all rest) old) ∙ ap (λ q. put q old) (sym (more x rest) ∙ ap all (sym (drop_more xs i d h))) ∙ s

pub piece_more : (p : t.Piece) (ps : List t.Piece) (gs : List (t.Field → List PrintedToken)) → assemble (p ∷ ps) gs ≡ piece_tokens p gs ++ assemble ps gs
piece_more (t.token x) ps gs = refl
piece_more (t.leaf i f) [] gs = sym (append-nil (printed_at i f gs))
piece_more (t.leaf i f) (p ∷ ps) gs = refl

definition_more : (b : Bool) (k : ScopeKind) (names : Names) (u : Row) (ls : Leaves) (ds : Defs) → definitions_tokens k (unless_names b (define names (row u ls)) ds) ≡ cond b [] (assemble (definition_in k u) (leaves_tokens ls)) ++ definitions_tokens k ds
definition_more true k names u ls ds = refl
definition_more false k names u ls ds = refl

pub definitions_more : (k : ScopeKind) (n : Node) (ns : List Node)
    → definitions_tokens k (unnamed_defs (defs_listed (n ∷ ns))) ≡ definition_tokens k n.row (listed n.leaves.now) ++ definitions_tokens k (unnamed_defs (defs_listed ns))
definitions_more k n ns = definition_more (is_name_section n.row (listed n.leaves.now)) k m.no_names n.row (unnamed_leaves (listed n.leaves.now)) (unnamed_defs (defs_listed ns))

-- ---- a leaf at a place

pub printed_there : (xs : List Leaf) (i : ℕ) (x : Leaf) (f : t.Field) → i < length xs → x ≡ get_or xs i x → printed_at i f (shown (listed xs)) ≡ leaf_tokens (unnamed_leaf (leaf_of x)) f
printed_there [] i x f h e = absurd (omega arith)
printed_there (y ∷ ys) zero x f h e = ap (λ z. leaf_tokens (unnamed_leaf (leaf_of z)) f) (sym e)
printed_there (y ∷ ys) (suc i) x f h e = printed_there ys i x f (omega (arith, h)) e

pub printed_nowhere : (xs : List Leaf) (i : ℕ) (f : t.Field) → length xs ≤ i → printed_at i f (shown (listed xs)) ≡ []
printed_nowhere [] i f h = refl
printed_nowhere (y ∷ ys) zero f h = absurd (omega arith)
printed_nowhere (y ∷ ys) (suc i) f h = printed_nowhere ys i f (omega (arith, h))

-- ---- what is in parentheses, and a whole line

pub grouped : (x : String) (xs : List PrintedToken) (a b c d : Taken) → b ≡ step printed.opening a → c ≡ step (printed.word (codes x)) b → d ≡ put xs c → step printed.closing d ≡ put (in_group x xs) a
grouped x xs a b c d e f g =
    ap (step printed.closing) (g ∙ ap (put xs) (f ∙ ap (step (printed.word (codes x))) e))
    ∙ sym (put_more xs (printed.closing ∷ []) (step (printed.word (codes x)) (step printed.opening a)))

assemble_both : (ps qs : List t.Piece) (gs : List (t.Field → List PrintedToken)) → assemble (ps ++ qs) gs ≡ assemble ps gs ++ assemble qs gs
assemble_both [] qs gs = refl
assemble_both (p ∷ ps) qs gs =
    piece_more p (ps ++ qs) gs ∙ ap (λ r. piece_tokens p gs ++ r) (assemble_both ps qs gs) ∙ sym (append_assoc (piece_tokens p gs) (assemble ps gs) (assemble qs gs))
    ∙ ap (λ r. r ++ assemble qs gs) (sym (piece_more p ps gs))

assemble_tokens : (xs : List PrintedToken) (gs : List (t.Field → List PrintedToken)) → assemble (all_tokens xs) gs ≡ xs
assemble_tokens [] gs = refl
assemble_tokens (x ∷ xs) gs = ap (λ r. x ∷ r) (assemble_tokens xs gs)

pub line_put : (head tail : List PrintedToken) (ps : List t.Piece) (gs : List (t.Field → List PrintedToken)) (a b c : Taken) → b ≡ put head a → c ≡ put (assemble ps gs) b → put tail c ≡ put (assemble (all_tokens head ++ (ps ++ all_tokens tail)) gs) a
line_put head tail ps gs a b c e f =
    ap (put tail) (f ∙ ap (put (assemble ps gs)) e)
    ∙ sym (put_more (assemble ps gs) tail (put head a)) ∙ sym (put_more head (assemble ps gs ++ tail) a)
    ∙ ap (λ q. put q a) (sym (assemble_both (all_tokens head) (ps ++ all_tokens tail) gs
    ∙ ap (λ q. assemble (all_tokens head) gs ++ q) (assemble_both ps (all_tokens tail) gs ∙ ap (λ q. assemble ps gs ++ q) (assemble_tokens tail gs))
    ∙ ap (λ q. q ++ (assemble ps gs ++ tail)) (assemble_tokens head gs)))

-- ---- custom sections of names stand in scopes alone

abbrev pub holds_no_scope : t.Field → Bool
holds_no_scope t.definitions = false
holds_no_scope _ = true

field_kept : (x : m.Leaf) (f : t.Field) → holds_no_scope f ≡ true → leaf_tokens (unnamed_leaf x) f ≡ leaf_tokens x f
field_kept (m.scope (scope_of k id label ds)) t.definitions e = absurd (cc)
field_kept (m.scope (scope_of k id label ds)) _ e = refl
field_kept _ f e = refl

pub part_kept : (x : m.Leaf) (p : Part) → leaf_tokens (unnamed_leaf x) (part_of p) ≡ leaf_tokens x (part_of p)
part_kept x part.Value = field_kept x t.value refl
part_kept x part.Number = field_kept x t.number refl
part_kept x part.One = field_kept x t.one refl

at_kept : (ls : Leaves) (i : ℕ) (f : t.Field) → holds_no_scope f ≡ true → printed_at i f (shown ls) ≡ printed_at i f (leaves_tokens ls)
at_kept no_leaf i f e = refl
at_kept (x ▸ ls) zero f e = field_kept x f e
at_kept (x ▸ ls) (suc i) f e = at_kept ls i f e

abbrev pub hold_no_scope : List t.Piece → Bool
hold_no_scope [] = true
hold_no_scope (t.token x ∷ ps) = hold_no_scope ps
hold_no_scope (t.leaf i f ∷ ps) = holds_no_scope f && hold_no_scope ps

pieces_kept : (ps : List t.Piece) (ls : Leaves) → hold_no_scope ps ≡ true → assemble ps (shown ls) ≡ assemble ps (leaves_tokens ls)
pieces_kept [] ls e = refl
pieces_kept (t.token x ∷ ps) ls e = ap (λ r. x ∷ r) (pieces_kept ps ls e)
pieces_kept (t.leaf i f ∷ []) ls e = at_kept ls i f (and_both (holds_no_scope f) true e).0
pieces_kept (t.leaf i f ∷ (p ∷ ps)) ls e =
    let h = and_both (holds_no_scope f) (hold_no_scope (p ∷ ps)) e in
    ap (λ r. r ++ assemble (p ∷ ps) (shown ls)) (at_kept ls i f h.0) ∙ ap (λ r. printed_at i f (leaves_tokens ls) ++ r) (pieces_kept (p ∷ ps) ls h.1)

pub inner_holds_none : (u : Row) → hold_no_scope (inner_line u) ≡ true
inner_holds_none rows.CoreModule = refl
inner_holds_none _ = refl

pub inner_kept : (u : Row) (ls : Leaves) → assemble (inner_line u) (shown ls) ≡ assemble (inner_line u) (leaves_tokens ls)
inner_kept u ls = pieces_kept (inner_line u) ls (inner_holds_none u)

-- ---- leaves that hold parts

pub node_printed : (x : Leaf) (n : Bor Node) (f : t.Field) → x ≡ l.Node n → leaf_tokens (unnamed_leaf (leaf_of x)) f ≡ leaf_tokens (m.node (node_of n.now)) f
node_printed x n f e = ap (λ y. leaf_tokens (unnamed_leaf (leaf_of y)) f) e ∙ ap (λ y. leaf_tokens (unnamed_leaf y) f) (leaf_node n)

pub nodes_printed : (x : Leaf) (ns : Bor (List Node)) (f : t.Field) → x ≡ l.Nodes ns → leaf_tokens (unnamed_leaf (leaf_of x)) f ≡ leaf_tokens (m.nodes (nodes_listed ns.now)) f
nodes_printed x ns f e = ap (λ y. leaf_tokens (unnamed_leaf (leaf_of y)) f) e ∙ ap (λ y. leaf_tokens (unnamed_leaf y) f) (leaf_nodes ns)

pub scope_printed : (x : Scope) → leaf_tokens (unnamed_leaf (m.scope (tree.scope_of x))) t.definitions ≡ definitions_tokens (out-Scope x).kind (unnamed_defs (defs_listed (out-Scope x).defs.now))
scope_printed x = ap (λ s. leaf_tokens (unnamed_leaf (m.scope s)) t.definitions) (scope_fields x)
