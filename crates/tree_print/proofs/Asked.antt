-- What has a text: turns of the walk that asks, and what its parts have.
use Rattle.std.proofs.Common.{◌≡◌, ℕ, zero, suc, ◌+◌, ◌<◌, ◌≤◌, Bool, true, false, ◌&&◌, cond, List, [], ◌∷◌, ◌++◌, length, drop, get_or, append-nil, refl, sym, ◌∙◌, ap, arith, Bor, ⊎_elim, IsUtf8}
use Rattle.std.proofs.lemmas.Bool.{cases_Bool}
use Rattle.std.proofs.lemmas.List.{drop_more}
use Rattle.std.proofs.lemmas.Str.{IsUtf8-from_is_utf8}
use Rattle.std.specs.Str.{is_utf8}
use Rattle.comp_model.specs.declared.row.Row.{Row}
use Rattle.comp_model.specs.declared.row.ScopeKind.{ScopeKind}
use Rattle.comp_model.specs.Model as m
use Rattle.comp_model.specs.Model.{no_leaf, ◌▸◌, row, Leaves, define, Names, Defs, scope_of}
use Rattle.comp_wire.proofs.Groups.{and_both}
use Rattle.wire_tree.specs.declared.tree.Leaf.{Leaf}
use Rattle.wire_tree.specs.declared.tree.Leaf as l
use Rattle.wire_tree.specs.declared.tree.Node.{Node}
use Rattle.wire_tree.specs.declared.tree.Scope.{Scope, out-Scope}
use Rattle.wire_tree.specs.Lists.{listed, node_of, nodes_listed, defs_listed}
use Rattle.wire_tree.specs.Model.{leaf_of}
use Rattle.wire_tree.specs.Model as tree
use Rattle.wire_tree.proofs.Leaves.{leaf_node, leaf_nodes, scope_fields}
use Rattle.print_table.specs.Tokens.{PrintedToken}
use Rattle.print_table.specs.Lines as t
use Rattle.print_table.specs.Lines.{inner_line, definition_in}
use Rattle.print_table.specs.TextOf.{unnamed_leaf, unnamed_leaves, unnamed_defs, unless_names, unnamed, is_name_section}
use Rattle.print_table.specs.HasText.{has_words, has_at, leaf_has, leaves_have, definitions_have, pieces_have, line_has, has_text}
use Rattle.tree_print.specs.declared.line.Part.{Part}
use Rattle.tree_print.specs.declared.line.Part.TheVariants as part
use Rattle.tree_print.specs.declared.word.Word.{Word}
use Rattle.tree_print.specs.declared.line.Frame.{Frame}
use Rattle.tree_print.specs.declared.line.Frame.TheVariants as frame
use Rattle.tree_print.specs.Lines.{part_of, all_tokens, head_of, tail_of}
use Rattle.tree_print.specs.Texts.{asked, piece_has, definition_has}
use Rattle.tree_print.specs.Words.{words_tokens}
use Rattle.tree_print.proofs.Walks.{holds_no_scope, hold_no_scope, inner_holds_none}

pub no_words : (ws : List Word) → length ws ≡ 0 → has_words (words_tokens ws) ≡ false
no_words [] e = refl
no_words (w ∷ ws) e = absurd (omega (arith, e))

pub some_words : (ws : List Word) → 0 < length ws → has_words (words_tokens ws) ≡ true
some_words [] e = absurd (omega (arith, e))
some_words (w ∷ ws) e = refl

pub text_unless : (bytes : List ℕ) → ¬ (IsUtf8 bytes) → false ≡ is_utf8 bytes
text_unless bytes h = ⊎_elim (λ is. absurd (h (IsUtf8-from_is_utf8 bytes is))) (λ isnt. sym isnt) (cases_Bool (is_utf8 bytes))

-- ---- a turn of a loop

module _ {X : Type 0} (all : List X → Bool) (one : X → Bool) (more : (x : X) (xs : List X) → all (x ∷ xs) ≡ (one x && all xs)) where
  pub goes_on : (xs : List X) (i : ℕ) (d : X) (v : Bool) → i < length xs → true ≡ one (get_or xs i d) → all (drop i xs) ≡ v → all (drop (i + 1) xs) ≡ v
  goes_on xs i d v h e s = ap (λ b. b && all (drop (i + 1) xs)) e ∙ sym (more (get_or xs i d) (drop (i + 1) xs)) ∙ ap all (sym (drop_more xs i d h)) ∙ s

  pub stops : (xs : List X) (i : ℕ) (d : X) (v : Bool) → i < length xs → false ≡ one (get_or xs i d) → all (drop i xs) ≡ v → false ≡ v
  stops xs i d v h e s = ap (λ b. b && all (drop (i + 1) xs)) e ∙ sym (more (get_or xs i d) (drop (i + 1) xs)) ∙ ap all (sym (drop_more xs i d h)) ∙ s

pub piece_and : (p : t.Piece) (ps : List t.Piece) (gs : List (t.Field → Bool)) → pieces_have (p ∷ ps) gs ≡ (piece_has p gs && pieces_have ps gs)
piece_and (t.token x) ps gs = refl
piece_and (t.leaf i f) ps gs = refl

definition_and : (b : Bool) (k : ScopeKind) (names : Names) (u : Row) (ls : Leaves) (ds : Defs) → definitions_have k (unless_names b (define names (row u ls)) ds) ≡ (cond b true (line_has (definition_in k u) (leaves_have ls)) && definitions_have k ds)
definition_and true k names u ls ds = refl
definition_and false k names u ls ds = refl

pub definitions_and : (k : ScopeKind) (n : Node) (ns : List Node)
    → definitions_have k (unnamed_defs (defs_listed (n ∷ ns))) ≡ (definition_has k n.row (listed n.leaves.now) && definitions_have k (unnamed_defs (defs_listed ns)))
definitions_and k n ns = definition_and (is_name_section n.row (listed n.leaves.now)) k m.no_names n.row (unnamed_leaves (listed n.leaves.now)) (unnamed_defs (defs_listed ns))

-- ---- a leaf at a place

pub asked_there : (xs : List Leaf) (i : ℕ) (x : Leaf) (f : t.Field) → i < length xs → x ≡ get_or xs i x → has_at i f (asked (listed xs)) ≡ leaf_has (unnamed_leaf (leaf_of x)) f
asked_there [] i x f h e = absurd (omega arith)
asked_there (y ∷ ys) zero x f h e = ap (λ z. leaf_has (unnamed_leaf (leaf_of z)) f) (sym e)
asked_there (y ∷ ys) (suc i) x f h e = asked_there ys i x f (omega (arith, h)) e

pub asked_nowhere : (xs : List Leaf) (i : ℕ) (f : t.Field) → length xs ≤ i → has_at i f (asked (listed xs)) ≡ false
asked_nowhere [] i f h = refl
asked_nowhere (y ∷ ys) zero f h = absurd (omega arith)
asked_nowhere (y ∷ ys) (suc i) f h = asked_nowhere ys i f (omega (arith, h))

-- ---- a whole line

tokens_behind : (ps : List t.Piece) (tail : List PrintedToken) (gs : List (t.Field → Bool)) → pieces_have (ps ++ all_tokens tail) gs ≡ pieces_have ps gs
tokens_behind [] [] gs = refl
tokens_behind [] (x ∷ xs) gs = tokens_behind [] xs gs
tokens_behind (t.token x ∷ ps) tail gs = tokens_behind ps tail gs
tokens_behind (t.leaf i f ∷ ps) tail gs = ap (λ b. has_at i f gs && b) (tokens_behind ps tail gs)

tokens_around : (head tail : List PrintedToken) (ps : List t.Piece) (gs : List (t.Field → Bool)) → pieces_have (all_tokens head ++ (ps ++ all_tokens tail)) gs ≡ pieces_have ps gs
tokens_around [] tail ps gs = tokens_behind ps tail gs
tokens_around (x ∷ xs) tail ps gs = tokens_around xs tail ps gs

abbrev is_bare : Frame → Bool
is_bare frame.Bare = true
is_bare _ = false

framed_line : (g : Frame) (ps : List t.Piece) (gs : List (t.Field → Bool)) → is_bare g ≡ false → line_has (all_tokens (head_of g) ++ (ps ++ all_tokens (tail_of g))) gs ≡ pieces_have ps gs
framed_line frame.Bare ps gs e = absurd (cc)
framed_line (frame.Group x) ps gs e = tokens_around (head_of (frame.Group x)) (tail_of (frame.Group x)) ps gs
framed_line frame.Custom ps gs e = tokens_around (head_of frame.Custom) (tail_of frame.Custom) ps gs
framed_line (frame.TypeOf x) ps gs e = tokens_around (head_of (frame.TypeOf x)) (tail_of (frame.TypeOf x)) ps gs
framed_line (frame.BuiltIn x) ps gs e = tokens_around (head_of (frame.BuiltIn x)) (tail_of (frame.BuiltIn x)) ps gs

pub framed_has : (f g : Frame) (ps : List t.Piece) (gs : List (t.Field → Bool)) → f ≡ g → is_bare g ≡ false → pieces_have ps gs ≡ line_has (all_tokens (head_of f) ++ (ps ++ all_tokens (tail_of f))) gs
framed_has f g ps gs e b = sym (ap (λ h. line_has (all_tokens (head_of h) ++ (ps ++ all_tokens (tail_of h))) gs) e ∙ framed_line g ps gs b)

pub bare_has : (ps : List t.Piece) (gs : List (t.Field → Bool)) → line_has (ps ++ []) gs ≡ line_has ps gs
bare_has ps gs = ap (λ qs. line_has qs gs) (append-nil ps)

-- ---- custom sections of names stand in scopes alone

field_asked : (x : m.Leaf) (f : t.Field) → holds_no_scope f ≡ true → leaf_has (unnamed_leaf x) f ≡ leaf_has x f
field_asked (m.scope (scope_of k id label ds)) t.definitions e = absurd (cc)
field_asked (m.scope (scope_of k id label ds)) _ e = refl
field_asked _ f e = refl

pub part_asked : (x : m.Leaf) (p : Part) → leaf_has (unnamed_leaf x) (part_of p) ≡ leaf_has x (part_of p)
part_asked x part.Value = field_asked x t.value refl
part_asked x part.Number = field_asked x t.number refl
part_asked x part.One = field_asked x t.one refl

at_asked : (ls : Leaves) (i : ℕ) (f : t.Field) → holds_no_scope f ≡ true → has_at i f (asked ls) ≡ has_at i f (leaves_have ls)
at_asked no_leaf i f e = refl
at_asked (x ▸ ls) zero f e = field_asked x f e
at_asked (x ▸ ls) (suc i) f e = at_asked ls i f e

pieces_asked : (ps : List t.Piece) (ls : Leaves) → hold_no_scope ps ≡ true → pieces_have ps (asked ls) ≡ pieces_have ps (leaves_have ls)
pieces_asked [] ls e = refl
pieces_asked (t.token x ∷ ps) ls e = pieces_asked ps ls e
pieces_asked (t.leaf i f ∷ ps) ls e =
    let h = and_both (holds_no_scope f) (hold_no_scope ps) e in
    ap (λ b. b && pieces_have ps (asked ls)) (at_asked ls i f h.0) ∙ ap (λ b. has_at i f (leaves_have ls) && b) (pieces_asked ps ls h.1)

line_asked : (ps : List t.Piece) (ls : Leaves) → hold_no_scope ps ≡ true → line_has ps (asked ls) ≡ line_has ps (leaves_have ls)
line_asked [] ls e = refl
line_asked (p ∷ ps) ls e = pieces_asked (p ∷ ps) ls e

pub inner_asked : (u : Row) (ls : Leaves) → line_has (inner_line u) (asked ls) ≡ line_has (inner_line u) (leaves_have ls)
inner_asked u ls = line_asked (inner_line u) ls (inner_holds_none u)

-- ---- leaves that hold parts

pub node_asked : (x : Leaf) (n : Bor Node) (f : t.Field) → x ≡ l.Node n → leaf_has (unnamed_leaf (leaf_of x)) f ≡ leaf_has (m.node (node_of n.now)) f
node_asked x n f e = ap (λ y. leaf_has (unnamed_leaf (leaf_of y)) f) e ∙ ap (λ y. leaf_has (unnamed_leaf y) f) (leaf_node n)

pub nodes_asked : (x : Leaf) (ns : Bor (List Node)) (f : t.Field) → x ≡ l.Nodes ns → leaf_has (unnamed_leaf (leaf_of x)) f ≡ leaf_has (m.nodes (nodes_listed ns.now)) f
nodes_asked x ns f e = ap (λ y. leaf_has (unnamed_leaf (leaf_of y)) f) e ∙ ap (λ y. leaf_has (unnamed_leaf y) f) (leaf_nodes ns)

pub scope_asked : (x : Scope) → leaf_has (unnamed_leaf (m.scope (tree.scope_of x))) t.definitions ≡ definitions_have (out-Scope x).kind (unnamed_defs (defs_listed (out-Scope x).defs.now))
scope_asked x = ap (λ s. leaf_has (unnamed_leaf (m.scope s)) t.definitions) (scope_fields x)

pub text_asked : (x : Scope) → has_text (unnamed (tree.scope_of x)) ≡ definitions_have (out-Scope x).kind (unnamed_defs (defs_listed (out-Scope x).defs.now))
text_asked x = ap (λ s. has_text (unnamed s)) (scope_fields x)
