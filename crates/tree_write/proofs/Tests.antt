-- Whether parts can be written, part by part, as the code finds it.
use Rattle.std.proofs.Common.{◌≡◌, ℕ, zero, suc, ◌+◌, ◌-◌, ◌^◌, ◌<◌, ◌≤◌, List, [], ◌∷◌, ◌++◌, length, length-append, min, Bor, get_or, drop, drop_of_length-le, refl, sym, ◌∙◌, ap, arith, subst, Bool, true, false, ◌&&◌, ◌||◌, cond, codes, Option, Some, None, max}
use Rattle.std.specs.Prelude.{◌==◌}
use Rattle.std.specs.List.{list_all, list_any}
use Rattle.std.proofs.lemmas.Bool.{eqb-true, false_from_ne_true}
use Rattle.std.proofs.Math.Bool.{and_assoc, and-true}
use Rattle.core_model.specs.Module.{core_bytes}
use Rattle.comp_model.specs.declared.Space.{Space}
use Rattle.comp_model.specs.CoreModules.{CoreModule}
use Rattle.comp_model.specs.Core as core
use Rattle.comp_model.specs.Core.{Text}
use Rattle.comp_model.specs.Model as m
use Rattle.comp_model.specs.declared.row.ScopeKind.{ScopeKind}
use Rattle.comp_model.specs.declared.row.ScopeKind.TheVariants as kinds
use Rattle.comp_model.specs.Model.{Leaves, count_defs, count_nodes, defs_of, kind_of}
use Rattle.comp_model.specs.Payloads.{producers_payload}
use Rattle.comp_model.specs.Spaces.{same_space, all_spaces}
use Rattle.comp_model.specs.declared.row.Row.TheVariants as rows
use Rattle.comp_model.specs.declared.row.Row.{Row}
use Rattle.comp_model.specs.RowNumbers.{same_row}
use Rattle.comp_model.proofs.Tests.{same_row-true, same_space-true, same_space-refl}
use Rattle.comp_scopes.specs.Form.{coded_node, custom_node}
use Rattle.comp_scopes.specs.Resolved.{binary_of, binary_of_leaf, binary_of_defs}
use Rattle.comp_wire.specs.Fits.{is_word, test_at, outer_fits_in, outer_fits, pieces_fit, line_fits, leaf_fits, leaf_tests, node_fits, nodes_fit, declarations_fit, type_scope_fits, code_of_kind}
use Rattle.comp_wire.specs.NameSection.{section_of_payload}
use Rattle.comp_wire.specs.Spelled.{find, declarations_of}
use Rattle.comp_wire.specs.Table as t
use Rattle.comp_wire.specs.Table.{Line, lines}
use Rattle.comp_wire.proofs.Groups.{and_both}
use Rattle.comp_wire.proofs.Lists.{dropped}
use Rattle.comp_tree.specs.Lists.{defs_listed}
use Rattle.comp_tree.specs.Model.{scope_of, core_at, joined}
use Rattle.comp_tree.specs.declared.tree.Def.{Def}
use Rattle.comp_tree.specs.declared.tree.Leaf.{Leaf}
use Rattle.comp_tree.specs.declared.tree.Leaf as l
use Rattle.comp_tree.specs.declared.tree.Node.{Node}
use Rattle.comp_tree.specs.declared.tree.Scope.{Scope}
use Rattle.comp_tree.specs.declared.tree.Scope as sc
use Rattle.comp_tree.proofs.Leaves.{scope_kind as kind_of_scope}
use Rattle.byte_table.specs.Lines.{line_pieces, type_kind}
use Rattle.byte_table.specs.Stands.{lead_of}
use Rattle.byte_table.specs.declared.line.TypeKind.{TypeKind}
use Rattle.byte_table.specs.declared.line.TypeKind.TheVariants as type_kinds
use Rattle.tree_write.specs.Along.{is_filled}
use Rattle.tree_write.specs.Measured.{piece_fits, places_of, space_of_kind, kind_in}
use Rattle.tree_write.specs.Wire.{the_encoding, wire_leaf, wire_leaves, wire_node, wire_nodes, wire_scope, payload_of}
use Rattle.tree_write.proofs.Due.{among, each_among}
use Rattle.tree_write.proofs.Scopes.{scope_defs}
use Rattle.tree_write.proofs.Turns.{same_item}

-- ---- a loop that asks the same of each part, by those that are left

module _ {X : Type 0} (all : List X → Bool) (one : X → Bool) (none : all [] ≡ true) (more : (x : X) (xs : List X) → all (x ∷ xs) ≡ (one x && all xs)) where
  next : (xs : List X) (i : ℕ) (x : X) → i < length xs → x ≡ get_or xs i x → all (drop i xs) ≡ (one x && all (drop (i + 1) xs))
  next xs i x h e = ap all (dropped xs i x h e) ∙ more x (drop (i + 1) xs)

  pub goes_on : (xs : List X) (i : ℕ) (x : X) (b : Bool) → i < length xs → x ≡ get_or xs i x → b ≡ one x → b ≡ true → all (drop i xs) ≡ all xs → all (drop (i + 1) xs) ≡ all xs
  goes_on xs i x b h e o t k = sym (next xs i x h e ∙ ap (λ y. y && all (drop (i + 1) xs)) (sym o ∙ t)) ∙ k

  pub ends : (xs : List X) (i : ℕ) (x : X) (b : Bool) → i < length xs → x ≡ get_or xs i x → b ≡ one x → b ≡ false → all (drop i xs) ≡ all xs → false ≡ all xs
  ends xs i x b h e o f k = sym (next xs i x h e ∙ ap (λ y. y && all (drop (i + 1) xs)) (sym o ∙ f)) ∙ k

  pub goes_on_at : (xs : List X) (i : ℕ) (d : X) (b : Bool) → i < length xs → b ≡ one (get_or xs i d) → b ≡ true → all (drop i xs) ≡ all xs → all (drop (i + 1) xs) ≡ all xs
  goes_on_at xs i d b h = goes_on xs i (get_or xs i d) b h (same_item xs i d h)

  pub ends_at : (xs : List X) (i : ℕ) (d : X) (b : Bool) → i < length xs → b ≡ one (get_or xs i d) → b ≡ false → all (drop i xs) ≡ all xs → false ≡ all xs
  ends_at xs i d b h = ends xs i (get_or xs i d) b h (same_item xs i d h)

  pub all_hold : (xs : List X) (i : ℕ) → length xs ≤ i → all (drop i xs) ≡ all xs → true ≡ all xs
  all_hold xs i h k = sym (ap all (drop_of_length-le xs h) ∙ none) ∙ k

-- a loop that adds up the lengths of pieces
pub joined_more : (ps : List (Bor Text)) (i size new : ℕ) (d : Bor Text) → i < length ps → new ≡ min (size + length (get_or ps i d).now) (2 ^ 64 - 1)
    → min (size + length (joined (drop i ps))) (2 ^ 64 - 1) ≡ min (length (joined ps)) (2 ^ 64 - 1) → min (new + length (joined (drop (i + 1) ps))) (2 ^ 64 - 1) ≡ min (length (joined ps)) (2 ^ 64 - 1)
joined_more ps i size new d h n k =
    let split = ap (λ xs. length (joined xs)) (dropped ps i (get_or ps i d) h (same_item ps i d h)) in
    let both = length-append (get_or ps i d).now (joined (drop (i + 1) ps)) in
    omega (arith, split, both, n, k)

-- a core module
pub source_fits : (l : m.Leaf) (c : CoreModule) (f : t.Field) (b : Bool) → l ≡ m.core_source c → ((bytes : List ℕ) → b ≡ leaf_fits (m.module_bytes bytes) f) → b ≡ leaf_fits (binary_of_leaf the_encoding l) f
source_fits l c f b e h = h (core_bytes c) ∙ ap (λ x. leaf_fits (binary_of_leaf the_encoding x) f) (sym e)

-- ---- pieces

pub pieces_one : (gs : List (t.Field → Bool)) (p : t.Piece) (ps : List t.Piece) → pieces_fit (p ∷ ps) gs ≡ (piece_fits p gs && pieces_fit ps gs)
pieces_one gs (t.byte b) ps = refl
pieces_one gs (t.leaf i f) ps = refl
pieces_one gs (t.limits i) ps = sym (and_assoc (test_at i t.unsigned gs) (test_at (suc i) t.maximum gs) (pieces_fit ps gs))
pieces_one gs (t.outer i) ps = refl

pub limits_fit : (gs : List (t.Field → Bool)) (i : ℕ) (a b : Bool) → a ≡ test_at i t.unsigned gs → b ≡ test_at (i + 1) t.maximum gs → (a && b) ≡ piece_fits (t.limits i) gs
limits_fit gs i a b e f = let one : i + 1 ≡ suc i = omega arith in ap (λ c. c && b) e ∙ ap (λ c. test_at i t.unsigned gs && c) (f ∙ ap (λ j. test_at j t.maximum gs) one)

-- ---- lines

line_counted : Line → Bool
line_counted l = is_filled l.pieces && (l.leaves == places_of l.pieces)

-- by computation: each line has a piece, and a leaf for each place up to the last that it writes
lines_counted : (f : t.Family) → list_all line_counted (lines f) ≡ true
unfolding line_counted
lines_counted t.types = refl
lines_counted _ = refl

abbrev by_pieces : List t.Piece → List (t.Field → Bool) → Bool
by_pieces ps gs = is_filled ps && ((length gs == places_of ps) && pieces_fit ps gs)

one_line : (x : Line) (gs : List (t.Field → Bool)) → line_counted x ≡ true → line_fits (Some x) gs ≡ by_pieces x.pieces gs
unfolding line_counted
one_line x gs h =
    let e = and_both (is_filled x.pieces) (x.leaves == places_of x.pieces) h in
    ap (λ n. (length gs == n) && pieces_fit x.pieces gs) (eqb-true x.leaves (places_of x.pieces) e.1) ∙ sym (ap (λ b. b && ((length gs == places_of x.pieces) && pieces_fit x.pieces gs)) e.0)

line_by_pieces : (u : Row) (ls : List Line) (gs : List (t.Field → Bool)) → list_all line_counted ls ≡ true → line_fits (find u ls) gs ≡ by_pieces (line_pieces (find u ls)) gs
line_by_pieces u [] gs h = refl
line_by_pieces u (x ∷ ls) gs h = let e = and_both (line_counted x) _ h in go (same_row u x.tag) (one_line x gs e.0) (line_by_pieces u ls gs e.1)
  where
    go : (b : Bool) → line_fits (Some x) gs ≡ by_pieces x.pieces gs → line_fits (find u ls) gs ≡ by_pieces (line_pieces (find u ls)) gs → line_fits (cond b (Some x) (find u ls)) gs ≡ by_pieces (line_pieces (cond b (Some x) (find u ls))) gs
    go true a b = a
    go false a b = b

-- the byte in front has no place
led_pieces : (lead : Option ℕ) (ps : List t.Piece) (gs : List (t.Field → Bool)) → ((length gs == places_of (lead_of lead ++ ps)) && pieces_fit (lead_of lead ++ ps) gs) ≡ ((length gs == places_of ps) && pieces_fit ps gs)
led_pieces None ps gs = refl
led_pieces (Some b) ps gs = let e : max 0 (places_of ps) ≡ places_of ps = omega arith in ap (λ n. (length gs == n) && pieces_fit ps gs) e

-- ---- the kind at a place

pub kind_found : (xs : List Leaf) (i : ℕ) (x : Leaf) → i < length xs → x ≡ get_or xs i x → kind_in xs i ≡ space_of_kind x
kind_found [] i x h e = absurd (omega arith)
kind_found (y ∷ xs) zero x h e = ap space_of_kind (sym e)
kind_found (y ∷ xs) (suc i) x h e = kind_found xs i x (omega arith) e

pub kind_beyond : (xs : List Leaf) (i : ℕ) → length xs ≤ i → kind_in xs i ≡ None
kind_beyond [] i h = refl
kind_beyond (y ∷ xs) zero h = absurd (omega arith)
kind_beyond (y ∷ xs) (suc i) h = kind_beyond xs i (omega arith)

module _ (cores : List CoreModule) where
  -- ---- the leaf at a place

  pub test_in : (xs : List Leaf) (i : ℕ) (f : t.Field) (x : Leaf) → i < length xs → x ≡ get_or xs i x → test_at i f (leaf_tests (wire_leaves cores xs)) ≡ leaf_fits (wire_leaf cores x) f
  test_in [] i f x h e = absurd (omega arith)
  test_in (y ∷ xs) zero f x h e = ap (λ z. leaf_fits (wire_leaf cores z) f) (sym e)
  test_in (y ∷ xs) (suc i) f x h e = test_in xs i f x (omega arith) e

  pub test_behind : (xs : List Leaf) (i : ℕ) (f : t.Field) → length xs ≤ i → test_at i f (leaf_tests (wire_leaves cores xs)) ≡ false
  test_behind [] i f h = refl
  test_behind (y ∷ xs) zero f h = absurd (omega arith)
  test_behind (y ∷ xs) (suc i) f h = test_behind xs i f (omega arith)

  pub tests_counted : (xs : List Leaf) → length (leaf_tests (wire_leaves cores xs)) ≡ length xs
  tests_counted [] = refl
  tests_counted (x ∷ xs) = let e = tests_counted xs in omega arith

  -- ---- a node

  abbrev Tests : List Leaf → List (t.Field → Bool)
  Tests xs = leaf_tests (wire_leaves cores xs)

  -- by the pieces of the row in the family
  node_by : (u : Row) (f : t.Family) (xs : List Leaf) (lead : Option ℕ) (ps : List t.Piece) → line_pieces (find u (lines f)) ≡ lead_of lead ++ ps
      → node_fits (m.row u (wire_leaves cores xs)) f ≡ (is_filled (lead_of lead ++ ps) && ((length xs == places_of ps) && pieces_fit ps (Tests xs)))
  node_by u f xs lead ps e =
      line_by_pieces u (lines f) (Tests xs) (lines_counted f) ∙ ap (λ qs. by_pieces qs (Tests xs)) e
      ∙ ap (λ b. is_filled (lead_of lead ++ ps) && b) (led_pieces lead ps (Tests xs) ∙ ap (λ n. (n == places_of ps) && pieces_fit ps (Tests xs)) (tests_counted xs))

  pub no_line : (u : Row) (f : t.Family) (xs : List Leaf) (lead : Option ℕ) (ps : List t.Piece) (b : Bool) → line_pieces (find u (lines f)) ≡ lead_of lead ++ ps → b ≡ is_filled (lead_of lead ++ ps) → b ≡ false → false ≡ node_fits (m.row u (wire_leaves cores xs)) f
  no_line u f xs lead ps b e g h = sym (node_by u f xs lead ps e ∙ ap (λ c. c && ((length xs == places_of ps) && pieces_fit ps (Tests xs))) (sym g ∙ h))

  pub other_count : (u : Row) (f : t.Family) (xs : List Leaf) (lead : Option ℕ) (ps : List t.Piece) (b : Bool) → line_pieces (find u (lines f)) ≡ lead_of lead ++ ps → b ≡ (length xs == places_of ps) → b ≡ false → false ≡ node_fits (m.row u (wire_leaves cores xs)) f
  other_count u f xs lead ps b e n h = sym (node_by u f xs lead ps e ∙ ap (λ c. is_filled (lead_of lead ++ ps) && (c && pieces_fit ps (Tests xs))) (sym n ∙ h) ∙ go (is_filled (lead_of lead ++ ps)))
    where
      go : (b : Bool) → (b && false) ≡ false
      go true = refl
      go false = refl

  pub same_count : (u : Row) (f : t.Family) (xs : List Leaf) (lead : Option ℕ) (ps : List t.Piece) (b : Bool) → line_pieces (find u (lines f)) ≡ lead_of lead ++ ps → b ≡ is_filled (lead_of lead ++ ps) → b ≡ true → (d : Bool) → d ≡ (length xs == places_of ps) → d ≡ true
      → pieces_fit ps (Tests xs) ≡ node_fits (m.row u (wire_leaves cores xs)) f
  same_count u f xs lead ps b e g h d n q = sym (
      node_by u f xs lead ps e ∙ ap (λ c. c && ((length xs == places_of ps) && pieces_fit ps (Tests xs))) (sym g ∙ h) ∙ ap (λ c. c && pieces_fit ps (Tests xs)) (sym n ∙ q)
      )

  -- ---- a reference outward

  abbrev among_kinds : Option Space → Space → Bool
  among_kinds None u = false
  among_kinds (Some s) u = same_space s u

  core_kind : (cs : List CoreModule) (n : ℕ) (u : Space) → leaf_fits (binary_of_leaf the_encoding (core_at cs n)) (t.kind_is u) ≡ false
  core_kind [] n u = refl
  core_kind (c ∷ cs) zero u = refl
  core_kind (c ∷ cs) (suc n) u = core_kind cs n u

  core_value_kind : (v : core.CoreValue) (u : Space) → leaf_fits (binary_of_leaf the_encoding (m.core_value v)) (t.kind_is u) ≡ false
  core_value_kind (core.ref_numeral b o n) u = refl
  core_value_kind _ u = refl

  target_kind : (s : Space) (x : m.Target) (u : Space) → leaf_fits (binary_of_leaf the_encoding (m.ref s x)) (t.kind_is u) ≡ false
  target_kind s (m.numeral o n) u = refl
  target_kind s _ u = refl

  place_kind : (p : core.Place) (u : Space) → leaf_fits (binary_of_leaf the_encoding (m.place p)) (t.kind_is u) ≡ false
  place_kind (core.counted o n) u = refl
  place_kind (core.named o x) u = refl

  scope_kind : (s : m.Scope) (u : Space) → leaf_fits (binary_of_leaf the_encoding (m.scope s)) (t.kind_is u) ≡ false
  scope_kind (m.scope_of k id label ds) u = refl

  kind_tested : (x : Leaf) (u : Space) → leaf_fits (wire_leaf cores x) (t.kind_is u) ≡ among_kinds (space_of_kind x) u
  kind_tested (l.Kind s) u = refl
  kind_tested (l.CoreValue v) u = core_value_kind _ u
  kind_tested (l.Numeral s n span) u = refl
  kind_tested (l.Name s r x) u = refl
  kind_tested (l.Path s p) u = target_kind s _ u
  kind_tested (l.Place p) u = place_kind _ u
  kind_tested (l.Inline' s p r v q h xs) u = refl
  kind_tested (l.Bundle' s p r v q h xs) u = refl
  kind_tested (l.Core n) u = core_kind cores n u
  kind_tested (l.Scope' p s) u = scope_kind _ u
  kind_tested _ u = refl

  kind_at : (xs : List Leaf) (i : ℕ) (u : Space) → test_at i (t.kind_is u) (Tests xs) ≡ among_kinds (kind_in xs i) u
  kind_at [] i u = refl
  kind_at (x ∷ xs) zero u = kind_tested x u
  kind_at (x ∷ xs) (suc i) u = kind_at xs i u

  pub no_kind : (xs : List Leaf) (i : ℕ) → kind_in xs (i + 2) ≡ None → false ≡ outer_fits i (Tests xs)
  no_kind xs i e = sym (none_of all_spaces)
    where
      two : i + 2 ≡ suc (suc i)
      two = omega arith

      none_in : (u : Space) → outer_fits_in i (Tests xs) u ≡ false
      none_in u =
          ap (λ b. test_at i t.outward (Tests xs) && (test_at (suc i) (t.index_in u) (Tests xs) && b)) (kind_at xs (suc (suc i)) u ∙ ap (λ k. among_kinds k u) (ap (kind_in xs) (sym two) ∙ e))
          ∙ go (test_at i t.outward (Tests xs)) (test_at (suc i) (t.index_in u) (Tests xs))
        where
          go : (a b : Bool) → (a && (b && false)) ≡ false
          go true true = refl
          go true false = refl
          go false b = refl

      none_of : (ss : List Space) → list_any (outer_fits_in i (Tests xs)) ss ≡ false
      none_of [] = refl
      none_of (s ∷ ss) = ap (λ b. b || list_any (outer_fits_in i (Tests xs)) ss) (none_in s) ∙ none_of ss

  pub kind_of_outer : (xs : List Leaf) (i : ℕ) (s : Space) (a b : Bool) → kind_in xs (i + 2) ≡ Some s → a ≡ test_at i t.outward (Tests xs) → b ≡ test_at (i + 1) (t.index_in s) (Tests xs) → (a && b) ≡ outer_fits i (Tests xs)
  kind_of_outer xs i s a b e f g = sym (found all_spaces ∙ ap (λ c. c && outer_fits_in i (Tests xs) s) (each_among s) ∙ here s ∙ last)
    where
      one : i + 1 ≡ suc i
      one = omega arith

      two : i + 2 ≡ suc (suc i)
      two = omega arith

      here : (u : Space) → outer_fits_in i (Tests xs) u ≡ (test_at i t.outward (Tests xs) && (test_at (suc i) (t.index_in u) (Tests xs) && same_space s u))
      here u = ap (λ c. test_at i t.outward (Tests xs) && (test_at (suc i) (t.index_in u) (Tests xs) && c)) (kind_at xs (suc (suc i)) u ∙ ap (λ k. among_kinds k u) (ap (kind_in xs) (sym two) ∙ e))

      other : (u : Space) → same_space s u ≡ false → outer_fits_in i (Tests xs) u ≡ false
      other u n = here u ∙ ap (λ c. test_at i t.outward (Tests xs) && (test_at (suc i) (t.index_in u) (Tests xs) && c)) n ∙ go (test_at i t.outward (Tests xs)) (test_at (suc i) (t.index_in u) (Tests xs))
        where
          go : (a b : Bool) → (a && (b && false)) ≡ false
          go true true = refl
          go true false = refl
          go false b = refl

      apart : (u : Space) → same_space u s ≡ false → same_space s u ≡ false
      apart u n = false_from_ne_true (same_space s u) (λ q. (let w : same_space u s ≡ true = subst (λ x. same_space x s ≡ true) (same_space-true s u q) (same_space-refl s) in cc))

      found : (ss : List Space) → list_any (outer_fits_in i (Tests xs)) ss ≡ (among s ss && outer_fits_in i (Tests xs) s)
      found [] = refl
      found (u ∷ ss) = go (same_space u s) refl (found ss)
        where
          twice : (a b : Bool) → (a || (b && a)) ≡ a
          twice true b = refl
          twice false true = refl
          twice false false = refl

          go : (b : Bool) → same_space u s ≡ b → list_any (outer_fits_in i (Tests xs)) ss ≡ (among s ss && outer_fits_in i (Tests xs) s) → (outer_fits_in i (Tests xs) u || list_any (outer_fits_in i (Tests xs)) ss) ≡ ((b || among s ss) && outer_fits_in i (Tests xs) s)
          go true q r = ap (λ x. outer_fits_in i (Tests xs) x || list_any (outer_fits_in i (Tests xs)) ss) (same_space-true u s q) ∙ ap (λ y. outer_fits_in i (Tests xs) s || y) r ∙ twice (outer_fits_in i (Tests xs) s) (among s ss)
          go false q r = ap (λ y. y || list_any (outer_fits_in i (Tests xs)) ss) (other u (apart u q)) ∙ r

      last : (test_at i t.outward (Tests xs) && (test_at (suc i) (t.index_in s) (Tests xs) && same_space s s)) ≡ (a && b)
      last =
          ap (λ c. test_at i t.outward (Tests xs) && (test_at (suc i) (t.index_in s) (Tests xs) && c)) (same_space-refl s)
          ∙ ap (λ c. test_at i t.outward (Tests xs) && c) (and-true (test_at (suc i) (t.index_in s) (Tests xs)) ∙ ap (λ j. test_at j (t.index_in s) (Tests xs)) (sym one) ∙ sym g) ∙ ap (λ c. c && b) (sym f)

  -- ---- nodes, and the declarations of a type

  pub nodes_counted : (ns : List Node) → count_nodes (wire_nodes cores ns) ≡ length ns
  nodes_counted [] = refl
  nodes_counted (n ∷ ns) = let e = nodes_counted ns in omega arith

  pub part_of_nodes : (ns : List Node) (f : t.Family) (b c : Bool) → b ≡ is_word (length ns) → b ≡ true → c ≡ nodes_fit (wire_nodes cores ns) f → c ≡ leaf_fits (m.nodes (wire_nodes cores ns)) (t.each f)
  part_of_nodes ns f b c e h n = n ∙ sym (ap (λ k. is_word k && nodes_fit (wire_nodes cores ns) f) (nodes_counted ns) ∙ ap (λ y. y && nodes_fit (wire_nodes cores ns) f) (sym e ∙ h))

  pub many_nodes : (ns : List Node) (f : t.Family) (b : Bool) → b ≡ is_word (length ns) → b ≡ false → false ≡ leaf_fits (m.nodes (wire_nodes cores ns)) (t.each f)
  many_nodes ns f b e h = sym (ap (λ k. is_word k && nodes_fit (wire_nodes cores ns) f) (nodes_counted ns) ∙ ap (λ y. y && nodes_fit (wire_nodes cores ns) f) (sym e ∙ h))

  no_custom : (k : TypeKind) (x y : core.Text) → node_fits (custom_node x y) (declarations_of (type_kind k)) ≡ false
  no_custom type_kinds.Component x y = refl
  no_custom type_kinds.Instance x y = refl
  no_custom type_kinds.Module x y = refl

  no_producers : (k : TypeKind) (bs : Leaves) → node_fits (m.row rows.Producers bs) (declarations_of (type_kind k)) ≡ false
  no_producers type_kinds.Component bs = refl
  no_producers type_kinds.Instance bs = refl
  no_producers type_kinds.Module bs = refl

  -- producers are no declaration
  pub coded_fits : (u : Row) (ls bs : Leaves) (k : TypeKind) → node_fits (coded_node the_encoding u ls bs) (declarations_of (type_kind k)) ≡ node_fits (m.row u bs) (declarations_of (type_kind k))
  coded_fits u ls bs k = go (same_row u rows.Producers) refl
    where
      go : (b : Bool) → same_row u rows.Producers ≡ b → node_fits (cond b (custom_node (codes "producers") (producers_payload ls)) (m.row u bs)) (declarations_of (type_kind k)) ≡ node_fits (m.row u bs) (declarations_of (type_kind k))
      go true e = no_custom k (codes "producers") (producers_payload ls) ∙ sym (ap (λ v. node_fits (m.row v bs) (declarations_of (type_kind k))) (same_row-true u rows.Producers e) ∙ no_producers k bs)
      go false e = refl

  abbrev declared : List Def → m.Defs
  declared ds = binary_of_defs the_encoding (defs_listed cores ds) m.no_def

  pub declarations_one : (k : TypeKind) (d : Def) (ds : List Def) → declarations_fit (declared (d ∷ ds)) (declarations_of (type_kind k)) ≡ (node_fits (wire_node cores d.node) (declarations_of (type_kind k)) && declarations_fit (declared ds) (declarations_of (type_kind k)))
  declarations_one k d ds = ap (λ b. b && declarations_fit (declared ds) (declarations_of (type_kind k))) (coded_fits d.node.row _ _ k)

  defs_counted : (ds : List Def) → count_defs (declared ds) ≡ length ds
  defs_counted [] = refl
  defs_counted (d ∷ ds) = let e = defs_counted ds in omega arith

  no_payload : (s : m.Scope) (k : TypeKind) → (code_of_kind (kind_of s) == code_of_kind (type_kind k)) ≡ true → payload_of s ≡ []
  no_payload (m.scope_of kinds.Component id label ds) type_kinds.Component h = absurd (cc)
  no_payload (m.scope_of kinds.Component id label ds) type_kinds.Instance h = absurd (cc)
  no_payload (m.scope_of kinds.Component id label ds) type_kinds.Module h = absurd (cc)
  no_payload (m.scope_of kinds.ComponentType id label ds) k h = refl
  no_payload (m.scope_of kinds.InstanceType id label ds) k h = refl
  no_payload (m.scope_of kinds.ModuleType id label ds) k h = refl

  type_by : (s : m.Scope) (k : ScopeKind) → type_scope_fits (binary_of the_encoding s) k ≡ ((code_of_kind (kind_of s) == code_of_kind k) && (is_word (count_defs (defs_of (binary_of the_encoding s))) && declarations_fit (defs_of (binary_of the_encoding s)) (declarations_of k)))
  type_by (m.scope_of kd id label ds) k = refl

  is_kind : (x : Scope) (k : TypeKind) → (code_of_kind (kind_of (scope_of cores x)) == code_of_kind (type_kind k)) ≡ (code_of_kind (sc.out-Scope x).kind == code_of_kind (type_kind k))
  is_kind x k = ap (λ y. code_of_kind y == code_of_kind (type_kind k)) (kind_of_scope cores x)

  pub other_kind : (x : Scope) (k : TypeKind) (b : Bool) → b ≡ (code_of_kind (sc.out-Scope x).kind == code_of_kind (type_kind k)) → b ≡ false → false ≡ type_scope_fits (wire_scope cores x) (type_kind k)
  other_kind x k b e h = sym (type_by (scope_of cores x) (type_kind k) ∙ ap (λ c. c && (is_word (count_defs (defs_of (wire_scope cores x))) && declarations_fit (defs_of (wire_scope cores x)) (declarations_of (type_kind k)))) (is_kind x k ∙ sym e ∙ h))

  pub same_kind : (x : Scope) (k : TypeKind) (b : Bool) → b ≡ (code_of_kind (sc.out-Scope x).kind == code_of_kind (type_kind k)) → b ≡ true
      → type_scope_fits (wire_scope cores x) (type_kind k) ≡ (is_word (length (sc.out-Scope x).defs.now) && declarations_fit (declared (sc.out-Scope x).defs.now) (declarations_of (type_kind k)))
  same_kind x k b e h =
      let ds = (sc.out-Scope x).defs.now in
      let f = declarations_of (type_kind k) in
      let own = scope_defs cores x ∙ ap (λ p. binary_of_defs the_encoding (defs_listed cores ds) (section_of_payload p)) (no_payload (scope_of cores x) k (is_kind x k ∙ sym e ∙ h)) in
      type_by (scope_of cores x) (type_kind k)
      ∙ ap (λ c. c && (is_word (count_defs (defs_of (wire_scope cores x))) && declarations_fit (defs_of (wire_scope cores x)) f)) (is_kind x k ∙ sym e ∙ h)
      ∙ ap (λ y. is_word (count_defs y) && declarations_fit y f) own
      ∙ ap (λ n. is_word n && declarations_fit (declared ds) f) (defs_counted ds)

  pub too_many : (x : Scope) (k : TypeKind) (b c : Bool) → b ≡ (code_of_kind (sc.out-Scope x).kind == code_of_kind (type_kind k)) → b ≡ true → c ≡ is_word (length (sc.out-Scope x).defs.now) → c ≡ false → false ≡ type_scope_fits (wire_scope cores x) (type_kind k)
  too_many x k b c e h n g = sym (same_kind x k b e h ∙ ap (λ y. y && declarations_fit (declared (sc.out-Scope x).defs.now) (declarations_of (type_kind k))) (sym n ∙ g))

  pub few_enough : (x : Scope) (k : TypeKind) (b c d : Bool) → b ≡ (code_of_kind (sc.out-Scope x).kind == code_of_kind (type_kind k)) → b ≡ true → c ≡ is_word (length (sc.out-Scope x).defs.now) → c ≡ true
      → d ≡ declarations_fit (declared (sc.out-Scope x).defs.now) (declarations_of (type_kind k)) → d ≡ type_scope_fits (wire_scope cores x) (type_kind k)
  few_enough x k b c d e h n g p = p ∙ sym (same_kind x k b e h ∙ ap (λ y. y && declarations_fit (declared (sc.out-Scope x).defs.now) (declarations_of (type_kind k))) (sym n ∙ g))
