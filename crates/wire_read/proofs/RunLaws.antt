-- The sections of a component are the runs of its definitions.
use Rattle.std.proofs.Common.{◌≡◌, ◌≢◌, ℕ, List, [], ◌∷◌, ◌++◌, length, map, refl, sym, ◌∙◌, ap, subst, arith, Bool, true, false, not, Option, Some, None, if◌then◌else◌}
use Rattle.std.specs.Prelude.{◌==◌}
use Rattle.std.proofs.lemmas.Bool.{eq-eqb, eqb-true}
use Rattle.comp_model.specs.Leb.{uleb}
use Rattle.comp_model.specs.Payloads.{joined}
use Rattle.comp_model.specs.declared.row.Row.{Row}
use Rattle.comp_model.specs.Model.{Node, row, Nodes, no_node, one_node, count_nodes, no_names, Defs, no_def, one_def, define}
use Rattle.comp_wire.specs.declared.sections.SectionKind.TheVariants as section_kinds
use Rattle.comp_wire.specs.declared.sections.SectionKind.{SectionKind}
use Rattle.comp_wire.specs.Sections.{is_counted, shares, section_number, section_of, rows_of, item, Group, group, in_front, groups, EachShort, Word}
use Rattle.comp_wire.specs.Table as t
use Rattle.comp_wire.specs.Table.{Family, Line, lines}
use Rattle.comp_wire.specs.Spelled.{find, spell_node, spell_nodes, FitsLine, FitsNode, FitsNodes, FitsItem, FitsDefinitions, fits_leaves, items_of, item_of_node}
use Rattle.comp_wire.proofs.Groups.{shared, number_is}
use Rattle.wire_read.specs.Within.{WithinNodes, WithinDefs}
use Rattle.wire_read.specs.Runs.{Run, run, contents, run_group, body_bytes, may_follow, defs_before, run_defs, RunsFit, RunsWithin}
use Rattle.wire_read.proofs.Ranks.{in_lines, all_lines}
use Rattle.wire_read.proofs.Decided.{tag_found}

-- what stands in a section
pub contents_counted : (ks : Nodes) (f : Family) → length (contents ks f) ≡ count_nodes ks
contents_counted no_node f = refl
contents_counted (one_node n ns) f = let e : length (contents ns f) ≡ count_nodes ns = contents_counted ns f in omega (arith, e)

pub contents_joined : (ks : Nodes) (f : Family) → joined (contents ks f) ≡ spell_nodes ks f
contents_joined no_node f = refl
contents_joined (one_node n ns) f = ap (λ z. spell_node n f ++ z) (contents_joined ns f)

pub counted_body : (s : SectionKind) (ks : Nodes) → is_counted s ≡ true → body_bytes s ks ≡ uleb (count_nodes ks) ++ spell_nodes ks (rows_of s)
counted_body s ks c = rw c (ap (λ n. uleb n ++ joined (contents ks (rows_of s))) (contents_counted ks (rows_of s)) ∙ ap (λ z. uleb (count_nodes ks) ++ z) (contents_joined ks (rows_of s)))

pub lone_body : (s : SectionKind) (ks : Nodes) → is_counted s ≡ false → body_bytes s ks ≡ spell_nodes ks (rows_of s)
lone_body s ks c = rw c (contents_joined ks (rows_of s))

-- a row of a section is a definition that stands there
abbrev stands_in : SectionKind → Line → Bool
stands_in s l = section_number (section_of l.tag) == section_number s

all_stand : (s : SectionKind) → all_lines (stands_in s) (lines (rows_of s)) ≡ true
all_stand section_kinds.Custom = refl
all_stand _ = refl

found_section : (s : SectionKind) (u : Row) (o : Option Line) (gs : List (t.Field → Type 0)) → find u (lines (rows_of s)) ≡ o → FitsLine o gs → section_of u ≡ s
found_section s u None gs e h = absurd h
found_section s u (Some l) gs e h =
    number_is (section_of u) s (eqb-true _ _ (subst (λ v. (section_number (section_of v) == section_number s) ≡ true) (sym (tag_found u (lines (rows_of s)) l e)) (in_lines (stands_in s) u (lines (rows_of s)) l (all_stand s) e)))

pub row_section : (s : SectionKind) (n : Node) → FitsNode n (rows_of s) → FitsItem n × (item_of_node n ≡ item s (spell_node n (rows_of s)))
row_section s (row u ls) h =
    let same = found_section s u (find u (lines (rows_of s))) (fits_leaves ls) refl h in
    (subst (λ v. FitsNode (row u ls) (rows_of v)) (sym same) h, ap (λ v. item v (spell_node (row u ls) (rows_of v))) same)

-- neighbours go into one section in front of others that they don't share
abbrev pub heads : SectionKind → List Group → Bool
heads s [] = true
heads s (g ∷ gs) = not (shares s g.section)

pub lone_front : (s : SectionKind) (c : List ℕ) (gs : List Group) → heads s gs ≡ true → in_front (item s c) gs ≡ group s (c ∷ []) ∷ gs
lone_front s c [] h = refl
lone_front s c (g ∷ gs) h = go (shares s g.section) h
  where
    go : (b : Bool) → not b ≡ true → (if b then group g.section (c ∷ g.items) ∷ gs else group s (c ∷ []) ∷ g ∷ gs) ≡ group s (c ∷ []) ∷ g ∷ gs
    go true e = cc
    go false e = refl

itself : (s : SectionKind) → is_counted s ≡ true → shares s s ≡ true
itself s c = rw (c, eq-eqb (section_number s) (section_number s) refl) refl

pub rows_front : (s : SectionKind) (ks : Nodes) (ds : Defs) (gs : List Group) → groups (items_of ds) ≡ gs → heads s gs ≡ true → FitsNodes ks (rows_of s) → (is_counted s ≡ false → count_nodes ks ≡ 1) → count_nodes ks ≢ 0 → groups (items_of (defs_before ks ds)) ≡ group s (contents ks (rows_of s)) ∷ gs
rows_front s no_node ds gs e h f l n = absurd (n refl)
rows_front s (one_node k no_node) ds gs e h f l n =
    ap (λ i. in_front i (groups (items_of ds))) (row_section s k f.0).1 ∙ ap (in_front (item s (spell_node k (rows_of s)))) e ∙ lone_front s (spell_node k (rows_of s)) gs h
rows_front s (one_node k (one_node j js)) ds gs e h f l n =
    let more = rows_front s (one_node j js) ds gs e h f.1 (λ c. absurd (omega (arith, l c))) (λ z. omega (arith, z)) in
    ap (λ i. in_front i (groups (items_of (defs_before (one_node j js) ds)))) (row_section s k f.0).1
    ∙ ap (in_front (item s (spell_node k (rows_of s)))) more
    ∙ share (is_counted s) refl
  where
    share : (b : Bool) → is_counted s ≡ b → in_front (item s (spell_node k (rows_of s))) (group s (contents (one_node j js) (rows_of s)) ∷ gs) ≡ group s (contents (one_node k (one_node j js)) (rows_of s)) ∷ gs
    share true c = rw (itself s c) refl
    share false c = let z = l c in absurd (omega (arith, z))

follow_heads : (s : SectionKind) (r : Run) (gs : List Group) → may_follow (Some s) r.section ≡ true → heads s (run_group r ∷ gs) ≡ true
follow_heads s r gs h = h

pub runs_grouped : (last : Option SectionKind) (rs : List Run) → RunsFit last rs → groups (items_of (run_defs rs)) ≡ map run_group rs
runs_grouped last [] h = refl
runs_grouped last (r ∷ rs) h = rows_front r.section r.rows (run_defs rs) (map run_group rs) (runs_grouped (Some r.section) rs h.1) (head_of rs h.1) h.0.rows.rows h.0.rows.lone h.0.rows.some
  where
    head_of : (rs : List Run) → RunsFit (Some r.section) rs → heads r.section (map run_group rs) ≡ true
    head_of [] h = refl
    head_of (q ∷ qs) h = h.0.follows

defs_fit : (s : SectionKind) (ks : Nodes) (ds : Defs) → FitsNodes ks (rows_of s) → FitsDefinitions ds → FitsDefinitions (defs_before ks ds)
defs_fit s no_node ds f h = h
defs_fit s (one_node k ks) ds f h = ((refl, (row_section s k f.0).0), defs_fit s ks ds f.1 h)

pub runs_defs_fit : (last : Option SectionKind) (rs : List Run) → RunsFit last rs → FitsDefinitions (run_defs rs)
runs_defs_fit last [] h = tt
runs_defs_fit last (r ∷ rs) h = defs_fit r.section r.rows (run_defs rs) h.0.rows.rows (runs_defs_fit (Some r.section) rs h.1)

pub runs_short : (last : Option SectionKind) (rs : List Run) → RunsFit last rs → EachShort (map run_group rs)
runs_short last [] h = tt
runs_short last (r ∷ rs) h = (subst Word (sym (contents_counted r.rows (rows_of r.section))) h.0.rows.count, h.0.short, runs_short (Some r.section) rs h.1)

defs_within : (ks : Nodes) (ds : Defs) (n : ℕ) → WithinNodes ks n → WithinDefs ds n → WithinDefs (defs_before ks ds) n
defs_within no_node ds n f h = h
defs_within (one_node k ks) ds n f h = (f.0, defs_within ks ds n f.1 h)

pub runs_defs_within : (rs : List Run) (n : ℕ) → RunsWithin rs n → WithinDefs (run_defs rs) n
runs_defs_within [] n h = tt
runs_defs_within (r ∷ rs) n h = defs_within r.rows (run_defs rs) n h.0 (runs_defs_within rs n h.1)

-- ---- the runs of any definitions

abbrev RunShape : Option SectionKind → Run → Type 0
RunShape last r = FitsNodes r.rows (rows_of r.section) × (count_nodes r.rows ≢ 0) × (is_counted r.section ≡ false → count_nodes r.rows ≡ 1) × (may_follow last r.section ≡ true)

abbrev RunsShape : Option SectionKind → List Run → Type 0
RunsShape last [] = Unit {0}
RunsShape last (r ∷ rs) = RunShape last r × RunsShape (Some r.section) rs

abbrev Shaped : Defs → Type 0
Shaped ds = (rs : List Run) × RunsShape None rs × (groups (items_of ds) ≡ map run_group rs) × ((n : ℕ) → WithinDefs ds n → RunsWithin rs n)

shaped_more : (n : Node) (ds : Defs) → FitsItem n → Shaped ds → Shaped (one_def (define no_names n) ds)
shaped_more (row u ls) ds p ([], fits, grouped, near) =
    (run (section_of u) (one_node (row u ls) no_node) ∷ [], (((p, tt), (λ z. omega (arith, z)), (λ c. refl), refl), tt), ap (in_front (item_of_node (row u ls))) grouped, (λ n w. ((w.0, tt), tt)))
shaped_more (row u ls) ds p (r ∷ rs, fits, grouped, near) = go (shares (section_of u) r.section) refl
  where
    n : Node
    n = row u ls

    go : (b : Bool) → shares (section_of u) r.section ≡ b → Shaped (one_def (define no_names n) ds)
    go true e =
        let same = shared (section_of u) r.section e in
        let here : FitsNode n (rows_of r.section) = subst (λ s. FitsNode n (rows_of s)) same.0 p in
        let lone : is_counted r.section ≡ false → count_nodes (one_node n r.rows) ≡ 1 = λ c. absurd (true_false (sym (subst (λ s. is_counted s ≡ true) same.0 same.1) ∙ c)) in
        let item_is : item_of_node n ≡ item r.section (spell_node n (rows_of r.section)) = (row_section r.section n here).1 in (
          run r.section (one_node n r.rows) ∷ rs,
          (((here, fits.0.0), (λ z. omega (arith, z)), lone, refl), fits.1),
          ap (in_front (item_of_node n)) grouped ∙ ap (λ i. in_front i (map run_group (r ∷ rs))) item_is ∙ joined_in (subst (λ s. shares s r.section ≡ true) same.0 e),
          (λ k w. let v = near k w.1 in ((w.0, v.0), v.1)),
        )
      where
        true_false : true ≡ false → ⊥
        true_false e = cc

        joined_in : shares r.section r.section ≡ true → in_front (item r.section (spell_node n (rows_of r.section))) (map run_group (r ∷ rs)) ≡ map run_group (run r.section (one_node n r.rows) ∷ rs)
        joined_in e = rw e refl
    go false e = (
      run (section_of u) (one_node n no_node) ∷ r ∷ rs,
      (((p, tt), (λ z. omega (arith, z)), (λ c. refl), refl), ((fits.0.0, fits.0.1, fits.0.2, ap not e), fits.1)),
      ap (in_front (item_of_node n)) grouped ∙ lone_front (section_of u) (spell_node n (rows_of (section_of u))) (map run_group (r ∷ rs)) (ap not e),
      (λ k w. ((w.0, tt), near k w.1)),
    )

shaped : (ds : Defs) → FitsDefinitions ds → Shaped ds
shaped no_def h = ([], tt, refl, (λ n w. tt))
shaped (one_def (define w n) ds) h = subst (λ v. Shaped (one_def (define v n) ds)) (sym h.0.0) (shaped_more n ds h.0.1 (shaped ds h.1))

with_lengths : (last : Option SectionKind) (rs : List Run) → RunsShape last rs → EachShort (map run_group rs) → RunsFit last rs
with_lengths last [] h k = tt
with_lengths last (r ∷ rs) h k =
    (record { rows = record { rows = h.0.0; some = h.0.1; lone = h.0.2; count = subst Word (contents_counted r.rows (rows_of r.section)) k.0 }; short = k.1; follows = h.0.3 }, with_lengths (Some r.section) rs h.1 k.2)

abbrev pub CutDefs : Defs → Type 0
CutDefs ds = (rs : List Run) × RunsFit None rs × (groups (items_of ds) ≡ map run_group rs) × ((n : ℕ) → WithinDefs ds n → RunsWithin rs n)

pub cut_defs : (ds : Defs) → FitsDefinitions ds → EachShort (groups (items_of ds)) → CutDefs ds
cut_defs ds h k = let s = shaped ds h in (s.0, with_lengths None s.0 s.1 (subst EachShort s.2 k), s.2, s.3)
