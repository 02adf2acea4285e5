-- Sections one behind the other, as far as a component was read.
use Rattle.std.proofs.Common.{◌≡◌, ℕ, List, [], ◌∷◌, ◌++◌, length, map, refl, sym, ◌∙◌, ap, subst, arith, Option, Some, None, append_assoc, append-nil}
use Rattle.comp_model.specs.Model as m
use Rattle.comp_model.specs.declared.row.ScopeKind.TheVariants as kinds
use Rattle.comp_model.specs.Model.{Node, Nodes, no_node, one_node, no_names, Defs, no_def, one_def, define}
use Rattle.comp_model.specs.Spaces.{append_defs}
use Rattle.comp_wire.specs.declared.sections.SectionKind.{SectionKind}
use Rattle.comp_wire.specs.Sections.{groups, sections, preamble, EachShort}
use Rattle.comp_wire.specs.Spelled.{FitsSections, spell_component, items_of}
use Rattle.comp_wire.proofs.Numbers.{cons_is}
use Rattle.comp_wire.proofs.Fields.{framed_ends}
use Rattle.comp_wire.proofs.Groups.{number_is}
use Rattle.wire_tree.specs.Lists.{node_of, nodes_listed, defs_listed}
use Rattle.wire_tree.specs.declared.tree.Node as tree
use Rattle.wire_read.specs.Place.{Place, rest, Takes}
use Rattle.wire_read.specs.Within.{WithinNodes, WithinDefs, WithinScope}
use Rattle.wire_read.specs.Stops.{Allows, Refused}
use Rattle.wire_read.specs.Runs.{Run, run, run_group, run_bytes, body_bytes, RunFits, RunsFit, RunsWithin, defs_before, run_defs}
use Rattle.wire_read.specs.declared.stop.Stop.{Stop}
use Rattle.wire_read.proofs.Places.{takes_two, takes_none}
use Rattle.wire_read.proofs.NodeParts.{allowed}
use Rattle.wire_read.proofs.RunLaws.{runs_grouped, runs_defs_fit, runs_short, runs_defs_within, cut_defs}

abbrev pub run_sections : List Run → List ℕ
run_sections rs = sections (map run_group rs)

abbrev pub last_of : Option SectionKind → List Run → Option SectionKind
last_of last [] = last
last_of last (r ∷ rs) = last_of (Some r.section) rs

one_more_bytes : (rs : List Run) (q : Run) → run_sections (rs ++ q ∷ []) ≡ run_sections rs ++ run_bytes q
one_more_bytes [] q = append-nil (run_bytes q)
one_more_bytes (r ∷ rs) q = ap (λ z. run_bytes r ++ z) (one_more_bytes rs q) ∙ sym (append_assoc (run_bytes r) (run_sections rs) (run_bytes q))

one_more_fits : (last : Option SectionKind) (rs : List Run) (q : Run) → RunsFit last rs → RunFits (last_of last rs) q → RunsFit last (rs ++ q ∷ [])
one_more_fits last [] q h f = (f, tt)
one_more_fits last (r ∷ rs) q h f = (h.0, one_more_fits (Some r.section) rs q h.1 f)

one_more_last : (last : Option SectionKind) (rs : List Run) (q : Run) → last_of last (rs ++ q ∷ []) ≡ Some q.section
one_more_last last [] q = refl
one_more_last last (r ∷ rs) q = one_more_last (Some r.section) rs q

one_more_within : (rs : List Run) (q : Run) (n : ℕ) → RunsWithin rs n → WithinNodes q.rows n → RunsWithin (rs ++ q ∷ []) n
one_more_within [] q n h f = (f, tt)
one_more_within (r ∷ rs) q n h f = (h.0, one_more_within rs q n h.1 f)

before_append : (ks : Nodes) (ds es : Defs) → defs_before ks (append_defs ds es) ≡ append_defs (defs_before ks ds) es
before_append no_node ds es = refl
before_append (one_node k ks) ds es = ap (one_def (define no_names k)) (before_append ks ds es)

one_more_defs : (rs : List Run) (q : Run) → run_defs (rs ++ q ∷ []) ≡ append_defs (run_defs rs) (defs_before q.rows no_def)
one_more_defs [] q = refl
one_more_defs (r ∷ rs) q = ap (defs_before r.rows) (one_more_defs rs q) ∙ before_append r.rows (run_defs rs) (defs_before q.rows no_def)

listed_before : (ns : List tree.Node) → defs_listed ns ≡ defs_before (nodes_listed ns) no_def
listed_before [] = refl
listed_before (n ∷ ns) = ap (one_def (define no_names (node_of n))) (listed_before ns)

listed_append : (xs ys : List tree.Node) → defs_listed (xs ++ ys) ≡ append_defs (defs_listed xs) (defs_listed ys)
listed_append [] ys = refl
listed_append (x ∷ xs) ys = ap (one_def (define no_names (node_of x))) (listed_append xs ys)

-- ---- as far as a component was read

abbrev pub LeftRuns : Option SectionKind → List Run → Place → Type 0
LeftRuns last es cur = (fs : List Run) × RunsFit last fs × ((k : ℕ) → RunsWithin es k → RunsWithin fs k) × (run_sections fs ≡ rest cur)

pub record RunsSoFar (left : ℕ) (start cur : Place) (last : Option SectionKind) (got : List tree.Node) : Type 0 where
  pub runs : List Run
  pub fits : RunsFit None runs
  pub ended : last ≡ last_of None runs
  pub near : RunsWithin runs left
  pub taken : Takes start cur (run_sections runs)
  pub same : defs_listed got ≡ run_defs runs
  pub others : (es : List Run) → RunsFit None es → run_sections es ≡ rest start → LeftRuns last es cur

pub no_runs : (left : ℕ) (start : Place) → RunsSoFar left start start None []
no_runs left start = record { runs = []; fits = tt; ended = refl; near = tt; taken = takes_none start; same = refl; others = λ es f e. (es, f, (λ k w. w), e) }

abbrev RunRead : Option SectionKind → ℕ → Place → Place → Run → Type 0
RunRead last left cur new q = RunFits last q × WithinNodes q.rows left × Takes cur new (run_bytes q)

pub one_more_run : (left : ℕ) (start cur new : Place) (last : Option SectionKind) (got all rows : List tree.Node) (t : SectionKind) → all ≡ got ++ rows → RunsSoFar left start cur last got → RunRead last left cur new (run t (nodes_listed rows)) → RunsSoFar left start new (Some t) all
one_more_run left start cur new last got all rows t e s v =
    let q = run t (nodes_listed rows) in
    let made : RunsSoFar left start new (Some t) (got ++ rows) = record {
      runs = s.runs ++ q ∷ [];
      fits = one_more_fits None s.runs q s.fits (subst (λ o. RunFits o q) s.ended v.0);
      ended = sym (one_more_last None s.runs q);
      near = one_more_within s.runs q left s.near v.1;
      taken = subst (λ z. Takes start new z) (sym (one_more_bytes s.runs q)) (takes_two start cur new (run_sections s.runs) (run_bytes q) s.taken v.2);
      same = listed_append got rows ∙ ap (λ ds. append_defs ds (defs_listed rows)) s.same ∙ ap (append_defs (run_defs s.runs)) (listed_before rows) ∙ sym (one_more_defs s.runs q);
      others = λ es f k. further q v es (s.others es f k);
    } in
    subst (RunsSoFar left start new (Some t)) (sym e) made
  where
    further : (q : Run) → RunRead last left cur new q → (es : List Run) → LeftRuns last es cur → LeftRuns (Some q.section) es new
    further q v es ([], fits, near, spelled) = let g : run_bytes q ++ rest new ≡ [] = sym (spelled ∙ v.2.taken) in cc
    further q v es (p ∷ ps, fits, near, spelled) =
        let heads = cons_is _ _ _ _ (spelled ∙ v.2.taken) in
        let behind = framed_ends (body_bytes p.section p.rows) (body_bytes q.section q.rows) (run_sections ps) (rest new) heads.1 in
        let section : p.section ≡ q.section = number_is p.section q.section heads.0 in
        (ps, subst (λ o. RunsFit (Some o) ps) section fits.1, (λ k w. (near k w).1), behind.1)

-- a component that fills the bytes, by its runs
abbrev pub ComponentRefused : ℕ → List ℕ → Stop → Type 0
ComponentRefused left bytes e = (b : m.Scope) → FitsSections b → Allows e (WithinScope b left) → spell_component b ≡ bytes → ⊥

pub no_preamble : (left : ℕ) (bytes : List ℕ) (e : Stop) → ((ys : List ℕ) → preamble ++ ys ≡ bytes → ⊥) → ComponentRefused left bytes e
no_preamble left bytes e n (m.scope_of k i x ds) h a q = n (sections (groups (items_of ds))) q

append_cancel : (xs ys zs : List ℕ) → xs ++ ys ≡ xs ++ zs → ys ≡ zs
append_cancel [] ys zs e = e
append_cancel (x ∷ xs) ys zs e = append_cancel xs ys zs (let g : xs ++ ys ≡ xs ++ zs = cc in g)

pub run_refused : (left : ℕ) (old start cur : Place) (last : Option SectionKind) (got : List tree.Node) (e : Stop) → Takes old start preamble → RunsSoFar left start cur last got → (length (rest cur) ≡ 0 → ⊥) → Refused (RunFits last) (λ q. WithinNodes q.rows left) run_bytes (rest cur) e → ComponentRefused left (rest old) e
run_refused left old start cur last got e p s z u (m.scope_of k i x ds) h a q =
    let cut = cut_defs ds h.3 h.4 in
    let bytes = append_cancel preamble (sections (groups (items_of ds))) (rest start) (q ∙ p.taken) in
    here cut.0 cut.3 (s.others cut.0 cut.1 (ap sections (sym cut.2) ∙ bytes))
  where
    here : (es : List Run) → ((n : ℕ) → WithinDefs ds n → RunsWithin es n) → LeftRuns last es cur → ⊥
    here es w ([], fits, near, spelled) = z (ap length (sym spelled))
    here es w (r ∷ rs, fits, near, spelled) = u r (run_sections rs) fits.0 (allowed e _ _ (λ v. (near left (w left v)).0) a) spelled

pub component_read : (left : ℕ) (old start cur : Place) (last : Option SectionKind) (got : List tree.Node) → Takes old start preamble → RunsSoFar left start cur last got → length (rest cur) ≡ 0
    → FitsSections (m.scope_of kinds.Component None None (defs_listed got)) × WithinScope (m.scope_of kinds.Component None None (defs_listed got)) left × (spell_component (m.scope_of kinds.Component None None (defs_listed got)) ≡ rest old)
component_read left old start cur last got p s z =
    let ds = run_defs s.runs in
    let grouped = runs_grouped None s.runs s.fits in
    let is : ds ≡ defs_listed got = sym s.same in
    let ends : rest cur ≡ [] = empty (rest cur) z in
    let bytes : preamble ++ sections (groups (items_of ds)) ≡ rest old =
    ap (λ gs. preamble ++ sections gs) grouped ∙ ap (λ z. preamble ++ z) (sym (append-nil (run_sections s.runs)) ∙ ap (λ z. run_sections s.runs ++ z) (sym ends) ∙ sym s.taken.taken) ∙ sym p.taken in
    subst (λ ds. FitsSections (m.scope_of kinds.Component None None ds) × WithinScope (m.scope_of kinds.Component None None ds) left × (spell_component (m.scope_of kinds.Component None None ds) ≡ rest old)) is
    ((refl, refl, refl, runs_defs_fit None s.runs s.fits, subst EachShort (sym grouped) (runs_short None s.runs s.fits)), runs_defs_within s.runs left s.near, bytes)
  where
    empty : (xs : List ℕ) → length xs ≡ 0 → xs ≡ []
    empty [] e = refl
    empty (x ∷ xs) e = absurd (omega (arith, e))
