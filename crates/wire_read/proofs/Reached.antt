-- The offset of a scope that is too deep, from the inside out: what stands in front of the part that holds it is put in front of the way.
use Rattle.std.proofs.Common.{◌≡◌, ℕ, suc, ◌+◌, ◌-◌, ◌≤◌, List, [], ◌∷◌, ◌++◌, length, length-append, length-take, take, drop, refl, sym, ◌∙◌, ap, subst, arith, append_assoc}
use Rattle.comp_model.specs.Leb.{uleb}
use Rattle.comp_model.specs.Model.{Nodes, no_node, one_node}
use Rattle.comp_model.specs.declared.row.ScopeKind.{ScopeKind}
use Rattle.comp_model.specs.declared.row.ScopeKind.TheVariants as kinds
use Rattle.comp_wire.specs.Table.{Family, starts}
use Rattle.comp_wire.specs.declared.sections.SectionKind.TheVariants as section_kinds
use Rattle.comp_wire.specs.declared.sections.SectionKind.{SectionKind}
use Rattle.comp_wire.specs.Sections.{section_number, rows_of, groups, sections, preamble, Word}
use Rattle.comp_wire.specs.Spelled.{spell_node, spell_nodes, FitsNodes, items_of, declarations_of}
use Rattle.wire_tree.specs.Lists.{nodes_listed}
use Rattle.wire_tree.specs.declared.tree.Node as tree
use Rattle.wire_read.specs.Place.{Place, rest, Takes}
use Rattle.wire_read.specs.Reading.{Read}
use Rattle.wire_read.specs.Stops.{stop_of, At}
use Rattle.wire_read.specs.declared.stop.Fault.{Fault}
use Rattle.wire_read.specs.declared.stop.Fault.TheVariants as fault
use Rattle.wire_read.specs.Depth.{TypeBytes, whole_section, in_row, IsType, in_component, in_type, Reaches, itself, further, BeginsInside}
use Rattle.wire_read.specs.Deep.{Ahead, ScopeDeep, RowsDeep, BodyDeep, SectionDeep, ComponentDeep}
use Rattle.wire_read.specs.Bodies.{CountedDeep}
use Rattle.wire_read.specs.declared.stop.Stop.{Stop}
use Rattle.wire_read.specs.declared.stop.Stop.TheVariants as stop
use Rattle.wire_read.proofs.Places.{take_split}
use Rattle.wire_read.proofs.RowLoops.{SoFar}
use Rattle.wire_read.proofs.Components.{RunsSoFar, run_sections}
use Rattle.wire_read.proofs.RunLaws.{runs_grouped, runs_defs_fit}
use Rattle.wire_read.proofs.SectionReads.{within}
use Rattle.wire_read.specs.Runs.{run_defs}

pub at_other : (e : Stop) (P Q : ℕ → Type 0) → ((at : ℕ) → P at → Q at) → At e P → At e Q
at_other (stop.Deep at) P Q f a = f at a
at_other stop.Memory P Q f a = a
at_other stop.Misread P Q f a = a

pub fault_at : (e : Fault) (P : ℕ → Type 0) → At (stop_of e) P
fault_at fault.Memory P = tt
fault_at fault.Misread P = tt

-- ---- bytes in front of an offset

pub ahead_here : (p : Place) → Ahead p p.at []
ahead_here p = record { same = omega arith; behind = rest p; there = refl }

ahead_behind : (p q : Place) (bs front : List ℕ) (at : ℕ) → Takes p q bs → Ahead q at front → Ahead p at (bs ++ front)
ahead_behind p q bs front at t a =
    let moved : q.at ≡ p.at + length bs = ap (λ i. i.at) t.same in
    record {
      same = omega (arith, a.same, moved, length-append bs front);
      behind = a.behind;
      there = append_assoc bs front a.behind ∙ ap (λ z. bs ++ z) a.there ∙ sym t.taken;
    }

ahead_is : (p : Place) (at : ℕ) (xs ys : List ℕ) → xs ≡ ys → Ahead p at xs → Ahead p at ys
ahead_is p at xs ys e a = subst (Ahead p at) e a

-- the bytes up to a nearer end are the first of those up to the end
ahead_within : (m body : Place) (n at : ℕ) (front : List ℕ) → body ≡ within m n → n ≤ length (rest m) → Ahead body at front → Ahead m at front
ahead_within m body n at front w l a =
    let b = subst (λ q. Ahead q at front) w a in
    let d = drop m.at m.bytes in
    let few : m.at + n - m.at ≡ n = omega arith in
    let first : rest (within m n) ≡ take n d = ap (λ k. take k d) few in
    let whole : rest m ≡ take n d ++ take (m.end - m.at - n) (drop n d) = take_split (m.end - m.at) n d (omega (arith, length-take (m.end - m.at) d, l)) in
    record {
      same = b.same;
      behind = b.behind ++ take (m.end - m.at - n) (drop n d);
      there = sym (append_assoc front b.behind (take (m.end - m.at - n) (drop n d))) ∙ ap (λ z. z ++ take (m.end - m.at - n) (drop n d)) (b.there ∙ first) ∙ sym whole;
    }

-- ---- from the inside out

pub scope_here : (k : ScopeKind) (left : ℕ) (p : Place) → left ≡ 0 → ScopeDeep k left p p.at
scope_here k left p e = subst (λ n. ScopeDeep k n p p.at) (sym e) (record { front = []; reached = itself k; there = ahead_here p })

pub row_reached : (f : Family) (k : ScopeKind) (left : ℕ) (old mid : Place) (lead : List ℕ) → TypeBytes f k lead → Takes old mid lead → (at : ℕ) → ScopeDeep k left mid at → RowsDeep f left old at
row_reached f k left old mid lead b t at d =
    record { before = no_node; kind = k; lead = lead; more = d.front; fit = tt; opens = b; reached = d.reached; there = ahead_behind old mid lead d.front at t d.there }

append_nodes : Nodes → Nodes → Nodes
append_nodes no_node ks = ks
append_nodes (one_node n ns) ks = one_node n (append_nodes ns ks)

appended_fit : (ns ks : Nodes) (f : Family) → FitsNodes ns f → FitsNodes ks f → FitsNodes (append_nodes ns ks) f
unfolding append_nodes
appended_fit no_node ks f h k = k
appended_fit (one_node n ns) ks f h k = (h.0, appended_fit ns ks f h.1 k)

appended_spelled : (ns ks : Nodes) (f : Family) → spell_nodes (append_nodes ns ks) f ≡ spell_nodes ns f ++ spell_nodes ks f
unfolding append_nodes
appended_spelled no_node ks f = refl
appended_spelled (one_node n ns) ks f =
    ap (λ z. spell_node n f ++ z) (appended_spelled ns ks f) ∙ sym (append_assoc (spell_node n f) (spell_nodes ns f) (spell_nodes ks f))

pub rows_reached : (f : Family) (left n i : ℕ) (old cur : Place) (got : List tree.Node) → SoFar f left n i old cur got → (at : ℕ) → RowsDeep f left cur at → RowsDeep f left old at
rows_reached f left n i old cur got s at d =
    let ns = nodes_listed got in
    let way = ahead_behind old cur (spell_nodes ns f) (spell_nodes d.before f ++ (d.lead ++ d.more)) at s.taken d.there in
    let same = sym (append_assoc (spell_nodes ns f) (spell_nodes d.before f) (d.lead ++ d.more)) ∙ ap (λ z. z ++ (d.lead ++ d.more)) (sym (appended_spelled ns d.before f)) in
    record {
      before = append_nodes ns d.before;
      kind = d.kind;
      lead = d.lead;
      more = d.more;
      fit = appended_fit ns d.before f s.fits d.fit;
      opens = d.opens;
      reached = d.reached;
      there = ahead_is old at _ _ same way;
    }

pub scope_reached : (k : ScopeKind) (left n : ℕ) (old mid : Place) → IsType k → (left ≡ 0 → ⊥) → Read Word uleb old mid n → (at : ℕ) → RowsDeep (declarations_of k) (left - 1) mid at → ScopeDeep k left old at
scope_reached k left n old mid t z c at d =
    let f = declarations_of k in
    let bytes = spell_nodes d.before f in
    let front = uleb n ++ (bytes ++ d.lead) in
    let more : suc (left - 1) ≡ left = omega (arith, z) in
    let way = ahead_behind old mid (uleb n) (bytes ++ (d.lead ++ d.more)) at c.1 d.there in
    let same : uleb n ++ (bytes ++ (d.lead ++ d.more)) ≡ front ++ d.more =
    ap (λ z. uleb n ++ z) (sym (append_assoc bytes d.lead d.more)) ∙ sym (append_assoc (uleb n) (bytes ++ d.lead) d.more) in
    subst (λ i. ScopeDeep k i old at) more
    (record { front = front ++ d.more; reached = further k d.kind (left - 1) front d.more (in_type k d.kind n d.before d.lead t c.0 d.fit d.opens) d.reached; there = ahead_is old at _ _ same way })

-- ---- sections

pub counted_reached : (f : Family) (left n : ℕ) (old mid : Place) → Read Word uleb old mid n → (at : ℕ) → RowsDeep f left mid at → CountedDeep f left old at
counted_reached f left n old mid c at d = record { count = n; behind = mid; read = c; deep = d }

pub body_reached : (s : SectionKind) (f : Family) (left : ℕ) (old : Place) → f ≡ rows_of s → (at : ℕ) → CountedDeep f left old at → BodyDeep s left old at
body_reached s f left old e at c =
    let d = subst (λ g. RowsDeep g left c.behind at) e c.deep in
    let bytes = spell_nodes d.before (rows_of s) in
    let front = uleb c.count ++ (bytes ++ d.lead) in
    let way = ahead_behind old c.behind (uleb c.count) (bytes ++ (d.lead ++ d.more)) at c.read.1 d.there in
    let same : uleb c.count ++ (bytes ++ (d.lead ++ d.more)) ≡ front ++ d.more =
    ap (λ z. uleb c.count ++ z) (sym (append_assoc bytes d.lead d.more)) ∙ sym (append_assoc (uleb c.count) (bytes ++ d.lead) d.more) in
    record { kind = d.kind; front = front; more = d.more; opens = in_row s d.kind c.count d.before d.lead c.read.0 d.fit d.opens; reached = d.reached; there = ahead_is old at _ _ same way }

-- no scope stands in a start function
no_start : (k : ScopeKind) (lead : List ℕ) → TypeBytes starts k lead → ⊥
no_start k lead b = elim b [ ]

pub start_reached : (left : ℕ) (old : Place) (at : ℕ) → RowsDeep starts left old at → BodyDeep section_kinds.Start left old at
start_reached left old at d = absurd (no_start d.kind d.lead d.opens)

pub nested_reached : (left : ℕ) (old : Place) → (left ≡ 0 → ⊥) → (at : ℕ) → ComponentDeep (left - 1) old at → BodyDeep section_kinds.Component left old at
nested_reached left old z at d =
    let more : suc (left - 1) ≡ left = omega (arith, z) in
    record { kind = kinds.Component; front = []; more = d.front; opens = whole_section; reached = subst (λ i. Reaches kinds.Component i d.front) more d.reached; there = d.there }

pub nested_here : (left : ℕ) (old : Place) → left ≡ 0 → BodyDeep section_kinds.Component left old old.at
nested_here left old z =
    record { kind = kinds.Component; front = []; more = []; opens = whole_section; reached = subst (λ i. Reaches kinds.Component i []) (sym z) (itself kinds.Component); there = ahead_here old }

pub section_reached : (left number n : ℕ) (s : SectionKind) (old m1 m2 body : Place) → Takes old m1 (number ∷ []) → section_number s ≡ number → Read Word uleb m1 m2 n → n ≤ length (rest m2) → body ≡ within m2 n → (at : ℕ) → BodyDeep s left body at → SectionDeep left old at
section_reached left number n s old m1 m2 body a e c l w at d =
    let inner = ahead_within m2 body n at (d.front ++ d.more) w l d.there in
    let first : Takes old m1 (section_number s ∷ []) = subst (λ i. Takes old m1 (i ∷ [])) (sym e) a in
    record {
      section = s;
      kind = d.kind;
      length = n;
      front = d.front;
      more = d.more;
      short = c.0;
      opens = d.opens;
      reached = d.reached;
      there = ahead_behind old m1 (section_number s ∷ []) (uleb n ++ (d.front ++ d.more)) at first (ahead_behind m1 m2 (uleb n) (d.front ++ d.more) at c.1 inner);
    }

pub component_reached : (left : ℕ) (old start cur : Place) (last : _) (got : List tree.Node) → Takes old start preamble → RunsSoFar left start cur last got → (at : ℕ) → SectionDeep left cur at → ComponentDeep left old at
component_reached left old start cur last got p s at d =
    let ds = run_defs s.runs in
    let whole = sections (groups (items_of ds)) in
    let inner = section_number d.section ∷ (uleb d.length ++ d.front) in
    let front = preamble ++ (whole ++ inner) in
    let grouped : run_sections s.runs ≡ whole = ap sections (sym (runs_grouped _ s.runs s.fits)) in
    let taken : Takes start cur whole = subst (λ z. Takes start cur z) grouped s.taken in
    let tail = section_number d.section ∷ (uleb d.length ++ (d.front ++ d.more)) in
    let way = ahead_behind old start preamble (whole ++ tail) at p (ahead_behind start cur whole tail at taken d.there) in
    let same_tail : tail ≡ inner ++ d.more = ap (λ z. section_number d.section ∷ z) (sym (append_assoc (uleb d.length) d.front d.more)) in
    let same : preamble ++ (whole ++ tail) ≡ front ++ d.more =
    ap (λ z. preamble ++ z) (ap (λ z. whole ++ z) same_tail ∙ sym (append_assoc whole inner d.more)) ∙ sym (append_assoc preamble (whole ++ inner) d.more) in
    record {
      front = front ++ d.more;
      reached = further kinds.Component d.kind left front d.more (in_component ds d.section d.kind d.length d.front (runs_defs_fit _ s.runs s.fits) d.short d.opens) d.reached;
      there = ahead_is old at _ _ same way;
    }

-- ---- all bytes

taken_front : (front behind : List ℕ) → take (length front) (front ++ behind) ≡ front
taken_front [] behind = refl
taken_front (x ∷ xs) behind = ap (λ z. x ∷ z) (taken_front xs behind)

pub begins_there : (bytes : List ℕ) (p : Place) (at : ℕ) → p.at ≡ 0 → rest p ≡ bytes → ComponentDeep 99 p at → BeginsInside 100 bytes at
begins_there bytes p at z w d =
    let far : at ≡ length d.front = omega (arith, d.there.same, z) in
    let whole : d.front ++ d.there.behind ≡ bytes = d.there.there ∙ w in
    let long : length bytes ≡ length d.front + length d.there.behind = ap length (sym whole) ∙ length-append d.front d.there.behind in
    let first : take at bytes ≡ d.front = ap (λ n. take n bytes) far ∙ ap (take (length d.front)) (sym whole) ∙ taken_front d.front d.there.behind in
    record { within = omega (arith, far, long); reached = subst (Reaches kinds.Component 100) (sym first) d.reached }
