-- The sections of a component while they are measured, from the last one to the first.
use Rattle.std.proofs.Common.{◌≡◌, ◌≢◌, ℕ, ◌+◌, ◌-◌, ◌^◌, ◌<◌, ◌≤◌, List, [], ◌∷◌, ◌++◌, length, length-append, append-nil, get_or, drop, drop_of_length-le, le_refl, min, refl, sym, ◌∙◌, ap, arith, subst, Bool, true, false, ◌&&◌, cond, codes, Option, Some, None, inl, inr, option_map}
use Rattle.std.specs.Prelude.{◌==◌, MatchOption}
use Rattle.std.proofs.lemmas.Bool.{cases_lt, ltb-true, lt-ltb, le-ltb, ne_eqb, false_from_ne_true}
use Rattle.std.proofs.Math.Bool.{and_assoc, and-true}
use Rattle.comp_model.specs.Binary.{IsBinary}
use Rattle.comp_model.specs.Core as core
use Rattle.comp_model.specs.CoreModules.{CoreModule}
use Rattle.comp_model.specs.Covered.{first_uncovered}
use Rattle.comp_model.specs.Leb.{leb, uleb}
use Rattle.comp_model.specs.Model as m
use Rattle.comp_model.specs.declared.row.ScopeKind.TheVariants as kinds
use Rattle.comp_model.specs.Model.{Leaves, no_leaf, defs_of, kind_of}
use Rattle.comp_model.specs.Payloads.{joined, framed, name_of_section, producers_payload}
use Rattle.comp_model.specs.Rows.{FitsRows}
use Rattle.comp_model.specs.declared.row.Row.TheVariants as rows
use Rattle.comp_model.specs.declared.row.Row.{Row}
use Rattle.comp_model.specs.RowNumbers.{same_row}
use Rattle.comp_scopes.specs.Form.{coded_node, custom_node}
use Rattle.comp_scopes.specs.Resolved.{binary_of, binary_of_leaf, binary_of_defs}
use Rattle.comp_wire.specs.Fits.{is_word, each_short, item_fits, definitions_fit, leaf_fits, leaf_tests, test_at, node_fits, fits, code_of_kind}
use Rattle.comp_wire.specs.NameSection.{section_of_payload}
use Rattle.comp_wire.specs.declared.sections.SectionKind.TheVariants as section_kinds
use Rattle.comp_wire.specs.Sections.{is_counted, shares, Item, Group, group, groups, in_front, body, sections, preamble}
use Rattle.comp_wire.specs.Short.{is_short}
use Rattle.comp_wire.specs.Spelled.{item_of_node, items_of, spell_component, spell_leaf, spell_node, FitsNode}
use Rattle.comp_wire.specs.Table.{whole_component}
use Rattle.comp_wire.proofs.Component.{payload_items}
use Rattle.comp_wire.proofs.Fit.{sections_fit}
use Rattle.comp_wire.proofs.FitsTest.{exact, item_all}
use Rattle.comp_wire.proofs.RowsFit.{rows_fit}
use Rattle.comp_wire.proofs.Groups.{and_both}
use Rattle.comp_wire.proofs.Lists.{dropped}
use Rattle.comp_tree.specs.Lists.{listed, defs_listed}
use Rattle.comp_tree.specs.Model.{leaf_of, scope_of}
use Rattle.comp_tree.specs.declared.tree.Def.{Def}
use Rattle.comp_tree.specs.declared.tree.Leaf.{Leaf}
use Rattle.comp_tree.specs.declared.tree.Leaf as tree
use Rattle.comp_tree.specs.declared.tree.Scope.{Scope}
use Rattle.comp_tree.specs.declared.tree.Scope as sc
use Rattle.comp_tree.proofs.Leaves.{scope_kind}
use Rattle.byte_table.specs.Lines.{family_of}
use Rattle.byte_table.specs.SectionKinds.{coded_section, line_rows}
use Rattle.byte_table.specs.declared.line.Family.{Family}
use Rattle.comp_wire.specs.declared.sections.SectionKind.{SectionKind}
use Rattle.tree_write.specs.Along.{is_filled}
use Rattle.tree_write.specs.Kept.{counted, full, put, count_kept}
use Rattle.tree_write.specs.Measured.{Counts, IsSize, items_fit, IsOpenSection, IsMeasured, AreMeasured, TakesMore}
use Rattle.tree_write.specs.OpenSection.{count_bytes, joins}
use Rattle.tree_write.specs.Plans.{scope_leaf}
use Rattle.tree_write.specs.Wire.{the_encoding, wire_leaf, wire_leaves, wire_node_of_def, wire_items, wire_scope, payload_of}
use Rattle.tree_write.specs.declared.short.Measured.{Measured}
use Rattle.tree_write.specs.declared.short.Sections.{Sections}
use Rattle.tree_write.proofs.Components.{producers_item, plain_item, rows_here, lined_item, lined_fits, no_scope_held, component_spelled}
use Rattle.tree_write.proofs.Encoded.{count_of_bytes}
use Rattle.tree_write.proofs.Puts.{room_counted}
use Rattle.tree_write.proofs.Scopes.{scope_defs, items_behind}

-- ---- counts

-- what a count that took bytes alone says
pub counts : (n : ℕ) (xs : List ℕ) → n < 2 ^ 64 → count_kept n ≡ put xs (count_kept 0) → Counts n xs
counts n xs w e = elim (cases_lt n 18_446_744_073_709_551_615) [
  | inl h ↦ let k = count_of_bytes n xs h e in omega (arith, k, h)
  | inr h ↦ elim (cases_lt 18_446_744_073_709_551_614 (length xs)) [
    | inl more ↦ omega (arith, w, h, more)
    | inr less ↦
        let none : count_kept n ≡ full = rw (le-ltb n 18_446_744_073_709_551_615 h) refl in
        let some = room_counted 18_446_744_073_709_551_614 0 xs less in
        let no : full ≡ counted (18_446_744_073_709_551_614 - length xs) (length xs + 0) = sym none ∙ e ∙ some in
        cc
  ]
]

-- of fewer than 2 ^ 32 bytes it is their number
pub short_count : (n : ℕ) (xs : List ℕ) → n < 2 ^ 64 → length xs < 2 ^ 32 → count_kept n ≡ put xs (count_kept 0) → n ≡ length xs
short_count n xs w h e = let k = counts n xs w e in omega (arith, h, k)

-- a capped number is below 2 ^ 32 where the number is
word_of : (n k : ℕ) → n ≡ min k (2 ^ 64 - 1) → is_word n ≡ is_word k
word_of n k e = elim (cases_lt k (2 ^ 32)) [
  | inl h ↦ lt-ltb n (2 ^ 32) (omega (arith, e, h)) ∙ sym (lt-ltb k (2 ^ 32) h)
  | inr h ↦ le-ltb n (2 ^ 32) (omega (arith, e, h)) ∙ sym (le-ltb k (2 ^ 32) h)
]

and_false : (a : Bool) → (a && false) ≡ false
and_false true = refl
and_false false = refl

-- ---- the section in front, closed

long_body : (s : SectionKind) (n : ℕ) (xs : List (List ℕ)) → n ≡ length xs → length (body (group s xs)) ≡ length (count_bytes s n) + length (joined xs)
long_body s n xs e = go (is_counted s)
  where
    go : (b : Bool) → length (cond b (uleb (length xs) ++ joined xs) (joined xs)) ≡ length (cond b (uleb n) []) + length (joined xs)
    go true = length-append (uleb (length xs)) (joined xs) ∙ ap (λ k. length (uleb k) + length (joined xs)) (sym e)
    go false = omega arith

-- what a body is where it is short
short_body : (s : SectionKind) (count bytes size : ℕ) (xs : List (List ℕ)) → count ≡ min (length xs) (2 ^ 64 - 1) → Counts bytes (joined xs) → size ≡ min (length (count_bytes s count) + bytes) (2 ^ 64 - 1)
    → (is_word count && is_word size) ≡ (is_word (length xs) && is_word (length (body (group s xs))))
short_body s count bytes size xs c b e = elim (cases_lt (length xs) (2 ^ 64 - 1)) [
  | inl h ↦
      let exact : count ≡ length xs = omega (arith, c, h) in
      let long = long_body s count xs exact in
      let same : size ≡ min (length (body (group s xs))) (2 ^ 64 - 1) = omega (arith, e, b, long) in
      ap (λ p. p && is_word size) (word_of count (length xs) c) ∙ ap (λ p. is_word (length xs) && p) (word_of size (length (body (group s xs))) same)
  | inr h ↦
      let few : is_word count ≡ false = le-ltb count (2 ^ 32) (omega (arith, c, h)) in
      let many : is_word (length xs) ≡ false = le-ltb (length xs) (2 ^ 32) (omega (arith, h)) in
      ap (λ p. p && is_word size) few ∙ sym (ap (λ p. p && is_word (length (body (group s xs)))) many)
]

-- how long it is then, with those behind it
closed_size : (s : SectionKind) (count bytes behind size one all : ℕ) (xs : List (List ℕ)) (gs : List Group) → count ≡ min (length xs) (2 ^ 64 - 1) → Counts bytes (joined xs) → Counts behind (sections gs) → size ≡ min (length (count_bytes s count) + bytes) (2 ^ 64 - 1)
    → is_word count ≡ true → is_word size ≡ true → one ≡ min (length (uleb size) + size) (2 ^ 64 - 1) → all ≡ min (min (one + 1) (2 ^ 64 - 1) + behind) (2 ^ 64 - 1) → Counts all (sections (group s xs ∷ gs))
closed_size s count bytes behind size one all xs gs c b d e p q o a =
    let few = ltb-true count (2 ^ 32) p in
    let short = ltb-true size (2 ^ 32) q in
    let exact : count ≡ length xs = omega (arith, c, few) in
    let long = long_body s count xs exact in
    let same : size ≡ length (body (group s xs)) = omega (arith, e, b, long, short) in
    let k = ap (λ n. length (uleb n)) same in
    let x = length-append (uleb (length (body (group s xs)))) (body (group s xs)) in
    let y = length-append (framed (body (group s xs))) (sections gs) in
    omega (arith, same, k, x, y, o, a, d)

all_closed : (f fit p q r w : Bool) → f ≡ (fit && r) → (f ≡ true → (p && q) ≡ w) → (f && (p && q)) ≡ (fit && (w && r))
all_closed f true p q true w e h = ap (λ x. x && (p && q)) e ∙ h e ∙ sym (and-true w)
all_closed f true p q false w e h = ap (λ x. x && (p && q)) e ∙ sym (and_false w)
all_closed f false p q r w e h = ap (λ x. x && (p && q)) e

each_of : (g : Group) (gs : List Group) → each_short (g ∷ gs) ≡ ((is_word (length g.items) && is_word (length (body g))) && each_short gs)
each_of g gs = sym (and_assoc (is_word (length g.items)) (is_word (length (body g))) (each_short gs))

pub none_open : (front : Measured) (s : Sections) (items : List Item) (fit : Bool) → front.running ≡ None → s.fits ≡ front.fits → s.bytes ≡ 0 → IsMeasured front items fit → AreMeasured s items fit
none_open front s items fit r f b h =
    let o = subst (λ x. IsOpenSection x front.count front.bytes front.behind front.fits items fit) r h in
    (f ∙ o.1 ∙ sym (and-true fit) ∙ ap (λ gs. fit && each_short gs) (sym o.0), λ t. (let e = ap (λ gs. length (sections gs)) o.0 in omega (arith, b, e)))

pub one_open : (front : Measured) (k : SectionKind) (s : Sections) (items : List Item) (fit a b : Bool) (size one led : ℕ) → front.running ≡ Some k → size ≡ min (length (count_bytes k front.count) + front.bytes) (2 ^ 64 - 1)
    → one ≡ min (length (uleb size) + size) (2 ^ 64 - 1) → a ≡ is_word front.count → b ≡ is_word size → s.fits ≡ (front.fits && (a && b)) → led ≡ min (one + 1) (2 ^ 64 - 1) → s.bytes ≡ min (led + front.behind) (2 ^ 64 - 1)
    → IsMeasured front items fit → AreMeasured s items fit
one_open front k s items fit a b size one led r e o p q f w n h =
    let x = subst (λ x. IsOpenSection x front.count front.bytes front.behind front.fits items fit) r h in
    let kind = k in
    let g = group kind x.0 in
    let count = x.4 in
    let sizes = x.5 in
    let is : s.fits ≡ (front.fits && (is_word front.count && is_word size)) = f ∙ ap (λ y. front.fits && (y && b)) p ∙ ap (λ y. front.fits && (is_word front.count && y)) q in
    let fits = is
    ∙ all_closed front.fits fit (is_word front.count) (is_word size) (each_short x.1) (is_word (length x.0) && is_word (length (body g))) x.3 (λ t. short_body kind front.count front.bytes size x.0 count (sizes t).0 e)
    ∙ ap (λ y. fit && y) (sym (each_of g x.1)) ∙ ap (λ gs. fit && each_short gs) (sym x.2) in (
      fits,
      λ t.
          let u = and_both front.fits _ (sym is ∙ t) in
          let v = and_both (is_word front.count) _ u.1 in
          let w = closed_size kind front.count front.bytes front.behind size one s.bytes x.0 x.1 count (sizes u.0).0 (sizes u.0).1 e v.0 v.1 o (omega (arith, w, n)) in
          subst (λ gs. Counts s.bytes (sections gs)) (sym x.2) w,
    )

-- ---- one more item

pub goes_on : (front : Measured) (k : SectionKind) (items : List Item) (fit : Bool) → joins front.running k ≡ true → IsMeasured front items fit → TakesMore front k items fit
goes_on front k items fit j h = go front.running refl j h
  where
    go : (r : Option SectionKind) → front.running ≡ r → joins r k ≡ true → IsOpenSection r front.count front.bytes front.behind front.fits items fit → TakesMore front k items fit
    go None e j o = cc
    go (Some l) e j o =
        record {
          running = l;
          bodies = o.0;
          closed = o.1;
          is_running = e;
          next = λ i t. ap (in_front i) o.2 ∙ ap (λ b. cond b (group l (i.content ∷ o.0) ∷ o.1) (group i.section (i.content ∷ []) ∷ group l o.0 ∷ o.1)) (ap (λ s. shares s l) t ∙ j);
          fits = o.3;
          count = o.4;
          sizes = o.5;
        }

begins : (running : Option SectionKind) (count bytes behind : ℕ) (f fit : Bool) (items : List Item) (k : SectionKind) → joins running k ≡ false → IsOpenSection running count bytes behind f items fit
    → (i : Item) → i.section ≡ k → groups (i ∷ items) ≡ group k (i.content ∷ []) ∷ groups items
begins None count bytes behind f fit items k n o i e = ap (in_front i) o.0 ∙ ap (λ t. group t (i.content ∷ []) ∷ []) e ∙ ap (λ gs. group k (i.content ∷ []) ∷ gs) (sym o.0)
begins (Some l) count bytes behind f fit items k n o i e =
    ap (in_front i) o.2
    ∙ ap (λ b. cond b (group l (i.content ∷ o.0) ∷ o.1) (group i.section (i.content ∷ []) ∷ group l o.0 ∷ o.1)) (ap (λ s. shares s l) e ∙ n)
    ∙ ap (λ gs. group i.section (i.content ∷ []) ∷ gs) (sym o.2) ∙ ap (λ t. group t (i.content ∷ []) ∷ groups items) e

pub begins_one : (front new : Measured) (s : Sections) (k : SectionKind) (items : List Item) (fit : Bool) → joins front.running k ≡ false → IsMeasured front items fit → AreMeasured s items fit
    → new.running ≡ Some k → new.count ≡ 0 → new.bytes ≡ 0 → new.behind ≡ s.bytes → new.fits ≡ s.fits → TakesMore new k items fit
begins_one front new s k items fit j h a r c b d f = record {
  running = k;
  bodies = [];
  closed = groups items;
  is_running = r;
  next = begins front.running front.count front.bytes front.behind front.fits fit items k j h;
  fits = f ∙ a.0;
  count = omega (arith, c);
  sizes = λ t. (omega (arith, b), (let e = a.1 (sym f ∙ t) in omega (arith, d, e)));
}

more_fits : (one fit r : Bool) → one ≡ true → (fit && r) ≡ ((one && fit) && r)
more_fits one fit r e = sym (ap (λ x. (x && fit) && r) e)

-- where it can be written
pub with_some : (opened new : Measured) (k : SectionKind) (items : List Item) (fit one : Bool) (i : Item) (size : Option ℕ) (n : ℕ) → TakesMore opened k items fit → i.section ≡ k → size ≡ Some n → IsSize size i.content one
    → new.running ≡ opened.running → new.count ≡ min (opened.count + 1) (2 ^ 64 - 1) → new.bytes ≡ min (opened.bytes + n) (2 ^ 64 - 1) → new.behind ≡ opened.behind → new.fits ≡ opened.fits → IsMeasured new (i ∷ items) (one && fit)
with_some opened new k items fit one i size n t e z s r c b d f =
    let is : (one ≡ true) × Counts n i.content = subst (λ x. IsSize x i.content one) z s in
    let long = length-append i.content (joined t.bodies) in
    subst (λ x. IsOpenSection x new.count new.bytes new.behind new.fits (i ∷ items) (one && fit)) (sym (r ∙ t.is_running)) (
      i.content ∷ t.bodies,
      t.closed,
      t.next i e,
      f ∙ t.fits ∙ more_fits one fit (each_short t.closed) is.0,
      (let x = t.count in omega (arith, c, x)),
      λ q. (let y = t.sizes (sym f ∙ q) in ((let y0 = y.0 in let i1 = is.1 in omega (arith, b, y0, i1, long)), (let y1 = y.1 in omega (arith, d, y1)))),
    )

-- where it can't
pub with_none : (opened new : Measured) (k : SectionKind) (items : List Item) (fit one : Bool) (i : Item) (size : Option ℕ) → TakesMore opened k items fit → i.section ≡ k → size ≡ None → IsSize size i.content one
    → new.running ≡ opened.running → new.count ≡ min (opened.count + 1) (2 ^ 64 - 1) → new.fits ≡ false → IsMeasured new (i ∷ items) (one && fit)
with_none opened new k items fit one i size t e z s r c f =
    let is : one ≡ false = subst (λ x. IsSize x i.content one) z s in
    subst (λ x. IsOpenSection x new.count new.bytes new.behind new.fits (i ∷ items) (one && fit)) (sym (r ∙ t.is_running)) (
      i.content ∷ t.bodies,
      t.closed,
      t.next i e,
      f ∙ sym (ap (λ x. (x && fit) && each_short t.closed) is),
      (let x = t.count in omega (arith, c, x)),
      λ q. (let no : false ≡ true = sym f ∙ q in cc),
    )

-- ---- the name section

title : length (framed name_of_section) ≡ 15
unfolding leb
title = refl

filled_length : (xs : List ℕ) → is_filled xs ≡ true → length xs ≢ 0
filled_length [] e = absurd (cc)
filled_length (x ∷ xs) e = λ q. omega (arith, q)

pub unfilled : (xs : List ℕ) (n : ℕ) → Counts n xs → n ≡ 0 → is_filled xs ≡ false
unfilled [] n c e = refl
unfilled (x ∷ xs) n c e = absurd (omega (arith, c, e))

pub filled : (xs : List ℕ) (n : ℕ) → Counts n xs → n ≢ 0 → is_filled xs ≡ true
filled [] n c z = absurd (z (omega (arith, c)))
filled (x ∷ xs) n c z = refl

pub unnamed : (payload : List ℕ) → is_filled payload ≡ false → IsOpenSection None 0 0 0 true (items_of (section_of_payload payload)) true
unnamed [] e = (refl, refl)
unnamed (b ∷ bs) e = absurd (cc)

pub named : (m : Measured) (k : SectionKind) (payload : List ℕ) (p : ℕ) → is_filled payload ≡ true → k ≡ section_kinds.Custom → Counts p payload → m.running ≡ Some k → m.count ≡ 1 → m.bytes ≡ min (p + 15) (2 ^ 64 - 1) → m.behind ≡ 0 → m.fits ≡ true
    → IsMeasured m (items_of (section_of_payload payload)) true
named m k payload p n s c r o b d f =
    let content = framed name_of_section ++ payload in
    let long = length-append (framed name_of_section) payload in
    let whole = length-append content [] in
    subst (λ x. IsOpenSection x m.count m.bytes m.behind m.fits (items_of (section_of_payload payload)) true) (sym r) (
      content ∷ [],
      [],
      ap groups (payload_items payload (filled_length payload n)) ∙ ap (λ x. group x (content ∷ []) ∷ []) (sym s),
      f,
      omega (arith, o),
      λ t. (omega (arith, b, c, long, whole, title), omega (arith, d)),
    )

-- ---- a definition

producers_fit : (u : Row) (ls bs : Leaves) → same_row u rows.Producers ≡ true → item_fits (coded_node the_encoding u ls bs) ≡ true
producers_fit u ls bs e = ap (λ b. item_fits (cond b (custom_node (codes "producers") (producers_payload ls)) (m.row u bs))) e

pub producers_long : (u : Row) (ls bs : Leaves) (n : ℕ) → same_row u rows.Producers ≡ true → Counts n (item_of_node (custom_node (codes "producers") (producers_payload ls))).content
    → (item_fits (coded_node the_encoding u ls bs) ≡ true) × Counts n (item_of_node (coded_node the_encoding u ls bs)).content
producers_long u ls bs n e h = (producers_fit u ls bs e, subst (λ x. Counts n x) (sym (producers_item u ls bs e)) h)

lined_same : (u : Row) (ls bs : Leaves) (k : SectionKind) (found : Option Family) (f : Family) → same_row u rows.Producers ≡ false → k ≡ coded_section u → option_map family_of found ≡ line_rows k → found ≡ Some f
    → item_fits (coded_node the_encoding u ls bs) ≡ node_fits (m.row u bs) (family_of f)
lined_same u ls bs k found f p e r g = ap item_fits (plain_item u ls bs p) ∙ ap (λ x. node_fits (m.row u bs) x) (rows_here u k found f p e r g)

pub lined_long : (u : Row) (ls bs : Leaves) (k : SectionKind) (found : Option Family) (f : Family) (b : Bool) (n : ℕ) → same_row u rows.Producers ≡ false → k ≡ coded_section u → option_map family_of found ≡ line_rows k → found ≡ Some f
    → b ≡ node_fits (m.row u bs) (family_of f) → b ≡ true → (FitsNode (m.row u bs) (family_of f) → Counts n (spell_node (m.row u bs) (family_of f)))
    → (item_fits (coded_node the_encoding u ls bs) ≡ true) × Counts n (item_of_node (coded_node the_encoding u ls bs)).content
lined_long u ls bs k found f b n p e r g t h c =
    let yes = lined_same u ls bs k found f p e r g ∙ sym t ∙ h in
    (yes, subst (λ x. Counts n x) (sym (lined_item u ls bs k found f p e r g)) (c (lined_fits u ls bs k found f p e r g ((item_all (coded_node the_encoding u ls bs)).holds yes))))

pub lined_not : (u : Row) (ls bs : Leaves) (k : SectionKind) (found : Option Family) (f : Family) (b : Bool) → same_row u rows.Producers ≡ false → k ≡ coded_section u → option_map family_of found ≡ line_rows k → found ≡ Some f
    → b ≡ node_fits (m.row u bs) (family_of f) → b ≡ false → item_fits (coded_node the_encoding u ls bs) ≡ false
lined_not u ls bs k found f b p e r g t h = lined_same u ls bs k found f p e r g ∙ sym t ∙ h

-- a leaf that is no scope is no component
no_whole : (l : m.Leaf) → scope_leaf l ≡ None → leaf_fits (binary_of_leaf the_encoding l) whole_component ≡ false
no_whole (m.scope c) e = cc
no_whole (m.core_value v) e = value v
  where
    value : (v : core.CoreValue) → leaf_fits (binary_of_leaf the_encoding (m.core_value v)) whole_component ≡ false
    value (core.ref_numeral b o n) = refl
    value _ = refl
no_whole (m.ref u x) e = target x
  where
    target : (x : m.Target) → leaf_fits (binary_of_leaf the_encoding (m.ref u x)) whole_component ≡ false
    target (m.numeral o n) = refl
    target _ = refl
no_whole (m.place p) e = place p
  where
    place : (p : core.Place) → leaf_fits (binary_of_leaf the_encoding (m.place p)) whole_component ≡ false
    place (core.counted o n) = refl
    place (core.named o x) = refl
no_whole (m.node (m.row u ls)) e = refl
no_whole _ e = refl

-- ---- a component

names_fit : (payload : List ℕ) → definitions_fit (section_of_payload payload) ≡ true
names_fit [] = refl
names_fit (b ∷ bs) = refl

by_parts : (s : m.Scope) → fits (binary_of the_encoding s) ≡ ((code_of_kind (kind_of s) == code_of_kind kinds.Component) && (definitions_fit (defs_of (binary_of the_encoding s)) && each_short (groups (items_of (defs_of (binary_of the_encoding s))))))
by_parts (m.scope_of k id label ds) = refl

module _ (cores : List CoreModule) where
  -- before the loop, and one item in front
  pub none_yet : (ds : List Def) (m : Measured) (items : List Item) → IsMeasured m items true → IsMeasured m (wire_items cores (drop (length ds) ds) ++ items) (items_fit cores (drop (length ds) ds))
  none_yet ds m items h = subst (λ xs. IsMeasured m (wire_items cores xs ++ items) (items_fit cores xs)) (sym (drop_of_length-le ds (le_refl (length ds)))) h

  pub item_measured : (ds : List Def) (i : ℕ) (d : Def) (m : Measured) (items : List Item) → 0 < i → i ≤ length ds → d ≡ get_or ds (i - 1) d
      → IsMeasured m (item_of_node (wire_node_of_def cores d.node) ∷ (wire_items cores (drop i ds) ++ items)) (item_fits (wire_node_of_def cores d.node) && items_fit cores (drop i ds))
      → IsMeasured m (wire_items cores (drop (i - 1) ds) ++ items) (items_fit cores (drop (i - 1) ds))
  item_measured ds i d m items a b e x =
      let next : i - 1 + 1 ≡ i = omega (arith, a) in
      let split : drop (i - 1) ds ≡ d ∷ drop i ds = dropped ds (i - 1) d (omega (arith, a, b)) e ∙ ap (λ j. d ∷ drop j ds) next in
      subst (λ xs. IsMeasured m (wire_items cores xs ++ items) (items_fit cores xs)) (sym split) x

  definitions : (ds : List Def) (more : m.Defs) → definitions_fit more ≡ true → definitions_fit (binary_of_defs the_encoding (defs_listed cores ds) more) ≡ items_fit cores ds
  definitions [] more h = h
  definitions (d ∷ ds) more h = ap (λ b. item_fits (wire_node_of_def cores d.node) && b) (definitions ds more h)

  is_kind : (x : Scope) → (code_of_kind (kind_of (scope_of cores x)) == code_of_kind kinds.Component) ≡ (code_of_kind (sc.out-Scope x).kind == code_of_kind kinds.Component)
  is_kind x = ap (λ y. code_of_kind y == code_of_kind kinds.Component) (scope_kind cores x)

  pub no_component : (x : Scope) (b : Bool) → b ≡ (code_of_kind (sc.out-Scope x).kind == code_of_kind kinds.Component) → b ≡ false → fits (wire_scope cores x) ≡ false
  no_component x b e h = by_parts (scope_of cores x) ∙ ap (λ c. c && (definitions_fit (defs_of (wire_scope cores x)) && each_short (groups (items_of (defs_of (wire_scope cores x)))))) (is_kind x ∙ sym e ∙ h)

  abbrev Items : Scope → List Item
  Items x = wire_items cores (sc.out-Scope x).defs.now ++ items_of (section_of_payload (payload_of (scope_of cores x)))

  component_fits : (x : Scope) (b : Bool) (s : Sections) → b ≡ (code_of_kind (sc.out-Scope x).kind == code_of_kind kinds.Component) → b ≡ true → AreMeasured s (Items x) (items_fit cores (sc.out-Scope x).defs.now) → fits (wire_scope cores x) ≡ s.fits
  component_fits x b s e h a =
      let ds = (sc.out-Scope x).defs.now in
      let named = section_of_payload (payload_of (scope_of cores x)) in
      by_parts (scope_of cores x)
      ∙ ap (λ c. c && (definitions_fit (defs_of (wire_scope cores x)) && each_short (groups (items_of (defs_of (wire_scope cores x)))))) (is_kind x ∙ sym e ∙ h)
      ∙ ap (λ y. definitions_fit y && each_short (groups (items_of y))) (scope_defs cores x)
      ∙ ap (λ c. c && each_short (groups (items_of (binary_of_defs the_encoding (defs_listed cores ds) named)))) (definitions ds named (names_fit (payload_of (scope_of cores x))))
      ∙ ap (λ is. items_fit cores ds && each_short (groups is)) (items_behind cores ds named) ∙ sym a.0

  pub component_long : (x : Scope) (b : Bool) (s : Sections) (r : Option ℕ) → b ≡ (code_of_kind (sc.out-Scope x).kind == code_of_kind kinds.Component) → b ≡ true → AreMeasured s (Items x) (items_fit cores (sc.out-Scope x).defs.now)
      → MatchOption r (s.fits ≡ false) (λ n. (s.fits ≡ true) × (n ≡ min (s.bytes + 8) (2 ^ 64 - 1))) → IsSize r (spell_component (wire_scope cores x)) (fits (wire_scope cores x))
  component_long x b s None e h a m = component_fits x b s e h a ∙ m
  component_long x b s (Some n) e h a m = (
    component_fits x b s e h a ∙ m.0,
    (let k = m.1 in let y = a.1 m.0 in let z = ap length (component_spelled cores x) in let w = length-append preamble (sections (groups (Items x))) in omega (arith, k, y, z, w)),
  )

  -- ---- the component in a definition

  abbrev WholeTested : Row → List Leaf → Leaf → Type 0
  WholeTested u xs x =
      (item_fits (coded_node the_encoding u (listed cores xs) (wire_leaves cores xs)) ≡ leaf_fits (wire_leaf cores x) whole_component)
      × ((item_of_node (coded_node the_encoding u (listed cores xs) (wire_leaves cores xs))).content ≡ spell_leaf (wire_leaf cores x) whole_component)

  -- the one leaf of the row of a component
  pub whole_long : (u : Row) (xs : List Leaf) (d : Leaf) (size : Option ℕ) (b : Bool) → u ≡ rows.Component → b ≡ (length xs == 1) → b ≡ true
      → IsSize size (spell_leaf (wire_leaf cores (get_or xs 0 d)) whole_component) (leaf_fits (wire_leaf cores (get_or xs 0 d)) whole_component)
      → IsSize size (item_of_node (coded_node the_encoding u (listed cores xs) (wire_leaves cores xs))).content (item_fits (coded_node the_encoding u (listed cores xs) (wire_leaves cores xs)))
  whole_long u [] d size b e n q h = let no : false ≡ true = sym n ∙ q in absurd (cc)
  whole_long u (x ∷ []) d size b e n q h =
      let w : WholeTested u (x ∷ []) x = subst (λ v. WholeTested v (x ∷ []) x) (sym e) (and-true (leaf_fits (wire_leaf cores x) whole_component), append-nil (spell_leaf (wire_leaf cores x) whole_component)) in
      subst (λ b. IsSize size (item_of_node (coded_node the_encoding u (listed cores (x ∷ [])) (wire_leaves cores (x ∷ [])))).content b) (sym w.0) (subst (λ c. IsSize size c (leaf_fits (wire_leaf cores x) whole_component)) (sym w.1) h)
  whole_long u (x ∷ y ∷ xs) d size b e n q h = let no : false ≡ true = sym (ne_eqb (length (x ∷ y ∷ xs)) 1 (λ z. omega (arith, z))) ∙ sym n ∙ q in absurd (cc)

  pub whole_not : (u : Row) (xs : List Leaf) (b : Bool) → u ≡ rows.Component → b ≡ (length xs == 1) → b ≡ false → item_fits (coded_node the_encoding u (listed cores xs) (wire_leaves cores xs)) ≡ false
  whole_not u [] b e n q = subst (λ v. item_fits (coded_node the_encoding v no_leaf no_leaf) ≡ false) (sym e) refl
  whole_not u (x ∷ []) b e n q = let no : true ≡ false = sym n ∙ q in absurd (cc)
  whole_not u (x ∷ y ∷ xs) b e n q =
      let gs = leaf_tests (wire_leaves cores (x ∷ y ∷ xs)) in
      subst (λ v. item_fits (coded_node the_encoding v (listed cores (x ∷ y ∷ xs)) (wire_leaves cores (x ∷ y ∷ xs))) ≡ false) (sym e) (ap (λ c. c && (test_at 0 whole_component gs && true)) (ne_eqb (length gs) 1 (λ z. omega (arith, z))))

  pub whole_nowhere : (x : Leaf) → ((p : _) (y : Scope) → x ≡ tree.Scope' p y → ⊥) → leaf_fits (wire_leaf cores x) whole_component ≡ false
  whole_nowhere x n = no_whole (leaf_of cores x) (no_scope_held cores x n)

-- ---- what is short can be written

pub some_size : (size : Option ℕ) (n : ℕ) (bytes : List ℕ) (fit : Bool) → size ≡ Some n → IsSize size bytes fit → true ≡ fit
some_size size n bytes fit e h = let is : (fit ≡ true) × Counts n bytes = subst (λ x. IsSize x bytes fit) e h in sym is.0

pub no_size : (size : Option ℕ) (bytes : List ℕ) (fit : Bool) → size ≡ None → IsSize size bytes fit → false ≡ fit
no_size size bytes fit e h = let is : fit ≡ false = subst (λ x. IsSize x bytes fit) e h in sym is

pub short_same : (s : m.Scope) (b : Bool) → kind_of s ≡ kinds.Component → FitsRows s → IsBinary s → first_uncovered (λ c. None) s ≡ None → b ≡ fits s → b ≡ is_short s
short_same s true k r i c e = sym (sections_fit s ((exact s).0 (sym e))).short
short_same s false k r i c e = sym (false_from_ne_true (is_short s) (λ h. (let t : fits s ≡ true = (exact s).1 (rows_fit (λ c. None) s k r i c h) in let no : false ≡ true = e ∙ t in cc)))
