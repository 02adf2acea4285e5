-- What each step of the sections of a component keeps.
use Rattle.std.proofs.Common.{◌≡◌, ◌≢◌, ℕ, ◌+◌, List, [], ◌∷◌, ◌++◌, length, refl, sym, ◌∙◌, ap, subst, arith, Bool, true, false, cond, append-nil, Option, Some, None}
use Rattle.comp_model.specs.Leb.{uleb}
use Rattle.comp_model.specs.Payloads.{joined, framed, name_of_section}
use Rattle.comp_wire.specs.declared.sections.SectionKind.TheVariants as section_kinds
use Rattle.comp_wire.specs.Sections.{section_number, is_counted, Item, group, shares, groups, in_front, body, sections}
use Rattle.comp_wire.specs.Spelled.{items_of}
use Rattle.comp_wire.specs.NameSection.{section_of_payload}
use Rattle.comp_wire.proofs.Groups.{shared}
use Rattle.comp_wire.proofs.Component.{payload_items}
use Rattle.comp_wire.specs.declared.sections.SectionKind.{SectionKind}
use Rattle.tree_write.specs.Kept.{Kept, put, Taken}
use Rattle.tree_write.specs.OpenSection.{BeginsAlone, IsOpen, Holds, count_bytes, joins, Takes}
use Rattle.tree_write.specs.declared.sections.Open.{Open}
use Rattle.tree_write.proofs.Puts.{put_put, put_none}

-- the count and the items are the body
same_body : (s : SectionKind) (n : ℕ) (bodies : List (List ℕ)) → n ≡ length bodies → count_bytes s n ++ joined bodies ≡ body (group s bodies)
same_body s n bodies e = go (is_counted s)
  where
    go : (b : Bool) → cond b (uleb n) [] ++ joined bodies ≡ cond b (uleb (length bodies) ++ joined bodies) (joined bodies)
    go true = ap (λ k. uleb k ++ joined bodies) e
    go false = refl

pub nothing_closed : (before now : Kept) (o : Open) (items : List Item) → o.running ≡ None → Holds before now o items → now ≡ put (sections (groups items)) before
nothing_closed before now o items r h = (subst (λ x. IsOpen before now x o.count o.end items) r h).0

-- the section is written by its count, its length and its number
pub closed : (before now with_count framed_one new : Kept) (o : Open) (k : SectionKind) (number : ℕ) (items : List Item) → o.running ≡ Some k → Holds before now o items
    → with_count ≡ put (count_bytes k o.count) now
    → ((start : Kept) (bytes : List ℕ) → Taken start o.end → with_count ≡ put bytes start → framed_one ≡ put (framed bytes) start)
    → number ≡ section_number k → new ≡ put (number ∷ []) framed_one → new ≡ put (sections (groups items)) before
closed before now with_count framed_one new o k number items r h c f n e =
    let s = k in
    let held = subst (λ x. IsOpen before now x o.count o.end items) r h in
    let bodies = held.0 in
    let behind = held.1 in
    let g = group s bodies in
    let mid = put (sections behind) before in
    let bytes = c ∙ ap (put (count_bytes s o.count)) held.4 ∙ put_put (count_bytes s o.count) (joined bodies) mid ∙ ap (λ x. put x mid) (same_body s o.count bodies held.3) in
    let whole = f mid (body g) held.5 bytes in
    e ∙ ap (put (number ∷ [])) whole ∙ ap (λ x. put (x ∷ []) (put (framed (body g)) mid)) n ∙ put_put (section_number s ∷ []) (framed (body g)) mid
    ∙ put_put (section_number s ∷ framed (body g)) (sections behind) before ∙ ap (λ gs. put (sections gs) before) (sym held.2)

-- an item of the open section
pub takes_open : (before now : Kept) (o : Open) (k : SectionKind) (items : List Item) → joins o.running k ≡ true → Holds before now o items → Takes before now o k items
takes_open before now op k items j h = go op.running refl j h
  where
    go : (r : Option SectionKind) → op.running ≡ r → joins r k ≡ true → IsOpen before now r op.count op.end items → Takes before now op k items
    go None e j o = cc
    go (Some l) e j o =
        let one = shared k l j in
        record {
          running = l;
          bodies = o.0;
          closed = o.1;
          is_running = e;
          same = sym one.0;
          count = o.3;
          bytes = o.4;
          taken = o.5;
          next = λ i t. ap (in_front i) o.2 ∙ ap (λ b. cond b (group l (i.content ∷ o.0) ∷ o.1) (group i.section (i.content ∷ []) ∷ group l o.0 ∷ o.1)) (ap (λ s. shares s l) t ∙ j)
              ∙ ap (λ s. group s (i.content ∷ o.0) ∷ o.1) (sym one.0);
        }

-- the item of another section begins one
begins : (before now : Kept) (running : Option SectionKind) (count end : ℕ) (items : List Item) (k : SectionKind) → joins running k ≡ false → IsOpen before now running count end items
    → (i : Item) → i.section ≡ k → groups (i ∷ items) ≡ group k (i.content ∷ []) ∷ groups items
begins before now None count end items k n o i e = o.1 i ∙ ap (λ t. group t (i.content ∷ []) ∷ groups items) e
begins before now (Some l) count end items k n o i e =
    ap (in_front i) o.2
    ∙ ap (λ b. cond b (group l (i.content ∷ o.0) ∷ o.1) (group i.section (i.content ∷ []) ∷ group l o.0 ∷ o.1)) (ap (λ s. shares s l) e ∙ n)
    ∙ ap (λ gs. group i.section (i.content ∷ []) ∷ gs) (sym o.2) ∙ ap (λ t. group t (i.content ∷ []) ∷ groups items) e

pub takes_new : (before now new : Kept) (o opened : Open) (k : SectionKind) (items : List Item) → joins o.running k ≡ false → Holds before now o items
    → new ≡ put (sections (groups items)) before → opened.running ≡ Some k → opened.count ≡ 0 → Taken new opened.end → Takes before new opened k items
takes_new before now new o opened k items n h e r c t = record {
  running = k;
  bodies = [];
  closed = groups items;
  is_running = r;
  same = refl;
  count = c;
  bytes = e ∙ sym (put_none (put (sections (groups items)) before));
  taken = subst (λ x. Taken x opened.end) e t;
  next = begins before now o.running o.count o.end items k n h;
}

pub added : (before now new : Kept) (o opened : Open) (k : SectionKind) (items : List Item) (i : Item) → Takes before now o k items → i.section ≡ k
    → opened.running ≡ o.running → opened.count ≡ o.count + 1 → opened.end ≡ o.end → new ≡ put i.content now → Holds before new opened (i ∷ items)
added before now new o opened k items i t e r c f b =
    let bodies = i.content ∷ t.bodies in
    let mid = put (sections t.closed) before in
    let held : groups (i ∷ items) ≡ group t.running bodies ∷ t.closed = t.next i e ∙ ap (λ s. group s bodies ∷ t.closed) (sym t.same) in
    let counted : opened.count ≡ length bodies = omega (arith, c, t.count) in
    let bytes : new ≡ put (joined bodies) mid = b ∙ ap (put i.content) t.bytes ∙ put_put i.content (joined t.bodies) mid in
    subst (λ x. IsOpen before new x opened.count opened.end (i ∷ items)) (sym (r ∙ t.is_running)) (bodies, t.closed, held, counted, bytes, subst (Taken mid) (sym f) t.taken)

-- a name section stands alone
apart : (i : Item) (content : List ℕ) → in_front i (group section_kinds.Custom (content ∷ []) ∷ []) ≡ group i.section (i.content ∷ []) ∷ group section_kinds.Custom (content ∷ []) ∷ []
apart i content = ap (λ b. cond b (group section_kinds.Custom (i.content ∷ content ∷ []) ∷ []) (group i.section (i.content ∷ []) ∷ group section_kinds.Custom (content ∷ []) ∷ [])) (go i.section)
  where
    go : (s : SectionKind) → shares s section_kinds.Custom ≡ false
    go section_kinds.Custom = refl
    go _ = refl

pub names_alone : (payload : List ℕ) → BeginsAlone (groups (items_of (section_of_payload payload)))
names_alone [] i = refl
names_alone (b ∷ bs) i = apart i _

pub named : (payload : List ℕ) → length payload ≢ 0 → sections (groups (items_of (section_of_payload payload))) ≡ 0 ∷ framed (framed name_of_section ++ payload)
named payload n = ap (λ is. sections (groups is)) (payload_items payload n) ∙ ap (λ x. 0 ∷ x) (append-nil _ ∙ ap framed (append-nil (framed name_of_section ++ payload)))
