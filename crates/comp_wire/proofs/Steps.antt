-- What each step of the sink keeps, and what it needs.
use Rattle.std.proofs.Common.{◌≡◌, ℕ, ◌+◌, ◌<◌, ◌^◌, List, [], ◌∷◌, ◌++◌, length, length-append, refl, sym, ◌∙◌, ap, subst, arith, true, false, append_assoc, append-nil, Option, Some, None}
use Rattle.comp_model.specs.Payloads.{joined, framed}
use Rattle.comp_wire.specs.Sections.{section_number, Item, Group, group, shares, groups, body, sections, preamble, EachShort, Word}
use Rattle.comp_wire.specs.declared.sink.ComponentSink.{ComponentSink}
use Rattle.comp_wire.specs.declared.sections.SectionKind.{SectionKind}
use Rattle.comp_wire.specs.Sink.{IsOpen, Holds, IsShort, CanPut, Takes, joins as joins_kind, body_of}
use Rattle.comp_wire.proofs.Groups.{shared, behind, alone, joins, groups-behind, behind-last, behind-new, one_section_more, joined-append, extends, short_one}

same_body : (t : SectionKind) (count : ℕ) (bytes : List ℕ) (bs : List (List ℕ)) → count ≡ length bs → bytes ≡ joined bs → body_of t count bytes ≡ body (group t bs)
same_body t count bytes bs c b = rw (c, b)

-- all sections are written
pub flushed_sink : (sink : ComponentSink) (k : SectionKind) (items : List Item) (new : List ℕ) → sink.running ≡ Some k → Holds sink items →
    new ≡ sink.done.items ++ section_number k ∷ framed (body_of k sink.count sink.body.items) → new ≡ preamble ++ sections (groups items)
flushed_sink sink k items new r h e =
    let closed = h.closed in
    let d = h.done in
    let o = h.last in
    let opened = subst (λ x. IsOpen x sink.count sink.body.items closed items) r o in
    let g = group k opened.0 in
    e ∙ ap (λ x. x ++ section_number k ∷ framed (body_of k sink.count sink.body.items)) d
    ∙ ap (λ x. preamble ++ (sections closed ++ section_number k ∷ framed x)) (same_body k sink.count sink.body.items opened.0 opened.2 opened.3)
    ∙ ap (λ x. preamble ++ x) (sym (one_section_more closed g) ∙ ap sections (sym opened.1))

-- a sink that holds nothing
pub new_sink : (sink : ComponentSink) → sink.done.items ≡ preamble → sink.running ≡ None → Holds sink []
new_sink sink d r = record {
  closed = [];
  done = d ∙ sym (append-nil preamble);
  last = subst (λ x. IsOpen x sink.count sink.body.items [] []) (sym r) (refl, refl);
}

pub empty_sink : (sink : ComponentSink) (items : List Item) → sink.running ≡ None → Holds sink items → sink.done.items ≡ preamble ++ sections (groups items)
empty_sink sink items r h =
    let opened = subst (λ x. IsOpen x sink.count sink.body.items h.closed items) r h.last in
    h.done ∙ ap (λ gs. preamble ++ sections gs) (opened.1 ∙ ap groups (sym opened.0))

-- an item of the open section
pub takes_open : (sink : ComponentSink) (k : SectionKind) (items : List Item) → joins_kind sink.running k ≡ true → Holds sink items → Takes sink k items
takes_open sink k items j h = go sink.running refl j h.last
  where
    go : (r : Option SectionKind) → sink.running ≡ r → joins_kind r k ≡ true → IsOpen r sink.count sink.body.items h.closed items → Takes sink k items
    go None e j o = cc
    go (Some l) e j o =
        let one = shared l k j in
        let g = group l o.0 in
        record {
          closed = h.closed;
          running = l;
          bodies = o.0;
          done = h.done;
          open_one = e;
          same = one.0;
          count = o.2;
          bytes = o.3;
          next = λ i t. groups-behind items i ∙ ap (λ gs. behind gs i) o.1 ∙ behind-last h.closed g i (ap (shares l) t ∙ j) ∙ ap (λ u. h.closed ++ group u (o.0 ++ i.content ∷ []) ∷ []) one.0;
        }

-- the item of another section begins one
begins : (running : Option SectionKind) (count : ℕ) (bytes : List ℕ) (closed : List Group) (items : List Item) (k : SectionKind) → joins_kind running k ≡ false → IsOpen running count bytes closed items →
    (i : Item) → i.section ≡ k → groups (items ++ i ∷ []) ≡ groups items ++ group k (i.content ∷ []) ∷ []
begins None count bytes closed items k n o i e =
    ap (λ x. groups (x ++ i ∷ [])) o.0 ∙ ap (λ t. group t (i.content ∷ []) ∷ []) e ∙ ap (λ x. groups x ++ group k (i.content ∷ []) ∷ []) (sym o.0)
begins (Some l) count bytes closed items k n o i e =
    groups-behind items i ∙ ap (λ gs. behind gs i) o.1
    ∙ behind-new closed (group l o.0) i (ap (shares l) e ∙ n)
    ∙ ap (λ gs. gs ++ alone i ∷ []) (sym o.1) ∙ ap (λ t. groups items ++ group t (i.content ∷ []) ∷ []) e

pub takes_new : (sink new : ComponentSink) (k : SectionKind) (items : List Item) → joins_kind sink.running k ≡ false → Holds sink items →
    new.done.items ≡ preamble ++ sections (groups items) → new.running ≡ Some k → new.count ≡ 0 → new.body.items ≡ [] → Takes new k items
takes_new sink new k items n h e r c b = record {
  closed = groups items;
  running = k;
  bodies = [];
  done = e;
  open_one = r;
  same = refl;
  count = c;
  bytes = b;
  next = begins sink.running sink.count sink.body.items h.closed items k n h.last;
}

pub added : (sink new : ComponentSink) (k : SectionKind) (items : List Item) (i : Item) → Takes sink k items → i.section ≡ k →
    new.done.items ≡ sink.done.items → new.running ≡ sink.running → new.count ≡ sink.count + 1 → new.body.items ≡ sink.body.items ++ i.content → Holds new (items ++ i ∷ [])
added sink new k items i t e nd nr nc nb =
    let counted : new.count ≡ length (t.bodies ++ i.content ∷ []) = omega (arith, length-append t.bodies (i.content ∷ []), t.count) in
    let bytes : new.body.items ≡ joined (t.bodies ++ i.content ∷ []) = nb ∙ ap (λ x. x ++ i.content) t.bytes ∙ sym (joined-append t.bodies i.content) in
    let held = t.next i e ∙ ap (λ u. t.closed ++ group u (t.bodies ++ i.content ∷ []) ∷ []) (sym t.same) in
    record {
      closed = t.closed;
      done = nd ∙ t.done;
      last = subst (λ x. IsOpen x new.count new.body.items t.closed (items ++ i ∷ [])) (sym (nr ∙ t.open_one)) (t.bodies ++ i.content ∷ [], held, counted, bytes);
    }

-- A component whose sections are short has room for each of its definitions.
short_body : (t : SectionKind) (bs : List (List ℕ)) (count : ℕ) (bytes : List ℕ) → count ≡ length bs → bytes ≡ joined bs → Word (length (body (group t bs))) → Word (length (body_of t count bytes))
short_body t bs count bytes c b h = subst (λ x. Word (length x)) (sym (same_body t count bytes bs c b)) h

-- the open section, behind the last item
pub short_at_end : (sink : ComponentSink) (items : List Item) → Holds sink items → EachShort (groups items) → IsShort sink
short_at_end sink items h short k r =
    let opened = subst (λ x. IsOpen x sink.count sink.body.items h.closed items) r h.last in
    let one = short_one h.closed (group k opened.0) [] (subst EachShort opened.1 short) in
    short_body k opened.0 sink.count sink.body.items opened.2 opened.3 one.1

module _ (sink : ComponentSink) (items : List Item) (i : Item) (rest : List Item) (short : EachShort (groups (items ++ i ∷ rest))) where
  closes : (closed : List Group) → IsOpen sink.running sink.count sink.body.items closed items → (k : SectionKind) → sink.running ≡ Some k → shares k i.section ≡ false → Word (length (body_of k sink.count sink.body.items))
  closes closed o k r n =
      let opened = subst (λ x. IsOpen x sink.count sink.body.items closed items) r o in
      let g = group k opened.0 in
      let new = groups-behind items i ∙ ap (λ gs. behind gs i) opened.1 ∙ behind-new closed g i n in
      let w = extends rest (items ++ i ∷ []) (closed ++ g ∷ []) (alone i) new in
      let later = group i.section ((i.content ∷ []) ++ w.0) ∷ w.1 in
      let all = ap groups (sym (append_assoc items (i ∷ []) rest)) ∙ w.2 ∙ append_assoc closed (g ∷ []) later in
      let one = short_one closed g later (subst EachShort all short) in
      short_body k opened.0 sink.count sink.body.items opened.2 opened.3 one.1

  joining : (closed : List Group) → IsOpen sink.running sink.count sink.body.items closed items → (k : SectionKind) → sink.running ≡ Some k → shares k i.section ≡ true → sink.count + 1 < 2 ^ 32
  joining closed o k r e =
      let opened = subst (λ x. IsOpen x sink.count sink.body.items closed items) r o in
      let bs = opened.0 in
      let g = group k bs in
      let new = groups-behind items i ∙ ap (λ gs. behind gs i) opened.1 ∙ behind-last closed g i e in
      let w = extends rest (items ++ i ∷ []) closed (joins g i) new in
      let all = ap groups (sym (append_assoc items (i ∷ []) rest)) ∙ w.2 in
      let one = short_one closed (group k ((bs ++ i.content ∷ []) ++ w.0)) w.1 (subst EachShort all short) in
      omega (arith, one.0, opened.2, length-append (bs ++ i.content ∷ []) w.0, length-append bs (i.content ∷ []))

  pub can_put : Holds sink items → CanPut sink i.section
  can_put h = record { short = closes h.closed h.last; room = joining h.closed h.last }
