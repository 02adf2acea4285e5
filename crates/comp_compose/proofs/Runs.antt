-- Sections of definitions behind a component.
use Rattle.std.proofs.Common.{◌≡◌, ℕ, ◌+◌, ◌-◌, ◌<◌, ◌≤◌, ◌^◌, Bool, true, false, List, [], ◌∷◌, ◌++◌, length, take, take_all, drop, length-append, refl, sym, ◌∙◌, ap, subst, arith, append_assoc, append-nil, if◌then◌else◌}
use Rattle.comp_model.specs.Payloads.{joined, framed}
use Rattle.comp_wire.specs.declared.sections.SectionKind.TheVariants as section_kinds
use Rattle.comp_wire.specs.declared.sections.SectionKind.{SectionKind}
use Rattle.comp_wire.specs.Sections.{section_number, Item, item, Group, group, is_counted, same_section, shares, in_front, groups, body, sections, preamble}
use Rattle.comp_wire.specs.Sink.{Holds, IsShort, CanPut, bulk}
use Rattle.comp_wire.specs.declared.sink.ComponentSink.{ComponentSink}
use Rattle.comp_wire.proofs.Room.{light_can_put, light_can_finish, bulk-behind}
use Rattle.comp_compose.specs.Written.{Writes}
use Rattle.comp_compose.specs.declared.writer.Writer.{Writer}

-- nothing shares the section of a component
never_shared : (t : SectionKind) → shares t section_kinds.Component ≡ false
never_shared section_kinds.Custom = refl
never_shared section_kinds.CoreModule = refl
never_shared section_kinds.CoreInstance = refl
never_shared section_kinds.CoreType = refl
never_shared section_kinds.Component = refl
never_shared section_kinds.Instance = refl
never_shared section_kinds.Alias = refl
never_shared section_kinds.Type = refl
never_shared section_kinds.Canon = refl
never_shared section_kinds.Start = refl
never_shared section_kinds.Import = refl
never_shared section_kinds.Export = refl

part_item : List ℕ → Item
part_item bytes = item section_kinds.Component bytes

part_group : List ℕ → Group
part_group bytes = group section_kinds.Component (bytes ∷ [])

-- an item in front of sections with one more behind
front_behind : (x : Item) (gs : List Group) (bytes : List ℕ) → in_front x (gs ++ part_group bytes ∷ []) ≡ in_front x gs ++ part_group bytes ∷ []
unfolding part_group
front_behind x [] bytes = ap (λ b. if b then group section_kinds.Component (x.content ∷ bytes ∷ []) ∷ [] else group x.section (x.content ∷ []) ∷ part_group bytes ∷ []) (never_shared x.section)
front_behind x (g ∷ gs) bytes = go (shares x.section g.section)
  where
    go : (b : Bool) → (if b then group g.section (x.content ∷ g.items) ∷ (gs ++ part_group bytes ∷ []) else group x.section (x.content ∷ []) ∷ g ∷ (gs ++ part_group bytes ∷ []))
        ≡ (if b then group g.section (x.content ∷ g.items) ∷ gs else group x.section (x.content ∷ []) ∷ g ∷ gs) ++ part_group bytes ∷ []
    go true = refl
    go false = refl

-- a component behind others begins a section
pub part_behind : (is : List Item) (bytes : List ℕ) → groups (is ++ item section_kinds.Component bytes ∷ []) ≡ groups is ++ group section_kinds.Component (bytes ∷ []) ∷ []
unfolding part_group
part_behind [] bytes = refl
part_behind (x ∷ is) bytes = ap (in_front x) (part_behind is bytes) ∙ front_behind x (groups is) bytes

-- sections that are not empty, and others behind them
front_of_more : (x : Item) (g : Group) (gs hs : List Group) → in_front x ((g ∷ gs) ++ hs) ≡ in_front x (g ∷ gs) ++ hs
front_of_more x g gs hs = go (shares x.section g.section)
  where
    go : (b : Bool) → (if b then group g.section (x.content ∷ g.items) ∷ (gs ++ hs) else group x.section (x.content ∷ []) ∷ g ∷ (gs ++ hs))
        ≡ (if b then group g.section (x.content ∷ g.items) ∷ gs else group x.section (x.content ∷ []) ∷ g ∷ gs) ++ hs
    go true = refl
    go false = refl

record IsMore (gs : List Group) : Type 0 where
  head : Group
  tail : List Group
  same : gs ≡ head ∷ tail

in_front-more : (x : Item) (gs : List Group) → IsMore (in_front x gs)
in_front-more x [] = record { head = group x.section (x.content ∷ []); tail = []; same = refl }
in_front-more x (g ∷ gs) = go (shares x.section g.section)
  where
    go : (b : Bool) → IsMore (if b then group g.section (x.content ∷ g.items) ∷ gs else group x.section (x.content ∷ []) ∷ g ∷ gs)
    go true = record { head = group g.section (x.content ∷ g.items); tail = gs; same = refl }
    go false = record { head = group x.section (x.content ∷ []); tail = g ∷ gs; same = refl }

groups-more : (is : List Item) (i : Item) → IsMore (groups (is ++ i ∷ []))
groups-more [] i = record { head = group i.section (i.content ∷ []); tail = []; same = refl }
groups-more (x ∷ is) i = in_front-more x (groups (is ++ i ∷ []))

-- what stands behind a component has sections of its own
pub apart_behind : (is : List Item) (bytes : List ℕ) (more : List Item) → groups ((is ++ item section_kinds.Component bytes ∷ []) ++ more) ≡ groups (is ++ item section_kinds.Component bytes ∷ []) ++ groups more
apart_behind [] bytes more = go (groups more)
  where
    go : (gs : List Group) → in_front (item section_kinds.Component bytes) gs ≡ group section_kinds.Component (bytes ∷ []) ∷ gs
    go [] = refl
    go (g ∷ gs) = refl
apart_behind (x ∷ is) bytes more =
    let some = groups-more is (item section_kinds.Component bytes) in
    ap (in_front x) (apart_behind is bytes more)
    ∙ subst (λ gs. in_front x (gs ++ groups more) ≡ in_front x gs ++ groups more) (sym some.same) (front_of_more x some.head some.tail (groups more))

sections-append : (gs hs : List Group) → sections (gs ++ hs) ≡ sections gs ++ sections hs
sections-append [] hs = refl
sections-append (g ∷ gs) hs = ap (λ x. section_number g.section ∷ (framed (body g) ++ x)) (sections-append gs hs) ∙ ap (λ x. section_number g.section ∷ x) (sym (append_assoc (framed (body g)) (sections gs) (sections hs)))

-- the bytes of the section of a component
part_bytes : (bytes : List ℕ) → sections (part_group bytes ∷ []) ≡ 4 ∷ framed bytes
unfolding part_group
part_bytes bytes = ap (λ x. 4 ∷ x) (append-nil (framed (bytes ++ [])) ∙ ap framed (append-nil bytes))

module _ (writer : Writer) (items : List Item) (w : Writes writer items) where
  -- all that is written, where the sections of the sink are behind
  pub all_written : (out : List ℕ) → out ≡ writer.done.items ++ sections (groups w.back) → out ≡ preamble ++ sections (groups items)
  all_written out e =
      e ∙ ap (λ x. x ++ sections (groups w.back)) w.done ∙ append_assoc preamble (sections (groups w.front)) (sections (groups w.back))
      ∙ ap (λ x. preamble ++ x) (sym (sections-append (groups w.front) (groups w.back)) ∙ ap sections (sym (w.apart w.back)) ∙ ap (λ x. sections (groups x)) (sym w.all))

  bulk-back : (is js : List Item) → bulk js ≤ bulk (is ++ js)
  bulk-back [] js = omega arith
  bulk-back (i ∷ is) js = omega (arith, bulk-back is js)

  back_light : bulk w.back ≤ bulk items
  back_light = subst (λ x. bulk w.back ≤ bulk x) (sym w.all) (bulk-back w.front w.back)

  pub can_write : (i : Item) → bulk items + (length i.content + 1) < 2 ^ 32 → CanPut writer.run i.section
  can_write i h = light_can_put writer.run w.back i w.held (omega (arith, h, back_light))

  pub can_close : bulk items < 2 ^ 32 → IsShort writer.run
  can_close h = light_can_finish writer.run w.back w.held (omega (arith, h, back_light))

  -- a definition more
  pub one_written : (new : Writer) (i : Item) → new.done.items ≡ writer.done.items → Holds new.run (w.back ++ i ∷ []) → Writes new (items ++ i ∷ [])
  one_written new i d h = record {
    front = w.front;
    back = w.back ++ i ∷ [];
    all = ap (λ x. x ++ i ∷ []) w.all ∙ append_assoc w.front w.back (i ∷ []);
    done = d ∙ w.done;
    held = h;
    apart = w.apart;
  }

  -- a component more
  pub part_written : (new : Writer) (bytes : List ℕ) → new.done.items ≡ (writer.done.items ++ sections (groups w.back)) ++ 4 ∷ framed bytes → Holds new.run [] → Writes new (items ++ item section_kinds.Component bytes ∷ [])
  unfolding part_group
  part_written new bytes d h = record {
    front = items ++ item section_kinds.Component bytes ∷ [];
    back = [];
    all = sym (append-nil (items ++ item section_kinds.Component bytes ∷ []));
    done =
        d ∙ ap (λ x. x ++ 4 ∷ framed bytes) (all_written (writer.done.items ++ sections (groups w.back)) refl) ∙ append_assoc preamble (sections (groups items)) (4 ∷ framed bytes)
        ∙ ap (λ x. preamble ++ x) (ap (λ x. sections (groups items) ++ x) (sym (part_bytes bytes)) ∙ sym (sections-append (groups items) (part_group bytes ∷ [])) ∙ ap sections (sym (part_behind items bytes)));
    held = h;
    apart = apart_behind items bytes;
  }

-- behind the preamble
pub behind_preamble : (bytes rest : List ℕ) → bytes ≡ preamble ++ rest → (8 ≤ length bytes) × (take (length bytes - 8) (drop 8 bytes) ≡ rest)
behind_preamble bytes rest e =
    let all : length bytes ≡ length (preamble ++ rest) = ap length e in
    let long : length bytes ≡ length rest + 8 = omega (arith, all) in
    (omega (arith, long), ap (take (length bytes - 8)) (ap (drop 8) e) ∙ take_all (length bytes - 8) rest (omega (arith, long)))
