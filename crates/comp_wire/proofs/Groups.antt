-- One more item behind: it joins the last section, or begins one. Items behind leave the sections before them as they are.
use Rattle.std.proofs.Common.{◌≡◌, ℕ, List, [], ◌∷◌, ◌++◌, length, map, refl, sym, ◌∙◌, ap, Bool, true, false, ◌&&◌, append_assoc, append-nil, if◌then◌else◌}
use Rattle.std.specs.Prelude.{◌==◌}
use Rattle.std.proofs.lemmas.Bool.{eqb-true}
use Rattle.comp_wire.specs.declared.sections.SectionKind.TheVariants as section_kinds
use Rattle.comp_model.specs.Payloads.{joined, framed}
use Rattle.comp_wire.specs.declared.sections.SectionKind.{SectionKind}
use Rattle.comp_wire.specs.Sections.{is_counted, section_number, Sectioned, Grouped, Item, item, Group, group, item_by, group_by, shares, same_section, in_front, groups, body, sections, EachShort, Word}

pub and_both : (a b : Bool) → (a && b) ≡ true → (a ≡ true) × (b ≡ true)
and_both true b e = (refl, e)
and_both false b e = cc

-- a number is that of one section
section_at : ℕ → SectionKind
section_at n =
    if n == 0 then section_kinds.Custom else if n == 1 then section_kinds.CoreModule else if n == 2 then section_kinds.CoreInstance
    else if n == 3 then section_kinds.CoreType else if n == 4 then section_kinds.Component else if n == 5 then section_kinds.Instance
    else if n == 6 then section_kinds.Alias else if n == 7 then section_kinds.Type else if n == 8 then section_kinds.Canon
    else if n == 9 then section_kinds.Start else if n == 10 then section_kinds.Import else section_kinds.Export

section_at-section_number : (t : SectionKind) → section_at (section_number t) ≡ t
unfolding section_at
section_at-section_number section_kinds.Custom = refl
section_at-section_number _ = refl

pub number_is : (t u : SectionKind) → section_number t ≡ section_number u → t ≡ u
number_is t u e = sym (section_at-section_number t) ∙ ap section_at e ∙ section_at-section_number u

-- sections that share are one, and counted
pub shared : (t u : SectionKind) → shares t u ≡ true → (t ≡ u) × (is_counted t ≡ true)
shared t u e =
    let tests = and_both (is_counted t) _ e in
    (number_is t u (eqb-true (section_number t) (section_number u) tests.1), tests.0)

abbrev pub alone : Item → Group
alone i = group i.section (i.content ∷ [])

abbrev pub joins : Group → Item → Group
joins g i = group g.section (g.items ++ i.content ∷ [])

pub behind : List Group → Item → List Group
behind [] i = alone i ∷ []
behind (g ∷ []) i = if shares g.section i.section then joins g i ∷ [] else g ∷ alone i ∷ []
behind (g ∷ h ∷ gs) i = g ∷ behind (h ∷ gs) i

-- in front and behind don't meet
front_behind : (j : Item) (gs : List Group) (i : Item) → in_front j (behind gs i) ≡ behind (in_front j gs) i
unfolding behind
front_behind j [] i = go (shares j.section i.section) refl
  where
    go : (c : Bool) → shares j.section i.section ≡ c
        → (if c then group i.section (j.content ∷ i.content ∷ []) ∷ [] else group j.section (j.content ∷ []) ∷ group i.section (i.content ∷ []) ∷ [])
        ≡ (if c then group j.section (j.content ∷ i.content ∷ []) ∷ [] else group j.section (j.content ∷ []) ∷ group i.section (i.content ∷ []) ∷ [])
    go true e = ap (λ t. group t (j.content ∷ i.content ∷ []) ∷ []) (sym (shared j.section i.section e).0)
    go false e = refl
front_behind j (g ∷ []) i = go (shares g.section i.section) refl (shares j.section g.section) refl
  where
    go : (c : Bool) → shares g.section i.section ≡ c → (d : Bool) → shares j.section g.section ≡ d
        → in_front j (if c then joins g i ∷ [] else g ∷ alone i ∷ [])
        ≡ behind (if d then group g.section (j.content ∷ g.items) ∷ [] else group j.section (j.content ∷ []) ∷ g ∷ []) i
    go true e true f = rw (f, e)
    go true e false f = rw (f, e)
    go false e true f = rw (f, e)
    go false e false f = rw (f, e)
front_behind j (g ∷ h ∷ gs) i = go (shares j.section g.section) refl
  where
    go : (d : Bool) → shares j.section g.section ≡ d
        → (if d then group g.section (j.content ∷ g.items) ∷ behind (h ∷ gs) i else group j.section (j.content ∷ []) ∷ g ∷ behind (h ∷ gs) i)
        ≡ behind (if d then group g.section (j.content ∷ g.items) ∷ h ∷ gs else group j.section (j.content ∷ []) ∷ g ∷ h ∷ gs) i
    go true f = refl
    go false f = refl

pub groups-behind : (is : List Item) (i : Item) → groups (is ++ i ∷ []) ≡ behind (groups is) i
unfolding behind
groups-behind [] i = refl
groups-behind (j ∷ js) i = ap (in_front j) (groups-behind js i) ∙ front_behind j (groups js) i

-- the last section takes the item, where they share
pub behind-last : (gs : List Group) (g : Group) (i : Item) → shares g.section i.section ≡ true → behind (gs ++ g ∷ []) i ≡ gs ++ joins g i ∷ []
unfolding behind
behind-last [] g i e = rw e
behind-last (h ∷ []) g i e = rw e
behind-last (h ∷ k ∷ gs) g i e = ap (λ x. h ∷ x) (behind-last (k ∷ gs) g i e)

-- and else stays
pub behind-new : (gs : List Group) (g : Group) (i : Item) → shares g.section i.section ≡ false → behind (gs ++ g ∷ []) i ≡ (gs ++ g ∷ []) ++ alone i ∷ []
unfolding behind
behind-new [] g i e = rw e
behind-new (h ∷ []) g i e = rw e
behind-new (h ∷ k ∷ gs) g i e = ap (λ x. h ∷ x) (behind-new (k ∷ gs) g i e)

pub sections-append : (gs hs : List Group) → sections (gs ++ hs) ≡ sections gs ++ sections hs
sections-append [] hs = refl
sections-append (g ∷ gs) hs = ap (λ x. section_number g.section ∷ x) (ap (λ x. framed (body g) ++ x) (sections-append gs hs) ∙ sym (append_assoc (framed (body g)) (sections gs) (sections hs)))

pub one_section_more : (gs : List Group) (g : Group) → sections (gs ++ g ∷ []) ≡ sections gs ++ section_number g.section ∷ framed (body g)
one_section_more gs g = sections-append gs (g ∷ []) ∙ ap (λ x. sections gs ++ section_number g.section ∷ x) (append-nil (framed (body g)))

pub joined-append : (bs : List (List ℕ)) (c : List ℕ) → joined (bs ++ c ∷ []) ≡ joined bs ++ c
joined-append [] c = append-nil c
joined-append (b ∷ bs) c = ap (λ x. b ++ x) (joined-append bs c) ∙ sym (append_assoc b (joined bs) c)

abbrev pub Extended : List Group → Group → List Item → Type 0
Extended closed g items = (more : List (List ℕ)) × (later : List Group) × (groups items ≡ closed ++ group g.section (g.items ++ more) ∷ later)

-- items behind add to the last section, and leave those before
pub extends : (rest : List Item) (items : List Item) (closed : List Group) (g : Group) → groups items ≡ closed ++ g ∷ [] → Extended closed g (items ++ rest)
extends [] items closed g e = ([], [], ap groups (append-nil items) ∙ e ∙ ap (λ bs. closed ++ group g.section bs ∷ []) (sym (append-nil g.items)))
extends (i ∷ rest) items closed g e = go (shares g.section i.section) refl (extends rest (items ++ i ∷ []))
  where
    here : items ++ i ∷ rest ≡ (items ++ i ∷ []) ++ rest
    here = sym (append_assoc items (i ∷ []) rest)

    go : (c : Bool) → shares g.section i.section ≡ c → ((cs : List Group) (h : Group) → groups (items ++ i ∷ []) ≡ cs ++ h ∷ [] → Extended cs h ((items ++ i ∷ []) ++ rest)) → Extended closed g (items ++ i ∷ rest)
    go true t ih =
        let r = ih closed (joins g i) (groups-behind items i ∙ ap (λ gs. behind gs i) e ∙ behind-last closed g i t) in
        (i.content ∷ r.0, r.1, ap groups here ∙ r.2 ∙ ap (λ bs. closed ++ group g.section bs ∷ r.1) (append_assoc g.items (i.content ∷ []) r.0))
    go false t ih =
        let r = ih (closed ++ g ∷ []) (alone i) (groups-behind items i ∙ ap (λ gs. behind gs i) e ∙ behind-new closed g i t) in
        let later = group i.section ((i.content ∷ []) ++ r.0) ∷ r.1 in
        ([], later, ap groups here ∙ r.2 ∙ append_assoc closed (g ∷ []) later ∙ ap (λ bs. closed ++ group g.section bs ∷ later) (sym (append-nil g.items)))

pub short_one : (closed : List Group) (g : Group) (later : List Group) → EachShort (closed ++ g ∷ later) → Word (length g.items) × Word (length (body g))
short_one [] g later t = (t.0, t.1)
short_one (h ∷ closed) g later t = short_one closed g later t.2

-- where the sections lie hangs on what stands in them in no way
by_front : {A B : Type 0} (f : A → B) (i : Sectioned A) (gs : List (Grouped A)) → in_front (item_by f i) (map (group_by f) gs) ≡ map (group_by f) (in_front i gs)
by_front f i [] = refl
by_front f i (g ∷ gs) = go (shares i.section g.section)
  where
    go : (b : Bool) → (if b then group_by f (group g.section (i.content ∷ g.items)) ∷ map (group_by f) gs else group i.section (f i.content ∷ []) ∷ group_by f g ∷ map (group_by f) gs)
        ≡ map (group_by f) (if b then group g.section (i.content ∷ g.items) ∷ gs else group i.section (i.content ∷ []) ∷ g ∷ gs)
    go true = refl
    go false = refl

pub groups-by : {A B : Type 0} (f : A → B) (is : List (Sectioned A)) → groups (map (item_by f) is) ≡ map (group_by f) (groups is)
groups-by f [] = refl
groups-by f (i ∷ is) = ap (in_front (item_by f i)) (groups-by f is) ∙ by_front f i (groups is)
