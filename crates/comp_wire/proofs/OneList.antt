-- The bytes of sections are those of one list of items.
use Rattle.std.proofs.Common.{◌≡◌, ℕ, List, [], ◌∷◌, ◌++◌, length, refl, sym, ◌∙◌, ap, subst, arith, Bool, true, false, append-nil, if◌then◌else◌}
use Rattle.comp_model.specs.Leb.{uleb}
use Rattle.comp_model.specs.Payloads.{joined}
use Rattle.comp_wire.specs.declared.sections.SectionKind.{SectionKind}
use Rattle.comp_wire.specs.Sections.{is_counted, Item, item, Group, shares, in_front, groups, body, sections}
use Rattle.comp_wire.proofs.Numbers.{cons_is, uleb_ends}
use Rattle.comp_wire.proofs.Groups.{shared, number_is}
use Rattle.comp_wire.proofs.Fields.{framed_ends}

abbrev pub EachItem : (Item → Type 0) → SectionKind → List (List ℕ) → Type 0
EachItem P s [] = Unit {0}
EachItem P s (b ∷ bs) = P (item s b) × EachItem P s bs

abbrev pub EachGroup : (Item → Type 0) → List Group → Type 0
EachGroup P [] = Unit {0}
EachGroup P (g ∷ gs) = EachItem P g.section g.items × EachGroup P gs

abbrev pub Each : (Item → Type 0) → List Item → Type 0
Each P [] = Unit {0}
Each P (i ∷ is) = P i × Each P is

-- a section without a count holds one item
abbrev pub IsLone : Group → Type 0
IsLone g = is_counted g.section ≡ false → length g.items ≡ 1

abbrev pub EachLone : List Group → Type 0
EachLone [] = Unit {0}
EachLone (g ∷ gs) = IsLone g × EachLone gs

each_in_front : (P : Item → Type 0) (i : Item) (gs : List Group) → P i → EachGroup P gs → EachGroup P (in_front i gs)
each_in_front P i [] p q = ((p, tt), tt)
each_in_front P i (g ∷ gs) p q = go (shares i.section g.section) refl
  where
    go : (c : Bool) → shares i.section g.section ≡ c → EachGroup P (if c then record { section = g.section; items = i.content ∷ g.items } ∷ gs else record { section = i.section; items = i.content ∷ [] } ∷ g ∷ gs)
    go true e = ((subst (λ s. P (item s i.content)) (shared i.section g.section e).0 p, q.0), q.1)
    go false e = ((p, tt), q)

lone_in_front : (i : Item) (gs : List Group) → EachLone gs → EachLone (in_front i gs)
lone_in_front i [] q = (λ e. refl, tt)
lone_in_front i (g ∷ gs) q = go (shares i.section g.section) refl
  where
    go : (c : Bool) → shares i.section g.section ≡ c → EachLone (if c then record { section = g.section; items = i.content ∷ g.items } ∷ gs else record { section = i.section; items = i.content ∷ [] } ∷ g ∷ gs)
    go true e = (λ f. let r = shared i.section g.section e in let h : is_counted g.section ≡ true = subst (λ s. is_counted s ≡ true) r.0 r.1 in cc, q.1)
    go false e = (λ f. refl, q)

pub each_of_groups : (P : Item → Type 0) (is : List Item) → Each P is → EachGroup P (groups is)
each_of_groups P [] p = tt
each_of_groups P (i ∷ is) p = each_in_front P i (groups is) p.0 (each_of_groups P is p.1)

pub lone_of_groups : (is : List Item) → EachLone (groups is)
lone_of_groups [] = tt
lone_of_groups (i ∷ is) = lone_in_front i (groups is) (lone_of_groups is)

-- the items of the groups, in order
tagged : SectionKind → List (List ℕ) → List Item
tagged s [] = []
tagged s (b ∷ bs) = item s b ∷ tagged s bs

flat : List Group → List Item
flat [] = []
flat (g ∷ gs) = tagged g.section g.items ++ flat gs

flat-in_front : (i : Item) (gs : List Group) → flat (in_front i gs) ≡ i ∷ flat gs
unfolding flat tagged
flat-in_front i [] = refl
flat-in_front i (g ∷ gs) = go (shares i.section g.section) refl
  where
    go : (c : Bool) → shares i.section g.section ≡ c → flat (if c then record { section = g.section; items = i.content ∷ g.items } ∷ gs else record { section = i.section; items = i.content ∷ [] } ∷ g ∷ gs) ≡ i ∷ flat (g ∷ gs)
    go true e = ap (λ s. item s i.content ∷ flat (g ∷ gs)) (sym (shared i.section g.section e).0)
    go false e = refl

flat-groups : (is : List Item) → flat (groups is) ≡ is
unfolding flat
flat-groups [] = refl
flat-groups (i ∷ is) = flat-in_front i (groups is) ∙ ap (λ js. i ∷ js) (flat-groups is)

-- What an item of a counted section must meet, where Good says what may stand in its place.
abbrev pub ItemLaw : (Item → Type 0) → Item → Type 0
ItemLaw Good i = is_counted i.section ≡ true → (c : List ℕ) → Good (item i.section c) → (a b : List ℕ) → i.content ++ a ≡ c ++ b → (i.content ≡ c) × (a ≡ b)

group_is : (s t : SectionKind) (bs cs : List (List ℕ)) → s ≡ t → bs ≡ cs → ◌≡◌ {A = Group} (record { section = s; items = bs }) (record { section = t; items = cs })
group_is s t bs cs e f = ap (λ r. record { section = r; items = bs }) e ∙ ap (λ r. record { section = t; items = r }) f

module _ (Good : Item → Type 0) where
  joined_law : (s : SectionKind) (bs cs : List (List ℕ)) → is_counted s ≡ true → EachItem (ItemLaw Good) s bs → EachItem Good s cs → length bs ≡ length cs → joined bs ≡ joined cs → bs ≡ cs
  joined_law s [] [] k p q l e = refl
  joined_law s [] (c ∷ cs) k p q l e = absurd (omega arith)
  joined_law s (b ∷ bs) [] k p q l e = absurd (omega arith)
  joined_law s (b ∷ bs) (c ∷ cs) k p q l e =
      let first = p.0 k c q.0 (joined bs) (joined cs) e in
      let others = joined_law s bs cs k p.1 q.1 (omega arith) first.1 in
      let f : b ≡ c = first.0 in
      cc

  lone_law : (bs cs : List (List ℕ)) → length bs ≡ 1 → length cs ≡ 1 → joined bs ≡ joined cs → bs ≡ cs
  lone_law [] cs l k e = absurd (omega arith)
  lone_law (b ∷ b2 ∷ bs) cs l k e = absurd (omega arith)
  lone_law (b ∷ []) [] l k e = absurd (omega arith)
  lone_law (b ∷ []) (c ∷ []) l k e = ap (λ x. x ∷ []) (sym (append-nil b) ∙ e ∙ append-nil c)
  lone_law (b ∷ []) (c ∷ c2 ∷ cs) l k e = absurd (omega arith)

  body_law : (s : SectionKind) (bs cs : List (List ℕ)) → EachItem (ItemLaw Good) s bs → EachItem Good s cs → (is_counted s ≡ false → length bs ≡ 1) → (is_counted s ≡ false → length cs ≡ 1)
      → body (record { section = s; items = bs }) ≡ body (record { section = s; items = cs }) → bs ≡ cs
  body_law s bs cs p q l k e = go (is_counted s) refl e
    where
      go : (c : Bool) → is_counted s ≡ c → (if c then uleb (length bs) ++ joined bs else joined bs) ≡ (if c then uleb (length cs) ++ joined cs else joined cs) → bs ≡ cs
      go true d e = let r = uleb_ends (length bs) (length cs) (joined bs) (joined cs) e in joined_law s bs cs d p q r.0 r.1
      go false d e = lone_law bs cs (l d) (k d) e

  group_law : (g h : Group) → g.section ≡ h.section → EachItem (ItemLaw Good) g.section g.items → EachItem Good h.section h.items → IsLone g → IsLone h → body g ≡ body h → g ≡ h
  group_law g h s p q l k e =
      let same = body_law g.section g.items h.items p (subst (λ t. EachItem Good t h.items) (sym s) q) l (subst (λ t. is_counted t ≡ false → length h.items ≡ 1) (sym s) k) (e ∙ ap (λ t. body (record { section = t; items = h.items })) (sym s)) in
      group_is g.section h.section g.items h.items s same

  sections_law : (gs hs : List Group) → EachGroup (ItemLaw Good) gs → EachGroup Good hs → EachLone gs → EachLone hs → sections gs ≡ sections hs → gs ≡ hs
  sections_law [] [] p q l k e = refl
  sections_law [] (h ∷ hs) p q l k e = cc
  sections_law (g ∷ gs) [] p q l k e = cc
  sections_law (g ∷ gs) (h ∷ hs) p q l k e =
      let heads = cons_is _ _ _ _ e in
      let bodies = framed_ends (body g) (body h) (sections gs) (sections hs) heads.1 in
      let first = group_law g h (number_is g.section h.section heads.0) p.0 q.0 l.0 k.0 bodies.0 in
      let others = sections_law gs hs p.1 q.1 l.1 k.1 bodies.1 in
      cc

  pub items_law : (is js : List Item) → Each (ItemLaw Good) is → Each Good js → sections (groups is) ≡ sections (groups js) → is ≡ js
  items_law is js p q e =
      let same = sections_law (groups is) (groups js) (each_of_groups _ is p) (each_of_groups Good js q) (lone_of_groups is) (lone_of_groups js) e in
      sym (flat-groups is) ∙ ap flat same ∙ flat-groups js
