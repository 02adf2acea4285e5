-- What a registry finds, in slots and by keys.
use Rattle.std.proofs.Common.{◌≡◌, ℕ, Bool, true, false, true≢false, ◌&&◌, cond, nat_eq, bytes_eq, length, Option, Some, None, is_some, refl, sym, ◌∙◌, ap}
use Rattle.std.proofs.lemmas.Bool.{eqb-true}
use Rattle.std.specs.Ordering.{is_eq}
use Rattle.comp_model.specs.Core.{Text, Id, same_id}
use Rattle.comp_model.specs.declared.Space.{Space}
use Rattle.comp_model.specs.Spaces.{code_of_space, same_space}
use Rattle.comp_scopes.specs.Names.{first_of_two}
use Rattle.name_ends.specs.Endings.{ending}
use Rattle.open_scopes.specs.declared.registry.Item.{Item}
use Rattle.open_scopes.specs.declared.registry.Registry.{Registry}
use Rattle.open_scopes.specs.Numbered.{numbered_at}
use Rattle.open_scopes.specs.Registered.{IsKey, Key, key_cmp, item_at, item_among, numbered_in, found_in}
use Rattle.open_scopes.proofs.Keys.{added, split-and, same-text, by-parts, item-replaced}

-- ids that are one are found alike
module _ (r : Registry) (s sp : Space) (x y : Id) (one : (same_space s sp && same_id x y) ≡ true) where
  parts : (code_of_space s ≡ code_of_space sp) × (x.name ≡ y.name) × (x.number ≡ y.number)
  parts =
      let p = split-and (same_space s sp) (same_id x y) one in
      let q = split-and (bytes_eq x.name y.name) (nat_eq x.number y.number) p.1 in
      (eqb-true (code_of_space s) (code_of_space sp) p.0, same-text x.name y.name q.0, eqb-true x.number y.number q.1)

  abbrev at-parts : ℕ → Text → ℕ → Option Item
  at-parts c t n = cond (nat_eq (length t) 0) (numbered_at r.numbered c n) None

  pub slot-alike : numbered_in r s x ≡ numbered_in r sp y
  slot-alike = ap (λ c. at-parts c x.name x.number) parts.0 ∙ ap (λ t. at-parts (code_of_space sp) t x.number) parts.1 ∙ ap (λ n. at-parts (code_of_space sp) y.name n) parts.2

  abbrev keyed : Text → ℕ → ℕ → Text → Option Item
  keyed e c n t = by-parts r.items.entries (ending e) c n t

  item-alike : item_among r.items.entries s x ≡ item_among r.items.entries sp y
  item-alike = ap (λ t. keyed t (code_of_space s) x.number t) parts.1 ∙ ap (λ c. keyed y.name c x.number y.name) parts.0 ∙ ap (λ n. keyed y.name (code_of_space sp) n y.name) parts.2

  pub found-alike : found_in r s x ≡ found_in r sp y
  found-alike = ap (λ z. first_of_two z (item_among r.items.entries s x)) slot-alike ∙ ap (first_of_two (numbered_in r sp y)) item-alike

pub found-put : (q : Bool) (i : Item) (n m : Option Item) → first_of_two (cond q (Some i) n) m ≡ cond q (Some i) (first_of_two n m)
found-put true i n m = refl
found-put false i n m = refl

pub found-beside : (q : Bool) (i : Item) (n m : Option Item) → (q ≡ true → n ≡ None) → first_of_two n (cond q (Some i) m) ≡ cond q (Some i) (first_of_two n m)
found-beside true i n m h = ap (λ z. first_of_two z (Some i)) (h refl)
found-beside false i n m h = refl

-- ---- one more item

module _ (old new : Registry) (sp : Space) (y : Id) (item : Item) where
  abbrev Replaced : Type 0
  Replaced = (s : Space) (x : Id) → found_in new s x ≡ cond (same_space s sp && same_id x y) (Some item) (found_in old s x)

  -- in a slot
  pub by-slot : new.items ≡ old.items → ((s : Space) (x : Id) → numbered_in new s x ≡ cond (same_space s sp && same_id x y) (Some item) (numbered_in old s x)) → Replaced
  by-slot same put s x =
      ap (λ z. first_of_two z (item_among new.items.entries s x)) (put s x)
      ∙ ap (λ m. first_of_two (cond (same_space s sp && same_id x y) (Some item) (numbered_in old s x)) (item_among m.entries s x)) same
      ∙ found-put (same_space s sp && same_id x y) item (numbered_in old s x) (item_among old.items.entries s x)

  -- or under its key
  pub by-key : numbered_in old sp y ≡ None → ((s : Space) (x : Id) → numbered_in new s x ≡ numbered_in old s x) → (k : Key) → IsKey k sp y → ((q : Key) → item_at new.items.entries q ≡ cond (is_eq (key_cmp k q)) (Some item) (item_at old.items.entries q)) → Replaced
  by-key none same k key put s x =
      ap (λ z. first_of_two z (item_among new.items.entries s x)) (same s x)
      ∙ ap (first_of_two (numbered_in old s x)) (item-replaced old.items.entries new.items.entries k sp y item key put s x)
      ∙ found-beside (same_space s sp && same_id x y) item (numbered_in old s x) (item_among old.items.entries s x) (λ one. slot-alike old s sp x y one ∙ none)

  -- where none bore the id
  pub is-added : found_in old sp y ≡ None → Replaced → (s : Space) (x : Id) → found_in new s x ≡ first_of_two (found_in old s x) (cond (same_space s sp && same_id x y) (Some item) None)
  is-added free put s x = added (found_in old s x) (found_in new s x) (same_space s sp && same_id x y) item (λ one. found-alike old s sp x y one ∙ free) (put s x)

-- ---- the slots are as they were

pub none-of : (o : Option Item) → false ≡ is_some o → o ≡ None
none-of None e = refl
none-of (Some i) e = absurd (true≢false (sym e))

pub found-same : (old new : Registry) (s : Space) (x : Id) → numbered_in new s x ≡ numbered_in old s x → new.items ≡ old.items → found_in new s x ≡ found_in old s x
found-same old new s x h e = ap (λ z. first_of_two z (item_among new.items.entries s x)) h ∙ ap (λ m. first_of_two (numbered_in old s x) (item_among m.entries s x)) e
