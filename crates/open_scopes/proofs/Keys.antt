-- The keys of a registry.
use Rattle.std.proofs.Common.{◌≡◌, ℕ, Bool, true, false, ◌&&◌, cond, Option, Some, None, bytes_eq, nat_eq, refl, sym, ◌∙◌, ap, arith, true≢false}
use Rattle.std.proofs.lemmas.Bool.{eqb-true}
use Rattle.std.proofs.lemmas.Bool.Decides.{nat_tests}
use Rattle.std.proofs.lemmas.Cmp.{nat_list_eq_equiv, nat_eq_equiv}
use Rattle.std.proofs.lemmas.Slice.Eq.{bytes_eq-Decides}
use Rattle.std.proofs.lemmas.Map.Text.{is_eq-slice_cmp}
use Rattle.std.specs.Ordering.{is_eq, nat_cmp, ordering_then}
use Rattle.std.specs.Cmp.Lexicographic.{slice_cmp}
use Rattle.comp_model.specs.declared.Space.{Space}
use Rattle.comp_model.specs.Core.{Text, Id, same_id}
use Rattle.comp_model.specs.Spaces.{code_of_space, same_space}
use Rattle.comp_scopes.specs.Names.{first_of_two}
use Rattle.name_ends.specs.Endings.{ending}
use Rattle.name_ends.proofs.Keys.{then-equal, numbers-equal}
use Rattle.open_scopes.specs.declared.registry.Item.{Item}
use Rattle.open_scopes.specs.Registered.{Key, key_cmp, IsKey, ItemEntries, item_at, item_among}

-- two keys compare as equal where their parts are one
one-key : (a b : Key) → is_eq (key_cmp a b) ≡ ((nat_eq a.0.0 b.0.0 && nat_eq a.0.1 b.0.1) && (nat_eq a.1.0 b.1.0 && bytes_eq a.1.1.now b.1.1.now))
one-key a b = then-equal (ordering_then (nat_cmp a.0.0 b.0.0) (nat_cmp a.0.1 b.0.1)) (ordering_then (nat_cmp a.1.0 b.1.0) (slice_cmp nat_cmp a.1.1.now b.1.1.now)) (nat_eq a.0.0 b.0.0 && nat_eq a.0.1 b.0.1) (nat_eq a.1.0 b.1.0 && bytes_eq a.1.1.now b.1.1.now)
    (then-equal (nat_cmp a.0.0 b.0.0) (nat_cmp a.0.1 b.0.1) (nat_eq a.0.0 b.0.0) (nat_eq a.0.1 b.0.1) (numbers-equal a.0.0 b.0.0) (numbers-equal a.0.1 b.0.1))
    (then-equal (nat_cmp a.1.0 b.1.0) (slice_cmp nat_cmp a.1.1.now b.1.1.now) (nat_eq a.1.0 b.1.0) (bytes_eq a.1.1.now b.1.1.now) (numbers-equal a.1.0 b.1.0) (is_eq-slice_cmp a.1.1.now b.1.1.now))

eq-self : (n : ℕ) → nat_eq n n ≡ true
eq-self n = grind (arith, nat_tests)

pub same-text : (x y : Text) → bytes_eq x y ≡ true → x ≡ y
same-text x y e = (bytes_eq-Decides x y).0 e

pub split-and : (a b : Bool) → (a && b) ≡ true → (a ≡ true) × (b ≡ true)
split-and true b e = (refl, e)
split-and false b e = absurd (true≢false (sym e))

-- what is told by the ends of names is told by the names
told : (e c n b : Bool) → (b ≡ true → e ≡ true) → ((e && c) && (n && b)) ≡ (c && (b && n))
told true true true true h = refl
told true true true false h = refl
told true true false true h = refl
told true true false false h = refl
told true false n true h = refl
told true false n false h = refl
told false true true true h = absurd (true≢false (sym (h refl)))
told false true false true h = refl
told false true n false h = refl
told false false n true h = refl
told false false n false h = refl

same-end : (x y : Text) → bytes_eq x y ≡ true → nat_eq (ending y) (ending x) ≡ true
same-end x y e = ap (λ t. nat_eq (ending y) (ending t)) (same-text x y e) ∙ eq-self (ending y)

-- the item that bears an id is the one under its key
abbrev pub by-parts : ItemEntries → ℕ → ℕ → ℕ → Text → Option Item
by-parts items e c n t = item_at items ((e, c), (n, record { ref_ptr = (0, 0); now = t }))

pub at-key : (items : ItemEntries) (k : Key) (s : Space) (x : Id) → IsKey k s x → item_at items k ≡ item_among items s x
at-key items k s x h =
    ap (λ e. by-parts items e k.0.1 k.1.0 k.1.1.now) h.end ∙ ap (λ c. by-parts items (ending x.name) c k.1.0 k.1.1.now) h.space
    ∙ ap (λ n. by-parts items (ending x.name) (code_of_space s) n k.1.1.now) h.number ∙ ap (λ t. by-parts items (ending x.name) (code_of_space s) x.number t) h.name

-- what is there stays, and the new one is found by its id
pub added : {A : Type 0} (before after : Option A) (b : Bool) (i : A) → (b ≡ true → before ≡ None) → after ≡ cond b (Some i) before → after ≡ first_of_two before (cond b (Some i) None)
added before after true i h e = e ∙ ap (λ z. first_of_two z (Some i)) (sym (h refl))
added (Some j) after false i h e = e
added None after false i h e = e

module _ (items new : ItemEntries) (k : Key) (sp : Space) (y : Id) (item : Item) (h : IsKey k sp y) (put : (q : Key) → item_at new q ≡ cond (is_eq (key_cmp k q)) (Some item) (item_at items q)) where
  same-key : (s : Space) (x : Id) → is_eq (key_cmp k ((ending x.name, code_of_space s), (x.number, record { ref_ptr = (0, 0); now = x.name }))) ≡ (same_space s sp && same_id x y)
  same-key s x =
      one-key k ((ending x.name, code_of_space s), (x.number, record { ref_ptr = (0, 0); now = x.name }))
      ∙ ap (λ e. (nat_eq e (ending x.name) && nat_eq k.0.1 (code_of_space s)) && (nat_eq k.1.0 x.number && bytes_eq k.1.1.now x.name)) h.end
      ∙ ap (λ b. (nat_eq (ending y.name) (ending x.name) && b) && (nat_eq k.1.0 x.number && bytes_eq k.1.1.now x.name)) (ap (λ c. nat_eq c (code_of_space s)) h.space ∙ nat_eq_equiv.symm (code_of_space sp) (code_of_space s))
      ∙ ap (λ b. (nat_eq (ending y.name) (ending x.name) && same_space s sp) && (b && bytes_eq k.1.1.now x.name)) (ap (λ n. nat_eq n x.number) h.number ∙ nat_eq_equiv.symm y.number x.number)
      ∙ ap (λ b. (nat_eq (ending y.name) (ending x.name) && same_space s sp) && (nat_eq x.number y.number && b)) (ap (λ t. bytes_eq t x.name) h.name ∙ nat_list_eq_equiv.symm y.name x.name)
      ∙ told (nat_eq (ending y.name) (ending x.name)) (same_space s sp) (nat_eq x.number y.number) (bytes_eq x.name y.name) (same-end x.name y.name)

  -- the item stands under its id, and each other where it did
  pub item-replaced : (s : Space) (x : Id) → item_among new s x ≡ cond (same_space s sp && same_id x y) (Some item) (item_among items s x)
  item-replaced s x = put ((ending x.name, code_of_space s), (x.number, record { ref_ptr = (0, 0); now = x.name })) ∙ ap (λ z. cond z (Some item) (item_among items s x)) (same-key s x)

  -- where none bore the id, it is one more
  pub item-added : item_among items sp y ≡ None → (s : Space) (x : Id) → item_among new s x ≡ first_of_two (item_among items s x) (cond (same_space s sp && same_id x y) (Some item) None)
  item-added free s x = added (item_among items s x) (item_among new s x) (same_space s sp && same_id x y) item here-free (item-replaced s x)
    where
      here-free : (same_space s sp && same_id x y) ≡ true → item_among items s x ≡ None
      here-free a =
          let p = split-and (same_space s sp) (same_id x y) a in
          let q = split-and (bytes_eq x.name y.name) (nat_eq x.number y.number) p.1 in
          ap (λ t. by-parts items (ending t) (code_of_space s) x.number t) (same-text x.name y.name q.0)
          ∙ ap (λ c. by-parts items (ending y.name) c x.number y.name) (eqb-true (code_of_space s) (code_of_space sp) p.0)
          ∙ ap (λ n. by-parts items (ending y.name) (code_of_space sp) n y.name) (eqb-true x.number y.number q.1) ∙ free
