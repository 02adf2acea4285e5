-- Open scopes, and those of the model that they show.
use Rattle.std.proofs.Common.{◌≡◌, ◌<◌, ◌≤◌, ℕ, zero, suc, ◌+◌, Bool, true, false, cond, length, List, [], ◌∷◌, ◌++◌, reverse, map, drop, drop_of_length-le, Option, Some, None, option_map, slice_get, slice_index, get_or, IsSomeAnd, nat_lt, refl, sym, ◌∙◌, ap, subst, arith, add-zero}
use Rattle.std.proofs.lemmas.Bool.Decides.{nat_tests}
use Rattle.std.proofs.lemmas.List.{drop_more, get_or_default, length-reverse, reverse-append}
use Rattle.std.proofs.lemmas.Option.{get_or_from_slice_get, slice_get_within}
use Rattle.comp_model.specs.declared.Space.{Space}
use Rattle.comp_model.specs.Core.{Id}
use Rattle.comp_model.specs.Spaces.{Declaration, bears}
use Rattle.comp_scopes.specs.Names.{Denoted, at_depth, first_of_two}
use Rattle.comp_tables.specs.Tables.{Opened, found_outward, found_at, opened_named, table_at, index_at}
use Rattle.comp_walks.specs.Lent.{id_of}
use Rattle.open_scopes.specs.declared.registry.Item.{Item}
use Rattle.open_scopes.specs.declared.scopes.Open.{Open}
use Rattle.open_scopes.specs.declared.lookup.Found.{Found}
use Rattle.open_scopes.specs.Registered.{found_in, item_of}
use Rattle.open_scopes.specs.Indexed.{IsInTable, AreIndexed, AllIndexed, OpenIndexed, IsIndexed}
use Rattle.open_scopes.specs.Shown.{Shows, ScopesShow, OpenScopesShow, found_of}

-- ---- scopes one beside the other

pub shown-length : (os : List Open) (ms : List Opened) → ScopesShow os ms → length ms ≡ length os
shown-length [] [] h = refl
shown-length [] (m ∷ ms) h = absurd h
shown-length (o ∷ os) [] h = absurd h
shown-length (o ∷ os) (m ∷ ms) h = let e : length ms ≡ length os = shown-length os ms h.1 in omega (arith, e)

-- the scope of a depth has one beside it
pub shown-at : (os : List Open) (ms : List Opened) (k : ℕ) (o : Open) → ScopesShow os ms → slice_get os k ≡ Some o → (m : Opened) × (slice_get ms k ≡ Some m) × Shows o m
shown-at [] ms k o h e = cc
shown-at (p ∷ os) [] k o h e = absurd h
shown-at (p ∷ os) (m ∷ ms) zero o h e = let same : p ≡ o = cc in (m, refl, subst (λ z. Shows z m) same h.0)
shown-at (p ∷ os) (m ∷ ms) (suc k) o h e = shown-at os ms k o h.1 e

pub indexed-at : (os : List Open) (k : ℕ) (o : Open) → AllIndexed os → slice_get os k ≡ Some o → AreIndexed o.names o.table.items
indexed-at [] k o h e = cc
indexed-at (p ∷ os) zero o h e = let same : p ≡ o = cc in subst (λ z. AreIndexed z.names z.table.items) same h.0
indexed-at (p ∷ os) (suc k) o h e = indexed-at os k o h.1 e

-- ---- a scope more

pub pushed-shows : (scopes : List Open) (o : Open) (ms : List Opened) (m : Opened) → OpenScopesShow scopes ms → Shows o m → OpenScopesShow (scopes ++ o ∷ []) (m ∷ ms)
pushed-shows scopes o ms m h new = subst (λ z. ScopesShow z (m ∷ ms)) (sym (reverse-append scopes (o ∷ []))) (new, h)

pub pushed-indexed : (scopes : List Open) (o : Open) → OpenIndexed scopes → AreIndexed o.names o.table.items → OpenIndexed (scopes ++ o ∷ [])
pushed-indexed scopes o h new = subst AllIndexed (sym (reverse-append scopes (o ∷ []))) (new, h)

-- ---- each scope stands for one of the model

abbrev declaration : Space → Id → Item → Declaration
declaration s x i = record { space = s; id = Some x; definition = i.definition; part = i.part }

abbrev model_of : Open → Opened
model_of o = record { id = option_map id_of o.id; names = λ s x. option_map (declaration s x) (found_in o.names s x); table = o.table.items }

model-shown : (os : List Open) → ScopesShow os (map model_of os)
model-shown [] = tt
model-shown (o ∷ os) = (record { id = refl; names = λ s x. same-item s x (found_in o.names s x); table = refl }, model-shown os)
  where
    same-item : (s : Space) (x : Id) (i : Option Item) → i ≡ option_map item_of (option_map (declaration s x) i)
    same-item s x None = refl
    same-item s x (Some i) = refl

pub some-shown : (scopes : List Open) → (ms : List Opened) × OpenScopesShow scopes ms
some-shown scopes = (map model_of (reverse scopes), model-shown (reverse scopes))

-- ---- searches outward, scope by scope

next : (ms : List Opened) (k : ℕ) (m : Opened) → slice_get ms k ≡ Some m → drop k ms ≡ m ∷ drop (k + 1) ms
next ms k m e = drop_more ms k m (slice_get_within ms k m e) ∙ ap (λ z. z ∷ drop (k + 1) ms) (get_or_from_slice_get ms k m m e)

none-mapped : (o : Option Declaration) → option_map item_of o ≡ None → o ≡ None
none-mapped None e = refl
none-mapped (Some d) e = cc

first-here : (o : Option Declaration) (i : Item) (d : ℕ) (rest : Option Denoted) → option_map item_of o ≡ Some i → option_map found_of (first_of_two (at_depth d o) rest) ≡ Some (record { depth = d; item = i })
first-here None i d rest e = cc
first-here (Some x) i d rest e = let same : item_of x ≡ i = cc in ap (λ (z : Item). Some (record { depth = d; item = z })) same

-- what a search behind the scopes of smaller depth finds is what the whole finds
abbrev pub Outward : List Open → Space → Id → ℕ → Type 0
Outward scopes s x d = (ms : List Opened) → OpenScopesShow scopes ms → found_outward 0 ms s x ≡ found_outward d (drop d ms) s x

pub outward-passed : (scopes : List Open) (s : Space) (x : Id) (d : ℕ) (o : Open) → slice_get (reverse scopes) d ≡ Some o → found_in o.names s x ≡ None → Outward scopes s x d → Outward scopes s x (d + 1)
outward-passed scopes s x d o here none before ms h =
    let beside = shown-at (reverse scopes) ms d o h here in
    let absent : beside.0.names s x ≡ None = none-mapped (beside.0.names s x) (sym (beside.2.names s x) ∙ none) in
    before ms h ∙ ap (λ l. found_outward d l s x) (next ms d beside.0 beside.1) ∙ ap (λ v. first_of_two (at_depth d v) (found_outward (d + 1) (drop (d + 1) ms) s x)) absent

pub outward-here : (scopes : List Open) (s : Space) (x : Id) (d : ℕ) (o : Open) (i : Item) → slice_get (reverse scopes) d ≡ Some o → found_in o.names s x ≡ Some i → Outward scopes s x d
    → (ms : List Opened) → OpenScopesShow scopes ms → Some (record { depth = d; item = i }) ≡ option_map found_of (found_outward 0 ms s x)
outward-here scopes s x d o i here some before ms h =
    let beside = shown-at (reverse scopes) ms d o h here in
    sym (ap (option_map found_of) (before ms h ∙ ap (λ l. found_outward d l s x) (next ms d beside.0 beside.1)) ∙ first-here (beside.0.names s x) i d (found_outward (d + 1) (drop (d + 1) ms) s x) (sym (beside.2.names s x) ∙ some))

pub as-many : (scopes : List Open) (ms : List Opened) → OpenScopesShow scopes ms → length ms ≡ length scopes
as-many scopes ms h = shown-length (reverse scopes) ms h ∙ length-reverse scopes

-- behind the last scope nothing is left
all-passed : (scopes : List Open) (ms : List Opened) (d : ℕ) → OpenScopesShow scopes ms → length scopes ≤ d → drop d ms ≡ []
all-passed scopes ms d h l = let n : length ms ≡ length scopes = as-many scopes ms h in drop_of_length-le ms (omega (arith, n, l))

pub outward-nowhere : (scopes : List Open) (s : Space) (x : Id) (d : ℕ) → length scopes ≤ d → Outward scopes s x d → (ms : List Opened) → OpenScopesShow scopes ms → None ≡ option_map found_of (found_outward 0 ms s x)
outward-nowhere scopes s x d l before ms h = sym (ap (option_map found_of) (before ms h ∙ ap (λ l. found_outward d l s x) (all-passed scopes ms d h l)))

-- so for the scope of an id
abbrev pub Named : List Open → Id → ℕ → Type 0
Named scopes x d = (ms : List Opened) → OpenScopesShow scopes ms → opened_named 0 ms x ≡ opened_named d (drop d ms) x

named-left : (scopes : List Open) (x : Id) (d : ℕ) (o : Open) (b : Bool) → slice_get (reverse scopes) d ≡ Some o → b ≡ bears x (option_map id_of o.id) → Named scopes x d
    → (ms : List Opened) → OpenScopesShow scopes ms → opened_named 0 ms x ≡ cond b (Some d) (opened_named (d + 1) (drop (d + 1) ms) x)
named-left scopes x d o b here is before ms h =
    let beside = shown-at (reverse scopes) ms d o h here in
    before ms h ∙ ap (λ l. opened_named d l x) (next ms d beside.0 beside.1) ∙ ap (λ z. cond z (Some d) (opened_named (d + 1) (drop (d + 1) ms) x)) (sym (is ∙ ap (bears x) beside.2.id))

pub named-passed : (scopes : List Open) (x : Id) (d : ℕ) (o : Open) (b : Bool) → slice_get (reverse scopes) d ≡ Some o → b ≡ bears x (option_map id_of o.id) → b ≡ false → Named scopes x d → Named scopes x (d + 1)
named-passed scopes x d o b here is no-one before ms h = named-left scopes x d o b here is before ms h ∙ ap (λ z. cond z (Some d) (opened_named (d + 1) (drop (d + 1) ms) x)) no-one

pub named-here : (scopes : List Open) (x : Id) (d : ℕ) (o : Open) (b : Bool) → slice_get (reverse scopes) d ≡ Some o → b ≡ bears x (option_map id_of o.id) → b ≡ true → Named scopes x d
    → (ms : List Opened) → OpenScopesShow scopes ms → Some d ≡ opened_named 0 ms x
named-here scopes x d o b here is one before ms h = sym (named-left scopes x d o b here is before ms h ∙ ap (λ z. cond z (Some d) (opened_named (d + 1) (drop (d + 1) ms) x)) one)

pub named-nowhere : (scopes : List Open) (x : Id) (d : ℕ) → length scopes ≤ d → Named scopes x d → (ms : List Opened) → OpenScopesShow scopes ms → None ≡ opened_named 0 ms x
named-nowhere scopes x d l before ms h = sym (before ms h ∙ ap (λ l. opened_named d l x) (all-passed scopes ms d h l))

-- ---- the scope of one depth

at-that : (ms : List Opened) (e k : ℕ) (m : Opened) (s : Space) (x : Id) → slice_get ms k ≡ Some m → found_at e ms k s x ≡ at_depth (e + k) (m.names s x)
at-that [] e k m s x h = cc
at-that (p ∷ ms) e zero m s x h = let same : p ≡ m = cc in ap (λ z. at_depth e (z.names s x)) same ∙ ap (λ n. at_depth n (m.names s x)) (sym (add-zero e))
at-that (p ∷ ms) e (suc k) m s x h = at-that ms (e + 1) k m s x h ∙ ap (λ n. at_depth n (m.names s x)) (let n : (e + 1) + k ≡ e + suc k = omega arith in n)

past-all : (ms : List Opened) (e k : ℕ) (s : Space) (x : Id) → length ms ≤ k → found_at e ms k s x ≡ None
past-all [] e k s x h = refl
past-all (m ∷ ms) e zero s x h = absurd (omega (arith, h))
past-all (m ∷ ms) e (suc k) s x h = past-all ms (e + 1) k s x (omega (arith, h))

at-depth-item : (o : Option Declaration) (r : Option Item) (d : ℕ) → r ≡ option_map item_of o → option_map (λ i. record { depth = d; item = i }) r ≡ option_map found_of (at_depth d o)
at-depth-item None r d e = ap (option_map (λ i. record { depth = d; item = i })) e
at-depth-item (Some x) r d e = ap (option_map (λ i. record { depth = d; item = i })) e

pub at-found : (scopes : List Open) (s : Space) (x : Id) (d : ℕ) (o : Open) (r : Option Item) → slice_get (reverse scopes) d ≡ Some o → r ≡ found_in o.names s x
    → (ms : List Opened) → OpenScopesShow scopes ms → option_map (λ i. record { depth = d; item = i }) r ≡ option_map found_of (found_at 0 ms d s x)
at-found scopes s x d o r here is ms h =
    let beside = shown-at (reverse scopes) ms d o h here in
    at-depth-item (beside.0.names s x) r d (is ∙ beside.2.names s x) ∙ ap (option_map found_of) (ap (λ n. at_depth n (beside.0.names s x)) (let n : d ≡ 0 + d = omega arith in n) ∙ sym (at-that ms 0 d beside.0 s x beside.1))

pub at-nowhere : (scopes : List Open) (s : Space) (x : Id) (d : ℕ) → length scopes ≤ d → (ms : List Opened) → OpenScopesShow scopes ms → None ≡ option_map found_of (found_at 0 ms d s x)
at-nowhere scopes s x d l ms h =
    let n : length ms ≡ length scopes = as-many scopes ms h in sym (ap (option_map found_of) (past-all ms 0 d s x (omega (arith, n, l))))

-- ---- counts of scopes outward

pub count-within : (scopes : List Open) (ms : List Opened) (d : ℕ) → OpenScopesShow scopes ms → d < length scopes → nat_lt d (length ms) ≡ true
count-within scopes ms d h l = let n : length ms ≡ length scopes = as-many scopes ms h in grind (arith, nat_tests, n, l)

pub count-past : (scopes : List Open) (ms : List Opened) (d : ℕ) → OpenScopesShow scopes ms → length scopes ≤ d → nat_lt d (length ms) ≡ false
count-past scopes ms d h l = let n : length ms ≡ length scopes = as-many scopes ms h in grind (arith, nat_tests, n, l)

-- ---- tables

table-at : (ms : List Opened) (k : ℕ) (m : Opened) → slice_get ms k ≡ Some m → table_at ms k ≡ m.table
table-at [] k m e = cc
table-at (p ∷ ms) zero m e = let same : p ≡ m = cc in ap (λ z. z.table) same
table-at (p ∷ ms) (suc k) m e = table-at ms k m e

denoted-index : (scopes : List Open) (o : Open) (d : Denoted) (n : ℕ) → slice_get (reverse scopes) d.depth ≡ Some o → n ≡ slice_index o.table.items d.item.definition → (ms : List Opened) → OpenScopesShow scopes ms → n + d.item.part ≡ index_at ms d
denoted-index scopes o d n here is ms h =
    let beside = shown-at (reverse scopes) ms d.depth o h here in
    ap (λ (v : ℕ). v + d.item.part) (is ∙ ap (λ t. slice_index t d.item.definition) (beside.2.table ∙ sym (table-at ms d.depth beside.0 beside.1)))

-- where an item has an index, it is by its own scope and table
pub index-here : (scopes : List Open) (o : Open) (f : Found) (n : ℕ) → slice_get (reverse scopes) f.depth ≡ Some o → IsIndexed scopes f → n ≡ get_or o.table.items f.item.definition n
    → (ms : List Opened) (d : Denoted) → OpenScopesShow scopes ms → f ≡ found_of d → n + f.item.part ≡ index_at ms d
index-here scopes o f n here indexed is ms d h e =
    let within : IsInTable o.table.items f.item = subst (λ r. IsSomeAnd r (λ p. IsInTable p.table.items f.item)) here indexed in
    subst (λ g. slice_get (reverse scopes) g.depth ≡ Some o → n ≡ slice_index o.table.items g.item.definition → n + g.item.part ≡ index_at ms d) (sym e) (λ a b. denoted-index scopes o d n a b ms h) here
    (is ∙ get_or_default o.table.items f.item.definition n 0 within.0)

-- the item that is found there has an index
pub indexed-here : (scopes : List Open) (o : Open) (d : ℕ) (i : Item) (s : Space) (x : Id) → slice_get (reverse scopes) d ≡ Some o → found_in o.names s x ≡ Some i → OpenIndexed scopes → IsIndexed scopes (record { depth = d; item = i })
indexed-here scopes o d i s x here some h = subst (λ r. IsSomeAnd r (λ p. IsInTable p.table.items i)) (sym here) (indexed-at (reverse scopes) d o h here s x i some)
