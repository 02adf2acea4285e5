-- The first id that is borne twice is the same in the expanded scope.
use Rattle.std.proofs.Common.{◌≡◌, ℕ, ◌+◌, Bool, true, false, ◌&&◌, cond, List, [], ◌∷◌, ◌++◌, length, find, is_some, Option, Some, None, refl, sym, ◌∙◌, ap, subst, arith, nat_eq}
use Rattle.comp_model.specs.declared.Space.{Space}
use Rattle.comp_model.specs.declared.row.Row.{Row}
use Rattle.comp_model.specs.Core.{Id, is_of_text, same_id}
use Rattle.comp_model.specs.Model.{Leaves, row, no_names, define, Defs, no_def, one_def, Scope}
use Rattle.comp_model.specs.Spaces.{same_space, declares_row, Declaration, parts, declarations_from}
use Rattle.comp_model.specs.Origins.{Origin, written}
use Rattle.comp_scopes.specs.Rule.{clash, same_name}
use Rattle.comp_scopes.specs.Unmet.{Unmet, unmet, unmet_at_id, duplicate, first_duplicate}
use Rattle.comp_expanded.specs.Expansion.{Naming, Entry, entry_defs, given, with_given, given_names, Expanded, entry, expand_leaves, expand_defs}
use Rattle.comp_expanded.specs.OfText.{TextId, TextIds, DefsOfText}
use Rattle.comp_expanded.specs.Named.{MayBeGiven, NoneBears, OnceBeside, GeneratedOnce, entry_ids, DefsNamed}
use Rattle.comp_expanded.proofs.Ids.{EachListed, Nameless, nameless-leaves, and-false}
use Rattle.comp_expanded.proofs.Index.{same-number, same-generated}
use Rattle.comp_expanded.proofs.Parts.{defs-split}

-- ---- the ids of the text, each with its space

abbrev key_in_front : Space → Option Id → List (Space × Id) → List (Space × Id)
key_in_front s None ks = ks
key_in_front s (Some x) ks = cond (is_of_text x) ((s, x) ∷ ks) ks

abbrev keys_of : List Declaration → List (Space × Id)
keys_of [] = []
keys_of (d ∷ ds) = key_in_front d.space d.id (keys_of ds)

abbrev key_clash : (Space × Id) → (Space × Id) → Bool
key_clash p q = same_space p.0 q.0 && same_id p.1 q.1

abbrev twice : List (Space × Id) → List (Space × Id) → Option Unmet
twice es [] = None
twice es (d ∷ ds) = cond (is_some (find (λ e. key_clash e d) es)) (unmet duplicate d.1.offset) (twice (d ∷ es) ds)

front-app : (s : Space) (x : Option Id) (xs ys : List (Space × Id)) → key_in_front s x (xs ++ ys) ≡ key_in_front s x xs ++ ys
front-app s None xs ys = refl
front-app s (Some x) xs ys = go (is_of_text x)
  where
    go : (b : Bool) → cond b ((s, x) ∷ (xs ++ ys)) (xs ++ ys) ≡ cond b ((s, x) ∷ xs) xs ++ ys
    go true = refl
    go false = refl

keys-app : (xs ys : List Declaration) → keys_of (xs ++ ys) ≡ keys_of xs ++ keys_of ys
keys-app [] ys = refl
keys-app (x ∷ xs) ys = rw (keys-app xs ys) (front-app x.space x.id (keys_of xs) (keys_of ys))

-- ---- only ids of the text are borne twice

abbrev decl_ids : List Declaration → List (Option Id)
decl_ids [] = []
decl_ids (d ∷ ds) = d.id ∷ decl_ids ds

-- no generated id of `es` is borne by `ds`
abbrev Beside : List Declaration → List (Option Id) → Type 0
Beside [] ids = Unit {0}
Beside (e ∷ es) ids = OnceBeside e.id ids × Beside es ids

once-rest : (x y : Option Id) (ys : List (Option Id)) → OnceBeside x (y ∷ ys) → OnceBeside x ys
once-rest None y ys h = tt
once-rest (Some x) y ys h = λ t. (h t).1

beside-rest : (es : List Declaration) (y : Option Id) (ys : List (Option Id)) → Beside es (y ∷ ys) → Beside es ys
beside-rest [] y ys h = tt
beside-rest (e ∷ es) y ys h = (once-rest e.id y ys h.0, beside-rest es y ys h.1)

clash-none : (s t : Space) (x : Option Id) → (same_space s t && same_name x None) ≡ false
clash-none s t None = and-false (same_space s t)
clash-none s t (Some x) = and-false (same_space s t)

none-clashes : (d : Declaration) (es : List Declaration) → d.id ≡ None → is_some (find (λ e. clash e d) es) ≡ false
none-clashes d [] h = refl
none-clashes d (e ∷ es) h =
    let c : clash e d ≡ false = subst (λ y. (same_space e.space d.space && same_name e.id y) ≡ false) (sym h) (clash-none e.space d.space e.id) in
    rw c (none-clashes d es h)

generated-clash : (s t : Space) (y : Option Id) (x : Id) (ids : List (Option Id)) → is_of_text x ≡ false → OnceBeside y (Some x ∷ ids) → (same_space s t && same_name y (Some x)) ≡ false
generated-clash s t None x ids h o = and-false (same_space s t)
generated-clash s t (Some y) x ids h o = rw (go (is_of_text y) refl o) (and-false (same_space s t))
  where
    apart : (b : Bool) → same_id y x ≡ b → is_of_text y ≡ true → b ≡ false
    apart false q t = refl
    apart true q t = let r : x.number ≡ y.number = sym (same-number y x q) in let u : is_of_text x ≡ true = subst (λ n. nat_eq n 0 ≡ true) (sym r) t in absurd (cc)

    go : (b : Bool) → is_of_text y ≡ b → (is_of_text y ≡ false → NoneBears y (Some x ∷ ids)) → same_id y x ≡ false
    go false q n = (n q).0
    go true q n = apart (same_id y x) refl q

generated-clashes : (d : Declaration) (x : Id) (es : List Declaration) (ids : List (Option Id)) → d.id ≡ Some x → is_of_text x ≡ false → Beside es (d.id ∷ ids) → is_some (find (λ e. clash e d) es) ≡ false
generated-clashes d x [] ids h t b = refl
generated-clashes d x (e ∷ es) ids h t b =
    let c : clash e d ≡ false = subst (λ y. (same_space e.space d.space && same_name e.id y) ≡ false) (sym h) (generated-clash e.space d.space e.id x ids t (subst (λ y. OnceBeside e.id (y ∷ ids)) h b.0)) in
    rw c (generated-clashes d x es ids h t b.1)

same-clashes : (d : Declaration) (x : Id) (es : List Declaration) → d.id ≡ Some x → TextId x → is_some (find (λ e. clash e d) es) ≡ is_some (find (λ k. key_clash k (d.space, x)) (keys_of es))
same-clashes d x [] h t = refl
same-clashes d x (e ∷ es) h t = subst (λ y. is_some (cond (same_space e.space d.space && same_name e.id y) (Some e) (find (λ e. clash e d) es)) ≡ is_some (find (λ k. key_clash k (d.space, x)) (key_in_front e.space e.id (keys_of es)))) (sym h) (go e.id (same-clashes d x es h t))
  where
    either : (b : Bool) (w : Space × Id) → is_some (find (λ e. clash e d) es) ≡ is_some (find (λ k. key_clash k (d.space, x)) (keys_of es)) → is_some (cond b (Some e) (find (λ e. clash e d) es)) ≡ is_some (cond b (Some w) (find (λ k. key_clash k (d.space, x)) (keys_of es)))
    either true w q = refl
    either false w q = q

    apart : (y : Id) → is_of_text y ≡ false → (b : Bool) → same_id y x ≡ b → b ≡ false
    apart y u false q = refl
    apart y u true q = let r : is_of_text x ≡ false = same-generated y x q u in absurd (cc)

    by : (y : Id) (b : Bool) → is_of_text y ≡ b → is_some (find (λ e. clash e d) es) ≡ is_some (find (λ k. key_clash k (d.space, x)) (keys_of es))
        → is_some (cond (same_space e.space d.space && same_id y x) (Some e) (find (λ e. clash e d) es)) ≡ is_some (find (λ k. key_clash k (d.space, x)) (cond b ((e.space, y) ∷ keys_of es) (keys_of es)))
    by y true u q = either (same_space e.space d.space && same_id y x) (e.space, y) q
    by y false u q = rw (apart y u (same_id y x) refl, and-false (same_space e.space d.space)) q

    go : (y : Option Id) → is_some (find (λ e. clash e d) es) ≡ is_some (find (λ k. key_clash k (d.space, x)) (keys_of es))
        → is_some (cond (same_space e.space d.space && same_name y (Some x)) (Some e) (find (λ e. clash e d) es)) ≡ is_some (find (λ k. key_clash k (d.space, x)) (key_in_front e.space y (keys_of es)))
    go None q = rw (and-false (same_space e.space d.space)) q
    go (Some y) q = by y (is_of_text y) refl q

duplicate-keys : (es ds : List Declaration) → Beside es (decl_ids ds) → GeneratedOnce (decl_ids ds) → first_duplicate es ds ≡ twice (keys_of es) (keys_of ds)
duplicate-keys es [] b o = refl
duplicate-keys es (d ∷ ds) b o = go d.id refl (duplicate-keys (d ∷ es) ds (o.0, beside-rest es d.id (decl_ids ds) b) o.1)
  where
    by : (x : Id) → d.id ≡ Some x → (t : Bool) → is_of_text x ≡ t → first_duplicate (d ∷ es) ds ≡ twice (key_in_front d.space (Some x) (keys_of es)) (keys_of ds)
        → cond (is_some (find (λ e. clash e d) es)) (unmet duplicate x.offset) (first_duplicate (d ∷ es) ds) ≡ twice (keys_of es) (cond t ((d.space, x) ∷ keys_of ds) (keys_of ds))
    by x h true t q = let q' : first_duplicate (d ∷ es) ds ≡ twice ((d.space, x) ∷ keys_of es) (keys_of ds) = subst (λ v. first_duplicate (d ∷ es) ds ≡ twice (cond v ((d.space, x) ∷ keys_of es) (keys_of es)) (keys_of ds)) t q in rw (same-clashes d x es h t, q') refl
    by x h false t q = let q' : first_duplicate (d ∷ es) ds ≡ twice (keys_of es) (keys_of ds) = subst (λ v. first_duplicate (d ∷ es) ds ≡ twice (cond v ((d.space, x) ∷ keys_of es) (keys_of es)) (keys_of ds)) t q in rw (generated-clashes d x es (decl_ids ds) h t b) q'

    go : (y : Option Id) → d.id ≡ y → first_duplicate (d ∷ es) ds ≡ twice (key_in_front d.space d.id (keys_of es)) (keys_of ds) → cond (is_some (find (λ e. clash e d) es)) (unmet_at_id duplicate d.id) (first_duplicate (d ∷ es) ds) ≡ twice (keys_of es) (key_in_front d.space d.id (keys_of ds))
    go None h q = let q' : first_duplicate (d ∷ es) ds ≡ twice (keys_of es) (keys_of ds) = subst (λ y. first_duplicate (d ∷ es) ds ≡ twice (key_in_front d.space y (keys_of es)) (keys_of ds)) h q in
        subst (λ y. cond (is_some (find (λ e. clash e d) es)) (unmet_at_id duplicate y) (first_duplicate (d ∷ es) ds) ≡ twice (keys_of es) (key_in_front d.space y (keys_of ds))) (sym h) (rw (none-clashes d es h) q')
    go (Some x) h q = subst (λ y. cond (is_some (find (λ e. clash e d) es)) (unmet_at_id duplicate y) (first_duplicate (d ∷ es) ds) ≡ twice (keys_of es) (key_in_front d.space y (keys_of ds))) (sym h)
        (by x h (is_of_text x) refl (subst (λ y. first_duplicate (d ∷ es) ds ≡ twice (key_in_front d.space y (keys_of es)) (keys_of ds)) h q))

-- ---- the declarations of a scope and of the expanded one

none-parts : (x : Id) (k p : ℕ) (ids : List (Option Id)) (ss : List Space) (more : List (Option Id)) (rest : List Declaration) → NoneBears x (ids ++ more) → (NoneBears x more → NoneBears x (decl_ids rest)) → NoneBears x (decl_ids (parts k p ids ss ++ rest))
none-parts x k p [] [] more rest h f = f h
none-parts x k p (y ∷ ys) [] more rest h f = f (drop ys h.1)
  where
    drop : (zs : List (Option Id)) → NoneBears x (zs ++ more) → NoneBears x more
    drop [] q = q
    drop (z ∷ zs) q = drop zs q.1
none-parts x k p [] (s ∷ ss) more rest h f = (refl, none-parts x k (p + 1) [] ss more rest h f)
none-parts x k p (y ∷ ys) (s ∷ ss) more rest h f = (h.0, none-parts x k (p + 1) ys ss more rest h.1 f)

once-parts : (k p : ℕ) (ids : List (Option Id)) (ss : List Space) (more : List (Option Id)) (rest : List Declaration) → GeneratedOnce (ids ++ more) → ((x : Id) → NoneBears x more → NoneBears x (decl_ids rest)) → GeneratedOnce (decl_ids rest) → GeneratedOnce (decl_ids (parts k p ids ss ++ rest))
once-parts k p ids [] more rest h f o = o
once-parts k p [] (s ∷ ss) more rest h f o = (tt, once-parts k (p + 1) [] ss more rest h f o)
once-parts k p (None ∷ ys) (s ∷ ss) more rest h f o = (tt, once-parts k (p + 1) ys ss more rest h.1 f o)
once-parts k p (Some y ∷ ys) (s ∷ ss) more rest h f o = (λ t. none-parts y k (p + 1) ys ss more rest (h.0 t) (f y), once-parts k (p + 1) ys ss more rest h.1 f o)

none-entry : (x : Id) (j : ℕ) (gs : List Entry) → NoneBears x (entry_ids gs) → NoneBears x (decl_ids (declarations_from j (entry_defs gs)))
none-entry x j [] h = tt
none-entry x j (d ∷ gs) h = none-parts x j 0 d.names.ids (declares_row d.head d.leaves) (entry_ids gs) (declarations_from (j + 1) (entry_defs gs)) h (none-entry x (j + 1) gs)

once-entry : (j : ℕ) (gs : List Entry) → GeneratedOnce (entry_ids gs) → GeneratedOnce (decl_ids (declarations_from j (entry_defs gs)))
once-entry j [] h = tt
once-entry j (d ∷ gs) h = once-parts j 0 d.names.ids (declares_row d.head d.leaves) (entry_ids gs) (declarations_from (j + 1) (entry_defs gs)) h (λ x. none-entry x (j + 1) gs) (once-entry (j + 1) gs (later d.names.ids h))
  where
    later : (xs : List (Option Id)) → GeneratedOnce (xs ++ entry_ids gs) → GeneratedOnce (entry_ids gs)
    later [] q = q
    later (x ∷ xs) q = later xs q.1

text-parts : (k p : ℕ) (ids : List (Option Id)) (ss : List Space) (rest : List Declaration) → TextIds ids → GeneratedOnce (decl_ids rest) → GeneratedOnce (decl_ids (parts k p ids ss ++ rest))
text-parts k p ids [] rest t o = o
text-parts k p [] (s ∷ ss) rest t o = (tt, text-parts k (p + 1) [] ss rest t o)
text-parts k p (None ∷ ys) (s ∷ ss) rest t o = (tt, text-parts k (p + 1) ys ss rest t o)
text-parts k p (Some y ∷ ys) (s ∷ ss) rest t o = (λ q. absurd (cc), text-parts k (p + 1) ys ss rest t.1 o)

once-text : (c : Scope) (k : ℕ) (ds : Defs) → DefsOfText ds → GeneratedOnce (decl_ids (declarations_from k ds))
once-text c k no_def h = tt
once-text c k (one_def (define ns (row t ls)) ds) h = text-parts k 0 ns.ids (declares_row t ls) (declarations_from (k + 1) ds) h.0 (once-text c (k + 1) ds h.2)

parts-keys : (k j p q : ℕ) (ids : List (Option Id)) (ss : List Space) → keys_of (parts k p ids ss) ≡ keys_of (parts j q ids ss)
parts-keys k j p q ids [] = refl
parts-keys k j p q [] (s ∷ ss) = parts-keys k j (p + 1) (q + 1) [] ss
parts-keys k j p q (y ∷ ys) (s ∷ ss) = ap (key_in_front s y) (parts-keys k j (p + 1) (q + 1) ys ss)

no-keys : (k p : ℕ) (ss : List Space) → keys_of (parts k p [] ss) ≡ []
no-keys k p [] = refl
no-keys k p (s ∷ ss) = no-keys k (p + 1) ss

given-keys : (k j : ℕ) (ids : List (Option Id)) (y : Option Id) (ss : List Space) → MayBeGiven y → keys_of (parts j 0 (with_given ids y) ss) ≡ keys_of (parts k 0 ids ss)
given-keys k j ids y [] m = refl
given-keys k j ids None (s ∷ ss) m = parts-keys j k 0 0 ids (s ∷ ss)
given-keys k j [] (Some y) (s ∷ ss) m = rw m (parts-keys j k (0 + 1) (0 + 1) [] ss)
given-keys k j (None ∷ ids) (Some y) (s ∷ ss) m = rw m (parts-keys j k (0 + 1) (0 + 1) ids ss)
given-keys k j (Some x ∷ ids) (Some y) (s ∷ ss) m = parts-keys j k 0 0 (Some x ∷ ids) (s ∷ ss)

generated-keys : (j : ℕ) (y : Id) (ss : List Space) → is_of_text y ≡ false → keys_of (parts j 0 (Some y ∷ []) ss) ≡ []
generated-keys j y [] m = refl
generated-keys j y (s ∷ ss) m = rw m (no-keys j (0 + 1) ss)

nameless-keys : (j : ℕ) (xs ys : List Entry) → EachListed Nameless xs → keys_of (declarations_from j (entry_defs (xs ++ ys))) ≡ keys_of (declarations_from (j + length xs) (entry_defs ys))
nameless-keys j [] ys h = let z : j + 0 ≡ j = omega arith in rw z refl
nameless-keys j (x ∷ xs) ys h =
    let z : j + 1 + length xs ≡ j + length (x ∷ xs) = omega arith in
    keys-app (parts j 0 x.names.ids (declares_row x.head x.leaves)) (declarations_from (j + 1) (entry_defs (xs ++ ys)))
    ∙ rw (h.0.1, generated-keys j h.0.0 (declares_row x.head x.leaves) h.0.2) (nameless-keys (j + 1) xs ys h.1 ∙ ap (λ n. keys_of (declarations_from n (entry_defs ys))) z)

bare-keys : (j : ℕ) (xs : List Entry) → EachListed (λ y. y.names ≡ no_names) xs → keys_of (declarations_from j (entry_defs xs)) ≡ []
bare-keys j [] h = refl
bare-keys j (x ∷ xs) h =
    keys-app (parts j 0 x.names.ids (declares_row x.head x.leaves)) (declarations_from (j + 1) (entry_defs xs)) ∙ rw (h.0, no-keys j 0 (declares_row x.head x.leaves)) (bare-keys (j + 1) xs h.1)

same-keys : (g : Naming) (c : Scope) (declares : (o : Origin) (k u : ℕ) (t : Row) (ls : Leaves) → declares_row t (expand_leaves g c o k u ls).here ≡ declares_row t ls) (k j : ℕ) (ds : Defs) (ys : List Entry) → DefsNamed g c k ds
    → EachListed (λ y. y.names ≡ no_names) ys → keys_of (declarations_from k ds) ≡ keys_of (declarations_from j (entry_defs (expand_defs g c k ds ++ ys)))
same-keys g c declares k j no_def ys h q = sym (bare-keys j ys q)
same-keys g c declares k j (one_def (define vs (row t ls)) ds) ys h q =
    let a : Expanded Leaves = expand_leaves g c (written k) k 0 ls in
    let b : EachListed Nameless a.inlined × EachListed Nameless a.bundles = nameless-leaves g c (written k) k 0 ls h.2 in
    let own : Entry = entry (written k) (given_names vs (given g (written k))) t a in
    let more : List Entry = expand_defs g c (k + 1) ds in
    let e : expand_defs g c k (one_def (define vs (row t ls)) ds) ++ ys ≡ a.inlined ++ (a.bundles ++ own ∷ (more ++ ys)) = defs-split g c k vs t ls ds ys in
    let n : ℕ = j + length a.inlined + length a.bundles in
    keys-app (parts k 0 vs.ids (declares_row t ls)) (declarations_from (k + 1) ds)
    ∙ rw (
      sym (given-keys k n vs.ids (given g (written k)) (declares_row t ls) h.0),
      same-keys g c declares (k + 1) (n + 1) ds ys h.3 q,
      e,
      nameless-keys j a.inlined (a.bundles ++ own ∷ (more ++ ys)) b.0,
      nameless-keys (j + length a.inlined) a.bundles (own ∷ (more ++ ys)) b.1,
      declares (written k) k 0 t ls,
    )
    (sym (keys-app (parts n 0 (with_given vs.ids (given g (written k))) (declares_row t ls)) (declarations_from (n + 1) (entry_defs (more ++ ys)))))

pub same-duplicate : (g : Naming) (c : Scope) (declares : (o : Origin) (k u : ℕ) (t : Row) (ls : Leaves) → declares_row t (expand_leaves g c o k u ls).here ≡ declares_row t ls) (ds : Defs) (ys : List Entry) → DefsOfText ds → DefsNamed g c 0 ds
    → GeneratedOnce (entry_ids (expand_defs g c 0 ds ++ ys)) → EachListed (λ y. y.names ≡ no_names) ys → first_duplicate [] (declarations_from 0 ds) ≡ first_duplicate [] (declarations_from 0 (entry_defs (expand_defs g c 0 ds ++ ys)))
same-duplicate g c declares ds ys t h o q =
    duplicate-keys [] (declarations_from 0 ds) tt (once-text c 0 ds t)
    ∙ ap (twice []) (same-keys g c declares 0 0 ds ys h q)
    ∙ sym (duplicate-keys [] (declarations_from 0 (entry_defs (expand_defs g c 0 ds ++ ys))) tt (once-entry 0 (expand_defs g c 0 ds ++ ys) o))
