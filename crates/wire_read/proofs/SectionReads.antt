-- A section by its number, its length and what fills it.
use Rattle.std.proofs.Common.{◌≡◌, ℕ, zero, suc, ◌+◌, ◌-◌, ◌<◌, ◌≤◌, List, [], ◌∷◌, ◌++◌, length, length-append, length-take, take, drop, get_or, refl, sym, ◌∙◌, ap, subst, arith, Bool, true, false, Option, Some, append_assoc, if◌then◌else◌}
use Rattle.std.specs.Prelude.{◌==◌}
use Rattle.std.proofs.lemmas.Bool.{eqb-true}
use Rattle.std.proofs.lemmas.List.{drop_more}
use Rattle.comp_model.specs.Leb.{uleb}
use Rattle.comp_model.specs.Payloads.{framed}
use Rattle.comp_wire.specs.declared.sections.SectionKind.TheVariants as section_kinds
use Rattle.comp_wire.specs.Sections.{section_number, is_counted, rows_of, Word}
use Rattle.comp_wire.specs.declared.sections.SectionKind.{SectionKind}
use Rattle.comp_wire.specs.Table.{Family}
use Rattle.comp_wire.proofs.Numbers.{cons_is, uleb_ends}
use Rattle.byte_table.specs.SectionKinds.{line_rows}
use Rattle.wire_tree.specs.Lists.{nodes_listed}
use Rattle.wire_tree.specs.declared.tree.Node as tree
use Rattle.wire_read.specs.Place.{Place, rest, bytes_at, Takes}
use Rattle.wire_read.specs.Reading.{Read}
use Rattle.wire_read.specs.Within.{WithinNodes}
use Rattle.wire_read.specs.Stops.{Allows, Refused}
use Rattle.wire_read.specs.Runs.{Run, run, run_bytes, body_bytes, BodyFits, RunFits, may_follow}
use Rattle.wire_read.specs.Bodies.{kind_at}
use Rattle.wire_read.specs.declared.stop.Stop.{Stop}
use Rattle.wire_read.specs.declared.stop.Stop.TheVariants as stop
use Rattle.wire_read.proofs.Places.{takes_two, take_split}

append_cancel : (xs ys zs : List ℕ) → xs ++ ys ≡ xs ++ zs → ys ≡ zs
append_cancel [] ys zs e = e
append_cancel (x ∷ xs) ys zs e = append_cancel xs ys zs (let g : xs ++ ys ≡ xs ++ zs = cc in g)

take_one_more : (xs ys ws : List ℕ) (i b : ℕ) → drop i xs ≡ b ∷ ws → xs ++ ys ≡ take i xs ++ b ∷ (ws ++ ys)
take_one_more xs ys ws zero b e = ap (λ z. z ++ ys) e
take_one_more [] ys ws (suc i) b e = cc
take_one_more (x ∷ xs) ys ws (suc i) b e = ap (λ z. x ∷ z) (take_one_more xs ys ws i b e)

-- bytes that are expected, one of which isn't there
pub lead_refused : (bytes : List ℕ) (i d : ℕ) (init cur : Place) → i < length bytes → Takes init cur (take i bytes) → ((zs : List ℕ) → get_or bytes i d ∷ zs ≡ rest cur → ⊥) → (ys : List ℕ) → bytes ++ ys ≡ rest init → ⊥
lead_refused bytes i d init cur l t n ys e =
    n (drop (i + 1) bytes ++ ys) (append_cancel (take i bytes) _ (rest cur) (sym (take_one_more bytes ys (drop (i + 1) bytes) i (get_or bytes i d) (drop_more bytes i d l)) ∙ e ∙ t.taken))

-- the section of a number
kind_of_number : (t : SectionKind) → kind_at (section_number t) ≡ Some t
kind_of_number section_kinds.Custom = refl
kind_of_number _ = refl

pick : {A : Type 0} (b k : ℕ) (x : A) (other : Option A) (y : A) (P : A → Type 0) → Some y ≡ (if b == k then Some x else other) → (b ≡ k → P x) → (Some y ≡ other → P y) → P y
pick {A} b k x other y P e here there = go (b == k) refl e
  where
    go : (c : Bool) → (b == k) ≡ c → Some y ≡ (if c then Some x else other) → P y
    go true h f = let same : x ≡ y = cc in subst P same (here (eqb-true b k h))
    go false h f = there f

abbrev Numbered : ℕ → SectionKind → Type 0
Numbered n t = section_number t ≡ n

pub number_of_kind : (n : ℕ) (t : SectionKind) → Some t ≡ kind_at n → section_number t ≡ n
number_of_kind n t e =
    pick n 0 section_kinds.Custom _ t (Numbered n) e (λ h. sym h)
    (λ e. pick n 1 section_kinds.CoreModule _ t (Numbered n) e (λ h. sym h)
    (λ e. pick n 2 section_kinds.CoreInstance _ t (Numbered n) e (λ h. sym h)
    (λ e. pick n 3 section_kinds.CoreType _ t (Numbered n) e (λ h. sym h)
    (λ e. pick n 4 section_kinds.Component _ t (Numbered n) e (λ h. sym h)
    (λ e. pick n 5 section_kinds.Instance _ t (Numbered n) e (λ h. sym h)
    (λ e. pick n 6 section_kinds.Alias _ t (Numbered n) e (λ h. sym h)
    (λ e. pick n 7 section_kinds.Type _ t (Numbered n) e (λ h. sym h)
    (λ e. pick n 8 section_kinds.Canon _ t (Numbered n) e (λ h. sym h)
    (λ e. pick n 9 section_kinds.Start _ t (Numbered n) e (λ h. sym h)
    (λ e. pick n 10 section_kinds.Import _ t (Numbered n) e (λ h. sym h)
    (λ e. pick n 11 section_kinds.Export _ t (Numbered n) e (λ h. sym h) (λ e. cc))))))))))))

abbrev RunSeen : Run → List ℕ → ℕ → ℕ → Place → Type 0
RunSeen r more number n mid = (section_number r.section ≡ number) × (length (body_bytes r.section r.rows) ≡ n) × (body_bytes r.section r.rows ++ more ≡ rest mid)

run_seen : (r : Run) (more : List ℕ) (number n : ℕ) (old m1 m2 : Place) → Takes old m1 (number ∷ []) → Read Word uleb m1 m2 n → run_bytes r ++ more ≡ rest old → RunSeen r more number n m2
run_seen r more number n old m1 m2 a b e =
    let body = body_bytes r.section r.rows in
    let heads = cons_is _ _ _ _ (e ∙ a.taken) in
    let lengths = uleb_ends (length body) n (body ++ more) (rest m2) (sym (append_assoc (uleb (length body)) body more) ∙ heads.1 ∙ b.1.taken) in
    (heads.0, lengths.0, lengths.1)

pub run_too_long : (last : Option SectionKind) (left number n : ℕ) (old m1 m2 : Place) → Takes old m1 (number ∷ []) → Read Word uleb m1 m2 n → length (rest m2) < n → Refused (RunFits last) (λ q. WithinNodes q.rows left) run_bytes (rest old) stop.Misread
run_too_long last left number n old m1 m2 a b l r more h w e =
    let s = run_seen r more number n old m1 m2 a b e in
    let k = ap length s.2 in
    omega (arith, l, s.1, k, length-append (body_bytes r.section r.rows) more)

front_is : (xs ys zs ws : List ℕ) → length xs ≡ length zs → xs ++ ys ≡ zs ++ ws → xs ≡ zs
front_is [] ys [] ws l e = refl
front_is [] ys (z ∷ zs) ws l e = absurd (omega (arith, l))
front_is (x ∷ xs) ys [] ws l e = absurd (omega (arith, l))
front_is (x ∷ xs) ys (z ∷ zs) ws l e =
    let heads = cons_is x z (xs ++ ys) (zs ++ ws) e in
    let more = front_is xs ys zs ws (omega (arith, l)) heads.1 in
    let first = heads.0 in
    cc

abbrev pub within : Place → ℕ → Place
within p n = record { bytes = p.bytes; at = p.at; end = p.at + n }

within_rest : (p : Place) (n : ℕ) → rest (within p n) ≡ bytes_at p.bytes p.at n
within_rest p n = let e : p.at + n - p.at ≡ n = omega arith in ap (λ k. take k (drop p.at p.bytes)) e

body_is : (p : Place) (n : ℕ) (b more : List ℕ) → n ≤ length (rest p) → length b ≡ n → b ++ more ≡ rest p → b ≡ rest (within p n)
body_is p n b more l k e =
    let d = drop p.at p.bytes in
    let long : length (take n d) ≡ n = omega (arith, length-take n d, length-take (p.end - p.at) d, l) in
    let whole = take_split (p.end - p.at) n d (omega (arith, length-take (p.end - p.at) d, l)) in
    front_is b more (take n d) (take (p.end - p.at - n) (drop n d)) (k ∙ sym long) (e ∙ whole) ∙ sym (within_rest p n)

pub section_refused : (last : Option SectionKind) (left number n : ℕ) (t : SectionKind) (old m1 m2 body : Place) (e : Stop) → Takes old m1 (number ∷ []) → Some t ≡ kind_at number → Read Word uleb m1 m2 n → n ≤ length (rest m2) → body ≡ within m2 n
    → ((ks : _) → BodyFits t ks → Allows e (WithinNodes ks left) → body_bytes t ks ≡ rest body → ⊥) → Refused (RunFits last) (λ q. WithinNodes q.rows left) run_bytes (rest old) e
section_refused last left number n t old m1 m2 body e a k b l w u r more h v q =
    let s = run_seen r more number n old m1 m2 a b q in
    let kinds : Some r.section ≡ Some t = sym (kind_of_number r.section) ∙ ap kind_at s.0 ∙ sym k in
    let same : r.section ≡ t = cc in
    let fills = body_is m2 n (body_bytes r.section r.rows) more l s.1 s.2 ∙ ap rest (sym w) in
    u r.rows (subst (λ x. BodyFits x r.rows) same h.rows) v (ap (λ x. body_bytes x r.rows) (sym same) ∙ fills)

pub section_read : (last : Option SectionKind) (left number n : ℕ) (t : SectionKind) (old m1 m2 body new : Place) (ns : List tree.Node) → Takes old m1 (number ∷ []) → Some t ≡ kind_at number → Read Word uleb m1 m2 n → body ≡ within m2 n
    → BodyFits t (nodes_listed ns) × WithinNodes (nodes_listed ns) left × (body_bytes t (nodes_listed ns) ≡ rest body)
    → Takes m2 new (bytes_at m2.bytes m2.at n) → length (bytes_at m2.bytes m2.at n) ≡ n → may_follow last t ≡ true
    → RunFits last (run t (nodes_listed ns)) × WithinNodes (nodes_listed ns) left × Takes old new (run_bytes (run t (nodes_listed ns)))
section_read last left number n t old m1 m2 body new ns a k b w v s z f =
    let ks = nodes_listed ns in
    let fills : body_bytes t ks ≡ bytes_at m2.bytes m2.at n = v.2 ∙ ap rest w ∙ within_rest m2 n in
    let long : length (body_bytes t ks) ≡ n = ap length fills ∙ z in
    let behind : Takes m1 new (framed (body_bytes t ks)) = subst (λ i. Takes m1 new (uleb i ++ body_bytes t ks)) (sym long) (takes_two m1 m2 new (uleb n) (body_bytes t ks) b.1 (subst (λ x. Takes m2 new x) (sym fills) s)) in
    let first : Takes old m1 (section_number t ∷ []) = subst (λ i. Takes old m1 (i ∷ [])) (sym (number_of_kind number t k)) a in
    (record { rows = v.0; short = subst Word (sym long) b.0; follows = f }, v.1, takes_two old m1 new (section_number t ∷ []) (framed (body_bytes t ks)) first behind)

-- the kinds of sections whose rows stand behind a count
pub counted_kind : (k : SectionKind) → (k ≡ section_kinds.Custom → ⊥) → (k ≡ section_kinds.CoreModule → ⊥) → (k ≡ section_kinds.Component → ⊥) → (k ≡ section_kinds.Start → ⊥) → is_counted k ≡ true
counted_kind section_kinds.Custom a b c d = absurd (a refl)
counted_kind section_kinds.CoreModule a b c d = absurd (b refl)
counted_kind section_kinds.Component a b c d = absurd (c refl)
counted_kind section_kinds.Start a b c d = absurd (d refl)
counted_kind _ a b c d = refl

pub rows_of_kind : (k : SectionKind) (f : Family) → Some f ≡ line_rows k → f ≡ rows_of k
rows_of_kind section_kinds.Component f e = cc
rows_of_kind section_kinds.Custom f e = cc
rows_of_kind _ f e = cc
