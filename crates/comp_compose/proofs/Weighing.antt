-- What a line takes of a plan.
use Rattle.std.proofs.Common.{◌≡◌, ℕ, ◌+◌, ◌<◌, ◌≤◌, ◌==◌, ◌&&◌, Bool, true, false, not, List, [], ◌∷◌, length, bytes_eq, codes, refl, sym, ◌∙◌, ap, subst, arith, Option, Some, None, if◌then◌else◌}
use Rattle.std.specs.List.{list_all}
use Rattle.plan_lines.specs.Words.{Word, word, split, pieces, longer}
use Rattle.plan_lines.specs.Lines.{Argument, Line, a_part, an_instance, an_export, is_empty, made_of, is_name_byte, is_text_byte, is_digit_byte, two_of, argument_with, argument, more, arguments, part_with, export_with, instance_with, part_line, export_line, instance_line, line_of, line}
use Rattle.plan_lines.proofs.Read.{First, first_piece}
use Rattle.comp_compose.specs.Weights.{weight, IsText, AreTexts, Takes}

-- pieces, and the bytes that part them and end them
total : List Word → ℕ
total [] = 0
total (w ∷ ws) = length w.bytes + 1 + total ws

longer_total : (at b : ℕ) (ws : List Word) → First ws → total (longer at b ws) ≡ total ws + 1
unfolding total
longer_total at b ws f = subst (λ xs. total (longer at b xs) ≡ total xs + 1) (sym f.same) (omega arith)

split_total : (c at : ℕ) (bs : List ℕ) → total (split c at bs) ≡ length bs + 1
unfolding total
split_total c at [] = refl
split_total c at (b ∷ bs) = go (b == c) (split_total c (at + 1) bs)
  where
    go : (t : Bool) → total (split c (at + 1) bs) ≡ length bs + 1 → total (if t then word at [] ∷ split c (at + 1) bs else longer at b (split c (at + 1) bs)) ≡ length (b ∷ bs) + 1
    go true e = omega (arith, e)
    go false e = omega (arith, e, longer_total at b (split c (at + 1) bs) (first_piece c (at + 1) bs))

pub some_bytes : (f : ℕ → Bool) (w : Word) → made_of f w ≡ true → 1 ≤ length w.bytes
some_bytes f w e = go w.bytes e
  where
    go : (bs : List ℕ) → (not (is_empty bs) && list_all f bs) ≡ true → 1 ≤ length bs
    go [] h = absurd (cc)
    go (b ∷ bs) h = omega arith

record IsPair (f g : ℕ → Bool) (ws : List Word) (p : Word × Word) : Type 0 where
  same : ws ≡ p.0 ∷ p.1 ∷ []
  first : made_of f p.0 ≡ true
  second : made_of g p.1 ≡ true

is_pair : (f g : ℕ → Bool) (ws : List Word) (p : Word × Word) → two_of f g ws ≡ Some p → IsPair f g ws p
is_pair f g [] p e = absurd (cc)
is_pair f g (v ∷ []) p e = absurd (cc)
is_pair f g (v ∷ w ∷ x ∷ ws) p e = absurd (cc)
is_pair f g (v ∷ w ∷ []) p e = go (made_of f v) (made_of g w) refl refl e
  where
    unwrapped : Some (v, w) ≡ Some p → (v, w) ≡ p
    unwrapped h = ap (λ o. pick o) h
      where
        pick : Option (Word × Word) → Word × Word
        pick None = p
        pick (Some q) = q

    go : (a b : Bool) → made_of f v ≡ a → made_of g w ≡ b → (if a && b then Some (v, w) else None) ≡ Some p → IsPair f g (v ∷ w ∷ []) p
    go true true i j h = let q = unwrapped h in record { same = ap (λ r. r.0 ∷ r.1 ∷ []) q; first = ap (λ r. made_of f r.0) (sym q) ∙ i; second = ap (λ r. made_of g r.1) (sym q) ∙ j }
    go true false i j h = absurd (cc)
    go false b i j h = absurd (cc)

-- one argument, and all
one_weighs : (w : Word) (a : Argument) → argument w ≡ Some a → IsText a.text × (length a.text.bytes + 3 ≤ length w.bytes + 1)
unfolding total
one_weighs w a e = go (two_of is_text_byte is_name_byte (pieces 61 w)) refl e
  where
    unwrapped : (b : Argument) → Some b ≡ Some a → b ≡ a
    unwrapped b h = ap (λ o. pick o) h
      where
        pick : Option Argument → Argument
        pick None = a
        pick (Some q) = q

    go : (o : Option (Word × Word)) → two_of is_text_byte is_name_byte (pieces 61 w) ≡ o → argument_with o ≡ Some a → IsText a.text × (length a.text.bytes + 3 ≤ length w.bytes + 1)
    go None i h = absurd (cc)
    go (Some p) i h =
        let q = is_pair is_text_byte is_name_byte (pieces 61 w) p i in
        let t : p.0 ≡ a.text = ap (λ x. x.text) (unwrapped (record { text = p.0; instance = p.1 }) h) in
        let sum : total (p.0 ∷ p.1 ∷ []) ≡ length w.bytes + 1 = ap total (sym q.same) ∙ split_total 61 w.at w.bytes in
        let long : length p.0.bytes + 3 ≤ length w.bytes + 1 = omega (arith, sum, some_bytes is_name_byte p.1 q.second) in
        (ap (made_of is_text_byte) (sym t) ∙ q.first, subst (λ x. length x.bytes + 3 ≤ length w.bytes + 1) t long)

all_weigh : (ws : List Word) (as' : List Argument) → arguments ws ≡ Some as' → AreTexts as' × (weight as' ≤ total ws)
unfolding total
all_weigh [] [] e = (tt, omega arith)
all_weigh [] (a ∷ as') e = absurd (cc)
all_weigh (w ∷ ws) as' e = go (argument w) (arguments ws) refl e (λ bs. all_weigh ws bs)
  where
    go : (o : Option Argument) (p : Option (List Argument)) → argument w ≡ o → more o p ≡ Some as' → ((bs : List Argument) → p ≡ Some bs → AreTexts bs × (weight bs ≤ total ws)) → AreTexts as' × (weight as' ≤ total (w ∷ ws))
    go None p i h rest = absurd (cc)
    go (Some a) None i h rest = absurd (cc)
    go (Some a) (Some bs) i h rest =
        let q : a ∷ bs ≡ as' = cc in
        let one = one_weighs w a i in
        let others = rest bs refl in
        subst (λ xs. AreTexts xs × (weight xs ≤ total (w ∷ ws))) q ((one.0, others.0), omega (arith, one.1, others.1))

-- a line by its words behind the first
part_takes : (k : Word) (ws : List Word) (l : Line) → part_line ws ≡ Some l → (n : ℕ) → n + 1 ≡ total (k ∷ ws) → Takes l n
unfolding total
part_takes k ws l e n h = go (two_of is_name_byte is_digit_byte ws) refl e
  where
    go : (o : Option (Word × Word)) → two_of is_name_byte is_digit_byte ws ≡ o → part_with o ≡ Some l → Takes l n
    go None i g = absurd (cc)
    go (Some p) i g =
        let q = is_pair is_name_byte is_digit_byte ws p i in
        let r : a_part p.0 p.1 ≡ l = cc in
        let sum : n + 1 ≡ total (k ∷ p.0 ∷ p.1 ∷ []) = h ∙ ap (λ xs. total (k ∷ xs)) q.same in
        subst (λ x. Takes x n) r (omega (arith, sum))

export_takes : (k : Word) (ws : List Word) (l : Line) → export_line ws ≡ Some l → (n : ℕ) → n + 1 ≡ total (k ∷ ws) → Takes l n
unfolding total
export_takes k ws l e n h = go (two_of is_text_byte is_name_byte ws) refl e
  where
    go : (o : Option (Word × Word)) → two_of is_text_byte is_name_byte ws ≡ o → export_with o ≡ Some l → Takes l n
    go None i g = absurd (cc)
    go (Some p) i g =
        let q = is_pair is_text_byte is_name_byte ws p i in
        let r : an_export p.0 p.1 ≡ l = cc in
        let sum : n + 1 ≡ total (k ∷ p.0 ∷ p.1 ∷ []) = h ∙ ap (λ xs. total (k ∷ xs)) q.same in
        subst (λ x. Takes x n) r (omega (arith, sum, some_bytes is_name_byte p.1 q.second), q.first)

instance_takes : (k : Word) (ws : List Word) (l : Line) → instance_line ws ≡ Some l → (n : ℕ) → n + 1 ≡ total (k ∷ ws) → Takes l n
unfolding total
instance_takes k [] l e n h = absurd (cc)
instance_takes k (v ∷ []) l e n h = absurd (cc)
instance_takes k (v ∷ w ∷ ws) l e n h = go (made_of is_name_byte v) (made_of is_name_byte w) (arguments ws) refl refl refl e
  where
    go : (a b : Bool) (o : Option (List Argument)) → made_of is_name_byte v ≡ a → made_of is_name_byte w ≡ b → arguments ws ≡ o → (if a && b then instance_with v w o else None) ≡ Some l → Takes l n
    go false b o i j q g = absurd (cc)
    go true false o i j q g = absurd (cc)
    go true true None i j q g = absurd (cc)
    go true true (Some as') i j q g =
        let r : an_instance v w as' ≡ l = cc in
        let all = all_weigh ws as' q in
        subst (λ x. Takes x n) r (omega (arith, h, all.1, some_bytes is_name_byte v i, some_bytes is_name_byte w j), all.0)

-- what a line says takes no more than the line
pub line_takes : (w : Word) (l : Line) → line w ≡ Some l → Takes l (length w.bytes)
unfolding total
line_takes w l e =
    let f = first_piece 32 w.at w.bytes in
    let sum : length w.bytes + 1 ≡ total (f.head ∷ f.tail) = sym (split_total 32 w.at w.bytes) ∙ ap total f.same in
    go f.head f.tail (bytes_eq f.head.bytes (codes "part")) (bytes_eq f.head.bytes (codes "instance")) (bytes_eq f.head.bytes (codes "export")) (sym (ap line_of f.same) ∙ e) sum
  where
    go : (k : Word) (ws : List Word) (a b c : Bool) → (if a then part_line ws else if b then instance_line ws else if c then export_line ws else None) ≡ Some l → length w.bytes + 1 ≡ total (k ∷ ws) → Takes l (length w.bytes)
    go k ws true b c h sum = part_takes k ws l h (length w.bytes) sum
    go k ws false true c h sum = instance_takes k ws l h (length w.bytes) sum
    go k ws false false true h sum = export_takes k ws l h (length w.bytes) sum
    go k ws false false false h sum = absurd (cc)
