-- The text of a whole component, printed token by token.
use Rattle.std.proofs.Common.{◌≡◌, ℕ, ◌+◌, true, List, [], ◌∷◌, ◌++◌, length, refl, sym, ap, ◌∙◌, arith, append_assoc}
use Rattle.comp_model.specs.Model.{Scope}
use Rattle.wire_tree.specs.declared.tree.Scope.{out-Scope}
use Rattle.wire_tree.specs.declared.tree.Scope as s
use Rattle.wire_tree.specs.Lists.{defs_listed}
use Rattle.wire_tree.specs.Model as tree
use Rattle.wire_tree.proofs.Leaves.{scope_fields}
use Rattle.print_table.specs.Tokens as printed
use Rattle.print_table.specs.Tokens.{PrintedToken, spelled, gap, behind, text_of_tokens}
use Rattle.print_table.specs.TextOf.{component_tokens, definitions_tokens, in_group, unnamed, unnamed_defs, text_of}
use Rattle.tree_print.specs.Taken.{Taken, counted, kept, capped, put, is_opening, gap_at, spaced, all_spaced, written_length, written_bytes}
use Rattle.tree_print.proofs.Puts.{put_counted, put_kept}

one_spaced : (x y : PrintedToken) → gap x y ++ spelled y ≡ spaced (is_opening x) y
one_spaced printed.opening printed.opening = refl
one_spaced printed.opening printed.closing = refl
one_spaced printed.opening (printed.note y) = refl
one_spaced printed.opening (printed.word y) = refl
one_spaced printed.opening (printed.numeral y) = refl
one_spaced printed.opening (printed.string y) = refl
one_spaced printed.closing printed.opening = refl
one_spaced printed.closing printed.closing = refl
one_spaced printed.closing (printed.note y) = refl
one_spaced printed.closing (printed.word y) = refl
one_spaced printed.closing (printed.numeral y) = refl
one_spaced printed.closing (printed.string y) = refl
one_spaced (printed.note x) printed.opening = refl
one_spaced (printed.note x) printed.closing = refl
one_spaced (printed.note x) (printed.note y) = refl
one_spaced (printed.note x) (printed.word y) = refl
one_spaced (printed.note x) (printed.numeral y) = refl
one_spaced (printed.note x) (printed.string y) = refl
one_spaced (printed.word x) printed.opening = refl
one_spaced (printed.word x) printed.closing = refl
one_spaced (printed.word x) (printed.note y) = refl
one_spaced (printed.word x) (printed.word y) = refl
one_spaced (printed.word x) (printed.numeral y) = refl
one_spaced (printed.word x) (printed.string y) = refl
one_spaced (printed.numeral x) printed.opening = refl
one_spaced (printed.numeral x) printed.closing = refl
one_spaced (printed.numeral x) (printed.note y) = refl
one_spaced (printed.numeral x) (printed.word y) = refl
one_spaced (printed.numeral x) (printed.numeral y) = refl
one_spaced (printed.numeral x) (printed.string y) = refl
one_spaced (printed.string x) printed.opening = refl
one_spaced (printed.string x) printed.closing = refl
one_spaced (printed.string x) (printed.note y) = refl
one_spaced (printed.string x) (printed.word y) = refl
one_spaced (printed.string x) (printed.numeral y) = refl
one_spaced (printed.string x) (printed.string y) = refl

behind_spaced : (x : PrintedToken) (ys : List PrintedToken) → behind x ys ≡ all_spaced (is_opening x) ys
behind_spaced x [] = refl
behind_spaced x (y ∷ ys) = sym (append_assoc (gap x y) (spelled y) (behind y ys)) ∙ ap (λ l. l ++ behind y ys) (one_spaced x y) ∙ ap (λ l. spaced (is_opening x) y ++ l) (behind_spaced y ys)

tight_gap : (x : PrintedToken) → gap_at true x ≡ []
tight_gap printed.opening = refl
tight_gap printed.closing = refl
tight_gap (printed.note x) = refl
tight_gap (printed.word x) = refl
tight_gap (printed.numeral x) = refl
tight_gap (printed.string x) = refl

pub text_spaced : (xs : List PrintedToken) → text_of_tokens xs ≡ all_spaced true xs
text_spaced [] = refl
text_spaced (x ∷ xs) = ap (λ l. spelled x ++ l) (behind_spaced x xs) ∙ sym (ap (λ g. (g ++ spelled x) ++ all_spaced (is_opening x) xs) (tight_gap x))

-- the tokens of a component in a tree
pub whole_tokens : (x : s.Scope) → component_tokens (unnamed (tree.scope_of x)) ≡ in_group "component" (definitions_tokens (out-Scope x).kind (unnamed_defs (defs_listed (out-Scope x).defs.now)))
whole_tokens x = ap (λ b. component_tokens (unnamed b)) (scope_fields x)

-- how long the text is, and the text
pub whole_length : (b : Scope) (k new : Taken) → k.written ≡ counted 0 → k.tight ≡ true → new ≡ put (component_tokens (unnamed b)) k → written_length new.written ≡ capped (length (text_of b))
whole_length b k new e f g =
    let xs = component_tokens (unnamed b) in
    let start : k ≡ record { written = counted 0; tight = true } = taken_at e f in
    ap (λ (q : Taken). written_length q.written) (g ∙ ap (put xs) start ∙ put_counted xs 0 true (omega arith))
    ∙ (let z : 0 + length (all_spaced true xs) ≡ length (all_spaced true xs) = omega arith in ap capped z) ∙ ap (λ (bs : List ℕ). capped (length bs)) (sym (text_spaced xs))
  where
    taken_at : {k : Taken} → k.written ≡ counted 0 → k.tight ≡ true → k ≡ record { written = counted 0; tight = true }
    taken_at {k} e f = ap (λ w. record { written = w; tight = k.tight }) e ∙ ap (λ t. record { written = counted 0; tight = t }) f

pub whole_text : (b : Scope) (k new : Taken) → k.written ≡ kept [] → k.tight ≡ true → new ≡ put (component_tokens (unnamed b)) k → written_bytes new.written ≡ text_of b
whole_text b k new e f g =
    let xs = component_tokens (unnamed b) in
    let start : k ≡ record { written = kept []; tight = true } = taken_at e f in
    ap (λ (q : Taken). written_bytes q.written) (g ∙ ap (put xs) start ∙ put_kept xs [] true) ∙ sym (text_spaced xs)
  where
    taken_at : {k : Taken} → k.written ≡ kept [] → k.tight ≡ true → k ≡ record { written = kept []; tight = true }
    taken_at {k} e f = ap (λ w. record { written = w; tight = k.tight }) e ∙ ap (λ t. record { written = kept []; tight = t }) f
