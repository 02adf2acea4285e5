-- Reading folded instructions as a loop does, with the instructions so far and those whose groups are open, the innermost last.
use Rattle.std.proofs.Common.{◌≡◌, ◌⊎◌, ◌<◌, ℕ, List, [], ◌∷◌, ◌++◌, map, reverse, true, ap, refl, sym, ◌∙◌, subst}
use Rattle.std.proofs.lemmas.List.{map-append, reverse-append}
use Rattle.wast_grammar.specs.Classes.{opening, closing, among}
use Rattle.wast_grammar.specs.Stand.{Stand, class_at, moved}
use Rattle.wast_grammar.specs.Grammar.{folded, before, Value, none, both, part_at, group_ends, turn, an_item, into, out, finished, otherwise}
use Rattle.wast_grammar.specs.Read.{Outcome, reads, read, left_of}
use Rattle.wast_grammar.proofs.Moves.{turn_into, turn_out, one}
use Rattle.wast_grammar.proofs.Sound.{read_sound}
use Rattle.wast_grammar.proofs.Turns.{behind, with_items, item_joins, group_opens, group_ends_joins, list_ends, others_join}
use Rattle.wast_parser.specs.View.{many_view}
use Rattle.core_syntax.specs.declared.instructions.Instruction.{Instruction}
use Rattle.wast_grammar.specs.CoreRows.{operation, operation_words, other_operation, instructions}
use Rattle.core_syntax.specs.CoreLaws.{sound_folded, sound_other_operation}
use Rattle.core_syntax.specs.CoreView.{instruction_view}

-- the values of those whose groups are open, the innermost first
abbrev pub begun_values : List Instruction → List Value
begun_values begun = map instruction_view (reverse begun)

-- what is left, behind the instructions so far, comes to the whole
abbrev pub SoFar : List Instruction → List Instruction → Stand → Outcome → Type 0
SoFar list begun s total = with_items (map instruction_view list) (read (folded (begun_values begun) operation_words operation other_operation) s) ≡ total

pub starts : (s : Stand) → SoFar [] [] s (read instructions s)
unfolding instructions
starts s = nothing_before (read (folded [] operation_words operation other_operation) s)
  where
    nothing_before : (o : Outcome) → with_items [] o ≡ o
    nothing_before (reads v t) = refl
    nothing_before o = refl

one_more : (list : List Instruction) (x : Instruction) → map instruction_view (list ++ x ∷ []) ≡ map instruction_view list ++ instruction_view x ∷ []
one_more list x = map-append instruction_view list (x ∷ [])

innermost : (begun : List Instruction) (x : Instruction) → begun_values (begun ++ x ∷ []) ≡ instruction_view x ∷ begun_values begun
innermost begun x = ap (map instruction_view) (reverse-append begun (x ∷ []))

listed_values : (list : List Instruction) → behind (map instruction_view list) none ≡ many_view instruction_view list
listed_values [] = refl
listed_values (x ∷ list) = ap (both (instruction_view x)) (listed_values list)

pub joins : (list begun : List Instruction) (x : Instruction) (s r : Stand) (total : Outcome) → SoFar list begun s total → turn operation_words s ≡ an_item → read operation s ≡ reads (instruction_view x) r → SoFar (list ++ x ∷ []) begun r total
joins list begun x s r total so_far i e =
    subst (λ xs. with_items xs (read (folded (begun_values begun) operation_words operation other_operation) r) ≡ total) (sym (one_more list x))
    (item_joins (begun_values begun) operation_words operation other_operation s (map instruction_view list) total (sound_folded (begun_values begun)) so_far (instruction_view x) r i e)

-- a group begins with what stands behind its parenthesis
grouped : (s : Stand) → turn operation_words s ≡ into → read (before opening operation) s ≡ read operation (moved s 1)
grouped s i = let x = (turn_into operation_words s i).0 in rw x refl

pub begins : (list begun : List Instruction) (x : Instruction) (s r : Stand) (total : Outcome) → SoFar list begun s total → turn operation_words s ≡ into → read (before opening operation) s ≡ reads (instruction_view x) r → SoFar list (begun ++ x ∷ []) r total
begins list begun x s r total so_far i e =
    subst (λ us. with_items (map instruction_view list) (read (folded us operation_words operation other_operation) r) ≡ total) (sym (innermost begun x))
    (group_opens (begun_values begun) operation_words operation other_operation s (map instruction_view list) total (sound_folded (begun_values begun)) so_far (instruction_view x) r i (sym (grouped s i) ∙ e))

pub group_done : (list begun : List Instruction) (x : Instruction) (s : Stand) (total : Outcome) → SoFar list (begun ++ x ∷ []) s total → turn operation_words s ≡ out → SoFar (list ++ x ∷ []) begun (moved s 1) total
group_done list begun x s total so_far i =
    subst (λ xs. with_items xs (read (folded (begun_values begun) operation_words operation other_operation) (moved s 1)) ≡ total) (sym (one_more list x))
    (group_ends_joins (instruction_view x) (begun_values begun) operation_words operation other_operation s (map instruction_view list) total (sound_folded (begun_values begun)) i
    (subst (λ us. with_items (map instruction_view list) (read (folded us operation_words operation other_operation) s) ≡ total) (innermost begun x) so_far))

pub end_falls : (s : Stand) → turn operation_words s ≡ out → left_of (moved s 1) < left_of s
end_falls s i = (one s closing refl (turn_out operation_words s i)).falls refl

-- behind what is no instruction its group ends
other_ends : (n : ℕ) (s r : Stand) → read other_operation s ≡ reads (part_at n none) r → among group_ends (class_at r) ≡ true
unfolding other_operation
other_ends n s r e = (read_sound other_operation s r (part_at n none) sound_other_operation e).1

pub other_joins : (list begun : List Instruction) (x : Instruction) (n : ℕ) (s r : Stand) (total : Outcome) → SoFar list begun s total → turn operation_words s ≡ otherwise → instruction_view x ≡ part_at n none
    → read other_operation s ≡ reads (part_at n none) r → SoFar (list ++ x ∷ []) begun r total
other_joins list begun x n s r total so_far i is e =
    subst (λ xs. with_items xs (read (folded (begun_values begun) operation_words operation other_operation) r) ≡ total) (sym (one_more list x))
    (subst (λ u. with_items (map instruction_view list ++ u ∷ []) (read (folded (begun_values begun) operation_words operation other_operation) r) ≡ total) (sym is)
    (others_join (begun_values begun) operation_words operation other_operation s (map instruction_view list) total (sound_folded (begun_values begun)) so_far (part_at n none) r i e (other_ends n s r e)))

pub all_done : (list : List Instruction) (s : Stand) (total : Outcome) → SoFar list [] s total → (turn operation_words s ≡ out) ⊎ (turn operation_words s ≡ finished) → total ≡ reads (many_view instruction_view list) s
all_done list s total so_far i = list_ends operation_words operation other_operation s (map instruction_view list) total (sound_folded []) i so_far ∙ ap (λ (v : Value). reads v s) (listed_values list)
