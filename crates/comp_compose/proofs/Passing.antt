-- The loop over the arguments of an instance.
use Rattle.std.proofs.Common.{◌≡◌, ℕ, ◌⊎◌, inl, inr, List, [], ◌∷◌, ◌++◌, append_assoc, append-nil, refl, sym, ◌∙◌, ap, subst, Option, Some, None, is_some}
use Rattle.std.specs.Borrow.{Bor}
use Rattle.comp_model.specs.Core.{Text}
use Rattle.comp_model.specs.Model.{Node, Nodes, no_node, one_node}
use Rattle.comp_wire.specs.Values.{argument_row, rows_of_list}
use Rattle.comp_wire.specs.declared.kinds.ComponentExportKind.{ComponentExportKind}
use Rattle.plan_lines.specs.Words as w
use Rattle.plan_lines.specs.Lines.{Line, Argument, argument, arguments, more}
use Rattle.plan_lines.specs.Shown.{word_of, rest_of}
use Rattle.plan_lines.specs.declared.words.Word.{Word}
use Rattle.comp_compose.specs.Demands.{names_instance, argument_demands}
use Rattle.comp_compose.specs.Refused.{FirstUnmet, IsUnmet}
use Rattle.comp_compose.specs.Composed.{AreArguments}
use Rattle.comp_compose.specs.Passed.{IsPassed}
use Rattle.comp_compose.specs.Shown.{Shows}
use Rattle.comp_compose.specs.declared.names.Names.{Names}
use Rattle.comp_compose.specs.declared.error.PlanError.{PlanError}
use Rattle.comp_compose.proofs.Adding.{arguments_met}

abbrev pub Row : Type 0
Row = Bor Text × ComponentExportKind × ℕ

-- those in front are passed
pub record Passed (ls : List Line) (all left : List Argument) (rows : List Row) : Type 0 where
  pub front : List Argument
  pub whole : all ≡ front ++ left
  pub passed : AreArguments ls front (rows_of_list argument_row rows)

-- what is left of the words are arguments, and those in front of them are passed, whatever lines the names show
pub record Passing (names : Names) (all left : Option Word) (rows : List Row) : Type 0 where
  pub some : (as' : List Argument) → arguments (rest_of 32 all) ≡ Some as' → (bs : List Argument) × (arguments (rest_of 32 left) ≡ Some bs)
  pub so_far : (ls : List Line) (as' bs : List Argument) → Shows names ls → arguments (rest_of 32 all) ≡ Some as' → arguments (rest_of 32 left) ≡ Some bs → Passed ls as' bs rows

one_list : (o : Option (List Argument)) (as' bs : List Argument) → o ≡ Some as' → o ≡ Some bs → as' ≡ bs
one_list o as' bs e f = let g : Some as' ≡ Some bs = sym e ∙ f in cc

pub begun : (names : Names) (all : Option Word) → Passing names all all []
begun names all = record {
  some = λ as' e. (as', e);
  so_far = λ ls as' bs s e f. record { front = []; whole = one_list (arguments (rest_of 32 all)) as' bs e f; passed = tt };
}

-- one more at the end
rows_more : (ls : List Line) (front : List Argument) (rows : List Row) (a : Argument) (p : Row) → AreArguments ls front (rows_of_list argument_row rows) → IsPassed ls a p → AreArguments ls (front ++ a ∷ []) (rows_of_list argument_row (rows ++ p ∷ []))
rows_more ls [] [] a p h k = (k.0, k.1, k.2, tt)
rows_more ls [] (r ∷ rows) a p h k = absurd h
rows_more ls (b ∷ front) [] a p h k = absurd h
rows_more ls (b ∷ front) (r ∷ rows) a p h k = (h.0, h.1, h.2, rows_more ls front rows a p h.3 k)

-- the first of what is left
pub record Next (left rest : Option Word) (x : w.Word) (bs : List Argument) : Type 0 where
  pub first : Argument
  pub others : List Argument
  pub read : argument x ≡ Some first
  pub behind : arguments (rest_of 32 rest) ≡ Some others
  pub same : bs ≡ first ∷ others

pub next : (left rest : Option Word) (x : w.Word) (bs : List Argument) → rest_of 32 left ≡ x ∷ rest_of 32 rest → arguments (rest_of 32 left) ≡ Some bs → Next left rest x bs
next left rest x bs e h = go (argument x) (arguments (rest_of 32 rest)) refl refl (sym (ap arguments e) ∙ h)
  where
    go : (o : Option Argument) (p : Option (List Argument)) → argument x ≡ o → arguments (rest_of 32 rest) ≡ p → more o p ≡ Some bs → Next left rest x bs
    go None p i j k = absurd (cc)
    go (Some a) None i j k = absurd (cc)
    go (Some a) (Some as') i j k = let q : Some (a ∷ as') ≡ Some bs = k in record { first = a; others = as'; read = i; behind = j; same = cc }

pub has_argument : (names : Names) (all left rest : Option Word) (rows : List Row) (x : w.Word) (as' : List Argument) → Passing names all left rows → arguments (rest_of 32 all) ≡ Some as' → rest_of 32 left ≡ x ∷ rest_of 32 rest → (a : Argument) × (argument x ≡ Some a)
has_argument names all left rest rows x as' p h e = let b = p.some as' h in let n = next left rest x b.0 e b.1 in (n.first, n.read)

one_argument : (o : Option Argument) (a b : Argument) → o ≡ Some a → o ≡ Some b → a ≡ b
one_argument o a b e f = let g : Some a ≡ Some b = sym e ∙ f in cc

pub goes_on : (names : Names) (all left rest : Option Word) (rows : List Row) (x : w.Word) (p : Row) → Passing names all left rows → rest_of 32 left ≡ x ∷ rest_of 32 rest
    → ((ls : List Line) (a : Argument) → Shows names ls → argument x ≡ Some a → IsPassed ls a p) → Passing names all rest (rows ++ p ∷ [])
goes_on names all left rest rows x p g e passed = record {
  some = λ as' h. let b = g.some as' h in let n = next left rest x b.0 e b.1 in (n.others, n.behind);
  so_far = λ ls as' cs s h f.
      let b = g.some as' h in
      let n = next left rest x b.0 e b.1 in
      let old = g.so_far ls as' b.0 s h b.1 in
      let same : n.others ≡ cs = one_list (arguments (rest_of 32 rest)) n.others cs n.behind f in
      record {
        front = old.front ++ n.first ∷ [];
        whole = old.whole ∙ ap (λ xs. old.front ++ xs) (n.same ∙ ap (λ xs. n.first ∷ xs) same) ∙ sym (append_assoc old.front (n.first ∷ []) cs);
        passed = rows_more ls old.front rows n.first p old.passed (passed ls n.first s n.read);
      };
}

-- a refusal behind those that are passed
unmet_behind : (ls : List Line) (front : List Argument) (rows : List Row) (a : Argument) (rest : List Argument) (e : PlanError) → AreArguments ls front (rows_of_list argument_row rows) → IsUnmet ls (names_instance a.instance) e → FirstUnmet ls (argument_demands (front ++ a ∷ rest)) e
unmet_behind ls [] rows a rest e h u = inl u
unmet_behind ls (b ∷ front) [] a rest e h u = absurd h
unmet_behind ls (b ∷ front) (r ∷ rows) a rest e h u = inr ((h.0, h.1), unmet_behind ls front rows a rest e h.3 u)

pub stops : (names : Names) (all left rest : Option Word) (rows : List Row) (x : w.Word) (e : PlanError) → Passing names all left rows → rest_of 32 left ≡ x ∷ rest_of 32 rest
    → ((ls : List Line) (a : Argument) → Shows names ls → argument x ≡ Some a → IsUnmet ls (names_instance a.instance) e) → (ls : List Line) (as' : List Argument) → Shows names ls → arguments (rest_of 32 all) ≡ Some as' → FirstUnmet ls (argument_demands as') e
stops names all left rest rows x e g same u ls as' s h =
    let b = g.some as' h in
    let n = next left rest x b.0 same b.1 in
    let old = g.so_far ls as' b.0 s h b.1 in
    subst (λ xs. FirstUnmet ls (argument_demands xs) e) (sym (old.whole ∙ ap (λ xs. old.front ++ xs) n.same)) (unmet_behind ls old.front rows n.first n.others e old.passed (u ls n.first s n.read))

-- none is left
pub ended : (names : Names) (all left : Option Word) (rows : List Row) → Passing names all left rows → left ≡ None → (ls : List Line) (as' : List Argument) → Shows names ls → arguments (rest_of 32 all) ≡ Some as' → AreArguments ls as' (rows_of_list argument_row rows)
ended names all left rows g none ls as' s h =
    let old = g.so_far ls as' [] s h (ap (λ x. arguments (rest_of 32 x)) none) in
    subst (λ xs. AreArguments ls xs (rows_of_list argument_row rows)) (sym (old.whole ∙ append-nil old.front)) old.passed
