-- What readers answer where their values stand for what was spelled by a view or by a relation.
use Rattle.std.proofs.Common.{◌≡◌, true, Result, Ok, Err, refl, ap, ◌∙◌}
use Rattle.wast_tokens.specs.declared.error.Error.{Error}
use Rattle.wast_grammar.specs.Stand.{Stand}
use Rattle.wast_grammar.specs.Tokens.{Text}
use Rattle.wast_grammar.specs.Grammar.{Grammar, Value, none, whole}
use Rattle.wast_grammar.specs.Shape.{sound}
use Rattle.wast_grammar.specs.Clear.{clear}
use Rattle.wast_grammar.specs.Read.{Outcome, reads, read, FailsAs, Gives, start_of}
use Rattle.wast_grammar.proofs.Sound.{answers}
use Rattle.wast_parser.specs.StandingLaws.{IsView}
use Rattle.wast_parser.specs.Standing.{Standing, by_view, by_relation, Stands, Comes, Answers, ComesWhole, AnswersWhole}

-- what comes of reading answers by what spells the row
pub comes_answers : {X : Type 0} (g : Grammar) (m : Standing X) (r : Result X Error) (s t : Stand) → sound g ≡ true → clear g ≡ true → Comes m r t (read g s) → Answers g m r s t
comes_answers g (by_view f) r s t a b h = answers g f r s t a b h
comes_answers g (by_relation R) (Ok x) s t a b h = (h.0, answers g (λ y. h.0) (Ok x) s t a b h.1, h.2)
comes_answers {X = X} g (by_relation R) (Err e) s t a b h = answers {X = X} g (λ y. none) (Err e) s t a b h

-- the same of a whole text
pub comes_answers_whole : {X : Type 0} (g : Grammar) (m : Standing X) (r : Result X Error) (t : Text) → sound g ≡ true → clear (whole g) ≡ true → ComesWhole g m r t → AnswersWhole g m r t
comes_answers_whole g m r t a b h = record { at = h.at; within = h.within; gives = h.gives; answers = comes_answers (whole g) m r (start_of t) h.at a b h.gives }

-- the refusals of any standing
pub comes_fails : {X : Type 0} (m : Standing X) (e : Error) (t : Stand) (o : Outcome) → Comes m (Err e) t o → FailsAs e.kind e.offset t o
comes_fails (by_view f) e t o h = h
comes_fails (by_relation R) e t o h = h

-- the value of any standing
pub comes_reads : {X : Type 0} (m : Standing X) (x : X) (t : Stand) (o : Outcome) → Comes m (Ok x) t o → (v : Value) × (o ≡ reads v t) × Stands m x v
comes_reads (by_view f) x t o h = (f x, h, refl)
comes_reads (by_relation R) x t o h = h

-- where each value that is stood for is the view, reading comes to the view
pub comes_gives : {X : Type 0} (m : Standing X) (f : X → Value) → IsView m f → (r : Result X Error) (t : Stand) (o : Outcome) → Comes m r t o → Gives f r t o
comes_gives m f k (Ok x) t o h = let q = comes_reads m x t o h in q.1 ∙ ap (λ (w : Value). reads w t) (k x q.0 q.2)
comes_gives m f k (Err e) t o h = comes_fails m e t o h
