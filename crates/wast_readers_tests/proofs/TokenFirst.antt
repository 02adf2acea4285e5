-- A token in front of the rest of its row.
use Rattle.std.proofs.Common.{◌≡◌, Bool, true, false, cond, ap, ◌∙◌}
use Rattle.wast_grammar.specs.Classes.{Class, same}
use Rattle.wast_grammar.specs.Stand.{Stand, class_at, moved}
use Rattle.wast_grammar.specs.Grammar.{Grammar, before, nothing, Value, none}
use Rattle.wast_grammar.specs.Read.{reads, fault, read}

-- the token is read, then the rest
pub then_reads : (c : Class) (g : Grammar) (s t r : Stand) (v : Value) → read (before c nothing) s ≡ reads none t → read g t ≡ reads v r → read (before c g) s ≡ reads v r
then_reads c g s t r v h e = go (same (class_at s) c) h
  where
    go : (b : Bool) → cond b (reads none (moved s 1)) (fault s) ≡ reads none t → cond b (read g (moved s 1)) (fault s) ≡ reads v r
    go true i = let x : moved s 1 ≡ t = cc in ap (read g) x ∙ e
    go false i = absurd (cc)
