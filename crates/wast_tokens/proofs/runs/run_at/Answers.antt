use Rattle.std.proofs.Common.{refl, sym}
use Rattle.wast_tokens.specs.Along.Along.{done}
use Rattle.wast_tokens.specs.Runs.IsOfKind.{word}
use Rattle.wast_tokens.proofs.Parts.{run_behind_word, broken_behind_word, other_kind, reserved_is}
use Rattle.wast_tokens.proofs.runs.run_at.Goals as goal

pub returns-then-not-goes_on : goal.returns-then-not-goes_on
returns-then-not-goes_on c =
    let w = c.word_end-word.result in
    let run = run_behind_word _ _ w w c.word_end-word.ensures.end c.requires.begins (done w w refl) c.if-not-goes_on.ensures.goes_on in
    record { run = (run, word (sym c.word_end-word.ensures.end) c.word_kind.ensures.kind) }

pub returns-in-Ok : goal.returns-in-Ok
returns-in-Ok c =
    let w = c.word_end-word.result in
    let run = run_behind_word _ _ w _ c.word_end-word.ensures.end c.requires.begins c.in-Ok.ensures.end.0 c.in-Ok.ensures.end.1 in
    let kind = other_kind _ _ w _ c.word_end-word.ensures.end c.if-not-goes_on.ensures.goes_on c.in-Ok.ensures.end.1 c.if-text-word-eq34.false in
    record { run = reserved_is _ _ c.in-Ok.end _ c.reserved.ensures.end c.reserved.ensures.kind run kind }

pub returns-in-Err : goal.returns-in-Err
returns-in-Err c = record { run = broken_behind_word _ _ c.word_end-word.result _ _ c.word_end-word.ensures.end c.in-Err.ensures.end }
