use Rattle.std.proofs.Common.{◌+◌, length, subst}
use Rattle.plan_lines.specs.Lines.{line}
use Rattle.plan_lines.specs.Shown.{word_of, span}
use Rattle.comp_compose.specs.Composing.{Added}
use Rattle.comp_compose.proofs.Said.{one_line, no_line}
use Rattle.comp_compose.proofs.Weighing.{line_takes}
use Rattle.comp_compose.proofs.composer.Composer.add_line.Goals as goal

pub add-requires-clause-spans : goal.add-requires-clause-spans
add-requires-clause-spans c = (span c.args.line, c.in-Some.ensures.spans, c.requires.spans)

pub add-requires-clause-room : goal.add-requires-clause-room
add-requires-clause-room c =
    let r = c.requires.room in
    let s = c.in-Some.ensures.said in
    (r.0, r.1, length c.args.line.bytes.now, s.0, r.3, s.1, line_takes (word_of c.args.line) s.0 s.2, r.5)

pub returns : goal.returns
returns c =
    λ ls spent l g e k.
    let s = c.in-Some.ensures.said in
    let n = length c.args.line.bytes.now in
    subst (λ x. Added c.add.new.self ls x (spent + n) c.add.result) (one_line (line (word_of c.args.line)) s.0 l s.2 e) (c.add.ensures ls spent n s.0 g s.1 (line_takes (word_of c.args.line) s.0 s.2) k)

pub unreachable-requires : goal.unreachable-requires
unreachable-requires c = no_line (line (word_of c.args.line)) c.requires.room.2 c.in-None.ensures.said c.requires.room.4
