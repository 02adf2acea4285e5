use Rattle.std.proofs.Common.{◌≡◌, ◌⊎◌, sym, subst, Some}
use Rattle.open_scopes.specs.Refusals.{no_memory}
use Rattle.tree_build.specs.Cores.{cores_of}
use Rattle.wast_parser.specs.View.{text_of}
use Rattle.wast_component.specs.Encodable.{CanBeEncoded, WrittenAs, whole_refusal}
use Rattle.wast_component.specs.Seen.{seen}
use Rattle.wast_component.specs.Whole.{Whole, whole_of, IsOfText}
use Rattle.wast_component.proofs.Texts.{read_def, text_of_tree, tree_spelled, whole_encoding, whole_refused, refused_uncut, text_refused}
use Rattle.wast_component.proofs.text.encode_text.Goals as goal

pub returns-in-Err-clause-refused : goal.returns-in-Err-clause-refused
returns-in-Err-clause-refused c = refused_uncut c.args.text.now c.args.legacy c.in-Err.error.kind c.in-Err.error.offset c.in-Err.ensures.refused

pub returns-in-Err-read_text-clause-refused : goal.returns-in-Err-read_text-clause-refused
returns-in-Err-read_text-clause-refused c = text_refused c.args.text.now c.args.legacy (text_of c.in-Ok.buffer) c.in-Err-read_text.refusal c.in-Ok.ensures.small c.in-Ok.ensures.tokens c.in-Err-read_text.ensures.gives

pub encode_whole-requires : goal.encode_whole-requires
encode_whole-requires c =
    let read = c.in-Ok-read_text.read in
    record { text = subst IsOfText (sym (c.whole_of.ensures (cores_of read.cores))) (text_of_tree c.text_is_component.ensures.read read (text_of c.in-Ok.buffer) c.in-Ok-read_text.ensures.gives) }

pub returns-in-Ok-encode_whole-clause-encoding : goal.returns-in-Ok-encode_whole-clause-encoding
returns-in-Ok-encode_whole-clause-encoding c =
    let read = c.in-Ok-read_text.read in
    let written = c.in-Ok-encode_whole.written in
    let same : seen (cores_of read.cores) c.whole_of.result ≡ whole_of (read_def read) = c.whole_of.ensures (cores_of read.cores) in
    whole_encoding c.text_is_component.ensures.read c.args.text.now c.args.legacy read (text_of c.in-Ok.buffer) written.bytes.items written.origins c.in-Ok.ensures.small c.in-Ok.ensures.tokens c.in-Ok-read_text.ensures.gives
    (subst CanBeEncoded same c.in-Ok-encode_whole.ensures.encodable)
    (subst (λ (w : Whole). WrittenAs w written.bytes.items written.origins) same c.in-Ok-encode_whole.ensures.written)

pub returns-clause-refused : goal.returns-clause-refused
returns-clause-refused c =
    let read = c.in-Ok-read_text.read in
    let cause = c.in-Err-encode_whole.cause in
    let same : seen (cores_of read.cores) c.whole_of.result ≡ whole_of (read_def read) = c.whole_of.ensures (cores_of read.cores) in
    whole_refused c.args.text.now c.args.legacy (whole_of (read_def read)) cause c.in-Ok.ensures.small (tree_spelled c.args.text.now c.args.legacy read (text_of c.in-Ok.buffer) c.in-Ok.ensures.tokens c.in-Ok-read_text.ensures.gives)
    (subst (λ (w : Whole). (cause ≡ no_memory) ⊎ (whole_refusal w ≡ Some cause)) same c.in-Err-encode_whole.ensures.refused)
