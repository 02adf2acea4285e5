use Rattle.std.proofs.Common.{◌+◌, sym, ap, subst, ◌∙◌, Some, refl}
use Rattle.plan_lines.specs.Lines.{arguments as read_arguments, a_part, an_instance, an_export}
use Rattle.plan_lines.specs.Shown.{word_of, rest_of, line_of, WordsWithin}
use Rattle.comp_compose.specs.Composing.{Added}
use Rattle.comp_compose.specs.Weights.{Takes}
use Rattle.comp_compose.proofs.Said.{one_line, instantiates, below}
use Rattle.comp_compose.proofs.composer.Composer.add.Goals as goal

pub add_part-requires : goal.add_part-requires
add_part-requires c =
    let r = c.requires.room in
    let x = a_part (word_of c.in-Part.name) (word_of c.in-Part.digits) in
    let same = one_line (line_of c.args.said) x r.3 (ap line_of c.in-Part.is) r.5 in
    (r.0, r.1, r.2, r.4, subst (λ l. Takes l r.2) (sym same) r.6, r.7)

pub returns-in-Part : goal.returns-in-Part
returns-in-Part c =
    λ ls spent n l g e t k.
    let x = a_part (word_of c.in-Part.name) (word_of c.in-Part.digits) in
    let same = one_line (line_of c.args.said) x l (ap line_of c.in-Part.is) e in
    subst (λ y. Added c.add_part.new.self ls y (spent + n) c.add_part.result) same (c.add_part.ensures ls spent n g (subst (λ y. Takes y n) (sym same) t) k)

pub add_instance-requires-clause-spans : goal.add_instance-requires-clause-spans
add_instance-requires-clause-spans c =
    let r = c.requires.spans in
    below c.in-Instance.arguments r.0 (subst (λ x. WordsWithin x r.0) c.in-Instance.is r.1).2 r.2

pub add_instance-requires-clause-room : goal.add_instance-requires-clause-room
add_instance-requires-clause-room c =
    let r = c.requires.room in
    let s = instantiates (word_of c.in-Instance.name) (word_of c.in-Instance.part) (read_arguments (rest_of 32 c.in-Instance.arguments)) r.3 (sym (ap line_of c.in-Instance.is) ∙ r.5) in
    (r.0, r.1, r.2, s.arguments, r.4, s.read, subst (λ l. Takes l r.2) (sym s.same) r.6, r.7)

pub returns-in-Instance : goal.returns-in-Instance
returns-in-Instance c =
    λ ls spent n l g e t k.
    let s = instantiates (word_of c.in-Instance.name) (word_of c.in-Instance.part) (read_arguments (rest_of 32 c.in-Instance.arguments)) l (sym (ap line_of c.in-Instance.is) ∙ e) in
    subst (λ y. Added c.add_instance.new.self ls y (spent + n) c.add_instance.result) s.same (c.add_instance.ensures ls spent n s.arguments g s.read (subst (λ y. Takes y n) (sym s.same) t) k)

pub add_export-requires : goal.add_export-requires
add_export-requires c =
    let r = c.requires.room in
    let x = an_export (word_of c.in-Export.text) (word_of c.in-Export.instance) in
    let same = one_line (line_of c.args.said) x r.3 (ap line_of c.in-Export.is) r.5 in
    (r.0, r.1, r.2, r.4, subst (λ l. Takes l r.2) (sym same) r.6, r.7)

pub returns-in-Export : goal.returns-in-Export
returns-in-Export c =
    λ ls spent n l g e t k.
    let x = an_export (word_of c.in-Export.text) (word_of c.in-Export.instance) in
    let same = one_line (line_of c.args.said) x l (ap line_of c.in-Export.is) e in
    subst (λ y. Added c.add_export.new.self ls y (spent + n) c.add_export.result) same (c.add_export.ensures ls spent n g (subst (λ y. Takes y n) (sym same) t) k)
