use Rattle.std.proofs.Common.{◌<◌, true, refl, sym, subst, ◌∙◌, codes}
use Rattle.wast_grammar.specs.Classes.{keyword}
use Rattle.wast_grammar.specs.NameRows.{attributes, attribute}
use Rattle.wast_grammar.specs.Read.{read, left_of}
use Rattle.wast_grammar.proofs.Fuel.{read_moves}
use Rattle.wast_grammar.proofs.Moves.{Ahead}
use Rattle.wast_grammar.proofs.ThreeParts.{starts, takes_upper, takes_middle, takes_lower}
use Rattle.tree_read.specs.Comes.{Gives}
use Rattle.tree_read.specs.NameParts.{said, attributes_view}
use Rattle.tree_read.proofs.PartFails.{middle_fails, lower_fails}
use Rattle.tree_read.proofs.Refusals.{passed}
use Rattle.tree_read.proofs.names.attributes.Goals as goal

pub parts-init : goal.parts-init
unfolding attributes
parts-init c = starts (attribute "implements") (attribute "version-suffix") (attribute "external-id") said c.args.reader.now

pub parts-smaller-then-begins : goal.parts-smaller-then-begins
parts-smaller-then-begins c =
    let a : Ahead true c.parts.reader c.text_group.new.reader = read_moves (attribute "implements").1 c.parts.reader (said c.in_ok-text_group.field-0) c.text_group.new.reader refl (c.in_ok-text_group.ensures (keyword (codes "implements")) refl) in
    let l : left_of c.text_group.new.reader < left_of c.parts.reader = a.falls refl in l

pub parts-preserved-then-begins : goal.parts-preserved-then-begins
parts-preserved-then-begins c =
    takes_upper (attribute "implements") (attribute "version-suffix") (attribute "external-id") said c.parts.implements c.parts.version_suffix c.parts.external_id c.in_ok-text_group.field-0 c.parts.reader c.text_group.new.reader _ c.parts.invariant
    (sym c.begins.ensures ∙ c.if-begins.true) (c.in_ok-text_group.ensures (keyword (codes "implements")) refl)

pub returns-in_err-text_group-2 : goal.returns-in_err-text_group-2
returns-in_err-text_group-2 c =
    subst (λ r. Gives attributes_view r c.text_group-then-begins-2.new.reader (read attributes c.args.reader.now))
    (sym (passed c.from_residual-in_err-text_group-2.result c.in_err-text_group-2.field-0.0 c.from_residual-in_err-text_group-2.ensures.1 (λ y z. z)))
    (middle_fails (attribute "implements") (attribute "version-suffix") (attribute "external-id") said c.in_err-text_group-2.field-0.0 c.parts.implements c.parts.version_suffix c.parts.external_id c.parts.reader c.text_group-then-begins-2.new.reader _ c.parts.invariant
    (sym c.begins.ensures ∙ c.if-begins.false) (sym c.begins-else-begins.ensures ∙ c.if-begins-2.true) (c.in_err-text_group-2.ensures (keyword (codes "version-suffix")) refl))

pub parts-smaller-then-begins-2 : goal.parts-smaller-then-begins-2
parts-smaller-then-begins-2 c =
    let a : Ahead true c.parts.reader c.text_group-then-begins-2.new.reader = read_moves (attribute "version-suffix").1 c.parts.reader (said c.in_ok-text_group-2.field-0) c.text_group-then-begins-2.new.reader refl (c.in_ok-text_group-2.ensures (keyword (codes "version-suffix")) refl) in
    let l : left_of c.text_group-then-begins-2.new.reader < left_of c.parts.reader = a.falls refl in l

pub parts-preserved-then-begins-2 : goal.parts-preserved-then-begins-2
parts-preserved-then-begins-2 c =
    takes_middle (attribute "implements") (attribute "version-suffix") (attribute "external-id") said c.parts.implements c.parts.version_suffix c.parts.external_id c.in_ok-text_group-2.field-0 c.parts.reader c.text_group-then-begins-2.new.reader _ c.parts.invariant
    (sym c.begins.ensures ∙ c.if-begins.false) (sym c.begins-else-begins.ensures ∙ c.if-begins-2.true) (c.in_ok-text_group-2.ensures (keyword (codes "version-suffix")) refl)

pub returns-in_err-text_group-3 : goal.returns-in_err-text_group-3
returns-in_err-text_group-3 c =
    subst (λ r. Gives attributes_view r c.text_group-then-begins-3.new.reader (read attributes c.args.reader.now))
    (sym (passed c.from_residual-in_err-text_group-3.result c.in_err-text_group-3.field-0.0 c.from_residual-in_err-text_group-3.ensures.1 (λ y z. z)))
    (lower_fails (attribute "implements") (attribute "version-suffix") (attribute "external-id") said c.in_err-text_group-3.field-0.0 c.parts.implements c.parts.version_suffix c.parts.external_id c.parts.reader c.text_group-then-begins-3.new.reader _ c.parts.invariant
    (sym c.begins.ensures ∙ c.if-begins.false) (sym c.begins-else-begins.ensures ∙ c.if-begins-2.false) (sym c.begins-else-begins-2.ensures ∙ c.if-begins-3.true) (c.in_err-text_group-3.ensures (keyword (codes "external-id")) refl))

pub parts-smaller : goal.parts-smaller
parts-smaller c =
    let a : Ahead true c.parts.reader c.text_group-then-begins-3.new.reader = read_moves (attribute "external-id").1 c.parts.reader (said c.in_ok-text_group-3.field-0) c.text_group-then-begins-3.new.reader refl (c.in_ok-text_group-3.ensures (keyword (codes "external-id")) refl) in
    let l : left_of c.text_group-then-begins-3.new.reader < left_of c.parts.reader = a.falls refl in l

pub parts-preserved : goal.parts-preserved
parts-preserved c =
    takes_lower (attribute "implements") (attribute "version-suffix") (attribute "external-id") said c.parts.implements c.parts.version_suffix c.parts.external_id c.in_ok-text_group-3.field-0 c.parts.reader c.text_group-then-begins-3.new.reader _ c.parts.invariant
    (sym c.begins.ensures ∙ c.if-begins.false) (sym c.begins-else-begins.ensures ∙ c.if-begins-2.false) (sym c.begins-else-begins-2.ensures ∙ c.if-begins-3.true) (c.in_ok-text_group-3.ensures (keyword (codes "external-id")) refl)
