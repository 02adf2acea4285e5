use Rattle.std.proofs.Common.{sym, ◌∙◌}
use Rattle.tree_write.specs.Along.{payload_by}
use Rattle.tree_write.proofs.NameSections.{not_due, section_put}
use Rattle.tree_write.proofs.name_section.write_name_section.Goals as goal

pub returns-then-not-is_named : goal.returns-then-not-is_named
returns-then-not-is_named g c = not_due (payload_by c.args.names.now) (g.S.Sink.kept c.args.sink.now) (sym c.is_named.ensures ∙ c.if-not-is_named.true)

pub returns : goal.returns
returns g c =
    section_put (payload_by c.args.names.now) c.length-end.result _ _ _ _ _ (sym c.is_named.ensures ∙ c.if-not-is_named.false) c.write_payload.ensures c.write_text.ensures c.close.ensures c.length-end.ensures c.byte.ensures
