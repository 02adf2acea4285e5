use Rattle.std.proofs.Common.{refl, sym, arith}
use Rattle.tree_write.proofs.NameSections.{filled_by_items}
use Rattle.tree_write.proofs.name_section.is_named.Goals as goal

pub returns-then-len-ne0 : goal.returns-then-len-ne0
returns-then-len-ne0 c =
    let items = c.args.names.now.items in
    sym (filled_by_items c.args.names.now items.items refl (λ z. c.if-len-ne0.true (omega (arith, c.len.ensures, items.ok.0, z))))
