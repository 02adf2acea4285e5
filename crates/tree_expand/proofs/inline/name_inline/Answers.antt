use Rattle.std.proofs.Common.{◌∙◌, sym, ap, refl}
use Rattle.comp_expanded.specs.Expansion.{the_id}
use Rattle.comp_tree.specs.Entries.{entries_of}
use Rattle.comp_tree.specs.Lists.{listed}
use Rattle.comp_tree.specs.Model.{id_of}
use Rattle.comp_tree.proofs.Outcomes.{of-ok}
use Rattle.tree_expand.specs.Numbering.{id_at}
use Rattle.tree_expand.specs.Standing.{ids_of}
use Rattle.tree_expand.proofs.NamedIs.{named_equal, named_own, entries_behind}
use Rattle.tree_expand.proofs.inline.name_inline.Goals as goal

pub returns-in_ok-push_type-in-Some-clause-named : goal.returns-in_ok-push_type-in-Some-clause-named
returns-in_ok-push_type-in-Some-clause-named c = λ cores xs s k p.
    let ls = listed cores c.args.node.now.leaves.now in
    of-ok _ _ c.place.result
    (λ r h. named_equal xs _ _ c.args.node.now.row ls _ _ c.args.parts.now.own.key c.args.gensym.now.made c.in-Some.found (id_of r.now) (entries_of cores c.append.new.list.items) c.push_type.new.key c.args.parts.now.known c.args.gensym.now.made
    (sym c.in-Some.is ∙ c.find_equal.ensures xs ls s (c.in_ok-push_part.ensures _ k) p)
    (ap id_of h ∙ c.id_by_number.ensures ∙ ap (λ q. the_id (id_at q c.in-Some.found)) (ap ids_of c.deref-in-Some.ensures.value ∙ s.ids))
    (entries_behind cores c.append.new.list.items c.args.parts.now.inlined.items c.deref.result.now c.args.inner.now.bundles.items c.in_ok-append.ensures c.deref.ensures.value)
    s refl c.in_ok-push_type-in-Some.ensures)
    c.place.ensures

pub returns-in_ok-push_type-in-None-clause-named : goal.returns-in_ok-push_type-in-None-clause-named
returns-in_ok-push_type-in-None-clause-named c = λ cores xs s k p.
    let ls = listed cores c.args.node.now.leaves.now in
    let none = sym c.in-None.is ∙ c.find_equal.ensures xs ls s (c.in_ok-push_part.ensures _ k) p in
    named_own xs c.args.definition c.args.number c.args.node.now.row ls _ _ c.args.parts.now.own.key c.args.gensym.now.made c.in_ok-name-in-None.number (id_of c.in_ok-name-in-None.name.now) (entries_of cores c.append.new.list.items) (entries_of cores c.push_own.new.inlined.items) c.push_type-in-None.new.key c.push_own.new.known c.push_own.new.gensym.made
    none c.in_ok-name-in-None.ensures.id
    (c.in_ok-name-in-None.ensures.pushed cores)
    (entries_behind cores c.append.new.list.items c.args.parts.now.inlined.items c.deref.result.now c.args.inner.now.bundles.items c.in_ok-append.ensures c.deref.ensures.value)
    c.in_ok-name-in-None.ensures.made
    (c.in_ok-name-in-None.ensures.noted xs ls c.args.definition c.args.number s (c.in_ok-push_part.ensures _ k) p (sym none))
    c.in_ok-push_type-in-None.ensures
