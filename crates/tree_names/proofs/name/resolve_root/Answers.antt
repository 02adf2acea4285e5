use Rattle.std.proofs.Common.{◌≡◌, None, subst, sym, ◌∙◌}
use Rattle.comp_model.specs.Core.{own}
use Rattle.comp_tables.specs.Built.{missing_root}
use Rattle.comp_tree.specs.Model.{root_of, id_of}
use Rattle.open_scopes.proofs.Stacks.{some-shown}
use Rattle.tree_names.specs.AllFound.{name_found, root_found, FoundFirst}
use Rattle.tree_names.proofs.Names.{root_refused}
use Rattle.tree_names.proofs.Taking.{next_is, name_indexed}
use Rattle.tree_names.proofs.name.resolve_root.Goals as goal

pub unreachable-requires : goal.unreachable-requires
unreachable-requires c =
    let shown = some-shown c.args.scopes.now in
    root_refused shown.0 c.args.space (id_of c.in-Id.field-0)
    (sym c.in-None.is
    ∙ next_is c.args.scopes.now (λ ms. name_found ms c.args.space own (id_of c.in-Id.field-0)) c.next.result c.args.denotations.now.left.now c.next.new.self.left.now c.next.ensures.next
    (subst (λ i. FoundFirst c.args.scopes.now (λ ms. root_found ms c.args.space (root_of i)) c.args.denotations.now.left.now) c.in-Id.is c.requires.kept) shown.0 shown.1)
    (subst (λ r. missing_root shown.0 c.args.space (root_of r) ≡ None) c.in-Id.is (c.requires.rooted shown.0 shown.1))

pub index_of-requires : goal.index_of-requires
index_of-requires c =
    record {
      indexed = name_indexed c.args.scopes.now c.args.space own (id_of c.in-Id.field-0) c.in-Some.found c.requires.indexed
          (λ ms w. sym c.in-Some.is
          ∙ next_is c.args.scopes.now (λ ms. name_found ms c.args.space own (id_of c.in-Id.field-0)) c.next.result c.args.denotations.now.left.now c.next.new.self.left.now c.next.ensures.next
          (subst (λ i. FoundFirst c.args.scopes.now (λ ms. root_found ms c.args.space (root_of i)) c.args.denotations.now.left.now) c.in-Id.is c.requires.kept) ms w);
    }
