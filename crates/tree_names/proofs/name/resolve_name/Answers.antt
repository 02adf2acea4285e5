use Rattle.std.proofs.Common.{sym, ◌∙◌}
use Rattle.comp_walks.specs.Lent.{id_of, reach_of}
use Rattle.tree_names.specs.AllFound.{name_found}
use Rattle.tree_names.proofs.Names.{outer_read, own_read}
use Rattle.tree_names.proofs.Taking.{next_is, next_taken, name_indexed}
use Rattle.tree_names.proofs.name.resolve_name.Goals as goal

pub index_of-index-requires : goal.index_of-index-requires
index_of-index-requires c =
    record {
      indexed = name_indexed c.args.scopes.now c.args.space (reach_of c.args.reach) (id_of c.args.id) c.in-Some.found c.requires.indexed
          (λ ms w. sym c.in-Some.is ∙ next_is c.args.scopes.now (λ ms. name_found ms c.args.space (reach_of c.args.reach) (id_of c.args.id)) c.next.result c.args.reading.now.denotations.left.now c.next.new.self.left.now c.next.ensures.next c.requires.kept ms w);
    }

pub returns-in-Ok : goal.returns-in-Ok
returns-in-Ok c =
    outer_read c.args.scopes.now c.args.space (reach_of c.args.reach) (id_of c.args.id) c.args.reading.now c.in-Some.found _ c.next.new.self
    (λ ms w. sym c.in-Some.is ∙ next_is c.args.scopes.now (λ ms. name_found ms c.args.space (reach_of c.args.reach) (id_of c.args.id)) c.next.result c.args.reading.now.denotations.left.now c.next.new.self.left.now c.next.ensures.next c.requires.kept ms w)
    c.index_of-index.ensures.index
    (next_taken c.args.scopes.now (λ ms. name_found ms c.args.space (reach_of c.args.reach) (id_of c.args.id)) c.next.result c.args.reading.now.denotations.left.now c.next.new.self.left.now c.next.ensures.next c.requires.kept)
    c.next.ensures.served c.if-leads_out.ensures _ _ c.in-Ok.ensures.done
