use Rattle.std.proofs.Common.{◌≡◌, ◌∙◌, ap, sym, refl}
use Rattle.std.proofs.lemmas.List.{drop_all}
use Rattle.std.specs.Prelude.{option_map}
use Rattle.comp_model.specs.Model as m
use Rattle.comp_tree.specs.Model.{id_of, lent_text}
use Rattle.tree_build.proofs.Slices.{take_all, none_mapped}
use Rattle.tree_build.proofs.definitions.take_names.Goals as goal

pub returns-then-is_nameless-clause-ids : goal.returns-then-is_nameless-clause-ids
returns-then-is_nameless-clause-ids c =
    none_mapped (option_map id_of) c.no_names.result.now.ids.now (ap (λ (n : m.Names). n.ids) c.no_names.ensures)
    ∙ sym (drop_all c.args.ends.ids c.args.scratch.now.ids.items (c.is_nameless.ensures c.if-is_nameless.true).ids)

pub returns-then-is_nameless-clause-labels : goal.returns-then-is_nameless-clause-labels
returns-then-is_nameless-clause-labels c =
    none_mapped (option_map lent_text) c.no_names.result.now.labels.now (ap (λ (n : m.Names). n.labels) c.no_names.ensures)
    ∙ sym (drop_all c.args.ends.labels c.args.scratch.now.labels.items (c.is_nameless.ensures c.if-is_nameless.true).labels)

pub returns-then-is_nameless-clause-exports : goal.returns-then-is_nameless-clause-exports
returns-then-is_nameless-clause-exports c =
    none_mapped lent_text c.no_names.result.now.exports.now (ap (λ (n : m.Names). n.exports) c.no_names.ensures)
    ∙ sym (drop_all c.args.ends.exports c.args.scratch.now.exports.items (c.is_nameless.ensures c.if-is_nameless.true).exports)

pub returns-then-is_nameless-clause-rest : goal.returns-then-is_nameless-clause-rest
returns-then-is_nameless-clause-rest c =
    let none = c.is_nameless.ensures c.if-is_nameless.true in
    let p = c.args.scratch.now in
    record {
      ids = sym (take_all c.args.ends.ids p.ids.items none.ids);
      labels = sym (take_all c.args.ends.labels p.labels.items none.labels);
      exports = sym (take_all c.args.ends.exports p.exports.items none.exports);
      rows = refl;
      leaves = refl;
      nodes = refl;
      places = refl;
      defs = refl;
      cores = refl;
    }
