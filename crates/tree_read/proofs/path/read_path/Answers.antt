use Rattle.std.proofs.Common.{◌∙◌, refl, sym, ap, subst, map}
use Rattle.comp_model.specs.Model as m
use Rattle.text_rules.specs.Made.{join}
use Rattle.text_rules.specs.Makes.{a_leaf}
use Rattle.rule_runs.specs.Run.{done}
use Rattle.comp_tree.specs.Model.{path_of, lent_text}
use Rattle.tree_build.specs.Held.{held}
use Rattle.tree_read.specs.Comes.{Reads}
use Rattle.text_table.specs.Code.{path_rule}
use Rattle.tree_read.proofs.Refusals.{passed}
use Rattle.tree_read.proofs.Paths.{index_refused, steps_refused, path_read, parted, reads_added, adds_as}
use Rattle.tree_read.proofs.path.read_path.Goals as goal

pub returns-in_err-index : goal.returns-in_err-index
returns-in_err-index c = subst (λ r. Reads (path_rule c.args.space c.args.steps) r c.args.reader.now c.index.new.self c.args.scratch.now c.args.scratch.now) (sym (passed c.from_residual.result c.in_err-index.field-0.0 c.from_residual.ensures.1 (λ y k. k)))
    (index_refused c.args.space c.args.steps c.in_err-index.field-0.0 c.args.reader.now c.index.new.self c.in_err-index.ensures)

pub returns-in_err-read_steps : goal.returns-in_err-read_steps
returns-in_err-read_steps c = subst (λ r. Reads (path_rule c.args.space c.args.steps) r c.args.reader.now c.read_steps.new.reader c.args.scratch.now (record c.args.scratch.now { exports = c.read_steps.new.names })) (sym (passed c.from_residual-in_err-read_steps.result c.in_err-read_steps.field-0.0 c.from_residual-in_err-read_steps.ensures.1 (λ y k. k)))
    (steps_refused c.args.space c.args.steps c.in_ok-index.index c.in_err-read_steps.field-0.0 c.args.reader.now c.index.new.self c.read_steps.new.reader c.args.scratch.now.exports.items c.read_steps.new.names.items c.in_ok-index.ensures c.in_err-read_steps.ensures)

pub returns-in-Ok : goal.returns-in-Ok
returns-in-Ok c =
    let r = c.in_ok-read_steps.ensures in
    let n = parted c.len-end.result c.args.scratch.now.exports.items c.read_steps.new.names.items r.read (c.len-end.ensures ∙ c.args.scratch.now.exports.ok.0) r.items in
    let e = c.in-Ok.ensures in
    subst (λ o. Reads (path_rule c.args.space c.args.steps) o c.args.reader.now c.read_steps.new.reader c.args.scratch.now c.add_path.new.scratch) (sym c.stored.ensures)
    (reads_added (path_rule c.args.space c.args.steps) c.add_path.result c.args.reader.now c.read_steps.new.reader c.args.scratch.now c.add_path.new.scratch _
    (λ fs cs. path_read c.args.space c.args.steps c.in_ok-index.index c.args.reader.now c.index.new.self c.read_steps.new.reader c.args.scratch.now.exports.items c.read_steps.new.names.items c.in_ok-index.ensures r (held fs cs c.args.scratch.now)
    ∙ ap (λ ts. done (join (held fs cs c.args.scratch.now) (a_leaf (m.ref c.args.space (path_of c.in_ok-index.index ts)))) c.read_steps.new.reader) (sym (e.taken ∙ n.0)))
    (adds_as c.add_path.result c.args.scratch.now _ c.add_path.new.scratch _ refl (λ fs cs. ap (λ xs. record (held fs cs c.args.scratch.now) { exports = map lent_text xs }) (e.rest ∙ n.1)) c.add_path.ensures))
