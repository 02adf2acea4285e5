use Rattle.std.proofs.Common.{drop, arith, is_some, sym, ◌∙◌, ap, map}
use Rattle.std.specs.Prelude.{option_map}
use Rattle.comp_model.specs.Core.{label_or_id}
use Rattle.comp_model.specs.ItemNames.{first_or_none}
use Rattle.comp_tree.specs.Model.{id_of, lent_text}
use Rattle.tree_resolve.proofs.NamedItems.{named-there, past-nameless}
use Rattle.tree_resolve.proofs.naming.names_item.Goals as goal

pub returns-then-has_name : goal.returns-then-has_name
returns-then-has_name c = λ C.
    named-there (map (option_map id_of) c.args.def.now.names.now.ids.now) (map (option_map lent_text) c.args.def.now.names.now.labels.now) c.in_ok-spaces.spaces.items c.loop-part.part (let n = c.len-part-end.ensures in let t = c.loop-part-test.true in omega (arith, n, t))
    (ap (λ z. is_some (label_or_id z (first_or_none (drop c.loop-part.part (map (option_map id_of) c.args.def.now.names.now.ids.now))))) (sym c.label_at.ensures)
    ∙ ap (λ z. is_some (label_or_id (option_map lent_text c.label_at.result) z)) (sym c.id_at.ensures) ∙ sym c.has_name.ensures ∙ c.if-has_name.true)
    c.loop-part.invariant _ (c.in_ok-spaces.ensures C)

pub loop-part-preserved : goal.loop-part-preserved
loop-part-preserved c =
    past-nameless (map (option_map id_of) c.args.def.now.names.now.ids.now) (map (option_map lent_text) c.args.def.now.names.now.labels.now) c.in_ok-spaces.spaces.items c.loop-part.part (let n = c.len-part-end.ensures in let t = c.loop-part-test.true in omega (arith, n, t))
    (ap (λ z. is_some (label_or_id z (first_or_none (drop c.loop-part.part (map (option_map id_of) c.args.def.now.names.now.ids.now))))) (sym c.label_at.ensures)
    ∙ ap (λ z. is_some (label_or_id (option_map lent_text c.label_at.result) z)) (sym c.id_at.ensures) ∙ sym c.has_name.ensures ∙ c.if-has_name.false)
    c.loop-part.invariant
