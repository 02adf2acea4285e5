use Rattle.std.proofs.Common.{◌∙◌, sym, ap, List, option_map}
use Rattle.comp_model.specs.CoreModules.{Field}
use Rattle.comp_tree.specs.Model.{id_of, lent_text}
use Rattle.core_model.specs.Module.{module_with}
use Rattle.core_syntax.specs.Fields.{fields_of}
use Rattle.wast_component.specs.declared.ruled.Ruled.{Ruled}
use Rattle.wast_component.proofs.Modules.{ruled_at, fields_there, fields_missing}
use Rattle.wast_component.proofs.checked.checked_module.Goals as goal

pub checked_by-requires : goal.checked_by-requires
checked_by-requires c = ruled_at c.args.all.now c.args.named.now.fields c.index-all-named.result c.if-named-all.true c.index-all-named.is c.requires

pub returns-then-named-all : goal.returns-then-named-all
returns-then-named-all c =
    let named = c.args.named.now in
    c.checked_by.ensures ∙ ap (λ (fs : List Field). module_with (record { id = option_map id_of named.id; label = option_map lent_text named.label }) fs) (sym (fields_there (λ (r : Ruled). fields_of r.fields.items) c.args.all.now named.fields c.index-all-named.result c.if-named-all.true c.index-all-named.is))

pub returns-else-named-all : goal.returns-else-named-all
returns-else-named-all c =
    let named = c.args.named.now in
    c.checked_empty.ensures ∙ ap (λ (fs : List Field). module_with (record { id = option_map id_of named.id; label = option_map lent_text named.label }) fs) (sym (fields_missing (λ (r : Ruled). fields_of r.fields.items) c.args.all.now named.fields c.if-named-all.false))
