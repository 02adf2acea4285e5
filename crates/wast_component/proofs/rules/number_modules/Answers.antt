use Rattle.std.proofs.Common.{◌≡◌, ◌∙◌, List, sym, refl}
use Rattle.std.specs.Global.{Vec}
use Rattle.std.specs.Vec.Iter.{into_iter_items}
use Rattle.core_syntax.specs.Fields.{fields_of}
use Rattle.core_syntax.specs.declared.fields.ModuleField.{ModuleField}
use Rattle.wast_component.specs.Modules.{ruled_fields, all_numbered}
use Rattle.wast_component.specs.declared.ruled.Ruled.{Ruled}
use Rattle.wast_component.proofs.Modules.{finished}
use Rattle.wast_component.proofs.rules.number_modules.Goals as goal

pub returns : goal.returns
returns c =
    let gives : into_iter_items c.into_iter-ruled-iterator.result ≡ c.args.all.items = c.into_iter-ruled-iterator.ensures.into_iter_gives.0 in
    finished (λ (v : Vec ModuleField). fields_of v.items) (λ (rs : List Ruled). all_numbered (ruled_fields rs)) c.loop-ruled.numbered.items (into_iter_items c.loop-ruled.ruled-iterator) (into_iter_items c.into_iter-ruled-iterator.result) c.args.all.items refl (sym c.loop-ruled.invariant.left ∙ c.in-None.ensures.steps.0) gives c.loop-ruled.invariant.done
