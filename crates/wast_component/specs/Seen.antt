-- What the code's `Whole` stands for.
use Rattle.std.specs.Prelude.{List}
use Rattle.comp_model.specs.CoreModules.{CoreModule}
use Rattle.comp_tree.specs.Model.{joined, scope_of}
use Rattle.wast_component.specs.Whole as w
use Rattle.wast_component.specs.declared.whole.Whole.{Whole}
use Rattle.wast_component.specs.declared.whole.Whole.TheVariants as code

abbrev pub seen : List CoreModule → Whole → w.Whole
seen cores (code.Component s) = w.in_text (scope_of cores s.now)
seen cores (code.Text t) = w.in_binary t.now
seen cores (code.Pieces ps) = w.in_binary (joined ps.now)
seen cores (code.Module n) = w.a_module n
