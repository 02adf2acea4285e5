use Rattle.std.proofs.Common.{length, ap}
use Rattle.tree_build.proofs.Prefixes.{named_there}
use Rattle.tree_build.specs.Cores.{module_of}
use Rattle.tree_build.proofs.modules.name_module.Goals as goal

pub returns-in-Ok-clause-leaf : goal.returns-in-Ok-clause-leaf
returns-in-Ok-clause-leaf c = λ fs cs h. named_there (module_of fs) c.args.cores.now.modules.items c.push.new.self.items _ cs (length c.as_slice-number.result.now) c.in-Ok.ensures.items (ap length c.as_slice-number.ensures.value) h.modules
