-- The exchange of two names changes neither the first broken rule nor the bytes without the name section.
use Rattle.std.proofs.Common.{◌≡◌, List, refl}
use Rattle.comp_model.specs.Core.{Text}
use Rattle.comp_model.proofs.Exchange.{exchange-same}
use Rattle.comp_model.specs.CoreModules.{Field}
use Rattle.core_model.specs.Rule.{core_rule}
use Rattle.core_model.specs.Bytes.{module_bytes}
use Rattle.comp_model.specs.Renaming.{exchanged_id, exchanged}
use Rattle.core_model.proofs.Renamed.{core_rule-renamed}
use Rattle.core_model.proofs.BytesRenamed.{module_bytes-renamed}

pub core_rule-exchanged : (a b : Text) (fs : List Field) → core_rule (exchanged a b fs) ≡ core_rule fs
core_rule-exchanged a b fs = core_rule-renamed (exchanged_id a b) (exchange-same a b) (λ x. refl) fs

pub module_bytes-exchanged : (a b : Text) (fs : List Field) → module_bytes (exchanged a b fs) ≡ module_bytes fs
module_bytes-exchanged a b fs = module_bytes-renamed (exchanged_id a b) (exchange-same a b) (λ x. refl) fs
