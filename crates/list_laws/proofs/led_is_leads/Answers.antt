use Rattle.comp_list.specs.Listing.{or_zero}
use Rattle.list_laws.proofs.Aliases.{both}
use Rattle.list_laws.proofs.led_is_leads.Goals as goal

pub returns : goal.returns
returns c = λ scopes space index level def place up a. both scopes (or_zero up) space index a
