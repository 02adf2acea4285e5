-- The order in which a table keeps signatures.
use Rattle.std.specs.declared.cmp.Ordering.{Ordering}
use Rattle.core_resolve.specs.declared.signature.Signature.{Signature}
use Rattle.core_resolve.specs.contracts.signature.SignatureOrd.TheImpl as signature_ord

-- the derived one
abbrev pub order : Signature → Signature → Ordering
order = (signature_ord.ghosts).cmp
