-- Texts at a place.
use Rattle.std.proofs.Common.{ℕ, ◌<◌, ◌++◌, length, length-append, sym, ◌∙◌, ap, arith, append_assoc}
use Rattle.comp_model.specs.Leb.{uleb}
use Rattle.comp_model.specs.Payloads.{framed}
use Rattle.comp_wire.specs.Sections.{Word}
use Rattle.comp_wire.proofs.Numbers.{uleb_ends}
use Rattle.wire_read.specs.Place.{Place, rest}
use Rattle.wire_read.specs.Reading.{Unread, Read}
use Rattle.wire_read.specs.Codes.{ShortText}

pub too_long : (old mid : Place) (n : ℕ) → Read Word uleb old mid n → length (rest mid) < n → Unread ShortText framed (rest old)
too_long old mid n q l x r h f =
    let e = uleb_ends (length x) n (x ++ r) (rest mid) (sym (append_assoc (uleb (length x)) x r) ∙ f ∙ q.1.taken) in
    let k = ap length e.1 in
    omega (arith, e.0, k, l, length-append x r)
