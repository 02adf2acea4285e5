-- Producers and their fields, as code finds them.
use Rattle.std.specs.Prelude.{ℕ, Bool, true, false, List, [], Option, Some, None}
use Rattle.comp_model.specs.Core.{Text}
use Rattle.comp_model.specs.Model as m
use Rattle.comp_model.specs.Payloads.{framed}

-- the text that a leaf is
abbrev pub maybe_text : m.Leaf → Option Text
maybe_text (m.text x) = Some x
maybe_text _ = None

abbrev pub is_text : m.Leaf → Bool
is_text (m.text x) = true
is_text _ = false

abbrev pub framed_text : Option Text → List ℕ
framed_text (Some x) = framed x
framed_text None = []
