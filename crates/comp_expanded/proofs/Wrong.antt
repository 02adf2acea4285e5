-- Lists that are no expansion: one with an inline node left in its place, one in which inline nodes are exchanged, one with an id of the
-- text for a generated definition.
use Rattle.std.proofs.Common.{◌≡◌, [], Option, Some, None, refl, sym, ap, subst, rules}
use Rattle.comp_model.specs.declared.Space.TheVariants.{Ty}
use Rattle.comp_model.specs.Model.{no_def, number, define, one_def, Scope, scope_of}
use Rattle.comp_model.specs.Origins.{inline_type}
use Rattle.comp_expanded.specs.ListMarks.{ListMarks}
use Rattle.comp_scopes.specs.Form.{form}
use Rattle.comp_scopes.specs.Rule.{ScopeRule}
use Rattle.comp_scopes.specs.Rowed.{Rowed}
use Rattle.comp_expanded.specs.OfText.{OfText}
use Rattle.comp_model.specs.ItemNames.{first_or_none}
use Rattle.comp_model.specs.Core.{Id}
use Rattle.comp_expanded.specs.Expansion.{Naming, given, expand, expand_marks}
use Rattle.comp_expanded.specs.Named.{IsGenerated, Named}
use Rattle.comp_expanded.specs.Expands.{Expands}
use Rattle.comp_scopes.proofs.Quiet.{rule-none}
use Rattle.comp_scopes.proofs.Shorthands.{plain_encoding, id_at, def, bare, component, named, list_of}
use Rattle.comp_expanded.proofs.Alone.{expands-expanded}
use Rattle.comp_expanded.proofs.FormsKept.{expands-form}
use Rattle.comp_expanded.proofs.HasNaming.{expands-expand}
use Rattle.comp_scopes.proofs.Letters.{t}
use Rattle.comp_expanded.proofs.Samples.{list_type}

-- (component (type (list (list u8))))
abbrev lists : Scope
lists = component (bare (list_of (list_type (number 0x7d))) no_def)

lists_rowed : Rowed lists
lists_rowed = search rules

lists_text : OfText lists
lists_text = search rules

left_in_place : (os : ListMarks) → Expands lists lists os → ⊥
left_in_place os h = (expands-expanded lists lists os lists_rowed lists_text h).1.0

lists_rule : ScopeRule plain_encoding [] lists
lists_rule = (rule-none plain_encoding [] lists).1 refl

-- the inline list behind the definition that it is in
abbrev exchanged : Scope
exchanged = component (bare (list_of (named 0 Ty t)) (def t (list_of (number 0x7d)) no_def))

wrong_order : (os : ListMarks) → Expands lists exchanged os → ⊥
wrong_order os h =
    let q : form plain_encoding [] exchanged ≡ form plain_encoding [] lists = expands-form plain_encoding [] [] lists exchanged os tt lists_rowed lists_text h lists_rule in absurd (cc)

-- the generated definition with an id of the text, whose form would be right
abbrev text_id : Scope
text_id = component (def t (list_of (number 0x7d)) (bare (list_of (named 0 Ty t)) no_def))

abbrev first_id_of : Scope → Option Id
first_id_of (scope_of kd id label no_def) = None
first_id_of (scope_of kd id label (one_def (define ns n) ds)) = first_or_none ns.ids

not_generated : (os : ListMarks) → Expands lists text_id os → ⊥
not_generated os h =
    let k : (g : Naming) × Named g lists × (text_id ≡ expand g lists) × (os ≡ expand_marks g lists) = expands-expand lists text_id os lists_rowed lists_text h in
    let e : Some (id_at 0 t) ≡ given k.0 (inline_type 0 0) = ap first_id_of k.2 in
    let q : IsGenerated (Some (id_at 0 t)) = subst IsGenerated (sym e) k.1.0.2.0.0 in absurd (cc)
