-- The choices are rules that a reader takes.
use Rattle.std.proofs.Common.{◌≡◌, true, refl, lit≤}
use Rattle.wast_grammar.specs.Classes.{opening, closing}
use Rattle.wast_grammar.specs.Grammar as g
use Rattle.wast_grammar.specs.FieldRows.{is_custom, is_producers}
use Rattle.wast_grammar.specs.Shape.{sound}
use Rattle.wast_grammar.specs.ValueRows.{reference}
use Rattle.text_rules.specs.Rule.{reads}
use Rattle.text_rules.specs.Measure.{Fit}
use Rattle.text_rules.specs.ValueRules.{nonprim}
use Rattle.text_rules.specs.CanonRules.{built_in}
use Rattle.text_rules.specs.FieldRules.{field_in_group}
use Rattle.text_rules.specs.TypeRules.{component_declaration, instance_declaration}
use Rattle.text_rules.proofs.TableReads.{rows_fit}
use Rattle.rule_runs.proofs.Ranks.{fit_before, fit_after, fit_other}

sound_nonprim : sound (reads nonprim) ≡ true
unfolding reference
sound_nonprim = refl

pub nonprim_fits : Fit nonprim
nonprim_fits = record { sound = sound_nonprim; small = lit≤ tt }

pub field_fits : Fit field_in_group
field_fits = fit_after _ closing (fit_before opening _ (fit_other is_producers _ _ (fit_other is_custom _ _ (rows_fit g.ComponentItem refl))))

pub component_declaration_fits : Fit component_declaration
component_declaration_fits = fit_after _ closing (fit_before opening _ (rows_fit g.ComponentTypeItem refl))

pub instance_declaration_fits : Fit instance_declaration
instance_declaration_fits = fit_after _ closing (fit_before opening _ (rows_fit g.InstanceTypeItem refl))

sound_built_in : sound (reads built_in) ≡ true
unfolding reference
sound_built_in = refl

pub built_in_fits : Fit built_in
built_in_fits = record { sound = sound_built_in; small = lit≤ tt }
