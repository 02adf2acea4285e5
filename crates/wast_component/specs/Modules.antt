-- What the core modules beside a tree stand for at each step.
use Rattle.std.specs.Prelude.{◌≡◌, ◌<◌, ◌≤◌, ◌^◌, true, cond, nat_lt, List, [], ◌∷◌, map, Option, Some, None, option_map, Result, Ok, Err, ⊤}
use Rattle.comp_model.specs.Core.{CoreRefusal}
use Rattle.comp_model.specs.CoreModules.{CoreModule, Field}
use Rattle.core_model.specs.IsResolved.{are_resolved}
use Rattle.comp_scopes.specs.Encoding.{Encoding}
use Rattle.core_model.specs.Module.{core_bytes, module_with}
use Rattle.core_model.specs.Resolved.{resolved_fields}
use Rattle.core_model.specs.Rule.{core_rule}
use Rattle.core_model.specs.Weight.{core_weight, weight_alone}
use Rattle.core_model.specs.Words.{FieldsWord}
use Rattle.core_names.specs.ModuleIds.{AreNamesOf}
use Rattle.core_names.specs.declared.ModuleNames.{ModuleNames}
use Rattle.core_checks.specs.Refusals.{error_of}
use Rattle.core_write.specs.Module.{FitsModule}
use Rattle.wast_tokens.specs.declared.error.Error.{Error}
use Rattle.core_syntax.specs.Fields.{fields_of}
use Rattle.core_syntax.specs.declared.fields.ModuleField.{ModuleField}
use Rattle.std.specs.Global.{Vec}
use Rattle.tree_build.specs.Cores.{module_of, no_naming}
use Rattle.tree_build.specs.declared.cores.NamedModule.{NamedModule}
use Rattle.wast_component.specs.declared.ruled.Ruled.{Ruled}

-- the fields of lists, and of those with their rules
abbrev pub all_fields : List (Vec ModuleField) → List (List Field)
all_fields vs = map (λ v. fields_of v.items) vs

abbrev pub ruled_fields : List Ruled → List (List Field)
ruled_fields rs = map (λ r. fields_of r.fields.items) rs

-- the modules that these name
abbrev pub modules_of : List (List Field) → List NamedModule → List CoreModule
modules_of fs ms = map (module_of fs) ms

-- fields, or none in the place of those that are heavier than a component may be
abbrev pub light_fields : List Field → List Field
light_fields fs = cond (nat_lt 67_108_864 (core_weight fs)) [] fs

abbrev pub all_light : List (List Field) → List (List Field)
all_light fs = map light_fields fs

-- and a module, whose id and label weigh too
abbrev pub light_module : CoreModule → CoreModule
light_module c = cond (nat_lt 67_108_864 (weight_alone c)) (module_with no_naming []) c

abbrev pub AreLight : List CoreModule → Type 0
AreLight [] = ⊤
AreLight (c ∷ cs) = (weight_alone c ≤ 67_108_864) × AreLight cs

-- fields that meet their rule with numbers for their names, and none in the place of others
abbrev pub numbered_by : Option CoreRefusal → List Field → List Field
numbered_by None fs = resolved_fields fs
numbered_by (Some r) fs = []

abbrev pub numbered : List Field → List Field
numbered fs = numbered_by (core_rule fs) fs

abbrev pub all_numbered : List (List Field) → List (List Field)
all_numbered fs = map numbered fs

-- the rule of core modules, and the bytes of what numbers leave of them
abbrev pub numbered_encoding : Encoding
numbered_encoding = record { core_refusal = λ c. core_rule c.fields; core_bytes = λ c. core_bytes (module_with c.naming (numbered c.fields)) }

-- each can be written
abbrev pub AreWritable : List CoreModule → Type 0
AreWritable [] = ⊤
AreWritable (c ∷ cs) = FitsModule c.naming c.fields × AreWritable cs

-- each without names
abbrev pub AreResolved : List (List Field) → Type 0
AreResolved [] = ⊤
AreResolved (fs ∷ more) = (are_resolved fs ≡ true) × AreResolved more

-- what is known of fields by their rule: the ids of their spaces, or the refusal of the first that they break
abbrev pub IsRuledBy : Result ModuleNames Error → List Field → Type 0
IsRuledBy (Ok names) fs = (core_rule fs ≡ None) × AreNamesOf names fs
IsRuledBy (Err e) fs = Some e ≡ option_map error_of (core_rule fs)

abbrev pub IsRuled : Ruled → Type 0
IsRuled r = (core_weight (fields_of r.fields.items) < 2 ^ 31) × FieldsWord (fields_of r.fields.items) × IsRuledBy r.names (fields_of r.fields.items)

abbrev pub AreRuled : List Ruled → Type 0
AreRuled [] = ⊤
AreRuled (r ∷ rs) = IsRuled r × AreRuled rs
