use Rattle.std.proofs.Common.{refl}
use Rattle.comp_wire.proofs.DefRows.{core_type_item, type_item, alias_item, canon_item}
use Rattle.comp_wire.proofs.append_defs.section_of.Goals as goal

pub returns-in-CoreType : goal.returns-in-CoreType
returns-in-CoreType c = rw (c.in-CoreType.is, (core_type_item c.in-CoreType.field-0).0) refl

pub returns-in-Ty : goal.returns-in-Ty
returns-in-Ty c = rw (c.in-Ty.is, (type_item c.in-Ty.field-0).0) refl

pub returns-in-CoreModule : goal.returns-in-CoreModule
returns-in-CoreModule c = rw c.in-CoreModule.is refl

pub returns-in-CoreInstantiate : goal.returns-in-CoreInstantiate
returns-in-CoreInstantiate c = rw c.in-CoreInstantiate.is refl

pub returns-in-CoreBundle : goal.returns-in-CoreBundle
returns-in-CoreBundle c = rw c.in-CoreBundle.is refl

pub returns-in-Instantiate : goal.returns-in-Instantiate
returns-in-Instantiate c = rw c.in-Instantiate.is refl

pub returns-in-Bundle : goal.returns-in-Bundle
returns-in-Bundle c = rw c.in-Bundle.is refl

pub returns-in-Alias : goal.returns-in-Alias
returns-in-Alias c = rw (c.in-Alias.is, (alias_item c.in-Alias.field-0).0) refl

pub returns-in-Canon : goal.returns-in-Canon
returns-in-Canon c = rw (c.in-Canon.is, (canon_item c.in-Canon.field-0).0) refl

pub returns-in-Start : goal.returns-in-Start
returns-in-Start c = rw c.in-Start.is refl

pub returns-in-Import : goal.returns-in-Import
returns-in-Import c = rw c.in-Import.is refl

pub returns-in-Export : goal.returns-in-Export
returns-in-Export c = rw c.in-Export.is refl

pub returns-in-Custom : goal.returns-in-Custom
returns-in-Custom c = rw c.in-Custom.is refl

pub returns-in-Component : goal.returns-in-Component
returns-in-Component c = rw c.in-Component.is refl
