use Rattle.std.proofs.Common.{ap, sym}
use Rattle.text_rules.specs.Table.{table}
use Rattle.text_table.specs.Code.{row_of}
use Rattle.text_table.proofs.rows.row_rule.Goals as goal

pub returns-in-Val-clause-rule : goal.returns-in-Val-clause-rule
returns-in-Val-clause-rule c = ap (λ r. table (row_of r)) (sym c.in-Val.is)

pub returns-in-ComponentItem-clause-rule : goal.returns-in-ComponentItem-clause-rule
returns-in-ComponentItem-clause-rule c = ap (λ r. table (row_of r)) (sym c.in-ComponentItem.is)

pub returns-in-ComponentTypeItem-clause-rule : goal.returns-in-ComponentTypeItem-clause-rule
returns-in-ComponentTypeItem-clause-rule c = ap (λ r. table (row_of r)) (sym c.in-ComponentTypeItem.is)

pub returns-in-InstanceTypeItem-clause-rule : goal.returns-in-InstanceTypeItem-clause-rule
returns-in-InstanceTypeItem-clause-rule c = ap (λ r. table (row_of r)) (sym c.in-InstanceTypeItem.is)

pub returns-in-ModuleTypeItem-clause-rule : goal.returns-in-ModuleTypeItem-clause-rule
returns-in-ModuleTypeItem-clause-rule c = ap (λ r. table (row_of r)) (sym c.in-ModuleTypeItem.is)

pub returns-in-CoreFunc-clause-rule : goal.returns-in-CoreFunc-clause-rule
returns-in-CoreFunc-clause-rule c = ap (λ r. table (row_of r)) (sym c.in-CoreFunc.is)

pub returns-in-Canon-clause-rule : goal.returns-in-Canon-clause-rule
returns-in-Canon-clause-rule c = ap (λ r. table (row_of r)) (sym c.in-Canon.is)

pub returns-in-CanonicalOption-clause-rule : goal.returns-in-CanonicalOption-clause-rule
returns-in-CanonicalOption-clause-rule c = ap (λ r. table (row_of r)) (sym c.in-CanonicalOption.is)

pub returns-in-TypeDefinition-clause-rule : goal.returns-in-TypeDefinition-clause-rule
returns-in-TypeDefinition-clause-rule c = ap (λ r. table (row_of r)) (sym c.in-TypeDefinition.is)

pub returns-in-Signature-clause-rule : goal.returns-in-Signature-clause-rule
returns-in-Signature-clause-rule c = ap (λ r. table (row_of r)) (sym c.in-Signature.is)

pub returns-in-NamelessSignature-clause-rule : goal.returns-in-NamelessSignature-clause-rule
returns-in-NamelessSignature-clause-rule c = ap (λ r. table (row_of r)) (sym c.in-NamelessSignature.is)

pub returns-in-CoreValue-clause-rule : goal.returns-in-CoreValue-clause-rule
returns-in-CoreValue-clause-rule c = ap (λ r. table (row_of r)) (sym c.in-CoreValue.is)

pub returns-in-CoreTypeDefinition-clause-rule : goal.returns-in-CoreTypeDefinition-clause-rule
returns-in-CoreTypeDefinition-clause-rule c = ap (λ r. table (row_of r)) (sym c.in-CoreTypeDefinition.is)
