use Rattle.std.proofs.Common.{ap, sym}
use Rattle.text_table.specs.ItemKinds.{item_space}
use Rattle.comp_items.specs.Tests.{is_item_of}
use Rattle.comp_items.proofs.peeks.item_test.Goals as goal

pub returns-in-CoreModule : goal.returns-in-CoreModule
returns-in-CoreModule c = ap (λ k. is_item_of (item_space k)) (sym c.in-CoreModule.is)

pub returns-in-Func : goal.returns-in-Func
returns-in-Func c = ap (λ k. is_item_of (item_space k)) (sym c.in-Func.is)

pub returns-in-Value : goal.returns-in-Value
returns-in-Value c = ap (λ k. is_item_of (item_space k)) (sym c.in-Value.is)

pub returns-in-Ty : goal.returns-in-Ty
returns-in-Ty c = ap (λ k. is_item_of (item_space k)) (sym c.in-Ty.is)

pub returns-in-Component : goal.returns-in-Component
returns-in-Component c = ap (λ k. is_item_of (item_space k)) (sym c.in-Component.is)

pub returns-in-Instance : goal.returns-in-Instance
returns-in-Instance c = ap (λ k. is_item_of (item_space k)) (sym c.in-Instance.is)
