use Rattle.std.proofs.Common.{ap, sym}
use Rattle.text_table.specs.ItemKinds.{core_item_space}
use Rattle.comp_items.specs.Tests.{is_item_of}
use Rattle.comp_items.proofs.peeks.core_item_test.Goals as goal

pub returns-in-Func : goal.returns-in-Func
returns-in-Func c = ap (λ k. is_item_of (core_item_space k)) (sym c.in-Func.is)

pub returns-in-Table : goal.returns-in-Table
returns-in-Table c = ap (λ k. is_item_of (core_item_space k)) (sym c.in-Table.is)

pub returns-in-Memory : goal.returns-in-Memory
returns-in-Memory c = ap (λ k. is_item_of (core_item_space k)) (sym c.in-Memory.is)

pub returns-in-Ty : goal.returns-in-Ty
returns-in-Ty c = ap (λ k. is_item_of (core_item_space k)) (sym c.in-Ty.is)

pub returns-in-Instance : goal.returns-in-Instance
returns-in-Instance c = ap (λ k. is_item_of (core_item_space k)) (sym c.in-Instance.is)
