use Rattle.std.proofs.Common.{◌≡◌, ℕ, List, [], refl, sym, ◌∙◌, ap}
use Rattle.comp_model.specs.Model.{module_bytes}
use Rattle.comp_scopes.specs.Resolved.{binary_of_leaf}
use Rattle.comp_wire.specs.Spelled.{spell_leaf}
use Rattle.byte_table.specs.Lines.{field_of}
use Rattle.byte_table.specs.declared.line.Field.{Field}
use Rattle.byte_table.specs.declared.line.Field.TheVariants as field
use Rattle.tree_write.specs.Kept.{put}
use Rattle.tree_write.specs.Wire.{the_encoding}
use Rattle.comp_tree.proofs.Cores.{core_missing, core_there}
use Rattle.tree_write.proofs.Modules.{module_at}
use Rattle.tree_write.proofs.Puts.{put_none}
use Rattle.tree_write.proofs.leaf.write_module.Goals as goal

other_field : (f : Field) (bs : List ℕ) → (f ≡ field.WholeModule → ⊥) → spell_leaf (module_bytes bs) (field_of f) ≡ []
other_field field.WholeModule bs n = absurd (n refl)
other_field _ bs n = refl

pub returns-then-number-modules : goal.returns-then-number-modules
returns-then-number-modules g c =
    c.write_absent.ensures ∙ ap (λ x. put (spell_leaf (binary_of_leaf the_encoding x) (field_of c.args.field.now)) (g.S.Sink.kept c.args.sink.now)) (sym (core_missing g.M.CoreBytes.core_module c.args.modules.now c.args.number c.if-number-modules.true))

pub returns-in-WholeModule : goal.returns-in-WholeModule
returns-in-WholeModule g c =
    rw (c.in-WholeModule.is, core_there g.M.CoreBytes.core_module c.args.modules.now c.args.number c.index-modules-number.result c.if-number-modules.false c.index-modules-number.is)
    (c.bytes-in-WholeModule.ensures ∙ ap (λ x. put x (g.S.Sink.kept c.args.sink.now)) c.bytes.ensures)

pub returns-in_default : goal.returns-in_default
returns-in_default g c =
    sym (ap (λ x. put x (g.S.Sink.kept c.args.sink.now))
    (ap (λ x. spell_leaf (binary_of_leaf the_encoding x) (field_of c.args.field.now)) (module_at g.M.CoreBytes.core_module c.args.modules.now c.args.number c.if-number-modules.false) ∙ other_field c.args.field.now _ c.in_default.not-WholeModule)
    ∙ put_none (g.S.Sink.kept c.args.sink.now))
