use Rattle.std.proofs.Common.{◌≡◌, [], refl, ap, sym, ◌∙◌, ⊎_elim}
use Rattle.comp_model.specs.declared.row.Row.{Row}
use Rattle.print_table.specs.Lines.{definition_line}
use Rattle.tree_print.proofs.definitions.definition_line.Goals as goal

none : {r x : Row} → [] ≡ definition_line x → r ≡ x → [] ≡ definition_line r
none n e = n ∙ ap definition_line (sym e)

-- each of the rows that the arm names has no line
pub returns-in-CoreModule : goal.returns-in-CoreModule
returns-in-CoreModule c =
    (⊎_elim (none refl) (⊎_elim (none refl) (⊎_elim (none refl) (⊎_elim (none refl) (⊎_elim (none refl) (⊎_elim (none refl) (⊎_elim (none refl) (⊎_elim (none refl) (⊎_elim (none refl) (⊎_elim (none refl) (⊎_elim (none refl) (⊎_elim (none refl) (⊎_elim (none refl) (⊎_elim (none refl) (⊎_elim (none refl) (⊎_elim (none refl) (⊎_elim (none refl) (⊎_elim (none refl) (⊎_elim (none refl) (⊎_elim (none refl) (⊎_elim (none refl) (⊎_elim (none refl) (⊎_elim (none refl) (⊎_elim (none refl) (⊎_elim (none refl) (⊎_elim (none refl) (⊎_elim (none refl) (⊎_elim (none refl) (⊎_elim (none refl) (⊎_elim (none refl) (⊎_elim (none refl) (⊎_elim (none refl) (⊎_elim (none refl) (⊎_elim (none refl) (⊎_elim (none refl) (⊎_elim (none refl) (⊎_elim (none refl) (⊎_elim (none refl) (⊎_elim (none refl) (⊎_elim (none refl) (⊎_elim (none refl) (⊎_elim (none refl) (⊎_elim (none refl) (⊎_elim (none refl) (⊎_elim (none refl) (⊎_elim (none refl) (⊎_elim (none refl) (⊎_elim (none refl) (⊎_elim (none refl) (⊎_elim (none refl) (⊎_elim (none refl) (⊎_elim (none refl) (none refl))))))))))))))))))))))))))))))))))))))))))))))))))))) c.in-CoreModule.is
