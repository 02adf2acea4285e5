-- Types of one word.
use Rattle.std.proofs.Common.{◌≡◌, ℕ, true, false, cond, refl, ap, sym, ◌∙◌, arith}
use Rattle.std.proofs.lemmas.Bool.Decides.{nat_tests}
use Rattle.comp_model.specs.declared.row.Row.TheVariants as rows
use Rattle.comp_model.specs.declared.Space.TheVariants as space
use Rattle.wast_grammar.specs.Stand.{Stand, class_at}
use Rattle.wast_grammar.specs.Grammar as g
use Rattle.wast_grammar.specs.Grammar.{holds}
use Rattle.wast_grammar.specs.ValueRows.{is_reference, is_prim, is_word}
use Rattle.token_codes.specs.Numbers.{number, between}
use Rattle.token_codes.proofs.Tables.{among_range}
use Rattle.text_rules.specs.Made.{Made}
use Rattle.text_rules.specs.Forms.{group, of_row, word}
use Rattle.text_rules.specs.Rule.{row, either, wraps, checked, inline}
use Rattle.text_rules.specs.TypeRules.{component_type_items, instance_type_items, resource_type}
use Rattle.text_rules.specs.ValueRules.{prim, type_index, inline_val, nonprim, fty}
use Rattle.rule_runs.specs.Run.{run}
use Rattle.rule_runs.proofs.Runs.{run_row, run_either}

pub prim_told : (s : Stand) (n : ℕ) → n ≡ number (class_at s) → between 11 n 26 ≡ holds is_prim s
prim_told s n e = ap (λ m. between 11 m 26) e ∙ sym (among_range 11 26 (class_at s))

apart : (n : ℕ) → between 11 n 26 ≡ true → between 5 n 7 ≡ false
apart n h = grind (arith, nat_tests)

no_reference : (s : Stand) → holds is_prim s ≡ true → holds is_reference s ≡ false
no_reference s h = among_range 5 7 (class_at s) ∙ apart (number (class_at s)) (prim_told s (number (class_at s)) refl ∙ h)

-- before such a word the row of value types is that of the word
pub run_prim : (s : Stand) (a : Made) → holds is_prim s ≡ true → run (row g.Val) s a ≡ run prim s a
run_prim s a h =
    let x = wraps (inline space.Ty) (group (checked nonprim)) in
    run_row g.Val s a refl
    ∙ (run_either is_reference type_index inline_val s a
    ∙ (ap (λ b. cond b (run type_index s a) (run inline_val s a)) (no_reference s h)
    ∙ (run_either is_prim prim x s a
    ∙ ap (λ b. cond b (run prim s a) (run x s a)) h)))

-- and so is that of the definition of a type
pub run_primitive : (s : Stand) (a : Made) → holds is_prim s ≡ true → run (row g.TypeDefinition) s a ≡ run (of_row rows.Primitive prim) s a
run_primitive s a h =
    let x = group (either (is_word "func") (of_row rows.FunctionType (word "func" fty))
    (either (is_word "component") (word "component" component_type_items)
    (either (is_word "instance") (word "instance" instance_type_items)
    (either (is_word "resource") resource_type (checked nonprim))))) in
    run_row g.TypeDefinition s a refl
    ∙ (run_either is_prim (of_row rows.Primitive prim) x s a
    ∙ ap (λ b. cond b (run (of_row rows.Primitive prim) s a) (run x s a)) h)
