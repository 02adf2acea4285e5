-- Which cause there is, by the tests.
use Rattle.std.proofs.Common.{◌≡◌, ℕ, ◌<◌, ◌≤◌, Bool, true, false, cond, Option, Some, None, refl, sym, ap, ◌∙◌, arith}
use Rattle.std.proofs.lemmas.Bool.{lt-ltb, le-ltb}
use Rattle.comp_model.specs.Model.{Scope}
use Rattle.print_table.specs.HasText.{has_text, holds_module}
use Rattle.print_table.specs.TextOf.{unnamed}
use Rattle.tree_print.specs.Cause.{cause, size_cause, too_big}
use Rattle.tree_print.specs.Taken.{capped}
use Rattle.tree_print.specs.declared.print.PrintKind.{PrintKind}
use Rattle.tree_print.specs.declared.print.PrintKind.TheVariants as kinds

pub too_big_found : (n found : ℕ) (more : Option PrintKind) → found ≡ capped n → 67_108_864 < found → Some (kinds.TooBig found 67_108_864) ≡ too_big n more
too_big_found n found more e h =
    sym (ap (λ b. cond b (Some (kinds.TooBig (capped n) 67_108_864)) more) (lt-ltb 67_108_864 n (omega (arith, e, h)))
    ∙ ap (λ (k : ℕ). Some (kinds.TooBig k 67_108_864)) (sym e))

pub small_enough : (n found : ℕ) (more : Option PrintKind) → found ≡ capped n → found ≤ 67_108_864 → more ≡ too_big n more
small_enough n found more e h = sym (ap (λ b. cond b (Some (kinds.TooBig (capped n) 67_108_864)) more) (le-ltb 67_108_864 n (omega (arith, e, h))))

pub module_is_cause : (b : Scope) → true ≡ holds_module b → cause b ≡ Some kinds.CoreModule
module_is_cause b e = ap (λ (h : Bool). cond h (Some kinds.CoreModule) (cond (has_text (unnamed b)) (size_cause b) (Some kinds.NoText))) (sym e)

pub no_text_is_cause : (b : Scope) → false ≡ holds_module b → false ≡ has_text (unnamed b) → cause b ≡ Some kinds.NoText
no_text_is_cause b e f =
    ap (λ (h : Bool). cond h (Some kinds.CoreModule) (cond (has_text (unnamed b)) (size_cause b) (Some kinds.NoText))) (sym e)
    ∙ ap (λ (h : Bool). cond h (size_cause b) (Some kinds.NoText)) (sym f)

pub size_is_cause : (b : Scope) → false ≡ holds_module b → true ≡ has_text (unnamed b) → cause b ≡ size_cause b
size_is_cause b e f =
    ap (λ (h : Bool). cond h (Some kinds.CoreModule) (cond (has_text (unnamed b)) (size_cause b) (Some kinds.NoText))) (sym e)
    ∙ ap (λ (h : Bool). cond h (size_cause b) (Some kinds.NoText)) (sym f)

none_before : {A : Type 0} (h t : Bool) (x y : A) (o : Option A) → cond h (Some x) (cond t o (Some y)) ≡ None → (h ≡ false) × (t ≡ true)
none_before true t x y o e = absurd (cc)
none_before false true x y o e = (refl, refl)
none_before false false x y o e = absurd (cc)

-- where there is none
pub passes : (b : Scope) → cause b ≡ None → (holds_module b ≡ false) × (has_text (unnamed b) ≡ true)
passes b e = none_before (holds_module b) (has_text (unnamed b)) kinds.CoreModule kinds.NoText (size_cause b) e
