-- A refusal that is passed on.
use Rattle.std.proofs.Common.{◌≡◌, ℕ, refl, ap, sym, subst, ◌∙◌, Result, Ok, Err, true, false, Bool, cond, nat_eq}
use Rattle.std.specs.Result.{IsErrAnd}
use Rattle.std.proofs.lemmas.Result.{err_from_is_err_and}
use Rattle.comp_model.specs.declared.Space.{Space}
use Rattle.comp_model.specs.Core as core
use Rattle.wast_grammar.specs.Classes.{Class, same, id, numeral, among}
use Rattle.wast_grammar.specs.Stand.{Stand, class_at}
use Rattle.wast_grammar.specs.Grammar.{Value, a_number, an_id}
use Rattle.text_rules.specs.Made.{Made}
use Rattle.token_codes.specs.Numbers.{number}
use Rattle.rule_runs.specs.Run.{Ran, referred, done, fault}
use Rattle.tree_read.specs.Comes.{Kept, TookIndex, Refuses}
use Rattle.tree_read.specs.declared.fault.Fault.{Fault}
use Rattle.tree_read.specs.declared.fault.Fault.TheVariants.{Parse, TooDeep, NoMemory}

pub passed : {X E : Type 0} {Q : E → Type 0} (r : Result X E) (e : E) → IsErrAnd r Q → ((y : E) → Q y → y ≡ e) → r ≡ Err e
passed r e h k =
    let p = err_from_is_err_and r h in
    p.1 ∙ ap Err (k p.0 p.2)

id_number : 5 ≡ number id
unfolding number
id_number = refl

neither : (b c : Bool) (x y z : Ran) → b ≡ false → c ≡ false → cond b x (cond c y z) ≡ z
neither false false x y z h k = refl
neither true c x y z h k = absurd (cc)
neither false true x y z h k = absurd (cc)

-- no id and no number
pub no_index : {X : Type 0} (view : X → Value) (e : Fault) (s t : Stand) → same (class_at s) id ≡ false → Kept view a_number (Err e) s t → TookIndex (Err e) s t
no_index view Parse s t h k = λ u w a. neither (same (class_at s) id) (same (class_at s) numeral) _ _ _ h k.0 ∙ ap fault (sym k.1)
no_index view TooDeep s t h k = absurd k
no_index view NoMemory s t h k = absurd k

-- an id by its number is one
pub no_id : {X A : Type 0} (view : X → Value) (e : Fault) (s t : Stand) → same (class_at s) id ≡ true → Kept view an_id (Err e) s t → A
no_id view Parse s t h k = absurd (let z = sym h ∙ k.0 in cc)
no_id view TooDeep s t h k = absurd k
no_id view NoMemory s t h k = absurd k
