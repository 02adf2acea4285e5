use Rattle.std.specs.Borrow.{Bor}
use Rattle.std.proofs.Common.{ℕ, List, option_map, string_bytes, sym, ap, ◌∙◌}
use Rattle.std.proofs.lemmas.Result.{IfOk-weaker}
use Rattle.compose_replies.proofs.Tells.{told}
use Rattle.compose_replies.proofs.reply.line_of.Goals as goal

pub returns-in-Some : goal.returns-in-Some
returns-in-Some c =
    λ plan h.
    let named = sym c.plan_kind_name.ensures ∙ ap (option_map (λ (n : Bor (List ℕ)). n.now)) c.in-Some.is in
    IfOk-weaker c.refusal_line.result _ _ (λ line e. told plan c.args.refusal c.in-Some.name.now (string_bytes line) named h e) c.refusal_line.ensures
