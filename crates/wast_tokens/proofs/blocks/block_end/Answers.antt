use Rattle.std.proofs.Common.{rules, arith, sym, ◌+◌}
use Rattle.wast_tokens.proofs.Depth.{ends_open, ends_close, ends_last, ends_other, ends_nowhere, ends_begin, both, open_within, close_within}
use Rattle.wast_tokens.proofs.blocks.block_end.Goals as goal

pub overflow_add-k : goal.overflow_add-k
overflow_add-k c = let w = open_within _ _ c.requires.opened in search (rules, w)

pub loop-k-init : goal.loop-k-init
loop-k-init c = record { bound = open_within _ _ c.requires.opened; deep = omega arith; same = λ e. ends_begin _ _ e c.requires.opened }

pub loop-k-preserved-then-opens : goal.loop-k-preserved-then-opens
loop-k-preserved-then-opens c =
    let o = sym c.if-opens.ensures.opens in
    record { bound = open_within _ _ o; deep = omega arith; same = λ e. both (c.loop-k.invariant.same e) (ends_open _ _ _ e o) }

pub returns-then-more-eq0-clause-found : goal.returns-then-more-eq0-clause-found
returns-then-more-eq0-clause-found c =
    (c.loop-k.invariant.same (c.loop-k.k + 2)).1 (ends_last _ _ _ c.if-more-eq0.true (sym c.if-closes.ensures.closes))

pub loop-k-preserved-then-closes : goal.loop-k-preserved-then-closes
loop-k-preserved-then-closes c =
    let o = sym c.if-closes.ensures.closes in
    record { bound = close_within _ _ o; deep = omega arith; same = λ e. both (c.loop-k.invariant.same e) (ends_close _ _ _ e c.if-more-eq0.false o) }

pub loop-k-preserved : goal.loop-k-preserved
loop-k-preserved c =
    record {
      bound = omega arith;
      deep = omega arith;
      same = λ e. both (c.loop-k.invariant.same e) (ends_other _ _ _ e c.loop-k-test.true (sym c.if-opens.ensures.opens) (sym c.if-closes.ensures.closes));
    }

pub returns-clause-none : goal.returns-clause-none
returns-clause-none c = λ e h. ends_nowhere _ _ _ e c.loop-k-test.false ((c.loop-k.invariant.same e).0 h)
