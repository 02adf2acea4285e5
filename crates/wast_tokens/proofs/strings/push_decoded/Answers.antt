use Rattle.std.proofs.Common.{◌≡◌, ◌≤◌, ◌+◌, ◌++◌, length, drop, rules, arith, ap, sym, subst}
use Rattle.wast_tokens.specs.declared.strings.Character.{Character}
use Rattle.wast_tokens.specs.Strings.{bytes_of, decoded}
use Rattle.wast_tokens.proofs.Decoding.{first_within, decoded_front}
use Rattle.wast_tokens.proofs.strings.push_decoded.Goals as goal

pub overflow_add-at : goal.overflow_add-at
overflow_add-at c =
    let w = first_within c.args.inside.now c.loop-at.at c.loop-at-test.true in
    let e = ap (λ (x : Character). x.len) c.first_at-c.ensures.first in
    let le : c.loop-at.at + c.first_at-c.result.len ≤ length c.args.inside.now = omega (arith, w.1, e) in
    search (rules, le)

pub loop-at-smaller : goal.loop-at-smaller
loop-at-smaller c =
    let w = first_within c.args.inside.now c.loop-at.at c.loop-at-test.true in
    let e = ap (λ (x : Character). x.len) c.first_at-c.ensures.first in
    omega (arith, w.0, w.1, e)

pub loop-at-preserved : goal.loop-at-preserved
loop-at-preserved c =
    let inside = c.args.inside.now in
    let all = c.args.bytes.now.items ++ decoded inside in
    let w = first_within inside c.loop-at.at c.loop-at-test.true in
    let e = ap (λ (x : Character). x.len) c.first_at-c.ensures.first in
    let front = decoded_front all inside c.loop-at.bytes.items c.loop-at.at c.loop-at-test.true c.loop-at.invariant.front in
    let here = subst (λ (x : Character). all ≡ (c.loop-at.bytes.items ++ bytes_of x.value) ++ decoded (drop (c.loop-at.at + x.len) inside)) (sym c.first_at-c.ensures.first) front in
    record {
      within = omega (arith, w.1, e);
      front = subst (λ out. all ≡ out ++ decoded (drop (c.loop-at.at + c.first_at-c.result.len) inside)) (sym c.in_ok-push_value.ensures.pushed) here;
    }
