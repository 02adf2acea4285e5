use Rattle.std.proofs.Common.{◌≡◌, ◌≤◌, ◌+◌, ◌-◌, length, take, drop, rules, arith, sym, subst, refl}
use Rattle.wast_tokens.specs.Strings.{IsString}
use Rattle.wast_tokens.specs.Runs.{named_kind, string_of}
use Rattle.wast_tokens.specs.Runs.IsOfKind.{string as alone, quoted}
use Rattle.wast_tokens.proofs.Quotes.{string_within}
use Rattle.wast_tokens.proofs.Parts.{run_behind_word, broken_behind_word, broken_behind_string, broken_first, long_range, parts_behind_string, longer_kind, apart_kind, reserved_is}
use Rattle.wast_tokens.proofs.runs.run_with_string.Goals as goal

pub returns-in-Err : goal.returns-in-Err
returns-in-Err c = record { run = broken_behind_word _ _ c.args.quote _ _ c.requires.quote (broken_first _ _ _ _ c.in-Err.ensures.string) }

pub returns-in-Err-run_end : goal.returns-in-Err-run_end
returns-in-Err-run_end c = record {
  run = broken_behind_word _ _ c.args.quote _ _ c.requires.quote (broken_behind_string _ _ c.in-Ok.close _ _ c.in-Ok.ensures.string c.in-Err-run_end.ensures.end);
}

pub returns-then-end-close : goal.returns-then-end-close
returns-then-end-close c =
    let along = parts_behind_string _ _ _ _ c.in-Ok.ensures.string c.in-Ok-run_end.ensures.end.0 in
    let run = run_behind_word _ _ c.args.quote _ c.requires.quote c.requires.begins along c.in-Ok-run_end.ensures.end.1 in
    let kind = longer_kind _ _ c.args.quote c.in-Ok.close _ c.requires.quote c.in-Ok.ensures.string c.if-end-close.true c.in-Ok-run_end.ensures.end.1 in
    record { run = reserved_is _ _ c.in-Ok-run_end.end _ c.reserved.ensures.end c.reserved.ensures.kind run kind }

pub returns-then-quote-at : goal.returns-then-quote-at
returns-then-quote-at c =
    let along = parts_behind_string _ _ _ _ c.in-Ok.ensures.string c.in-Ok-run_end.ensures.end.0 in
    let run = run_behind_word _ _ c.args.quote _ c.requires.quote c.requires.begins along c.in-Ok-run_end.ensures.end.1 in
    let whole = subst (IsString c.args.text.now c.args.quote) (sym c.if-end-close.false) c.in-Ok.ensures.string in
    record { run = (run, alone (subst (λ n. IsString c.args.text.now n c.in-Ok-run_end.end) c.if-quote-at.true whole) refl) }

pub returns-then-quote-at-2 : goal.returns-then-quote-at-2
returns-then-quote-at-2 c =
    let along = parts_behind_string _ _ _ _ c.in-Ok.ensures.string c.in-Ok-run_end.ensures.end.0 in
    let run = run_behind_word _ _ c.args.quote _ c.requires.quote c.requires.begins along c.in-Ok-run_end.ensures.end.1 in
    let whole = subst (IsString c.args.text.now c.args.quote) (sym c.if-end-close.false) c.in-Ok.ensures.string in
    let kind = apart_kind _ _ c.args.quote _ c.requires.quote whole c.if-quote-at.false (λ d s. c.if-quote-at-2.true s) c.in-Ok-run_end.ensures.end.1 in
    record { run = reserved_is _ _ c.in-Ok-run_end.end _ c.reserved-then-quote-at-2.ensures.end c.reserved-then-quote-at-2.ensures.kind run kind }

pub returns-then-text-at-ne36 : goal.returns-then-text-at-ne36
returns-then-text-at-ne36 c =
    let along = parts_behind_string _ _ _ _ c.in-Ok.ensures.string c.in-Ok-run_end.ensures.end.0 in
    let run = run_behind_word _ _ c.args.quote _ c.requires.quote c.requires.begins along c.in-Ok-run_end.ensures.end.1 in
    let whole = subst (IsString c.args.text.now c.args.quote) (sym c.if-end-close.false) c.in-Ok.ensures.string in
    let kind = apart_kind _ _ c.args.quote _ c.requires.quote whole c.if-quote-at.false (λ d s. c.if-text-at-ne36.true d) c.in-Ok-run_end.ensures.end.1 in
    record { run = reserved_is _ _ c.in-Ok-run_end.end _ c.reserved-then-text-at-ne36.ensures.end c.reserved-then-text-at-ne36.ensures.kind run kind }

pub slice_bounds-string-count : goal.slice_bounds-string-count
slice_bounds-string-count c =
    let w = string_within _ _ _ c.in-Ok.ensures.string in
    let e : c.in-Ok-run_end.end ≡ c.in-Ok.close = c.if-end-close.false in
    omega (arith, w.0, e)

pub slice_bounds-string-start : goal.slice_bounds-string-start
slice_bounds-string-start c =
    let w = string_within _ _ _ c.in-Ok.ensures.string in
    let e : c.in-Ok-run_end.end ≡ c.in-Ok.close = c.if-end-close.false in
    omega (arith, w.0, e)

pub slice_bounds-string-end : goal.slice_bounds-string-end
slice_bounds-string-end c = let le : c.in-Ok-run_end.end ≤ length c.args.text.now = c.in-Ok-run_end.ensures.within.1 in search (rules, le)

pub quoted_kind-requires : goal.quoted_kind-requires
quoted_kind-requires c =
    let w = string_within _ _ _ c.in-Ok.ensures.string in
    let e : c.in-Ok-run_end.end ≡ c.in-Ok.close = c.if-end-close.false in
    let le : c.in-Ok-run_end.end ≤ length c.args.text.now = c.in-Ok-run_end.ensures.within.1 in
    let some : c.args.quote + 2 ≤ c.in-Ok-run_end.end = omega (arith, w.0, e) in
    record { quotes = long_range c.args.text.now c.args.quote c.in-Ok-run_end.end some le }

pub returns-in-Ok-quoted_kind : goal.returns-in-Ok-quoted_kind
returns-in-Ok-quoted_kind c =
    let along = parts_behind_string _ _ _ _ c.in-Ok.ensures.string c.in-Ok-run_end.ensures.end.0 in
    let run = run_behind_word _ _ c.args.quote _ c.requires.quote c.requires.begins along c.in-Ok-run_end.ensures.end.1 in
    let whole = subst (IsString c.args.text.now c.args.quote) (sym c.if-end-close.false) c.in-Ok.ensures.string in
    let named = subst (λ n. c.in-Ok-quoted_kind.kind ≡ named_kind (string_of (take (c.in-Ok-run_end.end - n) (drop n c.args.text.now)))) c.if-quote-at-2.false c.in-Ok-quoted_kind.ensures.kind in
    record { run = (run, quoted c.if-text-at-ne36.false (subst (λ n. IsString c.args.text.now n c.in-Ok-run_end.end) c.if-quote-at-2.false whole) named) }

pub returns-in-Err-quoted_kind : goal.returns-in-Err-quoted_kind
returns-in-Err-quoted_kind c =
    let along = parts_behind_string _ _ _ _ c.in-Ok.ensures.string c.in-Ok-run_end.ensures.end.0 in
    let run = run_behind_word _ _ c.args.quote _ c.requires.quote c.requires.begins along c.in-Ok-run_end.ensures.end.1 in
    let whole = subst (IsString c.args.text.now c.args.quote) (sym c.if-end-close.false) c.in-Ok.ensures.string in
    record { run = (c.in-Ok-run_end.end, run, c.if-text-at-ne36.false, subst (λ n. IsString c.args.text.now n c.in-Ok-run_end.end) c.if-quote-at-2.false whole) }
