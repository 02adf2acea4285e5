use Rattle.std.proofs.Common.{arith}
use Rattle.tree_expand.proofs.Ranges.{list_more, count_more, fill_more}
use Rattle.tree_expand.proofs.places.Places.push.Goals as goal

pub returns-then-place-self : goal.returns-then-place-self
returns-then-place-self c = count_more c.args.self.now.list.items c.args.self.now.count c.args.place c.args.next (omega (arith, c.if-len-gt0.false, c.len.ensures, c.args.self.now.list.ok.0)) c.if-place-self.true c.requires

pub returns-then-len-gt0 : goal.returns-then-len-gt0
returns-then-len-gt0 c = list_more c.args.self.now.list.items c.push.new.self.items c.args.self.now.count c.args.place (omega (arith, c.if-len-gt0.true, c.len.ensures, c.args.self.now.list.ok.0)) c.in_ok-push.ensures.items

pub returns : goal.returns
returns c = fill_more c.args.self.now.list.items c.in_ok-self.field-0.items c.push-2.new.self.items c.args.self.now.count c.args.place (omega (arith, c.if-len-gt0.false, c.len.ensures, c.args.self.now.list.ok.0)) c.in_ok-self.ensures c.in_ok-push-2.ensures.items
