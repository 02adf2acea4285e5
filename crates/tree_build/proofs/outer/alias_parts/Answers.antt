use Rattle.std.proofs.Common.{◌∙◌, refl, sym, ap, Some}
use Rattle.std.specs.Prelude.{option_map}
use Rattle.text_rules.specs.Makes as makes
use Rattle.comp_tree.specs.Model.{place_at, place_of, reach_of}
use Rattle.tree_build.specs.Held.{loose}
use Rattle.tree_build.specs.References.{target_in}
use Rattle.tree_build.proofs.References.{some_of, none_of, no_kind, no_scope, no_item, alias_made, is_there, isnt_there}
use Rattle.tree_build.proofs.outer.alias_parts.Goals as goal

pub returns-in_default : goal.returns-in_default
returns-in_default c = λ fs cs. no_kind c.args.offset (loose fs cs c.args.scope) (loose fs cs c.args.item) (loose fs cs c.args.kind) (sym (c.kind_of.ensures fs cs) ∙ c.in_default.is)

pub returns-in_default-scope_index : goal.returns-in_default-scope_index
returns-in_default-scope_index c = λ fs cs. no_scope c.args.offset (loose fs cs c.args.scope) (loose fs cs c.args.item) (loose fs cs c.args.kind)
    (none_of (makes.place_of 0) (option_map (place_at 0) c.scope_index.result) (target_in (loose fs cs c.args.scope)) (c.scope_index.ensures fs cs 0) (ap (option_map (place_at 0)) c.in_default-scope_index.is))

pub returns-then-is_none : goal.returns-then-is_none
returns-then-is_none c = λ fs cs.
    let i = c.in-Some-scope_index.index in
    let s = some_of (makes.place_of 0) (Some (place_at 0 i)) (target_in (loose fs cs c.args.scope)) (place_at 0 i) (c.in-Some-scope_index.ensures fs cs 0) refl in
    no_item c.args.offset (loose fs cs c.args.scope) (loose fs cs c.args.item) (loose fs cs c.args.kind) s.0 s.1.0
    (none_of (makes.place_of 0) (option_map (place_at 0) c.scope_index-2.result) (target_in (loose fs cs c.args.item)) (c.scope_index-2.ensures fs cs 0) (ap (option_map (place_at 0)) (isnt_there c.scope_index-2.result c.if-is_none.ensures)))

pub returns : goal.returns
returns c = λ fs cs.
    let o = c.args.offset in
    let i = c.in-Some-scope_index.index in
    let s = some_of (makes.place_of o) (Some (place_at o i)) (target_in (loose fs cs c.args.scope)) (place_at o i) (c.in-Some-scope_index.ensures fs cs o) refl in
    let j = is_there c.scope_index-2.result c.if-is_none.ensures in
    let t = some_of (makes.place_of 0) (option_map (place_at 0) c.scope_index-2.result) (target_in (loose fs cs c.args.item)) (place_at 0 j.0) (c.scope_index-2.ensures fs cs 0) (ap (option_map (place_at 0)) j.1) in
    alias_made o (place_of c.in_ok-outer.outer.now) (loose fs cs c.args.scope) (loose fs cs c.args.item) (loose fs cs c.item_at.result) (loose fs cs c.args.kind) c.in-Some.space s.0 t.0
    (sym (c.in-Some.ensures fs cs)) s.1.0 t.1.0 (ap place_of c.in_ok-outer.ensures ∙ s.1.1)
    (λ u t e. c.item_at.ensures fs cs u t (place_of c.in_ok-outer.outer.now) e (ap reach_of c.in_ok-reach.ensures))
