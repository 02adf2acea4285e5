use Rattle.std.proofs.Common.{ap, sym, map, ◌∙◌, cond, is_some, Some, None, length}
use Rattle.std.proofs.lemmas.List.{length-map}
use Rattle.std.specs.BTreeMap.{get}
use Rattle.wast_tokens.specs.declared.error.ErrorKind.TheVariants.{Duplicate, NoMemory}
use Rattle.core_model.specs.Items.{place_of}
use Rattle.core_syntax.specs.Ids.{id_of, option_id}
use Rattle.core_names.specs.Names.{key_cmp, refusal}
use Rattle.core_names.proofs.Places.{places-push, places-put-back, place-found, shown-push}
use Rattle.core_names.proofs.namespace.Namespace.register_named.Goals as goal

pub returns-in-Err-clause-refused : goal.returns-in-Err-clause-refused
returns-in-Err-clause-refused c =
    c.no_memory.ensures ∙ ap (λ o. cond (is_some o) (refusal Duplicate c.args.id.span.offset) (refusal NoMemory 0)) (sym (place-found (get key_cmp c.self.inside.places) (map option_id c.self.inside.ids.items) c.args.self.now c.key_of-key.result (id_of c.args.id) None c.self.invariant c.self.view_is c.key_of-key.ensures c.in-Err.ensures.absent))

pub returns-in-Ok-Some-clause-refused : goal.returns-in-Ok-Some-clause-refused
returns-in-Ok-Some-clause-refused c =
    c.duplicate.ensures ∙ ap (λ o. cond (is_some o) (refusal Duplicate c.args.id.span.offset) (refusal NoMemory 0)) (sym (place-found (get key_cmp c.self.inside.places) (map option_id c.self.inside.ids.items) c.args.self.now c.key_of-key.result (id_of c.args.id) _ c.self.invariant c.self.view_is c.key_of-key.ensures (sym c.in-Ok-Some.ensures.old ∙ c.in-Ok-Some.field-0-is)))

pub returns-in-Err-push-clause-refused : goal.returns-in-Err-push-clause-refused
returns-in-Err-push-clause-refused c =
    c.no_memory-in-Err-push.ensures ∙ ap (λ o. cond (is_some o) (refusal Duplicate c.args.id.span.offset) (refusal NoMemory 0)) (sym (place-found (get key_cmp c.self.inside.places) (map option_id c.self.inside.ids.items) c.args.self.now c.key_of-key.result (id_of c.args.id) None c.self.invariant c.self.view_is c.key_of-key.ensures (sym c.in-Ok-None.ensures.old ∙ c.in-Ok-None.field-0-is)))

pub returns-in-Ok-push-clause-free : goal.returns-in-Ok-push-clause-free
returns-in-Ok-push-clause-free c = ap is_some (place-found (get key_cmp c.self.inside.places) (map option_id c.self.inside.ids.items) c.args.self.now c.key_of-key.result (id_of c.args.id) None c.self.invariant c.self.view_is c.key_of-key.ensures (sym c.in-Ok-None.ensures.old ∙ c.in-Ok-None.field-0-is))

pub invariant_of-self-in-Ok-push : goal.invariant_of-self-in-Ok-push
invariant_of-self-in-Ok-push c = λ k x h.
    places-push (get key_cmp c.self.inside.places) (get key_cmp c.insert.new.self) c.key_of-key.result (map option_id c.self.inside.ids.items) (id_of c.args.id) c.key_of-key.ensures c.self.invariant
    (sym c.in-Ok-None.ensures.old ∙ c.in-Ok-None.field-0-is)
    _ (ap length c.as_slice.ensures.value ∙ sym (length-map c.self.inside.ids.items option_id)) c.in-Ok-None.ensures.updates.0 k x h
    ∙ ap (place_of x) (shown-push option_id c.self.inside.ids.items c.push.new.self.items (Some c.args.id) c.in-Ok-push.ensures.items)

pub invariant_of-self-in-Err-push : goal.invariant_of-self-in-Err-push
invariant_of-self-in-Err-push c = λ k x h.
    places-put-back (get key_cmp c.self.inside.places) (get key_cmp c.insert.new.self) (get key_cmp c.remove.new.self) c.key_of-key.result (map option_id c.self.inside.ids.items) (id_of c.args.id) c.key_of-key.ensures c.self.invariant
    None (sym c.in-Ok-None.ensures.old ∙ c.in-Ok-None.field-0-is) _ c.in-Ok-None.ensures.updates.0 c.remove.ensures.updates.0 k x h
    ∙ ap (λ is. place_of x (map option_id is)) (sym c.in-Err-push.ensures.items)

pub invariant_of-self : goal.invariant_of-self
invariant_of-self c = λ k x h.
    places-put-back (get key_cmp c.self.inside.places) (get key_cmp c.insert.new.self) (get key_cmp c.insert-in-Ok-Some.new.self) c.key_of-key.result (map option_id c.self.inside.ids.items) (id_of c.args.id) c.key_of-key.ensures c.self.invariant
    _ (sym c.in-Ok-Some.ensures.old ∙ c.in-Ok-Some.field-0-is) _ c.in-Ok-Some.ensures.updates.0 c.in-Ok.ensures.updates.0 k x h
