use Rattle.std.proofs.Common.{rules, ◌≡◌, ◌++◌, ℕ, List, Option, map, ap, ◌∙◌, arith}
use Rattle.std.proofs.lemmas.List.{length-map, with_items_is, places}
use Rattle.comp_model.specs.Core.{Id}
use Rattle.comp_model.specs.CoreModules.{Naming, Inline, Local, TypeUse, Instruction, func_field}
use Rattle.core_model.specs.Types.{written_params, ids_of}
use Rattle.core_model.specs.Resolved.{types, numbered_local, numbered_instruction}
use Rattle.core_syntax.specs.Fields.{use_of, local_of, body_of}
use Rattle.core_resolve.proofs.Counts.{few-locals}
use Rattle.core_resolve.proofs.LocalIds.{few-within, locals-as}
use Rattle.core_resolve.proofs.field.number_func.Goals as goal

same-func : (o : ℕ) (n : Naming) (i : Inline) (u v : TypeUse) (ls ms : List Local) (is js : List Instruction) → u ≡ v → ls ≡ ms → is ≡ js → func_field o n i u ls is ≡ func_field o n i v ms js
same-func o n i u v ls ms is js a b d = ap (λ w. func_field o n i w ls is) a ∙ ap (λ ks. func_field o n i v ks is) b ∙ ap (func_field o n i v ms) d

pub returns-clause-numbered : goal.returns-clause-numbered
returns-clause-numbered g c = λ rest e.
    let u : TypeUse = use_of c.args.func.now.ty in
    let ls : List Local = map local_of c.args.func.now.locals.items in
    let ids : List (Option Id) = ids_of (written_params u.signature ++ ls) in
    let few = few-locals c.args.func.now c.requires.1.1.1 in
    let same = length-map c.args.func.now.locals.items local_of in
    let fits = few-within c.in_ok-nameless.nameless (written_params u.signature) ls c.in_ok-nameless.ensures.few (omega (arith, few, same)) in
    let body = c.number_body.ensures.numbered g.source ids rest fits e ∙ ap (λ js. map (numbered_instruction g.source js) (body_of c.args.func.now.body)) (locals-as g.source u ls c.in_ok-nameless.nameless c.in_ok-nameless.ensures.count) in
    let locals = ap (map local_of) (with_items_is c.args.func.now.locals c.number_locals.new.locals (search (rules, places))) ∙ c.number_locals.ensures ∙ ap (λ ts. map (numbered_local ts) (map local_of c.as_mut_slice.result.now)) c.requires.0.types ∙ ap (λ xs. map (numbered_local (types g.source)) (map local_of xs)) c.as_mut_slice.ensures.value in
    same-func _ _ _ _ _ _ _ _ _ c.in_ok-number_use.ensures locals body

pub returns-clause-left : goal.returns-clause-left
returns-clause-left g c = λ rest e. c.number_body.ensures.left g.source (ids_of (written_params (use_of c.args.func.now.ty).signature ++ map local_of c.args.func.now.locals.items)) rest e
