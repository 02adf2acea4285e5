-- Binaries in which what is generated stands behind its definition: an inline type, the alias of an outer name and of a path's export, and a bundle.
use Rattle.std.proofs.Common.{◌≡◌, ◌<◌, ℕ, zero, suc, List, [], ◌∷◌, slice_get, Some, None, refl, ◌∙◌, ap, subst, arith}
use Rattle.comp_model.specs.declared.Space.TheVariants.{Func, Ty, Instance}
use Rattle.comp_model.specs.Makers as makers
use Rattle.comp_model.specs.Model.{number, text, absent, ref, index, numeral, inline, bundle, path, root_number, export_of, Target, Node, no_node, one_node, no_def, Scope, defs_of}
use Rattle.comp_model.specs.Origins.{Origin, written, inline_type, bundle_of, export_step, outer_alias_of}
use Rattle.comp_scopes.specs.Form.{Made, make, alias_node, step_node, export_node}
use Rattle.comp_scopes.specs.Before.{DefsBefore}
use Rattle.comp_scopes.proofs.Lookup.{some-same}
use Rattle.comp_scopes.proofs.Shorthands.{plain_encoding, def, bare, component, nested, u8, named, list_of, list_at}
use Rattle.comp_scopes.proofs.Letters.{t}

-- a scope, of two definitions the first of which is written, and the scopes around it
abbrev Stand : List Scope → Scope → Node → Made → Type 0
Stand st c n m = DefsBefore plain_encoding (c ∷ st) (make (written 0) n ∷ m ∷ []) 0 (defs_of c)

-- nothing stands before the written definition
none_before : (n : Node) (m : Made) (p q : ℕ) (x : Made) → (m.origin ≡ written 0 → ⊥) → slice_get (make (written 0) n ∷ m ∷ []) p ≡ Some x → x.origin ≡ written 0 → q < p → ⊥
none_before n m zero q x f e w h = omega (arith, h)
none_before n m (suc zero) q x f e w h = f (ap (λ y. y.origin) (some-same m x e) ∙ w)
none_before n m (suc (suc p)) q x f e w h = absurd (cc)

-- (component (type (list (list u8))))
abbrev inner_list : Node
inner_list = list_of (number 0x7d)

inline_behind : Stand [] (component (bare (list_of (ref Ty (inline inner_list))) no_def)) (list_at 1) (make (inline_type 0 0) inner_list) → ⊥
inline_behind h =
    let w : _ = h.0 in
    let r : _ = (w.fact.0).where_own refl in
    none_before (list_at 1) (make (inline_type 0 0) inner_list) w.position r.position _ (λ e. let x : inline_type 0 0 ≡ written 0 = e in cc) w.stands refl r.in_front

-- (component (type $t u8) (component (type (list $t))))
abbrev list_of_t : Scope
list_of_t = component (bare (list_of (named 30 Ty t)) no_def)

alias_behind : Stand (component (def t u8 (bare (nested (defs_of list_of_t)) no_def)) ∷ []) list_of_t (list_at 1) (make (outer_alias_of 0 0) (alias_node 1 Ty 0)) → ⊥
alias_behind h =
    let w : _ = h.0 in
    let r : _ = (w.fact.0 refl).alias_there in
    none_before (list_at 1) (make (outer_alias_of 0 0) (alias_node 1 Ty 0)) w.position r.position _ (λ e. let x : outer_alias_of 0 0 ≡ written 0 = e in cc) w.stands refl r.in_front

-- (component (export "t" (func 0 "t")))
step_behind : Stand [] (component (bare (makers.export_row (text t) absent Func (path (export_of (root_number 9 0) t))) no_def)) (export_node t Func 0) (make (export_step 0 0 0) (step_node 0 t Func)) → ⊥
step_behind h =
    let w : _ = h.0 in
    let r : _ = w.fact.1.1.0 in
    none_before (export_node t Func 0) (make (export_step 0 0 0) (step_node 0 t Func)) w.position r.position _ (λ e. let x : export_step 0 0 0 ≡ written 0 = e in cc) w.stands refl r.in_front

-- (component (instance (instantiate 0 (with "t" (instance)))))
abbrev instantiating : Target → Target → Node
instantiating source argument = makers.instantiate source (one_node (makers.argument t Instance argument) no_node)

bundle_behind : Stand [] (component (bare (instantiating (numeral 9 0) (bundle (makers.bundle no_node))) no_def)) (instantiating (index 0) (index 1)) (make (bundle_of 0 1) (makers.bundle no_node)) → ⊥
bundle_behind h =
    let w : _ = h.0 in
    let r : _ = w.fact.1.0.0.1.0 in
    none_before (instantiating (index 0) (index 1)) (make (bundle_of 0 1) (makers.bundle no_node)) w.position r.position _ (λ e. let x : bundle_of 0 1 ≡ written 0 = e in cc) w.stands refl r.in_front
