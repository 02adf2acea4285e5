-- What the passes ask of a component and answer of it.
use Rattle.std.proofs.Common.{◌≡◌, ◌<◌, ◌≤◌, ◌^◌, ◌∙◌, refl, sym, ap, subst, ℕ, true, List, [], ◌∷◌, map, Option, Some, None, option_map, Result, Ok, Err, arith}
use Rattle.std.specs.Prelude.{IfOk, OnOk}
use Rattle.std.specs.Global.{Vec}
use Rattle.comp_model.specs.Core.{CoreRefusal}
use Rattle.comp_model.specs.CoreModules.{Field, Naming, CoreModule}
use Rattle.comp_model.specs.Model as m
use Rattle.comp_model.specs.Origins.{Origins}
use Rattle.comp_expanded.specs.Expands.{Expands}
use Rattle.comp_expanded.specs.ListMarks.{ListMarks}
use Rattle.comp_expanded.specs.IsResolved.{IsResolved}
use Rattle.comp_expanded.specs.OfText.{OfText}
use Rattle.comp_scopes.specs.Form.{form, plan}
use Rattle.comp_scopes.specs.Resolved.{binary_of}
use Rattle.comp_scopes.specs.Rule.{ScopeRule}
use Rattle.comp_tree.specs.Marks.{marks_of}
use Rattle.comp_tree.specs.Model.{scope_of, id_of, lent_text}
use Rattle.comp_tree.specs.declared.tree.Scope.{Scope}
use Rattle.comp_scopes.proofs.RowsRowed.{scope-rowed}
use Rattle.comp_weight.proofs.FairRows.{fair-defs}
use Rattle.comp_weight.proofs.Forms.{form-cost}
use Rattle.comp_weight.proofs.Law.{form-written}
use Rattle.comp_weight.specs.Cost.{cost_scope}
use Rattle.comp_weight.specs.Formats.{ByFormats}
use Rattle.comp_wire.specs.Read.{FitsComponent, Reads}
use Rattle.core_model.specs.Module.{core_bytes, module_with}
use Rattle.core_model.specs.IsResolved.{are_resolved}
use Rattle.core_model.specs.Rule.{core_rule}
use Rattle.core_model.specs.Weight.{weight_alone}
use Rattle.core_model.specs.Words.{FieldsWord}
use Rattle.core_model.proofs.ResolvedFields.{resolved-are-resolved}
use Rattle.core_fits.proofs.Light.{light-fits}
use Rattle.core_write.specs.Module.{FitsModule}
use Rattle.core_syntax.specs.declared.fields.ModuleField.{ModuleField}
use Rattle.tree_build.specs.Cores.{fields_at, cores_of}
use Rattle.tree_build.specs.declared.cores.Cores.{Cores}
use Rattle.tree_build.specs.declared.cores.NamedModule.{NamedModule}
use Rattle.tree_resolve.specs.Source.{IsSource}
use Rattle.tree_resolve.proofs.OfRows.{expansion-source}
use Rattle.tree_write.specs.Wire.{the_encoding, wire_scope}
use Rattle.wast_component.specs.Encodable.{weight_of, uncovered, IsWrittenAs}
use Rattle.wast_component.specs.Modules.{all_fields, all_light, light_module, numbered_by, numbered, all_numbered, numbered_encoding, ruled_fields, AreLight, AreResolved, AreRuled, AreWritable, modules_of}
use Rattle.wast_component.specs.Shown.{Shows}
use Rattle.wast_component.specs.Whole.{IsOfText, in_text}
use Rattle.wast_component.specs.declared.component.Written.{Written}
use Rattle.wast_component.specs.declared.ruled.Ruled.{Ruled}
use Rattle.wast_component.proofs.Cores.{SameBytes, same_scope}
use Rattle.wast_component.proofs.Weighed.{light_stays}
use Rattle.wast_tokens.specs.declared.error.Error.{Error}

by-formats : ByFormats the_encoding
by-formats = record { cores = λ c. refl }

-- an expansion of a component of the text is what the resolver asks for
pub source : (s x : m.Scope) (os : ListMarks) → IsOfText (in_text s) → Expands s x os → IsSource s x os
source s x os text e = expansion-source s x os (text.1).rows (text.1).written text.2 e

-- the form of a light component can be written
pub form_fits : (s : m.Scope) → IsOfText (in_text s) → weight_of s ≤ 67_108_864 → uncovered s ≡ None → ScopeRule the_encoding [] s → FitsComponent (form the_encoding [] s)
form_fits s text light covered rule = form-written the_encoding by-formats _ s text.1 (omega (arith, light)) text.0 rule covered

-- it costs few bytes
pub form_cost : (s : m.Scope) → IsOfText (in_text s) → weight_of s ≤ 67_108_864 → cost_scope (form the_encoding [] s) < 2 ^ 32
form_cost (m.scope_of k id label ds) text light =
    let t = text.1 in
    let fair = fair-defs ds k t.rows (scope-rowed (m.scope_of k id label ds) t.rows t.written) t.numerals t.names in
    omega (arith, form-cost the_encoding by-formats k id label ds (omega (arith, light)) fair, light)

-- so it is of the component with its light modules, which are all that it holds
pub light_source : (C D : List CoreModule) (scope x : Scope) → IsOfText (in_text (scope_of C scope)) → weight_of (scope_of C scope) ≤ 67_108_864
    → ((cs : List CoreModule) → OfText (scope_of cs scope) → Expands (scope_of cs scope) (scope_of cs x) (marks_of cs x)) → D ≡ map light_module C → IsSource (scope_of C scope) (scope_of D x) (marks_of D x)
light_source C D scope x text light expands e =
    let L : List CoreModule = map light_module C in
    let s : m.Scope = scope_of C scope in
    let stays : scope_of L scope ≡ s = light_stays C scope text.1 light in
    let expanded : Expands s (scope_of L x) (marks_of L x) = subst (λ z. Expands z (scope_of L x) (marks_of L x)) stays (expands L (subst OfText (sym stays) text.2)) in
    subst (λ cs. IsSource s (scope_of cs x) (marks_of cs x)) (sym e) (source s (scope_of L x) (marks_of L x) text expanded)

-- what has become numbers holds no names
numbered_resolved : (o : Option CoreRefusal) (fs : List Field) → are_resolved (numbered_by o fs) ≡ true
numbered_resolved None fs = resolved-are-resolved fs
numbered_resolved (Some r) fs = refl

pub all_are_resolved : (fs : List (List Field)) → AreResolved (all_numbered fs)
all_are_resolved [] = tt
all_are_resolved (f ∷ fs) = (numbered_resolved (core_rule f) f, all_are_resolved fs)

-- the same modules by the same fields
pub same_modules : (fs gs : List (List Field)) (ms ns : List NamedModule) → fs ≡ gs → ms ≡ ns → modules_of fs ms ≡ modules_of gs ns
same_modules fs gs ms ns e f = ap (λ x. modules_of x ms) e ∙ ap (modules_of gs) f

-- ---- lists that are lent again

-- the light modules of a text, whose fields have their rules
pub ruled_light : (cores : Cores) (rs : List Ruled) (ls : List NamedModule) {vs : List (Vec ModuleField)} {ms : List NamedModule} → vs ≡ cores.fields.items → ms ≡ cores.modules.items
    → modules_of (all_light (all_fields vs)) ls ≡ map light_module (modules_of (all_fields vs) ms) → ruled_fields rs ≡ all_light (all_fields cores.fields.items) → modules_of (ruled_fields rs) ls ≡ map light_module (cores_of cores)
ruled_light cores rs ls e f h g =
    ap (λ fs. modules_of fs ls) (g ∙ sym (ap (λ v. all_light (all_fields v)) e)) ∙ h ∙ ap (map light_module) (same_modules _ _ _ _ (ap all_fields e) f)

-- they are the same where they are lent
pub ruled_lent : {rs qs : List Ruled} {ls ks : List NamedModule} {cs : List CoreModule} → qs ≡ rs → ks ≡ ls → modules_of (ruled_fields rs) ls ≡ cs → modules_of (ruled_fields qs) ks ≡ cs
ruled_lent e f h = same_modules _ _ _ _ (ap ruled_fields e) f ∙ h

-- what is known of a component where its expansion is resolved, with its light modules
pub record Prepared (s x : m.Scope) (os : ListMarks) : Type 0 where
  pub covered : uncovered s ≡ None
  pub light : weight_of s ≤ 67_108_864
  pub source : IsSource s x os

pub prepared : (cores : Cores) (scope x : Scope) {vs : List (Vec ModuleField)} {ms : List NamedModule} {D : List CoreModule} → IsOfText (in_text (scope_of (cores_of cores) scope)) → vs ≡ cores.fields.items → ms ≡ cores.modules.items
    → uncovered (scope_of (modules_of (all_fields vs) ms) scope) ≡ None → weight_of (scope_of (modules_of (all_fields vs) ms) scope) ≤ 67_108_864
    → ((cs : List CoreModule) → OfText (scope_of cs scope) → Expands (scope_of cs scope) (scope_of cs x) (marks_of cs x)) → D ≡ map light_module (cores_of cores) → Prepared (scope_of (cores_of cores) scope) (scope_of D x) (marks_of D x)
prepared cores scope x {vs} {ms} text e f covered light expands same =
    let read : modules_of (all_fields vs) ms ≡ cores_of cores = same_modules _ _ _ _ (ap all_fields e) f in
    let weighed : weight_of (scope_of (cores_of cores) scope) ≤ 67_108_864 = subst (λ (cs : List CoreModule). weight_of (scope_of cs scope) ≤ 67_108_864) read light in
    record {
      covered = subst (λ (cs : List CoreModule). uncovered (scope_of cs scope) ≡ None) read covered;
      light = weighed;
      source = light_source (cores_of cores) _ scope x text weighed expands same;
    }

-- what holds whatever a call answered
pub on_ok : {X E : Type 0} (r : Result X E) (P : Type 0) → P → OnOk r P
on_ok (Ok x) P p = p
on_ok (Err e) P p = tt

-- what is written of the binary of a form, under the marks of a plan
pub written_as : (s b : m.Scope) (os : Origins) (r : Result Written Error) → b ≡ form the_encoding [] s → os ≡ plan the_encoding [] s
    → IfOk r (λ w. Reads w.bytes.items b) → IfOk r (λ w. Shows w.origins os) → IfOk r (λ w. IsWrittenAs s w.bytes.items w.origins)
written_as s b os (Ok w) f p h k = record { reads = subst (Reads w.bytes.items) f h; marks = subst (Shows w.origins) p k }
written_as s b os (Err e) f p h k = tt

-- ---- core modules whose names are numbers

at_numbered : (fs : List (List Field)) (n : ℕ) → fields_at (all_numbered fs) n ≡ numbered (fields_at fs n)
at_numbered [] n = refl
at_numbered (f ∷ fs) ℕ.zero = refl
at_numbered (f ∷ fs) (ℕ.suc n) = at_numbered fs n

same_bytes : (fs : List (List Field)) (ms : List NamedModule) → SameBytes (modules_of fs ms) (modules_of (all_numbered fs) ms)
same_bytes fs [] = tt
same_bytes fs (x ∷ ms) =
    let n : Naming = record { id = option_map id_of x.id; label = option_map lent_text x.label } in
    (sym (ap (λ gs. core_bytes (module_with n gs)) (at_numbered fs x.fields)), same_bytes fs ms)

-- a resolved component in binary, with numbers in its core modules
pub numbered_wire : (fs gs : List (List Field)) (ms : List NamedModule) (s : Scope) → gs ≡ all_numbered fs → IsResolved (scope_of (modules_of fs ms) s) → binary_of numbered_encoding (scope_of (modules_of fs ms) s) ≡ wire_scope (modules_of gs ms) s
numbered_wire fs gs ms s e r = same_scope (modules_of fs ms) (modules_of (all_numbered fs) ms) (same_bytes fs ms) s r ∙ ap (λ x. wire_scope (modules_of x ms) s) (sym e)

-- ---- light modules can be written

numbered_fits : (o : Option CoreRefusal) (n : Naming) (fs : List Field) → FieldsWord fs → weight_alone (module_with n fs) ≤ 67_108_864 → FitsModule n (numbered_by o fs)
numbered_fits None n fs w h = light-fits n fs w h
numbered_fits (Some r) n fs w h = light-fits n [] tt (omega (arith, h))

words_at : (rs : List Ruled) (n : ℕ) → AreRuled rs → FieldsWord (fields_at (ruled_fields rs) n)
words_at [] n h = tt
words_at (r ∷ rs) ℕ.zero h = h.0.1
words_at (r ∷ rs) (ℕ.suc n) h = words_at rs n h.1

pub all_writable : (rs : List Ruled) (gs : List (List Field)) (ms : List NamedModule) → gs ≡ all_numbered (ruled_fields rs) → AreRuled rs → AreLight (modules_of (ruled_fields rs) ms) → AreWritable (modules_of gs ms)
all_writable rs gs ms e r h = subst (λ x. AreWritable (modules_of x ms)) (sym e) (each ms h)
  where
    each : (ms : List NamedModule) → AreLight (modules_of (ruled_fields rs) ms) → AreWritable (modules_of (all_numbered (ruled_fields rs)) ms)
    each [] h = tt
    each (x ∷ ms) h =
        let n : Naming = record { id = option_map id_of x.id; label = option_map lent_text x.label } in
        let f : List Field = fields_at (ruled_fields rs) x.fields in
        (subst (FitsModule n) (sym (at_numbered (ruled_fields rs) x.fields)) (numbered_fits (core_rule f) n f (words_at rs x.fields r) h.0), each ms h.1)
