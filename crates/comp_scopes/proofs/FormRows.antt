-- The form of a component that fits its rows fits them too.
use Rattle.std.proofs.Common.{◌≡◌, ℕ, ◌+◌, Bool, true, false, ◌&&◌, ◌||◌, not, List, [], ◌∷◌, ◌++◌, refl, sym, subst, Option, Some, None}
use Rattle.comp_model.specs.declared.Space.{Space}
use Rattle.comp_model.specs.declared.Space.TheVariants.{CoreFunc, CoreType}
use Rattle.comp_model.specs.declared.row.Row.TheVariants as rows
use Rattle.comp_model.specs.declared.row.Row.{Row}
use Rattle.comp_model.specs.RowNumbers.{same_row, is_row}
use Rattle.comp_model.specs.Core.{Text, Id, Place, counted, Reach, outward, own, at_place, CoreValue, ref_numeral, ref_name}
use Rattle.comp_model.specs.Model.{Leaf, kind, core_value, ref, place, present, node, nodes, scope, index, numeral, name, Path, root_number, root_name, export_of, path, inline, bundle, Leaves, no_leaf, ◌▸◌, Node, row, Nodes, no_node, one_node, no_names, define, Defs, no_def, one_def, Scope, scope_of}
use Rattle.comp_model.specs.declared.row.ScopeKind.{ScopeKind}
use Rattle.comp_model.specs.declared.row.ScopeKind.TheVariants as kinds
use Rattle.comp_model.specs.Spaces.{declares_row, same_space}
use Rattle.comp_model.specs.Origins.{Origin, written, inline_type}
use Rattle.comp_model.specs.ItemNames.{has_names}
use Rattle.comp_model.specs.NamesFit.{ExportsFit, LeafNamesFit, LeavesNamesFit, NodesNamesFit, DefsNamesFit, NamesFit}
use Rattle.comp_model.specs.Rows as r
use Rattle.comp_model.specs.Rows.{Shape, leaves_of, inline_rows, bundle_rows, may_define, fits_together, is_outer_alias, is_outer_kind, fits_space, fits_reach, fits_value, is_core_value, is_optional, the_option, rows_of_node, rows_of_list, ShapedLeaf, ShapedLeaves, ShapedNodes, ShapedDefs, FitsRows}
use Rattle.comp_model.proofs.Tests.{same_row-true, same_space-true, same_space-refl}
use Rattle.comp_scopes.specs.Encoding.{Encoding}
use Rattle.comp_scopes.specs.Names.{Denoted, denotes}
use Rattle.comp_scopes.specs.References.{references, references_leaf, instance_space}
use Rattle.comp_scopes.specs.Reused.{reused}
use Rattle.comp_scopes.specs.Outward.{served, leads_out}
use Rattle.comp_scopes.specs.Plan.{item_index}
use Rattle.comp_scopes.specs.Rule.{path_allowed, RuleOfDefs, RuleOfLeaves, RuleOfLeaf, RuleOfNodes, ScopeRule}
use Rattle.comp_scopes.specs.Form.{Made, Formed, plain, formed_as, form_both, form_place, form_one, form_inline, form_alias, form_name, form_path, form_value, form_exports_of, form_exports, form_names, step_node, coded_node, binary_defs, form_defs, form_leaves, form_leaf, form_nodes, form}
use Rattle.comp_scopes.specs.Renders.{AllMade}
use Rattle.comp_scopes.proofs.Lookup.{made-app}
use Rattle.comp_scopes.proofs.Each.{Each, each-both, each-one, each-bundle}
use Rattle.comp_scopes.proofs.Among.{and-both, all, among}

both-and : (a b : Bool) → a ≡ true → b ≡ true → (a && b) ≡ true
both-and a b h g = rw h g

second-of : (a b : Bool) → a ≡ true → (not a || b) ≡ true → b ≡ true
second-of true b h g = g
second-of false b h g = absurd (cc)

-- ---- what stands in a scope of a kind

-- the rows within a definition, outer aliases aside: no arguments stand in types, and in the type of a core module its own rows alone
abbrev in_kind : ScopeKind → Row → Bool
in_kind kinds.Component t = not (same_row t rows.AliasOuter)
in_kind kinds.ModuleType t = is_row t (rows.CoreFunctionType ∷ rows.CoreValueType ∷ rows.CoreRec ∷ rows.ModuleType ∷ rows.OtherCoreType ∷ rows.FuncEntity ∷ rows.TableEntity ∷ rows.MemoryEntity ∷ rows.GlobalEntity ∷ rows.OtherEntity ∷ rows.ModuleImport ∷ rows.ModuleExport ∷ [])
in_kind _ t = not (is_row t (rows.CoreInstantiate ∷ rows.Instantiate ∷ rows.CoreArgument ∷ rows.Argument ∷ rows.AliasOuter ∷ []))

abbrev in_module : Shape → Bool
in_module r.a_text = true
in_module r.a_number = true
in_module r.a_flag = true
in_module r.an_own_core_value = true
in_module r.a_signature_use = true
in_module (r.a_scope k) = true
in_module _ = false

abbrev in_type : Shape → Bool
in_type r.an_argument = false
in_type r.a_core_argument = false
in_type r.a_placed_ref = false
in_type _ = true

abbrev in_component : Shape → Bool
in_component r.a_placed_ref = false
in_component _ = true

abbrev allowed : ScopeKind → Shape → Bool
allowed k (r.an_option s) = allowed k s
allowed k (r.a_node ts) = all (in_kind k) ts
allowed k (r.a_list ts) = all (in_kind k) ts
allowed kinds.Component s = in_component s
allowed kinds.ModuleType s = in_module s
allowed kinds.ComponentType s = in_type s
allowed kinds.InstanceType s = in_type s

abbrev all_allowed : ScopeKind → List Shape → Bool
all_allowed k [] = true
all_allowed k (s ∷ ss) = allowed k s && all_allowed k ss

-- by computation: the leaves of such a row are such, and a definition of a scope is such a row, or an outer alias
kind-rows : (k : ScopeKind) (t : Row) → ((not (in_kind k t) || all_allowed k (leaves_of t)) ≡ true) × ((not (may_define k t) || (same_row t rows.AliasOuter || in_kind k t)) ≡ true)
kind-rows kinds.Component rows.CoreModule = (refl, refl)
kind-rows kinds.Component _ = (refl, refl)
kind-rows kinds.ComponentType rows.CoreModule = (refl, refl)
kind-rows kinds.ComponentType _ = (refl, refl)
kind-rows kinds.InstanceType rows.CoreModule = (refl, refl)
kind-rows kinds.InstanceType _ = (refl, refl)
kind-rows kinds.ModuleType rows.CoreModule = (refl, refl)
kind-rows kinds.ModuleType _ = (refl, refl)

rows-allowed : (k : ScopeKind) (t : Row) → in_kind k t ≡ true → all_allowed k (leaves_of t) ≡ true
rows-allowed k t h = second-of (in_kind k t) _ h (kind-rows k t).0

after-false : (a b : Bool) → a ≡ false → (a || b) ≡ true → b ≡ true
after-false true b x y = absurd (cc)
after-false false b x y = y

other-defs : (k : ScopeKind) (t : Row) → may_define k t ≡ true → same_row t rows.AliasOuter ≡ false → in_kind k t ≡ true
other-defs k t h g = after-false (same_row t rows.AliasOuter) _ g (second-of (may_define k t) _ h (kind-rows k t).1)

-- the types in the places of references are such rows, and may be definitions there
abbrev inlined : ScopeKind → Row → Bool
inlined k t = in_kind k t && may_define k t

inline-rows : (k : ScopeKind) (s : Shape) → allowed k s ≡ true → all (inlined k) (inline_rows s) ≡ true
inline-rows kinds.Component r.a_text h = refl
inline-rows kinds.Component _ h = refl
inline-rows kinds.ComponentType r.a_text h = refl
inline-rows kinds.ComponentType _ h = refl
inline-rows kinds.InstanceType r.a_text h = refl
inline-rows kinds.InstanceType _ h = refl
inline-rows kinds.ModuleType r.a_value_type h = absurd (cc)
inline-rows kinds.ModuleType r.a_function_use h = absurd (cc)
inline-rows kinds.ModuleType r.a_component_use h = absurd (cc)
inline-rows kinds.ModuleType r.an_instance_use h = absurd (cc)
inline-rows kinds.ModuleType r.a_module_use h = absurd (cc)
inline-rows kinds.ModuleType _ h = refl

inline-kind : (k : ScopeKind) (s : Shape) (t : Row) → allowed k s ≡ true → is_row t (inline_rows s) ≡ true → (in_kind k t ≡ true) × (may_define k t ≡ true)
inline-kind k s t a h = and-both (in_kind k t) (may_define k t) (among (inlined k) t (inline_rows s) h (inline-rows k s a))

bundle-kind : (k : ScopeKind) (s : Shape) (q : Space) (t : Row) → allowed k s ≡ true → is_row t (bundle_rows s q) ≡ true → (in_kind k t ≡ true) × (may_define k t ≡ true)
bundle-kind kinds.Component r.an_argument q t a h = and-both _ _ (among (inlined kinds.Component) t (bundle_rows r.an_argument q) h (some q))
  where
    some : (q : Space) → all (inlined kinds.Component) (bundle_rows r.an_argument q) ≡ true
    some CoreFunc = refl
    some _ = refl
bundle-kind kinds.Component r.a_core_argument q t a h = and-both _ _ (among (inlined kinds.Component) t (bundle_rows r.a_core_argument q) h (some q))
  where
    some : (q : Space) → all (inlined kinds.Component) (bundle_rows r.a_core_argument q) ≡ true
    some CoreFunc = refl
    some _ = refl
bundle-kind kinds.Component _ q t a h = absurd (cc)
bundle-kind kinds.ComponentType r.an_argument q t a h = absurd (cc)
bundle-kind kinds.ComponentType r.a_core_argument q t a h = absurd (cc)
bundle-kind kinds.ComponentType _ q t a h = absurd (cc)
bundle-kind kinds.InstanceType r.an_argument q t a h = absurd (cc)
bundle-kind kinds.InstanceType r.a_core_argument q t a h = absurd (cc)
bundle-kind kinds.InstanceType _ q t a h = absurd (cc)
bundle-kind kinds.ModuleType r.an_argument q t a h = absurd (cc)
bundle-kind kinds.ModuleType r.a_core_argument q t a h = absurd (cc)
bundle-kind kinds.ModuleType _ q t a h = absurd (cc)

-- in the type of a core module no reference looks outward
outer-space : (k : ScopeKind) (s : Shape) (q : Space) → allowed k s ≡ true → fits_space s q ≡ true → fits_reach s outward ≡ true → is_outer_kind k q ≡ true
outer-space kinds.Component s q a h g = refl
outer-space kinds.ComponentType s q a h g = refl
outer-space kinds.InstanceType s q a h g = refl
outer-space kinds.ModuleType r.a_signature_use q a h g = absurd (cc)
outer-space kinds.ModuleType r.a_text q a h g = absurd (cc)
outer-space kinds.ModuleType r.a_number q a h g = absurd (cc)
outer-space kinds.ModuleType r.a_flag q a h g = absurd (cc)
outer-space kinds.ModuleType r.an_own_core_value q a h g = absurd (cc)
outer-space kinds.ModuleType (r.a_scope k) q a h g = absurd (cc)
outer-space kinds.ModuleType (r.an_option s) q a h g = absurd (cc)
outer-space kinds.ModuleType (r.a_node ts) q a h g = absurd (cc)
outer-space kinds.ModuleType (r.a_list ts) q a h g = absurd (cc)
outer-space kinds.ModuleType _ q a h g = absurd (cc)

core-outer : (k : ScopeKind) → is_outer_kind k CoreType ≡ true
core-outer kinds.Component = refl
core-outer kinds.ComponentType = refl
core-outer kinds.InstanceType = refl
core-outer kinds.ModuleType = refl

-- parts of a shape
option-allowed : (k : ScopeKind) (s : Shape) → is_optional s ≡ true → allowed k s ≡ true → allowed k (the_option s) ≡ true
option-allowed k (r.an_option s) h a = a
option-allowed k s h a = absurd (cc)

node-kind : (k : ScopeKind) (s : Shape) (t : Row) → allowed k s ≡ true → is_row t (rows_of_node s) ≡ true → in_kind k t ≡ true
node-kind k (r.a_node ts) t a h = among (in_kind k) t ts h a
node-kind kinds.Component r.a_name t a h = among (in_kind kinds.Component) t (rows.AttributedName ∷ []) h refl
node-kind kinds.ComponentType r.a_name t a h = among (in_kind kinds.ComponentType) t (rows.AttributedName ∷ []) h refl
node-kind kinds.InstanceType r.a_name t a h = among (in_kind kinds.InstanceType) t (rows.AttributedName ∷ []) h refl
node-kind kinds.ModuleType r.a_name t a h = absurd (cc)
node-kind k s t a h = absurd (cc)

list-kind : (k : ScopeKind) (s : Shape) → allowed k s ≡ true → all (in_kind k) (rows_of_list s) ≡ true
list-kind k (r.a_list ts) a = a
list-kind k _ a = refl

plain-together : (k : ScopeKind) (t : Row) (ls : Leaves) → in_kind k t ≡ true → fits_together k t ls ≡ true
plain-together kinds.Component rows.AliasOuter ls h = absurd (cc)
plain-together kinds.ComponentType rows.AliasOuter ls h = absurd (cc)
plain-together kinds.InstanceType rows.AliasOuter ls h = absurd (cc)
plain-together kinds.ModuleType rows.AliasOuter ls h = absurd (cc)
plain-together k _ ls h = refl

-- ---- what is formed

abbrev NodeFits : ScopeKind → Node → Type 0
NodeFits k (row t ls) = ((may_define k t && fits_together k t ls) ≡ true) × ShapedLeaves ls (leaves_of t)

abbrev MadeFits : ScopeKind → Made → Type 0
MadeFits k m = NodeFits k m.made

alias-fits : (k : ScopeKind) (d i : ℕ) (s : Space) → is_outer_kind k s ≡ true → NodeFits k (row rows.AliasOuter (place (counted 0 d) ▸ ref s (index i) ▸ kind s ▸ no_leaf))
alias-fits kinds.Component d i s h = (rw (same_space-refl s) refl, (refl, ((refl, tt), (refl, tt))))
alias-fits kinds.ComponentType d i s h = (rw (same_space-refl s) refl, (refl, ((refl, tt), (refl, tt))))
alias-fits kinds.InstanceType d i s h = (rw (same_space-refl s) refl, (refl, ((refl, tt), (refl, tt))))
alias-fits kinds.ModuleType d i s h = (rw (same_space-refl s, h) refl, (refl, ((refl, tt), (refl, tt))))

served-fits : (c : ScopeKind) (st : List Scope) (k u : ℕ) (s : Space) (d : Denoted) (o : Option Origin) → is_outer_kind c s ≡ true → Each (MadeFits c) (form_alias st k u s d o)
served-fits c st k u s d (Some o) h = (tt, tt, tt)
served-fits c st k u s d None h = (tt, tt, (alias-fits c d.depth (item_index st s d) s h, tt))

name-fits : (c : ScopeKind) (st : List Scope) (k u : ℕ) (s : Space) (b : Bool) (o : Option Denoted) → (b ≡ true → is_outer_kind c s ≡ true) → Each (MadeFits c) (form_name st k u s b o)
name-fits c st k u s true None h = (tt, tt, tt)
name-fits c st k u s false None h = (tt, tt, tt)
name-fits c st k u s false (Some d) h = (tt, tt, tt)
name-fits c st k u s true (Some d) h = served-fits c st k u s d (served st k u s d) (h refl)

reach-outward : (q : Reach) (o : Option Denoted) → leads_out q o ≡ true → q ≡ outward
reach-outward outward o h = refl
reach-outward own o h = absurd (cc)
reach-outward (at_place p) o h = absurd (cc)

third-false : (c : ScopeKind) (s t : Space) → (same_space s t && (is_outer_kind c s && false)) ≡ true → ⊥
third-false c s t h = let a = and-both (same_space s t) _ h in let b = and-both (is_outer_kind c s) false a.1 in let x = b.1 in cc

-- an alias of an export may stand in every scope but the type of a core module
step-fits : (c : ScopeKind) (i : ℕ) (t : Text) (s : Space) → (c ≡ kinds.ModuleType → ⊥) → NodeFits c (step_node i t s)
step-fits kinds.Component i t CoreFunc h = (refl, ((refl, tt), (refl, (refl, tt))))
step-fits kinds.Component i t _ h = (refl, ((refl, tt), (refl, (refl, tt))))
step-fits kinds.ComponentType i t CoreFunc h = (refl, ((refl, tt), (refl, (refl, tt))))
step-fits kinds.ComponentType i t _ h = (refl, ((refl, tt), (refl, (refl, tt))))
step-fits kinds.InstanceType i t CoreFunc h = (refl, ((refl, tt), (refl, (refl, tt))))
step-fits kinds.InstanceType i t _ h = (refl, ((refl, tt), (refl, (refl, tt))))
step-fits kinds.ModuleType i t s h = absurd (h refl)

path-fits : (c : ScopeKind) (st : List Scope) (k u : ℕ) (s : Space) (p : Path) → (c ≡ kinds.ModuleType → ⊥) → AllMade (MadeFits c) (form_path st k u s p)
path-fits c st k u s (root_number o n) h = tt
path-fits c st k u s (root_name x) h = tt
path-fits c st k u s (export_of p t) h = made-app (MadeFits c) (form_path st k u (instance_space s) p) _ (path-fits c st k u (instance_space s) p h) (step-fits c _ t s h, tt)

-- a path in the type of a core module would lead to a core type
no-path : (c : ScopeKind) (s : Shape) (q : Space) → allowed c s ≡ true → fits_space s q ≡ true → path_allowed q ≡ true → c ≡ kinds.ModuleType → ⊥
no-path kinds.ModuleType r.a_signature_use q a h p e = let x : CoreType ≡ q = same_space-true CoreType q h in let y : path_allowed CoreType ≡ true = subst (λ v. path_allowed v ≡ true) (sym x) p in cc
no-path kinds.ModuleType r.a_text q a h p e = cc
no-path kinds.ModuleType r.a_number q a h p e = cc
no-path kinds.ModuleType r.a_flag q a h p e = cc
no-path kinds.ModuleType r.an_own_core_value q a h p e = cc
no-path kinds.ModuleType (r.a_scope k) q a h p e = cc
no-path kinds.ModuleType (r.an_option s) q a h p e = cc
no-path kinds.ModuleType (r.a_node ts) q a h p e = cc
no-path kinds.ModuleType (r.a_list ts) q a h p e = cc
no-path kinds.ModuleType _ q a h p e = cc
no-path kinds.Component s q a h p e = cc
no-path kinds.ComponentType s q a h p e = cc
no-path kinds.InstanceType s q a h p e = cc

value-fits : (c : ScopeKind) (st : List Scope) (k u : ℕ) (v : CoreValue) (s : Shape) → fits_value s v ≡ true → Each (MadeFits c) (form_value st k u v) × ShapedLeaf (form_value st k u v).here s
value-fits c st k u (ref_numeral b o n) s f = ((tt, tt, tt), both-and (is_core_value s) true (and-both (is_core_value s) true f).0 refl)
value-fits c st k u (ref_name b q x) s f =
    (name-fits c st k u CoreType (leads_out q (denotes st CoreType q x)) (denotes st CoreType q x) (λ h. core-outer c), both-and (is_core_value s) true (and-both (is_core_value s) _ f).0 refl)
value-fits c st k u v s f = ((tt, tt, tt), f)

inline-fits : (c : ScopeKind) (st : List Scope) (k u : ℕ) (q : Space) (t : Row) (j : Option Origin) (a : Formed Leaves) (s : Shape) → fits_space s q ≡ true → Each (MadeFits c) a → NodeFits c (row t a.here)
    → Each (MadeFits c) (form_inline st k u q t j a) × ShapedLeaf (form_inline st k u q t j a).here s
inline-fits c st k u q t (Some j) a s f x n = ((tt, tt, tt), (f, tt))
inline-fits c st k u q t None a s f x n = ((each-one (MadeFits c) (inline_type k u) (row t) a x n, tt, tt), (f, tt))

made-shaped : (c : ScopeKind) (ms : List Made) → AllMade (MadeFits c) ms → ShapedDefs (binary_defs ms) c
made-shaped c [] h = tt
made-shaped c (m ∷ ms) h = one m.made h.0 (made-shaped c ms h.1)
  where
    one : (n : Node) → NodeFits c n → ShapedDefs (binary_defs ms) c → ShapedDefs (one_def (define no_names n) (binary_defs ms)) c
    one (row t ls) x y = (x.0, x.1, y)

component-exports : (st : List Scope) (k j : ℕ) (xs : List Text) (ss : List Space) → AllMade (MadeFits kinds.Component) (form_exports_of st k j xs ss)
component-exports st k j [] ss = tt
component-exports st k j (x ∷ xs) [] = tt
component-exports st k j (x ∷ xs) (s ∷ ss) = ((refl, (refl, (refl, ((refl, tt), tt)))), component-exports st k (j + 1) xs (s ∷ ss))

exports-of-fit : (c : ScopeKind) (t : Row) (ls : Leaves) (st : List Scope) (k : ℕ) (xs : List Text) (ss : List Space) → ExportsFit c t ls xs → AllMade (MadeFits c) (form_exports_of st k 0 xs ss)
exports-of-fit kinds.Component t ls st k xs ss h = component-exports st k 0 xs ss
exports-of-fit kinds.ComponentType t ls st k [] ss h = tt
exports-of-fit kinds.ComponentType t ls st k (x ∷ xs) ss h = absurd h
exports-of-fit kinds.InstanceType t ls st k [] ss h = tt
exports-of-fit kinds.InstanceType t ls st k (x ∷ xs) ss h = absurd h
exports-of-fit kinds.ModuleType t ls st k [] ss h = tt
exports-of-fit kinds.ModuleType t ls st k (x ∷ xs) ss h = absurd h

exports-fit : (c : ScopeKind) (st : List Scope) (k : ℕ) (ds : Defs) → DefsNamesFit c ds → AllMade (MadeFits c) (form_exports st k ds)
exports-fit c st k no_def n = tt
exports-fit c st k (one_def (define names (row t ls)) ds) n =
    made-app (MadeFits c) (form_exports_of st k 0 names.exports (declares_row t ls)) (form_exports st (k + 1) ds) (exports-of-fit c t ls st k names.exports (declares_row t ls) n.1) (exports-fit c st (k + 1) ds n.4)

abbrev three : Place → Space → Space → Formed ℕ → Formed Leaves
three p s t a = form_both (λ b bs. b ▸ bs) (plain (place p)) (form_both (λ b bs. b ▸ bs) (formed_as (λ i. ref s (index i)) a) (form_both (λ b bs. b ▸ bs) (plain (kind t)) (plain no_leaf)))

named-alias : (c : ScopeKind) (st : List Scope) (k u : ℕ) (p : Place) (s t : Space) (o : Option Denoted) → same_space s t ≡ true → is_outer_kind c s ≡ true
    → Each (MadeFits c) (three p s t (form_name st k u s false o)) × ((is_outer_alias c (three p s t (form_name st k u s false o)).here ≡ true) × ShapedLeaves (three p s t (form_name st k u s false o)).here (leaves_of rows.AliasOuter))
named-alias c st k u p s t None a b = ((tt, tt, tt), (rw (a, b) refl, (refl, ((refl, tt), (refl, tt)))))
named-alias c st k u p s t (Some d) a b = ((tt, tt, tt), (rw (a, b) refl, (refl, ((refl, tt), (refl, tt)))))

module _ (e : Encoding) where
  names-fit : (c : ScopeKind) (st : List Scope) (id : Option Id) (label : Option Text) (ds : Defs) → AllMade (MadeFits c) (form_names st (scope_of c id label ds) (has_names (scope_of c id label ds)))
  names-fit kinds.Component st id label ds = go (has_names (scope_of kinds.Component id label ds))
    where
      go : (b : Bool) → AllMade (MadeFits kinds.Component) (form_names st (scope_of kinds.Component id label ds) b)
      go true = ((refl, (refl, (refl, tt))), tt)
      go false = tt
  names-fit kinds.ComponentType st id label ds = tt
  names-fit kinds.InstanceType st id label ds = tt
  names-fit kinds.ModuleType st id label ds = tt

  producers-component : (c : ScopeKind) → may_define c rows.Producers ≡ true → c ≡ kinds.Component
  producers-component kinds.Component h = refl
  producers-component kinds.ComponentType h = absurd (cc)
  producers-component kinds.InstanceType h = absurd (cc)
  producers-component kinds.ModuleType h = absurd (cc)

  coded-fits : (c : ScopeKind) (t : Row) (ls bs : Leaves) → may_define c t ≡ true → NodeFits c (row t bs) → NodeFits c (coded_node e t ls bs)
  coded-fits c t ls bs m h = go (same_row t rows.Producers) refl
    where
      go : (b : Bool) → same_row t rows.Producers ≡ b → NodeFits c (coded_node e t ls bs)
      go true q =
          let k : c ≡ kinds.Component = producers-component c (subst (λ v. may_define c v ≡ true) (same_row-true t rows.Producers q) m) in
          let x : NodeFits kinds.Component (coded_node e t ls bs) = rw q (refl, (refl, (refl, tt))) in
          subst (λ v. NodeFits v (coded_node e t ls bs)) (sym k) x
      go false q = rw q h

  -- an outer alias as it is written
  alias-formed : (c : ScopeKind) (st : List Scope) (k : ℕ) (ls : Leaves) → is_outer_alias c ls ≡ true
      → Each (MadeFits c) (form_leaves e st k 0 ls) × ((is_outer_alias c (form_leaves e st k 0 ls).here ≡ true) × ShapedLeaves (form_leaves e st k 0 ls).here (leaves_of rows.AliasOuter))
  alias-formed c st k (place p ▸ ref s (name (at_place q) x) ▸ kind t ▸ no_leaf) h =
      let a = and-both (same_space s t) _ h in
      let b = and-both (is_outer_kind c s) _ a.1 in
      named-alias c st k 0 (form_place st p) s t (denotes st s (at_place q) x) a.0 b.0
  alias-formed c st k (place p ▸ ref s (numeral o n) ▸ kind t ▸ no_leaf) h =
      let a = and-both (same_space s t) _ h in let b = and-both (is_outer_kind c s) _ a.1 in ((tt, tt, tt), (rw (a.0, b.0) refl, (refl, ((refl, tt), (refl, tt)))))
  alias-formed c st k (place p ▸ ref s (index i) ▸ kind t ▸ no_leaf) h =
      let a = and-both (same_space s t) _ h in let b = and-both (is_outer_kind c s) _ a.1 in ((tt, tt, tt), (rw (a.0, b.0) refl, (refl, ((refl, tt), (refl, tt)))))
  alias-formed c st k (place p ▸ ref s (name outward x) ▸ kind t ▸ no_leaf) h = absurd (third-false c s t h)
  alias-formed c st k (place p ▸ ref s (name own x) ▸ kind t ▸ no_leaf) h = absurd (third-false c s t h)
  alias-formed c st k (place p ▸ ref s (path x) ▸ kind t ▸ no_leaf) h = absurd (third-false c s t h)
  alias-formed c st k (place p ▸ ref s (inline x) ▸ kind t ▸ no_leaf) h = absurd (third-false c s t h)
  alias-formed c st k (place p ▸ ref s (bundle x) ▸ kind t ▸ no_leaf) h = absurd (third-false c s t h)
  alias-formed c st k _ h = absurd (cc)

  -- one written definition
  def-fits : (c : ScopeKind) (st : List Scope) (k : ℕ) (t : Row) (ls : Leaves) → (may_define c t && fits_together c t ls) ≡ true → (in_kind c t ≡ true → Each (MadeFits c) (form_leaves e st k 0 ls) × ShapedLeaves (form_leaves e st k 0 ls).here (leaves_of t))
      → AllMade (MadeFits c) (form_one (written k) (coded_node e t ls) (form_leaves e st k 0 ls))
  def-fits c st k t ls m rest = go (same_row t rows.AliasOuter) refl
    where
      a : Formed Leaves
      a = form_leaves e st k 0 ls

      may : (may_define c t ≡ true) × (fits_together c t ls ≡ true)
      may = and-both (may_define c t) (fits_together c t ls) m

      done : Each (MadeFits c) a → NodeFits c (row t a.here) → AllMade (MadeFits c) (form_one (written k) (coded_node e t ls) a)
      done x y = each-one (MadeFits c) (written k) (coded_node e t ls) a x (coded-fits c t ls a.here may.0 y)

      go : (b : Bool) → same_row t rows.AliasOuter ≡ b → AllMade (MadeFits c) (form_one (written k) (coded_node e t ls) a)
      go true q =
          let o : t ≡ rows.AliasOuter = same_row-true t rows.AliasOuter q in
          let x = alias-formed c st k ls (subst (λ v. fits_together c v ls ≡ true) o may.1) in
          done x.0 (both-and (may_define c t) (fits_together c t a.here) may.0 (subst (λ v. fits_together c v a.here ≡ true) (sym o) x.1.0), subst (λ v. ShapedLeaves a.here (leaves_of v)) (sym o) x.1.1)
      go false q =
          let i : in_kind c t ≡ true = other-defs c t may.0 q in
          let x = rest i in
          done x.0 (both-and (may_define c t) (fits_together c t a.here) may.0 (plain-together c t a.here i), x.1)

  mutual
    defs-fit : (c : ScopeKind) (st : List Scope) (k : ℕ) (ds : Defs) → ShapedDefs ds c → RuleOfDefs e st ds → DefsNamesFit c ds → AllMade (MadeFits c) (form_defs e st k ds)
    defs-fit c st k no_def f r n = tt
    defs-fit c st k (one_def (define names (row t ls)) ds) f r n =
        made-app (MadeFits c) (form_one (written k) (coded_node e t ls) (form_leaves e st k 0 ls)) (form_defs e st (k + 1) ds) (def-fits c st k t ls f.0 (λ i. leaves-fit c st k 0 ls (leaves_of t) f.1 (rows-allowed c t i) r.0 n.3)) (defs-fit c st (k + 1) ds f.2 r.1 n.4)

    leaves-fit : (c : ScopeKind) (st : List Scope) (k u : ℕ) (ls : Leaves) (ss : List Shape) → ShapedLeaves ls ss → all_allowed c ss ≡ true → RuleOfLeaves e st ls → LeavesNamesFit ls
        → Each (MadeFits c) (form_leaves e st k u ls) × ShapedLeaves (form_leaves e st k u ls).here ss
    leaves-fit c st k u no_leaf [] f a r n = ((tt, tt, tt), tt)
    leaves-fit c st k u no_leaf (s ∷ ss) f a r n = absurd f
    leaves-fit c st k u (l ▸ ls) [] f a r n = absurd f
    leaves-fit c st k u (l ▸ ls) (s ∷ ss) f a r n =
        let q = and-both (allowed c s) (all_allowed c ss) a in
        let x = leaf-fits c st k u l s f.0 q.0 r.0 n.0 in
        let y = leaves-fit c st k (u + references_leaf l) ls ss f.1 q.1 r.1 n.1 in
        (each-both (MadeFits c) (λ b bs. b ▸ bs) (form_leaf e st k u l) (form_leaves e st k (u + references_leaf l) ls) x.0 y.0, (x.1, y.1))

    leaf-fits : (c : ScopeKind) (st : List Scope) (k u : ℕ) (l : Leaf) (s : Shape) → ShapedLeaf l s → allowed c s ≡ true → RuleOfLeaf e st l → LeafNamesFit l
        → Each (MadeFits c) (form_leaf e st k u l) × ShapedLeaf (form_leaf e st k u l).here s
    leaf-fits c st k u (core_value v) s f a r n = value-fits c st k u v s f
    leaf-fits c st k u (ref q (index i)) s f a r n = ((tt, tt, tt), f)
    leaf-fits c st k u (ref q (numeral o i)) s f a r n = ((tt, tt, tt), (f.0, tt))
    leaf-fits c st k u (ref q (name v x)) s f a r n =
        let out : leads_out v (denotes st q v x) ≡ true → is_outer_kind c q ≡ true
        = λ h. outer-space c s q a f.0 (subst (λ w. fits_reach s w ≡ true) (reach-outward v (denotes st q v x) h) f.1) in
        (name-fits c st k u q (leads_out v (denotes st q v x)) (denotes st q v x) out, (f.0, tt))
    leaf-fits c st k u (ref q (path p)) s f a r n = ((tt, tt, path-fits c st k u q p (no-path c s q a f.0 r.0)), (f.0, tt))
    leaf-fits c st k u (ref q (inline (row t ls))) s f a r n =
        let i = inline-kind c s t a f.1.0 in
        let x = leaves-fit c st k (u + 1) ls (leaves_of t) f.1.1 (rows-allowed c t i.0) r n.1 in
        let b = (form_leaves e st k (u + 1) ls).here in
        inline-fits c st k u q t (reused st k u t ls) (form_leaves e st k (u + 1) ls) s f.0 x.0 (both-and (may_define c t) (fits_together c t b) i.1 (plain-together c t b i.0), x.1)
    leaf-fits c st k u (ref q (bundle (row t ls))) s f a r n =
        let i = bundle-kind c s q t a f.1.0 in
        let x = leaves-fit c st k (u + 1) ls (leaves_of t) f.1.1 (rows-allowed c t i.0) r n in
        let b = (form_leaves e st k (u + 1) ls).here in
        (each-bundle (MadeFits c) st k u q t (form_leaves e st k (u + 1) ls) x.0 (both-and (may_define c t) (fits_together c t b) i.1 (plain-together c t b i.0), x.1), (f.0, tt))
    leaf-fits c st k u (present l) s f a r n = let x = leaf-fits c st k u l (the_option s) f.1 (option-allowed c s f.0 a) r n in (x.0, (f.0, x.1))
    leaf-fits c st k u (node (row t ls)) s f a r n = let x = leaves-fit c st k u ls (leaves_of t) f.1 (rows-allowed c t (node-kind c s t a f.0)) r n in (x.0, (f.0, x.1))
    leaf-fits c st k u (nodes ns) s f a r n = let x = nodes-fit c st k u ns (rows_of_list s) f.1 (list-kind c s a) r.1 n in (x.0, (f.0, x.1))
    leaf-fits c st k u (scope (scope_of d id label ds)) s f a r n =
        let z : Scope = scope_of d id label ds in (
          (tt, tt, tt),
          (
            f.0,
            made-shaped d _ (made-app (MadeFits d) (form_defs e (z ∷ st) 0 ds) (form_exports (z ∷ st) 0 ds ++ form_names st z (has_names z)) (defs-fit d (z ∷ st) 0 ds f.1 r.1 n)
                (made-app (MadeFits d) (form_exports (z ∷ st) 0 ds) (form_names st z (has_names z)) (exports-fit d (z ∷ st) 0 ds n) (names-fit d st id label ds))),
          ),
        )
    leaf-fits c st k u _ s f a r n = ((tt, tt, tt), f)

    nodes-fit : (c : ScopeKind) (st : List Scope) (k u : ℕ) (ns : Nodes) (ts : List Row) → ShapedNodes ns ts → all (in_kind c) ts ≡ true → RuleOfNodes e st ns → NodesNamesFit ns
        → Each (MadeFits c) (form_nodes e st k u ns) × ShapedNodes (form_nodes e st k u ns).here ts
    nodes-fit c st k u no_node ts f a r n = ((tt, tt, tt), tt)
    nodes-fit c st k u (one_node (row t ls) ns) ts f a r n =
        let x = leaves-fit c st k u ls (leaves_of t) f.1 (rows-allowed c t (among (in_kind c) t ts f.0 a)) r.0 n.0 in
        let y = nodes-fit c st k (u + references ls) ns ts f.2 a r.1 n.1 in
        (each-both (MadeFits c) (λ bs cs. one_node (row t bs) cs) (form_leaves e st k u ls) (form_nodes e st k (u + references ls) ns) x.0 y.0, (f.0, x.1, y.1))

  pub form-fits : (st : List Scope) (s : Scope) → FitsRows s → NamesFit s → ScopeRule e st s → FitsRows (form e st s)
  form-fits st (scope_of c id label ds) f n r =
      let z : Scope = scope_of c id label ds in
      made-shaped c _ (made-app (MadeFits c) (form_defs e (z ∷ st) 0 ds) (form_exports (z ∷ st) 0 ds ++ form_names st z (has_names z)) (defs-fit c (z ∷ st) 0 ds f r.1 n)
      (made-app (MadeFits c) (form_exports (z ∷ st) 0 ds) (form_names st z (has_names z)) (exports-fit c (z ∷ st) 0 ds n) (names-fit c st id label ds)))
