-- A generated name leads to its own scope.
use Rattle.std.proofs.Common.{◌≡◌, ℕ, Bool, false, cond, List, [], ◌∷◌, slice_get, Option, Some, None, IsSome, refl, sym, ◌∙◌, ap, subst}
use Rattle.comp_model.specs.declared.Space.{Space}
use Rattle.comp_model.specs.declared.row.Row.{Row}
use Rattle.comp_model.specs.Core.{Text, Id, outward, own}
use Rattle.comp_model.specs.Model.{Leaves, Names, Defs, Scope, scope_of, defs_of}
use Rattle.comp_model.specs.declared.row.ScopeKind.{ScopeKind}
use Rattle.comp_model.specs.Spaces.{declares_row}
use Rattle.comp_model.specs.Origins.{Origin, written, inline_type, bundle_of, inline_export, export_step, outer_alias_of, name_section}
use Rattle.comp_scopes.specs.Names.{first_of_two, denotes}
use Rattle.comp_scopes.specs.Signatures.{is_module_type}
use Rattle.comp_scopes.specs.Outward.{leads_out}
use Rattle.comp_scopes.specs.Reused.{reused}
use Rattle.comp_expanded.specs.Expansion.{Naming, given, given_to_scope, the_id, generated_reach, id_of_mark, first_id, ids_at, generated_names, Entry, Expanded, entry, expand_exports, expand_defs, expand_list}
use Rattle.comp_expanded.specs.Named.{IsGenerated, InlineNamed}
use Rattle.comp_expanded.proofs.Stacks.{expand_stack, AllNamed}
use Rattle.comp_expanded.proofs.Ids.{EachListed, each-left}
use Rattle.comp_expanded.proofs.Ready.{In, in-self, entry-found, found-generated_reach}
use Rattle.comp_expanded.proofs.ScopeOf.{ids-of, first-found}
use Rattle.comp_expanded.proofs.Listed.{Stood, reused-stood}

module _ (g : Naming) (kd : ScopeKind) (id : Option Id) (label : Option Text) (ds : Defs) (gs : List Naming) (st : List Scope)
    (all : AllNamed (g ∷ gs) (scope_of kd id label ds ∷ st)) where
  abbrev c : Scope
  c = scope_of kd id label ds

  abbrev L : List Entry
  L = expand_list g c

  abbrev su : List Scope
  su = expand_stack (g ∷ gs) (c ∷ st)

  abbrev pub Near : Space → Id → Type 0
  Near s x = leads_out (generated_reach c) (denotes su s (generated_reach c) x) ≡ false

  -- of a definition of the list
  abbrev pub Leads : Bool → Space → Id → Type 0
  Leads b s x = leads_out (cond b own outward) (denotes su s (cond b own outward) x) ≡ false

  pub entry-near : (b : Bool) (p : ℕ) (x : Entry) (y : Id) (ids : List (Option Id)) (s : Space) (ss : List Space) → slice_get L p ≡ Some x → x.names.ids ≡ Some y ∷ ids → declares_row x.head x.leaves ≡ s ∷ ss → Leads b s y
  entry-near b p x y ids s ss e i d = found-generated_reach kd (first_of_two id (given_to_scope g)) label L (expand_stack gs st) b s y (entry-found 0 p L x y ids s ss e i d)

  pub own-near : (o : Origin) (t : Row) (a : Expanded Leaves) (y : Option Id) (s : Space) → In L (entry o (generated_names y) t a) → IsGenerated y → declares_row t a.here ≡ s ∷ [] → Near s (the_id y)
  own-near o t a None s m h d = absurd h
  own-near o t a (Some y) s m h d = entry-near (is_module_type kd) m.0 (entry o (generated_names (Some y)) t a) y [] s [] m.1 refl d

  defs-in : EachListed (In L) (expand_defs g c 0 ds)
  defs-in = each-left (In L) (expand_defs g c 0 ds) (expand_exports g 0 ds) (in-self L)

  -- a written definition
  pub written-near : (b : Bool) (j : ℕ) (ns : Names) (t : Row) (ls : Leaves) (s : Space) (ss : List Space) → Rattle.comp_expanded.proofs.ScopeOf.def_at ds j ≡ Some (Rattle.comp_model.specs.Model.define ns (Rattle.comp_model.specs.Model.row t ls)) → declares_row t ls ≡ s ∷ ss → IsSome (first_id (ids_at ds j) (given g (written j)))
      → Leads b s (the_id (first_id (ids_at ds j) (given g (written j))))
  written-near b j ns t ls s ss e d n =
      let f : (p : ℕ) × (x : Entry) × (rest : List (Option Id)) × (slice_get L p ≡ Some x) × (x.names.ids ≡ Some (the_id (first_id (ids_at ds j) (given g (written j)))) ∷ rest) × (declares_row x.head x.leaves ≡ declares_row t ls) × (x.origin ≡ written j) = first-found g c L ds j ns t ls defs-in e n in
      entry-near b f.0 f.1 (the_id (first_id (ids_at ds j) (given g (written j)))) f.2 s ss f.3 f.4 (f.5 ∙ d)

  stood-near : (k u : ℕ) (s : Space) (o : Origin) → Stood g c L s o → InlineNamed g c k u (Some o) (Unit {0}) → Near s (id_of_mark g c o)
  stood-near k u s (written j) h n = written-near (is_module_type kd) j h.0 h.1 h.2 s [] h.3 h.4 n
  stood-near k u s (inline_type j v) h n = go (given g (inline_type j v)) h.4 h.5
    where
      go : (y : Option Id) → h.1.names ≡ generated_names y → IsGenerated y → Near s (the_id y)
      go None e i = absurd i
      go (Some y) e i = entry-near (is_module_type kd) h.0 h.1 y [] s [] h.2 (ap (λ (ns : Names). ns.ids) e) h.6
  stood-near k u s (bundle_of j v) h n = absurd h
  stood-near k u s (inline_export j v) h n = absurd h
  stood-near k u s (export_step j v i) h n = absurd h
  stood-near k u s (outer_alias_of j v) h n = absurd h
  stood-near k u s name_section h n = absurd h

  -- what is reused
  pub again-near : (k u : ℕ) (t : Row) (ls : Leaves) (o : Origin) (s : Space) → reused (c ∷ []) k u t ls ≡ Some o → InlineNamed g c k u (Some o) (Unit {0}) → declares_row t ls ≡ s ∷ [] → Near s (id_of_mark g c o)
  again-near k u t ls o s e n d =
      let r : (v : Space) × (declares_row t ls ≡ v ∷ []) × Stood g c L v o = reused-stood g c L all.0.2.0 defs-in k u t ls o e in
      let q : r.0 ≡ s = head-same r.0 s (sym r.1 ∙ d) in
      subst (λ v. Near v (id_of_mark g c o)) q (stood-near k u r.0 o r.2 n)
    where
      head-same : (v w : Space) → v ∷ [] ≡ w ∷ [] → v ≡ w
      head-same v w h = cc
