-- Names, paths and core value types of a form agree with the text's.
use Rattle.comp_scopes.proofs.Aliases.{SharedAlias, shared-alias}
use Rattle.std.proofs.Common.{◌≡◌, ℕ, Bool, true, false, ◌&&◌, nat_eq, is_some, List, [], ◌∷◌, slice_get, Option, Some, None, refl, sym, ◌∙◌, subst}
use Rattle.std.proofs.lemmas.Bool.{eqb-true}
use Rattle.comp_model.specs.declared.Space.{Space}
use Rattle.comp_model.specs.declared.Space.TheVariants.{CoreType}
use Rattle.comp_model.specs.Core.{Id, same_id, counted, Reach, outward, own, CoreValue, i32, i64, f32, f64, v128, ref_func, ref_extern, ref_index, ref_numeral, ref_name}
use Rattle.comp_model.specs.Model.{core_value, Path, root_number, root_name, export_of, Scope}
use Rattle.comp_model.specs.Origins.{Origin, written, outer_alias_of, export_step}
use Rattle.comp_scopes.specs.Encoding.{Encoding}
use Rattle.comp_scopes.specs.Names.{Denoted, denotes, scope_named}
use Rattle.comp_scopes.specs.References.{steps, instance_space}
use Rattle.comp_scopes.specs.Rule.{Reached, RootStands, RuleOfLeaf}
use Rattle.comp_scopes.specs.Signatures.{same_bool, same_reach, same_written_value}
use Rattle.comp_scopes.specs.Outward.{served, leads_out}
use Rattle.comp_scopes.specs.Plan.{marks, before, item_index}
use Rattle.comp_scopes.specs.Form.{Made, make, form_alias, form_name, form_path, path_index, root_index, step_node, form_depth, form_value, alias_node, built}
use Rattle.comp_scopes.specs.Rowed.{AllRowed, LeafRowed}
use Rattle.comp_scopes.specs.Renders.{AllMade, item, binary_at, LeadsTo, PathIs, ValueAgrees, built_stack}
use Rattle.comp_scopes.proofs.Formed.{step-declares}
use Rattle.comp_scopes.proofs.Lookup.{the_item, Sits, made-left, made-right, built-item, denoted-written, denotes-depth, leads_out-outward, leads-plain, leads-alias}
use Rattle.comp_scopes.proofs.Each.{Each}
use Rattle.comp_scopes.proofs.Same.{id-name, denotes-same, depth_of_reach-same, reached-same}
use Rattle.comp_scopes.proofs.Among.{and-both}

pub place-agrees : (st : List Scope) (x : Id) (o : Option ℕ) → scope_named 0 st x ≡ o → is_some o ≡ true → (d : ℕ) × (form_depth o ≡ counted 0 d) × (scope_named 0 st x ≡ Some d)
place-agrees st x None e h = absurd (cc)
place-agrees st x (Some d) e h = (d, refl, e)

some-of : {A : Type 0} (o : Option A) → is_some o ≡ true → (a : A) × (o ≡ Some a)
some-of None h = absurd (cc)
some-of (Some a) h = (a, refl)

module _ (e : Encoding) where
  -- by the alias of that item with the mark q
  by-alias : (st : List Scope) (c : Scope) (s : Space) (r : Reach) (x : Id) (a : Denoted) (q : Origin) (k u : ℕ) → AllRowed (c ∷ st) → denotes (c ∷ st) s r x ≡ Some a → leads_out r (Some a) ≡ true
      → q ≡ outer_alias_of k u → Sits (built e st c) (make q (alias_node a.depth s (item_index (c ∷ st) s a)))
      → LeadsTo (c ∷ st) (built_stack e (c ∷ st)) s r x (before s q (marks (c ∷ st)))
  by-alias st c s r x a q k u w g f z n =
      let v : (p : ℕ) × (m : Made) × (slice_get (binary_at (built_stack e (c ∷ st)) a.depth) p ≡ Some m) × (m.origin ≡ written a.item.definition)
      × (item (binary_at (built_stack e (c ∷ st)) a.depth) s (item_index (c ∷ st) s a) ≡ Some (the_item s p a.item.part)) = denoted-written e (c ∷ st) s r x a w g in
      let m : Made = make q (alias_node a.depth s (item_index (c ∷ st) s a)) in
      let i : item (built e st c) s (before s q (marks (c ∷ st))) ≡ Some (the_item s n.0 0) = built-item e st c n.0 m s n.1 refl in
      let o : r ≡ outward = leads_out-outward r a f in record {
        denoted = a;
        reached = record { depth = a.depth; item = the_item s v.0 a.item.part };
        depth = 0;
        denotes_it = g;
        counts_there = rw o refl;
        leads_there = leads-alias e (built_stack e (c ∷ st)) s (before s q (marks (c ∷ st))) (item_index (c ∷ st) s a) k u a.depth (the_item s n.0 0) (the_item s v.0 a.item.part) m i n.1 z refl v.4;
        same_depth = refl;
        same_part = refl;
        found = v.1;
        stands = v.2;
        is_written = v.3;
      }

  -- by its own alias, or by that of an earlier name
  alias-leads : (st : List Scope) (c : Scope) (k u : ℕ) (s : Space) (r : Reach) (x : Id) (a : Denoted) (o : Option Origin) → AllRowed (c ∷ st) → denotes (c ∷ st) s r x ≡ Some a → leads_out r (Some a) ≡ true
      → served (c ∷ st) k u s a ≡ o → Each (Sits (built e st c)) (form_alias (c ∷ st) k u s a o)
      → LeadsTo (c ∷ st) (built_stack e (c ∷ st)) s r x (form_alias (c ∷ st) k u s a o).here
  alias-leads st c k u s r x a None w g f z n = by-alias st c s r x a (outer_alias_of k u) k u w g f refl n.2.0
  alias-leads st c k u s r x a (Some q) w g f z n =
      let v : SharedAlias e st c s a q = shared-alias e st c k u s a q z in
      by-alias st c s r x a q v.0 v.1 w g f v.2 v.3

  -- a name
  pub name-leads : (st : List Scope) (c : Scope) (k u : ℕ) (s : Space) (r : Reach) (x : Id) (a : Denoted) (b : Bool) → AllRowed (c ∷ st) → denotes (c ∷ st) s r x ≡ Some a → leads_out r (Some a) ≡ b
      → Each (Sits (built e st c)) (form_name (c ∷ st) k u s b (Some a))
      → LeadsTo (c ∷ st) (built_stack e (c ∷ st)) s r x (form_name (c ∷ st) k u s b (Some a)).here
  name-leads st c k u s r x a false w g f n =
      let v : (p : ℕ) × (m : Made) × (slice_get (binary_at (built_stack e (c ∷ st)) a.depth) p ≡ Some m) × (m.origin ≡ written a.item.definition)
      × (item (binary_at (built_stack e (c ∷ st)) a.depth) s (item_index (c ∷ st) s a) ≡ Some (the_item s p a.item.part)) = denoted-written e (c ∷ st) s r x a w g in record {
        denoted = a;
        reached = record { depth = a.depth; item = the_item s v.0 a.item.part };
        depth = a.depth;
        denotes_it = g;
        counts_there = denotes-depth (c ∷ st) s r x a g f;
        leads_there = leads-plain e (built_stack e (c ∷ st)) a.depth s (item_index (c ∷ st) s a) a.item.definition (the_item s v.0 a.item.part) v.1 v.4 v.2 v.3;
        same_depth = refl;
        same_part = refl;
        found = v.1;
        stands = v.2;
        is_written = v.3;
      }
  name-leads st c k u s r x a true w g f n = alias-leads st c k u s r x a (served (c ∷ st) k u s a) w g f refl n

  pub name-agrees : (st : List Scope) (c : Scope) (k u : ℕ) (s : Space) (r : Reach) (x : Id) (o : Option Denoted) → AllRowed (c ∷ st) → denotes (c ∷ st) s r x ≡ o → Reached r s o
      → Each (Sits (built e st c)) (form_name (c ∷ st) k u s (leads_out r o) o)
      → LeadsTo (c ∷ st) (built_stack e (c ∷ st)) s r x (form_name (c ∷ st) k u s (leads_out r o) o).here
  name-agrees st c k u s r x None w g h n = absurd h
  name-agrees st c k u s r x (Some a) w g h n = name-leads st c k u s r x a (leads_out r (Some a)) w g refl n

  -- a path
  pub root-agrees : (st : List Scope) (c : Scope) (k u : ℕ) (s : Space) (x : Id) (o : Option Denoted) → AllRowed (c ∷ st) → denotes (c ∷ st) s own x ≡ o → is_some o ≡ true
      → LeadsTo (c ∷ st) (built_stack e (c ∷ st)) s own x (root_index (c ∷ st) s o)
  root-agrees st c k u s x None w g h = absurd (cc)
  root-agrees st c k u s x (Some a) w g h = name-leads st c k u s own x a false w g refl (tt, tt, tt)

  pub path-agrees : (st : List Scope) (c : Scope) (k u : ℕ) (s : Space) (p : Path) → AllRowed (c ∷ st) → RootStands (c ∷ st) s p → AllMade (Sits (built e st c)) (form_path (c ∷ st) k u s p)
      → PathIs (c ∷ st) (built_stack e (c ∷ st)) s p (path_index (c ∷ st) k u s p)
  path-agrees st c k u s (root_number o n) w r h = refl
  path-agrees st c k u s (root_name x) w r h = root-agrees st c k u s x (denotes (c ∷ st) s own x) w refl r
  path-agrees st c k u s (export_of p t) w r h =
      let m : Made = make (export_step k u (steps p)) (step_node (path_index (c ∷ st) k u (instance_space s) p) t s) in
      let mine : Sits (built e st c) m = (made-right (Sits (built e st c)) (form_path (c ∷ st) k u (instance_space s) p) (m ∷ []) h).0 in
      record {
        declaration = the_item s mine.0 0;
        found = m;
        index = path_index (c ∷ st) k u (instance_space s) p;
        declared = built-item e st c mine.0 m s mine.1 (step-declares (path_index (c ∷ st) k u (instance_space s) p) t s);
        stands = mine.1;
        is_step = tt;
        is_alias = refl;
        fact = path-agrees st c k u (instance_space s) p w r (made-left (Sits (built e st c)) (form_path (c ∷ st) k u (instance_space s) p) (m ∷ []) h);
      }

  -- a core value type
  pub value-agrees : (st : List Scope) (c : Scope) (k u : ℕ) (v : CoreValue) → AllRowed (c ∷ st) → LeafRowed (core_value v) → RuleOfLeaf e (c ∷ st) (core_value v) → Each (Sits (built e st c)) (form_value (c ∷ st) k u v)
      → ValueAgrees (c ∷ st) (built_stack e (c ∷ st)) v (form_value (c ∷ st) k u v).here
  value-agrees st c k u (ref_index b i) w f h n = f
  value-agrees st c k u (ref_name b r x) w f h n =
      record { part = (form_name (c ∷ st) k u CoreType (leads_out r (denotes (c ∷ st) CoreType r x)) (denotes (c ∷ st) CoreType r x)).here; is_leaf = refl; fact = name-agrees st c k u CoreType r x (denotes (c ∷ st) CoreType r x) w refl h n }
  value-agrees st c k u v w f h n = refl

  -- the same index for a name that is equal as written
  pub leads-same : (st : List Scope) (bst : List (List Made)) (s : Space) (r q : Reach) (x y : Id) (i : ℕ) → same_reach r q ≡ true → same_id x y ≡ true → LeadsTo st bst s r x i → LeadsTo st bst s q y i
  leads-same st bst s r q x y i a b h =
      record {
        denoted = h.denoted;
        reached = h.reached;
        depth = h.depth;
        denotes_it = sym (denotes-same st s r q x y a (id-name x y b)) ∙ h.denotes_it;
        counts_there = sym (depth_of_reach-same st r q a) ∙ h.counts_there;
        leads_there = h.leads_there;
        same_depth = h.same_depth;
        same_part = h.same_part;
        found = h.found;
        stands = h.stands;
        is_written = h.is_written;
      }

  same_bool-true : (a b : Bool) → same_bool a b ≡ true → a ≡ b
  same_bool-true true b h = sym h
  same_bool-true false true h = absurd (cc)
  same_bool-true false false h = refl

  -- a core value type w that is equal as written to v, where v stands in the form
  pub same_value-agrees : (st : List Scope) (c : Scope) (k u : ℕ) (v w : CoreValue) → AllRowed (c ∷ st) → same_written_value v w ≡ true → RuleOfLeaf e (c ∷ st) (core_value w) → Each (Sits (built e st c)) (form_value (c ∷ st) k u v)
      → ValueAgrees (c ∷ st) (built_stack e (c ∷ st)) w (form_value (c ∷ st) k u v).here
  same_value-agrees st c k u i32 i32 a q h n = refl
  same_value-agrees st c k u i64 i64 a q h n = refl
  same_value-agrees st c k u f32 f32 a q h n = refl
  same_value-agrees st c k u f64 f64 a q h n = refl
  same_value-agrees st c k u v128 v128 a q h n = refl
  same_value-agrees st c k u (ref_func b) (ref_func d) a q h n = let z : b ≡ d = same_bool-true b d q in rw z refl
  same_value-agrees st c k u (ref_extern b) (ref_extern d) a q h n = let z : b ≡ d = same_bool-true b d q in rw z refl
  same_value-agrees st c k u (ref_numeral b o i) (ref_numeral d p j) a q h n =
      let t : (same_bool b d ≡ true) × (nat_eq i j ≡ true) = and-both _ _ q in
      let z : b ≡ d = same_bool-true b d t.0 in let y : i ≡ j = eqb-true i j t.1 in rw (z, y) refl
  same_value-agrees st c k u (ref_name b r x) (ref_name d p y) a q h n =
      let t : (same_bool b d ≡ true) × ((same_reach r p && same_id x y) ≡ true) = and-both _ _ q in
      let t' : (same_reach r p ≡ true) × (same_id x y ≡ true) = and-both _ _ t.1 in
      let z : b ≡ d = same_bool-true b d t.0 in
      let i : ℕ = (form_name (c ∷ st) k u CoreType (leads_out r (denotes (c ∷ st) CoreType r x)) (denotes (c ∷ st) CoreType r x)).here in
      let mine : Reached r CoreType (denotes (c ∷ st) CoreType r x) = subst (Reached r CoreType) (sym (denotes-same (c ∷ st) CoreType r p x y t'.0 (id-name x y t'.1))) (reached-same CoreType r p (denotes (c ∷ st) CoreType p y) t'.0 h) in
      record {
        part = (form_name (c ∷ st) k u CoreType (leads_out r (denotes (c ∷ st) CoreType r x)) (denotes (c ∷ st) CoreType r x)).here;
        is_leaf = rw z refl;
        fact = leads-same (c ∷ st) (built_stack e (c ∷ st)) CoreType r p x y (form_name (c ∷ st) k u CoreType (leads_out r (denotes (c ∷ st) CoreType r x)) (denotes (c ∷ st) CoreType r x)).here t'.0 t'.1
            (name-agrees st c k u CoreType r x (denotes (c ∷ st) CoreType r x) a refl mine n);
      }
  same_value-agrees st c k u v w a q h n = absurd (cc)
