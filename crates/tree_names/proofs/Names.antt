-- Names and paths among all open scopes that are shown.
use Rattle.std.proofs.Common.{◌≡◌, ℕ, ◌+◌, ◌≤◌, ◌<◌, refl, sym, ap, ◌∙◌, subst, Bool, true, false, cond, nat_lt, List, [], ◌∷◌, ◌++◌, length, map, take, take_all, suc, min, Option, Some, None, option_map, Bor, arith, append-nil, append_assoc, inr}
use Rattle.std.specs.Prelude.{get_or}
use Rattle.std.proofs.lemmas.List.{map-append, length-take}
use Rattle.std.proofs.Math.Seq.{take-suc}
use Rattle.comp_model.specs.declared.Space.{Space}
use Rattle.comp_model.specs.Core.{Text, Id, counted, named, Reach, outward, own, at_place}
use Rattle.comp_model.specs.Model.{Path, root_name, export_of}
use Rattle.comp_model.specs.Origins.{outer_alias_of, export_step}
use Rattle.comp_scopes.specs.Form.{Made, make, alias_node, step_node}
use Rattle.comp_scopes.specs.Names.{Denoted}
use Rattle.comp_scopes.specs.Outward.{leads_out}
use Rattle.comp_scopes.specs.Unmet.{unmet, unknown, outer_count}
use Rattle.comp_scopes.specs.References.{steps, instance_space}
use Rattle.comp_tables.specs.Tables.{Counters, Opened, found, alias_of, past_name, past_path, found_name_index, found_root_index, found_path_index, alias_needs, name_needs, path_needs, index_at}
use Rattle.comp_tables.specs.Built.{missing_name}
use Rattle.wast_parser.specs.declared.index.Index.{Index}
use Rattle.wast_parser.specs.declared.index.Index.TheVariants as index
use Rattle.comp_tree.specs.Model.{root_of, path_from}
use Rattle.open_scopes.specs.declared.lookup.Found.{Found}
use Rattle.open_scopes.specs.declared.scopes.Open.{Open}
use Rattle.open_scopes.specs.Refusals.{refusal_of}
use Rattle.open_scopes.specs.Shown.{OpenScopesShow, found_of}
use Rattle.wast_tokens.specs.declared.error.Error.{Error}
use Rattle.tree_names.specs.declared.denotations.Denotations.{Denotations}
use Rattle.tree_names.specs.AllFound.{name_found, FoundTaken}
use Rattle.tree_names.specs.Counted.{RefusedBy, Refused}
use Rattle.tree_names.specs.declared.generated.Generated.TheVariants.{Outer}
use Rattle.tree_names.specs.declared.reading.Reading.{Reading}
use Rattle.tree_names.specs.Generated.{number_at, generated_made}
use Rattle.tree_names.specs.Read.{generated_in, outer_needs, NameRead, PathRead, OuterMade, OuterBy, OuterRead, StepMade, ReadsFrom}
use Rattle.tree_names.specs.Served.{name_served}
use Rattle.tree_names.proofs.Paths.{inner_twice, from_more}

-- ---- a name that leads out

some_found : (d : Option Denoted) (f : Found) → Some f ≡ option_map found_of d → (a : Denoted) × (d ≡ Some a) × (f ≡ found_of a)
some_found None f h = absurd (cc)
some_found (Some a) f h = (a, refl, cc)

there : (ms : List Opened) (r : Reach) (x : Id) (a : Denoted) → missing_name ms r x (Some a) ≡ None
there ms outward x a = refl
there ms own x a = refl
there ms (at_place (counted o d)) x a = refl
there ms (at_place (named o y)) x a = refl

-- what is nowhere is refused
pub always_refused : (ms : List Opened) (r : Reach) (x : Id) → None ≡ option_map refusal_of (missing_name ms r x None) → ⊥
always_refused ms outward x h = cc
always_refused ms own x h = cc
always_refused ms (at_place (counted o d)) x h = go (nat_lt d (length ms)) h
  where
    go : (b : Bool) → None ≡ option_map refusal_of (cond b (unmet unknown x.offset) (unmet outer_count o)) → ⊥
    go true h = cc
    go false h = cc
always_refused ms (at_place (named o y)) x h = cc

pub root_refused : (ms : List Opened) (s : Space) (x : Id) → None ≡ name_found ms s own x → missing_name ms own x (found ms s own x) ≡ None → ⊥
root_refused ms s x h k = go (found ms s own x) h k
  where
    go : (d : Option Denoted) → None ≡ option_map found_of d → missing_name ms own x d ≡ None → ⊥
    go None h k = cc
    go (Some a) h k = cc

pub nothing : (d : Option Denoted) → None ≡ option_map found_of d → d ≡ None
nothing None h = refl
nothing (Some a) h = absurd (cc)

-- a name for which nothing was found is refused
pub none_read : (os : List Open) (s : Space) (r : Reach) (x : Id) (e : Error) → ((ms : List Opened) → OpenScopesShow os ms → None ≡ name_found ms s r x) → RefusedBy os (λ ms. missing_name ms r x None) e → Refused os (λ ms. missing_name ms r x (found ms s r x)) e
none_read os s r x e h k = inr (λ ms w. ap (λ d. option_map refusal_of (missing_name ms r x d)) (nothing (found ms s r x) (h ms w)) ∙ k ms w)

-- one for which this was found, with its index, and what is left then
module _ (os : List Open) (s : Space) (r : Reach) (x : Id) (old : Reading) (f : Found) (k : ℕ) (rest : Denotations) (what : (ms : List Opened) → OpenScopesShow os ms → Some f ≡ name_found ms s r x)
    (at : (ms : List Opened) (d : Denoted) → OpenScopesShow os ms → f ≡ found_of d → k ≡ index_at ms d) (taken : FoundTaken os (λ ms. name_found ms s r x ∷ []) old.denotations.left.now rest.left.now) (served : rest.served ≡ old.denotations.served) where
  denoted : (ms : List Opened) → OpenScopesShow os ms → (a : Denoted) × (found ms s r x ≡ Some a) × (f ≡ found_of a)
  denoted ms w = some_found (found ms s r x) f (what ms w)

  is_known : (ms : List Opened) → OpenScopesShow os ms → missing_name ms r x (found ms s r x) ≡ None
  is_known ms w = let d = denoted ms w in ap (missing_name ms r x) d.1 ∙ there ms r x d.0

  abbrev Served : List Opened → Counters → List (Option ℕ)
  Served ms c = name_served s (leads_out r (found ms s r x)) (found ms s r x) c

  -- what hangs on whether it leads out, and on what it denotes
  as_it_is : {A : Type 0} (F : Bool → Option Denoted → A) (b : Bool) → ((d : Option Denoted) → Some f ≡ option_map found_of d → b ≡ leads_out r d) → (ms : List Opened) (w : OpenScopesShow os ms)
      → F (leads_out r (found ms s r x)) (found ms s r x) ≡ F b (Some (denoted ms w).0)
  as_it_is F b is ms w = ap (λ z. F z (found ms s r x)) (sym (is (found ms s r x) (what ms w))) ∙ ap (F b) (denoted ms w).1

  -- it leads out
  module _ (out : (d : Option Denoted) → Some f ≡ option_map found_of d → true ≡ leads_out r d) (new : Reading) (i : ℕ) where
    outer_is : (ms : List Opened) (w : OpenScopesShow os ms) (j u : ℕ) (a : Option ℕ) → outer_needs a j u f.depth s k ≡ alias_needs ms j u s (denoted ms w).0 a
    outer_is ms w j u (Some n) = refl
    outer_is ms w j u None =
        let d = denoted ms w in
        ap (λ (y : ℕ). make (outer_alias_of j u) (alias_node f.depth s y) ∷ []) (at ms d.0 w d.2) ∙ ap (λ (g : Found). make (outer_alias_of j u) (alias_node g.depth s (index_at ms d.0)) ∷ []) d.2

    module _ (m : OuterRead s f.depth k (record { counters = old.counters; place = old.place; generated = old.generated; denotations = rest }) new i) where
      out_by : (ms : List Opened) (c : Counters) (more : List (Option ℕ)) (w : OpenScopesShow os ms) → ReadsFrom old c (Served ms c) more
          → OuterBy (alias_of s (denoted ms w).0 c.aliases) more s f.depth k (record { counters = old.counters; place = old.place; generated = old.generated; denotations = rest }) new i
      out_by ms c more w h =
          m.by (alias_of s (denoted ms w).0 c.aliases) more
          (ap (λ (z : Bor (List (Option ℕ))). z.now) served ∙ h.served ∙ ap (λ z. z ++ more) (as_it_is (λ b d. name_served s b d c) true out ms w))

      pub outer_read : NameRead os s r x old new i
      outer_read = record {
        past = record {
          sized = m.sized;
          place = m.place;
          known = is_known;
          taken = λ ms w. taken ms w ∙ ap (λ (z : Bor (List (Option Found))). name_found ms s r x ∷ z.now) (sym m.left);
          reads = λ ms c more w h. record {
            counts = (out_by ms c more w h).counts (denoted ms w).0 c h.counts ∙ sym (as_it_is (λ b d. (past_name s b d c).counts) true out ms w);
            served = (out_by ms c more w h).served;
            needed = λ j vs.
                (out_by ms c more w h).needed j vs
                ∙ ap (λ z. generated_in j vs old ++ z) (outer_is ms w j (number_at vs old.place) (alias_of s (denoted ms w).0 c.aliases) ∙ sym (as_it_is (λ b d. name_needs ms j (number_at vs old.place) s b d c) true out ms w));
          };
        };
        index = λ ms c more w h. (out_by ms c more w h).index c h.counts ∙ sym (as_it_is (λ b d. found_name_index ms s b d c) true out ms w);
      }

  -- or it doesn't
  module _ (own : (d : Option Denoted) → Some f ≡ option_map found_of d → false ≡ leads_out r d) (place : ℕ) where
    pub own_read : length old.counters ≡ 13 → place ≡ old.place + 1 → NameRead os s r x old (record { counters = old.counters; place = place; generated = old.generated; denotations = rest }) k
    own_read n q = record {
      past = record {
        sized = n;
        place = q;
        known = is_known;
        taken = taken;
        reads = λ ms c more w h. record {
          counts = h.counts ∙ sym (as_it_is (λ b d. (past_name s b d c).counts) false own ms w);
          served = ap (λ (z : Bor (List (Option ℕ))). z.now) served ∙ h.served ∙ ap (λ z. z ++ more) (as_it_is (λ b d. name_served s b d c) false own ms w);
          needed = λ j vs. sym (append-nil (generated_in j vs old)) ∙ ap (λ z. generated_in j vs old ++ z) (sym (as_it_is (λ b d. name_needs ms j (number_at vs old.place) s b d c) false own ms w));
        };
      };
      index = λ ms c more w h. at ms (denoted ms w).0 w (denoted ms w).2 ∙ sym (as_it_is (λ b d. found_name_index ms s b d c) false own ms w);
    }

-- ---- a name that leads out: an alias that serves it, or its own

module _ (s : Space) (d k : ℕ) (old : Reading) (rest : Denotations) (y : Option ℕ) (left : rest.left ≡ old.denotations.left)
    (next : (first : Option ℕ) (more : List (Option ℕ)) → old.denotations.served.now ≡ first ∷ more → (y ≡ first) × (rest.served.now ≡ more)) where
  pub outer_served : (i place : ℕ) → y ≡ Some i → length old.counters ≡ 13 → place ≡ old.place + 1 → OuterRead s d k old (record { counters = old.counters; place = place; generated = old.generated; denotations = rest }) i
  outer_served i place some n q = record {
    sized = n;
    place = q;
    left = left;
    by = λ a more e.
        let there : (y ≡ a) × (rest.served.now ≡ more) = next a more e in
        subst (λ z. OuterBy z more s d k old (record { counters = old.counters; place = place; generated = old.generated; denotations = rest }) i) (sym some ∙ there.0)
        (record { counts = λ x c h. h; served = there.1; needed = λ j vs. sym (append-nil (generated_in j vs old)); index = λ c h. refl });
  }

  pub outer_own : (i : ℕ) (new : Reading) → y ≡ None → OuterMade s d k (record { counters = old.counters; place = old.place; generated = old.generated; denotations = rest }) new i → OuterRead s d k old new i
  outer_own i new none m = record {
    sized = m.sized;
    place = m.place;
    left = ap (λ (z : Denotations). z.left) m.denotations ∙ left;
    by = λ a more e.
        let there : (y ≡ a) × (rest.served.now ≡ more) = next a more e in
        subst (λ z. OuterBy z more s d k old new i) (sym none ∙ there.0) (record {
          counts = λ x c h. m.counts c h;
          served = ap (λ (z : Denotations). z.served.now) m.denotations ∙ there.1;
          needed = λ j vs. ap (map (generated_made (number_at vs) j)) m.needed ∙ map-append (generated_made (number_at vs) j) old.generated.items (Outer d s k old.place ∷ []);
          index = λ c h. m.index ∙ ap (λ (z : Space → ℕ). z s) h;
        });
  }

-- ---- paths

pub root_index : (os : List Open) (s : Space) (x : Id) (f : Found) (k : ℕ) → ((ms : List Opened) → OpenScopesShow os ms → Some f ≡ name_found ms s own x) → ((ms : List Opened) (d : Denoted) → OpenScopesShow os ms → f ≡ found_of d → k ≡ index_at ms d)
    → (ms : List Opened) (c : Counters) → OpenScopesShow os ms → k ≡ found_path_index ms s (root_name x) c
root_index os s x f k what at ms c w = let d = some_found (found ms s own x) f (what ms w) in at ms d.0 w d.2 ∙ ap (found_root_index ms) (sym d.1)

root_past : (s : Space) (i : Index) (c : Counters) → past_path s (root_of i) c ≡ c
root_past s (index.Num n p) c = refl
root_past s (index.Id x) c = refl

root_needs : (ms : List Opened) (j u : ℕ) (s : Space) (i : Index) (c : Counters) → path_needs ms j u s (root_of i) c ≡ []
root_needs ms j u s (index.Num n p) c = refl
root_needs ms j u s (index.Id x) c = refl

pub root_steps : (i : Index) → steps (root_of i) ≡ 0
root_steps (index.Num n p) = refl
root_steps (index.Id x) = refl

pub path_start : (os : List Open) (s : Space) (q : Index) (old : Reading) (i : ℕ) → length old.counters ≡ 13 → ((ms : List Opened) (c : Counters) → OpenScopesShow os ms → i ≡ found_path_index ms s (root_of q) c) → PathRead os s (root_of q) old old i
path_start os s q old i h k = record {
  sized = h;
  counts = λ c e. e ∙ ap (λ (z : Counters). z.counts) (sym (root_past s q c));
  place = refl;
  needed = λ ms c j vs w e. sym (append-nil (generated_in j vs old)) ∙ ap (λ zs. generated_in j vs old ++ zs) (sym (root_needs ms j (number_at vs old.place) s q c));
  index = λ ms c w e. k ms c w;
}

abbrev step_made : Text → Space → ℕ → ℕ → ℕ → ℕ → List Made
step_made t s j u k i = make (export_step j u k) (step_node i t s) ∷ []

pub path_more : (os : List Open) (s : Space) (p : Path) (t : Text) (n : ℕ) (old mid new : Reading) (i k : ℕ) → PathRead os (instance_space s) p old mid i → StepMade s i t n mid new k → n ≡ steps p → PathRead os s (export_of p t) old new k
path_more os s p t n old mid new i k a m e =
    record {
      sized = m.sized;
      counts = λ c h. m.counts (past_path (instance_space s) p c) (a.counts c h);
      place = m.place ∙ a.place;
      needed = λ ms c j vs w h.
          m.needed j vs ∙ ap (λ zs. zs ++ step_made t s j (number_at vs mid.place) n i) (a.needed ms c j vs w h)
          ∙ ap (λ (u : ℕ). (generated_in j vs old ++ path_needs ms j (number_at vs old.place) (instance_space s) p c) ++ step_made t s j (number_at vs u) n i) a.place
          ∙ ap (λ (u : ℕ). (generated_in j vs old ++ path_needs ms j (number_at vs old.place) (instance_space s) p c) ++ step_made t s j (number_at vs old.place) u i) e
          ∙ ap (λ (u : ℕ). (generated_in j vs old ++ path_needs ms j (number_at vs old.place) (instance_space s) p c) ++ step_made t s j (number_at vs old.place) (steps p) u) (a.index ms c w h)
          ∙ append_assoc (generated_in j vs old) (path_needs ms j (number_at vs old.place) (instance_space s) p c) (step_made t s j (number_at vs old.place) (steps p) (found_path_index ms (instance_space s) p c));
      index = λ ms c w h. m.index ∙ ap (λ (z : Space → ℕ). z s) (a.counts c h);
    }

pub steps_behind : (p : Path) (ts : List (Bor Text)) → steps (path_from p ts) ≡ steps p + length ts
steps_behind p [] = omega arith
steps_behind p (t ∷ ts) = let e : steps (path_from (export_of p t.now) ts) ≡ (steps p + 1) + length ts = steps_behind (export_of p t.now) ts in omega (arith, e)

min_left : (m n : ℕ) → m ≤ n → min m n ≡ m
min_left m n h = omega (arith, h)

pub steps_so_far : (i : Index) (ts : List (Bor Text)) (n : ℕ) → n ≤ length ts → n ≡ steps (path_from (root_of i) (take n ts))
steps_so_far i ts n h =
    let a : steps (path_from (root_of i) (take n ts)) ≡ steps (root_of i) + length (take n ts) = steps_behind (root_of i) (take n ts) in
    let b : steps (root_of i) ≡ 0 = root_steps i in
    let c : length (take n ts) ≡ n = length-take n ts ∙ min_left n (length ts) h in
    omega (arith, a, b, c)

module _ (os : List Open) (s : Space) (q : Index) (ts : List (Bor Text)) (j : ℕ) (old mid new : Reading) (i k : ℕ) (d : Bor Text) where
  pub steps_inner : (u : Space) → PathRead os (instance_space s) (path_from (root_of q) (take j ts)) old mid i → u ≡ instance_space s → StepMade u i (get_or ts j d).now j mid new k → j < length ts
      → PathRead os (instance_space s) (path_from (root_of q) (take (j + 1) ts)) old new k
  steps_inner u a e m h =
      let n : j + 1 ≡ suc j = omega arith in
      let p : path_from (root_of q) (take (j + 1) ts) ≡ export_of (path_from (root_of q) (take j ts)) (get_or ts j d).now = ap (λ (z : ℕ). path_from (root_of q) (take z ts)) n ∙ ap (path_from (root_of q)) (take-suc ts j d h) ∙ from_more (root_of q) (take j ts) (get_or ts j d) in
      subst (λ z. PathRead os (instance_space s) z old new k) (sym p)
      (path_more os (instance_space s) (path_from (root_of q) (take j ts)) (get_or ts j d).now j old mid new i k
      (subst (λ z. PathRead os z (path_from (root_of q) (take j ts)) old mid i) (sym (inner_twice s)) a) (subst (λ z. StepMade z i (get_or ts j d).now j mid new k) e m) (steps_so_far q ts j (omega (arith, h))))

  pub steps_last : PathRead os (instance_space s) (path_from (root_of q) (take j ts)) old mid i → StepMade s i (get_or ts j d).now j mid new k → j < length ts → length ts ≡ j + 1
      → PathRead os s (path_from (root_of q) ts) old new k
  steps_last a m h l =
      let p : path_from (root_of q) ts ≡ export_of (path_from (root_of q) (take j ts)) (get_or ts j d).now = ap (path_from (root_of q)) (sym (take_all (suc j) ts (omega (arith, l))) ∙ take-suc ts j d h) ∙ from_more (root_of q) (take j ts) (get_or ts j d) in
      subst (λ z. PathRead os s z old new k) (sym p) (path_more os s (path_from (root_of q) (take j ts)) (get_or ts j d).now j old mid new i k a m (steps_so_far q ts j (omega (arith, h))))

-- from where the root is found, it is what it is from its start
pub from_start : (os : List Open) (s : Space) (p : Path) (old new : Reading) (rest : Denotations) (i : ℕ) → PathRead os s p (record { counters = old.counters; place = old.place; generated = old.generated; denotations = rest }) new i → PathRead os s p old new i
from_start os s p old new rest i h = record { sized = h.sized; counts = h.counts; place = h.place; needed = h.needed; index = h.index }
