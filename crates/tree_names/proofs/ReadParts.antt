-- What is read of parts, one behind the other.
use Rattle.std.proofs.Common.{◌≡◌, cond, ℕ, zero, suc, ◌+◌, ◌≤◌, refl, sym, ap, ◌∙◌, subst, List, [], ◌∷◌, ◌++◌, length, drop, Option, Some, None, option_map, is_some, Bor, append-nil, append_assoc, arith, inr}
use Rattle.std.proofs.lemmas.List.{nil_from_length}
use Rattle.comp_model.specs.Core as core
use Rattle.comp_model.specs.Core.{Text, counted, named, outward}
use Rattle.comp_model.specs.CoreModules.{CoreModule}
use Rattle.comp_model.specs.Model as m
use Rattle.comp_model.specs.Model.{◌▸◌, no_leaf, no_node, one_node, row}
use Rattle.comp_model.specs.declared.row.Row.{Row}
use Rattle.comp_scopes.specs.Encoding.{Encoding}
use Rattle.comp_scopes.specs.Form.{Made, form_depth}
use Rattle.comp_scopes.specs.Names.{first_of_two}
use Rattle.comp_scopes.specs.References.{references, references_nodes}
use Rattle.comp_scopes.specs.Resolved.{binary_of_leaves, binary_of_nodes}
use Rattle.comp_scopes.specs.Rule.{case_ids}
use Rattle.comp_scopes.specs.Unmet.{Unmet, unmet, outer_component, unmet_cases}
use Rattle.comp_tables.specs.Tables.{Counters, Opened, opened_depth, opened_named, past, past_leaf, past_nodes, needs, needs_nodes}
use Rattle.comp_tables.specs.Built.{missing, missing_leaf, missing_nodes, missing_place}
use Rattle.wast_parser.specs.declared.index.Index.{Index}
use Rattle.wast_tokens.specs.declared.error.Error.{Error}
use Rattle.comp_tree.specs.Model.{index_of, path_of, core_at}
use Rattle.open_scopes.specs.declared.scopes.Open.{Open}
use Rattle.open_scopes.specs.Refusals.{refusal_of}
use Rattle.open_scopes.specs.Shown.{OpenScopesShow}
use Rattle.tree_names.specs.declared.reading.Reading.{Reading}
use Rattle.tree_names.specs.Counted.{Refused}
use Rattle.tree_names.specs.CoreLeaf.{missing_core}
use Rattle.tree_names.specs.AllFound.{all_found, nodes_found}
use Rattle.tree_names.specs.Read.{generated_in, PlaceRead, ReadsFrom, ReadsTo, Needs, ReadPast, LeafRead, LeavesRead, NodesRead}
use Rattle.tree_names.specs.Served.{ServedBy, all_served, leaf_served, nodes_served}
use Rattle.tree_names.specs.Settled.{settled, settled_leaf}
use Rattle.tree_names.proofs.CoreLeaves.{by_core}
use Rattle.tree_names.proofs.Taking.{DenotationsIn, both_taken}

pub empty_path : (i : Index) (ts : List (Bor Text)) → length ts ≤ 0 → path_of i ts ≡ index_of outward i
empty_path i ts h = let n : length ts ≡ 0 = omega (arith, h) in ap (path_of i) (nil_from_length ts n)

pub place_read : (os : List Open) (o : ℕ) (x : core.Id) (d : ℕ) → ((ms : List Opened) (k : ℕ) → OpenScopesShow os ms → Some d ≡ opened_depth ms (named k x)) → PlaceRead os (named o x) d
place_read os o x d h = record {
  known = λ ms w. ap (λ z. cond (is_some z) None (unmet outer_component o)) (sym (h ms o w));
  depth = λ ms w. ap form_depth (h ms o w);
}

-- an id of no open scope is refused
pub place_refused : (ms : List Opened) (o : ℕ) (x : core.Id) → None ≡ opened_depth ms (named o x) → None ≡ option_map refusal_of (missing_place ms (named o x)) → ⊥
place_refused ms o x h k = go (opened_named 0 ms x) h k
  where
    go : (d : Option ℕ) → None ≡ d → None ≡ option_map refusal_of (cond (is_some d) None (unmet outer_component o)) → ⊥
    go None h k = cc
    go (Some n) h k = cc

-- ---- past parts

drop_nil : (m : ℕ) → drop {A = ℕ} m [] ≡ []
drop_nil zero = refl
drop_nil (suc m) = refl

drop_sum : (i m : ℕ) (vs : List ℕ) → drop (i + m) vs ≡ drop m (drop i vs)
drop_sum zero m vs = let z : zero + m ≡ m = omega arith in ap (λ n. drop n vs) z
drop_sum (suc i) m [] = drop_nil (suc i + m) ∙ sym (drop_nil m)
drop_sum (suc i) m (v ∷ vs) = let n : suc i + m ≡ suc (i + m) = omega arith in ap (λ k. drop k (v ∷ vs)) n ∙ drop_sum i m vs

pub first_from : {a : Reading} {c : Counters} (s t more : List (Option ℕ)) → ReadsFrom a c (s ++ t) more → ReadsFrom a c s (t ++ more)
first_from s t more h = record { counts = h.counts; served = h.served ∙ append_assoc s t more }

pub next_from : {a b : Reading} {c : Counters} (t more : List (Option ℕ)) (needs : ℕ → List ℕ → List Made) → ReadsTo a b c (t ++ more) needs → ReadsFrom b c t more
next_from t more needs h = record { counts = h.counts; served = h.served }

module _ {os : List Open} where
  pub read_none : (a : Reading) → length a.counters ≡ 13 → ReadPast os a a (λ ms c. c) 0 (λ ms j vs c. []) (λ ms. []) (λ ms c. []) (λ ms. None)
  read_none a h = record {
    sized = h;
    place = omega arith;
    known = λ ms w. refl;
    taken = λ ms w. refl;
    reads = λ ms c more w q. record { counts = q.counts; served = q.served; needed = λ j vs. sym (append-nil (generated_in j vs a)) };
  }

  module _ {a b c : Reading} {p q : List Opened → Counters → Counters} {m l : ℕ} {n k : Needs} {y z : DenotationsIn} {s t : ServedBy} {u v : List Opened → Option Unmet} (g : ReadPast os a b p m n y s u) (h : ReadPast os b c q l k z t v) where
    -- from the first to the second
    pub between : (ms : List Opened) (x : Counters) (more : List (Option ℕ)) → OpenScopesShow os ms → ReadsFrom a x (s ms x ++ t ms (p ms x)) more → ReadsFrom b (p ms x) (t ms (p ms x)) more
    between ms x more w f = next_from (t ms (p ms x)) more (λ j vs. n ms j vs x) (g.reads ms x (t ms (p ms x) ++ more) w (first_from (s ms x) (t ms (p ms x)) more f))

    pub read_both : ReadPast os a c (λ ms x. q ms (p ms x)) (m + l) (λ ms j vs x. n ms j vs x ++ k ms j (drop m vs) (p ms x)) (λ ms. y ms ++ z ms) (λ ms x. s ms x ++ t ms (p ms x)) (λ ms. first_of_two (u ms) (v ms))
    read_both = record {
      sized = h.sized;
      place = let i : b.place ≡ a.place + m = g.place in let e : c.place ≡ b.place + l = h.place in omega (arith, i, e);
      known = λ ms w. ap (λ o. first_of_two o (v ms)) (g.known ms w) ∙ h.known ms w;
      taken = both_taken os y z a.denotations.left.now b.denotations.left.now c.denotations.left.now g.taken h.taken;
      reads = λ ms x more w f.
          let one : ReadsTo a b (p ms x) (t ms (p ms x) ++ more) (λ j vs. n ms j vs x) = g.reads ms x (t ms (p ms x) ++ more) w (first_from (s ms x) (t ms (p ms x)) more f) in
          let two : ReadsTo b c (q ms (p ms x)) more (λ j vs. k ms j vs (p ms x)) = h.reads ms (p ms x) more w (between ms x more w f) in
          record {
            counts = two.counts;
            served = two.served;
            needed = λ j vs.
                two.needed j vs
                ∙ ap (λ zs. zs ++ k ms j (drop b.place vs) (p ms x)) (one.needed j vs)
                ∙ ap (λ ws. (generated_in j vs a ++ n ms j (drop a.place vs) x) ++ k ms j ws (p ms x)) (ap (λ i. drop i vs) g.place ∙ drop_sum a.place m vs)
                ∙ append_assoc (generated_in j vs a) (n ms j (drop a.place vs) x) (k ms j (drop m (drop a.place vs)) (p ms x));
          };
    }

-- ---- leaves and nodes

module _ (e : Encoding) (os : List Open) where
  pub same_read : (a b : Reading) (l k r q : m.Leaf) → l ≡ k → r ≡ q → LeafRead e os a b k q → LeafRead e os a b l r
  same_read a b l k r q x y h = subst (λ z. LeafRead e os a b z r) (sym x) (subst (λ z. LeafRead e os a b k z) (sym y) h)

  pub same_refused : (l k : m.Leaf) (x : Error) → l ≡ k → Refused os (λ ms. missing_leaf e ms k) x → Refused os (λ ms. missing_leaf e ms l) x
  same_refused l k x y h = subst (λ z. Refused os (λ ms. missing_leaf e ms z) x) (sym y) h

  -- a leaf that stays what it is
  pub kept_read : (a : Reading) (l k : m.Leaf) → l ≡ k → LeafRead e os a a k k → LeafRead e os a a l l
  kept_read a l k x h = subst (λ z. LeafRead e os a a z z) (sym x) h

  pub present_read : (a b : Reading) (l r : m.Leaf) → LeafRead e os a b l r → LeafRead e os a b (m.present l) (m.present r)
  present_read a b l r h = record { past = h.past; resolved = h.resolved; here = λ ms c more w f. ap m.present (h.here ms c more w f) }

  pub node_read : (a b : Reading) (t : Row) (ls rs : m.Leaves) → LeavesRead e os a b ls rs → LeafRead e os a b (m.node (row t ls)) (m.node (row t rs))
  node_read a b t ls rs h = record { past = h.past; resolved = h.resolved; here = λ ms c more w f. ap (λ z. m.node (row t z)) (h.here ms c more w f) }

  pub nodes_read : (a b : Reading) (ns rs : m.Nodes) → NodesRead e os [] a b ns rs → LeafRead e os a b (m.nodes ns) (m.nodes rs)
  nodes_read a b ns rs h = record { past = h.past; resolved = h.resolved; here = λ ms c more w f. ap m.nodes (h.here ms c more w f) }

  pub core_is_read : (C : List CoreModule) (n : ℕ) (l : m.Leaf) (a : Reading) → length a.counters ≡ 13 → l ≡ core_at C n → missing_core e (core_at C n) ≡ None → LeafRead e os a a l l
  core_is_read C n l a h x k =
      subst (λ z. LeafRead e os a a z z) (sym x)
      (by_core (λ z. missing_core e z ≡ None → LeafRead e os a a z z)
      (λ q. record { past = read_none a h; resolved = tt; here = λ ms c more w f. refl })
      (λ source q. record {
        past = record {
          sized = h;
          place = omega arith;
          known = λ ms w. q;
          taken = λ ms w. refl;
          reads = λ ms c more w f. record { counts = f.counts; served = f.served; needed = λ j vs. sym (append-nil (generated_in j vs a)) };
        };
        resolved = tt;
        here = λ ms c more w f. refl;
      }) C n k)

  pub core_refused : (C : List CoreModule) (n : ℕ) (l : m.Leaf) (x : Error) → l ≡ core_at C n → option_map refusal_of (missing_core e (core_at C n)) ≡ Some x → Refused os (λ ms. missing_leaf e ms l) x
  core_refused C n l x h k =
      same_refused l (core_at C n) x h (inr (λ ms w. ap (option_map refusal_of) (by_core (λ z. missing_leaf e ms z ≡ missing_core e z) refl (λ c. refl) C n) ∙ k))

  pub leaves_more : (a b c : Reading) (l r : m.Leaf) (ls rs : m.Leaves) → LeafRead e os a b l r → LeavesRead e os b c ls rs → LeavesRead e os a c (l ▸ ls) (r ▸ rs)
  leaves_more a b c l r ls rs g h = record {
    past = read_both g.past h.past;
    resolved = (g.resolved, h.resolved);
    here = λ ms x more w f.
        ap (λ z. z ▸ binary_of_leaves e rs) (g.here ms x (all_served ms ls (past_leaf ms l x) ++ more) w (first_from (leaf_served ms l x) (all_served ms ls (past_leaf ms l x)) more f))
        ∙ ap (λ z. settled_leaf e ms l x ▸ z) (h.here ms (past_leaf ms l x) more w (between g.past h.past ms x more w f));
  }

  pub leaves_none : (a : Reading) → length a.counters ≡ 13 → LeavesRead e os a a no_leaf no_leaf
  leaves_none a h = record { past = read_none a h; resolved = tt; here = λ ms c more w f. refl }

  pub nodes_none : (earlier : List core.Id) (a : Reading) → length a.counters ≡ 13 → NodesRead e os earlier a a no_node no_node
  nodes_none earlier a h = record { past = read_none a h; resolved = tt; here = λ ms c more w f. refl }

  pub nodes_more : (earlier : List core.Id) (a b c : Reading) (t : Row) (ls rs : m.Leaves) (ns ps : m.Nodes) → unmet_cases earlier (case_ids ls) ≡ None → LeavesRead e os a b ls rs → NodesRead e os (case_ids ls ++ earlier) b c ns ps
      → NodesRead e os earlier a c (one_node (row t ls) ns) (one_node (row t rs) ps)
  nodes_more earlier a b c t ls rs ns ps k g h =
      let both : ReadPast os a c (λ ms x. past_nodes ms ns (past ms ls x)) (references ls + references_nodes ns) (λ ms j vs x. needs ms j vs ls x ++ needs_nodes ms j (drop (references ls) vs) ns (past ms ls x)) (λ ms. all_found ms ls ++ nodes_found ms ns)
      (λ ms x. all_served ms ls x ++ nodes_served ms ns (past ms ls x)) (λ ms. first_of_two (missing e ms ls) (missing_nodes e ms (case_ids ls ++ earlier) ns)) = read_both g.past h.past in
      record {
        past = record {
          sized = both.sized;
          place = both.place;
          known = λ ms w. ap (λ z. first_of_two z (first_of_two (missing e ms ls) (missing_nodes e ms (case_ids ls ++ earlier) ns))) k ∙ both.known ms w;
          taken = both.taken;
          reads = both.reads;
        };
        resolved = (g.resolved, h.resolved);
        here = λ ms x more w f.
            ap (λ z. one_node (row t z) (binary_of_nodes e ps)) (g.here ms x (nodes_served ms ns (past ms ls x) ++ more) w (first_from (all_served ms ls x) (nodes_served ms ns (past ms ls x)) more f))
            ∙ ap (one_node (row t (settled e ms ls x))) (h.here ms (past ms ls x) more w (between g.past h.past ms x more w f));
      }

pub none_unmet : (u : Option Unmet) → None ≡ option_map refusal_of u → u ≡ None
none_unmet None h = refl
none_unmet (Some a) h = absurd (cc)
