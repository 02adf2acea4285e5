-- Stacks that are no shorter than they were, and their ends.
use Rattle.std.proofs.Common.{◌≡◌, suc, ◌≤◌, arith, refl, ap, sym, subst, ◌∙◌, List, [], ◌∷◌, ◌++◌, ◌+◌, length, map, length-append}
use Rattle.std.specs.Prelude.{option_map}
use Rattle.comp_model.specs.CoreModules.{CoreModule, Field}
use Rattle.text_rules.specs.Made.{Made, join}
use Rattle.comp_tree.specs.Model.{id_of, lent_text}
use Rattle.comp_tree.specs.Lists.{node_of, def_of}
use Rattle.tree_build.specs.AllEnds.{AtEnds, HasEnds, IsAtEnds}
use Rattle.tree_build.specs.Ends.{AtDefEnds, HasDefEnds, IsAtDefEnds}
use Rattle.tree_build.specs.Held.{held, loose}
use Rattle.tree_build.specs.declared.rare.Ends.{Ends}
use Rattle.tree_build.specs.declared.scratch.Scratch.{Scratch}
use Rattle.tree_build.specs.declared.definitions.DefEnds.{DefEnds}

length_map : {A B : Type 0} (f : A → B) (xs : List A) → length (map f xs) ≡ length xs
length_map f [] = refl
length_map f (x ∷ xs) = ap suc (length_map f xs)

-- as many stand in the model
pub same_length : {A B : Type 0} (f : A → B) (xs ys : List A) → ys ≡ xs → length (map f xs) ≡ length ys
same_length f xs ys e = length_map f xs ∙ ap length (sym e)

pub def_ends : (fs : List (List Field)) (cs : List CoreModule) (n : DefEnds) (p : Scratch) → AtDefEnds n p → IsAtDefEnds n (held fs cs p)
def_ends fs cs n p h = record {
  rows = sym h.rows;
  leaves = length_map (loose fs cs) p.leaves.items ∙ sym h.leaves;
  ids = length_map (option_map id_of) p.ids.items ∙ sym h.ids;
  labels = length_map (option_map lent_text) p.labels.items ∙ sym h.labels;
  exports = length_map lent_text p.exports.items ∙ sym h.exports;
  places = sym h.places;
}

pub all_ends : (fs : List (List Field)) (cs : List CoreModule) (n : Ends) (p : Scratch) → AtEnds n p → IsAtEnds n (held fs cs p)
all_ends fs cs n p h = record {
  rows = sym h.rows;
  leaves = length_map (loose fs cs) p.leaves.items ∙ sym h.leaves;
  nodes = length_map (node_of cs) p.nodes.items ∙ sym h.nodes;
  ids = length_map (option_map id_of) p.ids.items ∙ sym h.ids;
  labels = length_map (option_map lent_text) p.labels.items ∙ sym h.labels;
  exports = length_map lent_text p.exports.items ∙ sym h.exports;
  places = sym h.places;
  defs = length_map (def_of cs) p.defs.items ∙ sym h.defs;
}

longer : {A B : Type 0} (f : A → B) (xs ys : List A) (zs : List B) → map f ys ≡ map f xs ++ zs → length xs ≤ length ys
longer f xs ys zs e =
    let l : length ys ≡ length xs + length zs = sym (length_map f ys) ∙ (ap length e ∙ (length-append (map f xs) zs ∙ ap (λ n. n + length zs) (length_map f xs))) in
    omega (arith, l)

longer_here : {A : Type 0} (xs ys zs : List A) → ys ≡ xs ++ zs → length xs ≤ length ys
longer_here xs ys zs e = let l : length ys ≡ length xs + length zs = ap length e ∙ length-append xs zs in omega (arith, l)

-- no list is shorter
pub record Longer (p q : Scratch) : Type 0 where
  pub rows : length p.rows.items ≤ length q.rows.items
  pub leaves : length p.leaves.items ≤ length q.leaves.items
  pub nodes : length p.nodes.items ≤ length q.nodes.items
  pub ids : length p.ids.items ≤ length q.ids.items
  pub labels : length p.labels.items ≤ length q.labels.items
  pub exports : length p.exports.items ≤ length q.exports.items
  pub places : length p.places.items ≤ length q.places.items
  pub defs : length p.defs.items ≤ length q.defs.items

pub longer_by : (fs : List (List Field)) (cs : List CoreModule) (p q : Scratch) (m : Made) → held fs cs q ≡ join (held fs cs p) m → Longer p q
longer_by fs cs p q m e = record {
  rows = longer_here p.rows.items q.rows.items m.rows (ap (λ (x : Made). x.rows) e);
  leaves = longer (loose fs cs) p.leaves.items q.leaves.items m.leaves (ap (λ (x : Made). x.leaves) e);
  nodes = longer (node_of cs) p.nodes.items q.nodes.items m.nodes (ap (λ (x : Made). x.nodes) e);
  ids = longer (option_map id_of) p.ids.items q.ids.items m.ids (ap (λ (x : Made). x.ids) e);
  labels = longer (option_map lent_text) p.labels.items q.labels.items m.labels (ap (λ (x : Made). x.labels) e);
  exports = longer lent_text p.exports.items q.exports.items m.exports (ap (λ (x : Made). x.exports) e);
  places = longer_here p.places.items q.places.items m.places (ap (λ (x : Made). x.places) e);
  defs = longer (def_of cs) p.defs.items q.defs.items m.defs (ap (λ (x : Made). x.defs) e);
}

pub has_def_ends : (n : DefEnds) (p q : Scratch) → AtDefEnds n p → Longer p q → HasDefEnds n q
has_def_ends n p q h l = record { leaves = subst (λ k. k ≤ length q.leaves.items) (sym h.leaves) l.leaves; ids = subst (λ k. k ≤ length q.ids.items) (sym h.ids) l.ids; labels = subst (λ k. k ≤ length q.labels.items) (sym h.labels) l.labels; exports = subst (λ k. k ≤ length q.exports.items) (sym h.exports) l.exports }

pub has_ends : (n : Ends) (p q : Scratch) → AtEnds n p → Longer p q → HasEnds n q
has_ends n p q h l = record {
  rows = subst (λ k. k ≤ length q.rows.items) (sym h.rows) l.rows;
  leaves = subst (λ k. k ≤ length q.leaves.items) (sym h.leaves) l.leaves;
  nodes = subst (λ k. k ≤ length q.nodes.items) (sym h.nodes) l.nodes;
  ids = subst (λ k. k ≤ length q.ids.items) (sym h.ids) l.ids;
  labels = subst (λ k. k ≤ length q.labels.items) (sym h.labels) l.labels;
  exports = subst (λ k. k ≤ length q.exports.items) (sym h.exports) l.exports;
  places = subst (λ k. k ≤ length q.places.items) (sym h.places) l.places;
  defs = subst (λ k. k ≤ length q.defs.items) (sym h.defs) l.defs;
}

-- an end that was one stays one
pub still_there : {A : Type 0} (xs ys zs : List A) → zs ≡ xs → length xs ≤ length ys → length zs ≤ length ys
still_there xs ys zs e h = subst (λ k. length k ≤ length ys) (sym e) h
