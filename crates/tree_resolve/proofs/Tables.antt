-- What is counted of a definition is what the tables count.
use Rattle.std.proofs.Common.{◌≡◌, ℕ, ◌+◌, ◌≤◌, ◌<◌, ◌^◌, refl, sym, ap, ◌∙◌, subst, List, [], ◌∷◌, ◌++◌, length, drop, append-nil, append_assoc, Option, get_or}
use Rattle.std.proofs.lemmas.List.{drop_more}
use Rattle.std.proofs.Math.ListN.{drop_of_length-le}
use Rattle.comp_model.specs.declared.Space.{Space}
use Rattle.comp_model.specs.CoreModules.{CoreModule}
use Rattle.comp_model.specs.Model as m
use Rattle.comp_model.specs.Spaces.{declares}
use Rattle.comp_scopes.specs.Names.{first_of_two}
use Rattle.comp_tables.specs.Tables.{Counters, Opened, no_counts, advanced, first_index, past, counted_table, unmet_kinds, unmet_kinds_defs}
use Rattle.comp_tables.specs.Walks.{counters_in, all_more}
use Rattle.comp_tables.proofs.Counters.{list-advanced}
use Rattle.comp_tree.specs.declared.tree.Def.{Def}
use Rattle.comp_tree.specs.Lists.{listed, def_of, defs_listed}
use Rattle.open_scopes.specs.declared.scopes.Open.{Open}
use Rattle.open_scopes.specs.Aliases.{AliasesShow}
use Rattle.open_scopes.specs.Shown.{OpenScopesShow}
use Rattle.wast_tokens.specs.declared.error.Error.{Error}
use Rattle.tree_names.specs.declared.sums.Sums.{Sums}
use Rattle.tree_names.specs.Counted.{Refused, SumsShow, Summed, LeavesCounted}
use Rattle.tree_names.specs.Served.{all_served, defs_served}
use Rattle.tree_names.proofs.Counting.{first_refused, then_refused}
use Rattle.tree_resolve.specs.Tabled.{bare, DefCounted, TableFits, TabledUpTo, Tabled}

-- the first index hangs on the counts alone
first-counted : (ss : List Space) (counts : List ℕ) (c : Counters) → counters_in counts ≡ c.counts → first_index ss (bare counts) ≡ first_index ss c
first-counted [] counts c h = refl
first-counted (s ∷ ss) counts c h = ap (λ (f : Space → ℕ). f s) h

pub def_counted : (C : List CoreModule) (os : List Open) (d : Def) (start mid end : Sums) (old new : List ℕ) (spaces : List Space) (i : ℕ) → LeavesCounted os start mid (listed C d.node.leaves.now) → spaces ≡ declares (def_of C d)
    → i ≡ first_index spaces (bare mid.counters) → i + length spaces < 2 ^ 32 → new ≡ old ++ i ∷ [] → end.counters ≡ all_more mid.counters spaces → end.aliases ≡ mid.aliases → end.served ≡ mid.served → DefCounted C os start end old new d
def_counted C os d start mid end old new spaces i h e f k t a b v =
    record {
      sized = ap length a ∙ (list-advanced mid.counters spaces (bare mid.counters) h.sized refl).0;
      index = i;
      table = t;
      small = subst (λ ss. i + length ss < 2 ^ 32) e k;
      summed = λ ms c w x.
          let s = h.summed ms c w x in
          record {
            shown = record {
              counts = ap counters_in a ∙ (list-advanced mid.counters spaces (past ms (listed C d.node.leaves.now) c) h.sized s.shown.counts).1 ∙ ap (λ ss. (advanced ss (past ms (listed C d.node.leaves.now) c)).counts) e;
              aliases = subst (λ z. AliasesShow z (past ms (listed C d.node.leaves.now) c).aliases) (sym b) s.shown.aliases;
            };
            served = λ more. ap (λ z. z.items ++ more) v ∙ s.served more;
          };
      first = λ ms c w x. f ∙ first-counted spaces mid.counters (past ms (listed C d.node.leaves.now) c) (h.summed ms c w x).shown.counts ∙ ap (λ ss. first_index ss (past ms (listed C d.node.leaves.now) c)) e;
      known = h.known;
    }

module _ (C : List CoreModule) (os : List Open) (all : List Def) where
  pub table_start : (sums : Sums) (table : List ℕ) → length sums.counters ≡ 13 → SumsShow sums no_counts → sums.served.items ≡ [] → table ≡ [] → TabledUpTo C os sums table all all
  table_start sums table z h v e = record {
    sized = z;
    front = λ ms. no_counts;
    shown = λ ms w. h;
    served = λ ms w. ap (λ z. z ++ defs_served ms (defs_listed C all) no_counts) v;
    indices = λ ms w. ap (λ z. z ++ counted_table ms no_counts (defs_listed C all)) e;
    fits = λ T k. subst (λ z. TableFits (z ++ T) (defs_listed C all)) (sym e) k;
    known = λ h. h;
    refused = λ x h. h;
  }

  next-left : (n : ℕ) (d : Def) → n < length all → d ≡ get_or all n d → drop n all ≡ d ∷ drop (n + 1) all
  next-left n d h a = drop_more all n d h ∙ ap (λ z. z ∷ drop (n + 1) all) (sym a)

  pub table_step : (sums after : Sums) (table new : List ℕ) (n : ℕ) (d : Def) → n < length all → d ≡ get_or all n d → DefCounted C os sums after table new d → TabledUpTo C os sums table all (drop n all) → TabledUpTo C os after new all (drop (n + 1) all)
  table_step sums after table new n d h a g k =
      let l : TabledUpTo C os sums table all (d ∷ drop (n + 1) all) = subst (λ z. TabledUpTo C os sums table all z) (next-left n d h a) k in
      let behind : List Opened → Counters = λ ms. advanced (declares (def_of C d)) (past ms (listed C d.node.leaves.now) (l.front ms)) in
      record {
        sized = g.sized;
        front = behind;
        shown = λ ms w. (g.summed ms (l.front ms) w (l.shown ms w)).shown;
        served = λ ms w. (g.summed ms (l.front ms) w (l.shown ms w)).served (defs_served ms (defs_listed C (drop (n + 1) all)) (behind ms)) ∙ l.served ms w;
        indices = λ ms w.
            ap (λ z. z ++ counted_table ms (behind ms) (defs_listed C (drop (n + 1) all))) g.table
            ∙ append_assoc table (g.index ∷ []) (counted_table ms (behind ms) (defs_listed C (drop (n + 1) all)))
            ∙ ap (λ (i : ℕ). table ++ i ∷ counted_table ms (behind ms) (defs_listed C (drop (n + 1) all))) (g.first ms (l.front ms) w (l.shown ms w))
            ∙ l.indices ms w;
        fits = λ T r. subst (λ z. TableFits z (defs_listed C all)) (sym (append_assoc table (g.index ∷ []) T) ∙ ap (λ z. z ++ T) (sym g.table)) (l.fits (g.index ∷ T) (g.small, r));
        known = λ r. l.known (λ ms w. ap (λ z. first_of_two z (unmet_kinds_defs ms (defs_listed C (drop (n + 1) all)))) (g.known ms w) ∙ r ms w);
        refused = λ x r. l.refused x (then_refused os (λ ms. unmet_kinds ms (listed C d.node.leaves.now)) (λ ms. unmet_kinds_defs ms (defs_listed C (drop (n + 1) all))) x g.known r);
      }

  pub table_refused : (sums : Sums) (table : List ℕ) (n : ℕ) (d : Def) (x : Error) → n < length all → d ≡ get_or all n d → Refused os (λ ms. unmet_kinds ms (listed C d.node.leaves.now)) x → TabledUpTo C os sums table all (drop n all)
      → Refused os (λ ms. unmet_kinds_defs ms (defs_listed C all)) x
  table_refused sums table n d x h a g k =
      let l : TabledUpTo C os sums table all (d ∷ drop (n + 1) all) = subst (λ z. TabledUpTo C os sums table all z) (next-left n d h a) k in
      l.refused x (first_refused os (λ ms. unmet_kinds ms (listed C d.node.leaves.now)) (λ ms. unmet_kinds_defs ms (defs_listed C (drop (n + 1) all))) x g)

  pub table_end : (sums : Sums) (table : List ℕ) (n : ℕ) → length all ≤ n → TabledUpTo C os sums table all (drop n all) → Tabled C os table sums.served.items all
  table_end sums table n h k =
      let l : TabledUpTo C os sums table all [] = subst (λ z. TabledUpTo C os sums table all z) (drop_of_length-le all h) k in
      record {
        indices = λ ms w. sym (append-nil table) ∙ l.indices ms w;
        serving = λ ms w. sym (append-nil sums.served.items) ∙ l.served ms w;
        fits = subst (λ z. TableFits z (defs_listed C all)) (append-nil table) (l.fits [] tt);
        known = l.known (λ ms w. refl);
      }
