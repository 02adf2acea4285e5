-- A list of definitions, one after the other.
use Rattle.std.proofs.Common.{◌≡◌, ℕ, suc, zero, ◌+◌, ◌≤◌, ◌<◌, refl, sym, ap, ◌∙◌, subst, Bool, true, false, ◌||◌, List, [], ◌∷◌, ◌++◌, append-nil, append_assoc, length, drop, get_or, Option, arith}
use Rattle.std.proofs.lemmas.List.{drop_more}
use Rattle.std.proofs.Math.ListN.{drop_of_length-le}
use Rattle.std.proofs.Math.Bool.{or_assoc}
use Rattle.comp_model.specs.CoreModules.{CoreModule}
use Rattle.comp_model.specs.ItemNames.{part_names, any_named}
use Rattle.comp_model.specs.Model as m
use Rattle.comp_model.specs.NameMaps.{ItemName}
use Rattle.comp_model.specs.declared.Space.{Space}
use Rattle.comp_model.specs.Spaces.{declares_row, count_items}
use Rattle.comp_scopes.specs.Encoding.{Encoding}
use Rattle.comp_scopes.specs.Names.{first_of_two}
use Rattle.comp_scopes.specs.Rowed.{DefsRowed, LeavesRowed}
use Rattle.comp_expanded.specs.IsExpanded.{DefsExpanded, LeavesExpanded}
use Rattle.comp_tables.specs.Tables.{Counters, Opened, no_counts, advanced, past}
use Rattle.comp_tables.specs.Built.{missing_roots, missing, missing_defs}
use Rattle.comp_tables.specs.InText.{text_defs}
use Rattle.comp_tables.specs.Walks.{counters_in}
use Rattle.comp_wire.specs.Origins.{origin_of}
use Rattle.wast_tokens.specs.declared.error.Error.{Error}
use Rattle.comp_tree.specs.declared.tree.Def.{Def}
use Rattle.comp_tree.specs.Lists.{listed, defs_listed}
use Rattle.comp_tree.specs.Marks.{places_in, inside_listed, marks_listed}
use Rattle.open_scopes.specs.declared.scopes.Open.{Open}
use Rattle.open_scopes.specs.Shown.{OpenScopesShow}
use Rattle.open_scopes.proofs.Stacks.{some-shown}
use Rattle.tree_names.specs.Counted.{Refused}
use Rattle.tree_names.specs.Served.{all_served, defs_served, ServedFirst}
use Rattle.tree_names.proofs.Counting.{first_refused, then_refused}
use Rattle.tree_resolve.specs.Alone.{Sole, DefsAlone, LeavesAlone}
use Rattle.tree_resolve.specs.ListNames.{item_names, names_counted, names_tabled, any_in}
use Rattle.tree_resolve.specs.Made.{mades, text_one, own_names, BuiltBy, DefBuilt}
use Rattle.tree_resolve.specs.Tabled.{ServedAll}
use Rattle.tree_resolve.specs.ScopeResolved.{DefsLeft, DefsResolvedTo}

or-none : (b : Bool) → (b || false) ≡ b
or-none true = refl
or-none false = refl

-- ---- what is asked of a list is asked of each of its definitions

pub expanded-at : (C : List CoreModule) (ds : List Def) (n : ℕ) (d : Def) → n < length ds → d ≡ get_or ds n d → DefsExpanded (defs_listed C ds) → ((own_names d).exports ≡ []) × LeavesExpanded (listed C d.node.leaves.now)
expanded-at C [] n d h a k = absurd (omega (arith, h))
expanded-at C (x ∷ ds) zero d h a k = subst (λ y. ((own_names y).exports ≡ []) × LeavesExpanded (listed C y.node.leaves.now)) (sym a) (k.0, k.1)
expanded-at C (x ∷ ds) (suc n) d h a k = expanded-at C ds n d (omega (arith, h)) a k.2

pub alone-at : (C : List CoreModule) (ds : List Def) (n : ℕ) (d : Def) → n < length ds → d ≡ get_or ds n d → DefsAlone (defs_listed C ds) → Sole (listed C d.node.leaves.now) × LeavesAlone (listed C d.node.leaves.now)
alone-at C [] n d h a k = absurd (omega (arith, h))
alone-at C (x ∷ ds) zero d h a k = subst (λ y. Sole (listed C y.node.leaves.now) × LeavesAlone (listed C y.node.leaves.now)) (sym a) k.0
alone-at C (x ∷ ds) (suc n) d h a k = alone-at C ds n d (omega (arith, h)) a k.1

pub rowed-at : (C : List CoreModule) (ds : List Def) (n : ℕ) (d : Def) → n < length ds → d ≡ get_or ds n d → DefsRowed (defs_listed C ds) → LeavesRowed (listed C d.node.leaves.now)
rowed-at C [] n d h a k = absurd (omega (arith, h))
rowed-at C (x ∷ ds) zero d h a k = subst (λ y. LeavesRowed (listed C y.node.leaves.now)) (sym a) k.3
rowed-at C (x ∷ ds) (suc n) d h a k = rowed-at C ds n d (omega (arith, h)) a k.4

-- ---- the loop

module _ (e : Encoding) (C : List CoreModule) (os : List Open) (all : List Def) where
  pub defs-start : (counts : List ℕ) (served : List (Option ℕ)) (list : List Def) → length counts ≡ 13 → counters_in counts ≡ no_counts.counts → ServedAll os (λ ms. defs_served ms (defs_listed C all) no_counts) served → list ≡ [] → DefsLeft e C os counts served all all list
  defs-start counts served list z h v q = subst (DefsLeft e C os counts served all all) (sym q) (record {
    sized = z;
    front = λ ms. no_counts;
    counted = λ ms w. h;
    left = v;
    made = λ ms w. refl;
    items = λ s. sym (ap (λ (k : Space → ℕ). k s) h);
    named = λ ms s w. refl;
    any = refl;
    resolved = tt;
    known = λ k. k;
    refused = λ x k. k;
  })

  module _ (counts : List ℕ) (served : List (Option ℕ)) (n : ℕ) (this : Def) (now : List Def) (h : n < length all) (a : this ≡ get_or all n this) (k : DefsLeft e C os counts served all (drop n all) now) where
    abbrev ls : m.Leaves
    ls = listed C this.node.leaves.now

    abbrev rest : List Def
    rest = drop (n + 1) all

    abbrev here : DefsLeft e C os counts served all (this ∷ rest) now
    here = subst (λ z. DefsLeft e C os counts served all z now) (drop_more all n this h ∙ ap (λ z. z ∷ rest) (sym a)) k

    -- the counters and the aliases behind it
    abbrev behind-this : List Opened → Counters
    behind-this ms = advanced (declares_row this.node.row ls) (past ms ls (here.front ms))

    pub def-served : ServedFirst os counts (λ ms. all_served ms ls) served
    def-served ms w = (here.front ms, defs_served ms (defs_listed C rest) (behind-this ms), here.counted ms w, here.left ms w)

    pub defs-step : (new : List Def) (behind : List ℕ) (left : List (Option ℕ)) → DefBuilt e C os counts served this now new behind left → DefsLeft e C os behind left all rest new
    defs-step new behind left b =
        let by : (ms : List Opened) → OpenScopesShow os ms → BuiltBy e C ms (here.front ms) this now new behind = λ ms w. b.by ms (here.front ms) (defs_served ms (defs_listed C rest) (behind-this ms)) w (here.counted ms w) (here.left ms w) in
        let at : (ms : List Opened) (w : OpenScopesShow os ms) (s : Space) → count_items s (defs_listed C now) ≡ (here.front ms).counts s = λ ms w s. here.items s ∙ ap (λ (f : Space → ℕ). f s) (here.counted ms w) in
        record {
          sized = b.sized;
          front = behind-this;
          counted = λ ms w. (by ms w).counts;
          left = λ ms w. b.taken ms (here.front ms) (defs_served ms (defs_listed C rest) (behind-this ms)) w (here.counted ms w) (here.left ms w);
          made = λ ms w.
              ap (λ z. z ++ text_defs e ms (behind-this ms) (defs_listed C rest) (marks_listed C rest)) (by ms w).grown
              ∙ append_assoc (mades e C now) (text_one e ms (here.front ms) (origin_of this.origin) (places_in C this) (inside_listed C this.node.leaves.now) this.node.row ls) (text_defs e ms (behind-this ms) (defs_listed C rest) (marks_listed C rest))
              ∙ here.made ms w;
          items = λ s. let some = some-shown os in (by some.0 some.1).items s (at some.0 some.1 s);
          named = λ ms s w.
              let names : List ItemName = item_names s ((past ms ls (here.front ms)).counts s) 0 (own_names this).ids (own_names this).labels (declares_row this.node.row ls) in
              ap (λ z. z ++ names_tabled ms s (behind-this ms) (defs_listed C rest)) ((by ms w).named s (at ms w s))
              ∙ append_assoc (names_counted s 0 (defs_listed C now)) names (names_tabled ms s (behind-this ms) (defs_listed C rest))
              ∙ here.named ms s w;
          any =
              ap (λ z. z || any_in (defs_listed C rest)) b.any
              ∙ or_assoc (any_in (defs_listed C now)) (any_named (part_names 0 0 (own_names this).ids (own_names this).labels (declares_row this.node.row ls))) (any_in (defs_listed C rest))
              ∙ here.any;
          resolved = b.resolved here.resolved;
          known = λ r. here.known (λ ms v. ap (λ z. first_of_two z (missing_defs e ms (defs_listed C rest))) (b.known ms v) ∙ r ms v);
          refused = λ x r. here.refused x (then_refused os (λ ms. first_of_two (missing_roots ms ls) (missing e ms ls)) (λ ms. missing_defs e ms (defs_listed C rest)) x b.known r);
        }

    pub def-refused : (x : Error) → Refused os (λ ms. first_of_two (missing_roots ms ls) (missing e ms ls)) x → Refused os (λ ms. missing_defs e ms (defs_listed C all)) x
    def-refused x r = here.refused x (first_refused os (λ ms. first_of_two (missing_roots ms ls) (missing e ms ls)) (λ ms. missing_defs e ms (defs_listed C rest)) x r)

  pub defs-end : (counts : List ℕ) (served : List (Option ℕ)) (n : ℕ) (now : List Def) → length all ≤ n → DefsLeft e C os counts served all (drop n all) now → DefsResolvedTo e C os all now
  defs-end counts served n now h k =
      let l : DefsLeft e C os counts served all [] now = subst (λ z. DefsLeft e C os counts served all z now) (drop_of_length-le all h) k in
      record {
        made = λ ms w. sym (append-nil (mades e C now)) ∙ l.made ms w;
        named = λ ms s w. sym (append-nil (names_counted s 0 (defs_listed C now))) ∙ l.named ms s w;
        any = sym (or-none (any_in (defs_listed C now))) ∙ l.any;
        resolved = l.resolved;
        known = l.known (λ ms w. refl);
      }
