-- What is counted of parts, one behind the other.
use Rattle.std.proofs.Common.{◌≡◌, Bool, true, false, cond, true≢false, Bor, ℕ, ◌<◌, refl, sym, ap, ◌∙◌, subst, List, [], ◌∷◌, ◌++◌, length, append_assoc, Option, Some, None, option_map, arith, inl, inr, Result, MatchResult}
use Rattle.std.specs.Bool.{⊤, ◌==◌}
use Rattle.comp_model.specs.CoreModules.{CoreModule}
use Rattle.comp_model.specs.Model as m
use Rattle.comp_scopes.specs.Names.{Denoted, first_of_two}
use Rattle.comp_scopes.specs.References.{instance_space}
use Rattle.comp_scopes.specs.Unmet.{Unmet, unmet, core_export_kind, root_offset}
use Rattle.comp_tables.specs.Walks.{counters_in}
use Rattle.comp_tables.specs.Tables.{Counters, Opened, advanced, alias_of, past_alias, past_name, past_path, unmet_kinds, unmet_kinds_leaf, unmet_kinds_nodes}
use Rattle.wast_tokens.specs.declared.error.Error.{Error}
use Rattle.comp_tree.specs.declared.tree.Leaf.{Leaf}
use Rattle.comp_tree.specs.declared.tree.Node.{Node}
use Rattle.comp_tree.specs.Lists.{listed, nodes_listed}
use Rattle.comp_tree.specs.Model.{leaf_of, core_at, root_of, path_from, path_of}
use Rattle.comp_model.specs.Core.{Text}
use Rattle.comp_model.specs.declared.Space.{Space}
use Rattle.comp_scopes.specs.Rule.{path_allowed}
use Rattle.wast_parser.specs.declared.index.Index.{Index}
use Rattle.wast_parser.specs.declared.index.Index.TheVariants.{Num, Id}
use Rattle.wast_parser.specs.View.{index_span}
use Rattle.wast_tokens.specs.declared.span.Span.{Span}
use Rattle.wast_tokens.specs.declared.error.ErrorKind.TheVariants.{CoreExportKind}
use Rattle.open_scopes.specs.declared.scopes.Open.{Open}
use Rattle.open_scopes.specs.declared.lookup.Found.{Found}
use Rattle.open_scopes.specs.Aliases.{AliasesShow}
use Rattle.open_scopes.specs.Shown.{OpenScopesShow, found_of}
use Rattle.open_scopes.specs.Refusals.{refusal, refusal_of}
use Rattle.tree_names.specs.declared.sums.Sums.{Sums}
use Rattle.tree_names.specs.Counted.{RefusedBy, Refused, SumsShow, Summed, CountedPast, LeafCounted, LeavesCounted, NodesCounted}
use Rattle.tree_names.specs.Served.{ServedBy, name_served}
use Rattle.tree_names.specs.Left.{LeavesLeft, NodesLeft}
use Rattle.tree_names.proofs.CoreLeaves.{by_core}

front : (a b : Option Unmet) (x : Error) → option_map refusal_of a ≡ Some x → option_map refusal_of (first_of_two a b) ≡ Some x
front None b x e = absurd (cc)
front (Some y) b x e = e

pub first_refused_by : (os : List Open) (u v : List Opened → Option Unmet) (x : Error) → RefusedBy os u x → RefusedBy os (λ ms. first_of_two (u ms) (v ms)) x
first_refused_by os u v x h ms s = front (u ms) (v ms) x (h ms s)

pub then_refused_by : (os : List Open) (u v : List Opened → Option Unmet) (x : Error) → ((ms : List Opened) → OpenScopesShow os ms → u ms ≡ None) → RefusedBy os v x → RefusedBy os (λ ms. first_of_two (u ms) (v ms)) x
then_refused_by os u v x k h ms s = ap (λ a. option_map refusal_of (first_of_two a (v ms))) (k ms s) ∙ h ms s

pub first_refused : (os : List Open) (u v : List Opened → Option Unmet) (x : Error) → Refused os u x → Refused os (λ ms. first_of_two (u ms) (v ms)) x
first_refused os u v x (inl e) = inl e
first_refused os u v x (inr h) = inr (first_refused_by os u v x h)

pub then_refused : (os : List Open) (u v : List Opened → Option Unmet) (x : Error) → ((ms : List Opened) → OpenScopesShow os ms → u ms ≡ None) → Refused os v x → Refused os (λ ms. first_of_two (u ms) (v ms)) x
then_refused os u v x k (inl e) = inl e
then_refused os u v x k (inr h) = inr (then_refused_by os u v x k h)

module _ {os : List Open} where
  pub counted_none : (a : Sums) → length a.counters ≡ 13 → CountedPast os a a (λ ms c. c) (λ ms c. []) (λ ms. None)
  counted_none a h = record { sized = h; summed = λ ms c w s. record { shown = s; served = λ more. refl }; known = λ ms w. refl }

  pub counted_both : {a b c : Sums} {p q : List Opened → Counters → Counters} {s t : ServedBy} {u v : List Opened → Option Unmet}
      → CountedPast os a b p s u → CountedPast os b c q t v → CountedPast os a c (λ ms x. q ms (p ms x)) (λ ms x. s ms x ++ t ms (p ms x)) (λ ms. first_of_two (u ms) (v ms))
  counted_both {a} {b} {c} {p} {q} {s} {t} {u} {v} g h = record {
    sized = h.sized;
    summed = λ ms x w k.
        let first : Summed a b (p ms x) (s ms x) = g.summed ms x w k in
        let next : Summed b c (q ms (p ms x)) (t ms (p ms x)) = h.summed ms (p ms x) w first.shown in
        record {
          shown = next.shown;
          served = λ more. next.served more ∙ first.served (t ms (p ms x) ++ more) ∙ ap (λ z. a.served.items ++ z) (sym (append_assoc (s ms x) (t ms (p ms x)) more));
        };
    known = λ ms w. ap (λ z. first_of_two z (v ms)) (g.known ms w) ∙ h.known ms w;
  }

module _ (C : List CoreModule) (os : List Open) where
  pub leaves_start : (a : Sums) (xs : List Leaf) → length a.counters ≡ 13 → LeavesLeft C os a a xs xs
  leaves_start a xs h = record { sized = h; done = λ end g. g; refused = λ x r. r }

  pub leaves_step : (a b c : Sums) (xs rest more : List Leaf) (y : Leaf) → LeavesLeft C os a b xs rest → rest ≡ y ∷ more → LeafCounted os b c (leaf_of C y) → LeavesLeft C os a c xs more
  leaves_step a b c xs rest more y k e g = let l : LeavesLeft C os a b xs (y ∷ more) = subst (λ r. LeavesLeft C os a b xs r) e k in record {
    sized = g.sized;
    done = λ end h. l.done end (counted_both g h);
    refused = λ x h. l.refused x (then_refused os _ _ x g.known h);
  }

  pub leaves_refused : (a b : Sums) (xs rest more : List Leaf) (y : Leaf) (x : Error) → LeavesLeft C os a b xs rest → rest ≡ y ∷ more → Refused os (λ ms. unmet_kinds_leaf ms (leaf_of C y)) x → Refused os (λ ms. unmet_kinds ms (listed C xs)) x
  leaves_refused a b xs rest more y x k e h = let l : LeavesLeft C os a b xs (y ∷ more) = subst (λ r. LeavesLeft C os a b xs r) e k in l.refused x (first_refused os (λ ms. unmet_kinds_leaf ms (leaf_of C y)) (λ ms. unmet_kinds ms (listed C more)) x h)

  pub leaves_end : (a b : Sums) (xs rest : List Leaf) → LeavesLeft C os a b xs rest → rest ≡ [] → LeavesCounted os a b (listed C xs)
  leaves_end a b xs rest k e = let l : LeavesLeft C os a b xs [] = subst (λ r. LeavesLeft C os a b xs r) e k in l.done b (counted_none b l.sized)

  pub nodes_start : (a : Sums) (xs : List Node) → length a.counters ≡ 13 → NodesLeft C os a a xs xs
  nodes_start a xs h = record { sized = h; done = λ end g. g; refused = λ x r. r }

  pub nodes_step : (a b c : Sums) (xs rest more : List Node) (y : Node) → NodesLeft C os a b xs rest → rest ≡ y ∷ more → LeavesCounted os b c (listed C y.leaves.now) → NodesLeft C os a c xs more
  nodes_step a b c xs rest more y k e g = let l : NodesLeft C os a b xs (y ∷ more) = subst (λ r. NodesLeft C os a b xs r) e k in record {
    sized = g.sized;
    done = λ end h. l.done end (counted_both g h);
    refused = λ x h. l.refused x (then_refused os _ _ x g.known h);
  }

  pub nodes_refused : (a b : Sums) (xs rest more : List Node) (y : Node) (x : Error) → NodesLeft C os a b xs rest → rest ≡ y ∷ more → Refused os (λ ms. unmet_kinds ms (listed C y.leaves.now)) x → Refused os (λ ms. unmet_kinds_nodes ms (nodes_listed C xs)) x
  nodes_refused a b xs rest more y x k e h = let l : NodesLeft C os a b xs (y ∷ more) = subst (λ r. NodesLeft C os a b xs r) e k in l.refused x (first_refused os (λ ms. unmet_kinds ms (listed C y.leaves.now)) (λ ms. unmet_kinds_nodes ms (nodes_listed C more)) x h)

  pub nodes_end : (a b : Sums) (xs rest : List Node) → NodesLeft C os a b xs rest → rest ≡ [] → NodesCounted os a b (nodes_listed C xs)
  nodes_end a b xs rest k e = let l : NodesLeft C os a b xs [] = subst (λ r. NodesLeft C os a b xs r) e k in l.done b (counted_none b l.sized)

-- ---- each kind of leaf

module _ (os : List Open) (r : Result ⊤ Error) (a b : Sums) where
  abbrev LeafAnswer : m.Leaf → Type 0
  LeafAnswer l = MatchResult r (λ done. LeafCounted os a b l) (Refused os (λ ms. unmet_kinds_leaf ms l))

  pub same_leaf : (l k : m.Leaf) → l ≡ k → LeafAnswer k → LeafAnswer l
  same_leaf l k e h = subst LeafAnswer (sym e) h

pub core_counted : (os : List Open) (C : List CoreModule) (n : ℕ) (l : m.Leaf) (a : Sums) → length a.counters ≡ 13 → l ≡ core_at C n → LeafCounted os a a l
core_counted os C n l a h e = subst (λ k. LeafCounted os a a k) (sym e) (by_core (λ k. LeafCounted os a a k) (counted_none a h) (λ c. counted_none a h) C n)

root_kept : (p : m.Path) (ts : List (Bor Text)) → root_offset (path_from p ts) ≡ root_offset p
root_kept p [] = refl
root_kept p (t ∷ ts) = root_kept (m.export_of p t.now) ts

pub path_refused : (os : List Open) (s : Space) (i : Index) (ts : List (Bor Text)) (o : ℕ) → false ≡ (length ts == 0) → path_allowed s ≡ false → o ≡ root_offset (root_of i) → Refused os (λ ms. unmet_kinds_leaf ms (m.ref s (path_of i ts))) (refusal CoreExportKind o)
path_refused os s i [] o h k e = absurd (true≢false (sym h))
path_refused os s i (t ∷ ts) o h k e =
    inr (λ ms w. ap (λ (b : Bool). option_map refusal_of (cond b None (unmet core_export_kind (root_offset (path_from (root_of i) (t ∷ ts)))))) k
    ∙ ap (λ (n : ℕ). Some (refusal CoreExportKind n)) (root_kept (root_of i) (t ∷ ts) ∙ sym e))

pub root_span : (i : Index) (p : Span) → p ≡ index_span i → p.offset ≡ root_offset (root_of i)
root_span (Num n s) p e = ap (λ (q : Span). q.offset) e
root_span (Id x) p e = ap (λ (q : Span). q.offset) e

pub some_steps : (ts : List (Bor Text)) → false ≡ (length ts == 0) → 0 < length ts
some_steps [] h = absurd (true≢false (sym h))
some_steps (t ∷ ts) h = omega arith

-- a path whose aliases were counted
aliases_kept : (s : Space) (p : m.Path) (c : Counters) → (past_path s p c).aliases ≡ c.aliases
aliases_kept s (m.root_number o n) c = refl
aliases_kept s (m.root_name x) c = refl
aliases_kept s (m.export_of p t) c = aliases_kept (instance_space s) p c

pub path_counted : (os : List Open) (s : Space) (i : Index) (ts : List (Bor Text)) (a : Sums) (counts : List ℕ) → 0 < length ts → path_allowed s ≡ true → length counts ≡ 13
    → ((c : Counters) → counters_in a.counters ≡ c.counts → counters_in counts ≡ (past_path s (path_from (root_of i) ts) c).counts) → LeafCounted os a (record { counters = counts; aliases = a.aliases; served = a.served }) (m.ref s (path_of i ts))
path_counted os s i [] a counts h k n e = absurd (omega (arith, h))
path_counted os s i (t ∷ ts) a counts h k n e =
    let p : m.Path = path_from (root_of i) (t ∷ ts) in
    record {
      sized = n;
      summed = λ ms c w q. record { shown = record { counts = e c q.counts; aliases = subst (λ xs. AliasesShow a.aliases xs) (sym (aliases_kept s p c)) q.aliases }; served = λ more. refl };
      known = λ ms w. ap (λ (b : Bool). cond b None (unmet core_export_kind (root_offset p))) k;
    }

-- ---- a name, with what was found for it

pub name_stays : (s : Space) (b : Bool) (d : Option Denoted) (a : Sums) (c : Counters) → false ≡ b → SumsShow a c → Summed a a (past_name s b d c) (name_served s b d c)
name_stays s b d a c e h = subst (λ z. Summed a a (past_name s z d c) (name_served s z d c)) e (record { shown = h; served = λ more. refl })

pub name_nowhere : (s : Space) (b : Bool) (d : Option Denoted) (a : Sums) (c : Counters) → None ≡ option_map found_of d → SumsShow a c → Summed a a (past_name s b d c) (name_served s b d c)
name_nowhere s true None a c e h = record { shown = h; served = λ more. refl }
name_nowhere s false None a c e h = record { shown = h; served = λ more. refl }
name_nowhere s b (Some d) a c e h = absurd (cc)

pub name_leads : (s : Space) (b : Bool) (d : Option Denoted) (f : Found) (a new : Sums) (c : Counters) → true ≡ b → Some f ≡ option_map found_of d
    → ((d : Denoted) (c : Counters) → f ≡ found_of d → SumsShow a c → Summed a new (past_alias s d (alias_of s d c.aliases) c) (alias_of s d c.aliases ∷ [])) → SumsShow a c → Summed a new (past_name s b d c) (name_served s b d c)
name_leads s b None f a new c e k g h = absurd (cc)
name_leads s b (Some d) f a new c e k g h = let same : f ≡ found_of d = cc in subst (λ z. Summed a new (past_name s z (Some d) c) (name_served s z (Some d) c)) e (g d c same h)

-- ---- an alias that serves a name, and a new one

pub alias_serves : (s : Space) (d : Denoted) (a : Sums) (c : Counters) (r : Option ℕ) (i : ℕ) (new : Sums) → r ≡ alias_of s d c.aliases → r ≡ Some i → new.counters ≡ a.counters → new.aliases ≡ a.aliases → new.served.items ≡ a.served.items ++ r ∷ []
    → SumsShow a c → Summed a new (past_alias s d (alias_of s d c.aliases) c) (alias_of s d c.aliases ∷ [])
alias_serves s d a c r i new is some counters aliases more h =
    subst (λ z. Summed a new (past_alias s d z c) (z ∷ [])) (sym some ∙ is) (record {
      shown = record { counts = ap counters_in counters ∙ h.counts; aliases = subst (λ z. AliasesShow z c.aliases) (sym aliases) h.aliases };
      served = λ ms. ap (λ z. z ++ ms) more ∙ append_assoc a.served.items (r ∷ []) ms ∙ ap (λ z. a.served.items ++ (z ∷ ms)) some;
    })

pub alias_new : (s : Space) (d : Denoted) (a : Sums) (c : Counters) (r : Option ℕ) (i : ℕ) (new : Sums) → r ≡ alias_of s d c.aliases → r ≡ None → i ≡ counters_in a.counters s
    → counters_in new.counters ≡ (advanced (s ∷ []) c).counts → (AliasesShow a.aliases c.aliases → alias_of s d c.aliases ≡ None → AliasesShow new.aliases (c.aliases ++ record { space = s; denoted = d; index = i } ∷ []))
    → new.served.items ≡ a.served.items ++ r ∷ [] → SumsShow a c → Summed a new (past_alias s d (alias_of s d c.aliases) c) (alias_of s d c.aliases ∷ [])
alias_new s d a c r i new is none at counts put more h =
    let index : i ≡ c.counts s = at ∙ ap (λ (f : Space → ℕ). f s) h.counts in
    subst (λ z. Summed a new (past_alias s d z c) (z ∷ [])) (sym none ∙ is) (record {
      shown = record { counts = counts; aliases = subst (λ (n : ℕ). AliasesShow new.aliases (c.aliases ++ record { space = s; denoted = d; index = n } ∷ [])) index (put h.aliases (sym is ∙ none)) };
      served = λ ms. ap (λ z. z ++ ms) more ∙ append_assoc a.served.items (r ∷ []) ms ∙ ap (λ z. a.served.items ++ (z ∷ ms)) none;
    })
