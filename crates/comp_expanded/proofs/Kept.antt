-- An expansion has the marks of its scope, in the numbers of the text.
use Rattle.std.proofs.Common.{◌≡◌, ℕ, zero, suc, drop, map, List, [], ◌∷◌, Option, Some, option_map, refl, ◌∙◌, ap, arith}
use Rattle.comp_model.specs.declared.Space.{Space}
use Rattle.comp_model.specs.Core.{Text, Id}
use Rattle.comp_model.specs.Model.{Defs, Scope, scope_of, defs_of}
use Rattle.comp_model.specs.declared.row.ScopeKind.{ScopeKind}
use Rattle.comp_model.specs.Origins.{outer_alias_of}
use Rattle.comp_scopes.specs.Names.{Denoted}
use Rattle.comp_scopes.specs.Outward.{outward_names, served}
use Rattle.comp_scopes.specs.Plan.{mark, marks}
use Rattle.comp_expanded.specs.ListMarks.{ListMarks}
use Rattle.comp_expanded.specs.Expansion.{Naming, Entry, entry_defs, entry_marks, expand_defs, expand_exports, expand_list, expand, expand_marks}
use Rattle.comp_expanded.specs.TextNumbers.{entries, mark_in_text}
use Rattle.comp_expanded.specs.Named.{Named}
use Rattle.comp_expanded.specs.Expands.{AllExpand, Expands}
use Rattle.comp_expanded.specs.OfText.{OfText}
use Rattle.comp_scopes.specs.Rowed.{Rowed}
use Rattle.comp_expanded.proofs.Stacks.{expand_stack, AllNamed}
use Rattle.comp_expanded.proofs.ScopeOf.{def_at}
use Rattle.comp_expanded.proofs.HasNaming.{expands-expand}
use Rattle.comp_expanded.proofs.NamingExpands.{self_named, self-gives, defs-expand, exports-expand}
use Rattle.comp_expanded.proofs.Once.{list-once}
use Rattle.comp_expanded.proofs.Answers.{Answers, OnceIn, AllOnce, list_here}
use Rattle.comp_expanded.proofs.OutKept.{out-all}
use Rattle.comp_expanded.proofs.OutOnce.{defs-once}
use Rattle.comp_expanded.proofs.Serve.{Among, serves-same}
use Rattle.comp_expanded.proofs.MarksKept.{marks-kept}

-- ---- each mark stands once in the lists of a stack

scope-once : (g : Naming) (c : Scope) → Named g c → OnceIn (expand_list g c)
scope-once g (scope_of kd id label ds) n =
    let c : Scope = scope_of kd id label ds in
    list-once c (self_named g c) (expand_defs g c 0 ds) (expand_exports g 0 ds) (defs-expand (self_named g c) g c 0 ds (self-gives g c) n.0) (exports-expand (self_named g c) g c ds (self-gives g c).0 0 ds (λ i. ap (def_at ds) (omega arith)) n.0)

stack-once : (gs : List Naming) (st : List Scope) → AllNamed gs st → AllOnce gs st
stack-once [] [] a n = none n
  where
    none : (n : ℕ) → OnceIn (list_here (drop n []) (drop n []))
    none zero = λ o. omega arith
    none (suc n) = λ o. omega arith
stack-once [] (c ∷ st) a n = absurd a
stack-once (g ∷ gs) [] a n = absurd a
stack-once (g ∷ gs) (c ∷ st) a zero = scope-once g c a.0.2
stack-once (g ∷ gs) (c ∷ st) a (suc n) = stack-once gs st a.1 n

-- ---- under namings

module _ (g : Naming) (kd : ScopeKind) (id : Option Id) (label : Option Text) (ds : Defs) (gs : List Naming) (st : List Scope)
    (all : AllNamed (g ∷ gs) (scope_of kd id label ds ∷ st)) where
  abbrev c : Scope
  c = scope_of kd id label ds

  abbrev L : List Entry
  L = expand_list g c

  abbrev su : List Scope
  su = expand_stack (g ∷ gs) (c ∷ st)

  pub serves : (k u j w : ℕ) (s : Space) (d e : Denoted) → mark_in_text L (outer_alias_of j w) ≡ outer_alias_of k u → Among (outward_names su) (outer_alias_of j w) → Answers (g ∷ gs) (c ∷ st) (Some d) (Some e)
      → served (c ∷ st) k u s d ≡ option_map (mark_in_text L) (served su j w s e)
  serves k u j w s d e t a h =
      serves-same g kd id label ds gs st all (stack-once (g ∷ gs) (c ∷ st) all) (outward_names (c ∷ st)) (outward_names su) (outer_alias_of k u) (outer_alias_of j w) s d e (out-all g kd id label ds gs st all) t (defs-once k u (c ∷ st) 0 ds).0 a h

  pub scope-marks : marks (c ∷ st) ≡ map (λ m. mark (mark_in_text L m.origin) m.spaces) (marks su)
  scope-marks = marks-kept g kd id label ds gs st all serves

pub expanded-marks : (gs : List Naming) (st : List Scope) (g : Naming) (s : Scope) → AllNamed (g ∷ gs) (s ∷ st) → marks (s ∷ st) ≡ map (λ m. mark (mark_in_text (expand_list g s) m.origin) m.spaces) (marks (expand g s ∷ expand_stack gs st))
expanded-marks gs st g (scope_of kd id label ds) h = scope-marks g kd id label ds gs st h

pub entries-same : (xs : List Entry) → entries (entry_defs xs) (entry_marks xs) ≡ xs
entries-same [] = refl
entries-same (x ∷ xs) = ap (λ ys. x ∷ ys) (entries-same xs)

pub expanded-entries : (g : Naming) (s : Scope) → entries (defs_of (expand g s)) (expand_marks g s) ≡ expand_list g s
expanded-entries g (scope_of kd id label ds) = entries-same (expand_list g (scope_of kd id label ds))

-- ---- by the relation

abbrev pub ByNaming : Scope → Scope → ListMarks → Type 0
ByNaming s x os = (g : Naming) × Named g s × (x ≡ expand g s) × (os ≡ expand_marks g s)

pub stack-named : (st xs : List Scope) → AllExpand st xs → (gs : List Naming) × AllNamed gs st × (xs ≡ expand_stack gs st)
stack-named [] [] a = ([], tt, refl)
stack-named [] (x ∷ xs) a = absurd a
stack-named (s ∷ st) [] a = absurd a
stack-named (s ∷ st) (x ∷ xs) a =
    let k : ByNaming s x a.0.0 = expands-expand s x a.0.0 a.0.1 a.0.2 a.0.3 in
    let m : (gs : List Naming) × AllNamed gs st × (xs ≡ expand_stack gs st) = stack-named st xs a.1 in
    (k.0 ∷ m.0, ((a.0.1, a.0.2, k.1), m.1), ap (λ v. v ∷ xs) k.2 ∙ ap (λ v. expand k.0 s ∷ v) m.2)

marks-by : (st xs : List Scope) (s x : Scope) (os : ListMarks) (g : Naming) (gs : List Naming) → AllNamed (g ∷ gs) (s ∷ st) → x ≡ expand g s → os ≡ expand_marks g s → xs ≡ expand_stack gs st → marks (s ∷ st) ≡ map (λ m. mark (mark_in_text (entries (defs_of x) os) m.origin) m.spaces) (marks (x ∷ xs))
marks-by st xs s x os g gs a p q r =
    let l : entries (defs_of x) os ≡ expand_list g s = rw (p, q) (expanded-entries g s) in
    rw (l, p, r) (expanded-marks gs st g s a)

pub expands-marks : (st xs : List Scope) (s x : Scope) (os : ListMarks) → AllExpand st xs → Rowed s → OfText s → Expands s x os → marks (s ∷ st) ≡ map (λ m. mark (mark_in_text (entries (defs_of x) os) m.origin) m.spaces) (marks (x ∷ xs))
expands-marks st xs s x os a w t h =
    let k : ByNaming s x os = expands-expand s x os w t h in
    let m : (gs : List Naming) × AllNamed gs st × (xs ≡ expand_stack gs st) = stack-named st xs a in
    marks-by st xs s x os k.0 m.0 ((w, t, k.1), m.1) k.2 k.3 m.2
