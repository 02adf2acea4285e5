-- A table of counts: the index of a mark is the number of declarations in front of it.
use Rattle.std.proofs.Common.{◌≡◌, ◌≢◌, ◌+◌, List, [], ◌∷◌, ◌++◌, refl, sym, ◌∙◌, ap, subst}
use Rattle.comp_model.specs.declared.Space.{Space}
use Rattle.comp_model.specs.Model.{Scope}
use Rattle.comp_model.specs.Origins.{Origin}
use Rattle.comp_model.specs.Spaces.{count_in}
use Rattle.comp_model.proofs.Tests.{same_origin-refl, same_origin-false}
use Rattle.comp_scopes.specs.Plan.{Mark, before, counts, marks}
use Rattle.comp_scopes.proofs.Counting.{AllIn, Distinct}
use Rattle.comp_scopes.proofs.Marks.{marks-distinct}

all-seam : (P : Origin → Type 0) (pre : List Mark) (m : Mark) (post : List Mark) → AllIn P (pre ++ m ∷ post) → P m.origin
all-seam P [] m post h = h.0
all-seam P (x ∷ pre) m post h = all-seam P pre m post h.1

before-seam : (s : Space) (pre : List Mark) (m : Mark) (post : List Mark) → Distinct (pre ++ m ∷ post) → before s m.origin (pre ++ m ∷ post) ≡ counts s pre
before-seam s [] m post d = rw (same_origin-refl m.origin) refl
before-seam s (x ∷ pre) m post d =
    let o : x.origin ≢ m.origin = all-seam (λ q. x.origin ≢ q) pre m post d.0 in
    rw (same_origin-false m.origin x.origin (λ e. o (sym e))) (ap (λ n. count_in s x.spaces + n) (before-seam s pre m post d.1))

-- in particular along the marks of a scope
pub marks-seam : (s : Space) (st : List Scope) (pre : List Mark) (m : Mark) (post : List Mark) → marks st ≡ pre ++ m ∷ post → before s m.origin (marks st) ≡ counts s pre
marks-seam s st pre m post e = ap (before s m.origin) e ∙ before-seam s pre m post (subst Distinct e (marks-distinct st))
