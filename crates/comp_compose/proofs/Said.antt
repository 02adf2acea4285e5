-- What a line of the code says, by its words.
use Rattle.std.proofs.Common.{◌≡◌, ℕ, ◌<◌, ◌≤◌, ◌^◌, List, length, subst, IfSome, refl, sym, ◌∙◌, ap, arith, Option, Some, None}
use Rattle.plan_lines.specs.Words as w
use Rattle.plan_lines.specs.Lines.{Argument, Line, an_instance, instance_with}
use Rattle.plan_lines.specs.Shown.{span, SpansBelow, Within}
use Rattle.plan_lines.specs.declared.words.Word.{Word}

pub one_line : (o : Option Line) (x y : Line) → o ≡ Some x → o ≡ Some y → x ≡ y
one_line o x y e f = let g : Some x ≡ Some y = sym e ∙ f in cc

pub no_line : {A : Type 0} (o : Option Line) (x : Line) → o ≡ None → o ≡ Some x → A
no_line o x e f = absurd (cc)

pub record Instantiates (name part : w.Word) (o : Option (List Argument)) (l : Line) : Type 0 where
  pub arguments : List Argument
  pub read : o ≡ Some arguments
  pub same : an_instance name part arguments ≡ l

pub instantiates : (name part : w.Word) (o : Option (List Argument)) (l : Line) → instance_with name part o ≡ Some l → Instantiates name part o l
instantiates name part None l e = absurd (cc)
instantiates name part (Some xs) l e = record { arguments = xs; read = refl; same = one_line (Some (an_instance name part xs)) (an_instance name part xs) l refl e }

pub below : (o : Option Word) (m : ℕ) → Within o m → m < 2 ^ 64 → SpansBelow o (2 ^ 64)
below None m h k = tt
below (Some x) m h k = omega (arith, h, k)

pub spans_on : (left rest : Option Word) (x : Word) (n : ℕ) → left ≡ Some x → SpansBelow left n → IfSome rest (λ y. (length y.bytes.now < length x.bytes.now) × (span y ≤ span x)) → SpansBelow rest n
spans_on left None x n e h k = tt
spans_on left (Some r) x n e h k = let b : span x < n = subst (λ o. SpansBelow o n) e h in omega (arith, b, k.1)
