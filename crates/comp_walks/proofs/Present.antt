-- An optional part that is there.
use Rattle.std.proofs.Common.{◌≡◌, refl, sym, ap, ◌∙◌, Bool, false, Option, Some}
use Rattle.comp_model.specs.Model as m
use Rattle.comp_model.specs.Model.{Leaf}
use Rattle.comp_model.specs.Events.{Event, present, told_leaf}
use Rattle.comp_walks.specs.Lists.{is_node, option_leaf}

present_plain : {S : Type 0} (step : S → Event → S) (enters : S → Bool) (l : Leaf) (x : S) → is_node l ≡ false → told_leaf step enters (m.present l) x ≡ told_leaf step enters l (step x present)
present_plain step enters (m.node n) x h = absurd (cc)
present_plain step enters l x h = refl

pub told_present : {S A : Type 0} (step : S → Event → S) (enters : S → Bool) (f : A → Leaf) (o : Option A) (a : A) (s mid new : S) → is_node (f a) ≡ false → o ≡ Some a → mid ≡ step s present → new ≡ told_leaf step enters (f a) mid → new ≡ told_leaf step enters (option_leaf f o) s
told_present step enters f o a s mid new p h e d = d ∙ ap (told_leaf step enters (f a)) e ∙ sym (present_plain step enters (f a) s p) ∙ sym (ap (λ q. told_leaf step enters (option_leaf f q) s) h)
