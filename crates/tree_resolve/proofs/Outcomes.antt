-- What a result is, from what holds of either.
use Rattle.std.proofs.Common.{Result, Ok, Err, IfOk, IfErr, OnOk, MatchResult}

pub match-of : {A E : Type 0} (r : Result A E) {P X : A → Type 0} {Q Y : E → Type 0} → IfOk r P → IfErr r Q → ((a : A) → P a → X a) → ((e : E) → Q e → Y e) → MatchResult r X Y
match-of (Ok a) p q f h = f a p
match-of (Err e) p q f h = h e q

-- what follows of what holds of either
pub match-weaker : {A E : Type 0} (r : Result A E) {P X : A → Type 0} {Q Y : E → Type 0} → MatchResult r P Q → ((a : A) → P a → X a) → ((e : E) → Q e → Y e) → MatchResult r X Y
match-weaker (Ok a) p f h = f a p
match-weaker (Err e) q f h = h e q

pub if-weaker : {A E : Type 0} (r : Result A E) {P X : A → Type 0} → IfOk r P → ((a : A) → P a → X a) → IfOk r X
if-weaker (Ok a) p f = f a p
if-weaker (Err e) p f = tt

pub on-weaker : {A E : Type 0} (r : Result A E) {P X : Type 0} → OnOk r P → (P → X) → OnOk r X
on-weaker (Ok a) p f = f p
on-weaker (Err e) p f = tt

-- what holds of whatever is answered
pub on-any : {A E : Type 0} (r : Result A E) {X : Type 0} → X → OnOk r X
on-any (Ok a) x = x
on-any (Err e) x = tt
