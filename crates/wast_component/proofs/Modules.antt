-- Lists of core modules and of their fields.
use Rattle.std.proofs.Common.{◌≡◌, ◌<◌, ◌≤◌, ◌++◌, ◌∙◌, refl, sym, ap, subst, ℕ, true, List, [], ◌∷◌, length, map, get_or, Option, None, Some, option_map, Bor, arith}
use Rattle.comp_model.specs.Core.{Text, CoreRefusal}
use Rattle.comp_model.specs.CoreModules.{Field}
use Rattle.core_model.specs.IsResolved.{are_resolved}
use Rattle.core_model.specs.Resolved.{resolved_fields}
use Rattle.core_model.specs.Rule.{core_rule}
use Rattle.core_checks.specs.Refusals.{IsRefused, by_memory, by_rule, error_of}
use Rattle.core_syntax.specs.Fields.{naming_of}
use Rattle.core_write.specs.Module.{FitsModule}
use Rattle.tree_build.specs.Cores.{fields_at, module_of}
use Rattle.tree_build.specs.declared.cores.NamedModule.{NamedModule}
use Rattle.wast_parser.specs.declared.index.Id.{Id}
use Rattle.wast_parser.specs.declared.texts.NameAnnotation.{NameAnnotation}
use Rattle.comp_tree.specs.Model.{id_of, lent_text}
use Rattle.wast_component.specs.Modules.{modules_of, numbered_by, numbered, AreResolved, AreWritable, IsRuled, AreRuled}
use Rattle.wast_component.specs.declared.ruled.Ruled.{Ruled}
use Rattle.wast_tokens.specs.declared.error.Error.{Error}
use Rattle.wast_tokens.specs.declared.error.ErrorKind.TheVariants.{NoMemory}

-- ---- lists

one_behind : {A C : Type 0} (f : A → C) (xs : List A) (x : A) (rest : List C) → map f (xs ++ (x ∷ [])) ++ rest ≡ map f xs ++ (f x ∷ rest)
one_behind f [] x rest = refl
one_behind f (z ∷ zs) x rest = ap (λ l. f z ∷ l) (one_behind f zs x rest)

-- one more is made of the first that is left
pub appended : {A C : Type 0} (f : A → C) (xs new : List A) (x : A) (old rest all : List C) → new ≡ xs ++ (x ∷ []) → old ≡ f x ∷ rest → map f xs ++ old ≡ all → map f new ++ rest ≡ all
appended f xs new x old rest all pushed left h = ap (λ l. map f l ++ rest) pushed ∙ (one_behind f xs x rest ∙ (ap (λ l. map f xs ++ l) (sym left) ∙ h))

none_behind : {A : Type 0} (xs : List A) → xs ++ [] ≡ xs
none_behind [] = refl
none_behind (x ∷ xs) = ap (λ l. x ∷ l) (none_behind xs)

-- and none is left
pub finished : {A B C : Type 0} (f : A → C) (g : List B → List C) (xs : List A) (left first all : List B) → g [] ≡ [] → length left ≡ 0 → first ≡ all → map f xs ++ g left ≡ g first → map f xs ≡ g all
finished f g xs [] first all z n i h = sym (none_behind (map f xs)) ∙ (ap (λ l. map f xs ++ l) (sym z) ∙ (h ∙ ap g i))
finished f g xs (y ∷ ys) first all z n i h = absurd (omega (arith, n))

-- ---- the fields of a number

module _ {A : Type 0} (f : A → List Field) where
  pub fields_there : (xs : List A) (n : ℕ) (y : A) → n < length xs → y ≡ get_or xs n y → fields_at (map f xs) n ≡ f y
  fields_there [] n y h e = absurd (omega (arith, h))
  fields_there (x ∷ xs) ℕ.zero y h e = ap f (sym e)
  fields_there (x ∷ xs) (ℕ.suc n) y h e = fields_there xs n y (omega (arith, h)) e

  pub fields_missing : (xs : List A) (n : ℕ) → length xs ≤ n → fields_at (map f xs) n ≡ []
  fields_missing [] n h = refl
  fields_missing (x ∷ xs) ℕ.zero h = absurd (omega (arith, h))
  fields_missing (x ∷ xs) (ℕ.suc n) h = fields_missing xs n (omega (arith, h))

pub resolved_at : (fs : List (List Field)) (n : ℕ) → AreResolved fs → are_resolved (fields_at fs n) ≡ true
resolved_at [] n h = refl
resolved_at (f ∷ fs) ℕ.zero h = h.0
resolved_at (f ∷ fs) (ℕ.suc n) h = resolved_at fs n h.1

-- ---- names become numbers where the rule is met

pub numbered_met : (fs gs : List Field) → core_rule fs ≡ None → gs ≡ resolved_fields fs → gs ≡ numbered fs
numbered_met fs gs h e = let met : numbered fs ≡ resolved_fields fs = rw h refl in e ∙ sym met

pub numbered_broken : (r : Option CoreRefusal) (fs : List Field) (e : Error) → Some e ≡ option_map error_of r → [] ≡ numbered_by r fs
numbered_broken None fs e h = absurd (cc)
numbered_broken (Some r) fs e h = refl

-- ---- what can be written

pub same_naming : (id : Option Id) (label : Option (Bor Text)) (name : Option NameAnnotation) → option_map (λ n. n.name.now) name ≡ option_map lent_text label → naming_of id name ≡ record { id = option_map id_of id; label = option_map lent_text label }
same_naming None label name e = ap (λ t. record { id = None; label = t }) e
same_naming (Some x) label name e = ap (λ t. record { id = Some (id_of x); label = t }) e

pub writable_at : (fs : List (List Field)) (ms : List NamedModule) (n : ℕ) (x : NamedModule) → n < length ms → AreWritable (modules_of fs ms) → FitsModule (module_of fs (get_or ms n x)).naming (module_of fs (get_or ms n x)).fields
writable_at fs [] n x h all = absurd (omega (arith, h))
writable_at fs (y ∷ ms) ℕ.zero x h all = all.0
writable_at fs (y ∷ ms) (ℕ.suc n) x h all = writable_at fs ms n x (omega (arith, h)) all.1

-- ---- rules

pub ruled_at : (rs : List Ruled) (n : ℕ) (r : Ruled) → n < length rs → r ≡ get_or rs n r → AreRuled rs → IsRuled r
ruled_at [] n r h e all = absurd (omega (arith, h))
ruled_at (x ∷ rs) ℕ.zero r h e all = subst IsRuled (sym e) all.0
ruled_at (x ∷ rs) (ℕ.suc n) r h e all = ruled_at rs n r (omega (arith, h)) e all.1

pub ruled_pushed : (rs : List Ruled) (r : Ruled) → AreRuled rs → IsRuled r → AreRuled (rs ++ (r ∷ []))
ruled_pushed [] r all h = (h, tt)
ruled_pushed (x ∷ rs) r all h = (all.0, ruled_pushed rs r all.1 h)

-- a refusal that isn't want of memory is that of a rule
pub by_rule_alone : (r : Option CoreRefusal) (e : Error) → IsRefused r e → ((e.kind ≡ NoMemory) → ⊥) → Some e ≡ option_map error_of r
by_rule_alone r e (by_memory h) k = absurd (k (ap (λ (x : Error). x.kind) h))
by_rule_alone r e (by_rule h) k = h
