-- The text of a component that is printed is valid, and its encoding is read as the component without its custom sections of names.
use Rattle.std.proofs.Common.{◌≡◌, ℕ, ◌≤◌, Bool, true, false, cond, nat_lt, List, length, Option, None, Some, is_some, refl, sym, ◌∙◌, subst, arith}
use Rattle.std.proofs.lemmas.Bool.Decides.{nat_tests}
use Rattle.comp_model.specs.Covered.{Uncovered, first_uncovered}
use Rattle.comp_model.specs.CoreModules.{CoreModule}
use Rattle.comp_model.specs.Model as m
use Rattle.comp_model.specs.Model.{Scope, Def, define, row, no_leaf, ◌▸◌}
use Rattle.comp_model.specs.Weight.{weight}
use Rattle.comp_model.specs.declared.row.Row.TheVariants as rows
use Rattle.comp_wire.specs.Read.{Reads}
use Rattle.core_model.specs.Uncovered.{core_uncovered}
use Rattle.core_model.specs.Weight.{module_weight}
use Rattle.print_table.specs.Depths.{is_deep}
use Rattle.print_table.specs.HasText.{has_text, holds_module}
use Rattle.print_table.specs.Printable.{IsPrintable}
use Rattle.print_table.specs.TextOf.{unnamed, text_of}
use Rattle.printed_text.specs.Spelled.{Prints}
use Rattle.tree_print.specs.Cause.{too_big, too_deep, weight_cause, size_cause, cause}
use Rattle.tree_print.specs.Taken.{capped}
use Rattle.tree_print.specs.declared.print.PrintKind.{PrintKind}
use Rattle.tree_print.specs.declared.print.PrintKind.TheVariants as kinds
use Rattle.tree_write.specs.Wire.{the_encoding}
use Rattle.wast_grammar.specs.Answers.{Fronts, first_deep}
use Rattle.wast_grammar.specs.Grammar.{Value}
use Rattle.wast_grammar.specs.Read.{start_of}
use Rattle.wast_grammar.specs.Spells.{checks}
use Rattle.wast_grammar.specs.Stand.{Stand}
use Rattle.wast_grammar.specs.Tokens.{Text}
use Rattle.wast_parser.specs.View.{IsTextOf}
use Rattle.wast_component.specs.Answer.{IsValid, Encodes, IsSpelledOnce}
use Rattle.wast_component.specs.Encodable.{IsEncodedAs}
use Rattle.wast_component.specs.Whole.{Whole, in_text, wat}
use Rattle.print_again.specs.Again.{IsPrinted, IsValidPrint}

-- ---- what no cause says

not_some : {A : Type 0} (b : Bool) (x : A) (o : Option A) → cond b (Some x) o ≡ None → (b ≡ false) × (o ≡ None)
not_some true x o e = absurd (cc)
not_some false x o e = (refl, e)

small : (n : ℕ) → nat_lt 67_108_864 n ≡ false → n ≤ 67_108_864
small n e = grind (arith, nat_tests)

not_big : (n : ℕ) (more : Option PrintKind) → too_big n more ≡ None → (n ≤ 67_108_864) × (more ≡ None)
not_big n more e = let w = not_some (nat_lt 67_108_864 n) (kinds.TooBig (capped n) 67_108_864) more e in (small n w.0, w.1)

not_deep : (b : Bool) → too_deep b ≡ None → b ≡ false
not_deep true e = absurd (cc)
not_deep false e = refl

-- its text isn't too long, it isn't too heavy, and no part of the text is too deep
record Sizes (b : Scope) : Type 0 where
  short : length (text_of b) ≤ 67_108_864
  light : weight (λ c. 0) (unnamed b) ≤ 67_108_864
  shallow : is_deep b ≡ false

by_text : (v : Bool) (o : Option PrintKind) → cond v o (Some kinds.NoText) ≡ None → o ≡ None
by_text true o e = e
by_text false o e = absurd (cc)

sizes : (b : Scope) → cause b ≡ None → Sizes b
sizes b e =
    let w = not_some (holds_module b) kinds.CoreModule (cond (has_text (unnamed b)) (size_cause b) (Some kinds.NoText)) e in
    let l = not_big (length (text_of b)) (weight_cause b) (by_text (has_text (unnamed b)) (size_cause b) w.1) in
    let h = not_big (weight (λ c. 0) (unnamed b)) (too_deep (is_deep b)) l.1 in
    record { short = l.0; light = h.0; shallow = not_deep (is_deep b) h.1 }

none_of : {A : Type 0} (o : Option A) → is_some o ≡ false → o ≡ None
none_of None e = refl
none_of (Some x) e = absurd (cc)

-- ---- the laws, from those of printed texts

abbrev pub Spells : Type 0
Spells = (b : Scope) → IsPrintable (unnamed b) → Prints (text_of b) (unnamed b)

abbrev pub Deep : Type 0
Deep = (b : Scope) → IsPrintable (unnamed b) → (tokens : Text) → IsTextOf (text_of b) false tokens → (end : Stand) (v : Value) (front : Fronts wat (start_of tokens) end v) → is_some (first_deep (checks front.0)) ≡ is_deep b

abbrev pub Covered : Type 0
Covered = (f : CoreModule → Option Uncovered) (b : Scope) → first_uncovered f b ≡ None → first_uncovered f (unnamed b) ≡ None

pub valid_print : Spells → Deep → Covered → (b : Scope) → IsPrinted b → IsValidPrint b
valid_print spells deep covered b h =
    let p : Prints (text_of b) (unnamed b) = spells b h.printable in
    let z : Sizes b = sizes b h.admitted in
    let c : first_uncovered (λ c. core_uncovered c.fields) p.source ≡ None = p.covered (λ c. core_uncovered c.fields) (λ c. None) (covered (λ c. None) b h.fits.covered) in
    let l : weight module_weight p.source ≤ 67_108_864 = subst (λ n. n ≤ 67_108_864) (sym (p.weighs module_weight (λ c. 0))) z.light in
    let d : first_deep (checks p.front.0) ≡ None = none_of (first_deep (checks p.front.0)) (deep b h.printable p.tokens p.cut p.end p.value p.front ∙ z.shallow) in
    record {
      source = p.source;
      valid = record {
        small = z.short;
        spelled = record { tokens = p.tokens; cut = p.cut; end = p.end; value = p.value; front = p.front; shallow = d; definition = define p.names (row rows.Component (m.scope p.source ▸ no_leaf)); made = p.made; is = refl };
        encodable = record { covered = c; light = l; rule = p.rule the_encoding };
      };
      formed = p.formed the_encoding;
    }

pub read_back : IsSpelledOnce → ((b : Scope) → IsPrinted b → IsValidPrint b) → (b : Scope) → IsPrinted b → (bytes : List ℕ) → Encodes (text_of b) false bytes → Reads bytes (unnamed b)
read_back once valid b h bytes e =
    let v : IsValidPrint b = valid b h in
    let w : e.1.component ≡ in_text v.source = once (text_of b) false e.1.component (in_text v.source) e.1.valid.spelled v.valid.spelled in
    let k = subst (λ (x : Whole). IsEncodedAs x bytes e.0) w e.1.encoded in
    subst (Reads bytes) (k.formed ∙ v.formed) k.reads

-- ---- a text that is that of the component

pub valid_as : (xs ys : List ℕ) (s : Scope) → xs ≡ ys → IsValid ys false (in_text s) → IsValid xs false (in_text s)
valid_as xs ys s e v = subst (λ t. IsValid t false (in_text s)) (sym e) v

pub encodes_as : (xs ys bytes : List ℕ) → xs ≡ ys → Encodes xs false bytes → Encodes ys false bytes
encodes_as xs ys bytes e h = subst (λ t. Encodes t false bytes) e h
