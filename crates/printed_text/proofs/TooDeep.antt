-- Where a printed text is too deep, whatever is taken for what its tokens spell.
use Rattle.std.proofs.Common.{◌≡◌, true, false, ◌||◌, cond, nat_lt, List, [], ◌∷◌, map, Option, Some, None, is_some, refl, sym, ◌∙◌, ap, subst}
use Rattle.comp_model.specs.Model.{Scope}
use Rattle.text_rules.specs.FieldRules.{wat_item}
use Rattle.text_rules.specs.Rule.{reads}
use Rattle.wast_grammar.specs.Answers.{Fronts, first_deep}
use Rattle.wast_grammar.specs.Clear.{clear}
use Rattle.wast_grammar.specs.FieldRows as rows
use Rattle.wast_grammar.specs.FormatLaws.{field_rows, fields_are_lawful}
use Rattle.wast_grammar.specs.Grammar.{Value, whole}
use Rattle.wast_grammar.specs.Lawful.{lawful_at}
use Rattle.wast_grammar.specs.Read as read
use Rattle.wast_grammar.specs.Read.{Outcome, open_at, start_of}
use Rattle.wast_grammar.specs.Shape.{sound}
use Rattle.wast_grammar.specs.Spells.{checks, unless_deep}
use Rattle.wast_grammar.specs.Stand.{Stand}
use Rattle.wast_grammar.specs.Tokens.{Text}
use Rattle.wast_grammar.specs.Unfolded.{value_rows, name_rows}
use Rattle.wast_grammar.proofs.Complete.{complete}
use Rattle.wast_parser.specs.View.{IsTextOf}
use Rattle.wast_parser.proofs.Reading.{one_text}
use Rattle.print_table.specs.Depths.{some_deep, is_deep}
use Rattle.print_table.specs.Printable.{IsPrintable}
use Rattle.print_table.specs.TextOf.{unnamed, text_of}
use Rattle.printed_text.specs.Spelled.{wat, Prints}
use Rattle.printed_text.proofs.WholeText.{TextIsWhole, text_prints}

-- the rule of a text reads the row of a text
reads_text : reads wat_item ≡ rows.wat_item
unfolding value_rows name_rows
reads_text = refl

lawful : (sound wat ≡ true) × (clear wat ≡ true)
lawful = subst (λ x. (sound x ≡ true) × (clear (whole x) ≡ true)) (sym reads_text) (lawful_at 9 rows.wat_item field_rows fields_are_lawful refl)

-- the place that is too deep, if that is what reading comes to
abbrev place_of : Outcome → Option Stand
place_of (read.reads v s) = None
place_of (read.fault s) = None
place_of (read.deep s) = Some s

place_is : (ss : List Stand) (v : Value) (t : Stand) → place_of (unless_deep ss (read.reads v t)) ≡ first_deep ss
place_is [] v t = refl
place_is (s ∷ ss) v t =
    let r = place_is ss v t in
    elim (nat_lt 100 (open_at s)) as (λ b. place_of (cond b (read.deep s) (unless_deep ss (read.reads v t))) ≡ cond b (Some s) (first_deep ss)) [ true ↦ refl | false ↦ r ]

-- what spells a text from one place on has the same first item that is too deep
one_place : (s t r : Stand) (v w : Value) (d : Fronts wat s t v) (e : Fronts wat s r w) → first_deep (checks d.0) ≡ first_deep (checks e.0)
one_place s t r v w d e =
    sym (place_is (checks d.0) v t)
    ∙ ap place_of (sym (complete d.0 lawful.0 lawful.1 d.1) ∙ complete e.0 lawful.0 lawful.1 e.1)
    ∙ place_is (checks e.0) w r

some_deep_is : (ss : List Stand) → is_some (first_deep ss) ≡ some_deep (map open_at ss)
some_deep_is [] = refl
some_deep_is (s ∷ ss) =
    let r = some_deep_is ss in
    elim (nat_lt 100 (open_at s)) as (λ b. is_some (cond b (Some s) (first_deep ss)) ≡ (b || some_deep (map open_at ss))) [ true ↦ refl | false ↦ r ]

pub deep_by_rows : TextIsWhole → (b : Scope) → IsPrintable (unnamed b) → (ts : Text) → IsTextOf (text_of b) false ts → (t : Stand) (v : Value) (d : Fronts wat (start_of ts) t v) → is_some (first_deep (checks d.0)) ≡ is_deep b
deep_by_rows w b h ts c t v d =
    let p : Prints (text_of b) (unnamed b) = text_prints w b h in
    let f : (x : Fronts wat (start_of ts) p.end p.value) × (is_some (first_deep (checks x.0)) ≡ is_deep b) =
    subst (λ (q : Text). (x : Fronts wat (start_of q) p.end p.value) × (is_some (first_deep (checks x.0)) ≡ is_deep b)) (one_text (text_of b) false p.tokens ts p.cut c) (p.front, some_deep_is (checks p.front.0) ∙ ap some_deep p.depths)
    in
    ap is_some (one_place (start_of ts) t p.end v p.value d f.0) ∙ f.1
