use Rattle.std.proofs.Common.{◌∙◌, sym, refl}
use Rattle.wast_grammar.specs.Classes.{keyword}
use Rattle.wast_grammar.specs.Stand.{class_at}
use Rattle.wast_parser.specs.View.{stand_of}
use Rattle.token_codes.proofs.Others.{seen, seen_opening, seen_closing, seen_id, seen_rest, seen_end}
use Rattle.token_codes.proofs.next.number_at.Goals as goal

pub returns-in-Some : goal.returns-in-Some
returns-in-Some c = record { number = seen (class_at (stand_of c.args.cursor)) (class_at (stand_of c.args.cursor)) (keyword c.in-Some.spelled.now) c.keyword_number.result c.keyword_number.ensures.number c.in-Some.ensures.next.0 refl }

pub returns-in-Some-lparen : goal.returns-in-Some-lparen
returns-in-Some-lparen c = record { number = seen_opening (class_at (stand_of c.args.cursor)) (class_at (stand_of c.args.cursor)) c.in-Some-lparen.ensures.next.0 refl }

pub returns-in-Some-rparen : goal.returns-in-Some-rparen
returns-in-Some-rparen c = record { number = seen_closing (class_at (stand_of c.args.cursor)) (class_at (stand_of c.args.cursor)) c.in-Some-rparen.ensures.next.0 refl }

pub returns-in-Some-id : goal.returns-in-Some-id
returns-in-Some-id c = record { number = seen_id (class_at (stand_of c.args.cursor)) (class_at (stand_of c.args.cursor)) c.in-Some-id.ensures.next.0 refl }

pub returns-in-Some-string : goal.returns-in-Some-string
returns-in-Some-string c = record { number = seen (class_at (stand_of c.args.cursor)) (class_at (stand_of c.args.cursor)) _ c.string_number.result c.string_number.ensures c.in-Some-string.ensures.next.0 refl }

pub returns-in-Some-integer : goal.returns-in-Some-integer
returns-in-Some-integer c = record { number = seen (class_at (stand_of c.args.cursor)) (class_at (stand_of c.args.cursor)) _ c.integer_number.result c.integer_number.ensures c.in-Some-integer.ensures.next.0 refl }

pub returns-in-Some-annotation : goal.returns-in-Some-annotation
returns-in-Some-annotation c = record { number = seen (class_at (stand_of c.args.cursor)) (class_at (stand_of c.args.cursor)) _ c.annotation_number.result c.annotation_number.ensures.number c.in-Some-annotation.ensures.next.0 refl }

pub returns-else-is_at_end : goal.returns-else-is_at_end
returns-else-is_at_end c = record {
  number =
      seen_rest (class_at (stand_of c.args.cursor)) (class_at (stand_of c.args.cursor)) refl
      c.in_default.ensures.next c.in_default-lparen.ensures.next c.in_default-rparen.ensures.next c.in_default-string.ensures.next c.in_default-id.ensures.next c.in_default-integer.ensures.next c.in_default-annotation.ensures.next
      (sym c.is_at_end.ensures.end ∙ c.if-is_at_end.false);
}

pub returns-then-is_at_end : goal.returns-then-is_at_end
returns-then-is_at_end c = record {
  number =
      seen_end (class_at (stand_of c.args.cursor)) (class_at (stand_of c.args.cursor)) refl
      c.in_default.ensures.next c.in_default-lparen.ensures.next c.in_default-rparen.ensures.next c.in_default-string.ensures.next c.in_default-id.ensures.next c.in_default-integer.ensures.next c.in_default-annotation.ensures.next
      (sym c.is_at_end.ensures.end ∙ c.if-is_at_end.true);
}
