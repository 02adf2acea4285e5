use Rattle.wast_grammar.specs.Stand.{class_at}
use Rattle.wast_parser.specs.View.{stand_of}
use Rattle.std.proofs.Common.{refl}
use Rattle.token_codes.proofs.Others.{seen_opening, seen_closing}
use Rattle.token_codes.proofs.next.number_next.Goals as goal

pub returns-in-Some : goal.returns-in-Some
returns-in-Some c = seen_opening (class_at (stand_of c.args.cursor)) _ c.in-Some.ensures.next.0 refl

pub returns-in-Some-rparen : goal.returns-in-Some-rparen
returns-in-Some-rparen c = seen_closing (class_at (stand_of c.args.cursor)) _ c.in-Some-rparen.ensures.next.0 refl
