-- What texts come to: small texts as their tokens, read whole by a rule.
use Rattle.std.specs.Prelude.{◌≡◌, ℕ, ◌+◌, nat_eq, nat_le, cond, ◌&&◌, ◌||◌, List, [], ◌∷◌, ◌++◌, map, Bool, Option, Some, None, codes, length}
use Prim.Native.String.{String}
use Rattle.std.specs.Str.{is_utf8, chars}
use Rattle.std.specs.Char.{encode_utf8}
use Rattle.wast_tokens.specs.declared.token.TokenKind.{TokenKind}
use Rattle.wast_tokens.specs.declared.token.TokenKind.TheVariants.{LParen, RParen, Id, Text, Keyword, Integer, Annotation}
use Rattle.wast_tokens.specs.Strings.{is_plain, short_escape, is_scalar, escape_at}
use Rattle.wast_grammar.specs.Tokens.{Tok}
use Rattle.wast_grammar.specs.Stand.{Stand, offset_of}
use Rattle.wast_grammar.specs.Grammar.{whole}
use Rattle.wast_grammar.specs.Rows.{text_row}
use Rattle.wast_grammar.specs.Unfolded.{value_rows, name_rows, core_rows}
use Rattle.wast_grammar.specs.Read as g
use Rattle.wast_grammar.specs.Read.{Outcome, read, fueled, again, skip, skip_rest}
use Rattle.comp_model.specs.Core as core
use Rattle.comp_model.specs.Core.{outward}
use Rattle.comp_model.specs.CoreModules as c
use Rattle.comp_model.specs.Model as m
use Rattle.comp_model.specs.declared.row.ScopeKind.{ScopeKind}
use Rattle.comp_model.specs.declared.row.ScopeKind.TheVariants as kinds
use Rattle.comp_model.specs.declared.row.Row.TheVariants as rows
use Rattle.comp_model.specs.Makers as make
use Rattle.text_rules.specs.Made.{Made, empty, defs_from}
use Rattle.text_rules.specs.Rule.{Rule, reads}
use Rattle.text_rules.specs.CoreMade.{list_made, core_module_of}
use Rattle.text_rules.specs.Makes.{makes}

-- ---- the tokens of a text in which no comment stands and no id is spelled as a string

-- what a character is
pub data Sign : Type 0 where
  space : Sign
  opening : Sign
  closing : Sign
  quote : Sign
  backslash : Sign
  at_sign : Sign
  other : Sign

abbrev sign : ℕ → Sign
sign c =
    cond (nat_eq c 32 || nat_eq c 10) space
    (cond (nat_eq c 40) opening
    (cond (nat_eq c 41) closing
    (cond (nat_eq c 34) quote
    (cond (nat_eq c 92) backslash
    (cond (nat_eq c 64) at_sign other)))))

-- what a character stands in, from which offset, and its characters so far
pub data Within : Type 0 where
  nothing : Within
  -- behind a parenthesis, which an annotation begins with
  opened : ℕ → Within
  word : ℕ → List ℕ → Within
  string : ℕ → List ℕ → Within
  -- a string, behind a backslash
  escape : ℕ → List ℕ → Within

-- by its first character: `$`, `(`, a sign or a digit, or another
abbrev kind : List ℕ → TokenKind
kind [] = Keyword
kind (c ∷ w) = cond (nat_eq c 36) Id (cond (nat_eq c 40) Annotation (cond (nat_eq c 43 || (nat_eq c 45 || (nat_le 48 c && nat_le c 57))) Integer Keyword))

abbrev token : TokenKind → ℕ → List ℕ → Tok
token k n w = record { kind = k; start = n; spelled = w }

abbrev ended : Within → List Tok → List Tok
ended (opened n) ts = token LParen n (codes "(") ∷ ts
ended (word n w) ts = token (kind w) n w ∷ ts
ended x ts = ts

-- the tokens from a character on, which stands at an offset, by those behind it
abbrev from_sign : Sign → ℕ → ℕ → Within → (Within → List Tok) → List Tok
from_sign quote n c (string k w) f = token Text k (w ++ (c ∷ [])) ∷ f nothing
from_sign backslash n c (string k w) f = f (escape k (w ++ (c ∷ [])))
from_sign s n c (string k w) f = f (string k (w ++ (c ∷ [])))
from_sign s n c (escape k w) f = f (string k (w ++ (c ∷ [])))
from_sign space n c x f = ended x (f nothing)
from_sign opening n c x f = ended x (f (opened n))
from_sign closing n c x f = ended x (token RParen n (c ∷ []) ∷ f nothing)
from_sign quote n c x f = ended x (f (string n (c ∷ [])))
from_sign at_sign n c (opened k) f = f (word k (40 ∷ c ∷ []))
from_sign s n c (word k w) f = f (word k (w ++ (c ∷ [])))
from_sign s n c x f = ended x (f (word n (c ∷ [])))

abbrev tokens_from : ℕ → List ℕ → Within → List Tok
tokens_from n [] x = ended x []
tokens_from n (c ∷ cs) x = from_sign (sign c) n c x (tokens_from (n + 1) cs)

-- before the first token of a text
abbrev pub stand : Bool → List ℕ → Stand
stand legacy text = record { text = record { tokens = tokens_from 0 text nothing; size = length text; legacy = legacy }; at = 0 }

-- ---- what a reading comes to

-- what the rule leaves, or the offset of a token that doesn't fit, or of one below too many parentheses
pub data Answer : Type 0 where
  leaves : Made → Answer
  unfit : ℕ → Answer
  too_deep : ℕ → Answer

abbrev answer_of : Rule → Outcome → Answer
answer_of r (g.reads v t) = leaves (makes v r)
answer_of r (g.fault t) = unfit (offset_of t)
answer_of r (g.deep t) = too_deep (offset_of t)

-- All that it computes with stands here, so that to unfold it is enough.
unfoldable pub answer : Rule → Bool → List ℕ → Answer
unfolding value_rows name_rows core_rows text_row fueled again skip skip_rest makes list_made core_module_of is_utf8 chars encode_utf8 is_plain short_escape is_scalar escape_at
answer r legacy text = answer_of r (read (whole (reads r)) (stand legacy text))

-- one definition, and nothing else
abbrev pub one : m.Def → Answer
one d = leaves (record empty { defs = d ∷ [] })

-- a table of texts, each with what it comes to
abbrev pub Texts : Type 0
Texts = List (String × Answer)

-- each text comes to what stands behind it, with or without older forms
abbrev pub ComeToThese : Rule → Bool → Texts → Type 0
ComeToThese r legacy ts = map (λ t. answer r legacy (codes t.0)) ts ≡ map (λ t. t.1) ts

-- each table of texts does
abbrev pub AllCome : Rule → Bool → List Texts → Type 0
AllCome r legacy [] = Unit {0}
AllCome r legacy (ts ∷ tables) = ComeToThese r legacy ts × AllCome r legacy tables

-- the lines of a text
abbrev pub lines : List String → List ℕ
lines [] = []
lines (w ∷ []) = codes w
lines (w ∷ ws) = codes w ++ (10 ∷ lines ws)

-- each text of several lines comes to what stands behind it
abbrev pub LongCome : Rule → Bool → List (List String × Answer) → Type 0
LongCome r legacy [] = Unit {0}
LongCome r legacy (t ∷ ts) = (answer r legacy (lines t.0) ≡ t.1) × LongCome r legacy ts

-- ---- definitions, short

abbrev pub an_id : ℕ → String → core.Id
an_id n w = record { name = codes w; number = 0; offset = n }

abbrev pub named_at : ℕ → List (Option core.Id) → List (Option core.Text) → List core.Text → m.Node → m.Def
named_at n ids labels exports node = m.define (record { ids = ids; labels = labels; exports = exports; offset = n }) node

-- without names; with an id alone
abbrev pub at : ℕ → m.Node → m.Def
at n node = m.define (m.nameless_at n) node

abbrev pub at_id : ℕ → core.Id → m.Node → m.Def
at_id n x node = named_at n (Some x ∷ []) [] [] node

-- a scope without names, and the component of one
abbrev pub of_kind : ScopeKind → List m.Def → m.Scope
of_kind k ds = m.scope_of k None None (defs_from ds)

-- a scope with an id
abbrev pub of_named : ScopeKind → core.Id → List m.Def → m.Scope
of_named k x ds = m.scope_of k (Some x) None (defs_from ds)

abbrev pub component : List m.Def → m.Node
component ds = make.component (of_kind kinds.Component ds)

-- a name that is looked for outward
abbrev pub by_name : ℕ → String → m.Target
by_name n w = m.name outward (an_id n w)

-- exports of an item, by its name and by its number
abbrev pub exports_of : m.Path → List String → m.Path
exports_of p [] = p
exports_of p (w ∷ ws) = exports_of (m.export_of p (codes w)) ws

abbrev pub path_by : ℕ → String → List String → m.Target
path_by n x ws = m.path (exports_of (m.root_name (an_id n x)) ws)

abbrev pub path_at : ℕ → ℕ → List String → m.Target
path_at n k ws = m.path (exports_of (m.root_number n k) ws)

-- the description of a function without parameters and result, and the type of such a core function, where they stand
abbrev pub plain_func : m.Node
plain_func = make.described_by rows.FuncDescription (m.inline (make.function_type 0 m.no_node m.absent))

abbrev pub plain_core_func : m.Target
plain_core_func = m.inline (make.core_function_type m.no_node m.no_node)

-- an import with a name alone
abbrev pub import_of : String → m.Node → m.Node
import_of w node = make.import_row (m.text (codes w)) node

-- ---- core modules, short

abbrev pub nameless : c.Naming
nameless = record { id = None; label = None }

abbrev pub with_id : core.Id → c.Naming
with_id x = record { id = Some x; label = None }

abbrev pub not_inline : c.Inline
not_inline = record { exports = []; imported = None }

abbrev pub no_use : c.TypeUse
no_use = record { index = None; signature = None }

abbrev pub exporting : List core.Text → c.Inline
exporting names = record { exports = names; imported = None }

abbrev pub a_local : c.Naming → core.CoreValue → c.Local
a_local n v = record { naming = n; value = v }

abbrev pub core_function : List c.Local → List core.CoreValue → c.FunctionType
core_function params results = record { params = params; results = results }

-- a type use: a signature, an index, or both
abbrev pub by_signature : c.FunctionType → c.TypeUse
by_signature t = record { index = None; signature = Some t }

abbrev pub by_index : c.Index → c.TypeUse
by_index i = record { index = Some i; signature = None }

abbrev pub by_both : c.Index → c.FunctionType → c.TypeUse
by_both i t = record { index = Some i; signature = Some t }

abbrev pub limits : ℕ → Option ℕ → c.Limits
limits least most = record { least = least; most = most }

abbrev pub core_fields : c.Naming → List c.Field → m.Leaf
core_fields n fields = m.core_source (record { naming = n; fields = fields })

abbrev pub core_module : c.Naming → List c.Field → m.Node
core_module n fields = make.core_module (core_fields n fields)
