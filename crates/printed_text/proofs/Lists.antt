-- Lists that were printed, entry by entry.
use Rattle.printed_text.proofs.GoodWords.{w_result, w_value}
use Rattle.std.proofs.Common.{◌≡◌, ℕ, zero, suc, ◌+◌, true, List, [], ◌∷◌, refl, sym, ap, subst, arith, ⊎_elim}
use Rattle.std.proofs.lemmas.Bool.{cases_eq}
use Rattle.std.proofs.lemmas.Bool.Decides.{nat_tests}
use Prim.Native.String.{String}
use Rattle.comp_model.specs.Model.{Node, Nodes, no_node, one_node, no_names, Def, define, Defs, no_def, one_def}
use Rattle.comp_model.specs.Rows.{is_primitive_code}
use Rattle.wast_grammar.specs.Grammar as g
use Rattle.wast_grammar.specs.Grammar.{Test}
use Rattle.text_rules.specs.Made.{nodes_from, defs_from}
use Rattle.text_rules.specs.Rule as r
use Rattle.text_rules.specs.Rule.{Rule}
use Rattle.text_rules.specs.Forms as form
use Rattle.print_table.specs.TextOf.{in_group, node_tokens, nodes_tokens, groups_tokens, results_tokens}
use Rattle.print_table.specs.Printable.{Each}
use Rattle.printed_text.proofs.Opened.{still, node_deep, defs_deep}
use Rattle.printed_text.proofs.Standing.{Bin}
use Rattle.printed_text.proofs.Prints.{Prints, Any, p_none, p_more, as_bin}
use Rattle.printed_text.proofs.Items as i
use Rattle.printed_text.proofs.Follow.{goes}

abbrev pub nodes_list : Nodes → List Node
nodes_list no_node = []
nodes_list (one_node n ns) = n ∷ nodes_list ns

abbrev pub defs_list : Defs → List Def
defs_list no_def = []
defs_list (one_def d ds) = d ∷ defs_list ds

pub nodes_back : (ns : Nodes) → nodes_from (nodes_list ns) ≡ ns
nodes_back no_node = refl
nodes_back (one_node n ns) = ap (one_node n) (nodes_back ns)

pub defs_back : (ds : Defs) → defs_from (defs_list ds) ≡ ds
defs_back no_def = refl
defs_back (one_def d ds) = ap (one_def d) (defs_back ds)

abbrev pub an_entry : Node → Bin
an_entry n = record { rows = []; leaves = []; nodes = n ∷ []; defs = []; count = 0; walk = still }

abbrev pub entries : Nodes → Bin
entries ns = record { rows = []; leaves = []; nodes = nodes_list ns; defs = []; count = 0; walk = still }

-- with an id for each, which is missing
abbrev pub a_part : Node → Bin
a_part n = record { rows = []; leaves = []; nodes = n ∷ []; defs = []; count = 1; walk = still }

abbrev pub how_many : Nodes → ℕ
how_many no_node = 0
how_many (one_node n ns) = 1 + how_many ns

abbrev pub some_parts : Nodes → Bin
some_parts ns = record { rows = []; leaves = []; nodes = nodes_list ns; defs = []; count = how_many ns; walk = still }

pub groups_print : (P : Node → Type 0) (t : Test) (q : Rule) (x : String) → ((n : Node) → P n → Prints q (in_group x (node_tokens n)) (an_entry n) Any) → (ns : Nodes) → Each P ns → Prints (r.many t q) (groups_tokens x ns) (entries ns) Any
groups_print P t q x f no_node h = p_none t
groups_print P t q x f (one_node n ns) h = p_more t (λ ys w. tt) (f n h.0) (groups_print P t q x f ns h.1)

pub parts_print : (P : Node → Type 0) (t : Test) (q : Rule) (x : String) → ((n : Node) → P n → Prints q (in_group x (node_tokens n)) (a_part n) Any) → (ns : Nodes) → Each P ns → Prints (r.many t q) (groups_tokens x ns) (some_parts ns) Any
parts_print P t q x f no_node h = p_none t
parts_print P t q x f (one_node n ns) h = p_more t (λ ys w. tt) (f n h.0) (parts_print P t q x f ns h.1)

pub nodes_print : (P : Node → Type 0) (t : Test) (q : Rule) → ((n : Node) → P n → Prints q (node_tokens n) (an_entry n) Any) → (ns : Nodes) → Each P ns → Prints (r.many t q) (nodes_tokens ns) (entries ns) Any
nodes_print P t q f no_node h = p_none t
nodes_print P t q f (one_node n ns) h = p_more t (λ ys w. tt) (f n h.0) (nodes_print P t q f ns h.1)

-- the results of a start function
abbrev pub result_rule : Rule
result_rule = form.group (form.word "result" (form.group (form.word "value" form.part_id)))

abbrev pub ids : ℕ → Bin
ids n = record { rows = []; leaves = []; nodes = []; defs = []; count = n; walk = still }

abbrev one_result : List i.Item
one_result = i.in_group (i.a_word "result" w_result ∷ i.in_group (i.a_word "value" w_value ∷ []))

pub results_print : (n : ℕ) → Prints (r.many g.going result_rule) (results_tokens n) (ids n) Any
results_print zero = p_none g.going
results_print (suc n) =
    let e : 1 + n ≡ suc n = omega arith in
    as_bin (ap ids e) (p_more g.going (λ ys w. tt) (goes 9 result_rule one_result refl) (results_print n))

-- ---- definitions

abbrev pub a_def : Node → Bin
a_def n = record { rows = []; leaves = []; nodes = []; defs = define no_names n ∷ []; count = 0; walk = record { level = λ d. d; deep = node_deep n } }

abbrev pub some_defs : Defs → Bin
some_defs ds = record { rows = []; leaves = []; nodes = []; defs = defs_list ds; count = 0; walk = record { level = λ d. d; deep = defs_deep ds } }

-- another definition, with the checked items of this one
abbrev pub a_def_as : Node → Node → Bin
a_def_as n k = record { rows = []; leaves = []; nodes = []; defs = define no_names k ∷ []; count = 0; walk = record { level = λ d. d; deep = node_deep n } }

-- ---- primitive types

pick : (P : ℕ → Type 0) (n c : ℕ) → P c → ((n ≡ c → ⊥) → P n) → P n
pick P n c p f = ⊎_elim (λ e. subst P (sym e) p) f (cases_eq n c)

none_left : (n : ℕ) → is_primitive_code n ≡ true → (n ≡ 100 → ⊥) → (n ≡ 115 → ⊥) → (n ≡ 116 → ⊥) → (n ≡ 117 → ⊥) → (n ≡ 118 → ⊥) → (n ≡ 119 → ⊥) → (n ≡ 120 → ⊥) → (n ≡ 121 → ⊥) → (n ≡ 122 → ⊥) → (n ≡ 123 → ⊥) → (n ≡ 124 → ⊥) → (n ≡ 125 → ⊥) → (n ≡ 126 → ⊥) → (n ≡ 127 → ⊥) → ⊥
none_left n h e100 e115 e116 e117 e118 e119 e120 e121 e122 e123 e124 e125 e126 e127 = grind (arith, nat_tests)

pub by_primitive : (P : ℕ → Type 0) → P 100 → P 115 → P 116 → P 117 → P 118 → P 119 → P 120 → P 121 → P 122 → P 123 → P 124 → P 125 → P 126 → P 127 → (n : ℕ) → is_primitive_code n ≡ true → P n
by_primitive P p100 p115 p116 p117 p118 p119 p120 p121 p122 p123 p124 p125 p126 p127 n h =
    pick P n 100 p100 (λ e100. pick P n 115 p115 (λ e115. pick P n 116 p116 (λ e116. pick P n 117 p117 (λ e117. pick P n 118 p118 (λ e118. pick P n 119 p119 (λ e119. pick P n 120 p120 (λ e120. pick P n 121 p121 (λ e121. pick P n 122 p122 (λ e122. pick P n 123 p123 (λ e123. pick P n 124 p124 (λ e124. pick P n 125 p125 (λ e125. pick P n 126 p126 (λ e126. pick P n 127 p127 (λ e127. absurd (none_left n h e100 e115 e116 e117 e118 e119 e120 e121 e122 e123 e124 e125 e126 e127)))))))))))))))
