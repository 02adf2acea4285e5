-- The references of lists, entry by entry.
use Rattle.std.proofs.Common.{◌≡◌, ℕ, refl, sym, ap, ◌∙◌, List, [], ◌∷◌, ◌++◌, map, Bor, Option, ◌+◌, ◌<◌, length, drop, get_or, append_assoc, append-nil}
use Rattle.comp_model.specs.declared.Space.{Space}
use Rattle.comp_model.specs.Core.{Text}
use Rattle.comp_model.specs.Model.{Node, row, Nodes, one_node}
use Rattle.comp_wire.specs.Values.{rows_of_list, core_value_row, named_type_row, case_row, lone_type_row, lone_name_row, core_argument_row, start_argument_row, option_row, function_row}
use Rattle.comp_wire.specs.declared.values.ComponentValType.{ComponentValType}
use Rattle.comp_wire.specs.declared.values.WireVal.{WireVal}
use Rattle.comp_wire.specs.declared.values.WireFunc.{WireFunc}
use Rattle.comp_wire.specs.declared.kinds.ModuleArg.{ModuleArg}
use Rattle.comp_wire.specs.declared.canon.CanonicalOption.{CanonicalOption}
use Rattle.item_tree.specs.Model.{core_export_row, argument_row, export_row}
use Rattle.comp_list.specs.declared.places.Places.TheVariants as p
use Rattle.comp_list.specs.declared.reference.Reference.{Reference}
use Rattle.comp_list.specs.References.{node_references}
use Rattle.comp_list.proofs.DefSpots.{drop_item}
use Rattle.comp_list.specs.Places.{row_references, joined, references_at}

then_nodes : (n : Node) (ns : Nodes) → node_references (one_node n ns) ≡ row_references n ++ node_references ns
then_nodes (row t ls) ns = refl

rows_joined : {A : Type 0} (f : A → Node) (g : A → List Reference) → ((x : A) → row_references (f x) ≡ g x) → (xs : List A) → node_references (rows_of_list f xs) ≡ joined (map g xs)
rows_joined f g e [] = refl
rows_joined f g e (x ∷ xs) = then_nodes (f x) (rows_of_list f xs) ∙ ap (λ q. q ++ node_references (rows_of_list f xs)) (e x) ∙ ap (λ q. g x ++ q) (rows_joined f g e xs)

pub core_exports : (xs : Bor (List (Bor Text × Space × ℕ))) → references_at (p.Named xs) ≡ node_references (rows_of_list core_export_row xs.now)
core_exports xs = sym (rows_joined core_export_row (λ x. row_references (argument_row x)) (λ x. refl) xs.now)

pub arguments : (xs : Bor (List (Bor Text × Space × ℕ))) → references_at (p.Named xs) ≡ node_references (rows_of_list argument_row xs.now)
arguments xs = sym (rows_joined argument_row (λ x. row_references (argument_row x)) (λ x. refl) xs.now)

pub exports : (xs : Bor (List (Bor Text × Space × ℕ))) → references_at (p.Named xs) ≡ node_references (rows_of_list export_row xs.now)
exports xs = sym (rows_joined export_row (λ x. row_references (argument_row x)) (λ x. refl) xs.now)

pub instances : (xs : Bor (List (Bor Text × ModuleArg))) → references_at (p.Instances xs) ≡ node_references (rows_of_list core_argument_row xs.now)
instances xs = sym (rows_joined core_argument_row (λ x. row_references (core_argument_row x)) (λ x. refl) xs.now)

pub passed : (xs : Bor (List ℕ)) → references_at (p.Passed xs) ≡ node_references (rows_of_list start_argument_row xs.now)
passed xs = sym (rows_joined start_argument_row (λ x. row_references (start_argument_row x)) (λ x. refl) xs.now)

pub options : (xs : Bor (List CanonicalOption)) → references_at (p.Options xs) ≡ node_references (rows_of_list option_row xs.now)
options xs = sym (rows_joined option_row (λ x. row_references (option_row x)) (λ x. refl) xs.now)

pub core_values : (xs : Bor (List WireVal)) → references_at (p.CoreValues xs) ≡ node_references (rows_of_list core_value_row xs.now)
core_values xs = sym (rows_joined core_value_row (λ x. row_references (core_value_row x)) (λ x. refl) xs.now)

pub fields : (xs : Bor (List (Bor Text × ComponentValType))) → references_at (p.Fields xs) ≡ node_references (rows_of_list named_type_row xs.now)
fields xs = sym (rows_joined named_type_row (λ x. row_references (named_type_row x)) (λ x. refl) xs.now)

pub cases : (xs : Bor (List (Bor Text × Option ComponentValType))) → references_at (p.Cases xs) ≡ node_references (rows_of_list case_row xs.now)
cases xs = sym (rows_joined case_row (λ x. row_references (case_row x)) (λ x. refl) xs.now)

pub values : (xs : Bor (List ComponentValType)) → references_at (p.Values xs) ≡ node_references (rows_of_list lone_type_row xs.now)
values xs = sym (rows_joined lone_type_row (λ x. row_references (lone_type_row x)) (λ x. refl) xs.now)

-- names are no references
pub no_names : (xs : List (Bor Text)) → node_references (rows_of_list lone_name_row xs) ≡ []
no_names [] = refl
no_names (x ∷ xs) = no_names xs

-- ---- turns of the loops

-- a core function type more: its parameters, then its results
pub function_turn : (fs : List WireFunc) (i : ℕ) (f : WireFunc) (ps rs : Bor (List WireVal)) (old mid new whole : List Reference) → i < length fs → f ≡ get_or fs i f
    → ps.now ≡ f.params → rs.now ≡ f.results → mid ≡ old ++ references_at (p.CoreValues ps) → new ≡ mid ++ references_at (p.CoreValues rs)
    → old ++ node_references (rows_of_list function_row (drop i fs)) ≡ whole → new ++ node_references (rows_of_list function_row (drop (i + 1) fs)) ≡ whole
function_turn fs i f ps rs old mid new whole h is e g m n w =
    let params = references_at (p.CoreValues ps) in
    let results = references_at (p.CoreValues rs) in
    let behind = node_references (rows_of_list function_row (drop (i + 1) fs)) in
    let a : params ≡ node_references (rows_of_list core_value_row f.params) = core_values ps ∙ ap (λ q. node_references (rows_of_list core_value_row q)) e in
    let b : results ≡ node_references (rows_of_list core_value_row f.results) = core_values rs ∙ ap (λ q. node_references (rows_of_list core_value_row q)) g in
    ap (λ q. q ++ behind) (n ∙ ap (λ q. q ++ results) m)
    ∙ append_assoc (old ++ params) results behind
    ∙ append_assoc old params (results ++ behind)
    ∙ ap (λ q. old ++ (params ++ (q ++ behind))) (sym (append-nil results))
    ∙ ap (λ q. old ++ q) (sym (append_assoc params (results ++ []) behind))
    ∙ ap (λ q. old ++ ((q ++ (results ++ [])) ++ behind)) a
    ∙ ap (λ q. old ++ ((node_references (rows_of_list core_value_row f.params) ++ (q ++ [])) ++ behind)) b
    ∙ ap (λ q. old ++ node_references (rows_of_list function_row q)) (sym (drop_item fs i f h is))
    ∙ w
