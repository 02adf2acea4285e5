-- Parameters and locals behind one another.
use Rattle.std.proofs.Common.{◌≡◌, Option, None, List, [], ◌∷◌, ◌++◌, refl, sym, ◌∙◌, ap}
use Rattle.comp_model.specs.Core.{Id}
use Rattle.comp_model.specs.CoreModules.{Local}
use Rattle.core_model.specs.Items.{each_behind}
use Rattle.core_model.specs.Types.{ids_of}
use Rattle.core_model.specs.Rule.{first_broken, broken_local, unknown_in_value, repeated}
use Rattle.core_model.proofs.Lists.{append-nil, append-assoc, map-append}
use Rattle.core_checks.specs.Parts.{broken_behind}
use Rattle.core_checks.proofs.First.{left-of-list}

module _ (types : List (Option Id)) where
  -- only the ids of those before count
  pub behind-ids : (before ls : List Local) → broken_behind types (ids_of before) ls ≡ each_behind (broken_local types) before ls
  behind-ids before [] = refl
  behind-ids before (l ∷ ls) =
      ap (λ ids. broken_local types before l ∷ broken_behind types ids ls) (sym (map-append (λ k. k.naming.id) before (l ∷ [])))
      ∙ ap (λ rs. broken_local types before l ∷ rs) (behind-ids (before ++ l ∷ []) ls)

  -- two lists, one behind the other
  pub behind-both : (ids : List (Option Id)) (ps ls : List Local) → broken_behind types ids (ps ++ ls) ≡ broken_behind types ids ps ++ broken_behind types (ids ++ ids_of ps) ls
  behind-both ids [] ls = ap (λ js. broken_behind types js ls) (sym (append-nil ids))
  behind-both ids (p ∷ ps) ls =
      ap (λ rs. first_broken (unknown_in_value types p.value ∷ repeated ids p.naming.id ∷ []) ∷ rs)
      (behind-both (ids ++ p.naming.id ∷ []) ps ls
      ∙ ap (λ js. broken_behind types (ids ++ p.naming.id ∷ []) ps ++ broken_behind types js ls) (append-assoc ids (p.naming.id ∷ []) (ids_of ps)))

-- the parameters that a function writes, and its locals behind them
pub within : (types : List (Option Id)) (ps ls : List Local) → first_broken (broken_behind types [] ps ++ broken_behind types (ids_of ps) ls) ≡ first_broken (each_behind (broken_local types) [] (ps ++ ls))
within types ps ls = ap first_broken (sym (behind-both types [] ps ls) ∙ behind-ids types [] (ps ++ ls))

-- the locals, behind parameters in which nothing is broken
pub behind-written : (types : List (Option Id)) (ps ls : List Local) (start after : List (Option Id)) → start ≡ [] → after ≡ start ++ ids_of ps → first_broken (broken_behind types start ps) ≡ None
    → first_broken (broken_behind types after ls) ≡ first_broken (each_behind (broken_local types) [] (ps ++ ls))
behind-written types ps ls start after empty added none =
    ap (λ n. first_broken (broken_behind types n ls)) (added ∙ ap (λ n. n ++ ids_of ps) empty)
    ∙ sym (left-of-list (broken_behind types [] ps) (broken_behind types (ids_of ps) ls) (ap (λ n. first_broken (broken_behind types n ps)) (sym empty) ∙ none))
    ∙ within types ps ls
