use Rattle.std.proofs.Common.{◌≡◌, ◌∙◌, ap, sym, refl, subst, map, drop, take, ◌++◌, ◌∷◌, [], List}
use Rattle.std.specs.Prelude.{option_map}
use Rattle.comp_model.specs.ItemNames.{first_or_none}
use Rattle.text_rules.specs.Made.{first_row, first_place, owned}
use Rattle.comp_tree.specs.Model.{leaf_of, id_of, lent_text}
use Rattle.comp_tree.specs.Lists.{node_of, def_of}
use Rattle.tree_build.specs.Cores.{Grows}
use Rattle.tree_build.specs.Held.{held, loose}
use Rattle.tree_build.proofs.Prefixes.{map_more}
use Rattle.tree_build.proofs.Slices.{take_map, drop_map}
use Rattle.tree_build.proofs.Taken.{node_is}
use Rattle.tree_build.proofs.Defined.{def_made_of, def_is, owned_as}
use Rattle.tree_build.proofs.definitions.wrap_def.Goals as goal

pub returns-in-Ok : goal.returns-in-Ok
returns-in-Ok c =
    let p = c.args.scratch.now in
    let n = c.args.ends in
    let go = c.in_ok-names.ensures.rest in (
      subst (λ k. Grows k c.take_owned.new.cores) go.cores c.in_ok-leaves.ensures.grows,
      λ fs cs h a z. def_made_of n a (held fs cs p) _ z (record {
        rows = ap (λ v. v.items) go.rows ∙ c.take_row-row.ensures.rest;
        leaves = ap (map (loose fs cs)) (c.in_ok-leaves.ensures.rest ∙ ap (λ v. take n.leaves v.items) go.leaves) ∙ take_map (loose fs cs) n.leaves p.leaves.items;
        nodes = ap (λ v. map (node_of cs) v.items) go.nodes;
        ids = ap (map (option_map id_of)) go.ids ∙ take_map (option_map id_of) n.ids p.ids.items;
        labels = ap (map (option_map lent_text)) go.labels ∙ take_map (option_map lent_text) n.labels p.labels.items;
        exports = ap (map lent_text) go.exports ∙ take_map lent_text n.exports p.exports.items;
        places = ap (λ v. v.items) go.places ∙ c.truncate.ensures.items;
        defs =
            ap (map (def_of cs)) c.in-Ok.ensures.items ∙ (map_more (def_of cs) c.take_names.new.scratch.defs.items (c.def_from-def.result ∷ [])
            ∙ (ap (λ v. map (def_of cs) v.items ++ (def_of cs c.def_from-def.result ∷ [])) go.defs
            ∙ ap (λ d. map (def_of cs) p.defs.items ++ (d ∷ [])) (c.def_from-def.ensures cs
            ∙ def_is _ (drop n.ids (map (option_map id_of) p.ids.items)) _ (drop n.labels (map (option_map lent_text) p.labels.items)) _ (drop n.exports (map lent_text p.exports.items)) _ (first_place (drop n.places p.places.items)) _ _
            (ap (map (option_map id_of)) c.in_ok-names.ensures.ids ∙ drop_map (option_map id_of) n.ids p.ids.items)
            (ap (map (option_map lent_text)) c.in_ok-names.ensures.labels ∙ drop_map (option_map lent_text) n.labels p.labels.items)
            (ap (map lent_text) c.in_ok-names.ensures.exports ∙ drop_map lent_text n.exports p.exports.items)
            (c.place_at-offset.ensures ∙ ap (λ xs. first_place (drop n.places xs)) c.deref.ensures.value)
            (node_is c.take_row-row.result (first_row (drop n.rows p.rows.items)) _ _ c.take_row-row.ensures.row
            (c.in_ok-leaves.ensures.taken fs cs h
            ∙ owned_as _ (drop n.ids (map (option_map id_of) p.ids.items)) _ (drop n.labels (map (option_map lent_text) p.labels.items)) _ _ _ _
            c.first_id-id.ensures (ap (map (option_map id_of)) c.in_ok-names.ensures.ids ∙ drop_map (option_map id_of) n.ids p.ids.items)
            c.first_label-label.ensures (ap (map (option_map lent_text)) c.in_ok-names.ensures.labels ∙ drop_map (option_map lent_text) n.labels p.labels.items)
            (ap (λ v. map (loose fs cs) (drop n.leaves v.items)) go.leaves ∙ drop_map (loose fs cs) n.leaves p.leaves.items))))));
      }),
    )
