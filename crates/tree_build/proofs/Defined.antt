-- What is held when a definition was made of what stands behind its ends.
use Rattle.std.proofs.Common.{◌≡◌, ℕ, refl, ap, sym, subst, ◌∙◌, List, map, take, drop, length, ◌++◌, [], ◌∷◌, Option}
use Rattle.comp_model.specs.Core as core
use Rattle.comp_model.specs.Model as m
use Rattle.comp_model.specs.ItemNames.{first_or_none}
use Rattle.text_rules.specs.Made.{Made, join, front, behind, owned, leaves_from, first_row, first_place}
use Rattle.text_rules.specs.Makes.{wrapped}
use Rattle.text_rules.specs.Rule.{a_def}
use Rattle.tree_build.specs.Ends.{IsAtDefEnds}
use Rattle.tree_build.specs.declared.definitions.DefEnds.{DefEnds}
use Rattle.tree_build.proofs.Wrapped.{made_eq, def_wrapped}

-- the parts of a definition behind so many of each
pub record Defined (r l i n e p : ℕ) (h b : Made) : Type 0 where
  pub rows : b.rows ≡ take r h.rows
  pub leaves : b.leaves ≡ take l h.leaves
  pub nodes : b.nodes ≡ h.nodes
  pub ids : b.ids ≡ take i h.ids
  pub labels : b.labels ≡ take n h.labels
  pub exports : b.exports ≡ take e h.exports
  pub places : b.places ≡ take p h.places
  pub defs : b.defs ≡ h.defs ++ (m.define (record { ids = drop i h.ids; labels = drop n h.labels; exports = drop e h.exports; offset = first_place (drop p h.places) })
      (m.row (first_row (drop r h.rows)) (leaves_from (map (owned (first_or_none (drop i h.ids)) (first_or_none (drop n h.labels))) (drop l h.leaves)))) ∷ [])

made_of : (a h b : Made) → Defined (length a.rows) (length a.leaves) (length a.ids) (length a.labels) (length a.exports) (length a.places) h b → b ≡ join (front a h) (wrapped a_def (behind a h))
made_of a h b x = def_wrapped a h b (made_eq _ _ x.rows x.leaves x.nodes x.ids x.labels x.exports x.places x.defs)

pub def_made_of : (n : DefEnds) (a h b : Made) → IsAtDefEnds n a → Defined n.rows n.leaves n.ids n.labels n.exports n.places h b → b ≡ join (front a h) (wrapped a_def (behind a h))
def_made_of n a h b z x = made_of a h b
    (subst (λ k. Defined k (length a.leaves) (length a.ids) (length a.labels) (length a.exports) (length a.places) h b) (sym z.rows)
    (subst (λ k. Defined n.rows k (length a.ids) (length a.labels) (length a.exports) (length a.places) h b) (sym z.leaves)
    (subst (λ k. Defined n.rows n.leaves k (length a.labels) (length a.exports) (length a.places) h b) (sym z.ids)
    (subst (λ k. Defined n.rows n.leaves n.ids k (length a.exports) (length a.places) h b) (sym z.labels)
    (subst (λ k. Defined n.rows n.leaves n.ids n.labels k (length a.places) h b) (sym z.exports)
    (subst (λ k. Defined n.rows n.leaves n.ids n.labels n.exports k h b) (sym z.places) x))))))

-- definitions whose parts are equal
pub def_is : (i j : List (Option core.Id)) (l k : List (Option core.Text)) (e f : List core.Text) (o p : ℕ) (x y : m.Node) → i ≡ j → l ≡ k → e ≡ f → o ≡ p → x ≡ y
    → m.define (record { ids = i; labels = l; exports = e; offset = o }) x ≡ m.define (record { ids = j; labels = k; exports = f; offset = p }) y
def_is i j l k e f o p x y a b c d z =
    ap (λ q. m.define (record { ids = q; labels = l; exports = e; offset = o }) x) a
    ∙ (ap (λ q. m.define (record { ids = j; labels = q; exports = e; offset = o }) x) b
    ∙ (ap (λ q. m.define (record { ids = j; labels = k; exports = q; offset = o }) x) c
    ∙ (ap (λ q. m.define (record { ids = j; labels = k; exports = f; offset = q }) x) d
    ∙ ap (λ q. m.define (record { ids = j; labels = k; exports = f; offset = p }) q) z)))

-- leaves that are those of definitions with equal names
pub owned_as : (i j : List (Option core.Id)) (l k : List (Option core.Text)) (x : Option core.Id) (y : Option core.Text) (ls ks : List m.Leaf) → x ≡ first_or_none i → i ≡ j → y ≡ first_or_none l → l ≡ k → ls ≡ ks
    → map (owned x y) ls ≡ map (owned (first_or_none j) (first_or_none k)) ks
owned_as i j l k x y ls ks e f g h z =
    ap (λ q. map (owned q y) ls) (e ∙ ap first_or_none f)
    ∙ (ap (λ q. map (owned (first_or_none j) q) ls) (g ∙ ap first_or_none h)
    ∙ ap (map (owned (first_or_none j) (first_or_none k))) z)
