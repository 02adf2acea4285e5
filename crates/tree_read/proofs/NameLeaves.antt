-- The leaves of names.
use Rattle.std.proofs.Common.{◌≡◌, List, [], ◌∷◌, Option, Some, None, Bool, true, false, Result, Ok, Err, refl, ap, sym, subst, ◌∙◌, Bor}
use Rattle.std.specs.Prelude.{IfOk, not, is_some, ◌&&◌}
use Rattle.comp_model.specs.Core.{Text}
use Rattle.comp_model.specs.CoreModules.{CoreModule}
use Rattle.comp_model.specs.Model as m
use Rattle.comp_model.specs.Model.{◌▸◌}
use Rattle.comp_model.specs.declared.row.Row.TheVariants as rows
use Rattle.text_rules.specs.Makes.{attribute, extern_name}
use Rattle.comp_tree.specs.Lists.{listed, node_of}
use Rattle.comp_tree.specs.Model.{leaf_of}
use Rattle.comp_tree.specs.declared.tree.Leaf.{Leaf}
use Rattle.comp_tree.specs.declared.tree.Leaf as l
use Rattle.comp_tree.specs.declared.tree.Node.{Node}
use Rattle.comp_tree.proofs.Leaves.{leaf_node}
use Rattle.tree_read.specs.NameParts.{attribute_view, attributed, name_made, none_said}
use Rattle.tree_read.specs.declared.names.NameAttributes.{NameAttributes}

row_of : Text → m.Leaf → m.Leaf → m.Leaf → m.Leaf
row_of t a b c = m.node (m.row rows.AttributedName (m.text t ▸ a ▸ b ▸ c ▸ m.no_leaf))

pub node_is : (cs : List CoreModule) (p : Bor Node) (n : Node) (t : Bor Text) (x : NameAttributes) (a b c : Leaf) → p.now ≡ n → node_of cs n ≡ m.row rows.AttributedName (listed cs (l.Text t ∷ a ∷ b ∷ c ∷ []))
    → leaf_of cs a ≡ attribute (attribute_view x.implements) → leaf_of cs b ≡ attribute (attribute_view x.version_suffix) → leaf_of cs c ≡ attribute (attribute_view x.external_id)
    → leaf_of cs (l.Node p) ≡ attributed t.now x
unfolding row_of
node_is cs p n t x a b c e f u v w =
    leaf_node cs p
    ∙ (ap (λ q. m.node (node_of cs q)) e
    ∙ (ap m.node f
    ∙ (ap (λ y. row_of t.now y (leaf_of cs b) (leaf_of cs c)) u
    ∙ (ap (λ y. row_of t.now (attribute (attribute_view x.implements)) y (leaf_of cs c)) v
    ∙ ap (row_of t.now (attribute (attribute_view x.implements)) (attribute (attribute_view x.version_suffix))) w))))

plain_by : (t : Text) (a b c : Option (Bor Text)) → (not (is_some a) && (not (is_some b) && not (is_some c))) ≡ true → m.text t ≡ extern_name t (attribute_view a) (attribute_view b) (attribute_view c)
plain_by t None None None h = refl
plain_by t (Some x) b c h = absurd (cc)
plain_by t None (Some x) c h = absurd (cc)
plain_by t None None (Some x) h = absurd (cc)

pub plain : (t : Bor Text) (x : NameAttributes) → none_said x ≡ true → m.text t.now ≡ name_made t x
plain t x h = plain_by t.now x.implements x.version_suffix x.external_id h

attributed_by : (t : Text) (a b c : Option (Bor Text)) → (not (is_some a) && (not (is_some b) && not (is_some c))) ≡ false
    → row_of t (attribute (attribute_view a)) (attribute (attribute_view b)) (attribute (attribute_view c)) ≡ extern_name t (attribute_view a) (attribute_view b) (attribute_view c)
unfolding row_of
attributed_by t None None None h = absurd (cc)
attributed_by t (Some x) b c h = refl
attributed_by t None (Some x) c h = refl
attributed_by t None None (Some x) h = refl

pub with_attributes : (t : Bor Text) (x : NameAttributes) → none_said x ≡ false → attributed t.now x ≡ name_made t x
unfolding row_of
with_attributes t x h = attributed_by t.now x.implements x.version_suffix x.external_id h

pub made_so : {E : Type 0} (f : Leaf → m.Leaf) (x y : m.Leaf) (r : Result Leaf E) → x ≡ y → IfOk r (λ z. f z ≡ x) → IfOk r (λ z. f z ≡ y)
made_so f x y r e h = subst (λ q. IfOk r (λ z. f z ≡ q)) e h
