-- Lists that begin with others.
use Rattle.std.proofs.Common.{◌≡◌, ℕ, zero, suc, List, [], ◌∷◌, ◌++◌, length, map, refl, ap, sym, subst, ◌∙◌, append_assoc}
use Rattle.comp_model.specs.CoreModules.{CoreModule, Field}
use Rattle.comp_model.specs.Model as m
use Rattle.comp_tree.specs.Model.{core_at}
use Rattle.tree_build.specs.Cores.{StartsWith, Final, Grows, fields_read, fields_at, module_of}
use Rattle.tree_build.specs.declared.cores.Cores.{Cores}

pub append_nil : {A : Type 0} (xs : List A) → xs ++ [] ≡ xs
append_nil [] = refl
append_nil (x ∷ xs) = ap (λ ys. x ∷ ys) (append_nil xs)

pub map_more : {A B : Type 0} (f : A → B) (xs ys : List A) → map f (xs ++ ys) ≡ map f xs ++ map f ys
map_more f [] ys = refl
map_more f (x ∷ xs) ys = ap (λ zs. f x ∷ zs) (map_more f xs ys)

pub starts_itself : {A : Type 0} (xs : List A) → StartsWith xs xs
starts_itself xs = ([], sym (append_nil xs))

pub starts_then : {A : Type 0} (xs ys zs : List A) → StartsWith xs ys → StartsWith ys zs → StartsWith xs zs
starts_then xs ys zs p q = (p.0 ++ q.0, q.1 ∙ (ap (λ us. us ++ q.0) p.1 ∙ append_assoc xs p.0 q.0))

starts_map : {A B : Type 0} (f : A → B) (xs ys : List A) → StartsWith xs ys → StartsWith (map f xs) (map f ys)
starts_map f xs ys p = (map f p.0, ap (map f) p.1 ∙ map_more f xs p.0)

pub grows_itself : (c : Cores) → Grows c c
grows_itself c = record { fields = starts_itself (fields_read c); modules = starts_itself c.modules.items }

pub grows_then : (c d e : Cores) → Grows c d → Grows d e → Grows c e
grows_then c d e p q = record {
  fields = starts_then (fields_read c) (fields_read d) (fields_read e) p.fields q.fields;
  modules = starts_then c.modules.items d.modules.items e.modules.items p.modules q.modules;
}

-- what all of a text is beside a longer list is it beside a shorter one
pub final_before : (fs : List (List Field)) (cs : List CoreModule) (c d : Cores) → Grows c d → Final fs cs d → Final fs cs c
final_before fs cs c d g f = record {
  fields = starts_then (fields_read c) (fields_read d) fs g.fields f.fields;
  modules = starts_then (map (module_of fs) c.modules.items) (map (module_of fs) d.modules.items) cs (starts_map (module_of fs) c.modules.items d.modules.items g.modules) f.modules;
}

core_behind : {A : Type 0} (f : A → CoreModule) (xs : List A) (x : A) (zs : List CoreModule) → core_at (map f (xs ++ (x ∷ [])) ++ zs) (length xs) ≡ m.core_source (f x)
core_behind f [] x zs = refl
core_behind f (y ∷ xs) x zs = core_behind f xs x zs

-- the module that was put behind others is there by their number
pub named_there : {A : Type 0} (f : A → CoreModule) (xs ys : List A) (x : A) (cs : List CoreModule) (n : ℕ) → ys ≡ xs ++ (x ∷ []) → n ≡ length xs → StartsWith (map f ys) cs → core_at cs n ≡ m.core_source (f x)
named_there f xs ys x cs n e l p =
    ap (core_at cs) l
    ∙ (ap (λ q. core_at q (length xs)) (p.1 ∙ ap (λ q. map f q ++ p.0) e) ∙ core_behind f xs x p.0)

fields_behind : {A : Type 0} (f : A → List Field) (xs : List A) (x : A) (zs : List (List Field)) → fields_at (map f (xs ++ (x ∷ [])) ++ zs) (length xs) ≡ f x
fields_behind f [] x zs = refl
fields_behind f (y ∷ xs) x zs = fields_behind f xs x zs

-- so are fields that were put behind others
pub fields_there : {A : Type 0} (f : A → List Field) (xs ys : List A) (x : A) (fs : List (List Field)) (n : ℕ) → ys ≡ xs ++ (x ∷ []) → n ≡ length xs → StartsWith (map f ys) fs → fields_at fs n ≡ f x
fields_there f xs ys x fs n e l p =
    ap (fields_at fs) l
    ∙ (ap (λ q. fields_at q (length xs)) (p.1 ∙ ap (λ q. map f q ++ p.0) e) ∙ fields_behind f xs x p.0)

pub starts_with_more : {A B : Type 0} (f : A → B) (xs ys : List A) (x : A) → ys ≡ xs ++ (x ∷ []) → StartsWith (map f xs) (map f ys)
starts_with_more f xs ys x e = (f x ∷ [], ap (map f) e ∙ map_more f xs (x ∷ []))
