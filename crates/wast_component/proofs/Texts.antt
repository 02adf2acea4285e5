-- From what the layers answer to what the encoder answers for a text.
use Rattle.std.proofs.Common.{inl, inr, ◌⊎◌, ◌≡◌, refl, sym, ap, subst, ℕ, ◌≤◌, List, [], ◌∷◌, Bool, length, Option, Some, Ok, Err}
use Rattle.comp_model.specs.Model as m
use Rattle.comp_model.specs.Model.{Scope, Def, ◌▸◌, no_leaf}
use Rattle.comp_model.specs.Origins.{Origins, no_origins}
use Rattle.comp_model.specs.declared.row.Row.TheVariants as rows
use Rattle.comp_scopes.specs.Form.{form, plan}
use Rattle.comp_scopes.proofs.Agree.{form-renders}
use Rattle.comp_scopes.proofs.RowsRowed.{scope-rowed}
use Rattle.comp_wire.specs.declared.origin.ScopeOrigins.{ScopeOrigins}
use Rattle.comp_tree.specs.Lists.{def_of}
use Rattle.open_scopes.specs.Refusals.{no_memory}
use Rattle.text_rules.specs.FieldRules.{wat_item}
use Rattle.text_rules.specs.Made.{Made}
use Rattle.text_rules.specs.Makes.{makes}
use Rattle.text_rules.specs.Whole.{one_definition, IsComponent, IsModule, IsBytes, IsOfComponent, IsOfModule}
use Rattle.tree_write.specs.Wire.{the_encoding}
use Rattle.tree_build.specs.Cores.{cores_of}
use Rattle.tree_read.specs.Whole.{GivesText}
use Rattle.tree_read.specs.declared.text.TextTree.{TextTree}
use Rattle.wast_tokens.specs.declared.error.Error.{Error}
use Rattle.wast_tokens.specs.declared.error.ErrorKind.{ErrorKind}
use Rattle.wast_tokens.specs.declared.error.ErrorKind.TheVariants as kinds
use Rattle.wast_tokens.specs.Lexing.{LexRefuses}
use Rattle.wast_grammar.specs.Answers.{IsRead, ReaderRefuses}
use Rattle.wast_grammar.specs.Grammar.{Value}
use Rattle.wast_grammar.specs.Read.{FailsAs, reads, read, start_of}
use Rattle.wast_grammar.specs.Stand.{Stand}
use Rattle.wast_grammar.specs.Tokens.{Text}
use Rattle.wast_grammar.proofs.Sound.{answers}
use Rattle.wast_parser.specs.View.{IsTextOf}
use Rattle.wast_component.specs.Encodable.{CanBeEncoded, IsEncodedAs, WrittenAs, whole_refusal}
use Rattle.wast_component.specs.Answer.{EncodesWith, TextRefuses, too_long, not_cut, not_spelled, too_deep, not_encodable, EncoderRefuses}
use Rattle.wast_component.specs.Shown.{Shows}
use Rattle.wast_component.specs.Whole.{Whole, in_text, in_binary, a_module, whole_of, wat, SpellsWhole, IsOfText}
use Rattle.wast_component.proofs.Rows.{sound_text, clear_text}

-- ---- what was read

-- one definition alone is that one
pub defs_of_one : (d e : Def) → one_definition d ≡ one_definition e → d ≡ e
defs_of_one d e h = let k : (d ∷ []) ≡ (e ∷ []) = ap (λ (a : Made). a.defs) h in cc

-- a component of the table is one of the text
of_component : (d : Def) → IsComponent d → IsOfText (whole_of d)
of_component (m.define ns n) h = subst (λ x. IsOfText (whole_of (m.define ns x))) (sym h.1) (h.2, h.5, h.6)

of_bytes : (d : Def) → IsBytes rows.Component d → IsOfText (whole_of d)
of_bytes (m.define ns n) h = subst (λ x. IsOfText (whole_of (m.define ns x))) (sym h.1) tt

of_module : (d : Def) → IsModule d → IsOfText (whole_of d)
of_module (m.define ns n) h = subst (λ x. IsOfText (whole_of (m.define ns x))) (sym h.1) tt

of_module_bytes : (d : Def) → IsBytes rows.CoreModule d → IsOfText (whole_of d)
of_module_bytes (m.define ns n) h = subst (λ x. IsOfText (whole_of (m.define ns x))) (sym h.1) tt

pub of_table : (d : Def) → (IsOfComponent (one_definition d) ⊎ IsOfModule (one_definition d)) → IsOfText (whole_of d)
of_table d (inl h) = subst (λ x. IsOfText (whole_of x)) (sym (defs_of_one d h.0 h.1)) (elim h.2 [ inl c ↦ of_component h.0 c | inr b ↦ of_bytes h.0 b ])
of_table d (inr h) = subst (λ x. IsOfText (whole_of x)) (sym (defs_of_one d h.0 h.1)) (elim h.2 [ inl c ↦ of_module h.0 c | inr b ↦ of_module_bytes h.0 b ])

-- what a reader made of a text, as a definition
abbrev pub read_def : TextTree → Def
read_def x = def_of (cores_of x.cores) x.def

-- the law of the table: whatever a text spells is a component or a core module (`text_is_component`)
abbrev pub TextIsComponent : Type 0
TextIsComponent = (s t : Stand) (v : Value) → read wat s ≡ reads v t → IsOfComponent (makes v wat_item) ⊎ IsOfModule (makes v wat_item)

pub text_of_tree : TextIsComponent → (x : TextTree) (t : Text) → GivesText (Ok x) t → IsOfText (whole_of (read_def x))
text_of_tree law x t g =
    let v = g.gives in
    of_table (read_def x) (subst (λ a. IsOfComponent a ⊎ IsOfModule a) v.2 (law (start_of t) g.at v.0 v.1))

-- a value, as a reader of values gives it
value_read : (t : Text) (s : Stand) (v : Value) → read wat (start_of t) ≡ reads v s → IsRead wat (start_of t) s v
value_read t s v h = answers {X = Value} wat (λ x. x) (Ok v) (start_of t) s sound_text clear_text h

pub tree_spelled : (bytes : List ℕ) (legacy : Bool) (x : TextTree) (t : Text) → IsTextOf bytes legacy t → GivesText (Ok x) t → SpellsWhole bytes legacy (whole_of (read_def x))
tree_spelled bytes legacy x t cut g =
    let v = g.gives in
    let r = value_read t g.at v.0 v.1 in
    record { tokens = t; cut = cut; end = g.at; value = v.0; front = r.front; shallow = r.shallow r.front.0; definition = read_def x; made = v.2; is = refl }

-- ---- what is answered

-- what is written of a component of a text is an encoding of it
encodes : (c : Whole) (out : List ℕ) (given : Option ScopeOrigins) → IsOfText c → CanBeEncoded c → WrittenAs c out given → (os : Origins) × Shows given os × IsEncodedAs c out os
encodes (in_text s) out given text can written = (
  plan the_encoding [] s,
  written.marks,
  record {
    binary = form the_encoding [] s;
    reads = written.reads;
    renders = form-renders the_encoding [] s (scope-rowed s (text.1).rows (text.1).written, tt) can.rule;
    formed = refl;
    planned = refl;
  },
)
encodes (in_binary b) out given text can written = (no_origins, written.1, (written.0, refl))
encodes (a_module n) out given text can written = elim can [ ]

pub whole_encoding : TextIsComponent → (bytes : List ℕ) (legacy : Bool) (x : TextTree) (t : Text) (out : List ℕ) (given : Option ScopeOrigins)
    → length bytes ≤ 67_108_864 → IsTextOf bytes legacy t → GivesText (Ok x) t → CanBeEncoded (whole_of (read_def x)) → WrittenAs (whole_of (read_def x)) out given → EncodesWith bytes legacy out given
whole_encoding law bytes legacy x t out given small cut g can written =
    let c = whole_of (read_def x) in
    let e = encodes c out given (text_of_tree law x t g) can written in (
      e.0,
      e.1,
      record { component = c; valid = record { small = small; spelled = tree_spelled bytes legacy x t cut g; encodable = can }; encoded = e.2 },
    )

-- what is refused, or want of memory
pub whole_refused : (bytes : List ℕ) (legacy : Bool) (c : Whole) (e : Error) → length bytes ≤ 67_108_864 → SpellsWhole bytes legacy c → (e ≡ no_memory) ⊎ (whole_refusal c ≡ Some e) → EncoderRefuses bytes legacy e.kind e.offset
whole_refused bytes legacy c e small spells (inl h) = inl (ap (λ (x : Error). x.kind) h, ap (λ (x : Error). x.offset) h)
whole_refused bytes legacy c e small spells (inr h) = inr (not_encodable c e.kind e.offset small spells h)

-- a text that can't be cut into tokens
pub refused_uncut : (bytes : List ℕ) (legacy : Bool) (kind : ErrorKind) (offset : ℕ) → LexRefuses bytes kind offset → EncoderRefuses bytes legacy kind offset
refused_uncut bytes legacy (kinds.TooBig found limit) offset h =
    inr (subst (λ (n : ℕ). TextRefuses bytes legacy (kinds.TooBig found limit) n) (sym h.3) (subst (λ (n : ℕ). TextRefuses bytes legacy (kinds.TooBig found n) 0) (sym h.2) (subst (λ (n : ℕ). TextRefuses bytes legacy (kinds.TooBig n 67_108_864) 0) (sym h.1) (too_long h.0))))
refused_uncut bytes legacy (kinds.Lex fault) offset h = inr (not_cut fault offset h.0 h.1)
refused_uncut bytes legacy kinds.NoMemory offset h = inl (refl, h.2)
refused_uncut bytes legacy kinds.Parse offset h = elim h [ ]
refused_uncut bytes legacy kinds.TooDeep offset h = elim h [ ]
refused_uncut bytes legacy kinds.Module offset h = elim h [ ]
refused_uncut bytes legacy (kinds.Form f) offset h = elim h [ ]
refused_uncut bytes legacy kinds.Duplicate offset h = elim h [ ]
refused_uncut bytes legacy kinds.Unknown offset h = elim h [ ]
refused_uncut bytes legacy kinds.OuterKind offset h = elim h [ ]
refused_uncut bytes legacy kinds.OuterComponent offset h = elim h [ ]
refused_uncut bytes legacy kinds.OuterCount offset h = elim h [ ]
refused_uncut bytes legacy kinds.CoreExportKind offset h = elim h [ ]
refused_uncut bytes legacy (kinds.Core r) offset h = elim h [ ]
refused_uncut bytes legacy kinds.Failed offset h = elim h [ ]

-- tokens that spell nothing, or what is too deep
pub refused_unspelled : (bytes : List ℕ) (legacy : Bool) (t : Text) (s : Stand) (kind : ErrorKind) (offset : ℕ) → length bytes ≤ 67_108_864 → IsTextOf bytes legacy t
    → s.text ≡ t → FailsAs kind offset s (read wat (start_of t))
    → ReaderRefuses kind offset wat (start_of t) s → EncoderRefuses bytes legacy kind offset
refused_unspelled bytes legacy t s kinds.Parse offset small cut i f h = inr (not_spelled offset small (record { tokens = t; cut = cut; at = s; within = i; comes = f; refuses = h }))
refused_unspelled bytes legacy t s kinds.TooDeep offset small cut i f h = inr (too_deep offset small (record { tokens = t; cut = cut; at = s; within = i; comes = f; refuses = h }))
refused_unspelled bytes legacy t s kinds.NoMemory offset small cut i f h = inl (refl, h)
refused_unspelled bytes legacy t s (kinds.TooBig found limit) offset small cut i f h = elim h [ ]
refused_unspelled bytes legacy t s (kinds.Lex fault) offset small cut i f h = elim h [ ]
refused_unspelled bytes legacy t s kinds.Module offset small cut i f h = elim h [ ]
refused_unspelled bytes legacy t s (kinds.Form k) offset small cut i f h = elim h [ ]
refused_unspelled bytes legacy t s kinds.Duplicate offset small cut i f h = elim h [ ]
refused_unspelled bytes legacy t s kinds.Unknown offset small cut i f h = elim h [ ]
refused_unspelled bytes legacy t s kinds.OuterKind offset small cut i f h = elim h [ ]
refused_unspelled bytes legacy t s kinds.OuterComponent offset small cut i f h = elim h [ ]
refused_unspelled bytes legacy t s kinds.OuterCount offset small cut i f h = elim h [ ]
refused_unspelled bytes legacy t s kinds.CoreExportKind offset small cut i f h = elim h [ ]
refused_unspelled bytes legacy t s (kinds.Core c) offset small cut i f h = elim h [ ]
refused_unspelled bytes legacy t s kinds.Failed offset small cut i f h = elim h [ ]

-- the refusal of a reader
pub text_refused : (bytes : List ℕ) (legacy : Bool) (t : Text) (e : Error) → length bytes ≤ 67_108_864 → IsTextOf bytes legacy t → GivesText (Err e) t → EncoderRefuses bytes legacy e.kind e.offset
text_refused bytes legacy t e small cut g =
    let a = answers {X = Value} wat (λ x. x) (Err e) (start_of t) g.at sound_text clear_text g.gives in
    refused_unspelled bytes legacy t g.at e.kind e.offset small cut g.within g.gives a
