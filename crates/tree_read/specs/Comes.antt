-- What a reader answers, beside what reading comes to.
use Rattle.std.specs.Prelude.{◌≡◌, ℕ, Bool, List, Result, Ok, Err, true, false, ⊤}
use Rattle.std.specs.declared.alloc.AllocError.{AllocError}
use Rattle.comp_model.specs.declared.Space.{Space}
use Rattle.comp_model.specs.Core as core
use Rattle.comp_model.specs.Model as m
use Rattle.comp_model.specs.CoreModules.{CoreModule, Field}
use Rattle.wast_grammar.specs.Classes.{Class, same, among}
use Rattle.wast_grammar.specs.Stand.{Stand, class_at, moved}
use Rattle.wast_grammar.specs.Grammar.{Leaf, Value, class_of_leaf, value_at}
use Rattle.wast_grammar.specs.Read as read
use Rattle.wast_grammar.specs.Read.{Outcome}
use Rattle.wast_parser.specs.declared.index.Index.{Index}
use Rattle.comp_tree.specs.Model.{index_of}
use Rattle.text_rules.specs.Made.{Made, join}
use Rattle.text_rules.specs.Makes.{a_leaf}
use Rattle.text_rules.specs.Rule.{Rule, placed}
use Rattle.text_table.specs.Code.{with_class, one_class}
use Rattle.rule_runs.specs.Run.{Ran, done, fault, deep, run, referred}
use Rattle.tree_build.specs.Cores.{Final, Grows}
use Rattle.tree_build.specs.Held.{held}
use Rattle.tree_read.specs.declared.fault.Answer.{Answer}
use Rattle.tree_read.specs.declared.fault.Answer.TheVariants as answers
use Rattle.tree_read.specs.declared.fault.Fault.{Fault}
use Rattle.tree_read.specs.declared.fault.Fault.TheVariants.{Parse, TooDeep, NoMemory}
use Rattle.tree_build.specs.declared.scratch.Scratch.{Scratch}

-- a token of one of these classes was taken, or another one is next
abbrev pub Took : {X : Type 0} → List Class → Result X Fault → Stand → Stand → Type 0
Took cs (Ok x) s t = (among cs (class_at s) ≡ true) × (t ≡ moved s 1)
Took cs (Err Parse) s t = (among cs (class_at s) ≡ false) × (t ≡ s)
Took cs (Err TooDeep) s t = ⊥
Took cs (Err NoMemory) s t = ⊥

-- the same of a token whose value is kept, seen by `view`
abbrev pub Kept : {X : Type 0} → (X → Value) → Leaf → Result X Fault → Stand → Stand → Type 0
Kept view k (Ok x) s t = (same (class_at s) (class_of_leaf k) ≡ true) × (t ≡ moved s 1) × (value_at k s ≡ view x)
Kept view k (Err Parse) s t = (same (class_at s) (class_of_leaf k) ≡ false) × (t ≡ s)
Kept view k (Err TooDeep) s t = ⊥
Kept view k (Err NoMemory) s t = ⊥

-- an answer as a result
abbrev pub as_result : Answer → Result ⊤ Fault
as_result answers.Done = Ok tt
as_result answers.Parse = Err Parse
as_result answers.TooDeep = Err TooDeep
as_result answers.NoMemory = Err NoMemory

-- a refusal, by a reader that stands at t, is what reading comes to
abbrev pub Refuses : Fault → Stand → Ran → Type 0
Refuses Parse t o = o ≡ fault t
Refuses TooDeep t o = o ≡ deep t
Refuses NoMemory t o = ⊤

-- What a reader answered that went from s to t, and what it added to what was held in p, is what reading by the rule comes to, unless memory
-- ran out. A refusal doesn't hang on what was made before.
abbrev pub Reads : {X : Type 0} → Rule → Result X Fault → Stand → Stand → Scratch → Scratch → Type 0
Reads r (Ok x) s t p q = Grows p.cores q.cores × ((fs : List (List Field)) (cs : List CoreModule) → Final fs cs q.cores → run r s (held fs cs p) ≡ done (held fs cs q) t)
Reads r (Err e) s t p q = (a : Made) → Refuses e t (run r s a)

-- an index was taken, or another token is next
abbrev pub TookIndex : Result Index Fault → Stand → Stand → Type 0
TookIndex (Ok i) s t = (u : Space) (w : core.Reach) (a : Made) → referred u w s a ≡ done (join a (a_leaf (m.ref u (index_of w i)))) t
TookIndex (Err e) s t = (u : Space) (w : core.Reach) (a : Made) → Refuses e t (referred u w s a)

-- a row was read, whose value is seen by `view`
abbrev pub FailsBy : Fault → Stand → Outcome → Type 0
FailsBy Parse t o = o ≡ read.fault t
FailsBy TooDeep t o = o ≡ read.deep t
FailsBy NoMemory t o = ⊤

abbrev pub Gives : {X : Type 0} → (X → Value) → Result X Fault → Stand → Outcome → Type 0
Gives view (Ok x) t o = o ≡ read.reads (view x) t
Gives view (Err e) t o = FailsBy e t o

-- want of memory is all that can go wrong
abbrev pub as_fault : {X : Type 0} → Result X AllocError → Result X Fault
as_fault (Ok x) = Ok x
as_fault (Err e) = Err NoMemory

-- these come behind what is held, unless memory ran out
abbrev pub Stored : {X : Type 0} → Result X Fault → Scratch → Scratch → (List (List Field) → List CoreModule → Made) → Type 0
Stored (Ok x) p q f = Grows p.cores q.cores × ((fs : List (List Field)) (cs : List CoreModule) → Final fs cs q.cores → held fs cs q ≡ join (held fs cs p) (f fs cs))
Stored (Err e) p q f = e ≡ NoMemory

-- a token of the class of a number, with its offset
abbrev pub lone_placed : Bool → ℕ → Rule
lone_placed b n = with_class (λ c. placed b c) (one_class n)
