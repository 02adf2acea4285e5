-- Where the tokens of a tiling stand.
use Rattle.std.proofs.Common.{◌≡◌, ℕ, ◌+◌, ◌<◌, ◌≤◌, List, [], ◌∷◌, length, slice_index, refl, sym, ap, subst, arith}
use Rattle.std.proofs.lemmas.List.Elements.{All-nil, All-cons}
use Rattle.std.specs.List.{All}
use Rattle.std.specs.Str.{IsCharBoundary}
use Rattle.wast_tokens.specs.declared.token.Token.{Token}
use Rattle.wast_tokens.specs.declared.token.TokenKind.{TokenKind}
use Rattle.wast_tokens.specs.Tiling.{IsGap, IsToken, Lexeme, Chain, kept, IsTiling, TakesMemory, HasToken}
use Rattle.wast_tokens.specs.Tiling.TakesMemory.{token as memory}
use Rattle.wast_tokens.specs.Tiling.Lexeme.{gap, token}
use Rattle.wast_tokens.specs.Lexing.{IsPlaced, ArePlaced}
use Rattle.wast_tokens.proofs.Classes.{beginning_ascii}
use Rattle.wast_tokens.proofs.Tilings.{gap_some, token_some, gap_more, spells_more}

-- a lexeme begins with an ASCII character, and so does what follows it

gap_ascii : (text : List ℕ) (a b : ℕ) → IsGap text a b → slice_index text a < 128
gap_ascii text a b g = beginning_ascii text a (gap_some text a b g)

spells_ascii : (text : List ℕ) (k : TokenKind) (a b : ℕ) → IsToken text k a b → slice_index text a < 128
spells_ascii text k a b s = beginning_ascii text a (token_some text k a b s)

chain_ascii : (text : List ℕ) (a : ℕ) (ls : List Lexeme) → Chain text a ls (length text) → a < length text → slice_index text a < 128
chain_ascii text a [] h lt = absurd (omega (arith, h))
chain_ascii text a (gap e ∷ ls) h lt = gap_ascii text a e h.0
chain_ascii text a (token t ∷ ls) h lt = spells_ascii text t.kind a t.end h.1

chain_boundary : (text : List ℕ) (a : ℕ) (ls : List Lexeme) → a ≤ length text → Chain text a ls (length text) → IsCharBoundary text a
chain_boundary text a ls le h = (le, λ lt high. absurd (let low : slice_index text a < 128 = chain_ascii text a ls h lt in omega arith))

placed_sooner : (text : List ℕ) (a e : ℕ) (ts : List Token) → a ≤ e → ArePlaced text e ts → ArePlaced text a ts
placed_sooner text a e [] le h = h
placed_sooner text a e (t ∷ ts) le h = (let from : e ≤ t.start = h.0 in omega arith, h.1, h.2)

pub token_placed : (text : List ℕ) (a : ℕ) (t : Token) (ls : List Lexeme) → Chain text a (token t ∷ ls) (length text) → IsPlaced text t
token_placed text a t ls h =
    let m = spells_more text t.kind a t.end h.1 in
    let start : t.start ≡ a = h.0 in
    record {
      some = subst (λ n. n < t.end) (sym start) m.0;
      within = m.1;
      starts = subst (IsCharBoundary text) (sym start) (chain_boundary text a (token t ∷ ls) (omega (arith, m.0, m.1)) h);
      ends = chain_boundary text t.end ls m.1 h.2;
    }

pub chain_placed : (text : List ℕ) (a : ℕ) (ls : List Lexeme) → Chain text a ls (length text) → ArePlaced text a (kept ls)
chain_placed text a [] h = tt
chain_placed text a (gap e ∷ ls) h = placed_sooner text a e (kept ls) (let m = gap_more text a e h.0 in omega (arith, m.0)) (chain_placed text e ls h.1)
chain_placed text a (token t ∷ ls) h = (omega (arith, h.0), token_placed text a t ls h, chain_placed text t.end ls h.2)

-- the tokens of a tiling lie in the text, one behind the other
pub tiling_placed : (text : List ℕ) (ts : List Token) → IsTiling text ts → ArePlaced text 0 ts
tiling_placed text ts h = subst (ArePlaced text 0) (sym h.2) (chain_placed text 0 h.0 h.1)

pub each_placed : (text : List ℕ) (a : ℕ) (ts : List Token) → ArePlaced text a ts → All (IsPlaced text) ts
each_placed text a [] h = All-nil (IsPlaced text)
each_placed text a (t ∷ ts) h = All-cons (IsPlaced text) t ts h.1 (each_placed text t.end ts h.2)

-- there are no more tokens than bytes
pub chain_few : (text : List ℕ) (a : ℕ) (ls : List Lexeme) (b : ℕ) → Chain text a ls b → a + length (kept ls) ≤ b
chain_few text a [] b h = omega (arith, h)
chain_few text a (gap e ∷ ls) b h = let m = gap_more text a e h.0 in let r : e + length (kept ls) ≤ b = chain_few text e ls b h.1 in omega (arith, m.0)
chain_few text a (token t ∷ ls) b h = let m = spells_more text t.kind a t.end h.1 in let r : t.end + length (kept ls) ≤ b = chain_few text t.end ls b h.2 in omega (arith, m.0)

pub tiling_few : (text : List ℕ) (ts : List Token) → IsTiling text ts → length ts ≤ length text
tiling_few text ts h = let few : 0 + length (kept h.0) ≤ length text = chain_few text 0 h.0 (length text) h.1 in omega (arith, few, ap length h.2)

-- each token of a tiling is a token where it stands

abbrev pub StandsIn : List ℕ → Token → Type 0
StandsIn text t = IsToken text t.kind t.start t.end

pub chain_spells : (text : List ℕ) (a : ℕ) (ls : List Lexeme) (b : ℕ) → Chain text a ls b → All (StandsIn text) (kept ls)
chain_spells text a [] b h = All-nil (StandsIn text)
chain_spells text a (gap e ∷ ls) b h = chain_spells text e ls b h.1
chain_spells text a (token t ∷ ls) b h = All-cons (StandsIn text) t (kept ls) (subst (λ n. IsToken text t.kind n t.end) (sym h.0) h.1) (chain_spells text t.end ls b h.2)

pub tiling_spells : (text : List ℕ) (ts : List Token) → IsTiling text ts → All (StandsIn text) ts
tiling_spells text ts h = subst (All (StandsIn text)) (sym h.2) (chain_spells text 0 h.0 (length text) h.1)

-- where a tiling has a token, a token takes memory

chain_takes : (text : List ℕ) (a : ℕ) (ls : List Lexeme) (b : ℕ) → Chain text a ls b → 0 < length (kept ls) → (ms : List Lexeme) × (c : ℕ) × Chain text a ms c × TakesMemory text c
chain_takes text a [] b h some = absurd (omega (arith, some))
chain_takes text a (gap e ∷ ls) b h some = let r = chain_takes text e ls b h.1 some in (gap e ∷ r.0, r.1, (h.0, r.2), r.3)
chain_takes text a (token t ∷ ls) b h some = ([], a, refl, memory t.kind t.end h.1)

pub tiling_takes : (text : List ℕ) (ts : List Token) → IsTiling text ts → 0 < length ts → HasToken text
tiling_takes text ts h some = chain_takes text 0 h.0 (length text) h.1 (omega (arith, some, ap length h.2))
