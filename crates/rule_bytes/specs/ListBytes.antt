-- The bytes of a rule list (01, "Rule list bytes"): a list is terms, a term is words, a word is symbols.
use Rattle.std.specs.Prelude.{ℕ, zero, suc, ◌+◌, ◌*◌, ◌≤◌, ◌<◌, ◌≡◌, Bool, true, ◌&&◌, length, take, drop, leb}
use mathlib.Core.List.{List, [], ◌∷◌, ◌++◌, Memᴰ}
use Rattle.std.proofs.Math.Option.{Option, none, some}
use Rattle.lists.specs.Lists.{all_of, flat_map}
use Rattle.fields.specs.Numbers.{u16_bytes}
use Rattle.rebac.specs.Options.{given}
use Rattle.graph.specs.Legal.{legal_symbol}

-- "each word: its length (one byte, 1 to D), its symbols"
unfoldable pub encode_word : List ℕ → List ℕ
encode_word w = length w ∷ w

-- "each term: number of words (two bytes, 1 or more)"
unfoldable pub encode_term : List (List ℕ) → List ℕ
encode_term t = u16_bytes (length t) ++ flat_map encode_word t

-- "number of terms (two bytes)"
unfoldable pub encode_list : List (List (List ℕ)) → List ℕ
encode_list l = u16_bytes (length l) ++ flat_map encode_term l

-- what was read, and the bytes after it
pub record Parsed (A : Type 0) : Type 0 where
  pub value : A
  pub rest : List ℕ

abbrev pub parsed : {A : Type 0} → A → List ℕ → Option (Parsed A)
parsed x s = some (record { value = x; rest = s })

abbrev pub and_then : {A B : Type 0} → Option (Parsed A) → (A → List ℕ → Option B) → Option B
and_then none k = none
and_then (some r) k = k r.value r.rest

-- a two-byte count
unfoldable pub decode_count : List ℕ → Option (Parsed ℕ)
decode_count [] = none
decode_count (a ∷ []) = none
decode_count (a ∷ b ∷ s) = parsed (a + b * 256) s

-- n entries, one after another
unfoldable pub decode_many : {A : Type 0} → (List ℕ → Option (Parsed A)) → ℕ → List ℕ → Option (Parsed (List A))
decode_many f zero s = parsed [] s
decode_many f (suc n) s = and_then (f s) (λ x r. and_then (decode_many f n r) (λ xs q. parsed (x ∷ xs) q))

-- "Nothing follows."
abbrev pub whole : {A : Type 0} → A → List ℕ → Option A
whole x [] = some x
whole x (a ∷ s) = none

-- L, the language and D of the file
module _ (labels language longest : ℕ) where
  -- 1 to D symbols, each legal
  unfoldable pub legal_word : List ℕ → Bool
  legal_word w = leb 1 (length w) && (leb (length w) longest && all_of (legal_symbol labels language) w)

  unfoldable pub decode_word : List ℕ → Option (Parsed (List ℕ))
  decode_word [] = none
  decode_word (k ∷ s) = given (leb k (length s) && legal_word (take k s)) (parsed (take k s) (drop k s))

  unfoldable pub decode_term : List ℕ → Option (Parsed (List (List ℕ)))
  decode_term s = and_then (decode_count s) (λ k r. given (leb 1 k) (decode_many decode_word k r))

  unfoldable pub decode_terms : List ℕ → Option (Parsed (List (List (List ℕ))))
  decode_terms s = and_then (decode_count s) (λ k r. decode_many decode_term k r)

  -- the list that the bytes are; none is refusal 9
  unfoldable pub decode_list : List ℕ → Option (List (List (List ℕ)))
  decode_list s = and_then (decode_terms s) whole

  -- a list that has bytes: terms of one word or more, legal words, counts that fit two bytes
  pub record LegalTerm (t : List (List ℕ)) : Type 0 where
    pub full : 1 ≤ length t
    pub fits : length t < 65536
    pub words : (w : List ℕ) → Memᴰ w t → legal_word w ≡ true

  pub record LegalList (l : List (List (List ℕ))) : Type 0 where
    pub fits : length l < 65536
    pub terms : (t : List (List ℕ)) → Memᴰ t l → LegalTerm t
