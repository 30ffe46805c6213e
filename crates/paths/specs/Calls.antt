-- The path and next-word calls (01, "The calls"): what each answers and writes, for any bytes, parties, word and output.
use Rattle.std.specs.Prelude.{ℕ, ◌+◌, ◌≡◌, Bool, true, false, not, ◌&&◌, List, [], ◌∷◌, ◌++◌}
use Rattle.std.specs.Prelude.{length, drop, eqb, leb, Option, Some, None, Result, Ok, Err}
use Rattle.std.proofs.Math.Option.{Option as Searched, none, some}
use Rattle.lists.specs.Lists.{all_of}
use Rattle.limits.specs.Limits.{word_capacity}
use Rattle.rebac.specs.Matter.{Matter, pair}
use Rattle.rebac.specs.Paths.{least_path}
use Rattle.rebac.specs.Symbols.{enlarged}
use Rattle.rebac.specs.NextWord.{next_word}
use Rattle.house_layout.specs.Reply.{Said, refusal, values, number_of}
use Rattle.house_layout.specs.declared.reply.Refusal.{Refusal}
use Rattle.house_layout.specs.declared.reply.Refusal.TheVariants.{PartyPair, GivenWord, Output}
use Rattle.graph.specs.Legal.{is_pair, legal_symbol}
use Rattle.graph.specs.Refusals.{unless, over_matter}
use Rattle.search.specs.Word.{symbols_in}
use Rattle.search.specs.declared.word.ShortWord.{ShortWord}
use Rattle.search.specs.declared.word.Word.{Word}

-- what a call answers: a refusal, that there is nothing, or the bytes that it writes
pub data WordAnswer : Type 0 where
  refuses : Refusal → WordAnswer
  nothing : WordAnswer
  writes : List ℕ → WordAnswer

-- the reply: of what is written, the number of bytes
abbrev pub word_reply : WordAnswer → Result (Option ℕ) Refusal
word_reply (refuses x) = Err x
word_reply nothing = Ok None
word_reply (writes l) = Ok (Some (length l))

-- the reply in 01's number and values
abbrev pub said_word : Result (Option ℕ) Refusal → Said
said_word (Err x) = refusal (number_of x)
said_word (Ok None) = values []
said_word (Ok (Some k)) = values (k ∷ [])

-- the output then: what is written stands at its start, every other byte is kept
abbrev pub word_output : WordAnswer → List ℕ → List ℕ
word_output (refuses x) old = old
word_output nothing old = old
word_output (writes l) old = l ++ drop (length l) old

abbrev pub found : Searched (List ℕ) → WordAnswer
found none = nothing
found (some l) = writes l

-- not 11: at most D symbols, each of the language and with a label below L
unfoldable pub legal_given_word : Matter → Word → Bool
legal_given_word M w = leb w.len M.longest && all_of (legal_symbol M.labels M.language) (symbols_in w)

-- the given word as one that a search can take, exactly where it is legal; otherwise refusal 11
abbrev pub GivenAs : Matter → Word → Result ShortWord Refusal → Type 0
GivenAs M w (Ok v) = (legal_given_word M w ≡ true) × (v.word ≡ w)
GivenAs M w (Err x) = (legal_given_word M w ≡ false) × (x ≡ GivenWord)

-- Path: 10, 11 (also the empty word), 14 by the word's length, then the path with the lower party at the first difference
unfoldable pub path_in : Matter → ℕ → ℕ → Word → ℕ → WordAnswer
path_in M a b w size =
    unless refuses (is_pair M.parties a b) PartyPair
    (unless refuses (legal_given_word M w && not (eqb w.len 0)) GivenWord
    (unless refuses (leb (w.len + 1) size) Output
    (found (least_path (enlarged M) (pair a b) (symbols_in w)))))

-- Next-word: 10, 11, 14 below 31 bytes, then the pair's first word after the given one
unfoldable pub next_in : Matter → ℕ → ℕ → Word → ℕ → WordAnswer
next_in M a b w size =
    unless refuses (is_pair M.parties a b) PartyPair
    (unless refuses (legal_given_word M w) GivenWord
    (unless refuses (leb word_capacity size) Output
    (found (next_word M (pair a b) (symbols_in w)))))

unfoldable pub path_call : List ℕ → ℕ → ℕ → Word → ℕ → WordAnswer
path_call f a b w size = over_matter refuses f (λ M. path_in M a b w size)

unfoldable pub next_call : List ℕ → ℕ → ℕ → Word → ℕ → WordAnswer
next_call f a b w size = over_matter refuses f (λ M. next_in M a b w size)
