-- Next-word called again and again, as a host does that goes through the words of a pair (demand 2).
use Rattle.std.specs.Prelude.{ℕ, zero, suc, ◌≡◌, ◌↔◌, length, take, Option, Some, None, Result, Ok, Err}
use mathlib.Core.List.{List, [], ◌∷◌, Memᴰ}
use Rattle.lists.specs.Order.{Ascending, Distinct}
use Rattle.rebac.specs.Matter.{Matter, Pair}
use Rattle.rebac.specs.Words.{before}
use Rattle.rebac.specs.Existence.{HasWord}
use Rattle.search.specs.declared.word.Word.{Word}
use Rattle.paths.specs.Calls.{word_reply, word_output, next_call}
use Rattle.house_layout.specs.declared.reply.Refusal.{Refusal}

-- the words handed out, in order, and the reply that ended the calls
pub record HandedOut : Type 0 where
  pub words : List (List ℕ)
  pub last : Result (Option ℕ) Refusal

-- a reply, and the output as the call left it: the word written is handed out and given to the next call; any other reply ends the calls
abbrev pub onward : Result (Option ℕ) Refusal → List ℕ → (List ℕ → HandedOut) → HandedOut
onward (Err x) output next = record { words = []; last = Err x }
onward (Ok None) output next = record { words = []; last = Ok None }
onward (Ok (Some k)) output next = record { words = take k output ∷ (next (take k output)).words; last = (next (take k output)).last }

-- up to k calls for the pair (a, b), the first given the word v, each other what the call before wrote, all lent the same output.
-- `value` makes a word value of symbols. Where the k calls are used up `last` is an `Ok (Some 0)`, and so no end.
unfoldable pub hand_out : (List ℕ → Word) → List ℕ → ℕ → ℕ → ℕ → List ℕ → List ℕ → HandedOut
hand_out value f a b zero v output = record { words = []; last = Ok (Some 0) }
hand_out value f a b (suc k) v output =
    onward
    (word_reply (next_call f a b (value v) (length output)))
    (word_output (next_call f a b (value v) (length output)) output)
    (λ w. hand_out value f a b k w (word_output (next_call f a b (value v) (length output)) output))

-- demand 2, "Next-word hands out each word of a pair once, in order": exactly the words that the pair has, and then that there is none
pub record HandsOut (M : Matter) (p : Pair) (h : HandedOut) : Type 0 where
  pub words : (w : List ℕ) → Memᴰ w h.words ↔ HasWord M p w
  pub once : Distinct h.words
  pub order : Ascending before h.words
  pub end : h.last ≡ Ok None
