-- Every word of at most 31 symbols has a value: its symbols, and zeros after them. Assumes nothing.
use Rattle.std.proofs.Common.{◌≡◌, ℕ, ◌+◌, ◌-◌, ◌<◌, ◌≤◌, List, length, get_or, replicate, refl, arith, length-append, get_or-append-add}
use Rattle.std.proofs.Math.Logic.{by_cases}
use Rattle.std.proofs.Math.Decide.{dec_lt}
use Rattle.std.proofs.lemmas.List.{length-replicate}
use Rattle.std.proofs.Math.ListN.{get_or-append}
use Rattle.std.proofs.Math.Seq.{take-append_seam}
use Rattle.masks.proofs.TableLaws.{get_or_zeros}
use Rattle.search.specs.Word.{symbols_in, Carries}
use Rattle.search.specs.promises.WordValues.{word_of, IsValue}

pub word_symbols : (w : List ℕ) → symbols_in (word_of w) ≡ w
word_symbols w = take-append_seam w (replicate (31 - length w) 0)

pub value_carries : (w : List ℕ) → Carries (word_of w) w
value_carries w = record { len = refl; symbols = word_symbols w }

pub value_full : (w : List ℕ) → length w ≤ 31 → length (word_of w).symbols ≡ 31
value_full w h = omega (arith, length-append w (replicate (31 - length w) 0), length-replicate {A = ℕ} (31 - length w) 0)

-- what bounds the symbols bounds the value's 31
pub value_below : (bound : ℕ) → 0 < bound → (w : List ℕ) → ((i : ℕ) → get_or w i 0 < bound) → (i : ℕ)
    → get_or (word_of w).symbols i 0 < bound
value_below bound h w f i =
    by_cases (dec_lt i (length w))
    (λ k. rw (get_or-append w (replicate (31 - length w) 0) 0 i k) (f i))
    (λ k.
    let j : i ≡ length w + (i - length w) = omega arith in
    rw (j, get_or-append-add w (replicate (31 - length w) 0) (i - length w) 0, get_or_zeros (31 - length w) (i - length w)) h)

pub value_is : (w : List ℕ) → length w ≤ 31 → ((i : ℕ) → get_or w i 0 < 256) → IsValue (word_of w)
value_is w h f = record { full = value_full w h; bytes = value_below 256 (omega arith) w f }
