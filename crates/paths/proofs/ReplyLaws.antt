-- A reply of path and next-word is known by its number and values, by its cases. Assumes nothing.
use Rattle.std.proofs.Common.{◌≡◌, refl, ap, ℕ, Option, Some, None, Result, Ok, Err}
use Rattle.lists.proofs.Cases.{clash}
use Rattle.house_layout.specs.declared.reply.Refusal.{Refusal}
use Rattle.house_layout.proofs.RefusalNumbers.{refusal_said}
use Rattle.paths.specs.Calls.{said_word}

pub word_said : (r s : Result (Option ℕ) Refusal) → said_word r ≡ said_word s → r ≡ s
word_said (Err x) (Err y) e = ap Err (refusal_said e)
word_said (Err x) (Ok None) e = clash (cc e)
word_said (Err x) (Ok (Some k)) e = clash (cc e)
word_said (Ok None) (Err y) e = clash (cc e)
word_said (Ok None) (Ok None) e = refl
word_said (Ok None) (Ok (Some k)) e = clash (cc e)
word_said (Ok (Some j)) (Err y) e = clash (cc e)
word_said (Ok (Some j)) (Ok None) e = clash (cc e)
word_said (Ok (Some j)) (Ok (Some k)) e = ap (λ (n : ℕ). Ok (Some n)) (cc e)
