-- How the replies of the exported calls go out: "each reply goes out as one unsigned 64-bit number, different replies of a call as
-- different numbers" (01, "The calls").
-- The lowest byte is the refusal's number, or tells which reply it is; its values stand in the bytes above.
use Rattle.std.specs.Prelude.{Bool, true, false, Result, Ok, Err}
use Rattle.house_layout.specs.declared.reply.Refusal.{Refusal}
use Rattle.std.specs.Prelude.{ℕ, ◌+◌, ◌*◌, ◌<◌}
use Rattle.house_layout.specs.Reply.{number_of}
use Rattle.mining.specs.declared.build.Pair.{Pair}
use Rattle.conversion.specs.declared.verdict.Verdict.{Verdict}
use Rattle.conversion.specs.declared.verdict.Verdict.TheVariants.{Convertible, NoWord, Rival}

-- the lowest byte of a call's first reply that is no refusal; every refusal's number is below it
abbrev pub first_kind : ℕ
first_kind = 128

abbrev pub pack_verdict : Result Verdict Refusal → ℕ
pack_verdict (Err x) = number_of x
pack_verdict (Ok (Convertible k)) = first_kind + 256 * k
pack_verdict (Ok (NoWord p)) = first_kind + 1 + 256 * p.first + 65536 * p.second
pack_verdict (Ok (Rival p q)) = first_kind + 2 + 256 * p.first + 65536 * p.second + 16777216 * q.first + 4294967296 * q.second

abbrev pub pack_mining : Result ℕ Refusal → ℕ
pack_mining (Err x) = number_of x
pack_mining (Ok k) = first_kind + 256 * k

abbrev pub pack_permit : Result Bool Refusal → ℕ
pack_permit (Err x) = number_of x
pack_permit (Ok false) = first_kind
pack_permit (Ok true) = first_kind + 1

-- the replies that have a number of their own: parties of one byte, a length of 56 bits
abbrev pub SmallPair : Pair → Type 0
SmallPair p = (p.first < 256) × (p.second < 256)

abbrev pub SmallLength : ℕ → Type 0
SmallLength k = k < 72057594037927936

abbrev pub VerdictInRange : Result Verdict Refusal → Type 0
VerdictInRange (Err x) = Unit {0}
VerdictInRange (Ok (Convertible k)) = SmallLength k
VerdictInRange (Ok (NoWord p)) = SmallPair p
VerdictInRange (Ok (Rival p q)) = SmallPair p × SmallPair q

abbrev pub MiningInRange : Result ℕ Refusal → Type 0
MiningInRange (Err x) = Unit {0}
MiningInRange (Ok k) = SmallLength k
