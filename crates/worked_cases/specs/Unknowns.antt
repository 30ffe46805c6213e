-- Files with relations that nobody knows (02, Ticket 5), worked by hand: n 2, L 1, D 1.
use Rattle.std.specs.Prelude.{ℕ, ◌≡◌, List, [], ◌∷◌, Result, Ok}
use Rattle.lists.specs.Lists.{filter_by, range}
use Rattle.rebac.specs.Matter.{pair}
use Rattle.rebac.specs.Symbols.{holds}
use Rattle.house_layout.specs.declared.reply.Refusal.{Refusal}
use Rattle.house_file.specs.Check.{check_of}
use Rattle.graph.specs.FileMatter.{matter_of}
use Rattle.mining.specs.Values.{pair_value}
use Rattle.conversion.specs.Calls.{verdict_call}
use Rattle.conversion.specs.declared.verdict.Verdict.{Verdict}
use Rattle.conversion.specs.declared.verdict.Verdict.TheVariants.{Convertible, NoWord, Rival}

pub record UnknownFile : Type 0 where
  pub file : List ℕ
  -- the symbols that hold from 0 to 1, and from 1 to 0
  pub out : List ℕ
  pub back : List ℕ
  pub reply : Result Verdict Refusal

-- the symbols of label 0 that hold from u to v
abbrev pub symbols_of : List ℕ → ℕ → ℕ → List ℕ
symbols_of f u v = filter_by (holds (matter_of f) u v) (range 4)

abbrev row : List ℕ → List ℕ → List ℕ → Result Verdict Refusal → UnknownFile
row f out back r = record { file = f; out = out; back = back; reply = r }

-- a record of party 0 and one of party 1, each with the other as its target, of these kinds
abbrev both_ways : ℕ → ℕ → ℕ → List ℕ
both_ways language kind back = 1 ∷ 2 ∷ 1 ∷ language ∷ 1 ∷ 0 ∷ 2 ∷ 0 ∷ 1 ∷ 0 ∷ 2 ∷ 0 ∷ 1 ∷ kind ∷ 0 ∷ 0 ∷ 0 ∷ back ∷ 0 ∷ 0 ∷ []

abbrev pub unknown_files : List UnknownFile
unknown_files =
    -- (0,1) unknown, permit (1,0): the absence of (1,0) says the permit alone
    row (both_ways 1 0x80 0xFF) [] (1 ∷ []) (Ok (Convertible 6))
    -- without the unknown record (0,1) is absent too, and so a rival
    ∷ row (1 ∷ 2 ∷ 1 ∷ 1 ∷ 1 ∷ 0 ∷ 1 ∷ 0 ∷ 0 ∷ 0 ∷ 1 ∷ 0 ∷ 0 ∷ 0xFF ∷ 0 ∷ 0 ∷ []) (1 ∷ []) (1 ∷ [])
    (Ok (Rival (pair_value (pair 1 0)) (pair_value (pair 0 1))))
    -- (0,1) unknown, permit (0,1)
    ∷ row (1 ∷ 2 ∷ 1 ∷ 1 ∷ 1 ∷ 0 ∷ 2 ∷ 0 ∷ 1 ∷ 0 ∷ 0 ∷ 0 ∷ 1 ∷ 0x80 ∷ 2 ∷ 0 ∷ 1 ∷ 0xFF ∷ 0 ∷ 0 ∷ []) [] (1 ∷ [])
    (Ok (NoWord (pair_value (pair 0 1))))
    -- language 3, (0,1) unknown: what is left is the absence of (1,0), from either end
    ∷ row (1 ∷ 2 ∷ 1 ∷ 3 ∷ 1 ∷ 0 ∷ 1 ∷ 0 ∷ 1 ∷ 0 ∷ 0 ∷ 0 ∷ 1 ∷ 0x80 ∷ 0 ∷ 0 ∷ []) (3 ∷ []) (1 ∷ []) (Ok (Convertible 2))
    -- language 3, (0,1) a relation and (1,0) unknown; both unknown
    ∷ row (both_ways 3 0 0x80) (0 ∷ []) (2 ∷ []) (Ok (Convertible 2))
    ∷ row (both_ways 3 0x80 0x80) [] [] (Ok (Convertible 2))
    ∷ []

pub record UnknownHolds (c : UnknownFile) : Type 0 where
  pub accepted : check_of c.file ≡ Ok tt
  pub symbols : symbols_of c.file 0 1 ≡ c.out
  pub others : symbols_of c.file 1 0 ≡ c.back
  pub verdict : verdict_call c.file ≡ c.reply
