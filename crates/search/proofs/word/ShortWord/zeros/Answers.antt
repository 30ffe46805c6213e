-- Every symbol of a repeat of 0 is 0.
use Rattle.std.proofs.Common.{refl, arith}
use Rattle.masks.proofs.TableLaws.{get_or_zeros}
use Rattle.std.proofs.lemmas.List.{take-replicate}
use Rattle.search.proofs.word.ShortWord.zeros.Goals as goal

pub invariant_of-result : goal.invariant_of-result
invariant_of-result c =
    let z = get_or_zeros 31 in
    record { short = record { len = c.requires; full = refl; symbols = λ i h. omega (arith, z i) } }

pub returns-clause-symbols : goal.returns-clause-symbols
returns-clause-symbols c = take-replicate c.args.len 31 0 c.requires
