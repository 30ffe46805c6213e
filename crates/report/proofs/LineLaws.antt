-- The lengths of the lines, by the lengths of their parts. Assumes nothing.
use Rattle.std.proofs.Common.{◌≡◌, List, ◌++◌, ℕ, ◌+◌, arith, length, length-append, Ok}
use Rattle.fields.specs.Decimal.{decimal_text}
use Rattle.fields.proofs.WroteLaws.{wrote_length}
use Rattle.house_layout.specs.Reply.{number_of}
use Rattle.house_layout.specs.declared.reply.Refusal.{Refusal}
use Rattle.mining.specs.declared.build.Pair.{Pair}
use Rattle.rule_text.specs.Text.{line_end}
use Rattle.conversion.specs.declared.verdict.Verdict.TheVariants.{Convertible, NoWord, Rival}
use Rattle.report.specs.Report.{space, refused_text, convertible_text, no_word_text, rival_text, pair_text, refused_line, verdict_line}

pub pair_length : (p : Pair) → length (pair_text p) ≡ length (decimal_text p.first) + (1 + length (decimal_text p.second))
unfolding pair_text
pair_length p = omega (arith, length-append (decimal_text p.first) (space ++ decimal_text p.second))

pub number_length : (w : List ℕ) (n : ℕ) → length (w ++ (decimal_text n ++ line_end)) ≡ length w + (length (decimal_text n) + 1)
number_length w n = omega (arith, length-append w (decimal_text n ++ line_end), length-append (decimal_text n) line_end)

pub refused_length : (x : Refusal) → length (refused_line x) ≡ 8 + (length (decimal_text (number_of x)) + 1)
unfolding refused_line
refused_length x = number_length refused_text (number_of x)

pub convertible_length : (k : ℕ) → length (verdict_line (Ok (Convertible k))) ≡ 12 + (length (decimal_text k) + 1)
unfolding verdict_line
convertible_length k = number_length convertible_text k

pub no_word_length : (p : Pair) → length (verdict_line (Ok (NoWord p))) ≡ 16 + (length (pair_text p) + 9)
unfolding verdict_line
no_word_length p = omega (arith, length-append (pair_text p) (no_word_text ++ line_end))

pub rival_length : (p q : Pair) → length (verdict_line (Ok (Rival p q))) ≡ 16 + (length (pair_text p) + (7 + (length (pair_text q) + 1)))
unfolding verdict_line
rival_length p q =
    omega (arith, length-append (pair_text p) (rival_text ++ (pair_text q ++ line_end)), length-append (pair_text q) line_end)

-- by these, goals of the functions that write a line are found
pub ruleset line_laws = (wrote_length, pair_length, number_length, no_word_length, rival_length)
