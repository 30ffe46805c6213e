-- The comparisons worked by hand, by computation over the list of rows. Assumes nothing.
use Rattle.std.proofs.Common.{◌≡◌, refl, map}
use mathlib.Core.List.{Memᴰ}
use Rattle.lists.specs.Lists.{all_of, any_of, filter_by, first_by, flat_map, up_from, range}
use Rattle.fields.specs.Numbers.{u16_at}
use Rattle.rebac.specs.Matter.{pairs_of, permitted}
use Rattle.rebac.specs.Paths.{candidates, routes, paths_of, has}
use Rattle.rebac.specs.Symbols.{kinds, kind_holds, apart, in_language, holds}
use Rattle.rebac.specs.Existence.{has_all, permits_pair}
use Rattle.house_layout.specs.Layout.{record_size, owner_in, record_of}
use Rattle.house_layout.specs.Fields.{fields_in_range, judge_record}
use Rattle.house_file.specs.Check.{says, contradicts, record_check, follow_chain, follow_chains, chains_check, check_of}
use Rattle.house_file.specs.Meaning.{chain_from, chain_of, recorded, is_edge, is_unknown, is_permitted}
use Rattle.graph.specs.FileMatter.{matter_of}
use Rattle.graph.specs.Legal.{legal_symbol}
use Rattle.rule_bytes.specs.ListBytes.{decode_count, decode_many, legal_word, decode_word, decode_term, decode_terms, decode_list}
use Rattle.comparison.specs.Compare.{only_file, only_list, differ, first_difference, comparison, compare_in, compare_call, said_compare}
use Rattle.worked_cases.specs.Comparisons.{ComparedList, compared_lists}
use Rattle.worked_cases.proofs.CasesHold.{same_at}

replies : map (λ c. compare_call c.file c.list) compared_lists ≡ map (λ c. c.reply) compared_lists
unfolding all_of any_of filter_by first_by flat_map up_from range u16_at pairs_of permitted candidates routes paths_of has
    kinds kind_holds apart in_language holds has_all permits_pair record_size owner_in record_of fields_in_range judge_record says
    contradicts record_check follow_chain follow_chains chains_check check_of chain_from chain_of recorded is_edge is_unknown is_permitted
    matter_of legal_symbol decode_count decode_many legal_word decode_word decode_term decode_terms decode_list only_file only_list differ
    first_difference comparison compare_in compare_call
replies = refl

told : map (λ c. said_compare c.reply) compared_lists ≡ map (λ c. c.said) compared_lists
told = refl

-- each row's reply is the call's, and is told as the row says
pub comparisons_hold : (c : ComparedList) → Memᴰ c compared_lists
    → (compare_call c.file c.list ≡ c.reply) × (said_compare c.reply ≡ c.said)
comparisons_hold c m = (
  same_at (λ c. compare_call c.file c.list) (λ c. c.reply) compared_lists replies m,
  same_at (λ c. said_compare c.reply) (λ c. c.said) compared_lists told m,
)
