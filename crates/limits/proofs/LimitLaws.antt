-- How the limits follow from one another: each by computation.
use Rattle.std.proofs.Common.{◌≡◌, refl, ◌+◌, ◌-◌, ◌*◌}
use Rattle.limits.specs.Limits.{most_parties, most_labels, longest_word, symbol_count, last_symbol, most_records, pair_numbers, mask_places}

-- a word has at most one symbol fewer than there are parties
pub words_by_parties : longest_word ≡ most_parties - 1
words_by_parties = refl

-- four symbols for each label, and they are places of a mask
pub symbols_by_labels : symbol_count ≡ 4 * most_labels
symbols_by_labels = refl

pub last_of_symbols : last_symbol + 1 ≡ symbol_count
last_of_symbols = refl

pub symbols_in_mask : symbol_count ≡ mask_places
symbols_in_mask = refl

pub parties_in_mask : most_parties ≡ mask_places
parties_in_mask = refl

-- a record for each pair of different parties and each label, and for each permit
pub records_by_pairs : most_records ≡ most_parties * (most_parties - 1) * (most_labels + 1)
records_by_pairs = refl

pub numbers_by_parties : pair_numbers ≡ most_parties * most_parties
numbers_by_parties = refl
