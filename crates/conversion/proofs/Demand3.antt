-- Demand 3 of the verdict, mining, permit and path calls: the existence theorem of rebac,
-- carried to the replies of the calls by the definitions that their contracts cite.
use Rattle.std.proofs.Common.{◌≡◌, refl, sym, ap, ◌∙◌, subst, ◌⊎◌, inl, inr, ⊎_elim, true, false, not, ◌&&◌, List, ◌∷◌, ◌++◌}
use Rattle.std.proofs.Common.{ℕ, ◌+◌, ◌*◌, ◌/◌, ◌%◌, ◌≤◌, ◌<◌, arith, Some, Ok, Err, length, drop, get_or, leb-true, le-leb}
use Rattle.std.proofs.lemmas.Bool.{lt-leb, not-true}
use mathlib.Core.List.Memᴰ
use mathlib.Core.List.{Memᴰ}
use Rattle.std.proofs.Math.ListN.{get_or-append}
use Rattle.lists.specs.Lists.{up_from, range}
use Rattle.lists.proofs.Cases.{by_test, by_found, clash, both, and_left, and_right}
use Rattle.lists.proofs.ListLaws.{up_length, First, first_in, all_in, all_of_lem, map_out}
use Rattle.lists.proofs.OrderLaws.{first_before, length_map}
use Rattle.lists.proofs.Pointwise.{get_or_below}
use Rattle.rebac.specs.Matter.{Matter, Pair, pair, IsPair, pairs_of, pair_before, permitted}
use Rattle.rebac.specs.Words.{Word, lex_less}
use Rattle.rebac.specs.Paths.{has, least_path}
use Rattle.rebac.specs.Symbols.{enlarged}
use Rattle.rebac.specs.Verdict.{convertible, no_word, rivalled, is_convertible, judge, rival, covers, spoils}
use Rattle.rebac.specs.Existence.{problem_of, problem_over, verdict_of, mined_list, plain_term, plain_list, permits_pair}
use Rattle.rebac.specs.Existence.{ConvertsAny, Converts, MatterWord, HasWord, score}
use Rattle.rebac.specs.NextWord.{pair_words}
use Rattle.rebac.proofs.SymbolsLaws.{alphabet_below}
use Rattle.rebac.proofs.AnyList.{any_list_verdict}
use Rattle.rebac.proofs.PairsLaws.{pairs_in, pairs_out, pairs_ascending}
use Rattle.rebac.proofs.Reach.{has_in, has_out, least_is_path, least_is_least, least_none}
use Rattle.rebac.proofs.SearchLaws.{least_size}
use Rattle.rebac.proofs.VerdictLaws.{judge_word, judge_no_rival, NoWord, Rivalled, is_convertible_lem}
use Rattle.rebac.proofs.Conversion.{score_has, score_one, word_in, word_out, mined_words, mined_terms_bounded, mined_items_bounded}
use Rattle.rebac.proofs.Conversion.{no_word_verdict, rival_verdict, convertible_iff, mined_converts}
use Rattle.house_file.specs.Check.{check_of}
use Rattle.house_layout.specs.declared.reply.Refusal.{Refusal}
use Rattle.graph.specs.FileMatter.{matter_of, Limits}
use Rattle.graph.specs.Legal.{is_pair}
use Rattle.graph.proofs.LoadLaws.{accepted_limits}
use Rattle.graph.proofs.LegalLaws.{pair_of, pair_is}
use Rattle.paths.specs.Calls.{path_call, found, writes, nothing}
use Rattle.search.specs.declared.word.Word.{Word as WordValue}
use Rattle.paths.proofs.CallLaws.{path_answer}
use Rattle.paths.proofs.HandOutLaws.{value_legal}
use Rattle.search.specs.promises.WordValues.{word_of, IsValue}
use Rattle.search.specs.Word.{Carries}
use Rattle.search.proofs.ValueLaws.{value_carries, value_is}
use Rattle.rules.specs.Permit.{permit_call, yes_or_no}
use Rattle.rules.proofs.MatterLists.{permit_of_mined}
use Rattle.mining.specs.Values.{pair_in}
use Rattle.mining.specs.declared.build.Pair.{Pair as PairValue}
use Rattle.conversion.specs.declared.verdict.Verdict.TheVariants as reply
use Rattle.conversion.specs.Calls.{list_of, bytes_of, verdict_reply, verdict_in, verdict_call, one_if, table_of}
use Rattle.conversion.specs.Calls.{mining_in, mining_call, too_short, writes as writesList}
use Rattle.conversion.proofs.SizeLaws.{term_bound, list_bound}
use Rattle.conversion.proofs.ReplyLaws.{reply_convertible, reply_no_word, reply_rival, reply_refused}
use Rattle.house_layout.proofs.RecordLaws.{by_check}
use Rattle.lists.proofs.Pieces.{get_or_map, up_at}
use Rattle.conversion.specs.Demands.{Wordless, IsRival, Hinders, FirstPair, ShowsPath, MinesList}

-- a matter's words and rivals, from the statements to the tests
module _ (M : Matter) where
  rival_in_lem : (p q : Pair) → IsRival M p q → rival (problem_of M) p q ≡ true
  unfolding rival covers problem_of problem_over pair_words
  rival_in_lem p q r =
      rw r.unpermitted
      (all_of_lem _ (pair_words M p) (λ w m.
      let h = word_out M p w m in
      let a : has (enlarged M) p w ≡ true = has_in (enlarged M) p w h.1.0 h.1.1 in
      let k = r.all w h in
      let b : has (enlarged M) q w ≡ true = has_in (enlarged M) q w k.1.0 k.1.1 in
      rw (score_one M refl p w, score_one M refl q w, a, b)))

  rival_out : (p q : Pair) → ((w : Word) × Memᴰ w (pair_words M p)) → Memᴰ q (pairs_of M.parties)
      → rival (problem_of M) p q ≡ true → IsRival M p q
  unfolding rival covers problem_of problem_over pair_words
  rival_out p q w m e =
      let u : not (permitted M q) ≡ true = and_left (not (permitted M q)) _ e in
      record {
        words = (w.0, word_out M p w.0 w.1);
        is_pair = pairs_out M.parties m;
        unpermitted = not-true (permitted M q) u;
        all = λ v h.
            let a : has (enlarged M) p v ≡ true = has_in (enlarged M) p v h.1.0 h.1.1 in
            let b : 1 ≤ score M p v = leb-true 1 (score M p v) (score_has M p v ∙ a) in
            let c : score M p v ≤ score M q v =
            leb-true _ _ (all_in _ (pair_words M p) (and_right (not (permitted M q)) _ e) (word_in M p v h)) in
            (h.0, has_out (enlarged M) q v h.0.some (sym (score_has M q v) ∙ le-leb 1 (score M q v) (omega arith)));
      }

  hinders_in : (p : Pair) → Hinders M p → spoils (problem_of M) p ≡ true
  unfolding spoils problem_of problem_over pair_words
  hinders_in p h =
      by_test (is_convertible (problem_of M) (judge (problem_of M) p))
      (λ c.
      let j = is_convertible_lem (problem_of M) (judge (problem_of M) p) c in
      let w : (w : Word) × Memᴰ w (pair_words M p) = judge_word (problem_of M) p j in
      ⊎_elim
      (λ (n : Wordless M p). absurd (n w.0 (word_out M p w.0 w.1)))
      (λ (r : (q : Pair) × IsRival M p q).
      both (rival_in_lem p r.0 r.1) (judge_no_rival (problem_of M) p j r.0 (pairs_in M.parties r.0 r.1.is_pair)))
      h.why)
      (λ c. rw (h.permit, c))

  -- the first pair that spoils a verdict is the first one that hinders
  first_hinders : (p : Pair) → First (spoils (problem_of M)) (pairs_of M.parties) p → Hinders M p → FirstPair M (Hinders M) p
  first_hinders p r h = record {
    is_pair = pairs_out M.parties (first_in r);
    here = h;
    first = λ x k g. first_before pair_before r (pairs_ascending M.parties) x (pairs_in M.parties x k) (hinders_in x g);
  }

  first_rival_lem : (p q : Pair) → ((w : Word) × Memᴰ w (pair_words M p)) → First (rival (problem_of M) p) (pairs_of M.parties) q
      → FirstPair M (IsRival M p) q
  first_rival_lem p q w r = record {
    is_pair = pairs_out M.parties (first_in r);
    here = rival_out p q w (first_in r) r.here;
    first = λ x k g. first_before pair_before r (pairs_ascending M.parties) x (pairs_in M.parties x k) (rival_in_lem p x g);
  }

  -- the verdicts of a matter
  no_word_first : (p : Pair) → verdict_of M ≡ no_word p → FirstPair M (Hinders M) p × Wordless M p
  unfolding problem_of problem_over pair_words
  no_word_first p v =
      let r : NoWord (problem_of M) p = no_word_verdict M p v in
      let n : Wordless M p = λ w h. Memᴰ.not-nil (rw r.empty at (word_in M p w h)) in
      (first_hinders p r.first (record { permit = r.permit; why = inl n }), n)

  rival_first : (p q : Pair) → verdict_of M ≡ rivalled p q → FirstPair M (Hinders M) p × FirstPair M (IsRival M p) q
  unfolding problem_of problem_over pair_words
  rival_first p q v =
      let r : Rivalled (problem_of M) p q = rival_verdict M p q v in
      let s : FirstPair M (IsRival M p) q = first_rival_lem p q r.word r.first_rival in
      (first_hinders p r.first (record { permit = r.permit; why = inr (q, s.here) }), s)

-- a table's byte by its place
table_length : (M : Matter) → length (table_of M) ≡ 1024
unfolding table_of range
table_length M = length_map _ (up_from 0 1024) ∙ up_length 0 1024

table_at : (M : Matter) (a b : ℕ) → a < 32 → b < 32
    → get_or (table_of M) (32 * a + b) 0 ≡ one_if (is_pair M.parties a b && permits_pair M (list_of M) (pair a b))
unfolding table_of range
table_at M a b p q =
    let g : ℕ → ℕ = λ k. one_if (is_pair M.parties (k / 32) (k % 32) && permits_pair M (list_of M) (pair (k / 32) (k % 32))) in
    let d : (0 + (32 * a + b)) / 32 ≡ a = omega arith in
    let m : (0 + (32 * a + b)) % 32 ≡ b = omega arith in
    get_or_map g (up_from 0 1024) (32 * a + b) 0 0 (omega (arith, up_length 0 1024))
    ∙ ap g (up_at 0 1024 (32 * a + b) 0 (omega arith))
    ∙ rw (d, m)

pub bytes_bound : (M : Matter) → Limits M → length (bytes_of M) ≤ 2 + 992 * 31778
unfolding bytes_of list_of
bytes_bound M k =
    list_bound (plain_list (mined_list M)) (omega (arith, length_map plain_term (mined_list M), mined_terms_bounded M k.parties.1))
    (λ t m.
    let s = map_out plain_term (mined_list M) m in
    rw s.2 (term_bound (plain_term s.0)
    (omega (arith, length_map (λ i. i.word) s.0, mined_items_bounded M k.parties.1 s.0 s.1))
    (λ w n.
    let i = map_out (λ i. i.word) s.0 n in
    rw i.2 (omega (arith, (mined_words M s.0 s.1 i.0 i.1).short, k.longest.1)))))

-- only an accepted file is convertible
pub convertible_accepted : (f : List ℕ) (k : ℕ) → verdict_call f ≡ Ok (reply.Convertible k) → check_of f ≡ Ok tt
unfolding verdict_call
convertible_accepted f k v = by_check (check_of f) (λ e. e) (λ x e. clash (cc (rw e at v)))

-- Demand 3, for every accepted file
module _ (f : List ℕ) (e : check_of f ≡ Ok tt) where
  -- the file's matter
  abbrev M : Matter
  M = matter_of f

  call_in : verdict_call f ≡ verdict_reply (length (bytes_of M)) (verdict_of M)
  unfolding verdict_call verdict_in
  call_in = rw e

  -- the verdict behind the reply
  pub convertible_verdict : (k : ℕ) → verdict_call f ≡ Ok (reply.Convertible k)
      → (verdict_of M ≡ convertible) × (length (bytes_of M) ≡ k)
  convertible_verdict k v = reply_convertible (length (bytes_of M)) k (verdict_of M) (sym call_in ∙ v)

  small : {p : Pair} → IsPair M.parties p → (p.first < 32) × (p.second < 32)
  small {p} h = let n = (accepted_limits f e).parties.1 in (omega (arith, h.first), omega (arith, h.second))

  -- an accepted file is never refused a verdict
  pub verdict_given : (x : Refusal) → verdict_call f ≡ Err x → ⊥
  verdict_given x q = reply_refused (length (bytes_of M)) x (verdict_of M) (sym call_in ∙ q)

  -- convertible exactly where a rule list exists: any list at all with words of at most D symbols makes it so,
  -- and where it is so there is one of the language's own words
  pub verdict_exact :
      (((r : List (List Word)) × ConvertsAny M r) → (k : ℕ) × (verdict_call f ≡ Ok (reply.Convertible k)))
      × (((k : ℕ) × (verdict_call f ≡ Ok (reply.Convertible k))) → (r : List (List Word)) × Converts M r)
  verdict_exact = (
    λ x. (length (bytes_of M), call_in ∙ rw (any_list_verdict M x.0 x.1)),
    λ x. (convertible_iff M refl).0 (convertible_verdict x.0 x.1).0,
  )

  -- the path call for a pair and a word of the matter, with output enough
  path_call_lem : (p : Pair) → IsPair M.parties p → (v : Word) → MatterWord M v → (w : WordValue) → Carries w v
      → (size : ℕ) → w.len + 1 ≤ size → path_call f p.first p.second w size ≡ found (least_path (enlarged M) p v)
  unfolding path_call
  path_call_lem p h v m w c size k =
      let l = value_legal M v m.over m.short w c in
      rw e
      (path_answer M p.first p.second w size (pair_is M.parties p.first p.second h) l
      (λ z. absurd (omega (arith, c.len, m.some))) k
      ∙ rw c.symbols)

  path_shown : (p : Pair) → IsPair M.parties p → (v : Word) → HasWord M p v → (w : WordValue) → Carries w v
      → (output : List ℕ) → w.len + 1 ≤ length output → ShowsPath f p w output
  path_shown p h v m w c output k =
      by_found (least_path (enlarged M) p v)
      (λ n. both (has_in (enlarged M) p v m.1.0 m.1.1) ((least_none (enlarged M) p v).0 n))
      (λ l n.
      let r = least_is_path (enlarged M) p v m.0.some n in
      let z : l ≡ p.first ∷ r.0 = r.1 in
      let a : path_call f p.first p.second w (length output) ≡ writes (p.first ∷ r.0) =
      path_call_lem p h v m.0 w c (length output) k ∙ ap found n ∙ ap writes z in
      let s : length (p.first ∷ r.0) ≡ w.len + 1 =
      ap length (sym z) ∙ least_size (enlarged M) p v n ∙ omega (arith, c.len) in
      record {
        via = r.0;
        path = rw c.symbols r.2;
        least = λ other o.
            subst (λ (y : List ℕ). (y ≡ p.first ∷ other) ⊎ (lex_less y (p.first ∷ other) ≡ true)) z
            (least_is_least (enlarged M) p v n other (rw c.symbols at o));
        answer = a;
        reply = rw a (ap (λ (i : ℕ). Ok (Some i)) s);
        written = rw a (ap (λ (i : ℕ). (p.first ∷ r.0) ++ drop i output) s);
      })

  -- not convertible, no word: the first permitted pair that has no word or has a rival; it has none,
  -- and the path call says so for every word
  pub no_word_exact : (x : PairValue) → verdict_call f ≡ Ok (reply.NoWord x)
      → FirstPair M (Hinders M) (pair_in x) × Wordless M (pair_in x)
  no_word_exact x v =
      no_word_first M (pair_in x) (reply_no_word (length (bytes_of M)) x (verdict_of M) (sym call_in ∙ v))

  pub no_word_nothing : (x : PairValue) → verdict_call f ≡ Ok (reply.NoWord x) → (v : Word) → MatterWord M v
      → (w : WordValue) → Carries w v → (size : ℕ) → w.len + 1 ≤ size → path_call f x.first x.second w size ≡ nothing
  no_word_nothing x t v m w c size k =
      let r = no_word_exact x t in
      let n : has (enlarged M) (pair_in x) v ≡ false =
      by_test (has (enlarged M) (pair_in x) v)
      (λ h. absurd (r.1 v (m, has_out (enlarged M) (pair_in x) v m.some h))) (λ h. h) in
      path_call_lem (pair_in x) r.0.is_pair v m w c size k ∙ rw ((least_none (enlarged M) (pair_in x) v).1 n)

  -- not convertible, a rival: the same pair, its first rival, and at every word of the pair the path call shows a path for both
  pub rival_exact : (x y : PairValue) → verdict_call f ≡ Ok (reply.Rival x y)
      → FirstPair M (Hinders M) (pair_in x) × FirstPair M (IsRival M (pair_in x)) (pair_in y)
  rival_exact x y v =
      rival_first M (pair_in x) (pair_in y)
      (reply_rival (length (bytes_of M)) x y (verdict_of M) (sym call_in ∙ v))

  pub rival_shown :
      (x y : PairValue) → verdict_call f ≡ Ok (reply.Rival x y) → (v : Word) → HasWord M (pair_in x) v → (w : WordValue) → Carries w v
      → (output : List ℕ) → 32 ≤ length output → ShowsPath f (pair_in x) w output × ShowsPath f (pair_in y) w output
  rival_shown x y t v h w c output k =
      let r = rival_exact x y t in
      let room : w.len + 1 ≤ length output = omega (arith, c.len, h.0.short, (accepted_limits f e).longest.1) in (
        path_shown (pair_in x) r.0.is_pair v h w c output room,
        path_shown (pair_in y) r.1.is_pair v (r.1.here.all v h) w c output room,
      )

  -- and every word of a matter has a value
  pub word_valued : (v : Word) → MatterWord M v → IsValue (word_of v) × Carries (word_of v) v
  word_valued v m =
      let n = accepted_limits f e in
      let small : (i : ℕ) → get_or v i 0 < 256 =
      get_or_below 256 (omega arith) v
      (λ s o. omega (arith, alphabet_below M.language M.labels (m.over s o), n.labels.1)) in
      (value_is v (omega (arith, m.short, n.longest.1)) small, value_carries v)

  permits_back : (a b : ℕ) → verdict_of M ≡ convertible → is_pair M.parties a b ≡ true
      → permit_call f (bytes_of M) a b ≡ yes_or_no (permitted M (pair a b))
  unfolding bytes_of list_of
  permits_back a b v p = permit_of_mined f e refl v a b p

  table_back : (a b : ℕ) → a < 32 → b < 32 → verdict_of M ≡ convertible
      → get_or (table_of M) (32 * a + b) 0 ≡ one_if (is_pair M.parties a b && permitted M (pair a b))
  unfolding list_of
  table_back a b p q v =
      table_at M a b p q
      ∙ by_test (is_pair M.parties a b)
      (λ t. rw (
        t,
        (mined_converts M refl v).any.exact (pair a b)
            (pairs_in M.parties (pair a b) (pair_of M.parties a b t)),
      ))
      (λ t. rw t)

  -- convertible: mining with scratch and output enough writes the list of that length,
  -- and permit on it and scratch give back the permit table
  pub mining_exact : (k : ℕ) → verdict_call f ≡ Ok (reply.Convertible k) → (scratch output : List ℕ)
      → 1024 ≤ length scratch → k ≤ length output → MinesList f k scratch output
  unfolding mining_call mining_in
  mining_exact k v scratch output s o =
      let r = convertible_verdict k v in
      let z : length (bytes_of M) ≡ k = r.1 in
      let a : mining_call f (length scratch) (length output) ≡ writesList (table_of M) (bytes_of M) =
      rw (e, le-leb 1024 (length scratch) s, r.0, le-leb (length (bytes_of M)) (length output) (omega arith)) in
      record {
        answer = a;
        reply = rw a (ap Ok z);
        size = z;
        written = rw a (ap (λ (i : ℕ). bytes_of M ++ drop i output) z);
        permits = λ i j p. permits_back i j r.0 p;
        table = λ i j p q.
            rw a (get_or-append (table_of M) (drop 1024 scratch) 0 (32 * i + j) (omega (arith, table_length M))
            ∙ table_back i j p q r.0);
      }

  -- the numbers in a reply: a length that an output can have, and parties below 32
  pub length_bound : (k : ℕ) → verdict_call f ≡ Ok (reply.Convertible k) → k ≤ 2 + 992 * 31778
  length_bound k v = rw (← (convertible_verdict k v).1) (bytes_bound M (accepted_limits f e))

  pub no_word_parties : (x : PairValue) → verdict_call f ≡ Ok (reply.NoWord x) → (x.first < 32) × (x.second < 32)
  no_word_parties x v = small (no_word_exact x v).0.is_pair

  pub rival_parties : (x y : PairValue) → verdict_call f ≡ Ok (reply.Rival x y)
      → ((x.first < 32) × (x.second < 32)) × ((y.first < 32) × (y.second < 32))
  rival_parties x y v = let r = rival_exact x y v in (small r.0.is_pair, small r.1.is_pair)

  -- an output that is too short for the list
  pub mining_short : (k : ℕ) → verdict_call f ≡ Ok (reply.Convertible k) → (scratch output : ℕ) → 1024 ≤ scratch → output < k
      → mining_call f scratch output ≡ too_short
  unfolding mining_call mining_in
  mining_short k v scratch output s o =
      let r = convertible_verdict k v in
      let z : length (bytes_of M) ≡ k = r.1 in
      rw (e, le-leb 1024 scratch s, r.0, lt-leb (length (bytes_of M)) output (omega arith))
