-- One turn of the loop, turns one after another, and what they come to.
use Rattle.std.proofs.Common.{◌≡◌, ℕ, zero, suc, ◌+◌, ◌-◌, ◌*◌, ◌<◌, ◌≤◌, ◌⊎◌, inl, inr, Bool, true, false, List, [], length, refl, arith}
use Rattle.std.proofs.lemmas.Nat.{row_fits}
use Rattle.kasa_lists.specs.Lists.{Has}
use Rattle.kasa_lists.proofs.Numbers.{same_or_not}
use Rattle.kasa_lists.proofs.Having.{Has-[], Has-cons}
use Rattle.kasa_worklist.specs.System.{Relations, HavePairResults, HaveAllResults, AreLawful, AreReaders, AreWithinLimit, AreLeastAbove, IsLimitPassed, rows_in_all}
use Rattle.kasa_worklist.specs.Counts.{reader_count, weigh}
use Rattle.kasa_worklist.specs.Agenda.{Waiting, Takes, Puts}
use Rattle.kasa_worklist.specs.Turn.{HaveGrown, Grows, Applies, AreSettled, IsTurn}
use Rattle.kasa_worklist.proofs.SumLemmas.{sum_below-same, sum_below-grown, count-below, sum_below-few}

-- ---- rows weighed

-- so many rows more of a weight weigh that much at least
heavier : (w more old new : ℕ) → old + more ≤ new → w * old + w * more ≤ w * new
heavier w more old new h = let fits = rw_mul w (old + more) new h in let spread : w * (old + more) ≡ w * old + w * more = omega arith in omega arith
  where
    rw_mul : (w a b : ℕ) → a ≤ b → w * a ≤ w * b
    rw_mul zero a b h = omega arith
    rw_mul (suc w) a b h = let rest = rw_mul w a b h in omega arith

module _ {T X : Type 0} (s : Relations T X) (f : ℕ) (below : f < s.families) (old new : T) where
  pub weigh-grown : (w : ℕ → ℕ) → HaveGrown s f old new true → weigh s w old + w f ≤ weigh s w new
  weigh-grown w grown =
      let longer = grown.more refl in
      let here = heavier (w f) 1 (length (s.rows old f)) (length (s.rows new f)) (omega arith) in
      sum_below-grown s.families (λ k. w k * length (s.rows old k)) (λ k. w k * length (s.rows new k)) f (w f) below (λ k ne. rw (grown.others k ne) refl) (omega arith)

  pub rows_in_all-grown : HaveGrown s f old new true → rows_in_all s old + 1 ≤ rows_in_all s new
  rows_in_all-grown grown =
      let longer = grown.more refl in
      sum_below-grown s.families (λ k. length (s.rows old k)) (λ k. length (s.rows new k)) f 1 below (λ k ne. rw (grown.others k ne) refl) (omega arith)

  pub weigh-same : (w : ℕ → ℕ) → HaveGrown s f old new false → weigh s w new ≡ weigh s w old
  weigh-same w grown = sum_below-same s.families (λ k. w k * length (s.rows new k)) (λ k. w k * length (s.rows old k)) (λ k less. rw (grown.same refl k) refl)

  pub rows_in_all-same : HaveGrown s f old new false → rows_in_all s new ≡ rows_in_all s old
  rows_in_all-same grown = sum_below-same s.families (λ k. length (s.rows new k)) (λ k. length (s.rows old k)) (λ k less. rw (grown.same refl k) refl)

-- ---- a turn

falls : (room less n was now : ℕ) → less < room → now < was + (n + 1) → less * (n + 1) + now < room * (n + 1) + was
falls room less n was now h k = let fits = row_fits less (n + 1) room (n + 1) h (omega arith) in omega arith

module _ {T X : Type 0} (s : Relations T X) (lawful : AreLawful s) (p : ℕ) (pair : p < s.pairs) (was mid : Waiting) (takes : Takes p was mid) (old new : T) (was_ok : AreWithinLimit s old) where
  kept_or : (q : ℕ) → Has was.numbers q → (q ≡ p) ⊎ Has mid.numbers q
  kept_or q has = Has-cons p mid.numbers q (rw takes.first at has)

  fewer : length was.numbers ≡ length mid.numbers + 1
  fewer = rw takes.first (omega arith)

  -- where no row is new
  settled_same : Applies s p old new false → AreSettled s was.numbers old → AreSettled s mid.numbers new
  settled_same applies settled q within = elim (settled q within) [
    | inl listed ↦ elim (kept_or q listed) [
      | inl e ↦ inr (λ row yields. rw e (applies.own row (back p row pair (rw e at yields))))
      | inr has ↦ inl has
    ]
    | inr results ↦ inr (λ row yields. applies.grows.kept (s.family q) row (results row (back q row within yields)))
  ]
    where
      back : (q : ℕ) (row : X) → q < s.pairs → s.yields new q row → s.yields old q row
      back q row within yields = lawful.monotone new old q row within applies.grows.has_room.valid was_ok.valid (λ k other has. rw (applies.grown.same refl k) at has) yields

  pub IsTurn-still : Applies s p old new false → IsTurn s was.numbers mid.numbers old new
  IsTurn-still applies =
      let few = fewer in
      let weight = weigh-same s (s.family p) (lawful.family p pair) old new (reader_count s) applies.grown in
      let count = rows_in_all-same s (s.family p) (lawful.family p pair) old new applies.grown in
      record {
        grows = applies.grows;
        settled = settled_same applies;
        low = omega arith;
        high = omega arith;
        less = rw count (omega arith);
      }

  module _ (now : Waiting) (readers : List ℕ) (are : AreReaders s (s.family p) readers) (puts : Puts readers mid now) (applies : Applies s p old new true) where
    -- what a pair that doesn't read the family yields now, it yielded before
    still : (q : ℕ) (row : X) → q < s.pairs → s.reads q (s.family p) ≡ false → s.yields new q row → s.yields old q row
    still q row within reads yields = lawful.local old new q row within was_ok.valid applies.grows.has_room.valid (λ g does other has. elim (same_or_not g (s.family p)) [
      | inl e ↦ absurd (let here : s.reads q (s.family p) ≡ true = rw e at does in cc)
      | inr ne ↦ rw (applies.grown.others g ne) at has
    ]) yields

    settled_grown : AreSettled s was.numbers old → AreSettled s now.numbers new
    settled_grown settled q within = by (s.reads q (s.family p)) refl
      where
        by : (b : Bool) → s.reads q (s.family p) ≡ b → Has now.numbers q ⊎ HavePairResults s new q
        by true reads = inl (puts.held q ((are.exact q).1 (within, reads)))
        by false reads = elim (settled q within) [
          | inl listed ↦ elim (kept_or q listed) [
            | inl e ↦ inr (λ row yields. rw e (applies.own row (rw e at (still q row within reads yields))))
            | inr has ↦ inl (puts.kept q has)
          ]
          | inr results ↦ inr (λ row yields. applies.grows.kept (s.family q) row (results row (still q row within reads yields)))
        ]

    few_readers : length readers ≤ reader_count s (s.family p)
    few_readers = count-below readers s.pairs (λ q. s.reads q (s.family p)) are.different (λ q has. (are.exact q).0 has)

    pub IsTurn-grown : IsTurn s was.numbers now.numbers old new
    IsTurn-grown =
        let few = fewer in
        let low = puts.low in
        let high = puts.high in
        let count = few_readers in
        let all = sum_below-few s.pairs (λ q. s.reads q (s.family p)) in
        let weight = weigh-grown s (s.family p) (lawful.family p pair) old new (reader_count s) applies.grown in
        let more = rows_in_all-grown s (s.family p) (lawful.family p pair) old new applies.grown in
        let room = applies.grows.has_room.few in
        record {
          grows = applies.grows;
          settled = settled_grown;
          low = omega arith;
          high = omega arith;
          less = falls (s.most - rows_in_all s old) (s.most - rows_in_all s new) s.pairs (length was.numbers) (length now.numbers) (omega arith) (omega arith);
        }

-- ---- one after another

module _ {T X : Type 0} (s : Relations T X) where
  pub Grows-none : (tables : T) → AreWithinLimit s tables → Grows s tables tables
  Grows-none tables room = record { has_room = room; kept = λ k row has. has; forced = λ others valid closed have. have }

  pub Grows-then : (a b c : T) → Grows s a b → Grows s b c → Grows s a c
  Grows-then a b c first second = record {
    has_room = second.has_room;
    kept = λ k row has. second.kept k row (first.kept k row has);
    forced = λ others valid closed have. second.forced others valid closed (first.forced others valid closed have);
  }

  pub past_limit-then : (a b : T) → Grows s a b → IsLimitPassed s b → IsLimitPassed s a
  past_limit-then a b grows passes others valid closed have = passes others valid closed (grows.forced others valid closed have)

  -- ---- the end

  pub all_results_held : (tables : T) → AreSettled s [] tables → HaveAllResults s tables
  all_results_held tables settled p within = elim (settled p within) [
    | inl listed ↦ absurd (Has-[] p listed)
    | inr results ↦ results
  ]

  pub are_least : (start tables : T) → Grows s start tables → HaveAllResults s tables → AreLeastAbove s start tables
  are_least start tables grows closed = record { room = grows.has_room; begins = grows.kept; closed = closed; least = grows.forced }

  pub not_passed : (start tables : T) → Grows s start tables → HaveAllResults s tables → ¬ IsLimitPassed s start
  not_passed start tables grows closed passes =
      let more = passes tables grows.has_room.valid closed grows.kept in
      let few = grows.has_room.few in
      omega arith
