-- The lines of dead rules, one rule after another.
use Rattle.std.proofs.Common.{◌≡◌, ◌+◌, ◌≤◌, ℕ, inl, inr, List, [], ◌∷◌, ◌++◌, length, take, refl, sym, ap, ◌∙◌, append_assoc, arith}
use Rattle.std.specs.Prelude.{Some, slice_get}
use Rattle.std.proofs.lemmas.List.{append-nil, length-append, take_all}
use Rattle.kasa_lists.proofs.Elements.{take-one_more, length-taken}
use Rattle.kasa_graph.specs.Signature.{TypeEntry}
use Rattle.kasa_rules.specs.Rule.{RuleParts}
use Rattle.kasa_families.specs.Table.{Table}
use Rattle.kasa_pre.specs.Allowed.{IsDead}
use Rattle.kasa_report.specs.Section.{line, all_lines}
use Rattle.kasa_report.specs.DeadText.{AreDeadLines, rule_text}
use Rattle.kasa_report.proofs.TextLemmas.{all_lines-append}

module _ (sig : List TypeEntry) (tables : List Table) where
  alive_last : (n : ℕ) (rules : List RuleParts) (lines : List (List ℕ)) (r : RuleParts) → AreDeadLines sig tables n rules lines → ¬ IsDead sig tables r → AreDeadLines sig tables n (rules ++ r ∷ []) lines
  alive_last n [] [] r are alive = (alive, tt)
  alive_last n [] (l ∷ lines) r are alive = absurd are
  alive_last n (q ∷ rules) [] r are alive = (are.0, alive_last (n + 1) rules [] r are.1 alive)
  alive_last n (q ∷ rules) (l ∷ lines) r (inl (dead, is, are)) alive = inl (dead, is, alive_last (n + 1) rules lines r are alive)
  alive_last n (q ∷ rules) (l ∷ lines) r (inr (isnt_so, are)) alive = inr (isnt_so, alive_last (n + 1) rules (l ∷ lines) r are alive)

  dead_last : (n m : ℕ) (rules : List RuleParts) (lines : List (List ℕ)) (r : RuleParts) → m ≡ n + length rules → AreDeadLines sig tables n rules lines → IsDead sig tables r → AreDeadLines sig tables n (rules ++ r ∷ []) (lines ++ rule_text m r ∷ [])
  dead_last n m [] [] r e are dead = let same : m ≡ n = omega arith in inl (dead, ap (λ k. rule_text k r) same, tt)
  dead_last n m [] (l ∷ lines) r e are dead = absurd are
  dead_last n m (q ∷ rules) [] r e are dead = inr (are.0, dead_last (n + 1) m rules [] r (omega arith) are.1 dead)
  dead_last n m (q ∷ rules) (l ∷ lines) r e (inl (is_dead, is, are)) dead = inl (is_dead, is, dead_last (n + 1) m rules lines r (omega arith) are dead)
  dead_last n m (q ∷ rules) (l ∷ lines) r e (inr (isnt_so, are)) dead = inr (isnt_so, dead_last (n + 1) m rules (l ∷ lines) r (omega arith) are dead)

  -- the lines of the rules so far
  pub record AreWritten (rules : List RuleParts) (first now : List ℕ) : Type 0 where
    pub lines : List (List ℕ)
    pub are_lines : AreDeadLines sig tables 1 rules lines
    pub text : now ≡ first ++ all_lines lines

  pub dead_none : (first : List ℕ) → AreWritten [] first first
  dead_none first = record { lines = []; are_lines = tt; text = sym (append-nil first) }

  module _ (rules : List RuleParts) (k : ℕ) (r : RuleParts) (at : slice_get rules k ≡ Some r) (first before : List ℕ) (so_far : AreWritten (take k rules) first before) where
    pub dead_skip : ¬ IsDead sig tables r → AreWritten (take (k + 1) rules) first before
    dead_skip alive = record { lines = so_far.lines; are_lines = rw (take-one_more rules k r at) (alive_last 1 (take k rules) so_far.lines r so_far.are_lines alive); text = so_far.text }

    pub dead_more : (after : List ℕ) → IsDead sig tables r → after ≡ before ++ line (rule_text (k + 1) r) → AreWritten (take (k + 1) rules) first after
    dead_more after dead more =
        let size = length-taken rules k r at in
        record {
          lines = so_far.lines ++ rule_text (k + 1) r ∷ [];
          are_lines = rw (take-one_more rules k r at) (dead_last 1 (k + 1) (take k rules) so_far.lines r (omega arith) so_far.are_lines dead);
          text = more ∙ rw (so_far.text, all_lines-append so_far.lines (rule_text (k + 1) r ∷ []), append-nil (line (rule_text (k + 1) r))) (append_assoc first (all_lines so_far.lines) (line (rule_text (k + 1) r)));
        }

  pub dead_all : (rules : List RuleParts) (k : ℕ) (first now : List ℕ) → length rules ≤ k → AreWritten (take k rules) first now → (lines : List (List ℕ)) × AreDeadLines sig tables 1 rules lines × (now ≡ first ++ all_lines lines)
  dead_all rules k first now end w = (w.lines, rw (take_all k rules end) at w.are_lines, w.text)

  -- ---- how many they are

  pub record AreCounted (rules : List RuleParts) (count : ℕ) : Type 0 where
    pub lines : List (List ℕ)
    pub are_lines : AreDeadLines sig tables 1 rules lines
    pub count_is : count ≡ length lines

  pub counted_none : AreCounted [] 0
  counted_none = record { lines = []; are_lines = tt; count_is = refl }

  module _ (rules : List RuleParts) (k : ℕ) (r : RuleParts) (at : slice_get rules k ≡ Some r) (count : ℕ) (so_far : AreCounted (take k rules) count) where
    pub counted_skip : ¬ IsDead sig tables r → AreCounted (take (k + 1) rules) count
    counted_skip alive = record { lines = so_far.lines; are_lines = rw (take-one_more rules k r at) (alive_last 1 (take k rules) so_far.lines r so_far.are_lines alive); count_is = so_far.count_is }

    pub counted_more : IsDead sig tables r → AreCounted (take (k + 1) rules) (count + 1)
    counted_more dead =
        let size = length-taken rules k r at in
        let longer = length-append so_far.lines (rule_text (k + 1) r ∷ []) in
        record {
          lines = so_far.lines ++ rule_text (k + 1) r ∷ [];
          are_lines = rw (take-one_more rules k r at) (dead_last 1 (k + 1) (take k rules) so_far.lines r (omega arith) so_far.are_lines dead);
          count_is = omega (arith, longer, so_far.count_is);
        }

  pub counted_all : (rules : List RuleParts) (k count : ℕ) → length rules ≤ k → AreCounted (take k rules) count → (lines : List (List ℕ)) × AreDeadLines sig tables 1 rules lines × (count ≡ length lines)
  counted_all rules k count end w = (w.lines, rw (take_all k rules end) at w.are_lines, w.count_is)
