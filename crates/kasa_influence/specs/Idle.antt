-- Rules that do nothing.
use Rattle.std.specs.Prelude.{◌≡◌, ◌≢◌, ℕ, Some, None}
use Rattle.kasa_rules.specs.declared.rule.Fate.TheVariants.{Deleted}
use Rattle.kasa_rules.specs.Rule.{RuleParts, fate_at, written_state, written_link, made_type}

-- the rule keeps all its left nodes as they are, and creates nothing
pub record IsIdle (r : RuleParts) : Type 0 where
  pub kept : (n : ℕ) → fate_at r n ≢ Some Deleted
  pub states : (n s : ℕ) → written_state r n s ≡ None
  pub links : (n s : ℕ) → written_link r n s ≡ None
  pub made : (k : ℕ) → made_type r k ≡ None
