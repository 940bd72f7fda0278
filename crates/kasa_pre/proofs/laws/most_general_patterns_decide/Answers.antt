use Rattle.kasa_families.specs.Pattern.{row_pattern}
use Rattle.kasa_families.proofs.OverLemmas.{IsPatternOver-row_pattern}
use Rattle.kasa_pre.proofs.FoundBefore.{most_general_exists}
use Rattle.kasa_pre.proofs.AllowedLemmas.{IsAllowed-general}
use Rattle.kasa_pre.proofs.laws.most_general_patterns_decide.Goals as goal

pub returns : goal.returns
returns c = λ sig tables r family row rule ok valid. (
  λ yields.
      let found = most_general_exists sig r (row_pattern sig family row) yields.stands yields.freed rule (IsPatternOver-row_pattern sig family row ok valid) yields.pattern yields.before in
      record {
        stands = yields.stands;
        freed = yields.freed;
        pattern = found.0;
        free = yields.free;
        most_general = found.1;
        allowed = IsAllowed-general found.0 yields.pattern (found.1.most_general yields.pattern yields.before) sig tables yields.allowed;
      },
  λ most. record {
    stands = most.stands;
    freed = most.freed;
    pattern = most.pattern;
    free = most.free;
    before = most.most_general.before;
    allowed = most.allowed;
  },
)
