-- The two sides of a rule with their agents in order: which stay, which are deleted, and which are created.
use Rattle.std.specs.Prelude.{ℕ, List, [], ◌∷◌, ◌++◌, length, Option, Some, None}
use Rattle.kasa_rules.specs.declared.rule.End.{End}
use Rattle.kasa_rules.specs.declared.rule.End.TheVariants.{Left, Made}
use Rattle.kasa_compile.specs.declared.said.AgentSaid.{AgentSaid}
use Rattle.kasa_compile.specs.declared.said.Pair.{Pair}

-- the agents on the left and on the right in order; for each on the left its number on the right, none where it is
-- deleted; for each on the right what it is in the rule; and the numbers on the right of those that are created
pub record SidesParts : Type 0 where
  pub left : List AgentSaid
  pub right : List AgentSaid
  pub after : List (Option ℕ)
  pub ends : List End
  pub made : List ℕ

abbrev pub no_sides : SidesParts
no_sides = record { left = []; right = []; after = []; ends = []; made = [] }

abbrev pub with_pair : SidesParts → Option AgentSaid → Option AgentSaid → SidesParts
with_pair x (Some l) (Some r) = record x {
  left = x.left ++ l ∷ [];
  right = x.right ++ r ∷ [];
  after = x.after ++ Some (length x.right) ∷ [];
  ends = x.ends ++ Left (length x.left) ∷ [];
}
with_pair x (Some l) None = record x { left = x.left ++ l ∷ []; after = x.after ++ None ∷ [] }
with_pair x None (Some r) = record x { right = x.right ++ r ∷ []; ends = x.ends ++ Made (length x.made) ∷ []; made = x.made ++ length x.right ∷ [] }
with_pair x None None = x

-- an agent on both sides stays, one on the left alone is deleted, and one on the right alone is created
abbrev pub with_pairs : SidesParts → List Pair → SidesParts
with_pairs x [] = x
with_pairs x (p ∷ pairs) = with_pairs (with_pair x p.left p.right) pairs

abbrev pub sides_of : List Pair → SidesParts
sides_of pairs = with_pairs no_sides pairs
