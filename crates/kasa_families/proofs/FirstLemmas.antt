-- Laws of first numbers that have a property.
use Rattle.std.proofs.Common.{◌≡◌, ℕ, ◌↔◌, arith}
use Rattle.std.specs.Prelude.{Option, Some, None, Bool, IsTrue}
use Rattle.std.specs.Option.{is_some}
use Rattle.kasa_families.specs.First.{IsLeastFrom}

-- whether there is one at all
pub is_there : (P : ℕ → Type 0) (o : Option ℕ) (b : Bool) → b ≡ is_some o → IsLeastFrom P 0 o → IsTrue b ↔ ((k : ℕ) × P k)
is_there P None b e none = (λ yes. absurd cc, λ some. absurd (none some.0 (omega arith) some.1))
is_there P (Some k) b e least = (λ yes. (k, least.1), λ some. e)
