-- A row's local states are kept in the value, so its capacity is known.
use Rattle.std.specs.Prelude.{◌≡◌, ℕ}
use Rattle.std.proofs.Common.{sym, ap}
use Rattle.kasa_families.specs.declared.row.Locals.TheInside.{Inside}

pub capacity_is : (a : Inside) → a.items.capacity ≡ 16 →
    (let b : Inside = record { items = record { items = a.items.items; capacity = 16 } } in b) ≡ a
capacity_is a h =
    let with_capacity : ℕ → Inside = λ n. record { items = record { items = a.items.items; capacity = n } } in
    sym (ap with_capacity h)
