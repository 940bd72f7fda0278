-- What options come from.
use Rattle.std.proofs.Common.{◌≡◌, refl}
use Rattle.std.specs.Prelude.{Option, Some, None, IsSome, option_map, option_and_then}

pub some_map : {X Y : Type 0} (f : X → Y) (o : Option X) (y : Y) → option_map f o ≡ Some y → (x : X) × (o ≡ Some x) × (f x ≡ y)
some_map f None y e = absurd cc
some_map f (Some x) y e = (x, refl, cc)

pub some_then : {X Y : Type 0} (f : X → Option Y) (o : Option X) (y : Y) → option_and_then f o ≡ Some y → (x : X) × (o ≡ Some x) × (f x ≡ Some y)
some_then f None y e = absurd cc
some_then f (Some x) y e = (x, refl, e)

pub some_same : {X Y : Type 0} (h : X → Y) (o p : Option X) → option_map h o ≡ option_map h p → IsSome p → IsSome o
some_same h None None e some = some
some_same h None (Some y) e some = absurd cc
some_same h (Some x) p e some = refl
