use Rattle.std.proofs.Common.{◌≡◌, ◌≢◌, ℕ, List, refl}
use Rattle.kasa_graph.specs.Signature.{TypeEntry}
use Rattle.kasa_families.specs.declared.family.Family.{Family}
use Rattle.kasa_families.specs.declared.family.Family.TheVariants.{Parallel}
use Rattle.kasa_families.specs.Shape.{root_of}
use Rattle.kasa_families.specs.Family.{shape_of, root}
use Rattle.kasa_families.proofs.FamilyShape.{IsShape-of}
use Rattle.kasa_families.proofs.patterns.rooted.Goals as goal

pub shape_root-requires : goal.shape_root-requires
shape_root-requires c = IsShape-of _ _ c.requires

by_shape : (sig : List TypeEntry) (family : Family) → ((a x u b y w : ℕ) → family ≢ Parallel a x u b y w) → root_of sig (shape_of family) ≡ root sig family
by_shape sig (Parallel a x u b y w) not = absurd (not a x u b y w refl)
by_shape sig family not = refl

pub returns-in_default : goal.returns-in_default
returns-in_default c = rw (← by_shape c.args.sig.now c.args.family.now c.in_default.not-Parallel) c.shape_root.ensures
