-- Kinds of families.
use Rattle.std.specs.Prelude.{Bool, true, false, List}
use Rattle.std.specs.List.{list_any}
use Rattle.kasa_choose.specs.declared.kind.Kind.{Kind}
use Rattle.kasa_choose.specs.declared.kind.Kind.TheVariants.{Views, Across, Parallel, Chains}

abbrev pub same_kind : Kind → Kind → Bool
same_kind Views Views = true
same_kind Across Across = true
same_kind Parallel Parallel = true
same_kind Chains Chains = true
same_kind _ _ = false

-- the kind is one of those that are left out
abbrev pub is_left_out : List Kind → Kind → Bool
is_left_out without kind = list_any (same_kind kind) without
