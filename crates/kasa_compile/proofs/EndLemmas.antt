-- The ends of a rule with few agents have short numbers.
use Rattle.std.proofs.Common.{◌≡◌, ◌<◌, ◌≤◌, List, length, arith}
use Rattle.std.specs.Prelude.{Some, slice_get}
use Rattle.std.proofs.lemmas.Option.{slice_get_within}
use Rattle.kasa_graph.specs.Signature.{TypeEntry}
use Rattle.kasa_graph.proofs.ListLemmas.{some_at}
use Rattle.kasa_rules.specs.declared.rule.End.{End}
use Rattle.kasa_rules.specs.declared.rule.End.TheVariants.{Left, Made}
use Rattle.kasa_compile.specs.Sides.{SidesParts}
use Rattle.kasa_compile.specs.SidesView.{IsShortEnd, HasShortEnds}
use Rattle.kasa_compile.specs.Rule.{end_at}
use Rattle.kasa_compile.specs.Valid.{AreSides}
use Rattle.kasa_compile.proofs.BareLemmas.{made_few}

pub HasShortEnds-few : (sig : List TypeEntry) (x : SidesParts) → AreSides sig x → length x.left ≤ 12 → length x.right ≤ 12 → HasShortEnds x
HasShortEnds-few sig x sides few_left few_right k within = let there = some_at x.ends k within in short there.0 there.1
  where
    short : (e : End) → slice_get x.ends k ≡ Some e → IsShortEnd (end_at x.ends k)
    short (Left n) at =
        let stands = slice_get_within x.after n (Some k) ((sides.numbered.stays n k).1 at) in
        let is_short : n < 65536 = omega (arith, stands, sides.numbered.after_count, few_left) in
        rw at is_short
    short (Made j) at =
        let stands = slice_get_within x.made j k ((sides.numbered.is_made j k).1 at) in
        let few = made_few sig x sides in
        let is_short : j < 65536 = omega (arith, stands, few, few_right) in
        rw at is_short
