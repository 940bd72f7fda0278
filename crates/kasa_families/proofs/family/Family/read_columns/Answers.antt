use Rattle.std.proofs.Common.{◌≡◌, ℕ, ◌+◌, ◌<◌, ◌⊎◌, inl, inr, sym, ◌∙◌, length, refl, arith}
use Rattle.std.specs.Prelude.{Some, slice_get}
use Rattle.std.proofs.lemmas.Option.{slice_get_within}
use Rattle.kasa_families.specs.Family.{shape_of}
use Rattle.kasa_families.proofs.PlaceLists.{take_filled, filled_next}
use Rattle.kasa_families.proofs.family.Family.read_columns.Goals as goal

pub loop-k-preserved : goal.loop-k-preserved
loop-k-preserved c = filled_next c.loop-k.sites (shape_of c.args.self.now).columns c.loop-k.k 16 c.column_at.result c.loop-k.invariant c.column_at.ensures (let few = c.requires in let all = c.columns-count.ensures in let below = c.loop-k-test.true in omega arith)

pub returns : goal.returns
returns c = take_filled _ _ _ c.columns-count.ensures (let few = c.requires in let long = c.loop-k.invariant.0 in omega arith)
    (λ j y e. c.loop-k.invariant.1 j y (let within = slice_get_within (shape_of c.args.self.now).columns j y e in let past = c.loop-k-test.false in let all = c.columns-count.ensures in omega arith) e)
