use Rattle.std.proofs.Common.{◌∙◌, ap}
use Rattle.std.specs.Prelude.{Err}
use Rattle.kasa_fixpoint.proofs.GrowLemmas.{TakesIn-inserted, HaveMoreRows-inserted, LacksRoom-inserted}
use Rattle.kasa_fixpoint.proofs.inserting.insert.Goals as goal

pub returns-in-Ok-clause-takes : goal.returns-in-Ok-clause-takes
returns-in-Ok-clause-takes c =
    TakesIn-inserted c.args.f c.requires.shape.0 c.args.row c.args.tables.now c.requires.room c.requires.shape.1 c.insert.new.self c.insert.result c.insert.ensures.added c.insert.ensures.there c.insert.ensures.same c.insert.ensures.full c.in-Ok.is_new c.in-Ok.is

pub returns-in-Ok-clause-grown : goal.returns-in-Ok-clause-grown
returns-in-Ok-clause-grown c =
    HaveMoreRows-inserted c.args.f c.requires.shape.0 c.args.row c.args.tables.now c.requires.room c.requires.shape.1 c.insert.new.self c.insert.result c.insert.ensures.added c.insert.ensures.there c.insert.ensures.same c.insert.ensures.full c.in-Ok.is_new c.in-Ok.is

pub returns-in-Err-Full-clause-too_many : goal.returns-in-Err-Full-clause-too_many
returns-in-Err-Full-clause-too_many c e =
    LacksRoom-inserted c.args.f c.requires.shape.0 c.args.row c.args.tables.now c.requires.room c.requires.shape.1 c.insert.new.self c.insert.result c.insert.ensures.added c.insert.ensures.there c.insert.ensures.same c.insert.ensures.full (c.in-Err-Full.is ∙ ap Err c.in-Err-Full.field-0-is)
