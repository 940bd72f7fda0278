use Rattle.std.proofs.Common.{ap, ◌∙◌, take}
use Rattle.kasa_choose.proofs.view_chooser.ViewChooserChooser.begin.Goals as goal

pub returns : goal.returns
returns c = c.all.ensures ∙ c.truncate.ensures.items ∙ ap (take 8001) c.in_ok-families.ensures
