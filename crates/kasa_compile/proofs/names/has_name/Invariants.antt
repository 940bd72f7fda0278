use Rattle.std.proofs.Common.{◌≡◌, take, false}
use Rattle.std.specs.List.{list_any}
use Rattle.std.specs.Str.{bytes_eq}
use Rattle.kasa_syntax.specs.declared.agents.SiteText.{SiteText}
use Rattle.kasa_sig.specs.Mentions.{word}
use Rattle.kasa_compile.proofs.names.has_name.Given as goal

abbrev pub invariant-loop-site : goal.invariant-loop-site
invariant-loop-site l = list_any (λ (s : SiteText). bytes_eq (word l.text s.name) (word l.text l.fn.name)) (take l.site-index l.sites) ≡ false
