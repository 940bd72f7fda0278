use Rattle.std.proofs.Common.{◌≡◌, take, []}
use Rattle.std.specs.List.{flat_map}
use Rattle.kasa_compile.specs.Names.{in_brackets, unknown_partner_type}
use Rattle.kasa_compile.proofs.names.unknown_partner_type.Given as goal

abbrev pub invariant-loop-site : goal.invariant-loop-site
invariant-loop-site l = flat_map (λ s. in_brackets (unknown_partner_type l.text l.sig) s.link) (take l.site-index l.sites) ≡ []
