-- What is looked for in `s.B`.
use Rattle.std.specs.Prelude.{ℕ, List}
use Rattle.kasa_graph.specs.Signature.{TypeEntry}
use Rattle.kasa_syntax.specs.declared.agents.LinkWord.{LinkWord}
use Rattle.kasa_compile.specs.declared.names.PartnerPart.{PartnerPart}
use Rattle.kasa_compile.specs.declared.names.PartnerPart.TheVariants.{Agent as part_agent, Site as part_site}
use Rattle.kasa_compile.specs.Names.{unknown_partner_type, unknown_partner_site}

abbrev pub unknown_part : PartnerPart → List ℕ → List TypeEntry → LinkWord → List ℕ
unknown_part part_agent text sig w = unknown_partner_type text sig w
unknown_part part_site text sig w = unknown_partner_site text sig w
