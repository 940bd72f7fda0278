use Rattle.std.proofs.Common.{◌≡◌, ◌∷◌, ◌++◌, [], Ok, take}
use Rattle.std.specs.List.{flat_map}
use Rattle.kasa_sig.specs.declared.names.Source.TheVariants.{Declarations as declarations}
use Rattle.kasa_sig.specs.Mentions.{word, type_mention, declared_site}
use Rattle.kasa_sig.specs.Outcome.{after}
use Rattle.kasa_sig.specs.Owners.{IsTypeNamed}
use Rattle.kasa_sig.proofs.declared.declare_type.Given as goal

abbrev pub invariant-loop-site : goal.invariant-loop-site
invariant-loop-site l = record {
  read : after declarations l.fn.sig ((type_mention l.text l.agent.name ∷ []) ++ flat_map (declared_site l.text (word l.text l.agent.name)) (take l.site-index l.site-items)) ≡ Ok l.sig;
  owner : IsTypeNamed l.sig l.number (word l.text l.agent.name);
}
