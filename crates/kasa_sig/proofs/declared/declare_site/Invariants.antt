use Rattle.std.proofs.Common.{◌≡◌, ◌∷◌, ◌++◌, [], Ok, take}
use Rattle.std.specs.List.{flat_map}
use Rattle.kasa_sig.specs.declared.names.Source.TheVariants.{Declarations as declarations}
use Rattle.kasa_sig.specs.Mentions.{word, site_mention}
use Rattle.kasa_sig.specs.Outcome.{after, type_at}
use Rattle.kasa_sig.specs.Owners.{IsSiteNamed}
use Rattle.kasa_sig.proofs.AfterLemmas.{one_state}
use Rattle.kasa_sig.proofs.declared.declare_site.Given as goal

abbrev pub invariant-loop-state : goal.invariant-loop-state
invariant-loop-state l = record {
  read : after declarations l.fn.sig
      ((site_mention l.text (type_at l.fn.sig l.agent) l.site.name ∷ []) ++ flat_map (one_state l.text (type_at l.fn.sig l.agent) (word l.text l.site.name)) (take l.state-index l.state-items))
      ≡ Ok l.sig;
  owner : IsSiteNamed l.sig l.agent l.number (type_at l.fn.sig l.agent) (word l.text l.site.name);
}
