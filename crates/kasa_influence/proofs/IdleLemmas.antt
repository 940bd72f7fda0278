-- A rule that does nothing has no gain and no loss for any rule.
use Rattle.std.proofs.Common.{◌≡◌, ◌≢◌, ℕ, inl, inr, true, List, refl, ap}
use Rattle.std.specs.Prelude.{Some}
use Rattle.kasa_graph.specs.Signature.{TypeEntry}
use Rattle.kasa_families.specs.Table.{Table}
use Rattle.kasa_rules.specs.declared.rule.Written.{Written}
use Rattle.kasa_rules.specs.Rule.{RuleParts, touched}
use Rattle.kasa_pre.specs.declared.Stand.{Stand}
use Rattle.kasa_pre.specs.declared.Stand.TheVariants.{Left, Made, Outside}
use Rattle.kasa_pre.specs.Before.{state_written, link_written}
use Rattle.kasa_influence.specs.Gain.{Gains}
use Rattle.kasa_influence.specs.Loss.{Loses}
use Rattle.kasa_influence.specs.Idle.{IsIdle}
use Rattle.kasa_influence.proofs.AloneLemmas.{agent_at-alone}
use Rattle.kasa_influence.proofs.TouchLemmas.{not_touched}

module _ (sig : List TypeEntry) (tables : List Table) (r r2 : RuleParts) (idle : IsIdle r) where
  none_touched : (n s : ℕ) → touched r n s ≢ true
  none_touched n s e = let none = not_touched r n s (idle.kept n) (idle.links n s) in cc

  module _ (gains : Gains sig tables r r2) where
    not_made : (k : ℕ) → gains.stand ≢ Made k
    not_made k e =
        let some = gains.makes.before.stand.fit 0 gains.node.agent (Made k) (ap Some e) (agent_at-alone r2.left gains.number gains.node gains.«at») in
        let none = idle.made k in
        cc

    no_state : (s u : ℕ) (stand : Stand) → gains.stand ≡ stand → state_written r stand s ≢ Some u
    no_state s u (Left n) e f = let none = idle.states n s in cc
    no_state s u (Made k) e f = not_made k e
    no_state s u Outside e f = cc

    no_link : (s : ℕ) (w : Written) (stand : Stand) → gains.stand ≡ stand → link_written r stand s ≢ Some w
    no_link s w (Left n) e f = let none = idle.links n s in cc
    no_link s w (Made k) e f = not_made k e
    no_link s w Outside e f = cc

  pub no_gain-idle : ¬ Gains sig tables r r2
  no_gain-idle gains =
      elim gains.makes.gained [
        | inl (inl made) ↦ not_made gains made.0 made.1
        | inl (inr (inl written)) ↦ no_state gains written.0 written.1 gains.stand refl written.4
        | inl (inr (inr written)) ↦ no_link gains written.0 written.1 gains.stand refl written.3
        | inr freed ↦ none_touched freed.0.from freed.0.«at» (gains.makes.free.by_touched freed.0 freed.1)
      ]

  pub no_loss-idle : ¬ Loses sig tables r r2
  no_loss-idle loses =
      elim loses.stops.lost [
        | inl (inl deleted) ↦ idle.kept loses.place deleted
        | inl (inr (inl written)) ↦ let some = written.4 in let none = idle.states loses.place written.0 in cc
        | inl (inr (inr written)) ↦ let some = written.3 in let none = idle.links loses.place written.0 in cc
        | inr partner ↦ none_touched partner.1 partner.2 partner.5
      ]
