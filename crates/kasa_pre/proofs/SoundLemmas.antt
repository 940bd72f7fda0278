-- Closed tables cover each mixture that a model reaches.
use Rattle.std.proofs.Common.{◌≡◌, ℕ, suc, List, [], ◌∷◌, refl}
use Rattle.std.specs.Prelude.{Option, Some, None, slice_get}
use Rattle.std.specs.Option.{option_map_or}
use Rattle.kasa_graph.specs.declared.mixture.Agent.{Agent}
use Rattle.kasa_graph.specs.Mixture.{IsMixtureOver}
use Rattle.kasa_families.specs.Table.{Table, AreTables}
use Rattle.kasa_rules.specs.declared.model.Model.{Model}
use Rattle.kasa_rules.specs.Reached.{Event, Run, copies_of, Reached, IsModel}
use Rattle.kasa_pre.specs.Closed.{Cover, IsClosed}
use Rattle.kasa_rules.proofs.ReachedLemmas.{init_valid, IsMixtureOver-copies, IsMixtureOver-step}
use Rattle.kasa_pre.proofs.StepLemmas.{Cover-[], Cover-beside, Cover-declared, Cover-step}

-- ---- reached mixtures

module _ (model : Model) (valid : IsModel model) (tables : List Table) (ok : AreTables model.sig tables) (closed : IsClosed model tables) where
  init_cover : (i : ℕ) (o : Option (List (Option Agent))) → slice_get model.inits i ≡ o → Cover model.sig tables (option_map_or (λ (m : List (Option Agent)). m) o [])
  init_cover i None e = Cover-[] model.sig tables
  init_cover i (Some m) e = Cover-declared model tables closed (suc i) m e

  pub Cover-copies : (copies : List ℕ) → Cover model.sig tables (copies_of model copies)
  Cover-copies [] = Cover-[] model.sig tables
  Cover-copies (i ∷ copies) =
      Cover-beside model.sig tables _ (copies_of model copies) ok (init_valid model valid (slice_get model.inits i) (λ m e. valid.inits i m e)) (IsMixtureOver-copies model valid copies) (init_cover i (slice_get model.inits i) refl) (Cover-copies copies)

  Cover-run : (events : List Event) (m last : List (Option Agent)) → IsMixtureOver model.sig m → Cover model.sig tables m → Run model m events last → Cover model.sig tables last
  Cover-run [] m last over cover run = rw run cover
  Cover-run (event ∷ events) m last over cover (next, step, run) =
      Cover-run events next last (IsMixtureOver-step model valid m next event over step) (Cover-step model tables m next event ok valid closed over cover step) run

  -- closed tables hold each valid row that occurs in a reached mixture
  pub Cover-reached : (m : List (Option Agent)) → Reached model m → Cover model.sig tables m
  Cover-reached m reached = Cover-run reached.events (copies_of model reached.copies) m (IsMixtureOver-copies model valid reached.copies) (Cover-copies reached.copies) reached.run
