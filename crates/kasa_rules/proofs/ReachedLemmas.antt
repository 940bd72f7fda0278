-- What a model reaches is valid over its signature, where additions lead, and what is there at first.
use Rattle.std.proofs.Common.{◌≡◌, ℕ, zero, suc, ◌<◌, inl, inr, List, [], ◌∷◌, ◌++◌, length, refl, sym, ◌∙◌, arith}
use Rattle.std.specs.Prelude.{Option, Some, None, slice_get}
use Rattle.std.specs.Option.{option_map_or}
use Rattle.kasa_lists.specs.Lists.{Has}
use Rattle.kasa_lists.proofs.Numbers.{below_or}
use Rattle.kasa_lists.proofs.Having.{Has-head, Has-later}
use Rattle.kasa_graph.specs.declared.mixture.Agent.{Agent}
use Rattle.kasa_graph.specs.Mixture.{type_in, IsMixtureOver}
use Rattle.kasa_graph.proofs.BesideLemmas.{IsMixtureOver-beside, IsMixtureOver-[], type_in-beside_left, type_in-beside_right}
use Rattle.kasa_rules.specs.declared.model.Model.{Model}
use Rattle.kasa_rules.specs.Reached.{Event, Step, Run, declared_complex, copies_of, IsAddition, Reached, IsModel}
use Rattle.kasa_rules.specs.Reached.Event.{fires, adds}
use Rattle.kasa_rules.proofs.FiredLemmas.{type_within}
use Rattle.kasa_rules.proofs.ValidLemmas.{IsMixtureOver-fire}

-- ---- what is reached is valid

module _ (model : Model) (valid : IsModel model) where
  pub init_valid : (o : Option (List (Option Agent))) → ((m : List (Option Agent)) → o ≡ Some m → IsMixtureOver model.sig m) → IsMixtureOver model.sig (option_map_or (λ (m : List (Option Agent)). m) o [])
  init_valid None ok = IsMixtureOver-[] model.sig
  init_valid (Some m) ok = ok m refl

  pub IsMixtureOver-copies : (copies : List ℕ) → IsMixtureOver model.sig (copies_of model copies)
  IsMixtureOver-copies [] = IsMixtureOver-[] model.sig
  IsMixtureOver-copies (i ∷ copies) = IsMixtureOver-beside model.sig _ (copies_of model copies) (init_valid (slice_get model.inits i) (λ m e. valid.inits i m e)) (IsMixtureOver-copies copies)

  -- so is each declared complex
  pub IsMixtureOver-declared : (n : ℕ) (k : List (Option Agent)) → declared_complex model n ≡ Some k → IsMixtureOver model.sig k
  IsMixtureOver-declared zero k is = absurd cc
  IsMixtureOver-declared (suc i) k is = valid.inits i k is

  pub IsMixtureOver-step : (m next : List (Option Agent)) (event : Event) → IsMixtureOver model.sig m → Step model m event next → IsMixtureOver model.sig next
  IsMixtureOver-step m next (fires k cells) over (r, is, at, e) = rw e (IsMixtureOver-fire model.sig r cells m over (valid.rules k r is) at)
  IsMixtureOver-step m next (adds n) over (added, k, is, e) = rw e (IsMixtureOver-beside model.sig m k over (IsMixtureOver-declared n k is))

  IsMixtureOver-run : (events : List Event) (m last : List (Option Agent)) → IsMixtureOver model.sig m → Run model m events last → IsMixtureOver model.sig last
  IsMixtureOver-run [] m last over run = rw run over
  IsMixtureOver-run (event ∷ events) m last over (next, step, run) = IsMixtureOver-run events next last (IsMixtureOver-step m next event over step) run

  -- what a model reaches is valid over its signature
  pub IsMixtureOver-reached : (m : List (Option Agent)) → Reached model m → IsMixtureOver model.sig m
  IsMixtureOver-reached m reached = IsMixtureOver-run reached.events (copies_of model reached.copies) m (IsMixtureOver-copies reached.copies) reached.run

-- ---- one step more

module _ (model : Model) where
  Run-next : (events : List Event) (m last next : List (Option Agent)) (event : Event) → Run model m events last → Step model last event next → Run model m (events ++ event ∷ []) next
  Run-next [] m last next event run step = (next, rw (← run) step, refl)
  Run-next (first ∷ events) m last next event (second, step, run) step' = (second, step, Run-next events second last next event run step')

  pub Reached-next : (m next : List (Option Agent)) (event : Event) → Reached model m → Step model m event next → Reached model next
  Reached-next m next event reached step = record {
    copies = reached.copies;
    no_additions = reached.no_additions;
    events = reached.events ++ event ∷ [];
    run = Run-next reached.events (copies_of model reached.copies) m next event reached.run step;
  }

  -- ---- what is there at first

  -- an init that isn't an addition has an agent of the type
  abbrev pub HasInitOf : ℕ → Type 0
  HasInitOf a = (i : ℕ) × ¬ IsAddition model i × (k : List (Option Agent)) × (slice_get model.inits i ≡ Some k) × (d : ℕ) × (type_in k d ≡ Some a)

  no_type : (c a : ℕ) → type_in [] c ≡ Some a → ⊥
  no_type c a e = let within : c < zero = type_within [] c a e in omega arith

  HasInitOf-init : (i : ℕ) → ¬ IsAddition model i → (o : Option (List (Option Agent))) → slice_get model.inits i ≡ o → (c a : ℕ) → type_in (option_map_or (λ (m : List (Option Agent)). m) o []) c ≡ Some a → HasInitOf a
  HasInitOf-init i first None at c a e = absurd (no_type c a e)
  HasInitOf-init i first (Some k) at c a e = (i, first, k, at, c, e)

  HasInitOf-copies : (copies : List ℕ) → ((i : ℕ) → Has copies i → ¬ IsAddition model i) → (c a : ℕ) → type_in (copies_of model copies) c ≡ Some a → HasInitOf a
  HasInitOf-copies [] inits c a e = absurd (no_type c a e)
  HasInitOf-copies (i ∷ copies) inits c a e =
      let first = option_map_or (λ (m : List (Option Agent)). m) (slice_get model.inits i) [] in
      elim (below_or c (length first)) [
        | inl within ↦ HasInitOf-init i (inits i (Has-head i copies)) (slice_get model.inits i) refl c a (sym (type_in-beside_left first (copies_of model copies) c within) ∙ e)
        | inr j ↦ HasInitOf-copies copies (λ n has. inits n (Has-later i copies n has)) j.0 a (sym (type_in-beside_right first (copies_of model copies) c j.0 j.1) ∙ e)
      ]

  pub HasInitOf-first : (m : List (Option Agent)) (reached : Reached model m) → reached.events ≡ [] → (c a : ℕ) → type_in m c ≡ Some a → HasInitOf a
  HasInitOf-first m reached none c a e = HasInitOf-copies reached.copies reached.no_additions c a (rw (← is) e)
    where
      is : m ≡ copies_of model reached.copies
      is = rw none at reached.run
