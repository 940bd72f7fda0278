-- What a rule makes at a stand, with some freed tests.
use Rattle.std.proofs.Common.{◌≡◌, ℕ, zero, suc, ◌<◌, ◌≤◌, ◌⊎◌, ◌↔◌, inl, inr, Bool, true, false, not, eqb, List, [], ◌∷◌, length, refl, sym, ◌∙◌, arith}
use Rattle.std.specs.Prelude.{Option, Some, None, IsTrue}
use Rattle.std.proofs.lemmas.Option.{slice_get_within, same_Some}
use Rattle.std.proofs.lemmas.Bool.Decides.{Decides-eqb}
use Rattle.kasa_lists.proofs.Options.{some_map}
use Rattle.kasa_graph.specs.declared.pattern.Node.{Node}
use Rattle.kasa_graph.specs.Signature.{TypeEntry}
use Rattle.kasa_graph.specs.Lists.{Has}
use Rattle.kasa_rules.specs.declared.rule.MadeAgent.{MadeAgent}
use Rattle.kasa_rules.specs.Rule.{RuleParts, made_type}
use Rattle.kasa_pre.specs.declared.Stand.{Stand}
use Rattle.kasa_pre.specs.declared.Stand.TheVariants.{Left, Made, Outside}
use Rattle.kasa_pre.specs.declared.FreedBy.{FreedBy}
use Rattle.kasa_pre.specs.Before.{AreFreed, outside_types}
use Rattle.kasa_pre.specs.Allowed.{IsAllowed}
use Rattle.kasa_pre.specs.Asked.{StandExists, StandsExist}
use Rattle.kasa_influence.specs.Gain.{MeetsWritten, Makes}
use Rattle.kasa_influence.specs.inner.Ask.{Asked, IsOne}
use Rattle.kasa_influence.specs.inner.Makes.{MakesAt, MayMake, MakesLeft, MakesCreated, CanFollow, Fits}
use Rattle.kasa_influence.proofs.OneLemmas.{the_type}
use Rattle.kasa_influence.proofs.BrokenLemmas.{node_within}

-- ---- stands

made_within : (r : RuleParts) (k a : ℕ) → made_type r k ≡ Some a → k < length r.made
unfolding made_type
made_within r k a typed = let x = some_map (λ (x : MadeAgent). x.agent) _ a typed in slice_get_within r.made k x.0 x.1

pub StandExists-fits : (sig : List TypeEntry) (r : RuleParts) (v : List Node) → IsOne sig v → (stand : Stand) → Fits r v stand → StandExists r stand
StandExists-fits sig r v one (Left n) fits = let a = the_type sig v one in node_within sig r.left n a.0 (fits a.0 a.1).1
StandExists-fits sig r v one (Made k) fits = let a = the_type sig v one in made_within r k a.0 (fits a.0 a.1)
StandExists-fits sig r v one Outside fits = tt

pub StandsExist-one : (r : RuleParts) (stand : Stand) → StandExists r stand → StandsExist r (stand ∷ [])
StandsExist-one r stand there zero other e = let same : stand ≡ other = cc in rw (← same) there
StandsExist-one r stand there (suc i) other e = absurd cc

pub one_outside : (v : List Node) (stand : Stand) → length v ≡ 1 → length (outside_types v (stand ∷ [])) ≤ 1
one_outside [] stand one = absurd cc
one_outside (node ∷ []) (Left n) one = omega arith
one_outside (node ∷ []) (Made k) one = omega arith
one_outside (node ∷ []) Outside one = omega arith
one_outside (node ∷ other ∷ v) stand one = absurd cc

-- ---- with given freed tests

pub listed_or_not : {X : Type 0} (xs : List X) (b : Bool) → b ≡ eqb (length xs) 0 → IsTrue (not b) ↔ ((x : X) × Has xs x)
listed_or_not [] b e = rw e (λ yes. absurd cc, λ some. absurd (let f = some.1.1 in cc))
listed_or_not (x ∷ xs) false e = (λ yes. (x, (0, refl)), λ some. refl)
listed_or_not (x ∷ xs) true e = absurd (let long : length (x ∷ xs) ≡ 0 = (Decides-eqb (length (x ∷ xs)) 0).0 (sym e) in omega arith)

module _ (a : Asked) (v : List Node) (stand : Stand) (freed : List FreedBy) where
  pub makes-parts : AreFreed a.rule v (stand ∷ []) freed → MeetsWritten a.rule v stand ⊎ ((f : FreedBy) × Has freed f) → CanFollow a v stand freed → Makes a.sig a.tables a.rule v stand freed
  makes-parts free gained (g, before, allowed) = record { pattern = g; free = free; before = before; allowed = allowed; gained = gained }

  pub makes-follows : Makes a.sig a.tables a.rule v stand freed → CanFollow a v stand freed
  makes-follows makes = (makes.pattern, makes.before, makes.allowed)

  -- by the most general pattern before
  module _ (answer : Option (List Node)) (tells : CanFollow a v stand freed ↔ ((g : List Node) × (answer ≡ Some g) × IsAllowed a.sig a.tables g)) where
    pub follows-none : answer ≡ None → IsTrue false ↔ CanFollow a v stand freed
    follows-none none = (λ yes. absurd cc, λ follows. absurd (let g = (tells.0 follows).1 in let e = sym none ∙ g in cc))

    pub follows-some : (g : List Node) → answer ≡ Some g → (b : Bool) → IsTrue b ↔ IsAllowed a.sig a.tables g → IsTrue b ↔ CanFollow a v stand freed
    follows-some g is b allowed = (λ yes. tells.1 (g, is, allowed.0 yes), λ follows. back (tells.0 follows))
      where
        back : ((h : List Node) × (answer ≡ Some h) × IsAllowed a.sig a.tables h) → IsTrue b
        back (h, e, ok) = let same : h ≡ g = same_Some h g (sym e ∙ is) in allowed.1 (rw (← same) ok)

-- ---- stands that make something

module _ (a : Asked) (v : List Node) (one : IsOne a.sig v) where
  -- the node may have them
  pub makes-fits : (stand : Stand) → MakesAt a v stand → Fits a.rule v stand
  makes-fits stand (freed, makes) b typed = makes.before.stand.fit 0 b stand refl typed

  pub makes-exists : (stand : Stand) → MakesAt a v stand → StandExists a.rule stand
  makes-exists stand makes = StandExists-fits a.sig a.rule v one stand (makes-fits stand makes)

  -- they are left nodes, created agents, or outside
  pub makes-some : MayMake a v → ((n : ℕ) × MakesLeft a v n) ⊎ ((k : ℕ) × MakesCreated a v k) ⊎ MakesAt a v Outside
  makes-some (Left n, makes) = inl (n, makes)
  makes-some (Made k, makes) = inr (inl (k, makes))
  makes-some (Outside, makes) = inr (inr makes)
