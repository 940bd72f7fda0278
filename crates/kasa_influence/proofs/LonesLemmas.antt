-- All left nodes of rules, each by itself.
use Rattle.std.proofs.Common.{◌≡◌, ℕ, ◌+◌, ◌≤◌, ◌↔◌, List, [], ◌∷◌, ◌++◌, length, refl, sym, ◌∙◌, arith}
use Rattle.std.specs.Prelude.{Some, slice_get}
use Rattle.std.proofs.lemmas.Option.{same_Some, slice_get_within}
use Rattle.kasa_graph.specs.declared.pattern.Node.{Node}
use Rattle.kasa_graph.specs.Lists.{Has}
use Rattle.kasa_rules.specs.declared.model.Model.{Model}
use Rattle.kasa_rules.specs.Rule.{RuleParts}
use Rattle.kasa_influence.specs.declared.lone.Lone.{Lone}
use Rattle.kasa_influence.specs.Alone.{alone}
use Rattle.kasa_influence.specs.inner.Search.{IsLone, IsLoneOf, Adds}
use Rattle.kasa_influence.proofs.AddsLemmas.{Below, Adds-push, Adds-more, Adds-same, Adds-all}

-- the node of a number, of the rule of a number
abbrev pub IsLoneAt : RuleParts → ℕ → ℕ → Lone → Type 0
IsLoneAt r k n l = (l.node ≡ n) × IsLoneOf r k l

abbrev pub IsLoneFrom : Model → ℕ → Lone → Type 0
IsLoneFrom model k l = (l.rule ≡ k) × IsLone model l

module _ (r : RuleParts) (k : ℕ) where
  pub lone-more : (n : ℕ) (node : Node) (v : List Node) (first found : List Lone) → slice_get r.left n ≡ Some node → v ≡ alone r.left node → Adds (Below (IsLoneAt r k) n) first found → Adds (Below (IsLoneAt r k) (n + 1)) first (found ++ record { rule = k; node = n; pattern = v } ∷ [])
  lone-more n node v first found at is before =
      Adds-more (IsLoneAt r k) n first found _ before (Adds-push (IsLoneAt r k n) found (record { rule = k; node = n; pattern = v }) (λ l. (there l, back l)))
    where
      there : (l : Lone) → IsLoneAt r k n l → record { rule = k; node = n; pattern = v } ≡ l
      there l (e, (rule, (node', at', p))) =
          let same : node' ≡ node = same_Some node' node (sym (rw e at at') ∙ at) in
          let pattern : v ≡ l.pattern = is ∙ rw (← same) (sym p) in
          λ i. record { rule = sym rule i; node = sym e i; pattern = pattern i }

      back : (l : Lone) → record { rule = k; node = n; pattern = v } ≡ l → IsLoneAt r k n l
      back l e = rw (← e) (refl, (refl, (node, at, is)))

  pub lones-of_rule : (n : ℕ) (first found : List Lone) → length r.left ≤ n → Adds (Below (IsLoneAt r k) n) first found → Adds (IsLoneOf r k) first found
  lones-of_rule n first found past added = Adds-same (Below (IsLoneAt r k) n) (IsLoneOf r k) first found (λ l. (λ (m, h, p). p.1, λ is. back l is)) added
    where
      back : (l : Lone) → IsLoneOf r k l → Below (IsLoneAt r k) n l
      back l is = (l.node, (let within = slice_get_within r.left l.node is.1.0 is.1.1 in omega arith), (refl, is))

module _ (model : Model) where
  pub lones-from : (k : ℕ) (r : RuleParts) (first found : List Lone) → slice_get model.rules k ≡ Some r → Adds (IsLoneOf r k) first found → Adds (IsLoneFrom model k) first found
  lones-from k r first found at added = Adds-same (IsLoneOf r k) (IsLoneFrom model k) first found (λ l. (there l, back l)) added
    where
      there : (l : Lone) → IsLoneOf r k l → IsLoneFrom model k l
      there l is = (is.0, (r, rw (is.0) at, (refl, is.1)))

      back : (l : Lone) → IsLoneFrom model k l → IsLoneOf r k l
      back l (e, (other, at', is)) =
          let same : other ≡ r = same_Some other r (sym (rw e at at') ∙ at) in
          (e, rw same at is.1)

  pub lones-all : (k : ℕ) (found : List Lone) → length model.rules ≤ k → Adds (Below (IsLoneFrom model) k) [] found → (l : Lone) → Has found l ↔ IsLone model l
  lones-all k found past added = Adds-all (IsLone model) found (Adds-same (Below (IsLoneFrom model) k) (IsLone model) [] found (λ l. (λ (j, h, p). p.1, back l)) added)
    where
      back : (l : Lone) → IsLone model l → Below (IsLoneFrom model) k l
      back l is = (l.rule, (let within = slice_get_within model.rules l.rule is.0 is.1 in omega arith), (refl, is))
