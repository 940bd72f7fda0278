-- Families by number, and places by their first node, make up what tables allow.
use Rattle.std.proofs.Common.{◌≡◌, ℕ, ◌+◌, ◌<◌, ◌↔◌, inl, inr, List, refl, sym, ap, ◌∙◌, length, arith}
use Rattle.std.specs.Prelude.{Some, None, Bool, IsTrue, slice_get}
use Rattle.std.proofs.lemmas.Option.{slice_get-map, slice_get_within, same_Some}
use Rattle.kasa_graph.specs.declared.pattern.Node.{Node}
use Rattle.kasa_graph.specs.Signature.{TypeEntry}
use Rattle.kasa_graph.specs.Pattern.{agent_at}
use Rattle.kasa_graph.proofs.ListLemmas.{some_at, below_or}
use Rattle.kasa_families.proofs.TableLemmas.{table_of}
use Rattle.kasa_families.specs.declared.family.Family.{Family}
use Rattle.kasa_families.specs.declared.family.Family.TheVariants.{Parallel}
use Rattle.kasa_families.proofs.FamilyShape.{some_types}
use Rattle.kasa_families.specs.declared.place.Spot.{Spot}
use Rattle.kasa_families.specs.Family.{root}
use Rattle.kasa_families.specs.Spot.{place_of}
use Rattle.kasa_families.specs.Table.{Table, AreTables, families_of, rows_of}
use Rattle.kasa_families.specs.First.{IsLeastFrom, IsCompatibleRow, IsRooted}
use Rattle.kasa_pre.specs.Allowed.{HasCompatible, IsAllowed}
use Rattle.kasa_pre.specs.Spots.{StandsFrom, IsOnlySpot, IsNumberAllowedFrom, AreAllowedFrom}
use Rattle.kasa_pre.proofs.CoverLemmas.{length-root, root_size}
use Rattle.kasa_graph.proofs.ShapeLemmas.{agent_at-node, node_of_agent}
use Rattle.kasa_pre.proofs.SpotPlaces.{rooted-stands}

-- ---- families and rows by number

family_of : (tables : List Table) (f : ℕ) (t : Table) → slice_get tables f ≡ Some t → slice_get (families_of tables) f ≡ Some t.family
family_of tables f t at = slice_get-map (λ (t : Table). t.family) tables f ∙ rw at refl

rows_of-at : (tables : List Table) (f : ℕ) (t : Table) → slice_get tables f ≡ Some t → rows_of tables f ≡ t.rows
unfolding rows_of
rows_of-at tables f t at = rw at refl

module _ (sig : List TypeEntry) (tables : List Table) (ok : AreTables sig tables) (g : List Node) where
  row_of_number : (f : ℕ) (family : Family) (spot : Spot) → slice_get (families_of tables) f ≡ Some family → ((k : ℕ) × IsCompatibleRow tables f g spot k) → HasCompatible tables g family (place_of g family spot)
  row_of_number f family spot named (k, (other, row, also, at, fits)) =
      let t = table_of tables f family named in
      let same : other ≡ family = same_Some other family (sym also ∙ named) in
      (row, record { table = t.0; among = (f, t.1); of_family = t.2; has_row = (k, rw (rows_of-at tables f t.0 t.1) at at) }, rw same at fits)

  number_of_row : (f : ℕ) (family : Family) (spot : Spot) → slice_get (families_of tables) f ≡ Some family → HasCompatible tables g family (place_of g family spot) → (k : ℕ) × IsCompatibleRow tables f g spot k
  number_of_row f family spot named (row, holds, fits) =
      let j = holds.among.0 in
      let there : slice_get (families_of tables) j ≡ Some family = family_of tables j holds.table holds.among.1 ∙ ap Some holds.of_family in
      let same : j ≡ f = ok.different j f family there named in
      let at : slice_get tables f ≡ Some holds.table = rw (← same) holds.among.1 in
      (holds.has_row.0, (family, row, named, rw (rows_of-at tables f holds.table at) holds.has_row.1, fits))

  -- the one place of the family's root that begins with the node decides
  pub IsNumberAllowedFrom-spot : (n f : ℕ) (family : Family) (spot : Spot) (b : Bool) → slice_get (families_of tables) f ≡ Some family → IsOnlySpot sig family g n (Some spot) → IsTrue b ↔ ((k : ℕ) × IsCompatibleRow tables f g spot k) → IsTrue b ↔ IsNumberAllowedFrom sig tables g n f
  IsNumberAllowedFrom-spot n f family spot b named (stands, only) tells = (
    λ yes other also place at.
        let same : family ≡ other = same_Some family other (sym named ∙ also) in
        let at' : StandsFrom sig family g n place = rw same at in
        rw (← same, only place at') (row_of_number f family spot named (tells.0 yes)),
    λ all. tells.1 (number_of_row f family spot named (all family named (place_of g family spot) stands)),
  )

  -- ---- the families whose root begins with a type

  -- what holds of a family's number from one such family to the next
  pub below_next : (a from f : ℕ) (Q : ℕ → Type 0) → IsLeastFrom (IsRooted tables a) from (Some f) → ((j : ℕ) → j < from → IsRooted tables a j → Q j) → Q f → (j : ℕ) → j < f + 1 → IsRooted tables a j → Q j
  below_next a from f Q least below here j before rooted =
      elim (below_or j from) [
        | inl earlier ↦ below j earlier rooted
        | inr later ↦ elim (below_or j f) [
          | inl between ↦ absurd (least.2 j (let e = later.1 in omega arith) between rooted)
          | inr past ↦ let same : f ≡ j = let e = past.1 in omega arith in rw (← same) here
        ]
      ]

  pub rooted_within : (a f : ℕ) → IsRooted tables a f → f < length tables
  rooted_within a f (family, named, first) = let t = table_of tables f family named in slice_get_within tables f t.0 t.1

  pub AreAllowedFrom-rooted : (n a from : ℕ) → agent_at g n ≡ Some a → IsLeastFrom (IsRooted tables a) from None → ((j : ℕ) → j < from → IsRooted tables a j → IsNumberAllowedFrom sig tables g n j) → AreAllowedFrom sig tables g n
  AreAllowedFrom-rooted n a from typed none below family (j, named) place at =
      let rooted : IsRooted tables a j = (family, named, rooted-stands sig family g n a place at typed) in
      elim (below_or j from) [
        | inl earlier ↦ below j earlier rooted family named place at
        | inr later ↦ absurd (none j (let e = later.1 in omega arith) rooted)
      ]

  pub not_from : (n f : ℕ) → ¬ IsNumberAllowedFrom sig tables g n f → ¬ AreAllowedFrom sig tables g n
  not_from n f against all = against (λ family named. all family (f, named))

  -- ---- all nodes

  positive : (family : Family) → 0 < root_size family
  positive (Parallel a x u b y w) = omega arith
  positive family = some_types family

  pub IsAllowed-from : ((n : ℕ) → n < length g → AreAllowedFrom sig tables g n) → IsAllowed sig tables g
  IsAllowed-from all family has place at =
      let count = at.count ∙ length-root sig family in
      let first = some_at place 0 (let some = positive family in omega arith) in
      let node = some_at (root sig family) 0 (let some = positive family in let size = length-root sig family in omega arith) in
      all first.0 (node_within first.0 node.0.agent (at.types 0 first.0 node.0.agent first.1 (typed 0 node.0 node.1))) family has place (record { stands = at; first = first.1 })
    where
      typed : (k : ℕ) (node : Node) → slice_get (root sig family) k ≡ Some node → agent_at (root sig family) k ≡ Some node.agent
      typed k node e = agent_at-node (root sig family) k node e

      node_within : (n a : ℕ) → agent_at g n ≡ Some a → n < length g
      node_within n a e = let node = node_of_agent g n a e in slice_get_within g n node.0 node.1

  pub AreAllowedFrom-all : IsAllowed sig tables g → (n : ℕ) → AreAllowedFrom sig tables g n
  AreAllowedFrom-all all n family has place at = all family has place at.stands
