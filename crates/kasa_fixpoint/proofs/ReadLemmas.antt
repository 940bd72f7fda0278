-- What a rule yields from larger tables, and from tables that have what it reads.
use Rattle.std.proofs.Common.{◌≡◌, ℕ, ◌<◌, inl, inr, List, [], ◌∷◌, ◌++◌, sym, ◌∙◌, arith}
use Rattle.kasa_graph.specs.declared.pattern.Node.{Node}
use Rattle.kasa_graph.specs.Signature.{TypeEntry}
use Rattle.kasa_graph.specs.Lists.{Has}
use Rattle.kasa_graph.specs.Pattern.{types_of}
use Rattle.kasa_lists.proofs.Elements.{some_at}
use Rattle.kasa_lists.proofs.Having.{Has-[], Has-head, Has-later, Has-cons, Has-append}
use Rattle.kasa_graph.proofs.ShapeLemmas.{agent_at-node}
use Rattle.kasa_graph.proofs.TestLemmas.{agent_at-types}
use Rattle.kasa_families.specs.declared.family.Family.{Family}
use Rattle.kasa_families.specs.declared.family.Family.TheVariants.{Parallel}
use Rattle.kasa_families.specs.declared.row.Row.{Row}
use Rattle.kasa_families.specs.declared.row.Row.TheVariants.{Different}
use Rattle.kasa_families.specs.Family.{family_types, root}
use Rattle.kasa_families.specs.Row.{IsRow}
use Rattle.kasa_families.specs.Pattern.{row_pattern}
use Rattle.kasa_families.specs.Table.{Table, families_of, IsWithin}
use Rattle.kasa_families.proofs.RowPattern.{row_types, types_of-row_pattern}
use Rattle.kasa_families.proofs.FamilyShape.{some_types}
use Rattle.kasa_rules.specs.Rule.{RuleParts}
use Rattle.kasa_pre.specs.declared.Stand.{Stand}
use Rattle.kasa_pre.specs.declared.Stand.TheVariants.{Left, Made, Outside}
use Rattle.kasa_pre.specs.Place.{IsPlace}
use Rattle.kasa_pre.specs.Before.{outside_types}
use Rattle.kasa_pre.specs.Allowed.{IsAllowed}
use Rattle.kasa_pre.specs.Yields.{Yields}
use Rattle.kasa_pre.proofs.AllowedLemmas.{IsAllowed-within}
use Rattle.kasa_pre.proofs.CoverLemmas.{length-root, root_size}
use Rattle.kasa_pre.proofs.SpotPlaces.{rooted-stands}
use Rattle.kasa_fixpoint.specs.Reads.{ReadsType, ReadsFamily, IsReadWithin}

pub Yields-within : (sig : List TypeEntry) (first second : List Table) (r : RuleParts) (family : Family) (row : Row) → families_of second ≡ families_of first → IsWithin first second → Yields sig first r family row → Yields sig second r family row
Yields-within sig first second r family row same within y = record {
  stands = y.stands;
  freed = y.freed;
  pattern = y.pattern;
  free = y.free;
  before = y.before;
  allowed = IsAllowed-within sig first second y.pattern same within y.allowed;
}

-- ---- the types of a pattern before

outside_among : (v : List Node) (stands : List Stand) (a : ℕ) → Has (outside_types v stands) a → Has (types_of v) a
outside_among [] stands a has = absurd (Has-[] a has)
outside_among (node ∷ v) [] a has = absurd (Has-[] a has)
outside_among (node ∷ v) (Left n ∷ stands) a has = Has-later node.agent (types_of v) a (outside_among v stands a has)
outside_among (node ∷ v) (Made n ∷ stands) a has = Has-later node.agent (types_of v) a (outside_among v stands a has)
outside_among (node ∷ v) (Outside ∷ stands) a has = elim (Has-cons node.agent (outside_types v stands) a has) [
  | inl e ↦ rw e (Has-head node.agent (types_of v))
  | inr later ↦ Has-later node.agent (types_of v) a (outside_among v stands a later)
]

types_among : (family : Family) (row : Row) (a : ℕ) → Has (row_types family row) a → Has (family_types family) a
types_among (Parallel c x u b y w) Different a has = elim (Has-cons c (b ∷ b ∷ []) a has) [
  | inl e ↦ rw e (Has-head c (b ∷ []))
  | inr later ↦ Has-later c (b ∷ []) a (elim (Has-cons b (b ∷ []) a later) [ inl e ↦ rw e (Has-head b []) | inr last ↦ last ])
]
types_among family row a has = has

-- ---- the families that are read

positive : (family : Family) → 0 < root_size family
positive (Parallel a x u b y w) = omega arith
positive family = some_types family

module _ (sig : List TypeEntry) (r : RuleParts) (family : Family) (row : Row) (valid : IsRow sig family row) (stands : List Stand) (g : List Node) (types : types_of g ≡ types_of r.left ++ outside_types (row_pattern sig family row) stands) where
  read_type : (a : ℕ) → Has (types_of g) a → ReadsType r family a
  read_type a has = elim (Has-append (types_of r.left) (outside_types (row_pattern sig family row) stands) a (rw types at has)) [
    | inl left ↦ inl left
    | inr outside ↦ inr (types_among family row a (rw (types_of-row_pattern sig family row valid) at (outside_among (row_pattern sig family row) stands a outside)))
  ]

  -- a family whose root has a place there is read
  placed_is_read : (other : Family) (place : List ℕ) → IsPlace (root sig other) g place → ReadsFamily r family other
  placed_is_read other place at =
      let count = at.count ∙ length-root sig other in
      let first = some_at place 0 (let some = positive other in omega arith) in
      let node = some_at (root sig other) 0 (let some = positive other in let size = length-root sig other in omega arith) in
      let typed = at.types 0 first.0 node.0.agent first.1 (agent_at-node (root sig other) 0 node.0 node.1) in (
        node.0.agent,
        rooted-stands sig other g first.0 node.0.agent place (record { stands = at; first = first.1 }) typed,
        read_type node.0.agent (first.0, sym (agent_at-types g first.0) ∙ typed),
      )

  allowed_as_read : (first second : List Table) → families_of second ≡ families_of first → IsReadWithin first second r family → IsAllowed sig second g → IsAllowed sig first g
  allowed_as_read first second same within ok = λ other has place at.
      let c = ok other (rw same has) place at in
      (c.0, within other (placed_is_read other place at) c.0 c.1, c.2)

pub Yields-read : (sig : List TypeEntry) (first second : List Table) (r : RuleParts) (family : Family) (row : Row) → families_of second ≡ families_of first → IsRow sig family row → IsReadWithin first second r family → Yields sig second r family row → Yields sig first r family row
Yields-read sig first second r family row same valid within y = record {
  stands = y.stands;
  freed = y.freed;
  pattern = y.pattern;
  free = y.free;
  before = y.before;
  allowed = allowed_as_read sig r family row valid y.stands y.pattern y.before.types first second same within y.allowed;
}
