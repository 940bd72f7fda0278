-- The rows of a parallel family that occur in a mixture are told by the partners of the cells of its root.
use Rattle.std.proofs.Common.{◌≡◌, ℕ, zero, suc, ◌<◌, ◌↔◌, List, [], ◌∷◌, ◌++◌, refl, sym, ap, ◌∙◌, length, arith, Option, Some, true, false}
use Rattle.std.specs.Prelude.{slice_get}
use Rattle.std.proofs.lemmas.Option.{same_Some}
use Rattle.kasa_graph.specs.declared.mixture.Agent.{Agent}
use Rattle.kasa_graph.specs.Lists.{Has}
use Rattle.kasa_graph.specs.Signature.{TypeEntry}
use Rattle.kasa_graph.specs.Mixture.{partner_in, IsMixtureOver}
use Rattle.kasa_graph.specs.Embedding.{IsEmbedding}
use Rattle.kasa_families.specs.declared.family.Family.{Family}
use Rattle.kasa_families.specs.declared.family.Family.TheVariants.{Parallel}
use Rattle.kasa_families.specs.declared.row.Local.{Local}
use Rattle.kasa_families.specs.declared.row.Row.{Row}
use Rattle.kasa_families.specs.declared.row.Row.TheVariants.{Locals, Same, Different}
use Rattle.kasa_families.specs.Family.{IsFamily, root}
use Rattle.kasa_families.specs.Row.{IsRow}
use Rattle.kasa_families.specs.Pattern.{Occurs, row_pattern}
use Rattle.kasa_families.proofs.Orthogonal.{partners, same_leads, different_leads, root_extends_once}
use Rattle.kasa_families.proofs.RowPattern.{length_of, types_of-parallel_root, types_of-row_pattern}
use Rattle.kasa_pre.proofs.EmbeddingLemmas.{cells_at, IsEmbedding-place}
use Rattle.kasa_pre.proofs.RowPlace.{IsPlace-root}
use Rattle.kasa_embed.specs.Connected.{IsConnected}
use Rattle.kasa_parallel.specs.Parallel.{IsParallel, HasOnePartner, SomeHasOneOrNot}

module _ (sig : List TypeEntry) (m : List (Option Agent)) (over : IsMixtureOver sig m) (a x u b y w : ℕ) (ok : IsFamily sig (Parallel a x u b y w)) where
  abbrev family : Family
  family = Parallel a x u b y w

  length-root : length (root sig family) ≡ 1
  length-root = length_of (root sig family) (a ∷ []) (types_of-parallel_root sig a x u b y w)

  -- the root has one cell
  one_cell : (cells : List ℕ) → IsEmbedding (root sig family) m cells → (c : ℕ) × (cells ≡ c ∷ [])
  one_cell [] emb = absurd (let count = emb.count in let one = length-root in omega arith)
  one_cell (c ∷ []) emb = (c, refl)
  one_cell (c ∷ d ∷ cells) emb = absurd (let count = emb.count in let one = length-root in omega arith)

  -- the first cell of a row that occurs is one of the root
  root_cell : (row : Row) → IsRow sig family row → (c : ℕ) (others : List ℕ) → IsEmbedding (row_pattern sig family row) m (c ∷ others) → IsEmbedding (root sig family) m (c ∷ [])
  unfolding cells_at
  root_cell row is c others emb = IsEmbedding-place (root sig family) (row_pattern sig family row) m (c ∷ others) (0 ∷ []) (IsPlace-root sig family row ok is) emb within
    where
      within : (n p : ℕ) → slice_get (0 ∷ []) n ≡ Some p → p < length (c ∷ others)
      within zero p e = let here : 0 ≡ p = cc in omega arith
      within (suc n) p e = absurd cc

  module _ (c : ℕ) (emb : IsEmbedding (root sig family) m (c ∷ [])) where
    -- where both bonds lead
    ends : (d : ℕ) × (e : ℕ) × (partner_in m c x ≡ Some (d, y)) × (partner_in m c u ≡ Some (e, w))
    ends = let two = partners sig m over a x u b y w ok c emb in (two.1.0, two.2.0, two.1.1, two.2.1)

    one_end : HasOnePartner m x u c → ends.0 ≡ ends.1
    one_end h =
        let first : (ends.0, y) ≡ (h.partner, h.at_x) = same_Some _ _ (sym ends.2 ∙ h.first) in
        let second : (ends.1, w) ≡ (h.partner, h.at_u) = same_Some _ _ (sym ends.3 ∙ h.second) in
        ap (λ (p : ℕ × ℕ). p.0) first ∙ sym (ap (λ (p : ℕ × ℕ). p.0) second)

    has_one : ends.0 ≡ ends.1 → HasOnePartner m x u c
    has_one same = record { partner = ends.0; at_x = y; at_u = w; first = ends.2; second = ends.3 ∙ ap (λ (d : ℕ). Some (d, w)) (sym same) }

    one_occurs : HasOnePartner m x u c → Occurs sig family Same m
    one_occurs h = let once = root_extends_once sig family m (c ∷ []) ok over emb in by once.row once.more once.valid once.embedded
      where
        by : (row : Row) (more : List ℕ) → IsRow sig family row → IsEmbedding (row_pattern sig family row) m ((c ∷ []) ++ more) → Occurs sig family Same m
        by Same more valid there = ((c ∷ []) ++ more, there)
        by Different more valid there = absurd ((different_leads sig m over a x u b y w ok c more ends.0 ends.1 ends.2 ends.3 there).1 (one_end h))
        by (Locals locals) more valid there = absurd valid

    two_occur : (¬ HasOnePartner m x u c) → Occurs sig family Different m
    two_occur not = let once = root_extends_once sig family m (c ∷ []) ok over emb in by once.row once.more once.valid once.embedded
      where
        by : (row : Row) (more : List ℕ) → IsRow sig family row → IsEmbedding (row_pattern sig family row) m ((c ∷ []) ++ more) → Occurs sig family Different m
        by Same more valid there = absurd (not (has_one (same_leads sig m over a x u b y w ok c more ends.0 ends.1 ends.2 ends.3 there).1))
        by Different more valid there = ((c ∷ []) ++ more, there)
        by (Locals locals) more valid there = absurd valid

  -- ---- all cells of the root

  module _ (found : List (List ℕ)) (each : (cells : List ℕ) → Has found cells ↔ IsEmbedding (root sig family) m cells) where
    pub some_same : SomeHasOneOrNot m x u true found ↔ Occurs sig family Same m
    some_same = (there, back)
      where
        there : SomeHasOneOrNot m x u true found → Occurs sig family Same m
        there (cells, has, one) =
            let emb = (each cells).0 has in
            let c = one_cell cells emb in
            one_occurs c.0 (rw c.1 at emb) (rw c.1 at one)

        back : Occurs sig family Same m → SomeHasOneOrNot m x u true found
        back ([], emb) = absurd (let count = emb.count ∙ length_of _ (a ∷ b ∷ []) (types_of-row_pattern sig family Same tt) in omega arith)
        back (c ∷ others, emb) =
            let here = root_cell Same tt c others emb in
            let two = ends c here in
            (c ∷ [], (each (c ∷ [])).1 here, has_one c here (same_leads sig m over a x u b y w ok c others two.0 two.1 two.2 two.3 emb).1)

    pub some_different : SomeHasOneOrNot m x u false found ↔ Occurs sig family Different m
    some_different = (there, back)
      where
        there : SomeHasOneOrNot m x u false found → Occurs sig family Different m
        there (cells, has, none) =
            let emb = (each cells).0 has in
            let c = one_cell cells emb in
            two_occur c.0 (rw c.1 at emb) (rw c.1 at none)

        back : Occurs sig family Different m → SomeHasOneOrNot m x u false found
        back ([], emb) = absurd (let count = emb.count ∙ length_of _ (a ∷ b ∷ b ∷ []) (types_of-row_pattern sig family Different tt) in omega arith)
        back (c ∷ others, emb) =
            let here = root_cell Different tt c others emb in
            let two = ends c here in
            (c ∷ [], (each (c ∷ [])).1 here, λ one. (different_leads sig m over a x u b y w ok c others two.0 two.1 two.2 two.3 emb).1 (one_end c here one))

    -- the rows that occur
    pub rows_seen : (rows : List Row) → (Has rows Same ↔ SomeHasOneOrNot m x u true found) → (Has rows Different ↔ SomeHasOneOrNot m x u false found) → ((locals : List Local) → ¬ Has rows (Locals locals)) → (row : Row) → Has rows row ↔ (IsRow sig family row × Occurs sig family row m)
    rows_seen rows ones twos none Same = (λ has. (tt, some_same.0 (ones.0 has)), λ h. ones.1 (some_same.1 h.1))
    rows_seen rows ones twos none Different = (λ has. (tt, some_different.0 (twos.0 has)), λ h. twos.1 (some_different.1 h.1))
    rows_seen rows ones twos none (Locals locals) = (λ has. absurd (none locals has), λ h. absurd h.0)

-- what finding the embeddings of its root asks
pub root_small : (sig : List TypeEntry) (family : Family) → IsParallel family → IsFamily sig family → (length (root sig family) ≡ 1) × IsConnected (root sig family)
root_small sig (Parallel a x u b y w) parallel ok = (one_node, connected)
  where
    one_node : length (root sig (Parallel a x u b y w)) ≡ 1
    one_node = length_of (root sig (Parallel a x u b y w)) (a ∷ []) (types_of-parallel_root sig a x u b y w)

    connected : IsConnected (root sig (Parallel a x u b y w))
    connected zero within = ([], refl)
    connected (suc n) within = absurd (let count = one_node in omega arith)
root_small sig family parallel ok = absurd parallel

pub some_cell-parallel : (sig : List TypeEntry) (m : List (Option Agent)) (family : Family) → IsParallel family → IsFamily sig family → (cells : List ℕ) → IsEmbedding (root sig family) m cells → 0 < length cells
some_cell-parallel sig m family parallel ok cells emb = let count = emb.count in let one = (root_small sig family parallel ok).0 in omega arith
