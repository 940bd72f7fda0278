-- The step of soundness: what occurs after a firing is yielded from tables that cover the mixture before, and what occurs
-- after an addition occurred before or is initial.
use Rattle.std.proofs.Common.{ℕ, zero, suc, inl, inr, List, [], ◌++◌, ◌≡◌, refl}
use Rattle.std.specs.Prelude.{Option, Some, None, MatchOption}
use Rattle.kasa_graph.specs.declared.pattern.Node.{Node}
use Rattle.kasa_graph.specs.declared.mixture.Agent.{Agent}
use Rattle.kasa_graph.specs.Signature.{TypeEntry}
use Rattle.kasa_graph.specs.Lists.{Has}
use Rattle.kasa_graph.specs.Mixture.{beside, IsMixtureOver}
use Rattle.kasa_graph.specs.Embedding.{IsEmbedding}
use Rattle.kasa_families.specs.declared.family.Family.{Family}
use Rattle.kasa_families.specs.declared.row.Row.{Row}
use Rattle.kasa_families.specs.Row.{IsRow}
use Rattle.kasa_families.specs.Pattern.{row_pattern, Occurs}
use Rattle.kasa_families.specs.Table.{Table, AreTables, families_of}
use Rattle.kasa_rules.specs.Rule.{RuleParts, IsRuleOver}
use Rattle.kasa_rules.specs.Firing.{fire}
use Rattle.kasa_rules.specs.declared.model.Model.{Model}
use Rattle.kasa_rules.specs.Reached.{Event, Step, declared_complex, IsModel}
use Rattle.kasa_rules.specs.Reached.Event.{fires, adds}
use Rattle.kasa_pre.specs.LiesOn.{cells_before, StoodBefore}
use Rattle.kasa_pre.specs.Before.{IsBefore, IsMostGeneralBefore}
use Rattle.kasa_pre.specs.Yields.{YieldsPattern, Yields}
use Rattle.kasa_pre.specs.Allowed.{IsDead}
use Rattle.kasa_pre.specs.Closed.{Cover, IsClosed, LemmaHolds}
use Rattle.kasa_pre.specs.declared.Stand.{Stand}
use Rattle.kasa_pre.specs.declared.FreedBy.{FreedBy}
use Rattle.kasa_pre.proofs.RootLemmas.{root_extends}
use Rattle.kasa_pre.proofs.EmbeddingLemmas.{IsEmbedding-general}
use Rattle.kasa_graph.proofs.JoinedLemmas.{IsEmbedding-beside}
use Rattle.kasa_graph.proofs.ShapeLemmas.{IsShaped}
use Rattle.kasa_pre.proofs.RowLemmas.{IsShaped-row_pattern}
use Rattle.kasa_pre.proofs.StoodBefore.{StoodBefore-some}
use Rattle.kasa_families.proofs.RowPattern.{IsJoined-row_pattern, Occurs-[]}
use Rattle.kasa_families.proofs.TableLemmas.{IsFamily-of_tables}
use Rattle.kasa_rules.proofs.ReachedLemmas.{IsMixtureOver-declared}
use Rattle.kasa_pre.proofs.CoverLemmas.{IsAllowed-cover}

-- the most general pattern before stood there too
pub IsEmbedding-most_general : (sig : List TypeEntry) (r : RuleParts) (cells : List ℕ) (m : List (Option Agent)) (v : List Node) (after : List ℕ) (stands : List Stand) (freed : List FreedBy) (h : List Node) → StoodBefore sig r cells m v after stands freed → IsMostGeneralBefore sig r v stands freed h → IsEmbedding h m (cells_before cells stands after)
IsEmbedding-most_general sig r cells m v after stands freed h stood most = IsEmbedding-general h stood.pattern m (cells_before cells stands after) (most.most_general stood.pattern stood.before) stood.stood

-- an answer that is the most general pattern, or none where there is none, is one that stood there
pub answer-stood : (sig : List TypeEntry) (r : RuleParts) (cells : List ℕ) (m : List (Option Agent)) (v : List Node) (after : List ℕ) (stands : List Stand) (freed : List FreedBy) (answer : Option (List Node)) → MatchOption answer ((g : List Node) → ¬ IsBefore sig r v stands freed g) (λ g. IsMostGeneralBefore sig r v stands freed g) → StoodBefore sig r cells m v after stands freed → (g : List Node) × (answer ≡ Some g) × IsEmbedding g m (cells_before cells stands after)
answer-stood sig r cells m v after stands freed None none stood = absurd (none stood.pattern stood.before)
answer-stood sig r cells m v after stands freed (Some g) most stood = (g, refl, IsEmbedding-most_general sig r cells m v after stands freed g stood most)

module _ (sig : List TypeEntry) (tables : List Table) (m : List (Option Agent)) (ok : AreTables sig tables) (over : IsMixtureOver sig m) (cover : Cover sig tables m) where
  -- a rule that is dead doesn't fire
  pub never-dead : (r : RuleParts) (cells : List ℕ) → IsDead sig tables r → ¬ IsEmbedding r.left m cells
  never-dead r cells dead at = dead (IsAllowed-cover sig tables m r.left cells ok over cover at)

  -- the lemma of each family of the tables holds
  pub LemmaHolds-cover : (family : Family) → Has (families_of tables) family → LemmaHolds sig tables family m
  LemmaHolds-cover family has cells at =
      let row = root_extends sig family (IsFamily-of_tables sig tables ok family has) m over cells at in
      (row.0, cover family has row.0 row.1 (cells ++ row.2.0, row.2.1), row.2)

  -- what stands after a firing is yielded
  pub YieldsPattern-fire : (r : RuleParts) (cells : List ℕ) → IsRuleOver sig r → IsEmbedding r.left m cells → (v : List Node) → IsShaped sig v → (after : List ℕ) → IsEmbedding v (fire r cells m) after → YieldsPattern sig tables r v
  YieldsPattern-fire r cells rule at v shaped after later =
      let some = StoodBefore-some sig r cells m over rule at v shaped after later in
      record {
        stands = some.0;
        freed = some.1;
        pattern = some.2.pattern;
        free = some.2.free;
        before = some.2.before;
        allowed = IsAllowed-cover sig tables m some.2.pattern (cells_before cells some.0 after) ok over cover some.2.stood;
      }

  -- each valid row that occurs after a firing is yielded
  pub Yields-fire : (r : RuleParts) (cells : List ℕ) → IsRuleOver sig r → IsEmbedding r.left m cells → (family : Family) (row : Row) → IsRow sig family row → Occurs sig family row (fire r cells m) → Yields sig tables r family row
  Yields-fire r cells rule at family row valid occurs = YieldsPattern-fire r cells rule at (row_pattern sig family row) (IsShaped-row_pattern sig family row valid) occurs.0 occurs.1

-- ---- side by side

pub Cover-[] : (sig : List TypeEntry) (tables : List Table) → Cover sig tables []
Cover-[] sig tables family has row ok occurs = absurd (Occurs-[] sig family row ok occurs)

pub Cover-beside : (sig : List TypeEntry) (tables : List Table) (m k : List (Option Agent)) → AreTables sig tables → IsMixtureOver sig m → IsMixtureOver sig k → Cover sig tables m → Cover sig tables k → Cover sig tables (beside m k)
Cover-beside sig tables m k ok first second cover cover' family has row row_ok occurs =
    elim (IsEmbedding-beside (row_pattern sig family row) m k occurs.0 occurs.1 first.linked (IsJoined-row_pattern sig family row (IsFamily-of_tables sig tables ok family has) row_ok)) [
      | inl at ↦ cover family has row row_ok (occurs.0, at)
      | inr at ↦ cover' family has row row_ok at
    ]

-- closed tables cover each declared complex, whose rows are initial
pub Cover-declared : (model : Model) (tables : List Table) → IsClosed model tables → (n : ℕ) (k : List (Option Agent)) → declared_complex model n ≡ Some k → Cover model.sig tables k
Cover-declared model tables closed zero k is = absurd cc
Cover-declared model tables closed (suc i) k is = λ family has row row_ok occurs. closed family has row row_ok (inl (i, k, is, occurs))

-- closed tables that cover a mixture cover the next one
pub Cover-step : (model : Model) (tables : List Table) (m next : List (Option Agent)) (event : Event) → AreTables model.sig tables → IsModel model → IsClosed model tables → IsMixtureOver model.sig m → Cover model.sig tables m → Step model m event next → Cover model.sig tables next
Cover-step model tables m next (fires k cells) ok valid closed over cover (r, is, at, e) = λ family has row row_ok occurs.
    let occurs' : Occurs model.sig family row (fire r cells m) = rw e at occurs in
    closed family has row row_ok (inr (k, r, is, Yields-fire model.sig tables m ok over cover r cells (valid.rules k r is) at family row row_ok occurs'))
Cover-step model tables m next (adds n) ok valid closed over cover (added, k, is, e) =
    rw e (Cover-beside model.sig tables m k ok over (IsMixtureOver-declared model valid n k is) cover (Cover-declared model tables closed n k is))
