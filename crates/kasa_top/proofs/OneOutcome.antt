-- For given words and held texts one status and one text are due.
use Rattle.std.proofs.Common.{◌≡◌, ℕ, ◌<◌, ◌≤◌, ◌⊎◌, inl, inr, List, [], length, refl, sym, subst, ◌∙◌, arith}
use Rattle.std.specs.Prelude.{Option, Some, None, Ok, Err}
use Rattle.kasa_families.specs.declared.family.Family.{Family}
use Rattle.kasa_families.specs.Table.{Table, families_of, AreTables}
use Rattle.kasa_tables.specs.Insert.{row_count}
use Rattle.kasa_rules.specs.declared.model.Model.{Model}
use Rattle.kasa_rules.specs.Reached.{IsModel}
use Rattle.kasa_report.specs.Report.{IsReport}
use Rattle.kasa_report.proofs.OneReport.{one_report as one_tables_report}
use Rattle.kasa_pre.specs.Closed.{IsLeast}
use Rattle.kasa_compile.specs.declared.fault.ModelFault.{ModelFault}
use Rattle.kasa_compile.specs.Model.{IsModelOf, IsFaultOf}
use Rattle.kasa_compile.proofs.OneOutcome.{one_outcome}
use Rattle.kasa_top.specs.declared.status.Status.{Status}
use Rattle.kasa_top.specs.declared.status.Status.TheVariants.{Done, BadWords, BadModel, TooLong, TooManyRows, TooManyFamilies, ReadFault, WriteFault, NoMemory}
use Rattle.kasa_top.specs.Status.{status_text}
use Rattle.kasa_top.specs.Words.{IsAnalyse}
use Rattle.kasa_choose.specs.declared.kind.Kind.{Kind}
use Rattle.kasa_choose.specs.Gathered.{IsGathered, joined_plans}
use Rattle.kasa_choose.proofs.Firsts.{one_first}
use Rattle.kasa_top.proofs.WordLemmas.{one_analyse}
use Rattle.kasa_top.specs.Outcome.{Plans, IsReportOf, IsTooLong, HasFault, HasTooManyFamilies, HasTooManyRows, Fetches, FetchFails, IsOutcome}

-- ---- one model, one report

one_model : (text : List ℕ) (model other : Model) → IsModelOf text model → IsModelOf text other → model ≡ other
one_model text model other p q = let e : Ok model ≡ Ok other = one_outcome text (Ok model) (Ok other) p q in cc

one_fault : (text : List ℕ) (f g : ModelFault) → IsFaultOf text f → IsFaultOf text g → f ≡ g
one_fault text f g p q = let e : Err f ≡ Err g = one_outcome text (Err f) (Err g) p q in cc

no_fault : (text : List ℕ) (model : Model) (f : ModelFault) → IsModelOf text model → IsFaultOf text f → ⊥
no_fault text model f p q = let e : Ok model ≡ Err f = one_outcome text (Ok model) (Err f) p q in cc

-- a plan of which a model has one at most
module _ (IsPlan : Model → List Family → Type 0) (one_plan : (model : Model) (families others : List Family) → IsPlan model families → IsPlan model others → families ≡ others) where
  -- the planned families of the same text are the same
  same_plans : (text : List ℕ) (model other : Model) (families others : List Family) → Plans IsPlan text model families → Plans IsPlan text other others → (model ≡ other) × (families ≡ others)
  same_plans text model other families others p q =
      let e = one_model text model other p.read q.read in
      (e, one_plan other families others (subst (λ m. IsPlan m families) e p.planned) q.planned)

  -- the report of a model's text, over its model
  record IsReportOver (text report : List ℕ) (model : Model) : Type 0 where
    valid_model : IsModel model
    tables : List Table
    plans : Plans IsPlan text model (families_of tables)
    valid : AreTables model.sig tables
    least : IsLeast model tables
    printed : IsReport model tables report

  over : (text report : List ℕ) (r : IsReportOf IsPlan text report) → IsReportOver text report r.model
  over text report r = record { valid_model = r.valid_model; tables = r.tables; plans = r.plans; valid = r.valid; least = r.least; printed = r.printed }

  same_report : (text a b : List ℕ) (model : Model) → IsReportOver text a model → IsReportOver text b model → a ≡ b
  same_report text a b model p q =
      let e = (same_plans text model model (families_of p.tables) (families_of q.tables) p.plans q.plans).1 in
      one_tables_report model p.tables q.tables a b p.valid_model p.valid
      (record { families = sym e; there = p.least.least q.tables q.valid (sym e) q.least.closed; back = q.least.least p.tables p.valid e p.least.closed })
      p.printed q.printed

  one_report : (text a b : List ℕ) → IsReportOf IsPlan text a → IsReportOf IsPlan text b → a ≡ b
  one_report text a b p q = same_report text a b q.model (subst (IsReportOver text a) (one_model text p.model q.model p.plans.read q.plans.read) (over text a p)) (over text b q)

  -- a report's tables are within the limit that the planned families would pass
  no_report : (text a : List ℕ) → HasTooManyRows IsPlan text → IsReportOf IsPlan text a → ⊥
  no_report text a (model, families, plans, passes) r =
      let e = same_plans text r.model model (families_of r.tables) families r.plans plans in
      let few = r.few_rows in
      let more : 200000 < row_count r.tables =
      passes r.tables (subst (λ (m : Model). AreTables m.sig r.tables) e.0 r.valid) e.1 (subst (λ m. IsLeast m r.tables) e.0 r.least).closed in
      omega arith

  -- few families are planned where not too many are
  no_plans : (text : List ℕ) (model : Model) (families : List Family) → HasTooManyFamilies IsPlan text → Plans IsPlan text model families → ⊥
  no_plans text model families (short, (other, read, longer)) plans =
      let few = plans.few in
      let many : 8000 < length families = longer families (subst (λ m. IsPlan m families) (one_model text model other plans.read read) plans.planned) in
      omega arith

-- ---- one status, question by question

module _ (IsPlan : List Kind → Model → List Family → Type 0) (one_plan : (without : List Kind) (model : Model) (families others : List Family) → IsPlan without model families → IsPlan without model others → families ≡ others)
    (words : List (List ℕ)) (texts : List ℕ → Option (List ℕ)) where
  -- the status has a text of its own
  abbrev Refuses : Status → Status → List ℕ → Type 0
  Refuses cause s a = (s ≡ cause) × (a ≡ status_text cause)

  abbrev Solved : List Kind → List ℕ → Status → List ℕ → Type 0
  Solved without text s a = (Refuses TooManyRows s a × HasTooManyRows (IsPlan without) text) ⊎ ((s ≡ Done) × IsReportOf (IsPlan without) text a)

  abbrev Planned : List Kind → List ℕ → Status → List ℕ → Type 0
  Planned without text s a = (Refuses TooManyFamilies s a × HasTooManyFamilies (IsPlan without) text) ⊎ Solved without text s a

  abbrev Compiled : List Kind → List ℕ → Status → List ℕ → Type 0
  Compiled without text s a = ((f : ModelFault) × Refuses (BadModel f) s a × HasFault f text) ⊎ Planned without text s a

  abbrev Measured : List Kind → List ℕ → Status → List ℕ → Type 0
  Measured without text s a = (Refuses TooLong s a × IsTooLong text) ⊎ Compiled without text s a

  abbrev Fetched : List Kind → List ℕ → Status → List ℕ → Type 0
  Fetched without name s a = (Refuses ReadFault s a × (texts name ≡ None)) ⊎ ((text : List ℕ) × (texts name ≡ Some text) × Measured without text s a)

  abbrev Asked : Status → List ℕ → Type 0
  Asked s a =
      (Refuses BadWords s a × ((without : List Kind) (name : List ℕ) → ¬ IsAnalyse words without name))
      ⊎ ((without : List Kind) × (name : List ℕ) × IsAnalyse words without name × Fetched without name s a)

  fetched : (P : List Kind → List ℕ → Type 0) (s : Status) (a : List ℕ) → Fetches words (Some texts) P → ((without : List Kind) (text : List ℕ) → P without text → Measured without text s a) → Asked s a
  fetched P s a f next = inr (f.without, f.name, f.command, inr (f.text, held f.is_held, next f.without f.text f.is_such))
    where
      held : (Some (texts f.name) ≡ None) ⊎ (Some (texts f.name) ≡ Some (Some f.text)) → texts f.name ≡ Some f.text
      held (inl missing) = absurd cc
      held (inr is) = cc

  unread : FetchFails words (Some texts) ⊥ → (without : List Kind) × (name : List ℕ) × IsAnalyse words without name × (texts name ≡ None)
  unread f = (f.without, f.name, f.command, elim f.cause [ inl counted ↦ absurd counted | inr is ↦ cc ])

  asked : (s : Status) (a : List ℕ) → IsOutcome IsPlan words (Some texts) ⊥ s a → Asked s a
  asked Done a due = fetched _ Done a due (λ without text is. inr (inr (inr (inr (refl, is)))))
  asked BadWords a due = inl ((refl, due.1), due.0)
  asked ReadFault a due = let f = unread due.0 in inr (f.0, f.1, f.2, inl ((refl, due.1), f.3))
  asked TooLong a due = fetched _ TooLong a due.0 (λ without text is. inl ((refl, due.1), is))
  asked (BadModel f) a due = fetched _ (BadModel f) a due.0 (λ without text is. inr (inl (f, (refl, due.1), is)))
  asked TooManyFamilies a due = fetched _ TooManyFamilies a due.0 (λ without text is. inr (inr (inl ((refl, due.1), is))))
  asked TooManyRows a due = fetched _ TooManyRows a due.0 (λ without text is. inr (inr (inr (inl ((refl, due.1), is)))))
  asked WriteFault a due = absurd due
  asked NoMemory a due = absurd due

  module _ (s t : Status) (a b : List ℕ) where
    abbrev One : Type 0
    One = (s ≡ t) × (a ≡ b)

    both : (cause : Status) → Refuses cause s a → Refuses cause t b → One
    both cause p q = (p.0 ∙ sym q.0, p.1 ∙ sym q.1)

    solved : (without : List Kind) (text : List ℕ) → Solved without text s a → Solved without text t b → One
    solved without text (inl p) (inl q) = both TooManyRows p.0 q.0
    solved without text (inl p) (inr q) = absurd (no_report (IsPlan without) (one_plan without) text b p.1 q.1)
    solved without text (inr p) (inl q) = absurd (no_report (IsPlan without) (one_plan without) text a q.1 p.1)
    solved without text (inr p) (inr q) = (p.0 ∙ sym q.0, one_report (IsPlan without) (one_plan without) text a b p.1 q.1)

  plans_of : (without : List Kind) (text : List ℕ) (s : Status) (a : List ℕ) → Solved without text s a → (model : Model) × (families : List Family) × Plans (IsPlan without) text model families
  plans_of without text s a (inl (_, (model, families, plans, _))) = (model, families, plans)
  plans_of without text s a (inr (_, r)) = (r.model, families_of r.tables, r.plans)

  model_of : (without : List Kind) (text : List ℕ) (s : Status) (a : List ℕ) → Planned without text s a → (model : Model) × (length text ≤ 4194304) × IsModelOf text model
  model_of without text s a (inl (_, (short, (model, read, _)))) = (model, short, read)
  model_of without text s a (inr next) = let p = plans_of without text s a next in (p.0, p.2.short, p.2.read)

  short_text : (without : List Kind) (text : List ℕ) (s : Status) (a : List ℕ) → Compiled without text s a → length text ≤ 4194304
  short_text without text s a (inl p) = p.2.0
  short_text without text s a (inr next) = (model_of without text s a next).1

  module _ (s t : Status) (a b : List ℕ) where
    planned : (without : List Kind) (text : List ℕ) → Planned without text s a → Planned without text t b → One s t a b
    planned without text (inl p) (inl q) = both s t a b TooManyFamilies p.0 q.0
    planned without text (inl p) (inr q) = let plans = plans_of without text t b q in absurd (no_plans (IsPlan without) (one_plan without) text plans.0 plans.1 p.1 plans.2)
    planned without text (inr p) (inl q) = let plans = plans_of without text s a p in absurd (no_plans (IsPlan without) (one_plan without) text plans.0 plans.1 q.1 plans.2)
    planned without text (inr p) (inr q) = solved s t a b without text p q

    compiled : (without : List Kind) (text : List ℕ) → Compiled without text s a → Compiled without text t b → One s t a b
    compiled without text (inl (f, p, has)) (inl (g, q, other)) = both s t a b (BadModel f) p (subst (λ h. Refuses (BadModel h) t b) (one_fault text g f other.1 has.1) q)
    compiled without text (inl (f, p, has)) (inr q) = let m = model_of without text t b q in absurd (no_fault text m.0 f m.2 has.1)
    compiled without text (inr p) (inl (g, q, has)) = let m = model_of without text s a p in absurd (no_fault text m.0 g m.2 has.1)
    compiled without text (inr p) (inr q) = planned without text p q

    measured : (without : List Kind) (text : List ℕ) → Measured without text s a → Measured without text t b → One s t a b
    measured without text (inl p) (inl q) = both s t a b TooLong p.0 q.0
    measured without text (inl p) (inr q) = let long = p.1 in let few = short_text without text t b q in absurd (omega arith)
    measured without text (inr p) (inl q) = let long = q.1 in let few = short_text without text s a p in absurd (omega arith)
    measured without text (inr p) (inr q) = compiled without text p q

    read : (without : List Kind) (name : List ℕ) → Fetched without name s a → Fetched without name t b → One s t a b
    read without name (inl p) (inl q) = both s t a b ReadFault p.0 q.0
    read without name (inl p) (inr q) = let none = p.1 in let some = q.1 in absurd cc
    read without name (inr p) (inl q) = let none = q.1 in let some = p.1 in absurd cc
    read without name (inr (text, is, p)) (inr (other, so, q)) = let e : other ≡ text = cc in measured without text p (subst (λ x. Measured without x t b) e q)

    one_asked : Asked s a → Asked t b → One s t a b
    one_asked (inl p) (inl q) = both s t a b BadWords p.0 q.0
    one_asked (inl p) (inr q) = absurd (p.1 q.0 q.1 q.2)
    one_asked (inr p) (inl q) = absurd (q.1 p.0 p.1 p.2)
    one_asked (inr (without, name, is, p)) (inr (others, other, so, q)) =
        let e = one_analyse words others without other name so is in
        read without name p (subst (λ x. Fetched without x t b) e.1 (subst (λ ks. Fetched ks other t b) e.0 q))

-- for given words and held texts, where no fault is counted, and for given kinds and plans, one status and one text are due
pub one_due : (boxes : List (Kind × (Model → List Family))) (words : List (List ℕ)) (texts : List ℕ → Option (List ℕ)) (s t : Status) (a b : List ℕ) → IsOutcome (IsGathered (λ c. c.0) (λ c. c.1) boxes) words (Some texts) ⊥ s a → IsOutcome (IsGathered (λ c. c.0) (λ c. c.1) boxes) words (Some texts) ⊥ t b → (s ≡ t) × (a ≡ b)
one_due boxes words texts s t a b p q =
    let IsPlan : List Kind → Model → List Family → Type 0 = IsGathered (λ c. c.0) (λ c. c.1) boxes in
    let one : (without : List Kind) (model : Model) (families others : List Family) → IsPlan without model families → IsPlan without model others → families ≡ others =
    λ without model families others. one_first model [] (joined_plans (λ c. c.0) (λ c. c.1) without model boxes) families others in
    one_asked IsPlan one words texts s t a b (asked IsPlan one words texts s a p) (asked IsPlan one words texts t b q)
