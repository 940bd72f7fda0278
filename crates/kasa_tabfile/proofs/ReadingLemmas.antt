-- A byte more of a text.
use Rattle.std.proofs.Common.{◌≡◌, ◌∙◌, ◌+◌, ℕ, List, [], ◌∷◌, ◌++◌, Bool, true, false, if◌then◌else◌, refl, Some, Option, Result, Err, ◌==◌, ◌&&◌, append_assoc}
use Rattle.kasa_graph.specs.Signature.{TypeEntry}
use Rattle.kasa_tabfile.specs.declared.line.Line.{Line}
use Rattle.kasa_tabfile.specs.declared.fault.TabFault.{TabFault}
use Rattle.kasa_tabfile.specs.declared.stage.Stage.TheVariants.{Failed}
use Rattle.kasa_tabfile.specs.declared.reading.Reading.{Reading}
use Rattle.kasa_families.specs.Table.{Table}
use Rattle.kasa_tabfile.specs.Text.{parts_from, lines, words}
use Rattle.kasa_tabfile.specs.Line.{line_of}
use Rattle.kasa_tabfile.specs.inner.OpenLine.{ended_by}
use Rattle.kasa_tabfile.specs.Outcome.{FaultIs, next_stage, next_tables, IsOutcome, at_end}
use Rattle.kasa_tabfile.specs.Reading.{FromHere, GoesOn}

-- ---- parts

abbrev pub onto_first : List ℕ → List (List ℕ) → List (List ℕ)
onto_first p [] = []
onto_first p (l ∷ ls) = (p ++ l) ∷ ls

pub parts-front : (at : ℕ) (p q bs : List ℕ) → parts_from at (p ++ q) bs ≡ onto_first p (parts_from at q bs)
parts-front at p q [] = refl
parts-front at p q (b ∷ bs) = by (b == at) (rw (← append_assoc p q (b ∷ [])) at (parts-front at p (q ++ b ∷ []) bs))
  where
    by : (s : Bool) → parts_from at ((p ++ q) ++ b ∷ []) bs ≡ onto_first p (parts_from at (q ++ b ∷ []) bs) →
        (if s then (p ++ q) ∷ parts_from at [] bs else parts_from at ((p ++ q) ++ b ∷ []) bs) ≡ onto_first p (if s then q ∷ parts_from at [] bs else parts_from at (q ++ b ∷ []) bs)
    by true ih = refl
    by false ih = ih

pub parts-some : (at : ℕ) (q bs : List ℕ) → (l : List ℕ) × (ls : List (List ℕ)) × (parts_from at q bs ≡ l ∷ ls)
parts-some at q [] = (q, [], refl)
parts-some at q (b ∷ bs) = by (b == at) (parts-some at (q ++ b ∷ []) bs)
  where
    by : (s : Bool) → ((l : List ℕ) × (ls : List (List ℕ)) × (parts_from at (q ++ b ∷ []) bs ≡ l ∷ ls)) →
        (l : List ℕ) × (ls : List (List ℕ)) × ((if s then q ∷ parts_from at [] bs else parts_from at (q ++ b ∷ []) bs) ≡ l ∷ ls)
    by true ih = (q, parts_from at [] bs, refl)
    by false ih = ih

-- ---- a byte within a line

pub push_on : (sig : List TypeEntry) (old new : Reading) (b : ℕ) (bs : List ℕ) → (b == 10) ≡ false → new.stage ≡ old.stage → new.tables ≡ old.tables → new.number ≡ old.number → new.line.is_blank ≡ false →
    ((cs : List ℕ) → ended_by new.line.head new.line.word.items cs ≡ ended_by old.line.head old.line.word.items (b ∷ cs)) →
    (o : Result (List Table) TabFault) → GoesOn sig new bs o → GoesOn sig old (b ∷ bs) o
push_on sig old new b bs other s t n blank on o h = rw (other, parts-front 10 (b ∷ []) [] bs) (by (lines bs) h)
  where
    open_end : (x : Bool) → at_end old.number old.stage old.tables false ≡ at_end old.number old.stage old.tables (x && false)
    open_end true = refl
    open_end false = refl

    by : (ls : List (List ℕ)) → FromHere sig new ls o → FromHere sig old (onto_first (b ∷ []) ls) o
    by [] g = g
    by (l ∷ []) g = (rw (s, t, n, blank) at g) ∙ open_end old.line.is_blank
    by (l ∷ m ∷ ls) g = rw (s, t, n, on l) at g

-- ---- LF

pub end_on : (sig : List TypeEntry) (old new : Reading) (l : Option Line) (bs : List ℕ) (e : Option TabFault) → l ≡ ended_by old.line.head old.line.word.items [] →
    ((cs : List ℕ) → ended_by new.line.head new.line.word.items cs ≡ line_of (words cs)) → new.line.is_blank ≡ true → new.number ≡ old.number + 1 →
    FaultIs sig old.number old.stage old.tables l e → new.stage ≡ next_stage e old.stage l → new.tables ≡ next_tables e old.tables l →
    (o : Result (List Table) TabFault) → GoesOn sig new bs o → GoesOn sig old (10 ∷ bs) o
end_on sig old new l bs e is fresh blank n fault s t o h =
    let some = parts-some 10 [] bs in rw some.2 (start some.0 some.1 (rw some.2 at h))
  where
    start : (m : List ℕ) (ms : List (List ℕ)) → FromHere sig new (m ∷ ms) o → FromHere sig old ([] ∷ m ∷ ms) o
    start m [] g = rw (← is) (e, fault, rw (blank, n, s, t) at g)
    start m (k ∷ ks) g = rw (← is) (e, fault, rw (n, s, t, fresh m) at g)

-- ---- after a fault

failed-is : (sig : List TypeEntry) (n : ℕ) (f : TabFault) (ts : List Table) (l : List ℕ) (ls : List (List ℕ)) (o : Result (List Table) TabFault) → o ≡ Err f → IsOutcome sig n (Failed f) ts (l ∷ ls) o
failed-is sig n f ts l [] o e = e
failed-is sig n f ts l (m ∷ ls) o e = (Some f, refl, failed-is sig (n + 1) f ts m ls o e)

failed-only : (sig : List TypeEntry) (n : ℕ) (f : TabFault) (ts : List Table) (l : List ℕ) (ls : List (List ℕ)) (o : Result (List Table) TabFault) → IsOutcome sig n (Failed f) ts (l ∷ ls) o → o ≡ Err f
failed-only sig n f ts l [] o h = h
failed-only sig n f ts l (m ∷ ls) o h = failed-only sig (n + 1) f ts m ls o (rw h.1 at h.2)

pub stays_failed : (sig : List TypeEntry) (r : Reading) (f : TabFault) (bs cs : List ℕ) (o : Result (List Table) TabFault) → r.stage ≡ Failed f → GoesOn sig r bs o → GoesOn sig r cs o
stays_failed sig r f bs cs o failed h =
    let was = parts-some 10 [] bs in
    let will = parts-some 10 [] cs in
    rw will.2 (again will.0 will.1 (only was.0 was.1 (rw was.2 at h)))
  where
    only : (l : List ℕ) (ls : List (List ℕ)) → FromHere sig r (l ∷ ls) o → o ≡ Err f
    only l [] g = rw failed at g
    only l (m ∷ ls) g = let k = rw failed at g in failed-only sig (r.number + 1) f r.tables m ls o (rw k.1 at k.2)

    again : (l : List ℕ) (ls : List (List ℕ)) → o ≡ Err f → FromHere sig r (l ∷ ls) o
    again l [] e = rw failed e
    again l (m ∷ ls) e = rw failed (Some f, refl, failed-is sig (r.number + 1) f r.tables m ls o e)
