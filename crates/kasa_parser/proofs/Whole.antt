-- All words of a rule: what it gives of them, or where it is stuck.
use Rattle.std.proofs.Common.{◌≡◌, List, [], ◌∷◌, ◌++◌, Bool, refl, sym, ◌∙◌, append_assoc, append-nil}
use Rattle.kasa_parser.specs.Words.{Word, Kinds}
use Rattle.kasa_parser.specs.Rules.{Outcome, got, stuck, behind, Rule}
use Rattle.kasa_parser.specs.Decls.{all_read}
use Rattle.kasa_parser.proofs.RuleLaws.{IsReader, Reads, CanBegin, IsRefused, refused-alike}

abbrev pub read_whole : {A : Type 0} → Rule A → List Word → Outcome A
read_whole r ws = behind (r.read ws) (λ x left. all_read x left)

pub record IsStuckWhole {A : Type 0} (r : Rule A) (ws : List Word) (left : List Word) : Type 0 where
  pub used : List Word
  pub cut : ws ≡ used ++ left
  pub can : CanBegin r used
  pub same : (other : List Word) → IsRefused left other → read_whole r (used ++ other) ≡ stuck other

abbrev pub WholeReads : {A : Type 0} → Rule A → List Word → Outcome A → Type 0
WholeReads r ws (got x left) = (left ≡ []) × r.Is ws x
WholeReads r ws (stuck left) = IsStuckWhole r ws left

pub got_stuck : {A B : Type 0} {x : A} {u v : List Word} → got x u ≡ stuck v → B
got_stuck e = absurd (let different : ⊥ = cc in different)

module _ {A : Type 0} (r : Rule A) (e : Bool) (b g : Kinds) (one : IsReader r e b g) where
  pub whole-is : (ws : List Word) (x : A) → r.Is ws x → read_whole r ws ≡ got x []
  whole-is ws x i =
      let whole = one.whole ws [] x i refl in
      let read = rw (append-nil ws) at whole in
      rw read refl

  reads : (ws : List Word) (o : Outcome A) → Reads r ws o → WholeReads r ws (behind o (λ x left. all_read x left))
  reads ws (stuck left) i = record { used = i.used; cut = i.cut; can = i.can; same = λ other a. rw (i.same other a) refl }
  reads ws (got x []) i = (refl, rw (i.cut, append-nil i.used) i.is)
  reads ws (got x (w ∷ left)) i = record {
    used = i.used;
    cut = i.cut;
    can = ([], x, rw (append-nil i.used) i.is);
    same = λ other a. same other a;
  }
    where
      same : (other : List Word) → IsRefused (w ∷ left) other → read_whole r (i.used ++ other) ≡ stuck other
      same [] a = absurd a
      same (v ∷ other) a = rw (i.same (v ∷ other) (refused-alike (w ∷ left) (v ∷ other) a)) refl

  pub whole-reads : (ws : List Word) → WholeReads r ws (read_whole r ws)
  whole-reads ws = reads ws (r.read ws) (one.reads ws)

  -- where all words were read, they are no tree by themselves
  pub ends : (ws : List Word) (i : IsStuckWhole r ws []) (x : A) → ¬ r.Is i.used x
  ends ws i x is =
      let ended = i.same [] tt in
      let stuck_here = rw (append-nil i.used) at ended in
      got_stuck (sym (whole-is i.used x is) ∙ stuck_here)

  -- the next word can't stand there
  pub refused : (ws left : List Word) (v : Word) (i : IsStuckWhole r ws (v ∷ left)) (more : List Word) (x : A) → ¬ r.Is ((i.used ++ v ∷ []) ++ more) x
  refused ws left v i more x is =
      let there = i.same (v ∷ more) refl in
      let joined = rw (append_assoc i.used (v ∷ []) more) at is in
      got_stuck (sym (whole-is (i.used ++ (v ∷ more)) x joined) ∙ there)
