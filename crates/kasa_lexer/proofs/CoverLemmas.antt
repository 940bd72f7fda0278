-- The tokens of a text lie in it one behind the other, with blanks between them.
use Rattle.std.proofs.Common.{◌≡◌, ◌+◌, ◌-◌, ℕ, List, [], ◌∷◌, Ok, Err, drop, subst, arith}
use Rattle.std.specs.Bool.{⊤}
use Rattle.kasa_syntax.specs.declared.tokens.Token.{Token}
use Rattle.kasa_lexer.specs.Tokens.{Lexes, StandsBlank, IsLongestToken}
use Rattle.kasa_lexer.specs.Tokens.Lexes.{ended, blank, token, fault_later, fault_here}
use Rattle.kasa_lexer.specs.Cover.{Covers}
use Rattle.kasa_lexer.specs.Cover.BlankRun.{none, some}
use Rattle.kasa_lexer.proofs.OutcomeLemmas.{Outcome, progress}

abbrev CoversWith : List ℕ → ℕ → Outcome → Type 0
CoversWith text at (Ok ts) = Covers text at ts
CoversWith text at (Err fault) = ⊤

blank-before : (text : List ℕ) (at n : ℕ) (ts : List Token) → StandsBlank at (drop at text) n → Covers text (at + n) ts → Covers text at ts
blank-before text at n [] stands (to, run, over) = (to, some n stands run, over)
blank-before text at n (t ∷ ts) stands (run, wide, longest, more) = (some n stands run, wide, longest, more)

covers-with : (text : List ℕ) {at : ℕ} {o : Outcome} → Lexes text at o → CoversWith text at o
covers-with text {at = at} (ended e) = (at, none, e)
covers-with text {at = at} {o = Ok ts} (blank n stands rest) = blank-before text at n ts stands (covers-with text rest)
covers-with text {at = at} {o = Err fault} (blank n stands rest) = tt
covers-with text {at = at} (token kind n stands rest) =
    let more = progress at (drop at text) kind n stands in
    let size : n ≡ (at + n) - at = omega arith in
    (none, omega (arith, more), subst (IsLongestToken (drop at text) kind) size stands.1, covers-with text rest)
covers-with text (fault_later kind n stands rest) = tt
covers-with text (fault_here fault stands) = tt

pub covers : (text : List ℕ) (ts : List Token) → Lexes text 0 (Ok ts) → Covers text 0 ts
covers text ts lexes = covers-with text lexes
