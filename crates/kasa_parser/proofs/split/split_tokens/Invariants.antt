use Rattle.std.proofs.Common.{◌≡◌, ◌≤◌, ℕ, List, drop}
use Rattle.kasa_parser.specs.Words.{words_of}
use Rattle.kasa_parser.specs.Declarations.{declarations_of}
use Rattle.kasa_parser.specs.Steps.{AreWithin}
use Rattle.kasa_parser.specs.Split.{split_from, AreTaken}
use Rattle.kasa_parser.proofs.split.split_tokens.Given as goal

abbrev pub invariant-loop-token : goal.invariant-loop-token
invariant-loop-token l = record {
  split : (text : List ℕ) → declarations_of l.size (words_of text l.tokens) ≡ split_from text l.size l.split (words_of text (drop l.token-index l.tokens));
  depth : l.split.depth ≤ l.token-index;
  within : (n : ℕ) → AreWithin n l.tokens → AreTaken n l.split;
}
