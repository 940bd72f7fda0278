-- A text that is taken piece by piece.
use Rattle.std.proofs.Common.{◌≡◌, ◌+◌, ℕ, List, ◌++◌, take, drop, Option, Some, None, option_map, sym, ap, append_assoc}
use Rattle.std.proofs.Math.Seq.{take-add}

parts : (text : List ℕ) (at n : ℕ) → take at text ++ take n (drop at text) ≡ take (at + n) text
parts text at n = sym (take-add at n text)

-- one more piece
pub written_more : (first before after : Option (List ℕ)) (text : List ℕ) (at n : ℕ) →
    before ≡ option_map (λ t. t ++ take at text) first →
    after ≡ option_map (λ t. t ++ take n (drop at text)) before →
    after ≡ option_map (λ t. t ++ take (at + n) text) first
written_more None before after text at n b a = rw (a, b)
written_more (Some t) before after text at n b a = rw (a, b) (ap (λ x. Some x) (rw (append_assoc, parts text at n)))
