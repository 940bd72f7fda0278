-- The line of a site, where something was found there.
use Rattle.std.proofs.Common.{◌≡◌, ℕ, List, [], ◌∷◌, length, false}
use Rattle.std.specs.Prelude.{◌==◌}
use Rattle.std.proofs.lemmas.List.{append-nil}
use Rattle.kasa_graph.specs.Signature.{TypeEntry}
use Rattle.kasa_polymers.specs.declared.map.Bond.{Bond}
use Rattle.kasa_polymers.specs.declared.map.StateSeen.{StateSeen}
use Rattle.kasa_report.specs.Section.{line, all_lines}
use Rattle.kasa_report.specs.ContactText.{site_text, site_lines}

pub some_states : (sig : List TypeEntry) (a x : ℕ) (states : List StateSeen) (bonds : List Bond) → false ≡ (length states == 0) → all_lines (site_lines sig a x states bonds) ≡ line (site_text sig a x states bonds)
some_states sig a x [] bonds e = absurd cc
some_states sig a x (q ∷ states) bonds e = append-nil (line (site_text sig a x (q ∷ states) bonds))

pub some_bonds : (sig : List TypeEntry) (a x : ℕ) (states : List StateSeen) (bonds : List Bond) → false ≡ (length bonds == 0) → all_lines (site_lines sig a x states bonds) ≡ line (site_text sig a x states bonds)
some_bonds sig a x states [] e = absurd cc
some_bonds sig a x [] (p ∷ bonds) e = append-nil (line (site_text sig a x [] (p ∷ bonds)))
some_bonds sig a x (q ∷ states) (p ∷ bonds) e = append-nil (line (site_text sig a x (q ∷ states) (p ∷ bonds)))
