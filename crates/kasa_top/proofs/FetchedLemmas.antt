-- What a fetch gives, in terms of what is held.
use Rattle.std.proofs.Common.{◌≡◌, ◌≤◌, ◌<◌, ℕ, List, take, length, Option, Some, None, option_map, IfSome, sym, refl, arith, ap, ◌∙◌, inl, inr}
use Rattle.std.proofs.lemmas.List.{take_all, length-take}
use Rattle.kasa_edge.specs.Shelf.{Held, held_at}
use Rattle.kasa_top.specs.Fetched.{Fetched}

-- what the clause of a fetch says
pub fetched : (held : Held) (name bytes : List ℕ) → length bytes ≤ 4194305 →
    IfSome (held_at held name) (λ text. option_map (take 4194305) text ≡ Some bytes) → Fetched held name bytes
fetched None name bytes few h = record { text = bytes; is_held = inl refl; first = sym (take_all 4194305 bytes few) }
fetched (Some texts) name bytes few h = by (texts name) refl h
  where
    by : (found : Option (List ℕ)) → texts name ≡ found → option_map (take 4194305) found ≡ Some bytes → Fetched (Some texts) name bytes
    by None is h = absurd cc
    by (Some text) is h = record { text = text; is_held = inr (ap (λ o. Some o) is); first = sym (cc) }

-- a text of which not too much was fetched was fetched whole
pub whole : (held : Held) (name bytes : List ℕ) → length bytes ≤ 4194304 → (f : Fetched held name bytes) → f.text ≡ bytes
whole held name bytes few f = by (short f.text (ap length f.first))
  where
    short : (text : List ℕ) → length bytes ≡ length (take 4194305 text) → length text ≤ 4194305
    short text e = omega (arith, length-take 4194305 text)

    by : length f.text ≤ 4194305 → f.text ≡ bytes
    by h = sym (f.first ∙ take_all 4194305 f.text h)

-- a text of which too much was fetched is too long
pub long : (held : Held) (name bytes : List ℕ) → 4194304 < length bytes → (f : Fetched held name bytes) → 4194304 < length f.text
long held name bytes more f = by f.text (ap length f.first)
  where
    by : (text : List ℕ) → length bytes ≡ length (take 4194305 text) → 4194304 < length text
    by text e = omega (arith, length-take 4194305 text)
