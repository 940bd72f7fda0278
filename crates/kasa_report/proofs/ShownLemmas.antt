-- The tables that are shown, one after another.
use Rattle.std.proofs.Common.{◌≡◌, ◌+◌, ◌≤◌, ℕ, length, inl, inr, List, [], ◌∷◌, ◌++◌, take, sym, ◌∙◌, append_assoc}
use Rattle.std.specs.Prelude.{Some, slice_get}
use Rattle.std.proofs.lemmas.List.{append-nil, take_all}
use Rattle.std.proofs.lemmas.Grind.{flat_map-append}
use Rattle.kasa_lists.proofs.Elements.{take-one_more}
use Rattle.kasa_graph.specs.Signature.{TypeEntry}
use Rattle.kasa_families.specs.Table.{Table}
use Rattle.kasa_report.specs.Section.{all_lines}
use Rattle.kasa_report.specs.Product.{IsProduct}
use Rattle.kasa_report.specs.LemmasText.{IsOrdered, AreShown, table_lines, lemma_lines}
use Rattle.kasa_report.specs.inner.Shown.{IsShown}
use Rattle.kasa_report.proofs.TextLemmas.{all_lines-append}

left_out : (tables shown : List Table) (t : Table) → AreShown tables shown → IsProduct t → AreShown (tables ++ t ∷ []) shown
left_out [] [] t are product = (product, tt)
left_out [] (o ∷ shown) t are product = absurd are
left_out (u ∷ tables) [] t are product = (are.0, left_out tables [] t are.1 product)
left_out (u ∷ tables) (o ∷ shown) t (inl (is, are)) product = inl (is, left_out tables (o ∷ shown) t are product)
left_out (u ∷ tables) (o ∷ shown) t (inr (isnt, ordered, are)) product = inr (isnt, ordered, left_out tables shown t are product)

shown_last : (tables shown : List Table) (t o : Table) → AreShown tables shown → ¬ IsProduct t → IsOrdered t o → AreShown (tables ++ t ∷ []) (shown ++ o ∷ [])
shown_last [] [] t o are isnt ordered = inr (isnt, ordered, tt)
shown_last [] (p ∷ shown) t o are isnt ordered = absurd are
shown_last (u ∷ tables) [] t o are isnt ordered = inl (are.0, shown_last tables [] t o are.1 isnt ordered)
shown_last (u ∷ tables) (p ∷ shown) t o (inl (is, are)) isnt ordered = inl (is, shown_last tables (p ∷ shown) t o are isnt ordered)
shown_last (u ∷ tables) (p ∷ shown) t o (inr (isnt_so, first, are)) isnt ordered = inr (isnt_so, first, shown_last tables shown t o are isnt ordered)

-- the lines of the tables so far
pub record AreWritten (sig : List TypeEntry) (tables : List Table) (first now : List ℕ) : Type 0 where
  pub shown : List Table
  pub are_shown : AreShown tables shown
  pub text : now ≡ first ++ all_lines (lemma_lines sig shown)

pub written_none : (sig : List TypeEntry) (first : List ℕ) → AreWritten sig [] first first
written_none sig first = record { shown = []; are_shown = tt; text = sym (append-nil first) }

pub written_more : (sig : List TypeEntry) (tables : List Table) (f : ℕ) (first before after : List ℕ) → AreWritten sig (take f tables) first before →
    ((t : Table) × (slice_get tables f ≡ Some t) × IsShown sig t before after) → AreWritten sig (take (f + 1) tables) first after
written_more sig tables f first before after so_far (t, at, inl (product, same)) = record {
  shown = so_far.shown;
  are_shown = rw (take-one_more tables f t at) (left_out (take f tables) so_far.shown t so_far.are_shown product);
  text = same ∙ so_far.text;
}
written_more sig tables f first before after so_far (t, at, inr (isnt, (o, ordered, more))) = record {
  shown = so_far.shown ++ o ∷ [];
  are_shown = rw (take-one_more tables f t at) (shown_last (take f tables) so_far.shown t o so_far.are_shown isnt ordered);
  text = more
      ∙ rw (so_far.text, flat_map-append (table_lines sig) so_far.shown (o ∷ []), append-nil (table_lines sig o), all_lines-append (lemma_lines sig so_far.shown) (table_lines sig o))
      (append_assoc first (all_lines (lemma_lines sig so_far.shown)) (all_lines (table_lines sig o)));
}

pub written_all : (sig : List TypeEntry) (tables : List Table) (k : ℕ) (first now : List ℕ) → length tables ≤ k → AreWritten sig (take k tables) first now → (shown : List Table) × AreShown tables shown × (now ≡ first ++ all_lines (lemma_lines sig shown))
written_all sig tables k first now end w = (w.shown, rw (take_all k tables end) at w.are_shown, w.text)
