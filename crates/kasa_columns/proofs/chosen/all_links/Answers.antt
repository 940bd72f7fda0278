use Rattle.std.proofs.Common.{ℕ, arith}
use Rattle.kasa_graph.proofs.SignatureLemmas.{type_of_site}
use Rattle.kasa_families.specs.declared.row.LocalLink.{LocalLink}
use Rattle.kasa_columns.specs.Chosen.{IsPartnerOf}
use Rattle.kasa_columns.proofs.ChosenLemmas.{links_all}
use Rattle.kasa_columns.proofs.Pushing.{upto_next, upto_all}
use Rattle.kasa_columns.proofs.chosen.all_links.Goals as goal

pub loop-b-preserved : goal.loop-b-preserved
loop-b-preserved c =
    upto_next (λ (b : ℕ) (x : LocalLink). (y : ℕ) × IsPartnerOf c.args.sig.now b y x) _ c.loop-b.b c.loop-b.links.items c.loop-b.invariant _ c.in_ok-push_partners.ensures

pub returns : goal.returns
returns c =
    links_all c.args.sig.now c.loop-b.links.items
    (rw (c.in_ok-push.ensures.items, c.new-links.ensures.items) at (upto_all (λ (b : ℕ) (x : LocalLink). (y : ℕ) × IsPartnerOf c.args.sig.now b y x) c.push.new.self.items c.loop-b.b c.loop-b.links.items (λ b link q. let has = type_of_site c.args.sig.now b q.0 q.1.1 in let count = c.types-b-end.ensures.count in let past = c.loop-b-test.false in omega arith) c.loop-b.invariant))
