use Rattle.std.proofs.Common.{◌≡◌, ℕ, ◌<◌, ◌≤◌, length, ap, arith, rules, Fits, w16}
use Rattle.std.specs.Prelude.{Some}
use Rattle.kasa_compile.specs.declared.said.LinkSaid.TheVariants.{Label}
use Rattle.kasa_compile.specs.Bonds.{joined_to}
use Rattle.kasa_compile.proofs.AskedLemmas.{joined_within}
use Rattle.kasa_compile.proofs.rule.asked.Goals as goal

fits_place : (p q : ℕ × ℕ) (count : ℕ) → p ≡ q → q.0 < count → count ≤ 12 → Fits w16 p.0
fits_place p q count e within few = let same = ap (λ (x : ℕ × ℕ). x.0) e in omega arith

pub overflow_cast-result : goal.overflow_cast-result
overflow_cast-result c =
    let stands = c.requires.stands in
    let known = c.requires.known in
    let label : c.args.said.now.link ≡ Some (Label c.in-Some-Label.number) = search rules in
    let within = joined_within known.0 c.args.agents.now c.args.n stands.0 c.in-Some-Label.number c.args.said.now known.1 c.requires.joined stands.1 label in
    let two = c.requires.joined c.args.n stands.0 c.in-Some-Label.number stands.1.agent c.args.said.now stands.1.is_agent stands.1.is_site label in
    fits_place c.joined_to-m.result (joined_to c.args.agents.now c.in-Some-Label.number (c.args.n, c.args.said.now.site)) (length c.args.agents.now) (c.joined_to-m.ensures c.args.agents.now c.requires.indexed two) within c.requires.few
