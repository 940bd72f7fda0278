use Rattle.std.proofs.Common.{◌≡◌, ◌++◌, ◌∙◌, sym, ap, append_assoc}
use Rattle.kasa_report.specs.Section.{line, all_lines}
use Rattle.kasa_report.specs.ContactText.{site_text, site_lines}
use Rattle.kasa_report.proofs.SiteLemmas.{some_states, some_bonds}
use Rattle.kasa_report.proofs.map.write_found.Goals as goal
use Rattle.kasa_report.proofs.map.write_found.Goals.{else-is_empty-via-then-is_empty+else-is_empty-2, else-is_empty-via-else-is_empty}

pub returns : goal.returns
unfolding line site_text
returns c =
    let sig = c.args.sig.now in
    let a = c.args.agent in
    let x = c.args.site in
    let states = c.args.states.now in
    let bonds = c.args.bonds.now in
    let there : all_lines (site_lines sig a x states bonds) ≡ line (site_text sig a x states bonds) = elim c.else-is_empty.branch [
      | else-is_empty-via-then-is_empty+else-is_empty-2 w ↦ some_bonds sig a x states bonds (sym w.if-is_empty-2.false ∙ w.is_empty-then-is_empty.ensures)
      | else-is_empty-via-else-is_empty w ↦ some_states sig a x states bonds (sym w.if-is_empty.false ∙ c.is_empty.ensures)
    ] in
    let text : c.push-3.new.self.items ≡ c.args.out.now.items ++ line (site_text sig a x states bonds) =
    rw (c.in_ok-push-3.ensures.items, c.in_ok-write_partners.ensures, c.in_ok-write_states.ensures, c.in_ok-write_site.ensures, c.in_ok-push-2.ensures.items, c.in_ok-write_type.ensures, c.in_ok-push.ensures.items) (simp append_assoc) in
    text ∙ ap (λ t. c.args.out.now.items ++ t) (sym there)
