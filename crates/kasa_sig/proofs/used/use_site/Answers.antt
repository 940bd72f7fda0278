use Rattle.std.proofs.Common.{◌≡◌, ◌∙◌, ◌++◌, true, false, refl, sym, Ok, Err}
use Rattle.std.proofs.lemmas.Result.{err_from_is_err_and}
use Rattle.kasa_sig.specs.declared.names.Source.TheVariants.{Uses}
use Rattle.kasa_sig.specs.Mentions.{word, site_mention, used_states, used_partners, used_site, brackets_stand_first}
use Rattle.kasa_sig.specs.Outcome.{after, type_at, site_at}
use Rattle.kasa_sig.proofs.KeptLemmas.{IsSiteNamed-kept}
use Rattle.kasa_sig.proofs.AfterLemmas.{step_Ok, step_Err, then_Ok, then_Err, first_Err, Keeps-after, site_owner_of, of_site_owner, used_site-order, ok_through, err_through}
use Rattle.kasa_sig.proofs.used.use_site.Goals as goal

pub returns-in_err-number-clause-err : goal.returns-in_err-number-clause-err
returns-in_err-number-clause-err c =
    let p = err_from_is_err_and c.from_residual.result c.from_residual.ensures.1 in
    rw (p.1, p.2) (λ known. rw (used_site-order c.args.text.now (type_at c.args.sig.now c.args.agent) c.args.site.now (brackets_stand_first c.args.site.now) refl)
    (step_Err Uses c.args.sig.now (site_mention c.args.text.now (type_at c.args.sig.now c.args.agent) c.args.site.now.name) _ c.in_err-number.field-0.0 (c.in_err-number.ensures.err known)))

-- ---- the brackets first

pub returns-in_err-use_partners-clause-err : goal.returns-in_err-use_partners-clause-err
returns-in_err-use_partners-clause-err c =
    let p = err_from_is_err_and c.from_residual-in_err-use_partners.result c.from_residual-in_err-use_partners.ensures.1 in
    rw (p.1, p.2) (λ known. rw (used_site-order c.args.text.now (type_at c.args.sig.now c.args.agent) c.args.site.now true (sym c.brackets_stand_first.ensures ∙ c.if-brackets_stand_first.true))
    (step_Ok Uses c.args.sig.now (site_mention c.args.text.now (type_at c.args.sig.now c.args.agent) c.args.site.now.name) ((used_partners c.args.text.now c.args.site.now.link) ++ (used_states c.args.text.now (type_at c.args.sig.now c.args.agent) (word c.args.text.now c.args.site.now.name) c.args.site.now.state)) c.name_site.new.sig c.in_ok-number.ensures.ok ∙ first_Err Uses c.name_site.new.sig (used_partners c.args.text.now c.args.site.now.link) (used_states c.args.text.now (type_at c.args.sig.now c.args.agent) (word c.args.text.now c.args.site.now.name) c.args.site.now.state) c.in_err-use_partners.field-0.0 (c.in_err-use_partners.ensures.err known)))

pub use_states-requires-clause-owner : goal.use_states-requires-clause-owner
use_states-requires-clause-owner c = site_owner_of c.use_partners.new.sig c.args.agent c.in_ok-number.number (type_at c.args.sig.now c.args.agent) (word c.args.text.now c.args.site.now.name) (IsSiteNamed-kept c.name_site.new.sig c.use_partners.new.sig c.args.agent c.in_ok-number.number (type_at c.args.sig.now c.args.agent) (word c.args.text.now c.args.site.now.name) (Keeps-after Uses (used_partners c.args.text.now c.args.site.now.link) c.name_site.new.sig c.use_partners.new.sig c.in_ok-use_partners.ensures.ok) c.in_ok-number.ensures.number)

pub returns-in_ok-use_partners-clause-ok : goal.returns-in_ok-use_partners-clause-ok
returns-in_ok-use_partners-clause-ok c =
    ok_through c.use_states.result ((after Uses c.use_partners.new.sig (used_states c.args.text.now (type_at c.use_partners.new.sig c.args.agent) (site_at c.use_partners.new.sig c.args.agent c.in_ok-number.number) c.args.site.now.state)) ≡ Ok c.use_states.new.sig) (after Uses c.args.sig.now (used_site c.args.text.now (type_at c.args.sig.now c.args.agent) c.args.site.now) ≡ Ok c.use_states.new.sig)
    (λ e. rw (used_site-order c.args.text.now (type_at c.args.sig.now c.args.agent) c.args.site.now true (sym c.brackets_stand_first.ensures ∙ c.if-brackets_stand_first.true))
    (step_Ok Uses c.args.sig.now (site_mention c.args.text.now (type_at c.args.sig.now c.args.agent) c.args.site.now.name) ((used_partners c.args.text.now c.args.site.now.link) ++ (used_states c.args.text.now (type_at c.args.sig.now c.args.agent) (word c.args.text.now c.args.site.now.name) c.args.site.now.state)) c.name_site.new.sig c.in_ok-number.ensures.ok ∙ then_Ok Uses c.name_site.new.sig c.use_partners.new.sig (used_partners c.args.text.now c.args.site.now.link) (used_states c.args.text.now (type_at c.args.sig.now c.args.agent) (word c.args.text.now c.args.site.now.name) c.args.site.now.state) c.use_states.new.sig c.in_ok-use_partners.ensures.ok
    (of_site_owner Uses c.use_partners.new.sig c.args.agent c.in_ok-number.number (type_at c.args.sig.now c.args.agent) (word c.args.text.now c.args.site.now.name) (λ a x. used_states c.args.text.now a x c.args.site.now.state) (Ok c.use_states.new.sig) (IsSiteNamed-kept c.name_site.new.sig c.use_partners.new.sig c.args.agent c.in_ok-number.number (type_at c.args.sig.now c.args.agent) (word c.args.text.now c.args.site.now.name) (Keeps-after Uses (used_partners c.args.text.now c.args.site.now.link) c.name_site.new.sig c.use_partners.new.sig c.in_ok-use_partners.ensures.ok) c.in_ok-number.ensures.number) e)))
    c.use_states.ensures.ok

pub returns-in_ok-use_partners-clause-err : goal.returns-in_ok-use_partners-clause-err
returns-in_ok-use_partners-clause-err c =
    err_through c.use_states.result (after Uses c.use_partners.new.sig (used_states c.args.text.now (type_at c.use_partners.new.sig c.args.agent) (site_at c.use_partners.new.sig c.args.agent c.in_ok-number.number) c.args.site.now.state)) (after Uses c.args.sig.now (used_site c.args.text.now (type_at c.args.sig.now c.args.agent) c.args.site.now))
    (λ fault e. rw (used_site-order c.args.text.now (type_at c.args.sig.now c.args.agent) c.args.site.now true (sym c.brackets_stand_first.ensures ∙ c.if-brackets_stand_first.true))
    (step_Ok Uses c.args.sig.now (site_mention c.args.text.now (type_at c.args.sig.now c.args.agent) c.args.site.now.name) ((used_partners c.args.text.now c.args.site.now.link) ++ (used_states c.args.text.now (type_at c.args.sig.now c.args.agent) (word c.args.text.now c.args.site.now.name) c.args.site.now.state)) c.name_site.new.sig c.in_ok-number.ensures.ok ∙ then_Err Uses c.name_site.new.sig c.use_partners.new.sig (used_partners c.args.text.now c.args.site.now.link) (used_states c.args.text.now (type_at c.args.sig.now c.args.agent) (word c.args.text.now c.args.site.now.name) c.args.site.now.state) fault c.in_ok-use_partners.ensures.ok
    (of_site_owner Uses c.use_partners.new.sig c.args.agent c.in_ok-number.number (type_at c.args.sig.now c.args.agent) (word c.args.text.now c.args.site.now.name) (λ a x. used_states c.args.text.now a x c.args.site.now.state) (Err fault) (IsSiteNamed-kept c.name_site.new.sig c.use_partners.new.sig c.args.agent c.in_ok-number.number (type_at c.args.sig.now c.args.agent) (word c.args.text.now c.args.site.now.name) (Keeps-after Uses (used_partners c.args.text.now c.args.site.now.link) c.name_site.new.sig c.use_partners.new.sig c.in_ok-use_partners.ensures.ok) c.in_ok-number.ensures.number) e)))
    c.use_states.ensures.err

-- ---- the braces first

pub use_states-requires-else-brackets_stand_first-clause-owner : goal.use_states-requires-else-brackets_stand_first-clause-owner
use_states-requires-else-brackets_stand_first-clause-owner c = site_owner_of c.name_site.new.sig c.args.agent c.in_ok-number.number (type_at c.args.sig.now c.args.agent) (word c.args.text.now c.args.site.now.name) c.in_ok-number.ensures.number

pub returns-in_err-use_states-clause-err : goal.returns-in_err-use_states-clause-err
returns-in_err-use_states-clause-err c =
    let p = err_from_is_err_and c.from_residual-in_err-use_states.result c.from_residual-in_err-use_states.ensures.1 in
    rw (p.1, p.2) (λ known. rw (used_site-order c.args.text.now (type_at c.args.sig.now c.args.agent) c.args.site.now false (sym c.brackets_stand_first.ensures ∙ c.if-brackets_stand_first.false))
    (step_Ok Uses c.args.sig.now (site_mention c.args.text.now (type_at c.args.sig.now c.args.agent) c.args.site.now.name) ((used_states c.args.text.now (type_at c.args.sig.now c.args.agent) (word c.args.text.now c.args.site.now.name) c.args.site.now.state) ++ (used_partners c.args.text.now c.args.site.now.link)) c.name_site.new.sig c.in_ok-number.ensures.ok ∙ first_Err Uses c.name_site.new.sig (used_states c.args.text.now (type_at c.args.sig.now c.args.agent) (word c.args.text.now c.args.site.now.name) c.args.site.now.state) (used_partners c.args.text.now c.args.site.now.link) c.in_err-use_states.field-0.0
    (of_site_owner Uses c.name_site.new.sig c.args.agent c.in_ok-number.number (type_at c.args.sig.now c.args.agent) (word c.args.text.now c.args.site.now.name) (λ a x. used_states c.args.text.now a x c.args.site.now.state) (Err c.in_err-use_states.field-0.0) c.in_ok-number.ensures.number (c.in_err-use_states.ensures.err known))))

pub returns-in_ok-use_states-clause-ok : goal.returns-in_ok-use_states-clause-ok
returns-in_ok-use_states-clause-ok c =
    ok_through c.use_partners-else-brackets_stand_first.result (after Uses c.use_states-else-brackets_stand_first.new.sig (used_partners c.args.text.now c.args.site.now.link) ≡ Ok c.use_partners-else-brackets_stand_first.new.sig) (after Uses c.args.sig.now (used_site c.args.text.now (type_at c.args.sig.now c.args.agent) c.args.site.now) ≡ Ok c.use_partners-else-brackets_stand_first.new.sig)
    (λ e. rw (used_site-order c.args.text.now (type_at c.args.sig.now c.args.agent) c.args.site.now false (sym c.brackets_stand_first.ensures ∙ c.if-brackets_stand_first.false))
    (step_Ok Uses c.args.sig.now (site_mention c.args.text.now (type_at c.args.sig.now c.args.agent) c.args.site.now.name) ((used_states c.args.text.now (type_at c.args.sig.now c.args.agent) (word c.args.text.now c.args.site.now.name) c.args.site.now.state) ++ (used_partners c.args.text.now c.args.site.now.link)) c.name_site.new.sig c.in_ok-number.ensures.ok ∙ then_Ok Uses c.name_site.new.sig c.use_states-else-brackets_stand_first.new.sig (used_states c.args.text.now (type_at c.args.sig.now c.args.agent) (word c.args.text.now c.args.site.now.name) c.args.site.now.state) (used_partners c.args.text.now c.args.site.now.link) c.use_partners-else-brackets_stand_first.new.sig
    (of_site_owner Uses c.name_site.new.sig c.args.agent c.in_ok-number.number (type_at c.args.sig.now c.args.agent) (word c.args.text.now c.args.site.now.name) (λ a x. used_states c.args.text.now a x c.args.site.now.state) (Ok c.use_states-else-brackets_stand_first.new.sig) c.in_ok-number.ensures.number c.in_ok-use_states.ensures.ok) e))
    c.use_partners-else-brackets_stand_first.ensures.ok

pub returns-in_ok-use_states-clause-err : goal.returns-in_ok-use_states-clause-err
returns-in_ok-use_states-clause-err c =
    err_through c.use_partners-else-brackets_stand_first.result (after Uses c.use_states-else-brackets_stand_first.new.sig (used_partners c.args.text.now c.args.site.now.link)) (after Uses c.args.sig.now (used_site c.args.text.now (type_at c.args.sig.now c.args.agent) c.args.site.now))
    (λ fault e. rw (used_site-order c.args.text.now (type_at c.args.sig.now c.args.agent) c.args.site.now false (sym c.brackets_stand_first.ensures ∙ c.if-brackets_stand_first.false))
    (step_Ok Uses c.args.sig.now (site_mention c.args.text.now (type_at c.args.sig.now c.args.agent) c.args.site.now.name) ((used_states c.args.text.now (type_at c.args.sig.now c.args.agent) (word c.args.text.now c.args.site.now.name) c.args.site.now.state) ++ (used_partners c.args.text.now c.args.site.now.link)) c.name_site.new.sig c.in_ok-number.ensures.ok ∙ then_Err Uses c.name_site.new.sig c.use_states-else-brackets_stand_first.new.sig (used_states c.args.text.now (type_at c.args.sig.now c.args.agent) (word c.args.text.now c.args.site.now.name) c.args.site.now.state) (used_partners c.args.text.now c.args.site.now.link) fault
    (of_site_owner Uses c.name_site.new.sig c.args.agent c.in_ok-number.number (type_at c.args.sig.now c.args.agent) (word c.args.text.now c.args.site.now.name) (λ a x. used_states c.args.text.now a x c.args.site.now.state) (Ok c.use_states-else-brackets_stand_first.new.sig) c.in_ok-number.ensures.number c.in_ok-use_states.ensures.ok) e))
    c.use_partners-else-brackets_stand_first.ensures.err
