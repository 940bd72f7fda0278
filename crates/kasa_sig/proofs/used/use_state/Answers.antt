use Rattle.std.proofs.Common.{◌≡◌, ◌∙◌, Ok}
use Rattle.kasa_sig.specs.declared.names.Source.TheVariants.{Uses}
use Rattle.kasa_sig.specs.Mentions.{state_mention}
use Rattle.kasa_sig.specs.Outcome.{step, type_at, site_at}
use Rattle.kasa_sig.proofs.AfterLemmas.{after-none, after-one, ok_through, err_through}
use Rattle.kasa_sig.proofs.used.use_state.Goals as goal

pub returns-in-Hash-clause-ok : goal.returns-in-Hash-clause-ok
returns-in-Hash-clause-ok c = rw c.in-Hash.is (after-none Uses c.args.sig.now)

pub returns-in-Named-clause-ok : goal.returns-in-Named-clause-ok
returns-in-Named-clause-ok c =
    let m = state_mention c.args.text.now (type_at c.args.sig.now c.args.agent) (site_at c.args.sig.now c.args.agent c.args.site) c.in-Named.name in
    rw c.in-Named.is (ok_through c.name_state.result (step Uses c.args.sig.now m ≡ Ok c.name_state.new.sig) _ (λ e. after-one Uses c.args.sig.now m ∙ e) c.name_state.ensures.ok)

pub returns-in-Named-clause-err : goal.returns-in-Named-clause-err
returns-in-Named-clause-err c =
    let m = state_mention c.args.text.now (type_at c.args.sig.now c.args.agent) (site_at c.args.sig.now c.args.agent c.args.site) c.in-Named.name in
    rw c.in-Named.is (err_through c.name_state.result (step Uses c.args.sig.now m) _ (λ fault e. after-one Uses c.args.sig.now m ∙ e) c.name_state.ensures.err)
