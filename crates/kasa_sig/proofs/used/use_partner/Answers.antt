use Rattle.std.proofs.Common.{◌∙◌, ◌∷◌, [], Ok, Err}
use Rattle.std.proofs.lemmas.Result.{err_from_is_err_and}
use Rattle.kasa_sig.specs.declared.names.Source.TheVariants.{Uses}
use Rattle.kasa_sig.specs.Mentions.{word, type_mention, site_mention}
use Rattle.kasa_sig.specs.Outcome.{type_at}
use Rattle.kasa_sig.proofs.AfterLemmas.{after-none, after-one, step_Ok, step_Err, owner_of, of_owner, no_partner}
use Rattle.kasa_sig.proofs.used.use_partner.Goals as goal

pub returns-in_default : goal.returns-in_default
returns-in_default c = record { ok = rw (no_partner c.args.text.now c.args.link c.in_default.not-Partner) (after-none Uses c.args.sig.now); err = tt }

pub returns-in_err-number-clause-err : goal.returns-in_err-number-clause-err
returns-in_err-number-clause-err c =
    let p = err_from_is_err_and c.from_residual.result c.from_residual.ensures.1 in
    rw (p.1, p.2, c.in-Partner.is) (λ known. step_Err Uses c.args.sig.now (type_mention c.args.text.now c.in-Partner.agent) _ c.in_err-number.field-0.0 (c.in_err-number.ensures.err known))

pub name_site-requires-clause-owner : goal.name_site-requires-clause-owner
name_site-requires-clause-owner c = owner_of c.name_type.new.sig c.in_ok-number.number (word c.args.text.now c.in-Partner.agent) c.in_ok-number.ensures.number

pub returns-in_err-name_site-clause-err : goal.returns-in_err-name_site-clause-err
returns-in_err-name_site-clause-err c =
    let p = err_from_is_err_and c.from_residual-in_err-name_site.result c.from_residual-in_err-name_site.ensures.1 in
    let agent = word c.args.text.now c.in-Partner.agent in
    rw (p.1, p.2, c.in-Partner.is) (λ known.
    step_Ok Uses c.args.sig.now (type_mention c.args.text.now c.in-Partner.agent) (site_mention c.args.text.now agent c.in-Partner.site ∷ []) c.name_type.new.sig c.in_ok-number.ensures.ok
    ∙ of_owner Uses c.name_type.new.sig c.in_ok-number.number agent (λ a. site_mention c.args.text.now a c.in-Partner.site ∷ []) (Err c.in_err-name_site.field-0.0) c.in_ok-number.ensures.number
    (after-one Uses c.name_type.new.sig (site_mention c.args.text.now (type_at c.name_type.new.sig c.in_ok-number.number) c.in-Partner.site) ∙ c.in_err-name_site.ensures.err known))

pub returns-clause-ok : goal.returns-clause-ok
returns-clause-ok c =
    let agent = word c.args.text.now c.in-Partner.agent in
    rw c.in-Partner.is (
    step_Ok Uses c.args.sig.now (type_mention c.args.text.now c.in-Partner.agent) (site_mention c.args.text.now agent c.in-Partner.site ∷ []) c.name_type.new.sig c.in_ok-number.ensures.ok
    ∙ of_owner Uses c.name_type.new.sig c.in_ok-number.number agent (λ a. site_mention c.args.text.now a c.in-Partner.site ∷ []) (Ok c.name_site.new.sig) c.in_ok-number.ensures.number
    (after-one Uses c.name_type.new.sig (site_mention c.args.text.now (type_at c.name_type.new.sig c.in_ok-number.number) c.in-Partner.site) ∙ c.in_ok-name_site.ensures.ok))
