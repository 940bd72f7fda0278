use Rattle.std.proofs.Common.{◌∷◌, ◌∙◌, [], Ok, Err, None, refl, get_or}
use Rattle.std.proofs.lemmas.Result.{err_from_is_err_and}
use Rattle.kasa_syntax.specs.declared.agents.SiteText.{SiteText}
use Rattle.kasa_sig.specs.declared.names.Source.TheVariants.{Uses}
use Rattle.kasa_sig.specs.Mentions.{word, type_mention, used_site}
use Rattle.kasa_sig.specs.Outcome.{type_at}
use Rattle.kasa_sig.proofs.KeptLemmas.{IsTypeNamed-kept}
use Rattle.kasa_sig.proofs.AfterLemmas.{after-one, step_Err, each_more, each_all, each_Err, owner_of, of_owner, Keeps-after, used_agent-flat}
use Rattle.kasa_sig.proofs.used.use_agent.Goals as goal

-- no site, which stands behind the last one
abbrev no_site : SiteText
no_site = record { name = record { start = 0; end = 0 }; state = None; link = None }

pub returns-in_err-number-clause-err : goal.returns-in_err-number-clause-err
returns-in_err-number-clause-err c =
    let p = err_from_is_err_and c.from_residual.result c.from_residual.ensures.1 in
    rw (p.1, p.2) (λ known. rw (used_agent-flat c.args.text.now c.args.agent.now c.args.agent.now.sites refl)
    (step_Err Uses c.args.sig.now (type_mention c.args.text.now c.args.agent.now.name) _ c.in_err-number.field-0.0 (c.in_err-number.ensures.err known)))

pub loop-site-init : goal.loop-site-init
loop-site-init c = record {
  read = after-one Uses c.args.sig.now (type_mention c.args.text.now c.args.agent.now.name) ∙ c.in_ok-number.ensures.ok;
  owner = c.in_ok-number.ensures.number;
}

pub use_site-requires-clause-owner : goal.use_site-requires-clause-owner
use_site-requires-clause-owner c = owner_of c.loop-site.sig c.in_ok-number.number (word c.args.text.now c.args.agent.now.name) c.loop-site.invariant.owner

pub returns-in_err-use_site-clause-err : goal.returns-in_err-use_site-clause-err
returns-in_err-use_site-clause-err c =
    let p = err_from_is_err_and c.from_residual-in_err-use_site.result c.from_residual-in_err-use_site.ensures.1 in
    let agent = word c.args.text.now c.args.agent.now.name in
    rw (p.1, p.2) (λ known. rw (used_agent-flat c.args.text.now c.args.agent.now c.as_slice-site-items.result.now c.as_slice-site-items.ensures)
    (each_Err Uses (used_site c.args.text.now agent) (type_mention c.args.text.now c.args.agent.now.name ∷ []) c.as_slice-site-items.result.now c.loop-site.site-index c.args.sig.now c.loop-site.sig
    c.loop-site.invariant.read (get_or c.as_slice-site-items.result.now c.loop-site.site-index no_site) no_site c.in_err-use_site.field-0.0 c.loop-site-test.true refl
    (of_owner Uses c.loop-site.sig c.in_ok-number.number agent (λ a. used_site c.args.text.now a (get_or c.as_slice-site-items.result.now c.loop-site.site-index no_site)) (Err c.in_err-use_site.field-0.0) c.loop-site.invariant.owner (c.in_err-use_site.ensures.err known))))

pub loop-site-preserved : goal.loop-site-preserved
loop-site-preserved c =
    let agent = word c.args.text.now c.args.agent.now.name in
    record {
      read = each_more Uses (used_site c.args.text.now agent) (type_mention c.args.text.now c.args.agent.now.name ∷ []) c.as_slice-site-items.result.now c.loop-site.site-index c.args.sig.now c.loop-site.sig
          c.loop-site.invariant.read (get_or c.as_slice-site-items.result.now c.loop-site.site-index no_site) no_site c.use_site.new.sig c.loop-site-test.true refl
          (of_owner Uses c.loop-site.sig c.in_ok-number.number agent (λ a. used_site c.args.text.now a (get_or c.as_slice-site-items.result.now c.loop-site.site-index no_site)) (Ok c.use_site.new.sig) c.loop-site.invariant.owner c.in_ok-use_site.ensures.ok);
      owner = IsTypeNamed-kept c.loop-site.sig c.use_site.new.sig c.in_ok-number.number agent
          (Keeps-after Uses (used_site c.args.text.now (type_at c.loop-site.sig c.in_ok-number.number) (get_or c.as_slice-site-items.result.now c.loop-site.site-index no_site)) c.loop-site.sig c.use_site.new.sig c.in_ok-use_site.ensures.ok) c.loop-site.invariant.owner;
    }

pub returns-clause-ok : goal.returns-clause-ok
returns-clause-ok c =
    rw (used_agent-flat c.args.text.now c.args.agent.now c.as_slice-site-items.result.now c.as_slice-site-items.ensures)
    (each_all Uses (used_site c.args.text.now (word c.args.text.now c.args.agent.now.name)) (type_mention c.args.text.now c.args.agent.now.name ∷ []) c.as_slice-site-items.result.now c.loop-site.site-index c.args.sig.now c.loop-site.sig
    c.loop-site.invariant.read c.loop-site-test.false)
