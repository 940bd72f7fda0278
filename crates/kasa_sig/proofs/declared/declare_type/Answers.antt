use Rattle.std.proofs.Common.{◌∷◌, ◌∙◌, [], Ok, Err, refl}
use Rattle.std.proofs.lemmas.Result.{err_from_is_err_and}
use Rattle.kasa_sig.specs.declared.names.Source.TheVariants.{Declarations}
use Rattle.kasa_sig.specs.Mentions.{word, type_mention, declared_site}
use Rattle.kasa_sig.specs.Outcome.{type_at}
use Rattle.kasa_sig.proofs.KeptLemmas.{IsTypeNamed-kept}
use Rattle.kasa_sig.proofs.AfterLemmas.{after-one, step_Err, each_more, each_all, each_Err, owner_of, of_owner, Keeps-after, declared_type-flat}
use Rattle.kasa_sig.proofs.declared.declare_type.Goals as goal

pub returns-in_err-number-clause-err : goal.returns-in_err-number-clause-err
returns-in_err-number-clause-err c =
    let p = err_from_is_err_and c.from_residual.result c.from_residual.ensures.1 in
    rw (p.1, p.2) (λ known. rw (declared_type-flat c.args.text.now c.args.agent.now c.args.agent.now.sites refl)
    (step_Err Declarations c.args.sig.now (type_mention c.args.text.now c.args.agent.now.name) _ c.in_err-number.field-0.0 (c.in_err-number.ensures.err known)))

pub loop-site-init : goal.loop-site-init
loop-site-init c = record {
  read = after-one Declarations c.args.sig.now (type_mention c.args.text.now c.args.agent.now.name) ∙ c.in_ok-number.ensures.ok;
  owner = c.in_ok-number.ensures.number;
}

pub declare_site-requires-clause-owner : goal.declare_site-requires-clause-owner
declare_site-requires-clause-owner c = owner_of c.loop-site.sig c.in_ok-number.number (word c.args.text.now c.args.agent.now.name) c.loop-site.invariant.owner

pub returns-in_err-declare_site-clause-err : goal.returns-in_err-declare_site-clause-err
returns-in_err-declare_site-clause-err c =
    let p = err_from_is_err_and c.from_residual-in_err-declare_site.result c.from_residual-in_err-declare_site.ensures.1 in
    let agent = word c.args.text.now c.args.agent.now.name in
    rw (p.1, p.2) (λ known. rw (declared_type-flat c.args.text.now c.args.agent.now c.as_slice-site-items.result.now c.as_slice-site-items.ensures)
    (each_Err Declarations (declared_site c.args.text.now agent) (type_mention c.args.text.now c.args.agent.now.name ∷ []) c.as_slice-site-items.result.now c.loop-site.site-index c.args.sig.now c.loop-site.sig
    c.loop-site.invariant.read c.site-item.result c.site-item.result c.in_err-declare_site.field-0.0 c.loop-site-test.true c.site-item.is
    (of_owner Declarations c.loop-site.sig c.in_ok-number.number agent (λ a. declared_site c.args.text.now a c.site-item.result) (Err c.in_err-declare_site.field-0.0) c.loop-site.invariant.owner (c.in_err-declare_site.ensures.err known))))

pub loop-site-preserved : goal.loop-site-preserved
loop-site-preserved c =
    let agent = word c.args.text.now c.args.agent.now.name in
    record {
      read = each_more Declarations (declared_site c.args.text.now agent) (type_mention c.args.text.now c.args.agent.now.name ∷ []) c.as_slice-site-items.result.now c.loop-site.site-index c.args.sig.now c.loop-site.sig
          c.loop-site.invariant.read c.site-item.result c.site-item.result c.declare_site.new.sig c.loop-site-test.true c.site-item.is
          (of_owner Declarations c.loop-site.sig c.in_ok-number.number agent (λ a. declared_site c.args.text.now a c.site-item.result) (Ok c.declare_site.new.sig) c.loop-site.invariant.owner c.in_ok-declare_site.ensures.ok);
      owner = IsTypeNamed-kept c.loop-site.sig c.declare_site.new.sig c.in_ok-number.number agent
          (Keeps-after Declarations (declared_site c.args.text.now (type_at c.loop-site.sig c.in_ok-number.number) c.site-item.result) c.loop-site.sig c.declare_site.new.sig c.in_ok-declare_site.ensures.ok) c.loop-site.invariant.owner;
    }

pub returns-clause-ok : goal.returns-clause-ok
returns-clause-ok c =
    rw (declared_type-flat c.args.text.now c.args.agent.now c.as_slice-site-items.result.now c.as_slice-site-items.ensures)
    (each_all Declarations (declared_site c.args.text.now (word c.args.text.now c.args.agent.now.name)) (type_mention c.args.text.now c.args.agent.now.name ∷ []) c.as_slice-site-items.result.now c.loop-site.site-index c.args.sig.now c.loop-site.sig
    c.loop-site.invariant.read c.loop-site-test.false)
