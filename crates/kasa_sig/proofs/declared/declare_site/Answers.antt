use Rattle.std.proofs.Common.{◌∷◌, ◌∙◌, [], Ok, Err, refl, get_or}
use Rattle.std.proofs.lemmas.Result.{err_from_is_err_and}
use Rattle.kasa_syntax.specs.declared.tokens.Span.{Span}
use Rattle.kasa_sig.specs.declared.names.Source.TheVariants.{Declarations}
use Rattle.kasa_sig.specs.Mentions.{word, site_mention, state_mention}
use Rattle.kasa_sig.specs.Outcome.{type_at, site_at}
use Rattle.kasa_sig.proofs.KeptLemmas.{IsSiteNamed-kept}
use Rattle.kasa_sig.proofs.StepLemmas.{Keeps-step}
use Rattle.kasa_sig.proofs.AfterLemmas.{after-one, step_Err, each_more, each_all, each_Err, site_owner_of, of_site_owner, one_state, declared_site-flat}
use Rattle.kasa_sig.proofs.declared.declare_site.Goals as goal

-- no word, which stands behind the last one
abbrev no_word : Span
no_word = record { start = 0; end = 0 }

pub returns-in_err-number-clause-err : goal.returns-in_err-number-clause-err
returns-in_err-number-clause-err c =
    let p = err_from_is_err_and c.from_residual.result c.from_residual.ensures.1 in
    rw (p.1, p.2) (λ known. rw (declared_site-flat c.args.text.now (type_at c.args.sig.now c.args.agent) c.args.site.now c.args.site.now.states refl)
    (step_Err Declarations c.args.sig.now (site_mention c.args.text.now (type_at c.args.sig.now c.args.agent) c.args.site.now.name) _ c.in_err-number.field-0.0 (c.in_err-number.ensures.err known)))

pub loop-state-init : goal.loop-state-init
loop-state-init c = record {
  read = after-one Declarations c.args.sig.now (site_mention c.args.text.now (type_at c.args.sig.now c.args.agent) c.args.site.now.name) ∙ c.in_ok-number.ensures.ok;
  owner = c.in_ok-number.ensures.number;
}

pub name_state-requires-clause-owner : goal.name_state-requires-clause-owner
name_state-requires-clause-owner c =
    site_owner_of c.loop-state.sig c.args.agent c.in_ok-number.number (type_at c.args.sig.now c.args.agent) (word c.args.text.now c.args.site.now.name) c.loop-state.invariant.owner

pub returns-in_err-name_state-clause-err : goal.returns-in_err-name_state-clause-err
returns-in_err-name_state-clause-err c =
    let p = err_from_is_err_and c.from_residual-in_err-name_state.result c.from_residual-in_err-name_state.ensures.1 in
    let agent = type_at c.args.sig.now c.args.agent in
    let site = word c.args.text.now c.args.site.now.name in
    let state = get_or c.as_slice-state-items.result.now c.loop-state.state-index no_word in
    rw (p.1, p.2) (λ known. rw (declared_site-flat c.args.text.now agent c.args.site.now c.as_slice-state-items.result.now c.as_slice-state-items.ensures)
    (each_Err Declarations (one_state c.args.text.now agent site) (site_mention c.args.text.now agent c.args.site.now.name ∷ []) c.as_slice-state-items.result.now c.loop-state.state-index c.args.sig.now c.loop-state.sig
    c.loop-state.invariant.read state no_word c.in_err-name_state.field-0.0 c.loop-state-test.true refl
    (of_site_owner Declarations c.loop-state.sig c.args.agent c.in_ok-number.number agent site (λ a x. one_state c.args.text.now a x state) (Err c.in_err-name_state.field-0.0) c.loop-state.invariant.owner
    (after-one Declarations c.loop-state.sig (state_mention c.args.text.now (type_at c.loop-state.sig c.args.agent) (site_at c.loop-state.sig c.args.agent c.in_ok-number.number) state) ∙ c.in_err-name_state.ensures.err known))))

pub loop-state-preserved : goal.loop-state-preserved
loop-state-preserved c =
    let agent = type_at c.args.sig.now c.args.agent in
    let site = word c.args.text.now c.args.site.now.name in
    let state = get_or c.as_slice-state-items.result.now c.loop-state.state-index no_word in
    let more = state_mention c.args.text.now (type_at c.loop-state.sig c.args.agent) (site_at c.loop-state.sig c.args.agent c.in_ok-number.number) state in
    record {
      read = each_more Declarations (one_state c.args.text.now agent site) (site_mention c.args.text.now agent c.args.site.now.name ∷ []) c.as_slice-state-items.result.now c.loop-state.state-index c.args.sig.now c.loop-state.sig
          c.loop-state.invariant.read state no_word c.name_state.new.sig c.loop-state-test.true refl
          (of_site_owner Declarations c.loop-state.sig c.args.agent c.in_ok-number.number agent site (λ a x. one_state c.args.text.now a x state) (Ok c.name_state.new.sig) c.loop-state.invariant.owner
          (after-one Declarations c.loop-state.sig more ∙ c.in_ok-name_state.ensures.ok));
      owner = IsSiteNamed-kept c.loop-state.sig c.name_state.new.sig c.args.agent c.in_ok-number.number agent site (Keeps-step Declarations c.loop-state.sig c.name_state.new.sig more c.in_ok-name_state.ensures.ok) c.loop-state.invariant.owner;
    }

pub returns-clause-ok : goal.returns-clause-ok
returns-clause-ok c =
    let agent = type_at c.args.sig.now c.args.agent in
    rw (declared_site-flat c.args.text.now agent c.args.site.now c.as_slice-state-items.result.now c.as_slice-state-items.ensures)
    (each_all Declarations (one_state c.args.text.now agent (word c.args.text.now c.args.site.now.name)) (site_mention c.args.text.now agent c.args.site.now.name ∷ []) c.as_slice-state-items.result.now c.loop-state.state-index c.args.sig.now c.loop-state.sig
    c.loop-state.invariant.read c.loop-state-test.false)
