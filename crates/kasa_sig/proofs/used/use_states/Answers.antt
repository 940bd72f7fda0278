use Rattle.std.proofs.Common.{◌≡◌, ◌++◌, [], Ok, Err}
use Rattle.std.specs.Option.{option_map_or}
use Rattle.std.proofs.lemmas.Result.{err_from_is_err_and}
use Rattle.kasa_sig.specs.declared.names.Source.TheVariants.{Uses}
use Rattle.kasa_sig.specs.Mentions.{used_state}
use Rattle.kasa_sig.specs.Outcome.{after, type_at, site_at}
use Rattle.kasa_sig.proofs.KeptLemmas.{IsSiteNamed-kept}
use Rattle.kasa_sig.proofs.AfterLemmas.{after-none, then_Ok, then_Err, first_Err, Keeps-after, site_owner_of, of_site_owner, ok_through, err_through}
use Rattle.kasa_sig.proofs.used.use_states.Goals as goal

pub returns-in_default-clause-ok : goal.returns-in_default-clause-ok
returns-in_default-clause-ok c = rw c.in_default.is (after-none Uses c.args.sig.now)

pub returns-in_err-use_state-clause-err : goal.returns-in_err-use_state-clause-err
returns-in_err-use_state-clause-err c =
    let p = err_from_is_err_and c.from_residual.result c.from_residual.ensures.1 in
    let named = used_state c.args.text.now (type_at c.args.sig.now c.args.agent) (site_at c.args.sig.now c.args.agent c.args.site) in
    rw (p.1, p.2, c.in-Some.is) (λ known. first_Err Uses c.args.sig.now (named c.in-Some.field-0.left) (option_map_or named c.in-Some.field-0.right []) c.in_err-use_state.field-0.0 (c.in_err-use_state.ensures.err known))

pub use_state-requires-in-Some-right-clause-owner : goal.use_state-requires-in-Some-right-clause-owner
use_state-requires-in-Some-right-clause-owner c =
    let agent = type_at c.args.sig.now c.args.agent in
    let site = site_at c.args.sig.now c.args.agent c.args.site in
    site_owner_of c.use_state.new.sig c.args.agent c.args.site agent site
    (IsSiteNamed-kept c.args.sig.now c.use_state.new.sig c.args.agent c.args.site agent site
    (Keeps-after Uses (used_state c.args.text.now agent site c.in-Some.field-0.left) c.args.sig.now c.use_state.new.sig c.in_ok-use_state.ensures.ok) c.requires.owner)

pub returns-in-Some-right-clause-ok : goal.returns-in-Some-right-clause-ok
returns-in-Some-right-clause-ok c =
    let agent = type_at c.args.sig.now c.args.agent in
    let site = site_at c.args.sig.now c.args.agent c.args.site in
    let named = used_state c.args.text.now agent site in
    let next = c.use_state-in-Some-right.new.sig in
    let owner = IsSiteNamed-kept c.args.sig.now c.use_state.new.sig c.args.agent c.args.site agent site (Keeps-after Uses (named c.in-Some.field-0.left) c.args.sig.now c.use_state.new.sig c.in_ok-use_state.ensures.ok) c.requires.owner in
    rw (c.in-Some.is, c.in-Some-right.is) (ok_through c.use_state-in-Some-right.result _ (after Uses c.args.sig.now (named c.in-Some.field-0.left ++ named c.in-Some-right.right) ≡ Ok next)
    (λ e. then_Ok Uses c.args.sig.now c.use_state.new.sig (named c.in-Some.field-0.left) (named c.in-Some-right.right) next c.in_ok-use_state.ensures.ok
    (of_site_owner Uses c.use_state.new.sig c.args.agent c.args.site agent site (λ a x. used_state c.args.text.now a x c.in-Some-right.right) (Ok next) owner e))
    c.use_state-in-Some-right.ensures.ok)

pub returns-in-Some-right-clause-err : goal.returns-in-Some-right-clause-err
returns-in-Some-right-clause-err c =
    let agent = type_at c.args.sig.now c.args.agent in
    let site = site_at c.args.sig.now c.args.agent c.args.site in
    let named = used_state c.args.text.now agent site in
    let owner = IsSiteNamed-kept c.args.sig.now c.use_state.new.sig c.args.agent c.args.site agent site (Keeps-after Uses (named c.in-Some.field-0.left) c.args.sig.now c.use_state.new.sig c.in_ok-use_state.ensures.ok) c.requires.owner in
    rw (c.in-Some.is, c.in-Some-right.is) (err_through c.use_state-in-Some-right.result
    (after Uses c.use_state.new.sig (used_state c.args.text.now (type_at c.use_state.new.sig c.args.agent) (site_at c.use_state.new.sig c.args.agent c.args.site) c.in-Some-right.right)) (after Uses c.args.sig.now (named c.in-Some.field-0.left ++ named c.in-Some-right.right))
    (λ fault e. then_Err Uses c.args.sig.now c.use_state.new.sig (named c.in-Some.field-0.left) (named c.in-Some-right.right) fault c.in_ok-use_state.ensures.ok
    (of_site_owner Uses c.use_state.new.sig c.args.agent c.args.site agent site (λ a x. used_state c.args.text.now a x c.in-Some-right.right) (Err fault) owner e))
    c.use_state-in-Some-right.ensures.err)
