use Rattle.std.proofs.Common.{◌≡◌, ◌++◌, [], Ok}
use Rattle.std.specs.Option.{option_map_or}
use Rattle.std.proofs.lemmas.Result.{err_from_is_err_and}
use Rattle.kasa_sig.specs.declared.names.Source.TheVariants.{Uses}
use Rattle.kasa_sig.specs.Mentions.{used_partner}
use Rattle.kasa_sig.specs.Outcome.{after}
use Rattle.kasa_sig.proofs.AfterLemmas.{after-none, then_Ok, then_Err, first_Err, ok_through, err_through}
use Rattle.kasa_sig.proofs.used.use_partners.Goals as goal

pub returns-in_default-clause-ok : goal.returns-in_default-clause-ok
returns-in_default-clause-ok c = rw c.in_default.is (after-none Uses c.args.sig.now)

pub returns-in_err-use_partner-clause-err : goal.returns-in_err-use_partner-clause-err
returns-in_err-use_partner-clause-err c =
    let p = err_from_is_err_and c.from_residual.result c.from_residual.ensures.1 in
    let named = used_partner c.args.text.now in
    rw (p.1, p.2, c.in-Some.is) (λ known. first_Err Uses c.args.sig.now (named c.in-Some.field-0.left) (option_map_or named c.in-Some.field-0.right []) c.in_err-use_partner.field-0.0 (c.in_err-use_partner.ensures.err known))

pub returns-in-Some-right-clause-ok : goal.returns-in-Some-right-clause-ok
returns-in-Some-right-clause-ok c =
    let named = used_partner c.args.text.now in
    let next = c.use_partner-in-Some-right.new.sig in
    rw (c.in-Some.is, c.in-Some-right.is) (ok_through c.use_partner-in-Some-right.result (after Uses c.use_partner.new.sig (named c.in-Some-right.right) ≡ Ok next) (after Uses c.args.sig.now (named c.in-Some.field-0.left ++ named c.in-Some-right.right) ≡ Ok next)
    (then_Ok Uses c.args.sig.now c.use_partner.new.sig (named c.in-Some.field-0.left) (named c.in-Some-right.right) next c.in_ok-use_partner.ensures.ok)
    c.use_partner-in-Some-right.ensures.ok)

pub returns-in-Some-right-clause-err : goal.returns-in-Some-right-clause-err
returns-in-Some-right-clause-err c =
    let named = used_partner c.args.text.now in
    rw (c.in-Some.is, c.in-Some-right.is) (err_through c.use_partner-in-Some-right.result (after Uses c.use_partner.new.sig (named c.in-Some-right.right)) (after Uses c.args.sig.now (named c.in-Some.field-0.left ++ named c.in-Some-right.right))
    (λ fault. then_Err Uses c.args.sig.now c.use_partner.new.sig (named c.in-Some.field-0.left) (named c.in-Some-right.right) fault c.in_ok-use_partner.ensures.ok)
    c.use_partner-in-Some-right.ensures.err)
