use Rattle.std.proofs.Common.{◌≡◌, ◌++◌, Ok}
use Rattle.std.specs.List.{flat_map}
use Rattle.std.proofs.lemmas.Result.{err_from_is_err_and}
use Rattle.kasa_sig.specs.declared.names.Source.TheVariants.{Uses}
use Rattle.kasa_sig.specs.Mentions.{used_item}
use Rattle.kasa_sig.specs.Outcome.{after}
use Rattle.kasa_sig.proofs.AfterLemmas.{then_Ok, then_Err, first_Err, ok_through, err_through}
use Rattle.kasa_sig.proofs.used.use_body.Goals as goal

pub returns-in_err-use_items-in-Arrow-clause-err : goal.returns-in_err-use_items-in-Arrow-clause-err
returns-in_err-use_items-in-Arrow-clause-err c =
    let p = err_from_is_err_and c.from_residual.result c.from_residual.ensures.1 in
    let named = flat_map (used_item c.args.text.now) in
    rw (p.1, p.2, c.in-Arrow.is, ← c.as_slice-in-Arrow.ensures) (λ known.
    first_Err Uses c.args.sig.now (named c.as_slice-in-Arrow.result.now) (named c.in-Arrow.right) c.in_err-use_items-in-Arrow.field-0.0 (c.in_err-use_items-in-Arrow.ensures.err known))

pub returns-in_ok-use_items-in-Arrow-clause-ok : goal.returns-in_ok-use_items-in-Arrow-clause-ok
returns-in_ok-use_items-in-Arrow-clause-ok c =
    let named = flat_map (used_item c.args.text.now) in
    let next = c.use_items-in-Arrow-2.new.sig in
    rw (c.in-Arrow.is, ← c.as_slice-in-Arrow.ensures, ← c.as_slice-in-Arrow-2.ensures) (ok_through c.use_items-in-Arrow-2.result (after Uses c.use_items-in-Arrow.new.sig (named c.as_slice-in-Arrow-2.result.now) ≡ Ok next)
    (after Uses c.args.sig.now (named c.as_slice-in-Arrow.result.now ++ named c.as_slice-in-Arrow-2.result.now) ≡ Ok next)
    (then_Ok Uses c.args.sig.now c.use_items-in-Arrow.new.sig (named c.as_slice-in-Arrow.result.now) (named c.as_slice-in-Arrow-2.result.now) next c.in_ok-use_items-in-Arrow.ensures.ok)
    c.use_items-in-Arrow-2.ensures.ok)

pub returns-in_ok-use_items-in-Arrow-clause-err : goal.returns-in_ok-use_items-in-Arrow-clause-err
returns-in_ok-use_items-in-Arrow-clause-err c =
    let named = flat_map (used_item c.args.text.now) in
    rw (c.in-Arrow.is, ← c.as_slice-in-Arrow.ensures, ← c.as_slice-in-Arrow-2.ensures) (err_through c.use_items-in-Arrow-2.result (after Uses c.use_items-in-Arrow.new.sig (named c.as_slice-in-Arrow-2.result.now))
    (after Uses c.args.sig.now (named c.as_slice-in-Arrow.result.now ++ named c.as_slice-in-Arrow-2.result.now))
    (λ fault. then_Err Uses c.args.sig.now c.use_items-in-Arrow.new.sig (named c.as_slice-in-Arrow.result.now) (named c.as_slice-in-Arrow-2.result.now) fault c.in_ok-use_items-in-Arrow.ensures.ok)
    c.use_items-in-Arrow-2.ensures.err)
