use Rattle.std.proofs.Common.{◌≡◌, true, false, ◌∙◌, sym, subst, map, take, string_bytes}
use Rattle.kasa_lists.specs.Lists.{Has}
use Rattle.kasa_top.proofs.WordLemmas.{one_kind, word_at, take_more, flags_more, flags_stop}
use Rattle.kasa_top.proofs.words.kinds_of_flags.Goals as goal

pub returns-in_default : goal.returns-in_default
returns-in_default c =
    flags_stop (map string_bytes c.args.flags.now) c.loop-flag.flag-index (string_bytes c.flag-item.result) c.loop-flag.kinds.items c.loop-flag.invariant
    (word_at string_bytes c.args.flags.now c.loop-flag.flag-index c.flag-item.result c.loop-flag-test.true c.flag-item.is)
    (λ k is. absurd (c.in_default.ensures k (c.as_str.ensures.value ∙ is)))

pub returns-then-has : goal.returns-then-has
returns-then-has c =
    flags_stop (map string_bytes c.args.flags.now) c.loop-flag.flag-index (string_bytes c.flag-item.result) c.loop-flag.kinds.items c.loop-flag.invariant
    (word_at string_bytes c.args.flags.now c.loop-flag.flag-index c.flag-item.result c.loop-flag-test.true c.flag-item.is)
    (λ k is. subst (Has c.loop-flag.kinds.items) (one_kind c.in-Some.kind k (sym c.in-Some.ensures ∙ c.as_str.ensures.value ∙ is)) (rw c.deref.ensures.value at (c.has.ensures.0 c.if-has.true)))

pub loop-flag-preserved : goal.loop-flag-preserved
loop-flag-preserved c =
    let words = map string_bytes c.args.flags.now in
    let at = word_at string_bytes c.args.flags.now c.loop-flag.flag-index c.flag-item.result c.loop-flag-test.true c.flag-item.is in
    let new : ¬ Has c.loop-flag.kinds.items c.in-Some.kind = λ has. let both : false ≡ true = sym c.if-has.false ∙ c.has.ensures.1 (rw c.deref.ensures.value has) in absurd cc in
    let more = flags_more (take c.loop-flag.flag-index words) c.loop-flag.kinds.items (string_bytes c.flag-item.result) c.in-Some.kind c.loop-flag.invariant (sym c.as_str.ensures.value ∙ c.in-Some.ensures) new in
    rw (take_more words c.loop-flag.flag-index (string_bytes c.flag-item.result) at, c.in_ok-push.ensures.items) more
