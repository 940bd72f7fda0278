use Rattle.std.proofs.Common.{◌≡◌, ◌<◌, ◌+◌, true, false, List, [], ◌∷◌, ◌++◌, None, length, sym, ap, ◌∙◌, subst, arith}
use Rattle.std.proofs.lemmas.Result.{err_from_is_err_and}
use Rattle.kasa_lists.proofs.Elements.{length-push}
use Rattle.kasa_graph.specs.Signature.{TypeEntry}
use Rattle.kasa_rules.specs.declared.model.Model.{Model}
use Rattle.kasa_compile.specs.Causes.{first_of, rule_causes, reverse_causes}
use Rattle.kasa_compile.specs.Model.{is_both}
use Rattle.kasa_compile.specs.Compiling.{IsWhole, model_in}
use Rattle.kasa_compile.proofs.FaultlessLemmas.{none_at, not_past, rule_faultless}
use Rattle.kasa_compile.proofs.CompiledLemmas.{model-rule, rule-refused, forward-refused, forward-tried, reverse-refused, reverse-tried, rule-behind}
use Rattle.kasa_compile.proofs.compile.add_rules.Goals as goal

pub returns-in_err-forward-clause-fault : goal.returns-in_err-forward-clause-fault
returns-in_err-forward-clause-fault c =
    let p = err_from_is_err_and c.from_residual.result c.from_residual.ensures.1 in
    rw (p.1, p.2) (λ known. rule-refused c.args.text.now c.args.decl.now (model_in c.args.compiled) c.in_err-forward.field-0.0
    (forward-refused c.args.text.now c.args.decl.now (model_in c.args.compiled) c.len-count.result c.in_err-forward.field-0.0 (c.len-count.ensures ∙ c.args.compiled.rules.ok.0) (c.in_err-forward.ensures.fault known)))

pub returns-then-not-is_both-clause-added : goal.returns-then-not-is_both-clause-added
returns-then-not-is_both-clause-added c =
    let single : is_both c.args.decl.now.form ≡ false = (let told = c.is_both.ensures in let no = c.if-not-is_both.true in cc) in
    let first = forward-tried c.args.text.now c.args.decl.now (model_in c.args.compiled) c.len-count.result c.in_ok-forward.forward (model_in c.in_ok-next.next) (c.len-count.ensures ∙ c.args.compiled.rules.ok.0) c.in_ok-forward.ensures.faultless c.in_ok-forward.ensures.rule c.in_ok-next.ensures in
    rule-behind c.args.text.now c.args.decl.now (model_in c.args.compiled) (model_in c.in_ok-next.next) false first single

pub returns-then-not-is_both-clause-after : goal.returns-then-not-is_both-clause-after
returns-then-not-is_both-clause-after c =
    let few = subst (λ n. n < 2000) (c.len-count.ensures ∙ c.args.compiled.rules.ok.0) (rule_faultless c.args.text.now c.args.compiled.sig c.len-count.result c.args.decl.now (sym c.in_ok-forward.ensures.faultless)).first in
    subst IsWhole (sym c.in_ok-next.ensures) (model-rule (model_in c.args.compiled) c.in_ok-forward.forward c.requires.before few c.in_ok-forward.ensures.small)

pub reverse_rule-requires-clause-forward : goal.reverse_rule-requires-clause-forward
reverse_rule-requires-clause-forward c =
    subst (λ (sig : List TypeEntry). first_of c.args.text.now (rule_causes c.args.text.now sig c.len-count.result c.args.decl.now) ≡ None) (ap (λ (m : Model). m.sig) (sym c.in_ok-next.ensures)) c.in_ok-forward.ensures.faultless

pub returns-in_err-reverse-clause-fault : goal.returns-in_err-reverse-clause-fault
returns-in_err-reverse-clause-fault c =
    let p = err_from_is_err_and c.from_residual-in_err-reverse.result c.from_residual-in_err-reverse.ensures.1 in
    let both : is_both c.args.decl.now.form ≡ true = (let told = c.is_both.ensures in let no = c.if-not-is_both.false in cc) in
    let count : c.len-count.result ≡ length c.args.compiled.rules.items = c.len-count.ensures ∙ c.args.compiled.rules.ok.0 in
    let more : length c.in_ok-next.next.rules.items ≡ length (c.args.compiled.rules.items ++ c.in_ok-forward.forward ∷ []) = ap (λ (m : Model). length m.rules) c.in_ok-next.ensures in
    let behind : c.len-count.result + 1 ≡ length c.in_ok-next.next.rules.items = omega (arith, count, more, length-push c.args.compiled.rules.items c.in_ok-forward.forward) in
    let first = forward-tried c.args.text.now c.args.decl.now (model_in c.args.compiled) c.len-count.result c.in_ok-forward.forward (model_in c.in_ok-next.next) count c.in_ok-forward.ensures.faultless c.in_ok-forward.ensures.rule c.in_ok-next.ensures in
    rw (p.1, p.2) (λ known. rule-behind c.args.text.now c.args.decl.now (model_in c.args.compiled) (model_in c.in_ok-next.next) true first both
    ∙ reverse-refused c.args.text.now c.args.decl.now (model_in c.in_ok-next.next) (c.len-count.result + 1) c.in_err-reverse.field-0.0 behind (c.in_err-reverse.ensures.fault known))

pub returns-clause-added : goal.returns-clause-added
returns-clause-added c =
    let both : is_both c.args.decl.now.form ≡ true = (let told = c.is_both.ensures in let no = c.if-not-is_both.false in cc) in
    let count : c.len-count.result ≡ length c.args.compiled.rules.items = c.len-count.ensures ∙ c.args.compiled.rules.ok.0 in
    let more : length c.in_ok-next.next.rules.items ≡ length (c.args.compiled.rules.items ++ c.in_ok-forward.forward ∷ []) = ap (λ (m : Model). length m.rules) c.in_ok-next.ensures in
    let behind : c.len-count.result + 1 ≡ length c.in_ok-next.next.rules.items = omega (arith, count, more, length-push c.args.compiled.rules.items c.in_ok-forward.forward) in
    let first = forward-tried c.args.text.now c.args.decl.now (model_in c.args.compiled) c.len-count.result c.in_ok-forward.forward (model_in c.in_ok-next.next) count c.in_ok-forward.ensures.faultless c.in_ok-forward.ensures.rule c.in_ok-next.ensures in
    rule-behind c.args.text.now c.args.decl.now (model_in c.args.compiled) (model_in c.in_ok-next.next) true first both
    ∙ reverse-tried c.args.text.now c.args.decl.now (model_in c.in_ok-next.next) (c.len-count.result + 1) c.in_ok-reverse.reverse (model_in c.in_ok-last.last) behind c.in_ok-reverse.ensures.faultless c.in_ok-reverse.ensures.rule c.in_ok-last.ensures

pub returns-clause-after : goal.returns-clause-after
returns-clause-after c =
    let count : c.len-count.result ≡ length c.args.compiled.rules.items = c.len-count.ensures ∙ c.args.compiled.rules.ok.0 in
    let few = subst (λ n. n < 2000) count (rule_faultless c.args.text.now c.args.compiled.sig c.len-count.result c.args.decl.now (sym c.in_ok-forward.ensures.faultless)).first in
    let first = subst IsWhole (sym c.in_ok-next.ensures) (model-rule (model_in c.args.compiled) c.in_ok-forward.forward c.requires.before few c.in_ok-forward.ensures.small) in
    let more : length c.in_ok-next.next.rules.items ≡ length (c.args.compiled.rules.items ++ c.in_ok-forward.forward ∷ []) = ap (λ (m : Model). length m.rules) c.in_ok-next.ensures in
    let (half, (bad, (over, done))) = none_at c.args.text.now (reverse_causes c.args.text.now c.in_ok-next.next.sig (c.len-count.result + 1) c.args.decl.now) (sym c.in_ok-reverse.ensures.faultless) in
    let past : c.len-count.result + 1 < 2000 = not_past 2000 (c.len-count.result + 1) c.args.decl.now.start.start over in
    let few_now : length c.in_ok-next.next.rules.items < 2000 = omega (arith, count, more, past, length-push c.args.compiled.rules.items c.in_ok-forward.forward) in
    subst IsWhole (sym c.in_ok-last.ensures) (model-rule (model_in c.in_ok-next.next) c.in_ok-reverse.reverse first few_now c.in_ok-reverse.ensures.small)
