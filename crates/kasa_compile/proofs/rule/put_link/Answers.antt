use Rattle.std.proofs.Common.{◌≡◌, ◌≢◌, ℕ, List, refl, rules}
use Rattle.kasa_graph.specs.declared.pattern.LinkTest.{LinkTest}
use Rattle.kasa_graph.specs.declared.pattern.LinkTest.TheVariants.{Any, Free, Bound, Partner, To}
use Rattle.kasa_graph.specs.declared.pattern.Node.{Node}
use Rattle.kasa_graph.specs.Pattern.{link_test, with_link, with_bond}
use Rattle.kasa_compile.specs.Building.{with_link_asked, bond_if}
use Rattle.kasa_compile.proofs.rule.put_link.Goals as goal

bond_put : (g h : List Node) (n s m t : ℕ) (o test : LinkTest) → test ≡ To m t → o ≡ link_test g n s → o ≡ Any → h ≡ with_bond g n s m t → h ≡ with_link_asked g n s test
unfolding with_link_asked
bond_put g h n s m t o test is at any e = rw (is, ← at, any) e

bond_stands : (g : List Node) (n s m t : ℕ) (o test : LinkTest) → test ≡ To m t → o ≡ link_test g n s → o ≢ Any → g ≡ with_link_asked g n s test
unfolding with_link_asked
bond_stands g n s m t o test is at some = rw (is, ← at) (by_link o some)
  where
    by_link : (o : LinkTest) → o ≢ Any → g ≡ bond_if o g n s m t
    by_link Any some = absurd (some refl)
    by_link Free some = refl
    by_link Bound some = refl
    by_link (Partner b y) some = refl
    by_link (To k u) some = refl

plain_put : (g h : List Node) (n s : ℕ) (test : LinkTest) → ((m t : ℕ) → test ≢ To m t) → h ≡ with_link g n s test → h ≡ with_link_asked g n s test
unfolding with_link_asked
plain_put g h n s Any plain e = e
plain_put g h n s Free plain e = e
plain_put g h n s Bound plain e = e
plain_put g h n s (Partner b y) plain e = e
plain_put g h n s (To m t) plain e = absurd (plain m t refl)

pub returns-then-eq : goal.returns-then-eq
returns-then-eq c = bond_put c.args.left.now c.join.new.self c.args.node c.args.site c.in-To.other c.in-To.at c.link.result c.args.test c.in-To.is c.link.ensures (search rules) c.join.ensures

pub returns-else-eq : goal.returns-else-eq
returns-else-eq c = bond_stands c.args.left.now c.args.node c.args.site c.in-To.other c.in-To.at c.link.result c.args.test c.in-To.is c.link.ensures (search rules)

pub returns-in_default : goal.returns-in_default
returns-in_default c = plain_put c.args.left.now c.set_link.new.self c.args.node c.args.site c.args.test (λ m t e. c.in_default.not-To _ _ e) c.set_link.ensures
