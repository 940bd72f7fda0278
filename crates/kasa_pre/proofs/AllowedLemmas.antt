-- Laws of allowed patterns.
use Rattle.std.proofs.Common.{◌≡◌, ℕ, ◌∙◌, List, [], ◌∷◌}
use Rattle.std.specs.Prelude.{slice_get}
use Rattle.kasa_graph.specs.declared.pattern.Node.{Node}
use Rattle.kasa_graph.specs.declared.pattern.LinkTest.TheVariants.{To}
use Rattle.kasa_graph.specs.Pattern.{agent_at, link_test, Implies}
use Rattle.kasa_families.specs.declared.family.Family.{Family}
use Rattle.kasa_families.specs.declared.family.Family.TheVariants.{Parallel}
use Rattle.kasa_families.specs.declared.row.Local.{Local}
use Rattle.kasa_families.specs.declared.row.Row.{Row}
use Rattle.kasa_families.specs.declared.row.Row.TheVariants.{Locals, Same, Different}
use Rattle.kasa_families.specs.declared.shape.NodeSite.{NodeSite}
use Rattle.kasa_families.specs.Shape.{ColumnsAgree}
use Rattle.kasa_families.specs.Family.{shape_of, root}
use Rattle.kasa_families.proofs.ColumnLemmas.{Nth-to}
use Rattle.kasa_graph.proofs.TestLemmas.{agent_at-same}
use Rattle.kasa_pre.specs.Place.{IsPlace}
use Rattle.kasa_pre.specs.Compatible.{LocalAgrees, CanBeSame, CanBeDifferent, IsCompatible}
use Rattle.kasa_pre.proofs.Implied.{To-implied, StateImplies-trans, StatesAgree-general, LinksAgree-general, ImpliesAt-trans}
use Rattle.kasa_graph.specs.Signature.{TypeEntry}
use Rattle.kasa_families.specs.Table.{Table, IsWithin, families_of}
use Rattle.kasa_pre.specs.Allowed.{IsAllowed}

-- what tables allow is allowed by larger ones
pub IsAllowed-within : (sig : List TypeEntry) (first second : List Table) (g : List Node) → families_of second ≡ families_of first → IsWithin first second → IsAllowed sig first g → IsAllowed sig second g
IsAllowed-within sig first second g same within ok = λ family has place at.
    let c = ok family (rw same at has) place at in
    (c.0, within family c.0 c.1, c.2)

-- g is more general than h on the same nodes
module _ (g h : List Node) (general : Implies h g) where
  same_types : (n : ℕ) → agent_at h n ≡ agent_at g n
  same_types = agent_at-same g h general.types

  pub IsPlace-general : (root : List Node) (place : List ℕ) → IsPlace root g place → IsPlace root h place
  IsPlace-general root place at = record {
    count = at.count;
    different = at.different;
    types = λ n p a here is. same_types p ∙ at.types n p a here is;
    states = λ n p s here. StateImplies-trans _ _ _ (general.states p s) (at.states n p s here);
    links = λ n p s here. ImpliesAt-trans g h same_types (slice_get place) _ _ _ (general.links p s) (at.links n p s here);
  }

  LocalAgrees-general : (n s : ℕ) (l : Local) → LocalAgrees h n s l → LocalAgrees g n s l
  LocalAgrees-general n s l ok = record {
    state = StatesAgree-general _ _ _ (general.states n s) ok.state;
    link = LinksAgree-general g h same_types _ _ _ (general.links n s) ok.link;
  }

  ColumnsAgree-general : (place : List ℕ) (columns : List NodeSite) (locals : List Local) → ColumnsAgree h place columns locals → ColumnsAgree g place columns locals
  ColumnsAgree-general place [] [] ok = ok
  ColumnsAgree-general place [] (l ∷ locals) ok = ok
  ColumnsAgree-general place (s ∷ columns) [] ok = ok
  ColumnsAgree-general place (s ∷ columns) (l ∷ locals) ok =
      (Nth-to place s.node (λ n. LocalAgrees h n s.site l) (λ n. LocalAgrees g n s.site l) (λ n. LocalAgrees-general n s.site l) ok.0, ColumnsAgree-general place columns locals ok.1)

  -- a bond that g names is h's too
  bond_of_general : (n x m t : ℕ) → link_test g n x ≡ To m t → link_test h n x ≡ To m t
  bond_of_general n x m t is = To-implied h _ m t (rw is at (general.links n x))

  CanBeSame-general : (n x u y w : ℕ) → CanBeSame h n x u y w → CanBeSame g n x u y w
  CanBeSame-general n x u y w ok = record {
    one = λ m k t v first second. ok.one m k t v (bond_of_general n x m t first) (bond_of_general n u k v second);
    back_at_w = λ m t first. LinksAgree-general g h same_types _ _ _ (general.links m w) (ok.back_at_w m t (bond_of_general n x m t first));
    back_at_y = λ m t second. LinksAgree-general g h same_types _ _ _ (general.links m y) (ok.back_at_y m t (bond_of_general n u m t second));
  }

  CanBeDifferent-general : (n x u : ℕ) → CanBeDifferent h n x u → CanBeDifferent g n x u
  CanBeDifferent-general n x u ok = record {
    two = λ m k t v first second. ok.two m k t v (bond_of_general n x m t first) (bond_of_general n u k v second);
  }

  IsCompatible-general : (family : Family) (place : List ℕ) (row : Row) → IsCompatible h family place row → IsCompatible g family place row
  IsCompatible-general (Parallel a x u b y w) (n ∷ []) Same ok = CanBeSame-general n x u y w ok
  IsCompatible-general (Parallel a x u b y w) (n ∷ []) Different ok = CanBeDifferent-general n x u ok
  IsCompatible-general (Parallel a x u b y w) place row ok = absurd ok
  IsCompatible-general family place (Locals locals) ok = ColumnsAgree-general place (shape_of family).columns locals ok
  IsCompatible-general family place row ok = absurd ok

  -- what is more general than an allowed pattern on the same nodes is allowed
  pub IsAllowed-general : (sig : List TypeEntry) (tables : List Table) → IsAllowed sig tables h → IsAllowed sig tables g
  IsAllowed-general sig tables ok = λ family has place at.
      let c = ok family has place (IsPlace-general (root sig family) place at) in
      (c.0, c.1, IsCompatible-general family place c.0 c.2)
