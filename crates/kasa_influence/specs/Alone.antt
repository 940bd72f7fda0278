-- One node of a pattern by itself.
use Rattle.std.specs.Prelude.{List, [], ◌∷◌, map}
use Rattle.std.specs.Option.{option_map_or}
use Rattle.kasa_graph.specs.declared.pattern.Node.{Node}
use Rattle.kasa_graph.specs.declared.pattern.SiteTests.{SiteTests}
use Rattle.kasa_graph.specs.declared.pattern.LinkTest.{LinkTest}
use Rattle.kasa_graph.specs.declared.pattern.LinkTest.TheVariants.{Bound, Partner, To}
use Rattle.kasa_graph.specs.Pattern.{agent_at}

-- a test of g that names no node of g
abbrev pub unnamed : List Node → LinkTest → LinkTest
unnamed g (To m t) = option_map_or (λ b. Partner b t) (agent_at g m) Bound
unnamed g test = test

abbrev pub unnamed_site : List Node → SiteTests → SiteTests
unnamed_site g x = record x { link = unnamed g x.link }

-- a node of g by itself, where a bond to a node asks for the partner's type
abbrev pub alone : List Node → Node → List Node
alone g node = record node { sites = map (unnamed_site g) node.sites } ∷ []
