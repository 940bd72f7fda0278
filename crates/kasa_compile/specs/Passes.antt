-- The passes over the names of agents.
use Rattle.std.specs.Prelude.{ℕ, List}
use Rattle.kasa_graph.specs.Signature.{TypeEntry}
use Rattle.kasa_syntax.specs.declared.agents.AgentText.{AgentText}
use Rattle.kasa_compile.specs.declared.names.NamePass.{NamePass}
use Rattle.kasa_compile.specs.declared.names.NamePass.TheVariants.{Types, Sites, States, Twice}
use Rattle.kasa_compile.specs.Names.{unknown_types, unknown_sites, unknown_states, sites_twice}

abbrev pub name_faults : NamePass → List ℕ → List TypeEntry → AgentText → List ℕ
name_faults Types text sig a = unknown_types text sig a
name_faults Sites text sig a = unknown_sites text sig a
name_faults States text sig a = unknown_states text sig a
name_faults Twice text sig a = sites_twice text a
