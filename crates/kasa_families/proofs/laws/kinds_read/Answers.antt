use Rattle.std.proofs.Common.{refl, [], ◌∷◌}
use Rattle.kasa_graph.specs.Pattern.{blank_node}
use Rattle.kasa_families.proofs.KindLemmas.{with_columns-view, IsRow-view, IsCompatible-view}
use Rattle.kasa_families.proofs.laws.kinds_read.Goals as goal

pub returns : goal.returns
returns c = record {
  view_root = λ sig a sites. refl;
  view_row = λ sig a sites locals. with_columns-view (blank_node sig a ∷ []) 0 sites locals;
  view_valid = λ sig a sites locals. IsRow-view sig a sites locals;
  view_agrees = λ g a n sites locals. IsCompatible-view g a n sites locals;
  across_root = λ sig a x p b y q. refl;
  across_row = λ sig a x p b y q l k. refl;
  across_valid = λ sig a x p b y q l k. (λ h. (h.0, h.1.0), λ h. (h.0, (h.1, tt)));
  chain_root = λ sig a x p b y z c w q. refl;
  chain_row = λ sig a x p b y z c w q l k. refl;
  chain_valid = λ sig a x p b y z c w q l k. (λ h. (h.0, h.1.0), λ h. (h.0, (h.1, tt)));
}
