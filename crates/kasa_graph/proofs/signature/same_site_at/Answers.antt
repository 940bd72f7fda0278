use Rattle.std.proofs.Common.{◌≡◌, ℕ, Bool, true, false, ◌&&◌, List, map, Some, slice_get, option_map, Vec, sym, ap, ◌∙◌}
use Rattle.std.specs.Global.{Global}
use Rattle.std.specs.Cmp.Lexicographic.{pointwise}
use Rattle.std.specs.Cmp.Derive.Mapped.{pointwise-map}
use Rattle.std.proofs.lemmas.Option.{slice_get-map}
use Rattle.kasa_graph.specs.Signature.{SiteEntry}
use Rattle.kasa_graph.specs.SignatureView.{StateSet, name_bytes, site_entry}
use Rattle.kasa_graph.specs.SameNames.{same_name}
use Rattle.kasa_graph.proofs.signature.same_site_at.Goals as goal

-- the site of an entry
told : (es : List (Vec ℕ Global × StateSet)) (s : ℕ) (e : Vec ℕ Global × StateSet) (x : SiteEntry) → slice_get es s ≡ Some e → slice_get (map site_entry es) s ≡ Some x → x ≡ site_entry e
told es s e x h at =
    let found : slice_get (map site_entry es) s ≡ Some (site_entry e) = slice_get-map site_entry es s ∙ ap (option_map site_entry) h in
    cc

both : (a b r : Bool) → true ≡ a → r ≡ b → r ≡ (a && b)
both true b r e f = f
both false b r e f = absurd cc

first : (a b r : Bool) → false ≡ a → r ≡ a → r ≡ (a && b)
first true b r e f = absurd cc
first false b r e f = f

pub returns-then-eq : goal.returns-then-eq
returns-then-eq c x y at too =
    let name = c.in-Some.name.now in
    let states = c.in-Some.states.now in
    let other = c.in-Some-get_index.other.now in
    let others = c.in-Some-get_index.others.now in
    let one = told c.args.sites.now.entries c.args.site (name, states) x (sym c.in-Some.ensures.entry) at in
    let two = told c.args.others.now.entries c.args.site (other, others) y (sym c.in-Some-get_index.ensures.entry) too in
    let same : c.eq-then-eq.result ≡ pointwise same_name (map name_bytes states.keys) (map name_bytes others.keys) =
    c.eq-then-eq.ensures ∙ rw (c.as_slice.ensures.keys, c.as_slice-then-eq.ensures.keys) (sym (pointwise-map name_bytes same_name states.keys others.keys)) in
    rw (one, two) (both _ _ _ c.if-eq.ensures same)

pub returns-else-eq : goal.returns-else-eq
returns-else-eq c x y at too =
    let one = told c.args.sites.now.entries c.args.site (c.in-Some.name.now, c.in-Some.states.now) x (sym c.in-Some.ensures.entry) at in
    let two = told c.args.others.now.entries c.args.site (c.in-Some-get_index.other.now, c.in-Some-get_index.others.now) y (sym c.in-Some-get_index.ensures.entry) too in
    rw (one, two) (first _ _ _ c.if-eq.ensures c.eq.ensures)
