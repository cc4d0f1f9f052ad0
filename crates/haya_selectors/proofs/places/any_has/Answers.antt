use Rattle.std.proofs.Common.{rules, ◌∙◌, sym}
use Rattle.std.proofs.lemmas.Iterator.{YieldsList-from_slice}
use Rattle.std.proofs.lemmas.Iterator.Search.{any_from_yields_List}
use Rattle.haya_entry.specs.Names.{has_all}
use Rattle.haya_entry.specs.Tree.{view}
use Rattle.haya_selectors.proofs.Kept.{any-map}
use Rattle.haya_selectors.proofs.places.any_has.Goals as goal

pub returns : goal.returns
returns c =
    let has = has_all c.args.names.now in
    any_from_yields_List (λ e. has (view e)) _ _ c.any.result c.any.ensures.ran (YieldsList-from_slice c.args.parents.now c.iter.ensures.rest) (λ x b q k. search rules)
    ∙ sym (any-map has view c.args.parents.now)
