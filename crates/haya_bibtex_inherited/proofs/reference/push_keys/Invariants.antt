use Rattle.std.proofs.Common.{◌≡◌, ◌++◌, map, drop}
use Rattle.std.specs.List.{flat_map}
use Rattle.haya_bibtex_inherited.specs.References.{key_in, keys_in, references_by}
use Rattle.haya_bibtex_inherited.specs.Views.{reference_view}
use Rattle.haya_bibtex_inherited.specs.declared.reference.Link.TheVariants.{Xdata}
use Rattle.haya_bibtex_inherited.proofs.reference.push_keys.Given as goal

-- the references so far, and those of the parts that are left, are those of all
abbrev pub invariant-parts : goal.invariant-parts
invariant-parts l =
    map reference_view l.references.items
    ++ references_by Xdata (flat_map key_in (map (λ t. t.now) (drop l.part-index l.part-items)))
    ≡ map reference_view l.fn.references.items ++ references_by Xdata (keys_in l.fn.text)
