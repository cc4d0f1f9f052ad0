use Rattle.std.proofs.Common.{ℕ, List, [], ◌++◌, append-nil, ap, sym, subst, ◌∙◌}
use Rattle.std.specs.List.{concat}
use Rattle.haya_json_elements.specs.declared.place.Brackets.TheVariants.{Curly, Square}
use Rattle.haya_slices.specs.Layout.{IsPartOf}
use Rattle.haya_source.specs.Elements.{IsDivided, parts_of}
use Rattle.haya_source.specs.declared.kind.ElementKind.{ElementKind}
use Rattle.haya_source.specs.declared.kind.ElementKind.TheVariants.{Items, JsonLines, Lines, Members, Yaml}
use Rattle.haya_source.proofs.PartsOf.{AreParts, joined_are_parts, lines_are_parts}
use Rattle.haya_source.proofs.Says.{on_parts}
use Rattle.haya_source.proofs.laws.elements_are_parts.Goals as goal

pub returns : goal.returns
returns c kind text es are = on_parts (λ part. IsPartOf part text) es (by kind (parts_of es) are.divided)
  where
    by : (kind : ElementKind) (parts : List (List ℕ)) → IsDivided kind text parts → AreParts text parts
    by (Items key) parts laid = c.slices_are_parts.ensures Square text parts laid
    by Members parts laid = c.slices_are_parts.ensures Curly text parts laid
    by JsonLines parts is = subst (AreParts text) (sym is) (lines_are_parts text)
    by Lines parts are =
        joined_are_parts text are.front [] parts
        (are.is ∙ ap (λ t. are.front ++ t) (sym (append-nil (concat parts))))
    by Yaml parts are =
        joined_are_parts text are.divided.front are.divided.back parts are.divided.is
