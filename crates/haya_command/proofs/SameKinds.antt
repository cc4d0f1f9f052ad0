-- Kinds of elements, compared.
use Rattle.std.proofs.Common.{◌≡◌, None, Option, Some, refl, true}
use Rattle.std.specs.Option.{option_eq}
use Rattle.haya_csl.specs.declared.item_key.ItemKey.TheVariants as key
use Rattle.haya_source.specs.contracts.kind.ElementKindPartialEq.TheImpl.{eq-value}
use Rattle.haya_source.specs.declared.kind.ElementKind.{ElementKind}
use Rattle.haya_source.specs.declared.kind.ElementKind.TheVariants as kind

-- a kind is the same as itself
pub same_as_itself : (o : Option ElementKind) → option_eq eq-value.it o o ≡ true
same_as_itself None = refl
same_as_itself (Some (kind.Items key.CitationKey)) = refl
same_as_itself (Some (kind.Items key.Id)) = refl
same_as_itself (Some kind.Members) = refl
same_as_itself (Some kind.JsonLines) = refl
same_as_itself (Some kind.Lines) = refl
same_as_itself (Some kind.Yaml) = refl
