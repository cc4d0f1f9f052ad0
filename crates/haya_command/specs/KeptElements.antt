-- The elements that the entries of a library were read from, as they are kept.
use Rattle.std.specs.Prelude.{◌≡◌, List, map}
use Rattle.hayagriva.specs.Library.{from_entries}
use Rattle.hayagriva.specs.Tree.{Tree}
use Rattle.haya_source.specs.Elements.{Element, SayEntries, entries_of, parts_of}
use Rattle.haya_source.specs.Places.{ArePlacesOf}
use Rattle.haya_source.specs.declared.kind.ElementKind.{ElementKind}
use Rattle.haya_command.specs.declared.sources.Elements.{Elements}
use Rattle.haya_command.specs.declared.sources.Elements.TheVariants.{InOrder, Keyed}

-- these elements are kept: in order, those of a text that the library was read from, or under the
-- keys of their entries
abbrev pub AreKept : ElementKind → List Element → List Tree → Elements → Type 0
AreKept kind es library (InOrder parts) =
    (map (λ s. s.now) parts.items ≡ parts_of es) × SayEntries kind es
    × (library ≡ from_entries (entries_of es))
AreKept kind es library (Keyed places) = ArePlacesOf es places
