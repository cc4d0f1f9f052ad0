-- The kinds of elements that are asked as they come.
use Rattle.std.specs.Prelude.{Option, None, Some}
use Rattle.haya_source.specs.declared.kind.ElementKind.{ElementKind}
use Rattle.haya_source.specs.declared.kind.ElementKind.TheVariants as element
use Rattle.haya_source_stream.specs.declared.kind.StreamedKind.{StreamedKind}
use Rattle.haya_source_stream.specs.declared.kind.StreamedKind.TheVariants.{Items, Members, JsonLines, Lines}

-- the kind of elements
abbrev pub element_kind : StreamedKind → ElementKind
element_kind (Items by) = element.Items by
element_kind Members = element.Members
element_kind JsonLines = element.JsonLines
element_kind Lines = element.Lines

-- the kind that elements are of, where they are asked as they come
abbrev pub streamed : ElementKind → Option StreamedKind
streamed (element.Items by) = Some (Items by)
streamed element.Members = Some Members
streamed element.JsonLines = Some JsonLines
streamed element.Lines = Some Lines
streamed _ = None
