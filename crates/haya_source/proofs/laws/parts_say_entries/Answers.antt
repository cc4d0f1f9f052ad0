use Rattle.std.proofs.Common.{ℕ, List}
use Rattle.haya_entry.specs.Tree.{Tree}
use Rattle.haya_source.specs.Elements.{Describes, IsDivided}
use Rattle.haya_source.specs.declared.kind.ElementKind.{ElementKind}
use Rattle.haya_source.specs.declared.kind.ElementKind.TheVariants.{Items, JsonLines, Lines, Members, Yaml}
use Rattle.haya_source.proofs.Divided.{HaveSaid, entries_divided, items_divided, lines_divided, members_divided}
use Rattle.haya_source.proofs.Yaml.{yaml_divided}
use Rattle.haya_source.proofs.laws.parts_say_entries.Goals as goal

pub returns : goal.returns
returns c = by
  where
    by : (kind : ElementKind) (text : List ℕ) (parts : List (List ℕ)) (library : List Tree)
        → IsDivided kind text parts → Describes kind text library → HaveSaid kind parts library
    by (Items key) text parts library laid describes =
        items_divided key text parts library
        (λ j. c.brackets_tell.ensures.array text parts j laid)
        (λ js. c.libraries_are_lists.ensures key text js library)
        (λ js. c.slices_are_elements.ensures.items text parts js laid) describes
    by Members text parts library laid describes =
        members_divided text parts library
        (λ ms. c.slices_are_elements.ensures.members text parts ms laid) describes
    by JsonLines text parts library is describes = lines_divided text parts library is describes
    by Lines text parts library are describes =
        entries_divided text parts library
        (λ entries rows. c.parts_are_entries.ensures text parts entries are rows) describes
    by Yaml text parts library are describes =
        yaml_divided text parts are.same.members library are.same.said
        (λ ms. c.parts_are_members.ensures.each text parts ms are.same) describes
