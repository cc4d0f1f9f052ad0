-- The elements of texts of each kind.
use Rattle.std.proofs.Common.{◌≡◌, ℕ, List, Ok, Some, sym, ap, ◌∙◌}
use Rattle.std.specs.Prelude.{Contains}
use Rattle.std.specs.List.{AllByRecursion, AllZip}
use Rattle.std.specs.Str.Lines.{lines}
use Rattle.json.specs.Json.{Items, Json, Members, array, document, object}
use Rattle.haya_csl.specs.ItemLines.{IsItemLineOf, Lists as ListsItems}
use Rattle.haya_csl.specs.Libraries.{DescribesAsCsl}
use Rattle.haya_csl.specs.declared.item_key.ItemKey.{ItemKey}
use Rattle.haya_json_elements.specs.Elements.{AreItems, AreMembers, nonempty_lines}
use Rattle.haya_entry.specs.Tree.{Tree, trees}
use Rattle.hayagriva.specs.Library.{AreDistinct, from_entries}
use Rattle.hayagriva.proofs.Parts.{from_entries-distinct}
use Rattle.haya_line_library.specs.Input as input
use Rattle.haya_line_library.specs.Input.{rows_of_all, rows_read}
use Rattle.haya_json.specs.JsonLines as json_lines
use Rattle.haya_json.specs.Libraries as json
use Rattle.haya_json.specs.MemberLines.{IsMemberLineOf}
use Rattle.haya_json.proofs.MemberLists.{keys_of_library, library_of_list, list_of_library}
use Rattle.haya_line_slices.specs.EntryLines.{IsEntryOf}
use Rattle.haya_source.specs.Elements.{AreElementsOf, Element, SayEntries, Says, entries_of, parts_of}
use Rattle.haya_source.specs.declared.kind.ElementKind.{ElementKind}
use Rattle.haya_source.specs.declared.kind.ElementKind.TheVariants.{Items as ItemsKind, JsonLines, Lines as LinesKind, Members as MembersKind}
use Rattle.haya_source.proofs.Says.{Paired, all_contained, items_said, members_said, of_parts, on_parts, paired, say_items, say_members}

-- the elements that parts are, where the library is that of their entries
abbrev pub HaveSaid : ElementKind → List (List ℕ) → List Tree → Type 0
HaveSaid kind parts library =
    (es : List Element) × (parts_of es ≡ parts) × SayEntries kind es
    × (library ≡ from_entries (entries_of es))

pub said : (kind : ElementKind) (parts : List (List ℕ)) (entries library : List Tree)
    → Paired (Says kind) parts entries → library ≡ from_entries entries → HaveSaid kind parts library
said kind parts entries library p e =
    (p.elements, p.parts_are, p.each, e ∙ ap from_entries (sym p.entries_are))

-- ---- of items

pub items_divided : (by : ItemKey) (text : List ℕ) (parts : List (List ℕ)) (library : List Tree)
    → ((j : Json) → document text ≡ Some j → (js : Items) × (j ≡ array js))
    → ((js : Items) → document text ≡ Some (array js) → DescribesAsCsl by text library
    → (entries : List Tree) × (library ≡ from_entries entries) × ListsItems by text entries)
    → ((js : Items) → document text ≡ Some (array js) → AreItems parts js)
    → DescribesAsCsl by text library → HaveSaid (ItemsKind by) parts library
items_divided by text parts library is_array lists are describes =
    let a = is_array describes.value describes.parsed in
    let parsed = describes.parsed ∙ ap Some a.1 in
    let l = lists a.0 parsed describes in
    said (ItemsKind by) parts l.0 library
    (paired (IsItemLineOf by) parts l.0
    (say_items by parts l.2.items l.0 (are l.2.items l.2.parsed) l.2.unique l.2.read)) l.1

-- ---- of members

pub members_divided : (text : List ℕ) (parts : List (List ℕ)) (library : List Tree)
    → ((ms : Members) → document text ≡ Some (object ms) → AreMembers parts ms)
    → json.Describes text library → HaveSaid MembersKind parts library
members_divided text parts library are describes =
    let l = list_of_library text library describes in
    said MembersKind parts library library
    (paired IsMemberLineOf parts library
    (say_members parts l.members library (are l.members l.parsed) l.unique l.read))
    (sym (from_entries-distinct library (keys_of_library text library describes)))

-- ---- of lines

pub lines_divided : (text : List ℕ) (parts : List (List ℕ)) (library : List Tree)
    → parts ≡ nonempty_lines (lines text) → json_lines.Describes text library
    → HaveSaid JsonLines parts library
lines_divided text parts library is describes =
    let p = paired json_lines.IsLineOf (nonempty_lines (lines text)) describes.entries
    describes.listed in (
      p.elements,
      p.parts_are ∙ sym is,
      p.each,
      describes.of_entries ∙ ap from_entries (sym p.entries_are),
    )

-- ---- of entries in lines

pub entries_divided : (text : List ℕ) (parts : List (List ℕ)) (library : List Tree)
    → ((entries : List Tree) → rows_read 1 0 (lines text) ≡ Ok (rows_of_all 0 (trees entries))
    → AllZip IsEntryOf parts entries)
    → input.Describes text library → HaveSaid LinesKind parts library
entries_divided text parts library are describes =
    said LinesKind parts describes.entries library
    (paired IsEntryOf parts describes.entries (are describes.entries describes.rows))
    describes.of_entries

-- ---- what is printed

pub items_back : (by : ItemKey) (text printed : List ℕ) (es picked : List Element)
    → ((js : Items) → AreItems (parts_of picked) js → document printed ≡ Some (array js))
    → ((entries : List Tree) → ListsItems by printed entries → AreDistinct entries
    → DescribesAsCsl by printed entries)
    → AreElementsOf (ItemsKind by) text es → AllByRecursion (Contains es) picked
    → AreDistinct (entries_of picked) → DescribesAsCsl by printed (entries_of picked)
items_back by text printed es picked parses describes are among distinct =
    let s = items_said by picked (all_contained (λ e. IsItemLineOf by e.0 e.1) es picked among are.each) in
    describes (entries_of picked)
    (record { items = s.items; parsed = parses s.items s.are; unique = s.unique; read = s.say })
    distinct

pub members_back : (text printed : List ℕ) (es picked : List Element)
    → ((ms : Members) → AreMembers (parts_of picked) ms → document printed ≡ Some (object ms))
    → AreElementsOf MembersKind text es → AllByRecursion (Contains es) picked
    → AreDistinct (entries_of picked) → json.Describes printed (entries_of picked)
members_back text printed es picked parses are among distinct =
    let s = members_said picked (all_contained (λ e. IsMemberLineOf e.0 e.1) es picked among are.each) in
    library_of_list printed (entries_of picked)
    (record { members = s.members; parsed = parses s.members s.are; unique = s.unique; read = s.say })
    distinct

-- the picked parts are elements, as all of the text are
pub picked_elements : (Q : List ℕ → Type 0) (es picked : List Element)
    → AllByRecursion (Contains es) picked → AllByRecursion Q (parts_of es)
    → AllByRecursion Q (parts_of picked)
picked_elements Q es picked among h =
    of_parts Q picked (all_contained (λ e. Q e.0) es picked among (on_parts Q es h))
