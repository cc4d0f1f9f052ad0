-- The table of persons.
use Rattle.std.specs.Prelude.{ℕ, ◌++◌, List, [], ◌∷◌, map, Option, None, Some, option_and_then, option_map, codes, if◌then◌else◌}
use Rattle.std.specs.Map.{lookup}
use Rattle.std.specs.Str.{bytes_eq, chars, trim}
use Rattle.haya_bibtex_fields.specs.FieldTexts.{unless_empty}
use Rattle.haya_bibtex_inherited.specs.Entries.{FieldBytes, text_of}
use Rattle.haya_bibtex_names.specs.Lists.{odd_words, persons}
use Rattle.haya_latex.specs.Texts.{name_unknown}
use Rattle.haya_people.specs.Person.{PersonView}
use Rattle.haya_people.specs.Roles.{RoleView, RolesView, role_view}
use Rattle.haya_people.specs.declared.role.PersonRole.TheVariants as role
use Rattle.haya_bibtex_entries.specs.Drafts.{RowView}
use Rattle.haya_bibtex_entries.specs.Kinds.{takes_authors, takes_editors}
use Rattle.haya_bibtex_entries.specs.Rows.{commands, host_level, row}
use Rattle.haya_bibtex_entries.specs.Values.{affiliated_value, authors_value, editors_value}
use Rattle.haya_bibtex_entries.specs.declared.draft.Level.{Level}
use Rattle.haya_bibtex_entries.specs.declared.draft.Level.TheVariants as level
use Rattle.haya_bibtex_entries.specs.declared.kinds.Host.{Host}
use Rattle.haya_bibtex_entries.specs.declared.kinds.Kind.{Kind}

-- the persons of a list of names, and what is passed over in it: commands that aren't known, and
-- words in front of a sign `=` that name no part of a name, which are counted with it
abbrev pub persons_in : List ℕ → List PersonView
persons_in text = persons (chars text)

abbrev pub passed_in_names : List ℕ → List (List ℕ)
passed_in_names text =
    commands (name_unknown (chars text)) ++ map (λ w. w ++ codes "=") (odd_words (chars text))

-- ---- authors

abbrev pub authors_row : Level → List ℕ → RowView
authors_row l text =
    row l (option_map (λ ps. authors_value ps) (unless_empty (persons_in text)))
    (passed_in_names text)

-- the authors of the host, where it has some of its own
abbrev pub host_authors_row : Option Host → List FieldBytes → Option RowView
host_authors_row None fs = None
host_authors_row (Some h) fs =
    if takes_authors h.takes then
    option_map (authors_row (level.Host h.entry)) (text_of fs (codes "bookauthor"))
    else None

-- ---- editors, and persons of other roles

-- the types of editors that are roles; any other is as none
abbrev pub later_roles : List (List ℕ × RoleView)
later_roles =
    (codes "commentator", role_view role.Commentator)
    ∷ (codes "annotator", role_view role.Annotator)
    ∷ (codes "illustrator", role_view role.Illustrator)
    ∷ (codes "composer", role_view role.Composer)
    ∷ (codes "narrator", role_view role.Narrator)
    ∷ []

abbrev pub editor_roles : List (List ℕ × RoleView)
editor_roles =
    (codes "compiler", role_view role.Compiler)
    ∷ (codes "founder", role_view role.Founder)
    ∷ (codes "collaborator", role_view role.Collaborator)
    ∷ (codes "organizer", role_view role.Organizer)
    ∷ (codes "director", role_view role.Director)
    ∷ (codes "producer", role_view role.Producer)
    ∷ (codes "translator", role_view role.Translator)
    ∷ later_roles

abbrev pub role_named : List ℕ → Option RoleView
role_named name = lookup (bytes_eq name) editor_roles

-- the role of the persons in a field, by the text of its type
unfoldable pub role_in : Option (List ℕ) → Option RoleView
role_in text = option_and_then (λ t. role_named (trim t)) text

-- persons of no role are editors
abbrev pub editors_by : Option RoleView → Option (List ℕ) → List PersonView
editors_by None (Some text) = persons_in text
editors_by r t = []

abbrev pub editors_passed_by : Option RoleView → Option (List ℕ) → List (List ℕ)
editors_passed_by None (Some text) = passed_in_names text
editors_passed_by r t = []

-- editors, and what is passed over
pub record Editors : Type 0 where
  pub persons : List PersonView
  pub passed_over : List (List ℕ)

-- those of a field, behind others
abbrev pub with_editors : List FieldBytes → List ℕ → List ℕ → Editors → Editors
with_editors fs name kind e = record {
  persons = e.persons ++ editors_by (role_in (text_of fs kind)) (text_of fs name);
  passed_over = e.passed_over ++ editors_passed_by (role_in (text_of fs kind)) (text_of fs name);
}

-- all that are editors, in one list
abbrev pub all_editors : List FieldBytes → Editors
all_editors fs =
    with_editors fs (codes "editorc") (codes "editorctype")
    (with_editors fs (codes "editorb") (codes "editorbtype")
    (with_editors fs (codes "editora") (codes "editoratype")
    (with_editors fs (codes "editor") (codes "editortype")
    (record { persons = []; passed_over = [] }))))

abbrev pub editors_at : Level → Editors → RowView
editors_at l e =
    row l (option_map (λ ps. editors_value ps) (unless_empty e.persons)) e.passed_over

abbrev pub editors_row : Kind → List FieldBytes → RowView
editors_row k fs = editors_at (host_level takes_editors k) (all_editors fs)

-- persons of a role, if there are any
abbrev pub of_role : RoleView → List PersonView → List RolesView
of_role r [] = []
of_role r (p ∷ ps) = record { names = p ∷ ps; role = r } ∷ []

abbrev pub affiliated_by : Option RoleView → Option (List ℕ) → List RolesView
affiliated_by (Some r) (Some text) = of_role r (persons_in text)
affiliated_by r t = []

abbrev pub affiliated_passed_by : Option RoleView → Option (List ℕ) → List (List ℕ)
affiliated_passed_by (Some r) (Some text) = passed_in_names text
affiliated_passed_by r t = []

-- persons of a role and what is passed over
pub record Affiliated : Type 0 where
  pub lists : List RolesView
  pub passed_over : List (List ℕ)

-- those of a field, behind others
abbrev pub with_affiliated : Option RoleView → Option (List ℕ) → Affiliated → Affiliated
with_affiliated r text a = record {
  lists = a.lists ++ affiliated_by r text;
  passed_over = a.passed_over ++ affiliated_passed_by r text;
}

abbrev pub with_typed : List FieldBytes → List ℕ → List ℕ → Affiliated → Affiliated
with_typed fs name kind a = with_affiliated (role_in (text_of fs kind)) (text_of fs name) a

abbrev pub with_role : List FieldBytes → List ℕ → RoleView → Affiliated → Affiliated
with_role fs name r a = with_affiliated (Some r) (text_of fs name) a

-- the editors of a type that is a role, in order
abbrev pub typed_editors : List FieldBytes → Affiliated
typed_editors fs =
    with_typed fs (codes "editorc") (codes "editorctype")
    (with_typed fs (codes "editorb") (codes "editorbtype")
    (with_typed fs (codes "editora") (codes "editoratype")
    (with_typed fs (codes "editor") (codes "editortype") (record { lists = []; passed_over = [] }))))

abbrev pub with_writers : List FieldBytes → Affiliated → Affiliated
with_writers fs a =
    with_role fs (codes "introduction") (role_view role.Introduction)
    (with_role fs (codes "foreword") (role_view role.Foreword)
    (with_role fs (codes "afterword") (role_view role.Afterword)
    (with_role fs (codes "translator") (role_view role.Translator) a)))

abbrev pub with_others : List FieldBytes → Affiliated → Affiliated
with_others fs a =
    with_role fs (codes "director") (role_view role.Director)
    (with_role fs (codes "holder") (role_view role.Holder)
    (with_role fs (codes "commentator") (role_view role.Commentator)
    (with_role fs (codes "annotator") (role_view role.Annotator) a)))

-- all persons with a role: editors of a type that is one, and then those of the other fields
abbrev pub all_affiliated : List FieldBytes → Affiliated
all_affiliated fs = with_others fs (with_writers fs (typed_editors fs))

abbrev pub affiliated_of : Affiliated → RowView
affiliated_of a =
    row level.Own (option_map (λ ls. affiliated_value ls) (unless_empty a.lists)) a.passed_over

abbrev pub affiliated_row : List FieldBytes → RowView
affiliated_row fs = affiliated_of (all_affiliated fs)

abbrev pub people_rows : Kind → List FieldBytes → List (Option RowView)
people_rows k fs =
    option_map (authors_row level.Own) (text_of fs (codes "author"))
    ∷ host_authors_row k.host fs
    ∷ Some (editors_row k fs)
    ∷ Some (affiliated_row fs)
    ∷ []
