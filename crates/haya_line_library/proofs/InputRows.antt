-- The words of the program's input, at worked rows.
use Rattle.std.proofs.Common.{◌≡◌, [], ◌∷◌, None, Some, Err, refl}
use Rattle.std.specs.Prelude.{codes}
use Rattle.std.specs.Str.Lines.{lines}
use Rattle.hayagriva.specs.declared.types.EntryType.TheVariants.{Article, Blog, Book, Periodical, Web}
use Rattle.hayagriva.specs.Tree.{Tree, new_entry, with_fields, with_parents, with_keyed_serial_number}
use Rattle.haya_lines.specs.declared.error.LineError.TheVariants.{Shape, Depth, UnknownType, UnknownField}
use Rattle.haya_lines.specs.Line.{depth_read, name_and_value}
use Rattle.haya_line_library.specs.Input.{Describes, rows_read}
use Rattle.haya_line_library.specs.Parts.{AreWholeLines}

abbrev in_english : Tree → Tree
in_english = with_fields (λ f. record f { language = Some (codes "en") })

abbrev site : Tree
site = in_english (new_entry (codes "site") Web)

abbrev journal : Tree
journal = with_parents (site ∷ []) (new_entry (codes "journal") Periodical)

abbrev paper : Tree
paper = with_parents (journal ∷ new_entry (codes "book") Book ∷ []) (with_keyed_serial_number (codes "doi") (codes "1=a") (new_entry (codes "paper") Article))

abbrev note : Tree
note = new_entry (codes "note") Blog

-- a paper in a journal, which appears in a site, and in a book; and a note
two_entries : Describes
    (codes "0\tpaper\tarticle\tdoi=1=a\r\n\n1\tjournal\tPeriodical\n2\tsite\tweb\tlanguage=de\tlanguage=en\n\r\n1\tbook\tbook\n0\tnote\tblog")
    (paper ∷ note ∷ [])
two_entries = record { entries = paper ∷ note ∷ []; rows = refl; of_entries = refl }

-- the second entry with the key takes the first one's place
again : Describes (codes "0\ta\tbook\n0\tb\tweb\n0\ta\tblog\n") (new_entry (codes "a") Blog ∷ new_entry (codes "b") Web ∷ [])
again = record { entries = new_entry (codes "a") Book ∷ new_entry (codes "b") Web ∷ new_entry (codes "a") Blog ∷ []; rows = refl; of_entries = refl }

no_lines : Describes [] []
no_lines = record { entries = []; rows = refl; of_entries = refl }

whole_lines : AreWholeLines [] × AreWholeLines (codes "0\ta\tbook\n\n")
whole_lines = (refl, refl)

cut_line : AreWholeLines (codes "0\ta\tbook") → ⊥
cut_line h = cc

-- the first line with a fault decides, and empty lines are counted
faults :
    (rows_read 1 0 (lines (codes "0\ta\tbook\n2\tb\tweb\n0\tc")) ≡ Err (2, Depth))
    × (rows_read 1 0 (lines (codes "\n\r\n1\ta\tbook")) ≡ Err (3, Depth))
    × (rows_read 1 0 (lines (codes "0\ta\tbook\n0\tb\n")) ≡ Err (2, Shape))
    × (rows_read 1 0 (lines (codes "0\ta\tBOOK\tx")) ≡ Err (1, UnknownType))
    × (rows_read 1 0 (lines (codes "0\ta\tbook\t=b\tx")) ≡ Err (1, UnknownField))
faults = (refl, refl, refl, refl, refl)

depths :
    (depth_read 500 (codes "500") ≡ Some 500)
    × (depth_read 501 (codes "501") ≡ None)
    × (depth_read 3 (codes "4") ≡ None)
    × (depth_read 3 (codes "003") ≡ Some 3)
    × (depth_read 3 (codes "0003") ≡ None)
    × (depth_read 3 [] ≡ None)
depths = (refl, refl, refl, refl, refl, refl)

names :
    (name_and_value (codes "doi=x=y") ≡ Some (codes "doi", codes "x=y"))
    × (name_and_value (codes "=") ≡ Some ([], []))
    × (name_and_value (codes "doi") ≡ None)
names = (refl, refl, refl)
