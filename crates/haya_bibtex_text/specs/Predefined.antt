-- The strings that are defined from the start: the months and the journals of the standard styles.
use Rattle.std.specs.Prelude.{ℕ, List, [], ◌∷◌, ◌++◌, Some, None, codes, if◌then◌else◌}
use Rattle.std.specs.Borrow.{Bor}
use Rattle.std.specs.Str.{bytes_eq}
use Rattle.haya_bibtex_text.specs.Strings.{Strings}

-- names and their texts
abbrev pub Table : Type 0
Table = List (List ℕ × List ℕ)

-- the text that a table has for a name
abbrev pub text_under : Table → Strings
text_under [] n = None
text_under (r ∷ rs) n = if bytes_eq n r.0 then Some r.1 else text_under rs n

-- the rows of the code's tables by value
abbrev pub row_view : Bor (List ℕ) × Bor (List ℕ) → List ℕ × List ℕ
row_view r = (r.0.now, r.1.now)

-- the months
abbrev pub months : Table
months =
    (codes "jan", codes "January")
    ∷ (codes "feb", codes "February")
    ∷ (codes "mar", codes "March")
    ∷ (codes "apr", codes "April")
    ∷ (codes "may", codes "May")
    ∷ (codes "jun", codes "June")
    ∷ (codes "jul", codes "July")
    ∷ (codes "aug", codes "August")
    ∷ (codes "sep", codes "September")
    ∷ (codes "oct", codes "October")
    ∷ (codes "nov", codes "November")
    ∷ (codes "dec", codes "December") ∷ []

-- the journals
abbrev pub journals : Table
journals =
    (codes "acmcs", codes "ACM Computing Surveys")
    ∷ (codes "acta", codes "Acta Informatica")
    ∷ (codes "cacm", codes "Communications of the ACM")
    ∷ (codes "ibmjrd", codes "IBM Journal of Research and Development")
    ∷ (codes "ibmsj", codes "IBM Systems Journal")
    ∷ (codes "ieeese", codes "IEEE Transactions on Software Engineering")
    ∷ (codes "ieeetc", codes "IEEE Transactions on Computers")
    ∷ (codes "ieeetcad", codes "IEEE Transactions on Computer-Aided Design of Integrated Circuits")
    ∷ (codes "ipl", codes "Information Processing Letters")
    ∷ (codes "jacm", codes "Journal of the ACM")
    ∷ (codes "jcss", codes "Journal of Computer and System Sciences")
    ∷ (codes "scp", codes "Science of Computer Programming")
    ∷ (codes "sicomp", codes "SIAM Journal on Computing")
    ∷ (codes "tocs", codes "ACM Transactions on Computer Systems")
    ∷ (codes "tods", codes "ACM Transactions on Database Systems")
    ∷ (codes "tog", codes "ACM Transactions on Graphics")
    ∷ (codes "toms", codes "ACM Transactions on Mathematical Software")
    ∷ (codes "toois", codes "ACM Transactions on Office Information Systems")
    ∷ (codes "toplas", codes "ACM Transactions on Programming Languages and Systems")
    ∷ (codes "tcs", codes "Theoretical Computer Science") ∷ []

abbrev pub predefined_table : Table
predefined_table = months ++ journals

abbrev pub predefined_strings : Strings
predefined_strings = text_under predefined_table
