-- Blanks at the front of a text: white space and remarks.
use Rattle.std.specs.Prelude.{ℕ, ◌==◌, Bool, true, false, List, [], ◌∷◌, if◌then◌else◌}
use Rattle.haya_bibtex_text.specs.Classes.{is_white}
use Rattle.haya_bibtex_text.specs.Signs.{line_feed, percent}

-- what is left behind a blank, inside a remark or not: a remark goes on to the end of its line
abbrev pub behind_blank_in : Bool → List ℕ → List ℕ
behind_blank_in remark [] = []
behind_blank_in true (c ∷ cs) =
    if c == line_feed then behind_blank_in false cs else behind_blank_in true cs
behind_blank_in false (c ∷ cs) =
    if c == percent then behind_blank_in true cs
    else if is_white c then behind_blank_in false cs
    else c ∷ cs

abbrev pub behind_blank : List ℕ → List ℕ
behind_blank cs = behind_blank_in false cs
