-- Words, and what they say by themselves.
use Rattle.std.specs.Prelude.{ℕ, ◌==◌, ◌&&◌, not, Bool, false, List, [], ◌∷◌, length, filter, map, if◌then◌else◌}
use Rattle.std.specs.Char.Unicode.Alphabetic.{is_alphabetic}
use Rattle.std.specs.Char.Unicode.Lowercase.{is_lowercase}
use Rattle.std.specs.List.{slice_split}
use denote.Ref.{Bor}
use Rattle.haya_latex.specs.declared.kinds.Kind.{Kind}
use Rattle.haya_bibtex_names.specs.Signs.{is_letter, is_sign, is_verbatim, is_white}

-- characters, each with its kind
abbrev pub Text : Type 0
Text = List (ℕ × Kind)

-- the texts that are pointed to
abbrev pub texts : List (Bor Text) → List Text
texts pointers = map (λ p. p.now) pointers

abbrev pub has_chars : Text → Bool
has_chars xs = not (length xs == 0)

-- the words of a text, separated by white that nothing protects
abbrev pub words : Text → List Text
words xs = filter has_chars (slice_split is_white xs)

-- whether the first letter of a word is lower case, and no braces protect it or what is before it
abbrev pub is_low : Text → Bool
is_low [] = false
is_low (x ∷ xs) =
    if is_verbatim x.1 then false
    else if is_alphabetic x.0 then is_lowercase x.0
    else is_low xs

-- the word `and`, in any case
abbrev pub is_and : Text → Bool
is_and (a ∷ n ∷ d ∷ []) = is_letter 65 97 a && is_letter 78 110 n && is_letter 68 100 d
is_and xs = false

-- the word `others`
abbrev pub is_others : Text → Bool
is_others (o ∷ t ∷ h ∷ e ∷ r ∷ s ∷ []) =
    is_sign 111 o && is_sign 116 t && is_sign 104 h && is_sign 101 e && is_sign 114 r
    && is_sign 115 s
is_others xs = false
