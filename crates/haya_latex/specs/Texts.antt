-- What the text of a value says, and what names say.
use Rattle.std.specs.Prelude.{ℕ, ◌==◌, ◌&&◌, not, Bool, true, false, List, [], ◌∷◌, map, reverse, if◌then◌else◌, Option, None, Some}
use Rattle.std.specs.Char.{encode_utf8}
use Rattle.haya_latex.specs.Reading.{read_all}
use Rattle.haya_latex.specs.declared.kinds.Kind.{Kind}
use Rattle.haya_latex.specs.declared.kinds.Kind.TheVariants.{Normal, Verbatim, Math, Free, Special}

abbrev pub is_blank : ℕ × Kind → Bool
is_blank c = c.0 == 32

-- without each blank behind another one, where one may be in front
abbrev pub single_blanks : Bool → List (ℕ × Kind) → List (ℕ × Kind)
single_blanks behind [] = []
single_blanks behind (c ∷ cs) =
    if is_blank c && behind then single_blanks true cs else c ∷ single_blanks (is_blank c) cs

abbrev pub without_first_blank : List (ℕ × Kind) → List (ℕ × Kind)
without_first_blank [] = []
without_first_blank (c ∷ cs) = if is_blank c then cs else c ∷ cs

abbrev pub without_last_blank : List (ℕ × Kind) → List (ℕ × Kind)
without_last_blank cs = reverse (without_first_blank (reverse cs))

-- without blanks at both ends, and without each behind another one
abbrev pub trimmed : List (ℕ × Kind) → List (ℕ × Kind)
trimmed cs = without_last_blank (single_blanks true cs)

-- what is left behind blanks
abbrev pub behind_blanks : List (ℕ × Kind) → List (ℕ × Kind)
behind_blanks [] = []
behind_blanks (c ∷ cs) = if is_blank c then behind_blanks cs else c ∷ cs

-- the kind of the blank that stays of two, of which the first may be missing
abbrev pub first_blank : Option Kind → Kind → Kind
first_blank None k = k
first_blank (Some j) k = j

-- a blank of this kind, if there is one
abbrev pub blank_of : Option Kind → List (ℕ × Kind)
blank_of None = []
blank_of (Some k) = (32, k) ∷ []

-- the characters of a text
abbrev pub text_chars : List ℕ → List (ℕ × Kind)
text_chars xs = trimmed (read_all Normal xs).chars

-- the characters of names, with all their blanks
abbrev pub name_chars : List ℕ → List (ℕ × Kind)
name_chars xs = (read_all Free xs).chars

-- the commands of both that aren't known
abbrev pub text_unknown : List ℕ → List (List ℕ)
text_unknown xs = (read_all Normal xs).counted

abbrev pub name_unknown : List ℕ → List (List ℕ)
name_unknown xs = (read_all Free xs).counted

-- bytes of a kind, and those of a character
abbrev pub bytes_of : Kind → List ℕ → List (ℕ × Kind)
bytes_of k bytes = map (λ b. (b, k)) bytes

abbrev pub char_bytes : ℕ × Kind → List (ℕ × Kind)
char_bytes c = bytes_of c.1 (encode_utf8 c.0)

abbrev pub same_kind : Kind → Kind → Bool
same_kind Normal Normal = true
same_kind Verbatim Verbatim = true
same_kind Math Math = true
same_kind Free Free = true
same_kind Special Special = true
same_kind k l = false

abbrev pub begins_with : Kind → List Kind → Bool
begins_with k [] = false
begins_with k (l ∷ ks) = same_kind k l

-- no kind is that of the next one
abbrev pub alternates : List Kind → Bool
alternates [] = true
alternates (k ∷ ks) = not (begins_with k ks) && alternates ks
