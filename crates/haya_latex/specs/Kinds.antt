-- What groups and signs are, in text of each kind.
use Rattle.std.specs.Prelude.{ℕ, Bool, if◌then◌else◌}
use Rattle.std.specs.Char.{is_whitespace}
use Rattle.haya_latex.specs.declared.kinds.Kind.{Kind}
use Rattle.haya_latex.specs.declared.kinds.Kind.TheVariants.{Normal, Verbatim, Math, Free, Special}

-- a group by itself, which begins with a backslash or doesn't
abbrev pub group_kind : Kind → Bool → Kind
group_kind Normal backslash = if backslash then Normal else Verbatim
group_kind Verbatim backslash = Verbatim
group_kind Math backslash = Math
group_kind Free backslash = if backslash then Special else Verbatim
group_kind Special backslash = Special

-- the group of a command or an accent: in text of the kind around, in names as any other
abbrev pub argument_kind : Kind → Bool → Kind
argument_kind Normal backslash = Normal
argument_kind Verbatim backslash = Verbatim
argument_kind Math backslash = Math
argument_kind Free backslash = if backslash then Special else Verbatim
argument_kind Special backslash = Special

-- a character that a command stands for
abbrev pub sign_kind : Kind → ℕ → Kind
sign_kind Normal c = Normal
sign_kind Verbatim c = Verbatim
sign_kind Math c = Math
sign_kind Free c = if is_whitespace c then Free else Special
sign_kind Special c = Special
