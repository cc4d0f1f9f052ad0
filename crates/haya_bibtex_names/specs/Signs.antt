-- Characters of names: those that nothing protects, and those that separate.
use Rattle.std.specs.Prelude.{ℕ, ◌==◌, ◌&&◌, ◌||◌, Bool, true, false}
use Rattle.std.specs.Char.{is_whitespace}
use Rattle.haya_latex.specs.declared.kinds.Kind.{Kind}
use Rattle.haya_latex.specs.declared.kinds.Kind.TheVariants.{Normal, Verbatim, Math, Free, Special}

abbrev pub is_free : Kind → Bool
is_free Normal = false
is_free Verbatim = false
is_free Math = false
is_free Free = true
is_free Special = false

abbrev pub is_verbatim : Kind → Bool
is_verbatim Normal = false
is_verbatim Verbatim = true
is_verbatim Math = false
is_verbatim Free = false
is_verbatim Special = false

-- white that nothing protects
abbrev pub is_white : ℕ × Kind → Bool
is_white x = is_whitespace x.0 && is_free x.1

-- a sign that nothing protects
abbrev pub is_sign : ℕ → ℕ × Kind → Bool
is_sign c x = (x.0 == c) && is_free x.1

-- what counts for nothing at the end of a name: white and commas
abbrev pub is_gap : ℕ × Kind → Bool
is_gap x = is_white x || is_sign 44 x

-- a letter of ASCII that nothing protects, in any case: `c` is the lower one
abbrev pub is_letter : ℕ → ℕ → ℕ × Kind → Bool
is_letter upper lower x = is_sign upper x || is_sign lower x
