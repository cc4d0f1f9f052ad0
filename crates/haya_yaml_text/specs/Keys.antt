-- Keys: scalars on one line.
use Rattle.std.specs.Prelude.{◌≡◌, ⊤, ℕ, ◌==◌, List, [], ◌∷◌, Bool, true, false, drop, Option, Some, None, option_and_then, if◌then◌else◌, codes}
use Rattle.std.specs.Str.{bytes_eq}
use Rattle.haya_yaml_text.specs.Signs.{begins_plain, ends_key, skip}
use Rattle.haya_yaml_text.specs.Scalars.{Scalar, scalar_of}
use Rattle.haya_yaml_text.specs.declared.key.PlainKey.{PlainKey}
use Rattle.haya_yaml_text.specs.declared.key.PlainKey.TheVariants.{Found, Missing, Unclear}
use Rattle.haya_yaml_text.specs.declared.scalar.Style.{Style}
use Rattle.haya_yaml_text.specs.declared.scalar.Style.TheVariants.{Plain, PlainInBrackets, SingleQuoted, DoubleQuoted}

abbrev pub plain_style : Bool → Style
plain_style flow = if flow then PlainInBrackets else Plain

-- the key `<<` is refused
abbrev pub unmerged : Scalar → Scalar
unmerged found = option_and_then (λ p. if bytes_eq p.0 (codes "<<") then None else Some p) found

-- the scalar on one line that a key is, in brackets or not, and what follows it
abbrev pub key_scalar : Bool → List ℕ → Scalar
key_scalar flow [] = None
key_scalar flow (c ∷ cs) =
    if c == 34 then scalar_of false DoubleQuoted cs
    else if c == 39 then scalar_of false SingleQuoted cs
    else if begins_plain flow (c ∷ cs) then unmerged (scalar_of false (plain_style flow) (c ∷ cs))
    else None

-- what follows a colon that ends a key, behind white space or not
abbrev pub behind_colon : List ℕ → List ℕ → Option (List ℕ × List ℕ)
behind_colon name text = if ends_key false text then Some (name, drop 1 text) else None

-- the key that begins a line, and what stands behind its colon
abbrev pub key : List ℕ → Option (List ℕ × List ℕ)
key text = option_and_then (λ p. behind_colon p.0 (skip true p.1)) (key_scalar false text)

-- what is seen of a key that begins a line
abbrev pub IsPlainKey : List ℕ → PlainKey → Type 0
IsPlainKey text (Found name rest) = key text ≡ Some (name.now, rest.now)
IsPlainKey text Missing = key text ≡ None
IsPlainKey text Unclear = ⊤
