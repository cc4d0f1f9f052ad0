-- What a turn of the reading of a scalar does, and how far signs stand for themselves.
use Rattle.std.specs.Prelude.{◌≡◌, ℕ, suc, ◌==◌, ◌||◌, ◌&&◌, ◌+◌, ◌<◌, ◌≤◌, not, List, [], ◌∷◌, Bool, true, false, Some, length, ⊤, if◌then◌else◌}
use Rattle.haya_yaml_text.specs.Signs.{is_flow_sign, is_white}
use Rattle.haya_yaml_text.specs.Scalars.{Scalar, behind, scalar}
use Rattle.haya_yaml_text.specs.declared.scalar.Style.{Style}
use Rattle.haya_yaml_text.specs.declared.scalar.Style.TheVariants.{Plain, PlainInBrackets, SingleQuoted, DoubleQuoted}
use Rattle.haya_yaml_text.specs.declared.scalar.Fold.{Fold}
use Rattle.haya_yaml_text.specs.declared.scalar.Fold.TheVariants.{Inside, Feeds, Joined}
use Rattle.haya_yaml_text.specs.declared.scalar.Turn.{Turn}
use Rattle.haya_yaml_text.specs.declared.scalar.Turn.TheVariants.{On, Done}

-- how many empty lines
abbrev pub feeds : Fold → ℕ
feeds Inside = 0
feeds (Feeds n) = n
feeds (Joined n) = n

-- the sign is a space, a tab or a line feed
abbrev pub is_space : ℕ → Bool
is_space c = is_white c || (c == 10)

-- the sign is something other than itself in a scalar of this style
abbrev pub is_special : Style → ℕ → Bool
is_special Plain c = is_space c || ((c == 35) || (c == 58))
is_special PlainInBrackets c = is_space c || ((c == 35) || ((c == 58) || is_flow_sign c))
is_special SingleQuoted c = is_space c || (c == 39)
is_special DoubleQuoted c = is_space c || ((c == 34) || (c == 92))

-- it stands for itself wherever it comes behind a sign or a space
abbrev pub is_ordinary : Style → ℕ → Bool
is_ordinary style c = not (is_special style c)

-- the first sign of a text does so, or is a space before one that does
abbrev pub goes_on : Style → List ℕ → Bool
goes_on style [] = false
goes_on style (c ∷ []) = is_ordinary style c
goes_on style (c ∷ d ∷ cs) = is_ordinary style c || ((c == 32) && is_ordinary style d)

-- how many signs begin a text that do
unfoldable pub plain_length : Style → List ℕ → ℕ
plain_length style [] = 0
plain_length style (c ∷ cs) = if goes_on style (c ∷ cs) then suc (plain_length style cs) else 0

-- the first sign and those behind it that do
abbrev pub run : Style → List ℕ → ℕ
run style [] = 0
run style (c ∷ cs) = suc (plain_length style cs)

-- nothing more can belong to a scalar
abbrev pub stops : Bool → List ℕ → Bool
stops lines [] = true
stops lines (c ∷ cs) = (c == 10) && not lines

-- a scalar that was read so far, and how it goes on
abbrev pub Turned : Bool → Style → Turn → List ℕ → Scalar → Type 0
Turned lines style (On fold rest) new whole =
    whole ≡ behind new (scalar lines style 0 fold [] rest.now)
Turned lines style (Done rest) new whole = whole ≡ Some (new, rest.now)

-- less is left
abbrev pub Shortens : Turn → ℕ → ℕ → Type 0
Shortens (On fold rest) before left =
    (feeds fold + length rest.now ≤ before + left) × (length rest.now < left)
Shortens (Done rest) before left = ⊤
