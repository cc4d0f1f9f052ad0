-- The line of a hit: the entry's key, and what its names are bound to.
use Rattle.std.specs.Prelude.{◌≡◌, ℕ, List, [], ◌∷◌, ◌++◌, Option, String, map, option_map, filter, string_bytes}
use Rattle.std.specs.Borrow.{Bor}
use Rattle.std.specs.Cmp.Lexicographic.{slice_cmp}
use Rattle.std.specs.HashMap.{get_by_text}
use Rattle.std.specs.List.{AllZip, concat, flat_map}
use Rattle.std.specs.List.Sorted.{IsStrictlySortedBy}
use Rattle.std.specs.Map.{keys_of, lookup}
use Rattle.std.specs.Ordering.{nat_cmp}
use Rattle.std.specs.Str.{bytes_eq}
use Rattle.hayagriva.specs.Binds.{bound_to}
use Rattle.hayagriva.specs.Holds.{holds}
use Rattle.hayagriva.specs.Library.{key_of}
use Rattle.hayagriva.specs.Syntax.{Syntax}
use Rattle.hayagriva.specs.Tree.{Tree, view}
use Rattle.hayagriva.specs.declared.Entry.{Entry}
use Rattle.hayagriva.specs.declared.query.Hit.{Hit}
use Rattle.haya_lines.specs.Signs.{tab, equals_sign, line_feed}
use Rattle.haya_hits.specs.Shown.{shown_key}

-- a tab, a name, `=` and a key, as texts are shown
abbrev pub binding_text : (List ℕ → List ℕ) → List ℕ × List ℕ → List ℕ
binding_text show p = tab ∷ show p.0 ++ equals_sign ∷ show p.1

-- A key, then each name that stands for a key, in byte order, and a line feed. A name and a key
-- are printed as `show` says.
pub record IsLine (show : List ℕ → List ℕ) (key : List ℕ)
    (stands_for : List ℕ → Option (List ℕ)) (line : List ℕ) : Type 0 where
  pub names : List (List ℕ × List ℕ)
  pub all : (name : List ℕ) → lookup (bytes_eq name) names ≡ stands_for name
  pub order : IsStrictlySortedBy (slice_cmp nat_cmp) (keys_of names)
  pub text : line ≡ show key ++ flat_map (binding_text show) names ++ line_feed ∷ []

-- the key of the entry that a hit binds to a name, if it binds one
abbrev pub bound_key : Hit → List ℕ → Option (List ℕ)
bound_key hit name = option_map (λ e. key_of (view e.now)) (get_by_text hit.bindings name)

-- the line of a hit, as texts are shown
abbrev pub IsLineAs : (List ℕ → List ℕ) → Hit → List ℕ → Type 0
IsLineAs show hit = IsLine show (key_of (view hit.entry.now)) (bound_key hit)

-- the line of a hit, with the texts as they are
abbrev pub IsLineOf : Hit → List ℕ → Type 0
IsLineOf = IsLineAs (λ text. text)

-- the line of a hit, in which no text has a sign of the line
abbrev pub IsEscapedLineOf : Hit → List ℕ → Type 0
IsEscapedLineOf = IsLineAs shown_key

-- the line of an entry where a selector holds: its key, and the keys of the entries that its names
-- are bound to
abbrev pub IsLineAt : Syntax → Tree → List ℕ → Type 0
IsLineAt s x = IsLine (λ text. text) (key_of x) (λ name. option_map key_of (bound_to s x name))

-- a line for each, in order
pub record AreLines {A : Type 0} (IsLineFor : A → List ℕ → Type 0) (xs : List A) (printed : List ℕ)
    : Type 0 where
  pub lines : List (List ℕ)
  pub each : AllZip IsLineFor xs lines
  pub text : printed ≡ concat lines

-- the lines of the entries of a library where a selector holds, in order
abbrev pub AreLinesAt : Syntax → List Tree → List ℕ → Type 0
AreLinesAt s library = AreLines (IsLineAt s) (filter (holds s) library)

-- names beside the keys of their entries, of a map from names to entries
abbrev pub names_of : {B : Type 0} → List (Bor (String B) × Bor (Bor Entry))
    → List (List ℕ × List ℕ)
names_of ys = map (λ p. (string_bytes p.0.now, key_of (view p.1.now.now))) ys
