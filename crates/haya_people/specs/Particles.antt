-- Particles and articles: words at the beginning of a name that a list of persons may leave out.
use Rattle.std.specs.Prelude.{◌≡◌, ℕ, Bool, true, List, [], ◌∷◌, ◌++◌, Option, None, Some, ◌==◌, ◌&&◌, if◌then◌else◌, drop, encode_utf8_all, filter, length, map, nat_lt}
use Rattle.std.specs.List.{last_or, before_first, after_first}
use Rattle.std.specs.Str.{chars, trim_start}
use Rattle.caseless.specs.Caseless.{default_case_fold}
use Rattle.haya_people.specs.Person.{PersonView}
use Rattle.haya_people.specs.Signs.{blank}
use Rattle.haya_people.specs.Tables.{is_listed}

-- the text in default case fold
unfoldable pub folded : List ℕ → List ℕ
folded text = encode_utf8_all (default_case_fold (chars text))

-- the beginnings of a text that end before a blank, the shortest first
abbrev pub beginnings : List ℕ → List (List ℕ)
beginnings [] = []
beginnings (b ∷ rest) =
    let longer = map (λ beginning. b ∷ beginning) (beginnings rest) in
    if b == blank then [] ∷ longer else longer

-- whether the fold of a text is in the table
abbrev pub is_particle : List (List ℕ) → List ℕ → Bool
is_particle table text = is_listed table (folded text)

-- the longest particle among the beginnings of a name
abbrev pub name_particle : List (List ℕ) → List ℕ → Option (List ℕ)
name_particle table name = last_or None (filter (is_particle table) (beginnings name))

-- a beginning of the name, before a blank, whose fold is in the table
pub record IsParticleOf (table : List (List ℕ)) (name beginning : List ℕ) : Type 0 where
  pub rest : List ℕ
  pub split : name ≡ beginning ++ blank ∷ rest
  pub listed : is_particle table beginning ≡ true

-- the name behind this particle, without white space at its start
abbrev pub behind_particle : List ℕ → Option (List ℕ) → List ℕ
behind_particle name None = name
behind_particle name (Some particle) = trim_start (drop (length particle) name)

abbrev pub name_without_particle : List (List ℕ) → List ℕ → List ℕ
name_without_particle table name = behind_particle name (name_particle table name)

-- two texts with a blank between, or the one that is there
abbrev pub joined : Option (List ℕ) → Option (List ℕ) → Option (List ℕ)
joined (Some front) (Some back) = Some (front ++ blank ∷ back)
joined (Some front) None = Some front
joined None back = back

-- the prefix and the particle of the name
abbrev pub name_particles : List (List ℕ) → PersonView → Option (List ℕ)
name_particles table p = joined p.prefix (name_particle table p.name)

-- the name behind its first blank, where something stands there and what
-- stands before is in the table
abbrev pub name_without_article : List (List ℕ) → List ℕ → List ℕ
name_without_article table name =
    let article = before_first (λ b. b == blank) name in
    let rest = after_first (λ b. b == blank) name in
    if is_listed table article && nat_lt 0 (length rest) then rest else name
