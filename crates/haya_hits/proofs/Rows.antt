-- The line of a hit, at a worked row.
use Rattle.std.proofs.Common.{◌∷◌, [], List, ℕ, refl}
use Rattle.std.specs.Prelude.{codes}
use Rattle.std.specs.List.Sorted.{IsStrictlySortedBy}
use Rattle.std.specs.Map.{lookup}
use Rattle.std.specs.Str.{bytes_eq}
use Rattle.haya_hits.specs.Line.{IsLine}
use Rattle.haya_hits.specs.Shown.{shown_key}

abbrev names : List (List ℕ × List ℕ)
names = (codes "W", codes "site") ∷ (codes "a", codes "journal") ∷ []

-- two names, of which the one in upper case is the lesser
two_names : IsLine (λ text. text) (codes "paper") (λ name. lookup (bytes_eq name) names) (codes "paper\tW=site\ta=journal\n")
unfolding IsStrictlySortedBy
two_names = record { names = names; all = λ _. refl; order = ((refl, tt), (tt, tt)); text = refl }

no_names : IsLine (λ text. text) (codes "") (λ name. lookup (bytes_eq name) []) (codes "\n")
unfolding IsStrictlySortedBy
no_names = record { names = []; all = λ _. refl; order = tt; text = refl }

-- a key with each sign, and a name whose key has a tab
escaped : IsLine shown_key (codes "a\tb\nc\rd\\") (λ name. lookup (bytes_eq name) ((codes "w", codes "x\ty") ∷ [])) (codes "a\\tb\\nc\\rd\\\\\tw=x\\ty\n")
unfolding IsStrictlySortedBy
escaped = record { names = (codes "w", codes "x\ty") ∷ []; all = λ _. refl; order = (tt, tt); text = refl }
