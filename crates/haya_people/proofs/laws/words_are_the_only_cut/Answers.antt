use Rattle.haya_people.specs.Words.{Word, words}
use Rattle.haya_people.specs.WordCuts.{AreWords}
use Rattle.haya_people.proofs.WordLaws.{AreWords-words, words-only}
use Rattle.std.proofs.Common.{◌≡◌, Bool, List, subst, sym}
use Rattle.haya_people.proofs.laws.words_are_the_only_cut.Goals as goal

both : {X : Type 0} (p : X → Bool) (xs : List X) (ws : List (Word X)) → (AreWords p xs ws → ws ≡ words p xs) × (ws ≡ words p xs → AreWords p xs ws)
both p xs ws = (words-only p xs ws, λ e. subst (AreWords p xs) (sym e) (AreWords-words p xs))

pub returns : goal.returns
returns c = record { characters = both; graphemes = both }
