-- A list whose entries are asked in turn, as they are read.
use Rattle.std.specs.Prelude.{◌≡◌, ◌||◌, ℕ, Bool, IsFalse, List, ◌++◌, false, is_some, string_bytes}
use Rattle.std.specs.HashMap.{get_by_text}
use Rattle.std.specs.Str.{bytes_eq}
use Rattle.hayagriva.specs.Library.{key_of}
use Rattle.hayagriva.specs.Tree.{Tree}
use Rattle.haya_command.specs.Answer.{IsAnswer}
use Rattle.haya_command.specs.Reading.{AreReadAs}
use Rattle.haya_command.specs.Streamed.{AsksEntry, has_enough}
use Rattle.haya_command.specs.declared.in_turn.Turns.{Turns}
use Rattle.haya_command.specs.declared.options.Options.{Options}
use Rattle.haya_command.specs.declared.seen_keys.SeenKeys.{SeenKeys}

-- texts are read as a library, of which this is the answer
pub record AnswersTexts (options : Options) (texts : List (List ℕ)) (text : List ℕ) (found : Bool)
    : Type 0 where
  pub library : List Tree
  pub reads : AreReadAs options texts library
  pub answers : IsAnswer options library text found

-- ---- a turn

-- whether a key was seen
unfoldable pub was_seen : SeenKeys → List ℕ → Bool
was_seen seen key = is_some (get_by_text seen.keys key)

-- an entry is asked whose key wasn't seen before, and what is printed of it is put behind the rest
pub record AsksNew (s : Turns) (entry : Tree) (t : Turns) : Type 0 where
  pub printed : List ℕ
  pub asks : AsksEntry s.asker.options.now s.asker.selector s.asker.hits entry printed
      t.asker.options.now t.asker.selector t.asker.hits
  pub wanted : IsFalse (has_enough s.asker.options.now s.asker.hits)
  pub behind : string_bytes t.printed ≡ string_bytes s.printed ++ printed
  pub new : was_seen s.seen (key_of entry) ≡ false
  pub seen : (key : List ℕ) →
      was_seen t.seen key ≡ (bytes_eq (key_of entry) key || was_seen s.seen key)
