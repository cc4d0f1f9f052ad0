-- What a library answers by the elements that it was read from.
use Rattle.std.specs.Prelude.{◌≡◌, ◌==◌, ◌&&◌, ℕ, Bool, List, Some, length}
use Rattle.std.specs.List.{AllZip}
use Rattle.hayagriva.specs.Library.{key_of}
use Rattle.hayagriva.specs.Query.{AreHits, hit_entry}
use Rattle.hayagriva.specs.Syntax.{Syntax}
use Rattle.hayagriva.specs.declared.query.Hit.{Hit}
use Rattle.haya_asked.specs.Asked.{AreAsked, keeps_repeats}
use Rattle.haya_asked.specs.declared.questions.Questions.{Questions}
use Rattle.haya_source.specs.Elements.{Element, entries_of}
use Rattle.haya_source.specs.Places.{part_for}
use Rattle.haya_source.specs.Printed.{printed_text}
use Rattle.haya_source.specs.declared.kind.ElementKind.{ElementKind}

-- the hits are neither sorted nor told from others that share their values
abbrev pub keeps_order : Questions → Bool
keeps_order questions = length questions.keys.items == 0 && keeps_repeats questions.repeats

-- The library that was read from these elements answers by them: of the hits of the selector those
-- that are asked for, so many, and of each the element that its key has, all of them as one text.
pub record AnswersByElements (questions : Questions) (kind : ElementKind) (s : Syntax)
    (es : List Element) (text : List ℕ) (count : ℕ) : Type 0 where
  pub hits : List Hit
  pub asked : List Hit
  pub parts : List (List ℕ)
  pub picks : AreHits s (entries_of es) hits
  pub asks : AreAsked questions hits asked
  pub each : AllZip (λ hit part. part_for (key_of (hit_entry hit)) es ≡ Some part) asked parts
  pub is : text ≡ printed_text kind parts
  pub counted : length asked ≡ count
