-- What a run of the command leaves on its output.
use Rattle.std.specs.Prelude.{◌≡◌, ◌⊎◌, ℕ, Bool, List, ◌++◌, Option}
use Rattle.std.specs.Io.KnownBytes.{Appends, Keeps}
use Rattle.hayagriva.specs.Tree.{Tree}
use Rattle.haya_command.specs.Answer.{IsAnswer}
use Rattle.haya_command.specs.Reading.{AreReadAs}
use Rattle.haya_command.specs.declared.options.Options.{Options}

-- a run that is answered: the texts are read as a library, and what is printed behind what was
-- there is its answer
pub record Prints (options : Options) (texts : List (List ℕ)) (before after : Option (List ℕ))
    (found : Bool) : Type 0 where
  pub library : List Tree
  pub text : List ℕ
  pub reads : AreReadAs options texts library
  pub answers : IsAnswer options library text found
  pub prints : Appends before after text

-- a run whose answer can't be printed to its end: a first part of it is
pub record PrintsPart (options : Options) (texts : List (List ℕ)) (before after : Option (List ℕ))
    : Type 0 where
  pub library : List Tree
  pub text : List ℕ
  pub found : Bool
  pub first : List ℕ
  pub rest : List ℕ
  pub reads : AreReadAs options texts library
  pub answers : IsAnswer options library text found
  pub parts : text ≡ first ++ rest
  pub prints : Appends before after first

-- what a run that ends with a fault leaves on the output: nothing more than was there, or a part
abbrev pub Stands : Options → List (List ℕ) → Option (List ℕ) → Option (List ℕ) → Type 0
Stands options texts before after = Keeps before after ⊎ PrintsPart options texts before after
