-- The element that bytes begin with, of which more may come.
use Rattle.std.specs.Prelude.{◌≡◌, ◌≤◌, ◌<◌, ℕ, IsTrue, List, ◌++◌, drop, length, slice_index, take}
use Rattle.haya_json_elements.specs.Steps.{step}
use Rattle.haya_json_elements.specs.declared.place.Brackets.{Brackets}
use Rattle.haya_json_elements.specs.declared.place.Mode.{Mode}
use Rattle.haya_json_elements.specs.declared.place.Mode.TheVariants.{Between}
use Rattle.haya_json_elements.specs.declared.place.Place.TheVariants.{Element as InElement, Next}
use Rattle.haya_slices.specs.Layout.{IsWhite, inside, is_outside_string}
use Rattle.haya_slices.specs.Scan.{BeginsWith}
use Rattle.haya_slices.specs.declared.coming.Coming.{Coming}
use Rattle.haya_slices.specs.declared.coming.Coming.TheVariants.{Broken, Element, More, Nothing}
use Rattle.haya_slices.specs.declared.coming.Search.{Search}

-- the first bytes lead from the front of an element to this place in it
pub record HasPassed (b : Brackets) (bytes : List ℕ) (len : ℕ) (mode : Mode) (depth : ℕ)
    : Type 0 where
  pub within : len ≤ length bytes
  pub leads : (ys : List ℕ) → inside b Between 0 (take len bytes ++ ys) ≡ inside b mode depth ys

-- an element may begin with the byte at a place
abbrev pub MayBegin : Brackets → List ℕ → ℕ → Type 0
MayBegin b bytes place =
    step b Next (slice_index bytes place) ≡ step b (InElement Between 0) (slice_index bytes place)

-- so far are bytes looked at: white space, and some of what may be an element
pub record HasSeen (b : Brackets) (bytes : List ℕ) (search : Search) : Type 0 where
  pub within : search.white ≤ length bytes
  pub before : IsWhite (take search.white bytes)
  pub passed : HasPassed b (drop search.white bytes) search.len search.mode search.depth
  pub begins : 0 < search.len → MayBegin b bytes search.white

-- behind white space and so many bytes more, which lead to this depth, is one that leads out
pub record LeadsOut (b : Brackets) (bytes : List ℕ) (white len depth : ℕ) : Type 0 where
  pub mode : Mode
  pub within : white ≤ length bytes
  pub before : IsWhite (take white bytes)
  pub passed : HasPassed b (drop white bytes) len mode depth
  pub outside : IsTrue (is_outside_string mode)
  pub some : len < length (drop white bytes)
  pub begins : MayBegin b bytes white

-- what bytes begin with; where it isn't known yet, so far are they looked at
abbrev pub IsComing : Brackets → List ℕ → Search → Coming → Type 0
IsComing b bytes now (Element e) = BeginsWith b bytes e.element.now e.is_last e.behind.now
IsComing b bytes now (Nothing at) = (at < length bytes) × IsWhite (take at bytes)
IsComing b bytes now More = HasSeen b bytes now
IsComing b bytes now (Broken at) = at ≤ length bytes
