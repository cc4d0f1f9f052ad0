-- What lines say of an entry, and what is left out.
use Rattle.std.specs.Prelude.{◌≡◌, ℕ, List, [], ◌∷◌, ◌++◌, Option, None, Some, IfSome, IsTrue, MatchOption, map, string_bytes, Vec}
use Rattle.std.specs.declared.alloc.Global.{Global}
use Rattle.haya_entry.specs.declared.field_name.FieldName.{FieldName}
use Rattle.haya_entry.specs.Tree.{Fields, Tree, Trees, node, no_trees, one_more, new_entry, fields}
use Rattle.haya_line_library.specs.Input.{Describes}
use Rattle.haya_lines.specs.Line.{leaf}
use Rattle.haya_printing.specs.declared.left_out.Part.{Part}
use Rattle.haya_printing.specs.declared.left_out.Part.TheVariants.{Field, Key, Parents}
use Rattle.haya_printing.specs.declared.left_out.LeftOut.{LeftOut}
use Rattle.haya_printing.specs.Parts.{has_part, without, without_fields}
use Rattle.haya_printing.specs.Printed.{entry_text}

-- the lines of an entry describe the library of it alone
pub record IsPrintable (t : Tree) : Type 0 where
  pub describes : Describes (entry_text t) (t ∷ [])

-- each of these is
abbrev pub AreAllPrintable : Trees → Type 0
AreAllPrintable no_trees = Unit {0}
AreAllPrintable (one_more t ts) = IsPrintable t × AreAllPrintable ts

-- A field that no line says: the entry without it and some others is printable, and with it, still
-- without the others, it isn't.
pub record IsUnsaidField (name : FieldName) (f : Fields) : Type 0 where
  pub others : List FieldName
  pub without_it : IsPrintable (leaf (without_fields (name ∷ others) f))
  pub with_it : ¬ IsPrintable (leaf (without_fields others f))

-- a part that no line says: a field, or a part that lines have no room for
abbrev pub IsUnsaid : Part → Fields → Type 0
IsUnsaid (Field name) f = IsUnsaidField name f
IsUnsaid part f = IsTrue (has_part part f)

-- fields without these parts, of which no line says the first, nor the next of what is left
abbrev pub LeavesOut : List Part → Fields → Fields → Type 0
LeavesOut [] f g = g ≡ f
LeavesOut (part ∷ parts) f g = IsUnsaid part f × LeavesOut parts (without part f) g

-- what is left out: the key of an entry, and the part of this entry
abbrev pub Named : Type 0
Named = List (List ℕ × Part)

abbrev pub parts_of : List ℕ → List Part → Named
parts_of key parts = map (λ part. (key, part)) parts

mutual
  -- what lines say of an entry, if they say anything of it, and what of it and its ancestors is
  -- left out
  pub data IsSaidOf : Tree → Option Tree → Named → Type 0 where
    -- all is said but for these parts, and for what is left out of the ancestors
    But : (f g : Fields) (ps qs : Trees) (parts : List Part) (above all : Named)
        → LeavesOut parts f g → AreSaidOf ps qs above → all ≡ parts_of f.key parts ++ above
        → IsSaidOf (node f ps) (Some (node g qs)) all
    -- what is said of the parents is printable by itself, and not behind the entry
    NoParents : (f g : Fields) (ps qs : Trees) (parts : List Part) (above all : Named)
        → LeavesOut parts f g → AreSaidOf ps qs above → AreAllPrintable qs
        → (¬ IsPrintable (node g qs))
        → all ≡ parts_of f.key parts ++ above ++ (f.key, Parents) ∷ []
        → IsSaidOf (node f ps) (Some (leaf g)) all
    -- no line has the key
    NoLine : (f : Fields) (ps : Trees) → (¬ IsPrintable (new_entry f.key f.entry_type))
        → IsSaidOf (node f ps) None ((f.key, Key) ∷ [])

  -- the same of parents, in order
  pub data AreSaidOf : Trees → Trees → Named → Type 0 where
    NoMore : AreSaidOf no_trees no_trees []
    Said : (t u : Tree) (ts us : Trees) (here rest all : Named)
        → IsSaidOf t (Some u) here → AreSaidOf ts us rest → all ≡ here ++ rest
        → AreSaidOf (one_more t ts) (one_more u us) all
    Unsaid : (t : Tree) (ts us : Trees) (here rest all : Named)
        → IsSaidOf t None here → AreSaidOf ts us rest → all ≡ here ++ rest
        → AreSaidOf (one_more t ts) us all

-- The lines of what is said of an entry, which describe it, and what is left out. Where nothing
-- is said there is no line.
pub record AreLinesOf (t : Tree) (text : List ℕ) (left : Named) : Type 0 where
  pub part : Option Tree
  pub said : IsSaidOf t part left
  pub lines : MatchOption part (text ≡ []) (λ p. (text ≡ entry_text p) × Describes text (p ∷ []))

abbrev pub named_part : LeftOut → List ℕ × Part
named_part l = (string_bytes l.key, l.part)

abbrev pub named : Vec LeftOut Global → Named
named v = map named_part v.items

-- ---- steps on the way

-- these are named, behind the others
abbrev pub Names : Vec LeftOut Global → Vec LeftOut Global → Named → Type 0
Names old new more = named new ≡ named old ++ more

-- the entry has no parents
abbrev pub IsAlone : Tree → Type 0
IsAlone t = t ≡ leaf (fields t)

-- parts are left out, and put behind the others
pub record LeavesMore (old new : List Part) (f g : Fields) : Type 0 where
  pub more : List Part
  pub put : new ≡ old ++ more
  pub leaves : LeavesOut more f g

-- an entry alone that is printable is said, and what is left out is named
pub record SaysFields (old new : Vec LeftOut Global) (t part : Tree) : Type 0 where
  pub parts : List Part
  pub names : Names old new (parts_of (fields t).key parts)
  pub leaves : LeavesOut parts (fields t) (fields part)
  pub alone : IsAlone part
  pub printable : IsPrintable part

-- parents are put over an entry where it is printable then, otherwise this is named
pub data SetsOver (old new : Vec LeftOut Global) (key : List ℕ) (f : Fields) (ps : Trees)
    : Tree → Type 0 where
  Over : (t : Tree) → t ≡ node f ps → IsPrintable t → Names old new [] → SetsOver old new key f ps t
  Alone : (t : Tree) → t ≡ leaf f → IsPrintable t → (¬ IsPrintable (node f ps))
      → Names old new ((key, Parents) ∷ []) → SetsOver old new key f ps t

-- a part of an entry is said, and what is left out is named
pub record SaysPart (old new : Vec LeftOut Global) (t : Tree) (part : Option Tree) : Type 0 where
  pub more : Named
  pub names : Names old new more
  pub said : IsSaidOf t part more
  pub printable : IfSome part IsPrintable

-- parts of parents are said, and what is left out is named
pub record SaysParts (old new : Vec LeftOut Global) (ts parts : Trees) : Type 0 where
  pub more : Named
  pub names : Names old new more
  pub said : AreSaidOf ts parts more
  pub printable : AreAllPrintable parts
