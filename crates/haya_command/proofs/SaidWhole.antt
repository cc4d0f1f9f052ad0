-- The whole of an entry is what is said of it, where nothing is left out.
use Rattle.std.proofs.Common.{◌≡◌, ℕ, Bool, List, [], ◌∷◌, Some, refl}
use Rattle.std.specs.Prelude.{Err, IfOk, Ok, Result, String, string_bytes}
use Rattle.std.specs.declared.alloc.Global.{Global}
use Rattle.hayagriva.specs.Query.{hit_entry}
use Rattle.hayagriva.specs.Tree.{Tree, Trees, node, no_trees, one_more}
use Rattle.hayagriva.specs.declared.query.Hit.{Hit}
use Rattle.haya_line_library.specs.Input.{Describes}
use Rattle.haya_printing.specs.LeftOut.{AreSaidOf, But, IsSaidOf, NoMore, Said}
use Rattle.haya_printing.specs.Printed.{entry_text}
use Rattle.haya_command.specs.Printed.{IsPrintedOf}

mutual
  all_said : (t : Tree) → IsSaidOf t (Some t) []
  all_said (node f ps) = But f f ps ps [] [] [] refl (each_said ps) refl

  each_said : (ts : Trees) → AreSaidOf ts ts []
  each_said no_trees = NoMore
  each_said (one_more t ts) = Said t t ts ts [] [] [] (all_said t) (each_said ts) refl

-- the lines of an entry that describe it are printed of it in any run
pub whole_printed : (strict : Bool) (hit : Hit) (text : List ℕ) → text ≡ entry_text (hit_entry hit) → Describes text (hit_entry hit ∷ []) → IsPrintedOf strict hit text
whole_printed strict hit text is describes = record {
  left = [];
  lines = record {
    part = Some (hit_entry hit);
    said = all_said (hit_entry hit);
    lines = (is, describes);
  };
  whole = λ _. refl;
}

-- so are those that a function gives
pub whole_given : {E : Type 0} (strict : Bool) (hit : Hit) (r : Result (String Global) E) → IfOk r (λ text. string_bytes text ≡ entry_text (hit_entry hit))
    → IfOk r (λ text. Describes (string_bytes text) (hit_entry hit ∷ [])) → IfOk r (λ text. IsPrintedOf strict hit (string_bytes text))
whole_given strict hit (Ok text) is describes = whole_printed strict hit (string_bytes text) is describes
whole_given strict hit (Err e) is describes = tt
