-- Meanings and tables by value.
use Rattle.std.specs.Prelude.{ℕ, List, [], ◌∷◌}
use Rattle.std.specs.Borrow.{Bor}
use Rattle.haya_latex_words.specs.Commands as commands
use Rattle.haya_latex_words.specs.declared.command.Meaning.{Meaning}
use Rattle.haya_latex_words.specs.declared.command.Meaning.TheVariants.{Sign, Text, Point, Accent, Look, LeftOut, Around, Formula, Unknown}

abbrev pub meaning_view : Meaning → commands.Meaning
meaning_view (Sign c) = commands.sign (c ∷ [])
meaning_view (Text xs) = commands.sign xs.now
meaning_view (Point xs) = commands.point xs.now
meaning_view (Accent a) = commands.accent a
meaning_view Look = commands.look
meaning_view (LeftOut n) = commands.left_out n
meaning_view (Around a b) = commands.around a b
meaning_view Formula = commands.formula
meaning_view Unknown = commands.unknown

-- the rows of tables: a word, with what it stands for or means
abbrev pub word_view : Bor (List ℕ) → List ℕ
word_view w = w.now

abbrev pub sign_view : Bor (List ℕ) × ℕ → List ℕ × ℕ
sign_view r = (r.0.now, r.1)

abbrev pub row_view : Bor (List ℕ) × Meaning → List ℕ × commands.Meaning
row_view r = (r.0.now, meaning_view r.1)
