use Rattle.std.proofs.Common.{flat_map, take}
use Rattle.std.specs.Fmt.{HasWritten, IsPlainFormatter}
use Rattle.haya_numbers.specs.NumericForms.{formed_number}
use Rattle.haya_numbers.specs.NumericPrinted.{delimiter_text, item_text}
use Rattle.haya_numbers.proofs.numeric.form.FormedDisplay.fmt.Given as goal

-- the numbers so far are written
abbrev pub invariant-loop-n : goal.invariant-loop-n
invariant-loop-n g l =
    IsPlainFormatter l.initial.f
    → HasWritten g.W.Write.write_str_gives l.initial.f
    (flat_map
    (item_text
    (formed_number l.self.style.now.form (λ n. g.O.Ordinals.ordinal_suffix l.self.style.now.ordinals.now n l.self.style.now.gender) (g.O.Ordinals.ordinal_word l.self.style.now.ordinals.now))
    delimiter_text)
    (take l.n-index l.n-items))
    l.f
