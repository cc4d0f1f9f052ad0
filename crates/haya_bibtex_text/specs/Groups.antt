-- Balanced texts.
use Rattle.std.specs.Prelude.{ℕ, suc, ◌-◌, ◌==◌, ◌&&◌, List, [], ◌∷◌, if◌then◌else◌}
use Rattle.haya_bibtex_text.specs.Signs.{open_brace, close_brace}

-- where a balanced text ends: at the closing sign outside of braces, at a brace that closes none,
-- or nowhere; and how many characters come before
pub data End : Type 0 where
  closed : ℕ → End
  stray : ℕ → End
  nowhere : End

abbrev pub end_later : End → End
end_later (closed n) = closed (suc n)
end_later (stray n) = stray (suc n)
end_later nowhere = nowhere

-- inside so many braces
abbrev pub end_in : ℕ → ℕ → List ℕ → End
end_in sign depth [] = nowhere
end_in sign depth (c ∷ cs) =
    if (depth == 0) && (c == sign) then closed 0
    else if c == open_brace then end_later (end_in sign (suc depth) cs)
    else if c == close_brace then
    (if depth == 0 then stray 0 else end_later (end_in sign (depth - 1) cs))
    else end_later (end_in sign depth cs)

abbrev pub end_of : ℕ → List ℕ → End
end_of sign cs = end_in sign 0 cs
