use Rattle.std.proofs.Common.{◌≡◌, ℕ, true, false, List, drop, Option, None, Some, refl, sym, ap, subst, ◌∙◌, option_map, Bor}
use Rattle.std.specs.Prelude.{MatchOption}
use Rattle.std.specs.Str.{IsCharBoundary}
use Rattle.std.specs.Str.Pattern.{FindsTextPrefix, StripsPrefix}
use Rattle.std.proofs.lemmas.Str.Pattern.{starts_text}
use Rattle.std.specs.Str.{trim_start}
use Rattle.haya_formats.specs.FirstLine.{behind}
use Rattle.haya_formats.proofs.first_line.behind.Goals as goal

-- what is left where a sign is stripped
stripped : (sign text trimmed : List ℕ) (r : Option (Bor (List ℕ))) → trimmed ≡ trim_start text
    → MatchOption r (FindsTextPrefix sign trimmed None) (λ x. StripsPrefix (FindsTextPrefix sign) trimmed x.now)
    → option_map (λ rest. rest.now) r ≡ behind sign text
stripped sign text trimmed None is h = let no : false ≡ _ = starts_text false sign trimmed h in rw (← is, ← no) refl
stripped sign text trimmed (Some x) is h =
    let yes : true ≡ _ = starts_text true sign trimmed (h.0, h.1, subst (λ k. IsCharBoundary trimmed k) (sym h.1.0) h.1.2) in
    rw (← is, ← yes) (ap Some (h.2 ∙ ap (λ k. drop k trimmed) h.1.0))

pub returns : goal.returns
returns c = stripped c.args.sign.now c.args.text.now c.trim_start.result.now c.strip_prefix.result c.trim_start.ensures.trim c.strip_prefix.ensures.cases
