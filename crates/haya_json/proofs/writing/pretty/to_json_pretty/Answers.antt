use Rattle.std.proofs.Common.{◌≡◌, ◌∙◌, ap, List, ℕ}
use Rattle.std.specs.Prelude.{IfOk, Result, Ok, Err, option_and_then}
use Rattle.json.specs.Json.{document, if_last, max_depth, value}
use Rattle.json.specs.Lex.{tokens}
use Rattle.haya_json.specs.Printed.{library_json}
use Rattle.haya_json.proofs.writing.pretty.to_json_pretty.Goals as goal

-- texts of the same tokens have the same value
by_tokens : (a b : List ℕ) → tokens a ≡ tokens b → document a ≡ document b
by_tokens a b same = ap (λ ts. option_and_then (λ p. if_last p.0 p.1) (value max_depth ts)) same

mapped : {T E : Type 0} {P Q : T → Type 0} (r : Result T E) → ((t : T) → P t → Q t) → IfOk r P → IfOk r Q
mapped (Ok t) f h = f t h
mapped (Err e) f h = tt

-- the text is what `to_json` prints
text_is : (c : goal.After-drop-bytes) → c.in-Ok.text.now ≡ c.in_ok-bytes.bytes.items
text_is c = c.in-Ok.ensures.cases.0 ∙ c.as_slice.ensures.value

pub returns-clause-bytes : goal.returns-clause-bytes
returns-clause-bytes c = c.lay_out.ensures.layout (library_json c.args.library.now) (ap tokens (text_is c) ∙ c.in_ok-bytes.ensures.tokens)

pub returns-clause-same : goal.returns-clause-same
returns-clause-same c =
    let seen = ap tokens (text_is c) ∙ c.in_ok-bytes.ensures.tokens in
    mapped c.lay_out.result
    (λ bytes read. by_tokens bytes.items _ (read ∙ ap tokens (text_is c ∙ c.in_ok-bytes.ensures.bytes)))
    (c.lay_out.ensures.same (library_json c.args.library.now) seen)
