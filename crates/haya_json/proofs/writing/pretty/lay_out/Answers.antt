use Rattle.std.proofs.Common.{◌≡◌, ◌∙◌, ◌++◌, ◌∷◌, ap, sym, subst, append-nil, rules}
use Rattle.json.specs.Json.{Json}
use Rattle.json.specs.Layout.{pretty}
use Rattle.json.specs.Lex.{tokens}
use Rattle.json.specs.Reads.{token_of}
use Rattle.json.specs.Tree.{json_tokens}
use Rattle.haya_json.proofs.NoBad.{NoBad, NoBad-json_tokens, bad_among}
use Rattle.haya_json.proofs.writing.pretty.lay_out.Goals as goal
use Rattle.haya_json.proofs.writing.pretty.lay_out.Goals.{in-Some+then-matches, in-Bad, in_default-matches, in_default}

-- all tokens of a value are written
whole : (c : goal.After-drop-scratch-3) (j : Json) → tokens c.args.text.now ≡ json_tokens j → c.tokens.out ≡ json_tokens j
whole c j is =
    let out = c.tokens.out in
    let all : out ++ c.tokens.reader ≡ json_tokens j = c.tokens.invariant ∙ is in
    elim c.match-next.branch [
      | in-Some+then-matches w ↦ elim w.match-matches.branch [
        | in-Bad v ↦
            let begins : c.tokens.reader ≡ token_of w.in-Some.token ∷ c.next.new.self = w.in-Some.ensures.value in
            absurd (bad_among out c.next.new.self (subst (λ l. NoBad (out ++ l)) (begins ∙ ap (λ t. token_of t ∷ c.next.new.self) v.in-Bad.is) (subst NoBad (sym all) (NoBad-json_tokens j))))
        | in_default-matches v ↦ absurd (search rules)
      ]
      | in_default w ↦ sym (append-nil out) ∙ ap (λ l. out ++ l) (sym w.in_default.ensures.value.0) ∙ all
    ]

pub returns-clause-layout : goal.returns-clause-layout
returns-clause-layout c = λ j is. c.into_inner.ensures.layout ∙ ap pretty (whole c j is)

pub returns-clause-same : goal.returns-clause-same
returns-clause-same c = λ j is. c.into_inner.ensures.value ∙ whole c j is ∙ sym is
