use Rattle.std.proofs.Common.{◌≡◌, ℕ, List, ◌+◌, ◌<◌, ◌≤◌, ◌&&◌, [], length, drop, get_or, not, Some, None, true, false, sym, ap, ◌∙◌, arith, if◌then◌else◌}
use Rattle.std.specs.Borrow.{Bor}
use Rattle.haya_yaml_text.specs.Signs.{begins_with}
use Rattle.haya_yaml.specs.Documents.{behind_start, document_of, is_directive, started, body, with_front}
use Rattle.haya_yaml.specs.Line.{is_skipped, texts}
use Rattle.haya_yaml.proofs.Bodies.{document_at, document_end, document_step, no_body}
use Rattle.haya_yaml.proofs.document.find_document.Goals as goal
use Rattle.haya_yaml.proofs.document.find_document.Goals.{then-not-is_skipped+else-not-begins_with+else-not-is_directive+else-told, else-not-is_skipped}

pub returns-then-not-begins_with-clause-ok : goal.returns-then-not-begins_with-clause-ok
returns-then-not-begins_with-clause-ok c =
    let ls = c.args.lines.now in
    let n = c.lines.place in
    let told = c.lines.told in
    let d : Bor (List ℕ) = record { ref_ptr = (0, 0); now = [] } in
    let line = (get_or ls n d).now in
    let within : n < length ls = grind arith in
    let some : is_skipped line ≡ false = grind arith in
    let sign : begins_with 37 line ≡ false = grind arith in
    let whole : document_of false (texts ls) ≡ started (behind_start line) told line (texts c.split_at-then-not-begins_with.result.1.now) =
    sym c.lines.invariant.1 ∙ document_step told ls n d within ∙ ap (λ b. document_at b (begins_with 37 line) (is_directive line) told line (texts (drop (n + 1) ls))) some
    ∙ ap (λ b. document_at false b (is_directive line) told line (texts (drop (n + 1) ls))) sign ∙ ap (λ ms. started (behind_start line) told line (texts ms)) (sym c.split_at-then-not-begins_with.ensures.back) in
    rw whole c.start_document.ensures.ok

pub returns-then-not-begins_with-clause-refused : goal.returns-then-not-begins_with-clause-refused
returns-then-not-begins_with-clause-refused c f e =
    let ls = c.args.lines.now in
    let n = c.lines.place in
    let told = c.lines.told in
    let d : Bor (List ℕ) = record { ref_ptr = (0, 0); now = [] } in
    let line = (get_or ls n d).now in
    let within : n < length ls = grind arith in
    let some : is_skipped line ≡ false = grind arith in
    let sign : begins_with 37 line ≡ false = grind arith in
    let whole : document_of false (texts ls) ≡ started (behind_start line) told line (texts c.split_at-then-not-begins_with.result.1.now) =
    sym c.lines.invariant.1 ∙ document_step told ls n d within ∙ ap (λ b. document_at b (begins_with 37 line) (is_directive line) told line (texts (drop (n + 1) ls))) some
    ∙ ap (λ b. document_at false b (is_directive line) told line (texts (drop (n + 1) ls))) sign ∙ ap (λ ms. started (behind_start line) told line (texts ms)) (sym c.split_at-then-not-begins_with.ensures.back) in
    whole ∙ c.start_document.ensures.refused f e

pub returns-then-not-is_directive-clause-refused : goal.returns-then-not-is_directive-clause-refused
returns-then-not-is_directive-clause-refused c f e =
    let ls = c.args.lines.now in
    let n = c.lines.place in
    let told = c.lines.told in
    let d : Bor (List ℕ) = record { ref_ptr = (0, 0); now = [] } in
    let line = (get_or ls n d).now in
    let within : n < length ls = grind arith in
    let some : is_skipped line ≡ false = grind arith in
    let sign : begins_with 37 line ≡ true = grind arith in
    let no : (is_directive line && not told) ≡ false = grind arith in
    sym c.lines.invariant.1 ∙ document_step told ls n d within ∙ ap (λ b. document_at b (begins_with 37 line) (is_directive line) told line (texts (drop (n + 1) ls))) some
    ∙ ap (λ b. document_at false b (is_directive line) told line (texts (drop (n + 1) ls))) sign ∙ ap (λ b. if b then document_of true (texts (drop (n + 1) ls)) else None) no

pub lines-preserved : goal.lines-preserved
lines-preserved c =
    let ls = c.args.lines.now in
    let n = c.lines.place in
    let told = c.lines.told in
    let d : Bor (List ℕ) = record { ref_ptr = (0, 0); now = [] } in
    let line = (get_or ls n d).now in
    let rest = texts (drop (n + 1) ls) in
    let within : n < length ls = grind arith in (
      omega (arith, within),
      elim c.if-not-is_skipped.branch as (λ _. document_of c.if-not-is_skipped.told rest ≡ document_of false (texts ls)) [
        | then-not-is_skipped+else-not-begins_with+else-not-is_directive+else-told w ↦
            let some : is_skipped line ≡ false = grind arith in
            let sign : begins_with 37 line ≡ true = grind arith in
            let yes : (is_directive line && not told) ≡ true = grind arith in
            let now_told : c.if-not-is_skipped.told ≡ true = grind arith in
            ap (λ b. document_of b rest) now_told ∙ sym (document_step told ls n d within ∙ ap (λ b. document_at b (begins_with 37 line) (is_directive line) told line rest) some
            ∙ ap (λ b. document_at false b (is_directive line) told line rest) sign ∙ ap (λ b. if b then document_of true rest else None) yes) ∙ c.lines.invariant.1
        | else-not-is_skipped w ↦
            let none : is_skipped line ≡ true = grind arith in
            let still : c.if-not-is_skipped.told ≡ told = grind arith in
            ap (λ b. document_of b rest) still ∙ sym (document_step told ls n d within ∙ ap (λ b. document_at b (begins_with 37 line) (is_directive line) told line rest) none) ∙ c.lines.invariant.1
      ],
    )

pub returns-then-told-2-clause-refused : goal.returns-then-told-2-clause-refused
returns-then-told-2-clause-refused c f e =
    let all : length c.args.lines.now ≤ c.lines.place = grind arith in
    sym c.lines.invariant.1 ∙ document_end c.lines.told c.args.lines.now c.lines.place all ∙ ap (λ b. if b then None else Some (record { front = []; lines = [] })) c.if-told-2.true

pub returns-clause-ok : goal.returns-clause-ok
returns-clause-ok c =
    let all : length c.args.lines.now ≤ c.lines.place = grind arith in
    let whole : document_of false (texts c.args.lines.now) ≡ with_front [] (body (texts c.split_at-2.result.1.now)) =
    sym c.lines.invariant.1 ∙ document_end c.lines.told c.args.lines.now c.lines.place all ∙ ap (λ b. if b then None else Some (record { front = []; lines = [] })) c.if-told-2.false
    ∙ no_body c.args.lines.now c.lines.place all ∙ ap (λ ms. with_front [] (body (texts ms))) (sym c.split_at-2.ensures.back) in
    rw whole c.document_behind.ensures.ok

pub returns-clause-refused : goal.returns-clause-refused
returns-clause-refused c f e =
    let all : length c.args.lines.now ≤ c.lines.place = grind arith in
    let whole : document_of false (texts c.args.lines.now) ≡ with_front [] (body (texts c.split_at-2.result.1.now)) =
    sym c.lines.invariant.1 ∙ document_end c.lines.told c.args.lines.now c.lines.place all ∙ ap (λ b. if b then None else Some (record { front = []; lines = [] })) c.if-told-2.false
    ∙ no_body c.args.lines.now c.lines.place all ∙ ap (λ ms. with_front [] (body (texts ms))) (sym c.split_at-2.ensures.back) in
    whole ∙ c.document_behind.ensures.refused f e
