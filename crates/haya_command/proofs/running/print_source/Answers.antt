use Rattle.std.proofs.Common.{◌≡◌, ◌++◌, List, Ok, inr, subst, ℕ}
use Rattle.std.specs.Io.KnownBytes.{Appends}
use Rattle.std.specs.Prelude.{IfOk, string_bytes}
use Rattle.haya_command.specs.Source.{IsSourceAnswer}
use Rattle.haya_command.proofs.Sourced.{beside_fault}
use Rattle.haya_command.proofs.running.print_source.Goals as goal

pub returns-in_err-print_told-clause-fault : goal.returns-in_err-print_told-clause-fault
returns-in_err-print_told-clause-fault g c =
    let kinds = c.in_ok-kind.ensures in
    let e = c.in_ok-sources.ensures.elements c.args.form kinds in
    let answers : IfOk c.ask_source-asked.result (λ answer. IsSourceAnswer c.args.options.now c.in_ok-kind.kind e.0 c.in_ok-sources.sources.library (string_bytes answer.text) answer.found) =
    c.ask_source-asked.ensures e.0 e.2 in
    let was : c.ask_source-asked.result ≡ Ok c.in_ok-answer.answer = c.in_ok-answer.was in
    let answer = subst (λ r. IfOk r (λ answer. IsSourceAnswer c.args.options.now c.in_ok-kind.kind e.0 c.in_ok-sources.sources.library (string_bytes answer.text) answer.found)) was answers in
    let begun : (first : List ℕ) × (rest : List ℕ) × (string_bytes c.in_ok-answer.answer.text ≡ first ++ rest)
    × Appends (g.W.Write.contents c.args.out.now) (g.W.Write.contents c.print_told.new.out) first =
    c.in_err-print_told.ensures.begun in
    beside_fault c.from_residual-in_err-print_told.result _
    (inr (record {
      found = c.in_ok-answer.answer.found;
      first = begun.0;
      rest = begun.1;
      answers = record {
        kind = c.in_ok-kind.kind;
        elements = e.0;
        library = c.in_ok-sources.sources.library;
        kinds = kinds;
        are = e.1;
        reads = c.in_ok-sources.ensures.read.reads;
        answers = subst (λ text. IsSourceAnswer c.args.options.now c.in_ok-kind.kind e.0 c.in_ok-sources.sources.library text c.in_ok-answer.answer.found)
            begun.2 answer;
      };
      prints = begun.3;
    }))

pub returns-clause-answer : goal.returns-clause-answer
returns-clause-answer g c =
    let kinds = c.in_ok-kind.ensures in
    let e = c.in_ok-sources.ensures.elements c.args.form kinds in
    let answers : IfOk c.ask_source-asked.result (λ answer. IsSourceAnswer c.args.options.now c.in_ok-kind.kind e.0 c.in_ok-sources.sources.library (string_bytes answer.text) answer.found) =
    c.ask_source-asked.ensures e.0 e.2 in
    let was : c.ask_source-asked.result ≡ Ok c.in_ok-answer.answer = c.in_ok-answer.was in
    let answer = subst (λ r. IfOk r (λ answer. IsSourceAnswer c.args.options.now c.in_ok-kind.kind e.0 c.in_ok-sources.sources.library (string_bytes answer.text) answer.found)) was answers in
    record {
      text = string_bytes c.in_ok-answer.answer.text;
      answers = record {
        kind = c.in_ok-kind.kind;
        elements = e.0;
        library = c.in_ok-sources.sources.library;
        kinds = kinds;
        are = e.1;
        reads = c.in_ok-sources.ensures.read.reads;
        answers = answer;
      };
      prints = c.in_ok-print_told.ensures.written;
    }
