use Rattle.std.proofs.Common.{rules, ◌≡◌, ap, subst, inl, inr}
use Rattle.std.proofs.KnownBytes.{Keeps-refl}
use Rattle.std.proofs.lemmas.Result.{IfErr-weaker, on_ok_weaker}
use Rattle.haya_hits.specs.Line.{AreLinesAt}
use Rattle.haya_run.specs.Output.{PrintsPart}
use Rattle.haya_run.proofs.Faults.{kept, kept_where_read}
use Rattle.haya_run.proofs.Lines.{at_any_fault}
use Rattle.haya_run.proofs.running.answer_word.Goals as goal

pub returns-in_err-bytes-clause-stands : goal.returns-in_err-bytes-clause-stands
returns-in_err-bytes-clause-stands g c = at_any_fault c.from_residual.result _ (λ fault. inl (Keeps-refl _))

pub returns-in_err-bytes-clause-kept : goal.returns-in_err-bytes-clause-kept
returns-in_err-bytes-clause-kept g c = kept _ _ _ _ (Keeps-refl _)

pub returns-in_default-clause-stands : goal.returns-in_default-clause-stands
returns-in_default-clause-stands g c = inl (Keeps-refl _)

pub returns-in_default-clause-kept : goal.returns-in_default-clause-kept
returns-in_default-clause-kept g c = kept _ _ _ _ (Keeps-refl _)

pub returns-in_err-library-clause-stands : goal.returns-in_err-library-clause-stands
returns-in_err-library-clause-stands g c = at_any_fault c.from_residual-in_err-library.result _ (λ fault. inl (Keeps-refl _))

pub returns-in_err-library-clause-kept : goal.returns-in_err-library-clause-kept
returns-in_err-library-clause-kept g c = kept _ _ _ _ (Keeps-refl _)

pub returns-in_err-hits-clause-stands : goal.returns-in_err-hits-clause-stands
returns-in_err-hits-clause-stands g c = at_any_fault c.from_residual-in_err-hits.result _ (λ fault. inl (Keeps-refl _))

pub returns-in_err-hits-clause-kept : goal.returns-in_err-hits-clause-kept
returns-in_err-hits-clause-kept g c = kept _ _ _ _ (Keeps-refl _)

pub returns-clause-answer : goal.returns-clause-answer
returns-clause-answer g c =
    let text : c.in-Ok.text.now ≡ c.in_ok-bytes.bytes.items = search rules in
    let starts = c.in_ok-hits.ensures.starts in
    on_ok_weaker c.print_hits-printed.result (λ p. record {
      text = c.in_ok-bytes.bytes.items;
      library = c.in_ok-library.library;
      selector = c.in_ok-hits.hits.selector;
      printed = p.0;
      read = c.in_ok-bytes.ensures.bytes;
      ends = c.in_ok-bytes.ensures.end;
      utf8 = rw c.as_slice.ensures.value at c.in-Ok.ensures.cases.1;
      describes = rw text at c.in_ok-library.ensures.ok;
      reads = starts.0;
      shows = subst (λ library. AreLinesAt c.in_ok-hits.hits.selector library p.0) (ap (λ q. q.left) starts.1) p.1;
      prints = p.2;
    }) c.print_hits-printed.ensures.printed

pub returns-clause-stands : goal.returns-clause-stands
returns-clause-stands g c =
    let text : c.in-Ok.text.now ≡ c.in_ok-bytes.bytes.items = search rules in
    let starts = c.in_ok-hits.ensures.starts in
    IfErr-weaker c.print_hits-printed.result _ _ (λ fault part. inr (record {
      text = c.in_ok-bytes.bytes.items;
      library = c.in_ok-library.library;
      selector = c.in_ok-hits.hits.selector;
      read = c.in_ok-bytes.ensures.bytes;
      ends = c.in_ok-bytes.ensures.end;
      utf8 = rw c.as_slice.ensures.value at c.in-Ok.ensures.cases.1;
      describes = rw text at c.in_ok-library.ensures.ok;
      reads = starts.0;
      prints = subst (λ library. PrintsPart c.in_ok-hits.hits.selector library (g.W.Write.contents c.args.out.now) (g.W.Write.contents c.print_hits-printed.new.out) fault) (ap (λ q. q.left) starts.1) part;
    })) c.print_hits-printed.ensures.part

pub returns-clause-kept : goal.returns-clause-kept
returns-clause-kept g c =
    let text : c.in-Ok.text.now ≡ c.in_ok-bytes.bytes.items = search rules in
    let describes = rw text at c.in_ok-library.ensures.ok in
    kept_where_read _ _ _ _ _ c.in_ok-bytes.bytes.items c.in_ok-hits.hits.selector _ c.in_ok-hits.ensures.starts.0
    c.in_ok-bytes.ensures.bytes c.in_ok-bytes.ensures.end (rw c.as_slice.ensures.value at c.in-Ok.ensures.cases.1) describes.rows
