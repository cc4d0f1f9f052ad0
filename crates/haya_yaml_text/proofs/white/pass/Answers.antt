use Rattle.std.proofs.Common.{◌≡◌, ◌<◌, ◌≤◌, length, get_or, Some, None, refl, sym, ap, ◌∙◌, arith}
use Rattle.std.proofs.lemmas.Str.{IsCharBoundary-start, IsCharBoundary-after_ascii}
use Rattle.haya_yaml_text.specs.Signs.{passes}
use Rattle.haya_yaml_text.proofs.Passes.{passed_on, passed_stop, passed_end, passes_ascii}
use Rattle.haya_yaml_text.proofs.white.pass.Goals as goal

pub places-init : goal.places-init
places-init c = record { within = omega arith; same = refl; cut = λ _. IsCharBoundary-start c.args.text.now c.utf8.text }

pub places-preserved : goal.places-preserved
places-preserved c =
    let text = c.args.text.now in
    let n = c.places.place in
    let within : n < length text = grind arith in
    let on : passes c.places.inside c.places.apart (get_or text n 0) ≡ Some c.in-Some.next = grind arith in
    record {
      within = omega (arith, within);
      same = sym (passed_on c.places.inside c.places.apart c.in-Some.next text n within on) ∙ c.places.invariant.same;
      cut = λ outside. IsCharBoundary-after_ascii text n c.utf8.text within (passes_ascii c.places.inside c.places.apart (get_or text n 0) (on ∙ ap Some outside));
    }

pub returns-in-None : goal.returns-in-None
returns-in-None c =
    let text = c.args.text.now in
    let n = c.places.place in
    let within : n < length text = grind arith in
    let stop : passes c.places.inside c.places.apart (get_or text n 0) ≡ None = grind arith in
    c.behind.ensures.rest ∙ sym (passed_stop c.places.inside c.places.apart text n within stop) ∙ c.places.invariant.same

pub returns : goal.returns
returns c =
    let all : length c.args.text.now ≤ c.places.place = grind arith in
    sym (passed_end c.places.inside c.places.apart c.args.text.now c.places.place all) ∙ c.places.invariant.same
