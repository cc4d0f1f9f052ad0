use Rattle.std.proofs.Common.{◌≡◌, ◌+◌, ◌++◌, Some, get_or, sym, take, true, ap, arith, rules, ◌∙◌}
use Rattle.haya_json_elements.specs.Steps.{step}
use Rattle.haya_json_elements.specs.declared.place.Mode.TheVariants.{Between}
use Rattle.haya_json_elements.specs.declared.place.Place.TheVariants.{Element}
use Rattle.haya_slices.specs.Layout.{inside, within}
use Rattle.haya_slices.proofs.Scanned.{ends_there, inside_from_start, leads_more, leads_on}
use Rattle.haya_slices.proofs.element.element_len.Goals as goal

pub bytes-preserved : goal.bytes-preserved
bytes-preserved c =
    let b = c.args.brackets in
    let bytes = c.args.bytes.now in
    let at = c.bytes.at in
    let next = c.in-Some.next in
    let depth = c.in-Some.depth in
    let len = c.in_ok-len.len in
    let there = c.in_ok-len.there in
    let leads : within (step b (Element c.bytes.mode 0) (get_or bytes at 0)).0 ≡ Some (next, depth) = sym (c.passed.ensures b) ∙ c.in-Some.is in
    record {
      within = omega (arith, c.in_ok-len.ensures.within, c.split_at.ensures.back_len);
      outside = c.in_ok-len.ensures.outside;
      leads = leads_on b Between 0 bytes (at + 1) len next depth
          (leads_more b Between 0 bytes at c.bytes.mode 0 (omega arith) c.bytes.invariant.leads next depth leads) there 0
          (λ ys. ap (λ t. inside b next depth (take len t ++ ys)) (sym c.split_at.ensures.back) ∙ c.in_ok-len.ensures.leads b ys);
    }

pub returns-in_default : goal.returns-in_default
returns-in_default c =
    let b = c.args.brackets in
    let bytes = c.args.bytes.now in
    let may : c.may_begin.result ≡ true = first_of (search rules, cc, grind arith) in
    ends_there b bytes c.bytes.at c.bytes.mode 0 c.end_at.result (omega arith) c.bytes.invariant.outside c.end_at.ensures
    (λ some. inside_from_start b bytes c.bytes.at c.bytes.mode 0 some (omega arith) (c.may_begin.ensures may b) c.bytes.invariant.leads)
