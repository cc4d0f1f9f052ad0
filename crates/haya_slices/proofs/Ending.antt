-- An element that comes in parts.
use Rattle.std.proofs.Common.{◌≡◌, ◌⊎◌, ℕ, ◌+◌, ◌-◌, ◌<◌, ◌≤◌, ◌==◌, Bool, true, false, not, List, ◌++◌, length, take, drop, get_or, Some, None, refl, sym, ap, ◌∙◌, subst, arith}
use Rattle.json.specs.Word.{is_space}
use Rattle.json.specs.Lex.{Class, class, quote, backslash, operator, space, other}
use Rattle.haya_json_elements.specs.Steps.{closing_bracket, element_step, step}
use Rattle.haya_json_elements.specs.declared.place.Brackets.{Brackets}
use Rattle.haya_json_elements.specs.declared.place.Mode.{Mode}
use Rattle.haya_json_elements.specs.declared.place.Mode.TheVariants.{Between, Word, Text, Escape}
use Rattle.haya_json_elements.specs.declared.place.Place.TheVariants.{Element, Next}
use Rattle.haya_slices.specs.Coming.{HasPassed, HasSeen, LeadsOut}
use Rattle.haya_slices.specs.Layout.{IsWhite, inside, is_outside_string, within}
use Rattle.haya_slices.specs.Scan.{BeginsWith, EndsAt}
use Rattle.haya_slices.specs.declared.coming.Search.{Search}
use Rattle.haya_slices.proofs.First.{begins_with, get_or-drop_at}
use Rattle.haya_slices.proofs.Scanned.{inside_from_start, leads_more, take_plus, white-append}

-- no byte leads out of a string
pub leaves : (b : Brackets) (m : Mode) (d x : ℕ) → within (step b (Element m d) x).0 ≡ None
    → is_outside_string m ≡ true
leaves b Between d x h = refl
leaves b Word d x h = refl
leaves b Text d x h = by (class x) h
  where
    by : (c : Class) → within (element_step b Text d c x).0 ≡ None → is_outside_string Text ≡ true
    by quote k = absurd (cc)
    by backslash k = absurd (cc)
    by operator k = absurd (cc)
    by space k = absurd (cc)
    by other k = absurd (cc)
leaves b Escape d x h = absurd (cc)

-- a byte more
pub passed_more : (b : Brackets) (bytes : List ℕ) (at : ℕ) (m : Mode) (d : ℕ) (n : Mode) (k : ℕ)
    → at < length bytes → HasPassed b bytes at m d
    → within (step b (Element m d) (get_or bytes at 0)).0 ≡ Some (n, k)
    → HasPassed b bytes (at + 1) n k
passed_more b bytes at m d n k l p e = record {
  within = omega arith;
  leads = leads_more b Between 0 bytes at m d l p.leads n k e;
}

-- white space more in front
pub white_seen : (b : Brackets) (bytes : List ℕ) (old new : Search) (more : ℕ)
    → HasSeen b bytes old → old.len ≡ 0 → new.len ≡ 0 → new.mode ≡ old.mode → new.depth ≡ old.depth
    → new.white ≡ old.white + more → new.white ≤ length bytes
    → IsWhite (take more (drop old.white bytes)) → HasSeen b bytes new
white_seen b bytes old new more s none still mode depth white within_ is = record {
  within = within_;
  before =
      subst IsWhite (sym (ap (λ n. take n bytes) white ∙ take_plus old.white more bytes))
      (white-append (take old.white bytes) (take more (drop old.white bytes)) s.before is);
  passed = record {
    within = omega arith;
    leads = λ ys.
        ap (λ n. inside b Between 0 (take n (drop new.white bytes) ++ ys)) still
        ∙ sym (ap (λ n. inside b Between 0 (take n (drop old.white bytes) ++ ys)) none)
        ∙ s.passed.leads ys
        ∙ ap (λ m. inside b m old.depth ys) (sym mode)
        ∙ ap (λ d. inside b new.mode d ys) (sym depth);
  };
  begins = λ some. absurd (omega arith);
}

-- an element that ends
pub ended_there : (b : Brackets) (bytes : List ℕ) (white len depth stop : ℕ) (is_last : Bool)
    → LeadsOut b bytes white len depth → 0 < len → depth ≡ 0
    → (get_or (drop white bytes) len 0 ≡ 44) ⊎ (get_or (drop white bytes) len 0 ≡ closing_bracket b)
    → stop ≤ length (take len (drop white bytes))
    → IsWhite (drop stop (take len (drop white bytes)))
    → (stop ≡ 0) ⊎ (is_space (get_or (take len (drop white bytes)) (stop - 1) 0) ≡ false)
    → is_last ≡ not (get_or (drop white bytes) len 0 == 44)
    → BeginsWith b bytes (take stop (drop white bytes)) is_last (drop (len + 1) (drop white bytes))
ended_there b bytes white len depth stop is_last out some none ends short back tight last =
    let left = drop white bytes in
    let zeroth : white + 0 ≡ white = omega arith in
    let here : get_or left 0 0 ≡ get_or bytes white 0 =
    get_or-drop_at bytes white 0 ∙ ap (λ n. get_or bytes n 0) zeroth in
    let there : EndsAt b left len = record {
      mode = out.mode;
      within = out.some;
      closed =
          inside_from_start b left len out.mode depth some out.some
          (subst (λ x. step b Next x ≡ step b (Element Between 0) x) (sym here) out.begins) out.passed.leads
          ∙ ap (λ d. Some (out.mode, d)) none;
      outside = out.outside;
      ends = ends;
    } in
    begins_with b bytes white len stop out.within out.before there short back tight is_last last
