use Rattle.std.proofs.Common.{◌≡◌, ℕ, ◌+◌, ◌*◌, ◌<◌, ◌≤◌, ◌∙◌, subst, get_or, length, arith, rules}
use Rattle.std.proofs.Math.Nat.{mul-le-mul_left}
use Rattle.haya_assignment.specs.Search.{acceptance, IsFree}
use Rattle.haya_assignment.proofs.Numbers.{grows_trans}
use Rattle.haya_assignment.proofs.Reaching.{early_weaker, layers_grow, layers_low, layers_more, reached_few, scanned_grows, searched_below_more, searched_grows}
use Rattle.haya_assignment.proofs.search.search.Goals as goal

pub returns-in_err-try_position-clause-at_most : goal.returns-in_err-try_position-clause-at_most
returns-in_err-try_position-clause-at_most c =
    let p = c.args.by.now.parents in
    let few : length c.positions.reached.members.items ≤ length c.positions.reached.seen.items = reached_few _ _ _ _ _ _ c.positions.invariant.reaches in
    let all : p * length c.positions.reached.members.items ≤ p * length c.args.by.now.table.now = mul-le-mul_left p (omega arith) in
    omega arith

pub returns-then-branch-clause-at_most : goal.returns-then-branch-clause-at_most
returns-then-branch-clause-at_most c =
    let p = c.args.by.now.parents in
    let few : length c.positions.reached.members.items ≤ length c.positions.reached.seen.items = reached_few _ _ _ _ _ _ c.positions.invariant.reaches in
    let all : p * length c.positions.reached.members.items ≤ p * length c.args.by.now.table.now = mul-le-mul_left p (omega arith) in
    omega arith

pub returns-clause-at_most : goal.returns-clause-at_most
returns-clause-at_most c =
    let p = c.args.by.now.parents in
    let few : length c.positions.reached.members.items ≤ length c.positions.reached.seen.items = reached_few _ _ _ _ _ _ c.positions.invariant.reaches in
    let all : p * length c.positions.reached.members.items ≤ p * length c.args.by.now.table.now = mul-le-mul_left p (omega arith) in
    omega arith

pub returns-then-branch-clause-found : goal.returns-then-branch-clause-found
returns-then-branch-clause-found c =
    let ok = c.in_ok-try_position.ensures in
    let was = c.positions.invariant in
    let some : 0 < length c.positions.reached.members.items = was.reaches.some in
    let free = ok.free c.if-branch.true in
    record {
      in_reached = ok.reaches.some;
      free = subst (λ (i : ℕ). IsFree (acceptance c.args.by.now) c.args.by.now.holders.now i c.positions.position) (ok.grows.same 0 some) free;
      bound = c.positions.position;
      early = ok.early (c.positions.position + 1) (λ z. omega arith) (early_weaker c.positions.position c.args.by.now.holders.now _ _ was.early);
      end_early = λ z. omega arith;
      before = c.positions.reached.members.items;
      some = some;
      grown = ok.grows;
      searched = was.searched;
    }

pub follow-requires-clause-searched : goal.follow-requires-clause-searched
follow-requires-clause-searched c =
    let ms = c.positions.reached.members.items in
    let len : c.len-start.result ≡ length ms = search rules in
    rw len (searched_grows (acceptance c.args.by.now) c.args.by.now.stays.now (length ms) c.args.by.now.holders.now ms _ (omega arith) c.in_ok-try_position.ensures.grows c.positions.invariant.searched.later)

pub follow-requires-clause-scanned : goal.follow-requires-clause-scanned
follow-requires-clause-scanned c =
    scanned_grows (acceptance c.args.by.now) c.args.by.now.stays.now c.args.by.now.holders.now c.args.by.now.alike.now c.positions.reached _ c.try_position.ensures.scanned c.in_ok-try_position.ensures.as_long c.in_ok-try_position.ensures.grows c.positions.invariant.scanned

pub returns-in-Some-clause-grows : goal.returns-in-Some-clause-grows
returns-in-Some-clause-grows c =
    grows_trans _ c.positions.reached.members.items _ c.positions.invariant.grows
    (grows_trans _ c.try_position.new.reached.members.items _ c.in_ok-try_position.ensures.grows c.in_ok-end.ensures.grows)

pub returns-in-Some-clause-found : goal.returns-in-Some-clause-found
returns-in-Some-clause-found c =
    let ok = c.in_ok-try_position.ensures in
    let was = c.positions.invariant in
    let some : 0 < length c.positions.reached.members.items = was.reaches.some in
    let free = rw c.in-Some.is at c.in_ok-end.ensures.free in
    let later : 0 < c.in-Some.end.0 = free.0 in
    record {
      in_reached = free.1;
      free = free.2;
      bound = c.positions.position;
      early = c.in_ok-end.ensures.early (c.positions.position + 1) (ok.early (c.positions.position + 1) (λ z. omega arith) (early_weaker c.positions.position c.args.by.now.holders.now _ _ was.early));
      end_early = λ z. absurd (omega arith);
      before = c.positions.reached.members.items;
      some = some;
      grown = grows_trans _ c.try_position.new.reached.members.items _ ok.grows c.in_ok-end.ensures.grows;
      searched = was.searched;
    }

pub positions-preserved : goal.positions-preserved
positions-preserved c =
    let ok = c.in_ok-try_position.ensures in
    let next = c.in_ok-end.ensures in
    let was = c.positions.invariant in
    let p = c.args.by.now.parents in
    let ms = c.positions.reached.members.items in
    let some : 0 < length ms = was.reaches.some in
    let start : c.len-start.result ≡ length ms = search rules in
    let most : c.follow.new.steps + c.len-start.result * p ≤ c.try_position.new.steps + length c.follow.new.reached.members.items * p = rw c.in_default.is at next.none_at_most in
    let most' : c.follow.new.steps + length ms * p ≤ c.try_position.new.steps + length c.follow.new.reached.members.items * p = rw (← start) most in
    let before : c.positions.steps + p ≤ c.args.steps.now + c.positions.position + length ms * p = was.most in
    let after = c.follow.new.reached.members.items in
    let ls = c.positions.layers.items in
    let ls' = c.fill.new.layers.items in
    let filled = c.in_ok-fill.ensures in
    let long : length ls' ≡ length after = search rules in
    let new : (t : ℕ) → length ls ≤ t → t < length after → get_or ls' t 0 ≡ c.positions.position = λ t a b. filled.filled t a (omega (arith, filled.as_many)) in
    record {
      reaches = next.reaches;
      grows = grows_trans _ ms _ was.grows (grows_trans _ c.try_position.new.reached.members.items _ ok.grows next.grows);
      as_long = next.as_long ∙ ok.as_long ∙ was.as_long;
      scanned = next.scanned;
      early = next.early (c.positions.position + 1) (ok.early (c.positions.position + 1) (λ z. omega arith) (early_weaker c.positions.position c.args.by.now.holders.now _ _ was.early));
      searched = searched_below_more (acceptance c.args.by.now) c.args.by.now.stays.now c.positions.position c.args.by.now.holders.now ms c.try_position.new.reached.members.items _ some ok.grows next.grows was.searched
          (ok.closed c.if-branch.false) (rw c.in_default.is at next.searched);
      layered = layers_more (acceptance c.args.by.now) c.args.by.now.stays.now c.args.by.now.holders.now after ls ls' c.positions.position long filled.grows new was.low
          (layers_grow (acceptance c.args.by.now) c.args.by.now.stays.now c.args.by.now.holders.now ms after ls (grows_trans ms c.try_position.new.reached.members.items after ok.grows next.grows) was.layered)
          (rw c.in_default.is at next.searched);
      low = layers_low ls ls' c.positions.position filled.grows (λ t a b. new t a (omega arith)) was.low;
      onward = omega arith;
      most = omega arith;
    }

pub returns-then-branch-clause-layered : goal.returns-then-branch-clause-layered
returns-then-branch-clause-layered c =
    layers_grow (acceptance c.args.by.now) c.args.by.now.stays.now c.args.by.now.holders.now c.positions.reached.members.items _ c.positions.layers.items c.in_ok-try_position.ensures.grows c.positions.invariant.layered

pub returns-in-Some-clause-layered : goal.returns-in-Some-clause-layered
returns-in-Some-clause-layered c =
    layers_grow (acceptance c.args.by.now) c.args.by.now.stays.now c.args.by.now.holders.now c.positions.reached.members.items _ c.positions.layers.items
    (grows_trans _ c.try_position.new.reached.members.items _ c.in_ok-try_position.ensures.grows c.in_ok-end.ensures.grows) c.positions.invariant.layered
