use Rattle.std.proofs.Common.{Bor, Option, Some, ◌≡◌, ◌+◌, ◌<◌, ◌≤◌, ◌∙◌, [], List, ℕ, length, map, drop, take, get_or, sum, arith, append-nil, ap, refl, sym}
use Rattle.std.proofs.Math.Seq.{take-length}
use Rattle.std.proofs.lemmas.List.{drop_all, length-map}
use Rattle.std.proofs.lemmas.Simd.{map-map}
use Rattle.haya_entry.specs.declared.entry.Entry.{Entry}
use Rattle.haya_entry.specs.Tree.{Tree, view}
use Rattle.haya_selectors.specs.Compiled.{name_of}
use Rattle.haya_selectors.specs.Evaluation.{pairs_view}
use Rattle.haya_selectors.specs.Tries.{all_found, found_rows}
use Rattle.haya_selectors.proofs.Pieces.{turn, moved, moved_length, kept_are}
use Rattle.haya_selectors.proofs.Stretches.{length-row_of, length-rows_of, row_fits, row_of}
use Rattle.haya_selectors.proofs.bindings.Bindings.keep.Goals as goal

pub members-init : goal.members-init
members-init c =
    let items = c.self.inside.pairs.items in
    let long : length c.args.self.now ≡ length items = ap length (sym c.self.view_is) ∙ length-map items _ in
    (omega arith, refl, omega (arith, long, c.requires.within), refl)

pub found_before-requires-clause-inside : goal.found_before-requires-clause-inside
found_before-requires-clause-inside c =
    let w = c.args.parents in
    let m = c.members.member in
    let founds = all_found c.args.tries.now in
    let row = row_of w m founds in
    let i = get_or c.args.places.now m 0 in
    let n = length c.args.places.now in
    let here : m < n = omega arith in
    let t = turn w n founds c.args.places.now m c.requires.count refl c.requires.inside here in
    let inv = c.members.invariant in
    let inside : i < w = c.requires.inside m 0 here in
    omega (arith, inside)

pub found_at-len-requires-clause-inside : goal.found_at-len-requires-clause-inside
found_at-len-requires-clause-inside c =
    let w = c.args.parents in
    let m = c.members.member in
    let founds = all_found c.args.tries.now in
    let row = row_of w m founds in
    let i = get_or c.args.places.now m 0 in
    let n = length c.args.places.now in
    let here : m < n = omega arith in
    let t = turn w n founds c.args.places.now m c.requires.count refl c.requires.inside here in
    let inv = c.members.invariant in
    let inside : i < w = c.requires.inside m 0 here in
    omega (arith, inside)

pub found_before-requires-clause-within : goal.found_before-requires-clause-within
found_before-requires-clause-within c =
    let w = c.args.parents in
    let m = c.members.member in
    let founds = all_found c.args.tries.now in
    let row = row_of w m founds in
    let i = get_or c.args.places.now m 0 in
    let n = length c.args.places.now in
    let here : m < n = omega arith in
    let t = turn w n founds c.args.places.now m c.requires.count refl c.requires.inside here in
    let inv = c.members.invariant in
    let fits = row_fits m n w here in
    omega (arith, fits, c.requires.count)

pub found_at-len-requires-clause-within : goal.found_at-len-requires-clause-within
found_at-len-requires-clause-within c =
    let w = c.args.parents in
    let m = c.members.member in
    let founds = all_found c.args.tries.now in
    let row = row_of w m founds in
    let i = get_or c.args.places.now m 0 in
    let n = length c.args.places.now in
    let here : m < n = omega arith in
    let t = turn w n founds c.args.places.now m c.requires.count refl c.requires.inside here in
    let inv = c.members.invariant in
    let fits = row_fits m n w here in
    omega (arith, fits, c.requires.count)

pub found_before-start-requires-clause-within : goal.found_before-start-requires-clause-within
found_before-start-requires-clause-within c =
    let w = c.args.parents in
    let m = c.members.member in
    let founds = all_found c.args.tries.now in
    let row = row_of w m founds in
    let i = get_or c.args.places.now m 0 in
    let n = length c.args.places.now in
    let here : m < n = omega arith in
    let t = turn w n founds c.args.places.now m c.requires.count refl c.requires.inside here in
    let inv = c.members.invariant in
    let fits = row_fits m n w here in
    omega (arith, fits, c.requires.count)

pub found_before-requires-clause-fits : goal.found_before-requires-clause-fits
found_before-requires-clause-fits c =
    let w = c.args.parents in
    let m = c.members.member in
    let founds = all_found c.args.tries.now in
    let row = row_of w m founds in
    let i = get_or c.args.places.now m 0 in
    let n = length c.args.places.now in
    let here : m < n = omega arith in
    let t = turn w n founds c.args.places.now m c.requires.count refl c.requires.inside here in
    let inv = c.members.invariant in
    omega (arith, t.sums, inv.1, inv.2, c.members.self-inside.pairs.ok)

pub found_before-start-requires-clause-fits : goal.found_before-start-requires-clause-fits
found_before-start-requires-clause-fits c =
    let w = c.args.parents in
    let m = c.members.member in
    let founds = all_found c.args.tries.now in
    let row = row_of w m founds in
    let i = get_or c.args.places.now m 0 in
    let n = length c.args.places.now in
    let here : m < n = omega arith in
    let t = turn w n founds c.args.places.now m c.requires.count refl c.requires.inside here in
    let inv = c.members.invariant in
    omega (arith, t.sums, inv.1, inv.2, c.members.self-inside.pairs.ok)

pub overflow_add-at : goal.overflow_add-at
overflow_add-at c =
    let w = c.args.parents in
    let m = c.members.member in
    let founds = all_found c.args.tries.now in
    let row = row_of w m founds in
    let i = get_or c.args.places.now m 0 in
    let n = length c.args.places.now in
    let here : m < n = omega arith in
    let t = turn w n founds c.args.places.now m c.requires.count refl c.requires.inside here in
    let inv = c.members.invariant in
    let at : c.found_before.result ≡ sum (take i row) = c.found_before.ensures in
    omega (arith, at, t.within, t.sums, inv.0, inv.1, inv.2, c.members.self-inside.pairs.ok)

pub overflow_add-at-in-members : goal.overflow_add-at-in-members
overflow_add-at-in-members c =
    let w = c.args.parents in
    let m = c.members.member in
    let founds = all_found c.args.tries.now in
    let row = row_of w m founds in
    let i = get_or c.args.places.now m 0 in
    let n = length c.args.places.now in
    let here : m < n = omega arith in
    let t = turn w n founds c.args.places.now m c.requires.count refl c.requires.inside here in
    let inv = c.members.invariant in
    let len : c.found_at-len.result ≡ get_or row i 0 = c.found_at-len.ensures in
    let at : c.found_before.result ≡ sum (take i row) = c.found_before.ensures in
    omega (arith, len, at, t.within, t.sums, inv.0, inv.1, inv.2, c.members.self-inside.pairs.ok)

pub copy_within-requires-clause-in_bounds : goal.copy_within-requires-clause-in_bounds
copy_within-requires-clause-in_bounds c =
    let w = c.args.parents in
    let m = c.members.member in
    let founds = all_found c.args.tries.now in
    let row = row_of w m founds in
    let i = get_or c.args.places.now m 0 in
    let n = length c.args.places.now in
    let here : m < n = omega arith in
    let t = turn w n founds c.args.places.now m c.requires.count refl c.requires.inside here in
    let inv = c.members.invariant in
    let len : c.found_at-len.result ≡ get_or row i 0 = c.found_at-len.ensures in
    let at : c.found_before.result ≡ sum (take i row) = c.found_before.ensures in
    omega (arith, len, at, t.within, t.sums, inv.0, inv.1, inv.2, c.members.self-inside.pairs.ok)

pub copy_within-requires-clause-dest_in_bounds : goal.copy_within-requires-clause-dest_in_bounds
copy_within-requires-clause-dest_in_bounds c =
    let w = c.args.parents in
    let m = c.members.member in
    let founds = all_found c.args.tries.now in
    let row = row_of w m founds in
    let i = get_or c.args.places.now m 0 in
    let n = length c.args.places.now in
    let here : m < n = omega arith in
    let t = turn w n founds c.args.places.now m c.requires.count refl c.requires.inside here in
    let inv = c.members.invariant in
    let len : c.found_at-len.result ≡ get_or row i 0 = c.found_at-len.ensures in
    let at : c.found_before.result ≡ sum (take i row) = c.found_before.ensures in
    omega (arith, len, at, t.within, t.sums, inv.0, inv.1, inv.2, c.members.self-inside.pairs.ok)

pub overflow_add-to : goal.overflow_add-to
overflow_add-to c =
    let w = c.args.parents in
    let m = c.members.member in
    let founds = all_found c.args.tries.now in
    let row = row_of w m founds in
    let i = get_or c.args.places.now m 0 in
    let n = length c.args.places.now in
    let here : m < n = omega arith in
    let t = turn w n founds c.args.places.now m c.requires.count refl c.requires.inside here in
    let inv = c.members.invariant in
    let len : c.found_at-len.result ≡ get_or row i 0 = c.found_at-len.ensures in
    let at : c.found_before.result ≡ sum (take i row) = c.found_before.ensures in
    omega (arith, len, at, t.within, t.sums, inv.0, inv.1, inv.2, c.members.self-inside.pairs.ok)

pub overflow_add-start : goal.overflow_add-start
overflow_add-start c =
    let w = c.args.parents in
    let m = c.members.member in
    let founds = all_found c.args.tries.now in
    let row = row_of w m founds in
    let i = get_or c.args.places.now m 0 in
    let n = length c.args.places.now in
    let here : m < n = omega arith in
    let t = turn w n founds c.args.places.now m c.requires.count refl c.requires.inside here in
    let inv = c.members.invariant in
    let long : length row ≡ w = length-row_of w n m founds here c.requires.count in
    let whole : take w row ≡ row = ap (λ k. take k row) (sym long) ∙ take-length row in
    let all : c.found_before-start.result ≡ sum row = c.found_before-start.ensures ∙ ap sum whole in
    omega (arith, all, t.sums, inv.1, inv.2, c.members.self-inside.pairs.ok)

pub members-preserved : goal.members-preserved
members-preserved c =
    let w = c.args.parents in
    let m = c.members.member in
    let founds = all_found c.args.tries.now in
    let row = row_of w m founds in
    let i = get_or c.args.places.now m 0 in
    let n = length c.args.places.now in
    let here : m < n = omega arith in
    let t = turn w n founds c.args.places.now m c.requires.count refl c.requires.inside here in
    let inv = c.members.invariant in
    let len : c.found_at-len.result ≡ get_or row i 0 = c.found_at-len.ensures in
    let at : c.found_before.result ≡ sum (take i row) = c.found_before.ensures in
    let long : length row ≡ w = length-row_of w n m founds here c.requires.count in
    let whole : take w row ≡ row = ap (λ k. take k row) (sym long) ∙ take-length row in
    let all : c.found_before-start.result ≡ sum row = c.found_before-start.ensures ∙ ap sum whole in
    let rows = found_rows w n c.args.tries.now in
    let items = c.members.self-inside.pairs.items in
    let news = c.copy_within.new.self.items in
    let to = c.members.to in
    let start = c.members.start in
    let fits : start + sum row ≤ length items = omega (arith, t.sums, inv.1, inv.2) in
    let copied = rw (at, len) at c.copy_within.ensures.items in
    let moved_down = moved items news to start i row inv.0 t.within fits copied (drop (m + 1) rows) (drop (m + 1) c.args.places.now) in
    let l = moved_length items news to start i row inv.0 t.within fits copied in
    let kept = rw (t.row_left, t.place_left) at inv.3 in
    rw (len, all) (
      omega (arith, inv.0, t.within),
      l ∙ inv.1,
      omega (arith, t.sums, inv.2),
      moved_down ∙ kept,
    )

pub returns : goal.returns
returns c = λ names front pieces l r e.
    let rows = found_rows c.args.parents (length c.args.places.now) c.args.tries.now in
    let items = c.self.inside.pairs.items in
    let value : ℕ × Bor Entry → List ℕ × Option Tree = λ p. (name_of names p.0, Some (view p.1.now)) in
    let none_left : drop c.members.member rows ≡ [] = drop_all c.members.member rows (omega (arith, length-rows_of c.args.parents (length c.args.places.now) (all_found c.args.tries.now))) in
    let kept = rw none_left at c.members.invariant.3 in
    let left = c.truncate.ensures.items ∙ sym (append-nil _) ∙ kept in
    let olds = sym (map-map _ _ items) ∙ ap (pairs_view names) c.self.view_is ∙ e in
    map-map _ _ c.truncate.new.self.items ∙ ap (map value) left ∙ kept_are value items front pieces rows c.args.places.now c.args.before l r olds
