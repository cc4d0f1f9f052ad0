use Rattle.std.proofs.Common.{◌<◌, length, arith}
use Rattle.haya_assignment.proofs.Placing.{length-flags}
use Rattle.haya_assignment.proofs.Reaching.{accepts_within}
use Rattle.haya_assignment.proofs.place.seek.Goals as goal

pub holders_of-requires : goal.holders_of-requires
holders_of-requires c = record { within = λ u h ne. accepts_within c.args.table.now c.args.parents u _ c.requires.width (c.requires.placed.accepted u h ne) }

pub search-requires-clause-fits : goal.search-requires-clause-fits
search-requires-clause-fits c = record {
  width = c.requires.width;
  rows = omega (arith, c.requires.flags);
  as_many = rw c.deref.ensures.value c.in_ok-holders.ensures.as_many;
  held = rw c.deref.ensures.value (λ j u e. let w = c.in_ok-holders.ensures.held j u e in let l : u < length c.args.positions.now = w.0 in omega (arith, c.requires.flags));
  likes = c.requires.likes;
  alike = c.requires.alike;
}

pub returns-clause-as_long : goal.returns-clause-as_long
returns-clause-as_long c = length-flags (length c.args.positions.now) c.args.member c.in_ok-reached.reached.seen.items _ c.in_ok-reached.ensures.seen c.in_ok-end.ensures.as_long

pub returns-clause-first : goal.returns-clause-first
returns-clause-first c = rw c.in_ok-reached.ensures.members at c.in_ok-end.ensures.grows

pub returns-clause-reaches : goal.returns-clause-reaches
returns-clause-reaches c = rw c.deref.ensures.value at c.in_ok-end.ensures.reaches

pub returns-clause-found : goal.returns-clause-found
returns-clause-found c = rw c.deref.ensures.value at c.in_ok-end.ensures.found

pub returns-clause-searched : goal.returns-clause-searched
returns-clause-searched c = rw c.deref.ensures.value at c.in_ok-end.ensures.searched

pub returns-clause-layered : goal.returns-clause-layered
returns-clause-layered c = rw c.deref.ensures.value at c.in_ok-end.ensures.layered
