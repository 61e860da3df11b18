use Rattle.std.proofs.Common.{ℕ, List, sym, subst}
use Rattle.containers.specs.BoundedList.{entries}
use Rattle.trail_text.specs.TrailText.{IsTrail}
use Rattle.trail_text.proofs.Phases.{refused, stops_at_head, stops_at_source, stops_at_end, stops_after_end, reads_all, are_none, are_some}
use Rattle.trail_text.proofs.reading.read_short.Goals as goal

pub returns-in_default : goal.returns-in_default
returns-in_default c =
    refused c.args.text.now c.args.text.now c.not_trail.result c.requires c.not_trail.ensures
    (stops_at_head c.args.text.now c.in_default.ensures)

pub returns-in_default-read_source : goal.returns-in_default-read_source
returns-in_default-read_source c =
    let h = c.in-Some.head in
    refused c.args.text.now c.in-Some.at_source.now c.not_trail-in_default-read_source.result c.requires c.not_trail-in_default-read_source.ensures
    (stops_at_source h.k h.p h.arena h.steps h.deques c.in-Some.ensures.1 c.args.text.now c.in-Some.at_source.now c.in-Some.ensures.0
    c.in_default-read_source.ensures)

pub returns-in_default-read_end : goal.returns-in_default-read_end
returns-in_default-read_end c =
    let h = c.in-Some.head in
    refused c.args.text.now c.in_ok-events.at_end.now c.not_trail-in_default-read_end.result c.requires c.not_trail-in_default-read_end.ensures
    (stops_at_end h.k h.p h.arena h.steps h.deques c.in-Some.ensures.1 c.in-Some-read_source.source.now c.in-Some-read_source.ensures.1
    (entries c.in_ok-events.events) c.in_ok-events.ensures.fit
    c.args.text.now c.in-Some.at_source.now c.in-Some-read_source.at_events.now c.in_ok-events.at_end.now
    c.in-Some.ensures.0 c.in-Some-read_source.ensures.0 c.in_ok-events.ensures.spelled c.in_ok-events.ensures.all c.in_default-read_end.ensures)

pub returns-then-not-is_empty : goal.returns-then-not-is_empty
returns-then-not-is_empty c =
    let h = c.in-Some.head in
    refused c.args.text.now c.in-Some-read_end.after.now c.not_trail-then-not-is_empty.result c.requires c.not_trail-then-not-is_empty.ensures
    (stops_after_end h.k h.p h.arena h.steps h.deques c.in-Some.ensures.1 c.in-Some-read_source.source.now c.in-Some-read_source.ensures.1
    (entries c.in_ok-events.events) c.in_ok-events.ensures.fit
    c.in-Some-read_end.numbers c.in-Some-read_end.ensures.1
    c.args.text.now c.in-Some.at_source.now c.in-Some-read_source.at_events.now c.in_ok-events.at_end.now c.in-Some-read_end.after.now
    c.in-Some.ensures.0 c.in-Some-read_source.ensures.0 c.in_ok-events.ensures.spelled c.in-Some-read_end.ensures.0
    (are_some c.in-Some-read_end.after.now c.if-not-is_empty.ensures))

pub returns : goal.returns
returns c =
    let h = c.in-Some.head in
    subst
    (λ (bytes : List ℕ).
    IsTrail c.args.text.now (record {
      k = h.k;
      p = h.p;
      arena = h.arena;
      steps = h.steps;
      deques = h.deques;
      source = bytes;
      events = entries c.in_ok-events.events;
      numbers = c.in-Some-read_end.numbers;
    }))
    (sym c.in_ok-from_slice.ensures.items)
    (reads_all h.k h.p h.arena h.steps h.deques c.in-Some.ensures.1 c.in-Some-read_source.source.now c.in-Some-read_source.ensures.1
    (entries c.in_ok-events.events) c.in_ok-events.ensures.fit
    c.in-Some-read_end.numbers c.in-Some-read_end.ensures.1
    c.args.text.now c.in-Some.at_source.now c.in-Some-read_source.at_events.now c.in_ok-events.at_end.now c.in-Some-read_end.after.now
    c.in-Some.ensures.0 c.in-Some-read_source.ensures.0 c.in_ok-events.ensures.spelled c.in-Some-read_end.ensures.0
    (are_none c.in-Some-read_end.after.now c.if-not-is_empty.ensures) c.requires)
