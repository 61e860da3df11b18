use Rattle.std.proofs.Common.{◌↔◌, drop}
use Rattle.node_table.specs.Shown.{links_shown}
use Rattle.flat_expressions.specs.Codes.{HaveRoom}
use Rattle.flat_code.proofs.room.+has_room.Given as goal

abbrev pub invariant-have_room-loop-link : goal.invariant-have_room-loop-link
invariant-have_room-loop-link l =
    HaveRoom l.size (links_shown (drop l.link-index l.links)) l.free ↔ HaveRoom l.size (links_shown l.links) l.free
