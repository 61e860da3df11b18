use Rattle.std.proofs.Common.{◌≡◌, ◌+◌, ◌<◌, ◌≤◌, length, sym, ap, ◌∙◌, subst, arith}
use Rattle.par_names.specs.Named.{body_of}
use Rattle.node_table.specs.Programs.{is_named_in}
use Rattle.frame_code.proofs.Picking.{Picks, picks_one, picks_none, picks_end}
use Rattle.frame_code.proofs.branches.named_slots.Goals as goal
use Rattle.frame_code.proofs.branches.named_slots.Goals.{then-names+in_ok-push, else-names}

pub returns : goal.returns
returns c =
    let all = c.args.names.now.names in
    let len = all.ok.0 in
    let all_read : length all.items ≤ c.loop-i.i = let test = c.loop-i-test.false in let count = c.len-i-end.ensures in omega (arith, test, count, len) in
    picks_end all.items (is_named_in (body_of c.args.body.now)) c.loop-i.found.items c.loop-i.i all_read c.loop-i.invariant

pub loop-i-preserved : goal.loop-i-preserved
loop-i-preserved c =
    let all = c.args.names.now.names in
    let i = c.loop-i.i in
    let x = c.index.result.now in
    let test = is_named_in (body_of c.args.body.now) in
    let len = all.ok.0 in
    let lt : i < length all.items = let below = c.loop-i-test.true in let count = c.len-i-end.ensures in omega (arith, below, count, len) in
    let asked : c.names.result ≡ test x.bytes.items = c.names.ensures ∙ ap test c.deref.ensures.value in
    elim c.if-names.branch [
      | then-names+in_ok-push w ↦
          picks_one all.items test c.loop-i.found.items c.if-names.found.items i x lt c.index.ensures (sym asked ∙ w.if-names.true) (ap (λ v. v.items) w.found-is ∙ w.in_ok-push.ensures.items) c.loop-i.invariant
      | else-names w ↦
          subst (λ found. Picks all.items test found (i + 1)) (sym (ap (λ v. v.items) w.found-is)) (picks_none all.items test c.loop-i.found.items i x lt c.index.ensures (sym asked ∙ w.if-names.false) c.loop-i.invariant)
    ]
