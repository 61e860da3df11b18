use Rattle.std.proofs.Common.{◌++◌, ◌∙◌, List, ℕ, ap, Vec}
use Rattle.std.specs.declared.alloc.Global.{Global}
use Rattle.trail_meaning.specs.Shown.{shown_by_trail}
use Rattle.trail_text.proofs.Joined.{written}
use Rattle.trail_text.proofs.writing.trail_text.Goals as goal

pub returns : goal.returns
returns c =
    written (shown_by_trail c.args.t.now) c.into_bytes-text.result.items c.extend_from_slice.new.self.items _ c.as_bytes.result.now
    (ap (λ (v : Vec ℕ Global). v.items) c.into_bytes-text.ensures.value ∙ c.in_ok-text_before.ensures)
    (c.in_ok-extend_from_slice.ensures.items ∙ ap (λ (s : List ℕ). c.into_bytes-text.result.items ++ s) c.as_slice.ensures.value)
    c.in_ok-extend_from_slice-2.ensures.items
    (c.as_bytes.ensures.value ∙ c.in_ok-after.ensures)
