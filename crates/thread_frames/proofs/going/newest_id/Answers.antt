use Rattle.std.proofs.Common.{◌-◌, length, ◌∙◌, ap}
use Rattle.std.specs.Prelude.{slice_get}
use Rattle.thread_frames.specs.Views.{id_of}
use Rattle.thread_frames.proofs.Newest.{newest_last}
use Rattle.thread_frames.proofs.going.newest_id.Goals as goal

pub returns-in-Some : goal.returns-in-Some
returns-in-Some c =
    ap id_of (c.in-Some.ensures.value ∙ ap (λ xs. slice_get xs (length xs - 1)) c.deref.ensures.value ∙ newest_last c.args.children.now.items)

pub returns-in-None : goal.returns-in-None
returns-in-None c =
    ap id_of (c.in-None.ensures.value ∙ ap (λ xs. slice_get xs (length xs - 1)) c.deref.ensures.value ∙ newest_last c.args.children.now.items)
