use Rattle.std.proofs.Common.{◌≡◌, ◌+◌, ◌∙◌, sym, ap, subst}
use Rattle.hall_parts.specs.HallNames.{IsSame, with_delivered, IsOnlyNewest, IsAtPoint, children_of, done_of, forks_of, join_words_of, next_of}
use Rattle.hall_parts.specs.HallNames.{thread_words, ended_words, Thread}
use Rattle.thread_frames.specs.Passed.Joins.{released}
use Rattle.hall_parts.proofs.list_calls.deliver.Goals as goal

pub returns-clause-given : goal.returns-clause-given
returns-clause-given c =
    let seen = c.get_mut.ensures.value in
    record {
      same = subst (λ (x : Thread). IsSame x c.deliver.new.self) seen c.deliver.ensures.same;
      done = c.deliver.ensures.done ∙ ap done_of seen;
      forks = c.deliver.ensures.forks ∙ ap forks_of seen;
      children = c.deliver.ensures.children ∙ ap (λ (x : Thread). with_delivered c.args.ended.id (children_of x)) seen;
      next = c.deliver.ensures.next ∙ ap next_of seen;
      words = c.deliver.ensures.words ∙ ap (λ (x : Thread). thread_words x + ended_words c.args.ended) seen;
      point = λ t k at is. c.deliver.ensures.point t k (subst (λ (x : Thread). IsAtPoint t k x) (sym seen) at) is;
    }

pub returns-clause-releases : goal.returns-clause-releases
returns-clause-releases c =
    let seen = c.get_mut.ensures.value in
    subst (λ (x : Thread). IsOnlyNewest c.args.ended.id (children_of x) → join_words_of c.deliver.new.self ≡ released x.run.state c.args.ended.state) seen
    c.deliver.ensures.joins
