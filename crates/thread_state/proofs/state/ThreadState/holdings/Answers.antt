use Rattle.std.proofs.Common.{◌≡◌, ◌+◌, ◌∙◌, rules}
use Rattle.thread_state.specs.States.{words_held}
use Rattle.thread_state.proofs.Held.{holdings_are}
use Rattle.thread_state.proofs.state.ThreadState.holdings.Goals as goal

pub returns-clause-state : goal.returns-clause-state
returns-clause-state c = λ contexts s is.
    let row : c.held_words.result + c.words_of_rows.result ≡ words_held c.args.self.now = search rules in
    row ∙ holdings_are contexts c.args.self.now s is
