use Rattle.thread_state.proofs.state.ThreadState.resume.Goals as goal

pub returns-clause-row : goal.returns-clause-row
returns-clause-row c names callee_names own theirs qs values shows shows_theirs are args =
    (c.lend_back.ensures names callee_names own theirs qs values shows shows_theirs are args).0
