use Rattle.depth_first_list.specs.QuotaWords.{quota_words}
use Rattle.node_table.specs.Codes.{code_shown}
use Rattle.hall_threads.proofs.Left.{root_label, root_result, tells_its_report}
use Rattle.hall_threads.proofs.telling.finish_told.Goals as goal

pub returns : goal.returns
returns c core left s of =
    let finish = c.args.finish in let is = c.requires.finished in let ended = c.in-Some.ended in let there = c.in-Some.is in let told = c.in_ok-report.ensures in
    tells_its_report core c.args.closing.now left finish is ended there s of c.in_ok-report.report
    (told.lines (code_shown core.code) (quota_words core.k) (root_result core c.args.closing.now left finish is ended there s of)
    (root_label core c.args.closing.now left finish is ended there s of) s of) told.finish told.periods told.ahead told.high
