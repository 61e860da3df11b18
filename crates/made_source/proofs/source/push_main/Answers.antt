use Rattle.std.specs.List.{range_with_len}
use Rattle.made_source.proofs.Growing.{main_written}
use Rattle.made_source.proofs.source.push_main.Goals as goal

pub returns : goal.returns
returns c =
    main_written _ _ _ _ (range_with_len 0 c.args.functions) c.in_ok-push_str.ensures.bytes c.in_ok-push_calls.ensures
    c.in_ok-push_str-2.ensures.bytes
