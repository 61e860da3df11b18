-- What contracts see of a `Quota`.
use Rattle.std.specs.Prelude.{ℕ}
use Rattle.depth_first_list.specs.declared.quota.Quota.{Quota}

-- its number of words
abbrev pub quota_words : Quota → ℕ
quota_words quota = quota.words
