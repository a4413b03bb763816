use Rattle.std.proofs.Common.{◌≡◌, map, string_bytes, take}
use Rattle.cal_engine.proofs.shell.words_after_first.Given as goal

abbrev pub invariant-loop-word : goal.invariant-loop-word
invariant-loop-word l =
    map (λ word. word.now) l.given.items ≡ map string_bytes (take l.word-index l.after)
