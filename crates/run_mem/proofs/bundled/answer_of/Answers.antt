use Rattle.std.proofs.Common.{◌≢◌, ◌∙◌, Some, None, map, ap, sym}
use Rattle.std.specs.String.{string_bytes}
use Rattle.child.specs.Words.{rule_of}
use Rattle.run_mem.proofs.BundledLemmas.{given_is}
use Rattle.run_mem.proofs.bundled.answer_of.Goals as goal

pub returns-in-Ok : goal.returns-in-Ok
returns-in-Ok c =
    let rule = rule_of (map string_bytes c.args.words.now) in
    let some : rule ≢ None = λ none. let same = sym c.in-Ok.is ∙ c.run_child.ensures.usage.1 none in cc in
    c.in_ok-from_slice-in-Ok.ensures.items ∙ c.written.ensures ∙ given_is rule c.args.input.now c.run_child.new.sink.bytes _ _ _ (ap (λ s. Some s.left) c.new-source.ensures ∙ ap Some c.in_ok-input.ensures.items) (ap (λ s. Some s.bytes) c.new-sink.ensures) some (c.run_child.ensures.done c.in-Ok.is)
