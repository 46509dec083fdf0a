use Rattle.std.proofs.Common.{map}
use Rattle.std.specs.String.{string_bytes}
use Rattle.conf.proofs.FewWords.{names_command}
use Rattle.conf.proofs.reading.read_words.Goals as goal

pub unreachable-requires : goal.unreachable-requires
unreachable-requires c =
    names_command (map string_bytes c.args.words.now) c.in_default.ensures.none cc
