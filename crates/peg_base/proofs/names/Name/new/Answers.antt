use Rattle.std.proofs.Common.{IsUtf8, rules}
use Rattle.peg_base.proofs.NameLemmas.{IsUtf8-from_name}
use Rattle.peg_base.proofs.names.Name.new.Goals as goal

pub unwrap-requires : goal.unwrap-requires
unwrap-requires c =
    let text : IsUtf8 c.args.bytes.now = IsUtf8-from_name _ (search rules) in search rules
